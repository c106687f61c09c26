-- Two ends that are of the same rings stay so, and links stay as they are over several moves.
use Rattle.std.proofs.Common.{◌≡◌, ℕ, ◌<◌, length, slice_index_or, slice_set, subst, sym, ap, ◌∙◌, arith, get_or-set_same}
use Rattle.rtrb.specs.Ends.{SameRing}
use Rattle.rtrb.specs.declared.end.End.{End}
use Rattle.ring_links.specs.declared.link.Link.{Link}
use Rattle.ring_links.specs.Links.{AreLinked, SameLink, Stays, InOrder}
use Rattle.ring_links.specs.Ends.{Ends, place_of}

module _ {T A P : Type 0} where
  pair_on : (p c p' c' : End T A P) → SameRing p c → SameRing p p' → SameRing c c' → SameRing p' c'
  pair_on p c p' c' h l k = (k.0 ∙ (h.0 ∙ sym l.0), k.1 ∙ (h.1 ∙ sym l.1), k.2 ∙ (h.2 ∙ sym l.2), k.3 ∙ (h.3 ∙ sym l.3))

  ring_on : (a b c : End T A P) → SameRing a b → SameRing b c → SameRing a c
  ring_on a b c h k = (k.0 ∙ h.0, k.1 ∙ h.1, k.2 ∙ h.2, k.3 ∙ h.3)

-- two sides of the same rings, each as it is later
pub linked_on : (a b a' b' : Link) → AreLinked a b → SameLink a a' → SameLink b b' → AreLinked a' b'
linked_on a b a' b' h l k =
    (pair_on a.to.end b.from.end a'.to.end b'.from.end h.0 l.0.0 k.1.0, pair_on b.to.end a.from.end b'.to.end a'.from.end h.1 k.0.0 l.1.0)

pub same_on : (a b c : Link) → SameLink a b → SameLink b c → SameLink a c
same_on a b c h k =
    ((ring_on a.to.end b.to.end c.to.end h.0.0 k.0.0, k.0.1 ∙ h.0.1), (ring_on a.from.end b.from.end c.from.end h.1.0 k.1.0, k.1.1 ∙ h.1.1))

pub stays_on : (a b c : Link) → Stays a b → Stays b c → Stays a c
stays_on a b c h k = (same_on a b c h.0 k.0, k.1 ∙ h.1, k.2 ∙ h.2, k.3 ∙ h.3, k.4 ∙ h.4, k.5 ∙ h.5, omega (arith, h.6, k.6))

-- the link that a node wrote at the place of its link to another, where both nodes are seen as two ends
pub written : (v e w f : Ends) (place : ℕ) (y d : Link) → v ≡ e → w ≡ f → place ≡ place_of v.node w.node → place_of e.node f.node < length e.links
    → slice_index_or (slice_set v.links place y) (place_of v.node f.node) d ≡ y
written v e w f place y d ve wf at lt =
    let to : place ≡ place_of v.node f.node = at ∙ ap (λ (z : Ends). place_of v.node z.node) wf in
    let there : place_of v.node f.node < length v.links = subst (λ (z : Ends). place_of z.node f.node < length z.links) (sym ve) lt in
    let within : place < length v.links = subst (λ (k : ℕ). k < length v.links) (sym to) there in
    subst (λ (k : ℕ). slice_index_or (slice_set v.links place y) k d ≡ y) to (get_or-set_same v.links place y d within)

pub order_at : (a b a' b' : Link) → a' ≡ a → b' ≡ b → InOrder a b → InOrder a' b'
order_at a b a' b' ea eb h = subst (λ (z : Link). InOrder z b') (sym ea) (subst (λ (z : Link). InOrder a z) (sym eb) h)
