-- The names of own transactions: each is the node and one more than the place.
use Rattle.std.proofs.Common.{List, Some, [], ap, arith, get_or, length, map, option_map, refl, slice_get, slice_set, subst, suc, sym, zero, ℕ, ◌++◌, ◌+◌, ◌<◌, ◌∙◌, ◌∷◌, ◌≡◌}
use Rattle.std.proofs.lemmas.List.{map-set}
use Rattle.std.proofs.lemmas.Option.{slice_get-map, slice_get_read}
use Rattle.str_base.specs.declared.names.NodeId.{NodeId}
use Rattle.str_base.specs.Versions.{stamp}
use Rattle.str_model.specs.declared.messages.Answer.{Answer}
use Rattle.str_model.specs.declared.messages.Outcome.{Outcome}
use Rattle.str_model.specs.Views.{Own}
use Rattle.node_parts.specs.Owning.{AreNumbered, Named}

-- the transactions without their names
abbrev pub owns : List Named → List Own
owns names = map (λ (x : Named). x.own) names

-- one that stands there with its name stands there without it
pub owns_at : (names : List Named) (i : ℕ) (x : Named) → slice_get names i ≡ Some x → slice_get (owns names) i ≡ Some x.own
owns_at names i x e = slice_get-map (λ (x : Named). x.own) names i ∙ ap (option_map (λ (x : Named). x.own)) e

-- the name of the one at a place
pub number_at : (node : NodeId) (n : ℕ) (names : List Named) (i : ℕ) (x : Named) → AreNumbered node n names → slice_get names i ≡ Some x
    → x.tx ≡ record { node = node; seq = n + i + 1 }
number_at node n [] i x h e = absurd (cc e)
number_at node n (y ∷ names) zero x h e =
    let is : y ≡ x = cc e in
    subst (λ (z : Named). z.tx ≡ record { node = node; seq = n + 0 + 1 }) is (h.0 ∙ ap (λ (q : ℕ). record { node = node; seq = q }) (omega arith))
number_at node n (y ∷ names) (suc i) x h e =
    number_at node (n + 1) names i x h.1 e ∙ ap (λ (q : ℕ). record { node = node; seq = q }) (omega arith)

-- another one with the same name
pub numbered_set : (node : NodeId) (n : ℕ) (names : List Named) (i : ℕ) (x y : Named) → AreNumbered node n names → slice_get names i ≡ Some x
    → y.tx ≡ x.tx → AreNumbered node n (slice_set names i y)
numbered_set node n [] i x y h e t = tt
numbered_set node n (z ∷ names) zero x y h e t =
    let is : z ≡ x = cc e in
    (t ∙ (ap (λ (z : Named). z.tx) (sym is) ∙ h.0), h.1)
numbered_set node n (z ∷ names) (suc i) x y h e t = (h.0, numbered_set node (n + 1) names i x y h.1 e t)

-- one more with the next name
pub numbered_push : (node : NodeId) (n : ℕ) (names : List Named) (y : Named) → AreNumbered node n names
    → y.tx ≡ record { node = node; seq = n + length names + 1 } → AreNumbered node n (names ++ y ∷ [])
numbered_push node n [] y h t = (t ∙ ap (λ (q : ℕ). record { node = node; seq = q }) (omega arith), tt)
numbered_push node n (z ∷ names) y h t = (h.0, numbered_push node (n + 1) names y h.1 (t ∙ ap (λ (q : ℕ). record { node = node; seq = q }) (omega arith)))

-- ---- one that was lent

-- what was lent of a place stands there
pub at_place : (names : List Named) (i : ℕ) (x : Named) → i < length names → x ≡ get_or names i x → slice_get names i ≡ Some x
at_place names i x h e = slice_get_read names (length names) i x refl h e

-- where one stands without its name, the place is there
pub place_there : (names : List Named) (i : ℕ) (x : Own) → slice_get (owns names) i ≡ Some x → i < length names
place_there [] i x e = absurd (cc e)
place_there (y ∷ names) zero x e = omega arith
place_there (y ∷ names) (suc i) x e = let h = place_there names i x e in omega (arith, h)

-- what was lent of a place, where one stands without its name
pub record Lent (names : List Named) (i : ℕ) (old : Named) (x : Own) : Type 0 where
  pub place : i < length names
  pub stands : slice_get names i ≡ Some old
  pub own : old.own ≡ x

pub lent : (names : List Named) (i : ℕ) (old : Named) (own : List Own) (x : Own) → owns names ≡ own → slice_get own i ≡ Some x → old ≡ get_or names i old → Lent names i old x
lent names i old own x a e v =
    let f : slice_get (owns names) i ≡ Some x = ap (λ l. slice_get l i) a ∙ e in
    let h = place_there names i x f in
    let g = at_place names i old h v in
    record { place = h; stands = g; own = (let q : Some old.own ≡ Some x = sym (owns_at names i old g) ∙ f in cc q) }

-- another one there
pub owns_set : (names : List Named) (i : ℕ) (y : Named) (own : List Own) (x : Own) → owns names ≡ own → y.own ≡ x → owns (slice_set names i y) ≡ slice_set own i x
owns_set names i y own x a e = map-set (λ (z : Named). z.own) names i y ∙ (ap (λ l. slice_set l i y.own) a ∙ ap (λ z. slice_set own i z) e)

-- the name of the one at a place of the whole list
pub number_is : (node : NodeId) (names : List Named) (i : ℕ) (x : Named) → AreNumbered node 0 names → slice_get names i ≡ Some x → x.tx ≡ record { node = node; seq = i + 1 }
number_is node names i x h e = number_at node 0 names i x h e ∙ ap (λ (q : ℕ). record { node = node; seq = q }) (omega arith)

-- the answer of one that was lent
pub answer_is : (r : Answer) (node here : NodeId) (i : ℕ) (old : Named) (x : Own) (outcome : Own → Outcome)
    → r ≡ record { tx = old.tx; place = old.own.place; rs = stamp old.own.snap.rs; outcome = outcome old.own } → old.tx ≡ record { node = node; seq = i + 1 }
    → node ≡ here → old.own ≡ x
    → r ≡ record { tx = record { node = here; seq = i + 1 }; place = x.place; rs = stamp x.snap.rs; outcome = outcome x }
answer_is r node here i old x outcome e t n is =
    let q : old.tx ≡ record { node = here; seq = i + 1 } = t ∙ ap (λ (m : NodeId). record { node = m; seq = i + 1 }) n in
    e ∙ (λ j. record { tx = q j; place = (is j).place; rs = stamp (is j).snap.rs; outcome = outcome (is j) })
