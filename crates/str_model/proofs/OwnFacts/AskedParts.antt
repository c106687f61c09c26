-- Which partitions a transaction has asked, by its phase, at each change.
use Rattle.std.proofs.Common.{Bool, List, None, Option, Some, [], ap, eq-eqb, false, find, if◌then◌else◌, inl, inr, is_some, map, not, option_map, refl, subst, sym, true, ℕ, ◌&&◌, ◌||◌, ◌∙◌, ◌∷◌, ◌≡◌, ◌⊎◌}
use Rattle.partition_map.specs.declared.rows.Asked.{Asked}
use Rattle.str_base.specs.declared.names.NodeId.{NodeId}
use Rattle.str_base.specs.declared.names.PartId.{PartId}
use Rattle.str_base.specs.declared.names.Write.{Write}
use Rattle.dependency_set.specs.declared.names.Dep.{Dep}
use Rattle.str_model.specs.declared.messages.Input.{Input}
use Rattle.dependency_set.specs.Snapshots.{Snap}
use Rattle.str_base.specs.Versions.{same_node, same_part, stamp}
use Rattle.str_model.specs.Acts.{with_asked}
use Rattle.str_model.specs.Gates.{Ask, DepParts, gate_turn, may_ask}
use Rattle.str_model.specs.Gates
use Rattle.str_model.specs.NodeFacts.{AllOwn, AskedFacts}
use Rattle.str_scene.specs.Scenes.{Here, Scene, others, participants, replicas, unasked, written_parts}
use Rattle.str_model.specs.Returns.{with_ack}
use Rattle.str_model.specs.Views.{Doing, Global, Local, Own, lc_of}
use Rattle.str_model.proofs.Principle.SingleChanges.{Act, Where}
use Rattle.str_model.proofs.OwnFacts.EachOwn.{OwnKept, each_own-act}
use Rattle.str_model.proofs.Changes.OwnGoesOn.{PutsOn, puts_on}
use Rattle.std.proofs.lemmas.Bool.{or_left, or_right}
use Rattle.str_base.proofs.Tests.{and_true_left, and_true_right}
use Rattle.str_base.proofs.Members.{in_flat_map, in_map, map_in}
use Rattle.str_base.specs.Members.{In}

-- ---- a gate that asks

pub find_some : {A : Type 0} (p : A → Bool) (xs : List A) (x : A) → find p xs ≡ Some x → In x xs
find_some p [] x e = absurd (cc e)
find_some {A = A} p (y ∷ ys) x e = by_test (p y) (find_some p ys x) e
  where
    by_test : (b : Bool) → (find p ys ≡ Some x → In x ys) → (if b then Some y else find p ys) ≡ Some x → In x (y ∷ ys)
    by_test true rec q = inl (cc q)
    by_test false rec q = inr (rec q)

-- the partition that is asked is one of the participants'
pub gate_ask : (snap : Snap) (lc : ℕ) (parts : List Asked) (wrote : List DepParts) (p : PartId) → gate_turn snap lc parts wrote ≡ Ask p → (a : Asked) × In a parts × (a.part ≡ p)
unfolding gate_turn
gate_ask snap lc parts wrote p e = by_ask (find (may_ask wrote) parts) refl e
  where
    by_missing : (o : Option Asked) → Gates.gate_acks lc parts o ≡ Ask p → ⊥
    by_missing None q = cc q
    by_missing (Some a) q = cc q

    by_deps : (ds : List Dep) → Gates.gate_deps lc parts ds ≡ Ask p → ⊥
    by_deps [] q = by_missing (find (λ a. not (is_some a.ack)) parts) q
    by_deps (d ∷ ds) q = cc q

    by_ask : (o : Option Asked) → find (may_ask wrote) parts ≡ o → Gates.gate_asks snap lc parts o ≡ Ask p → (a : Asked) × In a parts × (a.part ≡ p)
    by_ask (Some a) f q = (a, find_some (may_ask wrote) parts a f, cc q)
    by_ask None f q = absurd (by_deps snap.deps q)

-- ---- participants

self_part : (p : PartId) → same_part p p ≡ true
self_part p = eq-eqb p.0 p.0 refl

-- one whose partition is asked was there, and is asked where it was
asked_kept : (p : PartId) (parts : List Asked) (b : Asked) → In b (with_asked p parts) → (a : Asked) × In a parts × (b.ack ≡ a.ack) × (a.asked ≡ true → b.asked ≡ true)
asked_kept p parts b h =
    let r = in_map {A = Asked} {B = Asked} (λ (a : Asked). record a { asked = a.asked || same_part a.part p }) parts b h in
    (r.0, r.1, ap (λ (z : Asked). z.ack) (sym r.2), λ q. ap (λ (z : Asked). z.asked) (sym r.2) ∙ or_left r.0.asked (same_part r.0.part p) q)

-- one of the partition is asked now
asked_now_ : (p : PartId) (parts : List Asked) (a : Asked) → In a parts → a.part ≡ p → (b : Asked) × In b (with_asked p parts) × (b.asked ≡ true)
asked_now_ p parts a h e =
    let b : Asked = record a { asked = a.asked || same_part a.part p } in
    (b, map_in {A = Asked} {B = Asked} (λ (a : Asked). record a { asked = a.asked || same_part a.part p }) parts a h, or_right a.asked (same_part a.part p) (ap (λ q. same_part q p) e ∙ self_part p))

-- each participant is one that was there, or is asked; and one is asked
record AckedAsked (old new : List Asked) : Type 0 where
  each : (b : Asked) → In b new → In b old ⊎ (b.asked ≡ true)
  one : (b : Asked) × In b new × (b.asked ≡ true)

acked_asked : (old : List Asked) (p : PartId) (from : NodeId) (ts : ℕ) (new : List Asked) → with_ack old p from ts ≡ Some new → AckedAsked old new
acked_asked [] p from ts new e = absurd (cc e)
acked_asked (a ∷ old) p from ts new e0 = by_test (same_part a.part p && (same_node a.node from && (a.asked && not (is_some a.ack)))) refl (acked_asked old p from ts) e0
  where
    later_ : (o : Option (List Asked)) → ((bs : List Asked) → o ≡ Some bs → AckedAsked old bs) → option_map (λ bs. a ∷ bs) o ≡ Some new → AckedAsked (a ∷ old) new
    later_ None rec e = absurd (cc e)
    later_ (Some bs) rec e =
        let is : a ∷ bs ≡ new = cc e in
        let r = rec bs refl in
        subst (AckedAsked (a ∷ old)) is (record {
          each = λ b h. elim h [ inl q ↦ inl (inl q) | inr k ↦ (elim (r.each b k) [ inl j ↦ inl (inr j) | inr j ↦ inr j ]) ];
          one = (r.one.0, inr r.one.1, r.one.2);
        })

    by_test : (b : Bool) → (same_part a.part p && (same_node a.node from && (a.asked && not (is_some a.ack)))) ≡ b → ((new : List Asked) → with_ack old p from ts ≡ Some new → AckedAsked old new)
        → (if b then Some (record a { ack = Some (stamp ts) } ∷ old) else option_map (λ bs. a ∷ bs) (with_ack old p from ts)) ≡ Some new → AckedAsked (a ∷ old) new
    by_test true t rec e =
        let is : record a { ack = Some (stamp ts) } ∷ old ≡ new = cc e in
        let one : a.asked ≡ true =
        and_true_left a.asked (not (is_some a.ack)) (and_true_right (same_node a.node from) (a.asked && not (is_some a.ack)) (and_true_right (same_part a.part p) (same_node a.node from && (a.asked && not (is_some a.ack))) t)) in
        subst (AckedAsked (a ∷ old)) is (record {
          each = λ b h. elim h [ inl q ↦ inr (ap (λ (z : Asked). z.asked) (sym q) ∙ one) | inr k ↦ inl (inr k) ];
          one = (record a { ack = Some (stamp ts) }, inl refl, one);
        })
    by_test false t rec e = later_ (with_ack old p from ts) rec e

-- a participant of a new certification is not asked
pub unasked_one : (scene : Scene) (n : NodeId) (ws : List Write) (a : Asked) → In a (participants scene n ws) → (a.asked ≡ false) × (a.ack ≡ None)
unasked_one scene n ws a h =
    let r = in_flat_map (λ (p : PartId). map (unasked p) (others n (replicas scene p))) (written_parts scene ws) a h in
    let m = in_map (unasked r.0) (others n (replicas scene r.0)) a r.2 in (ap (λ (z : Asked). z.asked) (sym m.2), ap (λ (z : Asked). z.ack) (sym m.2))

-- ---- each change

module _ (here : Here) where
  -- no phase of one that asks
  still_asked : (x y : Own) → y.parts ≡ x.parts → ((lc : ℕ) → y.phase ≡ Local lc → ⊥) → ((lc : ℕ) → y.phase ≡ Global lc → ⊥) → AskedFacts x → AskedFacts y
  still_asked x y p l g h = record { local = λ lc e. absurd (l lc e); global = λ lc e. absurd (g lc e); answered = λ a j s. h.answered a (subst (In a) p j) s }

  goes_asked : (v : _) (x y : Own) → PutsOn v x y → AskedFacts x → AskedFacts y
  goes_asked v x y p h = record {
    local = λ lc e a j. (let k = p.kept lc (sym p.goes.same_lc ∙ ap lc_of e) in h.local lc (sym k.1 ∙ e) a (subst (In a) p.same_parts j));
    global = λ lc e. (let k = p.kept lc (sym p.goes.same_lc ∙ ap lc_of e) in let r = h.global lc (sym k.1 ∙ e) in (r.0, subst (In r.0) (sym p.same_parts) r.1, r.2));
    answered = λ a j s. h.answered a (subst (In a) p.same_parts j) s;
  }

  pub asked-act : (input : Input) (w : Where) (d e : Doing) → Act here input w d e → AllOwn AskedFacts d.view → AllOwn AskedFacts e.view
  asked-act input w d e act = each_own-act here input AskedFacts w d e kept act
    where
      kept : OwnKept here input d AskedFacts
      kept = record {
        begins = λ place rs. record { local = λ lc q a j. absurd j; global = λ lc q. absurd (cc q); answered = λ a j s. absurd j };
        goes = λ i x y own g h. goes_asked d.view x y (puts_on here input d i x y g) h;
        certifies = λ i lc snap x own a n c h. record {
          local = λ m q b j. (unasked_one here.scene here.node x.writes b j).0;
          global = λ m q. absurd (cc q);
          answered = λ b j s. absurd (cc (ap is_some (unasked_one here.scene here.node x.writes b j).1, s));
        };
        asks = λ i lc p x own f l g h. record {
          local = λ m q. absurd (cc q);
          global = λ m q. (let r = gate_ask x.snap lc x.parts _ p g in asked_now_ p x.parts r.0 r.1 r.2);
          answered = λ b j s. (let r = asked_kept p x.parts b j in r.3 (h.answered r.0 r.1 (ap is_some (sym r.2) ∙ s)));
        };
        acks = λ i lc from tx p ts parts x own c q g h. (let r = acked_asked x.parts p from ts.0 parts g.parts_are in
            record {
              local = λ m z. absurd (cc (sym q ∙ z));
              global = λ m z. r.one;
              answered = λ b j s. elim (r.each b j) [ inl k ↦ h.answered b k s | inr k ↦ k ];
            });
        aborts = λ cause x f h. still_asked x _ refl (λ lc q. cc q) (λ lc q. cc q) h;
        commits = λ i lc fc x own f l n g h. still_asked x _ refl (λ lc q. cc q) (λ lc q. cc q) h;
        closes = λ x p n h. still_asked x _ refl (λ lc q. cc q) (λ lc q. cc q) h;
      }
