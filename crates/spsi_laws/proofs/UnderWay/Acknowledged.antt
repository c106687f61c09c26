-- A participant whose Ack has come stays answered.
use Rattle.std.proofs.Common.{Bool, List, None, Option, Some, [], ap, eq-eqb, eqb-true, false, inl, inr, is_some, not, option_map, refl, subst, sym, true, ℕ, ◌&&◌, ◌||◌, ◌∙◌, ◌∷◌, ◌≡◌, ◌⊎◌}
use Rattle.partition_map.specs.declared.rows.Asked.{Asked}
use Rattle.spsi_laws.proofs.UnderWay.OneOwn.{KeepsOne}
use Rattle.str_base.specs.Versions.{same_node, same_part, stamp}
use Rattle.str_base.specs.declared.names.NodeId.{NodeId}
use Rattle.str_base.specs.declared.names.PartId.{PartId}
use Rattle.str_model.proofs.Changes.OwnGoesOn.{puts_on}
use Rattle.str_model.proofs.Changes.SnapshotsGain.{if_elim}
use Rattle.str_model.proofs.Principle.SingleChanges.{AsksCommit, asks_again, asks_new}
use Rattle.str_model.specs.Returns.{with_ack}
use Rattle.str_model.specs.Views.{Doing, Own, is_decided, lc_of}
use Rattle.str_model.specs.declared.messages.Input.{Input}
use Rattle.str_scene.specs.Scenes.{Here}
use Rattle.std.proofs.lemmas.Bool.{and_from}
use Rattle.str_base.proofs.SameNames.{same_part-is}
use Rattle.str_base.proofs.Tests.{and_true_left, and_true_right}
use Rattle.str_base.proofs.Members.{map_in}
use Rattle.str_base.specs.Members.{In}

-- the participant has answered
abbrev pub HasAnswered : List Asked → PartId → NodeId → Type 0
HasAnswered parts p r = (b : Asked) × In b parts × (b.part ≡ p) × (b.node ≡ r) × (is_some b.ack ≡ true)

-- the transaction is decided, or it is certified and the participant has answered
abbrev pub AnsweredBy : PartId → NodeId → Own → Type 0
AnsweredBy p r x = (is_decided x.phase ≡ true) ⊎ (((lc : ℕ) × (lc_of x.phase ≡ Some lc)) × HasAnswered x.parts p r)

-- the test of an answer: an asked participant that has not answered
abbrev ack_test : Asked → PartId → NodeId → Bool
ack_test a p n = same_part a.part p && (same_node a.node n && (a.asked && not (is_some a.ack)))

ack_stays : (old new : List Asked) (p : PartId) (n : NodeId) (ts : ℕ) (b : Asked) → with_ack old p n ts ≡ Some new → In b old → is_some b.ack ≡ true → In b new
ack_stays [] new p n ts b e h s = absurd h
ack_stays (a ∷ old) new p n ts b e0 h s =
    (if_elim (λ o. o ≡ Some new → In b new) (same_part a.part p && (same_node a.node n && (a.asked && not (is_some a.ack)))) (Some (record a { ack = Some (stamp ts) } ∷ old)) (option_map (λ bs. a ∷ bs) (with_ack old p n ts))
    (λ t e. let is : record a { ack = Some (stamp ts) } ∷ old ≡ new = cc e in
    subst (In b) is (elim h [
      | inl q ↦ absurd (cc (and_true_right a.asked (not (is_some a.ack)) (and_true_right (same_node a.node n) (a.asked && not (is_some a.ack)) (and_true_right (same_part a.part p) (same_node a.node n && (a.asked && not (is_some a.ack))) t)), ap (λ (z : Asked). not (is_some z.ack)) q, ap not s))
      | inr k ↦ inr k
    ]))
    (λ t e. later_ (with_ack old p n ts) (λ bs q k. ack_stays old bs p n ts b q k s) e h)) e0
  where
    later_ : (o : Option (List Asked)) → ((bs : List Asked) → o ≡ Some bs → In b old → In b bs) → option_map (λ bs. a ∷ bs) o ≡ Some new → In b (a ∷ old) → In b new
    later_ None rec e h = absurd (cc e)
    later_ (Some bs) rec e h = let is : a ∷ bs ≡ new = cc e in subst (In b) is (elim h [ inl q ↦ inl q | inr k ↦ inr (rec bs refl k) ])

-- a new answer stands
pub ack_new : (old new : List Asked) (p : PartId) (n : NodeId) (ts : ℕ) → with_ack old p n ts ≡ Some new → HasAnswered new p n
ack_new [] new p n ts e = absurd (cc e)
ack_new (a ∷ old) new p n ts e0 =
    (if_elim (λ o. o ≡ Some new → HasAnswered new p n) (same_part a.part p && (same_node a.node n && (a.asked && not (is_some a.ack)))) (Some (record a { ack = Some (stamp ts) } ∷ old)) (option_map (λ bs. a ∷ bs) (with_ack old p n ts))
    (λ t e. let is : record a { ack = Some (stamp ts) } ∷ old ≡ new = cc e in
    let part : a.part ≡ p = same_part-is a.part p (and_true_left (same_part a.part p) _ t) in
    let num : a.node.0 ≡ n.0 = eqb-true a.node.0 n.0 (and_true_left (same_node a.node n) (a.asked && not (is_some a.ack)) (and_true_right (same_part a.part p) (same_node a.node n && (a.asked && not (is_some a.ack))) t)) in
    subst (λ (ps : List Asked). HasAnswered ps p n) is (record a { ack = Some (stamp ts) }, inl refl, part, (λ j. record { 0 = num j }), refl))
    (λ t e. later_ (with_ack old p n ts) (λ bs q. ack_new old bs p n ts q) e)) e0
  where
    later_ : (o : Option (List Asked)) → ((bs : List Asked) → o ≡ Some bs → HasAnswered bs p n) → option_map (λ bs. a ∷ bs) o ≡ Some new → HasAnswered new p n
    later_ None rec e = absurd (cc e)
    later_ (Some bs) rec e = let is : a ∷ bs ≡ new = cc e in let r = rec bs refl in subst (λ (ps : List Asked). HasAnswered ps p n) is (r.0, inr r.1, r.2, r.3, r.4)

-- where no answer can be kept, an asked participant has answered
pub ack_none : (old : List Asked) (p : PartId) (n : NodeId) (ts : ℕ) (b : Asked) → with_ack old p n ts ≡ None → In b old → b.part ≡ p → b.node ≡ n → b.asked ≡ true → is_some b.ack ≡ true
ack_none [] p n ts b e h part node asked_ = absurd h
ack_none (a ∷ old) p n ts b e0 h0 part node asked_ =
    (if_elim (λ o. o ≡ None → is_some b.ack ≡ true) (same_part a.part p && (same_node a.node n && (a.asked && not (is_some a.ack)))) (Some (record a { ack = Some (stamp ts) } ∷ old)) (option_map (λ bs. a ∷ bs) (with_ack old p n ts))
    (λ t e. absurd (cc e))
    (λ t e. elim h0 [
      | inl q ↦ first t q
      | inr k ↦ ack_none old p n ts b (left_none (with_ack old p n ts) e) k part node asked_
    ])) e0
  where
    left_none : (o : Option (List Asked)) → option_map (λ bs. a ∷ bs) o ≡ None → o ≡ None
    left_none None e = refl
    left_none (Some bs) e = absurd (cc e)

    by_ack : (c : Bool) → is_some b.ack ≡ c → ack_test b p n ≡ false → is_some b.ack ≡ true
    by_ack true q t = q
    by_ack false q t =
        absurd (cc (t, and_from (same_part b.part p) _ (eq-eqb b.part.0 p.0 (ap (λ (z : PartId). z.0) part)) (and_from (same_node b.node n) _ (eq-eqb b.node.0 n.0 (ap (λ (z : NodeId). z.0) node)) (and_from b.asked (not (is_some b.ack)) asked_ (ap not q)))))

    first : (same_part a.part p && (same_node a.node n && (a.asked && not (is_some a.ack)))) ≡ false → a ≡ b → is_some b.ack ≡ true
    first t q = by_ack (is_some b.ack) refl (subst (λ (z : Asked). (same_part z.part p && (same_node z.node n && (z.asked && not (is_some z.ack)))) ≡ false) q t)

module _ (here : Here) (input : Input) (d : Doing) (p : PartId) (r : NodeId) where
  asks_open : (x : Own) → AsksCommit here x → is_decided x.phase ≡ false
  asks_open x (asks_new a e n) = ap is_decided a
  asks_open x (asks_again e) = ap is_decided e

  pub keeps_answered : KeepsOne here input d (AnsweredBy p r)
  keeps_answered = record {
    goes = λ i x y g h. elim h [
      | inl q ↦ absurd (cc (g.goes.was_open, q))
      | inr q ↦ (let k = puts_on here input d i x y g in inr ((q.0.0, g.goes.same_lc ∙ q.0.1), (q.1.0, subst (In q.1.0) (sym k.same_parts) q.1.1, q.1.2, q.1.3, q.1.4)))
    ];
    certifies = λ lc snap x a n h. elim h [ inl q ↦ absurd (cc (asks_open x a, q)) | inr q ↦ absurd (cc (n, q.0.1)) ];
    asks = λ lc s x f l h. elim h [
      | inl q ↦ absurd (cc (f, q))
      | inr q ↦ inr ((lc, refl), (record (q.1.0) { asked = q.1.0.asked || same_part q.1.0.part s }, map_in {A = Asked} {B = Asked} (λ (b : Asked). record b { asked = b.asked || same_part b.part s }) x.parts q.1.0 q.1.1, q.1.2, q.1.3, q.1.4))
    ];
    acks = λ lc from s ts parts x e z h. elim h [
      | inl q ↦ absurd (cc (ap is_decided e, q))
      | inr q ↦ inr (q.0, (q.1.0, ack_stays x.parts parts s from ts q.1.0 z q.1.1 q.1.4, q.1.2, q.1.3, q.1.4))
    ];
    decides = λ x f. inl f;
  }

  pub keeps_decided : KeepsOne here input d (λ x. is_decided x.phase ≡ true)
  keeps_decided = record {
    goes = λ i x y g h. absurd (cc (g.goes.was_open, h));
    certifies = λ lc snap x a n h. absurd (cc (asks_open x a, h));
    asks = λ lc s x f l h. absurd (cc (f, h));
    acks = λ lc from s ts parts x e z h. absurd (cc (ap is_decided e, h));
    decides = λ x f. f;
  }
