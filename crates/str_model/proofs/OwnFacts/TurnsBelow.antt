-- What a turn keeps of the own transactions below it.
pub use Rattle.str_model.specs.NodeFacts.{OpenTo, OpenTo}
use Rattle.std.proofs.Common.{Bool, List, [], add-sub_cancel, ap, arith, false, if◌then◌else◌, inl, inr, length, length-append, length-set, max, nat_lt, refl, slice_get, slice_set, subst, sym, true, ℕ, ◌+◌, ◌-◌, ◌∙◌, ◌∷◌, ◌≡◌, ◌≢◌}
use Rattle.dependency_set.specs.declared.names.Dep.{Dep}
use Rattle.str_model.specs.declared.messages.Input.{Input}
use Rattle.str_model.specs.Acts.{abort_came, aborted, accepted, acked, asked, begun, certified, closed, commit_came, committed, fresh, marked, refused, replied, requested, taken, waits}
use Rattle.str_model.specs.Owned.{Owns}
use Rattle.str_scene.specs.Scenes.{Here}
use Rattle.str_model.specs.Turns.{DepTurn, Keep, Late, Lost, own_fate}
use Rattle.str_model.specs.Turns
use Rattle.str_model.specs.Views.{Doing, Own, View, is_decided}
use Rattle.str_model.proofs.Principle.SingleChanges.{Act, InRule, InTurn, Touches, Where, act_abort, act_abort_came, act_accept, act_ack, act_ask, act_begin, act_certify, act_close, act_commit, act_commit_came, act_mark, act_put, act_refuse, act_reply, act_request, act_take, act_unwait, act_wait, touches_turn}
use Rattle.str_model.proofs.OwnFacts.EarlierDependencies.{depends-act, earlier}
use Rattle.str_model.proofs.Changes.SnapshotsGain.{Extends, Gains, gains_it, gains_of}
use Rattle.str_model.proofs.OwnFacts.LocalOwners.{Depends, open-fate, same_own}
use Rattle.str_model.proofs.Changes.OwnChanges.{Becomes, OwnStep, aborts, certifies, closes, commits, goes_on, own_step, rests, starts_one, turns_one}
use Rattle.str_base.proofs.Lists.{get_set_other, got_set}
use Rattle.str_base.specs.Members.{In}

-- a change outside the rule leaves the own transactions that it does not touch
pub record Leaves (w : Where) (d e : View) : Type 0 where
  pub others : (j : ℕ) → (Touches w j → ⊥) → slice_get e.own j ≡ slice_get d.own j
  pub same_length : length e.own ≡ length d.own

pub at_one : (w : Where) (d : List Own) (i : ℕ) (y : Own) → Touches w i → (j : ℕ) → (Touches w j → ⊥) → slice_get (slice_set d i y) j ≡ slice_get d j
at_one w d i y t j f = get_set_other d i j y (λ e. f (subst (Touches w) (sym e) t))

module _ (here : Here) (input : Input) (w : Where) where
  pub leaves : (d e : Doing) → (w ≢ InRule) → Act here input w d e → Leaves w d.view e.view
  unfolding begun marked aborted committed closed certified asked acked requested accepted taken refused waits replied commit_came abort_came
  leaves d e n (act_begin place rs d' r h) = absurd (n r)
  leaves d e n (act_mark k t d' rd) = record { others = λ j f. refl; same_length = refl }
  leaves d e n (act_put i x y d' own g) = record { others = at_one w d'.view.own i _ own.1; same_length = length-set d'.view.own i _ }
  leaves d e n (act_request i k m x d' own g) = record { others = at_one w d'.view.own i _ own.1; same_length = length-set d'.view.own i _ }
  leaves d e n (act_certify i lc snap x d' own f l c) = record { others = at_one w d'.view.own i _ own.1; same_length = length-set d'.view.own i _ }
  leaves d e n (act_ask i lc p x d' own f l g) = record { others = at_one w d'.view.own i _ own.1; same_length = length-set d'.view.own i _ }
  leaves d e n (act_ack i lc from tx p ts parts x d' own c q g) = record { others = at_one w d'.view.own i _ own.1; same_length = length-set d'.view.own i _ }
  leaves d e n (act_abort i cause x d' own f y) = record { others = at_one w d'.view.own i _ own.1; same_length = length-set d'.view.own i _ }
  leaves d e n (act_commit i lc fc x d' own l m le f g) = record { others = at_one w d'.view.own i _ (touches_turn w i own.1); same_length = length-set d'.view.own i _ }
  leaves d e n (act_close i x d' own p m) = record { others = at_one w d'.view.own i _ (touches_turn w i own.1); same_length = length-set d'.view.own i _ }
  leaves d e n (act_accept a ts d' h m) = record { others = λ j f. refl; same_length = refl }
  leaves d e n (act_refuse a u k d' h m) = record { others = λ j f. refl; same_length = refl }
  leaves d e n (act_take from a d' c l) = record { others = λ j f. refl; same_length = refl }
  leaves d e n (act_wait r d' h) = record { others = λ j f. refl; same_length = refl }
  leaves d e n (act_unwait kept rest r d' h) = record { others = λ j f. refl; same_length = refl }
  leaves d e n (act_reply tx k rs v u fc d' h) = record { others = λ j f. refl; same_length = refl }
  leaves d e n (act_commit_came from tx p fc ms d' c h) = record { others = λ j f. refl; same_length = refl }
  leaves d e n (act_abort_came from tx p d' c h) = record { others = λ j f. refl; same_length = refl }

abbrev pub OpenAt : View → ℕ → Type 0
OpenAt v i = (x : Own) (dep : Dep) → Owns v i x → is_decided x.phase ≡ false → In dep x.snap.deps → own_fate (slice_get v.own (dep.seq - 1)) ≡ Turns.Open

pub record Below (here : Here) (i : ℕ) (v : View) : Type 0 where
  pub base : Depends here v
  pub below : OpenTo v i

pub record UpTo (here : Here) (i : ℕ) (v : View) : Type 0 where
  pub base : Depends here v
  pub below : OpenTo v i
  pub at_it : OpenAt v i

-- what is not touched has the fate that it had
pub fate_same : (w : Where) (d e : View) (dep : Dep) (p : ℕ) → Leaves w d e → dep.seq ≡ p + 1 → (Touches w p → ⊥) → own_fate (slice_get e.own (dep.seq - 1)) ≡ own_fate (slice_get d.own (dep.seq - 1))
fate_same w d e dep p l q f =
    let is : dep.seq - 1 ≡ p = ap (λ n. n - 1) q ∙ add-sub_cancel p 1 in
    ap own_fate (l.others (dep.seq - 1) (λ t. f (subst (Touches w) is t)))

pub resolve_all-open : (own : List Own) (rs : ℕ) (ds : List Dep) (ffc f : ℕ) (es : List Dep) → Turns.resolve_all own rs ds ffc ≡ Keep f es → (x : Dep) → In x es → own_fate (slice_get own (x.seq - 1)) ≡ Turns.Open
resolve_all-open own rs [] ffc f es e x h = let q : [] ≡ es = cc e in absurd (subst (In x) (sym q) h)
resolve_all-open own rs (d ∷ ds) ffc f es e x h =
    by_fate-open (own_fate (slice_get own (d.seq - 1))) refl (λ g es' e' h'. resolve_all-open own rs ds g f es' e' x h') e h
  where
    by_fate-open : (t : Turns.Fate) → own_fate (slice_get own (d.seq - 1)) ≡ t
        → ((g : ℕ) (es' : List Dep) → Turns.resolve_all own rs ds g ≡ Keep f es' → In x es' → own_fate (slice_get own (x.seq - 1)) ≡ Turns.Open)
        → Turns.by_fate rs d ds ffc (λ g. Turns.resolve_all own rs ds g) t ≡ Keep f es → In x es → own_fate (slice_get own (x.seq - 1)) ≡ Turns.Open
    by_fate-open Turns.Open is rec q k = kept_also (Turns.resolve_all own rs ds ffc) refl q k
      where
        kept_also : (r : DepTurn) → Turns.resolve_all own rs ds ffc ≡ r → Turns.keep_also d r ≡ Keep f es → In x es → own_fate (slice_get own (x.seq - 1)) ≡ Turns.Open
        kept_also (Lost a g gs) p q k = absurd (cc q)
        kept_also (Late a b g gs) p q k = absurd (cc q)
        kept_also (Keep a bs) p q k =
            let same : d ∷ bs ≡ es = cc q in
            let f' : a ≡ f = cc q in
            elim (subst (In x) (sym same) k) [ inl z ↦ subst (λ (y : Dep). own_fate (slice_get own (y.seq - 1)) ≡ Turns.Open) z is | inr z ↦ rec ffc bs (p ∙ ap (λ n. Keep n bs) f') z ]
    by_fate-open Turns.Gone is rec q k = absurd (cc q)
    by_fate-open (Turns.CommittedAt fc) is rec q k = by_test (nat_lt rs fc) q k
      where
        by_test : (b : Bool) → (if b then Late d.seq fc ffc (d ∷ ds) else Turns.resolve_all own rs ds (max ffc fc)) ≡ Keep f es → In x es → own_fate (slice_get own (x.seq - 1)) ≡ Turns.Open
        by_test true q k = absurd (cc q)
        by_test false q k = rec (max ffc fc) es q k

module _ (here : Here) (input : Input) (i : ℕ) where
  pub keeps_below : (d e : Doing) → Act here input (InTurn i) d e → Below here i d.view → Below here i e.view
  keeps_below d e a h =
      let l = leaves here input (InTurn i) d e (λ q. cc q) a in
      let base = depends-act here input (InTurn i) d e a h.base in
      record {
        base = base;
        below = λ j x dep lt own op m.
            let w = base.deps j x dep own op m in
            fate_same (InTurn i) d.view e.view dep w.place l w.seq (λ t. absurd (omega (arith, t, w.before)))
            ∙ h.below j x dep lt (sym (l.others j (λ t. absurd (omega (arith, t)))) ∙ own) op m;
      }

  pub keeps_at : (d e : Doing) → Act here input (InTurn i) d e → UpTo here i d.view → OpenAt e.view i
  keeps_at d e a h x dep own op m =
      let w = (depends-act here input (InTurn i) d e a h.base).deps i x dep own op m in
      fate_same (InTurn i) d.view e.view dep w.place l w.seq (λ t. absurd (omega (arith, t, w.before))) ∙ before (own_step here input (InTurn i) d e a)
    where
      l : Leaves (InTurn i) d.view e.view
      l = leaves here input (InTurn i) d e (λ q. cc q) a

      gained : (z : Own) → Owns d.view i z → Gains d.view z.snap.rs dep → own_fate (slice_get d.view.own (dep.seq - 1)) ≡ Turns.Open
      gained z is (gains_it v u mem k le o q) =
          let lo = h.base.locals v mem k in
          let same : lo.owner ≡ u = same_own d.view lo.place (v.tx.seq - 1) lo.owner u lo.owns o (sym (ap (λ n. n - 1) lo.seq ∙ add-sub_cancel lo.place 1)) in
          rw (q, o) (open-fate u.phase (ap (λ y. is_decided y.phase) (sym same) ∙ lo.open_))
      gained z is (gains_of v u mem k le o j) =
          let lo = h.base.locals v mem k in
          let same : lo.owner ≡ u = same_own d.view lo.place (v.tx.seq - 1) lo.owner u lo.owns o (sym (ap (λ n. n - 1) lo.seq ∙ add-sub_cancel lo.place 1)) in
          h.below lo.place lo.owner dep (earlier d.view h.base.times lo.place i v.ts.0 lo.owner z lo.owns is lo.lc le) lo.owns lo.open_
          (subst (λ (y : Own). In dep y.snap.deps) (sym same) j)

      extended : (z y : Own) → Owns d.view i z → is_decided z.phase ≡ false → Extends d.view z.snap y.snap → In dep y.snap.deps → own_fate (slice_get d.view.own (dep.seq - 1)) ≡ Turns.Open
      extended z y is o ex j = elim (ex.deps dep j) [ inl k ↦ h.at_it z dep is o k | inr g ↦ gained z is g ]

      changed : (z y : Own) → Owns d.view i z → Becomes d.view d.view.floor e.view.floor z y → x ≡ y → own_fate (slice_get d.view.own (dep.seq - 1)) ≡ Turns.Open
      changed z y is (goes_on r f) s = extended z y is r.was_open r.snap (subst (λ (k : Own). In dep k.snap.deps) s m)
      changed z y is (certifies mm o' none ph pl ex lt f) s = extended z y is o' ex (subst (λ (k : Own). In dep k.snap.deps) s m)
      changed z y is (commits mm fc o' some le r f) s = absurd (cc (ap (λ k. is_decided k.phase) (s ∙ r), op))
      changed z y is (closes o' none r f) s = absurd (cc (ap (λ k. is_decided k.phase) (s ∙ r), op))
      changed z y is (aborts cause o' r f) s = absurd (cc (ap (λ k. is_decided k.phase) (s ∙ r), op))

      before : OwnStep d.view e.view → own_fate (slice_get d.view.own (dep.seq - 1)) ≡ Turns.Open
      before (rests q f) = h.at_it x dep (rw (← q) own) op m
      before (starts_one place rs le q f) = absurd (omega (arith, l.same_length, ap length q, length-append d.view.own (fresh place rs ∷ [])))
      before (turns_one n z y is q b) =
          elim (got_set d.view.own n i y x (rw (← q) own)) [
            | inl r ↦ changed z y (subst (λ k. Owns d.view k z) (sym r.0) is) b r.1
            | inr r ↦ h.at_it x dep r.1 op m
          ]

  pub keeps_up_to : (d e : Doing) → Act here input (InTurn i) d e → UpTo here i d.view → UpTo here i e.view
  keeps_up_to d e a h =
      let b = keeps_below d e a (record { base = h.base; below = h.below }) in
      record { base = b.base; below = b.below; at_it = keeps_at d e a h }
