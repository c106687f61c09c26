-- What becomes of a dependency: it stays in the set, or it has committed at or below the snapshot, or the dependent one has aborted.
use Rattle.std.proofs.Common.{Bool, None, Option, Some, [], ap, arith, false, inl, inr, refl, slice_get, slice_set, subst, sym, true, ℕ, ◌-◌, ◌∙◌, ◌≡◌, ◌≢◌, ◌≤◌}
use Rattle.str_scene.specs.Scenes.{Here}
use Rattle.str_model.specs.declared.messages.Input.{Input}
use Rattle.str_model.specs.Acts.{abort_came, aborted, accepted, acked, asked, begun, certified, closed, commit_came, committed, fresh, marked, refused, replied, requested, taken, waits}
use Rattle.str_model.specs.Owned.{Owns}
use Rattle.str_model.specs.Turns.{CommittedAt, own_fate}
use Rattle.str_model.specs.Views.{Doing, Own, View, is_decided, lc_of}
use Rattle.str_model.proofs.Principle.SingleChanges.{Act, InTurn, Where, act_abort, act_abort_came, act_accept, act_ack, act_ask, act_begin, act_certify, act_close, act_commit, act_commit_came, act_mark, act_put, act_refuse, act_reply, act_request, act_take, act_unwait, act_wait}
use Rattle.str_model.proofs.Changes.SnapshotsGain.{Names}
use Rattle.str_model.proofs.Changes.OwnChanges.{OwnStep, own_step, rests, starts_one, turns_one}
use Rattle.si_laws.proofs.Dependencies.AroundLocal.{Carried, named_more}
use Rattle.si_laws.proofs.Dependencies.LeftAlone.{carried}
use Rattle.str_model.proofs.OwnFacts.LocalOwners.{same_own}
use Rattle.str_model.proofs.Changes.PairWords.{decided-step}
use Rattle.si_laws.specs.GateLaw.{HasCommitted}
use Rattle.si_laws.specs.Standing.{IsAborted}
use Rattle.str_base.proofs.Lists.{get_push, get_set, get_set_other, got_push, got_set}
use Rattle.std.proofs.lemmas.Bool.{cases_eq}
use Rattle.str_base.specs.Members.{In}

-- The i-th own transaction, once it depended on the one of this number: it still does, or that one has committed at or below its snapshot, or it has aborted.
-- Why: a transaction commits without dependencies, so all that it ever depended on have then committed at or below its snapshot.
pub data Fate (i seq : ℕ) (v : View) : Type 0 where
  listed : (x : Own) → Owns v i x → is_decided x.phase ≡ false → Names seq x.snap.deps → Fate i seq v
  settled_at : (x : Own) (fc : ℕ) → Owns v i x → own_fate (slice_get v.own (seq - 1)) ≡ CommittedAt fc → fc ≤ x.snap.rs → Fate i seq v
  gone_at : (x : Own) → Owns v i x → IsAborted x → Fate i seq v

-- what an own transaction becomes where it stays undecided, or was decided
pub data Stays (w : Where) (e : View) (i : ℕ) (x : Own) : Type 0 where
  stays_open : (y : Own) → Owns e i y → is_decided y.phase ≡ false → Stays w e i x
  now_committed : w ≡ InTurn i → x.snap.deps ≡ [] → (y : Own) → Owns e i y → y.snap ≡ x.snap → Stays w e i x
  now_aborted : (y : Own) → Owns e i y → IsAborted y → Stays w e i x

set_after : (w : Where) (d e : View) (n i : ℕ) (x z y : Own) → Owns d i x → is_decided x.phase ≡ false → Owns d n z → e.own ≡ slice_set d.own n y → (i ≡ n → x ≡ z → Stays w e i x) → Stays w e i x
set_after w d e n i x z y own op is q this =
    elim (cases_eq i n) [
      | inl s ↦ this s (same_own d i n x z own is s)
      | inr s ↦ stays_open x (rw q (get_set_other d.own n i y s ∙ own)) op
    ]

set_at : (d e : View) (n i : ℕ) (z y : Own) → Owns d n z → e.own ≡ slice_set d.own n y → i ≡ n → Owns e i y
set_at d e n i z y is q s = subst (λ k. Owns e k y) (sym s) (rw q (get_set d.own n z y is))

module _ (here : Here) (input : Input) (w : Where) where
  pub stays-act : (d e : Doing) → Act here input w d e → (i : ℕ) (x : Own) → Owns d.view i x → is_decided x.phase ≡ false → Stays w e.view i x
  unfolding begun marked aborted committed closed certified asked acked requested accepted taken refused waits replied commit_came abort_came
  stays-act d e (act_begin place rs d' r g) i x own op = stays_open x (get_push d'.view.own i (fresh place rs) x own) op
  stays-act d e (act_put n z y d' o g) i x own op = set_after w d'.view e.view n i x z y own op o.0 refl (λ s t. stays_open y (set_at d'.view e.view n i z y o.0 refl s) g.goes.is_open)
  stays-act d e (act_request n k m z d' o g) i x own op = set_after w d'.view e.view n i x z _ own op o.0 refl (λ s t. stays_open _ (set_at d'.view e.view n i z _ o.0 refl s) g.goes.is_open)
  stays-act d e (act_certify n lc snap z d' o f l c) i x own op = set_after w d'.view e.view n i x z _ own op o.0 refl (λ s t. stays_open _ (set_at d'.view e.view n i z _ o.0 refl s) refl)
  stays-act d e (act_ask n lc p z d' o f l g) i x own op = set_after w d'.view e.view n i x z _ own op o.0 refl (λ s t. stays_open _ (set_at d'.view e.view n i z _ o.0 refl s) refl)
  stays-act d e (act_ack n lc from tx p ts parts z d' o c q g) i x own op = set_after w d'.view e.view n i x z _ own op o.0 refl (λ s t. stays_open _ (set_at d'.view e.view n i z _ o.0 refl s) (ap is_decided q))
  stays-act d e (act_abort n cause z d' o f y) i x own op =
      set_after w d'.view e.view n i x z _ own op o.0 refl (λ s t. now_aborted _ (set_at d'.view e.view n i z _ o.0 refl s) (lc_of z.phase, cause, refl))
  stays-act d e (act_commit n lc fc z d' o l none le f g) i x own op =
      set_after w d'.view e.view n i x z _ own op o.0 refl (λ s t. now_committed (o.1 ∙ ap InTurn (sym s)) (ap (λ (u : Own). u.snap.deps) t ∙ none) _ (set_at d'.view e.view n i z _ o.0 refl s) (ap (λ (u : Own). u.snap) (sym t)))
  stays-act d e (act_close n z d' o p none) i x own op =
      set_after w d'.view e.view n i x z _ own op o.0 refl (λ s t. now_committed (o.1 ∙ ap InTurn (sym s)) (ap (λ (u : Own). u.snap.deps) t ∙ none) _ (set_at d'.view e.view n i z _ o.0 refl s) (ap (λ (u : Own). u.snap) (sym t)))
  stays-act d e (act_mark k t d' rd) i x own op = stays_open x own op
  stays-act d e (act_accept a ts d' g m) i x own op = stays_open x own op
  stays-act d e (act_refuse a u k d' g m) i x own op = stays_open x own op
  stays-act d e (act_take from a d' c l) i x own op = stays_open x own op
  stays-act d e (act_wait r d' g) i x own op = stays_open x own op
  stays-act d e (act_unwait kept more r d' g) i x own op = stays_open x own op
  stays-act d e (act_reply tx k rs v u fc d' g) i x own op = stays_open x own op
  stays-act d e (act_commit_came from tx p fc ms d' c g) i x own op = stays_open x own op
  stays-act d e (act_abort_came from tx p d' c g) i x own op = stays_open x own op

  listed_on : (d e : Doing) → Carried d.view e.view → (i seq : ℕ) (x : Own) → Owns d.view i x → is_decided x.phase ≡ false → Names seq x.snap.deps → Stays w e.view i x → Fate i seq e.view
  listed_on d e c i seq x own op n (stays_open y own' op') =
      let r = c.each i x y own own' op op' in
      elim (named_more d.view x.snap.rs seq x.snap.deps y.snap.deps r.1 n) [
        | inl m ↦ listed y own' op' m
        | inr t ↦ settled_at y t.0 own' (c.fates (seq - 1) t.0 t.1) (omega (arith, t.2, r.0))
      ]
  listed_on d e c i seq x own op n (now_committed t none y own' s) = absurd (subst (In n.0) none n.1)
  listed_on d e c i seq x own op n (now_aborted y own' a) = gone_at y own' a

  settled_on : (d e : Doing) → Carried d.view e.view → (i seq fc : ℕ) (x : Own) → Owns d.view i x → is_decided x.phase ≡ false → own_fate (slice_get d.view.own (seq - 1)) ≡ CommittedAt fc → fc ≤ x.snap.rs → Stays w e.view i x → Fate i seq e.view
  settled_on d e c i seq fc x own op f le (stays_open y own' op') = settled_at y fc own' (c.fates (seq - 1) fc f) (omega (arith, le, (c.each i x y own own' op op').0))
  settled_on d e c i seq fc x own op f le (now_committed t none y own' s) = settled_at y fc own' (c.fates (seq - 1) fc f) (omega (arith, le, ap (λ z. z.rs) s))
  settled_on d e c i seq fc x own op f le (now_aborted y own' a) = gone_at y own' a

  aborted_decided : (x : Own) → IsAborted x → is_decided x.phase ≡ true
  aborted_decided x a = ap is_decided a.2

  pub fate-act : (i seq : ℕ) (d e : Doing) → Act here input w d e → Fate i seq d.view → Fate i seq e.view
  fate-act i seq d e a (listed x own op n) =
      listed_on d e (carried d.view e.view (own_step here input w d e a)) i seq x own op n (stays-act d e a i x own op)
  fate-act i seq d e a (settled_at x fc own f le) = by_decided (is_decided x.phase) refl
    where
      by_decided : (b : Bool) → is_decided x.phase ≡ b → Fate i seq e.view
      by_decided true q =
          settled_at x fc (decided-step i x d.view e.view q (own_step here input w d e a) own) ((carried d.view e.view (own_step here input w d e a)).fates (seq - 1) fc f) le
      by_decided false q = settled_on d e (carried d.view e.view (own_step here input w d e a)) i seq fc x own q f le (stays-act d e a i x own q)
  fate-act i seq d e a (gone_at x own g) = gone_at x (decided-step i x d.view e.view (aborted_decided x g) (own_step here input w d e a) own) g

-- where an own transaction came from: it stood so, or it was undecided, or it is new
pub data Back (w : Where) (d e : View) (i : ℕ) (y : Own) : Type 0 where
  was_so : Owns d i y → Back w d e i y
  was_open : (x : Own) → Owns d i x → is_decided x.phase ≡ false → Stays w e i x → Back w d e i y
  is_new : is_decided y.phase ≡ false → Back w d e i y

pub back-act : (here : Here) (input : Input) (w : Where) (d e : Doing) → Act here input w d e → (i : ℕ) (y : Own) → Owns e.view i y → Back w d.view e.view i y
back-act here input w d e a i y own = by_place (slice_get d.view.own i) refl
  where
    s : OwnStep d.view e.view
    s = own_step here input w d e a

    new : slice_get d.view.own i ≡ None → OwnStep d.view e.view → Back w d.view e.view i y
    new n (rests q f) = absurd (let k : None ≡ Some y = sym n ∙ (rw (← q) own) in cc k)
    new n (starts_one place rs le q f) =
        elim (got_push d.view.own i (fresh place rs) y (rw (← q) own)) [
          | inl r ↦ is_new (ap (λ (z : Own). is_decided z.phase) r.1)
          | inr r ↦ was_so r
        ]
    new n (turns_one k x z is q b) =
        elim (got_set d.view.own k i z y (rw (← q) own)) [
          | inl r ↦ absurd (let c : None ≡ Some x = sym n ∙ (ap (λ j. slice_get d.view.own j) r.0 ∙ is) in cc c)
          | inr r ↦ was_so r.1
        ]

    by_decided : (x : Own) (b : Bool) → Owns d.view i x → is_decided x.phase ≡ b → Back w d.view e.view i y
    by_decided x true o q =
        let same : x ≡ y = same_own e.view i i x y (decided-step i x d.view e.view q s o) own refl in was_so (subst (Owns d.view i) same o)
    by_decided x false o q = was_open x o q (stays-act here input w d e a i x o q)

    by_place : (o : Option Own) → slice_get d.view.own i ≡ o → Back w d.view e.view i y
    by_place None q = new q s
    by_place (Some x) q = by_decided x (is_decided x.phase) q refl

-- A committed own transaction has no dependency. Why: so each moment at which a dependency is listed is before the commit.
abbrev pub FreeOnceCommitted : View → Type 0
FreeOnceCommitted v = (i : ℕ) (x : Own) → Owns v i x → HasCommitted x → x.snap.deps ≡ []

committed_decided : (x : Own) → HasCommitted x → is_decided x.phase ≡ false → ⊥
committed_decided x c o = cc (ap is_decided c.2, o)

committed_aborted : (x : Own) → HasCommitted x → IsAborted x → ⊥
committed_aborted x c a = cc (sym c.2 ∙ a.2)

pub free-act : (here : Here) (input : Input) (w : Where) (d e : Doing) → Act here input w d e → FreeOnceCommitted d.view → FreeOnceCommitted e.view
free-act here input w d e a h i y own c = by_back (back-act here input w d e a i y own)
  where
    by_stay : (x : Own) → Stays w e.view i x → y.snap.deps ≡ []
    by_stay x (stays_open z o q) = absurd (committed_decided y c (ap (λ (u : Own). is_decided u.phase) (same_own e.view i i y z own o refl) ∙ q))
    by_stay x (now_committed t none z o s) = ap (λ (u : Own). u.snap.deps) (same_own e.view i i y z own o refl) ∙ (ap (λ u. u.deps) s ∙ none)
    by_stay x (now_aborted z o g) = absurd (committed_aborted y c (subst IsAborted (same_own e.view i i z y o own refl) g))

    by_back : Back w d.view e.view i y → y.snap.deps ≡ []
    by_back (was_so o) = h i y o c
    by_back (was_open x o q s) = by_stay x s
    by_back (is_new q) = absurd (committed_decided y c q)

-- the i-th own transaction has not committed
abbrev pub NotCommitted : ℕ → View → Type 0
NotCommitted i v = (x : Own) → Owns v i x → HasCommitted x → ⊥

-- it commits only in its own turn
pub not_committed-act : (here : Here) (input : Input) (w : Where) (i : ℕ) → (w ≢ InTurn i) → (d e : Doing) → Act here input w d e → NotCommitted i d.view → NotCommitted i e.view
not_committed-act here input w i ne d e a h y own c = by_back (back-act here input w d e a i y own)
  where
    by_stay : (x : Own) → Stays w e.view i x → ⊥
    by_stay x (stays_open z o q) = committed_decided y c (ap (λ (u : Own). is_decided u.phase) (same_own e.view i i y z own o refl) ∙ q)
    by_stay x (now_committed t none z o s) = ne t
    by_stay x (now_aborted z o g) = committed_aborted y c (subst IsAborted (same_own e.view i i z y o own refl) g)

    by_back : Back w d.view e.view i y → ⊥
    by_back (was_so o) = h y o c
    by_back (was_open x o q s) = by_stay x s
    by_back (is_new q) = committed_decided y c q
