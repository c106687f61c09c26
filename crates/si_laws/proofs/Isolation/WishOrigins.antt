-- A transaction that wished to abort, and not by an abort of its script: its dependencies were gone, so all that it read from has committed.
use Rattle.std.proofs.Common.{None, Option, Some, [], ap, false, inl, inr, refl, slice_get, slice_set, subst, sym, true, ℕ, ◌∙◌, ◌≡◌}
use Rattle.str_base.specs.declared.names.Cause.TheVariants.{Wish}
use Rattle.str_base.specs.declared.names.Cause.{Cause}
use Rattle.str_model.proofs.Principle.SingleChanges.{Act, Where, Why, act_abort, act_abort_came, act_accept, act_ack, act_ask, act_begin, act_certify, act_close, act_commit, act_commit_came, act_mark, act_put, act_refuse, act_reply, act_request, act_take, act_unwait, act_wait, at_abort, at_need, by_certification, by_eviction, by_late, by_lost, by_refusal, by_script}
use Rattle.str_model.specs.Acts.{abort_came, aborted, accepted, acked, asked, begun, certified, closed, commit_came, committed, decided_as, fresh, in_phase, marked, refused, replied, requested, taken, waits, with_asked}
use Rattle.str_model.specs.Owned.{Owns}
use Rattle.str_model.specs.Scripts.{own_op}
use Rattle.str_model.specs.Views.{Aborted, Committed, Doing, Global, Local, Own, Remote, is_decided, lc_of}
use Rattle.str_model.specs.declared.messages.Input.{Input}
use Rattle.str_scene.specs.Scenes.{Here, participants}
use Rattle.str_scene.specs.declared.names.Op.TheVariants.{Abort as Stop}
use Rattle.str_base.proofs.Lists.{got_push, got_set}

-- it has wished to abort
abbrev pub HasWished : Own → Type 0
HasWished y = (lc : Option ℕ) × (y.phase ≡ Aborted lc Wish)

-- it stood so before; or its next operation is an abort; or it wishes now and has no dependency left
pub data WishOrigin (here : Here) (d : Doing) (i : ℕ) (y : Own) : Type 0 where
  wo_old : Owns d.view i y → WishOrigin here d i y
  wo_stop : own_op here y ≡ Some Stop → WishOrigin here d i y
  wo_now : (x : Own) → Owns d.view i x → is_decided x.phase ≡ false → x.snap.deps ≡ [] → y.reads ≡ x.reads → y.snap.rs ≡ x.snap.rs → WishOrigin here d i y

module _ (here : Here) (input : Input) where
  set_wish : (d : Doing) (n i : ℕ) (z y : Own) → slice_get (slice_set d.view.own n z) i ≡ Some y → HasWished y → (HasWished z → WishOrigin here d n z) → WishOrigin here d i y
  set_wish d n i z y own h f =
      elim (got_set d.view.own n i z y own) [
        | inl s ↦ subst (λ m. WishOrigin here d m y) (sym s.0) (subst (λ (u : Own). WishOrigin here d n u) (sym s.1) (f (h.0, ap (λ (u : Own). u.phase) (sym s.1) ∙ h.1)))
        | inr s ↦ wo_old s.1
      ]

  undecided_not : (z : Own) → is_decided z.phase ≡ false → HasWished z → ⊥
  undecided_not z f h = let q : is_decided z.phase ≡ true = ap is_decided h.1 in cc (f, q)

  why_wish : (d : Doing) (n : ℕ) (x : Own) (cause : Cause) → Owns d.view n x → is_decided x.phase ≡ false → Why here input d n x cause → HasWished (decided_as (Aborted (lc_of x.phase) cause) x)
      → WishOrigin here d n (decided_as (Aborted (lc_of x.phase) cause) x)
  why_wish d n x cause own f (by_script (at_abort a e)) h = wo_stop e
  why_wish d n x cause own f (by_script (at_need e none)) h = wo_now x own f none refl refl
  why_wish d n x cause own o (by_lost q f es e) h = absurd (cc h.1)
  why_wish d n x cause own o (by_late q fc f es e) h = absurd (cc h.1)
  why_wish d n x cause own f (by_certification u k e) h = absurd (cc h.1)
  why_wish d n x cause own f (by_eviction from a w c) h = absurd (cc h.1)
  why_wish d n x cause own f (by_refusal from t p u k c) h = absurd (cc h.1)

  module _ (w : Where) where
    pub wish_origin : (d e : Doing) → Act here input w d e → (i : ℕ) (y : Own) → Owns e.view i y → HasWished y → WishOrigin here d i y
    unfolding begun marked aborted committed closed certified asked acked requested accepted taken refused waits replied commit_came abort_came
    wish_origin d e (act_begin place rs d' g l) i y own h =
        elim (got_push d'.view.own i (fresh place rs) y own) [ inl s ↦ absurd (undecided_not y (ap (λ (u : Own). is_decided u.phase) s.1) h) | inr s ↦ wo_old s ]
    wish_origin d e (act_put n x z d' o g) i y own h = set_wish d' n i z y own h (λ q. absurd (undecided_not z g.goes.is_open q))
    wish_origin d e (act_request n k to x d' o g) i y own h = set_wish d' n i (in_phase (Remote k) x) y own h (λ q. absurd (cc q.1))
    wish_origin d e (act_certify n lc snap x d' o f l c) i y own h =
        set_wish d' n i (record x { snap = snap; parts = participants here.scene here.node x.writes; phase = Local lc }) y own h (λ q. absurd (cc q.1))
    wish_origin d e (act_ask n lc p x d' o f l g) i y own h = set_wish d' n i (record x { parts = with_asked p x.parts; phase = Global lc }) y own h (λ q. absurd (cc q.1))
    wish_origin d e (act_ack n lc from tx p ts parts x d' o c q g) i y own h = set_wish d' n i (record x { parts = parts }) y own h (λ r. absurd (cc (q, r.1)))
    wish_origin d e (act_abort n cause x d' o f g) i y own h = set_wish d' n i (decided_as (Aborted (lc_of x.phase) cause) x) y own h (why_wish d' n x cause o.0 f g)
    wish_origin d e (act_commit n lc fc x d' o l none le f g) i y own h = set_wish d' n i (decided_as (Committed (Some lc) (Some fc)) x) y own h (λ q. absurd (cc q.1))
    wish_origin d e (act_close n x d' o p none) i y own h = set_wish d' n i (decided_as (Committed None None) x) y own h (λ q. absurd (cc q.1))
    wish_origin d e (act_mark k t d' rd) i y own h = wo_old own
    wish_origin d e (act_accept a ts d' g m) i y own h = wo_old own
    wish_origin d e (act_refuse a u k d' g m) i y own h = wo_old own
    wish_origin d e (act_take from a d' c l) i y own h = wo_old own
    wish_origin d e (act_wait s d' g) i y own h = wo_old own
    wish_origin d e (act_unwait kept more s d' g) i y own h = wo_old own
    wish_origin d e (act_reply tx k rs v u fc d' g) i y own h = wo_old own
    wish_origin d e (act_commit_came from tx p fc ms d' c g) i y own h = wo_old own
    wish_origin d e (act_abort_came from tx p d' c g) i y own h = wo_old own
