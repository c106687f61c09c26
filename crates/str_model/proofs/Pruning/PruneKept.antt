-- What each single change keeps of a view for pruning: nothing open lies below the mark, and the versions are in order.
use Rattle.std.proofs.Common.{Bool, List, Some, [], ap, arith, false, filter, if◌then◌else◌, inl, inr, map, max, min, not, refl, slice_get, subst, suc, sym, true, zero, ℕ, ◌++◌, ◌∙◌, ◌∷◌, ◌≡◌, ◌≤◌, ◌⊎◌}
use Rattle.str_base.specs.Versions.{of_pair, of_tx, settled, without}
use Rattle.str_scene.specs.Scenes.{Here}
use Rattle.str_model.specs.Acts
use Rattle.str_model.specs.Acts.{abort_came, aborted, accepted, acked, asked, begun, certified, closed, commit_came, committed, fresh, in_phase, marked, refused, replied, requested, taken, waits}
use Rattle.str_model.specs.declared.messages.Input.{Input}
use Rattle.str_model.specs.Proposals.{proposed}
use Rattle.str_model.specs.Pruning.{low, low_from}
use Rattle.str_model.specs.Views.{Doing, Own, View, is_decided}
use Rattle.str_model.proofs.Principle.SingleChanges.{Act, Where, act_abort, act_abort_came, act_accept, act_ack, act_ask, act_begin, act_certify, act_close, act_commit, act_commit_came, act_mark, act_put, act_refuse, act_reply, act_request, act_take, act_unwait, act_wait}
use Rattle.str_model.proofs.Changes.OwnChanges.{Becomes, OwnStep, aborts, certifies, closes, commits, goes_on, own_step, rests, starts_one, turns_one}
use Rattle.str_model.proofs.Pruning.PruneOrder.{InOrder, order_all, order_filter, order_finalise}
use Rattle.str_base.proofs.Lists.{got_set}

-- the floor and the snapshot of each own undecided transaction are at or above the mark
pub record Above (g : ℕ) (v : View) : Type 0 where
  pub floor : g ≤ v.floor
  pub open_ : (i : ℕ) (x : Own) → slice_get v.own i ≡ Some x → is_decided x.phase ≡ false → g ≤ x.snap.rs

got_push : {A : Type 0} (xs : List A) (y x : A) (i : ℕ) → slice_get (xs ++ y ∷ []) i ≡ Some x → (slice_get xs i ≡ Some x) ⊎ (y ≡ x)
got_push [] y x zero e = inr (cc e)
got_push [] y x (suc i) e = absurd (cc e)
got_push (z ∷ xs) y x zero e = inl e
got_push (z ∷ xs) y x (suc i) e = got_push xs y x i e

above_becomes : (g : ℕ) (v : View) (f h : ℕ) (x y : Own) → Becomes v f h x y → g ≤ f → (is_decided x.phase ≡ false → g ≤ x.snap.rs) → (g ≤ h) × (is_decided y.phase ≡ false → g ≤ y.snap.rs)
above_becomes g v f h x y (goes_on b e) le r =
    let up = r b.was_open in let s = b.snap.rs in (omega (arith, le, e), λ o. omega (arith, up, s))
above_becomes g v f h x y (certifies lc o n p q s lt e) le r =
    let up = r o in let rs = s.rs in (omega (arith, le, e, le_max f lc), λ z. omega (arith, up, rs))
  where
    le_max : (a b : ℕ) → a ≤ max a b
    le_max a b = omega arith
above_becomes g v f h x y (commits lc fc o l c e m) le r = (omega (arith, le, m, le_max f fc), λ z. absurd (cc (ap (λ (u : Own). is_decided u.phase) e, z)))
  where
    le_max : (a b : ℕ) → a ≤ max a b
    le_max a b = omega arith
above_becomes g v f h x y (closes o n e m) le r = (omega (arith, le, m), λ z. absurd (cc (ap (λ (u : Own). is_decided u.phase) e, z)))
above_becomes g v f h x y (aborts c o e m) le r = (omega (arith, le, m), λ z. absurd (cc (ap (λ (u : Own). is_decided u.phase) e, z)))

pub above-step : (g : ℕ) (d e : View) → OwnStep d e → Above g d → Above g e
above-step g d e (rests o f) a =
    let le = a.floor in record { floor = omega (arith, le, f); open_ = λ i x q z. a.open_ i x (ap (λ (xs : List Own). slice_get xs i) (sym o) ∙ q) z }
above-step g d e (starts_one place rs up o f) a =
    let le = a.floor in
    record {
      floor = omega (arith, le, up, f);
      open_ = λ i x q z.
          elim (got_push d.own (fresh place rs) x i (ap (λ (xs : List Own). slice_get xs i) (sym o) ∙ q)) [
            | inl k ↦ a.open_ i x k z
            | inr k ↦ (let s : rs ≡ x.snap.rs = ap (λ (u : Own). u.snap.rs) k in omega (arith, le, up, s))
          ];
    }
above-step g d e (turns_one j x y is o b) a =
    let r = above_becomes g d d.floor e.floor x y b a.floor (λ z. a.open_ j x is z) in
    record {
      floor = r.0;
      open_ = λ i u q z.
          elim (got_set d.own j i y u (ap (λ (xs : List Own). slice_get xs i) (sym o) ∙ q)) [
            | inl p ↦ (let s = r.1 (ap (λ (k : Own). is_decided k.phase) (sym p.1) ∙ z) in let t : u.snap.rs ≡ y.snap.rs = ap (λ (k : Own). k.snap.rs) p.1 in omega (arith, s, t))
            | inr p ↦ a.open_ i u p.1 z
          ];
    }

pub above-act : (g : ℕ) (here : Here) (input : Input) (w : Where) (d e : Doing) → Act here input w d e → Above g d.view → Above g e.view
above-act g here input w d e a h = above-step g d.view e.view (own_step here input w d e a) h

-- ---- the low mark

low_least : (g f : ℕ) (xs : List Own) → g ≤ f → ((i : ℕ) (x : Own) → slice_get xs i ≡ Some x → is_decided x.phase ≡ false → g ≤ x.snap.rs) → g ≤ low_from f xs
low_least g f [] le h = le
low_least g f (x ∷ xs) le h = by_open (is_decided x.phase) refl (low_least g f xs le (λ i y e z. h (suc i) y e z))
  where
    by_open : (b : Bool) → is_decided x.phase ≡ b → g ≤ low_from f xs → g ≤ (if b then low_from f xs else min x.snap.rs (low_from f xs))
    by_open true e r = r
    by_open false e r = let s = h zero x refl e in omega (arith, s, r)

low_floor : (f : ℕ) (xs : List Own) → low_from f xs ≤ f
low_floor f [] = omega arith
low_floor f (x ∷ xs) = by_open (is_decided x.phase) (low_floor f xs)
  where
    by_open : (b : Bool) → low_from f xs ≤ f → (if b then low_from f xs else min x.snap.rs (low_from f xs)) ≤ f
    by_open true r = r
    by_open false r = omega (arith, r)

low_open : (f : ℕ) (xs : List Own) (i : ℕ) (x : Own) → slice_get xs i ≡ Some x → is_decided x.phase ≡ false → low_from f xs ≤ x.snap.rs
low_open f [] i x e z = absurd (cc e)
low_open f (y ∷ xs) zero x e z =
    let same : y ≡ x = cc e in let o : is_decided y.phase ≡ false = ap (λ (u : Own). is_decided u.phase) same ∙ z in let s : y.snap.rs ≡ x.snap.rs = ap (λ (u : Own). u.snap.rs) same in
    subst (λ (b : Bool). (if b then low_from f xs else min y.snap.rs (low_from f xs)) ≤ x.snap.rs) (sym o) (omega (arith, s))
low_open f (y ∷ xs) (suc i) x e z = by_open (is_decided y.phase) (low_open f xs i x e z)
  where
    by_open : (b : Bool) → low_from f xs ≤ x.snap.rs → (if b then low_from f xs else min y.snap.rs (low_from f xs)) ≤ x.snap.rs
    by_open true r = r
    by_open false r = omega (arith, r)

pub above_low : (v : View) → Above (low v) v
above_low v = record { floor = low_floor v.floor v.own; open_ = λ i x e z. low_open v.floor v.own i x e z }

pub low_above : (g : ℕ) (v : View) → Above g v → g ≤ low v
low_above g v a = low_least g v.floor v.own a.floor a.open_

-- the low mark never falls
pub low-act : (here : Here) (input : Input) (w : Where) (d e : Doing) → Act here input w d e → low d.view ≤ low e.view
low-act here input w d e a = low_above (low d.view) e.view (above-act (low d.view) here input w d e a (above_low d.view))

-- ---- the order

pub order-act : (here : Here) (input : Input) (w : Where) (d e : Doing) → Act here input w d e → InOrder d.view.versions → InOrder e.view.versions
unfolding begun marked aborted committed closed certified asked acked requested accepted taken refused waits replied commit_came abort_came
order-act here input w d e (act_begin place rs d' r h) o = o
order-act here input w d e (act_mark k t d' rd) o = o
order-act here input w d e (act_put i x y d' own g) o = o
order-act here input w d e (act_request i k m x d' own g) o = o
order-act here input w d e (act_certify i lc snap x d' own f n c) o = order_all (map (Acts.local_version here i lc) x.writes) d'.view.versions o
order-act here input w d e (act_ask i lc p x d' own f l g) o = o
order-act here input w d e (act_ack i lc from tx p ts parts x d' own c q g) o = o
order-act here input w d e (act_abort i cause x d' own f y) o = order_filter (λ v. not (of_tx (Rattle.str_model.specs.Views.name_of here i) v)) d'.view.versions o
order-act here input w d e (act_commit i lc fc x d' own l n le f g) o =
    let tx = Rattle.str_model.specs.Views.name_of here i in
    order_all (map (settled fc) (filter (Acts.is_hosted_of here tx) d'.view.versions)) (without (of_tx tx) d'.view.versions) (order_filter (λ v. not (of_tx tx v)) d'.view.versions o)
order-act here input w d e (act_close i x d' own p n) o = o
order-act here input w d e (act_accept a ts d' h m) o = order_all (map (Acts.pre_version a ts) a.writes) d'.view.versions o
order-act here input w d e (act_refuse a u k d' h m) o = o
order-act here input w d e (act_take from a d' c l) o = order_all (map (Acts.pre_version a (proposed d'.view a)) a.writes) d'.view.versions o
order-act here input w d e (act_wait r d' h) o = o
order-act here input w d e (act_unwait kept rest r d' h) o = o
order-act here input w d e (act_reply tx k rs v u fc d' h) o = o
order-act here input w d e (act_commit_came from tx p fc ms d' c h) o = order_finalise (of_pair tx p) fc.0 d'.view.versions o
order-act here input w d e (act_abort_came from tx p d' c h) o = order_filter (λ v. not (of_pair tx p v)) d'.view.versions o
