-- What a single change does to a node's own transactions and to its floor. Laws about own transactions look at these
-- three cases, and at no act.
use Rattle.std.proofs.Common.{None, Some, [], ap, false, max, refl, slice_get, slice_set, subst, sym, ℕ, ◌++◌, ◌<◌, ◌∷◌, ◌≡◌, ◌≤◌}
use Rattle.str_base.specs.declared.names.Cause.{Cause}
use Rattle.str_scene.specs.declared.names.TxPlace.{TxPlace}
use Rattle.str_model.specs.declared.messages.Input.{Input}
use Rattle.str_model.specs.Acts.{abort_came, aborted, accepted, acked, asked, begun, certified, closed, commit_came, committed, decided_as, fresh, marked, refused, replied, requested, taken, waits}
use Rattle.str_scene.specs.Scenes.{Here}
use Rattle.str_model.specs.Turns.{Certified}
use Rattle.str_model.specs.Views.{Aborted, Committed, Doing, Local, Own, View, is_decided, lc_of}
use Rattle.str_model.proofs.Principle.SingleChanges.{Act, GoesOn, Where, act_abort, act_abort_came, act_accept, act_ack, act_ask, act_begin, act_certify, act_close, act_commit, act_commit_came, act_mark, act_put, act_refuse, act_reply, act_request, act_take, act_unwait, act_wait}
use Rattle.str_model.proofs.Changes.SnapshotsGain.{CertGood, Extends, cert_turn-good, extends_self}

-- x becomes y, and the floor f becomes g
pub data Becomes (v : View) (f g : ℕ) (x y : Own) : Type 0 where
  goes_on : GoesOn v x y → g ≡ f → Becomes v f g x y
  certifies : (lc : ℕ) → is_decided x.phase ≡ false → lc_of x.phase ≡ None → y.phase ≡ Local lc → y.place ≡ x.place → Extends v x.snap y.snap → x.snap.rs < lc → g ≡ max f lc → Becomes v f g x y
  commits : (lc fc : ℕ) → is_decided x.phase ≡ false → lc_of x.phase ≡ Some lc → lc ≤ fc → y ≡ decided_as (Committed (Some lc) (Some fc)) x → g ≡ max f fc → Becomes v f g x y
  closes : is_decided x.phase ≡ false → lc_of x.phase ≡ None → y ≡ decided_as (Committed None None) x → g ≡ f → Becomes v f g x y
  aborts : (cause : Cause) → is_decided x.phase ≡ false → y ≡ decided_as (Aborted (lc_of x.phase) cause) x → g ≡ f → Becomes v f g x y

pub data OwnStep (d e : View) : Type 0 where
  rests : e.own ≡ d.own → e.floor ≡ d.floor → OwnStep d e
  starts_one : (place : TxPlace) (rs : ℕ) → d.floor ≤ rs → e.own ≡ d.own ++ fresh place rs ∷ [] → e.floor ≡ rs → OwnStep d e
  turns_one : (i : ℕ) (x y : Own) → slice_get d.own i ≡ Some x → e.own ≡ slice_set d.own i y → Becomes d d.floor e.floor x y → OwnStep d e

-- ---- each act

module _ (here : Here) (input : Input) (w : Where) where
  unfoldable pub own_step : (d e : Doing) → Act here input w d e → OwnStep d.view e.view
  unfolding begun marked aborted committed closed certified asked acked requested accepted taken refused waits replied commit_came abort_came
  own_step d e (act_begin place rs d' r h) = starts_one place rs h.above refl refl
  own_step d e (act_mark k t d' rd) = rests refl refl
  own_step d e (act_put i x y d' own g) = turns_one i x y own.0 refl (goes_on g.goes refl)
  own_step d e (act_request i k m x d' own g) = turns_one i x _ own.0 refl (goes_on g.goes refl)
  own_step d e (act_certify i lc snap x d' own f n c) =
      let good : CertGood d'.view x.snap (Certified lc snap) = subst (CertGood d'.view x.snap) c (cert_turn-good here d'.view x.snap x.writes) in
      turns_one i x _ own.0 refl (certifies lc f n refl refl good.0 good.1 refl)
  own_step d e (act_ask i lc p x d' own f l g) =
      turns_one i x _ own.0 refl (goes_on (record { was_open = f; is_open = refl; same_place = refl; snap = extends_self d'.view x.snap; same_lc = sym l }) refl)
  own_step d e (act_ack i lc from tx p ts parts x d' own c q g) =
      turns_one i x _ own.0 refl (goes_on (record { was_open = ap is_decided q; is_open = ap is_decided q; same_place = refl; snap = extends_self d'.view x.snap; same_lc = refl }) refl)
  own_step d e (act_abort i cause x d' own f y) = turns_one i x _ own.0 refl (aborts cause f refl refl)
  own_step d e (act_commit i lc fc x d' own l n le f g) = turns_one i x _ own.0 refl (commits lc fc f l le refl refl)
  own_step d e (act_close i x d' own p n) = turns_one i x _ own.0 refl (closes (ap is_decided p) (ap lc_of p) refl refl)
  own_step d e (act_accept a ts d' h m) = rests refl refl
  own_step d e (act_refuse a u k d' h m) = rests refl refl
  own_step d e (act_take from a d' c l) = rests refl refl
  own_step d e (act_wait r d' h) = rests refl refl
  own_step d e (act_unwait kept rest r d' h) = rests refl refl
  own_step d e (act_reply tx k rs v u fc d' h) = rests refl refl
  own_step d e (act_commit_came from tx p fc ms d' c h) = rests refl refl
  own_step d e (act_abort_came from tx p d' c h) = rests refl refl
