-- Rules of messages that leave the own transactions and the answers alone.
use Rattle.std.proofs.Common.{Bool, None, Option, Some, false, if◌then◌else◌, not, refl, subst, true, ℕ, ◌&&◌, ◌≡◌}
use Rattle.std.specs.List.{list_any}
use Rattle.str_base.specs.declared.names.KeyId.{KeyId}
use Rattle.str_base.specs.declared.names.TxId.{TxId}
use Rattle.str_base.specs.Versions.{same_node, stamp}
use Rattle.str_scene.specs.Scenes.{Here, hosts_key}
use Rattle.str_model.specs.declared.messages.Arrived.{Arrived}
use Rattle.str_model.specs.declared.messages.Waiter.TheVariants.{Held, Read}
use Rattle.str_model.specs.Acts.{accepted, marked, refused, replied, waits}
use Rattle.str_model.specs.Arrivals
use Rattle.str_model.specs.Proposals.{Accept, Ignore, MasterTurn, Park, Refuse}
use Rattle.str_model.specs.Turns.{Give, ServeTurn, ServeWait, serve_turn}
use Rattle.str_model.specs.Views.{Doing}

-- the own transactions and the answers are as before
pub record IsQuiet (d r : Doing) : Type 0 where
  pub own : r.view.own ≡ d.view.own
  pub released : r.released ≡ d.released

quiet_as : (d z r : Doing) → IsQuiet d z → z ≡ r → IsQuiet d r
quiet_as d z r q e = subst (IsQuiet d) e q

pub by_if : (b : Bool) (o : Option Doing) (r : Doing) → (if b then o else None) ≡ Some r → (b ≡ true) × (o ≡ Some r)
by_if true o r e = (refl, e)
by_if false o r e = absurd (cc e)

module _ (here : Here) where
  -- a read request
  pub read_req_quiet : (tx : TxId) (k : KeyId) (rs : ℕ) (d r : Doing) → Arrivals.read_req here tx k rs d ≡ Some r → IsQuiet d r
  unfolding Arrivals.read_req marked replied waits
  read_req_quiet tx k rs d r e =
      let q = by_if (hosts_key here k && (not (same_node tx.node here.node) && not (list_any (Arrivals.waits_read tx k) d.view.waiters)))
      (Some (Arrivals.serve_done here tx k rs (serve_turn d.view.versions k rs) (marked k rs d))) r e in
      by_turn (serve_turn d.view.versions k rs) q.1
    where
      by_turn : (t : ServeTurn) → Some (Arrivals.serve_done here tx k rs t (marked k rs d)) ≡ Some r → IsQuiet d r
      by_turn (Give v by fc) s = quiet_as d (replied here tx k v by fc (marked k rs d)) r (record { own = refl; released = refl }) (cc s)
      by_turn (ServeWait by) s = quiet_as d (waits (Read tx k (stamp rs)) (marked k rs d)) r (record { own = refl; released = refl }) (cc s)

  -- what the master decides
  pub master_quiet : (a : Arrived) (t : MasterTurn) (d r : Doing) → Arrivals.master_done here a t d ≡ Some r → IsQuiet d r
  unfolding accepted refused waits
  master_quiet a (Accept ts) d r e = quiet_as d (accepted here a ts d) r (record { own = refl; released = refl }) (cc e)
  master_quiet a (Refuse u k) d r e = quiet_as d (refused here a u k d) r (record { own = refl; released = refl }) (cc e)
  master_quiet a (Park u) d r e = quiet_as d (waits (Held a) d) r (record { own = refl; released = refl }) (cc e)
  master_quiet a Ignore d r e = absurd (cc e)
