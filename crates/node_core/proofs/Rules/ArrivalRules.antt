-- The rules of messages that come to a replica, by what they are asked.
use Rattle.std.proofs.Common.{Bool, None, Some, ap, false, if◌then◌else◌, length, not, refl, sym, true, ℕ, ◌&&◌, ◌||◌, ◌≡◌}
use Rattle.std.specs.List.{list_any}
use Rattle.str_base.proofs.Tests.{and_true_left, and_true_right}
use Rattle.str_base.specs.declared.names.KeyId.{KeyId}
use Rattle.str_base.specs.declared.names.TxId.{TxId}
use Rattle.str_base.specs.declared.names.Version.{Version}
use Rattle.str_base.specs.Members.{In}
use Rattle.str_base.specs.Versions.{of_pair, same_node}
use Rattle.str_model.specs.Acts.{marked}
use Rattle.str_model.specs.Arrivals.{evict, master_done, prepare_rule, read_req, replicate_rule, serve_done, take_if, waits_read}
use Rattle.str_model.specs.declared.messages.Arrived.{Arrived}
use Rattle.str_model.specs.NodeFacts.{MomentFacts}
use Rattle.str_model.specs.Proposals.{Ignore, MasterTurn, is_known, is_parked, master_turn, prepare_turn, takes}
use Rattle.str_model.specs.Turns.{serve_turn}
use Rattle.str_model.specs.Views.{Doing, View}
use Rattle.str_model.proofs.Changes.SnapshotsGain.{if_elim}
use Rattle.str_model.proofs.Principle.OwnPaths.{nor_left}
use Rattle.str_model.proofs.Principle.RulePaths.{none_of_three}
use Rattle.str_model.proofs.ViewFacts.NodeUses.{unknown_none}
use Rattle.str_model.proofs.ViewFacts.VersionsKept.{master_hosts}
use Rattle.str_scene.specs.Scenes.{Here, hosts, hosts_key, is_master}

pub prepare_is : (here : Here) (a : Arrived) (d : Doing) (t : MasterTurn) → t ≡ prepare_turn here d.view a → prepare_rule here a d ≡ master_done here a t d
unfolding prepare_rule
prepare_is here a d t e = ap (λ z. master_done here a z d) (sym e)

-- where an arrived one may be placed: it is hosted, and no version of its pair stands
pub record MayStand (here : Here) (v : View) (a : Arrived) : Type 0 where
  pub hosted : hosts here.scene here.node a.part ≡ true
  pub none : (u : Version) → In u v.versions → of_pair a.tx a.part u ≡ false

-- a Prepare that is not left alone
pub prepare_new : (here : Here) (v : View) → MomentFacts here v → (a : Arrived) → (prepare_turn here v a ≡ Ignore → ⊥) → MayStand here v a
unfolding prepare_turn
prepare_new here v h a =
    if_elim (λ t. (t ≡ Ignore → ⊥) → MayStand here v a)
    (is_master here.scene here.node a.part && (not (same_node a.tx.node here.node) && not (is_known v a.tx a.part || is_parked v a.tx a.part)))
    (master_turn v a) Ignore
    (λ e n. let r = and_true_right (not (same_node a.tx.node here.node)) (not (is_known v a.tx a.part || is_parked v a.tx a.part)) (and_true_right (is_master here.scene here.node a.part) _ e) in
    record {
      hosted = master_hosts here a.part (and_true_left (is_master here.scene here.node a.part) _ e);
      none = unknown_none here v h a (nor_left (is_known v a.tx a.part) (is_parked v a.tx a.part) r);
    })
    (λ e n. absurd (n refl))

-- a Replicate that is taken
pub replicate_new : (here : Here) (d : Doing) → MomentFacts here d.view → (a : Arrived) (e : Doing) → replicate_rule here a d ≡ Some e → MayStand here d.view a
unfolding replicate_rule takes
replicate_new here d h a e =
    if_elim (λ o. o ≡ Some e → MayStand here d.view a) (takes here d.view a) (take_if here a (evict here a (length d.view.own) d)) None
    (λ t q. let n = none_of_three (hosts here.scene here.node a.part) (is_master here.scene here.node a.part) (same_node a.tx.node here.node) (is_known d.view a.tx a.part) t in
    record {
      hosted = and_true_left (hosts here.scene here.node a.part) (not (is_master here.scene here.node a.part) && (not (same_node a.tx.node here.node) && not (is_known d.view a.tx a.part))) t;
      none = unknown_none here d.view h a n.2;
    })
    (λ t q. absurd (cc q))
