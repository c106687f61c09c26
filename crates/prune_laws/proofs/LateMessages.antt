-- A reply or a refusal that comes to a transaction that has its decision is idle, whatever else it tells.
use Rattle.prune_laws.specs.PruneLaw.{IsDecidedIn}
use Rattle.si_laws.proofs.Stages.LinkedStates.{one_of}
use Rattle.si_laws.proofs.Stages.ParticipantSeats.{to_nth}
use Rattle.std.proofs.Common.{Bool, List, None, Option, Some, ap, eqb-true, false, if◌then◌else◌, option_map, refl, slice_get, subst, true, ℕ, ◌+◌, ◌∙◌, ◌≡◌}
use Rattle.str_base.specs.declared.names.KeyId.{KeyId}
use Rattle.str_base.specs.declared.names.NodeId.{NodeId}
use Rattle.str_base.specs.declared.names.PartId.{PartId}
use Rattle.str_base.specs.declared.names.Ts.{Ts}
use Rattle.str_base.specs.declared.names.TxId.{TxId}
use Rattle.str_base.specs.declared.names.Value.{Value}
use Rattle.str_base.specs.Versions.{same_node}
use Rattle.str_model.specs.declared.messages.Body.{Body}
use Rattle.str_model.specs.declared.messages.Body.TheVariants.{ReadReply, Refuse}
use Rattle.str_model.specs.declared.messages.Input.TheVariants.{Deliver}
use Rattle.str_model.specs.declared.messages.Message.{Message}
use Rattle.str_model.specs.Returns.{own_named}
use Rattle.str_model.specs.Runs.{World}
use Rattle.str_model.specs.Steps.{after_rule, body_rule, rule, step}
use Rattle.str_model.specs.Strange.{is_valid}
use Rattle.str_model.specs.Views.{Own, View, is_decided, starts}
use Rattle.str_scene.specs.Scenes.{Scene, nth}
use Rattle.str_model.proofs.Principle.Everywhere.{at_place}
use Rattle.str_model.proofs.Pruning.TwinRules.{idle_refuse, idle_reply}

-- a reply or a refusal of a transaction that has its decision
pub data IsLate (w : World) : Body → Type 0 where
  late_reply : (tx : TxId) (k : KeyId) (v : Value) (by : Option TxId) (fc : Ts) → IsDecidedIn w tx → IsLate w (ReadReply tx k v by fc)
  late_refuse : (tx : TxId) (p : PartId) (by : TxId) (k : KeyId) → IsDecidedIn w tx → IsLate w (Refuse tx p by k)

module _ (scene : Scene) (w : World) (i : ℕ) (v u : View) (at : slice_get w.nodes i ≡ Some v) (own : u.own ≡ v.own) where
  named_decided : (tx : TxId) → IsDecidedIn w tx → (x : Own) → own_named (at_place scene i) tx (starts u) ≡ Some x → is_decided x.phase ≡ true
  named_decided tx c x q = by_node (same_node tx.node (at_place scene i).node) refl
    where
      by_node : (b : Bool) → same_node tx.node (at_place scene i).node ≡ b → is_decided x.phase ≡ true
      by_node false z = absurd (cc (subst (λ (y : Bool). (if y then nth u.own tx.seq else None) ≡ Some x) z q))
      by_node true z =
          let named : nth u.own tx.seq ≡ Some x = subst (λ (y : Bool). (if y then nth u.own tx.seq else None) ≡ Some x) z q in
          let node : tx.node.0 ≡ i + 1 = eqb-true tx.node.0 (i + 1) z in
          let here : nth w.nodes tx.node.0 ≡ Some v = ap (λ (k : ℕ). nth w.nodes k) node ∙ to_nth w.nodes i v at in
          let same : c.1.0 ≡ v = one_of c.1.0 v (nth w.nodes tx.node.0) c.1.1 here in
          let there : nth u.own tx.seq ≡ Some c.0 = ap (λ (xs : List Own). nth xs tx.seq) own ∙ subst (λ (y : View). nth y.own tx.seq ≡ Some c.0) same c.1.2 in
          let one : x ≡ c.0 = one_of x c.0 (nth u.own tx.seq) named there in
          ap (λ (y : Own). is_decided y.phase) one ∙ c.2

  late_rule : (from : NodeId) (b : Body) → IsLate w b → body_rule (at_place scene i) from b (starts u) ≡ None
  late_rule from b (late_reply tx k a by fc c) = idle_reply 0 (IsDecidedIn w) (at_place scene i) tx k a by fc.0 (starts u) (named_decided tx c)
  late_rule from b (late_refuse tx p by k c) = idle_refuse 0 (IsDecidedIn w) (at_place scene i) from tx p by k (starts u) (named_decided tx c)

  pub late_step : (m : Message) → IsLate w m.body → step (at_place scene i) (Deliver m) u ≡ None
  unfolding step rule
  late_step m c = by_valid (is_valid (at_place scene i) m)
    where
      by_valid : (b : Bool) → option_map (after_rule (at_place scene i)) (if b then body_rule (at_place scene i) m.sender m.body (starts u) else None) ≡ None
      by_valid true = ap (option_map (after_rule (at_place scene i))) (late_rule m.sender m.body c)
      by_valid false = refl
