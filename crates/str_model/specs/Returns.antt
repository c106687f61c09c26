-- The rules of messages that come back to a transaction's origin: a reply, an answer of a participant, a refusal.
use Rattle.std.specs.List.{list_any}
use Rattle.std.specs.Prelude.{Bool, List, None, Option, Some, [], if◌then◌else◌, is_some, not, option_map, ℕ, ◌&&◌, ◌-◌, ◌∷◌}
use Rattle.partition_map.specs.declared.rows.Asked.{Asked}
use Rattle.str_base.specs.declared.names.Cause.TheVariants.{Conflict as ByConflict}
use Rattle.str_base.specs.declared.names.KeyId.{KeyId}
use Rattle.str_base.specs.declared.names.NodeId.{NodeId}
use Rattle.str_base.specs.declared.names.PartId.{PartId}
use Rattle.str_base.specs.declared.names.TxId.{TxId}
use Rattle.str_base.specs.declared.names.Value.{Value}
use Rattle.str_model.specs.Acts.{aborted, acked, in_phase}
use Rattle.str_scene.specs.Scenes.{Here, is_master, nth}
use Rattle.str_base.specs.Versions.{same_key, same_node, same_part, stamp}
use Rattle.str_model.specs.Views.{Doing, Global, Own, Phase, Remote, Reply, put}

-- the own transaction that a message names
abbrev pub own_named : Here → TxId → Doing → Option Own
own_named here tx d = if same_node tx.node here.node then nth d.view.own tx.seq else None

-- a reply is kept, where it was waited for
abbrev pub reply_phase : ℕ → Own → KeyId → Value → Option TxId → ℕ → Phase → Doing → Option Doing
reply_phase i x k v by fc (Remote l) d = if same_key l k then Some (put i (in_phase (Reply k v by fc) x) d) else None
reply_phase i x k v by fc _ d = None

-- the same of the own transaction, where there is one
abbrev pub reply_own : ℕ → KeyId → Value → Option TxId → ℕ → Option Own → Doing → Option Doing
reply_own i k v by fc None d = None
reply_own i k v by fc (Some x) d = reply_phase i x k v by fc x.phase d

-- a reply comes
unfoldable pub read_reply : Here → TxId → KeyId → Value → Option TxId → ℕ → Doing → Option Doing
read_reply here tx k v by fc d = reply_own (tx.seq - 1) k v by fc (own_named here tx d) d

-- the participants with this answer, where the partition is asked and the participant has not answered
abbrev pub with_ack : List Asked → PartId → NodeId → ℕ → Option (List Asked)
with_ack [] p n ts = None
with_ack (a ∷ as') p n ts =
    if same_part a.part p && (same_node a.node n && (a.asked && not (is_some a.ack)))
    then Some (record a { ack = Some (stamp ts) } ∷ as')
    else option_map (λ bs. a ∷ bs) (with_ack as' p n ts)

-- the participants with the answer are kept
abbrev pub ack_kept : ℕ → Own → Option (List Asked) → Doing → Option Doing
ack_kept i x None d = None
ack_kept i x (Some parts) d = Some (acked i parts x d)

-- an answer counts for a transaction that has asked
abbrev pub ack_phase : ℕ → Own → NodeId → PartId → ℕ → Phase → Doing → Option Doing
ack_phase i x from p ts (Global lc) d = ack_kept i x (with_ack x.parts p from ts) d
ack_phase i x from p ts _ d = None

-- the same of the own transaction, where there is one
abbrev pub ack_own : ℕ → NodeId → PartId → ℕ → Option Own → Doing → Option Doing
ack_own i from p ts None d = None
ack_own i from p ts (Some x) d = ack_phase i x from p ts x.phase d

-- an answer of a participant comes
unfoldable pub ack_rule : Here → NodeId → TxId → PartId → ℕ → Doing → Option Doing
ack_rule here from tx p ts d = ack_own (tx.seq - 1) from p ts (own_named here tx d) d

-- the partition is asked
abbrev pub has_asked : List Asked → PartId → Bool
has_asked parts p = list_any (λ a. same_part a.part p && a.asked) parts

-- a refusal counts where the partition is asked and the sender is its master
abbrev pub refuse_phase : Here → ℕ → Own → NodeId → PartId → TxId → KeyId → Phase → Doing → Option Doing
refuse_phase here i x from p by k (Global lc) d =
    if has_asked x.parts p && is_master here.scene from p then Some (aborted here i (ByConflict by k from) x d) else None
refuse_phase here i x from p by k _ d = None

-- the same of the own transaction, where there is one
abbrev pub refuse_own : Here → ℕ → NodeId → PartId → TxId → KeyId → Option Own → Doing → Option Doing
refuse_own here i from p by k None d = None
refuse_own here i from p by k (Some x) d = refuse_phase here i x from p by k x.phase d

-- a refusal comes
unfoldable pub refuse_rule : Here → NodeId → TxId → PartId → TxId → KeyId → Doing → Option Doing
refuse_rule here from tx p by k d = refuse_own here (tx.seq - 1) from p by k (own_named here tx d) d
