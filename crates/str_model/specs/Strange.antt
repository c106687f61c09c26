-- Which messages are strange: a node or a key that they name does not exist, or a number of theirs is out of its range.
use Rattle.std.specs.List.{list_all, list_any}
use Rattle.std.specs.Prelude.{Bool, List, None, Option, Some, [], false, length, map, nat_le, nat_lt, not, true, ◌&&◌, ◌∷◌}
use Rattle.str_base.specs.declared.names.KeyId.{KeyId}
use Rattle.str_base.specs.declared.names.NodeId.{NodeId}
use Rattle.str_base.specs.declared.names.PartId.{PartId}
use Rattle.str_base.specs.declared.names.TextId.{TextId}
use Rattle.str_base.specs.declared.names.Ts.{Ts}
use Rattle.str_base.specs.declared.names.TxId.{TxId}
use Rattle.str_base.specs.declared.names.Value.{Value}
use Rattle.str_base.specs.declared.names.Value.TheVariants.{Absent, Num, Text}
use Rattle.str_base.specs.declared.names.Write.{Write}
use Rattle.str_model.specs.declared.messages.Body.{Body}
use Rattle.str_model.specs.declared.messages.Body.TheVariants.{Abort, Ack, Commit, Prepare, ReadReply, ReadReq, Refuse as Refusal, Replicate}
use Rattle.str_model.specs.declared.messages.Message.{Message}
use Rattle.str_model.specs.Proposals.{ts_limit}
use Rattle.str_scene.specs.Scenes.{Here, part_of}
use Rattle.str_base.specs.Versions.{same_key, same_node, same_part}

-- the node exists
abbrev pub has_node : Here → NodeId → Bool
has_node here n = nat_lt 0 n.0 && nat_le n.0 here.scene.nodes

-- the partition exists
abbrev pub has_part : Here → PartId → Bool
has_part here p = nat_lt 0 p.0 && nat_le p.0 (length here.scene.parts)

-- the key exists
abbrev pub has_key : Here → KeyId → Bool
has_key here k = nat_lt k.0 (length here.scene.keys.names)

-- the byte string exists
abbrev pub has_text : Here → TextId → Bool
has_text here t = nat_lt t.0 (length here.scene.keys.texts)

-- a byte string is one of the scene's list
abbrev pub has_value : Here → Value → Bool
has_value here Absent = true
has_value here (Num n) = true
has_value here (Text t) = has_text here t

-- so are those of all these writes
abbrev pub has_values : Here → List Write → Bool
has_values here ws = list_all (λ w. has_value here w.value) ws

-- the timestamp is below the limit
abbrev pub below_limit : Ts → Bool
below_limit t = nat_lt t.0 ts_limit

-- no key stands twice
abbrev pub distinct_keys : List KeyId → Bool
distinct_keys [] = true
distinct_keys (k ∷ ks) = not (list_any (same_key k) ks) && distinct_keys ks

-- distinct keys of the partition
abbrev pub keys_in : Here → PartId → List KeyId → Bool
keys_in here p ks = distinct_keys ks && list_all (λ k. has_key here k && same_part (part_of here.scene k) p) ks

-- the same, and one at least
abbrev pub some_keys_in : Here → PartId → List KeyId → Bool
some_keys_in here p [] = false
some_keys_in here p (k ∷ ks) = keys_in here p (k ∷ ks)

-- the writer's node exists, where there is a writer
abbrev pub has_writer : Here → Option TxId → Bool
has_writer here None = true
has_writer here (Some tx) = has_node here tx.node

-- what a Prepare and a Replicate name
abbrev pub has_named_writes : Here → TxId → PartId → Ts → Ts → List Write → Bool
has_named_writes here tx p rs lc ws =
    has_node here tx.node &&
    (has_part here p && (below_limit rs && (below_limit lc && (some_keys_in here p (map (λ w. w.key) ws) && has_values here ws))))

-- all that a message names exists, and its timestamps are below the limit
abbrev pub has_named : Here → Body → Bool
has_named here (ReadReq tx k rs) = has_node here tx.node && (has_key here k && below_limit rs)
has_named here (ReadReply tx k v by fc) = has_node here tx.node && (has_key here k && (has_value here v && (has_writer here by && below_limit fc)))
has_named here (Prepare tx p rs lc ws) = has_named_writes here tx p rs lc ws
has_named here (Refusal tx p by k) = has_node here tx.node && (has_part here p && (has_node here by.node && has_key here k))
has_named here (Replicate tx p rs lc ws) = has_named_writes here tx p rs lc ws
has_named here (Ack tx p ts) = has_node here tx.node && (has_part here p && below_limit ts)
has_named here (Commit tx p fc ms) =
    has_node here tx.node && (has_part here p && (below_limit fc && (keys_in here p (map (λ m. m.key) ms) && list_all (λ m. below_limit m.mark) ms)))
has_named here (Abort tx p) = has_node here tx.node && has_part here p

-- the message is for this node and is not strange
abbrev pub is_valid : Here → Message → Bool
is_valid here m = same_node m.receiver here.node && (has_node here m.sender && has_named here m.body)
