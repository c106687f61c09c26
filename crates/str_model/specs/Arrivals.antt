-- The rules of messages that come to a replica: a read request, a Prepare, a Replicate.
use Rattle.std.specs.List.{list_any}
use Rattle.std.specs.Prelude.{Bool, List, None, Option, Some, false, find, if◌then◌else◌, length, nat_lt, not, suc, zero, ℕ, ◌&&◌}
use Rattle.str_base.specs.declared.names.Cause.TheVariants.{Conflict as ByConflict}
use Rattle.str_base.specs.declared.names.KeyId.{KeyId}
use Rattle.str_base.specs.declared.names.TxId.{TxId}
use Rattle.str_base.specs.declared.names.Version.{Version}
use Rattle.str_base.specs.declared.names.Write.{Write}
use Rattle.str_model.specs.declared.messages.Arrived.{Arrived}
use Rattle.str_model.specs.declared.messages.Waiter.{Waiter}
use Rattle.str_model.specs.declared.messages.Waiter.TheVariants.{Held, Read}
use Rattle.str_model.specs.Acts.{aborted, accepted, marked, refused, replied, taken, waits}
use Rattle.str_model.specs.Proposals.{Accept, Ignore, MasterTurn, Park, Refuse, prepare_turn, proposed, takes, ts_limit}
use Rattle.str_scene.specs.Scenes.{Here, hosts_key}
use Rattle.str_model.specs.Scripts.{at_own}
use Rattle.str_model.specs.Turns.{Give, ServeTurn, ServeWait, serve_turn}
use Rattle.str_base.specs.Versions.{is_local, of_tx, same_key, same_node, same_tx, stamp}
use Rattle.str_model.specs.Views.{Doing, Own, name_of}

-- a foreign read is answered, or becomes one that waits
abbrev pub serve_done : Here → TxId → KeyId → ℕ → ServeTurn → Doing → Doing
serve_done here tx k rs (Give v by fc) d = replied here tx k v by fc d
serve_done here tx k rs (ServeWait by) d = waits (Read tx k (stamp rs)) d

-- it is this waiting read
abbrev pub waits_read : TxId → KeyId → Waiter → Bool
waits_read tx k (Read t l rs) = same_tx t tx && same_key l k
waits_read tx k (Held a) = false

-- a read request comes
unfoldable pub read_req : Here → TxId → KeyId → ℕ → Doing → Option Doing
read_req here tx k rs d =
    if hosts_key here k && (not (same_node tx.node here.node) && not (list_any (waits_read tx k) d.view.waiters))
    then Some (serve_done here tx k rs (serve_turn d.view.versions k rs) (marked k rs d))
    else None

-- what the master decided is done
abbrev pub master_done : Here → Arrived → MasterTurn → Doing → Option Doing
master_done here a (Accept ts) d = Some (accepted here a ts d)
master_done here a (Refuse by k) d = Some (refused here a by k d)
master_done here a (Park by) d = Some (waits (Held a) d)
master_done here a Ignore d = None

-- a Prepare comes
unfoldable pub prepare_rule : Here → Arrived → Doing → Option Doing
prepare_rule here a d = master_done here a (prepare_turn here d.view a) d

-- the first of these keys of which a version of this transaction stands here
abbrev pub held_key : List Version → TxId → List Write → Option Write
held_key vs tx ws = find (λ w. list_any (λ v. same_key v.key w.key && (of_tx tx v && is_local v.kind)) vs) ws

-- an own transaction that holds one of the keys is aborted
abbrev pub evict_at : Here → Arrived → ℕ → Own → Option Write → Doing → Doing
evict_at here a i x None d = d
evict_at here a i x (Some w) d = aborted here i (ByConflict a.tx w.key here.node) x d

-- an own transaction is evicted, where it holds one of the keys
abbrev pub evict_own : Here → Arrived → ℕ → Own → Doing → Doing
evict_own here a i x d = evict_at here a i x (held_key d.view.versions (name_of here i) a.writes) d

-- own undecided transactions below n with a Local version of one of the keys are aborted
abbrev pub evict : Here → Arrived → ℕ → Doing → Doing
evict here a zero d = d
evict here a (suc i) d = at_own i (evict_own here a i) (evict here a i d)

-- a Replicate is taken, where its timestamp is below the limit
abbrev pub take_if : Here → Arrived → Doing → Option Doing
take_if here a d = if nat_lt (proposed d.view a) ts_limit then Some (taken here a (proposed d.view a) d) else None

-- a Replicate comes
unfoldable pub replicate_rule : Here → Arrived → Doing → Option Doing
replicate_rule here a d =
    if takes here d.view a then take_if here a (evict here a (length d.view.own) d) else None
