-- A step of a node: the rule of its input, then a pass over its own transactions, then those who wait.
use Rattle.std.specs.Prelude.{Bool, List, None, Option, Some, [], if◌then◌else◌, length, not, option_map, ℕ, ◌&&◌, ◌+◌, ◌∷◌}
use Rattle.str_base.specs.declared.names.NodeId.{NodeId}
use Rattle.str_base.specs.declared.names.PartId.{PartId}
use Rattle.str_base.specs.declared.names.TxId.{TxId}
use Rattle.str_model.specs.declared.messages.Body.{Body}
use Rattle.str_model.specs.declared.messages.Body.TheVariants.{Abort, Ack, Commit, Prepare, ReadReply, ReadReq, Refuse as Refusal, Replicate}
use Rattle.str_model.specs.declared.messages.Input.{Input}
use Rattle.str_model.specs.declared.messages.Input.TheVariants.{Client, Deliver}
use Rattle.str_model.specs.declared.messages.Waiter.{Waiter}
use Rattle.str_model.specs.Acts.{abort_came, commit_came}
use Rattle.str_model.specs.Arrivals.{prepare_rule, read_req, replicate_rule}
use Rattle.str_model.specs.Clients.{client_rule}
use Rattle.str_model.specs.Pass.{pass_to}
use Rattle.str_model.specs.Proposals.{holds_pair, is_done}
use Rattle.str_model.specs.Returns.{ack_rule, read_reply, refuse_rule}
use Rattle.str_scene.specs.Scenes.{Here, hosts}
use Rattle.str_model.specs.Strange.{is_valid}
use Rattle.str_base.specs.Versions.{same_node}
use Rattle.str_model.specs.Views.{Doing, View, starts}
use Rattle.str_model.specs.Waiters.{wait_turns}

-- a decision that came is for a replica that has not had it
abbrev pub decides : Here → TxId → PartId → View → Bool
decides here tx p v = hosts here.scene here.node p && (not (same_node tx.node here.node) && not (is_done v tx p))

-- the list without the first parked Prepare of the pair
abbrev pub drop_held : TxId → PartId → List Waiter → List Waiter
drop_held tx p [] = []
drop_held tx p (w ∷ ws) = if holds_pair tx p w then ws else w ∷ drop_held tx p ws

-- the rule of a message
abbrev pub body_rule : Here → NodeId → Body → Doing → Option Doing
body_rule here from (ReadReq tx k rs) d = read_req here tx k rs.0 d
body_rule here from (ReadReply tx k v by fc) d = read_reply here tx k v by fc.0 d
body_rule here from (Prepare tx p rs lc ws) d = prepare_rule here (record { tx = tx; part = p; rs = rs; lc = lc; writes = ws }) d
body_rule here from (Refusal tx p by k) d = refuse_rule here from tx p by k d
body_rule here from (Replicate tx p rs lc ws) d = replicate_rule here (record { tx = tx; part = p; rs = rs; lc = lc; writes = ws }) d
body_rule here from (Ack tx p ts) d = ack_rule here from tx p ts.0 d
body_rule here from (Commit tx p fc ms) d = if decides here tx p d.view then Some (commit_came tx p fc.0 ms d) else None
body_rule here from (Abort tx p) d =
    if decides here tx p d.view then Some (abort_came tx p (drop_held tx p d.view.waiters) d) else None

-- the rule of an input; nothing where it is idle
unfoldable pub rule : Here → Input → Doing → Option Doing
rule here (Client s t) d = client_rule here s t d
rule here (Deliver m) d = if is_valid here m then body_rule here m.sender m.body d else None

-- what follows every rule
unfoldable pub after_rule : Here → Doing → Doing
after_rule here d =
    let e = pass_to here (length d.view.own) d in
    wait_turns here [] e.view.waiters e

-- a whole step, where the input is not idle
unfoldable pub step : Here → Input → View → Option Doing
step here input view = option_map (after_rule here) (rule here input (starts view))

-- how many versions, list items, messages and answers a step adds
abbrev pub count_of : Option Doing → ℕ
count_of None = 0
count_of (Some d) = d.added + (length d.sent + length d.released)

-- the room that a step needs
unfoldable pub need : Here → Input → View → ℕ
need here input view = count_of (step here input view)
