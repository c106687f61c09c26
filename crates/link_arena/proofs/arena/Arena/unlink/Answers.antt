use Rattle.std.proofs.Common.{List, None, Option, Some, ap, arith, if◌then◌else◌, ℕ, ◌==◌, ◌∙◌}
use Rattle.str_base.specs.declared.names.KeyId.{KeyId}
use Rattle.str_base.specs.declared.names.TxId.{TxId}
use Rattle.str_base.specs.declared.names.Version.{Version}
use Rattle.str_base.specs.Versions.{of_tx, tx_before}
use Rattle.link_arena.specs.Arenas.{key_list, tx_list}
use Rattle.link_arena.specs.declared.nodes.Side.TheVariants.{ByKey, ByTx}
use Rattle.link_arena.specs.HeadLists.{key_below, key_names}
use Rattle.link_arena.specs.Rows.{taken}
use Rattle.link_arena.specs.NameOrders.{key_one, tx_one}
use Rattle.link_arena.proofs.ArenaLemmas.{are_lists, at_is, at_seen, has_key, has_tx, key_seen, list_is, side_beside, side_emptied, told, tx_seen, updated}
use Rattle.link_arena.proofs.arena.Arena.unlink.Goals as goal

pub leave-requires-2-clause-side : goal.leave-requires-2-clause-side
leave-requires-2-clause-side c = (side_beside tx_before of_tx ByTx c.self.inside.nodes c.leave.new.nodes c.self.inside.txs.items None c.self.invariant.by_tx c.leave.ensures.beside).0

pub invariant_of-self : goal.invariant_of-self
invariant_of-self c =
    let s = c.args.slot.0 in
    let k = side_beside key_below key_names ByKey c.leave.new.nodes c.leave-2.new.nodes c.leave.new.heads.items (Some s) c.leave.ensures.side c.leave-2.ensures.beside in
    record {
      by_key = (side_emptied key_below key_names ByKey c.leave-2.new.nodes c.remove.new.self c.leave.new.heads.items s k.0 c.remove.ensures.updates).0;
      by_tx = (side_emptied tx_before of_tx ByTx c.leave-2.new.nodes c.remove.new.self c.leave-2.new.heads.items s c.leave-2.ensures.side c.remove.ensures.updates).0;
      nodes_room = omega arith;
      keys_room = omega arith;
      txs_room = omega arith;
    }

pub returns-clause-at : goal.returns-clause-at
returns-clause-at c u =
    let s = c.args.slot.0 in
    at_is c.remove.new.self c.leave.new.heads.items c.leave-2.new.heads.items c.self.inside.spare u ∙ updated c.leave-2.new.nodes c.remove.new.self s None c.remove.ensures.updates u
    ∙ ap (λ (o : Option Version). if u == s then None else o) (c.leave-2.ensures.version u ∙ c.leave.ensures.version u ∙ at_seen c.self.inside.nodes c.self.inside.keys.items c.self.inside.txs.items c.self.inside.spare c.args.self.now c.self.view_is u)

pub returns-clause-key_list : goal.returns-clause-key_list
returns-clause-key_list c =
    let s = c.args.slot.0 in
    let b = side_beside key_below key_names ByKey c.leave.new.nodes c.leave-2.new.nodes c.leave.new.heads.items (Some s) c.leave.ensures.side c.leave-2.ensures.beside in
    let d = side_emptied key_below key_names ByKey c.leave-2.new.nodes c.remove.new.self c.leave.new.heads.items s b.0 c.remove.ensures.updates in
    let now = λ (k : KeyId). list_is key_below ByKey c.remove.new.self c.leave.new.heads.items k ∙ d.1 k ∙ b.1 k in
    let was = λ (k : KeyId). key_seen c.self.inside.nodes c.self.inside.keys.items c.self.inside.txs.items c.self.inside.spare c.args.self.now c.self.view_is k in
    let v = c.read.result.version in
    told key_names key_one v v.key (has_key v) _ (λ k. taken s (key_list c.args.self.now k)) (λ k. key_list c.args.self.now k)
    (now v.key ∙ c.leave.ensures.row ∙ ap (λ (ss : List ℕ). taken s ss) (was v.key))
    (λ o n. now o ∙ c.leave.ensures.others o n ∙ was o)

pub returns-clause-tx_list : goal.returns-clause-tx_list
returns-clause-tx_list c =
    let s = c.args.slot.0 in
    let b = side_beside tx_before of_tx ByTx c.self.inside.nodes c.leave.new.nodes c.self.inside.txs.items None c.self.invariant.by_tx c.leave.ensures.beside in
    let d = side_emptied tx_before of_tx ByTx c.leave-2.new.nodes c.remove.new.self c.leave-2.new.heads.items s c.leave-2.ensures.side c.remove.ensures.updates in
    let now = λ (t : TxId). list_is tx_before ByTx c.remove.new.self c.leave-2.new.heads.items t ∙ d.1 t in
    let was = λ (t : TxId). b.1 t ∙ tx_seen c.self.inside.nodes c.self.inside.keys.items c.self.inside.txs.items c.self.inside.spare c.args.self.now c.self.view_is t in
    let v = c.read.result.version in
    told of_tx tx_one v v.tx (has_tx v) _ (λ t. taken s (tx_list c.args.self.now t)) (λ t. tx_list c.args.self.now t)
    (now v.tx ∙ c.leave-2.ensures.row ∙ ap (λ (ss : List ℕ). taken s ss) (was v.tx))
    (λ o n. now o ∙ c.leave-2.ensures.others o n ∙ was o)

pub returns-clause-lists : goal.returns-clause-lists
returns-clause-lists c = are_lists c.remove.new.self c.leave.new.heads c.leave-2.new.heads c.self.inside.spare (invariant_of-self c)
