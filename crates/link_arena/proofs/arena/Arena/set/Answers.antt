use Rattle.std.proofs.Common.{Option, ap, arith, if◌then◌else◌, refl, ◌==◌, ◌∙◌}
use Rattle.str_base.specs.declared.names.Version.{Version}
use Rattle.str_base.specs.Versions.{of_tx, tx_before}
use Rattle.link_arena.specs.Arenas.{dated}
use Rattle.link_arena.specs.declared.nodes.Node.{Node}
use Rattle.link_arena.specs.declared.nodes.Side.TheVariants.{ByKey, ByTx}
use Rattle.link_arena.specs.HeadLists.{key_below, key_names}
use Rattle.link_arena.specs.Sides.{version_at, version_of}
use Rattle.link_arena.proofs.ArenaLemmas.{are_lists, at_is, at_seen, dated_at, key_seen, list_is, side_changed, tx_seen, updated}
use Rattle.link_arena.proofs.arena.Arena.set.Goals as goal

pub invariant_of-self : goal.invariant_of-self
invariant_of-self c =
    let nodes = c.self.inside.nodes in
    let i = c.self.invariant in
    record {
      by_key = (side_changed key_below key_names ByKey nodes c.write.new.nodes c.self.inside.keys.items c.args.slot.0 _ _ i.by_key c.read-node.ensures c.write.ensures.updates refl (λ k. refl)).0;
      by_tx = (side_changed tx_before of_tx ByTx nodes c.write.new.nodes c.self.inside.txs.items c.args.slot.0 _ _ i.by_tx c.read-node.ensures c.write.ensures.updates refl (λ t. refl)).0;
      nodes_room = omega arith;
      keys_room = omega arith;
      txs_room = omega arith;
    }

pub returns-clause-at : goal.returns-clause-at
returns-clause-at c u =
    let nodes = c.self.inside.nodes in
    let s = c.args.slot.0 in
    let here = ap (λ (o : Option Node). version_of o) c.read-node.ensures in
    at_is c.write.new.nodes c.self.inside.keys.items c.self.inside.txs.items c.self.inside.spare u ∙ updated nodes c.write.new.nodes s _ c.write.ensures.updates u
    ∙ dated_at (λ w. version_at nodes w) u s c.args.ts c.args.kind c.read-node.result.version here
    ∙ ap (λ (o : Option Version). if u == s then dated c.args.ts c.args.kind o else o) (at_seen c.self.inside.nodes c.self.inside.keys.items c.self.inside.txs.items c.self.inside.spare c.args.self.now c.self.view_is u)

pub returns-clause-key_list : goal.returns-clause-key_list
returns-clause-key_list c k =
    list_is key_below ByKey c.write.new.nodes c.self.inside.keys.items k
    ∙ (side_changed key_below key_names ByKey c.self.inside.nodes c.write.new.nodes c.self.inside.keys.items c.args.slot.0 _ _ c.self.invariant.by_key c.read-node.ensures c.write.ensures.updates refl (λ k. refl)).1 k
    ∙ key_seen c.self.inside.nodes c.self.inside.keys.items c.self.inside.txs.items c.self.inside.spare c.args.self.now c.self.view_is k

pub returns-clause-tx_list : goal.returns-clause-tx_list
returns-clause-tx_list c t =
    list_is tx_before ByTx c.write.new.nodes c.self.inside.txs.items t
    ∙ (side_changed tx_before of_tx ByTx c.self.inside.nodes c.write.new.nodes c.self.inside.txs.items c.args.slot.0 _ _ c.self.invariant.by_tx c.read-node.ensures c.write.ensures.updates refl (λ t. refl)).1 t
    ∙ tx_seen c.self.inside.nodes c.self.inside.keys.items c.self.inside.txs.items c.self.inside.spare c.args.self.now c.self.view_is t

pub returns-clause-lists : goal.returns-clause-lists
returns-clause-lists c = are_lists c.write.new.nodes c.self.inside.keys c.self.inside.txs c.self.inside.spare (invariant_of-self c)
