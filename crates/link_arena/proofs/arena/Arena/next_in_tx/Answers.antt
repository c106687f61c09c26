use Rattle.std.proofs.Common.{List, Option, Some, ap, sym, ℕ, ◌∙◌, ◌≡◌}
use Rattle.str_base.specs.declared.names.Version.{Version}
use Rattle.str_base.specs.Versions.{of_tx, tx_before}
use Rattle.link_arena.specs.Arenas.{next_of}
use Rattle.link_arena.specs.declared.nodes.Node.{Node}
use Rattle.link_arena.specs.declared.nodes.Side.TheVariants.{ByTx}
use Rattle.link_arena.specs.OneSide.{is_named, row_at}
use Rattle.link_arena.specs.Sides.{after_at, after_of, version_at}
use Rattle.link_arena.proofs.ArenaLemmas.{at_seen, has_tx, next_is, tx_seen}
use Rattle.link_arena.proofs.SideLemmas.{slot_in}
use Rattle.link_arena.proofs.arena.Arena.next_in_tx.Goals as goal

pub returns : goal.returns
returns c v h =
    let s = c.args.slot.0 in
    let nodes = c.self.inside.nodes in
    let heads = c.self.inside.txs.items in
    let e : version_at nodes s ≡ Some v = at_seen c.self.inside.nodes c.self.inside.keys.items c.self.inside.txs.items c.self.inside.spare c.args.self.now c.self.view_is s ∙ h in
    let i = slot_in tx_before of_tx ByTx nodes heads s v.tx c.self.invariant.by_tx (ap (λ (o : Option Version). is_named of_tx v.tx o) e ∙ has_tx v) in
    c.slot_with.ensures ∙ ap (λ l. l.after) c.side_link.ensures ∙ sym (ap (λ (o : Option Node). after_of ByTx o) c.read.ensures)
    ∙ next_is (after_at ByTx nodes) (row_at tx_before ByTx nodes heads v.tx) s (c.self.invariant.by_tx.row v.tx).forth i
    ∙ ap (λ (ss : List ℕ). next_of c.args.slot.0 ss) (tx_seen c.self.inside.nodes c.self.inside.keys.items c.self.inside.txs.items c.self.inside.spare c.args.self.now c.self.view_is v.tx)
