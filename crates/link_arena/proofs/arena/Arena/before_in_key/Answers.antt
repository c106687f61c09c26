use Rattle.std.proofs.Common.{List, None, Option, Some, ap, sym, ℕ, ◌∙◌, ◌≡◌}
use Rattle.str_base.specs.declared.names.Version.{Version}
use Rattle.link_arena.specs.Arenas.{prev_of}
use Rattle.link_arena.specs.declared.nodes.Node.{Node}
use Rattle.link_arena.specs.declared.nodes.Side.TheVariants.{ByKey}
use Rattle.link_arena.specs.HeadLists.{key_below, key_names}
use Rattle.link_arena.specs.OneSide.{is_named, row_at}
use Rattle.link_arena.specs.Sides.{before_at, before_of, version_at}
use Rattle.link_arena.proofs.ArenaLemmas.{at_seen, has_key, key_seen, prev_is}
use Rattle.link_arena.proofs.SideLemmas.{slot_in}
use Rattle.link_arena.proofs.arena.Arena.before_in_key.Goals as goal

pub returns : goal.returns
returns c v h =
    let s = c.args.slot.0 in
    let nodes = c.self.inside.nodes in
    let heads = c.self.inside.keys.items in
    let e : version_at nodes s ≡ Some v = at_seen c.self.inside.nodes c.self.inside.keys.items c.self.inside.txs.items c.self.inside.spare c.args.self.now c.self.view_is s ∙ h in
    let i = slot_in key_below key_names ByKey nodes heads s v.key c.self.invariant.by_key (ap (λ (o : Option Version). is_named key_names v.key o) e ∙ has_key v) in
    c.slot_with.ensures ∙ ap (λ l. l.before) c.side_link.ensures ∙ sym (ap (λ (o : Option Node). before_of ByKey o) c.read.ensures)
    ∙ prev_is (before_at ByKey nodes) None (row_at key_below ByKey nodes heads v.key) s (c.self.invariant.by_key.row v.key).back i
    ∙ ap (λ (ss : List ℕ). prev_of c.args.slot.0 None ss) (key_seen c.self.inside.nodes c.self.inside.keys.items c.self.inside.txs.items c.self.inside.spare c.args.self.now c.self.view_is v.key)
