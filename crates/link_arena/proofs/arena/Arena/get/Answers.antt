use Rattle.std.proofs.Common.{subst}
use Rattle.link_arena.specs.Arenas.{AreLists}
use Rattle.link_arena.proofs.ArenaLemmas.{are_lists}
use Rattle.link_arena.proofs.arena.Arena.get.Goals as goal

pub returns-clause-lists : goal.returns-clause-lists
returns-clause-lists c = subst AreLists c.self.view_is (are_lists c.self.inside.nodes c.self.inside.keys c.self.inside.txs c.self.inside.spare c.self.invariant)
