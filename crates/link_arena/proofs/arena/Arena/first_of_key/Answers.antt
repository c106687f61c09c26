use Rattle.std.proofs.Common.{List, None, Option, ap, subst, ℕ, ◌∙◌}
use Rattle.link_arena.specs.Arenas.{AreLists}
use Rattle.link_arena.specs.declared.nodes.Ends.{Ends}
use Rattle.link_arena.specs.Rows.{first_of, first_or}
use Rattle.link_arena.proofs.ArenaLemmas.{are_lists, key_seen}
use Rattle.link_arena.proofs.arena.Arena.first_of_key.Goals as goal

pub returns-clause-first : goal.returns-clause-first
returns-clause-first c =
    c.first_slot.ensures ∙ ap (λ (o : Option Ends). first_of o) c.find.ensures ∙ (c.self.invariant.by_key.row c.args.key).first
    ∙ ap (λ (ss : List ℕ). first_or None ss) (key_seen c.self.inside.nodes c.self.inside.keys.items c.self.inside.txs.items c.self.inside.spare c.args.self.now c.self.view_is c.args.key)

pub returns-clause-lists : goal.returns-clause-lists
returns-clause-lists c = subst AreLists c.self.view_is (are_lists c.self.inside.nodes c.self.inside.keys c.self.inside.txs c.self.inside.spare c.self.invariant)
