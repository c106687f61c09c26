use Rattle.std.proofs.Common.{ap}
use Rattle.str_scene.specs.Keys.{same_pair, with_pair}
use Rattle.str_scene.proofs.TableLemmas.{added_room, found_room, insert-with_pair}
use Rattle.str_scene.proofs.keys.KeyTable.has_room.Goals as goal

pub returns-then-contains : goal.returns-then-contains
returns-then-contains c =
    found_room same_pair with_pair insert-with_pair (c.args.name.now, c.args.part) (c.short_name.result, c.args.part) c.self.inside.names.keys c.args.self.now.names c.contains.result
    (ap (λ n. (n, c.args.part)) c.short_name.ensures) (ap (λ t. t.names) c.self.view_is) c.contains.ensures c.if-contains.true c.self.invariant.0

pub returns-else-contains : goal.returns-else-contains
returns-else-contains c =
    added_room same_pair with_pair insert-with_pair (c.args.name.now, c.args.part) (c.short_name.result, c.args.part) c.self.inside.names.keys c.args.self.now.names c.contains.result c.len.result
    (ap (λ n. (n, c.args.part)) c.short_name.ensures) (ap (λ t. t.names) c.self.view_is) c.contains.ensures c.if-contains.false c.len.ensures.len
