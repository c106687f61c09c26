use Rattle.std.proofs.Common.{ap}
use Rattle.std.specs.Str.{bytes_eq}
use Rattle.str_scene.specs.Keys.{with_string}
use Rattle.str_scene.proofs.TableLemmas.{added_room, found_room, insert-with_string}
use Rattle.str_scene.proofs.keys.KeyTable.has_text_room.Goals as goal

pub returns-then-contains : goal.returns-then-contains
returns-then-contains c =
    found_room bytes_eq with_string insert-with_string c.args.bytes.now c.byte_text.result c.self.inside.texts.keys c.args.self.now.texts c.contains.result
    c.byte_text.ensures (ap (λ t. t.texts) c.self.view_is) c.contains.ensures c.if-contains.true c.self.invariant.1

pub returns-else-contains : goal.returns-else-contains
returns-else-contains c =
    added_room bytes_eq with_string insert-with_string c.args.bytes.now c.byte_text.result c.self.inside.texts.keys c.args.self.now.texts c.contains.result c.len.result
    c.byte_text.ensures (ap (λ t. t.texts) c.self.view_is) c.contains.ensures c.if-contains.false c.len.ensures.len
