use Rattle.std.proofs.Common.{ap, refl}
use Rattle.std.specs.Str.{bytes_eq}
use Rattle.str_scene.specs.Keys.{with_string}
use Rattle.str_scene.proofs.TableLemmas.{insert-with_string, put_few, put_items, put_text_number}
use Rattle.str_scene.proofs.keys.KeyTable.intern_text.Goals as goal

pub invariant_of-self-2 : goal.invariant_of-self-2
invariant_of-self-2 c = (
  c.self.invariant.0,
  put_few bytes_eq with_string insert-with_string c.args.bytes.now c.byte_text.result c.self.inside.texts.keys c.args.self.now.texts c.insert_full.new.self.keys
      c.byte_text.ensures (ap (λ t. t.texts) c.self.view_is) c.in_ok-place.ensures.keys c.requires.room,
)

pub returns-clause-number : goal.returns-clause-number
returns-clause-number c =
    put_text_number c.args.bytes.now c.byte_text.result c.self.inside.texts.keys c.args.self.now.texts c.in_ok-place.place
    c.byte_text.ensures (ap (λ t. t.texts) c.self.view_is) c.in_ok-place.ensures.index c.requires.room

pub returns-clause-added : goal.returns-clause-added
returns-clause-added c =
    let texts = put_items bytes_eq with_string insert-with_string c.args.bytes.now c.byte_text.result c.self.inside.texts.keys c.args.self.now.texts c.insert_full.new.self.keys
    c.byte_text.ensures (ap (λ t. t.texts) c.self.view_is) c.in_ok-place.ensures.keys in
    rw (texts, ← c.self.view_is) refl
