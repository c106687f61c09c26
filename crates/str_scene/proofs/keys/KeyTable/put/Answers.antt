use Rattle.std.proofs.Common.{ap, refl}
use Rattle.str_scene.specs.Keys.{same_pair, with_pair}
use Rattle.str_scene.proofs.TableLemmas.{insert-with_pair, put_few, put_items, put_number}
use Rattle.str_scene.proofs.keys.KeyTable.put.Goals as goal

pub invariant_of-self-2 : goal.invariant_of-self-2
invariant_of-self-2 c = (
  put_few same_pair with_pair insert-with_pair (c.args.name, c.args.part) (c.args.name, c.args.part) c.self.inside.names.keys c.args.self.now.names c.insert_full.new.self.keys
      refl (ap (λ t. t.names) c.self.view_is) c.in_ok-place.ensures.keys c.requires,
  c.self.invariant.1,
)

pub returns-clause-number : goal.returns-clause-number
returns-clause-number c =
    put_number (c.args.name, c.args.part) (c.args.name, c.args.part) c.self.inside.names.keys c.args.self.now.names c.in_ok-place.place
    refl (ap (λ t. t.names) c.self.view_is) c.in_ok-place.ensures.index c.requires

pub returns-clause-added : goal.returns-clause-added
returns-clause-added c =
    let names = put_items same_pair with_pair insert-with_pair (c.args.name, c.args.part) (c.args.name, c.args.part) c.self.inside.names.keys c.args.self.now.names c.insert_full.new.self.keys
    refl (ap (λ t. t.names) c.self.view_is) c.in_ok-place.ensures.keys in
    rw (names, ← c.self.view_is) refl
