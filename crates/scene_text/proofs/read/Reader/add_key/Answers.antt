use Rattle.std.proofs.Common.{ap}
use Rattle.scene_text.proofs.Taking.TableRoom.{keys_refused}
use Rattle.scene_text.proofs.read.Reader.add_key.Goals as goal

pub returns-clause-refused : goal.returns-clause-refused
returns-clause-refused c =
    keys_refused c.args.self.now c.self.inside.build c.args.name.now c.as_slice.result.now c.args.part c.key.result (ap (λ x. x.draft) c.self.view_is) c.as_slice.ensures.items c.requires.reached c.requires.order c.requires.named c.key.ensures.refused
