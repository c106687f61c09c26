use Rattle.scene_text.proofs.Taking.BuildCalls.{reached_if}
use Rattle.scene_text.proofs.read.Reader.step.Goals as goal

pub returns-clause-reached : goal.returns-clause-reached
returns-clause-reached c = reached_if c.args.self.now c.add.new.self c.args.line c.add.result c.requires.reached c.requires.form c.add.ensures.taken
