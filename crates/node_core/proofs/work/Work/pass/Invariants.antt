use Rattle.std.proofs.Common.{take}
use Rattle.node_parts.specs.Owning.{open_from}
use Rattle.node_core.proofs.PassTurns.PassOver.{turns}
use Rattle.node_core.specs.Working.{Did}
use Rattle.node_core.proofs.work.Work.pass.Given as goal

abbrev pub invariant-loop-place : goal.invariant-loop-place
invariant-loop-place l = Did (turns l.fn.self.here (take l.place-index (open_from 0 l.fn.self.doing.view.own)) l.fn.self.doing) l.fn.self l.self
