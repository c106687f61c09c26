use Rattle.std.proofs.Common.{sym, ◌∙◌}
use Rattle.prepare_master.specs.MasterTurns.{gives}
use Rattle.str_base.specs.Versions.{chain}
use Rattle.prepare_master.proofs.Walking.{found_after, found_next, found_none, reasons_unsettled}
use Rattle.prepare_master.proofs.masters.reason_at.Goals as goal

pub loop-version-init : goal.loop-version-init
loop-version-init c =
    reasons_unsettled c.args.reason c.args.a.now (chain c.args.key c.args.store.now.versions) c.walk_from_unsettled-walk.result.older c.walk_from_unsettled-walk.result.newer
    c.walk_from_unsettled-walk.ensures.all c.walk_from_unsettled-walk.ensures.settled

pub returns-then-is_reason : goal.returns-then-is_reason
returns-then-is_reason c =
    found_next (gives c.args.reason c.args.a.now) c.in-Some.version c.loop-version.walk.newer c.newer.new.self.newer _ c.loop-version.invariant c.in-Some.ensures.newer
    (sym c.is_reason.ensures ∙ c.if-is_reason.true)

pub loop-version-preserved : goal.loop-version-preserved
loop-version-preserved c =
    found_after (gives c.args.reason c.args.a.now) c.in-Some.version c.loop-version.walk.newer c.newer.new.self.newer _ c.loop-version.invariant c.in-Some.ensures.newer
    (sym c.is_reason.ensures ∙ c.if-is_reason.false)

pub returns : goal.returns
returns c = found_none (gives c.args.reason c.args.a.now) c.loop-version.walk.newer _ c.loop-version.invariant c.in_default.ensures.end
