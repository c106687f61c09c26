use Rattle.std.proofs.Common.{ap, arith, length, subst, sym, ◌∙◌}
use Rattle.local_certify.proofs.Stepping.{all_told, each_left, judged_unsettled, next_conflicts, next_joins, none_left, told_later, told_of}
use Rattle.local_certify.specs.Judging.{judged}
use Rattle.snapshot_read.specs.Shown.{IsTold}
use Rattle.version_chain.specs.ChainLists.{Each}
use Rattle.local_certify.proofs.judging.judge_key.Goals as goal

pub loop-version-init : goal.loop-version-init
loop-version-init c =
    let own = c.args.own.now in
    let walk = c.unsettled-walk.result in
    record {
      judged_so = sym (ap (λ vs. judged own c.args.rs.0 vs c.args.snap) c.unsettled-walk.ensures.all ∙ judged_unsettled own c.args.rs.0 walk.older walk.newer c.args.snap c.unsettled-walk.ensures.settled);
      named = c.requires.deps;
      told = each_left (IsTold own c.args.rs.0) walk.older walk.newer
          (subst (λ vs. Each (IsTold own c.args.rs.0) vs) c.unsettled-walk.ensures.all
          (all_told own c.args.rs.0 c.args.is_hosted c.args.store.now.versions c.args.cache.now.versions c.args.key c.requires.told));
    }

pub returns-then-conflicts-clause-value : goal.returns-then-conflicts-clause-value
returns-then-conflicts-clause-value c =
    next_conflicts c.args.own.now c.args.rs.0 c.in-Some.version c.loop-version.walk.newer c.newer.new.self.newer c.loop-version.joined _ c.loop-version.invariant.judged_so c.in-Some.ensures.newer
    (sym c.if-conflicts.ensures)

pub join_one-joined-requires-clause-deps : goal.join_one-joined-requires-clause-deps
join_one-joined-requires-clause-deps c = c.loop-version.invariant.named

pub join_one-joined-requires-clause-others : goal.join_one-joined-requires-clause-others
join_one-joined-requires-clause-others c =
    told_of c.args.own.now c.args.rs.0 c.in-Some.version c.loop-version.walk.newer c.newer.new.self.newer c.loop-version.invariant.told c.in-Some.ensures.newer (sym c.if-conflicts.ensures)

pub loop-version-preserved : goal.loop-version-preserved
loop-version-preserved c =
    record {
      judged_so = next_joins c.args.own.now c.args.rs.0 c.in-Some.version c.loop-version.walk.newer c.newer.new.self.newer c.loop-version.joined c.join_one-joined.result _
          c.loop-version.invariant.judged_so c.in-Some.ensures.newer (sym c.if-conflicts.ensures) c.join_one-joined.ensures.value;
      named = c.join_one-joined.ensures.kept;
      told = told_later c.args.own.now c.args.rs.0 c.in-Some.version c.loop-version.walk.newer c.newer.new.self.newer c.loop-version.invariant.told c.in-Some.ensures.newer;
    }

pub returns-clause-value : goal.returns-clause-value
returns-clause-value c =
    none_left c.args.own.now c.args.rs.0 c.loop-version.walk.newer c.loop-version.joined _ c.loop-version.invariant.judged_so c.in_default.ensures.end

pub returns-clause-kept : goal.returns-clause-kept
returns-clause-kept c = c.loop-version.invariant.named
