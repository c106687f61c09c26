use Rattle.std.proofs.Common.{length, ◌≡◌}
use Rattle.local_certify.specs.Judging.{judged}
use Rattle.snapshot_read.specs.Shown.{AreNamed, IsTold, of_key}
use Rattle.str_base.specs.Versions.{chain}
use Rattle.version_chain.specs.ChainLists.{Each}
use Rattle.local_certify.proofs.judging.judge_key.Given as goal

abbrev pub invariant-loop-version : goal.invariant-loop-version
invariant-loop-version l = record {
  judged_so : judged l.own l.rs.0 l.walk.newer l.joined ≡ judged l.own l.rs.0 (chain l.fn.key (of_key l.fn.is_hosted l.fn.store.versions l.fn.cache.versions)) l.fn.snap;
  named : AreNamed l.own l.joined.deps;
  told : Each (IsTold l.own l.rs.0) l.walk.newer;
}

abbrev pub decreases-loop-version : goal.decreases-loop-version
decreases-loop-version l = length l.walk.newer
