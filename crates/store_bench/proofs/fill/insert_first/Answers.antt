use Rattle.std.proofs.Common.{arith, sym, ◌∙◌}
use Rattle.store_bench.proofs.Filling.{first_more}
use Rattle.store_bench.proofs.fill.insert_first.Goals as goal

pub loop-i-preserved : goal.loop-i-preserved
loop-i-preserved c = record {
  here = (c.insert.ensures.here.0 ∙ c.in_ok-reserve.ensures.here.0 ∙ c.loop-i.invariant.here.0, c.insert.ensures.here.1 ∙ c.in_ok-reserve.ensures.here.1 ∙ c.loop-i.invariant.here.1);
  held = first_more c.loop-i.i c.version.result c.version.ensures.key (c.version.ensures.tx ∙ c.first_tx.ensures) c.version.ensures.ts c.version.ensures.kind (omega (arith, c.ranges.n.fits, c.loop-i-test.true))
      c.loop-i.store.versions c.insert.new.self.versions (rw (sym c.in_ok-reserve.ensures.versions) c.insert.ensures.versions) c.loop-i.invariant.held;
}
