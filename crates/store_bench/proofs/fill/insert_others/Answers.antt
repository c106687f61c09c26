use Rattle.std.proofs.Common.{ap, arith, sym, ◌+◌, ◌∙◌}
use Rattle.str_base.specs.declared.names.TxId.{TxId}
use Rattle.store_bench.proofs.Filling.{other_more}
use Rattle.store_bench.proofs.fill.insert_others.Goals as goal

pub loop-k-preserved : goal.loop-k-preserved
loop-k-preserved c = record {
  here = (c.insert.ensures.here.0 ∙ c.in_ok-reserve.ensures.here.0 ∙ c.loop-k.invariant.here.0, c.insert.ensures.here.1 ∙ c.in_ok-reserve.ensures.here.1 ∙ c.loop-k.invariant.here.1);
  held = other_more c.args.size.versions (1 + c.loop-k.k) (1 + (c.loop-k.k + 1)) c.version.result (omega arith) c.version.ensures.key (ap (λ (t : TxId). t.node.0) (c.version.ensures.tx ∙ c.other_tx.ensures)) c.version.ensures.ts c.version.ensures.kind
      c.loop-k.store.versions c.insert.new.self.versions (rw (sym c.in_ok-reserve.ensures.versions) c.insert.ensures.versions) c.loop-k.invariant.held;
}
