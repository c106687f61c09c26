use Rattle.std.proofs.Common.{sym, ◌∙◌}
use Rattle.local_certify.proofs.Certifying.{gives_close, gives_conflict}
use Rattle.local_certify.proofs.Stepping.{judged_all_rs}
use Rattle.local_certify.specs.Turning.{turn_of}
use Rattle.snapshot_read.specs.Shown.{held}
use Rattle.local_certify.proofs.certs.judge.Goals as goal

pub close-requires-clause-rs : goal.close-requires-clause-rs
close-requires-clause-rs c =
    rw
    (judged_all_rs c.args.own.now c.args.snap.now.rs (held c.args.map.now c.args.node c.args.store.now.versions c.args.cache.now.versions) c.as_slice-items.result.now c.args.snap.now c.in-Ok.joined
    (sym c.judge_all.ensures ∙ c.in-Ok.is))
    c.requires.times.snap

pub returns-in-Ok : goal.returns-in-Ok
returns-in-Ok c =
    gives_close c.args.node c.args.map.now c.args.own.now c.args.store.now.versions c.args.cache.now.versions c.args.marks.now c.args.snap.now c.args.writes.now c.as_slice-items.result.now
    c.as_slice-items.ensures.items c.passed-past.result (turn_of c.close.result) c.in-Ok.joined (sym c.in-Ok.is ∙ c.judge_all.ensures) c.passed-past.ensures.value c.close.ensures

pub returns-in-Err : goal.returns-in-Err
returns-in-Err c =
    gives_conflict c.args.node c.args.map.now c.args.own.now c.args.store.now.versions c.args.cache.now.versions c.args.marks.now c.args.snap.now c.args.writes.now c.as_slice-items.result.now
    c.as_slice-items.ensures.items c.in-Err.field-0 (sym c.in-Err.is ∙ c.judge_all.ensures)
