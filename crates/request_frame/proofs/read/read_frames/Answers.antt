use Rattle.std.proofs.Common.{[], arith, drop, length, refl, subst, sym, take, ◌-◌}
use Rattle.std.proofs.lemmas.Grind.{common_steps}
use Rattle.request_frame.proofs.BytesRead.{reached_version, read_all, read_bad, read_cut, read_finishes, read_more, read_past, read_starts}
use Rattle.request_frame.proofs.OpsRead.{none_left, some_left}
use Rattle.request_frame.specs.Reading.{IsFaultOf}
use Rattle.request_frame.specs.Spelling.{IsFrames}
use Rattle.scene_text.proofs.Taking.HeadLines.{mk}
use Rattle.scene_text.specs.Reading.{IsReached}
use Rattle.scene_text.specs.declared.order.Place.TheVariants.{AfterVersion}
use Rattle.str_scene.specs.Drafts.{empty_draft}
use Rattle.request_frame.proofs.read.read_frames.Goals as goal

pub loop-place-init : goal.loop-place-init
loop-place-init c = record {
  read = read_starts c.args.bytes.now (take (length c.args.bytes.now - 5) (drop 5 c.args.bytes.now)) (mk AfterVersion (empty_draft c.in_ok-version.version) []) c.new-reader.result
      c.in_ok-version.ensures.long refl c.new-reader.ensures c.in_ok-version.ensures.read;
  reached = subst IsReached (sym c.new-reader.ensures) (reached_version c.in_ok-version.version c.in_ok-version.ensures.known);
}

pub loop-place-preserved : goal.loop-place-preserved
loop-place-preserved c = record {
  read = read_more c.args.bytes.now c.loop-place.left.now c.in-Some.payload.now c.in-Some.rest.now c.in-Some.kind c.loop-place.reader c.take_frame.new.reader c.loop-place.invariant.read
      c.in-Some.ensures.frame c.in_default-take_frame.ensures.taken;
  reached = c.in_default-take_frame.ensures.reached;
}

pub returns-in_default-clause-bad : goal.returns-in_default-clause-bad
returns-in_default-clause-bad c =
    read_cut c.args.bytes.now c.loop-place.left.now c.loop-place.reader c.loop-place.invariant.read (λ e. grind (arith, common_steps, c.is_at_end.ensures.1 e)) (c.in_default.ensures.none refl)

pub returns-in-Err-clause-bad : goal.returns-in-Err-clause-bad
returns-in-Err-clause-bad c =
    subst (IsFaultOf c.args.bytes.now) (sym c.fault_at.ensures)
    (read_bad c.args.bytes.now c.loop-place.left.now c.in-Some.payload.now c.in-Some.rest.now c.in-Some.kind c.loop-place.reader c.in-Err.fault c.loop-place.invariant.read
    (λ e. grind (arith, common_steps, c.is_at_end.ensures.1 e)) c.in-Some.ensures.frame c.in-Err.ensures.bad)

pub returns-then-not-is_empty-clause-bad : goal.returns-then-not-is_empty-clause-bad
returns-then-not-is_empty-clause-bad c =
    read_past c.args.bytes.now c.loop-place.left.now c.loop-place.reader c.loop-place.invariant.read (c.is_at_end.ensures.0 (grind (arith, common_steps)))
    (some_left c.loop-place.left.now c.if-not-is_empty.ensures)

pub finish-requires : goal.finish-requires
finish-requires c =
    read_finishes c.args.bytes.now c.loop-place.left.now c.loop-place.reader c.loop-place.invariant.read (c.is_at_end.ensures.0 (grind (arith, common_steps)))
    (none_left c.loop-place.left.now c.if-not-is_empty.ensures)

pub returns-clause-read : goal.returns-clause-read
returns-clause-read c =
    subst (IsFrames c.args.bytes.now) (sym c.finish.ensures)
    (read_all c.args.bytes.now c.loop-place.left.now c.loop-place.reader c.loop-place.invariant.read (c.is_at_end.ensures.0 (grind (arith, common_steps)))
    (none_left c.loop-place.left.now c.if-not-is_empty.ensures)).spelled
