use Rattle.std.proofs.Common.{ap, arith, length, ◌∙◌, ◌+◌, ◌≤◌, [], refl, sym}
use Rattle.std.proofs.lemmas.Grind.{common_steps}
use Rattle.std.proofs.lemmas.List.{length-map}
use Rattle.request_frame.proofs.Payloads.{part_misplaced}
use Rattle.request_frame.proofs.SimpleFrames.{part_bad, part_long, part_takes}
use Rattle.scene_text.specs.LineOrder.{part_follows}
use Rattle.scene_text.specs.declared.lines.Line.TheVariants.{Part as LPart}
use Rattle.request_frame.proofs.read_frame.part_frame.Goals as goal

pub returns-in_default-clause-bad : goal.returns-in_default-clause-bad
returns-in_default-clause-bad c =
    part_misplaced c.args.payload.now c.args.reader.now (ap part_follows (sym c.place.ensures) ∙ (sym (c.follows.ensures (LPart (record { 0 = 1 }) []) refl) ∙ c.in_default.is))

pub returns-then-payload-gt-REPLICAS-clause-bad : goal.returns-then-payload-gt-REPLICAS-clause-bad
returns-then-payload-gt-REPLICAS-clause-bad c =
    part_long c.args.reader.now c.args.payload.now c.in-Some.field-0 c.if-payload-gt-REPLICAS.true (ap part_follows (sym c.place.ensures) ∙ (sym (c.follows.ensures (LPart (record { 0 = 1 }) []) refl) ∙ c.in-Some.is))

pub returns-clause-taken : goal.returns-clause-taken
returns-clause-taken c =
    let some : 1 ≤ length c.args.payload.now = grind (arith, common_steps) in
    part_takes c.args.reader.now c.step.new.self c.args.payload.now _ _ c.step.result c.step.ensures.taken (ap (λ n. record { 0 = n + 1 }) c.parts.ensures.value) c.row_of.ensures
    (omega (arith, some, ap length c.row_of.ensures, length-map c.row_of.result (λ r. r.0)))

pub returns-clause-bad : goal.returns-clause-bad
returns-clause-bad c =
    let some : 1 ≤ length c.args.payload.now = grind (arith, common_steps) in
    part_bad c.args.reader.now c.args.payload.now _ _ c.step.result c.step.ensures.refused (ap (λ n. record { 0 = n + 1 }) c.parts.ensures.value) c.row_of.ensures
    (omega (arith, some, ap length c.row_of.ensures, length-map c.row_of.result (λ r. r.0)))
