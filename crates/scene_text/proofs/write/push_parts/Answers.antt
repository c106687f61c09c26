use Rattle.std.proofs.Common.{arith, length, take, ◌++◌, ◌+◌, ◌∷◌, ◌≡◌, []}
use Rattle.std.proofs.lemmas.Grind.{common_steps}
use Rattle.scene_text.proofs.Spelling.TextParts.{parts_more}
use Rattle.scene_text.proofs.write.push_parts.Goals as goal

pub loop-row-preserved : goal.loop-row-preserved
loop-row-preserved c =
    let rows = c.args.parts.now in
    let i = c.loop-row.row-index in
    let more : take (i + 1) rows ≡ take i rows ++ c.row-item.result ∷ [] = grind (arith, common_steps) in
    let count : c.loop-row.number ≡ length (take i rows) + 1 = grind (arith, common_steps) in
    record {
      next = omega arith;
      text = parts_more rows (take i rows) (take (i + 1) rows) c.row-item.result c.loop-row.number _ _ _ more count c.loop-row.invariant.text (grind (arith, common_steps));
    }
