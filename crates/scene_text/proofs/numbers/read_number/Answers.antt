use Rattle.std.proofs.Common.{rules}
use Rattle.scene_text.proofs.Spelling.NumbersRead.{kept_number}
use Rattle.scene_text.proofs.numbers.read_number.Goals as goal

pub returns-then-is_decimal-clause-number : goal.returns-then-is_decimal-clause-number
returns-then-is_decimal-clause-number c =
    kept_number c.args.text.now c.read_u64.result (c.is_decimal.ensures.yes c.if-is_decimal.true) c.read_u64.ensures.value c.read_u64.ensures.none (search rules)
