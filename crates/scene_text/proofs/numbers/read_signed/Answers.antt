use Rattle.std.proofs.Common.{rules}
use Rattle.scene_text.proofs.Spelling.NumbersRead.{kept_signed}
use Rattle.scene_text.proofs.numbers.read_signed.Goals as goal

pub returns-then-is_signed_decimal-clause-number : goal.returns-then-is_signed_decimal-clause-number
returns-then-is_signed_decimal-clause-number c =
    kept_signed c.args.text.now c.read_i64.result (c.is_signed_decimal.ensures.yes c.if-is_signed_decimal.true) c.read_i64.ensures.value c.read_i64.ensures.none (search rules)
