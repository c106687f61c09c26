-- The digits after a minus, or the whole text, spell one number alone, which settles whether the signed number fits.
use Rattle.std.proofs.Common.{◌≡◌, ◌≢◌, ◌<◌, ◌+◌, ◌^◌, ◌∙◌, get_or, arith, rules, refl, sym}
use Rattle.std.proofs.lemmas.Grind.{common_steps}
use Rattle.str_base.proofs.DecimalLemmas.{decimal-injective, spelling_after_minus, spelling_with_no_minus}
use Rattle.str_base.proofs.decimals.read_i64.Goals as goal

pub returns-in_err-read_u64-in-45-clause-none : goal.returns-in_err-read_u64-in-45-clause-none
returns-in_err-read_u64-in-45-clause-none c = λ t z f e.
    let k = spelling_after_minus z c.args.text.now f e (omega arith) in
    c.in_err-read_u64-in-45.ensures.none refl (k.0 + 1) (omega (arith, k.1)) k.2

pub returns-in_err-below-in-45-clause-none : goal.returns-in_err-below-in-45-clause-none
returns-in_err-below-in-45-clause-none c = λ t z f e.
    let k = spelling_after_minus z c.args.text.now f e (omega arith) in
    let small : k.0 < 2 ^ 63 = k.1 in
    let n = c.in_ok-read_u64-in-45.field-0 in
    let same : k.0 + 1 ≡ n = decimal-injective (k.0 + 1) n (omega arith) (search rules) (k.2 ∙ sym c.in_ok-read_u64-in-45.ensures.value) in
    omega (arith, c.in_err-below-in-45.ensures)

pub returns-in_err-ok-in-45-clause-none : goal.returns-in_err-ok-in-45-clause-none
returns-in_err-ok-in-45-clause-none c = λ t z f e.
    let k = spelling_after_minus z c.args.text.now f e (omega arith) in
    let small : k.0 < 2 ^ 63 = k.1 in
    let n = c.in_ok-read_u64-in-45.field-0 in
    let same : k.0 + 1 ≡ n = decimal-injective (k.0 + 1) n (omega arith) (search rules) (k.2 ∙ sym c.in_ok-read_u64-in-45.ensures.value) in
    grind (arith, common_steps)

pub returns-in_ok-read_u64-in_default-clause-none : goal.returns-in_ok-read_u64-in_default-clause-none
returns-in_ok-read_u64-in_default-clause-none c = λ t z f e.
    let no_minus : get_or c.args.text.now 0 0 ≢ 45 = grind (arith, common_steps) in
    let k = spelling_with_no_minus z c.args.text.now f e no_minus in
    let small : k.0 < 2 ^ 63 = k.1 in
    let n = c.in_ok-read_u64-in_default.field-0 in
    let same : k.0 ≡ n = decimal-injective k.0 n (omega arith) (search rules) (k.2 ∙ sym c.in_ok-read_u64-in_default.ensures.value) in
    grind (arith, common_steps)
