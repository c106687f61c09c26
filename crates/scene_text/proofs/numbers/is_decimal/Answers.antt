use Rattle.std.proofs.Common.{[], arith, rules, subst, sym, true, get_or, ◌<◌, ◌∷◌, ◌≡◌, ◌⊎◌}
use Rattle.std.proofs.lemmas.Grind.{common_steps}
use Rattle.std.specs.Char.{is_ascii_digit}
use Rattle.std.specs.List.{list_all}
use Rattle.scene_text.proofs.Spelling.Numerals.{numeral-digits, numeral_of_digits, numeral_starts}
use Rattle.scene_text.proofs.numbers.is_decimal.Goals as goal

pub returns-then-starts_plain-clause-yes : goal.returns-then-starts_plain-clause-yes
returns-then-starts_plain-clause-yes c = λ t.
    let all : list_all is_ascii_digit c.args.text.now ≡ true = grind (arith, common_steps) in
    let start : (c.args.text.now ≡ 48 ∷ []) ⊎ (48 < get_or c.args.text.now 0 0) = search rules in
    numeral_of_digits c.args.text.now all start

pub returns-then-starts_plain-clause-no : goal.returns-then-starts_plain-clause-no
returns-then-starts_plain-clause-no c = λ e n h.
    absurd (cc (numeral-digits n, c.all_digits.ensures))

pub returns-else-starts_plain-clause-no : goal.returns-else-starts_plain-clause-no
returns-else-starts_plain-clause-no c = λ e n h.
    let start = subst (λ bs. (bs ≡ 48 ∷ []) ⊎ (48 < get_or bs 0 0)) (sym h) (numeral_starts n) in
    grind (arith, common_steps, start)
