-- A text that spells a number starts plainly, is UTF-8 and is parsed as it, and a parsed text that starts plainly spells its number.
use Rattle.std.proofs.Common.{◌≡◌, ◌<◌, ◌⊎◌, [], ◌∷◌, get_or, arith, rules}
use Rattle.std.proofs.lemmas.Grind.{common_steps}
use Rattle.str_base.proofs.DecimalLemmas.{spelling_starts, parsed_spells_some, spelling_parsed, spelling-IsUtf8}
use Rattle.str_base.proofs.decimals.read_u64.Goals as goal

pub returns-then-not-starts_plain-clause-none : goal.returns-then-not-starts_plain-clause-none
returns-then-not-starts_plain-clause-none c = λ t n h e. grind (arith, common_steps, spelling_starts n c.args.text.now h e)

pub returns-in_err-ok-clause-none : goal.returns-in_err-ok-clause-none
returns-in_err-ok-clause-none c = λ t n h e. grind (arith, common_steps, spelling-IsUtf8 n c.args.text.now h e)

pub returns-clause-value : goal.returns-clause-value
returns-clause-value c =
    let text = c.args.text.now in
    let same : c.in_ok-ok.field-0.now ≡ text = grind (arith, common_steps) in
    let start : (text ≡ 48 ∷ []) ⊎ (48 < get_or text 0 0) = search rules in
    parsed_spells_some c.in_ok-ok.field-0.now text c.parse.result c.ok-2.result c.parse.ensures.value.0 same start c.ok-2.ensures.value

pub returns-clause-none : goal.returns-clause-none
returns-clause-none c = λ t n h e. grind (arith, common_steps, spelling_parsed)
