use Rattle.std.proofs.Common.{arith, false, true, ◌≡◌, ap}
use Rattle.std.proofs.lemmas.Grind.{common_steps}
use Rattle.std.specs.List.{list_all}
use Rattle.std.specs.Prelude.{Some}
use Rattle.scene_text.proofs.Spelling.KeyWords.{bytes_kept, bytes_too_many, odd_none, other_none}
use Rattle.scene_text.specs.HexDigits.{is_hex}
use Rattle.scene_text.proofs.keys.read_bytes.Goals as goal

pub returns-then-digits-ne0-clause-none : goal.returns-then-digits-ne0-clause-none
returns-then-digits-ne0-clause-none c = λ none.
    odd_none c.args.text.now c.in_ok-digits.digits.now c.in_ok-digits.ensures.rest (λ e. omega arith)

pub returns-then-not-all_hex-clause-none : goal.returns-then-not-all_hex-clause-none
returns-then-not-all_hex-clause-none c = λ none.
    let other : list_all is_hex c.in_ok-digits.digits.now ≡ false = grind (arith, common_steps) in
    other_none c.args.text.now c.in_ok-digits.digits.now c.in_ok-digits.ensures.rest other

pub returns-then-digits-clause-bytes : goal.returns-then-digits-clause-bytes
returns-then-digits-clause-bytes c =
    let all : list_all is_hex c.in_ok-digits.digits.now ≡ true = grind (arith, common_steps) in
    bytes_too_many c.args.text.now c.in_ok-digits.digits.now c.in_ok-digits.ensures.rest all (omega arith) (omega arith)

pub returns-clause-bytes : goal.returns-clause-bytes
returns-clause-bytes c =
    let all : list_all is_hex c.in_ok-digits.digits.now ≡ true = grind (arith, common_steps) in
    bytes_kept c.args.text.now c.in_ok-digits.digits.now _ c.in_ok-digits.ensures.rest all (omega arith) (ap Some c.bytes_of_digits.ensures) (omega arith)
