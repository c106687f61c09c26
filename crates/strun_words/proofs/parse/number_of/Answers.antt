use Rattle.clap.specs.Words.{first_value, found_of}
use Rattle.std.proofs.Common.{List, Some, ap, arith, refl, sym, ℕ, ◌<◌, ◌^◌, ◌∙◌, ◌≡◌}
use Rattle.strun_words.proofs.Named.{number_given, number_read, word_given}
use Rattle.strun_words.proofs.parse.number_of.Goals as goal

pub returns-in_err-word : goal.returns-in_err-word
returns-in_err-word c = λ number h. c.from_residual.ensures ∙ word_given (found_of c.args.given.now) c.args.name.now number (sym c.in_err-word.ensures) h

pub returns-in_err-number : goal.returns-in_err-number
returns-in_err-number c = λ number h.
    let word : first_value (found_of c.args.given.now) c.args.name.now ≡ Some c.as_bytes.result.now =
    sym c.in_ok-word.ensures ∙ ap (λ (t : List ℕ). Some t) (sym c.as_bytes.ensures.value) in
    c.from_residual-in_err-number.ensures
    ∙ number_given (found_of c.args.given.now) c.args.name.now c.as_bytes.result.now number word (c.in_err-number.ensures.none refl) h

pub returns : goal.returns
returns c = λ number h.
    let word : first_value (found_of c.args.given.now) c.args.name.now ≡ Some c.as_bytes.result.now =
    sym c.in_ok-word.ensures ∙ ap (λ (t : List ℕ). Some t) (sym c.as_bytes.ensures.value) in
    let fits : c.in_ok-number.number < 2 ^ 64 = omega arith in
    number_read (found_of c.args.given.now) c.args.name.now c.as_bytes.result.now c.in_ok-number.number number word c.in_ok-number.ensures.value fits h
