use Rattle.std.proofs.Common.{arith, refl, sym, ◌∙◌}
use Rattle.history_reading.proofs.Spelled.PartsRead.{no_place_first, no_place_s, no_place_second, no_place_slash, place_read, place_wide}
use Rattle.history_reading.proofs.parts.read_place.Goals as goal

pub returns-in_err-numbers-clause-none : goal.returns-in_err-numbers-clause-none
returns-in_err-numbers-clause-none c = λ none. no_place_s c.args.text.now (c.in_err-numbers.ensures.none refl)

pub returns-in_err-session-clause-none : goal.returns-in_err-session-clause-none
returns-in_err-session-clause-none c = λ none. no_place_slash c.args.text.now c.in_ok-numbers.numbers.now c.in_ok-numbers.ensures.rest (c.in_err-session.ensures.none refl)

pub returns-in_err-session-2-clause-none : goal.returns-in_err-session-2-clause-none
returns-in_err-session-2-clause-none c = λ none.
    no_place_first c.args.text.now c.in_ok-numbers.numbers.now c.in_ok-session.session.now c.in_ok-session.index.now c.in_ok-numbers.ensures.rest c.in_ok-session.ensures.parts c.in_ok-session.ensures.first (c.in_err-session-2.ensures.none refl)

pub returns-in_err-index-clause-none : goal.returns-in_err-index-clause-none
returns-in_err-index-clause-none c = λ none.
    no_place_second c.args.text.now c.in_ok-numbers.numbers.now c.in_ok-session.session.now c.in_ok-session.index.now c.in_ok-numbers.ensures.rest c.in_ok-session.ensures.parts c.in_ok-session.ensures.first (c.in_err-index.ensures.none refl)

pub returns-in-Some-clause-place : goal.returns-in-Some-clause-place
returns-in-Some-clause-place c =
    place_read c.args.scene.now.sessions c.args.text.now c.in_ok-numbers.numbers.now c.in_ok-session.session.now c.in_ok-session.index.now c.in_ok-session-2.session c.in_ok-index.index (c.in-Some.session, c.in-Some.index) c.known_place.result
    c.in_ok-numbers.ensures.rest c.in_ok-session.ensures.parts (sym c.zip.ensures ∙ c.in-Some.is) c.in_ok-session-2.ensures.number c.in_ok-index.ensures.number c.known_place.ensures

pub returns-in-None-clause-place : goal.returns-in-None-clause-place
returns-in-None-clause-place c =
    place_wide c.args.scene.now.sessions c.args.text.now c.in_ok-numbers.numbers.now c.in_ok-session.session.now c.in_ok-session.index.now c.in_ok-session-2.session c.in_ok-index.index (omega (arith, c.sessions-sessions.ensures.limits.few_sessions))
    (omega (arith, c.sessions-sessions.ensures.limits.few_transactions)) c.in_ok-numbers.ensures.rest c.in_ok-session.ensures.parts (sym c.zip.ensures ∙ c.in-None.is) c.in_ok-session-2.ensures.number c.in_ok-index.ensures.number
