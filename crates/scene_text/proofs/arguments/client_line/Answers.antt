use Rattle.std.proofs.Common.{refl, sym, ◌∙◌}
use Rattle.scene_text.proofs.Spelling.Arguments.{client_no_reading, client_no_session, client_too_great}
use Rattle.scene_text.proofs.arguments.client_line.Goals as goal

pub returns-in_err-session-2-clause-none : goal.returns-in_err-session-2-clause-none
returns-in_err-session-2-clause-none c = λ none. client_no_session c.args.text.now c.in_ok-session.session.now c.in_ok-session.reading.now c.in_ok-session.ensures.parts c.in_ok-session.ensures.first (c.in_err-session-2.ensures.none refl)

pub returns-in_err-reading-clause-none : goal.returns-in_err-reading-clause-none
returns-in_err-reading-clause-none c = λ none. client_no_reading c.args.text.now c.in_ok-session.session.now c.in_ok-session.reading.now c.in_ok-session.ensures.parts c.in_ok-session.ensures.first (c.in_err-reading.ensures.none refl)

pub returns-in-None-clause-line : goal.returns-in-None-clause-line
returns-in-None-clause-line c = client_too_great c.args.text.now c.in_ok-session.session.now c.in_ok-session.reading.now c.in_ok-session-2.session c.in_ok-reading.reading c.in_ok-session.ensures.parts c.in_ok-session-2.ensures.number c.in_ok-reading.ensures.number (sym c.zip.ensures ∙ c.in-None.is)
