use Rattle.request_frame.proofs.BytesParts.{no_key}
use Rattle.request_frame.proofs.ops.read_key.Goals as goal

pub returns-then-not-spells_name-clause-none : goal.returns-then-not-spells_name-clause-none
returns-then-not-spells_name-clause-none c = λ none.
    no_key c.args.bytes.now c.in_ok-part.rest.now c.in_ok-name.name.now c.in_ok-name.rest.now c.in_ok-part.part.now c.in_ok-part.ensures.cases.0 c.in_ok-name.ensures.string
    c.if-not-spells_name.ensures
