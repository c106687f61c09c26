use Rattle.std.proofs.Common.{rules, slice_range, sym, ◌∙◌}
use Rattle.scene_text.proofs.FirstBad.FirstLine.{first_cut, first_none, first_other, first_read}
use Rattle.scene_text.proofs.read.first_line.Goals as goal

pub returns-in_default-clause-bad : goal.returns-in_default-clause-bad
returns-in_default-clause-bad c = first_cut c.args.text.now (c.in_default.ensures.none (search rules))

pub returns-in_default-read_line-clause-bad : goal.returns-in_default-read_line-clause-bad
returns-in_default-read_line-clause-bad c =
    first_none c.args.text.now (slice_range c.args.text.now 0 c.in-Some.feed) _ c.in-Some.ensures.line c.in-Some.ensures.parts (c.in_default-read_line.ensures.none (search rules))

pub returns-in_default-version_given-clause-bad : goal.returns-in_default-version_given-clause-bad
returns-in_default-version_given-clause-bad c =
    first_other c.args.text.now (slice_range c.args.text.now 0 c.in-Some.feed) _ c.in-Some-read_line.read c.in-Some.ensures.line c.in-Some.ensures.parts c.in-Some-read_line.ensures.line (sym c.version_given.ensures ∙ c.in_default-version_given.is)

pub returns-clause-read : goal.returns-clause-read
returns-clause-read c =
    (first_read c.args.text.now (slice_range c.args.text.now 0 c.in-Some.feed) c.in-Some.feed c.in-Some-version_given.version c.in-Some-read_line.read c.in-Some-read_line.ensures.line (sym c.version_given.ensures ∙ c.in-Some-version_given.is) c.in-Some.ensures.passed).0
