use Rattle.std.proofs.Common.{map}
use Rattle.std.specs.String.{string_bytes}
use Rattle.strrace.proofs.tops.do_words.Goals as goal

pub returns-clause-failed : goal.returns-clause-failed
returns-clause-failed g c = c.do_race.ensures.failed (map string_bytes c.args.words.now) c.in-Some.ensures.asked
