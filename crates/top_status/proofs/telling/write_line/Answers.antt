use Rattle.std.proofs.Common.{codes, ◌++◌}
use Rattle.top_status.proofs.Failing.{after_err, on_err}
use Rattle.top_status.proofs.Prefixes.{and_then, further}
use Rattle.top_status.proofs.telling.write_line.Goals as goal

pub returns-in_err-write_all-2-clause-err : goal.returns-in_err-write_all-2-clause-err
returns-in_err-write_all-2-clause-err g c =
    on_err c.from_residual-in_err-write_all-2.result
    (and_then _ _ _ c.args.name.now (codes ": " ++ (c.args.text.now ++ codes "\n")) c.in_ok-write_all.ensures.ok
    (further _ _ (codes ": ") (c.args.text.now ++ codes "\n") c.in_err-write_all-2.ensures.err))

pub returns-in_err-write_all-3-clause-err : goal.returns-in_err-write_all-3-clause-err
returns-in_err-write_all-3-clause-err g c =
    on_err c.from_residual-in_err-write_all-3.result
    (and_then _ _ _ c.args.name.now (codes ": " ++ (c.args.text.now ++ codes "\n")) c.in_ok-write_all.ensures.ok
    (and_then _ _ _ (codes ": ") (c.args.text.now ++ codes "\n") c.in_ok-write_all-2.ensures.ok
    (further _ _ c.args.text.now (codes "\n") c.in_err-write_all-3.ensures.err)))

pub returns-clause-err : goal.returns-clause-err
returns-clause-err g c =
    after_err c.write_all-4.result
    (λ last. and_then _ _ _ c.args.name.now (codes ": " ++ (c.args.text.now ++ codes "\n")) c.in_ok-write_all.ensures.ok
    (and_then _ _ _ (codes ": ") (c.args.text.now ++ codes "\n") c.in_ok-write_all-2.ensures.ok
    (and_then _ _ _ c.args.text.now (codes "\n") c.in_ok-write_all-3.ensures.ok last)))
    c.write_all-4.ensures.err
