use Rattle.std.proofs.Common.{List, OnErr, OnOk, arith, of_z, rules, subst, to_z, ℕ, ◌∙◌, ◌≡◌}
use Rattle.std.proofs.lemmas.Int.{ints, to_z-of_z}
use Rattle.std.specs.Int.{w64}
use Rattle.std.specs.Io.KnownBytes.{Appends}
use Rattle.str_outer.specs.Pieces.{AppendsPrefix}
use Rattle.strun.proofs.BalanceLines.{lines_are}
use Rattle.strun.proofs.banks.write_balances.Goals as goal

pub returns-clause-written : goal.returns-clause-written
returns-clause-written g c =
    let number : to_z w64 (of_z w64 c.total.result) ≡ c.total.result = first_of (search (rules, to_z-of_z), grind (arith, ints, to_z-of_z)) in
    subst (λ (text : List ℕ). OnOk c.write_piece.result (Appends (g.K.Sink.held c.args.out.now) (g.K.Sink.held c.write_piece.new.out) text))
    (lines_are c.args.keys.now c.args.gots.now (to_z w64 (of_z w64 c.total.result)) _ _ _ _ c.requires c.new-lines.ensures.items c.in_ok-push_balances.ensures (number ∙ c.total.ensures)
    c.in_ok-push_total.ensures c.as_slice.ensures.value)
    c.write_piece.ensures.written

pub returns-clause-partial : goal.returns-clause-partial
returns-clause-partial g c =
    let number : to_z w64 (of_z w64 c.total.result) ≡ c.total.result = first_of (search (rules, to_z-of_z), grind (arith, ints, to_z-of_z)) in
    subst (λ (text : List ℕ). OnErr c.write_piece.result (AppendsPrefix (g.K.Sink.held c.args.out.now) (g.K.Sink.held c.write_piece.new.out) text))
    (lines_are c.args.keys.now c.args.gots.now (to_z w64 (of_z w64 c.total.result)) _ _ _ _ c.requires c.new-lines.ensures.items c.in_ok-push_balances.ensures (number ∙ c.total.ensures)
    c.in_ok-push_total.ensures c.as_slice.ensures.value)
    c.write_piece.ensures.partial
