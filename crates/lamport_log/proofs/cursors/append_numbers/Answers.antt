use Rattle.std.proofs.Common.{[], ap, append_assoc, sym, ◌++◌, ◌+◌, ◌∙◌, ◌∷◌}
use Rattle.std.specs.List.{range_with_len}
use Rattle.str_model.proofs.ListFacts.{range_more}
use Rattle.lamport_log.proofs.cursors.append_numbers.Goals as goal

pub loop-i-preserved : goal.loop-i-preserved
loop-i-preserved c =
    c.in_ok-push.ensures.items
    ∙ ap (λ l. l ++ (c.args.first + c.loop-i.i) ∷ []) c.loop-i.invariant
    ∙ append_assoc c.args.to.now.items (range_with_len c.args.first c.loop-i.i) ((c.args.first + c.loop-i.i) ∷ [])
    ∙ ap (λ l. c.args.to.now.items ++ l) (sym (range_more c.args.first c.loop-i.i))
