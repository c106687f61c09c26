use Rattle.std.proofs.Common.{map, nat_eq, sym, ◌∙◌}
use Rattle.std.proofs.lemmas.Slice.Eq.{bytes_eq-Decides, slice_eq-Decides}
use Rattle.std.specs.Cmp.Derive.Mapped.{pointwise-map}
use Rattle.std.specs.Cmp.Lexicographic.{pointwise}
use Rattle.strun_words.proofs.task.are_same.Goals as goal

pub returns : goal.returns
returns c =
    slice_eq-Decides bytes_eq-Decides (map (λ w. w.now) c.args.words.now) (map (λ w. w.now) c.args.others.now) c.eq.result
    (c.eq.ensures ∙ sym (pointwise-map (λ w. w.now) (pointwise nat_eq) c.args.words.now c.args.others.now))
