use Rattle.std.proofs.Common.{◌≤◌, ap, subst, arith, length, List}
use Rattle.std.proofs.lemmas.Bool.Decides.{nat_tests}
use mathlib.Core.List.{IsPrefix}
use Rattle.answer_board.specs.declared.entries.Entry.{Entry}
use Rattle.answer_board.proofs.Rising.{prefix_shorter, front_grows}
use Rattle.answer_board.proofs.history.Front.begins.Goals as goal

pub returns-clause-yes : goal.returns-clause-yes
returns-clause-yes c ok =
    let both = c.learn.new.self.log in
    let mine = c.self.inside.seen.log in
    let its = c.other.inside.seen.log in
    let this : IsPrefix mine both = subst (λ (l : List (List Entry)). IsPrefix l both) (ap (λ s. s.log) c.again-both.ensures) c.learn.ensures.2 in
    let count : c.self.inside.count ≤ c.other.inside.count = grind (arith, nat_tests, ok) in
    let less : length mine ≤ length its = omega (arith, count, c.self.invariant.0, c.other.invariant.0) in
    let p : IsPrefix mine its = prefix_shorter mine its both this c.learn.ensures.3 less in
    rw (← c.self.view_is, ← c.other.view_is) (p, front_grows mine its p c.other.invariant.1)

pub returns-clause-no : goal.returns-clause-no
returns-clause-no c ok =
    let both = c.learn.new.self.log in
    let mine = c.self.inside.seen.log in
    let its = c.other.inside.seen.log in
    let this : IsPrefix mine both = subst (λ (l : List (List Entry)). IsPrefix l both) (ap (λ s. s.log) c.again-both.ensures) c.learn.ensures.2 in
    let count : c.other.inside.count ≤ c.self.inside.count = grind (arith, nat_tests, ok) in
    let less : length its ≤ length mine = omega (arith, count, c.self.invariant.0, c.other.invariant.0) in
    let p : IsPrefix its mine = prefix_shorter its mine both c.learn.ensures.3 this less in
    rw (← c.self.view_is, ← c.other.view_is) (p, front_grows its mine p c.self.invariant.1)
