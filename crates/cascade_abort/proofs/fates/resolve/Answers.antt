use Rattle.std.proofs.Common.{ap, drop, filter, find, rules, slice_get, take, ◌++◌, ◌∙◌, ◌≡◌}
use Rattle.std.proofs.lemmas.List.Sums.{prefix_len-le-length}
use Rattle.std.specs.List.{position_or_len}
use Rattle.cascade_abort.proofs.Deciding.{first_found, is_late, keeps, loses, own_turn}
use Rattle.cascade_abort.proofs.Leaving.{part_few, part_set}
use Rattle.cascade_abort.specs.Fates.{decides_at, left, looked, stays_at, told}
use Rattle.cascade_abort.proofs.fates.resolve.Goals as goal
use Rattle.cascade_abort.proofs.fates.resolve.Goals.{After-new}

pub split_at-requires : goal.split_at-requires
split_at-requires c =
    let n : c.looked_at-looked.result ≡ position_or_len (decides_at c.args.fates.now c.rs.result.0) c.deps-deps.result.now = c.looked_at-looked.ensures in
    rw n (prefix_len-le-length _ c.deps-deps.result.now)

pub append-requires : goal.append-requires
append-requires c =
    let kept : c.undecided-kept.result ≡ filter (stays_at c.args.fates.now) (take (looked c.args.fates.now c.args.snap.now) c.args.snap.now.deps) = search rules in
    let rest : c.split_at.result.1.now ≡ drop (looked c.args.fates.now c.args.snap.now) c.args.snap.now.deps = search rules in
    rw (kept, rest) (part_few (stays_at c.args.fates.now) (looked c.args.fates.now c.args.snap.now) c.args.snap.now.deps c.deps-deps.ensures.set)

pub new-requires : goal.new-requires
new-requires c =
    let all : c.append.new.list ≡ filter (stays_at c.args.fates.now) (take (looked c.args.fates.now c.args.snap.now) c.args.snap.now.deps) ++ drop (looked c.args.fates.now c.args.snap.now) c.args.snap.now.deps = search rules in
    rw all (part_set (stays_at c.args.fates.now) (looked c.args.fates.now c.args.snap.now) c.args.snap.now.deps c.deps-deps.ensures.set)

told_is : (c : After-new) → c.verdict-turn.result ≡ told c.args.fates.now (find (decides_at c.args.fates.now c.args.snap.now.rs) c.args.snap.now.deps)
told_is c =
    let first : c.copied.result ≡ slice_get (drop (looked c.args.fates.now c.args.snap.now) c.args.snap.now.deps) 0 = search rules in
    c.verdict-turn.ensures ∙ ap (told c.args.fates.now) (first ∙ first_found (decides_at c.args.fates.now c.args.snap.now.rs) c.args.snap.now.deps)

pub returns-clause-turn : goal.returns-clause-turn
returns-clause-turn c =
    let is : c.new.result ≡ left c.args.fates.now c.args.snap.now = search rules in
    own_turn c.args.fates.now c.args.snap.now c.new.result c.verdict-turn.result (told_is c) is

pub returns-clause-keep : goal.returns-clause-keep
returns-clause-keep c = keeps c.args.fates.now c.args.snap.now.rs c.args.snap.now.deps c.verdict-turn.result (told_is c)

pub returns-clause-lost : goal.returns-clause-lost
returns-clause-lost c = loses c.args.fates.now c.args.snap.now.rs c.args.snap.now.deps c.verdict-turn.result (told_is c)

pub returns-clause-late : goal.returns-clause-late
returns-clause-late c = is_late c.args.fates.now c.args.snap.now.rs c.args.snap.now.deps c.verdict-turn.result (told_is c)
