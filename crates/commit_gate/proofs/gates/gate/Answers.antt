use Rattle.std.proofs.Common.{None, Some, ap, find, map, max, rules, slice_get, subst, sym, ℕ, ◌∙◌, ◌≡◌, ◌≤◌}
use Rattle.commit_gate.proofs.Gating.{asks, commits, misses, no_first, own_gate, shuts}
use Rattle.commit_gate.proofs.Saying.{first_least, greatest_is, least_part, one_greatest, one_least}
use Rattle.commit_gate.specs.Answers.{IsGreatest, IsLeast, is_missing}
use Rattle.commit_gate.specs.declared.gates.GateTurn.TheVariants.{Commit, Shut}
use Rattle.str_base.specs.declared.names.PartId.{PartId}
use Rattle.str_base.specs.declared.names.Ts.{Ts}
use Rattle.str_model.specs.Gates.{ack_or_zero, gate_turn, may_ask}
use Rattle.str_model.specs.Gates
use Rattle.str_model.specs.Turns.{greatest}
use Rattle.commit_gate.proofs.gates.gate.Goals as goal
use Rattle.commit_gate.proofs.gates.gate.Goals.{In-Some-first, In-Some-first_missing, After-last_answer}

-- ---- asks

pub returns-in-Some-clause-turn : goal.returns-in-Some-clause-turn
returns-in-Some-clause-turn c =
    let found : find (may_ask c.args.wrote.now) c.args.parts.now ≡ Some c.in-Some.free = search rules in
    sym (asks c.args.snap.now c.args.lc.0 c.args.parts.now c.args.wrote.now c.in-Some.free found)

pub returns-in-Some-clause-own : goal.returns-in-Some-clause-own
returns-in-Some-clause-own c =
    let found : find (may_ask c.args.wrote.now) c.args.parts.now ≡ Some c.in-Some.free = search rules in
    own_gate c.args.snap.now c.args.lc.0 c.args.parts.now c.args.wrote.now _ (asks c.args.snap.now c.args.lc.0 c.args.parts.now c.args.wrote.now c.in-Some.free found)

pub returns-in-Some-clause-least : goal.returns-in-Some-clause-least
returns-in-Some-clause-least c part e up i a g p =
    let found : find (may_ask c.args.wrote.now) c.args.parts.now ≡ Some c.in-Some.free = search rules in
    let same : c.in-Some.free.part ≡ part = cc e in
    subst (λ (q : PartId). q.0 ≤ a.part.0) same (least_part (may_ask c.args.wrote.now) c.args.parts.now c.in-Some.free a i found up g p)

-- ---- waits for a dependency

first_dep : (c : In-Some-first) → slice_get c.args.snap.now.deps 0 ≡ Some c.in-Some-first.dep.now
first_dep c = search rules

shut : (c : In-Some-first) → gate_turn c.args.snap.now c.args.lc.0 c.args.parts.now c.args.wrote.now ≡ Gates.Shut c.in-Some-first.dep.now.seq
shut c =
    let none : find (may_ask c.args.wrote.now) c.args.parts.now ≡ None = search rules in
    shuts c.args.snap.now c.args.lc.0 c.args.parts.now c.args.wrote.now c.in-Some-first.dep.now none (first_dep c)

pub returns-in-Some-first-clause-turn : goal.returns-in-Some-first-clause-turn
returns-in-Some-first-clause-turn c = sym (shut c)

pub returns-in-Some-first-clause-own : goal.returns-in-Some-first-clause-own
returns-in-Some-first-clause-own c = own_gate c.args.snap.now c.args.lc.0 c.args.parts.now c.args.wrote.now _ (shut c)

pub returns-in-Some-first-clause-shut : goal.returns-in-Some-first-clause-shut
returns-in-Some-first-clause-shut c by =
    let none : find (may_ask c.args.wrote.now) c.args.parts.now ≡ None = search rules in
    let least = first_least c.args.snap.now.deps c.in-Some-first.dep.now c.deps.ensures.set.rising (first_dep c) in
    (λ e. (none, subst (λ q. IsLeast c.args.snap.now.deps q) (cc e) least), λ h. ap Shut (one_least c.args.snap.now.deps c.in-Some-first.dep.now.seq by least h.1))

-- ---- waits for an answer

missed : (c : In-Some-first_missing)
    → gate_turn c.args.snap.now c.args.lc.0 c.args.parts.now c.args.wrote.now ≡ Gates.Missing c.in-Some-first_missing.field-0.part c.in-Some-first_missing.field-0.node
missed c =
    let none : find (may_ask c.args.wrote.now) c.args.parts.now ≡ None = search rules in
    let free : slice_get c.args.snap.now.deps 0 ≡ None = search rules in
    let found : find is_missing c.args.parts.now ≡ Some c.in-Some-first_missing.field-0 = search rules in
    misses c.args.snap.now c.args.lc.0 c.args.parts.now c.args.wrote.now c.in-Some-first_missing.field-0 none free found

pub returns-in-Some-first_missing-clause-turn : goal.returns-in-Some-first_missing-clause-turn
returns-in-Some-first_missing-clause-turn c = sym (missed c)

pub returns-in-Some-first_missing-clause-own : goal.returns-in-Some-first_missing-clause-own
returns-in-Some-first_missing-clause-own c = own_gate c.args.snap.now c.args.lc.0 c.args.parts.now c.args.wrote.now _ (missed c)

-- ---- commits

committed : (c : After-last_answer) → gate_turn c.args.snap.now c.args.lc.0 c.args.parts.now c.args.wrote.now ≡ Gates.CommitAt (max c.args.lc.0 (greatest (map ack_or_zero c.args.parts.now)))
committed c =
    let none : find (may_ask c.args.wrote.now) c.args.parts.now ≡ None = search rules in
    let free : slice_get c.args.snap.now.deps 0 ≡ None = search rules in
    let all : find is_missing c.args.parts.now ≡ None = search rules in
    commits c.args.snap.now c.args.lc.0 c.args.parts.now c.args.wrote.now none free all

last : (c : After-last_answer) → c.last_answer.result.0 ≡ max c.args.lc.0 (greatest (map ack_or_zero c.args.parts.now))
last c = search rules

pub returns-clause-turn : goal.returns-clause-turn
returns-clause-turn c = ap Gates.CommitAt (last c) ∙ sym (committed c)

pub returns-clause-own : goal.returns-clause-own
returns-clause-own c = own_gate c.args.snap.now c.args.lc.0 c.args.parts.now c.args.wrote.now _ (committed c ∙ ap Gates.CommitAt (sym (last c)))

pub returns-clause-commit : goal.returns-clause-commit
returns-clause-commit c fc =
    let none : find (may_ask c.args.wrote.now) c.args.parts.now ≡ None = search rules in
    let free : slice_get c.args.snap.now.deps 0 ≡ None = search rules in
    let all : find is_missing c.args.parts.now ≡ None = search rules in
    let is : IsGreatest c.args.lc.0 c.args.parts.now c.last_answer.result.0 = rw (last c) (greatest_is c.args.lc.0 c.args.parts.now) in (
      λ e. (none, no_first c.args.snap.now.deps free, all, subst (λ (t : Ts). IsGreatest c.args.lc.0 c.args.parts.now t.0) (cc e) is),
      λ h. ap (λ (n : ℕ). Commit (record { 0 = n })) (one_greatest c.args.lc.0 c.args.parts.now c.last_answer.result.0 fc.0 is h.3),
    )
