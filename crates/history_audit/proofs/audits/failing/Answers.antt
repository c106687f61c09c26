use Rattle.std.proofs.Common.{sym, ◌∙◌}
use Rattle.history_audit.proofs.Findings.{Looked, Placed, all_order, all_placed, all_rising, found_none, found_overlap, found_place, found_session, found_snapshot, found_wish, looked}
use Rattle.history_audit.proofs.audits.failing.Goals as goal
use Rattle.history_audit.proofs.audits.failing.Goals.{In_ok-put_commit, In_ok-refill}

pub returns-then-not-is_placed-clause-found : goal.returns-then-not-is_placed-clause-found
returns-then-not-is_placed-clause-found c =
    found_place c.args.scene.now c.args.earlier.now c.args.answer.now c.args.all.now c.requires.whole (sym c.is_placed.ensures ∙ c.if-not-is_placed.true)

-- the answer is placed
placed : (c : In_ok-put_commit) → Placed c.args.scene.now c.args.earlier.now c.args.answer.now c.args.all.now
placed c = record { whole = c.requires.whole; before = c.requires.before; test = sym c.is_placed.ensures ∙ c.if-not-is_placed.false }

pub refill-requires-clause-rising : goal.refill-requires-clause-rising
refill-requires-clause-rising c =
    let p = placed (goal.at.refill-requires-clause-rising c).In_ok-put_commit in
    all_rising c.args.scene.now c.args.all.now _ (all_placed c.args.scene.now c.args.earlier.now c.args.answer.now c.args.all.now p)
    (all_order c.args.scene.now c.args.earlier.now c.args.answer.now c.args.all.now _ _ p c.requires.order (c.deref.ensures.value ∙ c.in_ok-put_commit.ensures))

-- and the ledger is that of all answers
known : (c : In_ok-refill) → Looked c.args.scene.now c.args.earlier.now c.args.answer.now c.args.all.now c.refill.new.ledger
known c =
    looked c.args.scene.now c.args.earlier.now c.args.answer.now c.args.all.now _ _ _ c.requires.whole c.requires.before (sym c.is_placed.ensures ∙ c.if-not-is_placed.false) c.requires.order
    (c.deref.ensures.value ∙ c.in_ok-put_commit.ensures) c.in_ok-refill.ensures.filled

pub returns-then-not-are_snapshots-clause-found : goal.returns-then-not-are_snapshots-clause-found
returns-then-not-are_snapshots-clause-found c =
    let l = known (goal.at.returns-then-not-are_snapshots-clause-found c).In_ok-refill in
    found_snapshot c.args.scene.now c.args.earlier.now c.args.answer.now c.args.all.now _ l.placed l.ledger (λ s. cc (c.are_snapshots.ensures.1 s, c.if-not-are_snapshots.true))

pub returns-then-not-overlaps_none-clause-found : goal.returns-then-not-overlaps_none-clause-found
returns-then-not-overlaps_none-clause-found c =
    let l = known (goal.at.returns-then-not-overlaps_none-clause-found c).In_ok-refill in
    found_overlap c.args.scene.now c.args.earlier.now c.args.answer.now c.args.all.now _ l.placed l.ledger (c.are_snapshots.ensures.0 c.if-not-are_snapshots.false)
    (sym c.overlaps_none.ensures ∙ c.if-not-overlaps_none.true)

pub returns-then-not-keeps_order-clause-found : goal.returns-then-not-keeps_order-clause-found
returns-then-not-keeps_order-clause-found c =
    let l = known (goal.at.returns-then-not-keeps_order-clause-found c).In_ok-refill in
    found_session c.args.scene.now c.args.earlier.now c.args.answer.now c.args.all.now _ l.placed l.ledger (c.are_snapshots.ensures.0 c.if-not-are_snapshots.false)
    (sym c.overlaps_none.ensures ∙ c.if-not-overlaps_none.false) (sym c.keeps_order.ensures ∙ c.if-not-keeps_order.true)

pub returns-then-not-are_wishes-clause-found : goal.returns-then-not-are_wishes-clause-found
returns-then-not-are_wishes-clause-found c =
    let l = known (goal.at.returns-then-not-are_wishes-clause-found c).In_ok-refill in
    found_wish c.args.scene.now c.args.earlier.now c.args.answer.now c.args.all.now _ l.placed l.ledger (c.are_snapshots.ensures.0 c.if-not-are_snapshots.false)
    (sym c.overlaps_none.ensures ∙ c.if-not-overlaps_none.false) (sym c.keeps_order.ensures ∙ c.if-not-keeps_order.false) (λ w. cc (c.are_wishes.ensures.1 w, c.if-not-are_wishes.true))

pub returns-clause-found : goal.returns-clause-found
returns-clause-found c =
    let l = known (goal.at.returns-clause-found c).In_ok-refill in
    found_none c.args.scene.now c.args.earlier.now c.args.answer.now c.args.all.now _ l.placed l.ledger (c.are_snapshots.ensures.0 c.if-not-are_snapshots.false)
    (sym c.overlaps_none.ensures ∙ c.if-not-overlaps_none.false) (sym c.keeps_order.ensures ∙ c.if-not-keeps_order.false) (c.are_wishes.ensures.0 c.if-not-are_wishes.false)

pub returns-clause-order : goal.returns-clause-order
returns-clause-order c = λ none.
    all_order c.args.scene.now c.args.earlier.now c.args.answer.now c.args.all.now _ _ (placed (goal.at.returns-clause-order c).In_ok-put_commit) c.requires.order c.in_ok-put_commit.ensures
