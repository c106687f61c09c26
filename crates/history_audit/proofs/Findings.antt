-- What is found of a list of answers with one more, clause by clause.
use Rattle.std.proofs.Common.{List, [], ap, arith, false, get_or, inl, inr, length, refl, subst, suc, sym, take, true, zero, ℕ, ◌++◌, ◌+◌, ◌<◌, ◌∙◌, ◌∷◌, ◌≡◌, ◌≤◌}
use Rattle.std.proofs.lemmas.Bool.{cases_lt}
use Rattle.std.proofs.lemmas.List.{take_all}
use Rattle.std.proofs.lemmas.Option.{slice_get_read}
use Rattle.std.specs.List.{list_all}
use Rattle.history_audit.proofs.CommitOrders.{members_order_of, order_push, rising_order, take_there}
use Rattle.history_audit.proofs.NextAnswers.{apart_back, apart_next, fresh_names, placed_back, placed_next, sessions_back, sessions_next}
use Rattle.history_audit.proofs.SeenOnLedgers.{fails_fifth, fails_first, fails_fourth, fails_second, fails_third, snapshot_back, snapshot_seen, wish_back, wish_seen}
use Rattle.history_audit.specs.Ledgers.{IsLedger}
use Rattle.history_audit.specs.Orders.{IsRisingOrder, members_by, order_of, with_final}
use Rattle.history_audit.specs.Tests.{IsSnapshotOn, IsWishOn, are_apart, is_after, is_placed}
use Rattle.history_audit.specs.Verdicts.{LeastFailing}
use Rattle.history_audit.specs.declared.ledgers.Stamped.{Stamped}
use Rattle.history_audit.specs.declared.orders.FinalCommit.{FinalCommit}
use Rattle.si_laws.proofs.CommitLists.CommitOrder.{commits_order, named}
use Rattle.si_laws.proofs.CommitLists.NextHolds.{si_none}
use Rattle.si_laws.specs.Commits.{commits, members}
use Rattle.si_laws.specs.SnapshotIsolation.{AnswersPlaced, CommittedSnapshots, IsAnswer, NoOverlap, SI, SIRun, SessionOrder}
use Rattle.str_model.specs.declared.messages.Answer.{Answer}
use Rattle.str_scene.specs.Scenes.{Scene}

-- the script of each committed answer gives it
abbrev pub AllSnapshots : Scene → List (List Stamped) → List Answer → Type 0
AllSnapshots scene chains all = (i : ℕ) (a : Answer) → IsAnswer all i a → IsSnapshotOn scene chains a

-- the script of no answer that wished to abort comes to its end
abbrev pub AllWishes : Scene → List (List Stamped) → List Answer → Type 0
AllWishes scene chains all = (i : ℕ) (a : Answer) → IsAnswer all i a → IsWishOn scene chains a

-- snapshot isolation holds of all but the last, and that one is placed
pub record Placed (scene : Scene) (past : List Answer) (a : Answer) (all : List Answer) : Type 0 where
  pub whole : past ++ a ∷ [] ≡ all
  pub before : SI scene past
  pub test : is_placed scene past a ≡ true

pub all_placed : (scene : Scene) (past : List Answer) (a : Answer) (all : List Answer) → Placed scene past a all → AnswersPlaced scene all
all_placed scene past a all p = subst (AnswersPlaced scene) p.whole (placed_next scene past a p.before.placed p.test)

-- the order with the last of them is the order of all
pub all_order : (scene : Scene) (past : List Answer) (a : Answer) (all : List Answer) (order new : List FinalCommit) → Placed scene past a all → order ≡ order_of past → new ≡ with_final a a.outcome order
    → new ≡ order_of all
all_order scene past a all order new p o w =
    w ∙ (ap (with_final a a.outcome) o ∙ (sym (order_push past a (fresh_names scene past a p.test)) ∙ ap order_of p.whole))

pub all_rising : (scene : Scene) (all : List Answer) (order : List FinalCommit) → AnswersPlaced scene all → order ≡ order_of all → IsRisingOrder order
all_rising scene all order p o = subst IsRisingOrder (sym o) (rising_order (commits all) (commits_order all (named all p.names)))

pub all_ledger : (scene : Scene) (all : List Answer) (order : List FinalCommit) (chains : List (List Stamped)) → order ≡ order_of all → IsLedger chains (members_by scene [] order)
    → IsLedger chains (members scene all)
all_ledger scene all order chains o l = subst (IsLedger chains) (ap (members_by scene []) o ∙ members_order_of scene all) l

-- one more is placed, and the ledger is that of all
pub record Looked (scene : Scene) (past : List Answer) (a : Answer) (all : List Answer) (chains : List (List Stamped)) : Type 0 where
  pub placed : Placed scene past a all
  pub ledger : IsLedger chains (members scene all)

pub looked : (scene : Scene) (past : List Answer) (a : Answer) (all : List Answer) (order new : List FinalCommit) (chains : List (List Stamped)) → past ++ a ∷ [] ≡ all → SI scene past
    → is_placed scene past a ≡ true → order ≡ order_of past → new ≡ with_final a a.outcome order → IsLedger chains (members_by scene [] new) → Looked scene past a all chains
looked scene past a all order new chains w b t o n l = record { placed = p; ledger = all_ledger scene all new chains (all_order scene past a all order new p o n) l }
  where
    p : Placed scene past a all
    p = record { whole = w; before = b; test = t }

pub found_place : (scene : Scene) (past : List Answer) (a : Answer) (all : List Answer) → past ++ a ∷ [] ≡ all → is_placed scene past a ≡ false → LeastFailing scene all 1
found_place scene past a all w e =
    fails_first scene all (λ p. (let h : is_placed scene past a ≡ true = placed_back scene past a (subst (AnswersPlaced scene) (sym w) p) in cc (h, e)))

pub committed_seen : (scene : Scene) (all : List Answer) (chains : List (List Stamped)) → IsLedger chains (members scene all) → AllSnapshots scene chains all → CommittedSnapshots scene all
committed_seen scene all chains l s = λ i b e. snapshot_seen scene all chains b l (s i b e)

pub found_snapshot : (scene : Scene) (past : List Answer) (a : Answer) (all : List Answer) (chains : List (List Stamped)) → Placed scene past a all → IsLedger chains (members scene all)
    → (AllSnapshots scene chains all → ⊥) → LeastFailing scene all 2
found_snapshot scene past a all chains p l n =
    fails_second scene all (all_placed scene past a all p) (λ s. n (λ i b e. snapshot_back scene all chains b l (s i b e)))

pub found_overlap : (scene : Scene) (past : List Answer) (a : Answer) (all : List Answer) (chains : List (List Stamped)) → Placed scene past a all → IsLedger chains (members scene all)
    → AllSnapshots scene chains all → list_all (are_apart scene a) past ≡ false → LeastFailing scene all 3
found_overlap scene past a all chains p l s e =
    fails_third scene all (all_placed scene past a all p) (committed_seen scene all chains l s)
    (λ o. (let h : list_all (are_apart scene a) past ≡ true =
    apart_back scene past a (subst (CommittedSnapshots scene) (sym p.whole) (committed_seen scene all chains l s)) (subst (NoOverlap scene) (sym p.whole) o) in cc (h, e)))

pub all_apart : (scene : Scene) (past : List Answer) (a : Answer) (all : List Answer) (chains : List (List Stamped)) → Placed scene past a all → IsLedger chains (members scene all)
    → AllSnapshots scene chains all → list_all (are_apart scene a) past ≡ true → NoOverlap scene all
all_apart scene past a all chains p l s e =
    subst (NoOverlap scene) p.whole
    (apart_next scene past a p.before.apart p.before.snapshots (subst (CommittedSnapshots scene) (sym p.whole) (committed_seen scene all chains l s)) e)

pub found_session : (scene : Scene) (past : List Answer) (a : Answer) (all : List Answer) (chains : List (List Stamped)) → Placed scene past a all → IsLedger chains (members scene all)
    → AllSnapshots scene chains all → list_all (are_apart scene a) past ≡ true → list_all (is_after a) past ≡ false → LeastFailing scene all 4
found_session scene past a all chains p l s o e =
    fails_fourth scene all (all_placed scene past a all p) (committed_seen scene all chains l s) (all_apart scene past a all chains p l s o)
    (λ q. (let h : list_all (is_after a) past ≡ true = sessions_back past a (subst SessionOrder (sym p.whole) q) in cc (h, e)))

pub found_wish : (scene : Scene) (past : List Answer) (a : Answer) (all : List Answer) (chains : List (List Stamped)) → Placed scene past a all → IsLedger chains (members scene all)
    → AllSnapshots scene chains all → list_all (are_apart scene a) past ≡ true → list_all (is_after a) past ≡ true → (AllWishes scene chains all → ⊥) → LeastFailing scene all 5
found_wish scene past a all chains p l s o q n =
    fails_fifth scene all (all_placed scene past a all p) (committed_seen scene all chains l s) (all_apart scene past a all chains p l s o)
    (subst SessionOrder p.whole (sessions_next past a p.before.sessions q)) (λ w. n (λ i b e. wish_back scene all chains b l (w i b e)))

pub found_none : (scene : Scene) (past : List Answer) (a : Answer) (all : List Answer) (chains : List (List Stamped)) → Placed scene past a all → IsLedger chains (members scene all)
    → AllSnapshots scene chains all → list_all (are_apart scene a) past ≡ true → list_all (is_after a) past ≡ true → AllWishes scene chains all → SI scene all
found_none scene past a all chains p l s o q w = record {
  placed = all_placed scene past a all p;
  snapshots = committed_seen scene all chains l s;
  apart = all_apart scene past a all chains p l s o;
  sessions = subst SessionOrder p.whole (sessions_next past a p.before.sessions q);
  wishes = λ i b e. wish_seen scene all chains b l (w i b e);
}

-- ---- runs

pub one_more : (all : List Answer) (i : ℕ) (a : Answer) → i < length all → a ≡ get_or all i a → take i all ++ a ∷ [] ≡ take (i + 1) all
one_more all i a l e =
    let next : suc i ≡ i + 1 = omega arith in
    sym (take_there all i a (slice_get_read all (length all) i a refl l e)) ∙ ap (λ j. take j all) next

pub none_prefix : (scene : Scene) (all : List Answer) (n : ℕ) → n ≤ 0 → SI scene (take n all)
none_prefix scene [] zero l = si_none scene
none_prefix scene (a ∷ all) zero l = si_none scene
none_prefix scene all (suc n) l = absurd (omega arith)

-- snapshot isolation of each prefix up to the whole list is that of each prefix
pub all_prefixes : (scene : Scene) (all : List Answer) (count : ℕ) → length all ≤ count → ((n : ℕ) → n ≤ count → SI scene (take n all)) → SIRun scene all
all_prefixes scene all count l h = λ n. elim (cases_lt count n) [
  | inl k ↦ subst (SI scene) (take_all count all l ∙ sym (take_all n all (omega arith))) (h count (omega arith))
  | inr k ↦ h n k
]

pub one_prefix : (scene : Scene) (all : List Answer) (count : ℕ) → ((n : ℕ) → n ≤ count → SI scene (take n all)) → SI scene (take (count + 1) all) → (n : ℕ) → n ≤ count + 1 → SI scene (take n all)
one_prefix scene all count h s n l = elim (cases_lt n (count + 1)) [
  | inl k ↦ h n (omega arith)
  | inr k ↦ (let e : count + 1 ≡ n = omega arith in subst (λ m. SI scene (take m all)) e s)
]

-- the answers of a run have their own names
pub run_rising : (scene : Scene) (all : List Answer) (order : List FinalCommit) → SIRun scene all → order ≡ order_of all → IsRisingOrder order
run_rising scene all order r o = all_rising scene all order (subst (AnswersPlaced scene) (take_all (length all) all (omega arith)) (r (length all)).placed) o
