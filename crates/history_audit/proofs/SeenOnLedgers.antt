-- What an answer's script gives on the ledger of all members is what it gives on its snapshot.
use Rattle.si_laws.proofs.CommitLists.SnapshotValues.{counts_above}
use Rattle.std.proofs.Common.{Bool, List, None, [], ap, arith, cond, false, filter, leb-true, nat_le, refl, subst, sym, take, true, ℕ, ◌&&◌, ◌<◌, ◌∙◌, ◌∷◌, ◌≡◌, suc, zero}
use Rattle.std.proofs.lemmas.Bool.{and_parts}
use Rattle.std.specs.List.{last_or}
use Rattle.history_audit.proofs.Lookups.{look_same}
use Rattle.history_audit.specs.Ledgers.{IsLedger}
use Rattle.history_audit.specs.Tests.{IsSnapshotOn, IsWishOn, evaluated_on}
use Rattle.history_audit.specs.Verdicts.{Clause, LeastFailing}
use Rattle.history_audit.specs.declared.ledgers.Stamped.{Stamped}
use Rattle.si_laws.proofs.CommitLists.NextAnswer.{rs_below}
use Rattle.si_laws.specs.Commits.{Member, counts_for, evaluated, look_up, members, seen, written_value}
use Rattle.si_laws.specs.SnapshotIsolation.{AnswersPlaced, CommittedSnapshots, IsCommittedAt, IsCommittedSnapshot, IsWish, NoOverlap, SI, SIRun, SessionOrder, Wishes}
use Rattle.str_base.specs.declared.names.Cause.TheVariants.{Conflict, Late, Lost, Wish}
use Rattle.str_base.specs.declared.names.KeyId.{KeyId}
use Rattle.str_model.specs.Evaluation.{eval}
use Rattle.str_model.specs.Owned.{wrote_key}
use Rattle.str_model.specs.declared.messages.Answer.{Answer}
use Rattle.str_model.specs.declared.messages.Outcome.{Outcome}
use Rattle.str_model.specs.declared.messages.Outcome.TheVariants.{Aborted, Committed}
use Rattle.str_scene.specs.Scenes.{Scene, script_at}

filter_within : (test counts : Member → Bool) → ((m : Member) → test m ≡ true → counts m ≡ true) → (ms : List Member) → filter test (filter counts ms) ≡ filter test ms
filter_within test counts h [] = refl
filter_within test counts h (m ∷ ms) = by_tests (counts m) refl (test m) refl (filter_within test counts h ms)
  where
    by_tests : (b : Bool) → counts m ≡ b → (t : Bool) → test m ≡ t → filter test (filter counts ms) ≡ filter test ms
        → filter test (cond b (m ∷ filter counts ms) (filter counts ms)) ≡ cond t (m ∷ filter test ms) (filter test ms)
    by_tests true p true q rec = rw q (ap (λ xs. m ∷ xs) rec)
    by_tests true p false q rec = rw q rec
    by_tests false p true q rec = let r : counts m ≡ true = h m q in absurd (cc (p, r))
    by_tests false p false q rec = rec

-- an answer that is final above its snapshot sees all members
seen_all : (scene : Scene) (all : List Answer) (a : Answer) → ((f : ℕ) → IsCommittedAt a f → a.rs.0 < f) → seen scene all a ≡ evaluated scene (members scene all) a
seen_all scene all a h = ap (eval (script_at scene a.place)) (λ i k. same k i)
  where
    same : (k : KeyId) → look_up (filter (counts_for a a.outcome) (members scene all)) a.rs.0 k ≡ look_up (members scene all) a.rs.0 k
    same k = ap (λ ms. written_value (last_or None ms) k)
        (filter_within (λ m. nat_le m.fc a.rs.0 && wrote_key k m.writes) (counts_for a a.outcome)
        (λ m e. counts_above a a.outcome m refl h (leb-true m.fc a.rs.0 (and_parts (nat_le m.fc a.rs.0) (wrote_key k m.writes) e).0)) (members scene all))

seen_on : (scene : Scene) (all : List Answer) (chains : List (List Stamped)) (a : Answer) → IsLedger chains (members scene all) → ((f : ℕ) → IsCommittedAt a f → a.rs.0 < f)
    → seen scene all a ≡ evaluated_on scene chains a
seen_on scene all chains a l h = seen_all scene all a h ∙ sym (ap (eval (script_at scene a.place)) (look_same chains (members scene all) a.rs.0 l))

pub snapshot_seen : (scene : Scene) (all : List Answer) (chains : List (List Stamped)) (a : Answer) → IsLedger chains (members scene all)
    → IsSnapshotOn scene chains a → IsCommittedSnapshot (seen scene all a) a.rs.0 a.outcome
snapshot_seen scene all chains a l s =
    subst (λ e. IsCommittedSnapshot e a.rs.0 a.outcome) (sym (seen_on scene all chains a l (λ f is. rs_below (evaluated_on scene chains a) a f s is))) s

pub snapshot_back : (scene : Scene) (all : List Answer) (chains : List (List Stamped)) (a : Answer) → IsLedger chains (members scene all)
    → IsCommittedSnapshot (seen scene all a) a.rs.0 a.outcome → IsSnapshotOn scene chains a
snapshot_back scene all chains a l s =
    subst (λ e. IsCommittedSnapshot e a.rs.0 a.outcome) (seen_on scene all chains a l (λ f is. rs_below (seen scene all a) a f s is)) s

not_committed : (a : Answer) → a.outcome ≡ Aborted Wish → (f : ℕ) → IsCommittedAt a f → a.rs.0 < f
not_committed a e f is = absurd (cc (e, is.1))

pub wish_seen : (scene : Scene) (all : List Answer) (chains : List (List Stamped)) (a : Answer) → IsLedger chains (members scene all)
    → IsWishOn scene chains a → IsWish (seen scene all a) a.outcome
wish_seen scene all chains a l s = by_outcome a.outcome refl s
  where
    by_outcome : (o : Outcome) → a.outcome ≡ o → IsWish (evaluated_on scene chains a) o → IsWish (seen scene all a) o
    by_outcome (Aborted Wish) e w = subst (λ z. IsWish z (Aborted Wish)) (sym (seen_on scene all chains a l (not_committed a e))) w
    by_outcome (Aborted (Conflict by k n)) e w = tt
    by_outcome (Aborted (Lost by)) e w = tt
    by_outcome (Aborted (Late by fc)) e w = tt
    by_outcome (Committed fc gets) e w = tt

pub wish_back : (scene : Scene) (all : List Answer) (chains : List (List Stamped)) (a : Answer) → IsLedger chains (members scene all)
    → IsWish (seen scene all a) a.outcome → IsWishOn scene chains a
wish_back scene all chains a l s = by_outcome a.outcome refl s
  where
    by_outcome : (o : Outcome) → a.outcome ≡ o → IsWish (seen scene all a) o → IsWish (evaluated_on scene chains a) o
    by_outcome (Aborted Wish) e w = subst (λ z. IsWish z (Aborted Wish)) (seen_on scene all chains a l (not_committed a e)) w
    by_outcome (Aborted (Conflict by k n)) e w = tt
    by_outcome (Aborted (Lost by)) e w = tt
    by_outcome (Aborted (Late by fc)) e w = tt
    by_outcome (Committed fc gets) e w = tt

-- ---- the least clause that fails

pub fails_first : (scene : Scene) (all : List Answer) → (AnswersPlaced scene all → ⊥) → LeastFailing scene all 1
fails_first scene all n = record { first = omega arith; last = omega arith; below = below_; fails = n }
  where
    below_ : (i : ℕ) → i < 1 → Clause i scene all
    below_ zero l = tt
    below_ (suc i) l = absurd (omega arith)

pub fails_second : (scene : Scene) (all : List Answer) → AnswersPlaced scene all → (CommittedSnapshots scene all → ⊥) → LeastFailing scene all 2
fails_second scene all p n = record { first = omega arith; last = omega arith; below = below_; fails = n }
  where
    below_ : (i : ℕ) → i < 2 → Clause i scene all
    below_ zero l = tt
    below_ (suc zero) l = p
    below_ (suc (suc i)) l = absurd (omega arith)

pub fails_third : (scene : Scene) (all : List Answer) → AnswersPlaced scene all → CommittedSnapshots scene all → (NoOverlap scene all → ⊥) → LeastFailing scene all 3
fails_third scene all p s n = record { first = omega arith; last = omega arith; below = below_; fails = n }
  where
    below_ : (i : ℕ) → i < 3 → Clause i scene all
    below_ zero l = tt
    below_ (suc zero) l = p
    below_ (suc (suc zero)) l = s
    below_ (suc (suc (suc i))) l = absurd (omega arith)

pub fails_fourth : (scene : Scene) (all : List Answer) → AnswersPlaced scene all → CommittedSnapshots scene all → NoOverlap scene all → (SessionOrder all → ⊥) → LeastFailing scene all 4
fails_fourth scene all p s o n = record { first = omega arith; last = omega arith; below = below_; fails = n }
  where
    below_ : (i : ℕ) → i < 4 → Clause i scene all
    below_ zero l = tt
    below_ (suc zero) l = p
    below_ (suc (suc zero)) l = s
    below_ (suc (suc (suc zero))) l = o
    below_ (suc (suc (suc (suc i)))) l = absurd (omega arith)

pub fails_fifth : (scene : Scene) (all : List Answer) → AnswersPlaced scene all → CommittedSnapshots scene all → NoOverlap scene all → SessionOrder all → (Wishes scene all → ⊥)
    → LeastFailing scene all 5
fails_fifth scene all p s o q n = record { first = omega arith; last = omega arith; below = below_; fails = n }
  where
    below_ : (i : ℕ) → i < 5 → Clause i scene all
    below_ zero l = tt
    below_ (suc zero) l = p
    below_ (suc (suc zero)) l = s
    below_ (suc (suc (suc zero))) l = o
    below_ (suc (suc (suc (suc zero)))) l = q
    below_ (suc (suc (suc (suc (suc i))))) l = absurd (omega arith)

-- each clause holds where snapshot isolation does
clause_of : (scene : Scene) (all : List Answer) → SI scene all → (c : ℕ) → Clause c scene all
clause_of scene all s zero = tt
clause_of scene all s (suc zero) = s.placed
clause_of scene all s (suc (suc zero)) = s.snapshots
clause_of scene all s (suc (suc (suc zero))) = s.apart
clause_of scene all s (suc (suc (suc (suc zero)))) = s.sessions
clause_of scene all s (suc (suc (suc (suc (suc zero))))) = s.wishes
clause_of scene all s (suc (suc (suc (suc (suc (suc n)))))) = tt

-- what fails somewhere is no run
pub no_run : (scene : Scene) (all : List Answer) (j c : ℕ) → LeastFailing scene (take j all) c → SIRun scene all → ⊥
no_run scene all j c f r = f.fails (clause_of scene (take j all) (r j) c)
