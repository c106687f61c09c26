-- What the audit of a list of answers finds.
use Rattle.std.specs.Prelude.{List, None, Option, Some, length, suc, take, zero, ℕ, ⊤, ◌<◌, ◌≤◌}
use Rattle.history_audit.specs.declared.verdicts.Verdict.{Verdict}
use Rattle.history_audit.specs.declared.verdicts.Verdict.TheVariants.{No, Yes}
use Rattle.si_laws.specs.SnapshotIsolation.{AnswersPlaced, CommittedSnapshots, NoOverlap, SI, SIRun, SessionOrder, Wishes}
use Rattle.str_model.specs.declared.messages.Answer.{Answer}
use Rattle.str_scene.specs.Scenes.{Scene}

-- the clauses of snapshot isolation by number: 1 places, 2 committed snapshots, 3 no overlapping writers, 4 session order, 5 wishes
abbrev pub Clause : ℕ → Scene → List Answer → Type 0
Clause zero scene all = ⊤
Clause (suc zero) scene all = AnswersPlaced scene all
Clause (suc (suc zero)) scene all = CommittedSnapshots scene all
Clause (suc (suc (suc zero))) scene all = NoOverlap scene all
Clause (suc (suc (suc (suc zero)))) scene all = SessionOrder all
Clause (suc (suc (suc (suc (suc zero))))) scene all = Wishes scene all
Clause (suc (suc (suc (suc (suc (suc n)))))) scene all = ⊤

-- c is the least number of a clause that fails of the answers
pub record LeastFailing (scene : Scene) (all : List Answer) (c : ℕ) : Type 0 where
  pub first : 1 ≤ c
  pub last : c ≤ 5
  pub below : (i : ℕ) → i < c → Clause i scene all
  pub fails : Clause c scene all → ⊥

-- j is the least number of answers of which snapshot isolation fails, and c the least clause that fails of them
pub record FirstFailing (scene : Scene) (all : List Answer) (j c : ℕ) : Type 0 where
  pub first : 1 ≤ j
  pub last : j ≤ length all
  pub before : (n : ℕ) → n < j → SI scene (take n all)
  pub clause : LeastFailing scene (take j all) c

-- yes, or the least answer and the least clause that fails there
abbrev pub IsVerdict : Scene → List Answer → Verdict → Type 0
IsVerdict scene all Yes = SIRun scene all
IsVerdict scene all (No j c) = FirstFailing scene all j c

-- what is found of answers of which all but the last are known to meet snapshot isolation: the least clause that fails, if one does
abbrev pub IsFound : Scene → List Answer → Option ℕ → Type 0
IsFound scene all None = SI scene all
IsFound scene all (Some c) = LeastFailing scene all c
