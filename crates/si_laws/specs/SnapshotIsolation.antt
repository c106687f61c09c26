-- Snapshot isolation of a list of answers, in words that know no node, message, mark or speculation.
use Rattle.std.specs.List.{count_by}
use Rattle.std.specs.Prelude.{Bool, List, None, Option, Some, [], length, slice_get, take, true, ℕ, ⊤, ◌+◌, ◌<◌, ◌==◌, ◌≡◌, ◌≢◌, ◌≤◌, ◌⊎◌}
use Rattle.str_base.specs.declared.names.Cause.TheVariants.{Wish}
use Rattle.str_model.specs.declared.names.Got.{Got}
use Rattle.str_base.specs.declared.names.KeyId.{KeyId}
use Rattle.str_base.specs.declared.names.Ts.{Ts}
use Rattle.str_base.specs.declared.names.Write.{Write}
use Rattle.str_model.specs.declared.messages.Answer.{Answer}
use Rattle.str_model.specs.declared.messages.Outcome.{Outcome}
use Rattle.str_model.specs.declared.messages.Outcome.TheVariants.{Aborted, Committed}
use Rattle.si_laws.specs.Commits.{seen}
use Rattle.str_model.specs.Owned.{wrote_key}
use Rattle.str_model.specs.Evaluation.{AtEnd, Evaluated, Unmet, Wished}
use Rattle.str_scene.specs.SceneLimits.{Exists}
use Rattle.str_scene.specs.Scenes.{Scene, Session, nth}
use Rattle.str_base.specs.Versions.{stamp}

-- the i-th answer, counted from 0
abbrev pub IsAnswer : List Answer → ℕ → Answer → Type 0
IsAnswer all i a = slice_get all i ≡ Some a

-- the place is in the scene, and the transaction is of its session's node
pub record IsPlaced (scene : Scene) (a : Answer) : Type 0 where
  pub text : Session
  pub session : nth scene.sessions a.place.session.0 ≡ Some text
  pub node : a.tx.node ≡ text.node
  pub index : Exists a.place.index (length text.txs)

-- both are of one session
abbrev pub of_one_session : Answer → Answer → Bool
of_one_session a b = b.place.session.0 == a.place.session.0

-- places: the k-th answer of a session is that of its k-th transaction
pub record AnswersPlaced (scene : Scene) (all : List Answer) : Type 0 where
  pub each : (i : ℕ) (a : Answer) → IsAnswer all i a → IsPlaced scene a
  pub places : (i j : ℕ) (a b : Answer) → IsAnswer all i a → IsAnswer all j b → a.place ≡ b.place → i ≡ j
  pub names : (i j : ℕ) (a b : Answer) → IsAnswer all i a → IsAnswer all j b → a.tx ≡ b.tx → i ≡ j
  pub order : (i : ℕ) (a : Answer) → IsAnswer all i a → a.place.index ≡ 1 + count_by (of_one_session a) (take i all)

-- no final timestamp exactly where there are no writes, else it is above the snapshot
abbrev pub IsFinal : ℕ → Option Ts → List Write → Type 0
IsFinal rs None ws = ws ≡ []
IsFinal rs (Some fc) ws = (ws ≢ []) × (rs < fc.0)

-- a committed answer: its script on its snapshot comes to its end and gives its gets
abbrev pub IsCommittedSnapshot : Evaluated → ℕ → Outcome → Type 0
IsCommittedSnapshot e rs (Committed fc gets) = (e.stop ≡ AtEnd) × (e.gets ≡ gets) × IsFinal rs fc e.writes
IsCommittedSnapshot e rs (Aborted cause) = ⊤

-- committed snapshots
abbrev pub CommittedSnapshots : Scene → List Answer → Type 0
CommittedSnapshots scene all = (i : ℕ) (a : Answer) → IsAnswer all i a → IsCommittedSnapshot (seen scene all a) a.rs.0 a.outcome

-- the answer is a commit with this final timestamp
abbrev pub IsCommittedAt : Answer → ℕ → Type 0
IsCommittedAt a fc = (gets : List Got) × (a.outcome ≡ Committed (Some (stamp fc)) gets)

-- no overlapping writers: of two that wrote one key one is final at or below the other's snapshot
abbrev pub NoOverlap : Scene → List Answer → Type 0
NoOverlap scene all =
    (i j f g : ℕ) (a b : Answer) (k : KeyId) → IsAnswer all i a → IsAnswer all j b → i ≢ j → IsCommittedAt a f → IsCommittedAt b g
    → wrote_key k (seen scene all a).writes ≡ true → wrote_key k (seen scene all b).writes ≡ true → (f ≤ b.rs.0) ⊎ (g ≤ a.rs.0)

-- session order: a snapshot is at least all that the session was answered before
pub record SessionOrder (all : List Answer) : Type 0 where
  pub rs : (i j : ℕ) (a b : Answer) → i < j → IsAnswer all i a → IsAnswer all j b → a.place.session ≡ b.place.session → a.rs.0 ≤ b.rs.0
  pub fc : (i j fc : ℕ) (a b : Answer) → i < j → IsAnswer all i a → IsAnswer all j b → a.place.session ≡ b.place.session → IsCommittedAt a fc → fc ≤ b.rs.0
  pub node : (i j : ℕ) (a b : Answer) → IsAnswer all i a → IsAnswer all j b → a.tx.node ≡ b.tx.node → a.tx.seq < b.tx.seq → a.rs.0 ≤ b.rs.0

-- wishes: the script of a transaction that wished to abort stops at a need that is not met or at an abort
abbrev pub IsWish : Evaluated → Outcome → Type 0
IsWish e (Aborted Wish) = (e.stop ≡ Unmet) ⊎ (e.stop ≡ Wished)
IsWish e _ = ⊤

-- wishes of a list of answers
abbrev pub Wishes : Scene → List Answer → Type 0
Wishes scene all = (i : ℕ) (a : Answer) → IsAnswer all i a → IsWish (seen scene all a) a.outcome

-- snapshot isolation
pub record SI (scene : Scene) (all : List Answer) : Type 0 where
  pub placed : AnswersPlaced scene all
  pub snapshots : CommittedSnapshots scene all
  pub apart : NoOverlap scene all
  pub sessions : SessionOrder all
  pub wishes : Wishes scene all

-- a run of the snapshot isolation machine: snapshot isolation holds of every prefix
abbrev pub SIRun : Scene → List Answer → Type 0
SIRun scene all = (n : ℕ) → SI scene (take n all)
