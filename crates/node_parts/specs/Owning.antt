-- What contracts see of a node's own transactions.
use Rattle.std.specs.Prelude.{Bool, List, MatchOption, None, Option, Some, [], false, filter, if◌then◌else◌, length, map, nat_lt, not, slice_get, slice_index, slice_set, suc, true, ℕ, ◌&&◌, ◌++◌, ◌+◌, ◌-◌, ◌<◌, ◌==◌, ◌^◌, ◌∷◌, ◌≡◌, ◌⊎◌}
use Rattle.cascade_abort.specs.declared.fates.DepTurn.{DepTurn}
use Rattle.cascade_abort.specs.Fates.{turn_of}
use Rattle.dependency_set.specs.declared.snaps.OwnSnap.{OwnSnap}
use Rattle.dependency_set.specs.Snapshots.{Snap}
use Rattle.held_answer.specs.Answers.{HeldAnswer}
use Rattle.partition_map.specs.declared.rows.Asked.{Asked}
use Rattle.snapshot_read.specs.Shown.{told_from}
use Rattle.str_base.specs.declared.names.KeyId.{KeyId}
use Rattle.str_base.specs.declared.names.NodeId.{NodeId}
use Rattle.str_base.specs.declared.names.PartId.{PartId}
use Rattle.str_base.specs.declared.names.SessionId.{SessionId}
use Rattle.str_base.specs.declared.names.TxId.{TxId}
use Rattle.str_base.specs.declared.names.Value.{Value}
use Rattle.str_base.specs.Versions.{stamp}
use Rattle.str_model.specs.Acts.{in_phase}
use Rattle.str_model.specs.Clients.{last_index, of_session}
use Rattle.str_model.specs.declared.messages.Answer.{Answer}
use Rattle.str_model.specs.declared.messages.Outcome.{Outcome}
use Rattle.str_model.specs.declared.names.Got.{Got}
use Rattle.str_model.specs.Returns.{with_ack}
use Rattle.str_model.specs.Turns.{CommittedAt, Fate, Gone, Open, dep_turn, left_by}
use Rattle.str_model.specs.Views.{Active, Closing, Own, is_decided, lc_of}
use Rattle.str_scene.specs.declared.names.Op.{Op}
use Rattle.str_scene.specs.declared.names.TxPlace.{TxPlace}
use Rattle.tx_script.specs.declared.turns.Turn.TheVariants.{Ask, End, Got as GotIt, Moved, Unmet, Wished}
use Rattle.tx_script.specs.Doing.{run_of, with_run}
use Rattle.tx_script.specs.Turns.{Turned, turn_of as script_turn}

-- ---- one

-- an own transaction with its name
pub record Named : Type 0 where
  pub tx : TxId
  pub own : Own

-- what the gets gave so far; nothing once the answer was given
abbrev pub gets_of : Option HeldAnswer → List Got
gets_of None = []
gets_of (Some h) = h.gets

-- the answer that is held is that of the transaction; none is held exactly once it is decided
abbrev pub IsHeld : TxId → TxPlace → ℕ → Bool → Option HeldAnswer → Type 0
IsHeld tx place rs decided None = decided ≡ true
IsHeld tx place rs decided (Some h) = (h.tx ≡ tx) × (h.place ≡ place) × (h.rs ≡ stamp rs) × (decided ≡ false)

-- it is undecided and was not certified
abbrev pub IsFree : Own → Type 0
IsFree x = (is_decided x.phase ≡ false) × (lc_of x.phase ≡ None)

-- it is certified and undecided
abbrev pub is_told : Own → Bool
is_told x = not (is_decided x.phase) && elim (lc_of x.phase) [ None ↦ false | Some lc ↦ true ]

-- what a turn of its script makes of it: a get is kept and it goes on, it goes on, or it closes with a wish; else it stays
abbrev pub turned : Turned → Own → Own
turned t x = elim t.turn [
  | GotIt k v ↦ (record (with_run t.run x) { gets = x.gets ++ record { key = k; value = v } ∷ []; phase = Active })
  | Moved ↦ in_phase Active (with_run t.run x)
  | Unmet ↦ in_phase (Closing true) x
  | Ask k ↦ x
  | Wished ↦ x
  | End ↦ x
]

-- where a turn of its script gives a get, there is room for it
abbrev pub HasPlace : List Op → Own → Type 0
HasPlace ops x = (k : KeyId) (v : Value) → (script_turn ops (run_of x)).turn ≡ GotIt k v → length x.gets < 16

-- ---- all

-- a node's own transactions: the node, all in order of number, how many sessions there are, and room for so many more
pub record OwnState : Type 0 where
  pub node : NodeId
  pub all : List Own
  pub sessions : ℕ
  pub spare : ℕ

-- the places of those that are undecided, the first of the list at place n
abbrev pub open_from : ℕ → List Own → List ℕ
open_from n [] = []
open_from n (x ∷ xs) = if is_decided x.phase then open_from (n + 1) xs else n ∷ open_from (n + 1) xs

-- the i-th is named by the node and i + 1, the first of the list at place n
abbrev pub AreNumbered : NodeId → ℕ → List Named → Type 0
AreNumbered node n [] = Unit {0}
AreNumbered node n (x ∷ xs) = (x.tx ≡ record { node = node; seq = n + 1 }) × AreNumbered node (n + 1) xs

-- each is of one of so many sessions
abbrev pub AreOfSessions : ℕ → List Own → Type 0
AreOfSessions sessions own = (i : ℕ) (x : Own) → slice_get own i ≡ Some x → x.place.session.0 < sessions

-- 0 where there is none, else one more than the place
abbrev pub from_one : Option ℕ → ℕ
from_one None = 0
from_one (Some i) = suc i

-- for each session the place of its last transaction
abbrev pub AreLast : List ℕ → List Own → Type 0
AreLast last own = (s : SessionId) → s.0 < length last → slice_index last s.0 ≡ from_one (last_index (of_session s) own)

-- What the type of a list of own transactions keeps: their names; which are undecided, which are told of, and the last one of each session.
pub record IsOwnList (node : NodeId) (names : List Named) (open_ : List ℕ) (told : List OwnSnap) (last : List ℕ) : Type 0 where
  pub numbered : AreNumbered node 0 names
  pub open_is : open_ ≡ open_from 0 (map (λ (x : Named). x.own) names)
  pub told_is : told ≡ told_from 0 (map (λ (x : Named). x.own) names)
  pub sessions : AreOfSessions (length last) (map (λ (x : Named). x.own) names)
  pub last_are : AreLast last (map (λ (x : Named). x.own) names)
  pub few : length names < 2 ^ 32 - 1

-- there is such a transaction at the place
abbrev pub OwnHas : (Own → Type 0) → ℕ → List Own → Type 0
OwnHas P i own = (x : Own) × (slice_get own i ≡ Some x) × P x

-- the transaction at the place comes to this, and all else stays
abbrev pub ComesTo : (Own → Own) → ℕ → OwnState → OwnState → Type 0
ComesTo f i old new = (x : Own) → slice_get old.all i ≡ Some x → new ≡ record old { all = slice_set old.all i (f x) }

-- the transaction has these participants, or stays where there are none; and which of both
abbrev pub HasParts : Option (List Asked) → Bool → Named → Named → Type 0
HasParts parts result old new = MatchOption parts ((result ≡ false) × (new ≡ old)) (λ ps. (result ≡ true) × (new ≡ record old { own = record (old.own) { parts = ps } }))

-- the transaction at the place keeps the answer of a participant where it awaits one, else nothing changes; and whether it does
abbrev pub KeepsAck : PartId → NodeId → ℕ → ℕ → Bool → OwnState → OwnState → Type 0
KeepsAck part node ts i result old new = (x : Own) → slice_get old.all i ≡ Some x →
    MatchOption (with_ack x.parts part node ts) ((result ≡ false) × (new ≡ old)) (λ ps. (result ≡ true) × (new ≡ record old { all = slice_set old.all i (record x { parts = ps }) }))

-- the answer of the transaction at the place, with this outcome
abbrev pub IsAnswerAt : (Own → Outcome) → ℕ → OwnState → Answer → Type 0
IsAnswerAt outcome i own answer = (x : Own) → slice_get own.all i ≡ Some x →
    answer ≡ record { tx = record { node = own.node; seq = i + 1 }; place = x.place; rs = stamp x.snap.rs; outcome = outcome x }

-- the place of the transaction with this name; none where the name is not of the node or there is none yet
abbrev pub IsPlaceOf : TxId → OwnState → Option ℕ → Type 0
IsPlaceOf tx own result =
    MatchOption result ((tx.node.0 ≡ own.node.0) → (tx.seq ≡ 0) ⊎ (length own.all < tx.seq)) (λ i. (tx.node.0 ≡ own.node.0) × (tx.seq ≡ i + 1) × (i < length own.all))

-- it has committed or aborted
abbrev pub is_closed : Fate → Bool
is_closed Open = false
is_closed (CommittedAt fc) = true
is_closed Gone = true

-- the look at the dependencies of a transaction: what it came to, and the snapshot that it leaves
pub record Looked (old new : List Own) (i : ℕ) (x : Own) (t : DepTurn) : Type 0 where
  pub turn : turn_of t (left_by (dep_turn old x.snap) x.snap) ≡ dep_turn old x.snap
  pub left : new ≡ slice_set old i (record x { snap = left_by (dep_turn old x.snap) x.snap })

-- ---- what is told

-- one more in order of number
abbrev pub told_also : OwnSnap → List OwnSnap → List OwnSnap
told_also x [] = x ∷ []
told_also x (y ∷ ys) = if nat_lt x.seq y.seq then x ∷ y ∷ ys else y ∷ told_also x ys

-- another snapshot of one
abbrev pub told_again : ℕ → Snap → List OwnSnap → List OwnSnap
told_again q snap told = map (λ (y : OwnSnap). if y.seq == q then record y { snap = snap } else y) told

-- one is not told of any more
abbrev pub told_no_more : ℕ → List OwnSnap → List OwnSnap
told_no_more q told = filter (λ (y : OwnSnap). not (y.seq == q)) told
