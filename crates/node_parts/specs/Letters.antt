-- What a call that sends leaves, and the letters of a transaction by its name.
use Rattle.std.specs.Prelude.{List, filter, length, map, ℕ, ◌++◌, ◌+◌, ◌≡◌, ◌≤◌}
use Rattle.node_parts.specs.Sending.{Outgoing}
use Rattle.partition_map.specs.declared.rows.Asked.{Asked}
use Rattle.str_base.specs.declared.names.PartId.{PartId}
use Rattle.str_base.specs.declared.names.Ts.{Ts}
use Rattle.str_base.specs.declared.names.TxId.{TxId}
use Rattle.str_base.specs.declared.names.Write.{Write}
use Rattle.str_base.specs.Versions.{mark_of, stamp}
use Rattle.str_model.specs.Acts.{ask_letters, asked_ones, commit_letters}
use Rattle.str_model.specs.declared.messages.Body.TheVariants.{Abort, Commit}
use Rattle.str_model.specs.declared.messages.Message.{Message}
use Rattle.str_model.specs.declared.names.KeyMark.{KeyMark}
use Rattle.str_model.specs.Views.{Own, View, letter, name_of}
use Rattle.str_scene.specs.Scenes.{Here, in_part, replicas}

-- these messages are sent, and all else stays
pub record Sends (ms : List Message) (old new : Outgoing) : Type 0 where
  pub sent : new.sent ≡ old.sent ++ ms
  pub earlier : new.earlier ≡ old.earlier
  pub answered : new.answered ≡ old.answered
  pub released : new.released ≡ old.released
  pub space : old.space ≤ new.space + length ms

-- who is told of its abort
abbrev pub aborts : Here → TxId → List Asked → List Message
aborts here tx parts = map (λ a. letter here a.node (Abort tx a.part)) (asked_ones parts)

-- each participant of a transaction is told that it has committed at fc, with the marks of the keys that it wrote there
abbrev pub SendsCommits : Here → TxId → ℕ → List Asked → List Write → List ℕ → Outgoing → Outgoing → Type 0
SendsCommits here tx fc parts writes marks old new = (i : ℕ) (x : Own) (view : View) → tx ≡ name_of here i → x.parts ≡ parts → x.writes ≡ writes → view.marks ≡ marks →
    Sends (commit_letters here i x fc view) old new

-- a partition is asked with what a transaction wrote there
abbrev pub SendsAsks : Here → TxId → Ts → ℕ → PartId → List Write → Outgoing → Outgoing → Type 0
SendsAsks here tx rs lc part writes old new = (i : ℕ) (x : Own) → tx ≡ name_of here i → stamp x.snap.rs ≡ rs → x.writes ≡ writes →
    Sends (ask_letters here i lc x part (replicas here.scene part)) old new

-- the marks of the written keys of a partition, in order of first write
abbrev pub marks_by : Here → List ℕ → PartId → List Write → List KeyMark
marks_by here marks p ws = map (λ w. record { key = w.key; mark = stamp (mark_of marks w.key) }) (filter (in_part here.scene p) ws)

-- who is told of its commit
abbrev pub commits : Here → TxId → Ts → List ℕ → List Write → List Asked → List Message
commits here tx fc marks ws parts = map (λ a. letter here a.node (Commit tx a.part fc (marks_by here marks a.part ws))) parts
