-- The lines that a run writes.
use Rattle.std.specs.Fmt.{signed_decimal}
use Rattle.std.specs.List.{count_by, sum_by}
use Rattle.std.specs.Prelude.{Bool, List, None, Option, Some, [], codes, decimal, drop, false, flat_map, if◌then◌else◌, length, not, slice_get, take, true, ℕ, ◌++◌, ◌-◌, ◌∷◌}
use Rattle.str_base.specs.declared.names.Cause.{Cause}
use Rattle.str_base.specs.declared.names.Cause.TheVariants.{Conflict, Late, Lost, Wish}
use Rattle.str_base.specs.declared.names.Ts.{Ts}
use Rattle.str_base.specs.declared.names.TxId.{TxId}
use Rattle.str_base.specs.declared.names.Value.{Value}
use Rattle.str_base.specs.declared.names.Value.TheVariants.{Absent, Num, Text}
use Rattle.str_model.specs.declared.messages.Answer.{Answer}
use Rattle.str_model.specs.declared.messages.Outcome.{Outcome}
use Rattle.str_model.specs.declared.messages.Outcome.TheVariants.{Aborted, Committed}
use Rattle.str_model.specs.declared.names.Done.{Done}
use Rattle.str_model.specs.declared.names.Got.{Got}
use Rattle.str_model.specs.Runs.{World}
use Rattle.str_model.specs.Views.{is_decided}
use Rattle.str_scene.specs.Scenes.{KeyTable, Scene}
use Rattle.str_scene.specs.Spelling.{event_spelled, key_spelled, text_spelled}

-- a value as text
abbrev pub value_spelled : KeyTable → Value → List ℕ
value_spelled keys Absent = codes "none"
value_spelled keys (Num n) = signed_decimal n
value_spelled keys (Text t) = text_spelled (slice_get keys.texts t.0)

-- a transaction's name
abbrev pub tx_spelled : TxId → List ℕ
tx_spelled t = decimal t.node.0 ++ codes "." ++ decimal t.seq

-- a get with its value
abbrev pub get_spelled : KeyTable → Got → List ℕ
get_spelled keys g = codes " " ++ key_spelled keys g.key ++ codes "=" ++ value_spelled keys g.value

-- why a transaction aborted
abbrev pub cause_spelled : KeyTable → Cause → List ℕ
cause_spelled keys (Conflict by k n) = codes "conflict " ++ tx_spelled by ++ codes " " ++ key_spelled keys k ++ codes " at=" ++ decimal n.0
cause_spelled keys (Lost by) = codes "lost " ++ tx_spelled by
cause_spelled keys (Late by fc) = codes "late " ++ tx_spelled by ++ codes " fc=" ++ decimal fc.0
cause_spelled keys Wish = codes "wish"

-- a final timestamp, a minus where there is none
abbrev pub fc_spelled : Option Ts → List ℕ
fc_spelled None = codes "-"
fc_spelled (Some fc) = decimal fc.0

-- how a transaction ended
abbrev pub outcome_spelled : KeyTable → Ts → Outcome → List ℕ
outcome_spelled keys rs (Committed fc gets) =
    codes " commit rs=" ++ decimal rs.0 ++ codes " fc=" ++ fc_spelled fc ++ flat_map (get_spelled keys) gets
outcome_spelled keys rs (Aborted cause) = codes " abort rs=" ++ decimal rs.0 ++ codes " " ++ cause_spelled keys cause

-- the line of an answer
abbrev pub answer_line : KeyTable → Answer → List ℕ
answer_line keys a =
    tx_spelled a.tx ++ codes " s" ++ decimal a.place.session.0 ++ codes "/" ++ decimal a.place.index ++ outcome_spelled keys a.rs a.outcome ++ codes "\n"

-- the line of a journal entry
abbrev pub journal_line : Done → List ℕ
journal_line e = codes "j " ++ event_spelled e.event ++ (if e.idle then codes " idle\n" else codes "\n")

-- the outcome is a commit
abbrev pub is_commit : Outcome → Bool
is_commit (Committed fc gets) = true
is_commit (Aborted cause) = false

-- the numbers of the last line
pub record Counts : Type 0 where
  pub commits : ℕ
  pub aborts : ℕ
  pub held : ℕ
  pub unbegun : ℕ
  pub messages : ℕ

-- the numbers of a state
abbrev pub counts : Scene → World → Counts
counts scene w =
    record {
      commits = count_by (λ a. is_commit a.outcome) w.answers;
      aborts = count_by (λ a. not (is_commit a.outcome)) w.answers;
      held = sum_by (λ v. count_by (λ x. not (is_decided x.phase)) v.own) w.nodes;
      unbegun = sum_by (λ s. length s.txs) scene.sessions - sum_by (λ v. length v.own) w.nodes;
      messages = length w.sent;
    }

-- the last line
abbrev pub end_line : Counts → List ℕ
end_line c =
    codes "end commits=" ++ decimal c.commits ++ codes " aborts=" ++ decimal c.aborts ++ codes " held=" ++ decimal c.held
    ++ codes " unbegun=" ++ decimal c.unbegun ++ codes " messages=" ++ decimal c.messages ++ codes "\n"

-- each journal entry, and after it the answers that it released
abbrev pub journal_lines : KeyTable → List Done → List Answer → List ℕ
journal_lines keys [] answers = []
journal_lines keys (e ∷ es) answers =
    journal_line e ++ flat_map (answer_line keys) (take e.answers answers) ++ journal_lines keys es (drop e.answers answers)

-- what a run writes
unfoldable pub render : Scene → World → List ℕ
render scene w = flat_map (answer_line scene.keys) w.answers ++ end_line (counts scene w)

-- what a run writes with its journal
unfoldable pub render_j : Scene → World → List ℕ
render_j scene w = journal_lines scene.keys w.journal w.answers ++ end_line (counts scene w)
