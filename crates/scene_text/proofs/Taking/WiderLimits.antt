-- With greater limits no less is taken.
use Rattle.std.proofs.Common.{List, [], ap, arith, length, nat_lt, true, ℕ, ◌+◌, ◌∙◌, ◌∷◌, ◌≡◌, ◌≤◌}
use Rattle.std.proofs.lemmas.Bool.{and_from, and_parts}
use Rattle.std.proofs.lemmas.Bool.Decides.{nat_tests}
use Rattle.scene_text.proofs.Taking.StatesKept.{count_at, tx_count}
use Rattle.scene_text.proofs.Taking.LinesTaken.{goes_on_from, is_taken, taken}
use Rattle.scene_text.specs.Taking.{Limits, State, goes_on, has_room, settled, take_line, take_lines}
use Rattle.scene_text.specs.Taking.Taken.{Now}
use Rattle.scene_text.specs.declared.lines.Line.{Line}
use Rattle.scene_text.specs.declared.lines.Line.TheVariants.{Abort as LAbort, Add as LAdd, Client as LClient, Del as LDel, Deliver as LDeliver, Get as LGet, Need as LNeed, Part as LPart, Put as LPut, Puts as LPuts, Session as LSession, Tx as LTx}

-- no limit of the one is greater
pub record Within (small large : Limits) : Type 0 where
  pub parts : small.parts ≤ large.parts
  pub sessions : small.sessions ≤ large.sessions
  pub at_node : small.at_node ≤ large.at_node
  pub txs : small.txs ≤ large.txs
  pub ops : small.ops ≤ large.ops
  pub entries : small.entries ≤ large.entries

-- both limits added
abbrev pub wider : Limits → Limits → Limits
wider a b = record {
  parts = a.parts + b.parts;
  sessions = a.sessions + b.sessions;
  at_node = a.at_node + b.at_node;
  txs = a.txs + b.txs;
  ops = a.ops + b.ops;
  entries = a.entries + b.entries;
}

pub within_first : (a b : Limits) → Within a (wider a b)
within_first a b = record { parts = omega arith; sessions = omega arith; at_node = omega arith; txs = omega arith; ops = omega arith; entries = omega arith }

pub within_second : (a b : Limits) → Within b (wider a b)
within_second a b = record { parts = omega arith; sessions = omega arith; at_node = omega arith; txs = omega arith; ops = omega arith; entries = omega arith }

-- less than a greater number
less_more : (n a b : ℕ) → a ≤ b → nat_lt n a ≡ true → nat_lt n b ≡ true
less_more n a b l e = grind (arith, nat_tests)

-- there is room in greater limits
pub room_more : (a b : Limits) (s : State) (l : Line) → Within a b → has_room a s l ≡ true → has_room b s l ≡ true
room_more a b s (LPart p row) w e = less_more _ _ _ w.parts e
room_more a b s (LSession n) w e =
    let h = and_parts (nat_lt (length s.draft.sessions) a.sessions) (nat_lt (count_at n s.draft.sessions) a.at_node) e in
    and_from _ _ (less_more (length s.draft.sessions) _ _ w.sessions h.0) (less_more (count_at n s.draft.sessions) _ _ w.at_node h.1)
room_more a b s LTx w e = less_more (tx_count (settled s).sessions) _ _ w.txs e
room_more a b s (LGet name p) w e = less_more _ _ _ w.ops e
room_more a b s (LPut name p n) w e = less_more _ _ _ w.ops e
room_more a b s (LPuts name p bytes) w e = less_more _ _ _ w.ops e
room_more a b s (LAdd name p n) w e = less_more _ _ _ w.ops e
room_more a b s (LDel name p) w e = less_more _ _ _ w.ops e
room_more a b s (LNeed name p n) w e = less_more _ _ _ w.ops e
room_more a b s LAbort w e = less_more _ _ _ w.ops e
room_more a b s (LClient c t) w e = less_more _ _ _ w.entries e
room_more a b s (LDeliver i) w e = less_more _ _ _ w.entries e
room_more a b s _ w e = e

-- a line is taken
pub line_more : (a b : Limits) (s : State) (l : Line) (t : State) → Within a b → take_line a s l ≡ Now t → take_line b s l ≡ Now t
line_more a b s l t w e =
    let r = is_taken a s l t e in
    taken b s l r.next r.order r.range (room_more a b s l w r.room) ∙ ap Now r.state

-- lines are taken
pub lines_more : (a b : Limits) (ls : List Line) (s t : State) → Within a b → take_lines a s ls ≡ Now t → take_lines b s ls ≡ Now t
lines_more a b [] s t w e = e
lines_more a b (l ∷ ls) s t w e =
    let r = goes_on_from (λ x. take_lines a x ls) (take_line a s l) t e in
    let m : State = r.0 in
    ap (goes_on (λ x. take_lines b x ls)) (line_more a b s l m w r.1) ∙ lines_more a b ls m t w r.2

-- limits past what a state has
abbrev pub past : State → Limits
past s = record {
  parts = length s.draft.parts + 1;
  sessions = length s.draft.sessions + 1;
  at_node = length s.draft.sessions + 1;
  txs = tx_count (settled s).sessions + 1;
  ops = length s.ops + 1;
  entries = length s.draft.schedule + 1;
}
