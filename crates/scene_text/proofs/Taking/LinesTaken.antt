-- Each line that is taken keeps the limits, and adds itself to the lines that the state stands for.
use Rattle.std.proofs.Common.{Bool, List, None, Option, Some, [], ap, append-nil, append_assoc, false, length, nat_le, nat_lt, refl, subst, sym, true, ℕ, ◌++◌, ◌+◌, ◌==◌, ◌^◌, ◌∙◌, ◌∷◌, ◌≡◌}
use Rattle.str_base.specs.declared.limits.TheConstants.{NODES, TEXT_BYTES}
use Rattle.str_scene.proofs.Checked.{up_to}
use Rattle.std.proofs.lemmas.Bool.{and_parts, ltb-true, leb-true}
use Rattle.std.proofs.lemmas.Bool.Decides.{Decides-eqb}
use Rattle.scene_text.proofs.Taking.EntryLines.{step_drain, step_end, step_entry}
use Rattle.scene_text.proofs.Taking.HeadLines.{extends_self, kept_empty, mk, step_nodes, step_part, step_version}
use Rattle.scene_text.proofs.Taking.StatesKept.{At, Extends, Kept, Stands, Step, count_at, lines_at, tx_count}
use Rattle.scene_text.proofs.Taking.OperationLines.{add_is, del_is, get_is, need_is, put_is, step_abort, step_key_op, step_puts}
use Rattle.scene_text.proofs.Taking.SectionLines.{step_schedule, step_session, step_tx}
use Rattle.scene_text.proofs.Spelling.NumberTests.{number_tells, row_tells}
use Rattle.scene_text.specs.LineOrder.{Place, follows}
use Rattle.scene_text.specs.LineTexts.{IsForm}
use Rattle.scene_text.specs.Taking.{Limits, State, Taken, after, at_start, goes_on, has_room, in_range, is_number, is_row, is_up_to, judged, placed, settle, take_line, take_lines}
use Rattle.scene_text.specs.Taking.Taken.{Now, Refused}
use Rattle.scene_text.specs.declared.lines.Line.{Line}
use Rattle.scene_text.specs.declared.lines.Line.TheVariants.{Abort as LAbort, Add as LAdd, Client as LClient, Del as LDel, Deliver as LDeliver, Drain as LDrain, End as LEnd, Get as LGet, Need as LNeed, Nodes as LNodes, Part as LPart, Put as LPut, Puts as LPuts, Schedule as LSchedule, Session as LSession, Tx as LTx, Version as LVersion}
use Rattle.str_base.specs.declared.names.PartId.{PartId}
use Rattle.str_scene.specs.Lists.{Each}
use Rattle.str_scene.specs.SceneLimits.{IsKey, is_name}
use Rattle.str_scene.specs.Scenes.{KeyTable, Scene}
use Rattle.str_scene.specs.declared.names.Event.TheVariants.{Client, Deliver}
use Rattle.str_scene.specs.declared.names.Op.TheVariants.{Add, Del, Get, Need, Put}

-- why a line is taken
pub record IsTaken (limits : Limits) (s : State) (l : Line) (t : State) : Type 0 where
  pub next : Place
  pub order : follows s.draft.version s.place l ≡ Some next
  pub range : in_range s.draft l ≡ true
  pub room : has_room limits s l ≡ true
  pub state : after next s l ≡ t

-- what two states are that a line comes to
pub now_same : (s t : State) → Now s ≡ Now t → s ≡ t
now_same s t e = cc

-- each line that is taken is taken for these reasons
pub is_taken : (limits : Limits) (s : State) (l : Line) (t : State) → take_line limits s l ≡ Now t → IsTaken limits s l t
is_taken limits s l t e = by_place (follows s.draft.version s.place l) refl e
  where
    by_tests : (next : Place) (a b : Bool) → follows s.draft.version s.place l ≡ Some next → in_range s.draft l ≡ a → has_room limits s l ≡ b →
        judged (after next s l) a b ≡ Now t → IsTaken limits s l t
    by_tests next false b o p q e = absurd (cc)
    by_tests next true false o p q e = absurd (cc)
    by_tests next true true o p q e = record { next = next; order = o; range = p; room = q; state = now_same _ _ e }

    by_place : (o : Option Place) → follows s.draft.version s.place l ≡ o → placed limits s l o ≡ Now t → IsTaken limits s l t
    by_place None o e = absurd (cc)
    by_place (Some next) o e = by_tests next (in_range s.draft l) (has_room limits s l) o refl refl e

-- and for these it is taken
pub taken : (limits : Limits) (s : State) (l : Line) (next : Place) → follows s.draft.version s.place l ≡ Some next → in_range s.draft l ≡ true → has_room limits s l ≡ true →
    take_line limits s l ≡ Now (after next s l)
taken limits s l next order range room =
    ap (placed limits s l) order ∙ (ap (λ a. judged (after next s l) a (has_room limits s l)) range ∙ ap (judged (after next s l) true) room)

-- a key of a line
line_key : (parts_ : ℕ) (name : List ℕ) (p : PartId) → is_name name ≡ true → is_up_to parts_ p.0 ≡ true → IsKey parts_ (name, p)
line_key parts_ name p named range = record { name = named; part = up_to parts_ p.0 range }

-- each line
step_line : (limits : Limits) (place : Place) (d : Scene) (ops : List _) (l : Line) (next : Place) → IsForm l → follows d.version place l ≡ Some next → in_range d l ≡ true →
    has_room limits (mk place d ops) l ≡ true → Kept limits d ops → At limits place d ops → Step limits (mk place d ops) l (after next (mk place d ops) l)
step_line limits place d ops (LVersion v) next form order range room k a = step_version limits place d ops v next form order k a
step_line limits place d ops (LNodes n) next form order range room k a = step_nodes limits place d ops n next (up_to NODES n range) order k a
step_line limits place d ops (LPart p row) next form order range room k a =
    let tests = and_parts (p.0 == length d.parts + 1) (is_row d.nodes row) range in
    step_part limits place d ops p row next ((Decides-eqb p.0 (length d.parts + 1)).0 tests.0) (row_tells d.nodes row form tests.1) (ltb-true _ _ room) order k a
step_line limits place d ops (LSession n) next form order range room k a =
    let tests = and_parts (nat_lt (length d.sessions) limits.sessions) (nat_lt (count_at n d.sessions) limits.at_node) room in
    step_session limits place d ops n next (up_to d.nodes n.0 range) (ltb-true _ _ tests.0) (ltb-true _ _ tests.1) order k a
step_line limits place d ops LTx next form order range room k a = step_tx limits place d ops next (ltb-true (tx_count (settle ops d).sessions) limits.txs room) order k a
step_line limits place d ops (LGet name p) next form order range room k a =
    step_key_op limits place d ops Get (name, p) (LGet name p) next (get_is name p) (line_key _ name p form range) (ltb-true _ _ room) order k a
step_line limits place d ops (LPut name p n) next form order range room k a =
    let tests = and_parts (is_up_to (length d.parts) p.0) (is_number n) range in
    step_key_op limits place d ops (λ x. Put x n) (name, p) (LPut name p n) next (put_is name p n (number_tells n tests.1)) (line_key _ name p form tests.0) (ltb-true _ _ room) order k a
step_line limits place d ops (LPuts name p bytes) next form order range room k a =
    let tests = and_parts (is_up_to (length d.parts) p.0) (nat_le (length bytes) TEXT_BYTES) range in
    step_puts limits place d ops (name, p) bytes next (line_key _ name p form.0 tests.0) (record { short = leb-true _ _ tests.1; bytes = form.1 }) (ltb-true _ _ room) order k a
step_line limits place d ops (LAdd name p n) next form order range room k a =
    let tests = and_parts (is_up_to (length d.parts) p.0) (is_number n) range in
    step_key_op limits place d ops (λ x. Add x n) (name, p) (LAdd name p n) next (add_is name p n (number_tells n tests.1)) (line_key _ name p form tests.0) (ltb-true _ _ room) order k a
step_line limits place d ops (LDel name p) next form order range room k a =
    step_key_op limits place d ops Del (name, p) (LDel name p) next (del_is name p) (line_key _ name p form range) (ltb-true _ _ room) order k a
step_line limits place d ops (LNeed name p n) next form order range room k a =
    let tests = and_parts (is_up_to (length d.parts) p.0) (is_number n) range in
    step_key_op limits place d ops (λ x. Need x n) (name, p) (LNeed name p n) next (need_is name p n (number_tells n tests.1)) (line_key _ name p form tests.0) (ltb-true _ _ room) order k a
step_line limits place d ops LAbort next form order range room k a = step_abort limits place d ops next (ltb-true _ _ room) order k a
step_line limits place d ops LSchedule next form order range room k a = step_schedule limits place d ops next order k a
step_line limits place d ops (LClient s t) next form order range room k a =
    let tests = and_parts (is_up_to (length d.sessions) s.0) (nat_lt t (2 ^ 64)) range in
    step_entry limits place d ops (Client s t) next (up_to (length d.sessions) s.0 tests.0, ltb-true t (2 ^ 64) tests.1) (ltb-true _ _ room) order k a
step_line limits place d ops (LDeliver i) next form order range room k a =
    let tests = and_parts (nat_le 1 i) (nat_lt i (2 ^ 64)) range in
    step_entry limits place d ops (Deliver i) next (leb-true 1 i tests.0, ltb-true i (2 ^ 64) tests.1) (ltb-true _ _ room) order k a
step_line limits place d ops LDrain next form order range room k a = step_drain limits place d ops next order k a
step_line limits place d ops LEnd next form order range room k a = step_end limits place d ops next order k a

-- one line
pub step : (limits : Limits) (s : State) (l : Line) (t : State) → IsForm l → Stands limits s → take_line limits s l ≡ Now t → Step limits s l t
step limits s l t form stands e =
    let r = is_taken limits s l t e in
    subst (λ x. Step limits s l x) r.state (step_line limits s.place s.draft s.ops l r.next form r.order r.range r.room stands.kept stands.at_place)

-- lines lead from the one state to the other
pub record Steps (limits : Limits) (s : State) (ls : List Line) (t : State) : Type 0 where
  pub stands : Stands limits t
  pub larger : Extends t.draft.keys s.draft.keys
  pub text : (table : KeyTable) → Extends table t.draft.keys → lines_at table t.place t.draft t.ops ≡ lines_at table s.place s.draft s.ops ++ ls

-- a table has what a smaller one has
extends_more : (a b c : KeyTable) → Extends a b → Extends b c → Extends a c
extends_more a b c p q = record { names = λ i key e. p.names i key (q.names i key e); texts = λ i text e. p.texts i text (q.texts i text e) }

-- where lines lead on, the first is taken
pub goes_on_from : (f : State → Taken) (o : Taken) (t : State) → goes_on f o ≡ Now t → (s : State) × (o ≡ Now s) × (f s ≡ Now t)
goes_on_from f (Now s) t e = (s, refl, e)
goes_on_from f (Refused why) t e = absurd (cc)

-- lines one after the other
pub steps : (limits : Limits) (ls : List Line) (s t : State) → Each IsForm ls → Stands limits s → take_lines limits s ls ≡ Now t → Steps limits s ls t
steps limits [] s t form stands e =
    subst (λ x. Steps limits s [] x) (now_same _ _ e)
    (record { stands = stands; larger = extends_self s.draft.keys; text = λ table x. sym (append-nil (lines_at table s.place s.draft s.ops)) })
steps limits (l ∷ ls) s t form stands e =
    let r = goes_on_from (λ x. take_lines limits x ls) (take_line limits s l) t e in
    let m : State = r.0 in
    let first = step limits s l m form.0 stands r.1 in
    let rest = steps limits ls m t form.1 first.stands r.2 in
    record {
      stands = rest.stands;
      larger = extends_more t.draft.keys m.draft.keys s.draft.keys rest.larger first.larger;
      text = λ table x.
          rest.text table x
          ∙ (ap (λ xs. xs ++ ls) (first.text table (extends_more table t.draft.keys m.draft.keys x rest.larger))
          ∙ append_assoc (lines_at table s.place s.draft s.ops) (l ∷ []) ls);
    }

-- before the first line all limits are kept
pub start_stands : (limits : Limits) → Stands limits at_start
start_stands limits = record { kept = kept_empty limits 0 0; at_place = (refl, refl) }
