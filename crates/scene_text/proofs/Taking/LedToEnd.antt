-- Each state can be led to the end, and at the end its lines are those of a scene.
use Rattle.std.proofs.Common.{List, Some, [], ap, append_assoc, arith, length, map, nat_lt, refl, subst, sym, true, ℕ, ◌++◌, ◌+◌, ◌==◌, ◌∙◌, ◌∷◌, ◌≡◌, ◌≤◌, inl}
use Rattle.std.proofs.lemmas.Bool.{and_from}
use Rattle.std.proofs.lemmas.Bool.Decides.{Decides-eqb, nat_tests}
use Rattle.scene_text.proofs.Taking.HeadLines.{extends_self, mk}
use Rattle.scene_text.proofs.Taking.StatesKept.{At, Kept, Stands, lines_at}
use Rattle.scene_text.proofs.Taking.SessionLines.{taken-append}
use Rattle.scene_text.proofs.Taking.LinesTaken.{goes_on_from, start_stands, steps, taken}
use Rattle.str_scene.proofs.Allowing.{up_to_holds}
use Rattle.scene_text.proofs.Taking.WholeDrafts.{Whole}
use Rattle.scene_text.proofs.Taking.LinesComplete.{complete}
use Rattle.scene_text.specs.LineOrder.{Place, section_follows}
use Rattle.scene_text.specs.LineOrder.Place.{AfterDrain, AfterEnd, AfterNodes, AfterOp, AfterPart, AfterSession, AfterTx, AfterVersion, AtStart, InSchedule}
use Rattle.scene_text.specs.LineTexts.{IsForm}
use Rattle.scene_text.specs.SceneLines.{body_lines, drain_line, entry_line, lines_of}
use Rattle.scene_text.specs.Taking.{Limits, State, after, at_start, goes_on, is_row, take_line, take_lines}
use Rattle.scene_text.specs.Taking.Taken.{Now}
use Rattle.scene_text.specs.declared.lines.Line.{Line}
use Rattle.scene_text.specs.declared.lines.Line.TheVariants.{Abort as LAbort, End as LEnd, Nodes as LNodes, Part as LPart, Schedule as LSchedule, Version as LVersion}
use Rattle.str_scene.specs.Lists.{Each}
use Rattle.str_scene.specs.Drafts.{with_nodes}
use Rattle.str_scene.specs.Scenes.{Scene}
use Rattle.str_scene.specs.declared.names.Op.{Op}

-- the lines lead to a scene
pub record Ended (limits : Limits) (ls : List Line) (scene : Scene) : Type 0 where
  pub whole : Whole limits scene
  pub text : lines_of scene ≡ ls

-- a state at the end is a scene
whole_at : (limits : Limits) (place : Place) (d : Scene) (ops : List Op) → place ≡ AfterEnd → Kept limits d ops → At limits place d ops → Whole limits d
whole_at limits AfterEnd d ops e k a = record { head = a.0; kept = subst (λ xs. Kept limits d xs) a.1 k }
whole_at limits _ d ops e k a = absurd (cc)

-- its lines are those of the scene
text_at : (place : Place) (d : Scene) (ops : List Op) → place ≡ AfterEnd → lines_at d.keys place d ops ≡ lines_of d
text_at place d ops e =
    ap (λ p. lines_at d.keys p d ops) e ∙ append_assoc (body_lines d.keys d) (LSchedule ∷ map entry_line d.schedule) (drain_line d.drain ++ LEnd ∷ [])

-- lines that lead to the end are those of a scene within the limits
pub ended : (limits : Limits) (ls : List Line) (s : State) → Each IsForm ls → take_lines limits at_start ls ≡ Now s → s.place ≡ AfterEnd → Ended limits ls s.draft
ended limits ls s form e at =
    let r = steps limits ls at_start s form (start_stands limits) e in
    record {
      whole = whole_at limits s.place s.draft s.ops at r.stands.kept r.stands.at_place;
      text = sym (text_at s.place s.draft s.ops at) ∙ r.text s.draft.keys (extends_self s.draft.keys);
    }

-- lines that lead from the state to the end
pub record Finish (limits : Limits) (s : State) : Type 0 where
  pub rest : List Line
  pub forms : Each IsForm rest
  pub end : State
  pub taken : take_lines limits s rest ≡ Now end
  pub at_end : end.place ≡ AfterEnd

-- by one line more
finish_more : (limits : Limits) (s t : State) (l : Line) → IsForm l → take_line limits s l ≡ Now t → Finish limits t → Finish limits s
finish_more limits s t l form e f = record {
  rest = l ∷ f.rest;
  forms = (form, f.forms);
  end = f.end;
  taken = ap (goes_on (λ x. take_lines limits x f.rest)) e ∙ f.taken;
  at_end = f.at_end;
}

-- at the end
finish_none : (limits : Limits) (d : Scene) (ops : List Op) → Finish limits (mk AfterEnd d ops)
finish_none limits d ops = record { rest = []; forms = tt; end = mk AfterEnd d ops; taken = refl; at_end = refl }

-- in the schedule
finish_schedule : (limits : Limits) (d : Scene) (ops : List Op) → Finish limits (mk InSchedule d ops)
finish_schedule limits d ops = finish_more limits (mk InSchedule d ops) (mk AfterEnd d ops) LEnd tt refl (finish_none limits d ops)

-- where the schedule may follow
finish_section : (limits : Limits) (s : State) → section_follows InSchedule s.place ≡ Some InSchedule → Finish limits s
finish_section limits s e =
    let t : State = after InSchedule s LSchedule in
    finish_more limits s t LSchedule tt (taken limits s LSchedule InSchedule e refl refl) (finish_schedule limits t.draft t.ops)

-- a row of the first node
pub first_row : (nodes : ℕ) → 1 ≤ nodes → is_row nodes (record { 0 = 1 } ∷ []) ≡ true
first_row nodes some = and_from _ _ refl (and_from _ _ (and_from _ _ (up_to_holds nodes 1 (omega arith, some)) refl) refl)

-- after the nodes
finish_nodes : (limits : Limits) (d : Scene) (ops : List Op) → 1 ≤ limits.parts → 1 ≤ d.nodes → d.parts ≡ [] → Finish limits (mk AfterNodes d ops)
finish_nodes limits d ops few some none =
    let s : State = mk AfterNodes d ops in
    let l : Line = LPart (record { 0 = 1 }) (record { 0 = 1 } ∷ []) in
    let zero_parts : length d.parts ≡ 0 = ap (λ xs. length xs) none in
    let first : (1 == length d.parts + 1) ≡ true = (Decides-eqb 1 (length d.parts + 1)).1 (omega (arith, zero_parts)) in
    let room : nat_lt (length d.parts) limits.parts ≡ true = grind (arith, nat_tests) in
    let t : State = after AfterPart s l in
    finish_more limits s t l (omega arith) (taken limits s l AfterPart refl (and_from _ _ first (first_row d.nodes some)) room) (finish_section limits t refl)

-- after the version
finish_version : (limits : Limits) (d : Scene) (ops : List Op) → 1 ≤ limits.parts → d.parts ≡ [] → Finish limits (mk AfterVersion d ops)
finish_version limits d ops few none =
    finish_more limits (mk AfterVersion d ops) (mk AfterNodes (with_nodes 1 d) ops) (LNodes 1) tt refl (finish_nodes limits (with_nodes 1 d) ops few (omega arith) none)

-- after the first line of a transaction
finish_tx : (limits : Limits) (d : Scene) (ops : List Op) → 1 ≤ limits.ops → ops ≡ [] → Finish limits (mk AfterTx d ops)
finish_tx limits d ops few none =
    let s : State = mk AfterTx d ops in
    let t : State = after AfterOp s LAbort in
    let no_ops : length ops ≡ 0 = ap (λ xs. length xs) none in
    let room : nat_lt (length ops) limits.ops ≡ true = grind (arith, nat_tests) in
    finish_more limits s t LAbort tt (taken limits s LAbort AfterOp refl refl room) (finish_section limits t refl)

-- from each place
finish_at : (limits : Limits) (place : Place) (d : Scene) (ops : List Op) → 1 ≤ limits.parts → 1 ≤ limits.ops → At limits place d ops → Finish limits (mk place d ops)
finish_at limits AtStart d ops few some a =
    let t : State = after AfterVersion (mk AtStart d ops) (LVersion 1) in
    finish_more limits (mk AtStart d ops) t (LVersion 1) (inl refl) refl (finish_version limits t.draft t.ops few refl)
finish_at limits AfterVersion d ops few some a = finish_version limits d ops few (ap (λ x. x.parts) a.1)
finish_at limits AfterNodes d ops few some a = finish_nodes limits d ops few a.1.0 (ap (λ x. x.parts) a.2)
finish_at limits AfterPart d ops few some a = finish_section limits (mk AfterPart d ops) refl
finish_at limits AfterSession d ops few some a = finish_section limits (mk AfterSession d ops) refl
finish_at limits AfterTx d ops few some a = finish_tx limits d ops some a.2
finish_at limits AfterOp d ops few some a = finish_section limits (mk AfterOp d ops) refl
finish_at limits InSchedule d ops few some a = finish_schedule limits d ops
finish_at limits AfterDrain d ops few some a = finish_more limits (mk AfterDrain d ops) (mk AfterEnd d ops) LEnd tt refl (finish_none limits d ops)
finish_at limits AfterEnd d ops few some a = finish_none limits d ops

-- from each state
pub finish : (limits : Limits) (s : State) → 1 ≤ limits.parts → 1 ≤ limits.ops → Stands limits s → Finish limits s
finish limits s few some stands = finish_at limits s.place s.draft s.ops few some stands.at_place

-- the lines are the first of a scene within the limits
pub record Begins (limits : Limits) (ls : List Line) : Type 0 where
  pub scene : Scene
  pub rest : List Line
  pub whole : Whole limits scene
  pub text : lines_of scene ≡ ls ++ rest

-- of two lists of a fact
each_both : {X : Type 0} (P : X → Type 0) (xs ys : List X) → Each P xs → Each P ys → Each P (xs ++ ys)
each_both P [] ys h k = k
each_both P (x ∷ xs) ys h k = (h.0, each_both P xs ys h.1 k)

-- lines that are taken are the first of a scene
pub taken_begins : (limits : Limits) (ls : List Line) (s : State) → 1 ≤ limits.parts → 1 ≤ limits.ops → Each IsForm ls → take_lines limits at_start ls ≡ Now s → Begins limits ls
taken_begins limits ls s few some form e =
    let r = steps limits ls at_start s form (start_stands limits) e in
    let f = finish limits s few some r.stands in
    let all : take_lines limits at_start (ls ++ f.rest) ≡ Now f.end = taken-append limits ls f.rest at_start ∙ (ap (goes_on (λ x. take_lines limits x f.rest)) e ∙ f.taken) in
    let done = ended limits (ls ++ f.rest) f.end (each_both IsForm ls f.rest form f.forms) all f.at_end in
    record { scene = f.end.draft; rest = f.rest; whole = done.whole; text = done.text }

-- lines that are taken
pub record AreTaken (limits : Limits) (ls : List Line) : Type 0 where
  pub state : State
  pub lead : take_lines limits at_start ls ≡ Now state

-- the first lines of a scene are taken
pub begins_taken : (limits : Limits) (ls : List Line) → Begins limits ls → AreTaken limits ls
begins_taken limits ls b =
    let all : take_lines limits at_start (ls ++ b.rest) ≡ Now (mk AfterEnd b.scene []) = ap (take_lines limits at_start) (sym b.text) ∙ complete limits b.scene b.whole in
    let r = goes_on_from (λ x. take_lines limits x b.rest) (take_lines limits at_start ls) (mk AfterEnd b.scene []) (sym (taken-append limits ls b.rest at_start) ∙ all) in
    record { state = r.0; lead = r.1 }
