-- Frames that are taken can be led to the end, and so are the first frames of a scene.
use Rattle.std.proofs.Common.{List, [], ap, arith, length, nat_lt, refl, sym, true, ◌++◌, ◌+◌, ◌==◌, ◌∙◌, ◌∷◌, ◌≡◌, ◌≤◌, inl, false}
use Rattle.std.proofs.lemmas.Bool.{and_from}
use Rattle.std.proofs.lemmas.Bool.Decides.{Decides-eqb, nat_tests}
use Rattle.request_frame.proofs.FrameStates.{is_open_tx}
use Rattle.request_frame.proofs.FramesTaken.{closed_from_start, frame_alone, frames_end, frames_on, frames_stand, first_taken, scene_frames_taken}
use Rattle.request_frame.specs.FrameBytes.{IsForm}
use Rattle.request_frame.specs.FrameTaking.{take_frame, take_frames}
use Rattle.request_frame.specs.Frames.{Frame, frames_of}
use Rattle.request_frame.specs.Frames.Frame.{End, Nodes, Part, Version}
use Rattle.scene_text.proofs.Taking.HeadLines.{mk}
use Rattle.scene_text.proofs.Taking.LedToEnd.{first_row}
use Rattle.scene_text.proofs.Taking.LinesTaken.{now_same, taken}
use Rattle.scene_text.proofs.Taking.StatesKept.{At}
use Rattle.scene_text.proofs.Taking.WholeDrafts.{Whole}
use Rattle.scene_text.specs.declared.order.Place.{Place}
use Rattle.scene_text.specs.declared.order.Place.TheVariants.{AfterDrain, AfterEnd, AfterNodes, AfterOp, AfterPart, AfterSession, AfterTx, AfterVersion, AtStart, InSchedule}
use Rattle.scene_text.specs.Taking.{Limits, State, after, at_start, goes_on, take_line, take_lines}
use Rattle.scene_text.specs.Taking.Taken.{Now}
use Rattle.scene_text.specs.declared.lines.Line.{Line}
use Rattle.scene_text.specs.declared.lines.Line.TheVariants.{Part as LPart}
use Rattle.str_base.specs.declared.names.NodeId.{NodeId}
use Rattle.str_scene.proofs.Each.{each_append}
use Rattle.str_scene.specs.Drafts.{empty_draft, with_nodes}
use Rattle.str_scene.specs.Lists.{Each}
use Rattle.str_scene.specs.Scenes.{Scene}
use Rattle.str_scene.specs.declared.names.Op.{Op}

-- frames that lead from the state to the end
pub record ToEnd (limits : Limits) (s : State) : Type 0 where
  pub rest : List Frame
  pub forms : Each IsForm rest
  pub end : State
  pub taken : take_frames limits s rest ≡ Now end
  pub at_end : end.place ≡ AfterEnd

-- by one frame more
finish_more : (limits : Limits) (s t : State) (f : Frame) → IsForm f → take_frame limits s f ≡ Now t → ToEnd limits t → ToEnd limits s
finish_more limits s t f form e k = record {
  rest = f ∷ k.rest;
  forms = (form, k.forms);
  end = k.end;
  taken = ap (goes_on (λ x. take_frames limits x k.rest)) e ∙ k.taken;
  at_end = k.at_end;
}

-- by the end
finish_end : (limits : Limits) (s t : State) → take_frame limits s End ≡ Now t → t.place ≡ AfterEnd → ToEnd limits s
finish_end limits s t e at = record { rest = End ∷ []; forms = (tt, tt); end = t; taken = frame_alone limits s t End e; at_end = at }

-- after a partition
finish_part : (limits : Limits) (d : Scene) (ops : List Op) → ToEnd limits (mk AfterPart d ops)
finish_part limits d ops = finish_end limits (mk AfterPart d ops) _ refl refl

-- after the nodes
finish_nodes : (limits : Limits) (d : Scene) (ops : List Op) → 1 ≤ limits.parts → 1 ≤ d.nodes → d.parts ≡ [] → ToEnd limits (mk AfterNodes d ops)
finish_nodes limits d ops few some none =
    let s : State = mk AfterNodes d ops in
    let row : List NodeId = record { 0 = 1 } ∷ [] in
    let l : Line = LPart (record { 0 = length d.parts + 1 }) row in
    let zero_parts : length d.parts ≡ 0 = ap (λ xs. length xs) none in
    let first : (length d.parts + 1 == length d.parts + 1) ≡ true = (Decides-eqb (length d.parts + 1) (length d.parts + 1)).1 refl in
    let room : nat_lt (length d.parts) limits.parts ≡ true = grind (arith, nat_tests) in
    let t : State = after AfterPart s l in
    let one : take_line limits s l ≡ Now t = taken limits s l AfterPart refl (and_from _ _ first (first_row d.nodes some)) room in
    finish_more limits s t (Part row) (omega arith) (ap (goes_on (λ x. take_lines limits x [])) one) (finish_part limits t.draft t.ops)

-- after the version
finish_version : (limits : Limits) (d : Scene) (ops : List Op) → 1 ≤ limits.parts → d.parts ≡ [] → ToEnd limits (mk AfterVersion d ops)
finish_version limits d ops few none =
    finish_more limits (mk AfterVersion d ops) (mk AfterNodes (with_nodes 1 d) ops) (Nodes 1) tt refl (finish_nodes limits (with_nodes 1 d) ops few (omega arith) none)

-- from each place
finish_at : (limits : Limits) (place : Place) (d : Scene) (ops : List Op) → 1 ≤ limits.parts → is_open_tx place ≡ false → At limits place d ops → ToEnd limits (mk place d ops)
finish_at limits AtStart d ops few o a = finish_more limits (mk AtStart d ops) (mk AfterVersion (empty_draft 1) ops) (Version 1) (inl refl) refl (finish_version limits (empty_draft 1) ops few refl)
finish_at limits AfterVersion d ops few o a = finish_version limits d ops few (ap (λ x. x.parts) a.1)
finish_at limits AfterNodes d ops few o a = finish_nodes limits d ops few a.1.0 (ap (λ x. x.parts) a.2)
finish_at limits AfterPart d ops few o a = finish_part limits d ops
finish_at limits AfterSession d ops few o a = finish_end limits (mk AfterSession d ops) _ refl refl
finish_at limits AfterTx d ops few o a = absurd (cc)
finish_at limits AfterOp d ops few o a = finish_end limits (mk AfterOp d ops) _ refl refl
finish_at limits InSchedule d ops few o a = finish_end limits (mk InSchedule d ops) _ refl refl
finish_at limits AfterDrain d ops few o a = finish_end limits (mk AfterDrain d ops) _ refl refl
finish_at limits AfterEnd d ops few o a = record { rest = []; forms = tt; end = mk AfterEnd d ops; taken = refl; at_end = refl }

-- from each state of frames
no_open : (limits : Limits) (fs : List Frame) (s : State) → Each IsForm fs → take_frames limits at_start fs ≡ Now s → is_open_tx s.place ≡ false
no_open limits [] s h e = ap (λ x. is_open_tx x.place) (sym (now_same at_start s e))
no_open limits (f ∷ fs) s h e = (closed_from_start limits f fs s h e).no_open

-- the frames are the first of a scene within the limits
pub record Begins (limits : Limits) (fs : List Frame) : Type 0 where
  pub scene : Scene
  pub rest : List Frame
  pub whole : Whole limits scene
  pub frames : frames_of scene ≡ fs ++ rest

-- frames that are taken are the first of a scene
pub taken_begins : (limits : Limits) (fs : List Frame) (s : State) → 1 ≤ limits.parts → Each IsForm fs → take_frames limits at_start fs ≡ Now s → Begins limits fs
taken_begins limits fs s few h e =
    let k = finish_at limits s.place s.draft s.ops few (no_open limits fs s h e) (frames_stand limits fs s h e).at_place in
    let d = frames_end limits (fs ++ k.rest) k.end (each_append IsForm fs k.rest h k.forms) (frames_on limits fs k.rest at_start s e ∙ k.taken) k.at_end in
    record { scene = k.end.draft; rest = k.rest; whole = d.whole; frames = d.frames }

-- and the first frames of a scene are taken
pub record TakenFirst (limits : Limits) (fs : List Frame) : Type 0 where
  pub state : State
  pub lead : take_frames limits at_start fs ≡ Now state

pub begins_taken : (limits : Limits) (fs : List Frame) → Begins limits fs → TakenFirst limits fs
begins_taken limits fs b =
    let r = first_taken limits fs b.rest at_start _ (ap (take_frames limits at_start) (sym b.frames) ∙ scene_frames_taken limits b.scene b.whole) in
    record { state = r.state; lead = r.first }
