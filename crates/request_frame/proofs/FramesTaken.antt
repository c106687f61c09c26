-- Frames are taken as their lines are.
use Rattle.std.proofs.Common.{List, [], ap, false, length, refl, subst, sym, true, ℕ, ◌++◌, ◌+◌, ◌∙◌, ◌∷◌, ◌≡◌}
use Rattle.request_frame.proofs.FrameForms.{all_lines_form, frames_form}
use Rattle.request_frame.proofs.FrameLines.{all_lines, frames_same, is_begun, lines_for_is, next_begun, next_part, own_lines, scene_frames_lines}
use Rattle.request_frame.proofs.FrameStates.{Stays, frame_parts, frame_stays, is_open_tx, taken_follows}
use Rattle.request_frame.specs.FrameBytes.{IsForm}
use Rattle.request_frame.specs.FrameTaking.{lines_at, take_frame, take_frames}
use Rattle.std.specs.Prelude.{flat_map, map}
use Rattle.request_frame.specs.Frames.{Frame, frames_of, session_frames, tail_frames}
use Rattle.request_frame.specs.Frames.Frame.{Nodes, Part, Version}
use Rattle.scene_text.proofs.FirstBad.FirstLines.{one_state}
use Rattle.scene_text.proofs.Taking.HeadLines.{mk}
use Rattle.scene_text.proofs.Taking.LedToEnd.{ended}
use Rattle.scene_text.proofs.Taking.LinesComplete.{complete}
use Rattle.scene_text.proofs.Taking.LinesInOrder.{began}
use Rattle.scene_text.proofs.Taking.LinesTaken.{goes_on_from, now_same, start_stands, steps}
use Rattle.scene_text.proofs.Taking.SessionLines.{taken-append}
use Rattle.scene_text.proofs.Taking.StatesKept.{Stands}
use Rattle.scene_text.proofs.Taking.WholeDrafts.{Whole}
use Rattle.scene_text.proofs.Taking.WiderLimits.{Within, lines_more}
use Rattle.scene_text.specs.declared.order.Place.TheVariants.{AfterEnd, AfterVersion}
use Rattle.scene_text.specs.Taking.{Limits, State, Taken, at_start, goes_on, take_lines}
use Rattle.scene_text.specs.Taking.Taken.{Now, Refused}
use Rattle.scene_text.specs.declared.lines.Line.{Line}
use Rattle.str_scene.specs.Drafts.{empty_draft}
use Rattle.str_scene.specs.Lists.{Each}
use Rattle.str_scene.specs.Scenes.{Scene}

-- the lines of frames that follow a state
abbrev pub lines_from : State → List Frame → List Line
lines_from s fs = all_lines (length s.draft.parts + 1) (is_begun s.place) fs

-- where a frame that is taken leads
pub stays_after : (limits : Limits) (s t : State) (f : Frame) → IsForm f → began s.place ≡ true → take_frame limits s f ≡ Now t → Stays t.place (next_begun (is_begun s.place) f)
stays_after limits s t f h b e = frame_stays s.draft.version s.place t.place f h b (taken_follows limits s t f b e).place_is

-- the lines of the frames after one
abbrev rest_lines : State → Frame → List Frame → List Line
rest_lines s f fs = all_lines (next_part (length s.draft.parts + 1) f) (next_begun (is_begun s.place) f) fs

-- after a frame, where the others are taken as their lines are
after_frame : (limits : Limits) (f : Frame) (fs : List Frame) (s : State) (o : Taken) → began s.place ≡ true → IsForm f →
    ((t : State) → began t.place ≡ true → take_frames limits t fs ≡ take_lines limits t (lines_from t fs)) →
    take_frame limits s f ≡ o → goes_on (λ t. take_frames limits t fs) o ≡ goes_on (λ t. take_lines limits t (rest_lines s f fs)) o
after_frame limits f fs s (Refused why) b h others e = refl
after_frame limits f fs s (Now t) b h others e =
    let parts = frame_parts limits s t f h b e in
    let stays = stays_after limits s t f h b e in
    others t stays.began_is ∙ (λ i. take_lines limits t (all_lines (sym parts i) (sym stays.begun_is i) fs))

-- after the first frame, frames are taken as their lines are
pub frames_as_lines : (limits : Limits) (fs : List Frame) (s : State) → began s.place ≡ true → Each IsForm fs → take_frames limits s fs ≡ take_lines limits s (lines_from s fs)
frames_as_lines limits [] s b h = refl
frames_as_lines limits (f ∷ fs) s b h =
    after_frame limits f fs s (take_frame limits s f) b h.0 (λ t c. frames_as_lines limits fs t c h.1) refl
    ∙ (ap (goes_on (λ t. take_lines limits t (rest_lines s f fs))) (ap (take_lines limits s) (lines_for_is (length s.draft.parts + 1) s.place f))
    ∙ sym (taken-append limits (own_lines (length s.draft.parts + 1) (is_begun s.place) f) (rest_lines s f fs) s))

-- so are frames from the start
from_version : (limits : Limits) (v : ℕ) (fs : List Frame) → Each IsForm fs → take_frames limits at_start (Version v ∷ fs) ≡ take_lines limits at_start (all_lines 1 false (Version v ∷ fs))
from_version limits v fs h = frames_as_lines limits fs (mk AfterVersion (empty_draft v) []) refl h

pub from_start : (limits : Limits) (fs : List Frame) (t : State) → Each IsForm fs → take_frames limits at_start fs ≡ Now t → take_lines limits at_start (all_lines 1 false fs) ≡ Now t
from_start limits [] t h e = e
from_start limits (Version v ∷ fs) t h e = sym (from_version limits v fs h.1) ∙ e
from_start limits (f ∷ fs) t h e = absurd (cc)

-- frames one after the other
append_from : (limits : Limits) (fs gs : List Frame) → ((t : State) → take_frames limits t (fs ++ gs) ≡ goes_on (λ x. take_frames limits x gs) (take_frames limits t fs)) →
    (o : Taken) → goes_on (λ t. take_frames limits t (fs ++ gs)) o ≡ goes_on (λ x. take_frames limits x gs) (goes_on (λ t. take_frames limits t fs) o)
append_from limits fs gs others (Now t) = others t
append_from limits fs gs others (Refused why) = refl

pub frames_append : (limits : Limits) (fs gs : List Frame) (s : State) → take_frames limits s (fs ++ gs) ≡ goes_on (λ t. take_frames limits t gs) (take_frames limits s fs)
frames_append limits [] gs s = refl
frames_append limits (f ∷ fs) gs s = append_from limits fs gs (λ t. frames_append limits fs gs t) (take_frame limits s f)

-- frames that are taken, and others after them
pub frames_on : (limits : Limits) (fs gs : List Frame) (s t : State) → take_frames limits s fs ≡ Now t → take_frames limits s (fs ++ gs) ≡ take_frames limits t gs
frames_on limits fs gs s t e = frames_append limits fs gs s ∙ ap (goes_on (λ x. take_frames limits x gs)) e

-- the first of frames that are taken
pub record FirstTaken (limits : Limits) (fs gs : List Frame) (s t : State) : Type 0 where
  pub state : State
  pub first : take_frames limits s fs ≡ Now state
  pub second : take_frames limits state gs ≡ Now t

pub first_taken : (limits : Limits) (fs gs : List Frame) (s t : State) → take_frames limits s (fs ++ gs) ≡ Now t → FirstTaken limits fs gs s t
first_taken limits fs gs s t e =
    let r = goes_on_from (λ x. take_frames limits x gs) (take_frames limits s fs) t (sym (frames_append limits fs gs s) ∙ e) in
    record { state = r.0; first = r.1; second = r.2 }

-- one frame
pub one_frame : (limits : Limits) (s t : State) (f : Frame) (fs : List Frame) → take_frames limits s (f ∷ fs) ≡ Now t → (m : State) × (take_frame limits s f ≡ Now m) × (take_frames limits m fs ≡ Now t)
one_frame limits s t f fs e = goes_on_from (λ x. take_frames limits x fs) (take_frame limits s f) t e

pub frame_alone : (limits : Limits) (s t : State) (f : Frame) → take_frame limits s f ≡ Now t → take_frames limits s (f ∷ []) ≡ Now t
frame_alone limits s t f e = ap (goes_on (λ x. take_frames limits x [])) e

-- frames of two limits lead to one state
pub one_frames_state : (a b : Limits) (fs : List Frame) (s t : State) → Each IsForm fs → take_frames a at_start fs ≡ Now s → take_frames b at_start fs ≡ Now t → s ≡ t
one_frames_state a b fs s t h e f = one_state a b (all_lines 1 false fs) s t (from_start a fs s h e) (from_start b fs t h f)

-- what the state of frames keeps
pub frames_stand : (limits : Limits) (fs : List Frame) (s : State) → Each IsForm fs → take_frames limits at_start fs ≡ Now s → Stands limits s
frames_stand limits fs s h e = (steps limits (all_lines 1 false fs) at_start s (all_lines_form fs 1 false h) (start_stands limits) (from_start limits fs s h e)).stands

-- after the first frame the frames have begun, and leave no transaction open
pub record Closed (s : State) : Type 0 where
  pub began_is : began s.place ≡ true
  pub no_open : is_open_tx s.place ≡ false

pub closed_on : (limits : Limits) (fs : List Frame) (s t : State) → Each IsForm fs → Closed s → take_frames limits s fs ≡ Now t → Closed t
closed_on limits [] s t h c e = subst Closed (now_same s t e) c
closed_on limits (f ∷ fs) s t h c e =
    let r = one_frame limits s t f fs e in
    let k = stays_after limits s r.0 f h.0 c.began_is r.1 in
    closed_on limits fs r.0 t h.1 (record { began_is = k.began_is; no_open = k.no_open }) r.2

pub closed_from_start : (limits : Limits) (f : Frame) (fs : List Frame) (t : State) → Each IsForm (f ∷ fs) → take_frames limits at_start (f ∷ fs) ≡ Now t → Closed t
closed_from_start limits (Version v) fs t h e = closed_on limits fs (mk AfterVersion (empty_draft v) []) t h.1 (record { began_is = refl; no_open = refl }) e
closed_from_start limits f fs t h e = absurd (cc)

-- all frames of a scene within limits are taken to the end
pub scene_frames_taken : (limits : Limits) (scene : Scene) → Whole limits scene → take_frames limits at_start (frames_of scene) ≡ Now (mk AfterEnd scene [])
scene_frames_taken limits scene w =
    let h = frames_form limits scene w in
    let later : List Frame = Nodes scene.nodes ∷ (map Part scene.parts ++ (flat_map (session_frames scene.keys) scene.sessions ++ tail_frames scene)) in
    from_version limits scene.version later h.1 ∙ (ap (take_lines limits at_start) (scene_frames_lines scene) ∙ complete limits scene w)

-- and frames that are taken to the end are those of a scene
pub record EndsAt (limits : Limits) (fs : List Frame) (scene : Scene) : Type 0 where
  pub whole : Whole limits scene
  pub frames : frames_of scene ≡ fs

pub frames_end : (limits : Limits) (fs : List Frame) (s : State) → Each IsForm fs → take_frames limits at_start fs ≡ Now s → s.place ≡ AfterEnd → EndsAt limits fs s.draft
frames_end limits fs s h e at =
    let d = ended limits (all_lines 1 false fs) s (all_lines_form fs 1 false h) (from_start limits fs s h e) at in
    record {
      whole = d.whole;
      frames = frames_same (frames_of s.draft) fs (frames_form limits s.draft d.whole) h (scene_frames_lines s.draft ∙ d.text);
    }

-- with greater limits no less is taken
pub frames_more : (a b : Limits) (fs : List Frame) (s t : State) → Within a b → take_frames a s fs ≡ Now t → take_frames b s fs ≡ Now t
frames_more a b [] s t w e = e
frames_more a b (f ∷ fs) s t w e =
    let r = one_frame a s t f fs e in
    let m : State = r.0 in
    ap (goes_on (λ x. take_frames b x fs)) (lines_more a b (lines_at s f) s m w r.1) ∙ frames_more a b fs m t w r.2
