-- The bytes of the first frames of a scene, and of all its frames, are those of frames that are taken.
use Rattle.std.proofs.Common.{List, [], ap, append-nil, arith, subst, sym, ℕ, ◌++◌, ◌∙◌, ◌∷◌, ◌≡◌, ◌≤◌}
use Rattle.std.proofs.lemmas.Grind.{flat_map-append}
use Rattle.request_frame.proofs.BytesApart.{frame_code}
use Rattle.request_frame.proofs.Coded.{spelled_same}
use Rattle.request_frame.proofs.FrameForms.{frames_form}
use Rattle.request_frame.proofs.FramesEnd.{begins_taken, taken_begins}
use Rattle.request_frame.proofs.FramesTaken.{frames_end, frames_on, scene_frames_taken}
use Rattle.request_frame.specs.FirstBad.{IsInRange, IsStart, IsWhole}
use Rattle.request_frame.specs.FrameBytes.{IsForm, frame_bytes}
use Rattle.request_frame.specs.FrameTaking.{take_frames}
use Rattle.request_frame.specs.Frames.{Frame, frames_of}
use Rattle.request_frame.specs.Spelling.{IsFrames, bytes_of}
use Rattle.scene_text.proofs.Taking.HeadLines.{mk}
use Rattle.scene_text.proofs.Taking.LinesTaken.{now_same}
use Rattle.scene_text.proofs.Taking.WholeDrafts.{Whole, limits_of, ranged_whole, scene_whole, whole_ranged, whole_scene}
use Rattle.scene_text.specs.declared.order.Place.TheVariants.{AfterEnd}
use Rattle.scene_text.specs.Taking.{Limits, State, at_start, scene_limits}
use Rattle.scene_text.specs.Taking.Taken.{Now}
use Rattle.str_scene.proofs.Each.{each_append}
use Rattle.str_scene.specs.Lists.{Each}
use Rattle.str_scene.specs.SceneLimits.{IsScene}
use Rattle.str_scene.specs.Scenes.{Scene}

-- the bytes are those of frames that are taken within limits
pub record BytesTaken (limits : Limits) (bytes : List ℕ) : Type 0 where
  pub frames : List Frame
  pub forms : Each IsForm frames
  pub spelled : bytes ≡ bytes_of frames
  pub state : State
  pub lead : take_frames limits at_start frames ≡ Now state

-- a fact of each of two lists in a row holds of the first
each_first : {X : Type 0} (P : X → Type 0) (xs ys : List X) → Each P (xs ++ ys) → Each P xs
each_first P [] ys h = tt
each_first P (x ∷ xs) ys h = (h.0, each_first P xs ys h.1)

-- the first frames of a scene within limits
begin_taken : (limits : Limits) (scene : Scene) (first rest : List Frame) (bytes : List ℕ) → Whole limits scene → frames_of scene ≡ first ++ rest → bytes ≡ bytes_of first → BytesTaken limits bytes
begin_taken limits scene first rest bytes w e b =
    let t = begins_taken limits first (record { scene = scene; rest = rest; whole = w; frames = e }) in
    record {
      frames = first;
      forms = each_first IsForm first rest (subst (Each IsForm) e (frames_form limits scene w));
      spelled = b;
      state = t.state;
      lead = t.lead;
    }

pub start_taken : (bytes : List ℕ) → IsStart bytes → BytesTaken scene_limits bytes
start_taken bytes s = begin_taken scene_limits s.scene s.first s.rest bytes (scene_whole s.scene s.is_scene) s.frames s.spelled

pub taken_start : (bytes : List ℕ) → BytesTaken scene_limits bytes → IsStart bytes
taken_start bytes t =
    let b = taken_begins scene_limits t.frames t.state (omega arith) t.forms t.lead in
    record { scene = b.scene; first = t.frames; rest = b.rest; is_scene = whole_scene b.scene b.whole; frames = b.frames; spelled = t.spelled }

-- in range is taken within some limits
pub record TakenWithin (bytes : List ℕ) : Type 0 where
  pub limits : Limits
  pub taken : BytesTaken limits bytes

pub in_range_taken : (bytes : List ℕ) → IsInRange bytes → TakenWithin bytes
in_range_taken bytes r = record {
  limits = limits_of r.scene;
  taken = begin_taken (limits_of r.scene) r.scene r.first r.rest bytes (ranged_whole r.scene r.ranged) r.frames r.spelled;
}

pub taken_in_range : (limits : Limits) (bytes : List ℕ) → 1 ≤ limits.parts → BytesTaken limits bytes → IsInRange bytes
taken_in_range limits bytes few t =
    let b = taken_begins limits t.frames t.state few t.forms t.lead in
    record { scene = b.scene; first = t.frames; rest = b.rest; ranged = whole_ranged limits b.scene b.whole; frames = b.frames; spelled = t.spelled }

-- all frames of a scene lead to the end
pub whole_at_end : (bytes : List ℕ) (t : BytesTaken scene_limits bytes) → IsWhole bytes → t.state.place ≡ AfterEnd
whole_at_end bytes t w =
    let whole = scene_whole w.scene w.is_scene in
    let same : t.frames ≡ frames_of w.scene =
    spelled_same frame_bytes IsForm frame_code t.frames (frames_of w.scene) t.forms (frames_form scene_limits w.scene whole) (sym t.spelled ∙ w.spelled) in
    let end : Now t.state ≡ Now (mk AfterEnd w.scene []) = sym t.lead ∙ (ap (take_frames scene_limits at_start) same ∙ scene_frames_taken scene_limits w.scene whole) in
    ap (λ x. x.place) (now_same t.state (mk AfterEnd w.scene []) end)

-- and frames that lead to the end are all of a scene
pub record IsSceneOf (bytes : List ℕ) (scene : Scene) : Type 0 where
  pub is_scene : IsScene scene
  pub spelled : IsFrames bytes scene

pub end_scene : (bytes : List ℕ) (t : BytesTaken scene_limits bytes) → t.state.place ≡ AfterEnd → IsSceneOf bytes t.state.draft
end_scene bytes t at =
    let d = frames_end scene_limits t.frames t.state t.forms t.lead at in
    record { is_scene = whole_scene t.state.draft d.whole; spelled = t.spelled ∙ ap bytes_of (sym d.frames) }

pub end_whole : (bytes : List ℕ) (t : BytesTaken scene_limits bytes) → t.state.place ≡ AfterEnd → IsWhole bytes
end_whole bytes t at = let s = end_scene bytes t at in record { scene = t.state.draft; is_scene = s.is_scene; spelled = s.spelled }

-- one frame more
pub more_taken : (limits : Limits) (bytes : List ℕ) (t : BytesTaken limits bytes) (f : Frame) (s : State) → IsForm f → take_frames limits t.state (f ∷ []) ≡ Now s → BytesTaken limits (bytes ++ frame_bytes f)
more_taken limits bytes t f s h e = record {
  frames = t.frames ++ f ∷ [];
  forms = each_append IsForm t.frames (f ∷ []) t.forms (h, tt);
  spelled = ap (λ xs. xs ++ frame_bytes f) t.spelled
      ∙ (ap (λ xs. bytes_of t.frames ++ xs) (sym (append-nil (frame_bytes f))) ∙ sym (flat_map-append frame_bytes t.frames (f ∷ [])));
  state = s;
  lead = frames_on limits t.frames (f ∷ []) at_start t.state t.lead ∙ e;
}
