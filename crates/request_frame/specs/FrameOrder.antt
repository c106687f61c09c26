-- The order of the frames of a scene: that of the lines for which they stand.
use Rattle.std.specs.Prelude.{List, None, Option, Some, [], ℕ, ◌++◌, ◌∷◌}
use Rattle.request_frame.specs.Frames.{Frame}
use Rattle.request_frame.specs.Frames.Frame.{Client, Deliver, Drain, End, Nodes, Part, Session_, Tx, Version}
use Rattle.scene_text.specs.declared.order.Place.{Place}
use Rattle.scene_text.specs.LineOrder.{lead}
use Rattle.scene_text.specs.declared.order.Place.TheVariants.{AfterDrain, AfterEnd, AtStart, InSchedule}
use Rattle.scene_text.specs.declared.lines.Line.{Line}
use Rattle.scene_text.specs.declared.lines.Line.TheVariants.{Client as LClient, Deliver as LDeliver, Drain as LDrain, End as LEnd, Nodes as LNodes, Part as LPart, Schedule as LSchedule, Session as LSession, Tx as LTx, Version as LVersion}

-- the line that begins the schedule has no frame: it comes before the first line that may only follow it
abbrev pub opening : Place → List Line
opening InSchedule = []
opening AfterDrain = []
opening AfterEnd = []
opening _ = LSchedule ∷ []

-- the lines for which a frame stands at this place, where the next partition has the number p
abbrev pub lines_for : ℕ → Place → Frame → List Line
lines_for p place (Version v) = LVersion v ∷ []
lines_for p place (Nodes n) = LNodes n ∷ []
lines_for p place (Part row) = LPart (record { 0 = p }) row ∷ []
lines_for p place (Session_ n) = LSession n ∷ []
lines_for p place (Tx ops) = LTx ∷ ops
lines_for p place (Client s t) = opening place ++ LClient s t ∷ []
lines_for p place (Deliver i) = opening place ++ LDeliver i ∷ []
lines_for p place Drain = opening place ++ LDrain ∷ []
lines_for p place End = opening place ++ LEnd ∷ []

-- where the frames are after one more of a version; none where its lines may not stand there
abbrev pub frame_follows : ℕ → Place → Frame → Option Place
frame_follows version place f = lead version (Some place) (lines_for 1 place f)

-- where frames lead from a place
abbrev pub frames_lead : ℕ → Option Place → List Frame → Option Place
frames_lead version None fs = None
frames_lead version (Some place) [] = Some place
frames_lead version (Some place) (f ∷ fs) = frames_lead version (frame_follows version place f) fs

-- the version that the first frame gives, 0 where there is none
abbrev pub version_of : List Frame → ℕ
version_of [] = 0
version_of (Version v ∷ fs) = v
version_of (_ ∷ fs) = 0

-- where frames lead from the start, whatever their numbers are
abbrev pub place_after : List Frame → Option Place
place_after fs = frames_lead (version_of fs) (Some AtStart) fs
