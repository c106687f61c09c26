-- How the frames of a scene build it: by the lines for which they stand.
use Rattle.std.specs.Prelude.{List, [], length, ◌+◌, ◌∷◌}
use Rattle.request_frame.specs.FrameOrder.{lines_for}
use Rattle.request_frame.specs.Frames.{Frame}
use Rattle.scene_text.specs.Taking.{Limits, State, Taken, goes_on, take_lines}
use Rattle.scene_text.specs.Taking.Taken.{Now}
use Rattle.scene_text.specs.declared.lines.Line.{Line}

-- the lines for which a frame stands after a state
abbrev pub lines_at : State → Frame → List Line
lines_at s f = lines_for (length s.draft.parts + 1) s.place f

-- the state with one frame more, or why one of its lines is refused
abbrev pub take_frame : Limits → State → Frame → Taken
take_frame limits s f = take_lines limits s (lines_at s f)

-- the state with these frames more, or why a line of theirs is refused
abbrev pub take_frames : Limits → State → List Frame → Taken
take_frames limits s [] = Now s
take_frames limits s (f ∷ fs) = goes_on (λ t. take_frames limits t fs) (take_frame limits s f)
