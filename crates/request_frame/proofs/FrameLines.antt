-- The lines for which frames stand, in a row, and the frames of lines.
use Rattle.std.proofs.Common.{Bool, List, [], ap, append_assoc, arith, false, length, map, refl, suc, sym, true, ℕ, ◌++◌, ◌+◌, ◌∙◌, ◌∷◌, ◌≡◌}
use Rattle.std.specs.Prelude.{flat_map}
use Rattle.request_frame.specs.FrameBytes.{IsForm, IsOpForm}
use Rattle.request_frame.specs.FrameOrder.{lines_for, opening}
use Rattle.request_frame.specs.Frames.{Frame, drain_frame, entry_frame, frames_of, script_frame, session_frames, tail_frames}
use Rattle.request_frame.specs.Frames.Frame.{Client, Deliver, Drain, End, Nodes, Part, Session_, Tx, Version}
use Rattle.scene_text.specs.declared.order.Place.{Place}
use Rattle.scene_text.specs.declared.order.Place.TheVariants.{AfterDrain, AfterEnd, InSchedule}
use Rattle.scene_text.specs.SceneLines.{drain_line, entry_line, lines_of, one_session_lines, row_lines, script_lines}
use Rattle.scene_text.specs.declared.lines.Line.{Line}
use Rattle.scene_text.specs.declared.lines.Line.TheVariants.{Abort as LAbort, Add as LAdd, Client as LClient, Del as LDel, Deliver as LDeliver, Drain as LDrain, End as LEnd, Get as LGet, Need as LNeed, Nodes as LNodes, Part as LPart, Put as LPut, Puts as LPuts, Schedule as LSchedule, Session as LSession, Tx as LTx, Version as LVersion}
use Rattle.str_base.specs.declared.names.NodeId.{NodeId}
use Rattle.str_scene.specs.Lists.{Each}
use Rattle.str_scene.specs.Scenes.{KeyTable, Scene, Session}
use Rattle.str_scene.specs.declared.names.Event.{Event}
use Rattle.str_scene.specs.declared.names.Event.TheVariants.{Client as EClient, Deliver as EDeliver}
use Rattle.str_scene.specs.declared.names.Op.{Op}

-- the schedule has begun
abbrev pub is_begun : Place → Bool
is_begun InSchedule = true
is_begun AfterDrain = true
is_begun AfterEnd = true
is_begun _ = false

-- the line that begins it, where it has not
abbrev pub begin : Bool → List Line
begin true = []
begin false = LSchedule ∷ []

pub opening_is : (place : Place) → opening place ≡ begin (is_begun place)
opening_is InSchedule = refl
opening_is AfterDrain = refl
opening_is AfterEnd = refl
opening_is _ = refl

-- the lines of a frame, where the next partition has the number p and the schedule has begun or not
abbrev pub own_lines : ℕ → Bool → Frame → List Line
own_lines p begun (Version v) = LVersion v ∷ []
own_lines p begun (Nodes n) = LNodes n ∷ []
own_lines p begun (Part row) = LPart (record { 0 = p }) row ∷ []
own_lines p begun (Session_ n) = LSession n ∷ []
own_lines p begun (Tx ops) = LTx ∷ ops
own_lines p begun (Client s t) = begin begun ++ LClient s t ∷ []
own_lines p begun (Deliver i) = begin begun ++ LDeliver i ∷ []
own_lines p begun Drain = begin begun ++ LDrain ∷ []
own_lines p begun End = begin begun ++ LEnd ∷ []

pub lines_for_is : (p : ℕ) (place : Place) (f : Frame) → lines_for p place f ≡ own_lines p (is_begun place) f
lines_for_is p place (Client s t) = ap (λ xs. xs ++ LClient s t ∷ []) (opening_is place)
lines_for_is p place (Deliver i) = ap (λ xs. xs ++ LDeliver i ∷ []) (opening_is place)
lines_for_is p place Drain = ap (λ xs. xs ++ LDrain ∷ []) (opening_is place)
lines_for_is p place End = ap (λ xs. xs ++ LEnd ∷ []) (opening_is place)
lines_for_is p place _ = refl

-- the number of the next partition after a frame, and whether the schedule has begun after it
abbrev pub next_part : ℕ → Frame → ℕ
next_part p (Part row) = p + 1
next_part p _ = p

abbrev pub next_begun : Bool → Frame → Bool
next_begun begun (Client s t) = true
next_begun begun (Deliver i) = true
next_begun begun Drain = true
next_begun begun End = true
next_begun begun _ = begun

-- the lines of frames
abbrev pub all_lines : ℕ → Bool → List Frame → List Line
all_lines p begun [] = []
all_lines p begun (f ∷ fs) = own_lines p begun f ++ all_lines (next_part p f) (next_begun begun f) fs

-- those of partitions
rows_lines : (p : ℕ) (rows : List (List NodeId)) (fs : List Frame) → all_lines p false (map Part rows ++ fs) ≡ row_lines p rows ++ all_lines (p + length rows) false fs
rows_lines p [] fs = let e : p ≡ p + 0 = omega arith in ap (λ n. all_lines n false fs) e
rows_lines p (row ∷ rows) fs =
    let e : p + 1 + length rows ≡ p + suc (length rows) = omega arith in
    ap (λ ls. LPart (record { 0 = p }) row ∷ ls) (rows_lines (p + 1) rows fs ∙ ap (λ n. row_lines (p + 1) rows ++ all_lines n false fs) e)

-- those of scripts
scripts_lines : (p : ℕ) (begun : Bool) (table : KeyTable) (txs : List (List Op)) (fs : List Frame) →
    all_lines p begun (map (script_frame table) txs ++ fs) ≡ flat_map (script_lines table) txs ++ all_lines p begun fs
scripts_lines p begun table [] fs = refl
scripts_lines p begun table (ops ∷ txs) fs =
    ap (λ ls. script_lines table ops ++ ls) (scripts_lines p begun table txs fs) ∙ sym (append_assoc (script_lines table ops) (flat_map (script_lines table) txs) (all_lines p begun fs))

-- those of sessions
sessions_lines : (p : ℕ) (begun : Bool) (table : KeyTable) (ss : List Session) (fs : List Frame) →
    all_lines p begun (flat_map (session_frames table) ss ++ fs) ≡ flat_map (one_session_lines table) ss ++ all_lines p begun fs
sessions_lines p begun table [] fs = refl
sessions_lines p begun table (s ∷ ss) fs =
    ap (all_lines p begun) (append_assoc (session_frames table s) (flat_map (session_frames table) ss) fs)
    ∙ (ap (λ ls. LSession s.node ∷ ls) (scripts_lines p begun table s.txs (flat_map (session_frames table) ss ++ fs))
    ∙ (ap (λ ls. one_session_lines table s ++ ls) (sessions_lines p begun table ss fs)
    ∙ sym (append_assoc (one_session_lines table s) (flat_map (one_session_lines table) ss) (all_lines p begun fs))))

-- those of entries, where the schedule has begun
entries_lines : (p : ℕ) (es : List Event) (fs : List Frame) → all_lines p true (map entry_frame es ++ fs) ≡ map entry_line es ++ all_lines p true fs
entries_lines p [] fs = refl
entries_lines p (EClient s t ∷ es) fs = ap (λ ls. LClient s t ∷ ls) (entries_lines p es fs)
entries_lines p (EDeliver i ∷ es) fs = ap (λ ls. LDeliver i ∷ ls) (entries_lines p es fs)

-- those of the drain and the end
last_lines : (p : ℕ) (drain : Bool) → all_lines p true (drain_frame drain ++ End ∷ []) ≡ drain_line drain ++ LEnd ∷ []
last_lines p true = refl
last_lines p false = refl

none_lines : (p : ℕ) (drain : Bool) → all_lines p false (drain_frame drain ++ End ∷ []) ≡ LSchedule ∷ (drain_line drain ++ LEnd ∷ [])
none_lines p true = refl
none_lines p false = refl

-- those after the sessions
tail_lines : (p : ℕ) (es : List Event) (drain : Bool) → all_lines p false (map entry_frame es ++ (drain_frame drain ++ End ∷ [])) ≡ LSchedule ∷ (map entry_line es ++ (drain_line drain ++ LEnd ∷ []))
tail_lines p [] drain = none_lines p drain
tail_lines p (EClient s t ∷ es) drain =
    ap (λ ls. LSchedule ∷ LClient s t ∷ ls) (entries_lines p es (drain_frame drain ++ End ∷ []) ∙ ap (λ ls. map entry_line es ++ ls) (last_lines p drain))
tail_lines p (EDeliver i ∷ es) drain =
    ap (λ ls. LSchedule ∷ LDeliver i ∷ ls) (entries_lines p es (drain_frame drain ++ End ∷ []) ∙ ap (λ ls. map entry_line es ++ ls) (last_lines p drain))

-- the lines of a scene's frames are those of the scene
pub scene_frames_lines : (scene : Scene) → all_lines 1 false (frames_of scene) ≡ lines_of scene
scene_frames_lines scene =
    let sessions = flat_map (session_frames scene.keys) scene.sessions in
    let tail = tail_frames scene in
    let q : ℕ = 1 + length scene.parts in
    let session_ls = flat_map (one_session_lines scene.keys) scene.sessions in
    let tail_ls : List Line = LSchedule ∷ (map entry_line scene.schedule ++ (drain_line scene.drain ++ LEnd ∷ [])) in
    ap (λ ls. LVersion scene.version ∷ LNodes scene.nodes ∷ ls)
    (rows_lines 1 scene.parts (sessions ++ tail)
    ∙ (ap (λ ls. row_lines 1 scene.parts ++ ls) (sessions_lines q false scene.keys scene.sessions tail ∙ ap (λ ls. session_ls ++ ls) (tail_lines q scene.schedule scene.drain))
    ∙ sym (append_assoc (row_lines 1 scene.parts) session_ls tail_ls)))

-- the operations with which lines begin, and the frames of the lines after them
abbrev grouped : List Line → List Line × List Frame
grouped [] = ([], [])
grouped (LVersion v ∷ ls) = ([], Version v ∷ (grouped ls).1)
grouped (LNodes n ∷ ls) = ([], Nodes n ∷ (grouped ls).1)
grouped (LPart p row ∷ ls) = ([], Part row ∷ (grouped ls).1)
grouped (LSession n ∷ ls) = ([], Session_ n ∷ (grouped ls).1)
grouped (LTx ∷ ls) = ([], Tx (grouped ls).0 ∷ (grouped ls).1)
grouped (LSchedule ∷ ls) = ([], (grouped ls).1)
grouped (LClient s t ∷ ls) = ([], Client s t ∷ (grouped ls).1)
grouped (LDeliver i ∷ ls) = ([], Deliver i ∷ (grouped ls).1)
grouped (LDrain ∷ ls) = ([], Drain ∷ (grouped ls).1)
grouped (LEnd ∷ ls) = ([], End ∷ (grouped ls).1)
grouped (l ∷ ls) = (l ∷ (grouped ls).0, (grouped ls).1)

-- an operation is put before
grouped_op : (l : Line) (ls : List Line) → IsOpForm l → grouped (l ∷ ls) ≡ (l ∷ (grouped ls).0, (grouped ls).1)
grouped_op (LGet name p) ls h = refl
grouped_op (LPut name p n) ls h = refl
grouped_op (LAdd name p n) ls h = refl
grouped_op (LDel name p) ls h = refl
grouped_op (LNeed name p n) ls h = refl
grouped_op LAbort ls h = refl
grouped_op (LPuts name p bytes) ls h = refl
grouped_op _ ls h = absurd h

-- with an operation before
abbrev put_first : Line → List Line × List Frame → List Line × List Frame
put_first op g = (op ∷ g.0, g.1)

-- and so are operations
grouped_ops : (ops ls : List Line) (fs : List Frame) → Each IsOpForm ops → grouped ls ≡ ([], fs) → grouped (ops ++ ls) ≡ (ops, fs)
grouped_ops [] ls fs h e = e
grouped_ops (op ∷ ops) ls fs h e =
    grouped_op op (ops ++ ls) h.0 ∙ ap (put_first op) (grouped_ops ops ls fs h.1 e)

-- a frame before others
abbrev before : Frame → List Frame → List Line × List Frame
before f fs = ([], f ∷ fs)

-- the line that begins the schedule changes no frame
abbrev without_ops : List Frame → List Line × List Frame
without_ops fs = ([], fs)

grouped_entry : (begun : Bool) (l : Line) (ls : List Line) (f : Frame) (fs : List Frame) → grouped (l ∷ ls) ≡ ([], f ∷ fs) → grouped ((begin begun ++ l ∷ []) ++ ls) ≡ ([], f ∷ fs)
grouped_entry true l ls f fs e = e
grouped_entry false l ls f fs e = ap (λ g. without_ops g.1) e

-- the frames of the lines of frames are these
grouped_all : (fs : List Frame) (p : ℕ) (begun : Bool) → Each IsForm fs → grouped (all_lines p begun fs) ≡ ([], fs)
grouped_all [] p begun h = refl
grouped_all (Version v ∷ fs) p begun h = ap (λ g. before (Version v) g.1) (grouped_all fs p begun h.1)
grouped_all (Nodes n ∷ fs) p begun h = ap (λ g. before (Nodes n) g.1) (grouped_all fs p begun h.1)
grouped_all (Part row ∷ fs) p begun h = ap (λ g. before (Part row) g.1) (grouped_all fs (p + 1) begun h.1)
grouped_all (Session_ n ∷ fs) p begun h = ap (λ g. before (Session_ n) g.1) (grouped_all fs p begun h.1)
grouped_all (Tx ops ∷ fs) p begun h = ap (λ g. before (Tx g.0) g.1) (grouped_ops ops (all_lines p begun fs) fs h.0.1 (grouped_all fs p begun h.1))
grouped_all (Client s t ∷ fs) p begun h =
    grouped_entry begun (LClient s t) (all_lines p true fs) (Client s t) fs (ap (λ g. before (Client s t) g.1) (grouped_all fs p true h.1))
grouped_all (Deliver i ∷ fs) p begun h = grouped_entry begun (LDeliver i) (all_lines p true fs) (Deliver i) fs (ap (λ g. before (Deliver i) g.1) (grouped_all fs p true h.1))
grouped_all (Drain ∷ fs) p begun h = grouped_entry begun LDrain (all_lines p true fs) Drain fs (ap (λ g. before Drain g.1) (grouped_all fs p true h.1))
grouped_all (End ∷ fs) p begun h = grouped_entry begun LEnd (all_lines p true fs) End fs (ap (λ g. before End g.1) (grouped_all fs p true h.1))

-- so frames of the same lines are the same
pub frames_same : (fs gs : List Frame) → Each IsForm fs → Each IsForm gs → all_lines 1 false fs ≡ all_lines 1 false gs → fs ≡ gs
frames_same fs gs h k e = ap (λ g. g.1) (sym (grouped_all fs 1 false h) ∙ (ap grouped e ∙ grouped_all gs 1 false k))
