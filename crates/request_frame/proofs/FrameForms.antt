-- Frames of the form stand for lines of the form, and the frames of a scene are of the form.
use Rattle.std.proofs.Common.{Bool, List, [], arith, false, length, map, true, ℕ, ◌++◌, ◌∷◌, ◌≤◌}
use Rattle.std.specs.Prelude.{flat_map}
use Rattle.request_frame.proofs.FrameLines.{all_lines, begin, own_lines}
use Rattle.request_frame.specs.FrameBytes.{IsForm, IsOpForm}
use Rattle.request_frame.specs.Frames.{Frame, drain_frame, entry_frame, frames_of, script_frame, session_frames, tail_frames}
use Rattle.request_frame.specs.Frames.Frame.{Client, Deliver, Drain, End, Nodes, Part, Session_, Tx, Version}
use Rattle.scene_text.specs.LineTexts as texts
use Rattle.scene_text.specs.declared.lines.Line.{Line}
use Rattle.scene_text.specs.declared.lines.Line.TheVariants.{Abort as LAbort, Add as LAdd, Client as LClient, Del as LDel, Deliver as LDeliver, Drain as LDrain, End as LEnd, Get as LGet, Need as LNeed, Puts as LPuts, Put as LPut}
use Rattle.scene_text.proofs.Taking.LinesComplete.{table_good}
use Rattle.scene_text.proofs.Taking.StatesKept.{GoodEvent, GoodScript, GoodSession}
use Rattle.scene_text.proofs.Taking.TransactionLines.{TableGood, key_good, text_good}
use Rattle.scene_text.proofs.Taking.WholeDrafts.{Whole}
use Rattle.scene_text.specs.SceneLines.{op_line}
use Rattle.scene_text.specs.Taking.{Limits}
use Rattle.str_base.specs.declared.names.NodeId.{NodeId}
use Rattle.str_scene.proofs.Each.{each_append}
use Rattle.str_scene.specs.Lists.{Each}
use Rattle.str_scene.specs.SceneLimits.{IsOp, IsRow}
use Rattle.str_scene.specs.Scenes.{Scene, Session}
use Rattle.str_scene.specs.declared.names.Event.{Event}
use Rattle.str_scene.specs.declared.names.Event.TheVariants.{Client as EClient, Deliver as EDeliver}
use Rattle.str_scene.specs.declared.names.Op.{Op}
use Rattle.str_scene.specs.declared.names.Op.TheVariants.{Abort, Add, Del, Get, Need, Put, Puts}

-- an operation's line
pub op_line_form : (l : Line) → IsOpForm l → texts.IsForm l
op_line_form (LGet name p) h = h
op_line_form (LPut name p n) h = h.0
op_line_form (LAdd name p n) h = h.0
op_line_form (LDel name p) h = h
op_line_form (LNeed name p n) h = h.0
op_line_form LAbort h = tt
op_line_form (LPuts name p bytes) h = h
op_line_form _ h = absurd h

-- those of a script
pub ops_form : (ops : List Line) → Each IsOpForm ops → Each texts.IsForm ops
ops_form [] h = tt
ops_form (op ∷ ops) h = (op_line_form op h.0, ops_form ops h.1)

-- a line after the one that may begin the schedule
begin_form : (begun : Bool) (l : Line) → texts.IsForm l → Each texts.IsForm (begin begun ++ l ∷ [])
begin_form true l h = (h, tt)
begin_form false l h = (tt, (h, tt))

-- those of a frame
own_form : (p : ℕ) (begun : Bool) (f : Frame) → IsForm f → Each texts.IsForm (own_lines p begun f)
own_form p begun (Version v) h = (h, tt)
own_form p begun (Nodes n) h = (tt, tt)
own_form p begun (Part row) h = (h, tt)
own_form p begun (Session_ n) h = (tt, tt)
own_form p begun (Tx ops) h = (tt, ops_form ops h.1)
own_form p begun (Client s t) h = begin_form begun (LClient s t) tt
own_form p begun (Deliver i) h = begin_form begun (LDeliver i) tt
own_form p begun Drain h = begin_form begun LDrain tt
own_form p begun End h = begin_form begun LEnd tt

-- those of frames
pub all_lines_form : (fs : List Frame) (p : ℕ) (begun : Bool) → Each IsForm fs → Each texts.IsForm (all_lines p begun fs)
all_lines_form [] p begun h = tt
all_lines_form (f ∷ fs) p begun h = each_append texts.IsForm (own_lines p begun f) _ (own_form p begun f h.0) (all_lines_form fs _ _ h.1)

-- the line of an operation of a scene
op_form : (scene : Scene) (o : Op) → TableGood scene → IsOp scene.version scene.keys o → IsOpForm (op_line scene.keys o)
op_form scene (Get k) t h = (key_good scene k t h).good.name
op_form scene (Put k n) t h = ((key_good scene k t h.0).good.name, h.1)
op_form scene (Puts k u) t h = ((key_good scene k t h.0).good.name, (text_good scene u t h.1).good.bytes)
op_form scene (Add k n) t h = ((key_good scene k t h.0).good.name, h.1)
op_form scene (Del k) t h = (key_good scene k t h).good.name
op_form scene (Need k n) t h = ((key_good scene k t h.0).good.name, h.1)
op_form scene Abort t h = tt

script_form : (scene : Scene) (ops : List Op) → TableGood scene → Each (IsOp scene.version scene.keys) ops → Each IsOpForm (map (op_line scene.keys) ops)
script_form scene [] t h = tt
script_form scene (o ∷ ops) t h = (op_form scene o t h.0, script_form scene ops t h.1)

-- a script that has operations has their lines
some_ops : (scene : Scene) (ops : List Op) → 1 ≤ length ops → 1 ≤ length (map (op_line scene.keys) ops)
some_ops scene [] h = h
some_ops scene (o ∷ ops) h = omega arith

scripts_form : (limits : Limits) (scene : Scene) (txs : List (List Op)) → TableGood scene → Each (GoodScript limits scene.version scene.keys) txs → Each IsForm (map (script_frame scene.keys) txs)
scripts_form limits scene [] t h = tt
scripts_form limits scene (ops ∷ txs) t h = ((some_ops scene ops h.0.0, script_form scene ops t h.0.2), scripts_form limits scene txs t h.1)

sessions_form : (limits : Limits) (scene : Scene) (ss : List Session) → TableGood scene → Each (GoodSession limits scene.version scene.nodes scene.keys) ss →
    Each IsForm (flat_map (session_frames scene.keys) ss)
sessions_form limits scene [] t h = tt
sessions_form limits scene (s ∷ ss) t h =
    each_append IsForm (session_frames scene.keys s) (flat_map (session_frames scene.keys) ss) (tt, scripts_form limits scene s.txs t h.0.1) (sessions_form limits scene ss t h.1)

rows_form : (nodes : ℕ) (rows : List (List NodeId)) → Each (IsRow nodes) rows → Each IsForm (map Part rows)
rows_form nodes [] h = tt
rows_form nodes (row ∷ rows) h = (h.0.some, rows_form nodes rows h.1)

entries_form : (n : ℕ) (es : List Event) → Each (GoodEvent n) es → Each IsForm (map entry_frame es)
entries_form n [] h = tt
entries_form n (EClient s t ∷ es) h = (h.0.1, entries_form n es h.1)
entries_form n (EDeliver i ∷ es) h = (h.0.1, entries_form n es h.1)

last_form : (drain : Bool) → Each IsForm (drain_frame drain ++ End ∷ [])
last_form true = (tt, (tt, tt))
last_form false = (tt, tt)

-- all frames of a scene are of the form
pub frames_form : (limits : Limits) (scene : Scene) → Whole limits scene → Each IsForm (frames_of scene)
frames_form limits scene w =
    let t = table_good limits scene w in
    let sessions = flat_map (session_frames scene.keys) scene.sessions in (
      w.head.version,
      (
        tt,
        each_append IsForm (map Part scene.parts) (sessions ++ tail_frames scene) (rows_form scene.nodes scene.parts w.kept.rows)
            (each_append IsForm sessions (tail_frames scene) (sessions_form limits scene scene.sessions t w.kept.sessions)
            (each_append IsForm (map entry_frame scene.schedule) (drain_frame scene.drain ++ End ∷ []) (entries_form (length scene.sessions) scene.schedule w.kept.events) (last_form scene.drain))),
      ),
    )
