-- Why an input is refused.
use Rattle.history_reading.proofs.HistoryTexts.{first_bad_no_history}
use Rattle.history_reading.specs.FirstBad.{IsFaultOf as IsHistoryFault}
use Rattle.history_reading.specs.declared.reading.HistoryFault.{HistoryFault}
use Rattle.history_reading.specs.declared.reading.HistoryFault.TheVariants.{Bad as BadHistory}
use Rattle.request_frame.proofs.FrameLaws.{first_bad_no_scene}
use Rattle.request_frame.specs.Reading.{IsFaultOf as IsFrameFault}
use Rattle.request_frame.specs.declared.read.FrameFault.{FrameFault}
use Rattle.request_frame.specs.declared.read.FrameFault.TheVariants.{Bad as BadFrame}
use Rattle.scene_text.proofs.FirstBad.FirstBadLaws.{first_bad_no_text}
use Rattle.scene_text.specs.Reading.{IsFaultOf as IsTextFault}
use Rattle.scene_text.specs.declared.read.TextFault.{TextFault}
use Rattle.scene_text.specs.declared.read.TextFault.TheVariants.{Bad as BadLine}
use Rattle.std.proofs.Common.{List, arith, length, subst, ℕ, ◌<◌, ◌≡◌, ◌≤◌}
use Rattle.str_scene.specs.SceneLimits.{IsScene}
use Rattle.str_scene.specs.Scenes.{Scene}
use Rattle.str_scene.specs.declared.faults.Why.{Why}
use Rattle.run_io.specs.Inputs.{IsFirstBad, IsRefusal, IsSpelled, Spells, bad_said, too_many}
use Rattle.run_io.specs.Inputs.IsRefusal.{bad, long}
use Rattle.run_io.specs.Inputs.{RefusesInput}
use Rattle.run_io.specs.declared.inputs.Form.{Form}
use Rattle.run_io.specs.declared.inputs.Form.TheVariants.{Frames, History, Text}
use Rattle.top_status.specs.Failures.{RefusesWith}
use Rattle.top_status.specs.declared.failure.Failure.{Failure}
use Rattle.top_status.specs.declared.failure.Failure.TheVariants.{Memory, Read, Refused as Refusal, Usage, Write}

-- more bytes than may be
pub refuses_long : (form : Form) (bytes : List ℕ) (f : Failure) → length bytes ≤ 1048577 → 1048576 < length bytes → RefusesWith too_many f → RefusesInput form bytes f
refuses_long form bytes (Refusal said) l m e = long (omega (arith, l, m)) e
refuses_long form bytes Memory l m e = tt
refuses_long form bytes Usage l m e = absurd e
refuses_long form bytes Read l m e = absurd e
refuses_long form bytes Write l m e = absurd e

-- a bad line or frame
refuses_bad : (form : Form) (bytes : List ℕ) (f : Failure) (place : ℕ) (why : Why) → length bytes ≤ 1048576 → IsFirstBad form bytes place why → RefusesWith (bad_said form place why) f
    → RefusesInput form bytes f
refuses_bad form bytes (Refusal said) place why l b e = bad place why l b e
refuses_bad form bytes Memory place why l b e = tt
refuses_bad form bytes Usage place why l b e = absurd e
refuses_bad form bytes Read place why l b e = absurd e
refuses_bad form bytes Write place why l b e = absurd e

-- the fault of the reader of texts, which names the line
pub refuses_line : (text : List ℕ) (r : Failure) (fault : TextFault) (line : ℕ) (why : Why) → length text ≤ 1048576 → fault ≡ BadLine line why → IsTextFault text fault
    → RefusesWith (bad_said Text line why) r → RefusesInput Text text r
refuses_line text r fault line why l e b w = refuses_bad Text text r line why l (subst (IsTextFault text) e b) w

-- the fault of the reader of frames, which names the frame's place
pub refuses_frame : (bytes : List ℕ) (r : Failure) (fault : FrameFault) (place : ℕ) (why : Why) → length bytes ≤ 1048576 → fault ≡ BadFrame place why → IsFrameFault bytes fault
    → RefusesWith (bad_said Frames place why) r → RefusesInput Frames bytes r
refuses_frame bytes r fault place why l e b w = refuses_bad Frames bytes r place why l (subst (IsFrameFault bytes) e b) w

-- the fault of the reader of histories, which names the line
pub refuses_history : (text : List ℕ) (r : Failure) (fault : HistoryFault) (line : ℕ) (why : Why) → length text ≤ 1048576 → fault ≡ BadHistory line why → IsHistoryFault text fault
    → RefusesWith (bad_said History line why) r → RefusesInput History text r
refuses_history text r fault line why l e b w = refuses_bad History text r line why l (subst (IsHistoryFault text) e b) w

-- bytes with a first bad line or frame spell no scene, and no history
bad_no_scene : (form : Form) (bytes : List ℕ) (place : ℕ) (why : Why) (scene : Scene) → IsFirstBad form bytes place why → IsScene scene → ¬ Spells form bytes scene
bad_no_scene Text bytes place why scene b s t = first_bad_no_text bytes place why scene b s t
bad_no_scene Frames bytes place why scene b s t = first_bad_no_scene bytes place why scene b s t
bad_no_scene History bytes line why scene b s t = first_bad_no_history bytes line why scene t.0 b t.1

-- a spelling is not refused
pub not_refused : (form : Form) (bytes said : List ℕ) (scene : Scene) → IsSpelled form bytes scene → IsRefusal form bytes said → ⊥
not_refused form bytes said scene t (long l e) = let s = t.short in omega (arith, l, s)
not_refused form bytes said scene t (bad place why l b e) = bad_no_scene form bytes place why scene b t.scene_ t.spelled
