-- What a frame comes to by its lines, when they are taken one by one.
use Rattle.std.proofs.Common.{Bool, Err, IfErr, List, Ok, OnOk, Result, Some, [], ap, false, refl, sym, true, ℕ, ◌++◌, ◌∙◌, ◌∷◌, ◌≡◌}
use Rattle.request_frame.proofs.BytesApart.{frame_code}
use Rattle.request_frame.proofs.FrameStates.{order_at}
use Rattle.request_frame.specs.FrameBytes.{IsForm, frame_bytes}
use Rattle.request_frame.specs.FrameOrder.{frame_follows, opening}
use Rattle.request_frame.specs.FrameTaking.{lines_at}
use Rattle.request_frame.specs.Frames.{Frame}
use Rattle.request_frame.specs.Reading.{IsBadBytes, IsInOrder, IsOpeningRefused, TakesBytes}
use Rattle.scene_text.proofs.FirstBad.RefusedLines.{reason, room_past}
use Rattle.scene_text.proofs.Taking.HeadLines.{mk}
use Rattle.scene_text.proofs.Taking.LinesInOrder.{lead-append, lead_on}
use Rattle.scene_text.proofs.Taking.LinesTaken.{goes_on_from, is_taken, now_same, taken}
use Rattle.scene_text.proofs.Taking.SessionLines.{taken-append, taken_on}
use Rattle.scene_text.proofs.Taking.WiderLimits.{lines_more, past, wider, within_first, within_second}
use Rattle.scene_text.specs.LineOrder.{follows, lead}
use Rattle.scene_text.specs.Reading.{IsRefusedFor}
use Rattle.scene_text.specs.Taking.{Limits, State, after, goes_on, in_range, scene_limits, take_line, take_lines}
use Rattle.scene_text.specs.Taking.Taken.{Now, Refused}
use Rattle.scene_text.specs.declared.lines.Line.{Line}
use Rattle.scene_text.specs.declared.order.Place.{Place}
use Rattle.scene_text.specs.declared.order.Place.TheVariants.{AtStart}
use Rattle.str_scene.specs.Scenes.{Scene}
use Rattle.str_scene.specs.declared.faults.SceneFault.{SceneFault}
use Rattle.str_scene.specs.declared.faults.SceneFault.TheVariants.{Count, Form, Memory, Range}
use Rattle.str_scene.specs.declared.faults.Why.TheVariants.{Count as Many, Form as No, Range as Out}
use Rattle.str_scene.specs.declared.names.Op.{Op}

-- lines lead from the state to the other within the limits of a scene
pub record Led (s : State) (ls : List Line) (t : State) : Type 0 where
  pub taken : take_lines scene_limits s ls ≡ Now t
  pub version_is : t.draft.version ≡ s.draft.version
  pub place_is : lead s.draft.version (Some s.place) ls ≡ Some t.place

-- no line
pub led_none : (s : State) → Led s [] s
led_none s = record { taken = refl; version_is = refl; place_is = refl }

-- what begins the schedule
led_by : (place : Place) (d : Scene) (ops : List Op) (t : State) → take_lines scene_limits (mk place d ops) (opening place) ≡ Now t → Led (mk place d ops) (opening place) t
led_by AtStart d ops t e = absurd (cc)
led_by place d ops t e =
    let k = lead_on scene_limits (opening place) (mk place d ops) t d.version refl refl e in
    record { taken = e; version_is = k.version_is; place_is = k.place_is }

pub led_opening : (s t : State) → take_lines scene_limits s (opening s.place) ≡ Now t → Led s (opening s.place) t
led_opening s t e = led_by s.place s.draft s.ops t e

-- one line more
led_order : (s m : State) (ls : List Line) (l : Line) → Led s ls m → lead s.draft.version (Some s.place) (ls ++ l ∷ []) ≡ lead m.draft.version (Some m.place) (l ∷ [])
led_order s m ls l k =
    lead-append s.draft.version ls l (Some s.place)
    ∙ (ap (λ o. lead s.draft.version o (l ∷ [])) k.place_is ∙ ap (λ v. lead v (Some m.place) (l ∷ [])) (sym k.version_is))

-- where a frame leads whose last line is this
frame_order : (s m : State) (f : Frame) (ls : List Line) (l : Line) → Led s ls m → lines_at s f ≡ ls ++ l ∷ [] → frame_follows s.draft.version s.place f ≡ lead m.draft.version (follows m.draft.version m.place l) []
frame_order s m f ls l k e = sym (order_at s.draft.version s f) ∙ (ap (lead s.draft.version (Some s.place)) e ∙ led_order s m ls l k)

-- frames of the same bytes
pub same_frame : (f g : Frame) (bytes : List ℕ) → IsForm f → IsForm g → bytes ≡ frame_bytes f → bytes ≡ frame_bytes g → f ≡ g
same_frame f g bytes a b d e = (frame_code.apart f g [] [] a b (ap (λ xs. xs ++ []) (sym d ∙ e))).0

-- lines lead to one state within any limits
pub one_lines_state : (a b : Limits) (ls : List Line) (s t u : State) → take_lines a s ls ≡ Now t → take_lines b s ls ≡ Now u → t ≡ u
one_lines_state a b ls s t u e f =
    now_same t u (sym (lines_more a (wider a b) ls s t (within_first a b) e) ∙ lines_more b (wider a b) ls s u (within_second a b) f)

-- the last of lines that are taken within some limits
pub last_taken : (limits : Limits) (s m t : State) (ls : List Line) (l : Line) → take_lines scene_limits s ls ≡ Now m → take_lines limits s (ls ++ l ∷ []) ≡ Now t → take_line limits m l ≡ Now t
last_taken limits s m t ls l e f =
    let r = goes_on_from (λ x. take_lines limits x (l ∷ [])) (take_lines limits s ls) t (sym (taken-append limits ls (l ∷ []) s) ∙ f) in
    let same : r.0 ≡ m = one_lines_state limits scene_limits ls s r.0 m r.1 e in
    let q = goes_on_from (λ x. take_lines limits x []) (take_line limits m l) t (ap (λ x. take_lines limits x (l ∷ [])) (sym same) ∙ r.2) in
    q.1 ∙ q.2

-- a frame whose last line is refused
form_refused : (s m : State) (f : Frame) (bytes : List ℕ) (ls : List Line) (l : Line) → Led s ls m → IsForm f → bytes ≡ frame_bytes f → lines_at s f ≡ ls ++ l ∷ [] → take_line scene_limits m l ≡ Refused No → IsBadBytes bytes s Form
form_refused s m f bytes ls l k form b e r g other is =
    let same : g ≡ f = same_frame g f bytes other form is b in
    ap (frame_follows s.draft.version s.place) same ∙ (frame_order s m f ls l k e ∙ ap (λ o. lead m.draft.version o []) (reason scene_limits m l No r))

-- where its last line may stand, so may the frame
in_order : (s m : State) (f : Frame) (ls : List Line) (l : Line) (next : Place) → Led s ls m → lines_at s f ≡ ls ++ l ∷ [] → follows m.draft.version m.place l ≡ Some next → IsInOrder s f
in_order s m f ls l next k e o = record { next = next; order = frame_order s m f ls l k e ∙ ap (λ x. lead m.draft.version x []) o }

pub not_both : (b : Bool) → b ≡ false → b ≡ true → ⊥
not_both b p q = absurd (cc)

range_refused : (s m : State) (f : Frame) (bytes : List ℕ) (ls : List Line) (l : Line) → Led s ls m → IsForm f → bytes ≡ frame_bytes f → lines_at s f ≡ ls ++ l ∷ [] → take_line scene_limits m l ≡ Refused Out → IsBadBytes bytes s Range
range_refused s m f bytes ls l k form b e r =
    let why = reason scene_limits m l Out r in
    record {
      frame = f;
      form = form;
      bytes_is = b;
      order = in_order s m f ls l why.0 k e why.1;
      refused = λ limits t.
          not_both (in_range m.draft l) why.2 (is_taken limits m l t.state (last_taken limits s m t.state ls l k.taken (ap (take_lines limits s) (sym e) ∙ t.taken))).range;
    }

pub now_not_refused : (t : State) (why : _) → Now t ≡ Refused why → ⊥
now_not_refused t why e = absurd (cc)

count_refused : (s m : State) (f : Frame) (bytes : List ℕ) (ls : List Line) (l : Line) → Led s ls m → IsForm f → bytes ≡ frame_bytes f → lines_at s f ≡ ls ++ l ∷ [] → take_line scene_limits m l ≡ Refused Many → IsBadBytes bytes s Count
count_refused s m f bytes ls l k form b e r =
    let why = reason scene_limits m l Many r in
    let large : Limits = wider scene_limits (past m) in
    let first : take_lines large s ls ≡ Now m = lines_more scene_limits large ls s m (within_first scene_limits (past m)) k.taken in
    let second : take_line large m l ≡ Now (after why.0 m l) = taken large m l why.0 why.1 why.2 (room_past scene_limits m l) in
    record {
      frame = f;
      form = form;
      bytes_is = b;
      limits = large;
      ranged = record {
        state = after why.0 m l;
        taken = ap (take_lines large s) e ∙ (taken_on large ls (l ∷ []) s m first ∙ ap (goes_on (λ x. take_lines large x [])) second);
      };
      refused = λ t.
          now_not_refused t.state Many (sym (last_taken scene_limits s m t.state ls l k.taken (ap (take_lines scene_limits s) (sym e) ∙ t.taken)) ∙ r);
    }

pub line_refused : (s m : State) (f : Frame) (bytes : List ℕ) (ls : List Line) (l : Line) (fault : SceneFault) → Led s ls m → IsForm f → bytes ≡ frame_bytes f → lines_at s f ≡ ls ++ l ∷ [] → IsRefusedFor m l fault → IsBadBytes bytes s fault
line_refused s m f bytes ls l Form k form b e r = form_refused s m f bytes ls l k form b e r
line_refused s m f bytes ls l Range k form b e r = range_refused s m f bytes ls l k form b e r
line_refused s m f bytes ls l Count k form b e r = count_refused s m f bytes ls l k form b e r
line_refused s m f bytes ls l Memory k form b e r = tt

-- what a call for the last line of a frame gives
pub last_bad : (s m : State) (f : Frame) (bytes : List ℕ) (ls : List Line) (l : Line) (r : Result (Unit {0}) SceneFault) → Led s ls m → IsForm f → bytes ≡ frame_bytes f → lines_at s f ≡ ls ++ l ∷ [] →
    IfErr r (λ x. IsRefusedFor m l x) → IfErr r (λ x. IsBadBytes bytes s x)
last_bad s m f bytes ls l (Ok x) k form b e r = tt
last_bad s m f bytes ls l (Err x) k form b e r = line_refused s m f bytes ls l x k form b e r

pub last_takes : (s m t : State) (f : Frame) (bytes : List ℕ) (ls : List Line) (l : Line) (r : Result (Unit {0}) SceneFault) → Led s ls m → IsForm f → bytes ≡ frame_bytes f → lines_at s f ≡ ls ++ l ∷ [] →
    OnOk r (take_line scene_limits m l ≡ Now t) → OnOk r (TakesBytes bytes s t)
last_takes s m t f bytes ls l (Ok x) k form b e r = record {
  frame = f;
  form = form;
  bytes_is = b;
  taken = ap (take_lines scene_limits s) e ∙ (taken_on scene_limits ls (l ∷ []) s m k.taken ∙ ap (goes_on (λ x. take_lines scene_limits x [])) r);
}
last_takes s m t f bytes ls l (Err x) k form b e r = tt

-- a schedule that may not begin here
pub opening_bad : (s : State) (f : Frame) (bytes : List ℕ) (l : Line) (fault : SceneFault) → IsForm f → bytes ≡ frame_bytes f → lines_at s f ≡ opening s.place ++ l ∷ [] → IsOpeningRefused s fault → IsBadBytes bytes s fault
opening_bad s f bytes l Form form b e r = λ g other is.
    (let same : g ≡ f = same_frame g f bytes other form is b in
    ap (frame_follows s.draft.version s.place) same
    ∙ (sym (order_at s.draft.version s f) ∙ (ap (lead s.draft.version (Some s.place)) e
    ∙ (lead-append s.draft.version (opening s.place) l (Some s.place) ∙ ap (λ o. lead s.draft.version o (l ∷ [])) r))))
opening_bad s f bytes l Range form b e r = absurd r
opening_bad s f bytes l Count form b e r = absurd r
opening_bad s f bytes l Memory form b e r = tt
