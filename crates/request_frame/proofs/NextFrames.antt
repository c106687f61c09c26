-- The frame that follows those that were read, in bytes and in order.
use Rattle.std.proofs.Common.{List, None, Option, Some, [], ap, arith, cond, drop, length, length-append, length-take, nat_le, refl, subst, suc, sym, take, true, zero, ℕ, ◌%◌, ◌++◌, ◌+◌, ◌*◌, ◌/◌, ◌∙◌, ◌∷◌, ◌≡◌, ◌≤◌}
use Rattle.std.proofs.lemmas.Bool.{le-leb}
use Rattle.std.proofs.lemmas.Option.{none-some}
use Rattle.request_frame.proofs.BytesApart.{frame_code}
use Rattle.request_frame.proofs.Coded.{longer}
use Rattle.request_frame.proofs.FrameStates.{lead_step, taken_follows}
use Rattle.request_frame.proofs.FramesTaken.{closed_from_start, first_taken, one_frame, one_frames_state, stays_after}
use Rattle.request_frame.specs.FirstBad.{first_bytes, frame_at, sized_frame}
use Rattle.request_frame.specs.FrameBytes.{IsForm, frame_bytes, number_bytes, row_bytes, script_bytes, sized}
use Rattle.request_frame.specs.FrameOrder.{frame_follows, frames_lead, place_after}
use Rattle.request_frame.specs.FrameTaking.{take_frame, take_frames}
use Rattle.request_frame.specs.Frames.{Frame}
use Rattle.request_frame.specs.Frames.Frame.{Client, Deliver, Drain, End, Nodes, Part, Session_, Tx, Version}
use Rattle.request_frame.specs.Reading.{Reached}
use Rattle.request_frame.specs.Spelling.{bytes_of}
use Rattle.scene_text.proofs.Taking.HeadLines.{mk}
use Rattle.scene_text.proofs.Taking.LinesInOrder.{began, no_version}
use Rattle.scene_text.proofs.Taking.LinesTaken.{now_same}
use Rattle.scene_text.specs.declared.order.Place.{Place}
use Rattle.scene_text.specs.LineOrder.{version_follows}
use Rattle.scene_text.specs.declared.order.Place.TheVariants.{AfterVersion, AtStart}
use Rattle.scene_text.specs.Taking.{Limits, State, at_start, scene_limits}
use Rattle.scene_text.specs.Taking.Taken.{Now}
use Rattle.str_scene.specs.Drafts.{empty_draft}
use Rattle.str_scene.specs.Lists.{Each}
use Rattle.str_scene.specs.Scenes.{Scene}
use Rattle.str_scene.specs.declared.names.Op.{Op}

-- the first of two lists
take_first : (xs ys : List ℕ) → take (length xs) (xs ++ ys) ≡ xs
take_first [] ys = refl
take_first (x ∷ xs) ys = ap (λ zs. x ∷ zs) (take_first xs ys)

-- so many bytes, where others follow them
pub first_of_parts : (n : ℕ) (xs ys : List ℕ) → length xs ≡ n → first_bytes n (xs ++ ys) ≡ Some xs
first_of_parts n xs ys e =
    let there : nat_le n (length (xs ++ ys)) ≡ true = le-leb n (length (xs ++ ys)) (omega (arith, e, length-append xs ys)) in
    ap (λ b. cond b (Some (take n (xs ++ ys))) None) there ∙ ap Some (ap (λ m. take m (xs ++ ys)) (sym e) ∙ take_first xs ys)

-- a frame by its length
pub sized_first : (kind : ℕ) (payload rest : List ℕ) → sized_frame (sized kind payload ++ rest) ≡ Some (sized kind payload)
sized_first kind payload rest =
    let size : length (sized kind payload) ≡ 3 + (length payload / 256 * 256 + length payload % 256) = omega arith in
    first_of_parts (3 + (length payload / 256 * 256 + length payload % 256)) (sized kind payload) rest size

-- each frame but the version
pub later_frame : (version : ℕ) (place next : Place) (f : Frame) (rest : List ℕ) → began place ≡ true → frame_follows version place f ≡ Some next → sized_frame (frame_bytes f ++ rest) ≡ Some (frame_bytes f)
later_frame version place next (Version v) rest b e = let r = lead_step version (version_follows place) [] next e in absurd (no_version place r.0 r.1 b)
later_frame version place next (Nodes n) rest b e = sized_first 1 (n ∷ []) rest
later_frame version place next (Part row) rest b e = sized_first 2 (row_bytes row) rest
later_frame version place next (Session_ n) rest b e = sized_first 3 (n.0 ∷ []) rest
later_frame version place next (Tx ops) rest b e = sized_first 4 (script_bytes ops) rest
later_frame version place next (Client s t) rest b e = sized_first 5 (s.0 ∷ number_bytes t) rest
later_frame version place next (Deliver i) rest b e = sized_first 6 (number_bytes i) rest
later_frame version place next Drain rest b e = sized_first 7 [] rest
later_frame version place next End rest b e = sized_first 8 [] rest

-- at the start only the version follows
pub starts : (version : ℕ) (next : Place) (f : Frame) → frame_follows version AtStart f ≡ Some next → (v : ℕ) × (f ≡ Version v)
starts version next (Version v) e = (v, refl)
starts version next f e = absurd (cc)

pub first_frame : (version : ℕ) (next : Place) (f : Frame) (rest : List ℕ) → frame_follows version AtStart f ≡ Some next → first_bytes 5 (frame_bytes f ++ rest) ≡ Some (frame_bytes f)
first_frame version next (Version v) rest e = first_of_parts 5 (frame_bytes (Version v)) rest refl
first_frame version next f rest e = absurd (cc)

-- the frame that begins the bytes after frames that were read
pub frame_there : (bytes : List ℕ) (place : ℕ) (s : State) (f : Frame) (rest : List ℕ) (next : Place) → place ≤ length bytes → Reached (take place bytes) s → drop place bytes ≡ frame_bytes f ++ rest →
    frame_follows s.draft.version s.place f ≡ Some next → frame_at place bytes ≡ Some (frame_bytes f)
frame_there bytes zero s f rest next within r parts order = at_zero r.frames r.forms r.spelled r.lead
  where
    at_zero : (fs : List Frame) → Each IsForm fs → [] ≡ bytes_of fs → take_frames scene_limits at_start fs ≡ Now s → first_bytes 5 bytes ≡ Some (frame_bytes f)
    at_zero [] h e l =
        let same : at_start ≡ s = now_same at_start s l in
        let order_ : frame_follows 0 AtStart f ≡ Some next = subst (λ x. frame_follows x.draft.version x.place f ≡ Some next) (sym same) order in
        ap (first_bytes 5) parts ∙ first_frame 0 next f rest order_
    at_zero (g ∷ gs) h e l = absurd (omega (arith, frame_code.some g h.0, ap length e, length-append (frame_bytes g) (bytes_of gs)))
frame_there bytes (suc place) s f rest next within r parts order = later r.frames r.forms r.spelled r.lead
  where
    later : (fs : List Frame) → Each IsForm fs → take (suc place) bytes ≡ bytes_of fs → take_frames scene_limits at_start fs ≡ Now s → sized_frame (drop (suc place) bytes) ≡ Some (frame_bytes f)
    later [] h e l = absurd (omega (arith, within, ap length e, length-take (suc place) bytes))
    later (g ∷ gs) h e l = ap sized_frame parts ∙ later_frame s.draft.version s.place next f rest (closed_from_start scene_limits g gs s h l).began_is order

-- frames whose bytes begin with all that were read, and are more
pub record NextOf (first all : List Frame) (left : List ℕ) : Type 0 where
  pub frame : Frame
  pub others : List Frame
  pub form : IsForm frame
  pub joined : all ≡ first ++ frame ∷ others
  pub left_is : left ≡ frame_bytes frame ++ bytes_of others

pub next_of : (first all : List Frame) (left : List ℕ) → Each IsForm first → Each IsForm all → 1 ≤ length left → bytes_of first ++ left ≡ bytes_of all → NextOf first all left
next_of first all left h k some e =
    let r = longer frame_bytes IsForm frame_code first all left h k e in
    by_more r.more r.joined r.forms r.bytes_is
  where
    by_more : (more : List Frame) → all ≡ first ++ more → Each IsForm more → left ≡ bytes_of more → NextOf first all left
    by_more [] j f b = absurd (omega (arith, some, ap length b))
    by_more (x ∷ xs) j f b = record { frame = x; others = xs; form = f.0; joined = j; left_is = b }

-- where they are taken within some limits, the next one is
pub next_taken : (limits : Limits) (read_limits : Limits) (first all : List Frame) (left : List ℕ) (s t : State) (n : NextOf first all left) → Each IsForm first →
    take_frames read_limits at_start first ≡ Now s → take_frames limits at_start all ≡ Now t → (m : State) × (take_frame limits s n.frame ≡ Now m)
next_taken limits read_limits first all left s t n h e f =
    let r = first_taken limits first (n.frame ∷ n.others) at_start t (ap (take_frames limits at_start) (sym n.joined) ∙ f) in
    let same : r.state ≡ s = one_frames_state limits read_limits first r.state s h r.first e in
    let q = one_frame limits s t n.frame n.others (ap (λ x. take_frames limits x (n.frame ∷ n.others)) (sym same) ∙ r.second) in
    (q.0, q.1)

-- a frame that is taken may stand where it is
order_at_start : (limits : Limits) (d : Scene) (ops : List Op) (t : State) (f : Frame) → take_frame limits (mk AtStart d ops) f ≡ Now t → (next : Place) × (frame_follows d.version AtStart f ≡ Some next)
order_at_start limits d ops t (Version v) e = (AfterVersion, refl)
order_at_start limits d ops t f e = absurd (cc)

order_by : (limits : Limits) (place : Place) (d : Scene) (ops : List Op) (t : State) (f : Frame) → take_frame limits (mk place d ops) f ≡ Now t → (next : Place) × (frame_follows d.version place f ≡ Some next)
order_by limits AtStart d ops t f e = order_at_start limits d ops t f e
order_by limits place d ops t f e = (t.place, (taken_follows limits (mk place d ops) t f refl e).place_is)

pub taken_order : (limits : Limits) (s t : State) (f : Frame) → take_frame limits s f ≡ Now t → (next : Place) × (frame_follows s.draft.version s.place f ≡ Some next)
taken_order limits s t f e = order_by limits s.place s.draft s.ops t f e

-- frames that are taken lead on to others
pub record LeadsFrames (version : ℕ) (place : Place) (fs gs : List Frame) (t : State) : Type 0 where
  pub version_is : t.draft.version ≡ version
  pub lead_is : frames_lead version (Some place) (fs ++ gs) ≡ frames_lead version (Some t.place) gs

pub frames_lead_on : (limits : Limits) (fs gs : List Frame) (s t : State) (version : ℕ) → s.draft.version ≡ version → began s.place ≡ true → Each IsForm fs → take_frames limits s fs ≡ Now t →
    LeadsFrames version s.place fs gs t
frames_lead_on limits [] gs s t version v b h e =
    let same : s ≡ t = now_same s t e in
    record { version_is = ap (λ x. x.draft.version) (sym same) ∙ v; lead_is = ap (λ x. frames_lead version (Some x.place) gs) same }
frames_lead_on limits (f ∷ fs) gs s t version v b h e =
    let r = one_frame limits s t f fs e in
    let m : State = r.0 in
    let k = taken_follows limits s m f b r.1 in
    let order : frame_follows version s.place f ≡ Some m.place = ap (λ n. frame_follows n s.place f) (sym v) ∙ k.place_is in
    let rest = frames_lead_on limits fs gs m t version (k.version_is ∙ v) (stays_after limits s m f h.0 b r.1).began_is h.1 r.2 in
    record { version_is = rest.version_is; lead_is = ap (λ o. frames_lead version o (fs ++ gs)) order ∙ rest.lead_is }

-- where the frames lead with one more
alone_leads : (f : Frame) → place_after (f ∷ []) ≡ frame_follows 0 AtStart f
alone_leads (Version v) = refl
alone_leads f = refl

lead_none : (version : ℕ) (o : Option Place) → frames_lead version o [] ≡ o
lead_none version None = refl
lead_none version (Some p) = refl

pub place_with : (limits : Limits) (fs : List Frame) (f : Frame) (s : State) → Each IsForm fs → take_frames limits at_start fs ≡ Now s → place_after (fs ++ f ∷ []) ≡ frame_follows s.draft.version s.place f
place_with limits [] f s h e = alone_leads f ∙ ap (λ x. frame_follows x.draft.version x.place f) (now_same at_start s e)
place_with limits (Version v ∷ fs) f s h e =
    let k = frames_lead_on limits fs (f ∷ []) (mk AfterVersion (empty_draft v) []) s v refl refl h.1 e in
    k.lead_is ∙ (lead_none v (frame_follows v s.place f) ∙ ap (λ n. frame_follows n s.place f) (sym k.version_is))
place_with limits (g ∷ fs) f s h e = absurd (cc)

-- a place to which something leads is one
lead_some : (version : ℕ) (o : Option Place) (fs : List Frame) (last : Place) → frames_lead version o fs ≡ Some last → (next : Place) × (o ≡ Some next)
lead_some version None fs last e = absurd (none-some _ e)
lead_some version (Some p) fs last e = (p, refl)

-- the first of frames in order may stand at the start
alone_follows : (f : Frame) (gs : List Frame) (last : Place) → place_after (f ∷ gs) ≡ Some last → (next : Place) × (frame_follows 0 AtStart f ≡ Some next)
alone_follows (Version v) gs last e = (AfterVersion, refl)
alone_follows f gs last e = absurd (none-some _ e)

pub place_within : (limits : Limits) (fs : List Frame) (f : Frame) (gs : List Frame) (s : State) (last : Place) → Each IsForm fs → take_frames limits at_start fs ≡ Now s →
    place_after (fs ++ f ∷ gs) ≡ Some last → (next : Place) × (frame_follows s.draft.version s.place f ≡ Some next)
place_within limits [] f gs s last h e o =
    subst (λ x. (next : Place) × (frame_follows x.draft.version x.place f ≡ Some next)) (now_same at_start s e) (alone_follows f gs last o)
place_within limits (Version v ∷ fs) f gs s last h e o =
    let k = frames_lead_on limits fs (f ∷ gs) (mk AfterVersion (empty_draft v) []) s v refl refl h.1 e in
    let r = lead_some v (frame_follows v s.place f) gs last (sym k.lead_is ∙ o) in
    (r.0, ap (λ n. frame_follows n s.place f) k.version_is ∙ r.1)
place_within limits (g ∷ fs) f gs s last h e o = absurd (cc)
