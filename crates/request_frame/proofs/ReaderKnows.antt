-- What a reader knows of bytes, frame by frame: the first bad frame, or the scene.
use Rattle.std.proofs.Common.{List, None, Some, [], ap, append-nil, append_assoc, arith, drop, inl, inr, length, length-drop, length-take, refl, subst, suc, sym, take, zero, ℕ, ◌++◌, ◌+◌, ◌-◌, ◌<◌, ◌∙◌, ◌∷◌, ◌≡◌, ◌≤◌}
use Rattle.std.proofs.lemmas.List.{take-append-drop}
use Rattle.std.proofs.lemmas.Grind.{flat_map-append}
use Rattle.std.proofs.lemmas.Option.{none-some, same_Some}
use Rattle.request_frame.proofs.BytesApart.{frame_code}
use Rattle.request_frame.proofs.FrameStarts.{BytesTaken, IsSceneOf, end_scene, end_whole, in_range_taken, more_taken, start_taken, taken_in_range, taken_start, whole_at_end}
use Rattle.request_frame.proofs.FramesTaken.{frame_alone, frames_more, frames_on}
use Rattle.request_frame.proofs.FramesRead.{same_frame}
use Rattle.request_frame.proofs.NextFrames.{frame_there, next_of, next_taken, place_with, place_within, taken_order}
use Rattle.request_frame.specs.FirstBad.{FirstBad, IsFormed, IsInRange, IsLastStart, IsNext, IsWhole, frame_at}
use Rattle.request_frame.specs.FrameBytes.{IsForm, frame_bytes}
use Rattle.request_frame.specs.FrameOrder.{frame_follows, place_after}
use Rattle.request_frame.specs.FrameTaking.{take_frame}
use Rattle.request_frame.specs.Frames.{Frame}
use Rattle.request_frame.specs.Frames.Frame.{Client, Deliver, Drain, End, Nodes, Part, Session_, Tx, Version}
use Rattle.request_frame.specs.Reading.{IsBadBytes, IsFaultOf, IsOutOfRange, IsTooMany, Reached, TakesBytes, fault_at}
use Rattle.request_frame.specs.Spelling.{bytes_of}
use Rattle.scene_text.proofs.Taking.WiderLimits.{lines_more, wider, within_first, within_second}
use Rattle.scene_text.specs.declared.order.Place.{Place}
use Rattle.scene_text.specs.declared.order.Place.TheVariants.{AfterEnd}
use Rattle.scene_text.specs.Taking.{Limits, State, at_start, scene_limits}
use Rattle.scene_text.specs.Taking.Taken.{Now}
use Rattle.str_scene.proofs.Each.{each_append, each_at, each_from}
use Rattle.str_scene.specs.declared.faults.SceneFault.{SceneFault}
use Rattle.str_scene.specs.declared.faults.SceneFault.TheVariants.{Count, Form, Memory, Range}
use Rattle.str_scene.specs.declared.faults.Why.TheVariants.{Count as Many, Cut, Form as No, Range as Out}

-- nothing is read
pub reached_start : Reached [] at_start
reached_start = record { frames = []; forms = tt; spelled = refl; lead = refl }

-- what was read, as bytes that are taken
abbrev read_taken : (bytes : List ℕ) (s : State) → Reached bytes s → BytesTaken scene_limits bytes
read_taken bytes s r = record { frames = r.frames; forms = r.forms; spelled = r.spelled; state = s; lead = r.lead }

-- one frame more
pub reached_more : (bytes frame : List ℕ) (s t : State) → Reached bytes s → TakesBytes frame s t → Reached (bytes ++ frame) t
reached_more bytes frame s t r k = record {
  frames = r.frames ++ k.frame ∷ [];
  forms = each_append IsForm r.frames (k.frame ∷ []) r.forms (k.form, tt);
  spelled = ap (λ xs. bytes ++ xs) k.bytes_is
      ∙ (ap (λ xs. xs ++ frame_bytes k.frame) r.spelled
      ∙ (ap (λ xs. bytes_of r.frames ++ xs) (sym (append-nil (frame_bytes k.frame))) ∙ sym (flat_map-append frame_bytes r.frames (k.frame ∷ []))));
  lead = frames_on scene_limits r.frames (k.frame ∷ []) at_start s r.lead ∙ frame_alone scene_limits s t k.frame k.taken;
}

-- the first of none
take_none : {X : Type 0} (n : ℕ) → ◌≡◌ {A = List X} (take n []) []
take_none zero = refl
take_none (suc n) = refl

-- the first of a list, in two parts
pub take_plus : {X : Type 0} (a b : ℕ) (xs : List X) → take (a + b) xs ≡ take a xs ++ take b (drop a xs)
take_plus zero b xs = let e : zero + b ≡ b = omega arith in ap (λ n. take n xs) e
take_plus (suc a) b [] = let e : suc a + b ≡ suc (a + b) = omega arith in ap (λ n. take n []) e ∙ sym (take_none b)
take_plus (suc a) b (x ∷ xs) = let e : suc a + b ≡ suc (a + b) = omega arith in ap (λ n. take n (x ∷ xs)) e ∙ ap (λ ys. x ∷ ys) (take_plus a b xs)

-- a frame that follows where more bytes are taken than were read
record LongerRead (limits : Limits) (bytes : List ℕ) (place : ℕ) (s : State) : Type 0 where
  pub frame : Frame
  pub form : IsForm frame
  pub rest : List ℕ
  pub parts : drop place bytes ≡ frame_bytes frame ++ rest
  pub state : State
  pub taken : take_frame limits s frame ≡ Now state

longer_read : (limits : Limits) (bytes : List ℕ) (place more : ℕ) (s : State) → place ≤ length bytes → Reached (take place bytes) s → place < more → more ≤ length bytes →
    BytesTaken limits (take more bytes) → LongerRead limits bytes place s
longer_read limits bytes place more s within r l m t =
    let k : ℕ = more - place in
    let left : List ℕ = take k (drop place bytes) in
    let sum : more ≡ place + k = omega arith in
    let some : 1 ≤ length left = omega (arith, length-take k (drop place bytes), length-drop place bytes) in
    let whole : bytes_of r.frames ++ left ≡ bytes_of t.frames =
    ap (λ xs. xs ++ left) (sym r.spelled) ∙ (sym (take_plus place k bytes) ∙ (ap (λ n. take n bytes) (sym sum) ∙ t.spelled)) in
    let n = next_of r.frames t.frames left r.forms t.forms some whole in
    let q = next_taken limits scene_limits r.frames t.frames left s t.state n r.forms r.lead t.lead in
    record {
      frame = n.frame;
      form = n.form;
      rest = bytes_of n.others ++ drop k (drop place bytes);
      parts = sym (take-append-drop k (drop place bytes)) ∙ (ap (λ xs. xs ++ drop k (drop place bytes)) n.left_is ∙ append_assoc (frame_bytes n.frame) (bytes_of n.others) (drop k (drop place bytes)));
      state = q.0;
      taken = q.1;
    }

-- where no frame that follows is taken, this is the last place to which the bytes are first frames
last_start : (bytes : List ℕ) (place : ℕ) (s : State) → place ≤ length bytes → Reached (take place bytes) s →
    ((f : Frame) (rest : List ℕ) (t : State) → IsForm f → drop place bytes ≡ frame_bytes f ++ rest → ¬ (take_frame scene_limits s f ≡ Now t)) → IsLastStart bytes place
last_start bytes place s within r none = record {
  within = within;
  start = taken_start (take place bytes) (read_taken (take place bytes) s r);
  last = λ more l m start.
      (let n = longer_read scene_limits bytes place more s within r l m (start_taken (take more bytes) start) in none n.frame n.rest n.state n.form n.parts n.taken);
}

-- the end has not come
not_whole : (bytes : List ℕ) (s : State) → Reached bytes s → ¬ (s.place ≡ AfterEnd) → ¬ IsWhole bytes
not_whole bytes s r open_ w = open_ (whole_at_end bytes (read_taken bytes s r) w)

-- the bytes end inside a frame
pub bad_cut : (bytes : List ℕ) (place : ℕ) (s : State) → place ≤ length bytes → Reached (take place bytes) s → ¬ (s.place ≡ AfterEnd) → frame_at place bytes ≡ None → FirstBad bytes place Cut
bad_cut bytes place s within r open_ none = record {
  last = last_start bytes place s within r (λ f rest t form parts e.
      (let o = taken_order scene_limits s t f e in none-some (frame_bytes f) (sym none ∙ frame_there bytes place s f rest o.0 within r parts o.1)));
  bad = record { open_ = not_whole (take place bytes) s r open_; inside = none };
}

-- nothing follows the end
after_end : (version : ℕ) (f : Frame) (next : Place) → frame_follows version AfterEnd f ≡ Some next → ⊥
after_end version (Version v) next e = none-some _ e
after_end version (Nodes n) next e = none-some _ e
after_end version (Part row) next e = none-some _ e
after_end version (Session_ n) next e = none-some _ e
after_end version (Tx ops) next e = none-some _ e
after_end version (Client s t) next e = none-some _ e
after_end version (Deliver i) next e = none-some _ e
after_end version Drain next e = none-some _ e
after_end version End next e = none-some _ e

-- bytes after the end
pub bad_past_end : (bytes : List ℕ) (place : ℕ) (s : State) → place < length bytes → Reached (take place bytes) s → s.place ≡ AfterEnd → FirstBad bytes place No
bad_past_end bytes place s more r at = record {
  last = last_start bytes place s (omega arith) r (λ f rest t form parts e.
      (let o = taken_order scene_limits s t f e in after_end s.draft.version f o.0 (ap (λ p. frame_follows s.draft.version p f) (sym at) ∙ o.1)));
  bad = inl (record { whole = end_whole (take place bytes) (read_taken (take place bytes) s r) at; more = more });
}

-- the frame at a place, after which others follow
pub record Here (bytes : List ℕ) (place : ℕ) (s : State) (frame : List ℕ) : Type 0 where
  pub within : place ≤ length bytes
  pub reached : Reached (take place bytes) s
  pub open_ : ¬ (s.place ≡ AfterEnd)
  pub rest : List ℕ
  pub parts : drop place bytes ≡ frame ++ rest
  pub there : frame_at place bytes ≡ Some frame
  pub some : 1 ≤ length frame

-- a frame that follows has these bytes
here_is : (bytes : List ℕ) (place : ℕ) (s : State) (frame : List ℕ) (h : Here bytes place s frame) (f : Frame) (rest : List ℕ) (next : Place) → drop place bytes ≡ frame_bytes f ++ rest →
    frame_follows s.draft.version s.place f ≡ Some next → frame ≡ frame_bytes f
here_is bytes place s frame h f rest next parts order = same_Some _ _ (sym h.there ∙ frame_there bytes place s f rest next h.within h.reached parts order)

-- the bytes with the frame
here_next : (bytes : List ℕ) (place : ℕ) (s : State) (frame : List ℕ) → Here bytes place s frame → IsNext bytes place (take place bytes ++ frame)
here_next bytes place s frame h = record { open_ = not_whole (take place bytes) s h.reached h.open_; frame = frame; there = h.there; joined = refl }

-- frames whose bytes are those with the frame
joined_read : (bytes : List ℕ) (place : ℕ) (s : State) (frame : List ℕ) (h : Here bytes place s frame) (fs : List Frame) → take place bytes ++ frame ≡ bytes_of fs → bytes_of h.reached.frames ++ frame ≡ bytes_of fs
joined_read bytes place s frame h fs e = ap (λ xs. xs ++ frame) (sym h.reached.spelled) ∙ e

-- a frame that no frame of the form is that may stand here
pub bad_form : (bytes : List ℕ) (place : ℕ) (s : State) (frame : List ℕ) → Here bytes place s frame → IsBadBytes frame s Form → FirstBad bytes place No
bad_form bytes place s frame h none = record {
  last = last_start bytes place s h.within h.reached (λ f rest t form parts e.
      (let o = taken_order scene_limits s t f e in none-some o.0 (sym (none f form (here_is bytes place s frame h f rest o.0 parts o.1)) ∙ o.1)));
  bad = inr (take place bytes ++ frame, here_next bytes place s frame h, not_formed);
}
  where
    not_formed : ¬ IsFormed (take place bytes ++ frame)
    not_formed k =
        let n = next_of h.reached.frames k.frames frame h.reached.forms (each_from IsForm k.frames k.forms) h.some (joined_read bytes place s frame h k.frames k.spelled) in
        let o = place_within scene_limits h.reached.frames n.frame n.others s k.place h.reached.forms h.reached.lead (ap place_after (sym n.joined) ∙ k.order) in
        let parts : drop place bytes ≡ frame_bytes n.frame ++ (bytes_of n.others ++ h.rest) =
        h.parts ∙ (ap (λ xs. xs ++ h.rest) n.left_is ∙ append_assoc (frame_bytes n.frame) (bytes_of n.others) h.rest) in
        none-some o.0 (sym (none n.frame n.form (here_is bytes place s frame h n.frame (bytes_of n.others ++ h.rest) o.0 parts o.1)) ∙ o.1)

-- with a frame that may stand here all are of the form
formed : (bytes : List ℕ) (place : ℕ) (s : State) (f : Frame) (next : Place) → Reached (take place bytes) s → IsForm f → frame_follows s.draft.version s.place f ≡ Some next → IsFormed (take place bytes ++ frame_bytes f)
formed bytes place s f next r form order = record {
  frames = r.frames ++ f ∷ [];
  place = next;
  forms = λ i g e. each_at IsForm (r.frames ++ f ∷ []) i g (each_append IsForm r.frames (f ∷ []) r.forms (form, tt)) e;
  spelled = ap (λ xs. xs ++ frame_bytes f) r.spelled
      ∙ (ap (λ xs. bytes_of r.frames ++ xs) (sym (append-nil (frame_bytes f))) ∙ sym (flat_map-append frame_bytes r.frames (f ∷ [])));
  order = place_with scene_limits r.frames f s r.forms r.lead ∙ order;
}

-- a frame whose numbers are out of range
pub bad_range : (bytes : List ℕ) (place : ℕ) (s : State) (frame : List ℕ) → Here bytes place s frame → IsOutOfRange frame s → FirstBad bytes place Out
bad_range bytes place s frame h b = record {
  last = last_start bytes place s h.within h.reached (λ f rest t form parts e.
      (let o = taken_order scene_limits s t f e in
      let same : f ≡ b.frame = same_frame f b.frame frame form b.form (here_is bytes place s frame h f rest o.0 parts o.1) b.bytes_is in
      b.refused scene_limits (record { state = t; taken = ap (take_frame scene_limits s) (sym same) ∙ e })));
  bad = (
    take place bytes ++ frame,
    here_next bytes place s frame h,
    subst (λ xs. IsFormed (take place bytes ++ xs)) (sym b.bytes_is) (formed bytes place s b.frame b.order.next h.reached b.form b.order.order),
    not_ranged,
  );
}
  where
    not_ranged : ¬ IsInRange (take place bytes ++ frame)
    not_ranged k =
        let t = in_range_taken (take place bytes ++ frame) k in
        let n = next_of h.reached.frames t.taken.frames frame h.reached.forms t.taken.forms h.some (joined_read bytes place s frame h t.taken.frames t.taken.spelled) in
        let q = next_taken t.limits scene_limits h.reached.frames t.taken.frames frame s t.taken.state n h.reached.forms h.reached.lead t.taken.lead in
        let same : n.frame ≡ b.frame =
        (frame_code.apart n.frame b.frame (bytes_of n.others) [] n.form b.form (sym n.left_is ∙ (b.bytes_is ∙ sym (append-nil (frame_bytes b.frame))))).0 in
        b.refused t.limits (record { state = q.0; taken = ap (take_frame t.limits s) (sym same) ∙ q.1 })

-- a frame that is one more than there may be
pub bad_count : (bytes : List ℕ) (place : ℕ) (s : State) (frame : List ℕ) → Here bytes place s frame → IsTooMany frame s → FirstBad bytes place Many
bad_count bytes place s frame h b =
    let large : Limits = wider scene_limits b.limits in
    let o = taken_order b.limits s b.ranged.state b.frame b.ranged.taken in
    let all : BytesTaken large (take place bytes) = record {
      frames = h.reached.frames;
      forms = h.reached.forms;
      spelled = h.reached.spelled;
      state = s;
      lead = frames_more scene_limits large h.reached.frames at_start s (within_first scene_limits b.limits) h.reached.lead;
    } in
    let one : take_frame large s b.frame ≡ Now b.ranged.state = lines_more b.limits large _ s b.ranged.state (within_second scene_limits b.limits) b.ranged.taken in
    record {
      last = last_start bytes place s h.within h.reached (λ f rest t form parts e.
          (let p = taken_order scene_limits s t f e in
          let same : f ≡ b.frame = same_frame f b.frame frame form b.form (here_is bytes place s frame h f rest p.0 parts p.1) b.bytes_is in
          b.refused (record { state = t; taken = ap (take_frame scene_limits s) (sym same) ∙ e })));
      bad = (
        take place bytes ++ frame,
        here_next bytes place s frame h,
        subst (λ xs. IsFormed (take place bytes ++ xs)) (sym b.bytes_is) (formed bytes place s b.frame o.0 h.reached b.form o.1),
        subst (λ xs. IsInRange (take place bytes ++ xs)) (sym b.bytes_is)
            (taken_in_range large (take place bytes ++ frame_bytes b.frame) (omega arith)
            (more_taken large (take place bytes) all b.frame b.ranged.state b.form (frame_alone large s b.ranged.state b.frame one))),
      );
    }

-- a frame for which the bytes are bad
pub bad_frame : (bytes : List ℕ) (place : ℕ) (s : State) (frame : List ℕ) (f : SceneFault) → Here bytes place s frame → IsBadBytes frame s f → IsFaultOf bytes (fault_at place f)
bad_frame bytes place s frame Form h b = bad_form bytes place s frame h b
bad_frame bytes place s frame Range h b = bad_range bytes place s frame h b
bad_frame bytes place s frame Count h b = bad_count bytes place s frame h b
bad_frame bytes place s frame Memory h b = tt

-- the end of the bytes after the frame of the end
pub end_read : (bytes : List ℕ) (s : State) → Reached bytes s → s.place ≡ AfterEnd → IsSceneOf bytes s.draft
end_read bytes s r at = end_scene bytes (read_taken bytes s r) at
