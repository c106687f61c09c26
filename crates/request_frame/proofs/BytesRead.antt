-- How far bytes have been read: the first five, and frame by frame after them.
use Rattle.std.proofs.Common.{Bool, List, None, Some, [], ap, arith, cond, drop, eqb, false, get_or, inl, inr, length, length-append, length-drop, nat_le, not, refl, subst, suc, sym, take, take_all, true, zero, ℕ, ◌&&◌, ◌++◌, ◌+◌, ◌-◌, ◌<◌, ◌∙◌, ◌∷◌, ◌≡◌, ◌≤◌, ◌⊎◌}
use Rattle.std.proofs.lemmas.Bool.{and_parts}
use Rattle.std.proofs.lemmas.Bool.Decides.{Decides-eqb, nat_tests}
use Rattle.std.proofs.Math.Seq.{take-append_seam}
use Rattle.std.proofs.lemmas.List.{drop-drop, drop_at}
use Rattle.request_frame.proofs.FrameStarts.{IsSceneOf}
use Rattle.request_frame.proofs.NextFrames.{sized_first}
use Rattle.request_frame.proofs.ReaderKnows.{bad_cut, bad_form, bad_frame, bad_past_end, end_read, reached_more, reached_start, take_plus}
use Rattle.request_frame.specs.FirstBad.{FirstBad, frame_at, sized_frame}
use Rattle.request_frame.specs.FrameBytes.{IsForm, frame_bytes, sized}
use Rattle.request_frame.specs.FrameOrder.{frame_follows}
use Rattle.request_frame.specs.Frames.{Frame}
use Rattle.request_frame.specs.Frames.Frame.{Version}
use Rattle.request_frame.specs.Reading.{IsBadBytes, IsFaultOf, Reached, TakesBytes, fault_at}
use Rattle.str_scene.proofs.Allowing.{scene_finishes}
use Rattle.scene_text.proofs.Taking.HeadLines.{mk}
use Rattle.scene_text.specs.LineTexts as texts
use Rattle.scene_text.specs.LineTexts.{line_text}
use Rattle.scene_text.specs.Reading.{IsReached}
use Rattle.scene_text.specs.Taking.{State, at_start}
use Rattle.scene_text.specs.declared.lines.Line.{Line}
use Rattle.scene_text.specs.declared.lines.Line.TheVariants.{Version as LVersion}
use Rattle.std.specs.Prelude.{flat_map, map}
use Rattle.str_scene.proofs.Each.{each_at}
use Rattle.str_scene.specs.Spelling.{ended}
use Rattle.scene_text.specs.declared.order.Place.TheVariants.{AfterEnd, AfterVersion, AtStart}
use Rattle.str_scene.specs.Drafts.{empty_draft}
use Rattle.str_scene.specs.Refusals.{finish_fault}
use Rattle.str_scene.specs.declared.faults.SceneFault.{SceneFault}
use Rattle.str_scene.specs.declared.faults.Why.TheVariants.{Cut, Form as No}

-- fewer than five bytes
pub head_cut : (bytes : List ℕ) → length bytes < 5 → FirstBad bytes 0 Cut
head_cut bytes few =
    let none : nat_le 5 (length bytes) ≡ false = grind (arith, nat_tests) in
    bad_cut bytes 0 at_start (omega arith) reached_start (λ e. absurd (cc)) (ap (λ b. cond b (Some (take 5 bytes)) None) none)

-- five bytes that are no version's
pub head_form : (a b c d v : ℕ) (rest : List ℕ) → ((w : ℕ) → (w ≡ 1) ⊎ (w ≡ 2) → ¬ (◌≡◌ {A = List ℕ} (a ∷ b ∷ c ∷ d ∷ v ∷ []) (frame_bytes (Version w)))) → FirstBad (a ∷ b ∷ c ∷ d ∷ v ∷ rest) 0 No
head_form a b c d v rest none =
    let bytes : List ℕ = a ∷ b ∷ c ∷ d ∷ v ∷ rest in
    let there : nat_le 5 (length bytes) ≡ true = grind (arith, nat_tests) in
    bad_form bytes 0 at_start (a ∷ b ∷ c ∷ d ∷ v ∷ [])
    (record {
      within = omega arith;
      reached = reached_start;
      open_ = λ e. absurd (cc);
      rest = rest;
      parts = refl;
      there = ap (λ t. cond t (Some (take 5 bytes)) None) there;
      some = omega arith;
    })
    by_frame
  where
    by_frame : (f : Frame) → IsForm f → ◌≡◌ {A = List ℕ} (a ∷ b ∷ c ∷ d ∷ v ∷ []) (frame_bytes f) → frame_follows 0 AtStart f ≡ None
    by_frame (Version w) h e = absurd (none w h e)
    by_frame f h e = refl

-- the version is read
pub head_read : (bytes rest : List ℕ) (v : ℕ) → (v ≡ 1) ⊎ (v ≡ 2) → bytes ≡ 83 ∷ 84 ∷ 82 ∷ 70 ∷ v ∷ rest → Reached (take 5 bytes) (mk AfterVersion (empty_draft v) [])
head_read bytes rest v form e = record { frames = Version v ∷ []; forms = (form, tt); spelled = ap (take 5) e; lead = refl }

-- bytes whose first four are not those of the name
pub head_misnamed : (bytes : List ℕ) → 5 ≤ length bytes → ¬ (◌≡◌ {A = List ℕ} (get_or bytes 0 0 ∷ get_or bytes 1 0 ∷ get_or bytes 2 0 ∷ get_or bytes 3 0 ∷ []) (83 ∷ 84 ∷ 82 ∷ 70 ∷ [])) → FirstBad bytes 0 No
head_misnamed [] l none = absurd (omega (arith, l))
head_misnamed (a ∷ []) l none = absurd (omega (arith, l))
head_misnamed (a ∷ b ∷ []) l none = absurd (omega (arith, l))
head_misnamed (a ∷ b ∷ c ∷ []) l none = absurd (omega (arith, l))
head_misnamed (a ∷ b ∷ c ∷ d ∷ []) l none = absurd (omega (arith, l))
head_misnamed (a ∷ b ∷ c ∷ d ∷ v ∷ rest) l none = head_form a b c d v rest (λ w form e. none (ap (take 4) e))

-- the four bytes of the name, as they are looked at
abbrev is_misnamed : List ℕ → Bool
is_misnamed xs = not (eqb (get_or xs 0 0) 83 && (eqb (get_or xs 1 0) 84 && (eqb (get_or xs 2 0) 82 && (eqb (get_or xs 3 0) 70 && true))))

true_from : (b : Bool) → false ≡ not b → b ≡ true
true_from true e = refl
true_from false e = absurd (cc)

true_not_false : true ≡ false → ⊥
true_not_false e = absurd (cc)

-- the name, where the look finds it
pub named_by : (a b c d : ℕ) → false ≡ not (eqb a 83 && (eqb b 84 && (eqb c 82 && (eqb d 70 && true)))) → ◌≡◌ {A = List ℕ} (a ∷ b ∷ c ∷ d ∷ []) (83 ∷ 84 ∷ 82 ∷ 70 ∷ [])
named_by a b c d e =
    let p = and_parts (eqb a 83) (eqb b 84 && (eqb c 82 && (eqb d 70 && true))) (true_from _ e) in
    let q = and_parts (eqb b 84) (eqb c 82 && (eqb d 70 && true)) p.1 in
    let r = and_parts (eqb c 82) (eqb d 70 && true) q.1 in
    let t = and_parts (eqb d 70) true r.1 in
    let first : a ≡ 83 = (Decides-eqb a 83).0 p.0 in
    let second : b ≡ 84 = (Decides-eqb b 84).0 q.0 in
    let third : c ≡ 82 = (Decides-eqb c 82).0 r.0 in
    let fourth : d ≡ 70 = (Decides-eqb d 70).0 t.0 in
    cc (first, second, third, fourth)

-- and no name, where it finds none
pub misnamed_by : (xs : List ℕ) → true ≡ is_misnamed xs → ¬ (xs ≡ 83 ∷ 84 ∷ 82 ∷ 70 ∷ [])
misnamed_by xs t e = true_not_false (t ∙ ap (λ ys. is_misnamed ys) e)

-- a version that is not known
pub head_unknown : (bytes : List ℕ) → 5 ≤ length bytes → ¬ (get_or bytes 4 0 ≡ 1) → ¬ (get_or bytes 4 0 ≡ 2) → FirstBad bytes 0 No
head_unknown [] l one two = absurd (omega (arith, l))
head_unknown (a ∷ []) l one two = absurd (omega (arith, l))
head_unknown (a ∷ b ∷ []) l one two = absurd (omega (arith, l))
head_unknown (a ∷ b ∷ c ∷ []) l one two = absurd (omega (arith, l))
head_unknown (a ∷ b ∷ c ∷ d ∷ []) l one two = absurd (omega (arith, l))
head_unknown (a ∷ b ∷ c ∷ d ∷ v ∷ rest) l one two = head_form a b c d v rest none
  where
    none : (w : ℕ) → (w ≡ 1) ⊎ (w ≡ 2) → ¬ (◌≡◌ {A = List ℕ} (a ∷ b ∷ c ∷ d ∷ v ∷ []) (frame_bytes (Version w)))
    none w (inl p) e = one (ap (λ xs. get_or xs 4 0) e ∙ p)
    none w (inr p) e = two (ap (λ xs. get_or xs 4 0) e ∙ p)

-- the version by the bytes at their places
pub head_known : (bytes : List ℕ) (v : ℕ) → 5 ≤ length bytes → (v ≡ 1) ⊎ (v ≡ 2) → ◌≡◌ {A = List ℕ} (get_or bytes 0 0 ∷ get_or bytes 1 0 ∷ get_or bytes 2 0 ∷ get_or bytes 3 0 ∷ []) (83 ∷ 84 ∷ 82 ∷ 70 ∷ []) → get_or bytes 4 0 ≡ v →
    Reached (take 5 bytes) (mk AfterVersion (empty_draft v) [])
head_known [] v l form named is = absurd (omega (arith, l))
head_known (a ∷ []) v l form named is = absurd (omega (arith, l))
head_known (a ∷ b ∷ []) v l form named is = absurd (omega (arith, l))
head_known (a ∷ b ∷ c ∷ []) v l form named is = absurd (omega (arith, l))
head_known (a ∷ b ∷ c ∷ d ∷ []) v l form named is = absurd (omega (arith, l))
head_known (a ∷ b ∷ c ∷ d ∷ n ∷ rest) v l form named is =
    head_read (a ∷ b ∷ c ∷ d ∷ n ∷ rest) rest v form (ap (λ xs. xs ++ n ∷ rest) named ∙ ap (λ x. 83 ∷ 84 ∷ 82 ∷ 70 ∷ x ∷ rest) is)

-- what is left after the frames that were read
pub record ReadSoFar (bytes left : List ℕ) (s : State) : Type 0 where
  pub place : ℕ
  pub begun : 1 ≤ place
  pub size : place + length left ≡ length bytes
  pub left_is : drop place bytes ≡ left
  pub reached : Reached (take place bytes) s

pub read_begins : (bytes : List ℕ) (s : State) → 5 ≤ length bytes → Reached (take 5 bytes) s → ReadSoFar bytes (drop 5 bytes) s
read_begins bytes s l r = record { place = 5; begun = omega arith; size = omega (arith, l, length-drop 5 bytes); left_is = refl; reached = r }

-- the reading begins after the version
pub read_starts : (bytes left : List ℕ) (s t : State) → 5 ≤ length bytes → left ≡ take (length bytes - 5) (drop 5 bytes) → t ≡ s → Reached (take 5 bytes) s → ReadSoFar bytes left t
read_starts bytes left s t l is same r =
    let rest : left ≡ drop 5 bytes = is ∙ take_all (length bytes - 5) (drop 5 bytes) (omega (arith, length-drop 5 bytes)) in
    subst (λ xs. ReadSoFar bytes xs t) (sym rest) (subst (ReadSoFar bytes (drop 5 bytes)) (sym same) (read_begins bytes s l r))

-- the frame after the first is one by its length
later_frame_at : (place : ℕ) (bytes : List ℕ) → 1 ≤ place → frame_at place bytes ≡ sized_frame (drop place bytes)
later_frame_at zero bytes l = absurd (omega (arith, l))
later_frame_at (suc place) bytes l = refl

-- the place, as the reader computes it
place_is : (bytes left : List ℕ) (s : State) (k : ReadSoFar bytes left s) → k.place ≡ length bytes - length left
place_is bytes left s k = omega (arith, k.size)

-- the bytes end inside a frame
pub read_cut : (bytes left : List ℕ) (s : State) → ReadSoFar bytes left s → ¬ (s.place ≡ AfterEnd) → sized_frame left ≡ None → FirstBad bytes (length bytes - length left) Cut
read_cut bytes left s k open_ none =
    subst (λ p. FirstBad bytes p Cut) (place_is bytes left s k)
    (bad_cut bytes k.place s (omega (arith, k.size)) k.reached open_ (later_frame_at k.place bytes k.begun ∙ (ap sized_frame k.left_is ∙ none)))

-- bytes follow the end
pub read_past : (bytes left : List ℕ) (s : State) → ReadSoFar bytes left s → s.place ≡ AfterEnd → 1 ≤ length left → FirstBad bytes (length bytes - length left) No
read_past bytes left s k at some = subst (λ p. FirstBad bytes p No) (place_is bytes left s k) (bad_past_end bytes k.place s (omega (arith, k.size, some)) k.reached at)

-- a frame is bad
pub read_bad : (bytes left payload rest : List ℕ) (kind : ℕ) (s : State) (f : SceneFault) → ReadSoFar bytes left s → ¬ (s.place ≡ AfterEnd) → left ≡ sized kind payload ++ rest → IsBadBytes (sized kind payload) s f →
    IsFaultOf bytes (fault_at (length bytes - length left) f)
read_bad bytes left payload rest kind s f k open_ parts bad =
    subst (λ p. IsFaultOf bytes (fault_at p f)) (place_is bytes left s k)
    (bad_frame bytes k.place s (sized kind payload) f
    (record {
      within = omega (arith, k.size);
      reached = k.reached;
      open_ = open_;
      rest = rest;
      parts = k.left_is ∙ parts;
      there = later_frame_at k.place bytes k.begun ∙ (ap sized_frame (k.left_is ∙ parts) ∙ sized_first kind payload rest);
      some = omega arith;
    })
    bad)

-- a part of a list after a place
drop_parts : {X : Type 0} (n : ℕ) (xs first rest : List X) → drop n xs ≡ first ++ rest → (take (length first) (drop n xs) ≡ first) × (drop (n + length first) xs ≡ rest)
drop_parts n xs first rest e = (
  ap (take (length first)) e ∙ take-append_seam first rest,
  sym (drop-drop (length first) n xs) ∙ (ap (drop (length first)) e ∙ drop_at first rest (length first) refl),
)

-- a frame more is read
pub read_more : (bytes left payload rest : List ℕ) (kind : ℕ) (s t : State) → ReadSoFar bytes left s → left ≡ sized kind payload ++ rest → TakesBytes (sized kind payload) s t → ReadSoFar bytes rest t
read_more bytes left payload rest kind s t k parts taken =
    let frame : List ℕ = sized kind payload in
    let h = drop_parts k.place bytes frame rest (k.left_is ∙ parts) in
    record {
      place = k.place + length frame;
      begun = omega (arith, k.begun);
      size = omega (arith, k.size, ap length parts, length-append frame rest);
      left_is = h.1;
      reached = subst (λ xs. Reached xs t) (ap (λ xs. take k.place bytes ++ xs) (sym h.0) ∙ sym (take_plus k.place (length frame) bytes)) (reached_more (take k.place bytes) frame s t k.reached taken);
    }

-- what is left is shorter
pub read_shorter : (left payload rest : List ℕ) (kind : ℕ) → left ≡ sized kind payload ++ rest → length rest < length left
read_shorter left payload rest kind e = omega (arith, ap length e, length-append (sized kind payload) rest)

-- all is read
pub read_all : (bytes left : List ℕ) (s : State) → ReadSoFar bytes left s → s.place ≡ AfterEnd → length left ≡ 0 → IsSceneOf bytes s.draft
read_all bytes left s k at none = end_read bytes s (subst (λ xs. Reached xs s) (take_all k.place bytes (omega (arith, k.size, none))) k.reached) at

pub read_finishes : (bytes left : List ℕ) (s : State) → ReadSoFar bytes left s → s.place ≡ AfterEnd → length left ≡ 0 → finish_fault s.draft ≡ None
read_finishes bytes left s k at none = scene_finishes s.draft (read_all bytes left s k at none).is_scene

-- the line of the version is reached
pub reached_version : (v : ℕ) → (v ≡ 1) ⊎ (v ≡ 2) → IsReached (mk AfterVersion (empty_draft v) [])
reached_version v form =
    let lines : List Line = LVersion v ∷ [] in
    record {
      text = flat_map ended (map line_text lines);
      count = 1;
      reached = record { lines = lines; forms = λ i l e. each_at texts.IsForm lines i l (form, tt) e; number = refl; spelled = refl; lead = refl };
    }
