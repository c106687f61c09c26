-- Bytes have one first bad frame, or are the frames of one scene.
use Rattle.std.proofs.Common.{List, None, [], ap, append-nil, arith, inl, inr, length, refl, subst, suc, sym, take, take_all, ℕ, ◌++◌, ◌<◌, ◌∙◌, ◌≡◌, ◌≤◌}
use Rattle.std.proofs.lemmas.Bool.Decides.{leb_tells}
use Rattle.std.proofs.lemmas.Option.{none-some, same_Some}
use Rattle.request_frame.proofs.BytesApart.{frame_code}
use Rattle.request_frame.proofs.Coded.{spelled_same}
use Rattle.request_frame.proofs.FrameForms.{frames_form}
use Rattle.request_frame.proofs.FramesTaken.{scene_frames_taken}
use Rattle.request_frame.specs.FirstBad.{IsBadFor, IsFormed, IsInRange, IsLastStart, IsNext, IsStart, IsWhole, frame_at}
use Rattle.request_frame.specs.FrameBytes.{IsForm, frame_bytes}
use Rattle.request_frame.specs.FrameTaking.{take_frames}
use Rattle.request_frame.specs.Frames.{frames_of}
use Rattle.request_frame.specs.Laws.{BadIsNoScene, OneFirstBad, OneScene, OneSpelling, PackThenShow, ShowThenPack}
use Rattle.request_frame.specs.Spelling.{IsFrames, bytes_of}
use Rattle.scene_text.proofs.FirstBad.FirstBadLaws.{one_scene_of}
use Rattle.scene_text.proofs.Taking.HeadLines.{mk}
use Rattle.scene_text.proofs.Taking.LinesTaken.{now_same}
use Rattle.scene_text.proofs.Taking.WholeDrafts.{scene_whole}
use Rattle.scene_text.specs.declared.order.Place.TheVariants.{AfterEnd}
use Rattle.scene_text.specs.Taking.{at_start, scene_limits}
use Rattle.scene_text.specs.Taking.Taken.{Now}
use Rattle.str_scene.specs.SceneLimits.{IsScene}
use Rattle.str_scene.specs.Scenes.{Scene}
use Rattle.str_scene.specs.Spelling.{spelling}
use Rattle.str_scene.specs.declared.faults.Why.{Why}
use Rattle.str_scene.specs.declared.faults.Why.TheVariants.{Count, Cut, Form, Range}

-- the last place to which bytes are first frames is one
not_before : (bytes : List ℕ) (m n : ℕ) → IsLastStart bytes m → IsLastStart bytes n → m < n → ⊥
not_before bytes m n a b l = a.last n l b.within b.start

one_place : (bytes : List ℕ) (m n : ℕ) → IsLastStart bytes m → IsLastStart bytes n → m ≡ n
one_place bytes m n a b =
    elim (leb_tells (suc m) n) [
      | inl h ↦ absurd (not_before bytes m n a b h.1)
      | inr h ↦ elim (leb_tells (suc n) m) [ inl k ↦ absurd (not_before bytes n m b a k.1) | inr k ↦ omega (arith, h.1, k.1) ]
    ]

-- the bytes with the frame that follows are one
one_next : (bytes xs ys : List ℕ) (place : ℕ) → IsNext bytes place xs → IsNext bytes place ys → xs ≡ ys
one_next bytes xs ys place a b = sym a.joined ∙ (ap (λ frame. take place bytes ++ frame) (same_Some _ _ (sym a.there ∙ b.there)) ∙ b.joined)

-- a frame that ends is not cut off
not_cut : (bytes xs : List ℕ) (place : ℕ) → frame_at place bytes ≡ None → IsNext bytes place xs → ⊥
not_cut bytes xs place e a = none-some a.frame (sym e ∙ a.there)

-- so is the reason
one_reason : (bytes : List ℕ) (place : ℕ) (v w : Why) → IsBadFor bytes place v → IsBadFor bytes place w → v ≡ w
one_reason bytes place Cut Cut a b = refl
one_reason bytes place Cut Form a (inl b) = absurd (a.open_ b.whole)
one_reason bytes place Cut Form a (inr b) = absurd (not_cut bytes b.0 place a.inside b.1)
one_reason bytes place Cut Range a b = absurd (not_cut bytes b.0 place a.inside b.1)
one_reason bytes place Cut Count a b = absurd (not_cut bytes b.0 place a.inside b.1)
one_reason bytes place Form Cut (inl a) b = absurd (b.open_ a.whole)
one_reason bytes place Form Cut (inr a) b = absurd (not_cut bytes a.0 place b.inside a.1)
one_reason bytes place Form Form a b = refl
one_reason bytes place Form Range (inl a) b = absurd (b.1.open_ a.whole)
one_reason bytes place Form Range (inr a) b = absurd (a.2 (subst IsFormed (one_next bytes b.0 a.0 place b.1 a.1) b.2))
one_reason bytes place Form Count (inl a) b = absurd (b.1.open_ a.whole)
one_reason bytes place Form Count (inr a) b = absurd (a.2 (subst IsFormed (one_next bytes b.0 a.0 place b.1 a.1) b.2))
one_reason bytes place Range Cut a b = absurd (not_cut bytes a.0 place b.inside a.1)
one_reason bytes place Range Form a (inl b) = absurd (a.1.open_ b.whole)
one_reason bytes place Range Form a (inr b) = absurd (b.2 (subst IsFormed (one_next bytes a.0 b.0 place a.1 b.1) a.2))
one_reason bytes place Range Range a b = refl
one_reason bytes place Range Count a b = absurd (a.3 (subst IsInRange (one_next bytes b.0 a.0 place b.1 a.1) b.3))
one_reason bytes place Count Cut a b = absurd (not_cut bytes a.0 place b.inside a.1)
one_reason bytes place Count Form a (inl b) = absurd (a.1.open_ b.whole)
one_reason bytes place Count Form a (inr b) = absurd (b.2 (subst IsFormed (one_next bytes a.0 b.0 place a.1 b.1) a.2))
one_reason bytes place Count Range a b = absurd (b.3 (subst IsInRange (one_next bytes a.0 b.0 place a.1 b.1) a.3))
one_reason bytes place Count Count a b = refl

-- bytes have one first bad frame, for one reason
pub first_bad_unique : OneFirstBad
first_bad_unique bytes m n v w a b =
    let place : m ≡ n = one_place bytes m n a.last b.last in
    (place, one_reason bytes n v w (subst (λ k. IsBadFor bytes k v) place a.bad) b.bad)

-- no frame of a scene is bad
none_bad : (bytes : List ℕ) (place : ℕ) (why : Why) → IsWhole (take place bytes) → length bytes ≤ place → IsBadFor bytes place why → ⊥
none_bad bytes place Cut w l b = b.open_ w
none_bad bytes place Form w l (inl b) = omega (arith, l, b.more)
none_bad bytes place Form w l (inr b) = b.1.open_ w
none_bad bytes place Range w l b = b.1.open_ w
none_bad bytes place Count w l b = b.1.open_ w

-- all frames of a scene are first ones
all_start : (bytes : List ℕ) (s : Scene) → IsScene s → IsFrames bytes s → IsStart bytes
all_start bytes s is_scene e = record { scene = s; first = frames_of s; rest = []; is_scene = is_scene; frames = sym (append-nil (frames_of s)); spelled = e }

-- bytes with a first bad frame are the frames of no scene
pub first_bad_no_scene : BadIsNoScene
first_bad_no_scene bytes n why s b is_scene e =
    elim (leb_tells (suc n) (length bytes)) [
      | inl h ↦ b.last.last (length bytes) h.1 (omega arith) (subst IsStart (sym (take_all (length bytes) bytes (omega arith))) (all_start bytes s is_scene e))
      | inr h ↦ none_bad bytes n why (subst IsWhole (sym (take_all n bytes (omega (arith, h.1)))) (record { scene = s; is_scene = is_scene; spelled = e })) (omega (arith, h.1)) b.bad
    ]

-- bytes are the frames of one scene at most
pub one_scene : OneScene
one_scene bytes s t p q e f =
    let v = scene_whole s p in
    let w = scene_whole t q in
    let frames : frames_of s ≡ frames_of t =
    spelled_same frame_bytes IsForm frame_code (frames_of s) (frames_of t) (frames_form scene_limits s v) (frames_form scene_limits t w) (sym e ∙ f) in
    let ends : Now (mk AfterEnd s []) ≡ Now (mk AfterEnd t []) =
    sym (scene_frames_taken scene_limits s v) ∙ (ap (take_frames scene_limits at_start) frames ∙ scene_frames_taken scene_limits t w) in
    ap (λ x. x.draft) (now_same (mk AfterEnd s []) (mk AfterEnd t []) ends)

-- a scene has one list of frames
pub one_spelling : OneSpelling
one_spelling a b s e f = e ∙ sym f

-- from a text to frames and back, and from frames to a text and back
pub packed_shown : PackThenShow
packed_shown text bytes again s t p q e f g h = h ∙ (ap spelling (one_scene bytes t s q p g f) ∙ sym e)

pub shown_packed : ShowThenPack
shown_packed bytes text again s t p q e f g h = h ∙ (ap (λ x. bytes_of (frames_of x)) (one_scene_of text t s q p g f) ∙ sym e)
