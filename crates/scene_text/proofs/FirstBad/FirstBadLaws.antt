-- A text has one first bad line, or is that of one scene.
use Rattle.std.proofs.Common.{List, [], ap, append-nil, arith, inl, inr, map, refl, subst, suc, sym, take, zero, ℕ, ◌++◌, ◌<◌, ◌∙◌, ◌∷◌, ◌≡◌, ◌≢◌, ◌≤◌, ◌⊎◌}
use Rattle.std.proofs.lemmas.Bool.Decides.{leb_tells}
use Rattle.std.specs.Prelude.{flat_map}
use Rattle.scene_text.proofs.FirstBad.ReaderKnows.{split_read}
use Rattle.scene_text.proofs.Spelling.LinesSpelled.{lines_form, spelled}
use Rattle.scene_text.proofs.Spelling.LinesSplit.{one_split, split_none}
use Rattle.scene_text.proofs.FirstBad.FirstLines.{one_scene, start_first}
use Rattle.scene_text.proofs.Taking.WholeDrafts.{scene_whole}
use Rattle.scene_text.specs.FirstBad.{FirstBad, IsBadFor, IsCut, IsFirstBadLine, IsFormed, IsInRange, IsSplit, IsStart, IsWhole}
use Rattle.scene_text.specs.LineTexts.{line_text}
use Rattle.scene_text.specs.SceneLines.{lines_of}
use Rattle.scene_text.specs.Taking.{scene_limits}
use Rattle.str_scene.specs.SceneLimits.{IsScene}
use Rattle.str_scene.specs.Scenes.{Scene}
use Rattle.str_scene.specs.Spelling.{IsText, ended, scene_lines, spelling}
use Rattle.str_scene.specs.declared.faults.Why.{Why}
use Rattle.str_scene.specs.declared.faults.Why.TheVariants.{Count, Cut, Form, Range}

-- the first of the first ones
take_take : {X : Type 0} (m n : ℕ) (xs : List X) → m ≤ n → take m (take n xs) ≡ take m xs
take_take zero n xs l = refl
take_take (suc m) zero xs l = absurd (omega arith)
take_take (suc m) (suc n) [] l = refl
take_take (suc m) (suc n) (x ∷ xs) l = ap (λ ys. x ∷ ys) (take_take m n xs (omega arith))

-- no first bad line is before another
not_before : (lines : List (List ℕ)) (m n : ℕ) → IsFirstBadLine lines m → IsFirstBadLine lines n → m < n → ⊥
not_before lines m n a b l =
    let within : m ≤ b.before = omega (arith, b.number) in
    a.bad (subst IsStart (take_take m b.before lines within) (start_first (take b.before lines) m b.start))

-- so they are one
one_line : (lines : List (List ℕ)) (m n : ℕ) → IsFirstBadLine lines m → IsFirstBadLine lines n → m ≡ n
one_line lines m n a b =
    elim (leb_tells (suc m) n) [
      | inl h ↦ absurd (not_before lines m n a b h.1)
      | inr h ↦ elim (leb_tells (suc n) m) [ inl k ↦ absurd (not_before lines n m b a k.1) | inr k ↦ omega (arith, h.1, k.1) ]
    ]

-- where a line is bad, not all are first lines
not_cut : (lines : List (List ℕ)) (tail : List ℕ) (m n : ℕ) → IsCut lines tail m → IsFirstBadLine lines n → ⊥
not_cut lines tail m n c b = b.bad (start_first lines n c.start)

-- the line and its reason are one
bad_unique : (lines : List (List ℕ)) (tail : List ℕ) (m n : ℕ) (v w : Why) → IsBadFor lines tail m v → IsBadFor lines tail n w → (m ≡ n) × (v ≡ w)
bad_unique lines tail m n Cut Cut a b = (a.last ∙ sym b.last, refl)
bad_unique lines tail m n Cut Form a b = absurd (not_cut lines tail m n a b.0)
bad_unique lines tail m n Cut Range a b = absurd (not_cut lines tail m n a b.0)
bad_unique lines tail m n Cut Count a b = absurd (not_cut lines tail m n a b.0)
bad_unique lines tail m n Form Cut a b = absurd (not_cut lines tail n m b a.0)
bad_unique lines tail m n Range Cut a b = absurd (not_cut lines tail n m b a.0)
bad_unique lines tail m n Count Cut a b = absurd (not_cut lines tail n m b a.0)
bad_unique lines tail m n Form Form a b = (one_line lines m n a.0 b.0, refl)
bad_unique lines tail m n Range Range a b = (one_line lines m n a.0 b.0, refl)
bad_unique lines tail m n Count Count a b = (one_line lines m n a.0 b.0, refl)
bad_unique lines tail m n Form Range a b = absurd (a.1 (subst (λ k. IsFormed (take k lines)) (sym (one_line lines m n a.0 b.0)) b.1))
bad_unique lines tail m n Form Count a b = absurd (a.1 (subst (λ k. IsFormed (take k lines)) (sym (one_line lines m n a.0 b.0)) b.1))
bad_unique lines tail m n Range Form a b = absurd (b.1 (subst (λ k. IsFormed (take k lines)) (one_line lines m n a.0 b.0) a.1))
bad_unique lines tail m n Count Form a b = absurd (b.1 (subst (λ k. IsFormed (take k lines)) (one_line lines m n a.0 b.0) a.1))
bad_unique lines tail m n Range Count a b = absurd (a.2 (subst (λ k. IsInRange (take k lines)) (sym (one_line lines m n a.0 b.0)) b.2))
bad_unique lines tail m n Count Range a b = absurd (b.2 (subst (λ k. IsInRange (take k lines)) (one_line lines m n a.0 b.0) a.2))

-- bytes have one first bad line, for one reason
pub first_bad_unique : (bytes : List ℕ) (m n : ℕ) (v w : Why) → FirstBad bytes m v → FirstBad bytes n w → (m ≡ n) × (v ≡ w)
first_bad_unique bytes m n v w a b =
    let s = one_split bytes a.lines b.lines a.tail b.tail a.split b.split in
    bad_unique b.lines b.tail m n v w (subst (λ tail. IsBadFor b.lines tail m v) s.1 (subst (λ lines. IsBadFor lines a.tail m v) s.0 a.bad)) b.bad

-- the text of a scene is split into its lines
pub scene_split : (scene : Scene) → IsScene scene → IsSplit (spelling scene) (scene_lines scene) []
unfolding spelling
scene_split scene s =
    let w = scene_whole scene s in
    let lines : map line_text (lines_of scene) ≡ scene_lines scene = spelled scene w in
    let all = split_read (lines_of scene) [] [] [] (lines_form scene_limits scene w) (split_none [] refl) in
    subst (λ xs. IsSplit (flat_map ended xs) xs []) lines
    (subst (λ bytes. IsSplit bytes (map line_text (lines_of scene)) []) (append-nil (flat_map ended (map line_text (lines_of scene))))
    (subst (λ xs. IsSplit (flat_map ended (map line_text (lines_of scene)) ++ []) xs []) (append-nil (map line_text (lines_of scene))) all))

-- all lines of a scene
whole_of : (scene : Scene) → IsScene scene → IsWhole (scene_lines scene)
whole_of scene s = record { scene = scene; is_scene = s; text = refl }

start_of : (scene : Scene) → IsScene scene → IsStart (scene_lines scene)
start_of scene s = record { scene = scene; rest = []; is_scene = s; text = sym (append-nil (scene_lines scene)) }

-- no line of a scene's text is bad
none_bad : (scene : Scene) (n : ℕ) (why : Why) → IsScene scene → IsBadFor (scene_lines scene) [] n why → ⊥
none_bad scene n Cut s b = by_cut b.cut
  where
    by_cut : ◌≢◌ {A = List ℕ} [] [] ⊎ (¬ IsWhole (scene_lines scene)) → ⊥
    by_cut (inl e) = e refl
    by_cut (inr e) = e (whole_of scene s)
none_bad scene n Form s b = b.0.bad (start_first (scene_lines scene) n (start_of scene s))
none_bad scene n Range s b = b.0.bad (start_first (scene_lines scene) n (start_of scene s))
none_bad scene n Count s b = b.0.bad (start_first (scene_lines scene) n (start_of scene s))

-- bytes with a first bad line are the text of no scene
pub first_bad_no_text : (bytes : List ℕ) (n : ℕ) (why : Why) (scene : Scene) → FirstBad bytes n why → IsScene scene → ¬ IsText bytes scene
first_bad_no_text bytes n why scene b s e =
    let h = one_split bytes b.lines (scene_lines scene) b.tail [] b.split (subst (λ xs. IsSplit xs (scene_lines scene) []) (sym e) (scene_split scene s)) in
    none_bad scene n why s (subst (λ tail. IsBadFor (scene_lines scene) tail n why) h.1 (subst (λ lines. IsBadFor lines b.tail n why) h.0 b.bad))

-- a text is of one scene at most
pub one_text : (s t : Scene) → IsScene s → IsScene t → spelling s ≡ spelling t → s ≡ t
one_text s t p q e =
    let h = one_split (spelling s) (scene_lines s) (scene_lines t) [] [] (scene_split s p) (subst (λ xs. IsSplit xs (scene_lines t) []) (sym e) (scene_split t q)) in
    one_scene s t p q h.0

-- and so are bytes
pub one_scene_of : (bytes : List ℕ) (s t : Scene) → IsScene s → IsScene t → IsText bytes s → IsText bytes t → s ≡ t
one_scene_of bytes s t p q e f = one_text s t p q (sym e ∙ f)
