-- Bytes in parts, as a reader of frames takes them: a number, a key, a frame.
use Rattle.std.proofs.Common.{Bool, List, [], ap, arith, drop, false, get_or, length, length-drop, subst, suc, sym, take, take_all, true, zero, ℕ, ◌%◌, ◌*◌, ◌++◌, ◌+◌, ◌-◌, ◌/◌, ◌<◌, ◌∙◌, ◌∷◌, ◌≡◌, ◌≤◌}
use Rattle.std.proofs.lemmas.List.{length-take-le, take-append-drop}
use Rattle.std.proofs.lemmas.Nat.{be_bytes_8}
use Rattle.std.specs.Int.{from_be_bytes, w64}
use Rattle.request_frame.proofs.BytesApart.{rest_same, string_apart}
use Rattle.request_frame.specs.FrameBytes.{key_bytes, number_bytes, sized, string_bytes}
use Rattle.str_base.specs.declared.names.PartId.{PartId}
use Rattle.str_scene.specs.SceneLimits.{is_name}

-- the first of bytes are bytes
small_take : (n : ℕ) (xs : List ℕ) → ((i : ℕ) → get_or xs i 0 < 256) → (i : ℕ) → get_or (take n xs) i 0 < 256
small_take zero xs h i = omega arith
small_take (suc n) [] h i = omega arith
small_take (suc n) (x ∷ xs) h zero = h 0
small_take (suc n) (x ∷ xs) h (suc i) = small_take n xs (λ j. h (suc j)) i

-- a number is read from the first eight bytes
pub number_read : (bytes first rest : List ℕ) (n : ℕ) → first ≡ take 8 bytes → rest ≡ drop 8 bytes → 8 ≤ length bytes → ((i : ℕ) → get_or bytes i 0 < 256) → n ≡ from_be_bytes w64 first →
    bytes ≡ number_bytes n ++ rest
number_read bytes first rest n f r l small e =
    let each : (i : ℕ) → get_or first i 0 < 256 = λ i. subst (λ xs. get_or xs i 0 < 256) (sym f) (small_take 8 bytes small i) in
    let spelled : number_bytes n ≡ first = be_bytes_8 first n (ap (λ xs. length xs) f ∙ length-take-le 8 bytes l) each e in
    sym (take-append-drop 8 bytes) ∙ (ap (λ xs. xs ++ drop 8 bytes) (sym f ∙ sym spelled) ∙ ap (λ xs. number_bytes n ++ xs) (sym r))

not_name : (b : Bool) → false ≡ b → b ≡ true → ⊥
not_name b p q = absurd (cc)

-- bytes that begin with no name's key
pub no_key : (bytes rest name left : List ℕ) (part : ℕ) → bytes ≡ part ∷ rest → rest ≡ string_bytes name ++ left → false ≡ is_name name →
    (other : List ℕ) (p : PartId) (us : List ℕ) → is_name other ≡ true → ¬ (bytes ≡ key_bytes other p ++ us)
no_key bytes rest name left part b r none other p us is e =
    let tail : rest ≡ string_bytes other ++ us = rest_same part p.0 rest (string_bytes other ++ us) (sym b ∙ e) in
    let same : name ≡ other = (string_apart name other left us (sym r ∙ tail)).0 in
    not_name (is_name name) none (ap is_name same ∙ is)

-- three bytes before others, in parts
frame_parts : (kind b d high low n : ℕ) (more r : List ℕ) → r ≡ more → high ≡ b → low ≡ d → d < 256 → n ≡ high * 256 + low → n ≤ length r →
    ◌≡◌ {A = List ℕ} (kind ∷ b ∷ d ∷ more) (sized kind (take n r) ++ take (length r - n) (drop n r))
frame_parts kind b d high low n more r e h l small is fits =
    let size : length (take n r) ≡ n = length-take-le n r fits in
    let first : length (take n r) / 256 ≡ b = omega (arith, size, h, l, small, is) in
    let second : length (take n r) % 256 ≡ d = omega (arith, size, h, l, small, is) in
    let rest : take (length r - n) (drop n r) ≡ drop n r = take_all (length r - n) (drop n r) (omega (arith, length-drop n r)) in
    let joined : more ≡ take n r ++ take (length r - n) (drop n r) = sym e ∙ (sym (take-append-drop n r) ∙ ap (λ xs. take n r ++ xs) (sym rest)) in
    ap (λ x. kind ∷ x ∷ d ∷ more) (sym first)
    ∙ (ap (λ x. kind ∷ length (take n r) / 256 ∷ x ∷ more) (sym second) ∙ ap (λ xs. kind ∷ length (take n r) / 256 ∷ length (take n r) % 256 ∷ xs) joined)

-- a frame by its length, and what follows it
pub frame_split : (bytes : List ℕ) (high low n : ℕ) → 3 ≤ length bytes → high ≡ get_or bytes 1 0 → low ≡ get_or bytes 2 0 → get_or bytes 2 0 < 256 → n ≡ high * 256 + low →
    n ≤ length (take (length bytes - 3) (drop 3 bytes)) →
    bytes ≡ sized (get_or bytes 0 0) (take n (take (length bytes - 3) (drop 3 bytes))) ++ take (length (take (length bytes - 3) (drop 3 bytes)) - n) (drop n (take (length bytes - 3) (drop 3 bytes)))
frame_split [] high low n some h l small is fits = absurd (omega (arith, some))
frame_split (a ∷ []) high low n some h l small is fits = absurd (omega (arith, some))
frame_split (a ∷ b ∷ []) high low n some h l small is fits = absurd (omega (arith, some))
frame_split (a ∷ b ∷ d ∷ more) high low n some h l small is fits =
    frame_parts a b d high low n more (take (length (a ∷ b ∷ d ∷ more) - 3) more) (take_all (length (a ∷ b ∷ d ∷ more) - 3) more (omega arith)) h l small is fits

-- a byte, and those that follow it
pub one_and_rest : (payload rest : List ℕ) → 1 ≤ length payload → take (length payload - 1) (drop 1 payload) ≡ rest → payload ≡ get_or payload 0 0 ∷ rest
one_and_rest [] rest some e = absurd (omega (arith, some))
one_and_rest (x ∷ xs) rest some e = ap (λ ys. x ∷ ys) (sym (take_all (length (x ∷ xs) - 1) xs (omega arith)) ∙ e)
