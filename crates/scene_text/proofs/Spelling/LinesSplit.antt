-- Bytes have one split into lines and a tail.
use Rattle.std.proofs.Common.{Bool, List, Some, [], ap, append_assoc, arith, false, not, refl, slice_get, subst, suc, sym, true, zero, ℕ, ◌++◌, ◌==◌, ◌∙◌, ◌∷◌, ◌≡◌}
use Rattle.std.proofs.lemmas.Bool.{and_from}
use Rattle.std.proofs.lemmas.Bool.Decides.{nat_tests}
use Rattle.std.specs.List.{list_all}
use Rattle.std.specs.Prelude.{flat_map}
use Rattle.scene_text.specs.FirstBad.{IsSplit}
use Rattle.str_scene.proofs.Without.{is_without-here, split_unique}
use Rattle.str_scene.specs.Spelling.{ended}
use Rattle.str_scene.specs.Lists.{is_without}

-- a line more before a split
pub split_more : (line bytes : List ℕ) (lines : List (List ℕ)) (tail : List ℕ) → is_without 10 line ≡ true → IsSplit bytes lines tail → IsSplit (line ++ 10 ∷ bytes) (line ∷ lines) tail
split_more line bytes lines tail e s = record {
  parts = ap (λ xs. line ++ 10 ∷ xs) s.parts ∙ (sym (append_assoc line (10 ∷ []) (flat_map ended lines ++ tail)) ∙ sym (append_assoc (ended line) (flat_map ended lines) tail));
  without_feed = without;
  tail_without = s.tail_without;
}
  where
    without : (i : ℕ) (x : List ℕ) → slice_get (line ∷ lines) i ≡ Some x → list_all (λ b. not (b == 10)) x ≡ true
    without zero x p = let same : line ≡ x = cc in subst (λ y. is_without 10 y ≡ true) same e
    without (suc i) x p = s.without_feed i x p

-- a tail alone
pub split_none : (tail : List ℕ) → is_without 10 tail ≡ true → IsSplit tail [] tail
split_none tail e = record { parts = refl; without_feed = λ i x p. absurd (cc); tail_without = e }

-- a split of the bytes
pub record Split (bytes : List ℕ) : Type 0 where
  pub lines : List (List ℕ)
  pub tail : List ℕ
  pub is : IsSplit bytes lines tail

-- a byte more before a tail or a first line
byte_more : (b : ℕ) (bytes : List ℕ) (lines : List (List ℕ)) (tail : List ℕ) → not (b == 10) ≡ true → IsSplit bytes lines tail → Split (b ∷ bytes)
byte_more b bytes [] tail e s = record {
  lines = [];
  tail = b ∷ tail;
  is = record { parts = ap (λ xs. b ∷ xs) s.parts; without_feed = λ i x p. absurd (cc); tail_without = and_from _ _ e s.tail_without };
}
byte_more b bytes (line ∷ lines) tail e s = record {
  lines = (b ∷ line) ∷ lines;
  tail = tail;
  is = record { parts = ap (λ xs. b ∷ xs) s.parts; without_feed = without; tail_without = s.tail_without };
}
  where
    without : (i : ℕ) (x : List ℕ) → slice_get ((b ∷ line) ∷ lines) i ≡ Some x → list_all (λ c. not (c == 10)) x ≡ true
    without zero x p = let same : b ∷ line ≡ x = cc in subst (λ y. is_without 10 y ≡ true) same (and_from _ _ e (s.without_feed 0 line refl))
    without (suc i) x p = s.without_feed (suc i) x p

-- any byte
any_more : (b : ℕ) (bytes : List ℕ) (s : Split bytes) (feed : Bool) → (b == 10) ≡ feed → Split (b ∷ bytes)
any_more b bytes s true e =
    let same : b ≡ 10 = grind (arith, nat_tests) in
    record {
      lines = [] ∷ s.lines;
      tail = s.tail;
      is = subst (λ c. IsSplit (c ∷ bytes) ([] ∷ s.lines) s.tail) (sym same) (split_more [] bytes s.lines s.tail refl s.is);
    }
any_more b bytes s false e = byte_more b bytes s.lines s.tail (ap not e) s.is

-- all bytes have one
pub split : (bytes : List ℕ) → Split bytes
split [] = record { lines = []; tail = []; is = split_none [] refl }
split (b ∷ bytes) = any_more b bytes (split bytes) (b == 10) refl

-- what is after the first line of a split
split_rest : (bytes line : List ℕ) (lines : List (List ℕ)) (tail : List ℕ) → IsSplit bytes (line ∷ lines) tail → IsSplit (flat_map ended lines ++ tail) lines tail
split_rest bytes line lines tail s = record { parts = refl; without_feed = λ i x p. s.without_feed (suc i) x p; tail_without = s.tail_without }

-- the bytes of lines with a first
first_line : (line : List ℕ) (lines : List (List ℕ)) (tail : List ℕ) → flat_map ended (line ∷ lines) ++ tail ≡ line ++ 10 ∷ (flat_map ended lines ++ tail)
first_line line lines tail = append_assoc (ended line) (flat_map ended lines) tail ∙ append_assoc line (10 ∷ []) (flat_map ended lines ++ tail)

-- the lines of two splits
same_lines : (lines others : List (List ℕ)) (tail end bytes : List ℕ) → IsSplit bytes lines tail → IsSplit bytes others end → (lines ≡ others) × (tail ≡ end)
same_lines [] [] tail end bytes s t = (refl, sym s.parts ∙ t.parts)
same_lines [] (o ∷ others) tail end bytes s t =
    absurd (is_without-here 10 o (flat_map ended others ++ end) (subst (λ xs. is_without 10 xs ≡ true) (sym s.parts ∙ (t.parts ∙ first_line o others end)) s.tail_without))
same_lines (l ∷ lines) [] tail end bytes s t =
    absurd (is_without-here 10 l (flat_map ended lines ++ tail) (subst (λ xs. is_without 10 xs ≡ true) (sym t.parts ∙ (s.parts ∙ first_line l lines tail)) t.tail_without))
same_lines (l ∷ lines) (o ∷ others) tail end bytes s t =
    let h = split_unique 10 l (flat_map ended lines ++ tail) o (flat_map ended others ++ end) (s.without_feed 0 l refl) (t.without_feed 0 o refl)
    (sym (first_line l lines tail) ∙ (sym s.parts ∙ (t.parts ∙ first_line o others end))) in
    let rest = same_lines lines others tail end (flat_map ended lines ++ tail) (split_rest bytes l lines tail s)
    (record { parts = h.1; without_feed = λ i x p. t.without_feed (suc i) x p; tail_without = t.tail_without }) in
    let first : l ≡ o = h.0 in
    let after : lines ≡ others = rest.0 in
    (cc (first, after), rest.1)

-- bytes have one split
pub one_split : (bytes : List ℕ) (lines others : List (List ℕ)) (tail end : List ℕ) → IsSplit bytes lines tail → IsSplit bytes others end → (lines ≡ others) × (tail ≡ end)
one_split bytes lines others tail end s t = same_lines lines others tail end bytes s t
