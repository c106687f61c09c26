-- Text is written behind what waits; the last of it may be left waiting.
use Rattle.std.proofs.Common.{Err, List, Ok, OnErr, OnOk, Option, Result, [], add-one, ap, append-nil, append_assoc, drop, flat_map, get_or, length, refl, subst, sym, take, ℕ, ◌++◌, ◌+◌, ◌<◌, ◌∙◌, ◌∷◌, ◌≡◌}
use Rattle.std.proofs.KnownBytes.{Appends-trans}
use Rattle.std.proofs.Math.Seq.{take-suc}
use Rattle.std.proofs.lemmas.List.Concat.{flat_map-append}
use Rattle.str_outer.specs.Pieces.{AppendsPrefix}
use Rattle.top_status.proofs.Pieces.{last_partly, parts, so_far_written}
use Rattle.top_status.proofs.Prefixes.{appends_none, further}
use Rattle.top_status.specs.Waiting.{WrittenBut}

-- nothing was written, and all waits
pub all_waits : (a : Option (List ℕ)) (w : List ℕ) → WrittenBut a a w w
all_waits a w = record { written = []; appends = appends_none a; whole = refl }

-- the same with nothing behind it
pub none_behind : (a : Option (List ℕ)) (w : List ℕ) → WrittenBut a a w (w ++ [])
none_behind a w = subst (λ (ys : List ℕ). WrittenBut a a w ys) (sym (append-nil w)) (all_waits a w)

-- a text was written but for what waits, and then what waits and a piece behind it but for what waits then
pub then_piece : (a b d : Option (List ℕ)) (text w v piece : List ℕ) → WrittenBut a b w text → WrittenBut b d v (w ++ piece) → WrittenBut a d v (text ++ piece)
then_piece a b d text w v piece p q = record {
  written = p.written ++ q.written;
  appends = Appends-trans a b d p.written q.written p.appends q.appends;
  whole = rw p.whole (append_assoc p.written w piece) ∙ (ap (λ (ys : List ℕ). p.written ++ ys) q.whole ∙ sym (append_assoc p.written q.written v));
}

-- the lines of the first items, and that of the next
one_more : {A : Type 0} (f : A → List ℕ) (xs : List A) (i : ℕ) (x : A) → i < length xs → x ≡ get_or xs i x → flat_map f (take (i + 1) xs) ≡ flat_map f (take i xs) ++ f x
one_more f xs i x h e = ap (flat_map f) last ∙ (flat_map-append f (take i xs) (x ∷ []) ∙ ap (λ (ys : List ℕ). flat_map f (take i xs) ++ ys) (append-nil (f x)))
  where
    last : take (i + 1) xs ≡ take i xs ++ x ∷ []
    last = rw add-one (take-suc xs i x h ∙ ap (λ y. take i xs ++ y ∷ []) (sym e))

-- one more line is written behind what waited, or is left waiting
pub one_line : {A : Type 0} (a b d : Option (List ℕ)) (f : A → List ℕ) (first : List ℕ) (xs : List A) (i : ℕ) (x : A) (w waiting v : List ℕ) → i < length xs → x ≡ get_or xs i x
    → waiting ≡ w ++ f x → WrittenBut a b w (first ++ flat_map f (take i xs)) → WrittenBut b d v waiting → WrittenBut a d v (first ++ flat_map f (take (i + 1) xs))
one_line a b d f first xs i x w waiting v h e p before now =
    subst (λ (ys : List ℕ). WrittenBut a d v ys) (append_assoc first (flat_map f (take i xs)) (f x) ∙ ap (λ (ys : List ℕ). first ++ ys) (sym (one_more f xs i x h e)))
    (then_piece a b d (first ++ flat_map f (take i xs)) w v (f x) before (subst (λ (ys : List ℕ). WrittenBut b d v ys) p now))

-- some lines were written
pub some_lines : {A : Type 0} (a b : Option (List ℕ)) (f : A → List ℕ) (first : List ℕ) (xs : List A) (i : ℕ) (w : List ℕ) → WrittenBut a b w (first ++ flat_map f (take i xs))
    → AppendsPrefix a b (first ++ flat_map f xs)
some_lines a b f first xs i w p =
    subst (λ (ys : List ℕ). AppendsPrefix a b ys) (append_assoc first (flat_map f (take i xs)) (flat_map f (drop i xs)) ∙ ap (λ (ys : List ℕ). first ++ ys) (parts f xs i))
    (so_far_written a b (first ++ flat_map f (take i xs)) (flat_map f (drop i xs)) w p)

-- and a prefix of what waits and of the next one
pub line_partly : {A : Type 0} (a b d : Option (List ℕ)) (f : A → List ℕ) (first : List ℕ) (xs : List A) (i : ℕ) (x : A) (w waiting : List ℕ) → i < length xs → x ≡ get_or xs i x
    → waiting ≡ w ++ f x → WrittenBut a b w (first ++ flat_map f (take i xs)) → AppendsPrefix b d waiting → AppendsPrefix a d (first ++ flat_map f xs)
line_partly a b d f first xs i x w waiting h e p before now =
    subst (λ (ys : List ℕ). AppendsPrefix a d ys) whole
    (further a d ((first ++ flat_map f (take i xs)) ++ f x) (flat_map f (drop (i + 1) xs))
    (last_partly a b d (first ++ flat_map f (take i xs)) (f x) w before (subst (λ (ys : List ℕ). AppendsPrefix b d ys) p now)))
  where
    whole : ((first ++ flat_map f (take i xs)) ++ f x) ++ flat_map f (drop (i + 1) xs) ≡ first ++ flat_map f xs
    whole = ap (λ (ys : List ℕ). ys ++ flat_map f (drop (i + 1) xs)) (append_assoc first (flat_map f (take i xs)) (f x) ∙ ap (λ (ys : List ℕ). first ++ ys) (sym (one_more f xs i x h e)))
        ∙ (append_assoc first (flat_map f (take (i + 1) xs)) (flat_map f (drop (i + 1) xs)) ∙ ap (λ (ys : List ℕ). first ++ ys) (parts f xs (i + 1)))

-- ---- a line, and pieces behind it

-- what waits has the line at its end
with_line : (w waiting line piece : List ℕ) → waiting ≡ w ++ line → waiting ++ piece ≡ w ++ (line ++ piece)
with_line w waiting line piece e = ap (λ (ys : List ℕ). ys ++ piece) e ∙ append_assoc w line piece

-- the line and what stands behind it were written, but for what waits
pub entry_written : {E : Type 0} (a b d : Option (List ℕ)) (w waiting w' v line piece : List ℕ) (r : Result (Unit {0}) E) → waiting ≡ w ++ line → WrittenBut a b w' waiting
    → OnOk r (WrittenBut b d v (w' ++ piece)) → OnOk r (WrittenBut a d v (w ++ (line ++ piece)))
entry_written a b d w waiting w' v line piece (Err e) q p x = tt
entry_written a b d w waiting w' v line piece (Ok u) q p x =
    subst (λ (ys : List ℕ). WrittenBut a d v ys) (with_line w waiting line piece q) (then_piece a b d waiting w' v piece p x)

-- a prefix of them was
pub entry_partly : {E : Type 0} (a b d : Option (List ℕ)) (w waiting w' line piece : List ℕ) (r : Result (Unit {0}) E) → waiting ≡ w ++ line → WrittenBut a b w' waiting
    → OnErr r (AppendsPrefix b d (w' ++ piece)) → OnErr r (AppendsPrefix a d (w ++ (line ++ piece)))
entry_partly a b d w waiting w' line piece (Ok u) q p x = tt
entry_partly a b d w waiting w' line piece (Err e) q p x =
    subst (λ (ys : List ℕ). AppendsPrefix a d ys) (with_line w waiting line piece q) (last_partly a b d waiting piece w' p x)

-- a prefix of the line was
pub line_only : (a b : Option (List ℕ)) (w waiting line piece : List ℕ) → waiting ≡ w ++ line → AppendsPrefix a b waiting → AppendsPrefix a b (w ++ (line ++ piece))
line_only a b w waiting line piece q x = subst (λ (ys : List ℕ). AppendsPrefix a b ys) (with_line w waiting line piece q) (further a b waiting piece x)
