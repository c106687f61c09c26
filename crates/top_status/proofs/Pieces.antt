-- A list of items is written, a piece for each; the last pieces may be left waiting.
use Rattle.std.proofs.Common.{List, Option, [], add-one, ap, append-nil, append_assoc, drop, flat_map, get_or, length, refl, subst, sym, take, ℕ, ◌++◌, ◌+◌, ◌<◌, ◌∙◌, ◌∷◌, ◌≡◌}
use Rattle.std.proofs.KnownBytes.{Appends-trans}
use Rattle.std.proofs.Math.Seq.{take-suc}
use Rattle.std.proofs.lemmas.List.{take-append-drop}
use Rattle.std.proofs.lemmas.List.Concat.{flat_map-append}
use Rattle.std.specs.Io.KnownBytes.{Appends}
use Rattle.str_outer.specs.Pieces.{AppendsPrefix}
use Rattle.top_status.proofs.Prefixes.{and_then, appends_none, further, so_far}
use Rattle.top_status.specs.Waiting.{WrittenBut}

-- the pieces of the first items, and that of the next
one_more : {A : Type 0} (f : A → List ℕ) (xs : List A) (i : ℕ) (x : A) (piece : List ℕ) → i < length xs → x ≡ get_or xs i x → piece ≡ f x
    → flat_map f (take (i + 1) xs) ≡ flat_map f (take i xs) ++ piece
one_more f xs i x piece h e p = ap (flat_map f) last ∙ (flat_map-append f (take i xs) (x ∷ []) ∙ ap (λ (ys : List ℕ). flat_map f (take i xs) ++ ys) (append-nil (f x) ∙ sym p))
  where
    last : take (i + 1) xs ≡ take i xs ++ x ∷ []
    last = rw add-one (take-suc xs i x h ∙ ap (λ y. take i xs ++ y ∷ []) (sym e))

-- the pieces of the first items, and those of the others
pub parts : {A : Type 0} (f : A → List ℕ) (xs : List A) (i : ℕ) → flat_map f (take i xs) ++ flat_map f (drop i xs) ≡ flat_map f xs
parts f xs i = sym (flat_map-append f (take i xs) (drop i xs)) ∙ ap (flat_map f) (take-append-drop i xs)

-- nothing was written and nothing waits
pub none_waits : (a : Option (List ℕ)) (waiting : List ℕ) → waiting ≡ [] → WrittenBut a a waiting []
none_waits a waiting e = record { written = []; appends = appends_none a; whole = sym e }

-- a piece is left waiting, and more is written
more_left : (a b d : Option (List ℕ)) (t piece w v : List ℕ) → WrittenBut a b w t → WrittenBut b d v (w ++ piece) → WrittenBut a d v (t ++ piece)
more_left a b d t piece w v p q = record {
  written = p.written ++ q.written;
  appends = Appends-trans a b d p.written q.written p.appends q.appends;
  whole = rw p.whole (append_assoc p.written w piece) ∙ (ap (λ (ys : List ℕ). p.written ++ ys) q.whole ∙ sym (append_assoc p.written q.written v));
}

-- what waits is written with a piece behind it
pub last_written : (a b d : Option (List ℕ)) (t piece w : List ℕ) → WrittenBut a b w t → Appends b d (w ++ piece) → Appends a d (t ++ piece)
last_written a b d t piece w p q =
    subst (λ (ys : List ℕ). Appends a d ys) (sym (rw p.whole (append_assoc p.written w piece))) (Appends-trans a b d p.written (w ++ piece) p.appends q)

-- a prefix of what waits and of a piece behind it is written
pub last_partly : (a b d : Option (List ℕ)) (t piece w : List ℕ) → WrittenBut a b w t → AppendsPrefix b d (w ++ piece) → AppendsPrefix a d (t ++ piece)
last_partly a b d t piece w p q =
    subst (λ (ys : List ℕ). AppendsPrefix a d ys) (sym (rw p.whole (append_assoc p.written w piece))) (and_then a b d p.written (w ++ piece) p.appends q)

-- what was written but for what waits is a prefix
pub so_far_written : (a b : Option (List ℕ)) (t u w : List ℕ) → WrittenBut a b w t → AppendsPrefix a b (t ++ u)
so_far_written a b t u w p =
    subst (λ (ys : List ℕ). AppendsPrefix a b ys) (sym (rw p.whole (append_assoc p.written w u))) (so_far a b p.written (w ++ u) p.appends)

-- one more piece is written, or is left waiting
pub one_piece : {A : Type 0} (a b d : Option (List ℕ)) (f : A → List ℕ) (xs : List A) (i : ℕ) (x : A) (w waiting v : List ℕ) → i < length xs → x ≡ get_or xs i x
    → waiting ≡ w ++ f x → WrittenBut a b w (flat_map f (take i xs)) → WrittenBut b d v waiting → WrittenBut a d v (flat_map f (take (i + 1) xs))
one_piece a b d f xs i x w waiting v h e p before now =
    subst (λ (ys : List ℕ). WrittenBut a d v ys) (sym (one_more f xs i x (f x) h e refl))
    (more_left a b d (flat_map f (take i xs)) (f x) w v before (subst (λ (ys : List ℕ). WrittenBut b d v ys) p now))

-- some pieces of a list were written
pub some_pieces : {A : Type 0} (a b : Option (List ℕ)) (f : A → List ℕ) (xs : List A) (i : ℕ) (w : List ℕ) → WrittenBut a b w (flat_map f (take i xs))
    → AppendsPrefix a b (flat_map f xs)
some_pieces a b f xs i w p =
    subst (λ (ys : List ℕ). AppendsPrefix a b ys) (parts f xs i) (so_far_written a b (flat_map f (take i xs)) (flat_map f (drop i xs)) w p)

-- and a prefix of what waits and of the next one
pub piece_partly : {A : Type 0} (a b d : Option (List ℕ)) (f : A → List ℕ) (xs : List A) (i : ℕ) (x : A) (w waiting : List ℕ) → i < length xs → x ≡ get_or xs i x
    → waiting ≡ w ++ f x → WrittenBut a b w (flat_map f (take i xs)) → AppendsPrefix b d waiting → AppendsPrefix a d (flat_map f xs)
piece_partly a b d f xs i x w waiting h e p before now =
    subst (λ (ys : List ℕ). AppendsPrefix a d ys)
    (ap (λ (ys : List ℕ). ys ++ flat_map f (drop (i + 1) xs)) (sym (one_more f xs i x (f x) h e refl)) ∙ parts f xs (i + 1))
    (further a d (flat_map f (take i xs) ++ f x) (flat_map f (drop (i + 1) xs))
    (last_partly a b d (flat_map f (take i xs)) (f x) w before (subst (λ (ys : List ℕ). AppendsPrefix b d ys) p now)))
