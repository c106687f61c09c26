-- What was written before a refusal is a prefix of what would have been written.
use Rattle.std.proofs.Common.{List, None, Option, Some, [], ap, append-nil, append_assoc, drop, length, refl, sym, ℕ, ◌++◌, ◌∙◌, ◌≡◌}
use Rattle.std.proofs.KnownBytes.{Appends-trans}
use Rattle.std.proofs.lemmas.List.{take-append-drop, take_at}
use Rattle.std.specs.Io.{StartsWith}
use Rattle.std.specs.Io.KnownBytes.{Appends}
use Rattle.str_outer.specs.Pieces.{AppendsPrefix}

-- what begins a list has the rest behind it
behind : (t p : List ℕ) → StartsWith t p → t ≡ p ++ drop (length p) t
behind t p s = sym (take-append-drop (length p) t) ∙ ap (λ (xs : List ℕ). xs ++ drop (length p) t) s

-- it begins all that has it in front
begins : (t p r : List ℕ) → t ≡ p ++ r → StartsWith t p
begins t p r e = rw e (take_at p r (length p) refl)

-- nothing more is held
pub appends_none : (a : Option (List ℕ)) → Appends a a []
appends_none None = tt
appends_none (Some xs) = sym (append-nil xs)

-- nothing was written
pub nothing : (a : Option (List ℕ)) (t : List ℕ) → AppendsPrefix a a t
nothing a t = record { piece = []; is_prefix = refl; appends = appends_none a }

-- all was written
pub whole : (a b : Option (List ℕ)) (t : List ℕ) → Appends a b t → AppendsPrefix a b t
whole a b t w = record { piece = t; is_prefix = begins t t [] (sym (append-nil t)); appends = w }

-- a first part was written whole
pub so_far : (a b : Option (List ℕ)) (t u : List ℕ) → Appends a b t → AppendsPrefix a b (t ++ u)
so_far a b t u w = record { piece = t; is_prefix = take_at t u (length t) refl; appends = w }

-- a prefix of a first part was written
pub further : (a b : Option (List ℕ)) (t u : List ℕ) → AppendsPrefix a b t → AppendsPrefix a b (t ++ u)
further a b t u p = record { piece = p.piece; is_prefix = begins (t ++ u) p.piece (drop (length p.piece) t ++ u) (ap (λ (xs : List ℕ). xs ++ u) (behind t p.piece p.is_prefix) ∙ append_assoc p.piece (drop (length p.piece) t) u); appends = p.appends }

-- a first part was written whole, and a prefix of the second
pub and_then : (a b d : Option (List ℕ)) (t u : List ℕ) → Appends a b t → AppendsPrefix b d u → AppendsPrefix a d (t ++ u)
and_then a b d t u w p = record {
  piece = t ++ p.piece;
  is_prefix = begins (t ++ u) (t ++ p.piece) (drop (length p.piece) u) (ap (λ (xs : List ℕ). t ++ xs) (behind u p.piece p.is_prefix) ∙ sym (append_assoc t p.piece (drop (length p.piece) u)));
  appends = Appends-trans a b d t p.piece w p.appends;
}
