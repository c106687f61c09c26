-- The start of a list stays, append by append.
use Rattle.std.proofs.Common.{List, append_assoc, ap, drop, length, sym, take, ℕ, ◌++◌, ◌∙◌, ◌≡◌}
use Rattle.std.proofs.Math.Seq.{take-append_seam, take-length}
use Rattle.std.proofs.lemmas.List.{take-append-drop}
use Rattle.str_scene.specs.Keeping.{Keeps}

-- a list begins with itself
pub keeps_same : (a b : List ℕ) → b ≡ a → Keeps a b
keeps_same a b e = record { start = ap (take (length a)) e ∙ take-length a }

-- a list begins with what it was appended to
pub keeps_appended : (a x b : List ℕ) → b ≡ a ++ x → Keeps a b
keeps_appended a x b e = record { start = ap (take (length a)) e ∙ take-append_seam a x }

-- what stays of a list with more at its end stays of the list
pub keeps_start : (a x b c : List ℕ) → b ≡ a ++ x → Keeps b c → Keeps a c
keeps_start a x b c e k =
    let rest = drop (length b) c in
    let whole : c ≡ b ++ rest = sym (take-append-drop (length b) c) ∙ ap (λ t. t ++ rest) k.start in
    keeps_appended a (x ++ rest) c (whole ∙ ap (λ t. t ++ rest) e ∙ append_assoc a x rest)

-- what a writer keeps, step by step
pub ruleset keeping = (keeps_same, keeps_appended, keeps_start)
