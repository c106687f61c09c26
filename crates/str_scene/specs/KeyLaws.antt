-- Laws of the equality of keys, by which a table finds them.
use Rattle.std.specs.Prelude.{List, true, ℕ, ◌++◌, ◌≡◌}
use Rattle.std.proofs.lemmas.Bool.{and_parts}
use Rattle.std.proofs.Common.{eqb, refl, sym}
use Rattle.std.specs.Bool.{Decides}
use Rattle.std.specs.Cmp.{IsEquivalence, decided}
use Rattle.std.specs.Hash as fed
use Rattle.std.specs.Str.{bytes_eq}
use Rattle.std.proofs.lemmas.Bool.Decides.{Decides-eqb}
use Rattle.std.proofs.lemmas.Slice.Eq.{bytes_eq-Decides}
use Rattle.str_base.specs.declared.names.PartId.{PartId}
use Rattle.str_scene.specs.Keys.{same_pair}

-- keys that are one
pub same_pair_true : (a b : List ℕ × PartId) → same_pair a b ≡ true → b ≡ a
same_pair_true a b e =
    let both = and_parts (bytes_eq b.0 a.0) (eqb b.1.0 a.1.0) e in
    let names : b.0 ≡ a.0 = (bytes_eq-Decides b.0 a.0).0 both.0 in
    let parts : b.1.0 ≡ a.1.0 = (Decides-eqb b.1.0 a.1.0).0 both.1 in
    pair_same b.0 a.0 b.1.0 a.1.0 names parts
  where
    pair_same : (n m : List ℕ) (p q : ℕ) → n ≡ m → p ≡ q → ◌≡◌ {A = List ℕ × PartId} (n, record { 0 = p }) (m, record { 0 = q })
    pair_same n m p q e f = rw (e, f) refl

-- a key is one with itself
pub same_pair_self : (a b : List ℕ × PartId) → b ≡ a → same_pair a b ≡ true
same_pair_self a b e =
    rw (e, (bytes_eq-Decides a.0 a.0).1 refl, (Decides-eqb a.1.0 a.1.0).1 refl) refl

-- keys are one exactly where they are equal
pub same_pair-Decides : (a b : List ℕ × PartId) → Decides (same_pair a b) (a ≡ b)
same_pair-Decides a b = (λ e. sym (same_pair_true a b e), λ e. same_pair_self a b (sym e))

-- so this is an equality
pub same_pair_equiv : IsEquivalence same_pair
same_pair_equiv = decided same_pair same_pair-Decides

-- what is hashed of a key
abbrev pub pair_writes : List ℕ × PartId → fed.HashWrites
pair_writes k = fed.slice fed.u8 k.0 ++ fed.u8 k.1.0

-- keys that are one are hashed alike
pub same_pair-Alike : fed.Alike same_pair pair_writes
same_pair-Alike = fed.same_Alike pair_writes same_pair-Decides

-- the equality of byte strings is one
pub bytes_equiv : IsEquivalence bytes_eq
bytes_equiv = decided bytes_eq bytes_eq-Decides

-- byte strings that are one are hashed alike
pub bytes-Alike : fed.Alike bytes_eq (fed.slice fed.u8)
bytes-Alike = fed.same_Alike (fed.slice fed.u8) bytes_eq-Decides
