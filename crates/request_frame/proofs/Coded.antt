-- Things spelled one after the other, each in bytes that no other begins with.
use Rattle.std.proofs.Common.{List, [], ap, append_assoc, append-nil, arith, length, length-append, refl, sym, ℕ, ◌++◌, ◌∙◌, ◌∷◌, ◌≡◌, ◌≤◌}
use Rattle.std.specs.Prelude.{flat_map}
use Rattle.str_scene.specs.Lists.{Each}

-- lists of one length before others
pub parts_same : {X : Type 0} (xs ys us vs : List X) → length xs ≡ length ys → xs ++ us ≡ ys ++ vs → (xs ≡ ys) × (us ≡ vs)
parts_same [] [] us vs l e = (refl, e)
parts_same [] (y ∷ ys) us vs l e = absurd (omega (arith, l))
parts_same (x ∷ xs) [] us vs l e = absurd (omega (arith, l))
parts_same (x ∷ xs) (y ∷ ys) us vs l e =
    let first : x ≡ y = cc in
    let rest : xs ++ us ≡ ys ++ vs = cc in
    let less : length xs ≡ length ys = omega (arith, l) in
    let h = parts_same xs ys us vs less rest in
    let others : xs ≡ ys = h.0 in
    (cc (first, others), h.1)

-- the spelling of each is some bytes, and no other begins with it
pub record Code (X : Type 0) (spell : X → List ℕ) (Form : X → Type 0) : Type 0 where
  pub some : (x : X) → Form x → 1 ≤ length (spell x)
  pub apart : (x y : X) (us vs : List ℕ) → Form x → Form y → spell x ++ us ≡ spell y ++ vs → (x ≡ y) × (us ≡ vs)

-- the second list begins with the first
pub record Longer (X : Type 0) (spell : X → List ℕ) (Form : X → Type 0) (xs ys : List X) (bytes : List ℕ) : Type 0 where
  pub more : List X
  pub joined : ys ≡ xs ++ more
  pub forms : Each Form more
  pub bytes_is : bytes ≡ flat_map spell more

-- where the bytes of one list begin with those of another, that list begins with the other
pub longer : {X : Type 0} (spell : X → List ℕ) (Form : X → Type 0) (code : Code X spell Form) (xs ys : List X) (bytes : List ℕ) → Each Form xs → Each Form ys →
    flat_map spell xs ++ bytes ≡ flat_map spell ys → Longer X spell Form xs ys bytes
longer spell Form code [] ys bytes f g e = record { more = ys; joined = refl; forms = g; bytes_is = e }
longer spell Form code (x ∷ xs) [] bytes f g e =
    absurd (omega (arith, code.some x f.0, ap length e, length-append (spell x ++ flat_map spell xs) bytes, length-append (spell x) (flat_map spell xs)))
longer spell Form code (x ∷ xs) (y ∷ ys) bytes f g e =
    let h = code.apart x y (flat_map spell xs ++ bytes) (flat_map spell ys) f.0 g.0 (sym (append_assoc (spell x) (flat_map spell xs) bytes) ∙ e) in
    let r = longer spell Form code xs ys bytes f.1 g.1 h.1 in
    let first : x ≡ y = h.0 in
    let rest : ys ≡ xs ++ r.more = r.joined in
    record { more = r.more; joined = cc (first, rest); forms = r.forms; bytes_is = r.bytes_is }

-- what is spelled alike is one
pub spelled_same : {X : Type 0} (spell : X → List ℕ) (Form : X → Type 0) (code : Code X spell Form) (xs ys : List X) → Each Form xs → Each Form ys →
    flat_map spell xs ≡ flat_map spell ys → xs ≡ ys
spelled_same spell Form code xs ys f g e =
    let r = longer spell Form code xs ys [] f g (append-nil (flat_map spell xs) ∙ e) in
    let none : r.more ≡ [] = none_left r.more r.forms r.bytes_is in
    sym (r.joined ∙ (ap (λ zs. xs ++ zs) none ∙ append-nil xs))
  where
    none_left : (zs : List _) → Each Form zs → [] ≡ flat_map spell zs → zs ≡ []
    none_left [] h e = refl
    none_left (z ∷ zs) h e = absurd (omega (arith, code.some z h.0, ap length e, length-append (spell z) (flat_map spell zs)))
