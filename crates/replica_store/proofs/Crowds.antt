-- Keys with more than one version, as versions come and go.
use Rattle.std.proofs.Common.{Bool, List, [], ap, arith, cond, false, filter, if◌then◌else◌, length, map, nat_lt, not, refl, subst, sym, true, ℕ, ◌+◌, ◌==◌, ◌∙◌, ◌∷◌, ◌≡◌, ◌≤◌}
use Rattle.std.proofs.lemmas.Bool.Decides.{nat_tests}
use Rattle.std.specs.List.{list_any}
use Rattle.str_base.specs.declared.names.KeyId.{KeyId}
use Rattle.str_base.specs.declared.names.Version.{Version}
use Rattle.str_base.specs.Versions.{chain, finalise, insert_all, insert_version, is_before, same_key, settled, without}
use Rattle.str_base.proofs.SameNames.{same_key-is}
use Rattle.replica_store.specs.Crowds.{NotesCrowds, is_crowded, is_noted}

-- ---- how many versions a key has

abbrev pub number : KeyId → List Version → ℕ
number k vs = length (chain k vs)

-- a version is one of its key
abbrev one : KeyId → Version → ℕ
one k v = if same_key v.key k then 1 else 0

number_more : (k : KeyId) (v : Version) (vs : List Version) → number k (v ∷ vs) ≡ one k v + number k vs
number_more k v vs = by_key (same_key v.key k)
  where
    by_key : (b : Bool) → length (if b then v ∷ chain k vs else chain k vs) ≡ (if b then 1 else 0) + number k vs
    by_key true = omega arith
    by_key false = omega arith

number_insert : (k : KeyId) (v : Version) (vs : List Version) → number k (insert_version v vs) ≡ one k v + number k vs
number_insert k v [] = number_more k v []
number_insert k v (w ∷ ws) = by_test (is_before v w) (number_insert k v ws)
  where
    by_test : (b : Bool) → number k (insert_version v ws) ≡ one k v + number k ws → number k (if b then v ∷ w ∷ ws else w ∷ insert_version v ws) ≡ one k v + number k (w ∷ ws)
    by_test true rec = number_more k v (w ∷ ws)
    by_test false rec =
        let a = number_more k w (insert_version v ws) in
        let b = number_more k w ws in
        omega (arith, a, b, rec)

number_all : (k : KeyId) (ws vs : List Version) → number k (insert_all ws vs) ≡ number k ws + number k vs
number_all k [] vs = omega arith
number_all k (w ∷ ws) vs =
    let a = number_all k ws (insert_version w vs) in
    let b = number_insert k w vs in
    let c = number_more k w ws in
    omega (arith, a, b, c)

number_settled : (k : KeyId) (fc : ℕ) (vs : List Version) → number k (map (settled fc) vs) ≡ number k vs
number_settled k fc [] = refl
number_settled k fc (v ∷ vs) =
    let a = number_more k (settled fc v) (map (settled fc) vs) in
    let b = number_more k v vs in
    let c = number_settled k fc vs in
    omega (arith, a, b, c)

number_parts : (k : KeyId) (test : Version → Bool) (vs : List Version) → number k (filter test vs) + number k (without test vs) ≡ number k vs
number_parts k test [] = refl
number_parts k test (v ∷ vs) = by_test (test v) (number_parts k test vs)
  where
    by_test : (b : Bool) → number k (filter test vs) + number k (without test vs) ≡ number k vs
        → number k (if b then v ∷ filter test vs else filter test vs) + number k (if not b then v ∷ without test vs else without test vs) ≡ number k (v ∷ vs)
    by_test true rec =
        let a = number_more k v (filter test vs) in
        let b = number_more k v vs in
        omega (arith, a, b, rec)
    by_test false rec =
        let a = number_more k v (without test vs) in
        let b = number_more k v vs in
        omega (arith, a, b, rec)

-- a commit keeps how many a key has
pub number_finalise : (k : KeyId) (test : Version → Bool) (fc : ℕ) (vs : List Version) → number k (finalise test fc vs) ≡ number k vs
number_finalise k test fc vs =
    let a = number_all k (map (settled fc) (filter test vs)) (without test vs) in
    let b = number_settled k fc (filter test vs) in
    let c = number_parts k test vs in
    omega (arith, a, b, c)

-- with fewer versions no key has more
pub number_without : (k : KeyId) (test : Version → Bool) (vs : List Version) → number k (without test vs) ≤ number k vs
number_without k test vs = let c = number_parts k test vs in omega (arith, c)

-- ---- the crowd

-- where no key has more versions, the same crowd does
pub noted_fewer : (crowd : List ℕ) (vs ws : List Version) → ((k : KeyId) → number k ws ≤ number k vs) → NotesCrowds crowd vs → NotesCrowds crowd ws
noted_fewer crowd vs ws fewer n k c = let l = fewer k in let t : nat_lt 1 (number k vs) ≡ true = grind (arith, nat_tests) in n k t

-- a version more, and its key is noted if it has two
pub noted_insert : (crowd new : List ℕ) (v : Version) (vs : List Version) → NotesCrowds crowd vs → ((k : KeyId) → is_noted crowd k ≡ true → is_noted new k ≡ true)
    → (is_crowded (insert_version v vs) v.key ≡ true → is_noted new v.key ≡ true) → NotesCrowds new (insert_version v vs)
noted_insert crowd new v vs n old own k c = by_key (same_key v.key k) refl
  where
    by_key : (b : Bool) → same_key v.key k ≡ b → is_noted new k ≡ true
    by_key true e = let q = same_key-is v.key k e in subst (λ (m : KeyId). is_noted new m ≡ true) q (own (subst (λ (m : KeyId). is_crowded (insert_version v vs) m ≡ true) (sym q) c))
    by_key false e =
        let a = number_insert k v vs in
        let z : one k v ≡ 0 = ap (λ (b : Bool). if b then 1 else 0) e in
        let t : nat_lt 1 (number k vs) ≡ true = grind (arith, nat_tests) in
        old k (n k t)

-- a key that has no two versions leaves
pub noted_leave : (crowd new : List ℕ) (key : KeyId) (vs : List Version) → NotesCrowds crowd vs → is_crowded vs key ≡ false
    → ((n : ℕ) → list_any (λ m. n == m) new ≡ cond (key.0 == n) false (list_any (λ m. n == m) crowd)) → NotesCrowds new vs
noted_leave crowd new key vs n alone others k c = others k.0 ∙ by_key (same_key key k) refl
  where
    by_key : (b : Bool) → same_key key k ≡ b → cond b false (is_noted crowd k) ≡ true
    by_key true e = let q = ap (λ (m : KeyId). is_crowded vs m) (same_key-is key k e) in absurd (cc)
    by_key false e = n k c
