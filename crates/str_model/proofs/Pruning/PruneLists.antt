-- What a list of versions keeps when it is pruned, and that pruning again, later or after a change comes to the same.
use Rattle.std.proofs.Common.{Bool, List, None, Option, Some, [], ap, arith, eq-eqb, eqb-true, false, filter, if◌then◌else◌, inl, inr, nat_le, not, refl, subst, true, ℕ, ◌&&◌, ◌||◌, ◌∙◌, ◌∷◌, ◌≡◌, ◌≤◌, leb-true, le-leb}
use Rattle.std.specs.List.{last_or, list_any}
use Rattle.str_base.specs.declared.names.KeyId.{KeyId}
use Rattle.str_base.specs.declared.names.Version.{Version}
use Rattle.str_base.specs.Versions.{is_undecided, newest, same_key, ts_or_zero, visible}
use Rattle.str_model.specs.Pruning.{covers, hides, pruned_versions}
use Rattle.std.proofs.lemmas.Bool.{and_from, and_parts, or_cases, or_left, or_right}

-- a test that the other implies
pub any_more : (p q : Version → Bool) → ((v : Version) → p v ≡ true → q v ≡ true) → (vs : List Version) → list_any p vs ≡ true → list_any q vs ≡ true
any_more p q h [] e = absurd cc
any_more p q h (v ∷ vs) e =
    elim (or_cases (p v) (list_any p vs) e) [ inl a ↦ or_left (q v) (list_any q vs) (h v a) | inr b ↦ or_right (q v) (list_any q vs) (any_more p q h vs b) ]

-- what covers a key at a mark covers it at each greater one
covers_more : (g g' : ℕ) (l k : KeyId) (w : Version) → g ≤ g' → same_key l k ≡ true → covers g l w ≡ true → covers g' k w ≡ true
covers_more g g' l k w le s e =
    let a = and_parts (not (is_undecided w.kind)) (same_key w.key l && nat_le w.ts.0 g) e in
    let b = and_parts (same_key w.key l) (nat_le w.ts.0 g) a.1 in
    let key : w.key.0 ≡ k.0 = eqb-true w.key.0 l.0 b.0 ∙ eqb-true l.0 k.0 s in
    let low : w.ts.0 ≤ g = leb-true w.ts.0 g b.1 in
    and_from (not (is_undecided w.kind)) (same_key w.key k && nat_le w.ts.0 g') a.0
    (and_from (same_key w.key k) (nat_le w.ts.0 g') (eq-eqb w.key.0 k.0 key) (le-leb w.ts.0 g' (omega (arith, low, le))))

-- what is hidden covers no key that what follows does not cover
pub any_later : (g g' : ℕ) (k : KeyId) (v : Version) (vs : List Version) → g ≤ g' → hides g v vs ≡ true → list_any (covers g' k) vs ≡ list_any (covers g' k) (v ∷ vs)
any_later g g' k v vs le h = by_cover (covers g' k v) refl
  where
    by_cover : (b : Bool) → covers g' k v ≡ b → list_any (covers g' k) vs ≡ (b || list_any (covers g' k) vs)
    by_cover false c = refl
    by_cover true c =
        let a = and_parts (not (is_undecided v.kind)) (list_any (covers g v.key) vs) h in
        let s = and_parts (same_key v.key k) (nat_le v.ts.0 g') (and_parts (not (is_undecided v.kind)) (same_key v.key k && nat_le v.ts.0 g') c).1 in
        any_more (covers g v.key) (covers g' k) (λ w e. covers_more g g' v.key k w le s.0 e) vs a.1

-- the last cover is never hidden
pub any_kept : (g g' : ℕ) (k : KeyId) (vs : List Version) → g ≤ g' → list_any (covers g' k) (pruned_versions g vs) ≡ list_any (covers g' k) vs
any_kept g g' k [] le = refl
any_kept g g' k (v ∷ vs) le = by_hidden (hides g v vs) refl (any_kept g g' k vs le)
  where
    by_hidden : (b : Bool) → hides g v vs ≡ b → list_any (covers g' k) (pruned_versions g vs) ≡ list_any (covers g' k) vs
        → list_any (covers g' k) (if b then pruned_versions g vs else v ∷ pruned_versions g vs) ≡ (covers g' k v || list_any (covers g' k) vs)
    by_hidden true h rec = rec ∙ any_later g g' k v vs le h
    by_hidden false h rec = ap (λ z. covers g' k v || z) rec

-- what is hidden at a mark is hidden at each greater one
hides_more : (g g' : ℕ) (v : Version) (vs : List Version) → g ≤ g' → hides g v vs ≡ true → hides g' v vs ≡ true
hides_more g g' v vs le h =
    let a = and_parts (not (is_undecided v.kind)) (list_any (covers g v.key) vs) h in
    and_from (not (is_undecided v.kind)) (list_any (covers g' v.key) vs) a.0
    (any_more (covers g v.key) (covers g' v.key) (λ w e. covers_more g g' v.key v.key w le (eq-eqb v.key.0 v.key.0 refl) e) vs a.1)

-- pruning at a greater mark later comes to pruning at the greater mark
pub pruned_again : (g g' : ℕ) (vs : List Version) → g ≤ g' → pruned_versions g' (pruned_versions g vs) ≡ pruned_versions g' vs
pruned_again g g' [] le = refl
pruned_again g g' (v ∷ vs) le = by_hidden (hides g v vs) refl (pruned_again g g' vs le)
  where
    by_hidden : (b : Bool) → hides g v vs ≡ b → pruned_versions g' (pruned_versions g vs) ≡ pruned_versions g' vs
        → pruned_versions g' (if b then pruned_versions g vs else v ∷ pruned_versions g vs) ≡ (if hides g' v vs then pruned_versions g' vs else v ∷ pruned_versions g' vs)
    by_hidden true h rec = rw (hides_more g g' v vs le h) rec
    by_hidden false h rec =
        let same : hides g' v (pruned_versions g vs) ≡ hides g' v vs = ap (λ z. not (is_undecided v.kind) && z) (any_kept g g' v.key vs le) in rw (same, rec) refl

-- a test that only undecided versions pass sees no pruning
pub filter_pruned : (g : ℕ) (test : Version → Bool) → ((v : Version) → test v ≡ true → is_undecided v.kind ≡ true) → (vs : List Version)
    → filter test (pruned_versions g vs) ≡ filter test vs
filter_pruned g test h [] = refl
filter_pruned g test h (v ∷ vs) = by_hidden (hides g v vs) refl (filter_pruned g test h vs)
  where
    fails : hides g v vs ≡ true → (b : Bool) → test v ≡ b → filter test vs ≡ (if b then v ∷ filter test vs else filter test vs)
    fails k false e = refl
    fails k true e = absurd (cc (h v e, (and_parts (not (is_undecided v.kind)) (list_any (covers g v.key) vs) k).0))

    by_hidden : (b : Bool) → hides g v vs ≡ b → filter test (pruned_versions g vs) ≡ filter test vs
        → filter test (if b then pruned_versions g vs else v ∷ pruned_versions g vs) ≡ filter test (v ∷ vs)
    by_hidden true k rec = rec ∙ fails k (test v) refl
    by_hidden false k rec = rw rec refl

-- ---- the last that passes

last_any : (test : Version → Bool) (o o' : Option Version) (vs : List Version) → list_any test vs ≡ true → last_or o (filter test vs) ≡ last_or o' (filter test vs)
last_any test o o' [] e = absurd cc
last_any test o o' (v ∷ vs) e = by_test (test v) refl (λ f. last_any test o o' vs f)
  where
    by_test : (b : Bool) → test v ≡ b → (list_any test vs ≡ true → last_or o (filter test vs) ≡ last_or o' (filter test vs))
        → last_or o (if b then v ∷ filter test vs else filter test vs) ≡ last_or o' (if b then v ∷ filter test vs else filter test vs)
    by_test true f rec = refl
    by_test false f rec = rec (subst (λ b. (b || list_any test vs) ≡ true) f e)

-- the last version of one key that passes is seen, where all that cover the key pass
pub last_pruned : (g : ℕ) (k : KeyId) (test : Version → Bool) → ((w : Version) → covers g k w ≡ true → test w ≡ true) → ((v : Version) → test v ≡ true → same_key v.key k ≡ true)
    → (o : Option Version) (vs : List Version) → last_or o (filter test (pruned_versions g vs)) ≡ last_or o (filter test vs)
last_pruned g k test up one o [] = refl
last_pruned g k test up one o (v ∷ vs) = by_hidden (hides g v vs) refl (λ p. last_pruned g k test up one p vs)
  where
    overtaken : hides g v vs ≡ true → (b : Bool) → test v ≡ b → last_or o (filter test vs) ≡ last_or o (if b then v ∷ filter test vs else filter test vs)
    overtaken h false e = refl
    overtaken h true e =
        let a = and_parts (not (is_undecided v.kind)) (list_any (covers g v.key) vs) h in
        last_any test o (Some v) vs (any_more (covers g v.key) test (λ w c. up w (covers_more g g v.key k w (omega arith) (one v e) c)) vs a.1)

    kept : (b : Bool) → test v ≡ b → ((p : Option Version) → last_or p (filter test (pruned_versions g vs)) ≡ last_or p (filter test vs)) → last_or o (if b then v ∷ filter test (pruned_versions g vs) else filter test (pruned_versions g vs)) ≡ last_or o (if b then v ∷ filter test vs else filter test vs)
    kept true e rec = rec (Some v)
    kept false e rec = rec o

    by_hidden : (b : Bool) → hides g v vs ≡ b → ((p : Option Version) → last_or p (filter test (pruned_versions g vs)) ≡ last_or p (filter test vs)) → last_or o (filter test (if b then pruned_versions g vs else v ∷ pruned_versions g vs)) ≡ last_or o (filter test (v ∷ vs))
    by_hidden true h rec = rec o ∙ overtaken h (test v) refl
    by_hidden false h rec = kept (test v) refl rec

-- a snapshot at or above the mark sees the same version
pub visible_pruned : (g : ℕ) (vs : List Version) (k : KeyId) (r : ℕ) → g ≤ r → visible (pruned_versions g vs) k r ≡ visible vs k r
visible_pruned g vs k r le =
    last_pruned g k (λ v. same_key v.key k && nat_le v.ts.0 r)
    (λ w c. (let a = and_parts (same_key w.key k) (nat_le w.ts.0 g) (and_parts (not (is_undecided w.kind)) (same_key w.key k && nat_le w.ts.0 g) c).1 in
    let low : w.ts.0 ≤ g = leb-true w.ts.0 g a.1 in and_from (same_key w.key k) (nat_le w.ts.0 r) a.0 (le-leb w.ts.0 r (omega (arith, low, le)))))
    (λ v e. (and_parts (same_key v.key k) (nat_le v.ts.0 r) e).0) None vs

-- the newest timestamp stays, whatever the mark
pub newest_pruned : (g : ℕ) (vs : List Version) (k : KeyId) → newest (pruned_versions g vs) k ≡ newest vs k
newest_pruned g vs k =
    ap ts_or_zero (last_pruned g k (λ v. same_key v.key k)
    (λ w c. (and_parts (same_key w.key k) (nat_le w.ts.0 g) (and_parts (not (is_undecided w.kind)) (same_key w.key k && nat_le w.ts.0 g) c).1).0) (λ v e. e) None vs)
