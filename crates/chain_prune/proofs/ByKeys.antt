-- Pruning key by key comes to pruning all keys.
use Rattle.std.proofs.Common.{Bool, List, None, Option, Some, [], ap, arith, drop, false, if◌then◌else◌, length, min, nat_le, not, refl, suc, sym, true, zero, ℕ, ◌&&◌, ◌+◌, ◌<◌, ◌≤◌, ◌^◌, ◌||◌, ◌∙◌, ◌∷◌, ◌≡◌}
use Rattle.std.proofs.Math.Nat.{min-eq_left}
use Rattle.std.proofs.lemmas.Bool.Decides.{nat_tests}
use Rattle.std.proofs.lemmas.Bool.{and_from, and_parts, or_right}
use Rattle.std.proofs.lemmas.List.{drop_all}
use Rattle.std.specs.List.{list_any, slice_get}
use Rattle.str_base.specs.declared.names.KeyId.{KeyId}
use Rattle.str_base.specs.declared.names.Version.{Version}
use Rattle.str_base.specs.Versions.{chain, is_undecided, same_key}
use Rattle.str_base.proofs.Lists.{drop_none, drop_there, slice_get_none}
use Rattle.str_base.proofs.SameNames.{is-same_key, same_key-is}
use Rattle.str_base.proofs.Tests.{or_false_left, or_false_right}
use Rattle.str_model.specs.Pruning.{covers, hides, pruned_versions}
use Rattle.replica_store.specs.Crowds.{NotesCrowds, is_crowded, is_noted}
use Rattle.replica_store.proofs.Crowds.{noted_fewer}
use Rattle.chain_prune.specs.Hidden.{pruned_among, pruned_at, pruned_key, pruned_where}
use Rattle.chain_prune.proofs.Dropping.{covers_of_key, keeps, loses}

second : (a b : Bool) → b ≡ false → (a && b) ≡ false
second true b q = q
second false b q = refl

-- pruning other keys takes out nothing that hides a version of this one
covers_kept : (test : KeyId → Bool) (g : ℕ) (k : KeyId) (vs : List Version) → test k ≡ false → list_any (covers g k) (pruned_where test g vs) ≡ list_any (covers g k) vs
covers_kept test g k [] n = refl
covers_kept test g k (v ∷ vs) n = by_test (test v.key) (hides g v vs) refl (covers_kept test g k vs n)
  where
    fails : (a b : Bool) → (a && (false && b)) ≡ false
    fails true b = refl
    fails false b = refl

    other : (b : Bool) → same_key v.key k ≡ b → test v.key ≡ true → covers g k v ≡ false
    other true m t = let q = ap test (same_key-is v.key k m) in absurd (cc)
    other false m t = ap (λ b. not (is_undecided v.kind) && (b && nat_le v.ts.0 g)) m ∙ fails (not (is_undecided v.kind)) (nat_le v.ts.0 g)

    by_test : (b h : Bool) → test v.key ≡ b → list_any (covers g k) (pruned_where test g vs) ≡ list_any (covers g k) vs
        → list_any (covers g k) (if (b && h) then pruned_where test g vs else v ∷ pruned_where test g vs) ≡ (covers g k v || list_any (covers g k) vs)
    by_test true true t rec = rec ∙ sym (ap (λ b. b || list_any (covers g k) vs) (other (same_key v.key k) refl t))
    by_test true false t rec = ap (λ b. covers g k v || b) rec
    by_test false h t rec = ap (λ b. covers g k v || b) rec

-- pruning any keys leaves no more that hides
covers_fewer : (p : Version → Bool) (test : KeyId → Bool) (g : ℕ) (vs : List Version) → list_any p vs ≡ false → list_any p (pruned_where test g vs) ≡ false
covers_fewer p test g [] e = refl
covers_fewer p test g (v ∷ vs) e = by_test (test v.key && hides g v vs) (covers_fewer p test g vs (or_false_right (p v) (list_any p vs) e))
  where
    by_test : (b : Bool) → list_any p (pruned_where test g vs) ≡ false → list_any p (if b then pruned_where test g vs else v ∷ pruned_where test g vs) ≡ false
    by_test true rec = rec
    by_test false rec = ap (λ b. b || list_any p (pruned_where test g vs)) (or_false_left (p v) (list_any p vs) e) ∙ rec

hides_nothing_more : (test : KeyId → Bool) (g : ℕ) (v : Version) (vs : List Version) → hides g v vs ≡ false → hides g v (pruned_where test g vs) ≡ false
hides_nothing_more test g v vs h = by_kind (not (is_undecided v.kind)) h
  where
    by_kind : (b : Bool) → (b && list_any (covers g v.key) vs) ≡ false → (b && list_any (covers g v.key) (pruned_where test g vs)) ≡ false
    by_kind true e = covers_fewer (covers g v.key) test g vs e
    by_kind false e = refl

-- one key more
pub next_key : (test : KeyId → Bool) (g : ℕ) (k : KeyId) (vs : List Version) → pruned_key k g (pruned_where test g vs) ≡ pruned_where (λ m. same_key m k || test m) g vs
next_key test g k [] = refl
next_key test g k (v ∷ vs) = by_tests (test v.key) (same_key v.key k) (hides g v vs) refl refl refl (next_key test g k vs)
  where
    one : KeyId → Bool
    one m = same_key m k

    more : KeyId → Bool
    more m = same_key m k || test m

    rest : List Version
    rest = pruned_where test g vs

    by_tests : (a b h : Bool) → test v.key ≡ a → same_key v.key k ≡ b → hides g v vs ≡ h → pruned_key k g rest ≡ pruned_where more g vs
        → pruned_key k g (pruned_where test g (v ∷ vs)) ≡ pruned_where more g (v ∷ vs)
    by_tests a b false ea eb eh rec =
        ap (λ xs. pruned_key k g xs) (keeps test g v vs (second (test v.key) (hides g v vs) eh)) ∙ keeps one g v rest (second (same_key v.key k) (hides g v rest) (hides_nothing_more test g v vs eh))
        ∙ ap (λ xs. v ∷ xs) rec ∙ sym (keeps more g v vs (second (more v.key) (hides g v vs) eh))
    by_tests true b true ea eb eh rec =
        ap (λ xs. pruned_key k g xs) (loses test g v vs (and_from (test v.key) (hides g v vs) ea eh)) ∙ rec ∙ sym (loses more g v vs (and_from (more v.key) (hides g v vs) (or_right (same_key v.key k) (test v.key) ea) eh))
    by_tests false true true ea eb eh rec =
        let same : hides g v rest ≡ hides g v vs = ap (λ b. not (is_undecided v.kind) && b) (covers_kept test g v.key vs ea) in
        ap (λ xs. pruned_key k g xs) (keeps test g v vs (ap (λ b. b && hides g v vs) ea)) ∙ loses one g v rest (and_from (same_key v.key k) (hides g v rest) eb (same ∙ eh)) ∙ rec
        ∙ sym (loses more g v vs (and_from (more v.key) (hides g v vs) (ap (λ b. b || test v.key) eb) eh))
    by_tests false false true ea eb eh rec =
        let t : more v.key ≡ false = ap (λ b. b || test v.key) eb ∙ ea in
        ap (λ xs. pruned_key k g xs) (keeps test g v vs (ap (λ b. b && hides g v vs) ea)) ∙ keeps one g v rest (ap (λ b. b && hides g v rest) eb) ∙ ap (λ xs. v ∷ xs) rec
        ∙ sym (keeps more g v vs (ap (λ b. b && hides g v vs) t))

-- no key is among none
pub no_key : (g : ℕ) (vs : List Version) → pruned_among [] g vs ≡ vs
no_key g [] = refl
no_key g (v ∷ vs) = keeps (is_noted []) g v vs refl ∙ ap (λ xs. v ∷ xs) (no_key g vs)

-- a key of which a version is hidden has two versions
some_of_key : (g : ℕ) (k : KeyId) (vs : List Version) → list_any (covers g k) vs ≡ true → 0 < length (chain k vs)
some_of_key g k vs e = by_length (chain k vs) (covers_of_key g k vs ∙ e)
  where
    by_length : (ws : List Version) → list_any (covers g k) ws ≡ true → 0 < length ws
    by_length [] h = absurd (cc)
    by_length (w ∷ ws) h = omega arith

hides_crowded : (g : ℕ) (v : Version) (vs : List Version) → hides g v vs ≡ true → is_crowded (v ∷ vs) v.key ≡ true
hides_crowded g v vs h =
    let l = some_of_key g v.key vs (and_parts (not (is_undecided v.kind)) (list_any (covers g v.key) vs) h).1 in
    let n = ap (λ (xs : List Version). length xs) (first_of_key (same_key v.key v.key) (is-same_key v.key v.key refl)) in
    grind (arith, nat_tests)
  where
    first_of_key : (b : Bool) → b ≡ true → (if b then v ∷ chain v.key vs else chain v.key vs) ≡ v ∷ chain v.key vs
    first_of_key true e = refl
    first_of_key false e = absurd (cc)

noted_rest : (crowd : List ℕ) (v : Version) (vs : List Version) → NotesCrowds crowd (v ∷ vs) → NotesCrowds crowd vs
noted_rest crowd v vs n = noted_fewer crowd (v ∷ vs) vs (λ k. fewer (same_key v.key k) (chain k vs)) n
  where
    fewer : (b : Bool) (xs : List Version) → length xs ≤ length (if b then v ∷ xs else xs)
    fewer true xs = omega arith
    fewer false xs = omega arith

-- the keys of a crowd are all that have something hidden
all_crowded : (crowd : List ℕ) (g : ℕ) (vs : List Version) → NotesCrowds crowd vs → pruned_among crowd g vs ≡ pruned_versions g vs
all_crowded crowd g [] n = refl
all_crowded crowd g (v ∷ vs) n = by_hidden (hides g v vs) refl (all_crowded crowd g vs (noted_rest crowd v vs n))
  where
    by_hidden : (h : Bool) → hides g v vs ≡ h → pruned_among crowd g vs ≡ pruned_versions g vs → pruned_among crowd g (v ∷ vs) ≡ (if h then pruned_versions g vs else v ∷ pruned_versions g vs)
    by_hidden true e rec = loses (is_noted crowd) g v vs (and_from (is_noted crowd v.key) (hides g v vs) (n v.key (hides_crowded g v vs e)) e) ∙ rec
    by_hidden false e rec = keeps (is_noted crowd) g v vs (second (is_noted crowd v.key) (hides g v vs) e) ∙ ap (λ xs. v ∷ xs) rec

-- ---- from place to place of a crowd

-- the key at a place is pruned after those behind it
pub next_place : (crowd : List ℕ) (place : ℕ) (g : ℕ) (vs : List Version) → pruned_at (slice_get crowd place) g (pruned_among (drop (suc place) crowd) g vs) ≡ pruned_among (drop place crowd) g vs
next_place crowd place g vs = by_key (slice_get crowd place) refl
  where
    by_key : (o : Option ℕ) → slice_get crowd place ≡ o → pruned_at o g (pruned_among (drop (suc place) crowd) g vs) ≡ pruned_among (drop place crowd) g vs
    by_key (Some n) e =
        next_key (is_noted (drop (suc place) crowd)) g (record { 0 = n }) vs ∙ sym (ap (λ (ns : List ℕ). pruned_among ns g vs) (drop_there crowd place n e))
    by_key None e = let l = slice_get_none crowd place e in ap (λ (ns : List ℕ). pruned_among ns g vs) (drop_all (suc place) crowd (omega (arith, l)) ∙ sym (drop_none crowd place e))

-- behind the first place stand all
pub all_places : (crowd : List ℕ) (place : ℕ) (g : ℕ) (vs ws : List Version) → place ≤ 0 → ws ≡ pruned_among (drop place crowd) g vs → NotesCrowds crowd vs → ws ≡ pruned_versions g vs
all_places crowd zero g vs ws h e n = e ∙ all_crowded crowd g vs n
all_places crowd (suc place) g vs ws h e n = absurd (omega (arith, h))

-- one more key's versions are counted
pub counted_more : (d r l m n s : ℕ) → s ≡ min (d + r) 18446744073709551615 → d + l ≡ n → r + m ≡ l → n < 2 ^ 64 → s + m ≡ n
counted_more d r l m n s e i p h =
    let q : min (d + r) 18446744073709551615 ≡ d + r = min-eq_left (omega (arith, i, p, h)) in
    omega (arith, e, q, i, p)
