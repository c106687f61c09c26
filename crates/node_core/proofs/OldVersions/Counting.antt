-- How many versions two stores have, key by key.
use Rattle.std.proofs.Common.{Bool, List, [], add-one, ap, arith, false, filter, if◌then◌else◌, length, min, nat_lt, refl, suc, sym, true, ℕ, ◌+◌, ◌-◌, ◌<◌, ◌^◌, ◌∙◌, ◌∷◌, ◌≡◌, ◌≤◌}
use Rattle.std.proofs.lemmas.Bool.Decides.{nat_tests}
use Rattle.chain_prune.specs.Hidden.{IsKeyBelow}
use Rattle.str_base.specs.declared.names.KeyId.{KeyId}
use Rattle.str_base.specs.declared.names.Version.{Version}
use Rattle.str_base.specs.Versions.{chain, insert_version, is_before, same_key}
use Rattle.version_chain.specs.ChainLists.{Each, merged}

length-insert_version : (v : Version) (vs : List Version) → length (insert_version v vs) ≡ suc (length vs)
length-insert_version v [] = refl
length-insert_version v (w ∷ ws) = by_before (is_before v w) (length-insert_version v ws)
  where
    by_before : (b : Bool) → length (insert_version v ws) ≡ suc (length ws) → length (if b then v ∷ w ∷ ws else w ∷ insert_version v ws) ≡ suc (suc (length ws))
    by_before true r = refl
    by_before false r = ap suc r

pub length-merged : (cache store : List Version) → length (merged cache store) ≡ length cache + length store
length-merged [] store = omega arith
length-merged (v ∷ cache) store =
    let r = length-merged cache (insert_version v store) in
    let s = length-insert_version v store in omega (arith, r, s)

-- those of the keys below a number
abbrev pub below_key : ℕ → List Version → List Version
below_key n vs = filter (λ v. nat_lt v.key.0 n) vs

pub none_below : (vs : List Version) → length (below_key 0 vs) ≡ 0
none_below [] = refl
none_below (v ∷ vs) = let t : nat_lt v.key.0 0 ≡ false = grind (arith, nat_tests) in ap (λ (b : Bool). length (if b then v ∷ below_key 0 vs else below_key 0 vs)) t ∙ none_below vs

-- one key more
pub next_below : (n : ℕ) (k : KeyId) (vs : List Version) → k.0 ≡ n → length (below_key (n + 1) vs) ≡ length (below_key n vs) + length (chain k vs)
next_below n k [] e = refl
next_below n k (v ∷ vs) e = by_tests (nat_lt v.key.0 n) (same_key v.key k) (nat_lt v.key.0 (n + 1)) refl refl refl (next_below n k vs e)
  where
    by_tests : (a b c : Bool) → nat_lt v.key.0 n ≡ a → same_key v.key k ≡ b → nat_lt v.key.0 (n + 1) ≡ c
        → length (below_key (n + 1) vs) ≡ length (below_key n vs) + length (chain k vs)
        → length (if c then v ∷ below_key (n + 1) vs else below_key (n + 1) vs) ≡ length (if a then v ∷ below_key n vs else below_key n vs) + length (if b then v ∷ chain k vs else chain k vs)
    by_tests true true c ea eb ec r = absurd (grind (arith, nat_tests))
    by_tests true false true ea eb ec r = omega (arith, r)
    by_tests true false false ea eb ec r = absurd (grind (arith, nat_tests))
    by_tests false true true ea eb ec r = omega (arith, r)
    by_tests false true false ea eb ec r = absurd (grind (arith, nat_tests))
    by_tests false false true ea eb ec r = absurd (grind (arith, nat_tests))
    by_tests false false false ea eb ec r = r

pub all_below : (n : ℕ) (vs : List Version) → Each (IsKeyBelow n) vs → length (below_key n vs) ≡ length vs
all_below n [] e = refl
all_below n (v ∷ vs) e =
    let l = e.0 in
    let t : nat_lt v.key.0 n ≡ true = grind (arith, nat_tests) in
    ap (λ (b : Bool). length (if b then v ∷ below_key n vs else below_key n vs)) t ∙ ap suc (all_below n vs e.1)

-- a sum that stops at a limit, and two numbers more
pub counted_more : (m a b x y c d e : ℕ) → c ≡ min (a + b) m → d ≡ min (c + x) m → e ≡ min (d + y) m → e ≡ min (a + x + (b + y)) m
counted_more m a b x y c d e p q r = omega (arith, p, q, r)

-- one key of both lists more
pub next_counted : (m n : ℕ) (k : KeyId) (store cache : List Version) (c d e : ℕ) → k.0 ≡ n → c ≡ min (length (below_key n store) + length (below_key n cache)) m
    → d ≡ min (c + length (chain k store)) m → e ≡ min (d + length (chain k cache)) m → e ≡ min (length (below_key (n + 1) store) + length (below_key (n + 1) cache)) m
next_counted m n k store cache c d e q f g h =
    let a = next_below n k store q in
    let b = next_below n k cache q in
    let t = counted_more m (length (below_key n store)) (length (below_key n cache)) (length (chain k store)) (length (chain k cache)) c d e f g h in
    omega (arith, a, b, t)
