-- Where the first hidden version of a key is found.
use Rattle.std.proofs.Common.{Bool, IfSome, List, None, Option, Some, [], add-one, ap, arith, drop, eq-eqb, false, if◌then◌else◌, le-leb, is_some, nat_le, not, refl, subst, suc, sym, true, zero, ℕ, ◌&&◌, ◌+◌, ◌<◌, ◌∙◌, ◌∷◌, ◌≡◌, ◌≤◌}
use Rattle.std.proofs.lemmas.Bool.{and_from}
use Rattle.std.proofs.lemmas.Bool.Decides.{nat_tests}
use Rattle.std.specs.List.{list_any, slice_get}
use Rattle.str_base.specs.declared.names.KeyId.{KeyId}
use Rattle.str_base.specs.declared.names.Version.{Version}
use Rattle.str_base.specs.Versions.{chain, is_before, is_undecided, same_key}
use Rattle.str_base.proofs.Lists.{drop_none, drop_there}
use Rattle.str_base.proofs.Order.{before_not, before_time}
use Rattle.str_base.proofs.SameNames.{same_key-is}
use Rattle.str_model.specs.Pruning.{covers}
use Rattle.version_chain.specs.ChainLists.{Each, IsOrdered, Precedes}
use Rattle.version_chain.proofs.Each.{each_always, each_both, each_filter, each_so}
use Rattle.version_chain.proofs.Keeping.{ordered_filter}
use Rattle.chain_prune.specs.Hidden.{first_hidden}

-- the first hidden one of these and of a Final version before them
abbrev pub found_with : ℕ → Option Version → List Version → Option Version
found_with g None vs = first_hidden g vs
found_with g (Some f) vs = if list_any (covers g f.key) vs then Some f else first_hidden g vs

-- an undecided version is not hidden, and hides none
pub found_open : (g : ℕ) (o : Option Version) (v : Version) (vs : List Version) → not (is_undecided v.kind) ≡ false → found_with g o (v ∷ vs) ≡ found_with g o vs
found_open g None v vs h = rw h refl
found_open g (Some f) v vs h = rw h refl

-- a Final version may be hidden by those that follow
pub found_first : (g : ℕ) (v : Version) (vs : List Version) → not (is_undecided v.kind) ≡ true → found_with g None (v ∷ vs) ≡ found_with g (Some v) vs
found_first g v vs h = rw h refl

-- one of its key at or below the mark hides it
pub found_hidden : (g : ℕ) (f v : Version) (vs : List Version) → not (is_undecided v.kind) ≡ true → v.key ≡ f.key → v.ts.0 ≤ g → found_with g (Some f) (v ∷ vs) ≡ Some f
found_hidden g f v vs h k l = rw covered refl
  where
    covered : covers g f.key v ≡ true
    covered =
        and_from (not (is_undecided v.kind)) (same_key v.key f.key && nat_le v.ts.0 g) h
        (and_from (same_key v.key f.key) (nat_le v.ts.0 g) (eq-eqb v.key.0 f.key.0 (ap (λ (m : KeyId). m.0) k)) (le-leb v.ts.0 g l))

-- versions above the mark hide none
no_cover : (g : ℕ) (k : KeyId) (vs : List Version) → Each (λ v. g < v.ts.0) vs → list_any (covers g k) vs ≡ false
no_cover g k [] e = refl
no_cover g k (v ∷ vs) e = rw (uncovered, no_cover g k vs e.1) refl
  where
    high : nat_le v.ts.0 g ≡ false
    high = let l = e.0 in grind (arith, nat_tests)

    fails : (a b : Bool) → (a && (b && false)) ≡ false
    fails true true = refl
    fails true false = refl
    fails false b = refl

    uncovered : covers g k v ≡ false
    uncovered = ap (λ b. not (is_undecided v.kind) && (same_key v.key k && b)) high ∙ fails (not (is_undecided v.kind)) (same_key v.key k)

none_hidden : (g : ℕ) (vs : List Version) → Each (λ v. g < v.ts.0) vs → first_hidden g vs ≡ None
none_hidden g [] e = refl
none_hidden g (v ∷ vs) e =
    ap (λ b. if (not (is_undecided v.kind) && b) then Some v else first_hidden g vs) (no_cover g v.key vs e.1) ∙ passed (not (is_undecided v.kind)) ∙ none_hidden g vs e.1
  where
    passed : (b : Bool) → (if (b && false) then Some v else first_hidden g vs) ≡ first_hidden g vs
    passed true = refl
    passed false = refl

pub found_none : (g : ℕ) (o : Option Version) (vs : List Version) → Each (λ v. g < v.ts.0) vs → found_with g o vs ≡ None
found_none g None vs e = none_hidden g vs e
found_none g (Some f) vs e = ap (λ (b : Bool). if b then Some f else first_hidden g vs) (no_cover g f.key vs e) ∙ none_hidden g vs e

-- ---- the versions of a key from a place on

each_drop : (P : Version → Type 0) (i : ℕ) (vs : List Version) → Each P vs → Each P (drop i vs)
each_drop P zero vs e = e
each_drop P (suc i) [] e = tt
each_drop P (suc i) (v ∷ vs) e = each_drop P i vs e.1

ordered_drop : (i : ℕ) (vs : List Version) → IsOrdered vs → IsOrdered (drop i vs)
ordered_drop zero vs o = o
ordered_drop (suc i) [] o = tt
ordered_drop (suc i) (v ∷ vs) o = ordered_drop i vs o.1

pub of_key : (k : KeyId) (vs : List Version) → Each (λ v. v.key ≡ k) (chain k vs)
of_key k vs = each_so (λ v. Unit {0} × (same_key v.key k ≡ true)) (λ v. v.key ≡ k) (chain k vs) (λ v h. same_key-is v.key k h.1)
    (each_filter (λ v. same_key v.key k) (λ v. Unit {0}) vs (each_always (λ v. Unit {0}) vs (λ v. tt)))

pub key_at : (k : KeyId) (vs : List Version) (i : ℕ) (v : Version) → slice_get (chain k vs) i ≡ Some v → v.key ≡ k
key_at k vs i v e = (subst (λ ws. Each (λ w. w.key ≡ k) ws) (drop_there (chain k vs) i v e) (each_drop (λ w. w.key ≡ k) i (chain k vs) (of_key k vs))).0

-- where one is above a number, so are all that follow
pub all_above : (g : ℕ) (k : KeyId) (vs : List Version) (i : ℕ) (v : Version) → IsOrdered vs → slice_get (chain k vs) i ≡ Some v → g < v.ts.0 → Each (λ w. g < w.ts.0) (drop i (chain k vs))
all_above g k vs i v o e h =
    let ws = chain k vs in
    let rest = drop (suc i) ws in
    let d = drop_there ws i v e in
    let keys = subst (λ xs. Each (λ w. w.key ≡ k) xs) d (each_drop (λ w. w.key ≡ k) i ws (of_key k vs)) in
    let order = subst IsOrdered d (ordered_drop i ws (ordered_filter (λ w. same_key w.key k) vs o)) in
    subst (λ xs. Each (λ w. g < w.ts.0) xs) (sym d)
    (h, each_both (Precedes v) (λ w. w.key ≡ k) (λ w. g < w.ts.0) rest (λ w p q. later w p.0 (keys.0 ∙ sym q)) order.0 keys.1)
  where
    later : (w : Version) → is_before v w ≡ true → v.key ≡ w.key → g < w.ts.0
    later w p q = let t = before_time v w (ap (λ (m : KeyId). m.0) q) (before_not v w p) in omega (arith, h, t)

-- ---- the search, at a place

-- what is found from a place on is the first hidden version of the key
abbrev pub Finds : ℕ → KeyId → List Version → ℕ → Option Version → Type 0
Finds g k vs i o = found_with g o (drop i (chain k vs)) ≡ first_hidden g (chain k vs)

-- the versions from there on are above the mark
pub none_above : (g : ℕ) (k : KeyId) (vs : List Version) (i : ℕ) (v : Version) (o : Option Version) → IsOrdered vs → slice_get (chain k vs) i ≡ Some v → Finds g k vs i o
    → g < v.ts.0 → None ≡ first_hidden g (chain k vs)
none_above g k vs i v o r e f h = sym (found_none g o (drop i (chain k vs)) (all_above g k vs i v r e h)) ∙ f

-- there are no versions from there on
pub none_left : (g : ℕ) (k : KeyId) (vs : List Version) (i : ℕ) (o : Option Version) → slice_get (chain k vs) i ≡ None → Finds g k vs i o → None ≡ first_hidden g (chain k vs)
none_left g k vs i o e f = sym (ap (λ xs. found_with g o xs) (drop_none (chain k vs) i e) ∙ found_none g o [] tt) ∙ f

-- a second Final version stands there
pub second_final : (g : ℕ) (k : KeyId) (vs : List Version) (i : ℕ) (v : Version) (o : Option Version) → slice_get (chain k vs) i ≡ Some v → Finds g k vs i o
    → IfSome o (λ f. f.key ≡ k) → is_some o ≡ true → not (is_undecided v.kind) ≡ true → v.ts.0 ≤ g → o ≡ first_hidden g (chain k vs)
second_final g k vs i v None e f q s u l = absurd (cc)
second_final g k vs i v (Some w) e f q s u l =
    sym (ap (λ xs. found_with g (Some w) xs) (drop_there (chain k vs) i v e) ∙ found_hidden g w v (drop (suc i) (chain k vs)) u (key_at k vs i v e ∙ sym q) l) ∙ f

-- an undecided version stands there
pub next_open : (g : ℕ) (k : KeyId) (vs : List Version) (i : ℕ) (v : Version) (o : Option Version) → slice_get (chain k vs) i ≡ Some v → Finds g k vs i o
    → not (is_undecided v.kind) ≡ false → Finds g k vs (i + 1) o
next_open g k vs i v o e f u =
    subst (λ (n : ℕ). Finds g k vs n o) (sym (add-one i)) (sym (found_open g o v (drop (suc i) (chain k vs)) u) ∙ (sym (ap (λ xs. found_with g o xs) (drop_there (chain k vs) i v e)) ∙ f))

-- the first Final version stands there
pub next_final : (g : ℕ) (k : KeyId) (vs : List Version) (i : ℕ) (v : Version) (o : Option Version) → slice_get (chain k vs) i ≡ Some v → Finds g k vs i o
    → is_some o ≡ false → not (is_undecided v.kind) ≡ true → Finds g k vs (i + 1) (Some v)
next_final g k vs i v (Some w) e f s u = absurd (cc)
next_final g k vs i v None e f s u =
    subst (λ (n : ℕ). Finds g k vs n (Some v)) (sym (add-one i)) (sym (found_first g v (drop (suc i) (chain k vs)) u) ∙ (sym (ap (λ xs. found_with g None xs) (drop_there (chain k vs) i v e)) ∙ f))
