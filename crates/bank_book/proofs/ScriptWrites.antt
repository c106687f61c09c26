-- What the scripts of a bank write and get.
use Rattle.std.proofs.Common.{Bool, List, Option, Some, [], ap, append-nil, append_assoc, arith, false, find, if◌then◌else◌, inl, inr, lt-ltb, map, not, pos, refl, subst, sym, true, ℕ, ℤ, ◌++◌, ◌∙◌, ◌∷◌, ◌≡◌, ◌≤◌, ◌||◌}
use Rattle.std.specs.List.{list_all, list_any}
use Rattle.std.proofs.lemmas.Bool.{and_parts, not-true, or_parts}
use Rattle.str_base.proofs.SameNames.{is-same_key, same_key-is}
use Rattle.str_base.specs.declared.names.KeyId.{KeyId}
use Rattle.str_base.specs.declared.names.Value.{Value}
use Rattle.str_base.specs.declared.names.Value.TheVariants.{Absent, Num}
use Rattle.str_base.specs.declared.names.Write.{Write}
use Rattle.str_base.specs.Members.{In}
use Rattle.str_base.specs.Values.{is_below, set_write, sum_with}
use Rattle.str_base.specs.Versions.{same_key}
use Rattle.str_model.specs.Evaluation.{AtEnd, Evaluated, Unmet, eval, eval_from, with_write}
use Rattle.str_model.specs.declared.names.Got.{Got}
use Rattle.str_scene.specs.declared.names.Op.{Op}
use Rattle.str_scene.specs.declared.names.Op.TheVariants.{Abort, Add, Del, Get, Need, Put, Puts}
use Rattle.bank_book.specs.BankScenes.{account, amount, are_distinct, is_among, opens}
use Rattle.bank_book.proofs.AccountSums.{apart, not_same}

-- ---- a write buffer

-- the write of the key
abbrev pub found : KeyId → List Write → Option Write
found k ws = find (λ (w : Write). same_key w.key k) ws

pub find_any : (k : KeyId) (ws : List Write) (w : Write) → found k ws ≡ Some w → list_any (λ (u : Write). same_key u.key k) ws ≡ true
find_any k [] w e = absurd (cc e)
find_any k (u ∷ us) w e = by_test (same_key u.key k) e (find_any k us w)
  where
    by_test : (t : Bool) → (if t then Some u else found k us) ≡ Some w → (found k us ≡ Some w → list_any (λ (u : Write). same_key u.key k) us ≡ true)
        → (t || list_any (λ (u : Write). same_key u.key k) us) ≡ true
    by_test true q r = refl
    by_test false q r = r q

find_set : (k : KeyId) (w : Write) (ws : List Write) → same_key w.key k ≡ true → found k (set_write w ws) ≡ Some w
find_set k w [] e = rw e refl
find_set k w (u ∷ us) e = by_test (same_key u.key w.key) refl (find_set k w us e)
  where
    by_test : (t : Bool) → same_key u.key w.key ≡ t → found k (set_write w us) ≡ Some w → found k (if t then w ∷ us else u ∷ set_write w us) ≡ Some w
    by_test true q r = rw e refl
    by_test false q r = rw (not_same u.key k (λ s. apart u.key w.key q (s ∙ sym (same_key-is w.key k e)))) r

find_set_other : (k : KeyId) (w : Write) (ws : List Write) → same_key w.key k ≡ false → found k (set_write w ws) ≡ found k ws
find_set_other k w [] e = rw e refl
find_set_other k w (u ∷ us) e = by_test (same_key u.key w.key) refl (find_set_other k w us e)
  where
    at_key : (t : Bool) → found k (set_write w us) ≡ found k us → (if t then Some u else found k (set_write w us)) ≡ (if t then Some u else found k us)
    at_key true r = refl
    at_key false r = r

    by_test : (t : Bool) → same_key u.key w.key ≡ t → found k (set_write w us) ≡ found k us → found k (if t then w ∷ us else u ∷ set_write w us) ≡ found k (u ∷ us)
    by_test true q r = rw (e, not_same u.key k (λ s. apart w.key k e (sym (same_key-is u.key w.key q) ∙ s))) refl
    by_test false q r = at_key (same_key u.key k) r

-- ---- an opening

-- a key that it does not open
unopened : (look : KeyId → Value) (k : KeyId) (ops : List Op) (ws : List Write) (gs : List Got) → list_all opens ops ≡ true → is_among (map account ops) k ≡ false
    → found k (eval_from look ops ws gs).writes ≡ found k ws
unopened look k [] ws gs a n = refl
unopened look k (Put l m ∷ ops) ws gs a n =
    let p = and_parts (opens (Put l m)) (list_all opens ops) a in
    let q = or_parts (same_key l k) (is_among (map account ops) k) n in
    unopened look k ops (with_write l (Num m) ws) gs p.1 q.1 ∙ find_set_other k (record { key = l; value = Num m }) ws q.0
unopened look k (Get l ∷ ops) ws gs a n = absurd (cc a)
unopened look k (Puts l t ∷ ops) ws gs a n = absurd (cc a)
unopened look k (Add l m ∷ ops) ws gs a n = absurd (cc a)
unopened look k (Del l ∷ ops) ws gs a n = absurd (cc a)
unopened look k (Need l m ∷ ops) ws gs a n = absurd (cc a)
unopened look k (Abort ∷ ops) ws gs a n = absurd (cc a)

-- each account gets its amount
abbrev IsPut : KeyId → ℤ → List Write → Type 0
IsPut k n ws = found k ws ≡ Some (record { key = k; value = Num n })

pub opened_value : (look : KeyId → Value) (ops : List Op) (op : Op) (ws : List Write) (gs : List Got) → list_all opens ops ≡ true → are_distinct (map account ops) ≡ true → In op ops
    → IsPut (account op) (amount op) (eval_from look ops ws gs).writes
opened_value look [] op ws gs a d h = absurd h
opened_value look (Put l m ∷ ops) op ws gs a d (inl e) =
    let p = and_parts (opens (Put l m)) (list_all opens ops) a in
    let q = and_parts (not (is_among (map account ops) l)) (are_distinct (map account ops)) d in
    subst (λ (z : Op). IsPut (account z) (amount z) (eval_from look ops (with_write l (Num m) ws) gs).writes) e
    (unopened look l ops (with_write l (Num m) ws) gs p.1 (not-true (is_among (map account ops) l) q.0) ∙ find_set l (record { key = l; value = Num m }) ws (is-same_key l l refl))
opened_value look (Put l m ∷ ops) op ws gs a d (inr h) =
    let p = and_parts (opens (Put l m)) (list_all opens ops) a in
    let q = and_parts (not (is_among (map account ops) l)) (are_distinct (map account ops)) d in
    opened_value look ops op (with_write l (Num m) ws) gs p.1 q.1 h
opened_value look (Get l ∷ ops) op ws gs a d h = absurd (cc a)
opened_value look (Puts l t ∷ ops) op ws gs a d h = absurd (cc a)
opened_value look (Add l m ∷ ops) op ws gs a d h = absurd (cc a)
opened_value look (Del l ∷ ops) op ws gs a d h = absurd (cc a)
opened_value look (Need l m ∷ ops) op ws gs a d h = absurd (cc a)
opened_value look (Abort ∷ ops) op ws gs a d h = absurd (cc a)

-- ---- a transfer

-- the operations of a transfer
abbrev pub pays : KeyId → KeyId → ℤ → ℤ → List Op
pays x y m n = Need x m ∷ Add x n ∷ Add y m ∷ []

-- its need is met, and it writes both accounts
pub record IsPaid (look : KeyId → Value) (x y : KeyId) (m n : ℤ) : Type 0 where
  pub met : is_below (look x) m ≡ false
  pub writes : (eval (pays x y m n) look).writes ≡ record { key = x; value = sum_with (look x) n } ∷ record { key = y; value = sum_with (look y) m } ∷ []

-- how it stops where it is not
abbrev unmet : Evaluated
unmet = record { gets = []; writes = []; stop = Unmet }

pub is_paid : (look : KeyId → Value) (x y : KeyId) (m n : ℤ) → same_key x y ≡ false → (eval (pays x y m n) look).stop ≡ AtEnd → IsPaid look x y m n
is_paid look x y m n e h = by_test (is_below (look x) m) refl h
  where
    never : Unmet ≡ AtEnd → ⊥
    never q = absurd (cc q)

    by_test : (t : Bool) → is_below (look x) m ≡ t
        → (if t then unmet else eval_from look (Add x n ∷ Add y m ∷ []) [] []).stop ≡ AtEnd → IsPaid look x y m n
    by_test true p q = absurd (never q)
    by_test false p q = record { met = p; writes = rw (p, e) refl }

-- nothing is below no amount
pub absent_below : (v : ℕ) → 1 ≤ v → is_below Absent (pos v) ≡ true
absent_below v h = lt-ltb 0 v (omega arith)

-- ---- a statement

pub statement_gets : (look : KeyId → Value) (ks : List KeyId) (gs : List Got)
    → eval_from look (map (λ k. Get k) ks) [] gs ≡ record { gets = gs ++ map (λ k. record { key = k; value = look k }) ks; writes = []; stop = AtEnd }
statement_gets look [] gs = ap (λ (z : List Got). record { gets = z; writes = []; stop = AtEnd }) (sym (append-nil gs))
statement_gets look (k ∷ ks) gs =
    statement_gets look ks (gs ++ record { key = k; value = look k } ∷ [])
    ∙ ap (λ (z : List Got). record { gets = z; writes = []; stop = AtEnd }) (append_assoc gs (record { key = k; value = look k } ∷ []) (map (λ l. record { key = l; value = look l }) ks))
