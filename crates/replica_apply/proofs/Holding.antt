-- Whether one of the versions passes a test, and which written key a transaction holds.
use Rattle.std.proofs.Common.{Bool, List, None, Option, Some, [], ap, drop, false, get_or, if◌then◌else◌, is_some, length, refl, sym, true, ℕ, ◌&&◌, ◌++◌, ◌+◌, ◌<◌, ◌∙◌, ◌∷◌, ◌≡◌, ◌||◌}
use Rattle.std.specs.List.{list_any}
use Rattle.replica_apply.specs.Slaves.{is_local_of}
use Rattle.str_base.specs.declared.names.KeyId.{KeyId}
use Rattle.str_base.specs.declared.names.TxId.{TxId}
use Rattle.str_base.specs.declared.names.Version.{Version}
use Rattle.str_base.specs.declared.names.Write.{Write}
use Rattle.str_base.specs.Versions.{chain, is_local, of_tx, same_key}
use Rattle.str_model.specs.Arrivals.{held_key}
use Rattle.str_model.specs.Turns.{met}
use Rattle.version_chain.proofs.Lists.{at_place}
use Rattle.version_chain.specs.ChainLists.{Each}
use Rattle.version_chain.specs.Walks.{IsSettled}

-- ---- one of a list

-- the next one passes
pub any_next : {A : Type 0} (p : A → Bool) (x : A) (xs ys : List A) (r : Bool) → list_any p xs ≡ r → xs ≡ x ∷ ys → p x ≡ true → true ≡ r
any_next p x xs ys r h e t = sym (ap (λ b. b || list_any p ys) t) ∙ sym (ap (λ zs. list_any p zs) e) ∙ h

-- the next one does not pass
pub any_after : {A : Type 0} (p : A → Bool) (x : A) (xs ys : List A) (r : Bool) → list_any p xs ≡ r → xs ≡ x ∷ ys → p x ≡ false → list_any p ys ≡ r
any_after p x xs ys r h e t = sym (ap (λ b. b || list_any p ys) t) ∙ sym (ap (λ zs. list_any p zs) e) ∙ h

-- there is no next one
pub any_end : {A : Type 0} (p : A → Bool) (xs : List A) (r : Bool) → list_any p xs ≡ r → xs ≡ [] → false ≡ r
any_end p xs r h e = sym (ap (λ zs. list_any p zs) e) ∙ h

-- one of two lists
pub any_append : {A : Type 0} (p : A → Bool) (xs ys : List A) → list_any p (xs ++ ys) ≡ (list_any p xs || list_any p ys)
any_append p [] ys = refl
any_append p (x ∷ xs) ys = by_test (p x) (any_append p xs ys)
  where
    by_test : (b : Bool) → list_any p (xs ++ ys) ≡ (list_any p xs || list_any p ys) → (b || list_any p (xs ++ ys)) ≡ ((b || list_any p xs) || list_any p ys)
    by_test true rec = refl
    by_test false rec = rec

-- one of a key
pub any_chain : (p : Version → Bool) (k : KeyId) (vs : List Version) → list_any (λ v. same_key v.key k && p v) vs ≡ list_any p (chain k vs)
any_chain p k [] = refl
any_chain p k (v ∷ vs) = by_test (same_key v.key k) (any_chain p k vs)
  where
    by_test : (b : Bool) → list_any (λ v. same_key v.key k && p v) vs ≡ list_any p (chain k vs)
        → ((b && p v) || list_any (λ v. same_key v.key k && p v) vs) ≡ list_any p (if b then v ∷ chain k vs else chain k vs)
    by_test true rec = ap (λ b. p v || b) rec
    by_test false rec = rec

-- none of all, so none of a key
pub none_of_key : (p : Version → Bool) (k : KeyId) (vs : List Version) → list_any p vs ≡ false → list_any (λ v. same_key v.key k && p v) vs ≡ false
none_of_key p k [] e = refl
none_of_key p k (v ∷ vs) e = by_test (same_key v.key k) (p v) e (none_of_key p k vs)
  where
    by_test : (b c : Bool) → (c || list_any p vs) ≡ false → (list_any p vs ≡ false → list_any (λ v. same_key v.key k && p v) vs ≡ false)
        → ((b && c) || list_any (λ v. same_key v.key k && p v) vs) ≡ false
    by_test true true q rec = absurd cc
    by_test true false q rec = rec q
    by_test false true q rec = absurd cc
    by_test false false q rec = rec q

-- a settled version is not Local
not_local : (tx : TxId) (rs : ℕ) (v : Version) → IsSettled rs v → is_local_of tx v ≡ false
not_local tx rs v s = ap (λ k. of_tx tx v && is_local k) s.0 ∙ by_test (of_tx tx v)
  where
    by_test : (b : Bool) → (b && false) ≡ false
    by_test true = refl
    by_test false = refl

none_local : (tx : TxId) (rs : ℕ) (vs : List Version) → Each (IsSettled rs) vs → list_any (is_local_of tx) vs ≡ false
none_local tx rs [] e = refl
none_local tx rs (v ∷ vs) e = ap (λ b. b || list_any (is_local_of tx) vs) (not_local tx rs v e.0) ∙ none_local tx rs vs e.1

-- so the Local ones are among the others
pub locals_unsettled : (tx : TxId) (rs : ℕ) (vs us ws : List Version) → vs ≡ us ++ ws → Each (IsSettled rs) us → list_any (is_local_of tx) ws ≡ list_any (is_local_of tx) vs
locals_unsettled tx rs vs us ws e s =
    sym (ap (λ xs. list_any (is_local_of tx) xs) e ∙ any_append (is_local_of tx) us ws ∙ ap (λ b. b || list_any (is_local_of tx) ws) (none_local tx rs us s))

-- ---- the key that is held

module _ (vs : List Version) (tx : TxId) where
  -- the first key is held, or the rest decides
  held_first : (w : Write) (ws : List Write) → held_key vs tx (w ∷ ws) ≡ (if list_any (is_local_of tx) (chain w.key vs) then Some w else held_key vs tx ws)
  held_first w ws = ap (λ b. if b then Some w else held_key vs tx ws) (any_chain (is_local_of tx) w.key vs)

  -- the key at this place is held
  pub held_here : (ws : List Write) (i : ℕ) (d : Write) (o : Option Write) → i < length ws → list_any (is_local_of tx) (chain (get_or ws i d).key vs) ≡ true
      → held_key vs tx (drop i ws) ≡ o → Some (get_or ws i d) ≡ o
  held_here ws i d o l t q =
      sym (ap (λ b. if b then Some (get_or ws i d) else held_key vs tx (drop (i + 1) ws)) t) ∙ sym (held_first (get_or ws i d) (drop (i + 1) ws))
      ∙ ap (λ us. held_key vs tx us) (sym (at_place ws i (i + 1) d l refl)) ∙ q

  -- the key at this place is not held
  pub held_later : (ws : List Write) (i : ℕ) (d : Write) (o : Option Write) → i < length ws → list_any (is_local_of tx) (chain (get_or ws i d).key vs) ≡ false
      → held_key vs tx (drop i ws) ≡ o → held_key vs tx (drop (i + 1) ws) ≡ o
  held_later ws i d o l t q =
      sym (ap (λ b. if b then Some (get_or ws i d) else held_key vs tx (drop (i + 1) ws)) t) ∙ sym (held_first (get_or ws i d) (drop (i + 1) ws))
      ∙ ap (λ us. held_key vs tx us) (sym (at_place ws i (i + 1) d l refl)) ∙ q

  -- a key is held where there is a Local version of one of them
  pub held_met : (ws : List Write) → is_some (held_key vs tx ws) ≡ list_any (is_local_of tx) (met ws vs)
  held_met [] = refl
  held_met (w ∷ ws) = ap (λ o. is_some o) (held_first w ws) ∙ by_test (list_any (is_local_of tx) (chain w.key vs)) (held_met ws) ∙ sym (any_append (is_local_of tx) (chain w.key vs) (met ws vs))
    where
      by_test : (b : Bool) → is_some (held_key vs tx ws) ≡ list_any (is_local_of tx) (met ws vs) → is_some (if b then Some w else held_key vs tx ws) ≡ (b || list_any (is_local_of tx) (met ws vs))
      by_test true rec = refl
      by_test false rec = rec

  -- without a Local version no key is held
  pub none_held : (ws : List Write) → list_any (is_local_of tx) vs ≡ false → held_key vs tx ws ≡ None
  none_held [] e = refl
  none_held (w ∷ ws) e = ap (λ b. if b then Some w else held_key vs tx ws) (none_of_key (is_local_of tx) w.key vs e) ∙ none_held ws e
