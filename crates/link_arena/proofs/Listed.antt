-- The slots that stand in lists, and where a walk along a list goes.
use Rattle.std.proofs.Common.{Bool, IsSome, List, None, Option, Some, [], ap, arith, false, if◌then◌else◌, not, refl, subst, sym, true, ℕ, ◌==◌, ◌∙◌, ◌∷◌, ◌≡◌}
use Rattle.std.proofs.lemmas.Bool.{and_from}
use Rattle.std.proofs.lemmas.Bool.Decides.{nat_tests}
use Rattle.str_base.specs.declared.names.KeyId.{KeyId}
use Rattle.str_base.specs.declared.names.TxId.{TxId}
use Rattle.str_base.specs.declared.names.Version.{Version}
use Rattle.str_base.specs.Versions.{of_tx}
use Rattle.link_arena.specs.Arenas.{AreLists, ArenaView, at, key_list, next_of, tx_list}
use Rattle.link_arena.specs.HeadLists.{key_names}
use Rattle.link_arena.specs.NameOrders.{key_one, tx_one}
use Rattle.link_arena.specs.OneSide.{is_named}
use Rattle.link_arena.specs.Rows.{IsPlace, first_or, is_at, is_in, taken}
use Rattle.link_arena.proofs.ArenaLemmas.{has_key, has_tx}
use Rattle.link_arena.proofs.RowLemmas.{deeper, here, in_taken}

-- a slot with a name has a version
named_some : {N : Type 0} (names : N → Version → Bool) (k : N) (o : Option Version) → is_named names k o ≡ true → IsSome o
named_some names k None h = absurd (cc)
named_some names k (Some v) h = refl

-- the slots of a key have versions of it
pub there : (a : ArenaView) → AreLists a → (k : KeyId) (u : ℕ) → is_in u (key_list a k) ≡ true → IsSome (at a u)
there a l k u h = named_some key_names k (at a u) (sym (l.in_key k u) ∙ h)

pub key_there : (a : ArenaView) → AreLists a → (k : KeyId) (s : ℕ) (w : Version) → is_in s (key_list a k) ≡ true → at a s ≡ Some w → w.key ≡ k
key_there a l k s w i e =
    let named : key_names k w ≡ true = ap (λ o. is_named key_names k o) (sym e) ∙ sym (l.in_key k s) ∙ i in
    key_one w.key k w (has_key w) named

-- the slots of a transaction have versions of it
pub tx_there : (a : ArenaView) → AreLists a → (t : TxId) (u : ℕ) → is_in u (tx_list a t) ≡ true → IsSome (at a u)
tx_there a l t u h = named_some of_tx t (at a u) (sym (l.in_tx t u) ∙ h)

pub tx_is : (a : ArenaView) → AreLists a → (t : TxId) (u : ℕ) (v : Version) → is_in u (tx_list a t) ≡ true → at a u ≡ Some v → v.tx ≡ t
tx_is a l t u v h e = tx_one v.tx t v (has_tx v) (ap (λ o. is_named of_tx t o) (sym e) ∙ sym (l.in_tx t u) ∙ h)

-- the first slot of a list is in it, and so is the one after a slot
pub first_place : (us : List ℕ) → IsPlace (first_or None us) us
first_place [] = tt
first_place (u ∷ us) = here u us

pub next_place : (s : ℕ) (ss : List ℕ) → IsPlace (next_of s ss) ss
next_place s [] = tt
next_place s (u ∷ us) = by_test (s == u) (next_place s us)
  where
    more : (o : Option ℕ) → IsPlace o us → IsPlace o (u ∷ us)
    more None h = tt
    more (Some x) h = deeper x u us h

    by_test : (b : Bool) → IsPlace (next_of s us) us → IsPlace (if b then first_or None us else next_of s us) (u ∷ us)
    by_test true rec = more (first_or None us) (first_place us)
    by_test false rec = more (next_of s us) rec

-- a walk along a list stays in it
pub key_next : (a : ArenaView) → AreLists a → (k : KeyId) (s : ℕ) (o : Option ℕ) → is_in s (key_list a k) ≡ true
    → ((v : Version) → at a s ≡ Some v → o ≡ next_of s (key_list a v.key)) → IsPlace o (key_list a k)
key_next a l k s o i n = by_version (at a s) refl (there a l k s i)
  where
    by_version : (w : Option Version) → at a s ≡ w → IsSome w → IsPlace o (key_list a k)
    by_version None e p = absurd (cc)
    by_version (Some v) e p =
        let q : o ≡ next_of s (key_list a k) = n v e ∙ ap (λ (m : KeyId). next_of s (key_list a m)) (key_there a l k s v i e) in
        subst (λ (x : Option ℕ). IsPlace x (key_list a k)) (sym q) (next_place s (key_list a k))

pub tx_next : (a : ArenaView) → AreLists a → (t : TxId) (s : ℕ) (o : Option ℕ) → is_in s (tx_list a t) ≡ true
    → ((v : Version) → at a s ≡ Some v → o ≡ next_of s (tx_list a v.tx)) → IsPlace o (tx_list a t)
tx_next a l t s o i n = by_version (at a s) refl (tx_there a l t s i)
  where
    by_version : (w : Option Version) → at a s ≡ w → IsSome w → IsPlace o (tx_list a t)
    by_version None e p = absurd (cc)
    by_version (Some v) e p =
        let q : o ≡ next_of s (tx_list a t) = n v e ∙ ap (λ (m : TxId). next_of s (tx_list a m)) (tx_is a l t s v i e) in
        subst (λ (x : Option ℕ). IsPlace x (tx_list a t)) (sym q) (next_place s (tx_list a t))

-- a place that is not the slot's own is one of the list without the slot
pub place_apart : (a : ArenaView) → AreLists a → (k : KeyId) (s : ℕ) (o : Option ℕ) (v : Version) → is_in s (key_list a k) ≡ true → at a s ≡ Some v → IsPlace o (key_list a k) → is_at o s ≡ false
    → IsPlace o (taken s (key_list a v.key))
place_apart a l k s o v i e p n = subst (λ (m : KeyId). IsPlace o (taken s (key_list a m))) (sym (key_there a l k s v i e)) (by_place o p n)
  where
    by_place : (x : Option ℕ) → IsPlace x (key_list a k) → is_at x s ≡ false → IsPlace x (taken s (key_list a k))
    by_place None p n = tt
    by_place (Some t) p n =
        let q : (t == s) ≡ false = grind (arith, nat_tests) in
        in_taken t s (key_list a k) (l.once_in_key k) ∙ and_from (is_in t (key_list a k)) (not (t == s)) p (ap not q)
