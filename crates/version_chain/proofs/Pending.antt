-- What is still to be done of the list of a transaction.
use Rattle.std.proofs.Common.{Bool, List, None, Option, Some, [], ap, arith, false, if◌then◌else◌, inl, inr, length, refl, subst, sym, true, ℕ, ◌<◌, ◌==◌, ◌||◌, ◌∙◌, ◌∷◌, ◌≡◌, ◌⊎◌}
use Rattle.std.proofs.lemmas.Bool.Decides.{nat_tests}
use Rattle.str_base.specs.declared.names.PartId.{PartId}
use Rattle.str_base.specs.declared.names.TxId.{TxId}
use Rattle.str_base.specs.declared.names.Version.{Version}
use Rattle.str_base.specs.Versions.{of_pair, of_tx, same_part, same_tx}
use Rattle.link_arena.specs.Arenas.{AreLists, ArenaView, at, next_of, tx_list}
use Rattle.link_arena.specs.OneSide.{is_named}
use Rattle.link_arena.specs.Rows.{IsPlace, Once, first_or, is_in, taken}
use Rattle.link_arena.proofs.ArenaLemmas.{has_tx}
use Rattle.version_chain.specs.Flat.{beyond, flat, from_slot}
use Rattle.version_chain.proofs.Flats.{flat_found}
use Rattle.str_base.proofs.Members.{In}
use Rattle.std.proofs.lemmas.Bool.{and_parts}
use Rattle.link_arena.proofs.Listed.{first_place, next_place}
use Rattle.link_arena.proofs.RowLemmas.{apart_from, deeper}

-- each version that fits is in one of these slots, or is done with
pub record IsPending (f : ℕ → Option Version) (test : Version → Bool) (Done : Version → Type 0) (ss : List ℕ) : Type 0 where
  pub each : (u : ℕ) (v : Version) → f u ≡ Some v → test v ≡ true → (is_in u ss ≡ true) ⊎ Done v

-- ---- what follows a slot

pub from_first : (ss : List ℕ) → from_slot (first_or None ss) ss ≡ ss
from_first [] = refl
from_first (u ∷ us) = let e : (u == u) ≡ true = grind (arith, nat_tests) in ap (λ (b : Bool). if b then u ∷ us else from_slot (Some u) us) e

pub from_is : (s : ℕ) (ss : List ℕ) → is_in s ss ≡ true → from_slot (Some s) ss ≡ s ∷ beyond (Some s) ss
from_is s [] h = absurd (cc)
from_is s (u ∷ us) h = by_test (s == u) refl h (λ k. from_is s us k)
  where
    by_test : (b : Bool) → (s == u) ≡ b → (b || is_in s us) ≡ true → (is_in s us ≡ true → from_slot (Some s) us ≡ s ∷ beyond (Some s) us)
        → (if b then u ∷ us else from_slot (Some s) us) ≡ s ∷ (if b then us else beyond (Some s) us)
    by_test true e h rec = let q : s ≡ u = grind (arith, nat_tests) in ap (λ (x : ℕ). x ∷ us) (sym q)
    by_test false e h rec = rec h

skip_from : (o : Option ℕ) (u : ℕ) (us ws : List ℕ) → is_in u us ≡ false → IsPlace o us → from_slot o (u ∷ ws) ≡ from_slot o ws
skip_from None u us ws n h = refl
skip_from (Some x) u us ws n h = ap (λ (b : Bool). if b then u ∷ ws else from_slot (Some x) ws) (apart_from x u us n h)

pub from_next : (s : ℕ) (ss : List ℕ) → Once ss → from_slot (next_of s ss) ss ≡ beyond (Some s) ss
from_next s [] o = refl
from_next s (u ∷ us) o = by_test (s == u) (from_next s us o.1)
  where
    by_test : (b : Bool) → from_slot (next_of s us) us ≡ beyond (Some s) us → from_slot (if b then first_or None us else next_of s us) (u ∷ us) ≡ (if b then us else beyond (Some s) us)
    by_test true rec = skip_from (first_or None us) u us us o.0 (first_place us) ∙ from_first us
    by_test false rec = skip_from (next_of s us) u us us o.0 (next_place s us) ∙ rec

-- the same where the slot itself is taken out
pub from_taken : (s : ℕ) (ss : List ℕ) → Once ss → from_slot (next_of s ss) (taken s ss) ≡ beyond (Some s) ss
from_taken s [] o = refl
from_taken s (u ∷ us) o = by_test (s == u) (from_taken s us o.1)
  where
    by_test : (b : Bool) → from_slot (next_of s us) (taken s us) ≡ beyond (Some s) us
        → from_slot (if b then first_or None us else next_of s us) (if b then us else u ∷ taken s us) ≡ (if b then us else beyond (Some s) us)
    by_test true rec = from_first us
    by_test false rec = skip_from (next_of s us) u us (taken s us) o.0 (next_place s us) ∙ rec

pub next_place_taken : (s : ℕ) (ss : List ℕ) → IsPlace (next_of s ss) (taken s ss)
next_place_taken s [] = tt
next_place_taken s (u ∷ us) = by_test (s == u) (next_place_taken s us)
  where
    more : (o : Option ℕ) → IsPlace o (taken s us) → IsPlace o (u ∷ taken s us)
    more None h = tt
    more (Some x) h = deeper x u (taken s us) h

    by_test : (b : Bool) → IsPlace (next_of s us) (taken s us) → IsPlace (if b then first_or None us else next_of s us) (if b then us else u ∷ taken s us)
    by_test true rec = first_place us
    by_test false rec = more (next_of s us) rec

-- a slot and what follows it, where the list is changed to another
pub rest_is : (ts us : List ℕ) (s : ℕ) (o p : Option ℕ) → o ≡ Some s → is_in s ts ≡ true → p ≡ next_of s ts → from_slot (next_of s ts) us ≡ beyond (Some s) ts → from_slot o ts ≡ s ∷ from_slot p us
rest_is ts us s o p e h q r =
    ap (λ (x : Option ℕ). from_slot x ts) e ∙ from_is s ts h ∙ ap (λ (ws : List ℕ). s ∷ ws) (sym r ∙ ap (λ (x : Option ℕ). from_slot x us) (sym q))

-- fewer are left
pub one_less : (xs ys : List ℕ) (s : ℕ) → xs ≡ s ∷ ys → length ys < length xs
one_less xs ys s e = let l = ap (λ (ws : List ℕ). length ws) e in omega (arith, l)

-- ---- the slots of a transaction

module _ (Done : Version → Type 0) where
  -- at first all slots of the transaction are pending
  pub pending_first : (a : ArenaView) (t : TxId) (p : PartId) (o : Option ℕ) → AreLists a → o ≡ first_or None (tx_list a t) → IsPending (at a) (of_pair t p) Done (from_slot o (tx_list a t))
  pending_first a t p o l e = record {
    each = λ u v q h.
        let own : of_tx t v ≡ true = (and_parts (same_tx v.tx t) (same_part v.part p) h).0 in
        let listed : is_in u (tx_list a t) ≡ true = l.in_tx t u ∙ ap (λ x. is_named of_tx t x) q ∙ own in
        inl (subst (λ (ws : List ℕ). is_in u ws ≡ true) (sym (ap (λ x. from_slot x (tx_list a t)) e ∙ from_first (tx_list a t))) listed);
  }

  -- the first of them is done with
  pub pending_step : (f g : ℕ → Option Version) (test : Version → Bool) (s : ℕ) (ss ws : List ℕ) → IsPending f test Done ss → ss ≡ s ∷ ws → ((u : ℕ) → (u == s) ≡ false → g u ≡ f u)
      → ((v : Version) → g s ≡ Some v → test v ≡ true → Done v) → IsPending g test Done ws
  pending_step f g test s ss ws p is same done = record { each = λ u v e h. by_test u v e h (u == s) refl }
    where
      later : (u : ℕ) → (u == s) ≡ false → is_in u ss ≡ true → is_in u ws ≡ true
      later u q i = sym (ap (λ (b : Bool). b || is_in u ws) q) ∙ sym (ap (λ (xs : List ℕ). is_in u xs) is) ∙ i

      by_test : (u : ℕ) (v : Version) → g u ≡ Some v → test v ≡ true → (b : Bool) → (u == s) ≡ b → (is_in u ws ≡ true) ⊎ Done v
      by_test u v e h true q = let r : u ≡ s = grind (arith, nat_tests) in inr (done v (sym (ap g r) ∙ e) h)
      by_test u v e h false q = elim (p.each u v (sym (same u q) ∙ e) h) [ inl i ↦ inl (later u q i) | inr d ↦ inr d ]

-- nothing is pending, and nothing was done: none fits
pub none_fits : (a : ArenaView) (test : Version → Bool) (ss : List ℕ) → IsPending (at a) test (λ v. ⊥) ss → ss ≡ [] → (v : Version) → In v (flat a) → test v ≡ false
none_fits a test ss p e v i = by_test (test v) refl
  where
    by_test : (b : Bool) → test v ≡ b → b ≡ false
    by_test false h = refl
    by_test true h = let r = flat_found a v i in elim (p.each r.0 v r.1 h) [ inl k ↦ (let q = sym (ap (λ (ws : List ℕ). is_in r.0 ws) e) ∙ k in absurd (cc)) | inr n ↦ absurd n ]

-- nothing is pending: each that fits is done
pub all_done : (a : ArenaView) (test : Version → Bool) (Done : Version → Type 0) (ss : List ℕ) → IsPending (at a) test Done ss → ss ≡ [] → (v : Version) → In v (flat a) → test v ≡ true → Done v
all_done a test Done ss p e v i h = let r = flat_found a v i in elim (p.each r.0 v r.1 h) [ inl k ↦ (let q = sym (ap (λ (ws : List ℕ). is_in r.0 ws) e) ∙ k in absurd (cc)) | inr d ↦ d ]

-- ---- the version of a slot

pub unfit : (f : ℕ → Option Version) (test : Version → Bool) (s : ℕ) (v x : Version) → f s ≡ Some v → f s ≡ Some x → test v ≡ false → test x ≡ true → ⊥
unfit f test s v x e d n t = let q : v ≡ x = cc (sym e ∙ d) in let r = ap test q in absurd (cc)

pub vacant_at : (f : ℕ → Option Version) (s : ℕ) (x : Version) → f s ≡ None → f s ≡ Some x → ⊥
vacant_at f s x e d = let q = sym e ∙ d in absurd (cc)

-- the list of the transaction itself
pub one_list : (t : TxId) (v : Version) (more was us : List ℕ) → v.tx ≡ t → us ≡ (if of_tx t v then more else was) → us ≡ more
one_list t v more was us e q = q ∙ ap (λ (b : Bool). if b then more else was) (subst (λ x. of_tx x v ≡ true) e (has_tx v))
