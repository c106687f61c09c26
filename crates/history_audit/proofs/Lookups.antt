-- What is looked up in a ledger is what the members give.
use Rattle.std.proofs.Math.Bool.{and-true}
use Rattle.std.proofs.Common.{Bool, List, None, Option, Some, [], ap, cond, false, filter, find, inl, inr, is_some, map, nat_le, refl, subst, sym, true, ℕ, ◌&&◌, ◌++◌, ◌∙◌, ◌∷◌, ◌≡◌, ◌||◌}
use Rattle.std.proofs.lemmas.Bool.{and_right}
use Rattle.std.specs.List.{last_or, list_any}
use Rattle.history_audit.specs.Ledgers.{IsLedger, IsRisingChain, IsRisingLedger, chain_of, entry, last_below, look_in, value_of}
use Rattle.history_audit.specs.Orders.{Rising}
use Rattle.history_audit.specs.declared.ledgers.Stamped.{Stamped}
use Rattle.si_laws.specs.Commits.{Member, look_up, written_value}
use Rattle.str_base.specs.Members.{In}
use Rattle.str_base.specs.Versions.{same_key, stamp}
use Rattle.str_base.specs.declared.names.KeyId.{KeyId}
use Rattle.str_base.specs.declared.names.Write.{Write}
use Rattle.str_model.specs.Owned.{wrote_key}

-- some passes where one is found
pub any_found : {A : Type 0} (p : A → Bool) (xs : List A) → list_any p xs ≡ is_some (find p xs)
any_found p [] = refl
any_found p (x ∷ xs) = by_test (p x) (any_found p xs)
  where
    by_test : (b : Bool) → list_any p xs ≡ is_some (find p xs) → (b || list_any p xs) ≡ is_some (cond b (Some x) (find p xs))
    by_test true rec = refl
    by_test false rec = rec

-- a value at or below r
abbrev in_time : ℕ → Stamped → Bool
in_time r s = nat_le s.fc.0 r

-- a member that is final at or below r and wrote the key
abbrev in_snapshot : ℕ → KeyId → Member → Bool
in_snapshot r k m = nat_le m.fc r && wrote_key k m.writes

-- the same of the members so far
abbrev LooksAlike : KeyId → ℕ → List Member → Type 0
LooksAlike k r ms = (o : Option Stamped) (q : Option Member) → value_of o ≡ written_value q k
    → value_of (last_or o (filter (in_time r) (chain_of k ms))) ≡ written_value (last_or q (filter (in_snapshot r k) ms)) k

chain_look : (k : KeyId) (r : ℕ) (ms : List Member) → LooksAlike k r ms
chain_look k r [] o q e = e
chain_look k r (m ∷ ms) o q e = by_find (chain_look k r ms) (find (λ (w : Write). same_key w.key k) m.writes) refl
  where
    passed : LooksAlike k r ms → (b : Bool) → b ≡ false
        → value_of (last_or o (filter (in_time r) (chain_of k ms))) ≡ written_value (last_or q (cond b (m ∷ filter (in_snapshot r k) ms) (filter (in_snapshot r k) ms))) k
    passed rec true f = absurd (cc f)
    passed rec false f = rec o q e

    taken : LooksAlike k r ms → (w : Write) → find (λ (w : Write). same_key w.key k) m.writes ≡ Some w → (t b : Bool) → b ≡ t
        → value_of (last_or o (cond t (record { fc = stamp m.fc; value = w.value } ∷ filter (in_time r) (chain_of k ms)) (filter (in_time r) (chain_of k ms))))
        ≡ written_value (last_or q (cond b (m ∷ filter (in_snapshot r k) ms) (filter (in_snapshot r k) ms))) k
    taken rec w p true true f = rec (Some (record { fc = stamp m.fc; value = w.value })) (Some m) (rw p refl)
    taken rec w p true false f = absurd (cc f)
    taken rec w p false true f = absurd (cc f)
    taken rec w p false false f = rec o q e

    by_find : LooksAlike k r ms → (f : Option Write) → find (λ (w : Write). same_key w.key k) m.writes ≡ f
        → value_of (last_or o (filter (in_time r) (entry (stamp m.fc) f ++ chain_of k ms))) ≡ written_value (last_or q (filter (in_snapshot r k) (m ∷ ms))) k
    by_find rec None p =
        passed rec (nat_le m.fc r && wrote_key k m.writes) (and_right (nat_le m.fc r) (wrote_key k m.writes) (any_found (λ (w : Write). same_key w.key k) m.writes ∙ ap is_some p))
    by_find rec (Some w) p =
        taken rec w p (nat_le m.fc r) (nat_le m.fc r && wrote_key k m.writes)
        (ap (λ b. nat_le m.fc r && b) (any_found (λ (w : Write). same_key w.key k) m.writes ∙ ap is_some p) ∙ and-true (nat_le m.fc r))

-- look-ups in the ledger of members are those in the members
pub look_same : (chains : List (List Stamped)) (ms : List Member) (r : ℕ) → IsLedger chains ms → look_in chains r ≡ look_up ms r
look_same chains ms r h = λ i k. (ap (λ chain. last_below chain r) (h k) ∙ chain_look k r ms None None refl) i

in_chain : (k : KeyId) (ms : List Member) (n : ℕ) → In n (map (λ (s : Stamped). s.fc.0) (chain_of k ms)) → In n (map (λ (m : Member). m.fc) ms)
in_chain k [] n h = absurd h
in_chain k (m ∷ ms) n h = by_find (in_chain k ms n) (find (λ (w : Write). same_key w.key k) m.writes) h
  where
    by_find : (In n (map (λ (s : Stamped). s.fc.0) (chain_of k ms)) → In n (map (λ (m : Member). m.fc) ms)) → (f : Option Write) → In n (map (λ (s : Stamped). s.fc.0) (entry (stamp m.fc) f ++ chain_of k ms)) → In n (m.fc ∷ map (λ (m : Member). m.fc) ms)
    by_find rec None g = inr (rec g)
    by_find rec (Some w) (inl e) = inl e
    by_find rec (Some w) (inr g) = inr (rec g)

pub rising_chain : (k : KeyId) (ms : List Member) → Rising (map (λ (m : Member). m.fc) ms) → IsRisingChain (chain_of k ms)
rising_chain k [] r = tt
rising_chain k (m ∷ ms) r = by_find (rising_chain k ms r.1) (find (λ (w : Write). same_key w.key k) m.writes)
  where
    by_find : IsRisingChain (chain_of k ms) → (f : Option Write) → IsRisingChain (entry (stamp m.fc) f ++ chain_of k ms)
    by_find rec None = rec
    by_find rec (Some w) = (λ n h. r.0 n (in_chain k ms n h), rec)

-- a ledger of members in order is in order
pub rising_ledger : (chains : List (List Stamped)) (ms : List Member) → IsLedger chains ms → Rising (map (λ (m : Member). m.fc) ms) → IsRisingLedger chains
rising_ledger chains ms h r = λ k. subst IsRisingChain (sym (h k)) (rising_chain k ms r)
