-- The value of a key after members of a commit list: with one more, and against what a snapshot shows.
use Rattle.std.proofs.Common.{Bool, List, None, Option, Some, [], ap, arith, false, filter, find, if◌then◌else◌, inl, inr, le-leb, leb-true, nat_le, pos, refl, subst, suc, take, true, ℕ, ◌&&◌, ◌++◌, ◌+◌, ◌-◌, ◌<◌, ◌∙◌, ◌∷◌, ◌≡◌, ◌≤◌}
use Rattle.std.specs.List.{last_or}
use Rattle.str_base.proofs.SameNames.{same_key-is}
use Rattle.str_base.specs.declared.names.KeyId.{KeyId}
use Rattle.str_base.specs.declared.names.TxId.{TxId}
use Rattle.str_base.specs.declared.names.Value.TheVariants.{Absent, Num}
use Rattle.str_base.specs.declared.names.Write.{Write}
use Rattle.str_base.specs.Members.{In}
use Rattle.str_base.specs.Versions.{same_key}
use Rattle.str_model.specs.Evaluation.{write_or}
use Rattle.str_model.specs.Owned.{wrote_key}
use Rattle.si_laws.specs.Commits.{Member, fc_before, look_up, written_value}
use Rattle.si_laws.proofs.CommitLists.AnswerAdded.{lower_before, not_both}
use Rattle.si_laws.proofs.CommitLists.CommitMembers.{filter_none, le_or_above}
use Rattle.si_laws.proofs.CommitLists.SnapshotValues.{Ordered}
use Rattle.bank_book.specs.Balances.{value_after}
use Rattle.bank_book.proofs.AccountSums.{after}

-- ---- one more member

last_passes : (test : Member → Bool) (o : Option Member) (xs : List Member) (x : Member) → test x ≡ true → last_or o (filter test (xs ++ x ∷ [])) ≡ Some x
last_passes test o [] x e = rw e refl
last_passes test o (y ∷ xs) x e = by_test (test y) (λ p. last_passes test p xs x e)
  where
    by_test : (t : Bool) → ((p : Option Member) → last_or p (filter test (xs ++ x ∷ [])) ≡ Some x)
        → last_or o (if t then y ∷ filter test (xs ++ x ∷ []) else filter test (xs ++ x ∷ [])) ≡ Some x
    by_test true r = r (Some y)
    by_test false r = r o

last_fails : (test : Member → Bool) (o : Option Member) (xs : List Member) (x : Member) → test x ≡ false → last_or o (filter test (xs ++ x ∷ [])) ≡ last_or o (filter test xs)
last_fails test o [] x e = rw e refl
last_fails test o (y ∷ xs) x e = by_test (test y) (λ p. last_fails test p xs x e)
  where
    by_test : (t : Bool) → ((p : Option Member) → last_or p (filter test (xs ++ x ∷ [])) ≡ last_or p (filter test xs))
        → last_or o (if t then y ∷ filter test (xs ++ x ∷ []) else filter test (xs ++ x ∷ [])) ≡ last_or o (if t then y ∷ filter test xs else filter test xs)
    by_test true r = r (Some y)
    by_test false r = r o

-- what it wrote
pub value_wrote : (past : List Member) (m : Member) (k : KeyId) → wrote_key k m.writes ≡ true → value_after (past ++ m ∷ []) k ≡ write_or (find (λ (w : Write). same_key w.key k) m.writes) Absent
value_wrote past m k e = ap (λ o. written_value o k) (last_passes (λ (u : Member). wrote_key k u.writes) None past m e)

-- and what it didn't
pub value_kept : (past : List Member) (m : Member) (k : KeyId) → wrote_key k m.writes ≡ false → value_after (past ++ m ∷ []) k ≡ value_after past k
value_kept past m k e = ap (λ o. written_value o k) (last_fails (λ (u : Member). wrote_key k u.writes) None past m e)

-- after a member that took v from x for y
abbrev pub both : KeyId → KeyId → ℕ → ℕ → List Write
both x y a b = record { key = x; value = Num (pos a) } ∷ record { key = y; value = Num (pos b) } ∷ []

pub paid_value : (past : List Member) (m : Member) (x y : KeyId) (v : ℕ) (has : KeyId → ℕ) (k : KeyId) → m.writes ≡ both x y (has x - v) (has y + v)
    → value_after past k ≡ Num (pos (has k)) → value_after (past ++ m ∷ []) k ≡ Num (pos (after x y v has k))
paid_value past m x y v has k w h = by_payer (same_key x k) refl
  where
    of_writes : wrote_key k (both x y (has x - v) (has y + v)) ≡ true
        → value_after (past ++ m ∷ []) k ≡ write_or (find (λ (u : Write). same_key u.key k) (both x y (has x - v) (has y + v))) Absent
    of_writes e = value_wrote past m k (ap (wrote_key k) w ∙ e) ∙ ap (λ (z : List Write). write_or (find (λ (u : Write). same_key u.key k) z) Absent) w

    by_payee : same_key x k ≡ false → (t : Bool) → same_key y k ≡ t → value_after (past ++ m ∷ []) k ≡ Num (pos (after x y v has k))
    by_payee e true f = of_writes (rw (e, f) refl) ∙ rw (e, f) (ap (λ (z : KeyId). Num (pos (has z + v))) (same_key-is y k f))
    by_payee e false f = value_kept past m k (ap (wrote_key k) w ∙ rw (e, f) refl) ∙ (h ∙ rw (e, f) refl)

    by_payer : (t : Bool) → same_key x k ≡ t → value_after (past ++ m ∷ []) k ≡ Num (pos (after x y v has k))
    by_payer true e = of_writes (rw e refl) ∙ rw e (ap (λ (z : KeyId). Num (pos (has z - v))) (same_key-is x k e))
    by_payer false e = by_payee e (same_key y k) refl

-- ---- what a snapshot shows

filter_alike : (p q : Member → Bool) (xs : List Member) → ((x : Member) → In x xs → p x ≡ q x) → filter p xs ≡ filter q xs
filter_alike p q [] h = refl
filter_alike p q (x ∷ xs) h = by_tests (p x) (q x) (h x (inl refl)) (filter_alike p q xs (λ y i. h y (inr i)))
  where
    by_tests : (s t : Bool) → s ≡ t → filter p xs ≡ filter q xs → (if s then x ∷ filter p xs else filter p xs) ≡ (if t then x ∷ filter q xs else filter q xs)
    by_tests true true e r = ap (λ ys. x ∷ ys) r
    by_tests true false e r = absurd (cc e)
    by_tests false true e r = absurd (cc e)
    by_tests false false e r = r

both_tests : (b w : Bool) → (w ≡ true → b ≡ true) → (b && w) ≡ w
both_tests true w h = refl
both_tests false true h = let e : false ≡ true = h refl in absurd (cc e)
both_tests false false h = refl

-- where all that wrote the key are final at or below the snapshot, it shows the value after all of them
pub look_after : (past : List Member) (r : ℕ) (k : KeyId) → ((m : Member) → In m past → wrote_key k m.writes ≡ true → m.fc ≤ r) → look_up past r k ≡ value_after past k
look_after past r k h =
    ap (λ ms. written_value (last_or None ms) k) (filter_alike (λ (m : Member). nat_le m.fc r && wrote_key k m.writes) (λ (m : Member). wrote_key k m.writes) past
    (λ m i. both_tests (nat_le m.fc r) (wrote_key k m.writes) (λ e. le-leb m.fc r (h m i e))))

pub fc_le : (f g : ℕ) (t u : TxId) → fc_before f t g u ≡ true → f ≤ g
fc_le f g t u e = elim (le_or_above f g) [
  | inl h ↦ h
  | inr h ↦ (let p : fc_before g u f t ≡ true = lower_before g f u t h in let q : fc_before g u f t ≡ false = not_both f g t u e in absurd (cc (p, q)))
]

-- the members at or below a snapshot are the first ones
pub record Front (ms : List Member) (r : ℕ) : Type 0 where
  pub size : ℕ
  pub same : (k : KeyId) → filter (λ (m : Member). nat_le m.fc r && wrote_key k m.writes) ms ≡ filter (λ (m : Member). wrote_key k m.writes) (take size ms)

above_fails : (r : ℕ) (k : KeyId) (x : Member) → r < x.fc → (nat_le x.fc r && wrote_key k x.writes) ≡ false
above_fails r k x h = by_test (nat_le x.fc r) refl
  where
    by_test : (t : Bool) → nat_le x.fc r ≡ t → (t && wrote_key k x.writes) ≡ false
    by_test true e = let l : x.fc ≤ r = leb-true x.fc r e in absurd (omega arith)
    by_test false e = refl

pub front : (ms : List Member) (r : ℕ) → Ordered ms → Front ms r
front [] r o = record { size = 0; same = λ k. refl }
front (m ∷ ms) r o = elim (le_or_above m.fc r) [ inl h ↦ more h (front ms r o.1) | inr h ↦ none h ]
  where
    above : r < m.fc → (x : Member) → In x (m ∷ ms) → r < x.fc
    above h x (inl e) = subst (λ (z : Member). r < z.fc) e h
    above h x (inr i) = let l : m.fc ≤ x.fc = fc_le m.fc x.fc m.tx x.tx (o.0 x i) in omega arith

    none : r < m.fc → Front (m ∷ ms) r
    none h = record { size = 0; same = λ k. filter_none (λ (x : Member). nat_le x.fc r && wrote_key k x.writes) (m ∷ ms) (λ x i. above_fails r k x (above h x i)) }

    one_more : (k : KeyId) (s t : Bool) (xs ys : List Member) → s ≡ t → xs ≡ ys → (if s then m ∷ xs else xs) ≡ (if t then m ∷ ys else ys)
    one_more k true true xs ys e r = ap (λ zs. m ∷ zs) r
    one_more k true false xs ys e r = absurd (cc e)
    one_more k false true xs ys e r = absurd (cc e)
    one_more k false false xs ys e r = r

    more : m.fc ≤ r → Front ms r → Front (m ∷ ms) r
    more h f = record {
      size = suc f.size;
      same = λ k. one_more k (nat_le m.fc r && wrote_key k m.writes) (wrote_key k m.writes) (filter (λ (x : Member). nat_le x.fc r && wrote_key k x.writes) ms)
          (filter (λ (x : Member). wrote_key k x.writes) (take f.size ms)) (both_tests (nat_le m.fc r) (wrote_key k m.writes) (λ e. le-leb m.fc r h)) (f.same k);
    }

-- so it shows the values after those
pub look_front : (ms : List Member) (r : ℕ) (f : Front ms r) (k : KeyId) → look_up ms r k ≡ value_after (take f.size ms) k
look_front ms r f k = ap (λ xs. written_value (last_or None xs) k) (f.same k)
