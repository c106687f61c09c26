-- The first transaction that is neither a transfer nor a statement, session after session.
use Rattle.std.proofs.Common.{Bool, List, Some, add-one, ap, arith, eqb-true, false, get_or, inl, inr, length, refl, sum_by, slice_get, subst, suc, sym, true, zero, ℕ, ◌+◌, ◌<◌, ◌==◌, ◌∙◌, ◌≡◌, ◌≢◌, ◌≤◌, ◌⊎◌}
use Rattle.std.proofs.lemmas.List.Sums.{get_or-le-sum_by}
use Rattle.std.proofs.lemmas.Option.{slice_get-get_or, slice_get_within}
use Rattle.str_base.specs.declared.limits.TheConstants.{TRANSACTIONS}
use Rattle.str_base.specs.declared.names.KeyId.{KeyId}
use Rattle.str_scene.specs.declared.names.Op.{Op}
use Rattle.str_scene.specs.declared.names.TxPlace.{TxPlace}
use Rattle.str_scene.specs.SceneLimits.{IsScene}
use Rattle.str_scene.specs.Scenes.{Scene, Session, nth}
use Rattle.bank_book.specs.BankScenes.{Fits, HasScript, opening_place}
use Rattle.bank_book.specs.Books.{AllFit, AllFitIn, ComesBefore, IsFirstIn, IsFirstUnfit, skipped}

pub place_by_numbers : (p : TxPlace) → p.session.0 ≡ 1 → p.index ≡ 1 → p ≡ opening_place
place_by_numbers p e f = λ j. record { session = record { 0 = e j }; index = f j }

nth_at : {X : Type 0} (xs : List X) (n : ℕ) (x : X) → nth xs n ≡ Some x → (a : ℕ) × (n ≡ suc a) × (slice_get xs a ≡ Some x)
nth_at xs zero x e = absurd (cc e)
nth_at xs (suc a) x e = (a, refl, e)

not_zero : (a : ℕ) → (suc a == 0) ≡ false
not_zero a = by_test (suc a == 0) refl
  where
    by_test : (t : Bool) → (suc a == 0) ≡ t → (suc a == 0) ≡ false
    by_test true e = let q : suc a ≡ 0 = eqb-true (suc a) 0 e in absurd (cc q)
    by_test false e = e

-- later sessions have no opening
skipped_later : (a : ℕ) → skipped (suc a) ≡ 0
skipped_later a = rw (not_zero a) refl

-- a place after the opening is past what is skipped
past_opening : (p : TxPlace) (a b : ℕ) → p.session.0 ≡ suc a → p.index ≡ suc b → p ≢ opening_place → skipped a ≤ b
past_opening p zero zero e f n = absurd (n (place_by_numbers p e f))
past_opening p zero (suc b) e f n = omega arith
past_opening p (suc a) b e f n = let z : skipped (suc a) ≡ 0 = skipped_later a in subst (λ m. m ≤ b) (sym z) (omega arith)

not_opening : (j n : ℕ) → suc j ≡ 1 → n ≡ 1 → skipped j < n → ⊥
not_opening zero n e f h = omega arith
not_opening (suc j) n e f h = omega arith

-- all that was looked at fits
abbrev pub Passed : List KeyId → List Session → ℕ → Type 0
Passed accounts sessions j = (a : ℕ) (s : Session) → a < j → slice_get sessions a ≡ Some s → AllFitIn accounts s.txs (skipped a)

pub all_fit_here : (scene : Scene) (accounts : List KeyId) → ((a : ℕ) (s : Session) → slice_get scene.sessions a ≡ Some s → AllFitIn accounts s.txs (skipped a)) → AllFit scene accounts
all_fit_here scene accounts h place script r n =
    let u = nth_at scene.sessions place.session.0 r.0 r.1 in
    let v = nth_at r.0.txs place.index script r.2 in
    h u.0 r.0 u.2 v.0 script (past_opening place u.0 v.0 u.1 v.1 n) v.2

smaller : (p q a j : ℕ) → p < q → p ≡ suc a → q ≡ suc j → a < j
smaller p q a j l e f = omega arith

same_number : (p q a j : ℕ) → p ≡ q → p ≡ suc a → q ≡ suc j → a ≡ j
same_number p q a j l e f = omega arith

next_below : (p n b : ℕ) → p < n → p ≡ suc b → b + 1 < n
next_below p n b l e = omega arith

pub first_here : (scene : Scene) (accounts : List KeyId) (j : ℕ) (s : Session) (place : TxPlace) → place.session.0 ≡ suc j → slice_get scene.sessions j ≡ Some s
    → Passed accounts scene.sessions j → IsFirstIn accounts s.txs (skipped j) place.index → IsFirstUnfit scene accounts place
first_here scene accounts j s place e h passed r = record {
  script = r.script;
  there = (s, subst (λ n. nth scene.sessions n ≡ Some s) (sym e) h, r.there);
  after = λ q. not_opening j place.index (sym e ∙ ap (λ (z : TxPlace). z.session.0) q) (ap (λ (z : TxPlace). z.index) q) r.after;
  unfit = r.unfit;
  first = earlier;
}
  where
    earlier : (p : TxPlace) (other : List Op) → HasScript scene p other → ComesBefore p place → p ≢ opening_place → Fits accounts other
    earlier p other k c n = by_order c
      where
        u : (a : ℕ) × (p.session.0 ≡ suc a) × (slice_get scene.sessions a ≡ Some k.0)
        u = nth_at scene.sessions p.session.0 k.0 k.1

        v : (b : ℕ) × (p.index ≡ suc b) × (slice_get k.0.txs b ≡ Some other)
        v = nth_at k.0.txs p.index other k.2

        fits_same : u.0 ≡ j → p.index < place.index → Fits accounts other
        fits_same q l =
            let t : Some k.0 ≡ Some s = sym u.2 ∙ (ap (slice_get scene.sessions) q ∙ h) in
            let same : k.0 ≡ s = cc t in
            r.first v.0 other (subst (λ m. skipped m ≤ v.0) q (past_opening p u.0 v.0 u.1 v.1 n)) (next_below p.index place.index v.0 l v.1)
            (subst (λ (z : Session). slice_get z.txs v.0 ≡ Some other) same v.2)

        by_order : ComesBefore p place → Fits accounts other
        by_order (inl l) = passed u.0 k.0 (smaller p.session.0 place.session.0 u.0 j l u.1 e) u.2 v.0 other (past_opening p u.0 v.0 u.1 v.1 n) v.2
        by_order (inr l) = fits_same (same_number p.session.0 place.session.0 u.0 j l.0 u.1 e) l.1

-- ---- in one session

-- all scripts before this one fit
abbrev pub FitBefore : List KeyId → List (List Op) → ℕ → ℕ → Type 0
FitBefore accounts txs skips i = (j : ℕ) (script : List Op) → skips ≤ j → j < i → slice_get txs j ≡ Some script → Fits accounts script

below_next : (j i : ℕ) → j + 1 < i + 1 → j < i
below_next j i h = omega arith

above_skipped : (s i : ℕ) → s ≤ i → s < i + 1
above_skipped s i h = omega arith

pub first_in : (accounts : List KeyId) (txs : List (List Op)) (skips i : ℕ) (script : List Op) → FitBefore accounts txs skips i → i < length txs → script ≡ get_or txs i script → skips ≤ i
    → (Fits accounts script → ⊥) → IsFirstIn accounts txs skips (i + 1)
first_in accounts txs skips i script before l is a n = record {
  script = script;
  there = subst (λ m. nth txs m ≡ Some script) (sym (add-one i)) (slice_get-get_or txs i script l ∙ ap (λ z. Some z) (sym is));
  after = above_skipped skips i a;
  unfit = n;
  first = λ j other q r e. before j other q (below_next j i r) e;
}

pub none_before : (accounts : List KeyId) (txs : List (List Op)) (skips : ℕ) → FitBefore accounts txs skips 0
none_before accounts txs skips j script a l e = absurd (omega arith)

-- ---- how many scripts a session has

pub few_scripts : (scene : Scene) (i : ℕ) (s : Session) → IsScene scene → i < length scene.sessions → s ≡ get_or scene.sessions i s → length s.txs ≤ TRANSACTIONS
few_scripts scene i s limits l is =
    let a : length (get_or scene.sessions i s).txs ≤ sum_by (λ (z : Session). length z.txs) scene.sessions = get_or-le-sum_by (λ (z : Session). length z.txs) scene.sessions i s l in
    let b : sum_by (λ (z : Session). length z.txs) scene.sessions ≤ TRANSACTIONS = limits.few_transactions in
    subst (λ (z : Session). length z.txs ≤ TRANSACTIONS) (sym is) (within (length (get_or scene.sessions i s).txs) (sum_by (λ (z : Session). length z.txs) scene.sessions) TRANSACTIONS a b)
  where
    within : (a b c : ℕ) → a ≤ b → b ≤ c → a ≤ c
    within a b c p q = omega arith

-- ---- one session more

-- the first of the session that is looked at
pub first_of_session : (scene : Scene) (accounts : List KeyId) (sessions : List Session) (j : ℕ) (s : Session) (txs : List (List Op)) (skips index : ℕ)
    → sessions ≡ scene.sessions → j < length sessions → s ≡ get_or sessions j s → txs ≡ s.txs → skips ≡ skipped j → Passed accounts sessions j → IsFirstIn accounts txs skips index
    → IsFirstUnfit scene accounts (record { session = record { 0 = j + 1 }; index = index })
first_of_session scene accounts sessions j s txs skips index e l is t k passed r =
    first_here scene accounts j s (record { session = record { 0 = j + 1 }; index = index }) (add-one j)
    (subst (λ zs. slice_get zs j ≡ Some s) e (slice_get-get_or sessions j s l ∙ ap (λ z. Some z) (sym is)))
    (subst (λ zs. Passed accounts zs j) e passed)
    (subst (λ m. IsFirstIn accounts s.txs m index) k (subst (λ ts. IsFirstIn accounts ts skips index) t r))

-- the session that is looked at fits too
pub passed_more : (accounts : List KeyId) (sessions : List Session) (j : ℕ) (s : Session) (txs : List (List Op)) (skips : ℕ)
    → j < length sessions → s ≡ get_or sessions j s → txs ≡ s.txs → skips ≡ skipped j → Passed accounts sessions j → AllFitIn accounts txs skips → Passed accounts sessions (j + 1)
passed_more accounts sessions j s txs skips l is t k passed fit = λ a z b q. by_order a z q (below_or_same a j b)
  where
    below_or_same : (a j : ℕ) → a < j + 1 → (a < j) ⊎ (a ≡ j)
    below_or_same zero zero b = inr refl
    below_or_same zero (suc j) b = inl (omega arith)
    below_or_same (suc a) zero b = absurd (omega arith)
    below_or_same (suc a) (suc j) b = elim (below_or_same a j (omega arith)) [ inl h ↦ inl (omega arith) | inr e ↦ inr (ap suc e) ]

    fit_here : AllFitIn accounts s.txs (skipped j)
    fit_here = subst (λ m. AllFitIn accounts s.txs m) k (subst (λ ts. AllFitIn accounts ts skips) t fit)

    by_order : (a : ℕ) (z : Session) → slice_get sessions a ≡ Some z → (a < j) ⊎ (a ≡ j) → AllFitIn accounts z.txs (skipped a)
    by_order a z q (inl h) = passed a z h q
    by_order a z q (inr e) =
        let u : Some s ≡ Some z = ap (λ x. Some x) is ∙ (sym (slice_get-get_or sessions j s l) ∙ (ap (slice_get sessions) (sym e) ∙ q)) in
        let same : s ≡ z = cc u in
        subst (λ (x : Session). AllFitIn accounts x.txs (skipped a)) same (subst (λ m. AllFitIn accounts s.txs (skipped m)) (sym e) fit_here)

-- all have been looked at
pub all_passed : (scene : Scene) (accounts : List KeyId) (sessions : List Session) (i : ℕ) → sessions ≡ scene.sessions → length sessions ≤ i → Passed accounts sessions i → AllFit scene accounts
all_passed scene accounts sessions i e l passed = all_fit_here scene accounts (λ a s q.
    let r : slice_get sessions a ≡ Some s = ap (λ zs. slice_get zs a) e ∙ q in
    passed a s (within a (length sessions) i (slice_get_within sessions a s r) l) r)
  where
    within : (a n i : ℕ) → a < n → n ≤ i → a < i
    within a n i p q = omega arith
