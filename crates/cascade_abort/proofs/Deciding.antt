-- The first dependency that decides, and the look of the model at the dependencies.
use Rattle.std.proofs.Common.{Bool, List, None, Option, Some, [], ap, arith, cond, drop, false, filter, find, if◌then◌else◌, map, max, nat_lt, not, refl, slice_get, suc, sym, take, true, zero, ℕ, ◌++◌, ◌+◌, ◌∙◌, ◌∷◌, ◌≡◌}
use Rattle.str_base.proofs.Lists.{found_passes}
use Rattle.std.proofs.lemmas.List.Folds.{find_at}
use Rattle.std.specs.List.{position_or_len}
use Rattle.cascade_abort.specs.declared.fates.DepTurn.{DepTurn}
use Rattle.cascade_abort.specs.declared.fates.DepTurn.TheVariants.{Keep, Late, Lost}
use Rattle.cascade_abort.specs.declared.fates.Fate.{Fate}
use Rattle.cascade_abort.specs.Fates.{Names, decides, decides_at, fate_of, fc_at, fc_or_zero, left, stays, stays_at, told, told_by, turn_of}
use Rattle.dependency_set.specs.declared.names.Dep.{Dep}
use Rattle.dependency_set.specs.Snapshots.{Snap}
use Rattle.str_base.specs.declared.names.Ts.{Ts}
use Rattle.str_base.specs.Versions.{stamp}
use Rattle.str_model.specs.Turns.{CommittedAt, Gone, Open, by_fate, dep_turn, greatest, keep_also, resolve_all}
use Rattle.str_model.specs.Turns
use Rattle.str_model.specs.Views.{Own}

-- ---- the first that decides

first_left : (ds : List Dep) (n : ℕ) → slice_get (drop n ds) 0 ≡ slice_get ds n
first_left ds zero = refl
first_left [] (suc n) = refl
first_left (d ∷ ds) (suc n) = first_left ds n

-- the first of those that are left is the first that passes
pub first_found : (p : Dep → Bool) (ds : List Dep) → slice_get (drop (position_or_len p ds) ds) 0 ≡ find p ds
first_found p ds = first_left ds (position_or_len p ds) ∙ sym (find_at p ds)

-- ---- causes

module _ (fates : List Fate) (rs : ℕ) (ds : List Dep) (r : DepTurn) where
  pub keeps : r ≡ told fates (find (decides_at fates rs) ds) → (r ≡ Keep → find (decides_at fates rs) ds ≡ None) × (find (decides_at fates rs) ds ≡ None → r ≡ Keep)
  keeps e = (λ k. by_found (find (decides_at fates rs) ds) refl (sym e ∙ k), λ n. e ∙ ap (told fates) n)
    where
      by_fate_of : (d : Dep) (f : Turns.Fate) → fate_of fates d.seq ≡ f → decides rs (fate_of fates d.seq) ≡ true → told_by d.seq f ≡ Keep → find (decides_at fates rs) ds ≡ None
      by_fate_of d Open q t k = absurd (cc (ap (decides rs) q, t))
      by_fate_of d Gone q t k = absurd (cc k)
      by_fate_of d (CommittedAt fc) q t k = absurd (cc k)

      by_found : (o : Option Dep) → find (decides_at fates rs) ds ≡ o → told fates o ≡ Keep → find (decides_at fates rs) ds ≡ None
      by_found None q k = q
      by_found (Some d) q k = by_fate_of d (fate_of fates d.seq) refl (found_passes (decides_at fates rs) ds d q) k

  pub loses : r ≡ told fates (find (decides_at fates rs) ds) → (by : ℕ)
      → (r ≡ Lost by → (d : Dep) × (find (decides_at fates rs) ds ≡ Some d) × (d.seq ≡ by) × (fate_of fates d.seq ≡ Gone))
      × ((d : Dep) × (find (decides_at fates rs) ds ≡ Some d) × (d.seq ≡ by) × (fate_of fates d.seq ≡ Gone) → r ≡ Lost by)
  loses e by = (λ k. by_found (find (decides_at fates rs) ds) refl (sym e ∙ k), λ h. e ∙ ap (told fates) h.1 ∙ ap (told_by h.0.seq) h.3 ∙ ap (λ n. Lost n) h.2)
    where
      by_fate_of : (d : Dep) (f : Turns.Fate) → fate_of fates d.seq ≡ f → find (decides_at fates rs) ds ≡ Some d → told_by d.seq f ≡ Lost by
          → (d : Dep) × (find (decides_at fates rs) ds ≡ Some d) × (d.seq ≡ by) × (fate_of fates d.seq ≡ Gone)
      by_fate_of d Open q f k = absurd (cc k)
      by_fate_of d Gone q f k = (d, f, cc k, q)
      by_fate_of d (CommittedAt fc) q f k = absurd (cc k)

      by_found : (o : Option Dep) → find (decides_at fates rs) ds ≡ o → told fates o ≡ Lost by
          → (d : Dep) × (find (decides_at fates rs) ds ≡ Some d) × (d.seq ≡ by) × (fate_of fates d.seq ≡ Gone)
      by_found None q k = absurd (cc k)
      by_found (Some d) q k = by_fate_of d (fate_of fates d.seq) refl q k

  pub is_late : r ≡ told fates (find (decides_at fates rs) ds) → (by : ℕ) (fc : Ts)
      → (r ≡ Late by fc → (d : Dep) × (find (decides_at fates rs) ds ≡ Some d) × (d.seq ≡ by) × (fate_of fates d.seq ≡ CommittedAt fc.0))
      × ((d : Dep) × (find (decides_at fates rs) ds ≡ Some d) × (d.seq ≡ by) × (fate_of fates d.seq ≡ CommittedAt fc.0) → r ≡ Late by fc)
  is_late e by fc = (λ k. by_found (find (decides_at fates rs) ds) refl (sym e ∙ k), λ h. e ∙ ap (told fates) h.1 ∙ ap (told_by h.0.seq) h.3 ∙ ap (λ n. Late n fc) h.2)
    where
      by_fate_of : (d : Dep) (f : Turns.Fate) → fate_of fates d.seq ≡ f → find (decides_at fates rs) ds ≡ Some d → told_by d.seq f ≡ Late by fc
          → (d : Dep) × (find (decides_at fates rs) ds ≡ Some d) × (d.seq ≡ by) × (fate_of fates d.seq ≡ CommittedAt fc.0)
      by_fate_of d Open q f k = absurd (cc k)
      by_fate_of d Gone q f k = absurd (cc k)
      by_fate_of d (CommittedAt m) q f k =
          let s : stamp m ≡ fc = cc k in
          (d, f, cc k, q ∙ ap (λ (t : Ts). CommittedAt t.0) s)

      by_found : (o : Option Dep) → find (decides_at fates rs) ds ≡ o → told fates o ≡ Late by fc
          → (d : Dep) × (find (decides_at fates rs) ds ≡ Some d) × (d.seq ≡ by) × (fate_of fates d.seq ≡ CommittedAt fc.0)
      by_found None q k = absurd (cc k)
      by_found (Some d) q k = by_fate_of d (fate_of fates d.seq) refl q k

-- ---- the look of the model

-- the snapshot that is left where the first n dependencies were looked at
abbrev left_at : List Fate → ℕ → ℕ → List Dep → ℕ → Snap
left_at fates rs n ds ffc =
    record { rs = rs; ffc = max ffc (greatest (map (fc_at fates) (take n ds))); deps = filter (stays_at fates) (take n ds) ++ drop n ds }

-- the same, where the first of them had this fate
abbrev left_more : List Fate → ℕ → ℕ → Dep → List Dep → ℕ → Turns.Fate → Snap
left_more fates rs n d ds ffc f =
    record {
      rs = rs;
      ffc = max ffc (max (fc_or_zero f) (greatest (map (fc_at fates) (take n ds))));
      deps = (if stays f then d ∷ filter (stays_at fates) (take n ds) else filter (stays_at fates) (take n ds)) ++ drop n ds;
    }

more_left : (fates : List Fate) (rs n : ℕ) (d : Dep) (ds : List Dep) (ffc : ℕ) (f : Turns.Fate) → fate_of fates d.seq ≡ f
    → left_at fates rs (1 + n) (d ∷ ds) ffc ≡ left_more fates rs n d ds ffc f
more_left fates rs n d ds ffc f q = ap (λ m. left_at fates rs m (d ∷ ds) ffc) (one_more n) ∙ ap (left_more fates rs n d ds ffc) q
  where
    one_more : (n : ℕ) → 1 + n ≡ suc n
    one_more n = omega arith

kept_also : (d : Dep) (t : DepTurn) (s : Snap) → keep_also d (turn_of t s) ≡ turn_of t (record s { deps = d ∷ s.deps })
kept_also d Keep s = refl
kept_also d (Lost q) s = refl
kept_also d (Late q fc) s = refl

max_nothing : (n : ℕ) → n ≡ max n 0
max_nothing n = grind arith

max_zero : (m n : ℕ) → max m n ≡ max m (max 0 n)
max_zero m n = grind arith

max_max : (a b c : ℕ) → max (max a b) c ≡ max a (max b c)
max_max a b c = grind arith

-- the model looks at them one by one
resolved : (own : List Own) (fates : List Fate) (rs : ℕ) (ds : List Dep) (ffc : ℕ) → Names own ds fates
    → resolve_all own rs ds ffc ≡ turn_of (told fates (find (decides_at fates rs) ds)) (left_at fates rs (position_or_len (decides_at fates rs) ds) ds ffc)
resolved own fates rs [] ffc h = ap (λ n. Turns.Keep n []) (max_nothing ffc)
resolved own fates rs (d ∷ ds) ffc h =
    ap (by_fate rs d ds ffc (λ f. resolve_all own rs ds f)) (sym (h 0 d refl))
    ∙ by_first (find (decides_at fates rs) ds) (position_or_len (decides_at fates rs) ds) (fate_of fates d.seq) refl (λ f. resolved own fates rs ds f (λ i e g. h (suc i) e g))
  where
    by_first : (o : Option Dep) (n : ℕ) (f : Turns.Fate) → fate_of fates d.seq ≡ f → ((g : ℕ) → resolve_all own rs ds g ≡ turn_of (told fates o) (left_at fates rs n ds g))
        → by_fate rs d ds ffc (λ g. resolve_all own rs ds g) f
        ≡ turn_of (told fates (cond (decides rs f) (Some d) o)) (left_at fates rs (cond (not (decides rs f)) (1 + n) 0) (d ∷ ds) ffc)
    by_first o n Open q rec =
        ap (keep_also d) (rec ffc) ∙ (kept_also d (told fates o) (left_at fates rs n ds ffc)
        ∙ (ap (λ g. turn_of (told fates o) (record (left_at fates rs n ds ffc) { ffc = g; deps = d ∷ (left_at fates rs n ds ffc).deps })) (max_zero ffc (greatest (map (fc_at fates) (take n ds))))
        ∙ ap (turn_of (told fates o)) (sym (more_left fates rs n d ds ffc Open q))))
    by_first o n Gone q rec =
        ap (λ g. Turns.Lost d.seq g (d ∷ ds)) (max_nothing ffc) ∙ ap (λ f. turn_of (told_by d.seq f) (left_at fates rs 0 (d ∷ ds) ffc)) (sym q)
    by_first o n (CommittedAt fc) q rec = by_test (nat_lt rs fc)
      where
        by_test : (b : Bool) → (if b then Turns.Late d.seq fc ffc (d ∷ ds) else resolve_all own rs ds (max ffc fc))
            ≡ turn_of (told fates (cond b (Some d) o)) (left_at fates rs (cond (not b) (1 + n) 0) (d ∷ ds) ffc)
        by_test true =
            ap (λ g. Turns.Late d.seq fc g (d ∷ ds)) (max_nothing ffc) ∙ ap (λ f. turn_of (told_by d.seq f) (left_at fates rs 0 (d ∷ ds) ffc)) (sym q)
        by_test false =
            rec (max ffc fc)
            ∙ (ap (λ g. turn_of (told fates o) (record (left_at fates rs n ds ffc) { ffc = g })) (max_max ffc fc (greatest (map (fc_at fates) (take n ds))))
            ∙ ap (turn_of (told fates o)) (sym (more_left fates rs n d ds ffc (CommittedAt fc) q)))

-- the turn and what is left are those of the model
pub own_turn : (fates : List Fate) (snap new : Snap) (r : DepTurn) → r ≡ told fates (find (decides_at fates snap.rs) snap.deps) → new ≡ left fates snap
    → (own : List Own) → Names own snap.deps fates → turn_of r new ≡ dep_turn own snap
unfolding dep_turn
own_turn fates snap new r e f own h = rw (e, f) (sym (resolved own fates snap.rs snap.deps snap.ffc h))
