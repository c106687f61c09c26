-- The look at the dependencies of a snapshot: what it leaves, and that a second look comes to the same.
use Rattle.std.proofs.Common.{Bool, List, Some, [], ap, false, if◌then◌else◌, inl, inr, max, nat_lt, refl, slice_get, slice_set, subst, sym, true, ℕ, ◌-◌, ◌∙◌, ◌∷◌, ◌≡◌, ◌≢◌, ◌⊎◌}
use Rattle.dependency_set.specs.declared.names.Dep.{Dep}
use Rattle.str_scene.specs.Scenes.{Here}
use Rattle.str_model.specs.Pass
use Rattle.str_model.specs.Turns.{CommittedAt, DepTurn, Fate, Gone, Keep, Late, Lost, Open, by_fate, dep_turn, deps_left, ffc_left, keep_also, left_by, own_fate, phase_fate, resolve_all}
use Rattle.str_model.specs.Views.{Doing, Own, put}
use Rattle.str_base.proofs.Lists.{get_set, get_set_other}
use Rattle.std.proofs.lemmas.Bool.{cases_eq}

-- one more is left, and the timestamp stays
pub deps_also : (d : Dep) (t : DepTurn) → deps_left (keep_also d t) ≡ d ∷ deps_left t
deps_also d (Lost q f es) = refl
deps_also d (Late q fc f es) = refl
deps_also d (Keep f es) = refl

pub ffc_also : (d : Dep) (t : DepTurn) → ffc_left (keep_also d t) ≡ ffc_left t
ffc_also d (Lost q f es) = refl
ffc_also d (Late q fc f es) = refl
ffc_also d (Keep f es) = refl

-- what is done once a look has come to this turn
abbrev pub after_look : Here → ℕ → Own → DepTurn → Doing → Doing
after_look here i x t d = let y : Own = record x { snap = left_by t x.snap } in Pass.resolved here i y t (put i y d)

-- ---- a second look

module _ (own : List Own) (rs : ℕ) where
  -- a look at what a turn leaves
  abbrev again : DepTurn → DepTurn
  again t = resolve_all own rs (deps_left t) (ffc_left t)

  also_again : (d : Dep) (t : DepTurn) → own_fate (slice_get own (d.seq - 1)) ≡ Open → again t ≡ t → again (keep_also d t) ≡ keep_also d t
  also_again d t o h =
      ap (λ es. resolve_all own rs es (ffc_left (keep_also d t))) (deps_also d t)
      ∙ (ap (λ f. resolve_all own rs (d ∷ deps_left t) f) (ffc_also d t)
      ∙ (ap (by_fate rs d (deps_left t) (ffc_left t) (λ g. resolve_all own rs (deps_left t) g)) o ∙ ap (keep_also d) h))

  resolve_again : (ds : List Dep) (ffc : ℕ) → again (resolve_all own rs ds ffc) ≡ resolve_all own rs ds ffc
  resolve_again [] ffc = refl
  resolve_again (d ∷ ds) ffc = by_first (own_fate (slice_get own (d.seq - 1))) refl (λ g. resolve_again ds g)
    where
      by_first : (f : Fate) → own_fate (slice_get own (d.seq - 1)) ≡ f → ((g : ℕ) → again (resolve_all own rs ds g) ≡ resolve_all own rs ds g)
          → again (by_fate rs d ds ffc (λ n. resolve_all own rs ds n) f) ≡ by_fate rs d ds ffc (λ n. resolve_all own rs ds n) f
      by_first Open e rec = also_again d (resolve_all own rs ds ffc) e (rec ffc)
      by_first Gone e rec = ap (by_fate rs d ds ffc (λ n. resolve_all own rs ds n)) e
      by_first (CommittedAt fc) e rec = by_test (nat_lt rs fc) refl
        where
          by_test : (b : Bool) → nat_lt rs fc ≡ b
              → again (if b then Late d.seq fc ffc (d ∷ ds) else resolve_all own rs ds (max ffc fc)) ≡ (if b then Late d.seq fc ffc (d ∷ ds) else resolve_all own rs ds (max ffc fc))
          by_test true t =
              ap (by_fate rs d ds ffc (λ n. resolve_all own rs ds n)) e
              ∙ ap (λ b. if b then Late d.seq fc ffc (d ∷ ds) else resolve_all own rs ds (max ffc fc)) t
          by_test false t = rec (max ffc fc)

-- a look sees of the own transactions their fates alone
resolve_fates : (own new : List Own) → ((n : ℕ) → own_fate (slice_get new n) ≡ own_fate (slice_get own n)) → (rs : ℕ) (ds : List Dep) (ffc : ℕ)
    → resolve_all new rs ds ffc ≡ resolve_all own rs ds ffc
resolve_fates own new same rs [] ffc = refl
resolve_fates own new same rs (d ∷ ds) ffc =
    ap (by_fate rs d ds ffc (λ g. resolve_all new rs ds g)) (same (d.seq - 1)) ∙ by_first (own_fate (slice_get own (d.seq - 1))) (λ g. resolve_fates own new same rs ds g)
  where
    by_first : (f : Fate) → ((g : ℕ) → resolve_all new rs ds g ≡ resolve_all own rs ds g)
        → by_fate rs d ds ffc (λ g. resolve_all new rs ds g) f ≡ by_fate rs d ds ffc (λ g. resolve_all own rs ds g) f
    by_first Open rec = ap (keep_also d) (rec ffc)
    by_first Gone rec = refl
    by_first (CommittedAt fc) rec = ap (λ t. if nat_lt rs fc then Late d.seq fc ffc (d ∷ ds) else t) (rec (max ffc fc))

-- another snapshot of one own transaction changes no fate
fate_put : (own : List Own) (i : ℕ) (x y : Own) → slice_get own i ≡ Some x → y.phase ≡ x.phase → (n : ℕ) → own_fate (slice_get (slice_set own i y) n) ≡ own_fate (slice_get own n)
fate_put own i x y e p n = by_place (cases_eq n i)
  where
    by_place : (n ≡ i) ⊎ (n ≢ i) → own_fate (slice_get (slice_set own i y) n) ≡ own_fate (slice_get own n)
    by_place (inl q) =
        subst (λ m. own_fate (slice_get (slice_set own i y) m) ≡ own_fate (slice_get own m)) (sym q)
        (ap own_fate (get_set own i x y e) ∙ (ap phase_fate p ∙ sym (ap own_fate e)))
    by_place (inr q) = ap own_fate (get_set_other own i n y q)

-- once the snapshot that a turn leaves is put, a look at it comes to the same turn
pub dep_turn_again : (own : List Own) (i : ℕ) (x : Own) → slice_get own i ≡ Some x
    → let t = dep_turn own x.snap in dep_turn (slice_set own i (record x { snap = left_by t x.snap })) (left_by t x.snap) ≡ t
unfolding dep_turn
dep_turn_again own i x e =
    let t = resolve_all own x.snap.rs x.snap.deps x.snap.ffc in
    let y : Own = record x { snap = left_by t x.snap } in
    resolve_fates own (slice_set own i y) (fate_put own i x y e refl) x.snap.rs (deps_left t) (ffc_left t) ∙ resolve_again own x.snap.rs x.snap.deps x.snap.ffc
