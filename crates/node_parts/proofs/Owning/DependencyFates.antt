-- What became of dependencies, as it is told, and the snapshot that a look at them leaves.
use Rattle.std.proofs.Common.{Bool, List, Some, [], ap, eq-eqb, eqb-true, false, find, if◌then◌else◌, refl, slice_get, slice_set, subst, suc, sym, true, zero, ℕ, ◌++◌, ◌-◌, ◌==◌, ◌∙◌, ◌∷◌, ◌≡◌}
use Rattle.cascade_abort.specs.declared.fates.DepTurn.{DepTurn}
use Rattle.cascade_abort.specs.declared.fates.DepTurn.TheVariants.{Keep, Late, Lost}
use Rattle.cascade_abort.specs.declared.fates.Fate.{Fate}
use Rattle.cascade_abort.specs.Fates.{Names, fate_of, found_fate, kind_of, turn_of}
use Rattle.dependency_set.specs.declared.names.Dep.{Dep}
use Rattle.dependency_set.specs.Snapshots.{Snap}
use Rattle.std.specs.List.{list_any}
use Rattle.str_base.proofs.Lists.{set_got}
use Rattle.str_base.proofs.Tests.{or_false_left, or_false_right}
use Rattle.str_model.specs.Turns
use Rattle.str_model.specs.Turns.{by_fate, dep_turn, deps_left, ffc_left, keep_also, left_by, own_fate, resolve_all}
use Rattle.str_model.specs.Views.{Own}
use Rattle.node_parts.specs.Owning.{Looked, is_closed}

-- ---- fates

-- each dependency has its fate
abbrev pub AreFates : List Own → List Dep → List Fate → Type 0
AreFates own [] [] = Unit {0}
AreFates own [] (f ∷ fs) = ⊥
AreFates own (d ∷ ds) [] = ⊥
AreFates own (d ∷ ds) (f ∷ fs) = (f.seq ≡ d.seq) × (kind_of f.kind ≡ own_fate (slice_get own (d.seq - 1))) × AreFates own ds fs

-- and one more
pub fates_more : (own : List Own) (ds : List Dep) (fs : List Fate) (d : Dep) (f : Fate) → AreFates own ds fs → f.seq ≡ d.seq
    → kind_of f.kind ≡ own_fate (slice_get own (d.seq - 1)) → AreFates own (ds ++ d ∷ []) (fs ++ f ∷ [])
fates_more own [] [] d f h q k = (q, k, tt)
fates_more own [] (g ∷ fs) d f h q k = absurd h
fates_more own (e ∷ ds) [] d f h q k = absurd h
fates_more own (e ∷ ds) (g ∷ fs) d f h q k = (h.0, h.1, fates_more own ds fs d f h.2 q k)

-- they name what became of each dependency
pub fates_name : (own : List Own) (ds : List Dep) (fs : List Fate) → AreFates own ds fs → Names own ds fs
fates_name own [] fs h i d e = absurd (cc e)
fates_name own (c ∷ ds) [] h i d e = absurd h
fates_name own (c ∷ ds) (f ∷ fs) h zero d e =
    let is : c ≡ d = cc e in
    ap (λ b. found_fate (if b then Some f else find (λ (g : Fate). g.seq == d.seq) fs)) (eq-eqb f.seq d.seq (h.0 ∙ ap (λ (z : Dep). z.seq) is))
    ∙ (h.1 ∙ ap (λ (z : Dep). own_fate (slice_get own (z.seq - 1))) is)
fates_name own (c ∷ ds) (f ∷ fs) h (suc i) d e = by_test (f.seq == d.seq) refl (fates_name own ds fs h.2 i d e)
  where
    by_test : (b : Bool) → (f.seq == d.seq) ≡ b → fate_of fs d.seq ≡ own_fate (slice_get own (d.seq - 1))
        → found_fate (if b then Some f else find (λ (g : Fate). g.seq == d.seq) fs) ≡ own_fate (slice_get own (d.seq - 1))
    by_test true t r =
        let q : c.seq ≡ d.seq = sym h.0 ∙ eqb-true f.seq d.seq t in
        h.1 ∙ ap (λ (n : ℕ). own_fate (slice_get own (n - 1))) q
    by_test false t r = r

-- ---- looks

-- one of these dependencies is decided
abbrev pub any_closed : List Own → List Dep → Bool
any_closed own ds = list_any (λ (d : Dep). is_closed (own_fate (slice_get own (d.seq - 1)))) ds

-- where none is decided, all stays
all_open : (own : List Own) (rs : ℕ) (ds : List Dep) (ffc : ℕ) → any_closed own ds ≡ false
    → resolve_all own rs ds ffc ≡ Turns.Keep ffc ds
all_open own rs [] ffc h = refl
all_open own rs (d ∷ ds) ffc h = by_kind (own_fate (slice_get own (d.seq - 1))) (or_false_left _ _ h) (all_open own rs ds ffc (or_false_right _ _ h))
  where
    by_kind : (k : Turns.Fate) → is_closed k ≡ false → resolve_all own rs ds ffc ≡ Turns.Keep ffc ds
        → by_fate rs d ds ffc (λ f. resolve_all own rs ds f) k ≡ Turns.Keep ffc (d ∷ ds)
    by_kind Turns.Open e r = ap (keep_also d) r
    by_kind Turns.Gone e r = absurd (cc e)
    by_kind (Turns.CommittedAt fc) e r = absurd (cc e)

pub look_open : (own : List Own) (snap : Snap) → any_closed own snap.deps ≡ false
    → dep_turn own snap ≡ Turns.Keep snap.ffc snap.deps
unfolding dep_turn
look_open own snap h = all_open own snap.rs snap.deps snap.ffc h

-- the snapshot that a turn was told with
told_ffc : (t : DepTurn) (s : Snap) → ffc_left (turn_of t s) ≡ s.ffc
told_ffc Keep s = refl
told_ffc (Lost q) s = refl
told_ffc (Late q fc) s = refl

told_deps : (t : DepTurn) (s : Snap) → deps_left (turn_of t s) ≡ s.deps
told_deps Keep s = refl
told_deps (Lost q) s = refl
told_deps (Late q fc) s = refl

-- is the one that the turn leaves
pub left_is : (own : List Own) (t : DepTurn) (old new : Snap) → turn_of t new ≡ dep_turn own old → new.rs ≡ old.rs → new ≡ left_by (dep_turn own old) old
left_is own t old new e r =
    let f : new.ffc ≡ ffc_left (dep_turn own old) = sym (told_ffc t new) ∙ ap ffc_left e in
    let d : new.deps ≡ deps_left (dep_turn own old) = sym (told_deps t new) ∙ ap deps_left e in
    λ i. record { rs = r i; ffc = f i; deps = d i }

-- ---- what a look comes to

-- where none is decided, nothing changes
pub look_stays : (own : List Own) (i : ℕ) (x : Own) → slice_get own i ≡ Some x → any_closed own x.snap.deps ≡ false → Looked own own i x Keep
look_stays own i x g h =
    let e = look_open own x.snap h in
    record {
      turn = subst (λ (t : Turns.DepTurn). turn_of Keep (left_by t x.snap) ≡ t) (sym e) refl;
      left = subst (λ (t : Turns.DepTurn). own ≡ slice_set own i (record x { snap = left_by t x.snap })) (sym e) (sym (set_got own i x g));
    }

-- else the snapshot is the one that is left
pub look_changes : (own : List Own) (i : ℕ) (x : Own) (t : DepTurn) (new : Snap) → turn_of t new ≡ dep_turn own x.snap → new.rs ≡ x.snap.rs → Looked own (slice_set own i (record x { snap = new })) i x t
look_changes own i x t new e r =
    let s = left_is own t x.snap new e r in
    record { turn = subst (λ (z : Snap). turn_of t z ≡ dep_turn own x.snap) s e; left = ap (λ (z : Snap). slice_set own i (record x { snap = z })) s }
