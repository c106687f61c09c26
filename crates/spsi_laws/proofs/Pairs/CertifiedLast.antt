-- What lasts of a certified own transaction, and what a look at dependencies leaves: each stays, or is final at or below the snapshot and taken in.
use Rattle.std.proofs.Common.{Bool, List, Some, [], ap, arith, false, if◌then◌else◌, inl, inr, ltb-false, max, nat_lt, refl, slice_get, subst, sym, true, ℕ, ◌-◌, ◌∙◌, ◌∷◌, ◌≡◌, ◌≢◌, ◌≤◌, ◌⊎◌}
use Rattle.dependency_set.specs.Snapshots.{Snap}
use Rattle.dependency_set.specs.declared.names.Dep.{Dep}
use Rattle.si_laws.proofs.Dependencies.LeftAlone.{carried}
use Rattle.spsi_laws.proofs.Pairs.ReadsMove.{Moves, OwnMove, m_begins, m_rests, m_sets, mv_grows, mv_resolve, mv_same, own_move}
use Rattle.str_model.proofs.Principle.SingleChanges.{Act, Path, Where, along}
use Rattle.str_model.proofs.Changes.SnapshotsGain.{Names}
use Rattle.str_model.proofs.Changes.DependencyLooks.{deps_also, ffc_also}
use Rattle.str_model.proofs.Principle.OwnPaths.{resolve_all-sub}
use Rattle.str_model.proofs.Changes.OwnChanges.{own_step}
use Rattle.str_model.specs.Owned.{Owns}
use Rattle.str_model.specs.Turns.{CommittedAt, DepTurn, Fate, Gone, Late, Open, by_fate, dep_turn, deps_left, ffc_left, keep_also, left_by, own_fate, resolve_all}
use Rattle.str_model.specs.Views.{Doing, Own, View, lc_of}
use Rattle.str_model.specs.declared.messages.Input.{Input}
use Rattle.str_model.specs.declared.names.ReadDone.{ReadDone}
use Rattle.str_scene.specs.Scenes.{Here}
use Rattle.str_model.proofs.OwnFacts.LocalOwners.{same_own}
use Rattle.str_base.proofs.Lists.{get_push, get_set, get_set_other}
use Rattle.std.proofs.lemmas.Bool.{cases_eq}
use Rattle.str_base.specs.Members.{In}

-- ---- a look at dependencies

-- it is final at or below the snapshot, and was taken in
abbrev pub SettledIn : List Own → ℕ → ℕ → ℕ → Type 0
SettledIn own rs ffc seq = (fc : ℕ) × (own_fate (slice_get own (seq - 1)) ≡ CommittedAt fc) × (fc ≤ rs) × (fc ≤ ffc)

record Left (own : List Own) (rs : ℕ) (ds : List Dep) (ffc : ℕ) (t : DepTurn) : Type 0 where
  more : ffc ≤ ffc_left t
  each : (x : Dep) → In x ds → Names x.seq (deps_left t) ⊎ SettledIn own rs (ffc_left t) x.seq

resolve_left : (own : List Own) (rs : ℕ) (ds : List Dep) (ffc : ℕ) → Left own rs ds ffc (resolve_all own rs ds ffc)
resolve_left own rs [] ffc = record { more = omega arith; each = λ x h. absurd h }
resolve_left own rs (d ∷ ds) ffc = by_first (own_fate (slice_get own (d.seq - 1))) refl (λ g. resolve_left own rs ds g)
  where
    all_left : (t : DepTurn) → ffc_left t ≡ ffc → deps_left t ≡ d ∷ ds → Left own rs (d ∷ ds) ffc t
    all_left t f e = record { more = omega (arith, f); each = λ x h. inl (x, subst (In x) (sym e) h, refl) }

    by_first : (f : Fate) → own_fate (slice_get own (d.seq - 1)) ≡ f → ((g : ℕ) → Left own rs ds g (resolve_all own rs ds g)) → Left own rs (d ∷ ds) ffc (by_fate rs d ds ffc (λ g. resolve_all own rs ds g) f)
    by_first Open e rec = record {
      more = (let l = (rec ffc).more in omega (arith, l, ffc_also d (resolve_all own rs ds ffc)));
      each = λ x h. by_place x h;
    }
      where
        t : DepTurn
        t = resolve_all own rs ds ffc

        up : (x : Dep) → Names x.seq (deps_left (resolve_all own rs ds ffc)) ⊎ SettledIn own rs (ffc_left (resolve_all own rs ds ffc)) x.seq
            → Names x.seq (deps_left (keep_also d (resolve_all own rs ds ffc))) ⊎ SettledIn own rs (ffc_left (keep_also d (resolve_all own rs ds ffc))) x.seq
        up x (inl n) = inl (n.0, subst (In n.0) (sym (deps_also d (resolve_all own rs ds ffc))) (inr n.1), n.2)
        up x (inr q) = inr (q.0, q.1, q.2, omega (arith, q.3, ffc_also d (resolve_all own rs ds ffc)))

        by_place : (x : Dep) → In x (d ∷ ds) → Names x.seq (deps_left (keep_also d (resolve_all own rs ds ffc))) ⊎ SettledIn own rs (ffc_left (keep_also d (resolve_all own rs ds ffc))) x.seq
        by_place x (inl q) = inl (d, subst (In d) (sym (deps_also d (resolve_all own rs ds ffc))) (inl refl), ap (λ (z : Dep). z.seq) q)
        by_place x (inr h) = up x ((rec ffc).each x h)
    by_first Gone e rec = all_left _ refl refl
    by_first (CommittedAt fc) e rec = by_test (nat_lt rs fc) refl
      where
        by_test : (b : Bool) → nat_lt rs fc ≡ b → Left own rs (d ∷ ds) ffc (if b then Late d.seq fc ffc (d ∷ ds) else resolve_all own rs ds (max ffc fc))
        by_test true q = all_left _ refl refl
        by_test false q =
            let r = rec (max ffc fc) in
            let l = r.more in
            record {
              more = omega (arith, l);
              each = λ x h. elim h [
                | inl s ↦ inr (fc, subst (λ (z : Dep). own_fate (slice_get own (z.seq - 1)) ≡ CommittedAt fc) s e, ltb-false rs fc q, omega (arith, l))
                | inr k ↦ r.each x k
              ];
            }

-- the snapshot that a look leaves
pub record Looked (v : View) (old new : Snap) : Type 0 where
  pub rs : new.rs ≡ old.rs
  pub more : old.ffc ≤ new.ffc
  pub each : (seq : ℕ) → Names seq old.deps → Names seq new.deps ⊎ SettledIn v.own old.rs new.ffc seq

pub looked : (v : View) (snap : Snap) (t : DepTurn) → dep_turn v.own snap ≡ t → Looked v snap (left_by t snap)
unfolding dep_turn
looked v snap t e = record {
  rs = refl;
  more = (subst (λ (z : DepTurn). Left v.own snap.rs snap.deps snap.ffc z) e (resolve_left v.own snap.rs snap.deps snap.ffc)).more;
  each = λ seq n. elim ((subst (λ (z : DepTurn). Left v.own snap.rs snap.deps snap.ffc z) e (resolve_left v.own snap.rs snap.deps snap.ffc)).each n.0 n.1) [
    | inl m ↦ inl (m.0, m.1, m.2 ∙ n.2)
    | inr q ↦ inr (q.0, ap (λ k. own_fate (slice_get v.own (k - 1))) (sym n.2) ∙ q.1, q.2, q.3)
  ];
}

-- what a look at dependencies leaves was there
pub left_names : (v : View) (snap : Snap) (t : DepTurn) → dep_turn v.own snap ≡ t → (seq : ℕ) → Names seq (left_by t snap).deps → Names seq snap.deps
unfolding dep_turn
left_names v snap t e seq n = (n.0, resolve_all-sub v.own snap.rs snap.deps snap.ffc n.0 (subst (λ (z : DepTurn). In n.0 (deps_left z)) (sym e) n.1), n.2)

-- ---- a certified own transaction

-- the number stands in the dependencies, or its transaction is final at or below rs
abbrev pub StillOrSettled : View → ℕ → Snap → ℕ → Type 0
StillOrSettled v rs snap seq = Names seq snap.deps ⊎ ((fc : ℕ) × (own_fate (slice_get v.own (seq - 1)) ≡ CommittedAt fc) × (fc ≤ rs))

-- it keeps its timestamps, its writes and its reads, and each dependency that it has no more is settled
pub record Lasts (e : View) (i lc : ℕ) (x : Own) : Type 0 where
  pub y : Own
  pub own : Owns e i y
  pub lc_is : lc_of y.phase ≡ Some lc
  pub writes : y.writes ≡ x.writes
  pub reads : y.reads ≡ x.reads
  pub rs : y.snap.rs ≡ x.snap.rs
  pub deps : (seq : ℕ) → Names seq x.snap.deps → StillOrSettled e x.snap.rs y.snap seq
  pub fewer : (seq : ℕ) → Names seq y.snap.deps → Names seq x.snap.deps

module _ (d e : View) (fates : (k fc : ℕ) → own_fate (slice_get d.own k) ≡ CommittedAt fc → own_fate (slice_get e.own k) ≡ CommittedAt fc) (i lc : ℕ) (x : Own) (own : Owns d i x) (l : lc_of x.phase ≡ Some lc) where
  same_lasts : Owns e i x → Lasts e i lc x
  same_lasts o = record { y = x; own = o; lc_is = l; writes = refl; reads = refl; rs = refl; deps = λ seq n. inl n; fewer = λ seq n. n }

  moved_lasts : (y : Own) → Owns e i y → Moves d x y → Lasts e i lc x
  moved_lasts y o (mv_same s r f) = record {
    y = y;
    own = o;
    lc_is = (f lc l).0;
    writes = (f lc l).1;
    reads = r;
    rs = ap (λ (z : Snap). z.rs) s;
    deps = λ seq n. inl (subst (λ (z : Snap). Names seq z.deps) (sym s) n);
    fewer = λ seq n. subst (λ (z : Snap). Names seq z.deps) s n;
  }
  moved_lasts y o (mv_resolve t q s) =
      let h = looked d x.snap t q in
      let is : y.snap ≡ left_by t x.snap = ap (λ (z : Own). z.snap) s in
      record {
        y = y;
        own = o;
        lc_is = ap (λ (z : Own). lc_of z.phase) s ∙ l;
        writes = ap (λ (z : Own). z.writes) s;
        reads = ap (λ (z : Own). z.reads) s;
        rs = ap (λ (z : Own). z.snap.rs) s;
        deps = λ seq n. elim (h.each seq n) [ inl m ↦ inl (subst (λ (z : Snap). Names seq z.deps) (sym is) m) | inr z ↦ inr (z.0, fates (seq - 1) z.0 z.1, z.2) ];
        fewer = λ seq n. left_names d x.snap t q seq (subst (λ (z : Snap). Names seq z.deps) is n);
      }
  moved_lasts y o (mv_grows n g h r) = absurd (cc (n, l))

  lasts_by : OwnMove d e → Lasts e i lc x
  lasts_by (m_rests q) = same_lasts (subst (λ (xs : List Own). slice_get xs i ≡ Some x) (sym q) own)
  lasts_by (m_begins place rs q) = same_lasts (subst (λ (xs : List Own). slice_get xs i ≡ Some x) (sym q) (get_push d.own i _ x own))
  lasts_by (m_sets n z y o op q mv) = by_place (cases_eq i n)
    where
      by_place : (i ≡ n) ⊎ (i ≢ n) → Lasts e i lc x
      by_place (inl s) =
          let same : x ≡ z = same_own d i n x z own o s in
          let at : Owns e i y = subst (λ (k : ℕ). Owns e k y) (sym s) (subst (λ (xs : List Own). slice_get xs n ≡ Some y) (sym q) (get_set d.own n z y o)) in
          moved_lasts y at (subst (λ (u : Own). Moves d u y) (sym same) mv)
      by_place (inr s) = same_lasts (subst (λ (xs : List Own). slice_get xs i ≡ Some x) (sym q) (get_set_other d.own n i y s ∙ own))

pub fates_on : (here : Here) (input : Input) (w : Where) (d e : Doing) → Act here input w d e → (k fc : ℕ) → own_fate (slice_get d.view.own k) ≡ CommittedAt fc → own_fate (slice_get e.view.own k) ≡ CommittedAt fc
fates_on here input w d e a = (carried d.view e.view (own_step here input w d e a)).fates

pub lasts_act : (here : Here) (input : Input) (w : Where) (d e : Doing) → Act here input w d e → (i lc : ℕ) (x : Own) → Owns d.view i x → lc_of x.phase ≡ Some lc → Lasts e.view i lc x
lasts_act here input w d e a i lc x own l = lasts_by d.view e.view (fates_on here input w d e a) i lc x own l (own_move here input w d e a)

-- ---- along a path

-- it is certified at lc, with these reads
pub record CertifiedWith (i lc : ℕ) (rs : List ReadDone) (v : View) : Type 0 where
  pub x : Own
  pub own : Owns v i x
  pub lc_is : lc_of x.phase ≡ Some lc
  pub reads : x.reads ≡ rs

pub reads_last : (here : Here) (input : Input) (w : Where) (d e : Doing) → Path here input w d e → (i lc : ℕ) (x : Own) → Owns d.view i x → lc_of x.phase ≡ Some lc → CertifiedWith i lc x.reads e.view
reads_last here input w d e p i lc x own l =
    along here input w (λ z. CertifiedWith i lc x.reads z.view)
    (λ a b act h. (let r = lasts_act here input w a b act i lc h.x h.own h.lc_is in record { x = r.y; own = r.own; lc_is = r.lc_is; reads = r.reads ∙ h.reads }))
    d e p (record { x = x; own = own; lc_is = l; reads = refl })
