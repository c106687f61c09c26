-- A read and a certification may be called by a node that keeps the facts of its view: what it tells them of suffices.
use Rattle.std.proofs.Common.{Bool, List, Some, [], ap, arith, eq-eqb, eqb-true, false, find, if◌then◌else◌, inl, inr, is_some, length, not, option_map, refl, slice_get, subst, suc, sym, true, zero, ℕ, ◌&&◌, ◌+◌, ◌-◌, ◌==◌, ◌∙◌, ◌∷◌, ◌≡◌, ◌≤◌}
use Rattle.str_model.proofs.KindTests.{local_kind}
use Rattle.dependency_set.specs.declared.names.Dep.{Dep}
use Rattle.dependency_set.specs.declared.snaps.OwnSnap.{OwnSnap}
use Rattle.dependency_set.specs.Snapshots.{Snap}
pub use Rattle.snapshot_read.specs.Shown.{told_from}
use Rattle.snapshot_read.specs.Shown.{Agree, AreNamed, AreTold, IsNamed, IsTold, told}
use Rattle.str_base.specs.declared.names.Version.{Version}
use Rattle.str_model.specs.NodeFacts.{how_many, one_if}
use Rattle.str_model.specs.Views.{Own, View}
use Rattle.str_scene.specs.Scenes.{Here}
use Rattle.str_model.proofs.OwnFacts.FewOwn.{is_certain}
use Rattle.str_model.proofs.ViewFacts.NodeUses.{IsCertain, ReadReady}
use Rattle.version_chain.specs.ChainLists.{Each, merged}
use Rattle.str_base.proofs.Members.{in_all_new, in_all_old}
use Rattle.str_base.specs.Members.{In}

pub told-length : (n : ℕ) (xs : List Own) → length (told_from n xs) ≡ how_many is_certain xs
told-length n [] = refl
told-length n (x ∷ xs) = by_test (is_certain x) (told-length (n + 1) xs)
  where
    by_test : (b : Bool) → length (told_from (n + 1) xs) ≡ how_many is_certain xs
        → length (if b then record { seq = n + 1; snap = x.snap } ∷ told_from (n + 1) xs else told_from (n + 1) xs) ≡ one_if b + how_many is_certain xs
    by_test true r = omega (arith, r)
    by_test false r = omega (arith, r)

-- one that is certified and undecided is told of
told-finds : (n k : ℕ) (xs : List Own) (x : Own) → slice_get xs k ≡ Some x → is_certain x ≡ true → told (told_from n xs) (n + k + 1) ≡ Some x.snap
told-finds n k [] x e t = absurd (cc e)
told-finds n zero (y ∷ xs) x e t =
    let is : y ≡ x = cc e in
    let s : is_certain y ≡ true = ap is_certain is ∙ t in
    ap (λ b. told (if b then record { seq = n + 1; snap = y.snap } ∷ told_from (n + 1) xs else told_from (n + 1) xs) (n + 0 + 1)) s
    ∙ (ap (λ b. option_map (λ (z : OwnSnap). z.snap) (if b then Some (record { seq = n + 1; snap = y.snap }) else find (λ (z : OwnSnap). z.seq == n + 0 + 1) (told_from (n + 1) xs))) (eq-eqb (n + 1) (n + 0 + 1) (omega arith))
    ∙ ap (λ (z : Own). Some z.snap) is)
told-finds n (suc k) (y ∷ xs) x e t = by_test (is_certain y) (subst (λ m. told (told_from (n + 1) xs) m ≡ Some x.snap) (omega arith) (told-finds (n + 1) k xs x e t))
  where
    skip : (n + 1 == n + suc k + 1) ≡ false
    skip = by_eq (n + 1 == n + suc k + 1) refl
      where
        by_eq : (b : Bool) → (n + 1 == n + suc k + 1) ≡ b → (n + 1 == n + suc k + 1) ≡ false
        by_eq false q = q
        by_eq true q = absurd (let z = eqb-true (n + 1) (n + suc k + 1) q in omega (arith, z))

    by_test : (b : Bool) → told (told_from (n + 1) xs) (n + suc k + 1) ≡ Some x.snap
        → told (if b then record { seq = n + 1; snap = y.snap } ∷ told_from (n + 1) xs else told_from (n + 1) xs) (n + suc k + 1) ≡ Some x.snap
    by_test true r =
        ap (λ b. option_map (λ (z : OwnSnap). z.snap) (if b then Some (record { seq = n + 1; snap = y.snap }) else find (λ (z : OwnSnap). z.seq == n + suc k + 1) (told_from (n + 1) xs))) skip ∙ r
    by_test false r = r

-- who is told of is there, with that snapshot
record IsThere (n q : ℕ) (xs : List Own) (of : Snap) : Type 0 where
  place : ℕ
  own : Own
  number : q ≡ n + place + 1
  at : slice_get xs place ≡ Some own
  snap : own.snap ≡ of

told-there : (n q : ℕ) (xs : List Own) (of : Snap) → told (told_from n xs) q ≡ Some of → IsThere n q xs of
told-there n q [] of e = absurd (cc e)
told-there n q (x ∷ xs) of e = by_test (is_certain x) e (told-there (n + 1) q xs of)
  where
    later : IsThere (n + 1) q xs of → IsThere n q (x ∷ xs) of
    later r = record { place = suc r.place; own = r.own; number = omega (arith, r.number); at = r.at; snap = r.snap }

    by_eq : (b : Bool) → (n + 1 == q) ≡ b → option_map (λ (z : OwnSnap). z.snap) (if b then Some (record { seq = n + 1; snap = x.snap }) else find (λ (z : OwnSnap). z.seq == q) (told_from (n + 1) xs)) ≡ Some of
        → (told (told_from (n + 1) xs) q ≡ Some of → IsThere (n + 1) q xs of) → IsThere n q (x ∷ xs) of
    by_eq true t f rec = record { place = 0; own = x; number = (let z = eqb-true (n + 1) q t in omega (arith, z)); at = refl; snap = cc f }
    by_eq false t f rec = later (rec f)

    by_test : (b : Bool) → told (if b then record { seq = n + 1; snap = x.snap } ∷ told_from (n + 1) xs else told_from (n + 1) xs) q ≡ Some of
        → (told (told_from (n + 1) xs) q ≡ Some of → IsThere (n + 1) q xs of) → IsThere n q (x ∷ xs) of
    by_test true f rec = by_eq (n + 1 == q) refl f rec
    by_test false f rec = later (rec f)

-- the snapshots that are told are those of the view
pub told-agree : (own : List Own) → Agree own (told_from 0 own)
told-agree own q of e =
    let r = told-there 0 q own of e in
    ap (λ m. option_map (λ (x : Own). x.snap) (slice_get own m)) (omega (arith, r.number)) ∙ (ap (option_map (λ (x : Own). x.snap)) r.at ∙ ap (λ s. Some s) r.snap)

certain-told : (v : View) (q : ℕ) → IsCertain v q → IsNamed (told_from 0 v.own) q
certain-told v q c =
    let t : is_certain c.owner ≡ true = both (ap not c.open_) (ap is_some c.is_lc) in
    subst (λ m. IsNamed (told_from 0 v.own) m) (omega (arith, c.number)) (ap is_some (told-finds 0 c.place v.own c.owner c.owns t))
  where
    both : {a b : Bool} → a ≡ true → b ≡ true → (a && b) ≡ true
    both p q = rw (p, q) refl

named-all : (v : View) (deps : List Dep) → ((dep : Dep) → In dep deps → IsCertain v dep.seq) → AreNamed (told_from 0 v.own) deps
named-all v [] h = tt
named-all v (d ∷ ds) h = (certain-told v d.seq (h d (inl refl)), named-all v ds (λ e k. h e (inr k)))

pub each-of : {P : Version → Type 0} (vs : List Version) → ((u : Version) → In u vs → P u) → Each P vs
each-of [] h = tt
each-of (v ∷ vs) h = (h v (inl refl), each-of vs (λ u k. h u (inr k)))

-- what is asked of the transactions that a read is told of
pub record MayRead (own : List OwnSnap) (snap : Snap) (store cache : List Version) : Type 0 where
  pub few : length own ≤ 15
  pub deps : AreNamed own snap.deps
  pub told : AreTold own snap.rs store cache

pub may_read : (here : Here) (v : View) (x : Own) (store cache : List Version) → ReadReady here v x → v.versions ≡ merged cache store → MayRead (told_from 0 v.own) x.snap store cache
may_read here v x store cache r e =
    record {
      few = (let l = told-length 0 v.own in let f = r.few in omega (arith, l, f));
      deps = named-all v x.snap.deps r.deps;
      told = (each-of store (λ u k. one u (subst (λ vs. In u vs) (sym e) (in_all_old cache store u k))), each-of cache (λ u k. one u (subst (λ vs. In u vs) (sym e) (in_all_new cache store u k))));
    }
  where
    one : (u : Version) → In u v.versions → IsTold (told_from 0 v.own) x.snap.rs u
    one u m = record {
      origin = λ k. certain-told v u.tx.seq (r.origins u m (local_kind u.kind k));
      others = λ k le of f. (let t = told-there 0 u.tx.seq v.own of f in
          let at : slice_get v.own (u.tx.seq - 1) ≡ Some t.own = ap (λ n. slice_get v.own n) (omega (arith, t.number)) ∙ t.at in
          named-all v of.deps (λ dep j. r.others u m (local_kind u.kind k) le t.own at dep (subst (λ (s : Snap). In dep s.deps) (sym t.snap) j)));
    }
