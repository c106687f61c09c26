-- What a read and a certification take into a snapshot: all that a snapshot has that is taken over, and the gate holds of what comes out.
use Rattle.std.proofs.Common.{Bool, List, None, Option, Some, [], ap, arith, eqb-true, false, find, if◌then◌else◌, inl, inr, ltb-false, max, nat_lt, refl, slice_get, subst, sym, true, ℕ, ◌+◌, ◌-◌, ◌==◌, ◌||◌, ◌∙◌, ◌∷◌, ◌≡◌, ◌≤◌, ◌⊎◌}
use Rattle.dependency_set.specs.declared.names.Dep.{Dep}
use Rattle.dependency_set.specs.Snapshots.{Snap, accept_final, holds, oldest, union}
use Rattle.str_base.specs.declared.names.KeyId.{KeyId}
use Rattle.str_base.specs.declared.names.Kind.{Kind}
use Rattle.str_base.specs.declared.names.Kind.TheVariants.{Final, Local as LocalKind, Pre}
use Rattle.str_base.specs.declared.names.TxId.{TxId}
use Rattle.str_base.specs.declared.names.Value.{Value}
use Rattle.str_base.specs.declared.names.Value.TheVariants.{Absent}
use Rattle.str_base.specs.declared.names.Version.{Version}
use Rattle.str_base.specs.declared.names.Write.{Write}
use Rattle.str_base.specs.Versions.{is_pre, last_pre, stamp, visible}
use Rattle.str_scene.specs.Scenes.{Here, first_or, hosts_key, part_of, replicas}
use Rattle.str_model.specs.Turns.{Away, CertTurn, Certified, Conflict, Plain, ReadTurn, Speculative, Wait, WaitGate, cert_turn, conflicts, joined, met, passed, read_turn, reply_turn, take_over}
use Rattle.str_model.specs.Turns
use Rattle.str_model.specs.Views.{Own, View}
use Rattle.str_model.proofs.Changes.SnapshotsGain.{Names, if_elim, in_insert_dep, in_insert_dep_old, in_met, in_union, in_union_right, union_names, visible-is}
use Rattle.str_base.proofs.Tests.{and_true_left, and_true_right, or_false_right}
use Rattle.str_base.proofs.Members.{find_none}
use Rattle.str_base.specs.Members.{In}

-- a dependency that is gained comes with all of its Local version's transaction: that one's number, dependencies and greatest final timestamp
pub record GainsAll (v : View) (rs : ℕ) (new : Snap) (dep : Dep) : Type 0 where
  pub version : Version
  pub owner : Own
  pub is_in : In version v.versions
  pub kind : version.kind ≡ LocalKind
  pub below : version.ts.0 ≤ rs
  pub there : slice_get v.own (version.tx.seq - 1) ≡ Some owner
  pub which : (dep.seq ≡ version.tx.seq) ⊎ In dep owner.snap.deps
  pub ffc : owner.snap.ffc ≤ new.ffc
  pub deps : (x : Dep) → In x owner.snap.deps → Names x.seq new.deps

-- the new snapshot has all of the old one, and what it gains it gains whole
pub record Grows (v : View) (old new : Snap) : Type 0 where
  pub rs : new.rs ≡ old.rs
  pub ffc : old.ffc ≤ new.ffc
  pub kept : (dep : Dep) → In dep old.deps → Names dep.seq new.deps
  pub gained : (dep : Dep) → In dep new.deps → In dep old.deps ⊎ GainsAll v old.rs new dep

pub grows_self : (v : View) (snap : Snap) → Grows v snap snap
grows_self v snap = record { rs = refl; ffc = omega arith; kept = λ d h. (d, h, refl); gained = λ d h. inl h }

names_kept : (v : View) (a b : Snap) (seq : ℕ) → Grows v a b → Names seq a.deps → Names seq b.deps
names_kept v a b seq g n = let k = g.kept n.0 n.1 in (k.0, k.1, k.2 ∙ n.2)

grows_more : (v : View) (a b c : Snap) → Grows v a b → Grows v b c → Grows v a c
grows_more v a b c x y =
    record {
      rs = y.rs ∙ x.rs;
      ffc = (let l = x.ffc in let m = y.ffc in omega arith);
      kept = λ d h. names_kept v b c d.seq y (x.kept d h);
      gained = λ d h. elim (y.gained d h) [ inl k ↦ (elim (x.gained d k) [ inl j ↦ inl j | inr g ↦ inr (further d g) ]) | inr g ↦ inr (earlier d g) ];
    }
  where
    further : (d : Dep) → GainsAll v a.rs b d → GainsAll v a.rs c d
    further d g = record {
      version = g.version;
      owner = g.owner;
      is_in = g.is_in;
      kind = g.kind;
      below = g.below;
      there = g.there;
      which = g.which;
      ffc = (let l = g.ffc in let m = y.ffc in omega arith);
      deps = λ z h. names_kept v b c z.seq y (g.deps z h);
    }

    earlier : (d : Dep) → GainsAll v b.rs c d → GainsAll v a.rs c d
    earlier d g = record {
      version = g.version;
      owner = g.owner;
      is_in = g.is_in;
      kind = g.kind;
      below = omega (arith, g.below, x.rs);
      there = g.there;
      which = g.which;
      ffc = g.ffc;
      deps = g.deps;
    }

grows_over : (v : View) (q : Version) (o : Option Own) (snap : Snap) → slice_get v.own (q.tx.seq - 1) ≡ o → In q v.versions → q.kind ≡ LocalKind → q.ts.0 ≤ snap.rs → Grows v snap (take_over o q.tx.seq snap)
grows_over v q None snap e i k le = grows_self v snap
grows_over v q (Some u) snap e i k le =
    record {
      rs = refl;
      ffc = omega arith;
      kept = λ d h. (d, in_insert_dep_old it (union u.snap.deps snap.deps) d (in_union_right u.snap.deps snap.deps d h), refl);
      gained = λ d h. elim (in_insert_dep it (union u.snap.deps snap.deps) d h) [
        | inl s ↦ inr (all d (inl (ap (λ (z : Dep). z.seq) (sym s))))
        | inr j ↦ (elim (in_union u.snap.deps snap.deps d j) [ inl m ↦ inr (all d (inr m)) | inr m ↦ inl m ])
      ];
    }
  where
    it : Dep
    it = record { seq = q.tx.seq; rs = stamp u.snap.rs }

    all : (d : Dep) → (d.seq ≡ q.tx.seq) ⊎ In d u.snap.deps → GainsAll v snap.rs (take_over (Some u) q.tx.seq snap) d
    all d w = record {
      version = q;
      owner = u;
      is_in = i;
      kind = k;
      below = le;
      there = e;
      which = w;
      ffc = omega arith;
      deps = λ x h. (let n = union_names u.snap.deps snap.deps x h in (n.0, in_insert_dep_old (record { seq = q.tx.seq; rs = stamp u.snap.rs }) (union u.snap.deps snap.deps) n.0 n.1, n.2));
    }

grows_final : (v : View) (snap : Snap) (fc : ℕ) → Grows v snap (accept_final snap fc)
grows_final v snap fc = record { rs = refl; ffc = omega arith; kept = λ d h. (d, h, refl); gained = λ d h. inl h }

-- ---- reads

-- nothing was read, or a Final version that the snapshot has taken in
abbrev pub FinalSource : View → Snap → Option TxId → Type 0
FinalSource v new by = (by ≡ None) ⊎ ((q : Version) × (In q v.versions) × (q.kind ≡ Final) × (by ≡ Some q.tx) × (q.ts.0 ≤ new.ffc))

abbrev TurnGrows : View → Snap → ReadTurn → Type 0
TurnGrows v old (Plain a by fc new) = Grows v old new × (holds new ≡ true) × FinalSource v new by
TurnGrows v old (Speculative a u new) = Grows v old new × (holds new ≡ true)
TurnGrows v old (Wait by) = Unit {0}
TurnGrows v old (Away n) = Unit {0}

kind-grows : (here : Here) (v : View) (snap : Snap) (q : Version) (k : Kind) → In q v.versions → q.kind ≡ k → q.ts.0 ≤ snap.rs → TurnGrows v snap (Turns.read_kind here v.own snap q k)
kind-grows here v snap q Pre i e le = tt
kind-grows here v snap q LocalKind i e le =
    let new : Snap = take_over (slice_get v.own (q.tx.seq - 1)) q.tx.seq snap in
    if_elim (TurnGrows v snap) (holds new) (Speculative q.value q.tx new) (Wait (Turns.waits_for here (oldest new.deps)))
    (λ h. (grows_over v q (slice_get v.own (q.tx.seq - 1)) snap refl i e le, h)) (λ h. tt)
kind-grows here v snap q Final i e le =
    let new : Snap = accept_final snap q.ts.0 in
    if_elim (TurnGrows v snap) (holds new) (Plain q.value (Some q.tx) q.ts.0 new) (Wait (Turns.waits_for here (oldest new.deps)))
    (λ h. (grows_final v snap q.ts.0, h, inr (q, i, e, refl, omega arith))) (λ h. tt)

visible-grows : (here : Here) (v : View) (snap : Snap) (k : KeyId) (o : Option Version) → ((q : Version) → o ≡ Some q → (In q v.versions) × (q.ts.0 ≤ snap.rs)) → TurnGrows v snap (Turns.read_visible here v.own snap k o)
visible-grows here v snap k None f = by_host (hosts_key here k)
  where
    by_host : (b : Bool) → TurnGrows v snap (if b then Turns.gated here snap (Plain Absent None 0 snap) else Away (first_or here.node (replicas here.scene (part_of here.scene k))))
    by_host true =
        if_elim (TurnGrows v snap) (holds snap) (Plain Absent None 0 snap) (Wait (Turns.waits_for here (oldest snap.deps))) (λ h. (grows_self v snap, h, inl refl)) (λ h. tt)
    by_host false = tt
visible-grows here v snap k (Some q) f = let g = f q refl in kind-grows here v snap q q.kind g.0 refl g.1

read-grows : (here : Here) (v : View) (snap : Snap) (k : KeyId) → TurnGrows v snap (read_turn here v snap k)
unfolding read_turn
read-grows here v snap k = by_pre (last_pre v.versions k snap.rs)
  where
    by_pre : (o : Option Version) → TurnGrows v snap (Turns.read_after here v snap k o)
    by_pre (Some q) = tt
    by_pre None = visible-grows here v snap k (visible v.versions k snap.rs) (visible-is v.versions k snap.rs)

pub plain-grows : (here : Here) (v : View) (snap : Snap) (k : KeyId) (a : Value) (by : Option TxId) (fc : ℕ) (new : Snap) → read_turn here v snap k ≡ Plain a by fc new
    → Grows v snap new × (holds new ≡ true) × FinalSource v new by
plain-grows here v snap k a by fc new e = subst (TurnGrows v snap) e (read-grows here v snap k)

pub local-grows : (here : Here) (v : View) (snap : Snap) (k : KeyId) (a : Value) (u : TxId) (new : Snap) → read_turn here v snap k ≡ Speculative a u new → Grows v snap new × (holds new ≡ true)
local-grows here v snap k a u new e = subst (TurnGrows v snap) e (read-grows here v snap k)

pub reply-grows : (here : Here) (v : View) (snap : Snap) (a b : Value) (by of : Option TxId) (fc gc : ℕ) (new : Snap) → reply_turn here snap a by fc ≡ Plain b of gc new
    → Grows v snap new × (holds new ≡ true) × (fc ≤ new.ffc)
unfolding reply_turn
reply-grows here v snap a b by of fc gc new e = by_gate (holds (accept_final snap fc)) refl e
  where
    by_gate : (t : Bool) → holds (accept_final snap fc) ≡ t → (if t then Plain a by fc (accept_final snap fc) else Wait (Turns.waits_for here (oldest (accept_final snap fc).deps))) ≡ Plain b of gc new
        → Grows v snap new × (holds new ≡ true) × (fc ≤ new.ffc)
    by_gate true h q =
        let s : accept_final snap fc ≡ new = cc q in
        subst (λ (z : Snap). Grows v snap z × (holds z ≡ true) × (fc ≤ z.ffc)) s (grows_final v snap fc, h, omega arith)
    by_gate false h q = absurd (cc q)

-- ---- certification

one-grows : (v : View) (q : Version) (k : Kind) (snap : Snap) → In q v.versions → q.kind ≡ k → q.ts.0 ≤ snap.rs → Grows v snap (Turns.joined_one v.own q k snap)
one-grows v q LocalKind snap i e le = grows_over v q (slice_get v.own (q.tx.seq - 1)) snap refl i e le
one-grows v q Pre snap i e le = grows_self v snap
one-grows v q Final snap i e le = grows_self v snap

joined-grows : (v : View) (qs : List Version) (snap : Snap) → ((q : Version) → In q qs → (In q v.versions) × (q.ts.0 ≤ snap.rs)) → Grows v snap (joined v.own qs snap)
joined-grows v [] snap f = grows_self v snap
joined-grows v (q ∷ qs) snap f =
    let g = f q (inl refl) in
    let one = one-grows v q q.kind snap g.0 refl g.1 in
    let s : Snap = Turns.joined_one v.own q q.kind snap in
    grows_more v snap s (joined v.own qs s) one (joined-grows v qs s (λ w h. ((f w (inr h)).0, omega (arith, one.rs, (f w (inr h)).1))))

abbrev CertGrows : View → Snap → CertTurn → Type 0
CertGrows v old (Certified lc new) = Grows v old new × (holds new ≡ true)
CertGrows v old (Conflict u k) = Unit {0}
CertGrows v old (WaitGate by) = Unit {0}

after-grows : (here : Here) (v : View) (snap : Snap) (ws : List Write) (o : Option Version) → find (conflicts snap.rs) (met ws v.versions) ≡ o → CertGrows v snap (Turns.cert_after here v snap ws o)
after-grows here v snap ws (Some q) e = tt
after-grows here v snap ws None e =
    let new : Snap = joined v.own (met ws v.versions) snap in
    if_elim (CertGrows v snap) (holds new) (Certified (1 + max new.rs (passed v ws)) new) (WaitGate (Turns.waits_for here (oldest new.deps)))
    (λ h. (joined-grows v (met ws v.versions) snap (λ q m. (in_met ws v.versions q m, below q (find_none (conflicts snap.rs) (met ws v.versions) q e m))), h)) (λ h. tt)
  where
    below : (q : Version) → conflicts snap.rs q ≡ false → q.ts.0 ≤ snap.rs
    below q z = ltb-false snap.rs q.ts.0 (or_false_right (is_pre q.kind) (nat_lt snap.rs q.ts.0) z)

cert-grows_any : (here : Here) (v : View) (snap : Snap) (ws : List Write) → CertGrows v snap (cert_turn here v snap ws)
unfolding cert_turn
cert-grows_any here v snap ws = after-grows here v snap ws (find (conflicts snap.rs) (met ws v.versions)) refl

pub cert-grows : (here : Here) (v : View) (snap : Snap) (ws : List Write) (lc : ℕ) (new : Snap) → cert_turn here v snap ws ≡ Certified lc new → Grows v snap new × (holds new ≡ true)
cert-grows here v snap ws lc new e = subst (CertGrows v snap) e (cert-grows_any here v snap ws)

-- ---- the gate

-- where the gate holds, no dependency began its reading below what was read as final
pub gate_below : (ffc : ℕ) (ds : List Dep) (d : Dep) → Rattle.std.specs.List.list_all (λ (z : Dep). Rattle.std.proofs.Common.nat_le ffc z.rs.0) ds ≡ true → In d ds → ffc ≤ d.rs.0
gate_below ffc [] d e h = absurd h
gate_below ffc (x ∷ xs) d e (inl q) =
    let l : ffc ≤ x.rs.0 = Rattle.std.proofs.Common.leb-true ffc x.rs.0 (and_true_left _ _ e) in omega (arith, l, ap (λ (z : Dep). z.rs.0) q)
gate_below ffc (x ∷ xs) d e (inr h) = gate_below ffc xs d (and_true_right _ _ e) h
