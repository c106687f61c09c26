-- What a turn takes into a snapshot: the dependencies that it gains come from Local versions at or below its timestamp.
use Rattle.std.proofs.Common.{Bool, List, None, Option, Some, [], arith, eqb-true, false, filter, find, if◌then◌else◌, inl, inr, leb-true, ltb-false, max, nat_le, nat_lt, refl, slice_get, subst, sym, true, ℕ, ◌&&◌, ◌+◌, ◌-◌, ◌<◌, ◌==◌, ◌∙◌, ◌∷◌, ◌≡◌, ◌≤◌, ◌⊎◌}
use Rattle.std.specs.List.{last_or}
use Rattle.dependency_set.specs.declared.names.Dep.{Dep}
use Rattle.str_base.specs.declared.names.KeyId.{KeyId}
use Rattle.str_base.specs.declared.names.Kind.{Kind}
use Rattle.str_base.specs.declared.names.Kind.TheVariants.{Final, Local as LocalKind, Pre}
use Rattle.str_base.specs.declared.names.TxId.{TxId}
use Rattle.str_base.specs.declared.names.Value.{Value}
use Rattle.str_base.specs.declared.names.Value.TheVariants.{Absent}
use Rattle.str_base.specs.declared.names.Version.{Version}
use Rattle.str_base.specs.declared.names.Write.{Write}
use Rattle.str_scene.specs.Scenes.{Here, hosts_key}
use Rattle.dependency_set.specs.Snapshots.{Snap, accept_final, holds, insert_dep, oldest, union}
use Rattle.str_model.specs.Turns.{Away, CertTurn, Certified, CommittedAt, Conflict, Plain, ReadTurn, Speculative, Wait, WaitGate, cert_turn, conflicts, gated, joined, met, own_fate, passed, read_turn, reply_turn, take_over}
use Rattle.str_model.specs.Turns
use Rattle.str_base.specs.Versions.{chain, is_pre, last_pre, same_key, stamp, visible}
use Rattle.str_model.specs.Views.{Own, View}
use Rattle.str_base.proofs.Tests.{and_true_right, or_false_right}
use Rattle.str_base.proofs.Members.{find_none, in_filter, in_flat_map}
use Rattle.str_base.specs.Members.{In}

-- a choice by a test
pub if_elim : {A : Type 0} (P : A → Type 0) (b : Bool) (x y : A) → (b ≡ true → P x) → (b ≡ false → P y) → P (if b then x else y)
if_elim P true x y p q = p refl
if_elim P false x y p q = q refl

-- the dependency comes from a Local version at or below rs: it is the version's transaction, or one of that one's own
pub data Gains (view : View) (rs : ℕ) (dep : Dep) : Type 0 where
  gains_it : (v : Version) (u : Own) → In v view.versions → v.kind ≡ LocalKind → v.ts.0 ≤ rs → slice_get view.own (v.tx.seq - 1) ≡ Some u
      → dep ≡ record { seq = v.tx.seq; rs = stamp u.snap.rs } → Gains view rs dep
  gains_of : (v : Version) (u : Own) → In v view.versions → v.kind ≡ LocalKind → v.ts.0 ≤ rs → slice_get view.own (v.tx.seq - 1) ≡ Some u
      → In dep u.snap.deps → Gains view rs dep

-- one of the dependencies has this number
abbrev pub Names : ℕ → List Dep → Type 0
Names seq ds = (dep : Dep) × (In dep ds) × (dep.seq ≡ seq)

-- the dependency's transaction has committed at or below rs
abbrev pub Settles : View → ℕ → Dep → Type 0
Settles view rs dep = (fc : ℕ) × (own_fate (slice_get view.own (dep.seq - 1)) ≡ CommittedAt fc) × (fc ≤ rs)

-- the new snapshot has the timestamp of the old one, and no dependency but old ones and gained ones; an old one that it has no more
-- has committed at or below the timestamp
pub record Extends (view : View) (old new : Snap) : Type 0 where
  pub rs : new.rs ≡ old.rs
  pub deps : (dep : Dep) → In dep new.deps → In dep old.deps ⊎ Gains view old.rs dep
  pub kept : (dep : Dep) → In dep old.deps → Names dep.seq new.deps ⊎ Settles view old.rs dep

pub in_insert_dep_old : (d : Dep) (ds : List Dep) (x : Dep) → In x ds → In x (insert_dep d ds)
in_insert_dep_old d [] x h = absurd h
in_insert_dep_old d (e ∷ es) x h = by_tests (in_insert_dep_old d es x) (nat_lt d.seq e.seq) (d.seq == e.seq) h
  where
    by_tests : (In x es → In x (insert_dep d es)) → (b c : Bool) → In x (e ∷ es) → In x (if b then d ∷ e ∷ es else (if c then e ∷ es else e ∷ insert_dep d es))
    by_tests rec true c k = inr k
    by_tests rec false true k = k
    by_tests rec false false (inl q) = inl q
    by_tests rec false false (inr k) = inr (rec k)

pub insert_dep_names : (d : Dep) (ds : List Dep) → Names d.seq (insert_dep d ds)
insert_dep_names d [] = (d, inl refl, refl)
insert_dep_names d (e ∷ es) = by_tests (insert_dep_names d es) (nat_lt d.seq e.seq) (d.seq == e.seq) refl
  where
    by_tests : Names d.seq (insert_dep d es) → (b c : Bool) → (d.seq == e.seq) ≡ c → Names d.seq (if b then d ∷ e ∷ es else (if c then e ∷ es else e ∷ insert_dep d es))
    by_tests rec true c q = (d, inl refl, refl)
    by_tests rec false true q = (e, inl refl, sym (eqb-true d.seq e.seq q))
    by_tests rec false false q = (rec.0, inr rec.1, rec.2)

pub in_union_right : (ds es : List Dep) (x : Dep) → In x es → In x (union ds es)
in_union_right [] es x h = h
in_union_right (d ∷ ds) es x h = in_insert_dep_old d (union ds es) x (in_union_right ds es x h)

pub union_names : (ds es : List Dep) (x : Dep) → In x ds → Names x.seq (union ds es)
union_names [] es x h = absurd h
union_names (d ∷ ds) es x (inl q) = subst (λ (z : Dep). Names z.seq (insert_dep d (union ds es))) q (insert_dep_names d (union ds es))
union_names (d ∷ ds) es x (inr h) = let r = union_names ds es x h in (r.0, in_insert_dep_old d (union ds es) r.0 r.1, r.2)

pub in_insert_dep : (d : Dep) (ds : List Dep) (x : Dep) → In x (insert_dep d ds) → (d ≡ x) ⊎ In x ds
in_insert_dep d [] x (inl e) = inl e
in_insert_dep d [] x (inr h) = absurd h
in_insert_dep d (e ∷ es) x h = by_tests (in_insert_dep d es x) (nat_lt d.seq e.seq) (d.seq == e.seq) h
  where
    by_tests : (In x (insert_dep d es) → (d ≡ x) ⊎ In x es) → (b c : Bool) → In x (if b then d ∷ e ∷ es else (if c then e ∷ es else e ∷ insert_dep d es)) → (d ≡ x) ⊎ In x (e ∷ es)
    by_tests rec true c (inl q) = inl q
    by_tests rec true c (inr k) = inr k
    by_tests rec false true k = inr k
    by_tests rec false false (inl q) = inr (inl q)
    by_tests rec false false (inr k) = elim (rec k) [ inl q ↦ inl q | inr j ↦ inr (inr j) ]

pub in_union : (ds es : List Dep) (x : Dep) → In x (union ds es) → In x ds ⊎ In x es
in_union [] es x h = inr h
in_union (d ∷ ds) es x h =
    elim (in_insert_dep d (union ds es) x h) [ inl q ↦ inl (inl q) | inr k ↦ (elim (in_union ds es x k) [ inl j ↦ inl (inr j) | inr j ↦ inr j ]) ]

pub extends_self : (view : View) (snap : Snap) → Extends view snap snap
extends_self view snap = record { rs = refl; deps = λ d h. inl h; kept = λ d h. inl (d, h, refl) }

extends_more : (view : View) (a b c : Snap) → Extends view a b → Extends view b c → Extends view a c
extends_more view a b c x y =
    record {
      rs = y.rs ∙ x.rs;
      deps = λ d h. elim (y.deps d h) [ inl k ↦ x.deps d k | inr g ↦ inr (subst (λ r. Gains view r d) x.rs g) ];
      kept = λ d h. elim (x.kept d h) [ inl n ↦ later d n (y.kept n.0 n.1) | inr t ↦ inr t ];
    }
  where
    later : (d : Dep) (n : Names d.seq b.deps) → Names n.0.seq c.deps ⊎ Settles view b.rs n.0 → Names d.seq c.deps ⊎ Settles view a.rs d
    later d n (inl m) = inl (m.0, m.1, m.2 ∙ n.2)
    later d n (inr t) = inr (t.0, subst (λ k. own_fate (slice_get view.own (k - 1)) ≡ CommittedAt t.0) n.2 t.1, omega (arith, t.2, x.rs))

extends_over : (view : View) (v : Version) (o : Option Own) (snap : Snap) → slice_get view.own (v.tx.seq - 1) ≡ o → In v view.versions → v.kind ≡ LocalKind → v.ts.0 ≤ snap.rs
    → Extends view snap (take_over o v.tx.seq snap)
extends_over view v None snap e i k le = extends_self view snap
extends_over view v (Some u) snap e i k le =
    record {
      rs = refl;
      deps = λ d h. elim (in_insert_dep (record { seq = v.tx.seq; rs = stamp u.snap.rs }) (union u.snap.deps snap.deps) d h) [
        | inl q ↦ inr (gains_it v u i k le e (sym q))
        | inr j ↦ (elim (in_union u.snap.deps snap.deps d j) [ inl m ↦ inr (gains_of v u i k le e m) | inr m ↦ inl m ])
      ];
      kept = λ d h. inl (d, in_insert_dep_old (record { seq = v.tx.seq; rs = stamp u.snap.rs }) (union u.snap.deps snap.deps) d (in_union_right u.snap.deps snap.deps d h), refl);
    }

-- ---- reads

abbrev pub TurnGood : View → Snap → ReadTurn → Type 0
TurnGood view old (Plain v by fc snap) = Extends view old snap
TurnGood view old (Speculative v by snap) = Extends view old snap
TurnGood view old (Wait by) = Unit {0}
TurnGood view old (Away n) = Unit {0}

gated-good : (view : View) (old : Snap) (here : Here) (snap : Snap) (turn : ReadTurn) → TurnGood view old turn → TurnGood view old (gated here snap turn)
gated-good view old here snap turn h =
    if_elim (TurnGood view old) (holds snap) turn (Wait (Turns.waits_for here (oldest snap.deps))) (λ e. h) (λ e. tt)

final_good : (view : View) (snap : Snap) (fc : ℕ) → Extends view snap (accept_final snap fc)
final_good view snap fc = record { rs = refl; deps = λ d h. inl h; kept = λ d h. inl (d, h, refl) }

read_kind-good : (here : Here) (view : View) (snap : Snap) (v : Version) (k : Kind) → In v view.versions → v.kind ≡ k → v.ts.0 ≤ snap.rs
    → TurnGood view snap (Turns.read_kind here view.own snap v k)
read_kind-good here view snap v Pre i e le = tt
read_kind-good here view snap v LocalKind i e le =
    let snap' = take_over (slice_get view.own (v.tx.seq - 1)) v.tx.seq snap in
    gated-good view snap here snap' (Speculative v.value v.tx snap') (extends_over view v (slice_get view.own (v.tx.seq - 1)) snap refl i e le)
read_kind-good here view snap v Final i e le =
    let snap' = accept_final snap v.ts.0 in gated-good view snap here snap' (Plain v.value (Some v.tx) v.ts.0 snap') (final_good view snap v.ts.0)

read_visible-good : (here : Here) (view : View) (snap : Snap) (k : KeyId) (o : Option Version) → ((v : Version) → o ≡ Some v → (In v view.versions) × (v.ts.0 ≤ snap.rs))
    → TurnGood view snap (Turns.read_visible here view.own snap k o)
read_visible-good here view snap k None f =
    if_elim (TurnGood view snap) (hosts_key here k) _ _ (λ e. gated-good view snap here snap (Plain Absent None 0 snap) (extends_self view snap)) (λ e. tt)
read_visible-good here view snap k (Some v) f = let g = f v refl in read_kind-good here view snap v v.kind g.0 refl g.1

pub in_last : (o : Option Version) (xs : List Version) (v : Version) → last_or o xs ≡ Some v → (o ≡ Some v) ⊎ In v xs
in_last o [] v e = inl e
in_last o (x ∷ xs) v e = elim (in_last (Some x) xs v e) [ inl q ↦ inr (inl cc) | inr h ↦ inr (inr h) ]

pub visible-is : (vs : List Version) (k : KeyId) (r : ℕ) (v : Version) → visible vs k r ≡ Some v → (In v vs) × (v.ts.0 ≤ r)
visible-is vs k r v e =
    elim (in_last None (filter (λ (x : Version). same_key x.key k && nat_le x.ts.0 r) vs) v e) [
      | inl q ↦ absurd (cc q)
      | inr h ↦ (let g = in_filter (λ (x : Version). same_key x.key k && nat_le x.ts.0 r) vs v h in (g.0, leb-true v.ts.0 r (and_true_right (same_key v.key k) (nat_le v.ts.0 r) g.1)))
    ]

read_after-good : (here : Here) (view : View) (snap : Snap) (k : KeyId) (o : Option Version) → TurnGood view snap (Turns.read_after here view snap k o)
read_after-good here view snap k (Some v) = tt
read_after-good here view snap k None = read_visible-good here view snap k (visible view.versions k snap.rs) (visible-is view.versions k snap.rs)

pub read_turn-good : (here : Here) (view : View) (snap : Snap) (k : KeyId) → TurnGood view snap (read_turn here view snap k)
unfolding read_turn
read_turn-good here view snap k = read_after-good here view snap k (last_pre view.versions k snap.rs)

pub reply_turn-good : (here : Here) (view : View) (snap : Snap) (v : Value) (by : Option TxId) (fc : ℕ) → TurnGood view snap (reply_turn here snap v by fc)
unfolding reply_turn
reply_turn-good here view snap v by fc =
    let snap' = accept_final snap fc in gated-good view snap here snap' (Plain v by fc snap') (final_good view snap fc)

-- ---- certification

abbrev pub CertGood : View → Snap → CertTurn → Type 0
CertGood view old (Certified lc snap) = (Extends view old snap) × (old.rs < lc)
CertGood view old (Conflict u k) = Unit {0}
CertGood view old (WaitGate by) = Unit {0}

joined_one-good : (view : View) (v : Version) (k : Kind) (snap : Snap) → In v view.versions → v.kind ≡ k → v.ts.0 ≤ snap.rs → Extends view snap (Turns.joined_one view.own v k snap)
joined_one-good view v LocalKind snap i e le = extends_over view v (slice_get view.own (v.tx.seq - 1)) snap refl i e le
joined_one-good view v Pre snap i e le = extends_self view snap
joined_one-good view v Final snap i e le = extends_self view snap

joined-good : (view : View) (vs : List Version) (snap : Snap) → ((v : Version) → In v vs → (In v view.versions) × (v.ts.0 ≤ snap.rs)) → Extends view snap (joined view.own vs snap)
joined-good view [] snap f = extends_self view snap
joined-good view (v ∷ vs) snap f =
    let g = f v (inl refl) in
    let one = joined_one-good view v v.kind snap g.0 refl g.1 in
    let s = Turns.joined_one view.own v v.kind snap in
    extends_more view snap s (joined view.own vs s) one
    (joined-good view vs s (λ w h. ((f w (inr h)).0, omega (arith, one.rs, (f w (inr h)).1))))

pub in_met : (ws : List Write) (vs : List Version) (v : Version) → In v (met ws vs) → In v vs
in_met ws vs v h =
    let r = in_flat_map (λ (w : Write). chain w.key vs) ws v h in (in_filter (λ (x : Version). same_key x.key r.0.key) vs v r.2).0

cert_joined-good : (here : Here) (view : View) (ws : List Write) (old snap : Snap) → Extends view old snap → CertGood view old (Turns.cert_joined here view ws snap)
cert_joined-good here view ws old snap x =
    if_elim (CertGood view old) (holds snap) (Certified (1 + max snap.rs (passed view ws)) snap) (WaitGate (Turns.waits_for here (oldest snap.deps)))
    (λ h. (x, omega (arith, x.rs))) (λ h. tt)

cert_after-good : (here : Here) (view : View) (snap : Snap) (ws : List Write) (o : Option Version) → find (conflicts snap.rs) (met ws view.versions) ≡ o
    → CertGood view snap (Turns.cert_after here view snap ws o)
cert_after-good here view snap ws (Some v) e = tt
cert_after-good here view snap ws None e =
    cert_joined-good here view ws snap (joined view.own (met ws view.versions) snap)
    (joined-good view (met ws view.versions) snap (λ v h. (in_met ws view.versions v h, below v (find_none (conflicts snap.rs) (met ws view.versions) v e h))))
  where
    below : (v : Version) → conflicts snap.rs v ≡ false → v.ts.0 ≤ snap.rs
    below v q = ltb-false snap.rs v.ts.0 (or_false_right (is_pre v.kind) (nat_lt snap.rs v.ts.0) q)

pub cert_turn-good : (here : Here) (view : View) (snap : Snap) (ws : List Write) → CertGood view snap (cert_turn here view snap ws)
unfolding cert_turn
cert_turn-good here view snap ws = cert_after-good here view snap ws (find (conflicts snap.rs) (met ws view.versions)) refl
