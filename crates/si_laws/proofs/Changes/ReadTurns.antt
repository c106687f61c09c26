-- What a read, a reply and an answer to another node's read give: which version it is.
use Rattle.std.proofs.Common.{Bool, List, None, Option, Some, [], ap, false, filter, if◌then◌else◌, inl, inr, leb-true, nat_le, refl, slice_get, subst, sym, true, ℕ, ◌&&◌, ◌-◌, ◌∷◌, ◌≡◌, ◌≤◌, ◌⊎◌}
use Rattle.std.specs.List.{last_or}
use Rattle.str_base.specs.declared.names.KeyId.{KeyId}
use Rattle.str_base.specs.declared.names.Kind.{Kind}
use Rattle.str_base.specs.declared.names.Kind.TheVariants.{Final, Local as LocalKind, Pre}
use Rattle.str_base.specs.declared.names.TxId.{TxId}
use Rattle.str_base.specs.declared.names.Value.{Value}
use Rattle.str_base.specs.declared.names.Value.TheVariants.{Absent}
use Rattle.str_base.specs.declared.names.Version.{Version}
use Rattle.str_base.specs.Versions.{is_undecided, last_pre, last_undecided, same_key, visible}
use Rattle.dependency_set.specs.Snapshots.{Snap, accept_final, holds, oldest}
use Rattle.str_model.specs.Turns.{Away, Give, Plain, ReadTurn, ServeTurn, ServeWait, Speculative, Wait, read_turn, reply_turn, serve_turn, take_over}
use Rattle.str_model.specs.Turns
use Rattle.str_model.specs.Views.{Own, View}
use Rattle.str_scene.specs.Scenes.{Here, first_or, hosts_key, part_of, replicas}
use Rattle.str_model.proofs.Changes.SnapshotsGain.{Names, in_last, visible-is}
use Rattle.str_model.proofs.Changes.VersionsMet.{over_names}
use Rattle.str_base.proofs.Tests.{and_true_right}
use Rattle.str_base.proofs.Members.{filter_in, in_filter}
use Rattle.str_base.specs.Members.{In}

-- a plain read: of a Final version at or below the snapshot, or of nothing
abbrev pub PlainOf : View → Snap → Option TxId → Type 0
PlainOf v snap by = (by ≡ None) ⊎ ((q : Version) × (In q v.versions) × (q.kind ≡ Final) × (by ≡ Some q.tx) × (q.ts.0 ≤ snap.rs))

-- a speculative read: of a Local version, whose transaction enters the dependency set
abbrev pub LocalOf : View → Snap → TxId → Type 0
LocalOf v new u = (q : Version) × (In q v.versions) × (q.kind ≡ LocalKind) × (q.tx ≡ u) × ((o : Own) → slice_get v.own (q.tx.seq - 1) ≡ Some o → Names q.tx.seq new.deps)

abbrev TurnOf : View → Snap → ReadTurn → Type 0
TurnOf v snap (Plain a by fc new) = PlainOf v snap by
TurnOf v snap (Speculative a u new) = LocalOf v new u
TurnOf v snap (Wait by) = Unit {0}
TurnOf v snap (Away n) = Unit {0}

gated-of : (v : View) (snap : Snap) (b : Bool) (t : ReadTurn) (u : TxId) → TurnOf v snap t → TurnOf v snap (if b then t else Wait u)
gated-of v snap true t u h = h
gated-of v snap false t u h = tt

kind-of : (here : Here) (v : View) (snap : Snap) (q : Version) (k : Kind) → In q v.versions → q.kind ≡ k → q.ts.0 ≤ snap.rs → TurnOf v snap (Turns.read_kind here v.own snap q k)
kind-of here v snap q Pre h e le = tt
kind-of here v snap q LocalKind h e le =
    let new : Snap = take_over (slice_get v.own (q.tx.seq - 1)) q.tx.seq snap in
    gated-of v snap (holds new) (Speculative q.value q.tx new) _ (q, h, e, refl, λ o g. over_names (slice_get v.own (q.tx.seq - 1)) o q.tx.seq snap g)
kind-of here v snap q Final h e le =
    let new : Snap = accept_final snap q.ts.0 in gated-of v snap (holds new) (Plain q.value (Some q.tx) q.ts.0 new) _ (inr (q, h, e, refl, le))

visible-of : (here : Here) (v : View) (snap : Snap) (k : KeyId) (o : Option Version) → ((q : Version) → o ≡ Some q → (In q v.versions) × (q.ts.0 ≤ snap.rs)) → TurnOf v snap (Turns.read_visible here v.own snap k o)
visible-of here v snap k None f = by_host (hosts_key here k)
  where
    by_host : (b : Bool) → TurnOf v snap (if b then Turns.gated here snap (Plain Absent None 0 snap) else Away (first_or here.node (replicas here.scene (part_of here.scene k))))
    by_host true = gated-of v snap (holds snap) (Plain Absent None 0 snap) _ (inl refl)
    by_host false = tt
visible-of here v snap k (Some q) f = let g = f q refl in kind-of here v snap q q.kind g.0 refl g.1

read-of : (here : Here) (v : View) (snap : Snap) (k : KeyId) → TurnOf v snap (read_turn here v snap k)
unfolding read_turn
read-of here v snap k = by_pre (last_pre v.versions k snap.rs)
  where
    by_pre : (o : Option Version) → TurnOf v snap (Turns.read_after here v snap k o)
    by_pre (Some q) = tt
    by_pre None = visible-of here v snap k (visible v.versions k snap.rs) (visible-is v.versions k snap.rs)

pub plain-is : (here : Here) (v : View) (snap : Snap) (k : KeyId) (a : Value) (by : Option TxId) (fc : ℕ) (new : Snap) → read_turn here v snap k ≡ Plain a by fc new → PlainOf v snap by
plain-is here v snap k a by fc new e = subst (TurnOf v snap) e (read-of here v snap k)

pub local-is : (here : Here) (v : View) (snap : Snap) (k : KeyId) (a : Value) (u : TxId) (new : Snap) → read_turn here v snap k ≡ Speculative a u new → LocalOf v new u
local-is here v snap k a u new e = subst (TurnOf v snap) e (read-of here v snap k)

pub reply-is : (here : Here) (snap : Snap) (a b : Value) (by of : Option TxId) (fc gc : ℕ) (new : Snap) → reply_turn here snap a by fc ≡ Plain b of gc new → by ≡ of
unfolding reply_turn
reply-is here snap a b by of fc gc new e = by_gate (holds (accept_final snap fc)) e
  where
    by_gate : (t : Bool) → (if t then Plain a by fc (accept_final snap fc) else Wait (Turns.waits_for here (oldest (accept_final snap fc).deps))) ≡ Plain b of gc new → by ≡ of
    by_gate true q = cc q
    by_gate false q = absurd (cc q)

-- ---- the answer to another node's read

none_last : (xs : List Version) (o : Option Version) (x : Version) → last_or o xs ≡ None → In x xs → ⊥
none_last [] o x e h = h
none_last (y ∷ xs) o x e (inl q) = some_last xs y e
  where
    some_last : (zs : List Version) (z : Version) → last_or (Some z) zs ≡ None → ⊥
    some_last [] z e = cc e
    some_last (y ∷ zs) z e = some_last zs y e
none_last (y ∷ xs) o x e (inr h) = none_last xs (Some y) x e h

-- of a Final version at or below the timestamp, or of nothing
pub give-is : (vs : List Version) (k : KeyId) (rs : ℕ) (a : Value) (by : Option TxId) (fc : ℕ) → serve_turn vs k rs ≡ Give a by fc
    → (by ≡ None) ⊎ ((q : Version) × (In q vs) × (q.kind ≡ Final) × (by ≡ Some q.tx) × (q.ts.0 ≡ fc) × (q.ts.0 ≤ rs))
unfolding serve_turn
give-is vs k rs a by fc e = by_undecided (last_undecided vs k rs) refl e
  where
    by_kind : (q : Version) (kind : Kind) → q.kind ≡ kind → (is_undecided q.kind ≡ true → ⊥) → q.kind ≡ Final
    by_kind q Final e f = e
    by_kind q Pre e f = absurd (f (ap is_undecided e))
    by_kind q LocalKind e f = absurd (f (ap is_undecided e))

    no_and : (a b c : Bool) → (a && b) ≡ true → c ≡ true → (a && (b && c)) ≡ true
    no_and true true c p q = q
    no_and true false c p q = absurd (cc p)
    no_and false b c p q = absurd (cc p)

    by_visible : (o : Option Version) → visible vs k rs ≡ o → last_undecided vs k rs ≡ None → Turns.serve_visible o ≡ Give a by fc
        → (by ≡ None) ⊎ ((q : Version) × (In q vs) × (q.kind ≡ Final) × (by ≡ Some q.tx) × (q.ts.0 ≡ fc) × (q.ts.0 ≤ rs))
    by_visible None p n q = let s : None ≡ by = cc q in inl (sym s)
    by_visible (Some v) p n q =
        let h = elim (in_last None (filter (λ (x : Version). same_key x.key k && nat_le x.ts.0 rs) vs) v p) as (λ z. In v (filter (λ (x : Version). same_key x.key k && nat_le x.ts.0 rs) vs)) [ inl z ↦ absurd (cc z) | inr z ↦ z ] in
        let f = in_filter (λ (x : Version). same_key x.key k && nat_le x.ts.0 rs) vs v h in
        let s : Some v.tx ≡ by = cc q in
        let t : v.ts.0 ≡ fc = cc q in
        inr (
          v,
          f.0,
          by_kind v v.kind refl (λ u. none_last (filter (λ (x : Version). same_key x.key k && (nat_le x.ts.0 rs && is_undecided x.kind)) vs) None v n
              (filter_in (λ (x : Version). same_key x.key k && (nat_le x.ts.0 rs && is_undecided x.kind)) vs v f.0 (no_and (same_key v.key k) (nat_le v.ts.0 rs) (is_undecided v.kind) f.1 u))),
          sym s,
          t,
          leb-true v.ts.0 rs (and_true_right (same_key v.key k) (nat_le v.ts.0 rs) f.1),
        )

    by_undecided : (o : Option Version) → last_undecided vs k rs ≡ o → Turns.serve_after vs k rs o ≡ Give a by fc
        → (by ≡ None) ⊎ ((q : Version) × (In q vs) × (q.kind ≡ Final) × (by ≡ Some q.tx) × (q.ts.0 ≡ fc) × (q.ts.0 ≤ rs))
    by_undecided (Some v) p q = absurd (cc q)
    by_undecided None p q = by_visible (visible vs k rs) refl p q
