-- What a read saw at its node: no version of the key at or below the snapshot, or one below which all others lie.
use Rattle.dependency_set.specs.Snapshots.{Snap, accept_final, holds, oldest}
use Rattle.si_laws.proofs.Guards.ReadGuards.{Clear, LocalsClear}
use Rattle.si_laws.proofs.Guards.ChainsInTime.{InTime, IsVisible, none_pre, none_undecided, none_visible, visible_one}
use Rattle.std.proofs.Common.{Bool, List, None, Option, Some, ap, false, if◌then◌else◌, inl, inr, refl, slice_get, subst, sym, true, ℕ, ◌-◌, ◌<◌, ◌∙◌, ◌≡◌, ◌≢◌, ◌≤◌, ◌⊎◌}
use Rattle.str_base.specs.Versions.{is_pre, is_undecided, last_pre, last_undecided, mark_of, visible}
use Rattle.str_base.specs.declared.names.KeyId.{KeyId}
use Rattle.str_base.specs.declared.names.Kind.TheVariants.{Final, Local as LocalKind, Pre}
use Rattle.str_base.specs.declared.names.Kind.{Kind}
use Rattle.str_base.specs.declared.names.TxId.{TxId}
use Rattle.str_base.specs.declared.names.Value.TheVariants.{Absent}
use Rattle.str_base.specs.declared.names.Value.{Value}
use Rattle.str_base.specs.declared.names.Version.{Version}
use Rattle.str_model.specs.Turns.{Away, Give, Plain, ReadTurn, ServeTurn, ServeWait, Speculative, Wait, read_turn, serve_turn, take_over}
use Rattle.str_model.specs.Turns
use Rattle.str_model.specs.Views.{Own, View}
use Rattle.str_scene.specs.Scenes.{Here, first_or, hosts_key, part_of, replicas}
use Rattle.str_base.specs.Members.{In}
use Rattle.str_model.proofs.KindTests.{final_kind}

-- each version of the key but those above the snapshot is not Pre and not after p
pub record Sees (vs : List Version) (k : KeyId) (rs : ℕ) (p : Version) : Type 0 where
  pub is_in : In p vs
  pub key : p.key ≡ k
  pub below : p.ts.0 ≤ rs
  pub others : (q : Version) → In q vs → q.key ≡ k → (rs < q.ts.0) ⊎ ((q.kind ≢ Pre) × (q.ts.0 ≤ p.ts.0))

-- what was read: nothing at a node that has the key, or a Final version, or a Local one
pub data ReadSees (here : Here) (vs : List Version) (k : KeyId) (rs : ℕ) (a : Value) (by : Option TxId) : Type 0 where
  sees_none : by ≡ None → a ≡ Absent → hosts_key here k ≡ true → ((q : Version) → In q vs → q.key ≡ k → rs < q.ts.0) → ReadSees here vs k rs a by
  sees_final : (p : Version) → Sees vs k rs p → p.kind ≡ Final → by ≡ Some p.tx → a ≡ p.value → ReadSees here vs k rs a by
  sees_local : (p : Version) → Sees vs k rs p → p.kind ≡ LocalKind → by ≡ Some p.tx → a ≡ p.value → ReadSees here vs k rs a by

not_pre : (k : Kind) → is_pre k ≡ false → k ≢ Pre
not_pre k e q = cc (ap is_pre q, e)

decided_not_pre : (k : Kind) → is_undecided k ≡ false → k ≢ Pre
decided_not_pre k e q = cc (ap is_undecided q, e)

-- what is visible, where no Pre version is in the way
pub sees_visible : (vs : List Version) (k : KeyId) (rs : ℕ) (p : Version) → InTime vs → last_pre vs k rs ≡ None → visible vs k rs ≡ Some p → Sees vs k rs p
sees_visible vs k rs p t n e =
    let h = visible_one vs k rs p t e in
    record {
      is_in = h.is_in;
      key = h.key;
      below = h.below;
      others = λ q m key. elim (none_pre vs k rs n q m key) [
        | inl l ↦ inl l
        | inr f ↦ (elim (h.greatest q m key) [ inl l ↦ inl l | inr l ↦ inr (not_pre q.kind f, l) ])
      ];
    }

-- ---- own reads

-- what a turn that reads saw
abbrev TurnSees : Here → List Version → KeyId → ℕ → ReadTurn → Type 0
TurnSees here vs k rs (Plain a by fc new) = ReadSees here vs k rs a by
TurnSees here vs k rs (Speculative a u new) = ReadSees here vs k rs a (Some u)
TurnSees here vs k rs (Wait by) = Unit {0}
TurnSees here vs k rs (Away n) = Unit {0}

gated-sees : (here : Here) (vs : List Version) (k : KeyId) (rs : ℕ) (b : Bool) (t : ReadTurn) (u : TxId) → TurnSees here vs k rs t → TurnSees here vs k rs (if b then t else Wait u)
gated-sees here vs k rs true t u h = h
gated-sees here vs k rs false t u h = tt

kind-sees : (here : Here) (own : List Own) (vs : List Version) (snap : Snap) (k : KeyId) (p : Version) (kind : Kind) → p.kind ≡ kind → Sees vs k snap.rs p → TurnSees here vs k snap.rs (Turns.read_kind here own snap p kind)
kind-sees here own vs snap k p Pre e s = tt
kind-sees here own vs snap k p LocalKind e s =
    let new : Snap = take_over (slice_get own (p.tx.seq - 1)) p.tx.seq snap in
    gated-sees here vs k snap.rs (holds new) (Speculative p.value p.tx new) (Turns.waits_for here (oldest new.deps)) (sees_local p s e refl refl)
kind-sees here own vs snap k p Final e s =
    let new : Snap = accept_final snap p.ts.0 in
    gated-sees here vs k snap.rs (holds new) (Plain p.value (Some p.tx) p.ts.0 new) (Turns.waits_for here (oldest new.deps)) (sees_final p s e refl refl)

visible-sees : (here : Here) (v : View) (snap : Snap) (k : KeyId) (o : Option Version) → InTime v.versions → last_pre v.versions k snap.rs ≡ None → visible v.versions k snap.rs ≡ o
    → TurnSees here v.versions k snap.rs (Turns.read_visible here v.own snap k o)
visible-sees here v snap k None t n e = by_host (hosts_key here k) refl
  where
    by_host : (b : Bool) → hosts_key here k ≡ b → TurnSees here v.versions k snap.rs (if b then Turns.gated here snap (Plain Absent None 0 snap) else Away (first_or here.node (replicas here.scene (part_of here.scene k))))
    by_host true q = gated-sees here v.versions k snap.rs (holds snap) (Plain Absent None 0 snap) (Turns.waits_for here (oldest snap.deps)) (sees_none refl refl q (none_visible v.versions k snap.rs e))
    by_host false q = tt
visible-sees here v snap k (Some p) t n e = kind-sees here v.own v.versions snap k p p.kind refl (sees_visible v.versions k snap.rs p t n e)

turn-sees : (here : Here) (v : View) (snap : Snap) (k : KeyId) → InTime v.versions → TurnSees here v.versions k snap.rs (read_turn here v snap k)
unfolding read_turn
turn-sees here v snap k t = by_pre (last_pre v.versions k snap.rs) refl
  where
    by_pre : (o : Option Version) → last_pre v.versions k snap.rs ≡ o → TurnSees here v.versions k snap.rs (Turns.read_after here v snap k o)
    by_pre (Some q) e = tt
    by_pre None e = visible-sees here v snap k (visible v.versions k snap.rs) t e refl

pub plain-sees : (here : Here) (v : View) (snap : Snap) (k : KeyId) (a : Value) (by : Option TxId) (fc : ℕ) (new : Snap) → InTime v.versions → read_turn here v snap k ≡ Plain a by fc new
    → ReadSees here v.versions k snap.rs a by
plain-sees here v snap k a by fc new t e = subst (TurnSees here v.versions k snap.rs) e (turn-sees here v snap k t)

pub local-sees : (here : Here) (v : View) (snap : Snap) (k : KeyId) (a : Value) (u : TxId) (new : Snap) → InTime v.versions → read_turn here v snap k ≡ Speculative a u new
    → ReadSees here v.versions k snap.rs a (Some u)
local-sees here v snap k a u new t e = subst (TurnSees here v.versions k snap.rs) e (turn-sees here v snap k t)

-- ---- reads of other nodes

-- the answer: nothing, or a Final version with its timestamp
pub data ServeSees (vs : List Version) (k : KeyId) (rs : ℕ) (a : Value) (by : Option TxId) (fc : ℕ) : Type 0 where
  serves_none : by ≡ None → a ≡ Absent → ((q : Version) → In q vs → q.key ≡ k → rs < q.ts.0) → ServeSees vs k rs a by fc
  serves_final : (p : Version) → Sees vs k rs p → p.kind ≡ Final → by ≡ Some p.tx → a ≡ p.value → p.ts.0 ≡ fc → ServeSees vs k rs a by fc

pub serve-sees : (vs : List Version) (k : KeyId) (rs : ℕ) (a : Value) (by : Option TxId) (fc : ℕ) → InTime vs → serve_turn vs k rs ≡ Give a by fc → ServeSees vs k rs a by fc
unfolding serve_turn
serve-sees vs k rs a by fc t e = by_undecided (last_undecided vs k rs) refl e
  where
    seen_one : (p : Version) → last_undecided vs k rs ≡ None → visible vs k rs ≡ Some p → Sees vs k rs p × (p.kind ≡ Final)
    seen_one p n v = (
      record {
        is_in = h.is_in;
        key = h.key;
        below = h.below;
        others = λ q m key. elim (none_undecided vs k rs n q m key) [
          | inl l ↦ inl l
          | inr f ↦ (elim (h.greatest q m key) [ inl l ↦ inl l | inr l ↦ inr (decided_not_pre q.kind f, l) ])
        ];
      },
      kind_of,
    )
      where
        h : IsVisible vs k rs p
        h = visible_one vs k rs p t v

        kind_of : p.kind ≡ Final
        kind_of = elim (none_undecided vs k rs n p h.is_in h.key) [ inl l ↦ absurd (omega (Rattle.std.proofs.Common.arith, l, h.below)) | inr f ↦ final_kind p.kind f ]

    by_visible : (o : Option Version) → visible vs k rs ≡ o → last_undecided vs k rs ≡ None → Turns.serve_visible o ≡ Give a by fc → ServeSees vs k rs a by fc
    by_visible None v n q =
        let b : None ≡ by = cc q in
        let c : Absent ≡ a = cc q in serves_none (sym b) (sym c) (none_visible vs k rs v)
    by_visible (Some p) v n q =
        let s = seen_one p n v in
        let b : Some p.tx ≡ by = cc q in
        let c : p.value ≡ a = cc q in
        let f : p.ts.0 ≡ fc = cc q in serves_final p s.0 s.1 (sym b) (sym c) f

    by_undecided : (o : Option Version) → last_undecided vs k rs ≡ o → Turns.serve_after vs k rs o ≡ Give a by fc → ServeSees vs k rs a by fc
    by_undecided (Some v) p q = absurd (cc q)
    by_undecided None p q = by_visible (visible vs k rs) refl p q

-- ---- guards

pub clear_none : (v : View) (k : KeyId) (rs : ℕ) → rs ≤ mark_of v.marks k → ((q : Version) → In q v.versions → q.key ≡ k → rs < q.ts.0) → Clear v k rs None 0
clear_none v k rs m f = record { mark = m; each = λ q j key. inl (f q j key) }

pub clear_seen : (v : View) (k : KeyId) (rs : ℕ) (p : Version) → rs ≤ mark_of v.marks k → Sees v.versions k rs p → Clear v k rs (Some p.tx) p.ts.0
clear_seen v k rs p m s = record { mark = m; each = λ q j key. elim (s.others q j key) [ inl l ↦ inl l | inr u ↦ inr (inr u) ] }

pub locals_seen : (v : View) (k : KeyId) (rs : ℕ) (p : Version) → Sees v.versions k rs p → LocalsClear v k rs p.tx p.ts.0
locals_seen v k rs p s q j key loc = elim (s.others q j key) [ inl l ↦ inl l | inr u ↦ inr (inr u.1) ]
