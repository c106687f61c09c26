-- What a read comes to by what it finds, and why it waits or is a master's.
use Rattle.std.proofs.Common.{Bool, List, None, Option, Some, ap, false, if◌then◌else◌, is_some, option_map, refl, slice_get, sym, true, ℕ, ◌-◌, ◌∙◌, ◌≡◌, ◌↔◌}
use Rattle.dependency_set.specs.declared.snaps.OwnSnap.{OwnSnap}
use Rattle.dependency_set.specs.Snapshots.{Snap, holds}
use Rattle.snapshot_read.proofs.Gating.{gated_waits, waits_gated}
use Rattle.snapshot_read.proofs.Seeing.{not_pre}
use Rattle.snapshot_read.specs.Causes.{GateWaits, IsAway, ReadWaits, at_gate, on_pre, with_kind}
use Rattle.snapshot_read.specs.declared.reads.ReadTurn.{ReadTurn}
use Rattle.snapshot_read.specs.declared.reads.ReadTurn.TheVariants as turns
use Rattle.snapshot_read.specs.Shown.{Agree, IsNamed, taken_over, told}
use Rattle.snapshot_read.specs.Turning.{turn_of}
use Rattle.str_base.specs.declared.names.KeyId.{KeyId}
use Rattle.str_base.specs.declared.names.Kind.{Kind}
use Rattle.str_base.specs.declared.names.Kind.TheVariants.{Final, Local, Pre}
use Rattle.str_base.specs.declared.names.NodeId.{NodeId}
use Rattle.str_base.specs.declared.names.TxId.{TxId}
use Rattle.str_base.specs.declared.names.Value.TheVariants.{Absent}
use Rattle.str_base.specs.declared.names.Version.{Version}
use Rattle.str_base.specs.Versions.{last_pre, visible}
use Rattle.str_model.specs.Turns
use Rattle.str_model.specs.Turns.{Away, Plain, Speculative, Wait, gated, read_after, read_kind, read_turn, read_visible, take_over, waits_for}
use Rattle.str_model.specs.Views.{Own, View}
use Rattle.str_scene.specs.Scenes.{Here, first_or, hosts_key, part_of, replicas}
use Rattle.dependency_set.specs.Snapshots.{oldest}

-- ---- what is told of own transactions

-- what is taken over is what the view's own transaction brings
pub taken_here : (xs : List Own) (own : List OwnSnap) (q : ℕ) (snap : Snap) → Agree xs own → IsNamed own q → take_over (slice_get xs (q - 1)) q snap ≡ taken_over (told own q) q snap
taken_here xs own q snap a n = by_told (told own q) refl n
  where
    by_own : (of : Snap) (x : Option Own) → option_map (λ y. y.snap) x ≡ Some of → take_over x q snap ≡ taken_over (Some of) q snap
    by_own of None e = absurd (cc e)
    by_own of (Some x) e = let same : x.snap ≡ of = cc e in rw same refl

    by_told : (t : Option Snap) → told own q ≡ t → (is_some t) ≡ true → take_over (slice_get xs (q - 1)) q snap ≡ taken_over t q snap
    by_told None e m = absurd (cc m)
    by_told (Some of) e m = by_own of (slice_get xs (q - 1)) (a q of e)

-- ---- by what is found

module _ (here : Here) (view : View) (snap : Snap) (k : KeyId) where
  pub read_pre : (v : Version) → last_pre view.versions k snap.rs ≡ Some v → read_turn here view snap k ≡ Wait v.tx
  unfolding read_turn
  read_pre v e = rw e refl

  pub read_seen : (v : Version) → last_pre view.versions k snap.rs ≡ None → visible view.versions k snap.rs ≡ Some v → read_turn here view snap k ≡ read_kind here view.own snap v v.kind
  unfolding read_turn
  read_seen v n e = rw (n, e) refl

  pub read_unseen : last_pre view.versions k snap.rs ≡ None → visible view.versions k snap.rs ≡ None → hosts_key here k ≡ true
      → read_turn here view snap k ≡ gated here snap (Plain Absent None 0 snap)
  unfolding read_turn
  read_unseen n e h = rw (n, e, h) refl

  pub read_away : last_pre view.versions k snap.rs ≡ None → visible view.versions k snap.rs ≡ None → hosts_key here k ≡ false
      → read_turn here view snap k ≡ Away (first_or here.node (replicas here.scene (part_of here.scene k)))
  unfolding read_turn
  read_away n e h = rw (n, e, h) refl

  -- ---- why it waits

  -- the read of a version waits where the gate of the new snapshot does
  kind_waits : (v : Version) (kind : Kind) (by : TxId) → (kind ≡ Pre → ⊥) → read_kind here view.own snap v kind ≡ Wait by → GateWaits here.node (with_kind view.own snap v kind) by
  kind_waits v Pre by n e = absurd (n refl)
  kind_waits v Local by n e = gated_waits here (with_kind view.own snap v Local) (Speculative v.value v.tx (with_kind view.own snap v Local)) by (λ m q. cc q) e
  kind_waits v Final by n e = gated_waits here (with_kind view.own snap v Final) (Plain v.value (Some v.tx) v.ts.0 (with_kind view.own snap v Final)) by (λ m q. cc q) e

  waits_kind : (v : Version) (kind : Kind) (by : TxId) → (kind ≡ Pre → ⊥) → GateWaits here.node (with_kind view.own snap v kind) by → read_kind here view.own snap v kind ≡ Wait by
  waits_kind v Pre by n g = absurd (n refl)
  waits_kind v Local by n g = waits_gated here (with_kind view.own snap v Local) (Speculative v.value v.tx (with_kind view.own snap v Local)) by g
  waits_kind v Final by n g = waits_gated here (with_kind view.own snap v Final) (Plain v.value (Some v.tx) v.ts.0 (with_kind view.own snap v Final)) by g

  no_away : (h : hosts_key here k ≡ true) (m : NodeId) → IsAway here view snap k m → ⊥
  no_away h m a = cc (h, a.elsewhere)

  seen_here : (v : Version) → visible view.versions k snap.rs ≡ Some v → (m : NodeId) → IsAway here view snap k m → ⊥
  seen_here v e m a = cc (e, a.unseen)

  why : (by : TxId) → read_turn here view snap k ≡ Wait by → ReadWaits here view snap k by
  why by e = by_pre (last_pre view.versions k snap.rs) refl
    where
      by_hosted : last_pre view.versions k snap.rs ≡ None → visible view.versions k snap.rs ≡ None → (b : Bool) → hosts_key here k ≡ b → ReadWaits here view snap k by
      by_hosted n s true h = at_gate n (no_away h) (rw s (gated_waits here snap (Plain Absent None 0 snap) by (λ m q. cc q) (sym (read_unseen n s h) ∙ e)))
      by_hosted n s false h = absurd (cc (read_away n s h, e))

      by_seen : last_pre view.versions k snap.rs ≡ None → (w : Option Version) → visible view.versions k snap.rs ≡ w → ReadWaits here view snap k by
      by_seen n None s = by_hosted n s (hosts_key here k) refl
      by_seen n (Some v) s = at_gate n (seen_here v s) (rw s (kind_waits v v.kind by (not_pre view.versions k snap.rs v s n) (sym (read_seen v n s) ∙ e)))

      by_pre : (p : Option Version) → last_pre view.versions k snap.rs ≡ p → ReadWaits here view snap k by
      by_pre None n = by_seen n (visible view.versions k snap.rs) refl
      by_pre (Some v) q = on_pre v q (cc (read_pre v q, e))

  so_waits : (by : TxId) → ReadWaits here view snap k by → read_turn here view snap k ≡ Wait by
  so_waits by (on_pre v q e) = rw e (read_pre v q)
  so_waits by (at_gate n a g) = by_seen (visible view.versions k snap.rs) refl
    where
      by_hosted : visible view.versions k snap.rs ≡ None → (b : Bool) → hosts_key here k ≡ b → GateWaits here.node snap by → read_turn here view snap k ≡ Wait by
      by_hosted s true h f = read_unseen n s h ∙ waits_gated here snap (Plain Absent None 0 snap) by f
      by_hosted s false h f = absurd (a (first_or here.node (replicas here.scene (part_of here.scene k))) (record { no_pre = n; elsewhere = h; unseen = s; named = refl }))

      by_seen : (w : Option Version) → visible view.versions k snap.rs ≡ w → read_turn here view snap k ≡ Wait by
      by_seen None s = by_hosted s (hosts_key here k) refl (rw s at g)
      by_seen (Some v) s = read_seen v n s ∙ waits_kind v v.kind by (not_pre view.versions k snap.rs v s n) (rw s at g)

  -- ---- when it is a master's

  no_gate : (s : Snap) (turn : Turns.ReadTurn) (m : NodeId) → (turn ≡ Away m → ⊥) → gated here s turn ≡ Away m → ⊥
  no_gate s turn m n e = by_test (holds s) e
    where
      by_test : (b : Bool) → (if b then turn else Wait (waits_for here (oldest s.deps))) ≡ Away m → ⊥
      by_test true f = n f
      by_test false f = cc f

  no_kind : (v : Version) (kind : Kind) (m : NodeId) → read_kind here view.own snap v kind ≡ Away m → ⊥
  no_kind v Pre m e = cc e
  no_kind v Local m e = no_gate (with_kind view.own snap v Local) (Speculative v.value v.tx (with_kind view.own snap v Local)) m (λ q. cc q) e
  no_kind v Final m e = no_gate (with_kind view.own snap v Final) (Plain v.value (Some v.tx) v.ts.0 (with_kind view.own snap v Final)) m (λ q. cc q) e

  away : (m : NodeId) → read_turn here view snap k ≡ Away m → IsAway here view snap k m
  away m e = by_pre (last_pre view.versions k snap.rs) refl
    where
      by_hosted : last_pre view.versions k snap.rs ≡ None → visible view.versions k snap.rs ≡ None → (b : Bool) → hosts_key here k ≡ b → IsAway here view snap k m
      by_hosted n s true h = absurd (no_gate snap (Plain Absent None 0 snap) m (λ q. cc q) (sym (read_unseen n s h) ∙ e))
      by_hosted n s false h = record { no_pre = n; elsewhere = h; unseen = s; named = cc (read_away n s h, e) }

      by_seen : last_pre view.versions k snap.rs ≡ None → (w : Option Version) → visible view.versions k snap.rs ≡ w → IsAway here view snap k m
      by_seen n None s = by_hosted n s (hosts_key here k) refl
      by_seen n (Some v) s = absurd (no_kind v v.kind m (sym (read_seen v n s) ∙ e))

      by_pre : (p : Option Version) → last_pre view.versions k snap.rs ≡ p → IsAway here view snap k m
      by_pre None n = by_seen n (visible view.versions k snap.rs) refl
      by_pre (Some v) q = absurd (cc (read_pre v q, e))

  so_away : (m : NodeId) → IsAway here view snap k m → read_turn here view snap k ≡ Away m
  so_away m a = rw a.named (read_away a.no_pre a.unseen a.elsewhere)

  -- ---- of the turn that the code gives

  to_wait : (t : ReadTurn) (by : TxId) → turn_of t ≡ Wait by → t ≡ turns.Wait by
  to_wait (turns.Plain v b fc s) by e = absurd (cc e)
  to_wait (turns.Speculative v b s) by e = absurd (cc e)
  to_wait (turns.Wait b) by e = let q : b ≡ by = cc e in rw q refl
  to_wait (turns.Remote m) by e = absurd (cc e)

  to_away : (t : ReadTurn) (m : NodeId) → turn_of t ≡ Away m → t ≡ turns.Remote m
  to_away (turns.Plain v b fc s) m e = absurd (cc e)
  to_away (turns.Speculative v b s) m e = absurd (cc e)
  to_away (turns.Wait b) m e = absurd (cc e)
  to_away (turns.Remote n) m e = let q : n ≡ m = cc e in rw q refl

  pub read_waits : (t : ReadTurn) → turn_of t ≡ read_turn here view snap k → (by : TxId) → (t ≡ turns.Wait by) ↔ ReadWaits here view snap k by
  read_waits t e by = (λ q. why by (sym e ∙ ap turn_of q), λ w. to_wait t by (e ∙ so_waits by w))

  pub read_remote : (t : ReadTurn) → turn_of t ≡ read_turn here view snap k → (m : NodeId) → (t ≡ turns.Remote m) ↔ IsAway here view snap k m
  read_remote t e m = (λ q. away m (sym e ∙ ap turn_of q), λ a. to_away t m (e ∙ so_away m a))
