-- What a read and a reply give is a version of the key.
use Rattle.dependency_set.specs.Snapshots.{Snap, accept_final, holds, oldest}
use Rattle.str_model.proofs.ViewFacts.MarksRise.{finish-looks}
use Rattle.str_model.proofs.Principle.SingleChanges.{Change, Comes, ReadsTo, ch_away, ch_blind, ch_close, ch_gate, ch_known, ch_read, ch_reply, ch_resolve, ch_take, ch_wait, to_final, to_local}
use Rattle.str_model.proofs.Changes.SnapshotsGain.{if_elim, in_last}
use Rattle.si_laws.proofs.Changes.ReadTurns.{reply-is}
use Rattle.std.proofs.Common.{Bool, List, None, Option, Some, [], ap, false, filter, if◌then◌else◌, inl, inr, nat_le, refl, slice_get, subst, subst₂, sym, true, ℕ, ◌&&◌, ◌+◌, ◌-◌, ◌∙◌, ◌∷◌, ◌≡◌}
use Rattle.str_base.specs.declared.names.KeyId.{KeyId}
use Rattle.str_base.specs.declared.names.Kind.{Kind}
use Rattle.str_base.specs.declared.names.Kind.TheVariants.{Final, Local as LocalKind, Pre}
use Rattle.str_base.specs.declared.names.NodeId.{NodeId}
use Rattle.str_base.specs.declared.names.Ts.{Ts}
use Rattle.str_base.specs.declared.names.TxId.{TxId}
use Rattle.str_base.specs.declared.names.Value.{Value}
use Rattle.str_base.specs.declared.names.Value.TheVariants.{Absent}
use Rattle.str_base.specs.declared.names.Version.{Version}
use Rattle.str_base.specs.Values.{is_below}
use Rattle.str_base.specs.Versions.{last_pre, last_undecided, same_key, visible}
use Rattle.str_model.specs.declared.messages.Body.TheVariants.{ReadReply}
use Rattle.str_model.specs.declared.messages.Input.{Input}
use Rattle.str_model.specs.declared.names.ReadDone.{ReadDone}
use Rattle.str_model.specs.Scripts.{finish, finish_next, noted, own_op}
use Rattle.str_model.specs.Turns.{Away, Give, Plain, ReadTurn, ServeTurn, ServeWait, Speculative, Wait, gated, read_turn, reply_turn, serve_turn, take_over}
use Rattle.str_model.specs.Turns
use Rattle.str_model.specs.Views.{Active, Closing, Doing, Own, Reply, View}
use Rattle.str_scene.specs.declared.names.Op.TheVariants.{Abort as Stop, Add, Del, Get, Need, Put, Puts}
use Rattle.str_scene.specs.declared.names.Op.{Op}
use Rattle.str_scene.specs.Scenes.{Here, first_or, hosts_key, part_of, replicas}
use Rattle.str_base.proofs.Tests.{and_true_left}
use Rattle.str_base.proofs.Members.{in_append, in_filter}
use Rattle.str_base.proofs.SameNames.{same_key-is}
use Rattle.str_base.specs.Members.{In}

-- the writer is that of a version of the key
abbrev pub FromVersion : List Version → KeyId → Option TxId → Type 0
FromVersion vs k by = (u : TxId) → by ≡ Some u → (q : Version) × In q vs × (q.tx ≡ u) × (q.key ≡ k)

abbrev TurnFrom : List Version → KeyId → ReadTurn → Type 0
TurnFrom vs k (Plain a by fc snap) = FromVersion vs k by
TurnFrom vs k (Speculative a u snap) = FromVersion vs k (Some u)
TurnFrom vs k (Wait by) = Unit {0}
TurnFrom vs k (Away n) = Unit {0}

visible_from : (vs : List Version) (k : KeyId) (r : ℕ) (q : Version) → visible vs k r ≡ Some q → In q vs × (q.key ≡ k)
visible_from vs k r q e = elim (in_last None (filter (λ (x : Version). same_key x.key k && nat_le x.ts.0 r) vs) q e) [
  | inl z ↦ absurd (cc z)
  | inr j ↦ (let f = in_filter (λ (x : Version). same_key x.key k && nat_le x.ts.0 r) vs q j in (f.0, same_key-is q.key k (and_true_left (same_key q.key k) (nat_le q.ts.0 r) f.1)))
]

of_version : (vs : List Version) (k : KeyId) (q : Version) (by : Option TxId) → In q vs → q.key ≡ k → by ≡ Some q.tx → FromVersion vs k by
of_version vs k q by h e s u t = let both : Some q.tx ≡ Some u = sym s ∙ t in (q, h, cc both, e)

gated_from : (here : Here) (vs : List Version) (k : KeyId) (snap : Snap) (turn : ReadTurn) → TurnFrom vs k turn → TurnFrom vs k (gated here snap turn)
gated_from here vs k snap turn h = if_elim (TurnFrom vs k) (holds snap) turn (Wait (Turns.waits_for here (oldest snap.deps))) (λ e. h) (λ e. tt)

kind_from : (here : Here) (vs : List Version) (own : List Own) (snap : Snap) (key : KeyId) (q : Version) (k : Kind) → In q vs → q.key ≡ key → TurnFrom vs key (Turns.read_kind here own snap q k)
kind_from here vs own snap key q Pre h e = tt
kind_from here vs own snap key q LocalKind h e =
    let snap' : Snap = take_over (slice_get own (q.tx.seq - 1)) q.tx.seq snap in gated_from here vs key snap' (Speculative q.value q.tx snap') (of_version vs key q (Some q.tx) h e refl)
kind_from here vs own snap key q Final h e =
    let snap' : Snap = accept_final snap q.ts.0 in gated_from here vs key snap' (Plain q.value (Some q.tx) q.ts.0 snap') (of_version vs key q (Some q.tx) h e refl)

read_from : (here : Here) (v : View) (snap : Snap) (k : KeyId) → TurnFrom v.versions k (read_turn here v snap k)
unfolding read_turn
read_from here v snap k = by_pre (last_pre v.versions k snap.rs)
  where
    by_visible : (o : Option Version) → ((q : Version) → o ≡ Some q → In q v.versions × (q.key ≡ k)) → TurnFrom v.versions k (Turns.read_visible here v.own snap k o)
    by_visible None f = if_elim (TurnFrom v.versions k) (hosts_key here k) (gated here snap (Plain Absent None 0 snap)) (Away (first_or here.node (replicas here.scene (part_of here.scene k))))
        (λ e. gated_from here v.versions k snap (Plain Absent None 0 snap) (λ u t. absurd (cc t))) (λ e. tt)
    by_visible (Some q) f = let g = f q refl in kind_from here v.versions v.own snap k q q.kind g.0 g.1

    by_pre : (o : Option Version) → TurnFrom v.versions k (Turns.read_after here v snap k o)
    by_pre (Some q) = tt
    by_pre None = by_visible (visible v.versions k snap.rs) (λ q e. visible_from v.versions k snap.rs q e)

pub serve_from : (vs : List Version) (k : KeyId) (rs : ℕ) (a : Value) (by : Option TxId) (fc : ℕ) → serve_turn vs k rs ≡ Give a by fc → FromVersion vs k by
unfolding serve_turn
serve_from vs k rs a by fc e = by_undecided (last_undecided vs k rs) e
  where
    by_visible : (o : Option Version) → ((q : Version) → o ≡ Some q → In q vs × (q.key ≡ k)) → Turns.serve_visible o ≡ Give a by fc → FromVersion vs k by
    by_visible None f e = λ u t. (let s : None ≡ by = cc e in absurd (cc (s ∙ t)))
    by_visible (Some q) f e = let g = f q refl in let s : Some q.tx ≡ by = cc e in of_version vs k q by g.0 g.1 (sym s)

    by_undecided : (o : Option Version) → Turns.serve_after vs k rs o ≡ Give a by fc → FromVersion vs k by
    by_undecided (Some q) e = absurd (cc e)
    by_undecided None e = by_visible (visible vs k rs) (λ q e. visible_from vs k rs q e) e

-- ---- own transactions

-- each writer that was read from, or is held in a reply, satisfies P
pub record OwnFrom (P : TxId → KeyId → Type 0) (x : Own) : Type 0 where
  pub reads : (r : ReadDone) (u : TxId) → In r x.reads → r.by ≡ Some u → P u r.key
  pub phase : (k : KeyId) (a : Value) (u : TxId) (fc : ℕ) → x.phase ≡ Reply k a (Some u) fc → P u k

pub finish_reply : (op : Op) (b : Value) (x : Own) (k : KeyId) (a : Value) (by : Option TxId) (fc : ℕ) → (finish op b x).phase ≡ Reply k a by fc → x.phase ≡ Reply k a by fc
finish_reply (Get l) b x k a by fc e = absurd (cc e)
finish_reply (Put l n) b x k a by fc e = absurd (cc e)
finish_reply (Puts l t) b x k a by fc e = absurd (cc e)
finish_reply (Add l n) b x k a by fc e = absurd (cc e)
finish_reply (Del l) b x k a by fc e = absurd (cc e)
finish_reply (Need l n) b x k a by fc e = by_test (is_below b n) e
  where
    by_test : (t : Bool) → (if t then record x { phase = Closing true } else record x { next = x.next + 1; phase = Active }).phase ≡ Reply k a by fc → x.phase ≡ Reply k a by fc
    by_test true q = absurd (cc q)
    by_test false q = absurd (cc q)
finish_reply Stop b x k a by fc e = e

finish_from : (P : TxId → KeyId → Type 0) (op : Op) (a : Value) (x : Own) → OwnFrom P x → OwnFrom P (finish op a x)
finish_from P op a x h = record { reads = λ r u j e. h.reads r u (subst (In r) (finish-looks op a x).reads j) e; phase = λ k b u fc e. h.phase k b u fc (finish_reply op a x k b (Some u) fc e) }

next_from : (P : TxId → KeyId → Type 0) (o : Option Op) (a : Value) (x : Own) → OwnFrom P x → OwnFrom P (finish_next o a x)
next_from P None a x h = h
next_from P (Some op) a x h = finish_from P op a x h

noted_from : (P : TxId → KeyId → Type 0) (k : KeyId) (a : Value) (by : Option TxId) (snap : Snap) (x : Own) → OwnFrom P x → ((u : TxId) → by ≡ Some u → P u k) → OwnFrom P (noted k a by snap x)
noted_from P k a by snap x h f = record {
  reads = λ r u j e. elim (in_append x.reads (record { key = k; value = a; by = by } ∷ []) r j) [
    | inl z ↦ h.reads r u z e
    | inr z ↦ (elim z [ inl q ↦ subst (λ (z : KeyId). P u z) (ap (λ (z : ReadDone). z.key) q) (f u (ap (λ (z : ReadDone). z.by) q ∙ e)) | inr q ↦ absurd q ])
  ];
  phase = h.phase;
}

-- the reads stay, and no reply is held
pub still_from : (P : TxId → KeyId → Type 0) (x y : Own) → y.reads ≡ x.reads → ((k : KeyId) (a : Value) (u : TxId) (fc : ℕ) → y.phase ≡ Reply k a (Some u) fc → ⊥) → OwnFrom P x → OwnFrom P y
still_from P x y q f h = record { reads = λ r u j e. h.reads r u (subst (In r) q j) e; phase = λ k a u fc e. absurd (f k a u fc e) }

module _ (here : Here) (input : Input) (P : TxId → KeyId → Type 0) (d : Doing) (versions : (q : Version) → In q d.view.versions → P q.tx q.key)
    (replies : (from : NodeId) (tx : TxId) (k : KeyId) (a : Value) (by : Option TxId) (fc : Ts) (u : TxId) → Comes here input from (ReadReply tx k a by fc) → by ≡ Some u → P u k) where
  pub got_from : (k : KeyId) (by : Option TxId) → FromVersion d.view.versions k by → (u : TxId) → by ≡ Some u → P u k
  got_from k by f u e = let r = f u e in subst₂ P r.2 r.3 (versions r.0 r.1)

  read_by : (snap new : Snap) (k : KeyId) (a : Value) (by : Option TxId) → ReadsTo here d.view snap k a by new → FromVersion d.view.versions k by
  read_by snap new k a by (to_final fc q) = subst (TurnFrom d.view.versions k) q (read_from here d.view snap k)
  read_by snap new k a by (to_local u e q) =
      let f : FromVersion d.view.versions k (Some u) = subst (TurnFrom d.view.versions k) q (read_from here d.view snap k) in λ z t. f z (sym e ∙ t)

  pub change_from : (i : ℕ) (x y : Own) → Change here input d i x y → OwnFrom P x → OwnFrom P y
  change_from i x y (ch_resolve t e) h = record { reads = h.reads; phase = h.phase }
  change_from i x y (ch_known op k a p e n q) h = finish_from P op a x h
  change_from i x y (ch_blind op a p e n) h = finish_from P op a x h
  change_from i x y (ch_read k a by snap r m t) h =
      next_from P (own_op here x) a (noted k a by snap x) (noted_from P k a by snap x h (got_from k by (read_by x.snap snap k a by t)))
  change_from i x y (ch_wait k by r m e) h = record { reads = h.reads; phase = λ k a u fc e. absurd (cc e) }
  change_from i x y (ch_away k n r m e) h = record { reads = h.reads; phase = λ k a u fc e. absurd (cc e) }
  change_from i x y (ch_reply from tx l k a by fc c n q e s) h = record {
    reads = h.reads;
    phase = λ m b u gc t. (let key : k ≡ m = cc t in let writer : by ≡ Some u = cc t in subst (λ (z : KeyId). P u z) key (replies from tx k a by fc u c writer));
  }
  change_from i x y (ch_take k a b by of fc gc snap e q) h =
      let same = reply-is here x.snap a b by of fc gc snap q in
      next_from P (own_op here x) b (noted k b of snap x) (noted_from P k b of snap x h (λ u t. h.phase k a u fc (e ∙ ap (λ (z : Option TxId). Reply k a z fc) (same ∙ t))))
  change_from i x y (ch_close p e q) h = record { reads = h.reads; phase = λ k a u fc e. absurd (cc e) }
  change_from i x y (ch_gate a) h = record { reads = h.reads; phase = λ k a u fc e. absurd (cc e) }
