-- What a turn leaves: an own transaction that is undecided after its turn waits for a dependency, for an undecided version or for an answer.
use Rattle.std.proofs.Common.{Bool, List, None, Option, Some, [], ap, arith, eq-eqb, false, filter, find, inl, inr, is_some, length, ltb-false, map, nat_le, nat_lt, not, refl, slice_get, slice_set, subst, suc, sym, true, zero, ℕ, ◌&&◌, ◌+◌, ◌<◌, ◌||◌, ◌∙◌, ◌∷◌, ◌≡◌, ◌≢◌, ◌≤◌, ◌⊎◌}
use Rattle.std.specs.List.{list_all, list_any, range_with_len}
use Rattle.partition_map.specs.declared.rows.Asked.{Asked}
use Rattle.dependency_set.specs.declared.names.Dep.{Dep}
use Rattle.dependency_set.specs.Snapshots.{Snap, accept_final, holds, oldest}
use Rattle.si_laws.proofs.Scripts.ReadsEvaluate.{Wants}
use Rattle.si_laws.proofs.Scripts.EvaluationKept.{AllEvaluate, gives-act}
use Rattle.si_laws.proofs.Stages.LinkedStates.{one_of}
use Rattle.si_laws.proofs.Times.NoRepeats.{map_length}
use Rattle.str_model.proofs.ListFacts.{range_in}
use Rattle.si_laws.proofs.Stages.ParticipantSeats.{own_seat, part_exists}
use Rattle.spsi_laws.proofs.Work.LeftHome.{HomeFit, fit-act}
use Rattle.spsi_laws.proofs.Rest.RestActs.{pre_new}
use Rattle.str_base.specs.declared.names.KeyId.{KeyId}
use Rattle.str_base.specs.declared.names.Kind.{Kind}
use Rattle.str_base.specs.declared.names.Kind.TheVariants.{Final, Local as LocalKind, Pre}
use Rattle.str_base.specs.declared.names.NodeId.{NodeId}
use Rattle.str_base.specs.declared.names.PartId.{PartId}
use Rattle.str_base.specs.declared.names.TxId.{TxId}
use Rattle.str_base.specs.declared.names.Value.{Value}
use Rattle.str_base.specs.declared.names.Version.{Version}
use Rattle.str_base.specs.declared.names.Write.{Write}
use Rattle.str_base.specs.Values.{is_below}
use Rattle.str_base.specs.Versions.{chain, is_pre, last_pre, same_key, same_node, same_part, visible}
use Rattle.str_model.proofs.Principle.SingleChanges.{Act, InTurn, Needs, Where, act_ask, along, it_comes, it_waits}
use Rattle.str_model.proofs.Principle.StepPaths.{first-path, half_turn-path, resolved_first}
use Rattle.str_model.proofs.Changes.SnapshotsGain.{if_elim, in_last, visible-is}
use Rattle.str_model.specs.Acts.{aborted, asked, certified, closed, committed, decided_as, in_phase, marked, requested, with_asked}
use Rattle.str_model.specs.Gates.{Ask, CommitAt, DepParts, GateTurn, Missing, Shut, dep_parts, gate_of, gate_turn}
use Rattle.str_model.specs.Gates
use Rattle.str_model.specs.Owned.{Owns}
use Rattle.str_model.specs.Pass
use Rattle.str_model.specs.Scripts
use Rattle.str_model.specs.Scripts.{finish, finish_next, noted, own_op}
use Rattle.str_model.specs.Turns.{Away, CertTurn, Certified, Conflict, Plain, ReadTurn, Speculative, Wait, WaitGate, cert_turn, conflicts, gated, joined, met, read_turn, reply_turn}
use Rattle.str_model.specs.Turns
use Rattle.str_model.specs.Views.{Aborted, Active, CertWait, Closing, Committed, Doing, Global, Local, Own, Phase, ReadWait, Remote, Reply, View, is_decided, lc_of}
use Rattle.str_model.specs.declared.messages.Input.{Input}
use Rattle.str_model.specs.declared.messages.Waiter.TheVariants.{Held}
use Rattle.str_scene.specs.declared.names.Op.{Op}
use Rattle.str_scene.specs.declared.names.Op.TheVariants.{Abort as Stop, Add, Del, Get, Need, Put, Puts}
use Rattle.str_scene.specs.Scenes.{Here, all_parts, hosts_key, participants}
use Rattle.str_model.proofs.Changes.VersionChanges.{Placed, by_master, by_slave, version_step}
use Rattle.str_model.proofs.Changes.PairWords.{any_has}
use Rattle.str_model.proofs.OwnFacts.LocalOwners.{Depends}
use Rattle.str_model.proofs.OwnFacts.EarlierDependencies.{depends-act, earlier}
use Rattle.str_model.proofs.ListCounts.{how_many}
use Rattle.std.proofs.lemmas.List.FromFn.{length-range_with_len}
use Rattle.str_base.proofs.Members.{any_in, find_none, in_filter, in_flat_map, in_map, in_right, map_in}
use Rattle.str_base.proofs.Tests.{and_true_right, or_false_right}
use Rattle.str_base.proofs.Lists.{get_set, get_set_other}
use Rattle.str_base.specs.Members.{In}
use Rattle.str_model.proofs.ViewFacts.GatesEnd.{gate_open, many_less, many_within}
use Rattle.str_model.proofs.KindTests.{pre_kind}
use Rattle.std.proofs.lemmas.Bool.{and_from, or_from}

-- it waits at its own node
abbrev pub IsStuck : Phase → Type 0
IsStuck (ReadWait k) = Unit {0}
IsStuck (Reply k v by fc) = Unit {0}
IsStuck CertWait = Unit {0}
IsStuck _ = ⊥

-- what holds it back
pub data Back (v : View) (i : ℕ) (x : Own) : Type 0 where
  s_dep : (x.snap.deps ≡ [] → ⊥) → Back v i x
  s_pre : (q : Version) → In q v.versions → q.kind ≡ Pre → Back v i x
  s_own : (j lc : ℕ) (y : Own) → j < i → Owns v j y → lc_of y.phase ≡ Some lc → is_decided y.phase ≡ false → Back v i x

pub record Rests (v : View) (i : ℕ) (x : Own) : Type 0 where
  pub closing : (b : Bool) → x.phase ≡ Closing b → x.snap.deps ≡ [] → ⊥
  pub stuck : IsStuck x.phase → Back v i x
  pub gate : (lc : ℕ) → lc_of x.phase ≡ Some lc → is_decided x.phase ≡ false → x.snap.deps ≡ [] → (a : Asked) × In a x.parts × (a.asked ≡ true) × (a.ack ≡ None)

abbrev pub DoneAt : View → ℕ → Type 0
DoneAt v i = (x : Own) → Owns v i x → Rests v i x

-- a decided one rests
decided_rests : (v : View) (i : ℕ) (x : Own) → is_decided x.phase ≡ true → Rests v i x
decided_rests v i x d = record { closing = λ b e n. cc (ap is_decided e, d); stuck = λ s. absurd (by x.phase refl s); gate = λ lc l f n. absurd (cc (d, f)) }
  where
    by : (p : Phase) → x.phase ≡ p → IsStuck p → ⊥
    by (ReadWait k) e s = cc (ap is_decided e, d)
    by (Reply k a u fc) e s = cc (ap is_decided e, d)
    by CertWait e s = cc (ap is_decided e, d)
    by _ e s = s

-- ---- what is known at each moment

module _ (here : Here) where
  abbrev pub PreForeign : View → Type 0
  PreForeign v = (q : Version) → In q v.versions → q.kind ≡ Pre → q.tx.node.0 ≢ here.node.0

  pub record Fit (v : View) : Type 0 where
    pub fit : HomeFit here v
    pub base : Depends here v
    pub gives : AllEvaluate here v
    pub foreign : PreForeign v

  pub not_same : (a b : NodeId) → same_node a b ≡ false → a.0 ≢ b.0
  not_same a b f e = cc (eq-eqb a.0 b.0 e, f)

  pub fits-act : (input : Input) (w : Where) (d e : Doing) → Act here input w d e → Fit d.view → Fit e.view
  fits-act input w d e a h = record {
    fit = fit-act here input w d e a h.fit;
    base = depends-act here input w d e a h.base;
    gives = gives-act here input w d e a h.gives;
    foreign = λ q m pre. elim (pre_new here input d e q (version_step here input w d e a) m pre) [
      | inl j ↦ h.foreign q j pre
      | inr r ↦ (λ n. placed r.0 r.1 (ap (λ (t : TxId). t.node.0) (sym r.2) ∙ n))
    ];
  }
    where
      placed : (b : Rattle.str_model.specs.declared.messages.Arrived.Arrived) → Placed here input d b → b.tx.node.0 ≡ here.node.0 → ⊥
      placed b (by_master (it_comes from c u z m)) n = not_same b.tx.node here.node m.foreign n
      placed b (by_master (it_waits kept rest q)) n = not_same b.tx.node here.node (h.fit.masters b (subst (In (Held b)) (sym q) (in_right kept (Held b ∷ rest) (Held b) (inl refl)))).foreign n
      placed b (by_slave from c t) n = not_same b.tx.node here.node t.foreign n

  -- ---- reads

  free_holds : (snap : Snap) → snap.deps ≡ [] → holds snap ≡ true
  free_holds snap e = ap (λ (ds : List Dep). list_all (λ (d : Dep). nat_le snap.ffc d.rs.0) ds) e

  has_deps : (snap : Snap) → holds snap ≡ false → snap.deps ≡ [] → ⊥
  has_deps snap f e = cc (free_holds snap e, f)

  gated_wait : (snap : Snap) (turn : ReadTurn) (by : TxId) → (turn ≡ Wait by → ⊥) → gated here snap turn ≡ Wait by → holds snap ≡ false
  gated_wait snap turn by n = if_elim (λ t. t ≡ Wait by → holds snap ≡ false) (holds snap) turn (Wait (Turns.waits_for here (oldest snap.deps))) (λ e q. absurd (n q)) (λ e q. e)

  read_back : (v : View) (i : ℕ) (x : Own) (k : KeyId) (by : TxId) → Fit v → Owns v i x → read_turn here v x.snap k ≡ Wait by → Back v i x
  unfolding read_turn
  read_back v i x k by h o e = by_pre (last_pre v.versions k x.snap.rs) refl e
    where
      by_kind : (q : Version) (c : Kind) → q.kind ≡ c → In q v.versions → q.ts.0 ≤ x.snap.rs → Turns.read_kind here v.own x.snap q c ≡ Wait by → Back v i x
      by_kind q Pre r m le t = s_pre q m r
      by_kind q LocalKind r m le t =
          let w = h.base.locals q m r in s_own w.place q.ts.0 w.owner (earlier v h.base.times w.place i q.ts.0 w.owner x w.owns o w.lc le) w.owns w.lc w.open_
      by_kind q Final r m le t = s_dep (has_deps (accept_final x.snap q.ts.0) (gated_wait (accept_final x.snap q.ts.0) (Plain q.value (Some q.tx) q.ts.0 (accept_final x.snap q.ts.0)) by (λ z. cc z) t))

      by_visible : (u : Option Version) → visible v.versions k x.snap.rs ≡ u → Turns.read_visible here v.own x.snap k u ≡ Wait by → Back v i x
      by_visible None r t =
          (if_elim (λ z. z ≡ Wait by → Back v i x) (hosts_key here k) (gated here x.snap (Plain Rattle.str_base.specs.declared.names.Value.TheVariants.Absent None 0 x.snap)) (Away _)
          (λ z y. s_dep (has_deps x.snap (gated_wait x.snap (Plain Rattle.str_base.specs.declared.names.Value.TheVariants.Absent None 0 x.snap) by (λ a. cc a) y))) (λ z y. absurd (cc y))) t
      by_visible (Some q) r t = let s = visible-is v.versions k x.snap.rs q r in by_kind q q.kind refl s.0 s.1 t

      by_pre : (u : Option Version) → last_pre v.versions k x.snap.rs ≡ u → Turns.read_after here v x.snap k u ≡ Wait by → Back v i x
      by_pre (Some q) r t =
          let test = λ (z : Version). same_key z.key k && (nat_le z.ts.0 x.snap.rs && is_pre z.kind) in
          elim (in_last None (filter test v.versions) q r) [
            | inl z ↦ absurd (cc z)
            | inr m ↦ (let s = in_filter test v.versions q m in s_pre q s.0 (pre_kind q.kind (and_true_right (nat_le q.ts.0 x.snap.rs) (is_pre q.kind) (and_true_right (same_key q.key k) (nat_le q.ts.0 x.snap.rs && is_pre q.kind) s.1))))
          ]
      by_pre None r t = by_visible (visible v.versions k x.snap.rs) refl t

  -- ---- certification

  joined_cases : (own : List Own) (vs : List Version) (snap : Snap) → (joined own vs snap ≡ snap) ⊎ ((q : Version) × In q vs × (q.kind ≡ LocalKind))
  joined_cases own [] snap = inl refl
  joined_cases own (q ∷ vs) snap = by_kind q.kind refl (joined_cases own vs snap)
    where
      by_kind : (c : Kind) → q.kind ≡ c → (joined own vs snap ≡ snap) ⊎ ((r : Version) × In r vs × (r.kind ≡ LocalKind)) → (joined own vs (Turns.joined_one own q c snap) ≡ snap) ⊎ ((r : Version) × In r (q ∷ vs) × (r.kind ≡ LocalKind))
      by_kind LocalKind e k = inr (q, inl refl, e)
      by_kind Pre e (inl k) = inl k
      by_kind Pre e (inr r) = inr (r.0, inr r.1, r.2)
      by_kind Final e (inl k) = inl k
      by_kind Final e (inr r) = inr (r.0, inr r.1, r.2)

  cert_back : (v : View) (i : ℕ) (x : Own) (by : TxId) → Fit v → Owns v i x → cert_turn here v x.snap x.writes ≡ WaitGate by → Back v i x
  unfolding cert_turn
  cert_back v i x by h o e = by_find (find (conflicts x.snap.rs) (met x.writes v.versions)) refl e
    where
      by_find : (u : Option Version) → find (conflicts x.snap.rs) (met x.writes v.versions) ≡ u → Turns.cert_after here v x.snap x.writes u ≡ WaitGate by → Back v i x
      by_find (Some q) r t = absurd (cc t)
      by_find None r t =
          let s : Snap = joined v.own (met x.writes v.versions) x.snap in
          let f : holds s ≡ false = (if_elim (λ z. z ≡ WaitGate by → holds s ≡ false) (holds s) (Certified _ s) (WaitGate _) (λ a b. absurd (cc b)) (λ a b. a)) t in
          elim (joined_cases v.own (met x.writes v.versions) x.snap) [
            | inl same ↦ s_dep (has_deps x.snap (ap holds (sym same) ∙ f))
            | inr w ↦ (let m = in_flat_map (λ (z : Write). chain z.key v.versions) x.writes w.0 w.1 in
                let inv = (in_filter (λ (z : Version). same_key z.key m.0.key) v.versions w.0 m.2).0 in
                let le = ltb-false x.snap.rs w.0.ts.0 (or_false_right (is_pre w.0.kind) (nat_lt x.snap.rs w.0.ts.0) (find_none (conflicts x.snap.rs) (met x.writes v.versions) w.0 r w.1)) in
                let k = h.base.locals w.0 inv w.2 in
                s_own k.place w.0.ts.0 k.owner (earlier v h.base.times k.place i w.0.ts.0 k.owner x k.owns o k.lc le) k.owns k.lc k.open_)
          ]

  -- ---- what waits is tried again

  unstuck : (op : Op) (k : KeyId) (a : Value) (x : Own) → Needs op k → IsStuck (finish op a x).phase → ⊥
  unstuck (Get l) k a x n s = s
  unstuck (Add l m) k a x n s = s
  unstuck (Need l m) k a x n s0 = (if_elim (λ (y : Own). IsStuck y.phase → ⊥) (is_below a m) (record x { phase = Closing true }) (record x { next = x.next + 1; phase = Active }) (λ e s. s) (λ e s. s)) s0
  unstuck (Put l m) k a x n s = n
  unstuck (Puts l t) k a x n s = n
  unstuck (Del l) k a x n s = n
  unstuck Stop k a x n s = n

  next_unstuck : (x : Own) (k l : KeyId) (a b : Value) (by : Option TxId) (snap : Snap) → Wants here x k → IsStuck (finish_next (own_op here x) a (noted l b by snap x)).phase → ⊥
  next_unstuck x k l a b by snap w s = unstuck w.op k a (noted l b by snap x) w.needs (subst (λ (o : Option Op). IsStuck (finish_next o a (noted l b by snap x)).phase) w.is s)

  abbrev HalfDone : View → ℕ → Type 0
  HalfDone v i = (x : Own) → Owns v i x → IsStuck x.phase → Back v i x

  -- the transaction is put, and is not stuck
  put_free : (v e : View) (i : ℕ) (x y : Own) → Owns v i x → e.own ≡ slice_set v.own i y → (IsStuck y.phase → ⊥) → HalfDone e i
  put_free v e i x y o q f z oz s =
      let same : z ≡ y = one_of z y (slice_get e.own i) oz (ap (λ xs. slice_get xs i) q ∙ get_set v.own i x y o) in absurd (f (subst (λ (u : Own). IsStuck u.phase) same s))

  -- it is put with the snapshot that it had
  back_put : (v e : View) (i : ℕ) (x y : Own) → e.own ≡ slice_set v.own i y → e.versions ≡ v.versions → y.snap ≡ x.snap → Back v i x → Back e i y
  back_put v e i x y q r t (s_dep f) = s_dep (λ n. f (ap (λ (s : Snap). s.deps) (sym t) ∙ n))
  back_put v e i x y q r t (s_pre u m p) = s_pre u (subst (In u) (sym r) m) p
  back_put v e i x y q r t (s_own j lc z lt o l op) = s_own j lc z lt (ap (λ xs. slice_get xs j) q ∙ (get_set_other v.own i j y (λ n. absurd (omega (arith, n, lt))) ∙ o)) l op

  put_back : (v e : View) (i : ℕ) (x y : Own) → Owns v i x → e.own ≡ slice_set v.own i y → e.versions ≡ v.versions → y.snap ≡ x.snap → Back v i x → HalfDone e i
  put_back v e i x y o q r t b z oz s =
      let same : z ≡ y = one_of z y (slice_get e.own i) oz (ap (λ xs. slice_get xs i) q ∙ get_set v.own i x y o) in subst (Back e i) (sym same) (back_put v e i x y q r t b)

  read_done_half : (i : ℕ) (k : KeyId) (x : Own) (t : ReadTurn) (d e : Doing) → Owns d.view i x → Wants here x k → Fit d.view → e.view.own ≡ d.view.own → e.view.versions ≡ d.view.versions → read_turn here d.view x.snap k ≡ t
      → HalfDone (Scripts.read_done here i k x t e).view i
  unfolding requested
  read_done_half i k x (Plain a by fc snap) d e o w h q r t = put_free d.view _ i x (finish_next (own_op here x) a (noted k a by snap x)) o (ap (λ xs. slice_set xs i (finish_next (own_op here x) a (noted k a by snap x))) q) (next_unstuck x k k a a by snap w)
  read_done_half i k x (Speculative a by snap) d e o w h q r t = put_free d.view _ i x (finish_next (own_op here x) a (noted k a (Some by) snap x)) o (ap (λ xs. slice_set xs i (finish_next (own_op here x) a (noted k a (Some by) snap x))) q) (next_unstuck x k k a a (Some by) snap w)
  read_done_half i k x (Wait by) d e o w h q r t = put_back d.view _ i x (in_phase (ReadWait k) x) o (ap (λ xs. slice_set xs i (in_phase (ReadWait k) x)) q) r refl (read_back d.view i x k by h o t)
  read_done_half i k x (Away m) d e o w h q r t = put_free d.view _ i x (in_phase (Remote k) x) o (ap (λ xs. slice_set xs i (in_phase (Remote k) x)) q) (λ s. s)

  read_now_half : (i : ℕ) (k : KeyId) (x : Own) (d : Doing) → Owns d.view i x → Wants here x k → Fit d.view → HalfDone (Scripts.read_now here i k x d).view i
  unfolding Scripts.read_now marked
  read_now_half i k x d o w h = read_done_half i k x (read_turn here d.view x.snap k) d (marked k x.snap.rs d) o w h refl refl refl

  stays_half : (d : Doing) (i : ℕ) (x : Own) → Owns d.view i x → (IsStuck x.phase → Back d.view i x) → HalfDone d.view i
  stays_half d i x o f z oz s = let same : z ≡ x = one_of z x (slice_get d.view.own i) oz o in subst (Back d.view i) (sym same) (f (subst (λ (u : Own). IsStuck u.phase) same s))

  reply_half : (i : ℕ) (k : KeyId) (a : Value) (by : Option TxId) (fc : ℕ) (x : Own) (t : ReadTurn) (d : Doing) → Owns d.view i x → Wants here x k → reply_turn here x.snap a by fc ≡ t → HalfDone (Pass.again_reply here i k x t d).view i
  unfolding reply_turn
  reply_half i k a by fc x (Plain b u gc snap) d o w t = put_free d.view _ i x (finish_next (own_op here x) b (noted k b u snap x)) o refl (next_unstuck x k k b b u snap w)
  reply_half i k a by fc x (Wait u) d o w t =
      stays_half d i x o (λ s. s_dep (has_deps (accept_final x.snap fc) (gated_wait (accept_final x.snap fc) (Plain a by fc (accept_final x.snap fc)) u (λ z. cc z) t)))
  reply_half i k a by fc x (Speculative b u snap) d o w t =
      absurd ((if_elim (λ z. z ≡ Speculative b u snap → ⊥) (holds (accept_final x.snap fc)) (Plain a by fc (accept_final x.snap fc)) (Wait (Turns.waits_for here (oldest x.snap.deps))) (λ e q. cc q) (λ e q. cc q)) t)
  reply_half i k a by fc x (Away n) d o w t =
      absurd ((if_elim (λ z. z ≡ Away n → ⊥) (holds (accept_final x.snap fc)) (Plain a by fc (accept_final x.snap fc)) (Wait (Turns.waits_for here (oldest x.snap.deps))) (λ e q. cc q) (λ e q. cc q)) t)

  cert_half : (i : ℕ) (x : Own) (t : CertTurn) (d : Doing) → Owns d.view i x → Fit d.view → cert_turn here d.view x.snap x.writes ≡ t → HalfDone (Scripts.cert_done here i x t d).view i
  unfolding certified aborted
  cert_half i x (Certified lc snap) d o h t = put_free d.view _ i x (record x { snap = snap; parts = participants here.scene here.node x.writes; phase = Local lc }) o refl (λ s. s)
  cert_half i x (Conflict u k) d o h t = put_free d.view _ i x (decided_as (Aborted (lc_of x.phase) _) x) o refl (λ s. s)
  cert_half i x (WaitGate by) d o h t = put_back d.view _ i x (in_phase CertWait x) o refl refl refl (cert_back d.view i x by h o t)

  again_half : (i : ℕ) (p : Phase) (x : Own) (d : Doing) → Owns d.view i x → x.phase ≡ p → Fit d.view → HalfDone (Pass.again_own here i p x d).view i
  unfolding Scripts.certify_now
  again_half i (ReadWait k) x d o e h = read_now_half i k x d o (subst (Rattle.si_laws.proofs.Scripts.ReadsEvaluate.PhaseGives here x) e (h.gives i x o).phase) h
  again_half i (Reply k a by fc) x d o e h = reply_half i k a by fc x (reply_turn here x.snap a by fc) d o (subst (Rattle.si_laws.proofs.Scripts.ReadsEvaluate.PhaseGives here x) e (h.gives i x o).phase) refl
  again_half i CertWait x d o e h = cert_half i x (cert_turn here d.view x.snap x.writes) d o h refl
  again_half i Active x d o e h = stays_half d i x o (λ s. absurd (subst IsStuck e s))
  again_half i (Remote k) x d o e h = stays_half d i x o (λ s. absurd (subst IsStuck e s))
  again_half i (Closing b) x d o e h = stays_half d i x o (λ s. absurd (subst IsStuck e s))
  again_half i (Local lc) x d o e h = stays_half d i x o (λ s. absurd (subst IsStuck e s))
  again_half i (Global lc) x d o e h = stays_half d i x o (λ s. absurd (subst IsStuck e s))
  again_half i (Committed a b) x d o e h = stays_half d i x o (λ s. absurd (subst IsStuck e s))
  again_half i (Aborted a b) x d o e h = stays_half d i x o (λ s. absurd (subst IsStuck e s))

  -- ---- an own transaction as it stands

  own_cases : (P : Doing → Type 0) (i : ℕ) (f : Own → Doing → Doing) (d : Doing) → ((x : Own) → Owns d.view i x → is_decided x.phase ≡ false → P (f x d)) → ((x : Own) → Owns d.view i x → is_decided x.phase ≡ true → P d)
      → (slice_get d.view.own i ≡ None → P d) → P (Scripts.at_own i f d)
  own_cases P i f d open_ dec none = by (slice_get d.view.own i) refl
    where
      by : (o : Option Own) → slice_get d.view.own i ≡ o → P (Scripts.of_own f o d)
      by None e = none e
      by (Some x) e = by_phase (is_decided x.phase) refl
        where
          by_phase : (b : Bool) → is_decided x.phase ≡ b → P (Scripts.unless_decided b (f x) d)
          by_phase true q = dec x e q
          by_phase false q = open_ x e q

  decided_half : (d : Doing) (i : ℕ) (x : Own) → Owns d.view i x → is_decided x.phase ≡ true → HalfDone d.view i
  decided_half d i x o q = stays_half d i x o (decided_rests d.view i x q).stuck

  half_done : (input : Input) (i : ℕ) (d : Doing) → Fit d.view → HalfDone (Pass.half_turn here i d).view i
  unfolding Pass.half_turn resolved_first
  half_done input i d h =
      let d1 : Doing = resolved_first here input (InTurn i) i d in
      let h1 : Fit d1.view = along here input (InTurn i) (λ z. Fit z.view) (fits-act input (InTurn i)) d d1 (first-path here input (InTurn i) i d refl) h in
      own_cases (λ z. HalfDone z.view i) i (λ x. Pass.again_own here i x.phase x) d1 (λ x o f. again_half i x.phase x d1 o refl h1) (λ x o q. decided_half d1 i x o q) (λ e x o s. absurd (cc (e, o)))

  -- ---- the gate

  waits_for_ack : (lc : ℕ) (x : Own) (v : View) (t : GateTurn) → gate_of here v lc x ≡ t → ((p : PartId) → t ≡ Ask p → ⊥) → ((fc : ℕ) → t ≡ CommitAt fc → ⊥) → x.snap.deps ≡ []
      → (a : Asked) × In a x.parts × (a.asked ≡ true) × (a.ack ≡ None)
  unfolding gate_turn
  waits_for_ack lc x v t e na nc nd = by_ask (find (Gates.may_ask wrote) x.parts) refl e
    where
      wrote : List DepParts
      wrote = map (dep_parts here v.own) x.snap.deps

      none_wrote : wrote ≡ []
      none_wrote = ap (map (dep_parts here v.own)) nd

      no_ack : (o : Option Rattle.str_base.specs.declared.names.Ts.Ts) → not (is_some o) ≡ true → o ≡ None
      no_ack None q = refl
      no_ack (Some z) q = absurd (cc q)

      is_asked : (b : Bool) → (not b && true) ≡ false → b ≡ true
      is_asked true q = refl
      is_asked false q = absurd (cc q)

      by_ack : find (Gates.may_ask wrote) x.parts ≡ None → (o : Option Asked) → find (λ a. not (is_some a.ack)) x.parts ≡ o → Gates.gate_acks lc x.parts o ≡ t → (a : Asked) × In a x.parts × (a.asked ≡ true) × (a.ack ≡ None)
      by_ack f (Some a) q k =
          let r = Rattle.spsi_laws.proofs.Rest.RestStages.find_is (λ (z : Asked). not (is_some z.ack)) x.parts a q in
          let m = find_none (Gates.may_ask wrote) x.parts a f r.0 in
          (a, r.0, is_asked a.asked (ap (λ ws. not a.asked && not (Gates.dependency_wrote ws a.part)) (sym none_wrote) ∙ m), no_ack a.ack r.1)
      by_ack f None q k = absurd (nc _ (sym k))

      by_deps : find (Gates.may_ask wrote) x.parts ≡ None → (ds : List Dep) → x.snap.deps ≡ ds → Gates.gate_deps lc x.parts ds ≡ t → (a : Asked) × In a x.parts × (a.asked ≡ true) × (a.ack ≡ None)
      by_deps f [] q k = by_ack f (find (λ a. not (is_some a.ack)) x.parts) refl k
      by_deps f (y ∷ ds) q k = absurd (cc (nd, q))

      by_ask : (o : Option Asked) → find (Gates.may_ask wrote) x.parts ≡ o → Gates.gate_asks x.snap lc x.parts o ≡ t → (a : Asked) × In a x.parts × (a.asked ≡ true) × (a.ack ≡ None)
      by_ask (Some a) q k = absurd (na a.part (sym k))
      by_ask None q k = by_deps q x.snap.deps refl k

  -- how many partitions are not asked
  open_part : List Asked → PartId → Bool
  open_part parts p = list_any (λ (a : Asked). same_part a.part p && not a.asked) parts

  unasked_in : Own → ℕ
  unasked_in x = how_many (open_part x.parts) (all_parts here.scene)

  unasked_most : (x : Own) → unasked_in x < suc (length here.scene.parts)
  unfolding unasked_in
  unasked_most x =
      let a = many_within (open_part x.parts) (all_parts here.scene) in
      let b : length (all_parts here.scene) ≡ length (range_with_len 1 (length here.scene.parts)) = map_length (λ (n : ℕ). record { 0 = n }) (range_with_len 1 (length here.scene.parts)) in
      let c = length-range_with_len 1 (length here.scene.parts) in
      omega (arith, a, b, c)

  -- asking leaves fewer that are not asked
  asks_fewer : (v : View) (i lc : ℕ) (x : Own) (p : PartId) → Fit v → Owns v i x → gate_of here v lc x ≡ Ask p → unasked_in (record x { parts = with_asked p x.parts; phase = Global lc }) < unasked_in x
  unfolding unasked_in open_part
  asks_fewer v i lc x p h o e =
      let r = gate_open x.snap lc x.parts (map (dep_parts here v.own) x.snap.deps) p e in
      let seat = own_seat here v.versions i x (h.fit.home i x o) r.0 r.1 in
      let ex = part_exists here.scene r.0.node r.0.part seat.hosted in
      let p0 : r.0.part.0 ≡ p.0 = ap (λ (y : PartId). y.0) r.2 in
      let inall : In p (all_parts here.scene) = map_in (λ (n : ℕ). record { 0 = n }) (range_with_len 1 (length here.scene.parts)) p.0 (range_in 1 (length here.scene.parts) p.0 (omega (arith, ex.0, p0)) (omega (arith, ex.1, p0))) in
      let l = many_less (open_part (with_asked p x.parts)) (open_part x.parts) (all_parts here.scene) p (λ q t. fewer q t) inall (none_now x.parts)
      (any_in (λ (a : Asked). same_part a.part p && not a.asked) x.parts r.0 r.1 (and_from (same_part r.0.part p) (not r.0.asked) (eq-eqb r.0.part.0 p.0 p0) (ap not r.3))) in
      omega (arith, l)
    where
      was_open : (a b c : Bool) → (a && not (b || c)) ≡ true → (a && not b) ≡ true
      was_open true true c q = absurd (cc q)
      was_open true false c q = refl
      was_open false b c q = absurd (cc q)

      fewer : (q : PartId) → list_any (λ (a : Asked). same_part a.part q && not a.asked) (with_asked p x.parts) ≡ true → list_any (λ (a : Asked). same_part a.part q && not a.asked) x.parts ≡ true
      fewer q t =
          let m = any_has (λ (a : Asked). same_part a.part q && not a.asked) (with_asked p x.parts) t in
          let k = in_map {A = Asked} {B = Asked} (λ (a : Asked). record a { asked = a.asked || same_part a.part p }) x.parts m.0 m.1 in
          let u : (same_part k.0.part q && not (k.0.asked || same_part k.0.part p)) ≡ true = ap (λ (a : Asked). same_part a.part q && not a.asked) k.2 ∙ m.2 in
          any_in (λ (a : Asked). same_part a.part q && not a.asked) x.parts k.0 k.1 (was_open (same_part k.0.part q) k.0.asked (same_part k.0.part p) u)

      closed_one : (b c : Bool) → (c && not (b || c)) ≡ false
      closed_one true true = refl
      closed_one true false = refl
      closed_one false true = refl
      closed_one false false = refl

      none_now : (parts : List Asked) → list_any (λ (a : Asked). same_part a.part p && not a.asked) (with_asked p parts) ≡ false
      none_now [] = refl
      none_now (a ∷ parts) = or_from (same_part a.part p && not (a.asked || same_part a.part p)) (list_any (λ (a : Asked). same_part a.part p && not a.asked) (with_asked p parts)) (closed_one a.asked (same_part a.part p)) (none_now parts)

  -- one that is put and decided rests
  put_rests : (v e : View) (i : ℕ) (x y : Own) → Owns v i x → e.own ≡ slice_set v.own i y → is_decided y.phase ≡ true → DoneAt e i
  put_rests v e i x y o q d z oz =
      let same : z ≡ y = one_of z y (slice_get e.own i) oz (ap (λ xs. slice_get xs i) q ∙ get_set v.own i x y o) in
      decided_rests e i z (ap (λ (u : Own). is_decided u.phase) same ∙ d)

  stays_rests : (d : Doing) (i : ℕ) (x : Own) → Owns d.view i x → Rests d.view i x → DoneAt d.view i
  stays_rests d i x o r z oz = subst (Rests d.view i) (one_of x z (slice_get d.view.own i) o oz) r

  certified_rests : (v : View) (i lc : ℕ) (x : Own) → lc_of x.phase ≡ Some lc → (x.snap.deps ≡ [] → (a : Asked) × In a x.parts × (a.asked ≡ true) × (a.ack ≡ None)) → Rests v i x
  certified_rests v i lc x l f = record { closing = λ b e n. cc (ap lc_of e, l); stuck = λ s. absurd (by x.phase refl s); gate = λ m k op n. f n }
    where
      by : (p : Phase) → x.phase ≡ p → IsStuck p → ⊥
      by (ReadWait k) e s = cc (ap lc_of e, l)
      by (Reply k a u fc) e s = cc (ap lc_of e, l)
      by CertWait e s = cc (ap lc_of e, l)
      by _ e s = s

  asked_own : (i m : ℕ) (p : PartId) (x : Own) (d : Doing) → Owns d.view i x → Owns (asked here i m p x d).view i (record x { parts = with_asked p x.parts; phase = Global m })
  unfolding asked
  asked_own i m p x d o = get_set d.view.own i x (record x { parts = with_asked p x.parts; phase = Global m }) o

  module _ (input : Input) where
    gate_done_rests : (i : ℕ) (again : Doing → Doing) (lc : ℕ) (x : Own) (t : GateTurn) (d : Doing) → ((p : PartId) → gate_of here d.view lc x ≡ Ask p → Fit (asked here i lc p x d).view → DoneAt (again (asked here i lc p x d)).view i)
        → Owns d.view i x → Fit d.view → is_decided x.phase ≡ false → lc_of x.phase ≡ Some lc → gate_of here d.view lc x ≡ t → DoneAt (Pass.gate_done here i again lc x t d).view i
    unfolding committed
    gate_done_rests i again lc x (Ask p) d rec o h f l e = rec p e (fits-act input (InTurn i) d (asked here i lc p x d) (act_ask i lc p x d (o, refl) f l e) h)
    gate_done_rests i again lc x (Shut q) d rec o h f l e = stays_rests d i x o (certified_rests d.view i lc x l (λ n. waits_for_ack lc x d.view (Shut q) e (λ p z. cc z) (λ c z. cc z) n))
    gate_done_rests i again lc x (Missing p m) d rec o h f l e = stays_rests d i x o (certified_rests d.view i lc x l (λ n. waits_for_ack lc x d.view (Missing p m) e (λ q z. cc z) (λ c z. cc z) n))
    gate_done_rests i again lc x (CommitAt fc) d rec o h f l e = put_rests d.view _ i x (decided_as (Committed (Some lc) (Some fc)) x) o refl refl

    gates_rest : (i n : ℕ) (d : Doing) (x : Own) (lc : ℕ) → Fit d.view → Owns d.view i x → lc_of x.phase ≡ Some lc → is_decided x.phase ≡ false → unasked_in x < n → DoneAt (Pass.gates here i n d).view i
    gates_rest i zero d x lc h o l op lt = absurd (omega (arith, lt))
    gates_rest i (suc n) d x lc h o l op lt =
        own_cases (λ z. DoneAt z.view i) i (λ y. Pass.gate_phase here i (Pass.gates here i n) y.phase y) d
        (λ y oy f. by_phase y.phase y oy f refl (λ m p e k. gates_rest i n (asked here i m p x d) (record x { parts = with_asked p x.parts; phase = Global m }) m k (asked_own i m p x d o) refl refl (let z = asks_fewer d.view i m x p h o e in omega (arith, z, lt))))
        (λ y oy q. stays_rests d i y oy (decided_rests d.view i y q)) (λ e z oz. absurd (cc (e, oz)))
      where
        by_phase : (p : Phase) (y : Own) → Owns d.view i y → is_decided y.phase ≡ false → y.phase ≡ p
            → ((m : ℕ) (q : PartId) → gate_of here d.view m x ≡ Ask q → Fit (asked here i m q x d).view → DoneAt (Pass.gates here i n (asked here i m q x d)).view i)
            → DoneAt (Pass.gate_phase here i (Pass.gates here i n) p y d).view i
        by_phase (Local m) y oy f e rec =
            let same : x ≡ y = one_of x y (slice_get d.view.own i) o oy in
            gate_done_rests i (Pass.gates here i n) m y (gate_of here d.view m y) d
            (subst (λ (u : Own). (q : PartId) → gate_of here d.view m u ≡ Ask q → Fit (asked here i m q u d).view → DoneAt (Pass.gates here i n (asked here i m q u d)).view i) same (rec m)) oy h f (ap lc_of e) refl
        by_phase (Global m) y oy f e rec =
            let same : x ≡ y = one_of x y (slice_get d.view.own i) o oy in
            gate_done_rests i (Pass.gates here i n) m y (gate_of here d.view m y) d
            (subst (λ (u : Own). (q : PartId) → gate_of here d.view m u ≡ Ask q → Fit (asked here i m q u d).view → DoneAt (Pass.gates here i n (asked here i m q u d)).view i) same (rec m)) oy h f (ap lc_of e) refl
        by_phase (Committed a b) y oy f e rec = absurd (cc (ap is_decided e, f))
        by_phase (Aborted a b) y oy f e rec = absurd (cc (ap is_decided e, f))
        by_phase Active y oy f e rec = absurd (no_lc (one_of x y (slice_get d.view.own i) o oy) (ap lc_of e))
          where
            no_lc : x ≡ y → lc_of y.phase ≡ None → ⊥
            no_lc s n = cc (ap (λ (u : Own). lc_of u.phase) s, n, l)
        by_phase (ReadWait k) y oy f e rec = absurd (let s : x ≡ y = one_of x y (slice_get d.view.own i) o oy in cc (ap (λ (u : Own). lc_of u.phase) s, ap lc_of e, l))
        by_phase (Remote k) y oy f e rec = absurd (let s : x ≡ y = one_of x y (slice_get d.view.own i) o oy in cc (ap (λ (u : Own). lc_of u.phase) s, ap lc_of e, l))
        by_phase (Reply k a u fc) y oy f e rec = absurd (let s : x ≡ y = one_of x y (slice_get d.view.own i) o oy in cc (ap (λ (u : Own). lc_of u.phase) s, ap lc_of e, l))
        by_phase CertWait y oy f e rec = absurd (let s : x ≡ y = one_of x y (slice_get d.view.own i) o oy in cc (ap (λ (u : Own). lc_of u.phase) s, ap lc_of e, l))
        by_phase (Closing b) y oy f e rec = absurd (let s : x ≡ y = one_of x y (slice_get d.view.own i) o oy in cc (ap (λ (u : Own). lc_of u.phase) s, ap lc_of e, l))

    -- ---- the closing, and a whole turn

    close_free_rests : (i : ℕ) (wish : Bool) (x : Own) (d : Doing) → Owns d.view i x → DoneAt (Pass.close_free here i wish x d).view i
    unfolding aborted closed
    close_free_rests i true x d o = put_rests d.view _ i x (decided_as (Aborted (lc_of x.phase) Rattle.str_base.specs.declared.names.Cause.TheVariants.Wish) x) o refl refl
    close_free_rests i false x d o = put_rests d.view _ i x (decided_as (Committed None None) x) o refl refl

    empty_not : (ds : List Dep) → Pass.is_empty ds ≡ false → ds ≡ [] → ⊥
    empty_not [] e q = cc e
    empty_not (y ∷ ds) e q = cc q

    -- phases without a timestamp, not closing: the gate is not for them
    gates_stay : (i n : ℕ) (d : Doing) (x : Own) → Owns d.view i x → ((f : Doing → Doing) → Pass.gate_phase here i f x.phase x d ≡ d) → is_decided x.phase ≡ false → Pass.gates here i n d ≡ d
    gates_stay i zero d x o f op = refl
    gates_stay i (suc n) d x o f op =
        ap (λ (z : Option Own). Scripts.of_own (λ y. Pass.gate_phase here i (Pass.gates here i n) y.phase y) z d) o
        ∙ (ap (λ b. Scripts.unless_decided b (Pass.gate_phase here i (Pass.gates here i n) x.phase x) d) op ∙ f (Pass.gates here i n))

    by_stay : (i : ℕ) (p : Phase) (x : Own) (d : Doing) → Owns d.view i x → x.phase ≡ p → is_decided x.phase ≡ false → HalfDone d.view i → lc_of p ≡ None → ((b : Bool) → p ≡ Closing b → ⊥)
        → ((f : Doing → Doing) → Pass.gate_phase here i f p x d ≡ d) → DoneAt (Pass.gates_in here i d).view i
    by_stay i p x d o e op half n c f =
        let same = gates_stay i (suc (length here.scene.parts)) d x o (λ g. ap (λ z. Pass.gate_phase here i g z x d) e ∙ f g) op in
        subst (λ (z : Doing). DoneAt z.view i) (sym same)
        (stays_rests d i x o (record { closing = λ b q z. c b (sym e ∙ q); stuck = λ s. half x o s; gate = λ lc l g z. absurd (cc (ap lc_of e, n, l)) }))

    close_rests : (i : ℕ) (p : Phase) (x : Own) (d : Doing) → Owns d.view i x → x.phase ≡ p → is_decided x.phase ≡ false → Fit d.view → HalfDone d.view i → DoneAt (Pass.close_phase here i p x d).view i
    close_rests i (Closing wish) x d o e op h half =
        if_elim (λ z. DoneAt z.view i) (Pass.is_empty x.snap.deps) (Pass.close_free here i wish x d) d (λ t. close_free_rests i wish x d o)
        (λ t. stays_rests d i x o (record { closing = λ b q n. empty_not x.snap.deps t n; stuck = λ s. absurd (subst IsStuck e s); gate = λ lc l f n. absurd (cc (ap lc_of e, l)) }))
    close_rests i (Local lc) x d o e op h half = gates_rest i (suc (length here.scene.parts)) d x lc h o (ap lc_of e) op (unasked_most x)
    close_rests i (Global lc) x d o e op h half = gates_rest i (suc (length here.scene.parts)) d x lc h o (ap lc_of e) op (unasked_most x)
    close_rests i (Committed a b) x d o e op h half = absurd (cc (ap is_decided e, op))
    close_rests i (Aborted a b) x d o e op h half = absurd (cc (ap is_decided e, op))
    close_rests i Active x d o e op h half = by_stay i Active x d o e op half refl (λ b q. cc q) (λ f. refl)
    close_rests i (ReadWait k) x d o e op h half = by_stay i (ReadWait k) x d o e op half refl (λ b q. cc q) (λ f. refl)
    close_rests i (Remote k) x d o e op h half = by_stay i (Remote k) x d o e op half refl (λ b q. cc q) (λ f. refl)
    close_rests i (Reply k a u fc) x d o e op h half = by_stay i (Reply k a u fc) x d o e op half refl (λ b q. cc q) (λ f. refl)
    close_rests i CertWait x d o e op h half = by_stay i CertWait x d o e op half refl (λ b q. cc q) (λ f. refl)

    pub turn_rests : (i : ℕ) (d : Doing) → Fit d.view → DoneAt (Pass.turn here i d).view i
    unfolding Pass.turn
    turn_rests i d h =
        let e : Doing = Pass.half_turn here i d in
        let k : Fit e.view = along here input (InTurn i) (λ z. Fit z.view) (fits-act input (InTurn i)) d e (half_turn-path here input (InTurn i) i d refl) h in
        own_cases (λ z. DoneAt z.view i) i (Pass.close_own here i) e (λ x o f. close_rests i x.phase x e o refl f k (half_done input i d h)) (λ x o q. stays_rests e i x o (decided_rests e.view i x q)) (λ q x o. absurd (cc (q, o)))
