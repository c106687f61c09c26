-- The answers of a run name what the scene has.
use Rattle.std.proofs.Common.{List, None, Option, Some, [], ap, arith, eq-eqb, eqb-true, inl, inr, length, option_map, refl, slice_get, slice_set, subst, suc, sym, take_all, true, zero, ℕ, ◌+◌, ◌-◌, ◌<◌, ◌^◌, ◌∙◌, ◌∷◌, ◌≡◌, ◌≤◌}
use Rattle.std.proofs.lemmas.Bool.Decides.{nat_tests}
use Rattle.std.proofs.lemmas.List.{length-replicate}
use Rattle.std.proofs.lemmas.Option.{slice_get_within}
use Rattle.str_model.proofs.Room.SmallNumbers.{script_few}
use Rattle.history_reading.proofs.ValuesInRange.{script_ops, seen_values}
use Rattle.history_reading.specs.HistoryRanges.{IsCause, IsFinal, IsGot, IsNamed, IsOfScene, IsOutcome, IsPlaced, IsTime}
use Rattle.history_reading.specs.Histories.{HasFewGets, gets_of}
use Rattle.si_laws.proofs.Isolation.IsolationHolds.{isolated_run}
use Rattle.si_laws.proofs.Reasons.AnswersGiven.{aborts_answered, commits_answered}
use Rattle.si_laws.specs.Commits.{seen}
use Rattle.si_laws.specs.Laws.Answers.{CommitsAt}
use Rattle.si_laws.specs.SnapshotIsolation as isolation
use Rattle.si_laws.specs.SnapshotIsolation.{IsAnswer, SI}
use Rattle.si_laws.specs.Standing.{Wrote}
use Rattle.si_laws.specs.TrueCause.{AbortsAt, IsTrue}
use Rattle.str_base.proofs.Lists.{get_set, got_replicate, got_set}
use Rattle.str_base.proofs.Members.{any_in, in_at}
use Rattle.str_base.specs.Members.{In}
use Rattle.str_base.specs.Versions.{same_key, stamp}
use Rattle.str_base.specs.declared.names.Cause.{Cause}
use Rattle.str_base.specs.declared.names.Cause.TheVariants.{Conflict, Late, Lost, Wish}
use Rattle.str_base.specs.declared.names.KeyId.{KeyId}
use Rattle.str_base.specs.declared.names.NodeId.{NodeId}
use Rattle.str_base.specs.declared.names.PartId.{PartId}
use Rattle.str_base.specs.declared.names.Ts.{Ts}
use Rattle.str_base.specs.declared.names.TxId.{TxId}
use Rattle.str_model.proofs.OwnFacts.FewOwn.{own_few, times_low}
use Rattle.str_model.proofs.OwnFacts.PlacesInOrder.{nth_exists}
use Rattle.str_model.proofs.Principle.Everywhere.{IsSeen, Stage, at_place, during, everywhere, place_exists, stage_of}
use Rattle.str_model.proofs.Principle.LaterMoments.{at_each_moment, took}
use Rattle.str_model.proofs.Principle.SingleChanges.{Act, Where}
use Rattle.str_model.proofs.ViewFacts.MomentKept.{moment-act, moment_opening}
use Rattle.str_model.specs.NodeFacts.{MomentFacts, WritesKey, times_end}
use Rattle.str_model.specs.Owned.{final_times, wrote_key}
use Rattle.str_model.specs.Runs.{opening, opening_view, run}
use Rattle.str_model.specs.Strange.{has_node}
use Rattle.str_model.specs.Traces.{MomentAt, trace}
use Rattle.str_model.specs.Views.{Committed as CommittedAs, Doing, Own, View}
use Rattle.str_model.specs.declared.messages.Answer.{Answer}
use Rattle.str_model.specs.declared.messages.Input.{Input}
use Rattle.str_model.specs.declared.messages.Outcome.{Outcome}
use Rattle.str_model.specs.declared.messages.Outcome.TheVariants.{Aborted, Committed}
use Rattle.str_model.specs.declared.names.Got.{Got}
use Rattle.str_scene.proofs.Each.{each_at}
use Rattle.str_scene.specs.Lists.{Each}
use Rattle.str_scene.specs.SceneLimits.{Exists, IsKeyOf, IsOp, IsRow, IsScene}
use Rattle.str_scene.specs.Scenes.{KeyTable, Scene, is_master, leads, nth, or_none, part_of, script_at}
use Rattle.str_scene.specs.declared.names.Event.{Event}
use Rattle.str_scene.specs.declared.names.Op.{Op}
use Rattle.str_scene.specs.declared.names.Op.TheVariants.{Abort, Add, Del, Get, Need, Put, Puts}

-- ---- what holds of each node at each moment

pub record NodesKept (scene : Scene) (s : Stage) : Type 0 where
  pub count : length s.nodes ≡ scene.nodes
  pub facts : (n : ℕ) (v : View) → slice_get s.nodes n ≡ Some v → MomentFacts (at_place scene n) v

set_length : {X : Type 0} (xs : List X) (i : ℕ) (y : X) → length (slice_set xs i y) ≡ length xs
set_length [] i y = refl
set_length (x ∷ xs) zero y = refl
set_length (x ∷ xs) (suc i) y = let rest : length (slice_set xs i y) ≡ length xs = set_length xs i y in omega (arith, rest)

nodes_keep : (scene : Scene) → IsScene scene → (s : Stage) (i : ℕ) (v : View) (input : Input) (w : Where) (d e : Doing) → slice_get s.nodes i ≡ Some v → IsSeen s input → NodesKept scene s → Act (at_place scene i) input w d e →
    NodesKept scene (during s i d) → NodesKept scene (during s i e)
nodes_keep scene ok s i v input w d e is seen h act k = record {
  count = set_length s.nodes i e.view ∙ h.count;
  facts = λ n u q. elim (got_set s.nodes i n e.view u q) [
    | inl p ↦ subst (λ m. MomentFacts (at_place scene m) u) (sym p.0) (subst (MomentFacts (at_place scene i)) (sym p.1)
        (moment-act (at_place scene i) ok (place_exists scene i (omega (arith, slice_get_within s.nodes i v is, h.count))) input w d e act (k.facts i d.view (get_set s.nodes i v d.view is))))
    | inr p ↦ h.facts n u p.1
  ];
}

nodes_open : (scene : Scene) → NodesKept scene (stage_of (opening scene))
nodes_open scene = record {
  count = length-replicate scene.nodes (opening_view scene);
  facts = λ n v g. subst (MomentFacts (at_place scene n)) (sym (got_replicate scene.nodes n (opening_view scene) v g)) (moment_opening (at_place scene n));
}

-- ---- keys and nodes of a scene

-- a key that an operation of the scene writes
op_key : (version : ℕ) (table : KeyTable) (op : Op) (k : KeyId) → IsOp version table op → WritesKey op k → IsKeyOf table k
op_key version table (Put l n) k h w = subst (IsKeyOf table) w h.0
op_key version table (Puts l t) k h w = subst (IsKeyOf table) w h.0
op_key version table (Add l n) k h w = subst (IsKeyOf table) w h.0
op_key version table (Del l) k h w = subst (IsKeyOf table) w h
op_key version table (Get l) k h w = absurd w
op_key version table (Need l n) k h w = absurd w
op_key version table Abort k h w = absurd w

-- a partition's master is a node of the scene
master_exists : (scene : Scene) → IsScene scene → (n : NodeId) (p : PartId) → is_master scene n p ≡ true → Exists n.0 scene.nodes
master_exists scene ok n p e = by_row p.0 e
  where
    by_nodes : (row : List NodeId) → IsRow scene.nodes row → leads n row ≡ true → Exists n.0 scene.nodes
    by_nodes [] r h = absurd (cc h)
    by_nodes (m ∷ ms) r h = subst (λ k. Exists k scene.nodes) (eqb-true m.0 n.0 h) (r.exist 0 m refl)

    by_found : (o : Option (List NodeId)) → ((row : List NodeId) → o ≡ Some row → IsRow scene.nodes row) → leads n (or_none o) ≡ true → Exists n.0 scene.nodes
    by_found None r h = absurd (cc h)
    by_found (Some row) r h = by_nodes row (r row refl) h

    by_row : (k : ℕ) → leads n (or_none (nth scene.parts k)) ≡ true → Exists n.0 scene.nodes
    by_row zero h = absurd (cc h)
    by_row (suc i) h = by_found (slice_get scene.parts i) (λ row q. ok.rows i row q) h

-- ---- transactions that stand somewhere

-- a node of the scene, and a number that is there
named_at : (scene : Scene) → IsScene scene → (n : ℕ) → n < scene.nodes → (v : View) → MomentFacts (at_place scene n) v → (t : TxId) (x : Own) → t.node.0 ≡ n + 1 → nth v.own t.seq ≡ Some x → IsNamed scene.nodes t
named_at scene ok n l v h t x e s =
    let there : Exists t.seq (length v.own) = nth_exists v.own t.seq x s in
    let few : length v.own ≤ 1024 = own_few (at_place scene n) ok (place_exists scene n l) v.own h.order in
    record { node = (omega (arith, e), omega (arith, e, l)); first = there.0; last = omega (arith, there.1, few) }

nth_at : {X : Type 0} (xs : List X) (n : ℕ) (x : X) → nth xs n ≡ Some x → (i : ℕ) × (slice_get xs i ≡ Some x) × (n ≡ i + 1)
nth_at xs zero x e = absurd (cc e)
nth_at xs (suc i) x e = (i, e, omega arith)

-- its times are below 2^63
own_times_low : (scene : Scene) → IsScene scene → (n : ℕ) → n < scene.nodes → (v : View) → MomentFacts (at_place scene n) v → (seq : ℕ) (x : Own) → nth v.own seq ≡ Some x →
    (x.snap.rs < 2 ^ 63) × ((t : ℕ) → In t (final_times x.phase) → t < 2 ^ 63)
own_times_low scene ok n l v h seq x s =
    let at = nth_at v.own seq x s in
    let low : times_end v < 2 ^ 63 - 1 = times_low (at_place scene n) ok (place_exists scene n l) v h in
    let b = h.below.own x (in_at v.own at.0 x at.1) in
    (omega (arith, low, b.rs), λ t k. omega (arith, low, b.finals t k))

-- a final timestamp among the times
final_in : (x : Own) (lc : Option ℕ) (fc : ℕ) → x.phase ≡ CommittedAs lc (Some fc) → In fc (final_times x.phase)
final_in x lc fc e = subst (λ p. In fc (final_times p)) (sym e) (inl refl)

module _ (scene : Scene) (ok : IsScene scene) (es : List Event) where
  -- at a moment
  record At (n : NodeId) (v : View) : Type 0 where
    place : ℕ
    node : n.0 ≡ place + 1
    exists : place < scene.nodes
    facts : MomentFacts (at_place scene place) v

  at_moment : (j m : ℕ) (n : NodeId) (d : Doing) → MomentAt (trace scene es) j m n d → At n d.view
  at_moment j m n d a =
      let t = took scene es j a.0 n a.1 a.2 in
      let k = at_each_moment scene (NodesKept scene) (nodes_keep scene ok) (nodes_open scene) es j m a.0 n d t a.3 in
      let nodes : List View = (run scene t.from.early).nodes in
      let is : slice_get (slice_set nodes t.takes.place d.view) t.takes.place ≡ Some d.view = get_set nodes t.takes.place t.takes.view d.view t.takes.is in
      record {
        place = t.takes.place;
        node = ap (λ (z : NodeId). z.0) t.node;
        exists = omega (arith, slice_get_within (slice_set nodes t.takes.place d.view) t.takes.place d.view is, k.count);
        facts = k.facts t.takes.place d.view is;
      }

  -- at the end
  at_end : (n : NodeId) (v : View) → nth (run scene es).nodes n.0 ≡ Some v → At n v
  at_end n v e =
      let k = everywhere scene (NodesKept scene) (nodes_keep scene ok) (nodes_open scene) es in
      let p = nth_at (run scene es).nodes n.0 v e in
      record { place = p.0; node = p.2; exists = omega (arith, slice_get_within (run scene es).nodes p.0 v p.1, k.count); facts = k.facts p.0 v p.1 }

  named_in : (t : TxId) (v : View) (x : Own) → At t.node v → nth v.own t.seq ≡ Some x → IsNamed scene.nodes t
  named_in t v x a s = named_at scene ok a.place a.exists v a.facts t x a.node s

  node_in : (n : NodeId) (v : View) → At n v → Exists n.0 scene.nodes
  node_in n v a = (omega (arith, a.node), omega (arith, a.node, a.exists))

  time_in : (n : NodeId) (v : View) (seq : ℕ) (x : Own) → At n v → nth v.own seq ≡ Some x → IsTime (stamp x.snap.rs)
  time_in n v seq x a s = (own_times_low scene ok a.place a.exists v a.facts seq x s).0

  final_time : (n : NodeId) (v : View) (seq : ℕ) (x : Own) (lc : Option ℕ) (fc : ℕ) → At n v → nth v.own seq ≡ Some x → x.phase ≡ CommittedAs lc (Some fc) → fc < 2 ^ 63
  final_time n v seq x lc fc a s e = (own_times_low scene ok a.place a.exists v a.facts seq x s).1 fc (final_in x lc fc e)

  final_in_range : (n : NodeId) (v : View) (seq : ℕ) (x : Own) (lc : Option ℕ) (fc : Option Ts) → At n v → nth v.own seq ≡ Some x → x.phase ≡ CommittedAs lc (option_map (λ t. t.0) fc) → IsFinal fc
  final_in_range n v seq x lc None a s e = tt
  final_in_range n v seq x lc (Some t) a s e = final_time n v seq x lc t.0 a s e

  -- a key that a transaction wrote is one of the scene
  wrote_in : (n : NodeId) (v : View) (seq : ℕ) (x : Own) (k : KeyId) → At n v → nth v.own seq ≡ Some x → Wrote x k → IsKeyOf scene.keys k
  wrote_in n v seq x k a s w =
      let at = nth_at v.own seq x s in
      let there : wrote_key k x.writes ≡ true = any_in (λ u. same_key u.key k) x.writes (record { key = k; value = w.0 }) (in_at x.writes w.1.0 _ w.1.1) (eq-eqb k.0 k.0 refl) in
      let inside = (a.facts.scripts at.0 x at.1).inside k there in
      op_key scene.version scene.keys inside.1 k (each_at (IsOp scene.version scene.keys) (script_at scene x.place) inside.0 inside.1 (script_ops scene ok x.place) inside.2) inside.3

  -- a cause that is true names what the scene has
  cause_in : (j m : ℕ) (t : TxId) (d : Doing) (x : Own) (c : Cause) → MomentAt (trace scene es) j m t.node d → nth d.view.own t.seq ≡ Some x → IsTrue scene (run scene es) (trace scene es) j t d x c → IsCause scene c
  cause_in j m t d x (Conflict u k n) b s h = (
    named_in u h.1.2.0 h.1.1 (at_end u.node h.1.2.0 h.1.2.1) h.1.2.2,
    wrote_in t.node d.view t.seq x k (at_moment j m t.node d b) s h.1.0,
    elim h.2 [
      | inl q ↦ elim q [ inl r ↦ here r.0 | inr r ↦ here r.0 ]
      | inr r ↦ master_exists scene ok n (part_of scene k) r.master
    ],
  )
    where
      here : n ≡ t.node → Exists n.0 scene.nodes
      here e = subst (λ (z : NodeId). Exists z.0 scene.nodes) (sym e) (node_in t.node d.view (at_moment j m t.node d b))
  cause_in j m t d x (Lost u) b s h = named_in u d.view h.0 (subst (λ z. At z d.view) (sym h.1.0.0) (at_moment j m t.node d b)) h.1.1
  cause_in j m t d x (Late u fc) b s h =
      let a : At u.node d.view = subst (λ z. At z d.view) (sym h.1.0.0) (at_moment j m t.node d b) in
      (named_in u d.view h.0 a h.1.1, final_time u.node d.view u.seq h.0 h.2.0 fc.0 a h.1.1 h.2.1)
  cause_in j m t d x Wish b s h = tt

  -- all answers are isolated
  whole : SI scene (run scene es).answers
  whole = subst (SI scene) (take_all (length (run scene es).answers) (run scene es).answers (omega arith)) (isolated_run scene ok es (length (run scene es).answers))

  placed_in : (a : Answer) → isolation.IsPlaced scene a → IsPlaced scene.sessions a.place
  placed_in a p = record { text = p.text; session = p.session; index = p.index }

  committed_in : (i : ℕ) (a : Answer) (fc : Option Ts) (gets : List Got) → IsAnswer (run scene es).answers i a → a.outcome ≡ Committed fc gets → IsOfScene scene a × HasFewGets a
  committed_in i a fc gets is e =
      let c = commits_answered scene ok es i a fc gets is e in
      let at : CommitsAt (trace scene es) c.0 a.tx c.1 c.2 (option_map (λ t. t.0) fc) = c.3 in
      let before = at_moment c.0 at.moment a.tx.node c.1 at.before in
      let after = at_moment c.0 (at.moment + 1) a.tx.node at.next at.after in
      let snap : isolation.IsCommittedSnapshot (seen scene (run scene es).answers a) a.rs.0 (Committed fc gets) = subst (isolation.IsCommittedSnapshot (seen scene (run scene es).answers a) a.rs.0) e (whole.snapshots i a is) in
      let got : Each (IsGot scene.keys) gets = subst (Each (IsGot scene.keys)) snap.1 (seen_values scene ok (run scene es).answers a).gets in
      let own = nth_at c.1.view.own a.tx.seq c.2 at.stood in
      let lengths = before.facts.lengths own.0 c.2 own.1 in
      let few : gets_of (Committed fc gets) ≤ 16 = omega (arith, lengths.gets, lengths.next, script_few scene ok c.2.place, ap length c.4) in (
        record {
          tx = named_in a.tx c.1.view c.2 before at.stood;
          place = placed_in a (whole.placed.each i a is);
          rs = subst IsTime (sym c.5.1) (time_in a.tx.node c.1.view a.tx.seq c.2 before at.stood);
          outcome = subst (IsOutcome scene) (sym e) (final_in_range a.tx.node at.next.view a.tx.seq at.gone at.lc fc after at.stands at.committed, got);
        },
        subst (λ o. gets_of o ≤ 16) (sym e) few,
      )

  aborted_in : (i : ℕ) (a : Answer) (cause : Cause) → IsAnswer (run scene es).answers i a → a.outcome ≡ Aborted cause → IsOfScene scene a × HasFewGets a
  aborted_in i a cause is e =
      let c = aborts_answered scene ok es i a cause is e in
      let at : AbortsAt (trace scene es) c.0 a.tx c.1 c.2 cause = c.3 in
      let before = at_moment c.0 at.moment a.tx.node c.1 at.before in (
        record {
          tx = named_in a.tx c.1.view c.2 before at.stood;
          place = placed_in a (whole.placed.each i a is);
          rs = subst IsTime (sym c.5.1) (time_in a.tx.node c.1.view a.tx.seq c.2 before at.stood);
          outcome = subst (IsOutcome scene) (sym e) (cause_in c.0 at.moment a.tx c.1 c.2 cause at.before at.stood c.4);
        },
        subst (λ o. gets_of o ≤ 16) (sym e) (omega arith),
      )

  -- each answer names what the scene has, with at most 16 gets
  pub answer_in : (i : ℕ) (a : Answer) → IsAnswer (run scene es).answers i a → IsOfScene scene a × HasFewGets a
  answer_in i a is = by a.outcome refl
    where
      by : (o : Outcome) → a.outcome ≡ o → IsOfScene scene a × HasFewGets a
      by (Committed fc gets) e = committed_in i a fc gets is e
      by (Aborted cause) e = aborted_in i a cause is e
