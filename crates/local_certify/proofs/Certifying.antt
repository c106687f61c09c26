-- What a certification comes to, and why.
use Rattle.std.proofs.Common.{Bool, Err, List, None, Ok, Option, Some, [], ap, arith, drop, false, find, if◌then◌else◌, length, max, refl, slice_get, suc, sym, true, zero, ℕ, ◌+◌, ◌-◌, ◌<◌, ◌∙◌, ◌∷◌, ◌≡◌, ◌≤◌, ◌↔◌}
use Rattle.std.proofs.lemmas.Option.{slice_get-get_or}
use Rattle.std.proofs.lemmas.List.{drop_more}
use Rattle.std.specs.List.{last_or, slice_index_or}
use Rattle.dependency_set.specs.declared.snaps.OwnSnap.{OwnSnap}
use Rattle.dependency_set.specs.Snapshots.{Snap, holds, oldest}
use Rattle.local_certify.proofs.Meeting.{judged_err, judged_met, judged_ok}
use Rattle.local_certify.specs.Causes.{CertWaits, FirstConflict, IsAbove, time_end}
use Rattle.local_certify.specs.declared.certs.CertTurn.{CertTurn}
use Rattle.local_certify.specs.declared.certs.CertTurn.TheVariants as turns
use Rattle.local_certify.specs.Judging.{judged_all, passed_by}
use Rattle.local_certify.specs.ListCerts.{cert_found, closed_at, joined_told, list_cert, met_in}
use Rattle.local_certify.specs.Turning.{turn_of}
use Rattle.partition_map.specs.Maps as maps
use Rattle.snapshot_read.proofs.Gating.{shut_names}
use Rattle.snapshot_read.specs.Causes.{GateWaits}
use Rattle.snapshot_read.specs.Shown.{of_key, held}
use Rattle.str_base.specs.declared.names.KeyId.{KeyId}
use Rattle.str_base.specs.declared.names.Kind.{Kind}
use Rattle.str_base.specs.declared.names.Kind.TheVariants.{Final, Local, Pre}
use Rattle.str_base.specs.declared.names.NodeId.{NodeId}
use Rattle.str_base.specs.declared.names.PartId.{PartId}
use Rattle.str_base.specs.declared.names.Ts.{Ts}
use Rattle.str_base.specs.declared.names.TxId.{TxId}
use Rattle.str_base.specs.declared.names.Version.{Version}
use Rattle.str_base.specs.declared.names.Write.{Write}
use Rattle.str_base.specs.Versions.{chain, mark_of, newest, same_key, ts_or_zero}
use Rattle.str_model.specs.Turns
use Rattle.str_model.specs.Turns.{Certified, Conflict, WaitGate, cert_turn, conflicts, joined, joined_one, met, passed, take_over, waits_for}
use Rattle.str_model.specs.Views.{Own, View}
use Rattle.str_scene.specs.Scenes.{Here}
use Rattle.version_chain.proofs.Each.{each_kept}
use Rattle.version_chain.specs.ChainLists.{Each}

-- ---- bounds

-- the last of a list is below what all are below
last_below : (vs : List Version) (acc : Option Version) → ts_or_zero acc < time_end → Each (λ v. v.ts.0 < time_end) vs → ts_or_zero (last_or acc vs) < time_end
last_below [] acc a e = a
last_below (v ∷ vs) acc a e = last_below vs (Some v) e.0 e.1

-- so is the newest of a key
pub newest_below : (k : KeyId) (vs : List Version) → Each (λ v. v.ts.0 < time_end) vs → newest vs k < time_end
newest_below k vs e = last_below (chain k vs) None (omega arith) (each_kept (λ v. same_key v.key k) (λ v. v.ts.0 < time_end) vs e)

-- the next that is passed is below what all are below
pub next_below : (marks : List ℕ) (ws : List Write) (i : ℕ) (d : Write) (last mark new next : ℕ) → ((j : ℕ) (w : Write) → slice_get ws j ≡ Some w → w.key.0 < length marks)
    → ((k : KeyId) → k.0 < length marks → mark_of marks k < time_end) → i < length ws → mark ≡ mark_of marks (slice_index_or ws i d).key → last < time_end → new < time_end
    → next ≡ max last (max mark new) → next < time_end
next_below marks ws i d last mark new next h k l m a b e =
    let w = slice_index_or ws i d in
    let c : mark < time_end = rw m (k w.key (h i w (slice_get-get_or ws i d l))) in
    rw e (omega (arith, a, b, c))

passes_more : (last mark new rest : ℕ) → max (max last (max mark new)) rest ≡ max last (max (max mark new) rest)
passes_more last mark new rest = omega arith

-- one more write is passed
pub pass_next : (marks : List ℕ) (map : maps.PartitionMap) (node : NodeId) (store cache : List Version) (ws : List Write) (i : ℕ) (d : Write) (last mark new next total : ℕ) (part : PartId) (b : Bool)
    → i < length ws → max last (passed_by marks (held map node store cache) (drop i ws)) ≡ total
    → part ≡ maps.part_of map (slice_index_or ws i d).key → b ≡ maps.hosts map node part
    → mark ≡ mark_of marks (slice_index_or ws i d).key → new ≡ newest (of_key b store cache) (slice_index_or ws i d).key
    → next ≡ max last (max mark new) → max next (passed_by marks (held map node store cache) (drop (i + 1) ws)) ≡ total
pass_next marks map node store cache ws i d last mark new next total part b l h p q m n e =
    let w = slice_index_or ws i d in
    let new_at : new ≡ newest (held map node store cache w.key) w.key = n ∙ ap (λ c. newest (of_key c store cache) w.key) (q ∙ ap (λ u. maps.hosts map node u) p) in
    ap (λ x. max x (passed_by marks (held map node store cache) (drop (i + 1) ws))) e
    ∙ passes_more last mark new (passed_by marks (held map node store cache) (drop (i + 1) ws))
    ∙ ap (λ x. max last (max (max x new) (passed_by marks (held map node store cache) (drop (i + 1) ws)))) m
    ∙ ap (λ x. max last (max (max (mark_of marks w.key) x) (passed_by marks (held map node store cache) (drop (i + 1) ws)))) new_at
    ∙ sym (ap (λ us. max last (passed_by marks (held map node store cache) us)) (drop_more ws i d l))
    ∙ h

-- what is passed is not below the mark and the newest of a written key
passed_each : (view : View) (ws : List Write) (i : ℕ) (w : Write) → slice_get ws i ≡ Some w → (mark_of view.marks w.key ≤ passed view ws) × (newest view.versions w.key ≤ passed view ws)
passed_each view [] i w e = absurd (cc e)
passed_each view (u ∷ us) zero w e = let same : u ≡ w = cc e in rw same (omega arith, omega arith)
passed_each view (u ∷ us) (suc i) w e = let rec = passed_each view us i w e in (omega (arith, rec.0), omega (arith, rec.1))

-- ---- what is taken over leaves the timestamp

take_rs : (x : Option Own) (q : ℕ) (snap : Snap) → (take_over x q snap).rs ≡ snap.rs
take_rs None q snap = refl
take_rs (Some x) q snap = refl

one_rs : (xs : List Own) (v : Version) (kind : Kind) (snap : Snap) → (joined_one xs v kind snap).rs ≡ snap.rs
one_rs xs v Local snap = take_rs (slice_get xs (v.tx.seq - 1)) v.tx.seq snap
one_rs xs v Pre snap = refl
one_rs xs v Final snap = refl

joined_rs : (xs : List Own) (vs : List Version) (snap : Snap) → (joined xs vs snap).rs ≡ snap.rs
joined_rs xs [] snap = refl
joined_rs xs (v ∷ vs) snap = joined_rs xs vs (joined_one xs v v.kind snap) ∙ one_rs xs v v.kind snap

-- ---- the close

-- a snapshot that met no conflict is certified above what has to be passed, where its gate lets it through
abbrev closing : Here → ℕ → Snap → Turns.CertTurn
closing here past snap = if holds snap then Certified (1 + max snap.rs past) snap else WaitGate (waits_for here (oldest snap.deps))

-- at a node it waits where the gate does
pub closed_waits : (node : NodeId) (past : ℕ) (snap : Snap) (by : TxId) → GateWaits node snap by → WaitGate by ≡ closed_at node past snap
closed_waits node past snap by g = rw (g.shut, g.least, g.named) refl

-- it waits where the gate does
waits_close : (here : Here) (past : ℕ) (snap : Snap) (by : TxId) → GateWaits here.node snap by → WaitGate by ≡ closing here past snap
waits_close here past snap by g = rw (g.shut, g.least, g.named) refl

close_waits : (here : Here) (past : ℕ) (snap : Snap) (by : TxId) → closing here past snap ≡ WaitGate by → GateWaits here.node snap by
close_waits here past snap by e = by_test (holds snap) refl e
  where
    by_test : (b : Bool) → holds snap ≡ b → (if b then Certified (1 + max snap.rs past) snap else WaitGate (waits_for here (oldest snap.deps))) ≡ WaitGate by → GateWaits here.node snap by
    by_test true h f = absurd (cc f)
    by_test false h f = shut_names here snap by h (cc f)

close_never : (here : Here) (past : ℕ) (snap : Snap) (by : TxId) (k : KeyId) → closing here past snap ≡ Conflict by k → ⊥
close_never here past snap by k e = by_test (holds snap) e
  where
    by_test : (b : Bool) → (if b then Certified (1 + max snap.rs past) snap else WaitGate (waits_for here (oldest snap.deps))) ≡ Conflict by k → ⊥
    by_test true f = cc f
    by_test false f = cc f

close_at : (here : Here) (past : ℕ) (snap : Snap) (lc : ℕ) (s : Snap) → closing here past snap ≡ Certified lc s → lc ≡ 1 + max snap.rs past
close_at here past snap lc s e = by_test (holds snap) e
  where
    by_test : (b : Bool) → (if b then Certified (1 + max snap.rs past) snap else WaitGate (waits_for here (oldest snap.deps))) ≡ Certified lc s → lc ≡ 1 + max snap.rs past
    by_test true f = cc f
    by_test false f = absurd (cc f)

-- ---- by what is found

module _ (here : Here) (view : View) (snap : Snap) (ws : List Write) where
  cert_conflict : (v : Version) → find (conflicts snap.rs) (met ws view.versions) ≡ Some v → cert_turn here view snap ws ≡ Conflict v.tx v.key
  unfolding cert_turn
  cert_conflict v e = rw e refl

  cert_free : find (conflicts snap.rs) (met ws view.versions) ≡ None → cert_turn here view snap ws ≡ closing here (passed view ws) (joined view.own (met ws view.versions) snap)
  unfolding cert_turn
  cert_free e = rw e refl

  why_conflict : (by : TxId) (k : KeyId) → cert_turn here view snap ws ≡ Conflict by k → FirstConflict view snap ws by k
  why_conflict by k e = by_find (find (conflicts snap.rs) (met ws view.versions)) refl
    where
      by_find : (f : Option Version) → find (conflicts snap.rs) (met ws view.versions) ≡ f → FirstConflict view snap ws by k
      by_find None q = absurd (close_never here (passed view ws) (joined view.own (met ws view.versions) snap) by k (sym (cert_free q) ∙ e))
      by_find (Some v) q = record { version = v; first = q; writer = cc (cert_conflict v q, e); written = cc (cert_conflict v q, e) }

  why_wait : (by : TxId) → cert_turn here view snap ws ≡ WaitGate by → CertWaits here view snap ws by
  why_wait by e = by_find (find (conflicts snap.rs) (met ws view.versions)) refl
    where
      by_find : (f : Option Version) → find (conflicts snap.rs) (met ws view.versions) ≡ f → CertWaits here view snap ws by
      by_find None q = record { free = q; gate = close_waits here (passed view ws) (joined view.own (met ws view.versions) snap) by (sym (cert_free q) ∙ e) }
      by_find (Some v) q = absurd (cc (cert_conflict v q, e))

  why_above : (lc : ℕ) (s : Snap) → cert_turn here view snap ws ≡ Certified lc s → IsAbove view snap ws lc
  why_above lc s e = by_find (find (conflicts snap.rs) (met ws view.versions)) refl
    where
      bounds : lc ≡ 1 + max snap.rs (passed view ws) → IsAbove view snap ws lc
      bounds q =
          record {
            snap_below = omega (arith, q);
            marks_below = λ i w f. omega (arith, q, (passed_each view ws i w f).0);
            newest_below = λ i w f. omega (arith, q, (passed_each view ws i w f).1);
          }

      by_find : (f : Option Version) → find (conflicts snap.rs) (met ws view.versions) ≡ f → IsAbove view snap ws lc
      by_find None q =
          bounds
          (close_at here (passed view ws) (joined view.own (met ws view.versions) snap) lc s (sym (cert_free q) ∙ e)
          ∙ ap (λ r. 1 + max r (passed view ws)) (joined_rs view.own (met ws view.versions) snap))
      by_find (Some v) q = absurd (cc (cert_conflict v q, e))

  -- ---- of the turn that the code gives

  to_conflict : (t : CertTurn) (by : TxId) (k : KeyId) → turn_of t ≡ Conflict by k → t ≡ turns.Conflict by k
  to_conflict (turns.Certified lc s) by k e = absurd (cc e)
  to_conflict (turns.Conflict b q) by k e = let m : b ≡ by = cc e in let n : q ≡ k = cc e in rw (m, n) refl
  to_conflict (turns.WaitGate b) by k e = absurd (cc e)

  to_wait : (t : CertTurn) (by : TxId) → turn_of t ≡ WaitGate by → t ≡ turns.WaitGate by
  to_wait (turns.Certified lc s) by e = absurd (cc e)
  to_wait (turns.Conflict b q) by e = absurd (cc e)
  to_wait (turns.WaitGate b) by e = let m : b ≡ by = cc e in rw m refl

  so_conflict : (by : TxId) (k : KeyId) → FirstConflict view snap ws by k → cert_turn here view snap ws ≡ Conflict by k
  so_conflict by k f = rw (f.writer, f.written) (cert_conflict f.version f.first)

  so_wait : (by : TxId) → CertWaits here view snap ws by → cert_turn here view snap ws ≡ WaitGate by
  so_wait by w = cert_free w.free ∙ sym (waits_close here (passed view ws) (joined view.own (met ws view.versions) snap) by w.gate)

  pub conflict_cause : (t : CertTurn) → turn_of t ≡ cert_turn here view snap ws → (by : TxId) (k : KeyId) → (t ≡ turns.Conflict by k) ↔ FirstConflict view snap ws by k
  conflict_cause t e by k = (λ q. why_conflict by k (sym e ∙ ap turn_of q), λ f. to_conflict t by k (e ∙ so_conflict by k f))

  pub wait_cause : (t : CertTurn) → turn_of t ≡ cert_turn here view snap ws → (by : TxId) → (t ≡ turns.WaitGate by) ↔ CertWaits here view snap ws by
  wait_cause t e by = (λ q. why_wait by (sym e ∙ ap turn_of q), λ w. to_wait t by (e ∙ so_wait by w))

  pub above_cause : (t : CertTurn) → turn_of t ≡ cert_turn here view snap ws → (lc : Ts) (s : Snap) → t ≡ turns.Certified lc s → IsAbove view snap ws lc.0
  above_cause t e lc s q = why_above lc.0 s (sym e ∙ ap turn_of q)

-- ---- by what the stores give

module _ (node : NodeId) (map : maps.PartitionMap) (own : List OwnSnap) (store cache : List Version) (marks : List ℕ) (snap : Snap) (ws us : List Write) (u : us ≡ ws) where
  -- a conflict
  pub gives_conflict : (v : Version) → Err v ≡ judged_all own snap.rs (held map node store cache) us snap → Conflict v.tx v.key ≡ list_cert node map own store cache marks snap ws
  gives_conflict v f =
      let versions = held map node store cache in
      let e = f ∙ ap (λ xs. judged_all own snap.rs versions xs snap) u ∙ judged_met own snap.rs versions ws snap in
      sym (ap (λ o. cert_found node (passed_by marks versions ws) (joined_told own (met_in versions ws) snap) o) (judged_err own snap.rs (met_in versions ws) snap v (sym e)))

  -- none
  pub gives_close : (past : Ts) (turn : Turns.CertTurn) (j : Snap) → Ok j ≡ judged_all own snap.rs (held map node store cache) us snap
      → past.0 ≡ passed_by marks (held map node store cache) us → turn ≡ closed_at node past.0 j → turn ≡ list_cert node map own store cache marks snap ws
  gives_close past turn j d q f =
      let versions = held map node store cache in
      let e = d ∙ ap (λ xs. judged_all own snap.rs versions xs snap) u ∙ judged_met own snap.rs versions ws snap in
      let p = q ∙ ap (λ xs. passed_by marks versions xs) u in
      let found = judged_ok own snap.rs (met_in versions ws) snap j (sym e) in
      f ∙ ap (λ n. closed_at node n j) p ∙ ap (λ (x : Snap). closed_at node (passed_by marks versions ws) x) found.1
      ∙ sym (ap (λ o. cert_found node (passed_by marks versions ws) (joined_told own (met_in versions ws) snap) o) found.0)
