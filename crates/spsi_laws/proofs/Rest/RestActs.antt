-- What the law Rest needs of each single change: who asks, what a certified transaction keeps, and who is told of a decision.
use Rattle.std.proofs.Common.{List, None, Some, [], ap, false, filter, inl, inr, map, refl, slice_get, slice_set, subst, subst₂, sym, true, ℕ, ◌++◌, ◌∙◌, ◌∷◌, ◌≡◌, ◌≢◌, ◌⊎◌}
use Rattle.partition_map.specs.declared.rows.Asked.{Asked}
use Rattle.dependency_set.specs.declared.names.Dep.{Dep}
use Rattle.si_laws.proofs.Stages.LinkedStates.{one_of}
use Rattle.str_base.specs.declared.names.Cause.{Cause}
use Rattle.str_base.specs.declared.names.Kind.TheVariants.{Pre}
use Rattle.str_base.specs.declared.names.NodeId.{NodeId}
use Rattle.str_base.specs.declared.names.PartId.{PartId}
use Rattle.str_base.specs.declared.names.TxId.{TxId}
use Rattle.str_base.specs.declared.names.Version.{Version}
use Rattle.str_base.specs.declared.names.Write.{Write}
use Rattle.str_base.specs.Versions.{of_pair, of_tx, settled, without}
use Rattle.str_model.proofs.Principle.SingleChanges.{Act, AsksCommit, Change, IsHere, Reads, Where, act_abort, act_abort_came, act_accept, act_ack, act_ask, act_begin, act_certify, act_close, act_commit, act_commit_came, act_mark, act_put, act_refuse, act_reply, act_request, act_take, act_unwait, act_wait, asks_again, asks_new, ch_away, ch_blind, ch_close, ch_gate, ch_known, ch_read, ch_reply, ch_resolve, ch_take, ch_wait, reads_again, reads_new}
use Rattle.str_model.proofs.Changes.SnapshotsGain.{if_elim}
use Rattle.str_model.proofs.Principle.OwnPaths.{resolve_all-sub}
use Rattle.str_model.specs.Acts
use Rattle.str_model.specs.Acts.{aborted, accepted, acked, asked, begun, certified, closed, commit_came, committed, copies, decided_as, fresh, in_phase, is_hosted_of, local_version, marked, pre_version, refused, replied, requested, taken, waits, with_asked}
use Rattle.str_model.specs.Gates.{Ask, gate_of}
use Rattle.str_model.specs.Owned.{Owns}
use Rattle.str_model.specs.Turns.{dep_turn, deps_left}
use Rattle.str_model.specs.Views.{Aborted, Committed, Doing, Global, Local, Own, Remote, is_decided, lc_of, letter, name_of}
use Rattle.str_model.specs.declared.messages.Arrived.{Arrived}
use Rattle.str_model.specs.declared.messages.Body.TheVariants.{Abort, Ack, Commit, Prepare, ReadReply, ReadReq, Refuse as Refusal, Replicate}
use Rattle.str_model.specs.declared.messages.Input.{Input}
use Rattle.str_model.specs.declared.messages.Message.{Message}
use Rattle.str_scene.specs.Scenes.{Here, first_or, in_part, leads, others, participants, replicas}
use Rattle.str_model.proofs.Changes.VersionChanges.{Placed, VersionStep, v_decided, v_finals, v_locals, v_pres, v_rests, v_without}
use Rattle.str_model.specs.Owned.{Asks}
use Rattle.str_base.proofs.Lists.{get_push, get_set, got_push, got_set}
use Rattle.str_base.proofs.Members.{in_append, in_insert_all, in_map, in_without}
use Rattle.str_base.specs.Members.{In}

-- ---- a new Pre version

-- a Pre version was there, or is of a write that has just been placed
pub pre_new : (here : Here) (input : Input) (d e : Doing) (x : Version) → VersionStep here input d e → In x e.view.versions → x.kind ≡ Pre
    → In x d.view.versions ⊎ ((a : Arrived) × Placed here input d a × (x.tx ≡ a.tx) × (x.part ≡ a.part) × ((w : Write) × In w a.writes × (w.key ≡ x.key)))
pre_new here input d e x (v_rests q) h k = inl (rw (← q) h)
pre_new here input d e x (v_locals i lc y q) h k =
    elim (in_insert_all (map (local_version here i lc) y.writes) d.view.versions x (rw (← q) h)) [
      | inl j ↦ (let r = in_map (local_version here i lc) y.writes x j in absurd (cc (ap (λ z. z.kind) r.2, k)))
      | inr j ↦ inl j
    ]
pre_new here input d e x (v_pres a ts s q) h k =
    elim (in_insert_all (map (pre_version a ts) a.writes) d.view.versions x (rw (← q) h)) [
      | inl j ↦ (let r = in_map (pre_version a ts) a.writes x j in inr (a, s, ap (λ z. z.tx) (sym r.2), ap (λ z. z.part) (sym r.2), (r.0, r.1, ap (λ z. z.key) r.2)))
      | inr j ↦ inl j
    ]
pre_new here input d e x (v_without test q) h k = inl (in_without test d.view.versions x (rw (← q) h))
pre_new here input d e x (v_decided i fc q) h k =
    elim (in_insert_all (map (settled fc) (filter (is_hosted_of here (name_of here i)) d.view.versions)) (without (of_tx (name_of here i)) d.view.versions) x (rw (← q) h)) [
      | inl j ↦ (let r = in_map (settled fc) (filter (is_hosted_of here (name_of here i)) d.view.versions) x j in absurd (cc (ap (λ z. z.kind) r.2, k)))
      | inr j ↦ inl (in_without (of_tx (name_of here i)) d.view.versions x j)
    ]
pre_new here input d e x (v_finals tx p fc q) h k =
    elim (in_insert_all (map (settled fc) (filter (of_pair tx p) d.view.versions)) (without (of_pair tx p) d.view.versions) x (rw (← q) h)) [
      | inl j ↦ (let r = in_map (settled fc) (filter (of_pair tx p) d.view.versions) x j in absurd (cc (ap (λ z. z.kind) r.2, k)))
      | inr j ↦ inl (in_without (of_pair tx p) d.view.versions x j)
    ]

-- ---- who asks

-- a message was sent before, or is one by which an own transaction asks, or asks nothing for an own one
pub data NewMessage (here : Here) (d e : Doing) (m : Message) : Type 0 where
  n_old : In m d.sent → NewMessage here d e m
  n_ask : (i lc : ℕ) (p : PartId) (x : Own) → m.sender ≡ here.node → Owns d.view i x → is_decided x.phase ≡ false → lc_of x.phase ≡ Some lc → gate_of here d.view lc x ≡ Ask p
      → Owns e.view i (record x { parts = with_asked p x.parts; phase = Global lc }) → Asks (name_of here i) p m.body → NewMessage here d e m
  n_other : m.sender ≡ here.node → ((tx : TxId) (p : PartId) → tx.node.0 ≡ here.node.0 → Asks tx p m.body → ⊥) → NewMessage here d e m

module _ (here : Here) (input : Input) (w : Where) where
  newly : (d e : Doing) (ms : List Message) (m : Message) → e.sent ≡ d.sent ++ ms → (In m ms → NewMessage here d e m) → In m e.sent → NewMessage here d e m
  newly d e ms m q f k = elim (in_append d.sent ms m (subst (In m) q k)) [ inl j ↦ n_old j | inr j ↦ f j ]

  plain : (d e : Doing) (l m : Message) → l.sender ≡ here.node → ((tx : TxId) (p : PartId) → tx.node.0 ≡ here.node.0 → Asks tx p l.body → ⊥) → In m (l ∷ []) → NewMessage here d e m
  plain d e l m s f k = elim k [ inl q ↦ n_other (ap (λ (z : Message). z.sender) (sym q) ∙ s) (λ tx p n a. f tx p n (subst (λ (z : Message). Asks tx p z.body) (sym q) a)) | inr z ↦ absurd z ]

  ask_letters_are : (i lc : ℕ) (x : Own) (p : PartId) (m : Message) → In m (Acts.ask_letters here i lc x p (replicas here.scene p)) → (m.sender ≡ here.node) × Asks (name_of here i) p m.body
  ask_letters_are i lc x p m =
      let ws = filter (in_part here.scene p) x.writes in
      if_elim (λ (zs : List Message). In m zs → (m.sender ≡ here.node) × Asks (name_of here i) p m.body) (leads here.node (replicas here.scene p))
      (map (λ (r : NodeId). letter here r (Replicate (name_of here i) p (record { 0 = x.snap.rs }) (record { 0 = lc }) ws)) (others here.node (replicas here.scene p)))
      (letter here (first_or here.node (replicas here.scene p)) (Prepare (name_of here i) p (record { 0 = x.snap.rs }) (record { 0 = lc }) ws) ∷ [])
      (λ t k. let r = in_map (λ (r : NodeId). letter here r (Replicate (name_of here i) p (record { 0 = x.snap.rs }) (record { 0 = lc }) ws)) (others here.node (replicas here.scene p)) m k in
      (ap (λ (z : Message). z.sender) (sym r.2), subst (λ (z : Message). Asks (name_of here i) p z.body) r.2 (refl, refl)))
      (λ t k. elim k [
        | inl q ↦ (ap (λ (z : Message). z.sender) (sym q), subst (λ (z : Message). Asks (name_of here i) p z.body) q (refl, refl))
        | inr z ↦ absurd z
      ])

  pub new_message : (d e : Doing) → Act here input w d e → ((a : Arrived) → IsHere here input d a → a.tx.node.0 ≢ here.node.0) → (m : Message) → In m e.sent → NewMessage here d e m
  unfolding begun marked aborted committed closed certified asked acked requested accepted taken refused waits replied commit_came Acts.abort_came
  new_message d e (act_begin place rs d' r h) fo m k = n_old k
  new_message d e (act_mark g t d' rd) fo m k = n_old k
  new_message d e (act_put i x y d' own g) fo m k = n_old k
  new_message d e (act_request i g ma x d' own h) fo m k =
      newly d e (letter here ma (ReadReq (name_of here i) g (record { 0 = x.snap.rs })) ∷ []) m refl (plain d e (letter here ma (ReadReq (name_of here i) g (record { 0 = x.snap.rs }))) m refl (λ tx p n a. a)) k
  new_message d e (act_certify i lc snap x d' own f n c) fo m k = n_old k
  new_message d e (act_ask i lc p x d' own f l g) fo m k =
      newly d e (Acts.ask_letters here i lc x p (replicas here.scene p)) m refl
      (λ j. let r = ask_letters_are i lc x p m j in n_ask i lc p x r.0 own.0 f l g (get_set d'.view.own i x (record x { parts = with_asked p x.parts; phase = Global lc }) own.0) r.1) k
  new_message d e (act_ack i lc from t q ts parts x d' own c r g) fo m k = n_old k
  new_message d e (act_abort i cause x d' own f y) fo m k =
      newly d e (Acts.abort_letters here i x.parts) m refl
      (λ j. let r = in_map (λ (a : Asked). letter here a.node (Abort (name_of here i) a.part)) (Acts.asked_ones x.parts) m j in
      n_other (ap (λ (z : Message). z.sender) (sym r.2)) (λ tx p n a. subst (λ (z : Message). Asks tx p z.body) (sym r.2) a)) k
  new_message d e (act_commit i lc fc x d' own l n le f g) fo m k =
      newly d e (Acts.commit_letters here i x fc d'.view) m refl
      (λ j. let r = in_map (λ (a : Asked). letter here a.node (Commit (name_of here i) a.part (record { 0 = fc }) (Acts.marks_in here d'.view a.part x.writes))) x.parts m j in
      n_other (ap (λ (z : Message). z.sender) (sym r.2)) (λ tx p n a. subst (λ (z : Message). Asks tx p z.body) (sym r.2) a)) k
  new_message d e (act_close i x d' own q n) fo m k = n_old k
  new_message d e (act_accept a ts d' h t) fo m k =
      newly d e (letter here a.tx.node (Ack a.tx a.part (record { 0 = ts })) ∷ copies here a (replicas here.scene a.part)) m refl
      (λ j. elim j [
        | inl q ↦ plain d e (letter here a.tx.node (Ack a.tx a.part (record { 0 = ts }))) m refl (λ tx p n z. z) (inl q)
        | inr z ↦ (let r = in_map (λ (r : NodeId). letter here r (Replicate a.tx a.part a.rs a.lc a.writes)) (others a.tx.node (others here.node (replicas here.scene a.part))) m z in
            n_other (ap (λ (y : Message). y.sender) (sym r.2)) (λ tx p n y. let u = subst (λ (y : Message). Asks tx p y.body) (sym r.2) y in fo a h (ap (λ (t : TxId). t.node.0) u.0 ∙ n)))
      ]) k
  new_message d e (act_refuse a u g d' h t) fo m k =
      newly d e (letter here a.tx.node (Refusal a.tx a.part u g) ∷ []) m refl (plain d e (letter here a.tx.node (Refusal a.tx a.part u g)) m refl (λ tx p n z. z)) k
  new_message d e (act_take from a d' c l) fo m k = newly d e (letter here a.tx.node (Ack a.tx a.part _) ∷ []) m refl (plain d e (letter here a.tx.node (Ack a.tx a.part _)) m refl (λ tx p n z. z)) k
  new_message d e (act_wait r d' h) fo m k = n_old k
  new_message d e (act_unwait kept rest r d' h) fo m k = n_old k
  new_message d e (act_reply t g rs v u fc d' h) fo m k =
      newly d e (letter here t.node (ReadReply t g v u (record { 0 = fc })) ∷ []) m refl (plain d e (letter here t.node (ReadReply t g v u (record { 0 = fc }))) m refl (λ tx p n z. z)) k
  new_message d e (act_commit_came from t q fc ms d' c h) fo m k = n_old k
  new_message d e (act_abort_came from t q d' c h) fo m k = n_old k

  -- ---- what a certified transaction keeps: it gains no dependency

  reads_lc : (x : Own) (k : Rattle.str_base.specs.declared.names.KeyId.KeyId) → Reads here x k → lc_of x.phase ≡ None
  reads_lc x k (reads_new op a e n q) = ap lc_of a
  reads_lc x k (reads_again e) = ap lc_of e

  asks_lc : (x : Own) → AsksCommit here x → lc_of x.phase ≡ None
  asks_lc x (asks_new a e ne) = ap lc_of a
  asks_lc x (asks_again e) = ap lc_of e

  no_lc : {A : Type 0} (x : Own) (lc : ℕ) → lc_of x.phase ≡ Some lc → lc_of x.phase ≡ None → A
  no_lc x lc l n = absurd (cc (l, n))

  change_deps : (d : Doing) (i lc : ℕ) (x y : Own) → Change here input d i x y → lc_of x.phase ≡ Some lc → (dep : Dep) → In dep y.snap.deps → In dep x.snap.deps
  unfolding dep_turn
  change_deps d i lc x y (ch_resolve t e) l dep m = resolve_all-sub d.view.own x.snap.rs x.snap.deps x.snap.ffc dep (subst (λ u. In dep (deps_left u)) (sym e) m)
  change_deps d i lc x y (ch_known op k a e o n q) l dep m = no_lc x lc l (ap lc_of e)
  change_deps d i lc x y (ch_blind op a e o n) l dep m = no_lc x lc l (ap lc_of e)
  change_deps d i lc x y (ch_read k a by snap r j t) l dep m = no_lc x lc l (reads_lc x k r)
  change_deps d i lc x y (ch_wait k by r j t) l dep m = no_lc x lc l (reads_lc x k r)
  change_deps d i lc x y (ch_away k n r j t) l dep m = no_lc x lc l (reads_lc x k r)
  change_deps d i lc x y (ch_reply from tx g k a by fc c n q e s) l dep m = no_lc x lc l (ap lc_of e)
  change_deps d i lc x y (ch_take k a b by of fc gc snap e q) l dep m = no_lc x lc l (ap lc_of e)
  change_deps d i lc x y (ch_close a o e) l dep m = no_lc x lc l (ap lc_of a)
  change_deps d i lc x y (ch_gate a) l dep m = no_lc x lc l (asks_lc x a)

  abbrev pub KeepsDeps : Own → Own → Type 0
  KeepsDeps x y = is_decided y.phase ≡ false → (is_decided x.phase ≡ false) × ((dep : Dep) → In dep y.snap.deps → In dep x.snap.deps)

  same_deps : (x y : Own) → x ≡ y → KeepsDeps x y
  same_deps x y e op = (ap (λ (z : Own). is_decided z.phase) e ∙ op, λ dep m. subst (λ (z : Own). In dep z.snap.deps) (sym e) m)

  set_deps : (own : List Own) (j k : ℕ) (x' y' x y : Own) → slice_get own j ≡ Some x' → slice_get own k ≡ Some x → slice_get (slice_set own j y') k ≡ Some y → (x' ≡ x → KeepsDeps x' y') → KeepsDeps x y
  set_deps own j k x' y' x y o ox oy f = elim (got_set own j k y' y oy) [
    | inl p ↦ (let same : x' ≡ x = one_of x' x (slice_get own j) o (ap (λ m. slice_get own m) (sym p.0) ∙ ox) in subst₂ (λ (a b : Own). KeepsDeps a b) same (sym p.1) (f same))
    | inr p ↦ same_deps x y (one_of x y (slice_get own k) ox p.1)
  ]

  pub kept_deps : (d e : Doing) → Act here input w d e → (k lc : ℕ) (x y : Own) → Owns d.view k x → lc_of x.phase ≡ Some lc → Owns e.view k y → KeepsDeps x y
  unfolding begun marked aborted committed closed certified asked acked requested accepted taken refused waits replied commit_came Acts.abort_came
  kept_deps d e (act_begin place rs d' r h) k lc x y ox l oy = same_deps x y (one_of x y (slice_get (d'.view.own ++ fresh place rs ∷ []) k) (get_push d'.view.own k (fresh place rs) x ox) oy)
  kept_deps d e (act_mark g t d' rd) k lc x y ox l oy = same_deps x y (one_of x y (slice_get d'.view.own k) ox oy)
  kept_deps d e (act_put i x' y' d' own g) k lc x y ox l oy =
      set_deps d'.view.own i k x' y' x y own.0 ox oy (λ s op. (g.goes.was_open, change_deps d' i lc x' y' g.change (ap (λ (z : Own). lc_of z.phase) s ∙ l)))
  kept_deps d e (act_request i g m x' d' own h) k lc x y ox l oy = set_deps d'.view.own i k x' (in_phase (Remote g) x') x y own.0 ox oy (λ s op. (h.goes.was_open, λ dep z. z))
  kept_deps d e (act_certify i c snap x' d' own f n t) k lc x y ox l oy =
      set_deps d'.view.own i k x' (record x' { snap = snap; parts = participants here.scene here.node x'.writes; phase = Local c }) x y own.0 ox oy (λ s op. no_lc x lc l (ap (λ (z : Own). lc_of z.phase) (sym s) ∙ n))
  kept_deps d e (act_ask i c p x' d' own f t g) k lc x y ox l oy = set_deps d'.view.own i k x' (record x' { parts = with_asked p x'.parts; phase = Global c }) x y own.0 ox oy (λ s op. (f, λ dep z. z))
  kept_deps d e (act_ack i c from t q ts parts x' d' own cm r g) k lc x y ox l oy = set_deps d'.view.own i k x' (record x' { parts = parts }) x y own.0 ox oy (λ s op. (op, λ dep z. z))
  kept_deps d e (act_abort i cause x' d' own f z) k lc x y ox l oy = set_deps d'.view.own i k x' (decided_as (Aborted (lc_of x'.phase) cause) x') x y own.0 ox oy (λ s op. absurd (cc op))
  kept_deps d e (act_commit i c fc x' d' own t n le f g) k lc x y ox l oy = set_deps d'.view.own i k x' (decided_as (Committed (Some c) (Some fc)) x') x y own.0 ox oy (λ s op. absurd (cc op))
  kept_deps d e (act_close i x' d' own q n) k lc x y ox l oy = set_deps d'.view.own i k x' (decided_as (Committed None None) x') x y own.0 ox oy (λ s op. absurd (cc op))
  kept_deps d e (act_accept a ts d' h t) k lc x y ox l oy = same_deps x y (one_of x y (slice_get d'.view.own k) ox oy)
  kept_deps d e (act_refuse a u g d' h t) k lc x y ox l oy = same_deps x y (one_of x y (slice_get d'.view.own k) ox oy)
  kept_deps d e (act_take from a d' c t) k lc x y ox l oy = same_deps x y (one_of x y (slice_get d'.view.own k) ox oy)
  kept_deps d e (act_wait r d' h) k lc x y ox l oy = same_deps x y (one_of x y (slice_get d'.view.own k) ox oy)
  kept_deps d e (act_unwait kept rest r d' h) k lc x y ox l oy = same_deps x y (one_of x y (slice_get d'.view.own k) ox oy)
  kept_deps d e (act_reply t g rs v u fc d' h) k lc x y ox l oy = same_deps x y (one_of x y (slice_get d'.view.own k) ox oy)
  kept_deps d e (act_commit_came from t q fc ms d' c h) k lc x y ox l oy = same_deps x y (one_of x y (slice_get d'.view.own k) ox oy)
  kept_deps d e (act_abort_came from t q d' c h) k lc x y ox l oy = same_deps x y (one_of x y (slice_get d'.view.own k) ox oy)

  -- ---- who is told of a decision

  -- a decided transaction was decided before, or is aborted or committed by this change, or closes
  pub data Decided (d e : Doing) (k : ℕ) (y : Own) : Type 0 where
    d_old : Owns d.view k y → Decided d e k y
    d_abort : (cause : Cause) (x : Own) → Owns d.view k x → y ≡ decided_as (Aborted (lc_of x.phase) cause) x → e.sent ≡ d.sent ++ Acts.abort_letters here k x.parts → Decided d e k y
    d_commit : (lc fc : ℕ) (x : Own) → Owns d.view k x → y ≡ decided_as (Committed (Some lc) (Some fc)) x → e.sent ≡ d.sent ++ Acts.commit_letters here k x fc d.view → Decided d e k y
    d_close : y.phase ≡ Committed None None → Decided d e k y

  set_decided : (d e : Doing) (j k : ℕ) (y' y : Own) → slice_get (slice_set d.view.own j y') k ≡ Some y → (k ≡ j → y ≡ y' → Decided d e k y) → Decided d e k y
  set_decided d e j k y' y oy f = elim (got_set d.view.own j k y' y oy) [ inl p ↦ f p.0 p.1 | inr p ↦ d_old p.1 ]

  still_open : {A : Type 0} (y y' : Own) → is_decided y.phase ≡ true → y ≡ y' → is_decided y'.phase ≡ false → A
  still_open y y' dd e op = absurd (cc (ap (λ (z : Own). is_decided z.phase) e, dd, op))

  pub newly_decided : (d e : Doing) → Act here input w d e → (k : ℕ) (y : Own) → Owns e.view k y → is_decided y.phase ≡ true → Decided d e k y
  unfolding begun marked aborted committed closed certified asked acked requested accepted taken refused waits replied commit_came Acts.abort_came
  newly_decided d e (act_begin place rs d' r h) k y oy dd = elim (got_push d'.view.own k (fresh place rs) y oy) [ inl p ↦ still_open y (fresh place rs) dd p.1 refl | inr p ↦ d_old p ]
  newly_decided d e (act_mark g t d' rd) k y oy dd = d_old oy
  newly_decided d e (act_put i x' y' d' own g) k y oy dd = set_decided d e i k y' y oy (λ a b. still_open y y' dd b g.goes.is_open)
  newly_decided d e (act_request i g m x' d' own h) k y oy dd = set_decided d e i k (in_phase (Remote g) x') y oy (λ a b. still_open y (in_phase (Remote g) x') dd b refl)
  newly_decided d e (act_certify i c snap x' d' own f n t) k y oy dd =
      set_decided d e i k (record x' { snap = snap; parts = participants here.scene here.node x'.writes; phase = Local c }) y oy (λ a b. still_open y _ dd b refl)
  newly_decided d e (act_ask i c p x' d' own f t g) k y oy dd = set_decided d e i k (record x' { parts = with_asked p x'.parts; phase = Global c }) y oy (λ a b. still_open y _ dd b refl)
  newly_decided d e (act_ack i c from t q ts parts x' d' own cm r g) k y oy dd = set_decided d e i k (record x' { parts = parts }) y oy (λ a b. still_open y (record x' { parts = parts }) dd b (ap is_decided r))
  newly_decided d e (act_abort i cause x' d' own f z) k y oy dd =
      set_decided d e i k (decided_as (Aborted (lc_of x'.phase) cause) x') y oy (λ a b. d_abort cause x' (ap (λ m. slice_get d'.view.own m) a ∙ own.0) b (ap (λ m. d'.sent ++ Acts.abort_letters here m x'.parts) (sym a)))
  newly_decided d e (act_commit i c fc x' d' own t n le f g) k y oy dd =
      set_decided d e i k (decided_as (Committed (Some c) (Some fc)) x') y oy (λ a b. d_commit c fc x' (ap (λ m. slice_get d'.view.own m) a ∙ own.0) b (ap (λ m. d'.sent ++ Acts.commit_letters here m x' fc d'.view) (sym a)))
  newly_decided d e (act_close i x' d' own q n) k y oy dd = set_decided d e i k (decided_as (Committed None None) x') y oy (λ a b. d_close (ap (λ (z : Own). z.phase) b))
  newly_decided d e (act_accept a ts d' h t) k y oy dd = d_old oy
  newly_decided d e (act_refuse a u g d' h t) k y oy dd = d_old oy
  newly_decided d e (act_take from a d' c t) k y oy dd = d_old oy
  newly_decided d e (act_wait r d' h) k y oy dd = d_old oy
  newly_decided d e (act_unwait kept rest r d' h) k y oy dd = d_old oy
  newly_decided d e (act_reply t g rs v u fc d' h) k y oy dd = d_old oy
  newly_decided d e (act_commit_came from t q fc ms d' c h) k y oy dd = d_old oy
  newly_decided d e (act_abort_came from t q d' c h) k y oy dd = d_old oy
