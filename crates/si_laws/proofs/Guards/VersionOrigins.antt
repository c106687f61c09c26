-- Where a version comes from in a single change, with all that the change knows; and that each version is a write of its transaction.
use Rattle.dependency_set.specs.Snapshots.{Snap}
use Rattle.si_laws.proofs.Dependencies.AroundLocal.{Stand}
use Rattle.str_model.proofs.Changes.PairWords.{hosted_name, pair-is}
use Rattle.si_laws.proofs.Guards.ReadGuards.{accept_above, proposed_above}
use Rattle.si_laws.proofs.Stages.LinkedStates.{AreWrites, IsCertified, Linked}
use Rattle.si_laws.proofs.Order.MasterFacts.{Masters, writes_of}
use Rattle.str_model.proofs.Changes.VersionChanges.{Placed, by_master, by_slave}
use Rattle.str_model.proofs.Principle.SingleChanges.{Act, Comes, Where, act_abort, act_abort_came, act_accept, act_ack, act_ask, act_begin, act_certify, act_close, act_commit, act_commit_came, act_mark, act_put, act_refuse, act_reply, act_request, act_take, act_unwait, act_wait}
use Rattle.str_model.proofs.Principle.Everywhere.{IsSeen, Stage, at_place, during, stage_of}
use Rattle.si_laws.proofs.Stages.LinkedStates
use Rattle.std.proofs.Common.{List, Some, [], ap, false, filter, inl, inr, map, refl, slice_get, subst, sym, true, ℕ, ◌<◌, ◌∙◌, ◌≡◌, ◌≤◌, ◌⊎◌}
use Rattle.str_base.specs.Versions.{finalise, mark_of, of_pair, of_tx, settled, without}
use Rattle.str_base.specs.declared.names.KeyId.{KeyId}
use Rattle.str_base.specs.declared.names.Kind.TheVariants.{Final}
use Rattle.str_base.specs.declared.names.NodeId.{NodeId}
use Rattle.str_base.specs.declared.names.PartId.{PartId}
use Rattle.str_base.specs.declared.names.Ts.{Ts}
use Rattle.str_base.specs.declared.names.TxId.{TxId}
use Rattle.str_base.specs.declared.names.Value.{Value}
use Rattle.str_base.specs.declared.names.Version.{Version}
use Rattle.str_base.specs.declared.names.Write.{Write}
use Rattle.str_model.specs.Acts.{abort_came, aborted, accepted, acked, asked, begun, certified, closed, commit_came, committed, is_hosted_of, local_version, marked, pre_version, raise_all, refused, replied, requested, taken, waits}
use Rattle.str_model.specs.Owned.{Owns}
use Rattle.str_model.specs.Proposals.{proposed}
use Rattle.str_model.specs.Runs.{opening, opening_view}
use Rattle.str_model.specs.Steps.{decides}
use Rattle.str_model.specs.Turns.{Certified, cert_turn}
use Rattle.str_model.specs.Views.{Doing, Local, Own, View, is_decided, lc_of, name_of}
use Rattle.str_model.specs.declared.messages.Arrived.{Arrived}
use Rattle.str_model.specs.declared.messages.Body.TheVariants.{Commit}
use Rattle.str_model.specs.declared.messages.Input.{Input}
use Rattle.str_model.specs.declared.names.KeyMark.{KeyMark}
use Rattle.str_scene.specs.Scenes.{Here, Scene, hosts, in_part, participants}
use Rattle.str_base.proofs.Tests.{and_true_left, and_true_right}
use Rattle.str_base.proofs.Lists.{get_set, get_set_other, got_replicate, got_set}
use Rattle.str_base.proofs.Members.{in_filter, in_insert_all, in_map, in_without}
use Rattle.str_base.specs.Members.{In}

-- the certified transaction as it stands then
abbrev pub as_certified : Here → ℕ → Snap → Own → Own
as_certified here lc snap x = record x { snap = snap; parts = participants here.scene here.node x.writes; phase = Local lc }

-- it was there; or it is certified, accepted or taken, committed by its own node, or its Commit came
pub data Origin (here : Here) (input : Input) (d e : Doing) (q : Version) : Type 0 where
  og_old : In q d.view.versions → Origin here input d e q
  og_local : (i lc : ℕ) (snap : Snap) (x : Own) (w : Write) → Owns d.view i x → cert_turn here d.view x.snap x.writes ≡ Certified lc snap → Owns e.view i (as_certified here lc snap x)
      → In w x.writes → q ≡ local_version here i lc w → Origin here input d e q
  og_pre : (a : Arrived) (ts : ℕ) (w : Write) → Placed here input d a → mark_of d.view.marks w.key < ts → In w a.writes → q ≡ pre_version a ts w → Origin here input d e q
  og_commit : (i lc fc : ℕ) (x : Own) (p : Version) → Owns d.view i x → is_decided x.phase ≡ false → lc_of x.phase ≡ Some lc → x.snap.deps ≡ [] → lc ≤ fc → In p d.view.versions
      → p.tx ≡ name_of here i → hosts here.scene here.node p.part ≡ true → q ≡ settled fc p → Origin here input d e q
  og_came : (from : NodeId) (t : TxId) (r : PartId) (fc : Ts) (ms : List KeyMark) (p : Version) → Comes here input from (Commit t r fc ms) → decides here t r d.view ≡ true
      → e.view.marks ≡ raise_all ms d.view.marks → ((z : Version) → In z e.view.versions → In z d.view.versions ⊎ (z.tx ≡ t)) → In p d.view.versions → of_pair t r p ≡ true → q ≡ settled fc.0 p
      → Origin here input d e q

pub origin : (here : Here) (input : Input) (w : Where) (d e : Doing) → Act here input w d e → (q : Version) → In q e.view.versions → Origin here input d e q
unfolding begun marked aborted committed closed certified asked acked requested accepted taken refused waits replied commit_came abort_came
origin here input w d e (act_certify n lc snap x d' o f l c) q h =
    elim (in_insert_all (map (local_version here n lc) x.writes) d'.view.versions q h) [
      | inl j ↦ (let r = in_map (local_version here n lc) x.writes q j in og_local n lc snap x r.0 o.0 c (get_set d'.view.own n x (as_certified here lc snap x) o.0) r.1 (sym r.2))
      | inr j ↦ og_old j
    ]
origin here input w d e (act_accept a ts d' g m) q h =
    elim (in_insert_all (map (pre_version a ts) a.writes) d'.view.versions q h) [
      | inl j ↦ (let r = in_map (pre_version a ts) a.writes q j in og_pre a ts r.0 (by_master g) (accept_above d'.view a ts r.0 m r.1) r.1 (sym r.2))
      | inr j ↦ og_old j
    ]
origin here input w d e (act_take from a d' c l) q h =
    elim (in_insert_all (map (pre_version a (proposed d'.view a)) a.writes) d'.view.versions q h) [
      | inl j ↦ (let r = in_map (pre_version a (proposed d'.view a)) a.writes q j in og_pre a (proposed d'.view a) r.0 (by_slave from c l) (proposed_above d'.view a r.0 r.1) r.1 (sym r.2))
      | inr j ↦ og_old j
    ]
origin here input w d e (act_abort n cause x d' o f g) q h = og_old (in_without (of_tx (name_of here n)) d'.view.versions q h)
origin here input w d e (act_abort_came from t p d' c g) q h = og_old (in_without (of_pair t p) d'.view.versions q h)
origin here input w d e (act_commit n lc fc x d' o l none le f g) q h =
    elim (in_insert_all (map (settled fc) (filter (is_hosted_of here (name_of here n)) d'.view.versions)) (without (of_tx (name_of here n)) d'.view.versions) q h) [
      | inl j ↦ (let r = in_map (settled fc) (filter (is_hosted_of here (name_of here n)) d'.view.versions) q j in
          let m = in_filter (is_hosted_of here (name_of here n)) d'.view.versions r.0 r.1 in
          og_commit n lc fc x r.0 o.0 f l none le m.0 (hosted_name here (name_of here n) r.0 m.1) (and_true_right (of_tx (name_of here n) r.0) (hosts here.scene here.node r.0.part) m.1) (sym r.2))
      | inr j ↦ og_old (in_without (of_tx (name_of here n)) d'.view.versions q j)
    ]
origin here input w d e (act_commit_came from t p fc ms d' c g) q h =
    elim (in_insert_all (map (settled fc.0) (filter (of_pair t p) d'.view.versions)) (without (of_pair t p) d'.view.versions) q h) [
      | inl j ↦ (let r = in_map (settled fc.0) (filter (of_pair t p) d'.view.versions) q j in
          let m = in_filter (of_pair t p) d'.view.versions r.0 r.1 in og_came from t p fc ms r.0 c g refl only m.0 m.1 (sym r.2))
      | inr j ↦ og_old (in_without (of_pair t p) d'.view.versions q j)
    ]
  where
    only : (z : Version) → In z (finalise (of_pair t p) fc.0 d'.view.versions) → In z d'.view.versions ⊎ (z.tx ≡ t)
    only z m = elim (in_insert_all (map (settled fc.0) (filter (of_pair t p) d'.view.versions)) (without (of_pair t p) d'.view.versions) z m) [
      | inl j ↦ (let r = in_map (settled fc.0) (filter (of_pair t p) d'.view.versions) z j in
          let n = in_filter (of_pair t p) d'.view.versions r.0 r.1 in inr (ap (λ (y : Version). y.tx) (sym r.2) ∙ (pair-is t p r.0 n.1).0))
      | inr j ↦ inl (in_without (of_pair t p) d'.view.versions z j)
    ]
origin here input w d e (act_begin place rs d' r g) q h = og_old h
origin here input w d e (act_mark l t d' rd) q h = og_old h
origin here input w d e (act_put n z y d' o g) q h = og_old h
origin here input w d e (act_request n l to z d' o g) q h = og_old h
origin here input w d e (act_ask n lc p z d' o f l g) q h = og_old h
origin here input w d e (act_ack n lc from tx p ts parts z d' o c r g) q h = og_old h
origin here input w d e (act_close n z d' o p none) q h = og_old h
origin here input w d e (act_refuse a u l d' g m) q h = og_old h
origin here input w d e (act_wait s d' g) q h = og_old h
origin here input w d e (act_unwait kept more s d' g) q h = og_old h
origin here input w d e (act_reply tx l rs v u fc d' g) q h = og_old h

-- ---- each version is a write

-- the certified transaction wrote the value
pub record HasWritten (scene : Scene) (s : Stage) (u : TxId) (k : KeyId) (a : Value) : Type 0 where
  pub rs : ℕ
  pub lc : ℕ
  pub ws : List Write
  pub certified : IsCertified scene s u rs lc ws
  pub write : In (record { key = k; value = a }) ws

-- each version is of a write of a certified transaction
abbrev pub AllWritten : Scene → Stage → Type 0
AllWritten scene s = (n : ℕ) (v : View) (q : Version) → slice_get s.nodes n ≡ Some v → In q v.versions → HasWritten scene s q.tx q.key q.value

module _ (scene : Scene) (s : Stage) (i : ℕ) (v : View) (input : Input) (w : Where) (d e : Doing) (is : slice_get s.nodes i ≡ Some v) (seen : IsSeen s input) (act : Act (at_place scene i) input w d e) where
  pub has_written_stays : (u : TxId) (k : KeyId) (a : Value) → HasWritten scene (during s i d) u k a → HasWritten scene (during s i e) u k a
  has_written_stays u k a h =
      record { rs = h.rs; lc = h.lc; ws = h.ws; certified = LinkedStates.certified_stays scene s i v input w d e is act u h.rs h.lc h.ws h.certified; write = h.write }

  written_by : (q : Version) → Linked scene (during s i d) → Stand (at_place scene i) d.view → Masters scene (during s i d) → AllWritten scene (during s i d) → Origin (at_place scene i) input d e q → HasWritten scene (during s i e) q.tx q.key q.value
  written_by q l st m h (og_old j) = has_written_stays q.tx q.key q.value (h i d.view q (get_set s.nodes i v d.view is) j)
  written_by q l st m h (og_local n lc snap x y own c own' j same) =
      subst (λ (z : Version). HasWritten scene (during s i e) z.tx z.key z.value) (sym same)
      (record {
        rs = snap.rs;
        lc = lc;
        ws = x.writes;
        certified = record { n = i; i = n; view = e.view; x = as_certified (at_place scene i) lc snap x; there = get_set s.nodes i v e.view is; own = own'; name = refl; lc_is = refl; writes = refl; rs_is = refl };
        write = j;
      })
  written_by q l st m h (og_pre a ts y p less j same) =
      let ws : AreWrites scene (during s i d) a.tx a.part a.rs.0 a.lc.0 a.writes = writes_of scene s i v input w d e is seen act l st m a p in
      subst (λ (z : Version). HasWritten scene (during s i e) z.tx z.key z.value) (sym same)
      (has_written_stays a.tx y.key y.value (record { rs = a.rs.0; lc = a.lc.0; ws = ws.0; certified = ws.1; write = (in_filter (in_part scene a.part) ws.0 y (subst (In y) ws.2 j)).0 }))
  written_by q l st m h (og_commit n lc fc x p own o t none le j name hosted same) =
      subst (λ (z : Version). HasWritten scene (during s i e) z.tx z.key z.value) (sym same) (has_written_stays p.tx p.key p.value (h i d.view p (get_set s.nodes i v d.view is) j))
  written_by q l st m h (og_came from t r fc ms p c g f only j o same) =
      subst (λ (z : Version). HasWritten scene (during s i e) z.tx z.key z.value) (sym same) (has_written_stays p.tx p.key p.value (h i d.view p (get_set s.nodes i v d.view is) j))

  pub all_written_step : Linked scene (during s i d) → Stand (at_place scene i) d.view → Masters scene (during s i d) → AllWritten scene (during s i d) → AllWritten scene (during s i e)
  all_written_step l st m h n u q g j = elim (got_set s.nodes i n e.view u g) [
    | inl p ↦ written_by q l st m h (origin (at_place scene i) input w d e act q (subst (λ (z : View). In q z.versions) p.1 j))
    | inr p ↦ has_written_stays q.tx q.key q.value (h n u q (get_set_other s.nodes i n d.view p.0 ∙ p.1) j)
  ]

pub all_written_opening : (scene : Scene) → AllWritten scene (stage_of (opening scene))
all_written_opening scene n v q g j = absurd (subst (λ (z : View). In q z.versions) (got_replicate scene.nodes n (opening_view scene) v g) j)

-- ---- Final versions are of partitions that the node has

-- each Final version of the view
abbrev pub FinalsHosted : Here → View → Type 0
FinalsHosted here v = (q : Version) → In q v.versions → q.kind ≡ Final → hosts here.scene here.node q.part ≡ true

pub finals_hosted-act : (here : Here) (input : Input) (w : Where) (d e : Doing) → Act here input w d e → FinalsHosted here d.view → FinalsHosted here e.view
finals_hosted-act here input w d e act h q j k = by_origin (origin here input w d e act q j)
  where
    by_origin : Origin here input d e q → hosts here.scene here.node q.part ≡ true
    by_origin (og_old m) = h q m k
    by_origin (og_local n lc snap x y own c own' m same) = absurd (cc (ap (λ (z : Version). z.kind) same, k))
    by_origin (og_pre a ts y p less m same) = absurd (cc (ap (λ (z : Version). z.kind) same, k))
    by_origin (og_commit n lc fc x p own o t none le m name hosted same) = subst (λ (z : Version). hosts here.scene here.node z.part ≡ true) (sym same) hosted
    by_origin (og_came from t r fc ms p c dec f only m o same) =
        subst (λ (z : Version). hosts here.scene here.node z.part ≡ true) (sym same)
        (subst (λ (z : PartId). hosts here.scene here.node z ≡ true) (sym (pair-is t r p o).1) (and_true_left (hosts here.scene here.node r) _ dec))
