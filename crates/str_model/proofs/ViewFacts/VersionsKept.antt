-- The versions of a node at each change: where they stand, and that those of an own transaction are of its writes.
use Rattle.std.proofs.Common.{List, Some, [], ap, eq-eqb, false, filter, inl, inr, length, lt-ltb, map, refl, slice_get, slice_set, subst, sym, true, ℕ, ◌<◌, ◌∙◌, ◌∷◌, ◌≡◌, ◌≢◌}
use Rattle.std.specs.List.{list_any}
use Rattle.str_base.specs.declared.names.KeyId.{KeyId}
use Rattle.str_base.specs.declared.names.NodeId.{NodeId}
use Rattle.str_base.specs.declared.names.PartId.{PartId}
use Rattle.str_base.specs.declared.names.TxId.{TxId}
use Rattle.str_base.specs.declared.names.Version.{Version}
use Rattle.str_base.specs.declared.names.Write.{Write}
use Rattle.str_scene.specs.declared.names.Op.{Op}
use Rattle.str_scene.specs.declared.names.Op.TheVariants.{Abort as Stop, Add, Del, Get, Need, Put, Puts}
use Rattle.str_model.specs.declared.messages.Arrived.{Arrived}
use Rattle.str_model.specs.declared.messages.Body.TheVariants.{Prepare, Replicate}
use Rattle.str_model.specs.declared.messages.Input.{Input}
use Rattle.str_model.specs.declared.messages.Waiter.TheVariants.{Held}
use Rattle.dependency_set.specs.Snapshots.{Snap}
use Rattle.partition_map.specs.Maps.{has_node as row_has}
use Rattle.str_base.specs.Versions.{of_pair, of_tx, same_key, same_node, settled, without}
use Rattle.str_model.specs.Acts.{abort_came, aborted, accepted, acked, asked, begun, certified, closed, commit_came, committed, fresh, is_hosted_of, local_version, marked, pre_version, refused, replied, requested, taken, waits}
use Rattle.str_model.specs.NodeFacts.{AllOwn, IsMasters, OwnValues, OwnVersion, ScriptGood, VersionFacts, WritesKey, WrittenIn}
use Rattle.str_model.specs.Owned.{Owns, wrote_key}
use Rattle.str_scene.specs.Scenes.{Here, Scene, hosts, is_master, leads, part_of, replicas}
use Rattle.str_scene.specs.SceneLimits.{IsOp, IsScene}
use Rattle.str_model.specs.Proposals.{proposed}
use Rattle.str_model.specs.Strange.{has_key, has_node}
use Rattle.str_model.specs.Views.{Doing, Own, View, lc_of, name_of}
use Rattle.str_model.proofs.Principle.SingleChanges.{Act, Comes, IsHere, Takes, Where, act_abort, act_abort_came, act_accept, act_ack, act_ask, act_begin, act_certify, act_close, act_commit, act_commit_came, act_mark, act_put, act_refuse, act_reply, act_request, act_take, act_unwait, act_wait, it_comes, it_waits}
use Rattle.str_model.proofs.OwnFacts.EachOwn.{as_certified}
use Rattle.str_model.proofs.ViewFacts.MarksRise.{script_op}
use Rattle.str_model.proofs.OwnFacts.LocalOwners.{same_own}
use Rattle.str_model.proofs.Changes.PairWords.{pair-is}
use Rattle.str_model.proofs.Changes.OwnTurns.{OwnChange, o_aborts, o_acks, o_asks, o_begins, o_certifies, o_closes, o_commits, o_puts, o_rests, own_change}
use Rattle.str_model.proofs.ViewFacts.ValidMessages.{NamedWrites, came_named, named_writes}
use Rattle.str_model.proofs.ViewFacts.WaitersKept.{AllWaiting}
use Rattle.str_base.proofs.Members.{any_in, in_filter, in_insert_all, in_map, in_right, in_without}
use Rattle.str_base.proofs.SameNames.{same_part-is}
use Rattle.str_base.proofs.Tests.{and_true_left, and_true_right}
use Rattle.str_base.proofs.Lists.{get_push, get_set, get_set_other}
use Rattle.std.proofs.lemmas.Bool.{cases_eq, or_left}
use Rattle.str_base.specs.Members.{In}

-- ---- a certified transaction keeps its writes

pub record StaysCertified (e : View) (i lc : ℕ) (x : Own) : Type 0 where
  pub new : Own
  pub owns : Owns e i new
  pub is_lc : lc_of new.phase ≡ Some lc
  pub writes : new.writes ≡ x.writes

module _ (here : Here) (input : Input) (d e : View) where
  pub stays_certified : OwnChange here input d e → (i lc : ℕ) (x : Own) → Owns d i x → lc_of x.phase ≡ Some lc → StaysCertified e i lc x
  stays_certified c i lc x own l = by_change c
    where
      at_other : (n : ℕ) (y : Own) → e.own ≡ slice_set d.own n y → i ≢ n → StaysCertified e i lc x
      at_other n y q f = record { new = x; owns = rw q (get_set_other d.own n i y f ∙ own); is_lc = l; writes = refl }

      at_it : (n : ℕ) (z y : Own) → Owns d n z → e.own ≡ slice_set d.own n y → i ≡ n → (z ≡ x → (lc_of y.phase ≡ Some lc) × (y.writes ≡ x.writes)) → StaysCertified e i lc x
      at_it n z y is q s f =
          let r = f (same_own d n i z x is own (sym s)) in
          record { new = y; owns = rw q (subst (λ m. slice_get (slice_set d.own n y) m ≡ Some y) (sym s) (get_set d.own n z y is)); is_lc = r.0; writes = r.1 }

      by_place : (n : ℕ) (z y : Own) → Owns d n z → e.own ≡ slice_set d.own n y → (z ≡ x → (lc_of y.phase ≡ Some lc) × (y.writes ≡ x.writes)) → StaysCertified e i lc x
      by_place n z y is q f = elim (cases_eq i n) [ inl s ↦ at_it n z y is q s f | inr s ↦ at_other n y q s ]

      was : (z : Own) → z ≡ x → lc_of z.phase ≡ Some lc
      was z s = ap (λ (u : Own). lc_of u.phase) s ∙ l

      by_change : OwnChange here input d e → StaysCertified e i lc x
      by_change (o_rests q) = record { new = x; owns = rw q own; is_lc = l; writes = refl }
      by_change (o_begins place rs q) = record { new = x; owns = rw q (get_push d.own i (fresh place rs) x own); is_lc = l; writes = refl }
      by_change (o_puts n z y is p q) =
          by_place n z y is q (λ s. let k = p.kept lc (was z s) in (p.goes.same_lc ∙ was z s, k.0 ∙ ap (λ (u : Own). u.writes) s))
      by_change (o_certifies n m snap z is f none r q v) = by_place n z _ is q (λ s. absurd (cc (none, was z s)))
      by_change (o_asks n m p z is f k q) = by_place n z _ is q (λ s. (sym k ∙ was z s, ap (λ (u : Own). u.writes) s))
      by_change (o_acks n m from tx p ts parts z is c k g q) = by_place n z _ is q (λ s. (was z s, ap (λ (u : Own). u.writes) s))
      by_change (o_aborts n cause z is f q) = by_place n z _ is q (λ s. (was z s, ap (λ (u : Own). u.writes) s))
      by_change (o_commits n m fc z is f k g q v) = by_place n z _ is q (λ s. (sym k ∙ was z s, ap (λ (u : Own). u.writes) s))
      by_change (o_closes n z is p q) = by_place n z _ is q (λ s. absurd (cc (ap lc_of p, was z s)))

-- ---- where a version comes from

pub data Made (here : Here) (input : Input) (d e : Doing) (u : Version) : Type 0 where
  m_old : In u d.view.versions → Made here input d e u
  m_local : (i lc : ℕ) (snap : Snap) (x : Own) (w : Write) → Owns d.view i x → Owns e.view i (as_certified here lc snap x) → In w x.writes → u ≡ local_version here i lc w → Made here input d e u
  m_here : (a : Arrived) (ts : ℕ) (w : Write) → IsHere here input d a → In w a.writes → u ≡ pre_version a ts w → Made here input d e u
  m_take : (from : NodeId) (a : Arrived) (ts : ℕ) (w : Write) → Comes here input from (Replicate a.tx a.part a.rs a.lc a.writes) → Takes here d a → In w a.writes → u ≡ pre_version a ts w
      → Made here input d e u
  m_settled : (fc : ℕ) (p : Version) → In p d.view.versions → hosts here.scene here.node p.part ≡ true → u ≡ settled fc p → Made here input d e u

pub made : (here : Here) (input : Input) (w : Where) (d e : Doing) → Act here input w d e → (u : Version) → In u e.view.versions → Made here input d e u
unfolding begun marked aborted committed closed certified asked acked requested accepted taken refused waits replied commit_came abort_came
made here input w d e (act_certify n lc snap x d' o f l c) u h =
    elim (in_insert_all (map (local_version here n lc) x.writes) d'.view.versions u h) [
      | inl j ↦ (let r = in_map (local_version here n lc) x.writes u j in m_local n lc snap x r.0 o.0 (get_set d'.view.own n x (as_certified here lc snap x) o.0) r.1 (sym r.2))
      | inr j ↦ m_old j
    ]
made here input w d e (act_accept a ts d' g m) u h =
    elim (in_insert_all (map (pre_version a ts) a.writes) d'.view.versions u h) [ inl j ↦ (let r = in_map (pre_version a ts) a.writes u j in m_here a ts r.0 g r.1 (sym r.2)) | inr j ↦ m_old j ]
made here input w d e (act_take from a d' c l) u h =
    elim (in_insert_all (map (pre_version a (proposed d'.view a)) a.writes) d'.view.versions u h) [
      | inl j ↦ (let r = in_map (pre_version a (proposed d'.view a)) a.writes u j in m_take from a (proposed d'.view a) r.0 c l r.1 (sym r.2))
      | inr j ↦ m_old j
    ]
made here input w d e (act_abort n cause x d' o f g) u h = m_old (in_without (of_tx (name_of here n)) d'.view.versions u h)
made here input w d e (act_abort_came from t p d' c g) u h = m_old (in_without (of_pair t p) d'.view.versions u h)
made here input w d e (act_commit n lc fc x d' o l none le f g) u h =
    elim (in_insert_all (map (settled fc) (filter (is_hosted_of here (name_of here n)) d'.view.versions)) (without (of_tx (name_of here n)) d'.view.versions) u h) [
      | inl j ↦ (let r = in_map (settled fc) (filter (is_hosted_of here (name_of here n)) d'.view.versions) u j in
          let m = in_filter (is_hosted_of here (name_of here n)) d'.view.versions r.0 r.1 in
          m_settled fc r.0 m.0 (and_true_right (of_tx (name_of here n) r.0) (hosts here.scene here.node r.0.part) m.1) (sym r.2))
      | inr j ↦ m_old (in_without (of_tx (name_of here n)) d'.view.versions u j)
    ]
made here input w d e (act_commit_came from t p fc ms d' c g) u h =
    elim (in_insert_all (map (settled fc.0) (filter (of_pair t p) d'.view.versions)) (without (of_pair t p) d'.view.versions) u h) [
      | inl j ↦ (let r = in_map (settled fc.0) (filter (of_pair t p) d'.view.versions) u j in
          let m = in_filter (of_pair t p) d'.view.versions r.0 r.1 in
          m_settled fc.0 r.0 m.0 (subst (λ q. hosts here.scene here.node q ≡ true) (sym (pair-is t p r.0 m.1).1) (and_true_left (hosts here.scene here.node p) _ g)) (sym r.2))
      | inr j ↦ m_old (in_without (of_pair t p) d'.view.versions u j)
    ]
made here input w d e (act_begin place rs d' r g) u h = m_old h
made here input w d e (act_mark l t d' rd) u h = m_old h
made here input w d e (act_put n z y d' o g) u h = m_old h
made here input w d e (act_request n l to z d' o g) u h = m_old h
made here input w d e (act_ask n lc p z d' o f l g) u h = m_old h
made here input w d e (act_ack n lc from tx p ts parts z d' o c r g) u h = m_old h
made here input w d e (act_close n z d' o p none) u h = m_old h
made here input w d e (act_refuse a u' l d' g m) u h = m_old h
made here input w d e (act_wait s d' g) u h = m_old h
made here input w d e (act_unwait kept more s d' g) u h = m_old h
made here input w d e (act_reply tx l rs v u' fc d' g) u h = m_old h

-- ---- keys of writes

pub writes_key : (scene : Scene) (op : Op) (k : KeyId) → IsOp scene.version scene.keys op → WritesKey op k → k.0 < length scene.keys.names
writes_key scene (Put l m) k h q = subst (λ (z : KeyId). z.0 < length scene.keys.names) q h.0
writes_key scene (Puts l t) k h q = subst (λ (z : KeyId). z.0 < length scene.keys.names) q h.0
writes_key scene (Add l m) k h q = subst (λ (z : KeyId). z.0 < length scene.keys.names) q h.0
writes_key scene (Del l) k h q = subst (λ (z : KeyId). z.0 < length scene.keys.names) q h
writes_key scene (Get l) k h q = absurd q
writes_key scene (Need l m) k h q = absurd q
writes_key scene Stop k h q = absurd q

-- each key that a transaction wrote is one of the scene
pub write_key : (here : Here) → IsScene here.scene → (x : Own) → ScriptGood here x → (w : Write) → In w x.writes → has_key here w.key ≡ true
write_key here ok x g w h =
    let k : wrote_key w.key x.writes ≡ true = any_in (λ (z : Write). same_key z.key w.key) x.writes w h (eq-eqb w.key.0 w.key.0 refl) in
    let i : WrittenIn _ w.key = g.inside w.key k in
    lt-ltb w.key.0 (length here.scene.keys.names) (writes_key here.scene i.1 w.key (script_op here.scene ok x.place i.0 i.1 i.2) i.3)

leads_has : (n : NodeId) (row : List NodeId) → leads n row ≡ true → row_has n row ≡ true
leads_has n [] e = absurd (cc e)
leads_has n (r ∷ rs) e = or_left (same_node r n) (list_any (λ (z : NodeId). same_node z n) rs) e

-- a master has its partition
pub master_hosts : (here : Here) (p : PartId) → is_master here.scene here.node p ≡ true → hosts here.scene here.node p ≡ true
master_hosts here p e = leads_has here.node (replicas here.scene p) e

-- what a Prepare names, that is judged here
pub here_named : (here : Here) (input : Input) (d : Doing) (a : Arrived) → AllWaiting here d.view → IsHere here input d a → NamedWrites here a.tx a.part a.rs a.lc a.writes × IsMasters here a
here_named here input d a h (it_comes from c u z m) = (named_writes here a.tx a.part a.rs a.lc a.writes (came_named here input from (Prepare a.tx a.part a.rs a.lc a.writes) c), m)
here_named here input d a h (it_waits kept rest q) =
    let p = h (Held a) (subst (In (Held a)) (sym q) (in_right kept (Held a ∷ rest) (Held a) (inl refl))) in (named_writes here a.tx a.part a.rs a.lc a.writes p.named, p.masters)

-- ---- each change

-- each version
abbrev pub AllVersions : Here → View → Type 0
AllVersions here v = (u : Version) → In u v.versions → VersionFacts here v u

module _ (here : Here) (ok : IsScene here.scene) (exists : has_node here here.node ≡ true) (input : Input) (w : Where) (d e : Doing) (act : Act here input w d e) where
  own_after : (u q : Version) → q.tx ≡ u.tx → q.key ≡ u.key → OwnVersion d.view u → OwnVersion e.view q
  own_after u q t k o =
      let s = stays_certified here input d.view e.view (own_change here input w d e act) o.place o.lc o.owner o.owns o.is_lc in
      record {
        place = o.place;
        owner = s.new;
        seq = ap (λ (z : TxId). z.seq) t ∙ o.seq;
        owns = s.owns;
        lc = o.lc;
        is_lc = s.is_lc;
        write = o.write;
        written = subst (λ (ws : List Write). In o.write ws) (sym s.writes) o.written;
        key = o.key ∙ sym k;
      }

  pre_facts : (a : Arrived) (ts : ℕ) (x : Write) → NamedWrites here a.tx a.part a.rs a.lc a.writes → same_node a.tx.node here.node ≡ false → hosts here.scene here.node a.part ≡ true → In x a.writes
      → VersionFacts here e.view (pre_version a ts x)
  pre_facts a ts x n f hs h =
      let k = n.keys x h in
      record {
        part = sym (same_part-is (part_of here.scene x.key) a.part k.1);
        key = k.0;
        node = n.node;
        value = n.values x h;
        own = λ q. absurd (cc (eq-eqb a.tx.node.0 here.node.0 q, f));
        foreign = λ q. f;
        hosted = λ q. hs;
      }

  module _ (h : AllVersions here d.view) (scripts : AllOwn (ScriptGood here) d.view) (values : AllOwn (OwnValues here) d.view) (waiters : AllWaiting here d.view) where
    made_facts : (u : Version) → Made here input d e u → VersionFacts here e.view u
    made_facts u (m_old j) =
        let o = h u j in
        record { part = o.part; key = o.key; node = o.node; value = o.value; own = λ q. own_after u u refl refl (o.own q); foreign = o.foreign; hosted = o.hosted }
    made_facts u (m_local i lc snap x y own own' j same) =
        subst (VersionFacts here e.view) (sym same) (record {
          part = refl;
          key = write_key here ok x (scripts i x own) y j;
          node = exists;
          value = (values i x own).writes y j;
          own = λ q. record { place = i; owner = as_certified here lc snap x; seq = refl; owns = own'; lc = lc; is_lc = refl; write = y; written = j; key = refl };
          foreign = λ q. absurd (cc q);
          hosted = λ q. absurd (cc q);
        })
    made_facts u (m_here a ts y g j same) =
        let n = here_named here input d a waiters g in
        subst (VersionFacts here e.view) (sym same) (pre_facts a ts y n.0 n.1.foreign (master_hosts here a.part n.1.master) j)
    made_facts u (m_take from a ts y c t j same) =
        subst (VersionFacts here e.view) (sym same)
        (pre_facts a ts y (named_writes here a.tx a.part a.rs a.lc a.writes (came_named here input from (Replicate a.tx a.part a.rs a.lc a.writes) c)) t.foreign t.hosted j)
    made_facts u (m_settled fc p j hs same) =
        let o = h p j in
        subst (VersionFacts here e.view) (sym same) (record {
          part = o.part;
          key = o.key;
          node = o.node;
          value = o.value;
          own = λ q. own_after p (settled fc p) refl refl (o.own q);
          foreign = λ q. absurd (cc q);
          hosted = λ q. hs;
        })

    pub versions-act : AllVersions here e.view
    versions-act u j = made_facts u (made here input w d e act u j)
