-- Whoever was read from wrote the key: versions, replies and reads are of transactions that were certified with a write of it.
use Rattle.si_laws.proofs.Stages.LinkedStates.{IsCertified, Linked, certified_stays}
use Rattle.si_laws.proofs.Stages.LinksKept.{placed_writes}
use Rattle.si_laws.proofs.Stages.AllLinksKept.{linked_opening, linked_step}
use Rattle.str_model.proofs.Changes.VersionChanges.{Placed, by_master, by_slave}
use Rattle.si_laws.proofs.Changes.ReadLetters.{ReadLetter, is_other, letters_act, rl_commit, rl_other, rl_reply, rl_request}
use Rattle.si_laws.proofs.Sources.GivenVersions.{OwnFrom, change_from, got_from, serve_from, still_from}
use Rattle.str_model.proofs.Principle.SingleChanges.{Act, Comes, Where, act_abort, act_abort_came, act_accept, act_ack, act_ask, act_begin, act_certify, act_close, act_commit, act_commit_came, act_mark, act_put, act_refuse, act_reply, act_request, act_take, act_unwait, act_wait}
use Rattle.str_model.proofs.Principle.Everywhere.{IsSeen, Sent, Stage, at_place, during, stage_of}
use Rattle.std.proofs.Common.{Bool, List, None, Option, Some, ap, filter, inl, inr, map, refl, replicate, slice_get, slice_set, subst, subst₂, sym, ℕ, ◌++◌, ◌∙◌, ◌≡◌}
use Rattle.str_base.specs.declared.names.KeyId.{KeyId}
use Rattle.str_base.specs.declared.names.NodeId.{NodeId}
use Rattle.str_base.specs.declared.names.Ts.{Ts}
use Rattle.str_base.specs.declared.names.TxId.{TxId}
use Rattle.str_base.specs.declared.names.Value.{Value}
use Rattle.str_base.specs.declared.names.Version.{Version}
use Rattle.str_base.specs.declared.names.Write.{Write}
use Rattle.str_base.specs.Versions.{insert_all, of_pair, of_tx, settled, without}
use Rattle.str_model.specs.Acts.{abort_came, aborted, accepted, acked, asked, begun, certified, closed, commit_came, committed, decided_as, fresh, in_phase, is_hosted_of, local_version, marked, pre_version, refused, replied, requested, taken, waits, with_asked}
use Rattle.str_model.specs.declared.messages.Arrived.{Arrived}
use Rattle.str_model.specs.declared.messages.Body.TheVariants.{ReadReply}
use Rattle.str_model.specs.declared.messages.Input.{Input}
use Rattle.str_model.specs.declared.messages.Message.{Message}
use Rattle.str_model.specs.Owned.{Owns}
use Rattle.str_model.specs.Proposals.{proposed}
use Rattle.str_model.specs.Runs.{opening, opening_view}
use Rattle.str_model.specs.Views.{Aborted, Committed, Doing, Global, Local, Own, Remote, View, lc_of, name_of}
use Rattle.str_scene.specs.Scenes.{Here, Scene, in_part, participants}
use Rattle.str_base.proofs.Lists.{get_set, get_set_other, got_push, got_replicate, got_set}
use Rattle.str_base.proofs.Members.{in_append, in_at, in_filter, in_insert_all, in_left, in_map, in_right, in_without}
use Rattle.str_base.specs.Members.{In}

-- the transaction was certified with a write of the key
pub record WroteKey (scene : Scene) (s : Stage) (u : TxId) (k : KeyId) : Type 0 where
  pub rs : ℕ
  pub lc : ℕ
  pub all : List Write
  pub certified : IsCertified scene s u rs lc all
  pub write : Write
  pub there : In write all
  pub key : write.key ≡ k

-- where a version comes from
pub data VersionBack (here : Here) (input : Input) (d e : Doing) (q : Version) : Type 0 where
  vb_old : (z : Version) → In z d.view.versions → z.tx ≡ q.tx → z.key ≡ q.key → VersionBack here input d e q
  vb_local : (i lc : ℕ) (y : Own) (w : Write) → Owns e.view i y → lc_of y.phase ≡ Some lc → In w y.writes → q.tx ≡ name_of here i → q.key ≡ w.key → VersionBack here input d e q
  vb_pre : (a : Arrived) (w : Write) → Placed here input d a → In w a.writes → q.tx ≡ a.tx → q.key ≡ w.key → VersionBack here input d e q

module _ (here : Here) (input : Input) (w : Where) where
  same_back : (d e : Doing) (q : Version) → In q d.view.versions → VersionBack here input d e q
  same_back d e q h = vb_old q h refl refl

  pres_back : (d e : Doing) (a : Arrived) (ts : ℕ) (q : Version) → Placed here input d a → In q (insert_all (map (pre_version a ts) a.writes) d.view.versions) → VersionBack here input d e q
  pres_back d e a ts q p h = elim (in_insert_all (map (pre_version a ts) a.writes) d.view.versions q h) [
    | inl j ↦ (let r = in_map (pre_version a ts) a.writes q j in vb_pre a r.0 p r.1 (ap (λ (z : Version). z.tx) (sym r.2)) (ap (λ (z : Version). z.key) (sym r.2)))
    | inr j ↦ same_back d e q j
  ]

  settled_back : (d e : Doing) (fc : ℕ) (test out : Version → Bool) (q : Version) → In q (insert_all (map (settled fc) (filter test d.view.versions)) (without out d.view.versions)) → VersionBack here input d e q
  settled_back d e fc test out q h = elim (in_insert_all (map (settled fc) (filter test d.view.versions)) (without out d.view.versions) q h) [
    | inl j ↦ (let r = in_map (settled fc) (filter test d.view.versions) q j in
        let f = in_filter test d.view.versions r.0 r.1 in vb_old r.0 f.0 (ap (λ (z : Version). z.tx) r.2) (ap (λ (z : Version). z.key) r.2))
    | inr j ↦ same_back d e q (in_without out d.view.versions q j)
  ]

  pub versions_back : (d e : Doing) → Act here input w d e → (q : Version) → In q e.view.versions → VersionBack here input d e q
  unfolding begun marked aborted committed closed certified asked acked requested accepted taken refused waits replied commit_came abort_came
  versions_back d e (act_begin place rs d' r g) q h = same_back d' e q h
  versions_back d e (act_mark k t d' rd) q h = same_back d' e q h
  versions_back d e (act_put i x y d' own g) q h = same_back d' e q h
  versions_back d e (act_request i k m x d' own g) q h = same_back d' e q h
  versions_back d e (act_certify i lc snap x d' own f n c) q h = elim (in_insert_all (map (local_version here i lc) x.writes) d'.view.versions q h) [
    | inl j ↦ (let r = in_map (local_version here i lc) x.writes q j in
        vb_local i lc (record x { snap = snap; parts = participants here.scene here.node x.writes; phase = Local lc }) r.0 (get_set d'.view.own i x _ own.0) refl r.1 (ap (λ (z : Version). z.tx) (sym r.2)) (ap (λ (z : Version). z.key) (sym r.2)))
    | inr j ↦ same_back d' e q j
  ]
  versions_back d e (act_ask i lc p x d' own f l g) q h = same_back d' e q h
  versions_back d e (act_ack i lc from tx p ts parts x d' own c r g) q h = same_back d' e q h
  versions_back d e (act_abort i cause x d' own f y) q h = same_back d' e q (in_without (of_tx (name_of here i)) d'.view.versions q h)
  versions_back d e (act_commit i lc fc x d' own l n le f g) q h = settled_back d' e fc (is_hosted_of here (name_of here i)) (of_tx (name_of here i)) q h
  versions_back d e (act_close i x d' own p n) q h = same_back d' e q h
  versions_back d e (act_accept a ts d' g m) q h = pres_back d' e a ts q (by_master g) h
  versions_back d e (act_refuse a u k d' g m) q h = same_back d' e q h
  versions_back d e (act_take from a d' c l) q h = pres_back d' e a (proposed d'.view a) q (by_slave from c l) h
  versions_back d e (act_wait r d' g) q h = same_back d' e q h
  versions_back d e (act_unwait kept rest r d' g) q h = same_back d' e q h
  versions_back d e (act_reply tx k rs v u fc d' g) q h = same_back d' e q h
  versions_back d e (act_commit_came from tx p fc ms d' c g) q h = settled_back d' e fc.0 (of_pair tx p) (of_pair tx p) q h
  versions_back d e (act_abort_came from tx p d' c g) q h = same_back d' e q (in_without (of_pair tx p) d'.view.versions q h)

  -- ---- own transactions

  module _ (P : TxId → KeyId → Type 0) (d0 : Doing) (versions : (q : Version) → In q d0.view.versions → P q.tx q.key)
      (replies : (from : NodeId) (tx : TxId) (k : KeyId) (a : Value) (by : Option TxId) (fc : Ts) (u : TxId) → Comes here input from (ReadReply tx k a by fc) → by ≡ Some u → P u k) where
    AllFrom : List Own → Type 0
    AllFrom own = (i : ℕ) (x : Own) → slice_get own i ≡ Some x → OwnFrom P x

    set_from : (own : List Own) (i : ℕ) (y : Own) → AllFrom own → OwnFrom P y → AllFrom (slice_set own i y)
    unfolding AllFrom
    set_from own i y h g j z k = elim (got_set own i j y z k) [ inl q ↦ subst (OwnFrom P) (sym q.1) g | inr q ↦ h j z q.1 ]

    pub own_from : (e : Doing) → Act here input w d0 e → ((i : ℕ) (x : Own) → slice_get d0.view.own i ≡ Some x → OwnFrom P x) → (i : ℕ) (x : Own) → slice_get e.view.own i ≡ Some x → OwnFrom P x
    unfolding AllFrom begun marked aborted committed closed certified asked acked requested accepted taken refused waits replied commit_came abort_came
    own_from e (act_begin place rs d' r g) h = λ i x k. elim (got_push d'.view.own i (fresh place rs) x k) [
      | inl q ↦ subst (OwnFrom P) (sym q.1) (record { reads = λ r u j e. absurd j; phase = λ k a u fc e. absurd (cc e) })
      | inr q ↦ h i x q
    ]
    own_from e (act_mark k t d' rd) h = h
    own_from e (act_put i x y d' own g) h = set_from d'.view.own i y h (change_from here input P d' versions replies i x y g.change (h i x own.0))
    own_from e (act_request i k m x d' own g) h = set_from d'.view.own i (in_phase (Remote k) x) h (change_from here input P d' versions replies i x (in_phase (Remote k) x) g.change (h i x own.0))
    own_from e (act_certify i lc snap x d' own f n c) h =
        let y : Own = record x { snap = snap; parts = participants here.scene here.node x.writes; phase = Local lc } in set_from d'.view.own i y h (still_from P x y refl (λ k a u fc e. cc e) (h i x own.0))
    own_from e (act_ask i lc p x d' own f l g) h =
        let y : Own = record x { parts = with_asked p x.parts; phase = Global lc } in set_from d'.view.own i y h (still_from P x y refl (λ k a u fc e. cc e) (h i x own.0))
    own_from e (act_ack i lc from tx p ts parts x d' own c q g) h =
        let y : Own = record x { parts = parts } in set_from d'.view.own i y h (record { reads = (h i x own.0).reads; phase = (h i x own.0).phase })
    own_from e (act_abort i cause x d' own f y) h =
        let z : Own = decided_as (Aborted (lc_of x.phase) cause) x in set_from d'.view.own i z h (still_from P x z refl (λ k a u fc e. cc e) (h i x own.0))
    own_from e (act_commit i lc fc x d' own l n le f g) h =
        let z : Own = decided_as (Committed (Some lc) (Some fc)) x in set_from d'.view.own i z h (still_from P x z refl (λ k a u fc e. cc e) (h i x own.0))
    own_from e (act_close i x d' own p n) h = let z : Own = decided_as (Committed None None) x in set_from d'.view.own i z h (still_from P x z refl (λ k a u fc e. cc e) (h i x own.0))
    own_from e (act_accept a ts d' g m) h = h
    own_from e (act_refuse a u k d' g m) h = h
    own_from e (act_take from a d' c l) h = h
    own_from e (act_wait r d' g) h = h
    own_from e (act_unwait kept rest r d' g) h = h
    own_from e (act_reply tx k rs v u fc d' g) h = h
    own_from e (act_commit_came from tx p fc ms d' c g) h = h
    own_from e (act_abort_came from tx p d' c g) h = h

-- ---- over every run

-- versions, replies and own transactions: whoever is named has written the key
pub record Sourced (scene : Scene) (s : Stage) : Type 0 where
  pub linked_ : Linked scene s
  pub versions : (n : ℕ) (v : View) → slice_get s.nodes n ≡ Some v → (q : Version) → In q v.versions → WroteKey scene s q.tx q.key
  pub replies : (m : Message) → In m s.sent → (tx : TxId) (k : KeyId) (a : Value) (by : Option TxId) (fc : Ts) (u : TxId) → m.body ≡ ReadReply tx k a by fc → by ≡ Some u → WroteKey scene s u k
  pub own : (n : ℕ) (v : View) → slice_get s.nodes n ≡ Some v → (i : ℕ) (x : Own) → slice_get v.own i ≡ Some x → OwnFrom (λ u k. WroteKey scene s u k) x

more_from : (P Q : TxId → KeyId → Type 0) (x : Own) → ((u : TxId) (k : KeyId) → P u k → Q u k) → OwnFrom P x → OwnFrom Q x
more_from P Q x f h = record { reads = λ r u j e. f u r.key (h.reads r u j e); phase = λ k a u fc e. f u k (h.phase k a u fc e) }

module _ (scene : Scene) (s : Stage) (i : ℕ) (v : View) (input : Input) (w : Where) (d e : Doing) (is : slice_get s.nodes i ≡ Some v) (act : Act (at_place scene i) input w d e) where
  pub wrote_stays : (u : TxId) (k : KeyId) → WroteKey scene (during s i d) u k → WroteKey scene (during s i e) u k
  wrote_stays u k r = record { rs = r.rs; lc = r.lc; all = r.all; certified = certified_stays scene s i v input w d e is act u r.rs r.lc r.all r.certified; write = r.write; there = r.there; key = r.key }

module _ (scene : Scene) (s : Stage) (i : ℕ) (v : View) (input : Input) (w : Where) (d e : Doing) (is : slice_get s.nodes i ≡ Some v) (seen : IsSeen s input) (act : Act (at_place scene i) input w d e)
    (h : Sourced scene (during s i d)) where
  wrote_on : (u : TxId) (k : KeyId) → WroteKey scene (during s i d) u k → WroteKey scene (during s i e) u k
  wrote_on = wrote_stays scene s i v input w d e is act

  here_d : slice_get (slice_set s.nodes i d.view) i ≡ Some d.view
  here_d = get_set s.nodes i v d.view is

  here_e : slice_get (slice_set s.nodes i e.view) i ≡ Some e.view
  here_e = get_set s.nodes i v e.view is

  came_from : (from : NodeId) (tx : TxId) (k : KeyId) (a : Value) (by : Option TxId) (fc : Ts) (u : TxId) → Comes (at_place scene i) input from (ReadReply tx k a by fc) → by ≡ Some u → WroteKey scene (during s i d) u k
  came_from from tx k a by fc u c t =
      let g : Sent s c.0 = subst (IsSeen s) c.1 seen in h.replies c.0 (in_left s.sent d.sent c.0 (in_at s.sent g.0 c.0 g.1)) tx k a by fc u c.3 t

  version_e : (q : Version) → VersionBack (at_place scene i) input d e q → WroteKey scene (during s i e) q.tx q.key
  version_e q (vb_old z k t g) = wrote_on q.tx q.key (subst₂ (λ (a : TxId) (b : KeyId). WroteKey scene (during s i d) a b) t g (h.versions i d.view here_d z k))
  version_e q (vb_local n lc y x own l k t g) =
      record { rs = y.snap.rs; lc = lc; all = y.writes; certified = record { n = i; i = n; view = e.view; x = y; there = here_e; own = own; name = t; lc_is = l; writes = refl; rs_is = refl }; write = x; there = k; key = sym g }
  version_e q (vb_pre a x p k t g) =
      let r = (placed_writes scene s i v input w d e is seen act h.linked_ a p).0 in
      let f = in_filter (in_part scene a.part) r.0 x (subst (In x) r.2 k) in
      wrote_on q.tx q.key (record { rs = a.rs.0; lc = a.lc.0; all = r.0; certified = subst (λ (z : TxId). IsCertified scene (during s i d) z a.rs.0 a.lc.0 r.0) (sym t) r.1; write = x; there = f.0; key = sym g })

  reply_e : (m : Message) → In m (s.sent ++ e.sent) → (tx : TxId) (k : KeyId) (a : Value) (by : Option TxId) (fc : Ts) (u : TxId) → m.body ≡ ReadReply tx k a by fc → by ≡ Some u → WroteKey scene (during s i e) u k
  reply_e m j tx k a by fc u q t = elim (in_append s.sent e.sent m j) [
    | inl z ↦ wrote_on u k (h.replies m (in_left s.sent d.sent m z) tx k a by fc u q t)
    | inr z ↦ (elim (letters_act (at_place scene i) input w d e act m z) [
      | inl y ↦ wrote_on u k (h.replies m (in_right s.sent d.sent m y) tx k a by fc u q t)
      | inr y ↦ fresh_ y
    ])
  ]
    where
      fresh_ : ReadLetter (at_place scene i) input d e m → WroteKey scene (during s i e) u k
      fresh_ (rl_request n l x own to b) = absurd (cc (b, q))
      fresh_ (rl_reply z l r c o gc g f b y) =
          let same : ReadReply z l c o _ ≡ ReadReply tx k a by fc = sym b ∙ q in
          let key : l ≡ k = cc same in
          let writer : o ≡ by = cc same in
          wrote_on u k (subst (λ (z : KeyId). WroteKey scene (during s i d) u z) key
          (got_from (at_place scene i) input (λ u k. WroteKey scene (during s i d) u k) d (h.versions i d.view here_d) came_from l o (serve_from d.view.versions l r c o gc g.gives) u (writer ∙ t)))
      fresh_ (rl_commit n lc gc x c own f g r b) = absurd (cc (b, q))
      fresh_ (rl_other b) = absurd (cc (ap is_other q, b))

  pub sourced_step : Sourced scene (during s i e)
  sourced_step = record {
    linked_ = linked_step scene s i v input w d e is seen act h.linked_;
    versions = λ n u g q k. elim (got_set s.nodes i n e.view u g) [
      | inl z ↦ version_e q (versions_back (at_place scene i) input w d e act q (subst (λ (y : View). In q y.versions) z.1 k))
      | inr z ↦ wrote_on q.tx q.key (h.versions n u (get_set_other s.nodes i n d.view z.0 ∙ z.1) q k)
    ];
    replies = reply_e;
    own = λ n u g j x k. more_from (λ u k. WroteKey scene (during s i d) u k) (λ u k. WroteKey scene (during s i e) u k) x wrote_on (elim (got_set s.nodes i n e.view u g) [
      | inl z ↦ own_from (at_place scene i) input w (λ u k. WroteKey scene (during s i d) u k) d (h.versions i d.view here_d) came_from e act (h.own i d.view here_d) j x (subst (λ (y : View). slice_get y.own j ≡ Some x) z.1 k)
      | inr z ↦ h.own n u (get_set_other s.nodes i n d.view z.0 ∙ z.1) j x k
    ]);
  }

pub sourced_opening : (scene : Scene) → Sourced scene (stage_of (opening scene))
sourced_opening scene = record {
  linked_ = linked_opening scene;
  versions = λ n v g q k. absurd (subst (λ (z : View). In q z.versions) (empty n v g) k);
  replies = λ m k. absurd k;
  own = λ n v g i x k. absurd (cc (ap (λ (z : View). slice_get z.own i) (sym (empty n v g)), k));
}
  where
    empty : (n : ℕ) (v : View) → slice_get (replicate scene.nodes (opening_view scene)) n ≡ Some v → v ≡ opening_view scene
    empty n v g = got_replicate scene.nodes n (opening_view scene) v g
