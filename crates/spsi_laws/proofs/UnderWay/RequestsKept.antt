-- Who waits for another node has sent its request, through every function of a step: changes alone don't say that the one comes with the other.
use Rattle.std.proofs.Common.{Bool, List, None, Option, Some, [], ap, false, if◌then◌else◌, inl, inr, length, nat_lt, refl, slice_get, slice_set, sub-one, subst, suc, sym, true, zero, ℕ, ◌++◌, ◌+◌, ◌-◌, ◌∙◌, ◌∷◌, ◌≡◌, ◌⊎◌}
use Rattle.dependency_set.specs.Snapshots.{Snap}
use Rattle.partition_map.specs.declared.rows.Asked.{Asked}
use Rattle.str_base.specs.Values.{is_below}
use Rattle.str_base.specs.Versions.{same_key, same_node}
use Rattle.str_base.specs.declared.names.KeyId.{KeyId}
use Rattle.str_base.specs.declared.names.NodeId.{NodeId}
use Rattle.str_base.specs.declared.names.PartId.{PartId}
use Rattle.str_base.specs.declared.names.SessionId.{SessionId}
use Rattle.str_base.specs.declared.names.Ts.{Ts}
use Rattle.str_base.specs.declared.names.TxId.{TxId}
use Rattle.str_base.specs.declared.names.Value.{Value}
use Rattle.str_base.specs.declared.names.Write.{Write}
use Rattle.str_model.proofs.Changes.SnapshotsGain.{if_elim}
use Rattle.str_model.specs.Acts
use Rattle.str_model.specs.Acts.{aborted, accepted, acked, asked, begun, certified, closed, commit_came, committed, fresh, decided_as, in_phase, marked, refused, replied, requested, taken, waits, with_asked, with_waiters}
use Rattle.str_model.specs.Arrivals
use Rattle.str_model.specs.Clients
use Rattle.str_model.specs.Gates.{Ask, CommitAt, GateTurn, Missing, Shut, gate_of}
use Rattle.str_model.specs.Owned.{Owns}
use Rattle.str_model.specs.Pass
use Rattle.str_model.specs.Proposals.{Accept, Ignore, MasterTurn, Park, Refuse, holds_pair, prepare_turn, proposed, takes, ts_limit}
use Rattle.str_model.specs.Returns
use Rattle.str_model.specs.Scripts
use Rattle.str_model.specs.Scripts.{finish, finish_next, known, noted, own_op}
use Rattle.str_model.specs.Steps
use Rattle.str_model.specs.Steps.{drop_held}
use Rattle.str_model.specs.Strange.{is_valid}
use Rattle.str_model.specs.Turns.{Away, CertTurn, Certified, Conflict, DepTurn, Give, Keep, Late, Lost, Plain, ReadTurn, ServeTurn, ServeWait, Speculative, Wait, WaitGate, cert_turn, dep_turn, left_by, read_turn, reply_turn, serve_turn}
use Rattle.str_model.specs.Views.{Aborted, Active, CertWait, Closing, Committed, Doing, Global, Local, Own, Phase, ReadWait, Remote, Reply, is_decided, lc_of, letter, name_of, put}
use Rattle.str_model.specs.declared.messages.Arrived.{Arrived}
use Rattle.str_model.specs.declared.messages.Body.{Body}
use Rattle.str_model.specs.declared.messages.Body.TheVariants.{Abort, Ack, Commit, Prepare, ReadReply, ReadReq, Refuse as Refusal, Replicate}
use Rattle.str_model.specs.declared.messages.Input.{Input}
use Rattle.str_model.specs.declared.messages.Input.TheVariants.{Client, Deliver}
use Rattle.str_model.specs.declared.messages.Message.{Message}
use Rattle.str_model.specs.declared.messages.Waiter.{Waiter}
use Rattle.str_model.specs.declared.messages.Waiter.TheVariants.{Held, Read}
use Rattle.str_scene.specs.Scenes.{Here, Session, nth, participants, replicas}
use Rattle.str_scene.specs.declared.names.Op.{Op}
use Rattle.str_scene.specs.declared.names.Op.TheVariants.{Abort as Stop, Add, Del, Get, Need, Put, Puts}
use Rattle.str_scene.specs.declared.names.TxPlace.{TxPlace}
use Rattle.str_base.proofs.Lists.{get_set, got_push, got_set}
use Rattle.str_base.proofs.Members.{in_append, in_left, in_right}
use Rattle.str_base.specs.Members.{In}

-- a request of the i-th own transaction for the key was sent
abbrev pub HasRequest : Here → List Message → Doing → ℕ → KeyId → Type 0
HasRequest here old d i k = (to : NodeId) × (rs : Ts) × In (letter here to (ReadReq (name_of here i) k rs)) (old ++ d.sent)

-- each own transaction that waits for another node
abbrev pub AllRequested : Here → List Message → Doing → Type 0
AllRequested here old d = (i : ℕ) (x : Own) (k : KeyId) → Owns d.view i x → x.phase ≡ Remote k → HasRequest here old d i k

module _ (here : Here) (old : List Message) where
  -- nothing that was sent is taken back, waiting reads stay, and who waits has sent its request
  pub record KeepsRequests (d e : Doing) : Type 0 where
    pub sent : (m : Message) → In m d.sent → In m e.sent
    pub reads : (tx : TxId) (k : KeyId) (rs : Ts) → In (Read tx k rs) d.view.waiters → In (Read tx k rs) e.view.waiters
    pub remote : AllRequested here old d → AllRequested here old e

  older : (d e : Doing) (m : Message) → ((m : Message) → In m d.sent → In m e.sent) → In m (old ++ d.sent) → In m (old ++ e.sent)
  older d e m f h = elim (in_append old d.sent m h) [ inl j ↦ in_left old e.sent m j | inr j ↦ in_right old e.sent m (f m j) ]

  pub rests : (d : Doing) → KeepsRequests d d
  rests d = record { sent = λ m h. h; reads = λ tx k rs h. h; remote = λ h. h }

  pub then_ : (c d e : Doing) → KeepsRequests c d → KeepsRequests d e → KeepsRequests c e
  then_ c d e p q = record { sent = λ m h. q.sent m (p.sent m h); reads = λ tx k rs h. q.reads tx k rs (p.reads tx k rs h); remote = λ h. q.remote (p.remote h) }

  -- own transactions stay as they are
  pub same_own : (d e : Doing) → e.view.own ≡ d.view.own → ((m : Message) → In m d.sent → In m e.sent) → ((tx : TxId) (k : KeyId) (rs : Ts) → In (Read tx k rs) d.view.waiters → In (Read tx k rs) e.view.waiters)
      → KeepsRequests d e
  same_own d e q f g = record {
    sent = f;
    reads = g;
    remote = λ h i x k o p. (let r = h i x k (subst (λ (xs : List Own). slice_get xs i ≡ Some x) q o) p in (r.0, r.1, older d e (letter here r.0 (ReadReq (name_of here i) k r.1)) f r.2));
  }

  -- one of them changes; where it goes elsewhere, it did so before, or its request is sent
  set_own : (d e : Doing) (i : ℕ) (x y : Own) → Owns d.view i x → e.view.own ≡ slice_set d.view.own i y → e.view.waiters ≡ d.view.waiters → ((m : Message) → In m d.sent → In m e.sent)
      → ((k : KeyId) → y.phase ≡ Remote k → (x.phase ≡ Remote k) ⊎ HasRequest here old e i k) → KeepsRequests d e
  set_own d e i x y o q w f g = record {
    sent = f;
    reads = λ tx k rs h. subst (In (Read tx k rs)) (sym w) h;
    remote = λ h j z k oz p. elim (got_set d.view.own i j y z (subst (λ (xs : List Own). slice_get xs j ≡ Some z) q oz)) [
      | inl s ↦ subst (λ (n : ℕ). HasRequest here old e n k) (sym s.0)
          (elim (g k (ap (λ (u : Own). u.phase) (sym s.1) ∙ p)) [
            | inl r ↦ (let a = h i x k o r in (a.0, a.1, older d e (letter here a.0 (ReadReq (name_of here i) k a.1)) f a.2))
            | inr r ↦ r
          ])
      | inr s ↦ (let a = h j z k s.1 p in (a.0, a.1, older d e (letter here a.0 (ReadReq (name_of here j) k a.1)) f a.2))
    ];
  }

  -- the same, where it does not go elsewhere by this change, and other messages may be sent
  set_quiet : (d e : Doing) (i : ℕ) (x y : Own) (ms : List Message) → Owns d.view i x → e.view.own ≡ slice_set d.view.own i y → e.view.waiters ≡ d.view.waiters → e.sent ≡ d.sent ++ ms
      → ((k : KeyId) → y.phase ≡ Remote k → x.phase ≡ Remote k) → KeepsRequests d e
  set_quiet d e i x y ms o q w s g = set_own d e i x y o q w (λ m h. subst (In m) (sym s) (in_left d.sent ms m h)) (λ k p. inl (g k p))

  put_quiet : (i : ℕ) (x y : Own) (d : Doing) → Owns d.view i x → ((k : KeyId) → y.phase ≡ Remote k → x.phase ≡ Remote k) → KeepsRequests d (put i y d)
  put_quiet i x y d o g = set_own d (put i y d) i x y o refl refl (λ m h. h) (λ k p. inl (g k p))

  aborts : (i : ℕ) (cause : _) (x : Own) (d : Doing) → Owns d.view i x → KeepsRequests d (aborted here i cause x d)
  unfolding aborted
  aborts i cause x d o = set_quiet d (aborted here i cause x d) i x (decided_as (Aborted (lc_of x.phase) cause) x) (Acts.abort_letters here i x.parts) o refl refl refl (λ k p. absurd (cc p))

  commits : (i lc fc : ℕ) (x : Own) (d : Doing) → Owns d.view i x → KeepsRequests d (committed here i lc fc x d)
  unfolding committed
  commits i lc fc x d o = set_quiet d (committed here i lc fc x d) i x (decided_as (Committed (Some lc) (Some fc)) x) (Acts.commit_letters here i x fc d.view) o refl refl refl (λ k p. absurd (cc p))

  closes : (i : ℕ) (x : Own) (d : Doing) → Owns d.view i x → KeepsRequests d (closed here i x d)
  unfolding closed
  closes i x d o = set_own d (closed here i x d) i x (decided_as (Committed None None) x) o refl refl (λ m h. h) (λ k p. absurd (cc p))

  asks : (i lc : ℕ) (p : PartId) (x : Own) (d : Doing) → Owns d.view i x → KeepsRequests d (asked here i lc p x d)
  unfolding asked
  asks i lc p x d o =
      set_quiet d (asked here i lc p x d) i x (record x { parts = with_asked p x.parts; phase = Global lc }) (Acts.ask_letters here i lc x p (replicas here.scene p)) o refl refl refl (λ k q. absurd (cc q))

  certifies : (i lc : ℕ) (snap : Snap) (x : Own) (d : Doing) → Owns d.view i x → KeepsRequests d (certified here i lc snap x d)
  unfolding certified
  certifies i lc snap x d o =
      set_own d (certified here i lc snap x d) i x (record x { snap = snap; parts = participants here.scene here.node x.writes; phase = Local lc }) o refl refl (λ m h. h) (λ k p. absurd (cc p))

  requests : (i : ℕ) (k : KeyId) (n : NodeId) (x : Own) (d : Doing) → Owns d.view i x → KeepsRequests d (requested here i k n x d)
  unfolding requested
  requests i k n x d o =
      set_own d (requested here i k n x d) i x (in_phase (Remote k) x) o refl refl (λ m h. in_left d.sent _ m h)
      (λ l p. let same : k ≡ l = cc p in
      inr (
        n,
        record { 0 = x.snap.rs },
        in_right old (d.sent ++ letter here n (ReadReq (name_of here i) k (record { 0 = x.snap.rs })) ∷ []) _
            (in_right d.sent (letter here n (ReadReq (name_of here i) k (record { 0 = x.snap.rs })) ∷ []) _ (inl (λ j. letter here n (ReadReq (name_of here i) (same j) (record { 0 = x.snap.rs }))))),
      ))

  -- ---- an own transaction as it stands

  at_own : (i : ℕ) (f : Own → Doing → Doing) (d : Doing) → ((x : Own) → Owns d.view i x → is_decided x.phase ≡ false → KeepsRequests d (f x d)) → KeepsRequests d (Scripts.at_own i f d)
  at_own i f d h = by (slice_get d.view.own i) refl
    where
      by : (o : Option Own) → slice_get d.view.own i ≡ o → KeepsRequests d (Scripts.of_own f o d)
      by None e = rests d
      by (Some x) e = by_phase (is_decided x.phase) refl
        where
          by_phase : (b : Bool) → is_decided x.phase ≡ b → KeepsRequests d (Scripts.unless_decided b (f x) d)
          by_phase true q = rests d
          by_phase false q = h x e q

  -- ---- values

  finish_remote : (op : Op) (a : Value) (z : Own) (k : KeyId) → (finish op a z).phase ≡ Remote k → z.phase ≡ Remote k
  finish_remote (Get l) a z k p = absurd (cc p)
  finish_remote (Put l n) a z k p = absurd (cc p)
  finish_remote (Puts l t) a z k p = absurd (cc p)
  finish_remote (Add l n) a z k p = absurd (cc p)
  finish_remote (Del l) a z k p = absurd (cc p)
  finish_remote (Need l n) a z k p = by_test (is_below a n) p
    where
      by_test : (b : Bool) → (if b then record z { phase = Closing true } else record z { next = z.next + 1; phase = Active }).phase ≡ Remote k → z.phase ≡ Remote k
      by_test true p = absurd (cc p)
      by_test false p = absurd (cc p)
  finish_remote Stop a z k p = p

  next_remote : (o : Option Op) (a : Value) (z : Own) (k : KeyId) → (finish_next o a z).phase ≡ Remote k → z.phase ≡ Remote k
  next_remote None a z k p = p
  next_remote (Some op) a z k p = finish_remote op a z k p

  with_value_ : (i : ℕ) (k : KeyId) (a : Value) (by : Option TxId) (snap : Snap) (x : Own) (d : Doing) → Owns d.view i x → KeepsRequests d (Scripts.with_value here i k a by snap x d)
  with_value_ i k a by snap x d o = put_quiet i x (finish_next (own_op here x) a (noted k a by snap x)) d o (λ l p. next_remote (own_op here x) a (noted k a by snap x) l p)

  -- the mark has just risen
  read_done_ : (i : ℕ) (k : KeyId) (x : Own) (t : ReadTurn) (d : Doing) → Owns d.view i x → KeepsRequests d (Scripts.read_done here i k x t d)
  read_done_ i k x (Plain a by fc snap) d o = with_value_ i k a by snap x d o
  read_done_ i k x (Speculative a by snap) d o = with_value_ i k a (Some by) snap x d o
  read_done_ i k x (Wait by) d o = put_quiet i x (in_phase (ReadWait k) x) d o (λ l p. absurd (cc p))
  read_done_ i k x (Away n) d o = requests i k n x d o

  marks : (k : KeyId) (t : ℕ) (d : Doing) → KeepsRequests d (marked k t d)
  unfolding marked
  marks k t d = same_own d (marked k t d) refl (λ m h. h) (λ tx l rs h. h)

  marked_owns : (k : KeyId) (t : ℕ) (d : Doing) (i : ℕ) (x : Own) → Owns d.view i x → Owns (marked k t d).view i x
  unfolding marked
  marked_owns k t d i x o = o

  read_now_ : (i : ℕ) (k : KeyId) (x : Own) (d : Doing) → Owns d.view i x → KeepsRequests d (Scripts.read_now here i k x d)
  unfolding Scripts.read_now
  read_now_ i k x d o =
      let e : Doing = marked k x.snap.rs d in
      then_ d e (Scripts.read_done here i k x (read_turn here d.view x.snap k) e) (marks k x.snap.rs d)
      (read_done_ i k x (read_turn here d.view x.snap k) e (marked_owns k x.snap.rs d i x o))

  -- ---- certification

  cert_done_ : (i : ℕ) (x : Own) (t : CertTurn) (d : Doing) → Owns d.view i x → KeepsRequests d (Scripts.cert_done here i x t d)
  cert_done_ i x (Certified lc snap) d o = certifies i lc snap x d o
  cert_done_ i x (Conflict by k) d o = aborts i _ x d o
  cert_done_ i x (WaitGate by) d o = put_quiet i x (in_phase CertWait x) d o (λ l p. absurd (cc p))

  certify_now_ : (i : ℕ) (x : Own) (d : Doing) → Owns d.view i x → KeepsRequests d (Scripts.certify_now here i x d)
  unfolding Scripts.certify_now
  certify_now_ i x d o = cert_done_ i x (cert_turn here d.view x.snap x.writes) d o

  -- ---- a turn

  resolved_ : (i : ℕ) (y : Own) (t : DepTurn) (d : Doing) → Owns d.view i y → KeepsRequests d (Pass.resolved here i y t d)
  resolved_ i y (Lost q f es) d o = aborts i _ y d o
  resolved_ i y (Late q fc f es) d o = aborts i _ y d o
  resolved_ i y (Keep f es) d o = rests d

  resolve_ : (i : ℕ) (x : Own) (d : Doing) → Owns d.view i x → KeepsRequests d (Pass.resolve_own here i x d)
  resolve_ i x d o =
      let t = dep_turn d.view.own x.snap in
      let y : Own = record x { snap = left_by t x.snap } in
      then_ d (put i y d) (Pass.resolved here i y t (put i y d)) (put_quiet i x y d o (λ k p. p)) (resolved_ i y t (put i y d) (get_set d.view.own i x y o))

  reply_again : (i : ℕ) (k : KeyId) (x : Own) (t : ReadTurn) (d : Doing) → Owns d.view i x → KeepsRequests d (Pass.again_reply here i k x t d)
  reply_again i k x (Plain a by fc snap) d o = with_value_ i k a by snap x d o
  reply_again i k x (Speculative a by snap) d o = rests d
  reply_again i k x (Wait by) d o = rests d
  reply_again i k x (Away n) d o = rests d

  again_ : (i : ℕ) (p : Phase) (x : Own) (d : Doing) → Owns d.view i x → KeepsRequests d (Pass.again_own here i p x d)
  again_ i (ReadWait k) x d o = read_now_ i k x d o
  again_ i (Reply k a by fc) x d o = reply_again i k x (reply_turn here x.snap a by fc) d o
  again_ i CertWait x d o = certify_now_ i x d o
  again_ i Active x d o = rests d
  again_ i (Remote k) x d o = rests d
  again_ i (Closing b) x d o = rests d
  again_ i (Local lc) x d o = rests d
  again_ i (Global lc) x d o = rests d
  again_ i (Committed lc fc) x d o = rests d
  again_ i (Aborted lc c) x d o = rests d

  free_ : (i : ℕ) (wish : Bool) (x : Own) (d : Doing) → Owns d.view i x → KeepsRequests d (Pass.close_free here i wish x d)
  free_ i true x d o = aborts i _ x d o
  free_ i false x d o = closes i x d o

  abbrev Again : (Doing → Doing) → Type 0
  Again f = (d : Doing) → KeepsRequests d (f d)

  gate_done_ : (i : ℕ) (again : Doing → Doing) (lc : ℕ) (x : Own) (t : GateTurn) (d : Doing) → Again again → Owns d.view i x → KeepsRequests d (Pass.gate_done here i again lc x t d)
  gate_done_ i again lc x (Ask p) d h o = then_ d (asked here i lc p x d) (again (asked here i lc p x d)) (asks i lc p x d o) (h (asked here i lc p x d))
  gate_done_ i again lc x (Shut q) d h o = rests d
  gate_done_ i again lc x (Missing p n) d h o = rests d
  gate_done_ i again lc x (CommitAt fc) d h o = commits i lc fc x d o

  gate_phase_ : (i : ℕ) (again : Doing → Doing) (p : Phase) (x : Own) (d : Doing) → Again again → Owns d.view i x → KeepsRequests d (Pass.gate_phase here i again p x d)
  gate_phase_ i again (Local lc) x d h o = gate_done_ i again lc x (gate_of here d.view lc x) d h o
  gate_phase_ i again (Global lc) x d h o = gate_done_ i again lc x (gate_of here d.view lc x) d h o
  gate_phase_ i again Active x d h o = rests d
  gate_phase_ i again (ReadWait k) x d h o = rests d
  gate_phase_ i again (Remote k) x d h o = rests d
  gate_phase_ i again (Reply k a by fc) x d h o = rests d
  gate_phase_ i again CertWait x d h o = rests d
  gate_phase_ i again (Closing b) x d h o = rests d
  gate_phase_ i again (Committed lc fc) x d h o = rests d
  gate_phase_ i again (Aborted lc c) x d h o = rests d

  gates_ : (i n : ℕ) (d : Doing) → KeepsRequests d (Pass.gates here i n d)
  gates_ i zero d = rests d
  gates_ i (suc n) d = at_own i (λ x. Pass.gate_phase here i (Pass.gates here i n) x.phase x) d (λ x o f. gate_phase_ i (Pass.gates here i n) x.phase x d (λ e. gates_ i n e) o)

  close_ : (i : ℕ) (p : Phase) (x : Own) (d : Doing) → Owns d.view i x → KeepsRequests d (Pass.close_phase here i p x d)
  close_ i (Closing wish) x d o = if_elim (KeepsRequests d) (Pass.is_empty x.snap.deps) (Pass.close_free here i wish x d) d (λ t. free_ i wish x d o) (λ t. rests d)
  close_ i Active x d o = gates_ i (suc (length here.scene.parts)) d
  close_ i (ReadWait k) x d o = gates_ i (suc (length here.scene.parts)) d
  close_ i (Remote k) x d o = gates_ i (suc (length here.scene.parts)) d
  close_ i (Reply k a by fc) x d o = gates_ i (suc (length here.scene.parts)) d
  close_ i CertWait x d o = gates_ i (suc (length here.scene.parts)) d
  close_ i (Local lc) x d o = gates_ i (suc (length here.scene.parts)) d
  close_ i (Global lc) x d o = gates_ i (suc (length here.scene.parts)) d
  close_ i (Committed lc fc) x d o = gates_ i (suc (length here.scene.parts)) d
  close_ i (Aborted lc c) x d o = gates_ i (suc (length here.scene.parts)) d

  half_ : (i : ℕ) (d : Doing) → KeepsRequests d (Pass.half_turn here i d)
  unfolding Pass.half_turn
  half_ i d =
      let d1 : Doing = Scripts.at_own i (Pass.resolve_own here i) d in
      then_ d d1 (Scripts.at_own i (λ x. Pass.again_own here i x.phase x) d1) (at_own i (Pass.resolve_own here i) d (λ x o f. resolve_ i x d o)) (at_own i (λ x. Pass.again_own here i x.phase x) d1 (λ x o f. again_ i x.phase x d1 o))

  turn_ : (i : ℕ) (d : Doing) → KeepsRequests d (Pass.turn here i d)
  unfolding Pass.turn
  turn_ i d =
      let e : Doing = Pass.half_turn here i d in then_ d e (Scripts.at_own i (Pass.close_own here i) e) (half_ i d) (at_own i (Pass.close_own here i) e (λ x o f. close_ i x.phase x e o))

  pub pass_ : (n : ℕ) (d : Doing) → KeepsRequests d (Pass.pass_to here n d)
  pass_ zero d = rests d
  pass_ (suc i) d = then_ d (Pass.pass_to here i d) (Pass.turn here i (Pass.pass_to here i d)) (pass_ i d) (turn_ i (Pass.pass_to here i d))

  -- ---- a client step

  abbrev pub KeepsTo : Doing → Option Doing → Type 0
  KeepsTo d None = Unit {0}
  KeepsTo d (Some e) = KeepsRequests d e

  value_ : (i : ℕ) (op : Op) (k : KeyId) (x : Own) (v : Option Value) (d : Doing) → Owns d.view i x → KeepsRequests d (Scripts.need_value here i op k x v d)
  value_ i op k x (Some a) d o = put_quiet i x (finish op a x) d o (λ l p. finish_remote op a x l p)
  value_ i op k x None d o = read_now_ i k x d o

  op_ : (i : ℕ) (x : Own) (op : Op) (d : Doing) → Owns d.view i x → KeepsRequests d (Scripts.do_op here i x op d)
  op_ i x (Get k) d o = value_ i (Get k) k x (known x k) d o
  op_ i x (Put k n) d o = put_quiet i x _ d o (λ l p. absurd (cc p))
  op_ i x (Puts k t) d o = put_quiet i x _ d o (λ l p. absurd (cc p))
  op_ i x (Add k n) d o = value_ i (Add k n) k x (known x k) d o
  op_ i x (Del k) d o = put_quiet i x _ d o (λ l p. absurd (cc p))
  op_ i x (Need k n) d o = value_ i (Need k n) k x (known x k) d o
  op_ i x Stop d o = aborts i _ x d o

  commit_ : (i : ℕ) (x : Own) (ws : List Write) (d : Doing) → Owns d.view i x → KeepsRequests d (Scripts.ask_commit here i x ws d)
  commit_ i x [] d o = put_quiet i x (in_phase (Closing false) x) d o (λ l p. absurd (cc p))
  commit_ i x (w ∷ ws) d o = certify_now_ i x d o

  next_ : (i : ℕ) (x : Own) (op : Option Op) (d : Doing) → Owns d.view i x → KeepsRequests d (Scripts.op_or_commit here i x op d)
  next_ i x (Some op) d o = op_ i x op d o
  next_ i x None d o = commit_ i x x.writes d o

  begin_ : (place : TxPlace) (t : ℕ) (o : Option (List Op)) (d : Doing) → KeepsTo d (Clients.begin here place t o d)
  unfolding begun
  begin_ place t None d = tt
  begin_ place t (Some ops) d = record {
    sent = λ m h. h;
    reads = λ tx k rs h. h;
    remote = λ h i x k o p. elim (got_push d.view.own i (fresh place _) x o) [
      | inl q ↦ absurd (cc (ap (λ (z : Own). z.phase) q.1, p))
      | inr q ↦ h i x k q p
    ];
  }

  go_on_ : (s : SessionId) (t : ℕ) (text : Session) (i : ℕ) (x : Own) (p : Phase) (d : Doing) → Owns d.view i x → KeepsTo d (Clients.go_on here s t text i x p d)
  go_on_ s t text i x Active d o = next_ i x (own_op here x) d o
  go_on_ s t text i x (Committed lc fc) d o = begin_ (Clients.place_in s (x.place.index + 1)) t (nth text.txs (x.place.index + 1)) d
  go_on_ s t text i x (Aborted lc c) d o = begin_ (Clients.place_in s (x.place.index + 1)) t (nth text.txs (x.place.index + 1)) d
  go_on_ s t text i x (ReadWait k) d o = tt
  go_on_ s t text i x (Remote k) d o = tt
  go_on_ s t text i x (Reply k a by fc) d o = tt
  go_on_ s t text i x CertWait d o = tt
  go_on_ s t text i x (Closing b) d o = tt
  go_on_ s t text i x (Local lc) d o = tt
  go_on_ s t text i x (Global lc) d o = tt

  go_on_at_ : (s : SessionId) (t : ℕ) (text : Session) (i : ℕ) (o : Option Own) (d : Doing) → slice_get d.view.own i ≡ o → KeepsTo d (Clients.go_on_at here s t text i o d)
  go_on_at_ s t text i None d e = tt
  go_on_at_ s t text i (Some x) d e = go_on_ s t text i x x.phase d e

  go_on_last_ : (s : SessionId) (t : ℕ) (text : Session) (o : Option ℕ) (d : Doing) → KeepsTo d (Clients.go_on_last here s t text o d)
  go_on_last_ s t text None d = begin_ (Clients.place_in s 1) t (nth text.txs 1) d
  go_on_last_ s t text (Some i) d = go_on_at_ s t text i (slice_get d.view.own i) d refl

  in_session_ : (s : SessionId) (t : ℕ) (o : Option Session) (d : Doing) → KeepsTo d (Clients.in_session here s t o d)
  in_session_ s t None d = tt
  in_session_ s t (Some text) d =
      if_elim (KeepsTo d) (same_node text.node here.node) (Clients.go_on_last here s t text (Clients.last_index (Clients.of_session s) d.view.own) d) None
      (λ e. go_on_last_ s t text (Clients.last_index (Clients.of_session s) d.view.own) d) (λ e. tt)

  client_ : (s : SessionId) (t : ℕ) (d : Doing) → KeepsTo d (Clients.client_rule here s t d)
  unfolding Clients.client_rule
  client_ s t d = in_session_ s t (nth here.scene.sessions s.0) d

  -- ---- a message

  -- a message is sent, or one more waits
  sends : (d e : Doing) (ms : List Message) → e.view.own ≡ d.view.own → e.view.waiters ≡ d.view.waiters → e.sent ≡ d.sent ++ ms → KeepsRequests d e
  sends d e ms q w s = same_own d e q (λ m h. subst (In m) (sym s) (in_left d.sent ms m h)) (λ tx k rs h. subst (In (Read tx k rs)) (sym w) h)

  waits_ : (r : Waiter) (d : Doing) → KeepsRequests d (waits r d)
  unfolding waits
  waits_ r d = same_own d (waits r d) refl (λ m h. h) (λ tx k rs h. in_left d.view.waiters (r ∷ []) (Read tx k rs) h)

  serve_ : (tx : TxId) (k : KeyId) (rs : ℕ) (t : ServeTurn) (d : Doing) → KeepsRequests d (Arrivals.serve_done here tx k rs t d)
  unfolding replied
  serve_ tx k rs (Give v by fc) d = sends d (replied here tx k v by fc d) (letter here tx.node (ReadReply tx k v by (record { 0 = fc })) ∷ []) refl refl refl
  serve_ tx k rs (ServeWait by) d = waits_ _ d

  read_req_ : (tx : TxId) (k : KeyId) (rs : ℕ) (d : Doing) → KeepsTo d (Arrivals.read_req here tx k rs d)
  unfolding Arrivals.read_req
  read_req_ tx k rs d =
      if_elim (KeepsTo d) _ (Some (Arrivals.serve_done here tx k rs (serve_turn d.view.versions k rs) (marked k rs d))) None
      (λ e. then_ d (marked k rs d) (Arrivals.serve_done here tx k rs (serve_turn d.view.versions k rs) (marked k rs d)) (marks k rs d) (serve_ tx k rs (serve_turn d.view.versions k rs) (marked k rs d))) (λ e. tt)

  accepts : (a : Arrived) (ts : ℕ) (d : Doing) → KeepsRequests d (accepted here a ts d)
  unfolding accepted
  accepts a ts d = sends d (accepted here a ts d) (letter here a.tx.node (Ack a.tx a.part (record { 0 = ts })) ∷ Acts.copies here a (replicas here.scene a.part)) refl refl refl

  refuses : (a : Arrived) (by : TxId) (k : KeyId) (d : Doing) → KeepsRequests d (refused here a by k d)
  unfolding refused
  refuses a by k d = sends d (refused here a by k d) (letter here a.tx.node (Refusal a.tx a.part by k) ∷ []) refl refl refl

  master_ : (a : Arrived) (t : MasterTurn) (d : Doing) → KeepsTo d (Arrivals.master_done here a t d)
  master_ a (Accept ts) d = accepts a ts d
  master_ a (Refuse by k) d = refuses a by k d
  master_ a (Park by) d = waits_ (Held a) d
  master_ a Ignore d = tt

  prepare_ : (a : Arrived) (d : Doing) → KeepsTo d (Arrivals.prepare_rule here a d)
  unfolding Arrivals.prepare_rule
  prepare_ a d = master_ a (prepare_turn here d.view a) d

  evict_at_ : (a : Arrived) (i : ℕ) (x : Own) (o : Option Write) (d : Doing) → Owns d.view i x → KeepsRequests d (Arrivals.evict_at here a i x o d)
  evict_at_ a i x None d o = rests d
  evict_at_ a i x (Some w) d o = aborts i _ x d o

  evict_ : (a : Arrived) (n : ℕ) (d : Doing) → KeepsRequests d (Arrivals.evict here a n d)
  evict_ a zero d = rests d
  evict_ a (suc i) d =
      let e : Doing = Arrivals.evict here a i d in
      then_ d e (Scripts.at_own i (Arrivals.evict_own here a i) e) (evict_ a i d) (at_own i (Arrivals.evict_own here a i) e (λ x o f. evict_at_ a i x _ e o))

  takes_ : (a : Arrived) (ts : ℕ) (d : Doing) → KeepsRequests d (taken here a ts d)
  unfolding taken
  takes_ a ts d = sends d (taken here a ts d) (letter here a.tx.node (Ack a.tx a.part (record { 0 = ts })) ∷ []) refl refl refl

  replicate_ : (a : Arrived) (d : Doing) → KeepsTo d (Arrivals.replicate_rule here a d)
  unfolding Arrivals.replicate_rule
  replicate_ a d =
      let e : Doing = Arrivals.evict here a (length d.view.own) d in
      if_elim (KeepsTo d) (takes here d.view a) (Arrivals.take_if here a e) None
      (λ t. if_elim (KeepsTo d) (nat_lt (proposed e.view a) ts_limit) (Some (taken here a (proposed e.view a) e)) None
      (λ u. then_ d e (taken here a (proposed e.view a) e) (evict_ a (length d.view.own) d) (takes_ a _ e)) (λ u. tt)) (λ t. tt)

  named_owns : (tx : TxId) (d : Doing) (x : Own) → Returns.own_named here tx d ≡ Some x → Owns d.view (tx.seq - 1) x
  named_owns tx d x =
      if_elim (λ o. o ≡ Some x → Owns d.view (tx.seq - 1) x) (same_node tx.node here.node) (nth d.view.own tx.seq) None
      (λ e h. by tx.seq h) (λ e h. absurd (cc h))
    where
      by : (n : ℕ) → nth d.view.own n ≡ Some x → slice_get d.view.own (n - 1) ≡ Some x
      by zero e = absurd (cc e)
      by (suc i) e = rw sub-one e

  reply_phase_ : (i : ℕ) (x : Own) (k : KeyId) (v : Value) (by : Option TxId) (fc : ℕ) (p : Phase) (d : Doing) → Owns d.view i x → KeepsTo d (Returns.reply_phase i x k v by fc p d)
  reply_phase_ i x k v by fc (Remote l) d o =
      if_elim (KeepsTo d) (same_key l k) (Some (put i (in_phase (Reply k v by fc) x) d)) None (λ t. put_quiet i x (in_phase (Reply k v by fc) x) d o (λ m p. absurd (cc p))) (λ t. tt)
  reply_phase_ i x k v by fc Active d o = tt
  reply_phase_ i x k v by fc (ReadWait l) d o = tt
  reply_phase_ i x k v by fc (Reply l a u gc) d o = tt
  reply_phase_ i x k v by fc CertWait d o = tt
  reply_phase_ i x k v by fc (Closing b) d o = tt
  reply_phase_ i x k v by fc (Local lc) d o = tt
  reply_phase_ i x k v by fc (Global lc) d o = tt
  reply_phase_ i x k v by fc (Committed lc gc) d o = tt
  reply_phase_ i x k v by fc (Aborted lc c) d o = tt

  reply_own_ : (tx : TxId) (k : KeyId) (v : Value) (by : Option TxId) (fc : ℕ) (o : Option Own) (d : Doing) → Returns.own_named here tx d ≡ o → KeepsTo d (Returns.reply_own (tx.seq - 1) k v by fc o d)
  reply_own_ tx k v by fc None d e = tt
  reply_own_ tx k v by fc (Some x) d e = reply_phase_ (tx.seq - 1) x k v by fc x.phase d (named_owns tx d x e)

  read_reply_ : (tx : TxId) (k : KeyId) (v : Value) (by : Option TxId) (fc : ℕ) (d : Doing) → KeepsTo d (Returns.read_reply here tx k v by fc d)
  unfolding Returns.read_reply
  read_reply_ tx k v by fc d = reply_own_ tx k v by fc (Returns.own_named here tx d) d refl

  ack_kept_ : (i : ℕ) (x : Own) (ps : Option (List Asked)) (d : Doing) → Owns d.view i x → KeepsTo d (Returns.ack_kept i x ps d)
  unfolding acked
  ack_kept_ i x None d o = tt
  ack_kept_ i x (Some ps) d o = put_quiet i x (record x { parts = ps }) d o (λ k p. p)

  ack_phase_ : (i : ℕ) (x : Own) (from : NodeId) (p : PartId) (ts : ℕ) (ph : Phase) (d : Doing) → Owns d.view i x → KeepsTo d (Returns.ack_phase i x from p ts ph d)
  ack_phase_ i x from p ts (Global lc) d o = ack_kept_ i x (Returns.with_ack x.parts p from ts) d o
  ack_phase_ i x from p ts Active d o = tt
  ack_phase_ i x from p ts (ReadWait l) d o = tt
  ack_phase_ i x from p ts (Remote l) d o = tt
  ack_phase_ i x from p ts (Reply l a u gc) d o = tt
  ack_phase_ i x from p ts CertWait d o = tt
  ack_phase_ i x from p ts (Closing b) d o = tt
  ack_phase_ i x from p ts (Local lc) d o = tt
  ack_phase_ i x from p ts (Committed lc gc) d o = tt
  ack_phase_ i x from p ts (Aborted lc c) d o = tt

  ack_own_ : (tx : TxId) (from : NodeId) (p : PartId) (ts : ℕ) (o : Option Own) (d : Doing) → Returns.own_named here tx d ≡ o → KeepsTo d (Returns.ack_own (tx.seq - 1) from p ts o d)
  ack_own_ tx from p ts None d e = tt
  ack_own_ tx from p ts (Some x) d e = ack_phase_ (tx.seq - 1) x from p ts x.phase d (named_owns tx d x e)

  ack_ : (tx : TxId) (from : NodeId) (p : PartId) (ts : ℕ) (d : Doing) → KeepsTo d (Returns.ack_rule here from tx p ts d)
  unfolding Returns.ack_rule
  ack_ tx from p ts d = ack_own_ tx from p ts (Returns.own_named here tx d) d refl

  refuse_phase_ : (i : ℕ) (x : Own) (from : NodeId) (p : PartId) (by : TxId) (k : KeyId) (ph : Phase) (d : Doing) → Owns d.view i x → KeepsTo d (Returns.refuse_phase here i x from p by k ph d)
  refuse_phase_ i x from p by k (Global lc) d o = if_elim (KeepsTo d) _ (Some (aborted here i _ x d)) None (λ t. aborts i _ x d o) (λ t. tt)
  refuse_phase_ i x from p by k Active d o = tt
  refuse_phase_ i x from p by k (ReadWait l) d o = tt
  refuse_phase_ i x from p by k (Remote l) d o = tt
  refuse_phase_ i x from p by k (Reply l a u gc) d o = tt
  refuse_phase_ i x from p by k CertWait d o = tt
  refuse_phase_ i x from p by k (Closing b) d o = tt
  refuse_phase_ i x from p by k (Local lc) d o = tt
  refuse_phase_ i x from p by k (Committed lc gc) d o = tt
  refuse_phase_ i x from p by k (Aborted lc c) d o = tt

  refuse_own_ : (tx : TxId) (from : NodeId) (p : PartId) (by : TxId) (k : KeyId) (o : Option Own) (d : Doing) → Returns.own_named here tx d ≡ o → KeepsTo d (Returns.refuse_own here (tx.seq - 1) from p by k o d)
  refuse_own_ tx from p by k None d e = tt
  refuse_own_ tx from p by k (Some x) d e = refuse_phase_ (tx.seq - 1) x from p by k x.phase d (named_owns tx d x e)

  refuse_ : (tx : TxId) (from : NodeId) (p : PartId) (by : TxId) (k : KeyId) (d : Doing) → KeepsTo d (Returns.refuse_rule here from tx p by k d)
  unfolding Returns.refuse_rule
  refuse_ tx from p by k d = refuse_own_ tx from p by k (Returns.own_named here tx d) d refl

  reads_left : (tx : TxId) (p : PartId) (ws : List Waiter) (t : TxId) (k : KeyId) (rs : Ts) → In (Read t k rs) ws → In (Read t k rs) (drop_held tx p ws)
  reads_left tx p [] t k rs h = absurd h
  reads_left tx p (w ∷ ws) t k rs h = by_test (holds_pair tx p w) refl h (λ j. reads_left tx p ws t k rs j)
    where
      by_test : (b : Bool) → holds_pair tx p w ≡ b → In (Read t k rs) (w ∷ ws) → (In (Read t k rs) ws → In (Read t k rs) (drop_held tx p ws)) → In (Read t k rs) (if b then ws else w ∷ drop_held tx p ws)
      by_test true q (inl e) rec = absurd (cc (ap (holds_pair tx p) e, q))
      by_test true q (inr j) rec = j
      by_test false q (inl e) rec = inl e
      by_test false q (inr j) rec = inr (rec j)

  commit_came_ : (tx : TxId) (p : PartId) (fc : ℕ) (ms : _) (d : Doing) → KeepsRequests d (commit_came tx p fc ms d)
  unfolding commit_came
  commit_came_ tx p fc ms d = same_own d (commit_came tx p fc ms d) refl (λ m h. h) (λ t k rs h. h)

  abort_came_ : (tx : TxId) (p : PartId) (d : Doing) → KeepsRequests d (Acts.abort_came tx p (drop_held tx p d.view.waiters) d)
  unfolding Acts.abort_came
  abort_came_ tx p d = same_own d (Acts.abort_came tx p (drop_held tx p d.view.waiters) d) refl (λ m h. h) (λ t k rs h. reads_left tx p d.view.waiters t k rs h)

  body_ : (from : NodeId) (b : Body) (d : Doing) → KeepsTo d (Steps.body_rule here from b d)
  body_ from (ReadReq tx k rs) d = read_req_ tx k rs.0 d
  body_ from (ReadReply tx k v by fc) d = read_reply_ tx k v by fc.0 d
  body_ from (Prepare tx p rs lc ws) d = prepare_ (record { tx = tx; part = p; rs = rs; lc = lc; writes = ws }) d
  body_ from (Refusal tx p by k) d = refuse_ tx from p by k d
  body_ from (Replicate tx p rs lc ws) d = replicate_ (record { tx = tx; part = p; rs = rs; lc = lc; writes = ws }) d
  body_ from (Ack tx p ts) d = ack_ tx from p ts.0 d
  body_ from (Commit tx p fc ms) d = if_elim (KeepsTo d) _ (Some (commit_came tx p fc.0 ms d)) None (λ t. commit_came_ tx p fc.0 ms d) (λ t. tt)
  body_ from (Abort tx p) d = if_elim (KeepsTo d) _ (Some (Acts.abort_came tx p (drop_held tx p d.view.waiters) d)) None (λ t. abort_came_ tx p d) (λ t. tt)

  pub rule_ : (input : Input) (d : Doing) → KeepsTo d (Steps.rule here input d)
  unfolding Steps.rule
  rule_ (Client s t) d = client_ s t d
  rule_ (Deliver m) d = if_elim (KeepsTo d) (is_valid here m) (Steps.body_rule here m.sender m.body d) None (λ e. body_ m.sender m.body d) (λ e. tt)
