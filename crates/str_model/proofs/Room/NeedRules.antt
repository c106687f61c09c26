-- What a rule adds, and what its answer leaves to be paid by the turns.
use Rattle.std.proofs.Common.{Bool, List, None, Option, Some, [], ap, arith, false, if◌then◌else◌, inl, inr, length, length-append, nat_lt, not, refl, slice_get, slice_set, subst, suc, sym, true, zero, ℕ, ◌&&◌, ◌*◌, ◌++◌, ◌+◌, ◌-◌, ◌∙◌, ◌∷◌, ◌≡◌, ◌≤◌}
use Rattle.std.specs.List.{list_any}
use Rattle.partition_map.specs.declared.rows.Asked.{Asked}
use Rattle.str_base.specs.declared.names.Cause.{Cause}
use Rattle.str_base.specs.declared.names.Cause.TheVariants.{Conflict as ByConflict, Wish}
use Rattle.str_base.specs.declared.names.KeyId.{KeyId}
use Rattle.str_base.specs.declared.names.NodeId.{NodeId}
use Rattle.str_base.specs.declared.names.PartId.{PartId}
use Rattle.str_base.specs.declared.names.SessionId.{SessionId}
use Rattle.str_base.specs.declared.names.TxId.{TxId}
use Rattle.str_base.specs.declared.names.Value.{Value}
use Rattle.str_base.specs.declared.names.Write.{Write}
use Rattle.str_scene.specs.declared.names.Op.{Op}
use Rattle.str_scene.specs.declared.names.Op.TheVariants.{Abort as Stop, Add, Del, Get, Need, Put, Puts}
use Rattle.str_scene.specs.declared.names.TxPlace.{TxPlace}
use Rattle.str_model.specs.declared.names.KeyMark.{KeyMark}
use Rattle.str_model.specs.declared.messages.Arrived.{Arrived}
use Rattle.str_model.specs.declared.messages.Body.{Body}
use Rattle.str_model.specs.declared.messages.Body.TheVariants.{Abort, Ack, Commit, Prepare, ReadReply, ReadReq, Refuse as Refusal, Replicate}
use Rattle.str_model.specs.declared.messages.Input.{Input}
use Rattle.str_model.specs.declared.messages.Input.TheVariants.{Client, Deliver}
use Rattle.str_model.specs.declared.messages.Waiter.{Waiter}
use Rattle.str_model.specs.declared.messages.Waiter.TheVariants.{Held, Read}
use Rattle.str_base.specs.Versions.{same_key, same_node, stamp}
use Rattle.str_model.specs.Acts.{abort_came, aborted, accepted, acked, begun, certified, commit_came, copies, decided_as, fresh, in_phase, marked, refused, replied, requested, taken, waits}
use Rattle.str_model.specs.Arrivals.{evict, held_key, master_done, prepare_rule, read_req, replicate_rule, serve_done, take_if}
use Rattle.str_model.specs.Arrivals
use Rattle.str_model.specs.Clients.{client_rule}
use Rattle.str_model.specs.Clients
use Rattle.str_model.specs.NodeFacts.{MomentFacts, how_many, one_if}
use Rattle.str_model.specs.Owned.{Owns}
use Rattle.str_model.specs.Pass.{is_empty}
use Rattle.str_model.specs.Proposals.{Accept, Ignore, MasterTurn, Park, Refuse, holds_pair, prepare_turn, proposed, takes, ts_limit}
use Rattle.str_model.specs.Returns
use Rattle.str_model.specs.Scripts.{certify_now, finish, known, own_op, read_now}
use Rattle.str_model.specs.Scripts
use Rattle.str_model.specs.Steps.{body_rule, decides, drop_held, rule}
use Rattle.str_model.specs.Strange.{has_node, is_valid}
use Rattle.str_model.specs.Turns.{Away, CertTurn, Certified, Conflict, Give, Plain, ReadTurn, ServeTurn, ServeWait, Speculative, Wait, WaitGate, cert_turn, read_turn, serve_turn}
use Rattle.str_model.specs.Views.{Aborted, Active, CertWait, Closing, Committed, Doing, Global, Local, Own, Phase, ReadWait, Remote, Reply, View, is_decided, lc_of, letter, put, starts}
use Rattle.str_scene.specs.SceneLimits.{IsScene}
use Rattle.str_scene.specs.Scenes.{Here, Session, hosts_key, is_master, nth, replicas}
use Rattle.str_model.proofs.Room.PartCosts.{Grew, aborted_cost, certified_cost, copies_seven, cost, parts_few, put_cost}
use Rattle.str_model.proofs.ListCounts.{many_append}
use Rattle.str_model.proofs.OwnFacts.FewOwn.{is_open}
use Rattle.str_model.proofs.ViewFacts.GatesEnd.{many_mono}
use Rattle.str_model.proofs.Room.NeedTurns.{read_cost}
use Rattle.str_model.proofs.Room.SmallNumbers.{writes_few}
use Rattle.str_model.proofs.Principle.RulePaths.{named_owns}
use Rattle.str_model.proofs.ViewFacts.TimesEnd.{many_set}
use Rattle.str_base.proofs.Lists.{got_set}
use Rattle.str_base.proofs.Tests.{and_true_left}

-- ---- what fits in a message

-- what a message writes is no more than 16 keys
abbrev pub BodyFits : Body → Type 0
BodyFits (Prepare tx p rs lc ws) = length ws ≤ 16
BodyFits (Replicate tx p rs lc ws) = length ws ≤ 16
BodyFits _ = Unit {0}

abbrev pub InputFits : Input → Type 0
InputFits (Client s t) = Unit {0}
InputFits (Deliver m) = BodyFits m.body

-- ---- who has a turn to come

abbrev pub is_active : Phase → Bool
is_active Active = true
is_active _ = false

-- it waits for its client alone
abbrev pub is_idle : Own → Bool
is_idle x = is_active x.phase && is_empty x.snap.deps

-- it is undecided, and its turn may do something
abbrev pub is_busy : Own → Bool
is_busy x = is_open x && not (is_idle x)

-- what is undecided
abbrev pub opens : Doing → ℕ
opens d = how_many is_open d.view.own

-- what was spent, by the undecided ones that are left too
pub record Spent (n : ℕ) (d e : Doing) : Type 0 where
  pub cost_is : cost e + 242 * opens e ≤ cost d + 242 * opens d + n
  pub waiting : length e.view.waiters ≤ length d.view.waiters + 1

-- what a rule leaves
pub record Ruled (v : View) (r : Doing) : Type 0 where
  pub cost_is : cost r + 242 * how_many is_busy r.view.own ≤ 242 * how_many is_open v.own + 32
  pub waiting : length r.view.waiters ≤ length v.waiters + 1

busy_open : (xs : List Own) → how_many is_busy xs ≤ how_many is_open xs
busy_open xs = many_mono is_busy is_open xs (λ x e. and_true_left (is_open x) (not (is_idle x)) e)

spent_rules : (v : View) (r : Doing) → Spent 32 (starts v) r → Ruled v r
spent_rules v r s = record { cost_is = (let b = busy_open r.view.own in let c = s.cost_is in omega (arith, b, c)); waiting = s.waiting }

abbrev pub OptRuled : View → Option Doing → Type 0
OptRuled v None = Unit {0}
OptRuled v (Some r) = Ruled v r

-- an undecided one that becomes another: no more are undecided
opens_set : (xs : List Own) (i : ℕ) (x y : Own) → slice_get xs i ≡ Some x → is_decided x.phase ≡ false → how_many is_open (slice_set xs i y) ≤ how_many is_open xs
opens_set xs i x y e f =
    let m = many_set is_open xs i x y e in
    let q : one_if (is_open x) ≡ 1 = ap (λ b. one_if (not b)) f in
    let b = at_most (is_open y) in omega (arith, m, q, b)
  where
    at_most : (b : Bool) → one_if b ≤ 1
    at_most true = omega arith
    at_most false = omega arith

-- one that is decided now is one fewer
opens_less : (xs : List Own) (i : ℕ) (x y : Own) → slice_get xs i ≡ Some x → is_decided x.phase ≡ false → is_decided y.phase ≡ true → how_many is_open (slice_set xs i y) + 1 ≤ how_many is_open xs
opens_less xs i x y e f g =
    let m = many_set is_open xs i x y e in
    let q : one_if (is_open x) ≡ 1 = ap (λ b. one_if (not b)) f in
    let r : one_if (is_open y) ≡ 0 = ap (λ b. one_if (not b)) g in omega (arith, m, q, r)

-- little was added, and the same or fewer are undecided
grew_spent : (n k : ℕ) (d e : Doing) → n ≤ k → opens e ≤ opens d → Grew n d e → Spent k d e
grew_spent n k d e le o g = record { cost_is = (let c = g.cost_is in omega (arith, le, o, c)); waiting = (let w : length e.view.waiters ≡ length d.view.waiters = ap length g.waiters in omega (arith, w)) }

module _ (here : Here) (i : ℕ) where
  -- an undecided one aborts: its turn is not to be paid
  abort_spent : (n k : ℕ) (cause : Cause) (x : Own) (d : Doing) → Owns d.view i x → is_decided x.phase ≡ false → length x.parts ≤ n → n + 1 ≤ 242 + k → Spent k d (aborted here i cause x d)
  unfolding aborted
  abort_spent n k cause x d own f le m =
      let g = aborted_cost here i n cause x d le in
      let o = opens_less d.view.own i x (decided_as (Aborted (lc_of x.phase) cause) x) own f refl in
      record { cost_is = (let c = g.cost_is in omega (arith, c, o, m)); waiting = (let w : length (aborted here i cause x d).view.waiters ≡ length d.view.waiters = ap length g.waiters in omega (arith, w)) }

  put_spent : (x y : Own) (d : Doing) → Owns d.view i x → is_decided x.phase ≡ false → Spent 32 d (put i y d)
  put_spent x y d own f = grew_spent 0 32 d (put i y d) (omega arith) (opens_set d.view.own i x y own f) (put_cost here i y d)

  -- ---- client steps

  module _ (ok : IsScene here.scene) (exists : has_node here here.node ≡ true) (d : Doing) (h : MomentFacts here d.view) (x : Own) (own : Owns d.view i x) (active : x.phase ≡ Active) where
    open_ : is_decided x.phase ≡ false
    open_ = ap is_decided active

    no_parts : length x.parts ≤ 0
    no_parts = let q : length x.parts ≡ 0 = ap length ((h.homes i x own).none (ap lc_of active)) in omega (arith, q)

    read_opens : (k : KeyId) → opens (read_now here i k x d) ≤ opens d
    unfolding read_now marked requested
    read_opens k = by_turn (read_turn here d.view x.snap k)
      where
        by_turn : (t : ReadTurn) → opens (Scripts.read_done here i k x t (marked k x.snap.rs d)) ≤ opens d
        by_turn (Plain a by fc snap) = opens_set d.view.own i x _ own open_
        by_turn (Speculative a by snap) = opens_set d.view.own i x _ own open_
        by_turn (Wait by) = opens_set d.view.own i x _ own open_
        by_turn (Away to) = opens_set d.view.own i x _ own open_

    read_spent : (k : KeyId) → Spent 32 d (read_now here i k x d)
    read_spent k = grew_spent 1 32 d _ (omega arith) (read_opens k) (read_cost here ok exists i k x d)

    certify_spent : Spent 32 d (certify_now here i x d)
    unfolding certify_now certified
    certify_spent = by_turn (cert_turn here d.view x.snap x.writes)
      where
        by_turn : (t : CertTurn) → Spent 32 d (Scripts.cert_done here i x t d)
        by_turn (Certified lc snap) = grew_spent 16 32 d _ (omega arith) (opens_set d.view.own i x _ own open_) (certified_cost here i lc snap x d (writes_few here ok d.view h i x own))
        by_turn (Conflict by k) = abort_spent 0 32 (ByConflict by k here.node) x d own open_ no_parts (omega arith)
        by_turn (WaitGate by) = put_spent x (in_phase CertWait x) d own open_

    value_spent : (op : Op) (k : KeyId) (o : Option Value) → Spent 32 d (Scripts.need_value here i op k x o d)
    value_spent op k (Some a) = put_spent x (finish op a x) d own open_
    value_spent op k None = read_spent k

    op_spent : (op : Op) → Spent 32 d (Scripts.do_op here i x op d)
    op_spent (Get k) = value_spent (Get k) k (known x k)
    op_spent (Put k n) = put_spent x _ d own open_
    op_spent (Puts k t) = put_spent x _ d own open_
    op_spent (Add k n) = value_spent (Add k n) k (known x k)
    op_spent (Del k) = put_spent x _ d own open_
    op_spent (Need k n) = value_spent (Need k n) k (known x k)
    op_spent Stop = abort_spent 0 32 Wish x d own open_ no_parts (omega arith)

    commit_spent : (ws : List Write) → Spent 32 d (Scripts.ask_commit here i x ws d)
    commit_spent [] = put_spent x (in_phase (Closing false) x) d own open_
    commit_spent (w ∷ ws) = certify_spent

    pub next_spent : (o : Option Op) → Spent 32 d (Scripts.op_or_commit here i x o d)
    next_spent (Some op) = op_spent op
    next_spent None = commit_spent x.writes

module _ (here : Here) (ok : IsScene here.scene) (exists : has_node here here.node ≡ true) (v : View) (h : MomentFacts here v) where
  d0 : Doing
  d0 = starts v

  begun_ruled : (place : TxPlace) (rs : ℕ) → Ruled v (begun place rs (starts v))
  unfolding begun
  begun_ruled place rs =
      let m = many_append is_busy v.own (fresh place rs ∷ []) in
      let b = busy_open v.own in
      record { cost_is = omega (arith, m, b); waiting = omega arith }

  begin_ruled : (place : TxPlace) (t : ℕ) (o : Option (List Op)) → OptRuled v (Clients.begin here place t o (starts v))
  begin_ruled place t None = tt
  begin_ruled place t (Some ops) = begun_ruled place _

  go_ruled : (s : SessionId) (t : ℕ) (text : Session) (i : ℕ) (x : Own) (p : Phase) → Owns v i x → x.phase ≡ p → OptRuled v (Clients.go_on here s t text i x p (starts v))
  go_ruled s t text i x Active own e = spent_rules v _ (next_spent here i ok exists (starts v) h x own e (own_op here x))
  go_ruled s t text i x (Committed lc fc) own e = begin_ruled (Clients.place_in s (x.place.index + 1)) t (nth text.txs (x.place.index + 1))
  go_ruled s t text i x (Aborted lc c) own e = begin_ruled (Clients.place_in s (x.place.index + 1)) t (nth text.txs (x.place.index + 1))
  go_ruled s t text i x (ReadWait k) own e = tt
  go_ruled s t text i x (Remote k) own e = tt
  go_ruled s t text i x (Reply k a by fc) own e = tt
  go_ruled s t text i x CertWait own e = tt
  go_ruled s t text i x (Closing w) own e = tt
  go_ruled s t text i x (Local lc) own e = tt
  go_ruled s t text i x (Global lc) own e = tt

  last_ruled : (s : SessionId) (t : ℕ) (text : Session) (o : Option ℕ) → OptRuled v (Clients.go_on_last here s t text o (starts v))
  last_ruled s t text None = begin_ruled (Clients.place_in s 1) t (nth text.txs 1)
  last_ruled s t text (Some i) = by_own (slice_get v.own i) refl
    where
      by_own : (o : Option Own) → slice_get v.own i ≡ o → OptRuled v (Clients.go_on_at here s t text i o (starts v))
      by_own None e = tt
      by_own (Some x) e = go_ruled s t text i x x.phase e refl

  client_ruled : (s : SessionId) (t : ℕ) → OptRuled v (client_rule here s t (starts v))
  unfolding client_rule
  client_ruled s t = by_session (nth here.scene.sessions s.0)
    where
      by_session : (o : Option Session) → OptRuled v (Clients.in_session here s t o (starts v))
      by_session None = tt
      by_session (Some text) = by_node (same_node text.node here.node)
        where
          by_node : (b : Bool) → OptRuled v (if b then Clients.go_on_last here s t text (Clients.last_index (Clients.of_session s) v.own) (starts v) else None)
          by_node true = last_ruled s t text (Clients.last_index (Clients.of_session s) v.own)
          by_node false = tt

  -- ---- messages to a replica

  -- nothing of the own transactions changes
  same_ruled : (n : ℕ) (r : Doing) → n ≤ 32 → r.view.own ≡ v.own → cost r ≤ n → length r.view.waiters ≤ length v.waiters + 1 → Ruled v r
  same_ruled n r le q c w =
      record { cost_is = (let b = busy_open v.own in let e : how_many is_busy r.view.own ≡ how_many is_busy v.own = ap (how_many is_busy) q in omega (arith, le, b, e, c)); waiting = w }

  one_more : (w : Waiter) → length (v.waiters ++ w ∷ []) ≤ length v.waiters + 1
  one_more w = let a = length-append v.waiters (w ∷ []) in omega (arith, a)

  read_req_ruled : (tx : TxId) (k : KeyId) (rs : ℕ) → OptRuled v (read_req here tx k rs (starts v))
  unfolding read_req marked replied waits
  read_req_ruled tx k rs = by_test (hosts_key here k && (not (same_node tx.node here.node) && not (list_any (Arrivals.waits_read tx k) v.waiters)))
    where
      by_turn : (t : ServeTurn) → Ruled v (serve_done here tx k rs t (marked k rs (starts v)))
      by_turn (Give a by fc) = same_ruled 1 _ (omega arith) refl (omega arith) (omega arith)
      by_turn (ServeWait by) = same_ruled 1 _ (omega arith) refl (omega arith) (one_more (Read tx k (stamp rs)))

      by_test : (b : Bool) → OptRuled v (if b then Some (serve_done here tx k rs (serve_turn v.versions k rs) (marked k rs (starts v))) else None)
      by_test true = by_turn (serve_turn v.versions k rs)
      by_test false = tt

  -- what an acceptance adds
  pub accept_cost : (a : Arrived) (ts : ℕ) (d : Doing) → length a.writes ≤ 16 → cost (accepted here a ts d) ≤ cost d + 24
  unfolding accepted
  accept_cost a ts d le =
      let s = length-append d.sent (letter here a.tx.node (Ack a.tx a.part (stamp ts)) ∷ copies here a (replicas here.scene a.part)) in
      let c = copies_seven here ok exists a in omega (arith, le, s, c)

  pub refuse_cost : (a : Arrived) (by : TxId) (k : KeyId) (d : Doing) → cost (refused here a by k d) ≤ cost d + 2
  unfolding refused
  refuse_cost a by k d = let s = length-append d.sent (letter here a.tx.node (Refusal a.tx a.part by k) ∷ []) in omega (arith, s)

  prepare_ruled : (a : Arrived) → length a.writes ≤ 16 → OptRuled v (prepare_rule here a (starts v))
  unfolding prepare_rule accepted refused waits
  prepare_ruled a le = by_turn (prepare_turn here v a)
    where
      by_turn : (t : MasterTurn) → OptRuled v (master_done here a t (starts v))
      by_turn (Accept ts) = same_ruled 24 _ (omega arith) refl (let c = accept_cost a ts (starts v) le in omega (arith, c)) (omega arith)
      by_turn (Refuse by k) = same_ruled 2 _ (omega arith) refl (let c = refuse_cost a by k (starts v) in omega (arith, c)) (omega arith)
      by_turn (Park by) = same_ruled 1 _ (omega arith) refl (omega arith) (one_more (Held a))
      by_turn Ignore = tt

  -- ---- evictions

  abbrev AllParts : Doing → Type 0
  AllParts d = (j : ℕ) (y : Own) → Owns d.view j y → length y.parts ≤ 112

  record Evicted (d e : Doing) : Type 0 where
    spent : cost e + 242 * opens e ≤ cost d + 242 * opens d
    parts : AllParts e
    waiters : e.view.waiters ≡ d.view.waiters

  evict_one : (a : Arrived) (i : ℕ) (d : Doing) → AllParts d → Evicted d (Scripts.at_own i (Arrivals.evict_own here a i) d)
  unfolding aborted
  evict_one a i d p = by_own (slice_get d.view.own i) refl
    where
      rests : Evicted d d
      rests = record { spent = omega arith; parts = p; waiters = refl }

      by_key : (x : Own) (o : Option Write) → Owns d.view i x → is_decided x.phase ≡ false → Evicted d (Arrivals.evict_at here a i x o d)
      by_key x None own f = rests
      by_key x (Some w) own f =
          let s = abort_spent here i 112 0 (ByConflict a.tx w.key here.node) x d own f (p i x own) (omega arith) in
          record {
            spent = (let c = s.cost_is in omega (arith, c));
            parts = λ j y own'. elim (got_set d.view.own i j (decided_as (Aborted (lc_of x.phase) (ByConflict a.tx w.key here.node)) x) y own') [
              | inl q ↦ subst (λ (z : Own). length z.parts ≤ 112) (sym q.1) (p i x own)
              | inr q ↦ p j y q.1
            ];
            waiters = refl;
          }

      by_open : (x : Own) (b : Bool) → Owns d.view i x → is_decided x.phase ≡ b → Evicted d (Scripts.unless_decided b (Arrivals.evict_own here a i x) d)
      by_open x true own e = rests
      by_open x false own e = by_key x (held_key d.view.versions _ a.writes) own e

      by_own : (o : Option Own) → slice_get d.view.own i ≡ o → Evicted d (Scripts.of_own (Arrivals.evict_own here a i) o d)
      by_own None e = rests
      by_own (Some x) e = by_open x (is_decided x.phase) e refl

  evict_all : (a : Arrived) (n : ℕ) (d : Doing) → AllParts d → Evicted d (evict here a n d)
  evict_all a zero d p = record { spent = omega arith; parts = p; waiters = refl }
  evict_all a (suc n) d p =
      let r = evict_all a n d p in
      let s = evict_one a n (evict here a n d) r.parts in
      record { spent = (let x = r.spent in let y = s.spent in omega (arith, x, y)); parts = s.parts; waiters = s.waiters ∙ r.waiters }

  replicate_ruled : (a : Arrived) → length a.writes ≤ 16 → OptRuled v (replicate_rule here a (starts v))
  unfolding replicate_rule taken
  replicate_ruled a le = by_test (takes here v a)
    where
      e : Doing
      e = evict here a (length v.own) (starts v)

      r : Evicted (starts v) e
      r = evict_all a (length v.own) (starts v) (λ j y own. parts_few here ok exists v h j y own)

      took : Ruled v (taken here a (proposed e.view a) e)
      took =
          record {
            cost_is = (let s = length-append e.sent (letter here a.tx.node (Ack a.tx a.part (stamp (proposed e.view a))) ∷ []) in let b = busy_open e.view.own in let c = r.spent in omega (arith, le, s, b, c));
            waiting = (let w : length e.view.waiters ≡ length v.waiters = ap length r.waiters in omega (arith, w));
          }

      by_limit : (b : Bool) → OptRuled v (if b then Some (taken here a (proposed e.view a) e) else None)
      by_limit true = took
      by_limit false = tt

      by_test : (b : Bool) → OptRuled v (if b then take_if here a e else None)
      by_test true = by_limit (nat_lt (proposed e.view a) ts_limit)
      by_test false = tt

  -- ---- messages that come back

  reply_ruled : (tx : TxId) (k : KeyId) (a : Value) (by : Option TxId) (fc : ℕ) → OptRuled v (Returns.read_reply here tx k a by fc (starts v))
  unfolding Returns.read_reply
  reply_ruled tx k a by fc = by_own (Returns.own_named here tx (starts v)) refl
    where
      i : ℕ
      i = tx.seq - 1

      by_key : (x : Own) (b : Bool) → Owns v i x → is_decided x.phase ≡ false → OptRuled v (if b then Some (put i (in_phase (Reply k a by fc) x) (starts v)) else None)
      by_key x true own f = spent_rules v _ (put_spent here i x (in_phase (Reply k a by fc) x) (starts v) own f)
      by_key x false own f = tt

      by_phase : (x : Own) (p : Phase) → Owns v i x → x.phase ≡ p → OptRuled v (Returns.reply_phase i x k a by fc p (starts v))
      by_phase x (Remote l) own e = by_key x (same_key l k) own (ap is_decided e)
      by_phase x Active own e = tt
      by_phase x (ReadWait l) own e = tt
      by_phase x (Reply l b u gc) own e = tt
      by_phase x CertWait own e = tt
      by_phase x (Closing w) own e = tt
      by_phase x (Local lc) own e = tt
      by_phase x (Global lc) own e = tt
      by_phase x (Committed m gc) own e = tt
      by_phase x (Aborted m c) own e = tt

      by_own : (o : Option Own) → Returns.own_named here tx (starts v) ≡ o → OptRuled v (Returns.reply_own i k a by fc o (starts v))
      by_own None e = tt
      by_own (Some x) e = by_phase x x.phase (named_owns here tx (starts v) x e) refl

  ack_ruled : (from : NodeId) (tx : TxId) (p : PartId) (ts : ℕ) → OptRuled v (Returns.ack_rule here from tx p ts (starts v))
  unfolding Returns.ack_rule acked
  ack_ruled from tx p ts = by_own (Returns.own_named here tx (starts v)) refl
    where
      i : ℕ
      i = tx.seq - 1

      by_parts : (x : Own) (o : Option (List Asked)) → Owns v i x → is_decided x.phase ≡ false → OptRuled v (Returns.ack_kept i x o (starts v))
      by_parts x None own f = tt
      by_parts x (Some parts) own f = spent_rules v _ (put_spent here i x (record x { parts = parts }) (starts v) own f)

      by_phase : (x : Own) (q : Phase) → Owns v i x → x.phase ≡ q → OptRuled v (Returns.ack_phase i x from p ts q (starts v))
      by_phase x (Global lc) own e = by_parts x (Returns.with_ack x.parts p from ts) own (ap is_decided e)
      by_phase x Active own e = tt
      by_phase x (ReadWait l) own e = tt
      by_phase x (Remote l) own e = tt
      by_phase x (Reply l b u gc) own e = tt
      by_phase x CertWait own e = tt
      by_phase x (Closing w) own e = tt
      by_phase x (Local lc) own e = tt
      by_phase x (Committed m gc) own e = tt
      by_phase x (Aborted m c) own e = tt

      by_own : (o : Option Own) → Returns.own_named here tx (starts v) ≡ o → OptRuled v (Returns.ack_own i from p ts o (starts v))
      by_own None e = tt
      by_own (Some x) e = by_phase x x.phase (named_owns here tx (starts v) x e) refl

  refuse_ruled : (from : NodeId) (tx : TxId) (p : PartId) (by : TxId) (k : KeyId) → OptRuled v (Returns.refuse_rule here from tx p by k (starts v))
  unfolding Returns.refuse_rule
  refuse_ruled from tx p by k = by_own (Returns.own_named here tx (starts v)) refl
    where
      i : ℕ
      i = tx.seq - 1

      by_master : (x : Own) (b : Bool) → Owns v i x → is_decided x.phase ≡ false → OptRuled v (if b then Some (aborted here i (ByConflict by k from) x (starts v)) else None)
      by_master x true own f = spent_rules v _ (abort_spent here i 112 32 (ByConflict by k from) x (starts v) own f (parts_few here ok exists v h i x own) (omega arith))
      by_master x false own f = tt

      by_phase : (x : Own) (q : Phase) → Owns v i x → x.phase ≡ q → OptRuled v (Returns.refuse_phase here i x from p by k q (starts v))
      by_phase x (Global lc) own e = by_master x (Returns.has_asked x.parts p && is_master here.scene from p) own (ap is_decided e)
      by_phase x Active own e = tt
      by_phase x (ReadWait l) own e = tt
      by_phase x (Remote l) own e = tt
      by_phase x (Reply l b u gc) own e = tt
      by_phase x CertWait own e = tt
      by_phase x (Closing w) own e = tt
      by_phase x (Local lc) own e = tt
      by_phase x (Committed m gc) own e = tt
      by_phase x (Aborted m c) own e = tt

      by_own : (o : Option Own) → Returns.own_named here tx (starts v) ≡ o → OptRuled v (Returns.refuse_own here i from p by k o (starts v))
      by_own None e = tt
      by_own (Some x) e = by_phase x x.phase (named_owns here tx (starts v) x e) refl

  -- ---- decisions that come

  dropped_fewer : (tx : TxId) (p : PartId) (ws : List Waiter) → length (drop_held tx p ws) ≤ length ws
  dropped_fewer tx p [] = omega arith
  dropped_fewer tx p (w ∷ ws) = by_test (holds_pair tx p w) (dropped_fewer tx p ws)
    where
      by_test : (b : Bool) → length (drop_held tx p ws) ≤ length ws → length (if b then ws else w ∷ drop_held tx p ws) ≤ length (w ∷ ws)
      by_test true r = omega arith
      by_test false r = omega (arith, r)

  commit_ruled : (tx : TxId) (p : PartId) (fc : ℕ) (ms : List KeyMark) → OptRuled v (if decides here tx p v then Some (commit_came tx p fc ms (starts v)) else None)
  unfolding commit_came
  commit_ruled tx p fc ms = by_test (decides here tx p v)
    where
      by_test : (b : Bool) → OptRuled v (if b then Some (commit_came tx p fc ms (starts v)) else None)
      by_test true = same_ruled 1 _ (omega arith) refl (omega arith) (omega arith)
      by_test false = tt

  abort_ruled : (tx : TxId) (p : PartId) → OptRuled v (if decides here tx p v then Some (abort_came tx p (drop_held tx p v.waiters) (starts v)) else None)
  unfolding abort_came
  abort_ruled tx p = by_test (decides here tx p v)
    where
      by_test : (b : Bool) → OptRuled v (if b then Some (abort_came tx p (drop_held tx p v.waiters) (starts v)) else None)
      by_test true = same_ruled 1 _ (omega arith) refl (omega arith) (let w = dropped_fewer tx p v.waiters in omega (arith, w))
      by_test false = tt

  -- ---- any input

  body_ruled : (from : NodeId) (b : Body) → BodyFits b → OptRuled v (body_rule here from b (starts v))
  body_ruled from (ReadReq tx k rs) f = read_req_ruled tx k rs.0
  body_ruled from (ReadReply tx k a by fc) f = reply_ruled tx k a by fc.0
  body_ruled from (Prepare tx p rs lc ws) f = prepare_ruled (record { tx = tx; part = p; rs = rs; lc = lc; writes = ws }) f
  body_ruled from (Refusal tx p by k) f = refuse_ruled from tx p by k
  body_ruled from (Replicate tx p rs lc ws) f = replicate_ruled (record { tx = tx; part = p; rs = rs; lc = lc; writes = ws }) f
  body_ruled from (Ack tx p ts) f = ack_ruled from tx p ts.0
  body_ruled from (Commit tx p fc ms) f = commit_ruled tx p fc.0 ms
  body_ruled from (Abort tx p) f = abort_ruled tx p

  pub ruled : (input : Input) → InputFits input → OptRuled v (rule here input (starts v))
  unfolding rule
  ruled (Client s t) f = client_ruled s t
  ruled (Deliver m) f = by_test (is_valid here m)
    where
      by_test : (b : Bool) → OptRuled v (if b then body_rule here m.sender m.body (starts v) else None)
      by_test true = body_ruled m.sender m.body f
      by_test false = tt
