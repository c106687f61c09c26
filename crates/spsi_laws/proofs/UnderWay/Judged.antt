-- What was given was judged: a Prepare is parked, stands or is done, a Replicate stands or is done, an Ack is kept, a Refuse aborts, a request waits or is answered, and a reply is taken.
use Rattle.std.proofs.Common.{Bool, List, None, Option, Some, [], ap, arith, eq-eqb, eqb-true, false, filter, if◌then◌else◌, inl, inr, is_some, length, lt-ltb, map, max, nat_lt, not, option_map, refl, slice_get, subst, subst₂, suc, sym, true, zero, ℕ, ◌&&◌, ◌+◌, ◌-◌, ◌<◌, ◌^◌, ◌||◌, ◌∙◌, ◌∷◌, ◌≡◌, ◌≢◌, ◌⊎◌}
use Rattle.std.specs.List.{list_any}
use Rattle.partition_map.specs.declared.rows.Asked.{Asked}
use Rattle.si_laws.proofs.Stages.AllLinksKept.{linked}
use Rattle.si_laws.proofs.Stages.LinkedStates.{Acknowledged, IsCertified, Told, one_of, one_place}
use Rattle.si_laws.proofs.Stages.PairsForward.{second-act, some_writes, third-act}
use Rattle.si_laws.proofs.Stages.ParticipantSeats.{seat_of, to_nth}
use Rattle.si_laws.proofs.Times.ProposalsFew.{few_proposals}
use Rattle.si_laws.proofs.Times.TimesBounded.{bounded_}
use Rattle.si_laws.specs.Numbers.{proposals}
use Rattle.spsi_laws.proofs.Rest.RestLimit.{ignore_is}
use Rattle.spsi_laws.proofs.Rest.RestStages.{staged}
use Rattle.spsi_laws.proofs.UnderWay.Acknowledged.{AnsweredBy, ack_new, ack_none, keeps_answered, keeps_decided}
use Rattle.spsi_laws.proofs.UnderWay.Followed.{AskedBy, Follows, Sends, followed}
use Rattle.spsi_laws.proofs.UnderWay.GivenAt.{Given, RuleLeaves, given_holds}
use Rattle.spsi_laws.proofs.UnderWay.NamedMessages.{Addressed}
use Rattle.spsi_laws.proofs.UnderWay.OneOwn.{OneHas, one-act}
use Rattle.spsi_laws.proofs.UnderWay.PastReads.{Past, Requested, keeps_past, past_reply}
use Rattle.spsi_laws.proofs.UnderWay.ReadsWaiting.{Replies, WaitsOrAnswered, after_reads, reads_wait}
use Rattle.spsi_laws.proofs.UnderWay.ValidMessages.{posted, sent_valid}
use Rattle.str_base.specs.Versions.{insert_all, of_pair, of_tx, same_key, same_node, same_part, same_tx, stamp}
use Rattle.str_base.specs.declared.names.KeyId.{KeyId}
use Rattle.str_base.specs.declared.names.NodeId.{NodeId}
use Rattle.str_base.specs.declared.names.PartId.{PartId}
use Rattle.str_base.specs.declared.names.Ts.{Ts}
use Rattle.str_base.specs.declared.names.TxId.{TxId}
use Rattle.str_base.specs.declared.names.Value.{Value}
use Rattle.str_base.specs.declared.names.Version.{Version}
use Rattle.str_base.specs.declared.names.Write.{Write}
use Rattle.str_model.proofs.Changes.PairWords.{Has, SomeWrites, any_has, same_pair, self_pair, some_step, valid_some}
use Rattle.str_model.proofs.Changes.SnapshotsGain.{if_elim}
use Rattle.str_model.proofs.Changes.VersionChanges.{wait_step}
use Rattle.str_model.proofs.Principle.Everywhere.{at_place, stage_of}
use Rattle.str_model.proofs.ViewFacts.TimesBelow.{BodyBelow, mark_below, newest_below, passed_below}
use Rattle.str_model.proofs.ViewFacts.ValidMessages.{valid_named}
use Rattle.str_model.proofs.ViewFacts.VersionsKept.{master_hosts}
use Rattle.str_model.specs.Acts.{aborted, accepted, acked, decided_as, in_phase, marked, pre_version, refused, replied, taken, waits}
use Rattle.str_model.specs.Arrivals
use Rattle.str_model.specs.NodeFacts.{MarksBelow, VersionsBelow}
use Rattle.str_model.specs.Owned.{Asks, IsView, Owns}
use Rattle.str_model.specs.Proposals.{Accept, Ignore, MasterTurn, Park, Refuse, holds_pair, is_known, is_pair, is_parked, master_turn, prepare_turn, proposed, takes, ts_limit}
use Rattle.str_model.specs.Returns
use Rattle.str_model.specs.Runs
use Rattle.str_model.specs.Runs.{World, give, run, run_from}
use Rattle.str_model.specs.Scripts
use Rattle.str_model.specs.Steps
use Rattle.str_model.specs.Steps.{rule, step}
use Rattle.str_model.specs.Strange.{has_named, is_valid}
use Rattle.str_model.specs.Turns.{Give, ServeTurn, ServeWait, passed, serve_turn}
use Rattle.str_model.specs.Views.{Aborted, Active, CertWait, Closing, Committed, Doing, Global, Local, Own, Phase, ReadWait, Remote, Reply, View, is_decided, lc_of, letter, name_of, put, starts}
use Rattle.str_model.specs.declared.messages.Arrived.{Arrived}
use Rattle.str_model.specs.declared.messages.Body.{Body}
use Rattle.str_model.specs.declared.messages.Body.TheVariants.{Abort, Ack, Commit, Prepare, ReadReply, ReadReq, Refuse as Refusal, Replicate}
use Rattle.str_model.specs.declared.messages.Input.TheVariants.{Deliver}
use Rattle.str_model.specs.declared.messages.Message.{Message}
use Rattle.str_model.specs.declared.messages.Waiter.{Waiter}
use Rattle.str_model.specs.declared.messages.Waiter.TheVariants.{Held, Read}
use Rattle.str_scene.specs.SceneLimits.{IsScene}
use Rattle.str_scene.specs.Scenes.{Here, Scene, hosts, hosts_key, in_part, is_master, nth, part_of}
use Rattle.str_scene.specs.declared.names.Event.{Event}
use Rattle.str_scene.specs.declared.names.Event.TheVariants.{Deliver as DeliverEvent}
use Rattle.std.proofs.lemmas.Bool.{and_from, false_from_ne_true, or_cases}
use Rattle.str_base.proofs.Members.{any_in, in_all_new, in_append, in_at, in_filter, in_right, in_without, map_in}
use Rattle.str_base.proofs.SameNames.{same_part-is, same_tx-is}
use Rattle.str_base.proofs.Tests.{and_true_left, and_true_right}
use Rattle.str_base.proofs.Lists.{get_set}
use Rattle.str_base.specs.Members.{In}
use Rattle.si_laws.proofs.Presence.DecisionsDone.{not_decides}

-- a Prepare of the pair was judged: the pair is done, or stands, or the Prepare is parked
abbrev pub HasJudged : TxId → PartId → View → Type 0
HasJudged tx p v = SomeWrites v × (Has (is_pair tx p) v.done ⊎ (Has (of_pair tx p) v.versions ⊎ Has (holds_pair tx p) v.waiters))

-- a Replicate of the pair was taken: the pair is done, or stands
abbrev pub HasTaken : TxId → PartId → View → Type 0
HasTaken tx p v = Has (is_pair tx p) v.done ⊎ Has (of_pair tx p) v.versions

-- ---- tests

last_of_four : (a b c d : Bool) → a ≡ true → b ≡ false → c ≡ false → (a && (not b && (not c && not d))) ≡ false → d ≡ true
last_of_four true false false true x y z e = refl
last_of_four true false false false x y z e = absurd (cc e)
last_of_four true false true d x y z e = absurd (cc z)
last_of_four true true c d x y z e = absurd (cc y)
last_of_four false b c d x y z e = absurd (cc x)

other_node : (n m : NodeId) → n.0 ≢ m.0 → same_node n m ≡ false
other_node n m f = false_from_ne_true (same_node n m) (λ q. f (eqb-true n.0 m.0 q))

-- ---- what the rule of a valid message is

module _ (here : Here) (m : Message) (v : View) (P : View → Type 0) where
  rule_is : is_valid here m ≡ true → rule here (Deliver m) (starts v) ≡ Steps.body_rule here m.sender m.body (starts v)
  unfolding rule
  rule_is e = rw e refl

  by_rule : is_valid here m ≡ true → (b : Body) → m.body ≡ b → RuleLeaves P v (Steps.body_rule here m.sender b (starts v)) → RuleLeaves P v (rule here (Deliver m) (starts v))
  by_rule e b q h = subst (RuleLeaves P v) (sym (rule_is e ∙ ap (λ (z : Body). Steps.body_rule here m.sender z (starts v)) q)) h

-- ---- a Prepare

known_cases : (v : View) (tx : TxId) (p : PartId) → is_known v tx p ≡ true → Has (is_pair tx p) v.done ⊎ Has (of_pair tx p) v.versions
known_cases v tx p e = elim (or_cases (list_any (is_pair tx p) v.done) (list_any (of_pair tx p) v.versions) e) [ inl q ↦ inl (any_has (is_pair tx p) v.done q) | inr q ↦ inr (any_has (of_pair tx p) v.versions q) ]

pre_stands : (a : Arrived) (ts : ℕ) (vs : List Version) → ((w : Write) × In w a.writes) → Has (of_pair a.tx a.part) (insert_all (map (pre_version a ts) a.writes) vs)
pre_stands a ts vs w =
    (pre_version a ts w.0, in_all_new (map (pre_version a ts) a.writes) vs (pre_version a ts w.0) (map_in (pre_version a ts) a.writes w.0 w.1), same_pair a.tx a.tx a.part a.part (record { node = refl; seq = refl; part = refl }))

module _ (here : Here) (v : View) (a : Arrived) (some : SomeWrites v) (wr : (w : Write) × In w a.writes) where
  accept_one : (ts : ℕ) → HasJudged a.tx a.part (accepted here a ts (starts v)).view
  unfolding accepted
  accept_one ts = (some, inr (inl (pre_stands a ts v.versions wr)))

  refuse_one : (by : TxId) (k : KeyId) → HasJudged a.tx a.part (refused here a by k (starts v)).view
  unfolding refused
  refuse_one by k = (some, inl ((a.tx, a.part), in_right v.done ((a.tx, a.part) ∷ []) (a.tx, a.part) (inl refl), self_pair a.tx a.part))

  park_one : HasJudged a.tx a.part (waits (Held a) (starts v)).view
  unfolding waits
  park_one = (
    λ b h. elim (in_append v.waiters (Held a ∷ []) (Held b) h) [
      | inl j ↦ some b j
      | inr j ↦ (elim j [ inl q ↦ (let same : a ≡ b = cc q in subst (λ (z : Arrived). (w : Write) × In w z.writes) same wr) | inr z ↦ absurd z ])
    ],
    inr (inr (Held a, in_right v.waiters (Held a ∷ []) (Held a) (inl refl), same_pair a.tx a.tx a.part a.part (record { node = refl; seq = refl; part = refl }))),
  )

  prepare_leaves : is_master here.scene here.node a.part ≡ true → same_node a.tx.node here.node ≡ false → nat_lt (proposed v a) ts_limit ≡ true → RuleLeaves (HasJudged a.tx a.part) v (Arrivals.prepare_rule here a (starts v))
  unfolding Arrivals.prepare_rule prepare_turn
  prepare_leaves ms f low =
      if_elim (λ t. RuleLeaves (HasJudged a.tx a.part) v (Arrivals.master_done here a t (starts v)))
      (is_master here.scene here.node a.part && (not (same_node a.tx.node here.node) && not (is_known v a.tx a.part || is_parked v a.tx a.part))) (master_turn v a) Ignore
      (λ t. by_turn (master_turn v a) refl)
      (λ t. (
        some,
        elim (or_cases (is_known v a.tx a.part) (is_parked v a.tx a.part) (not_decides (is_master here.scene here.node a.part) (same_node a.tx.node here.node) (is_known v a.tx a.part || is_parked v a.tx a.part) ms f t)) [
          | inl q ↦ (elim (known_cases v a.tx a.part q) [ inl z ↦ inl z | inr z ↦ inr (inl z) ])
          | inr q ↦ inr (inr (any_has (holds_pair a.tx a.part) v.waiters q))
        ],
      ))
    where
      by_turn : (t : MasterTurn) → master_turn v a ≡ t → RuleLeaves (HasJudged a.tx a.part) v (Arrivals.master_done here a t (starts v))
      by_turn (Accept ts) e = accept_one ts
      by_turn (Refuse by k) e = refuse_one by k
      by_turn (Park by) e = park_one
      by_turn Ignore e = absurd (cc (ignore_is v a e, low))

-- ---- a Replicate

abbrev TimesLow : ℕ → View → Type 0
TimesLow b v = MarksBelow b v.marks × VersionsBelow b v.versions

passed_low : (b : ℕ) (v : View) (ws : List Write) → 0 < b → TimesLow b v → passed v ws < b
passed_low b v [] l h = l
passed_low b v (w ∷ ws) l h =
    let m = mark_below b v.marks w.key l h.0 in
    let n = newest_below b v.versions w.key l h.1 in
    let r = passed_low b v ws l h in omega (arith, m, n, r)

module _ (here : Here) (b : ℕ) (a : Arrived) where
  abort_low : (i : ℕ) (cause : _) (x : Own) (d : Doing) → TimesLow b d.view → TimesLow b (aborted here i cause x d).view
  unfolding aborted
  abort_low i cause x d h = (h.0, λ q k. h.1 q (in_without (of_tx (name_of here i)) d.view.versions q k))

  evict_low : (n : ℕ) (d : Doing) → TimesLow b d.view → TimesLow b (Arrivals.evict here a n d).view
  evict_low zero d h = h
  evict_low (suc i) d h = by (slice_get (Arrivals.evict here a i d).view.own i) (evict_low i d h)
    where
      at : (x : Own) (o : Option Write) → TimesLow b (Arrivals.evict here a i d).view → TimesLow b (Arrivals.evict_at here a i x o (Arrivals.evict here a i d)).view
      at x None rec = rec
      at x (Some w) rec = abort_low i _ x (Arrivals.evict here a i d) rec

      by : (o : Option Own) → TimesLow b (Arrivals.evict here a i d).view → TimesLow b (Scripts.of_own (Arrivals.evict_own here a i) o (Arrivals.evict here a i d)).view
      by None rec = rec
      by (Some x) rec = by_phase (is_decided x.phase)
        where
          by_phase : (c : Bool) → TimesLow b (Scripts.unless_decided c (Arrivals.evict_own here a i x) (Arrivals.evict here a i d)).view
          by_phase true = rec
          by_phase false = at x (Arrivals.held_key (Arrivals.evict here a i d).view.versions (name_of here i) a.writes) rec

take_two : (here : Here) (a : Arrived) (ts : ℕ) (d : Doing) → ((w : Write) × In w a.writes) → HasTaken a.tx a.part (taken here a ts d).view
unfolding taken
take_two here a ts d wr = inr (pre_stands a ts d.view.versions wr)

replicate_leaves : (here : Here) (v : View) (a : Arrived) → ((w : Write) × In w a.writes) → hosts here.scene here.node a.part ≡ true → is_master here.scene here.node a.part ≡ false → same_node a.tx.node here.node ≡ false
    → nat_lt (proposed (Arrivals.evict here a (length v.own) (starts v)).view a) ts_limit ≡ true → RuleLeaves (HasTaken a.tx a.part) v (Arrivals.replicate_rule here a (starts v))
unfolding Arrivals.replicate_rule takes
replicate_leaves here v a wr hs ms f low =
    let e : Doing = Arrivals.evict here a (length v.own) (starts v) in
    if_elim (RuleLeaves (HasTaken a.tx a.part) v) (hosts here.scene here.node a.part && (not (is_master here.scene here.node a.part) && (not (same_node a.tx.node here.node) && not (is_known v a.tx a.part)))) (Arrivals.take_if here a e) None
    (λ t. if_elim (RuleLeaves (HasTaken a.tx a.part) v) (nat_lt (proposed e.view a) ts_limit) (Some (taken here a (proposed e.view a) e)) None (λ u. take_two here a (proposed e.view a) e wr) (λ u. absurd (cc (low, u))))
    (λ t. known_cases v a.tx a.part (last_of_four (hosts here.scene here.node a.part) (is_master here.scene here.node a.part) (same_node a.tx.node here.node) (is_known v a.tx a.part) hs ms f t))

-- ---- what comes back to a transaction

module _ (here : Here) (v : View) (i : ℕ) (x : Own) (own : Owns v i x) where
  named_is : Returns.own_named here (name_of here i) (starts v) ≡ Some x
  named_is = ap (λ (t : Bool). if t then nth v.own (i + 1) else None) (eq-eqb here.node.0 here.node.0 refl) ∙ to_nth v.own i x own

  place_is : i + 1 - 1 ≡ i
  place_is = omega arith

  module _ (p : PartId) (from : NodeId) (lc : ℕ) (l : lc_of x.phase ≡ Some lc) (b : Asked) (inb : In b x.parts) (part : b.part ≡ p) (node : b.node ≡ from) (asked_ : b.asked ≡ true)
      (local : (m : ℕ) → x.phase ≡ Local m → ⊥) where
    abbrev AckLeaves : Option Doing → Type 0
    AckLeaves o = RuleLeaves (OneHas (AnsweredBy p from) i) v o

    none_ : (c : Phase) → x.phase ≡ c → lc_of c ≡ None → AckLeaves None
    none_ c e q = absurd (cc (ap lc_of e, q, l))

    acked_ : (parts : List Asked) (m : ℕ) → x.phase ≡ Global m → ((b : Asked) × In b parts × (b.part ≡ p) × (b.node ≡ from) × (is_some b.ack ≡ true)) → AckLeaves (Some (acked i parts x (starts v)))
    unfolding acked
    acked_ parts m e h = (record x { parts = parts }, get_set v.own i x (record x { parts = parts }) own, inr ((m, ap lc_of e), h))

    kept_ : (ts m : ℕ) → x.phase ≡ Global m → (o : Option (List Asked)) → Returns.with_ack x.parts p from ts ≡ o → AckLeaves (Returns.ack_kept i x o (starts v))
    kept_ ts m e None q = (x, own, inr ((lc, l), (b, inb, part, node, ack_none x.parts p from ts b q inb part node asked_)))
    kept_ ts m e (Some parts) q = acked_ parts m e (ack_new x.parts parts p from ts q)

    ack_phase_leaves : (ts : ℕ) (c : Phase) → x.phase ≡ c → AckLeaves (Returns.ack_phase i x from p ts c (starts v))
    ack_phase_leaves ts (Global m) e = kept_ ts m e (Returns.with_ack x.parts p from ts) refl
    ack_phase_leaves ts (Local m) e = absurd (local m e)
    ack_phase_leaves ts (Committed a f) e = (x, own, inl (ap is_decided e))
    ack_phase_leaves ts (Aborted a f) e = (x, own, inl (ap is_decided e))
    ack_phase_leaves ts Active e = none_ Active e refl
    ack_phase_leaves ts (ReadWait k) e = none_ (ReadWait k) e refl
    ack_phase_leaves ts (Remote k) e = none_ (Remote k) e refl
    ack_phase_leaves ts (Reply k a by fc) e = none_ (Reply k a by fc) e refl
    ack_phase_leaves ts CertWait e = none_ CertWait e refl
    ack_phase_leaves ts (Closing w) e = none_ (Closing w) e refl

    pub ack_leaves : (ts : ℕ) → RuleLeaves (OneHas (AnsweredBy p from) i) v (Returns.ack_rule here from (name_of here i) p ts (starts v))
    unfolding Returns.ack_rule
    ack_leaves ts =
        subst (λ (o : Option Own). RuleLeaves (OneHas (AnsweredBy p from) i) v (Returns.ack_own (i + 1 - 1) from p ts o (starts v))) (sym named_is)
        (subst (λ (k : ℕ). RuleLeaves (OneHas (AnsweredBy p from) i) v (Returns.ack_phase k x from p ts x.phase (starts v))) (sym place_is) (ack_phase_leaves ts x.phase refl))

    -- ---- a Refuse

    abort_leaves : (cause : _) → OneHas (λ z. is_decided z.phase ≡ true) i (aborted here i cause x (starts v)).view
    unfolding aborted
    abort_leaves cause = (decided_as (Aborted (lc_of x.phase) cause) x, get_set v.own i x (decided_as (Aborted (lc_of x.phase) cause) x) own, refl)

    refuse_phase_leaves : is_master here.scene from p ≡ true → (by : TxId) (k : KeyId) (c : Phase) → x.phase ≡ c → RuleLeaves (OneHas (λ z. is_decided z.phase ≡ true) i) v (Returns.refuse_phase here i x from p by k c (starts v))
    refuse_phase_leaves ms by k (Global m) e =
        if_elim (RuleLeaves (OneHas (λ z. is_decided z.phase ≡ true) i) v) (Returns.has_asked x.parts p && is_master here.scene from p) (Some (aborted here i _ x (starts v))) None (λ t. abort_leaves _)
        (λ t. absurd (cc (
          t,
          and_from (Returns.has_asked x.parts p) (is_master here.scene from p)
              (any_in (λ (z : Asked). same_part z.part p && z.asked) x.parts b inb (and_from (same_part b.part p) b.asked (eq-eqb b.part.0 p.0 (ap (λ (z : PartId). z.0) part)) asked_)) ms,
        )))
    refuse_phase_leaves ms by k (Local m) e = absurd (local m e)
    refuse_phase_leaves ms by k (Committed a f) e = (x, own, ap is_decided e)
    refuse_phase_leaves ms by k (Aborted a f) e = (x, own, ap is_decided e)
    refuse_phase_leaves ms by k Active e = absurd (cc (ap lc_of e, l))
    refuse_phase_leaves ms by k (ReadWait j) e = absurd (cc (ap lc_of e, l))
    refuse_phase_leaves ms by k (Remote j) e = absurd (cc (ap lc_of e, l))
    refuse_phase_leaves ms by k (Reply j a u fc) e = absurd (cc (ap lc_of e, l))
    refuse_phase_leaves ms by k CertWait e = absurd (cc (ap lc_of e, l))
    refuse_phase_leaves ms by k (Closing w) e = absurd (cc (ap lc_of e, l))

    pub refuse_leaves : is_master here.scene from p ≡ true → (by : TxId) (k : KeyId) → RuleLeaves (OneHas (λ z. is_decided z.phase ≡ true) i) v (Returns.refuse_rule here from (name_of here i) p by k (starts v))
    unfolding Returns.refuse_rule
    refuse_leaves ms by k =
        subst (λ (o : Option Own). RuleLeaves (OneHas (λ z. is_decided z.phase ≡ true) i) v (Returns.refuse_own here (i + 1 - 1) from p by k o (starts v))) (sym named_is)
        (subst (λ (j : ℕ). RuleLeaves (OneHas (λ z. is_decided z.phase ≡ true) i) v (Returns.refuse_phase here j x from p by k x.phase (starts v))) (sym place_is) (refuse_phase_leaves ms by k x.phase refl))

  -- ---- a reply

  module _ (k : KeyId) (req : Requested x k) where
    none_reply : (c : Phase) → x.phase ≡ c → (c ≡ Remote k → ⊥) → OneHas (λ z. Past z k) i v
    none_reply c e f = (x, own, elim req [ inl q ↦ absurd (f (sym e ∙ q)) | inr q ↦ q ])

    reply_phase_leaves : (a : Value) (by : Option TxId) (fc : ℕ) (c : Phase) → x.phase ≡ c → RuleLeaves (OneHas (λ z. Past z k) i) v (Returns.reply_phase i x k a by fc c (starts v))
    reply_phase_leaves a by fc (Remote l) e =
        if_elim (RuleLeaves (OneHas (λ z. Past z k) i) v) (same_key l k) (Some (put i (in_phase (Reply k a by fc) x) (starts v))) None
        (λ t. (in_phase (Reply k a by fc) x, get_set v.own i x (in_phase (Reply k a by fc) x) own, past_reply a by fc refl))
        (λ t. none_reply (Remote l) e (λ q. let same : l ≡ k = cc q in cc (t, eq-eqb l.0 k.0 (ap (λ (z : KeyId). z.0) same))))
    reply_phase_leaves a by fc Active e = none_reply Active e (λ q. cc q)
    reply_phase_leaves a by fc (ReadWait l) e = none_reply (ReadWait l) e (λ q. cc q)
    reply_phase_leaves a by fc (Reply l b u gc) e = none_reply (Reply l b u gc) e (λ q. cc q)
    reply_phase_leaves a by fc CertWait e = none_reply CertWait e (λ q. cc q)
    reply_phase_leaves a by fc (Closing w) e = none_reply (Closing w) e (λ q. cc q)
    reply_phase_leaves a by fc (Local m) e = none_reply (Local m) e (λ q. cc q)
    reply_phase_leaves a by fc (Global m) e = none_reply (Global m) e (λ q. cc q)
    reply_phase_leaves a by fc (Committed m f) e = none_reply (Committed m f) e (λ q. cc q)
    reply_phase_leaves a by fc (Aborted m f) e = none_reply (Aborted m f) e (λ q. cc q)

    pub reply_leaves : (a : Value) (by : Option TxId) (fc : ℕ) → RuleLeaves (OneHas (λ z. Past z k) i) v (Returns.read_reply here (name_of here i) k a by fc (starts v))
    unfolding Returns.read_reply
    reply_leaves a by fc =
        subst (λ (o : Option Own). RuleLeaves (OneHas (λ z. Past z k) i) v (Returns.reply_own (i + 1 - 1) k a by fc o (starts v))) (sym named_is)
        (subst (λ (j : ℕ). RuleLeaves (OneHas (λ z. Past z k) i) v (Returns.reply_phase j x k a by fc x.phase (starts v))) (sym place_is) (reply_phase_leaves a by fc x.phase refl))

-- ---- a request

module _ (here : Here) (v : View) (tx : TxId) (k : KeyId) where
  -- the read waits, or its reply is sent
  abbrev ReadLeaves : Option Doing → Type 0
  ReadLeaves None = (rs : Ts) × In (Read tx k rs) v.waiters
  ReadLeaves (Some r) = ((rs : Ts) × In (Read tx k rs) r.view.waiters) ⊎ Sends r.sent (λ m. Replies tx k m.body)

  served : (rs : ℕ) (t : ServeTurn) → ReadLeaves (Some (Arrivals.serve_done here tx k rs t (marked k rs (starts v))))
  unfolding marked replied waits
  served rs (Give a by fc) = inr (letter here tx.node (ReadReply tx k a by (stamp fc)), inl refl, (refl, refl))
  served rs (ServeWait by) = inl (stamp rs, in_right v.waiters (Read tx k (stamp rs) ∷ []) (Read tx k (stamp rs)) (inl refl))

  is_waiting : (w : Waiter) → Arrivals.waits_read tx k w ≡ true → In w v.waiters → (rs : Ts) × In (Read tx k rs) v.waiters
  is_waiting (Read t l rs) e h =
      let a : t ≡ tx = same_tx-is t tx (and_true_left (same_tx t tx) (same_key l k) e) in
      let num : l.0 ≡ k.0 = eqb-true l.0 k.0 (and_true_right (same_tx t tx) (same_key l k) e) in
      let b : l ≡ k = (λ j. record { 0 = num j }) in
      (rs, subst₂ (λ (y : TxId) (z : KeyId). In (Read y z rs) v.waiters) a b h)
  is_waiting (Held a) e h = absurd (cc e)

  request_leaves : (rs : ℕ) → hosts_key here k ≡ true → same_node tx.node here.node ≡ false → ReadLeaves (Arrivals.read_req here tx k rs (starts v))
  unfolding Arrivals.read_req
  request_leaves rs hs f =
      if_elim ReadLeaves (hosts_key here k && (not (same_node tx.node here.node) && not (list_any (Arrivals.waits_read tx k) v.waiters)))
      (Some (Arrivals.serve_done here tx k rs (serve_turn v.versions k rs) (marked k rs (starts v)))) None (λ t. served rs (serve_turn v.versions k rs))
      (λ t. let w = any_has (Arrivals.waits_read tx k) v.waiters (not_decides (hosts_key here k) (same_node tx.node here.node) (list_any (Arrivals.waits_read tx k) v.waiters) hs f t) in is_waiting w.0 w.2 w.1)

-- ---- over every run

module _ (scene : Scene) (ok : IsScene scene) (es : List Event) (j n : ℕ) (m : Message) (g : Given scene es j m n) (to : m.receiver ≡ record { 0 = n + 1 }) where
  in_sent : In m (run scene g.early).sent
  in_sent = in_at (run scene g.early).sent j m g.sent

  valid_here : is_valid (at_place scene n) m ≡ true
  valid_here = subst (λ (r : NodeId). is_valid (record { scene = scene; node = r }) m ≡ true) to (sent_valid scene ok g.early m in_sent)

  named_here : (b : Body) → m.body ≡ b → has_named (at_place scene n) b ≡ true
  named_here b e = subst (λ (z : Body). has_named (at_place scene n) z ≡ true) e (valid_named (at_place scene n) m valid_here)

  addressed_here : (b : Body) → m.body ≡ b → Addressed scene m.sender (record { 0 = n + 1 }) b
  addressed_here b e = subst₂ (λ (r : NodeId) (z : Body). Addressed scene m.sender r z) to e ((posted scene ok g.early).each m in_sent).addressed

  -- times are below the limit
  bound : ℕ
  bound = 2 ^ 62 + proposals (run scene g.early)

  low_limit : (t lc : ℕ) → t < 2 ^ 62 + proposals (run scene g.early) → lc < 2 ^ 62 + proposals (run scene g.early) → max lc (1 + t) < ts_limit
  low_limit t lc a b = let few = few_proposals scene ok g.early in omega (arith, a, b, few)

  module _ (tx : TxId) (p : PartId) (rs lc : Ts) (ws : List Write) where
    pub prepare_judged : m.body ≡ Prepare tx p rs lc ws → (u : View) → IsView scene es n u → HasJudged tx p u
    prepare_judged e u is =
        let a : Arrived = record { tx = tx; part = p; rs = rs; lc = lc; writes = ws } in
        let ad = addressed_here (Prepare tx p rs lc ws) e in
        let wr = valid_some (at_place scene n) tx p rs lc ws (named_here (Prepare tx p rs lc ws) e) in
        let below = bounded_ scene g.early in
        let t = subst (λ (z : Body). BodyBelow (2 ^ 62 + proposals (run scene g.early)) z) e (below.sent m in_sent) in
        let pass = passed_below (2 ^ 62 + proposals (run scene g.early)) g.view ws (below.nodes n g.view g.there) in
        let low : nat_lt (proposed g.view a) ts_limit ≡ true = lt-ltb (proposed g.view a) ts_limit (low_limit (passed g.view ws) lc.0 pass t.1) in
        let some = some_writes scene ok g.early n g.view g.there in
        given_holds scene n (HasJudged tx p)
        (λ input w d f act k. (some_step (at_place scene n) input d f (wait_step (at_place scene n) input w d f act) k.0, third-act (at_place scene n) input w tx p ad.2 d f act k.0 k.1))
        es j m g
        (by_rule (at_place scene n) m g.view (HasJudged tx p) valid_here (Prepare tx p rs lc ws) e
        (prepare_leaves (at_place scene n) g.view a some wr ad.1 (other_node tx.node (record { 0 = n + 1 }) ad.2) low)) u is

    pub replicate_judged : m.body ≡ Replicate tx p rs lc ws → (u : View) → IsView scene es n u → HasTaken tx p u
    replicate_judged e u is =
        let a : Arrived = record { tx = tx; part = p; rs = rs; lc = lc; writes = ws } in
        let ad = addressed_here (Replicate tx p rs lc ws) e in
        let wr = valid_some (at_place scene n) tx p rs lc ws (named_here (Replicate tx p rs lc ws) e) in
        let below = bounded_ scene g.early in
        let t = subst (λ (z : Body). BodyBelow (2 ^ 62 + proposals (run scene g.early)) z) e (below.sent m in_sent) in
        let vb = below.nodes n g.view g.there in
        let ev : View = (Arrivals.evict (at_place scene n) a (length g.view.own) (starts g.view)).view in
        let tl = evict_low (at_place scene n) (2 ^ 62 + proposals (run scene g.early)) a (length g.view.own) (starts g.view) (vb.marks, vb.versions) in
        let pass = passed_low (2 ^ 62 + proposals (run scene g.early)) ev ws (omega arith) tl in
        let low : nat_lt (proposed ev a) ts_limit ≡ true = lt-ltb (proposed ev a) ts_limit (low_limit (passed ev ws) lc.0 pass t.1) in
        given_holds scene n (HasTaken tx p) (λ input w d f act k. second-act (at_place scene n) input w tx p ad.2 d f act k) es j m g
        (by_rule (at_place scene n) m g.view (HasTaken tx p) valid_here (Replicate tx p rs lc ws) e (replicate_leaves (at_place scene n) g.view a wr ad.0 ad.1 (other_node tx.node (record { 0 = n + 1 }) ad.2) low)) u is

  -- the transaction of a message that comes back
  record Behind (i : ℕ) (p : PartId) (from : NodeId) : Type 0 where
    x : Own
    own : Owns g.view i x
    lc : ℕ
    is_lc : lc_of x.phase ≡ Some lc
    seat : Asked
    inside : In seat x.parts
    part : seat.part ≡ p
    node : seat.node ≡ from
    asked_ : seat.asked ≡ true
    not_local : (m : ℕ) → x.phase ≡ Local m → ⊥

  certified_here : (i rs lc : ℕ) (ws : List Write) → IsCertified scene (stage_of (run scene g.early)) (name_of (at_place scene n) i) rs lc ws → (x : Own) × Owns g.view i x × (lc_of x.phase ≡ Some lc) × (x.writes ≡ ws)
  certified_here i rs lc ws c =
      let o = one_place scene n c.n i c.i c.name in
      let there : slice_get (run scene g.early).nodes n ≡ Some c.view = ap (λ (k : ℕ). slice_get (run scene g.early).nodes k) o.0 ∙ c.there in
      let view : c.view ≡ g.view = one_of c.view g.view (slice_get (run scene g.early).nodes n) there g.there in
      (c.x, subst₂ (λ (v : View) (k : ℕ). Owns v k c.x) view (sym o.1) c.own, c.lc_is, c.writes)

  behind : (i rs lc : ℕ) (all : List Write) (p : PartId) (from : NodeId) → IsCertified scene (stage_of (run scene g.early)) (name_of (at_place scene n) i) rs lc all → ((w : Write) × In w (filter (in_part scene p) all))
      → Sends (run scene g.early).sent (AskedBy (name_of (at_place scene n) i) p) → hosts scene from p ≡ true → n + 1 ≢ from.0 → Behind i p from
  behind i rs lc all p from c wr ask hs other =
      let x = certified_here i rs lc all c in
      let facts = (posted scene ok g.early).facts n g.view g.there in
      let f = in_filter (in_part scene p) all wr.0 wr.1 in
      let same : part_of scene wr.0.key ≡ p = same_part-is (part_of scene wr.0.key) p f.1 in
      let s = seat_of (at_place scene n) g.view.versions i lc x.0 (facts.homes i x.0 x.1) x.2 wr.0 (subst (In wr.0) (sym x.3) f.0) from (subst (λ (q : PartId). hosts scene from q ≡ true) (sym same) hs) (λ q. other (sym q)) in
      let part : s.0.part ≡ p = s.2 ∙ same in
      let fl : s.0.asked ≡ true = (staged scene g.early).flags ask.0 p n i g.view x.0 s.0 ask.1 ask.2.0 ask.2.1 g.there x.1 s.1 part in
      record {
        x = x.0;
        own = x.1;
        lc = lc;
        is_lc = x.2;
        seat = s.0;
        inside = s.1;
        part = part;
        node = s.3;
        asked_ = fl;
        not_local = λ k e. cc ((facts.asked i x.0 x.1).local k e s.0 s.1, fl);
      }

  follows_here : (b : Body) → m.body ≡ b → Follows (run scene g.early).sent b
  follows_here b e = subst (Follows (run scene g.early).sent) e ((followed scene ok g.early).each m in_sent)

  pub ack_judged : (i : ℕ) (p : PartId) (ts : Ts) → m.body ≡ Ack (name_of (at_place scene n) i) p ts → (u : View) → IsView scene es n u → OneHas (AnsweredBy p m.sender) i u
  ack_judged i p ts e u is =
      let tx : TxId = name_of (at_place scene n) i in
      let ad = addressed_here (Ack (name_of (at_place scene n) i) p ts) e in
      let told : Acknowledged scene (stage_of (run scene g.early)) m.sender (name_of (at_place scene n) i) p ts =
      subst (λ (z : Body). Told scene (stage_of (run scene g.early)) m.sender m.receiver z) e ((linked scene g.early).told m in_sent) in
      let b = behind i told.rs told.lc told.all p m.sender told.certified told.some (follows_here (Ack (name_of (at_place scene n) i) p ts) e) ad.1 ad.2 in
      given_holds scene n (OneHas (AnsweredBy p m.sender) i)
      (λ input w d f act k. one-act (at_place scene n) input (AnsweredBy p m.sender) w d f (keeps_answered (at_place scene n) input d p m.sender) act i k) es j m g
      (by_rule (at_place scene n) m g.view (OneHas (AnsweredBy p m.sender) i) valid_here (Ack (name_of (at_place scene n) i) p ts) e
      (ack_leaves (at_place scene n) g.view i b.x b.own p m.sender b.lc b.is_lc b.seat b.inside b.part b.node b.asked_ b.not_local ts.0)) u is

  pub refuse_judged : (i : ℕ) (p : PartId) (by : TxId) (k : KeyId) → m.body ≡ Refusal (name_of (at_place scene n) i) p by k → (u : View) → IsView scene es n u → OneHas (λ x. is_decided x.phase ≡ true) i u
  refuse_judged i p by k e u is =
      let ad = addressed_here (Refusal (name_of (at_place scene n) i) p by k) e in
      let ask = follows_here (Refusal (name_of (at_place scene n) i) p by k) e in
      let c = asks_some ask.0.sender ask.0.receiver ask.0.receiver ask.0.body ask.2.1 ((linked scene g.early).told ask.0 ask.1) (has_asks ask.0 ask.1) in
      let b = behind i c.0 c.1 c.2 p m.sender c.3 c.4 ask (master_hosts (record { scene = scene; node = m.sender }) p ad.1) ad.2 in
      given_holds scene n (OneHas (λ x. is_decided x.phase ≡ true) i)
      (λ input w d f act z. one-act (at_place scene n) input (λ x. is_decided x.phase ≡ true) w d f (keeps_decided (at_place scene n) input d p m.sender) act i z) es j m g
      (by_rule (at_place scene n) m g.view (OneHas (λ x. is_decided x.phase ≡ true) i) valid_here (Refusal (name_of (at_place scene n) i) p by k) e
      (refuse_leaves (at_place scene n) g.view i b.x b.own p m.sender b.lc b.is_lc b.seat b.inside b.part b.node b.asked_ b.not_local ad.1 by k)) u is
    where
      has_asks : (l : Message) → In l (run scene g.early).sent → has_named (record { scene = scene; node = l.receiver }) l.body ≡ true
      has_asks l h = valid_named (record { scene = scene; node = l.receiver }) l (sent_valid scene ok g.early l h)

      -- who asks is certified, and has written in the partition
      asks_some : (from to r : NodeId) (b : Body) → Asks (name_of (at_place scene n) i) p b → Told scene (stage_of (run scene g.early)) from to b → has_named (record { scene = scene; node = r }) b ≡ true
          → (rs : ℕ) × (lc : ℕ) × (all : List Write) × IsCertified scene (stage_of (run scene g.early)) (name_of (at_place scene n) i) rs lc all × ((w : Write) × In w (filter (in_part scene p) all))
      asks_some from to r (Prepare t q rs lc ws) a told h =
          let w = valid_some (record { scene = scene; node = r }) t q rs lc ws h in
          (rs.0, lc.0, told.0, subst (λ (z : TxId). IsCertified scene (stage_of (run scene g.early)) z rs.0 lc.0 told.0) a.0 told.1, (w.0, subst (λ (z : PartId). In w.0 (filter (in_part scene z) told.0)) a.1 (subst (In w.0) told.2 w.1)))
      asks_some from to r (Replicate t q rs lc ws) a told h =
          let w = valid_some (record { scene = scene; node = r }) t q rs lc ws h in
          (rs.0, lc.0, told.0, subst (λ (z : TxId). IsCertified scene (stage_of (run scene g.early)) z rs.0 lc.0 told.0) a.0 told.1, (w.0, subst (λ (z : PartId). In w.0 (filter (in_part scene z) told.0)) a.1 (subst (In w.0) told.2 w.1)))
      asks_some from to r (ReadReq t l rs) a told h = absurd a
      asks_some from to r (ReadReply t l v u fc) a told h = absurd a
      asks_some from to r (Refusal t q u l) a told h = absurd a
      asks_some from to r (Ack t q ts) a told h = absurd a
      asks_some from to r (Commit t q fc ms) a told h = absurd a
      asks_some from to r (Abort t q) a told h = absurd a

  pub reply_judged : (i : ℕ) (k : KeyId) (a : Value) (by : Option TxId) (fc : Ts) → m.body ≡ ReadReply (name_of (at_place scene n) i) k a by fc → (u : View) → IsView scene es n u → OneHas (λ x. Past x k) i u
  reply_judged i k a by fc e u is =
      let req = follows_here (ReadReply (name_of (at_place scene n) i) k a by fc) e in
      let b = (followed scene ok g.early).requested req.0 n i g.view k req.1 g.there req.2 in
      given_holds scene n (OneHas (λ x. Past x k) i) (λ input w d f act z. one-act (at_place scene n) input (λ x. Past x k) w d f (keeps_past (at_place scene n) input d k) act i z) es j m g
      (by_rule (at_place scene n) m g.view (OneHas (λ x. Past x k) i) valid_here (ReadReply (name_of (at_place scene n) i) k a by fc) e (reply_leaves (at_place scene n) g.view i b.0 b.1 k b.2 a by fc.0)) u is

  after_request : (tx : TxId) (k : KeyId) (o : Option Doing) → ReadLeaves (at_place scene n) g.view tx k o
      → WaitsOrAnswered n tx k (stage_of (Runs.stepped (DeliverEvent (j + 1)) n (give (j + 1) (run scene g.early)) (option_map (Steps.after_rule (at_place scene n)) o)))
  after_request tx k None h = record { view = g.view; there = g.there; fact = inl h }
  after_request tx k (Some r) h = record {
    view = (Steps.after_rule (at_place scene n) r).view;
    there = get_set (run scene g.early).nodes n g.view (Steps.after_rule (at_place scene n) r).view g.there;
    fact = elim (after_reads (at_place scene n) (Deliver m) r tx k h) [
      | inl z ↦ inl z
      | inr z ↦ inr (z.0, in_right (run scene g.early).sent (Steps.after_rule (at_place scene n) r).sent z.0 z.1, z.2)
    ];
  }

  pub request_judged : (tx : TxId) (k : KeyId) (rs : Ts) → m.body ≡ ReadReq tx k rs → hosts_key (at_place scene n) k ≡ true → tx.node.0 ≢ n + 1 → WaitsOrAnswered n tx k (stage_of (run scene es))
  unfolding step
  request_judged tx k rs e hs other =
      let is : rule (at_place scene n) (Deliver m) (starts g.view) ≡ Arrivals.read_req (at_place scene n) tx k rs.0 (starts g.view) =
      rule_is (at_place scene n) m g.view (λ z. Unit {0}) valid_here ∙ ap (λ (z : Body). Steps.body_rule (at_place scene n) m.sender z (starts g.view)) e in
      let leaves : ReadLeaves (at_place scene n) g.view tx k (rule (at_place scene n) (Deliver m) (starts g.view)) =
      subst (ReadLeaves (at_place scene n) g.view tx k) (sym is) (request_leaves (at_place scene n) g.view tx k rs.0 hs (other_node tx.node (record { 0 = n + 1 }) other)) in
      let first = after_request tx k (rule (at_place scene n) (Deliver m) (starts g.view)) leaves in
      subst (λ (w : World). WaitsOrAnswered n tx k (stage_of w)) (sym g.final_)
      (reads_wait scene n tx k (Runs.stepped (DeliverEvent (j + 1)) n (give (j + 1) (run scene g.early)) (option_map (Steps.after_rule (at_place scene n)) (rule (at_place scene n) (Deliver m) (starts g.view)))) g.late first)
