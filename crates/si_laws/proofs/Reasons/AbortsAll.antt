-- How a transaction aborts between two moments that follow one another: the messages, and all links.
use Rattle.std.proofs.Common.{Bool, List, None, Option, Some, ap, false, if◌then◌else◌, inl, inr, length, refl, slice_get, subst, suc, sym, true, ℕ, ◌&&◌, ◌-◌, ◌∙◌, ◌≡◌, ◌≢◌}
use Rattle.str_base.specs.declared.names.Cause.{Cause}
use Rattle.str_base.specs.declared.names.Cause.TheVariants.{Conflict as ByConflict}
use Rattle.str_base.specs.declared.names.KeyId.{KeyId}
use Rattle.str_base.specs.declared.names.NodeId.{NodeId}
use Rattle.str_base.specs.declared.names.PartId.{PartId}
use Rattle.str_base.specs.declared.names.Ts.{Ts}
use Rattle.partition_map.specs.declared.rows.Asked.{Asked}
use Rattle.str_base.specs.declared.names.TxId.{TxId}
use Rattle.str_base.specs.declared.names.Value.{Value}
use Rattle.str_base.specs.declared.names.Write.{Write}
use Rattle.str_base.specs.Versions.{same_key}
use Rattle.str_scene.specs.Scenes.{Here, is_master}
use Rattle.str_model.specs.declared.messages.Arrived.{Arrived}
use Rattle.str_model.specs.declared.messages.Body.{Body}
use Rattle.str_model.specs.declared.messages.Body.TheVariants.{Abort, Ack, Commit, Prepare, ReadReply, ReadReq, Refuse as Refusal, Replicate}
use Rattle.str_model.specs.declared.messages.Input.{Input}
use Rattle.str_model.specs.declared.messages.Input.TheVariants.{Client, Deliver}
use Rattle.str_model.specs.declared.messages.Message.{Message}
use Rattle.str_model.specs.Acts.{abort_came, aborted, acked, commit_came, in_phase, taken}
use Rattle.str_model.specs.Arrivals
use Rattle.str_model.specs.Arrivals.{evict}
use Rattle.str_model.specs.Moments.{input_moments}
use Rattle.str_model.specs.Moments
use Rattle.str_model.specs.Owned.{Owns}
use Rattle.str_model.specs.Pass.{half_turn, pass_to, turn}
use Rattle.str_model.specs.Proposals.{prepare_turn}
use Rattle.str_model.specs.Returns
use Rattle.str_model.specs.Returns.{has_asked, own_named}
use Rattle.str_model.specs.Scripts
use Rattle.str_model.specs.Scripts.{known, own_op}
use Rattle.str_model.specs.Steps
use Rattle.str_model.specs.Steps.{decides, drop_held, rule}
use Rattle.str_model.specs.Strange.{is_valid}
use Rattle.str_model.specs.Views.{Aborted, Doing, Global, Own, Phase, Remote, Reply, is_decided, name_of, put}
use Rattle.str_model.proofs.Principle.SingleChanges.{Comes, InTurn, InWait}
use Rattle.str_model.proofs.Principle.StepPaths.{close-path, half_turn-path, waiter_turn-waited}
use Rattle.str_model.proofs.Principle.NextMoments.{Link, evict_linked_to, l_close, l_evict, l_half, l_rule, l_wait, last_of, valid}
use Rattle.str_model.proofs.Principle.MomentPaths.{take_is}
use Rattle.si_laws.proofs.Reasons.AbortChanges.{AbortedBy, ab_refused, aborted_cause, evict_by, half_by, turn_by}
use Rattle.si_laws.proofs.Reasons.AbortLinks.{Case, client_case, kept_case, left_alone, same_case, set_case}
use Rattle.si_laws.proofs.Reasons.QuietRules.{by_if, master_quiet, read_req_quiet}
use Rattle.str_model.proofs.Principle.RulePaths.{named_owns}
use Rattle.str_base.proofs.Lists.{get_set_other}
use Rattle.std.proofs.lemmas.Bool.{and_parts, cases_eq}

-- an abort leaves the others
aborted_other : (here : Here) (i p : ℕ) (cause : Cause) (z : Own) (d : Doing) → p ≢ i → slice_get (aborted here i cause z d).view.own p ≡ slice_get d.view.own p
unfolding aborted
aborted_other here i p cause z d n = get_set_other d.view.own i p _ n

evict_other : (here : Here) (a : Arrived) (i p : ℕ) (d : Doing) → p ≢ i → slice_get (Scripts.at_own i (Arrivals.evict_own here a i) d).view.own p ≡ slice_get d.view.own p
evict_other here a i p d n = by_own (slice_get d.view.own i)
  where
    by_key : (z : Own) (o : Option Write) → slice_get (Arrivals.evict_at here a i z o d).view.own p ≡ slice_get d.view.own p
    by_key z None = refl
    by_key z (Some w) = aborted_other here i p (ByConflict a.tx w.key here.node) z d n

    by_decided : (z : Own) (b : Bool) → slice_get (Scripts.unless_decided b (Arrivals.evict_own here a i z) d).view.own p ≡ slice_get d.view.own p
    by_decided z true = refl
    by_decided z false = by_key z (Arrivals.held_key d.view.versions (name_of here i) a.writes)

    by_own : (o : Option Own) → slice_get (Scripts.of_own (Arrivals.evict_own here a i) o d).view.own p ≡ slice_get d.view.own p
    by_own None = refl
    by_own (Some z) = by_decided z (is_decided z.phase)

module _ (here : Here) (input : Input) (p : ℕ) where
  module _ (d : Doing) (x : Own) (lc : Option ℕ) (cause : Cause) (y : Own) (own : Owns d.view p x) (op : is_decided x.phase ≡ false) where
    reply_case : (tx : TxId) (k : KeyId) (a : Value) (by : Option TxId) (fc : ℕ) (r : Doing) → Returns.read_reply here tx k a by fc d ≡ Some r → Case here input p d x lc cause y r
    unfolding Returns.read_reply
    reply_case tx k a by fc r e = by_own (own_named here tx d) refl e
      where
        i : ℕ
        i = tx.seq - 1

        by_phase : (z : Own) (ph : Phase) → own_named here tx d ≡ Some z → z.phase ≡ ph → Returns.reply_phase (tx.seq - 1) z k a by fc ph d ≡ Some r → Case here input p d x lc cause y r
        by_phase z (Remote l) n f q =
            let s = by_if (same_key l k) (Some (put (tx.seq - 1) (in_phase (Reply k a by fc) z) d)) r q in
            set_case here input p d x lc cause y own op (tx.seq - 1) z (in_phase (Reply k a by fc) z) r (named_owns here tx d z n) refl (cc s.1)
        by_phase z _ n f q = absurd (cc q)

        by_own : (o : Option Own) → own_named here tx d ≡ o → Returns.reply_own (tx.seq - 1) k a by fc o d ≡ Some r → Case here input p d x lc cause y r
        by_own None n q = absurd (cc q)
        by_own (Some z) n q = by_phase z z.phase n refl q

    ack_case : (from : NodeId) (tx : TxId) (q : PartId) (ts : ℕ) (r : Doing) → Returns.ack_rule here from tx q ts d ≡ Some r → Case here input p d x lc cause y r
    unfolding Returns.ack_rule acked
    ack_case from tx q ts r e = by_own (own_named here tx d) refl e
      where
        by_kept : (z : Own) (l : ℕ) (o : Option (List Asked)) → own_named here tx d ≡ Some z → z.phase ≡ Global l → Returns.ack_kept (tx.seq - 1) z o d ≡ Some r → Case here input p d x lc cause y r
        by_kept z l None n f g = absurd (cc g)
        by_kept z l (Some parts) n f g = set_case here input p d x lc cause y own op (tx.seq - 1) z (record z { parts = parts }) r (named_owns here tx d z n) (ap is_decided f) (cc g)

        by_phase : (z : Own) (ph : Phase) → own_named here tx d ≡ Some z → z.phase ≡ ph → Returns.ack_phase (tx.seq - 1) z from q ts ph d ≡ Some r → Case here input p d x lc cause y r
        by_phase z (Global l) n f g = by_kept z l (Returns.with_ack z.parts q from ts) n f g
        by_phase z _ n f g = absurd (cc g)

        by_own : (o : Option Own) → own_named here tx d ≡ o → Returns.ack_own (tx.seq - 1) from q ts o d ≡ Some r → Case here input p d x lc cause y r
        by_own None n g = absurd (cc g)
        by_own (Some z) n g = by_phase z z.phase n refl g

    refuse_case : (from : NodeId) (tx : TxId) (q : PartId) (u : TxId) (k : KeyId) (r : Doing) → Comes here input from (Refusal tx q u k) → Returns.refuse_rule here from tx q u k d ≡ Some r → Case here input p d x lc cause y r
    unfolding Returns.refuse_rule
    refuse_case from tx q u k r c e = by_own (own_named here tx d) refl e
      where
        by_phase : (z : Own) (ph : Phase) → own_named here tx d ≡ Some z → z.phase ≡ ph → Returns.refuse_phase here (tx.seq - 1) z from q u k ph d ≡ Some r → Case here input p d x lc cause y r
        by_phase z (Global l) n f g o a =
            let s = by_if (has_asked z.parts q && is_master here.scene from q) (Some (aborted here (tx.seq - 1) (ByConflict u k from) z d)) r g in
            let is : aborted here (tx.seq - 1) (ByConflict u k from) z d ≡ r = cc s.1 in
            let t = and_parts (has_asked z.parts q) (is_master here.scene from q) s.0 in
            elim (cases_eq p (tx.seq - 1)) [
              | inl w ↦ (let at : Some z ≡ Some x = sym (named_owns here tx d z n) ∙ (ap (λ b. slice_get d.view.own b) (sym w) ∙ own) in
                  let zx : z ≡ x = cc at in
                  let run : Owns (aborted here p (ByConflict u k from) x d).view p y =
                  subst (λ b. Owns (aborted here b (ByConflict u k from) x d).view p y) (sym w)
                  (subst (λ (v : Own). Owns (aborted here (tx.seq - 1) (ByConflict u k from) v d).view p y) zx (subst (λ (v : Doing). Owns v.view p y) (sym is) o)) in
                  ab_refused from tx q u k c (n ∙ ap Some zx) w (subst (λ (v : Own). has_asked v.parts q ≡ true) zx t.0) t.1 (aborted_cause here input p (ByConflict u k from) cause lc x y d own run a))
              | inr w ↦ kept_case here input p d x lc cause y own op r (ap (λ (v : Doing). slice_get v.view.own p) (sym is) ∙ aborted_other here (tx.seq - 1) p (ByConflict u k from) z d w) o a
            ]
        by_phase z _ n f g o a = absurd (cc g)

        by_own : (o : Option Own) → own_named here tx d ≡ o → Returns.refuse_own here (tx.seq - 1) from q u k o d ≡ Some r → Case here input p d x lc cause y r
        by_own None n g = absurd (cc g)
        by_own (Some z) n g = by_phase z z.phase n refl g

    -- the rule of a message that is not a Replicate
    body_case : (m : Message) (b : Body) (r : Doing) → input ≡ Deliver m → m.body ≡ b → is_valid here m ≡ true → ((tx : TxId) (q : PartId) (rs lc : Ts) (ws : List Write) → b ≡ Replicate tx q rs lc ws → ⊥)
        → Steps.body_rule here m.sender b d ≡ Some r → Case here input p d x lc cause y r
    unfolding Arrivals.prepare_rule commit_came abort_came
    body_case m (ReadReq tx k rs) r i f v n e = same_case here input p d x lc cause y own op r (read_req_quiet here tx k rs.0 d r e).own
    body_case m (ReadReply tx k a by fc) r i f v n e = reply_case tx k a by fc.0 r e
    body_case m (Prepare tx q rs l ws) r i f v n e =
        let a : Arrived = record { tx = tx; part = q; rs = rs; lc = l; writes = ws } in
        same_case here input p d x lc cause y own op r (master_quiet here a (prepare_turn here d.view a) d r e).own
    body_case m (Refusal tx q u k) r i f v n e = refuse_case m.sender tx q u k r (m, i, refl, f, v) e
    body_case m (Replicate tx q rs l ws) r i f v n e = absurd (n tx q rs l ws refl)
    body_case m (Ack tx q ts) r i f v n e = ack_case m.sender tx q ts.0 r e
    body_case m (Commit tx q fc ms) r i f v n e =
        let s = by_if (decides here tx q d.view) (Some (commit_came tx q fc.0 ms d)) r e in
        let is : commit_came tx q fc.0 ms d ≡ r = cc s.1 in same_case here input p d x lc cause y own op r (ap (λ (z : Doing). z.view.own) (sym is))
    body_case m (Abort tx q) r i f v n e =
        let s = by_if (decides here tx q d.view) (Some (abort_came tx q (drop_held tx q d.view.waiters) d)) r e in
        let is : abort_came tx q (drop_held tx q d.view.waiters) d ≡ r = cc s.1 in same_case here input p d x lc cause y own op r (ap (λ (z : Doing). z.view.own) (sym is))

  -- the rule of an input, from the last eviction on
  rule_case : (i : Input) (start r : Doing) (x : Own) (lc : Option ℕ) (cause : Cause) (y : Own) → input ≡ i → rule here i start ≡ Some r → Owns (last_of start (input_moments here i start)).view p x → is_decided x.phase ≡ false
      → Case here input p (last_of start (input_moments here i start)) x lc cause y r
  unfolding rule taken
  rule_case (Client s t) start r x lc cause y e q own op = client_case here input p start x lc cause y own op s t r e q
  rule_case (Deliver m) start r x lc cause y e q own op = by_body m.body refl own
    where
      valid_m : is_valid here m ≡ true
      valid_m = valid here (Deliver m) start r q m refl

      run : Steps.body_rule here m.sender m.body start ≡ Some r
      run = by_test (is_valid here m) q
        where
          by_test : (b : Bool) → (if b then Steps.body_rule here m.sender m.body start else None) ≡ Some r → Steps.body_rule here m.sender m.body start ≡ Some r
          by_test true f = f
          by_test false f = absurd (cc f)

      run_at : (b : Body) → m.body ≡ b → Steps.body_rule here m.sender b start ≡ Some r
      run_at b f = ap (λ c. Steps.body_rule here m.sender c start) (sym f) ∙ run

      by_body : (b : Body) → m.body ≡ b → Owns (last_of start (Moments.body_moments here b start)).view p x → Case here input p (last_of start (Moments.body_moments here b start)) x lc cause y r
      by_body (Replicate tx part rs l ws) f o =
          let a : Arrived = record { tx = tx; part = part; rs = rs; lc = l; writes = ws } in
          let c : Comes here input m.sender (Replicate a.tx a.part a.rs a.lc a.writes) = (m, e, refl, f, valid_m) in
          let k = take_is here a start r (run_at (Replicate tx part rs l ws) f) in
          let x' : Doing = evict here a (length start.view.own) start in
          let at = evict_linked_to here input start m.sender a c (length start.view.own) in
          same_case here input p (last_of start (Moments.body_moments here (Replicate tx part rs l ws) start)) x lc cause y o op r (ap (λ (z : Doing). z.view.own) (sym k.2) ∙ ap (λ (z : Doing). z.view.own) (sym at))
      by_body (ReadReq tx k rs) f o = body_case start x lc cause y o op m (ReadReq tx k rs) r e f valid_m (λ a b c g h i. cc i) (run_at (ReadReq tx k rs) f)
      by_body (ReadReply tx k a by fc) f o = body_case start x lc cause y o op m (ReadReply tx k a by fc) r e f valid_m (λ a b c g h i. cc i) (run_at (ReadReply tx k a by fc) f)
      by_body (Prepare tx part rs l ws) f o = body_case start x lc cause y o op m (Prepare tx part rs l ws) r e f valid_m (λ a b c g h i. cc i) (run_at (Prepare tx part rs l ws) f)
      by_body (Refusal tx part u k) f o = body_case start x lc cause y o op m (Refusal tx part u k) r e f valid_m (λ a b c g h i. cc i) (run_at (Refusal tx part u k) f)
      by_body (Ack tx part ts) f o = body_case start x lc cause y o op m (Ack tx part ts) r e f valid_m (λ a b c g h i. cc i) (run_at (Ack tx part ts) f)
      by_body (Commit tx part fc ms) f o = body_case start x lc cause y o op m (Commit tx part fc ms) r e f valid_m (λ a b c g h i. cc i) (run_at (Commit tx part fc ms) f)
      by_body (Abort tx part) f o = body_case start x lc cause y o op m (Abort tx part) r e f valid_m (λ a b c g h i. cc i) (run_at (Abort tx part) f)

  -- between two moments that follow one another
  pub link_by : (start d e : Doing) (x : Own) (lc : Option ℕ) (cause : Cause) (y : Own) → Link here input start d e → Owns d.view p x → is_decided x.phase ≡ false → Owns e.view p y → y.phase ≡ Aborted lc cause → AbortedBy here input d p x cause
  link_by start d e x lc cause y (l_evict from a i c) own op o f =
      elim (cases_eq p i) [
        | inl s ↦ (let n : p ≡ i = s in
            subst (λ k. AbortedBy here input (evict here a k start) p x cause) s
            (evict_by here input p from a (evict here a p start) x lc cause y c (subst (λ k. Owns (evict here a k start).view p x) (sym s) own) op
            (subst (λ k. Owns (Scripts.at_own k (Arrivals.evict_own here a k) (evict here a k start)).view p y) (sym s) o) f))
        | inr s ↦ kept_case here input p (evict here a i start) x lc cause y own op (evict here a (suc i) start) (evict_other here a i p (evict here a i start) s) o f
      ]
  link_by start d e x lc cause y (l_rule r q) own op o f = rule_case input start r x lc cause y refl q own op o f
  link_by start d e x lc cause y (l_half i r) own op o f =
      elim (cases_eq p i) [
        | inl s ↦ (let q : half_turn here i (pass_to here i r) ≡ half_turn here p (pass_to here i r) = ap (λ k. half_turn here k (pass_to here i r)) (sym s) in
            half_by here input p (pass_to here i r) x lc cause y own op (subst (λ (z : Doing). Owns z.view p y) q o) f)
        | inr s ↦ kept_case here input p (pass_to here i r) x lc cause y own op (half_turn here i (pass_to here i r))
            (left_alone here input p (InTurn i) (pass_to here i r) (half_turn here i (pass_to here i r)) (λ z. cc z) (λ z. s z) (half_turn-path here input (InTurn i) i (pass_to here i r) refl)) o f
      ]
  link_by start d e x lc cause y (l_close i r) own op o f =
      elim (cases_eq p i) [
        | inl s ↦ (let q : turn here i (pass_to here i r) ≡ turn here p (pass_to here i r) = ap (λ k. turn here k (pass_to here i r)) (sym s) in
            turn_by here input p (pass_to here i r) (half_turn here i (pass_to here i r)) x lc cause y (ap (λ k. half_turn here k (pass_to here i r)) s) own op (subst (λ (z : Doing). Owns z.view p y) q o) f)
        | inr s ↦ kept_case here input p (half_turn here i (pass_to here i r)) x lc cause y own op (turn here i (pass_to here i r))
            (left_alone here input p (InTurn i) (half_turn here i (pass_to here i r)) (turn here i (pass_to here i r)) (λ z. cc z) (λ z. s z) (close-path here input (InTurn i) i (pass_to here i r) refl)) o f
      ]
  link_by start d e x lc cause y (l_wait kept rest w d' q) own op o f =
      kept_case here input p d x lc cause y own op e (left_alone here input p InWait d e (λ z. cc z) (λ z. z) (waiter_turn-waited here input InWait kept rest w d q).path) o f
