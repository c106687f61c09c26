-- A whole step keeps twins, and is idle alike.
use Rattle.std.proofs.Common.{Bool, List, None, Option, Some, [], ap, false, if◌then◌else◌, inl, inr, length, nat_lt, not, option_map, refl, slice_get, subst, suc, sym, true, zero, ℕ, ◌&&◌, ◌∙◌, ◌∷◌, ◌≡◌, ◌≤◌, ◌||◌, ◌⊎◌}
use Rattle.str_base.specs.declared.names.KeyId.{KeyId}
use Rattle.str_base.specs.declared.names.NodeId.{NodeId}
use Rattle.str_base.specs.declared.names.TxId.{TxId}
use Rattle.str_base.specs.declared.names.Write.{Write}
use Rattle.str_base.specs.Versions.{same_node}
use Rattle.str_scene.specs.Scenes.{Here, hosts, is_master}
use Rattle.str_model.specs.declared.messages.Arrived.{Arrived}
use Rattle.str_model.specs.declared.messages.Body.{Body}
use Rattle.str_model.specs.declared.messages.Body.TheVariants.{Abort, Ack, Commit, Prepare, ReadReply, ReadReq, Refuse as Refusal, Replicate}
use Rattle.str_model.specs.declared.messages.Input.{Input}
use Rattle.str_model.specs.declared.messages.Input.TheVariants.{Client, Deliver}
use Rattle.str_model.specs.declared.messages.Waiter.{Waiter}
use Rattle.str_model.specs.declared.messages.Waiter.TheVariants.{Held}
use Rattle.str_model.specs.Acts.{refused}
use Rattle.str_model.specs.Arrivals
use Rattle.str_model.specs.Proposals.{Accept, Ignore, MasterTurn, Park, Refuse, is_known, is_parked, master_turn, prepare_turn, proposed, takes, ts_limit}
use Rattle.str_model.specs.Pruning.{pruned}
use Rattle.str_model.specs.Steps
use Rattle.str_model.specs.Strange.{is_valid}
use Rattle.str_model.specs.Views.{Doing, Own, View, letter, name_of, starts}
use Rattle.str_model.proofs.Principle.SingleChanges.{Act, Comes, InRule, Path, Where, along}
use Rattle.str_model.proofs.Pruning.PruneMaster.{TurnAlike, held_pruned, proposed_pruned, t_refuse, t_same}
use Rattle.str_model.proofs.Pruning.PruneOrder.{InOrder}
use Rattle.str_model.proofs.Principle.RulePaths.{evict-path, rule-path}
use Rattle.str_model.proofs.Pruning.TwinChoices.{twin_at_own}
use Rattle.str_model.proofs.Pruning.TwinRules.{BothTo, IsOpen, IsReady, known_same, twin_abort_rule, twin_ack, twin_client, twin_commit_rule, twin_read_reply, twin_read_req, twin_refuse}
use Rattle.str_model.proofs.Pruning.Twins.{Twin, alike_append, alike_self, twin_aborted, twin_accepted, twin_refused, twin_taken, twin_waits}
use Rattle.str_model.proofs.Pruning.TwinTurns.{Far, Ready, masters_alike, masters_same, twin_after}
use Rattle.str_base.specs.Members.{In}
use Rattle.std.proofs.lemmas.Bool.{and_parts, not-true}

-- what comes with a snapshot of another node's transaction
abbrev pub BodyFar : ℕ → (TxId → Type 0) → Here → Body → Type 0
BodyFar g Dec here (ReadReq tx k rs) = same_node tx.node here.node ≡ false → Dec tx ⊎ (g ≤ rs.0)
BodyFar g Dec here (Prepare tx p rs lc ws) = same_node tx.node here.node ≡ false → Dec tx ⊎ (g ≤ rs.0)
BodyFar g Dec here _ = Unit {0}

abbrev pub InputFar : ℕ → (TxId → Type 0) → Here → Input → Type 0
InputFar g Dec here (Client s t) = Unit {0}
InputFar g Dec here (Deliver m) = BodyFar g Dec here m.body

module _ (g : ℕ) (Dec : TxId → Type 0) (here : Here) (input : Input) (Good : Doing → Type 0)
    (keeps : (w : Where) (d e : Doing) → Act here input w d e → Good d → Good e)
    (ready : (d : Doing) → Good d → IsReady g Dec here d)
    (ordered : (d : Doing) → Good d → InOrder d.view.versions)
    (far : (d : Doing) → Good d → (w : Waiter) → In w d.view.waiters → Far g Dec w)
    (opens : (d : Doing) → Good d → IsOpen g Dec here d) where
  abbrev Both : Doing → Doing → Type 0
  Both d e = Twin g Dec d e

  abbrev Ends : Option Doing → Option Doing → Type 0
  Ends o p = BothTo g Dec here o p

  -- ---- a Prepare

  same_done : (a : Arrived) (m : MasterTurn) (d e : Doing) → InOrder d.view.versions → InOrder e.view.versions → Both d e → Ends (Arrivals.master_done here a m d) (Arrivals.master_done here a m e)
  unfolding refused
  same_done a (Accept ts) d e o p t = twin_accepted g Dec here a ts d e o p t
  same_done a (Refuse by k) d e o p t =
      record {
        view = ap (λ (v : View). Rattle.str_model.specs.Acts.with_done a.tx a.part v) t.view;
        sent = alike_append Dec d.sent e.sent _ _ t.sent (alike_self Dec (letter here a.tx.node (Refusal a.tx a.part by k) ∷ []));
        released = t.released;
      }
  same_done a (Park by) d e o p t = twin_waits g Dec (Held a) d e t
  same_done a Ignore d e o p t = tt

  alike_done : (a : Arrived) (m n : MasterTurn) (d e : Doing) → Dec a.tx → TurnAlike m n → InOrder d.view.versions → InOrder e.view.versions → Both d e
      → Ends (Arrivals.master_done here a m d) (Arrivals.master_done here a n e)
  alike_done a m n d e c (t_same u v q) o p t = subst (λ (z : MasterTurn). Ends (Arrivals.master_done here a m d) (Arrivals.master_done here a z e)) q (same_done a m d e o p t)
  alike_done a m n d e c (t_refuse by to k l q) o p t =
      subst (λ (z : KeyId). Both (refused here a by k d) (refused here a to z e)) q (twin_refused g Dec here a by to k d e c t)

  judged : (a : Arrived) (d e : Doing) → Dec a.tx ⊎ (g ≤ a.rs.0) → Good d → Good e → Both d e → Ends (Arrivals.master_done here a (master_turn d.view a) d) (Arrivals.master_done here a (master_turn e.view a) e)
  judged a d e (inl c) u v t =
      alike_done a (master_turn d.view a) (master_turn e.view a) d e c (masters_alike g Dec here input Good keeps ready ordered far d e a (ordered d u) (ordered e v) t) (ordered d u) (ordered e v) t
  judged a d e (inr le) u v t =
      subst (λ (z : MasterTurn). Ends (Arrivals.master_done here a (master_turn d.view a) d) (Arrivals.master_done here a z e))
      (masters_same g Dec here input Good keeps ready ordered far d e a (ordered d u) (ordered e v) le t)
      (same_done a (master_turn d.view a) d e (ordered d u) (ordered e v) t)

  abbrev new_here : Arrived → View → Bool
  new_here a v = is_master here.scene here.node a.part && (not (same_node a.tx.node here.node) && not (is_known v a.tx a.part || is_parked v a.tx a.part))

  new_same : (a : Arrived) (d e : Doing) (z : Bool) → same_node a.tx.node here.node ≡ z → Good d → Good e → Both d e → new_here a d.view ≡ new_here a e.view
  new_same a d e true q u v t = rw q refl
  new_same a d e false q u v t =
      let k = known_same g Dec here a.tx a.part d e q (opens d u) (opens e v) t in
      let w : is_parked d.view a.tx a.part ≡ is_parked e.view a.tx a.part = ap (λ (x : View). is_parked x a.tx a.part) t.view in
      (λ j. is_master here.scene here.node a.part && (not (same_node a.tx.node here.node) && not (k j || w j)))

  prepared : (a : Arrived) (d e : Doing) → (same_node a.tx.node here.node ≡ false → Dec a.tx ⊎ (g ≤ a.rs.0)) → Good d → Good e → Both d e → Ends (Arrivals.prepare_rule here a d) (Arrivals.prepare_rule here a e)
  unfolding Arrivals.prepare_rule prepare_turn
  prepared a d e h u v t = by_new (new_here a d.view) refl (new_here a e.view) (new_same a d e (same_node a.tx.node here.node) refl u v t)
    where
      by_new : (b : Bool) → new_here a d.view ≡ b → (c : Bool) → new_here a d.view ≡ c
          → Ends (Arrivals.master_done here a (if b then master_turn d.view a else Ignore) d) (Arrivals.master_done here a (if c then master_turn e.view a else Ignore) e)
      by_new true p true q =
          let r = and_parts (not (same_node a.tx.node here.node)) (not (is_known d.view a.tx a.part || is_parked d.view a.tx a.part))
          (and_parts (is_master here.scene here.node a.part) (not (same_node a.tx.node here.node) && not (is_known d.view a.tx a.part || is_parked d.view a.tx a.part)) p).1 in
          judged a d e (h (not-true (same_node a.tx.node here.node) r.0)) u v t
      by_new true p false q = absurd (cc (p, q))
      by_new false p true q = absurd (cc (p, q))
      by_new false p false q = tt

  -- ---- a Replicate

  evicts : (a : Arrived) (i : ℕ) (x : Own) (o : Option Write) (d e : Doing) → Ready g Dec here i x d → Ready g Dec here i x e → Both d e → Both (Arrivals.evict_at here a i x o d) (Arrivals.evict_at here a i x o e)
  evicts a i x None d e r s t = t
  evicts a i x (Some w) d e r s t = twin_aborted g Dec here i _ x d e r.fit.opens s.fit.opens t

  held_same : (a : Arrived) (i : ℕ) (d e : Doing) → Both d e → Arrivals.held_key d.view.versions (name_of here i) a.writes ≡ Arrivals.held_key e.view.versions (name_of here i) a.writes
  held_same a i d e t =
      sym (held_pruned g d.view.versions (name_of here i) a.writes)
      ∙ (ap (λ (v : View). Arrivals.held_key v.versions (name_of here i) a.writes) t.view ∙ held_pruned g e.view.versions (name_of here i) a.writes)

  evicted : (a : Arrived) (from : NodeId) (n : ℕ) (d e : Doing) → Comes here input from (Replicate a.tx a.part a.rs a.lc a.writes) → Good d → Good e → Both d e
      → Both (Arrivals.evict here a n d) (Arrivals.evict here a n e)
  evicted a from zero d e c u v t = t
  evicted a from (suc i) d e c u v t =
      let d1 : Doing = Arrivals.evict here a i d in
      let e1 : Doing = Arrivals.evict here a i e in
      let u1 = along here input InRule Good (keeps InRule) d d1 (evict-path here input InRule refl a from i d c) u in
      let v1 = along here input InRule Good (keeps InRule) e e1 (evict-path here input InRule refl a from i e c) v in
      let t1 = evicted a from i d e c u v t in
      twin_at_own g Dec here i (Arrivals.evict_own here a i) d1 e1 t1
      (λ x q o. subst (λ (z : Option Write). Both (Arrivals.evict_own here a i x d1) (Arrivals.evict_at here a i x z e1)) (held_same a i d1 e1 t1)
      (evicts a i x (Arrivals.held_key d1.view.versions (name_of here i) a.writes) d1 e1 (ready d1 u1 i x q o)
      (ready e1 v1 i x (subst (λ (xs : List Own). slice_get xs i ≡ Some x) (ap (λ (y : View). y.own) t1.view) q) o) t1))

  proposed_same : (a : Arrived) (d e : Doing) → Both d e → proposed d.view a ≡ proposed e.view a
  proposed_same a d e t = sym (proposed_pruned g d.view a) ∙ (ap (λ (v : View). proposed v a) t.view ∙ proposed_pruned g e.view a)

  takes_if : (a : Arrived) (d e : Doing) → Good d → Good e → Both d e → Ends (Arrivals.take_if here a d) (Arrivals.take_if here a e)
  takes_if a d e u v t =
      subst (λ (n : ℕ). Ends (Arrivals.take_if here a d) (if nat_lt n ts_limit then Some (Rattle.str_model.specs.Acts.taken here a n e) else None)) (proposed_same a d e t) (by_limit (nat_lt (proposed d.view a) ts_limit))
    where
      by_limit : (b : Bool) → Ends (if b then Some (Rattle.str_model.specs.Acts.taken here a (proposed d.view a) d) else None) (if b then Some (Rattle.str_model.specs.Acts.taken here a (proposed d.view a) e) else None)
      by_limit true = twin_taken g Dec here a (proposed d.view a) d e (ordered d u) (ordered e v) t
      by_limit false = tt

  abbrev free_here : Arrived → View → Bool
  free_here a v = hosts here.scene here.node a.part && (not (is_master here.scene here.node a.part) && (not (same_node a.tx.node here.node) && not (is_known v a.tx a.part)))

  free_same : (a : Arrived) (d e : Doing) (z : Bool) → same_node a.tx.node here.node ≡ z → Good d → Good e → Both d e → free_here a d.view ≡ free_here a e.view
  free_same a d e true q u v t = rw q refl
  free_same a d e false q u v t =
      let k = known_same g Dec here a.tx a.part d e q (opens d u) (opens e v) t in
      (λ j. hosts here.scene here.node a.part && (not (is_master here.scene here.node a.part) && (not (same_node a.tx.node here.node) && not (k j))))

  replicated : (a : Arrived) (from : NodeId) (d e : Doing) → Comes here input from (Replicate a.tx a.part a.rs a.lc a.writes) → Good d → Good e → Both d e
      → Ends (Arrivals.replicate_rule here a d) (Arrivals.replicate_rule here a e)
  unfolding Arrivals.replicate_rule takes
  replicated a from d e c u v t = by_free (free_here a d.view) refl (free_here a e.view) (free_same a d e (same_node a.tx.node here.node) refl u v t)
    where
      n : length d.view.own ≡ length e.view.own
      n = ap (λ (x : View). length x.own) t.view

      taken : Ends (Arrivals.take_if here a (Arrivals.evict here a (length d.view.own) d)) (Arrivals.take_if here a (Arrivals.evict here a (length e.view.own) e))
      taken =
          let d1 : Doing = Arrivals.evict here a (length d.view.own) d in
          let e1 : Doing = Arrivals.evict here a (length d.view.own) e in
          subst (λ (k : ℕ). Ends (Arrivals.take_if here a d1) (Arrivals.take_if here a (Arrivals.evict here a k e))) n
          (takes_if a d1 e1
          (along here input InRule Good (keeps InRule) d d1 (evict-path here input InRule refl a from (length d.view.own) d c) u)
          (along here input InRule Good (keeps InRule) e e1 (evict-path here input InRule refl a from (length d.view.own) e c) v)
          (evicted a from (length d.view.own) d e c u v t))

      by_free : (b : Bool) → free_here a d.view ≡ b → (k : Bool) → free_here a d.view ≡ k
          → Ends (if b then Arrivals.take_if here a (Arrivals.evict here a (length d.view.own) d) else None) (if k then Arrivals.take_if here a (Arrivals.evict here a (length e.view.own) e) else None)
      by_free true p true q = taken
      by_free true p false q = absurd (cc (p, q))
      by_free false p true q = absurd (cc (p, q))
      by_free false p false q = tt

  -- ---- the rule of an input

  twin_body : (from : NodeId) (body : Body) (d e : Doing) → Comes here input from body → BodyFar g Dec here body → Good d → Good e → Both d e → Ends (Steps.body_rule here from body d) (Steps.body_rule here from body e)
  twin_body from (ReadReq tx k rs) d e c f u v t = twin_read_req g Dec here tx k rs.0 d e f t
  twin_body from (ReadReply tx k w by fc) d e c f u v t = twin_read_reply g Dec here tx k w by fc.0 d e t
  twin_body from (Prepare tx p rs lc ws) d e c f u v t = prepared (record { tx = tx; part = p; rs = rs; lc = lc; writes = ws }) d e f u v t
  twin_body from (Refusal tx p by k) d e c f u v t = twin_refuse g Dec here from tx p by k d e (ready d u) (ready e v) t
  twin_body from (Replicate tx p rs lc ws) d e c f u v t = replicated (record { tx = tx; part = p; rs = rs; lc = lc; writes = ws }) from d e c u v t
  twin_body from (Ack tx p ts) d e c f u v t = twin_ack g Dec here from tx p ts.0 d e t
  twin_body from (Commit tx p fc ms) d e c f u v t = twin_commit_rule g Dec here tx p fc.0 ms d e (ordered d u) (ordered e v) (opens d u) (opens e v) t
  twin_body from (Abort tx p) d e c f u v t = twin_abort_rule g Dec here tx p d e (opens d u) (opens e v) t

  twin_input : (j : Input) (d e : Doing) → input ≡ j → InputFar g Dec here j → Good d → Good e → Both d e → Ends (Steps.rule here j d) (Steps.rule here j e)
  unfolding Steps.rule
  twin_input (Client s n) d e q f u v t = twin_client g Dec here s n d e (ready d u) (ready e v) t
  twin_input (Deliver m) d e q f u v t = by_valid (is_valid here m) refl
    where
      by_valid : (b : Bool) → is_valid here m ≡ b → Ends (if b then Steps.body_rule here m.sender m.body d else None) (if b then Steps.body_rule here m.sender m.body e else None)
      by_valid true z = twin_body m.sender m.body d e (m, q, refl, refl, z) f u v t
      by_valid false z = tt

  -- what a rule comes to is good
  abbrev GoodTo : Option Doing → Type 0
  GoodTo None = Unit {0}
  GoodTo (Some d) = Good d

  good_rule : (d : Doing) → Good d → GoodTo (Steps.rule here input d)
  good_rule d u = by_rule (Steps.rule here input d) (rule-path here input InRule refl d)
    where
      by_rule : (o : Option Doing) → Rattle.str_model.proofs.Principle.SingleChanges.PathTo here input InRule d o → GoodTo o
      by_rule None p = tt
      by_rule (Some r) p = along here input InRule Good (keeps InRule) d r p u

  after : (o p : Option Doing) → GoodTo o → GoodTo p → Ends o p → Ends (option_map (Steps.after_rule here) o) (option_map (Steps.after_rule here) p)
  after None None u v t = tt
  after None (Some e) u v t = absurd t
  after (Some d) None u v t = absurd t
  after (Some d) (Some e) u v t = twin_after g Dec here input Good keeps ready ordered far d e u v t

  -- two views that come to the same when they are pruned step alike
  pub twin_step : (v w : View) → InputFar g Dec here input → Good (starts v) → Good (starts w) → pruned g v ≡ pruned g w → Ends (Steps.step here input v) (Steps.step here input w)
  unfolding Steps.step
  twin_step v w f a b same =
      let t : Both (starts v) (starts w) = record { view = same; sent = tt; released = refl } in
      after (Steps.rule here input (starts v)) (Steps.rule here input (starts w)) (good_rule (starts v) a) (good_rule (starts w) b) (twin_input input (starts v) (starts w) refl f a b t)
