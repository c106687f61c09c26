-- The rule of a message or of a client: what it needs of what the message names, and that it is the rule of the input.
use Rattle.std.proofs.Common.{Bool, None, Some, ap, false, if◌then◌else◌, refl, subst, sym, true, ◌&&◌, ◌∙◌, ◌≡◌, map, List}
use Rattle.std.specs.List.{list_all}
use Rattle.node_core.specs.Arriving.{CanCommit}
use Rattle.node_core.specs.Working.{Fits, FitsRule, Ruled, WorkState}
use Rattle.str_base.proofs.Tests.{and_true_left, and_true_right}
use Rattle.str_base.specs.declared.names.KeyId.{KeyId}
use Rattle.str_base.specs.declared.names.NodeId.{NodeId}
use Rattle.str_base.specs.declared.names.PartId.{PartId}
use Rattle.str_base.specs.declared.names.SessionId.{SessionId}
use Rattle.str_base.specs.declared.names.Ts.{Ts}
use Rattle.str_base.specs.declared.names.TxId.{TxId}
use Rattle.str_base.specs.declared.names.Write.{Write}
use Rattle.str_model.specs.Acts.{abort_came, commit_came}
use Rattle.str_model.specs.Clients.{client_rule}
use Rattle.str_model.specs.declared.messages.Body.{Body}
use Rattle.str_model.specs.declared.messages.Body.TheVariants.{Abort, Commit, Prepare, ReadReq, Refuse as Refusal, Replicate}
use Rattle.str_model.specs.declared.messages.Input.{Input}
use Rattle.str_model.specs.declared.messages.Input.TheVariants.{Client, Deliver}
use Rattle.str_model.specs.declared.messages.Message.{Message}
use Rattle.str_model.specs.declared.names.KeyMark.{KeyMark}
use Rattle.str_model.specs.Steps.{body_rule, decides, drop_held, rule}
use Rattle.str_model.specs.Strange.{below_limit, has_key, has_named, has_named_writes, has_node, has_part, is_valid, keys_in}
use Rattle.str_model.proofs.ViewFacts.ValidMessages.{valid_named}
use Rattle.str_scene.specs.Scenes.{Here}

-- ---- what a message names

module _ (here : Here) (b : Body) (n : has_named here b ≡ true) where
  named_as : (c : Body) → b ≡ c → has_named here c ≡ true
  named_as c e = subst (λ z. has_named here z ≡ true) e n

  pub request_key : (tx : TxId) (k : KeyId) (rs : Ts) → b ≡ ReadReq tx k rs → has_key here k ≡ true
  request_key tx k rs e = and_true_left (has_key here k) (below_limit rs) (and_true_right (has_node here tx.node) (has_key here k && below_limit rs) (named_as (ReadReq tx k rs) e))

  pub refusal_part : (tx : TxId) (p : PartId) (by : TxId) (k : KeyId) → b ≡ Refusal tx p by k → has_part here p ≡ true
  refusal_part tx p by k e =
      and_true_left (has_part here p) (has_node here by.node && has_key here k)
      (and_true_right (has_node here tx.node) (has_part here p && (has_node here by.node && has_key here k)) (named_as (Refusal tx p by k) e))

  pub abort_part : (tx : TxId) (p : PartId) → b ≡ Abort tx p → has_part here p ≡ true
  abort_part tx p e = and_true_right (has_node here tx.node) (has_part here p) (named_as (Abort tx p) e)

  commit_names : (tx : TxId) (p : PartId) (fc : Ts) (ms : List KeyMark) → b ≡ Commit tx p fc ms → (has_part here p ≡ true) × (keys_in here p (map (λ (m : KeyMark). m.key) ms) ≡ true)
  commit_names tx p fc ms e =
      let rest : Bool = keys_in here p (map (λ (m : KeyMark). m.key) ms) && list_all (λ (m : KeyMark). below_limit m.mark) ms in
      let a = and_true_right (has_node here tx.node) (has_part here p && (below_limit fc && rest)) (named_as (Commit tx p fc ms) e) in
      let d = and_true_right (below_limit fc) rest (and_true_right (has_part here p) (below_limit fc && rest) a) in
      (and_true_left (has_part here p) (below_limit fc && rest) a, and_true_left (keys_in here p (map (λ (m : KeyMark). m.key) ms)) (list_all (λ (m : KeyMark). below_limit m.mark) ms) d)

-- ---- the rule of a message

module _ (w : WorkState) (from : NodeId) (b : Body) where
  pub body_fits : (c : Body) → b ≡ c → FitsRule w (body_rule w.here from b w.doing) → FitsRule w (body_rule w.here from c w.doing)
  body_fits c e g = subst (λ z. FitsRule w (body_rule w.here from z w.doing)) e g

  pub body_does : (c : Body) → b ≡ c → (moves : Bool) (new : WorkState) → Ruled (body_rule w.here from c w.doing) moves w new → Ruled (body_rule w.here from b w.doing) moves w new
  body_does c e moves new t = subst (λ z. Ruled (body_rule w.here from z w.doing) moves w new) (sym e) t

  pub prepare_named : (tx : TxId) (p : PartId) (rs lc : Ts) (ws : List Write) → b ≡ Prepare tx p rs lc ws → has_named w.here b ≡ true → has_named_writes w.here tx p rs lc ws ≡ true
  prepare_named tx p rs lc ws e n = subst (λ z. has_named w.here z ≡ true) e n

  pub replicate_named : (tx : TxId) (p : PartId) (rs lc : Ts) (ws : List Write) → b ≡ Replicate tx p rs lc ws → has_named w.here b ≡ true → has_named_writes w.here tx p rs lc ws ≡ true
  replicate_named tx p rs lc ws e n = subst (λ z. has_named w.here z ≡ true) e n

  pub commit_can : (tx : TxId) (p : PartId) (fc : Ts) (ms : List KeyMark) → b ≡ Commit tx p fc ms → has_named w.here b ≡ true → CanCommit w p ms
  commit_can tx p fc ms e n = let c = commit_names w.here b n tx p fc ms e in record { part = c.0; keys = c.1 }

  pub commit_fits : (tx : TxId) (p : PartId) (fc : Ts) (ms : List KeyMark) → b ≡ Commit tx p fc ms → FitsRule w (body_rule w.here from b w.doing)
      → decides w.here tx p w.doing.view ≡ true → Fits w (commit_came tx p fc.0 ms w.doing)
  commit_fits tx p fc ms e g q = subst (λ t. FitsRule w (if t then Some (commit_came tx p fc.0 ms w.doing) else None)) q (body_fits (Commit tx p fc ms) e g)

  pub abort_fits : (tx : TxId) (p : PartId) → b ≡ Abort tx p → FitsRule w (body_rule w.here from b w.doing) → decides w.here tx p w.doing.view ≡ true
      → Fits w (abort_came tx p (drop_held tx p w.doing.view.waiters) w.doing)
  abort_fits tx p e g q = subst (λ t. FitsRule w (if t then Some (abort_came tx p (drop_held tx p w.doing.view.waiters) w.doing) else None)) q (body_fits (Abort tx p) e g)

-- ---- the rule of an input

module _ (w : WorkState) (input : Input) where
  client_is : (s : SessionId) (t : _) → input ≡ Client s t → rule w.here input w.doing ≡ client_rule w.here s t w.doing
  unfolding rule
  client_is s t e = ap (λ z. rule w.here z w.doing) e

  pub client_fits : (s : SessionId) (t : _) → input ≡ Client s t → FitsRule w (rule w.here input w.doing) → FitsRule w (client_rule w.here s t w.doing)
  client_fits s t e g = subst (FitsRule w) (client_is s t e) g

  pub client_does : (s : SessionId) (t : _) → input ≡ Client s t → (moves : Bool) (new : WorkState) → Ruled (client_rule w.here s t w.doing) moves w new → Ruled (rule w.here input w.doing) moves w new
  client_does s t e moves new r = subst (λ o. Ruled o moves w new) (sym (client_is s t e)) r

  -- the rule of a message that is not strange is that of what it says; of another one there is none
  valid_is : (m : Message) (b : Bool) → input ≡ Deliver m → is_valid w.here m ≡ b → rule w.here input w.doing ≡ (if b then body_rule w.here m.sender m.body w.doing else None)
  unfolding rule
  valid_is m b e v = ap (λ z. rule w.here z w.doing) e ∙ ap (λ t. if t then body_rule w.here m.sender m.body w.doing else None) v

  pub deliver_named : (m : Message) → is_valid w.here m ≡ true → has_named w.here m.body ≡ true
  deliver_named m v = valid_named w.here m v

  pub deliver_fits : (m : Message) → input ≡ Deliver m → is_valid w.here m ≡ true → FitsRule w (rule w.here input w.doing) → FitsRule w (body_rule w.here m.sender m.body w.doing)
  deliver_fits m e v g = subst (FitsRule w) (valid_is m true e v) g

  pub deliver_does : (m : Message) → input ≡ Deliver m → is_valid w.here m ≡ true → (moves : Bool) (new : WorkState) → Ruled (body_rule w.here m.sender m.body w.doing) moves w new
      → Ruled (rule w.here input w.doing) moves w new
  deliver_does m e v moves new r = subst (λ o. Ruled o moves w new) (sym (valid_is m true e v)) r

  pub strange_rests : (m : Message) (b : Bool) → input ≡ Deliver m → b ≡ is_valid w.here m → b ≡ false → Ruled (rule w.here input w.doing) b w w
  strange_rests m b e v f = subst (λ o. Ruled o b w w) (sym (valid_is m false e (sym v ∙ f))) (f, refl)
