-- The rules of messages that come back, by the own transaction that they name.
use Rattle.std.proofs.Common.{List, None, Option, Some, ap, if◌then◌else◌, option_map, refl, ℕ, ◌&&◌, ◌-◌, ◌∙◌, ◌≡◌}
use Rattle.partition_map.specs.declared.rows.Asked.{Asked}
use Rattle.str_base.specs.declared.names.Cause.TheVariants.{Conflict as ByConflict}
use Rattle.str_base.specs.declared.names.KeyId.{KeyId}
use Rattle.str_base.specs.declared.names.NodeId.{NodeId}
use Rattle.str_base.specs.declared.names.PartId.{PartId}
use Rattle.str_base.specs.declared.names.TxId.{TxId}
use Rattle.str_base.specs.declared.names.Value.{Value}
use Rattle.str_base.specs.Versions.{same_key}
use Rattle.str_model.specs.Acts.{aborted, acked, in_phase}
use Rattle.str_model.specs.Returns.{ack_kept, ack_own, ack_phase, ack_rule, has_asked, own_named, read_reply, refuse_own, refuse_phase, refuse_rule, reply_own, reply_phase, with_ack}
use Rattle.str_model.specs.Views.{Doing, Global, Own, Phase, Remote, Reply, put}
use Rattle.str_scene.specs.Scenes.{Here, is_master}

-- it waits for a value from elsewhere
abbrev pub IsRemote : Phase → Type 0
IsRemote p = (k : KeyId) × (p ≡ Remote k)

-- it has asked
abbrev pub IsGlobal : Phase → Type 0
IsGlobal p = (lc : ℕ) × (p ≡ Global lc)

module _ (here : Here) (tx : TxId) (d : Doing) where
  -- where none is named, all are idle
  module _ (e : own_named here tx d ≡ None) where
    pub reply_none : (k : KeyId) (v : Value) (by : Option TxId) (fc : ℕ) → read_reply here tx k v by fc d ≡ None
    unfolding read_reply
    reply_none k v by fc = ap (λ o. reply_own (tx.seq - 1) k v by fc o d) e

    pub ack_none : (from : NodeId) (p : PartId) (ts : ℕ) → ack_rule here from tx p ts d ≡ None
    unfolding ack_rule
    ack_none from p ts = ap (λ o. ack_own (tx.seq - 1) from p ts o d) e

    pub refuse_none : (from : NodeId) (p : PartId) (by : TxId) (k : KeyId) → refuse_rule here from tx p by k d ≡ None
    unfolding refuse_rule
    refuse_none from p by k = ap (λ o. refuse_own here (tx.seq - 1) from p by k o d) e

  module _ (x : Own) (e : own_named here tx d ≡ Some x) where
    -- a reply is kept where its key was waited for
    pub reply_is : (k l : KeyId) (v : Value) (by : Option TxId) (fc : ℕ) → x.phase ≡ Remote l
        → read_reply here tx k v by fc d ≡ (if same_key l k then Some (put (tx.seq - 1) (in_phase (Reply k v by fc) x) d) else None)
    unfolding read_reply
    reply_is k l v by fc q = ap (λ o. reply_own (tx.seq - 1) k v by fc o d) e ∙ ap (λ p. reply_phase (tx.seq - 1) x k v by fc p d) q

    pub reply_idle : (k : KeyId) (v : Value) (by : Option TxId) (fc : ℕ) → (IsRemote x.phase → ⊥) → read_reply here tx k v by fc d ≡ None
    unfolding read_reply
    reply_idle k v by fc n = ap (λ o. reply_own (tx.seq - 1) k v by fc o d) e ∙ by_phase x.phase n
      where
        by_phase : (p : Phase) → (IsRemote p → ⊥) → reply_phase (tx.seq - 1) x k v by fc p d ≡ None
        by_phase (Remote l) n = absurd (n (l, refl))
        by_phase _ n = refl

    -- an answer is kept where one that has asked waits for it
    pub ack_is : (from : NodeId) (p : PartId) (ts lc : ℕ) → x.phase ≡ Global lc → ack_rule here from tx p ts d ≡ option_map (λ ps. acked (tx.seq - 1) ps x d) (with_ack x.parts p from ts)
    unfolding ack_rule
    ack_is from p ts lc q = ap (λ o. ack_own (tx.seq - 1) from p ts o d) e ∙ (ap (λ z. ack_phase (tx.seq - 1) x from p ts z d) q ∙ by_parts (with_ack x.parts p from ts))
      where
        by_parts : (o : Option (List Asked)) → ack_kept (tx.seq - 1) x o d ≡ option_map (λ ps. acked (tx.seq - 1) ps x d) o
        by_parts None = refl
        by_parts (Some ps) = refl

    pub ack_idle : (from : NodeId) (p : PartId) (ts : ℕ) → (IsGlobal x.phase → ⊥) → ack_rule here from tx p ts d ≡ None
    unfolding ack_rule
    ack_idle from p ts n = ap (λ o. ack_own (tx.seq - 1) from p ts o d) e ∙ by_phase x.phase n
      where
        by_phase : (z : Phase) → (IsGlobal z → ⊥) → ack_phase (tx.seq - 1) x from p ts z d ≡ None
        by_phase (Global lc) n = absurd (n (lc, refl))
        by_phase _ n = refl

    -- a refusal aborts one that has asked its sender
    pub refuse_is : (from : NodeId) (p : PartId) (by : TxId) (k : KeyId) (lc : ℕ) → x.phase ≡ Global lc
        → refuse_rule here from tx p by k d ≡ (if has_asked x.parts p && is_master here.scene from p then Some (aborted here (tx.seq - 1) (ByConflict by k from) x d) else None)
    unfolding refuse_rule
    refuse_is from p by k lc q = ap (λ o. refuse_own here (tx.seq - 1) from p by k o d) e ∙ ap (λ z. refuse_phase here (tx.seq - 1) x from p by k z d) q

    pub refuse_idle : (from : NodeId) (p : PartId) (by : TxId) (k : KeyId) → (IsGlobal x.phase → ⊥) → refuse_rule here from tx p by k d ≡ None
    unfolding refuse_rule
    refuse_idle from p by k n = ap (λ o. refuse_own here (tx.seq - 1) from p by k o d) e ∙ by_phase x.phase n
      where
        by_phase : (z : Phase) → (IsGlobal z → ⊥) → refuse_phase here (tx.seq - 1) x from p by k z d ≡ None
        by_phase (Global lc) n = absurd (n (lc, refl))
        by_phase _ n = refl
