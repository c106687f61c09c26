-- A message that comes back: the own transaction that it names, and what its rule does to it.
use Rattle.std.proofs.Common.{Bool, None, Option, Some, ap, false, if◌then◌else◌, length, option_map, refl, slice_get, subst, sym, true, ℕ, ◌&&◌, ◌-◌, ◌<◌, ◌∙◌, ◌≡◌}
use Rattle.node_core.proofs.Whole.Moves.{did_as, did_rule, fits_as, fits_rule}
use Rattle.node_core.proofs.Rules.ReturnRules.{ack_is, refuse_is, reply_is}
use Rattle.node_core.specs.Working.{Did, Fits, FitsRule, Ruled, WorkState}
use Rattle.str_base.proofs.Lists.{slice_get_there}
use Rattle.str_base.specs.declared.names.Cause.TheVariants.{Conflict as ByConflict}
use Rattle.str_base.specs.declared.names.KeyId.{KeyId}
use Rattle.str_base.specs.declared.names.NodeId.{NodeId}
use Rattle.str_base.specs.declared.names.PartId.{PartId}
use Rattle.str_base.specs.declared.names.TxId.{TxId}
use Rattle.str_base.specs.declared.names.Value.{Value}
use Rattle.str_base.specs.Versions.{same_key}
use Rattle.str_model.specs.Acts.{aborted, acked, in_phase}
use Rattle.str_model.specs.Returns.{ack_rule, has_asked, own_named, read_reply, refuse_rule, with_ack}
use Rattle.str_model.specs.Scripts.{at_own}
use Rattle.str_model.specs.Views.{Doing, Global, Own, Remote, Reply, is_decided, put}
use Rattle.str_model.proofs.ViewFacts.QuietTurns.{open_does}
use Rattle.str_scene.specs.Scenes.{is_master}

-- the place that a name is found at
abbrev pub IsPlaced : WorkState → TxId → ℕ → Type 0
IsPlaced w tx i = (i ≡ tx.seq - 1) × (i < length w.doing.view.own) × (own_named w.here tx w.doing ≡ slice_get w.doing.view.own i)

module _ (w : WorkState) (tx : TxId) (i : ℕ) (placed : IsPlaced w tx i) where
  -- the transaction that is named
  pub named_own : (x : Own) × (slice_get w.doing.view.own i ≡ Some x) × (own_named w.here tx w.doing ≡ Some x)
  named_own = let t = slice_get_there w.doing.view.own i placed.1 in (t.0, t.1, placed.2 ∙ t.1)

  -- its place is the one before its number
  at_seq : (F : ℕ → Doing) → F (tx.seq - 1) ≡ F i
  at_seq F = ap F (sym placed.0)

  module _ (x : Own) (own : slice_get w.doing.view.own i ≡ Some x) where
    named_is : own_named w.here tx w.doing ≡ Some x
    named_is = placed.2 ∙ own

    pub reply_ruled : (k l : KeyId) (v : Value) (by : Option TxId) (fc : ℕ) → Remote l ≡ x.phase → same_key l k ≡ true → (new : WorkState)
        → Did (at_own i (λ z. put i (in_phase (Reply k v by fc) z)) w.doing) w new → Ruled (read_reply w.here tx k v by fc w.doing) true w new
    reply_ruled k l v by fc e q new s =
        did_rule w new (read_reply w.here tx k v by fc w.doing) (put i (in_phase (Reply k v by fc) x) w.doing)
        (reply_is w.here tx w.doing x named_is k l v by fc (sym e)
        ∙ (ap (λ b. if b then Some (put (tx.seq - 1) (in_phase (Reply k v by fc) x) w.doing) else None) q ∙ ap (λ d. Some d) (at_seq (λ n. put n (in_phase (Reply k v by fc) x) w.doing))))
        (did_as w new _ _ (open_does i (λ z. put i (in_phase (Reply k v by fc) z)) w.doing x own (ap is_decided (sym e))) s)

    pub reply_other : (k l : KeyId) (v : Value) (by : Option TxId) (fc : ℕ) → Remote l ≡ x.phase → same_key l k ≡ false → read_reply w.here tx k v by fc w.doing ≡ None
    reply_other k l v by fc e q =
        reply_is w.here tx w.doing x named_is k l v by fc (sym e) ∙ ap (λ b. if b then Some (put (tx.seq - 1) (in_phase (Reply k v by fc) x) w.doing) else None) q

    pub ack_ruled : (from : NodeId) (p : PartId) (ts lc : ℕ) → Global lc ≡ x.phase → (result : Bool) (new : WorkState)
        → Ruled (option_map (λ ps. acked i ps x w.doing) (with_ack x.parts p from ts)) result w new → Ruled (ack_rule w.here from tx p ts w.doing) result w new
    ack_ruled from p ts lc e result new r =
        subst (λ o. Ruled o result w new)
        (sym (ack_is w.here tx w.doing x named_is from p ts lc (sym e) ∙ ap (λ n. option_map (λ ps. acked n ps x w.doing) (with_ack x.parts p from ts)) (sym placed.0))) r

    module _ (from : NodeId) (p : PartId) (by : TxId) (k : KeyId) (lc : ℕ) (e : Global lc ≡ x.phase) where
      refuse_is_at : (a m : Bool) → has_asked x.parts p ≡ a → is_master w.here.scene from p ≡ m
          → refuse_rule w.here from tx p by k w.doing ≡ (if a && m then Some (aborted w.here i (ByConflict by k from) x w.doing) else None)
      refuse_is_at a m q r =
          let t : (has_asked x.parts p && is_master w.here.scene from p) ≡ (a && m) = cc (q, r) in
          refuse_is w.here tx w.doing x named_is from p by k lc (sym e)
          ∙ (ap (λ b. if b then Some (aborted w.here (tx.seq - 1) (ByConflict by k from) x w.doing) else None) t
          ∙ ap (λ n. if a && m then Some (aborted w.here n (ByConflict by k from) x w.doing) else None) (sym placed.0))

      pub refuse_unasked : has_asked x.parts p ≡ false → refuse_rule w.here from tx p by k w.doing ≡ None
      refuse_unasked q = refuse_is_at false (is_master w.here.scene from p) q refl

      pub refuse_other : has_asked x.parts p ≡ true → is_master w.here.scene from p ≡ false → refuse_rule w.here from tx p by k w.doing ≡ None
      refuse_other q r = refuse_is_at true false q r

      module _ (q : has_asked x.parts p ≡ true) (r : is_master w.here.scene from p ≡ true) where
        abort_is : at_own i (aborted w.here i (ByConflict by k from)) w.doing ≡ aborted w.here i (ByConflict by k from) x w.doing
        abort_is = open_does i (aborted w.here i (ByConflict by k from)) w.doing x own (ap is_decided (sym e))

        pub refuse_fits : FitsRule w (refuse_rule w.here from tx p by k w.doing) → Fits w (at_own i (aborted w.here i (ByConflict by k from)) w.doing)
        refuse_fits g = fits_as w _ _ (sym abort_is) (fits_rule w _ (aborted w.here i (ByConflict by k from) x w.doing) (refuse_is_at true true q r) g)

        pub refuse_ruled : (new : WorkState) → Did (at_own i (aborted w.here i (ByConflict by k from)) w.doing) w new → Ruled (refuse_rule w.here from tx p by k w.doing) true w new
        refuse_ruled new s = did_rule w new _ (aborted w.here i (ByConflict by k from) x w.doing) (refuse_is_at true true q r) (did_as w new _ _ abort_is s)
