-- What comes to a replica, piece by piece: what each piece needs, and that all of them are what the model does.
use Rattle.std.proofs.Common.{Bool, None, Some, ap, false, if◌then◌else◌, not, sym, true, ℕ, ◌&&◌, ◌∙◌, ◌≡◌}
use Rattle.std.specs.List.{list_any}
use Rattle.node_core.proofs.Rules.ArrivalRules.{prepare_is, prepare_new}
use Rattle.node_core.proofs.Whole.Moves.{did_self, rule_done, rule_fits}
use Rattle.node_core.specs.Arriving.{CanPlace, IsNamed, is_new_read}
use Rattle.node_core.specs.Working.{Did, Fits, FitsRule, HasFacts, Ruled, WorkState}
use Rattle.str_base.proofs.Tests.{and_true_left}
use Rattle.str_base.specs.declared.names.KeyId.{KeyId}
use Rattle.str_base.specs.declared.names.TxId.{TxId}
use Rattle.str_base.specs.Versions.{same_node}
use Rattle.str_model.specs.Acts.{marked}
use Rattle.str_model.specs.Arrivals.{master_done, prepare_rule, read_req, serve_done, waits_read}
use Rattle.str_model.specs.declared.messages.Arrived.{Arrived}
use Rattle.str_model.specs.Proposals.{Ignore, MasterTurn, prepare_turn}
use Rattle.str_model.specs.Turns.{ServeTurn, serve_turn}
use Rattle.str_model.specs.Views.{Doing}
use Rattle.str_scene.specs.Scenes.{Here, hosts_key}

module _ (w : WorkState) (tx : TxId) (k : KeyId) (rs : ℕ) (b : Bool) (test : b ≡ is_new_read w tx k) where
  pub read_idle : b ≡ false → read_req w.here tx k rs w.doing ≡ None
  unfolding read_req
  read_idle e = ap (λ z. if z then Some (serve_done w.here tx k rs (serve_turn w.doing.view.versions k rs) (marked k rs w.doing)) else None) (sym test ∙ e)

  pub read_moves : b ≡ true → (turn u : ServeTurn) → turn ≡ serve_turn w.doing.view.versions k rs → turn ≡ u → read_req w.here tx k rs w.doing ≡ Some (serve_done w.here tx k rs u (marked k rs w.doing))
  unfolding read_req
  read_moves e turn u is q =
      ap (λ z. if z then Some (serve_done w.here tx k rs (serve_turn w.doing.view.versions k rs) (marked k rs w.doing)) else None) (sym test ∙ e)
      ∙ ap (λ t. Some (serve_done w.here tx k rs t (marked k rs w.doing))) (sym is ∙ q)

  pub read_hosted : b ≡ true → hosts_key w.here k ≡ true
  read_hosted e = and_true_left (hosts_key w.here k) (not (same_node tx.node w.here.node) && not (list_any (waits_read tx k) w.doing.view.waiters)) (sym test ∙ e)

module _ (w : WorkState) (f : HasFacts w) (a : Arrived) (turn u : MasterTurn) (is : turn ≡ prepare_turn w.here w.doing.view a) (q : turn ≡ u) where
  pub prepare_done : prepare_rule w.here a w.doing ≡ master_done w.here a u w.doing
  prepare_done = prepare_is w.here a w.doing turn is ∙ ap (λ t. master_done w.here a t w.doing) q

  pub prepare_place : IsNamed w a → (u ≡ Ignore → ⊥) → CanPlace w a
  prepare_place named n =
      let m = prepare_new w.here w.doing.view f.moment a (λ e. n (sym q ∙ (is ∙ e))) in
      record { facts = f.moment; named = named; hosted = m.hosted; none = m.none }

  -- what the master decided is done at once
  pub prepare_fits : (F : Here → Doing → Doing) → master_done w.here a u w.doing ≡ Some (F w.here w.doing) → FitsRule w (prepare_rule w.here a w.doing) → Fits w (F w.here w.doing)
  prepare_fits F e g = rule_fits F w w w.doing (prepare_rule w.here a w.doing) (did_self w) (prepare_done ∙ e) g

  pub prepare_ruled : (F : Here → Doing → Doing) → master_done w.here a u w.doing ≡ Some (F w.here w.doing) → (new : WorkState) → Did (F w.here w.doing) w new
      → Ruled (prepare_rule w.here a w.doing) true w new
  prepare_ruled F e new t = rule_done F w w new w.doing (prepare_rule w.here a w.doing) (did_self w) (prepare_done ∙ e) t
