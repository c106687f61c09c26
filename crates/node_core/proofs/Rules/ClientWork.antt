-- A client step of a work: which session, which transaction, and what may begin.
use Rattle.str_model.proofs.ListFacts.{nth_sum}
use Rattle.std.proofs.Common.{Bool, None, Some, ap, arith, false, is_some, length, not, refl, sym, true, ℕ, ◌+◌, ◌<◌, ◌^◌, ◌∙◌, ◌≡◌, slice_get}
use Rattle.node_parts.proofs.Owning.LastPlaces.{last_within}
use Rattle.node_parts.specs.Sites.{has_script, is_at}
use Rattle.node_core.proofs.Rules.ClientSteps.{AtSession, at_session, begin_moves, no_session, rule_active, rule_decided, rule_first, rule_waits}
use Rattle.node_core.specs.Beginning.{MayBegin, at_next, script_of}
use Rattle.node_core.specs.Working.{HasFacts, WorkState}
use Rattle.str_base.proofs.Lists.{slice_get_there}
use Rattle.str_base.specs.declared.names.SessionId.{SessionId}
use Rattle.str_model.specs.Clients.{begin, client_rule, last_index, of_session, place_in}
use Rattle.str_model.specs.Views.{Active, Own, is_decided}
use Rattle.str_scene.specs.declared.names.TxPlace.{TxPlace}
use Rattle.str_scene.specs.Scenes.{Here, Session, nth}

-- the site is the place, and tells whether the session is one of the node
module _ (w : WorkState) (s : SessionId) (h : Here) (b : Bool) (here_is : h ≡ w.here) (test : b ≡ is_at h (nth h.scene.sessions s.0)) where
  tests : b ≡ is_at w.here (nth w.here.scene.sessions s.0)
  tests = test ∙ ap (λ z. is_at z (nth z.scene.sessions s.0)) here_is

  pub session_none : b ≡ false → (t : ℕ) → client_rule w.here s t w.doing ≡ None
  session_none e t = no_session w.here s t w.doing (sym tests ∙ e)

  pub session_at : b ≡ true → AtSession w.here s
  session_at e = at_session w.here s (sym tests ∙ e)

module _ (w : WorkState) (s : SessionId) (a : AtSession w.here s) (i : ℕ) (l : last_index (of_session s) w.doing.view.own ≡ Some i) where
  pub last_owns : (x : Own) × (slice_get w.doing.view.own i ≡ Some x)
  last_owns = slice_get_there w.doing.view.own i (last_within (of_session s) w.doing.view.own i l)

  pub next_begins : (x : Own) → slice_get w.doing.view.own i ≡ Some x → is_decided x.phase ≡ true → MayBegin w (place_in s (x.place.index + 1))
  next_begins x own f = record { text = a.text; session = a.session; node = a.node; next = at_next i x l own f refl }

-- ---- the index in a session is small

pub index_few : (w : WorkState) → HasFacts w → (i : ℕ) (x : Own) → slice_get w.doing.view.own i ≡ Some x → x.place.index + 1 < 2 ^ 32
index_few w f i x own =
    let p = f.moment.order.placed i x own in
    let t = nth_sum (λ (s : Session). length s.txs) w.here.scene.sessions x.place.session.0 p.text p.session in
    let few = f.limits.few_transactions in
    let e = p.index.1 in
    omega (arith, t, few, e)

-- ---- idle or not

module _ (w : WorkState) (s : SessionId) (t : ℕ) (a : AtSession w.here s) where
  idle_as : (place : TxPlace) → client_rule w.here s t w.doing ≡ begin w.here place t (script_of w.here place) w.doing → (h : Here) → h ≡ w.here → (b : Bool)
      → b ≡ has_script (nth h.scene.sessions place.session.0) place → not b ≡ not (is_some (client_rule w.here s t w.doing))
  idle_as place e h q b test =
      let p : b ≡ has_script (nth w.here.scene.sessions place.session.0) place = test ∙ ap (λ (z : Here). has_script (nth z.scene.sessions place.session.0) place) q in
      sym (ap (λ o. not (is_some o)) e ∙ ap not (begin_moves w.here place t w.doing b (sym p)))

  pub idle_first : last_index (of_session s) w.doing.view.own ≡ None → (h : Here) → h ≡ w.here → (b : Bool) → b ≡ has_script (nth h.scene.sessions s.0) (place_in s 1)
      → not b ≡ not (is_some (client_rule w.here s t w.doing))
  idle_first l h q b test = idle_as (place_in s 1) (rule_first w.here s t w.doing a l) h q b test

  pub idle_next : (i : ℕ) (x : Own) → last_index (of_session s) w.doing.view.own ≡ Some i → slice_get w.doing.view.own i ≡ Some x → is_decided x.phase ≡ true → (h : Here) → h ≡ w.here → (b : Bool)
      → b ≡ has_script (nth h.scene.sessions s.0) (place_in s (x.place.index + 1)) → not b ≡ not (is_some (client_rule w.here s t w.doing))
  idle_next i x l own f h q b test = idle_as (place_in s (x.place.index + 1)) (rule_decided w.here s t w.doing a i x l own f) h q b test

  pub idle_waits : (i : ℕ) (x : Own) → last_index (of_session s) w.doing.view.own ≡ Some i → slice_get w.doing.view.own i ≡ Some x → is_decided x.phase ≡ false → (x.phase ≡ Active → ⊥)
      → true ≡ not (is_some (client_rule w.here s t w.doing))
  idle_waits i x l own f n = sym (ap (λ o. not (is_some o)) (rule_waits w.here s t w.doing a i x l own f n))

  pub idle_active : (i : ℕ) (x : Own) → last_index (of_session s) w.doing.view.own ≡ Some i → slice_get w.doing.view.own i ≡ Some x → x.phase ≡ Active
      → false ≡ not (is_some (client_rule w.here s t w.doing))
  idle_active i x l own e = sym (ap (λ o. not (is_some o)) (rule_active w.here s t w.doing a i x l own e))
