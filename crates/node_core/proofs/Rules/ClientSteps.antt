-- A client step by the session's last transaction.
use Rattle.std.proofs.Common.{Bool, List, None, Option, Some, ap, arith, false, if◌then◌else◌, is_some, max, min, refl, sym, true, ℕ, ◌+◌, ◌∙◌, ◌≡◌, ◌≤◌}
use Rattle.node_parts.specs.Sites.{has_script, is_at}
use Rattle.node_core.specs.Beginning.{IsNext, MayBegin, at_first, at_next, script_in, script_of}
use Rattle.node_core.specs.Working.{WorkState}
use Rattle.str_base.specs.declared.names.SessionId.{SessionId}
use Rattle.str_base.specs.Versions.{same_node}
use Rattle.str_model.specs.Acts.{begun}
use Rattle.str_model.specs.Clients.{begin, client_rule, go_on, go_on_at, go_on_last, in_session, last_index, of_session, place_in, reading_limit}
use Rattle.str_model.specs.NodeFacts.{OpenTo}
use Rattle.str_model.specs.Owned.{Owns}
use Rattle.str_model.specs.Scripts.{op_or_commit, own_op}
use Rattle.str_model.specs.Views.{Aborted, Active, CertWait, Closing, Committed, Doing, Global, Local, Own, Phase, ReadWait, Remote, Reply, View, is_decided}
use Rattle.str_model.proofs.Principle.SingleChanges.{Begins, NextPlace, is_first, is_next}
use Rattle.str_scene.specs.declared.names.Op.{Op}
use Rattle.str_scene.specs.declared.names.TxPlace.{TxPlace}
use Rattle.str_scene.specs.Scenes.{Here, Session, nth}

-- ---- the session

pub no_session : (here : Here) (s : SessionId) (t : ℕ) (d : Doing) → is_at here (nth here.scene.sessions s.0) ≡ false → client_rule here s t d ≡ None
unfolding client_rule
no_session here s t d e = by_text (nth here.scene.sessions s.0) e
  where
    by_text : (o : Option Session) → is_at here o ≡ false → in_session here s t o d ≡ None
    by_text None e = refl
    by_text (Some text) e = ap (λ b. if b then go_on_last here s t text (last_index (of_session s) d.view.own) d else None) e

-- the session and its text
pub record AtSession (here : Here) (s : SessionId) : Type 0 where
  pub text : Session
  pub session : nth here.scene.sessions s.0 ≡ Some text
  pub node : same_node text.node here.node ≡ true

pub at_session : (here : Here) (s : SessionId) → is_at here (nth here.scene.sessions s.0) ≡ true → AtSession here s
at_session here s e = by_text (nth here.scene.sessions s.0) refl e
  where
    by_text : (o : Option Session) → nth here.scene.sessions s.0 ≡ o → is_at here o ≡ true → AtSession here s
    by_text None q e = absurd (cc e)
    by_text (Some text) q e = record { text = text; session = q; node = e }

module _ (here : Here) (s : SessionId) (t : ℕ) (d : Doing) (a : AtSession here s) where
  rule_is : client_rule here s t d ≡ go_on_last here s t a.text (last_index (of_session s) d.view.own) d
  unfolding client_rule
  rule_is =
      ap (λ o. in_session here s t o d) a.session
      ∙ ap (λ b. if b then go_on_last here s t a.text (last_index (of_session s) d.view.own) d else None) a.node

  -- the script of the session's n-th transaction
  script_is : (n : ℕ) → nth a.text.txs n ≡ script_of here (place_in s n)
  script_is n = sym (ap (λ o. script_in o (place_in s n)) a.session)

  -- none has begun: the first one begins
  pub rule_first : last_index (of_session s) d.view.own ≡ None → client_rule here s t d ≡ begin here (place_in s 1) t (script_of here (place_in s 1)) d
  rule_first l = rule_is ∙ (ap (λ o. go_on_last here s t a.text o d) l ∙ ap (λ o. begin here (place_in s 1) t o d) (script_is 1))

  module _ (i : ℕ) (x : Own) (l : last_index (of_session s) d.view.own ≡ Some i) (own : Owns d.view i x) where
    rule_at : client_rule here s t d ≡ go_on here s t a.text i x x.phase d
    rule_at = rule_is ∙ (ap (λ o. go_on_last here s t a.text o d) l ∙ ap (λ o. go_on_at here s t a.text i o d) own)

    -- the last one is Active and goes on
    pub rule_active : x.phase ≡ Active → client_rule here s t d ≡ Some (op_or_commit here i x (own_op here x) d)
    rule_active e = rule_at ∙ ap (λ p. go_on here s t a.text i x p d) e

    -- the last one is decided, and the next one begins
    pub rule_decided : is_decided x.phase ≡ true → client_rule here s t d ≡ begin here (place_in s (x.place.index + 1)) t (script_of here (place_in s (x.place.index + 1))) d
    rule_decided f = rule_at ∙ by_phase x.phase f
      where
        next : begin here (place_in s (x.place.index + 1)) t (nth a.text.txs (x.place.index + 1)) d ≡ begin here (place_in s (x.place.index + 1)) t (script_of here (place_in s (x.place.index + 1))) d
        next = ap (λ o. begin here (place_in s (x.place.index + 1)) t o d) (script_is (x.place.index + 1))

        by_phase : (p : Phase) → is_decided p ≡ true → go_on here s t a.text i x p d ≡ begin here (place_in s (x.place.index + 1)) t (script_of here (place_in s (x.place.index + 1))) d
        by_phase (Committed m fc) f = next
        by_phase (Aborted m c) f = next
        by_phase Active f = absurd (cc f)
        by_phase (ReadWait k) f = absurd (cc f)
        by_phase (Remote k) f = absurd (cc f)
        by_phase (Reply k v by fc) f = absurd (cc f)
        by_phase CertWait f = absurd (cc f)
        by_phase (Closing w) f = absurd (cc f)
        by_phase (Local lc) f = absurd (cc f)
        by_phase (Global lc) f = absurd (cc f)

    -- the last one waits
    pub rule_waits : is_decided x.phase ≡ false → (x.phase ≡ Active → ⊥) → client_rule here s t d ≡ None
    rule_waits f n = rule_at ∙ by_phase x.phase f n
      where
        by_phase : (p : Phase) → is_decided p ≡ false → (p ≡ Active → ⊥) → go_on here s t a.text i x p d ≡ None
        by_phase Active f n = absurd (n refl)
        by_phase (ReadWait k) f n = refl
        by_phase (Remote k) f n = refl
        by_phase (Reply k v by fc) f n = refl
        by_phase CertWait f n = refl
        by_phase (Closing w) f n = refl
        by_phase (Local lc) f n = refl
        by_phase (Global lc) f n = refl
        by_phase (Committed m fc) f n = absurd (cc f)
        by_phase (Aborted m c) f n = absurd (cc f)

pub open_less : (v : View) (m n : ℕ) → m ≤ n → OpenTo v n → OpenTo v m
open_less v m n le h i x dep lt own f j = h i x dep (omega (arith, lt, le)) own f j

-- ---- one that begins

pub no_script : (here : Here) (place : TxPlace) → has_script (nth here.scene.sessions place.session.0) place ≡ false → script_of here place ≡ None
no_script here place e = by_text (nth here.scene.sessions place.session.0) e
  where
    by_ops : (o : Option (List Op)) → is_some o ≡ false → o ≡ None
    by_ops None e = refl
    by_ops (Some ops) e = absurd (cc e)

    by_text : (o : Option Session) → has_script o place ≡ false → script_in o place ≡ None
    by_text None e = refl
    by_text (Some text) e = by_ops (nth text.txs place.index) e

pub some_script : (here : Here) (place : TxPlace) → has_script (nth here.scene.sessions place.session.0) place ≡ true → (ops : List Op) × (script_of here place ≡ Some ops)
some_script here place e = by_text (nth here.scene.sessions place.session.0) e
  where
    by_ops : (o : Option (List Op)) → is_some o ≡ true → (ops : List Op) × (o ≡ Some ops)
    by_ops None e = absurd (cc e)
    by_ops (Some ops) e = (ops, refl)

    by_text : (o : Option Session) → has_script o place ≡ true → (ops : List Op) × (script_in o place ≡ Some ops)
    by_text None e = absurd (cc e)
    by_text (Some text) e = by_ops (nth text.txs place.index) e

next_is : (own : List Own) (place : TxPlace) → IsNext own place → NextPlace own place
next_is own place (at_first l e) = is_first l e
next_is own place (at_next i x l o f e) = is_next i x l o f e

-- what begins at a place where there is a script
pub begins : (w : WorkState) (place : TxPlace) (t rs : ℕ) → MayBegin w place → has_script (nth w.here.scene.sessions place.session.0) place ≡ true
    → rs ≡ max (min t reading_limit) w.doing.view.floor → Begins w.here place rs w.doing
begins w place t rs m e q =
    let s = some_script w.here place e in
    record {
      above = omega (arith, q);
      most = omega (arith, q);
      text = m.text;
      session = m.session;
      node = m.node;
      ops = s.0;
      script = ap (λ o. script_in o place) (sym m.session) ∙ s.1;
      next = next_is w.doing.view.own place m.next;
    }

pub begin_is : (here : Here) (place : TxPlace) (t rs : ℕ) (d : Doing) → has_script (nth here.scene.sessions place.session.0) place ≡ true → rs ≡ max (min t reading_limit) d.view.floor
    → begin here place t (script_of here place) d ≡ Some (begun place rs d)
begin_is here place t rs d e q = let s = some_script here place e in ap (λ o. begin here place t o d) s.1 ∙ ap (λ n. Some (begun place n d)) (sym q)

pub begin_none : (here : Here) (place : TxPlace) (t : ℕ) (d : Doing) → has_script (nth here.scene.sessions place.session.0) place ≡ false → begin here place t (script_of here place) d ≡ None
begin_none here place t d e = ap (λ o. begin here place t o d) (no_script here place e)

-- ---- idle or not

pub begin_moves : (here : Here) (place : TxPlace) (t : ℕ) (d : Doing) (b : Bool) → has_script (nth here.scene.sessions place.session.0) place ≡ b
    → is_some (begin here place t (script_of here place) d) ≡ b
begin_moves here place t d true e = let s = some_script here place e in ap (λ o. is_some (begin here place t o d)) s.1
begin_moves here place t d false e = ap is_some (begin_none here place t d e)
