-- Between two moments that follow one another a transaction aborts by one of the causes.
use Rattle.std.proofs.Common.{Bool, List, None, Option, Some, [], ap, eqb-true, false, if◌then◌else◌, inl, inr, refl, slice_get, subst, sym, true, ℕ, ◌+◌, ◌∙◌, ◌∷◌, ◌≡◌, ◌≢◌}
use Rattle.std.specs.List.{list_any}
use Rattle.str_base.specs.declared.names.Cause.{Cause}
use Rattle.str_base.specs.declared.names.Cause.TheVariants.{Wish}
use Rattle.str_base.specs.declared.names.KeyId.{KeyId}
use Rattle.str_base.specs.declared.names.SessionId.{SessionId}
use Rattle.str_base.specs.declared.names.Value.{Value}
use Rattle.str_base.specs.declared.names.Value.TheVariants.{Absent, Num, Text}
use Rattle.str_base.specs.declared.names.Write.{Write}
use Rattle.str_base.specs.Versions.{same_node}
use Rattle.str_scene.specs.Scenes.{Here, Session, nth}
use Rattle.str_scene.specs.declared.names.Op.{Op}
use Rattle.str_scene.specs.declared.names.Op.TheVariants.{Abort as Stop, Add, Del, Get, Need, Put, Puts}
use Rattle.str_scene.specs.declared.names.TxPlace.{TxPlace}
use Rattle.str_model.specs.declared.messages.Input.{Input}
use Rattle.str_model.specs.declared.messages.Input.TheVariants.{Client}
use Rattle.str_model.specs.Acts.{begun, fresh, in_phase}
use Rattle.str_model.specs.Clients
use Rattle.str_model.specs.Owned.{Owns}
use Rattle.str_model.specs.Scripts
use Rattle.str_model.specs.Scripts.{known, own_op}
use Rattle.str_model.specs.Views.{Aborted, Active, Closing, Committed, Doing, Own, Phase, is_decided, put}
use Rattle.str_model.proofs.Principle.SingleChanges.{InRule, InTurn, Path, Touches, Where, along}
use Rattle.str_model.proofs.Principle.OwnPaths.{free_at, op_or_commit-path}
use Rattle.si_laws.proofs.Reasons.AbortChanges.{AbortedBy, IsStep, NotAborted, now_at_end, ab_stop, aborted_cause, certify_by, finish_open, open_not, put_open, read_now_open}
use Rattle.str_model.proofs.Changes.AnswerChanges.{last_index-some}
use Rattle.str_model.proofs.OwnFacts.TurnsBelow.{leaves}
use Rattle.str_base.proofs.Lists.{get_push, get_set_other}
use Rattle.std.proofs.lemmas.Bool.{cases_eq}

module _ (here : Here) (input : Input) (p : ℕ) where
  -- an operation, or the request to commit
  need_by : (op : Op) (k : KeyId) (o : Option Value) (d : Doing) (x : Own) → Owns d.view p x → is_decided x.phase ≡ false → NotAborted p (Scripts.need_value here p op k x o d).view
  need_by op k (Some v) d x own f = put_open here input p d x (Scripts.finish op v x) own (finish_open here input p op v x f)
  need_by op k None d x own f = read_now_open here input p k x d own f

  op_by : (op : Op) (d : Doing) (x : Own) (lc : Option ℕ) (cause : Cause) (y : Own) → IsStep input x → x.phase ≡ Active → Owns d.view p x → is_decided x.phase ≡ false → own_op here x ≡ Some op → Owns (Scripts.do_op here p x op d).view p y → y.phase ≡ Aborted lc cause
      → AbortedBy here input d p x cause
  op_by (Get k) d x lc cause y st ph own f e o a = absurd (need_by (Get k) k (known x k) d x own f y lc cause o a)
  op_by (Put k n) d x lc cause y st ph own f e o a = absurd (put_open here input p d x (Scripts.wrote k (Num n) x) own refl y lc cause o a)
  op_by (Puts k t) d x lc cause y st ph own f e o a = absurd (put_open here input p d x (Scripts.wrote k (Text t) x) own refl y lc cause o a)
  op_by (Add k n) d x lc cause y st ph own f e o a = absurd (need_by (Add k n) k (known x k) d x own f y lc cause o a)
  op_by (Del k) d x lc cause y st ph own f e o a = absurd (put_open here input p d x (Scripts.wrote k Absent x) own refl y lc cause o a)
  op_by (Need k n) d x lc cause y st ph own f e o a = absurd (need_by (Need k n) k (known x k) d x own f y lc cause o a)
  op_by Stop d x lc cause y st ph own f e o a = ab_stop st ph e (aborted_cause here input p Wish cause lc x y d own o a)

  commit_by : (ws : List Write) (d : Doing) (x : Own) (lc : Option ℕ) (cause : Cause) (y : Own) → IsStep input x → x.phase ≡ Active → own_op here x ≡ None → x.writes ≡ ws → Owns d.view p x → is_decided x.phase ≡ false → Owns (Scripts.ask_commit here p x ws d).view p y → y.phase ≡ Aborted lc cause
      → AbortedBy here input d p x cause
  commit_by [] d x lc cause y st ph e n own f o a = absurd (put_open here input p d x (in_phase (Closing false) x) own refl y lc cause o a)
  commit_by (w ∷ ws) d x lc cause y st ph e n own f o a = certify_by here input p d d x x lc cause y (now_at_end st ph e (λ q. cc (n, q))) own f refl refl refl o a

  next_by : (op : Option Op) (d : Doing) (x : Own) (lc : Option ℕ) (cause : Cause) (y : Own) → IsStep input x → x.phase ≡ Active → Owns d.view p x → is_decided x.phase ≡ false → own_op here x ≡ op → Owns (Scripts.op_or_commit here p x op d).view p y → y.phase ≡ Aborted lc cause
      → AbortedBy here input d p x cause
  next_by (Some op) d x lc cause y st ph own f e o a = op_by op d x lc cause y st ph own f e o a
  next_by None d x lc cause y st ph own f e o a = commit_by x.writes d x lc cause y st ph e refl own f o a

  -- a path in another turn leaves it
  pub left_alone : (w : Where) (d e : Doing) → (w ≢ InRule) → (Touches w p → ⊥) → Path here input w d e → slice_get e.view.own p ≡ slice_get d.view.own p
  left_alone w d e n f q = along here input w (λ z. slice_get z.view.own p ≡ slice_get d.view.own p) (λ a b act h. (leaves here input w a b n act).others p f ∙ h) d e q refl

  abbrev pub Case : Doing → Own → Option ℕ → Cause → Own → Doing → Type 0
  Case d x lc cause y r = Owns r.view p y → y.phase ≡ Aborted lc cause → AbortedBy here input d p x cause

  module _ (d : Doing) (x : Own) (lc : Option ℕ) (cause : Cause) (y : Own) (own : Owns d.view p x) (op : is_decided x.phase ≡ false) where
    -- where its place is as it was
    pub same_case : (r : Doing) → r.view.own ≡ d.view.own → Case d x lc cause y r
    same_case r q o a = absurd (open_not here input p d x own op y lc cause (ap (λ os. slice_get os p) (sym q) ∙ o) a)

    pub kept_case : (r : Doing) → slice_get r.view.own p ≡ slice_get d.view.own p → Case d x lc cause y r
    kept_case r q o a = absurd (open_not here input p d x own op y lc cause (sym q ∙ o) a)

    -- ---- a client step

    begin_case : (place : TxPlace) (t : ℕ) (o : Option (List Op)) (r : Doing) → Clients.begin here place t o d ≡ Some r → Case d x lc cause y r
    unfolding begun
    begin_case place t None r e = absurd (cc e)
    begin_case place t (Some ops) r e =
        let rs : ℕ = Rattle.std.specs.Prelude.max (Rattle.std.specs.Prelude.min t Clients.reading_limit) d.view.floor in
        let q : begun place rs d ≡ r = cc e in
        kept_case r (ap (λ (z : Doing). slice_get z.view.own p) (sym q) ∙ (get_push d.view.own p (fresh place rs) x own ∙ sym own))

    active_case : (i : ℕ) (z : Own) (r : Doing) → IsStep input z → slice_get d.view.own i ≡ Some z → z.phase ≡ Active → Scripts.op_or_commit here i z (own_op here z) d ≡ r → Case d x lc cause y r
    active_case i z r st is f q o a =
        elim (cases_eq p i) [
          | inl s ↦ (let at : Some z ≡ Some x = sym is ∙ (ap (λ k. slice_get d.view.own k) (sym s) ∙ own) in
              let zx : z ≡ x = cc at in
              let run : Owns (Scripts.op_or_commit here p x (own_op here x) d).view p y =
              subst (λ k. Owns (Scripts.op_or_commit here k x (own_op here x) d).view p y) (sym s)
              (subst (λ (u : Own). Owns (Scripts.op_or_commit here i u (own_op here u) d).view p y) zx (subst (λ (u : Doing). Owns u.view p y) (sym q) o)) in
              next_by (own_op here x) d x lc cause y (subst (IsStep input) zx st) (sym (ap (λ (u : Own). u.phase) zx) ∙ f) own op refl run a)
          | inr s ↦ (let path : Path here input (InTurn i) d (Scripts.op_or_commit here i z (own_op here z) d) = op_or_commit-path here input (InTurn i) i z (own_op here z) d (free_at (InTurn i) d i z Active (is, refl) f refl refl) f refl in
              kept_case r (ap (λ (u : Doing). slice_get u.view.own p) (sym q) ∙ left_alone (InTurn i) d (Scripts.op_or_commit here i z (own_op here z) d) (λ e. cc e) (λ e. s e) path) o a)
        ]

    go_on_case : (s : SessionId) (t : ℕ) (text : Session) (i : ℕ) (z : Own) (ph : Phase) (r : Doing) → IsStep input z → slice_get d.view.own i ≡ Some z → z.phase ≡ ph → Clients.go_on here s t text i z ph d ≡ Some r → Case d x lc cause y r
    go_on_case s t text i z Active r st is f e = active_case i z r st is f (cc e)
    go_on_case s t text i z (Committed l c) r st is f e = begin_case (Clients.place_in s (z.place.index + 1)) t (nth text.txs (z.place.index + 1)) r e
    go_on_case s t text i z (Aborted l c) r st is f e = begin_case (Clients.place_in s (z.place.index + 1)) t (nth text.txs (z.place.index + 1)) r e
    go_on_case s t text i z _ r st is f e = absurd (cc e)

    go_on_at_case : (s : SessionId) (t : ℕ) (text : Session) (i : ℕ) (o : Option Own) (r : Doing) → ((z : Own) → slice_get d.view.own i ≡ Some z → IsStep input z) → slice_get d.view.own i ≡ o → Clients.go_on_at here s t text i o d ≡ Some r → Case d x lc cause y r
    go_on_at_case s t text i None r st is e = absurd (cc e)
    go_on_at_case s t text i (Some z) r st is e = go_on_case s t text i z z.phase r (st z is) is refl e

    -- the session's last transaction is stepped
    step_of : (s : SessionId) (t i : ℕ) (z : Own) → input ≡ Client s t → Clients.last_index (Clients.of_session s) d.view.own ≡ Some i → slice_get d.view.own i ≡ Some z → IsStep input z
    step_of s t i z c l is =
        let n : s.0 ≡ z.place.session.0 = sym (eqb-true z.place.session.0 s.0 ((last_index-some (Clients.of_session s) d.view.own i l).passes z is)) in
        (t, c ∙ (λ j. Client (record { 0 = n j }) t))

    go_on_last_case : (s : SessionId) (t : ℕ) (text : Session) (o : Option ℕ) (r : Doing) → input ≡ Client s t → Clients.last_index (Clients.of_session s) d.view.own ≡ o → Clients.go_on_last here s t text o d ≡ Some r → Case d x lc cause y r
    go_on_last_case s t text None r c l e = begin_case (Clients.place_in s 1) t (nth text.txs 1) r e
    go_on_last_case s t text (Some i) r c l e = go_on_at_case s t text i (slice_get d.view.own i) r (λ z is. step_of s t i z c l is) refl e

    session_case : (s : SessionId) (t : ℕ) (o : Option Session) (r : Doing) → input ≡ Client s t → Clients.in_session here s t o d ≡ Some r → Case d x lc cause y r
    session_case s t None r c e = absurd (cc e)
    session_case s t (Some text) r c e = by_node (same_node text.node here.node) e
      where
        by_node : (b : Bool) → (if b then Clients.go_on_last here s t text (Clients.last_index (Clients.of_session s) d.view.own) d else None) ≡ Some r → Case d x lc cause y r
        by_node true q = go_on_last_case s t text (Clients.last_index (Clients.of_session s) d.view.own) r c refl q
        by_node false q = absurd (cc q)

    pub client_case : (s : SessionId) (t : ℕ) (r : Doing) → input ≡ Client s t → Clients.client_rule here s t d ≡ Some r → Case d x lc cause y r
    unfolding Clients.client_rule
    client_case s t r c e = session_case s t (nth here.scene.sessions s.0) r c e

    -- ---- a message

    -- a reply or an answer sets a place without an abort
    pub set_case : (i : ℕ) (z u : Own) (r : Doing) → slice_get d.view.own i ≡ Some z → is_decided u.phase ≡ false → put i u d ≡ r → Case d x lc cause y r
    set_case i z u r is f q o a =
        elim (cases_eq p i) [
          | inl s ↦ (let at : Owns (put p u d).view p y = subst (λ k. Owns (put k u d).view p y) (sym s) (subst (λ (w : Doing). Owns w.view p y) (sym q) o) in absurd (put_open here input p d x u own f y lc cause at a))
          | inr s ↦ kept_case r (ap (λ (w : Doing). slice_get w.view.own p) (sym q) ∙ get_set_other d.view.own i p u s) o a
        ]
