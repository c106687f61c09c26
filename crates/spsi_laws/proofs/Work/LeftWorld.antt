-- What an event leaves of the work of a cluster.
use Rattle.std.proofs.Common.{Bool, List, None, Option, Some, [], add-one, add-sub_cancel, ap, append-nil, arith, drop, eq-eqb, eqb-true, false, inl, inr, length, length-append, map, nat_lt, not, option_map, refl, replicate, slice_get, slice_set, sub-one, subst, suc, sym, true, zero, ℕ, ◌*◌, ◌++◌, ◌+◌, ◌-◌, ◌<◌, ◌==◌, ◌∙◌, ◌∷◌, ◌≡◌, ◌≢◌, ◌≤◌}
use Rattle.std.proofs.lemmas.List.Sums.{sum_by-cons}
use Rattle.std.specs.List.{count_by, sum_by}
use Rattle.si_laws.proofs.Stages.ParticipantSeats.{own_seat}
use Rattle.si_laws.proofs.Sessions.SessionHolds.{length_copies}
use Rattle.spsi_laws.proofs.Work.LeftActs.{Eases, owns_left, todo, waits_left, weights, weights_append}
use Rattle.spsi_laws.proofs.Work.LeftHome.{HomeFit, fit-act, mine}
use Rattle.spsi_laws.proofs.Work.LeftOwn.{left_fresh, left_of}
use Rattle.spsi_laws.proofs.Work.LeftPass.{fit_path, pass_eased, pass_fit, waits_eased}
use Rattle.spsi_laws.proofs.Work.LeftRule.{BeginsOne, Ruled, RuledTo, credit, r_begins, r_eased, rule_ruled}
use Rattle.spsi_laws.proofs.Work.LeftSums.{count_push}
use Rattle.str_base.specs.declared.names.NodeId.{NodeId}
use Rattle.str_base.specs.declared.names.PartId.{PartId}
use Rattle.str_base.specs.Versions.{same_node}
use Rattle.partition_map.specs.declared.rows.Asked.{Asked}
use Rattle.str_model.proofs.Principle.SingleChanges.{Act, InRule, PathTo, Where, act_abort, act_abort_came, act_accept, act_ack, act_ask, act_begin, act_certify, act_close, act_commit, act_commit_came, act_mark, act_put, act_refuse, act_reply, act_request, act_take, act_unwait, act_wait}
use Rattle.str_model.proofs.Principle.StepPaths.{StepPath, step-keeps}
use Rattle.str_model.proofs.Principle.Everywhere.{IsSeen, Stage, at_place, during, steps_everywhere}
use Rattle.str_model.proofs.Principle.RulePaths.{rule-path}
use Rattle.str_model.specs.Acts.{abort_letters, aborted, accepted, acked, asked, asked_ones, begun, certified, closed, commit_came, commit_letters, committed, copies, fresh, marked, marks_in, refused, replied, requested, taken, waits}
use Rattle.str_model.specs.Acts
use Rattle.str_model.specs.Gates.{dep_parts}
use Rattle.str_model.specs.Pass.{pass_to}
use Rattle.str_model.specs.Runs.{World, give, happens, opening, opening_view, run, run_from}
use Rattle.str_model.specs.Runs
use Rattle.str_model.specs.Steps
use Rattle.str_model.specs.Steps.{after_rule, step}
use Rattle.str_model.specs.Views.{Doing, Own, View, letter, name_of, starts}
use Rattle.str_model.specs.Waiters.{wait_turns}
use Rattle.str_model.specs.Work.{begun_in, body_weight, share, unbegun_left, view_left, views_left}
use Rattle.str_model.specs.declared.messages.Body.TheVariants.{Abort, Ack, Commit, Prepare, ReadReply, ReadReq, Refuse as Refusal, Replicate}
use Rattle.str_model.specs.declared.messages.Input.{Input}
use Rattle.str_model.specs.declared.messages.Input.TheVariants.{Client, Deliver}
use Rattle.str_model.specs.declared.messages.Message.{Message}
use Rattle.str_scene.specs.declared.names.Event.{Event}
use Rattle.str_scene.specs.declared.names.Event.TheVariants.{Client as ClientEvent, Deliver as DeliverEvent}
use Rattle.str_scene.specs.declared.names.Op.{Op}
use Rattle.str_scene.specs.declared.names.TxPlace.{TxPlace}
use Rattle.str_scene.specs.Scenes.{Here, Scene, Session, first_or, in_part, leads, nth, ops_at, or_none, others, replicas, script_at}
use Rattle.str_model.proofs.ListCounts.{one_if}
use Rattle.std.proofs.lemmas.Bool.{false_from_ne_true}
use Rattle.str_base.proofs.Lists.{drop_there, got_replicate, got_set, sum_by-set_got}
use Rattle.str_base.proofs.Members.{in_append, in_map}
use Rattle.str_base.specs.Members.{In}
use Rattle.std.proofs.lemmas.List.{length-set}
use Rattle.str_model.proofs.ViewFacts.GatesEnd.{gate_open}

-- ---- a whole step

-- a step in which a transaction begins
pub record BeginsStep (here : Here) (v : View) (cost : ℕ) (e : Doing) : Type 0 where
  pub s : ℕ
  pub text : Session
  pub ops : List Op
  pub session : nth here.scene.sessions s ≡ Some text
  pub node : text.node.0 ≡ here.node.0
  pub script : slice_get text.txs (count_by (mine s) v.own) ≡ Some ops
  pub one_more : count_by (mine s) e.view.own ≡ count_by (mine s) v.own + 1
  pub same : (n : ℕ) → n ≢ s → count_by (mine n) e.view.own ≡ count_by (mine n) v.own
  pub less : todo here e + 1 ≤ todo here (starts v) + share here.scene text.node ops

pub data StepLeaves (here : Here) (v : View) (cost : ℕ) (e : Doing) : Type 0 where
  l_eased : Eases here (starts v) e 1 cost → StepLeaves here v cost e
  l_begins : BeginsStep here v cost e → StepLeaves here v cost e

module _ (here : Here) (input : Input) where
  after_eased : (r : Doing) → HomeFit here r.view → Eases here r (after_rule here r) 0 0
  unfolding after_rule
  after_eased r h =
      let n = length r.view.own in
      let e : Doing = pass_to here n r in
      Rattle.spsi_laws.proofs.Work.LeftActs.eases_then here r e (wait_turns here [] e.view.waiters e) 0 0 (pass_eased here input n r h)
      (waits_eased here input [] e.view.waiters e refl (pass_fit here input n r h))

  begun_owns : (place : TxPlace) (rs : ℕ) (d : Doing) → (begun place rs d).view.own ≡ d.view.own ++ fresh place rs ∷ []
  unfolding begun
  begun_owns place rs d = refl

  begun_todo : (place : TxPlace) (rs : ℕ) (d : Doing) → todo here (begun place rs d) ≡ todo here d + left_of here (fresh place rs)
  unfolding begun todo owns_left
  begun_todo place rs d = let a = Rattle.std.proofs.lemmas.List.Sums.sum_by_push (left_of here) d.view.own (fresh place rs) in omega (arith, a)

  script_is : (place : TxPlace) (text : Session) (ops : List Op) → nth here.scene.sessions place.session.0 ≡ Some text → nth text.txs place.index ≡ Some ops → script_at here.scene place ≡ ops
  script_is place text ops s q = ap (λ o. ops_at o place.index) s ∙ ap or_none q

  at_number : {A : Type 0} (xs : List A) (n c : ℕ) (x : A) → nth xs n ≡ Some x → n ≡ c + 1 → slice_get xs c ≡ Some x
  at_number xs zero c x e q = absurd (cc e)
  at_number xs (suc k) c x e q = let s : k ≡ c = omega (arith, q) in subst (λ m. slice_get xs m ≡ Some x) s e

  begins_step : (v : View) (cost : ℕ) (r e : Doing) → BeginsOne here (starts v) r → Eases here r e 0 0 → BeginsStep here v cost e
  begins_step v cost r e b l =
      let s : ℕ = b.place.session.0 in
      let own : r.view.own ≡ v.own ++ fresh b.place b.rs ∷ [] = ap (λ (z : Doing). z.view.own) b.is ∙ begun_owns b.place b.rs (starts v) in
      let counts : (n : ℕ) → count_by (mine n) e.view.own ≡ count_by (mine n) v.own + one_if (b.place.session.0 == n) =
      λ n. l.begun n ∙ (ap (λ xs. count_by (mine n) xs) own ∙ count_push (mine n) v.own (fresh b.place b.rs)) in
      let node : b.text.node.0 ≡ here.node.0 = eqb-true b.text.node.0 here.node.0 b.node in
      record {
        s = s;
        text = b.text;
        ops = b.ops;
        session = b.session;
        node = node;
        script = at_number b.text.txs b.place.index (count_by (mine s) v.own) b.ops b.script b.number;
        one_more = counts s ∙ ap (λ z. count_by (mine s) v.own + one_if z) (eq-eqb s s refl);
        same = λ n ne. counts n ∙ (ap (λ z. count_by (mine n) v.own + one_if z) (false_from_ne_true (b.place.session.0 == n) (λ q. ne (sym (eqb-true b.place.session.0 n q)))) ∙ plus_zero (count_by (mine n) v.own));
        less =
            let a = l.less in
            let t : todo here r ≡ todo here (starts v) + left_of here (fresh b.place b.rs) = ap (todo here) b.is ∙ begun_todo b.place b.rs (starts v) in
            let f = left_fresh here b.place b.rs b.text.node b.ops (λ j. record { 0 = node j }) (script_is b.place b.text b.ops b.session b.script) in
            omega (arith, a, t, f);
      }
    where
      plus_zero : (n : ℕ) → n + 0 ≡ n
      plus_zero n = omega arith

  with_after : (v : View) (cost : ℕ) (o : Option Doing) → RuledTo here (starts v) cost o → ((r : Doing) → o ≡ Some r → HomeFit here r.view) → (e : Doing) → option_map (after_rule here) o ≡ Some e → StepLeaves here v cost e
  with_after v cost None r h e q = absurd (cc q)
  with_after v cost (Some d) r h e q =
      let is : after_rule here d ≡ e = cc q in
      let l = after_eased d (h d refl) in
      subst (StepLeaves here v cost) is (by_rule r l)
    where
      by_rule : Ruled here (starts v) cost d → Eases here d (after_rule here d) 0 0 → StepLeaves here v cost (after_rule here d)
      by_rule (r_eased k) l = l_eased (Rattle.spsi_laws.proofs.Work.LeftActs.eases_then here (starts v) d (after_rule here d) 1 cost k l)
      by_rule (r_begins b) l = l_begins (begins_step v cost d (after_rule here d) b l)

  pub step_leaves : (v : View) (e : Doing) → HomeFit here v → step here input v ≡ Some e → StepLeaves here v (credit here.scene input) e
  unfolding step
  step_leaves v e h q =
      let d : Doing = starts v in
      with_after v (credit here.scene input) (Steps.rule here input d) (rule_ruled here input d h)
      (λ r k. fit_path here input InRule d r (subst (λ (o : Option Doing). PathTo here input InRule d o) k (rule-path here input InRule refl d)) h) e q

-- ---- every message counts for something

abbrev pub Heavy : Scene → List Message → Type 0
Heavy scene ms = (m : Message) → In m ms → 1 ≤ body_weight scene m.body

module _ (here : Here) (input : Input) (w : Where) where
  kept_heavy : (d e : Doing) (ms : List Message) → e.sent ≡ d.sent ++ ms → Heavy here.scene ms → Heavy here.scene d.sent → Heavy here.scene e.sent
  kept_heavy d e ms q new old m k = elim (in_append d.sent ms m (subst (λ (zs : List Message). In m zs) q k)) [ inl j ↦ old m j | inr j ↦ new m j ]

  one_heavy : (m : Message) → 1 ≤ body_weight here.scene m.body → Heavy here.scene (m ∷ [])
  one_heavy m l z k = elim k [ inl q ↦ subst (λ (y : Message). 1 ≤ body_weight here.scene y.body) q l | inr j ↦ absurd j ]

  map_heavy : {A : Type 0} (f : A → Message) (xs : List A) → ((x : A) → 1 ≤ body_weight here.scene (f x).body) → Heavy here.scene (map f xs)
  map_heavy f xs h m k = let r = in_map f xs m k in subst (λ (y : Message). 1 ≤ body_weight here.scene y.body) r.2 (h r.0)

  some_other : (n : NodeId) (rs : List NodeId) (r : NodeId) → In r rs → r.0 ≢ n.0 → 1 ≤ length (others n rs)
  some_other n [] r h ne = absurd h
  some_other n (x ∷ rs) r (inl q) ne =
      let f : same_node x n ≡ false = false_from_ne_true (same_node x n) (λ t. ne (ap (λ (z : NodeId). z.0) (sym q) ∙ eqb-true x.0 n.0 t)) in rw f (omega arith)
  some_other n (x ∷ rs) r (inr k) ne =
      let rec = some_other n rs r k ne in
      Rattle.str_model.proofs.Changes.SnapshotsGain.if_elim (λ (zs : List NodeId). 1 ≤ length zs) (not (same_node x n)) (x ∷ others n rs) (others n rs) (λ t. omega arith) (λ t. rec)

  ask_heavy : (i lc : ℕ) (x : Own) (p : PartId) → 1 ≤ length (others here.node (replicas here.scene p)) → Heavy here.scene (Acts.ask_letters here i lc x p (replicas here.scene p))
  ask_heavy i lc x p l =
      Rattle.str_model.proofs.Changes.SnapshotsGain.if_elim (Heavy here.scene) (leads here.node (replicas here.scene p))
      (map (λ (r : NodeId). letter here r (Replicate (name_of here i) p (record { 0 = x.snap.rs }) (record { 0 = lc }) (Rattle.std.proofs.Common.filter (in_part here.scene p) x.writes))) (others here.node (replicas here.scene p)))
      (letter here (first_or here.node (replicas here.scene p)) (Prepare (name_of here i) p (record { 0 = x.snap.rs }) (record { 0 = lc }) (Rattle.std.proofs.Common.filter (in_part here.scene p) x.writes)) ∷ [])
      (λ t. map_heavy (λ (r : NodeId). letter here r (Replicate (name_of here i) p (record { 0 = x.snap.rs }) (record { 0 = lc }) (Rattle.std.proofs.Common.filter (in_part here.scene p) x.writes))) (others here.node (replicas here.scene p)) (λ z. omega arith))
      (λ t. one_heavy (letter here (first_or here.node (replicas here.scene p)) (Prepare (name_of here i) p (record { 0 = x.snap.rs }) (record { 0 = lc }) (Rattle.std.proofs.Common.filter (in_part here.scene p) x.writes))) (omega (arith, l)))

  heavy-act : (d e : Doing) → Act here input w d e → HomeFit here d.view → Heavy here.scene d.sent → Heavy here.scene e.sent
  unfolding begun marked aborted committed closed certified asked acked requested accepted taken refused waits replied commit_came Acts.abort_came
  heavy-act d e (act_begin place rs d' r h) fit k = k
  heavy-act d e (act_mark g t d' rd) fit k = k
  heavy-act d e (act_put i x y d' own g) fit k = k
  heavy-act d e (act_request i g m x d' own h) fit k =
      kept_heavy d e (letter here m (ReadReq (name_of here i) g (record { 0 = x.snap.rs })) ∷ []) refl (one_heavy (letter here m (ReadReq (name_of here i) g (record { 0 = x.snap.rs }))) (omega arith)) k
  heavy-act d e (act_certify i lc snap x d' own f n c) fit k = k
  heavy-act d e (act_ask i lc p x d' own f l g) fit k =
      let r = gate_open x.snap lc x.parts (map (dep_parts here d'.view.own) x.snap.deps) p g in
      let s = own_seat here d'.view.versions i x (fit.home i x own.0) r.0 r.1 in
      let l1 : 1 ≤ length (others here.node (replicas here.scene r.0.part)) = some_other here.node (replicas here.scene r.0.part) r.0.node s.replica s.other in
      kept_heavy d e (Acts.ask_letters here i lc x p (replicas here.scene p)) refl (ask_heavy i lc x p (subst (λ (q : PartId). 1 ≤ length (others here.node (replicas here.scene q))) r.2 l1)) k
  heavy-act d e (act_ack i lc from t q ts parts x d' own c r g) fit k = k
  heavy-act d e (act_abort i cause x d' own f y) fit k =
      kept_heavy d e (abort_letters here i x.parts) refl (map_heavy (λ (a : Asked). letter here a.node (Abort (name_of here i) a.part)) (asked_ones x.parts) (λ z. omega arith)) k
  heavy-act d e (act_commit i lc fc x d' own l n le f g) fit k =
      kept_heavy d e (commit_letters here i x fc d'.view) refl
      (map_heavy (λ (a : Asked). letter here a.node (Commit (name_of here i) a.part (record { 0 = fc }) (marks_in here d'.view a.part x.writes))) x.parts (λ z. omega arith)) k
  heavy-act d e (act_close i x d' own q n) fit k = k
  heavy-act d e (act_accept a ts d' h m) fit k =
      kept_heavy d e (letter here a.tx.node (Ack a.tx a.part (record { 0 = ts })) ∷ copies here a (replicas here.scene a.part)) refl
      (λ z j. elim j [
        | inl q ↦ subst (λ (y : Message). 1 ≤ body_weight here.scene y.body) q (omega arith)
        | inr n ↦ map_heavy (λ (r : NodeId). letter here r (Replicate a.tx a.part a.rs a.lc a.writes)) (others a.tx.node (others here.node (replicas here.scene a.part))) (λ y. omega arith) z n
      ]) k
  heavy-act d e (act_refuse a u g d' h m) fit k = kept_heavy d e (letter here a.tx.node (Refusal a.tx a.part u g) ∷ []) refl (one_heavy (letter here a.tx.node (Refusal a.tx a.part u g)) (omega arith)) k
  heavy-act d e (act_take from a d' c l) fit k = kept_heavy d e (letter here a.tx.node (Ack a.tx a.part _) ∷ []) refl (one_heavy (letter here a.tx.node (Ack a.tx a.part _)) (omega arith)) k
  heavy-act d e (act_wait r d' h) fit k = k
  heavy-act d e (act_unwait kept rest r d' h) fit k = k
  heavy-act d e (act_reply t g rs v u fc d' h) fit k =
      kept_heavy d e (letter here t.node (ReadReply t g v u (record { 0 = fc })) ∷ []) refl (one_heavy (letter here t.node (ReadReply t g v u (record { 0 = fc }))) (omega arith)) k
  heavy-act d e (act_commit_came from t q fc ms d' c h) fit k = k
  heavy-act d e (act_abort_came from t q d' c h) fit k = k

-- ---- what holds of each state

pub record Sound (scene : Scene) (nodes : List View) (sent : List Message) : Type 0 where
  pub fits : (n : ℕ) (v : View) → slice_get nodes n ≡ Some v → HomeFit (at_place scene n) v
  pub heavy : Heavy scene sent

pub fit_opening : (here : Here) (scene : Scene) → HomeFit here (opening_view scene)
fit_opening here scene =
    record {
      home = λ i x o. absurd (cc o);
      scripts = λ i x o. absurd (cc o);
      together = λ i x o. absurd (cc o);
      counted = λ s i x l o. absurd (cc o);
      masters = λ a k. absurd k;
    }

sound-keeps : (scene : Scene) (s : Stage) (i : ℕ) (v : View) (input : Input) (e : Doing) → slice_get s.nodes i ≡ Some v → IsSeen s input → StepPath (at_place scene i) input (starts v) e
    → Sound scene s.nodes s.sent → Sound scene (during s i e).nodes (during s i e).sent
sound-keeps scene s i v input e is seen p h =
    let here : Here = at_place scene i in
    let r = step-keeps here input (λ d. HomeFit here d.view × Heavy scene d.sent) (λ w d f a k. (fit-act here input w d f a k.0, heavy-act here input w d f a k.0 k.1)) (starts v) e p (h.fits i v is, λ m k. absurd k) in
    record {
      fits = λ n u g. elim (got_set s.nodes i n e.view u g) [
        | inl q ↦ Rattle.std.proofs.Common.subst₂ (λ (m : ℕ) (z : View). HomeFit (at_place scene m) z) (sym q.0) (sym q.1) r.0
        | inr q ↦ h.fits n u q.1
      ];
      heavy = λ m k. elim (in_append s.sent e.sent m k) [ inl j ↦ h.heavy m j | inr j ↦ r.1 m j ];
    }

pub sound_run : (scene : Scene) (es : List Event) → Sound scene (run scene es).nodes (run scene es).sent
sound_run scene es =
    steps_everywhere scene (λ s. Sound scene s.nodes s.sent) (sound-keeps scene)
    (record { fits = λ n v g. subst (HomeFit (at_place scene n)) (sym (got_replicate scene.nodes n (opening_view scene) v g)) (fit_opening (at_place scene n) scene); heavy = λ m k. absurd k }) es

-- ---- as many flags as messages

abbrev pub Even : World → Type 0
Even w = length w.given ≡ length w.sent

stepped_even : (e : Event) (i : ℕ) (w : World) (o : Option Doing) → Even w → Even (Runs.stepped e i w o)
stepped_even e i w None h = h
stepped_even e i w (Some d) h =
    let a = length-append w.given (replicate (length d.sent) false) in
    let b = length_copies (length d.sent) false in
    let c = length-append w.sent d.sent in
    omega (arith, a, b, c, h)

step_at_even : (scene : Scene) (e : Event) (n : NodeId) (input : Input) (w : World) (o : Option View) → Even w → Even (Runs.step_at scene e n input w o)
step_at_even scene e n input w None h = h
step_at_even scene e n input w (Some v) h = stepped_even e (n.0 - 1) w (step (record { scene = scene; node = n }) input v) h

happens_even : (scene : Scene) (w : World) (e : Event) → Even w → Even (happens scene w e)
unfolding happens
happens_even scene w (ClientEvent s t) h = by_session (nth scene.sessions s.0)
  where
    by_session : (o : Option Session) → Even (Runs.client_event scene (ClientEvent s t) s t w o)
    by_session None = h
    by_session (Some text) = step_at_even scene (ClientEvent s t) text.node (Client s t) w (nth w.nodes text.node.0) h
happens_even scene w (DeliverEvent i) h = by_message (nth w.sent i)
  where
    by_message : (o : Option Message) → Even (Runs.deliver_event scene (DeliverEvent i) i w o)
    by_message None = h
    by_message (Some m) = step_at_even scene (DeliverEvent i) m.receiver (Deliver m) (give i w) (nth w.nodes m.receiver.0) (length-set w.given (i - 1) true ∙ h)

from_even : (scene : Scene) (w : World) (es : List Event) → Even w → Even (run_from scene w es)
from_even scene w [] h = h
from_even scene w (e ∷ es) h = from_even scene (happens scene w e) es (happens_even scene w e h)

pub even_run : (scene : Scene) (es : List Event) → Even (run scene es)
even_run scene es = from_even scene (opening scene) es refl

-- ---- sums over nodes

pub begun_set : (vs : List View) (i s : ℕ) (v u : View) → slice_get vs i ≡ Some v → begun_in (slice_set vs i u) s + count_by (mine s) v.own ≡ begun_in vs s + count_by (mine s) u.own
begun_set vs i s v u e = sum_by-set_got (λ (z : View). count_by (mine s) z.own) vs i v u e

pub views_set : (scene : Scene) (n : ℕ) (vs : List View) (i : ℕ) (v u : View) → slice_get vs i ≡ Some v
    → views_left scene n (slice_set vs i u) + view_left scene (record { 0 = n + i }) v ≡ views_left scene n vs + view_left scene (record { 0 = n + i }) u
views_set scene n [] i v u e = absurd (cc e)
views_set scene n (z ∷ vs) zero v u e =
    let q : z ≡ v = cc e in
    let k : n + 0 ≡ n = omega arith in
    let a : view_left scene (record { 0 = n + 0 }) v ≡ view_left scene (record { 0 = n }) z = ap (λ m. view_left scene (record { 0 = m }) v) k ∙ ap (view_left scene (record { 0 = n })) (sym q) in
    let b : view_left scene (record { 0 = n + 0 }) u ≡ view_left scene (record { 0 = n }) u = ap (λ m. view_left scene (record { 0 = m }) u) k in
    sums _ _ _ _ _ a b
  where
    sums : (vz vu a b r : ℕ) → a ≡ vz → b ≡ vu → (vu + r) + a ≡ (vz + r) + b
    sums vz vu a b r p q = omega (arith, p, q)
views_set scene n (z ∷ vs) (suc i) v u e =
    let r = views_set scene (n + 1) vs i v u e in
    let k : n + suc i ≡ (n + 1) + i = omega arith in
    let a : view_left scene (record { 0 = n + suc i }) v ≡ view_left scene (record { 0 = (n + 1) + i }) v = ap (λ m. view_left scene (record { 0 = m }) v) k in
    let b : view_left scene (record { 0 = n + suc i }) u ≡ view_left scene (record { 0 = (n + 1) + i }) u = ap (λ m. view_left scene (record { 0 = m }) u) k in
    sums _ _ _ _ _ _ _ r a b
  where
    sums : (z s t av au bv bu : ℕ) → s + bv ≡ t + bu → av ≡ bv → au ≡ bu → (z + s) + av ≡ (z + t) + au
    sums z s t av au bv bu p q r = omega (arith, p, q, r)

pub unbegun_same : (scene : Scene) (vs us : List View) (n : ℕ) (rest : List Session) → ((s : ℕ) → n ≤ s → begun_in us s ≡ begun_in vs s) → unbegun_left scene us n rest ≡ unbegun_left scene vs n rest
unbegun_same scene vs us n [] h = refl
unbegun_same scene vs us n (text ∷ rest) h =
    let a : sum_by (share scene text.node) (drop (begun_in us n) text.txs) ≡ sum_by (share scene text.node) (drop (begun_in vs n) text.txs) =
    ap (λ c. sum_by (share scene text.node) (drop c text.txs)) (h n (omega arith)) in
    let b = unbegun_same scene vs us (n + 1) rest (λ s l. h s (omega (arith, l))) in
    two a b
  where
    two : {a b c d : ℕ} → a ≡ b → c ≡ d → a + c ≡ b + d
    two p q = cc (p, q)

pub unbegun_less : (scene : Scene) (vs us : List View) (n j : ℕ) (rest : List Session) (text : Session) (ops : List Op) → slice_get rest j ≡ Some text → slice_get text.txs (begun_in vs (n + j)) ≡ Some ops
    → begun_in us (n + j) ≡ begun_in vs (n + j) + 1 → ((s : ℕ) → s ≢ n + j → begun_in us s ≡ begun_in vs s)
    → unbegun_left scene us n rest + share scene text.node ops ≡ unbegun_left scene vs n rest
unbegun_less scene vs us n j [] text ops e q a h = absurd (cc e)
unbegun_less scene vs us n zero (first ∷ rest) text ops e q a h =
    let m : n + 0 ≡ n = omega arith in
    let k : first ≡ text = cc e in
    let b = unbegun_same scene vs us (n + 1) rest (λ s l. h s (λ z. absurd (omega (arith, z, l)))) in
    let c : begun_in us n ≡ suc (begun_in vs n) = ap (λ s. begun_in us s) (sym m) ∙ (a ∙ (ap (λ s. begun_in vs s + 1) m ∙ add-one (begun_in vs n))) in
    let g : slice_get first.txs (begun_in vs n) ≡ Some ops = ap (λ (t : Session). slice_get t.txs (begun_in vs n)) k ∙ (ap (λ s. slice_get text.txs (begun_in vs s)) (sym m) ∙ q) in
    let d : sum_by (share scene first.node) (drop (begun_in vs n) first.txs) ≡ sum_by (share scene first.node) (ops ∷ drop (suc (begun_in vs n)) first.txs) =
    ap (λ xs. sum_by (share scene first.node) xs) (drop_there first.txs (begun_in vs n) ops g) in
    let i = sum_by-cons (share scene first.node) ops (drop (suc (begun_in vs n)) first.txs) in
    let o : sum_by (share scene first.node) (drop (begun_in us n) first.txs) ≡ sum_by (share scene first.node) (drop (suc (begun_in vs n)) first.txs) =
    ap (λ s. sum_by (share scene first.node) (drop s first.txs)) c in
    let p : share scene first.node ops ≡ share scene text.node ops = ap (λ (t : Session). share scene t.node ops) k in
    sums _ _ _ _ _ _ _ _ b d i o p
  where
    sums : (bu bv su sv sd sc so st : ℕ) → bu ≡ bv → sv ≡ sc → sc ≡ so + sd → su ≡ sd → so ≡ st → (su + bu) + st ≡ sv + bv
    sums bu bv su sv sd sc so st b d i o p = omega (arith, b, d, i, o, p)
unbegun_less scene vs us n (suc j) (first ∷ rest) text ops e q a h =
    let m : n + suc j ≡ (n + 1) + j = omega arith in
    let r = unbegun_less scene vs us (n + 1) j rest text ops e (ap (λ s. slice_get text.txs (begun_in vs s)) (sym m) ∙ q)
    (ap (λ s. begun_in us s) (sym m) ∙ (a ∙ ap (λ s. begun_in vs s + 1) m)) (λ s l. h s (λ z. l (z ∙ m))) in
    let b : sum_by (share scene first.node) (drop (begun_in us n) first.txs) ≡ sum_by (share scene first.node) (drop (begun_in vs n) first.txs) =
    ap (λ c. sum_by (share scene first.node) (drop c first.txs)) (h n (λ z. omega (arith, z, m))) in
    sums _ _ _ _ _ r b
  where
    sums : (su sv bu bv st : ℕ) → bu + st ≡ bv → su ≡ sv → (su + bu) + st ≡ sv + bv
    sums su sv bu bv st r b = omega (arith, r, b)

-- one alone counts
pub sum_only : {A : Type 0} (f : A → ℕ) (xs : List A) (i : ℕ) (x : A) → slice_get xs i ≡ Some x → ((j : ℕ) (y : A) → j ≢ i → slice_get xs j ≡ Some y → f y ≡ 0) → sum_by f xs ≡ f x
sum_only f [] i x e h = absurd (cc e)
sum_only f (z ∷ xs) zero x e h =
    let a = sum_by-cons f z xs in
    let b = none f xs (λ j y k. h (suc j) y (λ q. cc q) k) in
    let c : f z ≡ f x = (let q : z ≡ x = cc e in ap f q) in
    omega (arith, a, b, c)
  where
    none : {A : Type 0} (f : A → ℕ) (xs : List A) → ((j : ℕ) (y : A) → slice_get xs j ≡ Some y → f y ≡ 0) → sum_by f xs ≡ 0
    none f [] h = refl
    none f (y ∷ ys) h =
        let a = sum_by-cons f y ys in
        let b = none f ys (λ j u k. h (suc j) u k) in
        let c = h 0 y refl in
        omega (arith, a, b, c)
sum_only f (z ∷ xs) (suc i) x e h =
    let a = sum_by-cons f z xs in
    let b = sum_only f xs i x e (λ j y ne k. h (suc j) y (λ q. ne (cc q)) k) in
    let c = h 0 z (λ q. cc q) refl in
    omega (arith, a, b, c)
