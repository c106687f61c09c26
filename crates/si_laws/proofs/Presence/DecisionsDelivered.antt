-- Each decision that was given to its receiver is in the receiver's done list, where decisions are not strange.
use Rattle.si_laws.proofs.Presence.DecisionsDone.{after_step, decided_step, step_in}
use Rattle.si_laws.proofs.Stages.LinkedStates.{one_of}
use Rattle.si_laws.proofs.Stages.ParticipantSeats.{of_nth, to_nth}
use Rattle.si_laws.proofs.Sessions.SessionHolds.{length_copies}
use Rattle.str_model.proofs.Changes.PairWords.{Has}
use Rattle.str_model.proofs.Principle.StepPaths.{StepTo, step-path}
use Rattle.str_model.proofs.Principle.Everywhere.{at_place, run-append}
use Rattle.si_laws.specs.Laws.Presence.{Decides}
use Rattle.std.proofs.Common.{Bool, List, None, Option, Some, [], ap, arith, false, inl, inr, length, refl, replicate, slice_get, slice_set, subst, subst₂, suc, sym, true, zero, ℕ, ◌++◌, ◌+◌, ◌-◌, ◌<◌, ◌∙◌, ◌∷◌, ◌≡◌, ◌≢◌, ◌⊎◌}
use Rattle.std.proofs.lemmas.Option.{slice_get_within}
use Rattle.str_base.specs.Versions.{same_node}
use Rattle.str_base.specs.declared.names.NodeId.{NodeId}
use Rattle.str_base.specs.declared.names.PartId.{PartId}
use Rattle.str_base.specs.declared.names.TxId.{TxId}
use Rattle.str_model.specs.Proposals.{is_pair}
use Rattle.str_model.specs.Runs
use Rattle.str_model.specs.Runs.{World, at_node, client_event, deliver_event, give, happens, opening, run, run_from, step_at, stepped}
use Rattle.str_model.specs.Steps
use Rattle.str_model.specs.Strange.{is_valid}
use Rattle.str_model.specs.Views.{Doing, View, starts}
use Rattle.str_model.specs.declared.messages.Input.TheVariants.{Client, Deliver}
use Rattle.str_model.specs.declared.messages.Input.{Input}
use Rattle.str_model.specs.declared.messages.Message.{Message}
use Rattle.str_scene.specs.Scenes.{Scene, Session, hosts, nth}
use Rattle.str_scene.specs.declared.names.Event.TheVariants.{Client as ClientEvent, Deliver as DeliverEvent}
use Rattle.str_scene.specs.declared.names.Event.{Event}
use Rattle.str_base.proofs.Lists.{got_set}
use Rattle.str_base.proofs.Members.{in_at}
use Rattle.str_base.specs.Members.{In}
use Rattle.std.proofs.lemmas.List.{length-set}

-- the node that a message goes to, counted from 0
abbrev pub GoesTo : Message → ℕ → Type 0
GoesTo m n = m.receiver ≡ record { 0 = n + 1 }

-- a decision is not strange to its receiver, which is a replica and not the origin
abbrev pub DecisionsValid : Scene → World → Type 0
DecisionsValid scene w =
    (m : Message) (tx : TxId) (p : PartId) (n : ℕ) → In m w.sent → Decides tx p m.body → GoesTo m n
    → (is_valid (at_place scene n) m ≡ true) × (hosts scene (at_place scene n).node p ≡ true) × (same_node tx.node (at_place scene n).node ≡ false)

-- what is kept: which messages were given is known of each, and decisions that were given are done
pub record Delivered (w : World) : Type 0 where
  pub len : length w.given ≡ length w.sent
  pub done_ : (j : ℕ) (m : Message) (tx : TxId) (p : PartId) (n : ℕ) (v : View) → slice_get w.sent j ≡ Some m → Decides tx p m.body → slice_get w.given j ≡ Some true → GoesTo m n
      → slice_get w.nodes n ≡ Some v → Has (is_pair tx p) v.done

none_given : (k j : ℕ) → slice_get (replicate k false) j ≡ Some true → ⊥
none_given zero j e = cc e
none_given (suc k) zero e = cc e
none_given (suc k) (suc j) e = none_given k j e

-- what was given was given before
pub given_before : (xs : List Bool) (k j : ℕ) → slice_get (xs ++ replicate k false) j ≡ Some true → slice_get xs j ≡ Some true
given_before [] k j e = absurd (none_given k j e)
given_before (x ∷ xs) k zero e = e
given_before (x ∷ xs) k (suc j) e = given_before xs k j e

got_before : {A : Type 0} (xs ys : List A) (j : ℕ) (x : A) → slice_get (xs ++ ys) j ≡ Some x → j < length xs → slice_get xs j ≡ Some x
got_before [] ys j x e l = absurd (omega (arith, l))
got_before (z ∷ xs) ys zero x e l = e
got_before (z ∷ xs) ys (suc j) x e l = got_before xs ys j x e (omega (arith, l))

length_append : {A : Type 0} (xs ys : List A) → length (xs ++ ys) ≡ length xs + length ys
length_append [] ys = omega arith
length_append (x ∷ xs) ys = let rec = length_append xs ys in omega (arith, rec)

module _ (scene : Scene) where
  -- a step at a node: what was done before is done after it, and so is a decision that is given in it
  stepped_delivered : (e : Event) (i : ℕ) (w : World) (v : View) (input : Input) (o : Option Doing) → slice_get w.nodes i ≡ Some v → StepTo (at_place scene i) input (starts v) o → length w.given ≡ length w.sent
      → ((j : ℕ) (m : Message) (tx : TxId) (p : PartId) → slice_get w.sent j ≡ Some m → Decides tx p m.body → slice_get w.given j ≡ Some true
      → ((n : ℕ) (u : View) → GoesTo m n → slice_get w.nodes n ≡ Some u → Has (is_pair tx p) u.done)
      ⊎ (((n : ℕ) → GoesTo m n → n ≡ i) × Has (is_pair tx p) (after_step o v).done))
      → Delivered (Runs.stepped e i w o)
  stepped_delivered e i w v input None is path len h = record {
    len = len;
    done_ = λ j m tx p n u sent dec given to there. elim (h j m tx p sent dec given) [
      | inl f ↦ f n u to there
      | inr f ↦ subst (λ (z : View). Has (is_pair tx p) z.done) (one_of v u (slice_get w.nodes i) is (ap (λ (k : ℕ). slice_get w.nodes k) (sym (f.0 n to)) ∙ there)) f.1
    ];
  }
  stepped_delivered e i w v input (Some d) is path len h = record {
    len = length_append w.given (replicate (length d.sent) false) ∙ (ap (λ k. length w.given + k) (length_copies (length d.sent) false) ∙ (ap (λ k. k + length d.sent) len ∙ sym (length_append w.sent d.sent)));
    done_ = λ j m tx p n u sent dec given to there.
        let g : slice_get w.given j ≡ Some true = given_before w.given (length d.sent) j given in
        let less : j < length w.given = slice_get_within w.given j true g in
        let s : slice_get w.sent j ≡ Some m = got_before w.sent d.sent j m sent (omega (arith, less, len)) in
        by_old m tx p n u (got_set w.nodes i n d.view u there) (h j m tx p s dec g) to;
  }
    where
      by_old : (m : Message) (tx : TxId) (p : PartId) (n : ℕ) (u : View) → ((n ≡ i) × (u ≡ d.view)) ⊎ ((n ≢ i) × (slice_get w.nodes n ≡ Some u))
          → ((n : ℕ) (u : View) → GoesTo m n → slice_get w.nodes n ≡ Some u → Has (is_pair tx p) u.done) ⊎ (((n : ℕ) → GoesTo m n → n ≡ i) × Has (is_pair tx p) d.view.done)
          → GoesTo m n → Has (is_pair tx p) u.done
      by_old m tx p n u (inr q) (inl f) to = f n u to q.1
      by_old m tx p n u (inr q) (inr f) to = absurd (q.0 (f.0 n to))
      by_old m tx p n u (inl q) (inr f) to = subst (λ (z : View). Has (is_pair tx p) z.done) (sym q.1) f.1
      by_old m tx p n u (inl q) (inl f) to =
          let k = f n v to (ap (λ (z : ℕ). slice_get w.nodes z) q.0 ∙ is) in
          subst (λ (z : View). Has (is_pair tx p) z.done) (sym q.1) (k.0, step_in (at_place scene i) input k.0 v (Some d) path k.1, k.2)

  idle_delivered : (e : Event) (w : World) → Delivered w → Delivered (Runs.stepped e 0 w None)
  idle_delivered e w h = record { len = h.len; done_ = h.done_ }

  client_delivered : (e : Event) (n : NodeId) (input : Input) (w : World) → Delivered w → Delivered (Runs.at_node scene e n input w)
  client_delivered e n input w h = by_view (nth w.nodes n.0) refl
    where
      by_view : (o : Option View) → nth w.nodes n.0 ≡ o → Delivered (Runs.step_at scene e n input w o)
      by_view None q = idle_delivered e w h
      by_view (Some v) q =
          let t = of_nth w.nodes n.0 v q in
          let is_n : n ≡ record { 0 = t.0 + 1 } = λ j. record { 0 = t.1 j } in
          let less : n.0 - 1 ≡ t.0 = omega (arith, t.1) in
          subst₂ (λ (k : ℕ) (z : NodeId). Delivered (Runs.stepped e k w (Steps.step (record { scene = scene; node = z }) input v))) (sym less) (sym is_n)
          (stepped_delivered e t.0 w v input (Steps.step (at_place scene t.0) input v) t.2 (step-path (at_place scene t.0) input v) h.len
          (λ j m tx p sent dec given. inl (λ k u to there. h.done_ j m tx p k u sent dec given to there)))

  deliver_delivered : (e : Event) (idx : ℕ) (w : World) → DecisionsValid scene w → Delivered w → (o : Option Message) → nth w.sent idx ≡ o → Delivered (Runs.deliver_event scene e idx w o)
  deliver_delivered e idx w valid h None q = idle_delivered e w h
  deliver_delivered e idx w valid h (Some m) q = by_view (nth w.nodes m.receiver.0) refl
    where
      at_ : (k : ℕ) × (idx ≡ k + 1) × (slice_get w.sent k ≡ Some m)
      at_ = of_nth w.sent idx m q

      -- what counts as given now: this message, or one that was given before
      now_given : (j : ℕ) → slice_get (slice_set w.given (idx - 1) true) j ≡ Some true → (j ≡ at_.0) ⊎ (slice_get w.given j ≡ Some true)
      now_given j g = elim (got_set w.given (idx - 1) j true true g) [ inl z ↦ inl (omega (arith, z.0, at_.1)) | inr z ↦ inr z.1 ]

      len_ : length (slice_set w.given (idx - 1) true) ≡ length w.sent
      len_ = length-set w.given (idx - 1) true ∙ h.len

      by_view : (o : Option View) → nth w.nodes m.receiver.0 ≡ o → Delivered (Runs.step_at scene e m.receiver (Deliver m) (Runs.give idx w) o)
      by_view None r = record {
        len = len_;
        done_ = λ j m' tx p n v sent dec given to there. elim (now_given j given) [
          | inl z ↦ (let both : Some m' ≡ Some m = sym sent ∙ (ap (λ (k : ℕ). slice_get w.sent k) z ∙ at_.2) in
              let same : m' ≡ m = cc both in
              let num : m.receiver.0 ≡ n + 1 = ap (λ (y : Message). y.receiver.0) (sym same) ∙ ap (λ (y : NodeId). y.0) to in
              absurd (cc (sym r ∙ (ap (λ (k : ℕ). nth w.nodes k) num ∙ to_nth w.nodes n v there))))
          | inr z ↦ h.done_ j m' tx p n v sent dec z to there
        ];
      }
      by_view (Some v) r =
          let t = of_nth w.nodes m.receiver.0 v r in
          let is_n : m.receiver ≡ record { 0 = t.0 + 1 } = λ j. record { 0 = t.1 j } in
          let less : m.receiver.0 - 1 ≡ t.0 = omega (arith, t.1) in
          let o : Option Doing = Steps.step (at_place scene t.0) (Deliver m) v in
          subst₂ (λ (k : ℕ) (z : NodeId). Delivered (Runs.stepped e k (Runs.give idx w) (Steps.step (record { scene = scene; node = z }) (Deliver m) v))) (sym less) (sym is_n)
          (stepped_delivered e t.0 (Runs.give idx w) v (Deliver m) o t.2 (step-path (at_place scene t.0) (Deliver m) v) len_
          (λ j m' tx p sent dec given. elim (now_given j given) [
            | inl z ↦ (let both : Some m ≡ Some m' = sym at_.2 ∙ (ap (λ (k : ℕ). slice_get w.sent k) (sym z) ∙ sent) in
                let same : m ≡ m' = cc both in
                let dec' : Decides tx p m.body = subst (λ (y : Message). Decides tx p y.body) (sym same) dec in
                let ok = valid m tx p t.0 (in_at w.sent at_.0 m at_.2) dec' is_n in
                inr (λ n to. omega (arith, ap (λ (y : NodeId). y.0) (sym to ∙ (ap (λ (y : Message). y.receiver) (sym same) ∙ is_n))), decided_step (at_place scene t.0) v m tx p ok.0 ok.1 ok.2 dec'))
            | inr z ↦ inl (λ n u to there. h.done_ j m' tx p n u sent dec z to there)
          ]))

  event_delivered : (w : World) (e : Event) → DecisionsValid scene w → Delivered w → Delivered (Runs.happens scene w e)
  unfolding Runs.happens
  event_delivered w (ClientEvent s t) valid h = by_session (nth scene.sessions s.0)
    where
      by_session : (o : Option Session) → Delivered (Runs.client_event scene (ClientEvent s t) s t w o)
      by_session None = idle_delivered (ClientEvent s t) w h
      by_session (Some text) = client_delivered (ClientEvent s t) text.node (Client s t) w h
  event_delivered w (DeliverEvent i) valid h = deliver_delivered (DeliverEvent i) i w valid h (nth w.sent i) refl

  -- over every run
  delivered_from : ((es : List Event) → DecisionsValid scene (run scene es)) → (past es : List Event) → Delivered (run scene past) → Delivered (run_from scene (run scene past) es)
  delivered_from valid past [] h = h
  delivered_from valid past (e ∷ es) h =
      let next : run scene (past ++ e ∷ []) ≡ Runs.happens scene (run scene past) e = run-append scene (opening scene) past (e ∷ []) in
      subst (λ (w : World). Delivered (run_from scene w es)) next
      (delivered_from valid (past ++ e ∷ []) es (subst Delivered (sym next) (event_delivered (run scene past) e (valid past) h)))

  pub delivered : ((es : List Event) → DecisionsValid scene (run scene es)) → (es : List Event) → Delivered (run scene es)
  delivered valid es = delivered_from valid [] es (record { len = refl; done_ = λ j m tx p n v sent dec given to there. absurd (cc sent) })
