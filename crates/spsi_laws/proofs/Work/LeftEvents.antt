-- Each event that is not idle leaves less: at least 1 less than before with the message that it gives.
use Rattle.std.proofs.Common.{Bool, List, None, Option, Some, [], add-one, ap, arith, eqb-true, false, length, refl, replicate, slice_get, slice_set, sub-one, subst, suc, sym, true, zero, ℕ, ◌++◌, ◌+◌, ◌-◌, ◌∙◌, ◌∷◌, ◌≡◌, ◌≢◌, ◌≤◌}
use Rattle.std.specs.List.{count_by}
use Rattle.spsi_laws.proofs.Work.LeftActs.{owns_left, todo, waits_left, weights, weights_cons, weights_none}
use Rattle.spsi_laws.proofs.Work.LeftHome.{mine}
use Rattle.spsi_laws.proofs.Work.LeftOwn.{left_of}
use Rattle.spsi_laws.proofs.Work.LeftRule.{credit}
use Rattle.spsi_laws.proofs.Work.LeftSums.{count_none}
use Rattle.spsi_laws.proofs.Work.LeftWorld.{Even, Sound, StepLeaves, begun_set, l_begins, l_eased, step_leaves, sum_only, unbegun_less, unbegun_same, views_set}
use Rattle.str_base.specs.declared.names.NodeId.{NodeId}
use Rattle.str_base.specs.declared.names.SessionId.{SessionId}
use Rattle.str_model.proofs.Principle.Everywhere.{at_place}
use Rattle.str_model.specs.Runs.{World, give, happens}
use Rattle.str_model.specs.Runs
use Rattle.str_model.specs.Steps.{step}
use Rattle.str_model.specs.Views.{Doing, View, starts}
use Rattle.str_model.specs.Work.{begun_in, body_weight, left, sent_left, share, unbegun_left, view_left, views_left}
use Rattle.str_model.specs.declared.messages.Input.{Input}
use Rattle.str_model.specs.declared.messages.Input.TheVariants.{Client, Deliver}
use Rattle.str_model.specs.declared.messages.Message.{Message}
use Rattle.str_scene.specs.declared.names.Event.{Event}
use Rattle.str_scene.specs.declared.names.Event.TheVariants.{Client as ClientEvent, Deliver as DeliverEvent}
use Rattle.str_scene.specs.Scenes.{Here, Scene, Session, nth}
use Rattle.str_model.proofs.OwnFacts.PlacesInOrder.{InOrder}
use Rattle.std.proofs.lemmas.Bool.{false_from_ne_true}
use Rattle.str_base.proofs.Lists.{set_got, slice_get_there}
use Rattle.str_base.proofs.Members.{in_at}
use Rattle.std.proofs.lemmas.List.{length-set}

less_one : (j : ℕ) → suc j - 1 ≡ j
less_one j = omega arith

-- ---- messages that were not given

fresh_left : (scene : Scene) (ys : List Message) → sent_left scene ys (replicate (length ys) false) ≡ weights scene ys
fresh_left scene [] = sym (weights_none scene)
fresh_left scene (m ∷ ys) = let r = fresh_left scene ys in let a = weights_cons scene m ys in omega (arith, r, a)

sent_more : (scene : Scene) (xs : List Message) (gs : List Bool) (ys : List Message) → length gs ≡ length xs
    → sent_left scene (xs ++ ys) (gs ++ replicate (length ys) false) ≡ sent_left scene xs gs + weights scene ys
sent_more scene [] [] ys e = let r = fresh_left scene ys in omega (arith, r)
sent_more scene [] (g ∷ gs) ys e = absurd (omega (arith, e))
sent_more scene (x ∷ xs) [] ys e = absurd (omega (arith, e))
sent_more scene (x ∷ xs) (true ∷ gs) ys e = sent_more scene xs gs ys (omega (arith, e))
sent_more scene (x ∷ xs) (false ∷ gs) ys e = let r = sent_more scene xs gs ys (omega (arith, e)) in omega (arith, r)

sent_given : (scene : Scene) (xs : List Message) (gs : List Bool) (j : ℕ) (m : Message) → slice_get gs j ≡ Some false → slice_get xs j ≡ Some m
    → sent_left scene xs (slice_set gs j true) + body_weight scene m.body ≡ sent_left scene xs gs
sent_given scene [] gs j m g e = absurd (cc e)
sent_given scene (x ∷ xs) [] j m g e = absurd (cc g)
sent_given scene (x ∷ xs) (true ∷ gs) zero m g e = absurd (cc g)
sent_given scene (x ∷ xs) (false ∷ gs) zero m g e =
    let q : body_weight scene x.body ≡ body_weight scene m.body = (let s : x ≡ m = cc e in ap (λ (z : Message). body_weight scene z.body) s) in omega (arith, q)
sent_given scene (x ∷ xs) (true ∷ gs) (suc j) m g e = sent_given scene xs gs j m g e
sent_given scene (x ∷ xs) (false ∷ gs) (suc j) m g e = let r = sent_given scene xs gs j m g e in omega (arith, r)

-- ---- a step at a node

todo_is : (here : Here) (d : Doing) → todo here d ≡ view_left here.scene here.node d.view + weights here.scene d.sent
unfolding todo owns_left waits_left left_of
todo_is here d = refl

-- what is left but for messages
nodes_left : Scene → List View → ℕ
nodes_left scene vs = unbegun_left scene vs 1 scene.sessions + views_left scene 1 vs

left_is : (scene : Scene) (w : World) → left scene w ≡ nodes_left scene w.nodes + sent_left scene w.sent w.given
unfolding left nodes_left
left_is scene w = omega arith

module _ (scene : Scene) (vs : List View) (order : (n : ℕ) (v : View) → slice_get vs n ≡ Some v → InOrder scene n v.own) where
  -- all that began of a session began at its node
  begun_here : (i s : ℕ) (v : View) (text : Session) → slice_get vs i ≡ Some v → nth scene.sessions s ≡ Some text → text.node.0 ≡ i + 1 → begun_in vs s ≡ count_by (mine s) v.own
  begun_here i s v text is se at = sum_only (λ (z : View). count_by (mine s) z.own) vs i v is elsewhere
    where
      elsewhere : (j : ℕ) (u : View) → j ≢ i → slice_get vs j ≡ Some u → count_by (mine s) u.own ≡ 0
      elsewhere j u ne k =
          count_none (mine s) u.own (λ m x o. false_from_ne_true (mine s x) (λ t.
          let p = (order j u k).placed m x o in
          let e : x.place.session.0 ≡ s = eqb-true x.place.session.0 s t in
          let both : Some p.text ≡ Some text = sym p.session ∙ (ap (λ n. nth scene.sessions n) e ∙ se) in
          let same : p.text ≡ text = cc both in
          ne (number p.text.node.0 text.node.0 j i p.node at (ap (λ (z : Session). z.node.0) same))))
        where
          number : (a b j i : ℕ) → a ≡ j + 1 → b ≡ i + 1 → a ≡ b → j ≡ i
          number a b j i p q r = omega (arith, p, q, r)

  node_step : (i : ℕ) (v : View) (input : Input) (e : Doing) → slice_get vs i ≡ Some v → StepLeaves (at_place scene i) v (credit scene input) e
      → (nodes_left scene (slice_set vs i e.view) + weights scene e.sent) + 1 ≤ nodes_left scene vs + credit scene input
  unfolding nodes_left
  node_step i v input e is (l_eased k) =
      let here : Here = at_place scene i in
      let us : List View = slice_set vs i e.view in
      let a = unbegun_same scene vs us 1 scene.sessions (λ s l. same s) in
      let b = views_at in
      let c = k.less in
      let d = todo_is here e in
      let f = todo_is here (starts v) in
      let z = weights_none scene in
      sums _ _ _ _ _ _ _ _ _ _ _ a b c d f z
    where
      same : (s : ℕ) → begun_in (slice_set vs i e.view) s ≡ begun_in vs s
      same s = let r = begun_set vs i s v e.view is in let q = k.begun s in omega (arith, r, q)

      views_at : views_left scene 1 (slice_set vs i e.view) + view_left scene (record { 0 = i + 1 }) v ≡ views_left scene 1 vs + view_left scene (record { 0 = i + 1 }) e.view
      views_at = let n : 1 + i ≡ i + 1 = omega arith in subst (λ m. views_left scene 1 (slice_set vs i e.view) + view_left scene (record { 0 = m }) v ≡ views_left scene 1 vs + view_left scene (record { 0 = m }) e.view) n (views_set scene 1 vs i v e.view is)

      sums : (uu uv nu nv lv le wm td ts c w0 : ℕ) → uu ≡ uv → nu + lv ≡ nv + le → td + 1 ≤ ts + c → td ≡ le + wm → ts ≡ lv + w0 → w0 ≡ 0 → ((uu + nu) + wm) + 1 ≤ (uv + nv) + c
      sums uu uv nu nv lv le wm td ts c w0 a b d f g h = omega (arith, a, b, d, f, g, h)
  node_step i v input e is (l_begins k) =
      let here : Here = at_place scene i in
      let us : List View = slice_set vs i e.view in
      let b = views_at in
      let c = k.less in
      let d = todo_is here e in
      let f = todo_is here (starts v) in
      let z = weights_none scene in
      sums _ _ _ _ _ _ _ _ _ _ _ (credit scene input) (fewer k.s refl) b c d f z
    where
      views_at : views_left scene 1 (slice_set vs i e.view) + view_left scene (record { 0 = i + 1 }) v ≡ views_left scene 1 vs + view_left scene (record { 0 = i + 1 }) e.view
      views_at = let n : 1 + i ≡ i + 1 = omega arith in subst (λ m. views_left scene 1 (slice_set vs i e.view) + view_left scene (record { 0 = m }) v ≡ views_left scene 1 vs + view_left scene (record { 0 = m }) e.view) n (views_set scene 1 vs i v e.view is)

      same : (s : ℕ) → s ≢ k.s → begun_in (slice_set vs i e.view) s ≡ begun_in vs s
      same s ne = let r = begun_set vs i s v e.view is in let q = k.same s ne in omega (arith, r, q)

      more : begun_in (slice_set vs i e.view) k.s ≡ begun_in vs k.s + 1
      more = let r = begun_set vs i k.s v e.view is in let q = k.one_more in omega (arith, r, q)

      fewer : (s : ℕ) → s ≡ k.s → unbegun_left scene (slice_set vs i e.view) 1 scene.sessions + share scene k.text.node k.ops ≡ unbegun_left scene vs 1 scene.sessions
      fewer zero q = absurd (let s : nth scene.sessions zero ≡ Some k.text = ap (λ m. nth scene.sessions m) q ∙ k.session in cc s)
      fewer (suc j) q =
          let n : 1 + j ≡ k.s = omega (arith, q) in
          let se : nth scene.sessions (suc j) ≡ Some k.text = ap (λ m. nth scene.sessions m) q ∙ k.session in
          let here_ = begun_here i k.s v k.text is k.session k.node in
          unbegun_less scene vs (slice_set vs i e.view) 1 j scene.sessions k.text k.ops se
          (ap (λ m. slice_get k.text.txs m) (ap (begun_in vs) n ∙ here_) ∙ k.script)
          (ap (begun_in (slice_set vs i e.view)) n ∙ (more ∙ ap (λ m. begun_in vs m + 1) (sym n)))
          (λ s ne. same s (λ z. ne (z ∙ sym n)))

      sums : (uu uv nu nv lv le wm td ts sh w0 c : ℕ) → uu + sh ≡ uv → nu + lv ≡ nv + le → td + 1 ≤ ts + sh → td ≡ le + wm → ts ≡ lv + w0 → w0 ≡ 0 → ((uu + nu) + wm) + 1 ≤ (uv + nv) + c
      sums uu uv nu nv lv le wm td ts sh w0 c a b d f g h = omega (arith, a, b, d, f, g, h)

-- ---- an event

-- what an event leaves
pub data Outcome (scene : Scene) (e : Event) (w w' : World) (cost : ℕ) : Type 0 where
  o_idle : left scene w' ≡ left scene w → w'.journal ≡ w.journal ++ record { event = e; idle = true; answers = 0 } ∷ [] → Outcome scene e w w' cost
  o_acts : (n : ℕ) → left scene w' + 1 ≤ left scene w + cost → w'.journal ≡ w.journal ++ record { event = e; idle = false; answers = n } ∷ [] → Outcome scene e w w' cost

-- what is needed of a state
pub record Ready (scene : Scene) (w : World) : Type 0 where
  pub sound : Sound scene w.nodes w.sent
  pub order : (n : ℕ) (v : View) → slice_get w.nodes n ≡ Some v → InOrder scene n v.own
  pub even : Even w

module _ (scene : Scene) where
  pub stepped_acts : (e : Event) (i : ℕ) (w : World) (v : View) (input : Input) (d : Doing) → Ready scene w → slice_get w.nodes i ≡ Some v → step (at_place scene i) input v ≡ Some d
      → left scene (Runs.stepped e i w (Some d)) + 1 ≤ left scene w + credit scene input
  stepped_acts e i w v input d r is q =
      let l = step_leaves (at_place scene i) input v d (r.sound.fits i v is) q in
      let n = node_step scene w.nodes r.order i v input d is l in
      let a = left_is scene w in
      let b = left_is scene (Runs.stepped e i w (Some d)) in
      let c = sent_more scene w.sent w.given d.sent r.even in
      omega (arith, n, a, b, c)

  stepped_outcome : (e : Event) (i : ℕ) (w : World) (v : View) (input : Input) (o : Option Doing) → Ready scene w → slice_get w.nodes i ≡ Some v → step (at_place scene i) input v ≡ o
      → Outcome scene e w (Runs.stepped e i w o) (credit scene input)
  stepped_outcome e i w v input None r is q = o_idle (left_is scene (Runs.stepped e i w None) ∙ sym (left_is scene w)) refl
  stepped_outcome e i w v input (Some d) r is q =
      o_acts (length d.released) (stepped_acts e i w v input d r is q) refl

  step_at_outcome : (e : Event) (n : NodeId) (input : Input) (w : World) (o : Option View) → Ready scene w → nth w.nodes n.0 ≡ o → Outcome scene e w (Runs.step_at scene e n input w o) (credit scene input)
  step_at_outcome e n input w None r q = o_idle (left_is scene (Runs.stepped e 0 w None) ∙ sym (left_is scene w)) refl
  step_at_outcome e n input w (Some v) r q = by_place n.0 q
    where
      by_place : (k : ℕ) → nth w.nodes k ≡ Some v → Outcome scene e w (Runs.stepped e (k - 1) w (step (record { scene = scene; node = record { 0 = k } }) input v)) (credit scene input)
      by_place zero z = absurd (cc z)
      by_place (suc i) z = rw (sub-one, ← add-one i) (stepped_outcome e i w v input (step (at_place scene i) input v) r z refl)

  -- a client step
  pub client_outcome : (w : World) (s : SessionId) (t : ℕ) → Ready scene w → Outcome scene (ClientEvent s t) w (happens scene w (ClientEvent s t)) 0
  unfolding happens
  client_outcome w s t r = by_session (nth scene.sessions s.0)
    where
      by_session : (o : Option Session) → Outcome scene (ClientEvent s t) w (Runs.client_event scene (ClientEvent s t) s t w o) 0
      by_session None = o_idle (left_is scene (Runs.stepped (ClientEvent s t) 0 w None) ∙ sym (left_is scene w)) refl
      by_session (Some text) = step_at_outcome (ClientEvent s t) text.node (Client s t) w (nth w.nodes text.node.0) r refl

  given_ready : (i : ℕ) (w : World) → Ready scene w → Ready scene (give i w)
  given_ready i w r = record { sound = r.sound; order = r.order; even = length-set w.given (i - 1) true ∙ r.even }

  -- a delivery: before it the message counts as given
  pub deliver_outcome : (w : World) (i : ℕ) (m : Message) → Ready scene w → nth w.sent i ≡ Some m → Outcome scene (DeliverEvent i) (give i w) (happens scene w (DeliverEvent i)) (body_weight scene m.body)
  unfolding happens
  deliver_outcome w i m r q =
      subst (λ (o : Option Message). Outcome scene (DeliverEvent i) (give i w) (Runs.deliver_event scene (DeliverEvent i) i w o) (body_weight scene m.body)) (sym q)
      (step_at_outcome (DeliverEvent i) m.receiver (Deliver m) (give i w) (nth w.nodes m.receiver.0) (given_ready i w r) refl)

  -- a message that is given for the first time counts no more
  pub given_first : (w : World) (i : ℕ) (m : Message) → nth w.given i ≡ Some false → nth w.sent i ≡ Some m → left scene (give i w) + body_weight scene m.body ≡ left scene w
  given_first w zero m g e = absurd (cc g)
  given_first w (suc j) m g e =
      let a = left_is scene w in
      let b = left_is scene (give (suc j) w) in
      let c = sent_given scene w.sent w.given j m g e in
      let d : sent_left scene w.sent (slice_set w.given (suc j - 1) true) ≡ sent_left scene w.sent (slice_set w.given j true) = ap (λ k. sent_left scene w.sent (slice_set w.given k true)) (less_one j) in
      omega (arith, a, b, c, d)

  -- one that was given counts as before
  pub given_again : (w : World) (i : ℕ) → nth w.given i ≡ Some true → left scene (give i w) ≡ left scene w
  given_again w zero g = absurd (cc g)
  given_again w (suc j) g =
      let a = left_is scene w in
      let b = left_is scene (give (suc j) w) in
      let c : sent_left scene w.sent (slice_set w.given (suc j - 1) true) ≡ sent_left scene w.sent w.given = ap (λ k. sent_left scene w.sent (slice_set w.given k true)) (less_one j) ∙ ap (sent_left scene w.sent) (set_got w.given j true g) in
      omega (arith, a, b, c)

  -- a message that has a flag was sent
  pub was_sent : (w : World) (i : ℕ) (b : Bool) → Even w → nth w.given i ≡ Some b → (m : Message) × (nth w.sent i ≡ Some m)
  was_sent w zero b e g = absurd (cc g)
  was_sent w (suc j) b e g =
      let l = Rattle.std.proofs.lemmas.Option.slice_get_within w.given j b g in
      let r = slice_get_there w.sent j (omega (arith, l, e)) in (r.0, r.1)

  -- one that was not sent gives nothing
  pub deliver_nothing : (w : World) (i : ℕ) → nth w.sent i ≡ None → Outcome scene (DeliverEvent i) w (happens scene w (DeliverEvent i)) 0
  unfolding happens
  deliver_nothing w i q =
      subst (λ (o : Option Message). Outcome scene (DeliverEvent i) w (Runs.deliver_event scene (DeliverEvent i) i w o) 0) (sym q)
      (o_idle (left_is scene (Runs.stepped (DeliverEvent i) 0 w None) ∙ sym (left_is scene w)) refl)

  pub message_heavy : (w : World) (i : ℕ) (m : Message) → Ready scene w → nth w.sent i ≡ Some m → 1 ≤ body_weight scene m.body
  message_heavy w zero m r q = absurd (cc q)
  message_heavy w (suc j) m r q = r.sound.heavy m (in_at w.sent j m q)
