-- The lowest session that moves, as the code looks for it.
use Rattle.std.proofs.Common.{Bool, List, None, Option, Some, add_comm, ap, arith, cond, false, find, is_some, length, not, option_map, refl, suc, sym, true, ℕ, ◌+◌, ◌-◌, ◌<◌, ◌∙◌, ◌≡◌}
use Rattle.std.specs.List.{range_with_len}
use Rattle.node_core.specs.Working.{NodeState, here_of}
use Rattle.cluster_run.specs.Clusters.{ArePlaced, views_of}
use Rattle.cluster_run.proofs.Stepping.{here_is, nth-map}
use Rattle.si_laws.proofs.Stages.ParticipantSeats.{of_nth}
use Rattle.str_base.specs.declared.names.NodeId.{NodeId}
use Rattle.str_base.specs.declared.names.SessionId.{SessionId}
use Rattle.str_model.specs.declared.messages.Input.TheVariants.{Client}
use Rattle.str_model.specs.Clients.{client_rule}
use Rattle.str_model.specs.Drains.{client_or_stop, message_or_client, moves, next_event, next_message, next_session, session_moves, view_moves}
use Rattle.str_scene.specs.declared.names.Event.TheVariants.{Client as ClientEvent, Deliver as DeliverEvent}
use Rattle.str_model.specs.Runs.{World}
use Rattle.str_model.specs.Steps.{after_rule, rule, step}
use Rattle.str_model.specs.Views.{View, starts}
use Rattle.str_scene.specs.Scenes.{Here, Scene, Session, nth}

mapped : {A B : Type 0} (f : A → B) (o : Option A) → is_some o ≡ is_some (option_map f o)
mapped f None = refl
mapped f (Some x) = refl

-- a client step is not idle where its rule is not
moved : (here : Here) (s : SessionId) (v : View) → is_some (client_rule here s 0 (starts v)) ≡ is_some (step here (Client s 0) v)
unfolding step rule
moved here s v = mapped (after_rule here) (client_rule here s 0 (starts v))

not_not : (b : Bool) → not (not b) ≡ b
not_not true = refl
not_not false = refl

-- no such session, or no such node
pub moves_nowhere : (scene : Scene) (w : World) (s : ℕ) → None ≡ option_map (λ (x : Session). x.node) (nth scene.sessions s) → false ≡ moves scene w s
unfolding moves
moves_nowhere scene w s e = by_session (nth scene.sessions s) e
  where
    by_session : (o : Option Session) → None ≡ option_map (λ (x : Session). x.node) o → false ≡ session_moves scene w.nodes (record { 0 = s }) o
    by_session None e = refl
    by_session (Some x) e = absurd (cc e)

moves_at : (scene : Scene) (w : World) (s : ℕ) (node : NodeId) → Some node ≡ option_map (λ (x : Session). x.node) (nth scene.sessions s)
    → moves scene w s ≡ view_moves (record { scene = scene; node = node }) (record { 0 = s }) (nth w.nodes node.0)
unfolding moves
moves_at scene w s node e = by_session (nth scene.sessions s) e
  where
    by_session : (o : Option Session) → Some node ≡ option_map (λ (x : Session). x.node) o → session_moves scene w.nodes (record { 0 = s }) o ≡ view_moves (record { scene = scene; node = node }) (record { 0 = s }) (nth w.nodes node.0)
    by_session None e = absurd (cc e)
    by_session (Some x) e =
        let same : node ≡ x.node = cc e in
        ap (λ (n : NodeId). view_moves (record { scene = scene; node = n }) (record { 0 = s }) (nth w.nodes n.0)) (sym same)

pub moves_no_node : (scene : Scene) (w : World) (s : ℕ) (node : NodeId) → Some node ≡ option_map (λ (x : Session). x.node) (nth scene.sessions s) → nth w.nodes node.0 ≡ None → false ≡ moves scene w s
moves_no_node scene w s node e q = sym (moves_at scene w s node e ∙ ap (view_moves (record { scene = scene; node = node }) (record { 0 = s })) q)

-- as the session's node has it
pub moves_is : (scene : Scene) (w : World) (ns : List NodeState) (s : SessionId) (node : NodeId) (n : NodeState) (idle : Bool) → ArePlaced scene ns → w.nodes ≡ views_of ns
    → Some node ≡ option_map (λ (x : Session). x.node) (nth scene.sessions s.0) → nth ns node.0 ≡ Some n → idle ≡ not (is_some (step (here_of n) (Client s 0) n.view)) → not idle ≡ moves scene w s.0
moves_is scene w ns s node n idle p v e q i =
    let place = of_nth ns node.0 n q in
    let here : record { scene = scene; node = node } ≡ here_of n = here_is scene n node place.0 (p.scene_ place.0 n place.2) (p.id place.0 n place.2) place.1 in
    let there : nth w.nodes node.0 ≡ Some n.view = ap (λ vs. nth vs node.0) v ∙ (nth-map (λ (z : NodeState). z.view) ns node.0 ∙ ap (option_map (λ (z : NodeState). z.view)) q) in
    let a : moves scene w s.0 ≡ view_moves (record { scene = scene; node = node }) s (nth w.nodes node.0) = moves_at scene w s.0 node e in
    let b : view_moves (record { scene = scene; node = node }) s (nth w.nodes node.0) ≡ is_some (client_rule (record { scene = scene; node = node }) s 0 (starts n.view)) = ap (view_moves (record { scene = scene; node = node }) s) there in
    let c : is_some (client_rule (record { scene = scene; node = node }) s 0 (starts n.view)) ≡ is_some (step (here_of n) (Client s 0) n.view) =
    moved (record { scene = scene; node = node }) s n.view ∙ ap (λ (h : Here). is_some (step h (Client s 0) n.view)) here in
    ap not i ∙ (not_not (is_some (step (here_of n) (Client s 0) n.view)) ∙ sym (a ∙ (b ∙ c)))

-- ---- the search

-- a search from a number on looks at that number first
pub find_next : (p : ℕ → Bool) (i n : ℕ) → i < n
    → find p (range_with_len (1 + i) (n - i)) ≡ cond (p (i + 1)) (Some (i + 1)) (find p (range_with_len (1 + (i + 1)) (n - (i + 1))))
find_next p i n h = by_rest (n - (i + 1)) (omega arith)
  where
    by_rest : (m : ℕ) → n - i ≡ suc m → find p (range_with_len (1 + i) (n - i)) ≡ cond (p (i + 1)) (Some (i + 1)) (find p (range_with_len (1 + (i + 1)) m))
    by_rest m e = rw (e, add_comm 1 i, add_comm 1 (i + 1)) refl

-- it goes on where that one does not move
pub find_go : (p : ℕ → Bool) (i n : ℕ) (o : Option ℕ) → i < n → p (i + 1) ≡ false → find p (range_with_len (1 + i) (n - i)) ≡ o → find p (range_with_len (1 + (i + 1)) (n - (i + 1))) ≡ o
find_go p i n o h f q = sym (find_next p i n h ∙ ap (λ b. cond b (Some (i + 1)) (find p (range_with_len (1 + (i + 1)) (n - (i + 1))))) f) ∙ q

-- the search for a session begins with the first one
pub find_start : (scene : Scene) (w : World) → find (moves scene w) (range_with_len 1 (length scene.sessions - 0)) ≡ next_session scene w
unfolding next_session
find_start scene w = ap (λ (n : ℕ). find (moves scene w) (range_with_len 1 n)) (omega arith)

-- ---- the next event

-- the oldest message that was never given
pub next_is_message : (scene : Scene) (w : World) (i : ℕ) → Some i ≡ next_message w → Some (DeliverEvent i) ≡ next_event scene w
unfolding next_event
next_is_message scene w i q = ap (message_or_client scene w) q

-- where each was given, a client step of the lowest session that moves
pub next_is_client : (scene : Scene) (w : World) (s : SessionId) → None ≡ next_message w → Some s.0 ≡ next_session scene w → Some (ClientEvent s 0) ≡ next_event scene w
unfolding next_event
next_is_client scene w s q r = ap client_or_stop r ∙ ap (message_or_client scene w) q

-- where none moves, no event
pub next_is_none : (scene : Scene) (w : World) → None ≡ next_message w → None ≡ next_session scene w → None ≡ next_event scene w
unfolding next_event
next_is_none scene w q r = ap client_or_stop r ∙ ap (message_or_client scene w) q
