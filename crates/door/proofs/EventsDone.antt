-- Events that stand in a list of entries stand in each longer one.
use Rattle.answer_board.proofs.Rising.{prefix_shorter}
use Rattle.answer_board.specs.Entries.{dones_of}
use Rattle.answer_board.specs.declared.entries.Entry.{Entry}
use Rattle.cluster_run.specs.Clusters.{Entered}
use Rattle.door.proofs.Entries.{dones_append, dones_entries}
use Rattle.door.specs.Acting.{EndsWith, HasDone}
use Rattle.door.specs.Following.{run_entries}
use Rattle.door.specs.Searching.{Acted}
use Rattle.door.specs.Working.{HasClient, HasClients, HasDelivers, IsSessionOf, delivery}
use Rattle.std.proofs.Common.{Bool, List, Option, Some, [], ap, arith, inl, length, refl, slice_get, subst, suc, sym, zero, ℕ, ◌++◌, ◌+◌, ◌<◌, ◌∙◌, ◌∷◌, ◌≡◌, ◌≤◌}
use Rattle.str_base.proofs.Members.{in_left, in_right}
use Rattle.str_base.specs.Members.{In}
use Rattle.str_base.specs.declared.names.NodeId.{NodeId}
use Rattle.str_base.specs.declared.names.SessionId.{SessionId}
use Rattle.str_model.specs.Runs.{World}
use Rattle.str_model.specs.declared.messages.Answer.{Answer}
use Rattle.str_model.specs.declared.names.Done.{Done}
use Rattle.str_scene.specs.Scenes.{Scene, Session, nth}
use Rattle.str_scene.specs.declared.names.Event.{Event}
use Rattle.str_scene.specs.declared.names.Event.TheVariants.{Client}
use Rattle.str_scene.specs.declared.names.TxPlace.{TxPlace}
use mathlib.Core.List.{IsPrefix}
use native.Mathlib.Decide.{dec_le, ℕ_discrete}

-- the entries of a run end with the event that it entered last
pub entered_ends : (e : Event) (idle : Bool) (w v : World) (list : List Entry) → Entered e idle w v → list ≡ run_entries v → EndsWith list e idle
entered_ends e idle w v list h q =
    record { before = w.journal; answers = h.0; last = ap dones_of q ∙ (dones_entries v.journal v.answers ∙ h.1) }

pub ends_done : (list : List Entry) (e : Event) (idle : Bool) → EndsWith list e idle → HasDone list e
ends_done list e idle w =
    let d : Done = record { event = e; idle = idle; answers = w.answers } in
    record { done = d; in_ = subst (λ (ds : List Done). In d ds) (sym w.last) (in_right w.before (d ∷ []) d (inl refl)); of_ = refl }

pub done_grows : (xs ys : List Entry) (e : Event) → IsPrefix xs ys → HasDone xs e → HasDone ys e
done_grows xs ys e pre h =
    record {
      done = h.done;
      in_ = subst (λ (l : List Entry). In h.done (dones_of l)) pre.1 (subst (λ (ds : List Done). In h.done ds) (sym (dones_append xs pre.0)) (in_left (dones_of xs) (dones_of pre.0) h.done h.in_));
      of_ = h.of_;
    }

-- what was acted is in the list
pub acted_done : (ps : List TxPlace) (fs : List (Option Answer)) (list : List Entry) (e : Event) → Acted ps fs list e → HasDone list e
acted_done ps fs list e a = done_grows a.told list e a.within (ends_done a.told e a.idle a.ends)

-- a beginning with no entry of the event begins what has one
pub begins_before : (xs told list : List Entry) (e : Event) → HasDone told e → IsPrefix told list → IsPrefix xs list → (HasDone xs e → ⊥) → IsPrefix xs told
begins_before xs told list e has within pre not = by_length (dec_le (length xs) (length told))
  where
    by_length : Dec (length xs ≤ length told) → IsPrefix xs told
    by_length (yes le) = prefix_shorter xs told list pre within le
    by_length (no more) = absurd (not (done_grows told xs e (prefix_shorter told xs list within pre (omega (arith, more))) has))

-- ---- turns

pub delivers_grow : (xs ys : List Entry) (nodes : ℕ) (node : NodeId) (turns : ℕ) → IsPrefix xs ys → HasDelivers xs nodes node turns → HasDelivers ys nodes node turns
delivers_grow xs ys nodes node turns pre h = record { each = λ t lt. done_grows xs ys (delivery nodes node t) pre (h.each t lt) }

-- one turn more
pub delivers_more : (xs ys : List Entry) (nodes : ℕ) (node : NodeId) (turn : ℕ) → IsPrefix xs ys → HasDelivers xs nodes node turn → HasDone ys (delivery nodes node turn) → HasDelivers ys nodes node (turn + 1)
delivers_more xs ys nodes node turn pre h d = record { each = λ t lt. by_turn t lt (ℕ_discrete t turn) }
  where
    by_turn : (t : ℕ) → t < turn + 1 → Dec (t ≡ turn) → HasDone ys (delivery nodes node t)
    by_turn t lt (yes same) = subst (λ (k : ℕ). HasDone ys (delivery nodes node k)) (sym same) d
    by_turn t lt (no other) = done_grows xs ys (delivery nodes node t) pre (h.each t (omega (arith, lt, other)))

pub client_grows : (xs ys : List Entry) (s : ℕ) → IsPrefix xs ys → HasClient xs s → HasClient ys s
client_grows xs ys s pre h = record { reading = h.reading; done = done_grows xs ys _ pre h.done }

pub clients_grow : (xs ys : List Entry) (scene : Scene) (node : NodeId) → IsPrefix xs ys → HasClients xs scene node → HasClients ys scene node
clients_grow xs ys scene node pre h = record { each = λ s o. client_grows xs ys s pre (h.each s o) }

-- ---- the clients of a node

-- a client step of a session that was acted is in the list
pub client_acted : (ps : List TxPlace) (fs : List (Option Answer)) (list : List Entry) (session : SessionId) (reading : ℕ) → Acted ps fs list (Client session reading) → HasClient list session.0
client_acted ps fs list session reading a = record { reading = reading; done = acted_done ps fs list (Client session reading) a }

-- those of the sessions with these numbers at most are in the list, where they are of the node
pub record ClientsTo (list : List Entry) (scene : Scene) (node : NodeId) (n : ℕ) : Type 0 where
  pub each : (s : ℕ) → s ≤ n → IsSessionOf scene node s → HasClient list s

pub clients_none : (list : List Entry) (scene : Scene) (node : NodeId) → ClientsTo list scene node 0
clients_none list scene node = record { each = λ s le o. absurd (none s le o) }
  where
    none : (s : ℕ) → s ≤ 0 → IsSessionOf scene node s → ⊥
    none zero le o = cc (o.there)
    none (suc s) le o = omega (arith, le)

-- one session more
pub clients_more : (xs ys : List Entry) (scene : Scene) (node : NodeId) (i s : ℕ) (text : Session) → IsPrefix xs ys → ClientsTo xs scene node i → slice_get scene.sessions i ≡ Some text → s ≡ i + 1
    → (text.node ≡ node → HasClient ys s) → ClientsTo ys scene node (i + 1)
clients_more xs ys scene node i s text pre h there number done = record { each = λ k le o. by_session k le o (ℕ_discrete k (suc i)) }
  where
    by_session : (k : ℕ) → k ≤ i + 1 → IsSessionOf scene node k → Dec (k ≡ suc i) → HasClient ys k
    by_session k le o (yes same) =
        let is : Some text ≡ Some o.text = sym there ∙ ap (λ (n : ℕ). nth scene.sessions n) (sym same) ∙ o.there in
        let text_ : text ≡ o.text = cc is in
        let next : s ≡ k = omega (arith, number, same) in
        subst (λ (n : ℕ). HasClient ys n) next (done (ap (λ (t : Session). t.node) text_ ∙ o.node_))
    by_session k le o (no other) = client_grows xs ys k pre (h.each k (omega (arith, le, other)) o)

-- all of them
pub clients_all : (list : List Entry) (scene : Scene) (node : NodeId) (n : ℕ) → ClientsTo list scene node n → length scene.sessions ≤ n → HasClients list scene node
clients_all list scene node n h le = record { each = λ s o. h.each s (below s scene.sessions o.text o.there le) o }
  where
    short : (i : ℕ) (ss : List Session) (t : Session) → slice_get ss i ≡ Some t → i < length ss
    short i [] t q = absurd (cc q)
    short zero (x ∷ ss) t q = omega arith
    short (suc i) (x ∷ ss) t q = let l = short i ss t q in omega (arith, l)

    below : (s : ℕ) (ss : List Session) (t : Session) → nth ss s ≡ Some t → length ss ≤ n → s ≤ n
    below zero ss t q l = omega arith
    below (suc s) ss t q l = let b = short s ss t q in omega (arith, b, l)
