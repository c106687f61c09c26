-- A draft stays one with each item that is not refused, and a whole one is a scene.
use Rattle.std.proofs.Common.{Bool, List, None, Some, [], ap, arith, cond, false, inl, inr, length, length-append, nat_lt, refl, slice_get, subst, sym, true, ℕ, ◌&&◌, ◌+◌, ◌++◌, ◌<◌, ◌≤◌, ◌∷◌, ◌≡◌, ◌∙◌, ◌⊎◌}
use Rattle.str_base.proofs.Lists.{got_push}
use Rattle.str_base.specs.declared.limits.TheConstants.{NODES, NODE_SESSIONS, PARTITIONS, REPLICAS, SCHEDULE_ENTRIES, SESSIONS}
use Rattle.std.proofs.lemmas.Bool.{and_parts, ltb-true, eqb-true}
use Rattle.std.specs.Prelude.{not}
use Rattle.std.proofs.lemmas.Bool.Decides.{Decides-eqb}
use Rattle.std.proofs.lemmas.List.Sums.{sum_by_push}
use Rattle.str_base.specs.Versions.{same_node}
use Rattle.str_base.specs.declared.names.NodeId.{NodeId}
use Rattle.str_scene.proofs.Checked.{entry_checked, no_fault, row_checked, up_to}
use Rattle.str_scene.proofs.Weaker.{IsLonger, event_weaker, key_weaker, row_weaker, session_weaker}
use Rattle.str_scene.specs.DraftLimits.{HasReading, IsDraft}
use Rattle.str_scene.specs.Drafts.{with_drain, is_none_yet, may_have_entry, may_have_nodes, may_have_part, may_have_session, with_entry, with_nodes, with_row, with_session}
use Rattle.str_scene.specs.Refusals.{entry_fault, is_entry, is_row, is_up_to, nodes_fault, part_fault, session_fault, sessions_at}
use Rattle.str_scene.specs.SceneLimits.{IsEvent, IsRow, IsSession}
use Rattle.str_scene.specs.Scenes.{KeyTable, Scene, Session}
use Rattle.str_scene.specs.declared.names.Event.{Event}
use Rattle.str_scene.specs.declared.names.Op.{Op}

-- a table is as long as itself
pub same_long : (t : KeyTable) → IsLonger t t
same_long t = record { names = omega arith; texts = omega arith }

-- the length after a push
pub push_length : {X : Type 0} (xs : List X) (x : X) → length (xs ++ x ∷ []) ≡ length xs + 1
push_length xs x = length-append xs (x ∷ [])

-- what holds of each item and of one more holds of each after a push
pub push_each : {X : Type 0} (P : X → Type 0) (xs : List X) (y : X) → ((i : ℕ) (x : X) → slice_get xs i ≡ Some x → P x) → P y
    → (i : ℕ) (x : X) → slice_get (xs ++ y ∷ []) i ≡ Some x → P x
push_each {X = X} P xs y h p i x g = pushed (got_push xs i y x g)
  where
    pushed : ((i ≡ length xs) × (x ≡ y)) ⊎ (slice_get xs i ≡ Some x) → P x
    pushed (inr f) = h i x f
    pushed (inl f) = rw f.1 p

-- with the number of nodes
pub draft-nodes : (n : ℕ) (d : Scene) → IsDraft d → nodes_fault n d ≡ None → IsDraft (with_nodes n d)
draft-nodes n d h e =
    let ok = no_fault (may_have_nodes d) (is_up_to NODES n) true e in
    let none : d.nodes ≡ 0 = eqb-true d.nodes 0 ok.0 in
    let range = up_to NODES n ok.1 in
    let more : d.nodes ≤ n = omega arith in
    record {
      version = h.version;
      nodes = range.1;
      parts = h.parts;
      rows = λ p row g. row_weaker d.nodes n more row (h.rows p row g);
      table = record {
        keys = h.table.keys;
        distinct_keys = h.table.distinct_keys;
        few_keys = h.table.few_keys;
        texts = h.table.texts;
        distinct_texts = h.table.distinct_texts;
        few_texts = h.table.few_texts;
      };
      few_sessions = h.few_sessions;
      sessions = λ i s g. session_weaker d (with_nodes n d) refl more (same_long d.keys) s (h.sessions i s g);
      at_one_node = h.at_one_node;
      few_transactions = h.few_transactions;
      few_events = h.few_events;
      events = λ i x g. event_weaker d (with_nodes n d) (omega arith) x (h.events i x g);
    }

-- with one more partition
pub draft-row : (row : List NodeId) (d : Scene) → IsDraft d → length row ≤ REPLICAS → part_fault row d ≡ None → IsDraft (with_row row d)
draft-row row d h few e =
    let ok = no_fault (may_have_part d && not (is_none_yet row)) (is_row d.nodes row) (nat_lt (length d.parts) PARTITIONS) e in
    let some = (and_parts (may_have_part d) (not (is_none_yet row)) ok.0).1 in
    let room = ltb-true (length d.parts) PARTITIONS ok.2 in
    let long = push_length d.parts row in
    let more : length d.parts ≤ length (d.parts ++ row ∷ []) = omega arith in
    record {
      version = h.version;
      nodes = h.nodes;
      parts = omega arith;
      rows = push_each (IsRow d.nodes) d.parts row h.rows (row_checked d.nodes row some ok.1 few);
      table = record {
        keys = λ i key g. key_weaker (length d.parts) (length (d.parts ++ row ∷ [])) more key (h.table.keys i key g);
        distinct_keys = h.table.distinct_keys;
        few_keys = h.table.few_keys;
        texts = h.table.texts;
        distinct_texts = h.table.distinct_texts;
        few_texts = h.table.few_texts;
      };
      few_sessions = h.few_sessions;
      sessions = λ i s g. session_weaker d (with_row row d) refl (omega arith) (same_long d.keys) s (h.sessions i s g);
      at_one_node = h.at_one_node;
      few_transactions = h.few_transactions;
      few_events = h.few_events;
      events = λ i x g. event_weaker d (with_row row d) (omega arith) x (h.events i x g);
    }

-- with the drain
pub draft-drain : (d : Scene) → IsDraft d → IsDraft (with_drain d)
draft-drain d h = record {
  version = h.version;
  nodes = h.nodes;
  parts = h.parts;
  rows = h.rows;
  table = record {
    keys = h.table.keys;
    distinct_keys = h.table.distinct_keys;
    few_keys = h.table.few_keys;
    texts = h.table.texts;
    distinct_texts = h.table.distinct_texts;
    few_texts = h.table.few_texts;
  };
  few_sessions = h.few_sessions;
  sessions = λ i s g. session_weaker d (with_drain d) refl (omega arith) (same_long d.keys) s (h.sessions i s g);
  at_one_node = h.at_one_node;
  few_transactions = h.few_transactions;
  few_events = h.few_events;
  events = λ i x g. event_weaker d (with_drain d) (omega arith) x (h.events i x g);
}

-- with one more entry
pub draft-entry : (e : Event) (d : Scene) → IsDraft d → HasReading e → entry_fault e d ≡ None → IsDraft (with_entry e d)
draft-entry e d h reading f =
    let ok = no_fault (may_have_entry d) (is_entry (length d.sessions) e) (nat_lt (length d.schedule) SCHEDULE_ENTRIES) f in
    let room = ltb-true (length d.schedule) SCHEDULE_ENTRIES ok.2 in
    let long = push_length d.schedule e in
    record {
      version = h.version;
      nodes = h.nodes;
      parts = h.parts;
      rows = h.rows;
      table = record {
        keys = h.table.keys;
        distinct_keys = h.table.distinct_keys;
        few_keys = h.table.few_keys;
        texts = h.table.texts;
        distinct_texts = h.table.distinct_texts;
        few_texts = h.table.few_texts;
      };
      few_sessions = h.few_sessions;
      sessions = λ i s g. session_weaker d (with_entry e d) refl (omega arith) (same_long d.keys) s (h.sessions i s g);
      at_one_node = h.at_one_node;
      few_transactions = h.few_transactions;
      few_events = omega arith;
      events = push_each (IsEvent (with_entry e d)) d.schedule e (λ i x g. event_weaker d (with_entry e d) (omega arith) x (h.events i x g))
          (event_weaker d (with_entry e d) (omega arith) e (entry_checked d e ok.1 reading));
    }

-- the sessions at a node after one more at a node that has room
at_node_push : (node : NodeId) (n : NodeId) (ss : List Session) (t : Session) → t.node ≡ node → ((m : NodeId) → sessions_at m ss ≤ NODE_SESSIONS) → sessions_at node ss < NODE_SESSIONS →
    sessions_at n (ss ++ t ∷ []) ≤ NODE_SESSIONS
at_node_push node n ss t e all room =
    let sum = sum_by_push (λ s. cond (same_node s.node n) 1 0) ss t in
    by (same_node t.node n) refl sum
  where
    by : (b : Bool) → same_node t.node n ≡ b → sessions_at n (ss ++ t ∷ []) ≡ sessions_at n ss + cond (same_node t.node n) 1 0 → sessions_at n (ss ++ t ∷ []) ≤ NODE_SESSIONS
    by true f sum =
        let one : t.node.0 ≡ n.0 = (Decides-eqb t.node.0 n.0).0 f in
        let same : node ≡ n = sym e ∙ ap (λ k. record { 0 = k }) one in
        let here : sessions_at n ss < NODE_SESSIONS = subst (λ m. sessions_at m ss < NODE_SESSIONS) same room in
        let more : sessions_at n (ss ++ t ∷ []) ≡ sessions_at n ss + 1 = rw f at sum in
        omega arith
    by false f sum =
        let here = all n in
        let more : sessions_at n (ss ++ t ∷ []) ≡ sessions_at n ss + 0 = rw f at sum in
        omega arith

-- with one more session
pub draft-session : (node : NodeId) (d : Scene) → IsDraft d → session_fault node d ≡ None → IsDraft (with_session node d)
draft-session node d h e =
    let ok = no_fault (may_have_session d) (is_up_to d.nodes node.0) (nat_lt (length d.sessions) SESSIONS && nat_lt (sessions_at node d.sessions) NODE_SESSIONS) e in
    let rooms = and_parts (nat_lt (length d.sessions) SESSIONS) (nat_lt (sessions_at node d.sessions) NODE_SESSIONS) ok.2 in
    let room = ltb-true (length d.sessions) SESSIONS rooms.0 in
    let new : Session = record { node = node; txs = [] } in
    let long = push_length d.sessions new in
    let more : length d.sessions ≤ length (d.sessions ++ new ∷ []) = omega arith in
    let sum = sum_by_push (λ s. length s.txs) d.sessions new in
    let total = h.few_transactions in
    record {
      version = h.version;
      nodes = h.nodes;
      parts = h.parts;
      rows = h.rows;
      table = record {
        keys = h.table.keys;
        distinct_keys = h.table.distinct_keys;
        few_keys = h.table.few_keys;
        texts = h.table.texts;
        distinct_texts = h.table.distinct_texts;
        few_texts = h.table.few_texts;
      };
      few_sessions = omega arith;
      sessions = push_each (IsSession (with_session node d)) d.sessions new (λ i s g. session_weaker d (with_session node d) refl (omega arith) (same_long d.keys) s (h.sessions i s g))
          (record { node = up_to d.nodes node.0 ok.1; scripts = λ j ops g. absurd (none_there j ops g) });
      at_one_node = λ n. at_node_push node n d.sessions new refl h.at_one_node (ltb-true (sessions_at node d.sessions) NODE_SESSIONS rooms.1);
      few_transactions = omega arith;
      few_events = h.few_events;
      events = λ i x g. event_weaker d (with_session node d) more x (h.events i x g);
    }
  where
    none_there : (j : ℕ) (ops : List Op) → slice_get {X = List Op} [] j ≡ Some ops → ⊥
    none_there j ops g = cc
