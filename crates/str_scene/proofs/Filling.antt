-- A draft stays one with a transaction, a key or a byte string that is not refused, and a whole one is a scene.
use Rattle.std.proofs.Common.{List, None, Some, [], ap, arith, cond, get_or, length, nat_le, nat_lt, refl, slice_get, slice_set, sym, true, zero, suc, ℕ, ◌&&◌, ◌+◌, ◌-◌, ◌++◌, ◌==◌, ◌<◌, ◌≤◌, ◌∷◌, ◌≡◌, ◌∙◌}
use Rattle.std.proofs.lemmas.Option.{slice_get_read}
use Rattle.str_base.specs.declared.limits.TheConstants.{KEYS, NODE_SESSIONS, OPERATIONS, TEXT_BYTES, TRANSACTIONS}
use Rattle.std.proofs.lemmas.Bool.{and_parts, leb-true, ltb-true}
use Rattle.std.specs.Prelude.{flat_map, not}
use Rattle.std.specs.List.{list_all}
use Rattle.std.specs.Str.{bytes_eq}
use Rattle.std.proofs.lemmas.List.Sums.{sum_by-cons}
use Rattle.std.proofs.lemmas.Slice.Eq.{bytes_eq-Decides}
use Rattle.str_base.specs.Versions.{same_node}
use Rattle.str_base.specs.declared.names.NodeId.{NodeId}
use Rattle.str_base.specs.declared.names.PartId.{PartId}
use Rattle.str_scene.proofs.Checked.{counts, no_fault, script_checked, some_members, up_to}
use Rattle.str_scene.proofs.Drafting.{push_each, push_length, same_long}
use Rattle.str_scene.proofs.Each.{each_at, each_from}
use Rattle.str_scene.proofs.Put.{put_each, put_longer, put_unique}
use Rattle.str_scene.proofs.TableLemmas.{insert-with_pair, insert-with_string}
use Rattle.str_scene.proofs.Weaker.{IsLonger, event_weaker, session_weaker}
use Rattle.str_scene.specs.Lists.{Each}
use Rattle.str_scene.specs.DraftLimits.{HasNumber, IsDraft}
use Rattle.str_scene.specs.Drafts.{add_tx, is_none_yet, may_have_tx, with_key, with_text, with_tx}
use Rattle.str_scene.specs.KeyLaws.{same_pair_self}
use Rattle.str_scene.specs.Keys.{same_pair, with_pair, with_string}
use Rattle.str_scene.specs.Refusals.{finish_fault, is_known, is_script, is_up_to, key_fault, keys_in_order, sessions_at, text_fault, texts_in_order, transaction_count, tx_fault}
use Rattle.str_scene.specs.SceneLimits.{IsByteText, IsKey, IsScene, IsScript, IsSession, all_ops, counted, is_name, key_of, text_of}
use Rattle.str_scene.specs.Scenes.{Scene, Session}
use Rattle.str_scene.specs.declared.names.Op.{Op}

-- the scripts of the sessions with one more
add_tx_each : (d : Scene) (ops : List Op) → IsScript d.version d.keys ops → (ss : List Session) → Each (IsSession d) ss → Each (IsSession d) (add_tx ops ss)
add_tx_each d ops h [] e = tt
add_tx_each d ops h (s ∷ []) e =
    (record { node = e.0.node; scripts = push_each (IsScript d.version d.keys) s.txs ops e.0.scripts h }, tt)
add_tx_each d ops h (s ∷ t ∷ ss) e = (e.0, add_tx_each d ops h (t ∷ ss) e.1)

-- no session more
pub add_tx_length : (ops : List Op) (ss : List Session) → length (add_tx ops ss) ≡ length ss
add_tx_length ops [] = refl
add_tx_length ops (s ∷ []) = refl
add_tx_length ops (s ∷ t ∷ ss) = ap suc (add_tx_length ops (t ∷ ss))

-- as many at a node
pub add_tx_at : (ops : List Op) (n : NodeId) (ss : List Session) → sessions_at n (add_tx ops ss) ≡ sessions_at n ss
add_tx_at ops n [] = refl
add_tx_at ops n (s ∷ []) = refl
add_tx_at ops n (s ∷ t ∷ ss) =
    let more = sum_by-cons (λ x. cond (same_node x.node n) 1 0) s (add_tx ops (t ∷ ss)) in
    let less = sum_by-cons (λ x. cond (same_node x.node n) 1 0) s (t ∷ ss) in
    more ∙ ap (λ k. cond (same_node s.node n) 1 0 + k) (add_tx_at ops n (t ∷ ss)) ∙ sym less

-- one transaction more at most
add_tx_count : (ops : List Op) (ss : List Session) → transaction_count (add_tx ops ss) ≤ transaction_count ss + 1
add_tx_count ops [] = omega arith
add_tx_count ops (s ∷ []) =
    let t : Session = record s { txs = s.txs ++ ops ∷ [] } in
    let more = sum_by-cons (λ x. length x.txs) t [] in
    let less = sum_by-cons (λ x. length x.txs) s [] in
    let long = push_length s.txs ops in
    omega arith
add_tx_count ops (s ∷ t ∷ ss) =
    let more = sum_by-cons (λ x. length x.txs) s (add_tx ops (t ∷ ss)) in
    let less = sum_by-cons (λ x. length x.txs) s (t ∷ ss) in
    let rest = add_tx_count ops (t ∷ ss) in
    omega arith

-- the last session replaced by itself with one more transaction
set_at_end : (ops : List Op) (ss : List Session) (n : ℕ) (s t : Session) → slice_get ss n ≡ Some s → suc n ≡ length ss → t ≡ record s { txs = s.txs ++ ops ∷ [] } →
    slice_set ss n t ≡ add_tx ops ss
set_at_end ops [] n s t g l e = absurd cc
set_at_end ops (u ∷ []) zero s t g l e = let same : u ≡ s = cc in rw (e, same) refl
set_at_end ops (u ∷ []) (suc n) s t g l e = absurd cc
set_at_end ops (u ∷ v ∷ ss) zero s t g l e = absurd (omega (arith, l))
set_at_end ops (u ∷ v ∷ ss) (suc n) s t g l e = ap (λ k. u ∷ k) (set_at_end ops (v ∷ ss) n s t g (omega (arith, l)) e)

-- the last session with one more transaction
pub set_last : (ops : List Op) (ss : List Session) (n : ℕ) (s t : Session) → n ≡ length ss → 0 < n → s ≡ get_or ss (n - 1) s → t ≡ record s { txs = s.txs ++ ops ∷ [] } →
    slice_set ss (n - 1) t ≡ add_tx ops ss
set_last ops ss n s t same l g e =
    let below : n - 1 < length ss = omega arith in
    let last : suc (n - 1) ≡ length ss = omega arith in
    set_at_end ops ss (n - 1) s t (slice_get_read ss (length ss) (n - 1) s refl below g) last e

-- with one more transaction
pub draft-tx : (ops : List Op) (d : Scene) → IsDraft d → ((i : ℕ) (op : Op) → slice_get ops i ≡ Some op → HasNumber op) → length ops ≤ OPERATIONS → tx_fault ops d ≡ None
    → IsDraft (with_tx ops d)
draft-tx ops d h numbers few e =
    let ok = no_fault (may_have_tx d && is_script d.version ops) (list_all (is_known d.keys) ops) (nat_lt (transaction_count d.sessions) TRANSACTIONS) e in
    let script = script_checked d.version d.keys ops (and_parts (may_have_tx d) (is_script d.version ops) ok.0).1 ok.1 numbers few in
    let room = ltb-true (transaction_count d.sessions) TRANSACTIONS ok.2 in
    let long = add_tx_length ops d.sessions in
    let total = add_tx_count ops d.sessions in
    let limit = h.few_sessions in
    let each = add_tx_each d ops script d.sessions (each_from (IsSession d) d.sessions h.sessions) in
    record {
      version = h.version;
      nodes = h.nodes;
      parts = h.parts;
      rows = h.rows;
      table = record {
        keys = h.table.keys;
        distinct_keys = h.table.distinct_keys;
        few_keys = h.table.few_keys;
        texts = h.table.texts;
        distinct_texts = h.table.distinct_texts;
        few_texts = h.table.few_texts;
      };
      few_sessions = omega arith;
      sessions = λ i s g. session_weaker d (with_tx ops d) refl (omega arith) (same_long d.keys) s (each_at (IsSession d) (add_tx ops d.sessions) i s each g);
      at_one_node = λ n. at_node n (add_tx_at ops n d.sessions) (h.at_one_node n);
      few_transactions = omega arith;
      few_events = h.few_events;
      events = λ i x g. event_weaker d (with_tx ops d) (omega arith) x (h.events i x g);
    }
  where
    at_node : (n : NodeId) → sessions_at n (add_tx ops d.sessions) ≡ sessions_at n d.sessions → sessions_at n d.sessions ≤ NODE_SESSIONS → sessions_at n (add_tx ops d.sessions) ≤ NODE_SESSIONS
    at_node n e l = rw e l

-- with a key
pub draft-key : (key : List ℕ × PartId) (d : Scene) → IsDraft d → key_fault key d ≡ None → IsDraft (with_key key d)
draft-key key d h e =
    let ok = no_fault (may_have_tx d) (is_name key.0 && is_up_to (length d.parts) key.1.0) (nat_le (length (with_pair key d.keys.names)) KEYS) e in
    let good = and_parts (is_name key.0) (is_up_to (length d.parts) key.1.0) ok.1 in
    let self : (a : List ℕ × PartId) → same_pair a a ≡ true = λ a. same_pair_self a a refl in
    let long : IsLonger d.keys (with_key key d).keys = record { names = put_longer same_pair self with_pair insert-with_pair key d.keys.names; texts = omega arith } in
    record {
      version = h.version;
      nodes = h.nodes;
      parts = h.parts;
      rows = h.rows;
      table = record {
        keys = put_each same_pair self with_pair insert-with_pair (IsKey (length d.parts)) key d.keys.names h.table.keys
            (record { name = good.0; part = up_to (length d.parts) key.1.0 good.1 });
        distinct_keys = put_unique same_pair self with_pair insert-with_pair key d.keys.names h.table.distinct_keys;
        few_keys = leb-true (length (with_pair key d.keys.names)) KEYS ok.2;
        texts = h.table.texts;
        distinct_texts = h.table.distinct_texts;
        few_texts = h.table.few_texts;
      };
      few_sessions = h.few_sessions;
      sessions = λ i s g. session_weaker d (with_key key d) refl (omega arith) long s (h.sessions i s g);
      at_one_node = h.at_one_node;
      few_transactions = h.few_transactions;
      few_events = h.few_events;
      events = λ i x g. event_weaker d (with_key key d) (omega arith) x (h.events i x g);
    }

-- with a byte string
pub draft-text : (text : List ℕ) (d : Scene) → IsDraft d → list_all (λ b. nat_lt b 256) text ≡ true → text_fault text d ≡ None → IsDraft (with_text text d)
draft-text text d h bytes e =
    let ok = no_fault (may_have_tx d) (nat_le (length text) TEXT_BYTES) (nat_le (length (with_string text d.keys.texts)) KEYS) e in
    let self : (a : List ℕ) → bytes_eq a a ≡ true = λ a. (bytes_eq-Decides a a).1 refl in
    let long : IsLonger d.keys (with_text text d).keys = record { names = omega arith; texts = put_longer bytes_eq self with_string insert-with_string text d.keys.texts } in
    record {
      version = h.version;
      nodes = h.nodes;
      parts = h.parts;
      rows = h.rows;
      table = record {
        keys = h.table.keys;
        distinct_keys = h.table.distinct_keys;
        few_keys = h.table.few_keys;
        texts = put_each bytes_eq self with_string insert-with_string IsByteText text d.keys.texts h.table.texts
            (record { short = leb-true (length text) TEXT_BYTES ok.1; bytes = bytes });
        distinct_texts = put_unique bytes_eq self with_string insert-with_string text d.keys.texts h.table.distinct_texts;
        few_texts = leb-true (length (with_string text d.keys.texts)) KEYS ok.2;
      };
      few_sessions = h.few_sessions;
      sessions = λ i s g. session_weaker d (with_text text d) refl (omega arith) long s (h.sessions i s g);
      at_one_node = h.at_one_node;
      few_transactions = h.few_transactions;
      few_events = h.few_events;
      events = λ i x g. event_weaker d (with_text text d) (omega arith) x (h.events i x g);
    }

-- a number that is not 0
from_not_zero : (n : ℕ) → not (n == 0) ≡ true → 1 ≤ n
from_not_zero zero e = absurd cc
from_not_zero (suc n) e = omega arith

-- a whole draft
pub draft-scene : (d : Scene) → IsDraft d → finish_fault d ≡ None → IsScene d
draft-scene d h e =
    let ok = no_fault ((not (d.nodes == 0) && not (is_none_yet d.parts)) && (keys_in_order d && texts_in_order d)) true true e in
    let halves = and_parts (not (d.nodes == 0) && not (is_none_yet d.parts)) (keys_in_order d && texts_in_order d) ok.0 in
    let given = and_parts (not (d.nodes == 0)) (not (is_none_yet d.parts)) halves.0 in
    let orders = and_parts (keys_in_order d) (texts_in_order d) halves.1 in
    record {
      version = h.version;
      nodes = (from_not_zero d.nodes given.0, h.nodes);
      parts = (some_members d.parts given.1, h.parts);
      rows = h.rows;
      table = record {
        keys = h.table.keys;
        distinct_keys = h.table.distinct_keys;
        texts = h.table.texts;
        distinct_texts = h.table.distinct_texts;
        key_order = counts (counted 0 (flat_map key_of (all_ops d))) (length d.keys.names) orders.0;
        text_order = counts (counted 0 (flat_map text_of (all_ops d))) (length d.keys.texts) orders.1;
      };
      few_sessions = h.few_sessions;
      sessions = h.sessions;
      at_one_node = h.at_one_node;
      few_transactions = h.few_transactions;
      few_events = h.few_events;
      events = h.events;
    }
