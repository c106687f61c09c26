-- Items to come make a scene no smaller, and change nothing around its sessions and keys.
use Rattle.std.proofs.Common.{Bool, List, [], arith, cond, length, length-append, map, refl, ℕ, ◌++◌, ◌+◌, ◌∙◌, ◌∷◌, ◌≡◌, ◌≤◌}
use Rattle.std.proofs.lemmas.List.Sums.{sum_by-cons, sum_by_push}
use Rattle.scene_gen.proofs.NamedKeys.{all_longer}
use Rattle.scene_gen.specs.Building.{IsSmall, numbers, with_script, with_scripts, with_sessions}
use Rattle.scene_gen.specs.Made.{MadeSession, key_of}
use Rattle.scene_gen.specs.declared.draws.MadeOp.{MadeOp}
use Rattle.str_base.specs.Versions.{same_node}
use Rattle.str_base.specs.declared.names.NodeId.{NodeId}
use Rattle.str_scene.proofs.Filling.{add_tx_at, add_tx_length}
use Rattle.str_scene.specs.declared.names.Event.{Event}
use Rattle.str_scene.specs.declared.names.Op.{Op}
use Rattle.str_scene.specs.Drafts.{add_tx, with_session}
use Rattle.str_scene.specs.Refusals.{sessions_at, transaction_count}
use Rattle.str_scene.specs.Scenes.{Scene, Session}

-- ---- no smaller

-- a scene so far has no more than another
pub record IsWithin (d e : Scene) : Type 0 where
  pub sessions : length d.sessions ≤ length e.sessions
  pub at_one_node : (n : NodeId) → sessions_at n d.sessions ≤ sessions_at n e.sessions
  pub transactions : transaction_count d.sessions ≤ transaction_count e.sessions
  pub keys : length d.keys.names ≤ length e.keys.names

within_self : (d : Scene) → IsWithin d d
within_self d = record { sessions = omega arith; at_one_node = λ n. omega arith; transactions = omega arith; keys = omega arith }

within_both : (d e f : Scene) → IsWithin d e → IsWithin e f → IsWithin d f
within_both d e f h k = record {
  sessions = omega (arith, h.sessions, k.sessions);
  at_one_node = λ n. omega (arith, h.at_one_node n, k.at_one_node n);
  transactions = omega (arith, h.transactions, k.transactions);
  keys = omega (arith, h.keys, k.keys);
}

-- so it is small where the other is
pub within_small : (d e : Scene) → IsWithin d e → IsSmall e → IsSmall d
within_small d e h k = record {
  sessions = omega (arith, h.sessions, k.sessions);
  at_one_node = λ n. omega (arith, h.at_one_node n, k.at_one_node n);
  transactions = omega (arith, h.transactions, k.transactions);
  keys = omega (arith, h.keys, k.keys);
}

-- one transaction more, where there is a session
pub add_tx_count : (ops : List Op) (s : Session) (ss : List Session) → transaction_count (add_tx ops (s ∷ ss)) ≡ transaction_count (s ∷ ss) + 1
add_tx_count ops s [] =
    let t : Session = record s { txs = s.txs ++ ops ∷ [] } in
    let more = sum_by-cons (λ (x : Session). length x.txs) t [] in
    let less = sum_by-cons (λ (x : Session). length x.txs) s [] in
    let long = length-append s.txs (ops ∷ []) in
    omega (arith, more, less, long)
add_tx_count ops s (t ∷ ss) =
    let more = sum_by-cons (λ (x : Session). length x.txs) s (add_tx ops (t ∷ ss)) in
    let less = sum_by-cons (λ (x : Session). length x.txs) s (t ∷ ss) in
    let rest = add_tx_count ops t ss in
    omega (arith, more, less, rest)

-- no transaction less
add_tx_more : (ops : List Op) (ss : List Session) → transaction_count ss ≤ transaction_count (add_tx ops ss)
add_tx_more ops [] = omega arith
add_tx_more ops (s ∷ ss) = omega (arith, add_tx_count ops s ss)

-- with a transaction
within_script : (ops : List MadeOp) (d : Scene) → IsWithin d (with_script ops d)
within_script ops d =
    let mine = numbers d.keys.names ops in
    record {
      sessions = omega (arith, add_tx_length mine d.sessions);
      at_one_node = λ n. omega (arith, add_tx_at mine n d.sessions);
      transactions = add_tx_more mine d.sessions;
      keys = all_longer (map key_of ops) d.keys.names;
    }

-- with transactions
pub within_scripts : (rest : List (List MadeOp)) (d : Scene) → IsWithin d (with_scripts rest d)
unfolding with_scripts
within_scripts [] d = within_self d
within_scripts (ops ∷ rest) d = within_both d (with_script ops d) (with_scripts rest (with_script ops d)) (within_script ops d) (within_scripts rest (with_script ops d))

-- with a session
within_session : (node : NodeId) (d : Scene) → IsWithin d (with_session node d)
within_session node d =
    let one : Session = record { node = node; txs = [] } in
    record {
      sessions = omega (arith, length-append d.sessions (one ∷ []));
      at_one_node = λ n. omega (arith, sum_by_push (λ (x : Session). cond (same_node x.node n) 1 0) d.sessions one);
      transactions = omega (arith, sum_by_push (λ (x : Session). length x.txs) d.sessions one);
      keys = omega arith;
    }

-- with sessions
pub within_sessions : (rest : List MadeSession) (d : Scene) → IsWithin d (with_sessions rest d)
unfolding with_sessions
within_sessions [] d = within_self d
within_sessions (s ∷ rest) d =
    let e = with_session s.node d in
    let f = with_scripts s.drawn e in
    within_both d e (with_sessions rest f) (within_session s.node d) (within_both e f (with_sessions rest f) (within_scripts s.drawn e) (within_sessions rest f))

-- ---- nothing else changes

-- what stands around sessions and keys
abbrev pub Around : Type 0
Around = ℕ × List (List NodeId) × List Event × Bool

abbrev pub around : Scene → Around
around d = (d.nodes, d.parts, d.schedule, d.drain)

-- with transactions
pub scripts_around : (rest : List (List MadeOp)) (d : Scene) → around (with_scripts rest d) ≡ around d
unfolding with_scripts
scripts_around [] d = refl
scripts_around (ops ∷ rest) d = scripts_around rest (with_script ops d)

-- with sessions
pub sessions_around : (rest : List MadeSession) (d : Scene) → around (with_sessions rest d) ≡ around d
unfolding with_sessions
sessions_around [] d = refl
sessions_around (s ∷ rest) d = sessions_around rest (with_scripts s.drawn (with_session s.node d)) ∙ scripts_around s.drawn (with_session s.node d)

-- as many sessions with transactions
pub scripts_sessions : (rest : List (List MadeOp)) (d : Scene) → length (with_scripts rest d).sessions ≡ length d.sessions
unfolding with_scripts
scripts_sessions [] d = refl
scripts_sessions (ops ∷ rest) d = scripts_sessions rest (with_script ops d) ∙ add_tx_length (numbers d.keys.names ops) d.sessions
