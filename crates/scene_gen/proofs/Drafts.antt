-- The scene that is built item by item is the made one.
use Rattle.std.proofs.Common.{List, [], ap, append_assoc, flat_map, map, refl, sym, ℕ, ◌++◌, ◌∙◌, ◌∷◌, ◌≡◌}
use Rattle.std.proofs.lemmas.List.{append-nil}
use Rattle.rand_pcg.specs.Lcg.{Lcg}
use Rattle.scene_gen.proofs.Numbering.{all_numbers, all_sessions, sessions_stay}
use Rattle.scene_gen.proofs.Tables.{with_both}
use Rattle.scene_gen.specs.Building.{numbers, with_entries, with_rows, with_scripts, with_sessions}
use Rattle.scene_gen.specs.Drawn.{generator}
use Rattle.scene_gen.specs.Made.{MadeSession, after_sessions, made_entries, key_of, keys_of, made, made_rows, scene_of, made_sessions, with_pairs}
use Rattle.scene_gen.specs.declared.draws.MadeOp.{MadeOp}
use Rattle.str_base.specs.declared.names.NodeId.{NodeId}
use Rattle.str_base.specs.declared.names.PartId.{PartId}
use Rattle.str_scene.specs.declared.names.Event.{Event}
use Rattle.str_scene.specs.declared.names.Op.{Op}
use Rattle.str_scene.specs.Drafts.{add_tx, empty_draft, with_drain, with_nodes}
use Rattle.str_scene.specs.Scenes.{Scene, Session}

-- a scene so far with these sessions and this table of keys
abbrev pub over : List Session → List (List ℕ × PartId) → Scene → Scene
over ss table d = record d { sessions = ss; keys = record d.keys { names = table } }

-- a session
abbrev session_of : NodeId → List (List Op) → Session
session_of node txs = record { node = node; txs = txs }

-- a session after others
abbrev then_one : List Session → NodeId → List (List Op) → List Session
then_one ss node txs = ss ++ session_of node txs ∷ []

-- the last session gets the transaction
add_to_last : (ss : List Session) (node : NodeId) (txs : List (List Op)) (ops : List Op) → add_tx ops (then_one ss node txs) ≡ then_one ss node (txs ++ ops ∷ [])
add_to_last [] node txs ops = refl
add_to_last (s ∷ []) node txs ops = refl
add_to_last (s ∷ t ∷ ss) node txs ops = ap (λ us. s ∷ us) (add_to_last (t ∷ ss) node txs ops)

-- the transactions of the last session
scripts_added : (rest : List (List MadeOp)) (ss : List Session) (node : NodeId) (txs : List (List Op)) (table : List (List ℕ × PartId)) (d : Scene) →
    with_scripts rest (over (then_one ss node txs) table d) ≡ over (then_one ss node (txs ++ all_numbers table rest)) (with_pairs (flat_map (map key_of) rest) table) d
unfolding with_scripts
scripts_added [] ss node txs table d = ap (λ ts. over (then_one ss node ts) table d) (sym (append-nil txs))
scripts_added (ops ∷ rest) ss node txs table d =
    let more = with_pairs (map key_of ops) table in
    let one = numbers table ops in
    ap (λ us. with_scripts rest (over us more d)) (add_to_last ss node txs one)
    ∙ scripts_added rest ss node (txs ++ one ∷ []) more d
    ∙ ap (λ ts. over (then_one ss node ts) (with_pairs (flat_map (map key_of) rest) more) d) (append_assoc txs (one ∷ []) (all_numbers more rest))
    ∙ ap (λ t. over (then_one ss node (txs ++ one ∷ all_numbers more rest)) t d) (sym (with_both (map key_of ops) (flat_map (map key_of) rest) table))

-- sessions
pub sessions_added : (rest : List MadeSession) (ss : List Session) (table : List (List ℕ × PartId)) (d : Scene) →
    with_sessions rest (over ss table d) ≡ over (ss ++ all_sessions table rest) (with_pairs (keys_of rest) table) d
unfolding with_sessions
sessions_added [] ss table d = ap (λ us. over us table d) (sym (append-nil ss))
sessions_added (s ∷ rest) ss table d =
    let mine = flat_map (map key_of) s.drawn in
    let more = with_pairs mine table in
    let txs = all_numbers table s.drawn in
    ap (with_sessions rest) (scripts_added s.drawn ss s.node [] table d)
    ∙ sessions_added rest (then_one ss s.node txs) more d
    ∙ ap (λ us. over us (with_pairs (keys_of rest) more) d) (append_assoc ss (session_of s.node txs ∷ []) (all_sessions more rest))
    ∙ ap (λ t. over (ss ++ session_of s.node txs ∷ all_sessions more rest) t d) (sym (with_both mine (keys_of rest) table))

-- before the first session
abbrev pub head : Scene
head = with_rows (made_rows 6 1) (with_nodes 3 (empty_draft 1))

-- all items
built : (ss : List MadeSession) (es : List Event) → with_drain (with_entries es (with_sessions ss head)) ≡ scene_of ss es
built ss es =
    ap (λ d. with_drain (with_entries es d)) (sessions_added ss [] [] head)
    ∙ ap (λ us. with_drain (with_entries es (over us (with_pairs (keys_of ss) []) head))) (sessions_stay ss [])

-- all items of a seed, one after the other
pub built_from : (seed : ℕ) (g h : Lcg) (d0 d1 d2 d3 d4 d5 : Scene) → g ≡ generator seed → d0 ≡ empty_draft 1 → d1 ≡ with_nodes 3 d0
    → d2 ≡ with_rows (made_rows 6 1) d1 → d3 ≡ with_sessions (made_sessions 12 1 g) d2 → h ≡ after_sessions 12 g → d4 ≡ with_entries (made_entries 6000 1 h) d3
    → d5 ≡ with_drain d4 → d5 ≡ made seed
unfolding made
built_from seed g h d0 d1 d2 d3 d4 d5 eg e0 e1 e2 e3 eh e4 e5 =
    let f1 : d1 ≡ with_nodes 3 (empty_draft 1) = e1 ∙ ap (with_nodes 3) e0 in
    let f2 : d2 ≡ head = e2 ∙ ap (with_rows (made_rows 6 1)) f1 in
    let f3 : d3 ≡ with_sessions (made_sessions 12 1 (generator seed)) head =
    e3 ∙ ap (λ x. with_sessions (made_sessions 12 1 x) d2) eg ∙ ap (with_sessions (made_sessions 12 1 (generator seed))) f2 in
    let fh : h ≡ after_sessions 12 (generator seed) = eh ∙ ap (after_sessions 12) eg in
    let f4 : d4 ≡ with_entries (made_entries 6000 1 (after_sessions 12 (generator seed))) (with_sessions (made_sessions 12 1 (generator seed)) head) =
    e4 ∙ ap (λ x. with_entries (made_entries 6000 1 x) d3) fh ∙ ap (with_entries (made_entries 6000 1 (after_sessions 12 (generator seed)))) f3 in
    e5 ∙ ap with_drain f4 ∙ built (made_sessions 12 1 (generator seed)) (made_entries 6000 1 (after_sessions 12 (generator seed)))
