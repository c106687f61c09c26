-- The number that a key has when it comes is the one that it has in the whole table.
use Rattle.std.proofs.Common.{List, [], ap, append_assoc, flat_map, map, refl, sym, ℕ, ◌++◌, ◌∙◌, ◌∷◌, ◌≡◌}
use Rattle.scene_gen.proofs.Tables.{place_stays, with_both}
use Rattle.scene_gen.specs.Building.{numbers}
use Rattle.scene_gen.specs.Made.{MadeSession, key_of, keys_of, named, numbered, session_in, with_pairs}
use Rattle.scene_gen.specs.declared.draws.MadeOp.{MadeOp}
use Rattle.scene_gen.specs.declared.draws.MadeOp.TheVariants.{Add, Get, Put}
use Rattle.str_base.specs.declared.names.PartId.{PartId}
use Rattle.str_scene.specs.declared.names.Op.{Op}
use Rattle.str_scene.specs.declared.names.Op.TheVariants.{Add as OpAdd, Get as OpGet, Put as OpPut}
use Rattle.str_scene.specs.Keys.{with_pair}
use Rattle.str_scene.specs.Scenes.{Session}

-- transactions by the numbers of their keys, each of which the table has, or gets then
abbrev pub all_numbers : List (List ℕ × PartId) → List (List MadeOp) → List (List Op)
all_numbers table [] = []
all_numbers table (ops ∷ rest) = numbers table ops ∷ all_numbers (with_pairs (map key_of ops) table) rest

-- sessions by the numbers of their keys, each of which the table has, or gets then
abbrev pub all_sessions : List (List ℕ × PartId) → List MadeSession → List Session
all_sessions table [] = []
all_sessions table (s ∷ ss) =
    record { node = s.node; txs = all_numbers table s.drawn } ∷ all_sessions (with_pairs (flat_map (map key_of) s.drawn) table) ss

-- an operation, whatever keys come later
op_stays : (op : MadeOp) (ks table : List (List ℕ × PartId)) → numbered table op ≡ numbered (with_pairs ks (with_pair (key_of op) table)) op
op_stays (Get k) ks table = ap (λ n. OpGet (record { 0 = n })) (place_stays (named k) ks table)
op_stays (Put k n) ks table = ap (λ m. OpPut (record { 0 = m }) n) (place_stays (named k) ks table)
op_stays (Add k n) ks table = ap (λ m. OpAdd (record { 0 = m }) n) (place_stays (named k) ks table)

-- operations
ops_stay : (ops : List MadeOp) (ks table : List (List ℕ × PartId)) → numbers table ops ≡ map (numbered (with_pairs (map key_of ops ++ ks) table)) ops
ops_stay [] ks table = refl
ops_stay (op ∷ ops) ks table =
    let whole = with_pairs (map key_of ops ++ ks) (with_pair (key_of op) table) in
    ap (λ o. o ∷ numbers (with_pair (key_of op) table) ops) (op_stays op (map key_of ops ++ ks) table)
    ∙ ap (λ os. numbered whole op ∷ os) (ops_stay ops ks (with_pair (key_of op) table))

-- transactions
scripts_stay : (ss : List (List MadeOp)) (ks table : List (List ℕ × PartId)) →
    all_numbers table ss ≡ map (map (numbered (with_pairs (flat_map (map key_of) ss ++ ks) table))) ss
scripts_stay [] ks table = refl
scripts_stay (ops ∷ ss) ks table =
    let mine = map key_of ops in
    let later = flat_map (map key_of) ss in
    let split : (mine ++ later) ++ ks ≡ mine ++ (later ++ ks) = append_assoc mine later ks in
    let whole : with_pairs ((mine ++ later) ++ ks) table ≡ with_pairs (later ++ ks) (with_pairs mine table) =
    ap (λ xs. with_pairs xs table) split ∙ with_both mine (later ++ ks) table in
    ap (λ o. o ∷ all_numbers (with_pairs mine table) ss) (ops_stay ops (later ++ ks) table ∙ ap (λ xs. map (numbered (with_pairs xs table)) ops) (sym split))
    ∙ ap (λ os. map (numbered (with_pairs ((mine ++ later) ++ ks) table)) ops ∷ os)
    (scripts_stay ss ks (with_pairs mine table) ∙ ap (λ t. map (map (numbered t)) ss) (sym whole))

-- sessions
pub sessions_stay : (ss : List MadeSession) (table : List (List ℕ × PartId)) → all_sessions table ss ≡ map (session_in (with_pairs (keys_of ss) table)) ss
sessions_stay [] table = refl
sessions_stay (s ∷ ss) table =
    let mine = flat_map (map key_of) s.drawn in
    let whole : with_pairs (mine ++ keys_of ss) table ≡ with_pairs (keys_of ss) (with_pairs mine table) = with_both mine (keys_of ss) table in
    let first : Session = session_in (with_pairs (mine ++ keys_of ss) table) s in
    ap (λ (txs : List (List Op)). (let t : Session = record { node = s.node; txs = txs } in t ∷ all_sessions (with_pairs mine table) ss)) (scripts_stay s.drawn (keys_of ss) table)
    ∙ ap (λ ts. first ∷ ts) (sessions_stay ss (with_pairs mine table) ∙ ap (λ t. map (session_in t) ss) (sym whole))
