-- The operations first name the keys of the table in their order, and all of them; they name no byte strings.
use Rattle.std.proofs.Common.{List, Some, [], ap, flat_map, inl, inr, length, length-append, map, option_and_then, refl, sym, ℕ, ◌++◌, ◌∙◌, ◌∷◌, ◌≡◌}
use Rattle.std.proofs.lemmas.Grind.{flat_map-append}
use Rattle.std.proofs.lemmas.Option.{slice_get_within}
use Rattle.scene_gen.proofs.Numbering.{all_numbers, all_sessions, sessions_stay}
use Rattle.scene_gen.proofs.Tables.{with_both}
use Rattle.scene_gen.specs.Building.{numbers}
use Rattle.scene_gen.specs.Made.{MadeSession, key_of, keys_of, named, numbered, session_in, with_pairs}
use Rattle.scene_gen.specs.declared.draws.MadeOp.{MadeOp}
use Rattle.scene_gen.specs.declared.draws.MadeOp.TheVariants.{Add, Get, Put}
use Rattle.str_base.specs.declared.names.PartId.{PartId}
use Rattle.str_scene.proofs.Counts.{counted-append, counted_next, counted_old}
use Rattle.str_scene.proofs.Pairs.{Interned, interned}
use Rattle.str_scene.specs.Keys.{place_of, with_pair}
use Rattle.str_scene.specs.SceneLimits.{counted, key_of as op_key, text_of}
use Rattle.str_scene.specs.Scenes.{Session}
use Rattle.str_scene.specs.declared.names.Op.{Op}

-- the operations of transactions
abbrev ops_of : List (List Op) → List Op
ops_of txs = flat_map (λ ops. ops) txs

-- the operations of sessions
abbrev pub all_of : List Session → List Op
all_of ss = flat_map (λ s. ops_of s.txs) ss

-- two lists in a row
counts_both : (n m k : ℕ) (xs ys : List ℕ) → counted n xs ≡ Some m → counted m ys ≡ Some k → counted n (xs ++ ys) ≡ Some k
counts_both n m k xs ys e f = counted-append n xs ys ∙ ap (option_and_then (λ j. counted j ys)) e ∙ f

-- a key
counts_key : (a : List ℕ × PartId) (table : List (List ℕ × PartId)) → counted (length table) (place_of a table ∷ []) ≡ Some (length (with_pair a table))
counts_key a table = by (interned a table)
  where
    by : Interned a table → counted (length table) (place_of a table ∷ []) ≡ Some (length (with_pair a table))
    by (inl e) = counted_old (length table) (place_of a table) [] (slice_get_within table (place_of a table) a e.0) ∙ ap (λ t. Some (length t)) (sym e.1)
    by (inr e) = counted_next (length table) (place_of a table) [] e.0 ∙ ap Some (sym (length-append table (a ∷ []))) ∙ ap (λ t. Some (length t)) (sym e.1)

-- an operation
counts_op : (op : MadeOp) (table : List (List ℕ × PartId)) → counted (length table) (op_key (numbered table op)) ≡ Some (length (with_pair (key_of op) table))
counts_op (Get k) table = counts_key (named k) table
counts_op (Put k n) table = counts_key (named k) table
counts_op (Add k n) table = counts_key (named k) table

-- a transaction
counts_ops : (ops : List MadeOp) (table : List (List ℕ × PartId)) →
    counted (length table) (flat_map op_key (numbers table ops)) ≡ Some (length (with_pairs (map key_of ops) table))
counts_ops [] table = refl
counts_ops (op ∷ ops) table =
    let more = with_pair (key_of op) table in
    counts_both (length table) (length more) (length (with_pairs (map key_of ops) more)) (op_key (numbered table op)) (flat_map op_key (numbers more ops)) (counts_op op table) (counts_ops ops more)

-- transactions
counts_scripts : (rest : List (List MadeOp)) (table : List (List ℕ × PartId)) →
    counted (length table) (flat_map op_key (ops_of (all_numbers table rest))) ≡ Some (length (with_pairs (flat_map (map key_of) rest) table))
counts_scripts [] table = refl
counts_scripts (ops ∷ rest) table =
    let more = with_pairs (map key_of ops) table in
    let later = flat_map (map key_of) rest in
    let mine = numbers table ops in
    let others = ops_of (all_numbers more rest) in
    ap (counted (length table)) (flat_map-append op_key mine others)
    ∙ counts_both (length table) (length more) (length (with_pairs later more)) (flat_map op_key mine) (flat_map op_key others) (counts_ops ops table) (counts_scripts rest more)
    ∙ ap (λ t. Some (length t)) (sym (with_both (map key_of ops) later table))

-- sessions
counts_sessions : (ss : List MadeSession) (table : List (List ℕ × PartId)) →
    counted (length table) (flat_map op_key (all_of (all_sessions table ss))) ≡ Some (length (with_pairs (keys_of ss) table))
counts_sessions [] table = refl
counts_sessions (s ∷ ss) table =
    let first = flat_map (map key_of) s.drawn in
    let more = with_pairs first table in
    let mine = ops_of (all_numbers table s.drawn) in
    let others = all_of (all_sessions more ss) in
    ap (counted (length table)) (flat_map-append op_key mine others)
    ∙ counts_both (length table) (length more) (length (with_pairs (keys_of ss) more)) (flat_map op_key mine) (flat_map op_key others) (counts_scripts s.drawn table) (counts_sessions ss more)
    ∙ ap (λ t. Some (length t)) (sym (with_both first (keys_of ss) table))

-- the keys of all sessions
pub keys_count : (ss : List MadeSession) (table : List (List ℕ × PartId)) → table ≡ with_pairs (keys_of ss) [] →
    counted 0 (flat_map op_key (all_of (map (session_in table) ss))) ≡ Some (length table)
keys_count ss table e =
    ap (λ t. counted 0 (flat_map op_key (all_of (map (session_in t) ss)))) e
    ∙ ap (λ us. counted 0 (flat_map op_key (all_of us))) (sym (sessions_stay ss []))
    ∙ counts_sessions ss []
    ∙ ap (λ t. Some (length t)) (sym e)

-- an operation names no byte string
no_text : (op : MadeOp) (table : List (List ℕ × PartId)) → text_of (numbered table op) ≡ []
no_text (Get k) table = refl
no_text (Put k n) table = refl
no_text (Add k n) table = refl

no_texts_ops : (ops : List MadeOp) (table : List (List ℕ × PartId)) → flat_map text_of (map (numbered table) ops) ≡ []
no_texts_ops [] table = refl
no_texts_ops (op ∷ ops) table = rw (no_text op table, no_texts_ops ops table) refl

no_texts_scripts : (rest : List (List MadeOp)) (table : List (List ℕ × PartId)) → flat_map text_of (ops_of (map (map (numbered table)) rest)) ≡ []
no_texts_scripts [] table = refl
no_texts_scripts (ops ∷ rest) table =
    flat_map-append text_of (map (numbered table) ops) (ops_of (map (map (numbered table)) rest))
    ∙ ap (λ l. l ++ flat_map text_of (ops_of (map (map (numbered table)) rest))) (no_texts_ops ops table)
    ∙ no_texts_scripts rest table

-- nor do all operations
pub no_texts : (ss : List MadeSession) (table : List (List ℕ × PartId)) → flat_map text_of (all_of (map (session_in table) ss)) ≡ []
no_texts [] table = refl
no_texts (s ∷ ss) table =
    flat_map-append text_of (ops_of (map (map (numbered table)) s.drawn)) (all_of (map (session_in table) ss))
    ∙ ap (λ l. l ++ flat_map text_of (all_of (map (session_in table) ss))) (no_texts_scripts s.drawn table)
    ∙ no_texts ss table
