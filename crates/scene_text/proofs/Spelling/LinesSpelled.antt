-- The lines of a scene are of the form, and their texts are those that the scene is spelled by.
use Rattle.std.proofs.Common.{Bool, List, Some, [], ap, append_assoc, arith, codes, decimal, false, length, map, refl, slice_get, subst, suc, sym, true, ℕ, ◌++◌, ◌+◌, ◌<◌, ◌^◌, ◌∙◌, ◌∷◌, ◌≡◌, ◌≤◌, inl, inr}
use Rattle.std.proofs.lemmas.List.{map-append}
use Rattle.std.specs.Prelude.{flat_map}
use Rattle.scene_text.proofs.Taking.StatesKept.{GoodEvent, GoodScript, GoodSession, IsVersion}
use Rattle.scene_text.proofs.Spelling.Numerals.{numeral-decimal, signed_numeral-decimal}
use Rattle.scene_text.proofs.Taking.TransactionLines.{KeyGood, TableGood, key_good, text_good}
use Rattle.scene_text.proofs.Taking.LinesComplete.{table_good}
use Rattle.scene_text.proofs.Taking.WholeDrafts.{Whole}
use Rattle.scene_text.specs.LineTexts.{IsForm, key_text, line_text}
use Rattle.scene_text.specs.Numerals.{numeral, signed_numeral}
use Rattle.scene_text.specs.SceneLines.{drain_line, entry_line, key_at, lines_of, one_session_lines, op_line, row_lines, script_lines, text_at}
use Rattle.scene_text.specs.Taking.{Limits, scene_limits}
use Rattle.scene_text.specs.declared.lines.Line.{Line}
use Rattle.scene_text.specs.declared.lines.Line.TheVariants.{End as LEnd, Nodes as LNodes, Schedule as LSchedule, Version as LVersion}
use Rattle.str_base.specs.declared.names.KeyId.{KeyId}
use Rattle.str_base.specs.declared.names.NodeId.{NodeId}
use Rattle.str_base.specs.declared.names.TextId.{TextId}
use Rattle.str_scene.proofs.Each.{each_append}
use Rattle.str_scene.specs.Lists.{Each}
use Rattle.str_scene.specs.SceneLimits.{Exists, IsOp, IsRow}
use Rattle.str_scene.specs.Scenes.{Scene, Session}
use Rattle.str_scene.specs.Spelling.{drain_lines, event_spelled, head_lines, hex_byte, key_spelled, name_spelled, op_spelled, part_lines, part_spelled, scene_lines, session_lines, tail_lines, text_spelled, tx_lines}
use Rattle.str_scene.specs.declared.names.Event.{Event}
use Rattle.str_scene.specs.declared.names.Event.TheVariants.{Client, Deliver}
use Rattle.str_scene.specs.declared.names.Op.{Op}
use Rattle.str_scene.specs.declared.names.Op.TheVariants.{Abort, Add, Del, Get, Need, Put, Puts}

-- the line of an operation of the scene is of the form
op_form : (scene : Scene) (o : Op) → TableGood scene → IsOp scene.version scene.keys o → IsForm (op_line scene.keys o)
op_form scene (Get k) t h = (key_good scene k t h).good.name
op_form scene (Put k n) t h = (key_good scene k t h.0).good.name
op_form scene (Puts k u) t h = ((key_good scene k t h.0).good.name, (text_good scene u t h.1).good.bytes)
op_form scene (Add k n) t h = (key_good scene k t h.0).good.name
op_form scene (Del k) t h = (key_good scene k t h).good.name
op_form scene (Need k n) t h = (key_good scene k t h.0).good.name
op_form scene Abort t h = tt

ops_form : (scene : Scene) (ops : List Op) → TableGood scene → Each (IsOp scene.version scene.keys) ops → Each IsForm (map (op_line scene.keys) ops)
ops_form scene [] t h = tt
ops_form scene (o ∷ ops) t h = (op_form scene o t h.0, ops_form scene ops t h.1)

txs_form : (limits : Limits) (scene : Scene) (txs : List (List Op)) → TableGood scene → Each (GoodScript limits scene.version scene.keys) txs → Each IsForm (flat_map (script_lines scene.keys) txs)
txs_form limits scene [] t h = tt
txs_form limits scene (ops ∷ txs) t h =
    each_append IsForm (script_lines scene.keys ops) (flat_map (script_lines scene.keys) txs) (tt, ops_form scene ops t h.0.2) (txs_form limits scene txs t h.1)

sessions_form : (limits : Limits) (scene : Scene) (ss : List Session) → TableGood scene → Each (GoodSession limits scene.version scene.nodes scene.keys) ss →
    Each IsForm (flat_map (one_session_lines scene.keys) ss)
sessions_form limits scene [] t h = tt
sessions_form limits scene (s ∷ ss) t h =
    each_append IsForm (one_session_lines scene.keys s) (flat_map (one_session_lines scene.keys) ss) (tt, txs_form limits scene s.txs t h.0.1) (sessions_form limits scene ss t h.1)

rows_form : (nodes p : ℕ) (rows : List (List NodeId)) → Each (IsRow nodes) rows → Each IsForm (row_lines p rows)
rows_form nodes p [] h = tt
rows_form nodes p (row ∷ rows) h = (h.0.some, rows_form nodes (p + 1) rows h.1)

entry_form : (e : Event) → IsForm (entry_line e)
entry_form (Client s t) = tt
entry_form (Deliver i) = tt

entries_form : (es : List Event) → Each IsForm (map entry_line es)
entries_form [] = tt
entries_form (e ∷ es) = (entry_form e, entries_form es)

last_form : (drain : Bool) → Each IsForm (drain_line drain ++ LEnd ∷ [])
last_form true = (tt, (tt, tt))
last_form false = (tt, tt)

-- all lines of a scene are of the form
pub lines_form : (limits : Limits) (scene : Scene) → Whole limits scene → Each IsForm (lines_of scene)
lines_form limits scene w =
    let t = table_good limits scene w in
    let sessions : List Line = flat_map (one_session_lines scene.keys) scene.sessions in
    let last : List Line = drain_line scene.drain ++ LEnd ∷ [] in
    each_append IsForm (LVersion scene.version ∷ LNodes scene.nodes ∷ (row_lines 1 scene.parts ++ sessions)) (LSchedule ∷ (map entry_line scene.schedule ++ last))
    (w.head.version, (tt, each_append IsForm (row_lines 1 scene.parts) sessions (rows_form scene.nodes 1 scene.parts w.kept.rows) (sessions_form limits scene scene.sessions t w.kept.sessions)))
    (tt, each_append IsForm (map entry_line scene.schedule) last (entries_form scene.schedule) (last_form scene.drain))

-- a key of the scene
key_same : (scene : Scene) (k : KeyId) → length scene.parts ≤ 32 → KeyGood scene k → key_text (key_at scene.keys k).0 (key_at scene.keys k).1 ≡ key_spelled scene.keys k
key_same scene k few g =
    ap (λ ds. ((key_at scene.keys k).0 ++ codes "@") ++ ds) (numeral-decimal (key_at scene.keys k).1.0 (omega (arith, g.good.part.1)))
    ∙ ap name_spelled (sym g.at)

-- a byte string of the scene
text_same : (scene : Scene) (t : TextId) → slice_get scene.keys.texts t.0 ≡ Some (text_at scene.keys t) →
    codes "x" ++ flat_map hex_byte (text_at scene.keys t) ≡ text_spelled (slice_get scene.keys.texts t.0)
text_same scene t e = ap text_spelled (sym e)

-- the text of an operation
op_same : (scene : Scene) (o : Op) → length scene.parts ≤ 32 → TableGood scene → IsOp scene.version scene.keys o → line_text (op_line scene.keys o) ≡ op_spelled scene.keys o
op_same scene (Get k) few t h = ap (λ xs. codes "get " ++ xs) (key_same scene k few (key_good scene k t h))
op_same scene (Put k n) few t h =
    ap (λ xs. codes "put " ++ xs ++ codes " " ++ signed_numeral n) (key_same scene k few (key_good scene k t h.0))
    ∙ ap (λ xs. codes "put " ++ key_spelled scene.keys k ++ codes " " ++ xs) (signed_numeral-decimal n h.1)
op_same scene (Puts k u) few t h =
    ap (λ xs. codes "puts " ++ xs ++ codes " " ++ (codes "x" ++ flat_map hex_byte (text_at scene.keys u))) (key_same scene k few (key_good scene k t h.0))
    ∙ ap (λ xs. codes "puts " ++ key_spelled scene.keys k ++ codes " " ++ xs) (text_same scene u (text_good scene u t h.1).at)
op_same scene (Add k n) few t h =
    ap (λ xs. codes "add " ++ xs ++ codes " " ++ signed_numeral n) (key_same scene k few (key_good scene k t h.0))
    ∙ ap (λ xs. codes "add " ++ key_spelled scene.keys k ++ codes " " ++ xs) (signed_numeral-decimal n h.1)
op_same scene (Del k) few t h = ap (λ xs. codes "del " ++ xs) (key_same scene k few (key_good scene k t h))
op_same scene (Need k n) few t h =
    ap (λ xs. codes "need " ++ xs ++ codes " " ++ signed_numeral n) (key_same scene k few (key_good scene k t h.0))
    ∙ ap (λ xs. codes "need " ++ key_spelled scene.keys k ++ codes " " ++ xs) (signed_numeral-decimal n h.1)
op_same scene Abort few t h = refl

ops_same : (scene : Scene) (ops : List Op) → length scene.parts ≤ 32 → TableGood scene → Each (IsOp scene.version scene.keys) ops →
    map line_text (map (op_line scene.keys) ops) ≡ map (op_spelled scene.keys) ops
ops_same scene [] few t h = refl
ops_same scene (o ∷ ops) few t h =
    ap (λ x. x ∷ map line_text (map (op_line scene.keys) ops)) (op_same scene o few t h.0) ∙ ap (λ xs. op_spelled scene.keys o ∷ xs) (ops_same scene ops few t h.1)

txs_same : (limits : Limits) (scene : Scene) (txs : List (List Op)) → length scene.parts ≤ 32 → TableGood scene → Each (GoodScript limits scene.version scene.keys) txs →
    map line_text (flat_map (script_lines scene.keys) txs) ≡ flat_map (tx_lines scene.keys) txs
txs_same limits scene [] few t h = refl
txs_same limits scene (ops ∷ txs) few t h =
    map-append line_text (script_lines scene.keys ops) (flat_map (script_lines scene.keys) txs)
    ∙ (ap (λ xs. (codes "tx" ∷ xs) ++ map line_text (flat_map (script_lines scene.keys) txs)) (ops_same scene ops few t h.0.2)
    ∙ ap (λ xs. tx_lines scene.keys ops ++ xs) (txs_same limits scene txs few t h.1))

session_same : (limits : Limits) (scene : Scene) (s : Session) → length scene.parts ≤ 32 → scene.nodes ≤ 8 → TableGood scene → GoodSession limits scene.version scene.nodes scene.keys s →
    map line_text (one_session_lines scene.keys s) ≡ session_lines scene.keys s
session_same limits scene s few small t h =
    ap (λ ds. (codes "session " ++ ds) ∷ map line_text (flat_map (script_lines scene.keys) s.txs)) (numeral-decimal s.node.0 (omega (arith, h.0.1)))
    ∙ ap (λ xs. (codes "session " ++ decimal s.node.0) ∷ xs) (txs_same limits scene s.txs few t h.1)

sessions_same : (limits : Limits) (scene : Scene) (ss : List Session) → length scene.parts ≤ 32 → scene.nodes ≤ 8 → TableGood scene →
    Each (GoodSession limits scene.version scene.nodes scene.keys) ss → map line_text (flat_map (one_session_lines scene.keys) ss) ≡ flat_map (session_lines scene.keys) ss
sessions_same limits scene [] few small t h = refl
sessions_same limits scene (s ∷ ss) few small t h =
    map-append line_text (one_session_lines scene.keys s) (flat_map (one_session_lines scene.keys) ss)
    ∙ (ap (λ xs. xs ++ map line_text (flat_map (one_session_lines scene.keys) ss)) (session_same limits scene s few small t h.0)
    ∙ ap (λ xs. session_lines scene.keys s ++ xs) (sessions_same limits scene ss few small t h.1))

-- the text of a row
row_same : (nodes : ℕ) (row : List NodeId) → nodes ≤ 8 → ((i : ℕ) (n : NodeId) → slice_get row i ≡ Some n → Exists n.0 nodes) →
    flat_map (λ r. codes " " ++ numeral r.0) row ≡ flat_map (λ r. codes " " ++ decimal r.0) row
row_same nodes [] small h = refl
row_same nodes (n ∷ row) small h =
    ap (λ ds. (codes " " ++ ds) ++ flat_map (λ r. codes " " ++ numeral r.0) row) (numeral-decimal n.0 (omega (arith, (h 0 n refl).1)))
    ∙ ap (λ xs. (codes " " ++ decimal n.0) ++ xs) (row_same nodes row small (λ i m e. h (i + 1) m (subst (λ j. slice_get (n ∷ row) j ≡ Some m) (more i) e)))
  where
    more : (i : ℕ) → suc i ≡ i + 1
    more i = omega arith

rows_same : (nodes p : ℕ) (rows : List (List NodeId)) → nodes ≤ 8 → p + length rows ≤ 2 ^ 32 → Each (IsRow nodes) rows → map line_text (row_lines p rows) ≡ part_lines p rows
rows_same nodes p [] small few h = refl
rows_same nodes p (row ∷ rows) small few h =
    ap (λ ds. ((codes "part " ++ ds) ++ flat_map (λ r. codes " " ++ numeral r.0) row) ∷ map line_text (row_lines (p + 1) rows)) (numeral-decimal p (omega arith))
    ∙ (ap (λ xs. ((codes "part " ++ decimal p) ++ xs) ∷ map line_text (row_lines (p + 1) rows)) (row_same nodes row small h.0.exist)
    ∙ ap (λ xs. part_spelled p row ∷ xs) (rows_same nodes (p + 1) rows small (omega arith) h.1))

-- the text of an entry
entry_same : (n : ℕ) (e : Event) → n ≤ 64 → GoodEvent n e → line_text (entry_line e) ≡ event_spelled e
entry_same n (Client s t) few h =
    ap (λ ds. ((codes "c " ++ ds) ++ codes " ") ++ numeral t) (numeral-decimal s.0 (omega (arith, h.0.1)))
    ∙ ap (λ ds. ((codes "c " ++ decimal s.0) ++ codes " ") ++ ds) (numeral-decimal t h.1)
entry_same n (Deliver i) few h = ap (λ ds. codes "d " ++ ds) (numeral-decimal i h.1)

entries_same : (n : ℕ) (es : List Event) → n ≤ 64 → Each (GoodEvent n) es → map line_text (map entry_line es) ≡ map event_spelled es
entries_same n [] few h = refl
entries_same n (e ∷ es) few h =
    ap (λ x. x ∷ map line_text (map entry_line es)) (entry_same n e few h.0) ∙ ap (λ xs. event_spelled e ∷ xs) (entries_same n es few h.1)

last_same : (drain : Bool) → map line_text (drain_line drain ++ LEnd ∷ []) ≡ drain_lines drain ++ codes "end" ∷ []
last_same true = refl
last_same false = refl

-- a version
version_small : (v : ℕ) → IsVersion v → v < 2 ^ 64
version_small v (inl e) = omega arith
version_small v (inr e) = omega arith

-- the texts of the lines of a scene are those that it is spelled by
pub spelled : (scene : Scene) → Whole scene_limits scene → map line_text (lines_of scene) ≡ scene_lines scene
spelled scene w =
    let t = table_good scene_limits scene w in
    let few : length scene.parts ≤ 32 = w.kept.counts.few_parts in
    let small : scene.nodes ≤ 8 = w.head.nodes.1 in
    let rows : List Line = row_lines 1 scene.parts in
    let sessions : List Line = flat_map (one_session_lines scene.keys) scene.sessions in
    let last : List Line = drain_line scene.drain ++ LEnd ∷ [] in
    let entries : List Line = map entry_line scene.schedule in
    let head : map line_text (LVersion scene.version ∷ LNodes scene.nodes ∷ rows) ≡ head_lines scene =
    ap (λ ds. (codes "str " ++ ds) ∷ (codes "nodes " ++ numeral scene.nodes) ∷ map line_text rows) (numeral-decimal scene.version (version_small scene.version w.head.version))
    ∙ (ap (λ ds. (codes "str " ++ decimal scene.version) ∷ (codes "nodes " ++ ds) ∷ map line_text rows) (numeral-decimal scene.nodes (omega arith))
    ∙ ap (λ xs. (codes "str " ++ decimal scene.version) ∷ (codes "nodes " ++ decimal scene.nodes) ∷ xs) (rows_same scene.nodes 1 scene.parts small (omega arith) w.kept.rows)) in
    let tail : map line_text (LSchedule ∷ (entries ++ last)) ≡ tail_lines scene =
    ap (λ xs. codes "schedule" ∷ xs) (map-append line_text entries last
    ∙ (ap (λ xs. xs ++ map line_text last) (entries_same (length scene.sessions) scene.schedule w.kept.counts.few_sessions w.kept.events)
    ∙ ap (λ xs. map event_spelled scene.schedule ++ xs) (last_same scene.drain))) in
    let body : map line_text sessions ≡ flat_map (session_lines scene.keys) scene.sessions = sessions_same scene_limits scene scene.sessions few small t w.kept.sessions in
    ap (map line_text) (append_assoc (LVersion scene.version ∷ LNodes scene.nodes ∷ rows) sessions (LSchedule ∷ (entries ++ last)))
    ∙ (map-append line_text (LVersion scene.version ∷ LNodes scene.nodes ∷ rows) (sessions ++ LSchedule ∷ (entries ++ last))
    ∙ (ap (λ xs. xs ++ map line_text (sessions ++ LSchedule ∷ (entries ++ last))) head
    ∙ ap (λ xs. head_lines scene ++ xs) (map-append line_text sessions (LSchedule ∷ (entries ++ last))
    ∙ (ap (λ xs. xs ++ map line_text (LSchedule ∷ (entries ++ last))) body ∙ ap (λ xs. flat_map (session_lines scene.keys) scene.sessions ++ xs) tail))))
