-- The lines of a scene within limits are taken to the end, and give that scene.
use Rattle.std.proofs.Common.{Bool, List, Some, [], ap, append-nil, append_assoc, arith, false, length, length-append, map, refl, sym, take, take_all, true, ℕ, ◌&&◌, ◌++◌, ◌+◌, ◌<◌, ◌==◌, ◌^◌, ◌∙◌, ◌∷◌, ◌≡◌, ◌≤◌}
use Rattle.std.proofs.lemmas.Bool.{and_from, lt-ltb, le-leb}
use Rattle.std.proofs.lemmas.Bool.Decides.{Decides-eqb}
use Rattle.std.specs.Prelude.{flat_map}
use Rattle.str_scene.proofs.Allowing.{up_to_holds}
use Rattle.scene_text.proofs.Taking.HeadLines.{mk}
use Rattle.scene_text.proofs.Taking.StatesKept.{GoodEvent}
use Rattle.scene_text.proofs.Taking.TransactionLines.{TableGood, body, upto}
use Rattle.scene_text.proofs.Taking.SessionLines.{sessions_taken, taken_on}
use Rattle.scene_text.proofs.Taking.TransactionEnds.{session_ops}
use Rattle.scene_text.proofs.Taking.LinesTaken.{taken}
use Rattle.scene_text.proofs.Spelling.NumberTests.{row_holds}
use Rattle.scene_text.proofs.Taking.WholeDrafts.{Whole}
use Rattle.scene_text.specs.LineOrder.Place.{AfterEnd, AfterNodes, AfterPart, AfterVersion, InSchedule}
use Rattle.scene_text.specs.SceneLines.{drain_line, entry_line, lines_of, one_session_lines, row_lines}
use Rattle.scene_text.specs.Taking.{Limits, State, at_start, closed, goes_on, is_row, take_line, take_lines}
use Rattle.scene_text.specs.Taking.Taken.{Now}
use Rattle.scene_text.specs.declared.lines.Line.{Line}
use Rattle.scene_text.specs.declared.lines.Line.TheVariants.{End as LEnd, Nodes as LNodes, Part as LPart, Schedule as LSchedule, Version as LVersion}
use Rattle.str_base.specs.declared.names.NodeId.{NodeId}
use Rattle.str_scene.specs.Lists.{Each}
use Rattle.str_scene.specs.Drafts.{empty_draft, with_entry, with_nodes}
use Rattle.str_scene.specs.SceneLimits.{IsRow, all_ops, counted, key_of, text_of}
use Rattle.str_scene.specs.Scenes.{KeyTable, Scene}
use Rattle.str_scene.specs.declared.names.Event.{Event}
use Rattle.str_scene.specs.declared.names.Event.TheVariants.{Client, Deliver}

-- the head up to some partitions
abbrev rowed : ℕ → ℕ → List (List NodeId) → Scene
rowed v n rows = record (with_nodes n (empty_draft v)) { parts = rows }

-- the next partition is in range
row_range : (n p : ℕ) (done : List (List NodeId)) (row : List NodeId) → p ≡ length done + 1 → IsRow n row → ((p == length done + 1) && is_row n row) ≡ true
row_range n p done row e r = and_from _ _ ((Decides-eqb p (length done + 1)).1 e) (row_holds n row r)

-- the lines of partitions are taken
rows_taken : (limits : Limits) (v n p : ℕ) (rows done : List (List NodeId)) → p ≡ length done + 1 → Each (IsRow n) rows → length done + length rows ≤ limits.parts →
    take_lines limits (mk AfterPart (rowed v n done) []) (row_lines p rows) ≡ Now (mk AfterPart (rowed v n (done ++ rows)) [])
rows_taken limits v n p [] done e h few = ap (λ xs. Now (mk AfterPart (rowed v n xs) [])) (sym (append-nil done))
rows_taken limits v n p (row ∷ rows) done e h few =
    let first : take_line limits (mk AfterPart (rowed v n done) []) (LPart (record { 0 = p }) row) ≡ Now (mk AfterPart (rowed v n (done ++ row ∷ [])) []) =
    taken limits (mk AfterPart (rowed v n done) []) (LPart (record { 0 = p }) row) AfterPart refl (row_range n p done row e h.0) (lt-ltb (length done) limits.parts (omega arith)) in
    ap (goes_on (λ s. take_lines limits s (row_lines (p + 1) rows))) first
    ∙ (rows_taken limits v n (p + 1) rows (done ++ row ∷ []) (omega (arith, e, length-append done (row ∷ []))) h.1 (omega (arith, few, length-append done (row ∷ [])))
    ∙ ap (λ xs. Now (mk AfterPart (rowed v n xs) [])) (append_assoc done (row ∷ []) rows))

-- all of them
all_rows_taken : (limits : Limits) (v n : ℕ) (rows : List (List NodeId)) → 1 ≤ length rows → Each (IsRow n) rows → length rows ≤ limits.parts →
    take_lines limits (mk AfterNodes (with_nodes n (empty_draft v)) []) (row_lines 1 rows) ≡ Now (mk AfterPart (rowed v n rows) [])
all_rows_taken limits v n [] some h few = absurd (omega arith)
all_rows_taken limits v n (row ∷ rows) some h few =
    let first : take_line limits (mk AfterNodes (with_nodes n (empty_draft v)) []) (LPart (record { 0 = 1 }) row) ≡ Now (mk AfterPart (rowed v n (row ∷ [])) []) =
    taken limits (mk AfterNodes (with_nodes n (empty_draft v)) []) (LPart (record { 0 = 1 }) row) AfterPart refl (row_range n 1 [] row refl h.0) (lt-ltb 0 limits.parts (omega arith)) in
    ap (goes_on (λ s. take_lines limits s (row_lines (1 + 1) rows))) first
    ∙ rows_taken limits v n (1 + 1) rows (row ∷ []) refl h.1 (omega arith)

-- an entry is taken
entry_taken : (limits : Limits) (d : Scene) (e : Event) → GoodEvent (length d.sessions) e → length d.schedule < limits.entries →
    take_line limits (mk InSchedule d []) (entry_line e) ≡ Now (mk InSchedule (with_entry e d) [])
entry_taken limits d (Client s t) h room =
    taken limits (mk InSchedule d []) (entry_line (Client s t)) InSchedule refl (and_from _ _ (up_to_holds (length d.sessions) s.0 h.0) (lt-ltb t (2 ^ 64) h.1)) (lt-ltb _ _ room)
entry_taken limits d (Deliver i) h room =
    taken limits (mk InSchedule d []) (entry_line (Deliver i)) InSchedule refl (and_from _ _ (le-leb 1 i h.0) (lt-ltb i (2 ^ 64) h.1)) (lt-ltb _ _ room)

-- a scene with these entries
abbrev scheduled : Scene → List Event → Scene
scheduled d es = record d { schedule = es }

-- the entries are taken
entries_taken : (limits : Limits) (d : Scene) (es done : List Event) → Each (GoodEvent (length d.sessions)) es → length done + length es ≤ limits.entries →
    take_lines limits (mk InSchedule (scheduled d done) []) (map entry_line es) ≡ Now (mk InSchedule (scheduled d (done ++ es)) [])
entries_taken limits d [] done h few = ap (λ xs. Now (mk InSchedule (scheduled d xs) [])) (sym (append-nil done))
entries_taken limits d (e ∷ es) done h few =
    ap (goes_on (λ s. take_lines limits s (map entry_line es))) (entry_taken limits (scheduled d done) e h.0 (omega arith))
    ∙ (entries_taken limits d es (done ++ e ∷ []) h.1 (omega (arith, few, length-append done (e ∷ [])))
    ∙ ap (λ xs. Now (mk InSchedule (scheduled d xs) [])) (append_assoc done (e ∷ []) es))

-- the drain and the end are taken
last_taken : (limits : Limits) (d : Scene) (drain : Bool) → d.drain ≡ false →
    take_lines limits (mk InSchedule d []) (drain_line drain ++ LEnd ∷ []) ≡ Now (mk AfterEnd (record d { drain = drain }) [])
last_taken limits d true e = refl
last_taken limits d false e = ap (λ b. Now (mk AfterEnd (record d { drain = b }) [])) e

-- the head is taken
head_taken : (limits : Limits) (scene : Scene) → Whole limits scene →
    take_lines limits at_start (LVersion scene.version ∷ LNodes scene.nodes ∷ row_lines 1 scene.parts) ≡ Now (mk AfterPart (rowed scene.version scene.nodes scene.parts) [])
head_taken limits scene w =
    let first : take_line limits (mk AfterVersion (empty_draft scene.version) []) (LNodes scene.nodes) ≡ Now (mk AfterNodes (with_nodes scene.nodes (empty_draft scene.version)) []) =
    taken limits (mk AfterVersion (empty_draft scene.version) []) (LNodes scene.nodes) AfterNodes refl (up_to_holds 8 scene.nodes w.head.nodes) refl in
    ap (goes_on (λ s. take_lines limits s (row_lines 1 scene.parts))) first
    ∙ all_rows_taken limits scene.version scene.nodes scene.parts w.head.parts w.kept.rows w.kept.counts.few_parts

-- the table of a scene within limits
pub table_good : (limits : Limits) (scene : Scene) → Whole limits scene → TableGood scene
table_good limits scene w = record {
  names = w.kept.table.names;
  distinct_names = w.kept.table.distinct_names;
  texts = w.kept.table.texts;
  distinct_texts = w.kept.table.distinct_texts;
}

-- all of a table
upto_all : (table : KeyTable) → upto table (length table.names) (length table.texts) ≡ table
upto_all table =
    ap (λ xs. record { names = xs; texts = take (length table.texts) table.texts }) (take_all (length table.names) table.names (omega arith))
    ∙ ap (λ xs. record { names = table.names; texts = xs }) (take_all (length table.texts) table.texts (omega arith))

-- the lines of a scene within limits lead to its end
pub complete : (limits : Limits) (scene : Scene) → Whole limits scene → take_lines limits at_start (lines_of scene) ≡ Now (mk AfterEnd scene [])
complete limits scene w =
    let head : List Line = LVersion scene.version ∷ LNodes scene.nodes ∷ row_lines 1 scene.parts in
    let middle : List Line = flat_map (one_session_lines scene.keys) scene.sessions in
    let last : List Line = drain_line scene.drain ++ LEnd ∷ [] in
    let tail : List Line = LSchedule ∷ (map entry_line scene.schedule ++ last) in
    let s1 : State = mk AfterPart (rowed scene.version scene.nodes scene.parts) [] in
    let names : ℕ = length scene.keys.names in
    let texts : ℕ = length scene.keys.texts in
    let key_order : counted 0 (flat_map key_of (session_ops scene.sessions)) ≡ Some names = ap (λ xs. counted 0 (flat_map key_of xs)) (sym (append-nil (all_ops scene))) ∙ w.kept.table.key_order in
    let text_order : counted 0 (flat_map text_of (session_ops scene.sessions)) ≡ Some texts = ap (λ xs. counted 0 (flat_map text_of xs)) (sym (append-nil (all_ops scene))) ∙ w.kept.table.text_order in
    let run = sessions_taken limits scene scene.sessions 0 0 names texts [] s1 (table_good limits scene w) w.kept.sessions (omega (arith, w.kept.counts.few_sessions))
    w.kept.counts.at_one_node (omega (arith, w.kept.counts.few_txs)) key_order text_order (record { order = λ next. refl; settled_ = refl }) in
    let s2 : State = run.end in
    let d : Scene = body scene names texts scene.sessions in
    let begun : take_line limits s2 LSchedule ≡ Now (mk InSchedule d []) =
    taken limits s2 LSchedule InSchedule (run.open_.order InSchedule) refl refl ∙ ap (λ x. Now (closed InSchedule x)) run.open_.settled_ in
    let entries : take_lines limits (mk InSchedule d []) (map entry_line scene.schedule) ≡ Now (mk InSchedule (scheduled d scene.schedule) []) =
    entries_taken limits d scene.schedule [] w.kept.events (omega (arith, w.kept.counts.few_events)) in
    ap (take_lines limits at_start) (append_assoc head middle tail)
    ∙ (taken_on limits head (middle ++ tail) at_start s1 (head_taken limits scene w)
    ∙ (taken_on limits middle tail s1 s2 run.taken
    ∙ (ap (goes_on (λ s. take_lines limits s (map entry_line scene.schedule ++ last))) begun
    ∙ (taken_on limits (map entry_line scene.schedule) last (mk InSchedule d []) (mk InSchedule (scheduled d scene.schedule) []) entries
    ∙ (last_taken limits (scheduled d scene.schedule) scene.drain refl
    ∙ ap (λ table. Now (mk AfterEnd (record scene { keys = table }) [])) (upto_all scene.keys))))))
