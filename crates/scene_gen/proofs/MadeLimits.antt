-- A made scene keeps the limits of a scene.
use Rattle.std.proofs.Common.{List, [], ap, arith, flat_map, inl, length, map, refl, ℕ, ◌∙◌, ◌≡◌}
use Rattle.std.proofs.lemmas.List.{length-map}
use Rattle.std.proofs.lemmas.List.Sums.{count_by-le-length}
use Rattle.scene_gen.proofs.DrawnScripts.{IsDrawnSession, sessions_drawn, sessions_length}
use Rattle.scene_gen.proofs.Eaches.{each_both, each_flat, flat_each, map_each}
use Rattle.scene_gen.proofs.KeyOrder.{keys_count, no_texts}
use Rattle.scene_gen.proofs.MadeEntries.{entries_hold, entries_length}
use Rattle.scene_gen.proofs.MadeRows.{rows_hold, rows_length}
use Rattle.scene_gen.proofs.NamedKeys.{IsThere, table_each, table_has, table_unique}
use Rattle.scene_gen.proofs.SessionsHold.{AreThere, session_holds, sessions_count}
use Rattle.scene_gen.specs.Building.{IsDrawn}
use Rattle.scene_gen.specs.Drawn.{generator}
use Rattle.scene_gen.specs.Made.{MadeSession, after_sessions, key_of, keys_of, made, made_entries, made_rows, made_sessions, scene_of, session_in, with_pairs}
use Rattle.str_base.specs.Versions.{same_node}
use Rattle.str_base.specs.declared.names.PartId.{PartId}
use Rattle.str_scene.proofs.Each.{each_at, each_weaker}
use Rattle.str_scene.specs.Lists.{Each}
use Rattle.str_scene.specs.SceneLimits.{IsEvent, IsKey, IsRow, IsScene, IsSession, IsTable, counted}
use Rattle.str_scene.specs.Scenes.{Session}
use Rattle.str_scene.specs.declared.names.Event.{Event}

-- the keys that are drawn
drawn_keys : (ss : List MadeSession) → Each IsDrawnSession ss → Each (IsKey 6) (keys_of ss)
drawn_keys ss h =
    flat_each (IsKey 6) (λ s. flat_map (map key_of) s.drawn) ss
    (each_weaker IsDrawnSession (λ s. Each (IsKey 6) (flat_map (map key_of) s.drawn))
    (λ s d. flat_each (IsKey 6) (map key_of) s.drawn (each_weaker IsDrawn (λ ops. Each (IsKey 6) (map key_of ops)) (λ ops o. o.keys) s.drawn d.scripts)) ss h)

-- they are all in the table
drawn_there : (ss : List MadeSession) (table : List (List ℕ × PartId)) → Each (IsThere table) (keys_of ss) → Each (λ s. Each (AreThere table) s.drawn) ss
drawn_there ss table h =
    each_weaker (λ s. Each (IsThere table) (flat_map (map key_of) s.drawn)) (λ s. Each (AreThere table) s.drawn)
    (λ s d. each_flat (IsThere table) (map key_of) s.drawn d) ss (each_flat (IsThere table) (λ s. flat_map (map key_of) s.drawn) ss h)

-- the table
table_holds : (ss : List MadeSession) (es : List Event) → Each IsDrawnSession ss → IsTable (scene_of ss es)
table_holds ss es h =
    let table = with_pairs (keys_of ss) [] in
    let rows = rows_length 6 1 in
    let keys : Each (IsKey 6) table = table_each (IsKey 6) (keys_of ss) [] (drawn_keys ss h) tt in
    record {
      keys = λ i key e. rw rows (each_at (IsKey 6) table i key keys e);
      distinct_keys = table_unique (keys_of ss) [] (λ i j key e f. absurd cc);
      texts = λ i text e. absurd cc;
      distinct_texts = λ i j text e f. absurd cc;
      key_order = keys_count ss table refl;
      text_order = ap (counted 0) (no_texts ss table);
    }

-- the sessions
sessions_hold : (ss : List MadeSession) (es : List Event) → Each IsDrawnSession ss → Each (IsSession (scene_of ss es)) (scene_of ss es).sessions
sessions_hold ss es h =
    let table = with_pairs (keys_of ss) [] in
    let d = scene_of ss es in
    map_each (IsSession d) (session_in table) ss
    (each_both IsDrawnSession (λ s. Each (AreThere table) s.drawn) (λ s. IsSession d (session_in table s)) (λ s a b. session_holds d s refl refl refl a b) ss h
    (drawn_there ss table (table_has (keys_of ss) [])))

-- a scene of such sessions and entries
scene_holds : (ss : List MadeSession) (es : List Event) → length ss ≡ 12 → Each IsDrawnSession ss → length es ≡ 6000 → Each (IsEvent (scene_of ss es)) es → IsScene (scene_of ss es)
scene_holds ss es long h many events =
    let d = scene_of ss es in
    let table = with_pairs (keys_of ss) [] in
    let rows = rows_length 6 1 in
    let number = length-map ss (session_in table) in
    record {
      version = inl refl;
      nodes = (omega arith, omega arith);
      parts = (omega (arith, rows), omega (arith, rows));
      rows = λ p row e. each_at (IsRow 3) (made_rows 6 1) p row rows_hold e;
      table = table_holds ss es h;
      few_sessions = omega (arith, number, long);
      sessions = λ i s e. each_at (IsSession d) d.sessions i s (sessions_hold ss es h) e;
      at_one_node = λ n. omega (arith, number, long, count_by-le-length (λ (s : Session). same_node s.node n) d.sessions);
      few_transactions = omega (arith, sessions_count table ss h, long);
      few_events = omega (arith, many);
      events = λ i x e. each_at (IsEvent d) es i x events e;
    }

-- the made scene of a seed
pub made_holds : (seed : ℕ) → IsScene (made seed)
unfolding made
made_holds seed =
    let g = generator seed in
    let h = after_sessions 12 g in
    let ss = made_sessions 12 1 g in
    let es = made_entries 6000 1 h in
    let long = sessions_length 12 1 g in
    let number = length-map ss (session_in (with_pairs (keys_of ss) [])) in
    scene_holds ss es long (sessions_drawn 12 1 g) (entries_length 6000 1 h) (entries_hold (scene_of ss es) 6000 1 h (number ∙ long) (omega arith))
