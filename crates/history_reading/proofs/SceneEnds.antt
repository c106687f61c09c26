-- The line `end` is the last of a scene's text and no other.
use Rattle.std.proofs.Common.{Bool, List, None, Option, Some, [], ap, append_assoc, arith, false, flat_map, get_or, if◌then◌else◌, inl, inr, map, refl, subst, sym, true, ℕ, ◌++◌, ◌+◌, ◌==◌, ◌∙◌, ◌∷◌, ◌≡◌, ◌⊎◌}
use Rattle.std.proofs.lemmas.List.{map-append}
use Rattle.std.specs.Prelude.{⊤}
use Rattle.history_reading.specs.Reading.{IsNoEnd}
use Rattle.scene_text.proofs.FirstBad.FirstLines.{one_scene}
use Rattle.scene_text.proofs.Spelling.LinesSpelled.{spelled}
use Rattle.scene_text.proofs.Spelling.TextsApart.{line_text-injective}
use Rattle.scene_text.proofs.Taking.WholeDrafts.{scene_whole}
use Rattle.scene_text.specs.FirstBad.{IsFormed, IsInRange}
use Rattle.scene_text.specs.LineOrder.{end_follows, follows, lead, version_of}
use Rattle.scene_text.specs.declared.order.Place.{Place}
use Rattle.scene_text.specs.declared.order.Place.TheVariants.{AfterDrain, AfterEnd, AtStart, InSchedule}
use Rattle.scene_text.specs.LineTexts.{IsForm, line_text}
use Rattle.scene_text.specs.SceneLines.{body_lines, drain_line, entry_line, lines_of, one_session_lines, op_line, row_lines, script_lines}
use Rattle.scene_text.specs.declared.lines.Line.{Line}
use Rattle.scene_text.specs.declared.lines.Line.TheVariants.{End as LEnd, Puts as LPuts, Schedule as LSchedule}
use Rattle.str_base.specs.declared.names.NodeId.{NodeId}
use Rattle.str_scene.proofs.Each.{each_append, each_from}
use Rattle.str_scene.specs.Lists.{Each}
use Rattle.str_scene.specs.SceneLimits.{IsScene}
use Rattle.str_scene.specs.Scenes.{KeyTable, Scene, Session}
use Rattle.str_scene.specs.Spelling.{scene_lines}
use Rattle.str_scene.specs.declared.names.Event.{Event}
use Rattle.str_scene.specs.declared.names.Event.TheVariants.{Client, Deliver}
use Rattle.str_scene.specs.declared.names.Op.{Op}
use Rattle.str_scene.specs.declared.names.Op.TheVariants.{Abort, Add, Del, Get, Need, Put, Puts}

-- the text of a scene's last line
abbrev pub end_word : List ℕ
end_word = 101 ∷ 110 ∷ 100 ∷ []

-- ---- two lists up to the first such line

-- what is before it and after it is one
pub first_end : (xs ys as' bs : List (List ℕ)) → Each IsNoEnd xs → Each IsNoEnd ys → xs ++ end_word ∷ as' ≡ ys ++ end_word ∷ bs → (xs ≡ ys) × (as' ≡ bs)
first_end [] [] as' bs p q e = let same : as' ≡ bs = cc in (refl, same)
first_end [] (y ∷ ys) as' bs p q e = let same : y ≡ end_word = cc in absurd (q.0 same)
first_end (x ∷ xs) [] as' bs p q e = let same : x ≡ end_word = cc in absurd (p.0 same)
first_end (x ∷ xs) (y ∷ ys) as' bs p q e =
    let first : x ≡ y = cc in
    let more : xs ++ end_word ∷ as' ≡ ys ++ end_word ∷ bs = cc in
    let rest = first_end xs ys as' bs p.1 q.1 more in
    (λ i. first i ∷ rest.0 i, rest.1)

-- lines without it are the first of those before it
pub before_end : (xs bs ys as' : List (List ℕ)) → Each IsNoEnd xs → Each IsNoEnd ys → xs ++ bs ≡ ys ++ end_word ∷ as' → (more : List (List ℕ)) × (ys ≡ xs ++ more)
before_end [] bs ys as' p q e = (ys, refl)
before_end (x ∷ xs) bs [] as' p q e = let same : x ≡ end_word = cc in absurd (p.0 same)
before_end (x ∷ xs) bs (y ∷ ys) as' p q e =
    let first : x ≡ y = cc in
    let more : xs ++ bs ≡ ys ++ end_word ∷ as' = cc in
    let rest = before_end xs bs ys as' p.1 q.1 more in
    (rest.0, λ i. sym first i ∷ rest.1 i)

-- it is not among lines without it
pub not_among : (xs ys as' : List (List ℕ)) → Each IsNoEnd xs → xs ≡ ys ++ end_word ∷ as' → ⊥
not_among [] [] as' p e = absurd (cc)
not_among [] (y ∷ ys) as' p e = absurd (cc)
not_among (x ∷ xs) [] as' p e = let same : x ≡ end_word = cc in p.0 same
not_among (x ∷ xs) (y ∷ ys) as' p e = let rest : xs ≡ ys ++ end_word ∷ as' = cc in not_among xs ys as' p.1 rest

-- ---- the lines of a scene

-- a line that isn't the last
abbrev IsInner : Line → Type 0
IsInner LEnd = ⊥
IsInner _ = ⊤

inner_text : (l : Line) → IsInner l → IsNoEnd (line_text l)
inner_text LEnd h e = h
inner_text _ h e = omega (arith, ap (λ xs. get_or xs 0 0) e)

inner_texts : (ls : List Line) → Each IsInner ls → Each IsNoEnd (map line_text ls)
inner_texts [] h = tt
inner_texts (l ∷ ls) h = (inner_text l h.0, inner_texts ls h.1)

rows_inner : (p : ℕ) (rows : List (List NodeId)) → Each IsInner (row_lines p rows)
rows_inner p [] = tt
rows_inner p (row ∷ rows) = (tt, rows_inner (p + 1) rows)

op_inner : (table : KeyTable) (op : Op) → IsInner (op_line table op)
op_inner table (Get k) = tt
op_inner table (Put k n) = tt
op_inner table (Puts k t) = tt
op_inner table (Add k n) = tt
op_inner table (Del k) = tt
op_inner table (Need k n) = tt
op_inner table Abort = tt

ops_inner : (table : KeyTable) (ops : List Op) → Each IsInner (map (op_line table) ops)
ops_inner table [] = tt
ops_inner table (op ∷ ops) = (op_inner table op, ops_inner table ops)

scripts_inner : (table : KeyTable) (txs : List (List Op)) → Each IsInner (flat_map (script_lines table) txs)
scripts_inner table [] = tt
scripts_inner table (ops ∷ txs) = each_append IsInner (script_lines table ops) (flat_map (script_lines table) txs) (tt, ops_inner table ops) (scripts_inner table txs)

sessions_inner : (table : KeyTable) (ss : List Session) → Each IsInner (flat_map (one_session_lines table) ss)
sessions_inner table [] = tt
sessions_inner table (s ∷ ss) = each_append IsInner (one_session_lines table s) (flat_map (one_session_lines table) ss) (tt, scripts_inner table s.txs) (sessions_inner table ss)

entry_inner : (e : Event) → IsInner (entry_line e)
entry_inner (Client s t) = tt
entry_inner (Deliver i) = tt

entries_inner : (es : List Event) → Each IsInner (map entry_line es)
entries_inner [] = tt
entries_inner (e ∷ es) = (entry_inner e, entries_inner es)

drain_inner : (drain : Bool) → Each IsInner (drain_line drain)
drain_inner true = (tt, tt)
drain_inner false = tt

-- the lines before the last
abbrev inner_lines : Scene → List Line
inner_lines scene = body_lines scene.keys scene ++ LSchedule ∷ (map entry_line scene.schedule ++ drain_line scene.drain)

all_inner : (scene : Scene) → Each IsInner (inner_lines scene)
all_inner scene =
    each_append IsInner (body_lines scene.keys scene) (LSchedule ∷ (map entry_line scene.schedule ++ drain_line scene.drain))
    (tt, (tt, each_append IsInner (row_lines 1 scene.parts) (flat_map (one_session_lines scene.keys) scene.sessions) (rows_inner 1 scene.parts) (sessions_inner scene.keys scene.sessions)))
    (tt, each_append IsInner (map entry_line scene.schedule) (drain_line scene.drain) (entries_inner scene.schedule) (drain_inner scene.drain))

lines_end : (scene : Scene) → lines_of scene ≡ inner_lines scene ++ LEnd ∷ []
lines_end scene =
    let body : List Line = body_lines scene.keys scene in
    let entries : List Line = map entry_line scene.schedule in
    let drain : List Line = drain_line scene.drain in
    ap (λ xs. body ++ LSchedule ∷ xs) (sym (append_assoc entries drain (LEnd ∷ []))) ∙ sym (append_assoc body (LSchedule ∷ (entries ++ drain)) (LEnd ∷ []))

-- lines of which only the last is `end`
pub record EndOnce (lines : List (List ℕ)) : Type 0 where
  pub before : List (List ℕ)
  pub none : Each IsNoEnd before
  pub lines_are : lines ≡ before ++ end_word ∷ []

pub lines_once : (scene : Scene) → EndOnce (map line_text (lines_of scene))
lines_once scene = record {
  before = map line_text (inner_lines scene);
  none = inner_texts (inner_lines scene) (all_inner scene);
  lines_are = ap (map line_text) (lines_end scene) ∙ map-append line_text (inner_lines scene) (LEnd ∷ []);
}

pub scene_once : (scene : Scene) → IsScene scene → EndOnce (scene_lines scene)
scene_once scene s = subst EndOnce (spelled scene (scene_whole scene s)) (lines_once scene)

-- more lines after them
pub once_then : (lines : List (List ℕ)) (o : EndOnce lines) (more : List (List ℕ)) → lines ++ more ≡ o.before ++ end_word ∷ more
once_then lines o more = ap (λ xs. xs ++ more) o.lines_are ∙ append_assoc o.before (end_word ∷ []) more

-- texts that begin with the lines of scenes are of one scene, and what follows is one
pub same_scene : (s t : Scene) (p q : List (List ℕ)) → IsScene s → IsScene t → scene_lines s ++ p ≡ scene_lines t ++ q → (s ≡ t) × (p ≡ q)
same_scene s t p q a b e =
    let o = scene_once s a in
    let u = scene_once t b in
    let h = first_end o.before u.before p q o.none u.none (sym (once_then (scene_lines s) o p) ∙ (e ∙ once_then (scene_lines t) u q)) in
    (one_scene s t a b (o.lines_are ∙ (ap (λ xs. xs ++ end_word ∷ []) h.0 ∙ sym u.lines_are)), h.1)

-- ---- no line of a scene's text follows it

end_then : (place : Place) → (end_follows place ≡ None) ⊎ (end_follows place ≡ Some AfterEnd)
end_then InSchedule = inr refl
end_then AfterDrain = inr refl
end_then _ = inl refl

abbrev no_place : Option Place
no_place = None

none_after : (v : ℕ) (l : Line) → follows v AfterEnd l ≡ None
none_after v (LPuts name p bytes) = by (v == 2)
  where
    by : (t : Bool) → (if t then no_place else no_place) ≡ no_place
    by true = refl
    by false = refl
none_after v _ = refl

lead_none : (v : ℕ) (ls : List Line) (last : Place) → lead v None ls ≡ Some last → ⊥
lead_none v ls last e = cc

-- lines in order don't go on after it
no_more : (v : ℕ) (place last : Place) (ls : List Line) (before : List (List ℕ)) (r : List ℕ) (rest : List (List ℕ)) → Each IsForm ls → map line_text ls ≡ before ++ end_word ∷ r ∷ rest →
    lead v (Some place) ls ≡ Some last → ⊥
no_more v place last [] [] r rest f e o = absurd (cc)
no_more v place last [] (b ∷ before) r rest f e o = absurd (cc)
no_more v place last (l ∷ []) [] r rest f e o = absurd (cc)
no_more v place last (l ∷ m ∷ ls) [] r rest f e o =
    let text : line_text l ≡ end_word = cc in
    let same : l ≡ LEnd = line_text-injective l LEnd f.0 tt text in
    let order : lead v (end_follows place) (m ∷ ls) ≡ Some last = subst (λ x. lead v (follows v place x) (m ∷ ls) ≡ Some last) same o in
    by (end_follows place) (end_then place) order
  where
    by : (next : Option Place) → (next ≡ None) ⊎ (next ≡ Some AfterEnd) → lead v next (m ∷ ls) ≡ Some last → ⊥
    by next (inl h) k = lead_none v (m ∷ ls) last (subst (λ x. lead v x (m ∷ ls) ≡ Some last) h k)
    by next (inr h) k = lead_none v ls last (subst (λ x. lead v x ls ≡ Some last) (none_after v m) (subst (λ x. lead v x (m ∷ ls) ≡ Some last) h k))
no_more v place last (l ∷ ls) (b ∷ before) r rest f e o =
    let more : map line_text ls ≡ before ++ end_word ∷ r ∷ rest = cc in
    by (follows v place l) (λ next k. no_more v next last ls before r rest f.1 more k) o
  where
    by : (next : Option Place) → ((p : Place) → lead v (Some p) ls ≡ Some last → ⊥) → lead v next ls ≡ Some last → ⊥
    by None h k = lead_none v ls last k
    by (Some next) h k = h next k

-- so lines of a scene's text that are of the form don't go on after it
pub formed_ends : (before : List (List ℕ)) (r : List ℕ) (rest : List (List ℕ)) → IsFormed (before ++ end_word ∷ r ∷ rest) → ⊥
formed_ends before r rest k = no_more (version_of k.read) AtStart k.place k.read before r rest (each_from IsForm k.read k.forms) k.spelled k.order

-- nor do those that are in range
pub ranged_ends : (before : List (List ℕ)) (r : List ℕ) (rest : List (List ℕ)) → Each IsNoEnd before → IsInRange (before ++ end_word ∷ r ∷ rest) → ⊥
ranged_ends before r rest n k =
    let o = lines_once k.scene in
    let h = first_end o.before before [] (r ∷ (rest ++ k.rest)) o.none n (sym o.lines_are ∙ (k.text ∙ append_assoc before (end_word ∷ r ∷ rest) k.rest)) in
    let none : ◌≡◌ {A = List (List ℕ)} [] (r ∷ (rest ++ k.rest)) = h.1 in
    absurd (cc)
