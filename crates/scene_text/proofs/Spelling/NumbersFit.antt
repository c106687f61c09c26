-- A line whose numbers do not fit their types is out of range.
use Rattle.std.proofs.Common.{Bool, List, Some, [], ap, arith, false, length, nat_le, nat_lt, refl, true, ℕ, ◌&&◌, ◌+◌, ◌<◌, ◌==◌, ◌^◌, ◌∙◌, ◌∷◌, ◌≡◌, ◌≤◌}
use Rattle.str_base.specs.declared.limits.TheConstants.{NODES, PARTITIONS, REPLICAS, SESSIONS, TEXT_BYTES}
use Rattle.str_scene.proofs.Checked.{up_to}
use Rattle.std.proofs.lemmas.Bool.{and_from, and_parts, lt-ltb, ltb-true, leb-true}
use Rattle.std.proofs.lemmas.Bool.Decides.{Decides-eqb}
use Rattle.std.specs.List.{list_all}
use Rattle.scene_text.proofs.Taking.StatesKept.{At, Stands}
use Rattle.scene_text.proofs.Taking.LinesTaken.{start_stands, steps}
use Rattle.scene_text.proofs.Spelling.NumberTests.{number_tells}
use Rattle.scene_text.specs.LineOrder.{Place, follows}
use Rattle.scene_text.specs.LineOrder.Place.{AfterDrain, AfterEnd, AfterNodes, AfterOp, AfterPart, AfterSession, AfterTx, AfterVersion, AtStart, InSchedule}
use Rattle.scene_text.specs.LineTexts.{Fits, IsForm}
use Rattle.scene_text.specs.Reaching.{Reached}
use Rattle.scene_text.specs.Taking.{Limits, State, after, are_distinct, at_start, has_room, in_range, is_number, is_row, is_up_to, judged, placed, scene_limits, take_line}
use Rattle.scene_text.specs.Taking.Taken.{Refused}
use Rattle.scene_text.specs.declared.lines.Line.{Line}
use Rattle.scene_text.specs.declared.lines.Line.TheVariants.{Abort as LAbort, Add as LAdd, Client as LClient, Del as LDel, Deliver as LDeliver, Drain as LDrain, End as LEnd, Get as LGet, Need as LNeed, Nodes as LNodes, Part as LPart, Put as LPut, Puts as LPuts, Schedule as LSchedule, Session as LSession, Tx as LTx, Version as LVersion}
use Rattle.str_base.specs.declared.names.NodeId.{NodeId}
use Rattle.str_scene.proofs.Each.{each_from}
use Rattle.str_scene.specs.SceneLimits.{Exists}
use Rattle.str_scene.specs.Scenes.{Scene}
use Rattle.str_scene.specs.declared.faults.Why.TheVariants.{Range}
use Rattle.str_scene.specs.declared.names.Op.{Op}

-- a draft has at most 8 nodes
nodes_small : (limits : Limits) (place : Place) (d : Scene) (ops : List Op) → At limits place d ops → d.nodes ≤ NODES
nodes_small limits AtStart d ops a = let none : d.nodes ≡ 0 = ap (λ x. x.nodes) a.0 in omega arith
nodes_small limits AfterVersion d ops a = let none : d.nodes ≡ 0 = ap (λ x. x.nodes) a.1 in omega arith
nodes_small limits AfterNodes d ops a = a.1.1
nodes_small limits AfterPart d ops a = a.0.head.nodes.1
nodes_small limits AfterSession d ops a = a.0.body.head.nodes.1
nodes_small limits AfterTx d ops a = a.0.body.head.nodes.1
nodes_small limits AfterOp d ops a = a.0.body.head.nodes.1
nodes_small limits InSchedule d ops a = a.0.nodes.1
nodes_small limits AfterDrain d ops a = a.0.nodes.1
nodes_small limits AfterEnd d ops a = a.0.nodes.1

-- nodes that exist fit
row_fits : (nodes : ℕ) (row : List NodeId) → nodes ≤ NODES → list_all (λ n. is_up_to nodes n.0) row ≡ true → list_all (λ r. nat_lt r.0 256) row ≡ true
row_fits nodes [] few e = refl
row_fits nodes (n ∷ row) few e =
    let p = and_parts (is_up_to nodes n.0) (list_all (λ k. is_up_to nodes k.0) row) e in
    let exists_ : Exists n.0 nodes = up_to nodes n.0 p.0 in
    let small : n.0 < 256 = omega (arith, exists_.1) in
    and_from (nat_lt n.0 256) (list_all (λ r. nat_lt r.0 256) row) (lt-ltb n.0 256 small) (row_fits nodes row few p.1)

-- a partition of the scene fits
pub part_fits : (n p : ℕ) → n ≤ PARTITIONS → is_up_to n p ≡ true → p < 256
part_fits n p few e = omega (arith, (up_to n p e).1)

-- a line whose numbers are in range fits
fits_at : (d : Scene) (l : Line) → length d.parts ≤ PARTITIONS → length d.sessions ≤ SESSIONS → d.nodes ≤ NODES → in_range d l ≡ true → Fits l
fits_at d (LVersion v) parts_few sessions_few nodes_few e = tt
fits_at d (LNodes n) parts_few sessions_few nodes_few e = omega (arith, (up_to NODES n e).1)
fits_at d (LPart p row) parts_few sessions_few nodes_few e =
    let h = and_parts (p.0 == length d.parts + 1) (is_row d.nodes row) e in
    let k = and_parts (nat_le (length row) REPLICAS) (list_all (λ n. is_up_to d.nodes n.0) row && are_distinct row) h.1 in
    let exist = (and_parts (list_all (λ n. is_up_to d.nodes n.0) row) (are_distinct row) k.1).0 in
    (omega (arith, (Decides-eqb p.0 (length d.parts + 1)).0 h.0), leb-true (length row) REPLICAS k.0, row_fits d.nodes row nodes_few exist)
fits_at d (LSession n) parts_few sessions_few nodes_few e = omega (arith, (up_to d.nodes n.0 e).1)
fits_at d (LGet name p) parts_few sessions_few nodes_few e = part_fits (length d.parts) p.0 parts_few e
fits_at d (LDel name p) parts_few sessions_few nodes_few e = part_fits (length d.parts) p.0 parts_few e
fits_at d (LPut name p n) parts_few sessions_few nodes_few e =
    let h = and_parts (is_up_to (length d.parts) p.0) (is_number n) e in (part_fits (length d.parts) p.0 parts_few h.0, number_tells n h.1)
fits_at d (LAdd name p n) parts_few sessions_few nodes_few e =
    let h = and_parts (is_up_to (length d.parts) p.0) (is_number n) e in (part_fits (length d.parts) p.0 parts_few h.0, number_tells n h.1)
fits_at d (LNeed name p n) parts_few sessions_few nodes_few e =
    let h = and_parts (is_up_to (length d.parts) p.0) (is_number n) e in (part_fits (length d.parts) p.0 parts_few h.0, number_tells n h.1)
fits_at d (LPuts name p bytes) parts_few sessions_few nodes_few e =
    let h = and_parts (is_up_to (length d.parts) p.0) (nat_le (length bytes) TEXT_BYTES) e in (part_fits (length d.parts) p.0 parts_few h.0, leb-true (length bytes) TEXT_BYTES h.1)
fits_at d (LClient s t) parts_few sessions_few nodes_few e =
    let h = and_parts (is_up_to (length d.sessions) s.0) (nat_lt t (2 ^ 64)) e in
    (omega (arith, (up_to (length d.sessions) s.0 h.0).1), ltb-true t (2 ^ 64) h.1)
fits_at d (LDeliver i) parts_few sessions_few nodes_few e = ltb-true i (2 ^ 64) (and_parts (nat_le 1 i) (nat_lt i (2 ^ 64)) e).1
fits_at d LTx parts_few sessions_few nodes_few e = tt
fits_at d LAbort parts_few sessions_few nodes_few e = tt
fits_at d LSchedule parts_few sessions_few nodes_few e = tt
fits_at d LDrain parts_few sessions_few nodes_few e = tt
fits_at d LEnd parts_few sessions_few nodes_few e = tt

-- what a state that was reached keeps
pub reached_stands : (text : List ℕ) (n : ℕ) (s : State) → Reached text n s → Stands scene_limits s
reached_stands text n s r = (steps scene_limits r.lines at_start s (each_from IsForm r.lines r.forms) (start_stands scene_limits) r.lead).stands

-- a line whose numbers are in range fits
pub fits : (text : List ℕ) (n : ℕ) (s : State) (l : Line) → Reached text n s → in_range s.draft l ≡ true → Fits l
fits text n s l r e =
    let h = reached_stands text n s r in
    fits_at s.draft l h.kept.counts.few_parts h.kept.counts.few_sessions (nodes_small scene_limits s.place s.draft s.ops h.at_place) e

-- a line that does not fit, where it may stand, is refused for its range
pub unfit : (text : List ℕ) (n : ℕ) (s : State) (l : Line) (next : Place) → Reached text n s → ¬ Fits l → follows s.draft.version s.place l ≡ Some next →
    take_line scene_limits s l ≡ Refused Range
unfit text n s l next r none order =
    ap (placed scene_limits s l) order
    ∙ ap (λ b. judged (after next s l) b (has_room scene_limits s l)) (by_range (in_range s.draft l) refl)
  where
    by_range : (b : Bool) → in_range s.draft l ≡ b → in_range s.draft l ≡ false
    by_range true e = absurd (none (fits text n s l r e))
    by_range false e = e
