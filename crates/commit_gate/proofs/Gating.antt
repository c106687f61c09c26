-- The gate of the model at each of its answers, and the dependencies told of in another order.
use Rattle.std.proofs.Common.{Bool, List, None, Some, [], ap, cond, false, find, map, max, not, refl, slice_get, suc, sym, true, zero, ℕ, ◌&&◌, ◌||◌, ◌∙◌, ◌∷◌, ◌≡◌}
use Rattle.std.specs.Prelude.{option_map}
use Rattle.std.proofs.lemmas.Option.{slice_get-map}
use Rattle.std.proofs.lemmas.Bool.{or_right}
use Rattle.std.specs.Cmp.Derive.{one_truth}
use Rattle.std.specs.List.{list_any}
use Rattle.commit_gate.specs.Answers.{Tells, is_missing}
use Rattle.dependency_set.specs.declared.names.Dep.{Dep}
use Rattle.dependency_set.specs.Snapshots.{Snap}
use Rattle.partition_map.specs.declared.rows.Asked.{Asked}
use Rattle.str_base.specs.declared.names.PartId.{PartId}
use Rattle.str_base.specs.Versions.{same_part}
use Rattle.str_model.specs.Gates.{Ask, CommitAt, DepParts, GateTurn, Missing, Shut, ack_or_zero, dep_parts, gate_deps, gate_of, gate_turn, dependency_wrote, may_ask}
use Rattle.str_model.specs.Turns.{greatest}
use Rattle.str_model.specs.Views.{Own, View}
use Rattle.str_scene.specs.Scenes.{Here}

-- ---- the answers

pub asks : (snap : Snap) (lc : ℕ) (parts : List Asked) (wrote : List DepParts) (a : Asked) → find (may_ask wrote) parts ≡ Some a → gate_turn snap lc parts wrote ≡ Ask a.part
unfolding gate_turn
asks snap lc parts wrote a f = rw f refl

-- a list without a first element is empty
pub no_first : (ds : List Dep) → slice_get ds 0 ≡ None → ds ≡ []
no_first [] e = refl
no_first (d ∷ ds) e = absurd (cc e)

pub shuts : (snap : Snap) (lc : ℕ) (parts : List Asked) (wrote : List DepParts) (d : Dep) → find (may_ask wrote) parts ≡ None → slice_get snap.deps 0 ≡ Some d
    → gate_turn snap lc parts wrote ≡ Shut d.seq
unfolding gate_turn
shuts snap lc parts wrote d f e = rw f (by_deps snap.deps e)
  where
    by_deps : (ds : List Dep) → slice_get ds 0 ≡ Some d → gate_deps lc parts ds ≡ Shut d.seq
    by_deps [] g = absurd (cc g)
    by_deps (x ∷ xs) g = let q : x ≡ d = cc g in rw q refl

pub misses : (snap : Snap) (lc : ℕ) (parts : List Asked) (wrote : List DepParts) (a : Asked) → find (may_ask wrote) parts ≡ None → slice_get snap.deps 0 ≡ None → find is_missing parts ≡ Some a
    → gate_turn snap lc parts wrote ≡ Missing a.part a.node
unfolding gate_turn
misses snap lc parts wrote a f e m = rw (f, no_first snap.deps e, m) refl

pub commits : (snap : Snap) (lc : ℕ) (parts : List Asked) (wrote : List DepParts) → find (may_ask wrote) parts ≡ None → slice_get snap.deps 0 ≡ None → find is_missing parts ≡ None
    → gate_turn snap lc parts wrote ≡ CommitAt (max lc (greatest (map ack_or_zero parts)))
unfolding gate_turn
commits snap lc parts wrote f e m = rw (f, no_first snap.deps e, m) refl

-- ---- in another order

-- what stands in a mapped list stands in the list
pub at_map : {X Y : Type 0} (f : X → Y) (xs : List X) (i : ℕ) (y : Y) → slice_get (map f xs) i ≡ Some y → (x : X) × (slice_get xs i ≡ Some x) × (f x ≡ y)
at_map f [] i y e = absurd cc
at_map f (x ∷ xs) zero y e = (x, refl, cc e)
at_map f (x ∷ xs) (suc i) y e = at_map f xs i y e

written_at : (p : PartId) (vs : List DepParts) (i : ℕ) (v : DepParts) → slice_get vs i ≡ Some v → list_any (same_part p) v.parts ≡ true → dependency_wrote vs p ≡ true
written_at p [] i v g t = absurd cc
written_at p (u ∷ us) zero v g t = let q : u ≡ v = cc g in rw (q, t) refl
written_at p (u ∷ us) (suc i) v g t = or_right (list_any (same_part p) u.parts) (dependency_wrote us p) (written_at p us i v g t)

-- each of the first list has one in the second that wrote in the same partitions
abbrev Meets : List DepParts → List DepParts → Type 0
Meets ws vs = (k : ℕ) (w : DepParts) → slice_get ws k ≡ Some w → (i : ℕ) × (v : DepParts) × (slice_get vs i ≡ Some v) × ((p : PartId) → list_any (same_part p) w.parts ≡ list_any (same_part p) v.parts)

written_there : (p : PartId) (ws vs : List DepParts) → Meets ws vs → dependency_wrote ws p ≡ true → dependency_wrote vs p ≡ true
written_there p [] vs h e = absurd (cc e)
written_there p (w ∷ ws) vs h e = by_first (list_any (same_part p) w.parts) refl e (h 0 w refl) (written_there p ws vs (λ k u g. h (suc k) u g))
  where
    by_first : (b : Bool) → list_any (same_part p) w.parts ≡ b → (b || dependency_wrote ws p) ≡ true
        → (i : ℕ) × (v : DepParts) × (slice_get vs i ≡ Some v) × ((q : PartId) → list_any (same_part q) w.parts ≡ list_any (same_part q) v.parts)
        → (dependency_wrote ws p ≡ true → dependency_wrote vs p ≡ true) → dependency_wrote vs p ≡ true
    by_first true t q m rec = written_at p vs m.0 m.1 m.2 (sym (m.3 p) ∙ t)
    by_first false t q m rec = rec q

written_same : (ws vs : List DepParts) → Meets ws vs → Meets vs ws → (p : PartId) → dependency_wrote ws p ≡ dependency_wrote vs p
written_same ws vs h k p = one_truth (dependency_wrote ws p) (dependency_wrote vs p) (written_there p ws vs h) (written_there p vs ws k)

found_same : (ws vs : List DepParts) → ((p : PartId) → dependency_wrote ws p ≡ dependency_wrote vs p) → (parts : List Asked) → find (may_ask ws) parts ≡ find (may_ask vs) parts
found_same ws vs h [] = refl
found_same ws vs h (a ∷ others) = rw (h a.part) (ap (λ r. cond (not a.asked && not (dependency_wrote vs a.part)) (Some a) r) (found_same ws vs h others))

tells_meets : (here : Here) (own : List Own) (deps : List Dep) (wrote : List DepParts) → Tells here own deps wrote → Meets wrote (map (dep_parts here own) deps)
tells_meets here own deps wrote t k w e = let r = t.each k w e in (r.0, dep_parts here own r.1, slice_get-map (dep_parts here own) deps r.0 ∙ ap (option_map (dep_parts here own)) r.2, r.3.1)

meets_tells : (here : Here) (own : List Own) (deps : List Dep) (wrote : List DepParts) → Tells here own deps wrote → Meets (map (dep_parts here own) deps) wrote
meets_tells here own deps wrote t k v e =
    let m = at_map (dep_parts here own) deps k v e in
    let r = t.all k m.0 m.1 in
    (r.0, r.1, r.2, λ p. ap (λ (u : DepParts). list_any (same_part p) u.parts) (sym m.2) ∙ sym (r.3.1 p))

-- the gate of the own transaction
pub own_gate : (snap : Snap) (lc : ℕ) (parts : List Asked) (wrote : List DepParts) (turn : GateTurn) → gate_turn snap lc parts wrote ≡ turn
    → (here : Here) (view : View) (x : Own) → x.snap ≡ snap → x.parts ≡ parts → Tells here view.own snap.deps wrote → turn ≡ gate_of here view lc x
unfolding gate_turn
own_gate snap lc parts wrote turn e here view x s p t =
    let ws = map (dep_parts here view.own) snap.deps in
    let same = found_same wrote ws (written_same wrote ws (tells_meets here view.own snap.deps wrote t) (meets_tells here view.own snap.deps wrote t)) parts in
    sym e ∙ rw (s, p, same) refl
