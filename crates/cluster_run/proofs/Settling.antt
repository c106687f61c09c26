-- What a node does after an event that was not idle: it hears what it was told, and prunes.
use Rattle.std.proofs.Common.{Bool, List, None, Option, Some, ap, false, length, max, not, option_map, refl, replicate, slice_get, slice_index, slice_set, subst, sym, true, ℕ, ◌++◌, ◌-◌, ◌∙◌, ◌≡◌}
use Rattle.std.specs.List.{last_or}
use Rattle.cluster_run.specs.Clusters.{Comes, Entered, SameParts, world_of}
use Rattle.cluster_run.specs.declared.marks.Told.{Told}
use Rattle.cluster_run.specs.declared.parts.Parts.{Parts}
use Rattle.cluster_run.specs.declared.pruned_parts.PrunedParts.{PrunedParts}
use Rattle.cluster_run.specs.Marks.{CarriedState, hearing}
use Rattle.cluster_run.specs.PrunedStates.{PrunedComes, pruned_of, settled, settled_at}
use Rattle.prune_laws.proofs.PairedLists.{last_push}
use Rattle.str_base.specs.declared.names.Ts.{Ts}
use Rattle.str_model.specs.declared.messages.Message.{Message}
use Rattle.str_model.specs.declared.names.Done.{Done}
use Rattle.str_model.specs.PrunedRuns.{PrunedWorld, bound, hears, hears_of, pruned_after, pruned_at, pruned_happens, row_or, taken_by}
use Rattle.str_model.specs.Pruning.{low, pruned}
use Rattle.str_model.specs.Runs.{World, happens}
use Rattle.str_model.specs.Views.{View}
use Rattle.str_scene.specs.declared.names.Event.{Event}
use Rattle.str_scene.specs.declared.names.Event.TheVariants.{Deliver}
use Rattle.str_scene.specs.Scenes.{Scene, nth}

-- ---- what was told

told_of : (o : Option Message) (c : Option ℕ) (place : ℕ) (mark : Ts) (row : List ℕ) → Some place ≡ option_map (λ (m : Message). m.sender.0 - 1) o → Some mark.0 ≡ c
    → hears_of o c row ≡ hearing (Some (record { place = place; mark = mark })) row
told_of None c place mark row e q = absurd (cc e)
told_of (Some m) None place mark row e q = absurd (cc q)
told_of (Some m) (Some l) place mark row e q =
    let a : place ≡ m.sender.0 - 1 = cc e in
    let b : mark.0 ≡ l = cc q in
    λ j. slice_set row (sym a j) (max (slice_index row (sym a j)) (sym b j))

pub told_is : (p : PrunedWorld) (i place : ℕ) (mark : Ts) (row : List ℕ) → Some place ≡ option_map (λ (m : Message). m.sender.0 - 1) (nth p.world.sent i) → Some mark.0 ≡ nth p.carried i
    → hears p (Deliver i) row ≡ hearing (Some (record { place = place; mark = mark })) row
told_is p i place mark row e q = told_of (nth p.world.sent i) (nth p.carried i) place mark row e q

told_no_message : (o : Option Message) (c : Option ℕ) (row : List ℕ) → None ≡ option_map (λ (m : Message). m.sender.0 - 1) o → hears_of o c row ≡ row
told_no_message None c row e = refl
told_no_message (Some m) c row e = absurd (cc e)

pub told_nobody : (p : PrunedWorld) (i : ℕ) (row : List ℕ) → None ≡ option_map (λ (m : Message). m.sender.0 - 1) (nth p.world.sent i) → hears p (Deliver i) row ≡ row
told_nobody p i row e = told_no_message (nth p.world.sent i) (nth p.carried i) row e

told_no_mark : (o : Option Message) (c : Option ℕ) (row : List ℕ) → None ≡ c → hears_of o c row ≡ row
told_no_mark None c row e = refl
told_no_mark (Some m) None row e = refl
told_no_mark (Some m) (Some l) row e = absurd (cc e)

pub told_nothing : (p : PrunedWorld) (i : ℕ) (row : List ℕ) → None ≡ nth p.carried i → hears p (Deliver i) row ≡ row
told_nothing p i row e = told_no_mark (nth p.world.sent i) (nth p.carried i) row e

-- ---- the event

-- where it was idle nothing is heard and nothing pruned
pub idle_happens : (scene : Scene) (p : PrunedWorld) (e : Event) (w : World) → w ≡ happens scene p.world e → Entered e true p.world w → (let q : PrunedWorld = record p { world = w } in q) ≡ pruned_happens scene p e
unfolding pruned_happens
idle_happens scene p e w is c =
    let last : last_or None (happens scene p.world e).journal ≡ Some (record { event = e; idle = true; answers = c.0 }) =
    ap (λ (v : World). last_or None v.journal) (sym is) ∙ (ap (λ (ds : List Done). last_or None ds) c.1 ∙ last_push None p.world.journal (record { event = e; idle = true; answers = c.0 })) in
    ap (λ (v : World). let q : PrunedWorld = record p { world = v } in q) is ∙ sym (ap (pruned_after p (happens scene p.world e) e (taken_by scene p.world e)) last ∙ rested (taken_by scene p.world e))
  where
    rested : (o : Option ℕ) → pruned_after p (happens scene p.world e) e o (Some (record { event = e; idle = true; answers = c.0 })) ≡ (record p { world = happens scene p.world e })
    rested None = refl
    rested (Some i) = refl

-- else its node has settled
pub settled_happens : (scene : Scene) (p : PrunedWorld) (e : Event) (w : World) (taker : Option ℕ) (told : Option Told) (sent : ℕ) → w ≡ happens scene p.world e → Entered e false p.world w → taker ≡ taken_by scene p.world e
    → ((row : List ℕ) → hears p e row ≡ hearing told row) → sent ≡ length p.world.sent → settled taker told sent (record p { world = w }) ≡ pruned_happens scene p e
unfolding pruned_happens
settled_happens scene p e w taker told sent is c t h s =
    let last : last_or None w.journal ≡ Some (record { event = e; idle = false; answers = c.0 }) =
    ap (λ (ds : List Done). last_or None ds) c.1 ∙ last_push None p.world.journal (record { event = e; idle = false; answers = c.0 }) in
    by_taker taker ∙ (ap (pruned_after p w e taker) (sym last) ∙ ((λ j. pruned_after p w e (t j) (last_or None w.journal)) ∙ ap (λ (v : World). pruned_after p v e (taken_by scene p.world e) (last_or None v.journal)) is))
  where
    by_view : (i : ℕ) (o : Option View) → settled_at i told sent (record p { world = w }) o ≡ pruned_at p w e i o
    by_view i None = refl
    by_view i (Some v) =
        let r : hearing told (row_or (slice_get p.heard i)) ≡ hears p e (row_or (slice_get p.heard i)) = sym (h (row_or (slice_get p.heard i))) in
        λ j. record {
          world = record w { nodes = slice_set w.nodes i (pruned (bound (low v) i (r j)) v) };
          carried = p.carried ++ replicate (length w.sent - s j) (low v);
          heard = slice_set p.heard i (r j);
        }

    by_taker : (o : Option ℕ) → settled o told sent (record p { world = w }) ≡ pruned_after p w e o (Some (record { event = e; idle = false; answers = c.0 }))
    by_taker None = refl
    by_taker (Some i) = by_view i (slice_get w.nodes i)

-- ---- the parts

-- the parts after room was made and the event was done
abbrev with_cluster : PrunedParts → Parts → CarriedState → PrunedParts
with_cluster old mid carried = record old { cluster = mid; carried = carried }

same_before : (old : PrunedParts) (mid : Parts) (carried : CarriedState) → SameParts old.cluster mid → carried.marks ≡ old.carried.marks → pruned_of (with_cluster old mid carried) ≡ pruned_of old
same_before old mid carried same m = λ j. record { world = same.world j; carried = m j; heard = old.heard.items }

pub event_settles : (old : PrunedParts) (mid after : Parts) (carried : CarriedState) (new : PrunedParts) (e : Event) (moves : Bool) (taker : Option ℕ) (told : Option Told) (sent : ℕ) → SameParts old.cluster mid
    → carried.marks ≡ old.carried.marks → Comes (happens mid.scene (world_of mid) e) mid after → Entered e (not moves) (world_of mid) (world_of after) → moves ≡ true → taker ≡ taken_by mid.scene (world_of mid) e
    → ((row : List ℕ) → hears (pruned_of (with_cluster old mid carried)) e row ≡ hearing told row) → sent ≡ length mid.out.messages
    → PrunedComes (settled taker told sent (pruned_of (with_cluster old after carried))) (with_cluster old after carried) new → PrunedComes (pruned_happens old.cluster.scene (pruned_of old) e) old new
event_settles old mid after carried new e moves taker told sent same m c entered up tk h s d =
    let t = settled_happens mid.scene (pruned_of (with_cluster old mid carried)) e (world_of after) taker told sent c.world
    (subst (λ b. Entered e (not b) (world_of mid) (world_of after)) up entered) tk h s in
    let before = same_before old mid carried same m in
    record {
      scene_ = d.scene_ ∙ (c.scene_ ∙ same.scene_);
      placed = d.placed;
      state = d.state ∙ (t ∙ (λ j. pruned_happens (same.scene_ j) (before j) e));
    }

pub event_rests : (old : PrunedParts) (mid after : Parts) (carried : CarriedState) (e : Event) (moves : Bool) → SameParts old.cluster mid → carried.marks ≡ old.carried.marks
    → Comes (happens mid.scene (world_of mid) e) mid after → Entered e (not moves) (world_of mid) (world_of after) → moves ≡ false
    → PrunedComes (pruned_happens old.cluster.scene (pruned_of old) e) old (with_cluster old after carried)
event_rests old mid after carried e moves same m c entered down =
    let t = idle_happens mid.scene (pruned_of (with_cluster old mid carried)) e (world_of after) c.world (subst (λ b. Entered e (not b) (world_of mid) (world_of after)) down entered) in
    let before = same_before old mid carried same m in
    record {
      scene_ = c.scene_ ∙ same.scene_;
      placed = c.placed;
      state = t ∙ (λ j. pruned_happens (same.scene_ j) (before j) e);
    }
