-- Runs in which each node drops what no later snapshot can see. Each message carries its sender's low mark, and each node keeps the greatest that it has
-- heard of each other node.
use Rattle.std.specs.List.{last_or}
use Rattle.std.specs.Prelude.{List, None, Option, Some, [], if◌then◌else◌, length, max, min, option_map, replicate, slice_get, slice_index, slice_set, suc, zero, ℕ, ◌++◌, ◌-◌, ◌∷◌}
use Rattle.str_model.specs.declared.names.Done.{Done}
use Rattle.str_scene.specs.declared.names.Event.{Event}
use Rattle.str_scene.specs.declared.names.Event.TheVariants.{Client as ClientEvent, Deliver as DeliverEvent}
use Rattle.str_model.specs.declared.messages.Message.{Message}
use Rattle.str_model.specs.Pruning.{low, pruned}
use Rattle.str_model.specs.Runs.{World, happens, opening}
use Rattle.str_scene.specs.Scenes.{Scene, Session, nth}
use Rattle.str_model.specs.Views.{View}

-- a cluster that prunes: the low mark that each sent message carries, and for each node what it has heard of each node
pub record PrunedWorld : Type 0 where
  pub world : World
  pub carried : List ℕ
  pub heard : List (List ℕ)

-- nothing was heard
abbrev pub pruned_opening : Scene → PrunedWorld
pruned_opening scene = record { world = opening scene; carried = []; heard = replicate scene.nodes (replicate scene.nodes 0) }

-- the least of a number and all of a list
abbrev pub least_with : ℕ → List ℕ → ℕ
least_with l [] = l
least_with l (h ∷ hs) = min h (least_with l hs)

-- the least of the own low mark and all that was heard of the other nodes: the i-th place is the node's own
abbrev pub bound : ℕ → ℕ → List ℕ → ℕ
bound l i [] = l
bound l zero (h ∷ hs) = least_with l hs
bound l (suc i) (h ∷ hs) = min h (bound l i hs)

-- the place of the node that takes the event
abbrev pub taken_by : Scene → World → Event → Option ℕ
taken_by scene w (ClientEvent s t) = option_map (λ (text : Session). text.node.0 - 1) (nth scene.sessions s.0)
taken_by scene w (DeliverEvent i) = option_map (λ (m : Message). m.receiver.0 - 1) (nth w.sent i)

-- the row with what a message carried, where it is more than was heard of its sender
abbrev pub hears_of : Option Message → Option ℕ → List ℕ → List ℕ
hears_of (Some m) (Some l) row = slice_set row (m.sender.0 - 1) (max (slice_index row (m.sender.0 - 1)) l)
hears_of _ _ row = row

-- what a node has heard once it has taken the event
abbrev pub hears : PrunedWorld → Event → List ℕ → List ℕ
hears p (ClientEvent s t) row = row
hears p (DeliverEvent i) row = hears_of (nth p.world.sent i) (nth p.carried i) row

-- what was heard at a place
abbrev pub row_or : Option (List ℕ) → List ℕ
row_or None = []
row_or (Some row) = row

-- the node's view is pruned, and its messages carry its low mark
abbrev pub pruned_at : PrunedWorld → World → Event → ℕ → Option View → PrunedWorld
pruned_at p w e i None = record p { world = w }
pruned_at p w e i (Some v) =
    let row = hears p e (row_or (slice_get p.heard i)) in
    record {
      world = record w { nodes = slice_set w.nodes i (pruned (bound (low v) i row) v) };
      carried = p.carried ++ replicate (length w.sent - length p.world.sent) (low v);
      heard = slice_set p.heard i row;
    }

-- where the event is idle nothing is heard and nothing pruned
abbrev pub pruned_after : PrunedWorld → World → Event → Option ℕ → Option Done → PrunedWorld
pruned_after p w e None o = record p { world = w }
pruned_after p w e (Some i) None = record p { world = w }
pruned_after p w e (Some i) (Some d) = if d.idle then record p { world = w } else pruned_at p w e i (slice_get w.nodes i)

-- one event of a cluster that prunes
unfoldable pub pruned_happens : Scene → PrunedWorld → Event → PrunedWorld
pruned_happens scene p e =
    let w = happens scene p.world e in pruned_after p w e (taken_by scene p.world e) (last_or None w.journal)

-- all these events, one after the other
abbrev pub pruned_from : Scene → PrunedWorld → List Event → PrunedWorld
pruned_from scene p [] = p
pruned_from scene p (e ∷ es) = pruned_from scene (pruned_happens scene p e) es

-- all events from the opening on
abbrev pub pruned_run : Scene → List Event → PrunedWorld
pruned_run scene es = pruned_from scene (pruned_opening scene) es
