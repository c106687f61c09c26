use Rattle.std.proofs.Common.{List, [], ap, subst, sym, ◌∙◌, ◌≡◌}
use Rattle.node_core.proofs.OldVersions.PrunedStores.{ordered_pruned}
use Rattle.node_core.specs.Working.{IsNode}
use Rattle.str_model.proofs.Pruning.PruneFacts.{facts_pruned}
use Rattle.str_model.specs.Pruning.{pruned}
use Rattle.str_model.specs.Views.{Doing, View}
use Rattle.str_scene.specs.Scenes.{Here}
use Rattle.node_core.proofs.nodes.Node.prune.Goals as goal

pub prune-requires : goal.prune-requires
prune-requires c = let n = c.self.invariant.0 in record { limits = n.limits; exists = n.exists; moment = n.facts.moment }

pub invariant_of-self : goal.invariant_of-self
invariant_of-self c =
    let n = c.self.invariant.0 in
    let f = c.self.invariant.1 in
    let d = c.prune.ensures.did in
    let g = c.args.below.0 in
    let w = c.self.inside.work in
    let v = ap (λ (z : Doing). z.view) d.done in (
      subst (λ (here : Here). IsNode here c.prune.new.self.doing.view) (sym d.stays.here)
          (subst (λ (u : View). IsNode w.here u) (sym v)
          (record { limits = n.limits; exists = n.exists; facts = facts_pruned w.here g w.doing.view n.facts; ordered = ordered_pruned g w.doing.view.versions n.ordered })),
      record {
        sent = ap (λ (z : Doing). z.sent) d.done ∙ f.sent;
        released = ap (λ (z : Doing). z.released) d.done ∙ f.released;
        added = ap (λ (z : Doing). z.added) d.done ∙ f.added;
      },
      d.stays.earlier ∙ c.self.invariant.2,
      d.stays.answered ∙ c.self.invariant.3,
    )

pub returns-clause-scene : goal.returns-clause-scene
returns-clause-scene c = rw (← c.self.view_is) (ap (λ (h : Here). h.scene) c.prune.ensures.did.stays.here)

pub returns-clause-id : goal.returns-clause-id
returns-clause-id c = rw (← c.self.view_is) (ap (λ (h : Here). h.node) c.prune.ensures.did.stays.here)

pub returns-clause-view : goal.returns-clause-view
returns-clause-view c = rw (← c.self.view_is) (ap (λ (z : Doing). z.view) c.prune.ensures.did.done)

pub returns-clause-room : goal.returns-clause-room
returns-clause-room c = rw (← c.self.view_is) c.prune.ensures.did.stays.room

pub returns-clause-count : goal.returns-clause-count
returns-clause-count c = rw (← c.self.view_is) c.prune.ensures.count
