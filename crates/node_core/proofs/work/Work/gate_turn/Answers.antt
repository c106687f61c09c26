use Rattle.std.proofs.Common.{ap, subst, sym, ◌∙◌}
use Rattle.std.proofs.lemmas.Option.{slice_get_within}
use Rattle.commit_gate.specs.Answers.{Tells}
use Rattle.dependency_set.specs.Snapshots.{Snap}
use Rattle.node_parts.specs.Holding.{view_of}
use Rattle.node_core.specs.Working.{HasFacts, IsOpen}
use Rattle.node_core.proofs.Parts.Showing.{same_at}
use Rattle.node_core.proofs.Parts.WrittenParts.{deps_here, keys_here}
use Rattle.str_model.specs.Views.{Own}
use Rattle.node_core.proofs.work.Work.gate_turn.Goals as goal

pub at-x-requires : goal.at-x-requires
at-x-requires c = let o = subst (IsOpen c.args.i) (sym c.self.view_is) c.requires.open_ in slice_get_within _ c.args.i o.0 o.1

pub wrote-wrote-requires-clause-there : goal.wrote-wrote-requires-clause-there
wrote-wrote-requires-clause-there c = let o = subst (IsOpen c.args.i) (sym c.self.view_is) c.requires.open_ in slice_get_within _ c.args.i o.0 o.1

pub wrote-wrote-requires-clause-deps : goal.wrote-wrote-requires-clause-deps
wrote-wrote-requires-clause-deps c =
    let f = subst HasFacts (sym c.self.view_is) c.requires.facts in
    let o = subst (IsOpen c.args.i) (sym c.self.view_is) c.requires.open_ in
    deps_here c.self.inside.site (view_of c.self.inside.held c.self.inside.own.all) f.moment c.args.i o.0 o.1 o.2

pub wrote-wrote-requires-clause-keys : goal.wrote-wrote-requires-clause-keys
wrote-wrote-requires-clause-keys c =
    let f = subst HasFacts (sym c.self.view_is) c.requires.facts in
    keys_here c.self.inside.site (view_of c.self.inside.held c.self.inside.own.all) f.limits f.moment

pub returns : goal.returns
returns c =
    rw (← c.self.view_is)
    (λ x own.
    let y = same_at _ c.args.i _ _ c.at-x.ensures.own own in
    let s = c.snap.ensures ∙ ap (λ (z : Own). z.snap) y in
    c.gate.ensures.own c.self.inside.site (view_of c.self.inside.held c.self.inside.own.all) x (sym s) (sym (c.parts.ensures ∙ ap (λ (z : Own). z.parts) y))
    (subst (λ (z : Snap). Tells c.self.inside.site c.self.inside.own.all z.deps c.as_slice.result.now) (sym s)
    (subst (λ z. Tells c.self.inside.site c.self.inside.own.all x.snap.deps z) (sym c.as_slice.ensures.value) (c.wrote-wrote.ensures x own))))
