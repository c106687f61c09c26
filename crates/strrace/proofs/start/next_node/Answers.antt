use Rattle.std.proofs.Common.{IfOk, Some, slice_get, subst, sym, ◌≡◌}
use Rattle.node_core.specs.Working.{NodeState}
use Rattle.str_model.specs.Runs.{opening_view}
use Rattle.str_scene.specs.Scenes.{Scene}
use Rattle.strrace.proofs.start.next_node.Goals as goal

pub returns-in-Some-clause-scene : goal.returns-in-Some-clause-scene
returns-in-Some-clause-scene g c =
    let at : slice_get c.args.nodes.now 0 ≡ Some c.in-Some.first.now = sym c.in-Some.ensures.value in
    subst (λ (z : Scene). IfOk c.beside.result (λ (n : NodeState). n.scene ≡ z)) (c.requires.same.scene_ 0 c.in-Some.first.now at) c.beside.ensures.scene

pub returns-in-Some-clause-view : goal.returns-in-Some-clause-view
returns-in-Some-clause-view g c =
    let at : slice_get c.args.nodes.now 0 ≡ Some c.in-Some.first.now = sym c.in-Some.ensures.value in
    subst (λ (z : Scene). IfOk c.beside.result (λ (n : NodeState). n.view ≡ opening_view z)) (c.requires.same.scene_ 0 c.in-Some.first.now at) c.beside.ensures.view
