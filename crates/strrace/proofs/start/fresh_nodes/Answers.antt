use Rattle.std.proofs.Common.{ap, arith, length, subst, suc, sym, ℕ, ◌+◌, ◌∙◌, ◌≡◌}
use Rattle.node_core.specs.Working.{NodeState}
use Rattle.std.proofs.lemmas.List.Edits.{length-remove}
use Rattle.strrace.proofs.Starting.{AreMade, all_made, ends_left, made_of_scene, one_made}
use Rattle.strrace.proofs.start.fresh_nodes.Goals as goal
use Rattle.strrace.specs.Starting.{AreOfScene}

pub next_node-requires-clause-same : goal.next_node-requires-clause-same
next_node-requires-clause-same g c =
    subst (AreOfScene c.args.scene.now) (sym c.deref.ensures.value)
    (made_of_scene c.args.scene.now c.loop-place.place c.in_ok-all.all.items c.loop-place.all.items c.loop-place.nodes.items c.loop-place.invariant.made)

pub loop-place-preserved : goal.loop-place-preserved
loop-place-preserved g c =
    let scene = c.args.scene.now in
    let place = c.loop-place.place in
    let all = c.in_ok-all.all.items in
    let rest = c.loop-place.all.items in
    let n = c.new-fresh.result in
    let made = c.loop-place.invariant.made in
    let ends = c.loop-place.invariant.ends.count in
    let end = c.nodes-place-end.ensures.value in
    let turn = c.loop-place-test.true in
    let most = c.loop-place.invariant.limits.nodes.1 in
    let is = c.new-fresh.ensures.node in
    let number : place + 1 ≡ suc place = omega arith in
    let left = ends_left scene place all rest c.loop-place.nodes.items made (omega (arith, turn, ends, end)) in
    let less_clocks = length-remove c.loop-place.clocks.items 0 (let i = c.loop-place.invariant.clocks in omega (arith, i, turn, end, most)) in
    let less_gates = length-remove c.loop-place.gates.items 0 (let i = c.loop-place.invariant.gates in omega (arith, i, turn, end, most)) in
    record {
      limits = c.loop-place.invariant.limits;
      ends = c.loop-place.invariant.ends;
      made = one_made scene place all rest c.remove-ends.new.self.items c.loop-place.nodes.items c.push.new.self.items n c.remove-ends.result made
          (record {
            scene_ = ap (λ (m : NodeState). m.scene) is ∙ c.in_ok-node.ensures.scene;
            id_ = ap (λ (m : NodeState). m.id) is ∙ (c.in_ok-node.ensures.id ∙ (λ j. record { 0 = number j }));
            view_ = ap (λ (m : NodeState). m.view) is ∙ c.in_ok-node.ensures.view;
            log_ = c.new-fresh.ensures.log ∙ sym (ap (λ (m : NodeState). m.id) is);
            entries = c.new-fresh.ensures.entries;
            messages = c.new-fresh.ensures.messages;
            answers = c.new-fresh.ensures.answers;
            stamp_ = c.new-fresh.ensures.stamp;
          })
          left c.remove-ends.ensures.value c.remove-ends.ensures.items c.new-fresh.ensures.ends c.in_ok-push.ensures.items;
      clocks = (let i = c.loop-place.invariant.clocks in let l = ap length c.remove.ensures.items in omega (arith, i, l, less_clocks));
      gates = (let i = c.loop-place.invariant.gates in let l = ap length c.remove-in-loop-place.ensures.items in omega (arith, i, l, less_gates));
    }

pub returns : goal.returns
returns g c =
    let end = c.nodes-place-end.ensures.value in
    let last = c.loop-place.auto.place-end in
    let over = c.loop-place-test.false in
    let whole : c.loop-place.place ≡ c.args.scene.now.nodes = omega (arith, end, last, over) in
    record {
      fresh = all_made c.args.scene.now c.in_ok-all.all.items c.loop-place.all.items c.loop-place.nodes.items c.loop-place.invariant.limits c.loop-place.invariant.ends
          (subst (λ (k : ℕ). AreMade c.args.scene.now k c.in_ok-all.all.items c.loop-place.all.items c.loop-place.nodes.items) whole c.loop-place.invariant.made);
    }
