use Rattle.std.proofs.Common.{Some, arith, length, refl, rules, slice_get, subst, sym, ◌≡◌, ◌≤◌}
use Rattle.std.proofs.lemmas.Option.{slice_get_read}
use Rattle.std.proofs.lemmas.Result.{IfOk-weaker}
use Rattle.node_core.specs.Working.{here_of}
use Rattle.cluster_run.specs.Clusters.{HasRoom, IsReady}
use Rattle.cluster_run.proofs.Places.{ok_both, ready_there, room_at}
use Rattle.cluster_run.proofs.Stepping.{same_set}
use Rattle.cluster_run.proofs.members.ready_at.Goals as goal
use Rattle.str_model.specs.Steps.{need}
use Rattle.str_scene.specs.Scenes.{nth}

pub returns-in_default-clause-need : goal.returns-in_default-clause-need
returns-in_default-clause-need c = subst (HasRoom 0 c.args.input.now) (sym (c.in_default.ensures.none (search rules))) tt

pub returns-in_default-clause-room : goal.returns-in_default-clause-room
returns-in_default-clause-room c = subst (IsReady c.args.input.now) (sym (c.in_default.ensures.none (search rules))) tt

pub returns-in_default-clause-space : goal.returns-in_default-clause-space
returns-in_default-clause-space c = subst (HasRoom c.args.out.now.space c.args.input.now) (sym (c.in_default.ensures.none (search rules))) tt

pub returns-clause-need : goal.returns-clause-need
returns-clause-need c =
    let ns = c.args.nodes.now.items in
    let i = c.in-Some.place in
    let n = c.index_mut-member.result.now in
    let g : slice_get ns i ≡ Some n = slice_get_read ns (length ns) i n refl c.in-Some.ensures.some.1 c.index_mut-member.ensures.value in
    IfOk-weaker c.ready.result (λ r. need (here_of n) c.args.input.now n.view ≤ r) (λ r. HasRoom r c.args.input.now (nth _ c.args.node.0))
    (λ r l. room_at ns c.args.node.0 i n c.ready.new.self c.args.input.now r c.in-Some.ensures.some.0 g c.ready.ensures.node l) c.ready.ensures.need

pub returns-clause-room : goal.returns-clause-room
returns-clause-room c =
    let ns = c.args.nodes.now.items in
    let i = c.in-Some.place in
    let n = c.index_mut-member.result.now in
    let m = c.ready.new.self in
    let g : slice_get ns i ≡ Some n = slice_get_read ns (length ns) i n refl c.in-Some.ensures.some.1 c.index_mut-member.ensures.value in
    ok_both c.ready.result (λ r. need (here_of n) c.args.input.now n.view ≤ r) (λ r. r ≤ m.room) (λ r. IsReady c.args.input.now (nth _ c.args.node.0))
    (λ r a b. ready_there ns c.args.node.0 i n m c.args.input.now c.in-Some.ensures.some.0 g c.ready.ensures.node (omega (arith, a, b))) c.ready.ensures.need c.ready.ensures.room_made

pub returns-clause-space : goal.returns-clause-space
returns-clause-space c =
    let ns = c.args.nodes.now.items in
    let i = c.in-Some.place in
    let n = c.index_mut-member.result.now in
    let m = c.ready.new.self in
    let g : slice_get ns i ≡ Some n = slice_get_read ns (length ns) i n refl c.in-Some.ensures.some.1 c.index_mut-member.ensures.value in
    ok_both c.ready.result (λ r. need (here_of n) c.args.input.now n.view ≤ r) (λ r. r ≤ c.ready.new.out.space) (λ r. HasRoom c.ready.new.out.space c.args.input.now (nth _ c.args.node.0))
    (λ r a b. room_at ns c.args.node.0 i n m c.args.input.now c.ready.new.out.space c.in-Some.ensures.some.0 g c.ready.ensures.node (omega (arith, a, b))) c.ready.ensures.need c.ready.ensures.space_made

pub returns-clause-nodes : goal.returns-clause-nodes
returns-clause-nodes c =
    let ns = c.args.nodes.now.items in
    let i = c.in-Some.place in
    let n = c.index_mut-member.result.now in
    let g : slice_get ns i ≡ Some n = slice_get_read ns (length ns) i n refl c.in-Some.ensures.some.1 c.index_mut-member.ensures.value in
    same_set ns i n c.ready.new.self g c.ready.ensures.node.scene c.ready.ensures.node.id c.ready.ensures.node.view
