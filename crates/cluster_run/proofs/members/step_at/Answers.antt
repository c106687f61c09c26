use Rattle.std.proofs.Common.{Some, false, length, refl, rules, slice_get, subst, sym, ◌-◌, ◌≡◌}
use Rattle.std.proofs.lemmas.Option.{slice_get_read}
use Rattle.cluster_run.specs.Clusters.{HasRoom, IsReady, StepsAt}
use Rattle.cluster_run.proofs.Places.{steps_at}
use Rattle.cluster_run.proofs.members.step_at.Goals as goal
use Rattle.si_laws.proofs.Reasons.CommitsAfter.{place_nth}

pub returns-in_default : goal.returns-in_default
returns-in_default c =
    let ns = c.args.nodes.now.items in
    subst (λ o. StepsAt c.args.input.now ns ns (c.args.node.0 - 1) o c.args.out.now c.args.out.now false) (sym (c.in_default.ensures.none (search rules))) (record { moves_ = refl; nodes = refl; out = refl })

pub step-requires-clause-room : goal.step-requires-clause-room
step-requires-clause-room c =
    let ns = c.args.nodes.now.items in
    let i = c.in-Some.place in
    let n = c.index_mut-member.result.now in
    let g : slice_get ns i ≡ Some n = slice_get_read ns (length ns) i n refl c.in-Some.ensures.some.1 c.index_mut-member.ensures.value in
    subst (IsReady c.args.input.now) (place_nth ns c.args.node.0 i n c.in-Some.ensures.some.0 g) c.requires.room

pub step-requires-clause-space : goal.step-requires-clause-space
step-requires-clause-space c =
    let ns = c.args.nodes.now.items in
    let i = c.in-Some.place in
    let n = c.index_mut-member.result.now in
    let g : slice_get ns i ≡ Some n = slice_get_read ns (length ns) i n refl c.in-Some.ensures.some.1 c.index_mut-member.ensures.value in
    subst (HasRoom c.args.out.now.space c.args.input.now) (place_nth ns c.args.node.0 i n c.in-Some.ensures.some.0 g) c.requires.space

pub returns : goal.returns
returns c =
    let ns = c.args.nodes.now.items in
    let i = c.in-Some.place in
    let n = c.index_mut-member.result.now in
    let g : slice_get ns i ≡ Some n = slice_get_read ns (length ns) i n refl c.in-Some.ensures.some.1 c.index_mut-member.ensures.value in
    steps_at ns c.args.node.0 i n c.step.new.self c.args.input.now c.args.out.now c.step.new.out c.step.result c.in-Some.ensures.some.0 g c.step.ensures
