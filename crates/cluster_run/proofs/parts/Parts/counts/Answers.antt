use Rattle.std.proofs.Common.{ap, arith, length, not, sum_by, ◌-◌, ◌∙◌, ◌≡◌}
use Rattle.std.specs.List.{count_by}
use Rattle.cluster_run.proofs.Counting.{begun_in, held_few, held_in, held_of, scripts_in, sum_views}
use Rattle.cluster_run.proofs.parts.Parts.counts.Goals as goal
use Rattle.cluster_run.specs.Clusters.{views_of, world_of}
use Rattle.cluster_run.specs.Printing.{counted}
use Rattle.str_model.specs.declared.messages.Answer.{Answer}
use Rattle.str_model.specs.Lines.{counts, is_commit}
use Rattle.node_core.specs.Working.{NodeState}
use Rattle.str_model.specs.Views.{View}

pub begun_among-begun-requires : goal.begun_among-begun-requires
begun_among-begun-requires c =
    let p = c.args.self.now in
    let few = c.requires.begun in
    let views = sum_views (λ (v : View). length v.own) p.nodes.items in
    let same = ap (sum_by (λ (n : NodeState). length n.view.own)) c.as_slice.ensures.value in
    omega (arith, few, views, same)

pub commits_among-requires : goal.commits_among-requires
commits_among-requires c =
    let p = c.args.self.now in
    let few = c.requires.answers in
    let same = ap length (c.as_slice-answers.ensures.value ∙ c.answers.ensures) in
    omega (arith, few, same)

pub aborts_among-requires : goal.aborts_among-requires
aborts_among-requires c =
    let p = c.args.self.now in
    let few = c.requires.answers in
    let same = ap length (c.as_slice-answers.ensures.value ∙ c.answers.ensures) in
    omega (arith, few, same)

pub held_among-requires : goal.held_among-requires
held_among-requires c =
    let p = c.args.self.now in
    let few = held_few (world_of p) c.requires in
    let views = sum_views held_of p.nodes.items in
    let same = ap (sum_by (λ (n : NodeState). held_of n.view)) c.as_slice-2.ensures.value in
    omega (arith, few, views, same)

pub returns : goal.returns
returns c =
    let p = c.args.self.now in
    let answers = c.as_slice-answers.ensures.value ∙ c.answers.ensures in
    let commits : c.commits_among.result ≡ count_by (λ (a : Answer). is_commit a.outcome) p.out.answers = c.commits_among.ensures ∙ ap (count_by (λ (a : Answer). is_commit a.outcome)) answers in
    let aborts : c.aborts_among.result ≡ count_by (λ (a : Answer). not (is_commit a.outcome)) p.out.answers = c.aborts_among.ensures ∙ ap (count_by (λ (a : Answer). not (is_commit a.outcome))) answers in
    let held : c.held_among.result ≡ held_in (views_of p.nodes.items) =
    c.held_among.ensures ∙ (ap (sum_by (λ (n : NodeState). held_of n.view)) c.as_slice-2.ensures.value ∙ sum_views held_of p.nodes.items) in
    let begun : c.begun_among-begun.result ≡ begun_in (views_of p.nodes.items) =
    c.begun_among-begun.ensures ∙ (ap (sum_by (λ (n : NodeState). length n.view.own)) c.as_slice.ensures.value ∙ sum_views (λ (v : View). length v.own) p.nodes.items) in
    let unbegun : c.saturating_sub.result ≡ scripts_in p.scene - begun_in (views_of p.nodes.items) = c.saturating_sub.ensures ∙ (λ j. c.scripts_of.ensures j - begun j) in
    let messages : c.len.result ≡ length p.out.messages = c.len.ensures ∙ (c.messages.result.now.ok.0 ∙ ap length c.messages.ensures) in
    let all : counted (record { commits = c.commits_among.result; aborts = c.aborts_among.result; held = c.held_among.result; unbegun = c.saturating_sub.result; messages = c.len.result }) ≡ counts p.scene (world_of p) =
    λ j. record { commits = commits j; aborts = aborts j; held = held j; unbegun = unbegun j; messages = messages j } in
    all
