-- The numbers of the last line, as the code adds them up.
use Rattle.std.proofs.Common.{List, [], arith, length, not, refl, sum_by, ℕ, ◌∷◌, ◌≡◌, ◌≤◌}
use Rattle.std.proofs.lemmas.List.Sums.{count_by-le-length, sum_by-cons}
use Rattle.std.specs.List.{count_by}
use Rattle.node_core.specs.Working.{NodeState}
use Rattle.cluster_run.proofs.RunOf.{answers_few}
use Rattle.cluster_run.specs.Clusters.{AreFew, IsRun, events_of, views_of}
use Rattle.si_laws.proofs.Times.BegunFew.{few_begin, own_total}
use Rattle.str_model.specs.Runs.{World}
use Rattle.str_model.specs.Views.{Own, View, is_decided}
use Rattle.str_scene.specs.SceneLimits.{IsScene}
use Rattle.str_scene.specs.Scenes.{Scene}
use Rattle.std.proofs.Common.{ap}

-- how many transactions of a node are undecided
abbrev pub held_of : View → ℕ
held_of v = count_by (λ x. not (is_decided x.phase)) v.own

-- how many transactions of these nodes are undecided, and how many have begun
abbrev pub held_in : List View → ℕ
held_in vs = sum_by held_of vs

abbrev pub begun_in : List View → ℕ
begun_in vs = sum_by (λ v. length v.own) vs

-- how many transactions a scene has
abbrev pub scripts_in : Scene → ℕ
scripts_in scene = sum_by (λ s. length s.txs) scene.sessions

-- a sum over nodes is one over their views
pub sum_views : (f : View → ℕ) (ns : List NodeState) → sum_by (λ (n : NodeState). f n.view) ns ≡ sum_by f (views_of ns)
sum_views f [] = refl
sum_views f (n ∷ ns) =
    let a = sum_by-cons (λ (m : NodeState). f m.view) n ns in
    let b = sum_by-cons f n.view (views_of ns) in
    let r = sum_views f ns in omega (arith, a, b, r)

-- so counts the sum of the own lists
pub total_is : (vs : List View) → sum_by (λ (v : View). length v.own) vs ≡ own_total vs
total_is [] = refl
total_is (v ∷ vs) =
    let a = sum_by-cons (λ (u : View). length u.own) v vs in
    let r = total_is vs in omega (arith, a, r)

fewer : (f g : View → ℕ) (vs : List View) → ((v : View) → f v ≤ g v) → sum_by f vs ≤ sum_by g vs
fewer f g [] h = omega arith
fewer f g (v ∷ vs) h =
    let a = sum_by-cons f v vs in
    let b = sum_by-cons g v vs in
    let c = h v in
    let r = fewer f g vs h in omega (arith, a, b, c, r)

-- 1024 transactions at most have begun
begun_few : (scene : Scene) (w : World) → IsScene scene → IsRun scene w → begun_in w.nodes ≤ 1024
begun_few scene w ok r =
    let f = few_begin scene ok (events_of w.journal) in
    let t = total_is w.nodes in
    let e = ap (λ (v : World). own_total v.nodes) r in omega (arith, f, t, e)

-- so it is in a run, and there are few answers
pub are_few : (scene : Scene) (w : World) → IsScene scene → IsRun scene w → AreFew w
are_few scene w ok r = record { begun = begun_few scene w ok r; answers = answers_few scene w ok r }

-- then few are undecided
pub held_few : (w : World) → AreFew w → held_in w.nodes ≤ 1024
held_few w few =
    let b = few.begun in
    let l = fewer held_of (λ (v : View). length v.own) w.nodes (λ v. count_by-le-length (λ (x : Own). not (is_decided x.phase)) v.own) in
    omega (arith, b, l)
