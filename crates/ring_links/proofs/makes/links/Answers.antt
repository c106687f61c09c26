use Rattle.std.proofs.Common.{ℕ, List, ◌+◌, subst, sym, ◌∙◌}
use Rattle.ring_links.specs.Ends.{Ends, AreEnds}
use Rattle.ring_links.specs.Making.{AreJoined}
use Rattle.ring_links.proofs.Making.{one_more}
use Rattle.ring_links.proofs.makes.links.Goals as goal

pub loop-before-preserved : goal.loop-before-preserved
loop-before-preserved c =
    let n = c.loop-before.before in
    let inv = c.loop-before.invariant in
    let es = c.loop-before.all.items in
    let es' = c.join_all.new.before.items in
    let later = c.join_all.new.later in
    let joined = subst (λ (k : ℕ). AreJoined k es es' later) inv.count c.in_ok-join_all.ensures.joined in
    let own = c.join_all.ensures.node ∙ c.alone-later.ensures.0 in
    subst (λ (all : List Ends). AreEnds all (n + 1)) (sym c.in_ok-push.ensures.items) (one_more n es es' later inv joined own)
