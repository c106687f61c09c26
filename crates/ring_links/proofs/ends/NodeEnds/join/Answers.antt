use Rattle.std.proofs.Common.{[], ◌∷◌, ◌++◌, ap, ◌∙◌}
use Rattle.ring_links.specs.Ends.{Ends}
use Rattle.ring_links.proofs.ends.NodeEnds.join.Goals as goal

pub returns-clause-joined : goal.returns-clause-joined
returns-clause-joined c = record {
  mine = c.in_ok-one.one;
  theirs = c.in_ok-one.two;
  links = c.in_ok-push.ensures.items ∙ ap (λ (e : Ends). e.links ++ c.in_ok-one.one ∷ []) c.self.view_is;
  others = c.in_ok-push-2.ensures.items ∙ ap (λ (e : Ends). e.links ++ c.in_ok-one.two ∷ []) c.later.view_is;
  linked = c.in_ok-one.ensures.linked;
  fresh = c.in_ok-one.ensures.fresh;
  fresh_too = c.in_ok-one.ensures.fresh_too;
}
