use Rattle.std.proofs.Common.{rules}
use Rattle.std.proofs.lemmas.Fn.{filter_same}
use Rattle.node_parts.proofs.own_list.forget.Goals as goal

pub returns-clause-told : goal.returns-clause-told
returns-clause-told c = filter_same _ _ _ (λ x b f' k. search rules) _ _ c.retain.ensures.filtered
