use Rattle.std.proofs.Common.{List, ap, arith, length, sym, ◌∙◌}
use Rattle.str_base.specs.declared.names.Version.{Version}
use Rattle.str_base.specs.Versions.{chain}
use Rattle.chain_prune.specs.Hidden.{pruned_key}
use Rattle.chain_prune.proofs.Dropping.{dropped, none_dropped}
use Rattle.chain_prune.proofs.keys.prune_key.Goals as goal

pub hidden-smaller : goal.hidden-smaller
hidden-smaller c =
    let d = dropped c.args.below.0 c.args.key c.hidden.store.versions c.in-Some.version c.hidden.invariant.kept.1.0 (sym c.hidden.invariant.next ∙ c.in-Some.is) in
    let e = ap (λ (xs : List Version). length xs) c.drop_version.ensures.versions in
    let f = d.fewer in
    omega (arith, e, f)

pub hidden-preserved : goal.hidden-preserved
hidden-preserved c =
    let d = dropped c.args.below.0 c.args.key c.hidden.store.versions c.in-Some.version c.hidden.invariant.kept.1.0 (sym c.hidden.invariant.next ∙ c.in-Some.is) in
    let e = ap (λ (xs : List Version). length xs) c.drop_version.ensures.versions in
    let e' = ap (λ (xs : List Version). length (chain c.args.key xs)) c.drop_version.ensures.versions in
    let f = d.fewer in
    let f' = d.fewer_of_key in
    let n = c.hidden.invariant.count in
    let n' = c.hidden.invariant.count_of_key in
    let s = c.hidden.invariant.spare in
    let s' = c.drop_version.ensures.spare in
    record {
      next = c.oldest_hidden-hidden-in-Some.ensures.value;
      pruned = ap (λ (xs : List Version). pruned_key c.args.key c.args.below.0 xs) c.drop_version.ensures.versions ∙ d.pruned ∙ c.hidden.invariant.pruned;
      crowd = c.drop_version.ensures.crowd ∙ c.hidden.invariant.crowd;
      count = omega (arith, e, f, n);
      count_of_key = omega (arith, e', f', n');
      limit = c.hidden.invariant.limit;
      here = (c.drop_version.ensures.here.0 ∙ c.hidden.invariant.here.0, c.drop_version.ensures.here.1 ∙ c.hidden.invariant.here.1);
      spare = omega (arith, s, s');
      kept = (c.hidden.invariant.kept.0, c.drop_version.ensures.kept.1);
    }

pub returns-clause-versions : goal.returns-clause-versions
returns-clause-versions c =
    sym (none_dropped c.args.below.0 c.args.key c.hidden.store.versions (sym c.hidden.invariant.next ∙ c.in_default.is)) ∙ c.hidden.invariant.pruned
