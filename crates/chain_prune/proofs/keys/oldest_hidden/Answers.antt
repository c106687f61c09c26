use Rattle.std.proofs.Common.{IfSome, Option, arith, subst, sym, ◌+◌, ◌∙◌, ◌≡◌}
use Rattle.std.proofs.lemmas.Grind.{common_steps}
use Rattle.std.proofs.lemmas.Map.Keys.{le_from_not_gt}
use Rattle.std.proofs.lemmas.Option.{slice_get_within}
use Rattle.str_base.specs.declared.names.Version.{Version}
use Rattle.str_base.specs.Versions.{chain}
use Rattle.chain_prune.proofs.Searching.{Finds, key_at, next_final, next_open, none_above, none_left, second_final}
use Rattle.chain_prune.proofs.keys.oldest_hidden.Goals as goal
use Rattle.chain_prune.proofs.keys.oldest_hidden.Goals.{then-is_final+else-is_some, else-is_final}

pub returns-then-gt-clause-value : goal.returns-then-gt-clause-value
returns-then-gt-clause-value c =
    none_above c.args.below.0 c.args.key c.args.store.now.versions c.versions.place c.in-Some.version c.versions.oldest c.at.ensures.kept.0 (sym c.at.ensures.value ∙ c.in-Some.is) c.versions.invariant.rest
    (grind (arith, common_steps))

pub returns-then-is_some-clause-value : goal.returns-then-is_some-clause-value
returns-then-is_some-clause-value c =
    second_final c.args.below.0 c.args.key c.args.store.now.versions c.versions.place c.in-Some.version c.versions.oldest (sym c.at.ensures.value ∙ c.in-Some.is) c.versions.invariant.rest c.versions.invariant.key
    (sym c.is_some.ensures ∙ c.if-is_some.true) (sym c.is_final.ensures ∙ c.if-is_final.true) (le_from_not_gt c.in-Some.version.ts.0 c.args.below.0 (sym c.gt.ensures ∙ c.if-gt.false))

pub versions-smaller : goal.versions-smaller
versions-smaller c =
    let h = slice_get_within (chain c.args.key c.args.store.now.versions) c.versions.place c.in-Some.version (sym c.at.ensures.value ∙ c.in-Some.is) in
    omega (arith, h)

pub versions-preserved : goal.versions-preserved
versions-preserved c =
    let g = c.args.below.0 in
    let k = c.args.key in
    let vs = c.args.store.now.versions in
    let i = c.versions.place in
    let v = c.in-Some.version in
    let e = sym c.at.ensures.value ∙ c.in-Some.is in
    elim c.if-is_final.branch [
      | then-is_final+else-is_some w ↦ record {
        rest =
            subst (λ (o : Option Version). Finds g k vs (i + 1) o) (sym w.oldest-is)
            (next_final g k vs i v c.versions.oldest e c.versions.invariant.rest (sym w.is_some.ensures ∙ w.if-is_some.false) (sym c.is_final.ensures ∙ w.if-is_final.true));
        key = subst (λ (o : Option Version). IfSome o (λ f. f.key ≡ k)) (sym w.oldest-is) (key_at k vs i v e);
      }
      | else-is_final w ↦ record {
        rest =
            subst (λ (o : Option Version). Finds g k vs (i + 1) o) (sym w.oldest-is)
            (next_open g k vs i v c.versions.oldest e c.versions.invariant.rest (sym c.is_final.ensures ∙ w.if-is_final.false));
        key = subst (λ (o : Option Version). IfSome o (λ f. f.key ≡ k)) (sym w.oldest-is) c.versions.invariant.key;
      }
    ]

pub returns-clause-value : goal.returns-clause-value
returns-clause-value c = none_left c.args.below.0 c.args.key c.args.store.now.versions c.versions.place c.versions.oldest (sym c.at.ensures.value ∙ c.in_default.is) c.versions.invariant.rest
