use Rattle.std.proofs.Common.{List, Option, ap, arith, drop, refl, subst, suc, sym, ℕ, ◌-◌, ◌∙◌, ◌≡◌}
use Rattle.std.proofs.Math.Seq.{drop-length}
use Rattle.std.specs.List.{slice_get}
use Rattle.str_base.specs.declared.names.Version.{Version}
use Rattle.chain_prune.specs.Hidden.{pruned_among, pruned_at}
use Rattle.chain_prune.specs.SeenAlike.{SeenAlike}
use Rattle.chain_prune.proofs.ByKeys.{all_places, counted_more, next_place, no_key}
use Rattle.chain_prune.proofs.SameSeen.{seen_alike}
use Rattle.chain_prune.proofs.stores.prune.Goals as goal

pub loop-place-init : goal.loop-place-init
loop-place-init c =
    let g = c.args.below.0 in
    let vs = c.args.store.now.versions in
    let crowd = c.args.store.now.crowd in
    record {
      versions = sym (ap (λ (n : ℕ). pruned_among (drop n crowd) g vs) c.crowd_len-place.ensures.value ∙ (ap (λ (ns : List ℕ). pruned_among ns g vs) (drop-length crowd) ∙ no_key g vs));
      crowd = λ i h. refl;
      count = λ h. omega arith;
      here = (refl, refl);
      spare = omega arith;
    }

pub loop-place-preserved : goal.loop-place-preserved
loop-place-preserved c =
    let g = c.args.below.0 in
    let vs = c.args.store.now.versions in
    let crowd = c.args.store.now.crowd in
    let place = c.loop-place.place - 1 in
    let i = c.loop-place.invariant in
    let p = c.prune_crowded.ensures in
    let more = c.loop-place-test.true in
    let next : c.loop-place.place ≡ suc place = omega (arith, more) in
    let s = i.spare in
    let s' = p.spare in
    record {
      versions =
          p.versions ∙ ap (λ (o : Option ℕ). pruned_at o g c.loop-place.store.versions) (i.crowd place (omega (arith, more)))
          ∙ ap (λ (xs : List Version). pruned_at (slice_get crowd place) g xs) (i.versions ∙ ap (λ (n : ℕ). pruned_among (drop n crowd) g vs) next)
          ∙ next_place crowd place g vs;
      crowd = λ j h. p.crowd j h ∙ i.crowd j (omega (arith, h, more));
      count = λ h. counted_more c.loop-place.dropped c.prune_crowded.result _ _ _ c.saturating_add-dropped.result c.saturating_add-dropped.ensures (i.count h) p.count h;
      here = (p.here.0 ∙ i.here.0, p.here.1 ∙ i.here.1);
      spare = omega (arith, s, s');
    }

pub returns-clause-versions : goal.returns-clause-versions
returns-clause-versions c =
    all_places c.args.store.now.crowd c.loop-place.place c.args.below.0 c.args.store.now.versions _ c.loop-place-test.false c.loop-place.invariant.versions c.crowd_len-place.ensures.noted

pub returns-clause-seen : goal.returns-clause-seen
returns-clause-seen c =
    let g = c.args.below.0 in
    let vs = c.args.store.now.versions in
    let all = all_places c.args.store.now.crowd c.loop-place.place g vs c.loop-place.store.versions c.loop-place-test.false c.loop-place.invariant.versions c.crowd_len-place.ensures.noted in
    subst (λ (xs : List Version). SeenAlike g vs xs) (sym all) (seen_alike g vs c.crowd_len-place.ensures.kept.0)
