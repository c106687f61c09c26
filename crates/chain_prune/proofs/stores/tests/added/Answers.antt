use Rattle.std.proofs.Common.{Bool, List, [], false, if◌then◌else◌, subst, sym, true, ℕ, ◌+◌, ◌<◌, ◌∷◌}
use Rattle.str_base.specs.declared.names.Version.{Version}
use Rattle.str_model.specs.Pruning.{hides, pruned_versions}
use Rattle.version_chain.specs.ChainLists.{Each}
use Rattle.chain_prune.specs.Hidden.{IsKeyBelow}
use Rattle.chain_prune.proofs.stores.tests.added.Goals as goal

each_pruned : (P : Version → Type 0) (g : ℕ) (vs : List Version) → Each P vs → Each P (pruned_versions g vs)
each_pruned P g [] e = tt
each_pruned P g (v ∷ vs) e = by_hidden (hides g v vs) (each_pruned P g vs e.1)
  where
    by_hidden : (b : Bool) → Each P (pruned_versions g vs) → Each P (if b then pruned_versions g vs else v ∷ pruned_versions g vs)
    by_hidden true rec = rec
    by_hidden false rec = (e.0, rec)

pub returns-clause-keys : goal.returns-clause-keys
returns-clause-keys c = subst (Each (IsKeyBelow 2)) (sym c.prune.ensures.versions) (each_pruned (IsKeyBelow 2) c.args.below _ c.put.ensures.keys)

pub returns-clause-earlier : goal.returns-clause-earlier
returns-clause-earlier c =
    subst (Each (λ v. v.tx.seq < c.args.seq + 1)) (sym c.prune.ensures.versions) (each_pruned (λ v. v.tx.seq < c.args.seq + 1) c.args.below _ c.put.ensures.earlier)
