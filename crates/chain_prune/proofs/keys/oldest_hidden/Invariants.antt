use Rattle.std.proofs.Common.{IfSome, length, ◌-◌, ◌≡◌}
use Rattle.str_base.specs.Versions.{chain}
use Rattle.chain_prune.proofs.Searching.{Finds}
use Rattle.chain_prune.proofs.keys.oldest_hidden.Given as goal

-- the Final version before this place, with those from there on, finds the first hidden one
abbrev pub invariant-versions : goal.invariant-versions
invariant-versions l = record {
  rest : Finds l.below.0 l.key l.store.versions l.place l.oldest;
  key : IfSome l.oldest (λ f. f.key ≡ l.key);
}

abbrev pub decreases-versions : goal.decreases-versions
decreases-versions l = length (chain l.key l.store.versions) - l.place
