-- All versions, and those of them that are undecided.
use Rattle.std.specs.Prelude.{List, filter, ℕ, ◌≡◌, ◌≤◌}
use Rattle.str_base.specs.declared.names.Version.{Version}
use Rattle.str_base.specs.Versions.{is_undecided}
use Rattle.version_chain.specs.ChainLists.{ChainList, IsOrdered}

-- the undecided ones of a list
abbrev pub undecided_of : List Version → List Version
undecided_of vs = filter (λ v. is_undecided v.kind) vs

-- the second list has the undecided ones of the first, and both have the room that is told
pub record AreChains (all few : ChainList) (spare : ℕ) : Type 0 where
  pub order : IsOrdered all.versions
  pub undecided : few.versions ≡ undecided_of all.versions
  pub room : spare ≤ all.spare
  pub few_room : spare ≤ few.spare
