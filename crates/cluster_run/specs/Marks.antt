-- What contracts see of the low marks that messages carry and that nodes have heard.
use Rattle.cluster_run.specs.declared.marks.Told.{Told}
use Rattle.std.specs.Prelude.{List, None, Option, Some, max, slice_index, slice_set, ℕ}

-- the marks in order of the messages, and space for so many more
pub record CarriedState : Type 0 where
  pub marks : List ℕ
  pub spare : ℕ

-- the row with what a message told, where it is more than was heard of its sender
abbrev pub hearing : Option Told → List ℕ → List ℕ
hearing None row = row
hearing (Some t) row = slice_set row t.place (max (slice_index row t.place) t.mark.0)
