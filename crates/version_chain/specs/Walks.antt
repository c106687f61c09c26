-- What a walk over the versions of a key is seen as.
use Rattle.std.specs.Prelude.{Bool, List, None, Option, Some, true, ℕ, ◌∷◌, ◌≡◌, ◌≤◌}
use Rattle.str_base.specs.declared.names.Kind.TheVariants.{Final}
use Rattle.str_base.specs.declared.names.Version.{Version}
use Rattle.str_base.specs.Versions.{is_before}

-- the versions before its place, and those after it, in order
pub record WalkView : Type 0 where
  pub older : List Version
  pub newer : List Version

-- a version before others, if there is one
abbrev pub with_version : Option Version → List Version → List Version
with_version None vs = vs
with_version (Some v) vs = v ∷ vs

-- the version is Final, and not above a timestamp
abbrev pub IsSettled : ℕ → Version → Type 0
IsSettled rs v = (v.kind ≡ Final) × (v.ts.0 ≤ rs)

-- the version stands before another, or there is no other
abbrev pub precedes : Version → Option Version → Bool
precedes v None = true
precedes v (Some w) = is_before v w
