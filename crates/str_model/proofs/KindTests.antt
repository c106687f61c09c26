-- What the tests of a kind tell.
use Rattle.std.proofs.Common.{false, refl, true, ◌≡◌}
use Rattle.str_base.specs.declared.names.Kind.{Kind}
use Rattle.str_base.specs.declared.names.Kind.TheVariants.{Final, Local as LocalKind, Pre}
use Rattle.str_base.specs.Versions.{is_local, is_pre, is_undecided}

pub local_kind : (kind : Kind) → is_local kind ≡ true → kind ≡ LocalKind
local_kind LocalKind e = refl
local_kind Pre e = absurd (cc e)
local_kind Final e = absurd (cc e)

pub pre_kind : (kind : Kind) → is_pre kind ≡ true → kind ≡ Pre
pre_kind Pre e = refl
pre_kind LocalKind e = absurd (cc e)
pre_kind Final e = absurd (cc e)

-- what is decided is Final
pub final_kind : (kind : Kind) → is_undecided kind ≡ false → kind ≡ Final
final_kind Final e = refl
final_kind Pre e = absurd (cc e)
final_kind LocalKind e = absurd (cc e)
