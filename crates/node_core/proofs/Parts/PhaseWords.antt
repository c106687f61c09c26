-- A phase is known by what it is in the words of the model.
use Rattle.std.proofs.Common.{ap, refl, ℕ, ◌≡◌}
use Rattle.node_parts.specs.declared.phases.Phase.{Phase}
use Rattle.node_parts.specs.declared.phases.Phase.TheVariants.{Aborted, Active, CertWait, Closing, Committed, Global, Local, ReadWait, Remote, Reply}
use Rattle.node_parts.specs.Phases.{phase_of}
use Rattle.str_base.specs.declared.names.KeyId.{KeyId}
use Rattle.str_base.specs.declared.names.Ts.{Ts}
use Rattle.str_model.specs.Views

pub is_active : (p : Phase) → phase_of p ≡ Views.Active → p ≡ Active
is_active Active e = refl
is_active (ReadWait k) e = absurd (cc e)
is_active (Remote k) e = absurd (cc e)
is_active (Reply k v by fc) e = absurd (cc e)
is_active CertWait e = absurd (cc e)
is_active (Closing w) e = absurd (cc e)
is_active (Local lc) e = absurd (cc e)
is_active (Global lc) e = absurd (cc e)
is_active (Committed lc fc) e = absurd (cc e)
is_active (Aborted lc c) e = absurd (cc e)

pub is_remote : (p : Phase) (k : KeyId) → phase_of p ≡ Views.Remote k → p ≡ Remote k
is_remote (Remote l) k e = let q : l ≡ k = cc e in ap (λ z. Remote z) q
is_remote Active k e = absurd (cc e)
is_remote (ReadWait l) k e = absurd (cc e)
is_remote (Reply l v by fc) k e = absurd (cc e)
is_remote CertWait k e = absurd (cc e)
is_remote (Closing w) k e = absurd (cc e)
is_remote (Local lc) k e = absurd (cc e)
is_remote (Global lc) k e = absurd (cc e)
is_remote (Committed lc fc) k e = absurd (cc e)
is_remote (Aborted lc c) k e = absurd (cc e)

pub is_global : (p : Phase) (lc : ℕ) → phase_of p ≡ Views.Global lc → (t : Ts) × (p ≡ Global t)
is_global (Global t) lc e = (t, refl)
is_global Active lc e = absurd (cc e)
is_global (ReadWait l) lc e = absurd (cc e)
is_global (Remote l) lc e = absurd (cc e)
is_global (Reply l v by fc) lc e = absurd (cc e)
is_global CertWait lc e = absurd (cc e)
is_global (Closing w) lc e = absurd (cc e)
is_global (Local t) lc e = absurd (cc e)
is_global (Committed m fc) lc e = absurd (cc e)
is_global (Aborted m c) lc e = absurd (cc e)
