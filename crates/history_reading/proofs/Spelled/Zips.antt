-- Two that are there, or one of them is not.
use Rattle.std.proofs.Common.{None, Option, Some, ap, inl, inr, refl, sym, ◌≡◌, ◌⊎◌}
use Rattle.std.proofs.lemmas.Option.{none-some, same_Some}
use Rattle.std.specs.Option.{IfSome, option_zip}
use Rattle.std.specs.Prelude.{Err, IfErr, Ok, OnOk, Result}

pub zip_some : {A B : Type 0} (o : Option A) (p : Option B) (a : A) (b : B) → option_zip o p ≡ Some (a, b) → (o ≡ Some a) × (p ≡ Some b)
zip_some None p a b e = absurd (none-some _ e)
zip_some (Some x) None a b e = absurd (none-some _ e)
zip_some {A} {B} (Some x) (Some y) a b e =
    let same : ◌≡◌ {A = A × B} (x, y) (a, b) = same_Some _ _ e in
    (ap (λ r. Some r.0) same, ap (λ r. Some r.1) same)

pub zip_none : {A B : Type 0} (o : Option A) (p : Option B) → option_zip o p ≡ None → (o ≡ None) ⊎ (p ≡ None)
zip_none None p e = inl refl
zip_none (Some x) None e = inr refl
zip_none (Some x) (Some y) e = absurd (none-some _ (sym e))

-- what holds of each value holds of the one that is there
pub if_some : {A : Type 0} {P Q : A → Type 0} (o : Option A) → ((a : A) → P a → Q a) → IfSome o P → IfSome o Q
if_some None f h = tt
if_some (Some a) f h = f a h

-- and of what is well, or is wrong
pub on_ok : {A F : Type 0} {P Q : Type 0} (r : Result A F) → (P → Q) → OnOk r P → OnOk r Q
on_ok (Ok a) f h = f h
on_ok (Err e) f h = tt

pub if_err : {A F : Type 0} {P Q : F → Type 0} (r : Result A F) → ((f : F) → P f → Q f) → IfErr r P → IfErr r Q
if_err (Ok a) f h = tt
if_err (Err e) f h = f e h
