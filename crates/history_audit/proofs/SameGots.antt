-- What the tests of one value and of one get say.
use Rattle.std.proofs.Common.{Decides, ap, eq-eqb, eqb-true, refl, ◌==◌, ◌≡◌}
use Rattle.std.proofs.lemmas.Bool.{and_from, and_parts}
use Rattle.std.proofs.lemmas.Bool.Decides.{Decides-int_eq}
use Rattle.str_base.specs.contracts.names.ValuePartialEq.TheImpl.{eq-value as value_test}
use Rattle.str_base.specs.declared.names.Value.{Value}
use Rattle.str_base.specs.declared.names.Value.TheVariants.{Absent, Num, Text}
use Rattle.str_model.specs.contracts.names.GotPartialEq.TheImpl.{eq-value as got_test}
use Rattle.str_model.specs.declared.names.Got.{Got}

same_value : (v w : Value) → Decides (value_test.it v w) (v ≡ w)
same_value Absent Absent = (λ e. refl, λ e. refl)
same_value Absent (Num n) = (λ e. absurd (cc e), λ e. absurd (cc e))
same_value Absent (Text t) = (λ e. absurd (cc e), λ e. absurd (cc e))
same_value (Num m) Absent = (λ e. absurd (cc e), λ e. absurd (cc e))
same_value (Num m) (Num n) = let d = Decides-int_eq m n in (λ e. ap Num (d.0 e), λ e. d.1 (cc e))
same_value (Num m) (Text t) = (λ e. absurd (cc e), λ e. absurd (cc e))
same_value (Text s) Absent = (λ e. absurd (cc e), λ e. absurd (cc e))
same_value (Text s) (Num n) = (λ e. absurd (cc e), λ e. absurd (cc e))
same_value (Text s) (Text t) = (λ e. λ i. Text (record { 0 = eqb-true s.0 t.0 e i }), λ e. (let q : s ≡ t = cc e in eq-eqb s.0 t.0 (ap (λ z. z.0) q)))

pub same_got : (a b : Got) → Decides (got_test.it a b) (a ≡ b)
same_got a b = (
  λ e. (let p = and_parts (a.key.0 == b.key.0) (value_test.it a.value b.value) e in λ i. record { key = record { 0 = eqb-true a.key.0 b.key.0 p.0 i }; value = (same_value a.value b.value).0 p.1 i }),
  λ e. and_from (a.key.0 == b.key.0) (value_test.it a.value b.value) (eq-eqb a.key.0 b.key.0 (ap (λ (z : Got). z.key.0) e)) ((same_value a.value b.value).1 (ap (λ (z : Got). z.value) e)),
)
