-- Places are one where the test says so.
use Rattle.std.proofs.Common.{ap, eq-eqb, eqb-true, true, ◌==◌, ◌≡◌}
use Rattle.std.proofs.lemmas.Bool.{and_from, and_parts}
use Rattle.str_scene.specs.Places.{same_place}
use Rattle.str_scene.specs.declared.names.TxPlace.{TxPlace}

pub same_place-is : (p q : TxPlace) → same_place p q ≡ true → p ≡ q
same_place-is p q e =
    let both = and_parts (p.session.0 == q.session.0) (p.index == q.index) e in
    let s = eqb-true p.session.0 q.session.0 both.0 in
    let i = eqb-true p.index q.index both.1 in
    λ j. record { session = record { 0 = s j }; index = i j }

pub is-same_place : (p q : TxPlace) → p ≡ q → same_place p q ≡ true
is-same_place p q e = and_from (p.session.0 == q.session.0) (p.index == q.index) (eq-eqb p.session.0 q.session.0 (ap (λ z. z.session.0) e)) (eq-eqb p.index q.index (ap (λ z. z.index) e))
