-- The place of the last transaction of each session, after one change of the list.
use Rattle.std.proofs.Common.{Bool, List, None, Option, Some, [], ap, arith, eq-eqb, false, if◌then◌else◌, length, refl, slice_get, slice_set, suc, sym, true, zero, ℕ, ◌++◌, ◌+◌, ◌<◌, ◌==◌, ◌∙◌, ◌∷◌, ◌≡◌, ◌≤◌, inl, inr}
use Rattle.std.proofs.lemmas.Bool.{cases_eq, ne_eqb}
use Rattle.std.proofs.lemmas.List.{get_or-set_other, get_or-set_same, length-set}
use Rattle.std.specs.Prelude.{slice_index}
use Rattle.str_base.proofs.Lists.{got_push, got_set}
use Rattle.str_base.specs.declared.names.SessionId.{SessionId}
use Rattle.str_model.specs.Clients.{last_index, of_session}
use Rattle.str_model.specs.Views.{Own}
use Rattle.node_parts.specs.Owning.{AreLast, AreOfSessions, from_one}

-- what is last of a list with one more in front
abbrev last_step : Option ℕ → Bool → Option ℕ
last_step o b = elim o [ Some i ↦ Some (suc i) | None ↦ (if b then Some 0 else None) ]

-- another one that passes as before
pub last_same : {X : Type 0} (p : X → Bool) (xs : List X) (i : ℕ) (x y : X) → slice_get xs i ≡ Some x → p y ≡ p x → last_index p (slice_set xs i y) ≡ last_index p xs
last_same p [] i x y e t = refl
last_same p (z ∷ xs) zero x y e t = let is : z ≡ x = cc e in ap (last_step (last_index p xs)) (t ∙ ap p (sym is))
last_same p (z ∷ xs) (suc i) x y e t = ap (λ o. last_step o (p z)) (last_same p xs i x y e t)

-- one more that passes is the last
pub last_more : {X : Type 0} (p : X → Bool) (xs : List X) (y : X) → p y ≡ true → last_index p (xs ++ y ∷ []) ≡ Some (length xs)
last_more p [] y t = ap (last_step None) t
last_more p (x ∷ xs) y t = ap (λ o. last_step o (p x)) (last_more p xs y t)

-- one more that does not pass changes nothing
pub last_kept : {X : Type 0} (p : X → Bool) (xs : List X) (y : X) → p y ≡ false → last_index p (xs ++ y ∷ []) ≡ last_index p xs
last_kept p [] y t = ap (last_step None) t
last_kept p (x ∷ xs) y t = ap (λ o. last_step o (p x)) (last_kept p xs y t)

-- the last one is there
pub last_within : {X : Type 0} (p : X → Bool) (xs : List X) (i : ℕ) → last_index p xs ≡ Some i → i < length xs
last_within p [] i e = absurd (cc e)
last_within p (x ∷ xs) i e = by_rest (last_index p xs) (last_within p xs) e
  where
    by_test : (b : Bool) → last_step None b ≡ Some i → i < length (x ∷ xs)
    by_test true f = let z : 0 ≡ i = cc f in omega (arith, z)
    by_test false f = absurd (cc f)

    by_rest : (o : Option ℕ) → ((j : ℕ) → o ≡ Some j → j < length xs) → last_step o (p x) ≡ Some i → i < length (x ∷ xs)
    by_rest (Some j) h f = let z : suc j ≡ i = cc f in let l = h j refl in omega (arith, z, l)
    by_rest None h f = by_test (p x) f

-- where none passes, there is none
pub last_none : {X : Type 0} (p : X → Bool) (xs : List X) → ((i : ℕ) (x : X) → slice_get xs i ≡ Some x → p x ≡ false) → last_index p xs ≡ None
last_none p [] h = refl
last_none p (x ∷ xs) h = ap (λ o. last_step o (p x)) (last_none p xs (λ i y e. h (suc i) y e)) ∙ ap (last_step None) (h 0 x refl)

-- none is of a session past the last one
pub none_past : (n : ℕ) (own : List Own) (s : SessionId) → AreOfSessions n own → n ≤ s.0 → last_index (of_session s) own ≡ None
none_past n own s h l = last_none (of_session s) own (λ i x e. ne_eqb x.place.session.0 s.0 (λ q. let k = h i x e in omega (arith, k, q, l)))

-- a session with no place has no transaction
pub none_at_zero : (last : List ℕ) (own : List Own) (s : SessionId) → AreLast last own → s.0 < length last → slice_index last s.0 ≡ 0 → last_index (of_session s) own ≡ None
none_at_zero last own s h l e = by_last (last_index (of_session s) own) (sym (h s l) ∙ e)
  where
    by_last : (o : Option ℕ) → from_one o ≡ 0 → o ≡ None
    by_last None q = refl
    by_last (Some i) q = absurd (omega (arith, q))

-- one of the same session
pub are_last_set : (last : List ℕ) (own : List Own) (i : ℕ) (x y : Own) → AreLast last own → slice_get own i ≡ Some x → y.place ≡ x.place → AreLast last (slice_set own i y)
are_last_set last own i x y h e p s l =
    h s l ∙ ap from_one (sym (last_same (of_session s) own i x y e (ap (λ q. q.session.0 == s.0) p)))

-- one more, which is the last of its session
pub are_last_push : (last : List ℕ) (own : List Own) (y : Own) → AreLast last own → y.place.session.0 < length last
    → AreLast (slice_set last y.place.session.0 (length own + 1)) (own ++ y ∷ [])
are_last_push last own y h l s b =
    let next : length own + 1 ≡ suc (length own) = omega arith in
    let within : s.0 < length last = omega (arith, b, length-set last y.place.session.0 (length own + 1)) in
    elim (cases_eq y.place.session.0 s.0) [
      | inl e ↦
          ap (λ m. slice_index (slice_set last y.place.session.0 (length own + 1)) m) (sym e)
          ∙ (get_or-set_same last y.place.session.0 (length own + 1) 0 l
          ∙ (next
          ∙ ap from_one (sym (last_more (of_session s) own y (eq-eqb y.place.session.0 s.0 e)))))
      | inr n ↦
          get_or-set_other last y.place.session.0 s.0 (length own + 1) 0 (λ e. n (sym e))
          ∙ (h s within ∙ ap from_one (sym (last_kept (of_session s) own y (ne_eqb y.place.session.0 s.0 n))))
    ]

-- each is of one of the sessions: another one of the same
pub of_sessions_set : (n : ℕ) (own : List Own) (i : ℕ) (x y : Own) → AreOfSessions n own → slice_get own i ≡ Some x → y.place ≡ x.place → AreOfSessions n (slice_set own i y)
of_sessions_set n own i x y h e p j z g =
    elim (got_set own i j y z g) [
      | inl a ↦ (let q : z.place.session.0 ≡ x.place.session.0 = ap (λ (w : Own). w.place.session.0) a.1 ∙ ap (λ w. w.session.0) p in
          let l = h i x e in omega (arith, q, l))
      | inr a ↦ h j z a.1
    ]

-- and one more
pub of_sessions_push : (n : ℕ) (own : List Own) (y : Own) → AreOfSessions n own → y.place.session.0 < n → AreOfSessions n (own ++ y ∷ [])
of_sessions_push n own y h l j z g =
    elim (got_push own j y z g) [
      | inl a ↦ (let q : z.place.session.0 ≡ y.place.session.0 = ap (λ (w : Own). w.place.session.0) a.1 in omega (arith, q, l))
      | inr a ↦ h j z a
    ]
