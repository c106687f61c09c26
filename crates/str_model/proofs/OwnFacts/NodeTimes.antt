-- The times at a node at each change.
use Rattle.std.proofs.Common.{Some, ap, arith, inl, inr, length, subst, sym, ℕ, ◌∙◌, ◌≡◌, ◌≢◌, ◌≤◌, ◌⊎◌}
use Rattle.std.proofs.lemmas.Option.{slice_get_within}
use Rattle.str_model.specs.Acts.{fresh}
use Rattle.str_model.specs.Owned.{AreTimed, IsTimed, Owns}
use Rattle.str_model.specs.Runs.{opening_view}
use Rattle.str_scene.specs.Scenes.{Scene}
use Rattle.str_model.specs.Views.{Own, View, is_decided, lc_of}
use Rattle.str_model.proofs.Changes.OwnChanges.{Becomes, OwnStep, aborts, certifies, closes, commits, goes_on, rests, starts_one, turns_one}
use Rattle.str_base.proofs.Lists.{got_push, got_set}

pub higher : (f g : ℕ) (x : Own) → f ≤ g → IsTimed f x → IsTimed g x
higher f g x le t =
    record { rs = omega (arith, t.rs); lc = λ lc e. ((t.lc lc e).0, omega (arith, (t.lc lc e).1)); fc = λ l fc e. let k = t.fc l fc e in (k.0, k.1, k.2, omega (arith, k.3)); without_fc = t.without_fc }

pub becomes-higher : (v : View) (f g : ℕ) (x y : Own) → Becomes v f g x y → f ≤ g
becomes-higher v f g x y (goes_on r e) = omega arith
becomes-higher v f g x y (certifies lc o n p q s l e) = omega arith
becomes-higher v f g x y (commits lc fc o l le q e) = omega arith
becomes-higher v f g x y (closes o n q e) = omega arith
becomes-higher v f g x y (aborts cause o q e) = omega arith

pub becomes-rs : (v : View) (f g : ℕ) (x y : Own) → Becomes v f g x y → y.snap.rs ≡ x.snap.rs
becomes-rs v f g x y (goes_on r e) = r.snap.rs
becomes-rs v f g x y (certifies lc o n p q s l e) = s.rs
becomes-rs v f g x y (commits lc fc o l le q e) = ap (λ z. z.snap.rs) q
becomes-rs v f g x y (closes o n q e) = ap (λ z. z.snap.rs) q
becomes-rs v f g x y (aborts cause o q e) = ap (λ z. z.snap.rs) q

pub becomes-timed : (v : View) (f g : ℕ) (x y : Own) → Becomes v f g x y → IsTimed f x → IsTimed g y
becomes-timed v f g x y (goes_on r e) t =
    record {
      rs = omega (arith, t.rs, r.snap.rs);
      lc = λ lc h. let k = t.lc lc (sym r.same_lc ∙ h) in (omega (arith, k.0, r.snap.rs), omega (arith, k.1));
      fc = λ l fc h. absurd (cc (ap is_decided h, r.is_open));
      without_fc = λ l h. absurd (cc (ap is_decided h, r.is_open));
    }
becomes-timed v f g x y (certifies lc o n p q s l e) t =
    record {
      rs = omega (arith, t.rs, s.rs);
      lc = λ m h. let same : Some lc ≡ Some m = sym (ap lc_of p) ∙ h in let is : lc ≡ m = cc same in (omega (arith, s.rs), omega arith);
      fc = λ l fc h. absurd (cc (sym p ∙ h));
      without_fc = λ l h. absurd (cc (sym p ∙ h));
    }
becomes-timed v f g x y (commits lc fc o l le q e) t =
    subst (IsTimed g) (sym q) (record {
      rs = omega (arith, t.rs);
      lc = λ m h. let is : lc ≡ m = cc h in let k = t.lc lc l in (omega (arith, is, k.0), omega (arith, is, k.1));
      fc = λ o m h. let is : fc ≡ m = cc h in let same : o ≡ Some lc = cc h in (lc, same, omega arith, omega arith);
      without_fc = λ o h. absurd (cc h);
    })
becomes-timed v f g x y (closes o n q e) t =
    subst (IsTimed g) (sym q) (record { rs = omega (arith, t.rs); lc = λ m h. absurd (cc h); fc = λ l m h. absurd (cc h); without_fc = λ l h. cc h })
becomes-timed v f g x y (aborts cause o q e) t =
    subst (IsTimed g) (sym q) (record { rs = omega (arith, t.rs); lc = λ m h. let k = t.lc m h in (k.0, omega (arith, k.1)); fc = λ l m h. absurd (cc h); without_fc = λ l h. absurd (cc h) })

pub timed-step : (d e : View) → OwnStep d e → AreTimed d → AreTimed e
timed-step d e (rests o f) t =
    record {
      each = λ i x h. rw f (t.each i x (rw (← o) h));
      rising = λ i j x y le h k. t.rising i j x y le (rw (← o) h) (rw (← o) k);
    }
timed-step d e (starts_one place rs le o f) t =
    record {
      each = λ i x h. elim (got_push d.own i (fresh place rs) x (rw (← o) h)) [
        | inl p ↦ subst (IsTimed e.floor) (sym p.1) (record { rs = omega arith; lc = λ m q. absurd (cc q); fc = λ l m q. absurd (cc q); without_fc = λ l q. absurd (cc q) })
        | inr q ↦ higher d.floor e.floor x (omega arith) (t.each i x q)
      ];
      rising = λ i j x y less h k. rising_push i j x y less (got_push d.own i (fresh place rs) x (rw (← o) h)) (got_push d.own j (fresh place rs) y (rw (← o) k));
    }
  where
    rising_push : (i j : ℕ) (x y : Own) → i ≤ j → ((i ≡ length d.own) × (x ≡ fresh place rs)) ⊎ Owns d i x
        → ((j ≡ length d.own) × (y ≡ fresh place rs)) ⊎ Owns d j y → x.snap.rs ≤ y.snap.rs
    rising_push i j x y less (inl p) (inl q) = omega (arith, ap (λ z. z.snap.rs) p.1, ap (λ z. z.snap.rs) q.1)
    rising_push i j x y less (inl p) (inr q) = absurd (omega (arith, p.0, slice_get_within d.own j y q))
    rising_push i j x y less (inr p) (inl q) = omega (arith, (t.each i x p).rs, ap (λ z. z.snap.rs) q.1)
    rising_push i j x y less (inr p) (inr q) = t.rising i j x y less p q
timed-step d e (turns_one n x' y' own o b) t =
    record {
      each = λ i x h. elim (got_set d.own n i y' x (rw (← o) h)) [
        | inl p ↦ subst (IsTimed e.floor) (sym p.1) (becomes-timed d d.floor e.floor x' y' b (t.each n x' own))
        | inr q ↦ higher d.floor e.floor x (becomes-higher d d.floor e.floor x' y' b) (t.each i x q.1)
      ];
      rising = λ i j x y less h k. rising_set i j x y less (got_set d.own n i y' x (rw (← o) h)) (got_set d.own n j y' y (rw (← o) k));
    }
  where
    same : y'.snap.rs ≡ x'.snap.rs
    same = becomes-rs d d.floor e.floor x' y' b

    rising_set : (i j : ℕ) (x y : Own) → i ≤ j → ((i ≡ n) × (x ≡ y')) ⊎ ((i ≢ n) × Owns d i x) → ((j ≡ n) × (y ≡ y')) ⊎ ((j ≢ n) × Owns d j y) → x.snap.rs ≤ y.snap.rs
    rising_set i j x y less (inl p) (inl q) = omega (arith, ap (λ z. z.snap.rs) p.1, ap (λ z. z.snap.rs) q.1)
    rising_set i j x y less (inl p) (inr q) =
        omega (arith, ap (λ z. z.snap.rs) p.1, same, t.rising n j x' y (omega (arith, p.0)) own q.1)
    rising_set i j x y less (inr p) (inl q) =
        omega (arith, ap (λ z. z.snap.rs) q.1, same, t.rising i n x x' (omega (arith, q.0)) p.1 own)
    rising_set i j x y less (inr p) (inr q) = t.rising i j x y less p.1 q.1

pub timed_opening : (scene : Scene) → AreTimed (opening_view scene)
timed_opening scene = record { each = λ i x h. absurd cc; rising = λ i j x y le h k. absurd (cc h) }
