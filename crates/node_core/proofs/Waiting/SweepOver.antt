-- Those who wait, one after the other, and those who go on waiting stay where they are.
use Rattle.std.proofs.Common.{Bool, List, Some, [], ap, arith, drop, false, length, length-append, refl, remove, slice_get, subst, suc, sym, take, true, zero, ℕ, ◌++◌, ◌+◌, ◌∙◌, ◌∷◌, ◌≡◌, ◌≤◌, ◌⊎◌, inl, inr, length-drop}
use Rattle.std.proofs.lemmas.List.{length-take-le}
use Rattle.std.proofs.lemmas.Option.{slice_get_within}
use Rattle.node_core.proofs.Whole.Growing.{Grows, grows_along}
use Rattle.node_core.proofs.PassTurns.OwnMoments.{any_input}
use Rattle.node_core.specs.Waiting.{is_staying, judged, served, tried, turn_of}
use Rattle.str_base.proofs.Lists.{drop_there}
use Rattle.str_model.specs.declared.messages.Waiter.{Waiter}
use Rattle.str_model.specs.declared.messages.Waiter.TheVariants.{Held, Read}
use Rattle.str_model.specs.Proposals
use Rattle.str_model.specs.Proposals.{MasterTurn, master_turn}
use Rattle.str_model.specs.Turns
use Rattle.str_model.specs.Turns.{ServeTurn, serve_turn}
use Rattle.str_model.specs.Views.{Doing}
use Rattle.str_model.specs.Waiters.{wait_turns, waiter_held, waiter_read, waiter_turn}
use Rattle.str_model.proofs.Principle.SingleChanges.{InWait, Path}
use Rattle.str_model.proofs.Principle.StepPaths.{Waited, wait_turns-path, waiter_turn-waited}
use Rattle.str_scene.specs.Scenes.{Here}

-- what is before, at and after a place
pub parted : {A : Type 0} (xs : List A) (j : ℕ) (x : A) → slice_get xs j ≡ Some x → xs ≡ take j xs ++ x ∷ drop (j + 1) xs
parted [] j x e = absurd (cc e)
parted (y ∷ xs) zero x e = let q : y ≡ x = cc e in ap (λ z. z ∷ xs) q
parted (y ∷ xs) (suc j) x e =
    let q : suc (j + 1) ≡ suc j + 1 = omega arith in
    subst (λ n. y ∷ xs ≡ y ∷ take j xs ++ x ∷ drop n (y ∷ xs)) q (ap (λ ys. y ∷ ys) (parted xs j x e))

pub removed : {A : Type 0} (xs : List A) (j : ℕ) (x : A) → slice_get xs j ≡ Some x → remove xs j ≡ take j xs ++ drop (j + 1) xs
removed [] j x e = absurd (cc e)
removed (y ∷ xs) zero x e = refl
removed (y ∷ xs) (suc j) x e =
    let q : suc (j + 1) ≡ suc j + 1 = omega arith in
    subst (λ n. y ∷ remove xs j ≡ y ∷ take j xs ++ drop n (y ∷ xs)) q (ap (λ ys. y ∷ ys) (removed xs j x e))

pub take_next : {A : Type 0} (xs : List A) (j : ℕ) (x : A) → slice_get xs j ≡ Some x → take (j + 1) xs ≡ take j xs ++ x ∷ []
take_next [] j x e = absurd (cc e)
take_next (y ∷ xs) zero x e = let q : y ≡ x = cc e in ap (λ z. z ∷ []) q
take_next (y ∷ xs) (suc j) x e =
    let q : suc (j + 1) ≡ suc j + 1 = omega arith in
    subst (λ n. take n (y ∷ xs) ≡ y ∷ take j xs ++ x ∷ []) q (ap (λ ys. y ∷ ys) (take_next xs j x e))

-- of a front and what follows it, the front and the rest
take_front : {A : Type 0} (n : ℕ) (xs ys zs : List A) → n ≤ length xs → ys ≡ take n xs ++ zs → (take n ys ≡ take n xs) × (drop n ys ≡ zs)
take_front zero xs ys zs le e = (refl, e)
take_front (suc n) [] ys zs le e = absurd (omega (arith, le))
take_front (suc n) (x ∷ xs) [] zs le e = absurd (cc e)
take_front (suc n) (x ∷ xs) (y ∷ ys) zs le e =
    let q : y ≡ x = cc e in
    let r = take_front n xs ys zs (omega (arith, le)) (cc e) in (cc (q, r.0), r.1)

-- ---- one who waits

-- it goes on waiting exactly where that is what it comes to, and then nothing is done
kept_is : (here : Here) (kept rest : List Waiter) (w : Waiter) (d : Doing) (b : Bool) → is_staying (turn_of d.view w) ≡ b
    → ((b ≡ true) × ((waiter_turn here kept rest w d).0 ≡ kept ++ w ∷ []) × ((waiter_turn here kept rest w d).1 ≡ d)) ⊎ ((b ≡ false) × ((waiter_turn here kept rest w d).0 ≡ kept))
kept_is here kept rest (Read tx k rs) d b = by_turn (serve_turn d.view.versions k rs.0)
  where
    by_turn : (t : ServeTurn) → is_staying (served t) ≡ b
        → ((b ≡ true) × ((waiter_read here kept rest tx k rs t d).0 ≡ kept ++ Read tx k rs ∷ []) × ((waiter_read here kept rest tx k rs t d).1 ≡ d)) ⊎ ((b ≡ false) × ((waiter_read here kept rest tx k rs t d).0 ≡ kept))
    by_turn (Turns.Give v by fc) e = inr (sym e, refl)
    by_turn (Turns.ServeWait by) e = inl (sym e, refl, refl)
kept_is here kept rest (Held a) d b = by_turn (master_turn d.view a)
  where
    by_turn : (t : MasterTurn) → is_staying (judged t) ≡ b
        → ((b ≡ true) × ((waiter_held here kept rest a t d).0 ≡ kept ++ Held a ∷ []) × ((waiter_held here kept rest a t d).1 ≡ d)) ⊎ ((b ≡ false) × ((waiter_held here kept rest a t d).0 ≡ kept))
    by_turn (Proposals.Accept ts) e = inr (sym e, refl)
    by_turn (Proposals.Refuse by k) e = inr (sym e, refl)
    by_turn (Proposals.Park by) e = inl (sym e, refl, refl)
    by_turn Proposals.Ignore e = inl (sym e, refl, refl)

-- where the sweep stands, once those before a place were tried again
abbrev pub sweep_from : Here → ℕ → Doing → Doing
sweep_from here j d = wait_turns here (take j d.view.waiters) (drop j d.view.waiters) d

-- the sweep goes on from the place k
pub record Swept (here : Here) (j k : ℕ) (d e : Doing) : Type 0 where
  pub path : Path here any_input InWait d e
  pub same : sweep_from here j d ≡ sweep_from here k e
  pub grows : Grows e (sweep_from here j d)
  pub count : length e.view.waiters + (j + 1) ≡ length d.view.waiters + k
  pub within : k ≤ length e.view.waiters

module _ (here : Here) (j : ℕ) (d : Doing) (w : Waiter) (e : slice_get d.view.waiters j ≡ Some w) where
  abbrev front : List Waiter
  front = take j d.view.waiters

  abbrev rest : List Waiter
  rest = drop (j + 1) d.view.waiters

  abbrev turned : List Waiter × Doing
  turned = waiter_turn here front rest w d

  waited : Waited here any_input InWait d rest turned
  waited = waiter_turn-waited here any_input InWait front rest w d (parted d.view.waiters j w e)

  start : sweep_from here j d ≡ wait_turns here turned.0 rest turned.1
  start =
      let q : suc j ≡ j + 1 = omega arith in
      ap (λ ws. wait_turns here front ws d) (drop_there d.view.waiters j w e ∙ ap (λ n. w ∷ drop n d.view.waiters) q)

  ends_at : (k : ℕ) → take k turned.1.view.waiters ≡ turned.0 → drop k turned.1.view.waiters ≡ rest → length turned.1.view.waiters + (j + 1) ≡ length d.view.waiters + k → k ≤ length turned.1.view.waiters
      → Swept here j k d turned.1
  ends_at k t r l m = record {
    path = waited.path;
    same = start ∙ sym (ap (λ z. wait_turns here z (drop k turned.1.view.waiters) turned.1) t ∙ ap (λ z. wait_turns here turned.0 z turned.1) r);
    grows = subst (Grows turned.1) (sym start) (grows_along here any_input InWait turned.1 (wait_turns here turned.0 rest turned.1) (wait_turns-path here any_input InWait turned.0 rest turned.1 waited.same));
    count = l;
    within = m;
  }

  pub swept_stays : is_staying (turn_of d.view w) ≡ true → Swept here j (j + 1) d (tried here j w d)
  swept_stays q = elim (kept_is here front rest w d true q) [
    | inl h ↦ (let same : turned.1.view.waiters ≡ d.view.waiters = ap (λ (z : Doing). z.view.waiters) h.2 in
        let l = slice_get_within d.view.waiters j w e in
        ends_at (j + 1) (ap (λ ws. take (j + 1) ws) same ∙ (take_next d.view.waiters j w e ∙ sym h.1)) (ap (λ ws. drop (j + 1) ws) same)
        (let n = ap length same in omega (arith, n, l)) (let n = ap length same in omega (arith, n, l)))
    | inr h ↦ absurd (cc h.0)
  ]

  pub swept_leaves : is_staying (turn_of d.view w) ≡ false → Swept here j j d (tried here j w d)
  swept_leaves q = elim (kept_is here front rest w d false q) [
    | inl h ↦ absurd (cc h.0)
    | inr h ↦ (let l = slice_get_within d.view.waiters j w e in
        let same : turned.1.view.waiters ≡ front ++ rest = waited.same ∙ ap (λ ws. ws ++ rest) h.1 in
        let f = take_front j d.view.waiters turned.1.view.waiters rest (omega (arith, l)) same in
        let n : length turned.1.view.waiters ≡ length front + length rest = ap length same ∙ length-append front rest in
        let t : length front ≡ j = length-take-le j d.view.waiters (omega (arith, l)) in
        let r = length-drop (j + 1) d.view.waiters in
        ends_at j (f.0 ∙ sym h.1) f.1 (omega (arith, n, t, r, l)) (omega (arith, n, t, r, l)))
  ]

-- the whole sweep, and its end
pub sweep_begins : (here : Here) (d : Doing) → wait_turns here [] d.view.waiters d ≡ sweep_from here 0 d
sweep_begins here d = refl

pub sweep_ends : (here : Here) (j : ℕ) (d : Doing) → length d.view.waiters ≤ j → sweep_from here j d ≡ d
sweep_ends here j d le = ap (λ ws. wait_turns here (take j d.view.waiters) ws d) (drop_past d.view.waiters j le)
  where
    drop_past : {A : Type 0} (xs : List A) (j : ℕ) → length xs ≤ j → drop j xs ≡ []
    drop_past [] zero le = refl
    drop_past [] (suc j) le = refl
    drop_past (x ∷ xs) zero le = absurd (omega (arith, le))
    drop_past (x ∷ xs) (suc j) le = drop_past xs j (omega (arith, le))
