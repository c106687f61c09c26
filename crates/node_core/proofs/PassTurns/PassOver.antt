-- The pass over the undecided own transactions alone is the pass over all of them.
use Rattle.std.proofs.lemmas.Option.{get_or_from_slice_get, slice_get_within}
use Rattle.std.proofs.Common.{Bool, List, Some, [], ap, arith, false, if◌then◌else◌, inl, inr, length, refl, slice_get, slice_index_or, subst, suc, sym, take, true, zero, ℕ, ◌++◌, ◌+◌, ◌<◌, ◌∙◌, ◌∷◌, ◌≡◌, ◌≤◌, ◌⊎◌}
use Rattle.std.proofs.Math.Seq.{take-length, take-suc}
use Rattle.std.proofs.lemmas.List.{append-nil, length-take-le}
use Rattle.node_parts.specs.Owning.{open_from}
use Rattle.node_core.proofs.Whole.Growing.{Grows, grows_along, grows_self, grows_then}
use Rattle.node_core.proofs.PassTurns.OwnMoments.{any_input}
use Rattle.str_base.proofs.Lists.{slice_get_there}
use Rattle.str_model.specs.Pass.{pass_to, turn}
use Rattle.str_model.specs.Views.{Doing, Own, is_decided}
use Rattle.str_model.proofs.OwnFacts.TurnsBelow.{leaves}
use Rattle.str_model.proofs.Principle.SingleChanges.{InTurn, along}
use Rattle.str_model.proofs.Principle.StepPaths.{turn-path}
use Rattle.str_model.proofs.ViewFacts.QuietTurns.{turn_decided}
use Rattle.str_scene.specs.Scenes.{Here}

-- the turns at these places, one after the other
abbrev pub turns : Here → List ℕ → Doing → Doing
turns here [] d = d
turns here (p ∷ ps) d = turns here ps (turn here p d)

-- one more turn at the end
pub turns_more : (here : Here) (ps : List ℕ) (p : ℕ) (d : Doing) → turns here (ps ++ p ∷ []) d ≡ turn here p (turns here ps d)
turns_more here [] p d = refl
turns_more here (q ∷ ps) p d = turns_more here ps p (turn here q d)

-- the place of one more, where it is undecided
open_more : (m : ℕ) (xs : List Own) (x : Own) → open_from m (xs ++ x ∷ []) ≡ open_from m xs ++ (if is_decided x.phase then [] else (m + length xs) ∷ [])
open_more m [] x = by_test (is_decided x.phase)
  where
    by_test : (b : Bool) → (if b then [] else m ∷ []) ≡ (if b then [] else (m + 0) ∷ [])
    by_test true = refl
    by_test false = let e : m ≡ m + 0 = omega arith in ap (λ n. n ∷ []) e
open_more m (y ∷ xs) x = by_test (is_decided y.phase) (open_more (m + 1) xs x)
  where
    shifted : open_from (m + 1) (xs ++ x ∷ []) ≡ open_from (m + 1) xs ++ (if is_decided x.phase then [] else (m + 1 + length xs) ∷ [])
        → open_from (m + 1) (xs ++ x ∷ []) ≡ open_from (m + 1) xs ++ (if is_decided x.phase then [] else (m + suc (length xs)) ∷ [])
    shifted rec =
        let e : m + 1 + length xs ≡ m + suc (length xs) = omega arith in
        subst (λ n. open_from (m + 1) (xs ++ x ∷ []) ≡ open_from (m + 1) xs ++ (if is_decided x.phase then [] else n ∷ [])) e rec

    by_test : (b : Bool) → open_from (m + 1) (xs ++ x ∷ []) ≡ open_from (m + 1) xs ++ (if is_decided x.phase then [] else (m + 1 + length xs) ∷ [])
        → (if b then open_from (m + 1) (xs ++ x ∷ []) else m ∷ open_from (m + 1) (xs ++ x ∷ []))
        ≡ (if b then open_from (m + 1) xs else m ∷ open_from (m + 1) xs) ++ (if is_decided x.phase then [] else (m + suc (length xs)) ∷ [])
    by_test true rec = shifted rec
    by_test false rec = ap (λ ys. m ∷ ys) (shifted rec)

module _ (here : Here) where
  -- those at n and above are as they were
  pub pass_rests : (n j : ℕ) (d : Doing) → n ≤ j → slice_get (pass_to here n d).view.own j ≡ slice_get d.view.own j
  pass_rests zero j d le = refl
  pass_rests (suc i) j d le =
      let e : Doing = pass_to here i d in
      along here any_input (InTurn i) (λ z. slice_get z.view.own j ≡ slice_get e.view.own j)
      (λ a b act q. (leaves here any_input (InTurn i) a b (λ z. cc z) act).others j (λ t. omega (arith, t, le)) ∙ q) e (turn here i e) (turn-path here any_input (InTurn i) i e refl) refl
      ∙ pass_rests i j d (omega (arith, le))

  -- the turns of the undecided ones of the first n
  pub turns_to : (n : ℕ) (d : Doing) → n ≤ length d.view.own → turns here (open_from 0 (take n d.view.own)) d ≡ pass_to here n d
  turns_to zero d le = refl
  turns_to (suc n) d le =
      let s = slice_get_there d.view.own n (omega (arith, le)) in
      ap (λ ys. turns here (open_from 0 ys) d) (take-suc d.view.own n s.0 (slice_get_within d.view.own n s.0 s.1) ∙ ap (λ z. take n d.view.own ++ z ∷ []) (get_or_from_slice_get d.view.own n s.0 s.0 s.1))
      ∙ (ap (λ ys. turns here ys d) (open_more 0 (take n d.view.own) s.0)
      ∙ by_test s.0 s.1 (is_decided s.0.phase) refl (length-take-le n d.view.own (omega (arith, le))) (turns_to n d (omega (arith, le))))
    where
      by_test : (x : Own) → slice_get d.view.own n ≡ Some x → (b : Bool) → is_decided x.phase ≡ b → length (take n d.view.own) ≡ n
          → turns here (open_from 0 (take n d.view.own)) d ≡ pass_to here n d
          → turns here (open_from 0 (take n d.view.own) ++ (if b then [] else (0 + length (take n d.view.own)) ∷ [])) d ≡ turn here n (pass_to here n d)
      by_test x own true e len rec =
          ap (λ ys. turns here ys d) (append-nil (open_from 0 (take n d.view.own)))
          ∙ (rec ∙ sym (turn_decided here n (pass_to here n d) x (pass_rests n n d (omega arith) ∙ own) e))
      by_test x own false e len rec =
          turns_more here (open_from 0 (take n d.view.own)) (0 + length (take n d.view.own)) d
          ∙ (ap (λ p. turn here p (turns here (open_from 0 (take n d.view.own)) d)) (let q : 0 + length (take n d.view.own) ≡ n = omega (arith, len) in q) ∙ ap (λ z. turn here n z) rec)

  pub turns_all : (d : Doing) → turns here (open_from 0 d.view.own) d ≡ pass_to here (length d.view.own) d
  turns_all d = ap (λ ys. turns here (open_from 0 ys) d) (sym (take-length d.view.own)) ∙ turns_to (length d.view.own) d (omega arith)

  -- a pass never takes back
  pub pass_grows : (m n : ℕ) (d : Doing) → m ≤ n → Grows (pass_to here m d) (pass_to here n d)
  pass_grows m zero d le = let e : m ≡ 0 = omega (arith, le) in subst (λ k. Grows (pass_to here k d) d) (sym e) (grows_self d)
  pass_grows m (suc n) d le = by_order (order m n le) (λ k. pass_grows m n d k)
    where
      order : (m n : ℕ) → m ≤ suc n → (m ≤ n) ⊎ (m ≡ suc n)
      order m n le = grind arith

      by_order : (m ≤ n) ⊎ (m ≡ suc n) → (m ≤ n → Grows (pass_to here m d) (pass_to here n d)) → Grows (pass_to here m d) (pass_to here (suc n) d)
      by_order (inr e) rec = subst (λ k. Grows (pass_to here k d) (pass_to here (suc n) d)) (sym e) (grows_self (pass_to here (suc n) d))
      by_order (inl k) rec =
          grows_then (pass_to here m d) (pass_to here n d) (pass_to here (suc n) d) (rec k)
          (grows_along here any_input (InTurn n) (pass_to here n d) (turn here n (pass_to here n d)) (turn-path here any_input (InTurn n) n (pass_to here n d) refl))

-- what stands at a place within the list
pub got_index : {A : Type 0} (xs : List A) (k : ℕ) (d : A) → k < length xs → slice_get xs k ≡ Some (slice_index_or xs k d)
got_index [] k d l = absurd (omega (arith, l))
got_index (x ∷ xs) zero d l = refl
got_index (x ∷ xs) (suc k) d l = got_index xs k d (omega (arith, l))

-- an undecided one, and those before it
pub record AtOpen (m : ℕ) (own : List Own) (k p : ℕ) : Type 0 where
  pub place : ℕ
  pub is_place : p ≡ m + place
  pub before : take k (open_from m own) ≡ open_from m (take place own)
  pub owner : Own
  pub owns : slice_get own place ≡ Some owner
  pub open_ : is_decided owner.phase ≡ false

pub at_open : (m : ℕ) (own : List Own) (k p : ℕ) → slice_get (open_from m own) k ≡ Some p → AtOpen m own k p
at_open m [] k p e = absurd (cc e)
at_open m (x ∷ own) k p e = by_test (is_decided x.phase) refl k e (λ j. at_open (m + 1) own j p)
  where
    shut : (k : ℕ) → is_decided x.phase ≡ true → AtOpen (m + 1) own k p → AtOpen m (x ∷ own) k p
    shut k f r = record {
      place = suc r.place;
      is_place = (let q = r.is_place in omega (arith, q));
      before = subst (λ b. take k (if b then open_from (m + 1) own else m ∷ open_from (m + 1) own) ≡ (if b then open_from (m + 1) (take r.place own) else m ∷ open_from (m + 1) (take r.place own))) (sym f) r.before;
      owner = r.owner;
      owns = r.owns;
      open_ = r.open_;
    }

    here_it : is_decided x.phase ≡ false → m ≡ p → AtOpen m (x ∷ own) zero p
    here_it f q = record { place = zero; is_place = omega (arith, q); before = refl; owner = x; owns = refl; open_ = f }

    later : (k : ℕ) → is_decided x.phase ≡ false → AtOpen (m + 1) own k p → AtOpen m (x ∷ own) (suc k) p
    later k f r = record {
      place = suc r.place;
      is_place = (let q = r.is_place in omega (arith, q));
      before = subst (λ b. take (suc k) (if b then open_from (m + 1) own else m ∷ open_from (m + 1) own) ≡ (if b then open_from (m + 1) (take r.place own) else m ∷ open_from (m + 1) (take r.place own))) (sym f) (ap (λ ys. m ∷ ys) r.before);
      owner = r.owner;
      owns = r.owns;
      open_ = r.open_;
    }

    by_test : (b : Bool) → is_decided x.phase ≡ b → (k : ℕ) → slice_get (if b then open_from (m + 1) own else m ∷ open_from (m + 1) own) k ≡ Some p
        → ((j : ℕ) → slice_get (open_from (m + 1) own) j ≡ Some p → AtOpen (m + 1) own j p) → AtOpen m (x ∷ own) k p
    by_test true f k e rec = shut k f (rec k e)
    by_test false f zero e rec = here_it f (cc e)
    by_test false f (suc k) e rec = later k f (rec k e)
