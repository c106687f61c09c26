-- The answers that a search gives.
use Rattle.answer_board.specs.Entries.{answer_at}
use Rattle.answer_board.specs.declared.entries.Entry.{Entry}
use Rattle.answer_board.specs.declared.entries.Entry.TheVariants.{Did}
use Rattle.answer_board.proofs.Answering.{answer_grows}
use Rattle.door.proofs.EventsDone.{begins_before, ends_done}
use Rattle.door.proofs.NodePlaces.{own_is_there, own_rise, places_are_own}
use Rattle.door.proofs.PlacesFilledOnce.{answer_place}
use Rattle.door.specs.Acting.{AllStand, HasDone}
use Rattle.door.specs.Places.{ComesBefore, IsPlaceOf, PlacesRise, own_places}
use Rattle.door.specs.Searching.{Acted, FoundAt, found_among}
use Rattle.door.specs.Working.{AreOwn, FoundBefore}
use Rattle.std.proofs.Common.{List, None, Option, Some, [], ap, append_assoc, ap₂, arith, inl, inr, length, length-append, map, refl, slice_get, slice_index_or, subst, suc, sym, take, zero, ℕ, ◌++◌, ◌+◌, ◌<◌, ◌∙◌, ◌∷◌, ◌≡◌, ◌≤◌}
use Rattle.std.proofs.lemmas.List.{take_more}
use Rattle.str_base.proofs.Lists.{slice_get_there}
use Rattle.str_base.proofs.Members.{at_in, in_at, in_map}
use Rattle.str_base.specs.Members.{In}
use Rattle.str_base.specs.declared.names.NodeId.{NodeId}
use Rattle.str_model.specs.declared.messages.Answer.{Answer}
use Rattle.str_model.specs.declared.names.Done.{Done}
use Rattle.str_scene.specs.Scenes.{Scene}
use Rattle.str_scene.specs.declared.names.Event.{Event}
use Rattle.str_scene.specs.declared.names.TxPlace.{TxPlace}
use mathlib.Core.List.{IsPrefix}

index_got : {A : Type 0} (xs : List A) (i : ℕ) (x d : A) → slice_get xs i ≡ Some x → slice_index_or xs i d ≡ x
index_got [] i x d q = absurd (cc q)
index_got (y ∷ xs) zero x d q = cc q
index_got (y ∷ xs) (suc i) x d q = index_got xs i x d q

got_below : {A : Type 0} (xs : List A) (i : ℕ) (x : A) → slice_get xs i ≡ Some x → i < length xs
got_below [] i x q = absurd (cc q)
got_below (y ∷ xs) zero x q = omega arith
got_below (y ∷ xs) (suc i) x q = let l = got_below xs i x q in omega (arith, l)

-- ---- the answers among what was found

among_in : (fs : List (Option Answer)) (k : ℕ) (o : Option Answer) (a : Answer) → k < length fs → slice_index_or fs k o ≡ Some a → In a (found_among fs)
among_in [] k o a lt q = absurd (omega (arith, lt))
among_in (None ∷ fs) zero o a lt q = absurd (cc q)
among_in (Some b ∷ fs) zero o a lt q = inl (cc q)
among_in (None ∷ fs) (suc k) o a lt q = among_in fs k o a (omega (arith, lt)) q
among_in (Some b ∷ fs) (suc k) o a lt q = inr (among_in fs k o a (omega (arith, lt)) q)

in_among : (fs : List (Option Answer)) (a : Answer) → In a (found_among fs) → (k : ℕ) × (slice_get fs k ≡ Some (Some a))
in_among [] a h = absurd h
in_among (None ∷ fs) a h = let r = in_among fs a h in (suc r.0, r.1)
in_among (Some b ∷ fs) a (inl same) = (0, ap (λ (x : Answer). Some (Some x)) same)
in_among (Some b ∷ fs) a (inr h) = let r = in_among fs a h in (suc r.0, r.1)

-- one more
pub among_append : (fs gs : List (Option Answer)) → found_among (fs ++ gs) ≡ found_among fs ++ found_among gs
among_append [] gs = refl
among_append (None ∷ fs) gs = among_append fs gs
among_append (Some a ∷ fs) gs = ap (λ (rs : List Answer). a ∷ rs) (among_append fs gs)

among_one : (o : Option Answer) → length (found_among (o ∷ [])) ≤ 1
among_one None = omega arith
among_one (Some a) = omega arith

-- what was found at one more place, pushed
pub among_pushed : (old now new : List Answer) (fs : List (Option Answer)) (i : ℕ) (o : Option Answer) → i < length fs → o ≡ slice_index_or fs i o → now ≡ old ++ found_among (take i fs)
    → new ≡ now ++ found_among (o ∷ []) → new ≡ old ++ found_among (take (i + 1) fs)
among_pushed old now new fs i o lt is q p =
    let more : take (i + 1) fs ≡ take i fs ++ o ∷ [] = take_more fs i o lt ∙ ap (λ (x : Option Answer). take i fs ++ x ∷ []) (sym is) in
    p ∙ ap (λ (l : List Answer). l ++ found_among (o ∷ [])) q
    ∙ append_assoc old (found_among (take i fs)) (found_among (o ∷ []))
    ∙ ap (λ (l : List Answer). old ++ l) (sym (among_append (take i fs) (o ∷ [])) ∙ ap found_among (sym more))

-- that is one answer at most
pub pushed_few : (now new : List Answer) (o : Option Answer) → new ≡ now ++ found_among (o ∷ []) → length new ≤ length now + 1
pushed_few now new o q = let n = ap length q ∙ length-append now (found_among (o ∷ [])) in let one = among_one o in omega (arith, n, one)

-- the answers are those among what was found
pub among_all : (old new : List Answer) (gs fs : List (Option Answer)) → new ≡ old ++ found_among gs → old ≡ [] → gs ≡ fs → new ≡ found_among fs
among_all old new gs fs p o q = p ∙ ap₂ (λ (xs : List Answer) (os : List (Option Answer)). xs ++ found_among os) o q

-- ---- where they stand

found_there : (ps : List TxPlace) (fs : List (Option Answer)) (list : List Entry) (k : ℕ) (a : Answer) → FoundAt ps fs list → slice_get fs k ≡ Some (Some a)
    → (slice_get ps k ≡ Some a.place) × (answer_at a.place list ≡ Some a)
found_there ps fs list k a f q =
    let wide = f.wide in
    let below = got_below fs k (Some a) q in
    let p = slice_get_there ps k (omega (arith, wide, below)) in
    let there : answer_at p.0 list ≡ Some a = subst (λ (x : TxPlace). answer_at x list ≡ Some a) (index_got ps k p.0 p.0 p.1) ((f.each k p.0 (Some a) (omega (arith, wide, below))).each a (index_got fs k (Some a) (Some a) q)) in
    let place = answer_place p.0 list a there in
    (p.1 ∙ ap (λ (x : TxPlace). Some x) (sym place), ap (λ (x : TxPlace). answer_at x list) place ∙ there)

pub found_stand : (ps : List TxPlace) (fs : List (Option Answer)) (list : List Entry) → FoundAt ps fs list → AllStand list (found_among fs)
found_stand ps fs list f i a q =
    let k = in_among fs a (in_at (found_among fs) i a q) in
    (found_there ps fs list k.0 a f k.1).1

pub found_own : (scene : Scene) (node : NodeId) (fs : List (Option Answer)) (list : List Entry) → FoundAt (own_places scene node) fs list → AreOwn scene node (found_among fs)
found_own scene node fs list f i a q =
    let k = in_among fs a (in_at (found_among fs) i a q) in
    places_are_own scene node a.place (in_at (own_places scene node) k.0 a.place (found_there (own_places scene node) fs list k.0 a f k.1).0)

-- ---- in the order of their places

rise_among : (ps : List TxPlace) (fs : List (Option Answer)) → ((k : ℕ) (a : Answer) → slice_get fs k ≡ Some (Some a) → slice_get ps k ≡ Some a.place) → PlacesRise ps → PlacesRise (map (λ (a : Answer). a.place) (found_among fs))
rise_among ps [] f r = tt
rise_among [] (None ∷ fs) f r = rise_among [] fs (λ k a q. f (suc k) a q) r
rise_among [] (Some b ∷ fs) f r = absurd (cc (f 0 b refl))
rise_among (p ∷ ps) (None ∷ fs) f r = rise_among ps fs (λ k a q. f (suc k) a q) r.1
rise_among (p ∷ ps) (Some b ∷ fs) f r =
    ((λ q h. later q (in_map (λ (a : Answer). a.place) (found_among fs) q h)), rise_among ps fs (λ k a q. f (suc k) a q) r.1)
  where
    first : p ≡ b.place
    first = cc (f 0 b refl)

    later : (q : TxPlace) → (a : Answer) × (In a (found_among fs)) × (a.place ≡ q) → ComesBefore b.place q
    later q m =
        let k = in_among fs m.0 m.1 in
        let there = in_at ps k.0 m.0.place (f (suc k.0) m.0 k.1) in
        subst (λ (x : TxPlace). ComesBefore x q) first (r.0 q (subst (λ (x : TxPlace). In x ps) m.2 there))

pub found_rise : (scene : Scene) (node : NodeId) (fs : List (Option Answer)) (list : List Entry) → FoundAt (own_places scene node) fs list → PlacesRise (map (λ (a : Answer). a.place) (found_among fs))
found_rise scene node fs list f = rise_among (own_places scene node) fs (λ k a q. (found_there (own_places scene node) fs list k a f q).0) (own_rise scene node)

-- ---- what stands before an event was found once the event was done

pub found_before : (scene : Scene) (node : NodeId) (fs : List (Option Answer)) (list : List Entry) (e : Event) → FoundAt (own_places scene node) fs list → Acted (own_places scene node) fs list e
    → FoundBefore scene node list e (found_among fs)
found_before scene node fs list e f act = record { each = λ xs ys d is of_ not p a own at. one xs ys d is not p a own at }
  where
    one : (xs ys : List Entry) (d : Done) → list ≡ xs ++ Did d ∷ ys → (HasDone xs e → ⊥) → (p : TxPlace) (a : Answer) → IsPlaceOf scene node p → answer_at p xs ≡ Some a → In a (found_among fs)
    one xs ys d is not p a own at =
        let ps = own_places scene node in
        let begins = begins_before xs act.told list e (ends_done act.told e act.idle act.ends) act.within (Did d ∷ ys, sym is) not in
        let k = at_in ps p (own_is_there scene node p own) in
        let below = got_below ps k.0 p k.1 in
        let wide = f.wide in
        let told = answer_grows p xs act.told a begins at in
        let there : answer_at (slice_index_or ps k.0 p) act.told ≡ Some a = ap (λ (x : TxPlace). answer_at x act.told) (index_got ps k.0 p p k.1) ∙ told in
        among_in fs k.0 (Some a) a (omega (arith, wide, below)) ((act.all.each k.0 p (Some a) below).each a there)
