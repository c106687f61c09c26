-- The answer at a place of a list that grows, and entries that may follow a list.
use Rattle.answer_board.specs.Entries.{answer_at}
use Rattle.str_scene.proofs.SamePlaces.{same_place-is}
use Rattle.str_scene.specs.Places.{same_place}
use Rattle.answer_board.specs.Places.{Listed, MayAllFollow, MayFollow, extended, has_place, with_entry}
use Rattle.answer_board.specs.declared.entries.Entry.{Entry}
use Rattle.answer_board.specs.declared.entries.Entry.TheVariants.{Did, Gave}
use Rattle.std.proofs.Common.{Bool, List, None, Option, Some, [], ap, append_assoc, append-nil, cond, false, refl, subst, sym, true, ℕ, ◌&&◌, ◌++◌, ◌==◌, ◌∷◌, ◌≡◌, eq-eqb, eqb-true}
use Rattle.std.proofs.lemmas.Bool.{and_from, and_parts}
use Rattle.std.specs.Prelude.{is_none}
use Rattle.str_model.specs.declared.messages.Answer.{Answer}
use Rattle.str_model.specs.declared.names.Done.{Done}
use Rattle.str_scene.specs.declared.names.TxPlace.{TxPlace}
use mathlib.Core.List.{IsPrefix}

-- ---- one place

pub same_place_self : (p : TxPlace) → same_place p p ≡ true
same_place_self p = and_from (p.session.0 == p.session.0) (p.index == p.index) (eq-eqb p.session.0 p.session.0 refl) (eq-eqb p.index p.index refl)

-- ---- the answer at a place

one_more : (t : Bool) (b : Answer) (u v w : Option Answer) → (u ≡ w → v ≡ w) → cond t (Some b) u ≡ w → cond t (Some b) v ≡ w
one_more true b u v w f h = h
one_more false b u v w f h = f h

more : (p : TxPlace) (xs zs : List Entry) (a : Answer) → answer_at p xs ≡ Some a → answer_at p (xs ++ zs) ≡ Some a
more p [] zs a h = absurd (cc h)
more p (Did d ∷ es) zs a h = more p es zs a h
more p (Gave b ∷ es) zs a h = one_more (same_place b.place p) b (answer_at p es) (answer_at p (es ++ zs)) (Some a) (more p es zs a) h

-- it stays where the list grows
pub answer_grows : (p : TxPlace) (xs ys : List Entry) (a : Answer) → IsPrefix xs ys → answer_at p xs ≡ Some a → answer_at p ys ≡ Some a
answer_grows p xs ys a pre h = subst (λ (l : List Entry). answer_at p l ≡ Some a) pre.1 (more p xs pre.0 a h)

pub answer_did : (p : TxPlace) (xs : List Entry) (d : Done) → answer_at p (xs ++ Did d ∷ []) ≡ answer_at p xs
answer_did p [] d = refl
answer_did p (Did c ∷ xs) d = answer_did p xs d
answer_did p (Gave b ∷ xs) d = ap (λ (o : Option Answer). cond (same_place b.place p) (Some b) o) (answer_did p xs d)

later : (t : Bool) (b : Answer) (u v w : Option Answer) → (u ≡ None → v ≡ w) → cond t (Some b) u ≡ None → cond t (Some b) v ≡ w
later true b u v w f h = absurd (cc h)
later false b u v w f h = f h

-- where none stood, the next one is the first
pub answer_gave : (p : TxPlace) (xs : List Entry) (a : Answer) → answer_at p xs ≡ None → answer_at p (xs ++ Gave a ∷ []) ≡ cond (same_place a.place p) (Some a) None
answer_gave p [] a h = refl
answer_gave p (Did c ∷ xs) a h = answer_gave p xs a h
answer_gave p (Gave b ∷ xs) a h = later (same_place b.place p) b (answer_at p xs) (answer_at p (xs ++ Gave a ∷ [])) (cond (same_place a.place p) (Some a) None) (answer_gave p xs a) h

-- ---- what may follow

pub follow_snoc : (n : List ℕ) (xs es : List Entry) (e : Entry) → MayAllFollow n xs es → MayFollow n (xs ++ es) e → MayAllFollow n xs (es ++ e ∷ [])
follow_snoc n xs [] e m f = (subst (λ (l : List Entry). MayFollow n l e) (append-nil xs) f, tt)
follow_snoc n xs (z ∷ es) e m f = (m.0, follow_snoc n (xs ++ z ∷ []) es e m.1 (subst (λ (l : List Entry). MayFollow n l e) (sym (append_assoc xs (z ∷ []) es)) f))

place_free : (b : Bool) (o : Option Answer) (x y : Listed) → b ≡ true → o ≡ None → cond (b && is_none o) x y ≡ x
place_free true None x y e f = refl
place_free true (Some a) x y e f = absurd (cc f)
place_free false o x y e f = absurd (cc e)

-- what may follow is put
pub put_follows : (l : Listed) (e : Entry) → MayFollow l.places l.items e → with_entry l e ≡ extended l e
put_follows l (Did d) m = refl
put_follows l (Gave a) m = place_free (has_place l.places a.place) (answer_at a.place l.items) (extended l (Gave a)) l m.0 m.1

kept : (t : Bool) (b : Answer) (u : Option Answer) → t ≡ false → u ≡ None → cond t (Some b) u ≡ None
kept t b u e f = rw e f

other_place : (t : Bool) (n : List ℕ) (p q : TxPlace) → same_place p q ≡ t → has_place n p ≡ true → has_place n q ≡ false → t ≡ false
other_place true n p q e h f = absurd (cc (h, f, ap (λ (z : TxPlace). has_place n z) (same_place-is p q e)))
other_place false n p q e h f = refl

-- no answer stands at what is no place
pub answer_nowhere : (n : List ℕ) (p : TxPlace) (xs es : List Entry) → MayAllFollow n xs es → has_place n p ≡ false → answer_at p es ≡ None
answer_nowhere n p xs [] m f = refl
answer_nowhere n p xs (Did d ∷ es) m f = answer_nowhere n p (xs ++ Did d ∷ []) es m.1 f
answer_nowhere n p xs (Gave a ∷ es) m f =
    kept (same_place a.place p) a (answer_at p es) (other_place (same_place a.place p) n a.place p refl m.0.0 f) (answer_nowhere n p (xs ++ Gave a ∷ []) es m.1 f)
