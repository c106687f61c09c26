-- Links equal the list: under a slot that is put in, and under one that is taken out.
use Rattle.std.proofs.Common.{IfSome, subst, Bool, List, None, Option, Some, [], ap, arith, eqb, false, if◌then◌else◌, length, length-append, refl, suc, sym, true, zero, ℕ, ◌++◌, ◌<◌, ◌==◌, ◌||◌, ◌&&◌, ◌∙◌, ◌∷◌, ◌≡◌, ◌≢◌, ◌≤◌, not}
use Rattle.std.proofs.lemmas.Bool.{or_left, or_right}
use Rattle.std.proofs.lemmas.Bool.Decides.{nat_tests}
use Rattle.str_base.proofs.Tests.{eqb_self, or_false_left, or_false_right}
use Rattle.std.proofs.lemmas.Map.Steps.{length-le_from_distinct_below}
use Rattle.std.specs.List.{AllByRecursion, IsDistinct, last_or}
use Rattle.link_arena.specs.declared.nodes.Ends.{Ends}
use Rattle.link_arena.specs.Rows.{Back, Forth, IsPlace, IsRow, Once, first_of, first_or, grown, is_at, is_in, last_of, left_of, over, put_before, shrunk, taken, walk}

-- a front and the rest of a list that is followed forth
pub forth_append : (f : ℕ → Option ℕ) (xs ys : List ℕ) (e : Option ℕ) → Forth f xs (first_or e ys) → Forth f ys e → Forth f (xs ++ ys) e
forth_append f [] ys e p q = q
forth_append f (x ∷ []) ys e p q = (p.0, q)
forth_append f (x ∷ z ∷ xs) ys e p q = (p.0, forth_append f (z ∷ xs) ys e p.1 q)

pub forth_front : (f : ℕ → Option ℕ) (xs ys : List ℕ) (e : Option ℕ) → Forth f (xs ++ ys) e → Forth f xs (first_or e ys)
forth_front f [] ys e p = tt
forth_front f (x ∷ []) ys e p = (p.0, tt)
forth_front f (x ∷ z ∷ xs) ys e p = (p.0, forth_front f (z ∷ xs) ys e p.1)

pub forth_rest : (f : ℕ → Option ℕ) (xs ys : List ℕ) (e : Option ℕ) → Forth f (xs ++ ys) e → Forth f ys e
forth_rest f [] ys e p = p
forth_rest f (x ∷ xs) ys e p = forth_rest f xs ys e p.1

-- the same, followed back
pub back_append : (f : ℕ → Option ℕ) (b : Option ℕ) (xs ys : List ℕ) → Back f b xs → Back f (last_or b xs) ys → Back f b (xs ++ ys)
back_append f b [] ys p q = q
back_append f b (x ∷ xs) ys p q = (p.0, back_append f (Some x) xs ys p.1 q)

pub back_front : (f : ℕ → Option ℕ) (b : Option ℕ) (xs ys : List ℕ) → Back f b (xs ++ ys) → Back f b xs
back_front f b [] ys p = tt
back_front f b (x ∷ xs) ys p = (p.0, back_front f (Some x) xs ys p.1)

pub back_rest : (f : ℕ → Option ℕ) (b : Option ℕ) (xs ys : List ℕ) → Back f b (xs ++ ys) → Back f (last_or b xs) ys
back_rest f b [] ys p = p
back_rest f b (x ∷ xs) ys p = back_rest f (Some x) xs ys p.1

-- the two agree on the list
abbrev pub Alike : (ℕ → Option ℕ) → (ℕ → Option ℕ) → List ℕ → Type 0
Alike f g ss = (u : ℕ) → is_in u ss ≡ true → g u ≡ f u

-- the first is in the list, and so is what is in the rest
pub here : (x : ℕ) (xs : List ℕ) → is_in x (x ∷ xs) ≡ true
here x xs = or_left (x == x) (is_in x xs) (eqb_self x)

pub deeper : (u x : ℕ) (xs : List ℕ) → is_in u xs ≡ true → is_in u (x ∷ xs) ≡ true
deeper u x xs h = or_right (u == x) (is_in u xs) h

-- what is not in a list is not its first, nor in the rest
pub not_first : (u x : ℕ) (xs : List ℕ) → is_in u (x ∷ xs) ≡ false → (u == x) ≡ false
not_first u x xs h = or_false_left (u == x) (is_in u xs) h

pub not_later : (u x : ℕ) (xs : List ℕ) → is_in u (x ∷ xs) ≡ false → is_in u xs ≡ false
not_later u x xs h = or_false_right (u == x) (is_in u xs) h

-- a slot of the rest is not the first, where no slot is in the list twice
pub apart_from : (u y : ℕ) (ys : List ℕ) → is_in y ys ≡ false → is_in u ys ≡ true → (u == y) ≡ false
apart_from u y ys n h = by_test (u == y) refl
  where
    by_test : (t : Bool) → (u == y) ≡ t → t ≡ false
    by_test false e = refl
    by_test true e = let q : u ≡ y = grind (arith, nat_tests) in absurd (cc)

-- links that agree on a list say it alike
pub forth_alike : (f g : ℕ → Option ℕ) (ss : List ℕ) (e : Option ℕ) → Alike f g ss → Forth f ss e → Forth g ss e
forth_alike f g [] e a p = tt
forth_alike f g (s ∷ ss) e a p = (a s (here s ss) ∙ p.0, forth_alike f g ss e (λ u h. a u (deeper u s ss h)) p.1)

pub back_alike : (f g : ℕ → Option ℕ) (b : Option ℕ) (ss : List ℕ) → Alike f g ss → Back f b ss → Back g b ss
back_alike f g b [] a p = tt
back_alike f g b (s ∷ ss) a p = (a s (here s ss) ∙ p.0, back_alike f g (Some s) ss (λ u h. a u (deeper u s ss h)) p.1)

-- what is not in a list is not its last
not_last : (u y : ℕ) (ys : List ℕ) → is_in u (y ∷ ys) ≡ false → is_at (last_or (Some y) ys) u ≡ false
not_last u y [] h = not_first u y [] h
not_last u y (z ∷ ys) h = not_last u z ys (not_later u y (z ∷ ys) h)

-- another end
pub forth_end : (f g : ℕ → Option ℕ) (xs : List ℕ) (d e : Option ℕ) → Once xs → Alike (over (last_or None xs) e f) g xs → Forth f xs d → Forth g xs e
forth_end f g [] d e o a p = tt
forth_end f g (x ∷ []) d e o a p = (a x (here x []) ∙ ap (λ b. if b then e else f x) (eqb_self x), tt)
forth_end f g (x ∷ z ∷ xs) d e o a p = (
  a x (here x (z ∷ xs)) ∙ ap (λ b. if b then e else f x) (not_last x z xs o.0) ∙ p.0,
  forth_end f g (z ∷ xs) d e o.1 (λ u h. a u (deeper u x (z ∷ xs) h)) p.1,
)

-- another beginning
pub back_begin : (f g : ℕ → Option ℕ) (c b : Option ℕ) (ys : List ℕ) → Once ys → Alike (over (first_or None ys) b f) g ys → Back f c ys → Back g b ys
back_begin f g c b [] o a p = tt
back_begin f g c b (y ∷ ys) o a p = (
  a y (here y ys) ∙ ap (λ t. if t then b else f y) (eqb_self y),
  back_alike f g (Some y) ys (λ u h. a u (deeper u y ys h) ∙ ap (λ t. if t then b else f u) (apart_from u y ys o.0 h)) p.1,
)

-- membership in two lists in a row
pub in_append : (u : ℕ) (xs ys : List ℕ) → is_in u (xs ++ ys) ≡ (is_in u xs || is_in u ys)
in_append u [] ys = refl
in_append u (x ∷ xs) ys = by_test (u == x) (in_append u xs ys)
  where
    by_test : (b : Bool) → is_in u (xs ++ ys) ≡ (is_in u xs || is_in u ys) → (b || is_in u (xs ++ ys)) ≡ ((b || is_in u xs) || is_in u ys)
    by_test true e = refl
    by_test false e = e

in_left : (u : ℕ) (xs ys : List ℕ) → is_in u xs ≡ true → is_in u (xs ++ ys) ≡ true
in_left u xs ys h = in_append u xs ys ∙ or_left (is_in u xs) (is_in u ys) h

in_right : (u : ℕ) (xs ys : List ℕ) → is_in u ys ≡ true → is_in u (xs ++ ys) ≡ true
in_right u xs ys h = in_append u xs ys ∙ or_right (is_in u xs) (is_in u ys) h

-- parts of a list that has no slot twice
pub once_front : (xs ys : List ℕ) → Once (xs ++ ys) → Once xs
once_front [] ys o = tt
once_front (x ∷ xs) ys o = (by_test (is_in x xs) refl, once_front xs ys o.1)
  where
    by_test : (b : Bool) → is_in x xs ≡ b → b ≡ false
    by_test false e = refl
    by_test true e = let q = in_left x xs ys e in absurd (cc)

pub once_rest : (xs ys : List ℕ) → Once (xs ++ ys) → Once ys
once_rest [] ys o = o
once_rest (x ∷ xs) ys o = once_rest xs ys o.1

-- what is in the rest is not in the front
pub once_apart : (u : ℕ) (xs ys : List ℕ) → Once (xs ++ ys) → is_in u ys ≡ true → is_in u xs ≡ false
once_apart u [] ys o h = refl
once_apart u (x ∷ xs) ys o h = rw (apart_from u x (xs ++ ys) o.0 (in_right u xs ys h)) (once_apart u xs ys o.1 h)

-- the links tell the list
pub forth_tells : (f : ℕ → Option ℕ) (xs ys : List ℕ) → Forth f xs None → Forth f ys None → first_or None xs ≡ first_or None ys → xs ≡ ys
forth_tells f [] [] p q e = refl
forth_tells f [] (y ∷ ys) p q e = absurd (cc)
forth_tells f (x ∷ xs) [] p q e = absurd (cc)
forth_tells f (x ∷ xs) (y ∷ ys) p q e =
    let h : x ≡ y = cc in
    let r = forth_tells f xs ys p.1 q.1 (sym p.0 ∙ ap f h ∙ q.0) in cc

-- a list is parted at a slot that is in it
pub record Parted (s : ℕ) (ss : List ℕ) : Type 0 where
  pub front : List ℕ
  pub rest : List ℕ
  pub whole : ss ≡ front ++ s ∷ rest
  pub less : taken s ss ≡ front ++ rest

pub parted : (s : ℕ) (ss : List ℕ) → is_in s ss ≡ true → Parted s ss
parted s [] h = absurd (cc)
parted s (u ∷ us) h = by_test (s == u) refl h (λ k. parted s us k)
  where
    by_test : (b : Bool) → (s == u) ≡ b → (b || is_in s us) ≡ true → (is_in s us ≡ true → Parted s us) → Parted s (u ∷ us)
    by_test true e h rec = record {
      front = [];
      rest = us;
      whole = let q : s ≡ u = grind (arith, nat_tests) in ap (λ (w : ℕ). w ∷ us) (sym q);
      less = ap (λ b. if b then us else u ∷ taken s us) e;
    }
    by_test false e h rec = record {
      front = u ∷ (rec h).front;
      rest = (rec h).rest;
      whole = ap (λ ws. u ∷ ws) (rec h).whole;
      less = ap (λ b. if b then us else u ∷ taken s us) e ∙ ap (λ ws. u ∷ ws) (rec h).less;
    }

-- so no slot is met twice
pub forth_once : (f : ℕ → Option ℕ) (ss : List ℕ) → Forth f ss None → Once ss
forth_once f [] p = tt
forth_once f (s ∷ ss) p = (by_test (is_in s ss) refl, forth_once f ss p.1)
  where
    by_test : (b : Bool) → is_in s ss ≡ b → b ≡ false
    by_test false e = refl
    by_test true e =
        let c = parted s ss e in
        let q : Forth f (s ∷ c.rest) None = forth_rest f c.front (s ∷ c.rest) None (rw c.whole at p.1) in
        let r = ap (λ ws. length ws) (forth_tells f (s ∷ ss) (s ∷ c.rest) p q refl) in
        let n = ap (λ ws. length ws) c.whole in
        absurd (omega (arith, length-append c.front (s ∷ c.rest), r, n))

-- a walk along the links gives the list
pub walk_is : (f : ℕ → Option ℕ) (ss : List ℕ) (n : ℕ) → Forth f ss None → length ss ≤ n → walk f n (first_or None ss) ≡ ss
walk_is f [] zero p h = refl
walk_is f [] (suc n) p h = refl
walk_is f (s ∷ ss) zero p h = absurd (omega arith)
walk_is f (s ∷ ss) (suc n) p h = ap (λ ws. s ∷ ws) (ap (λ o. walk f n o) p.0 ∙ walk_is f ss n p.1 (omega arith))

-- a list of slots below n that has none twice is at most n long
each_apart : (s : ℕ) (ss : List ℕ) → is_in s ss ≡ false → AllByRecursion (λ u. eqb s u ≡ false) ss
each_apart s [] h = tt
each_apart s (u ∷ us) h = (not_first s u us h, each_apart s us (not_later s u us h))

distinct_from_once : (ss : List ℕ) → Once ss → IsDistinct eqb ss
unfolding IsDistinct
distinct_from_once [] o = tt
distinct_from_once (s ∷ ss) o = (each_apart s ss o.0, distinct_from_once ss o.1)

pub once_length : (ss : List ℕ) (n : ℕ) → Once ss → ((u : ℕ) → is_in u ss ≡ true → u < n) → length ss ≤ n
once_length ss n o below = length-le_from_distinct_below ss n (distinct_from_once ss o) below

-- what comes last in two lists
last_append : (b : Option ℕ) (xs ys : List ℕ) → last_or b (xs ++ ys) ≡ last_or (last_or b xs) ys
last_append b [] ys = refl
last_append b (x ∷ xs) ys = last_append (Some x) xs ys

-- what is not in a list is not its first, nor its last
not_first_of : (u : ℕ) (xs : List ℕ) → is_in u xs ≡ false → is_at (first_or None xs) u ≡ false
not_first_of u [] h = refl
not_first_of u (x ∷ xs) h = not_first u x xs h

not_last_of : (u : ℕ) (xs : List ℕ) → is_in u xs ≡ false → is_at (last_or None xs) u ≡ false
not_last_of u [] h = refl
not_last_of u (x ∷ xs) h = not_last u x xs h

-- a list is parted before the place of a new slot
pub record Split (t : Option ℕ) (s : ℕ) (ss : List ℕ) : Type 0 where
  pub front : List ℕ
  pub rest : List ℕ
  pub whole : ss ≡ front ++ rest
  pub next : first_or None rest ≡ t
  pub more : put_before t s ss ≡ front ++ s ∷ rest

turned : (a b : ℕ) → (a == b) ≡ (b == a)
turned a b = grind (arith, nat_tests)

pub split : (t : Option ℕ) (s : ℕ) (ss : List ℕ) → IsPlace t ss → Split t s ss
split None s [] h = record { front = []; rest = []; whole = refl; next = refl; more = refl }
split (Some t) s [] h = absurd (cc)
split None s (u ∷ us) h =
    let r = split None s us h in
    record { front = u ∷ r.front; rest = r.rest; whole = ap (λ ws. u ∷ ws) r.whole; next = r.next; more = ap (λ ws. u ∷ ws) r.more }
split (Some t) s (u ∷ us) h = by_test (t == u) refl h (λ k. split (Some t) s us k)
  where
    by_test : (b : Bool) → (t == u) ≡ b → (b || is_in t us) ≡ true → (is_in t us ≡ true → Split (Some t) s us) → Split (Some t) s (u ∷ us)
    by_test true e h rec = record {
      front = [];
      rest = u ∷ us;
      whole = refl;
      next = let q : t ≡ u = grind (arith, nat_tests) in ap Some (sym q);
      more = ap (λ b. if b then s ∷ u ∷ us else u ∷ put_before (Some t) s us) (turned u t ∙ e);
    }
    by_test false e h rec = record {
      front = u ∷ (rec h).front;
      rest = (rec h).rest;
      whole = ap (λ ws. u ∷ ws) (rec h).whole;
      next = (rec h).next;
      more = ap (λ b. if b then s ∷ u ∷ us else u ∷ put_before (Some t) s us) (turned u t ∙ e) ∙ ap (λ ws. u ∷ ws) (rec h).more;
    }

-- what is in the front is not in the rest
pub once_apart_front : (u : ℕ) (xs ys : List ℕ) → Once (xs ++ ys) → is_in u xs ≡ true → is_in u ys ≡ false
once_apart_front u xs ys o h = by_test (is_in u ys) refl
  where
    by_test : (b : Bool) → is_in u ys ≡ b → b ≡ false
    by_test false e = refl
    by_test true e = let q = once_apart u xs ys o e in absurd (cc)

-- the new values of links
pub over_miss : (a e : Option ℕ) (f : ℕ → Option ℕ) (u : ℕ) → is_at a u ≡ false → over a e f u ≡ f u
over_miss a e f u h = ap (λ b. if b then e else f u) h

pub over_hit : (a e : Option ℕ) (f : ℕ → Option ℕ) (u : ℕ) → is_at a u ≡ true → over a e f u ≡ e
over_hit a e f u h = ap (λ b. if b then e else f u) h

pub over_under : (a e : Option ℕ) (f g : ℕ → Option ℕ) (u : ℕ) → g u ≡ f u → over a e g u ≡ over a e f u
over_under a e f g u h = ap (λ o. if is_at a u then e else o) h

out_left : (u : ℕ) (xs ys : List ℕ) → is_in u (xs ++ ys) ≡ false → is_in u xs ≡ false
out_left u xs ys h = or_false_left (is_in u xs) (is_in u ys) (sym (in_append u xs ys) ∙ h)

out_right : (u : ℕ) (xs ys : List ℕ) → is_in u (xs ++ ys) ≡ false → is_in u ys ≡ false
out_right u xs ys h = or_false_right (is_in u xs) (is_in u ys) (sym (in_append u xs ys) ∙ h)

-- links that are tied by hand: the slot leads on to the rest, and the front leads on to it
pub put_row : (f b g h : ℕ → Option ℕ) (was now : Option Ends) (xs ys : List ℕ) (s : ℕ) → IsRow f b was (xs ++ ys) → is_in s (xs ++ ys) ≡ false
    → ((u : ℕ) → g u ≡ over (Some s) (first_or None ys) (over (last_or None xs) (Some s) f) u)
    → ((u : ℕ) → h u ≡ over (first_or None ys) (Some s) (over (Some s) (last_or None xs) b) u)
    → first_of now ≡ first_or None (xs ++ s ∷ ys) → last_of now ≡ last_or None (xs ++ s ∷ ys) → IsRow g h now (xs ++ s ∷ ys)
put_row f b g h was now xs ys s row out ga ha fi la =
    let left = last_or None xs in
    let next = first_or None ys in
    let o = forth_once f (xs ++ ys) row.forth in
    let ox = out_left s xs ys out in
    let oy = out_right s xs ys out in
    record {
      forth = forth_append g xs (s ∷ ys) None
          (forth_end f g xs next (Some s) (once_front xs ys o) (λ u i. ga u ∙ over_miss (Some s) next (over left (Some s) f) u (apart_from u s xs ox i)) (forth_front f xs ys None row.forth)) (
            ga s ∙ over_hit (Some s) next (over left (Some s) f) s (eqb_self s),
            forth_alike f g ys None
                (λ u i. ga u ∙ over_miss (Some s) next (over left (Some s) f) u (apart_from u s ys oy i) ∙ over_miss left (Some s) f u (not_last_of u xs (once_apart u xs ys o i)))
                (forth_rest f xs ys None row.forth),
          );
      back = back_append h None xs (s ∷ ys)
          (back_alike b h None xs
          (λ u i. ha u ∙ over_miss next (Some s) (over (Some s) left b) u (not_first_of u ys (once_apart_front u xs ys o i)) ∙ over_miss (Some s) left b u (apart_from u s xs ox i))
          (back_front b None xs ys row.back)) (
            ha s ∙ over_miss next (Some s) (over (Some s) left b) s (not_first_of s ys oy) ∙ over_hit (Some s) left b s (eqb_self s),
            back_begin b h left (Some s) ys (once_rest xs ys o)
                (λ u i. ha u ∙ over_under next (Some s) b (over (Some s) left b) u (over_miss (Some s) left b u (apart_from u s ys oy i)))
                (back_rest b None xs ys row.back),
          );
      first = fi;
      last = la;
    }

-- the front leads on to the rest, past the slot
pub take_row : (f b g h : ℕ → Option ℕ) (was now : Option Ends) (xs ys : List ℕ) (s : ℕ) → IsRow f b was (xs ++ s ∷ ys)
    → ((u : ℕ) → g u ≡ over (last_or None xs) (first_or None ys) f u)
    → ((u : ℕ) → h u ≡ over (first_or None ys) (last_or None xs) b u)
    → first_of now ≡ first_or None (xs ++ ys) → last_of now ≡ last_or None (xs ++ ys) → IsRow g h now (xs ++ ys)
take_row f b g h was now xs ys s row ga ha fi la =
    let left = last_or None xs in
    let next = first_or None ys in
    let o = forth_once f (xs ++ s ∷ ys) row.forth in
    let oy = once_rest xs (s ∷ ys) o in
    let rest = forth_rest f xs (s ∷ ys) None row.forth in
    record {
      forth = forth_append g xs ys None
          (forth_end f g xs (Some s) next (once_front xs (s ∷ ys) o) (λ u i. ga u) (forth_front f xs (s ∷ ys) None row.forth))
          (forth_alike f g ys None (λ u i. ga u ∙ over_miss left next f u (not_last_of u xs (once_apart u xs (s ∷ ys) o (deeper u s ys i)))) rest.1);
      back = back_append h None xs ys
          (back_alike b h None xs (λ u i. ha u ∙ over_miss next left b u (not_first_of u ys (not_later u s ys (once_apart_front u xs (s ∷ ys) o i)))) (back_front b None xs (s ∷ ys) row.back))
          (back_begin b h (Some s) left ys oy.1 (λ u i. ha u) (back_rest b None xs (s ∷ ys) row.back).1);
      first = fi;
      last = la;
    }

-- links that agree on a list say it alike
pub row_alike : (f b g h : ℕ → Option ℕ) (ends : Option Ends) (ss : List ℕ) → Alike f g ss → Alike b h ss → IsRow f b ends ss → IsRow g h ends ss
row_alike f b g h ends ss p q row =
    record { forth = forth_alike f g ss None p row.forth; back = back_alike b h None ss q row.back; first = row.first; last = row.last }

-- membership after a change
pub in_put : (u : ℕ) (t : Option ℕ) (s : ℕ) (ss : List ℕ) → is_in u (put_before t s ss) ≡ ((u == s) || is_in u ss)
in_put u t s [] = refl
in_put u t s (x ∷ xs) = by_test (is_at t x) (in_put u t s xs)
  where
    swap_or : (a b c : Bool) → (a || (b || c)) ≡ (b || (a || c))
    swap_or true true c = refl
    swap_or true false c = refl
    swap_or false true c = refl
    swap_or false false c = refl

    by_test : (b : Bool) → is_in u (put_before t s xs) ≡ ((u == s) || is_in u xs) → is_in u (if b then s ∷ x ∷ xs else x ∷ put_before t s xs) ≡ ((u == s) || ((u == x) || is_in u xs))
    by_test true e = refl
    by_test false e = ap (λ c. (u == x) || c) e ∙ swap_or (u == x) (u == s) (is_in u xs)

pub in_taken : (u s : ℕ) (ss : List ℕ) → Once ss → is_in u (taken s ss) ≡ (is_in u ss && not (u == s))
in_taken u s [] o = refl
in_taken u s (x ∷ xs) o = by_tests (s == x) (u == x) (u == s) (is_in u xs) refl refl refl refl (in_taken u s xs o.1)
  where
    by_tests : (a b c d : Bool) → (s == x) ≡ a → (u == x) ≡ b → (u == s) ≡ c → is_in u xs ≡ d → is_in u (taken s xs) ≡ (is_in u xs && not (u == s))
        → is_in u (if a then xs else x ∷ taken s xs) ≡ ((b || d) && not c)
    by_tests true true true true p q r t e = let k : u ≡ x = grind (arith, nat_tests) in absurd (cc (o.0))
    by_tests true true true false p q r t e = t
    by_tests true true false d p q r t e = absurd (grind (arith, nat_tests))
    by_tests true false true d p q r t e = absurd (grind (arith, nat_tests))
    by_tests true false false true p q r t e = t
    by_tests true false false false p q r t e = t
    by_tests false true true d p q r t e = absurd (grind (arith, nat_tests))
    by_tests false true false d p q r t e = rw q refl
    by_tests false false c true p q r t e = rw (q, e, t, r) refl
    by_tests false false c false p q r t e = rw (q, e, t) refl

-- a list with a last one has one
some_last : (x : ℕ) (xs : List ℕ) → (y : ℕ) × (last_or (Some x) xs ≡ Some y)
some_last x [] = (x, refl)
some_last x (z ∷ xs) = some_last z xs

-- the ends that are kept
grown_first : (ends : Option Ends) (xs ys : List ℕ) (s : ℕ) → first_of ends ≡ first_or None (xs ++ ys)
    → first_of (Some (grown ends (last_or None xs) s (first_or None ys))) ≡ first_or None (xs ++ s ∷ ys)
grown_first None [] ys s e = refl
grown_first None (x ∷ xs) ys s e = absurd (cc)
grown_first (Some a) [] ys s e = refl
grown_first (Some a) (x ∷ xs) ys s e = let l = some_last x xs in rw l.1 e

grown_last : (ends : Option Ends) (xs ys : List ℕ) (s : ℕ) → last_of ends ≡ last_or None (xs ++ ys)
    → last_of (Some (grown ends (last_or None xs) s (first_or None ys))) ≡ last_or None (xs ++ s ∷ ys)
grown_last None xs [] s e = rw last_append refl
grown_last None xs (y ∷ ys) s e =
    let l = some_last y ys in
    absurd (let q = e ∙ last_append None xs (y ∷ ys) ∙ l.1 in cc)
grown_last (Some a) xs [] s e = rw last_append refl
grown_last (Some a) xs (y ∷ ys) s e = e ∙ last_append None xs (y ∷ ys) ∙ sym (last_append None xs (s ∷ y ∷ ys))

-- what stands before the place
left_is : (f b : ℕ → Option ℕ) (ends : Option Ends) (xs ys : List ℕ) → IsRow f b ends (xs ++ ys) → left_of b ends (first_or None ys) ≡ last_or None xs
left_is f b ends xs [] row = row.last ∙ last_append None xs []
left_is f b ends xs (y ∷ ys) row = (back_rest b None xs (y ∷ ys) row.back).0

-- a slot is put in
pub put_in : (f b g h : ℕ → Option ℕ) (ends : Option Ends) (ss : List ℕ) (t left : Option ℕ) (s : ℕ) → IsRow f b ends ss → IsPlace t ss → is_in s ss ≡ false
    → left ≡ left_of b ends t
    → ((u : ℕ) → g u ≡ over (Some s) t (over left (Some s) f) u)
    → ((u : ℕ) → h u ≡ over t (Some s) (over (Some s) left b) u)
    → IsRow g h (Some (grown ends left s t)) (put_before t s ss)
put_in f b g h ends ss t left s row place out e ga ha =
    let p = split t s ss place in
    let r : IsRow f b ends (p.front ++ p.rest) = subst (λ ws. IsRow f b ends ws) p.whole row in
    let l : left ≡ last_or None p.front = e ∙ ap (λ o. left_of b ends o) (sym p.next) ∙ left_is f b ends p.front p.rest r in
    let ends_are : grown ends (last_or None p.front) s (first_or None p.rest) ≡ grown ends left s t = ap (λ o. grown ends o s (first_or None p.rest)) (sym l) ∙ ap (λ o. grown ends left s o) p.next in
    subst (λ ws. IsRow g h (Some (grown ends left s t)) ws) (sym p.more)
    (put_row f b g h ends (Some (grown ends left s t)) p.front p.rest s r (subst (λ ws. is_in s ws ≡ false) p.whole out)
    (λ u. ga u ∙ ap (λ o. over (Some s) t (over o (Some s) f) u) l ∙ ap (λ o. over (Some s) o (over (last_or None p.front) (Some s) f) u) (sym p.next))
    (λ u. ha u ∙ ap (λ o. over t (Some s) (over (Some s) o b) u) l ∙ ap (λ o. over o (Some s) (over (Some s) (last_or None p.front) b) u) (sym p.next))
    (ap (λ a. first_of (Some a)) (sym ends_are) ∙ grown_first ends p.front p.rest s r.first)
    (ap (λ a. last_of (Some a)) (sym ends_are) ∙ grown_last ends p.front p.rest s r.last))

shrunk_first : (ends : Option Ends) (xs ys : List ℕ) (s : ℕ) → first_of ends ≡ first_or None (xs ++ s ∷ ys)
    → first_of (shrunk ends (last_or None xs) (first_or None ys)) ≡ first_or None (xs ++ ys)
shrunk_first None [] ys s e = absurd (cc)
shrunk_first None (x ∷ xs) ys s e = absurd (cc)
shrunk_first (Some a) [] [] s e = refl
shrunk_first (Some a) [] (y ∷ ys) s e = refl
shrunk_first (Some a) (x ∷ xs) [] s e = let l = some_last x xs in rw l.1 e
shrunk_first (Some a) (x ∷ xs) (y ∷ ys) s e = let l = some_last x xs in rw l.1 e

shrunk_last : (ends : Option Ends) (xs ys : List ℕ) (s : ℕ) → last_of ends ≡ last_or None (xs ++ s ∷ ys)
    → last_of (shrunk ends (last_or None xs) (first_or None ys)) ≡ last_or None (xs ++ ys)
shrunk_last None xs ys s e =
    let l = some_last s ys in
    absurd (let q = e ∙ last_append None xs (s ∷ ys) ∙ l.1 in cc)
shrunk_last (Some a) [] [] s e = refl
shrunk_last (Some a) [] (y ∷ ys) s e = e
shrunk_last (Some a) (x ∷ xs) [] s e = let l = some_last x xs in rw (last_append, l.1) refl
shrunk_last (Some a) (x ∷ xs) (y ∷ ys) s e =
    let l = some_last x xs in
    let q : Some a.last ≡ last_or None ((x ∷ xs) ++ (y ∷ ys)) = e ∙ last_append None (x ∷ xs) (s ∷ y ∷ ys) ∙ sym (last_append None (x ∷ xs) (y ∷ ys)) in
    rw l.1 q

-- a slot is taken out
pub take_from : (f b g h : ℕ → Option ℕ) (ends : Option Ends) (ss : List ℕ) (s : ℕ) → IsRow f b ends ss → is_in s ss ≡ true
    → ((u : ℕ) → g u ≡ over (b s) (f s) f u)
    → ((u : ℕ) → h u ≡ over (f s) (b s) b u)
    → IsRow g h (shrunk ends (b s) (f s)) (taken s ss)
take_from f b g h ends ss s row i ga ha =
    let p = parted s ss i in
    let r : IsRow f b ends (p.front ++ s ∷ p.rest) = subst (λ ws. IsRow f b ends ws) p.whole row in
    let l : b s ≡ last_or None p.front = (back_rest b None p.front (s ∷ p.rest) r.back).0 in
    let n : f s ≡ first_or None p.rest = (forth_rest f p.front (s ∷ p.rest) None r.forth).0 in
    let ends_are : shrunk ends (b s) (f s) ≡ shrunk ends (last_or None p.front) (first_or None p.rest) = ap (λ o. shrunk ends o (f s)) l ∙ ap (λ o. shrunk ends (last_or None p.front) o) n in
    subst (λ ws. IsRow g h (shrunk ends (b s) (f s)) ws) (sym p.less)
    (take_row f b g h ends (shrunk ends (b s) (f s)) p.front p.rest s r
    (λ u. ga u ∙ ap (λ o. over o (f s) f u) l ∙ ap (λ o. over (last_or None p.front) o f u) n)
    (λ u. ha u ∙ ap (λ o. over o (b s) b u) n ∙ ap (λ o. over (first_or None p.rest) o b u) l)
    (ap first_of ends_are ∙ shrunk_first ends p.front p.rest s r.first)
    (ap last_of ends_are ∙ shrunk_last ends p.front p.rest s r.last))

-- what holds of each slot of a list holds of its last
last_has : (P : ℕ → Type 0) (xs : List ℕ) → ((u : ℕ) → is_in u xs ≡ true → P u) → IfSome (last_or None xs) P
last_has P [] a = tt
last_has P (x ∷ []) a = a x (here x [])
last_has P (x ∷ z ∷ xs) a = last_has P (z ∷ xs) (λ u h. a u (deeper u x (z ∷ xs) h))

first_has : (P : ℕ → Type 0) (xs : List ℕ) → ((u : ℕ) → is_in u xs ≡ true → P u) → IfSome (first_or None xs) P
first_has P [] a = tt
first_has P (x ∷ xs) a = a x (here x xs)

-- so it holds of the neighbours of a place, and of a slot
pub left_has : (P : ℕ → Type 0) (f b : ℕ → Option ℕ) (ends : Option Ends) (ss : List ℕ) (t : Option ℕ) → IsRow f b ends ss → IsPlace t ss
    → ((u : ℕ) → is_in u ss ≡ true → P u) → IfSome (left_of b ends t) P
left_has P f b ends ss t row place a =
    let p = split t zero ss place in
    let r : IsRow f b ends (p.front ++ p.rest) = subst (λ ws. IsRow f b ends ws) p.whole row in
    let l = ap (λ o. left_of b ends o) (sym p.next) ∙ left_is f b ends p.front p.rest r in
    subst (λ o. IfSome o P) (sym l) (last_has P p.front (λ u h. a u (subst (λ ws. is_in u ws ≡ true) (sym p.whole) (in_left u p.front p.rest h))))

pub place_has : (P : ℕ → Type 0) (ss : List ℕ) (t : Option ℕ) → IsPlace t ss → ((u : ℕ) → is_in u ss ≡ true → P u) → IfSome t P
place_has P ss None place a = tt
place_has P ss (Some t) place a = a t place

pub neighbours_have : (P : ℕ → Type 0) (f b : ℕ → Option ℕ) (ends : Option Ends) (ss : List ℕ) (s : ℕ) → IsRow f b ends ss → is_in s ss ≡ true
    → ((u : ℕ) → is_in u ss ≡ true → P u) → IfSome (b s) P × IfSome (f s) P
neighbours_have P f b ends ss s row i a =
    let p = parted s ss i in
    let r : IsRow f b ends (p.front ++ s ∷ p.rest) = subst (λ ws. IsRow f b ends ws) p.whole row in
    let l : b s ≡ last_or None p.front = (back_rest b None p.front (s ∷ p.rest) r.back).0 in
    let n : f s ≡ first_or None p.rest = (forth_rest f p.front (s ∷ p.rest) None r.forth).0 in
    let within : (u : ℕ) → is_in u (p.front ++ s ∷ p.rest) ≡ true → P u = λ u h. a u (subst (λ ws. is_in u ws ≡ true) (sym p.whole) h) in (
      subst (λ o. IfSome o P) (sym l) (last_has P p.front (λ u h. within u (in_left u p.front (s ∷ p.rest) h))),
      subst (λ o. IfSome o P) (sym n) (first_has P p.rest (λ u h. within u (in_right u p.front (s ∷ p.rest) (deeper u s p.rest h)))),
    )

-- what is not in a list is none of the neighbours
pub over_apart : (f : ℕ → Option ℕ) (a e : Option ℕ) (ss : List ℕ) (u : ℕ) → IfSome a (λ v. is_in v ss ≡ true) → is_in u ss ≡ false → over a e f u ≡ f u
over_apart f None e ss u h n = refl
over_apart f (Some a) e ss u h n = over_miss (Some a) e f u (apart_from_other u a ss n h)
  where
    apart_from_other : (u a : ℕ) (ss : List ℕ) → is_in u ss ≡ false → is_in a ss ≡ true → (u == a) ≡ false
    apart_from_other u a ss n h = turned u a ∙ apart_from a u ss n h

pub over_other : (f : ℕ → Option ℕ) (s : ℕ) (e : Option ℕ) (u : ℕ) → u ≢ s → over (Some s) e f u ≡ f u
over_other f s e u h = let q : (u == s) ≡ false = grind (arith, nat_tests) in over_miss (Some s) e f u q
