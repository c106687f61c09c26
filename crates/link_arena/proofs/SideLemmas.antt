-- All lists of one kind under a slot that is put in, taken out, or left.
use Rattle.slab.specs.Slab.{ContainsKey, Slab, get}
use Rattle.std.proofs.Common.{[], ◌∷◌, Bool, IsSome, List, None, Option, Some, ap, arith, eqb-true, false, inl, inr, length, not, refl, subst, sym, true, ℕ, ◌&&◌, ◌<◌, ◌==◌, ◌||◌, ◌∙◌, ◌≡◌, ◌≢◌, ◌⊎◌}
use Rattle.std.proofs.Math.Bool.{and-false, and-true}
use Rattle.std.proofs.lemmas.List.{get_or_past}
use Rattle.str_base.proofs.Tests.{and_true_left, eqb_self}
use Rattle.str_base.specs.declared.names.Version.{Version}
use Rattle.link_arena.specs.declared.heads.Head.{Head}
use Rattle.link_arena.specs.declared.nodes.Ends.{Ends}
use Rattle.link_arena.specs.declared.nodes.Node.{Node}
use Rattle.link_arena.specs.declared.nodes.Side.{Side}
use Rattle.link_arena.specs.HeadLists.{IsOrder, IsRising, lookup, stored}
use Rattle.link_arena.specs.OneSide.{OnSide, is_named, row_at}
use Rattle.link_arena.specs.Rows.{is_at, is_in, put_before, taken}
use Rattle.link_arena.specs.Sides.{HasRow, SameOutside, after_at, before_at, row_of, version_at, version_of}
use Rattle.link_arena.proofs.HeadLemmas.{lookup_other, lookup_stored, rising_stored}
use Rattle.link_arena.proofs.RowLemmas.{forth_once, in_put, in_taken, once_length, row_alike, walk_is}

-- a node is there where its version is
some_node : (o : Option Node) → IsSome (version_of o) → IsSome o
some_node None h = absurd (cc)
some_node (Some n) h = refl

pub there_from_version : (nodes : Slab Node) (u : ℕ) → IsSome (version_at nodes u) → ContainsKey nodes u
there_from_version nodes u h = some_node (get nodes u) h

within : (nodes : Slab Node) (u : ℕ) → IsSome (version_at nodes u) → u < length nodes.slots
within nodes u h = let p = there_from_version nodes u h in grind (arith, get_or_past)

-- links that say a list whose slots are there
pub row_is : (side : Side) (nodes : Slab Node) (ends : Option Ends) (ss : List ℕ) → HasRow side nodes ends ss → ((u : ℕ) → is_in u ss ≡ true → IsSome (version_at nodes u)) → row_of side nodes ends ≡ ss
row_is side nodes ends ss row there =
    let o = forth_once (after_at side nodes) ss row.forth in
    let l = once_length ss (length nodes.slots) o (λ u h. within nodes u (there u h)) in
    rw row.first (walk_is (after_at side nodes) ss (length nodes.slots) row.forth l)

-- a list whose links are left
pub row_kept : (side : Side) (old new : Slab Node) (ends : Option Ends) (ss : List ℕ) → HasRow side old ends ss
    → ((u : ℕ) → is_in u ss ≡ true → SameOutside side old new u) → ((u : ℕ) → is_in u ss ≡ true → IsSome (version_at new u))
    → HasRow side new ends ss × (row_of side new ends ≡ ss)
row_kept side old new ends ss row same there =
    let r = row_alike (after_at side old) (before_at side old) (after_at side new) (before_at side new) ends ss (λ u h. (same u h).after) (λ u h. (same u h).before) row in
    (r, row_is side new ends ss r there)

module _ {N : Type 0} (below : N → N → Bool) (names : N → Version → Bool) where
  -- what has a name is there
  named_is : (k : N) (o : Option Version) → is_named names k o ≡ true → IsSome o
  named_is k None h = absurd (cc)
  named_is k (Some v) h = refl

  -- so what is in a list is there, and has its name
  pub named_in : (side : Side) (nodes : Slab Node) (heads : List (Head N)) (out : Option ℕ) → OnSide below names side nodes heads out
      → (k : N) (u : ℕ) → is_in u (row_at below side nodes heads k) ≡ true → is_named names k (version_at nodes u) ≡ true
  named_in side nodes heads out on k u h = and_true_left (is_named names k (version_at nodes u)) (not (is_at out u)) (sym (on.member k u) ∙ h)

  pub there_in : (side : Side) (nodes : Slab Node) (heads : List (Head N)) (out : Option ℕ) → OnSide below names side nodes heads out
      → (k : N) (u : ℕ) → is_in u (row_at below side nodes heads k) ≡ true → IsSome (version_at nodes u)
  there_in side nodes heads out on k u h = named_is k (version_at nodes u) (named_in side nodes heads out on k u h)

  -- a change that leaves the lists
  pub side_kept : (side : Side) (old new : Slab Node) (heads : List (Head N)) (out now : Option ℕ) → OnSide below names side old heads out
      → ((k : N) (u : ℕ) → is_in u (row_at below side old heads k) ≡ true → SameOutside side old new u)
      → ((k : N) (u : ℕ) → (is_named names k (version_at old u) && not (is_at out u)) ≡ (is_named names k (version_at new u) && not (is_at now u)))
      → OnSide below names side new heads now × ((k : N) → row_at below side new heads k ≡ row_at below side old heads k)
  side_kept side old new heads out now on same member =
      let kept = λ (k : N). row_kept side old new (lookup below k heads) (row_at below side old heads k) (on.row k) (λ u h. same k u h)
      (λ u h. named_is k (version_at new u) (and_true_left (is_named names k (version_at new u)) (not (is_at now u)) (sym (member k u) ∙ sym (on.member k u) ∙ h))) in (
        record {
          rise = on.rise;
          row = λ k. subst (λ ss. HasRow side new (lookup below k heads) ss) (sym (kept k).1) (kept k).0;
          member = λ k u. ap (λ ss. is_in u ss) (kept k).1 ∙ on.member k u ∙ member k u;
        },
        λ k. (kept k).1,
      )

  module _ (order : IsOrder below) (one : (a b : N) (v : Version) → names a v ≡ true → names b v ≡ true → a ≡ b) where
    -- names are one or two
    decide : (a b : N) → (a ≡ b) ⊎ (a ≢ b)
    decide a b = by_tests (below a b) (below b a) refl refl
      where
        by_tests : (c d : Bool) → below a b ≡ c → below b a ≡ d → (a ≡ b) ⊎ (a ≢ b)
        by_tests true d p q = inr (λ e. let r = order.apart b in let s = subst (λ n. below n b ≡ true) e p in absurd (cc))
        by_tests false true p q = inr (λ e. let r = order.apart b in let s = subst (λ n. below b n ≡ true) e q in absurd (cc))
        by_tests false false p q = inl (order.same a b p q)

    one_of : (a b : N) (o : Option Version) → is_named names a o ≡ true → is_named names b o ≡ true → a ≡ b
    one_of a b None p q = absurd (cc)
    one_of a b (Some v) p q = one a b v p q

    -- the same test, in the negative
    not_named : (a b : N) (o : Option Version) → a ≢ b → is_named names b o ≡ true → is_named names a o ≡ false
    not_named a b o n p = by_test (is_named names a o) refl
      where
        by_test : (t : Bool) → is_named names a o ≡ t → t ≡ false
        by_test false e = refl
        by_test true e = absurd (n (one_of a b o e p))

    -- what is in the list of one name is not in that of another
    not_in_other : (side : Side) (nodes : Slab Node) (heads : List (Head N)) (out : Option ℕ) → OnSide below names side nodes heads out
        → (a b : N) (u : ℕ) → a ≢ b → is_in u (row_at below side nodes heads a) ≡ true → is_in u (row_at below side nodes heads b) ≡ false
    not_in_other side nodes heads out on a b u n h =
        on.member b u ∙ ap (λ t. t && not (is_at out u)) (not_named b a (version_at nodes u) (λ e. n (sym e)) (named_in side nodes heads out on a u h))

    -- the lists of all names, from that of one and those of the others
    joined : (side : Side) (old new : Slab Node) (heads : List (Head N)) (k : N) (ends : Option Ends) (ss : List ℕ) (now : Option ℕ)
        → IsRising below heads → HasRow side new ends ss → row_of side new ends ≡ ss
        → ((u : ℕ) → is_in u ss ≡ (is_named names k (version_at new u) && not (is_at now u)))
        → ((o : N) → o ≢ k → HasRow side new (lookup below o heads) (row_at below side old heads o) × (row_of side new (lookup below o heads) ≡ row_at below side old heads o))
        → ((o : N) → o ≢ k → (u : ℕ) → is_in u (row_at below side old heads o) ≡ (is_named names o (version_at new u) && not (is_at now u)))
        → OnSide below names side new (stored below k ends heads) now
        × (row_at below side new (stored below k ends heads) k ≡ ss)
        × ((o : N) → o ≢ k → row_at below side new (stored below k ends heads) o ≡ row_at below side old heads o)
    joined side old new heads k ends ss now rise row is member rows members =
        let hs = stored below k ends heads in
        let here = lookup_stored below order k ends heads rise in
        let at_k : row_at below side new hs k ≡ ss = ap (λ e. row_of side new e) here ∙ is in
        let row_k : HasRow side new (lookup below k hs) (row_at below side new hs k) = rw (here, is) row in
        let other = λ (o : N) (n : o ≢ k). lookup_other below order k o ends heads rise n in
        let at_o : (o : N) → o ≢ k → row_at below side new hs o ≡ row_at below side old heads o = λ o n. ap (λ e. row_of side new e) (other o n) ∙ (rows o n).1 in
        let row_o : (o : N) → o ≢ k → HasRow side new (lookup below o hs) (row_at below side new hs o) = λ o n. rw (other o n, (rows o n).1) (rows o n).0 in (
          record {
            rise = rising_stored below order k ends heads rise;
            row = λ o. elim (decide o k) [
              | inl e ↦ subst (λ m. HasRow side new (lookup below m hs) (row_at below side new hs m)) (sym e) row_k
              | inr n ↦ row_o o n
            ];
            member = λ o u. elim (decide o k) [
              | inl e ↦ subst (λ m. is_in u (row_at below side new hs m) ≡ (is_named names m (version_at new u) && not (is_at now u))) (sym e) (ap (λ ws. is_in u ws) at_k ∙ member u)
              | inr n ↦ ap (λ ws. is_in u ws) (at_o o n) ∙ members o n u
            ];
          },
          at_k,
          at_o,
        )

    -- a slot that was out of all lists is put into that of its name
    pub side_entered : (side : Side) (old new : Slab Node) (heads : List (Head N)) (slot : ℕ) (k : N) (next : Option ℕ) (ends : Ends) → OnSide below names side old heads (Some slot)
        → is_named names k (version_at old slot) ≡ true
        → HasRow side new (Some ends) (put_before next slot (row_at below side old heads k))
        → ((u : ℕ) → is_in u (row_at below side old heads k) ≡ false → u ≢ slot → SameOutside side old new u)
        → ((u : ℕ) → version_at new u ≡ version_at old u)
        → OnSide below names side new (stored below k (Some ends) heads) None
        × (row_at below side new (stored below k (Some ends) heads) k ≡ put_before next slot (row_at below side old heads k))
        × ((o : N) → o ≢ k → row_at below side new (stored below k (Some ends) heads) o ≡ row_at below side old heads o)
    side_entered side old new heads slot k next ends on named row outside version =
        let ss = row_at below side old heads k in
        let member : (u : ℕ) → is_in u (put_before next slot ss) ≡ (is_named names k (version_at new u) && true) = λ u.
        in_put u next slot ss ∙ ap (λ b. (u == slot) || b) (on.member k u) ∙ by_test u (u == slot) refl ∙ ap (λ o. is_named names k o && true) (sym (version u)) in
        joined side old new heads k (Some ends) (put_before next slot ss) None on.rise row
        (row_is side new (Some ends) (put_before next slot ss) row (λ u h. named_is k (version_at new u) (and_true_left (is_named names k (version_at new u)) true (sym (member u) ∙ h))))
        member
        (λ o n. row_kept side old new (lookup below o heads) (row_at below side old heads o) (on.row o)
        (λ u h. outside u (not_in_other side old heads (Some slot) on o k u n h) (apart o u h))
        (λ u h. subst (λ w. IsSome w) (sym (version u)) (there_in side old heads (Some slot) on o u h)))
        (λ o n u. on.member o u ∙ other_test o u n (u == slot) refl ∙ ap (λ w. is_named names o w && true) (sym (version u)))
      where
        by_test : (u : ℕ) (b : Bool) → (u == slot) ≡ b → (b || (is_named names k (version_at old u) && not b)) ≡ (is_named names k (version_at old u) && true)
        by_test u true e = sym (ap (λ w. is_named names k (version_at old w) && true) (eqb-true u slot e) ∙ ap (λ t. t && true) named)
        by_test u false e = refl

        other_test : (o : N) (u : ℕ) → o ≢ k → (b : Bool) → (u == slot) ≡ b → (is_named names o (version_at old u) && not b) ≡ (is_named names o (version_at old u) && true)
        other_test o u n true e =
            let f = not_named o k (version_at old u) n (ap (λ w. is_named names k (version_at old w)) (eqb-true u slot e) ∙ named) in
            rw f refl
        other_test o u n false e = refl

        apart : (o : N) (u : ℕ) → is_in u (row_at below side old heads o) ≡ true → u ≢ slot
        apart o u h e =
            let q = subst (λ w. is_in w (row_at below side old heads o) ≡ true) e h in
            let r = on.member o slot in
            no (is_named names o (version_at old slot)) (sym q ∙ r ∙ ap (λ t. is_named names o (version_at old slot) && not t) (eqb_self slot))
          where
            no : (a : Bool) → true ≡ (a && false) → ⊥
            no true h = absurd (cc)
            no false h = absurd (cc)

    -- a slot is taken out of the list of its name
    pub side_left : (side : Side) (old new : Slab Node) (heads : List (Head N)) (slot : ℕ) (k : N) (ends : Option Ends) → OnSide below names side old heads None
        → is_named names k (version_at old slot) ≡ true
        → HasRow side new ends (taken slot (row_at below side old heads k))
        → ((u : ℕ) → is_in u (row_at below side old heads k) ≡ false → SameOutside side old new u)
        → ((u : ℕ) → version_at new u ≡ version_at old u)
        → OnSide below names side new (stored below k ends heads) (Some slot)
        × (row_at below side new (stored below k ends heads) k ≡ taken slot (row_at below side old heads k))
        × ((o : N) → o ≢ k → row_at below side new (stored below k ends heads) o ≡ row_at below side old heads o)
    side_left side old new heads slot k ends on named row outside version =
        let ss = row_at below side old heads k in
        let once = forth_once (after_at side old) ss (on.row k).forth in
        let member : (u : ℕ) → is_in u (taken slot ss) ≡ (is_named names k (version_at new u) && not (u == slot)) = λ u.
        in_taken u slot ss once ∙ ap (λ b. b && not (u == slot)) (on.member k u ∙ and-true (is_named names k (version_at old u))) ∙ ap (λ o. is_named names k o && not (u == slot)) (sym (version u)) in
        joined side old new heads k ends (taken slot ss) (Some slot) on.rise row
        (row_is side new ends (taken slot ss) row (λ u h. named_is k (version_at new u) (and_true_left (is_named names k (version_at new u)) (not (u == slot)) (sym (member u) ∙ h))))
        member
        (λ o n. row_kept side old new (lookup below o heads) (row_at below side old heads o) (on.row o)
        (λ u h. outside u (not_in_other side old heads None on o k u n h))
        (λ u h. subst (λ w. IsSome w) (sym (version u)) (there_in side old heads None on o u h)))
        (λ o n u. on.member o u ∙ other_test o u n (u == slot) refl ∙ ap (λ w. is_named names o w && not (u == slot)) (sym (version u)))
      where
        other_test : (o : N) (u : ℕ) → o ≢ k → (b : Bool) → (u == slot) ≡ b → (is_named names o (version_at old u) && true) ≡ (is_named names o (version_at old u) && not b)
        other_test o u n true e =
            let f = not_named o k (version_at old u) n (ap (λ w. is_named names k (version_at old w)) (eqb-true u slot e) ∙ named) in
            rw f refl
        other_test o u n false e = refl

-- what a call needs of a list
pub known_from_in : (side : Side) (nodes : Slab Node) (ends : Option Ends) (ss : List ℕ) (s : ℕ) → HasRow side nodes ends ss → is_in s ss ≡ true → IsSome ends
known_from_in side nodes None [] s row h = absurd (cc)
known_from_in side nodes None (x ∷ xs) s row h = let e = row.first in absurd (cc)
known_from_in side nodes (Some e) ss s row h = refl

module _ {N : Type 0} (below : N → N → Bool) (names : N → Version → Bool) where
  -- a slot that is out of all lists is in none
  pub slot_out : (side : Side) (nodes : Slab Node) (heads : List (Head N)) (slot : ℕ) → OnSide below names side nodes heads (Some slot) → (k : N) → is_in slot (row_at below side nodes heads k) ≡ false
  slot_out side nodes heads slot on k =
      on.member k slot ∙ ap (λ t. is_named names k (version_at nodes slot) && not t) (eqb_self slot) ∙ and-false (is_named names k (version_at nodes slot))

  -- where none is out, a slot is in the list of its name
  pub slot_in : (side : Side) (nodes : Slab Node) (heads : List (Head N)) (slot : ℕ) (k : N) → OnSide below names side nodes heads None → is_named names k (version_at nodes slot) ≡ true
      → is_in slot (row_at below side nodes heads k) ≡ true
  slot_in side nodes heads slot k on named = on.member k slot ∙ ap (λ t. t && true) named

  -- what has a name is there
  pub there_named : (nodes : Slab Node) (slot : ℕ) (k : N) → is_named names k (version_at nodes slot) ≡ true → ContainsKey nodes slot
  there_named nodes slot k named = there_from_version nodes slot (named_is below names k (version_at nodes slot) named)

  pub each_there : (side : Side) (nodes : Slab Node) (heads : List (Head N)) (out : Option ℕ) → OnSide below names side nodes heads out → (k : N) (u : ℕ) → is_in u (row_at below side nodes heads k) ≡ true → ContainsKey nodes u
  each_there side nodes heads out on k u h = there_from_version nodes u (there_in below names side nodes heads out on k u h)
