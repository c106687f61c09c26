-- Pairs of nodes that are settled, one after another.
use Rattle.std.proofs.Common.{◌≡◌, ◌≢◌, ◌<◌, ◌≤◌, ◌+◌, ◌∙◌, ◌⊎◌, ◌&&◌, ℕ, Bool, true, false, Err, List, Ok, OnOk, Result, ap, arith, inl, inr, is_ok, length, refl, slice_index_or, subst, sym}
use Rattle.race_round.proofs.LinkMoves.{only_stays}
use Rattle.race_round.proofs.Places.{place_within}
use Rattle.race_round.specs.Settling.{AreMet, CanSettle, EndsSettled, LinksSettled, LinksStay, PlacesSettled, RowSettled, SameButEnds, SettledTo, SettledWhere}
use Rattle.race_round.specs.declared.nodes.RaceNode.{RaceNode}
use Rattle.ring_links.proofs.Meeting.{linked_on}
use Rattle.ring_links.specs.Ends.{Ends, Meet, OnlyLink, link_to, place_of}
use Rattle.ring_links.specs.Links.{AreLinked, InOrder, SameLink, Settled}
use Rattle.ring_links.specs.declared.link.Link.{Link}
use Rattle.std.specs.declared.alloc.AllocError.{AllocError}
use Rattle.std.proofs.lemmas.Bool.{and_parts, cases_eq, cases_lt}

-- ---- the links of two nodes

subst_two : {A : Type 0} (P : A → A → Type 0) (l k l' k' : A) → l' ≡ l → k' ≡ k → P l k → P l' k'
subst_two P l k l' k' el ek h = subst (λ z. P z k') (sym el) (subst (λ z. P l z) (sym ek) h)

weaker : (ok new : Bool) (x y : ℕ) (a b a' b' : Ends) → (new ≡ true → ok ≡ true) → LinksSettled ok x y a b a' b' → LinksSettled new x y a b a' b'
weaker ok new x y a b a' b' less h =
    record {
      order_there = h.order_there;
      order_here = h.order_here;
      same_here = h.same_here;
      same_there = h.same_there;
      settled_there = λ e. h.settled_there (less e);
      settled_here = λ e. h.settled_here (less e);
    }

stayed_then : (ok : Bool) (x y : ℕ) (a b a' b' a'' b'' : Ends) → LinksStay x y a b a' b' → LinksSettled ok x y a' b' a'' b'' → LinksSettled ok x y a b a'' b''
stayed_then ok x y a b a' b' a'' b'' s h =
    record {
      order_there = λ d. subst_two (λ l k. InOrder l k) (link_to a' y d) (link_to b' x d) (link_to a y d) (link_to b x d) (sym (s.here d)) (sym (s.there d)) (h.order_there d);
      order_here = λ d. subst_two (λ l k. InOrder l k) (link_to b' x d) (link_to a' y d) (link_to b x d) (link_to a y d) (sym (s.there d)) (sym (s.here d)) (h.order_here d);
      same_here = λ d. subst (λ l. SameLink l (link_to a'' y d)) (s.here d) (h.same_here d);
      same_there = λ d. subst (λ l. SameLink l (link_to b'' x d)) (s.there d) (h.same_there d);
      settled_there = λ e d. subst_two (λ l k. Settled l k (link_to a'' y d) (link_to b'' x d)) (link_to a' y d) (link_to b' x d) (link_to a y d) (link_to b x d) (sym (s.here d)) (sym (s.there d)) (h.settled_there e d);
      settled_here = λ e d. subst_two (λ l k. Settled l k (link_to b'' x d) (link_to a'' y d)) (link_to b' x d) (link_to a' y d) (link_to b x d) (link_to a y d) (sym (s.there d)) (sym (s.here d)) (h.settled_here e d);
    }

then_stayed : (ok : Bool) (x y : ℕ) (a b a' b' a'' b'' : Ends) → LinksSettled ok x y a b a' b' → LinksStay x y a' b' a'' b'' → LinksSettled ok x y a b a'' b''
then_stayed ok x y a b a' b' a'' b'' h s =
    record {
      order_there = h.order_there;
      order_here = h.order_here;
      same_here = λ d. subst (λ l. SameLink (link_to a y d) l) (sym (s.here d)) (h.same_here d);
      same_there = λ d. subst (λ l. SameLink (link_to b x d) l) (sym (s.there d)) (h.same_there d);
      settled_there = λ e d. subst_two (λ l k. Settled (link_to a y d) (link_to b x d) l k) (link_to a' y d) (link_to b' x d) (link_to a'' y d) (link_to b'' x d) (s.here d) (s.there d) (h.settled_there e d);
      settled_here = λ e d. subst_two (λ l k. Settled (link_to b x d) (link_to a y d) l k) (link_to b' x d) (link_to a' y d) (link_to b'' x d) (link_to a'' y d) (s.there d) (s.here d) (h.settled_here e d);
    }

stay_on : (x y : ℕ) (a b a' b' a'' b'' : Ends) → LinksStay x y a b a' b' → LinksStay x y a' b' a'' b'' → LinksStay x y a b a'' b''
stay_on x y a b a' b' a'' b'' s t = record { here = λ d. t.here d ∙ s.here d; there = λ d. t.there d ∙ s.there d }

-- what holds on success holds where the result is one
ok_holds : {P : Type 0} (r : Result (Unit {0}) AllocError) → OnOk r P → is_ok r ≡ true → P
ok_holds (Ok x) h e = h
ok_holds (Err x) h e = absurd (let q : false ≡ true = e in cc)

pub ends_settled : (r : Result (Unit {0}) AllocError) (a b a' b' : Ends) → OnlyLink a a' b.node → OnlyLink b b' a.node
    → ((d : Link) → InOrder (link_to a b.node d) (link_to b a.node d)) → ((d : Link) → InOrder (link_to b a.node d) (link_to a b.node d))
    → ((d : Link) → SameLink (link_to a b.node d) (link_to a' b.node d)) → ((d : Link) → SameLink (link_to b a.node d) (link_to b' a.node d))
    → OnOk r ((d : Link) → Settled (link_to a b.node d) (link_to b a.node d) (link_to a' b.node d) (link_to b' a.node d))
    → OnOk r ((d : Link) → Settled (link_to b a.node d) (link_to a b.node d) (link_to b' a.node d) (link_to a' b.node d)) → EndsSettled (is_ok r) a b a' b'
ends_settled r a b a' b' only_here only_there order_there order_here same_here same_there there here =
    record {
      links_ = record {
        order_there = order_there;
        order_here = order_here;
        same_here = same_here;
        same_there = same_there;
        settled_there = ok_holds r there;
        settled_here = ok_holds r here;
      };
      only_here = only_here;
      only_there = only_there;
    }

-- ---- lists of nodes

module _ {C G : Type 0} where
  same_self : (n : RaceNode C G) → SameButEnds n n
  same_self n = record { same = refl; node_ = refl; width = refl }

  same_on : (n m o : RaceNode C G) → SameButEnds n m → SameButEnds m o → SameButEnds n o
  same_on n m o a b =
      record {
        same = b.same ∙ ap (λ (x : RaceNode C G). record x { ends = o.ends }) a.same;
        node_ = b.node_ ∙ a.node_;
        width = b.width ∙ a.width;
      }

  -- nothing is settled
  pub none_settled : (ok : Bool) (which : ℕ → ℕ → Type 0) (ns : List (RaceNode C G)) → ((i j : ℕ) → which i j → ⊥) → SettledWhere ok which ns ns
  none_settled ok which ns none =
      record {
        count = refl;
        each = λ i d h. same_self (slice_index_or ns i d);
        done = λ i j d lt within w. absurd (none i j w);
        left = λ i j d lt within w. record { here = λ x. refl; there = λ x. refl };
      }

  -- some pairs are settled, and then others
  pub settled_on : (ok r new : Bool) (p q both : ℕ → ℕ → Type 0) (ns ms os : List (RaceNode C G)) → (new ≡ true → ok ≡ true) → (new ≡ true → r ≡ true)
      → ((i j : ℕ) → i < j → both i j → p i j ⊎ q i j) → ((i j : ℕ) → p i j → both i j) → ((i j : ℕ) → q i j → both i j) → ((i j : ℕ) → p i j → q i j → ⊥)
      → SettledWhere ok p ns ms → SettledWhere r q ms os → SettledWhere new both ns os
  settled_on ok r new p q both ns ms os less more out in_p in_q apart a b =
      record {
        count = b.count ∙ a.count;
        each = λ i d h. same_on (slice_index_or ns i d) (slice_index_or ms i d) (slice_index_or os i d) (a.each i d h) (b.each i d (omega (arith, h, a.count)));
        done = λ i j d lt within w. elim (out i j lt w) [
          | inl x ↦
              weaker ok new (i + 1) (j + 1) (slice_index_or ns i d).ends (slice_index_or ns j d).ends (slice_index_or os i d).ends (slice_index_or os j d).ends less
              (then_stayed ok (i + 1) (j + 1) (slice_index_or ns i d).ends (slice_index_or ns j d).ends (slice_index_or ms i d).ends (slice_index_or ms j d).ends (slice_index_or os i d).ends (slice_index_or os j d).ends
              (a.done i j d lt within x) (b.left i j d lt (omega (arith, within, a.count)) (λ y. apart i j x y)))
          | inr y ↦
              weaker r new (i + 1) (j + 1) (slice_index_or ns i d).ends (slice_index_or ns j d).ends (slice_index_or os i d).ends (slice_index_or os j d).ends more
              (stayed_then r (i + 1) (j + 1) (slice_index_or ns i d).ends (slice_index_or ns j d).ends (slice_index_or ms i d).ends (slice_index_or ms j d).ends (slice_index_or os i d).ends (slice_index_or os j d).ends
              (a.left i j d lt within (λ x. apart i j x y)) (b.done i j d lt (omega (arith, within, a.count)) y))
        ];
        left = λ i j d lt within w.
            stay_on (i + 1) (j + 1) (slice_index_or ns i d).ends (slice_index_or ns j d).ends (slice_index_or ms i d).ends (slice_index_or ms j d).ends (slice_index_or os i d).ends (slice_index_or os j d).ends
            (a.left i j d lt within (λ x. w (in_p i j x))) (b.left i j d lt (omega (arith, within, a.count)) (λ y. w (in_q i j y)));
      }

  module _ (r : Bool) (low high : ℕ) (ns ms : List (RaceNode C G)) (order : low < high) (within : high < length ns)
      (numbered : (i : ℕ) (d : RaceNode C G) → i < length ns → (slice_index_or ns i d).ends.node ≡ i + 1) (h : PlacesSettled r low high ns ms) where
    same_each : (i : ℕ) (d : RaceNode C G) → SameButEnds (slice_index_or ns i d) (slice_index_or ms i d)
    same_each i d = elim (cases_eq i low) [
      | inl e ↦ subst (λ (k : ℕ). SameButEnds (slice_index_or ns k d) (slice_index_or ms k d)) (sym e)
          (record { same = (h.two d).here; node_ = (h.two d).ends_.only_here.0; width = (h.two d).ends_.only_here.1 })
      | inr no_low ↦ elim (cases_eq i high) [
        | inl e ↦ subst (λ (k : ℕ). SameButEnds (slice_index_or ns k d) (slice_index_or ms k d)) (sym e)
            (record { same = (h.two d).there; node_ = (h.two d).ends_.only_there.0; width = (h.two d).ends_.only_there.1 })
        | inr no_high ↦ subst (λ (x : RaceNode C G). SameButEnds (slice_index_or ns i d) x) (sym (h.rest i d no_low no_high)) (same_self (slice_index_or ns i d))
      ]
    ]

    low_node : (d : RaceNode C G) → (slice_index_or ns low d).ends.node ≡ low + 1
    low_node d = numbered low d (omega (arith, order, within))

    high_node : (d : RaceNode C G) → (slice_index_or ns high d).ends.node ≡ high + 1
    high_node d = numbered high d within

    -- a link of a node to another with which it was not settled
    link_stays : (k s : ℕ) (d : RaceNode C G) → k ≢ s → (k ≡ low → s ≢ high) → (k ≡ high → s ≢ low) → (x : Link) → link_to (slice_index_or ms k d).ends (s + 1) x ≡ link_to (slice_index_or ns k d).ends (s + 1) x
    link_stays k s d apart not_high not_low x = elim (cases_eq k low) [
      | inl e ↦ subst (λ (z : ℕ). link_to (slice_index_or ms z d).ends (s + 1) x ≡ link_to (slice_index_or ns z d).ends (s + 1) x) (sym e)
          (let a = low_node d in let b = high_node d in let n = not_high e in
          only_stays (slice_index_or ns low d).ends (slice_index_or ms low d).ends (slice_index_or ns high d).ends.node (s + 1) (omega (arith, a)) (h.two d).ends_.only_here
          (λ q. absurd (omega (arith, q, a, e, apart))) (λ q. absurd (omega (arith, q, a, b, order))) (omega arith) (omega (arith, b)) (λ q. absurd (omega (arith, q, b, n))) x)
      | inr no_low ↦ elim (cases_eq k high) [
        | inl e ↦ subst (λ (z : ℕ). link_to (slice_index_or ms z d).ends (s + 1) x ≡ link_to (slice_index_or ns z d).ends (s + 1) x) (sym e)
            (let a = low_node d in let b = high_node d in let n = not_low e in
            only_stays (slice_index_or ns high d).ends (slice_index_or ms high d).ends (slice_index_or ns low d).ends.node (s + 1) (omega (arith, b)) (h.two d).ends_.only_there
            (λ q. absurd (omega (arith, q, b, e, apart))) (λ q. absurd (omega (arith, q, a, b, order))) (omega arith) (omega (arith, a)) (λ q. absurd (omega (arith, q, a, n))) x)
        | inr no_high ↦ ap (λ (z : RaceNode C G). link_to z.ends (s + 1) x) (h.rest k d no_low no_high)
      ]
    ]

    links_settled : (d : RaceNode C G) → LinksSettled r (low + 1) (high + 1) (slice_index_or ns low d).ends (slice_index_or ns high d).ends (slice_index_or ms low d).ends (slice_index_or ms high d).ends
    links_settled d =
        subst (λ (x : ℕ). LinksSettled r x (high + 1) (slice_index_or ns low d).ends (slice_index_or ns high d).ends (slice_index_or ms low d).ends (slice_index_or ms high d).ends) (low_node d)
        (subst (λ (y : ℕ). LinksSettled r (slice_index_or ns low d).ends.node y (slice_index_or ns low d).ends (slice_index_or ns high d).ends (slice_index_or ms low d).ends (slice_index_or ms high d).ends) (high_node d)
        (h.two d).ends_.links_)

    -- two nodes are settled
    pub places_settled : SettledWhere r (λ i j. (i ≡ low) × (j ≡ high)) ns ms
    places_settled =
        record {
          count = h.count;
          each = λ i d lt. same_each i d;
          done = λ i j d lt inside w.
              subst (λ (k : ℕ). LinksSettled r (k + 1) (j + 1) (slice_index_or ns k d).ends (slice_index_or ns j d).ends (slice_index_or ms k d).ends (slice_index_or ms j d).ends) (sym w.0)
              (subst (λ (k : ℕ). LinksSettled r (low + 1) (k + 1) (slice_index_or ns low d).ends (slice_index_or ns k d).ends (slice_index_or ms low d).ends (slice_index_or ms k d).ends) (sym w.1) (links_settled d));
          left = λ i j d lt inside w.
              record {
                here = link_stays i j d (λ q. absurd (omega (arith, q, lt))) (λ p q. w (p, q)) (λ p q. absurd (omega (arith, p, q, lt, order)));
                there = link_stays j i d (λ q. absurd (omega (arith, q, lt))) (λ p q. absurd (omega (arith, p, q, lt, order))) (λ p q. w (q, p));
              };
        }

  -- two nodes that are not settled yet can be
  pub can_settle : (ok : Bool) (which : ℕ → ℕ → Type 0) (ns ms : List (RaceNode C G)) → AreMet ns → SettledWhere ok which ns ms → (i j : ℕ) → i < j → j < length ns → (which i j → ⊥) → (d : RaceNode C G)
      → CanSettle (slice_index_or ms i d) (slice_index_or ms j d)
  can_settle ok which ns ms met s i j lt within w d =
      let a = slice_index_or ns i d in
      let b = slice_index_or ns j d in
      let a' = slice_index_or ms i d in
      let b' = slice_index_or ms j d in
      let inside : i < length ns = omega (arith, lt, within) in
      let sa = s.each i d inside in
      let sb = s.each j d within in
      let na : a.ends.node ≡ i + 1 = met.numbered i d inside in
      let nb : b.ends.node ≡ j + 1 = met.numbered j d within in
      let na' : a'.ends.node ≡ i + 1 = sa.node_ ∙ na in
      let nb' : b'.ends.node ≡ j + 1 = sb.node_ ∙ nb in
      let wa = met.width i d inside in
      let wb = met.width j d within in
      let wa' = sa.width in
      let wb' = sb.width in
      let stay = s.left i j d lt within w in
      let there : place_of (i + 1) (j + 1) + 1 < length ns + 0 = place_within (i + 1) (j + 1) (length ns) (λ q. absurd (omega (arith, q, lt))) (omega arith) (omega (arith, within)) (omega arith) (omega (arith, inside)) in
      let here : place_of (j + 1) (i + 1) + 1 < length ns + 0 = place_within (j + 1) (i + 1) (length ns) (λ q. absurd (omega (arith, q, lt))) (omega arith) (omega (arith, inside)) (omega arith) (omega (arith, within)) in
      let at : place_of a'.ends.node b'.ends.node ≡ place_of (i + 1) (j + 1) = (λ k. place_of (na' k) (nb' k)) in
      let back : place_of b'.ends.node a'.ends.node ≡ place_of (j + 1) (i + 1) = (λ k. place_of (nb' k) (na' k)) in
      record {
        here = ((λ q. absurd (omega (arith, q, na', nb', lt))), omega (arith, nb'), omega (arith, at, there, wa, wa'));
        there = ((λ q. absurd (omega (arith, q, na', nb', lt))), omega (arith, na'), omega (arith, back, here, wb, wb'));
        meet = λ x.
            subst_two (λ l k. AreLinked l k) (link_to a.ends b.ends.node x) (link_to b.ends a.ends.node x) (link_to a'.ends b'.ends.node x) (link_to b'.ends a'.ends.node x)
            (ap (λ (y : ℕ). link_to a'.ends y x) nb' ∙ (stay.here x ∙ ap (λ (y : ℕ). link_to a.ends y x) (sym nb)))
            (ap (λ (y : ℕ). link_to b'.ends y x) na' ∙ (stay.there x ∙ ap (λ (y : ℕ). link_to b.ends y x) (sym na)))
            (met.meet i j d lt within x);
      }

  -- ---- a row, and all rows

  numbered_still : (ok : Bool) (which : ℕ → ℕ → Type 0) (ns ms : List (RaceNode C G)) → AreMet ns → SettledWhere ok which ns ms → (i : ℕ) (d : RaceNode C G) → i < length ms → (slice_index_or ms i d).ends.node ≡ i + 1
  numbered_still ok which ns ms met s i d h = let h' : i < length ns = omega (arith, h, s.count) in (s.each i d h').node_ ∙ met.numbered i d h'

  pub row_first : (high : ℕ) (ns : List (RaceNode C G)) → RowSettled true 0 high ns ns
  row_first high ns = none_settled true (λ i j. (j ≡ high) × (i < 0)) ns (λ i j w. (let h = w.1 in omega (arith, h)))

  pub row_next : (ok r new : Bool) (low high : ℕ) (ns ms os : List (RaceNode C G)) → AreMet ns → low < high → high < length ns → (new ≡ true → ok ≡ true) → (new ≡ true → r ≡ true)
      → RowSettled ok low high ns ms → PlacesSettled r low high ms os → RowSettled new (low + 1) high ns os
  row_next ok r new low high ns ms os met order within less more a h =
      settled_on ok r new (λ i j. (j ≡ high) × (i < low)) (λ i j. (i ≡ low) × (j ≡ high)) (λ i j. (j ≡ high) × (i < low + 1)) ns ms os less more
      (λ i j lt w. by_place i j w (cases_lt i low)) (λ i j w. (w.0, (let x = w.1 in omega (arith, x)))) (λ i j w. (w.1, (let x = w.0 in omega (arith, x)))) (λ i j v w. (let x = v.1 in let y = w.0 in omega (arith, x, y)))
      a (places_settled r low high ms os order (omega (arith, within, a.count)) (numbered_still ok (λ i j. (j ≡ high) × (i < low)) ns ms met a) h)
    where
      by_place : (i j : ℕ) → (j ≡ high) × (i < low + 1) → (i < low) ⊎ (low ≤ i) → ((j ≡ high) × (i < low)) ⊎ ((i ≡ low) × (j ≡ high))
      by_place i j w (inl x) = inl (w.0, x)
      by_place i j w (inr x) = inr ((let y = w.1 in omega (arith, x, y)), w.0)

  -- the next of a row can be settled
  pub row_can : (ok : Bool) (low high : ℕ) (ns ms : List (RaceNode C G)) → AreMet ns → RowSettled ok low high ns ms → low < high → high < length ns → (d : RaceNode C G) → CanSettle (slice_index_or ms low d) (slice_index_or ms high d)
  row_can ok low high ns ms met a order within d =
      can_settle ok (λ i j. (j ≡ high) × (i < low)) ns ms met a low high order within (λ w. (let x = w.1 in omega (arith, x))) d

  pub all_first : (ns : List (RaceNode C G)) → SettledTo true 0 ns ns
  all_first ns = none_settled true (λ i j. j < 0) ns (λ i j w. omega (arith, w))

  pub all_next : (ok r new : Bool) (high : ℕ) (ns ms os : List (RaceNode C G)) → (new ≡ true → ok ≡ true) → (new ≡ true → r ≡ true) → SettledTo ok high ns ms → RowSettled r high high ms os → SettledTo new (high + 1) ns os
  all_next ok r new high ns ms os less more a b =
      settled_on ok r new (λ i j. j < high) (λ i j. (j ≡ high) × (i < high)) (λ i j. j < high + 1) ns ms os less more
      (λ i j lt w. by_place i j lt w (cases_lt j high)) (λ i j w. omega (arith, w)) (λ i j w. (let x = w.0 in omega (arith, x))) (λ i j v w. (let y = w.0 in omega (arith, v, y)))
      a b
    where
      by_place : (i j : ℕ) → i < j → j < high + 1 → (j < high) ⊎ (high ≤ j) → (j < high) ⊎ ((j ≡ high) × (i < high))
      by_place i j lt w (inl x) = inl x
      by_place i j lt w (inr x) = inr (omega (arith, w, x), omega (arith, w, lt))

  -- nodes that met still do
  pub met_still : (ok : Bool) (high : ℕ) (ns ms : List (RaceNode C G)) → AreMet ns → SettledTo ok high ns ms → AreMet ms
  met_still ok high ns ms met s =
      record {
        numbered = numbered_still ok (λ i j. j < high) ns ms met s;
        width = λ i d h. let h' : i < length ns = omega (arith, h, s.count) in let a = (s.each i d h').width in let b = met.width i d h' in let c = s.count in omega (arith, a, b, c);
        meet = λ i j d lt h. meets i j d lt (omega (arith, h, s.count)) (cases_lt j high);
      }
    where
      meets : (i j : ℕ) (d : RaceNode C G) → i < j → j < length ns → (j < high) ⊎ (high ≤ j) → Meet (slice_index_or ms i d).ends (slice_index_or ms j d).ends
      meets i j d lt h by x =
          let inside : i < length ns = omega (arith, lt, h) in
          let na = met.numbered i d inside in
          let nb = met.numbered j d h in
          let na' = (s.each i d inside).node_ ∙ na in
          let nb' = (s.each j d h).node_ ∙ nb in
          let was : AreLinked (link_to (slice_index_or ns i d).ends (j + 1) x) (link_to (slice_index_or ns j d).ends (i + 1) x) =
          subst (λ (y : ℕ). AreLinked (link_to (slice_index_or ns i d).ends (j + 1) x) (link_to (slice_index_or ns j d).ends y x)) na
          (subst (λ (y : ℕ). AreLinked (link_to (slice_index_or ns i d).ends y x) (link_to (slice_index_or ns j d).ends (slice_index_or ns i d).ends.node x)) nb (met.meet i j d lt h x)) in
          subst (λ (y : ℕ). AreLinked (link_to (slice_index_or ms i d).ends y x) (link_to (slice_index_or ms j d).ends (slice_index_or ms i d).ends.node x)) (sym nb')
          (subst (λ (y : ℕ). AreLinked (link_to (slice_index_or ms i d).ends (j + 1) x) (link_to (slice_index_or ms j d).ends y x)) (sym na')
          (linked i j d lt h by x was))
        where
          linked : (i j : ℕ) (d : RaceNode C G) → i < j → j < length ns → (j < high) ⊎ (high ≤ j) → (x : Link) → AreLinked (link_to (slice_index_or ns i d).ends (j + 1) x) (link_to (slice_index_or ns j d).ends (i + 1) x)
              → AreLinked (link_to (slice_index_or ms i d).ends (j + 1) x) (link_to (slice_index_or ms j d).ends (i + 1) x)
          linked i j d lt h (inl low) x was =
              let q = s.done i j d lt h low in
              linked_on (link_to (slice_index_or ns i d).ends (j + 1) x) (link_to (slice_index_or ns j d).ends (i + 1) x) (link_to (slice_index_or ms i d).ends (j + 1) x) (link_to (slice_index_or ms j d).ends (i + 1) x) was (q.same_here x) (q.same_there x)
          linked i j d lt h (inr late) x was =
              let q = s.left i j d lt h (λ w. omega (arith, w, late)) in
              subst_two (λ l k. AreLinked l k) (link_to (slice_index_or ns i d).ends (j + 1) x) (link_to (slice_index_or ns j d).ends (i + 1) x) (link_to (slice_index_or ms i d).ends (j + 1) x) (link_to (slice_index_or ms j d).ends (i + 1) x) (q.here x) (q.there x) was

  -- ---- as the loops have it

  pub row_end : (ok : Bool) (low high : ℕ) (ns ms : List (RaceNode C G)) → low ≡ high → RowSettled ok low high ns ms → RowSettled ok high high ns ms
  row_end ok low high ns ms e a = subst (λ (x : ℕ). RowSettled ok x high ns ms) e a

  pub row_more : (ok r q : Bool) (low high : ℕ) (ns ms os : List (RaceNode C G)) → AreMet ns → low < high → high < length ns → q ≡ r → RowSettled ok low high ns ms → PlacesSettled r low high ms os → RowSettled (ok && q) (low + 1) high ns os
  row_more ok r q low high ns ms os met order within e a h = row_next ok r (ok && q) low high ns ms os met order within (λ x. (and_parts ok q x).0) (λ x. sym e ∙ (and_parts ok q x).1) a h

  pub all_more : (ok r : Bool) (high : ℕ) (ns ms os : List (RaceNode C G)) → SettledTo ok high ns ms → RowSettled r high high ms os → SettledTo (ok && r) (high + 1) ns os
  all_more ok r high ns ms os a b = all_next ok r (ok && r) high ns ms os (λ e. (and_parts ok r e).0) (λ e. (and_parts ok r e).1) a b

  pub all_end : (ok : Bool) (high n : ℕ) (ns ms : List (RaceNode C G)) → high ≡ n → SettledTo ok high ns ms → SettledTo ok n ns ms
  all_end ok high n ns ms e a = subst (λ (x : ℕ). SettledTo ok x ns ms) e a
