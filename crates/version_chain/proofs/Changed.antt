-- What taking a slot out, and settling one, do to the versions in order.
use Rattle.std.proofs.Common.{Bool, IsSome, List, None, Option, Some, [], ap, arith, false, if◌then◌else◌, inl, inr, is_some, not, option_map, refl, subst, sym, true, ℕ, ◌&&◌, ◌==◌, ◌||◌, ◌∙◌, ◌∷◌, ◌≡◌}
use Rattle.std.proofs.lemmas.Bool.Decides.{nat_tests}
use Rattle.str_base.specs.declared.names.KeyId.{KeyId}
use Rattle.str_base.specs.declared.names.Kind.TheVariants.{Final}
use Rattle.str_base.specs.declared.names.Ts.{Ts}
use Rattle.str_base.specs.declared.names.Version.{Version}
use Rattle.str_base.specs.Versions.{finalise, is_before, settled, without}
use Rattle.link_arena.specs.Arenas.{AreLists, ArenaView, at, dated, key_list, next_of}
use Rattle.link_arena.specs.HeadLists.{key_names}
use Rattle.link_arena.specs.OneSide.{is_named}
use Rattle.link_arena.specs.Rows.{Once, first_or, is_at, is_in, put_before, taken}
use Rattle.link_arena.specs.NameOrders.{key_one}
use Rattle.link_arena.proofs.ArenaLemmas.{has_key}
use Rattle.link_arena.proofs.RowLemmas.{deeper, here, in_taken}
use Rattle.str_base.proofs.Tests.{eqb_self}
use Rattle.version_chain.specs.ChainLists.{Apart, Each, IsOrdered, Precedes}
use Rattle.version_chain.specs.Flat.{IsChains, flat, goes_before, picked, spot}
use Rattle.version_chain.specs.Walks.{with_version}
use Rattle.version_chain.proofs.Each.{each_so}
use Rattle.version_chain.proofs.Flats.{flat_found, flat_has, flat_ordered, picked_has}
use Rattle.link_arena.proofs.Listed.{there}
use Rattle.version_chain.proofs.Keeping.{ordered_filter, ordered_finalise, ordered_insert}
use Rattle.std.proofs.lemmas.Bool.{and_parts, not-true}
use Rattle.str_base.proofs.Members.{In, filter_in, in_filter}
use Rattle.version_chain.proofs.Telling.{each_in, finalise_keeps, finalise_settles, in_finalise, ordered_tells}
use Rattle.str_base.proofs.Order.{apart_back, before_trans}
use Rattle.version_chain.proofs.Spots.{picked_alike, put_picked, spot_in}

-- ---- a list without a slot

each_rest : (P : Version → Type 0) (o : Option Version) (vs : List Version) → Each P (with_version o vs) → Each P vs
each_rest P None vs e = e
each_rest P (Some v) vs e = e.1

each_other : (P : Version → Type 0) (o : Option Version) (vs ws : List Version) → Each P (with_version o vs) → Each P ws → Each P (with_version o ws)
each_other P None vs ws e q = q
each_other P (Some v) vs ws e q = (e.0, q)

each_taken : (P : Version → Type 0) (f : ℕ → Option Version) (s : ℕ) (ss : List ℕ) → Each P (picked f ss) → Each P (picked f (taken s ss))
each_taken P f s [] e = e
each_taken P f s (u ∷ us) e = by_test (s == u) (each_taken P f s us (each_rest P (f u) (picked f us) e))
  where
    by_test : (b : Bool) → Each P (picked f (taken s us)) → Each P (picked f (if b then us else u ∷ taken s us))
    by_test true rec = each_rest P (f u) (picked f us) e
    by_test false rec = each_other P (f u) (picked f us) (picked f (taken s us)) e rec

ordered_rest : (o : Option Version) (vs : List Version) → IsOrdered (with_version o vs) → IsOrdered vs
ordered_rest None vs o = o
ordered_rest (Some v) vs o = o.1

pub ordered_taken : (f : ℕ → Option Version) (s : ℕ) (ss : List ℕ) → IsOrdered (picked f ss) → IsOrdered (picked f (taken s ss))
ordered_taken f s [] o = o
ordered_taken f s (u ∷ us) o = by_test (s == u) (ordered_taken f s us (ordered_rest (f u) (picked f us) o))
  where
    by_option : (x : Option Version) → IsOrdered (with_version x (picked f us)) → IsOrdered (picked f (taken s us)) → IsOrdered (with_version x (picked f (taken s us)))
    by_option None p rec = rec
    by_option (Some v) p rec = (each_taken (Precedes v) f s us p.0, rec)

    by_test : (b : Bool) → IsOrdered (picked f (taken s us)) → IsOrdered (picked f (if b then us else u ∷ taken s us))
    by_test true rec = ordered_rest (f u) (picked f us) o
    by_test false rec = by_option (f u) o rec

-- the version of the slot differs from all others of its key
pub apart_taken : (f : ℕ → Option Version) (v : Version) (s : ℕ) (ss : List ℕ) → IsOrdered (picked f ss) → is_in s ss ≡ true → f s ≡ Some v → Each (Apart v) (picked f (taken s ss))
apart_taken f v s [] o h e = tt
apart_taken f v s (u ∷ us) o h e = by_test (s == u) refl h (λ k. apart_taken f v s us (ordered_rest (f u) (picked f us) o) k e)
  where
    by_option : (x : Option Version) → IsOrdered (with_version x (picked f us)) → In v (picked f us) → Each (Apart v) (picked f (taken s us)) → Each (Apart v) (with_version x (picked f (taken s us)))
    by_option None p i rec = rec
    by_option (Some w) p i rec = (apart_back w v (each_in (Precedes w) (picked f us) v p.0 i).1, rec)

    by_test : (b : Bool) → (s == u) ≡ b → (b || is_in s us) ≡ true → (is_in s us ≡ true → Each (Apart v) (picked f (taken s us))) → Each (Apart v) (picked f (if b then us else u ∷ taken s us))
    by_test true q h rec =
        let r : s ≡ u = grind (arith, nat_tests) in
        let p = subst (λ x. IsOrdered (with_version x (picked f us))) (sym (ap f r) ∙ e) o in
        each_so (Precedes v) (Apart v) (picked f us) (λ w a. a.1) p.0
    by_test false q h rec = by_option (f u) o (picked_has f us s v h e) (rec h)

once_taken : (s : ℕ) (ss : List ℕ) → Once ss → Once (taken s ss)
once_taken s [] o = tt
once_taken s (u ∷ us) o = by_test (s == u) (once_taken s us o.1)
  where
    by_test : (b : Bool) → Once (taken s us) → Once (if b then us else u ∷ taken s us)
    by_test true rec = o.1
    by_test false rec = (in_taken u s us o.1 ∙ ap (λ (b : Bool). b && not (u == s)) o.0, rec)

-- the slots that are left
pub left_in : (u s : ℕ) (ss : List ℕ) → Once ss → is_in u (taken s ss) ≡ true → (is_in u ss ≡ true) × ((u == s) ≡ false)
left_in u s ss o h =
    let p = and_parts (is_in u ss) (not (u == s)) (sym (in_taken u s ss o) ∙ h) in
    (p.0, not-true (u == s) p.1)

-- a slot of another key
pub other_slot : (a : ArenaView) → AreLists a → (k : KeyId) (s : ℕ) (w : Version) → at a s ≡ Some w → key_names k w ≡ false → (u : ℕ) → is_in u (key_list a k) ≡ true → (u == s) ≡ false
other_slot a l k s w e n u i = by_test (u == s) refl
  where
    by_test : (b : Bool) → (u == s) ≡ b → b ≡ false
    by_test false q = refl
    by_test true q =
        let r : u ≡ s = grind (arith, nat_tests) in
        let j : is_in s (key_list a k) ≡ true = subst (λ x. is_in x (key_list a k) ≡ true) r i in
        let m : is_in s (key_list a k) ≡ false = l.in_key k s ∙ ap (λ o. is_named key_names k o) e ∙ n in
        absurd (cc)

-- ---- a slot is taken out

module _ (a b : ArenaView) (s : ℕ) (w : Version) (c : IsChains a) (l : AreLists b) (e : at a s ≡ Some w) (ats : (u : ℕ) → at b u ≡ (if u == s then None else at a u))
    (rows : (k : KeyId) → key_list b k ≡ (if key_names k w then taken s (key_list a k) else key_list a k)) where
  pub gone : at b s ≡ None
  gone = ats s ∙ ap (λ (t : Bool). if t then None else at a s) (eqb_self s)

  pub stays : (u : ℕ) → (u == s) ≡ false → at b u ≡ at a u
  stays u q = ats u ∙ ap (λ (t : Bool). if t then None else at a u) q

  pub unlinked_chains : IsChains b
  unlinked_chains = record { lists = l; order = λ k. by_name k (key_names k w) refl }
    where
      by_name : (k : KeyId) (t : Bool) → key_names k w ≡ t → IsOrdered (picked (at b) (key_list b k))
      by_name k true q =
          let ss = key_list a k in
          let r : key_list b k ≡ taken s ss = rows k ∙ ap (λ (t : Bool). if t then taken s ss else ss) q in
          let same = picked_alike (at a) (at b) (taken s ss) (λ u i. stays u (left_in u s ss (c.lists.once_in_key k) i).1) in
          subst IsOrdered (sym (ap (λ (ws : List ℕ). picked (at b) ws) r ∙ same)) (ordered_taken (at a) s ss (c.order k))
      by_name k false q =
          let ss = key_list a k in
          let r : key_list b k ≡ ss = rows k ∙ ap (λ (t : Bool). if t then taken s ss else ss) q in
          let same = picked_alike (at a) (at b) ss (λ u i. stays u (other_slot a c.lists k s w e q u i)) in
          subst IsOrdered (sym (ap (λ (ws : List ℕ). picked (at b) ws) r ∙ same)) (c.order k)

  -- where it fits, the others are those that were
  pub without_same : (test : Version → Bool) → test w ≡ true → without test (flat b) ≡ without test (flat a)
  without_same test h =
      ordered_tells (without test (flat b)) (without test (flat a)) (ordered_filter (λ v. not (test v)) (flat b) (flat_ordered b unlinked_chains)) (ordered_filter (λ v. not (test v)) (flat a) (flat_ordered a c))
      (λ v i. let p = in_filter (λ x. not (test x)) (flat b) v i in let r = flat_found b v p.0 in filter_in (λ x. not (test x)) (flat a) v (was v r.0 r.1 (r.0 == s) refl) p.1)
      (λ v i. let p = in_filter (λ x. not (test x)) (flat a) v i in let r = flat_found a v p.0 in filter_in (λ x. not (test x)) (flat b) v (flat_has b l r.0 v (stays r.0 (other v r.0 r.1 (not-true (test v) p.1) (r.0 == s) refl) ∙ r.1)) p.1)
    where
      was : (v : Version) (u : ℕ) → at b u ≡ Some v → (t : Bool) → (u == s) ≡ t → In v (flat a)
      was v u q true d = let r : u ≡ s = grind (arith, nat_tests) in let z = sym q ∙ ap (at b) r ∙ gone in absurd (cc)
      was v u q false d = flat_has a c.lists u v (sym (stays u d) ∙ q)

      other : (v : Version) (u : ℕ) → at a u ≡ Some v → test v ≡ false → (t : Bool) → (u == s) ≡ t → t ≡ false
      other v u q n false d = refl
      other v u q n true d = let r : u ≡ s = grind (arith, nat_tests) in let z : v ≡ w = cc (sym q ∙ ap (at a) r ∙ e) in let y = ap test z in absurd (cc)

-- ---- a slot is settled

-- the place among the others: where it would stand before its own slot, it stands before what follows
pub spot_taken : (f : ℕ → Option Version) (v w : Version) (s : ℕ) (ss : List ℕ) → Once ss → IsOrdered (picked f ss) → ((u : ℕ) → is_in u ss ≡ true → IsSome (f u)) → is_in s ss ≡ true → f s ≡ Some w
    → spot f v (taken s ss) ≡ (if is_at (spot f v ss) s then next_of s ss else spot f v ss)
spot_taken f v w s [] o p there h e = absurd (cc)
spot_taken f v w s (u ∷ us) o p there h e =
    by_test (s == u) refl h (λ k. spot_taken f v w s us o.1 (ordered_rest (f u) (picked f us) p) (λ x i. there x (deeper x u us i)) k e)
  where
    -- all that follow a version that it precedes
    first_spot : (y : Version) (xs : List ℕ) → Each (Precedes y) (picked f xs) → ((x : ℕ) → is_in x xs ≡ true → IsSome (f x)) → is_before v y ≡ true → spot f v xs ≡ first_or None xs
    first_spot y [] a t q = refl
    first_spot y (x ∷ xs) a t q = by_option (f x) refl (t x (here x xs)) a
      where
        by_option : (z : Option Version) → f x ≡ z → IsSome (f x) → Each (Precedes y) (with_version z (picked f xs)) → (if goes_before v (f x) then Some x else spot f v xs) ≡ Some x
        by_option None d i a = absurd (let r = sym (ap is_some d) ∙ i in cc)
        by_option (Some z) d i a = ap (λ (b : Bool). if b then Some x else spot f v xs) (ap (goes_before v) d ∙ before_trans v y z q a.0.0)

    by_test : (b : Bool) → (s == u) ≡ b → (b || is_in s us) ≡ true → (is_in s us ≡ true → spot f v (taken s us) ≡ (if is_at (spot f v us) s then next_of s us else spot f v us))
        → spot f v (if b then us else u ∷ taken s us) ≡ (if is_at (if goes_before v (f u) then Some u else spot f v us) s then (if b then first_or None us else next_of s us) else (if goes_before v (f u) then Some u else spot f v us))
    by_test true q h rec = by_before (goes_before v (f u)) refl
      where
        r : s ≡ u
        r = grind (arith, nat_tests)

        is_w : f u ≡ Some w
        is_w = sym (ap f r) ∙ e

        by_before : (g : Bool) → goes_before v (f u) ≡ g → spot f v us ≡ (if is_at (if g then Some u else spot f v us) s then first_or None us else (if g then Some u else spot f v us))
        by_before true d =
            first_spot w us (subst (λ x. IsOrdered (with_version x (picked f us))) is_w p).0 (λ x i. there x (deeper x u us i)) (sym (ap (goes_before v) is_w) ∙ d)
            ∙ sym (ap (λ (b : Bool). if b then first_or None us else Some u) q)
        by_before false d = sym (ap (λ (b : Bool). if b then first_or None us else spot f v us) (ap (λ (x : ℕ). is_at (spot f v us) x) r ∙ spot_in f v us u o.0))
    by_test false q h rec = by_before (goes_before v (f u))
      where
        by_before : (g : Bool) → (if g then Some u else spot f v (taken s us)) ≡ (if is_at (if g then Some u else spot f v us) s then next_of s us else (if g then Some u else spot f v us))
        by_before true = sym (ap (λ (b : Bool). if b then next_of s us else Some u) q)
        by_before false = rec h

module _ (a b : ArenaView) (s : ℕ) (w : Version) (fc : ℕ) (e : at a s ≡ Some w)
    (ats : (u : ℕ) → at b u ≡ (if u == s then option_map (settled fc) (at a u) else at a u)) where
  pub now : at b s ≡ Some (settled fc w)
  now = let q : (s == s) ≡ true = grind (arith, nat_tests) in ats s ∙ ap (λ (t : Bool). if t then option_map (settled fc) (at a s) else at a s) q ∙ ap (λ o. option_map (settled fc) o) e

  pub keeps : (u : ℕ) → (u == s) ≡ false → at b u ≡ at a u
  keeps u q = ats u ∙ ap (λ (t : Bool). if t then option_map (settled fc) (at a u) else at a u) q

module _ (a b : ArenaView) (s : ℕ) (w : Version) (fc : ℕ) (p : Option ℕ) (c : IsChains a) (l : AreLists b) (e : at a s ≡ Some w)
    (ats : (u : ℕ) → at b u ≡ (if u == s then option_map (settled fc) (at a u) else at a u))
    (rows : (k : KeyId) → key_list b k ≡ (if key_names k w then put_before p s (taken s (key_list a k)) else key_list a k))
    (place : p ≡ spot (at a) (settled fc w) (taken s (key_list a w.key))) where
  pub settled_chains : IsChains b
  settled_chains = record { lists = l; order = λ k. by_name k (key_names k w) refl }
    where
      at_key : IsOrdered (picked (at b) (put_before p s (taken s (key_list a w.key))))
      at_key =
          let ss = key_list a w.key in
          let once = c.lists.once_in_key w.key in
          let i : is_in s ss ≡ true = c.lists.in_key w.key s ∙ ap (λ o. is_named key_names w.key o) e ∙ has_key w in
          let put = put_picked (at a) (at b) (settled fc w) s (taken s ss) (once_taken s ss once) (λ u j. there a c.lists w.key u (left_in u s ss once j).0) (now a b s w fc e ats) (λ u j. keeps a b s w fc e ats u (left_in u s ss once j).1) in
          subst (λ (o : Option ℕ). IsOrdered (picked (at b) (put_before o s (taken s ss)))) (sym place)
          (subst IsOrdered (sym put) (ordered_insert (settled fc w) (picked (at a) (taken s ss)) (ordered_taken (at a) s ss (c.order w.key)) (apart_taken (at a) w s ss (c.order w.key) i e)))

      by_name : (k : KeyId) (t : Bool) → key_names k w ≡ t → IsOrdered (picked (at b) (key_list b k))
      by_name k true q =
          let m : w.key ≡ k = key_one w.key k w (has_key w) q in
          let ss = key_list a k in
          let r : key_list b k ≡ put_before p s (taken s ss) = rows k ∙ ap (λ (t : Bool). if t then put_before p s (taken s ss) else ss) q in
          subst (λ (ws : List ℕ). IsOrdered (picked (at b) ws)) (sym r) (subst (λ (x : KeyId). IsOrdered (picked (at b) (put_before p s (taken s (key_list a x))))) m at_key)
      by_name k false q =
          let ss = key_list a k in
          let r : key_list b k ≡ ss = rows k ∙ ap (λ (t : Bool). if t then put_before p s (taken s ss) else ss) q in
          let same = picked_alike (at a) (at b) ss (λ u i. keeps a b s w fc e ats u (other_slot a c.lists k s w e q u i)) in
          subst IsOrdered (sym (ap (λ (ws : List ℕ). picked (at b) ws) r ∙ same)) (c.order k)

module _ (a b : ArenaView) (s : ℕ) (w : Version) (fc : ℕ) (c : IsChains a) (d : IsChains b) (e : at a s ≡ Some w)
    (ats : (u : ℕ) → at b u ≡ (if u == s then option_map (settled fc) (at a u) else at a u)) where
  -- a commit of all comes to the same
  pub finalise_same : (test : Version → Bool) → ((v : Version) → test (settled fc v) ≡ test v) → test w ≡ true → finalise test fc (flat b) ≡ finalise test fc (flat a)
  finalise_same test f h =
      ordered_tells (finalise test fc (flat b)) (finalise test fc (flat a)) (ordered_finalise test fc (flat b) (flat_ordered b d)) (ordered_finalise test fc (flat a) (flat_ordered a c))
      (λ v i. elim (in_finalise test fc (flat b) v i) [
        | inl x ↦ let r = flat_found b v x.0 in back v r.0 r.1 x.1 (r.0 == s) refl
        | inr x ↦ let y = in_filter test (flat b) x.origin x.listed in let r = flat_found b x.origin y.0 in
            subst (λ z. In z (finalise test fc (flat a))) (sym x.is) (back_settled x.origin r.0 r.1 y.1 (r.0 == s) refl)
      ])
      (λ v i. elim (in_finalise test fc (flat a) v i) [
        | inl x ↦ let r = flat_found a v x.0 in finalise_keeps test fc (flat b) v (flat_has b d.lists r.0 v (keeps a b s w fc e ats r.0 (other v r.0 r.1 x.1 (r.0 == s) refl) ∙ r.1)) x.1
        | inr x ↦ let y = in_filter test (flat a) x.origin x.listed in let r = flat_found a x.origin y.0 in
            subst (λ z. In z (finalise test fc (flat b))) (sym x.is) (on_settled x.origin r.0 r.1 y.1 (r.0 == s) refl)
      ])
    where
      is_now : (v : Version) (u : ℕ) → at b u ≡ Some v → (u == s) ≡ true → v ≡ settled fc w
      is_now v u q k = let r : u ≡ s = grind (arith, nat_tests) in cc (sym q ∙ ap (at b) r ∙ now a b s w fc e ats)

      is_was : (v : Version) (u : ℕ) → at a u ≡ Some v → (u == s) ≡ true → v ≡ w
      is_was v u q k = let r : u ≡ s = grind (arith, nat_tests) in cc (sym q ∙ ap (at a) r ∙ e)

      other : (v : Version) (u : ℕ) → at a u ≡ Some v → test v ≡ false → (t : Bool) → (u == s) ≡ t → t ≡ false
      other v u q n false k = refl
      other v u q n true k = let y = ap test (is_was v u q k) in absurd (cc)

      back : (v : Version) (u : ℕ) → at b u ≡ Some v → test v ≡ false → (t : Bool) → (u == s) ≡ t → In v (finalise test fc (flat a))
      back v u q n true k = let y = ap test (is_now v u q k) ∙ f w ∙ h in absurd (cc)
      back v u q n false k = finalise_keeps test fc (flat a) v (flat_has a c.lists u v (sym (keeps a b s w fc e ats u k) ∙ q)) n

      back_settled : (v : Version) (u : ℕ) → at b u ≡ Some v → test v ≡ true → (t : Bool) → (u == s) ≡ t → In (settled fc v) (finalise test fc (flat a))
      back_settled v u q n true k = subst (λ z. In (settled fc z) (finalise test fc (flat a))) (sym (is_now v u q k)) (finalise_settles test fc (flat a) w (flat_has a c.lists s w e) h)
      back_settled v u q n false k = finalise_settles test fc (flat a) v (flat_has a c.lists u v (sym (keeps a b s w fc e ats u k) ∙ q)) n

      on_settled : (v : Version) (u : ℕ) → at a u ≡ Some v → test v ≡ true → (t : Bool) → (u == s) ≡ t → In (settled fc v) (finalise test fc (flat b))
      on_settled v u q n true k = subst (λ z. In (settled fc z) (finalise test fc (flat b))) (sym (is_was v u q k)) (finalise_settles test fc (flat b) (settled fc w) (flat_has b d.lists s (settled fc w) (now a b s w fc e ats)) (f w ∙ h))
      on_settled v u q n false k = finalise_settles test fc (flat b) v (flat_has b d.lists u v (keeps a b s w fc e ats u k ∙ q)) n

-- where each that fits is settled, a commit changes nothing
pub finalise_none : (test : Version → Bool) (fc : ℕ) (vs : List Version) → IsOrdered vs → ((v : Version) → In v vs → test v ≡ true → settled fc v ≡ v) → finalise test fc vs ≡ vs
finalise_none test fc vs o f =
    ordered_tells (finalise test fc vs) vs (ordered_finalise test fc vs o) o
    (λ v i. elim (in_finalise test fc vs v i) [
      | inl x ↦ x.0
      | inr x ↦ let y = in_filter test vs x.origin x.listed in subst (λ z. In z vs) (sym (x.is ∙ f x.origin y.0 y.1)) y.0
    ])
    (λ v i. by_test v i (test v) refl)
  where
    by_test : (v : Version) → In v vs → (b : Bool) → test v ≡ b → In v (finalise test fc vs)
    by_test v i true h = subst (λ z. In z (finalise test fc vs)) (f v i h) (finalise_settles test fc vs v i h)
    by_test v i false h = finalise_keeps test fc vs v i h

-- a version with another timestamp and kind is as its commit leaves it
pub dated_is : (fc : Ts) (o : Option Version) → dated fc Final o ≡ option_map (settled fc.0) o
dated_is fc None = refl
dated_is fc (Some v) = refl

pub the_some : (o : Option Version) → IsSome o → (w : Version) × (o ≡ Some w)
the_some None h = absurd (cc)
the_some (Some w) h = (w, refl)

pub settled_again : (fc : ℕ) (v x : Version) (o : Option Version) → o ≡ Some (settled fc v) → o ≡ Some x → settled fc x ≡ x
settled_again fc v x o e d = let q : settled fc v ≡ x = cc (sym e ∙ d) in subst (λ z. settled fc z ≡ z) q refl
