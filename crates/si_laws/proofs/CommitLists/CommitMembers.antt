-- The members of a commit list, and what one more commit does to what the scripts see.
use Rattle.std.proofs.Common.{Bool, List, None, Option, Some, [], ap, append_assoc, append-nil, false, filter, if◌then◌else◌, inl, inr, le-leb, leb-false, leb-true, nat_le, refl, subst, sym, true, ℕ, ◌&&◌, ◌++◌, ◌<◌, ◌∙◌, ◌∷◌, ◌≡◌, ◌≤◌, ◌⊎◌}
use Rattle.std.proofs.lemmas.List.Elements.{filter-append}
use Rattle.std.specs.List.{last_or}
use Rattle.str_base.specs.declared.names.KeyId.{KeyId}
use Rattle.str_model.specs.declared.messages.Answer.{Answer}
use Rattle.si_laws.specs.Commits.{Commit, Member, evaluated, fc_before, look_up, member_of, members_from, written_value}
use Rattle.str_model.specs.Owned.{wrote_key}
use Rattle.str_model.specs.Evaluation.{eval}
use Rattle.str_scene.specs.Scenes.{Scene, script_at}
use Rattle.si_laws.proofs.CommitLists.AnswerAdded.{before, not_before_itself, not_both}
use Rattle.si_laws.proofs.CommitLists.CommitOrder.{InOrder}
use Rattle.str_base.proofs.Members.{in_append}
use Rattle.str_base.specs.Members.{In}

-- ---- the members of the rest of a commit list, after those in past

unfoldable pub rest : Scene → List Member → List Commit → List Member
rest scene past [] = []
rest scene past (c ∷ cs) = member_of scene past c ∷ rest scene (past ++ member_of scene past c ∷ []) cs

pub members_rest : (scene : Scene) (past : List Member) (cs : List Commit) → members_from scene past cs ≡ past ++ rest scene past cs
unfolding rest
members_rest scene past [] = sym (append-nil past)
members_rest scene past (c ∷ cs) =
    members_rest scene (past ++ member_of scene past c ∷ []) cs ∙ append_assoc past (member_of scene past c ∷ []) (rest scene (past ++ member_of scene past c ∷ []) cs)

pub members_append : (scene : Scene) (past : List Member) (cs ds : List Commit) → members_from scene past (cs ++ ds) ≡ members_from scene (members_from scene past cs) ds
members_append scene past [] ds = refl
members_append scene past (c ∷ cs) ds = members_append scene (past ++ member_of scene past c ∷ []) cs ds

-- each of them is of a commit
pub in_rest : (scene : Scene) (past : List Member) (cs : List Commit) (m : Member) → In m (rest scene past cs) → (c : Commit) × (In c cs) × (c.fc ≡ m.fc) × (c.answer.tx ≡ m.tx)
unfolding rest
in_rest scene past [] m h = absurd h
in_rest scene past (c ∷ cs) m (inl e) = (c, inl refl, ap (λ z. z.fc) e, ap (λ z. z.tx) e)
in_rest scene past (c ∷ cs) m (inr h) = let r = in_rest scene (past ++ member_of scene past c ∷ []) cs m h in (r.0, inr r.1, r.2, r.3)

-- ---- those that stand before a commit

abbrev pub stands_before : Commit → Member → Bool
stands_before d m = fc_before m.fc m.tx d.fc d.answer.tx

pub filter_all : (test : Member → Bool) (xs : List Member) → ((x : Member) → In x xs → test x ≡ true) → filter test xs ≡ xs
filter_all test [] h = refl
filter_all test (x ∷ xs) h = rw (h x (inl refl)) (ap (λ ys. x ∷ ys) (filter_all test xs (λ y k. h y (inr k))))

pub filter_none : (test : Member → Bool) (xs : List Member) → ((x : Member) → In x xs → test x ≡ false) → filter test xs ≡ []
filter_none test [] h = refl
filter_none test (x ∷ xs) h = rw (h x (inl refl)) (filter_none test xs (λ y k. h y (inr k)))

pub filter_first : (test : Member → Bool) (xs ys : List Member) → ((x : Member) → In x xs → test x ≡ true) → ((y : Member) → In y ys → test y ≡ false) → filter test (xs ++ ys) ≡ xs
filter_first test xs ys p q =
    filter-append test xs ys ∙ (ap (λ zs. zs ++ filter test ys) (filter_all test xs p) ∙ (ap (λ zs. xs ++ zs) (filter_none test ys q) ∙ append-nil xs))

-- those of past stand before each of the list
abbrev pub AllBefore : List Member → List Commit → Type 0
AllBefore past ds = (x : Member) → In x past → (d : Commit) → In d ds → stands_before d x ≡ true

-- of the whole list those stand before its first that stood in past
pub before_first : (scene : Scene) (past : List Member) (d : Commit) (ds : List Commit) → AllBefore past (d ∷ ds) → InOrder (d ∷ ds)
    → filter (stands_before d) (past ++ rest scene past (d ∷ ds)) ≡ past
before_first scene past d ds b s = filter_first (stands_before d) past (rest scene past (d ∷ ds)) (λ x h. b x h d (inl refl)) not_later
  where
    later : (c : Commit) → In c (d ∷ ds) → before c d ≡ false
    later c (inl e) = subst (λ z. before z d ≡ false) e (by_test (before d d) refl)
      where
        by_test : (t : Bool) → before d d ≡ t → before d d ≡ false
        by_test true q = absurd (not_before_itself d.fc d.answer.tx q)
        by_test false q = q
    later c (inr h) = not_both d.fc c.fc d.answer.tx c.answer.tx (s.0 c h)

    not_later : (y : Member) → In y (rest scene past (d ∷ ds)) → stands_before d y ≡ false
    not_later y h = let r = in_rest scene past (d ∷ ds) y h in
        subst (λ z. fc_before z y.tx d.fc d.answer.tx ≡ false) r.2 (subst (λ z. fc_before r.0.fc z d.fc d.answer.tx ≡ false) r.3 (later r.0 r.1))

pub all_before_next : (scene : Scene) (past : List Member) (d : Commit) (ds : List Commit) → AllBefore past (d ∷ ds) → InOrder (d ∷ ds)
    → AllBefore (past ++ member_of scene past d ∷ []) ds
all_before_next scene past d ds b s x h c k = by_place (in_append past (member_of scene past d ∷ []) x h)
  where
    by_place : In x past ⊎ In x (member_of scene past d ∷ []) → stands_before c x ≡ true
    by_place (inl i) = b x i c (inr k)
    by_place (inr (inl e)) = subst (λ z. stands_before c z ≡ true) e (s.0 c k)
    by_place (inr (inr e)) = absurd e

-- ---- one more member in the past

-- the commit's script gives the same with the further member as without it, on those of the list that stand before the commit
abbrev pub IsUnmoved : Scene → List Member → Member → List Member → Commit → Type 0
IsUnmoved scene p m q d =
    (q' : List Member) → filter (stands_before d) (p ++ q) ≡ p ++ q' → evaluated scene (p ++ m ∷ q') d.answer ≡ evaluated scene (p ++ q') d.answer

pub with_member : (scene : Scene) (p : List Member) (m : Member) (q' q : List Member) (ds : List Commit) → p ++ q ≡ (p ++ q') ++ rest scene (p ++ q') ds → AllBefore (p ++ q') ds
    → InOrder ds → ((d : Commit) → In d ds → IsUnmoved scene p m q d) → members_from scene (p ++ m ∷ q') ds ≡ p ++ m ∷ (q' ++ rest scene (p ++ q') ds)
unfolding rest
with_member scene p m q' q [] w b s u = ap (λ z. p ++ m ∷ z) (sym (append-nil q'))
with_member scene p m q' q (d ∷ ds) w b s u =
    ap (λ y. members_from scene y ds) moved ∙ (with_member scene p m (q' ++ x ∷ []) q ds whole next s.1 (λ c h. u c (inr h)) ∙ ap (λ z. p ++ m ∷ z) ending)
  where
    x : Member
    x = member_of scene (p ++ q') d

    past_is : p ++ (q' ++ x ∷ []) ≡ (p ++ q') ++ x ∷ []
    past_is = sym (append_assoc p q' (x ∷ []))

    same_member : member_of scene (p ++ m ∷ q') d ≡ x
    same_member = ap (λ e. record { fc = d.fc; tx = d.answer.tx; writes = e.writes })
        (u d (inl refl) q' (ap (filter (stands_before d)) w ∙ before_first scene (p ++ q') d ds b s))

    moved : (p ++ m ∷ q') ++ member_of scene (p ++ m ∷ q') d ∷ [] ≡ p ++ m ∷ (q' ++ x ∷ [])
    moved = ap (λ y. (p ++ m ∷ q') ++ y ∷ []) same_member ∙ append_assoc p (m ∷ q') (x ∷ [])

    whole : p ++ q ≡ (p ++ (q' ++ x ∷ [])) ++ rest scene (p ++ (q' ++ x ∷ [])) ds
    whole = w ∙ (sym (append_assoc (p ++ q') (x ∷ []) (rest scene ((p ++ q') ++ x ∷ []) ds)) ∙ ap (λ y. y ++ rest scene y ds) (sym past_is))

    next : AllBefore (p ++ (q' ++ x ∷ [])) ds
    next = subst (λ y. AllBefore y ds) (sym past_is) (all_before_next scene (p ++ q') d ds b s)

    ending : (q' ++ x ∷ []) ++ rest scene (p ++ (q' ++ x ∷ [])) ds ≡ q' ++ x ∷ rest scene ((p ++ q') ++ x ∷ []) ds
    ending = append_assoc q' (x ∷ []) (rest scene (p ++ (q' ++ x ∷ [])) ds) ∙ ap (λ y. q' ++ x ∷ rest scene y ds) past_is

-- ---- what is looked up

filter_skip : (test : Member → Bool) (p : List Member) (m : Member) (q : List Member) → test m ≡ false → filter test (p ++ m ∷ q) ≡ filter test (p ++ q)
filter_skip test [] m q e = rw e
filter_skip test (x ∷ p) m q e = by_test (test x) (filter_skip test p m q e)
  where
    by_test : (t : Bool) → filter test (p ++ m ∷ q) ≡ filter test (p ++ q) → (if t then x ∷ filter test (p ++ m ∷ q) else filter test (p ++ m ∷ q)) ≡ (if t then x ∷ filter test (p ++ q) else filter test (p ++ q))
    by_test true r = ap (λ ys. x ∷ ys) r
    by_test false r = r

last_over : (test : Member → Bool) (o o' : Option Member) (q : List Member) (u : Member) → In u q → test u ≡ true → last_or o (filter test q) ≡ last_or o' (filter test q)
last_over test o o' [] u h e = absurd h
last_over test o o' (x ∷ q) u (inl k) e = rw (ap test k ∙ e)
last_over test o o' (x ∷ q) u (inr h) e = by_test (test x) (last_over test o o' q u h e)
  where
    by_test : (t : Bool) → last_or o (filter test q) ≡ last_or o' (filter test q) → last_or o (if t then x ∷ filter test q else filter test q) ≡ last_or o' (if t then x ∷ filter test q else filter test q)
    by_test true r = refl
    by_test false r = r

last_hidden : (test : Member → Bool) (o : Option Member) (p : List Member) (m : Member) (q : List Member) (u : Member) → In u q → test u ≡ true
    → last_or o (filter test (p ++ m ∷ q)) ≡ last_or o (filter test (p ++ q))
last_hidden test o [] m q u h e = by_test (test m)
  where
    by_test : (t : Bool) → last_or o (if t then m ∷ filter test q else filter test q) ≡ last_or o (filter test q)
    by_test true = last_over test (Some m) o q u h e
    by_test false = refl
last_hidden test o (x ∷ p) m q u h e = by_test (test x) (λ o'. last_hidden test o' p m q u h e)
  where
    by_test : (t : Bool) → ((o' : Option Member) → last_or o' (filter test (p ++ m ∷ q)) ≡ last_or o' (filter test (p ++ q)))
        → last_or o (if t then x ∷ filter test (p ++ m ∷ q) else filter test (p ++ m ∷ q)) ≡ last_or o (if t then x ∷ filter test (p ++ q) else filter test (p ++ q))
    by_test true rec = rec (Some x)
    by_test false rec = rec o

-- a later member than those of p and m that wrote the key and is final at or below r
pub record Hides (q : List Member) (r : ℕ) (k : KeyId) : Type 0 where
  pub member : Member
  pub within : In member q
  pub final : member.fc ≤ r
  pub wrote : wrote_key k member.writes ≡ true

-- a member above r is not looked up
pub above_look : (p : List Member) (m : Member) (q : List Member) (r : ℕ) (k : KeyId) → nat_le m.fc r ≡ false → look_up (p ++ m ∷ q) r k ≡ look_up (p ++ q) r k
above_look p m q r k e =
    ap (λ ms. written_value (last_or None ms) k) (filter_skip (λ u. nat_le u.fc r && wrote_key k u.writes) p m q (rw e))

-- nor one that didn't write the key
pub other_look : (p : List Member) (m : Member) (q : List Member) (r : ℕ) (k : KeyId) → wrote_key k m.writes ≡ false → look_up (p ++ m ∷ q) r k ≡ look_up (p ++ q) r k
other_look p m q r k e =
    ap (λ ms. written_value (last_or None ms) k) (filter_skip (λ u. nat_le u.fc r && wrote_key k u.writes) p m q (by_test (nat_le m.fc r)))
  where
    by_test : (t : Bool) → (t && wrote_key k m.writes) ≡ false
    by_test true = e
    by_test false = refl

-- nor one that is hidden by a later one
pub hidden_look : (p : List Member) (m : Member) (q : List Member) (r : ℕ) (k : KeyId) → Hides q r k → look_up (p ++ m ∷ q) r k ≡ look_up (p ++ q) r k
hidden_look p m q r k h =
    ap (λ o. written_value o k) (last_hidden (λ u. nat_le u.fc r && wrote_key k u.writes) None p m q h.member h.within (rw (le-leb h.member.fc r h.final) h.wrote))

-- a member above an answer's snapshot changes nothing of what the answer's script gives
pub above_evaluated : (scene : Scene) (p : List Member) (m : Member) (q : List Member) (a : Answer) → nat_le m.fc a.rs.0 ≡ false
    → evaluated scene (p ++ m ∷ q) a ≡ evaluated scene (p ++ q) a
above_evaluated scene p m q a e = ap (eval (script_at scene a.place)) (λ i k. above_look p m q a.rs.0 k e i)

-- ---- what each member wrote

-- a commit of the list is a member, with the writes of its script on those of the whole list that stand before it
pub rest_in : (scene : Scene) (whole : List Member) (past : List Member) (ds : List Commit) (d : Commit) → whole ≡ past ++ rest scene past ds → AllBefore past ds → InOrder ds → In d ds
    → In (member_of scene (filter (stands_before d) whole) d) (rest scene past ds)
unfolding rest
rest_in scene whole past [] d w b s h = absurd h
rest_in scene whole past (c ∷ ds) d w b s (inl e) =
    inl (subst (λ z. member_of scene past c ≡ member_of scene (filter (stands_before z) whole) z) e
    (ap (λ xs. member_of scene xs c) (sym (ap (filter (stands_before c)) w ∙ before_first scene past c ds b s))))
rest_in scene whole past (c ∷ ds) d w b s (inr h) =
    inr (rest_in scene whole (past ++ member_of scene past c ∷ []) ds d (w ∙ sym (append_assoc past (member_of scene past c ∷ []) (rest scene (past ++ member_of scene past c ∷ []) ds)))
    (all_before_next scene past c ds b s) s.1 h)

pub le_or_above : (m n : ℕ) → (m ≤ n) ⊎ (n < m)
le_or_above m n = by_test (nat_le m n) refl
  where
    by_test : (t : Bool) → nat_le m n ≡ t → (m ≤ n) ⊎ (n < m)
    by_test true e = inl (leb-true m n e)
    by_test false e = inr (leb-false m n e)
