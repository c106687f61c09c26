-- Each clause of snapshot isolation of a list with one more answer, told by a test of that answer against those before it.
use Rattle.si_laws.proofs.CommitLists.NextHolds.{take_before, take_whole}
use Rattle.std.proofs.Common.{Bool, List, None, Option, Some, [], ap, arith, eq-eqb, eqb-true, false, filter, inl, inr, le-leb, leb-true, length, nat_le, not, refl, slice_get, subst, suc, sym, take, true, ℕ, ◌&&◌, ◌++◌, ◌+◌, ◌<◌, ◌==◌, ◌∙◌, ◌∷◌, ◌≡◌, ◌≢◌, ◌≤◌, ◌⊎◌, ◌||◌}
use Rattle.std.proofs.lemmas.Bool.{and_from, and_parts, cases_Bool, leb-false, not-true, or_cases, or_left, or_right}
use Rattle.std.proofs.lemmas.Option.{slice_get_within}
use Rattle.std.specs.List.{count_by, list_all}
use Rattle.history_audit.proofs.WrittenKeys.{none_shared, one_shared, written_at_end}
use Rattle.history_audit.specs.Tests.{are_apart, are_ordered, is_after, is_after_at_node, is_after_in_session, is_final_below, is_of_session, is_other, is_placed, is_written, share_key}
use Rattle.str_scene.proofs.SamePlaces.{is-same_place, same_place-is}
use Rattle.str_scene.specs.Places.{same_place}
use Rattle.si_laws.specs.Commits.{counts_for, look_up, members, seen}
use Rattle.si_laws.specs.SnapshotIsolation.{AnswersPlaced, CommittedSnapshots, IsAnswer, IsCommittedAt, IsCommittedSnapshot, IsPlaced, NoOverlap, SessionOrder, of_one_session}
use Rattle.str_base.proofs.Lists.{get_push, get_pushed, got_push, passes_at}
use Rattle.str_base.proofs.Members.{at_in}
use Rattle.str_base.proofs.SameNames.{is-same_node, is-same_tx, same_node-is, same_tx-is}
use Rattle.str_base.specs.Members.{In}
use Rattle.str_base.specs.Versions.{same_node, same_tx, stamp}
use Rattle.str_base.specs.declared.names.KeyId.{KeyId}
use Rattle.str_model.specs.Owned.{wrote_key}
use Rattle.str_model.specs.declared.messages.Answer.{Answer}
use Rattle.str_model.specs.declared.messages.Outcome.{Outcome}
use Rattle.str_model.specs.declared.messages.Outcome.TheVariants.{Aborted, Committed}
use Rattle.str_model.specs.declared.names.Got.{Got}
use Rattle.str_scene.specs.Scenes.{Scene, Session, nth, script_at}
use Rattle.str_scene.specs.declared.names.TxPlace.{TxPlace}

-- ---- lists

all_pass : {A : Type 0} (test : A → Bool) (xs : List A) → ((i : ℕ) (x : A) → slice_get xs i ≡ Some x → test x ≡ true) → list_all test xs ≡ true
all_pass test [] h = refl
all_pass test (x ∷ xs) h = and_from (test x) (list_all test xs) (h 0 x refl) (all_pass test xs (λ i y e. h (suc i) y e))

-- one of the longer list is the new one or an earlier one
abbrev Which : List Answer → Answer → ℕ → Answer → Type 0
Which past a i x = ((i ≡ length past) × (x ≡ a)) ⊎ IsAnswer past i x

not_itself : (past : List Answer) (i : ℕ) (b : Answer) → IsAnswer past i b → i ≡ length past → ⊥
not_itself past i b h e = let l : i < length past = slice_get_within past i b h in omega arith

record Fresh (past : List Answer) (a : Answer) : Type 0 where
  place : (i : ℕ) (b : Answer) → IsAnswer past i b → b.place ≡ a.place → ⊥
  name : (i : ℕ) (b : Answer) → IsAnswer past i b → b.tx ≡ a.tx → ⊥

fresh : (past : List Answer) (a : Answer) → list_all (is_other a) past ≡ true → Fresh past a
fresh past a h = record {
  place = λ i b at_b q. (let n : same_place b.place a.place ≡ false = not-true (same_place b.place a.place) (parts i b at_b).0 in let m = is-same_place b.place a.place q in cc (n, m));
  name = λ i b at_b q. (let n : same_tx b.tx a.tx ≡ false = not-true (same_tx b.tx a.tx) (parts i b at_b).1 in let m = is-same_tx b.tx a.tx q in cc (n, m));
}
  where
    parts : (i : ℕ) (b : Answer) → IsAnswer past i b → (not (same_place b.place a.place) ≡ true) × (not (same_tx b.tx a.tx) ≡ true)
    parts i b at_b = and_parts (not (same_place b.place a.place)) (not (same_tx b.tx a.tx)) (passes_at (is_other a) past i b h at_b)

record Parts (scene : Scene) (past : List Answer) (a : Answer) : Type 0 where
  session : is_of_session a (nth scene.sessions a.place.session.0) ≡ true
  fresh_ : list_all (is_other a) past ≡ true
  order : a.place.index ≡ 1 + count_by (of_one_session a) past

parts_of : (scene : Scene) (past : List Answer) (a : Answer) → is_placed scene past a ≡ true → Parts scene past a
parts_of scene past a h =
    let p = and_parts (is_of_session a (nth scene.sessions a.place.session.0)) (list_all (is_other a) past && (a.place.index == 1 + count_by (of_one_session a) past)) h in
    let q = and_parts (list_all (is_other a) past) (a.place.index == 1 + count_by (of_one_session a) past) p.1 in
    record { session = p.0; fresh_ = q.0; order = eqb-true a.place.index (1 + count_by (of_one_session a) past) q.1 }

-- no earlier answer has the name
pub fresh_names : (scene : Scene) (past : List Answer) (a : Answer) → is_placed scene past a ≡ true → (b : Answer) → In b past → b.tx ≢ a.tx
fresh_names scene past a h b k q = let at_b = at_in past b k in (fresh past a (parts_of scene past a h).fresh_).name at_b.0 b at_b.1 q

placed_of : (scene : Scene) (a : Answer) (o : Option Session) → nth scene.sessions a.place.session.0 ≡ o → is_of_session a o ≡ true → IsPlaced scene a
placed_of scene a None q h = absurd (cc h)
placed_of scene a (Some text) q h =
    let p = and_parts (same_node a.tx.node text.node) (nat_le 1 a.place.index && nat_le a.place.index (length text.txs)) h in
    let r = and_parts (nat_le 1 a.place.index) (nat_le a.place.index (length text.txs)) p.1 in
    record { text = text; session = q; node = same_node-is a.tx.node text.node p.0; index = (leb-true 1 a.place.index r.0, leb-true a.place.index (length text.txs) r.1) }

pub placed_next : (scene : Scene) (past : List Answer) (a : Answer) → AnswersPlaced scene past → is_placed scene past a ≡ true → AnswersPlaced scene (past ++ a ∷ [])
placed_next scene past a before h = record {
  each = λ i x e. each_ i x (got_push past i a x e);
  places = λ i j x y e f q. places_ i j x y (got_push past i a x e) (got_push past j a y f) q;
  names = λ i j x y e f q. names_ i j x y (got_push past i a x e) (got_push past j a y f) q;
  order = λ i x e. order_ i x (got_push past i a x e);
}
  where
    parts : Parts scene past a
    parts = parts_of scene past a h

    new : Fresh past a
    new = fresh past a parts.fresh_

    each_ : (i : ℕ) (x : Answer) → Which past a i x → IsPlaced scene x
    each_ i x (inl k) = subst (IsPlaced scene) (sym k.1) (placed_of scene a (nth scene.sessions a.place.session.0) refl parts.session)
    each_ i x (inr k) = before.each i x k

    places_ : (i j : ℕ) (x y : Answer) → Which past a i x → Which past a j y → x.place ≡ y.place → i ≡ j
    places_ i j x y (inl k) (inl m) q = k.0 ∙ sym m.0
    places_ i j x y (inl k) (inr m) q = absurd (new.place j y m (sym q ∙ ap (λ z. z.place) k.1))
    places_ i j x y (inr k) (inl m) q = absurd (new.place i x k (q ∙ ap (λ z. z.place) m.1))
    places_ i j x y (inr k) (inr m) q = before.places i j x y k m q

    names_ : (i j : ℕ) (x y : Answer) → Which past a i x → Which past a j y → x.tx ≡ y.tx → i ≡ j
    names_ i j x y (inl k) (inl m) q = k.0 ∙ sym m.0
    names_ i j x y (inl k) (inr m) q = absurd (new.name j y m (sym q ∙ ap (λ z. z.tx) k.1))
    names_ i j x y (inr k) (inl m) q = absurd (new.name i x k (q ∙ ap (λ z. z.tx) m.1))
    names_ i j x y (inr k) (inr m) q = before.names i j x y k m q

    order_ : (i : ℕ) (x : Answer) → Which past a i x → x.place.index ≡ 1 + count_by (of_one_session x) (take i (past ++ a ∷ []))
    order_ i x (inl k) =
        subst (λ n. x.place.index ≡ 1 + count_by (of_one_session x) (take n (past ++ a ∷ []))) (sym k.0)
        (subst (λ z. z.place.index ≡ 1 + count_by (of_one_session z) (take (length past) (past ++ a ∷ []))) (sym k.1)
        (parts.order ∙ ap (λ zs. 1 + count_by (of_one_session a) zs) (sym (take_whole past (a ∷ [])))))
    order_ i x (inr k) = before.order i x k ∙ ap (λ zs. 1 + count_by (of_one_session x) zs) (sym (take_before past i a x k))

of_placed : (scene : Scene) (a : Answer) → IsPlaced scene a → is_of_session a (nth scene.sessions a.place.session.0) ≡ true
of_placed scene a p =
    ap (is_of_session a) p.session
    ∙ and_from (same_node a.tx.node p.text.node) (nat_le 1 a.place.index && nat_le a.place.index (length p.text.txs)) (is-same_node a.tx.node p.text.node p.node)
    (and_from (nat_le 1 a.place.index) (nat_le a.place.index (length p.text.txs)) (le-leb 1 a.place.index p.index.0) (le-leb a.place.index (length p.text.txs) p.index.1))

pub placed_back : (scene : Scene) (past : List Answer) (a : Answer) → AnswersPlaced scene (past ++ a ∷ []) → is_placed scene past a ≡ true
placed_back scene past a p =
    and_from (is_of_session a (nth scene.sessions a.place.session.0)) (list_all (is_other a) past && (a.place.index == 1 + count_by (of_one_session a) past))
    (of_placed scene a (p.each (length past) a (get_pushed past a)))
    (and_from (list_all (is_other a) past) (a.place.index == 1 + count_by (of_one_session a) past)
    (all_pass (is_other a) past other)
    (eq-eqb a.place.index (1 + count_by (of_one_session a) past) (p.order (length past) a (get_pushed past a) ∙ ap (λ zs. 1 + count_by (of_one_session a) zs) (take_whole past (a ∷ [])))))
  where
    other : (i : ℕ) (b : Answer) → IsAnswer past i b → is_other a b ≡ true
    other i b k = and_from (not (same_place b.place a.place)) (not (same_tx b.tx a.tx)) (by_place (same_place b.place a.place) refl) (by_name (same_tx b.tx a.tx) refl)
      where
        by_place : (t : Bool) → same_place b.place a.place ≡ t → not t ≡ true
        by_place true e = absurd (not_itself past i b k (p.places i (length past) b a (get_push past i a b k) (get_pushed past a) (same_place-is b.place a.place e)))
        by_place false e = refl

        by_name : (t : Bool) → same_tx b.tx a.tx ≡ t → not t ≡ true
        by_name true e = absurd (not_itself past i b k (p.names i (length past) b a (get_push past i a b k) (get_pushed past a) (same_tx-is b.tx a.tx e)))
        by_name false e = refl

-- ---- sessions

final_is : (o : Outcome) (f r : ℕ) → ((gets : List Got) × (o ≡ Committed (Some (stamp f)) gets)) → is_final_below o r ≡ true → f ≤ r
final_is o f r p e = leb-true f r (sym (ap (λ z. is_final_below z r) p.1) ∙ e)

is-final : (o : Outcome) (r : ℕ) → ((f : ℕ) → ((gets : List Got) × (o ≡ Committed (Some (stamp f)) gets)) → f ≤ r) → is_final_below o r ≡ true
is-final (Committed None gets) r h = refl
is-final (Committed (Some fc) gets) r h = le-leb fc.0 r (h fc.0 (gets, refl))
is-final (Aborted cause) r h = refl

in_session : (a b : Answer) → is_after a b ≡ true → b.place.session ≡ a.place.session → (nat_le b.rs.0 a.rs.0 ≡ true) × (is_final_below b.outcome a.rs.0 ≡ true)
in_session a b h q = elim (or_cases (not (of_one_session a b)) (nat_le b.rs.0 a.rs.0 && is_final_below b.outcome a.rs.0) (and_parts (is_after_in_session a b) (is_after_at_node a b) h).0) [
  | inl n ↦ (let m : of_one_session a b ≡ true = eq-eqb b.place.session.0 a.place.session.0 (ap (λ z. z.0) q) in let l : of_one_session a b ≡ false = not-true (of_one_session a b) n in absurd (cc (m, l)))
  | inr m ↦ and_parts (nat_le b.rs.0 a.rs.0) (is_final_below b.outcome a.rs.0) m
]

at_node : (a b : Answer) → is_after a b ≡ true → b.tx.node ≡ a.tx.node
    → ((nat_le a.tx.seq b.tx.seq || nat_le b.rs.0 a.rs.0) ≡ true) × ((nat_le b.tx.seq a.tx.seq || nat_le a.rs.0 b.rs.0) ≡ true)
at_node a b h q =
    elim (or_cases (not (same_node b.tx.node a.tx.node)) ((nat_le a.tx.seq b.tx.seq || nat_le b.rs.0 a.rs.0) && (nat_le b.tx.seq a.tx.seq || nat_le a.rs.0 b.rs.0)) (and_parts (is_after_in_session a b) (is_after_at_node a b) h).1) [
      | inl n ↦ (let m : same_node b.tx.node a.tx.node ≡ true = is-same_node b.tx.node a.tx.node q in let l : same_node b.tx.node a.tx.node ≡ false = not-true (same_node b.tx.node a.tx.node) n in absurd (cc (m, l)))
      | inr m ↦ and_parts (nat_le a.tx.seq b.tx.seq || nat_le b.rs.0 a.rs.0) (nat_le b.tx.seq a.tx.seq || nat_le a.rs.0 b.rs.0) m
    ]

le_or : (m n r s : ℕ) → (nat_le m n || nat_le r s) ≡ true → n < m → r ≤ s
le_or m n r s e l = elim (or_cases (nat_le m n) (nat_le r s) e) [ inl h ↦ (let k : m ≤ n = leb-true m n h in absurd (omega arith)) | inr h ↦ leb-true r s h ]

pub sessions_next : (past : List Answer) (a : Answer) → SessionOrder past → list_all (is_after a) past ≡ true → SessionOrder (past ++ a ∷ [])
sessions_next past a before h = record {
  rs = λ i j x y l e d q. rs_ i j x y l (got_push past i a x e) (got_push past j a y d) q;
  fc = λ i j f x y l e d q p. fc_ i j f x y l (got_push past i a x e) (got_push past j a y d) q p;
  node = λ i j x y e d q l. node_ i j x y (got_push past i a x e) (got_push past j a y d) q l;
}
  where
    passes : (i : ℕ) (x : Answer) → IsAnswer past i x → is_after a x ≡ true
    passes i x k = passes_at (is_after a) past i x h k

    not_after : (i j : ℕ) (y : Answer) → i < j → i ≡ length past → IsAnswer past j y → ⊥
    not_after i j y l q m = let k : j < length past = slice_get_within past j y m in omega arith

    rs_ : (i j : ℕ) (x y : Answer) → i < j → Which past a i x → Which past a j y → x.place.session ≡ y.place.session → x.rs.0 ≤ y.rs.0
    rs_ i j x y l (inl k) (inl m) q = let u : i ≡ j = k.0 ∙ sym m.0 in absurd (omega arith)
    rs_ i j x y l (inl k) (inr m) q = absurd (not_after i j y l k.0 m)
    rs_ i j x y l (inr k) (inl m) q = subst (λ z. x.rs.0 ≤ z.rs.0) (sym m.1) (leb-true x.rs.0 a.rs.0 (in_session a x (passes i x k) (q ∙ ap (λ z. z.place.session) m.1)).0)
    rs_ i j x y l (inr k) (inr m) q = before.rs i j x y l k m q

    fc_ : (i j f : ℕ) (x y : Answer) → i < j → Which past a i x → Which past a j y → x.place.session ≡ y.place.session → IsCommittedAt x f → f ≤ y.rs.0
    fc_ i j f x y l (inl k) (inl m) q p = let u : i ≡ j = k.0 ∙ sym m.0 in absurd (omega arith)
    fc_ i j f x y l (inl k) (inr m) q p = absurd (not_after i j y l k.0 m)
    fc_ i j f x y l (inr k) (inl m) q p = subst (λ z. f ≤ z.rs.0) (sym m.1) (final_is x.outcome f a.rs.0 p (in_session a x (passes i x k) (q ∙ ap (λ z. z.place.session) m.1)).1)
    fc_ i j f x y l (inr k) (inr m) q p = before.fc i j f x y l k m q p

    node_ : (i j : ℕ) (x y : Answer) → Which past a i x → Which past a j y → x.tx.node ≡ y.tx.node → x.tx.seq < y.tx.seq → x.rs.0 ≤ y.rs.0
    node_ i j x y (inl k) (inl m) q l = let u : x.tx.seq ≡ y.tx.seq = ap (λ z. z.tx.seq) (k.1 ∙ sym m.1) in absurd (omega arith)
    node_ i j x y (inl k) (inr m) q l =
        subst (λ z. z.rs.0 ≤ y.rs.0) (sym k.1)
        (le_or y.tx.seq a.tx.seq a.rs.0 y.rs.0 (at_node a y (passes j y m) (sym q ∙ ap (λ z. z.tx.node) k.1)).1 (subst (λ z. z.tx.seq < y.tx.seq) k.1 l))
    node_ i j x y (inr k) (inl m) q l =
        subst (λ z. x.rs.0 ≤ z.rs.0) (sym m.1)
        (le_or a.tx.seq x.tx.seq x.rs.0 a.rs.0 (at_node a x (passes i x k) (q ∙ ap (λ z. z.tx.node) m.1)).0 (subst (λ z. x.tx.seq < z.tx.seq) m.1 l))
    node_ i j x y (inr k) (inr m) q l = before.node i j x y k m q l

pub sessions_back : (past : List Answer) (a : Answer) → SessionOrder (past ++ a ∷ []) → list_all (is_after a) past ≡ true
sessions_back past a s = all_pass (is_after a) past after
  where
    after : (i : ℕ) (b : Answer) → IsAnswer past i b → is_after a b ≡ true
    after i b k = and_from (is_after_in_session a b) (is_after_at_node a b) (by_session (of_one_session a b) refl) (by_node (same_node b.tx.node a.tx.node) refl)
      where
        old : IsAnswer (past ++ a ∷ []) i b
        old = get_push past i a b k

        new : IsAnswer (past ++ a ∷ []) (length past) a
        new = get_pushed past a

        below : i < length past
        below = slice_get_within past i b k

        by_session : (t : Bool) → of_one_session a b ≡ t → (not t || (nat_le b.rs.0 a.rs.0 && is_final_below b.outcome a.rs.0)) ≡ true
        by_session false e = refl
        by_session true e =
            let q : b.place.session ≡ a.place.session = (λ i. record { 0 = eqb-true b.place.session.0 a.place.session.0 e i }) in
            and_from (nat_le b.rs.0 a.rs.0) (is_final_below b.outcome a.rs.0) (le-leb b.rs.0 a.rs.0 (s.rs i (length past) b a below old new q))
            (is-final b.outcome a.rs.0 (λ f p. s.fc i (length past) f b a below old new q p))

        either : (m n r t : ℕ) → (n < m → r ≤ t) → (nat_le m n || nat_le r t) ≡ true
        either m n r t h = elim (cases_Bool (nat_le m n)) [
          | inl e ↦ or_left (nat_le m n) (nat_le r t) e
          | inr e ↦ or_right (nat_le m n) (nat_le r t) (le-leb r t (h (leb-false m n e)))
        ]

        by_node : (t : Bool) → same_node b.tx.node a.tx.node ≡ t → (not t || ((nat_le a.tx.seq b.tx.seq || nat_le b.rs.0 a.rs.0) && (nat_le b.tx.seq a.tx.seq || nat_le a.rs.0 b.rs.0))) ≡ true
        by_node false e = refl
        by_node true e =
            let q : b.tx.node ≡ a.tx.node = same_node-is b.tx.node a.tx.node e in
            and_from (nat_le a.tx.seq b.tx.seq || nat_le b.rs.0 a.rs.0) (nat_le b.tx.seq a.tx.seq || nat_le a.rs.0 b.rs.0)
            (either a.tx.seq b.tx.seq b.rs.0 a.rs.0 (λ l. s.node i (length past) b a old new q l))
            (either b.tx.seq a.tx.seq a.rs.0 b.rs.0 (λ l. s.node (length past) i a b new old (sym q) l))

-- ---- overlapping writers

-- the keys of a committed answer are those that its script writes
keys_of : (scene : Scene) (all : List Answer) (i f : ℕ) (b : Answer) (k : KeyId) → CommittedSnapshots scene all → IsAnswer all i b → IsCommittedAt b f
    → wrote_key k (seen scene all b).writes ≡ is_written k (script_at scene b.place)
keys_of scene all i f b k s at_b is =
    let t : IsCommittedSnapshot (seen scene all b) b.rs.0 (Committed (Some (stamp f)) is.0) = subst (IsCommittedSnapshot (seen scene all b) b.rs.0) is.1 (s i b at_b) in
    written_at_end (look_up (filter (counts_for b b.outcome) (members scene all)) b.rs.0) (script_at scene b.place) k t.0

ordered_is : (r s f g : ℕ) (o q : Outcome) → ((gets : List Got) × (o ≡ Committed (Some (stamp f)) gets)) → ((gets : List Got) × (q ≡ Committed (Some (stamp g)) gets)) → are_ordered r o s q ≡ true → (f ≤ s) ⊎ (g ≤ r)
ordered_is r s f g o q c d e =
    elim (or_cases (nat_le f s) (nat_le g r) (sym (ap (λ z. are_ordered r (Committed (Some (stamp f)) c.0) s z) d.1) ∙ (sym (ap (λ z. are_ordered r z s q) c.1) ∙ e))) [
      | inl h ↦ inl (leb-true f s h)
      | inr h ↦ inr (leb-true g r h)
    ]

pub apart_next : (scene : Scene) (past : List Answer) (a : Answer) → NoOverlap scene past → CommittedSnapshots scene past → CommittedSnapshots scene (past ++ a ∷ [])
    → list_all (are_apart scene a) past ≡ true → NoOverlap scene (past ++ a ∷ [])
apart_next scene past a before s t h = λ i j f g x y k e d n p q v w. by_which i j f g x y k (got_push past i a x e) (got_push past j a y d) n p q
    (sym (keys_of scene (past ++ a ∷ []) i f x k t e p) ∙ v) (sym (keys_of scene (past ++ a ∷ []) j g y k t d q) ∙ w)
  where
    apart_ : (j f g : ℕ) (y : Answer) (k : KeyId) → IsAnswer past j y → IsCommittedAt a f → IsCommittedAt y g → is_written k (script_at scene a.place) ≡ true
        → is_written k (script_at scene y.place) ≡ true → (f ≤ y.rs.0) ⊎ (g ≤ a.rs.0)
    apart_ j f g y k m p q v w =
        elim (or_cases (are_ordered a.rs.0 a.outcome y.rs.0 y.outcome) (not (share_key (script_at scene a.place) (script_at scene y.place))) (passes_at (are_apart scene a) past j y h m)) [
          | inl e ↦ ordered_is a.rs.0 y.rs.0 f g a.outcome y.outcome p q e
          | inr e ↦ absurd (none_shared (script_at scene a.place) (script_at scene y.place) k (not-true (share_key (script_at scene a.place) (script_at scene y.place)) e) v w)
        ]

    by_which : (i j f g : ℕ) (x y : Answer) (k : KeyId) → Which past a i x → Which past a j y → i ≢ j → IsCommittedAt x f → IsCommittedAt y g
        → is_written k (script_at scene x.place) ≡ true → is_written k (script_at scene y.place) ≡ true → (f ≤ y.rs.0) ⊎ (g ≤ x.rs.0)
    by_which i j f g x y k (inl u) (inl m) n p q v w = absurd (n (u.0 ∙ sym m.0))
    by_which i j f g x y k (inl u) (inr m) n p q v w =
        subst (λ z. (f ≤ y.rs.0) ⊎ (g ≤ z.rs.0)) (sym u.1) (apart_ j f g y k m (subst (λ z. IsCommittedAt z f) u.1 p) q (subst (λ z. is_written k (script_at scene z.place) ≡ true) u.1 v) w)
    by_which i j f g x y k (inr u) (inl m) n p q v w =
        subst (λ z. (f ≤ z.rs.0) ⊎ (g ≤ x.rs.0)) (sym m.1)
        (elim (apart_ i g f x k u (subst (λ z. IsCommittedAt z g) m.1 q) p (subst (λ z. is_written k (script_at scene z.place) ≡ true) m.1 w) v) [ inl r ↦ inr r | inr r ↦ inl r ])
    by_which i j f g x y k (inr u) (inr m) n p q v w =
        before i j f g x y k u m n p q (keys_of scene past i f x k s u p ∙ v) (keys_of scene past j g y k s m q ∙ w)

pub apart_back : (scene : Scene) (past : List Answer) (a : Answer) → CommittedSnapshots scene (past ++ a ∷ []) → NoOverlap scene (past ++ a ∷ []) → list_all (are_apart scene a) past ≡ true
apart_back scene past a t n = all_pass (are_apart scene a) past (λ j b m. by_outcomes j b m a.outcome refl b.outcome refl)
  where
    ordered : (r s f g : ℕ) → (f ≤ s) ⊎ (g ≤ r) → (nat_le f s || nat_le g r) ≡ true
    ordered r s f g (inl l) = or_left (nat_le f s) (nat_le g r) (le-leb f s l)
    ordered r s f g (inr l) = or_right (nat_le f s) (nat_le g r) (le-leb g r l)

    by_outcomes : (j : ℕ) (b : Answer) → IsAnswer past j b → (o : Outcome) → a.outcome ≡ o → (q : Outcome) → b.outcome ≡ q
        → (are_ordered a.rs.0 o b.rs.0 q || not (share_key (script_at scene a.place) (script_at scene b.place))) ≡ true
    by_outcomes j b m (Committed (Some fc) gets) e (Committed (Some gc) hets) d = by_shared (share_key (script_at scene a.place) (script_at scene b.place)) refl
      where
        by_shared : (u : Bool) → share_key (script_at scene a.place) (script_at scene b.place) ≡ u → ((nat_le fc.0 b.rs.0 || nat_le gc.0 a.rs.0) || not u) ≡ true
        by_shared false v = or_right (nat_le fc.0 b.rs.0 || nat_le gc.0 a.rs.0) true refl
        by_shared true v =
            let k = one_shared (script_at scene a.place) (script_at scene b.place) v in
            or_left (nat_le fc.0 b.rs.0 || nat_le gc.0 a.rs.0) false (ordered a.rs.0 b.rs.0 fc.0 gc.0
            (n (length past) j fc.0 gc.0 a b k.0 (get_pushed past a) (get_push past j a b m) (λ c. not_itself past j b m (sym c)) (gets, e) (hets, d)
            (keys_of scene (past ++ a ∷ []) (length past) fc.0 a k.0 t (get_pushed past a) (gets, e) ∙ k.1)
            (keys_of scene (past ++ a ∷ []) j gc.0 b k.0 t (get_push past j a b m) (hets, d) ∙ k.2)))
    by_outcomes j b m (Committed (Some fc) gets) e (Committed None hets) d = refl
    by_outcomes j b m (Committed (Some fc) gets) e (Aborted cause) d = refl
    by_outcomes j b m (Committed None gets) e q d = refl
    by_outcomes j b m (Aborted cause) e q d = refl
