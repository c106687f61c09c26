-- Snapshot isolation of a list of answers lasts where the next answer is one that may follow.
use Rattle.std.proofs.Common.{Bool, List, Some, [], ap, arith, cond, eq-eqb, inl, inr, length, refl, slice_get, subst, suc, sym, take, true, zero, ℕ, ◌++◌, ◌+◌, ◌<◌, ◌==◌, ◌∙◌, ◌∷◌, ◌≡◌, ◌≢◌, ◌≤◌, ◌⊎◌}
use Rattle.std.proofs.lemmas.List.Sums.{sum_by-cons}
use Rattle.std.specs.List.{count_by}
use Rattle.str_base.specs.declared.names.Cause.TheVariants.{Wish}
use Rattle.str_base.specs.declared.names.KeyId.{KeyId}
use Rattle.str_model.specs.declared.messages.Answer.{Answer}
use Rattle.str_model.specs.declared.messages.Outcome.{Outcome}
use Rattle.str_model.specs.declared.messages.Outcome.TheVariants.{Aborted, Committed}
use Rattle.si_laws.specs.Commits.{seen}
use Rattle.str_model.specs.Owned.{wrote_key}
use Rattle.str_model.specs.Evaluation.{Evaluated}
use Rattle.str_scene.specs.Scenes.{Scene}
use Rattle.si_laws.specs.SnapshotIsolation.{AnswersPlaced, CommittedSnapshots, IsAnswer, IsCommittedAt, IsCommittedSnapshot, IsPlaced, IsWish, NoOverlap, SI, SessionOrder, Wishes, of_one_session}
use Rattle.si_laws.proofs.CommitLists.NextAnswer.{IsNext, SeenNext, seen_next}
use Rattle.std.proofs.lemmas.Option.{slice_get_within}
use Rattle.str_base.proofs.Lists.{got_push}

-- ---- lists

pub take_before : {A : Type 0} (xs : List A) (i : ℕ) (y z : A) → slice_get xs i ≡ Some z → take i (xs ++ y ∷ []) ≡ take i xs
take_before [] i y z e = absurd cc
take_before (x ∷ xs) zero y z e = refl
take_before (x ∷ xs) (suc i) y z e = ap (λ ys. x ∷ ys) (take_before xs i y z e)

pub take_whole : {A : Type 0} (xs ys : List A) → take (length xs) (xs ++ ys) ≡ xs
take_whole [] ys = refl
take_whole (x ∷ xs) ys = ap (λ zs. x ∷ zs) (take_whole xs ys)

count_first : {A : Type 0} (test : A → Bool) (y : A) (xs : List A) (b : Bool) → test y ≡ b → count_by test (y ∷ xs) ≡ cond b 1 0 + count_by test xs
count_first test y xs b e = sum_by-cons (λ x. cond (test x) 1 0) y xs ∙ ap (λ c. cond c 1 0 + count_by test xs) e

below_sum : (m n k l d : ℕ) → k ≡ d + m → l ≡ d + n → m < n → k < l
below_sum m n k l d p q r = omega arith

-- one of those that are counted stands at i
count_more : {A : Type 0} (test : A → Bool) (xs : List A) (i : ℕ) (x : A) → slice_get xs i ≡ Some x → test x ≡ true → count_by test (take i xs) < count_by test xs
count_more test [] i x e t = absurd cc
count_more test (y ∷ xs) zero x e t = at_least (count_by test xs) (count_by test (y ∷ xs)) (count_first test y xs true (let k : y ≡ x = cc in ap test k ∙ t))
  where
    at_least : (m n : ℕ) → n ≡ 1 + m → 0 < n
    at_least m n q = omega arith
count_more test (y ∷ xs) (suc i) x e t =
    below_sum (count_by test (take i xs)) (count_by test xs) (count_by test (y ∷ take i xs)) (count_by test (y ∷ xs)) (cond (test y) 1 0) (count_first test y (take i xs) (test y) refl)
    (count_first test y xs (test y) refl) (count_more test xs i x e t)

-- ---- the clauses

-- the next place of a session is a new one
pub fresh_place : (scene : Scene) (all : List Answer) (a : Answer) → SI scene all → IsNext scene all a → (j : ℕ) (b : Answer) → IsAnswer all j b → b.place ≡ a.place → ⊥
fresh_place scene all a si next j b at_b q =
    let p : b.place.index ≡ 1 + count_by (of_one_session b) (take j all) = si.placed.order j b at_b in
    let r : a.place.index ≡ 1 + count_by (of_one_session a) all = next.order in
    let s : b.place.index ≡ a.place.index = ap (λ z. z.index) q in
    let t : count_by (of_one_session a) all ≡ count_by (of_one_session b) all = ap (λ z. count_by (λ x. x.place.session.0 == z.session.0) all) (sym q) in
    let u : count_by (of_one_session b) (take j all) < count_by (of_one_session b) all = count_more (of_one_session b) all j b at_b (eq-eqb b.place.session.0 b.place.session.0 refl) in
    omega arith

-- one of the longer list is an earlier one or the new one
abbrev pub Which : List Answer → Answer → ℕ → Answer → Type 0
Which all a i x = ((i ≡ length all) × (x ≡ a)) ⊎ IsAnswer all i x

placed_next : (scene : Scene) (all : List Answer) (a : Answer) → SI scene all → IsNext scene all a → AnswersPlaced scene (all ++ a ∷ [])
placed_next scene all a si next = record {
  each = λ i x e. each_ i x (got_push all i a x e);
  places = λ i j x y e f q. places_ i j x y (got_push all i a x e) (got_push all j a y f) q;
  names = λ i j x y e f q. names_ i j x y (got_push all i a x e) (got_push all j a y f) q;
  order = λ i x e. order_ i x (got_push all i a x e);
}
  where
    each_ : (i : ℕ) (x : Answer) → Which all a i x → IsPlaced scene x
    each_ i x (inl h) = subst (IsPlaced scene) (sym h.1) next.placed
    each_ i x (inr h) = si.placed.each i x h

    places_ : (i j : ℕ) (x y : Answer) → Which all a i x → Which all a j y → x.place ≡ y.place → i ≡ j
    places_ i j x y (inl h) (inl k) q = h.0 ∙ sym k.0
    places_ i j x y (inl h) (inr k) q = absurd (fresh_place scene all a si next j y k (sym q ∙ ap (λ z. z.place) h.1))
    places_ i j x y (inr h) (inl k) q = absurd (fresh_place scene all a si next i x h (q ∙ ap (λ z. z.place) k.1))
    places_ i j x y (inr h) (inr k) q = si.placed.places i j x y h k q

    names_ : (i j : ℕ) (x y : Answer) → Which all a i x → Which all a j y → x.tx ≡ y.tx → i ≡ j
    names_ i j x y (inl h) (inl k) q = h.0 ∙ sym k.0
    names_ i j x y (inl h) (inr k) q = absurd (next.fresh j y k (sym q ∙ ap (λ z. z.tx) h.1))
    names_ i j x y (inr h) (inl k) q = absurd (next.fresh i x h (q ∙ ap (λ z. z.tx) k.1))
    names_ i j x y (inr h) (inr k) q = si.placed.names i j x y h k q

    order_ : (i : ℕ) (x : Answer) → Which all a i x → x.place.index ≡ 1 + count_by (of_one_session x) (take i (all ++ a ∷ []))
    order_ i x (inl h) =
        subst (λ n. x.place.index ≡ 1 + count_by (of_one_session x) (take n (all ++ a ∷ []))) (sym h.0)
        (subst (λ z. z.place.index ≡ 1 + count_by (of_one_session z) (take (length all) (all ++ a ∷ []))) (sym h.1)
        (next.order ∙ ap (λ zs. 1 + count_by (of_one_session a) zs) (sym (take_whole all (a ∷ [])))))
    order_ i x (inr h) = si.placed.order i x h ∙ ap (λ zs. 1 + count_by (of_one_session x) zs) (sym (take_before all i a x h))

snapshots_next : (scene : Scene) (all : List Answer) (a : Answer) → SI scene all → IsNext scene all a → SeenNext scene all a → CommittedSnapshots scene (all ++ a ∷ [])
snapshots_next scene all a si next sees = λ i x e. by_which i x (got_push all i a x e)
  where
    by_outcome : (i : ℕ) (x : Answer) (o : Outcome) → IsAnswer all i x → x.outcome ≡ o → IsCommittedSnapshot (seen scene all x) x.rs.0 o → IsCommittedSnapshot (seen scene (all ++ a ∷ []) x) x.rs.0 o
    by_outcome i x (Committed o gets) h e s = subst (λ z. IsCommittedSnapshot z x.rs.0 (Committed o gets)) (sym (sees.committed i x o gets h e)) s
    by_outcome i x (Aborted c) h e s = s

    by_which : (i : ℕ) (x : Answer) → Which all a i x → IsCommittedSnapshot (seen scene (all ++ a ∷ []) x) x.rs.0 x.outcome
    by_which i x (inl h) =
        subst (λ z. IsCommittedSnapshot (seen scene (all ++ a ∷ []) z) z.rs.0 z.outcome) (sym h.1)
        (subst (λ z. IsCommittedSnapshot z a.rs.0 a.outcome) (sym sees.new) next.snapshot)
    by_which i x (inr h) = by_outcome i x x.outcome h refl (si.snapshots i x h)

wishes_next : (scene : Scene) (all : List Answer) (a : Answer) → IsNext scene all a → SeenNext scene all a → Wishes scene (all ++ a ∷ [])
wishes_next scene all a next sees = λ i x e. by_which i x (got_push all i a x e)
  where
    by_outcome : (e : Evaluated) (x : Answer) (o : Outcome) → x.outcome ≡ o → (x.outcome ≡ Aborted Wish → IsWish e (Aborted Wish)) → IsWish e o
    by_outcome e x (Aborted Wish) q h = h q
    by_outcome e x _ q h = tt

    by_which : (i : ℕ) (x : Answer) → Which all a i x → IsWish (seen scene (all ++ a ∷ []) x) x.outcome
    by_which i x (inl h) =
        subst (λ z. IsWish (seen scene (all ++ a ∷ []) z) z.outcome) (sym h.1) (subst (λ z. IsWish z a.outcome) (sym sees.new) next.wish)
    by_which i x (inr h) = by_outcome (seen scene (all ++ a ∷ []) x) x x.outcome refl (sees.wished i x h)

apart_next : (scene : Scene) (all : List Answer) (a : Answer) → SI scene all → IsNext scene all a → SeenNext scene all a → NoOverlap scene (all ++ a ∷ [])
apart_next scene all a si next sees = λ i j f g x y k e d n p q v w. by_which i j f g x y k (got_push all i a x e) (got_push all j a y d) n p q v w
  where
    old : (j g : ℕ) (y : Answer) (k : KeyId) → IsAnswer all j y → IsCommittedAt y g → wrote_key k (seen scene (all ++ a ∷ []) y).writes ≡ true → wrote_key k (seen scene all y).writes ≡ true
    old j g y k h q w = subst (λ z. wrote_key k z.writes ≡ true) (sees.committed j y _ q.0 h q.1) w

    own : (x : Answer) (k : KeyId) → x ≡ a → wrote_key k (seen scene (all ++ a ∷ []) x).writes ≡ true → wrote_key k (seen scene all a).writes ≡ true
    own x k s w = subst (λ z. wrote_key k z.writes ≡ true) (ap (seen scene (all ++ a ∷ [])) s ∙ sees.new) w

    by_which : (i j f g : ℕ) (x y : Answer) (k : KeyId) → Which all a i x → Which all a j y → i ≢ j → IsCommittedAt x f → IsCommittedAt y g
        → wrote_key k (seen scene (all ++ a ∷ []) x).writes ≡ true → wrote_key k (seen scene (all ++ a ∷ []) y).writes ≡ true → (f ≤ y.rs.0) ⊎ (g ≤ x.rs.0)
    by_which i j f g x y k (inl h) (inl m) n p q v w = absurd (n (h.0 ∙ sym m.0))
    by_which i j f g x y k (inl h) (inr m) n p q v w =
        subst (λ z. (f ≤ y.rs.0) ⊎ (g ≤ z.rs.0)) (sym h.1) (next.apart j f g y k m (subst (λ z. IsCommittedAt z f) h.1 p) q (own x k h.1 v) (old j g y k m q w))
    by_which i j f g x y k (inr h) (inl m) n p q v w =
        subst (λ z. (f ≤ z.rs.0) ⊎ (g ≤ x.rs.0)) (sym m.1)
        (elim (next.apart i g f x k h (subst (λ z. IsCommittedAt z g) m.1 q) p (own y k m.1 w) (old i f x k h p v)) [ inl r ↦ inr r | inr r ↦ inl r ])
    by_which i j f g x y k (inr h) (inr m) n p q v w = si.apart i j f g x y k h m n p q (old i f x k h p v) (old j g y k m q w)

sessions_next : (scene : Scene) (all : List Answer) (a : Answer) → SI scene all → IsNext scene all a → SessionOrder (all ++ a ∷ [])
sessions_next scene all a si next = record {
  rs = λ i j x y l e d q. rs_ i j x y l (got_push all i a x e) (got_push all j a y d) q;
  fc = λ i j f x y l e d q p. fc_ i j f x y l (got_push all i a x e) (got_push all j a y d) q p;
  node = λ i j x y e d q l. node_ i j x y (got_push all i a x e) (got_push all j a y d) q l;
}
  where
    not_after : (i j : ℕ) (y : Answer) → i < j → i ≡ length all → IsAnswer all j y → ⊥
    not_after i j y l q m = let k : j < length all = slice_get_within all j y m in omega arith

    rs_ : (i j : ℕ) (x y : Answer) → i < j → Which all a i x → Which all a j y → x.place.session ≡ y.place.session → x.rs.0 ≤ y.rs.0
    rs_ i j x y l (inl h) (inl m) q = let u : i ≡ j = h.0 ∙ sym m.0 in absurd (omega arith)
    rs_ i j x y l (inl h) (inr m) q = absurd (not_after i j y l h.0 m)
    rs_ i j x y l (inr h) (inl m) q = subst (λ z. x.rs.0 ≤ z.rs.0) (sym m.1) (next.session_rs i x h (q ∙ ap (λ z. z.place.session) m.1))
    rs_ i j x y l (inr h) (inr m) q = si.sessions.rs i j x y l h m q

    fc_ : (i j f : ℕ) (x y : Answer) → i < j → Which all a i x → Which all a j y → x.place.session ≡ y.place.session → IsCommittedAt x f → f ≤ y.rs.0
    fc_ i j f x y l (inl h) (inl m) q p = let u : i ≡ j = h.0 ∙ sym m.0 in absurd (omega arith)
    fc_ i j f x y l (inl h) (inr m) q p = absurd (not_after i j y l h.0 m)
    fc_ i j f x y l (inr h) (inl m) q p = subst (λ z. f ≤ z.rs.0) (sym m.1) (next.session_fc i f x h (q ∙ ap (λ z. z.place.session) m.1) p)
    fc_ i j f x y l (inr h) (inr m) q p = si.sessions.fc i j f x y l h m q p

    node_ : (i j : ℕ) (x y : Answer) → Which all a i x → Which all a j y → x.tx.node ≡ y.tx.node → x.tx.seq < y.tx.seq → x.rs.0 ≤ y.rs.0
    node_ i j x y (inl h) (inl m) q l = let u : x.tx.seq ≡ y.tx.seq = ap (λ z. z.tx.seq) (h.1 ∙ sym m.1) in absurd (omega arith)
    node_ i j x y (inl h) (inr m) q l =
        subst (λ z. z.rs.0 ≤ y.rs.0) (sym h.1) (next.node_later j y m (sym (ap (λ z. z.tx.node) h.1) ∙ q) (subst (λ z. z.tx.seq < y.tx.seq) h.1 l))
    node_ i j x y (inr h) (inl m) q l =
        subst (λ z. x.rs.0 ≤ z.rs.0) (sym m.1) (next.node_earlier i x h (q ∙ ap (λ z. z.tx.node) m.1) (subst (λ z. x.tx.seq < z.tx.seq) m.1 l))
    node_ i j x y (inr h) (inr m) q l = si.sessions.node i j x y h m q l

-- snapshot isolation lasts
pub si_next : (scene : Scene) (all : List Answer) (a : Answer) → SI scene all → IsNext scene all a → SI scene (all ++ a ∷ [])
si_next scene all a si next = let s : SeenNext scene all a = seen_next scene all a si next in record {
  placed = placed_next scene all a si next;
  snapshots = snapshots_next scene all a si next s;
  apart = apart_next scene all a si next s;
  sessions = sessions_next scene all a si next;
  wishes = wishes_next scene all a next s;
}

-- it holds of no answers
pub si_none : (scene : Scene) → SI scene []
si_none scene = record {
  placed = record { each = λ i a e. absurd cc; places = λ i j a b e f q. absurd cc; names = λ i j a b e f q. absurd cc; order = λ i a e. absurd cc };
  snapshots = λ i a e. absurd cc;
  apart = λ i j f g a b k e d n p q v w. absurd cc;
  sessions = record { rs = λ i j a b l e f q. absurd cc; fc = λ i j f a b l e d q p. absurd cc; node = λ i j a b e f q l. absurd cc };
  wishes = λ i a e. absurd cc;
}
