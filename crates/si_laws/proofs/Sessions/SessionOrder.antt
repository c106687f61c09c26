-- Sessions: own transactions stand in order of their places, and a session's answers are those of its decided ones.
use Rattle.std.proofs.Common.{Bool, List, Some, [], ap, append_assoc, arith, eqb-true, false, filter, inl, inr, length, refl, slice_get, slice_set, subst, sym, true, ℕ, ◌++◌, ◌+◌, ◌<◌, ◌==◌, ◌∙◌, ◌∷◌, ◌≡◌, ◌≢◌, ◌≤◌, ◌⊎◌}
use Rattle.std.proofs.lemmas.Bool.{cases_lt, cases_order, false_from_ne_true}
use Rattle.std.proofs.lemmas.List.{length-append}
use Rattle.std.proofs.lemmas.List.Elements.{filter-append}
use Rattle.str_scene.specs.declared.names.TxPlace.{TxPlace}
use Rattle.str_model.specs.declared.messages.Answer.{Answer}
use Rattle.str_model.specs.Acts.{decided_as, fresh}
use Rattle.str_model.specs.Clients.{of_session}
use Rattle.str_scene.specs.Scenes.{Here}
use Rattle.str_model.specs.Owned.{Owns}
use Rattle.str_model.specs.Views.{Doing, Own, Phase, is_decided, release}
use Rattle.str_model.specs.declared.names.Got.{Got}
use Rattle.si_laws.proofs.Scripts.ReadsEvaluate.{Ends}
use Rattle.str_model.proofs.Principle.SingleChanges.{NextPlace, is_first, is_next}
use Rattle.str_model.proofs.Changes.AnswerChanges.{IsLastOf, Rising, TellStep, in_release, last_index-none, last_index-some, release-last, release-other, release-rising, t_begins, t_decides, t_goes, t_rests, told}
use Rattle.str_model.proofs.OwnFacts.PlacesInOrder.{InOrder, PlacedIn, get_set_cases}
use Rattle.str_base.proofs.Lists.{get_push, get_set, got_push, got_set}
use Rattle.str_base.proofs.Members.{at_in, filter_in, in_right}
use Rattle.str_base.specs.Members.{In}

-- the answer is of the session
abbrev pub told_in : ℕ → Answer → Bool
told_in s a = a.place.session.0 == s

-- the answer is that of a decided own transaction, with the gets to which its script came on what it read
pub record Made (here : Here) (own : List Own) (a : Answer) : Type 0 where
  pub i : ℕ
  pub x : Own
  pub gets : List Got
  pub owns : slice_get own i ≡ Some x
  pub decided : is_decided x.phase ≡ true
  pub same : a ≡ told here i x gets
  pub ends : Ends here x gets

abbrev pub NoneAfter : ℕ → List Own → ℕ → Type 0
NoneAfter s own i = (j : ℕ) (y : Own) → i < j → slice_get own j ≡ Some y → (y.place.session.0 == s) ≡ false

-- the place of a transaction that is decided, or not, after so many answers
abbrev pub place_after : Bool → ℕ → ℕ
place_after true l = l
place_after false l = l + 1

-- the answers of a session, and its own transactions
pub record Told (here : Here) (s : ℕ) (own : List Own) (all : List Answer) : Type 0 where
  pub made : (c : ℕ) (a : Answer) → slice_get all c ≡ Some a → Made here own a × (a.place.index ≡ c + 1)
  pub none : ((i : ℕ) (x : Own) → slice_get own i ≡ Some x → (x.place.session.0 == s) ≡ false) → length all ≡ 0
  pub last : (i : ℕ) (x : Own) → slice_get own i ≡ Some x → (x.place.session.0 == s) ≡ true → NoneAfter s own i
      → x.place.index ≡ place_after (is_decided x.phase) (length all)

-- ---- own transactions

-- ---- answers

made_set : (here : Here) (i : ℕ) (x y : Own) (own : List Own) (a : Answer) → slice_get own i ≡ Some x → is_decided x.phase ≡ false → Made here own a → Made here (slice_set own i y) a
made_set here i x y own a is opn m = elim (get_set_cases own i m.i y m.x m.owns) [
  | inl p ↦ (let w : Some m.x ≡ Some x = sym m.owns ∙ (ap (λ k. slice_get own k) p.0 ∙ is) in let same : m.x ≡ x = cc w in
      absurd (cc (ap (λ (z : Own). is_decided z.phase) same, m.decided, opn)))
  | inr q ↦ record { i = m.i; x = m.x; gets = m.gets; owns = q.1; decided = m.decided; same = m.same; ends = m.ends }
]

none_before : (s i : ℕ) (x y : Own) (own : List Own) (k : ℕ) → slice_get own i ≡ Some x → y.place ≡ x.place → NoneAfter s (slice_set own i y) k → NoneAfter s own k
none_before s i x y own k is p h j z less g = elim (get_set_cases own i j y z g) [
  | inl c ↦ (let w : Some z ≡ Some x = sym g ∙ (ap (λ m. slice_get own m) c.0 ∙ is) in let same : z ≡ x = cc w in
      ap (λ (m : TxPlace). m.session.0 == s) (ap (λ (m : Own). m.place) same ∙ sym p) ∙ h j y less c.1)
  | inr c ↦ h j z less c.1
]

-- nothing is answered, and a transaction goes on, or it is of another session
told_set : (here : Here) (s i : ℕ) (x y : Own) (own : List Own) (all : List Answer) → slice_get own i ≡ Some x → is_decided x.phase ≡ false → y.place ≡ x.place
    → ((x.place.session.0 == s) ≡ true → is_decided y.phase ≡ false) → Told here s own all → Told here s (slice_set own i y) all
told_set here s i x y own all is opn p rest h =
    record {
      made = λ c a g. let m = h.made c a g in (made_set here i x y own a is opn m.0, m.1);
      none = λ f. h.none (λ j z g. elim (get_set_cases own i j y z g) [
        | inl c ↦ (let w : Some z ≡ Some x = sym g ∙ (ap (λ m. slice_get own m) c.0 ∙ is) in let same : z ≡ x = cc w in
            ap (λ (m : TxPlace). m.session.0 == s) (ap (λ (m : Own). m.place) same ∙ sym p) ∙ f j y c.1)
        | inr c ↦ f j z c.1
      ]);
      last = λ k z g ofs none. by_place k z ofs (none_before s i x y own k is p none) (got_set own i k y z g);
    }
  where
    by_place : (k : ℕ) (z : Own) → (z.place.session.0 == s) ≡ true → NoneAfter s own k → ((k ≡ i) × (z ≡ y)) ⊎ ((k ≢ i) × (slice_get own k ≡ Some z))
        → z.place.index ≡ place_after (is_decided z.phase) (length all)
    by_place k z ofs none (inl c) =
        let same : z.place ≡ x.place = ap (λ (m : Own). m.place) c.1 ∙ p in
        let of_x : (x.place.session.0 == s) ≡ true = ap (λ (m : TxPlace). m.session.0 == s) (sym same) ∙ ofs in
        let phase : is_decided z.phase ≡ is_decided x.phase = ap (λ (m : Own). is_decided m.phase) c.1 ∙ (rest of_x ∙ sym opn) in
        ap (λ (m : TxPlace). m.index) same ∙ (h.last i x is of_x (subst (NoneAfter s own) c.0 none) ∙ ap (λ b. place_after b (length all)) (sym phase))
    by_place k z ofs none (inr c) = h.last k z c.1 ofs none

-- one begins
told_push : (here : Here) (s : ℕ) (place : TxPlace) (rs : ℕ) (own : List Own) (all : List Answer) → NextPlace own place → Told here s own all
    → Told here s (own ++ fresh place rs ∷ []) all
told_push here s place rs own all nx h =
    record {
      made = λ c a g. let m = h.made c a g in
          (record { i = m.0.i; x = m.0.x; gets = m.0.gets; owns = get_push own m.0.i (fresh place rs) m.0.x m.0.owns; decided = m.0.decided; same = m.0.same; ends = m.0.ends }, m.1);
      none = λ f. h.none (λ j z g. f j z (get_push own j (fresh place rs) z g));
      last = λ k z g ofs none. by_place k z ofs none (got_push own k (fresh place rs) z g);
    }
  where
    next_index : place.session.0 ≡ s → NextPlace own place → place.index ≡ length all + 1
    next_index e (is_first q i) = omega (arith, i, h.none (λ j z g. subst (λ (m : ℕ). (z.place.session.0 == m) ≡ false) e (last_index-none (of_session place.session) own j z q g)))
    next_index e (is_next l x q o dec i) =
        let last : IsLastOf (of_session place.session) own l = last_index-some (of_session place.session) own l q in
        let x_of : (x.place.session.0 == s) ≡ true = subst (λ (m : ℕ). (x.place.session.0 == m) ≡ true) e (last.passes x o) in
        let after : NoneAfter s own l = λ j y less g. subst (λ (m : ℕ). (y.place.session.0 == m) ≡ false) e (last.none_after j y less g) in
        let there : x.place.index ≡ length all = h.last l x o x_of after ∙ ap (λ b. place_after b (length all)) dec in
        omega (arith, i, there)

    by_place : (k : ℕ) (z : Own) → (z.place.session.0 == s) ≡ true → NoneAfter s (own ++ fresh place rs ∷ []) k → ((k ≡ length own) × (z ≡ fresh place rs)) ⊎ (slice_get own k ≡ Some z)
        → z.place.index ≡ place_after (is_decided z.phase) (length all)
    by_place k z ofs none (inl c) =
        let s_is : place.session.0 ≡ s = eqb-true place.session.0 s (ap (λ (m : Own). m.place.session.0 == s) (sym c.1) ∙ ofs) in
        ap (λ (m : Own). m.place.index) c.1 ∙ (next_index s_is nx ∙ ap (λ (m : Own). place_after (is_decided m.phase) (length all)) (sym c.1))
    by_place k z ofs none (inr g) = h.last k z g ofs (λ j y less q. none j y less (get_push own j (fresh place rs) y q))

-- one is decided and answered
told_more : (here : Here) (n s i : ℕ) (x y : Own) (gets : List Got) (own : List Own) (all : List Answer) → slice_get own i ≡ Some x → is_decided x.phase ≡ false → is_decided y.phase ≡ true → y.place ≡ x.place
    → Ends here y gets → (y.place.session.0 == s) ≡ true → InOrder here.scene n own → Told here s own all → Told here s (slice_set own i y) (all ++ told here i y gets ∷ [])
told_more here n s i x y gets own all is opn dec p ends of_y ord h =
    record {
      made = λ c a g. by_answer c a (got_push all c (told here i y gets) a g);
      none = λ f. absurd (cc (f i y (get_set own i x y is), of_y));
      last = λ k z g ofs none. by_place k z ofs none (got_set own i k y z g);
    }
  where
    of_x : (x.place.session.0 == s) ≡ true
    of_x = ap (λ (m : TxPlace). m.session.0 == s) (sym p) ∙ of_y

    one_session : (z : Own) → (z.place.session.0 == s) ≡ true → x.place.session.0 ≡ z.place.session.0
    one_session z q = eqb-true x.place.session.0 s of_x ∙ sym (eqb-true z.place.session.0 s q)

    not_later : (j : ℕ) (z : Own) → i < j → slice_get own j ≡ Some z → (z.place.session.0 == s) ≡ true → ⊥
    not_later j z less g q = let e = ord.order i j x z less is g (one_session z q) in absurd (cc (e.decided, opn))

    here_index : y.place.index ≡ length all + 1
    here_index =
        ap (λ (m : TxPlace). m.index) p ∙ (h.last i x is of_x (λ j z less g. false_from_ne_true (z.place.session.0 == s) (not_later j z less g)) ∙ ap (λ b. place_after b (length all)) opn)

    by_answer : (c : ℕ) (a : Answer) → ((c ≡ length all) × (a ≡ told here i y gets)) ⊎ (slice_get all c ≡ Some a) → Made here (slice_set own i y) a × (a.place.index ≡ c + 1)
    by_answer c a (inl q) =
        (record { i = i; x = y; gets = gets; owns = get_set own i x y is; decided = dec; same = q.1; ends = ends }, omega (arith, here_index, q.0, ap (λ (m : Answer). m.place.index) q.1))
    by_answer c a (inr g) = let m = h.made c a g in (made_set here i x y own a is opn m.0, m.1)

    by_place : (k : ℕ) (z : Own) → (z.place.session.0 == s) ≡ true → NoneAfter s (slice_set own i y) k → ((k ≡ i) × (z ≡ y)) ⊎ ((k ≢ i) × (slice_get own k ≡ Some z))
        → z.place.index ≡ place_after (is_decided z.phase) (length (all ++ told here i y gets ∷ []))
    by_place k z ofs none (inl c) =
        ap (λ (m : Own). m.place.index) c.1 ∙ (omega (arith, here_index, length-append all (told here i y gets ∷ []))
        ∙ (ap (λ b. place_after b (length (all ++ told here i y gets ∷ []))) (sym dec) ∙ ap (λ (m : Own). place_after (is_decided m.phase) (length (all ++ told here i y gets ∷ []))) (sym c.1)))
    by_place k z ofs none (inr c) = elim (cases_order k i) [
      | inl q ↦ absurd (c.0 q)
      | inr r ↦ (elim r [
        | inl less ↦ absurd (cc (none i y less (get_set own i x y is), of_y))
        | inr more_ ↦ absurd (not_later k z more_ c.1 ofs)
      ])
    ]

-- what a change leaves of the answers of a session
pub told-step : (here : Here) (n s : ℕ) (old : List Answer) (d e : Doing) → TellStep here d e
    → ((i : ℕ) (x : Own) (p : Phase) → Owns d.view i x → is_decided x.phase ≡ false → Owns e.view i (decided_as p x) → Ends here (decided_as p x) x.gets) → Rising d.released → InOrder here.scene n d.view.own
    → Told here s d.view.own (filter (told_in s) (old ++ d.released)) → Told here s e.view.own (filter (told_in s) (old ++ e.released))
told-step here n s old d e (t_rests o r) ends up ord h = rw (o, r) h
told-step here n s old d e (t_begins place rs b o r) ends up ord h = rw (o, r) (told_push here s place rs d.view.own (filter (told_in s) (old ++ d.released)) b.next h)
told-step here n s old d e (t_goes i x y is f g p q o r) ends up ord h =
    rw (o, r) (told_set here s i x y d.view.own (filter (told_in s) (old ++ d.released)) is f p (λ k. g) h)
told-step here n s old d e (t_decides i x p is f g o r) ends up ord h = rw (o, r) (by_test (told_in s (told here i (decided_as p x) x.gets)) refl)
  where
    same_start : (bs : List Answer) → filter (told_in s) (old ++ bs) ≡ filter (told_in s) old ++ filter (told_in s) bs
    same_start bs = filter-append (told_in s) old bs

    not_above : (c : Answer) → In c d.released → told_in s c ≡ true → (x.place.session.0 == s) ≡ true → c.tx.seq ≤ i + 1
    not_above c c_in c_of y_of =
        let at : (k : ℕ) × (slice_get (filter (told_in s) (old ++ d.released)) k ≡ Some c) =
        at_in (filter (told_in s) (old ++ d.released)) c (filter_in (told_in s) (old ++ d.released) c (in_right old d.released c c_in) c_of) in
        let m : Made here d.view.own c = (h.made at.0 c at.1).0 in
        elim (cases_lt i m.i) [
          | inl less ↦ (let session : x.place.session.0 ≡ m.x.place.session.0 =
              eqb-true x.place.session.0 s y_of ∙ (sym (eqb-true c.place.session.0 s c_of) ∙ ap (λ (z : Answer). z.place.session.0) m.same) in
              let b = ord.order i m.i x m.x less is m.owns session in absurd (cc (b.decided, f)))
          | inr le ↦ omega (arith, le, ap (λ (z : Answer). z.tx.seq) m.same)
        ]

    by_test : (b : Bool) → told_in s (told here i (decided_as p x) x.gets) ≡ b → Told here s (slice_set d.view.own i (decided_as p x)) (filter (told_in s) (old ++ release (told here i (decided_as p x) x.gets) d.released))
    by_test false t =
        let same : filter (told_in s) (old ++ release (told here i (decided_as p x) x.gets) d.released) ≡ filter (told_in s) (old ++ d.released) =
        same_start (release (told here i (decided_as p x) x.gets) d.released) ∙ (ap (λ xs. filter (told_in s) old ++ xs) (release-other (told_in s) (told here i (decided_as p x) x.gets) d.released t) ∙ sym (same_start d.released)) in
        subst (Told here s (slice_set d.view.own i (decided_as p x))) (sym same)
        (told_set here s i x (decided_as p x) d.view.own (filter (told_in s) (old ++ d.released)) is f refl (λ k. absurd (cc (sym k ∙ t))) h)
    by_test true t =
        let same : filter (told_in s) (old ++ release (told here i (decided_as p x) x.gets) d.released) ≡ filter (told_in s) (old ++ d.released) ++ told here i (decided_as p x) x.gets ∷ [] =
        same_start (release (told here i (decided_as p x) x.gets) d.released)
        ∙ (ap (λ xs. filter (told_in s) old ++ xs) (release-last (told_in s) (told here i (decided_as p x) x.gets) d.released t up (λ c k q. not_above c k q t))
        ∙ (sym (append_assoc (filter (told_in s) old) (filter (told_in s) d.released) (told here i (decided_as p x) x.gets ∷ [])) ∙ ap (λ xs. xs ++ told here i (decided_as p x) x.gets ∷ []) (sym (same_start d.released)))) in
        subst (Told here s (slice_set d.view.own i (decided_as p x))) (sym same)
        (told_more here n s i x (decided_as p x) x.gets d.view.own (filter (told_in s) (old ++ d.released)) is f g refl (ends i x p is f (rw o (get_set d.view.own i x (decided_as p x) is))) t ord h)

-- ---- the answers of a step

pub rising-step : (here : Here) (d e : Doing) → TellStep here d e → Rising d.released → Rising e.released
rising-step here d e (t_rests o r) h = rw r h
rising-step here d e (t_begins place rs b o r) h = rw r h
rising-step here d e (t_goes i x y is f g p q o r) h = rw r h
rising-step here d e (t_decides i x p is f g o r) h = rw r (release-rising (told here i (decided_as p x) x.gets) d.released h)

pub ours-step : (here : Here) (n : ℕ) (d e : Doing) → TellStep here d e → InOrder here.scene n d.view.own → ((a : Answer) → In a d.released → PlacedIn here.scene n a.place)
    → (a : Answer) → In a e.released → PlacedIn here.scene n a.place
ours-step here n d e (t_rests o r) ord h a k = h a (subst (In a) r k)
ours-step here n d e (t_begins place rs b o r) ord h a k = h a (subst (In a) r k)
ours-step here n d e (t_goes i x y is f g p q o r) ord h a k = h a (subst (In a) r k)
ours-step here n d e (t_decides i x p is f g o r) ord h a k =
    elim (in_release (told here i (decided_as p x) x.gets) d.released a (subst (In a) r k)) [
      | inl c ↦ subst (PlacedIn here.scene n) (ap (λ (z : Answer). z.place) c) (ord.placed i x is)
      | inr j ↦ h a j
    ]
