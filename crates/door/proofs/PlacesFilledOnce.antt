-- Each place of a board is filled once by the entries of a run.
use Rattle.answer_board.proofs.Answering.{same_place_self}
use Rattle.str_scene.proofs.SamePlaces.{same_place-is}
use Rattle.str_scene.specs.Places.{same_place}
use Rattle.answer_board.specs.Entries.{answer_at, answers_of}
use Rattle.answer_board.specs.Places.{MayFollow, has_index, has_place, places_of}
use Rattle.answer_board.specs.declared.entries.Entry.{Entry}
use Rattle.answer_board.specs.declared.entries.Entry.TheVariants.{Did, Gave}
use Rattle.cluster_run.specs.Clusters.{IsRun, events_of}
use Rattle.door.proofs.Entries.{CountsAnswers, answers_append, answers_entries}
use Rattle.door.specs.Acting.{AllStand}
use Rattle.door.specs.Following.{run_entries}
use Rattle.si_laws.proofs.Sessions.SessionAnswers.{session_holds}
use Rattle.si_laws.specs.SnapshotIsolation.{AnswersPlaced, IsPlaced}
use Rattle.std.proofs.Common.{Bool, List, None, Option, Some, [], ap, arith, cond, false, nat_le, le-leb, length, map, option_map, refl, slice_get, subst, suc, sym, true, zero, ℕ, ◌&&◌, ◌++◌, ◌+◌, ◌<◌, ◌∙◌, ◌∷◌, ◌≡◌, ◌≤◌}
use Rattle.std.proofs.lemmas.Bool.{and_from}
use Rattle.str_base.proofs.Lists.{get_append_left, get_append_right}
use Rattle.str_model.specs.Runs.{World, run}
use Rattle.str_model.specs.declared.messages.Answer.{Answer}
use Rattle.str_scene.specs.SceneLimits.{Exists, IsScene}
use Rattle.str_scene.specs.Scenes.{Scene, Session, nth}
use Rattle.str_scene.specs.declared.names.TxPlace.{TxPlace}

-- the answers of a run stand at places of their own
run_placed : (scene : Scene) (w : World) → IsScene scene → IsRun scene w → AnswersPlaced scene w.answers
run_placed scene w ok r = subst (λ (v : World). AnswersPlaced scene v.answers) (sym r) (session_holds scene ok (events_of w.journal)).placed

-- ---- the place of an answer is one of the board

lengths_at : (ss : List Session) (i : ℕ) (s : Session) → slice_get ss i ≡ Some s → slice_get (map (λ (x : Session). length x.txs) ss) i ≡ Some (length s.txs)
lengths_at [] i s q = absurd (cc q)
lengths_at (x ∷ ss) zero s q = let same : x ≡ s = cc q in ap (λ (y : Session). Some (length y.txs)) same
lengths_at (x ∷ ss) (suc i) s q = lengths_at ss i s q

length_of : (ss : List Session) (i : ℕ) (s : Session) → nth ss i ≡ Some s → nth (map (λ (x : Session). length x.txs) ss) i ≡ Some (length s.txs)
length_of ss zero s q = absurd (cc q)
length_of ss (suc i) s q = lengths_at ss i s q

index_there : (o : Option ℕ) (n i : ℕ) → o ≡ Some n → Exists i n → has_index o i ≡ true
index_there None n i q e = absurd (cc q)
index_there (Some m) n i q e = let same : m ≡ n = cc q in and_from (nat_le 1 i) (nat_le i m) (le-leb 1 i e.0) (le-leb i m (let l = e.1 in omega (arith, same, l)))

placed_there : (scene : Scene) (a : Answer) → IsPlaced scene a → has_place (places_of scene) a.place ≡ true
placed_there scene a p = index_there (nth (places_of scene) a.place.session.0) (length p.text.txs) a.place.index (length_of scene.sessions a.place.session.0 p.text p.session) p.index

-- ---- an answer that stands at a place is one of the answers

choose : (t : Bool) (b : Answer) (o : Option Answer) (a : Answer) (P : Type 0) → cond t (Some b) o ≡ Some a → (t ≡ true → b ≡ a → P) → (o ≡ Some a → P) → P
choose true b o a P q f g = f refl (cc q)
choose false b o a P q f g = g q

-- it has this number, and this place
record Stood (p : TxPlace) (es : List Entry) (a : Answer) : Type 0 where
  pub number : ℕ
  pub there : slice_get (answers_of es) number ≡ Some a
  pub below : number < length (answers_of es)
  pub place : a.place ≡ p

stood : (p : TxPlace) (es : List Entry) (a : Answer) → answer_at p es ≡ Some a → Stood p es a
stood p [] a q = absurd (cc q)
stood p (Did d ∷ es) a q = let s = stood p es a q in record { number = s.number; there = s.there; below = s.below; place = s.place }
stood p (Gave b ∷ es) a q =
    choose (same_place b.place p) b (answer_at p es) a (Stood p (Gave b ∷ es) a) q
    (λ t same. record { number = 0; there = ap (λ (x : Answer). Some x) same; below = omega arith; place = ap (λ (x : Answer). x.place) (sym same) ∙ same_place-is b.place p t })
    (λ r. let s = stood p es a r in record { number = suc s.number; there = s.there; below = (let l = s.below in omega (arith, l)); place = s.place })

none_or : (o : Option Answer) → ((a : Answer) → o ≡ Some a → ⊥) → o ≡ None
none_or None f = refl
none_or (Some a) f = absurd (f a refl)

-- what comes next in the entries of a run may follow what stands before it
pub may_follow : (scene : Scene) (w : World) (es rest : List Entry) (e : Entry) → IsScene scene → IsRun scene w → CountsAnswers w → es ++ e ∷ rest ≡ run_entries w → MayFollow (places_of scene) es e
may_follow scene w es rest (Did d) ok r h q = tt
may_follow scene w es rest (Gave a) ok r h q =
    let placed = run_placed scene w ok r in
    let k = length (answers_of es) in
    let all : w.answers ≡ answers_of es ++ a ∷ answers_of rest = sym (answers_entries w.journal w.answers h) ∙ ap answers_of (sym q) ∙ answers_append es (Gave a ∷ rest) in
    let here : slice_get w.answers (k + 0) ≡ Some a = ap (λ (l : List Answer). slice_get l (k + 0)) all ∙ get_append_right (answers_of es) (a ∷ answers_of rest) 0 in (
      placed_there scene a (placed.each (k + 0) a here),
      none_or (answer_at a.place es) (λ b at.
          let s = stood a.place es b at in
          let before : slice_get w.answers s.number ≡ Some b = ap (λ (l : List Answer). slice_get l s.number) all ∙ (get_append_left (answers_of es) (a ∷ answers_of rest) s.number s.below ∙ s.there) in
          let same = placed.places s.number (k + 0) b a before here s.place in
          let l = s.below in
          omega (arith, same, l)),
    )

-- ---- each answer stands at its place

stands_some : (p : TxPlace) (es : List Entry) (i : ℕ) (a : Answer) → slice_get (answers_of es) i ≡ Some a → a.place ≡ p → (b : Answer) × (answer_at p es ≡ Some b)
stands_some p [] i a q s = absurd (cc q)
stands_some p (Did d ∷ es) i a q s = stands_some p es i a q s
stands_some p (Gave b ∷ es) zero a q s =
    let same : b ≡ a = cc q in
    (b, ap (λ (t : Bool). cond t (Some b) (answer_at p es)) (ap (λ (x : Answer). same_place x.place p) same ∙ ap (λ (x : TxPlace). same_place x p) s ∙ same_place_self p))
stands_some p (Gave b ∷ es) (suc i) a q s = by_test (same_place b.place p) (stands_some p es i a q s)
  where
    by_test : (t : Bool) → (c : Answer) × (answer_at p es ≡ Some c) → (c : Answer) × (cond t (Some b) (answer_at p es) ≡ Some c)
    by_test true c = (b, refl)
    by_test false c = c

-- of the entries of a run
pub run_stands : (scene : Scene) (w : World) → IsScene scene → IsRun scene w → CountsAnswers w → AllStand (run_entries w) w.answers
run_stands scene w ok r h i a q =
    let placed = run_placed scene w ok r in
    let all = answers_entries w.journal w.answers h in
    let there : slice_get (answers_of (run_entries w)) i ≡ Some a = ap (λ (l : List Answer). slice_get l i) all ∙ q in
    let b = stands_some a.place (run_entries w) i a there refl in
    let s = stood a.place (run_entries w) b.0 b.1 in
    let again : slice_get w.answers s.number ≡ Some b.0 = ap (λ (l : List Answer). slice_get l s.number) (sym all) ∙ s.there in
    let same = placed.places s.number i b.0 a again q s.place in
    let one : Some b.0 ≡ Some a = sym again ∙ ap (λ (n : ℕ). slice_get w.answers n) same ∙ q in
    b.1 ∙ one

-- what stands at a place is of that place
pub answer_place : (p : TxPlace) (es : List Entry) (a : Answer) → answer_at p es ≡ Some a → a.place ≡ p
answer_place p es a q = (stood p es a q).place
