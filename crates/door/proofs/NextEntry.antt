-- The entry that a board lacks next is found by counting.
use Rattle.answer_board.specs.Entries.{answers_of, dones_of}
use Rattle.answer_board.specs.declared.entries.Entry.{Entry}
use Rattle.answer_board.specs.declared.entries.Entry.TheVariants.{Did, Gave}
use Rattle.door.specs.Following.{as_gave, board_next, due_from, due_next, entries_from, extent_after, extent_of, run_entries}
use Rattle.door.specs.declared.extents.Extent.{Extent}
use Rattle.door.proofs.Entries.{CountsAnswers, answers_append, dones_append}
use Rattle.std.proofs.Common.{Bool, List, None, Option, Some, [], ap, arith, if◌then◌else◌, lt-ltb, nat_lt, drop, length, length-append, option_map, refl, slice_get, suc, sym, take, zero, ℕ, ◌++◌, ◌+◌, ◌-◌, ◌<◌, ◌∙◌, ◌∷◌, ◌≡◌}
use Rattle.std.proofs.lemmas.List.Sums.{sum_by-cons}
use Rattle.std.specs.List.{sum_by}
use Rattle.str_model.specs.Runs.{World}
use Rattle.str_model.specs.declared.messages.Answer.{Answer}
use Rattle.str_model.specs.declared.names.Done.{Done}
use mathlib.Core.List.{IsPrefix}

-- what is found by these numbers
abbrev found_by : ℕ → List Entry → List Done → List Answer → Option Entry
found_by n es ds rs = due_next (record { events = length (dones_of es); answers = length (answers_of es); due = due_from n es }) ds rs

-- an answer comes where one is due
due_first : (n : ℕ) (e : Entry) (o : Option Entry) → 0 < n → (if nat_lt 0 n then Some e else o) ≡ Some e
due_first n e o lt = ap (λ (b : Bool). if b then Some e else o) (lt-ltb 0 n lt)

-- it is the first of the rest, where n answers are due at first and the journal counts the others
next_by : (n : ℕ) (ds : List Done) (rs : List Answer) (es rest : List Entry) → n + sum_by (λ d. d.answers) ds ≡ length rs
    → es ++ rest ≡ as_gave (take n rs) ++ entries_from ds (drop n rs) → found_by n es ds rs ≡ slice_get rest 0
next_by zero [] rs [] rest s q = ap (λ (l : List Entry). slice_get l 0) (sym q)
next_by zero (d ∷ ds) rs [] rest s q = ap (λ (l : List Entry). slice_get l 0) (sym q)
next_by zero [] rs (y ∷ es) rest s q = absurd (cc q)
next_by zero (d ∷ ds) rs (Gave b ∷ es) rest s q = absurd (cc q)
next_by zero (d ∷ ds) rs (Did c ∷ es) rest s q =
    let all = sum_by-cons (λ (x : Done). x.answers) d ds in
    let same : c ≡ d = cc q in
    let tail : es ++ rest ≡ as_gave (take d.answers rs) ++ entries_from ds (drop d.answers rs) = cc q in
    ap (λ (x : Done). found_by x.answers es ds rs) same ∙ next_by d.answers ds rs es rest (omega (arith, s, all)) tail
next_by (suc n) ds [] es rest s q = absurd (omega (arith, s))
next_by (suc n) ds (a ∷ rs) [] rest s q = due_first (suc n) (Gave a) (option_map (λ (d : Done). Did d) (slice_get ds 0)) (omega arith) ∙ ap (λ (l : List Entry). slice_get l 0) (sym q)
next_by (suc n) ds (a ∷ rs) (Did c ∷ es) rest s q = absurd (cc q)
next_by (suc n) ds (a ∷ rs) (Gave b ∷ es) rest s q =
    let tail : es ++ rest ≡ as_gave (take n rs) ++ entries_from ds (drop n rs) = cc q in
    let one : suc n - 1 ≡ n = omega arith in
    ap (λ (k : ℕ). due_next (record { events = length (dones_of es); answers = suc (length (answers_of es)); due = due_from k es }) ds (a ∷ rs)) one ∙ (later n es rs ∙ next_by n ds rs es rest (omega (arith, s)) tail)
  where
    later : (k : ℕ) (xs : List Entry) (bs : List Answer) → due_next (record { events = length (dones_of xs); answers = suc (length (answers_of xs)); due = due_from k xs }) ds (a ∷ bs) ≡ found_by k xs ds bs
    later k xs bs = refl

-- the next entry of a run, behind a beginning of its entries
pub next_is : (w : World) (es rest : List Entry) → CountsAnswers w → es ++ rest ≡ run_entries w → board_next (extent_of es) w ≡ slice_get rest 0
next_is w es rest h q = next_by 0 w.journal w.answers es rest (omega (arith, h)) q

due_snoc : (n : ℕ) (es : List Entry) (e : Entry) → due_from n (es ++ e ∷ []) ≡ due_from (due_from n es) (e ∷ [])
due_snoc n [] e = refl
due_snoc n (Did d ∷ es) e = due_snoc d.answers es e
due_snoc n (Gave a ∷ es) e = due_snoc (n - 1) es e

extent_same : (x y : Extent) → x.events ≡ y.events → x.answers ≡ y.answers → x.due ≡ y.due → x ≡ y
extent_same x y e a d j = record { events = e j; answers = a j; due = d j }

-- how far a list has come with one entry more
pub extent_snoc : (es : List Entry) (e : Entry) → extent_of (es ++ e ∷ []) ≡ extent_after (extent_of es) e
extent_snoc es (Did d) =
    let ds = ap length (dones_append es (Did d ∷ [])) in
    let dn = length-append (dones_of es) (d ∷ []) in
    let rs = ap length (answers_append es (Did d ∷ [])) in
    let rn = length-append (answers_of es) [] in
    extent_same (extent_of (es ++ Did d ∷ [])) (extent_after (extent_of es) (Did d)) (ds ∙ dn) (omega (arith, rs, rn)) (due_snoc 0 es (Did d))
extent_snoc es (Gave a) =
    let ds = ap length (dones_append es (Gave a ∷ [])) in
    let dn = length-append (dones_of es) [] in
    let rs = ap length (answers_append es (Gave a ∷ [])) in
    let rn = length-append (answers_of es) (a ∷ []) in
    extent_same (extent_of (es ++ Gave a ∷ [])) (extent_after (extent_of es) (Gave a)) (omega (arith, ds, dn)) (rs ∙ rn) (due_snoc 0 es (Gave a))
