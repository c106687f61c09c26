-- The words of different tasks differ: the task can be told from its words.
use Rattle.std.proofs.Common.{List, ap, arith, false, if◌then◌else◌, refl, sym, true, ℕ, ◌<◌, ◌==◌, ◌^◌, ◌∙◌, ◌≡◌}
use Rattle.std.proofs.lemmas.Fmt.{decimal_is_IsNumeral}
use Rattle.std.specs.Prelude.{[], decimal, slice_index, ◌∷◌}
use Rattle.std.specs.Str.Parse.{digits_value}
use Rattle.strun_words.specs.Tasks.{AskFor, IsTask, words_of}
use Rattle.strun_words.specs.declared.task.Task.{Task}
use Rattle.strun_words.specs.declared.task.Task.TheVariants.{At, Audit, Bank, Generate, Pack, Run, RunPruned, Show}

-- a number is not less than itself
pub not_less : {X : Type 0} (m n : ℕ) → m ≡ n → m < n → X
not_less m n e l = absurd (omega (arith, e, l))

-- the task of the words behind `run`; the third byte of a flag tells which it is
abbrev run_told : List (List ℕ) → Task
run_told [] = Run false false
run_told (w ∷ []) = if slice_index w 2 == 112 then RunPruned else Run (slice_index w 2 == 102) (slice_index w 2 == 106)
run_told (w ∷ v ∷ ws) = Run true true

-- the task of the words behind `gen`
abbrev generate_told : List (List ℕ) → Task
generate_told [] = Show
generate_told (w ∷ []) = Generate (digits_value 10 w) false
generate_told (w ∷ v ∷ ws) = Generate (digits_value 10 w) true

-- the task of the words behind `at`
abbrev at_told : List (List ℕ) → Task
at_told [] = Show
at_told (w ∷ ws) = At (digits_value 10 w)

-- the task of words that ask for one
abbrev task_told : List (List ℕ) → Task
task_told [] = Show
task_told (w ∷ ws) =
    if slice_index w 0 == 114 then run_told ws
    else (if slice_index w 0 == 112 then Pack
    else (if slice_index w 0 == 115 then Show
    else (if slice_index w 0 == 98 then Bank
    else (if slice_index w 0 == 103 then generate_told ws else (if slice_index w 1 == 117 then Audit else at_told ws)))))

-- a number is told from its decimal
number_told : (n : ℕ) → n < 2 ^ 64 → digits_value 10 (decimal n) ≡ n
number_told n l = (decimal_is_IsNumeral n l).1

-- a task is told from its words
told : (t : Task) → IsTask t → task_told (words_of t) ≡ t
told (Run false false) i = refl
told (Run false true) i = refl
told (Run true false) i = refl
told (Run true true) i = refl
told RunPruned i = refl
told Pack i = refl
told Show i = refl
told (Generate seed false) i = ap (λ (n : ℕ). Generate n false) (number_told seed i)
told (Generate seed true) i = ap (λ (n : ℕ). Generate n true) (number_told seed i)
told Bank i = refl
told Audit i = refl
told (At time) i = ap At (number_told time i)

-- words ask for one task at most
pub one_task : (words : List (List ℕ)) (t u : Task) → AskFor words t → AskFor words u → t ≡ u
one_task words t u a b = sym (told t a.is_task) ∙ (ap task_told (sym a.same ∙ b.same) ∙ told u b.is_task)
