-- What `clap` finds in the words of each task: by computing, one task after the other.
use Rattle.clap.proofs.OnLiterals.{clap_on_literals}
use Rattle.clap.specs.Words.{Row, Text, first_of, subcommand_of, takes}
use Rattle.std.proofs.Common.{Bool, List, None, Option, Some, [], arith, codes, false, ℕ, ◌<◌, ◌==◌, ◌^◌, ◌∷◌}
use Rattle.std.proofs.lemmas.Bool.Decides.{nat_tests}
use Rattle.std.specs.Prelude.{decimal, refl, true, ◌≡◌}
use Rattle.str_base.proofs.DecimalLemmas.{spelling_first}
use Rattle.strun_words.specs.Parsing.{Finds, HasFlag, program}
use Rattle.strun_words.specs.Tasks.{IsTask, words_of}
use Rattle.strun_words.specs.declared.task.Task.{Task}
use Rattle.strun_words.specs.declared.task.Task.TheVariants.{At, Audit, Bank, Generate, Pack, Run, RunPruned, Show}

-- this word and this flag are found behind `gen`
abbrev FindsWord : Option (Text × List Row) → List ℕ → Bool → Type 0
FindsWord None word run = ⊥
FindsWord (Some p) word run = (p.0 ≡ codes "gen") × (first_of (codes "seed") p.1 ≡ Some word) × HasFlag (codes "run") run p.1

-- this word is found behind `at`
abbrev FindsTime : Option (Text × List Row) → List ℕ → Type 0
FindsTime None word = ⊥
FindsTime (Some p) word = (p.0 ≡ codes "at") × (first_of (codes "time") p.1 ≡ Some word)

-- `gen` with a word that begins with no minus is taken, and what is found in it
gen_taken : (c : ℕ) (cs : List ℕ) → (c == 45) ≡ false → takes program (codes "gen" ∷ (c ∷ cs) ∷ []) ≡ true
unfolding clap_on_literals
gen_taken c cs e = rw (e, e) refl

gen_run_taken : (c : ℕ) (cs : List ℕ) → (c == 45) ≡ false → takes program (codes "gen" ∷ (c ∷ cs) ∷ codes "--run" ∷ []) ≡ true
unfolding clap_on_literals
gen_run_taken c cs e = rw (e, e) refl

gen_found : (c : ℕ) (cs : List ℕ) → (c == 45) ≡ false → FindsWord (subcommand_of program (codes "gen" ∷ (c ∷ cs) ∷ [])) (c ∷ cs) false
unfolding clap_on_literals
gen_found c cs e = rw (e, e) (refl, refl, refl)

gen_run_found : (c : ℕ) (cs : List ℕ) → (c == 45) ≡ false → FindsWord (subcommand_of program (codes "gen" ∷ (c ∷ cs) ∷ codes "--run" ∷ [])) (c ∷ cs) true
unfolding clap_on_literals
gen_run_found c cs e = rw (e, e) (refl, refl, refl)

-- `at` with a word that begins with no minus is taken, and what is found in it
at_taken : (c : ℕ) (cs : List ℕ) → (c == 45) ≡ false → takes program (codes "at" ∷ (c ∷ cs) ∷ []) ≡ true
unfolding clap_on_literals
at_taken c cs e = rw (e, e) refl

at_found : (c : ℕ) (cs : List ℕ) → (c == 45) ≡ false → FindsTime (subcommand_of program (codes "at" ∷ (c ∷ cs) ∷ [])) (c ∷ cs)
unfolding clap_on_literals
at_found c cs e = rw (e, e) (refl, refl)

-- a decimal begins with no minus
begins : (P : List ℕ → Type 0) (n : ℕ) → n < 2 ^ 64 → ((c : ℕ) (cs : List ℕ) → (c == 45) ≡ false → P (c ∷ cs)) → P (decimal n)
begins P n l f = by_first (decimal n) refl
  where
    by_first : (ds : List ℕ) → decimal n ≡ ds → P ds
    by_first [] e = let h = spelling_first n [] l e in absurd (omega (arith, h.0))
    by_first (c ∷ cs) e = let h = spelling_first n (c ∷ cs) l e in f c cs (grind (arith, nat_tests, h.0))

-- the words of a task are taken
pub words_taken : (task : Task) → IsTask task → takes program (words_of task) ≡ true
unfolding clap_on_literals
words_taken (Run false false) i = refl
words_taken (Run false true) i = refl
words_taken (Run true false) i = refl
words_taken (Run true true) i = refl
words_taken RunPruned i = refl
words_taken Pack i = refl
words_taken Show i = refl
words_taken (Generate seed false) i = begins (λ ds. takes program (codes "gen" ∷ ds ∷ []) ≡ true) seed i gen_taken
words_taken (Generate seed true) i = begins (λ ds. takes program (codes "gen" ∷ ds ∷ codes "--run" ∷ []) ≡ true) seed i gen_run_taken
words_taken Bank i = refl
words_taken Audit i = refl
words_taken (At time) i = begins (λ ds. takes program (codes "at" ∷ ds ∷ []) ≡ true) time i at_taken

-- where the word is a number's decimal, the task is found
finds_generate : (found : Option (Text × List Row)) (seed : ℕ) (run : Bool) → seed < 2 ^ 64 → FindsWord found (decimal seed) run → Finds found (Generate seed run)
finds_generate None seed run l h = h
finds_generate (Some p) seed run l h = (h.0, ((l, h.1), h.2))

finds_at : (found : Option (Text × List Row)) (time : ℕ) → time < 2 ^ 64 → FindsTime found (decimal time) → Finds found (At time)
finds_at None time l h = h
finds_at (Some p) time l h = (h.0, (l, h.1))

-- the subcommand and the arguments of a task are found in its words
pub words_found : (task : Task) → IsTask task → Finds (subcommand_of program (words_of task)) task
unfolding clap_on_literals
words_found (Run false false) i = (refl, (refl, refl, refl))
words_found (Run false true) i = (refl, (refl, refl, refl))
words_found (Run true false) i = (refl, (refl, refl, refl))
words_found (Run true true) i = (refl, (refl, refl, refl))
words_found RunPruned i = (refl, refl)
words_found Pack i = (refl, tt)
words_found Show i = (refl, tt)
words_found (Generate seed false) i =
    finds_generate (subcommand_of program (codes "gen" ∷ decimal seed ∷ [])) seed false i (begins (λ ds. FindsWord (subcommand_of program (codes "gen" ∷ ds ∷ [])) ds false) seed i gen_found)
words_found (Generate seed true) i =
    finds_generate (subcommand_of program (codes "gen" ∷ decimal seed ∷ codes "--run" ∷ [])) seed true i (begins (λ ds. FindsWord (subcommand_of program (codes "gen" ∷ ds ∷ codes "--run" ∷ [])) ds true) seed i gen_run_found)
words_found Bank i = (refl, tt)
words_found Audit i = (refl, tt)
words_found (At time) i =
    finds_at (subcommand_of program (codes "at" ∷ decimal time ∷ [])) time i (begins (λ ds. FindsTime (subcommand_of program (codes "at" ∷ ds ∷ [])) ds) time i at_found)
