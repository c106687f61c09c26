-- The name of the subcommand tells which task was found.
use Rattle.clap.proofs.WalkLemmas.{first_value-rows, one_text-rows}
use Rattle.clap.specs.Words.{Row, Text, first_value, one_text, rows_of, subcommand_name_of, subcommand_rows, subcommand_rows_of}
use Rattle.clap.specs.declared.parser.matches.ArgMatches.{ArgMatches}
use Rattle.clap.specs.declared.parser.matches.ArgMatches.TheViews.{out-ArgMatches, out-SubCommand}
use Rattle.clap.specs.declared.parser.matches.SubCommand.{SubCommand}
use Rattle.clap.specs.declared.parser.matches.Found.{Found}
use Rattle.std.proofs.Common.{Bool, List, None, Option, Some, ap, ap₂, arith, refl, subst, sym, ◌∙◌, ◌≡◌}
use Rattle.std.specs.Box.{box_value}
use Rattle.std.proofs.lemmas.Fmt.{decimal_injective}
use Rattle.std.specs.Prelude.{Box, codes, decimal, false, if◌then◌else◌, option_map, slice_index, true, ℕ, ◌<◌, ◌==◌, ◌^◌}
use Rattle.strun_words.proofs.Apart.{not_less}
use Rattle.strun_words.specs.Parsing.{Finds, HasArguments, HasFlag, HasNumber, name_of}
use Rattle.strun_words.specs.declared.task.Task.{Task}
use Rattle.strun_words.specs.declared.task.Task.TheVariants.{At, Audit, Bank, Generate, Pack, Run, RunPruned, Show}

-- the name of a subcommand that was found
abbrev name_found : Option (Text × List Row) → Option Text
name_found found = option_map (λ p. p.0) found

-- the name of the subcommand that a parse met is the one that is found
pub name_agrees : (m : ArgMatches) → name_found (subcommand_rows_of m) ≡ subcommand_name_of m
name_agrees m = by_subcommand (out-ArgMatches m).subcommand
  where
    by_subcommand : {Z : Type 0} (o : Option (Box SubCommand Z)) → name_found (subcommand_rows o) ≡ option_map (λ b. (out-SubCommand (box_value b)).name.now) o
    by_subcommand None = refl
    by_subcommand (Some b) = refl

-- the name that is found is that of the task
pub named : (found : Option (Text × List Row)) (name : Text) (task : Task) → name_found found ≡ Some name → Finds found task → name_of task ≡ name
named None name task e h = absurd h
named (Some p) name task e h = let q : p.0 ≡ name = cc e in sym h.0 ∙ q

-- the arguments that are found are those of the task
pub arguments_found : (found : Option (Text × List Row)) (f : Found) (task : Task) → option_map (λ p. p.1) found ≡ Some (rows_of f) → Finds found task → HasArguments task (rows_of f)
arguments_found None f task e h = absurd h
arguments_found (Some p) f task e h = let q : p.1 ≡ rows_of f = cc e in subst (HasArguments task) q h.1

-- a flag is read as it is found
pub flag_read : (f : Found) (name : Text) (flag got : Bool) → HasFlag name flag (rows_of f) → (one_text f name ≡ Some (codes "true") → got ≡ true)
    → (one_text f name ≡ Some (codes "false") → got ≡ false) → got ≡ flag
flag_read f name true got h t e = t (one_text-rows f name ∙ h)
flag_read f name false got h t e = e (one_text-rows f name ∙ h)

-- the byte of a name at a place
byte_at : (i : ℕ) (a b : Text) → a ≡ b → slice_index a i ≡ slice_index b i
byte_at i a b e = ap (λ (t : Text). slice_index t i) e

first_byte : (a b : Text) → a ≡ b → slice_index a 0 ≡ slice_index b 0
first_byte a b e = byte_at 0 a b e

-- the task of a name that has no arguments
abbrev plain_told : Text → Option Task
plain_told name =
    if slice_index name 0 == 112 then Some Pack
    else (if slice_index name 0 == 115 then Some Show
    else (if slice_index name 0 == 98 then Some Bank
    else (if slice_index name 2 == 100 then Some Audit else None)))

-- it is the task of that name
plain_named : (name : Text) (t task : Task) → plain_told name ≡ Some t → name_of task ≡ name → t ≡ task
plain_named name t task p e = by_task task (ap plain_told e ∙ p)
  where
    by_task : (u : Task) → plain_told (name_of u) ≡ Some t → t ≡ u
    by_task (Run frames journal) q = absurd (cc q)
    by_task RunPruned q = absurd (cc q)
    by_task Pack q = cc q
    by_task Show q = cc q
    by_task (Generate seed run) q = absurd (cc q)
    by_task Bank q = cc q
    by_task Audit q = cc q
    by_task (At time) q = absurd (cc q)

pub pack_named : (task : Task) → name_of task ≡ codes "pack" → Pack ≡ task
pack_named task e = plain_named (codes "pack") Pack task refl e

pub show_named : (task : Task) → name_of task ≡ codes "show" → Show ≡ task
show_named task e = plain_named (codes "show") Show task refl e

pub bank_named : (task : Task) → name_of task ≡ codes "bank" → Bank ≡ task
bank_named task e = plain_named (codes "bank") Bank task refl e

pub audit_named : (task : Task) → name_of task ≡ codes "audit" → Audit ≡ task
audit_named task e = plain_named (codes "audit") Audit task refl e

-- a task with the name `run` and without its flag `prune` has the other flags that are read
pub run_named : (f : Found) (prune frames journal : Bool) (task : Task) → prune ≡ false → name_of task ≡ codes "run" → HasArguments task (rows_of f)
    → ((flag : Bool) → HasFlag (codes "prune") flag (rows_of f) → prune ≡ flag) → ((flag : Bool) → HasFlag (codes "frames") flag (rows_of f) → frames ≡ flag)
    → ((flag : Bool) → HasFlag (codes "journal") flag (rows_of f) → journal ≡ flag) → Run frames journal ≡ task
run_named f prune frames journal (Run a b) n e h z x y = ap₂ Run (x a h.0) (y b h.1)
run_named f prune frames journal RunPruned n e h z x y = let t : prune ≡ true = z true h in absurd (cc (n, t))
run_named f prune frames journal Pack n e h z x y = not_less 112 114 (first_byte _ _ e) (omega arith)
run_named f prune frames journal Show n e h z x y = not_less 114 115 (sym (first_byte _ _ e)) (omega arith)
run_named f prune frames journal (Generate seed run) n e h z x y = not_less 103 114 (first_byte _ _ e) (omega arith)
run_named f prune frames journal Bank n e h z x y = not_less 98 114 (first_byte _ _ e) (omega arith)
run_named f prune frames journal Audit n e h z x y = not_less 97 114 (first_byte _ _ e) (omega arith)
run_named f prune frames journal (At time) n e h z x y = not_less 97 114 (first_byte _ _ e) (omega arith)

-- with that flag it is the run that prunes
pub pruned_named : (f : Found) (prune : Bool) (task : Task) → prune ≡ true → name_of task ≡ codes "run" → HasArguments task (rows_of f)
    → ((flag : Bool) → HasFlag (codes "prune") flag (rows_of f) → prune ≡ flag) → RunPruned ≡ task
pruned_named f prune (Run a b) t e h z = let n : prune ≡ false = z false h.2 in absurd (cc (n, t))
pruned_named f prune RunPruned t e h z = refl
pruned_named f prune Pack t e h z = not_less 112 114 (first_byte _ _ e) (omega arith)
pruned_named f prune Show t e h z = not_less 114 115 (sym (first_byte _ _ e)) (omega arith)
pruned_named f prune (Generate seed run) t e h z = not_less 103 114 (first_byte _ _ e) (omega arith)
pruned_named f prune Bank t e h z = not_less 98 114 (first_byte _ _ e) (omega arith)
pruned_named f prune Audit t e h z = not_less 97 114 (first_byte _ _ e) (omega arith)
pruned_named f prune (At time) t e h z = not_less 97 114 (first_byte _ _ e) (omega arith)

-- a task with the name `gen` has a seed and a flag
pub generate_named : {X : Type 0} (f : Found) (task : Task) → name_of task ≡ codes "gen" → HasArguments task (rows_of f)
    → ((n : ℕ) (run : Bool) → Generate n run ≡ task → HasArguments (Generate n run) (rows_of f) → X) → X
generate_named f (Generate seed run) e h go = go seed run refl h
generate_named f (Run frames journal) e h go = not_less 103 114 (sym (first_byte _ _ e)) (omega arith)
generate_named f RunPruned e h go = not_less 103 114 (sym (first_byte _ _ e)) (omega arith)
generate_named f Pack e h go = not_less 103 112 (sym (first_byte _ _ e)) (omega arith)
generate_named f Show e h go = not_less 103 115 (sym (first_byte _ _ e)) (omega arith)
generate_named f Bank e h go = not_less 98 103 (first_byte _ _ e) (omega arith)
generate_named f Audit e h go = not_less 97 103 (first_byte _ _ e) (omega arith)
generate_named f (At time) e h go = not_less 97 103 (first_byte _ _ e) (omega arith)

-- a task with the name `at` has a timestamp
pub at_named : {X : Type 0} (f : Found) (task : Task) → name_of task ≡ codes "at" → HasArguments task (rows_of f)
    → ((n : ℕ) → At n ≡ task → HasArguments (At n) (rows_of f) → X) → X
at_named f (At time) e h go = go time refl h
at_named f (Run frames journal) e h go = not_less 97 114 (sym (first_byte _ _ e)) (omega arith)
at_named f RunPruned e h go = not_less 97 114 (sym (first_byte _ _ e)) (omega arith)
at_named f Pack e h go = not_less 97 112 (sym (first_byte _ _ e)) (omega arith)
at_named f Show e h go = not_less 97 115 (sym (first_byte _ _ e)) (omega arith)
at_named f (Generate seed run) e h go = not_less 97 103 (sym (first_byte _ _ e)) (omega arith)
at_named f Bank e h go = not_less 97 98 (sym (first_byte _ _ e)) (omega arith)
at_named f Audit e h go = not_less 116 117 (sym (byte_at 1 _ _ e)) (omega arith)

-- ---- the number of an argument

-- it has a word
pub word_given : (f : Found) (name : Text) (number : ℕ) → first_value f name ≡ None → HasNumber name number (rows_of f) → None ≡ Some number
word_given f name number n h = absurd (cc (first_value-rows f name, n, h.1))

-- that is a number's decimal
pub number_given : (f : Found) (name word : Text) (number : ℕ) → first_value f name ≡ Some word → ((n : ℕ) → n < 2 ^ 64 → ¬ (decimal n ≡ word)) → HasNumber name number (rows_of f)
    → None ≡ Some number
number_given f name word number w n h = let same : decimal number ≡ word = cc (first_value-rows f name, w, h.1) in absurd (n number h.0 same)

-- and of no other's
pub number_read : (f : Found) (name word : Text) (got number : ℕ) → first_value f name ≡ Some word → decimal got ≡ word → got < 2 ^ 64 → HasNumber name number (rows_of f)
    → Some got ≡ Some number
number_read f name word got number w d l h =
    let same : decimal got ≡ decimal number = cc (first_value-rows f name, w, h.1, d) in ap Some (decimal_injective got number l h.0 same)
