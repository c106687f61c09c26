-- A script that turns and kept reads bring to its stop gives what its evaluation gives.
use Rattle.std.proofs.Common.{Bool, List, None, Option, Some, [], ap, false, find, if◌then◌else◌, refl, slice_get, subst, sym, true, ℤ, ◌++◌, ◌∙◌, ◌∷◌, ◌≡◌}
use Rattle.std.proofs.Common.{drop}
use Rattle.str_base.specs.declared.names.KeyId.{KeyId}
use Rattle.str_base.specs.declared.names.Value.{Value}
use Rattle.str_base.specs.Values.{is_below}
use Rattle.str_base.specs.Versions.{same_key}
use Rattle.str_model.specs.declared.names.Got.{Got}
use Rattle.str_model.specs.declared.names.ReadDone.{ReadDone}
use Rattle.str_model.specs.Evaluation.{AtEnd, Unmet as AtNeed, Wished as AtAbort, eval, eval_from}
use Rattle.str_model.specs.Scripts.{found_read}
use Rattle.str_scene.specs.declared.names.Op.{Op}
use Rattle.str_scene.specs.declared.names.Op.TheVariants.{Abort, Add, Del, Get, Need, Put, Puts}
use Rattle.tx_script.specs.declared.turns.Turn.{Turn}
use Rattle.tx_script.specs.declared.turns.Turn.TheVariants.{End, Moved, Unmet, Wished}
use Rattle.tx_script.specs.Evaluating.{Agrees, Reached, by_get, by_move, by_read, starts}
use Rattle.tx_script.specs.Turns.{ScriptRun, add_turn, get_turn, known, moved, need_turn, op_turn, stays, turn_at, turn_of}
use Rattle.tx_script.proofs.OfEvaluation.{left_by, turn-left}

-- ---- reads

-- a turn keeps the reads
turn-reads : (ops : List Op) (run : ScriptRun) → (turn_of ops run).run.reads ≡ run.reads
turn-reads ops run = by_op (slice_get ops run.next)
  where
    by_get_ : (k : KeyId) (o : Option Value) → (get_turn k o run).run.reads ≡ run.reads
    by_get_ k None = refl
    by_get_ k (Some v) = refl

    by_add : (k : KeyId) (n : ℤ) (o : Option Value) → (add_turn k n o run).run.reads ≡ run.reads
    by_add k n None = refl
    by_add k n (Some v) = refl

    by_test : (b : Bool) → (if b then stays Unmet run else record { turn = Moved; run = moved run }).run.reads ≡ run.reads
    by_test true = refl
    by_test false = refl

    by_need : (k : KeyId) (n : ℤ) (o : Option Value) → (need_turn k n o run).run.reads ≡ run.reads
    by_need k n None = refl
    by_need k n (Some v) = by_test (is_below v n)

    by_kind : (op : Op) → (op_turn op run).run.reads ≡ run.reads
    by_kind (Get k) = by_get_ k (known run k)
    by_kind (Put k n) = refl
    by_kind (Puts k t) = refl
    by_kind (Add k n) = by_add k n (known run k)
    by_kind (Del k) = refl
    by_kind (Need k n) = by_need k n (known run k)
    by_kind Abort = refl

    by_op : (o : Option Op) → (turn_at o run).run.reads ≡ run.reads
    by_op None = refl
    by_op (Some op) = by_kind op

-- what is found in a list is found where one more follows
found-more : (rs : List ReadDone) (r : ReadDone) (k : KeyId) (v : Value) → found_read (find (λ s. same_key s.key k) rs) ≡ Some v
    → found_read (find (λ s. same_key s.key k) (rs ++ r ∷ [])) ≡ Some v
found-more [] r k v e = absurd (cc e)
found-more (q ∷ rs) r k v e = by_test (found-more rs r k v) (same_key q.key k) e
  where
    by_test : (found_read (find (λ s. same_key s.key k) rs) ≡ Some v → found_read (find (λ s. same_key s.key k) (rs ++ r ∷ [])) ≡ Some v)
        → (b : Bool) → found_read (if b then Some q else find (λ s. same_key s.key k) rs) ≡ Some v
        → found_read (if b then Some q else find (λ s. same_key s.key k) (rs ++ r ∷ [])) ≡ Some v
    by_test rec true f = f
    by_test rec false f = rec f

-- a look that agrees with more reads agrees with fewer
agrees-less : (look : KeyId → Value) (rs : List ReadDone) (r : ReadDone) → Agrees look (rs ++ r ∷ []) → Agrees look rs
agrees-less look rs r agrees k v e = agrees k v (found-more rs r k v e)

-- ---- the whole

-- what evaluation gives from what is left is what it gives from the start
reached-left : (look : KeyId → Value) (ops : List Op) (run : ScriptRun) (gs : List Got) → Reached ops run gs → Agrees look run.reads
    → eval ops look ≡ eval_from look (drop run.next ops) run.writes gs
reached-left look ops run gs starts agrees = refl
reached-left look ops _ _ (by_get run gs k v before turn) agrees =
    let a : Agrees look run.reads = subst (Agrees look) (turn-reads ops run) agrees in
    reached-left look ops run gs before a ∙ (sym (turn-left look ops run gs a) ∙ ap (λ t. left_by look ops gs t (turn_of ops run).run) turn)
reached-left look ops _ gs (by_move run gets before turn) agrees =
    let a : Agrees look run.reads = subst (Agrees look) (turn-reads ops run) agrees in
    reached-left look ops run gets before a ∙ (sym (turn-left look ops run gets a) ∙ ap (λ t. left_by look ops gets t (turn_of ops run).run) turn)
reached-left look ops _ gs (by_read run gets k v by before) agrees =
    reached-left look ops run gets before (agrees-less look run.reads (record { key = k; value = v; by = by }) agrees)

-- what the next turn leaves is what evaluation gives from the start
reached-by : (look : KeyId → Value) (ops : List Op) (run : ScriptRun) (gs : List Got) (t : Turn) → Reached ops run gs → Agrees look run.reads → (turn_of ops run).turn ≡ t
    → eval ops look ≡ left_by look ops gs t (turn_of ops run).run
reached-by look ops run gs t reached agrees e =
    reached-left look ops run gs reached agrees ∙ (sym (turn-left look ops run gs agrees) ∙ ap (λ t. left_by look ops gs t (turn_of ops run).run) e)

-- past the last operation
pub reached-end : (look : KeyId → Value) (ops : List Op) (run : ScriptRun) (gs : List Got) → Reached ops run gs → Agrees look run.reads → (turn_of ops run).turn ≡ End
    → eval ops look ≡ record { gets = gs; writes = (turn_of ops run).run.writes; stop = AtEnd }
reached-end look ops run gs reached agrees e = reached-by look ops run gs End reached agrees e

-- at a need that is not met
pub reached-need : (look : KeyId → Value) (ops : List Op) (run : ScriptRun) (gs : List Got) → Reached ops run gs → Agrees look run.reads → (turn_of ops run).turn ≡ Unmet
    → eval ops look ≡ record { gets = gs; writes = (turn_of ops run).run.writes; stop = AtNeed }
reached-need look ops run gs reached agrees e = reached-by look ops run gs Unmet reached agrees e

-- at an abort
pub reached-abort : (look : KeyId → Value) (ops : List Op) (run : ScriptRun) (gs : List Got) → Reached ops run gs → Agrees look run.reads → (turn_of ops run).turn ≡ Wished
    → eval ops look ≡ record { gets = gs; writes = (turn_of ops run).run.writes; stop = AtAbort }
reached-abort look ops run gs reached agrees e = reached-by look ops run gs Wished reached agrees e
