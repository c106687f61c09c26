-- The turns of a script give what its evaluation gives.
use Rattle.std.proofs.Common.{Bool, List, None, Option, Some, [], add-one, ap, drop, false, find, if◌then◌else◌, refl, slice_get, suc, sym, true, zero, ℕ, ℤ, ◌++◌, ◌+◌, ◌∙◌, ◌∷◌, ◌≡◌}
use Rattle.str_base.specs.declared.names.KeyId.{KeyId}
use Rattle.str_base.specs.declared.names.Value.{Value}
use Rattle.str_base.specs.declared.names.Write.{Write}
use Rattle.str_base.specs.Values.{is_below, sum_with}
use Rattle.str_base.specs.Versions.{same_key}
use Rattle.str_model.specs.declared.names.Got.{Got}
use Rattle.str_model.specs.Evaluation.{AtEnd, Evaluated, Unmet as AtNeed, Wished as AtAbort, eval_from, value_at, with_write, write_or}
use Rattle.str_model.specs.Scripts.{found_read, found_write, or_else}
use Rattle.str_scene.specs.declared.names.Op.{Op}
use Rattle.str_scene.specs.declared.names.Op.TheVariants.{Abort, Add, Del, Get, Need, Put, Puts}
use Rattle.tx_script.specs.declared.turns.Turn.{Turn}
use Rattle.tx_script.specs.declared.turns.Turn.TheVariants.{Ask, End, Got as GotIt, Moved, Unmet, Wished}
use Rattle.tx_script.specs.Evaluating.{Agrees}
use Rattle.tx_script.specs.Turns.{ScriptRun, Turned, add_turn, get_turn, known, moved, need_turn, op_turn, stays, turn_at, turn_of}

-- ---- one turn

-- what evaluation gives from the operations that are left, or where the script stops
abbrev pub left_by : (KeyId → Value) → List Op → List Got → Turn → ScriptRun → Evaluated
left_by look ops gs (Ask k) run = eval_from look (drop run.next ops) run.writes gs
left_by look ops gs (GotIt k v) run = eval_from look (drop run.next ops) run.writes (gs ++ record { key = k; value = v } ∷ [])
left_by look ops gs Moved run = eval_from look (drop run.next ops) run.writes gs
left_by look ops gs Unmet run = record { gets = gs; writes = run.writes; stop = AtNeed }
left_by look ops gs Wished run = record { gets = gs; writes = run.writes; stop = AtAbort }
left_by look ops gs End run = record { gets = gs; writes = run.writes; stop = AtEnd }

-- the same of a turn
abbrev pub left : (KeyId → Value) → List Op → List Got → Turned → Evaluated
left look ops gs t = left_by look ops gs t.turn t.run

-- a known value is the one that evaluation takes
value-known : (look : KeyId → Value) (run : ScriptRun) (k : KeyId) (v : Value) → Agrees look run.reads → known run k ≡ Some v → value_at look run.writes k ≡ v
value-known look run k v agrees e = by_write (find (λ w. same_key w.key k) run.writes) e
  where
    by_write : (o : Option Write) → or_else (found_write o) (found_read (find (λ r. same_key r.key k) run.reads)) ≡ Some v → write_or o (look k) ≡ v
    by_write None f = agrees k v f
    by_write (Some w) f = cc f

-- past the last operation nothing is left
drop-none : (ops : List Op) (n : ℕ) → slice_get ops n ≡ None → drop n ops ≡ []
drop-none [] zero e = refl
drop-none [] (suc n) e = refl
drop-none (op ∷ ops) zero e = absurd (cc e)
drop-none (op ∷ ops) (suc n) e = drop-none ops n e

-- an operation is the first of those that are left
drop-some : (ops : List Op) (n : ℕ) (op : Op) → slice_get ops n ≡ Some op → drop n ops ≡ op ∷ drop (suc n) ops
drop-some [] n op e = absurd (cc e)
drop-some (p ∷ ops) zero op e = let f : p ≡ op = cc e in ap (λ q. q ∷ ops) f
drop-some (p ∷ ops) (suc n) op e = drop-some ops n op e

-- a get
get-left : (look : KeyId → Value) (ops : List Op) (run : ScriptRun) (gs : List Got) (k : KeyId) → Agrees look run.reads
    → drop run.next ops ≡ Get k ∷ drop (run.next + 1) ops → (o : Option Value) → known run k ≡ o
    → left look ops gs (get_turn k o run) ≡ eval_from look (Get k ∷ drop (run.next + 1) ops) run.writes gs
get-left look ops run gs k agrees d None e = ap (λ l. eval_from look l run.writes gs) d
get-left look ops run gs k agrees d (Some v) e =
    ap (λ (u : Value). eval_from look (drop (run.next + 1) ops) run.writes (gs ++ record { key = k; value = u } ∷ [])) (sym (value-known look run k v agrees e))

-- an addition
add-left : (look : KeyId → Value) (ops : List Op) (run : ScriptRun) (gs : List Got) (k : KeyId) (n : ℤ) → Agrees look run.reads
    → drop run.next ops ≡ Add k n ∷ drop (run.next + 1) ops → (o : Option Value) → known run k ≡ o
    → left look ops gs (add_turn k n o run) ≡ eval_from look (Add k n ∷ drop (run.next + 1) ops) run.writes gs
add-left look ops run gs k n agrees d None e = ap (λ l. eval_from look l run.writes gs) d
add-left look ops run gs k n agrees d (Some v) e =
    ap (λ (u : Value). eval_from look (drop (run.next + 1) ops) (with_write k (sum_with u n) run.writes) gs) (sym (value-known look run k v agrees e))

-- a need
need-left : (look : KeyId → Value) (ops : List Op) (run : ScriptRun) (gs : List Got) (k : KeyId) (n : ℤ) → Agrees look run.reads
    → drop run.next ops ≡ Need k n ∷ drop (run.next + 1) ops → (o : Option Value) → known run k ≡ o
    → left look ops gs (need_turn k n o run) ≡ eval_from look (Need k n ∷ drop (run.next + 1) ops) run.writes gs
need-left look ops run gs k n agrees d None e = ap (λ l. eval_from look l run.writes gs) d
need-left look ops run gs k n agrees d (Some v) e =
    by_test (is_below v n)
    ∙ ap (λ (u : Value). if is_below u n then at_need else eval_from look (drop (run.next + 1) ops) run.writes gs) (sym (value-known look run k v agrees e))
  where
    at_need : Evaluated
    at_need = record { gets = gs; writes = run.writes; stop = AtNeed }

    by_test : (b : Bool) → left look ops gs (if b then stays Unmet run else record { turn = Moved; run = moved run }) ≡ (if b then record { gets = gs; writes = run.writes; stop = AtNeed } else eval_from look (drop (run.next + 1) ops) run.writes gs)
    by_test true = refl
    by_test false = refl

-- an operation
op-left : (look : KeyId → Value) (ops : List Op) (run : ScriptRun) (gs : List Got) (op : Op) → Agrees look run.reads
    → drop run.next ops ≡ op ∷ drop (run.next + 1) ops → left look ops gs (op_turn op run) ≡ eval_from look (op ∷ drop (run.next + 1) ops) run.writes gs
op-left look ops run gs (Get k) agrees d = get-left look ops run gs k agrees d (known run k) refl
op-left look ops run gs (Put k n) agrees d = refl
op-left look ops run gs (Puts k t) agrees d = refl
op-left look ops run gs (Add k n) agrees d = add-left look ops run gs k n agrees d (known run k) refl
op-left look ops run gs (Del k) agrees d = refl
op-left look ops run gs (Need k n) agrees d = need-left look ops run gs k n agrees d (known run k) refl
op-left look ops run gs Abort agrees d = refl

-- a turn leaves what evaluation gives from the operations before it
pub turn-left : (look : KeyId → Value) (ops : List Op) (run : ScriptRun) (gs : List Got) → Agrees look run.reads
    → left look ops gs (turn_of ops run) ≡ eval_from look (drop run.next ops) run.writes gs
turn-left look ops run gs agrees = by_op (slice_get ops run.next) refl
  where
    by_op : (o : Option Op) → slice_get ops run.next ≡ o → left look ops gs (turn_at o run) ≡ eval_from look (drop run.next ops) run.writes gs
    by_op None e = ap (λ l. eval_from look l run.writes gs) (sym (drop-none ops run.next e))
    by_op (Some op) e =
        let d : drop run.next ops ≡ op ∷ drop (run.next + 1) ops = rw add-one (drop-some ops run.next op e) in
        op-left look ops run gs op agrees d ∙ ap (λ l. eval_from look l run.writes gs) (sym d)
