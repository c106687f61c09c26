-- What a node does with the next operation of an own transaction, by the turn of its script.
use Rattle.std.proofs.Common.{Bool, List, None, Option, Some, [], ap, eq-eqb, false, find, if◌then◌else◌, refl, subst, sym, true, ℕ, ℤ, ◌++◌, ◌+◌, ◌∙◌, ◌∷◌, ◌≡◌}
use Rattle.str_base.specs.declared.names.KeyId.{KeyId}
use Rattle.str_base.specs.declared.names.TxId.{TxId}
use Rattle.str_base.specs.declared.names.Value.{Value}
use Rattle.str_base.specs.Values.{is_below}
use Rattle.str_base.specs.Versions.{same_key}
use Rattle.str_model.specs.declared.names.ReadDone.{ReadDone}
use Rattle.str_model.specs.Scripts.{do_op, finish, finish_next, found_read, found_write, need_value, noted, op_or_commit, or_else, own_op, with_value}
use Rattle.str_model.specs.Views.{Active, Closing, Doing, Own, put}
use Rattle.str_scene.specs.declared.names.Op.{Op}
use Rattle.str_scene.specs.declared.names.Op.TheVariants.{Abort, Add, Del, Get, Need, Put, Puts}
use Rattle.str_scene.specs.Scenes.{Here, script_at}
use Rattle.dependency_set.specs.Snapshots.{Snap}
use Rattle.tx_script.specs.Doing.{done, needed, run_of}
use Rattle.tx_script.specs.declared.turns.Turn.TheVariants.{Moved, Unmet}
use Rattle.tx_script.specs.Turns.{add_turn, get_turn, given, known, moved, need_turn, op_turn, stays, turn_at, turn_of}

-- a get
get_does : (here : Here) (i : ℕ) (k : KeyId) (x : Own) (d : Doing) (o : Option Value) → need_value here i (Get k) k x o d ≡ done here i x (get_turn k o (run_of x)) d
get_does here i k x d None = refl
get_does here i k x d (Some v) = refl

-- an addition
add_does : (here : Here) (i : ℕ) (k : KeyId) (n : ℤ) (x : Own) (d : Doing) (o : Option Value) → need_value here i (Add k n) k x o d ≡ done here i x (add_turn k n o (run_of x)) d
add_does here i k n x d None = refl
add_does here i k n x d (Some v) = refl

-- a need
need_does : (here : Here) (i : ℕ) (k : KeyId) (n : ℤ) (x : Own) (d : Doing) (o : Option Value) → need_value here i (Need k n) k x o d ≡ done here i x (need_turn k n o (run_of x)) d
need_does here i k n x d None = refl
need_does here i k n x d (Some v) = by_test (is_below v n)
  where
    by_test : (b : Bool) → put i (if b then record x { phase = Closing true } else record x { next = x.next + 1; phase = Active }) d ≡ done here i x (if b then stays Unmet (run_of x) else record { turn = Moved; run = moved (run_of x) }) d
    by_test true = refl
    by_test false = refl

-- an operation
op_does : (here : Here) (i : ℕ) (x : Own) (op : Op) (d : Doing) → do_op here i x op d ≡ done here i x (op_turn op (run_of x)) d
op_does here i x (Get k) d = get_does here i k x d (known (run_of x) k)
op_does here i x (Put k n) d = refl
op_does here i x (Puts k t) d = refl
op_does here i x (Add k n) d = add_does here i k n x d (known (run_of x) k)
op_does here i x (Del k) d = refl
op_does here i x (Need k n) d = need_does here i k n x d (known (run_of x) k)
op_does here i x Abort d = refl

-- the next operation, or the request to commit, is done by the turn of the script
pub turn_does : (here : Here) (i : ℕ) (x : Own) (d : Doing) → op_or_commit here i x (own_op here x) d ≡ done here i x (turn_of (script_at here.scene x.place) (run_of x)) d
turn_does here i x d = by_op (own_op here x)
  where
    by_op : (o : Option Op) → op_or_commit here i x o d ≡ done here i x (turn_at o (run_of x)) d
    by_op None = refl
    by_op (Some op) = op_does here i x op d

-- ---- a value that has come

-- an operation that needs a known value is finished with it
value_does : (here : Here) (i : ℕ) (op : Op) (k : KeyId) (v : Value) (x : Own) (d : Doing) → needed op ≡ Some k → known (run_of x) k ≡ Some v
    → put i (finish op v x) d ≡ done here i x (op_turn op (run_of x)) d
value_does here i (Get j) k v x d n e =
    let q : j ≡ k = cc n in
    let f : known (run_of x) j ≡ Some v = subst (λ z. known (run_of x) z ≡ Some v) (sym q) e in
    get_does here i j x d (Some v) ∙ ap (λ o. done here i x (get_turn j o (run_of x)) d) (sym f)
value_does here i (Add j m) k v x d n e =
    let q : j ≡ k = cc n in
    let f : known (run_of x) j ≡ Some v = subst (λ z. known (run_of x) z ≡ Some v) (sym q) e in
    add_does here i j m x d (Some v) ∙ ap (λ o. done here i x (add_turn j m o (run_of x)) d) (sym f)
value_does here i (Need j m) k v x d n e =
    let q : j ≡ k = cc n in
    let f : known (run_of x) j ≡ Some v = subst (λ z. known (run_of x) z ≡ Some v) (sym q) e in
    need_does here i j m x d (Some v) ∙ ap (λ o. done here i x (need_turn j m o (run_of x)) d) (sym f)
value_does here i (Put j m) k v x d n e = absurd (cc n)
value_does here i (Puts j t) k v x d n e = absurd (cc n)
value_does here i (Del j) k v x d n e = absurd (cc n)
value_does here i Abort k v x d n e = absurd (cc n)

-- a key that was not found is found at the end
found_last : (rs : List ReadDone) (k : KeyId) (v : Value) (by : Option TxId) → found_read (find (λ r. same_key r.key k) rs) ≡ None
    → found_read (find (λ r. same_key r.key k) (rs ++ record { key = k; value = v; by = by } ∷ [])) ≡ Some v
found_last [] k v by e = rw (eq-eqb k.0 k.0 refl) refl
found_last (r ∷ rs) k v by e = by_test (found_last rs k v by) (same_key r.key k) e
  where
    by_test : (found_read (find (λ r. same_key r.key k) rs) ≡ None → found_read (find (λ r. same_key r.key k) (rs ++ record { key = k; value = v; by = by } ∷ [])) ≡ Some v)
        → (b : Bool) → found_read (if b then Some r else find (λ r. same_key r.key k) rs) ≡ None
        → found_read (if b then Some r else find (λ r. same_key r.key k) (rs ++ record { key = k; value = v; by = by } ∷ [])) ≡ Some v
    by_test rec true f = absurd (cc f)
    by_test rec false f = rec f

-- a key that was unknown is known once its read is kept
pub known_given : (x : Own) (k : KeyId) (v : Value) (by : Option TxId) (snap : Snap) → known (run_of x) k ≡ None → known (run_of (noted k v by snap x)) k ≡ Some v
known_given x k v by snap e = by_write (found_write (find (λ w. same_key w.key k) x.writes)) (found_last x.reads k v by) e
  where
    by_write : (o : Option Value)
        → (found_read (find (λ r. same_key r.key k) x.reads) ≡ None → found_read (find (λ r. same_key r.key k) (x.reads ++ record { key = k; value = v; by = by } ∷ [])) ≡ Some v)
        → or_else o (found_read (find (λ r. same_key r.key k) x.reads)) ≡ None
        → or_else o (found_read (find (λ r. same_key r.key k) (x.reads ++ record { key = k; value = v; by = by } ∷ []))) ≡ Some v
    by_write None h f = h f
    by_write (Some u) h f = absurd (cc f)

-- a value has come for the key that the next operation needs: the read is kept, and the turn is done
pub value_comes : (here : Here) (i : ℕ) (op : Op) (k : KeyId) (v : Value) (by : Option TxId) (snap : Snap) (x : Own) (d : Doing)
    → own_op here x ≡ Some op → needed op ≡ Some k → known (run_of x) k ≡ None
    → with_value here i k v by snap x d ≡ done here i (noted k v by snap x) (turn_of (script_at here.scene x.place) (given k v by (run_of x))) d
value_comes here i op k v by snap x d o n e =
    ap (λ p. put i (finish_next p v (noted k v by snap x)) d) o
    ∙ (value_does here i op k v (noted k v by snap x) d n (known_given x k v by snap e)
    ∙ ap (λ p. done here i (noted k v by snap x) (turn_at p (given k v by (run_of x))) d) (sym o))
