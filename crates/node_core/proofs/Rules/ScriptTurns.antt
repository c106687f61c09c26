-- What the turn of a script tells of an own transaction, and a read that is kept and finished at once.
use Rattle.std.proofs.Common.{Bool, List, None, Option, Some, [], ap, arith, false, if◌then◌else◌, length, refl, slice_get, slice_set, subst, suc, sym, true, zero, ℕ, ℤ, ◌+◌, ◌∙◌, ◌∷◌, ◌≡◌, ◌<◌, ◌≤◌, ◌⊎◌, inl, inr}
use Rattle.std.proofs.lemmas.Option.{slice_get_within}
use Rattle.node_parts.specs.Owning.{HasPlace, IsFree, turned}
use Rattle.node_core.specs.Reading.{CanTurn}
use Rattle.str_base.specs.declared.names.KeyId.{KeyId}
use Rattle.str_base.specs.declared.names.TxId.{TxId}
use Rattle.str_base.specs.declared.names.Value.{Value}
use Rattle.str_base.specs.Values.{is_below}
use Rattle.dependency_set.specs.Snapshots.{Snap}
use Rattle.str_model.specs.NodeFacts.{AtNeed, MomentFacts, Needs, is_stopped}
use Rattle.str_model.specs.Owned.{Owns, WaitsFor}
use Rattle.str_model.specs.Scripts.{finish, finish_next, known, noted, own_op, with_value}
use Rattle.str_model.specs.Strange.{has_key}
use Rattle.str_model.specs.Views.{Aborted, Active, CertWait, Closing, Committed, Doing, Global, Local, Own, Phase, ReadWait, Remote, Reply, View, is_decided, lc_of, put}
use Rattle.str_model.proofs.Room.SmallNumbers.{script_few}
use Rattle.str_model.proofs.ViewFacts.MarksRise.{need_within}
use Rattle.str_scene.specs.declared.names.Op.{Op}
use Rattle.str_scene.specs.declared.names.Op.TheVariants.{Abort, Add, Del, Get, Need, Put, Puts}
use Rattle.str_scene.specs.SceneLimits.{IsScene}
use Rattle.str_scene.specs.Scenes.{Here, script_at}
use Rattle.tx_script.proofs.OfNode.{known_given}
use Rattle.tx_script.specs.Doing.{run_of}
use Rattle.tx_script.specs.declared.turns.Turn.TheVariants.{Ask, End, Got, Moved, Unmet}
use Rattle.tx_script.specs.Turns.{ScriptRun, add_turn, get_turn, need_turn, op_turn, stays, turn_at, turn_of}
use Rattle.tx_script.specs.Turns

-- ---- a transaction that waits for a key, or is Active

pub waits_free : (p : Phase) (k : KeyId) → (p ≡ Active) ⊎ WaitsFor p k → (is_decided p ≡ false) × (lc_of p ≡ None) × (is_stopped p ≡ false)
waits_free p k (inl e) = (ap is_decided e, ap lc_of e, ap is_stopped e)
waits_free (ReadWait l) k (inr e) = (refl, refl, refl)
waits_free (Remote l) k (inr e) = (refl, refl, refl)
waits_free (Reply l v by fc) k (inr e) = (refl, refl, refl)
waits_free Active k (inr e) = absurd e
waits_free CertWait k (inr e) = absurd e
waits_free (Closing w) k (inr e) = absurd e
waits_free (Local lc) k (inr e) = absurd e
waits_free (Global lc) k (inr e) = absurd e
waits_free (Committed m fc) k (inr e) = absurd e
waits_free (Aborted m c) k (inr e) = absurd e

-- the key that it needs exists
pub need_there : (here : Here) → IsScene here.scene → (x : Own) (k : KeyId) → AtNeed here x k → has_key here k ≡ true
need_there here ok x k n = lt_true (need_within here.scene ok x.place x.next n.0 k n.1 n.2)
  where
    lt_true : k.0 < length here.scene.keys.names → has_key here k ≡ true
    lt_true l = grind arith

-- ---- turns

-- a turn that asks for a key is one at a need of it
pub ask_needs : (here : Here) (x : Own) (k : KeyId) → (turn_of (script_at here.scene x.place) (run_of x)).turn ≡ Ask k → AtNeed here x k
ask_needs here x k e = by_op (own_op here x) refl e
  where
    need_test : (b : Bool) (l : KeyId) → (if b then stays Unmet (run_of x) else record { turn = Moved; run = Turns.moved (run_of x) }).turn ≡ Ask l → ⊥
    need_test true l t = cc t
    need_test false l t = cc t

    gets : (l : KeyId) (o : Option Value) → (get_turn l o (run_of x)).turn ≡ Ask k → (o ≡ None) × (l ≡ k)
    gets l None t = (refl, cc t)
    gets l (Some v) t = absurd (cc t)

    adds : (l : KeyId) (m : ℤ) (o : Option Value) → (add_turn l m o (run_of x)).turn ≡ Ask k → (o ≡ None) × (l ≡ k)
    adds l m None t = (refl, cc t)
    adds l m (Some v) t = absurd (cc t)

    needs : (l : KeyId) (m : ℤ) (o : Option Value) → (need_turn l m o (run_of x)).turn ≡ Ask k → (o ≡ None) × (l ≡ k)
    needs l m None t = (refl, cc t)
    needs l m (Some v) t = absurd (need_test (is_below v m) k t)

    at : (op : Op) (l : KeyId) → own_op here x ≡ Some op → Needs op l → (known x l ≡ None) × (l ≡ k) → AtNeed here x k
    at op l q n r = (op, q, subst (Needs op) r.1 n, subst (λ z. known x z ≡ None) r.1 r.0)

    by_op : (o : Option Op) → own_op here x ≡ o → (turn_at o (run_of x)).turn ≡ Ask k → AtNeed here x k
    by_op None q t = absurd (cc t)
    by_op (Some (Get l)) q t = at (Get l) l q refl (gets l (known x l) t)
    by_op (Some (Add l m)) q t = at (Add l m) l q refl (adds l m (known x l) t)
    by_op (Some (Need l m)) q t = at (Need l m) l q refl (needs l m (known x l) t)
    by_op (Some (Put l m)) q t = absurd (cc t)
    by_op (Some (Puts l m)) q t = absurd (cc t)
    by_op (Some (Del l)) q t = absurd (cc t)
    by_op (Some Abort) q t = absurd (cc t)

-- a turn at the end of the script is one past its last operation
pub end_op : (here : Here) (x : Own) → (turn_of (script_at here.scene x.place) (run_of x)).turn ≡ End → own_op here x ≡ None
end_op here x e = by_op (own_op here x) refl e
  where
    gets : (l : KeyId) (o : Option Value) → (get_turn l o (run_of x)).turn ≡ End → ⊥
    gets l None t = cc t
    gets l (Some v) t = cc t

    adds : (l : KeyId) (m : ℤ) (o : Option Value) → (add_turn l m o (run_of x)).turn ≡ End → ⊥
    adds l m None t = cc t
    adds l m (Some v) t = cc t

    need_end : (b : Bool) → (if b then stays Unmet (run_of x) else record { turn = Moved; run = Turns.moved (run_of x) }).turn ≡ End → ⊥
    need_end true t = cc t
    need_end false t = cc t

    needs : (l : KeyId) (m : ℤ) (o : Option Value) → (need_turn l m o (run_of x)).turn ≡ End → ⊥
    needs l m None t = cc t
    needs l m (Some v) t = need_end (is_below v m) t

    by_op : (o : Option Op) → own_op here x ≡ o → (turn_at o (run_of x)).turn ≡ End → own_op here x ≡ None
    by_op None q t = q
    by_op (Some (Get l)) q t = absurd (gets l (known x l) t)
    by_op (Some (Add l m)) q t = absurd (adds l m (known x l) t)
    by_op (Some (Need l m)) q t = absurd (needs l m (known x l) t)
    by_op (Some (Put l m)) q t = absurd (cc t)
    by_op (Some (Puts l m)) q t = absurd (cc t)
    by_op (Some (Del l)) q t = absurd (cc t)
    by_op (Some Abort) q t = absurd (cc t)

-- where a script has no operation left, a turn gives no get
pub got_op : (ops : List Op) (run : ScriptRun) (k : KeyId) (v : Value) → (turn_of ops run).turn ≡ Got k v → run.next < length ops
got_op ops run k v e = by_op (slice_get ops run.next) refl e
  where
    by_op : (o : Option Op) → slice_get ops run.next ≡ o → (turn_at o run).turn ≡ Got k v → run.next < length ops
    by_op None q t = absurd (cc t)
    by_op (Some op) q t = slice_get_within ops run.next op q

-- there is room for a get where there are no more gets than operations
pub has_place : (here : Here) → IsScene here.scene → (x : Own) → length x.gets ≤ x.next → HasPlace (script_at here.scene x.place) x
has_place here ok x le k v e =
    let n = got_op (script_at here.scene x.place) (run_of x) k v e in
    let f = script_few here.scene ok x.place in
    omega (arith, n, f, le)

-- the script of an own transaction that is not certified may go on
pub can_turn : (here : Here) → IsScene here.scene → (v : View) → MomentFacts here v → (i : ℕ) (x : Own) → Owns v i x → IsFree x → CanTurn here x
can_turn here ok v h i x own f = record { free = f; placed = h.order.placed i x own; place = has_place here ok x (h.lengths i x own).gets }

-- ---- a value that has come

-- an operation that needs a known value is finished as its turn says
finish_turned : (op : Op) (k : KeyId) (v : Value) (y : Own) → Needs op k → known y k ≡ Some v → finish op v y ≡ turned (op_turn op (run_of y)) y
finish_turned (Get j) k v y n e = by_value (known y j) (subst (λ z. known y z ≡ Some v) (sym n) e)
  where
    by_value : (o : Option Value) → o ≡ Some v → finish (Get j) v y ≡ turned (get_turn j o (run_of y)) y
    by_value None q = absurd (cc q)
    by_value (Some u) q = let is : u ≡ v = cc q in ap (λ w. finish (Get j) w y) (sym is)
finish_turned (Add j m) k v y n e = by_value (known y j) (subst (λ z. known y z ≡ Some v) (sym n) e)
  where
    by_value : (o : Option Value) → o ≡ Some v → finish (Add j m) v y ≡ turned (add_turn j m o (run_of y)) y
    by_value None q = absurd (cc q)
    by_value (Some u) q = let is : u ≡ v = cc q in ap (λ w. finish (Add j m) w y) (sym is)
finish_turned (Need j m) k v y n e = by_value (known y j) (subst (λ z. known y z ≡ Some v) (sym n) e)
  where
    by_test : (b : Bool) → (if b then record y { phase = Closing true } else record y { next = y.next + 1; phase = Active })
        ≡ turned (if b then stays Unmet (run_of y) else record { turn = Moved; run = Turns.moved (run_of y) }) y
    by_test true = refl
    by_test false = refl

    by_value : (o : Option Value) → o ≡ Some v → finish (Need j m) v y ≡ turned (need_turn j m o (run_of y)) y
    by_value None q = absurd (cc q)
    by_value (Some u) q = let is : u ≡ v = cc q in ap (λ w. finish (Need j m) w y) (sym is) ∙ by_test (is_below u m)
finish_turned (Put j m) k v y n e = absurd n
finish_turned (Puts j t) k v y n e = absurd n
finish_turned (Del j) k v y n e = absurd n
finish_turned Abort k v y n e = absurd n

set_again : {A : Type 0} (xs : List A) (i : ℕ) (a b : A) → slice_set (slice_set xs i a) i b ≡ slice_set xs i b
set_again [] i a b = refl
set_again (x ∷ xs) zero a b = refl
set_again (x ∷ xs) (suc i) a b = ap (λ ys. x ∷ ys) (set_again xs i a b)

-- what is put at a place is put over what was put there
pub put_again : (i : ℕ) (a b : Own) (d : Doing) → put i b (put i a d) ≡ put i b d
put_again i a b d = ap (λ xs. let v : View = record (d.view) { own = xs } in let e : Doing = record d { view = v } in e) (set_again d.view.own i a b)

-- a value has come for the key that the next operation needs: the read is kept, and the turn is done
pub value_turns : (here : Here) (i : ℕ) (k : KeyId) (v : Value) (by : Option TxId) (snap : Snap) (x : Own) (d : Doing) → AtNeed here x k
    → with_value here i k v by snap x d
    ≡ put i (turned (turn_of (script_at here.scene x.place) (run_of (noted k v by snap x))) (noted k v by snap x)) (put i (noted k v by snap x) d)
value_turns here i k v by snap x d n =
    let y : Own = noted k v by snap x in
    let same : turned (op_turn n.0 (run_of y)) y ≡ turned (turn_of (script_at here.scene x.place) (run_of y)) y = ap (λ o. turned (turn_at o (run_of y)) y) (sym n.1) in
    ap (λ o. put i (finish_next o v y) d) n.1
    ∙ (ap (λ z. put i z d) (finish_turned n.0 k v y n.2 (known_given x k v by snap n.3) ∙ same)
    ∙ sym (put_again i y (turned (turn_of (script_at here.scene x.place) (run_of y)) y) d))
