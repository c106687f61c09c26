-- What a transaction has read gives what it has got and written: the script, on each look that agrees with its reads, comes to where it stands.
use Rattle.dependency_set.specs.Snapshots.{Snap, accept_final, holds, oldest}
use Rattle.str_model.proofs.Principle.SingleChanges.{AsksCommit, Needs, NeedsNone, Reads, asks_again, asks_new, reads_again, reads_new}
use Rattle.str_model.proofs.Changes.SnapshotsGain.{if_elim}
use Rattle.std.proofs.Common.{Bool, List, None, Option, Some, [], add-one, ap, drop, false, find, if◌then◌else◌, inl, inr, refl, slice_get, subst, suc, sym, true, zero, ℕ, ◌++◌, ◌+◌, ◌∙◌, ◌∷◌, ◌≡◌, ◌≢◌, ◌⊎◌}
use Rattle.str_base.specs.Values.{is_below, set_write}
use Rattle.str_base.specs.Versions.{same_key}
use Rattle.str_base.specs.declared.names.Cause.TheVariants.{Wish}
use Rattle.str_base.specs.declared.names.Cause.{Cause}
use Rattle.str_base.specs.declared.names.KeyId.{KeyId}
use Rattle.str_base.specs.declared.names.TxId.{TxId}
use Rattle.str_base.specs.declared.names.Value.{Value}
use Rattle.str_base.specs.declared.names.Write.{Write}
use Rattle.str_model.specs.Evaluation.{AtEnd, Evaluated, Stop, Unmet, Wished, eval, eval_from, value_at, write_or}
use Rattle.str_model.specs.Evaluation
use Rattle.str_model.specs.Scripts.{finish, finish_next, found_read, found_write, known, noted, or_else, own_op}
use Rattle.str_model.specs.Turns.{Plain, reply_turn}
use Rattle.str_model.specs.Turns
use Rattle.str_model.specs.Views.{Aborted, Active, CertWait, Closing, Committed, Global, Local, Own, Phase, ReadWait, Remote, Reply, is_decided}
use Rattle.str_model.specs.declared.names.Got.{Got}
use Rattle.str_model.specs.declared.names.ReadDone.{ReadDone}
use Rattle.str_scene.specs.Scenes.{Here, script_at}
use Rattle.str_scene.specs.declared.names.Op.TheVariants.{Abort as Give, Add, Del, Get, Need, Put, Puts}
use Rattle.str_scene.specs.declared.names.Op.{Op}
use Rattle.str_base.proofs.Members.{in_left, in_right}
use Rattle.str_base.proofs.SameNames.{same_key-is}
use Rattle.str_base.proofs.Lists.{drop_none, drop_there}
use Rattle.str_base.specs.Members.{In}

-- the look gives what was read
abbrev pub Agrees : (KeyId → Value) → List ReadDone → Type 0
Agrees look reads = (r : ReadDone) → In r reads → look r.key ≡ r.value

-- the operations that are done give its gets and its buffer
abbrev pub Gave : Here → Own → Type 0
Gave here x =
    (look : KeyId → Value) → Agrees look x.reads → eval_from look (drop x.next (script_at here.scene x.place)) x.writes x.gets ≡ eval (script_at here.scene x.place) look

-- the next operation needs the value of the key, which is not known
pub record Wants (here : Here) (x : Own) (k : KeyId) : Type 0 where
  pub op : Op
  pub is : own_op here x ≡ Some op
  pub needs : Needs op k
  pub unknown : known x k ≡ None

-- the whole script stops so, with these gets and the buffer
abbrev pub StopsBy : Here → Own → List Got → Stop → Type 0
StopsBy here x gets stop =
    (look : KeyId → Value) → Agrees look x.reads → eval (script_at here.scene x.place) look ≡ record { gets = gets; writes = x.writes; stop = stop }

-- where it has committed, its whole script is done, with these gets
abbrev pub Ends : Here → Own → List Got → Type 0
Ends here x gets = (lc fc : Option ℕ) → x.phase ≡ Committed lc fc → StopsBy here x gets AtEnd

-- a wish to abort: the script stops at a need that is not met, or its next operation is an abort
abbrev pub CauseGives : Here → Own → Cause → Type 0
CauseGives here x Wish = ((gets : List Got) × StopsBy here x gets Unmet) ⊎ (own_op here x ≡ Some Give)
CauseGives here x _ = Unit {0}

-- what the phase says of the next operation and the buffer
abbrev pub PhaseGives : Here → Own → Phase → Type 0
PhaseGives here x Active = Unit {0}
PhaseGives here x (ReadWait k) = Wants here x k
PhaseGives here x (Remote k) = Wants here x k
PhaseGives here x (Reply k v by fc) = Wants here x k
PhaseGives here x CertWait = (own_op here x ≡ None) × (x.writes ≢ [])
PhaseGives here x (Closing true) = StopsBy here x x.gets Unmet
PhaseGives here x (Closing false) = (own_op here x ≡ None) × (x.writes ≡ [])
PhaseGives here x (Local lc) = (own_op here x ≡ None) × (x.writes ≢ [])
PhaseGives here x (Global lc) = (own_op here x ≡ None) × (x.writes ≢ [])
PhaseGives here x (Committed lc None) = (own_op here x ≡ None) × (x.writes ≡ [])
PhaseGives here x (Committed lc (Some fc)) = (own_op here x ≡ None) × (x.writes ≢ [])
PhaseGives here x (Aborted lc cause) = CauseGives here x cause

-- both: the gets while it is undecided, since its answer has them afterwards
pub record Evaluates (here : Here) (x : Own) : Type 0 where
  pub gave : is_decided x.phase ≡ false → Gave here x
  pub phase : PhaseGives here x x.phase

-- ---- lists

pub find_is : {A : Type 0} (p : A → Bool) (xs : List A) (x : A) → find p xs ≡ Some x → (In x xs) × (p x ≡ true)
find_is p [] x e = absurd (cc e)
find_is p (y ∷ ys) x e = by_test (p y) refl e (find_is p ys x)
  where
    by_test : (b : Bool) → p y ≡ b → (if b then Some y else find p ys) ≡ Some x → (find p ys ≡ Some x → (In x ys) × (p x ≡ true)) → (In x (y ∷ ys)) × (p x ≡ true)
    by_test true q f rec = let s : y ≡ x = cc f in (inl s, ap p (sym s) ∙ q)
    by_test false q f rec = let r = rec f in (inr r.0, r.1)

-- ---- what is known

-- what it knows of a key is the value of the key
pub known_value : (look : KeyId → Value) (x : Own) (k : KeyId) (u : Value) → Agrees look x.reads → known x k ≡ Some u → value_at look x.writes k ≡ u
known_value look x k u agrees e = by_write (find (λ (w : Write). same_key w.key k) x.writes) e
  where
    by_read : (o : Option ReadDone) → find (λ (r : ReadDone). same_key r.key k) x.reads ≡ o → found_read o ≡ Some u → look k ≡ u
    by_read None q f = absurd (cc f)
    by_read (Some r) q f =
        let s = find_is (λ (z : ReadDone). same_key z.key k) x.reads r q in
        ap look (sym (same_key-is r.key k s.1)) ∙ (agrees r s.0 ∙ (let p : r.value ≡ u = cc f in p))

    by_write : (o : Option Write) → or_else (found_write o) (found_read (find (λ (r : ReadDone). same_key r.key k) x.reads)) ≡ Some u → write_or o (look k) ≡ u
    by_write None f = by_read (find (λ (r : ReadDone). same_key r.key k) x.reads) refl f
    by_write (Some w) f = (let p : w.value ≡ u = cc f in p)

-- where it knows nothing, the value is that of the look
unknown_value : (look : KeyId → Value) (x : Own) (k : KeyId) → known x k ≡ None → value_at look x.writes k ≡ look k
unknown_value look x k e = by_write (find (λ (w : Write). same_key w.key k) x.writes) e
  where
    by_write : (p : Option Write) → or_else (found_write p) (found_read (find (λ (r : ReadDone). same_key r.key k) x.reads)) ≡ None → write_or p (look k) ≡ look k
    by_write None f = refl
    by_write (Some w) f = absurd (cc f)

-- ---- one operation

-- the value is that of the key which the operation needs
abbrev pub IsValue : Own → Op → Value → Type 0
IsValue x op v = (look : KeyId → Value) → Agrees look x.reads → (k : KeyId) → Needs op k → value_at look x.writes k ≡ v

module _ (here : Here) where
  -- the script of the transaction
  abbrev text : Own → List Op
  text x = script_at here.scene x.place

  next_gives : (x : Own) (op : Op) (look : KeyId → Value) (ws : List Write) (gs : List Got) → own_op here x ≡ Some op
      → eval_from look (drop (suc x.next) (text x)) ws gs ≡ eval_from look (op ∷ drop (suc x.next) (text x)) x.writes x.gets
      → eval_from look (drop x.next (text x)) x.writes x.gets ≡ eval (text x) look → eval_from look (drop (x.next + 1) (text x)) ws gs ≡ eval (text x) look
  next_gives x op look ws gs e step g =
      ap (λ m. eval_from look (drop m (text x)) ws gs) (add-one x.next) ∙ (step ∙ (ap (λ os. eval_from look os x.writes x.gets) (sym (drop_there (text x) x.next op e)) ∙ g))

  pub finish-gives : (x : Own) (op : Op) (v : Value) → own_op here x ≡ Some op → ((k : KeyId) × Needs op k) ⊎ NeedsNone op → IsValue x op v → Gave here x → Evaluates here (finish op v x)
  finish-gives x (Get k) v e n val g = record {
    gave = λ d look ag. next_gives x (Get k) look x.writes (x.gets ++ record { key = k; value = v } ∷ []) e
        (ap (λ (z : Value). eval_from look (drop (suc x.next) (text x)) x.writes (x.gets ++ record { key = k; value = z } ∷ [])) (sym (val look ag k refl))) (g look ag);
    phase = tt;
  }
  finish-gives x (Put k m) v e n val g = record { gave = λ d look ag. next_gives x (Put k m) look _ x.gets e refl (g look ag); phase = tt }
  finish-gives x (Puts k t) v e n val g = record { gave = λ d look ag. next_gives x (Puts k t) look _ x.gets e refl (g look ag); phase = tt }
  finish-gives x (Add k m) v e n val g = record {
    gave = λ d look ag. next_gives x (Add k m) look _ x.gets e
        (ap (λ (z : Value). eval_from look (drop (suc x.next) (text x)) (Evaluation.with_write k (Rattle.str_base.specs.Values.sum_with z m) x.writes) x.gets) (sym (val look ag k refl))) (g look ag);
    phase = tt;
  }
  finish-gives x (Del k) v e n val g = record { gave = λ d look ag. next_gives x (Del k) look _ x.gets e refl (g look ag); phase = tt }
  finish-gives x (Need k m) v e n val g = by_test (is_below v m) refl
    where
      halts : is_below v m ≡ true → (look : KeyId → Value) → Agrees look x.reads → eval_from look (drop x.next (text x)) x.writes x.gets ≡ record { gets = x.gets; writes = x.writes; stop = Unmet }
      halts q look ag =
          let s : is_below (value_at look x.writes k) m ≡ true = ap (λ z. is_below z m) (val look ag k refl) ∙ q in
          ap (λ os. eval_from look os x.writes x.gets) (drop_there (text x) x.next (Need k m) e)
          ∙ ap (λ (b : Bool). if b then record { gets = x.gets; writes = x.writes; stop = Unmet } else eval_from look (drop (suc x.next) (text x)) x.writes x.gets) s

      passes : is_below v m ≡ false → (look : KeyId → Value) → Agrees look x.reads
          → eval_from look (drop (suc x.next) (text x)) x.writes x.gets ≡ eval_from look (Need k m ∷ drop (suc x.next) (text x)) x.writes x.gets
      passes q look ag =
          let s : is_below (value_at look x.writes k) m ≡ false = ap (λ z. is_below z m) (val look ag k refl) ∙ q in
          sym (ap (λ (b : Bool). if b then record { gets = x.gets; writes = x.writes; stop = Unmet } else eval_from look (drop (suc x.next) (text x)) x.writes x.gets) s)

      by_test : (b : Bool) → is_below v m ≡ b → Evaluates here (if b then record x { phase = Closing true } else record x { next = x.next + 1; phase = Active })
      by_test true q = record { gave = λ d. g; phase = λ look ag. sym (g look ag) ∙ halts q look ag }
      by_test false q = record { gave = λ d look ag. next_gives x (Need k m) look x.writes x.gets e (passes q look ag) (g look ag); phase = tt }
  finish-gives x Give v e (inl n) val g = absurd n.1
  finish-gives x Give v e (inr n) val g = absurd n

  -- a read that was wanted
  pub noted-gives : (x : Own) (k : KeyId) (v : Value) (by : Option TxId) (snap : Snap) (op : Op) → own_op here x ≡ Some op → Needs op k → known x k ≡ None → Gave here x
      → Evaluates here (finish_next (own_op here x) v (noted k v by snap x))
  noted-gives x k v by snap op e n u g =
      subst (λ (o : Option Op). Evaluates here (finish_next o v (noted k v by snap x))) (sym e)
      (finish-gives (noted k v by snap x) op v e (inl (k, n)) is_value (λ look ag. g look (λ r m. ag r (in_left x.reads (record { key = k; value = v; by = by } ∷ []) r m))))
    where
      one_key : (o : Op) (l : KeyId) → Needs o k → Needs o l → l ≡ k
      one_key (Get j) l p q = sym q ∙ p
      one_key (Add j m) l p q = sym q ∙ p
      one_key (Need j m) l p q = sym q ∙ p
      one_key (Put j m) l p q = absurd p
      one_key (Puts j t) l p q = absurd p
      one_key (Del j) l p q = absurd p
      one_key Give l p q = absurd p

      is_value : IsValue (noted k v by snap x) op v
      is_value look ag l q =
          ap (λ (z : KeyId). value_at look x.writes z) (one_key op l n q)
          ∙ (unknown_value look x k u ∙ ag (record { key = k; value = v; by = by }) (in_right x.reads (record { key = k; value = v; by = by } ∷ []) (record { key = k; value = v; by = by }) (inl refl)))

  -- the whole script is done
  pub ends-at : (x : Own) → own_op here x ≡ None → Gave here x → StopsBy here x x.gets AtEnd
  ends-at x e g look ag = sym (g look ag) ∙ ap (λ os. eval_from look os x.writes x.gets) (drop_none (text x) x.next e)

  -- one that has committed has done its script
  pub committed_none : (x : Own) (p : Phase) (lc fc : Option ℕ) → p ≡ Committed lc fc → PhaseGives here x p → own_op here x ≡ None
  committed_none x p lc None e h = (subst (PhaseGives here x) e h).0
  committed_none x p lc (Some f) e h = (subst (PhaseGives here x) e h).0

  -- what a read of a key wants
  pub reads-wants : (x : Own) (k : KeyId) → Reads here x k → Evaluates here x → Wants here x k
  reads-wants x k (reads_new op a e n u) h = record { op = op; is = e; needs = n; unknown = u }
  reads-wants x k (reads_again q) h = subst (PhaseGives here x) q h.phase

  pub asks-ends : (x : Own) → AsksCommit here x → Evaluates here x → (own_op here x ≡ None) × (x.writes ≢ [])
  asks-ends x (asks_new a e ne) h = (e, ne)
  asks-ends x (asks_again q) h = subst (PhaseGives here x) q h.phase

  pub reply_same : (snap : Snap) (a b : Value) (by of : Option TxId) (fc gc : ℕ) (new : Snap) → reply_turn here snap a by fc ≡ Plain b of gc new → a ≡ b
  unfolding reply_turn
  reply_same snap a b by of fc gc new e = by_gate (holds (accept_final snap fc)) e
    where
      by_gate : (t : Bool) → (if t then Plain a by fc (accept_final snap fc) else Turns.Wait (Turns.waits_for here (oldest (accept_final snap fc).deps))) ≡ Plain b of gc new → a ≡ b
      by_gate true q = cc q
      by_gate false q = absurd (cc q)

-- ---- an abort that stands in the script

-- whatever a script looks up, it stops at an abort that stands in it, or at a need before
pub abort-wishes : (look : KeyId → Value) (ops : List Op) (n : ℕ) (ws : List Write) (gs : List Got) → slice_get ops n ≡ Some Give
    → ((eval_from look ops ws gs).stop ≡ Unmet) ⊎ ((eval_from look ops ws gs).stop ≡ Wished)
abort-wishes look [] n ws gs e = absurd cc
abort-wishes look (op ∷ ops) zero ws gs e = let q : op ≡ Give = cc e in subst (λ o. ((eval_from look (o ∷ ops) ws gs).stop ≡ Unmet) ⊎ ((eval_from look (o ∷ ops) ws gs).stop ≡ Wished)) (sym q) (inr refl)
abort-wishes look (Get k ∷ ops) (suc n) ws gs e = abort-wishes look ops n ws _ e
abort-wishes look (Put k m ∷ ops) (suc n) ws gs e = abort-wishes look ops n _ gs e
abort-wishes look (Puts k t ∷ ops) (suc n) ws gs e = abort-wishes look ops n _ gs e
abort-wishes look (Add k m ∷ ops) (suc n) ws gs e = abort-wishes look ops n _ gs e
abort-wishes look (Del k ∷ ops) (suc n) ws gs e = abort-wishes look ops n _ gs e
abort-wishes look (Need k m ∷ ops) (suc n) ws gs e =
    if_elim (λ (z : Evaluated). (z.stop ≡ Unmet) ⊎ (z.stop ≡ Wished)) (is_below (Evaluation.value_at look ws k) m) (record { gets = gs; writes = ws; stop = Unmet }) (eval_from look ops ws gs)
    (λ t. inl refl) (λ t. abort-wishes look ops n ws gs e)
abort-wishes look (Give ∷ ops) (suc n) ws gs e = inr refl
