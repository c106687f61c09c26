-- Two moments of a step that follow one another, and what was done between them.
use Rattle.std.proofs.Common.{Bool, List, None, Option, Some, [], ap, false, if◌then◌else◌, length, refl, slice_get, subst, suc, sym, true, zero, ℕ, ◌++◌, ◌∙◌, ◌∷◌, ◌≡◌}
use Rattle.str_base.specs.declared.names.NodeId.{NodeId}
use Rattle.str_model.specs.declared.messages.Arrived.{Arrived}
use Rattle.str_model.specs.declared.messages.Body.{Body}
use Rattle.str_model.specs.declared.messages.Body.TheVariants.{Abort, Ack, Commit, Prepare, ReadReply, ReadReq, Refuse as Refusal, Replicate}
use Rattle.str_model.specs.declared.messages.Input.{Input}
use Rattle.str_model.specs.declared.messages.Input.TheVariants.{Client, Deliver}
use Rattle.str_model.specs.declared.messages.Message.{Message}
use Rattle.str_model.specs.declared.messages.Waiter.{Waiter}
use Rattle.str_model.specs.Arrivals.{evict}
use Rattle.str_model.specs.Moments.{after_moments, evict_moments, from_rule, input_moments, moments_of, pass_moments, turn_moments, wait_moments}
use Rattle.str_model.specs.Moments
use Rattle.str_model.specs.Pass.{half_turn, pass_to, turn}
use Rattle.str_model.specs.Steps
use Rattle.str_model.specs.Steps.{rule}
use Rattle.str_model.specs.Strange.{is_valid}
use Rattle.str_model.specs.Views.{Doing, View, starts}
use Rattle.str_model.specs.Waiters.{waiter_turn}
use Rattle.str_scene.specs.Scenes.{Here}
use Rattle.str_model.proofs.Principle.SingleChanges.{Comes, InWait}
use Rattle.str_model.proofs.Principle.StepPaths.{waiter_turn-waited}

-- the last one of a list that follows d
abbrev pub last_of : Doing → List Doing → Doing
last_of d [] = d
last_of d (e ∷ ms) = last_of e ms

last_append : (d e : Doing) (xs ys : List Doing) → last_of d (xs ++ e ∷ ys) ≡ last_of e ys
last_append d e [] ys = refl
last_append d e (x ∷ xs) ys = last_append x e xs ys

-- what is done between two moments that follow one another
pub data Link (here : Here) (input : Input) (start : Doing) : Doing → Doing → Type 0 where
  l_evict : (from : NodeId) (a : Arrived) (i : ℕ) → Comes here input from (Replicate a.tx a.part a.rs a.lc a.writes) → Link here input start (evict here a i start) (evict here a (suc i) start)
  l_rule : (r : Doing) → rule here input start ≡ Some r → Link here input start (last_of start (input_moments here input start)) r
  l_half : (i : ℕ) (r : Doing) → Link here input start (pass_to here i r) (half_turn here i (pass_to here i r))
  l_close : (i : ℕ) (r : Doing) → Link here input start (half_turn here i (pass_to here i r)) (turn here i (pass_to here i r))
  l_wait : (kept rest : List Waiter) (w : Waiter) (d : Doing) → d.view.waiters ≡ kept ++ w ∷ rest → Link here input start d (waiter_turn here kept rest w d).1

module _ (here : Here) (input : Input) (start : Doing) where
  -- each of the list follows the one before
  Linked : Doing → List Doing → Type 0
  Linked d [] = Unit {0}
  Linked d (e ∷ ms) = Link here input start d e × Linked e ms

  linked_append : (d : Doing) (xs ys : List Doing) → Linked d xs → Linked (last_of d xs) ys → Linked d (xs ++ ys)
  unfolding Linked
  linked_append d [] ys a b = b
  linked_append d (x ∷ xs) ys a b = (a.0, linked_append x xs ys a.1 b)

  evict_linked : (from : NodeId) (a : Arrived) → Comes here input from (Replicate a.tx a.part a.rs a.lc a.writes) → (n : ℕ)
      → Linked start (evict_moments here a n start) × (last_of start (evict_moments here a n start) ≡ evict here a n start)
  unfolding Linked
  evict_linked from a c zero = (tt, refl)
  evict_linked from a c (suc i) =
      let r = evict_linked from a c i in (
        linked_append start (evict_moments here a i start) (evict here a (suc i) start ∷ []) r.0 (subst (λ e. Link here input start e (evict here a (suc i) start)) (sym r.1) (l_evict from a i c), tt),
        last_append start (evict here a (suc i) start) (evict_moments here a i start) [],
      )

  pass_linked : (n : ℕ) (r : Doing) → Linked r (pass_moments here n r) × (last_of r (pass_moments here n r) ≡ pass_to here n r)
  unfolding Linked
  pass_linked zero r = (tt, refl)
  pass_linked (suc i) r =
      let k = pass_linked i r in
      let e : Doing = pass_to here i r in (
        linked_append r (pass_moments here i r) (turn_moments here i e) k.0 (subst (λ z. Link here input start z (half_turn here i e)) (sym k.1) (l_half i r), (l_close i r, tt)),
        last_append r (half_turn here i e) (pass_moments here i r) (turn here i e ∷ []),
      )

  wait_linked : (kept ws : List Waiter) (d : Doing) → d.view.waiters ≡ kept ++ ws → Linked d (wait_moments here kept ws d)
  unfolding Linked
  wait_linked kept [] d q = tt
  wait_linked kept (w ∷ rest) d q =
      let r = waiter_turn here kept rest w d in
      (l_wait kept rest w d q, wait_linked r.0 rest r.1 (waiter_turn-waited here input InWait kept rest w d q).same)

  after_linked : (r : Doing) → Linked r (pass_moments here (length r.view.own) r ++ wait_moments here [] (pass_to here (length r.view.own) r).view.waiters (pass_to here (length r.view.own) r))
  after_linked r =
      let n = length r.view.own in
      let e : Doing = pass_to here n r in
      let k = pass_linked n r in
      linked_append r (pass_moments here n r) (wait_moments here [] e.view.waiters e) k.0 (subst (λ z. Linked z (wait_moments here [] e.view.waiters e)) (sym k.1) (wait_linked [] e.view.waiters e refl))

  from_linked : (o : Option Doing) → rule here input start ≡ o → Linked start (input_moments here input start) → (ms : List Doing) → from_rule here input start o ≡ start ∷ ms → Linked start ms
  unfolding Linked
  from_linked None q i ms e = let same : [] ≡ ms = cc e in subst (Linked start) same tt
  from_linked (Some r) q i ms e =
      let same : input_moments here input start ++ after_moments here r ≡ ms = cc e in
      subst (Linked start) same (linked_append start (input_moments here input start) (after_moments here r) i (l_rule r q, after_linked r))

  at_linked : (d : Doing) (ms : List Doing) (m : ℕ) (a b : Doing) → Linked d ms → slice_get (d ∷ ms) m ≡ Some a → slice_get (d ∷ ms) (suc m) ≡ Some b → Link here input start a b
  unfolding Linked
  at_linked d [] m a b l p q = absurd (cc q)
  at_linked d (e ∷ ms) zero a b l p q = let x : d ≡ a = cc p in let y : e ≡ b = cc q in subst (λ z. Link here input start z b) x (subst (λ z. Link here input start d z) y l.0)
  at_linked d (e ∷ ms) (suc m) a b l p q = at_linked e ms m a b l.1 p q

-- what makes a rule's input
pub valid : (here : Here) (input : Input) (d : Doing) (r : Doing) → Steps.rule here input d ≡ Some r → (m : Message) → input ≡ Deliver m → is_valid here m ≡ true
unfolding Steps.rule
valid here (Client s t) d r q m e = absurd (cc e)
valid here (Deliver k) d r q m e = let same : k ≡ m = cc e in ap (is_valid here) (sym same) ∙ by_test (is_valid here k) q
  where
    by_test : (b : Bool) → (if b then Steps.body_rule here k.sender k.body d else None) ≡ Some r → b ≡ true
    by_test true q = refl
    by_test false q = absurd (cc q)

pub evict_linked_to : (here : Here) (input : Input) (start : Doing) (from : NodeId) (a : Arrived) → Comes here input from (Replicate a.tx a.part a.rs a.lc a.writes) → (n : ℕ)
    → last_of start (evict_moments here a n start) ≡ evict here a n start
evict_linked_to here input start from a c n = (evict_linked here input start from a c n).1

input_linked : (here : Here) (input : Input) (start : Doing) (i : Input) → input ≡ i → ((m : Message) → i ≡ Deliver m → is_valid here m ≡ true) → Linked here input start start (input_moments here i start)
unfolding Linked
input_linked here input start (Client s t) e v = tt
input_linked here input start (Deliver m) e v = by_body m.body refl
  where
    by_body : (b : Body) → m.body ≡ b → Linked here input start start (Moments.body_moments here b start)
    by_body (Replicate tx p rs lc ws) q =
        (evict_linked here input start m.sender (record { tx = tx; part = p; rs = rs; lc = lc; writes = ws }) (m, e, refl, q, v m refl) (length start.view.own)).0
    by_body (ReadReq tx k rs) q = tt
    by_body (ReadReply tx k a by fc) q = tt
    by_body (Prepare tx p rs lc ws) q = tt
    by_body (Refusal tx p u k) q = tt
    by_body (Ack tx p ts) q = tt
    by_body (Commit tx p fc ms) q = tt
    by_body (Abort tx p) q = tt

-- two moments that follow one another are linked
pub linked : (here : Here) (input : Input) (v : View) (m : ℕ) (a b : Doing) → slice_get (moments_of here input v) m ≡ Some a → slice_get (moments_of here input v) (suc m) ≡ Some b
    → Link here input (starts v) a b
unfolding moments_of Linked
linked here input v m a b p q = by_rule (rule here input d) refl p q
  where
    d : Doing
    d = starts v

    by_rule : (o : Option Doing) → rule here input (starts v) ≡ o → slice_get (from_rule here input (starts v) o) m ≡ Some a → slice_get (from_rule here input (starts v) o) (suc m) ≡ Some b
        → Link here input (starts v) a b
    by_rule None e p q = absurd (cc q)
    by_rule (Some r) e p q =
        let i : Linked here input (starts v) (starts v) (input_moments here input (starts v)) = input_linked here input (starts v) input refl (valid here input (starts v) r e) in
        let l = from_linked here input (starts v) (Some r) e i (input_moments here input (starts v) ++ after_moments here r) refl in
        at_linked here input (starts v) (starts v) (input_moments here input (starts v) ++ after_moments here r) m a b l p q
