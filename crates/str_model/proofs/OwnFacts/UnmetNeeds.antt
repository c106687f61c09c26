-- A transaction that is to abort by a need stands at that need, with a value that does not meet it.
pub use Rattle.str_model.specs.NodeFacts.{AtNeed, AtNeed, AtUnmet, AtUnmet, Needy, AllNeedy, AllNeedy}
use Rattle.std.proofs.Common.{Bool, List, None, Option, Some, [], ap, eq-eqb, false, find, if◌then◌else◌, inl, inr, refl, slice_get, slice_set, subst, sym, true, ℕ, ◌++◌, ◌+◌, ◌∙◌, ◌∷◌, ◌≡◌}
use Rattle.str_base.specs.declared.names.KeyId.{KeyId}
use Rattle.str_base.specs.declared.names.TxId.{TxId}
use Rattle.str_base.specs.declared.names.Value.{Value}
use Rattle.str_base.specs.declared.names.Write.{Write}
use Rattle.str_base.specs.Values.{is_below}
use Rattle.str_base.specs.Versions.{same_key}
use Rattle.dependency_set.specs.Snapshots.{Snap}
use Rattle.str_scene.specs.declared.names.Op.{Op}
use Rattle.str_scene.specs.declared.names.Op.TheVariants.{Abort as Stop, Add, Del, Get, Need, Put, Puts}
use Rattle.str_scene.specs.Scenes.{Here}
use Rattle.str_model.specs.declared.messages.Input.{Input}
use Rattle.str_model.specs.declared.names.ReadDone.{ReadDone}
use Rattle.str_model.specs.Acts.{abort_came, aborted, accepted, acked, asked, begun, certified, closed, commit_came, committed, fresh, in_phase, marked, refused, replied, requested, taken, waits}
use Rattle.str_model.specs.Owned.{WaitsFor}
use Rattle.str_model.specs.Scripts.{finish, finish_next, found_read, found_write, known, noted, or_else, own_op}
use Rattle.str_model.specs.Views.{Active, Closing, Doing, Own, Remote}
use Rattle.str_model.proofs.Principle.SingleChanges.{Act, Change, Needs, NeedsNone, Reads, Where, act_abort, act_abort_came, act_accept, act_ack, act_ask, act_begin, act_certify, act_close, act_commit, act_commit_came, act_mark, act_put, act_refuse, act_reply, act_request, act_take, act_unwait, act_wait, ch_away, ch_blind, ch_close, ch_gate, ch_known, ch_read, ch_reply, ch_resolve, ch_take, ch_wait, reads_again, reads_new}
use Rattle.str_base.proofs.Lists.{got_push, got_set}
use Rattle.str_base.proofs.SameNames.{same_key-is}

self_key : (k : KeyId) → same_key k k ≡ true
self_key k = eq-eqb k.0 k.0 refl

find_last : (p : ReadDone → Bool) (xs : List ReadDone) (r : ReadDone) → find p xs ≡ None → p r ≡ true → find p (xs ++ r ∷ []) ≡ Some r
find_last p [] r e t = rw t refl
find_last p (x ∷ xs) r e t = by_test (p x) (find_last p xs r) e
  where
    by_test : (b : Bool) → (find p xs ≡ None → p r ≡ true → find p (xs ++ r ∷ []) ≡ Some r) → (if b then Some x else find p xs) ≡ None → (if b then Some x else find p (xs ++ r ∷ [])) ≡ Some r
    by_test true f q = absurd (cc q)
    by_test false f q = f q t

-- what has just been read is known
known_noted : (x : Own) (k : KeyId) (a : Value) (by : Option TxId) (snap : Snap) → known x k ≡ None → known (noted k a by snap x) k ≡ Some a
known_noted x k a by snap e = by_write (find (λ (w : Write). same_key w.key k) x.writes) e
  where
    r : ReadDone
    r = record { key = k; value = a; by = by }

    none : (o : Option ReadDone) → found_read o ≡ None → o ≡ None
    none None q = refl
    none (Some s) q = absurd (cc q)

    by_write : (o : Option Write) → or_else (found_write o) (found_read (find (λ (s : ReadDone). same_key s.key k) x.reads)) ≡ None
        → or_else (found_write o) (found_read (find (λ (s : ReadDone). same_key s.key k) (x.reads ++ record { key = k; value = a; by = by } ∷ []))) ≡ Some a
    by_write (Some w) q = absurd (cc q)
    by_write None q =
        ap found_read (find_last (λ (s : ReadDone). same_key s.key k) x.reads (record { key = k; value = a; by = by }) (none (find (λ (s : ReadDone). same_key s.key k) x.reads) q) (self_key k))

module _ (here : Here) where
  -- an operation that is finished with a value that is known
  finish_needy : (op : Op) (k : KeyId) (a : Value) (z : Own) → own_op here z ≡ Some op → Needs op k → known z k ≡ Some a → Needy here (finish op a z)
  finish_needy (Get l) k a z e n q = record { unmet = λ p. absurd (cc p); waits = λ j w. absurd w }
  finish_needy (Add l m) k a z e n q = record { unmet = λ p. absurd (cc p); waits = λ j w. absurd w }
  finish_needy (Need l m) k a z e n q = by_test (is_below a m) refl
    where
      by_test : (b : Bool) → is_below a m ≡ b → Needy here (if b then record z { phase = Closing true } else record z { next = z.next + 1; phase = Active })
      by_test true t = record { unmet = λ p. (k, m, a, subst (λ (j : KeyId). own_op here z ≡ Some (Need j m)) n e, q, t); waits = λ j w. absurd w }
      by_test false t = record { unmet = λ p. absurd (cc p); waits = λ j w. absurd w }
  finish_needy (Put l m) k a z e n q = absurd n
  finish_needy (Puts l m) k a z e n q = absurd n
  finish_needy (Del l) k a z e n q = absurd n
  finish_needy Stop k a z e n q = absurd n

  blind_needy : (op : Op) (a : Value) (z : Own) → NeedsNone op → Needy here (finish op a z)
  blind_needy (Put l m) a z n = record { unmet = λ p. absurd (cc p); waits = λ j w. absurd w }
  blind_needy (Puts l m) a z n = record { unmet = λ p. absurd (cc p); waits = λ j w. absurd w }
  blind_needy (Del l) a z n = record { unmet = λ p. absurd (cc p); waits = λ j w. absurd w }
  blind_needy (Get l) a z n = absurd n
  blind_needy (Add l m) a z n = absurd n
  blind_needy (Need l m) a z n = absurd n
  blind_needy Stop a z n = absurd n

  read_needy : (x : Own) (k : KeyId) (a : Value) (by : Option TxId) (snap : Snap) → AtNeed here x k → Needy here (finish_next (own_op here x) a (noted k a by snap x))
  read_needy x k a by snap n =
      subst (λ o. Needy here (finish_next o a (noted k a by snap x))) (sym n.1) (finish_needy n.0 k a (noted k a by snap x) n.1 n.2 (known_noted x k a by snap n.3))

  pub reads_need : (x : Own) (k : KeyId) → Needy here x → Reads here x k → AtNeed here x k
  reads_need x k h (reads_new op p e n q) = (op, e, n, q)
  reads_need x k h (reads_again p) = h.waits k (subst (λ f. WaitsFor f k) (sym p) refl)

  changed_needy : (input : Input) (d : Doing) (i : ℕ) (x y : Own) → Change here input d i x y → Needy here x → Needy here y
  changed_needy input d i x y (ch_resolve t e) h = record { unmet = h.unmet; waits = h.waits }
  changed_needy input d i x y (ch_known op k a p e n q) h = finish_needy op k a x e n q
  changed_needy input d i x y (ch_blind op a p e n) h = blind_needy op a x n
  changed_needy input d i x y (ch_read k a by snap r m t) h = read_needy x k a by snap (reads_need x k h r)
  changed_needy input d i x y (ch_wait k by r m e) h = record { unmet = λ p. absurd (cc p); waits = λ j w. subst (AtNeed here x) w (reads_need x k h r) }
  changed_needy input d i x y (ch_away k n r m e) h = record { unmet = λ p. absurd (cc p); waits = λ j w. subst (AtNeed here x) w (reads_need x k h r) }
  changed_needy input d i x y (ch_reply from tx l k a by fc c n p e s) h =
      record { unmet = λ q. absurd (cc q); waits = λ j w. subst (AtNeed here x) (same_key-is l k s ∙ w) (h.waits l (subst (λ f. WaitsFor f l) (sym e) refl)) }
  changed_needy input d i x y (ch_take k a b by of fc gc snap e q) h = read_needy x k b of snap (h.waits k (subst (λ f. WaitsFor f k) (sym e) refl))
  changed_needy input d i x y (ch_close p e q) h = record { unmet = λ p. absurd (cc p); waits = λ j w. absurd w }
  changed_needy input d i x y (ch_gate a) h = record { unmet = λ p. absurd (cc p); waits = λ j w. absurd w }

  set_needy : (d : Doing) (n : ℕ) (z : Own) → AllNeedy here d.view → Needy here z → (i : ℕ) (y : Own) → slice_get (slice_set d.view.own n z) i ≡ Some y → Needy here y
  set_needy d n z h q i y own = elim (got_set d.view.own n i z y own) [ inl r ↦ subst (Needy here) (sym r.1) q | inr r ↦ h i y r.1 ]

  pub needy-act : (input : Input) (w : Where) (d e : Doing) → Act here input w d e → AllNeedy here d.view → AllNeedy here e.view
  unfolding begun marked aborted committed closed certified asked acked requested accepted taken refused waits replied commit_came abort_came
  needy-act input w d e (act_begin place rs d' r g) h i y own =
      elim (got_push d'.view.own i (fresh place rs) y own) [ inl s ↦ subst (Needy here) (sym s.1) (record { unmet = λ p. absurd (cc p); waits = λ j w. absurd w }) | inr s ↦ h i y s ]
  needy-act input w d e (act_put n x z d' o g) h i y own = set_needy d' n z h (changed_needy input d' n x z g.change (h n x o.0)) i y own
  needy-act input w d e (act_request n k to x d' o g) h i y own = set_needy d' n (in_phase (Remote k) x) h (changed_needy input d' n x (in_phase (Remote k) x) g.change (h n x o.0)) i y own
  needy-act input w d e (act_certify n lc snap x d' o f l c) h i y own = set_needy d' n _ h (record { unmet = λ p. absurd (cc p); waits = λ j w. absurd w }) i y own
  needy-act input w d e (act_ask n lc p x d' o f l g) h i y own = set_needy d' n _ h (record { unmet = λ p. absurd (cc p); waits = λ j w. absurd w }) i y own
  needy-act input w d e (act_ack n lc from tx p ts parts x d' o c q g) h i y own = set_needy d' n _ h (record { unmet = (h n x o.0).unmet; waits = (h n x o.0).waits }) i y own
  needy-act input w d e (act_abort n cause x d' o f g) h i y own = set_needy d' n _ h (record { unmet = λ p. absurd (cc p); waits = λ j w. absurd w }) i y own
  needy-act input w d e (act_commit n lc fc x d' o l none le f g) h i y own = set_needy d' n _ h (record { unmet = λ p. absurd (cc p); waits = λ j w. absurd w }) i y own
  needy-act input w d e (act_close n x d' o p none) h i y own = set_needy d' n _ h (record { unmet = λ p. absurd (cc p); waits = λ j w. absurd w }) i y own
  needy-act input w d e (act_mark k t d' rd) h i y own = h i y own
  needy-act input w d e (act_accept a ts d' g m) h i y own = h i y own
  needy-act input w d e (act_refuse a u k d' g m) h i y own = h i y own
  needy-act input w d e (act_take from a d' c l) h i y own = h i y own
  needy-act input w d e (act_wait s d' g) h i y own = h i y own
  needy-act input w d e (act_unwait kept more s d' g) h i y own = h i y own
  needy-act input w d e (act_reply tx k rs v u fc d' g) h i y own = h i y own
  needy-act input w d e (act_commit_came from tx p fc ms d' c g) h i y own = h i y own
  needy-act input w d e (act_abort_came from tx p d' c g) h i y own = h i y own
