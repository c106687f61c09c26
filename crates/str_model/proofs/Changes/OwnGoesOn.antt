-- What an own transaction that goes on keeps: its participants, and once it is certified its writes and its phase too.
use Rattle.std.proofs.Common.{None, Option, Some, ap, refl, ℕ, ◌≡◌}
use Rattle.str_base.specs.Values.{is_below}
use Rattle.str_base.specs.declared.names.KeyId.{KeyId}
use Rattle.str_base.specs.declared.names.Value.{Value}
use Rattle.str_model.proofs.Principle.SingleChanges.{AsksCommit, Change, Goes, GoesOn, Reads, asks_again, asks_new, ch_away, ch_blind, ch_close, ch_gate, ch_known, ch_read, ch_reply, ch_resolve, ch_take, ch_wait, reads_again, reads_new}
use Rattle.str_model.proofs.Changes.SnapshotsGain.{if_elim}
use Rattle.str_model.specs.Scripts.{finish, finish_next, noted, own_op}
use Rattle.str_model.specs.Views.{Doing, Own, View, lc_of}
use Rattle.str_model.specs.declared.messages.Input.{Input}
use Rattle.str_scene.specs.Scenes.{Here}
use Rattle.str_scene.specs.declared.names.Op.TheVariants.{Abort as Stop, Add, Del, Get, Need, Put, Puts}
use Rattle.str_scene.specs.declared.names.Op.{Op}

-- its participants stay, and once it is certified its writes and its phase too
pub record PutsOn (v : View) (x y : Own) : Type 0 where
  pub goes : GoesOn v x y
  pub same_parts : y.parts ≡ x.parts
  pub kept : (lc : ℕ) → lc_of x.phase ≡ Some lc → (y.writes ≡ x.writes) × (y.phase ≡ x.phase)

finish-parts : (op : Op) (v : Value) (x : Own) → (finish op v x).parts ≡ x.parts
finish-parts (Get k) v x = refl
finish-parts (Put k n) v x = refl
finish-parts (Puts k t) v x = refl
finish-parts (Add k n) v x = refl
finish-parts (Del k) v x = refl
finish-parts (Need k n) v x = if_elim (λ (y : Own). y.parts ≡ x.parts) (is_below v n) _ _ (λ e. refl) (λ e. refl)
finish-parts Stop v x = refl

finish_next-parts : (o : Option Op) (v : Value) (x : Own) → (finish_next o v x).parts ≡ x.parts
finish_next-parts None v x = refl
finish_next-parts (Some op) v x = finish-parts op v x

-- one that reads or asks to commit is not certified
module _ (here : Here) (x : Own) where
  pub reads-phase : (k : KeyId) → Reads here x k → lc_of x.phase ≡ None
  reads-phase k (reads_new op a e n q) = ap lc_of a
  reads-phase k (reads_again e) = ap lc_of e

  pub asks-phase : AsksCommit here x → lc_of x.phase ≡ None
  asks-phase (asks_new a e ne) = ap lc_of a
  asks-phase (asks_again e) = ap lc_of e

module _ (here : Here) (input : Input) (d : Doing) (i : ℕ) (x : Own) where
  never : lc_of x.phase ≡ None → (lc : ℕ) → lc_of x.phase ≡ Some lc → ⊥
  never n lc l = cc (n, l)

  by_change : (y : Own) → GoesOn d.view x y → Change here input d i x y → PutsOn d.view x y
  by_change y g (ch_resolve t e) = record { goes = g; same_parts = refl; kept = λ lc l. (refl, refl) }
  by_change y g (ch_known op k a e o n q) = record { goes = g; same_parts = finish-parts op a x; kept = λ lc l. absurd (never (ap lc_of e) lc l) }
  by_change y g (ch_blind op a e o n) = record { goes = g; same_parts = finish-parts op a x; kept = λ lc l. absurd (never (ap lc_of e) lc l) }
  by_change y g (ch_read k a by snap r m t) =
      record { goes = g; same_parts = finish_next-parts (own_op here x) a (noted k a by snap x); kept = λ lc l. absurd (never (reads-phase here x k r) lc l) }
  by_change y g (ch_wait k by r m t) = record { goes = g; same_parts = refl; kept = λ lc l. absurd (never (reads-phase here x k r) lc l) }
  by_change y g (ch_away k n r m t) = record { goes = g; same_parts = refl; kept = λ lc l. absurd (never (reads-phase here x k r) lc l) }
  by_change y g (ch_reply from tx l k a by fc c n q e s) = record { goes = g; same_parts = refl; kept = λ lc l. absurd (never (ap lc_of e) lc l) }
  by_change y g (ch_take k a b by of fc gc snap e q) =
      record { goes = g; same_parts = finish_next-parts (own_op here x) b (noted k b of snap x); kept = λ lc l. absurd (never (ap lc_of e) lc l) }
  by_change y g (ch_close a o e) = record { goes = g; same_parts = refl; kept = λ lc l. absurd (never (ap lc_of a) lc l) }
  by_change y g (ch_gate a) = record { goes = g; same_parts = refl; kept = λ lc l. absurd (never (asks-phase here x a) lc l) }

  pub puts_on : (y : Own) → Goes here input d i x y → PutsOn d.view x y
  puts_on y g = by_change y g.goes g.change
