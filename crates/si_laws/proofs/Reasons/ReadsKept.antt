-- What a transaction has read it has read at each later moment too.
use Rattle.std.proofs.Common.{List, Some, [], ap, inl, inr, slice_get, slice_set, subst, sym, ℕ, ◌∙◌, ◌∷◌, ◌≡◌}
use Rattle.str_base.proofs.Lists.{get_push}
use Rattle.str_base.proofs.Members.{in_left}
use Rattle.str_base.specs.Members.{In}
use Rattle.str_scene.specs.Scenes.{Here}
use Rattle.str_model.specs.declared.messages.Input.{Input}
use Rattle.str_model.specs.declared.names.ReadDone.{ReadDone}
use Rattle.str_model.specs.Acts.{abort_came, aborted, accepted, acked, asked, begun, certified, closed, commit_came, committed, fresh, in_phase, marked, refused, replied, requested, taken, waits}
use Rattle.str_model.specs.Scripts.{noted, own_op}
use Rattle.str_model.specs.Views.{Doing, Own, Remote}
use Rattle.str_model.proofs.OwnFacts.PlacesInOrder.{get_set_cases}
use Rattle.str_model.proofs.Principle.SingleChanges.{Act, Change, Where, act_abort, act_abort_came, act_accept, act_ack, act_ask, act_begin, act_certify, act_close, act_commit, act_commit_came, act_mark, act_put, act_refuse, act_reply, act_request, act_take, act_unwait, act_wait, ch_away, ch_blind, ch_close, ch_gate, ch_known, ch_read, ch_reply, ch_resolve, ch_take, ch_wait}
use Rattle.str_model.proofs.ViewFacts.MarksRise.{finish-looks, finish_next-looks}

-- the own transaction of this place has made the read
abbrev pub ReadAt : List Own → ℕ → ReadDone → Type 0
ReadAt own i r = (y : Own) × (slice_get own i ≡ Some y) × In r y.reads

set_reads : (own : List Own) (j i : ℕ) (x z : Own) (r : ReadDone) → slice_get own j ≡ Some x → (In r x.reads → In r z.reads) → ReadAt own i r → ReadAt (slice_set own j z) i r
set_reads own j i x z r is more h = elim (get_set_cases own j i z h.0 h.1) [
  | inl c ↦ (z, c.1, more (let same : Some h.0 ≡ Some x = sym h.1 ∙ (ap (λ k. slice_get own k) c.0 ∙ is) in let at : h.0 ≡ x = cc same in subst (λ (u : Own). In r u.reads) at h.2))
  | inr c ↦ (h.0, c.1, h.2)
]

module _ (here : Here) (input : Input) (w : Where) where
  -- a change makes the reads no fewer
  change_reads : (d : Doing) (i : ℕ) (x y : Own) (r : ReadDone) → Change here input d i x y → In r x.reads → In r y.reads
  change_reads d i x y r (ch_resolve t q) h = h
  change_reads d i x y r (ch_known op k a p o n q) h = subst (In r) (sym (finish-looks op a x).reads) h
  change_reads d i x y r (ch_blind op a p o n) h = subst (In r) (sym (finish-looks op a x).reads) h
  change_reads d i x y r (ch_read k a by snap p m q) h =
      subst (In r) (sym (finish_next-looks (own_op here x) a (noted k a by snap x)).reads) (in_left x.reads (record { key = k; value = a; by = by } ∷ []) r h)
  change_reads d i x y r (ch_wait k by p m q) h = h
  change_reads d i x y r (ch_away k n p m q) h = h
  change_reads d i x y r (ch_reply from tx l k a by fc c n p q s) h = h
  change_reads d i x y r (ch_take k a b by of fc gc snap p q) h =
      subst (In r) (sym (finish_next-looks (own_op here x) b (noted k b of snap x)).reads) (in_left x.reads (record { key = k; value = b; by = of } ∷ []) r h)
  change_reads d i x y r (ch_close p o n) h = h
  change_reads d i x y r (ch_gate p) h = h

  pub reads_kept : (d e : Doing) → Act here input w d e → (i : ℕ) (r : ReadDone) → ReadAt d.view.own i r → ReadAt e.view.own i r
  unfolding begun marked aborted committed closed certified asked acked requested accepted taken refused waits replied commit_came abort_came
  reads_kept d e (act_begin place rs d' q g) i r h = (h.0, get_push d'.view.own i (fresh place rs) h.0 h.1, h.2)
  reads_kept d e (act_mark k t d' g) i r h = h
  reads_kept d e (act_put j x y d' own g) i r h = set_reads d'.view.own j i x y r own.0 (change_reads d' j x y r g.change) h
  reads_kept d e (act_request j k n x d' own g) i r h = set_reads d'.view.own j i x (in_phase (Remote k) x) r own.0 (λ m. m) h
  reads_kept d e (act_certify j lc snap x d' own f n c) i r h = set_reads d'.view.own j i x _ r own.0 (λ m. m) h
  reads_kept d e (act_ask j lc p x d' own f l g) i r h = set_reads d'.view.own j i x _ r own.0 (λ m. m) h
  reads_kept d e (act_ack j lc from tx p ts parts x d' own c q g) i r h = set_reads d'.view.own j i x _ r own.0 (λ m. m) h
  reads_kept d e (act_abort j cause x d' own f y) i r h = set_reads d'.view.own j i x _ r own.0 (λ m. m) h
  reads_kept d e (act_commit j lc fc x d' own l n le f g) i r h = set_reads d'.view.own j i x _ r own.0 (λ m. m) h
  reads_kept d e (act_close j x d' own p n) i r h = set_reads d'.view.own j i x _ r own.0 (λ m. m) h
  reads_kept d e (act_accept a ts d' g t) i r h = h
  reads_kept d e (act_refuse a u k d' g q) i r h = h
  reads_kept d e (act_take from a d' c t) i r h = h
  reads_kept d e (act_wait q d' g) i r h = h
  reads_kept d e (act_unwait kept rest q d' g) i r h = h
  reads_kept d e (act_reply tx k rs v u fc d' g) i r h = h
  reads_kept d e (act_commit_came from tx p fc ms d' c g) i r h = h
  reads_kept d e (act_abort_came from tx p d' c g) i r h = h
