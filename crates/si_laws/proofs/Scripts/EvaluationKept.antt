-- What a transaction has read gives what it has got and written: each change keeps it, and the answer of a commit has what was got.
use Rattle.si_laws.proofs.Scripts.ReadsEvaluate.{CauseGives, Ends, Evaluates, PhaseGives, Wants, asks-ends, committed_none, ends-at, finish-gives, known_value, noted-gives, reads-wants}
use Rattle.str_model.proofs.Principle.SingleChanges.{Act, Change, Needs, NeedsNone, Where, Why, act_abort, act_abort_came, act_accept, act_ack, act_ask, act_begin, act_certify, act_close, act_commit, act_commit_came, act_mark, act_put, act_refuse, act_reply, act_request, act_take, act_unwait, act_wait, at_abort, at_need, by_certification, by_eviction, by_late, by_lost, by_refusal, by_script, ch_away, ch_blind, ch_close, ch_gate, ch_known, ch_read, ch_reply, ch_resolve, ch_take, ch_wait}
use Rattle.std.proofs.Common.{List, None, Option, Some, [], ap, false, inl, inr, refl, slice_get, slice_set, subst, sym, true, ℕ, ◌∙◌, ◌≡◌, ◌≢◌}
use Rattle.str_base.specs.declared.names.Cause.TheVariants.{Conflict, Late, Lost, Wish}
use Rattle.str_base.specs.declared.names.Cause.{Cause}
use Rattle.str_base.specs.declared.names.KeyId.{KeyId}
use Rattle.str_model.specs.Acts.{abort_came, aborted, accepted, acked, asked, begun, certified, closed, commit_came, committed, decided_as, fresh, in_phase, marked, refused, replied, requested, taken, waits, with_asked}
use Rattle.str_model.specs.Evaluation.{value_at}
use Rattle.str_model.specs.Owned.{Owns}
use Rattle.str_model.specs.Scripts.{own_op}
use Rattle.str_model.specs.Turns.{left_by}
use Rattle.str_model.specs.Views.{Aborted, Active, CertWait, Closing, Committed, Doing, Global, Local, Own, Phase, ReadWait, Remote, Reply, View, is_decided, lc_of}
use Rattle.str_model.specs.declared.messages.Input.{Input}
use Rattle.str_scene.specs.Scenes.{Here, participants}
use Rattle.str_scene.specs.declared.names.Op.TheVariants.{Abort as Give, Add, Del, Get, Need, Put, Puts}
use Rattle.str_scene.specs.declared.names.Op.{Op}
use Rattle.str_scene.specs.declared.names.TxPlace.{TxPlace}
use Rattle.str_base.proofs.Lists.{got_push, got_set}
use Rattle.str_base.proofs.SameNames.{same_key-is}

module _ (here : Here) where
  -- ---- each change

  pub change-gives : (input : Input) (d : Doing) (i : ℕ) (x y : Own) → is_decided x.phase ≡ false → Change here input d i x y → Evaluates here x → Evaluates here y
  change-gives input d i x y f (ch_resolve t e) h = record { gave = h.gave; phase = same_phase x.phase h.phase }
    where
      same_phase : (p : Phase) → PhaseGives here x p → PhaseGives here (record x { snap = left_by t x.snap }) p
      same_phase Active q = tt
      same_phase (ReadWait k) q = record { op = q.op; is = q.is; needs = q.needs; unknown = q.unknown }
      same_phase (Remote k) q = record { op = q.op; is = q.is; needs = q.needs; unknown = q.unknown }
      same_phase (Reply k v by fc) q = record { op = q.op; is = q.is; needs = q.needs; unknown = q.unknown }
      same_phase CertWait q = q
      same_phase (Closing true) q = q
      same_phase (Closing false) q = q
      same_phase (Local lc) q = q
      same_phase (Global lc) q = q
      same_phase (Committed lc None) q = q
      same_phase (Committed lc (Some fc)) q = q
      same_phase (Aborted lc Wish) q = q
      same_phase (Aborted lc (Conflict u k n)) q = tt
      same_phase (Aborted lc (Lost u)) q = tt
      same_phase (Aborted lc (Late u t)) q = tt
  change-gives input d i x y f (ch_known op k a p e n q) h =
      finish-gives here x op a e (inl (k, n)) (λ look ag l m. ap (λ (z : KeyId). value_at look x.writes z) (one_key op l n m) ∙ known_value look x k a ag q) (h.gave f)
    where
      one_key : (o : Op) (l : KeyId) → Needs o k → Needs o l → l ≡ k
      one_key (Get j) l p q = sym q ∙ p
      one_key (Add j m) l p q = sym q ∙ p
      one_key (Need j m) l p q = sym q ∙ p
      one_key (Put j m) l p q = absurd p
      one_key (Puts j t) l p q = absurd p
      one_key (Del j) l p q = absurd p
      one_key Give l p q = absurd p
  change-gives input d i x y f (ch_blind op a p e n) h = finish-gives here x op a e (inr n) (λ look ag l m. absurd (no_key op l n m)) (h.gave f)
    where
      no_key : (o : Op) (l : KeyId) → NeedsNone o → Needs o l → ⊥
      no_key (Get j) l p q = p
      no_key (Add j m) l p q = p
      no_key (Need j m) l p q = p
      no_key (Put j m) l p q = q
      no_key (Puts j t) l p q = q
      no_key (Del j) l p q = q
      no_key Give l p q = q
  change-gives input d i x y f (ch_read k a by snap r m t) h = let w = reads-wants here x k r h in noted-gives here x k a by snap w.op w.is w.needs w.unknown (h.gave f)
  change-gives input d i x y f (ch_wait k by r m t) h =
      let w = reads-wants here x k r h in record { gave = λ o. h.gave f; phase = record { op = w.op; is = w.is; needs = w.needs; unknown = w.unknown } }
  change-gives input d i x y f (ch_away k n r m t) h =
      let w = reads-wants here x k r h in record { gave = λ o. h.gave f; phase = record { op = w.op; is = w.is; needs = w.needs; unknown = w.unknown } }
  change-gives input d i x y f (ch_reply from tx l k a by fc c n q e s) h =
      let w : Wants here x k = subst (Wants here x) (same_key-is l k s) (subst (PhaseGives here x) e h.phase) in
      record { gave = λ o. h.gave f; phase = record { op = w.op; is = w.is; needs = w.needs; unknown = w.unknown } }
  change-gives input d i x y f (ch_take k a b by of fc gc snap e q) h =
      let w : Wants here x k = subst (PhaseGives here x) e h.phase in noted-gives here x k b of snap w.op w.is w.needs w.unknown (h.gave f)
  change-gives input d i x y f (ch_close a e q) h = record { gave = λ o. h.gave f; phase = (e, q) }
  change-gives input d i x y f (ch_gate a) h = record { gave = λ o. h.gave f; phase = asks-ends here x a h }

  -- ---- at a node

  abbrev pub AllEvaluate : View → Type 0
  AllEvaluate v = (i : ℕ) (x : Own) → Owns v i x → Evaluates here x

  fresh_gives : (place : TxPlace) (rs : ℕ) → Evaluates here (fresh place rs)
  fresh_gives place rs = record { gave = λ o look ag. refl; phase = tt }

  gives_set : (own : List Own) (i : ℕ) (x y : Own) → slice_get own i ≡ Some x → (Evaluates here x → Evaluates here y) → ((j : ℕ) (z : Own) → slice_get own j ≡ Some z → Evaluates here z)
      → (j : ℕ) (z : Own) → slice_get (slice_set own i y) j ≡ Some z → Evaluates here z
  gives_set own i x y o f h j z k = elim (got_set own i j y z k) [ inl p ↦ subst (Evaluates here) (sym p.1) (f (h i x o)) | inr p ↦ h j z p.1 ]

  -- a certified transaction has done its script
  certified_ends : (x : Own) (p : Phase) (lc : ℕ) → lc_of p ≡ Some lc → is_decided p ≡ false → PhaseGives here x p → (own_op here x ≡ None) × (x.writes ≢ [])
  certified_ends x (Local m) lc e f h = h
  certified_ends x (Global m) lc e f h = h
  certified_ends x Active lc e f h = absurd (cc e)
  certified_ends x (ReadWait k) lc e f h = absurd (cc e)
  certified_ends x (Remote k) lc e f h = absurd (cc e)
  certified_ends x (Reply k v by fc) lc e f h = absurd (cc e)
  certified_ends x CertWait lc e f h = absurd (cc e)
  certified_ends x (Closing b) lc e f h = absurd (cc e)
  certified_ends x (Committed m fc) lc e f h = absurd (cc f)
  certified_ends x (Aborted m c) lc e f h = absurd (cc f)

  cause-gives : (input : Input) (d : Doing) (i : ℕ) (x : Own) (cause : Cause) → Why here input d i x cause → Evaluates here x → CauseGives here x cause
  cause-gives input d i x cause (by_script (at_abort a e)) h = inr e
  cause-gives input d i x cause (by_script (at_need e n)) h = inl (x.gets, subst (PhaseGives here x) e h.phase)
  cause-gives input d i x cause (by_lost q f es e) h = tt
  cause-gives input d i x cause (by_late q fc f es e) h = tt
  cause-gives input d i x cause (by_certification u k e) h = tt
  cause-gives input d i x cause (by_eviction from a w c) h = tt
  cause-gives input d i x cause (by_refusal from t p u k c) h = tt

  -- the same of it with its cause
  caused : (x : Own) (lc : Option ℕ) (cause : Cause) → CauseGives here x cause → CauseGives here (decided_as (Aborted lc cause) x) cause
  caused x lc Wish h = h
  caused x lc (Conflict u k n) h = tt
  caused x lc (Lost u) h = tt
  caused x lc (Late u t) h = tt

  pub gives-act : (input : Input) (w : Where) (d e : Doing) → Act here input w d e → AllEvaluate d.view → AllEvaluate e.view
  unfolding begun marked aborted committed closed certified asked acked requested accepted taken refused waits replied commit_came abort_came
  gives-act input w d e (act_begin place rs d' r g) h = λ j z k. elim (got_push d'.view.own j (fresh place rs) z k) [ inl p ↦ subst (Evaluates here) (sym p.1) (fresh_gives place rs) | inr p ↦ h j z p ]
  gives-act input w d e (act_mark k t d' rd) h = h
  gives-act input w d e (act_put i x y d' own g) h = gives_set d'.view.own i x y own.0 (change-gives input d' i x y g.goes.was_open g.change) h
  gives-act input w d e (act_request i k m x d' own g) h = gives_set d'.view.own i x (in_phase (Remote k) x) own.0 (change-gives input d' i x (in_phase (Remote k) x) g.goes.was_open g.change) h
  gives-act input w d e (act_certify i lc snap x d' own f n c) h =
      gives_set d'.view.own i x (record x { snap = snap; parts = participants here.scene here.node x.writes; phase = Local lc }) own.0
      (λ g. record { gave = λ o. g.gave f; phase = asks-ends here x own.2 g }) h
  gives-act input w d e (act_ask i lc p x d' own f l g) h =
      gives_set d'.view.own i x (record x { parts = with_asked p x.parts; phase = Global lc }) own.0
      (λ s. record { gave = λ o. s.gave f; phase = certified_ends x x.phase lc l f s.phase }) h
  gives-act input w d e (act_ack i lc from tx p ts parts x d' own c q g) h =
      gives_set d'.view.own i x (record x { parts = parts }) own.0
      (λ s. record { gave = s.gave; phase = subst (PhaseGives here (record x { parts = parts })) (sym q) (subst (PhaseGives here x) q s.phase) }) h
  gives-act input w d e (act_abort i cause x d' own f y) h =
      gives_set d'.view.own i x (decided_as (Aborted (lc_of x.phase) cause) x) own.0
      (λ s. record { gave = λ o. absurd (cc o); phase = caused x (lc_of x.phase) cause (cause-gives input d' i x cause y s) }) h
  gives-act input w d e (act_commit i lc fc x d' own l n le f g) h =
      gives_set d'.view.own i x (decided_as (Committed (Some lc) (Some fc)) x) own.0
      (λ s. record { gave = λ o. absurd (cc o); phase = certified_ends x x.phase lc l f s.phase }) h
  gives-act input w d e (act_close i x d' own p n) h =
      gives_set d'.view.own i x (decided_as (Committed None None) x) own.0
      (λ s. record { gave = λ o. absurd (cc o); phase = subst (PhaseGives here x) p s.phase }) h
  gives-act input w d e (act_accept a ts d' g m) h = h
  gives-act input w d e (act_refuse a u k d' g m) h = h
  gives-act input w d e (act_take from a d' c l) h = h
  gives-act input w d e (act_wait r d' g) h = h
  gives-act input w d e (act_unwait kept rest r d' g) h = h
  gives-act input w d e (act_reply tx k rs v u fc d' g) h = h
  gives-act input w d e (act_commit_came from tx p fc ms d' c g) h = h
  gives-act input w d e (act_abort_came from tx p d' c g) h = h

  -- where it is decided by the change, its answer has the gets to which its script came
  pub decision-ends : (input : Input) (w : Where) (d e : Doing) → Act here input w d e → AllEvaluate d.view → (i : ℕ) (x : Own) (p : Phase) → Owns d.view i x → is_decided x.phase ≡ false
      → Owns e.view i (decided_as p x) → Ends here (decided_as p x) x.gets
  decision-ends input w d e act h i x p own f own' lc fc c =
      let y : Evaluates here (decided_as p x) = gives-act input w d e act h i (decided_as p x) own' in
      ends-at here x (committed_none here (decided_as p x) p lc fc c y.phase) ((h i x own).gave f)
