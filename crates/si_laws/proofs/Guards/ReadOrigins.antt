-- Where a read of an own transaction comes from in a single change, with what the change knows of it.
use Rattle.dependency_set.specs.Snapshots.{Snap}
use Rattle.si_laws.proofs.Dependencies.AroundKept.{cert_rs}
use Rattle.si_laws.proofs.Scripts.ReadsEvaluate.{reply_same}
use Rattle.str_model.proofs.ViewFacts.MarksRise.{finish-looks, finish_next-looks}
use Rattle.si_laws.proofs.Changes.ReadTurns.{reply-is}
use Rattle.str_model.proofs.Principle.SingleChanges.{Act, Change, GoesOn, JustMarked, ReadsTo, Where, act_abort, act_abort_came, act_accept, act_ack, act_ask, act_begin, act_certify, act_close, act_commit, act_commit_came, act_mark, act_put, act_refuse, act_reply, act_request, act_take, act_unwait, act_wait, ch_away, ch_blind, ch_close, ch_gate, ch_known, ch_read, ch_reply, ch_resolve, ch_take, ch_wait}
use Rattle.std.proofs.Common.{Option, Some, [], ap, inl, inr, refl, slice_get, slice_set, subst, sym, ℕ, ◌++◌, ◌∙◌, ◌∷◌, ◌≡◌, ◌⊎◌}
use Rattle.str_model.specs.Acts.{abort_came, aborted, accepted, acked, asked, begun, certified, closed, commit_came, committed, decided_as, fresh, in_phase, marked, refused, replied, requested, taken, waits, with_asked}
use Rattle.str_model.specs.Owned.{Owns}
use Rattle.str_model.specs.Scripts.{noted, own_op}
use Rattle.str_model.specs.Views.{Aborted, Committed, Doing, Global, Local, Own, Remote, Reply, lc_of}
use Rattle.str_model.specs.declared.messages.Input.{Input}
use Rattle.str_model.specs.declared.names.ReadDone.{ReadDone}
use Rattle.str_scene.specs.Scenes.{Here, participants}
use Rattle.str_base.proofs.Lists.{got_push, got_set}
use Rattle.str_base.proofs.Members.{in_append}
use Rattle.str_base.specs.Members.{In}

-- it was there; or it is read now at home; or a reply that was held is taken
pub data ReadOrigin (here : Here) (d : Doing) (i : ℕ) (y : Own) (r : ReadDone) : Type 0 where
  ro_old : (x : Own) → Owns d.view i x → In r x.reads → y.snap.rs ≡ x.snap.rs → ReadOrigin here d i y r
  ro_read : (x : Own) (new : Snap) → Owns d.view i x → y.snap.rs ≡ x.snap.rs → JustMarked d.view r.key x.snap.rs → ReadsTo here d.view x.snap r.key r.value r.by new → ReadOrigin here d i y r
  ro_take : (x : Own) (fc : ℕ) → Owns d.view i x → y.snap.rs ≡ x.snap.rs → x.phase ≡ Reply r.key r.value r.by fc → ReadOrigin here d i y r

module _ (here : Here) (input : Input) where
  same_origin : (d : Doing) (i : ℕ) (x y : Own) (r : ReadDone) → Owns d.view i x → y.reads ≡ x.reads → y.snap.rs ≡ x.snap.rs → In r y.reads → ReadOrigin here d i y r
  same_origin d i x y r own q s h = ro_old x own (subst (In r) q h) s

  noted_origin : (d : Doing) (i : ℕ) (x y : Own) (s r : ReadDone) → Owns d.view i x → y.reads ≡ x.reads ++ s ∷ [] → y.snap.rs ≡ x.snap.rs → In r y.reads → ReadOrigin here d i y s → ReadOrigin here d i y r
  noted_origin d i x y s r own q rs h new =
      elim (in_append x.reads (s ∷ []) r (subst (In r) q h)) [
        | inl j ↦ ro_old x own j rs
        | inr j ↦ (elim j [ inl e ↦ subst (ReadOrigin here d i y) e new | inr e ↦ absurd e ])
      ]

  changed_origin : (d : Doing) (i : ℕ) (x y : Own) (r : ReadDone) → Owns d.view i x → GoesOn d.view x y → Change here input d i x y → In r y.reads → ReadOrigin here d i y r
  changed_origin d i x y r own g (ch_resolve t e) h = same_origin d i x y r own refl g.snap.rs h
  changed_origin d i x y r own g (ch_known op k a p e n q) h = same_origin d i x y r own (finish-looks op a x).reads g.snap.rs h
  changed_origin d i x y r own g (ch_blind op a p e n) h = same_origin d i x y r own (finish-looks op a x).reads g.snap.rs h
  changed_origin d i x y r own g (ch_read k a by snap rd m t) h =
      noted_origin d i x y (record { key = k; value = a; by = by }) r own (finish_next-looks (own_op here x) a (noted k a by snap x)).reads g.snap.rs h (ro_read x snap own g.snap.rs m t)
  changed_origin d i x y r own g (ch_wait k by rd m e) h = same_origin d i x y r own refl g.snap.rs h
  changed_origin d i x y r own g (ch_away k n rd m e) h = same_origin d i x y r own refl g.snap.rs h
  changed_origin d i x y r own g (ch_reply from tx l k a by fc c n p e s) h = same_origin d i x y r own refl g.snap.rs h
  changed_origin d i x y r own g (ch_take k a b by of fc gc snap e q) h =
      let v : a ≡ b = reply_same here x.snap a b by of fc gc snap q in
      let o : by ≡ of = reply-is here x.snap a b by of fc gc snap q in
      noted_origin d i x y (record { key = k; value = b; by = of }) r own (finish_next-looks (own_op here x) b (noted k b of snap x)).reads g.snap.rs h
      (ro_take x fc own g.snap.rs (e ∙ (ap (λ z. Reply k z by fc) v ∙ ap (λ z. Reply k b z fc) o)))
  changed_origin d i x y r own g (ch_close p e q) h = same_origin d i x y r own refl g.snap.rs h
  changed_origin d i x y r own g (ch_gate a) h = same_origin d i x y r own refl g.snap.rs h

  set_origin : (d : Doing) (n i : ℕ) (x z y : Own) (r : ReadDone) → slice_get (slice_set d.view.own n z) i ≡ Some y → In r y.reads → (In r z.reads → ReadOrigin here d n z r) → ReadOrigin here d i y r
  set_origin d n i x z y r own h f =
      elim (got_set d.view.own n i z y own) [
        | inl s ↦ subst (λ m. ReadOrigin here d m y r) (sym s.0) (subst (λ (u : Own). ReadOrigin here d n u r) (sym s.1) (f (subst (λ (u : Own). In r u.reads) s.1 h)))
        | inr s ↦ ro_old y s.1 h refl
      ]

  module _ (w : Where) where
    pub read_origin : (d e : Doing) → Act here input w d e → (i : ℕ) (y : Own) (r : ReadDone) → Owns e.view i y → In r y.reads → ReadOrigin here d i y r
    unfolding begun marked aborted committed closed certified asked acked requested accepted taken refused waits replied commit_came abort_came
    read_origin d e (act_begin place rs d' g l) i y r own h =
        elim (got_push d'.view.own i (fresh place rs) y own) [ inl s ↦ absurd (subst (λ (u : Own). In r u.reads) s.1 h) | inr s ↦ ro_old y s h refl ]
    read_origin d e (act_put n x z d' o g) i y r own h = set_origin d' n i x z y r own h (changed_origin d' n x z r o.0 g.goes g.change)
    read_origin d e (act_request n k to x d' o g) i y r own h = set_origin d' n i x (in_phase (Remote k) x) y r own h (changed_origin d' n x (in_phase (Remote k) x) r o.0 g.goes g.change)
    read_origin d e (act_certify n lc snap x d' o f l c) i y r own h =
        set_origin d' n i x (record x { snap = snap; parts = participants here.scene here.node x.writes; phase = Local lc }) y r own h
        (λ j. ro_old x o.0 j (cert_rs here d'.view x.snap snap x.writes lc c))
    read_origin d e (act_ask n lc p x d' o f l g) i y r own h = set_origin d' n i x (record x { parts = with_asked p x.parts; phase = Global lc }) y r own h (λ j. ro_old x o.0 j refl)
    read_origin d e (act_ack n lc from tx p ts parts x d' o c q g) i y r own h = set_origin d' n i x (record x { parts = parts }) y r own h (λ j. ro_old x o.0 j refl)
    read_origin d e (act_abort n cause x d' o f g) i y r own h = set_origin d' n i x (decided_as (Aborted (lc_of x.phase) cause) x) y r own h (λ j. ro_old x o.0 j refl)
    read_origin d e (act_commit n lc fc x d' o l none le f g) i y r own h = set_origin d' n i x (decided_as (Committed (Some lc) (Some fc)) x) y r own h (λ j. ro_old x o.0 j refl)
    read_origin d e (act_close n x d' o p none) i y r own h = set_origin d' n i x (decided_as (Committed Rattle.std.proofs.Common.None Rattle.std.proofs.Common.None) x) y r own h (λ j. ro_old x o.0 j refl)
    read_origin d e (act_mark k t d' rd) i y r own h = ro_old y own h refl
    read_origin d e (act_accept a ts d' g m) i y r own h = ro_old y own h refl
    read_origin d e (act_refuse a u k d' g m) i y r own h = ro_old y own h refl
    read_origin d e (act_take from a d' c l) i y r own h = ro_old y own h refl
    read_origin d e (act_wait s d' g) i y r own h = ro_old y own h refl
    read_origin d e (act_unwait kept more s d' g) i y r own h = ro_old y own h refl
    read_origin d e (act_reply tx k rs v u fc d' g) i y r own h = ro_old y own h refl
    read_origin d e (act_commit_came from tx p fc ms d' c g) i y r own h = ro_old y own h refl
    read_origin d e (act_abort_came from tx p d' c g) i y r own h = ro_old y own h refl
