-- What one own transaction keeps at each change.
use Rattle.std.proofs.Common.{List, None, Some, ap, false, inl, inr, refl, slice_get, slice_set, subst, sym, true, ℕ, ◌∙◌, ◌≡◌}
use Rattle.dependency_set.specs.Snapshots.{Snap}
use Rattle.partition_map.specs.declared.rows.Asked.{Asked}
use Rattle.si_laws.proofs.Stages.LinkedStates.{one_of}
use Rattle.str_base.specs.declared.names.NodeId.{NodeId}
use Rattle.str_base.specs.declared.names.PartId.{PartId}
use Rattle.str_model.proofs.OwnFacts.EachOwn.{as_certified}
use Rattle.str_model.proofs.Principle.SingleChanges.{Act, AsksCommit, Goes, Where, act_abort, act_abort_came, act_accept, act_ack, act_ask, act_begin, act_certify, act_close, act_commit, act_commit_came, act_mark, act_put, act_refuse, act_reply, act_request, act_take, act_unwait, act_wait}
use Rattle.str_model.specs.Acts
use Rattle.str_model.specs.Acts.{aborted, accepted, acked, asked, begun, certified, closed, commit_came, committed, fresh, decided_as, in_phase, marked, refused, replied, requested, taken, waits, with_asked}
use Rattle.str_model.specs.Owned.{Owns}
use Rattle.str_model.specs.Returns.{with_ack}
use Rattle.str_model.specs.Views.{Aborted, Committed, Doing, Global, Own, Remote, View, is_decided, lc_of}
use Rattle.str_model.specs.declared.messages.Input.{Input}
use Rattle.str_scene.specs.Scenes.{Here}
use Rattle.str_base.proofs.Lists.{get_push, get_set, get_set_other}
use Rattle.std.proofs.lemmas.Bool.{cases_eq}

-- what each change of a transaction keeps; whatever is decided has it
pub record KeepsOne (here : Here) (input : Input) (d : Doing) (P : Own → Type 0) : Type 0 where
  pub goes : (i : ℕ) (x y : Own) → Goes here input d i x y → P x → P y
  pub certifies : (lc : ℕ) (snap : Snap) (x : Own) → AsksCommit here x → lc_of x.phase ≡ None → P x → P (as_certified here lc snap x)
  pub asks : (lc : ℕ) (p : PartId) (x : Own) → is_decided x.phase ≡ false → lc_of x.phase ≡ Some lc → P x → P (record x { parts = with_asked p x.parts; phase = Global lc })
  pub acks : (lc : ℕ) (from : NodeId) (p : PartId) (ts : ℕ) (parts : List Asked) (x : Own) → x.phase ≡ Global lc → with_ack x.parts p from ts ≡ Some parts → P x → P (record x { parts = parts })
  pub decides : (x : Own) → is_decided x.phase ≡ true → P x

-- the i-th own transaction has it
abbrev pub OneHas : (Own → Type 0) → ℕ → View → Type 0
OneHas P i v = (x : Own) × Owns v i x × P x

module _ (here : Here) (input : Input) (P : Own → Type 0) where
  set_one : (own : List Own) (j : ℕ) (x y : Own) → slice_get own j ≡ Some x → (P x → P y) → (i : ℕ) → ((z : Own) × (slice_get own i ≡ Some z) × P z) → (z : Own) × (slice_get (slice_set own j y) i ≡ Some z) × P z
  set_one own j x y o f i h = elim (cases_eq i j) [
    | inl e ↦ (y, subst (λ (k : ℕ). slice_get (slice_set own j y) k ≡ Some y) (sym e) (get_set own j x y o), f (subst P (one_of h.0 x (slice_get own i) h.1 (ap (λ (k : ℕ). slice_get own k) e ∙ o)) h.2))
    | inr n ↦ (h.0, get_set_other own j i y n ∙ h.1, h.2)
  ]

  pub one-act : (w : Where) (d e : Doing) → KeepsOne here input d P → Act here input w d e → (i : ℕ) → OneHas P i d.view → OneHas P i e.view
  unfolding begun marked aborted committed closed certified asked acked requested accepted taken refused waits replied commit_came Acts.abort_came
  one-act w d e k (act_begin place rs d' r g) j h = (h.0, get_push d'.view.own j (fresh place rs) h.0 h.1, h.2)
  one-act w d e k (act_put i x y d' own g) j h = set_one d'.view.own i x y own.0 (k.goes i x y g) j h
  one-act w d e k (act_request i l m x d' own g) j h = set_one d'.view.own i x (in_phase (Remote l) x) own.0 (k.goes i x (in_phase (Remote l) x) (record { goes = g.goes; change = g.change })) j h
  one-act w d e k (act_certify i lc snap x d' own f n c) j h = set_one d'.view.own i x (as_certified here lc snap x) own.0 (k.certifies lc snap x own.2 n) j h
  one-act w d e k (act_ask i lc p x d' own f l g) j h = set_one d'.view.own i x (record x { parts = with_asked p x.parts; phase = Global lc }) own.0 (k.asks lc p x f l) j h
  one-act w d e k (act_ack i lc from tx p ts parts x d' own c q g) j h = set_one d'.view.own i x (record x { parts = parts }) own.0 (k.acks lc from p ts.0 parts x q g.parts_are) j h
  one-act w d e k (act_abort i cause x d' own f y) j h = set_one d'.view.own i x (decided_as (Aborted (lc_of x.phase) cause) x) own.0 (λ z. k.decides (decided_as (Aborted (lc_of x.phase) cause) x) refl) j h
  one-act w d e k (act_commit i lc fc x d' own l n le f g) j h = set_one d'.view.own i x (decided_as (Committed (Some lc) (Some fc)) x) own.0 (λ z. k.decides (decided_as (Committed (Some lc) (Some fc)) x) refl) j h
  one-act w d e k (act_close i x d' own p n) j h = set_one d'.view.own i x (decided_as (Committed None None) x) own.0 (λ z. k.decides (decided_as (Committed None None) x) refl) j h
  one-act w d e k (act_mark l t d' rd) j h = h
  one-act w d e k (act_accept a ts d' g m) j h = h
  one-act w d e k (act_refuse a u l d' g m) j h = h
  one-act w d e k (act_take from a d' c l) j h = h
  one-act w d e k (act_wait r d' g) j h = h
  one-act w d e k (act_unwait kept rest r d' g) j h = h
  one-act w d e k (act_reply tx l rs v u fc d' g) j h = h
  one-act w d e k (act_commit_came from tx p fc ms d' c g) j h = h
  one-act w d e k (act_abort_came from tx p d' c g) j h = h
