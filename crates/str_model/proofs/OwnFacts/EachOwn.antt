-- What a single change keeps of each own transaction by itself.
use Rattle.std.proofs.Common.{List, None, Some, [], false, inl, inr, slice_get, slice_set, subst, sym, ℕ, ◌≡◌}
use Rattle.partition_map.specs.declared.rows.Asked.{Asked}
use Rattle.str_base.specs.declared.names.Cause.{Cause}
use Rattle.str_base.specs.declared.names.NodeId.{NodeId}
use Rattle.str_base.specs.declared.names.PartId.{PartId}
use Rattle.str_base.specs.declared.names.Ts.{Ts}
use Rattle.str_base.specs.declared.names.TxId.{TxId}
use Rattle.str_scene.specs.declared.names.TxPlace.{TxPlace}
use Rattle.str_model.specs.declared.messages.Body.TheVariants.{Ack}
use Rattle.str_model.specs.declared.messages.Input.{Input}
use Rattle.dependency_set.specs.Snapshots.{Snap}
use Rattle.str_model.specs.Acts.{abort_came, aborted, accepted, acked, asked, begun, certified, closed, commit_came, committed, decided_as, fresh, in_phase, marked, refused, replied, requested, taken, waits, with_asked}
use Rattle.str_model.specs.Gates.{Ask, CommitAt, gate_of}
use Rattle.str_model.specs.NodeFacts.{AllOwn}
use Rattle.str_model.specs.Owned.{Owns}
use Rattle.str_scene.specs.Scenes.{Here, participants}
use Rattle.str_model.specs.Turns.{Certified, cert_turn}
use Rattle.str_model.specs.Views.{Aborted, Closing, Committed, Doing, Global, Local, Own, Remote, is_decided, lc_of}
use Rattle.str_model.proofs.Principle.SingleChanges.{Act, AsksCommit, Comes, Goes, KeepsAck, Where, act_abort, act_abort_came, act_accept, act_ack, act_ask, act_begin, act_certify, act_close, act_commit, act_commit_came, act_mark, act_put, act_refuse, act_reply, act_request, act_take, act_unwait, act_wait}
use Rattle.str_base.proofs.Lists.{got_push, got_set}

-- the transaction as it stands once it is certified
abbrev pub as_certified : Here → ℕ → Snap → Own → Own
as_certified here lc snap x = record x { snap = snap; parts = participants here.scene here.node x.writes; phase = Local lc }

-- what each change of an own transaction keeps
pub record OwnKept (here : Here) (input : Input) (d : Doing) (P : Own → Type 0) : Type 0 where
  pub begins : (place : TxPlace) (rs : ℕ) → P (fresh place rs)
  pub goes : (i : ℕ) (x y : Own) → Owns d.view i x → Goes here input d i x y → P x → P y
  pub certifies : (i lc : ℕ) (snap : Snap) (x : Own) → Owns d.view i x → AsksCommit here x → lc_of x.phase ≡ None
      → cert_turn here d.view x.snap x.writes ≡ Certified lc snap → P x → P (as_certified here lc snap x)
  pub asks : (i lc : ℕ) (p : PartId) (x : Own) → Owns d.view i x → is_decided x.phase ≡ false → lc_of x.phase ≡ Some lc → gate_of here d.view lc x ≡ Ask p
      → P x → P (record x { parts = with_asked p x.parts; phase = Global lc })
  pub acks : (i lc : ℕ) (from : NodeId) (tx : TxId) (p : PartId) (ts : Ts) (parts : List Asked) (x : Own) → Owns d.view i x → Comes here input from (Ack tx p ts)
      → x.phase ≡ Global lc → KeepsAck here i x from tx p ts parts → P x → P (record x { parts = parts })
  pub aborts : (cause : Cause) (x : Own) → is_decided x.phase ≡ false → P x → P (decided_as (Aborted (lc_of x.phase) cause) x)
  pub commits : (i lc fc : ℕ) (x : Own) → Owns d.view i x → is_decided x.phase ≡ false → lc_of x.phase ≡ Some lc → x.snap.deps ≡ [] → gate_of here d.view lc x ≡ CommitAt fc
      → P x → P (decided_as (Committed (Some lc) (Some fc)) x)
  pub closes : (x : Own) → x.phase ≡ Closing false → x.snap.deps ≡ [] → P x → P (decided_as (Committed None None) x)

module _ (here : Here) (input : Input) (P : Own → Type 0) where
  set_own : (own : List Own) (i : ℕ) (x y : Own) → slice_get own i ≡ Some x → (P x → P y) → ((j : ℕ) (z : Own) → slice_get own j ≡ Some z → P z)
      → (j : ℕ) (z : Own) → slice_get (slice_set own i y) j ≡ Some z → P z
  set_own own i x y o f h j z g = elim (got_set own i j y z g) [ inl p ↦ subst P (sym p.1) (f (h i x o)) | inr p ↦ h j z p.1 ]

  pub each_own-act : (w : Where) (d e : Doing) → OwnKept here input d P → Act here input w d e → AllOwn P d.view → AllOwn P e.view
  unfolding begun marked aborted committed closed certified asked acked requested accepted taken refused waits replied commit_came abort_came
  each_own-act w d e k (act_begin place rs d' r g) h = λ j z q. elim (got_push d'.view.own j (fresh place rs) z q) [ inl p ↦ subst P (sym p.1) (k.begins place rs) | inr p ↦ h j z p ]
  each_own-act w d e k (act_put i x y d' own g) h = set_own d'.view.own i x y own.0 (k.goes i x y own.0 g) h
  each_own-act w d e k (act_request i l m x d' own g) h = set_own d'.view.own i x (in_phase (Remote l) x) own.0 (k.goes i x (in_phase (Remote l) x) own.0 (record { goes = g.goes; change = g.change })) h
  each_own-act w d e k (act_certify i lc snap x d' own f n c) h = set_own d'.view.own i x (as_certified here lc snap x) own.0 (k.certifies i lc snap x own.0 own.2 n c) h
  each_own-act w d e k (act_ask i lc p x d' own f l g) h =
      set_own d'.view.own i x (record x { parts = with_asked p x.parts; phase = Global lc }) own.0 (k.asks i lc p x own.0 f l g) h
  each_own-act w d e k (act_ack i lc from tx p ts parts x d' own c q g) h =
      set_own d'.view.own i x (record x { parts = parts }) own.0 (k.acks i lc from tx p ts parts x own.0 c q g) h
  each_own-act w d e k (act_abort i cause x d' own f y) h = set_own d'.view.own i x (decided_as (Aborted (lc_of x.phase) cause) x) own.0 (k.aborts cause x f) h
  each_own-act w d e k (act_commit i lc fc x d' own l n le f g) h =
      set_own d'.view.own i x (decided_as (Committed (Some lc) (Some fc)) x) own.0 (k.commits i lc fc x own.0 f l n g) h
  each_own-act w d e k (act_close i x d' own p n) h = set_own d'.view.own i x (decided_as (Committed None None) x) own.0 (k.closes x p n) h
  each_own-act w d e k (act_mark l t d' rd) h = h
  each_own-act w d e k (act_accept a ts d' g m) h = h
  each_own-act w d e k (act_refuse a u l d' g m) h = h
  each_own-act w d e k (act_take from a d' c l) h = h
  each_own-act w d e k (act_wait r d' g) h = h
  each_own-act w d e k (act_unwait kept rest r d' g) h = h
  each_own-act w d e k (act_reply tx l rs v u fc d' g) h = h
  each_own-act w d e k (act_commit_came from tx p fc ms d' c g) h = h
  each_own-act w d e k (act_abort_came from tx p d' c g) h = h
