-- What a change leaves of own transactions, of the done list and of Final versions.
use Rattle.std.proofs.Common.{None, Option, Some, [], add-sub_cancel, ap, arith, false, filter, inl, inr, map, refl, slice_get, slice_set, subst, sym, ℕ, ◌++◌, ◌+◌, ◌-◌, ◌∙◌, ◌∷◌, ◌≡◌, ◌≢◌, ◌⊎◌}
use Rattle.dependency_set.specs.declared.names.Dep.{Dep}
use Rattle.str_base.specs.declared.names.Kind.TheVariants.{Final, Local as LocalKind}
use Rattle.str_base.specs.declared.names.PartId.{PartId}
use Rattle.str_base.specs.declared.names.TxId.{TxId}
use Rattle.str_base.specs.declared.names.Version.{Version}
use Rattle.str_base.specs.Versions.{of_pair, of_tx, settled, without}
use Rattle.str_model.specs.declared.messages.Input.{Input}
use Rattle.str_model.specs.Acts.{abort_came, aborted, accepted, acked, asked, begun, certified, closed, commit_came, committed, decided_as, is_hosted_of, local_version, marked, pre_version, refused, replied, requested, taken, waits}
use Rattle.str_model.specs.Owned.{Owns}
use Rattle.str_model.specs.Proposals.{proposed}
use Rattle.str_model.specs.Turns.{CommittedAt, own_fate}
use Rattle.str_model.specs.Views.{Committed, Doing, Own, View, is_decided, name_of}
use Rattle.str_scene.specs.Scenes.{Here}
use Rattle.str_model.proofs.Principle.SingleChanges.{Act, Where, act_abort, act_abort_came, act_accept, act_ack, act_ask, act_begin, act_certify, act_close, act_commit, act_commit_came, act_mark, act_put, act_refuse, act_reply, act_request, act_take, act_unwait, act_wait}
use Rattle.str_model.proofs.Changes.SnapshotsGain.{Extends, Names, Settles}
use Rattle.str_model.proofs.Changes.OwnChanges.{Becomes, OwnStep, aborts, certifies, closes, commits, goes_on, own_step, rests, starts_one, turns_one}
use Rattle.si_laws.proofs.Dependencies.AroundLocal.{Around, Carried, FinalKnown, Stand, carry, far_final, own_final, owner_at}
use Rattle.str_model.proofs.Changes.PairWords.{becomes-open, decides_far, hosted_name, pair-is}
use Rattle.str_model.proofs.OwnFacts.EarlierDependencies.{depends-act}
use Rattle.str_model.proofs.OwnFacts.LocalOwners.{Depends, open-fate, same_own}
use Rattle.str_model.specs.Turns
use Rattle.str_base.proofs.Lists.{get_push, get_set, get_set_other, got_set}
use Rattle.std.proofs.lemmas.Bool.{cases_eq}
use Rattle.str_base.proofs.Members.{in_filter, in_insert_all, in_left, in_map, in_right, in_without}
use Rattle.str_base.specs.Members.{In}

-- ---- own transactions

-- one that has committed stands in the list
pub fate_is : (o : Option Own) (fc : ℕ) → own_fate o ≡ CommittedAt fc → (z : Own) × (o ≡ Some z)
fate_is None fc e = absurd (cc e)
fate_is (Some z) fc e = (z, refl)

pub carried : (d e : View) → OwnStep d e → Carried d e
carried d e (rests q f) =
    record {
      each = λ i x y own own' op op'.
          let same : x ≡ y = same_own d i i x y own (rw (← q) own') refl in
          (ap (λ (z : Own). z.snap.rs) (sym same), λ dep h. inl (dep, subst (λ (z : Own). In dep z.snap.deps) same h, refl));
      fates = λ k fc g. rw q g;
    }
carried d e (starts_one place rs le q f) =
    record {
      each = λ i x y own own' op op'.
          let same : x ≡ y = same_own e i i x y (rw q (get_push d.own i _ x own)) own' refl in
          (ap (λ (z : Own). z.snap.rs) (sym same), λ dep h. inl (dep, subst (λ (z : Own). In dep z.snap.deps) same h, refl));
      fates = λ k fc g.
          let z = fate_is (slice_get d.own k) fc g in
          let there : slice_get e.own k ≡ Some z.0 = rw q (get_push d.own k _ z.0 z.1) in
          ap own_fate there ∙ (ap own_fate (sym z.1) ∙ g);
    }
carried d e (turns_one n x' y' is q b) = record { each = each_one; fates = each_fate }
  where
    extended : (x y : Own) → x' ≡ x → y ≡ y' → Extends d x'.snap y'.snap → (y.snap.rs ≡ x.snap.rs) × ((dep : Dep) → In dep x.snap.deps → Names dep.seq y.snap.deps ⊎ Settles d x.snap.rs dep)
    extended x y s t ex =
        subst (λ (z : Own). (y.snap.rs ≡ z.snap.rs) × ((dep : Dep) → In dep z.snap.deps → Names dep.seq y.snap.deps ⊎ Settles d z.snap.rs dep)) s
        (subst (λ (z : Own). (z.snap.rs ≡ x'.snap.rs) × ((dep : Dep) → In dep x'.snap.deps → Names dep.seq z.snap.deps ⊎ Settles d x'.snap.rs dep)) (sym t) (ex.rs, ex.kept))

    changed : (x y : Own) → x' ≡ x → y ≡ y' → is_decided y.phase ≡ false → Becomes d d.floor e.floor x' y'
        → (y.snap.rs ≡ x.snap.rs) × ((dep : Dep) → In dep x.snap.deps → Names dep.seq y.snap.deps ⊎ Settles d x.snap.rs dep)
    changed x y s t op (goes_on r f) = extended x y s t r.snap
    changed x y s t op (certifies lc o none ph pl ex lt f) = extended x y s t ex
    changed x y s t op (commits lc fc o some le r f) = absurd (cc (ap (λ (z : Own). is_decided z.phase) (t ∙ r), op))
    changed x y s t op (closes o none r f) = absurd (cc (ap (λ (z : Own). is_decided z.phase) (t ∙ r), op))
    changed x y s t op (aborts cause o r f) = absurd (cc (ap (λ (z : Own). is_decided z.phase) (t ∙ r), op))

    each_one : (i : ℕ) (x y : Own) → Owns d i x → Owns e i y → is_decided x.phase ≡ false → is_decided y.phase ≡ false
        → (y.snap.rs ≡ x.snap.rs) × ((dep : Dep) → In dep x.snap.deps → Names dep.seq y.snap.deps ⊎ Settles d x.snap.rs dep)
    each_one i x y own own' op op' =
        elim (got_set d.own n i y' y (rw (← q) own')) [
          | inl r ↦ changed x y (same_own d n i x' x is own (sym r.0)) r.1 op' b
          | inr r ↦ (let same : x ≡ y = same_own d i i x y own r.1 refl in (ap (λ (z : Own). z.snap.rs) (sym same), λ dep h. inl (dep, subst (λ (z : Own). In dep z.snap.deps) same h, refl)))
        ]

    each_fate : (k fc : ℕ) → own_fate (slice_get d.own k) ≡ CommittedAt fc → own_fate (slice_get e.own k) ≡ CommittedAt fc
    each_fate k fc g =
        elim (cases_eq k n) [
          | inl s ↦ absurd (let o : own_fate (slice_get d.own k) ≡ Turns.Open = ap (λ m. own_fate (slice_get d.own m)) s ∙ (ap own_fate is ∙ open-fate x'.phase (becomes-open d d.floor e.floor x' y' b)) in cc (sym g ∙ o))
          | inr s ↦ rw q (ap own_fate (get_set_other d.own n k y' s) ∙ g)
        ]

-- ---- the done list

pub done-grows : (here : Here) (input : Input) (w : Where) (d e : Doing) → Act here input w d e → (k : TxId × PartId) → In k d.view.done → In k e.view.done
unfolding begun marked aborted committed closed certified asked acked requested accepted taken refused waits replied commit_came abort_came
done-grows here input w d e (act_begin place rs d' r h) k m = m
done-grows here input w d e (act_mark g t d' rd) k m = m
done-grows here input w d e (act_put i x y d' own g) k m = m
done-grows here input w d e (act_request i g n x d' own h) k m = m
done-grows here input w d e (act_certify i lc snap x d' own f n c) k m = m
done-grows here input w d e (act_ask i lc q x d' own f l g) k m = m
done-grows here input w d e (act_ack i lc from t q ts parts x d' own c r g) k m = m
done-grows here input w d e (act_abort i cause x d' own f y) k m = m
done-grows here input w d e (act_commit i lc fc x d' own l n le f g) k m = m
done-grows here input w d e (act_close i x d' own q n) k m = m
done-grows here input w d e (act_accept a ts d' h n) k m = m
done-grows here input w d e (act_refuse a u g d' h n) k m = in_left d'.view.done ((a.tx, a.part) ∷ []) k m
done-grows here input w d e (act_take from a d' c l) k m = m
done-grows here input w d e (act_wait r d' h) k m = m
done-grows here input w d e (act_unwait kept rest r d' h) k m = m
done-grows here input w d e (act_reply t g rs v u fc d' h) k m = m
done-grows here input w d e (act_commit_came from t q fc ms d' c h) k m = in_left d'.view.done ((t, q) ∷ []) k m
done-grows here input w d e (act_abort_came from t q d' c h) k m = in_left d'.view.done ((t, q) ∷ []) k m

-- ---- Final versions

module _ (here : Here) (input : Input) (w : Where) (d e : Doing) (act : Act here input w d e) (h : Stand here d.view) where
  pub step_of : Carried d.view e.view
  step_of = carried d.view e.view (own_step here input w d e act)

  pub after_base : Depends here e.view
  after_base = depends-act here input w d e act h.base

  pub old_final : (q : Version) → In q d.view.versions → q.kind ≡ Final → FinalKnown here e.view q
  unfolding step_of
  old_final q m k = still (h.finals q m k)
    where
      still : FinalKnown here d.view q → FinalKnown here e.view q
      still (own_final n f) = own_final n (step_of.fates (q.tx.seq - 1) q.ts.0 f)
      still (far_final n f) = far_final n (done-grows here input w d e act (q.tx, q.part) f)

  -- where both versions stood before
  pub old_around : (i : ℕ) (y : Own) (p q : Version) → Owns e.view i y → In p d.view.versions → In p e.view.versions → p.kind ≡ LocalKind → p.tx.seq ≡ i + 1
      → In q d.view.versions → In q e.view.versions → q.key ≡ p.key → q.tx ≢ p.tx → Around here e.view i y p.ts.0 q
  unfolding step_of after_base
  old_around i y p q own' hp hp' k s hq hq' key ne =
      let o = h.base.locals p hp k in
      let own : Owns d.view i o.owner = subst (λ n. Owns d.view n o.owner) (omega (arith, s, o.seq)) o.owns in
      carry here d.view e.view step_of i p.ts.0 o.owner y q own own' o.open_ (owner_at here e.view p (after_base.locals p hp' k) i y own' s).0
      (h.base.locals q hq) (after_base.locals q hq') (h.around i o.owner p q own hp k s hq key ne)

pub finals-act : (here : Here) (input : Input) (w : Where) (d e : Doing) → Act here input w d e → Stand here d.view → (q : Version) → In q e.view.versions → q.kind ≡ Final → FinalKnown here e.view q
unfolding begun marked aborted committed closed certified asked acked requested accepted taken refused waits replied commit_came abort_came
finals-act here input w d e (act_begin place rs d' r g) h q m k = old_final here input w d' e (act_begin place rs d' r g) h q m k
finals-act here input w d e (act_mark g t d' rd) h q m k = old_final here input w d' e (act_mark g t d' rd) h q m k
finals-act here input w d e (act_put i x y d' own g) h q m k = old_final here input w d' e (act_put i x y d' own g) h q m k
finals-act here input w d e (act_request i g n x d' own r) h q m k = old_final here input w d' e (act_request i g n x d' own r) h q m k
finals-act here input w d e (act_ask i lc p x d' own f l g) h q m k = old_final here input w d' e (act_ask i lc p x d' own f l g) h q m k
finals-act here input w d e (act_ack i lc from t p ts parts x d' own c r g) h q m k = old_final here input w d' e (act_ack i lc from t p ts parts x d' own c r g) h q m k
finals-act here input w d e (act_close i x d' own p n) h q m k = old_final here input w d' e (act_close i x d' own p n) h q m k
finals-act here input w d e (act_refuse a u g d' r n) h q m k = old_final here input w d' e (act_refuse a u g d' r n) h q m k
finals-act here input w d e (act_wait r d' g) h q m k = old_final here input w d' e (act_wait r d' g) h q m k
finals-act here input w d e (act_unwait kept rest r d' g) h q m k = old_final here input w d' e (act_unwait kept rest r d' g) h q m k
finals-act here input w d e (act_reply t g rs v u fc d' r) h q m k = old_final here input w d' e (act_reply t g rs v u fc d' r) h q m k
finals-act here input w d e (act_abort i cause x d' own f y) h q m k =
    old_final here input w d' e (act_abort i cause x d' own f y) h q (in_without (of_tx (name_of here i)) d'.view.versions q m) k
finals-act here input w d e (act_abort_came from t p d' c g) h q m k =
    old_final here input w d' e (act_abort_came from t p d' c g) h q (in_without (of_pair t p) d'.view.versions q m) k
finals-act here input w d e (act_certify i lc snap x d' own f n c) h q m k =
    elim (in_insert_all (map (local_version here i lc) x.writes) d'.view.versions q m) [
      | inl j ↦ (let r = in_map (local_version here i lc) x.writes q j in absurd (cc (ap (λ (z : Version). z.kind) r.2, k)))
      | inr j ↦ old_final here input w d' e (act_certify i lc snap x d' own f n c) h q j k
    ]
finals-act here input w d e (act_accept a ts d' g n) h q m k =
    elim (in_insert_all (map (pre_version a ts) a.writes) d'.view.versions q m) [
      | inl j ↦ (let r = in_map (pre_version a ts) a.writes q j in absurd (cc (ap (λ (z : Version). z.kind) r.2, k)))
      | inr j ↦ old_final here input w d' e (act_accept a ts d' g n) h q j k
    ]
finals-act here input w d e (act_take from a d' c l) h q m k =
    elim (in_insert_all (map (pre_version a (proposed d'.view a)) a.writes) d'.view.versions q m) [
      | inl j ↦ (let r = in_map (pre_version a (proposed d'.view a)) a.writes q j in absurd (cc (ap (λ (z : Version). z.kind) r.2, k)))
      | inr j ↦ old_final here input w d' e (act_take from a d' c l) h q j k
    ]
finals-act here input w d e (act_commit i lc fc x d' own l n le f g) h q m k =
    elim (in_insert_all (map (settled fc) (filter (is_hosted_of here (name_of here i)) d'.view.versions)) (without (of_tx (name_of here i)) d'.view.versions) q m) [
      | inl j ↦ (let r = in_map (settled fc) (filter (is_hosted_of here (name_of here i)) d'.view.versions) q j in
          let u = in_filter (is_hosted_of here (name_of here i)) d'.view.versions r.0 r.1 in
          let name : q.tx ≡ name_of here i = ap (λ (z : Version). z.tx) (sym r.2) ∙ hosted_name here (name_of here i) r.0 u.1 in
          let at : slice_get (slice_set d'.view.own i (decided_as (Committed (Some lc) (Some fc)) x)) (q.tx.seq - 1) ≡ Some (decided_as (Committed (Some lc) (Some fc)) x) =
          ap (λ (z : TxId). slice_get (slice_set d'.view.own i (decided_as (Committed (Some lc) (Some fc)) x)) (z.seq - 1)) name
          ∙ (ap (λ m. slice_get (slice_set d'.view.own i (decided_as (Committed (Some lc) (Some fc)) x)) m) (add-sub_cancel i 1) ∙ get_set d'.view.own i x (decided_as (Committed (Some lc) (Some fc)) x) own.0) in
          own_final (ap (λ (z : TxId). z.node.0) name) (ap own_fate at ∙ ap (λ (z : Version). CommittedAt z.ts.0) r.2))
      | inr j ↦ old_final here input w d' e (act_commit i lc fc x d' own l n le f g) h q (in_without (of_tx (name_of here i)) d'.view.versions q j) k
    ]
finals-act here input w d e (act_commit_came from t p fc ms d' c g) h q m k =
    elim (in_insert_all (map (settled fc.0) (filter (of_pair t p) d'.view.versions)) (without (of_pair t p) d'.view.versions) q m) [
      | inl j ↦ (let r = in_map (settled fc.0) (filter (of_pair t p) d'.view.versions) q j in
          let u = in_filter (of_pair t p) d'.view.versions r.0 r.1 in
          let s = pair-is t p r.0 u.1 in
          let tx : q.tx ≡ t = ap (λ (z : Version). z.tx) (sym r.2) ∙ s.0 in
          let part : q.part ≡ p = ap (λ (z : Version). z.part) (sym r.2) ∙ s.1 in
          far_final (λ z. (decides_far here t p d'.view g).0 (ap (λ (y : TxId). y.node.0) (sym tx) ∙ z))
          (subst (λ (y : PartId). In (q.tx, y) (d'.view.done ++ (t, p) ∷ [])) (sym part)
          (subst (λ (y : TxId). In (y, p) (d'.view.done ++ (t, p) ∷ [])) (sym tx) (in_right d'.view.done ((t, p) ∷ []) (t, p) (inl refl)))))
      | inr j ↦ old_final here input w d' e (act_commit_came from t p fc ms d' c g) h q (in_without (of_pair t p) d'.view.versions q j) k
    ]
