-- What is around a Local version stays so at each change.
use Rattle.std.proofs.Common.{Bool, List, Some, [], add-sub_cancel, ap, arith, eq-eqb, false, filter, inl, inr, map, refl, slice_get, slice_set, subst, sym, true, ℕ, ◌+◌, ◌-◌, ◌==◌, ◌∙◌, ◌≡◌, ◌≢◌, ◌≤◌}
use Rattle.str_base.specs.declared.names.Kind.{Kind}
use Rattle.str_base.specs.declared.names.Kind.TheVariants.{Final, Local as LocalKind, Pre}
use Rattle.str_base.specs.declared.names.PartId.{PartId}
use Rattle.str_base.specs.declared.names.TxId.{TxId}
use Rattle.str_base.specs.declared.names.Version.{Version}
use Rattle.str_base.specs.Versions.{insert_all, is_pre, is_undecided, of_pair, of_tx, settled, without}
use Rattle.str_model.specs.declared.messages.Arrived.{Arrived}
use Rattle.str_model.specs.declared.messages.Input.{Input}
use Rattle.str_model.specs.Acts.{abort_came, aborted, accepted, acked, asked, begun, certified, closed, commit_came, committed, decided_as, is_hosted_of, local_version, marked, pre_version, refused, replied, requested, taken, waits}
use Rattle.str_model.specs.Owned.{Owns}
use Rattle.str_model.specs.Proposals.{Accept, is_done, master_turn, proposed}
use Rattle.str_model.specs.Steps.{decides}
use Rattle.str_base.specs.declared.names.Write.{Write}
use Rattle.dependency_set.specs.Snapshots.{Snap}
use Rattle.str_model.specs.Turns.{Certified, CommittedAt, Fate, cert_turn, own_fate, phase_fate}
use Rattle.str_model.specs.Turns
use Rattle.str_model.specs.Views.{Committed, Doing, Local, Own, View, is_decided, name_of}
use Rattle.str_scene.specs.Scenes.{Here, participants}
use Rattle.str_model.proofs.Principle.SingleChanges.{Act, Takes, Where, act_abort, act_abort_came, act_accept, act_ack, act_ask, act_begin, act_certify, act_close, act_commit, act_commit_came, act_mark, act_put, act_refuse, act_reply, act_request, act_take, act_unwait, act_wait}
use Rattle.str_model.proofs.Changes.SnapshotsGain.{CertGood, Names, cert_turn-good}
use Rattle.str_model.proofs.Changes.VersionsMet.{accept_met, cert_met}
use Rattle.si_laws.proofs.Dependencies.AroundLocal.{Around, EachAround, FinalKnown, PresApart, Stand, far_final, final_below, final_late, local_above, local_below, own_final, owner_at}
use Rattle.str_model.proofs.OwnFacts.EarlierDependencies.{depends-act}
use Rattle.str_model.proofs.Changes.PairWords.{decides_far, hosted_name, not_done, pair-is}
use Rattle.si_laws.proofs.Dependencies.LeftAlone.{finals-act, old_around}
use Rattle.str_model.proofs.OwnFacts.LocalOwners.{LocalOwner, decided_old, final_old, open-fate, placed_old, same_own}
use Rattle.str_base.proofs.Lists.{get_set, got_set}
use Rattle.str_base.proofs.Members.{in_filter, in_insert_all, in_map, in_without}
use Rattle.str_base.specs.Members.{In}

-- ---- around

pub cert_rs : (here : Here) (view : View) (old new : Snap) (ws : List Write) (lc : ℕ) → cert_turn here view old ws ≡ Certified lc new → new.rs ≡ old.rs
cert_rs here view old new ws lc c =
    let good : CertGood view old (Certified lc new) = subst (CertGood view old) c (cert_turn-good here view old ws) in good.0.rs

module _ (here : Here) (input : Input) (w : Where) where
  -- no Pre version comes beside a Local one
  pub accept_apart : (a : Arrived) (ts : ℕ) (d : Doing) (p q : Version) → master_turn d.view a ≡ Accept ts → In p d.view.versions → p.kind ≡ LocalKind
      → In q (map (pre_version a ts) a.writes) → q.key ≡ p.key → ⊥
  accept_apart a ts d p q e hp k j key =
      let r = in_map (pre_version a ts) a.writes q j in
      let u = accept_met d.view a ts e p r.0 hp r.1 (sym key ∙ ap (λ (z : Version). z.key) (sym r.2)) in
      cc (ap is_undecided k, u.0)

  own_name : (d : Doing) (p : Version) (o : LocalOwner here d.view p) (i : ℕ) → p.tx.seq ≡ i + 1 → of_tx (name_of here i) p ≡ true
  own_name d p o i s =
      let a : (p.tx.node.0 == here.node.0) ≡ true = eq-eqb p.tx.node.0 here.node.0 o.node in
      let b : (p.tx.seq == i + 1) ≡ true = eq-eqb p.tx.seq (i + 1) s in
      rw (a, b) refl

  pub take_apart : (a : Arrived) (ts i : ℕ) (d : Doing) (p q : Version) → Takes here d a → LocalOwner here d.view p → p.tx.seq ≡ i + 1 → In p d.view.versions → p.kind ≡ LocalKind
      → In q (map (pre_version a ts) a.writes) → q.key ≡ p.key → ⊥
  take_apart a ts i d p q t o s hp k j key =
      let r = in_map (pre_version a ts) a.writes q j in
      t.none_held o.place o.owner p r.0 tt o.owns o.open_ hp r.1 (sym key ∙ ap (λ (z : Version). z.key) (sym r.2)) (own_name d p o o.place o.seq) k

  -- a version of a foreign pair that is decided now was no Local one, and not Final
  came_apart : (tx : TxId) (part : PartId) (d : Doing) (h : Stand here d.view) (i : ℕ) (x : Own) (p u : Version) → decides here tx part d.view ≡ true → Owns d.view i x → In p d.view.versions
      → p.kind ≡ LocalKind → p.tx.seq ≡ i + 1 → In u d.view.versions → of_pair tx part u ≡ true → u.key ≡ p.key → u.tx ≢ p.tx → ⊥
  came_apart tx part d h i x p u g own hp k s hu e key ne = by_around (h.around i x p u own hp k s hu key ne)
    where
      far : (tx.node.0 ≢ here.node.0) × (is_done d.view tx part ≡ false)
      far = decides_far here tx part d.view g

      local : u.kind ≡ LocalKind → ⊥
      local l = far.0 (ap (λ (z : TxId). z.node.0) (sym (pair-is tx part u e).0) ∙ (h.base.locals u hu l).node)

      final : FinalKnown here d.view u → ⊥
      final (own_final n f) = far.0 (ap (λ (z : TxId). z.node.0) (sym (pair-is tx part u e).0) ∙ n)
      final (far_final n f) = not_done d.view tx part u far.1 e f

      by_around : Around here d.view i x p.ts.0 u → ⊥
      by_around (final_below l le) = final (h.finals u hu l)
      by_around (final_late l n m f) = final (h.finals u hu l)
      by_around (local_below l le m) = local l
      by_around (local_above j y l q oy le m) = local l

  -- the version of a transaction that commits now
  commit_around : (n lc fc : ℕ) (z : Own) (d e : Doing) (own : Owns d.view n z) → is_decided z.phase ≡ false → z.snap.deps ≡ [] → e.view.own ≡ slice_set d.view.own n (decided_as (Committed (Some lc) (Some fc)) z)
      → (h : Stand here d.view) (i : ℕ) (x y : Own) (p u q : Version) → Owns d.view i x → Owns e.view i y → is_decided y.phase ≡ false → u.tx ≡ name_of here n → settled fc u ≡ q → In u d.view.versions → Around here d.view i x p.ts.0 u
      → Around here e.view i y p.ts.0 q
  commit_around n lc fc z d e own op none set h i x y p u q ox oy opy name are hu = by_around
    where
      seq : q.tx.seq ≡ n + 1
      seq = ap (λ (v : Version). v.tx.seq) (sym are) ∙ ap (λ (t : TxId). t.seq) name

      node : q.tx.node.0 ≡ here.node.0
      node = ap (λ (v : Version). v.tx.node.0) (sym are) ∙ ap (λ (t : TxId). t.node.0) name

      place : q.tx.seq - 1 ≡ n
      place = ap (λ m. m - 1) seq ∙ add-sub_cancel n 1

      was : u.tx.seq - 1 ≡ n
      was = ap (λ (t : TxId). t.seq - 1) name ∙ add-sub_cancel n 1

      open_at : (f : ℕ) → own_fate (slice_get d.view.own (u.tx.seq - 1)) ≡ CommittedAt f → ⊥
      open_at f g =
          let o : own_fate (slice_get d.view.own (u.tx.seq - 1)) ≡ Turns.Open = ap (λ m. own_fate (slice_get d.view.own m)) was ∙ (ap own_fate own ∙ open-fate z.phase op) in cc (sym g ∙ o)

      final : FinalKnown here d.view u → ⊥
      final (own_final m f) = open_at u.ts.0 f
      final (far_final m f) = m (ap (λ (t : TxId). t.node.0) name)

      fate : own_fate (slice_get e.view.own (q.tx.seq - 1)) ≡ CommittedAt q.ts.0
      fate =
          ap (λ m. own_fate (slice_get e.view.own m)) place
          ∙ (ap (λ os. own_fate (slice_get os n)) set ∙ (ap own_fate (get_set d.view.own n z (decided_as (Committed (Some lc) (Some fc)) z) own) ∙ ap (λ (v : Version). CommittedAt v.ts.0) are))

      same : x ≡ y
      same =
          elim (got_set d.view.own n i (decided_as (Committed (Some lc) (Some fc)) z) y (ap (λ os. slice_get os i) (sym set) ∙ oy)) [
            | inl r ↦ absurd (cc (ap (λ (v : Own). is_decided v.phase) r.1, opy))
            | inr r ↦ same_own d.view i i x y ox r.1 refl
          ]

      by_around : Around here d.view i x p.ts.0 u → Around here e.view i y p.ts.0 q
      by_around (final_below l le) = absurd (final (h.finals u hu l))
      by_around (final_late l m m' f) = absurd (final (h.finals u hu l))
      by_around (local_below l le m) =
          final_late (ap (λ (v : Version). v.kind) (sym are)) node
          (subst (λ s. Names s y.snap.deps) (ap (λ (v : Version). v.tx.seq) are) (subst (λ (v : Own). Names u.tx.seq v.snap.deps) same m)) fate
      by_around (local_above j v l s ov le m) =
          let is : v ≡ z = same_own d.view j n v z ov own (omega (arith, s, ap (λ (t : TxId). t.seq) name)) in
          absurd (subst (In m.0) (ap (λ (a : Own). a.snap.deps) is ∙ none) m.1)

-- the versions of a transaction that is certified now, and those that it met
module _ (here : Here) (d e : Doing) (h : Stand here d.view) (n lc i : ℕ) (snap : Snap) (x z y : Own) (p q : Version) where
  by_kind : (v : Kind) → q.kind ≡ v → is_pre q.kind ≡ false → (q.kind ≡ Final → Around here e.view i y p.ts.0 q) → (q.kind ≡ LocalKind → Around here e.view i y p.ts.0 q) → Around here e.view i y p.ts.0 q
  by_kind Pre e n a b = absurd (cc (e, n))
  by_kind Final e n a b = a e
  by_kind LocalKind e n a b = b e

  owner_there : (v : Version) (b : LocalOwner here d.view v) → slice_get d.view.own (v.tx.seq - 1) ≡ Some b.owner
  owner_there v b = ap (λ m. slice_get d.view.own (m - 1)) b.seq ∙ (ap (λ m. slice_get d.view.own m) (add-sub_cancel b.place 1) ∙ b.owns)

  certified_own : cert_turn here d.view x.snap x.writes ≡ Certified lc snap → z.snap ≡ snap → Owns e.view n z → Owns e.view i y → p.tx.seq ≡ i + 1 → q.key ≡ p.key → In q d.view.versions
      → (v : Write) × (In v x.writes) × (local_version here n lc v ≡ p) → Around here e.view i y p.ts.0 q
  certified_own c zs there own s key jq r =
      let met = cert_met here d.view x.snap snap x.writes lc c q r.0 jq r.1 (key ∙ ap (λ (v : Version). v.key) (sym r.2)) in
      let is : i ≡ n = omega (arith, s, ap (λ (v : Version). v.tx.seq) r.2) in
      let same : y.snap ≡ snap = ap (λ (v : Own). v.snap) (same_own e.view i n y z own there is) ∙ zs in
      let below : q.ts.0 ≤ y.snap.rs = omega (arith, met.below, cert_rs here d.view x.snap snap x.writes lc c, ap (λ (v : Snap). v.rs) same) in
      by_kind q.kind refl met.not_pre (λ l. final_below l below)
      (λ l. let b = h.base.locals q jq l in local_below l below (subst (λ (v : Snap). Names q.tx.seq v.deps) (sym same) (met.named l b.owner (owner_there q b))))

  certified_other : cert_turn here d.view x.snap x.writes ≡ Certified lc snap → z.snap ≡ snap → Owns e.view n z → p.kind ≡ LocalKind → p.tx.seq ≡ i + 1 → q.key ≡ p.key → In p d.view.versions
      → (v : Write) × (In v x.writes) × (local_version here n lc v ≡ q) → Around here e.view i y p.ts.0 q
  certified_other c zs there k s key jp r =
      let met = cert_met here d.view x.snap snap x.writes lc c p r.0 jp r.1 (sym key ∙ ap (λ (v : Version). v.key) (sym r.2)) in
      let b = h.base.locals p jp k in
      local_above n z (ap (λ (v : Version). v.kind) (sym r.2)) (ap (λ (v : Version). v.tx.seq) (sym r.2)) there
      (omega (arith, met.below, cert_rs here d.view x.snap snap x.writes lc c, ap (λ (v : Snap). v.rs) zs))
      (subst (λ m. Names m z.snap.deps) s (subst (λ (v : Snap). Names p.tx.seq v.deps) (sym zs) (met.named k b.owner (owner_there p b))))

around-act : (here : Here) (input : Input) (w : Where) (d e : Doing) → Act here input w d e → Stand here d.view → EachAround here e.view (Around here e.view)
unfolding begun marked aborted committed closed certified asked acked requested accepted taken refused waits replied commit_came abort_came
around-act here input w d e (act_begin place rs d' r g) h i y p q own hp k s hq key ne = old_around here input w d' e (act_begin place rs d' r g) h i y p q own hp hp k s hq hq key ne
around-act here input w d e (act_mark g t d' rd) h i y p q own hp k s hq key ne = old_around here input w d' e (act_mark g t d' rd) h i y p q own hp hp k s hq hq key ne
around-act here input w d e (act_put n x z d' o g) h i y p q own hp k s hq key ne = old_around here input w d' e (act_put n x z d' o g) h i y p q own hp hp k s hq hq key ne
around-act here input w d e (act_request n g m x d' o r) h i y p q own hp k s hq key ne = old_around here input w d' e (act_request n g m x d' o r) h i y p q own hp hp k s hq hq key ne
around-act here input w d e (act_ask n lc t x d' o f l g) h i y p q own hp k s hq key ne = old_around here input w d' e (act_ask n lc t x d' o f l g) h i y p q own hp hp k s hq hq key ne
around-act here input w d e (act_ack n lc from t c ts parts x d' o f r g) h i y p q own hp k s hq key ne =
    old_around here input w d' e (act_ack n lc from t c ts parts x d' o f r g) h i y p q own hp hp k s hq hq key ne
around-act here input w d e (act_close n x d' o c m) h i y p q own hp k s hq key ne = old_around here input w d' e (act_close n x d' o c m) h i y p q own hp hp k s hq hq key ne
around-act here input w d e (act_refuse a u g d' r m) h i y p q own hp k s hq key ne = old_around here input w d' e (act_refuse a u g d' r m) h i y p q own hp hp k s hq hq key ne
around-act here input w d e (act_wait r d' g) h i y p q own hp k s hq key ne = old_around here input w d' e (act_wait r d' g) h i y p q own hp hp k s hq hq key ne
around-act here input w d e (act_unwait kept rest r d' g) h i y p q own hp k s hq key ne = old_around here input w d' e (act_unwait kept rest r d' g) h i y p q own hp hp k s hq hq key ne
around-act here input w d e (act_reply t g rs v u fc d' r) h i y p q own hp k s hq key ne = old_around here input w d' e (act_reply t g rs v u fc d' r) h i y p q own hp hp k s hq hq key ne
around-act here input w d e (act_abort n cause x d' o f r) h i y p q own hp k s hq key ne =
    old_around here input w d' e (act_abort n cause x d' o f r) h i y p q own (in_without (of_tx (name_of here n)) d'.view.versions p hp) hp k s (in_without (of_tx (name_of here n)) d'.view.versions q hq) hq key ne
around-act here input w d e (act_abort_came from t c d' r g) h i y p q own hp k s hq key ne =
    old_around here input w d' e (act_abort_came from t c d' r g) h i y p q own (in_without (of_pair t c) d'.view.versions p hp) hp k s (in_without (of_pair t c) d'.view.versions q hq) hq key ne
around-act here input w d e (act_accept a ts d' g m) h i y p q own hp k s hq key ne =
    let old : In p d'.view.versions = placed_old here input w a ts d' p hp k in
    elim (in_insert_all (map (pre_version a ts) a.writes) d'.view.versions q hq) [
      | inl j ↦ absurd (accept_apart here input w a ts d' p q m old k j key)
      | inr j ↦ old_around here input w d' e (act_accept a ts d' g m) h i y p q own old hp k s j hq key ne
    ]
around-act here input w d e (act_take from a d' c l) h i y p q own hp k s hq key ne =
    let old : In p d'.view.versions = placed_old here input w a (proposed d'.view a) d' p hp k in
    elim (in_insert_all (map (pre_version a (proposed d'.view a)) a.writes) d'.view.versions q hq) [
      | inl j ↦ absurd (take_apart here input w a (proposed d'.view a) i d' p q l (h.base.locals p old k) s old k j key)
      | inr j ↦ old_around here input w d' e (act_take from a d' c l) h i y p q own old hp k s j hq key ne
    ]
around-act here input w d e (act_commit_came from t c fc ms d' r g) h i y p q own hp k s hq key ne =
    let old : In p d'.view.versions = final_old here input w t c fc.0 d' p hp k in
    let o = h.base.locals p old k in
    elim (in_insert_all (map (settled fc.0) (filter (of_pair t c) d'.view.versions)) (without (of_pair t c) d'.view.versions) q hq) [
      | inl j ↦ (let r = in_map (settled fc.0) (filter (of_pair t c) d'.view.versions) q j in
          let u = in_filter (of_pair t c) d'.view.versions r.0 r.1 in
          absurd (came_apart here input w t c d' h o.place o.owner p r.0 g o.owns old k o.seq u.0 u.1 (ap (λ (z : Version). z.key) r.2 ∙ key) (λ z. ne (ap (λ (z : Version). z.tx) (sym r.2) ∙ z))))
      | inr j ↦ old_around here input w d' e (act_commit_came from t c fc ms d' r g) h i y p q own old hp k s (in_without (of_pair t c) d'.view.versions q j) hq key ne
    ]
around-act here input w d e (act_commit n lc fc x d' o l none le f g) h i y p q own hp k s hq key ne =
    let act : Act here input w d' e = act_commit n lc fc x d' o l none le f g in
    let old : In p d'.view.versions = in_without (of_tx (name_of here n)) d'.view.versions p (decided_old here input w n fc d' p hp k) in
    let z = h.base.locals p old k in
    let at : Owns d'.view i z.owner = subst (λ m. Owns d'.view m z.owner) (omega (arith, s, z.seq)) z.owns in
    elim (in_insert_all (map (settled fc) (filter (is_hosted_of here (name_of here n)) d'.view.versions)) (without (of_tx (name_of here n)) d'.view.versions) q hq) [
      | inl j ↦ (let r = in_map (settled fc) (filter (is_hosted_of here (name_of here n)) d'.view.versions) q j in
          let u = in_filter (is_hosted_of here (name_of here n)) d'.view.versions r.0 r.1 in
          commit_around here input w n lc fc x d' e o.0 f none refl h i z.owner y p r.0 q at own (owner_at here e.view p ((depends-act here input w d' e act h.base).locals p hp k) i y own s).0
          (hosted_name here (name_of here n) r.0 u.1) r.2 u.0
          (h.around i z.owner p r.0 at old k s u.0 (ap (λ (v : Version). v.key) r.2 ∙ key) (λ c. ne (ap (λ (v : Version). v.tx) (sym r.2) ∙ c))))
      | inr j ↦ old_around here input w d' e act h i y p q own old hp k s (in_without (of_tx (name_of here n)) d'.view.versions q j) hq key ne
    ]
around-act here input w d e (act_certify n lc snap x d' o f none c) h i y p q own hp k s hq key ne =
    elim (in_insert_all (map (local_version here n lc) x.writes) d'.view.versions p hp) [
      | inl jp ↦ (elim (in_insert_all (map (local_version here n lc) x.writes) d'.view.versions q hq) [
        | inl jq ↦ absurd (ne (ap (λ (v : Version). v.tx) (sym (in_map (local_version here n lc) x.writes q jq).2) ∙ ap (λ (v : Version). v.tx) (in_map (local_version here n lc) x.writes p jp).2))
        | inr jq ↦ certified_own here d' e h n lc i snap x (record x { snap = snap; parts = participants here.scene here.node x.writes; phase = Local lc }) y p q c refl
            (get_set d'.view.own n x (record x { snap = snap; parts = participants here.scene here.node x.writes; phase = Local lc }) o.0) own s key jq (in_map (local_version here n lc) x.writes p jp)
      ])
      | inr jp ↦ (elim (in_insert_all (map (local_version here n lc) x.writes) d'.view.versions q hq) [
        | inl jq ↦ certified_other here d' e h n lc i snap x (record x { snap = snap; parts = participants here.scene here.node x.writes; phase = Local lc }) y p q c refl
            (get_set d'.view.own n x (record x { snap = snap; parts = participants here.scene here.node x.writes; phase = Local lc }) o.0) k s key jp (in_map (local_version here n lc) x.writes q jq)
        | inr jq ↦ old_around here input w d' e (act_certify n lc snap x d' o f none c) h i y p q own jp hp k s jq hq key ne
      ])
    ]

-- neither is new
pre_old : (ts fc : ℕ) (ps : List Version) (test : Version → Bool) (vs : List Version) (q : Version) → In q (insert_all (map (settled fc) ps) (without test vs)) → q.kind ≡ Pre → In q vs
pre_old ts fc ps test vs q hq l =
    elim (in_insert_all (map (settled fc) ps) (without test vs) q hq) [
      | inl j ↦ (let r = in_map (settled fc) ps q j in absurd (cc (ap (λ (z : Version). z.kind) r.2, l)))
      | inr j ↦ in_without test vs q j
    ]

apart-act : (here : Here) (input : Input) (w : Where) (d e : Doing) → Act here input w d e → Stand here d.view → PresApart e.view
unfolding begun marked aborted committed closed certified asked acked requested accepted taken refused waits replied commit_came abort_came
apart-act here input w d e (act_begin place rs d' r g) h p q hp k hq l key = h.apart p q hp k hq l key
apart-act here input w d e (act_mark g t d' rd) h p q hp k hq l key = h.apart p q hp k hq l key
apart-act here input w d e (act_put n x z d' o g) h p q hp k hq l key = h.apart p q hp k hq l key
apart-act here input w d e (act_request n g m x d' o r) h p q hp k hq l key = h.apart p q hp k hq l key
apart-act here input w d e (act_ask n lc t x d' o f c g) h p q hp k hq l key = h.apart p q hp k hq l key
apart-act here input w d e (act_ack n lc from t c ts parts x d' o f r g) h p q hp k hq l key = h.apart p q hp k hq l key
apart-act here input w d e (act_close n x d' o c m) h p q hp k hq l key = h.apart p q hp k hq l key
apart-act here input w d e (act_refuse a u g d' r m) h p q hp k hq l key = h.apart p q hp k hq l key
apart-act here input w d e (act_wait r d' g) h p q hp k hq l key = h.apart p q hp k hq l key
apart-act here input w d e (act_unwait kept rest r d' g) h p q hp k hq l key = h.apart p q hp k hq l key
apart-act here input w d e (act_reply t g rs v u fc d' r) h p q hp k hq l key = h.apart p q hp k hq l key
apart-act here input w d e (act_abort n cause x d' o f r) h p q hp k hq l key =
    h.apart p q (in_without (of_tx (name_of here n)) d'.view.versions p hp) k (in_without (of_tx (name_of here n)) d'.view.versions q hq) l key
apart-act here input w d e (act_abort_came from t c d' r g) h p q hp k hq l key =
    h.apart p q (in_without (of_pair t c) d'.view.versions p hp) k (in_without (of_pair t c) d'.view.versions q hq) l key
apart-act here input w d e (act_commit n lc fc x d' o c none le f g) h p q hp k hq l key =
    h.apart p q (in_without (of_tx (name_of here n)) d'.view.versions p (decided_old here input w n fc d' p hp k)) k
    (pre_old lc fc (filter (is_hosted_of here (name_of here n)) d'.view.versions) (of_tx (name_of here n)) d'.view.versions q hq l) l key
apart-act here input w d e (act_commit_came from t c fc ms d' r g) h p q hp k hq l key =
    h.apart p q (final_old here input w t c fc.0 d' p hp k) k (pre_old fc.0 fc.0 (filter (of_pair t c) d'.view.versions) (of_pair t c) d'.view.versions q hq l) l key
apart-act here input w d e (act_accept a ts d' g m) h p q hp k hq l key =
    let old : In p d'.view.versions = placed_old here input w a ts d' p hp k in
    elim (in_insert_all (map (pre_version a ts) a.writes) d'.view.versions q hq) [ inl j ↦ accept_apart here input w a ts d' p q m old k j key | inr j ↦ h.apart p q old k j l key ]
apart-act here input w d e (act_take from a d' c t) h p q hp k hq l key =
    let old : In p d'.view.versions = placed_old here input w a (proposed d'.view a) d' p hp k in
    let o = h.base.locals p old k in
    elim (in_insert_all (map (pre_version a (proposed d'.view a)) a.writes) d'.view.versions q hq) [
      | inl j ↦ take_apart here input w a (proposed d'.view a) o.place d' p q t o o.seq old k j key
      | inr j ↦ h.apart p q old k j l key
    ]
apart-act here input w d e (act_certify n lc snap x d' o f none c) h p q hp k hq l key =
    elim (in_insert_all (map (local_version here n lc) x.writes) d'.view.versions q hq) [
      | inl jq ↦ (let r = in_map (local_version here n lc) x.writes q jq in cc (ap (λ (z : Version). z.kind) r.2, l))
      | inr jq ↦ (elim (in_insert_all (map (local_version here n lc) x.writes) d'.view.versions p hp) [
        | inl jp ↦ (let r = in_map (local_version here n lc) x.writes p jp in
            let met = cert_met here d'.view x.snap snap x.writes lc c q r.0 jq r.1 (key ∙ ap (λ (v : Version). v.key) (sym r.2)) in
            let t : is_pre q.kind ≡ true = ap is_pre l in
            cc (sym t ∙ met.not_pre))
        | inr jp ↦ h.apart p q jp k jq l key
      ])
    ]

-- at each change
pub stand-act : (here : Here) (input : Input) (w : Where) (d e : Doing) → Act here input w d e → Stand here d.view → Stand here e.view
stand-act here input w d e act h =
    record { base = depends-act here input w d e act h.base; finals = finals-act here input w d e act h; around = around-act here input w d e act h; apart = apart-act here input w d e act h }
