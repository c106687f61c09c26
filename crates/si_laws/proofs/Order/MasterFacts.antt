-- The order of versions at a master, over every run.
use Rattle.si_laws.proofs.Dependencies.AroundLocal.{Stand}
use Rattle.str_model.proofs.Changes.PairWords.{same_pair}
use Rattle.si_laws.proofs.Stages.LinkedStates.{AreWrites, IsCertified, Linked, certified_stays}
use Rattle.si_laws.proofs.Stages.LinksKept.{placed_foreign, placed_unknown, placed_writes}
use Rattle.str_model.proofs.Changes.MasterChanges.{AreDistinct, VersionAct, comes_distinct, one_write, va_accept, va_came, va_commit, va_fewer, va_locals, va_take, version_act}
use Rattle.str_model.proofs.Changes.VersionChanges.{Placed, by_master, by_slave}
use Rattle.str_model.proofs.Principle.SingleChanges.{Act, Where, it_comes, it_waits}
use Rattle.str_model.proofs.Principle.Everywhere.{IsSeen, Stage, at_place, during}
use Rattle.std.proofs.Common.{List, Some, ap, inl, inr, refl, slice_get, slice_set, subst, sym, true, ℕ, ◌+◌, ◌∙◌, ◌∷◌, ◌≡◌, ◌≢◌, ◌≤◌, ◌⊎◌}
use Rattle.str_base.specs.Versions.{settled}
use Rattle.str_base.specs.declared.names.Kind.TheVariants.{Final, Local as LocalKind, Pre}
use Rattle.str_base.specs.declared.names.Kind.{Kind}
use Rattle.str_base.specs.declared.names.PartId.{PartId}
use Rattle.str_base.specs.declared.names.TxId.{TxId}
use Rattle.str_base.specs.declared.names.Version.{Version}
use Rattle.str_base.specs.declared.names.Write.{Write}
use Rattle.str_model.specs.Acts.{pre_version}
use Rattle.str_model.specs.Views.{Doing, View}
use Rattle.str_model.specs.declared.messages.Arrived.{Arrived}
use Rattle.str_model.specs.declared.messages.Body.TheVariants.{Prepare, Replicate}
use Rattle.str_model.specs.declared.messages.Input.{Input}
use Rattle.str_model.specs.declared.messages.Waiter.TheVariants.{Held}
use Rattle.str_scene.specs.Scenes.{Scene, in_part, is_master, part_of}
use Rattle.str_base.proofs.SameNames.{same_part-is}
use Rattle.str_base.proofs.Lists.{get_set}
use Rattle.str_base.proofs.Members.{in_filter, in_right}
use Rattle.str_base.specs.Members.{In}

-- q is final at or below the snapshot of r's transaction
pub record IsBefore (scene : Scene) (s : Stage) (q r : Version) : Type 0 where
  pub final : q.kind ≡ Final
  pub rs : ℕ
  pub lc : ℕ
  pub ws : List Write
  pub certified : IsCertified scene s r.tx rs lc ws
  pub below : q.ts.0 ≤ rs

-- at each state: of two versions at the key's master that are not Local one is before the other. Besides: Pre versions are of other
-- nodes' transactions and one for each key, a version lies in its key's partition, and a parked Prepare has each key once, which all are
-- needed where a Prepare is accepted
pub record Masters (scene : Scene) (s : Stage) : Type 0 where
  pub order : (n : ℕ) (v : View) → slice_get s.nodes n ≡ Some v → (q r : Version) → In q v.versions → In r v.versions → q.key ≡ r.key → is_master scene (record { 0 = n + 1 }) q.part ≡ true
      → q.tx ≢ r.tx → q.kind ≢ LocalKind → r.kind ≢ LocalKind → IsBefore scene s q r ⊎ IsBefore scene s r q
  pub one : (n : ℕ) (v : View) → slice_get s.nodes n ≡ Some v → (q r : Version) → In q v.versions → In r v.versions → q.kind ≡ Pre → r.kind ≡ Pre → q.tx ≡ r.tx → q.key ≡ r.key → q ≡ r
  pub parts : (n : ℕ) (v : View) → slice_get s.nodes n ≡ Some v → (q : Version) → In q v.versions → q.part ≡ part_of scene q.key
  pub foreign : (n : ℕ) (v : View) → slice_get s.nodes n ≡ Some v → (q : Version) → In q v.versions → q.kind ≡ Pre → q.tx.node.0 ≢ n + 1
  pub distinct : (n : ℕ) (v : View) → slice_get s.nodes n ≡ Some v → (a : Arrived) → In (Held a) v.waiters → AreDistinct a.writes

-- a version is Pre, Local or Final
pub by_kind : {P : Type 0} (k : Kind) → (k ≡ Pre → P) → (k ≡ LocalKind → P) → (k ≡ Final → P) → P
by_kind Pre a b c = a refl
by_kind LocalKind a b c = b refl
by_kind Final a b c = c refl

module _ (scene : Scene) (s : Stage) (i : ℕ) (v : View) (input : Input) (w : Where) (d e : Doing) (is : slice_get s.nodes i ≡ Some v) (seen : IsSeen s input) (act : Act (at_place scene i) input w d e)
    (h : Linked scene (during s i d)) (st : Stand (at_place scene i) d.view) (m : Masters scene (during s i d)) where
  pub at_d : slice_get (slice_set s.nodes i d.view) i ≡ Some d.view
  at_d = get_set s.nodes i v d.view is

  pub before_stays : (q r : Version) → IsBefore scene (during s i d) q r → IsBefore scene (during s i e) q r
  before_stays q r b =
      record { final = b.final; rs = b.rs; lc = b.lc; ws = b.ws; certified = certified_stays scene s i v input w d e is act r.tx b.rs b.lc b.ws b.certified; below = b.below }

  pub either_stays : (q r : Version) → IsBefore scene (during s i d) q r ⊎ IsBefore scene (during s i d) r q → IsBefore scene (during s i e) q r ⊎ IsBefore scene (during s i e) r q
  either_stays q r (inl b) = inl (before_stays q r b)
  either_stays q r (inr b) = inr (before_stays r q b)

  -- what is placed
  pub writes_of : (a : Arrived) → Placed (at_place scene i) input d a → AreWrites scene (during s i d) a.tx a.part a.rs.0 a.lc.0 a.writes
  writes_of a k = (placed_writes scene s i v input w d e is seen act h a k).0

  part_of_write : (a : Arrived) → Placed (at_place scene i) input d a → (x : Write) → In x a.writes → a.part ≡ part_of scene x.key
  part_of_write a k x j =
      let ws = writes_of a k in
      let f = in_filter (in_part scene a.part) ws.0 x (subst (λ (zs : List Write). In x zs) ws.2 j) in sym (same_part-is (part_of scene x.key) a.part f.1)

  distinct_of : (a : Arrived) → Placed (at_place scene i) input d a → AreDistinct a.writes
  distinct_of a (by_master (it_comes from c u z o)) = comes_distinct (at_place scene i) input from a (Prepare a.tx a.part a.rs a.lc a.writes) c refl
  distinct_of a (by_master (it_waits kept rest q)) = m.distinct i d.view at_d a (subst (In (Held a)) (sym q) (in_right kept (Held a ∷ rest) (Held a) (inl refl)))
  distinct_of a (by_slave from c t) = comes_distinct (at_place scene i) input from a (Replicate a.tx a.part a.rs a.lc a.writes) c refl

  -- no version of what is placed stood before
  none_before : (a : Arrived) → Placed (at_place scene i) input d a → (x : Write) → In x a.writes → (r : Version) → In r d.view.versions → r.tx ≡ a.tx → r.key ≡ x.key → ⊥
  none_before a k x j r o t key =
      let part : r.part ≡ a.part = m.parts i d.view at_d r o ∙ (ap (part_of scene) key ∙ sym (part_of_write a k x j)) in
      placed_unknown scene s i v input w d e is seen act h a k (inr (r, o, same_pair r.tx a.tx r.part a.part (record { node = ap (λ (z : TxId). z.node.0) t; seq = ap (λ (z : TxId). z.seq) t; part = ap (λ (z : PartId). z.0) part })))

  -- ---- parts and names

  pub parts_e : (q : Version) → In q e.view.versions → q.part ≡ part_of scene q.key
  parts_e q k = by_act (version_act (at_place scene i) input w d e act)
    where
      old : In q d.view.versions → q.part ≡ part_of scene q.key
      old j = m.parts i d.view at_d q j

      pre_part : (a : Arrived) (ts : ℕ) → Placed (at_place scene i) input d a → (x : Write) × In x a.writes × (q ≡ pre_version a ts x) → q.part ≡ part_of scene q.key
      pre_part a ts p r = subst (λ (z : Version). z.part ≡ part_of scene z.key) (sym r.2) (part_of_write a p r.0 r.1)

      settled_part : (fc : ℕ) (p : Version) → In p d.view.versions → q ≡ settled fc p → q.part ≡ part_of scene q.key
      settled_part fc p j r = subst (λ (z : Version). z.part ≡ part_of scene z.key) (sym r) (m.parts i d.view at_d p j)

      by_act : VersionAct (at_place scene i) input d e → q.part ≡ part_of scene q.key
      by_act (va_fewer f) = old (f q k)
      by_act (va_locals j lc x f) = elim (f q k) [ inl o ↦ old o | inr r ↦ subst (λ (z : Version). z.part ≡ part_of scene z.key) (sym r.2) refl ]
      by_act (va_accept a ts g t f) = elim (f q k) [ inl o ↦ old o | inr r ↦ pre_part a ts (by_master g) r ]
      by_act (va_take from a ts c t f) = elim (f q k) [ inl o ↦ old o | inr r ↦ pre_part a ts (by_slave from c t) r ]
      by_act (va_commit j lc fc x own o l n f) = elim (f q k) [ inl o ↦ old o | inr r ↦ settled_part fc r.0 r.1 r.3 ]
      by_act (va_came from t p fc ms c g f) = elim (f q k) [ inl o ↦ old o | inr r ↦ settled_part fc.0 r.0 r.1 r.3 ]

  pub foreign_e : (q : Version) → In q e.view.versions → q.kind ≡ Pre → q.tx.node.0 ≢ i + 1
  foreign_e q k pre = by_act (version_act (at_place scene i) input w d e act)
    where
      old : In q d.view.versions → q.tx.node.0 ≢ i + 1
      old j = m.foreign i d.view at_d q j pre

      placed_far : (a : Arrived) (ts : ℕ) → Placed (at_place scene i) input d a → (x : Write) × In x a.writes × (q ≡ pre_version a ts x) → q.tx.node.0 ≢ i + 1
      placed_far a ts p r = subst (λ (z : Version). z.tx.node.0 ≢ i + 1) (sym r.2) (placed_foreign scene s i v input w d e is seen act h a p)

      by_act : VersionAct (at_place scene i) input d e → q.tx.node.0 ≢ i + 1
      by_act (va_fewer f) = old (f q k)
      by_act (va_locals j lc x f) = elim (f q k) [ inl o ↦ old o | inr r ↦ absurd (cc (ap (λ (z : Version). z.kind) r.2, pre)) ]
      by_act (va_accept a ts g t f) = elim (f q k) [ inl o ↦ old o | inr r ↦ placed_far a ts (by_master g) r ]
      by_act (va_take from a ts c t f) = elim (f q k) [ inl o ↦ old o | inr r ↦ placed_far a ts (by_slave from c t) r ]
      by_act (va_commit j lc fc x own o l n f) = elim (f q k) [ inl o ↦ old o | inr r ↦ absurd (cc (ap (λ (z : Version). z.kind) r.3, pre)) ]
      by_act (va_came from t p fc ms c g f) = elim (f q k) [ inl o ↦ old o | inr r ↦ absurd (cc (ap (λ (z : Version). z.kind) r.3, pre)) ]

  -- ---- one Pre version of a transaction and a key

  pub one_e : (q r : Version) → In q e.view.versions → In r e.view.versions → q.kind ≡ Pre → r.kind ≡ Pre → q.tx ≡ r.tx → q.key ≡ r.key → q ≡ r
  one_e q r hq hr kq kr tx key = by_act (version_act (at_place scene i) input w d e act)
    where
      old : In q d.view.versions → In r d.view.versions → q ≡ r
      old a b = m.one i d.view at_d q r a b kq kr tx key

      by_both : (a : Arrived) (ts : ℕ) → Placed (at_place scene i) input d a → In q d.view.versions ⊎ ((x : Write) × In x a.writes × (q ≡ pre_version a ts x))
          → In r d.view.versions ⊎ ((x : Write) × In x a.writes × (r ≡ pre_version a ts x)) → q ≡ r
      by_both a ts p (inl x) (inl y) = old x y
      by_both a ts p (inl x) (inr y) = absurd (none_before a p y.0 y.1 q x (tx ∙ ap (λ (z : Version). z.tx) y.2) (key ∙ ap (λ (z : Version). z.key) y.2))
      by_both a ts p (inr x) (inl y) = absurd (none_before a p x.0 x.1 r y (sym tx ∙ ap (λ (z : Version). z.tx) x.2) (sym key ∙ ap (λ (z : Version). z.key) x.2))
      by_both a ts p (inr x) (inr y) =
          let same : x.0 ≡ y.0 = one_write a.writes (distinct_of a p) x.0 y.0 x.1 y.1 (sym (ap (λ (z : Version). z.key) x.2) ∙ (key ∙ ap (λ (z : Version). z.key) y.2)) in
          x.2 ∙ (ap (pre_version a ts) same ∙ sym y.2)

      by_act : VersionAct (at_place scene i) input d e → q ≡ r
      by_act (va_fewer f) = old (f q hq) (f r hr)
      by_act (va_locals j lc x f) = elim (f q hq) [
        | inl a ↦ (elim (f r hr) [ inl b ↦ old a b | inr b ↦ absurd (cc (ap (λ (z : Version). z.kind) b.2, kr)) ])
        | inr a ↦ absurd (cc (ap (λ (z : Version). z.kind) a.2, kq))
      ]
      by_act (va_accept a ts g t f) = by_both a ts (by_master g) (f q hq) (f r hr)
      by_act (va_take from a ts c t f) = by_both a ts (by_slave from c t) (f q hq) (f r hr)
      by_act (va_commit j lc fc x own o l n f) = elim (f q hq) [
        | inl a ↦ (elim (f r hr) [ inl b ↦ old a b | inr b ↦ absurd (cc (ap (λ (z : Version). z.kind) b.3, kr)) ])
        | inr a ↦ absurd (cc (ap (λ (z : Version). z.kind) a.3, kq))
      ]
      by_act (va_came from t p fc ms c g f) = elim (f q hq) [
        | inl a ↦ (elim (f r hr) [ inl b ↦ old a b | inr b ↦ absurd (cc (ap (λ (z : Version). z.kind) b.3, kr)) ])
        | inr a ↦ absurd (cc (ap (λ (z : Version). z.kind) a.3, kq))
      ]
