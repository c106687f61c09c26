-- Of two transactions that wrote one key: which is before the other, as it is known in the midst of a step too; and that each change keeps it.
use Rattle.std.proofs.Common.{Some, add-sub_cancel, ap, arith, inl, inr, slice_get, slice_set, subst, sym, ℕ, ◌+◌, ◌-◌, ◌∙◌, ◌≡◌, ◌≤◌}
use Rattle.si_laws.proofs.Sources.FinalsReported.{CommittedIn, Reported, lift_c, reported-act}
use Rattle.spsi_laws.proofs.Pairs.CertifiedLast.{Lasts, fates_on, lasts_act}
use Rattle.str_base.specs.declared.names.TxId.{TxId}
use Rattle.str_base.specs.declared.names.Write.{Write}
use Rattle.str_model.proofs.Principle.SingleChanges.{Act, Path, Where, along}
use Rattle.str_model.proofs.Principle.Everywhere.{IsSeen, Stage, at_place, during}
use Rattle.str_model.proofs.Changes.SnapshotsGain.{Names}
use Rattle.str_model.specs.Owned.{Owns}
use Rattle.str_model.specs.Turns.{CommittedAt, own_fate}
use Rattle.str_model.specs.Views.{Doing, Own, View, lc_of, name_of}
use Rattle.str_model.specs.declared.messages.Input.{Input}
use Rattle.str_scene.specs.Scenes.{Scene}
use Rattle.str_base.proofs.Lists.{get_set, get_set_other, got_set}
use Rattle.str_base.specs.Members.{In}

-- both wrote a key
abbrev pub Shares : Own → Own → Type 0
Shares x y = (a : Write) × (b : Write) × In a x.writes × In b y.writes × (a.key ≡ b.key)

-- Of two own transactions a and b: they are one, or one of them depends on the other, or has committed at or below the other's snapshot. Why: while
-- both have Local versions of a key one depends on the other, and a dependency leaves only by such a commit.
pub data Tied (v : View) (a : ℕ) (x : Own) (b : ℕ) (y : Own) : Type 0 where
  same_one : a ≡ b → Tied v a x b y
  under : Names (a + 1) y.snap.deps → Tied v a x b y
  over : Names (b + 1) x.snap.deps → Tied v a x b y
  first : (fc : ℕ) → own_fate (slice_get v.own a) ≡ CommittedAt fc → fc ≤ y.snap.rs → Tied v a x b y
  last : (fc : ℕ) → own_fate (slice_get v.own b) ≡ CommittedAt fc → fc ≤ x.snap.rs → Tied v a x b y

-- of t and the b-th transaction of the n-th node: t has committed at or below that one's snapshot, or both are of the node and tied where they wrote one key
pub data Ordered (scene : Scene) (s : Stage) (n : ℕ) (t : TxId) (b : ℕ) : Type 0 where
  is_first : (fc lc : ℕ) (v : View) (y : Own) → CommittedIn s t fc → slice_get s.nodes n ≡ Some v → Owns v b y → lc_of y.phase ≡ Some lc → fc ≤ y.snap.rs → Ordered scene s n t b
  are_tied : (v : View) (a la lb : ℕ) (x y : Own) → slice_get s.nodes n ≡ Some v → Owns v a x → Owns v b y → t ≡ name_of (at_place scene n) a → lc_of x.phase ≡ Some la → lc_of y.phase ≡ Some lb
      → (Shares x y → Tied v a x b y) → Ordered scene s n t b

fate_at : (v : View) (a fc : ℕ) → own_fate (slice_get v.own (a + 1 - 1)) ≡ CommittedAt fc → own_fate (slice_get v.own a) ≡ CommittedAt fc
fate_at v a fc f = ap (λ k. own_fate (slice_get v.own k)) (sym (add-sub_cancel a 1)) ∙ f

tied_on : (d e : View) (a la b lb : ℕ) (x y : Own) (lx : Lasts e a la x) (ly : Lasts e b lb y) → ((k fc : ℕ) → own_fate (slice_get d.own k) ≡ CommittedAt fc → own_fate (slice_get e.own k) ≡ CommittedAt fc)
    → Tied d a x b y → Tied e a lx.y b ly.y
tied_on d e a la b lb x y lx ly fates (same_one q) = same_one q
tied_on d e a la b lb x y lx ly fates (under n) = elim (ly.deps (a + 1) n) [ inl m ↦ under m | inr z ↦ first z.0 (fate_at e a z.0 z.1) (omega (arith, z.2, ly.rs)) ]
tied_on d e a la b lb x y lx ly fates (over n) = elim (lx.deps (b + 1) n) [ inl m ↦ over m | inr z ↦ last z.0 (fate_at e b z.0 z.1) (omega (arith, z.2, lx.rs)) ]
tied_on d e a la b lb x y lx ly fates (first fc f le) = first fc (fates a fc f) (omega (arith, le, ly.rs))
tied_on d e a la b lb x y lx ly fates (last fc f le) = last fc (fates b fc f) (omega (arith, le, lx.rs))

shares_back : (e : View) (a la b lb : ℕ) (x y : Own) (lx : Lasts e a la x) (ly : Lasts e b lb y) → Shares lx.y ly.y → Shares x y
shares_back e a la b lb x y lx ly h = (h.0, h.1, subst (In h.0) lx.writes h.2, subst (In h.1) ly.writes h.3, h.4)

module _ (scene : Scene) (s : Stage) (i : ℕ) (v : View) (input : Input) (is : slice_get s.nodes i ≡ Some v) (seen : IsSeen s input) (w : Where) where
  pub ordered_act : (d e : Doing) → Act (at_place scene i) input w d e → Reported scene (during s i d) → (n : ℕ) (t : TxId) (b : ℕ) → Ordered scene (during s i d) n t b → Ordered scene (during s i e) n t b
  ordered_act d e act kept n t b (is_first fc lc u y c there own l le) = elim (got_set s.nodes i n d.view u there) [
    | inl p ↦ (let r = lasts_act (at_place scene i) input w d e act b lc y (subst (λ (z : View). Owns z b y) p.1 own) l in
        is_first fc lc e.view r.y (lift_c scene s i v input is seen d e w act kept t fc c) (subst (λ (k : ℕ). slice_get (slice_set s.nodes i e.view) k ≡ Some e.view) (sym p.0) (get_set s.nodes i v e.view is)) r.own r.lc_is
        (omega (arith, le, r.rs)))
    | inr q ↦ is_first fc lc u y (lift_c scene s i v input is seen d e w act kept t fc c) (get_set_other s.nodes i n e.view q.0 ∙ q.1) own l le
  ]
  ordered_act d e act kept n t b (are_tied u a la lb x y there ox oy name lx ly f) = elim (got_set s.nodes i n d.view u there) [
    | inl p ↦ (let rx = lasts_act (at_place scene i) input w d e act a la x (subst (λ (z : View). Owns z a x) p.1 ox) lx in
        let ry = lasts_act (at_place scene i) input w d e act b lb y (subst (λ (z : View). Owns z b y) p.1 oy) ly in
        are_tied e.view a la lb rx.y ry.y (subst (λ (k : ℕ). slice_get (slice_set s.nodes i e.view) k ≡ Some e.view) (sym p.0) (get_set s.nodes i v e.view is)) rx.own ry.own name rx.lc_is ry.lc_is
        (λ h. tied_on d.view e.view a la b lb x y rx ry (fates_on (at_place scene i) input w d e act) (subst (λ (z : View). Tied z a x b y) p.1 (f (shares_back e.view a la b lb x y rx ry h)))))
    | inr q ↦ are_tied u a la lb x y (get_set_other s.nodes i n e.view q.0 ∙ q.1) ox oy name lx ly f
  ]

  pub ordered_path : (d e : Doing) → Path (at_place scene i) input w d e → Reported scene (during s i d) → (n : ℕ) (t : TxId) (b : ℕ) → Ordered scene (during s i d) n t b → Ordered scene (during s i e) n t b
  ordered_path d e p kept n t b h =
      (along (at_place scene i) input w (λ z. Reported scene (during s i z) × Ordered scene (during s i z) n t b)
      (λ f g act k. (reported-act scene s i v input is seen f g w act k.0, ordered_act f g act k.0 n t b k.1)) d e p (kept, h)).1
