-- A guarded read is the newest: no commit of its key is final between its writer and the snapshot.
use Rattle.si_laws.proofs.Order.CertifiedVersions.{ArrivedAs, IsOf, a_final, a_pre, committed_stands}
use Rattle.si_laws.proofs.Guards.ReadGuards.{Clear, Under}
use Rattle.si_laws.proofs.Guards.GuardGrounds.{Committer, Grounds, committed_write, committer}
use Rattle.si_laws.proofs.Guards.GuardsKept.{MarkSent, ReadGuard, fg_none, fg_some, rg_final, rg_gone, rg_open, rg_sent}
use Rattle.si_laws.proofs.Stages.LinkedStates.{IsCertified, one_certified, one_of}
use Rattle.si_laws.proofs.Order.MasterFacts.{IsBefore}
use Rattle.si_laws.proofs.Guards.VersionOrigins.{HasWritten}
use Rattle.str_model.proofs.OwnFacts.LocalOwners.{open-fate}
use Rattle.si_laws.proofs.Sources.FinalsReported.{CommittedIn}
use Rattle.str_model.proofs.Principle.Everywhere.{Stage}
use Rattle.std.proofs.Common.{List, None, Option, Some, ap, arith, inl, inr, refl, slice_get, subst, subst₂, sym, true, ℕ, ◌+◌, ◌<◌, ◌∙◌, ◌≡◌, ◌≢◌, ◌≤◌, ◌⊎◌}
use Rattle.str_base.specs.declared.names.KeyId.{KeyId}
use Rattle.str_base.specs.declared.names.Kind.TheVariants.{Local as LocalKind}
use Rattle.str_base.specs.declared.names.NodeId.{NodeId}
use Rattle.str_base.specs.declared.names.PartId.{PartId}
use Rattle.str_base.specs.declared.names.TxId.{TxId}
use Rattle.str_base.specs.declared.names.Value.TheVariants.{Absent}
use Rattle.str_base.specs.declared.names.Value.{Value}
use Rattle.str_base.specs.declared.names.Version.{Version}
use Rattle.str_base.specs.declared.names.Write.{Write}
use Rattle.str_model.specs.Turns.{CommittedAt, own_fate, phase_fate}
use Rattle.str_model.specs.Turns
use Rattle.str_model.specs.Views.{Own, View, lc_of}
use Rattle.str_model.specs.declared.names.ReadDone.{ReadDone}
use Rattle.str_scene.specs.Scenes.{Scene, hosts, is_master, part_of}
use Rattle.si_laws.specs.Standing.{IsAborted}
use Rattle.str_base.proofs.SameNames.{cases_tx}
use Rattle.str_base.specs.Members.{In}

-- a transaction has one fate
pub one_fate : (s : Stage) (u : TxId) (f g : ℕ) → CommittedIn s u f → CommittedIn s u g → f ≡ g
one_fate s u f g a b =
    let node : a.node ≡ b.node = omega (arith, a.at_node, b.at_node) in
    let place : a.place ≡ b.place = omega (arith, a.at_place_, b.at_place_) in
    let view : a.view ≡ b.view = one_of a.view b.view (slice_get s.nodes a.node) a.there (ap (λ (n : ℕ). slice_get s.nodes n) node ∙ b.there) in
    let fates : CommittedAt f ≡ CommittedAt g = sym a.fate ∙ (subst₂ (λ (z : View) (n : ℕ). own_fate (slice_get a.view.own a.place) ≡ own_fate (slice_get z.own n)) view place refl ∙ b.fate) in
    cc fates

gone_fate : (x : Own) (f : ℕ) → IsAborted x → phase_fate x.phase ≡ CommittedAt f → ⊥
gone_fate x f g e = let q : phase_fate x.phase ≡ Turns.Gone = ap phase_fate g.2 in cc (sym e ∙ q)

module _ (scene : Scene) (s : Stage) (h : Grounds scene s) where
  -- a commit of the key has a version at each replica
  pub commit_at : (t : TxId) (g : ℕ) (k : KeyId) (b : Value) → CommittedIn s t g → HasWritten scene s t k b → (n : ℕ) (v : View) → slice_get s.nodes n ≡ Some v → hosts scene (record { 0 = n + 1 }) (part_of scene k) ≡ true
      → (q : Version) × In q v.versions × IsOf scene t k q × ArrivedAs v g q
  commit_at t g k b c wr n v there hosted =
      let z = committer scene s t g c in
      let f = committed_stands scene s h.governed_.linked_ t z.x z.at_ g z.is (record { key = k; value = b }) (committed_write scene s t g k b z wr) (record { 0 = n + 1 }) hosted in
      let node : f.0 ≡ n = omega (arith, ap (λ (y : NodeId). y.0) f.3) in
      let view : f.1 ≡ v = one_of f.1 v (slice_get s.nodes n) (subst (λ (m : ℕ). slice_get s.nodes m ≡ Some f.1) node f.4) there in
      (f.2, subst (λ (z : View). In f.2 z.versions) view f.5, f.6, subst (λ (z : View). ArrivedAs z g f.2) view f.7)

  -- by the guard at a replica
  clear_newest : (k : KeyId) (rs : ℕ) (by : Option TxId) (f : ℕ) (n : ℕ) (v : View) → slice_get s.nodes n ≡ Some v → hosts scene (record { 0 = n + 1 }) (part_of scene k) ≡ true → Clear v k rs by f
      → (t : TxId) (g : ℕ) (b : Value) → CommittedIn s t g → HasWritten scene s t k b → (rs < g) ⊎ ((u : TxId) × (by ≡ Some u) × ((t ≡ u) ⊎ (g ≤ f)))
  clear_newest k rs by f n v there hosted cl t g b c wr = let z = commit_at t g k b c wr n v there hosted in by_each by z.0 z.2 z.3 (cl.each z.0 z.1 z.2.key_is)
    where
      by_each : (o : Option TxId) (q : Version) → IsOf scene t k q → ArrivedAs v g q → (rs < q.ts.0) ⊎ Under o f q → (rs < g) ⊎ ((u : TxId) × (o ≡ Some u) × ((t ≡ u) ⊎ (g ≤ f)))
      by_each o q of (a_final fin e) (inl l) = inl (omega (arith, l, e))
      by_each o q of (a_pre pre le nd) (inl l) = inl (omega (arith, l, le))
      by_each None q of a (inr un) = absurd un
      by_each (Some u) q of a (inr (inl same)) = inr (u, refl, inl (sym of.tx_is ∙ same))
      by_each (Some u) q of (a_final fin e) (inr (inr un)) = inr (u, refl, inr (omega (arith, un.1, e)))
      by_each (Some u) q of (a_pre pre le nd) (inr (inr un)) = absurd (un.0 pre)

  -- each commit of the key is final at or below u, or above the snapshot
  abbrev pub NoneBetween : KeyId → ℕ → ℕ → Type 0
  NoneBetween k rs f = (t : TxId) (g : ℕ) (b : Value) → CommittedIn s t g → HasWritten scene s t k b → (g ≤ f) ⊎ (rs < g)

  from_clear : (k : KeyId) (rs f : ℕ) (u : TxId) (n : ℕ) (v : View) → CommittedIn s u f → slice_get s.nodes n ≡ Some v → hosts scene (record { 0 = n + 1 }) (part_of scene k) ≡ true → Clear v k rs (Some u) f
      → NoneBetween k rs f
  from_clear k rs f u n v cu there hosted cl t g b c wr = by_case (clear_newest k rs (Some u) f n v there hosted cl t g b c wr)
    where
      by_case : (rs < g) ⊎ ((u' : TxId) × (Some u ≡ Some u') × ((t ≡ u') ⊎ (g ≤ f))) → (g ≤ f) ⊎ (rs < g)
      by_case (inl l) = inr l
      by_case (inr (u', q, inr l)) = inl l
      by_case (inr (u', q, inl e)) =
          let same : u ≡ u' = cc q in
          let fates = one_fate s u g f (subst (λ (z : TxId). CommittedIn s z g) (e ∙ sym same) c) cu in inl (omega (arith, fates))

  -- by a Commit under way
  from_sent : (k : KeyId) (a : Value) (rs f : ℕ) (u : TxId) → CommittedIn s u f → HasWritten scene s u k a → MarkSent scene s u k rs f → NoneBetween k rs f
  from_sent k a rs f u cu wu m = let z = commit_at u f k a cu wu m.n m.view m.there m.hosted in by_arrival z.0 z.1 z.2 z.3
    where
      below_final : (rs' lc : ℕ) (ws : List Write) → IsCertified scene s u rs' lc ws → rs' ≤ f
      below_final rs' lc ws ce =
          let z : Committer scene s u f = committer scene s u f cu in
          let o = one_certified scene s z.at_.n z.at_.i z.at_.view z.x u rs' lc ws z.at_.there z.at_.own z.at_.name ce in
          let t = (h.governed_.stand z.at_.n z.at_.view z.at_.there).base.times.each z.at_.i z.x z.at_.own in
          let fc = t.fc z.is.0 f z.is.1 in
          let l = t.lc fc.0 (ap lc_of z.is.1 ∙ fc.1) in omega (arith, l.0, fc.2, o.1)

      by_arrival : (q : Version) → In q m.view.versions → IsOf scene u k q → ArrivedAs m.view f q → NoneBetween k rs f
      by_arrival q j of (a_final fin e) t g b c wr = from_clear k rs f u m.n m.view cu m.there m.hosted (m.once q j of.tx_is of.key_is fin) t g b c wr
      by_arrival q j of (a_pre pre le nd) t g b c wr = elim (cases_tx t u) [
        | inl e ↦ (let fates = one_fate s u g f (subst (λ (z : TxId). CommittedIn s z g) e c) cu in inl (omega (arith, fates)))
        | inr ne ↦ (let z = commit_at t g k b c wr m.n m.view m.there m.hosted in ordered z.0 z.1 z.2 z.3 ne)
      ]
        where
          ordered : (p : Version) → In p m.view.versions → IsOf scene t k p → ArrivedAs m.view g p → t ≢ u → (g ≤ f) ⊎ (rs < g)
          ordered p i op ap_ ne =
              by_order ap_ (h.governed_.masters.order m.n m.view m.there p q i j (op.key_is ∙ sym of.key_is)
              (subst (λ (y : PartId). is_master scene (record { 0 = m.n + 1 }) y ≡ true) (sym op.part_is) m.master) (λ y. ne (sym op.tx_is ∙ (y ∙ of.tx_is))) (not_local ap_) (λ y. cc (pre, y)))
            where
              not_local : ArrivedAs m.view g p → p.kind ≢ LocalKind
              not_local (a_final f1 e1) y = cc (sym f1 ∙ y)
              not_local (a_pre f1 e1 n1) y = cc (sym f1 ∙ y)

              by_order : ArrivedAs m.view g p → IsBefore scene s p q ⊎ IsBefore scene s q p → (g ≤ f) ⊎ (rs < g)
              by_order (a_final f1 e1) (inl y) = (let l = below_final y.rs y.lc y.ws (subst (λ (t : TxId). IsCertified scene s t y.rs y.lc y.ws) of.tx_is y.certified) in inl (omega (arith, l, y.below, e1)))
              by_order (a_pre f1 e1 n1) (inl y) = absurd (cc (y.final, f1))
              by_order x (inr y) = absurd (cc (y.final, pre))

  -- ---- of a guarded read

  -- from no writer
  pub newest_none : (n rs : ℕ) (r : ReadDone) → ReadGuard scene s n rs r → r.by ≡ None → (r.value ≡ Absent) × ((t : TxId) (g : ℕ) (b : Value) → CommittedIn s t g → HasWritten scene s t r.key b → rs < g)
  newest_none n rs r (rg_final (fg_none q v g)) e = (v, λ t f b c wr. by_case (clear_newest r.key rs None 0 g.n g.view g.there g.hosted g.clear t f b c wr))
    where
      by_case : {f : ℕ} {t : TxId} → (rs < f) ⊎ ((u : TxId) × (None ≡ Some u) × ((t ≡ u) ⊎ (f ≤ 0))) → rs < f
      by_case (inl l) = l
      by_case (inr (u, q, l)) = absurd (cc q)
  newest_none n rs r (rg_final (fg_some u f q c wr g)) e = absurd (let z : Some u ≡ None = sym q ∙ e in cc z)
  newest_none n rs r (rg_open u q wr o) e = absurd (let z : Some u ≡ None = sym q ∙ e in cc z)
  newest_none n rs r (rg_sent u f q c wr m) e = absurd (let z : Some u ≡ None = sym q ∙ e in cc z)
  newest_none n rs r (rg_gone u q g) e = absurd (let z : Some u ≡ None = sym q ∙ e in cc z)

  -- from a committed writer
  pub newest_some : (n rs : ℕ) (r : ReadDone) (u : TxId) (f : ℕ) → ReadGuard scene s n rs r → r.by ≡ Some u → CommittedIn s u f → HasWritten scene s u r.key r.value × NoneBetween r.key rs f
  newest_some n rs r u f (rg_final (fg_none q v g)) e c = absurd (let z : None ≡ Some u = sym q ∙ e in cc z)
  newest_some n rs r u f (rg_final (fg_some u' f' q c' wr g)) e c =
      let z : Some u' ≡ Some u = sym q ∙ e in
      let same : u' ≡ u = cc z in
      let fates : f' ≡ f = one_fate s u f' f (subst (λ (y : TxId). CommittedIn s y f') same c') c in
      (subst (λ (y : TxId). HasWritten scene s y r.key r.value) same wr, subst (NoneBetween r.key rs) fates (from_clear r.key rs f' u' g.n g.view c' g.there g.hosted g.clear))
  newest_some n rs r u f (rg_sent u' f' q c' wr m) e c =
      let z : Some u' ≡ Some u = sym q ∙ e in
      let same : u' ≡ u = cc z in
      let fates : f' ≡ f = one_fate s u f' f (subst (λ (y : TxId). CommittedIn s y f') same c') c in
      (subst (λ (y : TxId). HasWritten scene s y r.key r.value) same wr, subst (NoneBetween r.key rs) fates (from_sent r.key r.value rs f' u' c' wr m))
  newest_some n rs r u f (rg_open u' q wr o) e c =
      let z : Some u' ≡ Some u = sym q ∙ e in
      let same : u' ≡ u = cc z in
      let node : c.node ≡ n = omega (arith, c.at_node, ap (λ (y : TxId). y.node.0) (sym same ∙ o.name)) in
      let place : c.place ≡ o.j = omega (arith, c.at_place_, ap (λ (y : TxId). y.seq) (sym same ∙ o.name)) in
      let view : c.view ≡ o.view = one_of c.view o.view (slice_get s.nodes n) (subst (λ (k : ℕ). slice_get s.nodes k ≡ Some c.view) node c.there) o.there in
      let f1 : own_fate (slice_get o.view.own o.j) ≡ CommittedAt f = subst₂ (λ (z : View) (k : ℕ). own_fate (slice_get z.own k) ≡ CommittedAt f) view place c.fate in
      let f2 : own_fate (slice_get o.view.own o.j) ≡ Turns.Open = ap own_fate o.owns ∙ open-fate o.x.phase o.open_ in
      absurd (cc (sym f1 ∙ f2))
  newest_some n rs r u f (rg_gone u' q o) e c =
      let z : Some u' ≡ Some u = sym q ∙ e in
      let same : u' ≡ u = cc z in
      let node : c.node ≡ n = omega (arith, c.at_node, ap (λ (y : TxId). y.node.0) (sym same ∙ o.name)) in
      let place : c.place ≡ o.j = omega (arith, c.at_place_, ap (λ (y : TxId). y.seq) (sym same ∙ o.name)) in
      let view : c.view ≡ o.view = one_of c.view o.view (slice_get s.nodes n) (subst (λ (k : ℕ). slice_get s.nodes k ≡ Some c.view) node c.there) o.there in
      let f1 : own_fate (slice_get o.view.own o.j) ≡ CommittedAt f = subst₂ (λ (z : View) (k : ℕ). own_fate (slice_get z.own k) ≡ CommittedAt f) view place c.fate in
      absurd (gone_fate o.x f o.gone (sym (ap own_fate o.owns) ∙ f1))
