-- Guards of reads in a state of a run, and that a single change keeps the guard at a node.
use Rattle.si_laws.proofs.Order.CertifiedVersions.{ArrivedAs, IsOf, a_final, a_pre, committed_stands}
use Rattle.si_laws.proofs.Dependencies.AroundLocal.{Around, Stand, final_below, final_late, local_above, local_below}
use Rattle.str_model.proofs.Changes.PairWords.{decides_far, pair-is}
use Rattle.si_laws.proofs.Guards.ReadGuards.{Clear, LocalsClear, NoneUnder, clear_stays}
use Rattle.si_laws.proofs.Guards.GuardGrounds.{Grounds, committed_write, committer}
use Rattle.si_laws.proofs.Stages.LinkedStates.{one_of}
use Rattle.si_laws.proofs.Guards.VersionOrigins.{HasWritten, Origin, has_written_stays, og_came, og_commit, og_local, og_old, og_pre, origin}
use Rattle.str_model.proofs.OwnFacts.LocalOwners.{open-fate, same_own}
use Rattle.si_laws.proofs.Changes.ReadLetters.{marks_act}
use Rattle.si_laws.proofs.Sources.FinalsReported.{CommittedIn, lift_c}
use Rattle.si_laws.proofs.Guards.DecidedAbove.{all_moved, own_local}
use Rattle.str_model.proofs.Principle.SingleChanges.{Act, Where}
use Rattle.str_model.proofs.Principle.Everywhere.{IsSeen, Stage, at_place, during}
use Rattle.si_laws.specs.Standing.{IsAborted}
use Rattle.std.proofs.Common.{List, None, Option, Some, [], add-sub_cancel, ap, arith, false, inl, inr, refl, slice_get, slice_set, subst, subst₂, sym, true, ℕ, ◌++◌, ◌+◌, ◌-◌, ◌<◌, ◌∙◌, ◌∷◌, ◌≡◌, ◌≢◌, ◌≤◌, ◌⊎◌}
use Rattle.str_base.specs.declared.names.KeyId.{KeyId}
use Rattle.str_base.specs.declared.names.Kind.TheVariants.{Final, Local as LocalKind, Pre}
use Rattle.str_base.specs.declared.names.NodeId.{NodeId}
use Rattle.str_base.specs.declared.names.Ts.{Ts}
use Rattle.str_base.specs.declared.names.TxId.{TxId}
use Rattle.str_base.specs.declared.names.Value.TheVariants.{Absent}
use Rattle.str_base.specs.declared.names.Value.{Value}
use Rattle.str_base.specs.declared.names.Version.{Version}
use Rattle.str_base.specs.declared.names.Write.{Write}
use Rattle.str_model.specs.Owned.{Owns}
use Rattle.str_model.specs.Turns.{CommittedAt, own_fate}
use Rattle.str_model.specs.Turns
use Rattle.str_model.specs.Views.{Doing, Own, View, is_decided, lc_of, name_of}
use Rattle.str_model.specs.declared.messages.Body.TheVariants.{Commit}
use Rattle.str_model.specs.declared.messages.Input.{Input}
use Rattle.str_model.specs.declared.messages.Message.{Message}
use Rattle.str_model.specs.declared.names.KeyMark.{KeyMark}
use Rattle.str_model.specs.declared.names.ReadDone.{ReadDone}
use Rattle.str_scene.specs.Scenes.{Scene, hosts, is_master, part_of}
use Rattle.str_base.proofs.Lists.{get_set, get_set_other, got_set}
use Rattle.str_base.specs.Members.{In}

-- a replica of the key guards the read
pub record GuardAt (scene : Scene) (s : Stage) (k : KeyId) (rs : ℕ) (by : Option TxId) (f : ℕ) : Type 0 where
  pub n : ℕ
  pub view : View
  pub there : slice_get s.nodes n ≡ Some view
  pub hosted : hosts scene (record { 0 = n + 1 }) (part_of scene k) ≡ true
  pub clear : Clear view k rs by f

-- a read of nothing, or of what a committed transaction wrote, is guarded
pub data FinalGuard (scene : Scene) (s : Stage) (rs : ℕ) (k : KeyId) (a : Value) (by : Option TxId) : Type 0 where
  fg_none : by ≡ None → a ≡ Absent → GuardAt scene s k rs None 0 → FinalGuard scene s rs k a by
  fg_some : (u : TxId) (f : ℕ) → by ≡ Some u → CommittedIn s u f → HasWritten scene s u k a → GuardAt scene s k rs (Some u) f → FinalGuard scene s rs k a by

-- the writer is an undecided transaction of the n-th node, and the node guards the read from it
pub record OpenWriter (scene : Scene) (s : Stage) (n : ℕ) (u : TxId) (k : KeyId) (rs : ℕ) : Type 0 where
  pub j : ℕ
  pub x : Own
  pub lc : ℕ
  pub view : View
  pub there : slice_get s.nodes n ≡ Some view
  pub owns : Owns view j x
  pub name : u ≡ name_of (at_place scene n) j
  pub open_ : is_decided x.phase ≡ false
  pub is_lc : lc_of x.phase ≡ Some lc
  pub clear : LocalsClear view k rs u lc

-- The writer has committed at another node than the key's master: each of its Commits for the key's partition carries the mark of the read, and once
-- one has come the master guards the read.
pub record MarkSent (scene : Scene) (s : Stage) (u : TxId) (k : KeyId) (rs f : ℕ) : Type 0 where
  pub n : ℕ
  pub view : View
  pub there : slice_get s.nodes n ≡ Some view
  pub within : k.0 < Rattle.std.proofs.Common.length scene.keys.names
  pub master : is_master scene (record { 0 = n + 1 }) (part_of scene k) ≡ true
  pub hosted : hosts scene (record { 0 = n + 1 }) (part_of scene k) ≡ true
  pub far : u.node.0 ≢ n + 1
  pub letters : (m : Message) (fc : Ts) (ms : List KeyMark) → In m s.sent → m.body ≡ Commit u (part_of scene k) fc ms → (c : KeyMark) × In c ms × (c.key ≡ k) × (rs ≤ c.mark.0)
  pub once : (q : Version) → In q view.versions → q.tx ≡ u → q.key ≡ k → q.kind ≡ Final → Clear view k rs (Some u) f

-- the writer of the n-th node has aborted
pub record GoneWriter (scene : Scene) (s : Stage) (n : ℕ) (u : TxId) : Type 0 where
  pub j : ℕ
  pub x : Own
  pub view : View
  pub there : slice_get s.nodes n ≡ Some view
  pub owns : Owns view j x
  pub name : u ≡ name_of (at_place scene n) j
  pub gone : IsAborted x

-- The guard of a read of a transaction of the n-th node with snapshot timestamp rs: at a replica, where it read nothing or what is final; at its own node,
-- where its writer is undecided; by Commits under way, where its writer has committed since; and none, where its writer aborted, as then
-- the reader aborts too.
pub data ReadGuard (scene : Scene) (s : Stage) (n : ℕ) (rs : ℕ) (r : ReadDone) : Type 0 where
  rg_final : FinalGuard scene s rs r.key r.value r.by → ReadGuard scene s n rs r
  rg_open : (u : TxId) → r.by ≡ Some u → HasWritten scene s u r.key r.value → OpenWriter scene s n u r.key rs → ReadGuard scene s n rs r
  rg_sent : (u : TxId) (f : ℕ) → r.by ≡ Some u → CommittedIn s u f → HasWritten scene s u r.key r.value → MarkSent scene s u r.key rs f → ReadGuard scene s n rs r
  rg_gone : (u : TxId) → r.by ≡ Some u → GoneWriter scene s n u → ReadGuard scene s n rs r

-- ---- the guard at a node stays

module _ (scene : Scene) (s : Stage) (i : ℕ) (v : View) (input : Input) (w : Where) (d e : Doing) (is : slice_get s.nodes i ≡ Some v) (seen : IsSeen s input) (act : Act (at_place scene i) input w d e)
    (h : Grounds scene (during s i d)) where
  pub there_d : slice_get (slice_set s.nodes i d.view) i ≡ Some d.view
  there_d = get_set s.nodes i v d.view is

  pub there_e : slice_get (slice_set s.nodes i e.view) i ≡ Some e.view
  there_e = get_set s.nodes i v e.view is

  pub committed_up : (u : TxId) (f : ℕ) → CommittedIn (during s i d) u f → CommittedIn (during s i e) u f
  committed_up u f c = lift_c scene s i v input is seen d e w act h.reported u f c

  pub written_up : (u : TxId) (k : KeyId) (a : Value) → HasWritten scene (during s i d) u k a → HasWritten scene (during s i e) u k a
  written_up u k a c = has_written_stays scene s i v input w d e is seen act u k a c

  -- no undecided own transaction has committed
  pub open_not : (n f : ℕ) (x : Own) (u : TxId) → Owns d.view n x → is_decided x.phase ≡ false → u ≡ name_of (at_place scene i) n → CommittedIn (during s i d) u f → ⊥
  open_not n f x u own o name c =
      let node : c.node ≡ i = omega (arith, c.at_node, ap (λ (z : TxId). z.node.0) name) in
      let place : c.place ≡ n = omega (arith, c.at_place_, ap (λ (z : TxId). z.seq) name) in
      let view : c.view ≡ d.view = one_of c.view d.view (slice_get (slice_set s.nodes i d.view) i) (subst (λ (k : ℕ). slice_get (slice_set s.nodes i d.view) k ≡ Some c.view) node c.there) there_d in
      let f1 : own_fate (slice_get d.view.own n) ≡ CommittedAt f = subst₂ (λ (z : View) (k : ℕ). own_fate (slice_get z.own k) ≡ CommittedAt f) view place c.fate in
      let f2 : own_fate (slice_get d.view.own n) ≡ Turns.Open = ap own_fate own ∙ open-fate x.phase o in
      cc (sym f1 ∙ f2)

  -- a Local version that is committed now is above a committed writer whose version stands here
  above_writer : (n lc f : ℕ) (x : Own) (u : TxId) (k : KeyId) (a : Value) (p : Version) → Owns d.view n x → is_decided x.phase ≡ false → lc_of x.phase ≡ Some lc → x.snap.deps ≡ []
      → In p d.view.versions → p.kind ≡ LocalKind → p.ts.0 ≡ lc → p.tx ≡ name_of (at_place scene i) n → p.key ≡ k → CommittedIn (during s i d) u f → HasWritten scene (during s i d) u k a
      → hosts scene (record { 0 = i + 1 }) (part_of scene k) ≡ true → f < p.ts.0
  above_writer n lc f x u k a p own o l none j loc ts name key c wr hosted =
      let z = committer scene (during s i d) u f c in
      let wt : Write = record { key = k; value = a } in
      let found = committed_stands scene (during s i d) h.governed_.linked_ u z.x z.at_ f z.is wt (committed_write scene (during s i d) u f k a z wr) (record { 0 = i + 1 }) hosted in
      let here : found.0 ≡ i = omega (arith, ap (λ (y : NodeId). y.0) found.3) in
      let view : found.1 ≡ d.view = one_of found.1 d.view (slice_get (slice_set s.nodes i d.view) i) (subst (λ (m : ℕ). slice_get (slice_set s.nodes i d.view) m ≡ Some found.1) here found.4) there_d in
      by_arrival found.1 found.2 (subst (λ (y : View). In found.2 y.versions) view found.5) found.6 found.7
    where
      st : Stand (at_place scene i) d.view
      st = h.governed_.stand i d.view there_d

      rs_below : x.snap.rs < lc
      rs_below = ((st.base.times.each n x own).lc lc l).0

      by_around : (q : Version) → q.kind ≡ Final → q.ts.0 ≡ f → Around (at_place scene i) d.view n x p.ts.0 q → f < p.ts.0
      by_around q fin t (final_below kf le) = omega (arith, le, rs_below, ts, t)
      by_around q fin t (final_late kf node names fate) = absurd (subst (In names.0) none names.1)
      by_around q fin t (local_below kl le names) = absurd (cc (fin, kl))
      by_around q fin t (local_above m y kl seq oy le names) = absurd (cc (fin, kl))

      by_arrival : (z : View) (q : Version) → In q d.view.versions → IsOf scene u k q → ArrivedAs z f q → f < p.ts.0
      by_arrival z q m of (a_pre pre le nd) = absurd (st.apart p q j loc m pre (of.key_is ∙ sym key))
      by_arrival z q m of (a_final fin t) =
          by_around q fin t (st.around n x p q own j loc (ap (λ (y : TxId). y.seq) name) m (of.key_is ∙ sym key)
          (λ same. open_not n f x u own o (sym of.tx_is ∙ (same ∙ name)) c))

  none_under : (k : KeyId) (a : Value) (f : ℕ) (u : TxId) → CommittedIn (during s i d) u f → HasWritten scene (during s i d) u k a → hosts scene (record { 0 = i + 1 }) (part_of scene k) ≡ true
      → NoneUnder d.view e.view k (Some u) f
  none_under k a f u c wr hosted p q j m key t loc fin under = by_under under
    where
      st : Stand (at_place scene i) d.view
      st = h.governed_.stand i d.view there_d

      ow : Rattle.str_model.proofs.OwnFacts.LocalOwners.LocalOwner (at_place scene i) d.view p
      ow = st.base.locals p j loc

      by_origin : p.ts.0 ≤ f → Origin (at_place scene i) input d e q → (q.tx ≡ u) ⊎ ((q.kind ≢ Pre) × (q.ts.0 ≤ f))
      by_origin le (og_old g) = absurd (by_known (st.finals q g fin))
        where
          by_known : Rattle.si_laws.proofs.Dependencies.AroundLocal.FinalKnown (at_place scene i) d.view q → ⊥
          by_known (Rattle.si_laws.proofs.Dependencies.AroundLocal.own_final b fate) = Rattle.si_laws.proofs.Dependencies.AroundLocal.owner_open (at_place scene i) d.view p ow q.tx.seq q.ts.0 (ap (λ (z : TxId). z.seq) t) fate
          by_known (Rattle.si_laws.proofs.Dependencies.AroundLocal.far_final b done) = b (ap (λ (z : TxId). z.node.0) (sym t) ∙ ow.node)
      by_origin le (og_local n lc snap x y own ce own' g same) = absurd (cc (ap (λ (z : Version). z.kind) same, fin))
      by_origin le (og_pre b ts y pl less g same) = absurd (cc (ap (λ (z : Version). z.kind) same, fin))
      by_origin le (og_commit n lc fc x p' own o l none lf g name hd same) =
          let pn : p.tx ≡ name_of (at_place scene i) n = t ∙ (ap (λ (z : Version). z.tx) same ∙ name) in
          let ol = own_local scene s i v input w d e is seen act h.governed_ h.written n lc x p own o l j pn in
          let ab = above_writer n lc f x u k a p own o l none j loc ol.1 pn key c wr hosted in
          absurd (omega (arith, ab, le))
      by_origin le (og_came from t' r fc ms p' co dec f' only g o same) =
          absurd ((decides_far (at_place scene i) t' r d.view dec).0 (ap (λ (z : TxId). z.node.0) (sym (pair-is t' r p' o).0 ∙ (ap (λ (z : Version). z.tx) (sym same) ∙ sym t)) ∙ ow.node))

      by_under : (p.tx ≡ u) ⊎ ((p.kind ≢ Pre) × (p.ts.0 ≤ f)) → (q.tx ≡ u) ⊎ ((q.kind ≢ Pre) × (q.ts.0 ≤ f))
      by_under (inl y) = inl (sym t ∙ y)
      by_under (inr y) = by_origin y.1 (origin (at_place scene i) input w d e act q m)

  -- the guard of this node after the change
  pub clear_none_up : (k : KeyId) (rs : ℕ) → Clear d.view k rs None 0 → Clear e.view k rs None 0
  clear_none_up k rs cl =
      clear_stays d.view e.view k rs None 0 (all_moved scene s i v input w d e is seen act h.governed_ h.written) (marks_act (at_place scene i) input w d e act) (λ p q j m key t loc fin under. under) cl

  pub clear_some_up : (k : KeyId) (rs : ℕ) (a : Value) (f : ℕ) (u : TxId) → CommittedIn (during s i d) u f → HasWritten scene (during s i d) u k a
      → hosts scene (record { 0 = i + 1 }) (part_of scene k) ≡ true → Clear d.view k rs (Some u) f → Clear e.view k rs (Some u) f
  clear_some_up k rs a f u c wr hosted cl =
      clear_stays d.view e.view k rs (Some u) f (all_moved scene s i v input w d e is seen act h.governed_ h.written) (marks_act (at_place scene i) input w d e act) (none_under k a f u c wr hosted) cl

  guard_up : (k : KeyId) (rs : ℕ) (by : Option TxId) (f : ℕ) → (hosts scene (record { 0 = i + 1 }) (part_of scene k) ≡ true → Clear d.view k rs by f → Clear e.view k rs by f)
      → GuardAt scene (during s i d) k rs by f → GuardAt scene (during s i e) k rs by f
  guard_up k rs by f up g = elim (got_set s.nodes i g.n d.view g.view g.there) [
    | inl p ↦ record {
      n = i;
      view = e.view;
      there = there_e;
      hosted = subst (λ (m : ℕ). hosts scene (record { 0 = m + 1 }) (part_of scene k) ≡ true) p.0 g.hosted;
      clear = up (subst (λ (m : ℕ). hosts scene (record { 0 = m + 1 }) (part_of scene k) ≡ true) p.0 g.hosted) (subst (λ (z : View). Clear z k rs by f) p.1 g.clear);
    }
    | inr q ↦ record { n = g.n; view = g.view; there = get_set_other s.nodes i g.n e.view q.0 ∙ q.1; hosted = g.hosted; clear = g.clear }
  ]

  pub final_guard_up : (rs : ℕ) (k : KeyId) (a : Value) (by : Option TxId) → FinalGuard scene (during s i d) rs k a by → FinalGuard scene (during s i e) rs k a by
  final_guard_up rs k a by (fg_none q b g) = fg_none q b (guard_up k rs None 0 (λ hosted cl. clear_none_up k rs cl) g)
  final_guard_up rs k a by (fg_some u f q c wr g) = fg_some u f q (committed_up u f c) (written_up u k a wr) (guard_up k rs (Some u) f (λ hosted cl. clear_some_up k rs a f u c wr hosted cl) g)
