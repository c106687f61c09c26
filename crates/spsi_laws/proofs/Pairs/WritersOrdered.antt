-- Of two committed transactions that wrote one key one is final at or below the other's snapshot, in every state of a run.
use Rattle.si_laws.proofs.Order.CertifiedVersions.{BegunAt, FoundAt, committed_stands}
use Rattle.si_laws.proofs.Guards.GuardGrounds.{Grounds, grounds}
use Rattle.si_laws.proofs.Stages.LinkedStates.{IsCertified, one_certified, one_of}
use Rattle.si_laws.proofs.Order.MasterFacts.{IsBefore}
use Rattle.si_laws.proofs.Order.WritersApart.{at_final, key_of_table, kinds, master_of}
use Rattle.si_laws.specs.Standing.{IsCommitted}
use Rattle.std.proofs.Common.{List, ap, arith, eq-eqb, inl, inr, length, refl, slice_get, subst, subst₂, sym, true, ℕ, ◌+◌, ◌<◌, ◌∙◌, ◌≡◌, ◌≢◌, ◌≤◌, ◌⊎◌}
use Rattle.str_base.specs.Versions.{same_key}
use Rattle.str_base.specs.declared.names.KeyId.{KeyId}
use Rattle.str_base.specs.declared.names.NodeId.{NodeId}
use Rattle.str_base.specs.declared.names.PartId.{PartId}
use Rattle.str_base.specs.declared.names.TxId.{TxId}
use Rattle.str_base.specs.declared.names.Version.{Version}
use Rattle.str_base.specs.declared.names.Write.{Write}
use Rattle.str_model.proofs.Principle.Everywhere.{at_place, stage_of}
use Rattle.str_model.specs.Runs.{run}
use Rattle.str_model.specs.Views.{Own, View}
use Rattle.str_scene.specs.SceneLimits.{IsScene}
use Rattle.str_scene.specs.Scenes.{Scene, hosts, is_master, part_of}
use Rattle.str_scene.specs.declared.names.Event.{Event}
use Rattle.str_model.specs.Owned.{wrote_key}
use Rattle.str_model.proofs.OwnFacts.ScriptsCovered.{ScriptGood, scripts_after}
use Rattle.str_base.proofs.Members.{any_in}
use Rattle.str_base.specs.Members.{In}
use Rattle.str_model.proofs.ViewFacts.MarksRise.{script_op}

module _ (scene : Scene) (ok : IsScene scene) (es : List Event) where
  -- a written key is one of the scene
  key_exists : (t : TxId) (x : Own) → BegunAt scene (stage_of (run scene es)) t x → (a : Write) → In a x.writes → a.key.0 < length scene.keys.names
  key_exists t x b a m =
      let sg : ScriptGood (at_place scene b.n) x = scripts_after scene ok es b.n b.view b.there b.i x b.own in
      let wrote : wrote_key a.key x.writes ≡ true = any_in (λ (w : Write). same_key w.key a.key) x.writes a m (eq-eqb a.key.0 a.key.0 refl) in
      let z = sg.inside a.key wrote in key_of_table scene.version scene.keys z.1 a.key (script_op scene ok x.place z.0 z.1 z.2) z.3

  pub committed_apart : (t u : TxId) (x y : Own) (f g : ℕ) (a b : Write) → BegunAt scene (stage_of (run scene es)) t x → BegunAt scene (stage_of (run scene es)) u y → IsCommitted x f → IsCommitted y g
      → In a x.writes → In b y.writes → a.key ≡ b.key → t ≢ u → (f ≤ y.snap.rs) ⊎ (g ≤ x.snap.rs)
  committed_apart t u x y f g a b bt bu cx cy ia ib key ne =
      let m = master_of scene ok a.key (key_exists t x bt a ia) in
      let fa : FoundAt scene (stage_of (run scene es)) (gr).governed_.linked_ t f a m.0 = committed_stands scene (stage_of (run scene es)) (gr).governed_.linked_ t x bt f cx a ia m.0 m.2 in
      let fb : FoundAt scene (stage_of (run scene es)) (gr).governed_.linked_ u g b m.0 =
      committed_stands scene (stage_of (run scene es)) (gr).governed_.linked_ u y bu g cy b ib m.0 (subst (λ (k : KeyId). hosts scene m.0 (part_of scene k) ≡ true) key m.2) in
      let both : record { 0 = fa.0 + 1 } ≡ record { 0 = fb.0 + 1 } = sym fa.3 ∙ fb.3 in
      let node : fa.0 ≡ fb.0 = omega (arith, ap (λ (z : NodeId). z.0) both) in
      let view : fa.1 ≡ fb.1 = one_of fa.1 fb.1 (slice_get (run scene es).nodes fa.0) fa.4 (ap (λ (z : ℕ). slice_get (run scene es).nodes z) node ∙ fb.4) in
      let inb : In fb.2 fa.1.versions = subst (λ (z : View). In fb.2 z.versions) (sym view) fb.5 in
      let same : fa.2.key ≡ fb.2.key = fa.6.key_is ∙ (key ∙ sym fb.6.key_is) in
      let mas : is_master scene (record { 0 = fa.0 + 1 }) fa.2.part ≡ true = subst₂ (λ (z : NodeId) (p : PartId). is_master scene z p ≡ true) fa.3 (sym fa.6.part_is) m.1 in
      elim (gr.governed_.masters.order fa.0 fa.1 fa.4 fa.2 fb.2 fa.5 inb same mas (λ z. ne (sym fa.6.tx_is ∙ (z ∙ fb.6.tx_is))) (kinds fa.1 f fa.2 fa.7) (kinds fb.1 g fb.2 fb.7)) [
        | inl z ↦ inl (below f u y bu z (at_final fa.1 f fa.2 fa.7 z.final) fb.6.tx_is)
        | inr z ↦ inr (below g t x bt z (at_final fb.1 g fb.2 fb.7 z.final) fa.6.tx_is)
      ]
    where
      gr : Grounds scene (stage_of (run scene es))
      gr = grounds scene ok es

      below : (h : ℕ) (c : TxId) (w : Own) → BegunAt scene (stage_of (run scene es)) c w → {q r : Version} → (z : IsBefore scene (stage_of (run scene es)) q r) → q.ts.0 ≡ h → r.tx ≡ c → h ≤ w.snap.rs
      below h c w bc {q} {r} z e k =
          let ce : IsCertified scene (stage_of (run scene es)) c z.rs z.lc z.ws = subst (λ (y : TxId). IsCertified scene (stage_of (run scene es)) y z.rs z.lc z.ws) k z.certified in
          let o = one_certified scene (stage_of (run scene es)) bc.n bc.i bc.view w c z.rs z.lc z.ws bc.there bc.own bc.name ce in
          omega (arith, e, z.below, o.2)
