-- Overlapping writers are kept apart, and the law Apart.
use Rattle.si_laws.proofs.Dependencies.LocalsApart.{pre_apart_local}
use Rattle.si_laws.proofs.Order.CertifiedVersions.{ArrivedAs, BegunAt, FoundAt, a_final, a_pre, committed_stands}
use Rattle.str_model.proofs.OwnFacts.AtHome.{OwnGood}
use Rattle.si_laws.proofs.Stages.LinkedStates.{IsCertified, one_certified, one_of}
use Rattle.si_laws.proofs.Order.OrderAtMaster.{governed, one_pre}
use Rattle.si_laws.proofs.Order.MasterFacts.{IsBefore}
use Rattle.str_model.proofs.OwnFacts.ScriptsCovered.{ScriptGood, WritesKey, eval_keys, scripts_after}
use Rattle.si_laws.proofs.Sessions.SessionAnswers.{committed_phase, entry, session_holds}
use Rattle.si_laws.proofs.Sessions.SessionHolds.{good_everywhere}
use Rattle.str_model.proofs.Changes.PairWords.{any_has}
use Rattle.str_model.proofs.Principle.Everywhere.{at_place, stage_of}
use Rattle.si_laws.specs.Commits.{seen}
use Rattle.si_laws.specs.Laws.Apart.{ApartHolds}
use Rattle.si_laws.specs.SnapshotIsolation.{IsAnswer, IsCommittedAt, NoOverlap}
use Rattle.si_laws.specs.Standing.{IsCommitted}
use Rattle.std.proofs.Common.{List, None, Some, [], ap, arith, eq-eqb, eqb-true, inl, inr, length, refl, slice_get, subst, subst₂, suc, sym, true, zero, ℕ, ◌+◌, ◌<◌, ◌∙◌, ◌∷◌, ◌≡◌, ◌≢◌, ◌≤◌}
use Rattle.std.specs.List.{list_any}
use Rattle.str_base.specs.Versions.{same_key, same_node}
use Rattle.str_base.specs.declared.names.KeyId.{KeyId}
use Rattle.str_base.specs.declared.names.Kind.TheVariants.{Final, Local as LocalKind}
use Rattle.str_base.specs.declared.names.NodeId.{NodeId}
use Rattle.str_base.specs.declared.names.PartId.{PartId}
use Rattle.str_base.specs.declared.names.TxId.{TxId}
use Rattle.str_base.specs.declared.names.Version.{Version}
use Rattle.str_base.specs.declared.names.Write.{Write}
use Rattle.str_model.specs.Owned.{Owns, wrote_key}
use Rattle.str_model.specs.Runs.{run}
use Rattle.str_model.specs.Scripts.{own_op}
use Rattle.str_model.specs.Views.{Own, View, lc_of}
use Rattle.str_model.specs.declared.messages.Answer.{Answer}
use Rattle.str_scene.specs.SceneLimits.{Exists, IsOp, IsScene}
use Rattle.str_scene.specs.Scenes.{KeyTable, Scene, hosts, is_master, leads, named_part, nth, or_none, part_of, replicas, script_at}
use Rattle.str_scene.specs.declared.names.Event.{Event}
use Rattle.str_scene.specs.declared.names.Op.TheVariants.{Abort as Stop, Add, Del, Get, Need, Put, Puts}
use Rattle.str_scene.specs.declared.names.Op.{Op}
use Rattle.str_scene.specs.declared.names.TxPlace.{TxPlace}
use Rattle.std.proofs.lemmas.Bool.{or_left}
use Rattle.str_base.proofs.Lists.{slice_get_there}
use Rattle.str_base.specs.Members.{In}
use Rattle.str_model.proofs.ViewFacts.MarksRise.{script_op}

none_above : {A : Type 0} (xs : List A) (n j : ℕ) (x : A) → slice_get xs n ≡ None → slice_get xs j ≡ Some x → j < n
none_above [] n j x e f = absurd (cc f)
none_above (y ∷ xs) zero j x e f = absurd (cc e)
none_above (y ∷ xs) (suc n) zero x e f = omega arith
none_above (y ∷ xs) (suc n) (suc j) x e f = let rec = none_above xs n j x e f in omega (arith, rec)

-- ---- the master of a key that is written

pub key_of_table : (version : ℕ) (table : KeyTable) (op : Op) (k : KeyId) → IsOp version table op → WritesKey op k → k.0 < length table.names
key_of_table version table (Put l n) k o q = subst (λ (z : KeyId). z.0 < length table.names) q o.0
key_of_table version table (Puts l t) k o q = subst (λ (z : KeyId). z.0 < length table.names) q o.0
key_of_table version table (Add l n) k o q = subst (λ (z : KeyId). z.0 < length table.names) q o.0
key_of_table version table (Del l) k o q = subst (λ (z : KeyId). z.0 < length table.names) q o
key_of_table version table (Get l) k o q = absurd q
key_of_table version table (Need l n) k o q = absurd q
key_of_table version table Stop k o q = absurd q

-- a key of the table has a master
pub master_of : (scene : Scene) → IsScene scene → (k : KeyId) → k.0 < length scene.keys.names → (r : NodeId) × (is_master scene r (part_of scene k) ≡ true) × (hosts scene r (part_of scene k) ≡ true)
master_of scene ok k less =
    let key = slice_get_there scene.keys.names k.0 less in
    let part : part_of scene k ≡ key.0.1 = ap named_part key.1 in
    let exists = (ok.table.keys k.0 key.0 key.1).part in
    by_part key.0.1.0 refl exists part
  where
    by_row : (row : List NodeId) → 1 ≤ length row → (r : NodeId) × (leads r row ≡ true) × (list_any (λ n. same_node n r) row ≡ true)
    by_row [] le = absurd (omega (arith, le))
    by_row (r ∷ rs) le = (r, eq-eqb r.0 r.0 refl, or_left (same_node r r) (list_any (λ n. same_node n r) rs) (eq-eqb r.0 r.0 refl))

    by_part : {p : PartId} (m : ℕ) → p.0 ≡ m → Exists m (length scene.parts) → part_of scene k ≡ p → (r : NodeId) × (is_master scene r (part_of scene k) ≡ true) × (hosts scene r (part_of scene k) ≡ true)
    by_part {p} zero q x part = absurd (omega (arith, x.0))
    by_part {p} (suc i) q x part =
        let row = slice_get_there scene.parts i (omega (arith, x.1)) in
        let all : replicas scene (part_of scene k) ≡ row.0 = ap (λ (z : PartId). or_none (nth scene.parts z.0)) part ∙ (ap (λ (z : ℕ). or_none (nth scene.parts z)) q ∙ ap or_none row.1) in
        let m = by_row row.0 (ok.rows i row.0 row.1).some in
        (m.0, subst (λ (zs : List NodeId). leads m.0 zs ≡ true) (sym all) m.1, subst (λ (zs : List NodeId). list_any (λ n. same_node n m.0) zs ≡ true) (sym all) m.2)

-- ---- versions of a committed transaction

pub kinds : (v : View) (f : ℕ) (q : Version) → ArrivedAs v f q → q.kind ≢ LocalKind
kinds v f q (a_final k t) z = cc (sym k ∙ z)
kinds v f q (a_pre k t n) z = cc (sym k ∙ z)

pub at_final : (v : View) (f : ℕ) (q : Version) → ArrivedAs v f q → q.kind ≡ Final → q.ts.0 ≡ f
at_final v f q (a_final k t) z = t
at_final v f q (a_pre k t n) z = absurd (cc (sym k ∙ z))

-- ---- a committed answer and its transaction

module _ (scene : Scene) (ok : IsScene scene) (events : List Event) where
  -- a committed answer, its transaction, and its version at the master of a key that its script writes
  pub record CommitAtMaster (a : Answer) (f : ℕ) (k : KeyId) : Type 0 where
    pub x : Own
    pub stand : BegunAt scene (stage_of (run scene events)) a.tx x
    pub rs : a.rs.0 ≡ x.snap.rs
    pub r : NodeId
    pub master : is_master scene r (part_of scene k) ≡ true
    pub w : Write
    pub key : w.key ≡ k
    pub found : FoundAt scene (stage_of (run scene events)) (governed scene events).linked_ a.tx f w r

  -- the script's key is in the buffer of the committed transaction
  wrote_it : (all : List Answer) (a : Answer) (n i : ℕ) (v : View) (x : Own) (f : ℕ) (k : KeyId) → slice_get (run scene events).nodes n ≡ Some v → Owns v i x → a.place ≡ x.place → IsCommitted x f
      → wrote_key k (seen scene all a).writes ≡ true → (wrote_key k x.writes ≡ true) × (k.0 < length scene.keys.names)
  wrote_it all a n i v x f k there own place c wrote_ =
      let good : OwnGood (at_place scene n) v.versions i x = (governed scene events).linked_.home n v there i x own in
      let sg : ScriptGood (at_place scene n) x = scripts_after scene ok events n v there i x own in
      let l = good.has_lc c.0 f c.1 in
      let no_op : own_op (at_place scene n) x ≡ None = sg.whole l.0 (ap lc_of c.1 ∙ l.1) in
      elim (eval_keys _ (script_at scene a.place) [] [] k wrote_) [
        | inl z ↦ absurd (cc z)
        | inr z ↦ (let e : slice_get (script_at scene x.place) z.0 ≡ Some z.1 = subst (λ (p : TxPlace). slice_get (script_at scene p) z.0 ≡ Some z.1) place z.2 in
            (sg.covers z.0 z.1 k (none_above (script_at scene x.place) x.next z.0 z.1 no_op e) e z.3, key_of_table scene.version scene.keys z.1 k (script_op scene ok x.place z.0 z.1 e) z.3))
      ]

  commit_at_master : (i : ℕ) (a : Answer) (f : ℕ) (k : KeyId) → IsAnswer (run scene events).answers i a → IsCommittedAt a f → wrote_key k (seen scene (run scene events).answers a).writes ≡ true → CommitAtMaster a f k
  commit_at_master i a f k ia c wrote_ =
      let en = entry scene ok (run scene events) (good_everywhere scene events) i a ia in
      let x : Own = en.made.x in
      let phase = committed_phase x.phase en.made.gets f c.0 en.made.decided (ap (λ (z : Answer). z.outcome) (sym en.made.same) ∙ c.1) in
      let st : BegunAt scene (stage_of (run scene events)) a.tx x =
      record { n = en.m; i = en.made.i; view = en.v; there = en.is_view; own = en.made.owns; name = ap (λ (z : Answer). z.tx) en.made.same } in
      let wr = wrote_it (run scene events).answers a en.m en.made.i en.v x f k en.is_view en.made.owns (ap (λ (z : Answer). z.place) en.made.same) phase wrote_ in
      let h = any_has (λ (u : Write). same_key u.key k) x.writes wr.0 in
      let key : h.0.key ≡ k = λ j. record { 0 = eqb-true h.0.key.0 k.0 h.2 j } in
      let m = master_of scene ok k wr.1 in
      record {
        x = x;
        stand = st;
        rs = ap (λ (z : Answer). z.rs.0) en.made.same;
        r = m.0;
        master = m.1;
        w = h.0;
        key = key;
        found = committed_stands scene (stage_of (run scene events)) (governed scene events).linked_ a.tx x st f phase h.0 h.1 m.0
            (subst (λ (z : KeyId). hosts scene m.0 (part_of scene z) ≡ true) (sym key) m.2);
      }

  one_master : (p : PartId) (r t : NodeId) → is_master scene r p ≡ true → is_master scene t p ≡ true → r ≡ t
  one_master p r t a b = by_row (replicas scene p) a b
    where
      by_row : (row : List NodeId) → leads r row ≡ true → leads t row ≡ true → r ≡ t
      by_row [] e g = absurd (cc e)
      by_row (z ∷ zs) e g = λ j. record { 0 = (sym (eqb-true z.0 r.0 e) ∙ eqb-true z.0 t.0 g) j }

  pub no_overlap : NoOverlap scene (run scene events).answers
  no_overlap i j f g a b k ia ib ne ca cb wa wb =
      let A = commit_at_master i a f k ia ca wa in
      let B = commit_at_master j b g k ib cb wb in
      let fa = A.found in
      let fb = B.found in
      let rr : A.r ≡ B.r = one_master (part_of scene k) A.r B.r A.master B.master in
      let both : record { 0 = fa.0 + 1 } ≡ record { 0 = fb.0 + 1 } = sym fa.3 ∙ (rr ∙ fb.3) in
      let node : fa.0 ≡ fb.0 = omega (arith, ap (λ (z : NodeId). z.0) both) in
      let view : fa.1 ≡ fb.1 = one_of fa.1 fb.1 (slice_get (run scene events).nodes fa.0) fa.4 (ap (λ (z : ℕ). slice_get (run scene events).nodes z) node ∙ fb.4) in
      let inb : In fb.2 fa.1.versions = subst (λ (z : View). In fb.2 z.versions) (sym view) fb.5 in
      let key : fa.2.key ≡ fb.2.key = fa.6.key_is ∙ (A.key ∙ (sym B.key ∙ sym fb.6.key_is)) in
      let mas : is_master scene (record { 0 = fa.0 + 1 }) fa.2.part ≡ true =
      subst₂ (λ (z : NodeId) (p : PartId). is_master scene z p ≡ true) fa.3 (sym (fa.6.part_is ∙ ap (part_of scene) A.key)) A.master in
      let other : fa.2.tx ≢ fb.2.tx = λ z. ne ((session_holds scene ok events).placed.names i j a b ia ib (sym fa.6.tx_is ∙ (z ∙ fb.6.tx_is))) in
      elim ((governed scene events).masters.order fa.0 fa.1 fa.4 fa.2 fb.2 fa.5 inb key mas other (kinds fa.1 f fa.2 fa.7) (kinds fb.1 g fb.2 fb.7)) [
        | inl z ↦ inl (below a f b A B z (at_final fa.1 f fa.2 fa.7 z.final) fb.6.tx_is)
        | inr z ↦ inr (below b g a B A z (at_final fb.1 g fb.2 fb.7 z.final) fa.6.tx_is)
      ]
    where
      below : (a : Answer) (f : ℕ) (b : Answer) {g : ℕ} → CommitAtMaster a f k → CommitAtMaster b g k → {q r : Version} → (z : IsBefore scene (stage_of (run scene events)) q r) → q.ts.0 ≡ f → r.tx ≡ b.tx → f ≤ b.rs.0
      below a f b A B {q} {r} z t u =
          let c : IsCertified scene (stage_of (run scene events)) b.tx z.rs z.lc z.ws = subst (λ (y : TxId). IsCertified scene (stage_of (run scene events)) y z.rs z.lc z.ws) u z.certified in
          let o = one_certified scene (stage_of (run scene events)) B.stand.n B.stand.i B.stand.view B.x b.tx z.rs z.lc z.ws B.stand.there B.stand.own B.stand.name c in
          omega (arith, t, z.below, o.2, B.rs)

-- the law
pub apart_holds : ApartHolds
apart_holds scene ok events = record {
  pre_local = pre_apart_local scene ok events;
  one_pre = one_pre scene events;
  writers = no_overlap scene ok events;
}
