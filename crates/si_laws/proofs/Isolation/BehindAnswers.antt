-- The own transaction behind an answer of a run, its reads and their writers.
use Rattle.si_laws.proofs.Isolation.WritersAnswered.{Answering, IsKept, answering, kept_reads}
use Rattle.si_laws.proofs.CommitLists.AnswersBefore.{Precedes}
use Rattle.si_laws.proofs.Guards.GuardGrounds.{Committer, Grounds, committer}
use Rattle.si_laws.proofs.Stages.LinkedStates.{one_certified, one_of}
use Rattle.str_model.proofs.Changes.MasterChanges.{AreDistinct, one_write}
use Rattle.si_laws.proofs.Guards.GuardedNewest.{NoneBetween, newest_some}
use Rattle.si_laws.proofs.Guards.VersionOrigins.{HasWritten}
use Rattle.si_laws.proofs.Sources.FinalsReported.{CommittedIn}
use Rattle.si_laws.proofs.Sessions.SessionAnswers.{entry, session_holds}
use Rattle.si_laws.proofs.Sessions.SessionHolds.{good_everywhere}
use Rattle.str_model.proofs.Changes.PairWords.{any_has}
use Rattle.str_model.proofs.Principle.Everywhere.{Stage, at_place, stage_of}
use Rattle.str_model.proofs.Changes.AnswerChanges.{outcome_of, told}
use Rattle.si_laws.proofs.Scripts.ReadsEvaluate.{Ends, find_is}
use Rattle.si_laws.specs.SnapshotIsolation.{IsAnswer, IsCommittedAt}
use Rattle.std.proofs.Common.{List, None, Option, Some, [], ap, arith, eq-eqb, eqb-true, find, inl, inr, option_map, refl, slice_get, subst, subst₂, suc, sym, take, true, zero, ℕ, ◌<◌, ◌∙◌, ◌∷◌, ◌≡◌, ◌≤◌}
use Rattle.str_base.specs.Versions.{same_key, stamp}
use Rattle.str_base.specs.declared.names.KeyId.{KeyId}
use Rattle.str_base.specs.declared.names.Ts.{Ts}
use Rattle.str_base.specs.declared.names.TxId.{TxId}
use Rattle.str_base.specs.declared.names.Value.{Value}
use Rattle.str_base.specs.declared.names.Write.{Write}
use Rattle.str_model.specs.Owned.{Owns, wrote_key}
use Rattle.str_model.specs.Runs.{run}
use Rattle.str_model.specs.Turns.{own_fate, phase_fate}
use Rattle.str_model.specs.Views.{Aborted, Active, CertWait, Closing, Committed, Global, Local, Own, Phase, ReadWait, Remote, Reply, View, is_decided, lc_of, name_of}
use Rattle.str_model.specs.declared.messages.Answer.{Answer}
use Rattle.str_model.specs.declared.messages.Outcome.TheVariants.{Committed as Commits}
use Rattle.str_model.specs.declared.names.Got.{Got}
use Rattle.str_model.specs.declared.names.ReadDone.{ReadDone}
use Rattle.str_scene.specs.SceneLimits.{IsScene}
use Rattle.str_scene.specs.Scenes.{Scene}
use Rattle.str_scene.specs.declared.names.Event.{Event}
use Rattle.str_base.proofs.Members.{at_in, find_none}
use Rattle.str_base.specs.Members.{In}

-- ---- lists

pub take_get : {A : Type 0} (xs : List A) (n j : ℕ) (x : A) → slice_get (take n xs) j ≡ Some x → (j < n) × (slice_get xs j ≡ Some x)
take_get xs zero j x e = absurd cc
take_get [] (suc n) j x e = absurd cc
take_get (y ∷ ys) (suc n) zero x e = (omega arith, e)
take_get (y ∷ ys) (suc n) (suc j) x e = let r = take_get ys n j x e in (omega (arith, r.0), r.1)

pub get_take : {A : Type 0} (xs : List A) (n j : ℕ) (x : A) → j < n → slice_get xs j ≡ Some x → slice_get (take n xs) j ≡ Some x
get_take xs zero j x l e = absurd (omega (arith, l))
get_take [] (suc n) j x l e = absurd cc
get_take (y ∷ ys) (suc n) zero x l e = e
get_take (y ∷ ys) (suc n) (suc j) x l e = get_take ys n j x (omega (arith, l)) e

precedes_at : (xs : List Answer) (b a : Answer) → Precedes xs b a → (j : ℕ) × (k : ℕ) × (j < k) × (slice_get xs j ≡ Some b) × (slice_get xs k ≡ Some a)
precedes_at [] b a h = absurd h
precedes_at (x ∷ xs) b a (inl h) = let r = at_in xs a h.1 in (zero, suc r.0, omega arith, ap Some h.0, r.1)
precedes_at (x ∷ xs) b a (inr h) = let r = precedes_at xs b a h in (suc r.0, suc r.1, omega (arith, r.2), r.3, r.4)

-- of writes of distinct keys each is found by its key
pub find_write : (ws : List Write) (w : Write) → In w ws → AreDistinct ws → find (λ (z : Write). same_key z.key w.key) ws ≡ Some w
find_write ws w m dist = by_found (find (λ (z : Write). same_key z.key w.key) ws) refl
  where
    by_found : (o : Option Write) → find (λ (z : Write). same_key z.key w.key) ws ≡ o → find (λ (z : Write). same_key z.key w.key) ws ≡ Some w
    by_found None q = absurd (let f = find_none (λ (z : Write). same_key z.key w.key) ws w q m in let t : same_key w.key w.key ≡ true = eq-eqb w.key.0 w.key.0 refl in cc (f, t))
    by_found (Some z) q =
        let f = find_is (λ (z : Write). same_key z.key w.key) ws z q in
        let k : z.key.0 ≡ w.key.0 = eqb-true z.key.0 w.key.0 f.1 in
        q ∙ ap Some (one_write ws dist z w f.0 m (λ i. record { 0 = k i }))

-- the outcome of a commit
phase_of : (p : Phase) (gets : List Got) (o : Option Ts) (gs : List Got) → is_decided p ≡ true → outcome_of p gets ≡ Commits o gs → (lc : Option ℕ) × (fc : Option ℕ) × (p ≡ Committed lc fc) × (option_map stamp fc ≡ o) × (gets ≡ gs)
phase_of (Committed lc fc) gets o gs d e = (lc, fc, refl, cc e, cc e)
phase_of (Aborted lc c) gets o gs d e = absurd (cc e)
phase_of Active gets o gs d e = absurd (cc d)
phase_of (ReadWait k) gets o gs d e = absurd (cc d)
phase_of (Remote k) gets o gs d e = absurd (cc d)
phase_of (Reply k v by fc) gets o gs d e = absurd (cc d)
phase_of CertWait gets o gs d e = absurd (cc d)
phase_of (Closing b) gets o gs d e = absurd (cc d)
phase_of (Local lc) gets o gs d e = absurd (cc d)
phase_of (Global lc) gets o gs d e = absurd (cc d)

stamp_one : (fc : Option ℕ) (f : ℕ) → option_map stamp fc ≡ Some (stamp f) → fc ≡ Some f
stamp_one None f e = absurd (cc e)
stamp_one (Some g) f e = let q : stamp g ≡ stamp f = cc e in ap (λ (t : Ts). Some t.0) q

module _ (scene : Scene) (ok : IsScene scene) (es : List Event) where
  -- the state at the end
  abbrev pub last : Stage
  last = stage_of (run scene es)

  pub known : Answering scene (stage_of (run scene es))
  known = answering scene ok es

  pub ground : Grounds scene (stage_of (run scene es))
  ground = known.guarded_.grounds_

  -- the transaction behind an answer
  pub record Behind (b : Answer) : Type 0 where
    pub n : ℕ
    pub i : ℕ
    pub v : View
    pub x : Own
    pub there : slice_get (run scene es).nodes n ≡ Some v
    pub owns : Owns v i x
    pub decided : is_decided x.phase ≡ true
    pub gets : List Got
    pub same : b ≡ told (at_place scene n) i x gets
    pub ends : Ends (at_place scene n) x gets

  pub behind : (j : ℕ) (b : Answer) → IsAnswer (run scene es).answers j b → Behind b
  behind j b ib =
      let e = entry scene ok (run scene es) (good_everywhere scene es) j b ib in
      record { n = e.m; i = e.made.i; v = e.v; x = e.made.x; there = e.is_view; owns = e.made.owns; decided = e.made.decided; gets = e.made.gets; same = e.made.same; ends = e.made.ends }

  -- of a commit
  pub commit_phase : (b : Answer) (B : Behind b) (o : Option Ts) (gs : List Got) → b.outcome ≡ Commits o gs → (lc : Option ℕ) × (fc : Option ℕ) × (B.x.phase ≡ Committed lc fc) × (option_map stamp fc ≡ o) × (B.gets ≡ gs)
  commit_phase b B o gs e = phase_of B.x.phase B.gets o gs B.decided (sym (ap (λ (z : Answer). z.outcome) B.same) ∙ e)

  pub phase_at : (b : Answer) (B : Behind b) (h : ℕ) → IsCommittedAt b h → (lc : Option ℕ) × (B.x.phase ≡ Committed lc (Some h))
  phase_at b B h c =
      let p = commit_phase b B (Some (stamp h)) c.0 c.1 in
      let t : p.1 ≡ Some h = stamp_one p.1 h p.3 in (p.0, p.2 ∙ ap (λ z. Committed p.0 z) t)

  pub committed_in : (b : Answer) (B : Behind b) (h : ℕ) → IsCommittedAt b h → CommittedIn (stage_of (run scene es)) b.tx h
  committed_in b B h c =
      let p = phase_at b B h c in
      record {
        node = B.n;
        at_node = ap (λ (z : Answer). z.tx.node.0) B.same;
        place = B.i;
        at_place_ = ap (λ (z : Answer). z.tx.seq) B.same;
        view = B.v;
        there = B.there;
        fate = ap own_fate B.owns ∙ ap phase_fate p.1;
      }

  pub times_of : (b : Answer) (B : Behind b) (h : ℕ) → IsCommittedAt b h → (lc : ℕ) × (lc_of B.x.phase ≡ Some lc) × (B.x.snap.rs < h)
  times_of b B h c =
      let p = phase_at b B h c in
      let t = (ground.governed_.stand B.n B.v B.there).base.times.each B.i B.x B.owns in
      let f = t.fc p.0 h p.1 in
      let lq : lc_of B.x.phase ≡ Some f.0 = ap lc_of p.1 ∙ f.1 in
      let l = t.lc f.0 lq in (f.0, lq, omega (arith, f.2, l.0))

  pub has_written : (b : Answer) (B : Behind b) (h : ℕ) (k : KeyId) → IsCommittedAt b h → wrote_key k B.x.writes ≡ true → (a : Value) × HasWritten scene (stage_of (run scene es)) b.tx k a
  has_written b B h k c w =
      let a = any_has (λ (z : Write). same_key z.key k) B.x.writes w in
      let kk : a.0.key.0 ≡ k.0 = eqb-true a.0.key.0 k.0 a.2 in
      let key : a.0.key ≡ k = λ i. record { 0 = kk i } in
      let t = times_of b B h c in (
        a.0.value,
        record {
          rs = B.x.snap.rs;
          lc = t.0;
          ws = B.x.writes;
          certified = record { n = B.n; i = B.i; view = B.v; x = B.x; there = B.there; own = B.owns; name = ap (λ (z : Answer). z.tx) B.same; lc_is = t.1; writes = refl; rs_is = refl };
          write = subst (λ (z : KeyId). In (record { key = z; value = a.0.value }) B.x.writes) key a.1;
        },
      )

  -- the writer of a read, which was answered before
  pub record WriterOf (m : ℕ) (rs : ℕ) (r : ReadDone) (u : TxId) : Type 0 where
    pub f : ℕ
    pub below : f ≤ rs
    pub between : NoneBetween scene (stage_of (run scene es)) ground r.key rs f
    pub b : Answer
    pub j : ℕ
    pub less : j < m
    pub is : IsAnswer (run scene es).answers j b
    pub committed : IsCommittedAt b f
    pub write : In (record { key = r.key; value = r.value }) (behind j b is).x.writes

  pub writer_of : (m : ℕ) (a : Answer) → IsAnswer (run scene es).answers m a → (B : Behind a) → IsKept (at_place scene B.n) B.x → (r : ReadDone) → In r B.x.reads → (u : TxId) → r.by ≡ Some u → WriterOf m B.x.snap.rs r u
  writer_of m a ia B kept r mem u by = build (precedes_at (run scene es).answers before.1 (told (at_place scene B.n) B.i B.x before.0) before.2)
    where
      before : (gets : List Got) × (b : Answer) × Precedes (run scene es).answers b (told (at_place scene B.n) B.i B.x gets) × (b.tx ≡ u)
      before = known.first B.n B.v B.i B.x r u B.there B.owns kept mem by

      fate : (f : ℕ) × CommittedIn (stage_of (run scene es)) u f × (f ≤ B.x.snap.rs)
      fate = kept_reads scene (stage_of (run scene es)) known.guarded_ known.wished B.n B.v B.i B.x r u B.there B.owns kept mem by

      newest : HasWritten scene (stage_of (run scene es)) u r.key r.value × NoneBetween scene (stage_of (run scene es)) ground r.key B.x.snap.rs fate.0
      newest = newest_some scene (stage_of (run scene es)) ground B.n B.x.snap.rs r u fate.0 (known.guarded_.reads B.n B.v B.i B.x r B.there B.owns mem) by fate.1

      its : (b : Answer) (C : Behind b) → b.tx ≡ u → IsCommittedAt b fate.0 × In (record { key = r.key; value = r.value }) C.x.writes
      its b C q =
          let z : Committer scene (stage_of (run scene es)) u fate.0 = committer scene (stage_of (run scene es)) u fate.0 fate.1 in
          let name : u ≡ name_of (at_place scene C.n) C.i = sym q ∙ ap (λ (y : Answer). y.tx) C.same in
          let node : z.at_.n ≡ C.n = omega (arith, ap (λ (y : TxId). y.node.0) (sym z.at_.name ∙ name)) in
          let place : z.at_.i ≡ C.i = omega (arith, ap (λ (y : TxId). y.seq) (sym z.at_.name ∙ name)) in
          let view : z.at_.view ≡ C.v = one_of z.at_.view C.v (slice_get (run scene es).nodes C.n) (subst (λ (k : ℕ). slice_get (run scene es).nodes k ≡ Some z.at_.view) node z.at_.there) C.there in
          let own : z.x ≡ C.x = one_of z.x C.x (slice_get C.v.own C.i) (subst₂ (λ (y : View) (k : ℕ). slice_get y.own k ≡ Some z.x) view place z.at_.own) C.owns in
          let phase : C.x.phase ≡ Committed z.is.0 (Some fate.0) = ap (λ (y : Own). y.phase) (sym own) ∙ z.is.1 in
          let ce = newest.0.certified in
          let ws = one_certified scene (stage_of (run scene es)) C.n C.i C.v C.x u newest.0.rs newest.0.lc newest.0.ws C.there C.owns name ce in
          ((C.gets, ap (λ (y : Answer). y.outcome) C.same ∙ ap (λ p. outcome_of p C.gets) phase), subst (In (record { key = r.key; value = r.value })) (sym ws.0) newest.0.write)

      build : (j : ℕ) × (k : ℕ) × (j < k) × (slice_get (run scene es).answers j ≡ Some before.1) × (slice_get (run scene es).answers k ≡ Some (told (at_place scene B.n) B.i B.x before.0)) → WriterOf m B.x.snap.rs r u
      build z =
          let place : z.1 ≡ m = (session_holds scene ok es).placed.names z.1 m (told (at_place scene B.n) B.i B.x before.0) a z.4 ia (ap (λ (y : Answer). y.tx) (sym B.same)) in
          let t = its before.1 (behind z.0 before.1 z.3) before.3 in
          record { f = fate.0; below = fate.2; between = newest.1; b = before.1; j = z.0; less = omega (arith, z.2, place); is = z.3; committed = t.0; write = t.1 }
