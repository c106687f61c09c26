-- Each answer of a run may follow those before it.
use Rattle.si_laws.proofs.Isolation.BehindAnswers.{Behind, WriterOf, behind, commit_phase, committed_in, find_write, get_take, ground, has_written, known, take_get, times_of, writer_of}
use Rattle.si_laws.proofs.Isolation.WritersAnswered.{IsKept}
use Rattle.si_laws.proofs.CommitLists.CommitOrder.{named}
use Rattle.si_laws.proofs.Scripts.ReadsEvaluate.{Evaluates}
use Rattle.si_laws.proofs.Sessions.SessionHolds.{good_everywhere}
use Rattle.si_laws.proofs.Guards.GuardedNewest.{newest_none}
use Rattle.si_laws.proofs.CommitLists.NextAnswer.{Covered, Keeps}
use Rattle.si_laws.proofs.Guards.VersionOrigins.{HasWritten}
use Rattle.si_laws.proofs.CommitLists.ReadsSeen.{IsAbove, IsRight, Reads, of_none, of_one, reads_keep, reads_seen, top_of}
use Rattle.si_laws.proofs.Sources.FinalsReported.{CommittedIn}
use Rattle.str_model.proofs.OwnFacts.ScriptsCovered.{ScriptGood, scripts_after}
use Rattle.str_model.proofs.Principle.Everywhere.{at_place, stage_of}
use Rattle.si_laws.specs.Commits.{seen}
use Rattle.str_model.specs.Owned.{wrote_key}
use Rattle.si_laws.specs.SnapshotIsolation.{IsAnswer, IsCommittedAt, SI}
use Rattle.std.proofs.Common.{List, None, Option, Some, ap, arith, eq-eqb, find, inl, inr, refl, sym, take, true, ℕ, ◌<◌, ◌∙◌, ◌≡◌, ◌≤◌, ◌⊎◌}
use Rattle.str_base.specs.Versions.{same_key, stamp}
use Rattle.str_base.specs.declared.names.KeyId.{KeyId}
use Rattle.str_base.specs.declared.names.Ts.{Ts}
use Rattle.str_base.specs.declared.names.TxId.{TxId}
use Rattle.str_base.specs.declared.names.Value.TheVariants.{Absent}
use Rattle.str_base.specs.declared.names.Value.{Value}
use Rattle.str_base.specs.declared.names.Write.{Write}
use Rattle.str_model.specs.Evaluation.{AtEnd, Evaluated, Unmet, eval, write_or}
use Rattle.str_model.specs.Runs.{run}
use Rattle.str_model.specs.Views.{Own}
use Rattle.str_model.specs.declared.messages.Answer.{Answer}
use Rattle.str_model.specs.declared.messages.Outcome.TheVariants.{Committed as Commits}
use Rattle.str_model.specs.declared.names.Got.{Got}
use Rattle.str_model.specs.declared.names.ReadDone.{ReadDone}
use Rattle.str_scene.specs.SceneLimits.{IsScene}
use Rattle.str_scene.specs.Scenes.{Scene, script_at}
use Rattle.str_scene.specs.declared.names.Event.{Event}
use Rattle.str_scene.specs.declared.names.TxPlace.{TxPlace}
use Rattle.str_base.proofs.Members.{any_in, at_in, in_at}
use Rattle.str_base.specs.Members.{In}

-- what a transaction has got and written at the end of its script
abbrev pub done_of : List Got → Own → Evaluated
done_of gets x = record { gets = gets; writes = x.writes; stop = AtEnd }

-- and at a need that is not met
abbrev pub unmet_of : List Got → Own → Evaluated
unmet_of gets x = record { gets = gets; writes = x.writes; stop = Unmet }

module _ (scene : Scene) (ok : IsScene scene) (es : List Event) where
  -- the first n answers
  abbrev pub upto : ℕ → List Answer
  upto n = take n (run scene es).answers

  -- each commit among them is seen to give what its transaction has got and written
  abbrev pub SeenSo : ℕ → Type 0
  SeenSo n =
      (j : ℕ) (b : Answer) (ib : IsAnswer (run scene es).answers j b) (o : Option Ts) (gs : List Got) → j < n → b.outcome ≡ Commits o gs
      → seen scene (take n (run scene es).answers) b ≡ done_of (behind scene ok es j b ib).gets (behind scene ok es j b ib).x

  -- what its script has come to
  pub evaluates : (b : Answer) (B : Behind scene ok es b) → Evaluates (at_place scene B.n) B.x
  evaluates b B = ((good_everywhere scene es).nodes B.n B.v B.there).evaluates B.i B.x B.owns

  scripted : (b : Answer) (B : Behind scene ok es b) → ScriptGood (at_place scene B.n) B.x
  scripted b B = scripts_after scene ok es B.n B.v B.there B.i B.x B.owns

  -- the key of a write stands in its buffer
  wrote_in : (ws : List Write) (k : KeyId) (a : Value) → In (record { key = k; value = a }) ws → wrote_key k ws ≡ true
  wrote_in ws k a m = any_in (λ (z : Write). same_key z.key k) ws (record { key = k; value = a }) m (eq-eqb k.0 k.0 refl)

  module _ (n : ℕ) (si : SI scene (take n (run scene es).answers)) (so : SeenSo n) where
    -- a commit among them that is seen to write the key
    pub facts : (j : ℕ) (c : Answer) (ic : IsAnswer (run scene es).answers j c) (h : ℕ) (k : KeyId) → j < n → IsCommittedAt c h → wrote_key k (seen scene (take n (run scene es).answers) c).writes ≡ true
        → CommittedIn (stage_of (run scene es)) c.tx h × ((b : Value) × HasWritten scene (stage_of (run scene es)) c.tx k b)
    facts j c ic h k l cm wr =
        let C = behind scene ok es j c ic in
        let w : wrote_key k C.x.writes ≡ true = ap (λ (z : Evaluated). wrote_key k z.writes) (sym (so j c ic (Some (stamp h)) cm.0 l cm.1)) ∙ wr in
        (committed_in scene ok es c C h cm, has_written scene ok es c C h k cm w)

    -- a read of the m-th answer is right among the first n, where m is at most n
    pub right : (m : ℕ) (a : Answer) → IsAnswer (run scene es).answers m a → m ≤ n → (B : Behind scene ok es a) → IsKept (at_place scene B.n) B.x → (r : ReadDone) → In r B.x.reads
        → IsRight scene (take n (run scene es).answers) a r.key r.value
    right m a ia le B kept r mem = by_writer r.by refl
      where
        rs : a.rs.0 ≡ B.x.snap.rs
        rs = ap (λ (z : Answer). z.rs.0) B.same

        below : (h : ℕ) (c : Answer) → In c (take n (run scene es).answers) → (j : ℕ) × (j < n) × IsAnswer (run scene es).answers j c
        below h c ic = let p = at_in (take n (run scene es).answers) c ic in let q = take_get (run scene es).answers n p.0 c p.1 in (p.0, q.0, q.1)

        by_none : r.by ≡ None → IsRight scene (take n (run scene es).answers) a r.key r.value
        by_none q =
            let z = newest_none scene (stage_of (run scene es)) (ground scene ok es) B.n B.x.snap.rs r ((known scene ok es).guarded_.reads B.n B.v B.i B.x r B.there B.owns mem) q in
            of_none z.0 (λ c h ic cm l wr. (let p = below h c ic in let f = facts p.0 c p.2 h r.key p.1 cm wr in let g = z.1 c.tx h f.1.0 f.0 f.1.1 in omega (arith, g, l, rs)))

        by_some : (u : TxId) → r.by ≡ Some u → WriterOf scene ok es m B.x.snap.rs r u → IsRight scene (take n (run scene es).answers) a r.key r.value
        by_some u q w = of_one w.b w.f (record { within = within_; committed = w.committed; final = (let l = w.below in omega (arith, l, rs)); wrote = wrote_; top = top_ }) value_
          where
            less : w.j < n
            less = let l = w.less in omega (arith, l, le)

            its_seen : seen scene (take n (run scene es).answers) w.b ≡ done_of (behind scene ok es w.j w.b w.is).gets (behind scene ok es w.j w.b w.is).x
            its_seen = so w.j w.b w.is (Some (stamp w.f)) w.committed.0 less w.committed.1

            within_ : In w.b (take n (run scene es).answers)
            within_ = in_at (take n (run scene es).answers) w.j w.b (get_take (run scene es).answers n w.j w.b less w.is)

            wrote_ : wrote_key r.key (seen scene (take n (run scene es).answers) w.b).writes ≡ true
            wrote_ = ap (λ (z : Evaluated). wrote_key r.key z.writes) its_seen ∙ wrote_in (behind scene ok es w.j w.b w.is).x.writes r.key r.value w.write

            value_ : r.value ≡ write_or (find (λ z. same_key z.key r.key) (seen scene (take n (run scene es).answers) w.b).writes) Absent
            value_ =
                ap (λ o. write_or o Absent) (sym (find_write (behind scene ok es w.j w.b w.is).x.writes (record { key = r.key; value = r.value }) w.write (scripted w.b (behind scene ok es w.j w.b w.is)).once))
                ∙ ap (λ (z : Evaluated). write_or (find (λ y. same_key y.key r.key) z.writes) Absent) (sym its_seen)

            top_ : (c : Answer) (h : ℕ) → In c (take n (run scene es).answers) → IsCommittedAt c h → h ≤ a.rs.0 → wrote_key r.key (seen scene (take n (run scene es).answers) c).writes ≡ true → (c ≡ w.b) ⊎ (h < w.f)
            top_ c h ic cm l wr =
                let p = below h c ic in
                let f = facts p.0 c p.2 h r.key p.1 cm wr in
                elim (w.between c.tx h f.1.0 f.0 f.1.1) [
                  | inl y ↦ top_of scene (take n (run scene es).answers) r.key w.b c w.f h si within_ w.committed wrote_ ic cm wr y
                  | inr y ↦ absurd (omega (arith, y, l, rs))
                ]

        by_writer : (o : Option TxId) → r.by ≡ o → IsRight scene (take n (run scene es).answers) a r.key r.value
        by_writer None q = by_none q
        by_writer (Some u) q = by_some u q (writer_of scene ok es m a ia B kept r mem u q)

    -- the reads of a kept transaction, on which its script gives e
    pub own_reads : (m : ℕ) (a : Answer) → IsAnswer (run scene es).answers m a → m ≤ n → (B : Behind scene ok es a) → IsKept (at_place scene B.n) B.x → (e : Evaluated)
        → ((look : KeyId → Value) → ((r : ReadDone) → In r B.x.reads → look r.key ≡ r.value) → eval (script_at scene B.x.place) look ≡ e)
        → (q : Reads scene (take n (run scene es).answers) a e) × ((z : ReadDone) → In z q.reads → In z B.x.reads)
    own_reads m a ia le B kept e gives = (
      record {
        reads = B.x.reads;
        right = λ r mem. right m a ia le B kept r mem;
        gives = λ look ag. ap (λ (p : TxPlace). eval (script_at scene p) look) (ap (λ (z : Answer). z.place) B.same) ∙ gives look ag;
      },
      λ z mem. mem,
    )

    pub above : (m : ℕ) (a : Answer) → IsAnswer (run scene es).answers m a → IsAbove a
    above m a ia f cm = let B = behind scene ok es m a ia in let t = times_of scene ok es a B f cm in omega (arith, t.2, ap (λ (z : Answer). z.rs.0) B.same)

    -- the reads of a commit
    pub commit_reads : (m : ℕ) (a : Answer) (ia : IsAnswer (run scene es).answers m a) (o : Option Ts) (gs : List Got) → m ≤ n → a.outcome ≡ Commits o gs
        → (q : Reads scene (take n (run scene es).answers) a (done_of (behind scene ok es m a ia).gets (behind scene ok es m a ia).x)) × ((z : ReadDone) → In z q.reads → In z (behind scene ok es m a ia).x.reads)
    commit_reads m a ia o gs le e =
        let B = behind scene ok es m a ia in
        let p = commit_phase scene ok es a B o gs e in
        own_reads m a ia le B (inl (p.0, p.1, p.2)) (done_of B.gets B.x) (B.ends p.0 p.1 p.2)

    -- what a commit is seen to give
    pub commit_seen : (m : ℕ) (a : Answer) (ia : IsAnswer (run scene es).answers m a) (o : Option Ts) (gs : List Got) → m ≤ n → a.outcome ≡ Commits o gs
        → seen scene (take n (run scene es).answers) a ≡ done_of (behind scene ok es m a ia).gets (behind scene ok es m a ia).x
    commit_seen m a ia o gs le e =
        reads_seen scene (take n (run scene es).answers) a (done_of (behind scene ok es m a ia).gets (behind scene ok es m a ia).x) (named (take n (run scene es).answers) si.placed.names) (above m a ia) (commit_reads m a ia o gs le e).0

    -- a commit that is final at or below the snapshot of an earlier kept answer is covered on the keys of its reads
    pub covered : (m : ℕ) (b : Answer) → IsAnswer (run scene es).answers m b → m ≤ n → (B : Behind scene ok es b) → IsKept (at_place scene B.n) B.x → (c : Answer) (ic : IsAnswer (run scene es).answers n c) (f : ℕ)
        → IsCommittedAt c f → f ≤ b.rs.0 → (r : ReadDone) → In r B.x.reads → wrote_key r.key (seen scene (take n (run scene es).answers) c).writes ≡ true → Covered scene (take n (run scene es).answers) f b r.key
    covered m b ib le B kept c ic f cm lf r mem wr = by_writer r.by refl
      where
        rs : b.rs.0 ≡ B.x.snap.rs
        rs = ap (λ (z : Answer). z.rs.0) B.same

        C : Behind scene ok es c
        C = behind scene ok es n c ic

        new_facts : CommittedIn (stage_of (run scene es)) c.tx f × ((y : Value) × HasWritten scene (stage_of (run scene es)) c.tx r.key y)
        new_facts =
            let D = behind scene ok es n c ic in
            let w : wrote_key r.key D.x.writes ≡ true = ap (λ (z : Evaluated). wrote_key r.key z.writes) (sym (commit_seen n c ic (Some (stamp f)) cm.0 (omega arith) cm.1)) ∙ wr in
            (committed_in scene ok es c D f cm, has_written scene ok es c D f r.key cm w)

        by_some : (u : TxId) → r.by ≡ Some u → WriterOf scene ok es m B.x.snap.rs r u → Covered scene (take n (run scene es).answers) f b r.key
        by_some u q w =
            let less : w.j < n = (let l = w.less in omega (arith, l, le)) in
            elim (w.between c.tx f new_facts.1.0 new_facts.0 new_facts.1.1) [
              | inl y ↦ record {
                writer = w.b;
                place = w.j;
                fc = w.f;
                is = get_take (run scene es).answers n w.j w.b less w.is;
                committed = w.committed;
                above = y;
                final = (let l = w.below in omega (arith, l, rs));
                wrote = ap (λ (z : Evaluated). wrote_key r.key z.writes) (so w.j w.b w.is (Some (stamp w.f)) w.committed.0 less w.committed.1) ∙ wrote_in (behind scene ok es w.j w.b w.is).x.writes r.key r.value w.write;
              }
              | inr y ↦ absurd (omega (arith, y, lf, rs))
            ]

        by_writer : (o : Option TxId) → r.by ≡ o → Covered scene (take n (run scene es).answers) f b r.key
        by_writer None q =
            let z = newest_none scene (stage_of (run scene es)) (ground scene ok es) B.n B.x.snap.rs r ((known scene ok es).guarded_.reads B.n B.v B.i B.x r B.there B.owns mem) q in
            let g = z.1 c.tx f new_facts.1.0 new_facts.0 new_facts.1.1 in absurd (omega (arith, g, lf, rs))
        by_writer (Some u) q = by_some u q (writer_of scene ok es m b ib B kept r mem u q)

    -- what an earlier kept answer saw stays
    pub keeps_on : (m : ℕ) (b : Answer) (ib : IsAnswer (run scene es).answers m b) → m ≤ n → (B : Behind scene ok es b) → (kept : IsKept (at_place scene B.n) B.x) → (e : Evaluated)
        → (q : Reads scene (take n (run scene es).answers) b e) × ((z : ReadDone) → In z q.reads → In z B.x.reads) → (c : Answer) → IsAnswer (run scene es).answers n c → (f : ℕ) → IsCommittedAt c f → f ≤ b.rs.0
        → Keeps scene (take n (run scene es).answers) c f b
    keeps_on m b ib le B kept e q c ic f cm lf =
        reads_keep scene (take n (run scene es).answers) c b f e (named (take n (run scene es).answers) si.placed.names) (above m b ib) q.0
        (λ r mem wr. covered m b ib le B kept c ic f cm lf r (q.1 r mem) wr)
