-- Snapshot isolation of every run.
use Rattle.si_laws.proofs.Isolation.WritersAnswered.{IsKept}
use Rattle.si_laws.proofs.Order.CertifiedVersions.{ArrivedAs, a_final, a_pre, committed_stands}
use Rattle.si_laws.proofs.Isolation.BehindAnswers.{Behind, behind, commit_phase, committed_in, get_take, ground, has_written, take_get, times_of}
use Rattle.si_laws.proofs.Scripts.ReadsEvaluate.{PhaseGives, StopsBy, abort-wishes}
use Rattle.si_laws.proofs.Guards.GuardGrounds.{committed_write, committer}
use Rattle.si_laws.proofs.Isolation.AnswersFollow.{SeenSo, commit_reads, commit_seen, done_of, evaluates, facts, keeps_on, own_reads, unmet_of}
use Rattle.si_laws.proofs.Stages.LinkedStates.{IsCertified, one_certified}
use Rattle.si_laws.proofs.Order.MasterFacts.{IsBefore}
use Rattle.si_laws.proofs.Guards.GuardedNewest.{commit_at}
use Rattle.si_laws.proofs.CommitLists.NextAnswer.{IsNext, Keeps, SeenNext, seen_next}
use Rattle.si_laws.proofs.CommitLists.NextHolds.{si_next, si_none}
use Rattle.si_laws.proofs.Order.WritersApart.{at_final, key_of_table, master_of}
use Rattle.si_laws.proofs.CommitLists.ReadsSeen.{reads_seen}
use Rattle.si_laws.proofs.CommitLists.CommitOrder.{named}
use Rattle.str_model.proofs.OwnFacts.ScriptsCovered.{scripts_after}
use Rattle.si_laws.proofs.Sessions.SessionAnswers.{session_holds}
use Rattle.str_model.proofs.Principle.Everywhere.{at_place, stage_of}
use Rattle.str_model.proofs.Changes.AnswerChanges.{outcome_of}
use Rattle.si_laws.proofs.Isolation.AnswersFollow
use Rattle.si_laws.specs.Commits.{seen}
use Rattle.str_model.specs.Owned.{wrote_key}
use Rattle.si_laws.specs.SnapshotIsolation.{IsAnswer, IsCommittedAt, IsCommittedSnapshot, IsFinal, IsWish, SI, SIRun}
use Rattle.std.proofs.Common.{List, None, Option, Some, [], ap, arith, inl, inr, length, option_map, refl, slice_get, subst, subst₂, suc, sym, take, true, zero, ℕ, ◌++◌, ◌+◌, ◌<◌, ◌∙◌, ◌∷◌, ◌≡◌, ◌≢◌, ◌≤◌, ◌⊎◌}
use Rattle.str_base.specs.Versions.{stamp}
use Rattle.str_base.specs.declared.names.Cause.TheVariants.{Wish}
use Rattle.str_base.specs.declared.names.Cause.{Cause}
use Rattle.str_base.specs.declared.names.KeyId.{KeyId}
use Rattle.str_base.specs.declared.names.Kind.TheVariants.{Local as LocalKind}
use Rattle.str_base.specs.declared.names.NodeId.{NodeId}
use Rattle.str_base.specs.declared.names.PartId.{PartId}
use Rattle.str_base.specs.declared.names.Ts.{Ts}
use Rattle.str_base.specs.declared.names.TxId.{TxId}
use Rattle.str_base.specs.declared.names.Value.{Value}
use Rattle.str_base.specs.declared.names.Version.{Version}
use Rattle.str_model.specs.Evaluation.{Evaluated, eval}
use Rattle.str_model.specs.Runs.{run}
use Rattle.str_model.specs.Scripts.{own_op}
use Rattle.str_model.specs.Views.{Aborted, Active, CertWait, Closing, Committed, Global, Local, Phase, ReadWait, Remote, Reply, View, is_decided}
use Rattle.str_model.specs.declared.messages.Answer.{Answer}
use Rattle.str_model.specs.declared.messages.Outcome.TheVariants.{Aborted as Aborts, Committed as Commits}
use Rattle.str_model.specs.declared.messages.Outcome.{Outcome}
use Rattle.str_model.specs.declared.names.Got.{Got}
use Rattle.str_scene.specs.SceneLimits.{IsScene}
use Rattle.str_scene.specs.Scenes.{Scene, hosts, is_master, part_of, script_at}
use Rattle.str_scene.specs.declared.names.Event.{Event}
use Rattle.str_scene.specs.declared.names.Op.TheVariants.{Abort as Give, Add, Del, Get, Need, Put, Puts}
use Rattle.str_scene.specs.declared.names.Op.{Op}
use Rattle.str_scene.specs.declared.names.TxPlace.{TxPlace}
use Rattle.std.proofs.lemmas.Bool.{cases_eq}
use Rattle.str_model.proofs.ViewFacts.MarksRise.{script_op}

-- one more is taken, or there is none
take_one : {A : Type 0} (xs : List A) (n : ℕ) → ((x : A) × (slice_get xs n ≡ Some x) × (take (suc n) xs ≡ take n xs ++ x ∷ [])) ⊎ ((slice_get xs n ≡ None) × (take (suc n) xs ≡ take n xs))
take_one [] zero = inr (refl, refl)
take_one [] (suc n) = inr (refl, refl)
take_one (x ∷ xs) zero = inl (x, refl, refl)
take_one (x ∷ xs) (suc n) = elim (take_one xs n) [ inl h ↦ inl (h.0, h.1, ap (λ ys. x ∷ ys) h.2) | inr h ↦ inr (h.0, ap (λ ys. x ∷ ys) h.1) ]

-- the phase of a wish
wish_phase : (p : Phase) (gets : List Got) → is_decided p ≡ true → outcome_of p gets ≡ Aborts Wish → (lc : Option ℕ) × (p ≡ Aborted lc Wish)
wish_phase (Committed lc fc) gets d e = absurd (cc e)
wish_phase (Aborted lc c) gets d e = let q : c ≡ Wish = cc e in (lc, ap (λ z. Aborted lc z) q)
wish_phase Active gets d e = absurd (cc d)
wish_phase (ReadWait k) gets d e = absurd (cc d)
wish_phase (Remote k) gets d e = absurd (cc d)
wish_phase (Reply k v by fc) gets d e = absurd (cc d)
wish_phase CertWait gets d e = absurd (cc d)
wish_phase (Closing b) gets d e = absurd (cc d)
wish_phase (Local lc) gets d e = absurd (cc d)
wish_phase (Global lc) gets d e = absurd (cc d)

-- the next operation is an abort, or not
stop_or_not : (o : Option Op) → (o ≡ Some Give) ⊎ (o ≢ Some Give)
stop_or_not None = inr (λ q. cc q)
stop_or_not (Some (Get k)) = inr (λ q. (let z : Get k ≡ Give = cc q in cc z))
stop_or_not (Some (Put k m)) = inr (λ q. (let z : Put k m ≡ Give = cc q in cc z))
stop_or_not (Some (Puts k t)) = inr (λ q. (let z : Puts k t ≡ Give = cc q in cc z))
stop_or_not (Some (Add k m)) = inr (λ q. (let z : Add k m ≡ Give = cc q in cc z))
stop_or_not (Some (Del k)) = inr (λ q. (let z : Del k ≡ Give = cc q in cc z))
stop_or_not (Some (Need k m)) = inr (λ q. (let z : Need k m ≡ Give = cc q in cc z))
stop_or_not (Some Give) = inl refl

module _ (scene : Scene) (ok : IsScene scene) (es : List Event) where
  -- a wish: by an abort of the script, or at a need after reads that are final
  data WishKind (b : Answer) (B : Behind scene ok es b) : Type 0 where
    by_abort : ((look : KeyId → Value) → IsWish (eval (script_at scene b.place) look) (Aborts Wish)) → WishKind b B
    by_need : IsKept (at_place scene B.n) B.x → (gets : List Got) → StopsBy (at_place scene B.n) B.x gets Rattle.str_model.specs.Evaluation.Unmet → WishKind b B

  wish_kind : (b : Answer) (B : Behind scene ok es b) → b.outcome ≡ Aborts Wish → WishKind b B
  wish_kind b B e = by_op (stop_or_not (own_op (at_place scene B.n) B.x))
    where
      phase : (lc : Option ℕ) × (B.x.phase ≡ Aborted lc Wish)
      phase = wish_phase B.x.phase B.gets B.decided (sym (ap (λ (z : Answer). z.outcome) B.same) ∙ e)

      by_op : (own_op (at_place scene B.n) B.x ≡ Some Give) ⊎ (own_op (at_place scene B.n) B.x ≢ Some Give) → WishKind b B
      by_op (inl q) = by_abort (λ look. abort-wishes look (script_at scene b.place) B.x.next [] [] (ap (λ (p : TxPlace). slice_get (script_at scene p) B.x.next) (ap (λ (z : Answer). z.place) B.same) ∙ q))
      by_op (inr q) =
          let p : PhaseGives (at_place scene B.n) B.x (Aborted phase.0 Wish) = subst (PhaseGives (at_place scene B.n) B.x) phase.1 (evaluates scene ok es b B).phase in
          elim p as (λ z. WishKind b B) [ inl y ↦ by_need (inr ((phase.0, phase.1), q)) y.0 y.1 | inr y ↦ absurd (q y) ]

  module _ (n : ℕ) (a : Answer) (ia : IsAnswer (run scene es).answers n a) (si : SI scene (take n (run scene es).answers)) (so : SeenSo scene ok es n) where
    A : Behind scene ok es a
    A = behind scene ok es n a ia

    old : (j : ℕ) (b : Answer) → IsAnswer (take n (run scene es).answers) j b → (j < n) × IsAnswer (run scene es).answers j b
    old j b ib = take_get (run scene es).answers n j b ib

    snapshot_ : (o : Outcome) → a.outcome ≡ o → IsCommittedSnapshot (seen scene (take n (run scene es).answers) a) a.rs.0 o
    snapshot_ (Aborts c) e = tt
    snapshot_ (Commits o gs) e =
        let B = behind scene ok es n a ia in
        let p = commit_phase scene ok es a B o gs e in
        subst (λ (z : Evaluated). IsCommittedSnapshot z a.rs.0 (Commits o gs)) (sym (commit_seen scene ok es n si so n a ia o gs (omega arith) e)) (refl, p.4, final_ B p.0 p.1 p.2 p.3)
      where
        final_ : (B : Behind scene ok es a) (lc fc : Option ℕ) → B.x.phase ≡ Committed lc fc → option_map stamp fc ≡ o → IsFinal a.rs.0 o B.x.writes
        final_ B lc None q t = subst (λ (z : Option Ts). IsFinal a.rs.0 z B.x.writes) t ((subst (PhaseGives (at_place scene B.n) B.x) q (evaluates scene ok es a B).phase).1)
        final_ B lc (Some f) q t =
            let cm : IsCommittedAt a f = (gs, e ∙ ap (λ (z : Option Ts). Commits z gs) (sym t)) in
            let l = (times_of scene ok es a B f cm).2 in
            subst (λ (z : Option Ts). IsFinal a.rs.0 z B.x.writes) t ((subst (PhaseGives (at_place scene B.n) B.x) q (evaluates scene ok es a B).phase).1, omega (arith, l, ap (λ (z : Answer). z.rs.0) B.same))

    wish_seen : a.outcome ≡ Aborts Wish → IsWish (seen scene (take n (run scene es).answers) a) (Aborts Wish)
    wish_seen e = by_kind (behind scene ok es n a ia) (wish_kind a (behind scene ok es n a ia) e)
      where
        by_kind : (B : Behind scene ok es a) → WishKind a B → IsWish (seen scene (take n (run scene es).answers) a) (Aborts Wish)
        by_kind B (by_abort f) = f _
        by_kind B (by_need kept gets stops) =
            let r = own_reads scene ok es n si so n a ia (omega arith) B kept (unmet_of gets B.x) stops in
            let q = reads_seen scene (take n (run scene es).answers) a (unmet_of gets B.x) (named (take n (run scene es).answers) si.placed.names) (AnswersFollow.above scene ok es n si so n a ia) r.0 in
            inl (ap (λ (z : Evaluated). z.stop) q)

    wish_ : (o : Outcome) → a.outcome ≡ o → IsWish (seen scene (take n (run scene es).answers) a) o
    wish_ (Commits o gs) e = tt
    wish_ (Aborts Wish) e = wish_seen e
    wish_ (Aborts (Rattle.str_base.specs.declared.names.Cause.TheVariants.Conflict u k m)) e = tt
    wish_ (Aborts (Rattle.str_base.specs.declared.names.Cause.TheVariants.Lost u)) e = tt
    wish_ (Aborts (Rattle.str_base.specs.declared.names.Cause.TheVariants.Late u t)) e = tt

    keeps_ : (j f : ℕ) (b : Answer) (o : Option Ts) (gets : List Got) → IsAnswer (take n (run scene es).answers) j b → IsCommittedAt a f → b.outcome ≡ Commits o gets → f ≤ b.rs.0 → Keeps scene (take n (run scene es).answers) a f b
    keeps_ j f b o gets ib cm e l =
        let q = old j b ib in
        let B = behind scene ok es j b q.1 in
        let p = commit_phase scene ok es b B o gets e in
        keeps_on scene ok es n si so j b q.1 (let z = q.0 in omega (arith, z)) B (inl (p.0, p.1, p.2)) (done_of B.gets B.x) (commit_reads scene ok es n si so j b q.1 o gets (let z = q.0 in omega (arith, z)) e) a ia f cm l

    wishes_ : (j f : ℕ) (b : Answer) → IsAnswer (take n (run scene es).answers) j b → IsCommittedAt a f → b.outcome ≡ Aborts Wish → f ≤ b.rs.0
        → Keeps scene (take n (run scene es).answers) a f b ⊎ ((look : KeyId → Value) → IsWish (eval (script_at scene b.place) look) (Aborts Wish))
    wishes_ j f b ib cm e l = by_kind (old j b ib) (behind scene ok es j b (old j b ib).1) (wish_kind b (behind scene ok es j b (old j b ib).1) e)
      where
        by_kind : (j < n) × IsAnswer (run scene es).answers j b → (B : Behind scene ok es b) → WishKind b B
            → Keeps scene (take n (run scene es).answers) a f b ⊎ ((look : KeyId → Value) → IsWish (eval (script_at scene b.place) look) (Aborts Wish))
        by_kind q B (by_abort g) = inr g
        by_kind q B (by_need kept gets stops) =
            let le : j ≤ n = (let z = q.0 in omega (arith, z)) in
            inl (keeps_on scene ok es n si so j b q.1 le B kept (unmet_of gets B.x) (own_reads scene ok es n si so j b q.1 le B kept (unmet_of gets B.x) stops) a ia f cm l)

    -- of two writers of one key one is final at or below the other's snapshot
    apart_ : (j f g : ℕ) (b : Answer) (k : KeyId) → IsAnswer (take n (run scene es).answers) j b → IsCommittedAt a f → IsCommittedAt b g → wrote_key k (seen scene (take n (run scene es).answers) a).writes ≡ true
        → wrote_key k (seen scene (take n (run scene es).answers) b).writes ≡ true → (f ≤ b.rs.0) ⊎ (g ≤ a.rs.0)
    apart_ j f g b k ib ca cb wa wb = by_buffers (old j b ib) (behind scene ok es n a ia) (ap (λ (z : Evaluated). wrote_key k z.writes) (sym (commit_seen scene ok es n si so n a ia (Some (stamp f)) ca.0 (omega arith) ca.1)) ∙ wa)
      where
        not_local : (v : View) (h : ℕ) (q : Version) → ArrivedAs v h q → q.kind ≢ LocalKind
        not_local v h q (a_final t e) z = cc (sym t ∙ z)
        not_local v h q (a_pre t le nd) z = cc (sym t ∙ z)

        -- the one before the other
        before : (c : Answer) (C : Behind scene ok es c) (q r : Version) (h : ℕ) → IsBefore scene (stage_of (run scene es)) q r → q.ts.0 ≡ h → r.tx ≡ c.tx → h ≤ c.rs.0
        before c C q r h z t u =
            let ce : IsCertified scene (stage_of (run scene es)) c.tx z.rs z.lc z.ws = subst (λ (y : TxId). IsCertified scene (stage_of (run scene es)) y z.rs z.lc z.ws) u z.certified in
            let o = one_certified scene (stage_of (run scene es)) C.n C.i C.v C.x c.tx z.rs z.lc z.ws C.there C.owns (ap (λ (y : Answer). y.tx) C.same) ce in
            omega (arith, t, z.below, o.1, ap (λ (y : Answer). y.rs.0) C.same)

        by_buffers : (j < n) × IsAnswer (run scene es).answers j b → (B : Behind scene ok es a) → wrote_key k B.x.writes ≡ true → (f ≤ b.rs.0) ⊎ (g ≤ a.rs.0)
        by_buffers q B w =
            let C = behind scene ok es j b q.1 in
            let z = (scripts_after scene ok es B.n B.v B.there B.i B.x B.owns).inside k w in
            let within : k.0 < length scene.keys.names = key_of_table scene.version scene.keys z.1 k (script_op scene ok B.x.place z.0 z.1 z.2) z.3 in
            let m = master_of scene ok k within in
            let wa' = has_written scene ok es a B f k ca w in
            let ia' = committed_in scene ok es a B f ca in
            let fb = facts scene ok es n si so j b q.1 g k q.0 cb wb in
            let y = committer scene (stage_of (run scene es)) a.tx f ia' in
            let G = ground scene ok es in
            let fa = committed_stands scene (stage_of (run scene es)) G.governed_.linked_ a.tx y.x y.at_ f y.is (record { key = k; value = wa'.0 })
            (committed_write scene (stage_of (run scene es)) a.tx f k wa'.0 y wa'.1) m.0 m.2 in
            let hosted : hosts scene (record { 0 = fa.0 + 1 }) (part_of scene k) ≡ true = subst (λ (t : NodeId). hosts scene t (part_of scene k) ≡ true) fa.3 m.2 in
            let at_b = commit_at scene (stage_of (run scene es)) G b.tx g k fb.1.0 fb.0 fb.1.1 fa.0 fa.1 fa.4 hosted in
            let mas : is_master scene (record { 0 = fa.0 + 1 }) fa.2.part ≡ true = subst₂ (λ (t : NodeId) (p : PartId). is_master scene t p ≡ true) fa.3 (sym fa.6.part_is) m.1 in
            let ne : fa.2.tx ≢ at_b.0.tx = λ t. (let same = (session_holds scene ok es).placed.names n j a b ia q.1 (sym fa.6.tx_is ∙ (t ∙ at_b.2.tx_is)) in let l = q.0 in omega (arith, same, l)) in
            elim (G.governed_.masters.order fa.0 fa.1 fa.4 fa.2 at_b.0 fa.5 at_b.1 (fa.6.key_is ∙ sym at_b.2.key_is) mas ne (not_local fa.1 f fa.2 fa.7) (not_local fa.1 g at_b.0 at_b.3)) [
              | inl t ↦ inl (before b C fa.2 at_b.0 f t (at_final fa.1 f fa.2 fa.7 t.final) at_b.2.tx_is)
              | inr t ↦ inr (before a B at_b.0 fa.2 g t (at_final fa.1 g at_b.0 at_b.3 t.final) fa.6.tx_is)
            ]

    next_answer : IsNext scene (take n (run scene es).answers) a
    next_answer = record {
      placed = (session_holds scene ok es).placed.each n a ia;
      order = (session_holds scene ok es).placed.order n a ia;
      fresh = λ j b ib t. (let q = old j b ib in let same = (session_holds scene ok es).placed.names j n b a q.1 ia t in let l = q.0 in omega (arith, l, same));
      snapshot = snapshot_ a.outcome refl;
      wish = wish_ a.outcome refl;
      apart = apart_;
      session_rs = λ j b ib t. (let q = old j b ib in (session_holds scene ok es).order.rs j n b a q.0 q.1 ia t);
      session_fc = λ j g b ib t cm. (let q = old j b ib in (session_holds scene ok es).order.fc j n g b a q.0 q.1 ia t cm);
      node_earlier = λ j b ib t l. (let q = old j b ib in (session_holds scene ok es).order.node j n b a q.1 ia t l);
      node_later = λ j b ib t l. (let q = old j b ib in (session_holds scene ok es).order.node n j a b ia q.1 t l);
      keeps = keeps_;
      wishes = wishes_;
    }

  -- ---- along the answers

  so_next : (n : ℕ) (a : Answer) (ia : IsAnswer (run scene es).answers n a) → (si : SI scene (take n (run scene es).answers)) → (so : SeenSo scene ok es n) → take (suc n) (run scene es).answers ≡ take n (run scene es).answers ++ a ∷ []
      → SeenSo scene ok es (suc n)
  so_next n a ia si so q j b ib o gs l e =
      subst (λ zs. seen scene zs b ≡ done_of (behind scene ok es j b ib).gets (behind scene ok es j b ib).x) (sym q) (by_place (cases_eq j n))
    where
      nx : SeenNext scene (take n (run scene es).answers) a
      nx = seen_next scene (take n (run scene es).answers) a si (next_answer n a ia si so)

      by_place : (j ≡ n) ⊎ (j ≢ n) → seen scene (take n (run scene es).answers ++ a ∷ []) b ≡ done_of (behind scene ok es j b ib).gets (behind scene ok es j b ib).x
      by_place (inl t) =
          let both : Some b ≡ Some a = sym ib ∙ (ap (λ k. slice_get (run scene es).answers k) t ∙ ia) in
          let same : b ≡ a = cc both in
          ap (seen scene (take n (run scene es).answers ++ a ∷ [])) same ∙ (nx.new ∙ (ap (seen scene (take n (run scene es).answers)) (sym same) ∙ commit_seen scene ok es n si so j b ib o gs (omega (arith, t)) e))
      by_place (inr t) =
          let less : j < n = grind (arith, l, t) in
          nx.committed j b o gs (get_take (run scene es).answers n j b less ib) e ∙ so j b ib o gs less e

  isolated_to : (n : ℕ) → SI scene (take n (run scene es).answers) × SeenSo scene ok es n
  isolated_to zero = (si_none scene, λ j b ib o gs l e. absurd (omega (arith, l)))
  isolated_to (suc n) = by_end (isolated_to n) (take_one (run scene es).answers n)
    where
      by_end : SI scene (take n (run scene es).answers) × SeenSo scene ok es n
          → ((x : Answer) × (slice_get (run scene es).answers n ≡ Some x) × (take (suc n) (run scene es).answers ≡ take n (run scene es).answers ++ x ∷ [])) ⊎ ((slice_get (run scene es).answers n ≡ None) × (take (suc n) (run scene es).answers ≡ take n (run scene es).answers))
          → SI scene (take (suc n) (run scene es).answers) × SeenSo scene ok es (suc n)
      by_end r (inl h) =
          (subst (SI scene) (sym h.2) (si_next scene (take n (run scene es).answers) h.0 r.0 (next_answer n h.0 h.1 r.0 r.1)), so_next n h.0 h.1 r.0 r.1 h.2)
      by_end r (inr h) = (subst (SI scene) (sym h.1) r.0, λ j b ib o gs l e. subst (λ zs. seen scene zs b ≡ done_of (behind scene ok es j b ib).gets (behind scene ok es j b ib).x) (sym h.1) (by_place j b ib o gs l e (cases_eq j n)))
        where
          by_place : (j : ℕ) (b : Answer) (ib : IsAnswer (run scene es).answers j b) (o : Option Ts) (gs : List Got) → j < suc n → b.outcome ≡ Commits o gs → (j ≡ n) ⊎ (j ≢ n)
              → seen scene (take n (run scene es).answers) b ≡ done_of (behind scene ok es j b ib).gets (behind scene ok es j b ib).x
          by_place j b ib o gs l e (inl t) = absurd (let z : Some b ≡ None = sym ib ∙ (ap (λ k. slice_get (run scene es).answers k) t ∙ h.0) in cc z)
          by_place j b ib o gs l e (inr t) = let less : j < n = grind (arith, l, t) in r.1 j b ib o gs less e

-- snapshot isolation of the answers of every run
pub isolated_run : (scene : Scene) → IsScene scene → (events : List Event) → SIRun scene (run scene events).answers
isolated_run scene ok events n = (isolated_to scene ok events n).0
