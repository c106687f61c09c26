-- The answers of decided transactions, in order: the writers of what a transaction read were answered before it.
use Rattle.si_laws.proofs.Guards.GuardGrounds.{Committer, Grounds, committer, grounds_step}
use Rattle.si_laws.proofs.Guards.GuardReads.{Guarded, guarded_opening, guarded_step}
use Rattle.si_laws.proofs.Guards.GuardsKept.{committed_up}
use Rattle.si_laws.proofs.Stages.LinkedStates.{one_of}
use Rattle.si_laws.proofs.CommitLists.AnswersBefore.{Precedes, in_event, lower_first, new_released, precedes_across, precedes_event, precedes_right}
use Rattle.si_laws.proofs.Sources.FinalsReported.{CommittedIn, ReadOk, ro_committed, ro_gone, ro_listed}
use Rattle.si_laws.proofs.Isolation.WishOrigins.{HasWished, WishOrigin, wish_origin, wo_now, wo_old, wo_stop}
use Rattle.str_model.proofs.Principle.SingleChanges.{Act, Where}
use Rattle.str_model.proofs.Principle.StepPaths.{StepPath, step-keeps}
use Rattle.str_model.proofs.Principle.Everywhere.{IsSeen, Stage, at_place, during, during_start, stage_of, steps_everywhere}
use Rattle.str_model.proofs.Changes.AnswerChanges.{Rising, TellStep, in_release, r_none, release-rising, t_begins, t_decides, t_goes, t_rests, tell_step, told}
use Rattle.std.proofs.Common.{List, Option, Some, ap, arith, false, inl, inr, replicate, slice_get, slice_set, subst, sym, true, ℕ, ◌++◌, ◌+◌, ◌<◌, ◌∙◌, ◌≡◌, ◌≢◌, ◌≤◌, ◌⊎◌}
use Rattle.str_base.specs.declared.names.TxId.{TxId}
use Rattle.str_model.specs.Acts.{decided_as, fresh}
use Rattle.str_model.specs.Owned.{Owns}
use Rattle.str_model.specs.Runs.{opening, opening_view, run}
use Rattle.str_model.specs.Scripts.{own_op}
use Rattle.str_model.specs.Views.{Committed, Doing, Own, View, is_decided, lc_of, release, starts}
use Rattle.str_model.specs.declared.messages.Answer.{Answer}
use Rattle.str_model.specs.declared.messages.Input.{Input}
use Rattle.str_model.specs.declared.names.Got.{Got}
use Rattle.str_model.specs.declared.names.ReadDone.{ReadDone}
use Rattle.str_scene.specs.SceneLimits.{IsScene}
use Rattle.str_scene.specs.Scenes.{Here, Scene}
use Rattle.str_scene.specs.declared.names.Event.{Event}
use Rattle.str_scene.specs.declared.names.Op.TheVariants.{Abort as Stop}
use Rattle.str_base.proofs.Lists.{get_set, get_set_other, got_push, got_replicate, got_set}
use Rattle.str_base.proofs.Members.{in_append, in_right}
use Rattle.str_base.specs.Members.{In}

-- ---- the state

-- it has committed, or has wished to abort and not by an abort of its script
abbrev pub IsKept : Here → Own → Type 0
IsKept here x = ((lc fc : Option ℕ) × (x.phase ≡ Committed lc fc)) ⊎ (HasWished x × (own_op here x ≢ Some Stop))

-- the answers of a state
pub record Answering (scene : Scene) (s : Stage) : Type 0 where
  pub guarded_ : Guarded scene s
  -- what a wish at a need has read from has committed
  pub wished : (n : ℕ) (v : View) (i : ℕ) (x : Own) (r : ReadDone) (u : TxId) → slice_get s.nodes n ≡ Some v → Owns v i x → HasWished x → own_op (at_place scene n) x ≢ Some Stop → In r x.reads → r.by ≡ Some u
      → (f : ℕ) × CommittedIn s u f × (f ≤ x.snap.rs)
  -- each decided transaction is answered
  pub told_ : (n : ℕ) (v : View) (i : ℕ) (x : Own) → slice_get s.nodes n ≡ Some v → Owns v i x → is_decided x.phase ≡ true → (gets : List Got) × In (told (at_place scene n) i x gets) s.answers
  -- its writers before it
  pub first : (n : ℕ) (v : View) (i : ℕ) (x : Own) (r : ReadDone) (u : TxId) → slice_get s.nodes n ≡ Some v → Owns v i x → IsKept (at_place scene n) x → In r x.reads → r.by ≡ Some u
      → (gets : List Got) × (b : Answer) × Precedes s.answers b (told (at_place scene n) i x gets) × (b.tx ≡ u)

-- what a kept transaction read from has committed at or below its snapshot
pub kept_reads : (scene : Scene) (s : Stage) → Guarded scene s
    → ((n : ℕ) (v : View) (i : ℕ) (x : Own) (r : ReadDone) (u : TxId) → slice_get s.nodes n ≡ Some v → Owns v i x → HasWished x → own_op (at_place scene n) x ≢ Some Stop → In r x.reads → r.by ≡ Some u → (f : ℕ) × CommittedIn s u f × (f ≤ x.snap.rs))
    → (n : ℕ) (v : View) (i : ℕ) (x : Own) (r : ReadDone) (u : TxId) → slice_get s.nodes n ≡ Some v → Owns v i x → IsKept (at_place scene n) x → In r x.reads → r.by ≡ Some u → (f : ℕ) × CommittedIn s u f × (f ≤ x.snap.rs)
kept_reads scene s g wish n v i x r u there own (inr k) m by = wish n v i x r u there own k.0 k.1 m by
kept_reads scene s g wish n v i x r u there own (inl k) m by = by_read (g.grounds_.reported.reads n v i x r u there own m by)
  where
    by_read : ReadOk s n x u → (f : ℕ) × CommittedIn s u f × (f ≤ x.snap.rs)
    by_read (ro_committed f c le) = (f, c, le)
    by_read (ro_listed j node seq op names) = absurd (let q : is_decided x.phase ≡ true = ap is_decided k.2 in cc (op, q))
    by_read (ro_gone a) = absurd (cc (sym k.2 ∙ a.2))

-- in the midst of an event: the answers of the event are of its node, by rising number
pub record InEvent (scene : Scene) (s : Stage) (i : ℕ) (d : Doing) : Type 0 where
  pub state : Answering scene (during s i d)
  pub rising : Rising d.released
  pub ours : (a : Answer) → In a d.released → a.tx.node.0 ≡ i + 1

module _ (scene : Scene) (ok : IsScene scene) (s : Stage) (i : ℕ) (v : View) (input : Input) (w : Where) (d e : Doing) (is : slice_get s.nodes i ≡ Some v) (seen : IsSeen s input)
    (hs : Grounds scene s) (act : Act (at_place scene i) input w d e) (h : InEvent scene s i d) where
  gd : Guarded scene (during s i d)
  gd = h.state.guarded_

  at_d : slice_get (slice_set s.nodes i d.view) i ≡ Some d.view
  at_d = get_set s.nodes i v d.view is

  ge : Guarded scene (during s i e)
  ge = guarded_step scene ok s i v input w d e is seen act gd (grounds_step scene ok s i v input w d e is seen hs act gd.grounds_)

  up : (u : TxId) (f : ℕ) → CommittedIn (during s i d) u f → CommittedIn (during s i e) u f
  up u f c = committed_up scene s i v input w d e is seen act gd.grounds_ u f c

  wished_here : (j : ℕ) (y : Own) (r : ReadDone) (u : TxId) → HasWished y → own_op (at_place scene i) y ≢ Some Stop → In r y.reads → r.by ≡ Some u → WishOrigin (at_place scene i) d j y
      → (f : ℕ) × CommittedIn (during s i e) u f × (f ≤ y.snap.rs)
  wished_here j y r u hw ns m by (wo_old own) = let z = h.state.wished i d.view j y r u at_d own hw ns m by in (z.0, up u z.0 z.1, z.2)
  wished_here j y r u hw ns m by (wo_stop q) = absurd (ns q)
  wished_here j y r u hw ns m by (wo_now x own op none same rs) = by_read (gd.grounds_.reported.reads i d.view j x r u at_d own (subst (In r) same m) by)
    where
      by_read : ReadOk (during s i d) i x u → (f : ℕ) × CommittedIn (during s i e) u f × (f ≤ y.snap.rs)
      by_read (ro_committed f c le) = (f, up u f c, omega (arith, le, rs))
      by_read (ro_listed k node seq o names) = absurd (subst (In names.0) none names.1)
      by_read (ro_gone a) = absurd (let q : is_decided x.phase ≡ true = ap is_decided a.2 in cc (op, q))

  wished_e : (n : ℕ) (z : View) (j : ℕ) (x : Own) (r : ReadDone) (u : TxId) → slice_get (slice_set s.nodes i e.view) n ≡ Some z → Owns z j x → HasWished x → own_op (at_place scene n) x ≢ Some Stop → In r x.reads → r.by ≡ Some u
      → (f : ℕ) × CommittedIn (during s i e) u f × (f ≤ x.snap.rs)
  wished_e n z j x r u there own hw ns m by = elim (got_set s.nodes i n e.view z there) [
    | inl q ↦ (let own' : Owns e.view j x = subst (λ (y : View). Owns y j x) q.1 own in
        wished_here j x r u hw (subst (λ (k : ℕ). own_op (at_place scene k) x ≢ Some Stop) q.0 ns) m by (wish_origin (at_place scene i) input w d e act j x own' hw))
    | inr q ↦ (let y = h.state.wished n z j x r u (get_set_other s.nodes i n d.view q.0 ∙ q.1) own hw ns m by in (y.0, up u y.0 y.1, y.2))
  ]

  -- ---- answers

  -- each answer of before is one, and the order is kept
  record Grows : Type 0 where
    stays : (a : Answer) → In a (s.answers ++ d.released) → In a (s.answers ++ e.released)
    order : (b a : Answer) → Precedes (s.answers ++ d.released) b a → Precedes (s.answers ++ e.released) b a

  same_grows : e.released ≡ d.released → Grows
  same_grows r = record { stays = λ a k. subst (λ xs. In a (s.answers ++ xs)) (sym r) k; order = λ b a k. subst (λ xs. Precedes (s.answers ++ xs) b a) (sym r) k }

  grows : TellStep (at_place scene i) d e → Grows
  grows (t_rests o r) = same_grows r
  grows (t_begins place rs b o r) = same_grows r
  grows (t_goes j x y is' f g p q o r) = same_grows r
  grows (t_decides j x p is' f g o r) = record {
    stays = λ a k. subst (λ xs. In a (s.answers ++ xs)) (sym r) (in_event s.answers d.released (told (at_place scene i) j (decided_as p x) x.gets) a k);
    order = λ b a k. subst (λ xs. Precedes (s.answers ++ xs) b a) (sym r) (precedes_event s.answers d.released (told (at_place scene i) j (decided_as p x) x.gets) b a k);
  }

  g : Grows
  g = grows (tell_step (at_place scene i) input w d e act)

  -- an own transaction that is decided after the change: it was so before, or it is answered now
  data Decided (j : ℕ) (x : Own) : Type 0 where
    d_old : Owns d.view j x → Decided j x
    d_new : (gets : List Got) → e.released ≡ release (told (at_place scene i) j x gets) d.released → Decided j x

  decided_by : (j : ℕ) (x : Own) → Owns e.view j x → is_decided x.phase ≡ true → TellStep (at_place scene i) d e → Decided j x
  decided_by j x own dec (t_rests o r) = d_old (subst (λ xs. slice_get xs j ≡ Some x) o own)
  decided_by j x own dec (t_begins place rs b o r) = elim (got_push d.view.own j (fresh place rs) x (subst (λ xs. slice_get xs j ≡ Some x) o own)) [
    | inl q ↦ absurd (let k : is_decided x.phase ≡ false = ap (λ (u : Own). is_decided u.phase) q.1 in cc (k, dec))
    | inr q ↦ d_old q
  ]
  decided_by j x own dec (t_goes m z y is' f g' p q o r) = elim (got_set d.view.own m j y x (subst (λ xs. slice_get xs j ≡ Some x) o own)) [
    | inl c ↦ absurd (let k : is_decided x.phase ≡ false = ap (λ (u : Own). is_decided u.phase) c.1 ∙ g' in cc (k, dec))
    | inr c ↦ d_old c.1
  ]
  decided_by j x own dec (t_decides m z p is' f g' o r) = elim (got_set d.view.own m j (decided_as p z) x (subst (λ xs. slice_get xs j ≡ Some x) o own)) [
    | inl c ↦ d_new z.gets (r ∙ (λ t. release (told (at_place scene i) (sym c.0 t) (sym c.1 t) z.gets) d.released))
    | inr c ↦ d_old c.1
  ]

  decided_now : (j : ℕ) (x : Own) → Owns e.view j x → is_decided x.phase ≡ true → Decided j x
  decided_now j x own dec = decided_by j x own dec (tell_step (at_place scene i) input w d e act)

  told_e : (n : ℕ) (z : View) (j : ℕ) (x : Own) → slice_get (slice_set s.nodes i e.view) n ≡ Some z → Owns z j x → is_decided x.phase ≡ true
      → (gets : List Got) × In (told (at_place scene n) j x gets) (s.answers ++ e.released)
  told_e n z j x there own dec = elim (got_set s.nodes i n e.view z there) [
    | inl q ↦ subst (λ (k : ℕ). (gets : List Got) × In (told (at_place scene k) j x gets) (s.answers ++ e.released)) (sym q.0) (here (decided_now j x (subst (λ (y : View). Owns y j x) q.1 own) dec))
    | inr q ↦ (let t = h.state.told_ n z j x (get_set_other s.nodes i n d.view q.0 ∙ q.1) own dec in (t.0, g.stays (told (at_place scene n) j x t.0) t.1))
  ]
    where
      here : Decided j x → (gets : List Got) × In (told (at_place scene i) j x gets) (s.answers ++ e.released)
      here (d_old o) = let t = h.state.told_ i d.view j x at_d o dec in (t.0, g.stays (told (at_place scene i) j x t.0) t.1)
      here (d_new gets r) = (gets, subst (λ xs. In (told (at_place scene i) j x gets) (s.answers ++ xs)) (sym r) (in_right s.answers _ _ (new_released (told (at_place scene i) j x gets) d.released)))

  kept_decided : (n : ℕ) (x : Own) → IsKept (at_place scene n) x → is_decided x.phase ≡ true
  kept_decided n x (inl k) = ap is_decided k.2
  kept_decided n x (inr k) = ap is_decided k.0.1

  -- the writers of one that is answered now
  first_new : (j : ℕ) (x : Own) (gets : List Got) (r : ReadDone) (u : TxId) → Owns e.view j x → IsKept (at_place scene i) x → In r x.reads → r.by ≡ Some u → e.released ≡ release (told (at_place scene i) j x gets) d.released
      → (b : Answer) × Precedes (s.answers ++ e.released) b (told (at_place scene i) j x gets) × (b.tx ≡ u)
  first_new j x gets r u own k m by rel =
      let f = kept_reads scene (during s i e) ge wished_e i e.view j x r u (get_set s.nodes i v e.view is) own k m by in
      let c : Committer scene (during s i e) u f.0 = committer scene (during s i e) u f.0 f.1 in
      let t = told_e c.at_.n c.at_.view c.at_.i c.x c.at_.there c.at_.own (ap is_decided c.is.1) in
      let b : Answer = told (at_place scene c.at_.n) c.at_.i c.x t.0 in
      let name : b.tx ≡ u = sym c.at_.name in (
        b,
        by_place f c t.0 name (in_append s.answers (release (told (at_place scene i) j x gets) d.released) b
            (subst (λ xs. In b (s.answers ++ xs)) rel t.1)),
        name,
      )
    where
      by_place : (f : (fc : ℕ) × CommittedIn (during s i e) u fc × (fc ≤ x.snap.rs)) (c : Committer scene (during s i e) u f.0) (gs : List Got) → (told (at_place scene c.at_.n) c.at_.i c.x gs).tx ≡ u
          → In (told (at_place scene c.at_.n) c.at_.i c.x gs) s.answers ⊎ In (told (at_place scene c.at_.n) c.at_.i c.x gs) (release (told (at_place scene i) j x gets) d.released)
          → Precedes (s.answers ++ e.released) (told (at_place scene c.at_.n) c.at_.i c.x gs) (told (at_place scene i) j x gets)
      by_place f c gs name (inl q) =
          subst (λ xs. Precedes (s.answers ++ xs) (told (at_place scene c.at_.n) c.at_.i c.x gs) (told (at_place scene i) j x gets)) (sym rel)
          (precedes_across s.answers (release (told (at_place scene i) j x gets) d.released) _ _ q (new_released (told (at_place scene i) j x gets) d.released))
      by_place f c gs name (inr q) =
          subst (λ xs. Precedes (s.answers ++ xs) (told (at_place scene c.at_.n) c.at_.i c.x gs) (told (at_place scene i) j x gets)) (sym rel)
          (precedes_right s.answers (release (told (at_place scene i) j x gets) d.released) _ _ (by_new (in_release (told (at_place scene i) j x gets) d.released (told (at_place scene c.at_.n) c.at_.i c.x gs) q)))
        where
          -- it stands below x at this node
          below : c.at_.n ≡ i → c.at_.i < j
          below node =
              let view : c.at_.view ≡ e.view = one_of c.at_.view e.view (slice_get (slice_set s.nodes i e.view) i) (subst (λ (n : ℕ). slice_get (slice_set s.nodes i e.view) n ≡ Some c.at_.view) node c.at_.there) (get_set s.nodes i v e.view is) in
              let times = (ge.grounds_.governed_.stand i e.view (get_set s.nodes i v e.view is)).base.times in
              let owns : Owns e.view c.at_.i c.x = subst (λ (z : View). Owns z c.at_.i c.x) view c.at_.own in
              let fc = (times.each c.at_.i c.x owns).fc c.is.0 f.0 c.is.1 in
              let l = (times.each c.at_.i c.x owns).lc fc.0 (ap lc_of c.is.1 ∙ fc.1) in
              elim (Rattle.std.proofs.lemmas.Bool.cases_lt c.at_.i j) [
                | inl z ↦ z
                | inr z ↦ (let t = times.rising j c.at_.i x c.x z own owns in absurd (omega (arith, t, f.2, fc.2, l.0)))
              ]

          by_new : (told (at_place scene i) j x gets ≡ told (at_place scene c.at_.n) c.at_.i c.x gs) ⊎ In (told (at_place scene c.at_.n) c.at_.i c.x gs) d.released
              → Precedes (release (told (at_place scene i) j x gets) d.released) (told (at_place scene c.at_.n) c.at_.i c.x gs) (told (at_place scene i) j x gets)
          by_new (inl z) =
              let node : c.at_.n ≡ i = omega (arith, ap (λ (y : Answer). y.tx.node.0) z) in
              let place : c.at_.i ≡ j = omega (arith, ap (λ (y : Answer). y.tx.seq) z) in
              let b = below node in absurd (omega (arith, b, place))
          by_new (inr z) =
              let o = h.ours (told (at_place scene c.at_.n) c.at_.i c.x gs) z in
              let node : c.at_.n ≡ i = omega (arith, o) in
              let b = below node in lower_first (told (at_place scene i) j x gets) d.released (told (at_place scene c.at_.n) c.at_.i c.x gs) h.rising z (omega (arith, b))

  first_e : (n : ℕ) (z : View) (j : ℕ) (x : Own) (r : ReadDone) (u : TxId) → slice_get (slice_set s.nodes i e.view) n ≡ Some z → Owns z j x → IsKept (at_place scene n) x → In r x.reads → r.by ≡ Some u
      → (gets : List Got) × (b : Answer) × Precedes (s.answers ++ e.released) b (told (at_place scene n) j x gets) × (b.tx ≡ u)
  first_e n z j x r u there own k m by = elim (got_set s.nodes i n e.view z there) [
    | inl q ↦ subst (λ (a : ℕ). (gets : List Got) × (b : Answer) × Precedes (s.answers ++ e.released) b (told (at_place scene a) j x gets) × (b.tx ≡ u)) (sym q.0)
        (here (subst (λ (a : ℕ). IsKept (at_place scene a) x) q.0 k) (subst (λ (y : View). Owns y j x) q.1 own) (decided_now j x (subst (λ (y : View). Owns y j x) q.1 own) (kept_decided n x k)))
    | inr q ↦ (let y = h.state.first n z j x r u (get_set_other s.nodes i n d.view q.0 ∙ q.1) own k m by in (y.0, y.1, g.order y.1 (told (at_place scene n) j x y.0) y.2, y.3))
  ]
    where
      here : IsKept (at_place scene i) x → Owns e.view j x → Decided j x → (gets : List Got) × (b : Answer) × Precedes (s.answers ++ e.released) b (told (at_place scene i) j x gets) × (b.tx ≡ u)
      here k' own' (d_old o) = let y = h.state.first i d.view j x r u at_d o k' m by in (y.0, y.1, g.order y.1 (told (at_place scene i) j x y.0) y.2, y.3)
      here k' own' (d_new gets rel) = let y = first_new j x gets r u own' k' m by rel in (gets, y.0, y.1, y.2)

  ours_e : TellStep (at_place scene i) d e → (a : Answer) → In a e.released → a.tx.node.0 ≡ i + 1
  ours_e (t_rests o r) a m = h.ours a (subst (In a) r m)
  ours_e (t_begins place rs b o r) a m = h.ours a (subst (In a) r m)
  ours_e (t_goes j x y is' f g' p q o r) a m = h.ours a (subst (In a) r m)
  ours_e (t_decides j x p is' f g' o r) a m = elim (in_release (told (at_place scene i) j (decided_as p x) x.gets) d.released a (subst (In a) r m)) [ inl z ↦ ap (λ (b : Answer). b.tx.node.0) (sym z) | inr z ↦ h.ours a z ]

  rising_e : TellStep (at_place scene i) d e → Rising e.released
  rising_e (t_rests o r) = subst Rising (sym r) h.rising
  rising_e (t_begins place rs b o r) = subst Rising (sym r) h.rising
  rising_e (t_goes j x y is' f g' p q o r) = subst Rising (sym r) h.rising
  rising_e (t_decides j x p is' f g' o r) = subst Rising (sym r) (release-rising (told (at_place scene i) j (decided_as p x) x.gets) d.released h.rising)

  pub in_event_step : InEvent scene s i e
  in_event_step = record {
    state = record { guarded_ = ge; wished = wished_e; told_ = told_e; first = first_e };
    rising = rising_e (tell_step (at_place scene i) input w d e act);
    ours = ours_e (tell_step (at_place scene i) input w d e act);
  }

module _ (scene : Scene) (ok : IsScene scene) where
  answering_keeps : (s : Stage) (i : ℕ) (v : View) (input : Input) (e : Doing) → slice_get s.nodes i ≡ Some v → IsSeen s input → StepPath (at_place scene i) input (starts v) e → Answering scene s → Answering scene (during s i e)
  answering_keeps s i v input e is seen p h =
      (step-keeps (at_place scene i) input (λ d. InEvent scene s i d) (λ u d e' act k. in_event_step scene ok s i v input u d e' is seen h.guarded_.grounds_ act k) (starts v) e p
      (record { state = subst (Answering scene) (sym (during_start s i v is)) h; rising = r_none; ours = λ a m. absurd m })).state

  answering_opening : Answering scene (stage_of (opening scene))
  answering_opening = record {
    guarded_ = guarded_opening scene ok;
    wished = λ n v i x r u g own hw ns m by. absurd (none n v i x g own);
    told_ = λ n v i x g own dec. absurd (none n v i x g own);
    first = λ n v i x r u g own k m by. absurd (none n v i x g own);
  }
    where
      none : (n : ℕ) (v : View) (i : ℕ) (x : Own) → slice_get (replicate scene.nodes (opening_view scene)) n ≡ Some v → Owns v i x → ⊥
      none n v i x g own = let o : Owns (opening_view scene) i x = subst (λ (y : View). Owns y i x) (got_replicate scene.nodes n (opening_view scene) v g) own in cc o

  pub answering : (es : List Event) → Answering scene (stage_of (run scene es))
  answering es = steps_everywhere scene (Answering scene) answering_keeps answering_opening es
