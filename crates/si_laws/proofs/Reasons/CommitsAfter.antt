-- Who has committed stood so at an earlier moment than all that depended on it commit.
use Rattle.std.proofs.Common.{Bool, List, None, Option, Some, ap, arith, false, inl, inr, refl, slice_get, subst, suc, sym, true, zero, ℕ, ◌+◌, ◌-◌, ◌<◌, ◌∙◌, ◌∷◌, ◌≡◌, ◌≢◌, ◌≤◌, ◌⊎◌}
use Rattle.str_base.specs.declared.names.NodeId.{NodeId}
use Rattle.str_base.specs.declared.names.TxId.{TxId}
use Rattle.str_scene.specs.declared.names.Event.{Event}
use Rattle.str_scene.specs.SceneLimits.{IsScene}
use Rattle.str_scene.specs.Scenes.{Here, Scene, nth}
use Rattle.str_model.specs.declared.messages.Input.{Input}
use Rattle.str_model.specs.Owned.{Owns}
use Rattle.str_model.specs.Runs.{opening, opening_view}
use Rattle.str_model.specs.Traces.{Earlier, Happening, MomentAt, trace}
use Rattle.str_model.specs.Turns.{CommittedAt, own_fate, phase_fate}
use Rattle.str_model.specs.Views.{Aborted, Active, CertWait, Closing, Committed, Doing, Global, Local, Own, Phase, ReadWait, Remote, Reply, View, is_decided, starts}
use Rattle.str_model.proofs.Principle.SingleChanges.{InRule, InTurn, InWait, Path, Touches, Where, along}
use Rattle.str_model.proofs.Principle.Everywhere.{at_each_node, at_place}
use Rattle.str_model.proofs.Changes.SnapshotsGain.{Names}
use Rattle.str_model.proofs.Principle.LaterMoments.{Took, first_of, got_below, later, moment_of, took, trace_prefix}
use Rattle.str_model.proofs.Principle.NextMoments.{Link, linked}
use Rattle.str_model.proofs.Principle.MomentPaths.{link_path}
use Rattle.str_model.proofs.Changes.OwnChanges.{own_step}
use Rattle.str_model.proofs.Principle.TraceEvents.{Was, was_from}
use Rattle.si_laws.proofs.Dependencies.LocalsApart.{stand_after}
use Rattle.si_laws.proofs.Dependencies.AroundLocal.{Stand}
use Rattle.si_laws.proofs.Dependencies.AroundKept.{stand-act}
use Rattle.str_model.proofs.OwnFacts.TurnsBelow.{leaves}
use Rattle.si_laws.proofs.Dependencies.DependencyFates.{Fate, FreeOnceCommitted, NotCommitted, fate-act, free-act, gone_at, listed, not_committed-act, settled_at}
use Rattle.str_model.proofs.OwnFacts.LocalOwners.{same_own}
use Rattle.str_model.proofs.Changes.PairWords.{decided-step}
use Rattle.si_laws.specs.GateLaw.{CommittedBefore, HasCommitted, StandsAt}
use Rattle.si_laws.specs.Standing.{IsCommitted}
use Rattle.str_base.proofs.Lists.{got_replicate}
use Rattle.std.proofs.lemmas.Bool.{cases_eq}
use Rattle.str_base.specs.Members.{In}

pub place_nth : {X : Type 0} (xs : List X) (s i : ℕ) (x : X) → s ≡ i + 1 → slice_get xs i ≡ Some x → nth xs s ≡ Some x
place_nth xs s i x e g = ap (λ k. nth xs k) (e ∙ one) ∙ g
  where
    one : i + 1 ≡ suc i
    one = omega arith

-- one that has committed, by its fate
pub committed_is : (y : Own) (fc : ℕ) → phase_fate y.phase ≡ CommittedAt fc → IsCommitted y fc
committed_is y fc e = by_phase y.phase e
  where
    by_phase : (p : Phase) → phase_fate p ≡ CommittedAt fc → (lc : Option ℕ) × (p ≡ Committed lc (Some fc))
    by_phase (Committed lc (Some gc)) q = let same : gc ≡ fc = cc q in (lc, ap (λ k. Committed lc (Some k)) same)
    by_phase (Committed lc None) q = absurd (cc q)
    by_phase _ q = absurd (cc q)

pub fate_own : (v : View) (k fc : ℕ) → own_fate (slice_get v.own k) ≡ CommittedAt fc → (y : Own) × Owns v k y × IsCommitted y fc
fate_own v k fc e = by_place (slice_get v.own k) refl e
  where
    by_place : (o : Option Own) → slice_get v.own k ≡ o → own_fate o ≡ CommittedAt fc → (y : Own) × Owns v k y × IsCommitted y fc
    by_place None q f = absurd (cc f)
    by_place (Some y) q f = (y, q, committed_is y fc f)

-- one moment before the other, or the same
pub order : (j m j' m' : ℕ) → ((Earlier j m j' m') ⊎ ((j ≡ j') × (m ≡ m'))) ⊎ Earlier j' m' j m
order j m j' m' = by_event (three j j')
  where
    three : (a b : ℕ) → (a < b) ⊎ ((a ≡ b) ⊎ (b < a))
    three a b = grind arith

    by_moment : j ≡ j' → (m < m') ⊎ ((m ≡ m') ⊎ (m' < m)) → ((Earlier j m j' m') ⊎ ((j ≡ j') × (m ≡ m'))) ⊎ Earlier j' m' j m
    by_moment e (inl lt) = inl (inl (inr (e, lt)))
    by_moment e (inr (inl q)) = inl (inr (e, q))
    by_moment e (inr (inr lt)) = inr (inr (sym e, lt))

    by_event : (j < j') ⊎ ((j ≡ j') ⊎ (j' < j)) → ((Earlier j m j' m') ⊎ ((j ≡ j') × (m ≡ m'))) ⊎ Earlier j' m' j m
    by_event (inl lt) = inl (inl (inl lt))
    by_event (inr (inl e)) = by_moment e (three m m')
    by_event (inr (inr lt)) = inr (inl lt)

module _ (scene : Scene) (ok : IsScene scene) (es : List Event) where
  pub stand_moment : (j m : ℕ) (n : NodeId) (d : Doing) (a : MomentAt (trace scene es) j m n d) → Stand (at_place scene (took scene es j a.0 n a.1 a.2).takes.place) d.view
  stand_moment j m n d a =
      let t = took scene es j a.0 n a.1 a.2 in
      let here = at_place scene t.takes.place in
      moment_of scene es j m a.0 n d t a.3 (λ e. Stand here e.view) (λ w b c act. stand-act here t.takes.input w b c act) (stand_after scene ok t.from.early t.takes.place t.takes.view t.takes.is).stand

  pub free_moment : (j m : ℕ) (n : NodeId) (d : Doing) → MomentAt (trace scene es) j m n d → FreeOnceCommitted d.view
  free_moment j m n d a =
      let t = took scene es j a.0 n a.1 a.2 in
      let here = at_place scene t.takes.place in
      moment_of scene es j m a.0 n d t a.3 (λ e. FreeOnceCommitted e.view) (λ w b c act. free-act here t.takes.input w b c act)
      (at_each_node scene ok FreeOnceCommitted (λ i x own c. absurd (cc own)) (λ here good input w b c act h. free-act here input w b c act h) t.from.early t.takes.place t.takes.view t.takes.is)

  -- a decided one stays
  pub decided_later : (j m j' m' : ℕ) (n : NodeId) (d d' : Doing) (i : ℕ) (x : Own) → MomentAt (trace scene es) j m n d → MomentAt (trace scene es) j' m' n d'
      → (Earlier j m j' m') ⊎ ((j ≡ j') × (m ≡ m')) → Owns d.view i x → is_decided x.phase ≡ true → Owns d'.view i x
  decided_later j m j' m' n d d' i x a b o own dec =
      later scene ok (λ v. Owns v i x) (λ here good input w c e act h. decided-step i x c.view e.view dec (own_step here input w c e act) h) es j m j' m' n d d' a b o own

  -- at a moment with a dependency one that commits is undecided
  pub still_open : (j m j' m' : ℕ) (n : NodeId) (d d' : Doing) (i seq : ℕ) (x z : Own) → MomentAt (trace scene es) j m n d → MomentAt (trace scene es) j' m' n d' → Owns d'.view i z → Names seq z.snap.deps
      → Owns d.view i x → HasCommitted x → is_decided z.phase ≡ false
  still_open j m j' m' n d d' i seq x z a b oz names ox c = by_decided (is_decided z.phase) refl
    where
      never : HasCommitted z → ⊥
      never h = subst (In names.0) (free_moment j' m' n d' b i z oz h) names.1

      by_decided : (q : Bool) → is_decided z.phase ≡ q → is_decided z.phase ≡ false
      by_decided false q = q
      by_decided true q =
          absurd (elim (order j' m' j m) [
            | inl o ↦ never (subst HasCommitted (same_own d.view i i x z ox (decided_later j' m' j m n d' d i z b a o oz q) refl) c)
            | inr o ↦ never (subst HasCommitted (same_own d'.view i i x z (decided_later j m j' m' n d d' i x a b (inl o) ox (ap is_decided c.2)) oz refl) c)
          ])

  -- what once depended on it and has committed: it has committed at or below that one's snapshot
  pub listed_committed : (j m j' m' : ℕ) (n : NodeId) (d d' : Doing) (i seq : ℕ) (x z : Own) → MomentAt (trace scene es) j m n d → MomentAt (trace scene es) j' m' n d' → Owns d'.view i z → Names seq z.snap.deps
      → Owns d.view i x → HasCommitted x → (fc : ℕ) × (own_fate (slice_get d.view.own (seq - 1)) ≡ CommittedAt fc) × (fc ≤ x.snap.rs)
  listed_committed j m j' m' n d d' i seq x z a b oz names ox c =
      elim (order j' m' j m) [
        | inl o ↦ by_fate (later scene ok (Fate i seq) (λ here good input w e f act h. fate-act here input w i seq e f act h) es j' m' j m n d' d b a o (listed z oz open_ names))
        | inr o ↦ absurd (let s : x ≡ z = same_own d'.view i i x z (decided_later j m j' m' n d d' i x a b (inl o) ox (ap is_decided c.2)) oz refl in cc (ap is_decided c.2, ap (λ (u : Own). is_decided u.phase) s, open_))
      ]
    where
      open_ : is_decided z.phase ≡ false
      open_ = still_open j m j' m' n d d' i seq x z a b oz names ox c

      by_fate : Fate i seq d.view → (fc : ℕ) × (own_fate (slice_get d.view.own (seq - 1)) ≡ CommittedAt fc) × (fc ≤ x.snap.rs)
      by_fate (listed y o q l) = absurd (cc (ap is_decided c.2, sym (ap (λ (u : Own). is_decided u.phase) (same_own d.view i i x y ox o refl)), q))
      by_fate (settled_at y fc o f le) = (fc, f, omega (arith, le, ap (λ (u : Own). u.snap.rs) (same_own d.view i i x y ox o refl)))
      by_fate (gone_at y o g) = absurd (let s : x ≡ y = same_own d.view i i x y ox o refl in let p : Committed c.0 c.1 ≡ Aborted g.0 g.1 = sym c.2 ∙ (ap (λ (u : Own). u.phase) s ∙ g.2) in cc p)

  -- what stands in a view stood so at a moment of an earlier event
  pub stood_before : (j : ℕ) (h : Happening) (n : NodeId) (t : Took scene es j h n) (p k : ℕ) (v : View) (y : Own) → slice_get (Rattle.str_model.specs.Runs.run scene t.from.early).nodes p ≡ Some v → Owns v k y
      → (u : TxId) → u.node.0 ≡ p + 1 → u.seq ≡ k + 1 → (j' : ℕ) × (m' : ℕ) × (j' < j) × StandsAt (trace scene es) j' m' u y
  stood_before j h n t p k v y is own u node seq = by_was (was_from scene (opening scene) t.from.early p k v y is own)
    where
      name : u.node ≡ record { 0 = p + 1 }
      name = λ i. record { 0 = node i }

      by_was : Was scene (opening scene) t.from.early p k y ⊎ ((w : View) × (slice_get (opening scene).nodes p ≡ Some w) × Owns w k y) → (j' : ℕ) × (m' : ℕ) × (j' < j) × StandsAt (trace scene es) j' m' u y
      by_was (inl r) = (
        r.event,
        r.moment,
        omega (arith, r.earlier, t.from.number),
        (
          r.doing,
          (
            r.entry,
            subst (λ xs. slice_get (trace scene xs) r.event ≡ Some r.entry) (sym t.from.all) (trace_prefix scene (opening scene) t.from.early (t.from.event ∷ t.from.late) r.event r.entry r.there),
            r.node ∙ ap Some (sym name),
            r.at_moment,
          ),
          place_nth r.doing.view.own u.seq k y seq r.owns,
        ),
      )
      by_was (inr r) = absurd (let o : Owns (opening_view scene) k y = subst (λ (w : View). Owns w k y) (got_replicate scene.nodes p (opening_view scene) r.0 r.1) r.2 in cc o)

  -- where it has committed at each moment at which the other one has, it has committed at an earlier moment than that
  module _ (n : NodeId) (i k : ℕ) (u : TxId) (node : u.node ≡ n) (seq : u.seq ≡ k + 1) (other : k ≢ i)
      (facts : (j m : ℕ) (d : Doing) (x : Own) → MomentAt (trace scene es) j m n d → Owns d.view i x → HasCommitted x → (fc : ℕ) × (own_fate (slice_get d.view.own k) ≡ CommittedAt fc) × (fc ≤ x.snap.rs)) where
    at_earlier : (j m fc r : ℕ) (c : Doing) → MomentAt (trace scene es) j m n c → own_fate (slice_get c.view.own k) ≡ CommittedAt fc → fc ≤ r → CommittedBefore (trace scene es) j (suc m) u r
    at_earlier j m fc r c a f le =
        let y = fate_own c.view k fc f in
        (j, m, fc, y.0, inr (refl, omega arith), (c, (a.0, a.1, a.2 ∙ ap Some (sym node), a.3), place_nth c.view.own u.seq k y.0 seq y.1), y.2, le)

    in_turn : (here : Here) (input : Input) (w : Where) (c d : Doing) → w ≡ InTurn i → Path here input w c d → slice_get d.view.own k ≡ slice_get c.view.own k
    in_turn here input w c d q p =
        along here input w (λ e. slice_get e.view.own k ≡ slice_get c.view.own k)
        (λ a b act h. (leaves here input w a b (λ r. cc (sym q ∙ r)) act).others k (λ t. other (subst (λ v. Touches v k) q t)) ∙ h) c d p refl

    which : (w : Where) → (w ≡ InTurn i) ⊎ (w ≢ InTurn i)
    which InRule = inr (λ q. cc q)
    which InWait = inr (λ q. cc q)
    which (InTurn q) = elim (cases_eq q i) [ inl s ↦ inl (ap InTurn s) | inr s ↦ inr (λ e. s (cc e)) ]

    -- whether it has committed
    has_committed : (v : View) → ((x : Own) × Owns v i x × HasCommitted x) ⊎ NotCommitted i v
    has_committed v = by_place (slice_get v.own i) refl
      where
        never : {p : Phase} (x : Own) → Owns v i x → x.phase ≡ p → ((lc fc : Option ℕ) → p ≡ Committed lc fc → ⊥) → NotCommitted i v
        never x o e f y oy c = f c.0 c.1 (sym e ∙ (ap (λ (z : Own). z.phase) (same_own v i i x y o oy refl) ∙ c.2))

        by_phase : (x : Own) (p : Phase) → Owns v i x → x.phase ≡ p → ((x : Own) × Owns v i x × HasCommitted x) ⊎ NotCommitted i v
        by_phase x (Committed lc fc) o e = inl (x, o, (lc, fc, e))
        by_phase x Active o e = inr (never x o e (λ lc fc q. cc q))
        by_phase x (ReadWait a) o e = inr (never x o e (λ lc fc q. cc q))
        by_phase x (Remote a) o e = inr (never x o e (λ lc fc q. cc q))
        by_phase x (Reply a b by gc) o e = inr (never x o e (λ lc fc q. cc q))
        by_phase x CertWait o e = inr (never x o e (λ lc fc q. cc q))
        by_phase x (Closing b) o e = inr (never x o e (λ lc fc q. cc q))
        by_phase x (Local lc) o e = inr (never x o e (λ a b q. cc q))
        by_phase x (Global lc) o e = inr (never x o e (λ a b q. cc q))
        by_phase x (Aborted a b) o e = inr (never x o e (λ lc fc q. cc q))

        by_place : (o : Option Own) → slice_get v.own i ≡ o → ((x : Own) × Owns v i x × HasCommitted x) ⊎ NotCommitted i v
        by_place None q = inr (λ x o c. let s : None ≡ Some x = sym q ∙ o in cc s)
        by_place (Some x) q = by_phase x x.phase q refl

    pub strict : (j m : ℕ) (d : Doing) (x : Own) → MomentAt (trace scene es) j m n d → Owns d.view i x → HasCommitted x → CommittedBefore (trace scene es) j m u x.snap.rs
    strict j zero d x a own c =
        let t = took scene es j a.0 n a.1 a.2 in
        let f = facts j zero d x a own c in
        let y = fate_own d.view k f.0 f.1 in
        let s : d ≡ starts t.takes.view = first_of scene es j a.0 n d t a.3 in
        let at : u.node.0 ≡ t.takes.place + 1 = ap (λ (z : NodeId). z.0) (node ∙ t.node) in
        let b = stood_before j a.0 n t t.takes.place k t.takes.view y.0 t.takes.is (subst (λ (z : Doing). Owns z.view k y.0) s y.1) u at seq in
        (b.0, b.1, f.0, y.0, inl b.2, b.3, y.2, f.2)
    strict j (suc m) d x a own c =
        let t = took scene es j a.0 n a.1 a.2 in
        let here = at_place scene t.takes.place in
        let e = got_below a.0.moments m d a.3 in
        let before : MomentAt (trace scene es) j m n e.0 = (a.0, a.1, a.2, e.1) in
        let l : Link here t.takes.input (starts t.takes.view) e.0 d = linked here t.takes.input t.takes.view m e.0 d (ap (λ xs. slice_get xs m) (sym t.takes.moments) ∙ e.1) (ap (λ xs. slice_get xs (suc m)) (sym t.takes.moments) ∙ a.3) in
        let p = link_path here t.takes.input (starts t.takes.view) e.0 d l in
        elim (has_committed e.0.view) [
          | inl h ↦ (let f = facts j m e.0 h.0 before h.1 h.2 in
              let same : h.0 ≡ x = same_own d.view i i h.0 x (decided_later j m j (suc m) n e.0 d i h.0 before a (inl (inr (refl, omega arith))) h.1 (ap is_decided h.2.2)) own refl in
              at_earlier j m f.0 x.snap.rs e.0 before f.1 (omega (arith, f.2, ap (λ (z : Own). z.snap.rs) same)))
          | inr h ↦ (elim (which p.0) [
            | inl q ↦ (let f = facts j (suc m) d x a own c in at_earlier j m f.0 x.snap.rs e.0 before (ap own_fate (sym (in_turn here t.takes.input p.0 e.0 d q p.1)) ∙ f.1) f.2)
            | inr q ↦ absurd (along here t.takes.input p.0 (λ z. NotCommitted i z.view) (not_committed-act here t.takes.input p.0 i q) e.0 d p.1 h x own c)
          ])
        ]
