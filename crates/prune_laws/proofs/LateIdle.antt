-- Messages that differ in the two runs are idle whenever they are given.
use Rattle.prune_laws.proofs.Alongside.{regiven}
use Rattle.prune_laws.proofs.LateMessages.{IsLate, late_refuse, late_reply, late_step}
use Rattle.prune_laws.proofs.PairedLists.{BothAlike, alike_at, last_push}
use Rattle.prune_laws.proofs.PruneHolds.{alongside, pruned_one_more}
use Rattle.prune_laws.specs.PruneLaw.{EndsIdle, IsDecidedIn, LateIdle}
use Rattle.si_laws.proofs.Stages.LinkedStates.{one_of}
use Rattle.std.specs.List.{last_or}
use Rattle.std.proofs.Common.{Bool, List, None, Option, Some, [], add-one, ap, false, if◌then◌else◌, refl, slice_get, slice_set, sub-one, subst, subst₂, suc, sym, true, zero, ℕ, ◌-◌, ◌∷◌, ◌≡◌, ◌≢◌}
use Rattle.str_base.specs.declared.names.NodeId.{NodeId}
use Rattle.str_model.specs.declared.messages.Input.TheVariants.{Deliver}
use Rattle.str_model.specs.declared.messages.Message.{Message}
use Rattle.str_model.specs.declared.names.Done.{Done}
use Rattle.str_model.specs.PrunedRuns.{PrunedWorld, bound, pruned_after, pruned_at, pruned_happens, pruned_run, taken_by}
use Rattle.str_model.specs.Pruning.{low, pruned}
use Rattle.str_model.specs.Runs
use Rattle.str_model.specs.Runs.{World, happens, opening, run, step_at, stepped}
use Rattle.str_model.specs.Steps.{step}
use Rattle.str_model.specs.Views.{Doing, View}
use Rattle.str_scene.specs.declared.names.Event.{Event}
use Rattle.str_scene.specs.declared.names.Event.TheVariants.{Deliver as DeliverEvent}
use Rattle.str_scene.specs.Scenes.{Scene, nth}
use Rattle.str_model.proofs.Principle.Everywhere.{at_place, run-append}
use Rattle.str_model.proofs.Pruning.Twins.{Alike, a_refuse, a_reply, a_same}

idle_ends : (e : Event) (i : ℕ) (w : World) → EndsIdle (stepped e i w None).journal
idle_ends e i w = (record { event = e; idle = true; answers = 0 }, last_push None w.journal (record { event = e; idle = true; answers = 0 }), refl)

-- each view of the state has the own transactions of the other's
abbrev SameOwn : World → World → Type 0
SameOwn w u = (i : ℕ) (x : View) → slice_get u.nodes i ≡ Some x → (v : View) × (slice_get w.nodes i ≡ Some v) × (x.own ≡ v.own)

late_ends : (scene : Scene) (w u : World) → SameOwn w u → (e : Event) (n : NodeId) (m : Message) → IsLate w m.body → (gs : List Bool) → EndsIdle (Runs.at_node scene e n (Deliver m) (regiven gs u)).journal
late_ends scene w u same e n m c gs = by_view (nth u.nodes n.0) refl
  where
    by_place : (k : ℕ) (x : View) → nth u.nodes k ≡ Some x → EndsIdle (stepped e (k - 1) (regiven gs u) (step (record { scene = scene; node = record { 0 = k } }) (Deliver m) x)).journal
    by_place zero x q = absurd (cc q)
    by_place (suc k) x q =
        let s = same k x q in
        let none : step (at_place scene k) (Deliver m) x ≡ None = late_step scene w k s.0 x s.1 s.2 m c in
        rw (sub-one, ← add-one k) (subst (λ (o : Option Doing). EndsIdle (stepped e k (regiven gs u) o).journal) (sym none) (idle_ends e k (regiven gs u)))

    by_view : (o : Option View) → nth u.nodes n.0 ≡ o → EndsIdle (step_at scene e n (Deliver m) (regiven gs u) o).journal
    by_view None q = idle_ends e 0 (regiven gs u)
    by_view (Some x) q = by_place n.0 x q

after_journal : (p : PrunedWorld) (w : World) (e : Event) (o : Option ℕ) (d : Option Done) → (pruned_after p w e o d).world.journal ≡ w.journal
after_journal p w e None d = refl
after_journal p w e (Some i) None = refl
after_journal p w e (Some i) (Some d) = by_idle d.idle (slice_get w.nodes i)
  where
    by_idle : (b : Bool) (o : Option View) → (if b then record p { world = w } else pruned_at p w e i o).world.journal ≡ w.journal
    by_idle true o = refl
    by_idle false None = refl
    by_idle false (Some v) = refl

happens_journal : (scene : Scene) (p : PrunedWorld) (e : Event) → (pruned_happens scene p e).world.journal ≡ (happens scene p.world e).journal
unfolding pruned_happens
happens_journal scene p e =
    let w = happens scene p.world e in
    after_journal p w e (taken_by scene p.world e) (last_or None w.journal)

late_event : (scene : Scene) (w u : World) → SameOwn w u → (i : ℕ) (m : Message) → nth u.sent i ≡ Some m → IsLate w m.body → EndsIdle (happens scene u (DeliverEvent i)).journal
unfolding happens
late_event scene w u same i m q c =
    subst (λ (o : Option Message). EndsIdle (Runs.deliver_event scene (DeliverEvent i) i u o).journal) (sym q) (late_ends scene w u same (DeliverEvent i) m.receiver m c (slice_set u.given (i - 1) true))

pub late_idle : LateIdle
late_idle scene es i c =
    let m : Message = c.0 in
    let n : Message = c.1 in
    let q = c.2 in
    let r = c.3 in
    let w : World = run scene es in
    let p : PrunedWorld = pruned_run scene es in
    let a = alongside scene es in
    let late = by_alike m n (subst₂ (BothAlike (IsDecidedIn w)) q r (both_nth i)) c.4 in (
      subst (λ (z : World). EndsIdle z.journal) (sym (run-append scene (opening scene) es (DeliverEvent i ∷ []))) (late_event scene w w (λ k x g. (x, g, refl)) i m q late.0),
      subst (λ (z : PrunedWorld). EndsIdle z.world.journal) (sym (pruned_one_more scene es (DeliverEvent i)))
          (subst (λ (xs : List Done). EndsIdle xs) (sym (happens_journal scene p (DeliverEvent i))) (late_event scene w p.world same_own i n r late.1)),
    )
  where
    both_nth : (k : ℕ) → BothAlike (IsDecidedIn (run scene es)) (nth (run scene es).sent k) (nth (pruned_run scene es).world.sent k)
    both_nth zero = tt
    both_nth (suc k) = alike_at (IsDecidedIn (run scene es)) (run scene es).sent (pruned_run scene es).world.sent k (alongside scene es).sent

    same_own : SameOwn (run scene es) (pruned_run scene es).world
    same_own k x g = by_view (slice_get (run scene es).nodes k) refl
      where
        by_view : (o : Option View) → slice_get (run scene es).nodes k ≡ o → (v : View) × (slice_get (run scene es).nodes k ≡ Some v) × (x.own ≡ v.own)
        by_view None h = absurd (cc ((alongside scene es).none k h, g))
        by_view (Some v) h =
            let b = (alongside scene es).nodes k v h in
            let same = one_of x (pruned (bound (low v) k b.row) v) (slice_get (pruned_run scene es).world.nodes k) g b.view in
            (v, h, ap (λ (z : View). z.own) same)

    by_alike : (m n : Message) → Alike (IsDecidedIn (run scene es)) m n → m ≢ n → IsLate (run scene es) m.body × IsLate (run scene es) n.body
    by_alike m n (a_same u v q) ne = absurd (ne q)
    by_alike m n (a_reply from to tx k v v' by by' fc fc' c) ne = (late_reply tx k v by fc c, late_reply tx k v' by' fc' c)
    by_alike m n (a_refuse from to tx p by by' k c) ne = (late_refuse tx p by k c, late_refuse tx p by' k c)
