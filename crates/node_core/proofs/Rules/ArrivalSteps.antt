-- A Replicate is taken after its evictions: what each piece needs, and that all of them are what the model does.
use Rattle.std.proofs.Common.{List, Some, [], ap, arith, drop, false, length, slice_get, subst, sym, take, true, ℕ, ◌+◌, ◌-◌, ◌∙◌, ◌∷◌, ◌≡◌, ◌≤◌}
use Rattle.std.proofs.lemmas.List.{take-append-drop}
use Rattle.node_core.proofs.Rules.ArrivalRules.{replicate_new}
use Rattle.node_core.proofs.Rules.Evictions.{brings, brought, evict-path, evict_fewer, evict_leaves, evict_split, evicted_at, EvictedAt}
use Rattle.node_core.proofs.Whole.Growing.{Grows, fits_before, grows_along, more-sent}
use Rattle.node_core.proofs.Whole.Moves.{did_as, did_then, facts_then, fits_as, fits_then, holds_then}
use Rattle.node_core.proofs.PassTurns.PassSteps.{take_past}
use Rattle.node_core.proofs.Rules.ScriptSteps.{own_then}
use Rattle.node_core.proofs.Waiting.SweepOver.{take_next}
use Rattle.node_core.specs.Arriving.{AreEvicted, CanPlace, IsNamed}
use Rattle.node_core.specs.Working.{Did, Fits, HasFacts, OwnIs, WorkState}
use Rattle.replica_apply.specs.declared.slaves.Evicted.{Evicted}
use Rattle.replica_apply.specs.Slaves.{evict_all, evict_one}
use Rattle.str_base.specs.declared.names.Cause.TheVariants.{Conflict as ByConflict}
use Rattle.str_base.specs.declared.names.NodeId.{NodeId}
use Rattle.str_base.specs.declared.names.Version.{Version}
use Rattle.str_base.specs.Members.{In}
use Rattle.str_base.specs.Versions.{of_pair}
use Rattle.str_model.specs.Acts.{aborted, taken}
use Rattle.str_model.specs.Arrivals.{replicate_rule}
use Rattle.str_model.specs.declared.messages.Arrived.{Arrived}
use Rattle.str_model.specs.declared.messages.Input.TheVariants.{Deliver}
use Rattle.str_model.specs.Scripts.{at_own}
use Rattle.str_model.specs.Strange.{has_named_writes}
use Rattle.str_model.specs.Views.{Doing, is_decided}
use Rattle.str_model.proofs.Principle.SingleChanges.{InRule}
use Rattle.str_model.proofs.ViewFacts.NodeKept.{moment_along}
use Rattle.str_model.proofs.ViewFacts.NodeUses.{held_open}
use Rattle.str_scene.specs.Scenes.{Here, hosts}

module _ (w : WorkState) (f : HasFacts w) (a : Arrived) (named : IsNamed w a) (es : List Evicted) where
  -- after some of them
  abbrev after : List Evicted → Doing
  after gs = evict_all w.here a gs w.doing

  pub evict_facts : (gs : List Evicted) (mid : WorkState) → Did (after gs) w mid → HasFacts mid
  evict_facts gs mid s =
      facts_then w mid (after gs) f s
      (moment_along w.here f.limits f.exists (Deliver (brings w.here a)) InRule w.doing (after gs) (evict-path w.here a gs w.doing (brought w.here a f.exists named)) f.moment)

  module _ (evicted : AreEvicted w a es) (k : ℕ) (e : Evicted) (at : slice_get es k ≡ Some e) (mid : WorkState) (s : Did (after (take k es)) w mid) where
    one_at : EvictedAt w.here.node w.doing.view.versions a.writes es k e
    one_at =
        let n = evicted.0 in
        subst (λ xs. EvictedAt w.here.node w.doing.view.versions a.writes xs k e) (sym evicted.1)
        (evicted_at w.here.node w.doing.view.versions a.writes n k e (ap (λ xs. slice_get xs k) (sym evicted.1) ∙ at))

    pub step_above : 1 ≤ e.seq
    step_above = one_at.above

    pub step_open : OwnIs (λ x. is_decided x.phase ≡ false) (e.seq - 1) mid
    step_open =
        let o = one_at in
        let c = held_open w.here w.doing.view f.moment e.seq a.writes o.write o.held in
        let q : c.place ≡ e.seq - 1 = (let n = c.number in omega (arith, n)) in
        own_then (λ h x. is_decided x.phase ≡ false) (e.seq - 1) w mid (after (take k es)) c.owner s
        (evict_leaves w.here a (take k es) e.seq w.doing o.before ∙ subst (λ n. slice_get w.doing.view.own n ≡ Some c.owner) q c.owns) c.open_

    one_more : after (take (k + 1) es) ≡ evict_one w.here a e (after (take k es))
    one_more = ap after (take_next es k e at) ∙ evict_split w.here a (take k es) (e ∷ []) w.doing

    more_after : Grows (after (take (k + 1) es)) (after es)
    more_after =
        let z : Doing = after (take (k + 1) es) in
        let q : after es ≡ evict_all w.here a (drop (k + 1) es) z =
        ap after (sym (take-append-drop (k + 1) es)) ∙ evict_split w.here a (take (k + 1) es) (drop (k + 1) es) w.doing in
        subst (Grows z) (sym q)
        (grows_along w.here (Deliver (brings w.here a)) InRule z (evict_all w.here a (drop (k + 1) es) z)
        (evict-path w.here a (drop (k + 1) es) z (brought w.here a f.exists named)))

    module _ (n : NodeId) (here_is : n ≡ w.here.node) where
      abbrev evicts : Here → Doing → Doing
      evicts h d = at_own (e.seq - 1) (aborted h (e.seq - 1) (ByConflict a.tx e.key n)) d

      one_more_at : after (take (k + 1) es) ≡ evicts w.here (after (take k es))
      one_more_at = one_more ∙ ap (λ m. at_own (e.seq - 1) (aborted w.here (e.seq - 1) (ByConflict a.tx e.key m)) (after (take k es))) (sym here_is)

      pub step_fits : Fits w (after es) → Fits mid (evicts mid.here mid.doing)
      step_fits g = fits_then evicts w mid (after (take k es)) s (fits_as w _ _ one_more_at (fits_before w (after (take (k + 1) es)) (after es) more_after g))

      pub step_next : (new : WorkState) → Did (evicts mid.here mid.doing) mid new → Did (after (take (k + 1) es)) w new
      step_next new t = did_as w new _ _ (sym one_more_at) (did_then evicts w mid new (after (take k es)) s t)

  pub evict_done : (n : ℕ) (new : WorkState) → length es ≤ n → Did (after (take n es)) w new → Did (after es) w new
  evict_done n new q s = did_as w new _ _ (ap after (take_past es n q)) s

  -- once all are evicted, it may be placed
  module _ (ts : ℕ) (rule : replicate_rule w.here a w.doing ≡ Some (taken w.here a ts (after es))) where
    pub taken_grows : Grows (after es) (taken w.here a ts (after es))
    unfolding taken
    taken_grows = record {
      added = omega arith;
      sent = more-sent (after es).sent _;
      released = omega arith;
    }

    pub take_place : (mid : WorkState) → Did (after es) w mid → CanPlace mid a
    take_place mid s =
        let m = replicate_new w.here w.doing f.moment a (taken w.here a ts (after es)) rule in
        record {
          facts = (evict_facts es mid s).moment;
          named = holds_then (λ y z. has_named_writes y a.tx a.part a.rs a.lc a.writes ≡ true) w mid (after es) s named;
          hosted = holds_then (λ y z. hosts y.scene y.node a.part ≡ true) w mid (after es) s m.hosted;
          none = holds_then (λ y z. (u : Version) → In u z.view.versions → of_pair a.tx a.part u ≡ false) w mid (after es) s (λ u i. m.none u (evict_fewer w.here a es w.doing u i));
        }
