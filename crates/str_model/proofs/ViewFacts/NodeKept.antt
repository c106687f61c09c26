-- A whole step keeps what holds of a node's view between steps, whatever its input is.
use Rattle.std.proofs.Common.{Bool, List, None, Option, Some, [], ap, arith, false, if◌then◌else◌, inl, inr, length, map, refl, slice_get, slice_set, subst, suc, sym, true, zero, ℕ, ◌-◌, ◌<◌, ◌∙◌, ◌∷◌, ◌≡◌, ◌≢◌, ◌⊎◌}
use Rattle.std.proofs.lemmas.Option.{slice_get_within}
use Rattle.dependency_set.specs.declared.names.Dep.{Dep}
use Rattle.str_model.specs.Acts.{aborted, closed, decided_as}
use Rattle.str_base.specs.declared.names.Cause.TheVariants.{Wish}
use Rattle.str_model.specs.declared.messages.Input.{Input}
use Rattle.str_model.specs.Gates.{DepParts, dep_parts, gate_turn, parts_of}
use Rattle.str_model.specs.NodeFacts.{EndedAt, IsShut, MomentFacts, NodeFacts}
use Rattle.str_model.specs.Owned.{Owns}
use Rattle.str_model.specs.Pass.{gates_in, half_turn, pass_to, turn}
use Rattle.str_model.specs.Pass
use Rattle.str_model.specs.Runs.{opening_view}
use Rattle.str_model.specs.Scripts
use Rattle.str_model.specs.Steps.{step}
use Rattle.str_model.specs.Strange.{has_node}
use Rattle.str_model.specs.Views.{Aborted, Active, CertWait, Closing, Committed, Doing, Global, Local, Own, Phase, ReadWait, Remote, Reply, View, is_decided, lc_of, starts}
use Rattle.str_scene.specs.Scenes.{Here, participants}
use Rattle.str_scene.specs.SceneLimits.{IsScene}
use Rattle.str_model.proofs.Principle.SingleChanges.{Act, InRule, InTurn, InWait, Path, Touches, Where, along}
use Rattle.str_model.proofs.Principle.StepPaths.{StepPath, StepTo, first-path, half_turn-path, resolved_first, step-path, turn-path}
use Rattle.str_model.proofs.OwnFacts.TurnsBelow.{Below, UpTo, leaves}
use Rattle.str_model.proofs.ViewFacts.GatesEnd.{Asks, OfScene, gates-end, participants_of, seats_of, to_ask-within}
use Rattle.str_model.proofs.ViewFacts.MomentKept.{moment-act, moment_opening}
use Rattle.str_model.proofs.OwnFacts.LocalOwners.{same_own}
use Rattle.str_model.proofs.OwnFacts.DependenciesStand.{pass_length, resolved_up, same_length, step_open}
use Rattle.str_base.proofs.Lists.{get_set}
use Rattle.str_base.specs.Members.{In}

-- ---- what a gate sees of the dependencies

parts_same : (here : Here) (old new : List Own) (ds : List Dep) → ((dep : Dep) → In dep ds → slice_get new (dep.seq - 1) ≡ slice_get old (dep.seq - 1))
    → map (dep_parts here new) ds ≡ map (dep_parts here old) ds
parts_same here old new [] h = refl
parts_same here old new (d ∷ ds) h =
    let one : dep_parts here new d ≡ dep_parts here old d = ap (λ o. let r : DepParts = record { seq = d.seq; parts = parts_of here o } in r) (h d (inl refl)) in
    ap (λ x. x ∷ map (dep_parts here new) ds) one ∙ ap (λ xs. dep_parts here old d ∷ xs) (parts_same here old new ds (λ e j. h e (inr j)))

-- the gates of those below n wait
abbrev pub EndedTo : Here → ℕ → View → Type 0
EndedTo here n v = (j : ℕ) → j < n → EndedAt here v j

pub record Passed (here : Here) (n : ℕ) (v : View) : Type 0 where
  pub moment : MomentFacts here v
  pub ended : EndedTo here n v

module _ (here : Here) (ok : IsScene here.scene) (exists : has_node here here.node ≡ true) (input : Input) where
  -- a change that touches none below n
  ended_kept : (w : Where) (n : ℕ) → (w ≢ InRule) → ((j : ℕ) → j < n → Touches w j → ⊥) → (d e : Doing) → Act here input w d e → Passed here n d.view → Passed here n e.view
  ended_kept w n r f d e act h =
      record {
        moment = moment-act here ok exists input w d e act h.moment;
        ended = λ j lt x lc own op l.
            let k = leaves here input w d e r act in
            let was : Owns d.view j x = sym (k.others j (f j lt)) ∙ own in
            let same : map (dep_parts here e.view.own) x.snap.deps ≡ map (dep_parts here d.view.own) x.snap.deps =
            parts_same here d.view.own e.view.own x.snap.deps (λ dep m. let wd = h.moment.base.deps j x dep was op m in
            k.others (dep.seq - 1) (λ t. f (dep.seq - 1) (omega (arith, wd.seq, wd.before, lt)) t)) in
            subst (λ ps. IsShut (gate_turn x.snap lc x.parts ps)) (sym same) (h.ended j lt x lc was op l);
      }

  passed_along : (w : Where) (n : ℕ) → (w ≢ InRule) → ((j : ℕ) → j < n → Touches w j → ⊥) → (d e : Doing) → Path here input w d e → Passed here n d.view → Passed here n e.view
  passed_along w n r f d e p h = along here input w (λ z. Passed here n z.view) (ended_kept w n r f) d e p h

  pub moment_along : (w : Where) (d e : Doing) → Path here input w d e → MomentFacts here d.view → MomentFacts here e.view
  moment_along w d e p h = along here input w (λ z. MomentFacts here z.view) (moment-act here ok exists input w) d e p h

  -- ---- a turn

  asks_all : (i : ℕ) (v : View) → MomentFacts here v → Asks here i (length here.scene.parts) v
  asks_all i v h = record { few = λ x own. to_ask-within here.scene x.parts; of = λ x own. by_lc x own (lc_of x.phase) refl }
    where
      by_lc : (x : Own) → Owns v i x → (o : Option ℕ) → lc_of x.phase ≡ o → OfScene here.scene x.parts
      by_lc x own None e = λ a m. absurd (subst (In a) ((h.homes i x own).none e) m)
      by_lc x own (Some lc) e = seats_of here.scene x.parts (participants here.scene here.node x.writes) ((h.homes i x own).seats_are lc e) (participants_of here.scene here.node x.writes)

  close_ended : (i : ℕ) (d : Doing) → MomentFacts here d.view → EndedAt here (Scripts.at_own i (Pass.close_own here i) d).view i
  unfolding aborted closed
  close_ended i d h = by_own (slice_get d.view.own i) refl
    where
      in_gates : EndedAt here (gates_in here i d).view i
      in_gates = gates-end here i (length here.scene.parts) d (asks_all i d.view h)

      rests_at : (x : Own) → Owns d.view i x → lc_of x.phase ≡ None → EndedAt here d.view i
      rests_at x own l = λ y m own' o k. absurd (cc (l, ap (λ (z : Own). lc_of z.phase) (same_own d.view i i x y own own' refl), k))

      ends_as : (x z : Own) → Owns d.view i x → is_decided z.phase ≡ true → (y : Own) → slice_get (slice_set d.view.own i z) i ≡ Some y → is_decided y.phase ≡ false → ⊥
      ends_as x z own f y own' o = let q : Some z ≡ Some y = sym (get_set d.view.own i x z own) ∙ own' in let is : z ≡ y = cc q in cc (ap (λ (u : Own). is_decided u.phase) is, f, o)

      free : (wish : Bool) (x : Own) → Owns d.view i x → EndedAt here (Pass.close_free here i wish x d).view i
      free true x own = λ y m own' o k. absurd (ends_as x (decided_as (Aborted (lc_of x.phase) Wish) x) own refl y own' o)
      free false x own = λ y m own' o k. absurd (ends_as x (decided_as (Committed None None) x) own refl y own' o)

      closing : (b wish : Bool) (x : Own) → Owns d.view i x → lc_of x.phase ≡ None → EndedAt here (if b then Pass.close_free here i wish x d else d).view i
      closing true wish x own l = free wish x own
      closing false wish x own l = rests_at x own l

      by_phase : (x : Own) (p : Phase) → Owns d.view i x → x.phase ≡ p → EndedAt here (Pass.close_phase here i p x d).view i
      by_phase x (Closing wish) own e = closing (Pass.is_empty x.snap.deps) wish x own (ap lc_of e)
      by_phase x Active own e = in_gates
      by_phase x (ReadWait k) own e = in_gates
      by_phase x (Remote k) own e = in_gates
      by_phase x (Reply k a by fc) own e = in_gates
      by_phase x CertWait own e = in_gates
      by_phase x (Local lc) own e = in_gates
      by_phase x (Global lc) own e = in_gates
      by_phase x (Committed m fc) own e = in_gates
      by_phase x (Aborted m c) own e = in_gates

      by_open : (x : Own) (b : Bool) → Owns d.view i x → is_decided x.phase ≡ b → EndedAt here (Scripts.unless_decided b (Pass.close_own here i x) d).view i
      by_open x true own e = λ y m own' o k. absurd (cc (ap (λ (z : Own). is_decided z.phase) (same_own d.view i i x y own own' refl), e, o))
      by_open x false own e = by_phase x x.phase own refl

      by_own : (o : Option Own) → slice_get d.view.own i ≡ o → EndedAt here (Scripts.of_own (Pass.close_own here i) o d).view i
      by_own None e = λ y m own' o k. absurd (cc (e, own'))
      by_own (Some x) e = by_open x (is_decided x.phase) e refl

  turn_ended : (i : ℕ) (d : Doing) → MomentFacts here d.view → EndedAt here (turn here i d).view i
  unfolding turn
  turn_ended i d h = close_ended i (half_turn here i d) (moment_along (InTurn i) d (half_turn here i d) (half_turn-path here input (InTurn i) i d refl) h)

  not_below : (i j : ℕ) → j < i → j ≡ i → ⊥
  not_below i j lt e = omega (arith, lt, e)

  turn_passed : (i : ℕ) (d : Doing) → Passed here i d.view → Passed here (suc i) (turn here i d).view
  turn_passed i d h =
      let k = passed_along (InTurn i) i (λ q. cc q) (not_below i) d (turn here i d) (turn-path here input (InTurn i) i d refl) h in
      record { moment = k.moment; ended = λ j lt. by_order j k (order j lt) }
    where
      order : (j : ℕ) → j < suc i → (j < i) ⊎ (j ≡ i)
      order j lt = grind arith

      by_order : (j : ℕ) → Passed here i (turn here i d).view → (j < i) ⊎ (j ≡ i) → EndedAt here (turn here i d).view j
      by_order j k (inl lt) = k.ended j lt
      by_order j k (inr e) = subst (EndedAt here (turn here i d).view) (sym e) (turn_ended i d h.moment)

  pub pass_passed : (n : ℕ) (d : Doing) → MomentFacts here d.view → Passed here n (pass_to here n d).view
  pass_passed zero d h = record { moment = h; ended = λ j lt. absurd (omega (arith, lt)) }
  pass_passed (suc i) d h = turn_passed i (pass_to here i d) (pass_passed i d h)

  -- where the turn of the i-th transaction tries again, its dependencies are open, and so are those of the ones below it
  pub turn_ready : (i : ℕ) (d : Doing) → MomentFacts here d.view → Below here i d.view → MomentFacts here (resolved_first here input (InTurn i) i d).view × UpTo here i (resolved_first here input (InTurn i) i d).view
  turn_ready i d h below =
      (moment_along (InTurn i) d (resolved_first here input (InTurn i) i d) (first-path here input (InTurn i) i d refl) h, resolved_up here input i d below)

  -- ---- a step

  path_facts : (v : View) (e : Doing) → StepPath here input (starts v) e → NodeFacts here v → NodeFacts here e.view
  path_facts v e s h =
      let r = s.ruled in
      let n = length r.view.own in
      let ruled = moment_along InRule (starts v) r s.rule h.moment in
      let passed = pass_passed n r ruled in
      let end = passed_along InWait n (λ q. cc q) (λ j lt t. t) (pass_to here n r) e s.waits passed in
      let len : length e.view.own ≡ n = along here input InWait (λ d. length d.view.own ≡ n) (same_length here input InWait (λ q. cc q) n) (pass_to here n r) e s.waits (pass_length here input n r) in
      let below : Below here (length v.own) v = record { base = h.moment.base; below = h.open_ } in
      record {
        moment = end.moment;
        open_ = (step_open here input v e s below).below;
        ended = λ j x lc own op l. end.ended j (omega (arith, slice_get_within e.view.own j x own, len)) x lc own op l;
      }

  pub node_step : (v : View) (d : Doing) → NodeFacts here v → step here input v ≡ Some d → NodeFacts here d.view
  node_step v d h e = path_facts v d (subst (StepTo here input (starts v)) e (step-path here input v)) h

pub node_opening : (here : Here) → NodeFacts here (opening_view here.scene)
node_opening here = record { moment = moment_opening here; open_ = λ i x dep lt own op m. absurd (cc own); ended = λ i x lc own op l. absurd (cc own) }
