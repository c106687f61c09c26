-- No turn is broken off for its stamp: where no growth was refused, all turns of a round are whole.
use Rattle.std.proofs.Common.{◌≡◌, ◌≢◌, ◌≤◌, ◌<◌, ◌+◌, ◌*◌, ◌∙◌, ◌++◌, ◌^◌, ℕ, Bool, true, false, List, Some, ap, arith, inl, inr, length, length-append, refl, slice_get, subst, suc, sym}
use Rattle.lamport_log.proofs.MergeRuns.TakenSent.{under_in}
use Rattle.lamport_log.specs.Logs.{Log, Item}
use Rattle.lamport_log.specs.Merge.{merge_of}
use Rattle.lamport_log.specs.declared.logs.LogEntry.{LogEntry}
use Rattle.race_round.proofs.LogsReplay.{before, still_now, taken_at}
use Rattle.commit_gate.proofs.Gating.{at_map}
use Rattle.race_round.proofs.Places.{get_map, place_other}
use Rattle.race_round.proofs.Sequences.{last_on}
use Rattle.race_round.proofs.StampsFew.{last_few, merged_long, stamp_few}
use Rattle.race_round.specs.Races.{IsRace, Turns, logs_of, most_entries}
use Rattle.race_round.specs.Seats.{Seat, last_stamp}
use Rattle.race_round.specs.Stretches.{IsStopped, entries_in}
use Rattle.ring_links.specs.Ends.{link_to}
use Rattle.ring_links.specs.Flows.{taken_in}
use Rattle.ring_links.specs.Links.{InOrder}
use Rattle.ring_links.specs.declared.link.Link.{Link}
use Rattle.std.proofs.lemmas.List.{length-map}
use Rattle.std.proofs.Math.Nat.{suc-mul}
use Rattle.std.proofs.lemmas.Nat.{mul-le}
use Rattle.str_base.proofs.Lists.{slice_get_there}
use Rattle.str_base.specs.Members.{In}
use Rattle.str_scene.specs.Scenes.{Scene}

module _ (scene : Scene) (done : ℕ) (ns ms : List Seat) (race : IsRace scene done ns) (turns : Turns ns ms)
    (order : (i j : ℕ) (a b : Seat) → slice_get ms i ≡ Some a → slice_get ms j ≡ Some b → i ≢ j → (d : Link) → InOrder (link_to a.ends b.id.0 d) (link_to b.ends a.id.0 d)) where
  -- how many entries a log has after the turn
  pub few_now : (i : ℕ) (m : Seat) → slice_get ms i ≡ Some m → length m.log.entries ≤ (done + 1) * most_entries scene
  few_now i m em =
      let b = before scene done ns ms race turns order i m em in
      let t = b.turn in
      let long : length m.log.entries ≡ length b.seat.log.entries + (length t.taken + length t.moved) =
      ap (λ (l : List LogEntry). length l) t.stretch.entries
      ∙ (length-append b.seat.log.entries (entries_in (t.taken ++ t.moved))
      ∙ ap (λ (x : ℕ). length b.seat.log.entries + x) (length-map (t.taken ++ t.moved) (λ (it : Item). it.entry) ∙ length-append t.taken t.moved)) in
      let few : length t.taken + length t.moved ≤ most_entries scene = subst (λ (x : Scene). length t.taken + length t.moved ≤ most_entries x) b.placed.scene_ t.few in
      let old = b.placed.few in
      let one : (done + 1) * most_entries scene ≡ done * most_entries scene + most_entries scene = (let q : done + 1 ≡ suc done = omega arith in ap (λ (x : ℕ). x * most_entries scene) q ∙ suc-mul done (most_entries scene)) in
      omega (arith, long, few, old, one)

  module _ (bound : done < 256) where
    all_few : length (merge_of (logs_of ms)) < 2 ^ 62
    all_few =
        let logs = logs_of ms in
        let each = merged_long ((done + 1) * most_entries scene) logs (λ i l e. let m = at_map (λ (n : Seat). n.log) ms i l e in subst (λ (x : Log). length x.entries ≤ (done + 1) * most_entries scene) m.2 (few_now i m.0 m.1)) in
        let count : length logs ≤ 8 = (let c = race.count in let t = turns.count in let n = race.limits.nodes in let l = length-map ms (λ (n : Seat). n.log) in omega (arith, c, t, n.1, l)) in
        let most : most_entries scene ≤ 128 = (let n = race.limits.nodes in let s = race.limits.few_sessions in omega (arith, n.1, s)) in
        let a : (done + 1) * most_entries scene ≤ 256 * 128 = mul-le (done + 1) (most_entries scene) 256 128 (omega (arith, bound)) most in
        let b : length logs * ((done + 1) * most_entries scene) ≤ 8 * (256 * 128) = mul-le (length logs) ((done + 1) * most_entries scene) 8 (256 * 128) count a in
        omega (arith, each, b)

    -- a node that stopped wants
    pub stopped_wants : (i : ℕ) (m : Seat) → (em : slice_get ms i ≡ Some m) → IsStopped m (before scene done ns ms race turns order i m em).seat.ends (before scene done ns ms race turns order i m em).turn.moves → m.wanting ≡ true
    stopped_wants i m em (inl h) = h
    stopped_wants i m em (inr (inl h)) =
        let b = before scene done ns ms race turns order i m em in
        let closed = (still_now scene done ns ms race turns order).closed in
        let few = last_few (logs_of ms) closed i m.log (get_map (λ (n : Seat). n.log) ms i m em) in
        let is : m.stamp ≡ last_stamp 0 m.log.entries =
        b.turn.stretch.last
        ∙ (ap (λ (x : ℕ). last_stamp x (entries_in (b.turn.taken ++ b.turn.moved))) b.placed.stamp_
        ∙ (sym (last_on 0 b.seat.log.entries (entries_in (b.turn.taken ++ b.turn.moved)))
        ∙ ap (λ (l : List LogEntry). last_stamp 0 l) (sym b.turn.stretch.entries))) in
        let all = all_few in
        absurd (omega (arith, few, is, h, all))
    stopped_wants i m em (inr (inr h)) =
        let b = before scene done ns ms race turns order i m em in
        let closed = (still_now scene done ns ms race turns order).closed in
        let at = place_other scene done i b.seat b.placed b.within h.0.0 h.2 in
        let a = slice_get_there ms at.0 (let c = race.count in let t = turns.count in let l = at.2 in omega (arith, c, t, l)) in
        let sent = taken_at scene done ns ms race turns order at.0 i a.0 m a.1 em (λ z. at.3 (sym z)) h.1 (subst (λ (y : ℕ). In h.1 (taken_in (b.turn.moves y))) at.1 h.3) in
        let e = under_in a.0.log.entries h.1.number h.1.stamp sent.stamp_ in
        let few = stamp_few (logs_of ms) closed at.0 a.0.log e.0 (get_map (λ (n : Seat). n.log) ms at.0 a.0 a.1) e.1 in
        let is = e.2 in
        let late = h.4 in
        let all = all_few in
        absurd (omega (arith, few, is, late, all))

    -- where it doesn't want its turn is whole
    pub turn_whole : (i : ℕ) (m : Seat) → (em : slice_get ms i ≡ Some m) → m.wanting ≡ false → (before scene done ns ms race turns order i m em).turn.whole ≡ true
    turn_whole i m em calm = by_whole (before scene done ns ms race turns order i m em).turn.whole refl
      where
        by_whole : (w : Bool) → (before scene done ns ms race turns order i m em).turn.whole ≡ w → (before scene done ns ms race turns order i m em).turn.whole ≡ true
        by_whole true q = q
        by_whole false q = let wants = stopped_wants i m em ((before scene done ns ms race turns order i m em).turn.stopped q) in absurd (let no : true ≡ false = sym wants ∙ calm in cc)
