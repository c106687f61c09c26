-- The gate of an own transaction in a loop: what each look needs, and that all of them are what the model does.
use Rattle.std.proofs.Common.{Some, ap, arith, false, inl, inr, length, map, refl, slice_get, subst, suc, sym, true, zero, ℕ, ◌+◌, ◌<◌, ◌∙◌, ◌≡◌, ◌≤◌}
use Rattle.std.specs.List.{range_with_len}
use Rattle.commit_gate.specs.Answers.{turn_of as gate_said}
use Rattle.commit_gate.specs.declared.gates.GateTurn.{GateTurn}
use Rattle.commit_gate.specs.declared.gates.GateTurn.TheVariants as spoken
use Rattle.node_core.proofs.PassTurns.GatesOver.{Asking, asked_owns, asking, asks_left, gates_commit, gates_few, gates_shut, of_scene}
use Rattle.node_core.proofs.Whole.Growing.{fits_before}
use Rattle.node_core.proofs.Whole.Moves.{did_as, facts_then, fits_as, holds_then, stays_self, stays_then}
use Rattle.node_core.proofs.PassTurns.OwnMoments.{asked_moment}
use Rattle.node_core.proofs.Rules.ScriptSteps.{own_then}
use Rattle.node_core.specs.Working.{Did, Fits, HasFacts, OwnIs, Stays, WorkState}
use Rattle.str_base.specs.declared.names.PartId.{PartId}
use Rattle.str_base.specs.declared.names.Ts.{Ts}
use Rattle.str_base.specs.Members.{In}
use Rattle.str_model.specs.Acts.{asked, committed}
use Rattle.str_model.specs.Gates.{Ask, gate_of}
use Rattle.str_model.specs.NodeFacts.{IsShut}
use Rattle.str_model.specs.Pass.{gates, gates_in}
use Rattle.str_model.specs.Scripts.{at_own}
use Rattle.str_model.specs.Strange.{has_part}
use Rattle.str_model.specs.Views.{Doing, Own, is_decided, lc_of}
use Rattle.str_model.proofs.OwnFacts.AskedParts.{gate_ask}
use Rattle.str_model.proofs.ViewFacts.QuietTurns.{open_does}
use Rattle.str_scene.specs.Scenes.{Scene, all_parts}

-- ---- the partition that is asked exists

numbered_in : (a n : ℕ) (p : PartId) → In p (map (λ (k : ℕ). let q : PartId = record { 0 = k } in q) (range_with_len a n)) → (a ≤ p.0) × (p.0 < a + n)
numbered_in a zero p h = absurd h
numbered_in a (suc n) p (inl e) = let q : a ≡ p.0 = ap (λ (z : PartId). z.0) e in (omega (arith, q), omega (arith, q))
numbered_in a (suc n) p (inr h) = let r = numbered_in (a + 1) n p h in (omega (arith, r.0), omega (arith, r.1))

part_there : (scene : Scene) (p : PartId) → In p (all_parts scene) → (0 < p.0) × (p.0 ≤ length scene.parts)
part_there scene p h = let r = numbered_in 1 (length scene.parts) p h in (omega (arith, r.0), omega (arith, r.1))

-- ---- the loop

-- where the loop stands: the gate goes on from here as from the beginning
pub record GatesAt (w : WorkState) (i lc : ℕ) (at : WorkState) (turn : GateTurn) : Type 0 where
  pub stays : Stays w at
  pub same : gates_in w.here i w.doing ≡ gates at.here i (suc (asks_left at.here i at.doing.view)) at.doing
  pub facts : HasFacts at
  pub own : OwnIs (λ x. (is_decided x.phase ≡ false) × (lc_of x.phase ≡ Some lc)) i at
  pub said : (x : Own) → slice_get at.doing.view.own i ≡ Some x → gate_said turn ≡ gate_of at.here at.doing.view lc x

pub gates_begin : (w : WorkState) (i lc : ℕ) (turn : GateTurn) → HasFacts w → (o : OwnIs (λ x. (is_decided x.phase ≡ false) × (lc_of x.phase ≡ Some lc)) i w)
    → ((x : Own) → slice_get w.doing.view.own i ≡ Some x → gate_said turn ≡ gate_of w.here w.doing.view lc x) → GatesAt w i lc w turn
gates_begin w i lc turn f o s = record { stays = stays_self w; same = gates_few w.here i w.doing o.0 o.1 f.moment; facts = f; own = o; said = s }

module _ (w : WorkState) (i lc : ℕ) (at : WorkState) (turn : GateTurn) (h : GatesAt w i lc at turn) where
  -- the room of the whole is room for what is left
  left_fits : (e : Doing) → gates_in w.here i w.doing ≡ e → Fits w (gates_in w.here i w.doing) → Fits at e
  left_fits e q g =
      let r = subst (Fits w) q g in
      record { room = (let a = r.room in let b = h.stays.room in omega (arith, a, b)); space = (let a = r.space in let b = h.stays.space in omega (arith, a, b)) }

  module _ (p : PartId) (e : turn ≡ spoken.Ask p) where
    asks : gate_of at.here at.doing.view lc h.own.0 ≡ Ask p
    asks = sym (h.said h.own.0 h.own.1) ∙ ap (λ t. gate_said t) e

    pub asks_part : has_part at.here p ≡ true
    asks_part =
        let a = gate_ask h.own.0.snap lc h.own.0.parts _ p asks in
        let m = of_scene at.here at.doing.view i h.own.0 h.facts.moment h.own.1 a.0 a.1 in
        let t = part_there at.here.scene p (subst (λ q. In q (all_parts at.here.scene)) a.2 m) in
        in_bounds t.0 t.1
      where
        in_bounds : 0 < p.0 → p.0 ≤ length at.here.scene.parts → has_part at.here p ≡ true
        in_bounds l m = grind arith

    next : Asking at.here i at.doing (asked at.here i lc p h.own.0 at.doing)
    next = asking at.here i at.doing h.own.0 lc h.own.1 h.own.2.0 h.own.2.1 p h.facts.moment asks

    ask_is : at_own i (asked at.here i lc p) at.doing ≡ asked at.here i lc p h.own.0 at.doing
    ask_is = open_does i (asked at.here i lc p) at.doing h.own.0 h.own.1 h.own.2.0

    pub asks_fits : Fits w (gates_in w.here i w.doing) → Fits at (at_own i (asked at.here i lc p) at.doing)
    asks_fits g = fits_as at _ _ (sym ask_is) (fits_before at _ _ next.grows (left_fits _ h.same g))

    module _ (mid : WorkState) (s : Did (at_own i (asked at.here i lc p) at.doing) at mid) where
      did_ask : Did (asked at.here i lc p h.own.0 at.doing) at mid
      did_ask = did_as at mid _ _ ask_is s

      pub asked_facts : HasFacts mid
      asked_facts = facts_then at mid _ h.facts did_ask (asked_moment at.here h.facts.limits h.facts.exists at.doing h.facts.moment i h.own.0 h.own.1 lc p h.own.2.0 h.own.2.1 asks)

      pub asked_own : OwnIs (λ z. (is_decided z.phase ≡ false) × (lc_of z.phase ≡ Some lc)) i mid
      asked_own =
          own_then (λ y z. (is_decided z.phase ≡ false) × (lc_of z.phase ≡ Some lc)) i at mid _ _ did_ask
          (asked_owns at.here i at.doing h.own.0 lc h.own.1 h.own.2.0 h.own.2.1 p) (refl, refl)

      pub asked_less : asks_left mid.here i mid.doing.view < asks_left at.here i at.doing.view
      asked_less = holds_then (λ y z. asks_left y i z.view < asks_left at.here i at.doing.view) at mid _ did_ask next.less

      pub asked_next : (later : GateTurn) → ((z : Own) → slice_get mid.doing.view.own i ≡ Some z → gate_said later ≡ gate_of mid.here mid.doing.view lc z) → GatesAt w i lc mid later
      asked_next later t = record {
        stays = stays_then w at mid h.stays s.stays;
        same = h.same ∙ (next.same ∙ holds_then (λ y z. gates at.here i (suc (asks_left at.here i (asked at.here i lc p h.own.0 at.doing).view)) (asked at.here i lc p h.own.0 at.doing) ≡ gates y i (suc (asks_left y i z.view)) z) at mid _ did_ask refl);
        facts = asked_facts;
        own = asked_own;
        said = t;
      }

  -- the end
  pub gates_commits : (fc : Ts) → turn ≡ spoken.Commit fc → gates_in w.here i w.doing ≡ at_own i (committed at.here i lc fc.0) at.doing
  gates_commits fc e =
      h.same
      ∙ (gates_commit at.here i at.doing h.own.0 lc h.own.1 h.own.2.0 h.own.2.1 (asks_left at.here i at.doing.view) fc.0 (sym (h.said h.own.0 h.own.1) ∙ ap (λ t. gate_said t) e)
      ∙ sym (open_does i (committed at.here i lc fc.0) at.doing h.own.0 h.own.1 h.own.2.0))

  pub commits_fits : (fc : Ts) → turn ≡ spoken.Commit fc → Fits w (gates_in w.here i w.doing) → Fits at (at_own i (committed at.here i lc fc.0) at.doing)
  commits_fits fc e g = left_fits _ (gates_commits fc e) g

  pub commits_done : (fc : Ts) → turn ≡ spoken.Commit fc → (new : WorkState) → Did (at_own i (committed at.here i lc fc.0) at.doing) at new → Did (gates_in w.here i w.doing) w new
  commits_done fc e new t = record { done = t.done ∙ sym (gates_commits fc e); stays = stays_then w at new h.stays t.stays }

  pub shut_done : ((p : PartId) → turn ≡ spoken.Ask p → ⊥) → ((fc : Ts) → turn ≡ spoken.Commit fc → ⊥) → Did (gates_in w.here i w.doing) w at
  shut_done a c =
      record {
        done = sym (h.same ∙ gates_shut at.here i at.doing h.own.0 lc h.own.1 h.own.2.0 h.own.2.1 (asks_left at.here i at.doing.view) (subst IsShut (h.said h.own.0 h.own.1) (shut turn a c)));
        stays = h.stays;
      }
    where
      shut : (t : GateTurn) → ((p : PartId) → t ≡ spoken.Ask p → ⊥) → ((fc : Ts) → t ≡ spoken.Commit fc → ⊥) → IsShut (gate_said t)
      shut (spoken.Ask p) a c = absurd (a p refl)
      shut (spoken.Commit fc) a c = absurd (c fc refl)
      shut (spoken.Shut q) a c = tt
      shut (spoken.Missing p n) a c = tt
