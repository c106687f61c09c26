-- The pass in a loop over the undecided own transactions: what each turn needs, and that all of them are the pass.
use Rattle.std.proofs.Common.{List, Some, [], ap, arith, false, length, refl, slice_get, subst, suc, sym, take, zero, ℕ, ◌+◌, ◌<◌, ◌∙◌, ◌∷◌, ◌≡◌, ◌≤◌}
use Rattle.std.proofs.lemmas.Option.{slice_get_within}
use Rattle.node_parts.specs.Owning.{open_from}
use Rattle.node_core.proofs.Whole.Growing.{fits_before}
use Rattle.node_core.proofs.Whole.Moves.{did_as, did_then, facts_then, fits_then}
use Rattle.node_core.proofs.PassTurns.OwnMoments.{any_input}
use Rattle.node_core.proofs.PassTurns.PassOver.{AtOpen, at_open, pass_grows, pass_rests, turns, turns_all, turns_more, turns_to}
use Rattle.node_core.proofs.Rules.ScriptSteps.{open_then, own_then}
use Rattle.node_core.proofs.Waiting.SweepOver.{take_next}
use Rattle.node_core.specs.Working.{Did, Fits, HasFacts, OwnIs, WorkState}
use Rattle.str_model.specs.NodeFacts.{OpenTo}
use Rattle.str_model.specs.Pass.{pass_to, turn}
use Rattle.str_model.specs.Views.{is_decided}
use Rattle.str_model.proofs.OwnFacts.DependenciesStand.{pass_open}
use Rattle.str_model.proofs.ViewFacts.NodeKept.{pass_passed}

pub take_past : {A : Type 0} (xs : List A) (n : ℕ) → length xs ≤ n → take n xs ≡ xs
take_past [] zero l = refl
take_past [] (suc n) l = refl
take_past (x ∷ xs) zero l = absurd (omega (arith, l))
take_past (x ∷ xs) (suc n) l = ap (λ ys. x ∷ ys) (take_past xs n (omega (arith, l)))

module _ (w : WorkState) (f : HasFacts w) where
  abbrev places : List ℕ
  places = open_from 0 w.doing.view.own

  module _ (k p : ℕ) (e : slice_get places k ≡ Some p) (mid : WorkState) (s : Did (turns w.here (take k places) w.doing) w mid) where
    spot : AtOpen 0 w.doing.view.own k p
    spot = at_open 0 w.doing.view.own k p e

    place_is : p ≡ spot.place
    place_is = let q = spot.is_place in omega (arith, q)

    owns_at : slice_get w.doing.view.own p ≡ Some spot.owner
    owns_at = subst (λ n. slice_get w.doing.view.own n ≡ Some spot.owner) (sym place_is) spot.owns

    below : p < length w.doing.view.own
    below = slice_get_within w.doing.view.own p spot.owner owns_at

    passed_is : turns w.here (take k places) w.doing ≡ pass_to w.here p w.doing
    passed_is =
        ap (λ ps. turns w.here ps w.doing) (spot.before ∙ ap (λ n. open_from 0 (take n w.doing.view.own)) (sym place_is))
        ∙ turns_to w.here p w.doing (let l = below in omega (arith, l))

    did_to : Did (pass_to w.here p w.doing) w mid
    did_to = did_as w mid _ _ passed_is s

    pub pass_facts : HasFacts mid
    pass_facts = facts_then w mid _ f did_to (pass_passed w.here f.limits f.exists any_input p w.doing f.moment).moment

    pub pass_own : OwnIs (λ x. is_decided x.phase ≡ false) p mid
    pass_own = own_then (λ h x. is_decided x.phase ≡ false) p w mid _ spot.owner did_to (pass_rests w.here p p w.doing (omega arith) ∙ owns_at) spot.open_

    pub pass_opens : OpenTo mid.doing.view p
    pass_opens = open_then p w mid _ did_to (pass_open w.here any_input p w.doing f.moment.base).below

    pub pass_fits : Fits w (pass_to w.here (length w.doing.view.own) w.doing) → Fits mid (turn mid.here p mid.doing)
    pass_fits g =
        fits_then (λ h d. turn h p d) w mid (pass_to w.here p w.doing) did_to
        (fits_before w (pass_to w.here (suc p) w.doing) (pass_to w.here (length w.doing.view.own) w.doing) (pass_grows w.here (suc p) (length w.doing.view.own) w.doing (let l = below in omega (arith, l))) g)

    pub pass_next : (new : WorkState) → Did (turn mid.here p mid.doing) mid new → Did (turns w.here (take (k + 1) places) w.doing) w new
    pass_next new t =
        did_as w new _ _ (sym (ap (λ ps. turns w.here ps w.doing) (take_next places k p e) ∙ turns_more w.here (take k places) p w.doing))
        (did_then (λ h d. turn h p d) w mid new (turns w.here (take k places) w.doing) s t)

  pub pass_done : (n : ℕ) (new : WorkState) → length places ≤ n → Did (turns w.here (take n places) w.doing) w new → Did (pass_to w.here (length w.doing.view.own) w.doing) w new
  pass_done n new q s = did_as w new _ _ (ap (λ ps. turns w.here ps w.doing) (take_past places n q) ∙ turns_all w.here w.doing) s
