-- A decided transaction stays, and the answers grow at their end.
use Rattle.std.proofs.Common.{List, Some, [], ap, append-nil, append_assoc, slice_get, sym, ℕ, ◌++◌, ◌∙◌, ◌≡◌}
use Rattle.str_model.specs.declared.messages.Answer.{Answer}
use Rattle.str_model.specs.declared.messages.Input.{Input}
use Rattle.si_laws.specs.Laws.Lasting.{AnswersGrow, DecidedStay, IsPrefixOf}
use Rattle.str_model.specs.Owned.{Owns}
use Rattle.str_model.specs.Runs.{opening, run}
use Rattle.str_scene.specs.Scenes.{Scene}
use Rattle.str_model.specs.Views.{Doing, View}
use Rattle.str_model.proofs.Principle.SingleChanges.{Act, Where}
use Rattle.str_model.proofs.Principle.Everywhere.{IsSeen, Stage, at_place, during, ever_after, run-append, stays_at}
use Rattle.str_model.proofs.Changes.OwnChanges.{own_step}
use Rattle.str_model.proofs.Changes.PairWords.{decided-step}

pub decided_stay : DecidedStay
decided_stay scene ok early late n i v x is own dec =
    let P : View → Type 0 = λ v. Owns v i x in
    let h = stays_at scene ok P (λ here good input w d e a o. decided-step i x d.view e.view dec (own_step here input w d e a) o) n (run scene early) v late is own in
    (h.view, rw (run-append scene (opening scene) early late) h.there, h.fact)

grows-keeps : (scene : Scene) (old : List Answer) (s : Stage) (i : ℕ) (v : View) (input : Input) (w : Where) (d e : Doing) → slice_get s.nodes i ≡ Some v → IsSeen s input
    → IsPrefixOf old s.answers → Act (at_place scene i) input w d e → IsPrefixOf old (during s i d).answers → IsPrefixOf old (during s i e).answers
grows-keeps scene old s i v input w d e is seen h a h' = (h.0 ++ e.released, sym (append_assoc old h.0 e.released) ∙ ap (λ xs. xs ++ e.released) h.1)

pub answers_grow : AnswersGrow
answers_grow scene ok early late =
    let old : List Answer = (run scene early).answers in
    rw (run-append scene (opening scene) early late)
    (ever_after scene (λ s. IsPrefixOf old s.answers) (grows-keeps scene old) (run scene early) late ([], append-nil old))
