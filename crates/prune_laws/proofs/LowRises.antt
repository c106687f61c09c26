-- Over a whole step the low mark doesn't fall, and what came to the same when it was pruned does so at each greater mark.
use Rattle.std.proofs.Common.{List, Some, [], ap, arith, subst, sym, true, ℕ, ◌∙◌, ◌∷◌, ◌≡◌, ◌≤◌}
use Rattle.str_model.specs.declared.messages.Input.{Input}
use Rattle.str_model.specs.Owned.{Owns}
use Rattle.str_model.specs.Pruning.{low, pruned}
use Rattle.str_model.specs.Steps.{step}
use Rattle.str_model.specs.Views.{Doing, Own, View, is_decided, starts}
use Rattle.str_scene.specs.Scenes.{Here}
use Rattle.str_model.proofs.Changes.OwnChanges.{own_step}
use Rattle.str_model.proofs.Changes.PairWords.{decided-step}
use Rattle.str_model.proofs.Principle.StepPaths.{StepPath, StepTo, step-keeps, step-path}
use Rattle.str_model.proofs.Pruning.PruneBounds.{Raises, SameLength}
use Rattle.str_model.proofs.Pruning.PruneKept.{Above, above-act, above_low, low_above}
use Rattle.str_model.proofs.Pruning.PruneLists.{pruned_again}

-- the path of a step that isn't idle
pub path_of : (here : Here) (input : Input) (v : View) (d : Doing) → step here input v ≡ Some d → StepPath here input (starts v) d
path_of here input v d q = subst (StepTo here input (starts v)) q (step-path here input v)

pub low_rises : (here : Here) (input : Input) (v : View) (d : Doing) → step here input v ≡ Some d → low v ≤ low d.view
low_rises here input v d q =
    low_above (low v) d.view (step-keeps here input (λ e. Above (low v) e.view) (λ w a b act h. above-act (low v) here input w a b act h) (starts v) d (path_of here input v d q) (above_low v))

-- a decided own transaction stays
pub decided_stays_own : (here : Here) (input : Input) (v : View) (d : Doing) → step here input v ≡ Some d → (i : ℕ) (x : Own) → is_decided x.phase ≡ true → Owns v i x → Owns d.view i x
decided_stays_own here input v d q i x z own =
    step-keeps here input (λ e. Owns e.view i x) (λ w a b act h. decided-step i x a.view b.view z (own_step here input w a b act) h) (starts v) d (path_of here input v d q) own

pub pruned_later : (g l : ℕ) (v w : View) → g ≤ l → pruned g v ≡ pruned g w → pruned l v ≡ pruned l w
pruned_later g l v w le q =
    let a : pruned l (pruned g v) ≡ pruned l v = (λ j. record v { versions = pruned_again g l v.versions le j }) in
    let b : pruned l (pruned g w) ≡ pruned l w = (λ j. record w { versions = pruned_again g l w.versions le j }) in
    sym a ∙ (ap (pruned l) q ∙ b)

-- ---- a row of what was heard

pub same_self : (row : List ℕ) → SameLength row row
same_self [] = tt
same_self (h ∷ hs) = same_self hs

pub raises_self : (row : List ℕ) → Raises row row
raises_self [] = tt
raises_self (h ∷ hs) = (omega arith, raises_self hs)
