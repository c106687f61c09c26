-- What has been written of the run of a bank's scene.
use Rattle.std.proofs.Common.{List, OnErr, OnOk, Option, Result, ap, ap₂, ℕ, ◌∙◌, ◌≡◌}
use Rattle.std.specs.Io.KnownBytes.{Appends}
use Rattle.str_model.specs.Drains.{cluster_run}
use Rattle.str_model.specs.Lines.{render}
use Rattle.str_model.specs.Runs.{World}
use Rattle.str_model.specs.declared.names.Got.{Got}
use Rattle.str_outer.specs.Pieces.{AppendsPrefix}
use Rattle.str_scene.specs.Scenes.{KeyTable, Scene}
use Rattle.strun.specs.Banks.{balances_after, bank_lines}
use Rattle.strun.specs.Outputs.{output}
use Rattle.strun.proofs.Written.{both_partly, both_written, first_partly}
use Rattle.strun_words.specs.declared.task.Task.TheVariants.{Bank}

-- the same where a run is told to be that of the scene
render_is : (scene s : Scene) (w : World) → s ≡ scene → w ≡ cluster_run scene → render s w ≡ render scene (cluster_run scene)
render_is scene s w q k = ap₂ render q k

balances_written_are : (scene s : Scene) (keys : KeyTable) (gots : List Got) → s ≡ scene → keys ≡ s.keys → gots ≡ balances_after scene
    → bank_lines keys gots ≡ bank_lines scene.keys (balances_after scene)
balances_written_are scene s keys gots q k g = ap₂ bank_lines (k ∙ ap (λ (z : Scene). z.keys) q) g

-- a prefix of the rendering was written
pub run_partly : (scene s : Scene) (w : World) (a b : Option (List ℕ)) → s ≡ scene → w ≡ cluster_run scene → AppendsPrefix a b (render s w) → AppendsPrefix a b (output Bank scene)
run_partly scene s w a b q k p = first_partly a b (render s w) (render scene (cluster_run scene)) (bank_lines scene.keys (balances_after scene)) (render_is scene s w q k) p

-- the rendering was written, and then the balances
pub bank_written : {E : Type 0} (scene s : Scene) (w : World) (keys : KeyTable) (gots : List Got) (a b d : Option (List ℕ)) (r : Result (Unit {0}) E) → s ≡ scene → w ≡ cluster_run scene
    → keys ≡ s.keys → gots ≡ balances_after scene → Appends a b (render s w) → OnOk r (Appends b d (bank_lines keys gots)) → OnOk r (Appends a d (output Bank scene))
bank_written scene s w keys gots a b d r q k n g p x =
    both_written a b d (render s w) (render scene (cluster_run scene)) (bank_lines keys gots) (bank_lines scene.keys (balances_after scene)) r (render_is scene s w q k)
    (balances_written_are scene s keys gots q n g) p x

-- a prefix of them was
pub bank_partly : {E : Type 0} (scene s : Scene) (w : World) (keys : KeyTable) (gots : List Got) (a b d : Option (List ℕ)) (r : Result (Unit {0}) E) → s ≡ scene → w ≡ cluster_run scene
    → keys ≡ s.keys → gots ≡ balances_after scene → Appends a b (render s w) → OnErr r (AppendsPrefix b d (bank_lines keys gots)) → OnErr r (AppendsPrefix a d (output Bank scene))
bank_partly scene s w keys gots a b d r q k n g p x =
    both_partly a b d (render s w) (render scene (cluster_run scene)) (bank_lines keys gots) (bank_lines scene.keys (balances_after scene)) r (render_is scene s w q k)
    (balances_written_are scene s keys gots q n g) p x
