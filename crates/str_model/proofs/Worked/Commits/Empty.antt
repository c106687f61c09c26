-- A scene with no session: the run ends at once.
use Rattle.std.proofs.Common.{[], refl, true, ◌∷◌, ◌≡◌}
use Rattle.std.specs.Prelude.{codes}
use Rattle.str_model.specs.Drains.{cluster_run}
use Rattle.str_model.specs.Lines.{render}
use Rattle.str_model.proofs.Worked.Words.{everything, node, words}
use Rattle.str_scene.specs.Scenes.{Scene}
use Rattle.str_scene.specs.Spelling.{spelling}

unfoldable pub empty : Scene
unfolding words
empty =
    record {
      version = 1;
      nodes = 1;
      parts = (node 1 ∷ []) ∷ [];
      keys = record { names = []; texts = [] };
      sessions =
          [];
      schedule = [];
      drain = true;
    }

empty-text : spelling empty ≡
    codes "str 1\nnodes 1\npart 1 1\nschedule\ndrain\nend\n"
unfolding everything empty
empty-text = refl

empty-answers : render empty (cluster_run empty) ≡
    codes "end commits=0 aborts=0 held=0 unbegun=0 messages=0\n"
unfolding everything empty
empty-answers = refl
