-- The greatest clock reading: it is cut to the greatest that a snapshot may have.
use Rattle.std.proofs.Common.{[], refl, true, ◌∷◌, ◌≡◌}
use Rattle.std.specs.Prelude.{codes, pos}
use Rattle.str_model.specs.Drains.{cluster_run}
use Rattle.str_model.specs.Lines.{render}
use Rattle.str_model.proofs.Worked.Words.{c, everything, key, node, put, session, words}
use Rattle.str_scene.specs.Scenes.{Scene}
use Rattle.str_scene.specs.Spelling.{spelling}

unfoldable pub greatest_reading : Scene
unfolding words
greatest_reading =
    record {
      version = 1;
      nodes = 1;
      parts = (node 1 ∷ []) ∷ [];
      keys = record { names = key (codes "a") 1 ∷ []; texts = [] };
      sessions =
          session 1 ((put 0 (pos 5) ∷ []) ∷ []) ∷ [];
      schedule = c 1 18446744073709551615 ∷ [];
      drain = true;
    }

greatest_reading-text : spelling greatest_reading ≡
    codes "str 1\nnodes 1\npart 1 1\nsession 1\ntx\nput a@1 5\nschedule\nc 1 18446744073709551615\ndrain\nend\n"
unfolding everything greatest_reading
greatest_reading-text = refl

greatest_reading-answers : render greatest_reading (cluster_run greatest_reading) ≡
    codes "1.1 s1/1 commit rs=4611686018427387903 fc=4611686018427387904\nend commits=1 aborts=0 held=0 unbegun=0 messages=0\n"
unfolding everything greatest_reading
greatest_reading-answers = refl
