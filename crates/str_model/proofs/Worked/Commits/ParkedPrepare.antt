-- A Prepare overtakes the Commit of the session's last transaction, is parked, and is accepted when the Commit comes.
use Rattle.std.proofs.Common.{[], refl, true, ◌++◌, ◌∷◌, ◌≡◌}
use Rattle.std.specs.Prelude.{codes, pos}
use Rattle.str_model.specs.Drains.{cluster_run}
use Rattle.str_model.specs.Lines.{render}
use Rattle.str_model.proofs.Worked.Words.{c, d, everything, key, node, put, session, words}
use Rattle.str_scene.specs.Scenes.{Scene}
use Rattle.str_scene.specs.Spelling.{spelling}

unfoldable pub parked_prepare : Scene
unfolding words
parked_prepare =
    record {
      version = 1;
      nodes = 2;
      parts = (node 2 ∷ []) ∷ [];
      keys = record { names = key (codes "a") 1 ∷ []; texts = [] };
      sessions =
          session 1 ((put 0 (pos 1) ∷ []) ∷ (put 0 (pos 2) ∷ []) ∷ []) ∷ [];
      schedule = c 1 10 ∷ c 1 0 ∷ c 1 0 ∷ d 1 ∷ d 2 ∷ c 1 0 ∷ c 1 0 ∷ c 1 0 ∷ d 4 ∷ d 3 ∷ [];
      drain = true;
    }

parked_prepare-text : spelling parked_prepare ≡
    codes "str 1\nnodes 2\npart 1 2\nsession 1\ntx\nput a@1 1\ntx\nput a@1 2\nschedule\nc 1 10\nc 1 0\nc 1 0\n" ++
    codes "d 1\nd 2\nc 1 0\nc 1 0\nc 1 0\nd 4\nd 3\ndrain\nend\n"
unfolding everything parked_prepare
parked_prepare-text = refl

parked_prepare-answers : render parked_prepare (cluster_run parked_prepare) ≡
    codes "1.1 s1/1 commit rs=10 fc=11\n1.2 s1/2 commit rs=11 fc=12\nend commits=2 aborts=0 held=0 unbegun=0 messages=6\n"
unfolding everything parked_prepare
parked_prepare-answers = refl
