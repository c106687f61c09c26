-- The master of a key refuses a Prepare, since another node's write stands above its snapshot.
use Rattle.std.proofs.Common.{[], refl, true, ◌++◌, ◌∷◌, ◌≡◌}
use Rattle.std.specs.Prelude.{codes, pos}
use Rattle.str_model.specs.Drains.{cluster_run}
use Rattle.str_model.specs.Lines.{render}
use Rattle.str_model.proofs.Worked.Words.{c, everything, key, node, put, session, words}
use Rattle.str_scene.specs.Scenes.{Scene}
use Rattle.str_scene.specs.Spelling.{spelling}

unfoldable pub refused_by_master : Scene
unfolding words
refused_by_master =
    record {
      version = 1;
      nodes = 2;
      parts = (node 2 ∷ []) ∷ [];
      keys = record { names = key (codes "a") 1 ∷ []; texts = [] };
      sessions =
          session 1 ((put 0 (pos 1) ∷ []) ∷ []) ∷
          session 2 ((put 0 (pos 2) ∷ []) ∷ []) ∷ [];
      schedule = c 2 20 ∷ c 2 0 ∷ c 2 0 ∷ c 1 10 ∷ c 1 0 ∷ c 1 0 ∷ [];
      drain = true;
    }

refused_by_master-text : spelling refused_by_master ≡
    codes "str 1\nnodes 2\npart 1 2\nsession 1\ntx\nput a@1 1\nsession 2\ntx\nput a@1 2\nschedule\nc 2 20\nc 2 0\n" ++
    codes "c 2 0\nc 1 10\nc 1 0\nc 1 0\ndrain\nend\n"
unfolding everything refused_by_master
refused_by_master-text = refl

refused_by_master-answers : render refused_by_master (cluster_run refused_by_master) ≡
    codes "2.1 s2/1 commit rs=20 fc=21\n1.1 s1/1 abort rs=10 conflict 2.1 a@1 at=2\nend commits=1 aborts=1 held=0 unbegun=0 messages=3\n"
unfolding everything refused_by_master
refused_by_master-answers = refl
