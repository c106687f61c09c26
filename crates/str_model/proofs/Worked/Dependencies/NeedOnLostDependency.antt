-- A need that is not met by a value that gets lost is no wish: the transaction aborts as lost.
use Rattle.std.proofs.Common.{[], refl, true, ◌++◌, ◌∷◌, ◌≡◌}
use Rattle.std.specs.Prelude.{codes, pos}
use Rattle.str_model.specs.Drains.{cluster_run}
use Rattle.str_model.specs.Lines.{render}
use Rattle.str_model.proofs.Worked.Words.{c, d, everything, key, need, node, put, session, words}
use Rattle.str_scene.specs.Scenes.{Scene}
use Rattle.str_scene.specs.Spelling.{spelling}

unfoldable pub need_on_lost_dependency : Scene
unfolding words
need_on_lost_dependency =
    record {
      version = 1;
      nodes = 2;
      parts = (node 1 ∷ []) ∷ [];
      keys = record { names = key (codes "a") 1 ∷ []; texts = [] };
      sessions =
          session 1 ((put 0 (pos 9) ∷ []) ∷ []) ∷
          session 2 ((put 0 (pos 0) ∷ []) ∷ []) ∷
          session 2 ((need 0 (pos 5) ∷ []) ∷ []) ∷ [];
      schedule = c 2 10 ∷ c 2 0 ∷ c 2 0 ∷ c 3 0 ∷ c 3 0 ∷ c 1 20 ∷ c 1 0 ∷ c 1 0 ∷ d 1 ∷ d 2 ∷ [];
      drain = true;
    }

need_on_lost_dependency-text : spelling need_on_lost_dependency ≡
    codes "str 1\nnodes 2\npart 1 1\nsession 1\ntx\nput a@1 9\nsession 2\ntx\nput a@1 0\nsession 2\ntx\nneed a@1 5\n" ++
    codes "schedule\nc 2 10\nc 2 0\nc 2 0\nc 3 0\nc 3 0\nc 1 20\nc 1 0\nc 1 0\nd 1\nd 2\ndrain\n" ++
    codes "end\n"
unfolding everything need_on_lost_dependency
need_on_lost_dependency-text = refl

need_on_lost_dependency-answers : render need_on_lost_dependency (cluster_run need_on_lost_dependency) ≡
    codes "1.1 s1/1 commit rs=20 fc=21\n2.1 s2/1 abort rs=10 conflict 1.1 a@1 at=1\n2.2 s3/1 abort rs=11 lost 2.1\nend commits=1 aborts=2 held=0 unbegun=0 messages=3\n"
unfolding everything need_on_lost_dependency
need_on_lost_dependency-answers = refl
