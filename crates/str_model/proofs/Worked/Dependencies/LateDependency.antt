-- A dependency commits above the snapshot of who read from it, who aborts.
use Rattle.std.proofs.Common.{[], refl, true, ◌++◌, ◌∷◌, ◌≡◌}
use Rattle.std.specs.Prelude.{codes, pos}
use Rattle.str_model.specs.Drains.{cluster_run}
use Rattle.str_model.specs.Lines.{render}
use Rattle.str_model.proofs.Worked.Words.{c, d, everything, get, key, node, put, session, words}
use Rattle.str_scene.specs.Scenes.{Scene}
use Rattle.str_scene.specs.Spelling.{spelling}

unfoldable pub late_dependency : Scene
unfolding words
late_dependency =
    record {
      version = 1;
      nodes = 2;
      parts = (node 1 ∷ node 2 ∷ []) ∷ [];
      keys = record { names = key (codes "a") 1 ∷ []; texts = [] };
      sessions =
          session 1 ((put 0 (pos 5) ∷ []) ∷ []) ∷
          session 1 ((get 0 ∷ []) ∷ []) ∷
          session 2 ((get 0 ∷ []) ∷ []) ∷ [];
      schedule = c 1 10 ∷ c 1 0 ∷ c 1 0 ∷ c 2 0 ∷ c 2 0 ∷ c 2 0 ∷ c 3 100 ∷ c 3 0 ∷ d 1 ∷ d 2 ∷ [];
      drain = true;
    }

late_dependency-text : spelling late_dependency ≡
    codes "str 1\nnodes 2\npart 1 1 2\nsession 1\ntx\nput a@1 5\nsession 1\ntx\nget a@1\nsession 2\ntx\nget a@1\n" ++
    codes "schedule\nc 1 10\nc 1 0\nc 1 0\nc 2 0\nc 2 0\nc 2 0\nc 3 100\nc 3 0\nd 1\nd 2\ndrain\n" ++
    codes "end\n"
unfolding everything late_dependency
late_dependency-text = refl

late_dependency-answers : render late_dependency (cluster_run late_dependency) ≡
    codes "1.1 s1/1 commit rs=10 fc=101\n1.2 s2/1 abort rs=11 late 1.1 fc=101\n2.1 s3/1 commit rs=100 fc=- a@1=none\nend commits=2 aborts=1 held=0 unbegun=0 messages=3\n"
unfolding everything late_dependency
late_dependency-answers = refl
