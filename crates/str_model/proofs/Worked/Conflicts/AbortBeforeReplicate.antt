-- An Abort comes before the Replicate that it takes back, and messages come twice.
use Rattle.std.proofs.Common.{[], refl, true, ◌++◌, ◌∷◌, ◌≡◌}
use Rattle.std.specs.Prelude.{codes, pos}
use Rattle.str_model.specs.Drains.{cluster_run}
use Rattle.str_model.specs.Lines.{render}
use Rattle.str_model.proofs.Worked.Words.{c, d, everything, get, key, node, put, session, words}
use Rattle.str_scene.specs.Scenes.{Scene}
use Rattle.str_scene.specs.Spelling.{spelling}

unfoldable pub abort_before_replicate : Scene
unfolding words
abort_before_replicate =
    record {
      version = 1;
      nodes = 3;
      parts = (node 1 ∷ node 2 ∷ []) ∷ (node 3 ∷ []) ∷ [];
      keys = record { names = key (codes "a") 1 ∷ key (codes "b") 2 ∷ []; texts = [] };
      sessions =
          session 1 ((put 0 (pos 1) ∷ put 1 (pos 1) ∷ []) ∷ []) ∷
          session 3 ((put 1 (pos 2) ∷ []) ∷ []) ∷
          session 2 ((get 0 ∷ []) ∷ []) ∷ [];
      schedule = c 1 10 ∷ c 1 0 ∷ c 1 0 ∷ c 1 0 ∷ c 2 20 ∷ c 2 0 ∷ c 2 0 ∷ d 2 ∷ d 3 ∷ d 4 ∷ d 1 ∷ d 1 ∷
          c 3 30 ∷ c 3 0 ∷ [];
      drain = true;
    }

abort_before_replicate-text : spelling abort_before_replicate ≡
    codes "str 1\nnodes 3\npart 1 1 2\npart 2 3\nsession 1\ntx\nput a@1 1\nput b@2 1\nsession 3\ntx\nput b@2 2\nsession 2\n" ++
    codes "tx\nget a@1\nschedule\nc 1 10\nc 1 0\nc 1 0\nc 1 0\nc 2 20\nc 2 0\nc 2 0\nd 2\nd 3\n" ++
    codes "d 4\nd 1\nd 1\nc 3 30\nc 3 0\ndrain\nend\n"
unfolding everything abort_before_replicate
abort_before_replicate-text = refl

abort_before_replicate-answers : render abort_before_replicate (cluster_run abort_before_replicate) ≡
    codes "3.1 s2/1 commit rs=20 fc=21\n1.1 s1/1 abort rs=10 conflict 3.1 b@2 at=3\n2.1 s3/1 commit rs=30 fc=- a@1=none\nend commits=2 aborts=1 held=0 unbegun=0 messages=5\n"
unfolding everything abort_before_replicate
abort_before_replicate-answers = refl
