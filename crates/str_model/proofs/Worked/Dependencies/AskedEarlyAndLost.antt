-- A participant was asked early, and the dependency is lost: the transaction aborts everywhere.
use Rattle.std.proofs.Common.{[], refl, true, ◌++◌, ◌∷◌, ◌≡◌}
use Rattle.std.specs.Prelude.{codes, pos}
use Rattle.str_model.specs.Drains.{cluster_run}
use Rattle.str_model.specs.Lines.{render}
use Rattle.str_model.proofs.Worked.Words.{c, d, everything, get, key, node, put, session, words}
use Rattle.str_scene.specs.Scenes.{Scene}
use Rattle.str_scene.specs.Spelling.{spelling}

unfoldable pub asked_early_and_lost : Scene
unfolding words
asked_early_and_lost =
    record {
      version = 1;
      nodes = 3;
      parts = (node 2 ∷ []) ∷ (node 3 ∷ []) ∷ [];
      keys = record { names = key (codes "a") 1 ∷ key (codes "b") 2 ∷ []; texts = [] };
      sessions =
          session 1 ((put 0 (pos 1) ∷ []) ∷ []) ∷
          session 1 ((get 0 ∷ put 1 (pos 7) ∷ []) ∷ []) ∷
          session 2 ((put 0 (pos 2) ∷ []) ∷ []) ∷ [];
      schedule = c 1 10 ∷ c 1 0 ∷ c 1 0 ∷ c 2 0 ∷ c 2 0 ∷ c 2 0 ∷ c 2 0 ∷ d 2 ∷ c 3 20 ∷ c 3 0 ∷ c 3 0 ∷ d 1 ∷
          d 4 ∷ [];
      drain = true;
    }

asked_early_and_lost-text : spelling asked_early_and_lost ≡
    codes "str 1\nnodes 3\npart 1 2\npart 2 3\nsession 1\ntx\nput a@1 1\nsession 1\ntx\nget a@1\nput b@2 7\nsession 2\n" ++
    codes "tx\nput a@1 2\nschedule\nc 1 10\nc 1 0\nc 1 0\nc 2 0\nc 2 0\nc 2 0\nc 2 0\nd 2\nc 3 20\n" ++
    codes "c 3 0\nc 3 0\nd 1\nd 4\ndrain\nend\n"
unfolding everything asked_early_and_lost
asked_early_and_lost-text = refl

asked_early_and_lost-answers : render asked_early_and_lost (cluster_run asked_early_and_lost) ≡
    codes "2.1 s3/1 commit rs=20 fc=21\n1.1 s1/1 abort rs=10 conflict 2.1 a@1 at=2\n1.2 s2/1 abort rs=11 lost 1.1\nend commits=1 aborts=2 held=0 unbegun=0 messages=6\n"
unfolding everything asked_early_and_lost
asked_early_and_lost-answers = refl
