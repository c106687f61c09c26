-- A conflict with a Local version at home, and an eviction at a slave.
use Rattle.std.proofs.Common.{[], refl, true, ◌++◌, ◌∷◌, ◌≡◌}
use Rattle.std.specs.Prelude.{codes, pos}
use Rattle.str_model.specs.Drains.{cluster_run}
use Rattle.str_model.specs.Lines.{render}
use Rattle.str_model.proofs.Worked.Words.{c, d, everything, key, node, put, session, words}
use Rattle.str_scene.specs.Scenes.{Scene}
use Rattle.str_scene.specs.Spelling.{spelling}

unfoldable pub conflict_and_eviction : Scene
unfolding words
conflict_and_eviction =
    record {
      version = 1;
      nodes = 2;
      parts = (node 1 ∷ node 2 ∷ []) ∷ [];
      keys = record { names = key (codes "a") 1 ∷ []; texts = [] };
      sessions =
          session 1 ((put 0 (pos 1) ∷ []) ∷ []) ∷
          session 2 ((put 0 (pos 2) ∷ []) ∷ []) ∷
          session 1 ((put 0 (pos 3) ∷ []) ∷ []) ∷ [];
      schedule = c 1 10 ∷ c 3 10 ∷ c 1 0 ∷ c 1 0 ∷ c 3 0 ∷ c 3 0 ∷ c 2 10 ∷ c 2 0 ∷ c 2 0 ∷ d 1 ∷ [];
      drain = true;
    }

conflict_and_eviction-text : spelling conflict_and_eviction ≡
    codes "str 1\nnodes 2\npart 1 1 2\nsession 1\ntx\nput a@1 1\nsession 2\ntx\nput a@1 2\nsession 1\ntx\nput a@1 3\n" ++
    codes "schedule\nc 1 10\nc 3 10\nc 1 0\nc 1 0\nc 3 0\nc 3 0\nc 2 10\nc 2 0\nc 2 0\nd 1\ndrain\n" ++
    codes "end\n"
unfolding everything conflict_and_eviction
conflict_and_eviction-text = refl

conflict_and_eviction-answers : render conflict_and_eviction (cluster_run conflict_and_eviction) ≡
    codes "1.2 s3/1 abort rs=10 conflict 1.1 a@1 at=1\n2.1 s2/1 abort rs=10 conflict 1.1 a@1 at=2\n1.1 s1/1 commit rs=10 fc=11\nend commits=1 aborts=2 held=0 unbegun=0 messages=6\n"
unfolding everything conflict_and_eviction
conflict_and_eviction-answers = refl
