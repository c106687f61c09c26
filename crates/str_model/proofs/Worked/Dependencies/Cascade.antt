-- An eviction aborts all who depend on the evicted, one after the other, in one event.
use Rattle.std.proofs.Common.{[], refl, true, ◌++◌, ◌∷◌, ◌≡◌}
use Rattle.std.specs.Prelude.{codes, pos}
use Rattle.str_model.specs.Drains.{cluster_run}
use Rattle.str_model.specs.Lines.{render}
use Rattle.str_model.proofs.Worked.Words.{add, c, d, everything, get, key, node, put, session, words}
use Rattle.str_scene.specs.Scenes.{Scene}
use Rattle.str_scene.specs.Spelling.{spelling}

unfoldable pub cascade : Scene
unfolding words
cascade =
    record {
      version = 1;
      nodes = 2;
      parts = (node 1 ∷ []) ∷ [];
      keys = record { names = key (codes "a") 1 ∷ []; texts = [] };
      sessions =
          session 1 ((put 0 (pos 1) ∷ []) ∷ []) ∷
          session 2 ((put 0 (pos 2) ∷ []) ∷ []) ∷
          session 2 ((add 0 (pos 10) ∷ []) ∷ []) ∷
          session 2 ((add 0 (pos 10) ∷ []) ∷ []) ∷
          session 2 ((get 0 ∷ []) ∷ []) ∷ [];
      schedule = c 2 10 ∷ c 2 0 ∷ c 2 0 ∷ c 3 0 ∷ c 3 0 ∷ c 3 0 ∷ c 4 0 ∷ c 4 0 ∷ c 4 0 ∷ c 5 0 ∷ c 5 0 ∷ c 5 0 ∷
          c 1 20 ∷ c 1 0 ∷ c 1 0 ∷ d 1 ∷ d 2 ∷ [];
      drain = true;
    }

cascade-text : spelling cascade ≡
    codes "str 1\nnodes 2\npart 1 1\nsession 1\ntx\nput a@1 1\nsession 2\ntx\nput a@1 2\nsession 2\ntx\nadd a@1 10\n" ++
    codes "session 2\ntx\nadd a@1 10\nsession 2\ntx\nget a@1\nschedule\nc 2 10\nc 2 0\nc 2 0\nc 3 0\nc 3 0\n" ++
    codes "c 3 0\nc 4 0\nc 4 0\nc 4 0\nc 5 0\nc 5 0\nc 5 0\nc 1 20\nc 1 0\nc 1 0\nd 1\nd 2\n" ++
    codes "drain\nend\n"
unfolding everything cascade
cascade-text = refl

cascade-answers : render cascade (cluster_run cascade) ≡
    codes "1.1 s1/1 commit rs=20 fc=21\n2.1 s2/1 abort rs=10 conflict 1.1 a@1 at=1\n2.2 s3/1 abort rs=11 lost 2.1\n2.3 s4/1 abort rs=12 lost 2.1\n2.4 s5/1 abort rs=13 lost 2.1\nend commits=1 aborts=4 held=0 unbegun=0 messages=3\n"
unfolding everything cascade
cascade-answers = refl
