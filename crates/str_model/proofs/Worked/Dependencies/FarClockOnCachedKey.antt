-- A read of a cached key by a clock far ahead: the Commit takes its mark to the master, and the next writer commits above it.
use Rattle.std.proofs.Common.{[], refl, true, ◌++◌, ◌∷◌, ◌≡◌}
use Rattle.std.specs.Prelude.{codes, pos}
use Rattle.str_model.specs.Drains.{cluster_run}
use Rattle.str_model.specs.Lines.{render}
use Rattle.str_model.proofs.Worked.Words.{c, d, everything, get, key, node, put, session, words}
use Rattle.str_scene.specs.Scenes.{Scene}
use Rattle.str_scene.specs.Spelling.{spelling}

unfoldable pub far_clock_on_cached_key : Scene
unfolding words
far_clock_on_cached_key =
    record {
      version = 1;
      nodes = 2;
      parts = (node 2 ∷ []) ∷ [];
      keys = record { names = key (codes "k") 1 ∷ []; texts = [] };
      sessions =
          session 1 ((put 0 (pos 1) ∷ []) ∷ []) ∷
          session 1 ((get 0 ∷ []) ∷ []) ∷
          session 2 ((put 0 (pos 2) ∷ []) ∷ []) ∷ [];
      schedule = c 1 10 ∷ c 1 0 ∷ c 1 0 ∷ c 2 1000 ∷ c 2 0 ∷ d 1 ∷ d 2 ∷ d 3 ∷ c 3 20 ∷ c 3 0 ∷ c 3 0 ∷ [];
      drain = true;
    }

far_clock_on_cached_key-text : spelling far_clock_on_cached_key ≡
    codes "str 1\nnodes 2\npart 1 2\nsession 1\ntx\nput k@1 1\nsession 1\ntx\nget k@1\nsession 2\ntx\nput k@1 2\n" ++
    codes "schedule\nc 1 10\nc 1 0\nc 1 0\nc 2 1000\nc 2 0\nd 1\nd 2\nd 3\nc 3 20\nc 3 0\nc 3 0\n" ++
    codes "drain\nend\n"
unfolding everything far_clock_on_cached_key
far_clock_on_cached_key-text = refl

far_clock_on_cached_key-answers : render far_clock_on_cached_key (cluster_run far_clock_on_cached_key) ≡
    codes "1.1 s1/1 commit rs=10 fc=11\n2.1 s3/1 commit rs=20 fc=1001\n1.2 s2/1 commit rs=1000 fc=- k@1=1\nend commits=3 aborts=0 held=0 unbegun=0 messages=3\n"
unfolding everything far_clock_on_cached_key
far_clock_on_cached_key-answers = refl
