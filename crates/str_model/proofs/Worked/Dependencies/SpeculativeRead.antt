-- What is read of a Local version is released with its writer.
use Rattle.std.proofs.Common.{[], refl, true, ◌++◌, ◌∷◌, ◌≡◌}
use Rattle.std.specs.Prelude.{codes, pos}
use Rattle.str_model.specs.Drains.{cluster_run}
use Rattle.str_model.specs.Lines.{render, render_j}
use Rattle.str_model.proofs.Worked.Words.{c, d, everything, get, key, node, put, session, words}
use Rattle.str_scene.specs.Scenes.{Scene}
use Rattle.str_scene.specs.Spelling.{spelling}

unfoldable pub speculative_read : Scene
unfolding words
speculative_read =
    record {
      version = 1;
      nodes = 2;
      parts = (node 1 ∷ node 2 ∷ []) ∷ [];
      keys = record { names = key (codes "a") 1 ∷ []; texts = [] };
      sessions =
          session 1 ((put 0 (pos 5) ∷ []) ∷ []) ∷
          session 1 ((get 0 ∷ []) ∷ []) ∷ [];
      schedule = c 1 10 ∷ c 1 0 ∷ c 1 0 ∷ c 2 0 ∷ c 2 0 ∷ c 2 0 ∷ d 1 ∷ d 2 ∷ [];
      drain = true;
    }

speculative_read-text : spelling speculative_read ≡
    codes "str 1\nnodes 2\npart 1 1 2\nsession 1\ntx\nput a@1 5\nsession 1\ntx\nget a@1\nschedule\nc 1 10\nc 1 0\n" ++
    codes "c 1 0\nc 2 0\nc 2 0\nc 2 0\nd 1\nd 2\ndrain\nend\n"
unfolding everything speculative_read
speculative_read-text = refl

speculative_read-answers : render speculative_read (cluster_run speculative_read) ≡
    codes "1.1 s1/1 commit rs=10 fc=11\n1.2 s2/1 commit rs=11 fc=- a@1=5\nend commits=2 aborts=0 held=0 unbegun=0 messages=3\n"
unfolding everything speculative_read
speculative_read-answers = refl

speculative_read-journal : render_j speculative_read (cluster_run speculative_read) ≡
    codes "j c 1 10\nj c 1 0\nj c 1 0\nj c 2 0\nj c 2 0\nj c 2 0\nj d 1\nj d 2\n" ++
    codes "1.1 s1/1 commit rs=10 fc=11\n1.2 s2/1 commit rs=11 fc=- a@1=5\nj d 3\nend commits=2 aborts=0 held=0 unbegun=0 messages=3\n"
unfolding everything speculative_read
speculative_read-journal = refl
