-- A participant is asked before the dependency is decided, where the dependency wrote nothing there.
use Rattle.std.proofs.Common.{[], refl, true, ◌++◌, ◌∷◌, ◌≡◌}
use Rattle.std.specs.Prelude.{codes, pos}
use Rattle.str_model.specs.Drains.{cluster_run}
use Rattle.str_model.specs.Lines.{render, render_j}
use Rattle.str_model.proofs.Worked.Words.{c, d, everything, get, key, node, put, session, words}
use Rattle.str_scene.specs.Scenes.{Scene}
use Rattle.str_scene.specs.Spelling.{spelling}

unfoldable pub asked_early : Scene
unfolding words
asked_early =
    record {
      version = 1;
      nodes = 3;
      parts = (node 2 ∷ []) ∷ (node 3 ∷ []) ∷ [];
      keys = record { names = key (codes "a") 1 ∷ key (codes "b") 2 ∷ []; texts = [] };
      sessions =
          session 1 ((put 0 (pos 1) ∷ []) ∷ []) ∷
          session 1 ((get 0 ∷ put 1 (pos 7) ∷ []) ∷ []) ∷ [];
      schedule = c 1 10 ∷ c 1 0 ∷ c 1 0 ∷ c 2 0 ∷ c 2 0 ∷ c 2 0 ∷ c 2 0 ∷ d 2 ∷ d 3 ∷ d 1 ∷ d 4 ∷ [];
      drain = true;
    }

asked_early-text : spelling asked_early ≡
    codes "str 1\nnodes 3\npart 1 2\npart 2 3\nsession 1\ntx\nput a@1 1\nsession 1\ntx\nget a@1\nput b@2 7\nschedule\n" ++
    codes "c 1 10\nc 1 0\nc 1 0\nc 2 0\nc 2 0\nc 2 0\nc 2 0\nd 2\nd 3\nd 1\nd 4\ndrain\n" ++
    codes "end\n"
unfolding everything asked_early
asked_early-text = refl

asked_early-answers : render asked_early (cluster_run asked_early) ≡
    codes "1.1 s1/1 commit rs=10 fc=11\n1.2 s2/1 commit rs=11 fc=12 a@1=1\nend commits=2 aborts=0 held=0 unbegun=0 messages=6\n"
unfolding everything asked_early
asked_early-answers = refl

asked_early-journal : render_j asked_early (cluster_run asked_early) ≡
    codes "j c 1 10\nj c 1 0\nj c 1 0\nj c 2 0\nj c 2 0\nj c 2 0\nj c 2 0\nj d 2\n" ++
    codes "j d 3\nj d 1\nj d 4\n1.1 s1/1 commit rs=10 fc=11\n1.2 s2/1 commit rs=11 fc=12 a@1=1\nj d 5\nj d 6\nend commits=2 aborts=0 held=0 unbegun=0 messages=6\n"
unfolding everything asked_early
asked_early-journal = refl
