-- A transaction reads its session's last write, though the clock fell.
use Rattle.std.proofs.Common.{[], refl, true, ◌++◌, ◌∷◌, ◌≡◌}
use Rattle.std.specs.Prelude.{codes, pos}
use Rattle.str_model.specs.Drains.{cluster_run}
use Rattle.str_model.specs.Lines.{render}
use Rattle.str_model.proofs.Worked.Words.{c, everything, get, key, node, put, session, words}
use Rattle.str_scene.specs.Scenes.{Scene}
use Rattle.str_scene.specs.Spelling.{spelling}

unfoldable pub falling_clock : Scene
unfolding words
falling_clock =
    record {
      version = 1;
      nodes = 1;
      parts = (node 1 ∷ []) ∷ [];
      keys = record { names = key (codes "a") 1 ∷ []; texts = [] };
      sessions =
          session 1 ((put 0 (pos 5) ∷ []) ∷ (get 0 ∷ []) ∷ []) ∷ [];
      schedule = c 1 10 ∷ c 1 0 ∷ c 1 0 ∷ c 1 0 ∷ [];
      drain = true;
    }

falling_clock-text : spelling falling_clock ≡
    codes "str 1\nnodes 1\npart 1 1\nsession 1\ntx\nput a@1 5\ntx\nget a@1\nschedule\nc 1 10\nc 1 0\nc 1 0\n" ++
    codes "c 1 0\ndrain\nend\n"
unfolding everything falling_clock
falling_clock-text = refl

falling_clock-answers : render falling_clock (cluster_run falling_clock) ≡
    codes "1.1 s1/1 commit rs=10 fc=11\n1.2 s1/2 commit rs=11 fc=- a@1=5\nend commits=2 aborts=0 held=0 unbegun=0 messages=0\n"
unfolding everything falling_clock
falling_clock-answers = refl
