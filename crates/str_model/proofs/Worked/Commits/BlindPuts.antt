-- Two writers of one key that do not overlap: both commit.
use Rattle.std.proofs.Common.{[], refl, true, ◌++◌, ◌∷◌, ◌≡◌}
use Rattle.std.specs.Prelude.{codes, pos}
use Rattle.str_model.specs.Drains.{cluster_run}
use Rattle.str_model.specs.Lines.{render}
use Rattle.str_model.proofs.Worked.Words.{c, everything, key, node, put, session, words}
use Rattle.str_scene.specs.Scenes.{Scene}
use Rattle.str_scene.specs.Spelling.{spelling}

unfoldable pub blind_puts : Scene
unfolding words
blind_puts =
    record {
      version = 1;
      nodes = 1;
      parts = (node 1 ∷ []) ∷ [];
      keys = record { names = key (codes "a") 1 ∷ []; texts = [] };
      sessions =
          session 1 ((put 0 (pos 1) ∷ []) ∷ []) ∷
          session 1 ((put 0 (pos 2) ∷ []) ∷ []) ∷ [];
      schedule = c 1 10 ∷ c 2 20 ∷ [];
      drain = true;
    }

blind_puts-text : spelling blind_puts ≡
    codes "str 1\nnodes 1\npart 1 1\nsession 1\ntx\nput a@1 1\nsession 1\ntx\nput a@1 2\nschedule\nc 1 10\nc 2 20\n" ++
    codes "drain\nend\n"
unfolding everything blind_puts
blind_puts-text = refl

blind_puts-answers : render blind_puts (cluster_run blind_puts) ≡
    codes "1.1 s1/1 commit rs=10 fc=11\n1.2 s2/1 commit rs=20 fc=21\nend commits=2 aborts=0 held=0 unbegun=0 messages=0\n"
unfolding everything blind_puts
blind_puts-answers = refl
