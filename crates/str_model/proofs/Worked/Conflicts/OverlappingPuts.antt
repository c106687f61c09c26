-- Two writers of one key at one snapshot: one commits, and the other aborts.
use Rattle.std.proofs.Common.{[], refl, true, ◌++◌, ◌∷◌, ◌≡◌}
use Rattle.std.specs.Prelude.{codes, pos}
use Rattle.str_model.specs.Drains.{cluster_run}
use Rattle.str_model.specs.Lines.{render}
use Rattle.str_model.proofs.Worked.Words.{c, everything, key, node, put, session, words}
use Rattle.str_scene.specs.Scenes.{Scene}
use Rattle.str_scene.specs.Spelling.{spelling}

unfoldable pub overlapping_puts : Scene
unfolding words
overlapping_puts =
    record {
      version = 1;
      nodes = 1;
      parts = (node 1 ∷ []) ∷ [];
      keys = record { names = key (codes "a") 1 ∷ []; texts = [] };
      sessions =
          session 1 ((put 0 (pos 1) ∷ []) ∷ []) ∷
          session 1 ((put 0 (pos 2) ∷ []) ∷ []) ∷ [];
      schedule = c 1 10 ∷ c 2 10 ∷ [];
      drain = true;
    }

overlapping_puts-text : spelling overlapping_puts ≡
    codes "str 1\nnodes 1\npart 1 1\nsession 1\ntx\nput a@1 1\nsession 1\ntx\nput a@1 2\nschedule\nc 1 10\nc 2 10\n" ++
    codes "drain\nend\n"
unfolding everything overlapping_puts
overlapping_puts-text = refl

overlapping_puts-answers : render overlapping_puts (cluster_run overlapping_puts) ≡
    codes "1.1 s1/1 commit rs=10 fc=11\n1.2 s2/1 abort rs=10 conflict 1.1 a@1 at=1\nend commits=1 aborts=1 held=0 unbegun=0 messages=0\n"
unfolding everything overlapping_puts
overlapping_puts-answers = refl
