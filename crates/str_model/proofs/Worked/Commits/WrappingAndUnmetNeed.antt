-- A transaction sees its own writes, a sum wraps, and a need that is not met ends in a wish.
use Rattle.std.proofs.Common.{[], refl, true, ◌++◌, ◌∷◌, ◌≡◌}
use Rattle.std.specs.Prelude.{codes, pos}
use Rattle.str_model.specs.Drains.{cluster_run}
use Rattle.str_model.specs.Lines.{render}
use Rattle.str_model.proofs.Worked.Words.{add, c, everything, get, key, need, node, put, session, words}
use Rattle.str_scene.specs.Scenes.{Scene}
use Rattle.str_scene.specs.Spelling.{spelling}

unfoldable pub wrapping_and_unmet_need : Scene
unfolding words
wrapping_and_unmet_need =
    record {
      version = 1;
      nodes = 1;
      parts = (node 1 ∷ []) ∷ [];
      keys = record { names = key (codes "a") 1 ∷ key (codes "b") 1 ∷ []; texts = [] };
      sessions =
          session 1 ((put 0 (pos 9223372036854775807) ∷ add 0 (pos 1) ∷ get 0 ∷ []) ∷ (need 1 (pos 1) ∷ put 1 (pos 5) ∷ []) ∷ []) ∷ [];
      schedule = c 1 10 ∷ [];
      drain = true;
    }

wrapping_and_unmet_need-text : spelling wrapping_and_unmet_need ≡
    codes "str 1\nnodes 1\npart 1 1\nsession 1\ntx\nput a@1 9223372036854775807\nadd a@1 1\nget a@1\ntx\nneed b@1 1\nput b@1 5\nschedule\n" ++
    codes "c 1 10\ndrain\nend\n"
unfolding everything wrapping_and_unmet_need
wrapping_and_unmet_need-text = refl

wrapping_and_unmet_need-answers : render wrapping_and_unmet_need (cluster_run wrapping_and_unmet_need) ≡
    codes "1.1 s1/1 commit rs=10 fc=11 a@1=-9223372036854775808\n1.2 s1/2 abort rs=11 wish\nend commits=1 aborts=1 held=0 unbegun=0 messages=0\n"
unfolding everything wrapping_and_unmet_need
wrapping_and_unmet_need-answers = refl
