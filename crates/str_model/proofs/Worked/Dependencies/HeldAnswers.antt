-- Without deliveries the answers of a writer and of who read from it stay held.
use Rattle.std.proofs.Common.{[], false, refl, ◌++◌, ◌∷◌, ◌≡◌}
use Rattle.std.specs.Prelude.{codes, pos}
use Rattle.str_model.specs.Drains.{cluster_run}
use Rattle.str_model.specs.Lines.{render}
use Rattle.str_model.proofs.Worked.Words.{c, everything, get, key, node, put, session, words}
use Rattle.str_scene.specs.Scenes.{Scene}
use Rattle.str_scene.specs.Spelling.{spelling}

unfoldable pub held_answers : Scene
unfolding words
held_answers =
    record {
      version = 1;
      nodes = 2;
      parts = (node 1 ∷ node 2 ∷ []) ∷ [];
      keys = record { names = key (codes "a") 1 ∷ []; texts = [] };
      sessions =
          session 1 ((put 0 (pos 5) ∷ []) ∷ []) ∷
          session 1 ((get 0 ∷ []) ∷ []) ∷ [];
      schedule = c 1 10 ∷ c 1 0 ∷ c 1 0 ∷ c 2 0 ∷ c 2 0 ∷ c 2 0 ∷ [];
      drain = false;
    }

held_answers-text : spelling held_answers ≡
    codes "str 1\nnodes 2\npart 1 1 2\nsession 1\ntx\nput a@1 5\nsession 1\ntx\nget a@1\nschedule\nc 1 10\nc 1 0\n" ++
    codes "c 1 0\nc 2 0\nc 2 0\nc 2 0\nend\n"
unfolding everything held_answers
held_answers-text = refl

held_answers-answers : render held_answers (cluster_run held_answers) ≡
    codes "end commits=0 aborts=0 held=2 unbegun=0 messages=1\n"
unfolding everything held_answers
held_answers-answers = refl
