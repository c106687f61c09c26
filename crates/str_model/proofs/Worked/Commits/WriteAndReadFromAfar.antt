-- A node writes and reads a key that it does not hold.
use Rattle.std.proofs.Common.{[], refl, true, ◌∷◌, ◌≡◌}
use Rattle.std.specs.Prelude.{codes, pos}
use Rattle.str_model.specs.Drains.{cluster_run}
use Rattle.str_model.specs.Lines.{render}
use Rattle.str_model.proofs.Worked.Words.{c, everything, get, key, node, put, session, words}
use Rattle.str_scene.specs.Scenes.{Scene}
use Rattle.str_scene.specs.Spelling.{spelling}

unfoldable pub write_and_read_from_afar : Scene
unfolding words
write_and_read_from_afar =
    record {
      version = 1;
      nodes = 2;
      parts = (node 2 ∷ []) ∷ [];
      keys = record { names = key (codes "a") 1 ∷ []; texts = [] };
      sessions =
          session 1 ((put 0 (pos 5) ∷ []) ∷ (get 0 ∷ []) ∷ []) ∷ [];
      schedule = c 1 10 ∷ [];
      drain = true;
    }

write_and_read_from_afar-text : spelling write_and_read_from_afar ≡
    codes "str 1\nnodes 2\npart 1 2\nsession 1\ntx\nput a@1 5\ntx\nget a@1\nschedule\nc 1 10\ndrain\nend\n"
unfolding everything write_and_read_from_afar
write_and_read_from_afar-text = refl

write_and_read_from_afar-answers : render write_and_read_from_afar (cluster_run write_and_read_from_afar) ≡
    codes "1.1 s1/1 commit rs=10 fc=11\n1.2 s1/2 commit rs=11 fc=- a@1=5\nend commits=2 aborts=0 held=0 unbegun=0 messages=5\n"
unfolding everything write_and_read_from_afar
write_and_read_from_afar-answers = refl
