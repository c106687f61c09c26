-- Values that are strings of bytes: one is read back, and a sum on it begins at 0.
use Rattle.std.proofs.Common.{[], refl, true, ◌++◌, ◌∷◌, ◌≡◌}
use Rattle.std.specs.Prelude.{codes, pos}
use Rattle.str_model.specs.Drains.{cluster_run}
use Rattle.str_model.specs.Lines.{render}
use Rattle.str_model.proofs.Worked.Words.{add, c, everything, get, key, node, puts, session, words}
use Rattle.str_scene.specs.Scenes.{Scene}
use Rattle.str_scene.specs.Spelling.{spelling}

unfoldable pub byte_values : Scene
unfolding words
byte_values =
    record {
      version = 2;
      nodes = 1;
      parts = (node 1 ∷ []) ∷ [];
      keys = record { names = key (codes "a") 1 ∷ []; texts = (104 ∷ 105 ∷ []) ∷ [] };
      sessions =
          session 1 ((puts 0 0 ∷ []) ∷ (get 0 ∷ add 0 (pos 3) ∷ get 0 ∷ []) ∷ []) ∷ [];
      schedule = c 1 10 ∷ [];
      drain = true;
    }

byte_values-text : spelling byte_values ≡
    codes "str 2\nnodes 1\npart 1 1\nsession 1\ntx\nputs a@1 x6869\ntx\nget a@1\nadd a@1 3\nget a@1\nschedule\nc 1 10\n" ++
    codes "drain\nend\n"
unfolding everything byte_values
byte_values-text = refl

byte_values-answers : render byte_values (cluster_run byte_values) ≡
    codes "1.1 s1/1 commit rs=10 fc=11\n1.2 s1/2 commit rs=11 fc=12 a@1=x6869 a@1=3\nend commits=2 aborts=0 held=0 unbegun=0 messages=0\n"
unfolding everything byte_values
byte_values-answers = refl
