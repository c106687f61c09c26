-- A transfer between accounts of two nodes, and a read of both.
use Rattle.std.proofs.Common.{[], refl, true, ◌++◌, ◌∷◌, ◌≡◌}
use Rattle.std.specs.Prelude.{codes, negsuc, pos}
use Rattle.str_model.specs.Drains.{cluster_run}
use Rattle.str_model.specs.Lines.{render}
use Rattle.str_model.proofs.Worked.Words.{add, c, everything, get, key, need, node, put, session, words}
use Rattle.str_scene.specs.Scenes.{Scene}
use Rattle.str_scene.specs.Spelling.{spelling}

unfoldable pub transfer : Scene
unfolding words
transfer =
    record {
      version = 1;
      nodes = 2;
      parts = (node 1 ∷ node 2 ∷ []) ∷ (node 2 ∷ node 1 ∷ []) ∷ [];
      keys = record { names = key (codes "alice") 1 ∷ key (codes "bob") 2 ∷ []; texts = [] };
      sessions =
          session 1 ((put 0 (pos 100) ∷ []) ∷ (need 0 (pos 30) ∷ add 0 (negsuc 29) ∷ add 1 (pos 30) ∷ []) ∷ []) ∷
          session 2 ((get 0 ∷ get 1 ∷ []) ∷ []) ∷ [];
      schedule = c 1 1000 ∷ c 2 5000 ∷ [];
      drain = true;
    }

transfer-text : spelling transfer ≡
    codes "str 1\nnodes 2\npart 1 1 2\npart 2 2 1\nsession 1\ntx\nput alice@1 100\ntx\nneed alice@1 30\nadd alice@1 -30\nadd bob@2 30\nsession 2\n" ++
    codes "tx\nget alice@1\nget bob@2\nschedule\nc 1 1000\nc 2 5000\ndrain\nend\n"
unfolding everything transfer
transfer-text = refl

transfer-answers : render transfer (cluster_run transfer) ≡
    codes "1.1 s1/1 commit rs=1000 fc=1001\n1.2 s1/2 commit rs=1001 fc=1002\n2.1 s2/1 commit rs=5000 fc=- alice@1=70 bob@2=30\nend commits=3 aborts=0 held=0 unbegun=0 messages=9\n"
unfolding everything transfer
transfer-answers = refl
