-- Two sums on one key at one snapshot: one commits, and the other aborts.
use Rattle.std.proofs.Common.{[], refl, true, ◌++◌, ◌∷◌, ◌≡◌}
use Rattle.std.specs.Prelude.{codes, pos}
use Rattle.str_model.specs.Drains.{cluster_run}
use Rattle.str_model.specs.Lines.{render}
use Rattle.str_model.proofs.Worked.Words.{add, c, everything, key, node, session, words}
use Rattle.str_scene.specs.Scenes.{Scene}
use Rattle.str_scene.specs.Spelling.{spelling}

unfoldable pub lost_update : Scene
unfolding words
lost_update =
    record {
      version = 1;
      nodes = 1;
      parts = (node 1 ∷ []) ∷ [];
      keys = record { names = key (codes "a") 1 ∷ []; texts = [] };
      sessions =
          session 1 ((add 0 (pos 1) ∷ []) ∷ []) ∷
          session 1 ((add 0 (pos 1) ∷ []) ∷ []) ∷ [];
      schedule = c 1 10 ∷ c 2 10 ∷ [];
      drain = true;
    }

lost_update-text : spelling lost_update ≡
    codes "str 1\nnodes 1\npart 1 1\nsession 1\ntx\nadd a@1 1\nsession 1\ntx\nadd a@1 1\nschedule\nc 1 10\nc 2 10\n" ++
    codes "drain\nend\n"
unfolding everything lost_update
lost_update-text = refl

lost_update-answers : render lost_update (cluster_run lost_update) ≡
    codes "1.1 s1/1 commit rs=10 fc=11\n1.2 s2/1 abort rs=10 conflict 1.1 a@1 at=1\nend commits=1 aborts=1 held=0 unbegun=0 messages=0\n"
unfolding everything lost_update
lost_update-answers = refl
