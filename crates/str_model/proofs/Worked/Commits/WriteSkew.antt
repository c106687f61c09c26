-- Two transactions that each write what the other reads: both commit, as snapshot isolation allows.
use Rattle.std.proofs.Common.{[], refl, true, ◌++◌, ◌∷◌, ◌≡◌}
use Rattle.std.specs.Prelude.{codes, pos}
use Rattle.str_model.specs.Drains.{cluster_run}
use Rattle.str_model.specs.Lines.{render}
use Rattle.str_model.proofs.Worked.Words.{c, everything, get, key, node, put, session, words}
use Rattle.str_scene.specs.Scenes.{Scene}
use Rattle.str_scene.specs.Spelling.{spelling}

unfoldable pub write_skew : Scene
unfolding words
write_skew =
    record {
      version = 1;
      nodes = 1;
      parts = (node 1 ∷ []) ∷ [];
      keys = record { names = key (codes "x") 1 ∷ key (codes "y") 1 ∷ []; texts = [] };
      sessions =
          session 1 ((get 0 ∷ put 1 (pos 1) ∷ []) ∷ []) ∷
          session 1 ((get 1 ∷ put 0 (pos 1) ∷ []) ∷ []) ∷ [];
      schedule = c 1 10 ∷ c 2 10 ∷ c 1 0 ∷ c 2 0 ∷ [];
      drain = true;
    }

write_skew-text : spelling write_skew ≡
    codes "str 1\nnodes 1\npart 1 1\nsession 1\ntx\nget x@1\nput y@1 1\nsession 1\ntx\nget y@1\nput x@1 1\nschedule\n" ++
    codes "c 1 10\nc 2 10\nc 1 0\nc 2 0\ndrain\nend\n"
unfolding everything write_skew
write_skew-text = refl

write_skew-answers : render write_skew (cluster_run write_skew) ≡
    codes "1.1 s1/1 commit rs=10 fc=11 x@1=none\n1.2 s2/1 commit rs=10 fc=11 y@1=none\nend commits=2 aborts=0 held=0 unbegun=0 messages=0\n"
unfolding everything write_skew
write_skew-answers = refl
