-- One write, and the journal of its run.
use Rattle.std.proofs.Common.{[], refl, true, ◌∷◌, ◌≡◌}
use Rattle.std.specs.Prelude.{codes, pos}
use Rattle.str_model.specs.Drains.{cluster_run}
use Rattle.str_model.specs.Lines.{render_j}
use Rattle.str_model.proofs.Worked.Words.{c, everything, key, node, put, session, words}
use Rattle.str_scene.specs.Scenes.{Scene}
use Rattle.str_scene.specs.Spelling.{spelling}

unfoldable pub one_put : Scene
unfolding words
one_put =
    record {
      version = 1;
      nodes = 1;
      parts = (node 1 ∷ []) ∷ [];
      keys = record { names = key (codes "a") 1 ∷ []; texts = [] };
      sessions =
          session 1 ((put 0 (pos 5) ∷ []) ∷ []) ∷ [];
      schedule = c 1 10 ∷ [];
      drain = true;
    }

one_put-text : spelling one_put ≡
    codes "str 1\nnodes 1\npart 1 1\nsession 1\ntx\nput a@1 5\nschedule\nc 1 10\ndrain\nend\n"
unfolding everything one_put
one_put-text = refl

one_put-journal : render_j one_put (cluster_run one_put) ≡
    codes "j c 1 10\nj c 1 0\nj c 1 0\n1.1 s1/1 commit rs=10 fc=11\nend commits=1 aborts=0 held=0 unbegun=0 messages=0\n"
unfolding everything one_put
one_put-journal = refl
