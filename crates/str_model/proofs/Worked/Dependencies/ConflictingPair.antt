-- A transaction reads from one of two that wrote one key, and waits at the gate before the other; it aborts with the first.
use Rattle.std.proofs.Common.{[], refl, true, ◌++◌, ◌∷◌, ◌≡◌}
use Rattle.std.specs.Prelude.{codes, pos}
use Rattle.str_model.specs.Drains.{cluster_run}
use Rattle.str_model.specs.Lines.{render, render_j}
use Rattle.str_model.proofs.Worked.Words.{c, d, everything, get, key, node, put, session, words}
use Rattle.str_scene.specs.Scenes.{Scene}
use Rattle.str_scene.specs.Spelling.{spelling}

unfoldable pub conflicting_pair : Scene
unfolding words
conflicting_pair =
    record {
      version = 1;
      nodes = 2;
      parts = (node 1 ∷ []) ∷ (node 2 ∷ []) ∷ [];
      keys = record { names = key (codes "a") 1 ∷ key (codes "r") 2 ∷ key (codes "b") 2 ∷ []; texts = [] };
      sessions =
          session 1 ((put 0 (pos 1) ∷ put 1 (pos 1) ∷ []) ∷ []) ∷
          session 2 ((put 1 (pos 2) ∷ put 2 (pos 2) ∷ []) ∷ []) ∷
          session 1 ((get 0 ∷ get 2 ∷ []) ∷ []) ∷ [];
      schedule = c 1 10 ∷ c 1 0 ∷ c 1 0 ∷ c 1 0 ∷ c 2 20 ∷ c 2 0 ∷ c 2 0 ∷ c 2 0 ∷ c 3 30 ∷ c 3 0 ∷ c 3 0 ∷ d 2 ∷
          d 3 ∷ c 3 0 ∷ d 1 ∷ d 4 ∷ [];
      drain = true;
    }

conflicting_pair-text : spelling conflicting_pair ≡
    codes "str 1\nnodes 2\npart 1 1\npart 2 2\nsession 1\ntx\nput a@1 1\nput r@2 1\nsession 2\ntx\nput r@2 2\nput b@2 2\n" ++
    codes "session 1\ntx\nget a@1\nget b@2\nschedule\nc 1 10\nc 1 0\nc 1 0\nc 1 0\nc 2 20\nc 2 0\nc 2 0\n" ++
    codes "c 2 0\nc 3 30\nc 3 0\nc 3 0\nd 2\nd 3\nc 3 0\nd 1\nd 4\ndrain\nend\n"
unfolding everything conflicting_pair
conflicting_pair-text = refl

conflicting_pair-answers : render conflicting_pair (cluster_run conflicting_pair) ≡
    codes "2.1 s2/1 commit rs=20 fc=21\n1.1 s1/1 abort rs=10 conflict 2.1 r@2 at=2\n1.2 s3/1 abort rs=30 lost 1.1\nend commits=1 aborts=2 held=0 unbegun=0 messages=5\n"
unfolding everything conflicting_pair
conflicting_pair-answers = refl

conflicting_pair-journal : render_j conflicting_pair (cluster_run conflicting_pair) ≡
    codes "j c 1 10\nj c 1 0\nj c 1 0\nj c 1 0\nj c 2 20\nj c 2 0\nj c 2 0\nj c 2 0\n" ++
    codes "2.1 s2/1 commit rs=20 fc=21\nj c 3 30\nj c 3 0\nj c 3 0\nj d 2\nj d 3\nj c 3 0 idle\nj d 1\n" ++
    codes "j d 4\n1.1 s1/1 abort rs=10 conflict 2.1 r@2 at=2\n1.2 s3/1 abort rs=30 lost 1.1\nj d 5 idle\nend commits=1 aborts=2 held=0 unbegun=0 messages=5\n"
unfolding everything conflicting_pair
conflicting_pair-journal = refl
