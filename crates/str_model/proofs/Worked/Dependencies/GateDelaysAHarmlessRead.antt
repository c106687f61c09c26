-- A read waits at the gate, although what it would read is harmless.
use Rattle.std.proofs.Common.{[], false, refl, ◌++◌, ◌∷◌, ◌≡◌}
use Rattle.std.specs.Prelude.{codes, pos}
use Rattle.str_model.specs.Drains.{cluster_run}
use Rattle.str_model.specs.Lines.{render, render_j}
use Rattle.str_model.proofs.Worked.Words.{c, d, everything, get, key, node, put, session, words}
use Rattle.str_scene.specs.Scenes.{Scene}
use Rattle.str_scene.specs.Spelling.{spelling}

unfoldable pub gate_delays_a_harmless_read : Scene
unfolding words
gate_delays_a_harmless_read =
    record {
      version = 1;
      nodes = 2;
      parts = (node 1 ∷ []) ∷ (node 2 ∷ []) ∷ [];
      keys = record { names = key (codes "a") 1 ∷ key (codes "r") 2 ∷ key (codes "b") 2 ∷ []; texts = [] };
      sessions =
          session 1 ((put 0 (pos 1) ∷ put 1 (pos 1) ∷ []) ∷ []) ∷
          session 2 ((put 2 (pos 2) ∷ []) ∷ []) ∷
          session 1 ((get 0 ∷ get 2 ∷ []) ∷ []) ∷ [];
      schedule = c 1 10 ∷ c 1 0 ∷ c 1 0 ∷ c 1 0 ∷ c 2 20 ∷ c 2 0 ∷ c 2 0 ∷ c 3 30 ∷ c 3 0 ∷ c 3 0 ∷ d 2 ∷ d 3 ∷
          c 3 0 ∷ d 1 ∷ d 4 ∷ [];
      drain = false;
    }

gate_delays_a_harmless_read-text : spelling gate_delays_a_harmless_read ≡
    codes "str 1\nnodes 2\npart 1 1\npart 2 2\nsession 1\ntx\nput a@1 1\nput r@2 1\nsession 2\ntx\nput b@2 2\nsession 1\n" ++
    codes "tx\nget a@1\nget b@2\nschedule\nc 1 10\nc 1 0\nc 1 0\nc 1 0\nc 2 20\nc 2 0\nc 2 0\nc 3 30\n" ++
    codes "c 3 0\nc 3 0\nd 2\nd 3\nc 3 0\nd 1\nd 4\nend\n"
unfolding everything gate_delays_a_harmless_read
gate_delays_a_harmless_read-text = refl

gate_delays_a_harmless_read-answers : render gate_delays_a_harmless_read (cluster_run gate_delays_a_harmless_read) ≡
    codes "2.1 s2/1 commit rs=20 fc=21\n1.1 s1/1 commit rs=10 fc=11\nend commits=2 aborts=0 held=1 unbegun=0 messages=5\n"
unfolding everything gate_delays_a_harmless_read
gate_delays_a_harmless_read-answers = refl

gate_delays_a_harmless_read-journal : render_j gate_delays_a_harmless_read (cluster_run gate_delays_a_harmless_read) ≡
    codes "j c 1 10\nj c 1 0\nj c 1 0\nj c 1 0\nj c 2 20\nj c 2 0\nj c 2 0\n2.1 s2/1 commit rs=20 fc=21\n" ++
    codes "j c 3 30\nj c 3 0\nj c 3 0\nj d 2\nj d 3\nj c 3 0 idle\nj d 1\nj d 4\n" ++
    codes "1.1 s1/1 commit rs=10 fc=11\nend commits=2 aborts=0 held=1 unbegun=0 messages=5\n"
unfolding everything gate_delays_a_harmless_read
gate_delays_a_harmless_read-journal = refl
