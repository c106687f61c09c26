-- Worked pruned runs, computed: how many versions each node keeps.
use Rattle.std.proofs.Common.{List, [], length, map, refl, ℕ, ◌∷◌, ◌≡◌, false}
use Rattle.std.specs.Prelude.{codes, pos}
use Rattle.str_scene.specs.Scenes.{Scene}
use Rattle.str_model.specs.PrunedRuns.{PrunedWorld, pruned_happens, pruned_run}
use Rattle.str_model.specs.Views.{View}
use Rattle.str_model.proofs.Worked.Words.{c, d, everything, get, key, node, put, session, words}

kept_at : PrunedWorld → List ℕ
kept_at p = map (λ (v : View). length v.versions) p.world.nodes

three_writes : ℕ → Scene
unfolding words
three_writes n =
    record {
      version = 1;
      nodes = n;
      parts = (node 1 ∷ []) ∷ [];
      keys = record { names = key (codes "a") 1 ∷ []; texts = [] };
      sessions = session 1 ((put 0 (pos 1) ∷ []) ∷ (put 0 (pos 2) ∷ []) ∷ (put 0 (pos 3) ∷ []) ∷ []) ∷ [];
      schedule = c 1 10 ∷ c 1 0 ∷ c 1 0 ∷ c 1 0 ∷ c 1 0 ∷ c 1 0 ∷ c 1 0 ∷ c 1 0 ∷ c 1 0 ∷ [];
      drain = false;
    }

one_node_keeps_one : kept_at (pruned_run (three_writes 1) (three_writes 1).schedule) ≡ 1 ∷ []
unfolding everything pruned_happens kept_at three_writes
one_node_keeps_one = refl

a_node_never_heard_keeps_all : kept_at (pruned_run (three_writes 2) (three_writes 2).schedule) ≡ 3 ∷ 0 ∷ []
unfolding everything pruned_happens kept_at three_writes
a_node_never_heard_keeps_all = refl

-- idle deliveries raise nothing
heard_idle : Scene
unfolding words
heard_idle =
    record {
      version = 1;
      nodes = 2;
      parts = (node 1 ∷ []) ∷ [];
      keys = record { names = key (codes "a") 1 ∷ []; texts = [] };
      sessions = session 1 ((put 0 (pos 1) ∷ []) ∷ (put 0 (pos 1) ∷ []) ∷ (get 0 ∷ []) ∷ []) ∷ session 2 ((put 0 (pos 1) ∷ []) ∷ []) ∷ [];
      schedule = c 2 1 ∷ c 2 0 ∷ c 1 0 ∷ c 1 0 ∷ c 1 0 ∷ c 1 0 ∷ c 1 0 ∷ c 1 0 ∷ c 2 0 ∷ d 1 ∷ d 2 ∷ d 3 ∷ c 1 0 ∷ [];
      drain = false;
    }

idle_deliveries_raise_nothing : kept_at (pruned_run heard_idle heard_idle.schedule) ≡ 2 ∷ 0 ∷ []
unfolding everything pruned_happens kept_at heard_idle
idle_deliveries_raise_nothing = refl

low_at_start : Scene
unfolding words
low_at_start =
    record {
      version = 1;
      nodes = 2;
      parts = (node 1 ∷ []) ∷ [];
      keys = record { names = key (codes "a") 1 ∷ []; texts = [] };
      sessions = session 1 ((put 0 (pos 1) ∷ []) ∷ []) ∷ session 1 ((put 0 (pos 3) ∷ []) ∷ []) ∷ session 2 ((put 0 (pos 1) ∷ []) ∷ []) ∷ [];
      schedule = c 3 1 ∷ c 1 0 ∷ c 1 0 ∷ c 3 0 ∷ c 1 0 ∷ c 3 0 ∷ d 1 ∷ c 2 2 ∷ d 2 ∷ d 3 ∷ [];
      drain = false;
    }

the_mark_at_the_end_is_carried : kept_at (pruned_run low_at_start low_at_start.schedule) ≡ 1 ∷ 0 ∷ []
unfolding everything pruned_happens kept_at low_at_start
the_mark_at_the_end_is_carried = refl
