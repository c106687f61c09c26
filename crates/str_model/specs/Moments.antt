-- The moments of a step: before its rule, after each single abort, commit or acceptance, after each turn of the pass, after
-- each of those who wait, and at the end.
use Rattle.std.specs.Prelude.{List, None, Option, Some, [], length, suc, zero, ℕ, ◌++◌, ◌∷◌}
use Rattle.str_model.specs.declared.messages.Arrived.{Arrived}
use Rattle.str_model.specs.declared.messages.Body.{Body}
use Rattle.str_model.specs.declared.messages.Body.TheVariants.{Replicate}
use Rattle.str_model.specs.declared.messages.Input.{Input}
use Rattle.str_model.specs.declared.messages.Input.TheVariants.{Client, Deliver}
use Rattle.str_model.specs.declared.messages.Waiter.{Waiter}
use Rattle.str_model.specs.Arrivals.{evict}
use Rattle.str_model.specs.Pass.{half_turn, pass_to, turn}
use Rattle.str_scene.specs.Scenes.{Here}
use Rattle.str_model.specs.Steps.{rule}
use Rattle.str_model.specs.Views.{Doing, View, starts}
use Rattle.str_model.specs.Waiters.{waiter_turn}

-- after each eviction
abbrev pub evict_moments : Here → Arrived → ℕ → Doing → List Doing
evict_moments here a zero d = []
evict_moments here a (suc i) d = evict_moments here a i d ++ evict here a (suc i) d ∷ []

-- after each eviction of a Replicate
abbrev pub body_moments : Here → Body → Doing → List Doing
body_moments here (Replicate tx p rs lc ws) d =
    evict_moments here (record { tx = tx; part = p; rs = rs; lc = lc; writes = ws }) (length d.view.own) d
body_moments here _ d = []

-- those of the rule of an input
abbrev pub input_moments : Here → Input → Doing → List Doing
input_moments here (Client s t) d = []
input_moments here (Deliver m) d = body_moments here m.body d

-- of a turn: before its closing, where a candidate may have become the snapshot, and at its end
abbrev pub turn_moments : Here → ℕ → Doing → List Doing
turn_moments here i d = half_turn here i d ∷ turn here i d ∷ []

-- those of the turns below n
abbrev pub pass_moments : Here → ℕ → Doing → List Doing
pass_moments here zero d = []
pass_moments here (suc i) d = pass_moments here i d ++ turn_moments here i (pass_to here i d)

-- after each of those who wait
abbrev pub wait_moments : Here → List Waiter → List Waiter → Doing → List Doing
wait_moments here kept [] d = []
wait_moments here kept (w ∷ rest) d = let r = waiter_turn here kept rest w d in r.1 ∷ wait_moments here r.0 rest r.1

-- the rule's end, the pass and those who wait
abbrev pub after_moments : Here → Doing → List Doing
after_moments here d =
    let e = pass_to here (length d.view.own) d in
    d ∷ (pass_moments here (length d.view.own) d ++ wait_moments here [] e.view.waiters e)

-- the start alone where the input is idle
abbrev pub from_rule : Here → Input → Doing → Option Doing → List Doing
from_rule here input d None = d ∷ []
from_rule here input d (Some r) = d ∷ (input_moments here input d ++ after_moments here r)

-- all moments of a step
unfoldable pub moments_of : Here → Input → View → List Doing
moments_of here input view =
    let d = starts view in from_rule here input d (rule here input d)
