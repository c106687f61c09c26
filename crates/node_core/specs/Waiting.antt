-- What one of those who wait comes to.
use Rattle.std.specs.Prelude.{Bool, drop, false, if◌then◌else◌, take, true, ℕ, ◌+◌, ◌≡◌}
use Rattle.node_core.specs.declared.waiters.WaiterTurn.{WaiterTurn}
use Rattle.node_core.specs.declared.waiters.WaiterTurn.TheVariants.{Accept, Give, Refuse, Stay}
use Rattle.node_core.specs.Working.{Did, WorkState}
use Rattle.str_model.specs.declared.messages.Waiter.{Waiter}
use Rattle.str_model.specs.declared.messages.Waiter.TheVariants.{Held, Read}
use Rattle.str_model.specs.Proposals
use Rattle.str_model.specs.Proposals.{MasterTurn, master_turn}
use Rattle.str_model.specs.Turns
use Rattle.str_model.specs.Turns.{ServeTurn, serve_turn}
use Rattle.str_model.specs.Views.{Doing, View}
use Rattle.str_model.specs.Waiters.{waiter_turn}
use Rattle.str_base.specs.Versions.{stamp}
use Rattle.str_scene.specs.Scenes.{Here}

-- what a waiting read comes to
abbrev pub served : ServeTurn → WaiterTurn
served (Turns.Give v by fc) = Give v by (stamp fc)
served (Turns.ServeWait by) = Stay

-- what a parked Prepare comes to
abbrev pub judged : MasterTurn → WaiterTurn
judged (Proposals.Accept ts) = Accept (stamp ts)
judged (Proposals.Refuse by k) = Refuse by k
judged (Proposals.Park by) = Stay
judged Proposals.Ignore = Stay

-- what one who waits comes to
abbrev pub turn_of : View → Waiter → WaiterTurn
turn_of v (Read tx k rs) = served (serve_turn v.versions k rs.0)
turn_of v (Held a) = judged (master_turn v a)

-- it goes on waiting
abbrev pub is_staying : WaiterTurn → Bool
is_staying Stay = true
is_staying (Give v by fc) = false
is_staying (Accept ts) = false
is_staying (Refuse by k) = false

-- what is done where the j-th of those who wait is tried again
abbrev pub tried : Here → ℕ → Waiter → Doing → Doing
tried here j w d = (waiter_turn here (take j d.view.waiters) (drop (j + 1) d.view.waiters) w d).1

-- the j-th of those who wait was tried again, and this is the place of the one after it: it goes on waiting, or the one after it has come to its place
pub record Tried (j : ℕ) (w : Waiter) (next : ℕ) (old new : WorkState) : Type 0 where
  pub done : Did (tried old.here j w old.doing) old new
  pub next_is : next ≡ (if is_staying (turn_of old.doing.view w) then j + 1 else j)
