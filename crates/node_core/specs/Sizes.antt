-- How many keys a message and one who waits can write: the type of the writes keeps 16.
use Rattle.std.specs.Prelude.{List, length, ◌≤◌}
use Rattle.str_base.specs.Members.{In}
use Rattle.str_model.specs.declared.messages.Body.{Body}
use Rattle.str_model.specs.declared.messages.Body.TheVariants.{Prepare, Replicate}
use Rattle.str_model.specs.declared.messages.Input.{Input}
use Rattle.str_model.specs.declared.messages.Input.TheVariants.{Client, Deliver}
use Rattle.str_model.specs.declared.messages.Waiter.{Waiter}
use Rattle.str_model.specs.declared.messages.Waiter.TheVariants.{Held, Read}

-- what a message says
abbrev pub IsSmallBody : Body → Type 0
IsSmallBody (Prepare tx p rs lc ws) = length ws ≤ 16
IsSmallBody (Replicate tx p rs lc ws) = length ws ≤ 16
IsSmallBody _ = Unit {0}

-- what a node steps on
abbrev pub IsSmallInput : Input → Type 0
IsSmallInput (Client s t) = Unit {0}
IsSmallInput (Deliver m) = IsSmallBody m.body

-- one who waits
abbrev pub IsSmallWaiter : Waiter → Type 0
IsSmallWaiter (Read tx k rs) = Unit {0}
IsSmallWaiter (Held a) = length a.writes ≤ 16

-- all who wait
abbrev pub AreSmallWaiters : List Waiter → Type 0
AreSmallWaiters ws = (w : Waiter) → In w ws → IsSmallWaiter w
