-- Those who wait: reads of other nodes, and parked Prepares.
use Rattle.std.specs.Prelude.{List, [], ◌++◌, ◌∷◌}
use Rattle.str_base.specs.declared.names.KeyId.{KeyId}
use Rattle.str_base.specs.declared.names.Ts.{Ts}
use Rattle.str_base.specs.declared.names.TxId.{TxId}
use Rattle.str_model.specs.declared.messages.Arrived.{Arrived}
use Rattle.str_model.specs.declared.messages.Waiter.{Waiter}
use Rattle.str_model.specs.declared.messages.Waiter.TheVariants.{Held, Read}
use Rattle.str_model.specs.Acts.{accepted, refused, replied, with_waiters}
use Rattle.str_model.specs.Proposals.{Accept, Ignore, MasterTurn, Park, Refuse, master_turn}
use Rattle.str_scene.specs.Scenes.{Here}
use Rattle.str_model.specs.Turns.{Give, ServeTurn, ServeWait, serve_turn}
use Rattle.str_model.specs.Views.{Doing}

-- a waiting read is answered, or goes on waiting
abbrev pub waiter_read : Here → List Waiter → List Waiter → TxId → KeyId → Ts → ServeTurn → Doing → List Waiter × Doing
waiter_read here kept rest tx k rs (Give v by fc) d = (kept, replied here tx k v by fc (with_waiters (kept ++ rest) d))
waiter_read here kept rest tx k rs (ServeWait by) d = (kept ++ Read tx k rs ∷ [], d)

-- a parked Prepare is accepted, refused, or stays parked
abbrev pub waiter_held : Here → List Waiter → List Waiter → Arrived → MasterTurn → Doing → List Waiter × Doing
waiter_held here kept rest a (Accept ts) d = (kept, accepted here a ts (with_waiters (kept ++ rest) d))
waiter_held here kept rest a (Refuse by k) d = (kept, refused here a by k (with_waiters (kept ++ rest) d))
waiter_held here kept rest a (Park by) d = (kept ++ Held a ∷ [], d)
waiter_held here kept rest a Ignore d = (kept ++ Held a ∷ [], d)

-- one of those who wait is tried again
abbrev pub waiter_turn : Here → List Waiter → List Waiter → Waiter → Doing → List Waiter × Doing
waiter_turn here kept rest (Read tx k rs) d = waiter_read here kept rest tx k rs (serve_turn d.view.versions k rs.0) d
waiter_turn here kept rest (Held a) d = waiter_held here kept rest a (master_turn d.view a) d

-- those who wait in turn: kept, the ones that go on waiting, and the list of those that are still to be looked at
abbrev pub wait_turns : Here → List Waiter → List Waiter → Doing → Doing
wait_turns here kept [] d = d
wait_turns here kept (w ∷ rest) d = let r = waiter_turn here kept rest w d in wait_turns here r.0 rest r.1
