use Rattle.link_arena.specs.Arenas.{number_of, tx_list}
use Rattle.link_arena.specs.Rows.{IsPlace}
use Rattle.link_arena.proofs.tests.is_tx_list.Given as goal

-- the slot is one of the transaction
abbrev pub invariant-slots : goal.invariant-slots
invariant-slots l = IsPlace (number_of l.slot) (tx_list l.arena l.fn.tx)
