use Rattle.std.proofs.Common.{Option, subst, sym, true, ℕ, ◌≡◌}
use Rattle.link_arena.specs.Arenas.{number_of, tx_list}
use Rattle.link_arena.specs.declared.nodes.Slot.{Slot}
use Rattle.link_arena.specs.Rows.{IsPlace, is_in}
use Rattle.link_arena.proofs.Listed.{first_place, tx_next, tx_there}
use Rattle.link_arena.proofs.tests.is_tx_list.Goals as goal

pub slots-init : goal.slots-init
slots-init c =
    let ss = tx_list c.args.arena.now c.args.tx in
    subst (λ (o : Option ℕ). IsPlace o ss) (sym c.first_of_tx-slot.ensures.first) (first_place ss)

pub get-requires : goal.get-requires
get-requires c =
    let a = c.args.arena.now in
    let s = c.in-Some.here.0 in
    let i : is_in s (tx_list a c.args.tx) ≡ true = subst (λ (o : Option Slot). IsPlace (number_of o) (tx_list a c.args.tx)) c.in-Some.is c.slots.invariant in
    tx_there a c.first_of_tx-slot.ensures.lists c.args.tx s i

pub slots-preserved : goal.slots-preserved
slots-preserved c =
    let a = c.args.arena.now in
    let s = c.in-Some.here.0 in
    let i : is_in s (tx_list a c.args.tx) ≡ true = subst (λ (o : Option Slot). IsPlace (number_of o) (tx_list a c.args.tx)) c.in-Some.is c.slots.invariant in
    tx_next a c.first_of_tx-slot.ensures.lists c.args.tx s (number_of c.next_in_tx-slot.result) i c.next_in_tx-slot.ensures
