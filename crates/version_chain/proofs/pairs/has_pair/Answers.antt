use Rattle.std.proofs.Common.{Option, ap, refl, subst, sym, true, ℕ, ◌∙◌, ◌≡◌}
use Rattle.str_base.specs.declared.names.TxId.{TxId}
use Rattle.str_base.specs.Versions.{of_pair}
use Rattle.link_arena.specs.Arenas.{at, next_of, number_of, tx_list}
use Rattle.link_arena.specs.declared.nodes.Slot.{Slot}
use Rattle.link_arena.specs.Rows.{IsPlace, is_in}
use Rattle.version_chain.specs.Flat.{flat, from_slot}
use Rattle.version_chain.proofs.Flats.{flat_has}
use Rattle.str_base.proofs.Members.{any_in}
use Rattle.version_chain.proofs.Telling.{any_none}
use Rattle.link_arena.proofs.Listed.{next_place, first_place, tx_is, tx_there}
use Rattle.version_chain.proofs.Pending.{unfit, from_next, none_fits, one_less, pending_first, pending_step, rest_is}
use Rattle.version_chain.proofs.pairs.has_pair.Goals as goal

pub slots-init : goal.slots-init
slots-init c =
    let a = c.args.arena.now in
    record {
      place = subst (λ (o : Option ℕ). IsPlace o (tx_list a c.args.tx)) (sym c.first_of_tx-slot.ensures.first) (first_place (tx_list a c.args.tx));
      pending = pending_first (λ v. ⊥) a c.args.tx c.args.part (number_of c.first_of_tx-slot.result) c.requires.lists c.first_of_tx-slot.ensures.first;
    }

pub get-requires : goal.get-requires
get-requires c =
    let a = c.args.arena.now in
    tx_there a c.requires.lists c.args.tx c.in-Some.here.0 (subst (λ (o : Option Slot). IsPlace (number_of o) (tx_list a c.args.tx)) c.in-Some.is c.slots.invariant.place)

pub returns-then-is_of : goal.returns-then-is_of
returns-then-is_of c =
    let a = c.args.arena.now in
    let v = c.get.result in
    sym (any_in (of_pair c.args.tx c.args.part) (flat a) v (flat_has a c.requires.lists c.in-Some.here.0 v (sym c.get.ensures.value)) (sym c.is_of.ensures ∙ c.if-is_of.true))

pub slots-smaller : goal.slots-smaller
slots-smaller c =
    let a = c.args.arena.now in
    let ts = tx_list a c.args.tx in
    let s = c.in-Some.here.0 in
    let v = c.get.result in
    let e = sym c.get.ensures.value in
    let h : is_in s ts ≡ true = subst (λ (o : Option Slot). IsPlace (number_of o) ts) c.in-Some.is c.slots.invariant.place in
    let q : number_of c.next_in_tx-slot.result ≡ next_of s ts = c.next_in_tx-slot.ensures v e ∙ ap (λ (t : TxId). next_of s (tx_list a t)) (tx_is a c.requires.lists c.args.tx s v h e) in
    let w = rest_is ts ts s (number_of c.slots.slot) (number_of c.next_in_tx-slot.result) (ap (λ (o : Option Slot). number_of o) c.in-Some.is) h q (from_next s ts (c.requires.lists.once_in_tx c.args.tx)) in
    one_less (from_slot (number_of c.slots.slot) ts) (from_slot (number_of c.next_in_tx-slot.result) ts) s w

pub slots-preserved : goal.slots-preserved
slots-preserved c =
    let a = c.args.arena.now in
    let ts = tx_list a c.args.tx in
    let s = c.in-Some.here.0 in
    let v = c.get.result in
    let e = sym c.get.ensures.value in
    let h : is_in s ts ≡ true = subst (λ (o : Option Slot). IsPlace (number_of o) ts) c.in-Some.is c.slots.invariant.place in
    let q : number_of c.next_in_tx-slot.result ≡ next_of s ts = c.next_in_tx-slot.ensures v e ∙ ap (λ (t : TxId). next_of s (tx_list a t)) (tx_is a c.requires.lists c.args.tx s v h e) in
    let w = rest_is ts ts s (number_of c.slots.slot) (number_of c.next_in_tx-slot.result) (ap (λ (o : Option Slot). number_of o) c.in-Some.is) h q (from_next s ts (c.requires.lists.once_in_tx c.args.tx)) in
    let fits = sym c.is_of.ensures ∙ c.if-is_of.false in
    record {
      place = subst (λ (o : Option ℕ). IsPlace o ts) (sym q) (next_place s ts);
      pending = pending_step (λ v. ⊥) (at a) (at a) (of_pair c.args.tx c.args.part) s (from_slot (number_of c.slots.slot) ts) (from_slot (number_of c.next_in_tx-slot.result) ts)
          c.slots.invariant.pending w (λ u n. refl) (λ x d t. unfit (at a) (of_pair c.args.tx c.args.part) s v x e d fits t);
    }

pub returns : goal.returns
returns c =
    let a = c.args.arena.now in
    let ts = tx_list a c.args.tx in
    let test = of_pair c.args.tx c.args.part in
    sym (any_none test (flat a) (none_fits a test (from_slot (number_of c.slots.slot) ts) c.slots.invariant.pending (ap (λ (o : Option Slot). from_slot (number_of o) ts) c.in_default.is)))
