use Rattle.std.proofs.Common.{Option, ap, refl, subst, sym, true, ℕ, ◌∙◌, ◌≡◌}
use Rattle.str_base.specs.declared.names.KeyId.{KeyId}
use Rattle.link_arena.specs.Arenas.{at, key_list, next_of, number_of}
use Rattle.link_arena.specs.declared.nodes.Slot.{Slot}
use Rattle.link_arena.specs.OneSide.{is_named}
use Rattle.link_arena.specs.Rows.{IsPlace, is_in}
use Rattle.version_chain.specs.ChainLists.{of_write}
use Rattle.version_chain.specs.Flat.{flat, from_slot}
use Rattle.version_chain.proofs.Telling.{any_none}
use Rattle.link_arena.proofs.Listed.{first_place, key_there, next_place, there}
use Rattle.version_chain.proofs.Pending.{from_next, none_fits, one_less, pending_step, rest_is, unfit}
use Rattle.version_chain.proofs.Dropping.{pending_write}
use Rattle.version_chain.proofs.writes.slot_of.Goals as goal

pub slots-init : goal.slots-init
slots-init c =
    let a = c.args.arena.now in
    record {
      place = subst (λ (o : Option ℕ). IsPlace o (key_list a c.args.key)) (sym c.first_of_key-slot.ensures.first) (first_place (key_list a c.args.key));
      pending = pending_write (λ v. ⊥) a c.args.key c.args.tx (number_of c.first_of_key-slot.result) c.requires.lists c.first_of_key-slot.ensures.first;
    }

pub get-requires : goal.get-requires
get-requires c =
    let a = c.args.arena.now in
    there a c.requires.lists c.args.key c.in-Some.here.0 (subst (λ (o : Option Slot). IsPlace (number_of o) (key_list a c.args.key)) c.in-Some.is c.slots.invariant.place)

pub returns-then-is_write-clause-found : goal.returns-then-is_write-clause-found
returns-then-is_write-clause-found c =
    let e = sym c.get.ensures.value in
    ap (λ o. is_named (of_write c.args.key) c.args.tx o) e ∙ sym c.is_write.ensures ∙ c.if-is_write.true

pub slots-smaller : goal.slots-smaller
slots-smaller c =
    let a = c.args.arena.now in
    let ss = key_list a c.args.key in
    let s = c.in-Some.here.0 in
    let v = c.get.result in
    let e = sym c.get.ensures.value in
    let h : is_in s ss ≡ true = subst (λ (o : Option Slot). IsPlace (number_of o) ss) c.in-Some.is c.slots.invariant.place in
    let q : number_of c.next_in_key-slot.result ≡ next_of s ss = c.next_in_key-slot.ensures v e ∙ ap (λ (k : KeyId). next_of s (key_list a k)) (key_there a c.requires.lists c.args.key s v h e) in
    let w = rest_is ss ss s (number_of c.slots.slot) (number_of c.next_in_key-slot.result) (ap (λ (o : Option Slot). number_of o) c.in-Some.is) h q (from_next s ss (c.requires.lists.once_in_key c.args.key)) in
    one_less (from_slot (number_of c.slots.slot) ss) (from_slot (number_of c.next_in_key-slot.result) ss) s w

pub slots-preserved : goal.slots-preserved
slots-preserved c =
    let a = c.args.arena.now in
    let ss = key_list a c.args.key in
    let s = c.in-Some.here.0 in
    let v = c.get.result in
    let e = sym c.get.ensures.value in
    let h : is_in s ss ≡ true = subst (λ (o : Option Slot). IsPlace (number_of o) ss) c.in-Some.is c.slots.invariant.place in
    let q : number_of c.next_in_key-slot.result ≡ next_of s ss = c.next_in_key-slot.ensures v e ∙ ap (λ (k : KeyId). next_of s (key_list a k)) (key_there a c.requires.lists c.args.key s v h e) in
    let w = rest_is ss ss s (number_of c.slots.slot) (number_of c.next_in_key-slot.result) (ap (λ (o : Option Slot). number_of o) c.in-Some.is) h q (from_next s ss (c.requires.lists.once_in_key c.args.key)) in
    let fits = sym c.is_write.ensures ∙ c.if-is_write.false in
    let test = of_write c.args.key c.args.tx in
    record {
      place = subst (λ (o : Option ℕ). IsPlace o ss) (sym q) (next_place s ss);
      pending = pending_step (λ v. ⊥) (at a) (at a) test s (from_slot (number_of c.slots.slot) ss) (from_slot (number_of c.next_in_key-slot.result) ss)
          c.slots.invariant.pending w (λ u n. refl) (λ x d t. unfit (at a) test s v x e d fits t);
    }

pub returns-clause-none : goal.returns-clause-none
returns-clause-none c =
    let a = c.args.arena.now in
    let ss = key_list a c.args.key in
    let test = of_write c.args.key c.args.tx in
    any_none test (flat a) (none_fits a test (from_slot (number_of c.slots.slot) ss) c.slots.invariant.pending (ap (λ (o : Option Slot). from_slot (number_of o) ss) c.in_default.is))
