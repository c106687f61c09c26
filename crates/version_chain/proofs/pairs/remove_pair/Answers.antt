use Rattle.std.proofs.Common.{List, Option, ap, refl, subst, sym, true, ℕ, ◌∙◌, ◌≡◌}
use Rattle.str_base.specs.declared.names.TxId.{TxId}
use Rattle.str_base.specs.Versions.{of_pair}
use Rattle.link_arena.specs.Arenas.{at, next_of, number_of, tx_list}
use Rattle.link_arena.specs.declared.nodes.Slot.{Slot}
use Rattle.link_arena.specs.Rows.{IsPlace, is_in, taken}
use Rattle.version_chain.specs.Flat.{flat, from_slot}
use Rattle.version_chain.proofs.Changed.{gone, stays, unlinked_chains, without_same}
use Rattle.version_chain.proofs.Telling.{without_none}
use Rattle.link_arena.proofs.Listed.{next_place, first_place, tx_is, tx_there}
use Rattle.version_chain.proofs.Pending.{one_list, unfit, vacant_at, from_next, from_taken, next_place_taken, none_fits, one_less, pending_first, pending_step, rest_is}
use Rattle.version_chain.proofs.pairs.remove_pair.Goals as goal

pub slots-init : goal.slots-init
slots-init c =
    let a = c.args.arena.now in
    record {
      chains = c.requires;
      place = subst (λ (o : Option ℕ). IsPlace o (tx_list a c.args.tx)) (sym c.first_of_tx-slot.ensures.first) (first_place (tx_list a c.args.tx));
      pending = pending_first (λ v. ⊥) a c.args.tx c.args.part (number_of c.first_of_tx-slot.result) c.requires.lists c.first_of_tx-slot.ensures.first;
      others = refl;
      spare = refl;
    }

pub next_in_tx-slot-requires : goal.next_in_tx-slot-requires
next_in_tx-slot-requires c =
    let a = c.slots.arena in
    tx_there a c.slots.invariant.chains.lists c.args.tx c.in-Some.here.0 (subst (λ (o : Option Slot). IsPlace (number_of o) (tx_list a c.args.tx)) c.in-Some.is c.slots.invariant.place)

pub slots-smaller : goal.slots-smaller
slots-smaller c =
    let a = c.slots.arena in
    let l = c.slots.invariant.chains.lists in
    let ts = tx_list a c.args.tx in
    let s = c.in-Some.here.0 in
    let v = c.get.result in
    let e = sym c.get.ensures.value in
    let h : is_in s ts ≡ true = subst (λ (o : Option Slot). IsPlace (number_of o) ts) c.in-Some.is c.slots.invariant.place in
    let q : number_of c.next_in_tx-slot.result ≡ next_of s ts = c.next_in_tx-slot.ensures v e ∙ ap (λ (t : TxId). next_of s (tx_list a t)) (tx_is a l c.args.tx s v h e) in
    let w = rest_is ts ts s (number_of c.slots.slot) (number_of c.next_in_tx-slot.result) (ap (λ (o : Option Slot). number_of o) c.in-Some.is) h q (from_next s ts (l.once_in_tx c.args.tx)) in
    one_less (from_slot (number_of c.slots.slot) ts) (from_slot (number_of c.next_in_tx-slot.result) ts) s w

pub slots-preserved : goal.slots-preserved
slots-preserved c =
    let a = c.slots.arena in
    let i = c.slots.invariant in
    let l = i.chains.lists in
    let ts = tx_list a c.args.tx in
    let s = c.in-Some.here.0 in
    let v = c.get.result in
    let e = sym c.get.ensures.value in
    let h : is_in s ts ≡ true = subst (λ (o : Option Slot). IsPlace (number_of o) ts) c.in-Some.is i.place in
    let q : number_of c.next_in_tx-slot.result ≡ next_of s ts = c.next_in_tx-slot.ensures v e ∙ ap (λ (t : TxId). next_of s (tx_list a t)) (tx_is a l c.args.tx s v h e) in
    let w = rest_is ts ts s (number_of c.slots.slot) (number_of c.next_in_tx-slot.result) (ap (λ (o : Option Slot). number_of o) c.in-Some.is) h q (from_next s ts (l.once_in_tx c.args.tx)) in
    let fits = sym c.is_of.ensures ∙ c.if-is_of.false in
    record {
      chains = i.chains;
      place = subst (λ (o : Option ℕ). IsPlace o ts) (sym q) (next_place s ts);
      pending = pending_step (λ v. ⊥) (at a) (at a) (of_pair c.args.tx c.args.part) s (from_slot (number_of c.slots.slot) ts) (from_slot (number_of c.next_in_tx-slot.result) ts)
          i.pending w (λ u n. refl) (λ x d t. unfit (at a) (of_pair c.args.tx c.args.part) s v x e d fits t);
      others = i.others;
      spare = i.spare;
    }

pub slots-smaller-then-is_of : goal.slots-smaller-then-is_of
slots-smaller-then-is_of c =
    let a = c.slots.arena in
    let l = c.slots.invariant.chains.lists in
    let ts = tx_list a c.args.tx in
    let us = tx_list c.unlink.new.self c.args.tx in
    let s = c.in-Some.here.0 in
    let v = c.get.result in
    let e = sym c.get.ensures.value in
    let h : is_in s ts ≡ true = subst (λ (o : Option Slot). IsPlace (number_of o) ts) c.in-Some.is c.slots.invariant.place in
    let q : number_of c.next_in_tx-slot.result ≡ next_of s ts = c.next_in_tx-slot.ensures v e ∙ ap (λ (t : TxId). next_of s (tx_list a t)) (tx_is a l c.args.tx s v h e) in
    let r : us ≡ taken s ts = one_list c.args.tx c.unlink.result (taken s ts) ts us (tx_is a l c.args.tx s c.unlink.result h (sym c.unlink.ensures.value)) (c.unlink.ensures.tx_list c.args.tx) in
    let w = rest_is ts us s (number_of c.slots.slot) (number_of c.next_in_tx-slot.result) (ap (λ (o : Option Slot). number_of o) c.in-Some.is) h q
    (ap (λ (ws : List ℕ). from_slot (next_of s ts) ws) r ∙ from_taken s ts (l.once_in_tx c.args.tx)) in
    one_less (from_slot (number_of c.slots.slot) ts) (from_slot (number_of c.next_in_tx-slot.result) us) s w

pub slots-preserved-then-is_of : goal.slots-preserved-then-is_of
slots-preserved-then-is_of c =
    let a = c.slots.arena in
    let b = c.unlink.new.self in
    let i = c.slots.invariant in
    let l = i.chains.lists in
    let ts = tx_list a c.args.tx in
    let us = tx_list b c.args.tx in
    let s = c.in-Some.here.0 in
    let v = c.get.result in
    let e = sym c.get.ensures.value in
    let f = sym c.unlink.ensures.value in
    let h : is_in s ts ≡ true = subst (λ (o : Option Slot). IsPlace (number_of o) ts) c.in-Some.is i.place in
    let q : number_of c.next_in_tx-slot.result ≡ next_of s ts = c.next_in_tx-slot.ensures v e ∙ ap (λ (t : TxId). next_of s (tx_list a t)) (tx_is a l c.args.tx s v h e) in
    let r : us ≡ taken s ts = one_list c.args.tx c.unlink.result (taken s ts) ts us (tx_is a l c.args.tx s c.unlink.result h f) (c.unlink.ensures.tx_list c.args.tx) in
    let w = rest_is ts us s (number_of c.slots.slot) (number_of c.next_in_tx-slot.result) (ap (λ (o : Option Slot). number_of o) c.in-Some.is) h q
    (ap (λ (ws : List ℕ). from_slot (next_of s ts) ws) r ∙ from_taken s ts (l.once_in_tx c.args.tx)) in
    let test = of_pair c.args.tx c.args.part in
    let same : v ≡ c.unlink.result = cc (sym e ∙ f) in
    let fits : test c.unlink.result ≡ true = sym (ap test same) ∙ sym c.is_of.ensures ∙ c.if-is_of.true in
    let u = c.unlink.ensures in
    record {
      chains = unlinked_chains a b s c.unlink.result i.chains u.lists f u.at u.key_list;
      place = subst (λ (ws : List ℕ). IsPlace (number_of c.next_in_tx-slot.result) ws) (sym r) (subst (λ (o : Option ℕ). IsPlace o (taken s ts)) (sym q) (next_place_taken s ts));
      pending = pending_step (λ v. ⊥) (at a) (at b) test s (from_slot (number_of c.slots.slot) ts) (from_slot (number_of c.next_in_tx-slot.result) us)
          i.pending w (λ x n. stays a b s c.unlink.result i.chains u.lists f u.at u.key_list x n) (λ x d t. vacant_at (at b) s x (gone a b s c.unlink.result i.chains u.lists f u.at u.key_list) d);
      others = without_same a b s c.unlink.result i.chains u.lists f u.at u.key_list test fits ∙ i.others;
      spare = u.spare ∙ i.spare;
    }

pub returns-clause-chains : goal.returns-clause-chains
returns-clause-chains c = c.slots.invariant.chains

pub returns-clause-versions : goal.returns-clause-versions
returns-clause-versions c =
    let a = c.slots.arena in
    let ts = tx_list a c.args.tx in
    let test = of_pair c.args.tx c.args.part in
    sym (without_none test (flat a) (none_fits a test (from_slot (number_of c.slots.slot) ts) c.slots.invariant.pending (ap (λ (o : Option Slot). from_slot (number_of o) ts) c.in_default.is)))
    ∙ c.slots.invariant.others
