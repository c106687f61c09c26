use Rattle.std.proofs.Common.{List, Option, ap, refl, subst, sym, true, ℕ, ◌∙◌, ◌≡◌}
use Rattle.str_base.specs.declared.names.TxId.{TxId}
use Rattle.str_base.specs.Versions.{of_pair, settled}
use Rattle.link_arena.specs.Arenas.{at, next_of, number_of, tx_list}
use Rattle.link_arena.specs.declared.nodes.Slot.{Slot}
use Rattle.link_arena.specs.Rows.{IsPlace, is_in}
use Rattle.version_chain.specs.Flat.{flat, from_slot}
use Rattle.version_chain.proofs.Changed.{finalise_none, finalise_same, keeps, now, settled_again}
use Rattle.version_chain.proofs.Flats.{flat_ordered}
use Rattle.link_arena.proofs.Listed.{next_place, first_place, tx_is, tx_there}
use Rattle.version_chain.proofs.Pending.{unfit, all_done, from_next, one_less, pending_first, pending_step, rest_is}
use Rattle.version_chain.proofs.pairs.finalise_pair.Goals as goal

pub slots-init : goal.slots-init
slots-init c =
    let a = c.args.arena.now in
    record {
      chains = c.requires;
      place = subst (λ (o : Option ℕ). IsPlace o (tx_list a c.args.tx)) (sym c.first_of_tx-slot.ensures.first) (first_place (tx_list a c.args.tx));
      pending = pending_first (λ v. settled c.args.fc.0 v ≡ v) a c.args.tx c.args.part (number_of c.first_of_tx-slot.result) c.requires.lists c.first_of_tx-slot.ensures.first;
      whole = refl;
      spare = refl;
    }

pub next_in_tx-slot-requires : goal.next_in_tx-slot-requires
next_in_tx-slot-requires c =
    let a = c.slots.arena in
    tx_there a c.slots.invariant.chains.lists c.args.tx c.in-Some.here.0 (subst (λ (o : Option Slot). IsPlace (number_of o) (tx_list a c.args.tx)) c.in-Some.is c.slots.invariant.place)

pub slots-smaller : goal.slots-smaller
slots-smaller c =
    let a = c.slots.arena in
    let l = c.slots.invariant.chains.lists in
    let ts = tx_list a c.args.tx in
    let s = c.in-Some.here.0 in
    let v = c.get.result in
    let e = sym c.get.ensures.value in
    let h : is_in s ts ≡ true = subst (λ (o : Option Slot). IsPlace (number_of o) ts) c.in-Some.is c.slots.invariant.place in
    let q : number_of c.next_in_tx-slot.result ≡ next_of s ts = c.next_in_tx-slot.ensures v e ∙ ap (λ (t : TxId). next_of s (tx_list a t)) (tx_is a l c.args.tx s v h e) in
    let w = rest_is ts ts s (number_of c.slots.slot) (number_of c.next_in_tx-slot.result) (ap (λ (o : Option Slot). number_of o) c.in-Some.is) h q (from_next s ts (l.once_in_tx c.args.tx)) in
    one_less (from_slot (number_of c.slots.slot) ts) (from_slot (number_of c.next_in_tx-slot.result) ts) s w

pub slots-preserved : goal.slots-preserved
slots-preserved c =
    let a = c.slots.arena in
    let i = c.slots.invariant in
    let l = i.chains.lists in
    let ts = tx_list a c.args.tx in
    let s = c.in-Some.here.0 in
    let v = c.get.result in
    let e = sym c.get.ensures.value in
    let h : is_in s ts ≡ true = subst (λ (o : Option Slot). IsPlace (number_of o) ts) c.in-Some.is i.place in
    let q : number_of c.next_in_tx-slot.result ≡ next_of s ts = c.next_in_tx-slot.ensures v e ∙ ap (λ (t : TxId). next_of s (tx_list a t)) (tx_is a l c.args.tx s v h e) in
    let w = rest_is ts ts s (number_of c.slots.slot) (number_of c.next_in_tx-slot.result) (ap (λ (o : Option Slot). number_of o) c.in-Some.is) h q (from_next s ts (l.once_in_tx c.args.tx)) in
    let fits = sym c.is_of.ensures ∙ c.if-is_of.false in
    record {
      chains = i.chains;
      place = subst (λ (o : Option ℕ). IsPlace o ts) (sym q) (next_place s ts);
      pending = pending_step (λ v. settled c.args.fc.0 v ≡ v) (at a) (at a) (of_pair c.args.tx c.args.part) s (from_slot (number_of c.slots.slot) ts) (from_slot (number_of c.next_in_tx-slot.result) ts)
          i.pending w (λ u n. refl) (λ x d t. absurd (unfit (at a) (of_pair c.args.tx c.args.part) s v x e d fits t));
      whole = i.whole;
      spare = i.spare;
    }

pub slots-smaller-then-is_of : goal.slots-smaller-then-is_of
slots-smaller-then-is_of c =
    let a = c.slots.arena in
    let l = c.slots.invariant.chains.lists in
    let ts = tx_list a c.args.tx in
    let us = tx_list c.settle.new.arena c.args.tx in
    let s = c.in-Some.here.0 in
    let v = c.get.result in
    let e = sym c.get.ensures.value in
    let h : is_in s ts ≡ true = subst (λ (o : Option Slot). IsPlace (number_of o) ts) c.in-Some.is c.slots.invariant.place in
    let q : number_of c.next_in_tx-slot.result ≡ next_of s ts = c.next_in_tx-slot.ensures v e ∙ ap (λ (t : TxId). next_of s (tx_list a t)) (tx_is a l c.args.tx s v h e) in
    let w = rest_is ts us s (number_of c.slots.slot) (number_of c.next_in_tx-slot.result) (ap (λ (o : Option Slot). number_of o) c.in-Some.is) h q
    (ap (λ (ws : List ℕ). from_slot (next_of s ts) ws) (c.settle.ensures.tx_list c.args.tx) ∙ from_next s ts (l.once_in_tx c.args.tx)) in
    one_less (from_slot (number_of c.slots.slot) ts) (from_slot (number_of c.next_in_tx-slot.result) us) s w

pub slots-preserved-then-is_of : goal.slots-preserved-then-is_of
slots-preserved-then-is_of c =
    let a = c.slots.arena in
    let b = c.settle.new.arena in
    let i = c.slots.invariant in
    let l = i.chains.lists in
    let ts = tx_list a c.args.tx in
    let us = tx_list b c.args.tx in
    let s = c.in-Some.here.0 in
    let v = c.get.result in
    let e = sym c.get.ensures.value in
    let fc = c.args.fc.0 in
    let h : is_in s ts ≡ true = subst (λ (o : Option Slot). IsPlace (number_of o) ts) c.in-Some.is i.place in
    let q : number_of c.next_in_tx-slot.result ≡ next_of s ts = c.next_in_tx-slot.ensures v e ∙ ap (λ (t : TxId). next_of s (tx_list a t)) (tx_is a l c.args.tx s v h e) in
    let w = rest_is ts us s (number_of c.slots.slot) (number_of c.next_in_tx-slot.result) (ap (λ (o : Option Slot). number_of o) c.in-Some.is) h q
    (ap (λ (ws : List ℕ). from_slot (next_of s ts) ws) (c.settle.ensures.tx_list c.args.tx) ∙ from_next s ts (l.once_in_tx c.args.tx)) in
    let test = of_pair c.args.tx c.args.part in
    let u = c.settle.ensures in
    record {
      chains = u.chains;
      place = subst (λ (ws : List ℕ). IsPlace (number_of c.next_in_tx-slot.result) ws) (sym (u.tx_list c.args.tx)) (subst (λ (o : Option ℕ). IsPlace o ts) (sym q) (next_place s ts));
      pending = pending_step (λ v. settled fc v ≡ v) (at a) (at b) test s (from_slot (number_of c.slots.slot) ts) (from_slot (number_of c.next_in_tx-slot.result) us)
          i.pending w (λ x n. keeps a b s v fc e u.at x n) (λ x d t. settled_again fc v x (at b s) (now a b s v fc e u.at) d);
      whole = finalise_same a b s v fc i.chains u.chains e u.at test (λ x. refl) (sym c.is_of.ensures ∙ c.if-is_of.true) ∙ i.whole;
      spare = u.spare ∙ i.spare;
    }

pub returns-clause-chains : goal.returns-clause-chains
returns-clause-chains c = c.slots.invariant.chains

pub returns-clause-versions : goal.returns-clause-versions
returns-clause-versions c =
    let a = c.slots.arena in
    let ts = tx_list a c.args.tx in
    let test = of_pair c.args.tx c.args.part in
    let p = c.slots.invariant.pending in
    sym (finalise_none test c.args.fc.0 (flat a) (flat_ordered a c.slots.invariant.chains)
    (all_done a test (λ v. settled c.args.fc.0 v ≡ v) (from_slot (number_of c.slots.slot) ts) p (ap (λ (o : Option Slot). from_slot (number_of o) ts) c.in_default.is)))
    ∙ c.slots.invariant.whole
