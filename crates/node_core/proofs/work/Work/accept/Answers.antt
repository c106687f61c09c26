use Rattle.std.proofs.Common.{arith, subst, sym, ◌∙◌}
use Rattle.node_parts.specs.Holding.{view_of}
use Rattle.node_core.specs.Arriving.{CanPlace}
use Rattle.node_core.specs.Working.{Fits, WorkState}
use Rattle.node_core.proofs.Parts.HeldChanges.{accept_did, accept_room}
use Rattle.node_core.proofs.Parts.PartChanges.{stored_of}
use Rattle.node_core.proofs.Parts.Showing.{part_there, placed_merged, places}
use Rattle.str_model.proofs.ViewFacts.ValidMessages.{named_writes}
use Rattle.str_model.specs.Acts.{accepted}
use Rattle.node_core.proofs.work.Work.accept.Goals as goal

pub overflow_sub-self : goal.overflow_sub-self
overflow_sub-self c =
    let f = subst (λ (w : WorkState). Fits w (accepted w.here c.args.a.now c.args.ts.0 w.doing)) (sym c.self.view_is) c.requires.fits in
    let l = (accept_room c.self.inside.site c.self.inside.held c.self.inside.own c.self.inside.out c.self.inside.left c.self.inside.room c.args.a.now c.args.ts.0 c.self.invariant.within f).0 in omega (arith, l)

pub place-requires-clause-room : goal.place-requires-clause-room
place-requires-clause-room c =
    let f = subst (λ (w : WorkState). Fits w (accepted w.here c.args.a.now c.args.ts.0 w.doing)) (sym c.self.view_is) c.requires.fits in
    let l = (accept_room c.self.inside.site c.self.inside.held c.self.inside.own c.self.inside.out c.self.inside.left c.self.inside.room c.args.a.now c.args.ts.0 c.self.invariant.within f).0 in
    let r = c.self.invariant.has_room.store in omega (arith, l, r)

pub place-requires-clause-hosted : goal.place-requires-clause-hosted
place-requires-clause-hosted c =
    let p = subst (λ (w : WorkState). CanPlace w c.args.a.now) (sym c.self.view_is) c.requires.can in
    c.self.invariant.stands.store_hosts c.args.a.now.part ∙ p.hosted

pub place-requires-clause-other : goal.place-requires-clause-other
place-requires-clause-other c =
    let p = subst (λ (w : WorkState). CanPlace w c.args.a.now) (sym c.self.view_is) c.requires.can in
    let s = stored_of c.self.inside.site c.self.inside.held c.self.inside.own c.self.inside.left c.self.inside.room c.self.invariant p.facts c.node.ensures.kept in
    let a = c.args.a.now in
    places c.self.inside.site (view_of c.self.inside.held c.self.inside.own.all) c.self.inside.held.store c.self.inside.held.cache s a c.args.ts.0 (named_writes c.self.inside.site a.tx a.part a.rs a.lc a.writes p.named) p.none

pub send-requires : goal.send-requires
send-requires c =
    let f = subst (λ (w : WorkState). Fits w (accepted w.here c.args.a.now c.args.ts.0 w.doing)) (sym c.self.view_is) c.requires.fits in
    let l = (accept_room c.self.inside.site c.self.inside.held c.self.inside.own c.self.inside.out c.self.inside.left c.self.inside.room c.args.a.now c.args.ts.0 c.self.invariant.within f).1 in omega (arith, l)

pub send_copies-requires-clause-part : goal.send_copies-requires-clause-part
send_copies-requires-clause-part c =
    let p = subst (λ (w : WorkState). CanPlace w c.args.a.now) (sym c.self.view_is) c.requires.can in
    let a = c.args.a.now in
    part_there c.self.inside.site a.part (named_writes c.self.inside.site a.tx a.part a.rs a.lc a.writes p.named).part

pub send_copies-requires-clause-space : goal.send_copies-requires-clause-space
send_copies-requires-clause-space c =
    let f = subst (λ (w : WorkState). Fits w (accepted w.here c.args.a.now c.args.ts.0 w.doing)) (sym c.self.view_is) c.requires.fits in
    let l = (accept_room c.self.inside.site c.self.inside.held c.self.inside.own c.self.inside.out c.self.inside.left c.self.inside.room c.args.a.now c.args.ts.0 c.self.invariant.within f).1 in let k = c.send.ensures.space in omega (arith, l, k)

pub returns : goal.returns
returns c =
    let p = subst (λ (w : WorkState). CanPlace w c.args.a.now) (sym c.self.view_is) c.requires.can in
    let f = subst (λ (w : WorkState). Fits w (accepted w.here c.args.a.now c.args.ts.0 w.doing)) (sym c.self.view_is) c.requires.fits in
    let l = (accept_room c.self.inside.site c.self.inside.held c.self.inside.own c.self.inside.out c.self.inside.left c.self.inside.room c.args.a.now c.args.ts.0 c.self.invariant.within f).0 in
    let s = stored_of c.self.inside.site c.self.inside.held c.self.inside.own c.self.inside.left c.self.inside.room c.self.invariant p.facts c.node.ensures.kept in
    let a = c.args.a.now in
    rw (← c.self.view_is)
    (accept_did c.self.inside.site c.self.inside.held c.self.inside.own c.self.inside.out c.self.inside.left c.self.inside.room c.place.new.store c.send.new.out c.send_copies.new.out _ a c.args.ts.0
    (placed_merged c.self.inside.site (view_of c.self.inside.held c.self.inside.own.all) c.self.inside.held.store c.self.inside.held.cache s a c.args.ts.0 (named_writes c.self.inside.site a.tx a.part a.rs a.lc a.writes p.named) p.hosted c.place.new.store.versions c.place.ensures.versions)
    c.send.ensures c.send_copies.ensures (omega (arith, l)) c.self.invariant.within)
