use Rattle.std.proofs.Common.{Option, false, subst, ◌≡◌, ℕ, IsNone}
use Rattle.link_arena.specs.declared.nodes.Ends.{Ends}
use Rattle.link_arena.specs.Rows.{is_in, taken}
use Rattle.link_arena.specs.Sides.{HasRow, SameOutside, row_of}
use Rattle.link_arena.proofs.HeadLemmas.{lookup_stored}
use Rattle.link_arena.proofs.SideLemmas.{side_left}
use Rattle.link_arena.proofs.lists.leave.Goals as goal

pub returns-clause-side : goal.returns-clause-side
returns-clause-side g c =
    let old = c.args.nodes.now in
    let new = c.take_out-ends.new.nodes in
    let slot = c.args.slot in
    let row = subst (λ (e : Option Ends). HasRow c.args.side new c.take_out-ends.result (taken slot (row_of c.args.side old e))) c.find-was.ensures c.take_out-ends.ensures.row in
    let outside = subst (λ (e : Option Ends). (u : ℕ) → is_in u (row_of c.args.side old e) ≡ false → SameOutside c.args.side old new u) c.find-was.ensures c.take_out-ends.ensures.outside in
    let all = side_left g.N.Name.below g.N.Name.names g.met.N.Name.order g.met.N.Name.one c.args.side old new c.args.heads.now.items slot c.args.name c.take_out-ends.result
    c.requires.side c.requires.named row outside c.take_out-ends.ensures.version in
    rw c.renew.ensures.items all.0

pub returns-clause-row : goal.returns-clause-row
returns-clause-row g c =
    let old = c.args.nodes.now in
    let new = c.take_out-ends.new.nodes in
    let slot = c.args.slot in
    let row = subst (λ (e : Option Ends). HasRow c.args.side new c.take_out-ends.result (taken slot (row_of c.args.side old e))) c.find-was.ensures c.take_out-ends.ensures.row in
    let outside = subst (λ (e : Option Ends). (u : ℕ) → is_in u (row_of c.args.side old e) ≡ false → SameOutside c.args.side old new u) c.find-was.ensures c.take_out-ends.ensures.outside in
    let all = side_left g.N.Name.below g.N.Name.names g.met.N.Name.order g.met.N.Name.one c.args.side old new c.args.heads.now.items slot c.args.name c.take_out-ends.result
    c.requires.side c.requires.named row outside c.take_out-ends.ensures.version in
    rw c.renew.ensures.items all.1

pub returns-clause-others : goal.returns-clause-others
returns-clause-others g c =
    let old = c.args.nodes.now in
    let new = c.take_out-ends.new.nodes in
    let slot = c.args.slot in
    let row = subst (λ (e : Option Ends). HasRow c.args.side new c.take_out-ends.result (taken slot (row_of c.args.side old e))) c.find-was.ensures c.take_out-ends.ensures.row in
    let outside = subst (λ (e : Option Ends). (u : ℕ) → is_in u (row_of c.args.side old e) ≡ false → SameOutside c.args.side old new u) c.find-was.ensures c.take_out-ends.ensures.outside in
    let all = side_left g.N.Name.below g.N.Name.names g.met.N.Name.order g.met.N.Name.one c.args.side old new c.args.heads.now.items slot c.args.name c.take_out-ends.result
    c.requires.side c.requires.named row outside c.take_out-ends.ensures.version in
    rw c.renew.ensures.items all.2

pub returns-clause-gone : goal.returns-clause-gone
returns-clause-gone g c none =
    let e = lookup_stored g.N.Name.below g.met.N.Name.order c.args.name c.take_out-ends.result c.args.heads.now.items c.requires.side.rise in
    c.renew.ensures.gone (subst (λ (o : Option Ends). IsNone o) e (rw c.renew.ensures.items at none))
