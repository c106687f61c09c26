use Rattle.std.proofs.Common.{Option, Some, false, subst, ◌≡◌, ◌≢◌, ℕ}
use Rattle.link_arena.specs.declared.nodes.Ends.{Ends}
use Rattle.link_arena.specs.Rows.{is_in, put_before}
use Rattle.link_arena.specs.Sides.{HasRow, SameOutside, row_of}
use Rattle.link_arena.proofs.SideLemmas.{side_entered}
use Rattle.link_arena.proofs.lists.enter.Goals as goal

pub returns-clause-side : goal.returns-clause-side
returns-clause-side g c =
    let old = c.args.nodes.now in
    let new = c.link_in-ends.new.nodes in
    let slot = c.args.slot in
    let row = subst (λ (e : Option Ends). HasRow c.args.side new (Some c.link_in-ends.result) (put_before c.args.next slot (row_of c.args.side old e))) c.find-was.ensures c.link_in-ends.ensures.row in
    let outside = subst (λ (e : Option Ends). (u : ℕ) → is_in u (row_of c.args.side old e) ≡ false → u ≢ slot → SameOutside c.args.side old new u) c.find-was.ensures c.link_in-ends.ensures.outside in
    let all = side_entered g.N.Name.below g.N.Name.names g.met.N.Name.order g.met.N.Name.one c.args.side old new c.args.heads.now.items slot c.args.name c.args.next c.link_in-ends.result
    c.requires.side c.requires.named row outside c.link_in-ends.ensures.version in
    rw c.set.ensures.items all.0

pub returns-clause-row : goal.returns-clause-row
returns-clause-row g c =
    let old = c.args.nodes.now in
    let new = c.link_in-ends.new.nodes in
    let slot = c.args.slot in
    let row = subst (λ (e : Option Ends). HasRow c.args.side new (Some c.link_in-ends.result) (put_before c.args.next slot (row_of c.args.side old e))) c.find-was.ensures c.link_in-ends.ensures.row in
    let outside = subst (λ (e : Option Ends). (u : ℕ) → is_in u (row_of c.args.side old e) ≡ false → u ≢ slot → SameOutside c.args.side old new u) c.find-was.ensures c.link_in-ends.ensures.outside in
    let all = side_entered g.N.Name.below g.N.Name.names g.met.N.Name.order g.met.N.Name.one c.args.side old new c.args.heads.now.items slot c.args.name c.args.next c.link_in-ends.result
    c.requires.side c.requires.named row outside c.link_in-ends.ensures.version in
    rw c.set.ensures.items all.1

pub returns-clause-others : goal.returns-clause-others
returns-clause-others g c =
    let old = c.args.nodes.now in
    let new = c.link_in-ends.new.nodes in
    let slot = c.args.slot in
    let row = subst (λ (e : Option Ends). HasRow c.args.side new (Some c.link_in-ends.result) (put_before c.args.next slot (row_of c.args.side old e))) c.find-was.ensures c.link_in-ends.ensures.row in
    let outside = subst (λ (e : Option Ends). (u : ℕ) → is_in u (row_of c.args.side old e) ≡ false → u ≢ slot → SameOutside c.args.side old new u) c.find-was.ensures c.link_in-ends.ensures.outside in
    let all = side_entered g.N.Name.below g.N.Name.names g.met.N.Name.order g.met.N.Name.one c.args.side old new c.args.heads.now.items slot c.args.name c.args.next c.link_in-ends.result
    c.requires.side c.requires.named row outside c.link_in-ends.ensures.version in
    rw c.set.ensures.items all.2
