use Rattle.slab.specs.Slab.{ContainsKey}
use Rattle.std.proofs.Common.{true, Some, ◌∙◌, ◌≡◌}
use Rattle.link_arena.specs.Rows.{is_in, over}
use Rattle.link_arena.specs.Sides.{after_at, before_at, row_of}
use Rattle.link_arena.proofs.RowLemmas.{left_has, over_apart, over_other, over_under, place_has, put_in}
use Rattle.link_arena.proofs.nodes.link_in.Goals as goal

pub tie-requires-clause-left : goal.tie-requires-clause-left
tie-requires-clause-left c =
    let f = after_at c.args.side c.args.nodes.now in
    let b = before_at c.args.side c.args.nodes.now in
    let h = left_has (λ s. ContainsKey c.args.nodes.now s) f b c.args.ends (row_of c.args.side c.args.nodes.now c.args.ends) c.args.next c.requires.row c.requires.place c.requires.there in
    rw c.slot_before-before.ensures h

pub returns-clause-row : goal.returns-clause-row
returns-clause-row c =
    let f = after_at c.args.side c.args.nodes.now in
    let b = before_at c.args.side c.args.nodes.now in
    let left = c.slot_before-before.result in
    let s = c.args.slot in
    let t = c.args.next in
    rw c.with_more.ensures
    (put_in f b (after_at c.args.side c.tie-2.new.nodes) (before_at c.args.side c.tie-2.new.nodes) c.args.ends (row_of c.args.side c.args.nodes.now c.args.ends) t left s c.requires.row c.requires.place
    c.requires.apart c.slot_before-before.ensures
    (λ u. c.tie-2.ensures.after u ∙ over_under (Some s) t (over left (Some s) f) (after_at c.args.side c.tie.new.nodes) u (c.tie.ensures.after u))
    (λ u. c.tie-2.ensures.before u ∙ over_under t (Some s) (over (Some s) left b) (before_at c.args.side c.tie.new.nodes) u (c.tie.ensures.before u)))

pub returns-clause-outside : goal.returns-clause-outside
returns-clause-outside c =
    let f = after_at c.args.side c.args.nodes.now in
    let b = before_at c.args.side c.args.nodes.now in
    let left = c.slot_before-before.result in
    let s = c.args.slot in
    let t = c.args.next in
    let ss = row_of c.args.side c.args.nodes.now c.args.ends in
    let left_in = rw (← c.slot_before-before.ensures) at (left_has (λ v. is_in v ss ≡ true) f b c.args.ends ss t c.requires.row c.requires.place (λ v i. i)) in
    let next_in = place_has (λ v. is_in v ss ≡ true) ss t c.requires.place (λ v i. i) in
    λ u n d. record {
      after = c.tie-2.ensures.after u ∙ over_other (after_at c.args.side c.tie.new.nodes) s t u d ∙ c.tie.ensures.after u ∙ over_apart f left (Some s) ss u left_in n;
      before = c.tie-2.ensures.before u ∙ over_apart (before_at c.args.side c.tie.new.nodes) t (Some s) ss u next_in n ∙ c.tie.ensures.before u ∙ over_other b s left u d;
    }
