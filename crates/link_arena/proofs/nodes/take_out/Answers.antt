use Rattle.slab.specs.Slab.{ContainsKey}
use Rattle.std.proofs.Common.{Option, ap, sym, true, ℕ, ◌∙◌, ◌≡◌}
use Rattle.link_arena.specs.Rows.{is_in, over}
use Rattle.link_arena.specs.Sides.{after_at, after_of, before_at, before_of, row_of}
use Rattle.link_arena.proofs.RowLemmas.{neighbours_have, over_apart, take_from}
use Rattle.link_arena.proofs.nodes.take_out.Goals as goal

pub tie-requires-clause-left : goal.tie-requires-clause-left
tie-requires-clause-left c =
    let f = after_at c.args.side c.args.nodes.now in
    let b = before_at c.args.side c.args.nodes.now in
    let e : c.side_link-links.result.before ≡ b c.args.slot = ap (λ l. l.before) c.side_link-links.ensures ∙ ap (λ n. before_of c.args.side n) (sym c.read.ensures) in
    rw e (neighbours_have (λ s. ContainsKey c.args.nodes.now s) f b c.args.ends (row_of c.args.side c.args.nodes.now c.args.ends) c.args.slot c.requires.row c.requires.slot c.requires.there).0

pub tie-requires-clause-right : goal.tie-requires-clause-right
tie-requires-clause-right c =
    let f = after_at c.args.side c.args.nodes.now in
    let b = before_at c.args.side c.args.nodes.now in
    let e : c.side_link-links.result.after ≡ f c.args.slot = ap (λ l. l.after) c.side_link-links.ensures ∙ ap (λ n. after_of c.args.side n) (sym c.read.ensures) in
    rw e (neighbours_have (λ s. ContainsKey c.args.nodes.now s) f b c.args.ends (row_of c.args.side c.args.nodes.now c.args.ends) c.args.slot c.requires.row c.requires.slot c.requires.there).1

pub returns-clause-row : goal.returns-clause-row
returns-clause-row c =
    let f = after_at c.args.side c.args.nodes.now in
    let b = before_at c.args.side c.args.nodes.now in
    let s = c.args.slot in
    let l : c.side_link-links.result.before ≡ b s = ap (λ l. l.before) c.side_link-links.ensures ∙ ap (λ n. before_of c.args.side n) (sym c.read.ensures) in
    let n : c.side_link-links.result.after ≡ f s = ap (λ l. l.after) c.side_link-links.ensures ∙ ap (λ n. after_of c.args.side n) (sym c.read.ensures) in
    rw (c.with_less.ensures, l, n)
    (take_from f b (after_at c.args.side c.tie.new.nodes) (before_at c.args.side c.tie.new.nodes) c.args.ends (row_of c.args.side c.args.nodes.now c.args.ends) s c.requires.row c.requires.slot
    (λ u. c.tie.ensures.after u ∙ ap (λ (o : Option ℕ). over o c.side_link-links.result.after f u) l ∙ ap (λ (o : Option ℕ). over (b s) o f u) n)
    (λ u. c.tie.ensures.before u ∙ ap (λ (o : Option ℕ). over o c.side_link-links.result.before b u) n ∙ ap (λ (o : Option ℕ). over (f s) o b u) l))

pub returns-clause-outside : goal.returns-clause-outside
returns-clause-outside c =
    let f = after_at c.args.side c.args.nodes.now in
    let b = before_at c.args.side c.args.nodes.now in
    let s = c.args.slot in
    let ss = row_of c.args.side c.args.nodes.now c.args.ends in
    let l : c.side_link-links.result.before ≡ b s = ap (λ l. l.before) c.side_link-links.ensures ∙ ap (λ n. before_of c.args.side n) (sym c.read.ensures) in
    let n : c.side_link-links.result.after ≡ f s = ap (λ l. l.after) c.side_link-links.ensures ∙ ap (λ n. after_of c.args.side n) (sym c.read.ensures) in
    let near = neighbours_have (λ v. is_in v ss ≡ true) f b c.args.ends ss s c.requires.row c.requires.slot (λ v i. i) in
    λ u o. record {
      after = c.tie.ensures.after u ∙ over_apart f c.side_link-links.result.before c.side_link-links.result.after ss u (rw l near.0) o;
      before = c.tie.ensures.before u ∙ over_apart b c.side_link-links.result.after c.side_link-links.result.before ss u (rw n near.1) o;
    }
