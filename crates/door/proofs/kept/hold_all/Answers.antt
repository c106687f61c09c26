use Rattle.std.proofs.Common.{arith, ap, length, length-append, refl, sym, [], ◌∷◌, ◌++◌, ◌∙◌}
use Rattle.door.proofs.Following.{follows_all, follows_fewer, follows_held, follows_may, listed_more}
use Rattle.door.specs.Following.{board_next, extent_after, run_entries}
use Rattle.door.specs.declared.extents.Extent.{Extent}
use Rattle.door.proofs.kept.hold_all.Goals as goal

pub hold-requires : goal.hold-requires
hold-requires c =
    let w = c.args.cluster.now.world in
    let l = c.loop-entry in
    follows_may c.args.cluster.now.scene w l.writer.places (l.writer.list ++ l.writer.held) l.extent c.in-Some.entry l.invariant.follows
    (ap (λ (x : Extent). board_next x w) (sym l.invariant.further) ∙ (sym c.next.ensures.entry ∙ c.in-Some.is))

pub loop-entry-preserved : goal.loop-entry-preserved
loop-entry-preserved c =
    let w = c.args.cluster.now.world in
    let l = c.loop-entry in
    let v = c.hold.new.self in
    let e = c.in-Some.entry in
    record {
      board = c.hold.ensures.board ∙ l.invariant.board;
      list = c.hold.ensures.list ∙ l.invariant.list;
      follows = follows_held c.args.cluster.now.scene w l.writer.places v.places (l.writer.list ++ l.writer.held) (v.list ++ v.held) l.extent c.next.new.self e l.invariant.follows
          (ap (λ (x : Extent). board_next x w) (sym l.invariant.further) ∙ (sym c.next.ensures.entry ∙ c.in-Some.is))
          c.hold.ensures.places
          (listed_more l.writer.list v.list l.writer.held v.held e c.hold.ensures.list c.in_ok-hold.ensures.ok)
          (c.in-Some.ensures.more ∙ ap (λ (x : Extent). extent_after x e) l.invariant.further);
      further = refl;
    }

pub loop-entry-smaller : goal.loop-entry-smaller
loop-entry-smaller c =
    let w = c.args.cluster.now.world in
    let l = c.loop-entry in
    let v = c.hold.new.self in
    let e = c.in-Some.entry in
    let more = ap length (listed_more l.writer.list v.list l.writer.held v.held e c.hold.ensures.list c.in_ok-hold.ensures.ok) ∙ length-append (l.writer.list ++ l.writer.held) (e ∷ []) in
    let fewer = follows_fewer c.args.cluster.now.scene w l.writer.places (l.writer.list ++ l.writer.held) l.extent e l.invariant.follows
    (ap (λ (x : Extent). board_next x w) (sym l.invariant.further) ∙ (sym c.next.ensures.entry ∙ c.in-Some.is)) in
    omega (arith, more, fewer)

pub returns-clause-ok : goal.returns-clause-ok
returns-clause-ok c =
    let w = c.args.cluster.now.world in
    let l = c.loop-entry in
    follows_all c.args.cluster.now.scene w l.writer.places (l.writer.list ++ l.writer.held) l.extent l.invariant.follows
    (ap (λ (x : Extent). board_next x w) (sym l.invariant.further) ∙ (sym c.next.ensures.entry ∙ c.in_default.is))
