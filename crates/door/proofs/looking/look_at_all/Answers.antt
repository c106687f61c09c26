use Rattle.std.proofs.Common.{rules}
use Rattle.answer_board.proofs.Rising.{prefix_trans}
use Rattle.door.proofs.Searches.{set_found, set_full, full_before}
use Rattle.door.proofs.looking.look_at_all.Goals as goal

pub loop-index-preserved : goal.loop-index-preserved
loop-index-preserved g c =
    let ps = c.args.places.now in
    let fs = c.loop-index.found.items in
    let k = c.loop-index.index in
    let xs = c.loop-index.reader.list in
    let ys = c.look_once.new.reader.list in
    let zs = c.args.reader.now.list in (
      search rules,
      prefix_trans zs xs ys c.loop-index.invariant.1 c.look_once.ensures.grows,
      set_found ps fs k _ c.look_once.new.slot xs ys (search rules) c.look_once.ensures.grows c.loop-index.invariant.2 c.look_once.ensures.found,
      set_full ps fs k _ c.look_once.new.slot zs (search rules) c.loop-index.invariant.2.wide c.loop-index.invariant.3 (full_before _ _ zs xs c.loop-index.invariant.1 c.look_once.ensures.full),
    )
