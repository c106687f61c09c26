use Rattle.answer_board.proofs.Rising.{prefix_trans}
use Rattle.door.proofs.Searches.{all_found_grow, full_to_before}
use Rattle.door.specs.Searching.{FoundAt, FullTo}
use Rattle.std.proofs.Common.{List, length, subst, sym}
use Rattle.str_scene.specs.declared.names.TxPlace.{TxPlace}
use Rattle.door.proofs.workers.act.Goals as goal

pub look_at_all-requires : goal.look_at_all-requires
look_at_all-requires g c =
    let ps = c.args.search.now.places.items in
    let fs = c.args.search.now.found.items in
    let ys = c.learn.new.self.list in
    record {
      kept = subst (λ (l : List TxPlace). FoundAt l fs ys) (sym c.as_slice.ensures.value) (all_found_grow ps fs c.args.reader.now.list ys c.learn.ensures.grows c.requires.kept);
    }

pub returns-clause-acted : goal.returns-clause-acted
returns-clause-acted g c =
    let told = c.in_ok-told.told.shown.list in
    let fs = c.look_at_all.new.found.items in
    let ys = c.learn.new.self.list in
    record {
      told = told;
      idle = c.in_ok-told.told.idle;
      ends = c.in_ok-told.ensures.last;
      within = prefix_trans told ys c.look_at_all.new.reader.list c.learn.ensures.told c.look_at_all.ensures.grows;
      all = full_to_before _ _ fs told ys c.learn.ensures.told (subst (λ (l : List TxPlace). FullTo (length l) l fs ys) c.as_slice.ensures.value c.look_at_all.ensures.all);
    }
