use Rattle.answer_board.specs.declared.entries.Entry.{Entry}
use Rattle.door.proofs.FoundAnswers.{among_all, found_before, found_own, found_rise, found_stand}
use Rattle.door.proofs.Searches.{all_found_grow}
use Rattle.door.specs.Acting.{AllStand}
use Rattle.door.specs.Places.{PlacesRise, own_places}
use Rattle.door.specs.Searching.{Acted, FoundAt, found_among}
use Rattle.door.specs.Working.{AreFound, AreOwn, delivery}
use Rattle.std.proofs.Common.{List, map, refl, subst, sym, ◌≡◌, ◌∙◌}
use Rattle.str_base.specs.declared.names.NodeId.{NodeId}
use Rattle.str_model.specs.declared.messages.Answer.{Answer}
use Rattle.str_scene.specs.declared.names.TxPlace.{TxPlace}
use Rattle.door.proofs.workers.work.Goals as goal

pub turns-requires-clause-kept : goal.turns-requires-clause-kept
turns-requires-clause-kept g c = all_found_grow _ _ _ c.args.reader.now.list (c.args.reader.now.list, refl) c.in-Ok.ensures.found

pub returns-clause-stand : goal.returns-clause-stand
returns-clause-stand g c =
    let fs = c.turns.new.search.found.items in
    let list = c.turns.new.reader.list in
    let all : c.push_all_found.new.answers.items ≡ found_among fs = among_all _ _ _ fs c.push_all_found.ensures (c.reserve.ensures.items ∙ c.new-answers.ensures.items) c.as_slice.ensures.value in
    subst (λ (l : List Answer). AllStand list l) (sym all) (found_stand c.turns.new.search.places.items fs list c.turns.ensures.kept)

pub returns-clause-own : goal.returns-clause-own
returns-clause-own g c =
    let fs = c.turns.new.search.found.items in
    let list = c.turns.new.reader.list in
    let scene = c.args.scene.now in
    let all : c.push_all_found.new.answers.items ≡ found_among fs = among_all _ _ _ fs c.push_all_found.ensures (c.reserve.ensures.items ∙ c.new-answers.ensures.items) c.as_slice.ensures.value in
    let kept = subst (λ (ps : List TxPlace). FoundAt ps fs list) (c.turns.ensures.places ∙ c.in-Ok.ensures.places) c.turns.ensures.kept in
    subst (λ (l : List Answer). AreOwn scene c.args.node l) (sym all) (found_own scene c.args.node fs list kept)

pub returns-clause-all : goal.returns-clause-all
returns-clause-all g c =
    let fs = c.turns.new.search.found.items in
    let list = c.turns.new.reader.list in
    let scene = c.args.scene.now in
    let own = c.turns.ensures.places ∙ c.in-Ok.ensures.places in
    let all : c.push_all_found.new.answers.items ≡ found_among fs = among_all _ _ _ fs c.push_all_found.ensures (c.reserve.ensures.items ∙ c.new-answers.ensures.items) c.as_slice.ensures.value in
    let kept = subst (λ (ps : List TxPlace). FoundAt ps fs list) own c.turns.ensures.kept in
    let last = subst (λ (n : NodeId). Acted c.turns.new.search.places.items fs list (delivery scene.nodes n 7)) c.in-Ok.ensures.node c.in_ok-turns.ensures.last in
    let acted = subst (λ (ps : List TxPlace). Acted ps fs list (delivery scene.nodes c.args.node 7)) own last in
    subst (λ (l : List Answer). AreFound scene c.args.node list l) (sym all) (found_before scene c.args.node fs list (delivery scene.nodes c.args.node 7) kept acted)

pub returns-clause-once : goal.returns-clause-once
returns-clause-once g c =
    let fs = c.turns.new.search.found.items in
    let list = c.turns.new.reader.list in
    let all : c.push_all_found.new.answers.items ≡ found_among fs = among_all _ _ _ fs c.push_all_found.ensures (c.reserve.ensures.items ∙ c.new-answers.ensures.items) c.as_slice.ensures.value in
    let kept = subst (λ (ps : List TxPlace). FoundAt ps fs list) (c.turns.ensures.places ∙ c.in-Ok.ensures.places) c.turns.ensures.kept in
    subst (λ (l : List Answer). PlacesRise (map (λ (a : Answer). a.place) l)) (sym all) (found_rise c.args.scene.now c.args.node fs list kept)
