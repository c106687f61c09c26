use Rattle.answer_board.proofs.Rising.{prefix_self, prefix_trans}
use Rattle.door.proofs.EventsDone.{clients_all, clients_more, clients_none}
use Rattle.std.proofs.Common.{List, Some, ap, arith, length, refl, slice_get, sym, ◌∙◌}
use Rattle.std.proofs.lemmas.Option.{slice_get_read}
use Rattle.str_scene.specs.Scenes.{Session}
use Rattle.door.proofs.workers.clients.Goals as goal

pub loop-i-init : goal.loop-i-init
loop-i-init g c = record {
  node = refl;
  places = refl;
  board = c.requires.board;
  grows = prefix_self _;
  kept = c.requires.kept;
  acted = clients_none _ _ _;
}

pub loop-i-preserved : goal.loop-i-preserved
loop-i-preserved g c =
    let l = c.loop-i in
    let e = c.client.ensures in
    let old = c.loop-i.reader.list in
    let new = c.client.new.reader.list in
    record {
      node = e.node ∙ l.invariant.node;
      places = e.places ∙ l.invariant.places;
      board = e.board;
      grows = prefix_trans c.args.reader.now.list old new l.invariant.grows e.grows;
      kept = e.kept;
      acted = clients_more old new c.args.scene.now c.args.search.now.node l.i _ c.index-sessions-i.result e.grows l.invariant.acted
          (ap (λ (ss : List Session). slice_get ss l.i) (sym c.sessions.ensures.value) ∙ slice_get_read _ _ l.i c.index-sessions-i.result refl (let n = ap length (c.sessions.ensures.value ∙ sym c.sessions-i-end.ensures.value) in omega (arith, n)) c.index-sessions-i.is)
          (omega arith)
          (λ same. c.in_ok-client.ensures.acted (same ∙ sym l.invariant.node));
    }

pub returns-clause-acted : goal.returns-clause-acted
returns-clause-acted g c =
    clients_all c.loop-i.reader.list c.args.scene.now c.args.search.now.node c.loop-i.i c.loop-i.invariant.acted (let n = ap length c.sessions-i-end.ensures.value in omega (arith, n))
