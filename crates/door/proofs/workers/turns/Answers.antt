use Rattle.answer_board.proofs.Rising.{prefix_trans}
use Rattle.door.proofs.EventsDone.{acted_done, clients_grow, delivers_more}
use Rattle.door.specs.Searching.{Acted}
use Rattle.door.specs.Working.{HasClients, delivery}
use Rattle.std.proofs.Common.{ap, arith, subst, ℕ, ◌≡◌, ◌∙◌}
use Rattle.str_base.specs.declared.names.NodeId.{NodeId}
use Rattle.str_scene.specs.declared.names.Event.{Event}
use Rattle.door.proofs.workers.turns.Goals as goal

pub loop-turn-preserved : goal.loop-turn-preserved
loop-turn-preserved g c =
    let l = c.loop-turn in
    let e = c.act.ensures in
    let first = c.args.reader.now.list in
    let old = c.loop-turn.reader.list in
    let mid = c.clients.new.reader.list in
    let new = c.act.new.reader.list in
    let nodes = c.args.scene.now.nodes in
    let node = c.args.search.now.node in
    let grows = prefix_trans old mid new c.clients.ensures.grows e.grows in
    let here = c.clients.ensures.node ∙ l.invariant.node in
    let same = c.delivery.ensures ∙ ap (λ (n : NodeId). delivery nodes n l.turn) here in
    let acted = subst (λ (v : Event). Acted c.act.new.search.places.items c.act.new.search.found.items new v) same c.in_ok-act.ensures.acted in
    record {
      node = e.node ∙ here;
      places = e.places ∙ (c.clients.ensures.places ∙ l.invariant.places);
      board = e.board;
      grows = prefix_trans first old new l.invariant.grows grows;
      kept = e.kept;
      delivers = delivers_more old new nodes node l.turn grows l.invariant.delivers (acted_done _ _ new (delivery nodes node l.turn) acted);
      clients = λ _. clients_grow mid new c.args.scene.now node e.grows (subst (λ (n : NodeId). HasClients mid c.args.scene.now n) l.invariant.node c.in_ok-clients.ensures.acted);
      last = λ t q. (let turn : l.turn ≡ t = omega (arith, q) in subst (λ (k : ℕ). Acted c.act.new.search.places.items c.act.new.search.found.items new (delivery nodes node k)) turn acted);
    }
