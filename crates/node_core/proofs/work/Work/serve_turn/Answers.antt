use Rattle.std.proofs.Common.{subst, sym, ◌≡◌, true}
use Rattle.node_parts.specs.Holding.{view_of}
use Rattle.node_core.specs.Working.{HasFacts, WorkState}
use Rattle.node_core.proofs.Parts.PartChanges.{stored_of}
use Rattle.node_core.proofs.Parts.Showing.{shows_hosted}
use Rattle.str_scene.specs.Scenes.{hosts_key}
use Rattle.node_core.proofs.work.Work.serve_turn.Goals as goal

pub returns : goal.returns
returns c =
    let f = subst HasFacts (sym c.self.view_is) c.requires.facts in
    let s = stored_of c.self.inside.site c.self.inside.held c.self.inside.own c.self.inside.left c.self.inside.room c.self.invariant f.moment c.node.ensures.kept in
    let h = subst (λ (w : WorkState). hosts_key w.here c.args.key ≡ true) (sym c.self.view_is) c.requires.hosted in
    rw (← c.self.view_is)
    (c.serve.ensures.seen (view_of c.self.inside.held c.self.inside.own.all) (shows_hosted c.self.inside.site (view_of c.self.inside.held c.self.inside.own.all) c.self.inside.held.store c.self.inside.held.cache s c.args.key h))
