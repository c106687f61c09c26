use Rattle.std.proofs.Common.{drop, length, sum_by, ◌+◌, ◌≡◌, ◌≤◌}
use Rattle.str_scene.specs.Scenes.{Session}
use Rattle.node_parts.specs.NodeScripts.{scripts_of}
use Rattle.node_parts.proofs.sites.scripts_of.Given as goal

abbrev pub invariant-loop-session : goal.invariant-loop-session
invariant-loop-session l = record {
  rest : l.count + scripts_of l.node (drop l.session-index l.sessions) ≡ scripts_of l.node l.sessions;
  few : l.count + sum_by (λ (s : Session). length s.txs) (drop l.session-index l.sessions) ≤ 1024;
}
