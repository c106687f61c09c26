use Rattle.std.proofs.Common.{drop, length, ◌++◌, ◌≡◌}
use Rattle.scene_gen.specs.Building.{numbers, with_keys}
use Rattle.scene_gen.proofs.made.all_numbered.Given as goal

abbrev pub invariant-loop-op : goal.invariant-loop-op
invariant-loop-op l = record {
  long : length l.ops ≡ l.op-index;
  built : with_keys (drop l.op-index l.script) l.build ≡ with_keys l.script l.fn.build;
  ops : l.ops ++ numbers l.build.keys.names (drop l.op-index l.script) ≡ numbers l.fn.build.keys.names l.script;
}
