use Rattle.std.proofs.Common.{arith, leb, rules}
use Rattle.std.proofs.lemmas.List.Sorted.{IsPartitionPoint-from_clause, IsPartitionedBy-leb}
use Rattle.history_audit.proofs.LoopSteps.{none_below, some_below}
use Rattle.history_audit.proofs.RisingNumbers.{rising_by}
use Rattle.history_audit.specs.declared.ledgers.Stamped.{Stamped}
use Rattle.history_audit.proofs.ledgers.value_below.Goals as goal

pub returns-then-below-eq0 : goal.returns-then-below-eq0
returns-then-below-eq0 c =
    let parted = IsPartitionedBy-leb (λ (s : Stamped). s.fc.0) _ c.args.rs.0 (rising_by (λ (s : Stamped). s.fc.0) _ c.requires) in
    let point = IsPartitionPoint-from_clause (λ (s : Stamped). leb s.fc.0 c.args.rs.0) _ _ c.partition_point-below.ensures.partitioned parted (λ a r q k. search rules) in
    none_below c.args.values.now c.args.rs.0 c.partition_point-below.result c.if-below-eq0.true point.1

pub returns : goal.returns
returns c =
    let parted = IsPartitionedBy-leb (λ (s : Stamped). s.fc.0) _ c.args.rs.0 (rising_by (λ (s : Stamped). s.fc.0) _ c.requires) in
    let point = IsPartitionPoint-from_clause (λ (s : Stamped). leb s.fc.0 c.args.rs.0) _ _ c.partition_point-below.ensures.partitioned parted (λ a r q k. search rules) in
    some_below c.args.values.now c.args.rs.0 c.partition_point-below.result _ c.if-below-eq0.false c.partition_point-below.ensures.bound (λ k d l. point.0 k d (omega arith) l) point.1
