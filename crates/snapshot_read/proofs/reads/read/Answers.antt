use Rattle.snapshot_read.proofs.Finding.{gives_away, gives_none, gives_pre, gives_version, visible_told}
use Rattle.snapshot_read.specs.Turning.{turn_of}
use Rattle.snapshot_read.proofs.reads.read.Goals as goal

pub returns-in-Some : goal.returns-in-Some
returns-in-Some c =
    gives_pre c.args.node c.args.map.now c.args.own.now c.args.store.now.versions c.args.cache.now.versions c.args.snap.now c.args.key c.part_of-part.result c.hosts-is_hosted.result
    c.part_of-part.ensures.value c.hosts-is_hosted.ensures c.rs-rs.result c.rs-rs.ensures c.in-Some.field-0 c.in-Some.ensures

pub read_version-requires-clause-origin : goal.read_version-requires-clause-origin
read_version-requires-clause-origin c =
    let one = visible_told c.args.own.now c.args.snap.now.rs c.hosts-is_hosted.result c.args.store.now.versions c.args.cache.now.versions c.args.key c.rs-rs.result c.in-Some-last_visible.version
    c.requires.told c.rs-rs.ensures c.in-Some-last_visible.ensures in
    one.0.origin

pub read_version-requires-clause-others : goal.read_version-requires-clause-others
read_version-requires-clause-others c =
    let one = visible_told c.args.own.now c.args.snap.now.rs c.hosts-is_hosted.result c.args.store.now.versions c.args.cache.now.versions c.args.key c.rs-rs.result c.in-Some-last_visible.version
    c.requires.told c.rs-rs.ensures c.in-Some-last_visible.ensures in
    λ l. one.0.others l one.1

pub returns-in-Some-last_visible : goal.returns-in-Some-last_visible
returns-in-Some-last_visible c =
    gives_version c.args.node c.args.map.now c.args.own.now c.args.store.now.versions c.args.cache.now.versions c.args.snap.now c.args.key c.part_of-part.result c.hosts-is_hosted.result
    c.part_of-part.ensures.value c.hosts-is_hosted.ensures c.rs-rs.result c.rs-rs.ensures c.in-Some-last_visible.version (turn_of c.read_version.result) c.in_default.ensures
    c.in-Some-last_visible.ensures c.read_version.ensures

pub returns-in-None : goal.returns-in-None
returns-in-None c =
    gives_none c.args.node c.args.map.now c.args.own.now c.args.store.now.versions c.args.cache.now.versions c.args.snap.now c.args.key c.part_of-part.result c.hosts-is_hosted.result
    c.part_of-part.ensures.value c.hosts-is_hosted.ensures c.rs-rs.result c.rs-rs.ensures (turn_of c.plain.result) c.copy.result c.in_default.ensures c.in-None.ensures c.if-is_hosted.true
    c.copy.ensures c.plain.ensures.turn

pub returns-in-None-2 : goal.returns-in-None-2
returns-in-None-2 c =
    gives_away c.args.node c.args.map.now c.args.own.now c.args.store.now.versions c.args.cache.now.versions c.args.snap.now c.args.key c.part_of-part.result c.hosts-is_hosted.result
    c.part_of-part.ensures.value c.hosts-is_hosted.ensures c.rs-rs.result c.rs-rs.ensures c.master.result c.in_default.ensures c.in-None.ensures c.if-is_hosted.false c.master.ensures
