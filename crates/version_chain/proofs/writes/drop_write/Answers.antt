use Rattle.std.proofs.Common.{ap, sym, ◌∙◌}
use Rattle.link_arena.specs.OneSide.{is_named}
use Rattle.version_chain.specs.ChainLists.{of_write}
use Rattle.version_chain.specs.Flat.{flat}
use Rattle.version_chain.proofs.Changed.{unlinked_chains}
use Rattle.version_chain.proofs.Dropping.{without_found, write_dropped}
use Rattle.version_chain.proofs.writes.drop_write.Goals as goal

pub returns-in-Some-clause-chains : goal.returns-in-Some-clause-chains
returns-in-Some-clause-chains c =
    let u = c.unlink.ensures in
    unlinked_chains c.args.arena.now c.unlink.new.self c.in-Some.slot.0 c.unlink.result c.requires u.lists (sym u.value) u.at u.key_list

pub returns-in-Some-clause-versions : goal.returns-in-Some-clause-versions
returns-in-Some-clause-versions c =
    let u = c.unlink.ensures in
    let fits = ap (λ o. is_named (of_write c.args.key) c.args.tx o) u.value ∙ c.in-Some.ensures.found in
    write_dropped c.args.arena.now c.unlink.new.self c.args.key c.args.tx c.in-Some.slot.0 c.unlink.result c.requires u.lists (sym u.value) fits u.at u.key_list

pub returns-in_default-clause-versions : goal.returns-in_default-clause-versions
returns-in_default-clause-versions c = without_found (of_write c.args.key c.args.tx) (flat c.args.arena.now) c.in_default.ensures.none
