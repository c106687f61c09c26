use Rattle.std.proofs.Common.{arith, subst, sym, ◌+◌, ◌<◌}
use Rattle.str_base.specs.declared.names.Version.{Version}
use Rattle.version_chain.specs.ChainLists.{Each, IsOther}
use Rattle.version_chain.proofs.Each.{each_insert, each_so}
use Rattle.chain_prune.specs.Hidden.{IsKeyBelow}
use Rattle.chain_prune.proofs.stores.tests.put.Goals as goal

pub insert-requires-clause-other : goal.insert-requires-clause-other
insert-requires-clause-other c =
    each_so (λ v. v.tx.seq < c.args.seq) (IsOther (record { 0 = c.args.key }) (record { node = record { 0 = 1 }; seq = c.args.seq })) c.args.store.now.versions
    (λ v h k n t. absurd (omega (arith, h, t))) c.requires.earlier

pub returns-clause-keys : goal.returns-clause-keys
returns-clause-keys c = subst (Each (IsKeyBelow 2)) (sym c.insert.ensures.versions) (each_insert (IsKeyBelow 2) _ c.args.store.now.versions c.requires.key c.requires.keys)

pub returns-clause-earlier : goal.returns-clause-earlier
returns-clause-earlier c =
    let later = each_so (λ (v : Version). v.tx.seq < c.args.seq) (λ (v : Version). v.tx.seq < c.args.seq + 1) c.args.store.now.versions (λ v h. omega (arith, h)) c.requires.earlier in
    subst (Each (λ v. v.tx.seq < c.args.seq + 1)) (sym c.insert.ensures.versions) (each_insert (λ v. v.tx.seq < c.args.seq + 1) _ c.args.store.now.versions (omega arith) later)
