use Rattle.std.proofs.Common.{Some, [], arith, slice_get, subst, suc, zero, ℕ, ◌<◌, ◌∷◌, ◌≡◌}
use Rattle.str_base.proofs.Lists.{of_two}
use Rattle.str_base.specs.declared.names.Write.{Write}
use Rattle.local_certify.proofs.certs.tests.cert.Goals as goal

pub certify-requires-clause-keys : goal.certify-requires-clause-keys
certify-requires-clause-keys c =
    λ i w e.
    let k : w.key.0 < 2 = of_two c.write.result c.write-2.result (λ (x : Write). x.key.0 < 2) (omega (arith, c.write.ensures)) (omega (arith, c.write-2.ensures)) i w (rw c.both-writes.ensures at e) in
    omega (arith, c.requires.keys, k)

pub certify-requires-clause-marked : goal.certify-requires-clause-marked
certify-requires-clause-marked c =
    λ i w e.
    let k : w.key.0 < 2 = of_two c.write.result c.write-2.result (λ (x : Write). x.key.0 < 2) (omega (arith, c.write.ensures)) (omega (arith, c.write-2.ensures)) i w (rw c.both-writes.ensures at e) in
    omega (arith, c.requires.marked, k)
