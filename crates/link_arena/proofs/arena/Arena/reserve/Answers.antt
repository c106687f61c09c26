use Rattle.std.proofs.Common.{ap, arith, refl, ◌≡◌}
use Rattle.slab.specs.Slab.{Slab, slab_len}
use Rattle.link_arena.specs.declared.nodes.Node.{Node}
use Rattle.link_arena.proofs.ArenaLemmas.{arena_grown}
use Rattle.link_arena.proofs.arena.Arena.reserve.Goals as goal

pub invariant_of-self : goal.invariant_of-self
invariant_of-self c =
    let l : slab_len c.reserve.new.self ≡ slab_len c.self.inside.nodes = ap (λ (n : Slab Node). slab_len n) c.reserve.ensures.rest_kept in
    arena_grown c.self.inside.nodes c.reserve.new.self c.self.inside.keys c.self.inside.keys c.self.inside.txs c.self.inside.txs c.self.inside.spare c.self.inside.spare c.self.invariant c.reserve.ensures.rest_kept refl refl (omega (arith, l)) (omega arith) (omega arith)

pub invariant_of-self-in_err-reserve-2 : goal.invariant_of-self-in_err-reserve-2
invariant_of-self-in_err-reserve-2 c =
    let l : slab_len c.reserve.new.self ≡ slab_len c.self.inside.nodes = ap (λ (n : Slab Node). slab_len n) c.reserve.ensures.rest_kept in
    arena_grown c.self.inside.nodes c.reserve.new.self c.self.inside.keys c.reserve-then-self-n.new.self c.self.inside.txs c.self.inside.txs c.self.inside.spare c.self.inside.spare c.self.invariant c.reserve.ensures.rest_kept c.reserve-then-self-n.ensures.items refl (omega (arith, l)) (omega arith) (omega arith)

pub invariant_of-self-in_err-reserve-3 : goal.invariant_of-self-in_err-reserve-3
invariant_of-self-in_err-reserve-3 c =
    let l : slab_len c.reserve.new.self ≡ slab_len c.self.inside.nodes = ap (λ (n : Slab Node). slab_len n) c.reserve.ensures.rest_kept in
    arena_grown c.self.inside.nodes c.reserve.new.self c.self.inside.keys c.reserve-then-self-n.new.self c.self.inside.txs c.reserve-then-self-n-2.new.self c.self.inside.spare c.self.inside.spare c.self.invariant c.reserve.ensures.rest_kept c.reserve-then-self-n.ensures.items c.reserve-then-self-n-2.ensures.items (omega (arith, l)) (omega arith) (omega arith)

pub invariant_of-self-then-self-n : goal.invariant_of-self-then-self-n
invariant_of-self-then-self-n c =
    let l : slab_len c.reserve.new.self ≡ slab_len c.self.inside.nodes = ap (λ (n : Slab Node). slab_len n) c.reserve.ensures.rest_kept in
    arena_grown c.self.inside.nodes c.reserve.new.self c.self.inside.keys c.reserve-then-self-n.new.self c.self.inside.txs c.reserve-then-self-n-2.new.self c.self.inside.spare c.args.n c.self.invariant c.reserve.ensures.rest_kept c.reserve-then-self-n.ensures.items c.reserve-then-self-n-2.ensures.items (omega (arith, l, c.in_ok-reserve.ensures.room)) (omega (arith, c.in_ok-reserve-2.ensures.ok)) (omega (arith, c.in_ok-reserve-3.ensures.ok))
