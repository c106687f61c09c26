use Rattle.std.proofs.Common.{List, ap, arith, if◌then◌else◌, is_ok, nat_lt, sym, ℕ, ◌∙◌}
use Rattle.std.specs.List.{insert, position_or_len}
use Rattle.dependency_set.specs.declared.snaps.OwnSnap.{OwnSnap}
use Rattle.node_parts.proofs.Owning.ToldSnapshots.{also_inserts, place_fits}
use Rattle.node_parts.proofs.own_list.tell.Goals as goal

pub insert-requires : goal.insert-requires
insert-requires c =
    let q = c.place_above-k.ensures ∙ ap (position_or_len (λ (y : OwnSnap). nat_lt c.args.own.seq y.seq)) c.as_slice.ensures.value in
    omega (arith, q, place_fits (λ (y : OwnSnap). nat_lt c.args.own.seq y.seq) c.args.told.now.items, c.args.told.now.ok.0)

pub returns-clause-told : goal.returns-clause-told
returns-clause-told c =
    let told : List OwnSnap = c.args.told.now.items in
    let q = c.place_above-k.ensures ∙ ap (position_or_len (λ (y : OwnSnap). nat_lt c.args.own.seq y.seq)) c.as_slice.ensures.value in
    c.insert.ensures.items
    ∙ (ap (λ r. if is_ok r then insert told c.place_above-k.result c.args.own else told) c.in-Ok.is
    ∙ (ap (λ (k : ℕ). insert told k c.args.own) q ∙ sym (also_inserts c.args.own told)))
