use Rattle.std.proofs.Common.{List, Vec, Global, ap, arith, length, subst, sym, ◌<◌, ◌∙◌}
use Rattle.dependency_set.specs.declared.snaps.OwnSnap.{OwnSnap}
use Rattle.dependency_set.specs.Snapshots.{Snap}
use Rattle.node_parts.proofs.Owning.ToldSnapshots.{again, again_next, again_other, again_there, within_next}
use Rattle.node_parts.proofs.own_list.tell_again.Goals.{then-own-seq, else-own-seq}
use Rattle.node_parts.proofs.own_list.tell_again.Goals as goal

pub loop-k-preserved : goal.loop-k-preserved
loop-k-preserved c =
    let now = c.loop-k.told.items in
    let old : OwnSnap = c.index_mut-own.result.now in
    let snap = c.args.snap.now in
    let told = c.args.told.now in
    let before : c.loop-k.k < length told.items = omega (arith, c.loop-k-test.true, c.len-k-end.ensures, told.ok.0) in
    let there = subst (λ (l : List OwnSnap). c.loop-k.k < length l) (sym c.loop-k.invariant) (within_next (again c.args.seq snap) told.items c.loop-k.k before) in
    elim c.if-own-seq.branch [
      | then-own-seq w ↦
          ap (λ (v : Vec OwnSnap Global). v.items) w.told-is
          ∙ again_next c.args.seq snap c.args.told.now.items now c.loop-k.k old (record { seq = old.seq; snap = w.copy-own.result }) c.loop-k.invariant there c.index_mut-own.ensures.value
          (ap (λ (s : Snap). record { seq = old.seq; snap = s }) w.copy-own.ensures ∙ sym (again_there c.args.seq snap old w.if-own-seq.true))
      | else-own-seq w ↦
          ap (λ (v : Vec OwnSnap Global). v.items) w.told-is
          ∙ again_next c.args.seq snap c.args.told.now.items now c.loop-k.k old old c.loop-k.invariant there c.index_mut-own.ensures.value
          (sym (again_other c.args.seq snap old w.if-own-seq.false))
    ]
