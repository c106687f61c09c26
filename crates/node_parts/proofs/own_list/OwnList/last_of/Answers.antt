use Rattle.std.proofs.Common.{arith, get_or, subst, sym, ℕ, ◌≡◌}
use Rattle.node_parts.proofs.Owning.LastPlaces.{none_at_zero, none_past}
use Rattle.node_parts.proofs.Owning.NamesKept.{owns}
use Rattle.node_parts.proofs.own_list.OwnList.last_of.Goals.{then-s-len-via-then-s-len, then-s-len-via-else-s-len+then-index-eq0}
use Rattle.node_parts.proofs.own_list.OwnList.last_of.Goals as goal

pub returns-then-s-len : goal.returns-then-s-len
returns-then-s-len c =
    let last = c.self.inside.last in
    let own = owns c.self.inside.all.items in
    let h = c.self.invariant.0 in
    rw (← c.self.view_is)
    (sym (elim c.then-s-len.branch [
      | then-s-len-via-then-s-len w ↦ none_past _ own c.args.session h.sessions (omega (arith, w.if-s-len.true, c.len.ensures, last.ok.0))
      | then-s-len-via-else-s-len+then-index-eq0 w ↦
          none_at_zero last.items own c.args.session h.last_are (omega (arith, w.if-s-len.false, c.len.ensures, last.ok.0))
          (sym (subst (λ (d : ℕ). d ≡ get_or last.items c.args.session.0 d) w.if-index-eq0.true w.index.ensures))
    ]))
