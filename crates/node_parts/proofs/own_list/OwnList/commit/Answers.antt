use Rattle.std.proofs.Common.{List, ap, arith, filter, not, refl, slice_set, subst, sym, ℕ, ◌+◌, ◌==◌, ◌∙◌}
use Rattle.dependency_set.specs.declared.snaps.OwnSnap.{OwnSnap}
use Rattle.str_model.specs.Acts.{decided_as}
use Rattle.str_model.specs.declared.messages.Outcome.TheVariants.{Committed as Commits}
use Rattle.str_model.specs.Views
use Rattle.str_model.specs.Views.{Own, is_decided, lc_of}
use Rattle.node_parts.specs.Owning.{IsOwnList, Named, OwnState}
use Rattle.node_parts.specs.Phases.{number_if}
use Rattle.node_parts.proofs.Owning.ListKept.{kept_decided}
use Rattle.node_parts.proofs.Owning.NamesKept.{answer_is, lent, number_is, owns_set}
use Rattle.node_parts.proofs.own_list.OwnList.commit.Goals as goal

pub invariant_of-self : goal.invariant_of-self
invariant_of-self c =
    let in' = c.self.inside in
    let old = c.index_mut-own.result.now in
    let new = c.commit.new.self in
    let e = c.commit.ensures.own in
    let r = c.requires in
    let l = lent in'.all.items c.args.i old c.args.self.now.all r.0 (ap (λ (v : OwnState). v.all) c.self.view_is) r.1 c.index_mut-own.ensures.value in
    let k = kept_decided in'.node in'.all.items in'.undecided in'.told.items in'.last.items c.args.i (c.args.i + 1) old new c.self.invariant.0 l.stands refl
    (ap (λ (z : Named). z.tx) e) (ap (λ (z : Named). z.own.place) e) (ap (λ (z : Named). is_decided z.own.phase) e) in (
      subst (λ (o : List ℕ). IsOwnList in'.node (slice_set in'.all.items c.args.i new) o c.forget.new.told.items in'.last.items) (sym c.without-self-inside.ensures)
          (subst (λ (t : List OwnSnap). IsOwnList in'.node (slice_set in'.all.items c.args.i new) (filter (λ n. not (n == c.args.i)) in'.undecided) t in'.last.items) (sym c.forget.ensures.told) k),
      omega (arith, c.self.invariant.1, c.forget.ensures.capacity),
    )

pub returns-clause-own : goal.returns-clause-own
returns-clause-own c x e =
    let in' = c.self.inside in
    let old = c.index_mut-own.result.now in
    let new = c.commit.new.self in
    let s = c.self.view_is in
    let a = ap (λ (v : OwnState). v.all) s in
    let l = lent in'.all.items c.args.i old c.args.self.now.all x a e c.index_mut-own.ensures.value in
    let y = ap (λ (z : Named). z.own) c.commit.ensures.own ∙ ap (λ (z : Own). decided_as (Views.Committed (lc_of z.phase) (number_if c.args.fc)) z) l.own in
    let all = owns_set in'.all.items c.args.i new c.args.self.now.all _ a y in
    λ j. record { node = (s j).node; all = all j; sessions = (s j).sessions; spare = (s j).spare }

pub returns-clause-answer : goal.returns-clause-answer
returns-clause-answer c x e =
    let in' = c.self.inside in
    let old = c.index_mut-own.result.now in
    let s = c.self.view_is in
    let l = lent in'.all.items c.args.i old c.args.self.now.all x (ap (λ (v : OwnState). v.all) s) e c.index_mut-own.ensures.value in
    answer_is c.commit.result in'.node c.args.self.now.node c.args.i old x (λ z. Commits c.args.fc z.gets) c.commit.ensures.answer
    (number_is in'.node in'.all.items c.args.i old c.self.invariant.0.numbered l.stands) (ap (λ (v : OwnState). v.node) s) l.own
