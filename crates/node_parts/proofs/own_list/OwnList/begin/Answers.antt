use Rattle.std.proofs.Common.{List, [], ap, arith, length, refl, slice_set, subst, sym, ℕ, ◌++◌, ◌+◌, ◌-◌, ◌<◌, ◌^◌, ◌∙◌, ◌∷◌, ◌≡◌}
use Rattle.std.proofs.lemmas.List.{length-map}
use Rattle.str_model.specs.Acts.{fresh}
use Rattle.node_parts.specs.Owning.{IsOwnList, Named, OwnState}
use Rattle.node_parts.proofs.Owning.ListKept.{kept_push}
use Rattle.node_parts.proofs.own_list.OwnList.begin.Goals as goal

pub invariant_of-self : goal.invariant_of-self
invariant_of-self c =
    let in' = c.self.inside in
    let names : List Named = in'.all.items in
    let place = c.args.place in
    let s = place.session.0 in
    let n : c.len-i.result ≡ length names = omega (arith, c.len-i.ensures, in'.all.ok.0) in
    let y : Named = record { tx = record { node = in'.node; seq = length names + 1 }; own = fresh place c.args.rs.0 } in
    let f : c.fresh.result ≡ y = c.fresh.ensures ∙ (λ j. record { tx = record { node = in'.node; seq = n j + 1 }; own = fresh place c.args.rs.0 }) in
    let a : c.push_reserved.new.self.items ≡ names ++ y ∷ [] = c.push_reserved.ensures.items ∙ ap (λ (z : Named). names ++ z ∷ []) f in
    let b : c.push.new.self ≡ in'.undecided ++ length names ∷ [] = c.push.ensures ∙ ap (λ (m : ℕ). in'.undecided ++ m ∷ []) n in
    let there : s < length in'.last.items = omega (arith, ap (λ (v : OwnState). v.sessions) c.self.view_is, c.requires.session) in
    let few : length names < 2 ^ 32 - 2 = omega (arith, ap (λ (v : OwnState). length v.all) c.self.view_is, length-map names (λ (x : Named). x.own), c.requires.few) in
    let k = kept_push in'.node names in'.undecided in'.told.items in'.last.items y c.self.invariant.0 refl refl refl there few in (
      subst (λ (l : List Named). IsOwnList in'.node l c.push.new.self in'.told.items (slice_set in'.last.items s (c.len-i.result + 1))) (sym a)
          (subst (λ (o : List ℕ). IsOwnList in'.node (names ++ y ∷ []) o in'.told.items (slice_set in'.last.items s (c.len-i.result + 1))) (sym b)
          (subst (λ (m : ℕ). IsOwnList in'.node (names ++ y ∷ []) (in'.undecided ++ length names ∷ []) in'.told.items (slice_set in'.last.items s (m + 1))) (sym n) k)),
      c.self.invariant.1,
    )
