use Rattle.std.proofs.Common.{Option, ap, sym, [], ◌++◌, ◌∷◌, ◌∙◌}
use Rattle.str_base.specs.declared.names.KeyId.{KeyId}
use Rattle.link_arena.specs.Arenas.{key_list, next_of, number_of}
use Rattle.link_arena.specs.declared.nodes.Slot.{Slot}
use Rattle.link_arena.proofs.Listed.{key_there, there}
use Rattle.version_chain.proofs.Walking.{ahead_is, behind_is, next_after, next_up}
use Rattle.version_chain.proofs.walks.Walk.newer.Goals as goal

pub get-version-requires : goal.get-version-requires
get-version-requires c =
    let w = c.self.inside in
    let i = c.self.invariant in
    let ss = key_list w.arena.now w.key in
    let n = next_up (number_of w.before) ss c.in-Some.slot.0 (i.chains.lists.once_in_key w.key) i.place (sym (ap (λ (o : Option Slot). number_of o) c.in-Some.is) ∙ i.follows) in
    there w.arena.now i.chains.lists w.key c.in-Some.slot.0 n.listed

pub invariant_of-self : goal.invariant_of-self
invariant_of-self c =
    let w = c.self.inside in
    let i = c.self.invariant in
    let s = c.in-Some.slot.0 in
    let ss = key_list w.arena.now w.key in
    let n = next_up (number_of w.before) ss s (i.chains.lists.once_in_key w.key) i.place (sym (ap (λ (o : Option Slot). number_of o) c.in-Some.is) ∙ i.follows) in
    let e = sym c.get-version.ensures.value in
    let k = key_there w.arena.now i.chains.lists w.key s c.get-version.result n.listed e in
    record {
      chains = i.chains;
      place = n.listed;
      follows = c.next_in_key-self-inside.ensures c.get-version.result e ∙ ap (λ (m : KeyId). next_of s (key_list w.arena.now m)) k ∙ next_after s ss;
    }

pub returns-in-Some-clause-newer : goal.returns-in-Some-clause-newer
returns-in-Some-clause-newer c =
    let w = c.self.inside in
    let i = c.self.invariant in
    let s = c.in-Some.slot.0 in
    let ss = key_list w.arena.now w.key in
    let n = next_up (number_of w.before) ss s (i.chains.lists.once_in_key w.key) i.place (sym (ap (λ (o : Option Slot). number_of o) c.in-Some.is) ∙ i.follows) in
    sym (ap (λ v. v.newer) c.self.view_is) ∙ ahead_is w.arena.now w.key (number_of w.before) s c.get-version.result n (sym c.get-version.ensures.value)

pub returns-in-Some-clause-older : goal.returns-in-Some-clause-older
returns-in-Some-clause-older c =
    let w = c.self.inside in
    let i = c.self.invariant in
    let s = c.in-Some.slot.0 in
    let ss = key_list w.arena.now w.key in
    let n = next_up (number_of w.before) ss s (i.chains.lists.once_in_key w.key) i.place (sym (ap (λ (o : Option Slot). number_of o) c.in-Some.is) ∙ i.follows) in
    behind_is w.arena.now w.key (number_of w.before) s c.get-version.result n (sym c.get-version.ensures.value) ∙ ap (λ v. v.older ++ c.get-version.result ∷ []) c.self.view_is
