use Rattle.str_base.specs.declared.names.Version.{Version}
use Rattle.std.proofs.Common.{List, None, Option, [], ap, subst, sym, true, ℕ, ◌++◌, ◌∙◌, ◌∷◌, ◌≡◌}
use Rattle.std.specs.List.{last_or}
use Rattle.str_base.specs.declared.names.KeyId.{KeyId}
use Rattle.link_arena.specs.Arenas.{at, key_list, number_of, prev_of}
use Rattle.link_arena.specs.declared.nodes.Slot.{Slot}
use Rattle.link_arena.specs.Rows.{IsPlace, first_or, is_in}
use Rattle.version_chain.specs.Flat.{beyond, picked, up_to}
use Rattle.link_arena.proofs.Listed.{key_there, there}
use Rattle.version_chain.proofs.Spots.{prev_place}
use Rattle.version_chain.proofs.Walking.{ahead_is, behind_is, last_more, next_back}
use Rattle.version_chain.proofs.walks.Walk.older.Goals as goal

pub get-version-requires : goal.get-version-requires
get-version-requires c =
    let w = c.self.inside in
    there w.arena.now c.self.invariant.chains.lists w.key c.in-Some.slot.0 (subst (λ (o : Option Slot). IsPlace (number_of o) (key_list w.arena.now w.key)) c.in-Some.is c.self.invariant.place)

pub invariant_of-self : goal.invariant_of-self
invariant_of-self c =
    let w = c.self.inside in
    let i = c.self.invariant in
    let s = c.in-Some.slot.0 in
    let ss = key_list w.arena.now w.key in
    let l : is_in s ss ≡ true = subst (λ (o : Option Slot). IsPlace (number_of o) ss) c.in-Some.is i.place in
    let e = sym c.get-version.ensures.value in
    let k = key_there w.arena.now i.chains.lists w.key s c.get-version.result l e in
    let q : number_of c.before_in_key-self-inside.result ≡ prev_of s None ss = c.before_in_key-self-inside.ensures c.get-version.result e ∙ ap (λ (m : KeyId). prev_of s None (key_list w.arena.now m)) k in
    let n = next_back s ss (i.chains.lists.once_in_key w.key) l in
    record {
      chains = i.chains;
      place = subst (λ (o : Option ℕ). IsPlace o ss) (sym q) (prev_place s ss l);
      follows = sym (ap (λ (o : Option ℕ). first_or None (beyond o ss)) q ∙ ap (λ (ws : List ℕ). first_or None ws) n.ahead);
    }

pub returns-in-Some-clause-older : goal.returns-in-Some-clause-older
returns-in-Some-clause-older c =
    let w = c.self.inside in
    let i = c.self.invariant in
    let s = c.in-Some.slot.0 in
    let ss = key_list w.arena.now w.key in
    let l : is_in s ss ≡ true = subst (λ (o : Option Slot). IsPlace (number_of o) ss) c.in-Some.is i.place in
    let e = sym c.get-version.ensures.value in
    let k = key_there w.arena.now i.chains.lists w.key s c.get-version.result l e in
    let q : number_of c.before_in_key-self-inside.result ≡ prev_of s None ss = c.before_in_key-self-inside.ensures c.get-version.result e ∙ ap (λ (m : KeyId). prev_of s None (key_list w.arena.now m)) k in
    let n = next_back s ss (i.chains.lists.once_in_key w.key) l in
    sym (ap (λ v. v.older) c.self.view_is) ∙ ap (λ (o : Option Slot). picked (at w.arena.now) (up_to (number_of o) ss)) c.in-Some.is
    ∙ behind_is w.arena.now w.key (prev_of s None ss) s c.get-version.result n e ∙ ap (λ (o : Option ℕ). picked (at w.arena.now) (up_to o ss) ++ c.get-version.result ∷ []) (sym q)

pub returns-in-Some-clause-value : goal.returns-in-Some-clause-value
returns-in-Some-clause-value c =
    let w = c.self.inside in
    let vs = picked (at w.arena.now) (up_to (number_of c.before_in_key-self-inside.result) (key_list w.arena.now w.key)) in
    let e : c.args.self.now.older ≡ vs ++ c.get-version.result ∷ [] = returns-in-Some-clause-older c in
    sym (ap (λ vs. last_or None vs) e ∙ last_more None vs c.get-version.result)

pub returns-in-Some-clause-newer : goal.returns-in-Some-clause-newer
returns-in-Some-clause-newer c =
    let w = c.self.inside in
    let i = c.self.invariant in
    let s = c.in-Some.slot.0 in
    let ss = key_list w.arena.now w.key in
    let l : is_in s ss ≡ true = subst (λ (o : Option Slot). IsPlace (number_of o) ss) c.in-Some.is i.place in
    let e = sym c.get-version.ensures.value in
    let k = key_there w.arena.now i.chains.lists w.key s c.get-version.result l e in
    let q : number_of c.before_in_key-self-inside.result ≡ prev_of s None ss = c.before_in_key-self-inside.ensures c.get-version.result e ∙ ap (λ (m : KeyId). prev_of s None (key_list w.arena.now m)) k in
    let n = next_back s ss (i.chains.lists.once_in_key w.key) l in
    ap (λ (o : Option ℕ). picked (at w.arena.now) (beyond o ss)) q ∙ ahead_is w.arena.now w.key (prev_of s None ss) s c.get-version.result n e
    ∙ ap (λ (vs : List Version). c.get-version.result ∷ vs) (sym (ap (λ (o : Option Slot). picked (at w.arena.now) (beyond (number_of o) ss)) c.in-Some.is) ∙ ap (λ v. v.newer) c.self.view_is)
