use Rattle.std.proofs.Common.{List, ap, arith, length, min, refl, subst, sym, ℕ, ◌+◌, ◌-◌, ◌^◌, ◌∙◌, ◌≡◌}
use Rattle.node_core.proofs.OldVersions.Counting.{all_below, length-merged, next_counted, none_below}
use Rattle.node_core.proofs.OldVersions.PrunedStores.{cached_within, key_within}
use Rattle.node_core.proofs.Parts.PartChanges.{stored_of}
use Rattle.node_core.specs.Working.{HasFacts}
use Rattle.str_base.specs.declared.names.KeyId.{KeyId}
use Rattle.str_base.specs.declared.names.Version.{Version}
use Rattle.str_scene.specs.Scenes.{KeyTable, Scene}
use Rattle.node_core.proofs.work.Work.versions.Goals as goal

pub loop-key-init : goal.loop-key-init
loop-key-init c =
    let a = none_below c.self.inside.held.store.versions in
    let b = none_below c.self.inside.held.cache.versions in
    omega (arith, a, b)

pub loop-key-preserved : goal.loop-key-preserved
loop-key-preserved c =
    let n = c.loop-key.key in
    let k : KeyId = record { 0 = n } in
    let i = c.loop-key.count in
    let j = c.counted-count.result in
    let most : ℕ = 2 ^ 64 - 1 in
    next_counted most n k c.self.inside.held.store.versions c.self.inside.held.cache.versions i j c.counted-count-in-loop-key.result refl c.loop-key.invariant
    (c.counted-count.ensures ∙ ap (λ (xs : List Version). min (i + length xs) most) c.walk_from_newest.ensures.older)
    (c.counted-count-in-loop-key.ensures ∙ ap (λ (xs : List Version). min (j + length xs) most) c.walk_from_newest-in-loop-key.ensures.older)

pub returns : goal.returns
returns c =
    let site = c.self.inside.site in
    let h = c.self.inside.held in
    let f = subst HasFacts (sym c.self.view_is) c.requires in
    let s = stored_of site h c.self.inside.own c.self.inside.left c.self.inside.room c.self.invariant f.moment c.node.ensures.kept in
    let below = c.loop-key.auto.key-end in
    let past = c.loop-key-test.false in
    let end : c.loop-key.key ≡ c.len-key-end.result = omega (arith, below, past) in
    let keys : c.loop-key.key ≡ length site.scene.keys.names =
    end ∙ (c.len-key-end.ensures.value ∙ (ap (λ (t : KeyTable). length t.names) c.keys.ensures.value ∙ ap (λ (t : Scene). length t.keys.names) c.scene.ensures.value)) in
    let a = all_below c.loop-key.key h.store.versions (key_within site _ h.store h.cache s c.loop-key.key keys) in
    let b = all_below c.loop-key.key h.cache.versions (cached_within site _ h.store h.cache s c.loop-key.key keys) in
    let l = length-merged h.cache.versions h.store.versions in
    let i = c.loop-key.invariant in
    rw (← c.self.view_is) (omega (arith, a, b, l, i))
