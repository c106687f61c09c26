use Rattle.std.proofs.Common.{List, add-one, ap, length, map, rules, slice_get, sym, ℕ, ◌++◌, ◌<◌, ◌∙◌, ◌∷◌, [], ◌≡◌, ◌≤◌}
use Rattle.std.proofs.lemmas.List.{take_all}
use Rattle.node_parts.proofs.Mapping.{parts_more}
use Rattle.str_base.specs.declared.names.PartId.{PartId}
use Rattle.str_scene.proofs.Mapped.{is-mapped}
use Rattle.str_scene.specs.Scenes.{named_part}
use Rattle.node_parts.proofs.sites.map_of.Goals as goal

pub loop-key-preserved : goal.loop-key-preserved
loop-key-preserved c =
    let names = c.args.scene.now.keys.names in
    let l : c.loop-key.key < length names = search rules in
    let pushed : c.push.new.self.items ≡ c.loop-key.keys.items ++ c.part.result ∷ [] = search rules in
    let part : c.part.result ≡ named_part (slice_get names c.loop-key.key) = search rules in
    rw (pushed, part, c.loop-key.invariant, add-one) (sym (parts_more names c.loop-key.key l))

pub new-requires : goal.new-requires
new-requires c =
    let scene = c.args.scene.now in
    let l : length scene.keys.names ≤ c.loop-key.key = search rules in
    let rows : c.in_ok-rows.rows.items ≡ scene.parts = search rules in
    let keys : c.loop-key.keys.items ≡ map (λ (k : List ℕ × PartId). k.1) scene.keys.names = c.loop-key.invariant ∙ ap (λ ns. map (λ (k : List ℕ × PartId). k.1) ns) (take_all c.loop-key.key scene.keys.names l) in
    rw (rows, keys) (is-mapped scene c.keys-table.ensures.limits)
