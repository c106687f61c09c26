-- What a snapshot at or above the mark sees is the same after pruning.
use Rattle.std.proofs.Common.{Bool, List, [], ap, arith, eqb-true, false, if◌then◌else◌, leb-true, nat_le, nat_lt, not, refl, sym, true, ℕ, ◌&&◌, ◌∙◌, ◌∷◌, ◌≡◌, ◌≤◌}
use Rattle.std.proofs.lemmas.Bool.{and_parts}
use Rattle.std.proofs.lemmas.Bool.Decides.{nat_tests}
use Rattle.std.specs.List.{list_any}
use Rattle.str_base.specs.declared.names.KeyId.{KeyId}
use Rattle.str_base.specs.declared.names.Version.{Version}
use Rattle.str_base.specs.Versions.{is_undecided, same_key}
use Rattle.str_base.proofs.Order.{before_not, before_time}
use Rattle.str_model.specs.Pruning.{covers, hides, pruned_versions}
use Rattle.str_model.proofs.Changes.PairWords.{any_has}
use Rattle.str_model.proofs.Pruning.PruneLists.{newest_pruned, visible_pruned}
use Rattle.str_model.proofs.Pruning.PruneTurns.{pre_pruned, undecided_pruned}
use Rattle.version_chain.specs.ChainLists.{IsOrdered, Precedes, last_held}
use Rattle.version_chain.proofs.Telling.{each_in}
use Rattle.chain_prune.specs.SeenAlike.{SeenAlike, above}

-- what is hidden is at or below the mark
hidden_low : (g : ℕ) (v : Version) (vs : List Version) → IsOrdered (v ∷ vs) → hides g v vs ≡ true → v.ts.0 ≤ g
hidden_low g v vs o h =
    let r = any_has (covers g v.key) vs (and_parts (not (is_undecided v.kind)) (list_any (covers g v.key) vs) h).1 in
    let w = r.0 in
    let c = and_parts (not (is_undecided w.kind)) (same_key w.key v.key && nat_le w.ts.0 g) r.2 in
    let d = and_parts (same_key w.key v.key) (nat_le w.ts.0 g) c.1 in
    let k = eqb-true w.key.0 v.key.0 d.0 in
    let l = leb-true w.ts.0 g d.1 in
    let t = before_time v w (sym k) (before_not v w (each_in (Precedes v) vs w o.0 r.1).0) in
    omega (arith, l, t)

above_pruned : (g r : ℕ) (vs : List Version) → IsOrdered vs → g ≤ r → above r (pruned_versions g vs) ≡ above r vs
above_pruned g r [] o le = refl
above_pruned g r (v ∷ vs) o le = by_hidden (hides g v vs) refl (above_pruned g r vs o.1 le)
  where
    by_hidden : (b : Bool) → hides g v vs ≡ b → above r (pruned_versions g vs) ≡ above r vs → above r (if b then pruned_versions g vs else v ∷ pruned_versions g vs) ≡ above r (v ∷ vs)
    by_hidden true h rec =
        let l = hidden_low g v vs o h in
        let t : nat_lt r v.ts.0 ≡ false = grind (arith, nat_tests) in
        rec ∙ sym (ap (λ (b : Bool). if b then v ∷ above r vs else above r vs) t)
    by_hidden false h rec = ap (λ xs. if nat_lt r v.ts.0 then v ∷ xs else xs) rec

held_pruned : (g : ℕ) (b : Bool) (vs : List Version) (k : KeyId) (r : ℕ) → last_held b (pruned_versions g vs) k r ≡ last_held b vs k r
held_pruned g true vs k r = undecided_pruned g vs k r
held_pruned g false vs k r = pre_pruned g vs k r

pub seen_alike : (g : ℕ) (vs : List Version) → IsOrdered vs → SeenAlike g vs (pruned_versions g vs)
seen_alike g vs o = record {
  visible = λ k r le. visible_pruned g vs k r le;
  newest = λ k. newest_pruned g vs k;
  undecided = λ b k r. held_pruned g b vs k r;
  above = λ r le. above_pruned g r vs o le;
}
