-- What the limits of a scene say of the tests by which it is built.
use Rattle.std.proofs.Common.{Bool, List, None, Option, Some, [], ap, arith, cond, false, length, nat_le, refl, suc, true, ℕ, ◌+◌, ◌∙◌, ◌∷◌, ◌≡◌, ◌≤◌}
use Rattle.std.proofs.lemmas.Bool.{and_from}
use Rattle.std.proofs.lemmas.Bool.Decides.{Decides-eqb, nat_tests}
use Rattle.std.specs.Prelude.{flat_map, not}
use Rattle.str_base.proofs.Tests.{not_zero}
use Rattle.str_base.specs.declared.names.PartId.{PartId}
use Rattle.str_scene.specs.Drafts.{is_none_yet}
use Rattle.str_scene.specs.Keys.{same_pair, with_pair}
use Rattle.str_scene.specs.Refusals.{counts_to, finish_fault, first_fault, is_up_to}
use Rattle.str_scene.specs.SceneLimits.{Exists, IsScene, all_ops, counted, key_of, text_of}
use Rattle.str_scene.specs.Scenes.{Scene}

-- a number from 1 to the last
pub up_to_holds : (last n : ℕ) → Exists n last → is_up_to last n ≡ true
up_to_holds last n h = and_from (nat_le 1 n) (nat_le n last) (grind (arith, nat_tests)) (grind (arith, nat_tests))

-- a list with members
pub some_yet : {X : Type 0} (xs : List X) → 1 ≤ length xs → not (is_none_yet xs) ≡ true
some_yet [] some = absurd (omega arith)
some_yet (x ∷ xs) some = refl

-- a count that is the number
counts : (o : Option ℕ) (n : ℕ) → o ≡ Some n → counts_to o n ≡ true
counts o n e = ap (λ x. counts_to x n) e ∙ (Decides-eqb n n).1 refl

-- each scene may be finished
pub scene_finishes : (scene : Scene) → IsScene scene → finish_fault scene ≡ None
scene_finishes scene s =
    ap (λ b. first_fault b true true) (and_from _ _ (and_from _ _ (not_zero scene.nodes s.nodes.0) (some_yet scene.parts s.parts.0))
    (and_from _ _ (counts (counted 0 (flat_map key_of (all_ops scene))) (length scene.keys.names) s.table.key_order) (counts (counted 0 (flat_map text_of (all_ops scene))) (length scene.keys.texts) s.table.text_order)))

-- one member more at most
pub one_more : {X : Type 0} (t : Bool) (b : X) (bs more : List X) → length more ≤ length bs + 1 → length (cond t (b ∷ bs) (b ∷ more)) ≤ suc (length bs) + 1
one_more true b bs more h = omega arith
one_more false b bs more h = omega arith

-- one key more at most
pub pair_few : (a : List ℕ × PartId) (bs : List (List ℕ × PartId)) → length (with_pair a bs) ≤ length bs + 1
pair_few a [] = omega arith
pair_few a (b ∷ bs) = one_more (same_pair a b) b bs (with_pair a bs) (pair_few a bs)
