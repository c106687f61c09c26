-- A statement, told by its operations one after the other.
use Rattle.std.proofs.Common.{Bool, IsTrue, List, [], ap, arith, eqb-true, length, map, refl, sym, true, ◌∙◌, ◌∷◌, ◌≡◌}
use Rattle.std.proofs.lemmas.Bool.{and_parts}
use Rattle.str_base.proofs.SameNames.{is-same_key, same_key-is}
use Rattle.str_base.specs.declared.names.KeyId.{KeyId}
use Rattle.str_scene.specs.declared.names.Op.{Op}
use Rattle.str_scene.specs.declared.names.Op.TheVariants.{Abort, Add, Del, Get, Need, Put, Puts}
use Rattle.bank_book.specs.BankScenes.{IsStatement, are_gets, is_get}

get_is : (k : KeyId) (op : Op) → is_get k op ≡ true → op ≡ Get k
get_is k (Get l) e = ap (λ (z : KeyId). Get z) (same_key-is l k e)
get_is k (Put l n) e = absurd (cc e)
get_is k (Puts l t) e = absurd (cc e)
get_is k (Add l n) e = absurd (cc e)
get_is k (Del l) e = absurd (cc e)
get_is k (Need l n) e = absurd (cc e)
get_is k Abort e = absurd (cc e)

gets_statement : (ks : List KeyId) (ops : List Op) → are_gets ks ops ≡ true → IsStatement ks ops
gets_statement [] [] e = refl
gets_statement [] (op ∷ ops) e = let n : length (op ∷ ops) ≡ 0 = eqb-true (length (op ∷ ops)) 0 e in absurd (omega arith)
gets_statement (k ∷ ks) [] e = absurd (cc e)
gets_statement (k ∷ ks) (op ∷ ops) e =
    let p = and_parts (is_get k op) (are_gets ks ops) e in
    λ j. get_is k op p.0 j ∷ gets_statement ks ops p.1 j

all_gets : (ks : List KeyId) → are_gets ks (map (λ k. Get k) ks) ≡ true
all_gets [] = refl
all_gets (k ∷ ks) = rw (is-same_key k k refl) (all_gets ks)

pub gets_decided : (r : Bool) (ks : List KeyId) (ops : List Op) → r ≡ are_gets ks ops → (IsTrue r → IsStatement ks ops) × (IsStatement ks ops → IsTrue r)
gets_decided r ks ops e = (λ t. gets_statement ks ops (sym e ∙ t), λ s. e ∙ (ap (are_gets ks) s ∙ all_gets ks))
