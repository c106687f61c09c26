-- A table of keys as the set that holds it.
use Rattle.std.proofs.Common.{Bool, List, Some, [], ap, arith, cond, false, length, length-append, nat_le, nat_lt, refl, suc, sym, true, ℕ, ◌+◌, ◌++◌, ◌≤◌, ◌∷◌, ◌≡◌, ◌∙◌, ◌||◌}
use Rattle.str_base.specs.declared.limits.TheConstants.{KEYS}
use Rattle.std.specs.Prelude.{not}
use Rattle.std.specs.List.{list_any, position_or_len}
use Rattle.std.specs.Str.{bytes_eq}
use Rattle.std.proofs.lemmas.Bool.Decides.{nat_tests}
use Rattle.indexmap.specs.IndexSet.{insert_key}
use Rattle.str_base.specs.declared.names.PartId.{PartId}
use Rattle.str_scene.specs.Keys.{number_of, place_of, same_pair, string_number, string_place, with_pair, with_string}

-- one item more at the front of a set
insert_more : {X : Type 0} (x : X) (ks ms : List X) (k : X) (same any : Bool) → cond any ks (ks ++ k ∷ []) ≡ ms →
    cond (same || any) (x ∷ ks) (x ∷ (ks ++ k ∷ [])) ≡ cond same (x ∷ ks) (x ∷ ms)
insert_more x ks ms k true any e = refl
insert_more x ks ms k false true e = ap (λ l. x ∷ l) e
insert_more x ks ms k false false e = ap (λ l. x ∷ l) e

-- one item more at the front of a search
place_more : (n m : ℕ) (same : Bool) → n ≡ m → cond (not same) (1 + n) 0 ≡ cond same 0 (suc m)
place_more n m true e = refl
place_more n m false e = omega (arith, e)

-- the set with a key
pub insert-with_pair : (a : List ℕ × PartId) (bs : List (List ℕ × PartId)) → insert_key same_pair bs a ≡ with_pair a bs
insert-with_pair a [] = refl
insert-with_pair a (b ∷ bs) = insert_more b bs (with_pair a bs) a (same_pair a b) (list_any (same_pair a) bs) (insert-with_pair a bs)

-- its place
pub position-place_of : (a : List ℕ × PartId) (bs : List (List ℕ × PartId)) → position_or_len (same_pair a) bs ≡ place_of a bs
position-place_of a [] = refl
position-place_of a (b ∷ bs) = place_more (position_or_len (same_pair a) bs) (place_of a bs) (same_pair a b) (position-place_of a bs)

-- the set with a byte string
pub insert-with_string : (a : List ℕ) (bs : List (List ℕ)) → insert_key bytes_eq bs a ≡ with_string a bs
insert-with_string a [] = refl
insert-with_string a (b ∷ bs) = insert_more b bs (with_string a bs) a (bytes_eq a b) (list_any (bytes_eq a) bs) (insert-with_string a bs)

-- its place
pub position-string_place : (a : List ℕ) (bs : List (List ℕ)) → position_or_len (bytes_eq a) bs ≡ string_place a bs
position-string_place a [] = refl
position-string_place a (b ∷ bs) = place_more (position_or_len (bytes_eq a) bs) (string_place a bs) (bytes_eq a b) (position-string_place a bs)

module _ {X : Type 0} (eq : X → X → Bool) (put : X → List X → List X) (is_put : (a : X) (bs : List X) → insert_key eq bs a ≡ put a bs) where
  -- there is room for an item that is there
  pub found_room : (a b : X) (ks bs : List X) (r : Bool) → b ≡ a → ks ≡ bs → r ≡ list_any (eq b) ks → r ≡ true → length ks ≤ KEYS →
      r ≡ nat_le (length (put a bs)) KEYS
  found_room a b ks bs r e f g t l =
      let any : list_any (eq b) ks ≡ true = sym g ∙ t in
      let few : nat_le (length ks) KEYS ≡ true = grind (arith, nat_tests) in
      rw (t, ← e, ← f, ← is_put b ks, any, few) refl

  -- and for another where one more fits
  pub added_room : (a b : X) (ks bs : List X) (r : Bool) (n : ℕ) → b ≡ a → ks ≡ bs → r ≡ list_any (eq b) ks → r ≡ false → n ≡ length ks →
      nat_lt n KEYS ≡ nat_le (length (put a bs)) KEYS
  added_room a b ks bs r n e f g t l =
      let any : list_any (eq b) ks ≡ false = sym g ∙ t in
      let more : suc (length ks) ≡ length ks + 1 = omega arith in
      rw (l, ← e, ← f, ← is_put b ks, any, length-append) (ap (λ k. nat_le k KEYS) more)

  -- the items after an item was put
  pub put_items : (a b : X) (ks bs cs : List X) → b ≡ a → ks ≡ bs → cs ≡ insert_key eq ks b → cs ≡ put a bs
  put_items a b ks bs cs e f g = rw (← e, ← f) (g ∙ is_put b ks)

  -- are few
  pub put_few : (a b : X) (ks bs cs : List X) → b ≡ a → ks ≡ bs → cs ≡ insert_key eq ks b → length (put a bs) ≤ KEYS → length cs ≤ KEYS
  put_few a b ks bs cs e f g l = rw (put_items a b ks bs cs e f g) l

-- the number of a key that was put
pub put_number : (a b : List ℕ × PartId) (ks bs : List (List ℕ × PartId)) (n : ℕ) → b ≡ a → ks ≡ bs → n ≡ position_or_len (same_pair b) ks →
    length (with_pair a bs) ≤ KEYS → number_of a bs ≡ Some (record { 0 = n })
put_number a b ks bs n e f g l =
    let few : nat_le (length (with_pair a bs)) KEYS ≡ true = grind (arith, nat_tests) in
    let place : n ≡ place_of a bs = rw (← e, ← f) (g ∙ position-place_of b ks) in
    rw (few, place) refl

-- the number of a byte string that was put
pub put_text_number : (a b : List ℕ) (ks bs : List (List ℕ)) (n : ℕ) → b ≡ a → ks ≡ bs → n ≡ position_or_len (bytes_eq b) ks →
    length (with_string a bs) ≤ KEYS → string_number a bs ≡ Some (record { 0 = n })
put_text_number a b ks bs n e f g l =
    let few : nat_le (length (with_string a bs)) KEYS ≡ true = grind (arith, nat_tests) in
    let place : n ≡ string_place a bs = rw (← e, ← f) (g ∙ position-string_place b ks) in
    rw (few, place) refl
