-- How many numbers have been seen, list by list.
use Rattle.std.proofs.Common.{Bool, below_more, subst, true, slice_get, List, None, Option, Some, [], ap, drop, get_or, refl, arith, sym, ℕ, ◌+◌, ◌++◌, ◌∷◌, ◌≡◌, ◌∙◌, ◌<◌, ◌≤◌, length}
use Rattle.std.proofs.lemmas.List.{drop_more}
use Rattle.std.proofs.lemmas.Option.{get_or_from_slice_get, slice_get_within}
use Rattle.std.specs.Prelude.{flat_map, option_and_then}
use Rattle.std.specs.List.{list_all}
use Rattle.std.proofs.lemmas.Grind.{flat_map-append}
use Rattle.str_scene.proofs.Counts.{counted-append}
use Rattle.str_scene.specs.Numbers.{numbers_of, scene_numbers, script_numbers, session_numbers}
use Rattle.str_scene.specs.Refusals.{counts_to, keys_in_order, texts_in_order}
use Rattle.str_scene.specs.SceneLimits.{all_ops, counted, key_of, text_of}
use Rattle.str_scene.specs.Scenes.{Scene, Session}
use Rattle.str_scene.specs.declared.numbered.Numbered.{Numbered}
use Rattle.str_scene.specs.declared.numbered.Numbered.TheVariants.{Keys, Texts}
use Rattle.str_scene.specs.declared.names.Op.{Op}

-- a list from one item on
drop_at_item : {X : Type 0} (xs : List X) (i : ℕ) (x : X) → i < length xs → x ≡ get_or xs i x → drop i xs ≡ x ∷ drop (i + 1) xs
drop_at_item xs i x l e = drop_more xs i x l ∙ ap (λ y. y ∷ drop (i + 1) xs) (sym e)

module _ {X : Type 0} (f : X → List ℕ) (xs : List X) (i : ℕ) (x : X) (n : ℕ) (whole : Option ℕ) (l : i < length xs) (is : x ≡ get_or xs i x) (so_far : counted n (flat_map f (drop i xs)) ≡ whole) where
  -- with the numbers of one more
  at_item : option_and_then (λ m. counted m (flat_map f (drop (i + 1) xs))) (counted n (f x)) ≡ whole
  at_item = sym (counted-append n (f x) (flat_map f (drop (i + 1) xs))) ∙ sym (ap (λ ys. counted n (flat_map f ys)) (drop_at_item xs i x l is)) ∙ so_far

  -- after one more
  pub seen_some : (m : ℕ) → counted n (f x) ≡ Some m → counted m (flat_map f (drop (i + 1) xs)) ≡ whole
  seen_some m e = rw e at at_item

  -- none after one with none
  pub seen_none : counted n (f x) ≡ None → None ≡ whole
  seen_none e = rw e at at_item

-- the numbers of scripts in a row
script_rows : (what : Numbered) (txs : List (List Op)) → session_numbers what txs ≡ flat_map (numbers_of what) (flat_map (λ ops. ops) txs)
script_rows what [] = refl
script_rows what (ops ∷ txs) =
    ap (λ l. script_numbers what ops ++ l) (script_rows what txs) ∙ sym (flat_map-append (numbers_of what) ops (flat_map (λ ops. ops) txs))

-- the numbers of sessions in a row
session_rows : (what : Numbered) (ss : List Session) → scene_numbers what ss ≡ flat_map (numbers_of what) (flat_map (λ s. flat_map (λ ops. ops) s.txs) ss)
session_rows what [] = refl
session_rows what (s ∷ ss) =
    ap (λ l. l ++ scene_numbers what ss) (script_rows what s.txs)
    ∙ ap (λ l. flat_map (numbers_of what) (flat_map (λ ops. ops) s.txs) ++ l) (session_rows what ss)
    ∙ sym (flat_map-append (numbers_of what) (flat_map (λ ops. ops) s.txs) (flat_map (λ t. flat_map (λ ops. ops) t.txs) ss))

-- the keys that the operations of a scene name
pub all_keys : (d : Scene) → scene_numbers Keys d.sessions ≡ flat_map key_of (all_ops d)
all_keys d = session_rows Keys d.sessions

-- the byte strings that they name
pub all_texts : (d : Scene) → scene_numbers Texts d.sessions ≡ flat_map text_of (all_ops d)
all_texts d = session_rows Texts d.sessions

-- whether the keys count to the length of the table
pub keys_order : (d : Scene) (ss : List Session) (count : Option ℕ) (n : ℕ) → count ≡ counted 0 (scene_numbers Keys ss) → ss ≡ d.sessions → n ≡ length d.keys.names →
    counts_to count n ≡ keys_in_order d
keys_order d ss count n e f g =
    let same : count ≡ counted 0 (flat_map key_of (all_ops d)) = e ∙ ap (λ l. counted 0 (scene_numbers Keys l)) f ∙ ap (counted 0) (all_keys d) in
    rw (same, g) refl

-- whether the byte strings do
pub texts_order : (d : Scene) (ss : List Session) (count : Option ℕ) (n : ℕ) → count ≡ counted 0 (scene_numbers Texts ss) → ss ≡ d.sessions → n ≡ length d.keys.texts →
    counts_to count n ≡ texts_in_order d
texts_order d ss count n e f g =
    let same : count ≡ counted 0 (flat_map text_of (all_ops d)) = e ∙ ap (λ l. counted 0 (scene_numbers Texts l)) f ∙ ap (counted 0) (all_texts d) in
    rw (same, g) refl

-- a test that passes at one more
pub all_on : {X : Type 0} (p : X → Bool) (xs : List X) (i : ℕ) (d : X) → i < length xs → p (get_or xs i d) ≡ true → list_all p (drop (i + 1) xs) ≡ list_all p (drop i xs)
all_on p xs i d l e = rw (drop_more xs i d l, e) refl

-- a fact that holds at one more
pub each_on : {X : Type 0} (P : X → Type 0) (xs : List X) (i : ℕ) (d : X) → ((j : ℕ) → j < i → (x : X) → slice_get xs j ≡ Some x → P x) → P (get_or xs i d)
    → (j : ℕ) → j < i + 1 → (x : X) → slice_get xs j ≡ Some x → P x
each_on P xs i d h p = below_more _ _ h (λ x e. subst P (get_or_from_slice_get xs i x d e) p)

-- an element stands below the length
pub within : {X : Type 0} (xs : List X) (i : ℕ) (x : X) (n : ℕ) → slice_get xs i ≡ Some x → length xs ≤ n → i < n
within xs i x n e l = omega (arith, slice_get_within xs i x e, l)
