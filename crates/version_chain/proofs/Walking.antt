-- A walk over the slots of a key, step by step.
use Rattle.std.proofs.Common.{Bool, IfNone, List, None, Option, Some, [], ap, false, if◌then◌else◌, refl, subst, sym, true, ℕ, ◌++◌, ◌==◌, ◌||◌, ◌∙◌, ◌∷◌, ◌≡◌}
use Rattle.std.proofs.lemmas.List.{append-nil}
use Rattle.std.specs.List.{last_or}
use Rattle.str_base.specs.declared.names.KeyId.{KeyId}
use Rattle.str_base.specs.declared.names.Version.{Version}
use Rattle.link_arena.specs.Arenas.{ArenaView, at, key_list, next_of, prev_of}
use Rattle.link_arena.specs.Rows.{IsPlace, Once, first_or, is_in}
use Rattle.link_arena.proofs.RowLemmas.{apart_from, deeper, here}
use Rattle.str_base.proofs.Tests.{eqb_self}
use Rattle.version_chain.specs.Flat.{beyond, picked, up_to}
use Rattle.version_chain.specs.Walks.{with_version}
use Rattle.version_chain.proofs.Spots.{beyond_last, beyond_prev, prev_place}

-- the slot that follows a place
pub record IsNext (p : Option ℕ) (ss : List ℕ) (s : ℕ) : Type 0 where
  pub ahead : beyond p ss ≡ s ∷ beyond (Some s) ss
  pub behind : up_to (Some s) ss ≡ up_to p ss ++ s ∷ []
  pub listed : is_in s ss ≡ true

first_next : (ss : List ℕ) (s : ℕ) → Some s ≡ first_or None ss → IsNext None ss s
first_next [] s e = absurd (cc)
first_next (u ∷ us) s e =
    let q : s ≡ u = cc in
    subst (λ (x : ℕ). IsNext None (u ∷ us) x) (sym q) (record {
      ahead = ap (λ (b : Bool). u ∷ (if b then us else beyond (Some u) us)) (sym (eqb_self u));
      behind = ap (λ (b : Bool). if b then u ∷ [] else u ∷ up_to (Some u) us) (eqb_self u);
      listed = here u us;
    })

-- a slot more before the list
later_next : (p : Option ℕ) (u : ℕ) (us : List ℕ) (s : ℕ) → is_in u us ≡ false → IsNext p us s → (q : Option ℕ) → beyond q (u ∷ us) ≡ beyond p us → up_to q (u ∷ us) ≡ u ∷ up_to p us → IsNext q (u ∷ us) s
later_next p u us s n r q f g =
    let d = apart_from s u us n r.listed in
    record {
      ahead = f ∙ r.ahead ∙ ap (λ (b : Bool). s ∷ (if b then us else beyond (Some s) us)) (sym d);
      behind = ap (λ (b : Bool). if b then u ∷ [] else u ∷ up_to (Some s) us) d ∙ ap (λ (ws : List ℕ). u ∷ ws) r.behind ∙ ap (λ (ws : List ℕ). ws ++ s ∷ []) (sym g);
      listed = deeper s u us r.listed;
    }

pub next_up : (p : Option ℕ) (ss : List ℕ) (s : ℕ) → Once ss → IsPlace p ss → Some s ≡ first_or None (beyond p ss) → IsNext p ss s
next_up None ss s o h e = first_next ss s e
next_up (Some t) [] s o h e = absurd (cc)
next_up (Some t) (u ∷ us) s o h e = by_test (t == u) refl h e (λ k f. next_up (Some t) us s o.1 k f)
  where
    by_test : (b : Bool) → (t == u) ≡ b → (b || is_in t us) ≡ true → Some s ≡ first_or None (if b then us else beyond (Some t) us)
        → (is_in t us ≡ true → Some s ≡ first_or None (beyond (Some t) us) → IsNext (Some t) us s) → IsNext (Some t) (u ∷ us) s
    by_test true q h e rec =
        later_next None u us s o.0 (first_next us s e) (Some t) (ap (λ (b : Bool). if b then us else beyond (Some t) us) q) (ap (λ (b : Bool). if b then u ∷ [] else u ∷ up_to (Some t) us) q)
    by_test false q h e rec =
        later_next (Some t) u us s o.0 (rec h e) (Some t) (ap (λ (b : Bool). if b then us else beyond (Some t) us) q) (ap (λ (b : Bool). if b then u ∷ [] else u ∷ up_to (Some t) us) q)

pub next_after : (s : ℕ) (ss : List ℕ) → next_of s ss ≡ first_or None (beyond (Some s) ss)
next_after s [] = refl
next_after s (u ∷ us) = by_test (s == u) (next_after s us)
  where
    by_test : (b : Bool) → next_of s us ≡ first_or None (beyond (Some s) us) → (if b then first_or None us else next_of s us) ≡ first_or None (if b then us else beyond (Some s) us)
    by_test true rec = refl
    by_test false rec = rec

-- the slot before which a walk goes back
pub next_back : (s : ℕ) (ss : List ℕ) → Once ss → is_in s ss ≡ true → IsNext (prev_of s None ss) ss s
next_back s ss o h = next_up (prev_of s None ss) ss s o (prev_place s ss h) (sym (ap (λ (ws : List ℕ). first_or None ws) (beyond_prev s ss o h)))

-- nothing is left
pub none_left : (ss : List ℕ) → None ≡ first_or None ss → ss ≡ []
none_left [] e = refl
none_left (u ∷ us) e = absurd (cc)

-- the versions of two lists of slots
pub picked_append : (f : ℕ → Option Version) (xs ys : List ℕ) → picked f (xs ++ ys) ≡ picked f xs ++ picked f ys
picked_append f [] ys = refl
picked_append f (x ∷ xs) ys = by_option (f x) (picked_append f xs ys)
  where
    by_option : (o : Option Version) → picked f (xs ++ ys) ≡ picked f xs ++ picked f ys → with_version o (picked f (xs ++ ys)) ≡ with_version o (picked f xs) ++ picked f ys
    by_option None rec = rec
    by_option (Some v) rec = ap (λ (vs : List Version). v ∷ vs) rec

-- and all slots stand before a place or after it
pub parted : (p : Option ℕ) (ss : List ℕ) → up_to p ss ++ beyond p ss ≡ ss
parted None ss = refl
parted (Some s) [] = refl
parted (Some s) (u ∷ us) = by_test (s == u) (parted (Some s) us)
  where
    by_test : (b : Bool) → up_to (Some s) us ++ beyond (Some s) us ≡ us → (if b then u ∷ [] else u ∷ up_to (Some s) us) ++ (if b then us else beyond (Some s) us) ≡ u ∷ us
    by_test true rec = refl
    by_test false rec = ap (λ (ws : List ℕ). u ∷ ws) rec

pub up_to_last : (ss : List ℕ) → Once ss → up_to (last_or None ss) ss ≡ ss
up_to_last ss o =
    let e = beyond_last ss o in
    sym (append-nil (up_to (last_or None ss) ss)) ∙ ap (λ (ws : List ℕ). up_to (last_or None ss) ss ++ ws) (sym e) ∙ parted (last_or None ss) ss

-- a step over a slot, in versions
module _ (a : ArenaView) (k : KeyId) (p : Option ℕ) (s : ℕ) (v : Version) (n : IsNext p (key_list a k) s) (e : at a s ≡ Some v) where
  pub ahead_is : picked (at a) (beyond p (key_list a k)) ≡ v ∷ picked (at a) (beyond (Some s) (key_list a k))
  ahead_is = ap (λ (ws : List ℕ). picked (at a) ws) n.ahead ∙ ap (λ (o : Option Version). with_version o (picked (at a) (beyond (Some s) (key_list a k)))) e

  pub behind_is : picked (at a) (up_to (Some s) (key_list a k)) ≡ picked (at a) (up_to p (key_list a k)) ++ v ∷ []
  behind_is =
      ap (λ (ws : List ℕ). picked (at a) ws) n.behind ∙ picked_append (at a) (up_to p (key_list a k)) (s ∷ [])
      ∙ ap (λ (o : Option Version). picked (at a) (up_to p (key_list a k)) ++ with_version o []) e

-- the last of a list with one more
pub last_more : (o : Option Version) (vs : List Version) (v : Version) → last_or o (vs ++ v ∷ []) ≡ Some v
last_more o [] v = refl
last_more o (w ∷ ws) v = last_more (Some w) ws v

-- the version that was passed over, where one follows
pub passed_is : (r : Option Version) (v : Version) (vs ws : List Version) → v ∷ vs ≡ with_version r ws → IfNone r (v ∷ vs ≡ []) → r ≡ Some v
passed_is None v vs ws e n = absurd (cc)
passed_is (Some w) v vs ws e n = let q : w ≡ v = cc in ap Some q
