-- Beginnings of one list, and versions that rise.
use Rattle.std.proofs.Common.{◌≡◌, ◌≤◌, List, [], ◌∷◌, ◌++◌, length, refl, ap, sym, subst, ◌∙◌, arith, append_assoc}
use Rattle.std.proofs.lemmas.List.{append-nil}
use mathlib.Core.List.{IsPrefix}
use Rattle.answer_board.specs.History.{front_from, front_of, Rises}

-- each list begins with itself
pub prefix_self : {A : Type 0} (xs : List A) → IsPrefix xs xs
prefix_self xs = ([], append-nil xs)

pub prefix_trans : {A : Type 0} (xs ys zs : List A) → IsPrefix xs ys → IsPrefix ys zs → IsPrefix xs zs
prefix_trans xs ys zs p q = (p.0 ++ q.0, sym (append_assoc xs p.0 q.0) ∙ (ap (λ w. w ++ q.0) p.1 ∙ q.1))

-- of two beginnings of one list the shorter begins the longer
pub prefix_shorter : {A : Type 0} (xs ys zs : List A) → IsPrefix xs zs → IsPrefix ys zs → length xs ≤ length ys → IsPrefix xs ys
prefix_shorter [] ys zs p q le = (ys, refl)
prefix_shorter (x ∷ xs) [] zs p q le = absurd (omega arith)
prefix_shorter (x ∷ xs) (y ∷ ys) [] p q le = absurd (cc (p.1))
prefix_shorter (x ∷ xs) (y ∷ ys) (z ∷ zs) p q le =
    let heads : x ≡ y = cc (p.1, q.1) in
    let rest = prefix_shorter xs ys zs (p.0, cc (p.1)) (q.0, cc (q.1)) (omega arith) in
    (rest.0, cc (heads, rest.1))

-- a beginning as long as the whole is the whole
pub prefix_whole : {A : Type 0} (xs ys : List A) → IsPrefix xs ys → length ys ≤ length xs → xs ≡ ys
prefix_whole [] [] p le = refl
prefix_whole [] (y ∷ ys) p le = absurd (omega arith)
prefix_whole (x ∷ xs) [] p le = absurd (cc (p.1))
prefix_whole (x ∷ xs) (y ∷ ys) p le =
    let rest = prefix_whole xs ys (p.0, cc (p.1)) (omega arith) in cc (p.1, rest)

pub front_snoc : {A : Type 0} (v : List A) (ws : List (List A)) (w : List A) → front_from v (ws ++ w ∷ []) ≡ w
front_snoc v [] w = refl
front_snoc v (u ∷ ws) w = front_snoc u ws w

pub rises_snoc : {A : Type 0} (v : List A) (ws : List (List A)) (w : List A) → Rises v ws → IsPrefix (front_from v ws) w → Rises v (ws ++ w ∷ [])
rises_snoc v [] w r p = (p, tt)
rises_snoc v (u ∷ ws) w r p = (r.0, rises_snoc u ws w r.1 p)

pub rises_front : {A : Type 0} (v : List A) (ws : List (List A)) → Rises v ws → IsPrefix v (front_from v ws)
rises_front v [] r = prefix_self v
rises_front v (u ∷ ws) r = prefix_trans v u (front_from u ws) r.0 (rises_front u ws r.1)

front_more : {A : Type 0} (v : List A) (xs ys : List (List A)) → Rises v (xs ++ ys) → IsPrefix (front_from v xs) (front_from v (xs ++ ys))
front_more v [] ys r = rises_front v ys r
front_more v (x ∷ xs) ys r = front_more x xs ys r.1

-- a longer history has come to a longer list
pub front_grows : {A : Type 0} (xs ys : List (List A)) → IsPrefix xs ys → Rises [] ys → IsPrefix (front_of xs) (front_of ys)
front_grows {A} xs ys p r = subst (λ (l : List (List A)). IsPrefix (front_of xs) (front_of l)) p.1 (front_more [] xs p.0 (subst (λ (l : List (List A)). Rises [] l) (sym p.1) r))
