-- How many own transactions a node has, and how many of them are undecided, by the scene.
use Rattle.std.proofs.Common.{Bool, List, None, Some, [], ap, arith, eq-eqb, eqb-true, false, is_some, length, not, refl, slice_get, subst, suc, sym, true, zero, ℕ, ◌&&◌, ◌+◌, ◌-◌, ◌<◌, ◌==◌, ◌^◌, ◌∙◌, ◌∷◌, ◌≡◌, ◌≢◌, ◌≤◌}
use Rattle.std.proofs.lemmas.List.Sums.{sum_by-cons}
use Rattle.std.specs.List.{count_by, sum_by}
use Rattle.std.specs.Prelude.{cond}
use Rattle.str_base.specs.Versions.{same_node}
use Rattle.str_model.specs.NodeFacts.{InOrder, MomentFacts, how_many, one_if, times_end}
use Rattle.str_model.specs.Strange.{has_node}
use Rattle.str_model.specs.Views.{Own, View, is_decided, lc_of}
use Rattle.str_scene.specs.SceneLimits.{IsScene}
use Rattle.str_scene.specs.Scenes.{Here, Session, nth}
use Rattle.str_model.proofs.ViewFacts.GatesEnd.{many_less, many_within}
use Rattle.str_model.proofs.ViewFacts.MomentKept.{node_number}
use Rattle.str_model.specs.NodeFacts.{has_lc}
use Rattle.std.proofs.lemmas.Bool.{and_parts, false_from_ne_true}
use Rattle.str_base.proofs.Members.{in_at}

-- ---- counts

pub many_count : {A : Type 0} (p : A → Bool) (xs : List A) → count_by p xs ≡ how_many p xs
many_count p [] = refl
many_count p (x ∷ xs) = let e = many_count p xs in by_test (p x) (sum_by-cons _ x xs) e
  where
    by_test : (b : Bool) → count_by p (x ∷ xs) ≡ cond b 1 0 + count_by p xs → count_by p xs ≡ how_many p xs → count_by p (x ∷ xs) ≡ one_if b + how_many p xs
    by_test true e f = omega (arith, e, f)
    by_test false e f = omega (arith, e, f)

-- the own transaction passes the test, and is of the session with this number
abbrev of_number : (Own → Bool) → ℕ → Own → Bool
of_number p n x = p x && (x.place.session.0 == n)

-- how many pass, session by session
abbrev by_sessions : (Own → Bool) → List Own → ℕ → List Session → ℕ
by_sessions p xs n [] = 0
by_sessions p xs n (s ∷ rest) = how_many (of_number p n) xs + by_sessions p xs (n + 1) rest

-- how often one counts
abbrev hits : (Own → Bool) → Own → ℕ → List Session → ℕ
hits p x n [] = 0
hits p x n (s ∷ rest) = one_if (of_number p n x) + hits p x (n + 1) rest

sessions-cons : (p : Own → Bool) (x : Own) (xs : List Own) (n : ℕ) (rest : List Session) → by_sessions p (x ∷ xs) n rest ≡ hits p x n rest + by_sessions p xs n rest
sessions-cons p x xs n [] = refl
sessions-cons p x xs n (s ∷ rest) = let r = sessions-cons p x xs (n + 1) rest in omega (arith, r)

hit_once : (p : Own → Bool) (x : Own) (n : ℕ) (rest : List Session) → p x ≡ true → n ≤ x.place.session.0 → x.place.session.0 < n + length rest → 1 ≤ hits p x n rest
hit_once p x n [] t l m = absurd (omega (arith, l, m))
hit_once p x n (s ∷ rest) t l m = by_test (λ a b. hit_once p x (n + 1) rest t a b) (x.place.session.0 == n) refl
  where
    one : (b : Bool) → (x.place.session.0 == n) ≡ b → of_number p n x ≡ b
    one b e = ap (λ z. z && (x.place.session.0 == n)) t ∙ e

    by_test : (n + 1 ≤ x.place.session.0 → x.place.session.0 < n + 1 + length rest → 1 ≤ hits p x (n + 1) rest) → (b : Bool) → (x.place.session.0 == n) ≡ b
        → 1 ≤ one_if (of_number p n x) + hits p x (n + 1) rest
    by_test rec true e = let q : one_if (of_number p n x) ≡ 1 = ap one_if (one true e) in omega (arith, q)
    by_test rec false e =
        let k : x.place.session.0 ≢ n = λ q. cc (eq-eqb x.place.session.0 n q, e) in
        let r = rec (grind (arith, l, k)) (omega (arith, m)) in omega (arith, r)

-- each counts at its session
all_bound : (p : Own → Bool) (xs : List Own) (rest : List Session) → ((i : ℕ) (x : Own) → slice_get xs i ≡ Some x → (1 ≤ x.place.session.0) × (x.place.session.0 < 1 + length rest)) → how_many p xs ≤ by_sessions p xs 1 rest
all_bound p [] rest h = none 1 rest
  where
    none : (n : ℕ) (rest : List Session) → 0 ≤ by_sessions p [] n rest
    none n rest = omega arith
all_bound p (x ∷ xs) rest h =
    let r = all_bound p xs rest (λ i y e. h (suc i) y e) in
    let g = sessions-cons p x xs 1 rest in
    by_test (p x) refl r g
  where
    by_test : (b : Bool) → p x ≡ b → how_many p xs ≤ by_sessions p xs 1 rest → by_sessions p (x ∷ xs) 1 rest ≡ hits p x 1 rest + by_sessions p xs 1 rest → one_if b + how_many p xs ≤ by_sessions p (x ∷ xs) 1 rest
    by_test true t r g = let k = h 0 x refl in let o = hit_once p x 1 rest t k.0 k.1 in omega (arith, r, g, o)
    by_test false t r g = omega (arith, r, g)

sum_bound : (p : Own → Bool) (xs : List Own) (f : Session → ℕ) (n : ℕ) (rest : List Session) → ((j : ℕ) (s : Session) → slice_get rest j ≡ Some s → how_many (of_number p (n + j)) xs ≤ f s)
    → by_sessions p xs n rest ≤ sum_by f rest
sum_bound p xs f n [] h = omega arith
sum_bound p xs f n (s ∷ rest) h =
    let g = sum_by-cons f s rest in
    let a : how_many (of_number p n) xs ≤ f s = subst (λ (k : ℕ). how_many (of_number p k) xs ≤ f s) (omega arith) (h 0 s refl) in
    let r = sum_bound p xs f (n + 1) rest (λ j t e. subst (λ (k : ℕ). how_many (of_number p k) xs ≤ f t) (omega arith) (h (suc j) t e)) in
    omega (arith, g, a, r)

-- ---- one session

-- numbers that rise from c on, up to m
pub rising_few : (q : Own → Bool) (m c : ℕ) (xs : List Own) → c ≤ m → ((i : ℕ) (x : Own) → slice_get xs i ≡ Some x → q x ≡ true → (c < x.place.index) × (x.place.index ≤ m))
    → ((i j : ℕ) (x y : Own) → i < j → slice_get xs i ≡ Some x → slice_get xs j ≡ Some y → q x ≡ true → q y ≡ true → x.place.index < y.place.index) → how_many q xs + c ≤ m
rising_few q m c [] le h r = omega (arith, le)
rising_few q m c (y ∷ ys) le h r =
    by_test (q y) refl (λ k l g. rising_few q m k ys l g (λ i j x z l e f s u. r (suc i) (suc j) x z (omega (arith, l)) e f s u))
  where
    by_test : (b : Bool) → q y ≡ b → ((k : ℕ) → k ≤ m → ((i : ℕ) (x : Own) → slice_get ys i ≡ Some x → q x ≡ true → (k < x.place.index) × (x.place.index ≤ m)) → how_many q ys + k ≤ m)
        → (one_if b + how_many q ys) + c ≤ m
    by_test true t rec =
        let k = h 0 y refl t in
        let n = rec y.place.index k.1 (λ i x e s. (r 0 (suc i) y x (omega arith) refl e t s, (h (suc i) x e s).1)) in
        omega (arith, n, k.0)
    by_test false t rec = let n = rec c le (λ i x e s. h (suc i) x e s) in omega (arith, n)

-- no two pass
one_at_most : (q : Own → Bool) (xs : List Own) → ((i j : ℕ) (x y : Own) → i < j → slice_get xs i ≡ Some x → slice_get xs j ≡ Some y → q x ≡ true → q y ≡ true → ⊥) → how_many q xs ≤ 1
one_at_most q [] h = omega arith
one_at_most q (y ∷ ys) h = by_test (q y) refl (one_at_most q ys (λ i j x z l e f s u. h (suc i) (suc j) x z (omega (arith, l)) e f s u))
  where
    none_of : (zs : List Own) → ((i : ℕ) (x : Own) → slice_get zs i ≡ Some x → q x ≡ true → ⊥) → how_many q zs ≡ 0
    none_of [] f = refl
    none_of (z ∷ zs) f =
        let a : one_if (q z) ≡ 0 = ap one_if (false_from_ne_true (q z) (f 0 z refl)) in
        let r = none_of zs (λ i x e. f (suc i) x e) in omega (arith, a, r)

    by_test : (b : Bool) → q y ≡ b → how_many q ys ≤ 1 → one_if b + how_many q ys ≤ 1
    by_test true t rec = let n = none_of ys (λ i x e s. h 0 (suc i) y x (omega arith) refl e t s) in omega (arith, n)
    by_test false t rec = omega (arith, rec)

-- ---- by the scene

nth_within : {X : Type 0} (xs : List X) (k : ℕ) (x : X) → nth xs k ≡ Some x → (1 ≤ k) × (k < 1 + length xs)
nth_within xs zero x e = absurd cc
nth_within [] (suc k) x e = absurd (cc e)
nth_within (y ∷ xs) (suc zero) x e = (omega arith, omega arith)
nth_within (y ∷ xs) (suc (suc k)) x e = let r = nth_within xs (suc k) x e in (omega arith, omega (arith, r.1))

-- whether a transaction is undecided
abbrev pub is_open : Own → Bool
is_open x = not (is_decided x.phase)

-- whether it is certified and undecided
abbrev pub is_certain : Own → Bool
is_certain x = is_open x && has_lc x

module _ (here : Here) (ok : IsScene here.scene) (exists : has_node here here.node ≡ true) (own : List Own) (h : InOrder here.scene (here.node.0 - 1) own) where
  in_range : (i : ℕ) (x : Own) → slice_get own i ≡ Some x → (1 ≤ x.place.session.0) × (x.place.session.0 < 1 + length here.scene.sessions)
  in_range i x e = let p = h.placed i x e in nth_within here.scene.sessions x.place.session.0 p.text p.session

  session_text : (j : ℕ) (s : Session) (i : ℕ) (x : Own) → slice_get here.scene.sessions j ≡ Some s → slice_get own i ≡ Some x → (x.place.session.0 == 1 + j) ≡ true
      → (x.place.index ≤ length s.txs) × (1 ≤ x.place.index) × (same_node s.node here.node ≡ true)
  session_text j s i x e g t =
      let p = h.placed i x g in
      let n : x.place.session.0 ≡ suc j = eqb-true x.place.session.0 (1 + j) t ∙ omega arith in
      let both : Some p.text ≡ Some s = sym p.session ∙ (ap (λ k. nth here.scene.sessions k) n ∙ e) in
      let same : p.text ≡ s = cc both in (
        omega (arith, p.index.1, ap (λ (z : Session). length z.txs) same),
        p.index.0,
        eq-eqb s.node.0 here.node.0 (ap (λ (z : Session). z.node.0) (sym same) ∙ (p.node ∙ sym (node_number here exists))),
      )

  session_of : (i j k : ℕ) (x y : Own) → (x.place.session.0 == k) ≡ true → (y.place.session.0 == k) ≡ true → x.place.session.0 ≡ y.place.session.0
  session_of i j k x y a b = eqb-true x.place.session.0 k a ∙ sym (eqb-true y.place.session.0 k b)

  scripts_few : (j : ℕ) (s : Session) → slice_get here.scene.sessions j ≡ Some s → how_many (of_number (λ x. true) (1 + j)) own ≤ length s.txs
  scripts_few j s e =
      let r = rising_few (of_number (λ x. true) (1 + j)) (length s.txs) 0 own (omega arith) (λ i x g t. let k = session_text j s i x e g t in (omega (arith, k.1), k.0))
      (λ i k x y l f g t u. (h.order i k x y l f g (session_of i k (1 + j) x y t u)).index) in
      omega (arith, r)

  all_true : (xs : List Own) → how_many (λ x. true) xs ≡ length xs
  all_true [] = refl
  all_true (x ∷ xs) = let r = all_true xs in omega (arith, r)

  -- no more than there are scripts
  pub own_few : length own ≤ 1024
  own_few =
      let a = all_bound (λ x. true) own here.scene.sessions in_range in
      let b = sum_bound (λ x. true) own (λ (s : Session). length s.txs) 1 here.scene.sessions scripts_few in
      let c = ok.few_transactions in
      let n = all_true own in
      omega (arith, a, b, c, n)

  -- one undecided at most in a session of the node, and none in another
  open_few_in : (j : ℕ) (s : Session) → slice_get here.scene.sessions j ≡ Some s → how_many (of_number is_open (1 + j)) own ≤ one_if (same_node s.node here.node)
  open_few_in j s e = by_test (same_node s.node here.node) refl
    where
      none : (xs : List Own) → ((i : ℕ) (x : Own) → slice_get xs i ≡ Some x → of_number is_open (1 + j) x ≡ true → ⊥) → how_many (of_number is_open (1 + j)) xs ≡ 0
      none [] f = refl
      none (z ∷ zs) f =
          let a : one_if (of_number is_open (1 + j) z) ≡ 0 = ap one_if (false_from_ne_true (of_number is_open (1 + j) z) (f 0 z refl)) in
          let r = none zs (λ i x e. f (suc i) x e) in omega (arith, a, r)

      by_test : (b : Bool) → same_node s.node here.node ≡ b → how_many (of_number is_open (1 + j)) own ≤ one_if b
      by_test true t = one_at_most (of_number is_open (1 + j)) own (λ i k x y l f g p q.
          let a = and_parts (is_open x) (x.place.session.0 == 1 + j) p in
          let b = and_parts (is_open y) (y.place.session.0 == 1 + j) q in
          let d = (h.order i k x y l f g (session_of i k (1 + j) x y a.1 b.1)).decided in cc (ap not d, a.0))
      by_test false t = let n = none own (λ i x g p. cc ((session_text j s i x e g (and_parts (is_open x) (x.place.session.0 == 1 + j) p).1).2, t)) in omega (arith, n)

  -- at most 16 are undecided: one for each session of the node
  pub open_few : how_many is_open own ≤ 16
  open_few =
      let a = all_bound is_open own here.scene.sessions in_range in
      let b = sum_bound is_open own (λ (s : Session). one_if (same_node s.node here.node)) 1 here.scene.sessions open_few_in in
      let c = ok.at_one_node here.node in
      let d = ones here.scene.sessions in
      omega (arith, a, b, c, d)
    where
      ones : (ss : List Session) → sum_by (λ (s : Session). one_if (same_node s.node here.node)) ss ≡ count_by (λ s. same_node s.node here.node) ss
      ones ss = sums ss ∙ sym (many_count (λ (s : Session). same_node s.node here.node) ss)
        where
          sums : (ss : List Session) → sum_by (λ (s : Session). one_if (same_node s.node here.node)) ss ≡ how_many (λ (s : Session). same_node s.node here.node) ss
          sums [] = refl
          sums (s ∷ rest) = let g = sum_by-cons (λ (s : Session). one_if (same_node s.node here.node)) s rest in let r = sums rest in omega (arith, g, r)

  -- at most 15 are certified and undecided, where another one is undecided and isn't certified
  pub others_few : (i : ℕ) (x : Own) → slice_get own i ≡ Some x → is_decided x.phase ≡ false → lc_of x.phase ≡ None → how_many is_certain own ≤ 15
  others_few i x e o n =
      let l = many_less is_certain is_open own x (λ y t. (and_parts (is_open y) (has_lc y) t).0) (in_at own i x e) (ap (λ b. not b && has_lc x) o ∙ ap is_some n) (ap not o) in
      let f = open_few in omega (arith, l, f)

-- every time of a view has room for one more
pub times_low : (here : Here) → IsScene here.scene → has_node here here.node ≡ true → (v : View) → MomentFacts here v → times_end v < 2 ^ 63 - 1
times_low here ok exists v h =
    let a = own_few here ok exists v.own h.order in
    let b = many_within has_lc v.own in
    omega (arith, a, b)
