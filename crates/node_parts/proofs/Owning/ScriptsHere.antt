-- A node has no more own transactions than its sessions have scripts.
use Rattle.std.proofs.Common.{Bool, List, Some, [], ap, arith, eq-eqb, eqb-true, false, if◌then◌else◌, inl, inr, length, lt-ltb, nat_lt, refl, slice_get, subst, suc, sum_by, sym, true, ℕ, ◌+◌, ◌-◌, ◌==◌, ◌∙◌, ◌∷◌, ◌≡◌, ◌≤◌}
use Rattle.std.proofs.lemmas.Bool.{cases_order, false_from_ne_true, le-ltb, ne_eqb}
use Rattle.std.proofs.lemmas.List.Sums.{sum_by-cons}
use Rattle.str_base.specs.Versions.{same_node}
use Rattle.str_model.specs.NodeFacts.{InOrder, how_many, one_if}
use Rattle.str_model.specs.Strange.{has_node}
use Rattle.str_model.specs.Views.{Own}
use Rattle.str_scene.specs.Scenes.{Here, Session, nth}
use Rattle.str_model.proofs.OwnFacts.FewOwn.{rising_few}
use Rattle.str_model.proofs.OwnFacts.PlacesInOrder.{nth_exists}
use Rattle.str_model.proofs.ViewFacts.MomentKept.{node_number}
use Rattle.node_parts.specs.NodeScripts.{scripts_of}

-- ---- counts

-- the transaction is of the session with this number
abbrev is_of : ℕ → Own → Bool
is_of n x = x.place.session.0 == n

-- it is of a session with a lesser number
abbrev is_below : ℕ → Own → Bool
is_below n x = nat_lt x.place.session.0 n

one_more : (s n : ℕ) → one_if (nat_lt s (n + 1)) ≡ one_if (nat_lt s n) + one_if (s == n)
one_more s n = elim (cases_order s n) [
  | inl e ↦ (let a : one_if (nat_lt s (n + 1)) ≡ 1 = ap one_if (lt-ltb s (n + 1) (omega (arith, e))) in
      let b : one_if (nat_lt s n) ≡ 0 = ap one_if (le-ltb s n (omega (arith, e))) in
      let c : one_if (s == n) ≡ 1 = ap one_if (eq-eqb s n e) in omega (arith, a, b, c))
  | inr h ↦ elim h [
    | inl l ↦ (let a : one_if (nat_lt s (n + 1)) ≡ 1 = ap one_if (lt-ltb s (n + 1) (omega (arith, l))) in
        let b : one_if (nat_lt s n) ≡ 1 = ap one_if (lt-ltb s n l) in
        let c : one_if (s == n) ≡ 0 = ap one_if (ne_eqb s n (λ e. omega (arith, e, l))) in omega (arith, a, b, c))
    | inr g ↦ (let a : one_if (nat_lt s (n + 1)) ≡ 0 = ap one_if (le-ltb s (n + 1) (omega (arith, g))) in
        let b : one_if (nat_lt s n) ≡ 0 = ap one_if (le-ltb s n (omega (arith, g))) in
        let c : one_if (s == n) ≡ 0 = ap one_if (ne_eqb s n (λ e. omega (arith, e, g))) in omega (arith, a, b, c))
  ]
]

-- those of one session more
below_more : (n : ℕ) (xs : List Own) → how_many (is_below (n + 1)) xs ≡ how_many (is_below n) xs + how_many (is_of n) xs
below_more n [] = refl
below_more n (x ∷ xs) = let r = below_more n xs in let o = one_more x.place.session.0 n in omega (arith, r, o)

-- those of several sessions more
below_all : (xs : List Own) (f : Session → ℕ) (n : ℕ) (rest : List Session) → ((j : ℕ) (s : Session) → slice_get rest j ≡ Some s → how_many (is_of (n + j)) xs ≤ f s)
    → how_many (is_below (n + length rest)) xs ≤ how_many (is_below n) xs + sum_by f rest
below_all xs f n [] h = let e : how_many (is_below (n + 0)) xs ≡ how_many (is_below n) xs = ap (λ (k : ℕ). how_many (is_below k) xs) (omega arith) in omega (arith, e)
below_all xs f n (s ∷ rest) h =
    let r = below_all xs f (n + 1) rest (λ j t e. subst (λ (k : ℕ). how_many (is_of k) xs ≤ f t) (omega arith) (h (suc j) t e)) in
    let a : how_many (is_of n) xs ≤ f s = subst (λ (k : ℕ). how_many (is_of k) xs ≤ f s) (omega arith) (h 0 s refl) in
    let m = below_more n xs in
    let g = sum_by-cons f s rest in
    let e : how_many (is_below (n + length (s ∷ rest))) xs ≡ how_many (is_below (n + 1 + length rest)) xs = ap (λ (k : ℕ). how_many (is_below k) xs) (omega arith) in
    omega (arith, r, a, m, g, e)

all_pass : (p : Own → Bool) (xs : List Own) → ((i : ℕ) (x : Own) → slice_get xs i ≡ Some x → p x ≡ true) → how_many p xs ≡ length xs
all_pass p [] h = refl
all_pass p (x ∷ xs) h =
    let a : one_if (p x) ≡ 1 = ap one_if (h 0 x refl) in
    let r = all_pass p xs (λ i y e. h (suc i) y e) in omega (arith, a, r)

none_pass : (p : Own → Bool) (xs : List Own) → ((i : ℕ) (x : Own) → slice_get xs i ≡ Some x → p x ≡ false) → how_many p xs ≡ 0
none_pass p [] h = refl
none_pass p (x ∷ xs) h =
    let a : one_if (p x) ≡ 0 = ap one_if (h 0 x refl) in
    let r = none_pass p xs (λ i y e. h (suc i) y e) in omega (arith, a, r)

-- ---- by the scene

module _ (here : Here) (exists : has_node here here.node ≡ true) (own : List Own) (h : InOrder here.scene (here.node.0 - 1) own) where
  -- those of one session are no more than its scripts, and none where the session is one of another node
  session_few : (j : ℕ) (s : Session) → slice_get here.scene.sessions j ≡ Some s → how_many (is_of (1 + j)) own ≤ (if same_node s.node here.node then length s.txs else 0)
  session_few j s e = by_test (same_node s.node here.node) refl
    where
      number : (x : Own) → is_of (1 + j) x ≡ true → x.place.session.0 ≡ suc j
      number x t = eqb-true x.place.session.0 (1 + j) t ∙ omega arith

      text : (i : ℕ) (x : Own) → slice_get own i ≡ Some x → is_of (1 + j) x ≡ true → (1 ≤ x.place.index) × (x.place.index ≤ length s.txs) × (same_node s.node here.node ≡ true)
      text i x g t =
          let p = h.placed i x g in
          let both : Some p.text ≡ Some s = sym p.session ∙ (ap (λ k. nth here.scene.sessions k) (number x t) ∙ e) in
          let same : p.text ≡ s = cc both in (
            p.index.0,
            omega (arith, p.index.1, ap (λ (z : Session). length z.txs) same),
            eq-eqb s.node.0 here.node.0 (ap (λ (z : Session). z.node.0) (sym same) ∙ (p.node ∙ sym (node_number here exists))),
          )

      by_test : (b : Bool) → same_node s.node here.node ≡ b → how_many (is_of (1 + j)) own ≤ (if b then length s.txs else 0)
      by_test true t =
          let r = rising_few (is_of (1 + j)) (length s.txs) 0 own (omega arith) (λ i x g u. let k = text i x g u in (omega (arith, k.0), k.1))
          (λ i k x y l f g u v. (h.order i k x y l f g (number x u ∙ sym (number y v))).index) in
          omega (arith, r)
      by_test false t =
          let n = none_pass (is_of (1 + j)) own (λ i x g. false_from_ne_true (is_of (1 + j) x) (λ u. cc ((text i x g u).2, t))) in omega (arith, n)

  -- no more than there are scripts of the node
  pub own_here : length own ≤ scripts_of here.node here.scene.sessions
  own_here =
      let within = λ (i : ℕ) (x : Own) (e : slice_get own i ≡ Some x). nth_exists here.scene.sessions x.place.session.0 (h.placed i x e).text (h.placed i x e).session in
      let a = below_all own (λ (s : Session). if same_node s.node here.node then length s.txs else 0) 1 here.scene.sessions session_few in
      let b = all_pass (is_below (1 + length here.scene.sessions)) own (λ i x e. lt-ltb x.place.session.0 (1 + length here.scene.sessions) (omega (arith, (within i x e).1))) in
      let c = none_pass (is_below 1) own (λ i x e. le-ltb x.place.session.0 1 (within i x e).0) in
      omega (arith, a, b, c)
