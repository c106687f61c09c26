-- The ends of nodes, made one node after another.
use Rattle.std.proofs.Common.{◌≡◌, ◌≢◌, ℕ, ◌+◌, ◌-◌, ◌<◌, Bool, true, false, cond, nat_lt, List, [], ◌∷◌, ◌++◌, length, set, All, AllPairs, slice_index_or, refl, ap, sym, subst, ◌∙◌, arith, inl, inr, length-append, length-set, get_or-set_same, get_or-set_other, lt-ltb, le-ltb}
use Rattle.std.proofs.lemmas.Bool.{cases_lt}
use Rattle.std.proofs.lemmas.List.{get_or_append_left, get_or_default}
use Rattle.std.proofs.lemmas.List.Elements.{All-append, All-cons, All-nil}
use Rattle.std.proofs.Math.Seq.{get_or-append_seam}
use Rattle.ring_links.specs.declared.link.Link.{Link}
use Rattle.ring_links.specs.Links.{AreLinked, IsFresh}
use Rattle.ring_links.specs.Ends.{Ends, place_of, Meet, AreEnds, Joins}
use Rattle.ring_links.specs.Making.{IsJoined, AreJoined}

-- ---- lists

module _ {X : Type 0} where
  at_end : (xs : List X) (y : X) (n : ℕ) (d : X) → length xs ≡ n → slice_index_or (xs ++ y ∷ []) n d ≡ y
  at_end xs y n d len = subst (λ (k : ℕ). slice_index_or (xs ++ y ∷ []) k d ≡ y) len (get_or-append_seam xs y [] d)

-- ---- places

place_up : (i j : ℕ) → i < j → place_of (i + 1) (j + 1) ≡ j - 1
place_up i j lt =
    let no : nat_lt (j + 1) (i + 1) ≡ false = le-ltb (j + 1) (i + 1) (omega (arith, lt)) in
    let less : (j + 1) - 2 ≡ j - 1 = omega arith in
    ap (λ (b : Bool). cond b ((j + 1) - 1) ((j + 1) - 2)) no ∙ less

place_down : (i j : ℕ) → i < j → place_of (j + 1) (i + 1) ≡ i
place_down i j lt =
    let yes : nat_lt (i + 1) (j + 1) ≡ true = lt-ltb (i + 1) (j + 1) (omega (arith, lt)) in
    let same : (i + 1) - 1 ≡ i = omega arith in
    ap (λ (b : Bool). cond b ((i + 1) - 1) ((i + 1) - 2)) yes ∙ same

module _ (x y : Ends) (i j : ℕ) (nx : x.node ≡ i + 1) (ny : y.node ≡ j + 1) (lt : i < j) where
  up : place_of x.node y.node ≡ j - 1
  up = ap (λ (a : ℕ). place_of a y.node) nx ∙ (ap (λ (b : ℕ). place_of (i + 1) b) ny ∙ place_up i j lt)

  down : place_of y.node x.node ≡ i
  down = ap (λ (a : ℕ). place_of a x.node) ny ∙ (ap (λ (b : ℕ). place_of (j + 1) b) nx ∙ place_down i j lt)

  -- two ends meet where the links at these places are linked
  meets : ((f : Link) → AreLinked (slice_index_or x.links (j - 1) f) (slice_index_or y.links i f)) → Meet x y
  meets h f =
      subst (λ (k : ℕ). AreLinked (slice_index_or x.links k f) (slice_index_or y.links (place_of y.node x.node) f)) (sym up)
      (subst (λ (k : ℕ). AreLinked (slice_index_or x.links (j - 1) f) (slice_index_or y.links k f)) (sym down) (h f))

  met : Meet x y → (f : Link) → AreLinked (slice_index_or x.links (j - 1) f) (slice_index_or y.links i f)
  met h f =
      subst (λ (k : ℕ). AreLinked (slice_index_or x.links k f) (slice_index_or y.links i f)) up
      (subst (λ (k : ℕ). AreLinked (slice_index_or x.links (place_of x.node y.node) f) (slice_index_or y.links k f)) down (h f))

-- ---- one more is joined

pub none_joined : (es : List Ends) (later : Ends) → later.links ≡ [] → AreJoined 0 es es later
none_joined es later e = record {
  count = refl;
  width = ap (λ (ls : List Link). length ls) e;
  joined = λ i d lt. absurd (omega (arith, lt));
  rest = λ i d le. refl;
}

module _ (n : ℕ) (es es' : List Ends) (later later' x d0 : Ends) (a : AreJoined n es es' later) (lt : n < length es)
    (node : x.node ≡ (slice_index_or es' n d0).node) (h : Joins (slice_index_or es' n d0) x later later') where
  within : n < length es'
  within = omega (arith, a.count, lt)

  width' : length later'.links ≡ n + 1
  width' = ap (λ (ls : List Link). length ls) h.others ∙ (length-append later.links (h.theirs ∷ []) ∙ ap (λ (k : ℕ). k + 1) a.width)

  here : (d : Ends) → IsJoined (slice_index_or es n d) (slice_index_or (set es' n x) n d) later' n
  here d =
      let was : slice_index_or es' n d0 ≡ slice_index_or es n d = get_or_default es' n d0 d within ∙ a.rest n d (omega arith) in
      let is : x ≡ slice_index_or (set es' n x) n d = sym (get_or-set_same es' n x d within) in
      subst (λ (z : Ends). IsJoined (slice_index_or es n d) z later' n) is
      (subst (λ (z : Ends). IsJoined z x later' n) was (record {
        node = node;
        mine = h.mine;
        theirs = h.theirs;
        links = h.links;
        there = λ f. ap (λ (ls : List Link). slice_index_or ls n f) h.others ∙ at_end later.links h.theirs n f a.width;
        linked = h.linked;
        fresh = h.fresh;
        fresh_too = h.fresh_too;
      }))

  before : (i : ℕ) (d : Ends) → i < n → IsJoined (slice_index_or es i d) (slice_index_or (set es' n x) i d) later' i
  before i d less =
      let j = a.joined i d less in
      let other : i ≢ n = omega (arith, less) in
      subst (λ (z : Ends). IsJoined (slice_index_or es i d) z later' i) (sym (get_or-set_other es' n i x d other)) (record {
        node = j.node;
        mine = j.mine;
        theirs = j.theirs;
        links = j.links;
        there = λ f. ap (λ (ls : List Link). slice_index_or ls i f) h.others
            ∙ (get_or_append_left later.links (h.theirs ∷ []) f i (omega (arith, a.width, less)) ∙ j.there f);
        linked = j.linked;
        fresh = j.fresh;
        fresh_too = j.fresh_too;
      })

  joined' : (i : ℕ) (d : Ends) → i < n + 1 → IsJoined (slice_index_or es i d) (slice_index_or (set es' n x) i d) later' i
  joined' i d less = elim (cases_lt i n) [
    | inl small ↦ before i d small
    | inr large ↦ (let same : n ≡ i = omega (arith, less, large) in
        subst (λ (k : ℕ). IsJoined (slice_index_or es k d) (slice_index_or (set es' n x) k d) later' k) same (here d))
  ]

  pub one_joined : AreJoined (n + 1) es (set es' n x) later'
  one_joined = record {
    count = length-set es' n x ∙ a.count;
    width = width';
    joined = joined';
    rest = λ i d le. (let other : i ≢ n = omega (arith, le) in get_or-set_other es' n i x d other ∙ a.rest i d (omega (arith, le)));
  }

-- ---- one node more

pub no_ends : AreEnds [] 0
no_ends = record {
  count = refl;
  node = λ i d lt. absurd (omega (arith, lt));
  width = λ i d lt. absurd (omega (arith, lt));
  fresh = λ i d lt. absurd (omega (arith, lt));
  meet = λ i j d lt within. absurd (omega (arith, lt, within));
}

module _ (n : ℕ) (es es' : List Ends) (later : Ends) (a : AreEnds es n) (j : AreJoined n es es' later) (own : later.node ≡ n + 1) where
  abbrev all : List Ends
  all = es' ++ later ∷ []

  long : length es' ≡ n
  long = j.count ∙ a.count

  old : (i : ℕ) (d : Ends) → i < n → slice_index_or all i d ≡ slice_index_or es' i d
  old i d lt = get_or_append_left es' (later ∷ []) d i (omega (arith, long, lt))

  new : (d : Ends) → slice_index_or all n d ≡ later
  new d = at_end es' later n d long

  -- what holds of the older ends and of the new one holds of all
  each : (P : ℕ → Ends → Type 0) → ((i : ℕ) (d : Ends) → i < n → P i (slice_index_or es' i d)) → P n later → (i : ℕ) (d : Ends) → i < n + 1 → P i (slice_index_or all i d)
  each P h l i d lt = elim (cases_lt i n) [
    | inl small ↦ subst (λ (z : Ends). P i z) (sym (old i d small)) (h i d small)
    | inr large ↦ (let same : n ≡ i = omega (arith, lt, large) in
        subst (λ (k : ℕ). P k (slice_index_or all k d)) same (subst (λ (z : Ends). P n z) (sym (new d)) l))
  ]

  node_of : (i : ℕ) (d : Ends) → i < n → (slice_index_or es' i d).node ≡ i + 1
  node_of i d lt = (j.joined i d lt).node ∙ a.node i d lt

  grown : (i : ℕ) (d : Ends) → i < n → length (slice_index_or es' i d).links ≡ length (slice_index_or es i d).links + 1
  grown i d lt = let g = j.joined i d lt in ap (λ (ls : List Link). length ls) g.links ∙ length-append (slice_index_or es i d).links (g.mine ∷ [])

  width_of : (i : ℕ) (d : Ends) → i < n → length (slice_index_or es' i d).links + 1 ≡ n + 1
  width_of i d lt = ap (λ (k : ℕ). k + 1) (grown i d lt ∙ a.width i d lt)

  fresh_of : (i : ℕ) (d : Ends) → i < n → All IsFresh (slice_index_or es' i d).links
  fresh_of i d lt =
      let g = j.joined i d lt in
      subst (λ (ls : List Link). All IsFresh ls) (sym g.links)
      (All-append IsFresh (slice_index_or es i d).links (g.mine ∷ []) (a.fresh i d lt) (All-cons IsFresh g.mine [] g.fresh (All-nil IsFresh)))

  fresh_later : (d : Ends) → All IsFresh later.links
  fresh_later d k f lt =
      let g = j.joined k d (omega (arith, lt, j.width)) in
      subst (λ (l : Link). IsFresh l) (sym (g.there f)) g.fresh_too

  -- a link that stood before stands
  kept : (i k : ℕ) (d : Ends) (f : Link) (lt : i < n) → k + 1 < n → slice_index_or (slice_index_or es' i d).links k f ≡ slice_index_or (slice_index_or es i d).links k f
  kept i k d f lt less =
      let g = j.joined i d lt in
      let wide = a.width i d lt in
      ap (λ (ls : List Link). slice_index_or ls k f) g.links ∙ get_or_append_left (slice_index_or es i d).links (g.mine ∷ []) f k (omega (arith, wide, less))

  both_old : (i k : ℕ) (d : Ends) → i < k → k < n → Meet (slice_index_or es' i d) (slice_index_or es' k d)
  both_old i k d lt within =
      let first : i < n = omega (arith, lt, within) in
      let before = a.meet i k d lt (omega (arith, within, a.count)) in
      meets (slice_index_or es' i d) (slice_index_or es' k d) i k (node_of i d first) (node_of k d within) lt
      (λ f.
      let m = met (slice_index_or es i d) (slice_index_or es k d) i k (a.node i d first) (a.node k d within) lt before f in
      subst (λ (l : Link). AreLinked l (slice_index_or (slice_index_or es' k d).links i f)) (sym (kept i (k - 1) d f first (omega (arith, lt, within))))
      (subst (λ (l : Link). AreLinked (slice_index_or (slice_index_or es i d).links (k - 1) f) l) (sym (kept k i d f within (omega (arith, lt, within)))) m))

  with_later : (i : ℕ) (d : Ends) → i < n → Meet (slice_index_or es' i d) later
  with_later i d lt =
      let g = j.joined i d lt in
      let wide = a.width i d lt in
      let len : length (slice_index_or es i d).links ≡ n - 1 = omega (arith, wide) in
      meets (slice_index_or es' i d) later i n (node_of i d lt) own lt
      (λ f.
      let mine : slice_index_or (slice_index_or es' i d).links (n - 1) f ≡ g.mine = ap (λ (ls : List Link). slice_index_or ls (n - 1) f) g.links ∙ at_end (slice_index_or es i d).links g.mine (n - 1) f len in
      subst (λ (l : Link). AreLinked l (slice_index_or later.links i f)) (sym mine)
      (subst (λ (l : Link). AreLinked g.mine l) (sym (g.there f)) g.linked))

  meet_of : AllPairs Meet all
  meet_of i k d lt within =
      let size : length all ≡ n + 1 = length-append es' (later ∷ []) ∙ ap (λ (m : ℕ). m + 1) long in
      let first : i < n = omega (arith, lt, within, size) in
      subst (λ (z : Ends). Meet z (slice_index_or all k d)) (sym (old i d first))
      (elim (cases_lt k n) [
        | inl small ↦ subst (λ (z : Ends). Meet (slice_index_or es' i d) z) (sym (old k d small)) (both_old i k d lt small)
        | inr large ↦ (let same : n ≡ k = omega (arith, within, size, large) in
            subst (λ (m : ℕ). Meet (slice_index_or es' i d) (slice_index_or all m d)) same
            (subst (λ (z : Ends). Meet (slice_index_or es' i d) z) (sym (new d)) (with_later i d first)))
      ])

  pub one_more : AreEnds (es' ++ later ∷ []) (n + 1)
  one_more = record {
    count = length-append es' (later ∷ []) ∙ ap (λ (m : ℕ). m + 1) long;
    node = each (λ i z. z.node ≡ i + 1) node_of own;
    width = each (λ i z. length z.links + 1 ≡ n + 1) width_of (ap (λ (m : ℕ). m + 1) j.width);
    fresh = λ i d lt. each (λ k z. All IsFresh z.links) fresh_of (fresh_later d) i d lt;
    meet = meet_of;
  }
