-- The gate of a certified transaction is looked at often enough: once for each partition that may be asked, and once for the commit.
use Rattle.std.proofs.Common.{Bool, List, None, Option, Some, [], ap, arith, eq-eqb, eqb-true, false, find, inl, inr, is_some, length, map, not, refl, slice_get, slice_set, subst, suc, sym, true, zero, ℕ, ◌&&◌, ◌+◌, ◌∙◌, ◌∷◌, ◌≡◌, ◌≤◌, ◌||◌}
use Rattle.std.proofs.lemmas.List.FromFn.{length-map-range_with_len}
use Rattle.std.specs.List.{list_any}
use Rattle.partition_map.specs.declared.rows.Asked.{Asked}
use Rattle.str_base.specs.declared.names.NodeId.{NodeId}
use Rattle.str_base.specs.declared.names.PartId.{PartId}
use Rattle.dependency_set.specs.declared.names.Dep.{Dep}
use Rattle.dependency_set.specs.Snapshots.{Snap}
use Rattle.str_base.specs.Versions.{same_part}
use Rattle.str_model.specs.Acts.{asked, committed, decided_as, with_asked}
use Rattle.str_model.specs.Gates.{Ask, CommitAt, DepParts, GateTurn, Missing, Shut, gate_of, gate_turn, may_ask}
use Rattle.str_model.specs.Gates
use Rattle.str_model.specs.NodeFacts.{EndedAt, IsShut, how_many, one_if, seats}
use Rattle.str_model.specs.Owned.{Owns}
use Rattle.str_model.specs.Pass.{gates}
use Rattle.str_model.specs.Pass
use Rattle.str_scene.specs.Scenes.{Here, Scene, all_parts, others, participants, replicas, unasked, written_parts}
use Rattle.str_model.specs.Scripts
use Rattle.str_model.specs.Views.{Aborted, Active, CertWait, Closing, Committed, Doing, Global, Local, Own, Phase, ReadWait, Remote, Reply, View, is_decided, lc_of}
use Rattle.str_model.proofs.OwnFacts.AskedParts.{find_some}
use Rattle.str_model.proofs.OwnFacts.LocalOwners.{same_own}
use Rattle.str_model.proofs.Changes.PairWords.{any_has}
use Rattle.std.proofs.lemmas.Bool.{and_from, false_from_ne_true, not-true}
use Rattle.str_base.proofs.Members.{any_in, in_filter, in_flat_map, in_map, map_in}
use Rattle.str_base.proofs.Tests.{and_true_left, and_true_right}
use Rattle.str_base.proofs.Lists.{found_passes, get_set}
use Rattle.str_base.specs.Members.{In}

-- ---- partitions that may be asked

-- a participant of the partition is not asked
abbrev pub open_at : List Asked → PartId → Bool
open_at parts q = list_any (λ a. same_part a.part q && not a.asked) parts

-- how many partitions have a participant that is not asked
abbrev pub to_ask : Scene → List Asked → ℕ
to_ask scene parts = how_many (open_at parts) (all_parts scene)

-- the participants are of partitions of the scene
abbrev pub OfScene : Scene → List Asked → Type 0
OfScene scene parts = (a : Asked) → In a parts → In a.part (all_parts scene)

pub many_within : {A : Type 0} (f : A → Bool) (xs : List A) → how_many f xs ≤ length xs
many_within f [] = omega arith
many_within f (x ∷ xs) = let r = many_within f xs in let b = at_most (f x) in omega (arith, r, b)
  where
    at_most : (b : Bool) → one_if b ≤ 1
    at_most true = omega arith
    at_most false = omega arith

pub many_mono : {A : Type 0} (f g : A → Bool) (xs : List A) → ((y : A) → f y ≡ true → g y ≡ true) → how_many f xs ≤ how_many g xs
many_mono f g [] h = omega arith
many_mono f g (x ∷ xs) h = let r = many_mono f g xs h in let b = one (f x) (g x) (h x) in omega (arith, r, b)
  where
    one : (a b : Bool) → (a ≡ true → b ≡ true) → one_if a ≤ one_if b
    one false b q = omega arith
    one true true q = omega arith
    one true false q = absurd (cc (q refl))

-- one fewer passes
pub many_less : {A : Type 0} (f g : A → Bool) (xs : List A) (x : A) → ((y : A) → f y ≡ true → g y ≡ true) → In x xs → f x ≡ false → g x ≡ true → how_many f xs + 1 ≤ how_many g xs
many_less f g [] x h i a b = absurd i
many_less f g (y ∷ xs) x h (inl e) a b =
    let r = many_mono f g xs h in
    let p : one_if (f y) ≡ 0 = ap (λ z. one_if (f z)) e ∙ ap one_if a in
    let q : one_if (g y) ≡ 1 = ap (λ z. one_if (g z)) e ∙ ap one_if b in omega (arith, r, p, q)
many_less f g (y ∷ xs) x h (inr i) a b = let r = many_less f g xs x h i a b in let c = one (f y) (g y) (h y) in omega (arith, r, c)
  where
    one : (a b : Bool) → (a ≡ true → b ≡ true) → one_if a ≤ one_if b
    one false b q = omega arith
    one true true q = omega arith
    one true false q = absurd (cc (q refl))

abbrev part_at : ℕ → PartId
part_at n = record { 0 = n }

pub to_ask-within : (scene : Scene) (parts : List Asked) → to_ask scene parts ≤ length scene.parts
to_ask-within scene parts =
    let a = many_within (open_at parts) (all_parts scene) in
    let c : length (all_parts scene) ≡ length scene.parts = length-map-range_with_len part_at 1 (length scene.parts) in omega (arith, a, c)

-- ---- one more is asked

not_or_left : (a b : Bool) → not (a || b) ≡ true → not a ≡ true
not_or_left true b e = absurd cc
not_or_left false b e = refl

not_or_right : (a b : Bool) → not (a || b) ≡ true → not b ≡ true
not_or_right true b e = absurd cc
not_or_right false b e = e

-- what is open after a partition was asked was open
still_open : (p q : PartId) (parts : List Asked) → open_at (with_asked p parts) q ≡ true → (open_at parts q ≡ true) × ((same_part q p ≡ true) → ⊥)
still_open p q parts e =
    let h = any_has (λ (a : Asked). same_part a.part q && not a.asked) (with_asked p parts) e in
    let r = in_map {A = Asked} {B = Asked} (λ (a : Asked). record a { asked = a.asked || same_part a.part p }) parts h.0 h.1 in
    let t : (same_part r.0.part q && not (r.0.asked || same_part r.0.part p)) ≡ true = ap (λ (z : Asked). same_part z.part q && not z.asked) r.2 ∙ h.2 in
    let s = and_true_left (same_part r.0.part q) (not (r.0.asked || same_part r.0.part p)) t in
    let n = and_true_right (same_part r.0.part q) (not (r.0.asked || same_part r.0.part p)) t in (
      any_in (λ (a : Asked). same_part a.part q && not a.asked) parts r.0 r.1 (and_from (same_part r.0.part q) (not r.0.asked) s (not_or_left r.0.asked (same_part r.0.part p) n)),
      λ z. clash r.0.part s z (not_or_right r.0.asked (same_part r.0.part p) n),
    )
  where
    clash : (a : PartId) → same_part a q ≡ true → same_part q p ≡ true → not (same_part a p) ≡ true → ⊥
    clash a s z n = cc (ap not (eq-eqb a.0 p.0 (eqb-true a.0 q.0 s ∙ eqb-true q.0 p.0 z)), n)

-- the partition that is asked was open, and is one of the scene's
asked_less : (scene : Scene) (p : PartId) (parts : List Asked) (a : Asked) → In a parts → a.part ≡ p → a.asked ≡ false → OfScene scene parts → to_ask scene (with_asked p parts) + 1 ≤ to_ask scene parts
asked_less scene p parts a h e f o =
    let self : same_part p p ≡ true = eq-eqb p.0 p.0 refl in
    many_less (open_at (with_asked p parts)) (open_at parts) (all_parts scene) p (λ q k. (still_open p q parts k).0)
    (subst (λ q. In q (all_parts scene)) e (o a h))
    (false_from_ne_true (open_at (with_asked p parts) p) (λ k. (still_open p p parts k).1 self))
    (any_in (λ (b : Asked). same_part b.part p && not b.asked) parts a h (and_from (same_part a.part p) (not a.asked) (ap (λ q. same_part q p) e ∙ self) (ap not f)))

asked_of : (scene : Scene) (p : PartId) (parts : List Asked) → OfScene scene parts → OfScene scene (with_asked p parts)
asked_of scene p parts o b h =
    let r = in_map {A = Asked} {B = Asked} (λ (a : Asked). record a { asked = a.asked || same_part a.part p }) parts b h in
    subst (λ q. In q (all_parts scene)) (ap (λ (z : Asked). z.part) r.2) (o r.0 r.1)

-- the participant for which the gate asks
pub gate_open : (snap : Snap) (lc : ℕ) (parts : List Asked) (wrote : List DepParts) (p : PartId) → gate_turn snap lc parts wrote ≡ Ask p → (a : Asked) × In a parts × (a.part ≡ p) × (a.asked ≡ false)
unfolding gate_turn
gate_open snap lc parts wrote p e = by_ask (find (may_ask wrote) parts) refl e
  where
    by_missing : (o : Option Asked) → Gates.gate_acks lc parts o ≡ Ask p → ⊥
    by_missing None q = cc q
    by_missing (Some a) q = cc q

    by_deps : (ds : List Dep) → Gates.gate_deps lc parts ds ≡ Ask p → ⊥
    by_deps [] q = by_missing (find (λ a. not (is_some a.ack)) parts) q
    by_deps (d ∷ ds) q = cc q

    by_ask : (o : Option Asked) → find (may_ask wrote) parts ≡ o → Gates.gate_asks snap lc parts o ≡ Ask p → (a : Asked) × In a parts × (a.part ≡ p) × (a.asked ≡ false)
    by_ask (Some a) f q = (a, find_some (may_ask wrote) parts a f, cc q, not-true a.asked (and_true_left (not a.asked) (not (Gates.dependency_wrote wrote a.part)) (found_passes (may_ask wrote) parts a f)))
    by_ask None f q = absurd (by_deps snap.deps q)

-- ---- the participants of a transaction are of the scene

pub participants_of : (scene : Scene) (n : NodeId) (ws : _) → OfScene scene (participants scene n ws)
participants_of scene n ws a h =
    let r = in_flat_map (λ (p : PartId). map (unasked p) (others n (replicas scene p))) (written_parts scene ws) a h in
    let m = in_map (unasked r.0) (others n (replicas scene r.0)) a r.2 in
    subst (λ q. In q (all_parts scene)) (ap (λ (z : Asked). z.part) m.2) (in_filter _ (all_parts scene) r.0 r.1).0

-- who has the seats of such participants is one of them
pub seats_of : (scene : Scene) (xs ys : List Asked) → seats xs ≡ seats ys → OfScene scene ys → OfScene scene xs
seats_of scene xs ys e o a h =
    let s : In (a.part, a.node) (seats ys) = subst (λ zs. In (a.part, a.node) zs) e (map_in {A = Asked} (λ (b : Asked). (b.part, b.node)) xs a h) in
    let r = in_map {A = Asked} (λ (b : Asked). (b.part, b.node)) ys (a.part, a.node) s in
    subst (λ q. In q (all_parts scene)) (ap (λ (z : PartId × NodeId). z.0) r.2) (o r.0 r.1)

-- ---- the gates end

-- at the i-th transaction at most n partitions are left to be asked
pub record Asks (here : Here) (i n : ℕ) (v : View) : Type 0 where
  pub few : (x : Own) → Owns v i x → to_ask here.scene x.parts ≤ n
  pub of : (x : Own) → Owns v i x → OfScene here.scene x.parts

module _ (here : Here) (i : ℕ) where
  -- after a partition was asked one fewer is left
  pub asks_next : (n lc : ℕ) (p : PartId) (x : Own) (d : Doing) → Owns d.view i x → gate_of here d.view lc x ≡ Ask p → Asks here i n d.view → (m : ℕ) × (n ≡ suc m) × Asks here i m (asked here i lc p x d).view
  unfolding asked
  asks_next n lc p x d own g h =
      let a = gate_open x.snap lc x.parts _ p g in
      let l = asked_less here.scene p x.parts a.0 a.1 a.2 a.3 (h.of x own) in
      let f = h.few x own in
      let y : Own = record x { parts = with_asked p x.parts; phase = Global lc } in
      let is : (z : Own) → slice_get (slice_set d.view.own i y) i ≡ Some z → y ≡ z = λ z q. (let k : Some y ≡ Some z = sym (get_set d.view.own i x y own) ∙ q in cc k) in
      by_number n refl l f is
    where
      by_number : (k : ℕ) → n ≡ k → to_ask here.scene (with_asked p x.parts) + 1 ≤ to_ask here.scene x.parts → to_ask here.scene x.parts ≤ n
          → ((z : Own) → slice_get (slice_set d.view.own i (record x { parts = with_asked p x.parts; phase = Global lc })) i ≡ Some z → record x { parts = with_asked p x.parts; phase = Global lc } ≡ z)
          → (m : ℕ) × (n ≡ suc m) × Asks here i m (asked here i lc p x d).view
      by_number zero q l f is = absurd (omega (arith, q, l, f))
      by_number (suc m) q l f is = (
        m,
        q,
        record {
          few = λ z own'. subst (λ (u : Own). to_ask here.scene u.parts ≤ m) (is z own') (omega (arith, q, l, f));
          of = λ z own'. subst (λ (u : Own). OfScene here.scene u.parts) (is z own') (asked_of here.scene p x.parts (h.of x own));
        },
      )

  one_lc : (d : Doing) (x y : Own) (lc m : ℕ) → Owns d.view i x → Owns d.view i y → lc_of x.phase ≡ Some lc → lc_of y.phase ≡ Some m → IsShut (gate_of here d.view lc x) → IsShut (gate_of here d.view m y)
  one_lc d x y lc m ox oy lx ly h =
      let same = same_own d.view i i x y ox oy refl in
      let k : Some lc ≡ Some m = sym lx ∙ (ap (λ (z : Own). lc_of z.phase) same ∙ ly) in
      let is : lc ≡ m = cc k in
      subst (λ n. IsShut (gate_of here d.view n y)) is (subst (λ z. IsShut (gate_of here d.view lc z)) same h)

  ends_by : (n : ℕ) (d : Doing) → Asks here i n d.view → ((m : ℕ) → n ≡ suc m → (e : Doing) → Asks here i m e.view → EndedAt here (gates here i n e).view i)
      → EndedAt here (gates here i (suc n) d).view i
  unfolding committed
  ends_by n d h again = by_own (slice_get d.view.own i) refl
    where
      none_lc : (x : Own) → Owns d.view i x → lc_of x.phase ≡ None → EndedAt here d.view i
      none_lc x own l y m own' o k = let same = same_own d.view i i x y own own' refl in absurd (cc (l, ap (λ (z : Own). lc_of z.phase) same, k))

      by_gate : (lc : ℕ) (x : Own) (g : GateTurn) → Owns d.view i x → lc_of x.phase ≡ Some lc → gate_of here d.view lc x ≡ g → EndedAt here (Pass.gate_done here i (gates here i n) lc x g d).view i
      by_gate lc x (Shut q) own l e = λ y m own' o k. one_lc d x y lc m own own' l k (subst IsShut (sym e) tt)
      by_gate lc x (Missing p r) own l e = λ y m own' o k. one_lc d x y lc m own own' l k (subst IsShut (sym e) tt)
      by_gate lc x (CommitAt fc) own l e = λ y m own' o k.
          (let z : Own = decided_as (Committed (Some lc) (Some fc)) x in
          let q : Some z ≡ Some y = sym (get_set d.view.own i x z own) ∙ own' in
          let is : z ≡ y = cc q in absurd (cc (ap (λ (u : Own). is_decided u.phase) is, o)))
      by_gate lc x (Ask p) own l e =
          let r = asks_next n lc p x d own e h in again r.0 r.1 (asked here i lc p x d) r.2

      by_phase : (x : Own) (p : Phase) → Owns d.view i x → x.phase ≡ p → EndedAt here (Pass.gate_phase here i (gates here i n) p x d).view i
      by_phase x (Local lc) own e = by_gate lc x (gate_of here d.view lc x) own (ap lc_of e) refl
      by_phase x (Global lc) own e = by_gate lc x (gate_of here d.view lc x) own (ap lc_of e) refl
      by_phase x Active own e = none_lc x own (ap lc_of e)
      by_phase x (ReadWait k) own e = none_lc x own (ap lc_of e)
      by_phase x (Remote k) own e = none_lc x own (ap lc_of e)
      by_phase x (Reply k a by fc) own e = none_lc x own (ap lc_of e)
      by_phase x CertWait own e = none_lc x own (ap lc_of e)
      by_phase x (Closing wish) own e = none_lc x own (ap lc_of e)
      by_phase x (Committed m fc) own e = λ y k own' o l. absurd (cc (ap (λ (z : Own). is_decided z.phase) (same_own d.view i i x y own own' refl), ap is_decided e, o))
      by_phase x (Aborted m c) own e = λ y k own' o l. absurd (cc (ap (λ (z : Own). is_decided z.phase) (same_own d.view i i x y own own' refl), ap is_decided e, o))

      by_open : (x : Own) (b : Bool) → Owns d.view i x → is_decided x.phase ≡ b → EndedAt here (Scripts.unless_decided b (λ z. Pass.gate_phase here i (gates here i n) x.phase x z) d).view i
      by_open x true own e = λ y m own' o k. absurd (cc (ap (λ (z : Own). is_decided z.phase) (same_own d.view i i x y own own' refl), e, o))
      by_open x false own e = by_phase x x.phase own refl

      by_own : (o : Option Own) → slice_get d.view.own i ≡ o → EndedAt here (Scripts.of_own (λ x. Pass.gate_phase here i (gates here i n) x.phase x) o d).view i
      by_own None e = λ y m own' o k. absurd (cc (e, own'))
      by_own (Some x) e = by_open x (is_decided x.phase) e refl

  -- with so much fuel the gate waits at the end, or the transaction is decided
  pub gates-end : (n : ℕ) (d : Doing) → Asks here i n d.view → EndedAt here (gates here i (suc n) d).view i
  gates-end zero d h = ends_by zero d h (λ m q e a. absurd (cc q))
  gates-end (suc k) d h = ends_by (suc k) d h (λ m q e a. let is : k ≡ m = cc q in gates-end k e (subst (λ j. Asks here i j e.view) (sym is) a))

  -- ---- more fuel changes nothing

  same_gate : (a b : Doing → Doing) (d : Doing) (lc : ℕ) (x : Own) (g : GateTurn) → ((p : PartId) → g ≡ Ask p → a (asked here i lc p x d) ≡ b (asked here i lc p x d))
      → Pass.gate_done here i a lc x g d ≡ Pass.gate_done here i b lc x g d
  same_gate a b d lc x (Ask p) h = h p refl
  same_gate a b d lc x (Shut q) h = refl
  same_gate a b d lc x (Missing p n) h = refl
  same_gate a b d lc x (CommitAt fc) h = refl

  same_gates : (a b : Doing → Doing) (d : Doing) → ((lc : ℕ) (x : Own) (p : PartId) → Owns d.view i x → gate_of here d.view lc x ≡ Ask p → a (asked here i lc p x d) ≡ b (asked here i lc p x d))
      → Scripts.at_own i (λ x. Pass.gate_phase here i a x.phase x) d ≡ Scripts.at_own i (λ x. Pass.gate_phase here i b x.phase x) d
  same_gates a b d h = by_own (slice_get d.view.own i) refl
    where
      by_phase : (x : Own) (p : Phase) → Owns d.view i x → Pass.gate_phase here i a p x d ≡ Pass.gate_phase here i b p x d
      by_phase x (Local lc) own = same_gate a b d lc x (gate_of here d.view lc x) (λ p e. h lc x p own e)
      by_phase x (Global lc) own = same_gate a b d lc x (gate_of here d.view lc x) (λ p e. h lc x p own e)
      by_phase x _ own = refl

      by_open : (x : Own) (c : Bool) → Owns d.view i x
          → Scripts.unless_decided c (λ z. Pass.gate_phase here i a x.phase x z) d ≡ Scripts.unless_decided c (λ z. Pass.gate_phase here i b x.phase x z) d
      by_open x true own = refl
      by_open x false own = by_phase x x.phase own

      by_own : (o : Option Own) → slice_get d.view.own i ≡ o
          → Scripts.of_own (λ x. Pass.gate_phase here i a x.phase x) o d ≡ Scripts.of_own (λ x. Pass.gate_phase here i b x.phase x) o d
      by_own None e = refl
      by_own (Some x) e = by_open x (is_decided x.phase) e

  -- a loop that looks at the gate until it doesn't ask comes to the same, with any fuel that suffices
  pub gates-fuel : (n m : ℕ) (d : Doing) → n ≤ m → Asks here i n d.view → gates here i (suc n) d ≡ gates here i (suc m) d
  gates-fuel zero m d le h = same_gates (gates here i zero) (gates here i m) d (λ lc x p own e. let r = asks_next zero lc p x d own e h in absurd (cc r.1))
  gates-fuel (suc n) zero d le h = absurd (omega (arith, le))
  gates-fuel (suc n) (suc m) d le h =
      same_gates (gates here i (suc n)) (gates here i (suc m)) d (λ lc x p own e.
      let r = asks_next (suc n) lc p x d own e h in
      let is : n ≡ r.0 = cc r.1 in
      gates-fuel n m (asked here i lc p x d) (omega (arith, le)) (subst (λ k. Asks here i k (asked here i lc p x d).view) (sym is) r.2))
