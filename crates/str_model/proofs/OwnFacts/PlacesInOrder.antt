-- Own transactions stand in order of their places.
pub use Rattle.str_model.specs.NodeFacts.{PlacedIn, Earlier, InOrder}
use Rattle.std.proofs.Common.{List, Option, Some, [], ap, arith, eq-eqb, eqb-true, false, inl, inr, length, refl, slice_get, slice_set, subst, suc, sym, zero, ℕ, ◌++◌, ◌+◌, ◌<◌, ◌∙◌, ◌∷◌, ◌≡◌, ◌≢◌, ◌≤◌, ◌⊎◌}
use Rattle.std.proofs.lemmas.Bool.{cases_order}
use Rattle.std.proofs.lemmas.Option.{slice_get_within}
use Rattle.str_scene.specs.declared.names.TxPlace.{TxPlace}
use Rattle.str_model.specs.Acts.{decided_as, fresh}
use Rattle.str_model.specs.Clients.{of_session}
use Rattle.str_model.specs.Owned.{AreTimed}
use Rattle.str_scene.specs.SceneLimits.{Exists}
use Rattle.str_scene.specs.Scenes.{Here, Scene, nth}
use Rattle.str_model.specs.Views.{Committed, Doing, Own, View, is_decided}
use Rattle.str_model.proofs.Principle.SingleChanges.{Begins, NextPlace, is_first, is_next}
use Rattle.str_model.proofs.Changes.AnswerChanges.{IsLastOf, TellStep, last_index-none, last_index-some, t_begins, t_decides, t_goes, t_rests}
use Rattle.str_base.proofs.Lists.{got_push, got_set}

pub get_set_cases : {A : Type 0} (xs : List A) (i j : ℕ) (y z : A) → slice_get xs j ≡ Some z → ((j ≡ i) × (slice_get (slice_set xs i y) j ≡ Some y)) ⊎ ((j ≢ i) × (slice_get (slice_set xs i y) j ≡ Some z))
get_set_cases [] i j y z e = absurd cc
get_set_cases (x ∷ xs) zero zero y z e = inl (refl, refl)
get_set_cases (x ∷ xs) zero (suc j) y z e = inr (λ q. cc, e)
get_set_cases (x ∷ xs) (suc i) zero y z e = inr (λ q. cc, e)
get_set_cases (x ∷ xs) (suc i) (suc j) y z e = elim (get_set_cases xs i j y z e) [ inl h ↦ inl (ap suc h.0, h.1) | inr h ↦ inr (λ q. h.0 (cc q), h.1) ]

pub order_set : (scene : Scene) (n i : ℕ) (x y : Own) (own : List Own) → slice_get own i ≡ Some x → is_decided x.phase ≡ false → y.place ≡ x.place → y.snap.rs ≡ x.snap.rs
    → InOrder scene n own → InOrder scene n (slice_set own i y)
order_set scene n i x y own is opn same_place same_rs h =
    record {
      placed = λ j z g. elim (got_set own i j y z g) [
        | inl p ↦ subst (PlacedIn scene n) (sym (ap (λ m. m.place) p.1 ∙ same_place)) (h.placed i x is)
        | inr q ↦ h.placed j z q.1
      ];
      order = λ j k a b less g k' s. by_cases j k a b less (got_set own i j y a g) (got_set own i k y b k') s;
    }
  where
    by_cases : (j k : ℕ) (a b : Own) → j < k → ((j ≡ i) × (a ≡ y)) ⊎ ((j ≢ i) × (slice_get own j ≡ Some a)) → ((k ≡ i) × (b ≡ y)) ⊎ ((k ≢ i) × (slice_get own k ≡ Some b))
        → a.place.session.0 ≡ b.place.session.0 → Earlier a b
    by_cases j k a b less (inl p) (inl q) s = absurd (omega (arith, p.0, q.0))
    by_cases j k a b less (inl p) (inr q) s =
        let e = h.order i k x b (omega (arith, p.0)) is q.1 (sym (ap (λ (m : TxPlace). m.session.0) (ap (λ (m : Own). m.place) p.1 ∙ same_place)) ∙ s) in
        absurd (cc (e.decided, opn))
    by_cases j k a b less (inr p) (inl q) s =
        let placed : b.place ≡ x.place = ap (λ (m : Own). m.place) q.1 ∙ same_place in
        let rs : b.snap.rs ≡ x.snap.rs = ap (λ (m : Own). m.snap.rs) q.1 ∙ same_rs in
        let e = h.order j i a x (omega (arith, q.0)) p.1 is (s ∙ ap (λ (m : TxPlace). m.session.0) placed) in
        record { decided = e.decided; index = omega (arith, e.index, ap (λ (m : TxPlace). m.index) placed); final = λ l fc f. omega (arith, rs, e.final l fc f) }
    by_cases j k a b less (inr p) (inr q) s = h.order j k a b less p.1 q.1 s

pub nth_exists : {X : Type 0} (xs : List X) (k : ℕ) (x : X) → nth xs k ≡ Some x → Exists k (length xs)
nth_exists xs zero x q = absurd cc
nth_exists xs (suc k) x q = (omega arith, omega (arith, slice_get_within xs k x q))

pub begun_placed : (here : Here) (n : ℕ) (place : TxPlace) (rs : ℕ) (d : Doing) → here.node.0 ≡ n + 1 → Begins here place rs d → PlacedIn here.scene n place
begun_placed here n place rs d e b = record { text = b.text; session = b.session; node = eqb-true b.text.node.0 here.node.0 b.node ∙ e; index = nth_exists b.text.txs place.index b.ops b.script }

-- one that begins is after all of its session
pub before_next : (scene : Scene) (n : ℕ) (v : View) (place : TxPlace) (rs : ℕ) (i : ℕ) (x : Own) → AreTimed v → InOrder scene n v.own → v.floor ≤ rs → NextPlace v.own place
    → slice_get v.own i ≡ Some x → x.place.session.0 ≡ place.session.0 → Earlier x (fresh place rs)
before_next scene n v place rs i x t h le (is_first e q) g s =
    absurd (cc (last_index-none (of_session place.session) v.own i x e g, eq-eqb x.place.session.0 place.session.0 s))
before_next scene n v place rs i x t h le (is_next l z e own dec q) g s =
    let last : IsLastOf (of_session place.session) v.own l = last_index-some (of_session place.session) v.own l e in
    let z_of : z.place.session.0 ≡ place.session.0 = eqb-true z.place.session.0 place.session.0 (last.passes z own) in
    by_order last z_of (cases_order i l)
  where
    final_ : (l : Option ℕ) (fc : ℕ) → x.phase ≡ Committed l (Some fc) → fc ≤ rs
    final_ l fc f = omega (arith, ((t.each i x g).fc l fc f).3, le)

    by_order : IsLastOf (of_session place.session) v.own l → z.place.session.0 ≡ place.session.0 → (i ≡ l) ⊎ ((i < l) ⊎ (l < i)) → Earlier x (fresh place rs)
    by_order last z_of (inl k) =
        let w : Some x ≡ Some z = sym g ∙ (ap (λ m. slice_get v.own m) k ∙ own) in
        let same : x ≡ z = cc w in
        record { decided = ap (λ (m : Own). is_decided m.phase) same ∙ dec; index = omega (arith, q, ap (λ (m : Own). m.place.index) same); final = final_ }
    by_order last z_of (inr (inl k)) =
        let e = h.order i l x z k g own (s ∙ sym z_of) in
        record { decided = e.decided; index = omega (arith, q, e.index); final = final_ }
    by_order last z_of (inr (inr k)) = absurd (cc (last.none_after i x k g, eq-eqb x.place.session.0 place.session.0 s))

pub order_push : (here : Here) (n : ℕ) (place : TxPlace) (rs : ℕ) (d : Doing) → here.node.0 ≡ n + 1 → Begins here place rs d → AreTimed d.view → InOrder here.scene n d.view.own
    → InOrder here.scene n (d.view.own ++ fresh place rs ∷ [])
order_push here n place rs d e b t h =
    record {
      placed = λ j z g. elim (got_push d.view.own j (fresh place rs) z g) [
        | inl p ↦ subst (PlacedIn here.scene n) (sym (ap (λ m. m.place) p.1)) (begun_placed here n place rs d e b)
        | inr q ↦ h.placed j z q
      ];
      order = λ j k x y less g g' s. by_cases j k x y less (got_push d.view.own j (fresh place rs) x g) (got_push d.view.own k (fresh place rs) y g') s;
    }
  where
    by_cases : (j k : ℕ) (x y : Own) → j < k → ((j ≡ length d.view.own) × (x ≡ fresh place rs)) ⊎ (slice_get d.view.own j ≡ Some x)
        → ((k ≡ length d.view.own) × (y ≡ fresh place rs)) ⊎ (slice_get d.view.own k ≡ Some y) → x.place.session.0 ≡ y.place.session.0 → Earlier x y
    by_cases j k x y less (inl p) (inl q) s = absurd (omega (arith, p.0, q.0))
    by_cases j k x y less (inl p) (inr q) s = absurd (omega (arith, p.0, slice_get_within d.view.own k y q))
    by_cases j k x y less (inr p) (inl q) s =
        subst (Earlier x) (sym q.1) (before_next here.scene n d.view place rs j x t h b.above b.next p (s ∙ ap (λ (m : Own). m.place.session.0) q.1))
    by_cases j k x y less (inr p) (inr q) s = h.order j k x y less p q s

pub order-step : (here : Here) (n : ℕ) (d e : Doing) → here.node.0 ≡ n + 1 → TellStep here d e → AreTimed d.view → InOrder here.scene n d.view.own → InOrder here.scene n e.view.own
order-step here n d e node (t_rests o r) t h = rw o h
order-step here n d e node (t_begins place rs b o r) t h = rw o (order_push here n place rs d node b t h)
order-step here n d e node (t_goes i x y is f g p q o r) t h = rw o (order_set here.scene n i x y d.view.own is f p q h)
order-step here n d e node (t_decides i x p is f g o r) t h = rw o (order_set here.scene n i x (decided_as p x) d.view.own is f refl refl h)
