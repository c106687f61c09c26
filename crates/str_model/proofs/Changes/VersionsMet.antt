-- What a certification has met, and what an acceptance at a master has met: no version of a written key that conflicts.
use Rattle.std.proofs.Common.{Bool, List, None, Option, Some, [], ap, eq-eqb, false, find, flat_map, if◌then◌else◌, inl, inr, ltb-false, nat_lt, not, refl, slice_get, subst, sym, true, ℕ, ◌&&◌, ◌-◌, ◌||◌, ◌∷◌, ◌≡◌, ◌≤◌}
use Rattle.str_base.specs.declared.names.Kind.{Kind}
use Rattle.str_base.specs.declared.names.Kind.TheVariants.{Final, Local as LocalKind, Pre}
use Rattle.str_base.specs.declared.names.Version.{Version}
use Rattle.str_base.specs.declared.names.Write.{Write}
use Rattle.str_base.specs.Versions.{chain, is_pre, is_undecided, same_key, same_node, stamp}
use Rattle.dependency_set.specs.Snapshots.{Snap, holds, union}
use Rattle.str_model.specs.declared.messages.Arrived.{Arrived}
use Rattle.str_model.specs.Proposals.{Accept, master_turn, parks, refuses}
use Rattle.str_model.specs.Proposals
use Rattle.str_model.specs.Turns.{Certified, cert_turn, conflicts, joined, met, take_over}
use Rattle.str_model.specs.Turns
use Rattle.str_model.specs.Views.{Own, View}
use Rattle.str_scene.specs.Scenes.{Here}
use Rattle.str_model.proofs.Changes.SnapshotsGain.{Names, in_insert_dep_old, in_union_right, insert_dep_names}
use Rattle.str_base.proofs.Members.{filter_in, find_none, in_left, in_right}
use Rattle.str_base.specs.Members.{In}
use Rattle.std.proofs.lemmas.Bool.{or_parts}

flat_map_in : {A B : Type 0} (f : A → List B) (xs : List A) (x : A) (y : B) → In x xs → In y (f x) → In y (flat_map f xs)
flat_map_in f [] x y h k = absurd h
flat_map_in f (z ∷ xs) x y (inl q) k = in_left (f z) (flat_map f xs) y (subst (λ u. In y (f u)) (sym q) k)
flat_map_in f (z ∷ xs) x y (inr h) k = in_right (f z) (flat_map f xs) y (flat_map_in f xs x y h k)

-- a version of one of the keys is met
pub met_in : (ws : List Write) (vs : List Version) (v : Version) (w : Write) → In v vs → In w ws → v.key ≡ w.key → In v (met ws vs)
met_in ws vs v w h k e =
    flat_map_in (λ (z : Write). chain z.key vs) ws w v k (filter_in (λ (y : Version). same_key y.key w.key) vs v h (eq-eqb v.key.0 w.key.0 (ap (λ z. z.0) e)))

-- ---- certification

over_keeps : (o : Option Own) (seq s : ℕ) (snap : Snap) → Names s snap.deps → Names s (take_over o seq snap).deps
over_keeps None seq s snap n = n
over_keeps (Some u) seq s snap n =
    (n.0, in_insert_dep_old (record { seq = seq; rs = stamp u.snap.rs }) (union u.snap.deps snap.deps) n.0 (in_union_right u.snap.deps snap.deps n.0 n.1), n.2)

one_keeps : (own : List Own) (v : Version) (k : Kind) (s : ℕ) (snap : Snap) → Names s snap.deps → Names s (Turns.joined_one own v k snap).deps
one_keeps own v LocalKind s snap n = over_keeps (slice_get own (v.tx.seq - 1)) v.tx.seq s snap n
one_keeps own v Pre s snap n = n
one_keeps own v Final s snap n = n

joined_keeps : (own : List Own) (vs : List Version) (s : ℕ) (snap : Snap) → Names s snap.deps → Names s (joined own vs snap).deps
joined_keeps own [] s snap n = n
joined_keeps own (v ∷ vs) s snap n = joined_keeps own vs s (Turns.joined_one own v v.kind snap) (one_keeps own v v.kind s snap n)

pub over_names : (o : Option Own) (u : Own) (seq : ℕ) (snap : Snap) → o ≡ Some u → Names seq (take_over o seq snap).deps
over_names None u seq snap e = absurd (cc e)
over_names (Some y) u seq snap e = insert_dep_names (record { seq = seq; rs = stamp y.snap.rs }) (union y.snap.deps snap.deps)

one_names : (own : List Own) (v : Version) (k : Kind) (u : Own) (snap : Snap) → v.kind ≡ k → v.kind ≡ LocalKind → slice_get own (v.tx.seq - 1) ≡ Some u
    → Names v.tx.seq (Turns.joined_one own v k snap).deps
one_names own v LocalKind u snap e l g = over_names (slice_get own (v.tx.seq - 1)) u v.tx.seq snap g
one_names own v Pre u snap e l g = absurd (cc (e, l))
one_names own v Final u snap e l g = absurd (cc (e, l))

joined_names : (own : List Own) (vs : List Version) (v : Version) (u : Own) (snap : Snap) → In v vs → v.kind ≡ LocalKind → slice_get own (v.tx.seq - 1) ≡ Some u
    → Names v.tx.seq (joined own vs snap).deps
joined_names own [] v u snap h l g = absurd h
joined_names own (x ∷ vs) v u snap (inl q) l g =
    joined_keeps own vs v.tx.seq (Turns.joined_one own x x.kind snap) (subst (λ (z : Version). Names v.tx.seq (Turns.joined_one own z z.kind snap).deps) (sym q) (one_names own v v.kind u snap refl l g))
joined_names own (x ∷ vs) v u snap (inr h) l g = joined_names own vs v u (Turns.joined_one own x x.kind snap) h l g

-- a version that a certification has met
pub record CertMet (view : View) (old new : Snap) (v : Version) : Type 0 where
  pub not_pre : is_pre v.kind ≡ false
  pub below : v.ts.0 ≤ old.rs
  pub named : v.kind ≡ LocalKind → (u : Own) → slice_get view.own (v.tx.seq - 1) ≡ Some u → Names v.tx.seq new.deps

pub cert_met : (here : Here) (view : View) (old new : Snap) (ws : List Write) (lc : ℕ) → cert_turn here view old ws ≡ Certified lc new
    → (v : Version) (w : Write) → In v view.versions → In w ws → v.key ≡ w.key → CertMet view old new v
unfolding cert_turn
cert_met here view old new ws lc e v w h k same = by_found (find (conflicts old.rs) (met ws view.versions)) refl e
  where
    m : In v (met ws view.versions)
    m = met_in ws view.versions v w h k same

    by_gate : (b : Bool) (n : ℕ) (s : Snap) (t : Turns.CertTurn) → (t ≡ Certified lc new → ⊥) → (if b then Certified n s else t) ≡ Certified lc new → s ≡ new
    by_gate true n s t f q = cc q
    by_gate false n s t f q = absurd (f q)

    by_found : (o : Option Version) → find (conflicts old.rs) (met ws view.versions) ≡ o → Turns.cert_after here view old ws o ≡ Certified lc new → CertMet view old new v
    by_found (Some x) f q = absurd (cc q)
    by_found None f q =
        let s : Snap = joined view.own (met ws view.versions) old in
        let is : s ≡ new = by_gate (holds s) _ s _ (λ z. cc z) q in
        let c = or_parts (is_pre v.kind) (nat_lt old.rs v.ts.0) (find_none (conflicts old.rs) (met ws view.versions) v f m) in
        record {
          not_pre = c.0;
          below = ltb-false old.rs v.ts.0 c.1;
          named = λ l u g. subst (λ (z : Snap). Names v.tx.seq z.deps) is (joined_names view.own (met ws view.versions) v u old m l g);
        }

-- ---- acceptance at a master

-- each version of the keys is final, at or below the snapshot
pub accept_met : (view : View) (a : Arrived) (ts : ℕ) → master_turn view a ≡ Accept ts → (v : Version) (w : Write) → In v view.versions → In w a.writes → v.key ≡ w.key
    → (is_undecided v.kind ≡ false) × (v.ts.0 ≤ a.rs.0)
unfolding master_turn
accept_met view a ts e v w h k same = by_refusal (find (refuses a) (met a.writes view.versions)) refl e
  where
    m : In v (met a.writes view.versions)
    m = met_in a.writes view.versions v w h k same

    both : (u s n : Bool) → ((u && not s) || (not u && n)) ≡ false → (u && s) ≡ false → (u ≡ false) × (n ≡ false)
    both true true n p q = absurd (cc q)
    both true false n p q = absurd (cc p)
    both false s n p q = (refl, p)

    by_parks : (o : Option Version) → find (parks a) (met a.writes view.versions) ≡ o → find (refuses a) (met a.writes view.versions) ≡ None → Proposals.master_parks view a o ≡ Accept ts
        → (is_undecided v.kind ≡ false) × (v.ts.0 ≤ a.rs.0)
    by_parks (Some x) f g q = absurd (cc q)
    by_parks None f g q =
        let r = both (is_undecided v.kind) (same_node v.tx.node a.tx.node) (nat_lt a.rs.0 v.ts.0) (find_none (refuses a) (met a.writes view.versions) v g m)
        (find_none (parks a) (met a.writes view.versions) v f m) in
        (r.0, ltb-false a.rs.0 v.ts.0 r.1)

    by_refusal : (o : Option Version) → find (refuses a) (met a.writes view.versions) ≡ o → Proposals.master_refuses view a o ≡ Accept ts
        → (is_undecided v.kind ≡ false) × (v.ts.0 ≤ a.rs.0)
    by_refusal (Some x) f q = absurd (cc q)
    by_refusal None f q = by_parks (find (parks a) (met a.writes view.versions)) refl f q
