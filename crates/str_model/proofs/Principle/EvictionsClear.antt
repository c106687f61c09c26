-- After the evictions of a Replicate no undecided own transaction has a Local version of one of its keys.
use Rattle.std.proofs.Common.{Bool, List, None, Option, Some, [], ap, arith, eq-eqb, false, inl, inr, length, length-set, refl, slice_get, subst, suc, sym, true, zero, ℕ, ◌&&◌, ◌<◌, ◌∙◌, ◌∷◌, ◌≡◌, ◌⊎◌}
use Rattle.std.proofs.lemmas.Option.{slice_get_within}
use Rattle.std.specs.List.{list_any}
use Rattle.str_base.specs.declared.names.Cause.TheVariants.{Conflict as ByConflict}
use Rattle.str_base.specs.declared.names.Kind.TheVariants.{Local as LocalKind}
use Rattle.str_base.specs.declared.names.Version.{Version}
use Rattle.str_base.specs.declared.names.Write.{Write}
use Rattle.str_base.specs.Versions.{is_local, of_tx, same_key}
use Rattle.str_model.specs.declared.messages.Arrived.{Arrived}
use Rattle.str_model.specs.Acts.{aborted, decided_as}
use Rattle.str_model.specs.Arrivals
use Rattle.str_model.specs.Arrivals.{evict, held_key}
use Rattle.str_model.specs.Scripts
use Rattle.str_model.specs.Views.{Aborted, Doing, Own, is_decided, lc_of, name_of}
use Rattle.str_scene.specs.Scenes.{Here}
use Rattle.str_model.proofs.Principle.SingleChanges.{NoneHeld}
use Rattle.str_base.proofs.Members.{find_none, in_without}
use Rattle.str_base.proofs.Lists.{got_set}
use Rattle.str_base.specs.Members.{In}
use Rattle.str_base.proofs.Tests.{or_false_left, or_false_right}

pub none_of : {A : Type 0} (p : A → Bool) (xs : List A) (x : A) → list_any p xs ≡ false → In x xs → p x ≡ false
none_of p [] x e h = absurd h
none_of p (y ∷ xs) x e (inl q) = ap p (sym q) ∙ or_false_left (p y) (list_any p xs) e
none_of p (y ∷ xs) x e (inr h) = none_of p xs x (or_false_right (p y) (list_any p xs) e) h

module _ (here : Here) (a : Arrived) where
  -- where no key is held, no version of the transaction is a Local one of these keys
  not_held : (i : ℕ) (vs : List Version) (v : Version) (w : Write) → held_key vs (name_of here i) a.writes ≡ None → In v vs → In w a.writes → v.key ≡ w.key → of_tx (name_of here i) v ≡ true
      → v.kind ≡ LocalKind → ⊥
  not_held i vs v w e h m k o l =
      let n = find_none (λ (z : Write). list_any (λ (y : Version). same_key y.key z.key && (of_tx (name_of here i) y && is_local y.kind)) vs) a.writes w e m in
      let f = none_of (λ (y : Version). same_key y.key w.key && (of_tx (name_of here i) y && is_local y.kind)) vs v n h in
      let s : same_key v.key w.key ≡ true = eq-eqb v.key.0 w.key.0 (ap (λ z. z.0) k) in
      let t : is_local v.kind ≡ true = ap is_local l in
      cc (f, s, o, t)

  none_evicted : (n : ℕ) (d : Doing) → NoneHeld here a d (λ i. i < n) → NoneHeld here a (Scripts.at_own n (Arrivals.evict_own here a n) d) (λ i. i < suc n)
  unfolding aborted
  none_evicted n d below i x v w lt is op hv hw k o l = by_own (slice_get d.view.own n) refl is hv
    where
      order : (m : ℕ) → m < suc n → (m < n) ⊎ (m ≡ n)
      order m h = grind arith

      by_key : (y : Own) (h : Option Write) → slice_get d.view.own n ≡ Some y → held_key d.view.versions (name_of here n) a.writes ≡ h
          → slice_get (Arrivals.evict_at here a n y h d).view.own i ≡ Some x → In v (Arrivals.evict_at here a n y h d).view.versions → ⊥
      by_key y None g e is hv =
          elim (order i lt) [ inl s ↦ below i x v w s is op hv hw k o l | inr s ↦ not_held n d.view.versions v w e hv hw k (subst (λ m. of_tx (name_of here m) v ≡ true) s o) l ]
      by_key y (Some z) g e is hv =
          elim (got_set d.view.own n i (decided_as (Aborted (lc_of y.phase) (ByConflict a.tx z.key here.node)) y) x is) [
            | inl s ↦ cc (ap (λ (u : Own). is_decided u.phase) s.1, op)
            | inr s ↦ (elim (order i lt) [ inl r ↦ below i x v w r s.1 op (in_without (of_tx (name_of here n)) d.view.versions v hv) hw k o l | inr r ↦ absurd (s.0 r) ])
          ]

      by_decided : (y : Own) (b : Bool) → slice_get d.view.own n ≡ Some y → is_decided y.phase ≡ b
          → slice_get (Scripts.unless_decided b (Arrivals.evict_own here a n y) d).view.own i ≡ Some x → In v (Scripts.unless_decided b (Arrivals.evict_own here a n y) d).view.versions → ⊥
      by_decided y true g e is hv =
          elim (order i lt) [
            | inl s ↦ below i x v w s is op hv hw k o l
            | inr s ↦ (let same : Some x ≡ Some y = sym is ∙ ap (λ m. slice_get d.view.own m) s ∙ g in let q : x ≡ y = cc same in cc (ap (λ (u : Own). is_decided u.phase) q, e, op))
          ]
      by_decided y false g e is hv = by_key y (held_key d.view.versions (name_of here n) a.writes) g refl is hv

      by_own : (o : Option Own) → slice_get d.view.own n ≡ o → slice_get (Scripts.of_own (Arrivals.evict_own here a n) o d).view.own i ≡ Some x
          → In v (Scripts.of_own (Arrivals.evict_own here a n) o d).view.versions → ⊥
      by_own None g is hv =
          elim (order i lt) [
            | inl s ↦ below i x v w s is op hv hw k o l
            | inr s ↦ (let q : Some x ≡ None = sym is ∙ ap (λ m. slice_get d.view.own m) s ∙ g in absurd (cc q))
          ]
      by_own (Some y) g is hv = by_decided y (is_decided y.phase) g refl is hv

  pub evicted_to : (n : ℕ) (d : Doing) → NoneHeld here a (evict here a n d) (λ i. i < n)
  evicted_to zero d i x v w lt is op hv hw k o l = omega (arith, lt)
  evicted_to (suc n) d i x v w lt is op hv hw k o l = none_evicted n (evict here a n d) (evicted_to n d) i x v w lt is op hv hw k o l

  one_length : (n : ℕ) (d : Doing) → length (Scripts.at_own n (Arrivals.evict_own here a n) d).view.own ≡ length d.view.own
  unfolding aborted
  one_length n d = by_own (slice_get d.view.own n)
    where
      by_key : (y : Own) (h : Option Write) → length (Arrivals.evict_at here a n y h d).view.own ≡ length d.view.own
      by_key y None = refl
      by_key y (Some z) = length-set d.view.own n _

      by_decided : (y : Own) (b : Bool) → length (Scripts.unless_decided b (Arrivals.evict_own here a n y) d).view.own ≡ length d.view.own
      by_decided y true = refl
      by_decided y false = by_key y (held_key d.view.versions (name_of here n) a.writes)

      by_own : (o : Option Own) → length (Scripts.of_own (Arrivals.evict_own here a n) o d).view.own ≡ length d.view.own
      by_own None = refl
      by_own (Some y) = by_decided y (is_decided y.phase)

  evict_length : (n : ℕ) (d : Doing) → length (evict here a n d).view.own ≡ length d.view.own
  evict_length zero d = refl
  evict_length (suc n) d = one_length n (evict here a n d) ∙ evict_length n d

  pub all_evicted : (d : Doing) → NoneHeld here a (evict here a (length d.view.own) d) (λ i. Unit {0})
  all_evicted d i x v w u is op hv hw k o l =
      let n = length d.view.own in
      let e : Doing = evict here a n d in
      evicted_to n d i x v w (omega (arith, slice_get_within e.view.own i x is, evict_length n d)) is op hv hw k o l
