-- What the type of a list of own transactions keeps, after each of its changes.
use Rattle.std.proofs.Common.{List, None, Option, Some, [], ap, arith, filter, length, length-append, not, slice_get, slice_set, subst, sym, true, false, ℕ, ◌++◌, ◌+◌, ◌-◌, ◌<◌, ◌&&◌, ◌==◌, ◌^◌, ◌∙◌, ◌∷◌, ◌≡◌}
use Rattle.std.proofs.Math.Bool.{and-false}
use Rattle.std.proofs.lemmas.List.{length-map, length-set, map-append, map-set}
use Rattle.dependency_set.specs.declared.snaps.OwnSnap.{OwnSnap}
use Rattle.snapshot_read.specs.Shown.{told_from}
use Rattle.str_base.specs.declared.names.NodeId.{NodeId}
use Rattle.str_model.specs.Views.{Own, is_decided, lc_of}
use Rattle.node_parts.specs.Owning.{AreLast, AreOfSessions, IsFree, IsOwnList, Named, is_told, open_from, told_again, told_also, told_no_more}
use Rattle.node_parts.proofs.Owning.LastPlaces.{are_last_push, are_last_set, of_sessions_push, of_sessions_set}
use Rattle.node_parts.proofs.Owning.NamesKept.{numbered_push, numbered_set, owns, owns_at}
use Rattle.node_parts.proofs.Owning.OpenPlaces.{open_less, open_push, open_same}
use Rattle.node_parts.proofs.Owning.ToldSnapshots.{told_anew, told_less, told_more, told_push, told_same}

-- one changes, and keeps its name and place
kept_set : (node : NodeId) (names : List Named) (open_ open' : List ℕ) (told told' : List OwnSnap) (last : List ℕ) (i : ℕ) (x y : Named)
    → IsOwnList node names open_ told last → slice_get names i ≡ Some x → y.tx ≡ x.tx → y.own.place ≡ x.own.place
    → open' ≡ open_from 0 (slice_set (owns names) i y.own) → told' ≡ told_from 0 (slice_set (owns names) i y.own)
    → IsOwnList node (slice_set names i y) open' told' last
kept_set node names open_ open' told told' last i x y h e t p o q =
    let m : slice_set (owns names) i y.own ≡ owns (slice_set names i y) = sym (map-set (λ (x : Named). x.own) names i y) in
    let g = owns_at names i x e in
    record {
      numbered = numbered_set node 0 names i x y h.numbered e t;
      open_is = o ∙ ap (open_from 0) m;
      told_is = q ∙ ap (told_from 0) m;
      sessions = subst (AreOfSessions (length last)) m (of_sessions_set (length last) (owns names) i x.own y.own h.sessions g p);
      last_are = subst (AreLast last) m (are_last_set last (owns names) i x.own y.own h.last_are g p);
      few = (let f = h.few in let l = length-set names i y in omega (arith, f, l));
    }

-- one changes, and is as decided and told of as before
pub kept_same : (node : NodeId) (names : List Named) (open_ : List ℕ) (told : List OwnSnap) (last : List ℕ) (i : ℕ) (x y : Named)
    → IsOwnList node names open_ told last → slice_get names i ≡ Some x → y.tx ≡ x.tx → y.own.place ≡ x.own.place
    → is_decided y.own.phase ≡ is_decided x.own.phase → is_told y.own ≡ is_told x.own → (is_told x.own ≡ true → y.own.snap ≡ x.own.snap)
    → IsOwnList node (slice_set names i y) open_ told last
kept_same node names open_ told last i x y h e t p d s r =
    let g = owns_at names i x e in
    kept_set node names open_ open_ told told last i x y h e t p
    (h.open_is ∙ sym (open_same 0 (owns names) i x.own y.own g d))
    (h.told_is ∙ sym (told_same 0 (owns names) i x.own y.own g s r))

-- one that was not certified is not told of
pub free_untold : (x : Own) → IsFree x → is_told x ≡ false
free_untold x h = ap (λ (o : Option ℕ). not (is_decided x.phase) && elim o [ None ↦ false | Some lc ↦ true ]) h.1 ∙ and-false (not (is_decided x.phase))

-- one that was not certified is so as before
pub kept_free : (node : NodeId) (names : List Named) (open_ : List ℕ) (told : List OwnSnap) (last : List ℕ) (i : ℕ) (x y : Named)
    → IsOwnList node names open_ told last → slice_get names i ≡ Some x → y.tx ≡ x.tx → y.own.place ≡ x.own.place → IsFree x.own → IsFree y.own
    → IsOwnList node (slice_set names i y) open_ told last
kept_free node names open_ told last i x y h e t p f g =
    let a = free_untold x.own f in
    kept_same node names open_ told last i x y h e t p (g.0 ∙ sym f.0) (free_untold y.own g ∙ sym a) (λ q. absurd (cc (a, q)))

-- one has another snapshot, and is as decided and told of as before
pub kept_anew : (node : NodeId) (names : List Named) (open_ : List ℕ) (told : List OwnSnap) (last : List ℕ) (i q : ℕ) (x y : Named)
    → IsOwnList node names open_ told last → slice_get names i ≡ Some x → q ≡ i + 1 → y.tx ≡ x.tx → y.own.place ≡ x.own.place
    → is_decided y.own.phase ≡ is_decided x.own.phase → is_told y.own ≡ is_told x.own
    → IsOwnList node (slice_set names i y) open_ (told_again q y.own.snap told) last
kept_anew node names open_ told last i q x y h e n t p d s =
    let g = owns_at names i x e in
    kept_set node names open_ open_ told (told_again q y.own.snap told) last i x y h e t p
    (h.open_is ∙ sym (open_same 0 (owns names) i x.own y.own g d))
    (ap (told_again q y.own.snap) h.told_is ∙ sym (told_anew 0 q (owns names) i x.own y.own (omega (arith, n)) g s))

-- one is told of from now on
pub kept_told : (node : NodeId) (names : List Named) (open_ : List ℕ) (told : List OwnSnap) (last : List ℕ) (i q : ℕ) (x y : Named)
    → IsOwnList node names open_ told last → slice_get names i ≡ Some x → q ≡ i + 1 → y.tx ≡ x.tx → y.own.place ≡ x.own.place
    → is_decided y.own.phase ≡ is_decided x.own.phase → is_told x.own ≡ false → is_told y.own ≡ true
    → IsOwnList node (slice_set names i y) open_ (told_also (record { seq = q; snap = y.own.snap }) told) last
kept_told node names open_ told last i q x y h e n t p d f s =
    let g = owns_at names i x e in
    kept_set node names open_ open_ told (told_also (record { seq = q; snap = y.own.snap }) told) last i x y h e t p
    (h.open_is ∙ sym (open_same 0 (owns names) i x.own y.own g d))
    (ap (told_also (record { seq = q; snap = y.own.snap })) h.told_is ∙ sym (told_more 0 q (owns names) i x.own y.own (omega (arith, n)) g f s))

-- one is decided
pub kept_decided : (node : NodeId) (names : List Named) (open_ : List ℕ) (told : List OwnSnap) (last : List ℕ) (i q : ℕ) (x y : Named)
    → IsOwnList node names open_ told last → slice_get names i ≡ Some x → q ≡ i + 1 → y.tx ≡ x.tx → y.own.place ≡ x.own.place → is_decided y.own.phase ≡ true
    → IsOwnList node (slice_set names i y) (filter (λ m. not (m == i)) open_) (told_no_more q told) last
kept_decided node names open_ told last i q x y h e n t p d =
    let g = owns_at names i x e in
    let s : is_told y.own ≡ false = ap (λ b. not b && elim (lc_of y.own.phase) [ None ↦ false | Some lc ↦ true ]) d in
    kept_set node names open_ (filter (λ m. not (m == i)) open_) told (told_no_more q told) last i x y h e t p
    (ap (filter (λ m. not (m == i))) h.open_is ∙ sym (open_less 0 i (owns names) i x.own y.own (omega arith) g d))
    (ap (told_no_more q) h.told_is ∙ sym (told_less 0 q (owns names) i x.own y.own (omega (arith, n)) g s))

-- one more has begun
pub kept_push : (node : NodeId) (names : List Named) (open_ : List ℕ) (told : List OwnSnap) (last : List ℕ) (y : Named)
    → IsOwnList node names open_ told last → y.tx ≡ record { node = node; seq = length names + 1 } → is_decided y.own.phase ≡ false → is_told y.own ≡ false
    → y.own.place.session.0 < length last → length names < 2 ^ 32 - 2
    → IsOwnList node (names ++ y ∷ []) (open_ ++ length names ∷ []) told (slice_set last y.own.place.session.0 (length names + 1))
kept_push node names open_ told last y h t d s l f =
    let m : owns names ++ y.own ∷ [] ≡ owns (names ++ y ∷ []) = sym (map-append (λ (x : Named). x.own) names (y ∷ [])) in
    let n : length (owns names) ≡ length names = length-map names (λ (x : Named). x.own) in
    record {
      numbered = numbered_push node 0 names y h.numbered (t ∙ ap (λ (q : ℕ). record { node = node; seq = q }) (omega arith));
      open_is = (ap (λ l. l ++ length names ∷ []) h.open_is ∙ (ap (λ k. open_from 0 (owns names) ++ k ∷ []) (omega (arith, n)) ∙ (sym (open_push 0 (owns names) y.own d) ∙ ap (open_from 0) m)));
      told_is = (h.told_is ∙ (sym (told_push 0 (owns names) y.own s) ∙ ap (told_from 0) m));
      sessions = (let a : AreOfSessions (length last) (owns (names ++ y ∷ [])) = subst (AreOfSessions (length last)) m (of_sessions_push (length last) (owns names) y.own h.sessions l) in
          subst (λ k. AreOfSessions k (owns (names ++ y ∷ []))) (sym (length-set last y.own.place.session.0 (length names + 1))) a);
      last_are = (let a : AreLast (slice_set last y.own.place.session.0 (length (owns names) + 1)) (owns (names ++ y ∷ [])) = subst (AreLast (slice_set last y.own.place.session.0 (length (owns names) + 1))) m (are_last_push last (owns names) y.own h.last_are l) in
          subst (λ k. AreLast (slice_set last y.own.place.session.0 (k + 1)) (owns (names ++ y ∷ []))) n a);
      few = (let g = length-append names (y ∷ []) in omega (arith, f, g));
    }

-- one that is undecided and was certified is told of
pub certain_told : (x : Own) (lc : ℕ) → is_decided x.phase ≡ false → lc_of x.phase ≡ Some lc → is_told x ≡ true
certain_told x lc d l =
    ap (λ b. not b && elim (lc_of x.phase) [ None ↦ false | Some lc ↦ true ]) d
    ∙ ap (λ (o : Option ℕ). elim o [ None ↦ false | Some lc ↦ true ]) l
