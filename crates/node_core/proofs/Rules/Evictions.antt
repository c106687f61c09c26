-- Own transactions are evicted, by rising number: each is undecided when its turn comes, and no version comes in.
use Rattle.std.proofs.Common.{Bool, List, None, Option, Some, [], ap, arith, eq-eqb, false, inl, inr, length, refl, slice_get, subst, suc, sym, take, true, zero, ℕ, ◌++◌, ◌-◌, ◌<◌, ◌∙◌, ◌∷◌, ◌≡◌, ◌≤◌}
use Rattle.std.proofs.lemmas.Bool.{and_from}
use Rattle.std.proofs.lemmas.List.{append-nil, take-append-le}
use Rattle.std.proofs.lemmas.Option.{slice_get_within}
use Rattle.replica_apply.specs.declared.slaves.Evicted.{Evicted}
use Rattle.replica_apply.specs.Slaves.{evict_all, evict_one, evicted_to, evicts, named}
use Rattle.str_base.proofs.Lists.{get_set_other, got_push}
use Rattle.str_base.proofs.Members.{in_append, in_without}
use Rattle.str_base.specs.declared.names.Cause.TheVariants.{Conflict as ByConflict}
use Rattle.str_base.specs.declared.names.NodeId.{NodeId}
use Rattle.str_base.specs.declared.names.Value.TheVariants.{Absent}
use Rattle.str_base.specs.declared.names.Version.{Version}
use Rattle.str_base.specs.declared.names.Write.{Write}
use Rattle.str_base.specs.Members.{In}
use Rattle.str_base.specs.Versions.{of_tx, same_node}
use Rattle.str_model.specs.Acts.{aborted}
use Rattle.str_model.specs.Arrivals.{held_key}
use Rattle.str_model.specs.declared.messages.Arrived.{Arrived}
use Rattle.str_model.specs.declared.messages.Body.TheVariants.{Replicate}
use Rattle.str_model.specs.declared.messages.Input.TheVariants.{Deliver}
use Rattle.str_model.specs.declared.messages.Message.{Message}
use Rattle.str_model.specs.Scripts
use Rattle.str_model.specs.Strange.{has_named_writes, has_node}
use Rattle.str_model.specs.Views.{Doing, Own, is_decided, name_of}
use Rattle.str_model.proofs.Principle.OwnPaths.{at_own-path}
use Rattle.str_model.proofs.Principle.SingleChanges.{Comes, InRule, Path, act_abort, and_then, by_eviction, one, stay}
use Rattle.str_scene.specs.Scenes.{Here}

-- ---- who is evicted

-- one that is evicted holds a key; those before it have lower numbers
pub record EvictedAt (node : NodeId) (vs : List Version) (ws : List Write) (es : List Evicted) (k : ℕ) (e : Evicted) : Type 0 where
  pub write : Write
  pub held : held_key vs (named node e.seq) ws ≡ Some write
  pub above : 1 ≤ e.seq
  pub before : (f : Evicted) → In f (take k es) → (1 ≤ f.seq) × (f.seq < e.seq)

in_take : {A : Type 0} (k : ℕ) (xs : List A) (f : A) → In f (take k xs) → In f xs
in_take zero xs f h = absurd h
in_take (suc k) [] f h = absurd h
in_take (suc k) (x ∷ xs) f (inl q) = inl q
in_take (suc k) (x ∷ xs) f (inr h) = inr (in_take k xs f h)

module _ (node : NodeId) (vs : List Version) (ws : List Write) where
  evicted_within : (n : ℕ) (f : Evicted) → In f (evicted_to node vs ws n) → (1 ≤ f.seq) × (f.seq ≤ n)
  evicted_within zero f h = absurd h
  evicted_within (suc n) f h = elim (in_append (evicted_to node vs ws n) (evicts (suc n) (held_key vs (named node (suc n)) ws)) f h) [
    | inl i ↦ (let r = evicted_within n f i in (r.0, omega (arith, r.1)))
    | inr i ↦ by_held (held_key vs (named node (suc n)) ws) i
  ]
    where
      by_held : (o : Option Write) → In f (evicts (suc n) o) → (1 ≤ f.seq) × (f.seq ≤ suc n)
      by_held None i = absurd i
      by_held (Some w) (inl q) = let is : suc n ≡ f.seq = ap (λ (z : Evicted). z.seq) q in (omega (arith, is), omega (arith, is))
      by_held (Some w) (inr i) = absurd i

  pub evicted_at : (n k : ℕ) (e : Evicted) → slice_get (evicted_to node vs ws n) k ≡ Some e → EvictedAt node vs ws (evicted_to node vs ws n) k e
  evicted_at zero k e g = absurd (cc g)
  evicted_at (suc n) k e g = by_held (evicted_at n k e) (held_key vs (named node (suc n)) ws) refl g
    where
      by_held : (slice_get (evicted_to node vs ws n) k ≡ Some e → EvictedAt node vs ws (evicted_to node vs ws n) k e) → (o : Option Write) → held_key vs (named node (suc n)) ws ≡ o
          → slice_get (evicted_to node vs ws n ++ evicts (suc n) o) k ≡ Some e → EvictedAt node vs ws (evicted_to node vs ws n ++ evicts (suc n) o) k e
      by_held rec None q g =
          let nil = append-nil (evicted_to node vs ws n) in
          subst (λ ys. EvictedAt node vs ws ys k e) (sym nil) (rec (ap (λ ys. slice_get ys k) (sym nil) ∙ g))
      by_held rec (Some w) q g = elim (got_push (evicted_to node vs ws n) k (record { seq = suc n; key = w.key }) e g) [
        | inl h ↦ last w q h.0 h.1
        | inr h ↦ earlier w (rec h) (slice_get_within (evicted_to node vs ws n) k e h)
      ]
        where
          last : (w : Write) → held_key vs (named node (suc n)) ws ≡ Some w → k ≡ length (evicted_to node vs ws n) → e ≡ record { seq = suc n; key = w.key }
              → EvictedAt node vs ws (evicted_to node vs ws n ++ record { seq = suc n; key = w.key } ∷ []) k e
          last w q l r =
              let is : e.seq ≡ suc n = ap (λ (z : Evicted). z.seq) r in
              let t : take k (evicted_to node vs ws n ++ record { seq = suc n; key = w.key } ∷ []) ≡ take k (evicted_to node vs ws n) =
              take-append-le k (evicted_to node vs ws n) (record { seq = suc n; key = w.key } ∷ []) (omega (arith, l)) in
              record {
                write = w;
                held = ap (λ m. held_key vs (named node m) ws) is ∙ q;
                above = omega (arith, is);
                before = λ f i. (let r = evicted_within n f (in_take k (evicted_to node vs ws n) f (subst (In f) t i)) in (r.0, (let z = r.1 in omega (arith, z, is))));
              }

          earlier : (w : Write) → EvictedAt node vs ws (evicted_to node vs ws n) k e → k < length (evicted_to node vs ws n)
              → EvictedAt node vs ws (evicted_to node vs ws n ++ record { seq = suc n; key = w.key } ∷ []) k e
          earlier w r l =
              let t : take k (evicted_to node vs ws n ++ record { seq = suc n; key = w.key } ∷ []) ≡ take k (evicted_to node vs ws n) =
              take-append-le k (evicted_to node vs ws n) (record { seq = suc n; key = w.key } ∷ []) (omega (arith, l)) in
              record { write = r.write; held = r.held; above = r.above; before = λ f i. r.before f (subst (In f) t i) }

-- ---- what evictions leave

module _ (here : Here) (a : Arrived) where
  pub evict_split : (es fs : List Evicted) (d : Doing) → evict_all here a (es ++ fs) d ≡ evict_all here a fs (evict_all here a es d)
  evict_split [] fs d = refl
  evict_split (e ∷ es) fs d = evict_split es fs (evict_one here a e d)

  -- an eviction leaves the own transactions at other places
  one_leaves : (e : Evicted) (j : ℕ) (d : Doing) → (j ≡ e.seq - 1 → ⊥) → slice_get (evict_one here a e d).view.own j ≡ slice_get d.view.own j
  unfolding aborted
  one_leaves e j d n = by_own (slice_get d.view.own (e.seq - 1))
    where
      by_test : (x : Own) (b : Bool) → slice_get (Scripts.unless_decided b (λ z. aborted here (e.seq - 1) (ByConflict a.tx e.key here.node) x z) d).view.own j ≡ slice_get d.view.own j
      by_test x true = refl
      by_test x false = get_set_other d.view.own (e.seq - 1) j _ n

      by_own : (o : Option Own) → slice_get (Scripts.of_own (λ x z. aborted here (e.seq - 1) (ByConflict a.tx e.key here.node) x z) o d).view.own j ≡ slice_get d.view.own j
      by_own None = refl
      by_own (Some x) = by_test x (is_decided x.phase)

  -- so do the evictions of lower numbers
  pub evict_leaves : (es : List Evicted) (q : ℕ) (d : Doing) → ((f : Evicted) → In f es → (1 ≤ f.seq) × (f.seq < q)) → slice_get (evict_all here a es d).view.own (q - 1) ≡ slice_get d.view.own (q - 1)
  evict_leaves [] q d h = refl
  evict_leaves (e ∷ es) q d h =
      let l = h e (inl refl) in
      evict_leaves es q (evict_one here a e d) (λ f i. h f (inr i)) ∙ one_leaves e (q - 1) d (λ z. omega (arith, z, l.0, l.1))

  -- no version comes in
  one_fewer : (e : Evicted) (d : Doing) (u : Version) → In u (evict_one here a e d).view.versions → In u d.view.versions
  unfolding aborted
  one_fewer e d u = by_own (slice_get d.view.own (e.seq - 1))
    where
      by_test : (x : Own) (b : Bool) → In u (Scripts.unless_decided b (λ z. aborted here (e.seq - 1) (ByConflict a.tx e.key here.node) x z) d).view.versions → In u d.view.versions
      by_test x true h = h
      by_test x false h = in_without (of_tx (name_of here (e.seq - 1))) d.view.versions u h

      by_own : (o : Option Own) → In u (Scripts.of_own (λ x z. aborted here (e.seq - 1) (ByConflict a.tx e.key here.node) x z) o d).view.versions → In u d.view.versions
      by_own None h = h
      by_own (Some x) h = by_test x (is_decided x.phase) h

  pub evict_fewer : (es : List Evicted) (d : Doing) (u : Version) → In u (evict_all here a es d).view.versions → In u d.view.versions
  evict_fewer [] d u h = h
  evict_fewer (e ∷ es) d u h = one_fewer e d u (evict_fewer es (evict_one here a e d) u h)

  -- ---- they are a path

  -- a message that brings what arrived
  abbrev pub brings : Message
  brings = record { sender = here.node; receiver = here.node; body = Replicate a.tx a.part a.rs a.lc a.writes }

  pub brought : has_node here here.node ≡ true → has_named_writes here a.tx a.part a.rs a.lc a.writes ≡ true → Comes here (Deliver brings) here.node (Replicate a.tx a.part a.rs a.lc a.writes)
  brought e n = (
    brings,
    refl,
    refl,
    refl,
    and_from (same_node here.node here.node) _ (eq-eqb here.node.0 here.node.0 refl) (and_from (has_node here here.node) _ e n),
  )

  pub evict-path : (es : List Evicted) (d : Doing) → Comes here (Deliver brings) here.node (Replicate a.tx a.part a.rs a.lc a.writes) → Path here (Deliver brings) InRule d (evict_all here a es d)
  evict-path [] d c = stay d
  evict-path (e ∷ es) d c =
      let z : Doing = evict_one here a e d in
      let w : Write = record { key = e.key; value = Absent } in
      and_then d z (evict_all here a es z)
      (at_own-path here (Deliver brings) InRule (e.seq - 1) (λ x y. aborted here (e.seq - 1) (ByConflict a.tx e.key here.node) x y) d tt
      (λ x own f. one (act_abort (e.seq - 1) _ x d own f (by_eviction here.node a w c))))
      (evict-path es z c)
