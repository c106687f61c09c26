-- What arrives may be judged and placed by a node that keeps the facts of its view.
use Rattle.std.proofs.Common.{List, [], ap, eq-eqb, false, inl, inr, map, not, refl, sym, true, ℕ, ◌∙◌, ◌∷◌, ◌≡◌, ◌≤◌}
use Rattle.std.specs.List.{list_any}
use Rattle.str_base.specs.declared.names.PartId.{PartId}
use Rattle.str_base.specs.declared.names.TxId.{TxId}
use Rattle.str_base.specs.declared.names.Version.{Version}
use Rattle.str_base.specs.declared.names.Write.{Write}
use Rattle.str_model.specs.declared.messages.Arrived.{Arrived}
use Rattle.prepare_master.specs.MasterTurns.{HaveMarks, IsBeside}
use Rattle.replica_apply.specs.Changes.{CanInsert}
use Rattle.replica_apply.specs.Slaves.{HeldByOpen, locals_to}
use Rattle.replica_store.specs.StoreLists.{ListsApart}
use Rattle.str_base.specs.Versions.{insert_version, of_pair, same_key, same_tx}
use Rattle.str_model.specs.Acts.{pre_version}
use Rattle.str_model.specs.NodeFacts.{AreDistinct, MomentFacts}
use Rattle.str_model.specs.Strange.{distinct_keys, has_node}
use Rattle.str_model.specs.Views.{View}
use Rattle.str_scene.specs.SceneLimits.{IsScene}
use Rattle.str_scene.specs.Scenes.{Here, hosts, part_of}
use Rattle.str_model.proofs.Room.SmallNumbers.{locals_few}
use Rattle.str_model.proofs.ViewFacts.NodeUses.{have_marks, held_open, is_beside, none_of_key}
use Rattle.str_model.proofs.Changes.PairWords.{pair-is}
use Rattle.str_model.proofs.ViewFacts.ValidMessages.{NamedWrites}
use Rattle.version_chain.specs.ChainLists.{Apart, Each}
use Rattle.std.proofs.lemmas.Bool.{false_from_ne_true}
use Rattle.str_base.proofs.Members.{any_in, in_at, in_insert, map_in}
use Rattle.str_base.proofs.Tests.{and_true_left, and_true_right}
use Rattle.str_base.specs.Members.{In}

module _ (here : Here) (v : View) (h : MomentFacts here v) where
  -- who is evicted is an undecided own transaction
  pub held_by_open : (ws : List Write) → HeldByOpen here v ws
  held_by_open ws q w e = let c = held_open here v h q ws w e in (c.place, c.owner, c.number, c.owns, c.open_)

  -- at most 16 are
  pub evicted_few : IsScene here.scene → has_node here here.node ≡ true → (store : List Version) → ((u : Version) → In u store → In u v.versions) → (n : ℕ) → locals_to here.node store n ≤ 16
  evicted_few ok exists store f n = locals_few here v h store f ok exists n

  -- each key of what arrives has a mark
  pub arrived_marks : (a : Arrived) → NamedWrites here a.tx a.part a.rs a.lc a.writes → HaveMarks a.writes v.marks
  arrived_marks a n i w e = have_marks here v h w.key (n.keys w (in_at a.writes i w e)).0

  -- the cache is beside what arrives
  pub cache_beside : (a : Arrived) → NamedWrites here a.tx a.part a.rs a.lc a.writes → hosts here.scene here.node a.part ≡ true → (cache : List Version) → ((u : Version) → In u cache → In u v.versions)
      → ((u : Version) → In u cache → hosts here.scene here.node u.part ≡ false) → Each (IsBeside a) cache
  cache_beside a n hs [] f g = tt
  cache_beside a n hs (u ∷ us) f g = (is_beside here v h a n hs u (f u (inl refl)) (g u (inl refl)), cache_beside a n hs us (λ z k. f z (inr k)) (λ z k. g z (inr k)))

-- ---- what is placed

each-apart : (a : Arrived) (ts : ℕ) (w : Write) (vs : List Version) → ((u : Version) → In u vs → same_tx u.tx a.tx ≡ true → same_key u.key w.key ≡ true → ⊥) → Each (Apart (pre_version a ts w)) vs
each-apart a ts w [] f = tt
each-apart a ts w (u ∷ vs) f =
    ((λ k n s. f u (inl refl) (tx_is n s) (eq-eqb u.key.0 w.key.0 (sym k))), each-apart a ts w vs (λ z j. f z (inr j)))
  where
    tx_is : a.tx.node.0 ≡ u.tx.node.0 → a.tx.seq ≡ u.tx.seq → same_tx u.tx a.tx ≡ true
    tx_is n s = rw (eq-eqb u.tx.node.0 a.tx.node.0 (sym n), eq-eqb u.tx.seq a.tx.seq (sym s)) refl

-- a write and those after it are of different keys
other-key : (w : Write) (ws : List Write) → AreDistinct (w ∷ ws) → (z : Write) → In z ws → same_key w.key z.key ≡ true → ⊥
other-key w ws d z j e =
    let a = any_in (same_key w.key) (map (λ (u : Write). u.key) ws) z.key (map_in (λ (u : Write). u.key) ws z j) e in
    let b = and_true_left (not (list_any (same_key w.key) (map (λ (u : Write). u.key) ws))) (distinct_keys (map (λ (u : Write). u.key) ws)) d in
    cc (ap not a, b)

can-insert : (a : Arrived) (ts : ℕ) (ws : List Write) (vs : List Version) → AreDistinct ws → ((u : Version) → In u vs → (w : Write) → In w ws → same_tx u.tx a.tx ≡ true → same_key u.key w.key ≡ true → ⊥)
    → CanInsert (map (pre_version a ts) ws) vs
can-insert a ts [] vs d f = tt
can-insert a ts (w ∷ ws) vs d f = (
  each-apart a ts w vs (λ u j t k. f u j w (inl refl) t k),
  can-insert a ts ws (insert_version (pre_version a ts w) vs) (and_true_right (not (list_any (same_key w.key) (map (λ (u : Write). u.key) ws))) (distinct_keys (map (λ (u : Write). u.key) ws)) d)
      (λ u j z m t k. elim (in_insert (pre_version a ts w) vs u j) [ inl e ↦ other-key w ws d z m (ap (λ (q : Version). same_key q.key z.key) e ∙ k) | inr i ↦ f u i z (inr m) t k ]),
)

-- the versions of what arrives may be placed, where none of its pair stands: a new one, and a parked one that is judged again
pub may_place : (here : Here) (v : View) → MomentFacts here v → (a : Arrived) (ts : ℕ) → NamedWrites here a.tx a.part a.rs a.lc a.writes
    → ((u : Version) → In u v.versions → of_pair a.tx a.part u ≡ false) → (store : List Version) → ((u : Version) → In u store → In u v.versions) → CanInsert (map (pre_version a ts) a.writes) store
may_place here v h a ts n none store f = can-insert a ts a.writes store n.once (λ u j w m t k. none_of_key here v h a n none u (f u j) w m t k)

-- ---- decisions that come

module _ (here : Here) (v : View) (h : MomentFacts here v) where
  -- a cached version and a stored one are of two keys
  far-apart : (u w : Version) → In u v.versions → In w v.versions → hosts here.scene here.node u.part ≡ false → hosts here.scene here.node w.part ≡ true → Apart u w
  far-apart u w i j f g k n s =
      let key : u.key ≡ w.key = λ z. record { 0 = k z } in
      let part : u.part ≡ w.part = (h.versions u i).part ∙ (ap (λ z. part_of here.scene z) key ∙ sym (h.versions w j).part) in
      cc (sym f ∙ ap (λ p. hosts here.scene here.node p) part, g)

  each-far : (u : Version) (store : List Version) → In u v.versions → hosts here.scene here.node u.part ≡ false → ((w : Version) → In w store → (In w v.versions) × (hosts here.scene here.node w.part ≡ true))
      → Each (Apart u) store
  each-far u [] i f g = tt
  each-far u (w ∷ ws) i f g = (far-apart u w i (g w (inl refl)).0 f (g w (inl refl)).1, each-far u ws i f (λ z k. g z (inr k)))

  pub cache_apart : (cache store : List Version) → ((u : Version) → In u cache → (In u v.versions) × (hosts here.scene here.node u.part ≡ false))
      → ((w : Version) → In w store → (In w v.versions) × (hosts here.scene here.node w.part ≡ true)) → ListsApart cache store
  cache_apart [] store f g = tt
  cache_apart (u ∷ us) store f g = (each-far u store (f u (inl refl)).0 (f u (inl refl)).1 g, cache_apart us store (λ z k. f z (inr k)) g)

-- no cached version is of a pair of a partition that the node has
pub cache_other : (here : Here) (tx : TxId) (p : PartId) → hosts here.scene here.node p ≡ true → (cache : List Version) → ((u : Version) → In u cache → hosts here.scene here.node u.part ≡ false)
    → Each (λ u. of_pair tx p u ≡ false) cache
cache_other here tx p hs [] f = tt
cache_other here tx p hs (u ∷ us) f = (
  false_from_ne_true (of_pair tx p u) (λ e. let q : u.part ≡ p = (pair-is tx p u e).1 in cc (sym (f u (inl refl)) ∙ ap (λ z. hosts here.scene here.node z) q, hs)),
  cache_other here tx p hs us (λ z k. f z (inr k)),
)
