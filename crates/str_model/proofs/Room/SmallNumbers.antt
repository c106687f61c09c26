-- The small numbers of a node: evictions, and the room of a script, by the facts of its view.
use Rattle.std.proofs.Common.{Bool, List, None, Option, Some, [], ap, arith, eqb-true, false, if◌then◌else◌, length, not, refl, slice_get, subst, suc, true, zero, ℕ, ◌&&◌, ◌+◌, ◌<◌, ◌==◌, ◌∙◌, ◌∷◌, ◌≡◌, ◌≤◌}
use Rattle.std.proofs.lemmas.Option.{slice_get_within}
use Rattle.std.specs.List.{list_any}
use Rattle.str_base.specs.declared.names.NodeId.{NodeId}
use Rattle.str_base.specs.declared.names.TxId.{TxId}
use Rattle.str_base.specs.declared.names.Version.{Version}
use Rattle.str_scene.specs.declared.names.Op.{Op}
use Rattle.str_scene.specs.declared.names.TxPlace.{TxPlace}
use Rattle.str_base.specs.Versions.{is_local, of_tx, same_node}
use Rattle.str_model.specs.NodeFacts.{MomentFacts, how_many, is_stopped, one_if}
use Rattle.str_model.specs.Owned.{Owns}
use Rattle.str_model.specs.Scripts.{own_op}
use Rattle.str_model.specs.Strange.{has_node}
use Rattle.str_model.specs.Views.{Own, View}
use Rattle.str_scene.specs.SceneLimits.{IsScene}
use Rattle.str_scene.specs.Scenes.{Here, Scene, Session, nth, ops_at, or_none, script_at}
use Rattle.str_model.proofs.OwnFacts.FewOwn.{is_open, open_few}
use Rattle.str_model.proofs.Changes.PairWords.{any_has}
use Rattle.str_base.proofs.Tests.{and_true_left, and_true_right}
use Rattle.str_base.specs.Members.{In}
use Rattle.str_model.proofs.KindTests.{local_kind}

-- ---- evictions

-- the transaction of this node and number
abbrev named : NodeId → ℕ → TxId
named node q = record { node = node; seq = q }

-- a Local version of the transaction
abbrev is_local_of : TxId → Version → Bool
is_local_of tx v = of_tx tx v && is_local v.kind

-- how many of the node's transactions up to a number have a Local version
abbrev pub locals_to : NodeId → List Version → ℕ → ℕ
locals_to node vs zero = 0
locals_to node vs (suc n) = locals_to node vs n + (if list_any (is_local_of (named node (suc n))) vs then 1 else 0)

-- whether there is one and it is undecided
abbrev is_there : Option Own → Bool
is_there None = false
is_there (Some x) = is_open x

-- how many of the first n are undecided
abbrev opens_to : List Own → ℕ → ℕ
opens_to own zero = 0
opens_to own (suc n) = opens_to own n + one_if (is_there (slice_get own n))

opens_shift : (x : Own) (xs : List Own) (n : ℕ) → opens_to (x ∷ xs) (suc n) ≡ one_if (is_open x) + opens_to xs n
opens_shift x xs zero = omega arith
opens_shift x xs (suc n) = let r = opens_shift x xs n in omega (arith, r)

opens_none : (n : ℕ) → opens_to [] n ≡ 0
opens_none zero = refl
opens_none (suc n) = let r = opens_none n in omega (arith, r)

opens_within : (own : List Own) (n : ℕ) → opens_to own n ≤ how_many is_open own
opens_within [] n = let r = opens_none n in omega (arith, r)
opens_within (x ∷ xs) zero = omega arith
opens_within (x ∷ xs) (suc n) = let r = opens_within xs n in let s = opens_shift x xs n in omega (arith, r, s)

module _ (here : Here) (v : View) (h : MomentFacts here v) (vs : List Version) (some_of : (u : Version) → In u vs → In u v.versions) where
  -- who has a Local version is undecided
  there_open : (n : ℕ) → list_any (is_local_of (named here.node (suc n))) vs ≡ true → is_there (slice_get v.own n) ≡ true
  there_open n e =
      let r = any_has (is_local_of (named here.node (suc n))) vs e in
      let o = h.base.locals r.0 (some_of r.0 r.1) (local_kind r.0.kind (and_true_right (of_tx (named here.node (suc n)) r.0) (is_local r.0.kind) r.2)) in
      let s : r.0.tx.seq ≡ suc n = eqb-true r.0.tx.seq (suc n) (and_true_right (same_node r.0.tx.node here.node) (r.0.tx.seq == suc n) (and_true_left (of_tx (named here.node (suc n)) r.0) (is_local r.0.kind) r.2)) in
      let own : slice_get v.own n ≡ Some o.owner = subst (λ m. slice_get v.own m ≡ Some o.owner) (omega (arith, s, o.seq)) o.owns in
      ap is_there own ∙ ap not o.open_

  locals_open : (n : ℕ) → locals_to here.node vs n ≤ opens_to v.own n
  locals_open zero = omega arith
  locals_open (suc n) = by_test (list_any (is_local_of (named here.node (suc n))) vs) refl (locals_open n)
    where
      by_test : (b : Bool) → list_any (is_local_of (named here.node (suc n))) vs ≡ b → locals_to here.node vs n ≤ opens_to v.own n
          → locals_to here.node vs n + (if b then 1 else 0) ≤ opens_to v.own n + one_if (is_there (slice_get v.own n))
      by_test true t r = let q : one_if (is_there (slice_get v.own n)) ≡ 1 = ap one_if (there_open n t) in omega (arith, r, q)
      by_test false t r = omega (arith, r)

  -- at most 16 of the node's transactions have a Local version among these
  pub locals_few : IsScene here.scene → has_node here here.node ≡ true → (n : ℕ) → locals_to here.node vs n ≤ 16
  locals_few ok exists n = let a = locals_open n in let b = opens_within v.own n in let c = open_few here ok exists v.own h.order in omega (arith, a, b, c)

-- ---- scripts

-- a script has at most 16 operations
pub script_few : (scene : Scene) → IsScene scene → (place : TxPlace) → length (script_at scene place) ≤ 16
script_few scene ok place = by_session place.session.0 (nth scene.sessions place.session.0) refl
  where
    by_ops : (s : Session) (k : ℕ) → slice_get scene.sessions k ≡ Some s → (m : ℕ) (o : Option (List Op)) → nth s.txs m ≡ o → length (or_none o) ≤ 16
    by_ops s k g m None q = omega arith
    by_ops s k g zero (Some ops) q = absurd (cc q)
    by_ops s k g (suc m) (Some ops) q = ((ok.sessions k s g).scripts m ops q).few

    by_session : (k : ℕ) (o : Option Session) → nth scene.sessions k ≡ o → length (ops_at o place.index) ≤ 16
    by_session k None q = omega arith
    by_session zero (Some s) q = absurd (cc q)
    by_session (suc k) (Some s) q = by_ops s k q place.index (nth s.txs place.index) refl

-- where an own transaction that has not stopped does an operation, there is room for what it writes, reads and gets
pub record HasRoom (x : Own) : Type 0 where
  pub next : x.next < 16
  pub writes : length x.writes < 16
  pub reads : length x.reads < 16
  pub gets : length x.gets < 16

pub has_room : (here : Here) → IsScene here.scene → (v : View) → MomentFacts here v → (i : ℕ) (x : Own) (op : Op) → Owns v i x → is_stopped x.phase ≡ false → own_op here x ≡ Some op → HasRoom x
has_room here ok v h i x op own s e =
    let l = h.lengths i x own in
    let n = slice_get_within (script_at here.scene x.place) x.next op e in
    let f = script_few here.scene ok x.place in
    record {
      next = omega (arith, n, f);
      writes = (let w = l.writes in omega (arith, n, f, w));
      reads = (let r = l.reads_next s in omega (arith, n, f, r));
      gets = (let g = l.gets in omega (arith, n, f, g));
    }

-- a transaction has at most 16 writes
pub writes_few : (here : Here) → IsScene here.scene → (v : View) → MomentFacts here v → (i : ℕ) (x : Own) → Owns v i x → length x.writes ≤ 16
writes_few here ok v h i x own = let l = h.lengths i x own in let f = script_few here.scene ok x.place in omega (arith, l.writes, l.next, f)
