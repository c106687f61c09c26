-- Marks of keys: they only rise, and who has read a key at home or waits for it has left its mark there.
use Rattle.std.proofs.Common.{List, None, Option, Some, [], ap, arith, length, length-set, max, refl, slice_get, slice_index, slice_set, subst, suc, true, zero, ℕ, ◌+◌, ◌<◌, ◌∙◌, ◌∷◌, ◌≡◌, ◌≤◌, ◌⊎◌}
use Rattle.str_base.specs.declared.names.KeyId.{KeyId}
use Rattle.str_base.specs.declared.names.Value.{Value}
use Rattle.str_base.specs.Versions.{mark_of, raised}
use Rattle.str_scene.specs.declared.names.Op.{Op}
use Rattle.str_scene.specs.declared.names.Op.TheVariants.{Abort as Stop, Add, Del, Get, Need, Put, Puts}
use Rattle.str_scene.specs.declared.names.TxPlace.{TxPlace}
use Rattle.str_scene.specs.SceneLimits.{IsKeyOf, IsOp, IsScene}
use Rattle.str_scene.specs.Scenes.{Scene, Session, nth, ops_at, or_none, script_at}
use Rattle.str_model.specs.declared.names.KeyMark.{KeyMark}
use Rattle.str_model.specs.declared.names.ReadDone.{ReadDone}
use Rattle.str_model.specs.Acts.{raise_all}
use Rattle.str_model.specs.Scripts.{finish, finish_next}
use Rattle.str_base.specs.Values.{is_below}
use Rattle.str_model.specs.Views.{Active, Closing, Own, View}
use Rattle.str_model.proofs.Principle.SingleChanges.{JustMarked, Needs}
use Rattle.str_model.proofs.Changes.SnapshotsGain.{if_elim}
use Rattle.str_model.specs.Owned.{WaitsFor}
use Rattle.str_base.specs.Members.{In}

-- ---- lists of marks

pub index_same : (ms : List ℕ) (i t : ℕ) → i < length ms → slice_index (slice_set ms i t) i ≡ t
index_same [] i t h = absurd (omega (arith, h))
index_same (m ∷ ms) zero t h = refl
index_same (m ∷ ms) (suc i) t h = index_same ms i t (omega (arith, h))

index_rises : (ms : List ℕ) (i j t : ℕ) → slice_index ms i ≤ t → slice_index ms j ≤ slice_index (slice_set ms i t) j
index_rises [] i j t h = omega arith
index_rises (m ∷ ms) zero zero t h = h
index_rises (m ∷ ms) zero (suc j) t h = omega arith
index_rises (m ∷ ms) (suc i) zero t h = omega arith
index_rises (m ∷ ms) (suc i) (suc j) t h = index_rises ms i j t h

-- marks have the length that they had, and are none lower
pub record Rises (ms ns : List ℕ) : Type 0 where
  pub same_length : length ns ≡ length ms
  pub above : (k : KeyId) → mark_of ms k ≤ mark_of ns k

pub rises_self : (ms : List ℕ) → Rises ms ms
rises_self ms = record { same_length = refl; above = λ k. omega arith }

pub raised-rises : (ms : List ℕ) (k : KeyId) (t : ℕ) → Rises ms (raised ms k t)
raised-rises ms k t =
    record { same_length = length-set ms k.0 (max (mark_of ms k) t); above = λ l. index_rises ms k.0 l.0 (max (mark_of ms k) t) (omega arith) }

rises_more : (a b c : List ℕ) → Rises a b → Rises b c → Rises a c
rises_more a b c x y = record { same_length = y.same_length ∙ x.same_length; above = λ k. omega (arith, x.above k, y.above k) }

pub raise_all-rises : (ks : List KeyMark) (ms : List ℕ) → Rises ms (raise_all ks ms)
raise_all-rises [] ms = rises_self ms
raise_all-rises (k ∷ ks) ms =
    rises_more ms (raised ms k.key k.mark.0) (raise_all ks (raised ms k.key k.mark.0)) (raised-rises ms k.key k.mark.0) (raise_all-rises ks (raised ms k.key k.mark.0))

-- a key of the scene that has just been marked
pub marked_now : (v : View) (k : KeyId) (t : ℕ) → k.0 < length v.marks → JustMarked v k t → t ≤ mark_of v.marks k
marked_now v k t within m =
    let is : k.0 < length m.0 = omega (arith, within, ap length m.1, length-set m.0 k.0 (max (mark_of m.0 k) t)) in
    let at : mark_of v.marks k ≡ max (mark_of m.0 k) t = ap (λ ms. mark_of ms k) m.1 ∙ index_same m.0 k.0 (max (mark_of m.0 k) t) is in
    omega (arith, at)

-- ---- keys of scripts are keys of the scene

need-is : (version : ℕ) (scene : Scene) (op : Op) (k : KeyId) → IsOp version scene.keys op → Needs op k → k.0 < length scene.keys.names
need-is version scene (Get l) k h n = subst (λ (z : KeyId). IsKeyOf scene.keys z) n h
need-is version scene (Add l m) k h n = subst (λ (z : KeyId). IsKeyOf scene.keys z) n h.0
need-is version scene (Need l m) k h n = subst (λ (z : KeyId). IsKeyOf scene.keys z) n h.0
need-is version scene (Put l m) k h n = absurd n
need-is version scene (Puts l t) k h n = absurd n
need-is version scene (Del l) k h n = absurd n
need-is version scene Stop k h n = absurd n

pub script_op : (scene : Scene) → IsScene scene → (place : TxPlace) (i : ℕ) (op : Op) → slice_get (script_at scene place) i ≡ Some op → IsOp scene.version scene.keys op
script_op scene ok place i op e = by_session place.session.0 (nth scene.sessions place.session.0) refl e
  where
    by_ops : (s : Session) (k : ℕ) → slice_get scene.sessions k ≡ Some s → (m : ℕ) (o : Option (List Op)) → nth s.txs m ≡ o → slice_get (or_none o) i ≡ Some op → IsOp scene.version scene.keys op
    by_ops s k g m None q f = absurd (cc f)
    by_ops s k g zero (Some ops) q f = absurd (cc q)
    by_ops s k g (suc m) (Some ops) q f = ((ok.sessions k s g).scripts m ops q).ops i op f

    by_session : (n : ℕ) (o : Option Session) → nth scene.sessions n ≡ o → slice_get (ops_at o place.index) i ≡ Some op → IsOp scene.version scene.keys op
    by_session n None q f = absurd (cc f)
    by_session zero (Some s) q f = absurd (cc q)
    by_session (suc n) (Some s) q f = by_ops s n q place.index (nth s.txs place.index) refl f

pub need_within : (scene : Scene) → IsScene scene → (place : TxPlace) (i : ℕ) (op : Op) (k : KeyId) → slice_get (script_at scene place) i ≡ Some op → Needs op k → k.0 < length scene.keys.names
need_within scene ok place i op k e n = need-is scene.version scene op k (script_op scene ok place i op e) n

-- ---- what has been read

-- it has read the key, or waits for it
abbrev pub Looks : Own → KeyId → Type 0
Looks x k = ((r : ReadDone) × (In r x.reads) × (r.key ≡ k)) ⊎ WaitsFor x.phase k

-- no more was read, and nothing else is waited for
pub record LooksLess (x y : Own) : Type 0 where
  pub reads : y.reads ≡ x.reads
  pub rs : y.snap.rs ≡ x.snap.rs
  pub waits : (k : KeyId) → WaitsFor y.phase k → WaitsFor x.phase k

pub finish-looks : (op : Op) (a : Value) (x : Own) → LooksLess x (finish op a x)
finish-looks (Get k) a x = record { reads = refl; rs = refl; waits = λ k h. absurd h }
finish-looks (Put k n) a x = record { reads = refl; rs = refl; waits = λ k h. absurd h }
finish-looks (Puts k t) a x = record { reads = refl; rs = refl; waits = λ k h. absurd h }
finish-looks (Add k n) a x = record { reads = refl; rs = refl; waits = λ k h. absurd h }
finish-looks (Del k) a x = record { reads = refl; rs = refl; waits = λ k h. absurd h }
finish-looks (Need k n) a x =
    if_elim (LooksLess x) (is_below a n) (record x { phase = Closing true }) (record x { next = x.next + 1; phase = Active }) (λ e. record { reads = refl; rs = refl; waits = λ k h. absurd h }) (λ e. record { reads = refl; rs = refl; waits = λ k h. absurd h })
finish-looks Stop a x = record { reads = refl; rs = refl; waits = λ k h. h }

pub finish_next-looks : (o : Option Op) (a : Value) (x : Own) → LooksLess x (finish_next o a x)
finish_next-looks None a x = record { reads = refl; rs = refl; waits = λ k h. h }
finish_next-looks (Some op) a x = finish-looks op a x
