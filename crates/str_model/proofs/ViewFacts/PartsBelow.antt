-- Marks, versions, the gate and the snapshot of an own transaction below a bound.
use Rattle.dependency_set.specs.declared.names.Dep.{Dep}
use Rattle.dependency_set.specs.Snapshots.{Snap}
use Rattle.partition_map.specs.declared.rows.Asked.{Asked}
use Rattle.str_model.proofs.ViewFacts.TimesBelow.{MarksBelow, OwnBelow, VersionsBelow, ViewBelow, greatest_below, mark_below, own_at}
use Rattle.str_model.proofs.Changes.SnapshotsGain.{Extends, Gains, gains_it, gains_of, if_elim}
use Rattle.str_model.specs.Owned.{final_times}
use Rattle.std.proofs.Common.{Bool, List, None, Option, Some, [], ap, arith, find, inl, inr, is_some, map, max, not, refl, slice_set, suc, sym, true, zero, ℕ, ◌+◌, ◌-◌, ◌<◌, ◌∷◌, ◌≡◌, ◌⊎◌}
use Rattle.str_base.specs.declared.names.KeyId.{KeyId}
use Rattle.str_base.specs.declared.names.PartId.{PartId}
use Rattle.str_base.specs.declared.names.Ts.{Ts}
use Rattle.str_base.specs.declared.names.TxId.{TxId}
use Rattle.str_base.specs.declared.names.Value.{Value}
use Rattle.str_base.specs.declared.names.Version.{Version}
use Rattle.str_base.specs.Values.{is_below}
use Rattle.str_base.specs.Versions.{insert_all, mark_of, raised, settled, without}
use Rattle.str_model.specs.Acts.{raise_all, with_asked}
use Rattle.str_model.specs.declared.messages.Waiter.{Waiter}
use Rattle.str_model.specs.declared.names.KeyMark.{KeyMark}
use Rattle.str_model.specs.Gates.{CommitAt, gate_of, gate_turn}
use Rattle.str_model.specs.Gates
use Rattle.str_model.specs.Proposals.{holds_pair}
use Rattle.str_model.specs.Scripts.{finish, finish_next}
use Rattle.str_model.specs.Steps.{drop_held}
use Rattle.str_model.specs.Turns.{greatest}
use Rattle.str_model.specs.Views.{Active, Closing, Own, View, lc_of}
use Rattle.str_scene.specs.declared.names.Op.TheVariants.{Abort as Stop, Add, Del, Get, Need, Put, Puts}
use Rattle.str_scene.specs.declared.names.Op.{Op}
use Rattle.str_scene.specs.Scenes.{Here}
use Rattle.str_base.proofs.Members.{in_insert_all, in_map, in_without}
use Rattle.str_base.specs.Members.{In}

-- ---- lists

pub in_set : {A : Type 0} (xs : List A) (i : ℕ) (y z : A) → In z (slice_set xs i y) → (z ≡ y) ⊎ In z xs
in_set [] i y z h = inr h
in_set (x ∷ xs) zero y z (inl e) = inl (sym e)
in_set (x ∷ xs) zero y z (inr h) = inr (inr h)
in_set (x ∷ xs) (suc i) y z (inl e) = inr (inl e)
in_set (x ∷ xs) (suc i) y z (inr h) = elim (in_set xs i y z h) [ inl e ↦ inl e | inr k ↦ inr (inr k) ]

pub raised_below : (b : ℕ) (ms : List ℕ) (k : KeyId) (t : ℕ) → t < b → 0 < b → MarksBelow b ms → MarksBelow b (raised ms k t)
raised_below b ms k t less some h u j =
    elim (in_set ms k.0 (max (mark_of ms k) t) u j) [ inl e ↦ (let m = mark_below b ms k some h in omega (arith, e, m, less)) | inr i ↦ h u i ]

pub all_below : (b : ℕ) (ks : List KeyMark) (ms : List ℕ) → ((m : KeyMark) → In m ks → m.mark.0 < b) → 0 < b → MarksBelow b ms → MarksBelow b (raise_all ks ms)
all_below b [] ms f some h = h
all_below b (k ∷ ks) ms f some h =
    all_below b ks (raised ms k.key k.mark.0) (λ m j. f m (inr j)) some (raised_below b ms k.key k.mark.0 (f k (inl refl)) some h)

pub in_dropped : (tx : TxId) (p : PartId) (ws : List Waiter) (r : Waiter) → In r (drop_held tx p ws) → In r ws
in_dropped tx p [] r h = h
in_dropped tx p (w ∷ ws) r h =
    (if_elim (λ (zs : List Waiter). In r zs → In r (w ∷ ws)) (holds_pair tx p w) ws (w ∷ drop_held tx p ws)
    (λ e k. inr k) (λ e k. elim k [ inl q ↦ inl q | inr j ↦ inr (in_dropped tx p ws r j) ])) h

pub insert_below : (b : ℕ) (ws vs : List Version) → VersionsBelow b ws → VersionsBelow b vs → VersionsBelow b (insert_all ws vs)
insert_below b ws vs f g q h = elim (in_insert_all ws vs q h) [ inl k ↦ f q k | inr k ↦ g q k ]

pub settled_below : (b fc : ℕ) (vs : List Version) → fc < b → VersionsBelow b (map (settled fc) vs)
settled_below b fc vs less q h = let r = in_map (settled fc) vs q h in omega (arith, less, ap (λ (z : Version). z.ts.0) r.2)

pub without_below : (b : ℕ) (test : Version → Bool) (vs : List Version) → VersionsBelow b vs → VersionsBelow b (without test vs)
without_below b test vs f q h = f q (in_without test vs q h)

pub asked_ack : (p : PartId) (parts : List Asked) (a : Asked) → In a (with_asked p parts) → (z : Asked) × In z parts × (z.ack ≡ a.ack)
asked_ack p [] a h = absurd h
asked_ack p (z ∷ parts) a (inl e) = (z, inl refl, ap (λ (y : Asked). y.ack) e)
asked_ack p (z ∷ parts) a (inr h) = let r = asked_ack p parts a h in (r.0, inr r.1, r.2)

-- ---- the gate

pub gate_is : (snap : Snap) (lc : ℕ) (parts : List Asked) (wrote : List Gates.DepParts) (fc : ℕ) → gate_turn snap lc parts wrote ≡ CommitAt fc → fc ≡ max lc (greatest (map Gates.ack_or_zero parts))
unfolding gate_turn
gate_is snap lc parts wrote fc e = by_ask (find (Gates.may_ask wrote) parts) e
  where
    by_ack : (o : Option Asked) → Gates.gate_acks lc parts o ≡ CommitAt fc → fc ≡ max lc (greatest (map Gates.ack_or_zero parts))
    by_ack (Some a) e = absurd (cc e)
    by_ack None e = let q : max lc (greatest (map Gates.ack_or_zero parts)) ≡ fc = cc e in sym q

    by_deps : (ds : List Dep) → Gates.gate_deps lc parts ds ≡ CommitAt fc → fc ≡ max lc (greatest (map Gates.ack_or_zero parts))
    by_deps [] e = by_ack (find (λ a. not (is_some a.ack)) parts) e
    by_deps (d ∷ ds) e = absurd (cc e)

    by_ask : (o : Option Asked) → Gates.gate_asks snap lc parts o ≡ CommitAt fc → fc ≡ max lc (greatest (map Gates.ack_or_zero parts))
    by_ask (Some a) e = absurd (cc e)
    by_ask None e = by_deps snap.deps e

pub zero_or_below : (b : ℕ) (a : Asked) → 0 < b → ((ts : Ts) → a.ack ≡ Some ts → ts.0 < b) → Gates.ack_or_zero a < b
zero_or_below b a some f = by_ack a.ack refl
  where
    by_ack : (o : Option Ts) → a.ack ≡ o → elim o [ None ↦ 0 | Some t ↦ t.0 ] < b
    by_ack None e = some
    by_ack (Some t) e = f t e

pub gate_below : (b : ℕ) (here : Here) (v : View) (lc fc : ℕ) (x : Own) → OwnBelow b x → lc_of x.phase ≡ Some lc → gate_of here v lc x ≡ CommitAt fc → fc < b
gate_below b here v lc fc x o l e =
    let q = gate_is x.snap lc x.parts (map (Gates.dep_parts here v.own) x.snap.deps) fc e in
    let some : 0 < b = omega (arith, o.rs) in
    let g : greatest (map Gates.ack_or_zero x.parts) < b = greatest_below b (map Gates.ack_or_zero x.parts) some (λ t k. (let r = in_map Gates.ack_or_zero x.parts t k in
    let z = zero_or_below b r.0 some (λ ts y. o.acks r.0 ts r.1 y) in omega (arith, z, r.2))) in
    let m = o.lc lc l in omega (arith, q, g, m)

-- ---- own transactions

-- the snapshot and the participants stay, and no final timestamp comes
pub record Keeps (x y : Own) : Type 0 where
  pub snap : y.snap ≡ x.snap
  pub finals : (t : ℕ) → In t (final_times y.phase) → In t (final_times x.phase)

pub finish-keeps : (op : Op) (a : Value) (x : Own) → Keeps x (finish op a x)
finish-keeps (Get k) a x = record { snap = refl; finals = λ t h. absurd h }
finish-keeps (Put k n) a x = record { snap = refl; finals = λ t h. absurd h }
finish-keeps (Puts k n) a x = record { snap = refl; finals = λ t h. absurd h }
finish-keeps (Add k n) a x = record { snap = refl; finals = λ t h. absurd h }
finish-keeps (Del k) a x = record { snap = refl; finals = λ t h. absurd h }
finish-keeps (Need k n) a x =
    if_elim (Keeps x) (is_below a n) (record x { phase = Closing true }) (record x { next = x.next + 1; phase = Active })
    (λ e. record { snap = refl; finals = λ t h. absurd h }) (λ e. record { snap = refl; finals = λ t h. absurd h })
finish-keeps Stop a x = record { snap = refl; finals = λ t h. h }

pub next-keeps : (o : Option Op) (a : Value) (x : Own) → Keeps x (finish_next o a x)
next-keeps None a x = record { snap = refl; finals = λ t h. h }
next-keeps (Some op) a x = finish-keeps op a x

pub gains_below : (b : ℕ) (v : View) (rs : ℕ) (dep : Dep) → ViewBelow b v → Gains v rs dep → dep.rs.0 < b
gains_below b v rs dep h (gains_it q u i k l e same) = let r = (own_at b v h (q.tx.seq - 1) u e).rs in omega (arith, r, ap (λ (z : Dep). z.rs.0) same)
gains_below b v rs dep h (gains_of q u i k l e m) = (own_at b v h (q.tx.seq - 1) u e).deps dep m

pub extends_below : (b : ℕ) (v : View) (old new : Snap) → ViewBelow b v → Extends v old new → ((d : Dep) → In d old.deps → d.rs.0 < b) → (d : Dep) → In d new.deps → d.rs.0 < b
extends_below b v old new h x f d k = elim (x.deps d k) [ inl j ↦ f d j | inr g ↦ gains_below b v old.rs d h g ]
