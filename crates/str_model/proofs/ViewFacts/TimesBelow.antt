-- Times below a bound, and that what a turn decides from such times is below it too.
pub use Rattle.str_model.specs.NodeFacts.{OwnBelow, WaiterBelow, WaiterBelow, WaiterBelow, MarksBelow, MarksBelow, VersionsBelow, VersionsBelow, ViewBelow}
use Rattle.std.proofs.Common.{List, None, Option, Some, [], arith, find, inl, inr, max, nat_lt, refl, slice_get, slice_index, subst, suc, sym, zero, ℕ, ◌+◌, ◌-◌, ◌<◌, ◌∷◌, ◌≡◌, ◌≤◌}
use Rattle.std.specs.List.{last_or}
use Rattle.dependency_set.specs.declared.names.Dep.{Dep}
use Rattle.dependency_set.specs.Snapshots.{Snap, accept_final, holds, oldest}
use Rattle.str_model.specs.Owned.{final_times}
use Rattle.str_base.specs.declared.names.KeyId.{KeyId}
use Rattle.str_base.specs.declared.names.Kind.{Kind}
use Rattle.str_base.specs.declared.names.Kind.TheVariants.{Final, Local as LocalKind, Pre}
use Rattle.str_base.specs.declared.names.TxId.{TxId}
use Rattle.str_base.specs.declared.names.Value.{Value}
use Rattle.str_base.specs.declared.names.Value.TheVariants.{Absent}
use Rattle.str_base.specs.declared.names.Version.{Version}
use Rattle.str_base.specs.declared.names.Write.{Write}
use Rattle.str_base.specs.Versions.{chain, last_pre, last_undecided, mark_of, newest, same_key, visible}
use Rattle.str_base.specs.Versions
use Rattle.str_model.proofs.Changes.SnapshotsGain.{if_elim, in_last, visible-is}
use Rattle.str_model.proofs.Changes.DependencyLooks.{ffc_also}
use Rattle.str_model.specs.declared.messages.Body.{Body}
use Rattle.str_model.specs.declared.messages.Body.TheVariants.{Abort, Ack, Commit, Prepare, ReadReply, ReadReq, Refuse, Replicate}
use Rattle.str_model.specs.declared.messages.Waiter.{Waiter}
use Rattle.str_model.specs.declared.messages.Waiter.TheVariants.{Held, Read}
use Rattle.str_model.specs.declared.names.KeyMark.{KeyMark}
use Rattle.str_model.specs.Turns.{Away, CertTurn, Certified, CommittedAt, Conflict, DepTurn, Fate, Give, Gone, Late, Open, Plain, ReadTurn, ServeTurn, ServeWait, Speculative, Wait, WaitGate, cert_turn, conflicts, dep_turn, ffc_left, gated, greatest, joined, met, own_fate, passed, phase_fate, read_turn, reply_turn, serve_turn, take_over}
use Rattle.str_model.specs.Turns
use Rattle.str_model.specs.Views.{Aborted, Committed, Own, Phase, View}
use Rattle.str_scene.specs.Scenes.{Here, hosts_key}
use Rattle.str_base.proofs.Members.{in_at, in_filter}
use Rattle.str_base.specs.Members.{In}

-- those of a message
abbrev pub BodyBelow : ℕ → Body → Type 0
BodyBelow b (ReadReq tx k rs) = rs.0 < b
BodyBelow b (ReadReply tx k v by fc) = fc.0 < b
BodyBelow b (Prepare tx p rs lc ws) = (rs.0 < b) × (lc.0 < b)
BodyBelow b (Refuse tx p by k) = Unit {0}
BodyBelow b (Replicate tx p rs lc ws) = (rs.0 < b) × (lc.0 < b)
BodyBelow b (Ack tx p ts) = ts.0 < b
BodyBelow b (Commit tx p fc ms) = (fc.0 < b) × ((m : KeyMark) → In m ms → m.mark.0 < b)
BodyBelow b (Abort tx p) = Unit {0}

-- ---- a higher bound

pub own_higher : (b c : ℕ) (x : Own) → b ≤ c → OwnBelow b x → OwnBelow c x
own_higher b c x le h = record {
  rs = omega (arith, le, h.rs);
  ffc = omega (arith, le, h.ffc);
  deps = λ d k. omega (arith, le, h.deps d k);
  lc = λ lc k. omega (arith, le, h.lc lc k);
  finals = λ t k. omega (arith, le, h.finals t k);
  acks = λ a ts k q. omega (arith, le, h.acks a ts k q);
}

pub waiter_higher : (b c : ℕ) (r : Waiter) → b ≤ c → WaiterBelow b r → WaiterBelow c r
waiter_higher b c (Read tx k rs) le h = omega (arith, le, h)
waiter_higher b c (Held a) le h = (omega (arith, le, h.0), omega (arith, le, h.1))

pub body_higher : (b c : ℕ) (m : Body) → b ≤ c → BodyBelow b m → BodyBelow c m
body_higher b c (ReadReq tx k rs) le h = omega (arith, le, h)
body_higher b c (ReadReply tx k v by fc) le h = omega (arith, le, h)
body_higher b c (Prepare tx p rs lc ws) le h = (omega (arith, le, h.0), omega (arith, le, h.1))
body_higher b c (Refuse tx p by k) le h = tt
body_higher b c (Replicate tx p rs lc ws) le h = (omega (arith, le, h.0), omega (arith, le, h.1))
body_higher b c (Ack tx p ts) le h = omega (arith, le, h)
body_higher b c (Commit tx p fc ms) le h = (omega (arith, le, h.0), λ m k. omega (arith, le, h.1 m k))
body_higher b c (Abort tx p) le h = tt

pub view_higher : (b c : ℕ) (v : View) → b ≤ c → ViewBelow b v → ViewBelow c v
view_higher b c v le h = record {
  floor = omega (arith, le, h.floor);
  marks = λ t k. omega (arith, le, h.marks t k);
  versions = λ q k. omega (arith, le, h.versions q k);
  own = λ x k. own_higher b c x le (h.own x k);
  waiters = λ r k. waiter_higher b c r le (h.waiters r k);
}

-- ---- marks and versions

pub mark_below : (b : ℕ) (ms : List ℕ) (k : KeyId) → 0 < b → MarksBelow b ms → mark_of ms k < b
mark_below b ms k some h = at_place ms k.0 h
  where
    at_place : (ms : List ℕ) (i : ℕ) → MarksBelow b ms → slice_index ms i < b
    at_place [] i h = some
    at_place (m ∷ ms) zero h = h m (inl refl)
    at_place (m ∷ ms) (suc i) h = at_place ms i (λ t j. h t (inr j))

pub newest_below : (b : ℕ) (vs : List Version) (k : KeyId) → 0 < b → VersionsBelow b vs → newest vs k < b
newest_below b vs k some h = by_last (last_or None (chain k vs)) refl
  where
    by_last : (o : Option Version) → last_or None (chain k vs) ≡ o → Versions.ts_or_zero o < b
    by_last None e = some
    by_last (Some v) e = elim (in_last None (chain k vs) v e) [
      | inl q ↦ absurd (cc q)
      | inr j ↦ h v (in_filter (λ (x : Version). same_key x.key k) vs v j).0
    ]

pub greatest_below : (b : ℕ) (ts : List ℕ) → 0 < b → ((t : ℕ) → In t ts → t < b) → greatest ts < b
greatest_below b [] some h = some
greatest_below b (t ∷ ts) some h = let r = greatest_below b ts some (λ u k. h u (inr k)) in omega (arith, r, h t (inl refl))

pub passed_below : (b : ℕ) (v : View) (ws : List Write) → ViewBelow b v → passed v ws < b
passed_below b v [] h = let f = h.floor in omega (arith, f)
passed_below b v (w ∷ ws) h =
    let some : 0 < b = omega (arith, h.floor) in
    let m = mark_below b v.marks w.key some h.marks in
    let n = newest_below b v.versions w.key some h.versions in
    let r = passed_below b v ws h in omega (arith, m, n, r)

-- ---- reads

-- the final timestamps that a turn takes over
abbrev pub TurnBelow : ℕ → ReadTurn → Type 0
TurnBelow b (Plain v by fc snap) = snap.ffc < b
TurnBelow b (Speculative v by snap) = snap.ffc < b
TurnBelow b (Wait by) = Unit {0}
TurnBelow b (Away n) = Unit {0}

-- the timestamp that is given
abbrev pub ServeBelow : ℕ → ServeTurn → Type 0
ServeBelow b (Give v by fc) = fc < b
ServeBelow b (ServeWait by) = Unit {0}

-- a proposal may be one above all
abbrev pub CertBelow : ℕ → CertTurn → Type 0
CertBelow b (Certified lc snap) = (lc ≤ b) × (snap.ffc < b)
CertBelow b (Conflict u k) = Unit {0}
CertBelow b (WaitGate by) = Unit {0}

-- the timestamp of a commit
abbrev pub FateBelow : ℕ → Fate → Type 0
FateBelow b Open = Unit {0}
FateBelow b (CommittedAt fc) = fc < b
FateBelow b Gone = Unit {0}

-- the final timestamp that a look leaves
abbrev pub DepBelow : ℕ → DepTurn → Type 0
DepBelow b t = ffc_left t < b

module _ (b : ℕ) (view : View) (h : ViewBelow b view) where
  pub own_at : (i : ℕ) (x : Own) → slice_get view.own i ≡ Some x → OwnBelow b x
  own_at i x e = h.own x (in_at view.own i x e)

  over_below : (o : Option Own) (seq : ℕ) (snap : Snap) → ((x : Own) → o ≡ Some x → OwnBelow b x) → snap.ffc < b → (take_over o seq snap).ffc < b
  over_below None seq snap f k = k
  over_below (Some x) seq snap f k = let g = (f x refl).ffc in omega (arith, g, k)

  gated_below : (here : Here) (snap : Snap) (turn : ReadTurn) → (TurnBelow b) turn → (TurnBelow b) (gated here snap turn)
  gated_below here snap turn k = if_elim (TurnBelow b) (holds snap) turn (Wait (Turns.waits_for here (oldest snap.deps))) (λ e. k) (λ e. tt)

  kind_below : (here : Here) (snap : Snap) (v : Version) (k : Kind) → In v view.versions → snap.ffc < b → (TurnBelow b) (Turns.read_kind here view.own snap v k)
  kind_below here snap v Pre i f = tt
  kind_below here snap v LocalKind i f =
      let snap' = take_over (slice_get view.own (v.tx.seq - 1)) v.tx.seq snap in
      gated_below here snap' (Speculative v.value v.tx snap') (over_below (slice_get view.own (v.tx.seq - 1)) v.tx.seq snap (λ x e. own_at (v.tx.seq - 1) x e) f)
  kind_below here snap v Final i f =
      let snap' = accept_final snap v.ts.0 in gated_below here snap' (Plain v.value (Some v.tx) v.ts.0 snap') (omega (arith, f, h.versions v i))

  visible_below : (here : Here) (snap : Snap) (k : KeyId) (o : Option Version) → ((v : Version) → o ≡ Some v → In v view.versions) → snap.ffc < b → (TurnBelow b) (Turns.read_visible here view.own snap k o)
  visible_below here snap k None g f = if_elim (TurnBelow b) (hosts_key here k) _ _ (λ e. gated_below here snap (Plain Absent None 0 snap) f) (λ e. tt)
  visible_below here snap k (Some v) g f = kind_below here snap v v.kind (g v refl) f

  after_below : (here : Here) (snap : Snap) (k : KeyId) (o : Option Version) → snap.ffc < b → (TurnBelow b) (Turns.read_after here view snap k o)
  after_below here snap k (Some v) f = tt
  after_below here snap k None f = visible_below here snap k (visible view.versions k snap.rs) (λ v e. (visible-is view.versions k snap.rs v e).0) f

  pub read_below : (here : Here) (snap : Snap) (k : KeyId) → snap.ffc < b → (TurnBelow b) (read_turn here view snap k)
  unfolding read_turn
  read_below here snap k f = after_below here snap k (last_pre view.versions k snap.rs) f

  pub reply_below : (here : Here) (snap : Snap) (v : Value) (by : Option TxId) (fc : ℕ) → snap.ffc < b → fc < b → (TurnBelow b) (reply_turn here snap v by fc)
  unfolding reply_turn
  reply_below here snap v by fc f g = let snap' = accept_final snap fc in gated_below here snap' (Plain v by fc snap') (omega (arith, f, g))

  pub serve_below : (k : KeyId) (rs : ℕ) → (ServeBelow b) (serve_turn view.versions k rs)
  unfolding serve_turn
  serve_below k rs = by_undecided (last_undecided view.versions k rs)
    where
      by_visible : (o : Option Version) → ((v : Version) → o ≡ Some v → In v view.versions) → (ServeBelow b) (Turns.serve_visible o)
      by_visible None g = let f = h.floor in omega (arith, f)
      by_visible (Some v) g = h.versions v (g v refl)

      by_undecided : (o : Option Version) → (ServeBelow b) (Turns.serve_after view.versions k rs o)
      by_undecided (Some v) = tt
      by_undecided None = by_visible (visible view.versions k rs) (λ v e. (visible-is view.versions k rs v e).0)

  -- ---- certification

  one_below : (v : Version) (k : Kind) (snap : Snap) → snap.ffc < b → (Turns.joined_one view.own v k snap).ffc < b
  one_below v LocalKind snap f = over_below (slice_get view.own (v.tx.seq - 1)) v.tx.seq snap (λ x e. own_at (v.tx.seq - 1) x e) f
  one_below v Pre snap f = f
  one_below v Final snap f = f

  one_rs : (v : Version) (k : Kind) (o : Option Own) (snap : Snap) → (take_over o v.tx.seq snap).rs ≡ snap.rs
  one_rs v k None snap = refl
  one_rs v k (Some x) snap = refl

  joined_below : (vs : List Version) (snap : Snap) → snap.ffc < b → snap.rs < b → ((joined view.own vs snap).ffc < b) × ((joined view.own vs snap).rs < b)
  joined_below [] snap f r = (f, r)
  joined_below (v ∷ vs) snap f r = joined_below vs (Turns.joined_one view.own v v.kind snap) (one_below v v.kind snap f) (by_kind v.kind)
    where
      by_kind : (k : Kind) → (Turns.joined_one view.own v k snap).rs < b
      by_kind LocalKind = let q = one_rs v LocalKind (slice_get view.own (v.tx.seq - 1)) snap in omega (arith, q, r)
      by_kind Pre = r
      by_kind Final = r

  pub cert_below : (here : Here) (snap : Snap) (ws : List Write) → snap.ffc < b → snap.rs < b → (CertBelow b) (cert_turn here view snap ws)
  unfolding cert_turn
  cert_below here snap ws f r = by_conflict (find (conflicts snap.rs) (met ws view.versions))
    where
      by_conflict : (o : Option Version) → (CertBelow b) (Turns.cert_after here view snap ws o)
      by_conflict (Some v) = tt
      by_conflict None =
          let new : Snap = joined view.own (met ws view.versions) snap in
          let j = joined_below (met ws view.versions) snap f r in
          let p = passed_below b view ws h in
          if_elim (CertBelow b) (holds new) (Certified (1 + max new.rs (passed view ws)) new) (WaitGate (Turns.waits_for here (oldest new.deps)))
          (λ e. (omega (arith, p, j.1), j.0)) (λ e. tt)

  -- ---- dependencies

  phase_below : (p : Phase) → ((t : ℕ) → In t (final_times p) → t < b) → (FateBelow b) (phase_fate p)
  phase_below (Committed lc None) f = tt
  phase_below (Committed lc (Some fc)) f = f fc (inl refl)
  phase_below (Aborted lc cause) f = tt
  phase_below _ f = tt

  fate_below : (o : Option Own) → ((x : Own) → o ≡ Some x → OwnBelow b x) → (FateBelow b) (own_fate o)
  fate_below None f = tt
  fate_below (Some x) f = phase_below x.phase (f x refl).finals

  also_below : (d : Dep) (t : DepTurn) → (DepBelow b) t → (DepBelow b) (Turns.keep_also d t)
  also_below d t k = subst (λ n. n < b) (sym (ffc_also d t)) k

  resolve_below : (rs : ℕ) (ds : List Dep) (ffc : ℕ) → ffc < b → (DepBelow b) (Turns.resolve_all view.own rs ds ffc)
  resolve_below rs [] ffc f = f
  resolve_below rs (d ∷ ds) ffc f =
      by_fate (Turns.own_fate (slice_get view.own (d.seq - 1))) (fate_below (slice_get view.own (d.seq - 1)) (λ x e. own_at (d.seq - 1) x e)) (λ g k. resolve_below rs ds g k)
    where
      by_fate : (t : Fate) → (FateBelow b) t → ((g : ℕ) → g < b → (DepBelow b) (Turns.resolve_all view.own rs ds g))
          → (DepBelow b) (Turns.by_fate rs d ds ffc (λ g. Turns.resolve_all view.own rs ds g) t)
      by_fate Open k rec = also_below d (Turns.resolve_all view.own rs ds ffc) (rec ffc f)
      by_fate Gone k rec = f
      by_fate (CommittedAt fc) k rec = if_elim (DepBelow b) (nat_lt rs fc) (Late d.seq fc ffc (d ∷ ds)) (Turns.resolve_all view.own rs ds (max ffc fc)) (λ e. f) (λ e. rec (max ffc fc) (omega (arith, f, k)))

  pub dep_below : (snap : Snap) → snap.ffc < b → (DepBelow b) (dep_turn view.own snap)
  unfolding dep_turn
  dep_below snap f = resolve_below snap.rs snap.deps snap.ffc f
