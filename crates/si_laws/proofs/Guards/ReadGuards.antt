-- The guard of a read at a node: its mark, and no version of the key between its writer and the snapshot. What keeps it.
use Rattle.dependency_set.specs.Snapshots.{Snap, holds, oldest}
use Rattle.str_model.proofs.ViewFacts.MarksRise.{Rises}
use Rattle.str_model.proofs.Changes.SnapshotsGain.{if_elim}
use Rattle.std.proofs.Common.{List, None, Option, Some, [], ap, arith, find, inl, inr, map, max, nat_lt, sym, ℕ, ◌+◌, ◌<◌, ◌∙◌, ◌∷◌, ◌≡◌, ◌≢◌, ◌≤◌, ◌⊎◌}
use Rattle.str_base.specs.Versions.{mark_of, newest}
use Rattle.str_base.specs.declared.names.KeyId.{KeyId}
use Rattle.str_base.specs.declared.names.Kind.TheVariants.{Final, Local as LocalKind, Pre}
use Rattle.str_base.specs.declared.names.TxId.{TxId}
use Rattle.str_base.specs.declared.names.Version.{Version}
use Rattle.str_base.specs.declared.names.Write.{Write}
use Rattle.str_model.specs.Proposals.{Accept, MasterTurn, master_turn, proposed, ts_limit}
use Rattle.str_model.specs.Proposals
use Rattle.str_model.specs.Turns.{CertTurn, Certified, cert_turn, conflicts, greatest, joined, met, passed}
use Rattle.str_model.specs.Turns
use Rattle.str_model.specs.Views.{View}
use Rattle.str_model.specs.declared.messages.Arrived.{Arrived}
use Rattle.str_scene.specs.Scenes.{Here}
use Rattle.str_base.specs.Members.{In}

-- the version is the writer's, or it is not Pre and at or below the writer's timestamp
abbrev pub Under : Option TxId → ℕ → Version → Type 0
Under None f q = ⊥
Under (Some u) f q = (q.tx ≡ u) ⊎ ((q.kind ≢ Pre) × (q.ts.0 ≤ f))

-- A read at rs of the key from a writer with timestamp f, or from none, is guarded by this view: the mark is left, and each version of the key
-- is above the snapshot or under the writer. Why: a later version passes the mark, so no commit comes between the writer and the snapshot.
pub record Clear (v : View) (k : KeyId) (rs : ℕ) (by : Option TxId) (f : ℕ) : Type 0 where
  pub mark : rs ≤ mark_of v.marks k
  pub each : (q : Version) → In q v.versions → q.key ≡ k → (rs < q.ts.0) ⊎ Under by f q

-- Of a read from an own undecided transaction with local commit timestamp lc: each other Local version of the key is above the snapshot or at or below lc.
abbrev pub LocalsClear : View → KeyId → ℕ → TxId → ℕ → Type 0
LocalsClear v k rs u lc = (q : Version) → In q v.versions → q.key ≡ k → q.kind ≡ LocalKind → (rs < q.ts.0) ⊎ ((q.tx ≡ u) ⊎ (q.ts.0 ≤ lc))

-- where a version of a view comes from: it was there, it is new and above the mark, or it was decided at or above its timestamp
pub data Moved (d : View) (q : Version) : Type 0 where
  m_old : In q d.versions → Moved d q
  m_new : mark_of d.marks q.key < q.ts.0 → Moved d q
  m_pre : (p : Version) → In p d.versions → p.key ≡ q.key → p.tx ≡ q.tx → p.kind ≡ Pre → p.ts.0 ≤ q.ts.0 → q.kind ≡ Final → Moved d q
  m_local : (p : Version) → In p d.versions → p.key ≡ q.key → p.tx ≡ q.tx → p.kind ≡ LocalKind → p.ts.0 ≤ q.ts.0 → q.kind ≡ Final → Moved d q

-- all versions of e come from d so
abbrev pub AllMoved : View → View → Type 0
AllMoved d e = (q : Version) → In q e.versions → Moved d q

-- the Local versions that are decided are not under the writer, but for the writer's own
abbrev pub NoneUnder : View → View → KeyId → Option TxId → ℕ → Type 0
NoneUnder d e k by f =
    (p q : Version) → In p d.versions → In q e.versions → p.key ≡ k → p.tx ≡ q.tx → p.kind ≡ LocalKind → q.kind ≡ Final → Under by f p → Under by f q

pub clear_stays : (d e : View) (k : KeyId) (rs : ℕ) (by : Option TxId) (f : ℕ) → AllMoved d e → Rises d.marks e.marks → NoneUnder d e k by f → Clear d k rs by f → Clear e k rs by f
clear_stays d e k rs by f moved up none h = record { mark = (let a = up.above k in let b = h.mark in omega arith); each = λ q m key. by_move q m key (moved q m) }
  where
    pre_under : (o : Option TxId) (p q : Version) → p.kind ≡ Pre → p.tx ≡ q.tx → Under o f p → Under o f q
    pre_under None p q k t u = u
    pre_under (Some x) p q k t (inl s) = inl (sym t ∙ s)
    pre_under (Some x) p q k t (inr s) = absurd (s.0 k)

    by_move : (q : Version) → In q e.versions → q.key ≡ k → Moved d q → (rs < q.ts.0) ⊎ Under by f q
    by_move q m key (m_old j) = h.each q j key
    by_move q m key (m_new l) = let b = h.mark in inl (omega (arith, l, b, ap (λ (z : KeyId). mark_of d.marks z) key))
    by_move q m key (m_pre p j s t pre le fin) = elim (h.each p j (s ∙ key)) [ inl l ↦ inl (omega (arith, l, le)) | inr u ↦ inr (pre_under by p q pre t u) ]
    by_move q m key (m_local p j s t loc le fin) = elim (h.each p j (s ∙ key)) [ inl l ↦ inl (omega (arith, l, le)) | inr u ↦ inr (none p q j m (s ∙ key) t loc fin u) ]

pub locals_stay : (d e : View) (k : KeyId) (rs : ℕ) (u : TxId) (lc : ℕ) → AllMoved d e → rs ≤ mark_of d.marks k → LocalsClear d k rs u lc → LocalsClear e k rs u lc
locals_stay d e k rs u lc moved mark h q m key loc = by_move (moved q m)
  where
    by_move : Moved d q → (rs < q.ts.0) ⊎ ((q.tx ≡ u) ⊎ (q.ts.0 ≤ lc))
    by_move (m_old j) = h q j key loc
    by_move (m_new l) = inl (omega (arith, l, mark, ap (λ (z : KeyId). mark_of d.marks z) key))
    by_move (m_pre p j s t pre le fin) = absurd (cc (fin, loc))
    by_move (m_local p j s t l le fin) = absurd (cc (fin, loc))

-- ---- what is new is above the mark

greatest_in : (f : Write → ℕ) (ws : List Write) (w : Write) → In w ws → f w ≤ greatest (map f ws)
greatest_in f [] w m = absurd m
greatest_in f (x ∷ ws) w (inl q) = let s : f x ≡ f w = ap f q in omega arith
greatest_in f (x ∷ ws) w (inr m) = let r = greatest_in f ws w m in omega arith

-- what a new version has to pass
pub passed_mark : (view : View) (ws : List Write) (w : Write) → In w ws → mark_of view.marks w.key ≤ passed view ws
passed_mark view ws w m = let r = greatest_in (λ (z : Write). max (mark_of view.marks z.key) (newest view.versions z.key)) ws w m in omega (arith, r)

pub proposed_above : (v : View) (a : Arrived) (w : Write) → In w a.writes → mark_of v.marks w.key < proposed v a
proposed_above v a w m = let r = passed_mark v a.writes w m in omega (arith, r)

pub accept_above : (v : View) (a : Arrived) (ts : ℕ) (w : Write) → master_turn v a ≡ Accept ts → In w a.writes → mark_of v.marks w.key < ts
unfolding master_turn
accept_above v a ts w e m = let s = by_refuse (find (Proposals.refuses a) (met a.writes v.versions)) e in let r = proposed_above v a w m in omega (arith, r, s)
  where
    by_park : (o : Option Version) → Proposals.master_parks v a o ≡ Accept ts → proposed v a ≡ ts
    by_park (Some q) e = absurd (cc e)
    by_park None e = (if_elim (λ t. t ≡ Accept ts → proposed v a ≡ ts) (nat_lt (proposed v a) ts_limit) (Accept (proposed v a)) Proposals.Ignore (λ g k. cc k) (λ g k. absurd (cc k))) e

    by_refuse : (o : Option Version) → Proposals.master_refuses v a o ≡ Accept ts → proposed v a ≡ ts
    by_refuse (Some q) e = absurd (cc e)
    by_refuse None e = by_park (find (Proposals.parks a) (met a.writes v.versions)) e

pub certified_above : (here : Here) (view : View) (snap new : Snap) (ws : List Write) (lc : ℕ) (w : Write) → cert_turn here view snap ws ≡ Certified lc new → In w ws → mark_of view.marks w.key < lc
unfolding cert_turn
certified_above here view snap new ws lc w e m = by_conflict (find (conflicts snap.rs) (met ws view.versions)) e
  where
    by_holds : (s : Snap) → Turns.cert_joined here view ws s ≡ Certified lc new → mark_of view.marks w.key < lc
    by_holds s e =
        (if_elim (λ t. t ≡ Certified lc new → mark_of view.marks w.key < lc) (holds s) (Certified (1 + max s.rs (passed view ws)) s) (Turns.WaitGate (Turns.waits_for here (oldest s.deps)))
        (λ g k. let l : 1 + max s.rs (passed view ws) ≡ lc = cc k in let r = passed_mark view ws w m in omega (arith, l, r)) (λ g k. absurd (cc k))) e

    by_conflict : (o : Option Version) → Turns.cert_after here view snap ws o ≡ Certified lc new → mark_of view.marks w.key < lc
    by_conflict (Some v) e = absurd (cc e)
    by_conflict None e = by_holds (joined view.own (met ws view.versions) snap) e
