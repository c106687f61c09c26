-- What a single change does to the snapshots, the reads and the writes of own transactions.
use Rattle.std.proofs.Common.{None, Option, Some, [], ap, false, inl, inr, refl, slice_get, slice_set, subst, sym, true, ℕ, ◌++◌, ◌-◌, ◌∙◌, ◌∷◌, ◌≡◌, ◌≤◌}
use Rattle.dependency_set.specs.Snapshots.{Snap, holds}
use Rattle.si_laws.proofs.Changes.ReadTurns.{local-is, reply-is}
use Rattle.si_laws.proofs.Sources.ReadSources.{finish-snap, finish_next-snap}
use Rattle.spsi_laws.proofs.Pairs.SnapshotsGrow.{FinalSource, Grows, cert-grows, local-grows, plain-grows, reply-grows}
use Rattle.str_base.specs.declared.names.KeyId.{KeyId}
use Rattle.str_base.specs.declared.names.Kind.TheVariants.{Final, Local as LocalKind}
use Rattle.str_base.specs.declared.names.TxId.{TxId}
use Rattle.str_base.specs.declared.names.Value.{Value}
use Rattle.str_base.specs.declared.names.Version.{Version}
use Rattle.str_model.proofs.Principle.SingleChanges.{Act, Change, ReadsTo, Where, act_abort, act_abort_came, act_accept, act_ack, act_ask, act_begin, act_certify, act_close, act_commit, act_commit_came, act_mark, act_put, act_refuse, act_reply, act_request, act_take, act_unwait, act_wait, ch_away, ch_blind, ch_close, ch_gate, ch_known, ch_read, ch_reply, ch_resolve, ch_take, ch_wait, to_final, to_local}
use Rattle.str_model.proofs.Changes.OwnGoesOn.{asks-phase, reads-phase}
use Rattle.str_model.proofs.Changes.SnapshotsGain.{Names}
use Rattle.str_model.specs.Acts.{abort_came, aborted, accepted, acked, asked, begun, certified, closed, commit_came, committed, fresh, marked, refused, replied, requested, taken, waits}
use Rattle.str_model.specs.Owned.{Owns}
use Rattle.str_model.specs.Scripts.{finish_next, noted, own_op}
use Rattle.str_model.specs.Turns.{DepTurn, dep_turn, left_by}
use Rattle.str_model.specs.Views.{Doing, Own, Reply, View, is_decided, lc_of}
use Rattle.str_model.specs.declared.messages.Input.{Input}
use Rattle.str_model.specs.declared.names.ReadDone.{ReadDone}
use Rattle.str_scene.specs.Scenes.{Here}
use Rattle.str_scene.specs.declared.names.TxPlace.{TxPlace}
use Rattle.str_model.proofs.ViewFacts.MarksRise.{finish-looks, finish_next-looks}
use Rattle.str_base.specs.Members.{In}

-- where a new read comes from, and that the snapshot has taken it in
pub data Source (v : View) (x : Own) (new : Snap) (r : ReadDone) : Type 0 where
  src_none : r.by ≡ None → Source v x new r
  src_final : (q : Version) → In q v.versions → q.kind ≡ Final → r.by ≡ Some q.tx → q.ts.0 ≤ new.ffc → Source v x new r
  src_local : (q : Version) → In q v.versions → q.kind ≡ LocalKind → r.by ≡ Some q.tx → ((o : Own) → slice_get v.own (q.tx.seq - 1) ≡ Some o → Names q.tx.seq new.deps) → Source v x new r
  src_reply : (k : KeyId) (a : Value) (fc : ℕ) → x.phase ≡ Reply k a r.by fc → fc ≤ new.ffc → Source v x new r

-- the reads stay, or one is new
pub data ReadsOn (v : View) (x y : Own) : Type 0 where
  no_read : y.reads ≡ x.reads → ReadsOn v x y
  one_read : (r : ReadDone) → y.reads ≡ x.reads ++ r ∷ [] → Source v x y.snap r → ReadsOn v x y

-- x becomes y: with its snapshot and its reads, and once it is certified with its writes and its timestamp; by a look at its dependencies; or before it
-- is certified its snapshot grows, and the gate holds of it
pub data Moves (v : View) (x y : Own) : Type 0 where
  mv_same : y.snap ≡ x.snap → y.reads ≡ x.reads → ((lc : ℕ) → lc_of x.phase ≡ Some lc → (lc_of y.phase ≡ Some lc) × (y.writes ≡ x.writes)) → Moves v x y
  mv_resolve : (t : DepTurn) → dep_turn v.own x.snap ≡ t → y ≡ record x { snap = left_by t x.snap } → Moves v x y
  mv_grows : lc_of x.phase ≡ None → Grows v x.snap y.snap → holds y.snap ≡ true → ReadsOn v x y → Moves v x y

pub data OwnMove (d e : View) : Type 0 where
  m_rests : e.own ≡ d.own → OwnMove d e
  m_begins : (place : TxPlace) (rs : ℕ) → e.own ≡ d.own ++ fresh place rs ∷ [] → OwnMove d e
  m_sets : (i : ℕ) (x y : Own) → Owns d i x → is_decided x.phase ≡ false → e.own ≡ slice_set d.own i y → Moves d x y → OwnMove d e

-- ---- each change

module _ (here : Here) (input : Input) (d : Doing) (i : ℕ) (x : Own) where
  free_same : (y : Own) → lc_of x.phase ≡ None → y.snap ≡ x.snap → y.reads ≡ x.reads → Moves d.view x y
  free_same y n s r = mv_same s r (λ lc l. absurd (cc (n, l)))

  new_read : (k : KeyId) (a : Value) (by : Option TxId) (snap : Snap) → ReadsTo here d.view x.snap k a by snap → lc_of x.phase ≡ None → Moves d.view x (finish_next (own_op here x) a (noted k a by snap x))
  new_read k a by snap (to_final fc e) n =
      let g = plain-grows here d.view x.snap k a by fc snap e in
      let s : (finish_next (own_op here x) a (noted k a by snap x)).snap ≡ snap = finish_next-snap (own_op here x) a (noted k a by snap x) in
      mv_grows n (subst (Grows d.view x.snap) (sym s) g.0) (ap holds s ∙ g.1)
      (one_read (record { key = k; value = a; by = by }) (finish_next-looks (own_op here x) a (noted k a by snap x)).reads
      (subst (λ (z : Snap). Source d.view x z (record { key = k; value = a; by = by })) (sym s) (source g.2)))
    where
      source : FinalSource d.view snap by → Source d.view x snap (record { key = k; value = a; by = by })
      source (inl q) = src_none q
      source (inr q) = src_final q.0 q.1 q.2 q.3 q.4
  new_read k a by snap (to_local u b e) n =
      let g = local-grows here d.view x.snap k a u snap e in
      let q = local-is here d.view x.snap k a u snap e in
      let s : (finish_next (own_op here x) a (noted k a by snap x)).snap ≡ snap = finish_next-snap (own_op here x) a (noted k a by snap x) in
      mv_grows n (subst (Grows d.view x.snap) (sym s) g.0) (ap holds s ∙ g.1)
      (one_read (record { key = k; value = a; by = by }) (finish_next-looks (own_op here x) a (noted k a by snap x)).reads
      (subst (λ (z : Snap). Source d.view x z (record { key = k; value = a; by = by })) (sym s) (src_local q.0 q.1 q.2 (b ∙ ap Some (sym q.3)) q.4)))

  by_change : (y : Own) → Change here input d i x y → Moves d.view x y
  by_change y (ch_resolve t e) = mv_resolve t e refl
  by_change y (ch_known op k a p e n q) = free_same _ (ap lc_of p) (finish-snap op a x) (finish-looks op a x).reads
  by_change y (ch_blind op a p e n) = free_same _ (ap lc_of p) (finish-snap op a x) (finish-looks op a x).reads
  by_change y (ch_read k a by snap r m t) = new_read k a by snap t (reads-phase here x k r)
  by_change y (ch_wait k by r m t) = free_same _ (reads-phase here x k r) refl refl
  by_change y (ch_away k n r m t) = free_same _ (reads-phase here x k r) refl refl
  by_change y (ch_reply from tx l k a by fc c n q e s) = free_same _ (ap lc_of e) refl refl
  by_change y (ch_take k a b by of fc gc snap e q) =
      let g = reply-grows here d.view x.snap a b by of fc gc snap q in
      let s : (finish_next (own_op here x) b (noted k b of snap x)).snap ≡ snap = finish_next-snap (own_op here x) b (noted k b of snap x) in
      mv_grows (ap lc_of e) (subst (Grows d.view x.snap) (sym s) g.0) (ap holds s ∙ g.1)
      (one_read (record { key = k; value = b; by = of }) (finish_next-looks (own_op here x) b (noted k b of snap x)).reads
      (subst (λ (z : Snap). Source d.view x z (record { key = k; value = b; by = of })) (sym s) (src_reply k a fc (e ∙ ap (λ z. Reply k a z fc) (reply-is here x.snap a b by of fc gc snap q)) g.2)))
  by_change y (ch_close a o e) = free_same _ (ap lc_of a) refl refl
  by_change y (ch_gate a) = free_same _ (asks-phase here x a) refl refl

module _ (here : Here) (input : Input) (w : Where) where
  pub own_move : (d e : Doing) → Act here input w d e → OwnMove d.view e.view
  unfolding begun marked aborted committed closed certified asked acked requested accepted taken refused waits replied commit_came abort_came
  own_move d e (act_begin place rs d' r h) = m_begins place rs refl
  own_move d e (act_put i x y d' own g) = m_sets i x y own.0 g.goes.was_open refl (by_change here input d' i x y g.change)
  own_move d e (act_request i k m x d' own g) = m_sets i x _ own.0 g.goes.was_open refl (by_change here input d' i x _ g.change)
  own_move d e (act_certify i lc snap x d' own f n c) =
      let g = cert-grows here d'.view x.snap x.writes lc snap c in m_sets i x _ own.0 f refl (mv_grows n g.0 g.1 (no_read refl))
  own_move d e (act_ask i lc p x d' own f l g) = m_sets i x _ own.0 f refl (mv_same refl refl (λ lc' l'. (sym l ∙ l', refl)))
  own_move d e (act_ack i lc from tx p ts parts x d' own c q g) = m_sets i x _ own.0 (ap is_decided q) refl (mv_same refl refl (λ lc' l'. (l', refl)))
  own_move d e (act_abort i cause x d' own f y) = m_sets i x _ own.0 f refl (mv_same refl refl (λ lc' l'. (l', refl)))
  own_move d e (act_commit i lc fc x d' own l n le f g) = m_sets i x _ own.0 f refl (mv_same refl refl (λ lc' l'. (sym l ∙ l', refl)))
  own_move d e (act_close i x d' own p n) = m_sets i x _ own.0 (ap is_decided p) refl (mv_same refl refl (λ lc' l'. absurd (cc (ap lc_of p, l'))))
  own_move d e (act_mark k t d' rd) = m_rests refl
  own_move d e (act_accept a ts d' h m) = m_rests refl
  own_move d e (act_refuse a u k d' h m) = m_rests refl
  own_move d e (act_take from a d' c l) = m_rests refl
  own_move d e (act_wait r d' h) = m_rests refl
  own_move d e (act_unwait kept rest r d' h) = m_rests refl
  own_move d e (act_reply tx k rs v u fc d' h) = m_rests refl
  own_move d e (act_commit_came from tx p fc ms d' c h) = m_rests refl
  own_move d e (act_abort_came from tx p d' c h) = m_rests refl
