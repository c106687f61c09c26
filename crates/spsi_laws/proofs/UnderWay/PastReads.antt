-- A transaction that has read a key elsewhere never waits for it there again.
use Rattle.std.proofs.Common.{List, None, Option, Some, [], ap, eq-eqb, false, find, inl, inr, refl, subst, sym, true, ℕ, ◌++◌, ◌+◌, ◌∙◌, ◌∷◌, ◌≡◌, ◌≢◌, ◌⊎◌}
use Rattle.str_base.specs.Versions.{same_key}
use Rattle.str_base.specs.declared.names.KeyId.{KeyId}
use Rattle.str_base.specs.declared.names.TxId.{TxId}
use Rattle.str_base.specs.declared.names.Value.{Value}
use Rattle.spsi_laws.proofs.UnderWay.OneOwn.{KeepsOne}
use Rattle.str_model.proofs.Changes.SnapshotsGain.{if_elim}
use Rattle.str_model.proofs.Principle.SingleChanges.{AsksCommit, Change, Reads, asks_again, asks_new, ch_away, ch_blind, ch_close, ch_gate, ch_known, ch_read, ch_reply, ch_resolve, ch_take, ch_wait, reads_again, reads_new}
use Rattle.str_model.specs.NodeFacts.{Needy}
use Rattle.str_model.specs.Scripts.{finish, finish_next, found_read, found_write, noted, or_else, own_op}
use Rattle.str_base.specs.Values.{is_below}
use Rattle.str_model.specs.Views.{Active, Closing, Doing, Own, Phase, Remote, Reply, is_decided, lc_of}
use Rattle.str_model.specs.declared.messages.Input.{Input}
use Rattle.str_model.specs.declared.names.ReadDone.{ReadDone}
use Rattle.str_scene.specs.Scenes.{Here}
use Rattle.str_scene.specs.declared.names.Op.{Op}
use Rattle.str_scene.specs.declared.names.Op.TheVariants.{Abort as Stop, Add, Del, Get, Need, Put, Puts}
use Rattle.str_base.proofs.Members.{find_none, in_left, in_right}
use Rattle.str_base.specs.Members.{In}

-- it is decided, or a value of the key has come, or the key was read
pub data Past (x : Own) (k : KeyId) : Type 0 where
  past_decided : is_decided x.phase ≡ true → Past x k
  past_reply : (a : Value) (by : Option TxId) (fc : ℕ) → x.phase ≡ Reply k a by fc → Past x k
  past_read : (r : ReadDone) → In r x.reads → r.key ≡ k → Past x k

-- it waits for the key elsewhere, or that is past
abbrev pub Requested : Own → KeyId → Type 0
Requested x k = (x.phase ≡ Remote k) ⊎ Past x k

finish_reads : (op : Op) (a : Value) (z : Own) → (finish op a z).reads ≡ z.reads
finish_reads (Get k) a z = refl
finish_reads (Put k n) a z = refl
finish_reads (Puts k t) a z = refl
finish_reads (Add k n) a z = refl
finish_reads (Del k) a z = refl
finish_reads (Need k n) a z = if_elim (λ (y : Own). y.reads ≡ z.reads) (is_below a n) (record z { phase = Closing true }) (record z { next = z.next + 1; phase = Active }) (λ t. refl) (λ t. refl)
finish_reads Stop a z = refl

next_reads : (o : Option Op) (a : Value) (z : Own) → (finish_next o a z).reads ≡ z.reads
next_reads None a z = refl
next_reads (Some op) a z = finish_reads op a z

-- one that has read the key doesn't wait for it
pub past_not : (here : Here) (x : Own) (k : KeyId) → Needy here x → x.phase ≡ Remote k → Past x k → ⊥
past_not here x k n e (past_decided d) = cc (ap is_decided e, d)
past_not here x k n e (past_reply a by fc q) = cc (e, q)
past_not here x k n e (past_read r m same) = by_known (find (λ (w : Rattle.str_base.specs.declared.names.Write.Write). same_key w.key k) x.writes) (find (λ (s : ReadDone). same_key s.key k) x.reads) refl (n.waits k (subst (λ (p : Phase). Rattle.str_model.specs.Owned.WaitsFor p k) (sym e) refl)).3
  where
    by_known : (o : Option Rattle.str_base.specs.declared.names.Write.Write) (f : Option ReadDone) → find (λ (s : ReadDone). same_key s.key k) x.reads ≡ f → or_else (found_write o) (found_read f) ≡ None → ⊥
    by_known (Some w) f q e = cc e
    by_known None (Some s) q e = cc e
    by_known None None q e = cc (find_none (λ (s : ReadDone). same_key s.key k) x.reads r q m, eq-eqb r.key.0 k.0 (ap (λ (z : KeyId). z.0) same))

module _ (here : Here) (input : Input) (d : Doing) (k : KeyId) where
  same_reads : (x y : Own) (r : ReadDone) → y.reads ≡ x.reads → In r x.reads → r.key ≡ k → Past y k
  same_reads x y r q m s = past_read r (subst (In r) (sym q) m) s

  noted_reads : (o : Option Op) (l : KeyId) (a b : Value) (by : Option TxId) (snap : _) (x : Own) (r : ReadDone) → In r x.reads → r.key ≡ k → Past (finish_next o b (noted l a by snap x)) k
  noted_reads o l a b by snap x r m s =
      past_read r (subst (In r) (sym (next_reads o b (noted l a by snap x))) (in_left x.reads (record { key = l; value = a; by = by } ∷ []) r m)) s

  new_read : (o : Option Op) (a b : Value) (by : Option TxId) (snap : _) (x : Own) → Past (finish_next o b (noted k a by snap x)) k
  new_read o a b by snap x =
      past_read (record { key = k; value = a; by = by }) (subst (In (record { key = k; value = a; by = by })) (sym (next_reads o b (noted k a by snap x))) (in_right x.reads (record { key = k; value = a; by = by } ∷ []) (record { key = k; value = a; by = by }) (inl refl))) refl

  -- who reads, or asks to commit, waits for no reply
  reads_none : (x : Own) (l : KeyId) → Reads here x l → ((a : Value) (by : Option TxId) (fc : ℕ) → x.phase ≡ Reply k a by fc → ⊥) × ((x.phase ≡ Remote k → ⊥) × (is_decided x.phase ≡ false))
  reads_none x l (reads_new op a e n q) = (λ b by fc z. cc (a, z), (λ z. cc (a, z), ap is_decided a))
  reads_none x l (reads_again e) = (λ b by fc z. cc (e, z), (λ z. cc (e, z), ap is_decided e))

  asks_none : (x : Own) → AsksCommit here x → ((a : Value) (by : Option TxId) (fc : ℕ) → x.phase ≡ Reply k a by fc → ⊥) × ((x.phase ≡ Remote k → ⊥) × (is_decided x.phase ≡ false))
  asks_none x (asks_new a e n) = (λ b by fc z. cc (a, z), (λ z. cc (a, z), ap is_decided a))
  asks_none x (asks_again e) = (λ b by fc z. cc (e, z), (λ z. cc (e, z), ap is_decided e))

  change_read : (i : ℕ) (x y : Own) → Change here input d i x y → (r : ReadDone) → In r x.reads → r.key ≡ k → Past y k
  change_read i x y (ch_resolve t e) r m s = past_read r m s
  change_read i x y (ch_known op l a p e n q) r m s = same_reads x (finish op a x) r (finish_reads op a x) m s
  change_read i x y (ch_blind op a p e n) r m s = same_reads x (finish op a x) r (finish_reads op a x) m s
  change_read i x y (ch_read l a by snap rd j t) r m s = noted_reads (own_op here x) l a a by snap x r m s
  change_read i x y (ch_wait l by rd j t) r m s = past_read r m s
  change_read i x y (ch_away l n rd j t) r m s = past_read r m s
  change_read i x y (ch_reply from tx g l a by fc c n q e z) r m s = past_read r m s
  change_read i x y (ch_take l a b by of fc gc snap e q) r m s = noted_reads (own_op here x) l b b of snap x r m s
  change_read i x y (ch_close a o e) r m s = past_read r m s
  change_read i x y (ch_gate a) r m s = past_read r m s

  change_reply : (i : ℕ) (x y : Own) → Change here input d i x y → (a : Value) (by : Option TxId) (fc : ℕ) → x.phase ≡ Reply k a by fc → Past y k
  change_reply i x y (ch_resolve t e) a by fc q = past_reply a by fc q
  change_reply i x y (ch_known op l b p e n z) a by fc q = absurd (cc (p, q))
  change_reply i x y (ch_blind op b p e n) a by fc q = absurd (cc (p, q))
  change_reply i x y (ch_read l b u snap rd j t) a by fc q = absurd ((reads_none x l rd).0 a by fc q)
  change_reply i x y (ch_wait l u rd j t) a by fc q = absurd ((reads_none x l rd).0 a by fc q)
  change_reply i x y (ch_away l n rd j t) a by fc q = absurd ((reads_none x l rd).0 a by fc q)
  change_reply i x y (ch_reply from tx g l b u gc c n z e s) a by fc q = absurd (cc (e, q))
  change_reply i x y (ch_take l b c u of fc' gc snap e z) a by fc q =
      let same : l ≡ k = (let both : Reply l b u fc' ≡ Reply k a by fc = sym e ∙ q in cc both) in
      subst (λ (z : KeyId). Past (finish_next (own_op here x) c (noted z c of snap x)) k) (sym same) (new_read (own_op here x) c c of snap x)
  change_reply i x y (ch_close b o e) a by fc q = absurd (cc (b, q))
  change_reply i x y (ch_gate b) a by fc q = absurd ((asks_none x b).0 a by fc q)

  change_remote : (i : ℕ) (x y : Own) → Change here input d i x y → x.phase ≡ Remote k → Requested y k
  change_remote i x y (ch_resolve t e) q = inl q
  change_remote i x y (ch_known op l b p e n z) q = absurd (cc (p, q))
  change_remote i x y (ch_blind op b p e n) q = absurd (cc (p, q))
  change_remote i x y (ch_read l b u snap rd j t) q = absurd ((reads_none x l rd).1.0 q)
  change_remote i x y (ch_wait l u rd j t) q = absurd ((reads_none x l rd).1.0 q)
  change_remote i x y (ch_away l n rd j t) q = absurd ((reads_none x l rd).1.0 q)
  change_remote i x y (ch_reply from tx g l b u gc c n z e s) q =
      let a : g ≡ k = (let both : Remote g ≡ Remote k = sym e ∙ q in cc both) in
      let n : g.0 ≡ l.0 = Rattle.std.proofs.Common.eqb-true g.0 l.0 s in
      let same : l ≡ k = (λ j. record { 0 = (sym n ∙ ap (λ (z : KeyId). z.0) a) j }) in
      inr (past_reply b u gc.0 (ap (λ (z : KeyId). Reply z b u gc.0) same))
  change_remote i x y (ch_take l b c u of fc gc snap e z) q = absurd (cc (e, q))
  change_remote i x y (ch_close b o e) q = absurd (cc (b, q))
  change_remote i x y (ch_gate b) q = absurd ((asks_none x b).1.0 q)

  change_past : (i : ℕ) (x y : Own) → Change here input d i x y → is_decided x.phase ≡ false → Past x k → Past y k
  change_past i x y c f (past_decided q) = absurd (cc (f, q))
  change_past i x y c f (past_reply a by fc q) = change_reply i x y c a by fc q
  change_past i x y c f (past_read r m s) = change_read i x y c r m s

  -- a change of another kind keeps the reads, and is none of one that waits
  other_past : (x y : Own) → is_decided x.phase ≡ false → y.reads ≡ x.reads → ((a : Value) (by : Option TxId) (fc : ℕ) → x.phase ≡ Reply k a by fc → ⊥) → Past x k → Past y k
  other_past x y f q n (past_decided z) = absurd (cc (f, z))
  other_past x y f q n (past_reply a by fc z) = absurd (n a by fc z)
  other_past x y f q n (past_read r m s) = same_reads x y r q m s

  lc_reply : (x : Own) (lc : ℕ) → lc_of x.phase ≡ Some lc → (a : Value) (by : Option TxId) (fc : ℕ) → x.phase ≡ Reply k a by fc → ⊥
  lc_reply x lc l a by fc z = cc (ap lc_of z, l)

  pub keeps_past : KeepsOne here input d (λ x. Past x k)
  keeps_past = record {
    goes = λ i x y g p. change_past i x y g.change g.goes.was_open p;
    certifies = λ lc snap x a n p. other_past x _ (asks_none x a).1.1 refl (asks_none x a).0 p;
    asks = λ lc q x f l p. other_past x _ f refl (lc_reply x lc l) p;
    acks = λ lc from q ts parts x e z p. other_past x _ (ap is_decided e) refl (lc_reply x lc (ap lc_of e)) p;
    decides = λ x f. past_decided f;
  }

  pub keeps_requested : KeepsOne here input d (λ x. Requested x k)
  keeps_requested = record {
    goes = λ i x y g p. elim p [ inl q ↦ change_remote i x y g.change q | inr q ↦ inr (change_past i x y g.change g.goes.was_open q) ];
    certifies = λ lc snap x a n p. elim p [ inl q ↦ absurd ((asks_none x a).1.0 q) | inr q ↦ inr (other_past x _ (asks_none x a).1.1 refl (asks_none x a).0 q) ];
    asks = λ lc q x f l p. elim p [ inl z ↦ absurd (cc (ap lc_of z, l)) | inr z ↦ inr (other_past x _ f refl (lc_reply x lc l) z) ];
    acks = λ lc from q ts parts x e z p. elim p [ inl r ↦ absurd (cc (e, r)) | inr r ↦ inr (other_past x _ (ap is_decided e) refl (lc_reply x lc (ap lc_of e)) r) ];
    decides = λ x f. inr (past_decided f);
  }
