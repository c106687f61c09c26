-- The rules choose alike for twins, and what they do keeps twins.
use Rattle.std.proofs.Common.{Bool, List, None, Option, Some, [], ap, false, refl, slice_get, subst, sym, true, ℕ, ◌∙◌, ◌∷◌, ◌≡◌, ◌≤◌}
use Rattle.dependency_set.specs.Snapshots.{Snap}
use Rattle.str_base.specs.declared.names.Cause.TheVariants.{Conflict as ByConflict, Wish}
use Rattle.str_base.specs.declared.names.KeyId.{KeyId}
use Rattle.str_base.specs.declared.names.TxId.{TxId}
use Rattle.str_base.specs.declared.names.Value.{Value}
use Rattle.str_base.specs.declared.names.Version.{Version}
use Rattle.str_base.specs.declared.names.Write.{Write}
use Rattle.str_base.specs.Versions.{of_tx, stamp}
use Rattle.str_scene.specs.declared.names.Op.{Op}
use Rattle.str_scene.specs.declared.names.Op.TheVariants.{Abort as Stop, Add, Del, Get, Need, Put, Puts}
use Rattle.str_scene.specs.Scenes.{Here}
use Rattle.str_model.specs.declared.messages.Waiter.TheVariants.{Read}
use Rattle.str_model.specs.Acts.{aborted, asked, closed, committed, marked, with_waiters}
use Rattle.str_model.specs.Arrivals
use Rattle.str_model.specs.Pass
use Rattle.str_model.specs.Scripts
use Rattle.str_model.specs.Scripts.{known}
use Rattle.str_model.specs.Turns.{Away, CertTurn, Certified, Conflict, DepTurn, Give, Keep, Late, Lost, Plain, ReadTurn, ServeTurn, ServeWait, Speculative, Wait, WaitGate, cert_turn, dep_turn, left_by, read_turn, reply_turn, serve_turn}
use Rattle.str_model.specs.Views.{CertWait, Doing, Own, Phase, ReadWait, Reply, View, is_decided, name_of, put}
use Rattle.str_model.proofs.Pruning.PruneOrder.{InOrder, PassesOpen}
use Rattle.str_model.proofs.Pruning.PruneTurns.{cert_pruned, read_pruned, undecided_pruned}
use Rattle.str_model.proofs.Pruning.Twins.{Twin, twin_aborted, twin_accepted, twin_asked, twin_certified, twin_closed, twin_committed, twin_marked, twin_put, twin_refused, twin_replied, twin_requested, twin_waiters, twin_waits}

module _ (g : ℕ) (Dec : TxId → Type 0) (here : Here) where
  -- no Final version of the i-th own transaction stands, and the list is in order
  pub record Fit (i : ℕ) (d : Doing) : Type 0 where
    pub opens : PassesOpen (of_tx (name_of here i)) d.view.versions
    pub order : InOrder d.view.versions

  abbrev pub Both : Doing → Doing → Type 0
  Both d e = Twin g Dec d e

  own_same : (d e : Doing) → Both d e → d.view.own ≡ e.view.own
  own_same d e t = ap (λ (v : View). v.own) t.view

  -- ---- an own transaction, where there is one

  pub twin_at_own : (i : ℕ) (f : Own → Doing → Doing) (d e : Doing) → Both d e → ((x : Own) → slice_get d.view.own i ≡ Some x → is_decided x.phase ≡ false → Both (f x d) (f x e))
      → Both (Scripts.at_own i f d) (Scripts.at_own i f e)
  twin_at_own i f d e t h =
      subst (λ (o : Option Own). Both (Scripts.of_own f (slice_get d.view.own i) d) (Scripts.of_own f o e)) (ap (λ (xs : List Own). slice_get xs i) (own_same d e t))
      (by_own (slice_get d.view.own i) refl)
    where
      by_decided : (x : Own) → slice_get d.view.own i ≡ Some x → (b : Bool) → is_decided x.phase ≡ b → Both (Scripts.unless_decided b (f x) d) (Scripts.unless_decided b (f x) e)
      by_decided x q true b = t
      by_decided x q false b = h x q b

      by_own : (o : Option Own) → slice_get d.view.own i ≡ o → Both (Scripts.of_own f o d) (Scripts.of_own f o e)
      by_own None q = t
      by_own (Some x) q = by_decided x q (is_decided x.phase) refl

  -- ---- reads

  read_same : (d e : Doing) (snap : Snap) (k : KeyId) → g ≤ snap.rs → Both d e → read_turn here d.view snap k ≡ read_turn here e.view snap k
  read_same d e snap k le t =
      sym (read_pruned here g d.view snap k le) ∙ (ap (λ (v : View). read_turn here v snap k) t.view ∙ read_pruned here g e.view snap k le)

  twin_with_value : (i : ℕ) (k : KeyId) (v : Value) (by : Option TxId) (snap : Snap) (x : Own) (d e : Doing) → Both d e
      → Both (Scripts.with_value here i k v by snap x d) (Scripts.with_value here i k v by snap x e)
  twin_with_value i k v by snap x d e t = twin_put g Dec i _ d e t

  twin_read_done : (i : ℕ) (k : KeyId) (x : Own) (r : ReadTurn) (d e : Doing) → Both d e → Both (Scripts.read_done here i k x r d) (Scripts.read_done here i k x r e)
  twin_read_done i k x (Plain v by fc snap) d e t = twin_with_value i k v by snap x d e t
  twin_read_done i k x (Speculative v by snap) d e t = twin_with_value i k v (Some by) snap x d e t
  twin_read_done i k x (Wait by) d e t = twin_put g Dec i _ d e t
  twin_read_done i k x (Away to) d e t = twin_requested g Dec here i k to x d e t

  pub twin_read_now : (i : ℕ) (k : KeyId) (x : Own) (d e : Doing) → g ≤ x.snap.rs → Both d e → Both (Scripts.read_now here i k x d) (Scripts.read_now here i k x e)
  unfolding Scripts.read_now
  twin_read_now i k x d e le t =
      let m = twin_marked g Dec k x.snap.rs d e t in
      subst (λ (r : ReadTurn). Both (Scripts.read_done here i k x (read_turn here d.view x.snap k) (marked k x.snap.rs d)) (Scripts.read_done here i k x r (marked k x.snap.rs e)))
      (read_same d e x.snap k le t) (twin_read_done i k x (read_turn here d.view x.snap k) (marked k x.snap.rs d) (marked k x.snap.rs e) m)

  -- ---- certification

  twin_cert_done : (i : ℕ) (x : Own) (c : CertTurn) (d e : Doing) → Fit i d → Fit i e → Both d e → Both (Scripts.cert_done here i x c d) (Scripts.cert_done here i x c e)
  twin_cert_done i x (Certified lc snap) d e a b t = twin_certified g Dec here i lc snap x d e a.order b.order t
  twin_cert_done i x (Conflict by k) d e a b t = twin_aborted g Dec here i (ByConflict by k here.node) x d e a.opens b.opens t
  twin_cert_done i x (WaitGate by) d e a b t = twin_put g Dec i _ d e t

  pub twin_certify_now : (i : ℕ) (x : Own) (d e : Doing) → g ≤ x.snap.rs → Fit i d → Fit i e → Both d e → Both (Scripts.certify_now here i x d) (Scripts.certify_now here i x e)
  unfolding Scripts.certify_now
  twin_certify_now i x d e le a b t =
      let same : cert_turn here d.view x.snap x.writes ≡ cert_turn here e.view x.snap x.writes =
      sym (cert_pruned here g d.view x.snap x.writes a.order le) ∙ (ap (λ (v : View). cert_turn here v x.snap x.writes) t.view ∙ cert_pruned here g e.view x.snap x.writes b.order le) in
      subst (λ (c : CertTurn). Both (Scripts.cert_done here i x (cert_turn here d.view x.snap x.writes) d) (Scripts.cert_done here i x c e)) same
      (twin_cert_done i x (cert_turn here d.view x.snap x.writes) d e a b t)

  -- ---- a client's operation

  twin_need : (i : ℕ) (op : Op) (k : KeyId) (x : Own) (o : Option Value) (d e : Doing) → g ≤ x.snap.rs → Both d e → Both (Scripts.need_value here i op k x o d) (Scripts.need_value here i op k x o e)
  twin_need i op k x (Some v) d e le t = twin_put g Dec i _ d e t
  twin_need i op k x None d e le t = twin_read_now i k x d e le t

  twin_op : (i : ℕ) (x : Own) (op : Op) (d e : Doing) → g ≤ x.snap.rs → Fit i d → Fit i e → Both d e → Both (Scripts.do_op here i x op d) (Scripts.do_op here i x op e)
  twin_op i x (Get k) d e le a b t = twin_need i (Get k) k x (known x k) d e le t
  twin_op i x (Put k n) d e le a b t = twin_put g Dec i _ d e t
  twin_op i x (Puts k n) d e le a b t = twin_put g Dec i _ d e t
  twin_op i x (Add k n) d e le a b t = twin_need i (Add k n) k x (known x k) d e le t
  twin_op i x (Del k) d e le a b t = twin_put g Dec i _ d e t
  twin_op i x (Need k n) d e le a b t = twin_need i (Need k n) k x (known x k) d e le t
  twin_op i x Stop d e le a b t = twin_aborted g Dec here i Wish x d e a.opens b.opens t

  twin_ask_commit : (i : ℕ) (x : Own) (ws : List Write) (d e : Doing) → g ≤ x.snap.rs → Fit i d → Fit i e → Both d e → Both (Scripts.ask_commit here i x ws d) (Scripts.ask_commit here i x ws e)
  twin_ask_commit i x [] d e le a b t = twin_put g Dec i _ d e t
  twin_ask_commit i x (w ∷ ws) d e le a b t = twin_certify_now i x d e le a b t

  pub twin_op_or_commit : (i : ℕ) (x : Own) (o : Option Op) (d e : Doing) → g ≤ x.snap.rs → Fit i d → Fit i e → Both d e → Both (Scripts.op_or_commit here i x o d) (Scripts.op_or_commit here i x o e)
  twin_op_or_commit i x (Some op) d e le a b t = twin_op i x op d e le a b t
  twin_op_or_commit i x None d e le a b t = twin_ask_commit i x x.writes d e le a b t

  -- ---- turns of the pass

  twin_resolved : (i : ℕ) (y : Own) (r : DepTurn) (d e : Doing) → Fit i d → Fit i e → Both d e → Both (Pass.resolved here i y r d) (Pass.resolved here i y r e)
  twin_resolved i y (Lost q f es) d e a b t = twin_aborted g Dec here i _ y d e a.opens b.opens t
  twin_resolved i y (Late q fc f es) d e a b t = twin_aborted g Dec here i _ y d e a.opens b.opens t
  twin_resolved i y (Keep f es) d e a b t = t

  pub twin_resolve : (i : ℕ) (x : Own) (d e : Doing) → Fit i d → Fit i e → Both d e → Both (Pass.resolve_own here i x d) (Pass.resolve_own here i x e)
  twin_resolve i x d e a b t =
      let r = dep_turn d.view.own x.snap in
      let y : Own = record x { snap = left_by r x.snap } in
      let at : Both (put i y d) (put i y e) = twin_put g Dec i y d e t in
      subst (λ (s : DepTurn). Both (Pass.resolved here i y r (put i y d)) (Pass.resolved here i (record x { snap = left_by s x.snap }) s (put i (record x { snap = left_by s x.snap }) e)))
      (ap (λ (xs : List Own). dep_turn xs x.snap) (own_same d e t))
      (twin_resolved i y r (put i y d) (put i y e) (record { opens = a.opens; order = a.order }) (record { opens = b.opens; order = b.order }) at)

  twin_again_reply : (i : ℕ) (k : KeyId) (x : Own) (r : ReadTurn) (d e : Doing) → Both d e → Both (Pass.again_reply here i k x r d) (Pass.again_reply here i k x r e)
  twin_again_reply i k x (Plain v by fc snap) d e t = twin_with_value i k v by snap x d e t
  twin_again_reply i k x _ d e t = t

  pub twin_again : (i : ℕ) (p : Phase) (x : Own) (d e : Doing) → g ≤ x.snap.rs → Fit i d → Fit i e → Both d e → Both (Pass.again_own here i p x d) (Pass.again_own here i p x e)
  twin_again i (ReadWait k) x d e le a b t = twin_read_now i k x d e le t
  twin_again i (Reply k v by fc) x d e le a b t = twin_again_reply i k x (reply_turn here x.snap v by fc) d e t
  twin_again i CertWait x d e le a b t = twin_certify_now i x d e le a b t
  twin_again i _ x d e le a b t = t

  pub twin_close_free : (i : ℕ) (wish : Bool) (x : Own) (d e : Doing) → Fit i d → Fit i e → Both d e → Both (Pass.close_free here i wish x d) (Pass.close_free here i wish x e)
  twin_close_free i true x d e a b t = twin_aborted g Dec here i Wish x d e a.opens b.opens t
  twin_close_free i false x d e a b t = twin_closed g Dec here i x d e t

  -- ---- those who wait, and what comes to a replica

  twin_serve_done : (tx : TxId) (k : KeyId) (rs : ℕ) (r : ServeTurn) (d e : Doing) → Both d e → Both (Arrivals.serve_done here tx k rs r d) (Arrivals.serve_done here tx k rs r e)
  unfolding Rattle.str_model.specs.Acts.replied
  twin_serve_done tx k rs (Give v by fc) d e t = Rattle.str_model.proofs.Pruning.Twins.twin_send g Dec _ d e t
  twin_serve_done tx k rs (ServeWait by) d e t = twin_waits g Dec (Read tx k (stamp rs)) d e t

  -- for a transaction that has its decision a read may be served otherwise, but it waits alike
  pub data ServedAlike : ServeTurn → ServeTurn → Type 0 where
    s_same : (r s : ServeTurn) → r ≡ s → ServedAlike r s
    s_gives : (v v' : Value) (by by' : Option TxId) (fc fc' : ℕ) → ServedAlike (Give v by fc) (Give v' by' fc')

  pub serve_alike : (d e : Doing) (k : KeyId) (rs : ℕ) → Both d e → ServedAlike (serve_turn d.view.versions k rs) (serve_turn e.view.versions k rs)
  unfolding serve_turn
  serve_alike d e k rs t =
      subst (λ (o : Option Version). ServedAlike (Rattle.str_model.specs.Turns.serve_after d.view.versions k rs (Rattle.str_base.specs.Versions.last_undecided d.view.versions k rs)) (Rattle.str_model.specs.Turns.serve_after e.view.versions k rs o))
      (sym (undecided_pruned g d.view.versions k rs) ∙ (ap (λ (v : View). Rattle.str_base.specs.Versions.last_undecided v.versions k rs) t.view ∙ undecided_pruned g e.view.versions k rs))
      (by_open (Rattle.str_base.specs.Versions.last_undecided d.view.versions k rs))
    where
      gives : (o q : Option Version) → ServedAlike (Rattle.str_model.specs.Turns.serve_visible o) (Rattle.str_model.specs.Turns.serve_visible q)
      gives None None = s_same _ _ refl
      gives None (Some w) = s_gives _ _ _ _ _ _
      gives (Some v) None = s_gives _ _ _ _ _ _
      gives (Some v) (Some w) = s_gives _ _ _ _ _ _

      by_open : (o : Option Version) → ServedAlike (Rattle.str_model.specs.Turns.serve_after d.view.versions k rs o) (Rattle.str_model.specs.Turns.serve_after e.view.versions k rs o)
      by_open (Some v) = s_same _ _ refl
      by_open None = gives (Rattle.str_base.specs.Versions.visible d.view.versions k rs) (Rattle.str_base.specs.Versions.visible e.view.versions k rs)
