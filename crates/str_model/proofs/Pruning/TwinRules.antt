-- The rules of inputs keep twins, and are idle alike.
use Rattle.std.proofs.Common.{Bool, List, None, Option, Some, ap, false, if◌then◌else◌, inl, inr, max, min, not, refl, slice_get, sub-one, subst, suc, sym, true, zero, ℕ, ◌&&◌, ◌+◌, ◌-◌, ◌∙◌, ◌≡◌, ◌≤◌, ◌⊎◌}
use Rattle.std.specs.List.{list_any}
use Rattle.partition_map.specs.declared.rows.Asked.{Asked}
use Rattle.str_base.specs.declared.names.Cause.TheVariants.{Conflict as ByConflict}
use Rattle.str_base.specs.declared.names.KeyId.{KeyId}
use Rattle.str_base.specs.declared.names.NodeId.{NodeId}
use Rattle.str_base.specs.declared.names.PartId.{PartId}
use Rattle.str_base.specs.declared.names.SessionId.{SessionId}
use Rattle.str_base.specs.declared.names.TxId.{TxId}
use Rattle.str_base.specs.declared.names.Value.{Value}
use Rattle.str_base.specs.Versions.{of_pair, same_key, same_node}
use Rattle.str_scene.specs.declared.names.Op.{Op}
use Rattle.str_scene.specs.declared.names.TxPlace.{TxPlace}
use Rattle.str_scene.specs.Scenes.{Here, Session, hosts, hosts_key, is_master, nth}
use Rattle.str_model.specs.declared.messages.Waiter.{Waiter}
use Rattle.str_model.specs.declared.messages.Waiter.TheVariants.{Read}
use Rattle.str_model.specs.Acts.{abort_came, aborted, commit_came, marked}
use Rattle.str_model.specs.Arrivals
use Rattle.str_model.specs.Clients
use Rattle.str_model.specs.Proposals.{is_done, is_known}
use Rattle.str_model.specs.Returns
use Rattle.str_model.specs.Steps.{decides, drop_held}
use Rattle.str_model.specs.Turns.{Give, ServeTurn, ServeWait, serve_turn}
use Rattle.str_model.specs.Views.{Active, Aborted, CertWait, Closing, Committed, Doing, Global, Local, Own, Phase, ReadWait, Remote, Reply, View, is_decided}
use Rattle.str_model.proofs.Pruning.PruneMaster.{known_pruned}
use Rattle.str_model.proofs.Pruning.PruneOrder.{InOrder, PassesOpen}
use Rattle.str_model.proofs.Pruning.TwinChoices.{Fit, ServedAlike, s_gives, s_same, serve_alike, twin_op_or_commit}
use Rattle.str_model.proofs.Pruning.Twins.{Twin, twin_abort_came, twin_aborted, twin_accepted, twin_acked, twin_begun, twin_commit_came, twin_marked, twin_put, twin_refused, twin_replied, twin_taken, twin_waits}
use Rattle.str_model.proofs.Pruning.TwinTurns.{Ready}
use Rattle.std.proofs.lemmas.Bool.{and_parts, not-true}

module _ (g : ℕ) (Dec : TxId → Type 0) (here : Here) where
  abbrev Both : Doing → Doing → Type 0
  Both d e = Twin g Dec d e

  -- both are idle, or both act and are twins
  abbrev pub BothTo : Option Doing → Option Doing → Type 0
  BothTo None None = Unit {0}
  BothTo None (Some e) = ⊥
  BothTo (Some d) None = ⊥
  BothTo (Some d) (Some e) = Both d e

  -- a test that both answer alike
  both_if : (b c : Bool) → b ≡ c → (o p : Option Doing) → (b ≡ true → BothTo o p) → BothTo (if b then o else None) (if c then p else None)
  both_if true true e o p h = h refl
  both_if true false e o p h = absurd (cc e)
  both_if false true e o p h = absurd (cc e)
  both_if false false e o p h = tt

  own_same : (d e : Doing) → Both d e → d.view.own ≡ e.view.own
  own_same d e t = ap (λ (v : View). v.own) t.view

  abbrev pub IsReady : Doing → Type 0
  IsReady d = (i : ℕ) (x : Own) → slice_get d.view.own i ≡ Some x → is_decided x.phase ≡ false → Ready g Dec here i x d

  -- ---- a client step

  twin_begin : (place : TxPlace) (t : ℕ) (o : Option (List Op)) (d e : Doing) → Both d e → BothTo (Clients.begin here place t o d) (Clients.begin here place t o e)
  twin_begin place t None d e b = tt
  twin_begin place t (Some ops) d e b =
      let f : d.view.floor ≡ e.view.floor = ap (λ (v : View). v.floor) b.view in
      subst (λ (n : ℕ). Both (Rattle.str_model.specs.Acts.begun place (max (min t Clients.reading_limit) d.view.floor) d) (Rattle.str_model.specs.Acts.begun place (max (min t Clients.reading_limit) n) e)) f
      (twin_begun g Dec place (max (min t Clients.reading_limit) d.view.floor) d e b)

  twin_go : (s : SessionId) (t : ℕ) (text : Session) (i : ℕ) (x : Own) (p : Phase) (d e : Doing) → slice_get d.view.own i ≡ Some x → x.phase ≡ p → IsReady d → IsReady e → Both d e
      → BothTo (Clients.go_on here s t text i x p d) (Clients.go_on here s t text i x p e)
  twin_go s t text i x Active d e q o a c b =
      let r = a i x q (ap is_decided o) in
      let u = c i x (subst (λ (xs : List Own). slice_get xs i ≡ Some x) (own_same d e b) q) (ap is_decided o) in
      twin_op_or_commit g Dec here i x (Rattle.str_model.specs.Scripts.own_op here x) d e r.above r.fit u.fit b
  twin_go s t text i x (Committed lc fc) d e q o a c b = twin_begin (Clients.place_in s (x.place.index + 1)) t (nth text.txs (x.place.index + 1)) d e b
  twin_go s t text i x (Aborted lc cause) d e q o a c b = twin_begin (Clients.place_in s (x.place.index + 1)) t (nth text.txs (x.place.index + 1)) d e b
  twin_go s t text i x (ReadWait k) d e q o a c b = tt
  twin_go s t text i x (Remote k) d e q o a c b = tt
  twin_go s t text i x (Reply k v by fc) d e q o a c b = tt
  twin_go s t text i x CertWait d e q o a c b = tt
  twin_go s t text i x (Closing w) d e q o a c b = tt
  twin_go s t text i x (Local lc) d e q o a c b = tt
  twin_go s t text i x (Global lc) d e q o a c b = tt

  twin_go_at : (s : SessionId) (t : ℕ) (text : Session) (i : ℕ) (o : Option Own) (d e : Doing) → slice_get d.view.own i ≡ o → IsReady d → IsReady e → Both d e
      → BothTo (Clients.go_on_at here s t text i o d) (Clients.go_on_at here s t text i o e)
  twin_go_at s t text i None d e q a c b = tt
  twin_go_at s t text i (Some x) d e q a c b = twin_go s t text i x x.phase d e q refl a c b

  twin_go_last : (s : SessionId) (t : ℕ) (text : Session) (o : Option ℕ) (d e : Doing) → IsReady d → IsReady e → Both d e
      → BothTo (Clients.go_on_last here s t text o d) (Clients.go_on_last here s t text o e)
  twin_go_last s t text None d e a c b = twin_begin (Clients.place_in s 1) t (nth text.txs 1) d e b
  twin_go_last s t text (Some i) d e a c b =
      subst (λ (o : Option Own). BothTo (Clients.go_on_at here s t text i (slice_get d.view.own i) d) (Clients.go_on_at here s t text i o e)) (ap (λ (xs : List Own). slice_get xs i) (own_same d e b))
      (twin_go_at s t text i (slice_get d.view.own i) d e refl a c b)

  twin_session : (s : SessionId) (t : ℕ) (o : Option Session) (d e : Doing) → IsReady d → IsReady e → Both d e → BothTo (Clients.in_session here s t o d) (Clients.in_session here s t o e)
  twin_session s t None d e a c b = tt
  twin_session s t (Some text) d e a c b =
      subst (λ (o : Option ℕ). BothTo (Clients.in_session here s t (Some text) d) (if same_node text.node here.node then Clients.go_on_last here s t text o e else None))
      (ap (λ (xs : List Own). Clients.last_index (Clients.of_session s) xs) (own_same d e b))
      (both_if (same_node text.node here.node) (same_node text.node here.node) refl (Clients.go_on_last here s t text (Clients.last_index (Clients.of_session s) d.view.own) d) (Clients.go_on_last here s t text (Clients.last_index (Clients.of_session s) d.view.own) e)
      (λ z. twin_go_last s t text (Clients.last_index (Clients.of_session s) d.view.own) d e a c b))

  pub twin_client : (s : SessionId) (t : ℕ) (d e : Doing) → IsReady d → IsReady e → Both d e → BothTo (Clients.client_rule here s t d) (Clients.client_rule here s t e)
  unfolding Clients.client_rule
  twin_client s t d e a c b = twin_session s t (nth here.scene.sessions s.0) d e a c b

  -- ---- what comes back to an origin

  named_same : (tx : TxId) (d e : Doing) → Both d e → Returns.own_named here tx d ≡ Returns.own_named here tx e
  named_same tx d e b = ap (λ (xs : List Own). if same_node tx.node here.node then nth xs tx.seq else None) (own_same d e b)

  twin_reply_phase : (i : ℕ) (x : Own) (k : KeyId) (v : Value) (by : Option TxId) (fc : ℕ) (p : Phase) (d e : Doing) → Both d e
      → BothTo (Returns.reply_phase i x k v by fc p d) (Returns.reply_phase i x k v by fc p e)
  twin_reply_phase i x k v by fc (Remote l) d e b = both_if (same_key l k) (same_key l k) refl (Some _) (Some _) (λ z. twin_put g Dec i _ d e b)
  twin_reply_phase i x k v by fc Active d e b = tt
  twin_reply_phase i x k v by fc (ReadWait l) d e b = tt
  twin_reply_phase i x k v by fc (Reply l w u f) d e b = tt
  twin_reply_phase i x k v by fc CertWait d e b = tt
  twin_reply_phase i x k v by fc (Closing w) d e b = tt
  twin_reply_phase i x k v by fc (Local lc) d e b = tt
  twin_reply_phase i x k v by fc (Global lc) d e b = tt
  twin_reply_phase i x k v by fc (Committed lc f) d e b = tt
  twin_reply_phase i x k v by fc (Aborted lc c) d e b = tt

  twin_reply_own : (i : ℕ) (k : KeyId) (v : Value) (by : Option TxId) (fc : ℕ) (o : Option Own) (d e : Doing) → Both d e
      → BothTo (Returns.reply_own i k v by fc o d) (Returns.reply_own i k v by fc o e)
  twin_reply_own i k v by fc None d e b = tt
  twin_reply_own i k v by fc (Some x) d e b = twin_reply_phase i x k v by fc x.phase d e b

  pub twin_read_reply : (tx : TxId) (k : KeyId) (v : Value) (by : Option TxId) (fc : ℕ) (d e : Doing) → Both d e → BothTo (Returns.read_reply here tx k v by fc d) (Returns.read_reply here tx k v by fc e)
  unfolding Returns.read_reply
  twin_read_reply tx k v by fc d e b =
      subst (λ (o : Option Own). BothTo (Returns.reply_own (tx.seq - 1) k v by fc (Returns.own_named here tx d) d) (Returns.reply_own (tx.seq - 1) k v by fc o e)) (named_same tx d e b)
      (twin_reply_own (tx.seq - 1) k v by fc (Returns.own_named here tx d) d e b)

  -- ---- decisions at a replica

  -- no Final version stands of a pair of another node that isn't done
  abbrev pub IsOpen : Doing → Type 0
  IsOpen d = (tx : TxId) (p : PartId) → same_node tx.node here.node ≡ false → is_done d.view tx p ≡ false → PassesOpen (of_pair tx p) d.view.versions

  decides_same : (tx : TxId) (p : PartId) (d e : Doing) → Both d e → decides here tx p d.view ≡ decides here tx p e.view
  decides_same tx p d e b = ap (λ (v : View). decides here tx p v) b.view

  open_pair : (tx : TxId) (p : PartId) (d : Doing) → IsOpen d → decides here tx p d.view ≡ true → PassesOpen (of_pair tx p) d.view.versions
  open_pair tx p d a h =
      let r = and_parts (not (same_node tx.node here.node)) (not (is_done d.view tx p)) (and_parts (hosts here.scene here.node p) (not (same_node tx.node here.node) && not (is_done d.view tx p)) h).1 in
      a tx p (not-true (same_node tx.node here.node) r.0) (not-true (is_done d.view tx p) r.1)

  pub twin_commit_rule : (tx : TxId) (p : PartId) (fc : ℕ) (ms : List Rattle.str_model.specs.declared.names.KeyMark.KeyMark) (d e : Doing) → InOrder d.view.versions → InOrder e.view.versions → IsOpen d → IsOpen e → Both d e
      → BothTo (if decides here tx p d.view then Some (commit_came tx p fc ms d) else None) (if decides here tx p e.view then Some (commit_came tx p fc ms e) else None)
  twin_commit_rule tx p fc ms d e o q a c b =
      both_if (decides here tx p d.view) (decides here tx p e.view) (decides_same tx p d e b) (Some (commit_came tx p fc ms d)) (Some (commit_came tx p fc ms e))
      (λ z. twin_commit_came g Dec tx p fc ms d e o q (open_pair tx p d a z) (open_pair tx p e c (sym (decides_same tx p d e b) ∙ z)) b)

  pub twin_abort_rule : (tx : TxId) (p : PartId) (d e : Doing) → IsOpen d → IsOpen e → Both d e
      → BothTo (if decides here tx p d.view then Some (abort_came tx p (drop_held tx p d.view.waiters) d) else None) (if decides here tx p e.view then Some (abort_came tx p (drop_held tx p e.view.waiters) e) else None)
  twin_abort_rule tx p d e a c b =
      both_if (decides here tx p d.view) (decides here tx p e.view) (decides_same tx p d e b) (Some (abort_came tx p (drop_held tx p d.view.waiters) d)) (Some (abort_came tx p (drop_held tx p e.view.waiters) e))
      (λ z. subst (λ (ws : List Waiter). Both (abort_came tx p (drop_held tx p d.view.waiters) d) (abort_came tx p (drop_held tx p ws) e)) (ap (λ (v : View). v.waiters) b.view)
      (twin_abort_came g Dec tx p (drop_held tx p d.view.waiters) d e (open_pair tx p d a z) (open_pair tx p e c (sym (decides_same tx p d e b) ∙ z)) b))

  -- ---- answers and refusals

  twin_ack_kept : (i : ℕ) (x : Own) (o : Option (List Asked)) (d e : Doing) → Both d e → BothTo (Returns.ack_kept i x o d) (Returns.ack_kept i x o e)
  twin_ack_kept i x None d e b = tt
  twin_ack_kept i x (Some parts) d e b = twin_acked g Dec i parts x d e b

  twin_ack_phase : (i : ℕ) (x : Own) (from : NodeId) (p : PartId) (ts : ℕ) (ph : Phase) (d e : Doing) → Both d e → BothTo (Returns.ack_phase i x from p ts ph d) (Returns.ack_phase i x from p ts ph e)
  twin_ack_phase i x from p ts (Global lc) d e b = twin_ack_kept i x (Returns.with_ack x.parts p from ts) d e b
  twin_ack_phase i x from p ts Active d e b = tt
  twin_ack_phase i x from p ts (ReadWait k) d e b = tt
  twin_ack_phase i x from p ts (Remote k) d e b = tt
  twin_ack_phase i x from p ts (Reply k v by fc) d e b = tt
  twin_ack_phase i x from p ts CertWait d e b = tt
  twin_ack_phase i x from p ts (Closing w) d e b = tt
  twin_ack_phase i x from p ts (Local lc) d e b = tt
  twin_ack_phase i x from p ts (Committed lc f) d e b = tt
  twin_ack_phase i x from p ts (Aborted lc c) d e b = tt

  twin_ack_own : (i : ℕ) (from : NodeId) (p : PartId) (ts : ℕ) (o : Option Own) (d e : Doing) → Both d e → BothTo (Returns.ack_own i from p ts o d) (Returns.ack_own i from p ts o e)
  twin_ack_own i from p ts None d e b = tt
  twin_ack_own i from p ts (Some x) d e b = twin_ack_phase i x from p ts x.phase d e b

  pub twin_ack : (from : NodeId) (tx : TxId) (p : PartId) (ts : ℕ) (d e : Doing) → Both d e → BothTo (Returns.ack_rule here from tx p ts d) (Returns.ack_rule here from tx p ts e)
  unfolding Returns.ack_rule
  twin_ack from tx p ts d e b =
      subst (λ (o : Option Own). BothTo (Returns.ack_own (tx.seq - 1) from p ts (Returns.own_named here tx d) d) (Returns.ack_own (tx.seq - 1) from p ts o e)) (named_same tx d e b)
      (twin_ack_own (tx.seq - 1) from p ts (Returns.own_named here tx d) d e b)

  twin_refuse_phase : (i : ℕ) (x : Own) (from : NodeId) (p : PartId) (by : TxId) (k : KeyId) (ph : Phase) (d e : Doing) → (is_decided ph ≡ false → Fit g Dec here i d × Fit g Dec here i e) → Both d e
      → BothTo (Returns.refuse_phase here i x from p by k ph d) (Returns.refuse_phase here i x from p by k ph e)
  twin_refuse_phase i x from p by k (Global lc) d e f b =
      both_if (Returns.has_asked x.parts p && is_master here.scene from p) (Returns.has_asked x.parts p && is_master here.scene from p) refl (Some (aborted here i (ByConflict by k from) x d)) (Some (aborted here i (ByConflict by k from) x e))
      (λ z. twin_aborted g Dec here i (ByConflict by k from) x d e (f refl).0.opens (f refl).1.opens b)
  twin_refuse_phase i x from p by k Active d e f b = tt
  twin_refuse_phase i x from p by k (ReadWait l) d e f b = tt
  twin_refuse_phase i x from p by k (Remote l) d e f b = tt
  twin_refuse_phase i x from p by k (Reply l v u fc) d e f b = tt
  twin_refuse_phase i x from p by k CertWait d e f b = tt
  twin_refuse_phase i x from p by k (Closing w) d e f b = tt
  twin_refuse_phase i x from p by k (Local lc) d e f b = tt
  twin_refuse_phase i x from p by k (Committed lc fc) d e f b = tt
  twin_refuse_phase i x from p by k (Aborted lc c) d e f b = tt

  nth_slot : (xs : List Own) (n : ℕ) (x : Own) → nth xs n ≡ Some x → slice_get xs (n - 1) ≡ Some x
  nth_slot xs zero x e = absurd (cc e)
  nth_slot xs (suc n) x e = rw sub-one e

  twin_refuse_own : (tx : TxId) (from : NodeId) (p : PartId) (by : TxId) (k : KeyId) (o : Option Own) (d e : Doing) → Returns.own_named here tx d ≡ o → IsReady d → IsReady e → Both d e
      → BothTo (Returns.refuse_own here (tx.seq - 1) from p by k o d) (Returns.refuse_own here (tx.seq - 1) from p by k o e)
  twin_refuse_own tx from p by k None d e q a c b = tt
  twin_refuse_own tx from p by k (Some x) d e q a c b = by_node (same_node tx.node here.node) refl
    where
      by_node : (z : Bool) → same_node tx.node here.node ≡ z → BothTo (Returns.refuse_phase here (tx.seq - 1) x from p by k x.phase d) (Returns.refuse_phase here (tx.seq - 1) x from p by k x.phase e)
      by_node false z = absurd (cc (subst (λ (y : Bool). (if y then nth d.view.own tx.seq else None) ≡ Some x) z q))
      by_node true z =
          let at : slice_get d.view.own (tx.seq - 1) ≡ Some x = nth_slot d.view.own tx.seq x (subst (λ (y : Bool). (if y then nth d.view.own tx.seq else None) ≡ Some x) z q) in
          let at' : slice_get e.view.own (tx.seq - 1) ≡ Some x = subst (λ (xs : List Own). slice_get xs (tx.seq - 1) ≡ Some x) (own_same d e b) at in
          twin_refuse_phase (tx.seq - 1) x from p by k x.phase d e (λ o. ((a (tx.seq - 1) x at o).fit, (c (tx.seq - 1) x at' o).fit)) b

  pub twin_refuse : (from : NodeId) (tx : TxId) (p : PartId) (by : TxId) (k : KeyId) (d e : Doing) → IsReady d → IsReady e → Both d e
      → BothTo (Returns.refuse_rule here from tx p by k d) (Returns.refuse_rule here from tx p by k e)
  unfolding Returns.refuse_rule
  twin_refuse from tx p by k d e a c b =
      subst (λ (o : Option Own). BothTo (Returns.refuse_own here (tx.seq - 1) from p by k (Returns.own_named here tx d) d) (Returns.refuse_own here (tx.seq - 1) from p by k o e)) (named_same tx d e b)
      (twin_refuse_own tx from p by k (Returns.own_named here tx d) d e refl a c b)

  -- a reply or a refusal for an own transaction that has its decision is idle, whatever else it says
  pub idle_reply : (tx : TxId) (k : KeyId) (v : Value) (by : Option TxId) (fc : ℕ) (d : Doing) → ((x : Own) → Returns.own_named here tx d ≡ Some x → is_decided x.phase ≡ true) → Returns.read_reply here tx k v by fc d ≡ None
  unfolding Returns.read_reply
  idle_reply tx k v by fc d h = by_own (Returns.own_named here tx d) refl
    where
      by_phase : (x : Own) (p : Phase) → is_decided p ≡ true → Returns.reply_phase (tx.seq - 1) x k v by fc p d ≡ None
      by_phase x Active e = absurd cc
      by_phase x (ReadWait l) e = absurd cc
      by_phase x (Remote l) e = absurd cc
      by_phase x (Reply l w u f) e = absurd cc
      by_phase x CertWait e = absurd cc
      by_phase x (Closing w) e = absurd cc
      by_phase x (Local lc) e = absurd cc
      by_phase x (Global lc) e = absurd cc
      by_phase x (Committed lc f) e = refl
      by_phase x (Aborted lc c) e = refl

      by_own : (o : Option Own) → Returns.own_named here tx d ≡ o → Returns.reply_own (tx.seq - 1) k v by fc o d ≡ None
      by_own None q = refl
      by_own (Some x) q = by_phase x x.phase (h x q)

  pub idle_refuse : (from : NodeId) (tx : TxId) (p : PartId) (by : TxId) (k : KeyId) (d : Doing) → ((x : Own) → Returns.own_named here tx d ≡ Some x → is_decided x.phase ≡ true) → Returns.refuse_rule here from tx p by k d ≡ None
  unfolding Returns.refuse_rule
  idle_refuse from tx p by k d h = by_own (Returns.own_named here tx d) refl
    where
      by_phase : (x : Own) (ph : Phase) → is_decided ph ≡ true → Returns.refuse_phase here (tx.seq - 1) x from p by k ph d ≡ None
      by_phase x Active e = absurd cc
      by_phase x (ReadWait l) e = absurd cc
      by_phase x (Remote l) e = absurd cc
      by_phase x (Reply l w u f) e = absurd cc
      by_phase x CertWait e = absurd cc
      by_phase x (Closing w) e = absurd cc
      by_phase x (Local lc) e = absurd cc
      by_phase x (Global lc) e = absurd cc
      by_phase x (Committed lc f) e = refl
      by_phase x (Aborted lc c) e = refl

      by_own : (o : Option Own) → Returns.own_named here tx d ≡ o → Returns.refuse_own here (tx.seq - 1) from p by k o d ≡ None
      by_own None q = refl
      by_own (Some x) q = by_phase x x.phase (h x q)

  -- a pair of another node is known alike
  pub known_same : (tx : TxId) (p : PartId) (d e : Doing) → same_node tx.node here.node ≡ false → IsOpen d → IsOpen e → Both d e → is_known d.view tx p ≡ is_known e.view tx p
  known_same tx p d e f a c b =
      sym (known_pruned g d.view tx p (λ z. a tx p f z)) ∙ (ap (λ (v : View). is_known v tx p) b.view ∙ known_pruned g e.view tx p (λ z. c tx p f z))

  -- ---- a read request, and a Prepare

  done_same : (tx : TxId) (k : KeyId) (rs : ℕ) (r : ServeTurn) (d e : Doing) → Both d e → Both (Arrivals.serve_done here tx k rs r d) (Arrivals.serve_done here tx k rs r e)
  unfolding Rattle.str_model.specs.Acts.replied
  done_same tx k rs (Give v by fc) d e b = Rattle.str_model.proofs.Pruning.Twins.twin_send g Dec _ d e b
  done_same tx k rs (ServeWait by) d e b = twin_waits g Dec (Read tx k (Rattle.str_base.specs.Versions.stamp rs)) d e b

  done_alike : (tx : TxId) (k : KeyId) (rs : ℕ) (r s : ServeTurn) (d e : Doing) → Dec tx → ServedAlike g Dec here r s → Both d e → Both (Arrivals.serve_done here tx k rs r d) (Arrivals.serve_done here tx k rs s e)
  done_alike tx k rs r s d e c (s_same u v q) b = subst (λ (z : ServeTurn). Both (Arrivals.serve_done here tx k rs r d) (Arrivals.serve_done here tx k rs z e)) q (done_same tx k rs r d e b)
  done_alike tx k rs r s d e c (s_gives v v' by by' fc fc') b = twin_replied g Dec here tx k v v' by by' fc fc' d e c b

  -- the transaction has its decision, or its snapshot is at or above the mark
  abbrev pub IsFar : TxId → ℕ → Type 0
  IsFar tx rs = Dec tx ⊎ (g ≤ rs)

  served : (tx : TxId) (k : KeyId) (rs : ℕ) (d e : Doing) → IsFar tx rs → Both d e
      → Both (Arrivals.serve_done here tx k rs (serve_turn d.view.versions k rs) (marked k rs d)) (Arrivals.serve_done here tx k rs (serve_turn e.view.versions k rs) (marked k rs e))
  served tx k rs d e (inl c) b =
      done_alike tx k rs (serve_turn d.view.versions k rs) (serve_turn e.view.versions k rs) (marked k rs d) (marked k rs e) c (serve_alike g Dec here d e k rs b) (twin_marked g Dec k rs d e b)
  served tx k rs d e (inr le) b =
      let same : serve_turn d.view.versions k rs ≡ serve_turn e.view.versions k rs =
      sym (Rattle.str_model.proofs.Pruning.PruneTurns.serve_pruned g d.view.versions k rs le)
      ∙ (ap (λ (v : View). serve_turn v.versions k rs) b.view ∙ Rattle.str_model.proofs.Pruning.PruneTurns.serve_pruned g e.view.versions k rs le) in
      subst (λ (z : ServeTurn). Both (Arrivals.serve_done here tx k rs (serve_turn d.view.versions k rs) (marked k rs d)) (Arrivals.serve_done here tx k rs z (marked k rs e))) same
      (done_same tx k rs (serve_turn d.view.versions k rs) (marked k rs d) (marked k rs e) (twin_marked g Dec k rs d e b))

  pub twin_read_req : (tx : TxId) (k : KeyId) (rs : ℕ) (d e : Doing) → (same_node tx.node here.node ≡ false → IsFar tx rs) → Both d e → BothTo (Arrivals.read_req here tx k rs d) (Arrivals.read_req here tx k rs e)
  unfolding Arrivals.read_req
  twin_read_req tx k rs d e far b =
      both_if (hosts_key here k && (not (same_node tx.node here.node) && not (list_any (Arrivals.waits_read tx k) d.view.waiters)))
      (hosts_key here k && (not (same_node tx.node here.node) && not (list_any (Arrivals.waits_read tx k) e.view.waiters)))
      (ap (λ (v : View). hosts_key here k && (not (same_node tx.node here.node) && not (list_any (Arrivals.waits_read tx k) v.waiters))) b.view)
      (Some (Arrivals.serve_done here tx k rs (serve_turn d.view.versions k rs) (marked k rs d))) (Some (Arrivals.serve_done here tx k rs (serve_turn e.view.versions k rs) (marked k rs e)))
      (λ z. served tx k rs d e
      (far (not-true (same_node tx.node here.node)
      (and_parts (not (same_node tx.node here.node)) (not (list_any (Arrivals.waits_read tx k) d.view.waiters))
      (and_parts (hosts_key here k) (not (same_node tx.node here.node) && not (list_any (Arrivals.waits_read tx k) d.view.waiters)) z).1).0)) b)
