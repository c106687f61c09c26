-- Turns, the pass and those who wait keep twins, where what each change keeps gives what a turn needs.
use Rattle.std.proofs.Common.{Bool, List, Some, [], ap, false, if◌then◌else◌, inl, inr, length, refl, slice_get, subst, suc, sym, true, zero, ℕ, ◌++◌, ◌∙◌, ◌∷◌, ◌≡◌, ◌≤◌, ◌⊎◌}
use Rattle.str_base.specs.declared.names.KeyId.{KeyId}
use Rattle.str_base.specs.declared.names.Ts.{Ts}
use Rattle.str_base.specs.declared.names.TxId.{TxId}
use Rattle.str_scene.specs.Scenes.{Here}
use Rattle.str_model.specs.declared.messages.Arrived.{Arrived}
use Rattle.str_model.specs.declared.messages.Body.TheVariants.{Refuse as Refusal}
use Rattle.str_model.specs.declared.messages.Input.{Input}
use Rattle.str_model.specs.declared.messages.Waiter.{Waiter}
use Rattle.str_model.specs.declared.messages.Waiter.TheVariants.{Held, Read}
use Rattle.str_model.specs.Acts.{asked, with_waiters}
use Rattle.str_model.specs.Gates.{Ask, CommitAt, GateTurn, Missing, Shut, gate_of}
use Rattle.str_model.specs.Pass
use Rattle.str_model.specs.Pass.{half_turn, pass_to, turn}
use Rattle.str_model.specs.Proposals.{Accept, Ignore, MasterTurn, Park, Refuse, master_turn}
use Rattle.str_model.specs.Pruning.{pruned}
use Rattle.str_model.specs.Scripts
use Rattle.str_model.specs.Turns.{Give, ServeTurn, ServeWait, serve_turn}
use Rattle.str_model.specs.Views.{Closing, Doing, Global, Local, Own, Phase, View, is_decided, lc_of, letter}
use Rattle.str_model.specs.Waiters
use Rattle.str_model.proofs.Principle.SingleChanges.{Act, InTurn, InWait, Path, Where, act_ask, along}
use Rattle.str_model.proofs.Principle.StepPaths.{first-path, half_turn-path, resolved_first, turn-path, waiter_turn-waited}
use Rattle.str_model.proofs.Pruning.PruneMaster.{TurnAlike, master_alike, master_pruned, t_refuse, t_same}
use Rattle.str_model.proofs.Pruning.PruneOrder.{InOrder}
use Rattle.str_model.proofs.Pruning.PruneTurns.{serve_pruned}
use Rattle.str_model.proofs.Pruning.TwinChoices.{Fit, ServedAlike, s_gives, s_same, serve_alike, twin_again, twin_at_own, twin_close_free, twin_resolve}
use Rattle.str_model.proofs.Pruning.Twins.{Twin, alike_append, alike_self, twin_accepted, twin_asked, twin_committed, twin_refused, twin_replied, twin_waiters}
use Rattle.str_base.proofs.Members.{in_right}
use Rattle.str_base.specs.Members.{In}

-- what a turn needs at the i-th own transaction
pub record Ready (g : ℕ) (Dec : TxId → Type 0) (here : Here) (i : ℕ) (x : Own) (d : Doing) : Type 0 where
  pub fit : Fit g Dec here i d
  pub above : g ≤ x.snap.rs

-- a wait of another node's transaction: it has its decision, or its snapshot is at or above the mark
abbrev pub Far : ℕ → (TxId → Type 0) → Waiter → Type 0
Far g Dec (Read tx k rs) = Dec tx ⊎ (g ≤ rs.0)
Far g Dec (Held a) = Dec a.tx ⊎ (g ≤ a.rs.0)

module _ (g : ℕ) (Dec : TxId → Type 0) (here : Here) (input : Input) (Good : Doing → Type 0)
    (keeps : (w : Where) (d e : Doing) → Act here input w d e → Good d → Good e)
    (ready : (d : Doing) → Good d → (i : ℕ) (x : Own) → slice_get d.view.own i ≡ Some x → is_decided x.phase ≡ false → Ready g Dec here i x d)
    (ordered : (d : Doing) → Good d → InOrder d.view.versions)
    (far : (d : Doing) → Good d → (w : Waiter) → In w d.view.waiters → Far g Dec w) where
  abbrev Both : Doing → Doing → Type 0
  Both d e = Twin g Dec d e

  there : (d e : Doing) → Both d e → (i : ℕ) (x : Own) → slice_get d.view.own i ≡ Some x → slice_get e.view.own i ≡ Some x
  there d e t i x q = subst (λ (xs : List Own). slice_get xs i ≡ Some x) (ap (λ (v : View). v.own) t.view) q

  goes : (w : Where) (d e : Doing) → Path here input w d e → Good d → Good e
  goes w d e p h = along here input w Good (keeps w) d e p h

  twin_first : (i : ℕ) (d e : Doing) → Good d → Good e → Both d e → Both (resolved_first here input (InTurn i) i d) (resolved_first here input (InTurn i) i e)
  unfolding resolved_first
  twin_first i d e a b t =
      twin_at_own g Dec here i (Pass.resolve_own here i) d e t
      (λ x q o. twin_resolve g Dec here i x d e (ready d a i x q o).fit (ready e b i x (there d e t i x q) o).fit t)

  twin_second : (i : ℕ) (d e : Doing) → Good d → Good e → Both d e → Both (Scripts.at_own i (λ x. Pass.again_own here i x.phase x) d) (Scripts.at_own i (λ x. Pass.again_own here i x.phase x) e)
  twin_second i d e a b t =
      twin_at_own g Dec here i (λ x. Pass.again_own here i x.phase x) d e t
      (λ x q o. twin_again g Dec here i x.phase x d e (ready d a i x q o).above (ready d a i x q o).fit (ready e b i x (there d e t i x q) o).fit t)

  pub twin_half : (i : ℕ) (d e : Doing) → Good d → Good e → Both d e → Both (half_turn here i d) (half_turn here i e)
  unfolding half_turn resolved_first
  twin_half i d e a b t =
      twin_second i (Scripts.at_own i (Pass.resolve_own here i) d) (Scripts.at_own i (Pass.resolve_own here i) e)
      (goes (InTurn i) d _ (first-path here input (InTurn i) i d refl) a) (goes (InTurn i) e _ (first-path here input (InTurn i) i e refl) b) (twin_first i d e a b t)

  -- ---- the gate

  abbrev Again : (Doing → Doing) → Type 0
  Again f = (d e : Doing) → Good d → Good e → Both d e → Both (f d) (f e)

  twin_gate_done : (i : ℕ) (f : Doing → Doing) (lc : ℕ) (x : Own) (r : GateTurn) (d e : Doing) → Again f → slice_get d.view.own i ≡ Some x → is_decided x.phase ≡ false → lc_of x.phase ≡ Some lc
      → gate_of here d.view lc x ≡ r → gate_of here e.view lc x ≡ r → Good d → Good e → Both d e → Both (Pass.gate_done here i f lc x r d) (Pass.gate_done here i f lc x r e)
  twin_gate_done i f lc x (Ask p) d e h q o l u v a b t =
      h (asked here i lc p x d) (asked here i lc p x e)
      (keeps (InTurn i) d _ (act_ask i lc p x d (q, refl) o l u) a) (keeps (InTurn i) e _ (act_ask i lc p x e (there d e t i x q, refl) o l v) b) (twin_asked g Dec here i lc p x d e t)
  twin_gate_done i f lc x (Shut n) d e h q o l u v a b t = t
  twin_gate_done i f lc x (Missing p n) d e h q o l u v a b t = t
  twin_gate_done i f lc x (CommitAt fc) d e h q o l u v a b t =
      let r = (ready d a i x q o).fit in let s = (ready e b i x (there d e t i x q) o).fit in twin_committed g Dec here i lc fc x d e r.order s.order r.opens s.opens t

  gate_same : (lc : ℕ) (x : Own) (d e : Doing) → Both d e → gate_of here d.view lc x ≡ gate_of here e.view lc x
  gate_same lc x d e t = ap (λ (v : View). gate_of here v lc x) t.view

  twin_gate : (i : ℕ) (f : Doing → Doing) (lc : ℕ) (x : Own) (d e : Doing) → Again f → slice_get d.view.own i ≡ Some x → is_decided x.phase ≡ false → lc_of x.phase ≡ Some lc
      → Good d → Good e → Both d e → Both (Pass.gate_done here i f lc x (gate_of here d.view lc x) d) (Pass.gate_done here i f lc x (gate_of here e.view lc x) e)
  twin_gate i f lc x d e h q o l a b t =
      subst (λ (r : GateTurn). Both (Pass.gate_done here i f lc x (gate_of here d.view lc x) d) (Pass.gate_done here i f lc x r e)) (gate_same lc x d e t)
      (twin_gate_done i f lc x (gate_of here d.view lc x) d e h q o l refl (sym (gate_same lc x d e t)) a b t)

  twin_gate_phase : (i : ℕ) (f : Doing → Doing) (p : Phase) (x : Own) (d e : Doing) → Again f → slice_get d.view.own i ≡ Some x → is_decided x.phase ≡ false → x.phase ≡ p → Good d → Good e → Both d e
      → Both (Pass.gate_phase here i f p x d) (Pass.gate_phase here i f p x e)
  twin_gate_phase i f (Local lc) x d e h q o l a b t = twin_gate i f lc x d e h q o (ap lc_of l) a b t
  twin_gate_phase i f (Global lc) x d e h q o l a b t = twin_gate i f lc x d e h q o (ap lc_of l) a b t
  twin_gate_phase i f _ x d e h q o l a b t = t

  twin_gates : (i n : ℕ) (d e : Doing) → Good d → Good e → Both d e → Both (Pass.gates here i n d) (Pass.gates here i n e)
  twin_gates i zero d e a b t = t
  twin_gates i (suc n) d e a b t =
      twin_at_own g Dec here i (λ x. Pass.gate_phase here i (Pass.gates here i n) x.phase x) d e t
      (λ x q o. twin_gate_phase i (Pass.gates here i n) x.phase x d e (λ u v c k s. twin_gates i n u v c k s) q o refl a b t)

  twin_close : (i : ℕ) (p : Phase) (x : Own) (d e : Doing) → slice_get d.view.own i ≡ Some x → is_decided x.phase ≡ false → Good d → Good e → Both d e
      → Both (Pass.close_phase here i p x d) (Pass.close_phase here i p x e)
  twin_close i (Closing wish) x d e q o a b t = by_free (Pass.is_empty x.snap.deps)
    where
      by_free : (c : Bool) → Both (if c then Pass.close_free here i wish x d else d) (if c then Pass.close_free here i wish x e else e)
      by_free true = twin_close_free g Dec here i wish x d e (ready d a i x q o).fit (ready e b i x (there d e t i x q) o).fit t
      by_free false = t
  twin_close i _ x d e q o a b t = twin_gates i (suc (length here.scene.parts)) d e a b t

  pub twin_turn : (i : ℕ) (d e : Doing) → Good d → Good e → Both d e → Both (turn here i d) (turn here i e)
  unfolding turn
  twin_turn i d e a b t =
      let c = goes (InTurn i) d (half_turn here i d) (half_turn-path here input (InTurn i) i d refl) a in
      let k = goes (InTurn i) e (half_turn here i e) (half_turn-path here input (InTurn i) i e refl) b in
      let s = twin_half i d e a b t in
      twin_at_own g Dec here i (Pass.close_own here i) (half_turn here i d) (half_turn here i e) s
      (λ x q o. twin_close i x.phase x (half_turn here i d) (half_turn here i e) q o c k s)

  good_pass : (n : ℕ) (d : Doing) → Good d → Good (pass_to here n d)
  good_pass zero d a = a
  good_pass (suc i) d a = goes (InTurn i) (pass_to here i d) _ (turn-path here input (InTurn i) i (pass_to here i d) refl) (good_pass i d a)

  pub twin_pass : (n : ℕ) (d e : Doing) → Good d → Good e → Both d e → Both (pass_to here n d) (pass_to here n e)
  twin_pass zero d e a b t = t
  twin_pass (suc i) d e a b t = twin_turn i (pass_to here i d) (pass_to here i e) (good_pass i d a) (good_pass i e b) (twin_pass i d e a b t)

  -- ---- those who wait

  -- two outcomes of a waiter's turn
  record Left (r s : List Waiter × Doing) : Type 0 where
    kept : r.0 ≡ s.0
    both : Both r.1 s.1

  same_served : (d e : Doing) (k : KeyId) (rs : ℕ) → g ≤ rs → Both d e → serve_turn d.view.versions k rs ≡ serve_turn e.view.versions k rs
  same_served d e k rs le t =
      sym (serve_pruned g d.view.versions k rs le) ∙ (ap (λ (v : View). serve_turn v.versions k rs) t.view ∙ serve_pruned g e.view.versions k rs le)

  left_read : (ks rest : List Waiter) (tx : TxId) (k : KeyId) (rs : Ts) (r : ServeTurn) (d e : Doing) → Both d e → Left (Waiters.waiter_read here ks rest tx k rs r d) (Waiters.waiter_read here ks rest tx k rs r e)
  unfolding Rattle.str_model.specs.Acts.replied
  left_read ks rest tx k rs (Give v by fc) d e t =
      record { kept = refl; both = Rattle.str_model.proofs.Pruning.Twins.twin_send g Dec _ (with_waiters (ks ++ rest) d) (with_waiters (ks ++ rest) e) (twin_waiters g Dec (ks ++ rest) d e t) }
  left_read ks rest tx k rs (ServeWait by) d e t = record { kept = refl; both = t }

  left_alike : (ks rest : List Waiter) (tx : TxId) (k : KeyId) (rs : Ts) (r s : ServeTurn) (d e : Doing) → Dec tx → ServedAlike g Dec here r s → Both d e
      → Left (Waiters.waiter_read here ks rest tx k rs r d) (Waiters.waiter_read here ks rest tx k rs s e)
  left_alike ks rest tx k rs r s d e c (s_same u v p) t =
      subst (λ (z : ServeTurn). Left (Waiters.waiter_read here ks rest tx k rs r d) (Waiters.waiter_read here ks rest tx k rs z e)) p (left_read ks rest tx k rs r d e t)
  left_alike ks rest tx k rs r s d e c (s_gives v v' by by' fc fc') t =
      record { kept = refl; both = twin_replied g Dec here tx k v v' by by' fc fc' (with_waiters (ks ++ rest) d) (with_waiters (ks ++ rest) e) c (twin_waiters g Dec (ks ++ rest) d e t) }

  left_held : (ks rest : List Waiter) (a : Arrived) (m : MasterTurn) (d e : Doing) → InOrder d.view.versions → InOrder e.view.versions → Both d e
      → Left (Waiters.waiter_held here ks rest a m d) (Waiters.waiter_held here ks rest a m e)
  unfolding Rattle.str_model.specs.Acts.refused
  left_held ks rest a (Accept ts) d e o p t =
      record { kept = refl; both = twin_accepted g Dec here a ts (with_waiters (ks ++ rest) d) (with_waiters (ks ++ rest) e) o p (twin_waiters g Dec (ks ++ rest) d e t) }
  left_held ks rest a (Refuse by k) d e o p t =
      let s = twin_waiters g Dec (ks ++ rest) d e t in
      record {
        kept = refl;
        both = record {
          view = ap (λ (v : View). Rattle.str_model.specs.Acts.with_done a.tx a.part v) s.view;
          sent = alike_append Dec d.sent e.sent _ _ t.sent (alike_self Dec (letter here a.tx.node (Refusal a.tx a.part by k) ∷ []));
          released = t.released;
        };
      }
  left_held ks rest a (Park by) d e o p t = record { kept = refl; both = t }
  left_held ks rest a Ignore d e o p t = record { kept = refl; both = t }

  -- ---- the waiters in turn

  alike_between : (p m n : MasterTurn) → TurnAlike p m → TurnAlike p n → TurnAlike m n
  alike_between p m n (t_same u v e) (t_same x y f) = t_same m n (sym e ∙ f)
  alike_between p m n (t_same u v e) (t_refuse by to k l q) = subst (λ (z : MasterTurn). TurnAlike z (Refuse to l)) e (t_refuse by to k l q)
  alike_between p m n (t_refuse by to k l q) (t_same x y f) = subst (λ (z : MasterTurn). TurnAlike (Refuse to l) z) f (t_refuse to by l k (sym q))
  alike_between p m n (t_refuse by to k l q) (t_refuse by' to' k' l' q') = t_refuse to to' l l' (sym q ∙ q')

  pub masters_alike : (d e : Doing) (a : Arrived) → InOrder d.view.versions → InOrder e.view.versions → Both d e → TurnAlike (master_turn d.view a) (master_turn e.view a)
  masters_alike d e a o p t =
      alike_between (master_turn (pruned g d.view) a) (master_turn d.view a) (master_turn e.view a) (master_alike g d.view a o)
      (subst (λ (v : View). TurnAlike (master_turn v a) (master_turn e.view a)) (sym t.view) (master_alike g e.view a p))

  pub masters_same : (d e : Doing) (a : Arrived) → InOrder d.view.versions → InOrder e.view.versions → g ≤ a.rs.0 → Both d e → master_turn d.view a ≡ master_turn e.view a
  masters_same d e a o p le t =
      sym (master_pruned g d.view a o le) ∙ (ap (λ (v : View). master_turn v a) t.view ∙ master_pruned g e.view a p le)

  left_turns : (ks rest : List Waiter) (a : Arrived) (m n : MasterTurn) (d e : Doing) → Dec a.tx → TurnAlike m n → InOrder d.view.versions → InOrder e.view.versions → Both d e
      → Left (Waiters.waiter_held here ks rest a m d) (Waiters.waiter_held here ks rest a n e)
  left_turns ks rest a m n d e c (t_same u v q) o p t =
      subst (λ (z : MasterTurn). Left (Waiters.waiter_held here ks rest a m d) (Waiters.waiter_held here ks rest a z e)) q (left_held ks rest a m d e o p t)
  left_turns ks rest a m n d e c (t_refuse by to k l q) o p t =
      record {
        kept = refl;
        both = subst (λ (z : KeyId). Both (Rattle.str_model.specs.Acts.refused here a by k (with_waiters (ks ++ rest) d)) (Rattle.str_model.specs.Acts.refused here a to z (with_waiters (ks ++ rest) e))) q
            (twin_refused g Dec here a by to k (with_waiters (ks ++ rest) d) (with_waiters (ks ++ rest) e) c (twin_waiters g Dec (ks ++ rest) d e t));
      }

  left_turn : (ks rest : List Waiter) (w : Waiter) (d e : Doing) → Far g Dec w → Good d → Good e → Both d e → Left (Waiters.waiter_turn here ks rest w d) (Waiters.waiter_turn here ks rest w e)
  left_turn ks rest (Read tx k rs) d e (inl c) a b t =
      left_alike ks rest tx k rs (serve_turn d.view.versions k rs.0) (serve_turn e.view.versions k rs.0) d e c (serve_alike g Dec here d e k rs.0 t) t
  left_turn ks rest (Read tx k rs) d e (inr le) a b t =
      subst (λ (z : ServeTurn). Left (Waiters.waiter_read here ks rest tx k rs (serve_turn d.view.versions k rs.0) d) (Waiters.waiter_read here ks rest tx k rs z e)) (same_served d e k rs.0 le t)
      (left_read ks rest tx k rs (serve_turn d.view.versions k rs.0) d e t)
  left_turn ks rest (Held r) d e (inl c) a b t =
      left_turns ks rest r (master_turn d.view r) (master_turn e.view r) d e c (masters_alike d e r (ordered d a) (ordered e b) t) (ordered d a) (ordered e b) t
  left_turn ks rest (Held r) d e (inr le) a b t =
      subst (λ (z : MasterTurn). Left (Waiters.waiter_held here ks rest r (master_turn d.view r) d) (Waiters.waiter_held here ks rest r z e)) (masters_same d e r (ordered d a) (ordered e b) le t)
      (left_held ks rest r (master_turn d.view r) d e (ordered d a) (ordered e b) t)

  pub twin_waits_turns : (ks ws : List Waiter) (d e : Doing) → d.view.waiters ≡ ks ++ ws → Good d → Good e → Both d e → Both (Waiters.wait_turns here ks ws d) (Waiters.wait_turns here ks ws e)
  twin_waits_turns ks [] d e q a b t = t
  twin_waits_turns ks (w ∷ rest) d e q a b t =
      let r = Waiters.waiter_turn here ks rest w d in
      let s = Waiters.waiter_turn here ks rest w e in
      let q' : e.view.waiters ≡ ks ++ w ∷ rest = ap (λ (v : View). v.waiters) (sym t.view) ∙ q in
      let left = left_turn ks rest w d e (far d a w (subst (λ (xs : List Waiter). In w xs) (sym q) (in_right ks (w ∷ rest) w (inl refl)))) a b t in
      let m = waiter_turn-waited here input InWait ks rest w d q in
      let n = waiter_turn-waited here input InWait ks rest w e q' in
      subst (λ (xs : List Waiter). Both (Waiters.wait_turns here r.0 rest r.1) (Waiters.wait_turns here xs rest s.1)) left.kept
      (twin_waits_turns r.0 rest r.1 s.1 m.same (goes InWait d r.1 m.path a) (goes InWait e s.1 n.path b) left.both)

  -- ---- what follows a rule

  pub twin_after : (d e : Doing) → Good d → Good e → Both d e → Both (Rattle.str_model.specs.Steps.after_rule here d) (Rattle.str_model.specs.Steps.after_rule here e)
  unfolding Rattle.str_model.specs.Steps.after_rule
  twin_after d e a b t =
      let n : length d.view.own ≡ length e.view.own = ap (λ (v : View). length v.own) t.view in
      let p = twin_pass (length d.view.own) d e a b t in
      let u : Doing = pass_to here (length d.view.own) d in
      let v : Doing = pass_to here (length d.view.own) e in
      let both = twin_waits_turns [] u.view.waiters u v refl (good_pass (length d.view.own) d a) (good_pass (length d.view.own) e b) p in
      let ws : u.view.waiters ≡ v.view.waiters = ap (λ (z : View). z.waiters) p.view in
      subst (λ (k : ℕ). Both (Waiters.wait_turns here [] u.view.waiters u) (Waiters.wait_turns here [] (pass_to here k e).view.waiters (pass_to here k e))) n
      (subst (λ (xs : List Waiter). Both (Waiters.wait_turns here [] u.view.waiters u) (Waiters.wait_turns here [] xs v)) ws both)
