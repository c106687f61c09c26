-- How a transaction aborts between two moments that follow one another.
use Rattle.std.proofs.Common.{Bool, List, None, Option, Some, [], ap, false, if◌then◌else◌, length, refl, slice_get, slice_set, subst, suc, sym, true, zero, ℕ, ◌+◌, ◌-◌, ◌∙◌, ◌∷◌, ◌≡◌, ◌≢◌}
use Rattle.dependency_set.specs.Snapshots.{Snap}
use Rattle.dependency_set.specs.declared.names.Dep.{Dep}
use Rattle.str_base.specs.declared.names.Cause.{Cause}
use Rattle.str_base.specs.declared.names.Cause.TheVariants.{Conflict as ByConflict, Late as IsLate, Lost as IsLost, Wish}
use Rattle.str_base.specs.declared.names.KeyId.{KeyId}
use Rattle.str_base.specs.declared.names.NodeId.{NodeId}
use Rattle.str_base.specs.declared.names.PartId.{PartId}
use Rattle.str_base.specs.declared.names.TxId.{TxId}
use Rattle.str_base.specs.declared.names.Write.{Write}
use Rattle.str_base.specs.Versions.{stamp}
use Rattle.str_scene.specs.Scenes.{Here, is_master, participants}
use Rattle.str_scene.specs.declared.names.Op.{Op}
use Rattle.str_scene.specs.declared.names.Op.TheVariants.{Abort as Stop, Add, Del, Get, Need, Put, Puts}
use Rattle.str_base.specs.declared.names.Value.{Value}
use Rattle.str_base.specs.Values.{is_below}
use Rattle.str_model.specs.declared.messages.Arrived.{Arrived}
use Rattle.str_model.specs.declared.messages.Body.TheVariants.{Refuse as Refusal, Replicate}
use Rattle.str_model.specs.declared.messages.Input.{Input}
use Rattle.str_model.specs.declared.messages.Input.TheVariants.{Client}
use Rattle.str_model.specs.Acts.{aborted, asked, certified, closed, committed, decided_as, in_phase, marked, requested, with_asked}
use Rattle.str_model.specs.Arrivals
use Rattle.str_model.specs.Arrivals.{evict, held_key}
use Rattle.str_model.specs.Gates.{Ask, CommitAt, GateTurn, Missing, Shut, gate_of}
use Rattle.str_model.specs.Owned.{Owns}
use Rattle.str_model.specs.Returns.{has_asked, own_named}
use Rattle.str_model.specs.Pass
use Rattle.str_model.specs.Pass.{half_turn, pass_to, turn}
use Rattle.str_model.specs.Scripts
use Rattle.str_model.specs.Scripts.{finish, finish_next, noted, own_op}
use Rattle.str_model.specs.Turns.{Away, CertTurn, Certified, Conflict, DepTurn, Keep, Late, Lost, Plain, ReadTurn, Speculative, Wait, WaitGate, cert_turn, dep_turn, read_turn, reply_turn}
use Rattle.str_model.specs.Views.{Aborted, Active, CertWait, Closing, Committed, Doing, Global, Local, Own, Phase, ReadWait, Remote, Reply, View, is_decided, lc_of, name_of, put}
use Rattle.str_model.proofs.Principle.SingleChanges.{Comes}
use Rattle.str_model.proofs.Changes.SnapshotsGain.{if_elim}
use Rattle.str_model.proofs.Changes.DependencyLooks.{after_look}
use Rattle.str_base.proofs.Lists.{get_set}

-- the input is a client step of the transaction's session
abbrev pub IsStep : Input → Own → Type 0
IsStep input x = (t : ℕ) × (input ≡ Client x.place.session t)

-- it is to be certified: its client step finds its script at its end and has writes, or it waits for certification
pub data AsksNow (here : Here) (input : Input) (x : Own) : Type 0 where
  now_at_end : IsStep input x → x.phase ≡ Active → own_op here x ≡ None → x.writes ≢ [] → AsksNow here input x
  now_waiting : x.phase ≡ CertWait → AsksNow here input x

-- why the p-th own transaction, which stood like x at a moment d, has aborted at the next one
pub data AbortedBy (here : Here) (input : Input) (d : Doing) (p : ℕ) (x : Own) (cause : Cause) : Type 0 where
  ab_lost : (q f : ℕ) (es : List Dep) → dep_turn d.view.own x.snap ≡ Lost q f es → IsLost (record { node = here.node; seq = q }) ≡ cause → AbortedBy here input d p x cause
  ab_late : (q fc f : ℕ) (es : List Dep) → dep_turn d.view.own x.snap ≡ Late q fc f es → IsLate (record { node = here.node; seq = q }) (stamp fc) ≡ cause → AbortedBy here input d p x cause
  ab_met : (snap : Snap) (u : TxId) (k : KeyId) → AsksNow here input x → snap.rs ≡ x.snap.rs → (v : View) → v.versions ≡ d.view.versions → cert_turn here v snap x.writes ≡ Conflict u k → ByConflict u k here.node ≡ cause → AbortedBy here input d p x cause
  ab_evicted : (from : NodeId) (a : Arrived) (w : Write) → Comes here input from (Replicate a.tx a.part a.rs a.lc a.writes) → held_key d.view.versions (name_of here p) a.writes ≡ Some w
      → ByConflict a.tx w.key here.node ≡ cause → AbortedBy here input d p x cause
  ab_stop : IsStep input x → x.phase ≡ Active → own_op here x ≡ Some Stop → Wish ≡ cause → AbortedBy here input d p x cause
  ab_refused : (from : NodeId) (t : TxId) (q : PartId) (u : TxId) (k : KeyId) → Comes here input from (Refusal t q u k) → own_named here t d ≡ Some x → p ≡ t.seq - 1 → has_asked x.parts q ≡ true
      → is_master here.scene from q ≡ true → ByConflict u k from ≡ cause → AbortedBy here input d p x cause
  ab_wish : x.phase ≡ Closing true → x.snap.deps ≡ [] → Wish ≡ cause → AbortedBy here input d p x cause

-- the own transaction of this place is not aborted, or by this cause
abbrev pub NotAborted : ℕ → View → Type 0
NotAborted p v = (y : Own) (lc : Option ℕ) (cause : Cause) → Owns v p y → y.phase ≡ Aborted lc cause → ⊥

set_owns : (own : List Own) (p : ℕ) (x z y : Own) → slice_get own p ≡ Some x → slice_get (slice_set own p z) p ≡ Some y → z ≡ y
set_owns own p x z y is e = let k : Some z ≡ Some y = sym (get_set own p x z is) ∙ e in cc k

module _ (here : Here) (input : Input) (p : ℕ) where
  pub aborted_cause : (cause c : Cause) (lc : Option ℕ) (x y : Own) (d : Doing) → Owns d.view p x → Owns (aborted here p cause x d).view p y → y.phase ≡ Aborted lc c → cause ≡ c
  unfolding aborted
  aborted_cause cause c lc x y d own own' e =
      let s : Aborted (lc_of x.phase) cause ≡ Aborted lc c = ap (λ (z : Own). z.phase) (set_owns d.view.own p x (decided_as (Aborted (lc_of x.phase) cause) x) y own own') ∙ e in cc s

  aborted_owns : (cause : Cause) (x : Own) (d : Doing) → Owns d.view p x → Owns (aborted here p cause x d).view p (decided_as (Aborted (lc_of x.phase) cause) x)
  unfolding aborted
  aborted_owns cause x d own = get_set d.view.own p x (decided_as (Aborted (lc_of x.phase) cause) x) own

  closed_open : (y x : Own) (lc : Option ℕ) (c : Cause) (d : Doing) → Owns d.view p x → Owns (closed here p x d).view p y → y.phase ≡ Aborted lc c → ⊥
  unfolding closed
  closed_open y x lc c d own own' e =
      let s : Committed None None ≡ Aborted lc c = ap (λ (z : Own). z.phase) (set_owns d.view.own p x (decided_as (Committed None None) x) y own own') ∙ e in cc s

  pub put_open : (d : Doing) (x z : Own) → Owns d.view p x → is_decided z.phase ≡ false → NotAborted p (put p z d).view
  put_open d x z own op y lc cause own' e = cc (ap (λ (u : Own). is_decided u.phase) (set_owns d.view.own p x z y own own'), op, ap is_decided e)

  pub open_not : (d : Doing) (x : Own) → Owns d.view p x → is_decided x.phase ≡ false → NotAborted p d.view
  open_not d x own op y lc cause own' e = let k : Some x ≡ Some y = sym own ∙ own' in let s : x ≡ y = cc k in cc (ap (λ (u : Own). is_decided u.phase) s, op, ap is_decided e)

  -- an operation that is finished leaves it undecided
  pub finish_open : (op : Op) (v : Value) (x : Own) → is_decided x.phase ≡ false → is_decided (finish op v x).phase ≡ false
  finish_open (Get k) v x o = refl
  finish_open (Put k n) v x o = refl
  finish_open (Puts k t) v x o = refl
  finish_open (Add k n) v x o = refl
  finish_open (Del k) v x o = refl
  finish_open (Need k n) v x o =
      if_elim (λ (z : Own). is_decided z.phase ≡ false) (is_below v n) (record x { phase = Closing true }) (record x { next = x.next + 1; phase = Active }) (λ e. refl) (λ e. refl)
  finish_open Stop v x o = o

  finish_next_open : (op : Option Op) (v : Value) (x : Own) → is_decided x.phase ≡ false → is_decided (finish_next op v x).phase ≡ false
  finish_next_open None v x o = o
  finish_next_open (Some op) v x o = finish_open op v x o

  pub at_own_is : (f : Own → Doing → Doing) (d : Doing) (x : Own) → Owns d.view p x → is_decided x.phase ≡ false → Scripts.at_own p f d ≡ f x d
  at_own_is f d x own op = ap (λ o. Scripts.of_own f o d) own ∙ ap (λ b. Scripts.unless_decided b (f x) d) op

  pub at_own_decided : (f : Own → Doing → Doing) (d : Doing) (x : Own) → Owns d.view p x → is_decided x.phase ≡ true → Scripts.at_own p f d ≡ d
  at_own_decided f d x own op = ap (λ o. Scripts.of_own f o d) own ∙ ap (λ b. Scripts.unless_decided b (f x) d) op

  -- a read leaves it undecided
  read_done_open : (k : KeyId) (x : Own) (t : ReadTurn) (d : Doing) → Owns d.view p x → is_decided x.phase ≡ false → NotAborted p (Scripts.read_done here p k x t d).view
  unfolding requested
  read_done_open k x (Plain v by fc snap) d own op = put_open d x (finish_next (own_op here x) v (noted k v by snap x)) own (finish_next_open (own_op here x) v (noted k v by snap x) op)
  read_done_open k x (Speculative v by snap) d own op = put_open d x (finish_next (own_op here x) v (noted k v (Some by) snap x)) own (finish_next_open (own_op here x) v (noted k v (Some by) snap x) op)
  read_done_open k x (Wait by) d own op = put_open d x (in_phase (ReadWait k) x) own refl
  read_done_open k x (Away n) d own op = put_open d x (in_phase (Remote k) x) own refl

  pub read_now_open : (k : KeyId) (x : Own) (d : Doing) → Owns d.view p x → is_decided x.phase ≡ false → NotAborted p (Scripts.read_now here p k x d).view
  unfolding Scripts.read_now marked
  read_now_open k x d own op = read_done_open k x (read_turn here d.view x.snap k) (marked k x.snap.rs d) own op

  again_reply_open : (k : KeyId) (x : Own) (t : ReadTurn) (d : Doing) → Owns d.view p x → is_decided x.phase ≡ false → NotAborted p (Pass.again_reply here p k x t d).view
  again_reply_open k x (Plain v by fc snap) d own op = put_open d x (finish_next (own_op here x) v (noted k v by snap x)) own (finish_next_open (own_op here x) v (noted k v by snap x) op)
  again_reply_open k x (Speculative v by snap) d own op = open_not d x own op
  again_reply_open k x (Wait by) d own op = open_not d x own op
  again_reply_open k x (Away n) d own op = open_not d x own op

  -- a certification aborts it by what it has met
  cert_done_by : (t : CertTurn) (d e : Doing) (x z : Own) (lc : Option ℕ) (cause : Cause) (y : Own) → AsksNow here input x → Owns e.view p z → is_decided z.phase ≡ false → z.snap.rs ≡ x.snap.rs → z.writes ≡ x.writes → e.view.versions ≡ d.view.versions
      → cert_turn here e.view z.snap z.writes ≡ t → Owns (Scripts.cert_done here p z t e).view p y → y.phase ≡ Aborted lc cause → AbortedBy here input d p x cause
  unfolding certified
  cert_done_by (Certified l snap) d e x z lc cause y asks own op rs ws vs t own' a =
      absurd (let s : Local l ≡ Aborted lc cause = ap (λ (u : Own). u.phase) (set_owns e.view.own p z (record z { snap = snap; parts = participants here.scene here.node z.writes; phase = Local l }) y own own') ∙ a in cc s)
  cert_done_by (Conflict u k) d e x z lc cause y asks own op rs ws vs t own' a =
      ab_met z.snap u k asks rs e.view vs (ap (λ w. cert_turn here e.view z.snap w) (sym ws) ∙ t) (aborted_cause (ByConflict u k here.node) cause lc z y e own own' a)
  cert_done_by (WaitGate by) d e x z lc cause y asks own op rs ws vs t own' a = absurd (put_open e z (in_phase CertWait z) own refl y lc cause own' a)

  pub certify_by : (d e : Doing) (x z : Own) (lc : Option ℕ) (cause : Cause) (y : Own) → AsksNow here input x → Owns e.view p z → is_decided z.phase ≡ false → z.snap.rs ≡ x.snap.rs → z.writes ≡ x.writes → e.view.versions ≡ d.view.versions
      → Owns (Scripts.certify_now here p z e).view p y → y.phase ≡ Aborted lc cause → AbortedBy here input d p x cause
  unfolding Scripts.certify_now
  certify_by d e x z lc cause y asks own op rs ws vs own' a = cert_done_by (cert_turn here e.view z.snap z.writes) d e x z lc cause y asks own op rs ws vs refl own' a

  again_by : (ph : Phase) (d e : Doing) (x z : Own) (lc : Option ℕ) (cause : Cause) (y : Own) → x.phase ≡ ph → Owns e.view p z → is_decided z.phase ≡ false → z.snap.rs ≡ x.snap.rs → z.writes ≡ x.writes → e.view.versions ≡ d.view.versions
      → Owns (Pass.again_own here p ph z e).view p y → y.phase ≡ Aborted lc cause → AbortedBy here input d p x cause
  again_by (ReadWait k) d e x z lc cause y ph own op rs ws vs own' a = absurd (read_now_open k z e own op y lc cause own' a)
  again_by (Reply k v by fc) d e x z lc cause y ph own op rs ws vs own' a = absurd (again_reply_open k z (reply_turn here z.snap v by fc) e own op y lc cause own' a)
  again_by CertWait d e x z lc cause y ph own op rs ws vs own' a = certify_by d e x z lc cause y (now_waiting ph) own op rs ws vs own' a
  again_by Active d e x z lc cause y ph own op rs ws vs own' a = absurd (open_not e z own op y lc cause own' a)
  again_by (Remote k) d e x z lc cause y ph own op rs ws vs own' a = absurd (open_not e z own op y lc cause own' a)
  again_by (Closing b) d e x z lc cause y ph own op rs ws vs own' a = absurd (open_not e z own op y lc cause own' a)
  again_by (Local l) d e x z lc cause y ph own op rs ws vs own' a = absurd (open_not e z own op y lc cause own' a)
  again_by (Global l) d e x z lc cause y ph own op rs ws vs own' a = absurd (open_not e z own op y lc cause own' a)
  again_by (Committed l f) d e x z lc cause y ph own op rs ws vs own' a = absurd (open_not e z own op y lc cause own' a)
  again_by (Aborted l c) d e x z lc cause y ph own op rs ws vs own' a = absurd (open_not e z own op y lc cause own' a)

  -- the cause of one that has aborted before it would be tried again
  left_cause : (c cause : Cause) (lc : Option ℕ) (z y : Own) (d : Doing) → Owns d.view p z → Owns (Scripts.at_own p (λ u. Pass.again_own here p u.phase u) (aborted here p c z d)).view p y
      → y.phase ≡ Aborted lc cause → c ≡ cause
  left_cause c cause lc z y d own own' a =
      let e : Doing = aborted here p c z d in
      let gone : Own = decided_as (Aborted (lc_of z.phase) c) z in
      aborted_cause c cause lc z y d own (subst (λ (u : Doing). Owns u.view p y) (at_own_decided (λ u. Pass.again_own here p u.phase u) e gone (aborted_owns c z d own) refl) own') a

  -- up to the closing of its turn
  resolved_by : (t : DepTurn) (d : Doing) (x : Own) (lc : Option ℕ) (cause : Cause) (y : Own) → Owns d.view p x → is_decided x.phase ≡ false → dep_turn d.view.own x.snap ≡ t
      → Owns (Scripts.at_own p (λ z. Pass.again_own here p z.phase z) (after_look here p x t d)).view p y → y.phase ≡ Aborted lc cause → AbortedBy here input d p x cause
  resolved_by (Lost q ffc ds) d x lc cause y own op t own' a =
      let z : Own = record x { snap = record (x.snap) { ffc = ffc; deps = ds } } in
      ab_lost q ffc ds t (left_cause (IsLost (record { node = here.node; seq = q })) cause lc z y (put p z d) (get_set d.view.own p x z own) own' a)
  resolved_by (Late q fc ffc ds) d x lc cause y own op t own' a =
      let z : Own = record x { snap = record (x.snap) { ffc = ffc; deps = ds } } in
      ab_late q fc ffc ds t (left_cause (IsLate (record { node = here.node; seq = q }) (stamp fc)) cause lc z y (put p z d) (get_set d.view.own p x z own) own' a)
  resolved_by (Keep ffc ds) d x lc cause y own op t own' a =
      let z : Own = record x { snap = record (x.snap) { ffc = ffc; deps = ds } } in
      let e : Doing = put p z d in
      let at : Owns e.view p z = get_set d.view.own p x z own in
      again_by z.phase d e x z lc cause y refl at op refl refl refl (subst (λ (u : Doing). Owns u.view p y) (at_own_is (λ u. Pass.again_own here p u.phase u) e z at op) own') a

  pub half_by : (d : Doing) (x : Own) (lc : Option ℕ) (cause : Cause) (y : Own) → Owns d.view p x → is_decided x.phase ≡ false → Owns (half_turn here p d).view p y → y.phase ≡ Aborted lc cause → AbortedBy here input d p x cause
  unfolding half_turn
  half_by d x lc cause y own op own' a =
      resolved_by (dep_turn d.view.own x.snap) d x lc cause y own op refl
      (subst (λ (z : Doing). Owns (Scripts.at_own p (λ u. Pass.again_own here p u.phase u) z).view p y) (at_own_is (Pass.resolve_own here p) d x own op) own') a

  -- the gate asks and commits
  gate_done_open : (again : Doing → Doing) (lc : ℕ) (x : Own) (g : GateTurn) (d : Doing) → ((e : Doing) → NotAborted p e.view → NotAborted p (again e).view) → Owns d.view p x → is_decided x.phase ≡ false
      → NotAborted p (Pass.gate_done here p again lc x g d).view
  unfolding asked committed
  gate_done_open again lc x (Ask q) d f own op =
      f (asked here p lc q x d) (put_open d x (record x { parts = with_asked q x.parts; phase = Global lc }) own refl)
  gate_done_open again lc x (Shut q) d f own op = open_not d x own op
  gate_done_open again lc x (Missing q n) d f own op = open_not d x own op
  gate_done_open again lc x (CommitAt fc) d f own op =
      λ y l cause own' a. let s : Committed (Some lc) (Some fc) ≡ Aborted l cause = ap (λ (u : Own). u.phase) (set_owns d.view.own p x (decided_as (Committed (Some lc) (Some fc)) x) y own own') ∙ a in cc s

  gate_phase_open : (again : Doing → Doing) (ph : Phase) (x : Own) (d : Doing) → ((e : Doing) → NotAborted p e.view → NotAborted p (again e).view) → Owns d.view p x → is_decided x.phase ≡ false
      → NotAborted p (Pass.gate_phase here p again ph x d).view
  gate_phase_open again (Local lc) x d f own op = gate_done_open again lc x (gate_of here d.view lc x) d f own op
  gate_phase_open again (Global lc) x d f own op = gate_done_open again lc x (gate_of here d.view lc x) d f own op
  gate_phase_open again _ x d f own op = open_not d x own op

  gates_open : (n : ℕ) (d : Doing) → NotAborted p d.view → NotAborted p (Pass.gates here p n d).view
  gates_open zero d h = h
  gates_open (suc n) d h = by_own (slice_get d.view.own p) refl (λ e g. gates_open n e g)
    where
      by_decided : (x : Own) (b : Bool) → Owns d.view p x → is_decided x.phase ≡ b → ((e : Doing) → NotAborted p e.view → NotAborted p (Pass.gates here p n e).view)
          → NotAborted p (Scripts.unless_decided b (Pass.gate_phase here p (Pass.gates here p n) x.phase x) d).view
      by_decided x true own e f = h
      by_decided x false own e f = gate_phase_open (Pass.gates here p n) x.phase x d f own e

      by_own : (o : Option Own) → slice_get d.view.own p ≡ o → ((e : Doing) → NotAborted p e.view → NotAborted p (Pass.gates here p n e).view)
          → NotAborted p (Scripts.of_own (λ x. Pass.gate_phase here p (Pass.gates here p n) x.phase x) o d).view
      by_own None e f = h
      by_own (Some x) e f = by_decided x (is_decided x.phase) e refl f

  -- the closing of its turn
  close_by : (d : Doing) (x : Own) (ph : Phase) (lc : Option ℕ) (cause : Cause) (y : Own) → Owns d.view p x → is_decided x.phase ≡ false → x.phase ≡ ph → Owns (Pass.close_phase here p ph x d).view p y → y.phase ≡ Aborted lc cause → AbortedBy here input d p x cause
  close_by d x (Closing wish) lc cause y own op e own' a = by_empty x.snap.deps refl own'
    where
      by_wish : (b : Bool) → x.phase ≡ Closing b → x.snap.deps ≡ [] → Owns (Pass.close_free here p b x d).view p y → AbortedBy here input d p x cause
      by_wish true f n o = ab_wish f n (aborted_cause Wish cause lc x y d own o a)
      by_wish false f n o = absurd (closed_not o)
        where
          closed_not : Owns (closed here p x d).view p y → ⊥
          closed_not o = closed_open y x lc cause d own o a

      by_empty : (ds : List Dep) → x.snap.deps ≡ ds → Owns (if Pass.is_empty ds then Pass.close_free here p wish x d else d).view p y → AbortedBy here input d p x cause
      by_empty [] n o = by_wish wish e n o
      by_empty (q ∷ qs) n o = absurd (open_not d x own op y lc cause o a)
  close_by d x Active lc cause y own op e own' a = absurd (gates_open (suc (length here.scene.parts)) d (open_not d x own op) y lc cause own' a)
  close_by d x (ReadWait k) lc cause y own op e own' a = absurd (gates_open (suc (length here.scene.parts)) d (open_not d x own op) y lc cause own' a)
  close_by d x (Remote k) lc cause y own op e own' a = absurd (gates_open (suc (length here.scene.parts)) d (open_not d x own op) y lc cause own' a)
  close_by d x (Reply k v by fc) lc cause y own op e own' a = absurd (gates_open (suc (length here.scene.parts)) d (open_not d x own op) y lc cause own' a)
  close_by d x CertWait lc cause y own op e own' a = absurd (gates_open (suc (length here.scene.parts)) d (open_not d x own op) y lc cause own' a)
  close_by d x (Local l) lc cause y own op e own' a = absurd (gates_open (suc (length here.scene.parts)) d (open_not d x own op) y lc cause own' a)
  close_by d x (Global l) lc cause y own op e own' a = absurd (gates_open (suc (length here.scene.parts)) d (open_not d x own op) y lc cause own' a)
  close_by d x (Committed l f) lc cause y own op e own' a = absurd (gates_open (suc (length here.scene.parts)) d (open_not d x own op) y lc cause own' a)
  close_by d x (Aborted l c) lc cause y own op e own' a = absurd (gates_open (suc (length here.scene.parts)) d (open_not d x own op) y lc cause own' a)

  pub turn_by : (d e : Doing) (x : Own) (lc : Option ℕ) (cause : Cause) (y : Own) → half_turn here p d ≡ e → Owns e.view p x → is_decided x.phase ≡ false → Owns (turn here p d).view p y → y.phase ≡ Aborted lc cause → AbortedBy here input e p x cause
  unfolding turn
  turn_by d e x lc cause y q own op own' a =
      close_by e x x.phase lc cause y own op refl
      (subst (λ (z : Doing). Owns z.view p y) (at_own_is (Pass.close_own here p) e x own op) (subst (λ (z : Doing). Owns (Scripts.at_own p (Pass.close_own here p) z).view p y) q own')) a

  -- an eviction
  pub evict_by : (from : NodeId) (a : Arrived) (d : Doing) (x : Own) (lc : Option ℕ) (cause : Cause) (y : Own) → Comes here input from (Replicate a.tx a.part a.rs a.lc a.writes) → Owns d.view p x → is_decided x.phase ≡ false
      → Owns (Scripts.at_own p (Arrivals.evict_own here a p) d).view p y → y.phase ≡ Aborted lc cause → AbortedBy here input d p x cause
  evict_by from a d x lc cause y c own op own' e =
      by_key (held_key d.view.versions (name_of here p) a.writes) refl (subst (λ (z : Doing). Owns z.view p y) (at_own_is (Arrivals.evict_own here a p) d x own op) own')
    where
      by_key : (o : Option Write) → held_key d.view.versions (name_of here p) a.writes ≡ o → Owns (Arrivals.evict_at here a p x o d).view p y → AbortedBy here input d p x cause
      by_key None h o = absurd (open_not d x own op y lc cause o e)
      by_key (Some w) h o = ab_evicted from a w c h (aborted_cause (ByConflict a.tx w.key here.node) cause lc x y d own o e)
