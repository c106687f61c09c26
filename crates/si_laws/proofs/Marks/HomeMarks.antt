-- Who has read a key or waits for it has left its mark at its own node, over every run.
use Rattle.std.proofs.Common.{List, None, Option, Some, [], ap, arith, inl, inr, length, refl, slice_set, subst, suc, sym, zero, ℕ, ◌++◌, ◌<◌, ◌∙◌, ◌∷◌, ◌≡◌, ◌≤◌, ◌⊎◌}
use Rattle.std.proofs.lemmas.List.{length-replicate}
use Rattle.str_base.specs.declared.names.KeyId.{KeyId}
use Rattle.str_base.specs.declared.names.TxId.{TxId}
use Rattle.str_base.specs.Versions.{mark_of}
use Rattle.str_scene.specs.declared.names.Event.{Event}
use Rattle.str_scene.specs.SceneLimits.{IsScene}
use Rattle.str_scene.specs.Scenes.{Here, Scene, nth, participants}
use Rattle.str_model.specs.declared.messages.Input.{Input}
use Rattle.str_model.specs.declared.names.ReadDone.{ReadDone}
use Rattle.str_base.specs.declared.names.Value.{Value}
use Rattle.dependency_set.specs.Snapshots.{Snap}
use Rattle.str_model.specs.Acts.{abort_came, aborted, accepted, acked, asked, begun, certified, closed, commit_came, committed, decided_as, fresh, in_phase, marked, refused, replied, requested, taken, waits, with_asked}
use Rattle.str_model.specs.Owned.{IsView, Owns, WaitsFor}
use Rattle.str_model.specs.Runs.{opening_view, run}
use Rattle.str_model.specs.Scripts.{noted, own_op}
use Rattle.str_model.specs.Turns.{Plain, Speculative, reply_turn}
use Rattle.str_model.specs.Views.{Aborted, Committed, Doing, Global, Local, Own, Remote, View, lc_of, starts}
use Rattle.str_model.proofs.Principle.SingleChanges.{Act, Change, JustMarked, Reads, ReadsTo, Where, act_abort, act_abort_came, act_accept, act_ack, act_ask, act_begin, act_certify, act_close, act_commit, act_commit_came, act_mark, act_put, act_refuse, act_reply, act_request, act_take, act_unwait, act_wait, ch_away, ch_blind, ch_close, ch_gate, ch_known, ch_read, ch_reply, ch_resolve, ch_take, ch_wait, reads_again, reads_new, to_final, to_local}
use Rattle.str_model.proofs.Principle.StepPaths.{step-keeps}
use Rattle.str_model.proofs.Principle.Everywhere.{at_each_event, at_place}
use Rattle.str_model.proofs.Changes.SnapshotsGain.{TurnGood, read_turn-good, reply_turn-good}
use Rattle.si_laws.proofs.Dependencies.AroundKept.{cert_rs}
use Rattle.str_model.proofs.ViewFacts.MarksRise.{Looks, LooksLess, Rises, finish-looks, finish_next-looks, marked_now, need_within, raise_all-rises, raised-rises, rises_self}
use Rattle.si_laws.specs.Laws.Marks.{MarkedAtHome, ReadsKey}
use Rattle.str_base.proofs.Lists.{got_push, got_set}
use Rattle.str_base.proofs.Members.{in_append, in_at}
use Rattle.str_base.proofs.SameNames.{same_key-is}
use Rattle.str_base.specs.Members.{In}

-- The mark of each key that an own transaction has read or waits for is at least its timestamp, and the key is one of the scene. Why: a later
-- version of the key here gets a timestamp above the mark, so it stays above the snapshot.
pub record HomeMarked (here : Here) (v : View) : Type 0 where
  pub same_length : length v.marks ≡ length here.scene.keys.names
  pub each : (i : ℕ) (x : Own) (k : KeyId) → Owns v i x → Looks x k → (k.0 < length here.scene.keys.names) × (x.snap.rs ≤ mark_of v.marks k)

looks_back : (x y : Own) (k : KeyId) → LooksLess x y → Looks y k → Looks x k
looks_back x y k l (inl r) = inl (r.0, subst (In r.0) l.reads r.1, r.2)
looks_back x y k l (inr w) = inr (l.waits k w)

-- one more read
looks_noted : (x z y : Own) (r : ReadDone) (k : KeyId) → LooksLess z y → z.reads ≡ x.reads ++ r ∷ [] → z.phase ≡ x.phase → Looks y k → Looks x k ⊎ (r.key ≡ k)
looks_noted x z y r k l q p h = by_read (looks_back z y k l h)
  where
    by_read : Looks z k → Looks x k ⊎ (r.key ≡ k)
    by_read (inl s) =
        elim (in_append x.reads (r ∷ []) s.0 (subst (In s.0) q s.1)) [
          | inl j ↦ inl (inl (s.0, j, s.2))
          | inr j ↦ (elim j [ inl e ↦ inr (ap (λ (u : ReadDone). u.key) e ∙ s.2) | inr e ↦ absurd e ])
        ]
    by_read (inr s) = inl (inr (subst (λ f. WaitsFor f k) p s))

module _ (here : Here) (ok : IsScene here.scene) where
  -- what a key that is looked for now was before
  data Before (d : View) (x : Own) (k : KeyId) : Type 0 where
    before : Looks x k → Before d x k
    now : k.0 < length here.scene.keys.names → JustMarked d k x.snap.rs → Before d x k

  now_read : (d : View) (x : Own) (k l : KeyId) → (Looks x k → k.0 < length here.scene.keys.names) → Reads here x k → JustMarked d k x.snap.rs → k ≡ l → Before d x l
  now_read d x k l within (reads_new op a e n q) m s = subst (Before d x) s (now (need_within here.scene ok x.place x.next op k e n) m)
  now_read d x k l within (reads_again e) m s = subst (Before d x) s (before (inr (subst (λ p. WaitsFor p k) (sym e) refl)))

  snap_rs : (d : View) (x : Own) (k : KeyId) (a : Value) (by : Option TxId) (snap : Snap) → ReadsTo here d x.snap k a by snap → snap.rs ≡ x.snap.rs
  snap_rs d x k a by snap (to_final fc e) =
      let g : TurnGood d x.snap (Plain a by fc snap) = subst (TurnGood d x.snap) e (read_turn-good here d x.snap k) in g.rs
  snap_rs d x k a by snap (to_local u e f) =
      let g : TurnGood d x.snap (Speculative a u snap) = subst (TurnGood d x.snap) f (read_turn-good here d x.snap k) in g.rs

  reply_rs : (d : View) (x : Own) (a b : Value) (by of : Option TxId) (fc gc : ℕ) (snap : Snap) → reply_turn here x.snap a by fc ≡ Plain b of gc snap → snap.rs ≡ x.snap.rs
  reply_rs d x a b by of fc gc snap e =
      let g : TurnGood d x.snap (Plain b of gc snap) = subst (TurnGood d x.snap) e (reply_turn-good here d x.snap a by fc) in g.rs

  -- a change of an own transaction
  changed : (input : Input) (d : Doing) (i : ℕ) (x y : Own) → Change here input d i x y → ((k : KeyId) → Looks x k → k.0 < length here.scene.keys.names)
      → (y.snap.rs ≡ x.snap.rs) × ((k : KeyId) → Looks y k → Before d.view x k)
  changed input d i x y (ch_resolve t e) within = (refl, λ k h. before h)
  changed input d i x y (ch_known op k a p e n q) within = let l = finish-looks op a x in (l.rs, λ k h. before (looks_back x y k l h))
  changed input d i x y (ch_blind op a p e n) within = let l = finish-looks op a x in (l.rs, λ k h. before (looks_back x y k l h))
  changed input d i x y (ch_read k a by snap r m t) within =
      let z : Own = noted k a by snap x in
      let l = finish_next-looks (own_op here x) a z in (
        l.rs ∙ snap_rs d.view x k a by snap t,
        λ j h. elim (looks_noted x z y (record { key = k; value = a; by = by }) j l refl refl h) [ inl s ↦ before s | inr s ↦ now_read d.view x k j (within k) r m s ],
      )
  changed input d i x y (ch_wait k by r m e) within = (refl, λ j h. elim h [ inl s ↦ before (inl s) | inr s ↦ now_read d.view x k j (within k) r m s ])
  changed input d i x y (ch_away k n r m e) within = (refl, λ j h. elim h [ inl s ↦ before (inl s) | inr s ↦ now_read d.view x k j (within k) r m s ])
  changed input d i x y (ch_reply from tx l k a by fc c n p e s) within =
      (refl, λ j h. elim h [ inl r ↦ before (inl r) | inr r ↦ before (inr (subst (λ f. WaitsFor f j) (sym e) (same_key-is l k s ∙ r))) ])
  changed input d i x y (ch_take k a b by of fc gc snap e q) within =
      let z : Own = noted k b of snap x in
      let l = finish_next-looks (own_op here x) b z in (
        l.rs ∙ reply_rs d.view x a b by of fc gc snap q,
        λ j h. elim (looks_noted x z y (record { key = k; value = b; by = of }) j l refl refl h) [ inl s ↦ before s | inr s ↦ before (inr (subst (λ f. WaitsFor f j) (sym e) s)) ],
      )
  changed input d i x y (ch_close p e q) within = (refl, λ k h. elim h [ inl s ↦ before (inl s) | inr s ↦ absurd s ])
  changed input d i x y (ch_gate a) within = (refl, λ k h. elim h [ inl s ↦ before (inl s) | inr s ↦ absurd s ])

  -- the list of own transactions rests, and marks rise
  rest : (d e : View) → Rises d.marks e.marks → e.own ≡ d.own → HomeMarked here d → HomeMarked here e
  rest d e r q h =
      record {
        same_length = r.same_length ∙ h.same_length;
        each = λ i x k own l. let g = h.each i x k (rw (← q) own) l in (g.0, omega (arith, g.1, r.above k));
      }

  -- one of them changes
  turn : (d e : View) (n : ℕ) (x y : Own) → e.marks ≡ d.marks → e.own ≡ slice_set d.own n y → Owns d n x → (y.snap.rs ≡ x.snap.rs) × ((k : KeyId) → Looks y k → Before d x k) → HomeMarked here d → HomeMarked here e
  turn d e n x y m q is c h =
      record {
        same_length = ap length m ∙ h.same_length;
        each = λ i z k own l. rw m (elim (got_set d.own n i y z (rw (← q) own)) [
          | inl r ↦ this z k r.1 (c.1 k (subst (λ (u : Own). Looks u k) r.1 l))
          | inr r ↦ h.each i z k r.1 l
        ]);
      }
    where
      this : (z : Own) (k : KeyId) → z ≡ y → Before d x k → (k.0 < length here.scene.keys.names) × (z.snap.rs ≤ mark_of d.marks k)
      this z k s (before l) = let g = h.each n x k is l in (g.0, omega (arith, g.1, c.0, ap (λ (u : Own). u.snap.rs) s))
      this z k s (now w j) = (w, omega (arith, marked_now d k x.snap.rs (omega (arith, w, h.same_length)) j, c.0, ap (λ (u : Own). u.snap.rs) s))

  less : (d : View) (x y : Own) → LooksLess x y → (y.snap.rs ≡ x.snap.rs) × ((k : KeyId) → Looks y k → Before d x k)
  less d x y l = (l.rs, λ k h. before (looks_back x y k l h))

  within_of : (d : View) (n : ℕ) (x : Own) → HomeMarked here d → Owns d n x → (k : KeyId) → Looks x k → k.0 < length here.scene.keys.names
  within_of d n x h is k l = (h.each n x k is l).0

  marked-act : (input : Input) (w : Where) (d e : Doing) → Act here input w d e → HomeMarked here d.view → HomeMarked here e.view
  unfolding begun marked aborted committed closed certified asked acked requested accepted taken refused waits replied commit_came abort_came
  marked-act input w d e (act_begin place rs d' r g) h =
      record {
        same_length = h.same_length;
        each = λ i x k own l. elim (got_push d'.view.own i (fresh place rs) x own) [
          | inl s ↦ absurd (none (subst (λ (u : Own). Looks u k) s.1 l))
          | inr s ↦ h.each i x k s l
        ];
      }
    where
      none : {k : KeyId} → Looks (fresh place rs) k → ⊥
      none (inl s) = s.1
      none (inr s) = s
  marked-act input w d e (act_mark k t d' rd) h = rest d'.view e.view (raised-rises d'.view.marks k t) refl h
  marked-act input w d e (act_put i x y d' own g) h = turn d'.view e.view i x y refl refl own.0 (changed input d' i x y g.change (within_of d'.view i x h own.0)) h
  marked-act input w d e (act_request i k m x d' own g) h =
      turn d'.view e.view i x (in_phase (Remote k) x) refl refl own.0 (changed input d' i x (in_phase (Remote k) x) g.change (within_of d'.view i x h own.0)) h
  marked-act input w d e (act_certify i lc snap x d' own f n c) h =
      turn d'.view e.view i x (record x { snap = snap; parts = participants here.scene here.node x.writes; phase = Local lc }) refl refl own.0 (less d'.view x (record x { snap = snap; parts = participants here.scene here.node x.writes; phase = Local lc }) (record { reads = refl; rs = cert_rs here d'.view x.snap snap x.writes lc c; waits = λ k z. absurd z })) h
  marked-act input w d e (act_ask i lc p x d' own f l g) h = turn d'.view e.view i x (record x { parts = with_asked p x.parts; phase = Global lc }) refl refl own.0 (less d'.view x (record x { parts = with_asked p x.parts; phase = Global lc }) (record { reads = refl; rs = refl; waits = λ k z. absurd z })) h
  marked-act input w d e (act_ack i lc from tx p ts parts x d' own c q g) h = turn d'.view e.view i x (record x { parts = parts }) refl refl own.0 (less d'.view x (record x { parts = parts }) (record { reads = refl; rs = refl; waits = λ k z. z })) h
  marked-act input w d e (act_abort i cause x d' own f y) h = turn d'.view e.view i x (decided_as (Aborted (lc_of x.phase) cause) x) refl refl own.0 (less d'.view x (decided_as (Aborted (lc_of x.phase) cause) x) (record { reads = refl; rs = refl; waits = λ k z. absurd z })) h
  marked-act input w d e (act_commit i lc fc x d' own l n le f g) h = turn d'.view e.view i x (decided_as (Committed (Some lc) (Some fc)) x) refl refl own.0 (less d'.view x (decided_as (Committed (Some lc) (Some fc)) x) (record { reads = refl; rs = refl; waits = λ k z. absurd z })) h
  marked-act input w d e (act_close i x d' own p n) h = turn d'.view e.view i x (decided_as (Committed None None) x) refl refl own.0 (less d'.view x (decided_as (Committed None None) x) (record { reads = refl; rs = refl; waits = λ k z. absurd z })) h
  marked-act input w d e (act_accept a ts d' g m) h = rest d'.view e.view (rises_self d'.view.marks) refl h
  marked-act input w d e (act_refuse a u k d' g m) h = rest d'.view e.view (rises_self d'.view.marks) refl h
  marked-act input w d e (act_take from a d' c l) h = rest d'.view e.view (rises_self d'.view.marks) refl h
  marked-act input w d e (act_wait r d' g) h = rest d'.view e.view (rises_self d'.view.marks) refl h
  marked-act input w d e (act_unwait kept more r d' g) h = rest d'.view e.view (rises_self d'.view.marks) refl h
  marked-act input w d e (act_reply tx k rs v u fc d' g) h = rest d'.view e.view (rises_self d'.view.marks) refl h
  marked-act input w d e (act_commit_came from tx p fc ms d' c g) h = rest d'.view e.view (raise_all-rises ms d'.view.marks) refl h
  marked-act input w d e (act_abort_came from tx p d' c g) h = rest d'.view e.view (rises_self d'.view.marks) refl h

pub home_marked_step : (here : Here) → IsScene here.scene → (input : Input) (w : Where) (d e : Doing) → Act here input w d e → HomeMarked here d.view → HomeMarked here e.view
home_marked_step here ok input w d e a h = marked-act here ok input w d e a h

pub home_marked_opening : (here : Here) → HomeMarked here (opening_view here.scene)
home_marked_opening here = record { same_length = length-replicate (length here.scene.keys.names) 0; each = λ i x k own l. absurd (cc own) }

-- at each node after each event
pub home_marked : (scene : Scene) → IsScene scene → (events : List Event) (n : ℕ) (v : View) → IsView scene events n v → HomeMarked (at_place scene n) v
home_marked scene ok events n v is = by_at n v is
  where
    by_at : (n : ℕ) (v : View) → IsView scene events n v → HomeMarked (at_place scene n) v
    by_at n v is =
        (at_each_event scene ok (λ here u. here.scene ≡ scene → HomeMarked here u)
        (λ here q. subst (λ s. HomeMarked here (opening_view s)) q (home_marked_opening here))
        (λ here good input u e p h q. step-keeps here input (λ d. HomeMarked here d.view) (λ w d f a s. home_marked_step here good input w d f a s) (starts u) e p (h q)) events n v is) refl

-- who has read a key or waits for it has left its mark at its node
pub marked_at_home : (scene : Scene) → IsScene scene → (events : List Event) → MarkedAtHome (run scene events)
marked_at_home scene ok events t x k b reads = by_node t.node.0 t.seq b.0 b.1 b.2
  where
    look : ReadsKey x k → Looks x k
    look (inl r) = inl (r.0, in_at x.reads r.1.0 r.0 r.1.1, r.2)
    look (inr w) = inr w

    by_node : (n s : ℕ) (v : View) → nth (run scene events).nodes n ≡ Some v → nth v.own s ≡ Some x → (u : View) × (nth (run scene events).nodes n ≡ Some u) × (x.snap.rs ≤ mark_of u.marks k)
    by_node zero s v e o = absurd (cc e)
    by_node (suc n) zero v e o = absurd (cc o)
    by_node (suc n) (suc i) v e o = (v, e, ((home_marked scene ok events n v e).each i x k o (look reads)).1)
