-- What each turn leaves stays to the end of the event, and those who go on waiting do so for an undecided version.
use Rattle.std.proofs.Common.{Bool, List, None, Option, Some, [], ap, append_assoc, arith, eqb-true, false, filter, find, if◌then◌else◌, inl, inr, length, map, nat_le, nat_lt, not, option_map, refl, slice_get, subst, suc, sym, true, zero, ℕ, ◌&&◌, ◌++◌, ◌+◌, ◌<◌, ◌∙◌, ◌∷◌, ◌≡◌, ◌≢◌, ◌≤◌, ◌⊎◌}
use Rattle.std.proofs.lemmas.Option.{slice_get_within}
use Rattle.spsi_laws.proofs.Rest.RestStages.{find_is}
use Rattle.spsi_laws.proofs.Rest.RestTurns.{Back, DoneAt, Fit, IsStuck, PreForeign, Rests, fits-act, s_dep, s_own, s_pre, turn_rests}
use Rattle.str_base.specs.declared.names.KeyId.{KeyId}
use Rattle.str_base.specs.declared.names.Kind.{Kind}
use Rattle.str_base.specs.declared.names.Kind.TheVariants.{Final, Local as LocalKind, Pre}
use Rattle.str_base.specs.declared.names.Ts.{Ts}
use Rattle.str_base.specs.declared.names.TxId.{TxId}
use Rattle.str_base.specs.declared.names.Version.{Version}
use Rattle.str_base.specs.declared.names.Write.{Write}
use Rattle.str_base.specs.Versions.{insert_all, is_undecided, last_undecided, of_tx, same_key, same_node, settled, without}
use Rattle.str_model.proofs.Principle.SingleChanges.{Act, InRule, InTurn, InWait, Path, PathTo, Touches, Where, act_abort, act_abort_came, act_accept, act_ack, act_ask, act_begin, act_certify, act_close, act_commit, act_commit_came, act_mark, act_put, act_refuse, act_reply, act_request, act_take, act_unwait, act_wait, along}
use Rattle.str_model.proofs.Principle.StepPaths.{turn-path, wait_turns-path, waiter_turn-waited}
use Rattle.str_model.proofs.Changes.SnapshotsGain.{if_elim, in_last}
use Rattle.str_model.proofs.Principle.RulePaths.{rule-path}
use Rattle.str_model.specs.Acts
use Rattle.str_model.specs.Acts.{aborted, accepted, acked, asked, begun, certified, closed, commit_came, committed, is_hosted_of, local_version, marked, pre_version, refused, replied, requested, taken, waits, with_waiters}
use Rattle.str_model.specs.Owned.{Owns}
use Rattle.str_model.specs.Pass
use Rattle.str_model.specs.Proposals.{Accept, Ignore, MasterTurn, Park, Refuse, master_turn, parks, proposed, refuses, ts_limit}
use Rattle.str_model.specs.Proposals
use Rattle.str_model.specs.Steps
use Rattle.str_model.specs.Steps.{after_rule, step}
use Rattle.str_model.specs.Turns.{Give, ServeTurn, ServeWait, met, serve_turn}
use Rattle.str_model.specs.Turns
use Rattle.str_model.specs.Views.{Doing, Own, View, name_of, starts}
use Rattle.str_model.specs.Waiters
use Rattle.str_model.specs.declared.messages.Arrived.{Arrived}
use Rattle.str_model.specs.declared.messages.Input.{Input}
use Rattle.str_model.specs.declared.messages.Input.TheVariants.{Client}
use Rattle.str_model.specs.declared.messages.Waiter.{Waiter}
use Rattle.str_model.specs.declared.messages.Waiter.TheVariants.{Held, Read}
use Rattle.str_scene.specs.Scenes.{Here}
use Rattle.str_model.proofs.Changes.PairWords.{keep_without}
use Rattle.str_model.proofs.OwnFacts.TurnsBelow.{leaves}
use Rattle.std.proofs.lemmas.Bool.{false_from_ne_true}
use Rattle.str_base.proofs.SameNames.{same_tx-is}
use Rattle.str_base.proofs.Tests.{and_true_left, and_true_right}
use Rattle.str_base.proofs.Members.{in_all_old, in_append, in_filter, in_flat_map, in_right}
use Rattle.str_base.specs.Members.{In}

-- an input that brings no message
abbrev pub nobody : Input
nobody = Client (record { 0 = 0 }) 0

module _ (here : Here) where
  other_name : (i : ℕ) (q : Version) → q.tx.node.0 ≢ here.node.0 → of_tx (name_of here i) q ≡ false
  other_name i q ne = false_from_ne_true (of_tx (name_of here i) q) (λ t. ne (ap (λ (x : TxId). x.node.0) (same_tx-is q.tx (name_of here i) t)))

  -- outside a rule no Pre version goes, where no message comes
  pre_stays : (w : Where) (d e : Doing) → Act here nobody w d e → PreForeign here d.view → (q : Version) → In q d.view.versions → q.kind ≡ Pre → In q e.view.versions
  unfolding begun marked aborted committed closed certified asked acked requested accepted taken refused waits replied commit_came Acts.abort_came
  pre_stays w d e (act_begin place rs d' r h) f q m p = m
  pre_stays w d e (act_mark g t d' rd) f q m p = m
  pre_stays w d e (act_put i x y d' own g) f q m p = m
  pre_stays w d e (act_request i g ma x d' own h) f q m p = m
  pre_stays w d e (act_certify i lc snap x d' own fr n c) f q m p = in_all_old (map (local_version here i lc) x.writes) d.view.versions q m
  pre_stays w d e (act_ask i lc pp x d' own fr l g) f q m p = m
  pre_stays w d e (act_ack i lc from t pp ts parts x d' own c r g) f q m p = m
  pre_stays w d e (act_abort i cause x d' own fr y) f q m p = keep_without (of_tx (name_of here i)) d.view.versions q m (other_name i q (f q m p))
  pre_stays w d e (act_commit i lc fc x d' own l n le fr g) f q m p =
      in_all_old (map (settled fc) (filter (is_hosted_of here (name_of here i)) d.view.versions)) (without (of_tx (name_of here i)) d.view.versions) q (keep_without (of_tx (name_of here i)) d.view.versions q m (other_name i q (f q m p)))
  pre_stays w d e (act_close i x d' own z n) f q m p = m
  pre_stays w d e (act_accept a ts d' h t) f q m p = in_all_old (map (pre_version a ts) a.writes) d.view.versions q m
  pre_stays w d e (act_refuse a u g d' h t) f q m p = m
  pre_stays w d e (act_take from a d' c l) f q m p = in_all_old (map (pre_version a (proposed d.view a)) a.writes) d.view.versions q m
  pre_stays w d e (act_wait r d' h) f q m p = m
  pre_stays w d e (act_unwait kept rest r d' h) f q m p = m
  pre_stays w d e (act_reply t g rs v u fc d' h) f q m p = m
  pre_stays w d e (act_commit_came from t pp fc ms d' c h) f q m p = absurd (cc c.1)
  pre_stays w d e (act_abort_came from t pp d' c h) f q m p = absurd (cc c.1)

  -- what rests goes on to rest, where neither it nor one before it is touched
  back_stays : (w : Where) (i : ℕ) (x : Own) (d e : Doing) → w ≢ InRule → ((j : ℕ) → j ≤ i → Touches w j → ⊥) → Act here nobody w d e → PreForeign here d.view → Back d.view i x → Back e.view i x
  back_stays w i x d e n t a f (s_dep z) = s_dep z
  back_stays w i x d e n t a f (s_pre q m p) = s_pre q (pre_stays w d e a f q m p) p
  back_stays w i x d e n t a f (s_own j lc y lt o l op) = s_own j lc y lt ((leaves here nobody w d e n a).others j (t j (omega (arith, lt))) ∙ o) l op

  rests_stay : (w : Where) (i : ℕ) (d e : Doing) → w ≢ InRule → ((j : ℕ) → j ≤ i → Touches w j → ⊥) → Act here nobody w d e → Fit here d.view → DoneAt d.view i → DoneAt e.view i
  rests_stay w i d e n t a h r x o =
      let o' : Owns d.view i x = sym ((leaves here nobody w d e n a).others i (t i (omega arith))) ∙ o in
      let k = r x o' in
      record { closing = k.closing; stuck = λ s. back_stays w i x d e n t a h.foreign (k.stuck s); gate = k.gate }

  both_along : (w : Where) (i : ℕ) (d e : Doing) → w ≢ InRule → ((j : ℕ) → j ≤ i → Touches w j → ⊥) → Path here nobody w d e → Fit here d.view → DoneAt d.view i → Fit here e.view × DoneAt e.view i
  both_along w i d e n t p h r = along here nobody w (λ z. Fit here z.view × DoneAt z.view i) (λ a b act k. (fits-act here nobody w a b act k.0, rests_stay w i a b n t act k.0 k.1)) d e p (h, r)

  pass_fits : (n : ℕ) (d : Doing) → Fit here d.view → Fit here (Pass.pass_to here n d).view
  pass_fits zero d h = h
  pass_fits (suc i) d h =
      along here nobody (InTurn i) (λ z. Fit here z.view) (fits-act here nobody (InTurn i)) (Pass.pass_to here i d) (Pass.turn here i (Pass.pass_to here i d)) (turn-path here nobody (InTurn i) i (Pass.pass_to here i d) refl) (pass_fits i d h)

  pass_rests : (n : ℕ) (d : Doing) → Fit here d.view → (i : ℕ) → i < n → DoneAt (Pass.pass_to here n d).view i
  pass_rests zero d h i lt = absurd (omega (arith, lt))
  pass_rests (suc k) d h i lt = by_order (order i k (omega (arith, lt))) (λ l. pass_rests k d h i l)
    where
      order : (a b : ℕ) → a ≤ b → (a < b) ⊎ (a ≡ b)
      order a b le = grind arith

      by_order : (i < k) ⊎ (i ≡ k) → (i < k → DoneAt (Pass.pass_to here k d).view i) → DoneAt (Pass.turn here k (Pass.pass_to here k d)).view i
      by_order (inl l) rec =
          (both_along (InTurn k) i (Pass.pass_to here k d) (Pass.turn here k (Pass.pass_to here k d)) (λ q. cc q) (λ j le t. absurd (omega (arith, t, le, l))) (turn-path here nobody (InTurn k) k (Pass.pass_to here k d) refl) (pass_fits k d h) (rec l)).1
      by_order (inr q) rec = subst (λ m. DoneAt (Pass.turn here k (Pass.pass_to here k d)).view m) (sym q) (turn_rests here nobody k (Pass.pass_to here k d) (pass_fits k d h))

  -- after the pass and those who wait
  after_rests : (r : Doing) → Fit here r.view → (i : ℕ) → i < length r.view.own → DoneAt (after_rule here r).view i
  unfolding after_rule
  after_rests r h i lt =
      let n = length r.view.own in
      let e : Doing = Pass.pass_to here n r in
      (both_along InWait i e (Waiters.wait_turns here [] e.view.waiters e) (λ q. cc q) (λ j le t. t) (wait_turns-path here nobody InWait [] e.view.waiters e refl) (pass_fits n r h) (pass_rests n r h i lt)).1

  after_length : (r : Doing) → length (after_rule here r).view.own ≡ length r.view.own
  unfolding after_rule
  after_length r =
      let n = length r.view.own in
      let e : Doing = Pass.pass_to here n r in
      let keeps = λ (w : Where) (f : w ≢ InRule) (a b : Doing) (act : Act here nobody w a b) (q : length a.view.own ≡ n). (leaves here nobody w a b f act).same_length ∙ q in
      along here nobody InWait (λ z. length z.view.own ≡ n) (keeps InWait (λ q. cc q)) e (Waiters.wait_turns here [] e.view.waiters e) (wait_turns-path here nobody InWait [] e.view.waiters e refl) (passed n r refl)
    where
      passed : (k : ℕ) (d : Doing) → length d.view.own ≡ length r.view.own → length (Pass.pass_to here k d).view.own ≡ length r.view.own
      passed zero d q = q
      passed (suc i) d q =
          along here nobody (InTurn i) (λ z. length z.view.own ≡ length r.view.own) (λ a b act p. (leaves here nobody (InTurn i) a b (λ z. cc z) act).same_length ∙ p)
          (Pass.pass_to here i d) (Pass.turn here i (Pass.pass_to here i d)) (turn-path here nobody (InTurn i) i (Pass.pass_to here i d) refl) (passed i d q)

  -- each own transaction rests after a step
  pub step_rests : (input : Input) (v : View) (e : Doing) → Fit here v → step here input v ≡ Some e → (i : ℕ) → DoneAt e.view i
  unfolding step
  step_rests input v e h q = by_rule (Steps.rule here input (starts v)) (rule-path here input InRule refl (starts v)) q
    where
      by_rule : (o : Option Doing) → PathTo here input InRule (starts v) o → option_map (after_rule here) o ≡ Some e → (i : ℕ) → DoneAt e.view i
      by_rule None p k i x o = absurd (cc k)
      by_rule (Some r) p k i x o =
          let is : after_rule here r ≡ e = cc k in
          let fr : Fit here r.view = along here input InRule (λ z. Fit here z.view) (fits-act here input InRule) (starts v) r p h in
          let len = after_length r in
          let l : length e.view.own ≡ length (after_rule here r).view.own = ap (λ (z : Doing). length z.view.own) (sym is) in
          subst (λ (z : Doing). DoneAt z.view i) is (after_rests r fr i (omega (arith, slice_get_within e.view.own i x o, len, l))) x o

  -- ---- those who wait

  -- what a parked Prepare waits for
  pub record ParkedFor (v : View) (b : Arrived) : Type 0 where
    pub q : Version
    pub stands : In q v.versions
    pub pre : q.kind ≡ Pre
    pub origin : q.tx.node.0 ≡ b.tx.node.0
    pub w : Write
    pub wrote : In w b.writes
    pub key : q.key ≡ w.key

  abbrev pub WaitsFor : View → Waiter → Type 0
  WaitsFor v (Held b) = ParkedFor v b
  WaitsFor v (Read tx k rs) = (q : Version) × In q v.versions × (q.kind ≡ Final → ⊥)

  undecided_not : (k : Kind) → is_undecided k ≡ true → k ≡ Final → ⊥
  undecided_not Pre e q = cc q
  undecided_not LocalKind e q = cc q
  undecided_not Final e q = cc e

  pre_of_two : (k : Kind) → is_undecided k ≡ true → (k ≡ LocalKind → ⊥) → k ≡ Pre
  pre_of_two Pre e f = refl
  pre_of_two LocalKind e f = absurd (f refl)
  pre_of_two Final e f = absurd (cc e)

  serve_waits : (vs : List Version) (k : KeyId) (rs : ℕ) (by : TxId) → serve_turn vs k rs ≡ ServeWait by → (q : Version) × In q vs × (q.kind ≡ Final → ⊥)
  unfolding serve_turn
  serve_waits vs k rs by e = by_last (last_undecided vs k rs) refl e
    where
      by_last : (o : Option Version) → last_undecided vs k rs ≡ o → Turns.serve_after vs k rs o ≡ ServeWait by → (q : Version) × In q vs × (q.kind ≡ Final → ⊥)
      by_last (Some q) r t =
          let test = λ (z : Version). same_key z.key k && (nat_le z.ts.0 rs && is_undecided z.kind) in
          elim (in_last None (filter test vs) q r) [
            | inl z ↦ absurd (cc z)
            | inr m ↦ (let s = in_filter test vs q m in (q, s.0, undecided_not q.kind (and_true_right (nat_le q.ts.0 rs) (is_undecided q.kind) (and_true_right (same_key q.key k) (nat_le q.ts.0 rs && is_undecided q.kind) s.1))))
          ]
      by_last None r t = absurd (by_visible (Rattle.str_base.specs.Versions.visible vs k rs) t)
        where
          by_visible : (o : Option Version) → Turns.serve_visible o ≡ ServeWait by → ⊥
          by_visible None t = cc t
          by_visible (Some q) t = cc t

  park_waits : (v : View) (a : Arrived) (by : TxId) → Fit here v → In (Held a) v.waiters → master_turn v a ≡ Park by → ParkedFor v a
  unfolding master_turn
  park_waits v a by h m e = by_refuse (find (refuses a) (met a.writes v.versions)) e
    where
      accepts_not : (ts : ℕ) → Proposals.accepts ts ≡ Park by → ⊥
      accepts_not ts = if_elim (λ (t : MasterTurn). t ≡ Park by → ⊥) (nat_lt ts ts_limit) (Accept ts) Ignore (λ q z. cc z) (λ q z. cc z)

      by_park : (o : Option Version) → find (parks a) (met a.writes v.versions) ≡ o → Proposals.master_parks v a o ≡ Park by → ParkedFor v a
      by_park (Some q) r t =
          let f = find_is (parks a) (met a.writes v.versions) q r in
          let g = in_flat_map (λ (w : Write). Rattle.str_base.specs.Versions.chain w.key v.versions) a.writes q f.0 in
          let c = in_filter (λ (z : Version). same_key z.key g.0.key) v.versions q g.2 in
          let u = and_true_left (is_undecided q.kind) (same_node q.tx.node a.tx.node) f.1 in
          let n : q.tx.node.0 ≡ a.tx.node.0 = eqb-true q.tx.node.0 a.tx.node.0 (and_true_right (is_undecided q.kind) (same_node q.tx.node a.tx.node) f.1) in
          let key : q.key.0 ≡ g.0.key.0 = eqb-true q.key.0 g.0.key.0 c.1 in
          record {
            q = q;
            stands = c.0;
            pre = pre_of_two q.kind u (λ l. Rattle.spsi_laws.proofs.Rest.RestTurns.not_same here a.tx.node here.node (h.fit.masters a m).foreign (sym n ∙ (h.base.locals q c.0 l).node));
            origin = n;
            w = g.0;
            wrote = g.1;
            key = λ j. record { 0 = key j };
          }
      by_park None r t = absurd (accepts_not (proposed v a) t)

      by_refuse : (o : Option Version) → Proposals.master_refuses v a o ≡ Park by → ParkedFor v a
      by_refuse (Some q) t = absurd (cc t)
      by_refuse None t = by_park (find (parks a) (met a.writes v.versions)) refl t

  -- versions only come
  Grows : View → View → Type 0
  Grows v u = (q : Version) → In q v.versions → In q u.versions

  waits_grow : (v u : View) (r : Waiter) → Grows v u → WaitsFor v r → WaitsFor u r
  unfolding Grows
  waits_grow v u (Held b) g p = record { q = p.q; stands = g p.q p.stands; pre = p.pre; origin = p.origin; w = p.w; wrote = p.wrote; key = p.key }
  waits_grow v u (Read tx k rs) g p = (p.0, g p.0 p.1, p.2)

  abbrev AllWait : View → List Waiter → Type 0
  AllWait v ws = (r : Waiter) → In r ws → WaitsFor v r

  -- one of those who wait is looked at
  record Looked (d : Doing) (r : List Waiter × Doing) : Type 0 where
    pub grows : Grows d.view r.1.view
    pub all : AllWait r.1.view r.0

  same_looked : (d : Doing) (kept : List Waiter) (w : Waiter) → AllWait d.view kept → WaitsFor d.view w → Looked d (kept ++ w ∷ [], d)
  unfolding Grows
  same_looked d kept w h p = record {
    grows = λ q m. m;
    all = λ r k. elim (in_append kept (w ∷ []) r k) [ inl j ↦ h r j | inr j ↦ (elim j [ inl e ↦ subst (WaitsFor d.view) e p | inr z ↦ absurd z ]) ];
  }

  read_looked : (kept rest : List Waiter) (tx : TxId) (k : KeyId) (rs : Ts) (t : ServeTurn) (d : Doing) → AllWait d.view kept → serve_turn d.view.versions k rs.0 ≡ t → Looked d (Waiters.waiter_read here kept rest tx k rs t d)
  unfolding Grows replied
  read_looked kept rest tx k rs (Give v by fc) d h e = record { grows = λ q m. m; all = λ r j. waits_grow d.view _ r (λ q m. m) (h r j) }
  read_looked kept rest tx k rs (ServeWait by) d h e = same_looked d kept (Read tx k rs) h (serve_waits d.view.versions k rs.0 by e)

  held_looked : (kept rest : List Waiter) (a : Arrived) (t : MasterTurn) (d : Doing) → AllWait d.view kept → Fit here d.view → In (Held a) d.view.waiters → (master_turn d.view a ≡ Ignore → ⊥) → master_turn d.view a ≡ t
      → Looked d (Waiters.waiter_held here kept rest a t d)
  unfolding Grows accepted refused
  held_looked kept rest a (Accept ts) d h f m n e =
      record { grows = λ q j. in_all_old (map (pre_version a ts) a.writes) d.view.versions q j; all = λ r j. waits_grow d.view _ r (λ q i. in_all_old (map (pre_version a ts) a.writes) d.view.versions q i) (h r j) }
  held_looked kept rest a (Refuse by k) d h f m n e = record { grows = λ q j. j; all = λ r j. waits_grow d.view _ r (λ q i. i) (h r j) }
  held_looked kept rest a (Park by) d h f m n e = same_looked d kept (Held a) h (park_waits d.view a by f m e)
  held_looked kept rest a Ignore d h f m n e = absurd (n e)

  -- no parked Prepare is judged at the limit, between these two moments
  abbrev pub NoLimit : Doing → Doing → Type 0
  NoLimit s f = (d : Doing) (a : Arrived) → Path here nobody InWait s d → Path here nobody InWait d f → In (Held a) d.view.waiters → master_turn d.view a ≡ Ignore → ⊥

  turn_looked : (kept rest : List Waiter) (r : Waiter) (d : Doing) → d.view.waiters ≡ kept ++ r ∷ rest → AllWait d.view kept → Fit here d.view → ((a : Arrived) → In (Held a) d.view.waiters → master_turn d.view a ≡ Ignore → ⊥)
      → Looked d (Waiters.waiter_turn here kept rest r d)
  turn_looked kept rest (Read tx k rs) d q h f n = read_looked kept rest tx k rs (serve_turn d.view.versions k rs.0) d h refl
  turn_looked kept rest (Held a) d q h f n =
      let m : In (Held a) d.view.waiters = subst (In (Held a)) (sym q) (in_right kept (Held a ∷ rest) (Held a) (inl refl)) in
      held_looked kept rest a (master_turn d.view a) d h f m (n a m) refl

  sweep : (s : Doing) (kept ws : List Waiter) (d : Doing) → NoLimit s (Waiters.wait_turns here kept ws d) → Path here nobody InWait s d → d.view.waiters ≡ kept ++ ws → AllWait d.view kept → Fit here d.view
      → AllWait (Waiters.wait_turns here kept ws d).view (Waiters.wait_turns here kept ws d).view.waiters
  sweep s kept [] d n p q h f = λ r k. h r (subst (In r) (q ∙ Rattle.std.proofs.Common.append-nil kept) k)
  sweep s kept (w ∷ rest) d n p q h f =
      let t = Waiters.waiter_turn here kept rest w d in
      let wt = waiter_turn-waited here nobody InWait kept rest w d q in
      let l = turn_looked kept rest w d q h f (λ a m e. n d a p (wait_turns-path here nobody InWait kept (w ∷ rest) d q) m e) in
      let f' = along here nobody InWait (λ z. Fit here z.view) (fits-act here nobody InWait) d t.1 wt.path f in
      sweep s t.0 rest t.1 n (Rattle.str_model.proofs.Principle.SingleChanges.and_then s d t.1 p wt.path) wt.same l.all f'

  -- those who wait after a step
  pub step_waits : (input : Input) (v : View) (e : Doing) → Fit here v → ((r : Doing) → Steps.rule here input (starts v) ≡ Some r → NoLimit (Pass.pass_to here (length r.view.own) r) (Waiters.wait_turns here [] (Pass.pass_to here (length r.view.own) r).view.waiters (Pass.pass_to here (length r.view.own) r))) → step here input v ≡ Some e
      → (w : Waiter) → In w e.view.waiters → WaitsFor e.view w
  unfolding step after_rule
  step_waits input v e h lim q = by_rule (Steps.rule here input (starts v)) refl (rule-path here input InRule refl (starts v)) q
    where
      by_rule : (o : Option Doing) → Steps.rule here input (starts v) ≡ o → PathTo here input InRule (starts v) o → option_map (after_rule here) o ≡ Some e → (w : Waiter) → In w e.view.waiters → WaitsFor e.view w
      by_rule None k p j w m = absurd (cc j)
      by_rule (Some r) k p j w m =
          let is : after_rule here r ≡ e = cc j in
          let n = length r.view.own in
          let u : Doing = Pass.pass_to here n r in
          let fr : Fit here r.view = along here input InRule (λ z. Fit here z.view) (fits-act here input InRule) (starts v) r p h in
          let s = sweep u [] u.view.waiters u (lim r k) (Rattle.str_model.proofs.Principle.SingleChanges.stay u) refl (λ x i. absurd i) (pass_fits n r fr) in
          (subst (λ (z : Doing). (x : Waiter) → In x z.view.waiters → WaitsFor z.view x) is s) w m
