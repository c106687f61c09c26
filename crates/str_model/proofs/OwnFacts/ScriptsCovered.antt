-- What the write buffer of a transaction covers: each key that its operations so far write; and a certified one has done them all.
pub use Rattle.str_model.specs.NodeFacts.{WritesKey, WritesKey, WritesKey, WritesKey, WritesKey, WritesKey, WrittenIn, WrittenIn, ScriptGood}
use Rattle.dependency_set.specs.Snapshots.{Snap}
use Rattle.str_model.proofs.Changes.MasterChanges.{AreDistinct}
use Rattle.str_model.proofs.Principle.SingleChanges.{Act, AsksCommit, Change, Reads, Where, act_abort, act_abort_came, act_accept, act_ack, act_ask, act_begin, act_certify, act_close, act_commit, act_commit_came, act_mark, act_put, act_refuse, act_reply, act_request, act_take, act_unwait, act_wait, asks_again, asks_new, ch_away, ch_blind, ch_close, ch_gate, ch_known, ch_read, ch_reply, ch_resolve, ch_take, ch_wait, reads_again, reads_new}
use Rattle.str_model.proofs.Principle.StepPaths.{step-keeps}
use Rattle.str_model.proofs.Principle.Everywhere.{at_each_event, at_place}
use Rattle.str_model.proofs.Changes.SnapshotsGain.{if_elim}
use Rattle.std.proofs.Common.{Bool, List, None, Option, Some, [], ap, arith, eq-eqb, eqb-true, false, if◌then◌else◌, inl, inr, map, not, refl, slice_get, slice_set, subst, suc, sym, true, ℕ, ◌&&◌, ◌+◌, ◌<◌, ◌||◌, ◌∙◌, ◌∷◌, ◌≡◌, ◌≢◌, ◌⊎◌}
use Rattle.std.specs.List.{list_any}
use Rattle.str_base.specs.Values.{is_below, set_write}
use Rattle.str_base.specs.Versions.{same_key}
use Rattle.str_base.specs.declared.names.KeyId.{KeyId}
use Rattle.str_base.specs.declared.names.TxId.{TxId}
use Rattle.str_base.specs.declared.names.Value.{Value}
use Rattle.str_base.specs.declared.names.Write.{Write}
use Rattle.str_model.specs.Acts.{abort_came, aborted, accepted, acked, asked, begun, certified, closed, commit_came, committed, decided_as, fresh, in_phase, marked, refused, replied, requested, taken, waits, with_asked}
use Rattle.str_model.specs.Evaluation
use Rattle.str_model.specs.Evaluation.{Unmet, eval_from, value_at}
use Rattle.str_model.specs.Owned.{Owns, wrote_key}
use Rattle.str_model.specs.Runs.{run}
use Rattle.str_model.specs.Scripts
use Rattle.str_model.specs.Scripts.{finish, finish_next, noted, own_op, wrote}
use Rattle.str_model.specs.Strange
use Rattle.str_model.specs.Strange.{distinct_keys}
use Rattle.str_model.specs.Views.{Aborted, Active, CertWait, Closing, Committed, Doing, Global, Local, Own, Phase, ReadWait, Remote, Reply, View, lc_of, starts}
use Rattle.str_model.specs.declared.messages.Input.{Input}
use Rattle.str_model.specs.declared.names.Got.{Got}
use Rattle.str_scene.specs.SceneLimits.{IsScene}
use Rattle.str_scene.specs.Scenes.{Here, Scene, participants, script_at}
use Rattle.str_scene.specs.declared.names.Event.{Event}
use Rattle.str_scene.specs.declared.names.Op.TheVariants.{Abort as Stop, Add, Del, Get, Need, Put, Puts}
use Rattle.str_scene.specs.declared.names.Op.{Op}
use Rattle.str_scene.specs.declared.names.TxPlace.{TxPlace}
use Rattle.std.proofs.lemmas.Bool.{cases_eq, not-true, or_cases, or_left, or_parts, or_right}
use Rattle.str_base.proofs.Tests.{and_true_left, and_true_right}
use Rattle.str_base.proofs.Lists.{got_push, got_set}

-- ---- writes

set_key : (w : Write) (ws : List Write) (k : KeyId) → w.key ≡ k → wrote_key k (set_write w ws) ≡ true
set_key w [] k e = rw (eq-eqb w.key.0 k.0 (ap (λ (z : KeyId). z.0) e)) refl
set_key w (u ∷ us) k e =
    if_elim (λ zs. wrote_key k zs ≡ true) (same_key u.key w.key) (w ∷ us) (u ∷ set_write w us)
    (λ t. rw (eq-eqb w.key.0 k.0 (ap (λ (z : KeyId). z.0) e)) refl) (λ t. or_right (same_key u.key k) (wrote_key k (set_write w us)) (set_key w us k e))

keep_key : (w : Write) (ws : List Write) (k : KeyId) → wrote_key k ws ≡ true → wrote_key k (set_write w ws) ≡ true
keep_key w [] k e = absurd (cc e)
keep_key w (u ∷ us) k e = by_test (same_key u.key w.key) refl (or_cases (same_key u.key k) (wrote_key k us) e) (keep_key w us k)
  where
    by_test : (b : Bool) → same_key u.key w.key ≡ b → (same_key u.key k ≡ true) ⊎ (wrote_key k us ≡ true) → (wrote_key k us ≡ true → wrote_key k (set_write w us) ≡ true)
        → wrote_key k (if b then w ∷ us else u ∷ set_write w us) ≡ true
    by_test true q (inl h) rec = or_left (same_key w.key k) (wrote_key k us) (eq-eqb w.key.0 k.0 (sym (eqb-true u.key.0 w.key.0 q) ∙ eqb-true u.key.0 k.0 h))
    by_test true q (inr h) rec = or_right (same_key w.key k) (wrote_key k us) h
    by_test false q (inl h) rec = or_left (same_key u.key k) (wrote_key k (set_write w us)) h
    by_test false q (inr h) rec = or_right (same_key u.key k) (wrote_key k (set_write w us)) (rec h)

key_back : (w : Write) (ws : List Write) (k : KeyId) → wrote_key k (set_write w ws) ≡ true → (wrote_key k ws ≡ true) ⊎ (w.key ≡ k)
key_back w [] k e = elim (or_cases (same_key w.key k) false e) [ inl h ↦ inr (λ j. record { 0 = eqb-true w.key.0 k.0 h j }) | inr h ↦ absurd (cc h) ]
key_back w (u ∷ us) k e = by_test (same_key u.key w.key) e (key_back w us k)
  where
    by_test : (b : Bool) → wrote_key k (if b then w ∷ us else u ∷ set_write w us) ≡ true → (wrote_key k (set_write w us) ≡ true → (wrote_key k us ≡ true) ⊎ (w.key ≡ k))
        → ((same_key u.key k || wrote_key k us) ≡ true) ⊎ (w.key ≡ k)
    by_test true h rec = elim (or_cases (same_key w.key k) (wrote_key k us) h) [
      | inl q ↦ inr (λ j. record { 0 = eqb-true w.key.0 k.0 q j })
      | inr q ↦ inl (or_right (same_key u.key k) (wrote_key k us) q)
    ]
    by_test false h rec = elim (or_cases (same_key u.key k) (wrote_key k (set_write w us)) h) [
      | inl q ↦ inl (or_left (same_key u.key k) (wrote_key k us) q)
      | inr q ↦ (elim (rec q) [ inl z ↦ inl (or_right (same_key u.key k) (wrote_key k us) z) | inr z ↦ inr z ])
    ]

-- a key that was not there is not there after a write of another one
none_of : (w : Write) (ws : List Write) (k : KeyId) → list_any (same_key k) (map (λ (z : Write). z.key) ws) ≡ false → same_key k w.key ≡ false
    → list_any (same_key k) (map (λ (z : Write). z.key) (set_write w ws)) ≡ false
none_of w [] k e f = rw f refl
none_of w (u ∷ us) k e f =
    let n = or_parts (same_key k u.key) (list_any (same_key k) (map (λ (z : Write). z.key) us)) e in
    if_elim (λ zs. list_any (same_key k) (map (λ (z : Write). z.key) zs) ≡ false) (same_key u.key w.key) (w ∷ us) (u ∷ set_write w us)
    (λ t. rw f n.1) (λ t. rw n.0 (none_of w us k n.1 f))

-- each key stands once after one more write
pub set_once : (w : Write) (ws : List Write) → AreDistinct ws → AreDistinct (set_write w ws)
set_once w [] d = refl
set_once w (u ∷ us) d = by_test (same_key u.key w.key) refl (set_once w us (and_true_right (not (list_any (same_key u.key) (map (λ (z : Write). z.key) us))) _ d))
  where
    fresh_ : list_any (same_key u.key) (map (λ (z : Write). z.key) us) ≡ false
    fresh_ = not-true (list_any (same_key u.key) (map (λ (z : Write). z.key) us)) (and_true_left _ (Strange.distinct_keys (map (λ (z : Write). z.key) us)) d)

    by_test : (b : Bool) → same_key u.key w.key ≡ b → AreDistinct (set_write w us) → AreDistinct (if b then w ∷ us else u ∷ set_write w us)
    by_test true q rec =
        let same : u.key ≡ w.key = λ j. record { 0 = eqb-true u.key.0 w.key.0 q j } in
        subst (λ (z : KeyId). (not (list_any (same_key z) (map (λ (z : Write). z.key) us)) && Strange.distinct_keys (map (λ (z : Write). z.key) us)) ≡ true) same d
    by_test false q rec = rw (none_of w us u.key fresh_ q) rec

-- ---- what a script writes is in it

later_op : (op : Op) (ops : List Op) (k : KeyId) → WrittenIn ops k → WrittenIn (op ∷ ops) k
later_op op ops k h = (suc h.0, h.1, h.2, h.3)

after_write : (op : Op) (ops : List Op) (w : Write) (ws : List Write) (k : KeyId) → (w.key ≡ k → WritesKey op k) → (wrote_key k (set_write w ws) ≡ true) ⊎ WrittenIn ops k
    → (wrote_key k ws ≡ true) ⊎ WrittenIn (op ∷ ops) k
after_write op ops w ws k f (inr h) = inr (later_op op ops k h)
after_write op ops w ws k f (inl h) = elim (key_back w ws k h) [ inl q ↦ inl q | inr q ↦ inr (0, op, refl, f q) ]

pub eval_keys : (look : KeyId → Value) (ops : List Op) (ws : List Write) (gs : List Got) (k : KeyId) → wrote_key k (eval_from look ops ws gs).writes ≡ true → (wrote_key k ws ≡ true) ⊎ WrittenIn ops k
eval_keys look [] ws gs k e = inl e
eval_keys look (Get l ∷ ops) ws gs k e = elim (eval_keys look ops ws _ k e) [ inl h ↦ inl h | inr h ↦ inr (later_op (Get l) ops k h) ]
eval_keys look (Put l n ∷ ops) ws gs k e = after_write (Put l n) ops _ ws k (λ q. q) (eval_keys look ops _ gs k e)
eval_keys look (Puts l t ∷ ops) ws gs k e = after_write (Puts l t) ops _ ws k (λ q. q) (eval_keys look ops _ gs k e)
eval_keys look (Add l n ∷ ops) ws gs k e = after_write (Add l n) ops _ ws k (λ q. q) (eval_keys look ops _ gs k e)
eval_keys look (Del l ∷ ops) ws gs k e = after_write (Del l) ops _ ws k (λ q. q) (eval_keys look ops _ gs k e)
eval_keys look (Need l n ∷ ops) ws gs k e = by_test (is_below (Evaluation.value_at look ws l) n) e (eval_keys look ops ws gs k)
  where
    by_test : (b : Bool) → wrote_key k (if b then record { gets = gs; writes = ws; stop = Unmet } else eval_from look ops ws gs).writes ≡ true
        → (wrote_key k (eval_from look ops ws gs).writes ≡ true → (wrote_key k ws ≡ true) ⊎ WrittenIn ops k) → (wrote_key k ws ≡ true) ⊎ WrittenIn (Need l n ∷ ops) k
    by_test true h rec = inl h
    by_test false h rec = elim (rec h) [ inl q ↦ inl q | inr q ↦ inr (later_op (Need l n) ops k q) ]
eval_keys look (Stop ∷ ops) ws gs k e = inl e

-- ---- each change

module _ (here : Here) where
  -- the same buffer and place
  same_good : (x y : Own) → y.writes ≡ x.writes → y.next ≡ x.next → y.place ≡ x.place → ((lc : ℕ) → lc_of y.phase ≡ Some lc → own_op here x ≡ None) → (y.phase ≡ CertWait → own_op here x ≡ None)
      → ScriptGood here x → ScriptGood here y
  same_good x y ws n p whole wait g = record {
    covers = λ j op k l e q. subst (λ (zs : List Write). wrote_key k zs ≡ true) (sym ws)
        (g.covers j op k (omega (arith, l, n)) (subst (λ (z : TxPlace). slice_get (script_at here.scene z) j ≡ Some op) p e) q);
    whole = λ lc l. ops_same ∙ whole lc l;
    waits_ = λ e. ops_same ∙ wait e;
    inside = λ k h. subst (λ (z : TxPlace). WrittenIn (script_at here.scene z) k) (sym p) (g.inside k (subst (λ (zs : List Write). wrote_key k zs ≡ true) ws h));
    once = subst (λ (zs : List Write). AreDistinct zs) (sym ws) g.once;
  }
    where
      ops_same : own_op here y ≡ own_op here x
      ops_same = λ j. slice_get (script_at here.scene (p j)) (n j)

  -- one more operation, which is the next one
  next_good : (x y : Own) (op : Op) → own_op here x ≡ Some op → y.next ≡ x.next + 1 → y.place ≡ x.place → ((k : KeyId) → wrote_key k x.writes ≡ true → wrote_key k y.writes ≡ true)
      → ((k : KeyId) → WritesKey op k → wrote_key k y.writes ≡ true) → (lc_of y.phase ≡ None) → (y.phase ≡ CertWait → ⊥) → ((k : KeyId) → wrote_key k y.writes ≡ true → (wrote_key k x.writes ≡ true) ⊎ WritesKey op k) → AreDistinct y.writes
      → ScriptGood here x → ScriptGood here y
  next_good x y op e n p keep own lc wait back dist g = record {
    covers = λ j o k l f q. by_place j o k l (subst (λ (z : TxPlace). slice_get (script_at here.scene z) j ≡ Some o) p f) q (cases_eq j x.next);
    whole = λ m l. absurd (cc (lc, l));
    waits_ = λ q. absurd (wait q);
    inside = λ k h. subst (λ (z : TxPlace). WrittenIn (script_at here.scene z) k) (sym p) (elim (back k h) [ inl z ↦ g.inside k z | inr z ↦ (x.next, op, e, z) ]);
    once = dist;
  }
    where
      below : (a b c : ℕ) → a < b → b ≡ c + 1 → a ≢ c → a < c
      below a b c l q f = grind (arith, l, q, f)

      by_place : (j : ℕ) (o : Op) (k : KeyId) → j < y.next → slice_get (script_at here.scene x.place) j ≡ Some o → WritesKey o k → (j ≡ x.next) ⊎ (j ≢ x.next) → wrote_key k y.writes ≡ true
      by_place j o k l f q (inl s) =
          let both : Some o ≡ Some op = sym f ∙ (ap (λ (z : ℕ). slice_get (script_at here.scene x.place) z) s ∙ e) in
          let same : o ≡ op = cc both in own k (subst (λ (z : Op). WritesKey z k) same q)
      by_place j o k l f q (inr s) = keep k (g.covers j o k (below j y.next x.next l n s) f q)

  wrote_good : (x : Own) (op : Op) (l : KeyId) (v : Value) → own_op here x ≡ Some op → ((k : KeyId) → WritesKey op k → l ≡ k) → ((k : KeyId) → l ≡ k → WritesKey op k) → ScriptGood here x → ScriptGood here (Scripts.wrote l v x)
  wrote_good x op l v e f b g =
      next_good x (Scripts.wrote l v x) op e refl refl (λ k h. keep_key (record { key = l; value = v }) x.writes k h) (λ k q. set_key (record { key = l; value = v }) x.writes k (f k q)) refl (λ q. cc q)
      (λ k h. elim (key_back (record { key = l; value = v }) x.writes k h) [ inl z ↦ inl z | inr z ↦ inr (b k z) ]) (set_once (record { key = l; value = v }) x.writes g.once) g

  finish-good : (x : Own) (op : Op) (v : Value) → own_op here x ≡ Some op → (lc_of x.phase ≡ None) → (x.phase ≡ CertWait → ⊥) → ScriptGood here x → ScriptGood here (finish op v x)
  finish-good x (Get l) v e n f g = next_good x (finish (Get l) v x) (Get l) e refl refl (λ k h. h) (λ k q. absurd q) refl (λ q. cc q) (λ k h. inl h) g.once g
  finish-good x (Put l m) v e n f g = wrote_good x (Put l m) l _ e (λ k q. q) (λ k q. q) g
  finish-good x (Puts l t) v e n f g = wrote_good x (Puts l t) l _ e (λ k q. q) (λ k q. q) g
  finish-good x (Add l m) v e n f g = wrote_good x (Add l m) l _ e (λ k q. q) (λ k q. q) g
  finish-good x (Del l) v e n f g = wrote_good x (Del l) l _ e (λ k q. q) (λ k q. q) g
  finish-good x (Need l m) v e n f g =
      if_elim (ScriptGood here) (is_below v m) (record x { phase = Closing true }) (record x { next = x.next + 1; phase = Active })
      (λ t. same_good x (record x { phase = Closing true }) refl refl refl (λ lc q. absurd (cc q)) (λ q. absurd (cc q)) g)
      (λ t. next_good x (record x { next = x.next + 1; phase = Active }) (Need l m) e refl refl (λ k h. h) (λ k q. absurd q) refl (λ q. cc q) (λ k h. inl h) g.once g)
  finish-good x Stop v e n f g = g

  finish_next-good : (x : Own) (o : Option Op) (v : Value) → own_op here x ≡ o → (lc_of x.phase ≡ None) → (x.phase ≡ CertWait → ⊥) → ScriptGood here x → ScriptGood here (finish_next o v x)
  finish_next-good x None v e n f g = g
  finish_next-good x (Some op) v e n f g = finish-good x op v e n f g

  noted-good : (k : KeyId) (v : Value) (by : Option TxId) (snap : Snap) (x : Own) → ScriptGood here x → ScriptGood here (noted k v by snap x)
  noted-good k v by snap x g = record { covers = g.covers; whole = g.whole; waits_ = g.waits_; inside = g.inside; once = g.once }

  phase_good : (x : Own) (p : Phase) → lc_of p ≡ None → (p ≡ CertWait → ⊥) → ScriptGood here x → ScriptGood here (in_phase p x)
  phase_good x p n f g = same_good x (in_phase p x) refl refl refl (λ lc q. absurd (cc (n, q))) (λ q. absurd (f q)) g

  reads_free : (x : Own) (k : KeyId) → Reads here x k → (lc_of x.phase ≡ None) × (x.phase ≡ CertWait → ⊥)
  reads_free x k (reads_new op a e n q) = (ap lc_of a, λ z. cc (sym a ∙ z))
  reads_free x k (reads_again e) = (ap lc_of e, λ z. cc (sym e ∙ z))

  pub asks_end : (x : Own) → AsksCommit here x → ScriptGood here x → own_op here x ≡ None
  asks_end x (asks_new a e ne) g = e
  asks_end x (asks_again e) g = g.waits_ e

  pub change-good : (input : Input) (d : Doing) (i : ℕ) (x y : Own) → Change here input d i x y → ScriptGood here x → ScriptGood here y
  change-good input d i x y (ch_resolve t e) g = record { covers = g.covers; whole = g.whole; waits_ = g.waits_; inside = g.inside; once = g.once }
  change-good input d i x y (ch_known op k a e o n q) g = finish-good x op a o (ap lc_of e) (λ z. cc (sym e ∙ z)) g
  change-good input d i x y (ch_blind op a e o n) g = finish-good x op a o (ap lc_of e) (λ z. cc (sym e ∙ z)) g
  change-good input d i x y (ch_read k a by snap r m t) g =
      let f = reads_free x k r in finish_next-good (noted k a by snap x) (own_op here x) a refl f.0 f.1 (noted-good k a by snap x g)
  change-good input d i x y (ch_wait k by r m t) g = phase_good x (ReadWait k) refl (λ q. cc q) g
  change-good input d i x y (ch_away k n r m t) g = phase_good x (Remote k) refl (λ q. cc q) g
  change-good input d i x y (ch_reply from tx l k a by fc c n q e s) g = phase_good x (Reply k a by fc.0) refl (λ z. cc z) g
  change-good input d i x y (ch_take k a b by of fc gc snap e q) g =
      finish_next-good (noted k b of snap x) (own_op here x) b refl (ap lc_of e) (λ z. cc (sym e ∙ z)) (noted-good k b of snap x g)
  change-good input d i x y (ch_close a o e) g = phase_good x (Closing false) refl (λ q. cc q) g
  change-good input d i x y (ch_gate a) g = same_good x (in_phase CertWait x) refl refl refl (λ lc q. absurd (cc q)) (λ q. asks_end x a g) g

  -- ---- at a node

  abbrev pub AllScripts : View → Type 0
  AllScripts v = (i : ℕ) (x : Own) → Owns v i x → ScriptGood here x

  fresh_script : (place : TxPlace) (rs : ℕ) → ScriptGood here (fresh place rs)
  fresh_script place rs = record { covers = λ j op k l e q. absurd (omega (arith, l)); whole = λ lc l. absurd (cc l); waits_ = λ q. absurd (cc q); inside = λ k h. absurd (cc h); once = refl }

  script_set : (own : List Own) (i : ℕ) (x y : Own) → slice_get own i ≡ Some x → (ScriptGood here x → ScriptGood here y) → ((j : ℕ) (z : Own) → slice_get own j ≡ Some z → ScriptGood here z)
      → (j : ℕ) (z : Own) → slice_get (slice_set own i y) j ≡ Some z → ScriptGood here z
  script_set own i x y o f h j z k = elim (got_set own i j y z k) [ inl p ↦ subst (ScriptGood here) (sym p.1) (f (h i x o)) | inr p ↦ h j z p.1 ]

  pub script-act : (input : Input) (w : Where) (d e : Doing) → Act here input w d e → AllScripts d.view → AllScripts e.view
  unfolding begun marked aborted committed closed certified asked acked requested accepted taken refused waits replied commit_came abort_came
  script-act input w d e (act_begin place rs d' r g) h = λ j z k. elim (got_push d'.view.own j (fresh place rs) z k) [ inl p ↦ subst (ScriptGood here) (sym p.1) (fresh_script place rs) | inr p ↦ h j z p ]
  script-act input w d e (act_mark k t d' rd) h = h
  script-act input w d e (act_put i x y d' own g) h = script_set d'.view.own i x y own.0 (change-good input d' i x y g.change) h
  script-act input w d e (act_request i k m x d' own g) h = script_set d'.view.own i x (in_phase (Remote k) x) own.0 (change-good input d' i x (in_phase (Remote k) x) g.change) h
  script-act input w d e (act_certify i lc snap x d' own f n c) h =
      script_set d'.view.own i x (record x { snap = snap; parts = participants here.scene here.node x.writes; phase = Local lc }) own.0
      (λ g. same_good x (record x { snap = snap; parts = participants here.scene here.node x.writes; phase = Local lc }) refl refl refl (λ m q. asks_end x own.2 g) (λ q. absurd (cc q)) g) h
  script-act input w d e (act_ask i lc p x d' own f l g) h =
      script_set d'.view.own i x (record x { parts = with_asked p x.parts; phase = Global lc }) own.0
      (λ s. same_good x (record x { parts = with_asked p x.parts; phase = Global lc }) refl refl refl (λ m q. s.whole lc l) (λ q. absurd (cc q)) s) h
  script-act input w d e (act_ack i lc from tx p ts parts x d' own c q g) h =
      script_set d'.view.own i x (record x { parts = parts }) own.0 (λ s. record { covers = s.covers; whole = s.whole; waits_ = s.waits_; inside = s.inside; once = s.once }) h
  script-act input w d e (act_abort i cause x d' own f y) h =
      script_set d'.view.own i x (decided_as (Aborted (lc_of x.phase) cause) x) own.0
      (λ s. same_good x (decided_as (Aborted (lc_of x.phase) cause) x) refl refl refl (λ m q. s.whole m q) (λ q. absurd (cc q)) s) h
  script-act input w d e (act_commit i lc fc x d' own l n le f g) h =
      script_set d'.view.own i x (decided_as (Committed (Some lc) (Some fc)) x) own.0
      (λ s. same_good x (decided_as (Committed (Some lc) (Some fc)) x) refl refl refl (λ m q. s.whole lc l) (λ q. absurd (cc q)) s) h
  script-act input w d e (act_close i x d' own p n) h =
      script_set d'.view.own i x (decided_as (Committed None None) x) own.0
      (λ s. same_good x (decided_as (Committed None None) x) refl refl refl (λ m q. absurd (cc q)) (λ q. absurd (cc q)) s) h
  script-act input w d e (act_accept a ts d' g m) h = h
  script-act input w d e (act_refuse a u k d' g m) h = h
  script-act input w d e (act_take from a d' c l) h = h
  script-act input w d e (act_wait r d' g) h = h
  script-act input w d e (act_unwait kept rest r d' g) h = h
  script-act input w d e (act_reply tx k rs v u fc d' g) h = h
  script-act input w d e (act_commit_came from tx p fc ms d' c g) h = h
  script-act input w d e (act_abort_came from tx p d' c g) h = h

-- at each node after each event
pub scripts_after : (scene : Scene) → IsScene scene → (events : List Event) (n : ℕ) (v : View) → slice_get (run scene events).nodes n ≡ Some v → AllScripts (at_place scene n) v
scripts_after scene ok events n v is =
    at_each_event scene ok (λ here v. AllScripts here v) (λ here i x own. absurd (cc own))
    (λ here good input u e p h. step-keeps here input (λ d. AllScripts here d.view) (λ w d f a s. script-act here input w d f a s) (starts u) e p h) events n v is
