-- How much of a script is done, written, read and got, at each change.
use Rattle.std.proofs.Common.{List, Option, Some, [], ap, arith, false, length, length-append, refl, subst, sym, true, ℕ, ◌+◌, ◌<◌, ◌∷◌, ◌≡◌, ◌≤◌}
use Rattle.std.proofs.lemmas.Option.{slice_get_within}
use Rattle.str_base.specs.declared.names.KeyId.{KeyId}
use Rattle.str_scene.specs.declared.names.Op.{Op}
use Rattle.str_scene.specs.declared.names.Op.TheVariants.{Abort as Stop, Add, Del, Get, Need, Put, Puts}
use Rattle.str_base.specs.declared.names.TxId.{TxId}
use Rattle.str_base.specs.declared.names.Value.{Value}
use Rattle.str_base.specs.declared.names.Write.{Write}
use Rattle.str_model.specs.declared.messages.Input.{Input}
use Rattle.dependency_set.specs.Snapshots.{Snap}
use Rattle.str_base.specs.Values.{is_below, set_write}
use Rattle.str_base.specs.Versions.{same_key}
use Rattle.str_model.specs.Acts.{decided_as, in_phase}
use Rattle.str_model.specs.NodeFacts.{AllNeedy, AllOwn, AtNeed, Needs, Needy, ScriptLengths, is_stopped}
use Rattle.str_scene.specs.Scenes.{Here, script_at}
use Rattle.str_model.specs.Scripts.{finish, finish_next, noted, own_op}
use Rattle.str_model.specs.Scripts
use Rattle.str_model.specs.Owned.{WaitsFor}
use Rattle.str_model.specs.Views.{Aborted, Active, CertWait, Closing, Committed, Doing, Global, Local, Own, Phase, ReadWait, Remote, Reply, is_decided, lc_of}
use Rattle.str_model.proofs.Principle.SingleChanges.{Act, AsksCommit, Change, NeedsNone, Reads, Where, asks_again, asks_new, ch_away, ch_blind, ch_close, ch_gate, ch_known, ch_read, ch_reply, ch_resolve, ch_take, ch_wait, reads_again, reads_new}
use Rattle.str_model.proofs.OwnFacts.EachOwn.{OwnKept, each_own-act}
use Rattle.str_model.proofs.Changes.SnapshotsGain.{if_elim}
use Rattle.str_model.proofs.OwnFacts.UnmetNeeds.{reads_need}

-- one more write, or the same number
pub set_write-length : (w : Write) (ws : List Write) → length (set_write w ws) ≤ length ws + 1
set_write-length w [] = omega arith
set_write-length w (u ∷ us) =
    if_elim (λ zs. length zs ≤ length (u ∷ us) + 1) (same_key u.key w.key) (w ∷ us) (u ∷ set_write w us) (λ e. omega arith) (λ e. let r = set_write-length w us in omega (arith, r))

-- one that has a local commit timestamp and is undecided has not stopped
not_stopped : (p : Phase) (lc : ℕ) → is_decided p ≡ false → lc_of p ≡ Some lc → is_stopped p ≡ false
not_stopped (Local m) lc f l = refl
not_stopped (Global m) lc f l = refl
not_stopped Active lc f l = absurd (cc l)
not_stopped (ReadWait k) lc f l = absurd (cc l)
not_stopped (Remote k) lc f l = absurd (cc l)
not_stopped (Reply k v by fc) lc f l = absurd (cc l)
not_stopped CertWait lc f l = absurd (cc l)
not_stopped (Closing w) lc f l = absurd (cc l)
not_stopped (Committed m fc) lc f l = absurd (cc f)
not_stopped (Aborted m c) lc f l = absurd (cc f)

asks_going : (here : Here) (x : Own) → AsksCommit here x → is_stopped x.phase ≡ false
asks_going here x (asks_new a e n) = ap is_stopped a
asks_going here x (asks_again e) = ap is_stopped e

reads_going : (here : Here) (x : Own) (k : KeyId) → Reads here x k → is_stopped x.phase ≡ false
reads_going here x k (reads_new op a e n q) = ap is_stopped a
reads_going here x k (reads_again e) = ap is_stopped e

-- before the operation is finished: one more may have been read
record Before (here : Here) (x : Own) : Type 0 where
  next : x.next < length (script_at here.scene x.place)
  writes : length x.writes ≤ x.next
  gets : length x.gets ≤ x.next
  reads : length x.reads ≤ x.next + 1

module _ (here : Here) where
  -- the same counts in another phase
  same_lengths : (x y : Own) → y.next ≡ x.next → y.place ≡ x.place → y.writes ≡ x.writes → y.gets ≡ x.gets → y.reads ≡ x.reads → (is_stopped y.phase ≡ false → is_stopped x.phase ≡ false)
      → ScriptLengths here x → ScriptLengths here y
  same_lengths x y n p ws gs rs f h =
      let l : length (script_at here.scene y.place) ≡ length (script_at here.scene x.place) = ap (λ z. length (script_at here.scene z)) p in
      record {
        next = omega (arith, h.next, n, l);
        writes = omega (arith, h.writes, n, ap length ws);
        gets = omega (arith, h.gets, n, ap length gs);
        reads = omega (arith, h.reads, l, ap length rs);
        reads_next = λ e. (let q = h.reads_next (f e) in omega (arith, q, n, ap length rs));
      }

  phase_lengths : (x : Own) (p : Phase) → is_stopped x.phase ≡ false → ScriptLengths here x → ScriptLengths here (in_phase p x)
  phase_lengths x p f h = same_lengths x (in_phase p x) refl refl refl refl refl (λ e. f) h

  -- one that is decided keeps no gets
  decided_lengths : (x : Own) (p : Phase) → (is_stopped p ≡ false → is_stopped x.phase ≡ false) → ScriptLengths here x → ScriptLengths here (decided_as p x)
  decided_lengths x p f h = record { next = h.next; writes = h.writes; gets = omega arith; reads = h.reads; reads_next = λ e. h.reads_next (f e) }

  before_of : (x : Own) (op : Op) → own_op here x ≡ Some op → is_stopped x.phase ≡ false → ScriptLengths here x → Before here x
  before_of x op e f h = record { next = slice_get_within (script_at here.scene x.place) x.next op e; writes = h.writes; gets = h.gets; reads = (let r = h.reads_next f in omega (arith, r)) }

  noted_before : (x : Own) (op : Op) (k : KeyId) (a : Value) (by : Option TxId) (snap : Snap) → own_op here x ≡ Some op → is_stopped x.phase ≡ false → ScriptLengths here x → Before here (noted k a by snap x)
  noted_before x op k a by snap e f h = record {
    next = slice_get_within (script_at here.scene x.place) x.next op e;
    writes = h.writes;
    gets = h.gets;
    reads = (let r = h.reads_next f in let m = length-append x.reads (record { key = k; value = a; by = by } ∷ []) in omega (arith, r, m));
  }

  wrote_lengths : (z : Own) (k : KeyId) (a : Value) → Before here z → ScriptLengths here (Scripts.wrote k a z)
  wrote_lengths z k a b = record {
    next = (let n = b.next in omega (arith, n));
    writes = (let m = set_write-length (record { key = k; value = a }) z.writes in let n = b.writes in omega (arith, m, n));
    gets = (let n = b.gets in omega (arith, n));
    reads = (let r = b.reads in let n = b.next in omega (arith, r, n));
    reads_next = λ e. b.reads;
  }

  moved_lengths : (z y : Own) → y.next ≡ z.next + 1 → y.place ≡ z.place → y.writes ≡ z.writes → y.reads ≡ z.reads → length y.gets ≤ length z.gets + 1 → Before here z → ScriptLengths here y
  moved_lengths z y n p ws rs gs b =
      let l : length (script_at here.scene y.place) ≡ length (script_at here.scene z.place) = ap (λ q. length (script_at here.scene q)) p in
      record {
        next = (let m = b.next in omega (arith, m, n, l));
        writes = (let m = b.writes in omega (arith, m, n, ap length ws));
        gets = (let m = b.gets in omega (arith, m, n, gs));
        reads = (let r = b.reads in let m = b.next in omega (arith, r, m, l, ap length rs));
        reads_next = λ e. (let r = b.reads in omega (arith, r, n, ap length rs));
      }

  -- an operation that needs a value, or none, is finished
  finish_lengths : (op : Op) (a : Value) (z : Own) → (op ≡ Stop → ⊥) → Before here z → ScriptLengths here (finish op a z)
  finish_lengths (Get l) a z f b =
      moved_lengths z (finish (Get l) a z) refl refl refl refl (let m = length-append z.gets (record { key = l; value = a } ∷ []) in omega (arith, m)) b
  finish_lengths (Put l m) a z f b = wrote_lengths z l _ b
  finish_lengths (Puts l t) a z f b = wrote_lengths z l _ b
  finish_lengths (Add l m) a z f b = wrote_lengths z l _ b
  finish_lengths (Del l) a z f b = wrote_lengths z l _ b
  finish_lengths (Need l m) a z f b =
      if_elim (ScriptLengths here) (is_below a m) (record z { phase = Closing true }) (record z { next = z.next + 1; phase = Active })
      (λ e. record {
        next = (let n = b.next in omega (arith, n));
        writes = b.writes;
        gets = b.gets;
        reads = (let r = b.reads in let n = b.next in omega (arith, r, n));
        reads_next = λ q. absurd (cc q);
      })
      (λ e. moved_lengths z (record z { next = z.next + 1; phase = Active }) refl refl refl refl (omega arith) b)
  finish_lengths Stop a z f b = absurd (f refl)

  needs_on : (op : Op) (k : KeyId) → Needs op k → op ≡ Stop → ⊥
  needs_on op k n e = subst (λ o. Needs o k) e n

  none_on : (op : Op) → NeedsNone op → op ≡ Stop → ⊥
  none_on op n e = subst NeedsNone e n

  -- a value has come for the operation that needs it
  came_lengths : (x : Own) (k : KeyId) (a : Value) (by : Option TxId) (snap : Snap) → AtNeed here x k → is_stopped x.phase ≡ false → ScriptLengths here x
      → ScriptLengths here (finish_next (own_op here x) a (noted k a by snap x))
  came_lengths x k a by snap n f h =
      subst (λ o. ScriptLengths here (finish_next o a (noted k a by snap x))) (sym n.1)
      (finish_lengths n.0 a (noted k a by snap x) (needs_on n.0 k n.2) (noted_before x n.0 k a by snap n.1 f h))

  change_lengths : (input : Input) (d : Doing) (i : ℕ) (x y : Own) → Needy here x → Change here input d i x y → ScriptLengths here x → ScriptLengths here y
  change_lengths input d i x y n (ch_resolve t e) h = same_lengths x y refl refl refl refl refl (λ q. q) h
  change_lengths input d i x y n (ch_known op k a p e m q) h = finish_lengths op a x (needs_on op k m) (before_of x op e (ap is_stopped p) h)
  change_lengths input d i x y n (ch_blind op a p e m) h = finish_lengths op a x (none_on op m) (before_of x op e (ap is_stopped p) h)
  change_lengths input d i x y n (ch_read k a by snap r m t) h = came_lengths x k a by snap (reads_need here x k n r) (reads_going here x k r) h
  change_lengths input d i x y n (ch_wait k by r m e) h = phase_lengths x (ReadWait k) (reads_going here x k r) h
  change_lengths input d i x y n (ch_away k to r m e) h = phase_lengths x (Remote k) (reads_going here x k r) h
  change_lengths input d i x y n (ch_reply from tx l k a by fc c p q e s) h = phase_lengths x (Reply k a by fc.0) (ap is_stopped e) h
  change_lengths input d i x y n (ch_take k a b by of fc gc snap e q) h =
      came_lengths x k b of snap (n.waits k (subst (λ f. WaitsFor f k) (sym e) refl)) (ap is_stopped e) h
  change_lengths input d i x y n (ch_close p e q) h = phase_lengths x (Closing false) (ap is_stopped p) h
  change_lengths input d i x y n (ch_gate a) h = phase_lengths x CertWait (asks_going here x a) h

  pub lengths-act : (input : Input) (w : Where) (d e : Doing) → Act here input w d e → AllNeedy here d.view → AllOwn (ScriptLengths here) d.view → AllOwn (ScriptLengths here) e.view
  lengths-act input w d e act needy = each_own-act here input (ScriptLengths here) w d e kept act
    where
      kept : OwnKept here input d (ScriptLengths here)
      kept = record {
        begins = λ place rs. record { next = omega arith; writes = omega arith; gets = omega arith; reads = omega arith; reads_next = λ q. omega arith };
        goes = λ i x y own g h. change_lengths input d i x y (needy i x own) g.change h;
        certifies = λ i lc snap x own a n c h. same_lengths x _ refl refl refl refl refl (λ q. asks_going here x a) h;
        asks = λ i lc p x own f l g h. same_lengths x _ refl refl refl refl refl (λ q. not_stopped x.phase lc f l) h;
        acks = λ i lc from tx p ts parts x own c q g h. same_lengths x _ refl refl refl refl refl (λ z. z) h;
        aborts = λ cause x f h. decided_lengths x _ (λ z. absurd (cc z)) h;
        commits = λ i lc fc x own f l n g h. decided_lengths x _ (λ z. not_stopped x.phase lc f l) h;
        closes = λ x p n h. decided_lengths x _ (λ z. ap is_stopped p) h;
      }
