-- The values of an own transaction at each change: their byte strings are those of the scene.
use Rattle.std.proofs.Common.{Bool, List, None, Option, Some, [], ap, false, find, if◌then◌else◌, inl, inr, length, lt-ltb, refl, slice_get, subst, true, ℕ, ◌&&◌, ◌+◌, ◌-◌, ◌∙◌, ◌∷◌, ◌≡◌}
use Rattle.str_base.specs.declared.names.KeyId.{KeyId}
use Rattle.str_base.specs.declared.names.Kind.{Kind}
use Rattle.str_base.specs.declared.names.Kind.TheVariants.{Final, Local as LocalKind, Pre}
use Rattle.str_base.specs.declared.names.TxId.{TxId}
use Rattle.str_base.specs.declared.names.Value.{Value}
use Rattle.str_base.specs.declared.names.Value.TheVariants.{Absent, Num, Text}
use Rattle.str_base.specs.declared.names.Version.{Version}
use Rattle.str_base.specs.declared.names.Write.{Write}
use Rattle.str_scene.specs.declared.names.Op.{Op}
use Rattle.str_scene.specs.declared.names.Op.TheVariants.{Abort as Stop, Add, Del, Get, Need, Put, Puts}
use Rattle.str_model.specs.declared.names.Got.{Got}
use Rattle.str_model.specs.declared.names.ReadDone.{ReadDone}
use Rattle.str_model.specs.declared.messages.Body.TheVariants.{ReadReply}
use Rattle.str_model.specs.declared.messages.Input.{Input}
use Rattle.dependency_set.specs.Snapshots.{Snap, accept_final, holds}
use Rattle.str_base.specs.Values.{is_below, set_write}
use Rattle.str_base.specs.Versions.{last_pre, same_key, visible}
use Rattle.str_model.specs.Acts.{decided_as, in_phase}
use Rattle.str_model.specs.NodeFacts.{AllOwn, OwnValues}
use Rattle.str_scene.specs.Scenes.{Here, first_or, hosts_key, part_of, replicas}
use Rattle.str_scene.specs.SceneLimits.{IsOp, IsScene}
use Rattle.str_model.specs.Scripts.{finish, finish_next, found_read, found_write, known, noted, or_else, own_op}
use Rattle.str_model.specs.Scripts
use Rattle.str_model.specs.Strange.{has_key, has_node, has_value, has_writer, below_limit}
use Rattle.str_model.specs.Turns.{Away, Plain, ReadTurn, Speculative, Wait, read_turn, reply_turn, take_over}
use Rattle.str_model.specs.Turns
use Rattle.str_model.specs.Views.{Active, CertWait, Closing, Doing, Own, Phase, ReadWait, Remote, Reply, View, is_decided}
use Rattle.str_model.proofs.Principle.SingleChanges.{Act, Change, NeedsNone, ReadsTo, Where, ch_away, ch_blind, ch_close, ch_gate, ch_known, ch_read, ch_reply, ch_resolve, ch_take, ch_wait, to_final, to_local}
use Rattle.str_model.proofs.OwnFacts.AskedParts.{find_some}
use Rattle.str_model.proofs.OwnFacts.EachOwn.{OwnKept, each_own-act}
use Rattle.str_model.proofs.Changes.SnapshotsGain.{if_elim, visible-is}
use Rattle.str_model.proofs.ViewFacts.MarksRise.{script_op}
use Rattle.str_model.proofs.ViewFacts.ValidMessages.{came_named}
use Rattle.str_base.proofs.Tests.{and_true_left, and_true_right}
use Rattle.str_base.proofs.Members.{in_append}
use Rattle.str_base.specs.Members.{In}

module _ (here : Here) where
  -- the value's byte string is one of the scene
  abbrev Good : Value → Type 0
  Good a = has_value here a ≡ true

  -- ---- what is read

  abbrev TurnGives : ReadTurn → Type 0
  TurnGives (Plain a by fc new) = Good a
  TurnGives (Speculative a u new) = Good a
  TurnGives (Wait by) = Unit {0}
  TurnGives (Away n) = Unit {0}

  gated_gives : (b : Bool) (t : ReadTurn) (u : TxId) → TurnGives t → TurnGives (if b then t else Wait u)
  gated_gives true t u h = h
  gated_gives false t u h = tt

  kind_gives : (own : List Own) (snap : Snap) (q : Version) (k : Kind) → Good q.value → TurnGives (Turns.read_kind here own snap q k)
  kind_gives own snap q Pre h = tt
  kind_gives own snap q LocalKind h = gated_gives (holds (take_over (slice_get own (q.tx.seq - 1)) q.tx.seq snap)) (Speculative q.value q.tx (take_over (slice_get own (q.tx.seq - 1)) q.tx.seq snap)) _ h
  kind_gives own snap q Final h = gated_gives (holds (accept_final snap q.ts.0)) (Plain q.value (Some q.tx) q.ts.0 (accept_final snap q.ts.0)) _ h

  module _ (v : View) (versions : (q : Version) → In q v.versions → Good q.value) where
    visible_gives : (snap : Snap) (k : KeyId) (o : Option Version) → ((q : Version) → o ≡ Some q → In q v.versions) → TurnGives (Turns.read_visible here v.own snap k o)
    visible_gives snap k None f = by_host (hosts_key here k)
      where
        by_host : (b : Bool) → TurnGives (if b then Turns.gated here snap (Plain Absent None 0 snap) else Away (first_or here.node (replicas here.scene (part_of here.scene k))))
        by_host true = gated_gives (holds snap) (Plain Absent None 0 snap) _ refl
        by_host false = tt
    visible_gives snap k (Some q) f = kind_gives v.own snap q q.kind (versions q (f q refl))

    read_gives : (snap : Snap) (k : KeyId) → TurnGives (read_turn here v snap k)
    unfolding read_turn
    read_gives snap k = by_pre (last_pre v.versions k snap.rs)
      where
        by_pre : (o : Option Version) → TurnGives (Turns.read_after here v snap k o)
        by_pre (Some q) = tt
        by_pre None = visible_gives snap k (visible v.versions k snap.rs) (λ q e. (visible-is v.versions k snap.rs q e).0)

    reads_good : (snap : Snap) (k : KeyId) (a : Value) (by : Option TxId) (new : Snap) → ReadsTo here v snap k a by new → Good a
    reads_good snap k a by new (to_final fc e) = subst TurnGives e (read_gives snap k)
    reads_good snap k a by new (to_local u s e) = subst TurnGives e (read_gives snap k)

  reply_good : (snap : Snap) (a b : Value) (by of : Option TxId) (fc gc : ℕ) (new : Snap) → reply_turn here snap a by fc ≡ Plain b of gc new → Good a → Good b
  unfolding reply_turn
  reply_good snap a b by of fc gc new e h = subst TurnGives e (gated_gives (holds (accept_final snap fc)) (Plain a by fc (accept_final snap fc)) _ h)

  -- ---- what is known

  found_good : (ws : List Write) (k : KeyId) (a : Value) → ((w : Write) → In w ws → Good w.value) → found_write (find (λ w. same_key w.key k) ws) ≡ Some a → Good a
  found_good ws k a h e = by_found (find (λ (w : Write). same_key w.key k) ws) refl e
    where
      by_found : (o : Option Write) → find (λ (w : Write). same_key w.key k) ws ≡ o → found_write o ≡ Some a → Good a
      by_found None f q = absurd (cc q)
      by_found (Some w) f q = let is : w.value ≡ a = cc q in subst Good is (h w (find_some (λ (w : Write). same_key w.key k) ws w f))

  got_good : (rs : List ReadDone) (k : KeyId) (a : Value) → ((r : ReadDone) → In r rs → Good r.value) → found_read (find (λ r. same_key r.key k) rs) ≡ Some a → Good a
  got_good rs k a h e = by_found (find (λ (r : ReadDone). same_key r.key k) rs) refl e
    where
      by_found : (o : Option ReadDone) → find (λ (r : ReadDone). same_key r.key k) rs ≡ o → found_read o ≡ Some a → Good a
      by_found None f q = absurd (cc q)
      by_found (Some r) f q = let is : r.value ≡ a = cc q in subst Good is (h r (find_some (λ (r : ReadDone). same_key r.key k) rs r f))

  known_good : (x : Own) (k : KeyId) (a : Value) → OwnValues here x → known x k ≡ Some a → Good a
  known_good x k a h e = by_write (found_write (find (λ (w : Write). same_key w.key k) x.writes)) refl e
    where
      by_write : (o : Option Value) → found_write (find (λ (w : Write). same_key w.key k) x.writes) ≡ o → or_else o (found_read (find (λ r. same_key r.key k) x.reads)) ≡ Some a → Good a
      by_write (Some b) f q = let is : b ≡ a = cc q in found_good x.writes k a h.writes (f ∙ ap (λ z. Some z) is)
      by_write None f q = got_good x.reads k a h.reads q

  -- ---- what is written

  set_good : (u : Write) (ws : List Write) → Good u.value → ((w : Write) → In w ws → Good w.value) → (w : Write) → In w (set_write u ws) → Good w.value
  set_good u [] g h w (inl q) = subst (λ (z : Write). Good z.value) q g
  set_good u [] g h w (inr k) = absurd k
  set_good u (x ∷ ws) g h w k = by_test (same_key x.key u.key) k (set_good u ws g (λ z j. h z (inr j)) w)
    where
      by_test : (b : Bool) → In w (if b then u ∷ ws else x ∷ set_write u ws) → (In w (set_write u ws) → Good w.value) → Good w.value
      by_test true (inl q) rec = subst (λ (z : Write). Good z.value) q g
      by_test true (inr j) rec = h w (inr j)
      by_test false (inl q) rec = h w (inl q)
      by_test false (inr j) rec = rec j

  wrote_values : (z : Own) (k : KeyId) (a : Value) → Good a → OwnValues here z → OwnValues here (Scripts.wrote k a z)
  wrote_values z k a g h = record { writes = set_good (record { key = k; value = a }) z.writes g h.writes; reads = h.reads; gets = h.gets; reply = λ l b by fc q. absurd (cc q) }

  -- an operation is finished with a value
  finish_values : (op : Op) (a : Value) (z : Own) → IsOp here.scene.version here.scene.keys op → Good a → OwnValues here z → OwnValues here (finish op a z)
  finish_values (Get l) a z o g h = record {
    writes = h.writes;
    reads = h.reads;
    gets = λ q k. elim (in_append z.gets (record { key = l; value = a } ∷ []) q k) [ inl j ↦ h.gets q j | inr j ↦ (elim j [ inl e ↦ subst (λ (u : Got). Good u.value) e g | inr e ↦ absurd e ]) ];
    reply = λ k b by fc q. absurd (cc q);
  }
  finish_values (Put l m) a z o g h = wrote_values z l (Num m) refl h
  finish_values (Puts l t) a z o g h = wrote_values z l (Text t) (lt-ltb t.0 (length here.scene.keys.texts) o.1) h
  finish_values (Add l m) a z o g h = wrote_values z l _ refl h
  finish_values (Del l) a z o g h = wrote_values z l Absent refl h
  finish_values (Need l m) a z o g h =
      if_elim (OwnValues here) (is_below a m) (record z { phase = Closing true }) (record z { next = z.next + 1; phase = Active })
      (λ e. record { writes = h.writes; reads = h.reads; gets = h.gets; reply = λ k b by fc q. absurd (cc q) })
      (λ e. record { writes = h.writes; reads = h.reads; gets = h.gets; reply = λ k b by fc q. absurd (cc q) })
  finish_values Stop a z o g h = h

  noted_values : (x : Own) (k : KeyId) (a : Value) (by : Option TxId) (snap : Snap) → Good a → OwnValues here x → OwnValues here (noted k a by snap x)
  noted_values x k a by snap g h = record {
    writes = h.writes;
    reads = λ r j. elim (in_append x.reads (record { key = k; value = a; by = by } ∷ []) r j) [ inl i ↦ h.reads r i | inr i ↦ (elim i [ inl e ↦ subst (λ (u : ReadDone). Good u.value) e g | inr e ↦ absurd e ]) ];
    gets = h.gets;
    reply = h.reply;
  }

  phase_values : (x : Own) (p : Phase) → ((k : KeyId) (a : Value) (by : Option TxId) (fc : ℕ) → p ≡ Reply k a by fc → Good a) → OwnValues here x → OwnValues here (in_phase p x)
  phase_values x p f h = record { writes = h.writes; reads = h.reads; gets = h.gets; reply = f }

  -- one that is decided keeps no gets
  decided_values : (x : Own) (p : Phase) → is_decided p ≡ true → OwnValues here x → OwnValues here (decided_as p x)
  decided_values x p f h = record { writes = h.writes; reads = h.reads; gets = λ g j. absurd j; reply = λ k a by fc q. absurd (cc (ap is_decided q, f)) }

  module _ (ok : IsScene here.scene) where
    op_of : (x : Own) (op : Op) → own_op here x ≡ Some op → IsOp here.scene.version here.scene.keys op
    op_of x op e = script_op here.scene ok x.place x.next op e

    next_values : (x : Own) (o : Option Op) (a : Value) (z : Own) → own_op here x ≡ o → Good a → OwnValues here z → OwnValues here (finish_next o a z)
    next_values x None a z e g h = h
    next_values x (Some op) a z e g h = finish_values op a z (op_of x op e) g h

    blind_values : (op : Op) (a : Value) (z : Own) → NeedsNone op → IsOp here.scene.version here.scene.keys op → OwnValues here z → OwnValues here (finish op a z)
    blind_values (Put l m) a z n o h = wrote_values z l (Num m) refl h
    blind_values (Puts l t) a z n o h = wrote_values z l (Text t) (lt-ltb t.0 (length here.scene.keys.texts) o.1) h
    blind_values (Del l) a z n o h = wrote_values z l Absent refl h
    blind_values (Get l) a z n o h = absurd n
    blind_values (Add l m) a z n o h = absurd n
    blind_values (Need l m) a z n o h = absurd n
    blind_values Stop a z n o h = absurd n

    module _ (input : Input) (d : Doing) (versions : (q : Version) → In q d.view.versions → Good q.value) where
      change_values : (i : ℕ) (x y : Own) → Change here input d i x y → OwnValues here x → OwnValues here y
      change_values i x y (ch_resolve t e) h = record { writes = h.writes; reads = h.reads; gets = h.gets; reply = h.reply }
      change_values i x y (ch_known op k a p e n q) h = finish_values op a x (op_of x op e) (known_good x k a h q) h
      change_values i x y (ch_blind op a p e n) h = blind_values op a x n (op_of x op e) h
      change_values i x y (ch_read k a by snap r m t) h =
          let g : Good a = reads_good d.view versions x.snap k a by snap t in next_values x (own_op here x) a (noted k a by snap x) refl g (noted_values x k a by snap g h)
      change_values i x y (ch_wait k by r m e) h = phase_values x (ReadWait k) (λ l b u fc q. absurd (cc q)) h
      change_values i x y (ch_away k to r m e) h = phase_values x (Remote k) (λ l b u fc q. absurd (cc q)) h
      change_values i x y (ch_reply from tx l k a by fc c p u e s) h =
          let n = came_named here input from (ReadReply tx k a by fc) c in
          let m = and_true_right (has_key here k) (has_value here a && (has_writer here by && below_limit fc)) (and_true_right (has_node here tx.node) (has_key here k && (has_value here a && (has_writer here by && below_limit fc))) n) in
          let g : Good a = and_true_left (has_value here a) (has_writer here by && below_limit fc) m in
          phase_values x (Reply k a by fc.0) (λ l' b u fc' q. let is : a ≡ b = cc q in subst Good is g) h
      change_values i x y (ch_take k a b by of fc gc snap e q) h =
          let g : Good b = reply_good x.snap a b by of fc gc snap q (h.reply k a by fc e) in next_values x (own_op here x) b (noted k b of snap x) refl g (noted_values x k b of snap g h)
      change_values i x y (ch_close p e q) h = phase_values x (Closing false) (λ l b u fc q. absurd (cc q)) h
      change_values i x y (ch_gate a) h = phase_values x CertWait (λ l b u fc q. absurd (cc q)) h

    pub values-act : (input : Input) (w : Where) (d e : Doing) → Act here input w d e → ((q : Version) → In q d.view.versions → has_value here q.value ≡ true) → AllOwn (OwnValues here) d.view
        → AllOwn (OwnValues here) e.view
    values-act input w d e act versions = each_own-act here input (OwnValues here) w d e kept act
      where
        kept : OwnKept here input d (OwnValues here)
        kept = record {
          begins = λ place rs. record { writes = λ x j. absurd j; reads = λ r j. absurd j; gets = λ g j. absurd j; reply = λ k a by fc q. absurd (cc q) };
          goes = λ i x y own g h. change_values input d versions i x y g.change h;
          certifies = λ i lc snap x own a n c h. record { writes = h.writes; reads = h.reads; gets = h.gets; reply = λ k a by fc q. absurd (cc q) };
          asks = λ i lc p x own f l g h. record { writes = h.writes; reads = h.reads; gets = h.gets; reply = λ k a by fc q. absurd (cc q) };
          acks = λ i lc from tx p ts parts x own c q g h. record { writes = h.writes; reads = h.reads; gets = h.gets; reply = h.reply };
          aborts = λ cause x f h. decided_values x _ refl h;
          commits = λ i lc fc x own f l n g h. decided_values x _ refl h;
          closes = λ x p n h. decided_values x _ refl h;
        }
