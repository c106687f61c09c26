-- Where each read, and each reply that a transaction holds, comes from.
use Rattle.std.proofs.Common.{None, Option, Some, [], ap, arith, false, inl, inr, refl, slice_get, slice_set, subst, sym, true, ℕ, ◌++◌, ◌+◌, ◌-◌, ◌∙◌, ◌∷◌, ◌≡◌, ◌≤◌}
use Rattle.str_base.specs.declared.names.KeyId.{KeyId}
use Rattle.str_base.specs.declared.names.Kind.TheVariants.{Final, Local as LocalKind}
use Rattle.str_base.specs.declared.names.NodeId.{NodeId}
use Rattle.str_base.specs.declared.names.Ts.{Ts}
use Rattle.str_base.specs.declared.names.TxId.{TxId}
use Rattle.str_base.specs.declared.names.Value.{Value}
use Rattle.str_base.specs.declared.names.Version.{Version}
use Rattle.str_base.specs.Values.{is_below}
use Rattle.dependency_set.specs.Snapshots.{Snap}
use Rattle.str_scene.specs.declared.names.Op.{Op}
use Rattle.str_scene.specs.declared.names.Op.TheVariants.{Abort as Stop, Add, Del, Get, Need, Put, Puts}
use Rattle.str_scene.specs.Scenes.{Here, participants}
use Rattle.str_model.specs.declared.messages.Body.TheVariants.{ReadReply}
use Rattle.str_model.specs.declared.messages.Input.{Input}
use Rattle.str_model.specs.declared.names.ReadDone.{ReadDone}
use Rattle.str_model.specs.Acts.{abort_came, aborted, accepted, acked, asked, begun, certified, closed, commit_came, committed, decided_as, fresh, in_phase, marked, refused, replied, requested, taken, waits, with_asked}
use Rattle.str_model.specs.Owned.{Owns}
use Rattle.str_model.specs.Returns.{own_named}
use Rattle.str_model.specs.Scripts.{finish, finish_next, noted, own_op}
use Rattle.str_model.specs.Views.{Aborted, Active, Closing, Committed, Doing, Global, Local, Own, Remote, Reply, is_decided, lc_of}
use Rattle.str_model.proofs.Principle.SingleChanges.{Act, Change, Comes, GoesOn, ReadsTo, Where, act_abort, act_abort_came, act_accept, act_ack, act_ask, act_begin, act_certify, act_close, act_commit, act_commit_came, act_mark, act_put, act_refuse, act_reply, act_request, act_take, act_unwait, act_wait, ch_away, ch_blind, ch_close, ch_gate, ch_known, ch_read, ch_reply, ch_resolve, ch_take, ch_wait, to_final, to_local}
use Rattle.str_model.proofs.Changes.SnapshotsGain.{Names, if_elim}
use Rattle.si_laws.proofs.Dependencies.AroundKept.{cert_rs}
use Rattle.str_model.proofs.ViewFacts.MarksRise.{finish-looks, finish_next-looks}
use Rattle.si_laws.proofs.Changes.ReadTurns.{local-is, plain-is, reply-is}
use Rattle.si_laws.proofs.Sources.GivenVersions.{finish_reply}
use Rattle.str_base.proofs.Lists.{got_push, got_set}
use Rattle.str_base.proofs.Members.{in_append}
use Rattle.str_base.specs.Members.{In}

-- where a read comes from
pub data ReadBack (d : Doing) (i : ℕ) (y : Own) (r : ReadDone) : Type 0 where
  rb_old : (x : Own) → Owns d.view i x → In r x.reads → y.snap.rs ≡ x.snap.rs → ReadBack d i y r
  rb_none : r.by ≡ None → ReadBack d i y r
  rb_final : (q : Version) → In q d.view.versions → q.kind ≡ Final → r.by ≡ Some q.tx → q.ts.0 ≤ y.snap.rs → ReadBack d i y r
  rb_local : (q : Version) → In q d.view.versions → q.kind ≡ LocalKind → r.by ≡ Some q.tx → is_decided y.phase ≡ false
      → ((o : Own) → slice_get d.view.own (q.tx.seq - 1) ≡ Some o → Names q.tx.seq y.snap.deps) → ReadBack d i y r
  rb_reply : (x : Own) (k : KeyId) (a : Value) (fc : ℕ) → Owns d.view i x → y.snap.rs ≡ x.snap.rs → x.phase ≡ Reply k a r.by fc → ReadBack d i y r

-- where a reply that is held comes from
pub data ReplyBack (here : Here) (input : Input) (d : Doing) (i : ℕ) (y : Own) (k : KeyId) (a : Value) (by : Option TxId) (fc : ℕ) : Type 0 where
  pb_old : (x : Own) → Owns d.view i x → y.snap.rs ≡ x.snap.rs → x.phase ≡ Reply k a by fc → ReplyBack here input d i y k a by fc
  pb_came : (x : Own) (from : NodeId) (tx : TxId) (ts : Ts) → own_named here tx d ≡ Some x → i ≡ tx.seq - 1 → Comes here input from (ReadReply tx k a by ts) → ts.0 ≡ fc → y.snap.rs ≡ x.snap.rs
      → ReplyBack here input d i y k a by fc

-- ---- finishing an operation

pub finish-snap : (op : Op) (a : Value) (x : Own) → (finish op a x).snap ≡ x.snap
finish-snap (Get k) a x = refl
finish-snap (Put k n) a x = refl
finish-snap (Puts k t) a x = refl
finish-snap (Add k n) a x = refl
finish-snap (Del k) a x = refl
finish-snap (Need k n) a x = if_elim (λ (z : Own). z.snap ≡ x.snap) (is_below a n) (record x { phase = Closing true }) (record x { next = x.next + 1; phase = Active }) (λ e. refl) (λ e. refl)
finish-snap Stop a x = refl

pub finish_next-snap : (o : Option Op) (a : Value) (x : Own) → (finish_next o a x).snap ≡ x.snap
finish_next-snap None a x = refl
finish_next-snap (Some op) a x = finish-snap op a x

finish_next-reply : (o : Option Op) (b : Value) (x : Own) (k : KeyId) (a : Value) (by : Option TxId) (fc : ℕ) → (finish_next o b x).phase ≡ Reply k a by fc → x.phase ≡ Reply k a by fc
finish_next-reply None b x k a by fc e = e
finish_next-reply (Some op) b x k a by fc e = finish_reply op b x k a by fc e

module _ (here : Here) (input : Input) where
  same_back : (d : Doing) (i : ℕ) (x y : Own) (r : ReadDone) → Owns d.view i x → y.reads ≡ x.reads → y.snap.rs ≡ x.snap.rs → In r y.reads → ReadBack d i y r
  same_back d i x y r own q s h = rb_old x own (subst (In r) q h) s

  noted_back : (d : Doing) (i : ℕ) (x y z : Own) (s r : ReadDone) → Owns d.view i x → y.reads ≡ x.reads ++ s ∷ [] → y.snap.rs ≡ x.snap.rs → In r y.reads → ReadBack d i y s → ReadBack d i y r
  noted_back d i x y z s r own q rs h new =
      elim (in_append x.reads (s ∷ []) r (subst (In r) q h)) [
        | inl j ↦ rb_old x own j rs
        | inr j ↦ (elim j [ inl e ↦ subst (ReadBack d i y) e new | inr e ↦ absurd e ])
      ]

  changed_back : (d : Doing) (i : ℕ) (x y : Own) (r : ReadDone) → Owns d.view i x → GoesOn d.view x y → Change here input d i x y → In r y.reads → ReadBack d i y r
  changed_back d i x y r own g (ch_resolve t e) h = same_back d i x y r own refl g.snap.rs h
  changed_back d i x y r own g (ch_known op k a p e n q) h = same_back d i x y r own (finish-looks op a x).reads g.snap.rs h
  changed_back d i x y r own g (ch_blind op a p e n) h = same_back d i x y r own (finish-looks op a x).reads g.snap.rs h
  changed_back d i x y r own g (ch_read k a by snap s m t) h =
      noted_back d i x y x (record { key = k; value = a; by = by }) r own (finish_next-looks (own_op here x) a (noted k a by snap x)).reads g.snap.rs h (new t)
    where
      final : (q : Version) → In q d.view.versions → q.kind ≡ Final → by ≡ Some q.tx → q.ts.0 ≤ x.snap.rs → ReadBack d i y (record { key = k; value = a; by = by })
      final q m' l e le = rb_final q m' l e (omega (arith, le, g.snap.rs))

      new : ReadsTo here d.view x.snap k a by snap → ReadBack d i y (record { key = k; value = a; by = by })
      new (to_final fc e) = elim (plain-is here d.view x.snap k a by fc snap e) [ inl n ↦ rb_none n | inr q ↦ final q.0 q.1 q.2 q.3 q.4 ]
      new (to_local u e f) =
          let q = local-is here d.view x.snap k a u snap f in
          rb_local q.0 q.1 q.2 (e ∙ ap Some (sym q.3)) g.is_open (λ o j. subst (λ (z : Snap). Names q.0.tx.seq z.deps) (sym (finish_next-snap (own_op here x) a (noted k a by snap x))) (q.4 o j))
  changed_back d i x y r own g (ch_wait k by s m e) h = same_back d i x y r own refl g.snap.rs h
  changed_back d i x y r own g (ch_away k n s m e) h = same_back d i x y r own refl g.snap.rs h
  changed_back d i x y r own g (ch_reply from tx l k a by fc c n p e s) h = same_back d i x y r own refl g.snap.rs h
  changed_back d i x y r own g (ch_take k a b by of fc gc snap e q) h =
      noted_back d i x y x (record { key = k; value = b; by = of }) r own (finish_next-looks (own_op here x) b (noted k b of snap x)).reads g.snap.rs h
      (rb_reply x k a fc own g.snap.rs (e ∙ ap (λ z. Reply k a z fc) (reply-is here x.snap a b by of fc gc snap q)))
  changed_back d i x y r own g (ch_close p e q) h = same_back d i x y r own refl g.snap.rs h
  changed_back d i x y r own g (ch_gate a) h = same_back d i x y r own refl g.snap.rs h

  changed_reply : (d : Doing) (i : ℕ) (x y : Own) (k : KeyId) (a : Value) (by : Option TxId) (fc : ℕ) → Owns d.view i x → GoesOn d.view x y → Change here input d i x y → y.phase ≡ Reply k a by fc
      → ReplyBack here input d i y k a by fc
  changed_reply d i x y k a by fc own g (ch_resolve t e) h = pb_old x own g.snap.rs h
  changed_reply d i x y k a by fc own g (ch_known op l b p e n q) h = pb_old x own g.snap.rs (finish_reply op b x k a by fc h)
  changed_reply d i x y k a by fc own g (ch_blind op b p e n) h = pb_old x own g.snap.rs (finish_reply op b x k a by fc h)
  changed_reply d i x y k a by fc own g (ch_read l b u snap s m t) h = pb_old x own g.snap.rs (finish_next-reply (own_op here x) b (noted l b u snap x) k a by fc h)
  changed_reply d i x y k a by fc own g (ch_wait l u s m e) h = absurd (cc h)
  changed_reply d i x y k a by fc own g (ch_away l n s m e) h = absurd (cc h)
  changed_reply d i x y k a by fc own g (ch_reply from tx l m b u ts c n p e s) h =
      let e1 : m ≡ k = cc h in
      let e2 : b ≡ a = cc h in
      let e3 : u ≡ by = cc h in
      let e4 : ts.0 ≡ fc = cc h in
      pb_came x from tx ts n p (subst (λ z. Comes here input from (ReadReply tx z a by ts)) e1 (subst (λ z. Comes here input from (ReadReply tx m z by ts)) e2 (subst (λ z. Comes here input from (ReadReply tx m b z ts)) e3 c))) e4 g.snap.rs
  changed_reply d i x y k a by fc own g (ch_take l b v u of gc hc snap e q) h = pb_old x own g.snap.rs (finish_next-reply (own_op here x) v (noted l v of snap x) k a by fc h)
  changed_reply d i x y k a by fc own g (ch_close p e q) h = absurd (cc h)
  changed_reply d i x y k a by fc own g (ch_gate b) h = absurd (cc h)

  set_back : (d : Doing) (n i : ℕ) (x z y : Own) (r : ReadDone) → Owns d.view n x → slice_get (slice_set d.view.own n z) i ≡ Some y → In r y.reads → (In r z.reads → ReadBack d n z r) → ReadBack d i y r
  set_back d n i x z y r is own h f =
      elim (got_set d.view.own n i z y own) [
        | inl s ↦ subst (λ m. ReadBack d m y r) (sym s.0) (subst (λ (u : Own). ReadBack d n u r) (sym s.1) (f (subst (λ (u : Own). In r u.reads) s.1 h)))
        | inr s ↦ rb_old y s.1 h refl
      ]

  set_reply : (d : Doing) (n i : ℕ) (x z y : Own) (k : KeyId) (a : Value) (by : Option TxId) (fc : ℕ) → Owns d.view n x → slice_get (slice_set d.view.own n z) i ≡ Some y → y.phase ≡ Reply k a by fc
      → (z.phase ≡ Reply k a by fc → ReplyBack here input d n z k a by fc) → ReplyBack here input d i y k a by fc
  set_reply d n i x z y k a by fc is own h f =
      elim (got_set d.view.own n i z y own) [
        | inl s ↦ subst (λ m. ReplyBack here input d m y k a by fc) (sym s.0) (subst (λ (u : Own). ReplyBack here input d n u k a by fc) (sym s.1) (f (ap (λ (u : Own). u.phase) (sym s.1) ∙ h)))
        | inr s ↦ pb_old y s.1 refl h
      ]

  module _ (w : Where) where
    pub reads-act : (d e : Doing) → Act here input w d e → (i : ℕ) (y : Own) (r : ReadDone) → Owns e.view i y → In r y.reads → ReadBack d i y r
    unfolding begun marked aborted committed closed certified asked acked requested accepted taken refused waits replied commit_came abort_came
    reads-act d e (act_begin place rs d' g l) i y r own h =
        elim (got_push d'.view.own i (fresh place rs) y own) [ inl s ↦ absurd (subst (λ (u : Own). In r u.reads) s.1 h) | inr s ↦ rb_old y s h refl ]
    reads-act d e (act_put n x z d' o g) i y r own h = set_back d' n i x z y r o.0 own h (changed_back d' n x z r o.0 g.goes g.change)
    reads-act d e (act_request n k to x d' o g) i y r own h = set_back d' n i x (in_phase (Remote k) x) y r o.0 own h (changed_back d' n x (in_phase (Remote k) x) r o.0 g.goes g.change)
    reads-act d e (act_certify n lc snap x d' o f l c) i y r own h =
        set_back d' n i x (record x { snap = snap; parts = participants here.scene here.node x.writes; phase = Local lc }) y r o.0 own h
        (λ j. rb_old x o.0 j (cert_rs here d'.view x.snap snap x.writes lc c))
    reads-act d e (act_ask n lc p x d' o f l g) i y r own h = set_back d' n i x (record x { parts = with_asked p x.parts; phase = Global lc }) y r o.0 own h (λ j. rb_old x o.0 j refl)
    reads-act d e (act_ack n lc from tx p ts parts x d' o c q g) i y r own h = set_back d' n i x (record x { parts = parts }) y r o.0 own h (λ j. rb_old x o.0 j refl)
    reads-act d e (act_abort n cause x d' o f g) i y r own h = set_back d' n i x (decided_as (Aborted (lc_of x.phase) cause) x) y r o.0 own h (λ j. rb_old x o.0 j refl)
    reads-act d e (act_commit n lc fc x d' o l none le f g) i y r own h = set_back d' n i x (decided_as (Committed (Some lc) (Some fc)) x) y r o.0 own h (λ j. rb_old x o.0 j refl)
    reads-act d e (act_close n x d' o p none) i y r own h = set_back d' n i x (decided_as (Committed None None) x) y r o.0 own h (λ j. rb_old x o.0 j refl)
    reads-act d e (act_mark k t d' rd) i y r own h = rb_old y own h refl
    reads-act d e (act_accept a ts d' g m) i y r own h = rb_old y own h refl
    reads-act d e (act_refuse a u k d' g m) i y r own h = rb_old y own h refl
    reads-act d e (act_take from a d' c l) i y r own h = rb_old y own h refl
    reads-act d e (act_wait s d' g) i y r own h = rb_old y own h refl
    reads-act d e (act_unwait kept more s d' g) i y r own h = rb_old y own h refl
    reads-act d e (act_reply tx k rs v u fc d' g) i y r own h = rb_old y own h refl
    reads-act d e (act_commit_came from tx p fc ms d' c g) i y r own h = rb_old y own h refl
    reads-act d e (act_abort_came from tx p d' c g) i y r own h = rb_old y own h refl

    pub reply-act : (d e : Doing) → Act here input w d e → (i : ℕ) (y : Own) (k : KeyId) (a : Value) (by : Option TxId) (fc : ℕ) → Owns e.view i y → y.phase ≡ Reply k a by fc → ReplyBack here input d i y k a by fc
    unfolding begun marked aborted committed closed certified asked acked requested accepted taken refused waits replied commit_came abort_came
    reply-act d e (act_begin place rs d' g l) i y k a by fc own h =
        elim (got_push d'.view.own i (fresh place rs) y own) [ inl s ↦ absurd (let q : Active ≡ Reply k a by fc = ap (λ (u : Own). u.phase) (sym s.1) ∙ h in cc q) | inr s ↦ pb_old y s refl h ]
    reply-act d e (act_put n x z d' o g) i y k a by fc own h = set_reply d' n i x z y k a by fc o.0 own h (changed_reply d' n x z k a by fc o.0 g.goes g.change)
    reply-act d e (act_request n l to x d' o g) i y k a by fc own h = set_reply d' n i x (in_phase (Remote l) x) y k a by fc o.0 own h (λ q. absurd (cc q))
    reply-act d e (act_certify n lc snap x d' o f l c) i y k a by fc own h =
        set_reply d' n i x (record x { snap = snap; parts = participants here.scene here.node x.writes; phase = Local lc }) y k a by fc o.0 own h (λ q. absurd (cc q))
    reply-act d e (act_ask n lc p x d' o f l g) i y k a by fc own h = set_reply d' n i x (record x { parts = with_asked p x.parts; phase = Global lc }) y k a by fc o.0 own h (λ q. absurd (cc q))
    reply-act d e (act_ack n lc from tx p ts parts x d' o c q g) i y k a by fc own h = set_reply d' n i x (record x { parts = parts }) y k a by fc o.0 own h (λ s. pb_old x o.0 refl s)
    reply-act d e (act_abort n cause x d' o f g) i y k a by fc own h = set_reply d' n i x (decided_as (Aborted (lc_of x.phase) cause) x) y k a by fc o.0 own h (λ q. absurd (cc q))
    reply-act d e (act_commit n lc gc x d' o l none le f g) i y k a by fc own h = set_reply d' n i x (decided_as (Committed (Some lc) (Some gc)) x) y k a by fc o.0 own h (λ q. absurd (cc q))
    reply-act d e (act_close n x d' o p none) i y k a by fc own h = set_reply d' n i x (decided_as (Committed None None) x) y k a by fc o.0 own h (λ q. absurd (cc q))
    reply-act d e (act_mark l t d' rd) i y k a by fc own h = pb_old y own refl h
    reply-act d e (act_accept b ts d' g m) i y k a by fc own h = pb_old y own refl h
    reply-act d e (act_refuse b u l d' g m) i y k a by fc own h = pb_old y own refl h
    reply-act d e (act_take from b d' c l) i y k a by fc own h = pb_old y own refl h
    reply-act d e (act_wait s d' g) i y k a by fc own h = pb_old y own refl h
    reply-act d e (act_unwait kept more s d' g) i y k a by fc own h = pb_old y own refl h
    reply-act d e (act_reply tx l rs v u gc d' g) i y k a by fc own h = pb_old y own refl h
    reply-act d e (act_commit_came from tx p gc ms d' c g) i y k a by fc own h = pb_old y own refl h
    reply-act d e (act_abort_came from tx p d' c g) i y k a by fc own h = pb_old y own refl h
