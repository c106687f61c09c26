-- Every read of a run is guarded, and so is every reply.
use Rattle.dependency_set.specs.Snapshots.{Snap}
use Rattle.si_laws.proofs.Guards.ReadGuards.{LocalsClear}
use Rattle.si_laws.proofs.Guards.GuardGrounds.{Grounds, NodeGround, grounds_opening, grounds_step}
use Rattle.si_laws.proofs.Guards.GuardOpen.{open_up}
use Rattle.si_laws.proofs.Guards.GuardSent.{sent_up}
use Rattle.si_laws.proofs.Guards.GuardsKept.{FinalGuard, ReadGuard, committed_up, fg_none, fg_some, final_guard_up, rg_final, rg_gone, rg_open, rg_sent, there_d, there_e, written_up}
use Rattle.si_laws.proofs.Marks.HomeMarks.{HomeMarked}
use Rattle.si_laws.proofs.Stages.LinkedStates.{one_of}
use Rattle.str_model.proofs.ViewFacts.MarksRise.{marked_now}
use Rattle.si_laws.proofs.Guards.VersionOrigins.{HasWritten}
use Rattle.str_model.proofs.OwnFacts.LocalOwners.{LocalOwner}
use Rattle.si_laws.proofs.Changes.ReadLetters.{ReadLetter, is_other, letters_act, rl_commit, rl_other, rl_reply, rl_request}
use Rattle.si_laws.proofs.Guards.ReadOrigins.{ReadOrigin, read_origin, ro_old, ro_read, ro_take}
use Rattle.si_laws.proofs.Sources.ReadSources.{ReplyBack, pb_came, pb_old, reply-act}
use Rattle.si_laws.proofs.Marks.ReplyMarks.{HasRs, has_rs_stays}
use Rattle.si_laws.proofs.Guards.ReadsSaw.{ReadSees, ServeSees, clear_none, clear_seen, local-sees, locals_seen, plain-sees, sees_final, sees_local, sees_none, serve-sees, serves_final, serves_none}
use Rattle.str_model.proofs.Changes.PairWords.{decided-step}
use Rattle.str_model.proofs.Principle.SingleChanges.{Act, ComesToRead, IsAsked, ReadsTo, Where, asked_before, asked_now, to_final, to_local}
use Rattle.str_model.proofs.Principle.Everywhere.{IsSeen, Sent, Stage, at_place, during, everywhere, stage_of}
use Rattle.str_model.proofs.Changes.OwnChanges.{own_step}
use Rattle.std.proofs.Common.{Bool, List, None, Option, Some, ap, arith, eqb-true, false, if◌then◌else◌, inl, inr, length, ltb-true, refl, replicate, slice_get, slice_set, subst, subst₂, suc, sym, true, ℕ, ◌&&◌, ◌++◌, ◌+◌, ◌<◌, ◌∙◌, ◌≡◌, ◌≢◌, ◌≤◌, ◌⊎◌}
use Rattle.str_base.specs.Versions.{mark_of, same_node, stamp}
use Rattle.str_base.specs.declared.names.KeyId.{KeyId}
use Rattle.str_base.specs.declared.names.Kind.TheVariants.{Final}
use Rattle.str_base.specs.declared.names.NodeId.{NodeId}
use Rattle.str_base.specs.declared.names.PartId.{PartId}
use Rattle.str_base.specs.declared.names.Ts.{Ts}
use Rattle.str_base.specs.declared.names.TxId.{TxId}
use Rattle.str_base.specs.declared.names.Value.{Value}
use Rattle.str_base.specs.declared.names.Version.{Version}
use Rattle.str_model.specs.Owned.{Owns}
use Rattle.str_model.specs.Returns.{own_named}
use Rattle.str_model.specs.Runs.{opening, opening_view, run}
use Rattle.str_model.specs.Strange.{has_key, has_named, has_node}
use Rattle.str_model.specs.Strange
use Rattle.str_model.specs.Views.{Doing, Own, Reply, View, is_decided, name_of}
use Rattle.str_model.specs.declared.messages.Body.TheVariants.{ReadReply, ReadReq}
use Rattle.str_model.specs.declared.messages.Input.TheVariants.{Deliver}
use Rattle.str_model.specs.declared.messages.Input.{Input}
use Rattle.str_model.specs.declared.messages.Message.{Message}
use Rattle.str_model.specs.declared.names.ReadDone.{ReadDone}
use Rattle.str_scene.specs.SceneLimits.{IsScene}
use Rattle.str_scene.specs.Scenes.{Scene, hosts, hosts_key, nth, part_of}
use Rattle.str_scene.specs.declared.names.Event.{Event}
use Rattle.str_base.proofs.Tests.{and_true_left, and_true_right}
use Rattle.str_base.proofs.Lists.{get_set_other, got_replicate, got_set}
use Rattle.std.proofs.lemmas.Bool.{cases_eq}
use Rattle.str_base.proofs.Members.{in_append, in_at, in_left, in_right}
use Rattle.str_base.specs.Members.{In}

-- replies, held replies and reads are guarded
pub record Guarded (scene : Scene) (s : Stage) : Type 0 where
  pub grounds_ : Grounds scene s
  pub replies : (m : Message) → In m s.sent → (tx : TxId) (k : KeyId) (a : Value) (by : Option TxId) (fc : Ts) → m.body ≡ ReadReply tx k a by fc → (rs : ℕ) × HasRs scene s tx rs × FinalGuard scene s rs k a by
  pub phases : (n : ℕ) (v : View) (i : ℕ) (x : Own) (k : KeyId) (a : Value) (by : Option TxId) (fc : ℕ) → slice_get s.nodes n ≡ Some v → Owns v i x → x.phase ≡ Reply k a by fc → FinalGuard scene s x.snap.rs k a by
  pub reads : (n : ℕ) (v : View) (i : ℕ) (x : Own) (r : ReadDone) → slice_get s.nodes n ≡ Some v → Owns v i x → In r x.reads → ReadGuard scene s n x.snap.rs r

module _ (scene : Scene) (ok : IsScene scene) (s : Stage) (i : ℕ) (v : View) (input : Input) (w : Where) (d e : Doing) (is : slice_get s.nodes i ≡ Some v) (seen : IsSeen s input)
    (act : Act (at_place scene i) input w d e) (g : Guarded scene (during s i d)) (he : Grounds scene (during s i e)) where
  abbrev h : Grounds scene (during s i d)
  h = g.grounds_

  at_d : slice_get (slice_set s.nodes i d.view) i ≡ Some d.view
  at_d = there_d scene s i v input w d e is seen act h

  up : (rs : ℕ) (k : KeyId) (a : Value) (by : Option TxId) → FinalGuard scene (during s i d) rs k a by → FinalGuard scene (during s i e) rs k a by
  up rs k a by f = final_guard_up scene s i v input w d e is seen act h rs k a by f

  here : NodeGround (at_place scene i) d.view
  here = h.nodes i d.view at_d

  -- a Final version's key is one of the node
  hosted_final : (p : Version) (k : KeyId) → In p d.view.versions → p.kind ≡ Final → p.key ≡ k → hosts scene (record { 0 = i + 1 }) (part_of scene k) ≡ true
  hosted_final p k j fin key =
      subst (λ (b : PartId). hosts scene (record { 0 = i + 1 }) b ≡ true) (h.governed_.masters.parts i d.view at_d p j ∙ ap (part_of scene) key) (here.finals p j fin)

  -- what was seen is written
  seen_written : (p : Version) (k : KeyId) (a : Value) → In p d.view.versions → p.key ≡ k → a ≡ p.value → HasWritten scene (during s i d) p.tx k a
  seen_written p k a j key val = subst₂ (λ (y : KeyId) (z : Value). HasWritten scene (during s i d) p.tx y z) key (sym val) (h.written i d.view p at_d j)

  -- ---- replies

  given : (m : Message) → input ≡ Deliver m → In m (s.sent ++ d.sent)
  given m q = let t : Sent s m = subst (IsSeen s) q seen in in_left s.sent d.sent m (in_at s.sent t.0 m t.1)

  come_mark : (from : NodeId) (tx : TxId) (k : KeyId) (t : Ts) → ComesToRead (at_place scene i) input d from tx k t → HasRs scene (during s i d) tx t.0 × (t.0 ≤ mark_of d.view.marks k) × (hosts_key (at_place scene i) k ≡ true)
  come_mark from tx k t c =
      let named : has_named (at_place scene i) c.0.body ≡ true = and_true_right (has_node (at_place scene i) c.0.sender) (has_named (at_place scene i) c.0.body)
      (and_true_right (same_node c.0.receiver (at_place scene i).node) (has_node (at_place scene i) c.0.sender && has_named (at_place scene i) c.0.body) c.4) in
      let named' : has_named (at_place scene i) (ReadReq tx k t) ≡ true = ap (has_named (at_place scene i)) (sym c.3) ∙ named in
      let key : has_key (at_place scene i) k ≡ true = and_true_left (has_key (at_place scene i) k) (Strange.below_limit t) (and_true_right (has_node (at_place scene i) tx.node) (has_key (at_place scene i) k && Strange.below_limit t) named') in
      let less : k.0 < length scene.keys.names = ltb-true k.0 (length scene.keys.names) key in
      let len = h.far.marks i d.view at_d in
      (h.far.requests c.0 (given c.0 c.1) tx k t c.3, marked_now d.view k t.0 (omega (arith, less, len)) c.5, c.6)

  asked_mark : (tx : TxId) (k : KeyId) (rs : ℕ) → IsAsked (at_place scene i) input d tx k rs → HasRs scene (during s i d) tx rs × (rs ≤ mark_of d.view.marks k) × (hosts_key (at_place scene i) k ≡ true)
  asked_mark tx k rs (asked_now from t q c) =
      subst (λ (r : ℕ). HasRs scene (during s i d) tx r × (r ≤ mark_of d.view.marks k) × (hosts_key (at_place scene i) k ≡ true)) q (come_mark from tx k t c)
  asked_mark tx k rs (asked_before t q j) =
      let f = h.far.waiting i d.view at_d tx k t j in
      subst (λ (r : ℕ). HasRs scene (during s i d) tx r × (r ≤ mark_of d.view.marks k) × (hosts_key (at_place scene i) k ≡ true)) q (f.0, f.1, here.waiters tx k t j)

  serve_guard : (k : KeyId) (rs : ℕ) (a : Value) (by : Option TxId) (fc : ℕ) → rs ≤ mark_of d.view.marks k → hosts_key (at_place scene i) k ≡ true → ServeSees d.view.versions k rs a by fc
      → FinalGuard scene (during s i d) rs k a by
  serve_guard k rs a by fc mark hosted (serves_none b c f) = fg_none b c (record { n = i; view = d.view; there = at_d; hosted = hosted; clear = clear_none d.view k rs mark f })
  serve_guard k rs a by fc mark hosted (serves_final p sp fin b c t) =
      fg_some p.tx p.ts.0 b (h.reported.finals i d.view p at_d sp.is_in fin) (seen_written p k a sp.is_in sp.key c)
      (record { n = i; view = d.view; there = at_d; hosted = hosted; clear = clear_seen d.view k rs p mark sp })

  reply_e : (m : Message) → In m (s.sent ++ e.sent) → (tx : TxId) (k : KeyId) (a : Value) (by : Option TxId) (fc : Ts) → m.body ≡ ReadReply tx k a by fc
      → (rs : ℕ) × HasRs scene (during s i e) tx rs × FinalGuard scene (during s i e) rs k a by
  reply_e m j tx k a by fc body = elim (in_append s.sent e.sent m j) [
    | inl z ↦ old (in_left s.sent d.sent m z)
    | inr z ↦ (elim (letters_act (at_place scene i) input w d e act m z) [ inl y ↦ old (in_right s.sent d.sent m y) | inr y ↦ fresh_ y ])
  ]
    where
      old : In m (s.sent ++ d.sent) → (rs : ℕ) × HasRs scene (during s i e) tx rs × FinalGuard scene (during s i e) rs k a by
      old z = let r = g.replies m z tx k a by fc body in (r.0, has_rs_stays scene s i v input w d e is seen act tx r.0 r.1, up r.0 k a by r.2)

      fresh_ : ReadLetter (at_place scene i) input d e m → (rs : ℕ) × HasRs scene (during s i e) tx rs × FinalGuard scene (during s i e) rs k a by
      fresh_ (rl_request n l x own to b) = absurd (cc (b, body))
      fresh_ (rl_commit n lc f x p own o r t b) = absurd (cc (b, body))
      fresh_ (rl_other b) = absurd (cc (ap is_other body, b))
      fresh_ (rl_reply t l rs c u f sv sn b q) =
          let both : ReadReply t l c u (stamp f) ≡ ReadReply tx k a by fc = sym b ∙ body in
          let e1 : t ≡ tx = cc both in
          let e2 : l ≡ k = cc both in
          let e3 : c ≡ a = cc both in
          let e4 : u ≡ by = cc both in
          let m' = asked_mark t l rs sv.was_asked in
          let fg = up rs l c u (serve_guard l rs c u f m'.1 m'.2 (serve-sees d.view.versions l rs c u f here.timed sv.gives)) in
          let fg1 : FinalGuard scene (during s i e) rs k a u = subst₂ (λ (y : KeyId) (z : Value). FinalGuard scene (during s i e) rs y z u) e2 e3 fg in
          (rs, subst (λ (y : TxId). HasRs scene (during s i e) y rs) e1 (has_rs_stays scene s i v input w d e is seen act t rs m'.0), subst (λ (y : Option TxId). FinalGuard scene (during s i e) rs k a y) e4 fg1)

  -- the transaction that a reply names has the timestamp of its request
  named_rs : (tx : TxId) (x : Own) (rs : ℕ) → own_named (at_place scene i) tx d ≡ Some x → HasRs scene (during s i d) tx rs → x.snap.rs ≡ rs
  named_rs tx x rs q r =
      let p = named tx x q in
      let n : r.n ≡ i = omega (arith, p.0, ap (λ (z : TxId). z.node.0) r.name) in
      let view : r.view ≡ d.view = one_of r.view d.view (slice_get (slice_set s.nodes i d.view) i) (subst (λ (k : ℕ). slice_get (slice_set s.nodes i d.view) k ≡ Some r.view) n r.there) at_d in
      let own : nth d.view.own tx.seq ≡ Some r.x = ap (λ k. nth d.view.own k) (ap (λ (z : TxId). z.seq) r.name ∙ one r.i) ∙ subst (λ (z : View). slice_get z.own r.i ≡ Some r.x) view r.own in
      let same : x ≡ r.x = one_of x r.x (nth d.view.own tx.seq) p.1 own in
      ap (λ (z : Own). z.snap.rs) same ∙ r.rs_is
    where
      one : (k : ℕ) → k + 1 ≡ suc k
      one k = omega arith

      named : (tx : TxId) (x : Own) → own_named (at_place scene i) tx d ≡ Some x → (tx.node.0 ≡ i + 1) × (nth d.view.own tx.seq ≡ Some x)
      named tx x q = by_node (same_node tx.node (record { 0 = i + 1 })) refl q
        where
          by_node : (b : Bool) → same_node tx.node (record { 0 = i + 1 }) ≡ b → (if b then nth d.view.own tx.seq else None) ≡ Some x → (tx.node.0 ≡ i + 1) × (nth d.view.own tx.seq ≡ Some x)
          by_node true e f = (eqb-true tx.node.0 (i + 1) e, f)
          by_node false e f = absurd (cc f)

  phase_e : (j : ℕ) (y : Own) (k : KeyId) (a : Value) (by : Option TxId) (fc : ℕ) → ReplyBack (at_place scene i) input d j y k a by fc → FinalGuard scene (during s i e) y.snap.rs k a by
  phase_e j y k a by fc (pb_old x own rs p) = subst (λ (z : ℕ). FinalGuard scene (during s i e) z k a by) (sym rs) (up x.snap.rs k a by (g.phases i d.view j x k a by fc at_d own p))
  phase_e j y k a by fc (pb_came x from tx ts nm p c q rs) =
      let r = g.replies c.0 (given c.0 c.1) tx k a by ts c.3 in
      let t : x.snap.rs ≡ r.0 = named_rs tx x r.0 nm r.1 in subst (λ (z : ℕ). FinalGuard scene (during s i e) z k a by) (sym (rs ∙ t)) (up r.0 k a by r.2)

  -- ---- reads

  home_e : HomeMarked (at_place scene i) e.view
  home_e = (he.nodes i e.view (there_e scene s i v input w d e is seen act h)).home

  -- an old guard after the change
  read_up : (n rs : ℕ) (r : ReadDone) → (n ≡ i → (r.key.0 < length scene.keys.names) × (rs ≤ mark_of d.view.marks r.key)) → ReadGuard scene (during s i d) n rs r → ReadGuard scene (during s i e) n rs r
  read_up n rs r mark (rg_final f) = rg_final (up rs r.key r.value r.by f)
  read_up n rs r mark (rg_sent u f by c wr m) =
      rg_sent u f by (committed_up scene s i v input w d e is seen act h u f c) (written_up scene s i v input w d e is seen act h u r.key r.value wr)
      (sent_up scene s i v input w d e is seen act h u r.key r.value rs f c wr m)
  read_up n rs r mark (rg_open u by wr o) = by_place (cases_eq n i)
    where
      by_place : (n ≡ i) ⊎ (n ≢ i) → ReadGuard scene (during s i e) n rs r
      by_place (inl p) =
          let m = mark p in
          let view : o.view ≡ d.view = one_of o.view d.view (slice_get (slice_set s.nodes i d.view) i) (subst (λ (k : ℕ). slice_get (slice_set s.nodes i d.view) k ≡ Some o.view) p o.there) at_d in
          subst (λ (k : ℕ). ReadGuard scene (during s i e) k rs r) (sym p)
          (open_up scene ok s i v input w d e is seen act h he u r.key r.value rs o.j o.lc o.x (subst (λ (z : View). Owns z o.j o.x) view o.owns)
          (o.name ∙ ap (λ (k : ℕ). name_of (at_place scene k) o.j) p) o.open_ o.is_lc (subst (λ (z : View). LocalsClear z r.key rs u o.lc) view o.clear) wr m.0 m.1 r by refl refl)
      by_place (inr p) =
          rg_open u by (written_up scene s i v input w d e is seen act h u r.key r.value wr)
          (record {
            j = o.j;
            x = o.x;
            lc = o.lc;
            view = o.view;
            there = get_set_other s.nodes i n e.view p ∙ (sym (get_set_other s.nodes i n d.view p) ∙ o.there);
            owns = o.owns;
            name = o.name;
            open_ = o.open_;
            is_lc = o.is_lc;
            clear = o.clear;
          })
  read_up n rs r mark (rg_gone u by o) = by_place (cases_eq n i)
    where
      by_place : (n ≡ i) ⊎ (n ≢ i) → ReadGuard scene (during s i e) n rs r
      by_place (inl p) =
          let view : o.view ≡ d.view = one_of o.view d.view (slice_get (slice_set s.nodes i d.view) i) (subst (λ (k : ℕ). slice_get (slice_set s.nodes i d.view) k ≡ Some o.view) p o.there) at_d in
          let own : Owns e.view o.j o.x = decided-step o.j o.x d.view e.view (ap is_decided o.gone.2) (own_step (at_place scene i) input w d e act) (subst (λ (z : View). Owns z o.j o.x) view o.owns) in
          rg_gone u by (record { j = o.j; x = o.x; view = e.view; there = subst (λ (k : ℕ). slice_get (slice_set s.nodes i e.view) k ≡ Some e.view) (sym p) (there_e scene s i v input w d e is seen act h); owns = own; name = o.name; gone = o.gone })
      by_place (inr p) =
          rg_gone u by (record { j = o.j; x = o.x; view = o.view; there = get_set_other s.nodes i n e.view p ∙ (sym (get_set_other s.nodes i n d.view p) ∙ o.there); owns = o.owns; name = o.name; gone = o.gone })

  -- a new read
  new_read : (rs : ℕ) (r : ReadDone) → r.key.0 < length scene.keys.names → rs ≤ mark_of d.view.marks r.key → ReadSees (at_place scene i) d.view.versions r.key rs r.value r.by → ReadGuard scene (during s i e) i rs r
  new_read rs r within mark (sees_none b c hosted f) =
      rg_final (up rs r.key r.value r.by (fg_none b c (record { n = i; view = d.view; there = at_d; hosted = hosted; clear = clear_none d.view r.key rs mark f })))
  new_read rs r within mark (sees_final p sp fin b c) =
      rg_final (up rs r.key r.value r.by (fg_some p.tx p.ts.0 b (h.reported.finals i d.view p at_d sp.is_in fin) (seen_written p r.key r.value sp.is_in sp.key c)
      (record { n = i; view = d.view; there = at_d; hosted = hosted_final p r.key sp.is_in fin sp.key; clear = clear_seen d.view r.key rs p mark sp })))
  new_read rs r within mark (sees_local p sp loc b c) =
      let o : LocalOwner (at_place scene i) d.view p = (h.governed_.stand i d.view at_d).base.locals p sp.is_in loc in
      let node = o.node in
      let seq = o.seq in
      open_up scene ok s i v input w d e is seen act h he p.tx r.key r.value rs o.place p.ts.0 o.owner o.owns (λ t. record { node = record { 0 = node t }; seq = seq t }) o.open_ o.lc
      (locals_seen d.view r.key rs p sp) (seen_written p r.key r.value sp.is_in sp.key c) within mark r b refl refl

  sees_turn : (snap new : Snap) (k : KeyId) (a : Value) (by : Option TxId) → ReadsTo (at_place scene i) d.view snap k a by new → ReadSees (at_place scene i) d.view.versions k snap.rs a by
  sees_turn snap new k a by (to_final fc q) = plain-sees (at_place scene i) d.view snap k a by fc new here.timed q
  sees_turn snap new k a by (to_local u b q) = subst (λ (z : Option TxId). ReadSees (at_place scene i) d.view.versions k snap.rs a z) (sym b) (local-sees (at_place scene i) d.view snap k a u new here.timed q)

  read_e : (j : ℕ) (y : Own) (r : ReadDone) → Owns e.view j y → In r y.reads → ReadOrigin (at_place scene i) d j y r → ReadGuard scene (during s i e) i y.snap.rs r
  read_e j y r own m (ro_old x o b rs) =
      subst (λ (z : ℕ). ReadGuard scene (during s i e) i z r) (sym rs) (read_up i x.snap.rs r (λ q. here.home.each j x r.key o (inl (r, b, refl))) (g.reads i d.view j x r at_d o b))
  read_e j y r own m (ro_take x fc o rs p) = rg_final (subst (λ (z : ℕ). FinalGuard scene (during s i e) z r.key r.value r.by) (sym rs) (up x.snap.rs r.key r.value r.by (g.phases i d.view j x r.key r.value r.by fc at_d o p)))
  read_e j y r own m (ro_read x new o rs jm t) =
      let within : r.key.0 < length scene.keys.names = (home_e.each j y r.key own (inl (r, m, refl))).0 in
      let len = here.home.same_length in
      let mark : x.snap.rs ≤ mark_of d.view.marks r.key = marked_now d.view r.key x.snap.rs (omega (arith, within, len)) jm in
      subst (λ (z : ℕ). ReadGuard scene (during s i e) i z r) (sym rs) (new_read x.snap.rs r within mark (sees_turn x.snap new r.key r.value r.by t))

  pub guarded_step : Guarded scene (during s i e)
  guarded_step = record {
    grounds_ = he;
    replies = λ m j tx k a by fc body. reply_e m j tx k a by fc body;
    phases = λ n u j x k a by fc there own p. elim (got_set s.nodes i n e.view u there) [
      | inl q ↦ phase_e j x k a by fc (reply-act (at_place scene i) input w d e act j x k a by fc (subst (λ (z : View). Owns z j x) q.1 own) p)
      | inr q ↦ up x.snap.rs k a by (g.phases n u j x k a by fc (get_set_other s.nodes i n d.view q.0 ∙ q.1) own p)
    ];
    reads = λ n u j x r there own m. elim (got_set s.nodes i n e.view u there) [
      | inl q ↦ (let own' : Owns e.view j x = subst (λ (z : View). Owns z j x) q.1 own in
          subst (λ (z : ℕ). ReadGuard scene (during s i e) z x.snap.rs r) (sym q.0) (read_e j x r own' m (read_origin (at_place scene i) input w d e act j x r own' m)))
      | inr q ↦ read_up n x.snap.rs r (λ z. absurd (q.0 z)) (g.reads n u j x r (get_set_other s.nodes i n d.view q.0 ∙ q.1) own m)
    ];
  }

module _ (scene : Scene) (ok : IsScene scene) where
  guarded_keeps : (s : Stage) (i : ℕ) (v : View) (input : Input) (w : Where) (d e : Doing) → slice_get s.nodes i ≡ Some v → IsSeen s input → Guarded scene s → Act (at_place scene i) input w d e
      → Guarded scene (during s i d) → Guarded scene (during s i e)
  guarded_keeps s i v input w d e is seen hs act g =
      guarded_step scene ok s i v input w d e is seen act g (grounds_step scene ok s i v input w d e is seen hs.grounds_ act g.grounds_)

  pub guarded_opening : Guarded scene (stage_of (opening scene))
  guarded_opening = record {
    grounds_ = grounds_opening scene ok;
    replies = λ m j tx k a by fc body. absurd j;
    phases = λ n v i x k a by fc g own p. absurd (none n v i x g own);
    reads = λ n v i x r g own m. absurd (none n v i x g own);
  }
    where
      none : (n : ℕ) (v : View) (i : ℕ) (x : Own) → slice_get (replicate scene.nodes (opening_view scene)) n ≡ Some v → Owns v i x → ⊥
      none n v i x g own = let o : Owns (opening_view scene) i x = subst (λ (y : View). Owns y i x) (got_replicate scene.nodes n (opening_view scene) v g) own in cc o

  pub guarded : (es : List Event) → Guarded scene (stage_of (run scene es))
  guarded es = everywhere scene (Guarded scene) guarded_keeps guarded_opening es
