-- The guard of a read from an own undecided transaction: it stays, or the writer aborts, or it commits and the guard becomes one of what is final.
use Rattle.si_laws.proofs.Order.CertifiedVersions.{committed_stands}
use Rattle.si_laws.proofs.Dependencies.AroundLocal.{Around, Stand, final_below, final_late, local_above, local_below}
use Rattle.si_laws.proofs.Guards.ReadGuards.{Clear, LocalsClear, Moved, locals_stay, m_local, m_new, m_old, m_pre}
use Rattle.si_laws.proofs.Guards.GuardGrounds.{Grounds, committed_write, committer}
use Rattle.si_laws.proofs.Guards.GuardsKept.{FinalGuard, GoneWriter, MarkSent, OpenWriter, ReadGuard, committed_up, fg_some, open_not, rg_final, rg_gone, rg_open, rg_sent, there_d, there_e, written_up}
use Rattle.si_laws.proofs.Stages.LinkedStates.{one_certified}
use Rattle.str_model.proofs.ViewFacts.MarksRise.{Rises}
use Rattle.si_laws.proofs.Guards.VersionOrigins.{HasWritten}
use Rattle.si_laws.proofs.Order.WritersApart.{master_of}
use Rattle.str_model.proofs.OwnFacts.LocalOwners.{same_own}
use Rattle.si_laws.proofs.Changes.ReadLetters.{ReadLetter, is_other, letters_act, marks_act, rl_commit, rl_other, rl_reply, rl_request}
use Rattle.si_laws.proofs.Sources.FinalsReported.{CommittedIn}
use Rattle.si_laws.proofs.Guards.DecidedAbove.{all_moved}
use Rattle.str_model.proofs.Changes.OwnTurns.{OwnChange, o_acks, o_aborts, o_asks, o_begins, o_certifies, o_closes, o_commits, o_puts, o_rests, own_change}
use Rattle.str_model.proofs.Principle.SingleChanges.{Act, Where}
use Rattle.str_model.proofs.Principle.Everywhere.{IsSeen, Stage, at_place, during}
use Rattle.str_model.proofs.Principle.OwnPaths.{gate_commits}
use Rattle.si_laws.specs.Standing.{IsAborted}
use Rattle.std.proofs.Common.{Bool, List, None, Option, Some, [], add-sub_cancel, ap, arith, eq-eqb, false, inl, inr, length, map, refl, slice_get, slice_set, subst, subst₂, sym, true, ℕ, ◌++◌, ◌+◌, ◌<◌, ◌∙◌, ◌∷◌, ◌≡◌, ◌≢◌, ◌≤◌, ◌⊎◌}
use Rattle.str_base.specs.Versions.{mark_of, stamp}
use Rattle.str_base.specs.declared.names.KeyId.{KeyId}
use Rattle.str_base.specs.declared.names.Kind.TheVariants.{Final, Local as LocalKind, Pre}
use Rattle.str_base.specs.declared.names.NodeId.{NodeId}
use Rattle.str_base.specs.declared.names.PartId.{PartId}
use Rattle.str_base.specs.declared.names.Ts.{Ts}
use Rattle.str_base.specs.declared.names.TxId.{TxId}
use Rattle.str_base.specs.declared.names.Value.{Value}
use Rattle.str_base.specs.declared.names.Version.{Version}
use Rattle.str_base.specs.declared.names.Write.{Write}
use Rattle.str_model.specs.Acts.{decided_as, fresh, local_version, marks_in}
use Rattle.str_model.specs.Gates.{CommitAt, dep_parts, gate_of}
use Rattle.str_model.specs.Owned.{Owns}
use Rattle.str_model.specs.Turns.{own_fate}
use Rattle.str_model.specs.Views.{Committed, Doing, Own, View, is_decided, lc_of, name_of}
use Rattle.str_model.specs.declared.messages.Body.TheVariants.{Commit}
use Rattle.str_model.specs.declared.messages.Input.{Input}
use Rattle.str_model.specs.declared.messages.Message.{Message}
use Rattle.str_model.specs.declared.names.KeyMark.{KeyMark}
use Rattle.str_model.specs.declared.names.ReadDone.{ReadDone}
use Rattle.str_scene.specs.SceneLimits.{IsScene}
use Rattle.str_scene.specs.Scenes.{Here, Scene, hosts, in_part, is_master, part_of}
use Rattle.str_base.proofs.SameNames.{cases_tx}
use Rattle.str_base.proofs.Members.{filter_in, in_append, in_left, in_right, map_in}
use Rattle.str_base.proofs.Lists.{get_push, get_set, get_set_other}
use Rattle.std.proofs.lemmas.Bool.{cases_eq}
use Rattle.str_base.specs.Members.{In}

-- what becomes of a certified undecided transaction
data OpenNext (here : Here) (d e : View) (j lc : ℕ) (x : Own) : Type 0 where
  on_open : (y : Own) → Owns e j y → is_decided y.phase ≡ false → lc_of y.phase ≡ Some lc → OpenNext here d e j lc x
  on_gone : (y : Own) → Owns e j y → IsAborted y → OpenNext here d e j lc x
  on_commit : (fc : ℕ) → gate_of here d lc x ≡ CommitAt fc → Owns e j (decided_as (Committed (Some lc) (Some fc)) x) → OpenNext here d e j lc x

module _ (here : Here) (input : Input) (d e : View) (j lc : ℕ) (x : Own) (own : Owns d j x) (op : is_decided x.phase ≡ false) (l : lc_of x.phase ≡ Some lc) where
  set_next : (i : ℕ) (x' y : Own) → Owns d i x' → e.own ≡ slice_set d.own i y → (x ≡ x' → Owns e j y → OpenNext here d e j lc x) → OpenNext here d e j lc x
  set_next i x' y o q f = by_place (cases_eq j i)
    where
      by_place : (j ≡ i) ⊎ (j ≢ i) → OpenNext here d e j lc x
      by_place (inl k) =
          let same : x ≡ x' = same_own d j i x x' own o k in
          f same (subst₂ (λ (n : ℕ) (xs : List Own). slice_get xs n ≡ Some y) (sym k) (sym q) (get_set d.own i x' y o))
      by_place (inr k) = on_open x (subst (λ (xs : List Own). slice_get xs j ≡ Some x) (sym q) (get_set_other d.own i j y k ∙ own)) op l

  open_next : OwnChange here input d e → OpenNext here d e j lc x
  open_next (o_rests q) = on_open x (subst (λ (xs : List Own). slice_get xs j ≡ Some x) (sym q) own) op l
  open_next (o_begins place rs q) = on_open x (subst (λ (xs : List Own). slice_get xs j ≡ Some x) (sym q) (get_push d.own j (fresh place rs) x own)) op l
  open_next (o_puts i x' y o g q) = set_next i x' y o q (λ s k. on_open y k g.goes.is_open (g.goes.same_lc ∙ (ap (λ (z : Own). lc_of z.phase) (sym s) ∙ l)))
  open_next (o_certifies i m snap x' o f n r q vs) = set_next i x' _ o q (λ s k. absurd (let z : lc_of x'.phase ≡ Some lc = ap (λ (y : Own). lc_of y.phase) (sym s) ∙ l in cc (n, z)))
  open_next (o_asks i m p x' o f k q) = set_next i x' _ o q (λ s z. on_open _ z refl (sym k ∙ (ap (λ (y : Own). lc_of y.phase) (sym s) ∙ l)))
  open_next (o_acks i m from tx p ts parts x' o c g a q) =
      set_next i x' _ o q (λ s z. on_open _ z (ap (λ (y : Own). is_decided y.phase) (sym s) ∙ op) (ap (λ (y : Own). lc_of y.phase) (sym s) ∙ l))
  open_next (o_aborts i cause x' o f q) = set_next i x' _ o q (λ s z. on_gone _ z (lc_of x'.phase, cause, refl))
  open_next (o_commits i m fc x' o f k gate q vs) = set_next i x' _ o q (λ s z. committed_ i m fc x' k gate s z)
    where
      committed_ : (i m fc : ℕ) (x' : Own) → lc_of x'.phase ≡ Some m → gate_of here d m x' ≡ CommitAt fc → x ≡ x' → Owns e j (decided_as (Committed (Some m) (Some fc)) x') → OpenNext here d e j lc x
      committed_ i m fc x' k gate s z =
          let both : Some m ≡ Some lc = sym k ∙ (ap (λ (y : Own). lc_of y.phase) (sym s) ∙ l) in
          let same : m ≡ lc = cc both in
          on_commit fc (subst₂ (λ (a : ℕ) (y : Own). gate_of here d a y ≡ CommitAt fc) same (sym s) gate)
          (subst₂ (λ (a : ℕ) (y : Own). Owns e j (decided_as (Committed (Some a) (Some fc)) y)) same (sym s) z)
  open_next (o_closes i x' o p q) = set_next i x' _ o q (λ s z. absurd (let y : lc_of x'.phase ≡ Some lc = ap (λ (u : Own). lc_of u.phase) (sym s) ∙ l in cc (ap lc_of p, y)))

module _ (scene : Scene) (ok : IsScene scene) (s : Stage) (i : ℕ) (v : View) (input : Input) (w : Where) (d e : Doing) (is : slice_get s.nodes i ≡ Some v) (seen : IsSeen s input)
    (act : Act (at_place scene i) input w d e) (h : Grounds scene (during s i d)) (he : Grounds scene (during s i e)) where
  rises : Rises d.view.marks e.view.marks
  rises = marks_act (at_place scene i) input w d e act

  -- the writer u, the j-th own transaction x of this node, undecided with lc; a read of k at rs by a transaction of this node
  module _ (u : TxId) (k : KeyId) (a : Value) (rs j lc : ℕ) (x : Own) (own : Owns d.view j x) (name : u ≡ name_of (at_place scene i) j) (op : is_decided x.phase ≡ false) (l : lc_of x.phase ≡ Some lc)
      (clear : LocalsClear d.view k rs u lc) (wr : HasWritten scene (during s i d) u k a) (within : k.0 < length scene.keys.names) (mark : rs ≤ mark_of d.view.marks k) where
    st : Stand (at_place scene i) d.view
    st = h.governed_.stand i d.view (there_d scene s i v input w d e is seen act h)

    abbrev write : Write
    write = record { key = k; value = a }

    in_buffer : In write x.writes
    in_buffer =
        let ws = one_certified scene (during s i d) i j d.view x u wr.rs wr.lc wr.ws (there_d scene s i v input w d e is seen act h) own name wr.certified in subst (In write) (sym ws.0) wr.write

    -- its Local version of the key
    abbrev mine : Version
    mine = local_version (at_place scene i) j lc write

    mine_in : In mine d.view.versions
    mine_in = (h.governed_.linked_.home i d.view (there_d scene s i v input w d e is seen act h) j x own).locals op lc l write in_buffer

    module _ (fc : ℕ) (gate : gate_of (at_place scene i) d.view lc x ≡ CommitAt fc) (own' : Owns e.view j (decided_as (Committed (Some lc) (Some fc)) x)) where
      free : (x.snap.deps ≡ []) × (lc ≤ fc)
      free = gate_commits x.snap lc x.parts (map (dep_parts (at_place scene i) d.view.own) x.snap.deps) fc gate

      committed_now : CommittedIn (during s i e) u fc
      committed_now = record {
        node = i;
        at_node = ap (λ (z : TxId). z.node.0) name;
        place = j;
        at_place_ = ap (λ (z : TxId). z.seq) name;
        view = e.view;
        there = there_e scene s i v input w d e is seen act h;
        fate = ap own_fate own';
      }

      around : (q : Version) → In q d.view.versions → q.key ≡ k → q.tx ≢ u → Around (at_place scene i) d.view j x lc q
      around q m key ne = st.around j x mine q own mine_in refl refl m key (λ y. ne (y ∙ sym name))

      -- another Local version of the key is above the snapshot
      local_over : (q : Version) → In q d.view.versions → q.key ≡ k → q.tx ≢ u → q.kind ≡ LocalKind → rs < q.ts.0
      local_over q m key ne loc = by_clear (clear q m key loc)
        where
          by_around : q.ts.0 ≤ lc → Around (at_place scene i) d.view j x lc q → rs < q.ts.0
          by_around le (final_below f b) = absurd (cc (f, loc))
          by_around le (final_late f n names fate) = absurd (cc (f, loc))
          by_around le (local_below f b names) = absurd (subst (In names.0) free.0 names.1)
          by_around le (local_above n y f seq oy b names) =
              let o = st.base.locals q m loc in
              let same : o.owner ≡ y = same_own d.view o.place n o.owner y o.owns oy (omega (arith, o.seq, seq)) in
              let t = ((st.base.times.each o.place o.owner o.owns).lc q.ts.0 o.lc).0 in
              absurd (omega (arith, t, b, le, ap (λ (z : Own). z.snap.rs) same))

          by_clear : (rs < q.ts.0) ⊎ ((q.tx ≡ u) ⊎ (q.ts.0 ≤ lc)) → rs < q.ts.0
          by_clear (inl y) = y
          by_clear (inr (inl y)) = absurd (ne y)
          by_clear (inr (inr y)) = by_around y (around q m key ne)

      clear_now : Clear e.view k rs (Some u) fc
      clear_now = record { mark = (let b = rises.above k in omega (arith, b, mark)); each = λ q m key. by_move q key (all_moved scene s i v input w d e is seen act h.governed_ h.written q m) }
        where
          rs_below : x.snap.rs < lc
          rs_below = ((st.base.times.each j x own).lc lc l).0

          old : (q : Version) → In q d.view.versions → q.key ≡ k → q.tx ≢ u → Around (at_place scene i) d.view j x lc q → (rs < q.ts.0) ⊎ ((q.tx ≡ u) ⊎ ((q.kind ≢ Pre) × (q.ts.0 ≤ fc)))
          old q m key ne (final_below f b) = let le = free.1 in inr (inr ((λ p. cc (f, p)), omega (arith, b, rs_below, le)))
          old q m key ne (final_late f n names fate) = absurd (subst (In names.0) free.0 names.1)
          old q m key ne (local_below f b names) = absurd (subst (In names.0) free.0 names.1)
          old q m key ne (local_above n y f seq oy b names) = inl (local_over q m key ne f)

          by_move : (q : Version) → q.key ≡ k → Moved d.view q → (rs < q.ts.0) ⊎ ((q.tx ≡ u) ⊎ ((q.kind ≢ Pre) × (q.ts.0 ≤ fc)))
          by_move q key (m_old m) = elim (cases_tx q.tx u) [ inl y ↦ inr (inl y) | inr y ↦ old q m key y (around q m key y) ]
          by_move q key (m_new b) = inl (omega (arith, b, mark, ap (λ (z : KeyId). mark_of d.view.marks z) key))
          by_move q key (m_pre p m same t pre le fin) = absurd (st.apart mine p mine_in refl m pre (same ∙ key))
          by_move q key (m_local p m same t loc le fin) = elim (cases_tx q.tx u) [
            | inl y ↦ inr (inl y)
            | inr y ↦ (let o = local_over p m (same ∙ key) (λ z. y (sym t ∙ z)) loc in inl (omega (arith, o, le)))
          ]

      -- a Commit of the writer carries the mark
      carries : (m : Message) (gc : Ts) (ms : List KeyMark) → In m (s.sent ++ e.sent) → m.body ≡ Commit u (part_of scene k) gc ms → (c : KeyMark) × In c ms × (c.key ≡ k) × (rs ≤ c.mark.0)
      carries m gc ms inside body = elim (in_append s.sent e.sent m inside) [
        | inl z ↦ absurd (before (in_left s.sent d.sent m z))
        | inr z ↦ (elim (letters_act (at_place scene i) input w d e act m z) [ inl y ↦ absurd (before (in_right s.sent d.sent m y)) | inr y ↦ now y ])
      ]
        where
          before : In m (s.sent ++ d.sent) → ⊥
          before z = open_not scene s i v input w d e is seen act h j gc.0 x u own op name (h.reported.commits m u (part_of scene k) gc ms z body)

          now : ReadLetter (at_place scene i) input d e m → (c : KeyMark) × In c ms × (c.key ≡ k) × (rs ≤ c.mark.0)
          now (rl_request n g y o to b) = absurd (cc (b, body))
          now (rl_reply t g r c by f sv sn b q) = absurd (cc (b, body))
          now (rl_other b) = absurd (cc (ap is_other body, b))
          now (rl_commit n lc' f y q o g inp recv b) =
              let both : Commit (name_of (at_place scene i) n) q.part (stamp f) (marks_in (at_place scene i) d.view q.part y.writes) ≡ Commit u (part_of scene k) gc ms = sym b ∙ body in
              let who : name_of (at_place scene i) n ≡ u = cc both in
              let part : q.part ≡ part_of scene k = cc both in
              let marks : marks_in (at_place scene i) d.view q.part y.writes ≡ ms = cc both in
              let seq : n ≡ j = omega (arith, ap (λ (z : TxId). z.seq) who, ap (λ (z : TxId). z.seq) name) in
              let same : y ≡ x = same_own d.view n j y x o own seq in
              let inside' : In write y.writes = subst (λ (z : Own). In write z.writes) (sym same) in_buffer in
              let in_p : in_part scene q.part write ≡ true = eq-eqb (part_of scene k).0 q.part.0 (ap (λ (z : PartId). z.0) (sym part)) in
              let there = map_in (λ (z : Write). let km : KeyMark = record { key = z.key; mark = stamp (mark_of d.view.marks z.key) } in km) (Rattle.std.proofs.Common.filter (in_part scene q.part) y.writes) write
              (filter_in (in_part scene q.part) y.writes write inside' in_p) in
              (record { key = k; mark = stamp (mark_of d.view.marks k) }, subst (In (record { key = k; mark = stamp (mark_of d.view.marks k) })) marks there, refl, mark)

      -- where the node hasn't the key, its master gets the mark by the Commit
      sent_now : hosts scene (record { 0 = i + 1 }) (part_of scene k) ≡ false → MarkSent scene (during s i e) u k rs fc
      sent_now away =
          let m = master_of scene ok k within in
          let c = committer scene (during s i e) u fc committed_now in
          let f = committed_stands scene (during s i e) he.governed_.linked_ u c.x c.at_ fc c.is write (committed_write scene (during s i e) u fc k a c (written_up scene s i v input w d e is seen act h u k a wr)) m.0 m.2 in
          let hosted : hosts scene (record { 0 = f.0 + 1 }) (part_of scene k) ≡ true = subst (λ (z : NodeId). hosts scene z (part_of scene k) ≡ true) f.3 m.2 in
          let other : f.0 ≢ i = λ q. cc (subst (λ (z : ℕ). hosts scene (record { 0 = z + 1 }) (part_of scene k) ≡ true) q hosted, away) in
          record {
            n = f.0;
            view = f.1;
            there = f.4;
            within = within;
            master = subst (λ (z : NodeId). is_master scene z (part_of scene k) ≡ true) f.3 m.1;
            hosted = hosted;
            far = λ q. other (omega (arith, q, ap (λ (z : TxId). z.node.0) name));
            letters = λ l gc ms z b. carries l gc ms z b;
            once = λ q j' tx key fin. absurd (not_yet f.0 f.1 f.4 other q j' tx fin);
          }
        where
          not_yet : (n : ℕ) (z : View) → slice_get (slice_set s.nodes i e.view) n ≡ Some z → n ≢ i → (q : Version) → In q z.versions → q.tx ≡ u → q.kind ≡ Final → ⊥
          not_yet n z there other q j' tx fin =
              let there' : slice_get (slice_set s.nodes i d.view) n ≡ Some z = get_set_other s.nodes i n d.view other ∙ (sym (get_set_other s.nodes i n e.view other) ∙ there) in
              open_not scene s i v input w d e is seen act h j q.ts.0 x u own op name (subst (λ (t : TxId). CommittedIn (during s i d) t q.ts.0) tx (h.reported.finals n z q there' j' fin))

      guard_now : (r : ReadDone) → r.by ≡ Some u → r.key ≡ k → r.value ≡ a → ReadGuard scene (during s i e) i rs r
      guard_now r by key value = by_host (hosts scene (record { 0 = i + 1 }) (part_of scene k)) refl
        where
          wr' : HasWritten scene (during s i e) u r.key r.value
          wr' = subst₂ (λ (y : KeyId) (z : Value). HasWritten scene (during s i e) u y z) (sym key) (sym value) (written_up scene s i v input w d e is seen act h u k a wr)

          by_host : (b : Bool) → hosts scene (record { 0 = i + 1 }) (part_of scene k) ≡ b → ReadGuard scene (during s i e) i rs r
          by_host true q =
              rg_final (fg_some u fc by committed_now wr'
              (subst (λ (y : KeyId). Rattle.si_laws.proofs.Guards.GuardsKept.GuardAt scene (during s i e) y rs (Some u) fc) (sym key)
              (record { n = i; view = e.view; there = there_e scene s i v input w d e is seen act h; hosted = q; clear = clear_now })))
          by_host false q = rg_sent u fc by committed_now wr' (subst (λ (y : KeyId). MarkSent scene (during s i e) u y rs fc) (sym key) (sent_now q))

    -- the guard of the read after the change
    pub open_up : (r : ReadDone) → r.by ≡ Some u → r.key ≡ k → r.value ≡ a → ReadGuard scene (during s i e) i rs r
    open_up r by key value = by_next (open_next (at_place scene i) input d.view e.view j lc x own op l (own_change (at_place scene i) input w d e act))
      where
        by_next : OpenNext (at_place scene i) d.view e.view j lc x → ReadGuard scene (during s i e) i rs r
        by_next (on_open y o f m) =
            rg_open u by (subst₂ (λ (b : KeyId) (z : Value). HasWritten scene (during s i e) u b z) (sym key) (sym value) (written_up scene s i v input w d e is seen act h u k a wr))
            (subst (λ (b : KeyId). OpenWriter scene (during s i e) i u b rs) (sym key) (record {
              j = j;
              x = y;
              lc = lc;
              view = e.view;
              there = there_e scene s i v input w d e is seen act h;
              owns = o;
              name = name;
              open_ = f;
              is_lc = m;
              clear = locals_stay d.view e.view k rs u lc (all_moved scene s i v input w d e is seen act h.governed_ h.written) mark clear;
            }))
        by_next (on_gone y o g) = rg_gone u by (record { j = j; x = y; view = e.view; there = there_e scene s i v input w d e is seen act h; owns = o; name = name; gone = g })
        by_next (on_commit fc g o) = guard_now fc g o r by key value
