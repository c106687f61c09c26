-- Who has read a key has left its mark: at home, at the master that replied, and at the participants of the writer.
use Rattle.partition_map.specs.declared.rows.Asked.{Asked}
use Rattle.si_laws.proofs.Times.ProposalsFew.{times_bounded}
use Rattle.si_laws.proofs.Order.CertifiedVersions.{begun_at}
use Rattle.si_laws.proofs.Marks.MarksSent.{Carries, WasSent, carries_stays}
use Rattle.si_laws.proofs.Presence.DecisionsValid.{bounded_from, decisions_are_valid}
use Rattle.si_laws.proofs.Presence.DecisionsDelivered.{Delivered, delivered}
use Rattle.si_laws.proofs.Marks.DoneMarks.{commit_marks}
use Rattle.si_laws.proofs.Marks.HomeMarks.{HomeMarked, home_marked, home_marked_step, marked_at_home}
use Rattle.si_laws.proofs.Stages.LinkedStates.{one_certified, one_of, one_place}
use Rattle.si_laws.proofs.Marks.ReplyMarks.{HasRs, has_rs_stays, marked_by_reply, rs_of}
use Rattle.si_laws.proofs.Stages.ParticipantSeats.{of_nth, own_seat, to_nth}
use Rattle.si_laws.proofs.Sessions.SessionHolds.{good_everywhere}
use Rattle.si_laws.proofs.Marks.WritersWrote.{Sourced, WroteKey, sourced_opening, sourced_step, wrote_stays}
use Rattle.str_model.proofs.Principle.Everywhere.{at_place, stage_of}
use Rattle.str_model.proofs.Principle.LaterMoments.{Took, at_each_moment, moment_of, took}
use Rattle.str_model.proofs.Principle.EndOfRuns.{onward}
use Rattle.si_laws.specs.Laws.Marks.{CarriesMark, IsMarked, MarkUnderWay, MarkedByCommit, MarksHold, ReadWhileOpen}
use Rattle.si_laws.specs.Laws.Presence.{Decides}
use Rattle.si_laws.specs.Standing.{Begun, IsCommitted}
use Rattle.std.proofs.Common.{Bool, List, None, Option, Some, ap, arith, false, inl, inr, refl, slice_get, slice_set, subst, subst₂, suc, sym, true, zero, ℕ, ◌+◌, ◌∙◌, ◌≡◌, ◌≤◌, ◌⊎◌}
use Rattle.std.proofs.lemmas.Option.{slice_get_within}
use Rattle.str_base.specs.declared.names.KeyId.{KeyId}
use Rattle.str_base.specs.declared.names.NodeId.{NodeId}
use Rattle.str_base.specs.declared.names.PartId.{PartId}
use Rattle.str_base.specs.declared.names.TxId.{TxId}
use Rattle.str_base.specs.Versions.{mark_of}
use Rattle.str_model.specs.declared.messages.Body.{Body}
use Rattle.str_model.specs.declared.messages.Body.TheVariants.{Abort, Ack, Commit, Prepare, ReadReply, ReadReq, Refuse as Refusal, Replicate}
use Rattle.str_model.specs.declared.messages.Message.{Message}
use Rattle.str_model.specs.declared.names.ReadDone.{ReadDone}
use Rattle.str_model.specs.Owned.{Owns}
use Rattle.str_model.specs.Runs.{run}
use Rattle.str_model.specs.Traces.{Happening, trace}
use Rattle.str_model.specs.Views.{Doing, Own, View, is_decided, name_of}
use Rattle.str_scene.specs.declared.names.Event.{Event}
use Rattle.str_scene.specs.SceneLimits.{Exists, IsScene}
use Rattle.str_scene.specs.Scenes.{Scene, nth, or_none, part_of, replicas}
use Rattle.str_base.proofs.Lists.{get_set, slice_get_there}
use Rattle.str_base.proofs.Members.{at_in, in_at}
use Rattle.str_base.specs.Members.{In}

module _ (scene : Scene) (ok : IsScene scene) (es : List Event) where
  -- a participant is a node of the scene
  replica_there : (p : PartId) (r : NodeId) → In r (replicas scene p) → Exists r.0 scene.nodes
  replica_there p r h = by_row p.0 (nth scene.parts p.0) refl h
    where
      by_row : (n : ℕ) (o : Option (List NodeId)) → nth scene.parts n ≡ o → In r (or_none o) → Exists r.0 scene.nodes
      by_row n None e k = absurd k
      by_row zero (Some row) e k = absurd (cc e)
      by_row (suc n) (Some row) e k = let i = at_in row r k in (ok.rows n row e).exist i.0 r i.1

  node_there : (r : NodeId) → Exists r.0 scene.nodes → (n : ℕ) × (v : View) × (r ≡ record { 0 = n + 1 }) × (slice_get (run scene es).nodes n ≡ Some v)
  node_there r x = by_number r.0 refl
    where
      by_number : (m : ℕ) → r.0 ≡ m → (n : ℕ) × (v : View) × (r ≡ record { 0 = n + 1 }) × (slice_get (run scene es).nodes n ≡ Some v)
      by_number zero e = absurd (omega (arith, e, x.0))
      by_number (suc n) e =
          let c = (good_everywhere scene es).count in
          let g = slice_get_there (run scene es).nodes n (omega (arith, e, x.1, c)) in
          let same : r.0 ≡ n + 1 = omega (arith, e) in (n, g.0, λ j. record { 0 = same j }, g.1)

  -- a mark that was sent has been raised, or is under way
  sent_mark : (m : Message) (r : NodeId) (u : TxId) (k : KeyId) (t : ℕ) → In m (run scene es).sent → m.receiver ≡ r → CarriesMark m.body u k t → Exists r.0 scene.nodes
      → IsMarked (run scene es) r k t ⊎ MarkUnderWay (run scene es) r u k t
  sent_mark m r u k t h to c there = by_flag at.0 at.1 flag.0 flag.1
    where
      d : Delivered (run scene es)
      d = delivered scene (decisions_are_valid (bounded_from times_bounded) scene ok) es

      at : (i : ℕ) × (slice_get (run scene es).sent i ≡ Some m)
      at = at_in (run scene es).sent m h

      flag : (b : Bool) × (slice_get (run scene es).given at.0 ≡ Some b)
      flag = let less = slice_get_within (run scene es).sent at.0 m at.1 in let l = d.len in slice_get_there (run scene es).given at.0 (omega (arith, less, l))

      by_body : (i : ℕ) → slice_get (run scene es).sent i ≡ Some m → slice_get (run scene es).given i ≡ Some true → (b : Body) → m.body ≡ b → CarriesMark b u k t → IsMarked (run scene es) r k t
      by_body i s g (Commit v p fc ms) q (e, j, z, y, key, le) =
          let n = node_there r there in
          let done = d.done_ i m v p n.0 n.1 s (subst (λ (b : Body). Decides v p b) (sym q) (refl, refl)) g (to ∙ n.2) n.3 in
          let up = (commit_marks scene es).raised_ m h n.0 n.1 n.3 (ap (λ (x : NodeId). x.0) (to ∙ n.2)) v p fc ms q done z (in_at ms j z y) in
          let up' : z.mark.0 ≤ mark_of n.1.marks k = subst (λ (x : KeyId). z.mark.0 ≤ mark_of n.1.marks x) key up in
          (n.1, ap (λ (x : NodeId). nth (run scene es).nodes x.0) n.2 ∙ to_nth (run scene es).nodes n.0 n.1 n.3, omega (arith, le, up'))
      by_body i s g (ReadReq v l rs) q z = absurd z
      by_body i s g (ReadReply v l a by fc) q z = absurd z
      by_body i s g (Prepare v p rs lc ws) q z = absurd z
      by_body i s g (Refusal v p by l) q z = absurd z
      by_body i s g (Replicate v p rs lc ws) q z = absurd z
      by_body i s g (Ack v p ts) q z = absurd z
      by_body i s g (Abort v p) q z = absurd z

      by_flag : (i : ℕ) → slice_get (run scene es).sent i ≡ Some m → (b : Bool) → slice_get (run scene es).given i ≡ Some b → IsMarked (run scene es) r k t ⊎ MarkUnderWay (run scene es) r u k t
      by_flag i s false g = inr (i, m, s, g, to, c)
      by_flag i s true g = inl (by_body i s g m.body refl c)

  -- at the moment of a read, and from then on
  module _ (j m : ℕ) (h : Happening) (d : Doing) (n : NodeId) (t_ : Took scene es j h n) (moment : slice_get h.moments m ≡ Some d) (a b : ℕ) (x y : Own) (r : ReadDone) (u : TxId) (ox : Owns d.view a x) (oy : Owns d.view b y)
      (read : In r x.reads) (by : r.by ≡ Some u) (open_ : is_decided y.phase ≡ false) where
    there_ : slice_get (slice_set (run scene t_.from.early).nodes t_.takes.place d.view) t_.takes.place ≡ Some d.view
    there_ = get_set (run scene t_.from.early).nodes t_.takes.place t_.takes.view d.view t_.takes.is

    home_at : HomeMarked (at_place scene t_.takes.place) d.view
    home_at = moment_of scene es j m h n d t_ moment (λ z. HomeMarked (at_place scene t_.takes.place) z.view)
        (λ w f g act k. home_marked_step (at_place scene t_.takes.place) ok t_.takes.input w f g act k) (home_marked scene ok t_.from.early t_.takes.place t_.takes.view t_.takes.is)

    rs_after : HasRs scene (stage_of (run scene es)) (name_of (at_place scene t_.takes.place) a) x.snap.rs
    rs_after = onward scene (λ s. HasRs scene s (name_of (at_place scene t_.takes.place) a) x.snap.rs)
        (λ s i v input w f g is seen act k. has_rs_stays scene s i v input w f g is seen act (name_of (at_place scene t_.takes.place) a) x.snap.rs k) es j m h n d t_ moment
        (record { n = t_.takes.place; i = a; view = d.view; x = x; there = there_; own = ox; name = refl; rs_is = refl })

    wrote_after : WroteKey scene (stage_of (run scene es)) u r.key
    wrote_after = onward scene (λ s. WroteKey scene s u r.key) (λ s i v input w f g is seen act k. wrote_stays scene s i v input w f g is act u r.key k) es j m h n d t_ moment
        (((at_each_moment scene (Sourced scene) (λ s i v input w f g is seen hs act k. sourced_step scene s i v input w f g is seen act k) (sourced_opening scene) es j m h n d t_ moment).own t_.takes.place d.view there_ a x ox).reads r u read by)

    carries_after : Carries scene t_.takes.place b r.key x.snap.rs (stage_of (run scene es))
    carries_after = onward scene (Carries scene t_.takes.place b r.key x.snap.rs)
        (λ s i v input w f g is seen act k. carries_stays scene t_.takes.place b r.key x.snap.rs s i v input w f g is act k) es j m h n d t_ moment
        (record {
          view = d.view;
          there = there_;
          mark = (home_at.each a x r.key ox (inl (r, read, refl))).1;
          own = y;
          owns = oy;
          told = λ l fc c. absurd (cc (ap is_decided c, open_));
        })

  -- the writer has committed since
  since : (place b : ℕ) (u : TxId) (y : Own) (k : KeyId) (t fc i : ℕ) (a : Asked) → u ≡ name_of (at_place scene place) b → Carries scene place b k t (stage_of (run scene es)) → WroteKey scene (stage_of (run scene es)) u k
      → Begun (run scene es) u y → IsCommitted y fc → slice_get y.parts i ≡ Some a → a.part ≡ part_of scene k → IsMarked (run scene es) a.node k t ⊎ MarkUnderWay (run scene es) a.node u k t
  since place b u y k t fc i a name c w begun ended part of_k =
      let st = begun_at scene (run scene es) u y begun in
      let o = one_place scene st.n place st.i b (sym st.name ∙ name) in
      let view : st.view ≡ c.view = one_of st.view c.view (slice_get (run scene es).nodes place) (subst (λ (n : ℕ). slice_get (run scene es).nodes n ≡ Some st.view) o.0 st.there) c.there in
      let own : slice_get c.view.own b ≡ Some y = subst₂ (λ (v : View) (n : ℕ). slice_get v.own n ≡ Some y) view o.1 st.own in
      let one : c.own ≡ y = one_of c.own y (slice_get c.view.own b) c.owns own in
      let all = one_certified scene (stage_of (run scene es)) st.n st.i st.view y u w.rs w.lc w.all st.there st.own st.name w.certified in
      let write : In w.write y.writes = subst (In w.write) (sym all.0) w.there in
      let told : WasSent scene place b k t (run scene es).sent y = subst (λ (z : Own). WasSent scene place b k t (run scene es).sent z) one (c.told ended.0 fc (ap (λ (z : Own). z.phase) one ∙ ended.1)) in
      let m = told a (in_at y.parts i a part) w.write write w.key of_k in
      let seat = own_seat (at_place scene st.n) st.view.versions st.i y ((commit_marks scene es).linked_.home st.n st.view st.there st.i y st.own) a (in_at y.parts i a part) in
      sent_mark m.0 a.node u k t m.1 m.2 (subst (λ (z : TxId). CarriesMark m.0.body z k t) (sym name) m.3) (replica_there a.part a.node seat.replica)

  pub marked_by_commit : MarkedByCommit scene (trace scene es) (run scene es)
  marked_by_commit t u x y k fc i a read bt bu ended part of_k = of_read read
    where
      of_moment : (j m : ℕ) (x0 y0 : Own) (r : ReadDone) (d : Doing) (h : Happening) → slice_get (trace scene es) j ≡ Some h → h.node ≡ Some t.node → slice_get h.moments m ≡ Some d → nth d.view.own t.seq ≡ Some x0 → u.node ≡ t.node
          → nth d.view.own u.seq ≡ Some y0 → In r x0.reads → r.key ≡ k → r.by ≡ Some u → is_decided y0.phase ≡ false
          → IsMarked (run scene es) a.node k x.snap.rs ⊎ MarkUnderWay (run scene es) a.node u k x.snap.rs
      of_moment j m x0 y0 r d h at node moment ox same oy rd key by open_ =
          let t_ = took scene es j h t.node at node in
          let p = of_nth d.view.own t.seq x0 ox in
          let q = of_nth d.view.own u.seq y0 oy in
          let t_name : t ≡ name_of (at_place scene t_.takes.place) p.0 = λ z. record { node = t_.node z; seq = p.1 z } in
          let u_node : u.node ≡ (at_place scene t_.takes.place).node = same ∙ t_.node in
          let u_name : u ≡ name_of (at_place scene t_.takes.place) q.0 = λ z. record { node = u_node z; seq = q.1 z } in
          let rs = rs_after j m h d t.node t_ moment p.0 q.0 x0 y0 r u p.2 q.2 rd by open_ in
          let c = carries_after j m h d t.node t_ moment p.0 q.0 x0 y0 r u p.2 q.2 rd by open_ in
          let w = wrote_after j m h d t.node t_ moment p.0 q.0 x0 y0 r u p.2 q.2 rd by open_ in
          let time : x.snap.rs ≡ x0.snap.rs = rs_of scene (run scene es) t x x0.snap.rs bt (subst (λ (z : TxId). HasRs scene (stage_of (run scene es)) z x0.snap.rs) (sym t_name) rs) in
          let c' : Carries scene t_.takes.place q.0 k x.snap.rs (stage_of (run scene es)) = subst₂ (λ (z : KeyId) (n : ℕ). Carries scene t_.takes.place q.0 z n (stage_of (run scene es))) key (sym time) c in
          since t_.takes.place q.0 u y k x.snap.rs fc i a u_name c' (subst (λ (z : KeyId). WroteKey scene (stage_of (run scene es)) u z) key w) bu ended part of_k

      of_read : ReadWhileOpen (trace scene es) t u k → IsMarked (run scene es) a.node k x.snap.rs ⊎ MarkUnderWay (run scene es) a.node u k x.snap.rs
      of_read (j, m, x0, y0, r, (d, (h, at, node, moment), ox), (d', (h', at', node', moment'), oy), rd, key, by, open_) =
          let one : h ≡ h' = one_of h h' (slice_get (trace scene es) j) at at' in
          let both : Some t.node ≡ Some u.node = sym node ∙ (ap (λ (z : Happening). z.node) one ∙ node') in
          let same : t.node ≡ u.node = cc both in
          let doing : d ≡ d' = one_of d d' (slice_get h.moments m) moment (ap (λ (z : Happening). slice_get z.moments m) one ∙ moment') in
          of_moment j m x0 y0 r d h at node moment ox (sym same) (ap (λ (z : Doing). nth z.view.own u.seq) doing ∙ oy) (in_at x0.reads rd.0 r rd.1) key by open_

-- the law
pub marks_hold : MarksHold
marks_hold scene ok es = record { home = marked_at_home scene ok es; reply = marked_by_reply scene es; commit = marked_by_commit scene ok es }
