-- The law Rest from what holds of each state of a run: where nothing is left to do, every transaction is answered.
use Rattle.std.proofs.Common.{List, None, Option, Some, [], ap, arith, eq-eqb, eqb-true, false, filter, if◌then◌else◌, inl, inr, is_some, length, refl, slice_get, subst, subst₂, suc, sym, true, zero, ℕ, ◌+◌, ◌-◌, ◌<◌, ◌∙◌, ◌∷◌, ◌≡◌, ◌≢◌, ◌≤◌, ◌⊎◌}
use Rattle.std.proofs.lemmas.Option.{slice_get_within}
use Rattle.partition_map.specs.declared.rows.Asked.{Asked}
use Rattle.dependency_set.specs.declared.names.Dep.{Dep}
use Rattle.si_laws.proofs.Dependencies.LocalsApart.{around_after, stand_after}
use Rattle.si_laws.proofs.Dependencies.AroundLocal.{AroundAfter, after_above, after_below, after_final}
use Rattle.si_laws.proofs.Stages.PreAsked.{pres_asked}
use Rattle.si_laws.proofs.Stages.LinkedStates.{IsCertified, one_certified, one_of}
use Rattle.si_laws.proofs.Order.OrderAtMaster.{governed}
use Rattle.si_laws.proofs.Stages.ParticipantSeats.{seat_of, to_nth}
use Rattle.si_laws.proofs.Sessions.SessionHolds.{good_everywhere}
use Rattle.si_laws.proofs.Sessions.SessionOrder.{place_after, told_in}
use Rattle.si_laws.specs.Laws.Presence.{Holds}
use Rattle.si_laws.specs.Standing.{Begun}
use Rattle.si_laws.proofs.Times.ProposalsFew.{times_bounded}
use Rattle.si_laws.proofs.Presence.PresenceHolds.{presence_by_bound}
use Rattle.spsi_laws.proofs.Dependencies.DependenciesHold.{stands_below}
use Rattle.spsi_laws.proofs.Work.LeftHome.{mine}
use Rattle.spsi_laws.proofs.Rest.RestStages.{OfWriter, SentTo, Tells, staged}
use Rattle.spsi_laws.proofs.Rest.RestEvents.{rests_run, waits_run}
use Rattle.spsi_laws.proofs.Rest.RestPass.{ParkedFor}
use Rattle.spsi_laws.proofs.Rest.RestTurns.{Back, IsStuck, s_dep, s_own, s_pre}
use Rattle.spsi_laws.specs.Laws.Rest.{AllAnswered, IsAnswered, RestHolds}
use Rattle.spsi_laws.specs.Laws.UnderWay.{UnderWay, ru_message, ru_waits, u_message, u_parked}
use Rattle.spsi_laws.proofs.UnderWay.UnderWayHolds.{under_way}
use Rattle.str_base.specs.declared.names.Kind.TheVariants.{Final, Pre}
use Rattle.str_base.specs.declared.names.NodeId.{NodeId}
use Rattle.str_base.specs.declared.names.PartId.{PartId}
use Rattle.str_base.specs.declared.names.TxId.{TxId}
use Rattle.str_base.specs.declared.names.Version.{Version}
use Rattle.str_base.specs.Versions.{of_pair, same_node}
use Rattle.str_model.proofs.Principle.Everywhere.{at_place, stage_of}
use Rattle.str_model.proofs.Changes.AnswerChanges.{IsLastOf, last_index-none, last_index-some}
use Rattle.str_model.specs.Acts.{local_version}
use Rattle.str_model.specs.Clients
use Rattle.str_model.specs.Clients.{client_rule, last_index, of_session}
use Rattle.str_model.specs.Drains.{AllGiven, moves, session_moves, view_moves}
use Rattle.str_model.specs.Owned.{Owns}
use Rattle.str_model.specs.Proposals.{holds_pair}
use Rattle.str_model.specs.Runs.{World, run}
use Rattle.str_model.specs.Views.{Aborted, Active, CertWait, Closing, Committed, Doing, Global, Local, Own, Phase, ReadWait, Remote, Reply, View, is_decided, lc_of, name_of, starts}
use Rattle.str_model.specs.declared.messages.Arrived.{Arrived}
use Rattle.str_model.specs.declared.messages.Waiter.TheVariants.{Held, Read}
use Rattle.str_scene.specs.declared.names.Event.{Event}
use Rattle.str_scene.specs.declared.names.Op.{Op}
use Rattle.str_scene.specs.declared.names.TxPlace.{TxPlace}
use Rattle.str_scene.specs.SceneLimits.{Exists, IsScene}
use Rattle.str_scene.specs.Scenes.{Here, Scene, Session, hosts, in_part, nth, part_of}
use Rattle.str_model.proofs.Changes.PairWords.{same_pair}
use Rattle.str_model.proofs.OwnFacts.LocalOwners.{by_decided}
use Rattle.str_model.proofs.OwnFacts.PlacesInOrder.{PlacedIn}
use Rattle.str_model.specs.Owned.{Asks}
use Rattle.str_model.proofs.ListCounts.{many_has}
use Rattle.str_model.proofs.OwnFacts.TurnsBelow.{Below}
use Rattle.str_base.proofs.SameNames.{same_part-is}
use Rattle.str_base.proofs.Members.{at_in, in_at, in_filter}
use Rattle.str_base.proofs.Lists.{slice_get_there}
use Rattle.str_base.specs.Members.{In}
use Rattle.std.proofs.lemmas.Bool.{cases_eq}

-- ---- where nothing is left to do

-- the n-th node has this view
abbrev At : World → ℕ → View → Type 0
At w n v = slice_get w.nodes n ≡ Some v

module _ (scene : Scene) (ok : IsScene scene) (es : List Event) (f : UnderWay scene (run scene es)) (given : AllGiven (run scene es)) where
  none_left : (j : ℕ) → slice_get (run scene es).given j ≡ Some false → ⊥
  none_left j e = cc (given j false e)

  -- the decision of a transaction with a Pre version was sent, and was never given
  decision : (n : ℕ) (v : View) (q : Version) (m i : ℕ) (u : View) (y : Own) → At (run scene es) n v → In q v.versions → q.kind ≡ Pre → At (run scene es) m u → Owns u i y → q.tx ≡ name_of (at_place scene m) i
      → is_decided y.phase ≡ true → ⊥
  decision n v q m i u y g mem pre gu o name dd =
      let st = staged scene es in
      let wr = st.writers n v q g mem pre in
      let c = wr.0 in
      let one = one_certified scene (stage_of (run scene es)) m i u y q.tx c.rs c.lc c.all gu o name c.certified in
      let inw : In c.write y.writes = subst (In c.write) (sym one.0) c.wrote in
      let part : q.part ≡ part_of scene c.write.key = st.gov.masters.parts n v g q mem ∙ ap (part_of scene) (sym c.key) in
      let far : n + 1 ≢ m + 1 = λ e. st.gov.masters.foreign n v g q mem pre (ap (λ (t : TxId). t.node.0) name ∙ sym e) in
      let seat = seat_of (at_place scene m) u.versions i c.lc y (st.gov.linked_.home m u gu i y o) one.1 c.write inw (record { 0 = n + 1 }) (ap (hosts scene (record { 0 = n + 1 })) (sym part) ∙ wr.1) far in
      let t = st.told m i u y gu o dd in
      let spart : seat.0.part ≡ q.part = seat.2 ∙ sym part in
      by_phase y.phase refl seat.0 seat.1 spart seat.3 t
    where
      begun : Begun (run scene es) q.tx y
      begun = (u, subst (λ (t : TxId). nth (run scene es).nodes t.node.0 ≡ Some u) (sym name) (to_nth (run scene es).nodes m u gu), subst (λ (t : TxId). nth u.own t.seq ≡ Some y) (sym name) (to_nth u.own i y o))

      pos : (k : ℕ) × (slice_get v.versions k ≡ Some q)
      pos = at_in v.versions q mem

      holds : Holds (run scene es) (record { 0 = n + 1 }) q.tx q.key q
      holds = (v, pos.0, to_nth (run scene es).nodes n v g, pos.1, refl, refl)

      never : SentTo (stage_of (run scene es)) (record { 0 = n + 1 }) q.tx q.part → ⊥
      never (msg, im, to, dec) =
          let k = at_in (run scene es).sent msg im in
          let g0 = (presence_by_bound times_bounded scene ok es).untold q.tx y (record { 0 = n + 1 }) q.key q begun dd holds pre k.0 msg k.1 to dec in
          none_left k.0 g0

      asked_flag : (a : Asked) → In a y.parts → a.part ≡ q.part → a.asked ≡ true
      asked_flag a ma part =
          let h = pres_asked scene ok es n v g pos.0 q pos.1 pre in
          (staged scene es).flags h.1 q.part m i u y a (in_at (run scene es).sent h.0 h.1 h.2) (h.3 ∙ ap (λ (t : TxId). t.node) name) (subst (λ (t : TxId). Asks t q.part h.1.body) name h.4) gu o ma part

      to_here : (a : Asked) → a.part ≡ q.part → a.node ≡ record { 0 = n + 1 } → SentTo (stage_of (run scene es)) a.node (name_of (at_place scene m) i) a.part → ⊥
      to_here a part node r = never (subst (λ (t : TxId). SentTo (stage_of (run scene es)) (record { 0 = n + 1 }) t q.part) (sym name) (subst₂ (λ (x : NodeId) (y : PartId). SentTo (stage_of (run scene es)) x (name_of (at_place scene m) i) y) node part r))

      by_phase : (p : Phase) → y.phase ≡ p → (a : Asked) → In a y.parts → a.part ≡ q.part → a.node ≡ record { 0 = n + 1 } → Tells (stage_of (run scene es)) (name_of (at_place scene m) i) y → ⊥
      by_phase (Committed l None) e a ma part node t =
          let times = (stand_after scene ok es m u gu).stand.base.times.each i y o in
          let c = (staged scene es).writers n v q g mem pre in
          let one = one_certified scene (stage_of (run scene es)) m i u y q.tx c.0.rs c.0.lc c.0.all gu o name c.0.certified in
          cc (times.without_fc l e, ap lc_of e, one.1)
      by_phase (Committed l (Some fc)) e a ma part node t = to_here a part node (t.committed l fc e a ma)
      by_phase (Aborted l c) e a ma part node t = to_here a part node (t.aborted l c e a ma (asked_flag a ma part))
      by_phase _ e a ma part node t = cc (ap is_decided e, dd)

  below : (n : ℕ) (v : View) → At (run scene es) n v → Below (at_place scene n) (length v.own) v
  below n v g = (stand_after scene ok es n v g).deps_open

  Uncertified : ℕ → Type 0
  Uncertified k = (i n lc : ℕ) (v : View) (x : Own) → i < k → At (run scene es) n v → Owns v i x → lc_of x.phase ≡ Some lc → is_decided x.phase ≡ false → ⊥

  -- a dependency is of a certified transaction with a smaller number
  dep_certified : (n i : ℕ) (v : View) (x : Own) (dep : Dep) → At (run scene es) n v → Owns v i x → is_decided x.phase ≡ false → In dep x.snap.deps
      → (j : ℕ) × (lc : ℕ) × (y : Own) × (j < i) × Owns v j y × (lc_of y.phase ≡ Some lc) × (is_decided y.phase ≡ false) × (dep.seq ≡ j + 1)
  dep_certified n i v x dep g o op m =
      let k = at_in x.snap.deps dep m in
      let h = below n v g in
      let s = stands_below (at_place scene n) (length v.own) v h i k.0 x dep (slice_get_within v.own i x o) o op k.1 in
      let b = h.base.deps i x dep o op m in
      (s.place, s.lc, s.owner, omega (arith, s.seq, b.seq, b.before), s.owns, s.is_lc, s.open_, s.seq)

  -- a parked Prepare of a transaction without dependencies waits for one that is decided
  parked_for : (n i lc : ℕ) (v : View) (x : Own) (p : PartId) (m : ℕ) (u : View) (b : Arrived) → At (run scene es) n v → Owns v i x → lc_of x.phase ≡ Some lc → is_decided x.phase ≡ false → x.snap.deps ≡ []
      → At (run scene es) m u → In (Held b) u.waiters → b.tx ≡ name_of (at_place scene n) i → b.part ≡ p → ⊥
  parked_for n i lc v x p m u b g o l op nd gm mem tx part =
      let k : ParkedFor (at_place scene m) u b = waits_run scene ok es m u gm (Held b) mem in
      let li = (governed scene es).linked_ in
      let held = li.held m u gm b mem in
      let all = held.0.0 in
      let one = one_certified scene (stage_of (run scene es)) n i v x b.tx b.rs.0 b.lc.0 all g o tx held.0.1 in
      let inw : In k.w (filter (in_part scene b.part) all) = subst (In k.w) held.0.2 k.wrote in
      let fl = in_filter (in_part scene b.part) all k.w inw in
      let inx : In k.w x.writes = subst (In k.w) (sym one.0) fl.0 in
      let wpart : part_of scene k.w.key ≡ b.part = same_part-is (part_of scene k.w.key) b.part fl.1 in
      let c = ((staged scene es).writers m u k.q gm k.stands k.pre).0 in
      by_writer k c wpart inx c.certified
    where
      by_writer : (k : ParkedFor (at_place scene m) u b) (c : OfWriter scene (stage_of (run scene es)) k.q) → part_of scene k.w.key ≡ b.part → In k.w x.writes → IsCertified scene (stage_of (run scene es)) k.q.tx c.rs c.lc c.all → ⊥
      by_writer k c wpart inx z = by_decided z.x.phase (λ d. decision m u k.q z.n z.i z.view z.x gm k.stands k.pre z.there z.own z.name d) (λ d. open_ d)
        where
          same_n : z.n ≡ n
          same_n = omega (arith, k.origin, ap (λ (t : TxId). t.node.0) z.name, ap (λ (t : TxId). t.node.0) tx)

          same_v : z.view ≡ v
          same_v = one_of z.view v (slice_get (run scene es).nodes z.n) z.there (ap (λ j. slice_get (run scene es).nodes j) same_n ∙ g)

          own_y : Owns v z.i z.x
          own_y = subst (λ (y : View). Owns y z.i z.x) same_v z.own

          qpart : k.q.part ≡ b.part
          qpart = (governed scene es).masters.parts m u gm k.q k.stands ∙ (ap (part_of scene) k.key ∙ wpart)

          open_ : is_decided z.x.phase ≡ false → ⊥
          open_ d = by_place (cases_eq z.i i)
            where
              by_place : (z.i ≡ i) ⊎ (z.i ≢ i) → ⊥
              by_place (inl e) =
                  let name : k.q.tx ≡ b.tx = z.name ∙ ((λ j. name_of (at_place scene (same_n j)) (e j)) ∙ sym tx) in
                  let pair : of_pair b.tx b.part k.q ≡ true = subst₂ (λ (t : TxId) (r : PartId). of_pair t r k.q ≡ true) name qpart (same_pair k.q.tx k.q.tx k.q.part k.q.part (record { node = refl; seq = refl; part = refl })) in
                  let far : b.tx.node.0 ≢ m + 1 = λ q. (governed scene es).masters.foreign m u gm k.q k.stands k.pre (k.origin ∙ q) in
                  let quiet = (governed scene es).linked_.quiet m u gm b.tx b.part far in
                  let none = quiet.apart (inr (k.q, k.stands, pair)) in
                  let some = many_has (holds_pair b.tx b.part) u.waiters (Held b) mem (same_pair b.tx b.tx b.part b.part (record { node = refl; seq = refl; part = refl })) in
                  absurd (omega (arith, none, some))
              by_place (inr ne) =
                  let here = at_place scene n in
                  let home = (governed scene es).linked_.home n v g in
                  let p1 = local_version here i lc k.w in
                  let p2 = local_version here z.i c.lc c.write in
                  let in1 = (home i x o).locals op lc l k.w inx in
                  let in2 = (home z.i z.x own_y).locals d c.lc z.lc_is c.write (subst (In c.write) (sym z.writes) c.wrote) in
                  by_around (around_after here v (stand_after scene ok es n v g) i x p1 p2 o in1 refl refl in2 (c.key ∙ k.key) (λ q. ne (omega (arith, ap (λ (t : TxId). t.seq) q))))
                where
                  by_around : AroundAfter (at_place scene n) v i x lc (local_version (at_place scene n) z.i c.lc c.write) → ⊥
                  by_around (after_final q le) = cc q
                  by_around (after_below q le m) = subst (In m.0) nd m.1
                  by_around (after_above j y q s oy le dn) =
                      let at : j ≡ z.i = omega (arith, s) in
                      let same : y ≡ z.x = one_of y z.x (slice_get v.own j) oy (ap (λ a. slice_get v.own a) at ∙ own_y) in
                      let pos = at_in u.versions k.q k.stands in
                      let asked = pres_asked scene ok es m u gm pos.0 k.q pos.1 k.pre in
                      let tn : k.q.tx ≡ name_of (at_place scene n) z.i = z.name ∙ (λ a. name_of (at_place scene (same_n a)) z.i) in
                      (staged scene es).apart asked.1 b.part n z.i i v z.x x dn.0 k.w (in_at (run scene es).sent asked.0 asked.1 asked.2) (asked.3 ∙ ap (λ (t : TxId). t.node) tn)
                      (subst₂ (λ (t : TxId) (r : PartId). Asks t r asked.1.body) tn qpart asked.4) g own_y d (subst (λ (a : Own). In dn.0 a.snap.deps) same dn.1) dn.2 o inx wpart

  uncertified : (k : ℕ) → Uncertified k
  unfolding Uncertified
  uncertified zero i n lc v x lt g o l op = absurd (omega (arith, lt))
  uncertified (suc k) i n lc v x lt g o l op = by_deps (λ j m y le oy ly oy'. uncertified k j n m v y (omega (arith, lt, le)) g oy ly oy') x.snap.deps refl
    where
      by_deps : ((j m : ℕ) (y : Own) → j < i → Owns v j y → lc_of y.phase ≡ Some m → is_decided y.phase ≡ false → ⊥) → (ds : List Dep) → x.snap.deps ≡ ds → ⊥
      by_deps rec (d ∷ ds) q =
          let s = dep_certified n i v x d g o op (subst (In d) (sym q) (inl refl)) in rec s.0 s.1 s.2 s.3 s.4 s.5 s.6
      by_deps rec [] q =
          let a = (rests_run scene ok es n v g i x o).gate lc l op q in
          let k = at_in x.parts a.0 a.1 in
          elim (f.answer n i k.0 lc v x a.0 g o l op k.1 a.2 a.3) [
            | u_message z ↦ none_left z.0 z.3
            | u_parked m c u b ms gm mem tx part ↦ parked_for n i lc v x a.0.part m u b g o l op q gm (in_at u.waiters c (Held b) mem) tx part
          ]

  -- nobody is certified and undecided
  pub none_certified : (n i lc : ℕ) (v : View) (x : Own) → At (run scene es) n v → Owns v i x → lc_of x.phase ≡ Some lc → is_decided x.phase ≡ false → ⊥
  unfolding Uncertified
  none_certified n i lc v x g o l op = uncertified (suc i) i n lc v x (omega arith) g o l op

  none_needed : (n i : ℕ) (v : View) (x : Own) (dep : Dep) → At (run scene es) n v → Owns v i x → is_decided x.phase ≡ false → In dep x.snap.deps → ⊥
  none_needed n i v x dep g o op m = let s = dep_certified n i v x dep g o op m in none_certified n s.0 s.1 v s.2 g s.4 s.5 s.6

  no_deps : (n i : ℕ) (v : View) (x : Own) → At (run scene es) n v → Owns v i x → is_decided x.phase ≡ false → x.snap.deps ≡ []
  no_deps n i v x g o op = by (x.snap.deps) refl
    where
      by : (ds : List Dep) → x.snap.deps ≡ ds → ds ≡ []
      by [] q = refl
      by (d ∷ ds) q = absurd (none_needed n i v x d g o op (subst (In d) (sym q) (inl refl)))

  -- no Pre version stands
  none_pre : (n : ℕ) (v : View) (q : Version) → At (run scene es) n v → In q v.versions → q.kind ≡ Pre → ⊥
  none_pre n v q g m pre =
      let c = ((staged scene es).writers n v q g m pre).0 in
      let z = c.certified in
      by_decided z.x.phase (λ d. decision n v q z.n z.i z.view z.x g m pre z.there z.own z.name d) (λ d. none_certified z.n z.i c.lc z.view z.x z.there z.own z.lc_is d)

  -- no undecided version stands
  all_final : (n : ℕ) (v : View) (q : Version) → At (run scene es) n v → In q v.versions → (q.kind ≡ Final → ⊥) → ⊥
  all_final n v q g m h =
      Rattle.si_laws.proofs.Order.MasterFacts.by_kind q.kind (λ e. none_pre n v q g m e)
      (λ e. let o = (below n v g).base.locals q m e in none_certified n o.place q.ts.0 v o.owner g o.owns o.lc o.open_) (λ e. h e)

  -- ---- client steps

  module _ (idle : (s : ℕ) → moves scene (run scene es) s ≡ false) where
    -- a client step of the session is idle
    client_is : (s n : ℕ) (text : Session) (v : View) → nth scene.sessions s ≡ Some text → text.node.0 ≡ n + 1 → At (run scene es) n v
        → is_some (Clients.go_on_last (at_place scene n) (record { 0 = s }) 0 text (last_index (of_session (record { 0 = s })) v.own) (starts v)) ≡ false
    unfolding moves client_rule
    client_is s n text v se nd g =
        let node : text.node ≡ record { 0 = n + 1 } = λ j. record { 0 = nd j } in
        let there : nth (run scene es).nodes (n + 1) ≡ Some v = to_nth (run scene es).nodes n v g in
        let a : session_moves scene (run scene es).nodes (record { 0 = s }) (Some text) ≡ false = ap (session_moves scene (run scene es).nodes (record { 0 = s })) (sym se) ∙ idle s in
        let b : view_moves (record { scene = scene; node = record { 0 = n + 1 } }) (record { 0 = s }) (nth (run scene es).nodes (n + 1)) ≡ false =
        subst (λ (m : NodeId). view_moves (record { scene = scene; node = m }) (record { 0 = s }) (nth (run scene es).nodes m.0) ≡ false) node a in
        let c : is_some (client_rule (at_place scene n) (record { 0 = s }) 0 (starts v)) ≡ false = ap (view_moves (at_place scene n) (record { 0 = s })) (sym there) ∙ b in
        let d : is_some (Clients.in_session (at_place scene n) (record { 0 = s }) 0 (Some text) (starts v)) ≡ false = ap (λ (o : Option Session). is_some (Clients.in_session (at_place scene n) (record { 0 = s }) 0 o (starts v))) (sym se) ∙ c in
        let test : same_node text.node (record { 0 = n + 1 }) ≡ true = eq-eqb text.node.0 (n + 1) nd in
        ap (λ t. is_some (if t then Clients.go_on_last (at_place scene n) (record { 0 = s }) 0 text (last_index (of_session (record { 0 = s })) v.own) (starts v) else None)) (sym test) ∙ d

    -- the last transaction of a session is not active
    not_active : (n i : ℕ) (v : View) (x : Own) → At (run scene es) n v → Owns v i x → x.phase ≡ Active → ⊥
    not_active n i v x g o a =
        let ord = ((good_everywhere scene es).nodes n v g).ordered in
        let p = ord.placed i x o in
        by_last p (last_index (mine x.place.session.0) v.own) refl
      where
        self : mine x.place.session.0 x ≡ true
        self = eq-eqb x.place.session.0 x.place.session.0 refl

        by_last : PlacedIn scene n x.place → (l : Option ℕ) → last_index (mine x.place.session.0) v.own ≡ l → ⊥
        by_last p None q = cc (self, last_index-none (mine x.place.session.0) v.own i x q o)
        by_last p (Some j) q =
            let last = last_index-some (mine x.place.session.0) v.own j q in
            let c = client_is x.place.session.0 n p.text v p.session p.node g in
            let d : is_some (Clients.go_on_last (at_place scene n) (record { 0 = x.place.session.0 }) 0 p.text (Some j) (starts v)) ≡ false =
            ap (λ l. is_some (Clients.go_on_last (at_place scene n) (record { 0 = x.place.session.0 }) 0 p.text l (starts v))) (sym q) ∙ c in
            by_order last d (order j i)
          where
            order : (j i : ℕ) → (i ≡ j) ⊎ ((j < i) ⊎ (i < j))
            order j i = grind arith

            by_order : IsLastOf (mine x.place.session.0) v.own j → is_some (Clients.go_on_last (at_place scene n) (record { 0 = x.place.session.0 }) 0 p.text (Some j) (starts v)) ≡ false → (i ≡ j) ⊎ ((j < i) ⊎ (i < j)) → ⊥
            by_order last d (inl e) =
                let at : slice_get v.own j ≡ Some x = ap (λ m. slice_get v.own m) (sym e) ∙ o in
                let k : is_some (Clients.go_on (at_place scene n) (record { 0 = x.place.session.0 }) 0 p.text j x x.phase (starts v)) ≡ false =
                ap (λ z. is_some (Clients.go_on_at (at_place scene n) (record { 0 = x.place.session.0 }) 0 p.text j z (starts v))) (sym at) ∙ d in
                let k2 : is_some (Clients.go_on (at_place scene n) (record { 0 = x.place.session.0 }) 0 p.text j x Active (starts v)) ≡ false =
                ap (λ z. is_some (Clients.go_on (at_place scene n) (record { 0 = x.place.session.0 }) 0 p.text j x z (starts v))) (sym a) ∙ k in
                cc k2
            by_order last d (inr (inl lt)) = cc (self, last.none_after i x lt o)
            by_order last d (inr (inr lt)) =
                let y = Rattle.spsi_laws.proofs.Work.LeftHome.last_there (mine x.place.session.0) v.own j q in
                let yp = last.passes y.0 y.1 in
                let e = (((good_everywhere scene es).nodes n v g).ordered).order i j x y.0 lt o y.1 (sym (eqb-true y.0.place.session.0 x.place.session.0 yp)) in
                cc (ap is_decided a, e.decided)

    -- everybody is decided
    pub all_decided : (n i : ℕ) (v : View) (x : Own) → At (run scene es) n v → Owns v i x → is_decided x.phase ≡ true
    all_decided n i v x g o = by_decided x.phase (λ d. d) (λ d. absurd (by_phase x.phase refl d))
      where
        blocked : is_decided x.phase ≡ false → Back v i x → ⊥
        blocked d (s_dep h) = h (no_deps n i v x g o d)
        blocked d (s_pre q m pre) = none_pre n v q g m pre
        blocked d (s_own j lc y lt oy l op) = none_certified n j lc v y g oy l op

        by_phase : (p : Phase) → x.phase ≡ p → is_decided x.phase ≡ false → ⊥
        by_phase Active e d = not_active n i v x g o e
        by_phase (ReadWait k) e d = blocked d ((rests_run scene ok es n v g i x o).stuck (subst IsStuck (sym e) tt))
        by_phase (Remote k) e d =
            elim (f.reading n i v x k g o e) [
              | ru_message z ↦ none_left z.0 z.3
              | ru_waits m c u rs ms gm mem ↦ (let r : (q : Version) × In q u.versions × (q.kind ≡ Final → ⊥) = waits_run scene ok es m u gm (Read (name_of (at_place scene n) i) k rs) (in_at u.waiters c (Read (name_of (at_place scene n) i) k rs) mem) in all_final m u r.0 gm r.1 r.2)
            ]
        by_phase (Reply k a by fc) e d = blocked d ((rests_run scene ok es n v g i x o).stuck (subst IsStuck (sym e) tt))
        by_phase CertWait e d = blocked d ((rests_run scene ok es n v g i x o).stuck (subst IsStuck (sym e) tt))
        by_phase (Closing b) e d = (rests_run scene ok es n v g i x o).closing b e (no_deps n i v x g o d)
        by_phase (Local lc) e d = none_certified n i lc v x g o (ap lc_of e) d
        by_phase (Global lc) e d = none_certified n i lc v x g o (ap lc_of e) d
        by_phase (Committed a b) e d = cc (ap is_decided e, d)
        by_phase (Aborted a b) e d = cc (ap is_decided e, d)

    -- every transaction is answered
    pub all_answered : AllAnswered scene (run scene es)
    all_answered place text se ex = by_node text.node.0 refl
      where
        exists : (k : ℕ) → nth scene.sessions k ≡ Some text → Exists text.node.0 scene.nodes
        exists zero q = absurd (cc q)
        exists (suc j) q = (ok.sessions j text q).node

        some_at : (xs : List (List Op)) (k : ℕ) → 1 ≤ k → k ≤ length xs → (o : List Op) × (nth xs k ≡ Some o)
        some_at xs zero a b = absurd (omega (arith, a))
        some_at xs (suc j) a b = slice_get_there xs j (omega (arith, b))

        -- no transaction of the session begins
        none_begins : (here : Here) (d : Doing) (p : TxPlace) (m : ℕ) (o : Option (List Op)) → nth text.txs m ≡ o → 1 ≤ m → is_some (Clients.begin here p 0 o d) ≡ false → length text.txs < m
        none_begins here d p m None q le e = by_length (length text.txs) m refl (order (length text.txs) m)
          where
            order : (a b : ℕ) → (a < b) ⊎ (b ≤ a)
            order a b = grind arith

            by_length : (a b : ℕ) → a ≡ length text.txs → (a < m) ⊎ (m ≤ a) → length text.txs < m
            by_length a b r (inl lt) = omega (arith, lt, r)
            by_length a b r (inr le') = absurd (let z = some_at text.txs m le (omega (arith, le', r)) in cc (q, z.1))
        none_begins here d p m (Some ops) q le e = absurd (cc e)

        answered_at : (n : ℕ) (v : View) → At (run scene es) n v → text.node.0 ≡ n + 1 → length text.txs ≤ length (filter (told_in place.session.0) (run scene es).answers) → IsAnswered (run scene es) place
        answered_at n v g nd le =
            let good = (good_everywhere scene es).nodes n v g in
            let told = good.told_ place.session.0 text se nd in
            let a = slice_get_there (filter (told_in place.session.0) (run scene es).answers) (place.index - 1) (omega (arith, ex.0, ex.1, le)) in
            let m = told.made (place.index - 1) a.0 a.1 in
            let fl = in_filter (told_in place.session.0) (run scene es).answers a.0 (in_at (filter (told_in place.session.0) (run scene es).answers) (place.index - 1) a.0 a.1) in
            let at = at_in (run scene es).answers a.0 fl.0 in
            let ses : a.0.place.session.0 ≡ place.session.0 = eqb-true a.0.place.session.0 place.session.0 fl.1 in
            let idx : a.0.place.index ≡ place.index = omega (arith, m.1, ex.0) in
            (at.0, a.0, at.1, (λ j. record { session = record { 0 = ses j }; index = idx j }))

        by_last : (n : ℕ) (v : View) → At (run scene es) n v → text.node.0 ≡ n + 1 → (l : Option ℕ) → last_index (mine place.session.0) v.own ≡ l → IsAnswered (run scene es) place
        by_last n v g nd None q =
            let c = client_is place.session.0 n text v se nd g in
            let d : is_some (Clients.go_on_last (at_place scene n) (record { 0 = place.session.0 }) 0 text None (starts v)) ≡ false =
            ap (λ l. is_some (Clients.go_on_last (at_place scene n) (record { 0 = place.session.0 }) 0 text l (starts v))) (sym q) ∙ c in
            absurd (let z = none_begins (at_place scene n) (starts v) (Clients.place_in (record { 0 = place.session.0 }) 1) 1 (nth text.txs 1) refl (omega arith) d in omega (arith, z, ex.0, ex.1))
        by_last n v g nd (Some j) q =
            let y = Rattle.spsi_laws.proofs.Work.LeftHome.last_there (mine place.session.0) v.own j q in
            let last = last_index-some (mine place.session.0) v.own j q in
            let c = client_is place.session.0 n text v se nd g in
            let d : is_some (Clients.go_on_at (at_place scene n) (record { 0 = place.session.0 }) 0 text j (Some y.0) (starts v)) ≡ false =
            ap (λ z. is_some (Clients.go_on_at (at_place scene n) (record { 0 = place.session.0 }) 0 text j z (starts v))) (sym y.1)
            ∙ (ap (λ l. is_some (Clients.go_on_last (at_place scene n) (record { 0 = place.session.0 }) 0 text l (starts v))) (sym q) ∙ c) in
            let dec = all_decided n j v y.0 g y.1 in
            let told = ((good_everywhere scene es).nodes n v g).told_ place.session.0 text se nd in
            let count : y.0.place.index ≡ length (filter (told_in place.session.0) (run scene es).answers) =
            told.last j y.0 y.1 (last.passes y.0 y.1) (λ m z lt o. last.none_after m z lt o) ∙ ap (λ b. place_after b (length (filter (told_in place.session.0) (run scene es).answers))) dec in
            answered_at n v g nd (let less = by_phase n v j y.0 y.0.phase dec d in omega (arith, less, count))
          where
            by_phase : (n : ℕ) (v : View) (j : ℕ) (y : Own) (p : Phase) → is_decided p ≡ true → is_some (Clients.go_on (at_place scene n) (record { 0 = place.session.0 }) 0 text j y p (starts v)) ≡ false → length text.txs < y.place.index + 1
            by_phase n v j y (Committed a b) e d = none_begins (at_place scene n) (starts v) (Clients.place_in (record { 0 = place.session.0 }) (y.place.index + 1)) (y.place.index + 1) (nth text.txs (y.place.index + 1)) refl (omega arith) d
            by_phase n v j y (Aborted a b) e d = none_begins (at_place scene n) (starts v) (Clients.place_in (record { 0 = place.session.0 }) (y.place.index + 1)) (y.place.index + 1) (nth text.txs (y.place.index + 1)) refl (omega arith) d
            by_phase n v j y _ e d = absurd (cc e)

        by_node : (k : ℕ) → text.node.0 ≡ k → IsAnswered (run scene es) place
        by_node zero q = absurd (let z = exists place.session.0 se in omega (arith, z.0, q))
        by_node (suc n) q =
            let z = exists place.session.0 se in
            let len = (good_everywhere scene es).count in
            let v = slice_get_there (run scene es).nodes n (omega (arith, z.1, q, len)) in
            by_last n v.0 v.1 (omega (arith, q)) (last_index (mine place.session.0) v.0.own) refl

pub rest_holds : RestHolds
rest_holds scene ok es h = all_answered scene ok es (under_way scene ok es) h.0 h.1
