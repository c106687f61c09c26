-- Each single change keeps what messages, replicas and origins have to do with one another.
use Rattle.partition_map.specs.declared.rows.Asked.{Asked}
use Rattle.si_laws.proofs.Stages.AcksKnown.{comes_some}
use Rattle.str_model.proofs.OwnFacts.AtHome.{OwnGood}
use Rattle.si_laws.proofs.Changes.LettersSent.{AsksWith, NewLetter, as_prepare, as_replicate, is_plain, letter_step, n_abort, n_ack, n_ask, n_commit, n_copy, n_plain}
use Rattle.si_laws.proofs.Stages.LinkedStates.{Acknowledged, AreWrites, IsCertified, IsDecidedAs, Kept, Linked, Told, certified_stays, decided_stays, k_ended, k_stands, one_of, pre_of}
use Rattle.si_laws.proofs.Stages.PairVersions.{PairStep, pair_step, ps_aborts, ps_commits, ps_refused, ps_rests}
use Rattle.str_model.proofs.Changes.PairChanges.{Knows, here_unknown, one_pair, unknown_not}
use Rattle.str_model.proofs.Changes.VersionChanges.{Placed, by_master, by_slave, sent_step}
use Rattle.str_model.proofs.Changes.PairWords.{Has, same_pair}
use Rattle.si_laws.proofs.Stages.PairsForward.{done-act}
use Rattle.str_model.proofs.Principle.SingleChanges.{Act, Comes, IsHere, Where, it_comes, it_waits}
use Rattle.str_model.proofs.Principle.Everywhere.{IsSeen, Sent, Stage, at_place, during}
use Rattle.std.proofs.Common.{List, Some, ap, arith, eq-eqb, eqb-true, false, filter, inl, inr, map, refl, slice_get, slice_set, subst, subst₂, sym, true, ℕ, ◌&&◌, ◌++◌, ◌+◌, ◌∙◌, ◌∷◌, ◌≡◌, ◌≢◌, ◌⊎◌}
use Rattle.str_base.specs.Versions.{insert_all, of_pair, same_node, same_part, same_tx, settled, stamp}
use Rattle.str_base.specs.declared.names.NodeId.{NodeId}
use Rattle.str_base.specs.declared.names.PartId.{PartId}
use Rattle.str_base.specs.declared.names.Ts.{Ts}
use Rattle.str_base.specs.declared.names.TxId.{TxId}
use Rattle.str_base.specs.declared.names.Version.{Version}
use Rattle.str_base.specs.declared.names.Write.{Write}
use Rattle.str_model.specs.Acts.{decided_as, pre_version}
use Rattle.str_model.specs.Owned.{Owns}
use Rattle.str_model.specs.Proposals.{is_pair}
use Rattle.str_model.specs.Strange.{has_named, has_node}
use Rattle.str_model.specs.Views.{Aborted, Committed, Doing, Own, View, is_decided, lc_of, name_of}
use Rattle.str_model.specs.declared.messages.Arrived.{Arrived}
use Rattle.str_model.specs.declared.messages.Body.TheVariants.{Abort, Ack, Commit, Prepare, ReadReply, ReadReq, Refuse as Refusal, Replicate}
use Rattle.str_model.specs.declared.messages.Body.{Body}
use Rattle.str_model.specs.declared.messages.Input.TheVariants.{Deliver}
use Rattle.str_model.specs.declared.messages.Input.{Input}
use Rattle.str_model.specs.declared.messages.Message.{Message}
use Rattle.str_model.specs.declared.messages.Waiter.TheVariants.{Held}
use Rattle.str_model.specs.declared.names.KeyMark.{KeyMark}
use Rattle.str_scene.specs.Scenes.{Scene, in_part}
use Rattle.str_model.specs.Strange
use Rattle.str_base.proofs.Tests.{and_true_left}
use Rattle.str_base.proofs.Lists.{get_set, get_set_other, got_set}
use Rattle.str_base.proofs.Members.{in_all_new, in_append, in_at, in_left, in_right, map_in}
use Rattle.str_base.specs.Members.{In}

-- a version of the pair stands where the pair is kept
pub kept_known : (scene : Scene) (s : Stage) (v : View) (tx : TxId) (p : PartId) (ts : Ts) (ws : List Write) → (w : Write) × In w ws → Kept scene s v tx p ts ws → Knows tx p v
kept_known scene s v tx p ts ws some (k_stands n f) = inr (pre_of tx p ts some.0, f some.0 some.1, same_pair tx tx p p (record { node = refl; seq = refl; part = refl }))
kept_known scene s v tx p ts ws some (k_ended x n c f) = inl n

-- a kept answer is an Ack that was sent, and its sender has kept the pair
pub answer_known : (scene : Scene) (s : Stage) → Linked scene s → (n : ℕ) (v : View) → slice_get s.nodes n ≡ Some v → (i : ℕ) (x : Own) → Owns v i x → (a : Asked) → In a x.parts → (ts : Ts) → a.ack ≡ Some ts
    → Acknowledged scene s a.node (name_of (at_place scene n) i) a.part ts
answer_known scene s h n v there i x own a k ts q =
    let sent = h.acks n v there i x own a k ts q in
    let t : Told scene s sent.message.sender sent.message.receiver (Ack (name_of (at_place scene n) i) a.part ts) =
    subst (λ (b : Body). Told scene s sent.message.sender sent.message.receiver b) sent.body (h.told sent.message sent.sent) in
    subst (λ (m : NodeId). Acknowledged scene s m (name_of (at_place scene n) i) a.part ts) sent.sender t

-- where an acknowledged pair is kept
pub kept_at : (scene : Scene) (s : Stage) (from : NodeId) (tx : TxId) (p : PartId) (ts : Ts) (a : Acknowledged scene s from tx p ts) (n : ℕ) (v : View) → slice_get s.nodes n ≡ Some v → from.0 ≡ n + 1
    → Kept scene s v tx p ts (filter (in_part scene p) a.all)
kept_at scene s from tx p ts a n v there q =
    let same : a.n ≡ n = omega (arith, q, ap (λ (z : NodeId). z.0) a.sender) in
    let is : a.view ≡ v = one_of a.view v (slice_get s.nodes n) (subst (λ (k : ℕ). slice_get s.nodes k ≡ Some a.view) same a.there) there in
    subst (λ (u : View). Kept scene s u tx p ts (filter (in_part scene p) a.all)) is a.kept

plain_told : (scene : Scene) (s : Stage) (from to : NodeId) (b : Body) → is_plain b ≡ true → Told scene s from to b
plain_told scene s from to (ReadReq tx k rs) e = tt
plain_told scene s from to (ReadReply tx k v by fc) e = tt
plain_told scene s from to (Refusal tx p by k) e = tt
plain_told scene s from to (Prepare tx p rs lc ws) e = absurd (cc e)
plain_told scene s from to (Replicate tx p rs lc ws) e = absurd (cc e)
plain_told scene s from to (Ack tx p ts) e = absurd (cc e)
plain_told scene s from to (Commit tx p fc ms) e = absurd (cc e)
plain_told scene s from to (Abort tx p) e = absurd (cc e)

asks_told : (scene : Scene) (s : Stage) (from to : NodeId) (tx : TxId) (p : PartId) (rs lc : ℕ) (all : List Write) (b : Body) → AsksWith tx p rs lc (filter (in_part scene p) all) b
    → IsCertified scene s tx rs lc all → Told scene s from to b
asks_told scene s from to tx p rs lc all b as_prepare c = (all, c, refl)
asks_told scene s from to tx p rs lc all b as_replicate c = (all, c, refl)

not_same : (a b : NodeId) → same_node a b ≡ false → a.0 ≢ b.0
not_same a b f e = cc (eq-eqb a.0 b.0 e, f)

module _ (scene : Scene) (s : Stage) (i : ℕ) (v : View) (input : Input) (w : Where) (d e : Doing) (is : slice_get s.nodes i ≡ Some v) (seen : IsSeen s input) (act : Act (at_place scene i) input w d e)
    (h : Linked scene (during s i d)) where
  pub there_d : slice_get (slice_set s.nodes i d.view) i ≡ Some d.view
  there_d = get_set s.nodes i v d.view is

  pub there_e : slice_get (slice_set s.nodes i e.view) i ≡ Some e.view
  there_e = get_set s.nodes i v e.view is

  -- a node after the change: the one that changed, or another as it was
  pub node_e : (n : ℕ) (u : View) → slice_get (slice_set s.nodes i e.view) n ≡ Some u → ((n ≡ i) × (u ≡ e.view)) ⊎ ((n ≢ i) × (slice_get (slice_set s.nodes i d.view) n ≡ Some u))
  node_e n u g = elim (got_set s.nodes i n e.view u g) [ inl q ↦ inl q | inr q ↦ inr (q.0, get_set_other s.nodes i n d.view q.0 ∙ q.1) ]

  pub sent_more : (m : Message) → In m (s.sent ++ d.sent) → In m (s.sent ++ e.sent)
  sent_more m k = elim (in_append s.sent d.sent m k) [
    | inl j ↦ in_left s.sent e.sent m j
    | inr j ↦ (let new = sent_step (at_place scene i) input w d e act in in_right s.sent e.sent m (subst (In m) (sym new.are) (in_left d.sent new.new m j)))
  ]

  pub came : (m : Message) → input ≡ Deliver m → In m s.sent
  came m q = let t : Sent s m = subst (IsSeen s) q seen in in_at s.sent t.0 m t.1

  pub came_told : (from : NodeId) (b : Body) → (c : Comes (at_place scene i) input from b) → Told scene (during s i d) c.0.sender c.0.receiver b
  came_told from b c = subst (λ (z : Body). Told scene (during s i d) c.0.sender c.0.receiver z) c.3 (h.told c.0 (in_left s.sent d.sent c.0 (came c.0 c.1)))

  pub receiver_here : (from : NodeId) (b : Body) → (c : Comes (at_place scene i) input from b) → c.0.receiver.0 ≡ i + 1
  receiver_here from b c =
      eqb-true c.0.receiver.0 (i + 1) (and_true_left (same_node c.0.receiver (at_place scene i).node) (Strange.has_node (at_place scene i) c.0.sender && Strange.has_named (at_place scene i) c.0.body) c.4)

  pub writes_stay : (tx : TxId) (p : PartId) (rs lc : ℕ) (ws : List Write) → AreWrites scene (during s i d) tx p rs lc ws → AreWrites scene (during s i e) tx p rs lc ws
  writes_stay tx p rs lc ws r = (r.0, certified_stays scene s i v input w d e is act tx rs lc r.0 r.1, r.2)

  pub dec_stays : (tx : TxId) (x : Own) → IsDecidedAs scene (during s i d) tx x → IsDecidedAs scene (during s i e) tx x
  dec_stays = decided_stays scene s i v input w d e is act

  -- ---- what comes to be placed

  pub here_writes : (a : Arrived) → IsHere (at_place scene i) input d a → AreWrites scene (during s i d) a.tx a.part a.rs.0 a.lc.0 a.writes × ((x : Write) × In x a.writes)
  here_writes a (it_comes from c u z m) = (came_told from (Prepare a.tx a.part a.rs a.lc a.writes) c, comes_some (at_place scene i) input w from a (Prepare a.tx a.part a.rs a.lc a.writes) c refl)
  here_writes a (it_waits kept rest q) = h.held i d.view there_d a (subst (In (Held a)) (sym q) (in_right kept (Held a ∷ rest) (Held a) (inl refl)))

  pub placed_writes : (a : Arrived) → Placed (at_place scene i) input d a → AreWrites scene (during s i d) a.tx a.part a.rs.0 a.lc.0 a.writes × ((x : Write) × In x a.writes)
  placed_writes a (by_master k) = here_writes a k
  placed_writes a (by_slave from c t) = (came_told from (Replicate a.tx a.part a.rs a.lc a.writes) c, comes_some (at_place scene i) input w from a (Replicate a.tx a.part a.rs a.lc a.writes) c refl)

  pub placed_foreign : (a : Arrived) → Placed (at_place scene i) input d a → a.tx.node.0 ≢ i + 1
  placed_foreign a (by_master (it_comes from c u z m)) = not_same a.tx.node (at_place scene i).node m.foreign
  placed_foreign a (by_master (it_waits kept rest q)) =
      not_same a.tx.node (at_place scene i).node (h.master i d.view there_d a (subst (In (Held a)) (sym q) (in_right kept (Held a ∷ rest) (Held a) (inl refl)))).foreign
  placed_foreign a (by_slave from c t) = not_same a.tx.node (at_place scene i).node t.foreign

  own_pair : (a : Arrived) → (same_tx a.tx a.tx && same_part a.part a.part) ≡ true
  own_pair a = same_pair a.tx a.tx a.part a.part (record { node = refl; seq = refl; part = refl })

  pub placed_unknown : (a : Arrived) → Placed (at_place scene i) input d a → Knows a.tx a.part d.view → ⊥
  placed_unknown a (by_master k) n =
      let f : a.tx.node.0 ≢ i + 1 = placed_foreign a (by_master k) in here_unknown (at_place scene i) input w a.tx a.part f d a (own_pair a) (h.quiet i d.view there_d a.tx a.part f) k n
  placed_unknown a (by_slave from c t) n = unknown_not a.tx a.part d.view t.unknown n

  -- ---- who is told of a commit has answered

  pub known_by_commit : (from : NodeId) (t : TxId) (q : PartId) (fc : Ts) (ms : List KeyMark) → Comes (at_place scene i) input from (Commit t q fc ms) → Knows t q d.view
  known_by_commit from t q fc ms c =
      let told = came_told from (Commit t q fc ms) c in
      let dec = told.1 in
      let seat = told.3 in
      let good : OwnGood (at_place scene dec.n) dec.view.versions dec.i told.0 = h.home dec.n dec.view dec.there dec.i told.0 dec.own in
      let ans = good.answered told.2.0 fc.0 told.2.1 seat.0 seat.1 in
      let ack = answer_known scene (during s i d) h dec.n dec.view dec.there dec.i told.0 dec.own seat.0 seat.1 ans.0 ans.1 in
      let at_here : seat.0.node.0 ≡ i + 1 = ap (λ (z : NodeId). z.0) seat.3 ∙ receiver_here from (Commit t q fc ms) c in
      let kept = kept_at scene (during s i d) seat.0.node (name_of (at_place scene dec.n) dec.i) seat.0.part ans.0 ack i d.view there_d at_here in
      subst₂ (λ (u : TxId) (r : PartId). Knows u r d.view) (sym dec.name) seat.2
      (kept_known scene (during s i d) d.view (name_of (at_place scene dec.n) dec.i) seat.0.part ans.0 (filter (in_part scene seat.0.part) ack.all) ack.some kept)

  -- ---- acknowledged pairs

  kept_here : (tx : TxId) (p : PartId) (ts : Ts) (ws : List Write) → tx.node.0 ≢ i + 1 → (x : Write) × In x ws → Kept scene (during s i d) d.view tx p ts ws → Kept scene (during s i e) e.view tx p ts ws
  kept_here tx p ts ws other some k = by_step (pair_step (at_place scene i) input w tx p other d e act) k
    where
      pair_of : (x : Write) → of_pair tx p (pre_of tx p ts x) ≡ true
      pair_of x = same_pair tx tx p p (record { node = refl; seq = refl; part = refl })

      by_step : PairStep (at_place scene i) input w tx p d e → Kept scene (during s i d) d.view tx p ts ws → Kept scene (during s i e) e.view tx p ts ws
      by_step (ps_rests b rest_) (k_stands n f) = k_stands (λ z. n (b z)) (λ x g. rest_ (pre_of tx p ts x) (pair_of x) (f x g))
      by_step (ps_rests b rest_) (k_ended x n c f) =
          k_ended x (done-act (at_place scene i) input w tx p other d e act n) (dec_stays tx x c) (λ l fc q y g. rest_ (settled fc (pre_of tx p ts y)) (pair_of y) (f l fc q y g))
      by_step (ps_refused a hh same r) (k_stands n f) =
          absurd (here_unknown (at_place scene i) input w tx p other d a same (h.quiet i d.view there_d tx p other) hh (kept_known scene (during s i d) d.view tx p ts ws some (k_stands n f)))
      by_step (ps_refused a hh same r) (k_ended x n c f) =
          k_ended x (done-act (at_place scene i) input w tx p other d e act n) (dec_stays tx x c)
          (λ l fc q y g. subst (λ (vs : List Version). In (settled fc (pre_of tx p ts y)) vs) (sym r) (f l fc q y g))
      by_step (ps_commits from t q fc ms c same n m f) (k_stands n' g) =
          let told = came_told from (Commit t q fc ms) c in
          let o = one_pair t tx q p same in
          let dec : IsDecidedAs scene (during s i d) tx told.0 = subst (λ (u : TxId). IsDecidedAs scene (during s i d) u told.0) o.0 told.1 in
          k_ended told.0 m (dec_stays tx told.0 dec) (λ l fc' z x y.
          let both : Committed told.2.0 (Some fc.0) ≡ Committed l (Some fc') = sym told.2.1 ∙ z in
          let one : fc.0 ≡ fc' = cc both in
          subst (λ (k : ℕ). In (settled k (pre_of tx p ts x)) e.view.versions) one (f (pre_of tx p ts x) (pair_of x) (g x y)))
      by_step (ps_commits from t q fc ms c same n m f) (k_ended x n' c' g) = absurd (n n')
      by_step (ps_aborts from t q c same n m) (k_stands n' g) =
          let told = came_told from (Abort t q) c in
          let o = one_pair t tx q p same in
          let dec : IsDecidedAs scene (during s i d) tx told.0 = subst (λ (u : TxId). IsDecidedAs scene (during s i d) u told.0) o.0 told.1 in
          k_ended told.0 m (dec_stays tx told.0 dec) (λ l fc' z x y. absurd (cc (sym told.2.2 ∙ z)))
      by_step (ps_aborts from t q c same n m) (k_ended x n' c' g) = absurd (n n')

  kept_elsewhere : (u : View) (tx : TxId) (p : PartId) (ts : Ts) (ws : List Write) → Kept scene (during s i d) u tx p ts ws → Kept scene (during s i e) u tx p ts ws
  kept_elsewhere u tx p ts ws (k_stands n f) = k_stands n f
  kept_elsewhere u tx p ts ws (k_ended x n c f) = k_ended x n (dec_stays tx x c) f

  ack_stays : (from : NodeId) (tx : TxId) (p : PartId) (ts : Ts) → Acknowledged scene (during s i d) from tx p ts → Acknowledged scene (during s i e) from tx p ts
  ack_stays from tx p ts a = elim (got_set s.nodes i a.n d.view a.view a.there) [
    | inl q ↦ record {
      n = i;
      view = e.view;
      sender = a.sender ∙ ap (λ (k : ℕ). record { 0 = k + 1 }) q.0;
      there = there_e;
      foreign = λ z. a.foreign (z ∙ ap (λ (k : ℕ). k + 1) (sym q.0));
      rs = a.rs;
      lc = a.lc;
      all = a.all;
      certified = certified_stays scene s i v input w d e is act tx a.rs a.lc a.all a.certified;
      some = a.some;
      kept = kept_here tx p ts (filter (in_part scene p) a.all) (λ z. a.foreign (z ∙ ap (λ (k : ℕ). k + 1) (sym q.0))) a.some
          (subst (λ (u : View). Kept scene (during s i d) u tx p ts (filter (in_part scene p) a.all)) q.1 a.kept);
    }
    | inr q ↦ record {
      n = a.n;
      view = a.view;
      sender = a.sender;
      there = get_set_other s.nodes i a.n e.view q.0 ∙ q.1;
      foreign = a.foreign;
      rs = a.rs;
      lc = a.lc;
      all = a.all;
      certified = certified_stays scene s i v input w d e is act tx a.rs a.lc a.all a.certified;
      some = a.some;
      kept = kept_elsewhere a.view tx p ts (filter (in_part scene p) a.all) a.kept;
    }
  ]

  told_stays : (from to : NodeId) (b : Body) → Told scene (during s i d) from to b → Told scene (during s i e) from to b
  told_stays from to (Prepare tx p rs lc ws) r = writes_stay tx p rs.0 lc.0 ws r
  told_stays from to (Replicate tx p rs lc ws) r = writes_stay tx p rs.0 lc.0 ws r
  told_stays from to (Ack tx p ts) r = ack_stays from tx p ts r
  told_stays from to (Commit tx p fc ms) r = (r.0, dec_stays tx r.0 r.1, r.2, r.3, r.4, r.5)
  told_stays from to (Abort tx p) r = (r.0, dec_stays tx r.0 r.1, r.2, r.3, r.4)
  told_stays from to (ReadReq tx k rs) r = tt
  told_stays from to (ReadReply tx k u by fc) r = tt
  told_stays from to (Refusal tx p by k) r = tt

  -- ---- what has just been sent

  new_ack : (m : Message) (a : Arrived) (ts : ℕ) → Placed (at_place scene i) input d a → m.sender ≡ (at_place scene i).node
      → e.view.versions ≡ insert_all (map (pre_version a ts) a.writes) d.view.versions → e.view.done ≡ d.view.done → Acknowledged scene (during s i e) m.sender a.tx a.part (stamp ts)
  new_ack m a ts k from vs ds =
      let ws = placed_writes a k in
      let all : List Write = ws.0.0 in
      record {
        n = i;
        view = e.view;
        sender = from;
        there = there_e;
        foreign = placed_foreign a k;
        rs = a.rs.0;
        lc = a.lc.0;
        all = all;
        certified = certified_stays scene s i v input w d e is act a.tx a.rs.0 a.lc.0 all ws.0.1;
        some = (ws.1.0, subst (In ws.1.0) ws.0.2 ws.1.1);
        kept = k_stands (λ z. placed_unknown a k (inl (subst (λ (xs : List (TxId × PartId)). Has (is_pair a.tx a.part) xs) ds z)))
            (λ x y. subst (λ (xs : List Version). In (pre_of a.tx a.part (stamp ts) x) xs) (sym vs)
            (in_all_new (map (pre_version a ts) a.writes) d.view.versions (pre_version a ts x) (map_in (pre_version a ts) a.writes x (subst (In x) (sym ws.0.2) y))));
      }

  own_decided : (j : ℕ) (y : Own) → Owns e.view j y → is_decided y.phase ≡ true → IsDecidedAs scene (during s i e) (name_of (at_place scene i) j) y
  own_decided j y own f = record { n = i; i = j; view = e.view; there = there_e; own = own; name = refl; decided = f }

  new_told : (m : Message) → NewLetter (at_place scene i) input d e m → Told scene (during s i e) m.sender m.receiver m.body
  new_told m (n_ask j lc p x own l k) =
      asks_told scene (during s i e) m.sender m.receiver (name_of (at_place scene i) j) p x.snap.rs lc x.writes m.body k
      (certified_stays scene s i v input w d e is act (name_of (at_place scene i) j) x.snap.rs lc x.writes (record { n = i; i = j; view = d.view; x = x; there = there_d; own = own; name = refl; lc_is = l; writes = refl; rs_is = refl }))
  new_told m (n_copy a k q) =
      subst (λ (b : Body). Told scene (during s i e) m.sender m.receiver b) (sym q) (writes_stay a.tx a.part a.rs.0 a.lc.0 a.writes (here_writes a k).0)
  new_told m (n_ack a ts k from q vs ds) = subst (λ (b : Body). Told scene (during s i e) m.sender m.receiver b) (sym q) (new_ack m a ts k from vs ds)
  new_told m (n_commit j lc fc x a ms own own' k r q) =
      subst (λ (b : Body). Told scene (during s i e) m.sender m.receiver b) (sym q.0)
      (decided_as (Committed (Some lc) (Some fc)) x, own_decided j (decided_as (Committed (Some lc) (Some fc)) x) own' refl, (Some lc, refl), (a, k, refl, sym r.1), r.0, q.1)
  new_told m (n_abort j cause x a own own' k r q) =
      subst (λ (b : Body). Told scene (during s i e) m.sender m.receiver b) (sym q)
      (decided_as (Aborted (lc_of x.phase) cause) x, own_decided j (decided_as (Aborted (lc_of x.phase) cause) x) own' refl, (lc_of x.phase, cause, refl), (a, k, refl, sym r.1), r.0)
  new_told m (n_plain q) = plain_told scene (during s i e) m.sender m.receiver m.body q

  pub told_e : (m : Message) → In m (s.sent ++ e.sent) → Told scene (during s i e) m.sender m.receiver m.body
  told_e m k = elim (in_append s.sent e.sent m k) [
    | inl j ↦ told_stays m.sender m.receiver m.body (h.told m (in_left s.sent d.sent m j))
    | inr j ↦ (elim (letter_step (at_place scene i) input w d e act m j) [
      | inl z ↦ told_stays m.sender m.receiver m.body (h.told m (in_right s.sent d.sent m z))
      | inr n ↦ new_told m n
    ])
  ]
