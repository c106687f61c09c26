-- What the law Rest needs of each state of a cluster: of whom Pre versions are, that no dependency wrote in a partition that was asked, and that
-- decisions were sent.
use Rattle.std.proofs.Common.{Bool, List, None, Option, Some, [], ap, arith, eq-eqb, false, find, inl, inr, length, map, not, refl, replicate, slice_get, slice_set, subst, subst₂, sym, true, ℕ, ◌++◌, ◌+◌, ◌-◌, ◌||◌, ◌∙◌, ◌∷◌, ◌≡◌, ◌≢◌, ◌⊎◌}
use Rattle.std.specs.List.{list_any, range_with_len}
use Rattle.partition_map.specs.declared.rows.Asked.{Asked}
use Rattle.dependency_set.specs.declared.names.Dep.{Dep}
use Rattle.si_laws.proofs.Stages.LinkedStates.{IsCertified, Told, certified-lasts, certified_stays, one_of, one_place}
use Rattle.si_laws.proofs.Stages.LinksKept.{node_e, placed_foreign, placed_writes}
use Rattle.si_laws.proofs.Order.OrderAtMaster.{Governed, governed-keeps, governed_opening}
use Rattle.str_model.proofs.ListFacts.{range_in}
use Rattle.si_laws.proofs.Stages.ParticipantSeats.{own_seat, part_exists}
use Rattle.si_laws.specs.Laws.Presence.{Decides}
use Rattle.spsi_laws.proofs.Rest.RestActs.{Decided, NewMessage, d_abort, d_close, d_commit, d_old, kept_deps, n_ask, n_old, n_other, new_message, newly_decided, pre_new}
use Rattle.str_base.specs.declared.names.Cause.{Cause}
use Rattle.str_base.specs.declared.names.Kind.TheVariants.{Pre}
use Rattle.str_base.specs.declared.names.NodeId.{NodeId}
use Rattle.str_base.specs.declared.names.PartId.{PartId}
use Rattle.str_base.specs.declared.names.TxId.{TxId}
use Rattle.str_base.specs.declared.names.Version.{Version}
use Rattle.str_base.specs.declared.names.Write.{Write}
use Rattle.str_base.specs.Versions.{same_node, same_part}
use Rattle.str_model.proofs.Principle.SingleChanges.{Act, IsHere, Where, it_comes, it_waits}
use Rattle.str_model.proofs.Principle.Everywhere.{IsSeen, Stage, at_place, during, everywhere, stage_of}
use Rattle.str_model.specs.Acts.{asked_ones, fresh, marks_in, with_asked}
use Rattle.str_model.specs.Acts
use Rattle.str_model.specs.Gates.{Ask, DepParts, dep_parts, gate_of, gate_turn}
use Rattle.str_model.specs.Gates
use Rattle.str_model.specs.Owned.{Owns, Asks}
use Rattle.str_model.specs.Runs.{opening, opening_view, run}
use Rattle.str_model.specs.Views.{Aborted, Committed, Doing, Global, Own, View, is_decided, lc_of, letter, name_of}
use Rattle.str_model.specs.declared.messages.Arrived.{Arrived}
use Rattle.str_model.specs.declared.messages.Body.{Body}
use Rattle.str_model.specs.declared.messages.Body.TheVariants.{Abort, Ack, Commit, Prepare, ReadReply, ReadReq, Refuse as Refusal, Replicate}
use Rattle.str_model.specs.declared.messages.Input.{Input}
use Rattle.str_model.specs.declared.messages.Message.{Message}
use Rattle.str_model.specs.declared.messages.Waiter.TheVariants.{Held}
use Rattle.str_scene.specs.declared.names.Event.{Event}
use Rattle.str_scene.specs.Scenes.{Here, Scene, all_parts, hosts, in_part, leads, part_of, replicas, written_parts}
use Rattle.str_model.proofs.Changes.OwnTurns.{OwnChange, o_aborts, o_acks, o_asks, o_begins, o_certifies, o_closes, o_commits, o_puts, o_rests, own_change}
use Rattle.str_model.proofs.Changes.VersionChanges.{Placed, by_master, by_slave, version_step}
use Rattle.str_model.proofs.OwnFacts.AtHome.{AckStep, OwnGood, a_new, a_old, acked_parts}
use Rattle.str_base.proofs.Members.{any_in, filter_in, in_append, in_filter, in_left, in_map, in_right, map_in}
use Rattle.str_base.proofs.Tests.{and_true_right}
use Rattle.str_base.proofs.Lists.{get_push, get_set, got_replicate, got_set}
use Rattle.str_base.specs.Members.{In}
use Rattle.std.proofs.lemmas.Bool.{or_left}

-- a version is of a certified transaction that wrote its key
pub record OfWriter (scene : Scene) (s : Stage) (q : Version) : Type 0 where
  pub rs : ℕ
  pub lc : ℕ
  pub all : List Write
  pub certified : IsCertified scene s q.tx rs lc all
  pub write : Write
  pub wrote : In write all
  pub key : write.key ≡ q.key

-- the decision of the transaction for the partition was sent to the node
abbrev pub SentTo : Stage → NodeId → TxId → PartId → Type 0
SentTo s to tx p = (m : Message) × In m s.sent × (m.receiver ≡ to) × Decides tx p m.body

-- who took part, or was asked, is told
pub record Tells (s : Stage) (tx : TxId) (y : Own) : Type 0 where
  pub committed : (l : Option ℕ) (fc : ℕ) → y.phase ≡ Committed l (Some fc) → (a : Asked) → In a y.parts → SentTo s a.node tx a.part
  pub aborted : (l : Option ℕ) (c : Cause) → y.phase ≡ Aborted l c → (a : Asked) → In a y.parts → a.asked ≡ true → SentTo s a.node tx a.part

pub record Staged (scene : Scene) (s : Stage) : Type 0 where
  pub gov : Governed scene s
  pub writers : (n : ℕ) (v : View) (q : Version) → slice_get s.nodes n ≡ Some v → In q v.versions → q.kind ≡ Pre → OfWriter scene s q × (hosts scene (record { 0 = n + 1 }) q.part ≡ true)
  pub apart : (m : Message) (p : PartId) (n i j : ℕ) (v : View) (y z : Own) (dep : Dep) (wr : Write) → In m s.sent → m.sender ≡ record { 0 = n + 1 } → Asks (name_of (at_place scene n) i) p m.body
      → slice_get s.nodes n ≡ Some v → Owns v i y → is_decided y.phase ≡ false → In dep y.snap.deps → dep.seq ≡ j + 1 → Owns v j z → In wr z.writes → part_of scene wr.key ≡ p → ⊥
  pub flags : (m : Message) (p : PartId) (n i : ℕ) (v : View) (y : Own) (a : Asked) → In m s.sent → m.sender ≡ record { 0 = n + 1 } → Asks (name_of (at_place scene n) i) p m.body
      → slice_get s.nodes n ≡ Some v → Owns v i y → In a y.parts → a.part ≡ p → a.asked ≡ true
  pub told : (n i : ℕ) (v : View) (y : Own) → slice_get s.nodes n ≡ Some v → Owns v i y → is_decided y.phase ≡ true → Tells s (name_of (at_place scene n) i) y

leads_has : (n : NodeId) (rs : List NodeId) → leads n rs ≡ true → list_any (λ r. same_node r n) rs ≡ true
leads_has n [] e = absurd (cc e)
leads_has n (r ∷ rs) e = rw e refl

asks_same : (b : Body) (t u : TxId) (p q : PartId) → Asks t p b → Asks u q b → (t ≡ u) × (p ≡ q)
asks_same (Prepare tx r rs lc ws) t u p q a b = (sym a.0 ∙ b.0, sym a.1 ∙ b.1)
asks_same (Replicate tx r rs lc ws) t u p q a b = (sym a.0 ∙ b.0, sym a.1 ∙ b.1)
asks_same (ReadReq tx k rs) t u p q a b = absurd a
asks_same (ReadReply tx k v by fc) t u p q a b = absurd a
asks_same (Refusal tx r by k) t u p q a b = absurd a
asks_same (Ack tx r ts) t u p q a b = absurd a
asks_same (Commit tx r fc ms) t u p q a b = absurd a
asks_same (Abort tx r) t u p q a b = absurd a

-- who asks is certified
asks_certified : (scene : Scene) (s : Stage) (from to : NodeId) (b : Body) (tx : TxId) (p : PartId) → Asks tx p b → Told scene s from to b → (rs : ℕ) × (lc : ℕ) × (all : List Write) × IsCertified scene s tx rs lc all
asks_certified scene s from to (Prepare t r rs lc ws) tx p a k = (rs.0, lc.0, k.0, subst (λ (z : TxId). IsCertified scene s z rs.0 lc.0 k.0) a.0 k.1)
asks_certified scene s from to (Replicate t r rs lc ws) tx p a k = (rs.0, lc.0, k.0, subst (λ (z : TxId). IsCertified scene s z rs.0 lc.0 k.0) a.0 k.1)
asks_certified scene s from to (ReadReq t k rs) tx p a z = absurd a
asks_certified scene s from to (ReadReply t k v by fc) tx p a z = absurd a
asks_certified scene s from to (Refusal t r by k) tx p a z = absurd a
asks_certified scene s from to (Ack t r ts) tx p a z = absurd a
asks_certified scene s from to (Commit t r fc ms) tx p a z = absurd a
asks_certified scene s from to (Abort t r) tx p a z = absurd a

pub find_is : {A : Type 0} (p : A → Bool) (xs : List A) (a : A) → find p xs ≡ Some a → In a xs × (p a ≡ true)
find_is p [] a e = absurd (cc e)
find_is {A = A} p (x ∷ xs) a e = by_test (p x) refl (find_is p xs a) e
  where
    by_test : (b : Bool) → p x ≡ b → (find p xs ≡ Some a → In a xs × (p a ≡ true)) → (Rattle.std.proofs.Common.if◌then◌else◌ b (Some x) (find p xs)) ≡ Some a → In a (x ∷ xs) × (p a ≡ true)
    by_test true q rec k = let s : x ≡ a = cc k in (inl s, ap p (sym s) ∙ q)
    by_test false q rec k = let r = rec k in (inr r.0, r.1)

module _ (here : Here) where
  -- who is asked next, with no dependency that wrote there
  asks_free : (v : View) (lc : ℕ) (x : Own) (p : PartId) → gate_of here v lc x ≡ Ask p → (a : Asked) × In a x.parts × (a.part ≡ p) × (Gates.dependency_wrote (map (dep_parts here v.own) x.snap.deps) p ≡ true → ⊥)
  unfolding gate_turn
  asks_free v lc x p e = by_ask (find (Gates.may_ask (map (dep_parts here v.own) x.snap.deps)) x.parts) refl e
    where
      by_ack : (o : Option Asked) → Gates.gate_acks lc x.parts o ≡ Ask p → ⊥
      by_ack (Some a) k = cc k
      by_ack None k = cc k

      by_deps : (ds : List Dep) → Gates.gate_deps lc x.parts ds ≡ Ask p → ⊥
      by_deps [] k = by_ack (find (λ a. not (Rattle.std.proofs.Common.is_some a.ack)) x.parts) k
      by_deps (d ∷ ds) k = cc k

      by_ask : (o : Option Asked) → find (Gates.may_ask (map (dep_parts here v.own) x.snap.deps)) x.parts ≡ o → Gates.gate_asks x.snap lc x.parts o ≡ Ask p
          → (a : Asked) × In a x.parts × (a.part ≡ p) × (Gates.dependency_wrote (map (dep_parts here v.own) x.snap.deps) p ≡ true → ⊥)
      by_ask (Some a) q k =
          let f = find_is (Gates.may_ask (map (dep_parts here v.own) x.snap.deps)) x.parts a q in
          let part : a.part ≡ p = cc k in
          let n : not (Gates.dependency_wrote (map (dep_parts here v.own) x.snap.deps) a.part) ≡ true = and_true_right (not a.asked) (not (Gates.dependency_wrote (map (dep_parts here v.own) x.snap.deps) a.part)) f.1 in
          (a, f.0, part, λ t. cc (ap (λ r. not (Gates.dependency_wrote (map (dep_parts here v.own) x.snap.deps) r)) (sym part) ∙ n, ap not t))
      by_ask None q k = absurd (by_deps x.snap.deps k)

  gate_apart : (v : View) (i j lc : ℕ) (x z : Own) (p : PartId) (dep : Dep) (wr : Write) → OwnGood here v.versions i x → gate_of here v lc x ≡ Ask p → In dep x.snap.deps → dep.seq ≡ j + 1 → Owns v j z
      → In wr z.writes → part_of here.scene wr.key ≡ p → ⊥
  gate_apart v i j lc x z p dep wr good e m s o inw part =
      let r = asks_free v lc x p e in
      let seat = own_seat here v.versions i x good r.0 r.1 in
      let ex = part_exists here.scene r.0.node r.0.part seat.hosted in
      let p0 : r.0.part.0 ≡ p.0 = ap (λ (y : PartId). y.0) r.2 in
      let inall : In p (all_parts here.scene) = map_in (λ (n : ℕ). record { 0 = n }) (range_with_len 1 (length here.scene.parts)) p.0 (range_in 1 (length here.scene.parts) p.0 (omega (arith, ex.0, p0)) (omega (arith, ex.1, p0))) in
      let test : list_any (in_part here.scene p) z.writes ≡ true = any_in (in_part here.scene p) z.writes wr inw (eq-eqb (part_of here.scene wr.key).0 p.0 (ap (λ (y : PartId). y.0) part)) in
      let inw : In p (written_parts here.scene z.writes) = filter_in (λ (y : PartId). list_any (in_part here.scene y) z.writes) (all_parts here.scene) p inall test in
      let idx : dep.seq - 1 ≡ j = omega (arith, s) in
      let at : slice_get v.own (dep.seq - 1) ≡ Some z = ap (λ n. slice_get v.own n) idx ∙ o in
      let inner : list_any (same_part p) (dep_parts here v.own dep).parts ≡ true = ap (λ y. list_any (same_part p) (Gates.parts_of here y)) at ∙ any_in (same_part p) (written_parts here.scene z.writes) p inw (eq-eqb p.0 p.0 refl) in
      r.3 (any_in (λ (d : DepParts). list_any (same_part p) d.parts) (map (dep_parts here v.own) x.snap.deps) (dep_parts here v.own dep) (map_in (dep_parts here v.own) x.snap.deps dep m) inner)

  -- a partition that was asked stays so
  abbrev KeptFlag : Own → Asked → Type 0
  KeptFlag x a = (b : Asked) × In b x.parts × (b.part ≡ a.part) × (b.asked ≡ true → a.asked ≡ true)

  same_flag : (x y : Own) (a : Asked) → x ≡ y → In a y.parts → KeptFlag x a
  same_flag x y a e m = (a, subst (λ (z : Own). In a z.parts) (sym e) m, refl, λ t. t)

  set_flag : (own : List Own) (j k : ℕ) (x' y' x y : Own) (a : Asked) → slice_get own j ≡ Some x' → slice_get own k ≡ Some x → slice_get (slice_set own j y') k ≡ Some y → In a y.parts
      → (x' ≡ x → In a y'.parts → KeptFlag x' a) → KeptFlag x a
  set_flag own j k x' y' x y a o ox oy m f = elim (got_set own j k y' y oy) [
    | inl p ↦ (let same : x' ≡ x = one_of x' x (slice_get own j) o (ap (λ n. slice_get own n) (sym p.0) ∙ ox) in
        subst (λ (z : Own). KeptFlag z a) same (f same (subst (λ (z : Own). In a z.parts) p.1 m)))
    | inr p ↦ same_flag x y a (one_of x y (slice_get own k) ox p.1) m
  ]

  kept_flag : (input : Input) (d e : View) → OwnChange here input d e → (k lc : ℕ) (x y : Own) (a : Asked) → Owns d k x → lc_of x.phase ≡ Some lc → Owns e k y → In a y.parts → KeptFlag x a
  kept_flag input d e (o_rests q) k lc x y a ox l oy m = same_flag x y a (one_of x y (slice_get d.own k) ox (subst (λ (xs : List Own). slice_get xs k ≡ Some y) q oy)) m
  kept_flag input d e (o_begins place rs q) k lc x y a ox l oy m =
      same_flag x y a (one_of x y (slice_get (d.own ++ fresh place rs ∷ []) k) (get_push d.own k (fresh place rs) x ox) (subst (λ (xs : List Own). slice_get xs k ≡ Some y) q oy)) m
  kept_flag input d e (o_puts i x' y' own g q) k lc x y a ox l oy m =
      set_flag d.own i k x' y' x y a own ox (subst (λ (xs : List Own). slice_get xs k ≡ Some y) q oy) m (λ s n. (a, subst (In a) g.same_parts n, refl, λ t. t))
  kept_flag input d e (o_certifies i c snap x' own f n r q s') k lc x y a ox l oy m =
      set_flag d.own i k x' _ x y a own ox (subst (λ (xs : List Own). slice_get xs k ≡ Some y) q oy) m (λ s z. absurd (cc (ap (λ (u : Own). lc_of u.phase) s ∙ l, n)))
  kept_flag input d e (o_asks i c p x' own f t q) k lc x y a ox l oy m =
      set_flag d.own i k x' (record x' { parts = with_asked p x'.parts; phase = Global c }) x y a own ox (subst (λ (xs : List Own). slice_get xs k ≡ Some y) q oy) m
      (λ s n. let r = in_map {A = Asked} {B = Asked} (λ (b : Asked). record b { asked = b.asked || same_part b.part p }) x'.parts a n in
      (r.0, r.1, ap (λ (z : Asked). z.part) r.2, λ t. ap (λ (z : Asked). z.asked) (sym r.2) ∙ or_left r.0.asked (same_part r.0.part p) t))
  kept_flag input d e (o_acks i c from tx p ts parts x' own cm g b q) k lc x y a ox l oy m =
      set_flag d.own i k x' (record x' { parts = parts }) x y a own ox (subst (λ (xs : List Own). slice_get xs k ≡ Some y) q oy) m
      (λ s n. by_step x' ((acked_parts x'.parts p from ts.0 parts b.parts_are).each a n))
    where
      by_step : (x' : Own) → AckStep from p ts.0 x'.parts a → KeptFlag x' a
      by_step x' (a_old h) = (a, h, refl, λ t. t)
      by_step x' (a_new z h sp sn r) = (z, h, ap (λ (u : Asked). u.part) (sym r), λ t. ap (λ (u : Asked). u.asked) r ∙ t)
  kept_flag input d e (o_aborts i cause x' own f q) k lc x y a ox l oy m = set_flag d.own i k x' _ x y a own ox (subst (λ (xs : List Own). slice_get xs k ≡ Some y) q oy) m (λ s n. (a, n, refl, λ t. t))
  kept_flag input d e (o_commits i c fc x' own f t gate q s') k lc x y a ox l oy m = set_flag d.own i k x' _ x y a own ox (subst (λ (xs : List Own). slice_get xs k ≡ Some y) q oy) m (λ s n. (a, n, refl, λ t. t))
  kept_flag input d e (o_closes i x' own p q) k lc x y a ox l oy m = set_flag d.own i k x' _ x y a own ox (subst (λ (xs : List Own). slice_get xs k ≡ Some y) q oy) m (λ s n. (a, n, refl, λ t. t))

module _ (scene : Scene) (s : Stage) (i : ℕ) (v : View) (input : Input) (w : Where) (d e : Doing) (is : slice_get s.nodes i ≡ Some v) (seen : IsSeen s input) (act : Act (at_place scene i) input w d e)
    (h : Staged scene (during s i d)) where
  D : Stage
  D = during s i d

  E : Stage
  E = during s i e

  here_foreign : (a : Arrived) → IsHere (at_place scene i) input d a → a.tx.node.0 ≢ i + 1
  here_foreign a k = placed_foreign scene s i v input w d e is seen act h.gov.linked_ a (by_master k)

  -- a message of the state after the change
  abbrev OldOrNew : Message → Type 0
  OldOrNew m = In m (s.sent ++ d.sent) ⊎ NewMessage (at_place scene i) d e m

  old_or_new : (m : Message) → In m (s.sent ++ e.sent) → OldOrNew m
  old_or_new m k = elim (in_append s.sent e.sent m k) [ inl j ↦ inl (in_left s.sent d.sent m j) | inr j ↦ inr (new_message (at_place scene i) input w d e act here_foreign m j) ]

  -- ---- writers

  host_of : (a : Arrived) → Placed (at_place scene i) input d a → hosts scene (record { 0 = i + 1 }) a.part ≡ true
  host_of a (by_master (it_comes from c u z m)) = leads_has (record { 0 = i + 1 }) (replicas scene a.part) m.master
  host_of a (by_master (it_waits kept rest q)) =
      leads_has (record { 0 = i + 1 }) (replicas scene a.part) (h.gov.linked_.master i d.view (get_set s.nodes i v d.view is) a (subst (In (Held a)) (sym q) (in_right kept (Held a ∷ rest) (Held a) (inl refl)))).master
  host_of a (by_slave from c t) = t.hosted

  writer_stays : (q : Version) → OfWriter scene (during s i d) q → OfWriter scene (during s i e) q
  writer_stays q r = record { rs = r.rs; lc = r.lc; all = r.all; certified = certified_stays scene s i v input w d e is act q.tx r.rs r.lc r.all r.certified; write = r.write; wrote = r.wrote; key = r.key }

  writers_e : (n : ℕ) (u : View) (q : Version) → slice_get (slice_set s.nodes i e.view) n ≡ Some u → In q u.versions → q.kind ≡ Pre → OfWriter scene (during s i e) q × (hosts scene (record { 0 = n + 1 }) q.part ≡ true)
  writers_e n u q g m pre = elim (node_e scene s i v input w d e is seen act h.gov.linked_ n u g) [
    | inl r ↦ subst (λ (k : ℕ). OfWriter scene (during s i e) q × (hosts scene (record { 0 = k + 1 }) q.part ≡ true)) (sym r.0)
        (here_ (pre_new (at_place scene i) input d e q (version_step (at_place scene i) input w d e act) (subst (λ (z : View). In q z.versions) r.1 m) pre))
    | inr r ↦ (let k = h.writers n u q r.1 m pre in (writer_stays q k.0, k.1))
  ]
    where
      here_ : In q d.view.versions ⊎ ((a : Arrived) × Placed (at_place scene i) input d a × (q.tx ≡ a.tx) × (q.part ≡ a.part) × ((x : Write) × In x a.writes × (x.key ≡ q.key)))
          → OfWriter scene (during s i e) q × (hosts scene (record { 0 = i + 1 }) q.part ≡ true)
      here_ (inl j) = let k = h.writers i d.view q (get_set s.nodes i v d.view is) j pre in (writer_stays q k.0, k.1)
      here_ (inr (a, pl, tx, part, wr)) =
          let pw = (placed_writes scene s i v input w d e is seen act h.gov.linked_ a pl).0 in
          let inall = (in_filter (in_part scene a.part) pw.0 wr.0 (subst (In wr.0) pw.2 wr.1)).0 in (
            record {
              rs = a.rs.0;
              lc = a.lc.0;
              all = pw.0;
              certified = subst (λ (t : TxId). IsCertified scene (during s i e) t a.rs.0 a.lc.0 pw.0) (sym tx) (certified_stays scene s i v input w d e is act a.tx a.rs.0 a.lc.0 pw.0 pw.1);
              write = wr.0;
              wrote = inall;
              key = wr.2;
            },
            ap (hosts scene (record { 0 = i + 1 })) part ∙ host_of a pl,
          )

  -- ---- who asked

  -- an own transaction that has asked is certified
  certified_here : (m : Message) (p : PartId) (k : ℕ) → In m (s.sent ++ d.sent) → Asks (name_of (at_place scene i) k) p m.body → (lc : ℕ) × (x : Own) × Owns d.view k x × (lc_of x.phase ≡ Some lc)
  certified_here m p k old a =
      let c = asks_certified scene (during s i d) m.sender m.receiver m.body (name_of (at_place scene i) k) p a (h.gov.linked_.told m old) in
      let z = c.3 in
      let o = one_place scene i z.n k z.i z.name in
      let view : z.view ≡ d.view = one_of z.view d.view (slice_get (slice_set s.nodes i d.view) z.n) z.there (ap (λ n. slice_get (slice_set s.nodes i d.view) n) (sym o.0) ∙ get_set s.nodes i v d.view is) in
      (c.1, z.x, subst₂ (λ (y : View) (n : ℕ). Owns y n z.x) view (sym o.1) z.own, z.lc_is)

  -- the owner of a dependency has written the same before
  owner_was : (k j : ℕ) (x z : Own) (dep : Dep) → Owns d.view k x → is_decided x.phase ≡ false → In dep x.snap.deps → dep.seq ≡ j + 1 → Owns e.view j z → (o : Own) × Owns d.view j o × (z.writes ≡ o.writes)
  owner_was k j x z dep ox op m sq oz =
      let t = (h.gov.stand i d.view (get_set s.nodes i v d.view is)).base.deps k x dep ox op m in
      let at : t.place ≡ j = omega (arith, t.seq, sq) in
      let r = certified-lasts (at_place scene i) input d.view e.view t.place t.lc t.owner t.owns t.is_lc (own_change (at_place scene i) input w d e act) in
      let same : z ≡ r.y = one_of z r.y (slice_get e.view.own j) oz (ap (λ n. slice_get e.view.own n) (sym at) ∙ r.own) in
      (t.owner, subst (λ n. Owns d.view n t.owner) at t.owns, ap (λ (y : Own). y.writes) same ∙ r.writes)

  apart_old : (m : Message) (p : PartId) (k j : ℕ) (y z : Own) (dep : Dep) (wr : Write) → In m (s.sent ++ d.sent) → m.sender ≡ record { 0 = i + 1 } → Asks (name_of (at_place scene i) k) p m.body
      → Owns e.view k y → is_decided y.phase ≡ false → In dep y.snap.deps → dep.seq ≡ j + 1 → Owns e.view j z → In wr z.writes → part_of scene wr.key ≡ p → ⊥
  apart_old m p k j y z dep wr old se a oy op md sq oz inw part =
      let c = certified_here m p k old a in
      let kd = kept_deps (at_place scene i) input w d e act k c.0 c.1 y c.2 c.3 oy op in
      let o = owner_was k j c.1 z dep c.2 kd.0 (kd.1 dep md) sq oz in
      h.apart m p i k j d.view c.1 o.0 dep wr old se a (get_set s.nodes i v d.view is) c.2 kd.0 (kd.1 dep md) sq o.1 (subst (In wr) o.2 inw) part

  apart_here : (m : Message) (p : PartId) (k j : ℕ) (y z : Own) (dep : Dep) (wr : Write) → OldOrNew m → m.sender ≡ record { 0 = i + 1 } → Asks (name_of (at_place scene i) k) p m.body
      → Owns e.view k y → is_decided y.phase ≡ false → In dep y.snap.deps → dep.seq ≡ j + 1 → Owns e.view j z → In wr z.writes → part_of scene wr.key ≡ p → ⊥
  apart_here m p k j y z dep wr (inl old) se a oy op md sq oz inw part = apart_old m p k j y z dep wr old se a oy op md sq oz inw part
  apart_here m p k j y z dep wr (inr (n_old b)) se a oy op md sq oz inw part = apart_old m p k j y z dep wr (in_right s.sent d.sent m b) se a oy op md sq oz inw part
  apart_here m p k j y z dep wr (inr (n_ask i0 lc q x sd own f l gate oe ask)) se a oy op md sq oz inw part =
      let both = asks_same m.body (name_of (at_place scene i) k) (name_of (at_place scene i) i0) p q a ask in
      let at : k ≡ i0 = (one_place scene i i k i0 both.0).1 in
      let y' : Own = record x { parts = with_asked q x.parts; phase = Global lc } in
      let same : y ≡ y' = one_of y y' (slice_get e.view.own k) oy (ap (λ n. slice_get e.view.own n) at ∙ oe) in
      let md' : In dep x.snap.deps = subst (λ (u : Own). In dep u.snap.deps) same md in
      let o = owner_was i0 j x z dep own f md' sq oz in
      gate_apart (at_place scene i) d.view i0 j lc x o.0 q dep wr (h.gov.linked_.home i d.view (get_set s.nodes i v d.view is) i0 x own) gate md' sq o.1 (subst (In wr) o.2 inw) (part ∙ both.1)
  apart_here m p k j y z dep wr (inr (n_other sd f)) se a oy op md sq oz inw part = f (name_of (at_place scene i) k) p refl a

  not_new : (m : Message) (n : ℕ) → n ≢ i → m.sender ≡ record { 0 = n + 1 } → OldOrNew m → In m (s.sent ++ d.sent)
  not_new m n ne se (inl old) = old
  not_new m n ne se (inr (n_old b)) = in_right s.sent d.sent m b
  not_new m n ne se (inr (n_ask i0 lc q x sd own f l gate oe ask)) = absurd (ne (number n i (ap (λ (z : NodeId). z.0) (sym se ∙ sd))))
    where
      number : (a b : ℕ) → a + 1 ≡ b + 1 → a ≡ b
      number a b q = omega (arith, q)
  not_new m n ne se (inr (n_other sd f)) = absurd (ne (number n i (ap (λ (z : NodeId). z.0) (sym se ∙ sd))))
    where
      number : (a b : ℕ) → a + 1 ≡ b + 1 → a ≡ b
      number a b q = omega (arith, q)

  apart_e : (m : Message) (p : PartId) (n k j : ℕ) (u : View) (y z : Own) (dep : Dep) (wr : Write) → In m (s.sent ++ e.sent) → m.sender ≡ record { 0 = n + 1 } → Asks (name_of (at_place scene n) k) p m.body
      → slice_get (slice_set s.nodes i e.view) n ≡ Some u → Owns u k y → is_decided y.phase ≡ false → In dep y.snap.deps → dep.seq ≡ j + 1 → Owns u j z → In wr z.writes → part_of scene wr.key ≡ p → ⊥
  apart_e m p n k j u y z dep wr im se a g oy op md sq oz inw part = elim (node_e scene s i v input w d e is seen act h.gov.linked_ n u g) [
    | inl r ↦ apart_here m p k j y z dep wr (old_or_new m im) (subst (λ (c : ℕ). m.sender ≡ record { 0 = c + 1 }) r.0 se) (subst (λ (c : ℕ). Asks (name_of (at_place scene c) k) p m.body) r.0 a)
        (subst (λ (c : View). Owns c k y) r.1 oy) op md sq (subst (λ (c : View). Owns c j z) r.1 oz) inw part
    | inr r ↦ h.apart m p n k j u y z dep wr (not_new m n r.0 se (old_or_new m im)) se a r.1 oy op md sq oz inw part
  ]

  -- ---- flags

  flags_old : (m : Message) (p : PartId) (k : ℕ) (y : Own) (b : Asked) → In m (s.sent ++ d.sent) → m.sender ≡ record { 0 = i + 1 } → Asks (name_of (at_place scene i) k) p m.body → Owns e.view k y → In b y.parts → b.part ≡ p → b.asked ≡ true
  flags_old m p k y b old se a oy mb part =
      let c = certified_here m p k old a in
      let f = kept_flag (at_place scene i) input d.view e.view (own_change (at_place scene i) input w d e act) k c.0 c.1 y b c.2 c.3 oy mb in
      f.3 (h.flags m p i k d.view c.1 f.0 old se a (get_set s.nodes i v d.view is) c.2 f.1 (f.2 ∙ part))

  flags_here : (m : Message) (p : PartId) (k : ℕ) (y : Own) (b : Asked) → OldOrNew m → m.sender ≡ record { 0 = i + 1 } → Asks (name_of (at_place scene i) k) p m.body → Owns e.view k y → In b y.parts → b.part ≡ p → b.asked ≡ true
  flags_here m p k y b (inl old) se a oy mb part = flags_old m p k y b old se a oy mb part
  flags_here m p k y b (inr (n_old o)) se a oy mb part = flags_old m p k y b (in_right s.sent d.sent m o) se a oy mb part
  flags_here m p k y b (inr (n_ask i0 lc q x sd own f l gate oe ask)) se a oy mb part =
      let both = asks_same m.body (name_of (at_place scene i) k) (name_of (at_place scene i) i0) p q a ask in
      let at : k ≡ i0 = (one_place scene i i k i0 both.0).1 in
      let y' : Own = record x { parts = with_asked q x.parts; phase = Global lc } in
      let same : y ≡ y' = one_of y y' (slice_get e.view.own k) oy (ap (λ n. slice_get e.view.own n) at ∙ oe) in
      let r = in_map {A = Asked} {B = Asked} (λ (c : Asked). record c { asked = c.asked || same_part c.part q }) x.parts b (subst (λ (u : Own). In b u.parts) same mb) in
      let pq : r.0.part.0 ≡ q.0 = ap (λ (c : Asked). c.part.0) r.2 ∙ (ap (λ (c : PartId). c.0) part ∙ ap (λ (c : PartId). c.0) both.1) in
      ap (λ (c : Asked). c.asked) (sym r.2) ∙ (ap (λ t. r.0.asked || t) (eq-eqb r.0.part.0 q.0 pq) ∙ or_true r.0.asked)
    where
      or_true : (t : Bool) → (t || true) ≡ true
      or_true true = refl
      or_true false = refl
  flags_here m p k y b (inr (n_other sd f)) se a oy mb part = absurd (f (name_of (at_place scene i) k) p refl a)

  flags_e : (m : Message) (p : PartId) (n k : ℕ) (u : View) (y : Own) (b : Asked) → In m (s.sent ++ e.sent) → m.sender ≡ record { 0 = n + 1 } → Asks (name_of (at_place scene n) k) p m.body
      → slice_get (slice_set s.nodes i e.view) n ≡ Some u → Owns u k y → In b y.parts → b.part ≡ p → b.asked ≡ true
  flags_e m p n k u y b im se a g oy mb part = elim (node_e scene s i v input w d e is seen act h.gov.linked_ n u g) [
    | inl r ↦ flags_here m p k y b (old_or_new m im) (subst (λ (c : ℕ). m.sender ≡ record { 0 = c + 1 }) r.0 se) (subst (λ (c : ℕ). Asks (name_of (at_place scene c) k) p m.body) r.0 a)
        (subst (λ (c : View). Owns c k y) r.1 oy) mb part
    | inr r ↦ h.flags m p n k u y b (not_new m n r.0 se (old_or_new m im)) se a r.1 oy mb part
  ]

  -- ---- decisions

  sent_stays : (to : NodeId) (tx : TxId) (p : PartId) → SentTo (during s i d) to tx p → SentTo (during s i e) to tx p
  sent_stays to tx p r = (r.0, Rattle.si_laws.proofs.Stages.LinksKept.sent_more scene s i v input w d e is seen act h.gov.linked_ r.0 r.1, r.2, r.3)

  tells_stay : (tx : TxId) (y : Own) → Tells (during s i d) tx y → Tells (during s i e) tx y
  tells_stay tx y t = record { committed = λ l fc q a m. sent_stays a.node tx a.part (t.committed l fc q a m); aborted = λ l c q a m f. sent_stays a.node tx a.part (t.aborted l c q a m f) }

  told_here : (k : ℕ) (y : Own) → Decided (at_place scene i) input w d e k y → is_decided y.phase ≡ true → Tells (during s i e) (name_of (at_place scene i) k) y
  told_here k y (d_old o) dd = tells_stay (name_of (at_place scene i) k) y (h.told i k d.view y (get_set s.nodes i v d.view is) o dd)
  told_here k y (d_abort cause x o q sent) dd =
      record {
        committed = λ l fc p a m. absurd (cc (ap (λ (z : Own). z.phase) q, p));
        aborted = λ l c p a m f.
            let here = at_place scene i in
            let xm : In a x.parts = subst (λ (z : Own). In a z.parts) q m in
            let msg = letter here a.node (Abort (name_of here k) a.part) in
            let inl_ : In msg (Acts.abort_letters here k x.parts) = map_in (λ (b : Asked). letter here b.node (Abort (name_of here k) b.part)) (asked_ones x.parts) a (filter_in (λ (b : Asked). b.asked) x.parts a xm f) in
            (msg, in_right s.sent e.sent msg (subst (In msg) (sym sent) (in_right d.sent (Acts.abort_letters here k x.parts) msg inl_)), refl, (refl, refl));
      }
  told_here k y (d_commit lc fc x o q sent) dd =
      record {
        committed = λ l gc p a m.
            let here = at_place scene i in
            let xm : In a x.parts = subst (λ (z : Own). In a z.parts) q m in
            let msg = letter here a.node (Commit (name_of here k) a.part (record { 0 = fc }) (marks_in here d.view a.part x.writes)) in
            let inl_ : In msg (Acts.commit_letters here k x fc d.view) = map_in (λ (b : Asked). letter here b.node (Commit (name_of here k) b.part (record { 0 = fc }) (marks_in here d.view b.part x.writes))) x.parts a xm in
            (msg, in_right s.sent e.sent msg (subst (In msg) (sym sent) (in_right d.sent (Acts.commit_letters here k x fc d.view) msg inl_)), refl, (refl, refl));
        aborted = λ l c p a m f. absurd (cc (ap (λ (z : Own). z.phase) q, p));
      }
  told_here k y (d_close q) dd = record { committed = λ l fc p a m. absurd (cc (q, p)); aborted = λ l c p a m f. absurd (cc (q, p)) }

  told_e : (n k : ℕ) (u : View) (y : Own) → slice_get (slice_set s.nodes i e.view) n ≡ Some u → Owns u k y → is_decided y.phase ≡ true → Tells (during s i e) (name_of (at_place scene n) k) y
  told_e n k u y g oy dd = elim (node_e scene s i v input w d e is seen act h.gov.linked_ n u g) [
    | inl r ↦ subst (λ (c : ℕ). Tells (during s i e) (name_of (at_place scene c) k) y) (sym r.0)
        (told_here k y (newly_decided (at_place scene i) input w d e act k y (subst (λ (c : View). Owns c k y) r.1 oy) dd) dd)
    | inr r ↦ tells_stay (name_of (at_place scene n) k) y (h.told n k u y r.1 oy dd)
  ]

staged-keeps : (scene : Scene) (s : Stage) (i : ℕ) (v : View) (input : Input) (w : Where) (d e : Doing) → slice_get s.nodes i ≡ Some v → IsSeen s input → Staged scene s → Act (at_place scene i) input w d e
    → Staged scene (during s i d) → Staged scene (during s i e)
staged-keeps scene s i v input w d e is seen hs act h = record {
  gov = governed-keeps scene s i v input w d e is seen hs.gov act h.gov;
  writers = writers_e scene s i v input w d e is seen act h;
  apart = apart_e scene s i v input w d e is seen act h;
  flags = flags_e scene s i v input w d e is seen act h;
  told = told_e scene s i v input w d e is seen act h;
}

staged_opening : (scene : Scene) → Staged scene (stage_of (opening scene))
staged_opening scene = record {
  gov = governed_opening scene;
  writers = λ n v q g m pre. absurd (subst (λ (z : View). In q z.versions) (empty n v g) m);
  apart = λ m p n i j v y z dep wr im. absurd im;
  flags = λ m p n i v y a im. absurd im;
  told = λ n i v y g o dd. absurd (cc (ap (λ (z : View). slice_get z.own i) (sym (empty n v g)), o));
}
  where
    empty : (n : ℕ) (v : View) → slice_get (replicate scene.nodes (opening_view scene)) n ≡ Some v → v ≡ opening_view scene
    empty n v g = got_replicate scene.nodes n (opening_view scene) v g

pub staged : (scene : Scene) (es : List Event) → Staged scene (stage_of (run scene es))
staged scene es = everywhere scene (Staged scene) (staged-keeps scene) (staged_opening scene) es
