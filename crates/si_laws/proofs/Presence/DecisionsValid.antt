-- Decisions are not strange to their receivers, where no timestamp reaches the limit.
use Rattle.si_laws.proofs.Presence.DecisionsDelivered.{DecisionsValid}
use Rattle.si_laws.proofs.Stages.LinkedStates.{IsDecidedAs, IsSeat, Told}
use Rattle.si_laws.proofs.Stages.AllLinksKept.{linked}
use Rattle.str_model.proofs.Changes.MasterChanges.{AreDistinct}
use Rattle.si_laws.proofs.Order.WritersApart.{key_of_table}
use Rattle.str_model.proofs.OwnFacts.ScriptsCovered.{ScriptGood, scripts_after}
use Rattle.si_laws.proofs.Stages.ParticipantSeats.{flat_map_in, own_seat, part_exists}
use Rattle.si_laws.proofs.Sessions.SessionHolds.{good_everywhere}
use Rattle.str_model.proofs.Principle.Everywhere.{at_place, stage_of}
use Rattle.str_model.proofs.Changes.SnapshotsGain.{if_elim}
use Rattle.str_model.proofs.Changes.AnswerChanges.{told}
use Rattle.str_model.specs.Owned.{wrote_key}
use Rattle.si_laws.specs.Laws.Presence.{Decides}
use Rattle.si_laws.specs.Laws.Times.{TimesBounded}
use Rattle.si_laws.specs.Numbers.{all_times, body_times, proposals, view_times}
use Rattle.std.proofs.Common.{Bool, List, Some, [], ap, arith, eq-eqb, eqb-true, false, filter, flat_map, inl, inr, le-leb, length, lt-ltb, map, nat_le, nat_lt, not, refl, slice_get, subst, subst₂, sym, true, ℕ, ◌*◌, ◌+◌, ◌<◌, ◌^◌, ◌∙◌, ◌∷◌, ◌≡◌, ◌≤◌}
use Rattle.std.proofs.lemmas.Option.{slice_get_within}
use Rattle.std.specs.List.{list_all, list_any}
use Rattle.str_base.specs.Versions.{same_key, same_node, same_part}
use Rattle.str_base.specs.declared.names.KeyId.{KeyId}
use Rattle.str_base.specs.declared.names.NodeId.{NodeId}
use Rattle.str_base.specs.declared.names.PartId.{PartId}
use Rattle.str_base.specs.declared.names.Ts.{Ts}
use Rattle.str_base.specs.declared.names.TxId.{TxId}
use Rattle.str_base.specs.declared.names.Write.{Write}
use Rattle.str_model.specs.Proposals.{ts_limit}
use Rattle.str_model.specs.Runs.{run}
use Rattle.str_model.specs.Strange
use Rattle.str_model.specs.Strange.{below_limit, distinct_keys, has_key, has_named, has_node, has_part, is_valid, keys_in}
use Rattle.str_model.specs.Views.{Own, View}
use Rattle.str_model.specs.declared.messages.Body.TheVariants.{Abort, Ack, Commit, Prepare, ReadReply, ReadReq, Refuse as Refusal, Replicate}
use Rattle.str_model.specs.declared.messages.Body.{Body}
use Rattle.str_model.specs.declared.messages.Message.{Message}
use Rattle.str_model.specs.declared.names.KeyMark.{KeyMark}
use Rattle.str_scene.specs.SceneLimits.{IsScene}
use Rattle.str_scene.specs.Scenes.{Here, Scene, hosts, in_part, part_of}
use Rattle.str_scene.specs.declared.names.Event.{Event}
use Rattle.std.proofs.lemmas.Bool.{and_from, false_from_ne_true, not-true}
use Rattle.str_base.proofs.Members.{any_in, at_in, in_filter, in_map, in_right, map_in}
use Rattle.str_base.proofs.Tests.{and_true_left, and_true_right, or_false_left, or_false_right}
use Rattle.str_base.specs.Members.{In}
use Rattle.str_model.proofs.ViewFacts.MarksRise.{script_op}

-- no timestamp of a run reaches the limit
abbrev pub Bounded : Type 0
Bounded = (scene : Scene) → IsScene scene → (events : List Event) (t : ℕ) → In t (all_times (run scene events)) → t < ts_limit

pub bounded_from : TimesBounded → Bounded
bounded_from b scene ok events t h =
    let i = at_in (all_times (run scene events)) t h in
    let l = (b scene ok events).0 i.0 t i.1 in
    let r = (b scene ok events).1 in
    below_ t (proposals (run scene events)) l r
  where
    below_ : (t p : ℕ) → t < 2 ^ 62 + p → p ≤ 1024 * 113 → t < ts_limit
    below_ t p l r = omega (arith, l, r)

pub all_from : {A : Type 0} (test : A → Bool) (xs : List A) → ((x : A) → In x xs → test x ≡ true) → list_all test xs ≡ true
all_from test [] f = refl
all_from test (x ∷ xs) f = and_from (test x) (list_all test xs) (f x (inl refl)) (all_from test xs (λ y h. f y (inr h)))

-- what is left of distinct keys is distinct
any_less : (k : KeyId) (test : Write → Bool) (ws : List Write) → list_any (same_key k) (map (λ (w : Write). w.key) ws) ≡ false
    → list_any (same_key k) (map (λ (w : Write). w.key) (filter test ws)) ≡ false
any_less k test [] e = refl
any_less k test (w ∷ ws) e =
    let rest_ : list_any (same_key k) (map (λ (w : Write). w.key) (filter test ws)) ≡ false = any_less k test ws (or_false_right (same_key k w.key) _ e) in
    if_elim (λ (zs : List Write). list_any (same_key k) (map (λ (w : Write). w.key) zs) ≡ false) (test w) (w ∷ filter test ws) (filter test ws)
    (λ t. rw (or_false_left (same_key k w.key) _ e) rest_) (λ t. rest_)

pub filter_distinct : (test : Write → Bool) (ws : List Write) → AreDistinct ws → AreDistinct (filter test ws)
filter_distinct test [] d = refl
filter_distinct test (w ∷ ws) d =
    let rest_ : AreDistinct (filter test ws) = filter_distinct test ws (and_true_right (not (list_any (same_key w.key) (map (λ (z : Write). z.key) ws))) _ d) in
    let none_ : list_any (same_key w.key) (map (λ (z : Write). z.key) (filter test ws)) ≡ false = any_less w.key test ws (not-true (list_any (same_key w.key) (map (λ (z : Write). z.key) ws)) (and_true_left _ (Strange.distinct_keys (map (λ (z : Write). z.key) ws)) d)) in
    if_elim (λ (zs : List Write). AreDistinct zs) (test w) (w ∷ filter test ws) (filter test ws) (λ t. rw none_ rest_) (λ t. rest_)

module _ (bound : Bounded) (scene : Scene) (ok : IsScene scene) (events : List Event) where
  node_exists : (here : Here) → here.scene ≡ scene → (n : ℕ) (v : View) (t : NodeId) → slice_get (run scene events).nodes n ≡ Some v → t.0 ≡ n + 1 → Strange.has_node here t ≡ true
  node_exists here same n v t there q =
      let less = slice_get_within (run scene events).nodes n v there in
      let count = (good_everywhere scene events).count in
      let size : here.scene.nodes ≡ scene.nodes = ap (λ (z : Scene). z.nodes) same in
      and_from (nat_lt 0 t.0) (nat_le t.0 here.scene.nodes) (lt-ltb 0 t.0 (omega (arith, q))) (le-leb t.0 here.scene.nodes (omega (arith, q, less, count, size)))

  part_is : (here : Here) → here.scene ≡ scene → (n : NodeId) (p : PartId) → hosts scene n p ≡ true → Strange.has_part here p ≡ true
  part_is here same n p h =
      let e = part_exists scene n p h in
      let size : length here.scene.parts ≡ length scene.parts = ap (λ (z : Scene). length z.parts) same in
      and_from (nat_lt 0 p.0) (nat_le p.0 (length here.scene.parts)) (lt-ltb 0 p.0 (omega (arith, e.0))) (le-leb p.0 (length here.scene.parts) (omega (arith, e.1, size)))

  -- a timestamp of a message that was sent is below the limit
  sent_below : (m : Message) (t : Ts) → In m (run scene events).sent → In t.0 (body_times m.body) → Strange.below_limit t ≡ true
  sent_below m t h k =
      lt-ltb t.0 ts_limit (bound scene ok events t.0 (in_right (flat_map view_times (run scene events).nodes) (flat_map (λ (z : Message). body_times z.body) (run scene events).sent) t.0
      (flat_map_in (λ (z : Message). body_times z.body) (run scene events).sent m t.0 h k)))

  -- the keys of the writes of a decided transaction in a partition
  keys_good : (here : Here) → here.scene ≡ scene → (tx : TxId) (x : Own) (p : PartId) → IsDecidedAs scene (stage_of (run scene events)) tx x
      → Strange.keys_in here p (map (λ (w : Write). w.key) (filter (in_part scene p) x.writes)) ≡ true
  keys_good here same tx x p dec =
      let g : ScriptGood (at_place scene dec.n) x = scripts_after scene ok events dec.n dec.view dec.there dec.i x dec.own in
      let size : length here.scene.keys.names ≡ length scene.keys.names = ap (λ (z : Scene). length z.keys.names) same in
      and_from (Strange.distinct_keys (map (λ (w : Write). w.key) (filter (in_part scene p) x.writes))) _ (filter_distinct (in_part scene p) x.writes g.once)
      (all_from _ (map (λ (w : Write). w.key) (filter (in_part scene p) x.writes)) (λ k h.
      let r = in_map (λ (w : Write). w.key) (filter (in_part scene p) x.writes) k h in
      let f = in_filter (in_part scene p) x.writes r.0 r.1 in
      let own : wrote_key k x.writes ≡ true = any_in (λ (w : Write). same_key w.key k) x.writes r.0 f.0 (eq-eqb r.0.key.0 k.0 (ap (λ (z : KeyId). z.0) r.2)) in
      let in_script = g.inside k own in
      let table : k.0 < length scene.keys.names = key_of_table scene.version scene.keys in_script.1 k (script_op scene ok x.place in_script.0 in_script.1 in_script.2) in_script.3 in
      and_from (Strange.has_key here k) (same_part (part_of here.scene k) p) (lt-ltb k.0 (length here.scene.keys.names) (omega (arith, table, size)))
      (subst₂ (λ (s : Scene) (z : KeyId). same_part (part_of s z) p ≡ true) (sym same) r.2 f.1)))

  decisions_valid : DecisionsValid scene (run scene events)
  decisions_valid m tx p n h dec to = by_body m.body refl dec (linked scene events).told
    where
      receiver_ : same_node m.receiver (at_place scene n).node ≡ true
      receiver_ = eq-eqb m.receiver.0 (n + 1) (ap (λ (z : NodeId). z.0) to)

      seat : (t : TxId) (q : PartId) (x : Own) → t ≡ tx → q ≡ p → IsDecidedAs scene (stage_of (run scene events)) t x → IsSeat x q m.receiver
          → (hosts scene (at_place scene n).node p ≡ true) × (same_node tx.node (at_place scene n).node ≡ false)
      seat t q x et eq d s =
          let g = (linked scene events).home d.n d.view d.there d.i x d.own in
          let k = own_seat (at_place scene d.n) d.view.versions d.i x g s.0 s.1 in
          let node : s.0.node ≡ (at_place scene n).node = s.3 ∙ to in (
            subst₂ (λ (z : NodeId) (y : PartId). hosts scene z y ≡ true) node (s.2 ∙ eq) k.hosted,
            false_from_ne_true (same_node tx.node (at_place scene n).node) (λ z.
                let a : tx.node.0 ≡ n + 1 = eqb-true tx.node.0 (n + 1) z in
                let b : tx.node.0 ≡ d.n + 1 = ap (λ (y : TxId). y.node.0) (sym et ∙ d.name) in
                k.other (ap (λ (y : NodeId). y.0) node ∙ (sym a ∙ b))),
          )

      by_body : (b : Body) → m.body ≡ b → Decides tx p b → ((k : Message) → In k (run scene events).sent → Told scene (stage_of (run scene events)) k.sender k.receiver k.body)
          → (is_valid (at_place scene n) m ≡ true) × (hosts scene (at_place scene n).node p ≡ true) × (same_node tx.node (at_place scene n).node ≡ false)
      by_body (Commit t q fc ms) e x told =
          let r : Told scene (stage_of (run scene events)) m.sender m.receiver (Commit t q fc ms) = subst (λ (z : Body). Told scene (stage_of (run scene events)) m.sender m.receiver z) e (told m h) in
          let s = seat t q r.0 x.0 x.1 r.1 r.3 in
          let node_t : t.node.0 ≡ r.1.n + 1 = ap (λ (y : TxId). y.node.0) r.1.name in
          let has : Strange.has_node (at_place scene n) t.node ≡ true = node_exists (at_place scene n) refl r.1.n r.1.view t.node r.1.there node_t in
          let part : Strange.has_part (at_place scene n) q ≡ true = part_is (at_place scene n) refl (at_place scene n).node q (subst (λ (y : PartId). hosts scene (at_place scene n).node y ≡ true) (sym x.1) s.0) in
          let times : (z : Ts) → In z.0 (body_times (Commit t q fc ms)) → Strange.below_limit z ≡ true = λ z k. sent_below m z h (subst (λ (y : Body). In z.0 (body_times y)) (sym e) k) in
          let keys : Strange.keys_in (at_place scene n) q (map (λ (y : KeyMark). y.key) ms) ≡ true = subst (λ (ks : List KeyId). Strange.keys_in (at_place scene n) q ks ≡ true) (sym r.5) (keys_good (at_place scene n) refl t r.0 q r.1) in
          let marks : list_all (λ (y : KeyMark). Strange.below_limit y.mark) ms ≡ true = all_from (λ (y : KeyMark). Strange.below_limit y.mark) ms (λ y k. times y.mark (inr (map_in (λ (u : KeyMark). u.mark.0) ms y k))) in
          let named : Strange.has_named (at_place scene n) (Commit t q fc ms) ≡ true =
          and_from _ _ has (and_from _ _ part (and_from _ _ (times fc (inl refl)) (and_from _ _ keys marks))) in
          (and_from _ _ receiver_ (and_from _ _ (subst (λ (y : NodeId). Strange.has_node (at_place scene n) y ≡ true) (sym r.4) has) (subst (λ (z : Body). Strange.has_named (at_place scene n) z ≡ true) (sym e) named)), s.0, s.1)
      by_body (Abort t q) e x told =
          let r : Told scene (stage_of (run scene events)) m.sender m.receiver (Abort t q) = subst (λ (z : Body). Told scene (stage_of (run scene events)) m.sender m.receiver z) e (told m h) in
          let s = seat t q r.0 x.0 x.1 r.1 r.3 in
          let node_t : t.node.0 ≡ r.1.n + 1 = ap (λ (y : TxId). y.node.0) r.1.name in
          let has : Strange.has_node (at_place scene n) t.node ≡ true = node_exists (at_place scene n) refl r.1.n r.1.view t.node r.1.there node_t in
          let part : Strange.has_part (at_place scene n) q ≡ true = part_is (at_place scene n) refl (at_place scene n).node q (subst (λ (y : PartId). hosts scene (at_place scene n).node y ≡ true) (sym x.1) s.0) in
          let named : Strange.has_named (at_place scene n) (Abort t q) ≡ true = and_from _ _ has part in
          (and_from _ _ receiver_ (and_from _ _ (subst (λ (y : NodeId). Strange.has_node (at_place scene n) y ≡ true) (sym r.4) has) (subst (λ (z : Body). Strange.has_named (at_place scene n) z ≡ true) (sym e) named)), s.0, s.1)
      by_body (ReadReq t k rs) e x told = absurd x
      by_body (ReadReply t k u by fc) e x told = absurd x
      by_body (Prepare t q rs lc ws) e x told = absurd x
      by_body (Refusal t q by k) e x told = absurd x
      by_body (Replicate t q rs lc ws) e x told = absurd x
      by_body (Ack t q ts) e x told = absurd x

pub decisions_are_valid : Bounded → (scene : Scene) → IsScene scene → (events : List Event) → DecisionsValid scene (run scene events)
decisions_are_valid bound scene ok events = decisions_valid bound scene ok events
