-- What a single change sends has times below the bound.
use Rattle.partition_map.specs.declared.rows.Asked.{Asked}
use Rattle.str_model.proofs.ViewFacts.ChangesBelow.{accept_is, arrived_below, came_below, proposed_below, rise}
use Rattle.str_model.proofs.ViewFacts.PartsBelow.{gate_below}
use Rattle.str_model.proofs.ViewFacts.TimesBelow.{BodyBelow, ServeBelow, ViewBelow, body_higher, mark_below, own_at, serve_below}
use Rattle.str_model.proofs.Principle.SingleChanges.{Act, Where, act_abort, act_abort_came, act_accept, act_ack, act_ask, act_begin, act_certify, act_close, act_commit, act_commit_came, act_mark, act_put, act_refuse, act_reply, act_request, act_take, act_unwait, act_wait}
use Rattle.str_model.proofs.Changes.SnapshotsGain.{if_elim}
use Rattle.std.proofs.Common.{true, List, [], ap, arith, filter, inl, inr, map, subst, ℕ, ◌++◌, ◌+◌, ◌<◌, ◌∷◌, ◌≡◌, ◌≤◌}
use Rattle.str_base.specs.declared.names.NodeId.{NodeId}
use Rattle.str_base.specs.declared.names.PartId.{PartId}
use Rattle.str_base.specs.declared.names.Write.{Write}
use Rattle.str_base.specs.Versions.{mark_of, stamp}
use Rattle.str_model.specs.Strange.{is_valid}
use Rattle.str_model.specs.Acts.{abort_came, aborted, accepted, acked, asked, begun, certified, closed, commit_came, committed, marked, refused, replied, requested, taken, waits}
use Rattle.str_model.specs.Acts
use Rattle.str_model.specs.Clients.{reading_limit}
use Rattle.str_model.specs.declared.messages.Body.TheVariants.{Abort, Ack, Commit, Prepare, ReadReply, ReadReq, Refuse as Refusal, Replicate}
use Rattle.str_model.specs.declared.messages.Input.{Input}
use Rattle.str_model.specs.declared.messages.Input.TheVariants.{Deliver}
use Rattle.str_model.specs.declared.messages.Message.{Message}
use Rattle.str_model.specs.declared.names.KeyMark.{KeyMark}
use Rattle.str_model.specs.Proposals.{proposed}
use Rattle.str_model.specs.Views.{Doing, Own, View, letter, name_of}
use Rattle.str_scene.specs.Scenes.{Here, first_or, in_part, leads, others, replicas}
use Rattle.str_base.proofs.Members.{in_append, in_map}
use Rattle.str_base.specs.Members.{In}

abbrev pub AllBelow : ℕ → List Message → Type 0
AllBelow b ms = (m : Message) → In m ms → BodyBelow b m.body

pub one_below : (b : ℕ) (l : Message) → BodyBelow b l.body → AllBelow b (l ∷ [])
one_below b l h m (inl e) = subst (λ (z : Message). BodyBelow b z.body) e h
one_below b l h m (inr k) = absurd k

map_below : {A : Type 0} (b : ℕ) (f : A → Message) (xs : List A) → ((x : A) → In x xs → BodyBelow b (f x).body) → AllBelow b (map f xs)
map_below b f xs h m k = let r = in_map f xs m k in subst (λ (z : Message). BodyBelow b z.body) r.2 (h r.0 r.1)

module _ (here : Here) (input : Input) (w : Where) (b : ℕ) (big : reading_limit < b) (comes : (m : Message) → input ≡ Deliver m → is_valid here m ≡ true → BodyBelow b m.body) (c : ℕ) (le : b ≤ c) where
  older : (old new : List Message) → AllBelow b old → AllBelow c new → AllBelow c (old ++ new)
  older old new f g m k = elim (in_append old new m k) [ inl j ↦ body_higher b c m.body le (f m j) | inr j ↦ g m j ]

  same : (ms : List Message) → AllBelow b ms → AllBelow c ms
  same ms f m k = body_higher b c m.body le (f m k)

  asks_below : (i lc : ℕ) (x : Own) (p : PartId) (rs : List NodeId) → x.snap.rs < c → lc < c → AllBelow c (Acts.ask_letters here i lc x p rs)
  asks_below i lc x p rs r l =
      let ws : List Write = filter (in_part here.scene p) x.writes in
      if_elim (AllBelow c) (leads here.node rs) (map (λ (n : NodeId). letter here n (Replicate (name_of here i) p (stamp x.snap.rs) (stamp lc) ws)) (others here.node rs))
      (letter here (first_or here.node rs) (Prepare (name_of here i) p (stamp x.snap.rs) (stamp lc) ws) ∷ [])
      (λ e. map_below c (λ (n : NodeId). letter here n (Replicate (name_of here i) p (stamp x.snap.rs) (stamp lc) ws)) (others here.node rs) (λ n k. (r, l)))
      (λ e. one_below c (letter here (first_or here.node rs) (Prepare (name_of here i) p (stamp x.snap.rs) (stamp lc) ws)) (r, l))

  marks_below : (v : View) (p : PartId) (ws : List Write) → ViewBelow b v → (m : KeyMark) → In m (Acts.marks_in here v p ws) → m.mark.0 < c
  marks_below v p ws h m k =
      let r = in_map (λ (w : Write). record { key = w.key; mark = stamp (mark_of v.marks w.key) }) (filter (in_part here.scene p) ws) m k in
      let f = h.floor in
      let t = mark_below b v.marks r.0.key (omega (arith, f)) h.marks in omega (arith, t, le, ap (λ (z : KeyMark). z.mark.0) r.2)

  pub sent_act : (d e : Doing) (a : Act here input w d e) → b + rise here input w d e a ≤ c → ViewBelow b d.view → AllBelow b d.sent → AllBelow c e.sent
  unfolding begun marked aborted committed closed certified asked acked requested accepted taken refused waits replied commit_came abort_came
  sent_act d e (act_begin place rs d' r g) k h s = same d'.sent s
  sent_act d e (act_mark m t d' rd) k h s = same d'.sent s
  sent_act d e (act_put i x y d' own g) k h s = same d'.sent s
  sent_act d e (act_request i m n x d' own g) k h s =
      let r = (own_at b d'.view h i x own.0).rs in
      older d'.sent (letter here n (ReadReq (name_of here i) m (stamp x.snap.rs)) ∷ []) s (one_below c (letter here n (ReadReq (name_of here i) m (stamp x.snap.rs))) (omega (arith, r, le)))
  sent_act d e (act_certify i lc snap x d' own f n q) k h s = same d'.sent s
  sent_act d e (act_ask i lc p x d' own f l g) k h s =
      let o = own_at b d'.view h i x own.0 in
      let t = o.lc lc l in
      older d'.sent (Acts.ask_letters here i lc x p (replicas here.scene p)) s (asks_below i lc x p (replicas here.scene p) (omega (arith, o.rs, le)) (omega (arith, t, le)))
  sent_act d e (act_ack i lc from tx p ts parts x d' own m q g) k h s = same d'.sent s
  sent_act d e (act_abort i cause x d' own f y) k h s =
      older d'.sent (Acts.abort_letters here i x.parts) s (map_below c (λ (a : Asked). letter here a.node (Abort (name_of here i) a.part)) (Acts.asked_ones x.parts) (λ a j. tt))
  sent_act d e (act_commit i lc fc x d' own l n m f g) k h s =
      let t = gate_below b here d'.view lc fc x (own_at b d'.view h i x own.0) l g in
      older d'.sent (Acts.commit_letters here i x fc d'.view) s
      (map_below c (λ (a : Asked). letter here a.node (Commit (name_of here i) a.part (stamp fc) (Acts.marks_in here d'.view a.part x.writes))) x.parts
      (λ a j. (omega (arith, t, le), marks_below d'.view a.part x.writes h)))
  sent_act d e (act_close i x d' own p n) k h s = same d'.sent s
  sent_act d e (act_accept a ts d' g m) k h s =
      let k' : b + 1 ≤ c = k in
      let l = arrived_below here input w b big comes d' a h g in
      let p = proposed_below here input w b big comes c le d'.view a h l.1 k' in
      let q = accept_is here input w b big comes c le d'.view a ts m in
      older d'.sent (letter here a.tx.node (Ack a.tx a.part (stamp ts)) ∷ Acts.copies here a (replicas here.scene a.part)) s
      (λ z j. elim j [
        | inl y ↦ one_below c (letter here a.tx.node (Ack a.tx a.part (stamp ts))) (omega (arith, p, q)) z (inl y)
        | inr y ↦ map_below c (λ (n : NodeId). letter here n (Replicate a.tx a.part a.rs a.lc a.writes)) (others a.tx.node (others here.node (replicas here.scene a.part))) (λ n i. (omega (arith, l.0, le), omega (arith, l.1, le))) z y
      ])
  sent_act d e (act_refuse a u m d' g q) k h s = older d'.sent (letter here a.tx.node (Refusal a.tx a.part u m) ∷ []) s (one_below c (letter here a.tx.node (Refusal a.tx a.part u m)) tt)
  sent_act d e (act_take from a d' m t) k h s =
      let k' : b + 1 ≤ c = k in
      let l : a.lc.0 < b = (came_below here input w b big comes from (Replicate a.tx a.part a.rs a.lc a.writes) m).1 in
      older d'.sent (letter here a.tx.node (Ack a.tx a.part (stamp (proposed d'.view a))) ∷ []) s
      (one_below c (letter here a.tx.node (Ack a.tx a.part (stamp (proposed d'.view a)))) (proposed_below here input w b big comes c le d'.view a h l k'))
  sent_act d e (act_wait r d' g) k h s = same d'.sent s
  sent_act d e (act_unwait kept rest r d' g) k h s = same d'.sent s
  sent_act d e (act_reply tx m rs v u fc d' g) k h s =
      let t : fc < b = subst (λ z. ServeBelow b z) g.gives (serve_below b d'.view h m rs) in
      older d'.sent (letter here tx.node (ReadReply tx m v u (stamp fc)) ∷ []) s (one_below c (letter here tx.node (ReadReply tx m v u (stamp fc))) (omega (arith, t, le)))
  sent_act d e (act_commit_came from tx p fc ms d' m g) k h s = same d'.sent s
  sent_act d e (act_abort_came from tx p d' m g) k h s = same d'.sent s
