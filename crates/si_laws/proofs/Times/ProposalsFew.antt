-- At most 1024 * 113 proposals are made: one for each transaction, and one for each of its participants.
use Rattle.partition_map.specs.declared.rows.Asked.{Asked}
use Rattle.si_laws.proofs.Times.AcksOnce.{AckKey, AcksOnce, ack_keys, acks_once, in_keys, keys_length}
use Rattle.si_laws.proofs.Times.TimesBounded.{times_below}
use Rattle.si_laws.proofs.Times.NoRepeats.{fits, map_length}
use Rattle.si_laws.proofs.Stages.LinkedStates.{Acknowledged, Told}
use Rattle.si_laws.proofs.Times.BegunFew.{few_begin, own_total}
use Rattle.si_laws.proofs.Times.ProposalsCounted.{acks_in, certified_in}
use Rattle.str_model.proofs.OwnFacts.ScriptsCovered.{scripts_after}
use Rattle.si_laws.proofs.Times.ParticipantsFew.{few_parts}
use Rattle.si_laws.proofs.Stages.ParticipantSeats.{seat_of}
use Rattle.si_laws.proofs.Sessions.SessionHolds.{good_everywhere}
use Rattle.str_model.proofs.Principle.Everywhere.{Stage, at_place, stage_of}
use Rattle.si_laws.specs.Laws.Times.{TimesBounded}
use Rattle.si_laws.specs.Numbers.{all_times, proposals}
use Rattle.std.proofs.Common.{List, Some, [], ap, arith, eqb-true, length, length-append, map, refl, slice_get, subst, subst₂, suc, sym, true, zero, ℕ, ◌*◌, ◌++◌, ◌+◌, ◌∙◌, ◌∷◌, ◌≡◌, ◌≢◌, ◌≤◌}
use Rattle.std.proofs.lemmas.List.Sums.{count_by-le-length, sum_by-cons}
use Rattle.std.proofs.lemmas.Option.{slice_get_within}
use Rattle.std.specs.List.{sum_by}
use Rattle.std.specs.Prelude.{is_some}
use Rattle.str_base.specs.declared.names.NodeId.{NodeId}
use Rattle.str_base.specs.declared.names.PartId.{PartId}
use Rattle.str_base.specs.declared.names.Ts.{Ts}
use Rattle.str_base.specs.declared.names.TxId.{TxId}
use Rattle.str_model.specs.declared.messages.Body.{Body}
use Rattle.str_model.specs.declared.messages.Body.TheVariants.{Ack}
use Rattle.str_model.specs.Runs.{run}
use Rattle.str_model.specs.Views.{Own, View, lc_of, name_of}
use Rattle.str_scene.specs.declared.names.Event.{Event}
use Rattle.str_scene.specs.SceneLimits.{Exists, IsScene}
use Rattle.str_scene.specs.Scenes.{Scene, hosts, in_part, part_of}
use Rattle.str_base.proofs.Members.{in_at, in_filter, in_left, in_right, map_in}
use Rattle.str_base.specs.Members.{In}
use Rattle.str_base.proofs.SameNames.{part_by_number}

-- a seat of the i-th transaction of the n-th node
abbrev seat_key : Scene → ℕ → ℕ → Asked → AckKey
seat_key scene n i a = record { tx = name_of (at_place scene n) i; part = a.part; node = a.node }

-- the seats of a node's transactions, where the first one has the place i
abbrev own_seats : Scene → ℕ → ℕ → List Own → List AckKey
own_seats scene n i [] = []
own_seats scene n i (x ∷ own) = map (seat_key scene n i) x.parts ++ own_seats scene n (suc i) own

-- those of all nodes, where the first one has the place n
abbrev all_seats : Scene → ℕ → List View → List AckKey
all_seats scene n [] = []
all_seats scene n (v ∷ vs) = own_seats scene n 0 v.own ++ all_seats scene (suc n) vs

own_length : (scene : Scene) (n i : ℕ) (own : List Own) → ((j : ℕ) (x : Own) → slice_get own j ≡ Some x → length x.parts ≤ 112) → length (own_seats scene n i own) ≤ 112 * length own
own_length scene n i [] f = omega arith
own_length scene n i (x ∷ own) f =
    let rec = own_length scene n (suc i) own (λ j y g. f (suc j) y g) in
    let a = length-append (map (seat_key scene n i) x.parts) (own_seats scene n (suc i) own) in
    let m : length (map (seat_key scene n i) x.parts) ≡ length x.parts = map_length (seat_key scene n i) x.parts in
    let c = f 0 x refl in omega (arith, rec, a, m, c)

all_length : (scene : Scene) (n : ℕ) (vs : List View) → ((k j : ℕ) (v : View) (x : Own) → slice_get vs k ≡ Some v → slice_get v.own j ≡ Some x → length x.parts ≤ 112)
    → length (all_seats scene n vs) ≤ 112 * own_total vs
all_length scene n [] f = omega arith
all_length scene n (v ∷ vs) f =
    let rec = all_length scene (suc n) vs (λ k j u x g h. f (suc k) j u x g h) in
    let a = length-append (own_seats scene n 0 v.own) (all_seats scene (suc n) vs) in
    let c = own_length scene n 0 v.own (λ j x g. f 0 j v x refl g) in omega (arith, rec, a, c)

in_own : (scene : Scene) (n i j : ℕ) (own : List Own) (x : Own) (a : Asked) → slice_get own j ≡ Some x → In a x.parts → In (seat_key scene n (i + j) a) (own_seats scene n i own)
in_own scene n i j [] x a g h = absurd (cc g)
in_own scene n i zero (y ∷ own) x a g h =
    let is : y ≡ x = cc g in
    let same : i ≡ i + 0 = omega arith in
    in_left (map (seat_key scene n i) y.parts) (own_seats scene n (suc i) own) (seat_key scene n (i + 0) a)
    (subst (λ (m : ℕ). In (seat_key scene n m a) (map (seat_key scene n i) y.parts)) same (map_in (seat_key scene n i) y.parts a (subst (λ (z : Own). In a z.parts) (sym is) h)))
in_own scene n i (suc j) (y ∷ own) x a g h =
    let same : suc i + j ≡ i + suc j = omega arith in
    in_right (map (seat_key scene n i) y.parts) (own_seats scene n (suc i) own) (seat_key scene n (i + suc j) a)
    (subst (λ (m : ℕ). In (seat_key scene n m a) (own_seats scene n (suc i) own)) same (in_own scene n (suc i) j own x a g h))

in_all : (scene : Scene) (n k j : ℕ) (vs : List View) (v : View) (x : Own) (a : Asked) → slice_get vs k ≡ Some v → slice_get v.own j ≡ Some x → In a x.parts
    → In (seat_key scene (n + k) j a) (all_seats scene n vs)
in_all scene n k j [] v x a g h p = absurd (cc g)
in_all scene n zero j (u ∷ vs) v x a g h p =
    let is : u ≡ v = cc g in
    let same : n ≡ n + 0 = omega arith in
    in_left (own_seats scene n 0 u.own) (all_seats scene (suc n) vs) (seat_key scene (n + 0) j a)
    (subst₂ (λ (m i : ℕ). In (seat_key scene m i a) (own_seats scene n 0 u.own)) same (omega arith) (in_own scene n 0 j u.own x a (subst (λ (z : View). slice_get z.own j ≡ Some x) (sym is) h) p))
in_all scene n (suc k) j (u ∷ vs) v x a g h p =
    let same : suc n + k ≡ n + suc k = omega arith in
    in_right (own_seats scene n 0 u.own) (all_seats scene (suc n) vs) (seat_key scene (n + suc k) j a)
    (subst (λ (m : ℕ). In (seat_key scene m j a) (all_seats scene (suc n) vs)) same (in_all scene (suc n) k j vs v x a g h p))

-- ---- counts

certified_few : (vs : List View) → sum_by (λ (v : View). certified_in v.own) vs ≤ own_total vs
certified_few [] = omega arith
certified_few (v ∷ vs) =
    let rec = certified_few vs in
    let c = sum_by-cons (λ (v : View). certified_in v.own) v vs in
    let l = count_by-le-length (λ (x : Own). is_some (lc_of x.phase)) v.own in omega (arith, rec, c, l)

-- each Ack is of a participant
ack_seat : (scene : Scene) (s : Stage) → AcksOnce scene s → (k : AckKey) → In k (ack_keys s.sent) → In k (all_seats scene 0 s.nodes)
ack_seat scene s h k j =
    let r = in_keys s.sent k j in
    let t : Told scene s r.0.sender r.0.receiver (Ack k.tx k.part r.2) = subst (λ (b : Body). Told scene s r.0.sender r.0.receiver b) r.3 (h.linked_.told r.0 r.1) in
    of_ack r.0.sender r.2 r.4 t
  where
    of_ack : (from : NodeId) (ts : Ts) → from ≡ k.node → Acknowledged scene s from k.tx k.part ts → In k (all_seats scene 0 s.nodes)
    of_ack from ts q t =
        let c = t.certified in
        let f = in_filter (in_part scene k.part) t.all t.some.0 t.some.1 in
        let part : part_of scene t.some.0.key ≡ k.part = part_by_number (part_of scene t.some.0.key) k.part (eqb-true (part_of scene t.some.0.key).0 k.part.0 f.1) in
        let w_in : In t.some.0 c.x.writes = subst (In t.some.0) (sym c.writes) f.0 in
        let hosted : hosts scene k.node (part_of scene t.some.0.key) ≡ true = subst (λ (p : PartId). hosts scene k.node p ≡ true) (sym part) (h.hosted k j) in
        let other : k.node.0 ≢ c.n + 1 = λ e. t.foreign (ap (λ (z : TxId). z.node.0) c.name ∙ (sym e ∙ (ap (λ (z : NodeId). z.0) (sym q) ∙ ap (λ (z : NodeId). z.0) t.sender))) in
        let a = seat_of (at_place scene c.n) c.view.versions c.i t.lc c.x (h.linked_.home c.n c.view c.there c.i c.x c.own) c.lc_is t.some.0 w_in k.node hosted other in
        let i : In (seat_key scene (0 + c.n) c.i a.0) (all_seats scene 0 s.nodes) = in_all scene 0 c.n c.i s.nodes c.view c.x a.0 c.there c.own a.1 in
        let i' : In (seat_key scene c.n c.i a.0) (all_seats scene 0 s.nodes) = subst (λ (m : ℕ). In (seat_key scene m c.i a.0) (all_seats scene 0 s.nodes)) (omega arith) i in
        subst (λ (z : AckKey). In z (all_seats scene 0 s.nodes)) (same_key_ (seat_key scene c.n c.i a.0) k (sym c.name) (a.2 ∙ part) a.3) i'
      where
        same_key_ : (a b : AckKey) → a.tx ≡ b.tx → a.part ≡ b.part → a.node ≡ b.node → a ≡ b
        same_key_ a b x y z = λ j. record { tx = x j; part = y j; node = z j }

pub few_proposals : (scene : Scene) → IsScene scene → (es : List Event) → proposals (run scene es) ≤ 1024 * 113
few_proposals scene ok es =
    let s : Stage = stage_of (run scene es) in
    let h = acks_once scene es in
    let fit = fits (ack_keys s.sent) (all_seats scene 0 s.nodes) h.once (ack_seat scene s h) in
    let l = all_length scene 0 s.nodes (λ k j v x g o. few_parts (at_place scene k) ok (there k v g) v.versions j x (h.linked_.home k v g j x o) (scripts_after scene ok es k v g j x o)) in
    let a = keys_length s.sent in
    let c = certified_few s.nodes in
    let n = few_begin scene ok es in
    total (sum_by (λ (v : View). certified_in v.own) s.nodes) (acks_in s.sent) (own_total s.nodes) (length (ack_keys s.sent)) (length (all_seats scene 0 s.nodes)) fit l a c n
  where
    there : (k : ℕ) (v : View) → slice_get (run scene es).nodes k ≡ Some v → Exists (k + 1) scene.nodes
    there k v g =
        let l = slice_get_within (run scene es).nodes k v g in
        let c = (good_everywhere scene es).count in (omega arith, omega (arith, l, c))

    total : (a b t k z : ℕ) → k ≤ z → z ≤ 112 * t → k ≡ b → a ≤ t → t ≤ 1024 → a + b ≤ 1024 * 113
    total a b t k z p q r s u = omega (arith, p, q, r, s, u)

-- the law
pub times_bounded : TimesBounded
times_bounded scene ok es = (λ i t g. times_below scene es t (in_at (all_times (run scene es)) i t g), few_proposals scene ok es)
