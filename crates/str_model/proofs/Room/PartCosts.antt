-- What single parts of a step add: versions, list items, messages and answers.
use Rattle.std.proofs.Common.{Bool, List, None, Option, Some, [], ap, arith, false, filter, if◌then◌else◌, leb-true, length, length-append, ltb-true, map, nat_le, nat_lt, not, refl, subst, true, ℕ, ◌&&◌, ◌+◌, ◌∙◌, ◌∷◌, ◌≡◌, ◌≤◌}
use Rattle.std.proofs.lemmas.List.{length-map}
use Rattle.partition_map.specs.declared.rows.Asked.{Asked}
use Rattle.partition_map.proofs.Few.{participants_few, row_few, written_few}
use Rattle.partition_map.specs.Maps.{is_written}
use Rattle.str_base.specs.declared.names.Cause.{Cause}
use Rattle.str_base.specs.declared.names.KeyId.{KeyId}
use Rattle.str_base.specs.declared.names.NodeId.{NodeId}
use Rattle.str_base.specs.declared.names.PartId.{PartId}
use Rattle.str_base.specs.declared.names.Write.{Write}
use Rattle.dependency_set.specs.Snapshots.{Snap}
use Rattle.str_model.specs.declared.messages.Answer.{Answer}
use Rattle.str_model.specs.declared.messages.Arrived.{Arrived}
use Rattle.str_base.specs.Versions.{same_node, same_part, stamp}
use Rattle.str_model.specs.declared.messages.Body.TheVariants.{Abort, Commit, Prepare, ReadReq, Replicate}
use Rattle.str_model.specs.declared.messages.Message.{Message}
use Rattle.str_model.specs.declared.messages.Outcome.TheVariants.{Aborted as Aborts, Committed as Commits}
use Rattle.str_model.specs.Acts.{abort_letters, aborted, answer_of, ask_letters, asked, asked_ones, certified, closed, commit_letters, committed, copies, marked, marks_in, requested}
use Rattle.str_model.specs.NodeFacts.{MomentFacts, how_many, one_if, seats}
use Rattle.str_model.specs.Owned.{Owns}
use Rattle.str_model.specs.Strange.{has_node}
use Rattle.str_model.specs.Views.{Doing, Own, View, lc_of, letter, name_of, put, release}
use Rattle.str_scene.proofs.Mapped.{is-mapped, participants-mapped}
use Rattle.str_scene.specs.SceneLimits.{Exists, IsScene}
use Rattle.str_scene.specs.Scenes.{Here, all_parts, first_or, in_part, leads, map_of, others, part_of, participants, replicas, unasked, written_parts}
use Rattle.str_model.proofs.Changes.SnapshotsGain.{if_elim}
use Rattle.str_model.proofs.ViewFacts.GatesEnd.{many_mono, open_at, to_ask}
use Rattle.str_model.proofs.Room.SmallNumbers.{writes_few}
use Rattle.str_model.proofs.Changes.PairWords.{any_has}
use Rattle.str_base.proofs.SameNames.{same_part-is}
use Rattle.str_base.proofs.Tests.{and_true_left, and_true_right}
use Rattle.str_base.proofs.Members.{in_filter, in_flat_map, in_map, map_in}
use Rattle.str_base.proofs.Lists.{length-filter-le}
use Rattle.str_base.specs.Members.{In}

-- how much a step has added so far
abbrev pub cost : Doing → ℕ
cost d = d.added + (length d.sent + length d.released)

-- at most n more was added, and the same wait
pub record Grew (n : ℕ) (d e : Doing) : Type 0 where
  pub cost_is : cost e ≤ cost d + n
  pub waiters : e.view.waiters ≡ d.view.waiters

pub grew_none : (d : Doing) → Grew 0 d d
grew_none d = record { cost_is = omega arith; waiters = refl }

pub grew_more : (n m k : ℕ) (d e f : Doing) → n + m ≤ k → Grew n d e → Grew m e f → Grew k d f
grew_more n m k d e f le a b = record { cost_is = (let p = a.cost_is in let q = b.cost_is in omega (arith, le, p, q)); waiters = b.waiters ∙ a.waiters }

pub grew_within : (n k : ℕ) (d e : Doing) → n ≤ k → Grew n d e → Grew k d e
grew_within n k d e le a = record { cost_is = (let p = a.cost_is in omega (arith, le, p)); waiters = a.waiters }

pub release-length : (a : Answer) (bs : List Answer) → length (release a bs) ≡ length bs + 1
release-length a [] = refl
release-length a (b ∷ bs) =
    if_elim (λ zs. length zs ≡ length (b ∷ bs) + 1) (nat_lt a.tx.seq b.tx.seq) (a ∷ b ∷ bs) (b ∷ release a bs) (λ e. omega arith) (λ e. let r = release-length a bs in omega (arith, r))

filter_many : {A : Type 0} (p : A → Bool) (xs : List A) → length (filter p xs) ≡ how_many p xs
filter_many p [] = refl
filter_many {A = A} p (x ∷ xs) = by_test (p x) (filter_many p xs)
  where
    by_test : (b : Bool) → length (filter p xs) ≡ how_many p xs → length (if b then x ∷ filter p xs else filter p xs) ≡ one_if b + how_many p xs
    by_test true r = omega (arith, r)
    by_test false r = omega (arith, r)

-- ---- by the scene

module _ (here : Here) (ok : IsScene here.scene) (exists : has_node here here.node ≡ true) where
  there : Exists here.node.0 8
  there = node_exists
    where
      node_exists : Exists here.node.0 8
      node_exists =
          let a = ltb-true 0 here.node.0 (and_true_left (nat_lt 0 here.node.0) (nat_le here.node.0 here.scene.nodes) exists) in
          let b = leb-true here.node.0 here.scene.nodes (and_true_right (nat_lt 0 here.node.0) (nat_le here.node.0 here.scene.nodes) exists) in
          (omega (arith, a), omega (arith, b, ok.nodes.1))

  -- at most 7 other replicas
  pub others_seven : (p : PartId) → length (others here.node (replicas here.scene p)) ≤ 7
  others_seven p = row_few (map_of here.scene) here.node p (is-mapped here.scene ok) there

  pub copies_seven : (a : Arrived) → length (copies here a (replicas here.scene a.part)) ≤ 7
  copies_seven a =
      let s = others_seven a.part in
      let f = length-filter-le (λ (r : NodeId). not (same_node r a.tx.node)) (others here.node (replicas here.scene a.part)) in
      let m : length (copies here a (replicas here.scene a.part)) ≡ length (others a.tx.node (others here.node (replicas here.scene a.part))) = length-map (others a.tx.node (others here.node (replicas here.scene a.part))) _ in
      omega (arith, s, f, m)

  -- at most 112 participants
  pub participants_seats : (ws : List Write) → length ws ≤ 16 → length (participants here.scene here.node ws) ≤ 112
  participants_seats ws le =
      let a = participants_few (map_of here.scene) here.node ws (is-mapped here.scene ok) there le in
      let b : length _ ≡ length (participants here.scene here.node ws) = ap length (participants-mapped here.scene here.node ws) in omega (arith, a, b)

  seats_length : (xs : List Asked) → length (seats xs) ≡ length xs
  seats_length xs = length-map xs _

  module _ (v : View) (h : MomentFacts here v) (i : ℕ) (x : Own) (own : Owns v i x) where
    pub parts_few : length x.parts ≤ 112
    parts_few = by_lc (lc_of x.phase) refl
      where
        by_lc : (o : Option ℕ) → lc_of x.phase ≡ o → length x.parts ≤ 112
        by_lc None e = let q : length x.parts ≡ 0 = ap length ((h.homes i x own).none e) in omega (arith, q)
        by_lc (Some lc) e =
            let s : length (seats x.parts) ≡ length (seats (participants here.scene here.node x.writes)) = ap length ((h.homes i x own).seats_are lc e) in
            let p = participants_seats x.writes (writes_few here ok v h i x own) in
            let a = seats_length x.parts in
            let b = seats_length (participants here.scene here.node x.writes) in omega (arith, s, p, a, b)

    -- a partition with a participant that is not asked is written
    open_written : (lc : ℕ) → lc_of x.phase ≡ Some lc → (q : PartId) → open_at x.parts q ≡ true → is_written (part_of here.scene) x.writes q ≡ true
    open_written lc e q o =
        let r = any_has (λ (a : Asked). same_part a.part q && not a.asked) x.parts o in
        let s = map_in {A = Asked} (λ (b : Asked). (b.part, b.node)) x.parts r.0 r.1 in
        let t = in_map {A = Asked} (λ (b : Asked). (b.part, b.node)) (participants here.scene here.node x.writes) (r.0.part, r.0.node) (subst (λ zs. In (r.0.part, r.0.node) zs) ((h.homes i x own).seats_are lc e) s) in
        let u = in_flat_map (λ (p : PartId). map (unasked p) (others here.node (replicas here.scene p))) (written_parts here.scene x.writes) t.0 t.1 in
        let m = in_map (unasked u.0) (others here.node (replicas here.scene u.0)) t.0 u.2 in
        let w : is_written (part_of here.scene) x.writes u.0 ≡ true = (in_filter (λ p. is_written (part_of here.scene) x.writes p) (all_parts here.scene) u.0 u.1).1 in
        let p : u.0 ≡ q = ap (λ (z : Asked). z.part) m.2 ∙ (ap (λ z. z.0) t.2 ∙ same_part-is r.0.part q (and_true_left (same_part r.0.part q) (not r.0.asked) r.2)) in
        subst (λ z. is_written (part_of here.scene) x.writes z ≡ true) p w

    -- at most 16 partitions are left to be asked
    pub to_ask_few : to_ask here.scene x.parts ≤ 16
    to_ask_few = by_lc (lc_of x.phase) refl
      where
        none_open : (ps : List PartId) → how_many (open_at []) ps ≡ 0
        none_open [] = refl
        none_open (p ∷ ps) = let r = none_open ps in omega (arith, r)

        by_lc : (o : Option ℕ) → lc_of x.phase ≡ o → to_ask here.scene x.parts ≤ 16
        by_lc None e = let q : to_ask here.scene x.parts ≡ 0 = ap (to_ask here.scene) ((h.homes i x own).none e) ∙ none_open (all_parts here.scene) in omega (arith, q)
        by_lc (Some lc) e =
            let a = many_mono (open_at x.parts) (λ p. is_written (part_of here.scene) x.writes p) (all_parts here.scene) (open_written lc e) in
            let b = filter_many (λ p. is_written (part_of here.scene) x.writes p) (all_parts here.scene) in
            let c = written_few (part_of here.scene) here.scene.parts x.writes in
            let d = writes_few here ok v h i x own in omega (arith, a, b, c, d)

-- ---- single changes

module _ (here : Here) (i : ℕ) where
  pub put_cost : (y : Own) (d : Doing) → Grew 0 d (put i y d)
  put_cost y d = record { cost_is = omega arith; waiters = refl }

  pub marked_cost : (k : KeyId) (t : ℕ) (d : Doing) → Grew 0 d (marked k t d)
  unfolding marked
  marked_cost k t d = record { cost_is = omega arith; waiters = refl }

  pub requested_cost : (k : KeyId) (m : NodeId) (x : Own) (d : Doing) → Grew 1 d (requested here i k m x d)
  unfolding requested
  requested_cost k m x d = record { cost_is = (let a = length-append d.sent (letter here m (ReadReq (name_of here i) k (stamp x.snap.rs)) ∷ []) in omega (arith, a)); waiters = refl }

  pub certified_cost : (lc : ℕ) (snap : Snap) (x : Own) (d : Doing) → length x.writes ≤ 16 → Grew 16 d (certified here i lc snap x d)
  unfolding certified
  certified_cost lc snap x d le = record { cost_is = omega (arith, le); waiters = refl }

  pub aborted_cost : (n : ℕ) (cause : Cause) (x : Own) (d : Doing) → length x.parts ≤ n → Grew (n + 1) d (aborted here i cause x d)
  unfolding aborted
  aborted_cost n cause x d le =
      record {
        cost_is = (let a = length-append d.sent (abort_letters here i x.parts) in
            let b : length (abort_letters here i x.parts) ≡ length (asked_ones x.parts) = length-map (asked_ones x.parts) (λ (a : Asked). letter here a.node (Abort (name_of here i) a.part)) in
            let c = length-filter-le (λ (a : Asked). a.asked) x.parts in
            let e = release-length (answer_of here i x (Aborts cause)) d.released in omega (arith, le, a, b, c, e));
        waiters = refl;
      }

  pub closed_cost : (x : Own) (d : Doing) → Grew 1 d (closed here i x d)
  unfolding closed
  closed_cost x d = record { cost_is = (let e = release-length (answer_of here i x (Commits None x.gets)) d.released in omega (arith, e)); waiters = refl }

  pub committed_cost : (lc fc : ℕ) (x : Own) (d : Doing) → length x.parts ≤ 112 → Grew 113 d (committed here i lc fc x d)
  unfolding committed
  committed_cost lc fc x d le =
      record {
        cost_is = (let a = length-append d.sent (commit_letters here i x fc d.view) in
            let b : length (commit_letters here i x fc d.view) ≡ length x.parts = length-map x.parts (λ (a : Asked). letter here a.node (Commit (name_of here i) a.part (stamp fc) (marks_in here d.view a.part x.writes))) in
            let e = release-length (answer_of here i x (Commits (Some (stamp fc)) x.gets)) d.released in omega (arith, le, a, b, e));
        waiters = refl;
      }

  ask_few : (lc : ℕ) (x : Own) (p : PartId) (rs : List NodeId) → length (others here.node rs) ≤ 7 → length (ask_letters here i lc x p rs) ≤ 7
  ask_few lc x p rs le =
      let ws = filter (in_part here.scene p) x.writes in
      let f : NodeId → Message = λ r. letter here r (Replicate (name_of here i) p (stamp x.snap.rs) (stamp lc) ws) in
      if_elim (λ (zs : List Message). length zs ≤ 7) (leads here.node rs) (map f (others here.node rs))
      (letter here (first_or here.node rs) (Prepare (name_of here i) p (stamp x.snap.rs) (stamp lc) ws) ∷ []) (λ e. let b = length-map (others here.node rs) f in omega (arith, b, le)) (λ e. omega arith)

  pub asked_cost : (lc : ℕ) (p : PartId) (x : Own) (d : Doing) → length (others here.node (replicas here.scene p)) ≤ 7 → Grew 7 d (asked here i lc p x d)
  unfolding asked
  asked_cost lc p x d le =
      record { cost_is = (let a = length-append d.sent (ask_letters here i lc x p (replicas here.scene p)) in let b = ask_few lc x p (replicas here.scene p) le in omega (arith, a, b)); waiters = refl }
