-- What each single change leaves of the work of a step: of a node's view and of the messages that the step has sent.
use Rattle.std.proofs.Common.{Bool, List, None, Option, Some, [], ap, arith, false, find, if◌then◌else◌, inl, inr, length, map, not, refl, slice_get, slice_set, subst, suc, sym, true, zero, ℕ, ◌&&◌, ◌*◌, ◌++◌, ◌+◌, ◌∙◌, ◌∷◌, ◌≡◌, ◌≤◌}
use Rattle.std.proofs.lemmas.List.Sums.{sum_by-append, sum_by-cons}
use Rattle.std.specs.List.{count_by, sum_by}
use Rattle.partition_map.specs.declared.rows.Asked.{Asked}
use Rattle.spsi_laws.proofs.Work.LeftHome.{Together, mine}
use Rattle.spsi_laws.proofs.Work.LeftOwn.{ask_left, certified_left, few_parts_left, left_aborted, left_certified, left_committed, left_global, left_of, named_left}
use Rattle.spsi_laws.proofs.Work.LeftSums.{count_set, sum_map_each}
use Rattle.str_base.specs.declared.names.Cause.{Cause}
use Rattle.str_base.specs.declared.names.KeyId.{KeyId}
use Rattle.str_base.specs.declared.names.NodeId.{NodeId}
use Rattle.str_base.specs.declared.names.PartId.{PartId}
use Rattle.dependency_set.specs.Snapshots.{Snap}
use Rattle.str_model.specs.Acts.{abort_letters, aborted, ask_letters, asked, asked_ones, certified, closed, commit_letters, committed, decided_as, in_phase, marked, marks_in, requested, with_asked}
use Rattle.str_model.specs.Gates.{Ask, DepParts, gate_turn}
use Rattle.str_model.specs.Views.{Aborted, Committed, Doing, Global, Local, Own, Remote, is_decided, lc_of, letter, name_of, put}
use Rattle.str_model.specs.Work.{body_weight, view_left, waiter_left}
use Rattle.str_model.specs.declared.messages.Body.TheVariants.{Abort, Commit, Prepare, ReadReq, Replicate}
use Rattle.str_model.specs.declared.messages.Message.{Message}
use Rattle.str_model.specs.declared.messages.Waiter.{Waiter}
use Rattle.str_scene.specs.declared.names.TxPlace.{TxPlace}
use Rattle.str_scene.specs.Scenes.{Here, Scene, first_or, leads, others, participants, replicas}
use Rattle.str_model.proofs.OwnFacts.ScriptsCovered.{ScriptGood}
use Rattle.str_model.proofs.OwnFacts.AtHome.{OwnGood}
use Rattle.str_base.proofs.Lists.{sum_by-set_got}
use Rattle.str_model.proofs.ViewFacts.GatesEnd.{gate_open}

-- what messages count for
unfoldable pub weights : Scene → List Message → ℕ
weights scene ms = sum_by (λ m. body_weight scene m.body) ms

-- what those who wait count for
unfoldable pub waits_left : Scene → List Waiter → ℕ
waits_left scene ws = sum_by (waiter_left scene) ws

unfoldable pub owns_left : Here → List Own → ℕ
owns_left here own = sum_by (left_of here) own

-- what is left of a node and of what its step has sent
unfoldable pub todo : Here → Doing → ℕ
todo here d = (owns_left here d.view.own + waits_left here.scene d.view.waiters) + weights here.scene d.sent

pub weights_append : (scene : Scene) (xs ys : List Message) → weights scene (xs ++ ys) ≡ weights scene xs + weights scene ys
unfolding weights
weights_append scene xs ys = sum_by-append (λ m. body_weight scene m.body) xs ys

pub weights_none : (scene : Scene) → weights scene [] ≡ 0
unfolding weights
weights_none scene = refl

pub weights_cons : (scene : Scene) (m : Message) (ms : List Message) → weights scene (m ∷ ms) ≡ body_weight scene m.body + weights scene ms
unfolding weights
weights_cons scene m ms = sum_by-cons (λ m. body_weight scene m.body) m ms

pub weights_map : {A : Type 0} (scene : Scene) (f : A → Message) (n : ℕ) (xs : List A) → ((x : A) → body_weight scene (f x).body ≡ n) → weights scene (map f xs) ≡ n * length xs
unfolding weights
weights_map scene f n xs h = sum_map_each (λ (m : Message). body_weight scene m.body) f n xs h

pub waits_append : (scene : Scene) (xs ys : List Waiter) → waits_left scene (xs ++ ys) ≡ waits_left scene xs + waits_left scene ys
unfolding waits_left
waits_append scene xs ys = sum_by-append (waiter_left scene) xs ys

pub waits_cons : (scene : Scene) (w : Waiter) (ws : List Waiter) → waits_left scene (w ∷ ws) ≡ waiter_left scene w + waits_left scene ws
unfolding waits_left
waits_cons scene w ws = sum_by-cons (waiter_left scene) w ws

pub waits_none : (scene : Scene) → waits_left scene [] ≡ 0
unfolding waits_left
waits_none scene = refl

-- a change that leaves less: after it, with the gain, no more than before with the cost; as many of each session have begun
pub record Eases (here : Here) (d e : Doing) (gain cost : ℕ) : Type 0 where
  pub less : todo here e + gain ≤ todo here d + cost
  pub begun : (s : ℕ) → count_by (mine s) e.view.own ≡ count_by (mine s) d.view.own

module _ (here : Here) where
  pub stays_eased : (d : Doing) → Eases here d d 0 0
  stays_eased d = record { less = omega arith; begun = λ s. refl }

  pub eases_then : (d e f : Doing) (g c : ℕ) → Eases here d e g c → Eases here e f 0 0 → Eases here d f g c
  eases_then d e f g c a b = record { less = omega (arith, a.less, b.less); begun = λ s. b.begun s ∙ a.begun s }

  pub then_eases : (d e f : Doing) (g c : ℕ) → Eases here d e 0 0 → Eases here e f g c → Eases here d f g c
  then_eases d e f g c a b = record { less = omega (arith, a.less, b.less); begun = λ s. b.begun s ∙ a.begun s }

  -- one own transaction changes, and messages are sent
  pub eases_own : (d e : Doing) (i : ℕ) (x y : Own) (ms : List Message) (g c : ℕ) → slice_get d.view.own i ≡ Some x → e.view.own ≡ slice_set d.view.own i y → y.place ≡ x.place
      → e.view.waiters ≡ d.view.waiters → e.sent ≡ d.sent ++ ms → left_of here y + weights here.scene ms + g ≤ left_of here x + c → Eases here d e g c
  unfolding todo owns_left
  eases_own d e i x y ms g c o q p w s l =
      record {
        less =
            let a = sum_by-set_got (left_of here) d.view.own i x y o in
            let b : sum_by (left_of here) e.view.own ≡ sum_by (left_of here) (slice_set d.view.own i y) = ap (λ xs. sum_by (left_of here) xs) q in
            let k : waits_left here.scene e.view.waiters ≡ waits_left here.scene d.view.waiters = ap (waits_left here.scene) w in
            let m : weights here.scene e.sent ≡ weights here.scene d.sent + weights here.scene ms = ap (weights here.scene) s ∙ weights_append here.scene d.sent ms in
            sums _ _ _ _ _ _ _ _ _ _ g c a b k m l;
        begun = λ n. ap (λ xs. count_by (mine n) xs) q ∙ count_set (mine n) d.view.own i x y o (ap (λ (t : TxPlace). Rattle.std.proofs.Common.◌==◌ t.session.0 n) p);
      }
    where
      sums : (os oy od ox oe we wd me md ms g c : ℕ) → os + ox ≡ od + oy → oe ≡ os → we ≡ wd → me ≡ md + ms → oy + ms + g ≤ ox + c → ((oe + we) + me) + g ≤ ((od + wd) + md) + c
      sums os oy od ox oe we wd me md ms g c a b k m l = omega (arith, a, b, k, m, l)

  -- those who wait change, and messages are sent
  pub eases_waits : (d e : Doing) (ms : List Message) (g c : ℕ) → e.view.own ≡ d.view.own → e.sent ≡ d.sent ++ ms
      → waits_left here.scene e.view.waiters + weights here.scene ms + g ≤ waits_left here.scene d.view.waiters + c → Eases here d e g c
  unfolding todo
  eases_waits d e ms g c q s l =
      record {
        less =
            let b : owns_left here e.view.own ≡ owns_left here d.view.own = ap (owns_left here) q in
            let m : weights here.scene e.sent ≡ weights here.scene d.sent + weights here.scene ms = ap (weights here.scene) s ∙ weights_append here.scene d.sent ms in
            omega (arith, b, m, l);
        begun = λ n. ap (λ xs. count_by (mine n) xs) q;
      }

  -- nothing is sent
  pub eases_put : (d : Doing) (i : ℕ) (x y : Own) (g c : ℕ) → slice_get d.view.own i ≡ Some x → y.place ≡ x.place → left_of here y + g ≤ left_of here x + c → Eases here d (put i y d) g c
  eases_put d i x y g c o p l =
      eases_own d (put i y d) i x y [] g c o refl p refl (sym (Rattle.std.proofs.Common.append-nil d.sent)) (let z = weights_none here.scene in omega (arith, z, l))

  -- marks count for nothing
  pub eases_mark : (k : KeyId) (t : ℕ) (d : Doing) → Eases here d (marked k t d) 0 0
  unfolding marked
  eases_mark k t d = eases_waits d (marked k t d) [] 0 0 refl (sym (Rattle.std.proofs.Common.append-nil d.sent)) (let z = weights_none here.scene in omega (arith, z))

  -- an abort
  pub eases_abort : (i : ℕ) (cause : Cause) (x : Own) (d : Doing) (g c : ℕ) → slice_get d.view.own i ≡ Some x → length (asked_ones x.parts) + g ≤ left_of here x + c → Eases here d (aborted here i cause x d) g c
  unfolding aborted
  eases_abort i cause x d g c o l =
      eases_own d (aborted here i cause x d) i x (decided_as (Aborted (lc_of x.phase) cause) x) (abort_letters here i x.parts) g c o refl refl refl refl
      (let a = left_aborted here (decided_as (Aborted (lc_of x.phase) cause) x) (lc_of x.phase) cause refl in
      let b = weights_map here.scene (λ (a : Asked). letter here a.node (Abort (name_of here i) a.part)) 1 (asked_ones x.parts) (λ z. refl) in
      omega (arith, a, b, l))

  -- a commit
  pub eases_commit : (i lc fc : ℕ) (x : Own) (d : Doing) → slice_get d.view.own i ≡ Some x → lc_of x.phase ≡ Some lc → is_decided x.phase ≡ false → Eases here d (committed here i lc fc x d) 0 0
  unfolding committed
  eases_commit i lc fc x d o l f =
      eases_own d (committed here i lc fc x d) i x (decided_as (Committed (Some lc) (Some fc)) x) (commit_letters here i x fc d.view) 0 0 o refl refl refl refl
      (let a = left_committed here (decided_as (Committed (Some lc) (Some fc)) x) (Some lc) (Some fc) refl in
      let b = weights_map here.scene (λ (a : Asked). letter here a.node (Commit (name_of here i) a.part (record { 0 = fc }) (marks_in here d.view a.part x.writes))) 1 x.parts (λ z. refl) in
      let k = few_parts_left here x lc l f in
      omega (arith, a, b, k))

  -- a commit without writes
  pub eases_close : (i : ℕ) (x : Own) (d : Doing) → slice_get d.view.own i ≡ Some x → Eases here d (closed here i x d) 0 0
  unfolding closed
  eases_close i x d o =
      eases_own d (closed here i x d) i x (decided_as (Committed None None) x) [] 0 0 o refl refl refl (sym (Rattle.std.proofs.Common.append-nil d.sent))
      (let a = left_committed here (decided_as (Committed None None) x) None None refl in
      let z = weights_none here.scene in
      omega (arith, a, z))

  -- a certification
  pub eases_certify : (i lc : ℕ) (snap : Snap) (x : Own) (d : Doing) (g : ℕ) → slice_get d.view.own i ≡ Some x → ScriptGood here x → named_left here x.place + g ≤ left_of here x
      → Eases here d (certified here i lc snap x d) g 0
  unfolding certified
  eases_certify i lc snap x d g o s l =
      eases_own d (certified here i lc snap x d) i x (record x { snap = snap; parts = participants here.scene here.node x.writes; phase = Local lc }) [] g 0 o refl refl refl (sym (Rattle.std.proofs.Common.append-nil d.sent))
      (let a = certified_left here x lc snap s in
      let z = weights_none here.scene in
      omega (arith, a, z, l))

  -- a read goes away
  pub eases_request : (i : ℕ) (k : KeyId) (master : NodeId) (x : Own) (d : Doing) (g : ℕ) → slice_get d.view.own i ≡ Some x → left_of here (in_phase (Remote k) x) + 2 + g ≤ left_of here x
      → Eases here d (requested here i k master x d) g 0
  unfolding requested
  eases_request i k master x d g o l =
      let ms : List Message = letter here master (ReadReq (name_of here i) k (record { 0 = x.snap.rs })) ∷ [] in
      eases_own d (requested here i k master x d) i x (in_phase (Remote k) x) ms g 0 o refl refl refl refl
      (let a = weights_cons here.scene (letter here master (ReadReq (name_of here i) k (record { 0 = x.snap.rs }))) [] in
      let z = weights_none here.scene in
      omega (arith, a, z, l))

  -- what a partition is asked with counts for 2 for each of its participants
  ask_weight : (i lc : ℕ) (x : Own) (p : PartId) → weights here.scene (ask_letters here i lc x p (replicas here.scene p)) ≡ 2 * length (others here.node (replicas here.scene p))
  ask_weight i lc x p = by_test (leads here.node (replicas here.scene p)) refl
    where
      by_test : (b : Bool) → leads here.node (replicas here.scene p) ≡ b → weights here.scene (ask_letters here i lc x p (replicas here.scene p)) ≡ 2 * length (others here.node (replicas here.scene p))
      by_test true q = rw q (weights_map here.scene (λ (r : NodeId). letter here r (Replicate (name_of here i) p (record { 0 = x.snap.rs }) (record { 0 = lc }) (Rattle.std.proofs.Common.filter (Rattle.str_scene.specs.Scenes.in_part here.scene p) x.writes))) 2 (others here.node (replicas here.scene p)) (λ z. refl))
      by_test false q =
          rw q (let m : Message = letter here (first_or here.node (replicas here.scene p)) (Prepare (name_of here i) p (record { 0 = x.snap.rs }) (record { 0 = lc }) (Rattle.std.proofs.Common.filter (Rattle.str_scene.specs.Scenes.in_part here.scene p) x.writes)) in
          let a = weights_cons here.scene m [] in
          let z = weights_none here.scene in
          omega (arith, a, z))

  -- a partition is asked
  pub eases_ask : (i lc : ℕ) (p : PartId) (x : Own) (d : Doing) (wrote : List DepParts) → slice_get d.view.own i ≡ Some x → is_decided x.phase ≡ false → lc_of x.phase ≡ Some lc
      → gate_turn x.snap lc x.parts wrote ≡ Ask p → OwnGood here d.view.versions i x → Together x.parts → Eases here d (asked here i lc p x d) 0 0
  unfolding asked
  eases_ask i lc p x d wrote o f l e g t =
      let r = gate_open x.snap lc x.parts wrote p e in
      eases_own d (asked here i lc p x d) i x (record x { parts = with_asked p x.parts; phase = Global lc }) (ask_letters here i lc x p (replicas here.scene p)) 0 0 o refl refl refl refl
      (let a = left_global here (record x { parts = with_asked p x.parts; phase = Global lc }) lc refl in
      let b = left_certified here x lc l f in
      let w = ask_weight i lc x p in
      let k : sum_by Rattle.str_model.specs.Work.part_left (with_asked p x.parts) + 2 * length (others here.node (replicas here.scene p)) ≤ sum_by Rattle.str_model.specs.Work.part_left x.parts =
      subst (λ (q : PartId). sum_by Rattle.str_model.specs.Work.part_left (with_asked q x.parts) + 2 * length (others here.node (replicas here.scene q)) ≤ sum_by Rattle.str_model.specs.Work.part_left x.parts) r.2
      (ask_left here d.view.versions i lc x r.0 g t l r.1 r.3) in
      omega (arith, a, b, w, k))
