-- What a turn adds: at most 242, and nothing where its transaction is decided or waits for its client.
use Rattle.std.proofs.Common.{Bool, None, Option, Some, ap, arith, false, if◌then◌else◌, length, refl, slice_get, slice_set, subst, suc, sym, true, zero, ℕ, ◌*◌, ◌+◌, ◌∙◌, ◌≡◌, ◌≤◌, ◌||◌}
use Rattle.std.proofs.lemmas.List.{length-map}
use Rattle.partition_map.specs.declared.rows.Asked.{Asked}
use Rattle.str_base.specs.declared.names.Cause.{Cause}
use Rattle.str_base.specs.declared.names.Cause.TheVariants.{Wish}
use Rattle.str_base.specs.declared.names.KeyId.{KeyId}
use Rattle.str_base.specs.declared.names.PartId.{PartId}
use Rattle.str_model.specs.declared.messages.Input.{Input}
use Rattle.str_base.specs.Versions.{same_part}
use Rattle.str_model.specs.Acts.{aborted, asked, decided_as, marked, with_asked}
use Rattle.str_model.specs.Gates.{Ask, CommitAt, GateTurn, Missing, Shut, gate_of}
use Rattle.str_model.specs.NodeFacts.{MomentFacts}
use Rattle.str_model.specs.Owned.{Owns}
use Rattle.str_model.specs.Pass.{gates, gates_in, half_turn, is_empty, pass_to, turn}
use Rattle.str_model.specs.Pass
use Rattle.str_model.specs.Scripts.{at_own, certify_now, read_now, with_value}
use Rattle.str_model.specs.Scripts
use Rattle.str_model.specs.Strange.{has_node}
use Rattle.str_model.specs.Turns.{Away, CertTurn, Certified, Conflict, DepTurn, Keep, Late, Lost, Plain, ReadTurn, Speculative, Wait, WaitGate, cert_turn, dep_turn, left_by, read_turn, reply_turn}
use Rattle.str_model.specs.Views.{Aborted, Active, CertWait, Closing, Committed, Doing, Global, Local, Own, Phase, ReadWait, Remote, Reply, is_decided, lc_of, put}
use Rattle.str_scene.specs.SceneLimits.{IsScene}
use Rattle.str_scene.specs.Scenes.{Here, participants}
use Rattle.str_model.proofs.Principle.SingleChanges.{InTurn}
use Rattle.str_model.proofs.Principle.StepPaths.{first-path, half_turn-path, resolved_first}
use Rattle.str_model.proofs.Room.PartCosts.{Grew, aborted_cost, asked_cost, certified_cost, closed_cost, committed_cost, grew_more, grew_none, grew_within, marked_cost, others_seven, parts_few, put_cost, requested_cost, to_ask_few}
use Rattle.str_model.proofs.ViewFacts.GatesEnd.{Asks, OfScene, asks_next, participants_of, seats_of}
use Rattle.str_model.proofs.ViewFacts.NodeKept.{moment_along}
use Rattle.str_model.proofs.Room.SmallNumbers.{writes_few}
use Rattle.str_model.proofs.ViewFacts.QuietTurns.{decided_rests, none_rests, open_does}
use Rattle.str_base.proofs.Lists.{get_set}
use Rattle.str_base.specs.Members.{In}

-- ---- one transaction

-- it is decided, or there is none
abbrev pub Done : ℕ → Doing → Type 0
Done i d = (x : Own) → Owns d.view i x → is_decided x.phase ≡ true

-- at most so much was added; or it was decided
pub data Stage (i n : ℕ) (d e : Doing) : Type 0 where
  alive : Grew n d e → Stage i n d e
  over : Grew 113 d e → Done i e → Stage i n d e

module _ (i : ℕ) where
  done_rests : (f : Own → Doing → Doing) (d : Doing) → Done i d → at_own i f d ≡ d
  done_rests f d h = by_own (slice_get d.view.own i) refl
    where
      by_own : (o : Option Own) → slice_get d.view.own i ≡ o → at_own i f d ≡ d
      by_own None e = none_rests i f d e
      by_own (Some x) e = decided_rests i f d x e (h x e)

  stage_own : (f : Own → Doing → Doing) (n : ℕ) (d : Doing) → ((x : Own) → Owns d.view i x → is_decided x.phase ≡ false → Stage i n d (f x d)) → Stage i n d (at_own i f d)
  stage_own f n d h = by_own (slice_get d.view.own i) refl
    where
      rests : at_own i f d ≡ d → Stage i n d (at_own i f d)
      rests q = subst (Stage i n d) (sym q) (alive (grew_within 0 n d d (omega arith) (grew_none d)))

      by_open : (x : Own) (b : Bool) → Owns d.view i x → is_decided x.phase ≡ b → Stage i n d (at_own i f d)
      by_open x true own e = rests (decided_rests i f d x own e)
      by_open x false own e = subst (Stage i n d) (sym (open_does i f d x own e)) (h x own e)

      by_own : (o : Option Own) → slice_get d.view.own i ≡ o → Stage i n d (at_own i f d)
      by_own None e = rests (none_rests i f d e)
      by_own (Some x) e = by_open x (is_decided x.phase) e refl

  -- one that is written as decided
  set_done : (d : Doing) (x z : Own) → slice_get d.view.own i ≡ Some x → is_decided z.phase ≡ true → (y : Own) → slice_get (slice_set d.view.own i z) i ≡ Some y → is_decided y.phase ≡ true
  set_done d x z own f y own' = let q : Some z ≡ Some y = sym (get_set d.view.own i x z own) ∙ own' in let is : z ≡ y = cc q in ap (λ (u : Own). is_decided u.phase) (sym is) ∙ f

module _ (here : Here) (ok : IsScene here.scene) (exists : has_node here here.node ≡ true) (i : ℕ) where
  abort_stage : (n : ℕ) (cause : Cause) (x z : Own) (d : Doing) → Owns d.view i z → length x.parts ≤ 112 → Stage i n d (aborted here i cause x d)
  unfolding aborted
  abort_stage n cause x z d own le = over (aborted_cost here i 112 cause x d le) (λ y own'. set_done i d z (decided_as (Aborted (lc_of x.phase) cause) x) own refl y own')

  -- ---- the look at dependencies

  resolve_stage : (d : Doing) → MomentFacts here d.view → (x : Own) → Owns d.view i x → is_decided x.phase ≡ false → Stage i 0 d (Pass.resolve_own here i x d)
  resolve_stage d h x own f = by_turn (dep_turn d.view.own x.snap)
    where
      le : length x.parts ≤ 112
      le = parts_few here ok exists d.view h i x own

      after : (y : Own) (e : Doing) → Stage i 0 (put i y d) e → Stage i 0 d e
      after y e (alive g) = alive (grew_more 0 0 0 d (put i y d) e (omega arith) (put_cost here i y d) g)
      after y e (over g o) = over (grew_more 0 113 113 d (put i y d) e (omega arith) (put_cost here i y d) g) o

      by_turn : (t : DepTurn) → Stage i 0 d (let y : Own = record x { snap = left_by t x.snap } in Pass.resolved here i y t (put i y d))
      by_turn (Keep g es) = alive (put_cost here i _ d)
      by_turn (Lost q g es) =
          let y : Own = record x { snap = left_by (Lost q g es) x.snap } in after y _ (abort_stage 0 _ y y (put i y d) (get_set d.view.own i x y own) le)
      by_turn (Late q fc g es) =
          let y : Own = record x { snap = left_by (Late q fc g es) x.snap } in after y _ (abort_stage 0 _ y y (put i y d) (get_set d.view.own i x y own) le)

  -- ---- what waits is tried again

  pub read_cost : (k : KeyId) (x : Own) (d : Doing) → Grew 1 d (read_now here i k x d)
  unfolding read_now
  read_cost k x d = by_turn (read_turn here d.view x.snap k)
    where
      m : Doing
      m = marked k x.snap.rs d

      by_turn : (t : ReadTurn) → Grew 1 d (Scripts.read_done here i k x t (marked k x.snap.rs d))
      by_turn (Plain a by fc snap) = grew_more 0 0 1 d m _ (omega arith) (marked_cost here i k x.snap.rs d) (put_cost here i _ m)
      by_turn (Speculative a by snap) = grew_more 0 0 1 d m _ (omega arith) (marked_cost here i k x.snap.rs d) (put_cost here i _ m)
      by_turn (Wait by) = grew_more 0 0 1 d m _ (omega arith) (marked_cost here i k x.snap.rs d) (put_cost here i _ m)
      by_turn (Away to) = grew_more 0 1 1 d m _ (omega arith) (marked_cost here i k x.snap.rs d) (requested_cost here i k to x m)

  certify_stage : (d : Doing) → MomentFacts here d.view → (x : Own) → Owns d.view i x → Stage i 16 d (certify_now here i x d)
  unfolding certify_now
  certify_stage d h x own = by_turn (cert_turn here d.view x.snap x.writes)
    where
      by_turn : (t : CertTurn) → Stage i 16 d (Scripts.cert_done here i x t d)
      by_turn (Certified lc snap) = alive (certified_cost here i lc snap x d (writes_few here ok d.view h i x own))
      by_turn (Conflict by k) = abort_stage 16 _ x x d own (parts_few here ok exists d.view h i x own)
      by_turn (WaitGate by) = alive (grew_within 0 16 d _ (omega arith) (put_cost here i _ d))

  again_stage : (d : Doing) → MomentFacts here d.view → (x : Own) → Owns d.view i x → Stage i 16 d (Pass.again_own here i x.phase x d)
  again_stage d h x own = by_phase x.phase
    where
      rests : Stage i 16 d d
      rests = alive (grew_within 0 16 d d (omega arith) (grew_none d))

      by_reply : (k : KeyId) (t : ReadTurn) → Stage i 16 d (Pass.again_reply here i k x t d)
      by_reply k (Plain a by fc snap) = alive (grew_within 0 16 d _ (omega arith) (put_cost here i _ d))
      by_reply k (Speculative a by snap) = rests
      by_reply k (Wait by) = rests
      by_reply k (Away to) = rests

      by_phase : (p : Phase) → Stage i 16 d (Pass.again_own here i p x d)
      by_phase (ReadWait k) = alive (grew_within 1 16 d _ (omega arith) (read_cost k x d))
      by_phase (Reply k a by fc) = by_reply k (reply_turn here x.snap a by fc)
      by_phase CertWait = certify_stage d h x own
      by_phase Active = rests
      by_phase (Remote k) = rests
      by_phase (Closing w) = rests
      by_phase (Local lc) = rests
      by_phase (Global lc) = rests
      by_phase (Committed m fc) = rests
      by_phase (Aborted m c) = rests

  -- ---- the gates

  -- at most so many participants
  abbrev Parts : Doing → Type 0
  Parts d = (x : Own) → Owns d.view i x → length x.parts ≤ 112

  asked_parts : (lc : ℕ) (p : PartId) (x : Own) (d : Doing) → Owns d.view i x → Parts d → Parts (asked here i lc p x d)
  unfolding asked
  asked_parts lc p x d own h y own' =
      let z : Own = record x { parts = with_asked p x.parts; phase = Global lc } in
      let q : Some z ≡ Some y = sym (get_set d.view.own i x z own) ∙ own' in
      let is : z ≡ y = cc q in
      let l : length (with_asked p x.parts) ≡ length x.parts = length-map {A = Asked} {B = Asked} x.parts (λ (a : Asked). record a { asked = or_ a.asked (same_part a.part p) }) in
      subst (λ (u : Own). length u.parts ≤ 112) is (omega (arith, h x own, l))
    where
      or_ : Bool → Bool → Bool
      or_ a b = a || b

  gates_cost : (fuel n : ℕ) (d : Doing) → Asks here i n d.view → Parts d → Grew (7 * n + 113) d (gates here i fuel d)
  gates_cost zero n d a h = grew_within 0 (7 * n + 113) d d (omega arith) (grew_none d)
  gates_cost (suc fuel) n d a h = by_own (slice_get d.view.own i) refl (λ m e b k. gates_cost fuel m e b k)
    where
      Rec : Type 0
      Rec = (m : ℕ) (e : Doing) → Asks here i m e.view → Parts e → Grew (7 * m + 113) e (gates here i fuel e)

      rests : Grew (7 * n + 113) d d
      rests = grew_within 0 (7 * n + 113) d d (omega arith) (grew_none d)

      by_gate : (lc : ℕ) (x : Own) (g : GateTurn) → Owns d.view i x → gate_of here d.view lc x ≡ g → ((m : ℕ) (e : Doing) → Asks here i m e.view → Parts e → Grew (7 * m + 113) e (gates here i fuel e))
          → Grew (7 * n + 113) d (Pass.gate_done here i (gates here i fuel) lc x g d)
      by_gate lc x (Shut q) own e rec = rests
      by_gate lc x (Missing p r) own e rec = rests
      by_gate lc x (CommitAt fc) own e rec = grew_within 113 (7 * n + 113) d _ (omega arith) (committed_cost here i lc fc x d (h x own))
      by_gate lc x (Ask p) own e rec =
          let r = asks_next here i n lc p x d own e a in
          let m : Doing = asked here i lc p x d in
          grew_more 7 (7 * r.0 + 113) (7 * n + 113) d m (gates here i fuel m) (omega (arith, r.1)) (asked_cost here i lc p x d (others_seven here ok exists p)) (rec r.0 m r.2 (asked_parts lc p x d own h))

      by_phase : (x : Own) (p : Phase) → Owns d.view i x → ((m : ℕ) (e : Doing) → Asks here i m e.view → Parts e → Grew (7 * m + 113) e (gates here i fuel e))
          → Grew (7 * n + 113) d (Pass.gate_phase here i (gates here i fuel) p x d)
      by_phase x (Local lc) own rec = by_gate lc x (gate_of here d.view lc x) own refl rec
      by_phase x (Global lc) own rec = by_gate lc x (gate_of here d.view lc x) own refl rec
      by_phase x Active own rec = rests
      by_phase x (ReadWait k) own rec = rests
      by_phase x (Remote k) own rec = rests
      by_phase x (Reply k v by fc) own rec = rests
      by_phase x CertWait own rec = rests
      by_phase x (Closing w) own rec = rests
      by_phase x (Committed m fc) own rec = rests
      by_phase x (Aborted m c) own rec = rests

      by_open : (x : Own) (b : Bool) → Owns d.view i x → ((m : ℕ) (e : Doing) → Asks here i m e.view → Parts e → Grew (7 * m + 113) e (gates here i fuel e))
          → Grew (7 * n + 113) d (Scripts.unless_decided b (λ z. Pass.gate_phase here i (gates here i fuel) x.phase x z) d)
      by_open x true own rec = rests
      by_open x false own rec = by_phase x x.phase own rec

      by_own : (o : Option Own) → slice_get d.view.own i ≡ o → ((m : ℕ) (e : Doing) → Asks here i m e.view → Parts e → Grew (7 * m + 113) e (gates here i fuel e))
          → Grew (7 * n + 113) d (Scripts.of_own (λ x. Pass.gate_phase here i (gates here i fuel) x.phase x) o d)
      by_own None e rec = rests
      by_own (Some x) e rec = by_open x (is_decided x.phase) e rec

  close_stage : (d : Doing) → MomentFacts here d.view → (x : Own) → Owns d.view i x → Stage i 225 d (Pass.close_own here i x d)
  close_stage d h x own = by_phase x.phase
    where
      le : Parts d
      le z own' = parts_few here ok exists d.view h i z own'

      asks : Asks here i 16 d.view
      asks = record { few = λ z own'. to_ask_few here ok exists d.view h i z own'; of = λ z own'. by_lc z own' (lc_of z.phase) refl }
        where
          by_lc : (z : Own) → Owns d.view i z → (o : Option ℕ) → lc_of z.phase ≡ o → OfScene here.scene z.parts
          by_lc z own' None e = λ a m. absurd (subst (In a) ((h.homes i z own').none e) m)
          by_lc z own' (Some lc) e = seats_of here.scene z.parts (participants here.scene here.node z.writes) ((h.homes i z own').seats_are lc e) (participants_of here.scene here.node z.writes)

      in_gates : Stage i 225 d (gates_in here i d)
      in_gates = alive (grew_within (7 * 16 + 113) 225 d _ (omega arith) (gates_cost (suc (length here.scene.parts)) 16 d asks le))

      free : (wish : Bool) → Stage i 225 d (Pass.close_free here i wish x d)
      free true = abort_stage 225 Wish x x d own (le x own)
      free false = alive (grew_within 1 225 d _ (omega arith) (closed_cost here i x d))

      closing : (b wish : Bool) → Stage i 225 d (if b then Pass.close_free here i wish x d else d)
      closing true wish = free wish
      closing false wish = alive (grew_within 0 225 d d (omega arith) (grew_none d))

      by_phase : (p : Phase) → Stage i 225 d (Pass.close_phase here i p x d)
      by_phase (Closing w) = closing (is_empty x.snap.deps) w
      by_phase Active = in_gates
      by_phase (ReadWait k) = in_gates
      by_phase (Remote k) = in_gates
      by_phase (Reply k a by fc) = in_gates
      by_phase CertWait = in_gates
      by_phase (Local lc) = in_gates
      by_phase (Global lc) = in_gates
      by_phase (Committed m fc) = in_gates
      by_phase (Aborted m c) = in_gates

  -- ---- a turn

  stage_most : (n : ℕ) (d e : Doing) → 113 ≤ n → Stage i n d e → Grew n d e
  stage_most n d e le (alive g) = g
  stage_most n d e le (over g o) = grew_within 113 n d e le g

  module _ (input : Input) where
    first_stage : (d : Doing) → MomentFacts here d.view → Stage i 0 d (resolved_first here input (InTurn i) i d)
    unfolding resolved_first
    first_stage d h = stage_own i (Pass.resolve_own here i) 0 d (resolve_stage d h)

    half_stage : (d : Doing) → MomentFacts here d.view → Stage i 16 d (half_turn here i d)
    unfolding resolved_first half_turn
    half_stage d h = by_first (first_stage d h)
      where
        d1 : Doing
        d1 = at_own i (Pass.resolve_own here i) d

        h1 : MomentFacts here d1.view
        h1 = moment_along here ok exists input (InTurn i) d d1 (first-path here input (InTurn i) i d refl) h

        then_ : Grew 0 d d1 → Stage i 16 d1 (at_own i (λ x. Pass.again_own here i x.phase x) d1) → Stage i 16 d (at_own i (λ x. Pass.again_own here i x.phase x) d1)
        then_ g (alive k) = alive (grew_more 0 16 16 d d1 _ (omega arith) g k)
        then_ g (over k o) = over (grew_more 0 113 113 d d1 _ (omega arith) g k) o

        by_first : Stage i 0 d d1 → Stage i 16 d (at_own i (λ x. Pass.again_own here i x.phase x) d1)
        by_first (alive g) = then_ g (stage_own i (λ x. Pass.again_own here i x.phase x) 16 d1 (λ x own f. again_stage d1 h1 x own))
        by_first (over g o) = subst (Stage i 16 d) (sym (done_rests i (λ x. Pass.again_own here i x.phase x) d1 o)) (over g o)

    pub turn_cost : (d : Doing) → MomentFacts here d.view → Grew 242 d (turn here i d)
    unfolding turn
    turn_cost d h = by_half (half_stage d h)
      where
        d2 : Doing
        d2 = half_turn here i d

        h2 : MomentFacts here d2.view
        h2 = moment_along here ok exists input (InTurn i) d d2 (half_turn-path here input (InTurn i) i d refl) h

        by_half : Stage i 16 d d2 → Grew 242 d (at_own i (Pass.close_own here i) d2)
        by_half (alive g) = grew_more 16 225 242 d d2 _ (omega arith) g (stage_most 225 d2 _ (omega arith) (stage_own i (Pass.close_own here i) 225 d2 (λ x own f. close_stage d2 h2 x own)))
        by_half (over g o) = subst (Grew 242 d) (sym (done_rests i (Pass.close_own here i) d2 o)) (grew_within 113 242 d d2 (omega arith) g)
