-- What the work that is left needs to know of a node between its changes: the participants of a partition are asked together, the
-- transactions of a session are numbered as they began, and each parked Prepare is at its master.
use Rattle.std.proofs.Common.{Bool, List, None, Option, Some, [], ap, arith, eqb-true, false, if◌then◌else◌, inl, inr, length, map, refl, slice_get, slice_set, subst, suc, sym, true, zero, ℕ, ◌++◌, ◌+◌, ◌==◌, ◌||◌, ◌∙◌, ◌∷◌, ◌≡◌}
use Rattle.std.proofs.lemmas.Option.{slice_get_within}
use Rattle.std.specs.List.{count_by}
use Rattle.partition_map.specs.declared.rows.Asked.{Asked}
use Rattle.spsi_laws.proofs.Work.LeftSums.{count_none, count_push, count_set}
use Rattle.str_base.specs.declared.names.NodeId.{NodeId}
use Rattle.str_base.specs.declared.names.PartId.{PartId}
use Rattle.str_base.specs.declared.names.Write.{Write}
use Rattle.str_base.specs.Versions.{same_part}
use Rattle.str_model.proofs.Principle.SingleChanges.{Act, Arrives, IsMasters, NextPlace, Where, a_prepare, a_read, is_first, is_next}
use Rattle.str_model.proofs.Changes.AnswerChanges.{TellStep, last_index-none, t_begins, t_decides, t_goes, t_rests, tell_step}
use Rattle.str_model.specs.Acts.{decided_as, fresh, with_asked}
use Rattle.str_model.specs.Clients.{last_index}
use Rattle.str_model.specs.Owned.{Owns}
use Rattle.str_model.specs.Views.{Doing, Own, View}
use Rattle.str_model.specs.declared.messages.Arrived.{Arrived}
use Rattle.str_model.specs.declared.messages.Input.{Input}
use Rattle.str_model.specs.declared.messages.Waiter.{Waiter}
use Rattle.str_model.specs.declared.messages.Waiter.TheVariants.{Held}
use Rattle.str_scene.specs.declared.names.TxPlace.{TxPlace}
use Rattle.str_scene.specs.Scenes.{Here, Scene, others, participants, replicas, unasked, written_parts}
use Rattle.str_model.proofs.Changes.OwnTurns.{OwnChange, o_aborts, o_acks, o_asks, o_begins, o_certifies, o_closes, o_commits, o_puts, o_rests, own_change}
use Rattle.str_model.proofs.OwnFacts.ScriptsCovered.{AllScripts, script-act}
use Rattle.str_model.proofs.Changes.VersionChanges.{WaitStep, w_fewer, w_more, wait_step}
use Rattle.str_model.proofs.Changes.PairChanges.{AtMaster}
use Rattle.str_model.proofs.OwnFacts.AtHome.{AckStep, AckedParts, AtHome, a_new, a_old, acked_parts, home-step}
use Rattle.str_model.proofs.ListCounts.{one_if}
use Rattle.str_base.proofs.Lists.{got_push, got_set}
use Rattle.str_base.proofs.Members.{in_append, in_flat_map, in_map}
use Rattle.str_base.specs.Members.{In}

-- ---- asked together

abbrev pub Together : List Asked → Type 0
Together parts = (a b : Asked) → In a parts → In b parts → a.part.0 ≡ b.part.0 → a.asked ≡ b.asked

abbrev pub AllTogether : View → Type 0
AllTogether v = (i : ℕ) (x : Own) → Owns v i x → Together x.parts

pub new_unasked : (scene : Scene) (n : NodeId) (ws : List Write) (a : Asked) → In a (participants scene n ws) → a.asked ≡ false
new_unasked scene n ws a h =
    let r = in_flat_map (λ (p : PartId). map (unasked p) (others n (replicas scene p))) (written_parts scene ws) a h in
    let m = in_map (unasked r.0) (others n (replicas scene r.0)) a r.2 in
    ap (λ (z : Asked). z.asked) (sym m.2)

together_new : (scene : Scene) (n : NodeId) (ws : List Write) → Together (participants scene n ws)
together_new scene n ws a b h k e = new_unasked scene n ws a h ∙ sym (new_unasked scene n ws b k)

together_asked : (p : PartId) (parts : List Asked) → Together parts → Together (with_asked p parts)
together_asked p parts t a b h k e =
    let r = in_map {A = Asked} {B = Asked} (λ (a : Asked). record a { asked = a.asked || same_part a.part p }) parts a h in
    let s = in_map {A = Asked} {B = Asked} (λ (a : Asked). record a { asked = a.asked || same_part a.part p }) parts b k in
    let pa : r.0.part.0 ≡ a.part.0 = ap (λ (z : Asked). z.part.0) r.2 in
    let pb : s.0.part.0 ≡ b.part.0 = ap (λ (z : Asked). z.part.0) s.2 in
    let pe : r.0.part.0 ≡ s.0.part.0 = pa ∙ (e ∙ sym pb) in
    let q : r.0.asked ≡ s.0.asked = t r.0 s.0 r.1 s.1 pe in
    let ea : (r.0.asked || (r.0.part.0 == p.0)) ≡ a.asked = ap (λ (z : Asked). z.asked) r.2 in
    let eb : (s.0.asked || (s.0.part.0 == p.0)) ≡ b.asked = ap (λ (z : Asked). z.asked) s.2 in
    sym ea ∙ (ap (λ z. z || (r.0.part.0 == p.0)) q ∙ (ap (λ z. s.0.asked || (z == p.0)) pe ∙ eb))

together_acked : (from : NodeId) (p : PartId) (ts : ℕ) (old new : List Asked) → AckedParts from p ts old new → Together old → Together new
together_acked from p ts old new r t a b h k e =
    let x = was a (r.each a h) in
    let y = was b (r.each b k) in
    sym x.3 ∙ (t x.0 y.0 x.1 y.1 (x.2 ∙ (e ∙ sym y.2)) ∙ y.3)
  where
    was : (c : Asked) → AckStep from p ts old c → (o : Asked) × (In o old) × (o.part.0 ≡ c.part.0) × (o.asked ≡ c.asked)
    was c (a_old h) = (c, h, refl, refl)
    was c (a_new o h s n q) = (o, h, ap (λ (z : Asked). z.part.0) (sym q), ap (λ (z : Asked). z.asked) (sym q))

together_set : (own : List Own) (i : ℕ) (x y : Own) → slice_get own i ≡ Some x → (Together x.parts → Together y.parts) → ((j : ℕ) (z : Own) → slice_get own j ≡ Some z → Together z.parts)
    → (j : ℕ) (z : Own) → slice_get (slice_set own i y) j ≡ Some z → Together z.parts
together_set own i x y o f h j z k = elim (got_set own i j y z k) [ inl p ↦ subst (λ (u : Own). Together u.parts) (sym p.1) (f (h i x o)) | inr p ↦ h j z p.1 ]

together-change : (here : Here) (input : Input) (d e : View) → OwnChange here input d e → AllTogether d → AllTogether e
together-change here input d e (o_rests q) h = λ j z k. h j z (subst (λ (xs : List Own). slice_get xs j ≡ Some z) q k)
together-change here input d e (o_begins place rs q) h = λ j z k. elim (got_push d.own j (fresh place rs) z (subst (λ (xs : List Own). slice_get xs j ≡ Some z) q k)) [
  | inl p ↦ subst (λ (u : Own). Together u.parts) (sym p.1) (λ a b m n r. absurd m)
  | inr was ↦ h j z was
]
together-change here input d e (o_puts i x y own g q) h =
    λ j z k. together_set d.own i x y own (λ t. subst Together (sym g.same_parts) t) h j z (subst (λ (xs : List Own). slice_get xs j ≡ Some z) q k)
together-change here input d e (o_certifies i lc snap x own f n r q s) h =
    λ j z k. together_set d.own i x _ own (λ t. together_new here.scene here.node x.writes) h j z (subst (λ (xs : List Own). slice_get xs j ≡ Some z) q k)
together-change here input d e (o_asks i lc p x own f l q) h =
    λ j z k. together_set d.own i x _ own (λ t. together_asked p x.parts t) h j z (subst (λ (xs : List Own). slice_get xs j ≡ Some z) q k)
together-change here input d e (o_acks i lc from tx p ts parts x own c g a q) h =
    λ j z k. together_set d.own i x _ own (λ t. together_acked from p ts.0 x.parts parts (acked_parts x.parts p from ts.0 parts a.parts_are) t) h j z (subst (λ (xs : List Own). slice_get xs j ≡ Some z) q k)
together-change here input d e (o_aborts i cause x own f q) h =
    λ j z k. together_set d.own i x _ own (λ t. t) h j z (subst (λ (xs : List Own). slice_get xs j ≡ Some z) q k)
together-change here input d e (o_commits i lc fc x own f l gate q s) h =
    λ j z k. together_set d.own i x _ own (λ t. t) h j z (subst (λ (xs : List Own). slice_get xs j ≡ Some z) q k)
together-change here input d e (o_closes i x own p q) h =
    λ j z k. together_set d.own i x _ own (λ t. t) h j z (subst (λ (xs : List Own). slice_get xs j ≡ Some z) q k)

-- ---- numbered as they began

abbrev pub mine : ℕ → Own → Bool
mine s x = x.place.session.0 == s

-- the last one's place is the count
abbrev pub Counted : List Own → Type 0
Counted own = (s i : ℕ) (x : Own) → last_index (mine s) own ≡ Some i → slice_get own i ≡ Some x → x.place.index ≡ count_by (mine s) own

abbrev last_by : Option ℕ → Bool → Option ℕ
last_by o b = elim o [ Some i ↦ Some (suc i) | None ↦ (if b then Some 0 else None) ]

last_set : (p : Own → Bool) (xs : List Own) (i : ℕ) (x y : Own) → slice_get xs i ≡ Some x → p y ≡ p x → last_index p (slice_set xs i y) ≡ last_index p xs
last_set p [] i x y e q = absurd (cc e)
last_set p (z ∷ xs) zero x y e q = let s : z ≡ x = cc e in ap (last_by (last_index p xs)) (q ∙ ap p (sym s))
last_set p (z ∷ xs) (suc i) x y e q = ap (λ o. last_by o (p z)) (last_set p xs i x y e q)

last_push_own : (p : Own → Bool) (xs : List Own) (y : Own) → p y ≡ true → last_index p (xs ++ y ∷ []) ≡ Some (length xs)
last_push_own p [] y e = ap (last_by None) e
last_push_own p (x ∷ xs) y e = ap (λ o. last_by o (p x)) (last_push_own p xs y e)

last_push_other : (p : Own → Bool) (xs : List Own) (y : Own) → p y ≡ false → last_index p (xs ++ y ∷ []) ≡ last_index p xs
last_push_other p [] y e = ap (last_by None) e
last_push_other p (x ∷ xs) y e = ap (λ o. last_by o (p x)) (last_push_other p xs y e)

pub last_there : (p : Own → Bool) (xs : List Own) (i : ℕ) → last_index p xs ≡ Some i → (x : Own) × (slice_get xs i ≡ Some x)
last_there p [] i e = absurd (cc e)
last_there p (x ∷ xs) i e = by (last_index p xs) (p x) (λ k q. last_there p xs k q) e
  where
    by : (o : Option ℕ) (b : Bool) → ((k : ℕ) → o ≡ Some k → (y : Own) × (slice_get xs k ≡ Some y)) → last_by o b ≡ Some i → (y : Own) × (slice_get (x ∷ xs) i ≡ Some y)
    by (Some k) b rec q = let r = rec k refl in let s : suc k ≡ i = cc q in (r.0, subst (λ m. slice_get (x ∷ xs) m ≡ Some r.0) s r.1)
    by None true rec q = let s : 0 ≡ i = cc q in (x, subst (λ m. slice_get (x ∷ xs) m ≡ Some x) s refl)
    by None false rec q = absurd (cc q)

-- the next place is the one after the count
pub next_number : (own : List Own) (place : TxPlace) → NextPlace own place → Counted own → place.index ≡ count_by (mine place.session.0) own + 1
next_number own place (is_first n e) h =
    let z = count_none (mine place.session.0) own (λ i x g. last_index-none (mine place.session.0) own i x n g) in omega (arith, e, z)
next_number own place (is_next i x l g dd e) h = let c = h place.session.0 i x l g in omega (arith, e, c)

counted_push : (own : List Own) (place : TxPlace) (rs : ℕ) → NextPlace own place → Counted own → Counted (own ++ fresh place rs ∷ [])
counted_push own place rs n h s i x l g = by_test (place.session.0 == s) refl
  where
    y : Own
    y = fresh place rs

    by_test : (b : Bool) → (place.session.0 == s) ≡ b → x.place.index ≡ count_by (mine s) (own ++ fresh place rs ∷ [])
    by_test true q =
        let same : Some (length own) ≡ Some i = sym (last_push_own (mine s) own (fresh place rs) q) ∙ l in
        let at : length own ≡ i = cc same in
        let c = count_push (mine s) own (fresh place rs) in
        let c1 : one_if (place.session.0 == s) ≡ 1 = ap one_if q in
        let num = next_number own place n h in
        let ses : count_by (mine place.session.0) own ≡ count_by (mine s) own = ap (λ k. count_by (mine k) own) (eqb-true place.session.0 s q) in
        elim (got_push own i (fresh place rs) x g) [
          | inl p ↦ omega (arith, c, c1, num, ses, ap (λ (u : Own). u.place.index) p.1)
          | inr p ↦ absurd (omega (arith, at, slice_get_within own i x p))
        ]
    by_test false q =
        let last : last_index (mine s) own ≡ Some i = sym (last_push_other (mine s) own (fresh place rs) q) ∙ l in
        let c = count_push (mine s) own (fresh place rs) in
        let c0 : one_if (place.session.0 == s) ≡ 0 = ap one_if q in
        let t = last_there (mine s) own i last in
        elim (got_push own i (fresh place rs) x g) [
          | inl p ↦ absurd (omega (arith, p.0, slice_get_within own i t.0 t.1))
          | inr p ↦ (let r = h s i x last p in omega (arith, c, c0, r))
        ]

counted_set : (own : List Own) (i : ℕ) (x y : Own) → slice_get own i ≡ Some x → y.place ≡ x.place → Counted own → Counted (slice_set own i y)
counted_set own i x y o p h s j z l g =
    let test : mine s y ≡ mine s x = ap (λ (t : TxPlace). t.session.0 == s) p in
    let last : last_index (mine s) own ≡ Some j = sym (last_set (mine s) own i x y o test) ∙ l in
    let c = count_set (mine s) own i x y o test in
    elim (got_set own i j y z g) [
      | inl k ↦ (let at : slice_get own j ≡ Some x = ap (λ m. slice_get own m) k.0 ∙ o in
          let r = h s j x last at in
          let pl : z.place.index ≡ x.place.index = ap (λ (u : Own). u.place.index) k.1 ∙ ap (λ (t : TxPlace). t.index) p in
          omega (arith, c, r, pl))
      | inr k ↦ (let r = h s j z last k.1 in omega (arith, c, r))
    ]

counted-tell : (here : Here) (d e : Doing) → TellStep here d e → Counted d.view.own → Counted e.view.own
counted-tell here d e (t_rests o r) h = subst Counted (sym o) h
counted-tell here d e (t_begins place rs b o r) h = subst Counted (sym o) (counted_push d.view.own place rs b.next h)
counted-tell here d e (t_goes i x y is f g p q o r) h = subst Counted (sym o) (counted_set d.view.own i x y is p h)
counted-tell here d e (t_decides i x p is f g o r) h = subst Counted (sym o) (counted_set d.view.own i x (decided_as p x) is refl h)

-- ---- parked at its master

master-step : (here : Here) (input : Input) (d e : Doing) → WaitStep here input d e → AtMaster here d.view → AtMaster here e.view
master-step here input d e (w_fewer f) h = λ a k. h a (f (Held a) k)
master-step here input d e (w_more r n q) h = λ a k. elim (in_append d.view.waiters (r ∷ []) (Held a) (subst (λ (ws : List Waiter). In (Held a) ws) q k)) [
  | inl j ↦ h a j
  | inr j ↦ (elim j [ inl z ↦ new r n a z | inr z ↦ absurd z ])
]
  where
    new : (r : Waiter) → Arrives here input d r → (a : Arrived) → r ≡ Held a → IsMasters here a
    new r (a_read from tx k rs c) a z = absurd (cc z)
    new r (a_prepare from b c u v m) a z = let same : b ≡ a = cc z in subst (IsMasters here) same m

-- ---- all of it

pub record HomeFit (here : Here) (v : View) : Type 0 where
  pub home : AtHome here v
  pub scripts : AllScripts here v
  pub together : AllTogether v
  pub counted : Counted v.own
  pub masters : AtMaster here v

pub fit-act : (here : Here) (input : Input) (w : Where) (d e : Doing) → Act here input w d e → HomeFit here d.view → HomeFit here e.view
fit-act here input w d e a h =
    record {
      home = home-step here input w d e a h.home;
      scripts = script-act here input w d e a h.scripts;
      together = together-change here input d.view e.view (own_change here input w d e a) h.together;
      counted = counted-tell here d e (tell_step here input w d e a) h.counted;
      masters = master-step here input d e (wait_step here input w d e a) h.masters;
    }
