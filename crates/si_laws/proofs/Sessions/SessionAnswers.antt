-- The law Session: places and session order of the answers, from what every run keeps.
use Rattle.std.proofs.Common.{Bool, List, None, Option, Some, [], ap, arith, eq-eqb, false, filter, if◌then◌else◌, inl, inr, length, refl, slice_get, subst, subst₂, suc, sym, take, true, zero, ℕ, ◌+◌, ◌<◌, ◌∙◌, ◌∷◌, ◌≡◌}
use Rattle.std.proofs.lemmas.Bool.{cases_order}
use Rattle.std.proofs.lemmas.List.Sums.{length-filter}
use Rattle.std.specs.List.{count_by}
use Rattle.str_model.specs.declared.names.Got.{Got}
use Rattle.str_base.specs.declared.names.NodeId.{NodeId}
use Rattle.str_base.specs.declared.names.SessionId.{SessionId}
use Rattle.str_base.specs.declared.names.Ts.{Ts}
use Rattle.str_base.specs.declared.names.TxId.{TxId}
use Rattle.str_scene.specs.declared.names.TxPlace.{TxPlace}
use Rattle.str_model.specs.declared.messages.Answer.{Answer}
use Rattle.str_model.specs.declared.messages.Outcome.TheVariants.{Committed as Commits}
use Rattle.si_laws.specs.Laws.Session.{SessionHolds, SessionsOrdered}
use Rattle.str_model.specs.Runs.{World, run}
use Rattle.str_scene.specs.SceneLimits.{Exists, IsScene}
use Rattle.str_scene.specs.Scenes.{Scene, Session, nth}
use Rattle.si_laws.specs.SnapshotIsolation.{IsAnswer, IsPlaced}
use Rattle.str_base.specs.Versions.{stamp}
use Rattle.str_model.specs.Views.{Aborted, Committed, Own, Phase, View, is_decided}
use Rattle.str_model.proofs.Principle.Everywhere.{at_place, stage_of}
use Rattle.si_laws.proofs.Sessions.SessionHolds.{Good, NodeGood, good_everywhere}
use Rattle.si_laws.proofs.Sessions.SessionOrder.{Made, Told, told_in}
use Rattle.str_model.proofs.OwnFacts.PlacesInOrder.{PlacedIn}
use Rattle.str_model.proofs.Changes.AnswerChanges.{outcome_of}
use Rattle.str_base.proofs.Members.{in_at}
use Rattle.str_base.proofs.Lists.{slice_get_there}

-- ---- places in a filtered list

filter_length : {A : Type 0} (p : A → Bool) (xs : List A) (i : ℕ) (x : A) → slice_get xs i ≡ Some x → p x ≡ true → slice_get (filter p xs) (length (filter p (take i xs))) ≡ Some x
filter_length p [] i x g e = absurd cc
filter_length p (y ∷ xs) zero x g e = let same : y ≡ x = cc g in rw (ap p same ∙ e) g
filter_length {A = A} p (y ∷ xs) (suc i) x g e = by_test (p y) (filter_length p xs i x g e)
  where
    by_test : (b : Bool) → slice_get (filter p xs) (length (filter p (take i xs))) ≡ Some x
        → slice_get (if b then y ∷ filter p xs else filter p xs) (length (if b then y ∷ filter p (take i xs) else filter p (take i xs))) ≡ Some x
    by_test true h = h
    by_test false h = h

filter_at : {A : Type 0} (p : A → Bool) (xs : List A) (i : ℕ) (x : A) → slice_get xs i ≡ Some x → p x ≡ true → slice_get (filter p xs) (count_by p (take i xs)) ≡ Some x
filter_at p xs i x g e = subst (λ (n : ℕ). slice_get (filter p xs) n ≡ Some x) (length-filter p (take i xs)) (filter_length p xs i x g e)

length_less : {A : Type 0} (p : A → Bool) (xs : List A) (i j : ℕ) (x : A) → i < j → slice_get xs i ≡ Some x → p x ≡ true → length (filter p (take i xs)) < length (filter p (take j xs))
length_less p [] i j x less g e = absurd cc
length_less p (y ∷ xs) i zero x less g e = absurd (omega arith)
length_less p (y ∷ xs) zero (suc j) x less g e = let same : y ≡ x = cc g in by_test (p y) (ap p same ∙ e)
  where
    by_test : (b : Bool) → b ≡ true → 0 < length (if b then y ∷ filter p (take j xs) else filter p (take j xs))
    by_test true t = omega arith
    by_test false t = absurd (cc t)
length_less p (y ∷ xs) (suc i) (suc j) x less g e = by_test (p y) (length_less p xs i j x (omega (arith, less)) g e)
  where
    by_test : (b : Bool) → length (filter p (take i xs)) < length (filter p (take j xs))
        → length (if b then y ∷ filter p (take i xs) else filter p (take i xs)) < length (if b then y ∷ filter p (take j xs) else filter p (take j xs))
    by_test true h = omega (arith, h)
    by_test false h = h

count_less : {A : Type 0} (p : A → Bool) (xs : List A) (i j : ℕ) (x : A) → i < j → slice_get xs i ≡ Some x → p x ≡ true → count_by p (take i xs) < count_by p (take j xs)
count_less p xs i j x less g e = subst₂ (λ (m n : ℕ). m < n) (length-filter p (take i xs)) (length-filter p (take j xs)) (length_less p xs i j x less g e)

-- an answer, its node and its transaction
pub record Entry (scene : Scene) (w : World) (i : ℕ) (a : Answer) : Type 0 where
  pub m : ℕ
  pub v : View
  pub is_view : slice_get w.nodes m ≡ Some v
  pub good : NodeGood scene m w.answers v
  pub placed : PlacedIn scene m a.place
  pub made : Made (at_place scene m) v.own a
  pub index : a.place.index ≡ count_by (told_in a.place.session.0) (take i w.answers) + 1

session_node : (scene : Scene) → IsScene scene → (s : ℕ) (text : Session) → nth scene.sessions s ≡ Some text → Exists text.node.0 scene.nodes
session_node scene ok zero text e = absurd cc
session_node scene ok (suc k) text e = (ok.sessions k text e).node

pub entry : (scene : Scene) → IsScene scene → (w : World) → Good scene (stage_of w) → (i : ℕ) (a : Answer) → IsAnswer w.answers i a → Entry scene w i a
entry scene ok w h i a is =
    let n = h.named a (in_at w.answers i a is) in
    let p : PlacedIn scene n.0 a.place = n.1 in
    let node : Exists p.text.node.0 scene.nodes = session_node scene ok a.place.session.0 p.text p.session in
    let v = slice_get_there w.nodes n.0 (omega (arith, node.1, p.node, h.count)) in
    let g : NodeGood scene n.0 w.answers v.0 = h.nodes n.0 v.0 v.1 in
    let s : ℕ = a.place.session.0 in
    let t : Told (at_place scene n.0) s v.0.own (filter (told_in s) w.answers) = g.told_ s p.text p.session p.node in
    let c = t.made (count_by (told_in s) (take i w.answers)) a (filter_at (told_in s) w.answers i a is (eq-eqb s s refl)) in
    record { m = n.0; v = v.0; is_view = v.1; good = g; placed = p; made = c.0; index = c.1 }

pub committed_phase : (p : Phase) (gets : List Got) (fc : ℕ) (g : List Got) → is_decided p ≡ true → outcome_of p gets ≡ Commits (Some (stamp fc)) g → (l : Option ℕ) × (p ≡ Committed l (Some fc))
committed_phase (Committed l (Some f)) gets fc g d e = let same : stamp f ≡ stamp fc = cc e in (l, ap (λ (k : ℕ). Committed l (Some k)) (ap (λ (t : Ts). t.0) same))
committed_phase (Committed l None) gets fc g d e = let same : None ≡ Some (stamp fc) = cc e in absurd (cc same)
committed_phase (Aborted l c) gets fc g d e = absurd (cc e)
committed_phase _ gets fc g d e = absurd (cc d)

module _ (scene : Scene) (ok : IsScene scene) (w : World) (h : Good scene (stage_of w)) where
  entry_of : (i : ℕ) (a : Answer) → IsAnswer w.answers i a → Entry scene w i a
  entry_of i a is = entry scene ok w h i a is

  same_place : (i j : ℕ) (a b : Answer) → IsAnswer w.answers i a → IsAnswer w.answers j b → a.place ≡ b.place → i ≡ j
  same_place i j a b is js e =
      let x = entry_of i a is in
      let y = entry_of j b js in
      let s : ℕ = a.place.session.0 in
      let session : a.place.session.0 ≡ b.place.session.0 = ap (λ (p : TxPlace). p.session.0) e in
      let y_index : b.place.index ≡ count_by (told_in s) (take j w.answers) + 1 = subst (λ (m : ℕ). b.place.index ≡ count_by (told_in m) (take j w.answers) + 1) (sym session) y.index in
      let index : a.place.index ≡ b.place.index = ap (λ (p : TxPlace). p.index) e in
      elim (cases_order i j) [
        | inl q ↦ q
        | inr r ↦ (elim r [
          | inl less ↦ (let c = count_less (told_in s) w.answers i j a less is (eq-eqb s s refl) in absurd (omega (arith, c, x.index, y_index, index)))
          | inr more_ ↦ (let c = count_less (told_in s) w.answers j i b more_ js (eq-eqb b.place.session.0 s (sym session)) in absurd (omega (arith, c, x.index, y_index, index)))
        ])
      ]

  -- two answers of one node
  view_same : (m n : ℕ) (u v : View) → slice_get w.nodes m ≡ Some u → slice_get w.nodes n ≡ Some v → m ≡ n → v ≡ u
  view_same m n u v a b e = let both : Some v ≡ Some u = sym b ∙ (ap (λ (k : ℕ). slice_get w.nodes k) (sym e) ∙ a) in cc both

  one_owner : (i j : ℕ) (a b : Answer) (x : Entry scene w i a) (y : Entry scene w j b) → x.m ≡ y.m → slice_get x.v.own y.made.i ≡ Some y.made.x
  one_owner i j a b x y e = ap (λ (z : View). slice_get z.own y.made.i) (sym (view_same x.m y.m x.v y.v x.is_view y.is_view e)) ∙ y.made.owns

  same_name : (i j : ℕ) (a b : Answer) → IsAnswer w.answers i a → IsAnswer w.answers j b → a.tx ≡ b.tx → i ≡ j
  same_name i j a b is js e =
      let x = entry_of i a is in
      let y = entry_of j b js in
      let nodes : x.m ≡ y.m = omega (arith, ap (λ (t : Answer). t.tx.node.0) x.made.same, ap (λ (t : Answer). t.tx.node.0) y.made.same, ap (λ (t : TxId). t.node.0) e) in
      let seqs : x.made.i ≡ y.made.i = omega (arith, ap (λ (t : Answer). t.tx.seq) x.made.same, ap (λ (t : Answer). t.tx.seq) y.made.same, ap (λ (t : TxId). t.seq) e) in
      let both : Some x.made.x ≡ Some y.made.x = sym x.made.owns ∙ (ap (λ (k : ℕ). slice_get x.v.own k) seqs ∙ one_owner i j a b x y nodes) in
      let own : x.made.x ≡ y.made.x = cc both in
      same_place i j a b is js (ap (λ (t : Answer). t.place) x.made.same ∙ (ap (λ (z : Own). z.place) own ∙ sym (ap (λ (t : Answer). t.place) y.made.same)))

  placed_is : (i : ℕ) (a : Answer) → IsAnswer w.answers i a → IsPlaced scene a
  placed_is i a is =
      let x = entry_of i a is in
      record {
        text = x.placed.text;
        session = x.placed.session;
        node = ap (λ (k : ℕ). record { 0 = k }) (ap (λ (t : Answer). t.tx.node.0) x.made.same ∙ sym x.placed.node);
        index = x.placed.index;
      }

  -- of one session the earlier answer is that of the earlier transaction
  pub record Both (i j : ℕ) (a b : Answer) : Type 0 where
    pub x : Entry scene w i a
    pub y : Entry scene w j b
    pub y_owns : slice_get x.v.own y.made.i ≡ Some y.made.x
    pub less : x.made.i < y.made.i

  of_session_both : (i j : ℕ) (a b : Answer) → i < j → IsAnswer w.answers i a → IsAnswer w.answers j b → a.place.session ≡ b.place.session → Both i j a b
  of_session_both i j a b less is js e =
      let x = entry_of i a is in
      let y = entry_of j b js in
      let s : ℕ = a.place.session.0 in
      let session : a.place.session.0 ≡ b.place.session.0 = ap (λ (p : SessionId). p.0) e in
      let texts : Some x.placed.text ≡ Some y.placed.text = sym x.placed.session ∙ (ap (λ (k : ℕ). nth scene.sessions k) session ∙ y.placed.session) in
      let text : x.placed.text ≡ y.placed.text = cc texts in
      let nodes : x.m ≡ y.m = omega (arith, x.placed.node, y.placed.node, ap (λ (z : Session). z.node.0) text) in
      let owner = one_owner i j a b x y nodes in
      let y_index : b.place.index ≡ count_by (told_in s) (take j w.answers) + 1 = subst (λ (m : ℕ). b.place.index ≡ count_by (told_in m) (take j w.answers) + 1) (sym session) y.index in
      let c = count_less (told_in s) w.answers i j a less is (eq-eqb s s refl) in
      let up : x.made.x.place.index < y.made.x.place.index =
      omega (arith, c, x.index, y_index, ap (λ (t : Answer). t.place.index) x.made.same, ap (λ (t : Answer). t.place.index) y.made.same) in
      record {
        x = x;
        y = y;
        y_owns = owner;
        less = elim (cases_order x.made.i y.made.i) [
          | inl q ↦ (let both : Some x.made.x ≡ Some y.made.x = sym x.made.owns ∙ (ap (λ (k : ℕ). slice_get x.v.own k) q ∙ owner) in let same : x.made.x ≡ y.made.x = cc both in
              absurd (omega (arith, up, ap (λ (z : Own). z.place.index) same)))
          | inr r ↦ (elim r [
            | inl k ↦ k
            | inr k ↦ (let f = x.good.ordered.order y.made.i x.made.i y.made.x x.made.x k owner x.made.owns
                (sym (ap (λ (t : Answer). t.place.session.0) y.made.same) ∙ (sym session ∙ ap (λ (t : Answer). t.place.session.0) x.made.same)) in absurd (omega (arith, up, f.index)))
          ])
        ];
      }

  pub ordered : SessionsOrdered scene w
  ordered =
      record {
        placed = record {
          each = placed_is;
          places = same_place;
          names = same_name;
          order = λ i a is. omega (arith, (entry_of i a is).index);
        };
        order = record {
          rs = λ i j a b less is js e.
              let t = of_session_both i j a b less is js e in
              let r = t.x.good.timed.rising t.x.made.i t.y.made.i t.x.made.x t.y.made.x (omega (arith, t.less)) t.x.made.owns t.y_owns in
              omega (arith, r, ap (λ (z : Answer). z.rs.0) t.x.made.same, ap (λ (z : Answer). z.rs.0) t.y.made.same);
          fc = λ i j fc a b less is js e o.
              let t = of_session_both i j a b less is js e in
              let c = committed_phase t.x.made.x.phase t.x.made.gets fc o.0 t.x.made.decided (sym (ap (λ (z : Answer). z.outcome) t.x.made.same) ∙ o.1) in
              let f = t.x.good.ordered.order t.x.made.i t.y.made.i t.x.made.x t.y.made.x t.less t.x.made.owns t.y_owns
              (sym (ap (λ (z : Answer). z.place.session.0) t.x.made.same) ∙ (ap (λ (p : SessionId). p.0) e ∙ ap (λ (z : Answer). z.place.session.0) t.y.made.same)) in
              omega (arith, f.final c.0 fc c.1, ap (λ (z : Answer). z.rs.0) t.y.made.same);
          node = λ i j a b is js e less.
              let x = entry_of i a is in
              let y = entry_of j b js in
              let nodes : x.m ≡ y.m = omega (arith, ap (λ (t : Answer). t.tx.node.0) x.made.same, ap (λ (t : Answer). t.tx.node.0) y.made.same, ap (λ (t : NodeId). t.0) e) in
              let r = x.good.timed.rising x.made.i y.made.i x.made.x y.made.x
              (omega (arith, less, ap (λ (t : Answer). t.tx.seq) x.made.same, ap (λ (t : Answer). t.tx.seq) y.made.same)) x.made.owns (one_owner i j a b x y nodes) in
              omega (arith, r, ap (λ (z : Answer). z.rs.0) x.made.same, ap (λ (z : Answer). z.rs.0) y.made.same);
        };
      }

pub session_holds : SessionHolds
session_holds scene ok es = ordered scene ok (run scene es) (good_everywhere scene es)
