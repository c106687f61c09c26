-- The law Session, over every run.
use Rattle.std.proofs.Common.{List, Some, [], ap, append-nil, arith, eqb-true, filter, inl, inr, length, refl, replicate, slice_get, subst, subst₂, suc, sym, zero, ℕ, ◌++◌, ◌+◌, ◌∙◌, ◌≡◌, ◌≢◌, ◌⊎◌}
use Rattle.std.proofs.lemmas.List.Elements.{filter-append}
use Rattle.str_scene.specs.declared.names.Event.{Event}
use Rattle.str_model.specs.declared.messages.Answer.{Answer}
use Rattle.str_model.specs.declared.messages.Input.{Input}
use Rattle.str_model.specs.Owned.{AreTimed}
use Rattle.str_model.specs.Runs.{opening, opening_view, run}
use Rattle.str_scene.specs.Scenes.{Here, Scene, Session, nth}
use Rattle.str_model.specs.Views.{Doing, View, starts}
use Rattle.str_model.proofs.Principle.SingleChanges.{Act, Where}
use Rattle.str_model.proofs.Principle.StepPaths.{StepPath, step-keeps}
use Rattle.str_model.proofs.Principle.Everywhere.{IsSeen, Stage, at_place, during, stage_of, steps_everywhere}
use Rattle.str_model.proofs.Changes.OwnChanges.{own_step}
use Rattle.str_model.proofs.OwnFacts.PlacesInOrder.{InOrder, PlacedIn, order-step}
use Rattle.si_laws.proofs.Scripts.EvaluationKept.{AllEvaluate, decision-ends, gives-act}
use Rattle.si_laws.proofs.Sessions.SessionOrder.{Told, ours-step, rising-step, told-step, told_in}
use Rattle.str_model.proofs.Changes.AnswerChanges.{Rising, none_pass, r_none, tell_step}
use Rattle.str_model.proofs.OwnFacts.NodeTimes.{timed-step, timed_opening}
use Rattle.std.proofs.lemmas.Bool.{false_from_ne_true}
use Rattle.str_base.proofs.Lists.{got_replicate, got_set}
use Rattle.str_base.proofs.Members.{in_append}
use Rattle.str_base.specs.Members.{In}
use Rattle.std.proofs.lemmas.List.{length-set}

-- what holds of a node
pub record NodeGood (scene : Scene) (n : ℕ) (answers : List Answer) (v : View) : Type 0 where
  pub timed : AreTimed v
  pub ordered : InOrder scene n v.own
  pub evaluates : AllEvaluate (at_place scene n) v
  pub told_ : (s : ℕ) (text : Session) → nth scene.sessions s ≡ Some text → text.node.0 ≡ n + 1 → Told (at_place scene n) s v.own (filter (told_in s) answers)

-- what holds of a cluster
pub record Good (scene : Scene) (st : Stage) : Type 0 where
  pub nodes : (n : ℕ) (v : View) → slice_get st.nodes n ≡ Some v → NodeGood scene n st.answers v
  pub named : (a : Answer) → In a st.answers → (m : ℕ) × PlacedIn scene m a.place
  pub count : length st.nodes ≡ scene.nodes

-- what holds in the midst of a step
pub record Mid (scene : Scene) (n : ℕ) (old : List Answer) (d : Doing) : Type 0 where
  pub good : NodeGood scene n (old ++ d.released) d.view
  pub up : Rising d.released
  pub ours : (a : Answer) → In a d.released → PlacedIn scene n a.place

mid-keeps : (scene : Scene) (n : ℕ) (old : List Answer) (input : Input) (w : Where) (d e : Doing) → Act (at_place scene n) input w d e → Mid scene n old d → Mid scene n old e
mid-keeps scene n old input w d e a h =
    let here : Here = at_place scene n in
    let t = tell_step here input w d e a in
    record {
      good = record {
        timed = timed-step d.view e.view (own_step here input w d e a) h.good.timed;
        ordered = order-step here n d e refl t h.good.timed h.good.ordered;
        evaluates = gives-act here input w d e a h.good.evaluates;
        told_ = λ s text q r. told-step here n s old d e t (decision-ends here input w d e a h.good.evaluates) h.up h.good.ordered (h.good.told_ s text q r);
      };
      up = rising-step here d e t h.up;
      ours = ours-step here n d e t h.good.ordered h.ours;
    }

mid_start : (scene : Scene) (n : ℕ) (old : List Answer) (v : View) → NodeGood scene n old v → Mid scene n old (starts v)
mid_start scene n old v h =
    record { good = subst (λ (xs : List Answer). NodeGood scene n xs v) (sym (append-nil old)) h; up = r_none; ours = λ a k. absurd k }

pub length_copies : {A : Type 0} (n : ℕ) (y : A) → length (replicate n y) ≡ n
length_copies zero y = refl
length_copies (suc n) y = ap suc (length_copies n y)

-- a session is of one node
other_session : (scene : Scene) (i s : ℕ) (text : Session) (bs : List Answer) → nth scene.sessions s ≡ Some text → text.node.0 ≢ i + 1
    → ((a : Answer) → In a bs → PlacedIn scene i a.place) → filter (told_in s) bs ≡ []
other_session scene i s text bs q n ours =
    none_pass (told_in s) bs (λ a k. false_from_ne_true (told_in s a) (λ t.
    let p = ours a k in
    let e : a.place.session.0 ≡ s = eqb-true a.place.session.0 s t in
    let both : Some p.text ≡ Some text = sym p.session ∙ (ap (λ m. nth scene.sessions m) e ∙ q) in
    let same : p.text ≡ text = cc both in
    n (ap (λ (z : Session). z.node.0) (sym same) ∙ p.node)))

good-keeps : (scene : Scene) (s : Stage) (i : ℕ) (v : View) (input : Input) (e : Doing) → slice_get s.nodes i ≡ Some v → IsSeen s input
    → StepPath (at_place scene i) input (starts v) e → Good scene s → Good scene (during s i e)
good-keeps scene s i v input e is seen p h =
    let m : Mid scene i s.answers e =
    step-keeps (at_place scene i) input (Mid scene i s.answers) (λ w d f. mid-keeps scene i s.answers input w d f) (starts v) e p (mid_start scene i s.answers v (h.nodes i v is)) in
    record {
      nodes = λ n u g. by_node m n u (got_set s.nodes i n e.view u g);
      named = λ a k. elim (in_append s.answers e.released a k) [ inl j ↦ h.named a j | inr j ↦ (i, m.ours a j) ];
      count = length-set s.nodes i e.view ∙ h.count;
    }
  where
    by_node : Mid scene i s.answers e → (n : ℕ) (u : View) → ((n ≡ i) × (u ≡ e.view)) ⊎ ((n ≢ i) × (slice_get s.nodes n ≡ Some u)) → NodeGood scene n (s.answers ++ e.released) u
    by_node m n u (inl q) = subst₂ (λ (k : ℕ) (z : View). NodeGood scene k (s.answers ++ e.released) z) (sym q.0) (sym q.1) m.good
    by_node m n u (inr q) =
        let g = h.nodes n u q.1 in
        record {
          timed = g.timed;
          ordered = g.ordered;
          evaluates = g.evaluates;
          told_ = λ k text a b.
              let none : filter (told_in k) e.released ≡ [] = other_session scene i k text e.released a (λ c. q.0 (omega (arith, b, c))) m.ours in
              let same : filter (told_in k) (s.answers ++ e.released) ≡ filter (told_in k) s.answers =
              filter-append (told_in k) s.answers e.released ∙ (ap (λ xs. filter (told_in k) s.answers ++ xs) none ∙ append-nil (filter (told_in k) s.answers)) in
              subst (Told (at_place scene n) k u.own) (sym same) (g.told_ k text a b);
        }

good_opening : (scene : Scene) → Good scene (stage_of (opening scene))
good_opening scene =
    record {
      nodes = λ n v g. subst (NodeGood scene n []) (sym (got_replicate scene.nodes n (opening_view scene) v g)) (record {
        timed = timed_opening scene;
        ordered = record { placed = λ i x q. absurd (cc q); order = λ i j x y less q r s. absurd (cc q) };
        evaluates = λ i x q. absurd (cc q);
        told_ = λ s text q r. record { made = λ c a g. absurd (cc g); none = λ f. refl; last = λ i x q ofs none. absurd (cc q) };
      });
      named = λ a k. absurd k;
      count = length_copies scene.nodes (opening_view scene);
    }

pub good_everywhere : (scene : Scene) (es : List Event) → Good scene (stage_of (run scene es))
good_everywhere scene es = steps_everywhere scene (Good scene) (good-keeps scene) (good_opening scene) es
