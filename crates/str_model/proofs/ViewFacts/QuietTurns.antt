-- Turns that change nothing: that of a decided transaction, and that of a certified one whose dependencies are open and whose gate waits.
use Rattle.std.proofs.Common.{List, None, Some, [], ap, false, inl, inr, length, refl, slice_get, subst, sym, true, ℕ, ◌-◌, ◌∙◌, ◌∷◌, ◌≡◌}
use Rattle.dependency_set.specs.declared.names.Dep.{Dep}
use Rattle.str_model.specs.Gates.{Ask, CommitAt, GateTurn, Missing, Shut, gate_of}
use Rattle.str_model.specs.NodeFacts.{EndedAt, IsShut}
use Rattle.str_model.specs.Owned.{Owns}
use Rattle.str_model.specs.Pass.{gates, half_turn, turn}
use Rattle.str_model.specs.Pass
use Rattle.str_model.specs.Scripts.{at_own}
use Rattle.str_model.specs.Scripts
use Rattle.str_model.specs.Turns.{DepTurn, Keep, Open, dep_turn, left_by, own_fate, resolve_all}
use Rattle.str_model.specs.Turns
use Rattle.str_model.specs.Views.{Aborted, Active, CertWait, Closing, Committed, Doing, Global, Local, Own, Phase, ReadWait, Remote, Reply, View, is_decided, lc_of, put}
use Rattle.str_scene.specs.Scenes.{Here}
use Rattle.str_model.proofs.OwnFacts.TurnsBelow.{OpenAt}
use Rattle.str_base.proofs.Lists.{set_got}
use Rattle.str_base.specs.Members.{In}

-- ---- one own transaction

-- nothing is done with a decided one
pub decided_rests : (i : ℕ) (f : Own → Doing → Doing) (d : Doing) (x : Own) → Owns d.view i x → is_decided x.phase ≡ true → at_own i f d ≡ d
decided_rests i f d x own e = ap (λ o. Scripts.of_own f o d) own ∙ ap (λ b. Scripts.unless_decided b (f x) d) e

-- it is done with an undecided one
pub open_does : (i : ℕ) (f : Own → Doing → Doing) (d : Doing) (x : Own) → Owns d.view i x → is_decided x.phase ≡ false → at_own i f d ≡ f x d
open_does i f d x own e = ap (λ o. Scripts.of_own f o d) own ∙ ap (λ b. Scripts.unless_decided b (f x) d) e

-- nothing is done where there is none
pub none_rests : (i : ℕ) (f : Own → Doing → Doing) (d : Doing) → slice_get d.view.own i ≡ None → at_own i f d ≡ d
none_rests i f d e = ap (λ o. Scripts.of_own f o d) e

-- ---- the look at open dependencies

all_open : (own : List Own) (rs : ℕ) (ds : List Dep) (ffc : ℕ) → ((dep : Dep) → In dep ds → own_fate (slice_get own (dep.seq - 1)) ≡ Open) → resolve_all own rs ds ffc ≡ Keep ffc ds
all_open own rs [] ffc h = refl
all_open own rs (d ∷ ds) ffc h =
    ap (Turns.by_fate rs d ds ffc (λ f. resolve_all own rs ds f)) (h d (inl refl)) ∙ ap (Turns.keep_also d) (all_open own rs ds ffc (λ dep j. h dep (inr j)))

module _ (here : Here) (i : ℕ) (d : Doing) (x : Own) (own : Owns d.view i x) where
  put_same : put i x d ≡ d
  put_same = ap (λ xs. let v : View = record (d.view) { own = xs } in let e : Doing = record d { view = v } in e) (set_got d.view.own i x own)

  resolve_same : is_decided x.phase ≡ false → ((dep : Dep) → In dep x.snap.deps → own_fate (slice_get d.view.own (dep.seq - 1)) ≡ Open) → Pass.resolve_own here i x d ≡ d
  unfolding dep_turn
  resolve_same f h =
      let e : dep_turn d.view.own x.snap ≡ Keep x.snap.ffc x.snap.deps = all_open d.view.own x.snap.rs x.snap.deps x.snap.ffc h in
      ap (λ t. let y : Own = record x { snap = left_by t x.snap } in Pass.resolved here i y t (put i y d)) e ∙ put_same

  -- ---- turns

  pub turn_decided : is_decided x.phase ≡ true → turn here i d ≡ d
  unfolding turn half_turn
  turn_decided e =
      let a = decided_rests i (Pass.resolve_own here i) d x own e in
      let b = decided_rests i (λ z. Pass.again_own here i z.phase z) d x own e in
      let c = decided_rests i (Pass.close_own here i) d x own e in
      ap (λ z. at_own i (Pass.close_own here i) (at_own i (λ y. Pass.again_own here i y.phase y) z)) a ∙ (ap (λ z. at_own i (Pass.close_own here i) z) b ∙ c)

  shut_rests : (lc : ℕ) (again : Doing → Doing) (g : GateTurn) → IsShut g → Pass.gate_done here i again lc x g d ≡ d
  shut_rests lc again (Shut q) s = refl
  shut_rests lc again (Missing p n) s = refl
  shut_rests lc again (Ask p) s = absurd s
  shut_rests lc again (CommitAt fc) s = absurd s

  gates_rest : (n lc : ℕ) (p : Phase) → x.phase ≡ p → is_decided p ≡ false → lc_of p ≡ Some lc → IsShut (gate_of here d.view lc x) → Pass.gate_phase here i (gates here i n) p x d ≡ d
  gates_rest n lc (Local m) e f l s = let is : m ≡ lc = cc l in shut_rests m (gates here i n) (gate_of here d.view m x) (subst (λ k. IsShut (gate_of here d.view k x)) (sym is) s)
  gates_rest n lc (Global m) e f l s = let is : m ≡ lc = cc l in shut_rests m (gates here i n) (gate_of here d.view m x) (subst (λ k. IsShut (gate_of here d.view k x)) (sym is) s)
  gates_rest n lc Active e f l s = refl
  gates_rest n lc (ReadWait k) e f l s = refl
  gates_rest n lc (Remote k) e f l s = refl
  gates_rest n lc (Reply k a by fc) e f l s = refl
  gates_rest n lc CertWait e f l s = refl
  gates_rest n lc (Closing w) e f l s = refl
  gates_rest n lc (Committed m fc) e f l s = refl
  gates_rest n lc (Aborted m c) e f l s = refl

  again_rests : (lc : ℕ) (p : Phase) → is_decided p ≡ false → lc_of p ≡ Some lc → Pass.again_own here i p x d ≡ d
  again_rests lc (Local m) f l = refl
  again_rests lc (Global m) f l = refl
  again_rests lc Active f l = refl
  again_rests lc (Remote k) f l = refl
  again_rests lc (Closing w) f l = refl
  again_rests lc (ReadWait k) f l = absurd (cc l)
  again_rests lc (Reply k a by fc) f l = absurd (cc l)
  again_rests lc CertWait f l = absurd (cc l)
  again_rests lc (Committed m fc) f l = refl
  again_rests lc (Aborted m c) f l = refl

  close_rests : (lc : ℕ) (p : Phase) → x.phase ≡ p → is_decided p ≡ false → lc_of p ≡ Some lc → IsShut (gate_of here d.view lc x) → Pass.close_phase here i p x d ≡ d
  close_rests lc p e f l s = by_phase p e f l
    where
      in_gates : (q : Phase) → x.phase ≡ q → is_decided q ≡ false → lc_of q ≡ Some lc → Pass.gates_in here i d ≡ d
      in_gates q e f l =
          open_does i (λ z. Pass.gate_phase here i (gates here i (length here.scene.parts)) z.phase z) d x own (ap is_decided e ∙ f)
          ∙ gates_rest (length here.scene.parts) lc x.phase refl (ap is_decided e ∙ f) (ap lc_of e ∙ l) s

      by_phase : (q : Phase) → x.phase ≡ q → is_decided q ≡ false → lc_of q ≡ Some lc → Pass.close_phase here i q x d ≡ d
      by_phase (Local m) e f l = in_gates (Local m) e f l
      by_phase (Global m) e f l = in_gates (Global m) e f l
      by_phase (Closing w) e f l = absurd (cc l)
      by_phase Active e f l = absurd (cc l)
      by_phase (ReadWait k) e f l = absurd (cc l)
      by_phase (Remote k) e f l = absurd (cc l)
      by_phase (Reply k a by fc) e f l = absurd (cc l)
      by_phase CertWait e f l = absurd (cc l)
      by_phase (Committed m fc) e f l = absurd (cc f)
      by_phase (Aborted m c) e f l = absurd (cc f)

  -- between steps so is each certified undecided one: it needs a turn only where something of it or of its dependencies has changed
  pub turn_quiet : (lc : ℕ) → is_decided x.phase ≡ false → lc_of x.phase ≡ Some lc → OpenAt d.view i → EndedAt here d.view i → turn here i d ≡ d
  unfolding turn half_turn
  turn_quiet lc f l at ended =
      let a = open_does i (Pass.resolve_own here i) d x own f ∙ resolve_same f (λ dep j. at x dep own f j) in
      let b = open_does i (λ z. Pass.again_own here i z.phase z) d x own f ∙ again_rests lc x.phase f l in
      let c = open_does i (Pass.close_own here i) d x own f ∙ close_rests lc x.phase refl f l (ended x lc own f l) in
      ap (λ z. at_own i (Pass.close_own here i) (at_own i (λ y. Pass.again_own here i y.phase y) z)) a ∙ (ap (λ z. at_own i (Pass.close_own here i) z) b ∙ c)

  -- one that has done what its last step asked, and depends on nothing
  pub turn_idle : x.phase ≡ Active → x.snap.deps ≡ [] → turn here i d ≡ d
  unfolding turn half_turn
  turn_idle e n =
      let f : is_decided x.phase ≡ false = ap is_decided e in
      let a = open_does i (Pass.resolve_own here i) d x own f ∙ resolve_same f (λ dep j. absurd (subst (In dep) n j)) in
      let b = open_does i (λ z. Pass.again_own here i z.phase z) d x own f ∙ ap (λ p. Pass.again_own here i p x d) e in
      let g = open_does i (λ z. Pass.gate_phase here i (gates here i (length here.scene.parts)) z.phase z) d x own f ∙ ap (λ p. Pass.gate_phase here i (gates here i (length here.scene.parts)) p x d) e in
      let c = open_does i (Pass.close_own here i) d x own f ∙ (ap (λ p. Pass.close_phase here i p x d) e ∙ g) in
      ap (λ z. at_own i (Pass.close_own here i) (at_own i (λ y. Pass.again_own here i y.phase y) z)) a ∙ (ap (λ z. at_own i (Pass.close_own here i) z) b ∙ c)
