-- The guard of a read by a Commit under way: it stays, and the Commit that comes brings the mark to the key's master.
use Rattle.si_laws.proofs.Dependencies.AroundLocal.{Stand}
use Rattle.str_model.proofs.Changes.PairWords.{pair-is}
use Rattle.si_laws.proofs.Guards.ReadGuards.{Clear}
use Rattle.si_laws.proofs.Guards.GuardGrounds.{Committer, Grounds, committer}
use Rattle.si_laws.proofs.Guards.GuardsKept.{MarkSent, clear_some_up, open_not, there_d, there_e}
use Rattle.si_laws.proofs.Stages.LinkedStates.{one_certified, one_of}
use Rattle.si_laws.proofs.Order.MasterFacts.{IsBefore}
use Rattle.si_laws.proofs.Guards.VersionOrigins.{HasWritten, Origin, og_came, og_commit, og_local, og_old, og_pre, origin}
use Rattle.si_laws.proofs.Changes.ReadLetters.{ReadLetter, is_other, letters_act, rl_commit, rl_other, rl_reply, rl_request}
use Rattle.si_laws.proofs.Sources.FinalsReported.{CommittedIn}
use Rattle.si_laws.proofs.Guards.DecidedAbove.{came_above}
use Rattle.str_model.proofs.Principle.SingleChanges.{Act, Where}
use Rattle.str_model.proofs.Principle.Everywhere.{IsSeen, Sent, Stage, at_place, during}
use Rattle.std.proofs.Common.{List, Some, ap, arith, inl, inr, length, refl, slice_get, slice_set, subst, subst₂, sym, true, ℕ, ◌++◌, ◌+◌, ◌<◌, ◌∙◌, ◌≡◌, ◌≢◌, ◌≤◌, ◌⊎◌}
use Rattle.str_base.specs.Versions.{mark_of, stamp}
use Rattle.str_base.specs.declared.names.KeyId.{KeyId}
use Rattle.str_base.specs.declared.names.Kind.TheVariants.{Final, Pre}
use Rattle.str_base.specs.declared.names.PartId.{PartId}
use Rattle.str_base.specs.declared.names.Ts.{Ts}
use Rattle.str_base.specs.declared.names.TxId.{TxId}
use Rattle.str_base.specs.declared.names.Value.{Value}
use Rattle.str_base.specs.declared.names.Version.{Version}
use Rattle.str_model.specs.Acts.{marks_in, raise_all}
use Rattle.str_model.specs.Views.{Doing, Own, View, name_of}
use Rattle.str_model.specs.declared.messages.Body.TheVariants.{Commit}
use Rattle.str_model.specs.declared.messages.Input.{Input}
use Rattle.str_model.specs.declared.messages.Message.{Message}
use Rattle.str_model.specs.declared.names.KeyMark.{KeyMark}
use Rattle.str_scene.specs.Scenes.{Scene, hosts, is_master, part_of}
use Rattle.str_base.proofs.Lists.{get_set_other}
use Rattle.std.proofs.lemmas.Bool.{cases_eq}
use Rattle.str_base.proofs.Members.{in_append, in_at, in_left, in_right}
use Rattle.str_base.proofs.SameNames.{cases_tx}
use Rattle.str_base.specs.Members.{In}
use Rattle.si_laws.proofs.Marks.DoneMarks.{reached}

module _ (scene : Scene) (s : Stage) (i : ℕ) (v : View) (input : Input) (w : Where) (d e : Doing) (is : slice_get s.nodes i ≡ Some v) (seen : IsSeen s input)
    (act : Act (at_place scene i) input w d e) (h : Grounds scene (during s i d)) (u : TxId) (k : KeyId) (a : Value) (rs f : ℕ) (c : CommittedIn (during s i d) u f) (wr : HasWritten scene (during s i d) u k a)
    (g : MarkSent scene (during s i d) u k rs f) where
  st : Stand (at_place scene i) d.view
  st = h.governed_.stand i d.view (there_d scene s i v input w d e is seen act h)

  letters_up : (m : Message) (fc : Ts) (ms : List KeyMark) → In m (s.sent ++ e.sent) → m.body ≡ Commit u (part_of scene k) fc ms → (q : KeyMark) × In q ms × (q.key ≡ k) × (rs ≤ q.mark.0)
  letters_up m fc ms j body = elim (in_append s.sent e.sent m j) [
    | inl z ↦ g.letters m fc ms (in_left s.sent d.sent m z) body
    | inr z ↦ (elim (letters_act (at_place scene i) input w d e act m z) [ inl y ↦ g.letters m fc ms (in_right s.sent d.sent m y) body | inr y ↦ fresh_ y ])
  ]
    where
      fresh_ : ReadLetter (at_place scene i) input d e m → (q : KeyMark) × In q ms × (q.key ≡ k) × (rs ≤ q.mark.0)
      fresh_ (rl_request n l x own to b) = absurd (cc (b, body))
      fresh_ (rl_reply t l r y by fc' sv sn b q) = absurd (cc (b, body))
      fresh_ (rl_other b) = absurd (cc (ap is_other body, b))
      fresh_ (rl_commit n lc' f' y q o o' inp recv b) =
          let both : Commit (name_of (at_place scene i) n) q.part (stamp f') (marks_in (at_place scene i) d.view q.part y.writes) ≡ Commit u (part_of scene k) fc ms = sym b ∙ body in
          let who : name_of (at_place scene i) n ≡ u = cc both in
          absurd (open_not scene s i v input w d e is seen act h n f y u o o'.0 (sym who) c)

  -- the Commit has just come
  module _ (here : g.n ≡ i) (q : Version) (m : In q e.view.versions) (tx : q.tx ≡ u) (key : q.key ≡ k) (fin : q.kind ≡ Final) where
    hosted_here : hosts scene (record { 0 = i + 1 }) (part_of scene k) ≡ true
    hosted_here = subst (λ (z : ℕ). hosts scene (record { 0 = z + 1 }) (part_of scene k) ≡ true) here g.hosted

    same_view : g.view ≡ d.view
    same_view =
        one_of g.view d.view (slice_get (slice_set s.nodes i d.view) i) (subst (λ (z : ℕ). slice_get (slice_set s.nodes i d.view) z ≡ Some g.view) here g.there) (there_d scene s i v input w d e is seen act h)

    -- u's snapshot is below its final timestamp
    below_final : (rs' lc : ℕ) (ws : List Rattle.str_base.specs.declared.names.Write.Write) → Rattle.si_laws.proofs.Stages.LinkedStates.IsCertified scene (during s i d) u rs' lc ws → rs' ≤ f
    below_final rs' lc ws ce =
        let z : Committer scene (during s i d) u f = committer scene (during s i d) u f c in
        let o = one_certified scene (during s i d) z.at_.n z.at_.i z.at_.view z.x u rs' lc ws z.at_.there z.at_.own z.at_.name ce in
        let t = (h.governed_.stand z.at_.n z.at_.view z.at_.there).base.times.each z.at_.i z.x z.at_.own in
        let fc = t.fc z.is.0 f z.is.1 in
        let l = t.lc fc.0 (ap Rattle.str_model.specs.Views.lc_of z.is.1 ∙ fc.1) in omega (arith, l.0, fc.2, o.1)

    old_under : (p : Version) → In p d.view.versions → p.key ≡ k → p.tx ≡ u → p.kind ≡ Pre → (z : Version) → In z d.view.versions → z.key ≡ k → (z.tx ≡ u) ⊎ ((z.kind ≢ Pre) × (z.ts.0 ≤ f))
    old_under p pm pk pt pre z zm zk = elim (cases_tx z.tx u) [ inl y ↦ inl y | inr y ↦ inr (ordered y) ]
      where
        mas : is_master scene (record { 0 = i + 1 }) z.part ≡ true
        mas = subst₂ (λ (n : ℕ) (b : PartId). is_master scene (record { 0 = n + 1 }) b ≡ true) here
            (sym (h.governed_.masters.parts i d.view (there_d scene s i v input w d e is seen act h) z zm ∙ ap (part_of scene) zk)) g.master

        by_order : IsBefore scene (during s i d) z p ⊎ IsBefore scene (during s i d) p z → (z.kind ≢ Pre) × (z.ts.0 ≤ f)
        by_order (inl b) = ((λ q. cc (b.final, q)), (let l = below_final b.rs b.lc b.ws (subst (λ (t : TxId). Rattle.si_laws.proofs.Stages.LinkedStates.IsCertified scene (during s i d) t b.rs b.lc b.ws) pt b.certified) in omega (arith, l, b.below)))
        by_order (inr b) = absurd (cc (b.final, pre))

        ordered : z.tx ≢ u → (z.kind ≢ Pre) × (z.ts.0 ≤ f)
        ordered ne =
            by_order (h.governed_.masters.order i d.view (there_d scene s i v input w d e is seen act h) z p zm pm (zk ∙ sym pk) mas (λ y. ne (y ∙ pt))
            (λ loc. st.apart z p zm loc pm pre (pk ∙ sym zk)) (λ loc. cc (pre, loc)))

    by_origin : Origin (at_place scene i) input d e q → Clear e.view k rs (Some u) f
    by_origin (og_old j) =
        clear_some_up scene s i v input w d e is seen act h k rs a f u c wr hosted_here
        (subst (λ (z : View). Clear z k rs (Some u) f) same_view (g.once q (subst (λ (z : View). In q z.versions) (sym same_view) j) tx key fin))
    by_origin (og_local n lc snap x y own ce own' j same) = absurd (cc (ap (λ (z : Version). z.kind) same, fin))
    by_origin (og_pre b ts y p less j same) = absurd (cc (ap (λ (z : Version). z.kind) same, fin))
    by_origin (og_commit n lc fc x p own o t none le j name hd same) =
        absurd (g.far (ap (λ (z : TxId). z.node.0) (sym tx ∙ (ap (λ (z : Version). z.tx) same ∙ name)) ∙ ap (λ z. z + 1) (sym here)))
    by_origin (og_came from t r fc ms p co dec marks only j o same) =
        let pair = pair-is t r p o in
        let pt : p.tx ≡ u = ap (λ (z : Version). z.tx) (sym same) ∙ tx in
        let pk : p.key ≡ k = ap (λ (z : Version). z.key) (sym same) ∙ key in
        let pre = (came_above scene s i v input w d e is seen act h.governed_ h.written from t r fc ms p co dec j o).0 in
        let part : r ≡ part_of scene k = sym pair.1 ∙ (h.governed_.masters.parts i d.view (there_d scene s i v input w d e is seen act h) p j ∙ ap (part_of scene) pk) in
        let who : t ≡ u = sym pair.0 ∙ pt in
        let body : co.0.body ≡ Commit u (part_of scene k) fc ms = co.3 ∙ (λ n. Commit (who n) (part n) fc ms) in
        let sent : Sent s co.0 = subst (IsSeen s) co.1 seen in
        let km = g.letters co.0 fc ms (in_left s.sent d.sent co.0 (in_at s.sent sent.0 co.0 sent.1)) body in
        let len = h.far.marks i d.view (there_d scene s i v input w d e is seen act h) in
        let in_range : km.0.key.0 < length d.view.marks = omega (arith, g.within, len, ap (λ (z : KeyId). z.0) km.2) in
        let reached = reached ms d.view.marks km.0 km.1 in_range in
        let at_k : mark_of e.view.marks k ≡ mark_of (raise_all ms d.view.marks) km.0.key = subst₂ (λ (xs : List ℕ) (y : KeyId). mark_of xs k ≡ mark_of (raise_all ms d.view.marks) y) (sym marks) (sym km.2) refl in
        record {
          mark = omega (arith, reached, at_k, km.3);
          each = λ z zm zk. elim (only z zm) [ inl y ↦ inr (old_under p j pk pt pre z y zk) | inr y ↦ inr (inl (y ∙ who)) ];
        }

  once_here : g.n ≡ i → (q : Version) → In q e.view.versions → q.tx ≡ u → q.key ≡ k → q.kind ≡ Final → Clear e.view k rs (Some u) f
  once_here here q m tx key fin = by_origin here q m tx key fin (origin (at_place scene i) input w d e act q m)

  pub sent_up : MarkSent scene (during s i e) u k rs f
  sent_up = elim (cases_eq g.n i) [
    | inl p ↦ record {
      n = i;
      view = e.view;
      there = there_e scene s i v input w d e is seen act h;
      within = g.within;
      master = subst (λ (m : ℕ). is_master scene (record { 0 = m + 1 }) (part_of scene k) ≡ true) p g.master;
      hosted = hosted_here_ p;
      far = λ q. g.far (q ∙ ap (λ z. z + 1) (sym p));
      letters = letters_up;
      once = λ q m tx key fin. once_here p q m tx key fin;
    }
    | inr p ↦ record {
      n = g.n;
      view = g.view;
      there = get_set_other s.nodes i g.n e.view p ∙ (sym (get_set_other s.nodes i g.n d.view p) ∙ g.there);
      within = g.within;
      master = g.master;
      hosted = g.hosted;
      far = g.far;
      letters = letters_up;
      once = g.once;
    }
  ]
    where
      hosted_here_ : g.n ≡ i → hosts scene (record { 0 = i + 1 }) (part_of scene k) ≡ true
      hosted_here_ p = subst (λ (m : ℕ). hosts scene (record { 0 = m + 1 }) (part_of scene k) ≡ true) p g.hosted
