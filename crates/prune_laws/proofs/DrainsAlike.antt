-- A drain takes the same events in both runs, and what is left to be done and what is written is the same.
use Rattle.str_model.proofs.ListFacts.{some_map}
use Rattle.prune_laws.proofs.EventsAlike.{same_input}
use Rattle.prune_laws.proofs.PairedLists.{alike_length}
use Rattle.prune_laws.proofs.PruneHolds.{alongside, pruned_one_more}
use Rattle.prune_laws.specs.PrunedClusters.{pruned_cluster_events, pruned_cluster_run, pruned_drain_events}
use Rattle.prune_laws.specs.PruneLaw.{DrainsAlike, IsDecidedIn, LeftAlike, OutputsAlike, WholeDrainsAlike}
use Rattle.si_laws.proofs.Stages.LinkedStates.{one_of}
use Rattle.std.proofs.Common.{Bool, List, None, Option, Some, [], add-one, ap, drop, false, find, flat_map, fold, if◌then◌else◌, is_some, length, map, not, option_map, refl, slice_get, suc, sym, true, zero, ℕ, ◌++◌, ◌+◌, ◌-◌, ◌==◌, ◌∙◌, ◌∷◌, ◌≡◌}
use Rattle.std.specs.List.{count_by, range_with_len, sum_by}
use Rattle.str_base.proofs.Lists.{same_by_places}
use Rattle.str_base.specs.declared.names.SessionId.{SessionId}
use Rattle.str_base.specs.declared.names.TxId.{TxId}
use Rattle.str_model.specs.Clients.{client_rule}
use Rattle.str_model.specs.declared.messages.Input.TheVariants.{Client}
use Rattle.str_model.specs.declared.messages.Message.{Message}
use Rattle.str_model.specs.Drains
use Rattle.str_model.specs.Drains.{cluster_events, cluster_run, drain_events, moves, next_event, next_message, next_session}
use Rattle.str_model.specs.Lines.{answer_line, counts, end_line, is_commit, journal_lines, render, render_j}
use Rattle.str_model.specs.PrunedRuns.{bound, pruned_happens, pruned_run}
use Rattle.str_model.specs.Pruning.{low, pruned}
use Rattle.str_model.specs.Runs.{happens, opening, run}
use Rattle.str_model.specs.Steps.{after_rule, rule, step}
use Rattle.str_model.specs.Views.{Doing, Own, View, is_decided, starts}
use Rattle.str_model.specs.Work
use Rattle.str_model.specs.Work.{left}
use Rattle.str_scene.specs.declared.names.Event.{Event}
use Rattle.str_scene.specs.Scenes.{Here, Scene, Session, nth}
use Rattle.str_model.proofs.Principle.Everywhere.{at_place, run-append}
use Rattle.str_model.proofs.Pruning.TwinRules.{BothTo}
use Rattle.str_model.proofs.Pruning.Twins.{Alike, AllAlike, a_refuse, a_reply, a_same}

-- ---- the next event

-- a client step is one that is not idle
moves_by_step : (here : Here) (s : SessionId) (v : View) → is_some (step here (Client s 0) v) ≡ is_some (client_rule here s 0 (starts v))
unfolding step rule
moves_by_step here s v = some_map (after_rule here) (client_rule here s 0 (starts v))

some_both : (g : ℕ) (Dec : TxId → Type 0) (here : Here) (o r : Option Doing) → BothTo g Dec here o r → is_some r ≡ is_some o
some_both g Dec here None None t = refl
some_both g Dec here None (Some f) t = absurd t
some_both g Dec here (Some d) None t = absurd t
some_both g Dec here (Some d) (Some f) t = refl

module _ (scene : Scene) (es : List Event) where
  view_alike : (s : SessionId) (i : ℕ) (v : View) (at : slice_get (run scene es).nodes i ≡ Some v) (u : View) → slice_get (pruned_run scene es).world.nodes i ≡ Some u
      → is_some (client_rule (at_place scene i) s 0 (starts u)) ≡ is_some (client_rule (at_place scene i) s 0 (starts v))
  view_alike s i v at u there =
      let b = (alongside scene es).nodes i v at in
      let g = bound (low v) i b.row in
      let same : pruned g v ≡ u = one_of (pruned g v) u (slice_get (pruned_run scene es).world.nodes i) b.view there in
      let both = same_input scene es (pruned_run scene es) (alongside scene es) (Client s 0) tt i v at in
      sym (moves_by_step (at_place scene i) s u)
      ∙ (ap (λ (z : View). is_some (step (at_place scene i) (Client s 0) z)) (sym same)
      ∙ (some_both g (IsDecidedIn (run scene es)) (at_place scene i) (step (at_place scene i) (Client s 0) v) (step (at_place scene i) (Client s 0) (pruned g v)) both ∙ moves_by_step (at_place scene i) s v))

  pub moves_alike : (s : ℕ) → moves scene (pruned_run scene es).world s ≡ moves scene (run scene es) s
  unfolding moves
  moves_alike s = by_session (nth scene.sessions s)
    where
      by_view : (k : ℕ) (o r : Option View) → nth (run scene es).nodes k ≡ o → nth (pruned_run scene es).world.nodes k ≡ r
          → Drains.view_moves (record { scene = scene; node = record { 0 = k } }) (record { 0 = s }) r ≡ Drains.view_moves (record { scene = scene; node = record { 0 = k } }) (record { 0 = s }) o
      by_view k None None g h = refl
      by_view zero (Some v) r g h = absurd (cc g)
      by_view zero None (Some u) g h = absurd (cc h)
      by_view (suc k) None (Some u) g h = absurd (cc ((alongside scene es).none k g, h))
      by_view (suc k) (Some v) None g h = absurd (cc (((alongside scene es).nodes k v g).view, h))
      by_view (suc k) (Some v) (Some u) g h = rw (← add-one k) (view_alike (record { 0 = s }) k v g u h)

      by_session : (o : Option Session) → Drains.session_moves scene (pruned_run scene es).world.nodes (record { 0 = s }) o ≡ Drains.session_moves scene (run scene es).nodes (record { 0 = s }) o
      by_session None = refl
      by_session (Some text) = by_view text.node.0 (nth (run scene es).nodes text.node.0) (nth (pruned_run scene es).world.nodes text.node.0) refl refl

  session_alike : next_session scene (pruned_run scene es).world ≡ next_session scene (run scene es)
  unfolding next_session
  session_alike = (λ j. find (λ (s : ℕ). moves_alike s j) (range_with_len 1 (length scene.sessions)))

  message_alike : next_message (pruned_run scene es).world ≡ next_message (run scene es)
  unfolding next_message
  message_alike = ap (Drains.first_missing 1) (alongside scene es).given

  pub next_alike : next_event scene (pruned_run scene es).world ≡ next_event scene (run scene es)
  unfolding next_event
  next_alike = by_message (next_message (pruned_run scene es).world) (next_message (run scene es)) message_alike
    where
      by_message : (o r : Option ℕ) → o ≡ r → Drains.message_or_client scene (pruned_run scene es).world o ≡ Drains.message_or_client scene (run scene es) r
      by_message None None q = ap Drains.client_or_stop session_alike
      by_message None (Some i) q = absurd (cc q)
      by_message (Some i) None q = absurd (cc q)
      by_message (Some i) (Some k) q = ap (λ (o : Option ℕ). Drains.message_or_client scene (run scene es) o) q

  -- ---- what is left

  -- a view without its versions
  abbrev bare : View → View
  bare v = record v { versions = [] }

  nodes_alike : map bare (pruned_run scene es).world.nodes ≡ map bare (run scene es).nodes
  nodes_alike = same_by_places (map bare (pruned_run scene es).world.nodes) (map bare (run scene es).nodes) at_each
    where
      get_map : (vs : List View) (i : ℕ) → slice_get (map bare vs) i ≡ option_map bare (slice_get vs i)
      get_map [] i = refl
      get_map (v ∷ vs) zero = refl
      get_map (v ∷ vs) (suc i) = get_map vs i

      by_view : (i : ℕ) (o r : Option View) → slice_get (run scene es).nodes i ≡ o → slice_get (pruned_run scene es).world.nodes i ≡ r → option_map bare r ≡ option_map bare o
      by_view i None None g h = refl
      by_view i None (Some u) g h = absurd (cc ((alongside scene es).none i g, h))
      by_view i (Some v) r g h = let b = (alongside scene es).nodes i v g in ap (option_map bare) (sym h ∙ b.view)

      at_each : (i : ℕ) → slice_get (map bare (pruned_run scene es).world.nodes) i ≡ slice_get (map bare (run scene es).nodes) i
      at_each i =
          get_map (pruned_run scene es).world.nodes i
          ∙ (by_view i (slice_get (run scene es).nodes i) (slice_get (pruned_run scene es).world.nodes i) refl refl ∙ sym (get_map (run scene es).nodes i))

  -- a sum over views that sees no versions
  fold_bare : (f : View → ℕ) → ((v : View) → f (bare v) ≡ f v) → (a : ℕ) (vs : List View) → fold (λ (b : ℕ) (v : View). b + f v) a (map bare vs) ≡ fold (λ (b : ℕ) (v : View). b + f v) a vs
  fold_bare f h a [] = refl
  fold_bare f h a (v ∷ vs) = ap (λ (n : ℕ). fold (λ (b : ℕ) (v : View). b + f v) (a + n) (map bare vs)) (h v) ∙ fold_bare f h (a + f v) vs

  sum_bare : (f : View → ℕ) → ((v : View) → f (bare v) ≡ f v) → (vs : List View) → sum_by f (map bare vs) ≡ sum_by f vs
  sum_bare f h vs = fold_bare f h 0 vs

  pub sum_alike : (f : View → ℕ) → ((v : View) → f (bare v) ≡ f v) → sum_by f (pruned_run scene es).world.nodes ≡ sum_by f (run scene es).nodes
  sum_alike f h = sym (sum_bare f h (pruned_run scene es).world.nodes) ∙ (ap (sum_by f) nodes_alike ∙ sum_bare f h (run scene es).nodes)

  views_bare : (n : ℕ) (vs : List View) → Work.views_left scene n (map bare vs) ≡ Work.views_left scene n vs
  views_bare n [] = refl
  views_bare n (v ∷ vs) = ap (λ (k : ℕ). Work.view_left scene (record { 0 = n }) v + k) (views_bare (n + 1) vs)

  views_alike : Work.views_left scene 1 (pruned_run scene es).world.nodes ≡ Work.views_left scene 1 (run scene es).nodes
  views_alike = sym (views_bare 1 (pruned_run scene es).world.nodes) ∙ (ap (Work.views_left scene 1) nodes_alike ∙ views_bare 1 (run scene es).nodes)

  unbegun_alike : (s : ℕ) (texts : List Session) → Work.unbegun_left scene (pruned_run scene es).world.nodes s texts ≡ Work.unbegun_left scene (run scene es).nodes s texts
  unbegun_alike s [] = refl
  unbegun_alike s (text ∷ rest) =
      let b : Work.begun_in (pruned_run scene es).world.nodes s ≡ Work.begun_in (run scene es).nodes s = sum_alike (λ v. count_by (λ (x : Own). x.place.session.0 == s) v.own) (λ v. refl) in
      (λ j. sum_by (Work.share scene text.node) (drop (b j) text.txs) + unbegun_alike (s + 1) rest j)

  weighs_alike : (m n : Message) → Alike (IsDecidedIn (run scene es)) m n → Work.body_weight scene n.body ≡ Work.body_weight scene m.body
  weighs_alike m n (a_same u v q) = ap (λ (z : Message). Work.body_weight scene z.body) (sym q)
  weighs_alike m n (a_reply from to tx k v v' by by' fc fc' c) = refl
  weighs_alike m n (a_refuse from to tx r by by' k c) = refl

  sent_alike : (ms ns : List Message) (given : List Bool) → AllAlike (IsDecidedIn (run scene es)) ms ns → Work.sent_left scene ns given ≡ Work.sent_left scene ms given
  sent_alike [] [] given a = refl
  sent_alike [] (n ∷ ns) given a = absurd a
  sent_alike (m ∷ ms) [] given a = absurd a
  sent_alike (m ∷ ms) (n ∷ ns) [] a = refl
  sent_alike (m ∷ ms) (n ∷ ns) (true ∷ given) a = sent_alike ms ns given a.1
  sent_alike (m ∷ ms) (n ∷ ns) (false ∷ given) a = (λ j. weighs_alike m n a.0 j + sent_alike ms ns given a.1 j)

  pub left_same : left scene (pruned_run scene es).world ≡ left scene (run scene es)
  unfolding left
  left_same =
      let a = alongside scene es in
      let u = unbegun_alike 1 scene.sessions in
      let v = views_alike in
      let s : Work.sent_left scene (pruned_run scene es).world.sent (pruned_run scene es).world.given ≡ Work.sent_left scene (run scene es).sent (run scene es).given =
      ap (Work.sent_left scene (pruned_run scene es).world.sent) a.given ∙ sent_alike (run scene es).sent (pruned_run scene es).world.sent (run scene es).given a.sent in
      (λ j. u j + (v j + s j))

  -- ---- what is written

  pub counts_alike : counts scene (pruned_run scene es).world ≡ counts scene (run scene es)
  counts_alike =
      let a = alongside scene es in
      let held = sum_alike (λ v. count_by (λ (x : Own). not (is_decided x.phase)) v.own) (λ v. refl) in
      let begun = sum_alike (λ v. length v.own) (λ v. refl) in
      let messages = sym (alike_length (IsDecidedIn (run scene es)) (run scene es).sent (pruned_run scene es).world.sent a.sent) in
      (λ j. record {
        commits = count_by (λ x. is_commit x.outcome) (a.answers j);
        aborts = count_by (λ x. not (is_commit x.outcome)) (a.answers j);
        held = held j;
        unbegun = sum_by (λ s. length s.txs) scene.sessions - begun j;
        messages = messages j;
      })

  pub written_alike : render scene (pruned_run scene es).world ≡ render scene (run scene es)
  unfolding render
  written_alike =
      let a = alongside scene es in
      let c = counts_alike in
      (λ j. flat_map (answer_line scene.keys) (a.answers j) ++ end_line (c j))

  pub journal_written_alike : render_j scene (pruned_run scene es).world ≡ render_j scene (run scene es)
  unfolding render_j
  journal_written_alike =
      let a = alongside scene es in
      let c = counts_alike in
      (λ j. journal_lines scene.keys (a.journal j) (a.answers j) ++ end_line (c j))

pub drains_alike : DrainsAlike
drains_alike scene es = next_alike scene es

pub left_alike : LeftAlike
left_alike scene es = left_same scene es

pub drain_alike : (scene : Scene) (n : ℕ) (es : List Event) → pruned_drain_events scene n (pruned_run scene es) ≡ drain_events scene n (run scene es)
drain_alike scene zero es = refl
drain_alike scene (suc n) es = by_event (next_event scene (pruned_run scene es).world) (next_event scene (run scene es)) (next_alike scene es) (λ e. drain_alike scene n (es ++ e ∷ []))
  where
    by_event : (o r : Option Event) → o ≡ r → ((e : Event) → pruned_drain_events scene n (pruned_run scene (es ++ e ∷ [])) ≡ drain_events scene n (run scene (es ++ e ∷ [])))
        → Drains.and_on (λ e. e ∷ pruned_drain_events scene n (pruned_happens scene (pruned_run scene es) e)) o ≡ Drains.and_on (λ e. e ∷ drain_events scene n (happens scene (run scene es) e)) r
    by_event None None q h = refl
    by_event None (Some f) q h = absurd (cc q)
    by_event (Some e) None q h = absurd (cc q)
    by_event (Some e) (Some f) q h =
        let same : e ≡ f = cc q in
        let rest : pruned_drain_events scene n (pruned_happens scene (pruned_run scene es) e) ≡ drain_events scene n (happens scene (run scene es) e) =
        ap (pruned_drain_events scene n) (sym (pruned_one_more scene es e)) ∙ (h e ∙ ap (drain_events scene n) (run-append scene (opening scene) es (e ∷ []))) in
        ap (λ (xs : List Event). e ∷ xs) rest ∙ ap (λ (z : Event). z ∷ drain_events scene n (happens scene (run scene es) z)) same

pub whole_drains_alike : WholeDrainsAlike
unfolding pruned_cluster_events cluster_events
whole_drains_alike scene = ap (λ (es : List Event). scene.schedule ++ es) (by_drain scene.drain)
  where
    by_drain : (b : Bool) → (if b then pruned_drain_events scene (left scene (pruned_run scene scene.schedule).world) (pruned_run scene scene.schedule) else [])
        ≡ (if b then drain_events scene (left scene (run scene scene.schedule)) (run scene scene.schedule) else [])
    by_drain true = ap (λ (n : ℕ). pruned_drain_events scene n (pruned_run scene scene.schedule)) (left_same scene scene.schedule) ∙ drain_alike scene (left scene (run scene scene.schedule)) scene.schedule
    by_drain false = refl

pub outputs_alike : OutputsAlike
unfolding pruned_cluster_run cluster_run
outputs_alike scene =
    let q = whole_drains_alike scene in
    record {
      plain = ap (λ (es : List Event). render scene (pruned_run scene es).world) q ∙ written_alike scene (cluster_events scene);
      journal = ap (λ (es : List Event). render_j scene (pruned_run scene es).world) q ∙ journal_written_alike scene (cluster_events scene);
    }
