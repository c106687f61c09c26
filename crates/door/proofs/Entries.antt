-- The entries of a run: what they hold, and that they grow at their end.
use Rattle.answer_board.proofs.Rising.{prefix_self, prefix_trans}
use Rattle.answer_board.specs.Entries.{answers_of, dones_of}
use Rattle.answer_board.specs.declared.entries.Entry.{Entry}
use Rattle.answer_board.specs.declared.entries.Entry.TheVariants.{Did, Gave}
use Rattle.cluster_run.specs.Clusters.{IsRun, events_of}
use Rattle.door.specs.Following.{as_gave, entries_from, run_entries}
use Rattle.std.proofs.Common.{List, None, Option, Some, [], ap, append-nil, append_assoc, ap₂, arith, drop, length, length-append, length-drop, map, refl, subst, sym, take, take_all, false, true, ℕ, ◌++◌, ◌+◌, ◌-◌, ◌∙◌, ◌∷◌, ◌≡◌, ◌≤◌}
use Rattle.std.proofs.lemmas.List.{drop-append-le, take-append-drop, take-append-le}
use Rattle.std.proofs.lemmas.List.Sums.{sum_by-append, sum_by-cons}
use Rattle.std.specs.List.{sum_by}
use Rattle.str_base.specs.declared.names.NodeId.{NodeId}
use Rattle.str_model.specs.Runs.{World, client_event, deliver_event, give, happens, opening, run_from, step_at, stepped}
use Rattle.str_model.specs.Steps.{step}
use Rattle.str_model.specs.Views.{Doing, View}
use Rattle.str_model.specs.declared.messages.Answer.{Answer}
use Rattle.str_model.specs.declared.messages.Input.{Input}
use Rattle.str_model.specs.declared.messages.Input.TheVariants.{Client, Deliver}
use Rattle.str_model.specs.declared.messages.Message.{Message}
use Rattle.str_model.specs.declared.names.Done.{Done}
use Rattle.str_scene.specs.Scenes.{Scene, Session, nth}
use Rattle.str_scene.specs.declared.names.Event.{Event}
use Rattle.str_scene.specs.declared.names.Event.TheVariants.{Client as ClientEvent, Deliver as DeliverEvent}
use mathlib.Core.List.{IsPrefix}

-- ---- what a list holds

pub dones_append : (xs ys : List Entry) → dones_of (xs ++ ys) ≡ dones_of xs ++ dones_of ys
dones_append [] ys = refl
dones_append (Did d ∷ xs) ys = ap (λ (ds : List Done). d ∷ ds) (dones_append xs ys)
dones_append (Gave a ∷ xs) ys = dones_append xs ys

pub answers_append : (xs ys : List Entry) → answers_of (xs ++ ys) ≡ answers_of xs ++ answers_of ys
answers_append [] ys = refl
answers_append (Did d ∷ xs) ys = answers_append xs ys
answers_append (Gave a ∷ xs) ys = ap (λ (rs : List Answer). a ∷ rs) (answers_append xs ys)

dones_gave : (rs : List Answer) (es : List Entry) → dones_of (as_gave rs ++ es) ≡ dones_of es
dones_gave [] es = refl
dones_gave (a ∷ rs) es = dones_gave rs es

answers_gave : (rs : List Answer) (es : List Entry) → answers_of (as_gave rs ++ es) ≡ rs ++ answers_of es
answers_gave [] es = refl
answers_gave (a ∷ rs) es = ap (λ (xs : List Answer). a ∷ xs) (answers_gave rs es)

-- the journal entries of a journal's entries are the journal
pub dones_entries : (ds : List Done) (rs : List Answer) → dones_of (entries_from ds rs) ≡ ds
dones_entries [] rs = refl
dones_entries (d ∷ ds) rs = ap (λ (xs : List Done). d ∷ xs) (dones_gave (take d.answers rs) (entries_from ds (drop d.answers rs)) ∙ dones_entries ds (drop d.answers rs))

answers_none : (rs : List Answer) → 0 ≡ length rs → rs ≡ []
answers_none [] n = refl
answers_none (a ∷ rs) n = absurd (omega (arith, n))

rest_counted : (d : Done) (ds : List Done) (rs : List Answer) → sum_by (λ e. e.answers) (d ∷ ds) ≡ length rs → (d.answers ≤ length rs) × (sum_by (λ e. e.answers) ds ≡ length (drop d.answers rs))
rest_counted d ds rs s =
    let all = sum_by-cons (λ (x : Done). x.answers) d ds in
    let l = length-drop d.answers rs in
    (omega (arith, s, all), omega (arith, s, all, l))

-- and where the journal counts the answers, theirs are the answers
pub answers_entries : (ds : List Done) (rs : List Answer) → sum_by (λ e. e.answers) ds ≡ length rs → answers_of (entries_from ds rs) ≡ rs
answers_entries [] rs s = sym (answers_none rs s)
answers_entries (d ∷ ds) rs s =
    answers_gave (take d.answers rs) (entries_from ds (drop d.answers rs))
    ∙ (ap (λ (xs : List Answer). take d.answers rs ++ xs) (answers_entries ds (drop d.answers rs) (rest_counted d ds rs s).1) ∙ take-append-drop d.answers rs)

-- ---- one journal entry more

entries_snoc : (ds : List Done) (rs : List Answer) (d : Done) (bs : List Answer) → sum_by (λ e. e.answers) ds ≡ length rs → d.answers ≡ length bs
    → entries_from (ds ++ d ∷ []) (rs ++ bs) ≡ entries_from ds rs ++ Did d ∷ as_gave bs
entries_snoc [] [] d bs s n = ap (λ (es : List Entry). Did d ∷ es) (append-nil (as_gave (take d.answers bs)) ∙ ap as_gave (take_all d.answers bs (omega (arith, n))))
entries_snoc [] (a ∷ rs) d bs s n = absurd (omega (arith, s))
entries_snoc (e ∷ ds) rs d bs s n =
    let rest = rest_counted e ds rs s in
    let later : entries_from (ds ++ d ∷ []) (drop e.answers (rs ++ bs)) ≡ entries_from ds (drop e.answers rs) ++ Did d ∷ as_gave bs =
    ap (entries_from (ds ++ d ∷ [])) (drop-append-le e.answers rs bs rest.0) ∙ entries_snoc ds (drop e.answers rs) d bs rest.1 n in
    ap (λ (es : List Entry). Did e ∷ es)
    (ap₂ (λ (xs : List Answer) (es : List Entry). as_gave xs ++ es) (take-append-le e.answers rs bs rest.0) later
    ∙ sym (append_assoc (as_gave (take e.answers rs)) (entries_from ds (drop e.answers rs)) (Did d ∷ as_gave bs)))

-- ---- what an event adds

-- the journal grows by an entry, and the answers by those that the entry counts
pub record AddsEntry (w w' : World) : Type 0 where
  pub done : Done
  pub released : List Answer
  pub journal : w'.journal ≡ w.journal ++ done ∷ []
  pub answers : w'.answers ≡ w.answers ++ released
  pub count : done.answers ≡ length released

-- the journal counts all answers
abbrev pub CountsAnswers : World → Type 0
CountsAnswers w = sum_by (λ d. d.answers) w.journal ≡ length w.answers

stepped_adds : (e : Event) (i : ℕ) (w v : World) (o : Option Doing) → v.journal ≡ w.journal → v.answers ≡ w.answers → AddsEntry w (stepped e i v o)
stepped_adds e i w v None j a =
    record { done = record { event = e; idle = true; answers = 0 }; released = []; journal = ap (λ (ds : List Done). ds ++ record { event = e; idle = true; answers = 0 } ∷ []) j; answers = a ∙ sym (append-nil w.answers); count = refl }
stepped_adds e i w v (Some d) j a =
    record {
      done = record { event = e; idle = false; answers = length d.released };
      released = d.released;
      journal = ap (λ (ds : List Done). ds ++ record { event = e; idle = false; answers = length d.released } ∷ []) j;
      answers = ap (λ (all : List Answer). all ++ d.released) a;
      count = refl;
    }

at_adds : (scene : Scene) (e : Event) (n : NodeId) (input : Input) (w v : World) (o : Option View) → v.journal ≡ w.journal → v.answers ≡ w.answers → AddsEntry w (step_at scene e n input v o)
at_adds scene e n input w v None j a = stepped_adds e 0 w v None j a
at_adds scene e n input w v (Some view) j a = stepped_adds e (n.0 - 1) w v (step (record { scene = scene; node = n }) input view) j a

happens_adds : (scene : Scene) (w : World) (e : Event) → AddsEntry w (happens scene w e)
unfolding happens
happens_adds scene w (ClientEvent s t) = by_session (nth scene.sessions s.0)
  where
    by_session : (o : Option Session) → AddsEntry w (client_event scene (ClientEvent s t) s t w o)
    by_session None = stepped_adds (ClientEvent s t) 0 w w None refl refl
    by_session (Some text) = at_adds scene (ClientEvent s t) text.node (Client s t) w w (nth w.nodes text.node.0) refl refl
happens_adds scene w (DeliverEvent i) = by_message (nth w.sent i)
  where
    by_message : (o : Option Message) → AddsEntry w (deliver_event scene (DeliverEvent i) i w o)
    by_message None = stepped_adds (DeliverEvent i) 0 w w None refl refl
    by_message (Some m) = at_adds scene (DeliverEvent i) m.receiver (Deliver m) w (give i w) (nth (give i w).nodes m.receiver.0) refl refl

counts_after : (w w' : World) → CountsAnswers w → AddsEntry w w' → CountsAnswers w'
counts_after w w' h g =
    let entries : sum_by (λ d. d.answers) w'.journal ≡ sum_by (λ d. d.answers) w.journal + sum_by (λ d. d.answers) (g.done ∷ []) =
    ap (sum_by (λ (d : Done). d.answers)) g.journal ∙ sum_by-append (λ (d : Done). d.answers) w.journal (g.done ∷ []) in
    let one : sum_by (λ d. d.answers) (g.done ∷ []) ≡ 0 + g.done.answers = refl in
    let all : length w'.answers ≡ length w.answers + length g.released = ap length g.answers ∙ length-append w.answers g.released in
    let n = g.count in
    omega (arith, entries, one, all, h, n)

counts_from : (scene : Scene) (w : World) (es : List Event) → CountsAnswers w → CountsAnswers (run_from scene w es)
counts_from scene w [] h = h
counts_from scene w (e ∷ es) h = counts_from scene (happens scene w e) es (counts_after w (happens scene w e) h (happens_adds scene w e))

-- the journal of a run counts its answers
pub run_counts : (scene : Scene) (w : World) → IsRun scene w → CountsAnswers w
run_counts scene w r = subst CountsAnswers (sym r) (counts_from scene (opening scene) (events_of w.journal) refl)

entries_add : (w w' : World) → CountsAnswers w → AddsEntry w w' → IsPrefix (run_entries w) (run_entries w')
entries_add w w' h g =
    (Did g.done ∷ as_gave g.released, sym (ap₂ entries_from g.journal g.answers ∙ entries_snoc w.journal w.answers g.done g.released h g.count))

-- the entries of a run begin those of each run that goes on from it
pub entries_grow : (scene : Scene) (w : World) (es : List Event) → CountsAnswers w → IsPrefix (run_entries w) (run_entries (run_from scene w es))
entries_grow scene w [] h = prefix_self (run_entries w)
entries_grow scene w (e ∷ es) h =
    let v = happens scene w e in
    let g = happens_adds scene w e in
    prefix_trans (run_entries w) (run_entries v) (run_entries (run_from scene v es)) (entries_add w v h g) (entries_grow scene v es (counts_after w v h g))
