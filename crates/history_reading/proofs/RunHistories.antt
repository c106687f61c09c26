-- What a run writes is a history of its scene and its answers, and of no others.
use Rattle.std.proofs.Common.{List, [], ap, arith, length, map, not, refl, subst, sym, take_all, ℕ, ◌+◌, ◌<◌, ◌^◌, ◌∙◌, ◌∷◌, ◌≡◌, ◌≤◌}
use Rattle.std.proofs.lemmas.List.{length-map}
use Rattle.std.proofs.lemmas.List.Sums.{count_by-le-length, sum_by-cons}
use Rattle.std.specs.List.{count_by, sum_by}
use Rattle.history_reading.proofs.HistoryTexts.{one_history}
use Rattle.history_reading.proofs.Spelled.PlacesFound.{from_map}
use Rattle.history_reading.proofs.RunAnswers.{answer_in}
use Rattle.history_reading.specs.AuditLaw.{AuditHolds, printed}
use Rattle.history_reading.specs.Histories.{HasFewGets, IsHistory, IsHistoryText, history_spelling}
use Rattle.history_reading.specs.HistoryRanges.{IsOfScene}
use Rattle.si_laws.proofs.Isolation.IsolationHolds.{isolated_run}
use Rattle.si_laws.proofs.Sessions.SessionAnswers.{Entry, entry}
use Rattle.si_laws.proofs.Sessions.SessionHolds.{good_everywhere}
use Rattle.si_laws.proofs.Times.BegunFew.{few_begin, own_total, place_key, places_length, places_of, place_in}
use Rattle.si_laws.proofs.Times.NoRepeats.{fits, once_places}
use Rattle.si_laws.specs.SnapshotIsolation.{SI}
use Rattle.str_base.proofs.Members.{at_in, in_at, in_map}
use Rattle.str_base.specs.Members.{In}
use Rattle.str_model.specs.Lines.{counts, render}
use Rattle.str_model.specs.Runs.{World, run}
use Rattle.str_model.specs.Views.{Own, View, is_decided}
use Rattle.str_model.specs.declared.messages.Answer.{Answer}
use Rattle.str_scene.proofs.Each.{each_from}
use Rattle.str_scene.specs.SceneLimits.{IsScene}
use Rattle.str_scene.specs.Scenes.{Scene}
use Rattle.str_scene.specs.declared.names.Event.{Event}

-- ---- at most 1,024 answers

-- the place of an answer as two numbers
abbrev answer_key : Answer → ℕ × ℕ
answer_key a = (a.place.session.0, a.place.index)

-- answers of one key are of one place
places_same : (a b : Answer) → answer_key a ≡ answer_key b → a.place ≡ b.place
places_same a b e = λ k. record { session = record { 0 = (e k).0 }; index = (e k).1 }

few_answers : (scene : Scene) → IsScene scene → (es : List Event) → SI scene (run scene es).answers → length (run scene es).answers ≤ 1024
few_answers scene ok es s =
    let w : World = run scene es in
    let once = once_places (map answer_key w.answers) (λ i j z p q.
    let a = from_map answer_key w.answers i z p in
    let b = from_map answer_key w.answers j z q in
    s.placed.places i j a.0 b.0 a.1 b.1 (places_same a.0 b.0 (a.2 ∙ sym {b = z} b.2))) in
    let fit = fits (map answer_key w.answers) (places_of w.nodes) once (λ z h.
    let m = in_map answer_key w.answers z h in
    let at = at_in w.answers m.0 m.1 in
    let e : Entry scene w at.0 m.0 = entry scene ok w (good_everywhere scene es) at.0 m.0 at.1 in
    let there : In (place_key e.made.x) (places_of w.nodes) = place_in w.nodes e.m e.v e.made.x e.is_view (in_at e.v.own e.made.i e.made.x e.made.owns) in
    subst (λ y. In y (places_of w.nodes)) (ap answer_key (sym e.made.same) ∙ m.2) there) in
    omega (arith, fit, length-map w.answers answer_key, places_length w.nodes, few_begin scene ok es)

-- ---- the numbers of the end line

held_few : (vs : List View) → sum_by (λ v. count_by (λ x. not (is_decided x.phase)) v.own) vs ≤ own_total vs
held_few [] = omega arith
held_few (v ∷ vs) =
    let f : View → ℕ = λ u. count_by (λ (x : Own). not (is_decided x.phase)) u.own in
    let one : f v ≤ length v.own = count_by-le-length (λ (x : Own). not (is_decided x.phase)) v.own in
    let rest : sum_by f vs ≤ own_total vs = held_few vs in
    let both : sum_by f (v ∷ vs) ≡ f v + sum_by f vs = sum_by-cons f v vs in
    omega (arith, one, rest, both)

-- ---- the law

run_history : (scene : Scene) → IsScene scene → (es : List Event) → length (run scene es).sent < 2 ^ 64 → SI scene (run scene es).answers → IsHistory scene (run scene es).answers (counts scene (run scene es))
run_history scene ok es few s =
    let w : World = run scene es in
    record {
      is_scene = ok;
      answers_are = record {
        each = each_from (IsOfScene scene) w.answers (λ i a is. (answer_in scene ok es i a is).0);
        few = few_answers scene ok es s;
        few_gets = each_from HasFewGets w.answers (λ i a is. (answer_in scene ok es i a is).1);
      };
      ending = record {
        commits = refl;
        aborts = refl;
        held = omega (arith, held_few w.nodes, few_begin scene ok es);
        unbegun = omega (arith, ok.few_transactions);
        messages = few;
      };
    }

run_text : (scene : Scene) → IsScene scene → (es : List Event) → length (run scene es).sent < 2 ^ 64 → SI scene (run scene es).answers → IsHistoryText (printed scene es) scene (run scene es).answers
unfolding render history_spelling
run_text scene ok es few s = record { counts = counts scene (run scene es); is_history = run_history scene ok es few s; spelled = refl }

pub audit_holds : AuditHolds
audit_holds scene ok es few =
    let isolated = isolated_run scene ok es in
    let whole : SI scene (run scene es).answers = subst (SI scene) (take_all (length (run scene es).answers) (run scene es).answers (omega arith)) (isolated (length (run scene es).answers)) in
    let text : IsHistoryText (printed scene es) scene (run scene es).answers = run_text scene ok es few whole in
    record { isolated = isolated; spelled = text; alone = λ other answers k. one_history (printed scene es) other scene answers (run scene es).answers k text }
