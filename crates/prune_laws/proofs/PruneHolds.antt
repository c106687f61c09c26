-- The run and the run that prunes are side by side after every list of events; so the law Prune holds.
use Rattle.prune_laws.proofs.Alongside.{Alongside, Follows}
use Rattle.prune_laws.proofs.EventsAlike.{event_follows}
use Rattle.prune_laws.specs.PruneLaw.{AreAlike, IsAlike, IsDecidedIn, MessagesAlike, PruneHolds, ViewsPruned, one_message, pruned_view, refusals, replies}
use Rattle.std.proofs.Common.{List, None, Option, Some, [], ap, append-nil, append_assoc, arith, option_map, refl, replicate, slice_get, subst, subst₂, suc, sym, zero, ℕ, ◌++◌, ◌∙◌, ◌∷◌, ◌≡◌}
use Rattle.str_base.proofs.Lists.{got_replicate}
use Rattle.str_model.specs.declared.messages.Message.{Message}
use Rattle.str_model.specs.PrunedRuns.{PrunedWorld, bound, pruned_from, pruned_happens, pruned_opening, pruned_run, row_or}
use Rattle.str_model.specs.Pruning.{low, pruned}
use Rattle.str_model.specs.Runs.{World, happens, opening, opening_view, run}
use Rattle.str_model.specs.Views.{View}
use Rattle.str_scene.specs.declared.names.Event.{Event}
use Rattle.str_scene.specs.Scenes.{Scene}
use Rattle.str_model.proofs.Principle.Everywhere.{run-append}
use Rattle.str_model.proofs.Pruning.Twins.{Alike, AllAlike, a_refuse, a_reply, a_same}

-- the events of one list after those of another
pub pruned_append : (scene : Scene) (p : PrunedWorld) (xs ys : List Event) → pruned_from scene p (xs ++ ys) ≡ pruned_from scene (pruned_from scene p xs) ys
pruned_append scene p [] ys = refl
pruned_append scene p (x ∷ xs) ys = pruned_append scene (pruned_happens scene p x) xs ys

pub pruned_one_more : (scene : Scene) (es : List Event) (e : Event) → pruned_run scene (es ++ e ∷ []) ≡ pruned_happens scene (pruned_run scene es) e
pruned_one_more scene es e = pruned_append scene (pruned_opening scene) es (e ∷ [])

-- ---- from the opening on

there_replicate : {A B : Type 0} (n k : ℕ) (x y : A) (z : B) → slice_get (replicate n x) k ≡ Some y → slice_get (replicate n z) k ≡ Some z
there_replicate zero k x y z q = absurd (cc q)
there_replicate (suc n) zero x y z q = refl
there_replicate (suc n) (suc k) x y z q = there_replicate n k x y z q

opens : (scene : Scene) → Alongside (opening scene) (pruned_opening scene)
opens scene =
    record {
      nodes = λ n v g.
          let is : v ≡ opening_view scene = got_replicate scene.nodes n (opening_view scene) v g in
          record {
            row = replicate scene.nodes 0;
            heard = there_replicate scene.nodes n (opening_view scene) v (replicate scene.nodes 0) g;
            view = g ∙ ap (λ (u : View). Some u) (is ∙ sym (ap (λ (u : View). pruned (bound (low v) n (replicate scene.nodes 0)) u) is));
            hears = λ m u k. (0, there_replicate scene.nodes m (opening_view scene) u 0 k, λ other. omega arith);
          };
      none = λ n g. g;
      carried = tt;
      sent = tt;
      given = refl;
      journal = refl;
      answers = refl;
    }

goes_on : (scene : Scene) (early late : List Event) → Alongside (run scene early) (pruned_run scene early) → Alongside (run scene (early ++ late)) (pruned_run scene (early ++ late))
goes_on scene early [] a = rw (append-nil early) a
goes_on scene early (e ∷ late) a =
    let f = event_follows scene early (pruned_run scene early) a e in
    let b : Alongside (run scene (early ++ e ∷ [])) (pruned_run scene (early ++ e ∷ [])) = subst₂ Alongside (sym (run-append scene (opening scene) early (e ∷ []))) (sym (pruned_one_more scene early e)) f.after in
    subst (λ (es : List Event). Alongside (run scene es) (pruned_run scene es)) (append_assoc early (e ∷ []) late) (goes_on scene (early ++ e ∷ []) late b)

pub alongside : (scene : Scene) (es : List Event) → Alongside (run scene es) (pruned_run scene es)
alongside scene es = goes_on scene [] es (opens scene)

pub follows : (scene : Scene) (es : List Event) (e : Event) → Follows (run scene es) (pruned_run scene es) (happens scene (run scene es) e) (pruned_happens scene (pruned_run scene es) e)
follows scene es e = event_follows scene es (pruned_run scene es) (alongside scene es) e

-- ---- the laws

pub prune_holds : PruneHolds
prune_holds scene es = let a = alongside scene es in record { journal = a.journal; answers = a.answers; given = a.given }

is_alike : (w : World) (m n : Message) → Alike (IsDecidedIn w) m n → IsAlike w m n
is_alike w m n (a_same u v q) = subst (IsAlike w m) q (one_message m)
is_alike w m n (a_reply from to tx k v v' by by' fc fc' c) = replies from to tx k v v' by by' fc fc' c
is_alike w m n (a_refuse from to tx p by by' k c) = refusals from to tx p by by' k c

are_alike : (w : World) (ms ns : List Message) → AllAlike (IsDecidedIn w) ms ns → AreAlike w ms ns
are_alike w [] [] a = tt
are_alike w [] (n ∷ ns) a = absurd a
are_alike w (m ∷ ms) [] a = absurd a
are_alike w (m ∷ ms) (n ∷ ns) a = (is_alike w m n a.0, are_alike w ms ns a.1)

pub messages_alike : MessagesAlike
messages_alike scene early e =
    let f = follows scene early e in
    record {
      new = f.new;
      pruned_new = f.pruned_new;
      sent = ap (λ (w : World). w.sent) (run-append scene (opening scene) early (e ∷ [])) ∙ f.sent;
      pruned_sent = ap (λ (p : PrunedWorld). p.world.sent) (pruned_one_more scene early e) ∙ f.pruned_sent;
      alike = are_alike (run scene early) f.new f.pruned_new f.alike;
    }

pub views_pruned : ViewsPruned
views_pruned scene es n = by_view (slice_get (run scene es).nodes n) refl
  where
    by_view : (o : Option View) → slice_get (run scene es).nodes n ≡ o → slice_get (pruned_run scene es).world.nodes n ≡ option_map (pruned_view (pruned_run scene es) n) o
    by_view None g = (alongside scene es).none n g
    by_view (Some v) g =
        let b = (alongside scene es).nodes n v g in
        b.view ∙ ap (λ (o : Option (List ℕ)). Some (pruned (bound (low v) n (row_or o)) v)) (sym b.heard)
