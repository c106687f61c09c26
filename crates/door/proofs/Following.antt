-- A board that follows a run.
use Rattle.answer_board.proofs.Rising.{prefix_self, prefix_trans}
use Rattle.answer_board.specs.Places.{MayFollow, places_of}
use Rattle.answer_board.specs.declared.entries.Entry.{Entry}
use Rattle.cluster_run.specs.Clusters.{IsRun}
use Rattle.door.proofs.Entries.{CountsAnswers, entries_grow, run_counts}
use Rattle.door.proofs.NextEntry.{extent_snoc, next_is}
use Rattle.door.proofs.PlacesFilledOnce.{may_follow}
use Rattle.door.specs.Following.{board_next, extent_after, extent_of, run_entries}
use Rattle.door.specs.Keeping.{BoardFollows, KeepsRun}
use Rattle.door.specs.declared.extents.Extent.{Extent}
use Rattle.logbook.specs.Pages.{Book}
use Rattle.std.proofs.Common.{List, None, Option, Some, [], ap, ap₂, append-nil, append_assoc, arith, length, length-append, refl, slice_get, subst, sym, ℕ, ◌++◌, ◌+◌, ◌<◌, ◌∙◌, ◌∷◌, ◌≡◌}
use Rattle.str_model.specs.Runs.{World, opening, run_from}
use Rattle.str_scene.specs.SceneLimits.{IsScene}
use Rattle.str_scene.specs.Scenes.{Scene}
use Rattle.str_scene.specs.declared.names.Event.{Event}
use mathlib.Core.List.{IsPrefix}

-- a board that shows nothing follows each run
pub follows_first : (scene : Scene) (w : World) (places : List ℕ) (es : List Entry) (x : Extent) → IsScene scene → IsRun scene w → places ≡ places_of scene → es ≡ [] → x ≡ extent_of [] → BoardFollows scene w places es x
follows_first scene w places es x ok r p q e =
    record {
      limits = ok;
      run_ = r;
      places_ = p;
      begins = subst (λ (l : List Entry). IsPrefix l (run_entries w)) (sym q) (run_entries w, refl);
      extent_ = e ∙ ap extent_of (sym q);
    }

-- it follows a run that goes on
pub follows_on : (scene s : Scene) (w v : World) (places : List ℕ) (es : List Entry) (x : Extent) (events : List Event) → BoardFollows scene w places es x → s ≡ scene → v ≡ run_from scene w events → IsRun s v → BoardFollows s v places es x
follows_on scene s w v places es x events f q e r =
    record {
      limits = subst IsScene (sym q) f.limits;
      run_ = r;
      places_ = f.places_ ∙ ap places_of (sym q);
      begins = prefix_trans es (run_entries w) (run_entries v) f.begins (subst (λ (u : World). IsPrefix (run_entries w) (run_entries u)) (sym e) (entries_grow scene w events (run_counts scene w f.run_)));
      extent_ = f.extent_;
    }

-- what it follows it keeps
pub follows_keeps : (scene : Scene) (w : World) (places : List ℕ) (board : Book) (list held : List Entry) (x : Extent) → BoardFollows scene w places (list ++ held) x
    → KeepsRun (record { board = board; scene = scene; world = w; shown = list; held = held })
follows_keeps scene w places board list held x f = record { run_ = f.run_; begins = f.begins }

-- the rest of the entries begins with the next one
rest_of : (scene : Scene) (w : World) (places : List ℕ) (es : List Entry) (x : Extent) (o : Option Entry) → BoardFollows scene w places es x → board_next x w ≡ o
    → (rest : List Entry) × (es ++ rest ≡ run_entries w) × (slice_get rest 0 ≡ o)
rest_of scene w places es x o f q =
    let rest = f.begins.0 in
    (rest, f.begins.1, sym (next_is w es rest (run_counts scene w f.run_) f.begins.1) ∙ (ap (λ (y : Extent). board_next y w) (sym f.extent_) ∙ q))

head_is : (rest : List Entry) (e : Entry) → slice_get rest 0 ≡ Some e → (more : List Entry) × (rest ≡ e ∷ more)
head_is [] e q = absurd (cc q)
head_is (y ∷ more) e q = (more, cc q)

no_head : (rest : List Entry) → slice_get rest 0 ≡ None → rest ≡ []
no_head [] q = refl
no_head (y ∷ more) q = absurd (cc q)

next_splits : (scene : Scene) (w : World) (places : List ℕ) (es : List Entry) (x : Extent) (e : Entry) → BoardFollows scene w places es x → board_next x w ≡ Some e → (more : List Entry) × (es ++ e ∷ more ≡ run_entries w)
next_splits scene w places es x e f q =
    let r = rest_of scene w places es x (Some e) f q in
    let h = head_is r.0 e r.2 in
    (h.0, ap (λ (l : List Entry). es ++ l) (sym h.1) ∙ r.1)

-- the next entry may be held
pub follows_may : (scene : Scene) (w : World) (places : List ℕ) (es : List Entry) (x : Extent) (e : Entry) → BoardFollows scene w places es x → board_next x w ≡ Some e → MayFollow places es e
follows_may scene w places es x e f q =
    let s = next_splits scene w places es x e f q in
    subst (λ (ns : List ℕ). MayFollow ns es e) (sym f.places_) (may_follow scene w es s.0 e f.limits f.run_ (run_counts scene w f.run_) s.1)

-- and once it is held, the board follows still
pub follows_held : (scene : Scene) (w : World) (places places' : List ℕ) (es es' : List Entry) (x y : Extent) (e : Entry) → BoardFollows scene w places es x → board_next x w ≡ Some e
    → places' ≡ places → es' ≡ es ++ e ∷ [] → y ≡ extent_after x e → BoardFollows scene w places' es' y
follows_held scene w places places' es es' x y e f q p l m =
    let s = next_splits scene w places es x e f q in
    record {
      limits = f.limits;
      run_ = f.run_;
      places_ = p ∙ f.places_;
      begins = subst (λ (k : List Entry). IsPrefix k (run_entries w)) (sym l) (s.0, append_assoc es (e ∷ []) s.0 ∙ s.1);
      extent_ = m ∙ (ap (λ (z : Extent). extent_after z e) f.extent_ ∙ (sym (extent_snoc es e) ∙ ap extent_of (sym l)));
    }

-- what is listed is one more
pub listed_more : (list list' held held' : List Entry) (e : Entry) → list' ≡ list → held' ≡ held ++ e ∷ [] → list' ++ held' ≡ (list ++ held) ++ e ∷ []
listed_more list list' held held' e p q = ap₂ (λ (xs ys : List Entry). xs ++ ys) p q ∙ sym (append_assoc list held (e ∷ []))

-- with fewer entries to come
pub follows_fewer : (scene : Scene) (w : World) (places : List ℕ) (es : List Entry) (x : Extent) (e : Entry) → BoardFollows scene w places es x → board_next x w ≡ Some e → length es < length (run_entries w)
follows_fewer scene w places es x e f q =
    let s = next_splits scene w places es x e f q in
    let l = sym (length-append es (e ∷ s.0)) ∙ ap length s.1 in
    omega (arith, l)

-- where none comes next it has all
pub follows_all : (scene : Scene) (w : World) (places : List ℕ) (es : List Entry) (x : Extent) → BoardFollows scene w places es x → board_next x w ≡ None → es ≡ run_entries w
follows_all scene w places es x f q =
    let r = rest_of scene w places es x None f q in
    sym (append-nil es) ∙ (ap (λ (l : List Entry). es ++ l) (sym (no_head r.0 r.2)) ∙ r.1)
