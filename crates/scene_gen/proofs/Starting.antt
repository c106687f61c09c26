-- The whole made scene fits, and each of its parts may stand where it is built.
use Rattle.std.proofs.Common.{List, None, [], ap, arith, flat_map, inl, inr, length, length-append, map, refl, true, ℕ, ◌&&◌, ◌*◌, ◌+◌, ◌∙◌, ◌∷◌, ◌≡◌, ◌≤◌}
use Rattle.std.proofs.lemmas.List.{length-map}
use Rattle.std.specs.Prelude.{not}
use Rattle.rand_pcg.specs.Lcg.{Lcg}
use Rattle.str_scene.proofs.Allowing.{pair_few, scene_finishes}
use Rattle.scene_gen.proofs.Drafts.{head, over, sessions_added}
use Rattle.scene_gen.proofs.DrawnScripts.{IsDrawnSession, sessions_drawn, sessions_length}
use Rattle.scene_gen.proofs.MadeLimits.{made_holds}
use Rattle.scene_gen.proofs.Numbering.{sessions_stay}
use Rattle.scene_gen.proofs.Within.{Around, around, sessions_around}
use Rattle.scene_gen.specs.Building.{IsDrawn, IsSmall, TakesSessions, with_entries, with_rows, with_sessions}
use Rattle.scene_gen.specs.Drawn.{generator}
use Rattle.scene_gen.specs.Made.{MadeSession, after_sessions, key_of, keys_of, made, made_entries, made_rows, made_sessions, scene_of, session_in, with_pairs}
use Rattle.scene_gen.specs.declared.draws.MadeOp.{MadeOp}
use Rattle.str_base.specs.declared.names.PartId.{PartId}
use Rattle.str_scene.proofs.Pairs.{Interned, interned}
use Rattle.str_scene.specs.declared.names.Event.{Event}
use Rattle.str_scene.specs.Drafts.{empty_draft, is_none_yet, may_have_entry, with_nodes}
use Rattle.str_scene.specs.Keys.{with_pair}
use Rattle.str_scene.specs.Lists.{Each}
use Rattle.str_scene.specs.Refusals.{finish_fault}
use Rattle.str_scene.specs.SceneLimits.{IsScene}
use Rattle.str_scene.specs.Scenes.{Scene}

-- ---- there are few keys

pairs_few : (ks table : List (List ℕ × PartId)) → length (with_pairs ks table) ≤ length table + length ks
pairs_few [] table = omega arith
pairs_few (k ∷ ks) table = omega (arith, pair_few k table, pairs_few ks (with_pair k table))

scripts_few : (txs : List (List MadeOp)) → Each IsDrawn txs → length (flat_map (map key_of) txs) ≤ 3 * length txs
scripts_few [] h = omega arith
scripts_few (ops ∷ txs) h =
    omega (arith, h.0.few, length-map ops key_of, scripts_few txs h.1, length-append (map key_of ops) (flat_map (map key_of) txs))

sessions_few : (ss : List MadeSession) → Each IsDrawnSession ss → length (keys_of ss) ≤ 75 * length ss
sessions_few [] h = omega arith
sessions_few (s ∷ ss) h =
    omega (arith, h.0.long, scripts_few s.drawn h.0.scripts, sessions_few ss h.1, length-append (flat_map (map key_of) s.drawn) (keys_of ss))

-- ---- the sessions fit

-- with all sessions
shape : (ss : List MadeSession) → with_sessions ss head ≡ over (map (session_in (with_pairs (keys_of ss) [])) ss) (with_pairs (keys_of ss) []) head
shape ss = sessions_added ss [] [] head ∙ ap (λ us. over us (with_pairs (keys_of ss) []) head) (sessions_stay ss [])

small_scene : (ss : List MadeSession) (es : List Event) → Each IsDrawnSession ss → length ss ≡ 12 → IsScene (scene_of ss es) → IsSmall (over (scene_of ss es).sessions (with_pairs (keys_of ss) []) head)
small_scene ss es h long is = record {
  sessions = is.few_sessions;
  at_one_node = is.at_one_node;
  transactions = is.few_transactions;
  keys = omega (arith, long, pairs_few (keys_of ss) [], sessions_few ss h);
}

opened : (seed : ℕ) → IsScene (made seed) → IsScene (scene_of (made_sessions 12 1 (generator seed)) (made_entries 6000 1 (after_sessions 12 (generator seed))))
unfolding made
opened seed h = h

small_made : (seed : ℕ) → IsSmall (with_sessions (made_sessions 12 1 (generator seed)) head)
small_made seed =
    let ss = made_sessions 12 1 (generator seed) in
    let es = made_entries 6000 1 (after_sessions 12 (generator seed)) in
    rw (shape ss) (small_scene ss es (sessions_drawn 12 1 (generator seed)) (sessions_length 12 1 (generator seed)) (opened seed (made_holds seed)))

-- ---- before the first session

pub at_head : (d0 d1 d2 : Scene) → d0 ≡ empty_draft 1 → d1 ≡ with_nodes 3 d0 → d2 ≡ with_rows (made_rows 6 1) d1 → d2 ≡ head
at_head d0 d1 d2 e0 e1 e2 = e2 ∙ ap (with_rows (made_rows 6 1)) (e1 ∙ ap (with_nodes 3) e0)

head_takes : TakesSessions head
unfolding made_rows
head_takes = record { place = refl; nodes = refl; parts = refl }

head_place : may_have_entry head ≡ true
unfolding made_rows
head_place = refl

pub sessions_place : (d : Scene) → d ≡ head → TakesSessions d
sessions_place d e = rw e head_takes

pub sessions_room : (seed : ℕ) (g : Lcg) (d : Scene) → g ≡ generator seed → d ≡ head → IsSmall (with_sessions (made_sessions 12 1 g) d)
sessions_room seed g d eg e = rw (eg, e) (small_made seed)

-- ---- before the first entry

around_head : (ss : List MadeSession) (d e : Scene) → d ≡ head → e ≡ with_sessions ss d → around e ≡ around head
around_head ss d e is so = ap around so ∙ sessions_around ss d ∙ ap around is

pub entries_place : (ss : List MadeSession) (d e : Scene) → d ≡ head → e ≡ with_sessions ss d → may_have_entry e ≡ true
entries_place ss d e is so = ap (λ (a : Around). not (is_none_yet a.1) && not a.3) (around_head ss d e is so) ∙ head_place

pub entries_few : (ss : List MadeSession) (d e : Scene) → d ≡ head → e ≡ with_sessions ss d → length e.schedule ≡ 0
entries_few ss d e is so = ap (λ (a : Around). length a.2) (around_head ss d e is so)

pub entries_sessions : (g : Lcg) (d e : Scene) → d ≡ head → e ≡ with_sessions (made_sessions 12 1 g) d → length e.sessions ≡ 12
entries_sessions g d e is so =
    let ss = made_sessions 12 1 g in
    ap (λ (x : Scene). length x.sessions) (so ∙ ap (with_sessions ss) is ∙ shape ss) ∙ length-map ss (session_in (with_pairs (keys_of ss) [])) ∙ sessions_length 12 1 g

-- ---- the drain

pub drain_place : (es : List Event) (d e : Scene) → may_have_entry d ≡ true → e ≡ with_entries es d → may_have_entry e ≡ true
drain_place es d e h is = ap may_have_entry is ∙ h

-- ---- the end

pub finish_fits : (seed : ℕ) (d : Scene) → d ≡ made seed → finish_fault d ≡ None
finish_fits seed d e = rw e (scene_finishes (made seed) (made_holds seed))
