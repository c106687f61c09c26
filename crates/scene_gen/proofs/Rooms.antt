-- What a loop has still to do fits, since the whole does.
use Rattle.std.proofs.Common.{List, None, [], ap, arith, drop, get_or, length, length-append, map, nat_lt, refl, suc, sym, true, zero, ℕ, ◌&&◌, ◌++◌, ◌+◌, ◌-◌, ◌<◌, ◌∙◌, ◌∷◌, ◌≡◌, ◌≤◌}
use Rattle.std.proofs.lemmas.Bool.{and_from, and_parts}
use Rattle.std.proofs.lemmas.List.{drop_more}
use Rattle.std.proofs.lemmas.Nat.{mod_below}
use Rattle.std.specs.Prelude.{not}
use Rattle.rand_pcg.specs.Lcg.{Lcg}
use Rattle.scene_gen.proofs.Allowed.{all_pass, entry_allowed, is_below, key_allowed, session_allowed}
use Rattle.scene_gen.proofs.DrawnScripts.{script_drawn}
use Rattle.scene_gen.proofs.MadeEntries.{entries_length, entry_holds}
use Rattle.scene_gen.proofs.MadeRows.{row_fits, rows_length}
use Rattle.scene_gen.proofs.NamedKeys.{all_longer}
use Rattle.scene_gen.proofs.Steps.{left_one, one_script, one_session}
use Rattle.scene_gen.proofs.Within.{Around, around, scripts_around, scripts_sessions, sessions_around, within_scripts, within_sessions, within_small}
use Rattle.scene_gen.specs.Building.{IsDrawn, IsSmall, TakesScripts, TakesSessions, with_entries, with_keys, with_rows, with_script, with_scripts, with_sessions}
use Rattle.scene_gen.specs.Drawn.{after_script, entry, kind, script}
use Rattle.scene_gen.specs.Made.{MadeSession, after_scripts, key_of, made_entries, made_rows, made_scripts, made_sessions, node_of, row_of, with_pairs}
use Rattle.scene_gen.specs.declared.draws.MadeOp.{MadeOp}
use Rattle.str_base.specs.declared.limits.TheConstants.{KEYS, PARTITIONS}
use Rattle.str_base.specs.declared.names.NodeId.{NodeId}
use Rattle.str_scene.specs.declared.names.Event.{Event}
use Rattle.str_scene.specs.Drafts.{empty_draft, is_before_schedule, is_none_yet, may_have_entry, may_have_part, may_have_tx, with_nodes, with_session}
use Rattle.str_scene.specs.Keys.{with_pair}
use Rattle.str_scene.specs.Lists.{Each}
use Rattle.str_scene.specs.Refusals.{entry_fault, is_row, key_fault, part_fault, session_fault}
use Rattle.str_scene.specs.SceneLimits.{Exists, IsKey}
use Rattle.str_scene.specs.Scenes.{Scene, Session}

-- ---- keys

-- what stands around the keys stays
keys_take : (xs ys : List MadeOp) (d e : Scene) → with_keys xs d ≡ with_keys ys e → TakesScripts e → TakesScripts d
keys_take xs ys d e w h = record { place = ap may_have_tx w ∙ h.place; parts = ap (λ (x : Scene). length x.parts) w ∙ h.parts }

-- the next key
pub next_key : (xs : List MadeOp) (i : ℕ) (op : MadeOp) (d e : Scene) → i < length xs → with_keys (drop i xs) d ≡ with_keys xs e → TakesScripts e
    → Each (IsKey 6) (map key_of xs) → length (with_pairs (map key_of xs) e.keys.names) ≤ KEYS → key_fault (key_of (get_or xs i op)) d ≡ None
next_key xs i op d e l w takes keys few =
    let k = key_of (get_or xs i op) in
    let rest = map key_of (drop (i + 1) xs) in
    let same : length (with_pairs rest (with_pair k d.keys.names)) ≡ length (with_pairs (map key_of xs) e.keys.names) =
    ap (λ (x : Scene). length x.keys.names) (sym (ap (λ ys. with_keys ys d) (drop_more xs i op l)) ∙ w) in
    key_allowed k d (good xs i l keys) (keys_take (drop i xs) xs d e w takes) (omega (arith, same, few, all_longer rest (with_pair k d.keys.names)))
  where
    good : (xs : List MadeOp) (i : ℕ) → i < length xs → Each (IsKey 6) (map key_of xs) → IsKey 6 (key_of (get_or xs i op))
    good [] i l h = absurd (omega arith)
    good (x ∷ xs) zero l h = h.0
    good (x ∷ xs) (suc i) l h = good xs i (omega arith) h.1

-- ---- transactions

none_by_length : {X Y : Type 0} (xs : List X) (ys : List Y) → length xs ≡ length ys → is_none_yet xs ≡ is_none_yet ys
none_by_length [] [] e = refl
none_by_length [] (y ∷ ys) e = absurd (omega (arith, e))
none_by_length (x ∷ xs) [] e = absurd (omega (arith, e))
none_by_length (x ∷ xs) (y ∷ ys) e = refl

-- what stands around the transactions stays
pub scripts_take : (xs ys : List (List MadeOp)) (d e : Scene) → with_scripts xs d ≡ with_scripts ys e → TakesScripts e → TakesScripts d
scripts_take xs ys d e w h =
    let same : around d ≡ around e = sym (scripts_around xs d) ∙ ap around w ∙ scripts_around ys e in
    let long : length d.sessions ≡ length e.sessions = sym (scripts_sessions xs d) ∙ ap (λ (x : Scene). length x.sessions) w ∙ scripts_sessions ys e in
    record {
      place = ap (λ b. not b && is_before_schedule d) (none_by_length d.sessions e.sessions long)
          ∙ ap (λ (a : Around). not (is_none_yet e.sessions) && (is_none_yet a.2 && not a.3)) same
          ∙ h.place;
      parts = ap (λ (a : Around). length a.1) same ∙ h.parts;
    }

-- the next transaction is drawn
pub next_drawn : (ops : List MadeOp) (g : Lcg) → ops ≡ script g → IsDrawn ops
next_drawn ops g e = rw e (script_drawn (kind g) g)

-- and fits
pub next_script : (n p : ℕ) (g : Lcg) (ops : List MadeOp) (d want : Scene) → p < n → ops ≡ script g → with_scripts (made_scripts (n - p) g) d ≡ want → IsSmall want
    → IsSmall (with_script ops d)
next_script n p g ops d want l e w small =
    let f = with_script (script g) d in
    let rest = made_scripts (n - (p + 1)) (after_script g) in
    let whole : with_scripts rest f ≡ want =
    one_script (n - (p + 1)) g d ∙ ap (λ k. with_scripts (made_scripts k g) d) (sym (left_one n p l)) ∙ w in
    rw e (within_small f (with_scripts rest f) (within_scripts rest f) (rw whole small))

-- ---- sessions

-- what stands around the sessions stays
sessions_take : (xs ys : List MadeSession) (d e : Scene) → with_sessions xs d ≡ with_sessions ys e → TakesSessions e → TakesSessions d
sessions_take xs ys d e w h =
    let same : around d ≡ around e = sym (sessions_around xs d) ∙ ap around w ∙ sessions_around ys e in
    record {
      place = ap (λ (a : Around). not (is_none_yet a.1) && (is_none_yet a.2 && not a.3)) same ∙ h.place;
      nodes = ap (λ (a : Around). a.0) same ∙ h.nodes;
      parts = ap (λ (a : Around). length a.1) same ∙ h.parts;
    }

-- the next session with its transactions
pub next_session : (n p : ℕ) (g : Lcg) (d e want : Scene) → p < n → e ≡ with_session (node_of (p + 1)) d → with_sessions (made_sessions (n - p) (p + 1) g) d ≡ want → IsSmall want
    → IsSmall (with_scripts (made_scripts 25 g) e)
next_session n p g d e want l is w small =
    let f = with_scripts (made_scripts 25 g) (with_session (node_of (p + 1)) d) in
    let rest = made_sessions (n - (p + 1)) (p + 1 + 1) (after_scripts 25 g) in
    let whole : with_sessions rest f ≡ want =
    one_session (n - (p + 1)) (p + 1) g d ∙ ap (λ k. with_sessions (made_sessions k (p + 1) g) d) (sym (left_one n p l)) ∙ w in
    rw is (within_small f (with_sessions rest f) (within_sessions rest f) (rw whole small))

-- transactions may stand in it
pub session_takes : (xs ys : List MadeSession) (node : NodeId) (d e f : Scene) → f ≡ with_session node d → with_sessions xs d ≡ with_sessions ys e → TakesSessions e → TakesScripts f
session_takes xs ys node d e f is w h =
    let takes = sessions_take xs ys d e w h in
    let before = and_parts (not (is_none_yet d.parts)) (is_before_schedule d) takes.place in
    let one : Session = record { node = node; txs = [] } in
    rw is (record { place = and_from (not (is_none_yet (d.sessions ++ one ∷ []))) (is_before_schedule d) (pushed d.sessions one) before.1; parts = takes.parts })
  where
    pushed : (xs : List Session) (y : Session) → not (is_none_yet (xs ++ y ∷ [])) ≡ true
    pushed [] y = refl
    pushed (x ∷ xs) y = refl

-- it may stand here
pub session_fits : (n p : ℕ) (g : Lcg) (ys : List MadeSession) (node : NodeId) (d e : Scene) → p < n → node ≡ node_of (p + 1)
    → with_sessions (made_sessions (n - p) (p + 1) g) d ≡ with_sessions ys e → IsSmall (with_sessions ys e) → TakesSessions e → session_fault node d ≡ None
session_fits n p g ys node d e l is w small takes =
    let below = mod_below (p + 1 - 1) 3 (omega arith) in
    let at : Exists (node_of (p + 1)).0 3 = (omega arith, omega arith) in
    let s = with_session (node_of (p + 1)) d in
    let fits = next_session n p g d s (with_sessions ys e) l refl w small in
    let alone = within_small s (with_scripts (made_scripts 25 g) s) (within_scripts (made_scripts 25 g) s) fits in
    rw is (session_allowed (node_of (p + 1)) d (sessions_take (made_sessions (n - p) (p + 1) g) ys d e w takes) at alone)

-- ---- partitions

pub next_row : (p : ℕ) (row : List NodeId) (d e : Scene) → p < 6 → row ≡ row_of (p + 1) → with_rows (made_rows (6 - p) (p + 1)) d ≡ with_rows (made_rows 6 1) e → e ≡ with_nodes 3 (empty_draft 1)
    → part_fault row d ≡ None
next_row p row d e l is w start =
    let r = row_of (p + 1) in
    let nodes : d.nodes ≡ 3 = ap (λ (x : Scene). x.nodes) w ∙ ap (λ (x : Scene). x.nodes) start in
    let place : may_have_part d ≡ true = ap may_have_part w ∙ ap may_have_part start in
    let none : length e.parts ≡ 0 = ap (λ (x : Scene). length x.parts) start in
    let long : length (d.parts ++ made_rows (6 - p) (p + 1)) ≡ length (e.parts ++ made_rows 6 1) = ap (λ (x : Scene). length x.parts) w in
    let left = length-append d.parts (made_rows (6 - p) (p + 1)) in
    let right = length-append e.parts (made_rows 6 1) in
    let few : length d.parts < PARTITIONS = omega (arith, none, long, left, right, rows_length 6 1) in
    rw is (all_pass (may_have_part d && not (is_none_yet r)) (is_row d.nodes r) (nat_lt (length d.parts) PARTITIONS)
    (and_from (may_have_part d) (not (is_none_yet r)) place refl) (rw nodes (row_fits p l)) (is_below (length d.parts) PARTITIONS few))

-- ---- entries

pub next_entry : (p : ℕ) (g h : Lcg) (x : Event) (d e : Scene) → p < 6000 → x ≡ entry (p + 1) g → with_entries (made_entries (6000 - p) (p + 1) g) d ≡ with_entries (made_entries 6000 1 h) e
    → may_have_entry e ≡ true → length e.sessions ≡ 12 → length e.schedule ≡ 0 → entry_fault x d ≡ None
next_entry p g h x d e l is w place number none =
    let sessions : length d.sessions ≡ 12 = ap (λ (y : Scene). length y.sessions) w ∙ number in
    let long : length (d.schedule ++ made_entries (6000 - p) (p + 1) g) ≡ length (e.schedule ++ made_entries 6000 1 h) = ap (λ (y : Scene). length y.schedule) w in
    let left = length-append d.schedule (made_entries (6000 - p) (p + 1) g) in
    let right = length-append e.schedule (made_entries 6000 1 h) in
    let few : length d.schedule ≤ 6000 = omega (arith, none, long, left, right, entries_length 6000 1 h) in
    rw is (entry_allowed (entry (p + 1) g) d (ap may_have_entry w ∙ place) (entry_holds d (p + 1) g sessions (omega arith)) (omega (arith, few)))
