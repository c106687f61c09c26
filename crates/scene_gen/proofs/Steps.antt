-- The loops, each of which takes one item off what is still to come.
use Rattle.std.proofs.Common.{List, [], ap, append_assoc, arith, drop, get_or, length, refl, suc, sym, ℕ, ◌++◌, ◌+◌, ◌-◌, ◌<◌, ◌∙◌, ◌∷◌, ◌≡◌, ◌≤◌}
use Rattle.std.proofs.lemmas.List.{append-nil, drop_all, drop_more}
use Rattle.rand_pcg.specs.Lcg.{Lcg}
use Rattle.scene_gen.specs.Building.{numbers, with_entries, with_keys, with_rows, with_script, with_scripts, with_sessions}
use Rattle.scene_gen.specs.Drawn.{after_entry, after_script, entry, script}
use Rattle.scene_gen.specs.Made.{after_scripts, after_sessions, made_entries, key_of, node_of, numbered, row_of, made_rows, made_scripts, made_sessions}
use Rattle.scene_gen.specs.declared.draws.MadeOp.{MadeOp}
use Rattle.str_scene.specs.declared.names.Event.{Event}
use Rattle.str_scene.specs.declared.names.Op.{Op}
use Rattle.str_scene.specs.Drafts.{with_entry, with_key, with_row, with_session}
use Rattle.str_scene.specs.Scenes.{Scene}

-- ---- what is still to come of n where p are done

pub left_one : (n p : ℕ) → p < n → n - p ≡ suc (n - (p + 1))
left_one n p l = omega arith

left_none : (n p : ℕ) → n ≤ p → n - p ≡ 0
left_none n p l = omega arith

-- ---- partitions

one_row : (m p : ℕ) (d : Scene) → with_rows (made_rows m (p + 1)) (with_row (row_of p) d) ≡ with_rows (made_rows (suc m) p) d
unfolding made_rows
one_row m p d = ap (λ ps. record d { parts = ps }) (append_assoc d.parts (row_of p ∷ []) (made_rows m (p + 1)))

no_row : (p : ℕ) (d : Scene) → with_rows (made_rows 0 p) d ≡ d
unfolding made_rows
no_row p d = ap (λ ps. record d { parts = ps }) (append-nil d.parts)

pub rows_next : (n p : ℕ) (d e want : Scene) → p < n → e ≡ with_row (row_of (p + 1)) d → with_rows (made_rows (n - p) (p + 1)) d ≡ want
    → with_rows (made_rows (n - (p + 1)) (p + 1 + 1)) e ≡ want
rows_next n p d e want l is h =
    ap (with_rows (made_rows (n - (p + 1)) (p + 1 + 1))) is
    ∙ one_row (n - (p + 1)) (p + 1) d
    ∙ ap (λ k. with_rows (made_rows k (p + 1)) d) (sym (left_one n p l))
    ∙ h

pub rows_end : (n p : ℕ) (d want : Scene) → n ≤ p → with_rows (made_rows (n - p) (p + 1)) d ≡ want → d ≡ want
rows_end n p d want l h = sym (no_row (p + 1) d) ∙ ap (λ k. with_rows (made_rows k (p + 1)) d) (sym (left_none n p l)) ∙ h

-- ---- sessions

pub one_session : (m p : ℕ) (g : Lcg) (d : Scene) →
    with_sessions (made_sessions m (p + 1) (after_scripts 25 g)) (with_scripts (made_scripts 25 g) (with_session (node_of p) d)) ≡ with_sessions (made_sessions (suc m) p g) d
unfolding made_sessions with_sessions
one_session m p g d = refl

no_session : (p : ℕ) (g : Lcg) (d : Scene) → with_sessions (made_sessions 0 p g) d ≡ d
unfolding made_sessions with_sessions
no_session p g d = refl

after_one_session : (m : ℕ) (g : Lcg) → after_sessions m (after_scripts 25 g) ≡ after_sessions (suc m) g
unfolding after_sessions
after_one_session m g = refl

after_no_session : (g : Lcg) → after_sessions 0 g ≡ g
unfolding after_sessions
after_no_session g = refl

pub sessions_next : (n p : ℕ) (g h : Lcg) (d e f want : Scene) → p < n → e ≡ with_session (node_of (p + 1)) d → f ≡ with_scripts (made_scripts 25 g) e → h ≡ after_scripts 25 g
    → with_sessions (made_sessions (n - p) (p + 1) g) d ≡ want → with_sessions (made_sessions (n - (p + 1)) (p + 1 + 1) h) f ≡ want
sessions_next n p g h d e f want l ie if_ ih w =
    ap (λ x. with_sessions (made_sessions (n - (p + 1)) (p + 1 + 1) x) f) ih
    ∙ ap (with_sessions (made_sessions (n - (p + 1)) (p + 1 + 1) (after_scripts 25 g))) (if_ ∙ ap (with_scripts (made_scripts 25 g)) ie)
    ∙ one_session (n - (p + 1)) (p + 1) g d
    ∙ ap (λ k. with_sessions (made_sessions k (p + 1) g) d) (sym (left_one n p l))
    ∙ w

pub sessions_end : (n p : ℕ) (g : Lcg) (d want : Scene) → n ≤ p → with_sessions (made_sessions (n - p) (p + 1) g) d ≡ want → d ≡ want
sessions_end n p g d want l w = sym (no_session (p + 1) g d) ∙ ap (λ k. with_sessions (made_sessions k (p + 1) g) d) (sym (left_none n p l)) ∙ w

pub after_sessions_next : (n p : ℕ) (g h want : Lcg) → p < n → h ≡ after_scripts 25 g → after_sessions (n - p) g ≡ want → after_sessions (n - (p + 1)) h ≡ want
after_sessions_next n p g h want l ih w =
    ap (after_sessions (n - (p + 1))) ih ∙ after_one_session (n - (p + 1)) g ∙ ap (λ k. after_sessions k g) (sym (left_one n p l)) ∙ w

pub after_sessions_end : (n p : ℕ) (g want : Lcg) → n ≤ p → after_sessions (n - p) g ≡ want → g ≡ want
after_sessions_end n p g want l w = sym (after_no_session g) ∙ ap (λ k. after_sessions k g) (sym (left_none n p l)) ∙ w

-- ---- transactions

pub one_script : (m : ℕ) (g : Lcg) (d : Scene) → with_scripts (made_scripts m (after_script g)) (with_script (script g) d) ≡ with_scripts (made_scripts (suc m) g) d
unfolding made_scripts with_scripts
one_script m g d = refl

no_script : (g : Lcg) (d : Scene) → with_scripts (made_scripts 0 g) d ≡ d
unfolding made_scripts with_scripts
no_script g d = refl

after_one_script : (m : ℕ) (g : Lcg) → after_scripts m (after_script g) ≡ after_scripts (suc m) g
unfolding after_scripts
after_one_script m g = refl

after_no_script : (g : Lcg) → after_scripts 0 g ≡ g
unfolding after_scripts
after_no_script g = refl

pub scripts_next : (n p : ℕ) (g h : Lcg) (ops : List MadeOp) (d e want : Scene) → p < n → ops ≡ script g → e ≡ with_script ops d → h ≡ after_script g
    → with_scripts (made_scripts (n - p) g) d ≡ want → with_scripts (made_scripts (n - (p + 1)) h) e ≡ want
scripts_next n p g h ops d e want l io ie ih w =
    ap (λ x. with_scripts (made_scripts (n - (p + 1)) x) e) ih
    ∙ ap (with_scripts (made_scripts (n - (p + 1)) (after_script g))) (ie ∙ ap (λ o. with_script o d) io)
    ∙ one_script (n - (p + 1)) g d
    ∙ ap (λ k. with_scripts (made_scripts k g) d) (sym (left_one n p l))
    ∙ w

pub scripts_end : (n p : ℕ) (g : Lcg) (d want : Scene) → n ≤ p → with_scripts (made_scripts (n - p) g) d ≡ want → d ≡ want
scripts_end n p g d want l w = sym (no_script g d) ∙ ap (λ k. with_scripts (made_scripts k g) d) (sym (left_none n p l)) ∙ w

pub after_scripts_next : (n p : ℕ) (g h want : Lcg) → p < n → h ≡ after_script g → after_scripts (n - p) g ≡ want → after_scripts (n - (p + 1)) h ≡ want
after_scripts_next n p g h want l ih w =
    ap (after_scripts (n - (p + 1))) ih ∙ after_one_script (n - (p + 1)) g ∙ ap (λ k. after_scripts k g) (sym (left_one n p l)) ∙ w

pub after_scripts_end : (n p : ℕ) (g want : Lcg) → n ≤ p → after_scripts (n - p) g ≡ want → g ≡ want
after_scripts_end n p g want l w = sym (after_no_script g) ∙ ap (λ k. after_scripts k g) (sym (left_none n p l)) ∙ w

-- ---- operations

pub keys_next : (xs : List MadeOp) (i : ℕ) (op : MadeOp) (d e want : Scene) → i < length xs → e ≡ with_key (key_of (get_or xs i op)) d → with_keys (drop i xs) d ≡ want
    → with_keys (drop (i + 1) xs) e ≡ want
keys_next xs i op d e want l is w =
    ap (with_keys (drop (i + 1) xs)) is ∙ sym (ap (λ ys. with_keys ys d) (drop_more xs i op l)) ∙ w

pub keys_end : (xs : List MadeOp) (i : ℕ) (d want : Scene) → length xs ≤ i → with_keys (drop i xs) d ≡ want → d ≡ want
keys_end xs i d want l w = sym (ap (λ ys. with_keys ys d) (drop_all i xs l)) ∙ w

pub numbers_next : (xs : List MadeOp) (i : ℕ) (op : MadeOp) (ops more : List Op) (o : Op) (d e : Scene) (want : List Op) → i < length xs
    → o ≡ numbered d.keys.names (get_or xs i op) → e ≡ with_key (key_of (get_or xs i op)) d → more ≡ ops ++ o ∷ [] → ops ++ numbers d.keys.names (drop i xs) ≡ want
    → more ++ numbers e.keys.names (drop (i + 1) xs) ≡ want
numbers_next xs i op ops more o d e want l io ie im w =
    let table = (with_key (key_of (get_or xs i op)) d).keys.names in
    ap (λ (x : Scene). more ++ numbers x.keys.names (drop (i + 1) xs)) ie
    ∙ ap (λ x. x ++ numbers table (drop (i + 1) xs)) im
    ∙ append_assoc ops (o ∷ []) (numbers table (drop (i + 1) xs))
    ∙ ap (λ x. ops ++ x ∷ numbers table (drop (i + 1) xs)) io
    ∙ sym (ap (λ ys. ops ++ numbers d.keys.names ys) (drop_more xs i op l))
    ∙ w

pub numbers_end : (xs : List MadeOp) (i : ℕ) (ops : List Op) (d : Scene) (want : List Op) → length xs ≤ i → ops ++ numbers d.keys.names (drop i xs) ≡ want → ops ≡ want
numbers_end xs i ops d want l w = sym (append-nil ops) ∙ sym (ap (λ ys. ops ++ numbers d.keys.names ys) (drop_all i xs l)) ∙ w

-- ---- entries

one_entry : (m p : ℕ) (g : Lcg) (d : Scene) → with_entries (made_entries m (p + 1) (after_entry g)) (with_entry (entry p g) d) ≡ with_entries (made_entries (suc m) p g) d
unfolding made_entries
one_entry m p g d = ap (λ es. record d { schedule = es }) (append_assoc d.schedule (entry p g ∷ []) (made_entries m (p + 1) (after_entry g)))

no_entry : (p : ℕ) (g : Lcg) (d : Scene) → with_entries (made_entries 0 p g) d ≡ d
unfolding made_entries
no_entry p g d = ap (λ es. record d { schedule = es }) (append-nil d.schedule)

pub entries_next : (n p : ℕ) (g h : Lcg) (x : Event) (d e want : Scene) → p < n → x ≡ entry (p + 1) g → e ≡ with_entry x d → h ≡ after_entry g
    → with_entries (made_entries (n - p) (p + 1) g) d ≡ want → with_entries (made_entries (n - (p + 1)) (p + 1 + 1) h) e ≡ want
entries_next n p g h x d e want l ix ie ih w =
    ap (λ y. with_entries (made_entries (n - (p + 1)) (p + 1 + 1) y) e) ih
    ∙ ap (with_entries (made_entries (n - (p + 1)) (p + 1 + 1) (after_entry g))) (ie ∙ ap (λ y. with_entry y d) ix)
    ∙ one_entry (n - (p + 1)) (p + 1) g d
    ∙ ap (λ k. with_entries (made_entries k (p + 1) g) d) (sym (left_one n p l))
    ∙ w

pub entries_end : (n p : ℕ) (g : Lcg) (d want : Scene) → n ≤ p → with_entries (made_entries (n - p) (p + 1) g) d ≡ want → d ≡ want
entries_end n p g d want l w = sym (no_entry (p + 1) g d) ∙ ap (λ k. with_entries (made_entries k (p + 1) g) d) (sym (left_none n p l)) ∙ w
