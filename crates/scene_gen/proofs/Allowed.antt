-- Which items the rules have nothing against.
use Rattle.std.proofs.Common.{Bool, Err, IfErr, List, None, Ok, Option, Result, Some, [], ap, arith, cond, false, inl, inr, length, length-append, map, nat_le, nat_lt, refl, sym, true, ℕ, ◌&&◌, ◌++◌, ◌+◌, ◌<◌, ◌==◌, ◌||◌, ◌∙◌, ◌∷◌, ◌≡◌, ◌≤◌}
use Rattle.std.proofs.lemmas.Bool.{and_from, and_parts, or_right}
use Rattle.std.proofs.lemmas.Bool.Decides.{Decides-eqb, nat_tests}
use Rattle.std.specs.List.{list_all, list_any}
use Rattle.std.specs.Prelude.{flat_map, not}
use Rattle.std.proofs.lemmas.List.Sums.{sum_by_push}
use Rattle.scene_gen.proofs.NamedKeys.{all_longer}
use Rattle.scene_gen.proofs.Tables.{there}
use Rattle.scene_gen.proofs.Within.{add_tx_count}
use Rattle.scene_gen.specs.Building.{IsSmall, TakesScripts, TakesSessions, numbers, with_keys, with_script}
use Rattle.scene_gen.specs.Made.{key_of, named, numbered, with_pairs}
use Rattle.scene_gen.specs.declared.draws.MadeOp.{MadeOp}
use Rattle.scene_gen.specs.declared.draws.MadeOp.TheVariants.{Add, Get, Put}
use Rattle.str_base.proofs.Tests.{not_zero}
use Rattle.str_base.specs.declared.limits.TheConstants.{KEYS, NODE_SESSIONS, SCHEDULE_ENTRIES, SESSIONS, TRANSACTIONS}
use Rattle.str_base.specs.Versions.{same_node}
use Rattle.str_base.specs.declared.names.NodeId.{NodeId}
use Rattle.str_base.specs.declared.names.PartId.{PartId}
use Rattle.str_scene.proofs.Allowing.{up_to_holds}
use Rattle.str_scene.specs.declared.faults.SceneFault.{SceneFault}
use Rattle.str_scene.specs.declared.faults.SceneFault.TheVariants.{Memory}
use Rattle.str_scene.specs.declared.names.Event.{Event}
use Rattle.str_scene.specs.declared.names.Event.TheVariants.{Client, Deliver}
use Rattle.str_scene.specs.declared.names.Op.{Op}
use Rattle.str_scene.specs.Drafts.{add_tx, empty_draft, is_before_schedule, is_none_yet, may_have_entry, may_have_session, may_have_tx, with_session}
use Rattle.str_scene.specs.Keys.{place_of, with_pair}
use Rattle.str_scene.specs.Refusals.{IsRefused, counts_to, drain_fault, entry_fault, finish_fault, first_fault, is_entry, is_known, is_puts, is_script, is_up_to, key_fault, keys_in_order, nodes_fault, session_fault, sessions_at, texts_in_order, transaction_count, tx_fault}
use Rattle.str_scene.specs.SceneLimits.{Exists, IsEvent, IsKey, IsScene, all_ops, counted, is_name, key_of as op_key, text_of}
use Rattle.str_scene.specs.Scenes.{KeyTable, Scene, Session}

-- what the rules have nothing against is refused for want of memory alone
pub only_memory : (rule : Option SceneFault) (f : SceneFault) → rule ≡ None → IsRefused rule f → f ≡ Memory
only_memory rule f none (inl e) = absurd (let no : None ≡ Some f = sym none ∙ e in cc)
only_memory rule f none (inr e) = e.1

-- and never, where it takes no memory
pub not_refused : (rule : Option SceneFault) (f : SceneFault) → rule ≡ None → rule ≡ Some f → f ≡ Memory
not_refused rule f none e = absurd (let no : None ≡ Some f = sym none ∙ e in cc)

-- the same of what a call gives
pub memory_alone : {A : Type 0} (rule : Option SceneFault) (r : Result A SceneFault) → rule ≡ None → IfErr r (λ f. IsRefused rule f) → IfErr r (λ f. f ≡ Memory)
memory_alone rule (Ok x) none h = h
memory_alone rule (Err f) none h = only_memory rule f none h

pub never_refused : {A : Type 0} (rule : Option SceneFault) (r : Result A SceneFault) → rule ≡ None → IfErr r (λ f. rule ≡ Some f) → IfErr r (λ f. f ≡ Memory)
never_refused rule (Ok x) none h = h
never_refused rule (Err f) none h = not_refused rule f none h

-- three tests that pass
pub all_pass : (a b c : Bool) → a ≡ true → b ≡ true → c ≡ true → first_fault a b c ≡ None
all_pass a b c e f g = rw (e, f, g) refl

pub is_at_most : (n m : ℕ) → n ≤ m → nat_le n m ≡ true
is_at_most n m l = grind (arith, nat_tests)

pub is_below : (n m : ℕ) → n < m → nat_lt n m ≡ true
is_below n m l = grind (arith, nat_tests)

-- ---- keys

pub key_allowed : (key : List ℕ × PartId) (d : Scene) → IsKey 6 key → TakesScripts d → length (with_pair key d.keys.names) ≤ KEYS → key_fault key d ≡ None
key_allowed key d is takes room =
    let part : is_up_to (length d.parts) key.1.0 ≡ true = up_to_holds (length d.parts) key.1.0 (rw takes.parts is.part) in
    all_pass (may_have_tx d) (is_name key.0 && is_up_to (length d.parts) key.1.0) (nat_le (length (with_pair key d.keys.names)) KEYS)
    takes.place (and_from (is_name key.0) (is_up_to (length d.parts) key.1.0) is.name part) (is_at_most (length (with_pair key d.keys.names)) KEYS room)

-- ---- transactions

-- an operation whose key is in the table
op_known : (op : MadeOp) (table : List (List ℕ × PartId)) (t : KeyTable) → place_of (key_of op) table < length t.names → is_known t (numbered table op) ≡ true
op_known (Get k) table t l = is_below (place_of (named k) table) (length t.names) l
op_known (Put k n) table t l = is_below (place_of (named k) table) (length t.names) l
op_known (Add k n) table t l = is_below (place_of (named k) table) (length t.names) l

-- the keys of operations are in the table with them
ops_known : (ops : List MadeOp) (table : List (List ℕ × PartId)) (t : KeyTable) → t.names ≡ with_pairs (map key_of ops) table → list_all (is_known t) (numbers table ops) ≡ true
ops_known [] table t e = refl
ops_known (op ∷ ops) table t e =
    let more = with_pair (key_of op) table in
    let long : length t.names ≡ length (with_pairs (map key_of ops) more) = ap length e in
    let here = there (key_of op) table in
    let grows = all_longer (map key_of ops) more in
    and_from (is_known t (numbered table op)) (list_all (is_known t) (numbers more ops)) (op_known op table t (omega (arith, long, here, grows))) (ops_known ops more t e)

-- they write no byte strings
no_puts : (ops : List MadeOp) (table : List (List ℕ × PartId)) → list_any is_puts (numbers table ops) ≡ false
no_puts [] table = refl
no_puts (op ∷ ops) table = one op (no_puts ops (with_pair (key_of op) table))
  where
    one : (op : MadeOp) → list_any is_puts (numbers (with_pair (key_of op) table) ops) ≡ false → list_any is_puts (numbers table (op ∷ ops)) ≡ false
    one (Get k) h = h
    one (Put k n) h = h
    one (Add k n) h = h

-- they are a script
is_script_made : (version : ℕ) (ops : List MadeOp) (table : List (List ℕ × PartId)) → 1 ≤ length ops → is_script version (numbers table ops) ≡ true
is_script_made version [] table l = absurd (omega arith)
is_script_made version (op ∷ ops) table l =
    let none : not (list_any is_puts (numbers table (op ∷ ops))) ≡ true = ap not (no_puts (op ∷ ops) table) in
    or_right (version == 2) (not (list_any is_puts (numbers table (op ∷ ops)))) none

-- one more transaction makes one more
room_for_tx : (ops : List Op) (ss : List Session) → not (is_none_yet ss) ≡ true → transaction_count (add_tx ops ss) ≤ TRANSACTIONS → transaction_count ss < TRANSACTIONS
room_for_tx ops [] some few = absurd cc
room_for_tx ops (s ∷ ss) some few = omega (arith, few, add_tx_count ops s ss)

pub tx_allowed : (ops : List MadeOp) (d : Scene) → 1 ≤ length ops → may_have_tx d ≡ true → transaction_count (with_script ops d).sessions ≤ TRANSACTIONS
    → tx_fault (numbers d.keys.names ops) (with_keys ops d) ≡ None
tx_allowed ops d some place room =
    let mine = numbers d.keys.names ops in
    let e = with_keys ops d in
    let sessions = and_parts (not (is_none_yet d.sessions)) (is_before_schedule d) place in
    all_pass (may_have_tx e && is_script e.version mine) (list_all (is_known e.keys) mine) (nat_lt (transaction_count e.sessions) TRANSACTIONS)
    (and_from (may_have_tx e) (is_script e.version mine) place (is_script_made e.version ops d.keys.names some))
    (ops_known ops d.keys.names e.keys refl)
    (is_below (transaction_count e.sessions) TRANSACTIONS (room_for_tx mine d.sessions sessions.0 room))

-- as it is called
pub tx_fits : (ops : List MadeOp) (os : List Op) (d e : Scene) → os ≡ numbers d.keys.names ops → e ≡ with_keys ops d → 1 ≤ length ops → may_have_tx d ≡ true
    → transaction_count (with_script ops d).sessions ≤ TRANSACTIONS → tx_fault os e ≡ None
tx_fits ops os d e eo ee some place room = rw (eo, ee) (tx_allowed ops d some place room)

-- ---- sessions

pub session_allowed : (node : NodeId) (d : Scene) → TakesSessions d → Exists node.0 3 → IsSmall (with_session node d) → session_fault node d ≡ None
session_allowed node d takes is small =
    let one : Session = record { node = node; txs = [] } in
    let long = length-append d.sessions (one ∷ []) in
    let at = sum_by_push (λ (x : Session). cond (same_node x.node node) 1 0) d.sessions one in
    let self : same_node node node ≡ true = (Decides-eqb node.0 node.0).1 refl in
    let count : sessions_at node (d.sessions ++ one ∷ []) ≡ sessions_at node d.sessions + 1 = at ∙ ap (λ b. sessions_at node d.sessions + cond b 1 0) self in
    let few = small.at_one_node node in
    all_pass (may_have_session d) (is_up_to d.nodes node.0) (nat_lt (length d.sessions) SESSIONS && nat_lt (sessions_at node d.sessions) NODE_SESSIONS)
    takes.place (up_to_holds d.nodes node.0 (rw takes.nodes is))
    (and_from (nat_lt (length d.sessions) SESSIONS) (nat_lt (sessions_at node d.sessions) NODE_SESSIONS)
    (is_below (length d.sessions) SESSIONS (omega (arith, small.sessions, long)))
    (is_below (sessions_at node d.sessions) NODE_SESSIONS (omega (arith, few, count))))

-- ---- entries

entry_in_range : (d : Scene) (e : Event) → IsEvent d e → is_entry (length d.sessions) e ≡ true
entry_in_range d (Client s t) h = up_to_holds (length d.sessions) s.0 h.0
entry_in_range d (Deliver i) h = is_at_most 1 i h.0

pub entry_allowed : (e : Event) (d : Scene) → may_have_entry d ≡ true → IsEvent d e → length d.schedule < SCHEDULE_ENTRIES → entry_fault e d ≡ None
entry_allowed e d place is room =
    all_pass (may_have_entry d) (is_entry (length d.sessions) e) (nat_lt (length d.schedule) SCHEDULE_ENTRIES) place (entry_in_range d e is) (is_below (length d.schedule) SCHEDULE_ENTRIES room)

-- ---- the beginning and the end

pub nodes_allowed : (d : Scene) → d ≡ empty_draft 1 → nodes_fault 3 d ≡ None
nodes_allowed d e = rw e refl

pub drain_allowed : (d : Scene) → may_have_entry d ≡ true → drain_fault d ≡ None
drain_allowed d h = all_pass (may_have_entry d) true true h refl refl
