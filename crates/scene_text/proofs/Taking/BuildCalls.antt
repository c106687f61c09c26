-- What the calls by which a scene is built say of the lines that are taken.
use Rattle.std.proofs.Common.{Bool, Err, IfErr, List, None, Ok, OnOk, Result, Option, Some, [], ap, arith, false, inl, inr, length, map, nat_le, nat_lt, not, refl, subst, sym, true, ℕ, ◌&&◌, ◌++◌, ◌+◌, ◌<◌, ◌==◌, ◌||◌, ◌^◌, ◌∙◌, ◌∷◌, ◌≡◌, ◌≤◌}
use Rattle.str_base.proofs.Tests.{not_zero}
use Rattle.str_scene.proofs.Allowing.{some_yet}
use Rattle.str_scene.proofs.Checked.{no_fault}
use Rattle.str_base.specs.declared.limits.TheConstants.{NODES, NODE_SESSIONS, PARTITIONS, REPLICAS, SCHEDULE_ENTRIES, SESSIONS, TRANSACTIONS}
use Rattle.std.proofs.lemmas.Bool.{and_from, lt-ltb}
use Rattle.std.proofs.lemmas.Bool.Decides.{Decides-eqb, nat_tests}
use Rattle.std.proofs.lemmas.Option.{none-some, same_Some}
use Rattle.std.specs.List.{list_all, list_any}
use Rattle.std.specs.Prelude.{flat_map}
use Rattle.scene_text.proofs.Spelling.NumbersFit.{reached_stands, unfit}
use Rattle.scene_text.proofs.Taking.StatesKept.{At, Bodied, InBody, Kept, Stands, tx_count}
use Rattle.scene_text.proofs.Taking.TransactionEnds.{Settled, settled_section}
use Rattle.scene_text.proofs.Taking.LinesTaken.{taken}
use Rattle.scene_text.proofs.Taking.SessionLines.{taken_on}
use Rattle.scene_text.specs.LineReading.{IsReadAs, word_of}
use Rattle.scene_text.specs.LineTexts.{Fits, IsForm, line_text}
use Rattle.scene_text.specs.declared.lines.ReadLine.{ReadLine}
use Rattle.std.specs.Option.{SomeIff}
use Rattle.scene_text.proofs.FirstBad.ReaderKnows.{out_of_place}
use Rattle.str_scene.specs.declared.faults.Why.{Why}
use Rattle.str_scene.specs.declared.faults.Why.TheVariants.{Count as Many, Form as No, Range as Out}
use Rattle.scene_text.specs.LineOrder.{Place, entry_follows, follows, nodes_follow, op_follows, part_follows, section_follows, version_follows}
use Rattle.scene_text.specs.LineOrder.Place.{AfterDrain, AfterNodes, AfterOp, AfterPart, AfterSession, AfterTx, AfterVersion, AtStart, InSchedule}
use Rattle.scene_text.specs.Reading.{IsBadText, IsReached, IsRefusedFor, RefusesText}
use Rattle.scene_text.specs.Taking.{State, after, at_start, goes_on, has_room, in_range, judged, placed, scene_limits, settled, take_line, take_lines}
use Rattle.scene_text.specs.Taking.Taken.{Now, Refused}
use Rattle.scene_text.specs.declared.lines.Line.{Line}
use Rattle.scene_text.specs.declared.lines.Line.TheVariants.{Client as LClient, Deliver as LDeliver, Drain as LDrain, Nodes as LNodes, Part as LPart, Session as LSession, Version as LVersion}
use Rattle.str_base.specs.declared.names.NodeId.{NodeId}
use Rattle.str_base.specs.declared.names.PartId.{PartId}
use Rattle.str_base.specs.declared.names.SessionId.{SessionId}
use Rattle.str_scene.specs.declared.names.Event.TheVariants.{Client, Deliver}
use Rattle.str_scene.proofs.Each.{each_append, each_at, each_from}
use Rattle.str_scene.specs.Lists.{Each}
use Rattle.str_scene.specs.Spelling.{ended}
use Rattle.str_scene.specs.Drafts.{is_none_yet, may_have_entry, may_have_nodes, may_have_part, may_have_session, may_have_tx, with_row, with_session}
use Rattle.str_scene.specs.Refusals.{IsRefused, drain_fault, entry_fault, first_fault, is_row as row_is, is_up_to, is_known, nodes_fault, part_fault, session_fault, sessions_at, is_puts, is_script, tx_fault}
use Rattle.str_scene.specs.SceneLimits.{IsOp}
use Rattle.str_scene.specs.Scenes.{KeyTable, Scene}
use Rattle.str_scene.specs.declared.faults.SceneFault.{SceneFault}
use Rattle.str_scene.specs.declared.faults.SceneFault.TheVariants.{Count, Form, Memory, Range}
use Rattle.str_scene.specs.declared.names.Op.{Op}
use Rattle.str_scene.specs.declared.names.Op.TheVariants.{Abort, Add, Del, Get, Need, Put, Puts}

-- what a state that was reached keeps
pub stands : (s : State) → IsReached s → Stands scene_limits s
stands s r = reached_stands r.text r.count s r.reached

-- a line against which nothing is said is taken
pub judged_ok : (s : State) (l : Line) (next : Place) (a b c : Bool) → follows s.draft.version s.place l ≡ Some next → first_fault a b c ≡ None →
    in_range s.draft l ≡ b → has_room scene_limits s l ≡ c → take_line scene_limits s l ≡ Now (after next s l)
judged_ok s l next a b c order none range room =
    let k = no_fault a b c none in
    taken scene_limits s l next order (range ∙ k.1) (room ∙ k.2)

-- a line whose numbers are out of range
pub refused_range : (s : State) (l : Line) (next : Place) → follows s.draft.version s.place l ≡ Some next → in_range s.draft l ≡ false → IsRefusedFor s l Range
refused_range s l next order range =
    ap (placed scene_limits s l) order ∙ ap (λ b. judged (after next s l) b (has_room scene_limits s l)) range

-- a line for which there is no room
pub refused_count : (s : State) (l : Line) (next : Place) → follows s.draft.version s.place l ≡ Some next → in_range s.draft l ≡ true → has_room scene_limits s l ≡ false → IsRefusedFor s l Count
refused_count s l next order range room =
    ap (placed scene_limits s l) order
    ∙ (ap (λ b. judged (after next s l) b (has_room scene_limits s l)) range ∙ ap (λ b. judged (after next s l) true b) room)

-- a line of which something is said
pub judged_err : (s : State) (l : Line) (next : Place) (a b c : Bool) (f : SceneFault) → follows s.draft.version s.place l ≡ Some next → a ≡ true → first_fault a b c ≡ Some f →
    in_range s.draft l ≡ b → has_room scene_limits s l ≡ c → IsRefusedFor s l f
judged_err s l next false b c f order may some range room = absurd (cc)
judged_err s l next true false c f order may some range room =
    subst (IsRefusedFor s l) (same_Some _ _ some) (refused_range s l next order range)
judged_err s l next true true false f order may some range room =
    subst (IsRefusedFor s l) (same_Some _ _ some) (refused_count s l next order range room)
judged_err s l next true true true f order may some range room = absurd (none-some _ some)

-- or for which there is no memory
pub judged_refused : (s : State) (l : Line) (next : Place) (a b c : Bool) (f : SceneFault) → follows s.draft.version s.place l ≡ Some next → a ≡ true → IsRefused (first_fault a b c) f →
    in_range s.draft l ≡ b → has_room scene_limits s l ≡ c → IsRefusedFor s l f
judged_refused s l next a b c f order may (inl some) range room = judged_err s l next a b c f order may some range room
judged_refused s l next a b c f order may (inr none) range room = subst (IsRefusedFor s l) (sym none.1) tt

-- lists with and without members
none_yet : {X : Type 0} (xs : List X) → xs ≡ [] → is_none_yet xs ≡ true
none_yet [] e = refl
none_yet (x ∷ xs) e = absurd (cc)

-- where the line of the nodes may stand, the nodes may be given
pub nodes_may : (place : Place) (d : Scene) (ops : List Op) (next : Place) → At scene_limits place d ops → nodes_follow place ≡ Some next → may_have_nodes d ≡ true
nodes_may AfterVersion d ops next a e = ap (λ x. x.nodes == 0) a.1
nodes_may _ d ops next a e = absurd (none-some _ e)

-- and so on
pub part_may : (place : Place) (d : Scene) (ops : List Op) (next : Place) → At scene_limits place d ops → part_follows place ≡ Some next → may_have_part d ≡ true
part_may AfterNodes d ops next a e =
    and_from _ _ (not_zero d.nodes a.1.0)
    (and_from _ _ (none_yet d.sessions (ap (λ x. x.sessions) a.2)) (and_from _ _ (none_yet d.schedule (ap (λ x. x.schedule) a.2)) (ap (λ x. not x.drain) a.2)))
part_may AfterPart d ops next a e =
    and_from _ _ (not_zero d.nodes a.0.head.nodes.0) (and_from _ _ (none_yet d.sessions a.1) (and_from _ _ (none_yet d.schedule a.0.no_entry) (ap not a.0.no_drain)))
part_may _ d ops next a e = absurd (none-some _ e)

pub session_may : (d : Scene) → Bodied d → may_have_session d ≡ true
session_may d b = and_from _ _ (some_yet d.parts b.head.parts) (and_from _ _ (none_yet d.schedule b.no_entry) (ap not b.no_drain))

tx_may : (d : Scene) → InBody d → may_have_tx d ≡ true
tx_may d b = and_from _ _ (some_yet d.sessions b.some) (and_from _ _ (none_yet d.schedule b.body.no_entry) (ap not b.body.no_drain))

-- where an operation may stand
pub op_body : (place : Place) (d : Scene) (ops : List Op) (next : Place) → At scene_limits place d ops → op_follows place ≡ Some next → InBody d × (tx_count d.sessions < TRANSACTIONS) × (next ≡ AfterOp)
op_body AfterTx d ops next a e = (a.0, a.1, sym (same_Some _ _ e))
op_body AfterOp d ops next a e = (a.0, a.1, sym (same_Some _ _ e))
op_body _ d ops next a e = absurd (none-some _ e)

pub op_may : (place : Place) (d : Scene) (ops : List Op) (next : Place) → At scene_limits place d ops → op_follows place ≡ Some next → may_have_tx d ≡ true
op_may place d ops next a e = tx_may d (op_body place d ops next a e).0

pub entry_may : (place : Place) (d : Scene) (ops : List Op) (m next : Place) → At scene_limits place d ops → entry_follows m place ≡ Some next → may_have_entry d ≡ true
entry_may InSchedule d ops m next a e = and_from _ _ (some_yet d.parts a.0.parts) (ap not a.1)
entry_may _ d ops m next a e = absurd (none-some _ e)

-- operations of the table are known to it
op_known : (v : ℕ) (table : KeyTable) (op : Op) → IsOp v table op → is_known table op ≡ true
op_known v table (Get k) h = lt-ltb k.0 (length table.names) h
op_known v table (Put k n) h = lt-ltb k.0 (length table.names) h.0
op_known v table (Puts k t) h = and_from (nat_lt k.0 (length table.names)) (nat_lt t.0 (length table.texts)) (lt-ltb k.0 (length table.names) h.0) (lt-ltb t.0 (length table.texts) h.1)
op_known v table (Add k n) h = lt-ltb k.0 (length table.names) h.0
op_known v table (Del k) h = lt-ltb k.0 (length table.names) h
op_known v table (Need k n) h = lt-ltb k.0 (length table.names) h.0
op_known v table Abort h = refl

ops_known : (v : ℕ) (table : KeyTable) (ops : List Op) → Each (IsOp v table) ops → list_all (is_known table) ops ≡ true
ops_known v table [] h = refl
ops_known v table (op ∷ ops) h = and_from _ _ (op_known v table op h.0) (ops_known v table ops h.1)

-- byte strings are written in version 2 alone
or_false : (v : ℕ) (a : Bool) → ((v ≡ 2 → ⊥) → a ≡ false) → ((v == 2) || not a) ≡ true
or_false v a h = by_test (v == 2) refl
  where
    by_test : (t : Bool) → (v == 2) ≡ t → (t || not a) ≡ true
    by_test true e = refl
    by_test false e = ap not (h (λ two. cc ((Decides-eqb v 2).1 two)))

not_puts : (v : ℕ) (table : KeyTable) (op : Op) → (v ≡ 2 → ⊥) → IsOp v table op → is_puts op ≡ false
not_puts v table (Puts k t) other h = absurd (other h.2)
not_puts v table _ other h = refl

no_puts : (v : ℕ) (table : KeyTable) (ops : List Op) → (v ≡ 2 → ⊥) → Each (IsOp v table) ops → list_any is_puts ops ≡ false
no_puts v table [] other h = refl
no_puts v table (op ∷ ops) other h = rw (not_puts v table op other h.0) (no_puts v table ops other h.1)

-- nothing is said against the open transaction where it has an operation
pub tx_none : (d : Scene) (ops : List Op) → InBody d → tx_count d.sessions < TRANSACTIONS → 1 ≤ length ops → Kept scene_limits d ops → tx_fault ops d ≡ None
tx_none d ops b few some k =
    let script : is_script d.version ops ≡ true = and_from _ _ (some_yet ops some) (or_false d.version (list_any is_puts ops) (λ other. no_puts d.version d.keys ops other k.open_ops)) in
    none_said (and_from _ _ (tx_may d b) script) (ops_known d.version d.keys ops k.open_ops) (lt-ltb (tx_count d.sessions) TRANSACTIONS few)
  where
    none_said : {x y z : Bool} → x ≡ true → y ≡ true → z ≡ true → first_fault x y z ≡ None
    none_said p q r = rw (p, q, r) refl

-- what is said of items, at the draft of a state
pub nodes_refused : (s : State) (d : Scene) (n : ℕ) (next : Place) (f : SceneFault) → d ≡ s.draft → IsReached s → follows s.draft.version s.place (LNodes n) ≡ Some next →
    nodes_fault n d ≡ Some f → IsRefusedFor s (LNodes n) f
nodes_refused s d n next f same r order e =
    judged_err s (LNodes n) next (may_have_nodes s.draft) (is_up_to NODES n) true f order (nodes_may s.place s.draft s.ops next (stands s r).at_place order)
    (subst (λ x. nodes_fault n x ≡ Some f) same e) refl refl

pub drain_refused : (s : State) (d : Scene) (next : Place) (f : SceneFault) → d ≡ s.draft → IsReached s → follows s.draft.version s.place LDrain ≡ Some next →
    drain_fault d ≡ Some f → IsRefusedFor s LDrain f
drain_refused s d next f same r order e =
    judged_err s LDrain next (may_have_entry s.draft) true true f order (entry_may s.place s.draft s.ops AfterDrain next (stands s r).at_place order)
    (subst (λ x. drain_fault x ≡ Some f) same e) refl refl

and_true : (a b : Bool) → b ≡ true → (a && b) ≡ a
and_true true b e = e
and_true false b e = refl

pub client_refused : (s : State) (d : Scene) (c : SessionId) (t : ℕ) (next : Place) (f : SceneFault) → t < 2 ^ 64 → d ≡ s.draft → IsReached s →
    follows s.draft.version s.place (LClient c t) ≡ Some next → IsRefused (entry_fault (Client c t) d) f → IsRefusedFor s (LClient c t) f
client_refused s d c t next f small same r order e =
    judged_refused s (LClient c t) next (may_have_entry s.draft) (is_up_to (length s.draft.sessions) c.0) (nat_lt (length s.draft.schedule) SCHEDULE_ENTRIES) f order
    (entry_may s.place s.draft s.ops InSchedule next (stands s r).at_place order)
    (subst (λ x. IsRefused (entry_fault (Client c t) x) f) same e) (and_true (is_up_to (length s.draft.sessions) c.0) (nat_lt t (2 ^ 64)) (lt-ltb t (2 ^ 64) small)) refl

pub deliver_refused : (s : State) (d : Scene) (i : ℕ) (next : Place) (f : SceneFault) → i < 2 ^ 64 → d ≡ s.draft → IsReached s →
    follows s.draft.version s.place (LDeliver i) ≡ Some next → IsRefused (entry_fault (Deliver i) d) f → IsRefusedFor s (LDeliver i) f
deliver_refused s d i next f small same r order e =
    judged_refused s (LDeliver i) next (may_have_entry s.draft) (nat_le 1 i) (nat_lt (length s.draft.schedule) SCHEDULE_ENTRIES) f order
    (entry_may s.place s.draft s.ops InSchedule next (stands s r).at_place order)
    (subst (λ x. IsRefused (entry_fault (Deliver i) x) f) same e) (and_true (nat_le 1 i) (nat_lt i (2 ^ 64)) (lt-ltb i (2 ^ 64) small)) refl

-- a row of the next number is in range where its nodes are
row_range : (d : Scene) (p : PartId) (row : List NodeId) → p.0 ≡ length d.parts + 1 → length row ≤ REPLICAS → in_range d (LPart p row) ≡ row_is d.nodes row
row_range d p row e few =
    let number : (p.0 == length d.parts + 1) ≡ true = (Decides-eqb p.0 (length d.parts + 1)).1 e in
    let short : nat_le (length row) REPLICAS ≡ true = grind (arith, nat_tests) in
    ap (λ a. a && (nat_le (length row) REPLICAS && row_is d.nodes row)) number ∙ ap (λ a. a && row_is d.nodes row) short

part_stands : (s : State) (p : PartId) (row : List NodeId) (next : Place) → IsReached s → follows s.draft.version s.place (LPart p row) ≡ Some next → 1 ≤ length row →
    (may_have_part s.draft && not (is_none_yet row)) ≡ true
part_stands s p row next r order some = and_from _ _ (part_may s.place s.draft s.ops next (stands s r).at_place order) (some_yet row some)

pub part_refused : (s : State) (d : Scene) (p : PartId) (row : List NodeId) (next : Place) (f : SceneFault) → p.0 ≡ length d.parts + 1 → length row ≤ REPLICAS → 1 ≤ length row → d ≡ s.draft → IsReached s →
    follows s.draft.version s.place (LPart p row) ≡ Some next → IsRefused (part_fault row d) f → IsRefusedFor s (LPart p row) f
part_refused s d p row next f number few some same r order e =
    judged_refused s (LPart p row) next (may_have_part s.draft && not (is_none_yet row)) (row_is s.draft.nodes row) (nat_lt (length s.draft.parts) PARTITIONS) f order
    (part_stands s p row next r order some) (subst (λ x. IsRefused (part_fault row x) f) same e)
    (row_range s.draft p row (number ∙ ap (λ x. length x.parts + 1) same) few) refl

pub part_taken : (s : State) (d e : Scene) (ops : List Op) (p : PartId) (row : List NodeId) (next : Place) → p.0 ≡ length d.parts + 1 → length row ≤ REPLICAS → d ≡ s.draft → ops ≡ s.ops → e ≡ with_row row d →
    follows s.draft.version s.place (LPart p row) ≡ Some next → part_fault row d ≡ None → take_line scene_limits s (LPart p row) ≡ Now (record { place = next; draft = e; ops = ops })
part_taken s d e ops p row next number few same same_ops added order none =
    judged_ok s (LPart p row) next (may_have_part s.draft && not (is_none_yet row)) (row_is s.draft.nodes row) (nat_lt (length s.draft.parts) PARTITIONS) order
    (subst (λ x. part_fault row x ≡ None) same none) (row_range s.draft p row (number ∙ ap (λ x. length x.parts + 1) same) few) refl
    ∙ (λ i. Now (record { place = next; draft = sym (added ∙ ap (with_row row) same) i; ops = sym same_ops i }))

-- only memory may be wanting for the open transaction
pub tx_memory : (s : State) (d : Scene) (ops : List Op) (f : SceneFault) → d ≡ s.draft → ops ≡ s.ops → IsReached s → section_follows AfterSession s.place ≡ Some AfterSession →
    ¬ (length ops ≡ 0) → IsRefused (tx_fault ops d) f → f ≡ Memory
tx_memory s d ops f same same_ops r order some e =
    by_place s.place (stands s r).at_place order (subst (λ x. IsRefused (tx_fault x s.draft) f) same_ops (subst (λ x. IsRefused (tx_fault ops x) f) same e))
  where
    h : Kept scene_limits s.draft s.ops
    h = (stands s r).kept

    length_same : length ops ≡ length s.ops
    length_same = ap length same_ops

    by_rule : tx_fault s.ops s.draft ≡ None → IsRefused (tx_fault s.ops s.draft) f → f ≡ Memory
    by_rule none (inl x) = absurd (none-some _ (sym none ∙ x))
    by_rule none (inr x) = x.1

    by_place : (place : Place) → At scene_limits place s.draft s.ops → section_follows AfterSession place ≡ Some AfterSession → IsRefused (tx_fault s.ops s.draft) f → f ≡ Memory
    by_place AfterPart a o x = absurd (some (length_same ∙ ap length a.2))
    by_place AfterSession a o x = absurd (some (length_same ∙ ap length a.1))
    by_place AfterOp a o x = by_rule (tx_none s.draft s.ops a.0 a.1 a.2 h) x
    by_place _ a o x = absurd (none-some _ o)

-- a session, at the draft with the open transaction
session_range : (s : State) (n : NodeId) (next : Place) → IsReached s → section_follows AfterSession s.place ≡ Some next → Settled scene_limits s.place s.draft s.ops
session_range s n next r order = settled_section scene_limits s.place s.draft s.ops AfterSession next order (stands s r).kept (stands s r).at_place

session_room : (s : State) (n : NodeId) → Settled scene_limits s.place s.draft s.ops →
    has_room scene_limits s (LSession n) ≡ (nat_lt (length (settled s).sessions) SESSIONS && nat_lt (sessions_at n (settled s).sessions) NODE_SESSIONS)
session_room s n k = λ i. nat_lt (sym k.sessions i) SESSIONS && nat_lt (sym (k.at_node n) i) NODE_SESSIONS

pub session_taken : (s : State) (d e : Scene) (ops : List Op) (n : NodeId) (next : Place) → d ≡ settled s → ops ≡ [] → e ≡ with_session n d → IsReached s →
    follows s.draft.version s.place (LSession n) ≡ Some next → session_fault n d ≡ None → take_line scene_limits s (LSession n) ≡ Now (record { place = next; draft = e; ops = ops })
session_taken s d e ops n next same none_left added r order none =
    let k = session_range s n next r order in
    judged_ok s (LSession n) next (may_have_session (settled s)) (is_up_to (settled s).nodes n.0) (nat_lt (length (settled s).sessions) SESSIONS && nat_lt (sessions_at n (settled s).sessions) NODE_SESSIONS) order
    (subst (λ x. session_fault n x ≡ None) same none) (ap (λ m. is_up_to m n.0) (sym k.nodes)) (session_room s n k)
    ∙ (λ i. Now (record { place = next; draft = sym (added ∙ ap (with_session n) same) i; ops = sym none_left i }))

pub session_refused : (s : State) (d : Scene) (n : NodeId) (next : Place) (f : SceneFault) → d ≡ settled s → IsReached s →
    follows s.draft.version s.place (LSession n) ≡ Some next → IsRefused (session_fault n d) f → IsRefusedFor s (LSession n) f
session_refused s d n next f same r order e =
    let k = session_range s n next r order in
    judged_refused s (LSession n) next (may_have_session (settled s)) (is_up_to (settled s).nodes n.0) (nat_lt (length (settled s).sessions) SESSIONS && nat_lt (sessions_at n (settled s).sessions) NODE_SESSIONS) f order
    (session_may (settled s) k.body) (subst (λ x. IsRefused (session_fault n x) f) same e) (ap (λ m. is_up_to m n.0) (sym k.nodes)) (session_room s n k)

-- the line of the version may not stand after another
no_version : (s : State) (v : ℕ) (next : Place) → IsReached s → follows s.draft.version s.place (LVersion v) ≡ Some next → 1 ≤ s.draft.version → ⊥
no_version s v next r order some = by_place s.place (stands s r).at_place order
  where
    by_place : (place : Place) → At scene_limits place s.draft s.ops → version_follows place ≡ Some next → ⊥
    by_place AtStart a o = omega (arith, ap (λ x. x.version) a.0)
    by_place _ a o = absurd (none-some _ o)

pub never_version : (s : State) (l : Line) (v : ℕ) (next : Place) → IsReached s → follows s.draft.version s.place l ≡ Some next → 1 ≤ s.draft.version → l ≡ LVersion v → ⊥
never_version s l v next r order some e = no_version s v next r (subst (λ x. follows s.draft.version s.place x ≡ Some next) e order) some

-- what a line that was read comes to
pub text_refused : (text : List ℕ) (s : State) (read : ReadLine) (l : Line) (f : SceneFault) → IsReadAs text read → read.line ≡ Some l → IsRefusedFor s l f → IsBadText text s f
text_refused text s read l f k is refused =
    by_fault f refused
  where
    same : l ≡ k.line
    same = (subst (λ o. SomeIff o (Fits k.line) k.line) is k.line_is).1

    by_why : (why : Why) → take_line scene_limits s l ≡ Refused why → RefusesText text s why
    by_why why e = record { line = k.line; form = k.form; text_is = k.text_is; refused = ap (take_line scene_limits s) (sym same) ∙ e }

    by_fault : (f : SceneFault) → IsRefusedFor s l f → IsBadText text s f
    by_fault Form e = inr (by_why No e)
    by_fault Range e = by_why Out e
    by_fault Count e = by_why Many e
    by_fault Memory e = tt

-- the same of what a call gives
pub texts_refused : (text : List ℕ) (s t : State) (read : ReadLine) (l : Line) (r : Result (Unit {0}) SceneFault) → t ≡ s → IsReadAs text read → read.line ≡ Some l →
    IfErr r (λ f. IsRefusedFor t l f) → IfErr r (λ f. IsBadText text s f)
texts_refused text s t read l (Ok x) same k is e = tt
texts_refused text s t read l (Err f) same k is e = text_refused text s read l f k is (subst (λ x. IsRefusedFor x l f) same e)

-- a line that may not stand here
pub text_misplaced : (text : List ℕ) (s : State) (read : ReadLine) → IsReadAs text read → ((l : Line) → word_of l ≡ read.word → follows s.draft.version s.place l ≡ None) →
    IsBadText text s Form
text_misplaced text s read k order =
    inr (record { line = k.line; form = k.form; text_is = k.text_is; refused = out_of_place scene_limits s k.line (order k.line (sym k.word_is)) })

-- where the line may stand by its word
pub order_is : (s : State) (v : ℕ) (place : Place) (r o : Option Place) (l : Line) → v ≡ s.draft.version → place ≡ s.place → r ≡ follows v place l → r ≡ o →
    follows s.draft.version s.place l ≡ o
order_is s v place r o l same_v same_place e f = (λ i. follows (sym same_v i) (sym same_place i) l) ∙ (sym e ∙ f)

-- a line that doesn't fit
pub text_unfit : (text : List ℕ) (s : State) (read : ReadLine) (next : Place) → IsReached s → IsReadAs text read → read.line ≡ None → ((l : Line) → word_of l ≡ read.word → follows s.draft.version s.place l ≡ Some next) →
    RefusesText text s Out
text_unfit text s read next r k is order =
    record {
      line = k.line;
      form = k.form;
      text_is = k.text_is;
      refused = unfit r.text r.count s k.line next r.reached (subst (λ o. SomeIff o (Fits k.line) k.line) is k.line_is) (order k.line (sym k.word_is));
    }

-- the lines with one more that is taken
pub reached_next : (s t : State) (l : Line) → IsReached s → IsForm l → take_line scene_limits s l ≡ Now t → IsReached t
reached_next s t l r form e =
    let lines : List Line = r.reached.lines ++ l ∷ [] in
    let forms : Each IsForm lines = each_append IsForm r.reached.lines (l ∷ []) (each_from IsForm r.reached.lines r.reached.forms) (form, tt) in
    record {
      text = flat_map ended (map line_text lines);
      count = length lines;
      reached = record {
        lines = lines;
        forms = λ i x p. each_at IsForm lines i x forms p;
        number = refl;
        spelled = refl;
        lead = taken_on scene_limits r.reached.lines (l ∷ []) at_start s r.reached.lead ∙ ap (goes_on (λ x. take_lines scene_limits x [])) e;
      };
    }

-- the same of what a call gives
pub reached_if : (s t : State) (l : Line) (r : Result (Unit {0}) SceneFault) → IsReached s → IsForm l → OnOk r (take_line scene_limits s l ≡ Now t) → OnOk r (IsReached t)
reached_if s t l (Ok x) reached form e = reached_next s t l reached form e
reached_if s t l (Err f) reached form e = tt
