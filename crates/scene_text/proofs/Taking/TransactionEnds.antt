-- The open transaction becomes the last of the draft.
use Rattle.std.proofs.Common.{List, Some, [], ap, append-nil, append_assoc, arith, cond, length, length-append, refl, subst, sym, ℕ, ◌++◌, ◌+◌, ◌<◌, ◌∙◌, ◌∷◌, ◌≡◌, ◌≤◌}
use Rattle.str_scene.proofs.Filling.{add_tx_length}
use Rattle.std.proofs.lemmas.Grind.{flat_map-append}
use Rattle.std.proofs.lemmas.List.Sums.{sum_by-append}
use Rattle.std.proofs.lemmas.Option.{none-some}
use Rattle.std.specs.Prelude.{flat_map}
use Rattle.scene_text.proofs.Taking.StatesKept.{At, Bodied, GoodEvent, GoodScript, GoodSession, Kept, TableKept, count_at, lines_at, tx_count}
use Rattle.scene_text.specs.LineOrder.{Place, section_follows, tx_follows}
use Rattle.scene_text.specs.LineOrder.Place.{AfterOp, AfterPart, AfterSession}
use Rattle.scene_text.specs.SceneLines.{body_lines, one_session_lines, row_lines, script_lines}
use Rattle.scene_text.specs.Taking.{Limits, settle}
use Rattle.scene_text.specs.declared.lines.Line.TheVariants.{Nodes as LNodes, Session as LSession, Version as LVersion}
use Rattle.str_base.specs.Versions.{same_node}
use Rattle.str_base.specs.declared.names.NodeId.{NodeId}
use Rattle.str_scene.proofs.Each.{each_push}
use Rattle.str_scene.specs.Lists.{Each}
use Rattle.str_scene.specs.Drafts.{add_tx, with_tx}
use Rattle.str_scene.specs.SceneLimits.{all_ops}
use Rattle.str_scene.specs.Scenes.{KeyTable, Scene, Session}
use Rattle.str_scene.specs.declared.names.Op.{Op}

-- the operations of scripts in a row
abbrev pub script_ops : List (List Op) → List Op
script_ops txs = flat_map (λ ops. ops) txs

-- the operations of sessions in a row
abbrev pub session_ops : List Session → List Op
session_ops ss = flat_map (λ s. script_ops s.txs) ss

-- as many at each node
pub count_at-add_tx : (n : NodeId) (ops : List Op) (ss : List Session) → count_at n (add_tx ops ss) ≡ count_at n ss
count_at-add_tx n ops [] = refl
count_at-add_tx n ops (s ∷ []) = refl
count_at-add_tx n ops (s ∷ t ∷ ss) =
    let f : Session → ℕ = λ x. cond (same_node x.node n) 1 0 in
    omega (arith, sum_by-append f (s ∷ []) (add_tx ops (t ∷ ss)), sum_by-append f (s ∷ []) (t ∷ ss), count_at-add_tx n ops (t ∷ ss))

-- one transaction more
pub tx_count-add_tx : (ops : List Op) (ss : List Session) → 1 ≤ length ss → tx_count (add_tx ops ss) ≡ tx_count ss + 1
tx_count-add_tx ops [] some = absurd (omega arith)
tx_count-add_tx ops (s ∷ []) some = omega (arith, length-append s.txs (ops ∷ []))
tx_count-add_tx ops (s ∷ t ∷ ss) some =
    let f : Session → ℕ = λ x. length x.txs in
    omega (arith, sum_by-append f (s ∷ []) (add_tx ops (t ∷ ss)), sum_by-append f (s ∷ []) (t ∷ ss), tx_count-add_tx ops (t ∷ ss) (omega arith))

-- one list more at the end
flat_map-last : {X Y : Type 0} (f : X → List Y) (xs : List X) (x : X) → flat_map f (xs ++ x ∷ []) ++ [] ≡ (flat_map f xs ++ []) ++ f x
flat_map-last f xs x =
    append-nil (flat_map f (xs ++ x ∷ [])) ∙ (flat_map-append f xs (x ∷ [])
    ∙ (ap (λ ys. flat_map f xs ++ ys) (append-nil (f x)) ∙ ap (λ ys. ys ++ f x) (sym (append-nil (flat_map f xs)))))

-- the operations come last
pub session_ops-add_tx : (ops : List Op) (ss : List Session) → 1 ≤ length ss → session_ops (add_tx ops ss) ≡ session_ops ss ++ ops
session_ops-add_tx ops [] some = absurd (omega arith)
session_ops-add_tx ops (s ∷ []) some = flat_map-last (λ xs. xs) s.txs ops
session_ops-add_tx ops (s ∷ t ∷ ss) some =
    ap (λ xs. script_ops s.txs ++ xs) (session_ops-add_tx ops (t ∷ ss) (omega arith)) ∙ sym (append_assoc (script_ops s.txs) (session_ops (t ∷ ss)) ops)

-- the lines of the transaction come last
pub lines-add_tx : (table : KeyTable) (ops : List Op) (ss : List Session) → 1 ≤ length ss →
    flat_map (one_session_lines table) (add_tx ops ss) ≡ flat_map (one_session_lines table) ss ++ script_lines table ops
lines-add_tx table ops [] some = absurd (omega arith)
lines-add_tx table ops (s ∷ []) some = ap (λ xs. LSession s.node ∷ xs) (flat_map-last (script_lines table) s.txs ops)
lines-add_tx table ops (s ∷ t ∷ ss) some =
    ap (λ xs. one_session_lines table s ++ xs) (lines-add_tx table ops (t ∷ ss) (omega arith))
    ∙ sym (append_assoc (one_session_lines table s) (flat_map (one_session_lines table) (t ∷ ss)) (script_lines table ops))

-- the sessions stay good
pub good-add_tx : (limits : Limits) (version nodes : ℕ) (table : KeyTable) (ops : List Op) (ss : List Session) → GoodScript limits version table ops →
    Each (GoodSession limits version nodes table) ss → Each (GoodSession limits version nodes table) (add_tx ops ss)
good-add_tx limits version nodes table ops [] g h = tt
good-add_tx limits version nodes table ops (s ∷ []) g h = ((h.0.0, each_push (GoodScript limits version table) s.txs ops h.0.1 g), tt)
good-add_tx limits version nodes table ops (s ∷ t ∷ ss) g h = (h.0, good-add_tx limits version nodes table ops (t ∷ ss) g h.1)

-- the draft with the transaction keeps the limits
with_tx_kept : (limits : Limits) (d : Scene) (ops : List Op) → 1 ≤ length ops → 1 ≤ length d.sessions → tx_count d.sessions < limits.txs → Kept limits d ops →
    Kept limits (with_tx ops d) []
with_tx_kept limits d ops some_ops some room k = record {
  table = subst (λ xs. TableKept (length d.parts) d.keys xs) (sym (append-nil (all_ops (with_tx ops d)) ∙ session_ops-add_tx ops d.sessions some)) k.table;
  rows = k.rows;
  sessions = good-add_tx limits d.version d.nodes d.keys ops d.sessions (some_ops, k.few_ops, k.open_ops) k.sessions;
  open_ops = tt;
  few_ops = omega arith;
  events = subst (λ n. Each (GoodEvent n) d.schedule) (sym (add_tx_length ops d.sessions)) k.events;
  counts = record {
    few_parts = k.counts.few_parts;
    few_sessions = omega (arith, add_tx_length ops d.sessions, k.counts.few_sessions);
    at_one_node = λ n. omega (arith, count_at-add_tx n ops d.sessions, k.counts.at_one_node n);
    few_txs = omega (arith, tx_count-add_tx ops d.sessions some);
    few_events = k.counts.few_events;
  };
}

-- the lines up to the sessions' end, with the transaction
body-add_tx : (table : KeyTable) (ops : List Op) (d : Scene) → 1 ≤ length d.sessions → body_lines table (with_tx ops d) ≡ body_lines table d ++ script_lines table ops
body-add_tx table ops d some =
    ap (λ xs. LVersion d.version ∷ LNodes d.nodes ∷ (row_lines 1 d.parts ++ xs)) (lines-add_tx table ops d.sessions some)
    ∙ ap (λ xs. LVersion d.version ∷ LNodes d.nodes ∷ xs) (sym (append_assoc (row_lines 1 d.parts) (flat_map (one_session_lines table) d.sessions) (script_lines table ops)))

-- what the draft with the open transaction is
pub record Settled (limits : Limits) (place : Place) (d : Scene) (ops : List Op) : Type 0 where
  pub kept : Kept limits (settle ops d) []
  pub body : Bodied (settle ops d)
  pub keys : (settle ops d).keys ≡ d.keys
  pub nodes : (settle ops d).nodes ≡ d.nodes
  pub sessions : length (settle ops d).sessions ≡ length d.sessions
  pub at_node : (n : NodeId) → count_at n (settle ops d).sessions ≡ count_at n d.sessions
  pub text : (table : KeyTable) → body_lines table (settle ops d) ≡ lines_at table place d ops

-- where a session or the schedule may follow
pub settled_section : (limits : Limits) (place : Place) (d : Scene) (ops : List Op) (m next : Place) → section_follows m place ≡ Some next → Kept limits d ops →
    At limits place d ops → Settled limits place d ops
settled_section limits AfterPart d [] m next e k a =
    record { kept = k; body = a.0; keys = refl; nodes = refl; sessions = refl; at_node = λ n. refl; text = λ table. refl }
settled_section limits AfterPart d (o ∷ ops) m next e k a = let none : (o ∷ ops) ≡ [] = a.2 in absurd (cc)
settled_section limits AfterSession d [] m next e k a =
    record { kept = k; body = a.0.body; keys = refl; nodes = refl; sessions = refl; at_node = λ n. refl; text = λ table. refl }
settled_section limits AfterSession d (o ∷ ops) m next e k a = let none : (o ∷ ops) ≡ [] = a.1 in absurd (cc)
settled_section limits AfterOp d [] m next e k a = absurd (omega (arith, a.2))
settled_section limits AfterOp d (o ∷ ops) m next e k a = record {
  kept = with_tx_kept limits d (o ∷ ops) (omega arith) a.0.some a.1 k;
  body = record { head = record { version = a.0.body.head.version; nodes = a.0.body.head.nodes; parts = a.0.body.head.parts }; no_entry = a.0.body.no_entry; no_drain = a.0.body.no_drain };
  keys = refl;
  nodes = refl;
  sessions = add_tx_length (o ∷ ops) d.sessions;
  at_node = λ n. count_at-add_tx n (o ∷ ops) d.sessions;
  text = λ table. body-add_tx table (o ∷ ops) d a.0.some;
}
settled_section limits _ d ops m next e k a = absurd (none-some _ e)

-- a transaction may follow only where a session may
pub tx_is_section : (place next : Place) → tx_follows place ≡ Some next → section_follows next place ≡ Some next
tx_is_section AfterSession next e = refl
tx_is_section AfterOp next e = refl
tx_is_section _ next e = absurd (none-some _ e)
