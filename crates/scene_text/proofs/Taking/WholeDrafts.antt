-- A scene within limits, as a draft that is at its end.
use Rattle.std.proofs.Common.{List, [], append-nil, arith, length, length-append, subst, sym, ℕ, ◌++◌, ◌∷◌, ◌≤◌}
use Rattle.std.proofs.lemmas.List.Sums.{count_by-le-length}
use Rattle.scene_text.proofs.Taking.StatesKept.{GoodEvent, GoodScript, GoodSession, Headed, Kept, TableKept, tx_count}
use Rattle.scene_text.proofs.Taking.TransactionEnds.{script_ops, session_ops}
use Rattle.scene_text.specs.FirstBad.{IsRanged}
use Rattle.scene_text.specs.Taking.{Limits, scene_limits}
use Rattle.str_base.specs.Versions.{same_node}
use Rattle.str_scene.proofs.Each.{each_at, each_from}
use Rattle.str_scene.specs.Lists.{Each}
use Rattle.str_scene.specs.SceneLimits.{Exists, IsByteText, IsEvent, IsKey, IsOp, IsRow, IsScene, IsTable, all_ops}
use Rattle.str_scene.specs.Scenes.{KeyTable, Scene, Session}
use Rattle.str_scene.specs.declared.names.Event.{Event}
use Rattle.str_scene.specs.declared.names.Event.TheVariants.{Client, Deliver}
use Rattle.str_scene.specs.declared.names.Op.{Op}

-- a scene within limits
pub record Whole (limits : Limits) (scene : Scene) : Type 0 where
  pub head : Headed scene
  pub kept : Kept limits scene []

-- the table of a scene
table_is : (scene : Scene) → TableKept (length scene.parts) scene.keys (all_ops scene ++ []) → IsTable scene
table_is scene t =
    let u : TableKept (length scene.parts) scene.keys (all_ops scene) = subst (λ xs. TableKept (length scene.parts) scene.keys xs) (append-nil (all_ops scene)) t in
    record {
      keys = λ i key e. each_at (IsKey (length scene.parts)) scene.keys.names i key u.names e;
      distinct_keys = u.distinct_names;
      texts = λ i text e. each_at IsByteText scene.keys.texts i text u.texts e;
      distinct_texts = u.distinct_texts;
      key_order = u.key_order;
      text_order = u.text_order;
    }

is_table : (scene : Scene) → IsTable scene → TableKept (length scene.parts) scene.keys (all_ops scene ++ [])
is_table scene t =
    subst (λ xs. TableKept (length scene.parts) scene.keys xs) (sym (append-nil (all_ops scene)))
    (record {
      names = each_from (IsKey (length scene.parts)) scene.keys.names t.keys;
      distinct_names = t.distinct_keys;
      texts = each_from IsByteText scene.keys.texts t.texts;
      distinct_texts = t.distinct_texts;
      key_order = t.key_order;
      text_order = t.text_order;
    })

-- an entry of a scene
event_is : (scene : Scene) (e : Event) → GoodEvent (length scene.sessions) e → IsEvent scene e
event_is scene (Client s t) h = h
event_is scene (Deliver i) h = h

is_event : (scene : Scene) (e : Event) → IsEvent scene e → GoodEvent (length scene.sessions) e
is_event scene (Client s t) h = h
is_event scene (Deliver i) h = h

-- all its numbers are in range
pub whole_ranged : (limits : Limits) (scene : Scene) → Whole limits scene → IsRanged scene
whole_ranged limits scene w =
    let good = GoodScript limits scene.version scene.keys in
    record {
      version = w.head.version;
      nodes = w.head.nodes;
      parts = w.head.parts;
      rows = λ p row e. each_at (IsRow scene.nodes) scene.parts p row w.kept.rows e;
      table = table_is scene w.kept.table;
      sessions = λ i s e.
          (let h : GoodSession limits scene.version scene.nodes scene.keys s = each_at (GoodSession limits scene.version scene.nodes scene.keys) scene.sessions i s w.kept.sessions e in
          record {
            node = h.0;
            some = λ j ops f. (each_at good s.txs j ops h.1 f).0;
            ops = λ j k ops op f g. each_at (IsOp scene.version scene.keys) ops k op (each_at good s.txs j ops h.1 f).2 g;
          });
      events = λ i e f. event_is scene e (each_at (GoodEvent (length scene.sessions)) scene.schedule i e w.kept.events f);
    }

-- it is a scene, where the limits are those of scenes
pub whole_scene : (scene : Scene) → Whole scene_limits scene → IsScene scene
whole_scene scene w =
    let good = GoodScript scene_limits scene.version scene.keys in
    record {
      version = w.head.version;
      nodes = w.head.nodes;
      parts = (w.head.parts, w.kept.counts.few_parts);
      rows = λ p row e. each_at (IsRow scene.nodes) scene.parts p row w.kept.rows e;
      table = table_is scene w.kept.table;
      few_sessions = w.kept.counts.few_sessions;
      sessions = λ i s e.
          (let h : GoodSession scene_limits scene.version scene.nodes scene.keys s = each_at (GoodSession scene_limits scene.version scene.nodes scene.keys) scene.sessions i s w.kept.sessions e in
          record {
            node = h.0;
            scripts = λ j ops f.
                (let g = each_at good s.txs j ops h.1 f in
                record { some = g.0; few = g.1; ops = λ k op e2. each_at (IsOp scene.version scene.keys) ops k op g.2 e2 });
          });
      at_one_node = w.kept.counts.at_one_node;
      few_transactions = w.kept.counts.few_txs;
      few_events = w.kept.counts.few_events;
      events = λ i e f. event_is scene e (each_at (GoodEvent (length scene.sessions)) scene.schedule i e w.kept.events f);
    }

-- each scene is one within its limits
pub scene_whole : (scene : Scene) → IsScene scene → Whole scene_limits scene
scene_whole scene s = record {
  head = record { version = s.version; nodes = s.nodes; parts = s.parts.0 };
  kept = record {
    table = is_table scene s.table;
    rows = each_from (IsRow scene.nodes) scene.parts s.rows;
    sessions = each_from (GoodSession scene_limits scene.version scene.nodes scene.keys) scene.sessions
        (λ i x e.
        let h = s.sessions i x e in (
          h.node,
          each_from (GoodScript scene_limits scene.version scene.keys) x.txs (λ j ops f.
              let g = h.scripts j ops f in
              (g.some, g.few, each_from (IsOp scene.version scene.keys) ops g.ops)),
        ));
    open_ops = tt;
    few_ops = omega arith;
    events = each_from (GoodEvent (length scene.sessions)) scene.schedule (λ i e f. is_event scene e (s.events i e f));
    counts = record {
      few_parts = s.parts.1;
      few_sessions = s.few_sessions;
      at_one_node = s.at_one_node;
      few_txs = s.few_transactions;
      few_events = s.few_events;
    };
  };
}

-- limits within which a scene is
abbrev pub limits_of : Scene → Limits
limits_of scene = record {
  parts = length scene.parts;
  sessions = length scene.sessions;
  at_node = length scene.sessions;
  txs = tx_count scene.sessions;
  ops = length (all_ops scene);
  entries = length scene.schedule;
}

-- scripts are no longer than all of them together
scripts_short : (limits : Limits) (version : ℕ) (table : KeyTable) (txs : List (List Op)) → length (script_ops txs) ≤ limits.ops →
    Each (λ ops. (1 ≤ length ops) × Each (IsOp version table) ops) txs → Each (GoodScript limits version table) txs
scripts_short limits version table [] few h = tt
scripts_short limits version table (ops ∷ txs) few h =
    let more = length-append ops (script_ops txs) in
    ((h.0.0, omega (arith, few, more), h.0.1), scripts_short limits version table txs (omega (arith, few, more)) h.1)

sessions_short : (limits : Limits) (version nodes : ℕ) (table : KeyTable) (ss : List Session) → length (session_ops ss) ≤ limits.ops →
    Each (λ s. Exists s.node.0 nodes × Each (λ ops. (1 ≤ length ops) × Each (IsOp version table) ops) s.txs) ss → Each (GoodSession limits version nodes table) ss
sessions_short limits version nodes table [] few h = tt
sessions_short limits version nodes table (s ∷ ss) few h =
    let more = length-append (script_ops s.txs) (session_ops ss) in
    ((h.0.0, scripts_short limits version table s.txs (omega (arith, few, more)) h.0.1), sessions_short limits version nodes table ss (omega (arith, few, more)) h.1)

-- each scene but for limits is one within some
pub ranged_whole : (scene : Scene) → IsRanged scene → Whole (limits_of scene) scene
ranged_whole scene s = record {
  head = record { version = s.version; nodes = s.nodes; parts = s.parts };
  kept = record {
    table = is_table scene s.table;
    rows = each_from (IsRow scene.nodes) scene.parts s.rows;
    sessions = sessions_short (limits_of scene) scene.version scene.nodes scene.keys scene.sessions (omega arith)
        (each_from (λ x. Exists x.node.0 scene.nodes × Each (λ ops. (1 ≤ length ops) × Each (IsOp scene.version scene.keys) ops) x.txs) scene.sessions
        (λ i x e.
        let h = s.sessions i x e in (
          h.node,
          each_from (λ ops. (1 ≤ length ops) × Each (IsOp scene.version scene.keys) ops) x.txs (λ j ops f.
              (h.some j ops f, each_from (IsOp scene.version scene.keys) ops (λ k op g. h.ops j k ops op f g))),
        )));
    open_ops = tt;
    few_ops = omega arith;
    events = each_from (GoodEvent (length scene.sessions)) scene.schedule (λ i e f. is_event scene e (s.events i e f));
    counts = record {
      few_parts = omega arith;
      few_sessions = omega arith;
      at_one_node = λ n. count_by-le-length (λ x. same_node x.node n) scene.sessions;
      few_txs = omega arith;
      few_events = omega arith;
    };
  };
}
