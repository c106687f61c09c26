-- The lines of the head are taken.
use Rattle.std.proofs.Common.{List, Some, [], ap, append-nil, arith, length, length-append, refl, subst, sym, ℕ, ◌++◌, ◌+◌, ◌<◌, ◌∙◌, ◌∷◌, ◌≡◌, false}
use Rattle.std.proofs.lemmas.Option.{none-some, same_Some}
use Rattle.std.specs.Prelude.{flat_map}
use Rattle.scene_text.proofs.Taking.StatesKept.{At, Extends, IsVersion, Kept, Stands, Step}
use Rattle.scene_text.specs.LineOrder.{Place, nodes_follow, part_follows, version_follows}
use Rattle.scene_text.specs.LineOrder.Place.{AfterNodes, AfterPart, AfterVersion, AtStart}
use Rattle.scene_text.specs.SceneLines.{body_lines, one_session_lines, row_lines}
use Rattle.scene_text.specs.Taking.{Limits, State}
use Rattle.scene_text.specs.declared.lines.Line.TheVariants.{Nodes as LNodes, Part as LPart, Version as LVersion}
use Rattle.str_base.specs.declared.names.NodeId.{NodeId}
use Rattle.str_base.specs.declared.names.PartId.{PartId}
use Rattle.str_scene.proofs.Each.{each_push, each_weaker}
use Rattle.str_scene.specs.Drafts.{empty_draft, with_nodes, with_row}
use Rattle.str_scene.specs.SceneLimits.{Exists, IsKey, IsRow}
use Rattle.str_scene.specs.Scenes.{KeyTable, Scene}
use Rattle.str_scene.specs.declared.names.Op.{Op}

-- a state of these parts
abbrev pub mk : Place → Scene → List Op → State
mk place d ops = record { place = place; draft = d; ops = ops }

-- a table has what it has
pub extends_self : (table : KeyTable) → Extends table table
extends_self table = record { names = λ i key e. e; texts = λ i text e. e }

-- before the first partition all limits are kept
pub kept_empty : (limits : Limits) (v n : ℕ) → Kept limits (with_nodes n (empty_draft v)) []
kept_empty limits v n = record {
  table = record {
    names = tt;
    distinct_names = λ i j k e f. absurd (cc);
    texts = tt;
    distinct_texts = λ i j k e f. absurd (cc);
    key_order = refl;
    text_order = refl;
  };
  rows = tt;
  sessions = tt;
  open_ops = tt;
  few_ops = omega arith;
  events = tt;
  counts = record { few_parts = omega arith; few_sessions = omega arith; at_one_node = λ n. omega arith; few_txs = omega arith; few_events = omega arith };
}

-- the version
pub step_version : (limits : Limits) (place : Place) (d : Scene) (ops : List Op) (v : ℕ) (next : Place) → IsVersion v → version_follows place ≡ Some next →
    Kept limits d ops → At limits place d ops → Step limits (mk place d ops) (LVersion v) (mk next (empty_draft v) ops)
step_version limits AtStart d [] v next form e k a =
    subst (λ p. Step limits (mk AtStart d []) (LVersion v) (mk p (empty_draft v) [])) (same_Some _ _ e)
    (record {
      stands = record { kept = kept_empty limits v 0; at_place = (form, refl, refl) };
      larger = subst (λ x. Extends (empty_draft v).keys x.keys) (sym a.0) (extends_self (empty_draft 0).keys);
      text = λ table x. refl;
    })
step_version limits AtStart d (o ∷ ops) v next form e k a = let none : (o ∷ ops) ≡ [] = a.1 in absurd (cc)
step_version limits _ d ops v next form e k a = absurd (none-some _ e)

-- the nodes
pub step_nodes : (limits : Limits) (place : Place) (d : Scene) (ops : List Op) (n : ℕ) (next : Place) → Exists n 8 → nodes_follow place ≡ Some next →
    Kept limits d ops → At limits place d ops → Step limits (mk place d ops) (LNodes n) (mk next (with_nodes n d) ops)
step_nodes limits AfterVersion d [] n next range e k a =
    subst (λ p. Step limits (mk AfterVersion d []) (LNodes n) (mk p (with_nodes n d) [])) (same_Some _ _ e)
    (record {
      stands = record {
        kept = subst (λ x. Kept limits (with_nodes n x) []) (sym a.1) (kept_empty limits d.version n);
        at_place = (a.0, range, ap (λ x. with_nodes n x) a.1, refl);
      };
      larger = extends_self d.keys;
      text = λ table x. ap (λ y. LVersion d.version ∷ LNodes n ∷ (row_lines 1 y.parts ++ flat_map (one_session_lines table) y.sessions)) a.1;
    })
step_nodes limits AfterVersion d (o ∷ ops) n next range e k a = let none : (o ∷ ops) ≡ [] = a.2 in absurd (cc)
step_nodes limits _ d ops n next range e k a = absurd (none-some _ e)

-- one partition more keeps the limits
part_kept : (limits : Limits) (d : Scene) (ops : List Op) (row : List NodeId) → IsRow d.nodes row → length d.parts < limits.parts → Kept limits d ops →
    Kept limits (with_row row d) ops
part_kept limits d ops row range room k =
    let more = length-append d.parts (row ∷ []) in
    record {
      table = record {
        names = each_weaker (IsKey (length d.parts)) (IsKey (length (d.parts ++ row ∷ [])))
            (λ key h. record { name = h.name; part = (h.part.0, omega (arith, h.part.1, more)) }) d.keys.names k.table.names;
        distinct_names = k.table.distinct_names;
        texts = k.table.texts;
        distinct_texts = k.table.distinct_texts;
        key_order = k.table.key_order;
        text_order = k.table.text_order;
      };
      rows = each_push (IsRow d.nodes) d.parts row k.rows range;
      sessions = k.sessions;
      open_ops = k.open_ops;
      few_ops = k.few_ops;
      events = k.events;
      counts = record {
        few_parts = omega (arith, more);
        few_sessions = k.counts.few_sessions;
        at_one_node = k.counts.at_one_node;
        few_txs = k.counts.few_txs;
        few_events = k.counts.few_events;
      };
    }

-- the line of one partition more
row_lines-push : (p : ℕ) (rows : List (List NodeId)) (row : List NodeId) (q : PartId) → q.0 ≡ p + length rows → row_lines p (rows ++ row ∷ []) ≡ row_lines p rows ++ LPart q row ∷ []
row_lines-push p [] row q e = let same : p ≡ q.0 = omega (arith, e) in ap (λ n. LPart (record { 0 = n }) row ∷ []) same
row_lines-push p (r ∷ rows) row q e = ap (λ xs. LPart (record { 0 = p }) r ∷ xs) (row_lines-push (p + 1) rows row q (omega (arith, e)))

-- comes at the end where no session stands
part_text : (table : KeyTable) (d : Scene) (row : List NodeId) (p : PartId) → d.sessions ≡ [] → p.0 ≡ length d.parts + 1 →
    body_lines table (with_row row d) ≡ body_lines table d ++ LPart p row ∷ []
part_text table d row p none at_end =
    ap (λ ss. LVersion d.version ∷ LNodes d.nodes ∷ (row_lines 1 (d.parts ++ row ∷ []) ++ flat_map (one_session_lines table) ss)) none
    ∙ (ap (λ xs. LVersion d.version ∷ LNodes d.nodes ∷ xs) (append-nil (row_lines 1 (d.parts ++ row ∷ [])) ∙ row_lines-push 1 d.parts row p (omega (arith, at_end)))
    ∙ (ap (λ xs. LVersion d.version ∷ LNodes d.nodes ∷ (xs ++ LPart p row ∷ [])) (sym (append-nil (row_lines 1 d.parts)))
    ∙ ap (λ ss. (LVersion d.version ∷ LNodes d.nodes ∷ (row_lines 1 d.parts ++ flat_map (one_session_lines table) ss)) ++ LPart p row ∷ []) (sym none)))

-- one partition more
part_stands : (limits : Limits) (d : Scene) (row : List NodeId) → IsVersion d.version → Exists d.nodes 8 → d.sessions ≡ [] → d.schedule ≡ [] → d.drain ≡ false →
    IsRow d.nodes row → length d.parts < limits.parts → Kept limits d [] → Stands limits (mk AfterPart (with_row row d) [])
part_stands limits d row version nodes none no_entry no_drain range room k = record {
  kept = part_kept limits d [] row range room k;
  at_place = (
    record {
      head = record { version = version; nodes = nodes; parts = omega (arith, length-append d.parts (row ∷ [])) };
      no_entry = no_entry;
      no_drain = no_drain;
    },
    none,
    refl,
  );
}

-- a partition
pub step_part : (limits : Limits) (place : Place) (d : Scene) (ops : List Op) (p : PartId) (row : List NodeId) (next : Place) → p.0 ≡ length d.parts + 1 → IsRow d.nodes row →
    length d.parts < limits.parts → part_follows place ≡ Some next → Kept limits d ops → At limits place d ops →
    Step limits (mk place d ops) (LPart p row) (mk next (with_row row d) ops)
step_part limits AfterNodes d [] p row next at_end range room e k a =
    let none : d.sessions ≡ [] = ap (λ x. x.sessions) a.2 in
    subst (λ q. Step limits (mk AfterNodes d []) (LPart p row) (mk q (with_row row d) [])) (same_Some _ _ e)
    (record {
      stands = part_stands limits d row a.0 a.1 none (ap (λ x. x.schedule) a.2) (ap (λ x. x.drain) a.2) range room k;
      larger = extends_self d.keys;
      text = λ table x. part_text table d row p none at_end;
    })
step_part limits AfterNodes d (o ∷ ops) p row next at_end range room e k a = let none : (o ∷ ops) ≡ [] = a.3 in absurd (cc)
step_part limits AfterPart d [] p row next at_end range room e k a =
    subst (λ q. Step limits (mk AfterPart d []) (LPart p row) (mk q (with_row row d) [])) (same_Some _ _ e)
    (record {
      stands = part_stands limits d row a.0.head.version a.0.head.nodes a.1 a.0.no_entry a.0.no_drain range room k;
      larger = extends_self d.keys;
      text = λ table x. part_text table d row p a.1 at_end;
    })
step_part limits AfterPart d (o ∷ ops) p row next at_end range room e k a = let none : (o ∷ ops) ≡ [] = a.2 in absurd (cc)
step_part limits _ d ops p row next at_end range room e k a = absurd (none-some _ e)
