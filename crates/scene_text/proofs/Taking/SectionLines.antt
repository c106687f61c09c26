-- The lines that begin a session, a transaction or the schedule are taken.
use Rattle.std.proofs.Common.{Bool, List, Some, [], ap, append-nil, append_assoc, arith, cond, false, length, length-append, map, refl, subst, sym, true, ℕ, ◌++◌, ◌<◌, ◌∙◌, ◌∷◌, ◌≡◌, ◌≤◌}
use Rattle.std.proofs.lemmas.Bool.Decides.{Decides-eqb}
use Rattle.std.proofs.lemmas.Grind.{flat_map-append}
use Rattle.std.proofs.lemmas.List.Sums.{sum_by-append}
use Rattle.std.proofs.lemmas.Option.{none-some, same_Some}
use Rattle.std.specs.Prelude.{flat_map}
use Rattle.scene_text.proofs.Taking.HeadLines.{extends_self, mk}
use Rattle.scene_text.proofs.Taking.StatesKept.{At, Extends, GoodEvent, GoodSession, Kept, Step, TableKept, count_at, tx_count}
use Rattle.scene_text.proofs.Taking.TransactionEnds.{settled_section, tx_is_section}
use Rattle.scene_text.specs.LineOrder.{Place, section_follows, tx_follows}
use Rattle.scene_text.specs.LineOrder.Place.{AfterOp, AfterPart, AfterSession, AfterTx, InSchedule}
use Rattle.scene_text.specs.SceneLines.{body_lines, entry_line, one_session_lines, row_lines}
use Rattle.scene_text.specs.Taking.{Limits, closed, settle}
use Rattle.scene_text.specs.declared.lines.Line.TheVariants.{Nodes as LNodes, Schedule as LSchedule, Session as LSession, Tx as LTx, Version as LVersion}
use Rattle.str_base.specs.Versions.{same_node}
use Rattle.str_base.specs.declared.names.NodeId.{NodeId}
use Rattle.str_scene.proofs.Each.{each_push}
use Rattle.str_scene.specs.Lists.{Each}
use Rattle.str_scene.specs.Drafts.{with_session}
use Rattle.str_scene.specs.SceneLimits.{Exists, all_ops}
use Rattle.str_scene.specs.Scenes.{KeyTable, Scene, Session}
use Rattle.str_scene.specs.declared.names.Op.{Op}

-- which place a section leads to
section_next : (m place next : Place) → section_follows m place ≡ Some next → m ≡ next
section_next m AfterPart next e = same_Some _ _ e
section_next m AfterSession next e = same_Some _ _ e
section_next m AfterOp next e = same_Some _ _ e
section_next m _ next e = absurd (none-some _ e)

-- and a transaction
tx_next : (place next : Place) → tx_follows place ≡ Some next → AfterTx ≡ next
tx_next AfterSession next e = same_Some _ _ e
tx_next AfterOp next e = same_Some _ _ e
tx_next _ next e = absurd (none-some _ e)

-- a session without transactions
abbrev pub new_session : NodeId → Session
new_session n = record { node = n; txs = [] }

-- one session more at a node
count_more : (limits : Limits) (n m : NodeId) (ss : List Session) (same : Bool) → same_node n m ≡ same → count_at n ss < limits.at_node → count_at m ss ≤ limits.at_node →
    count_at m (ss ++ new_session n ∷ []) ≤ limits.at_node
count_more limits n m ss true e room few =
    let one : n.0 ≡ m.0 = (Decides-eqb n.0 m.0).0 e in
    let node : n ≡ m = ap (λ k. record { 0 = k }) one in
    let room_m : count_at m ss < limits.at_node = subst (λ k. count_at k ss < limits.at_node) node room in
    let more = sum_by-append (λ x. cond (same_node x.node m) 1 0) ss (new_session n ∷ []) in
    let this : ◌≡◌ {A = ℕ} (cond (same_node n m) 1 0) 1 = ap (λ b. cond b 1 0) e in
    omega (arith, more, this)
count_more limits n m ss false e room few =
    let more = sum_by-append (λ x. cond (same_node x.node m) 1 0) ss (new_session n ∷ []) in
    let this : ◌≡◌ {A = ℕ} (cond (same_node n m) 1 0) 0 = ap (λ b. cond b 1 0) e in
    omega (arith, more, this)

-- a session more keeps the limits
session_kept : (limits : Limits) (d : Scene) (n : NodeId) → Kept limits d [] → d.schedule ≡ [] → Exists n.0 d.nodes → length d.sessions < limits.sessions →
    count_at n d.sessions < limits.at_node → Kept limits (with_session n d) []
session_kept limits d n k no_entry range room room_at =
    let more = length-append d.sessions (new_session n ∷ []) in
    record {
      table = subst (λ xs. TableKept (length d.parts) d.keys (xs ++ []))
          (sym (flat_map-append (λ s. flat_map (λ ops. ops) s.txs) d.sessions (new_session n ∷ []) ∙ append-nil (all_ops d))) k.table;
      rows = k.rows;
      sessions = each_push (GoodSession limits d.version d.nodes d.keys) d.sessions (new_session n) k.sessions (range, tt);
      open_ops = tt;
      few_ops = omega arith;
      events = subst (λ es. Each (GoodEvent (length (d.sessions ++ new_session n ∷ []))) es) (sym no_entry) tt;
      counts = record {
        few_parts = k.counts.few_parts;
        few_sessions = omega (arith, more);
        at_one_node = λ m. count_more limits n m d.sessions (same_node n m) refl room_at (k.counts.at_one_node m);
        few_txs = omega (arith, sum_by-append (λ x. length x.txs) d.sessions (new_session n ∷ []), k.counts.few_txs);
        few_events = k.counts.few_events;
      };
    }

-- its line comes at the end
session_text : (table : KeyTable) (d : Scene) (n : NodeId) → body_lines table (with_session n d) ≡ body_lines table d ++ LSession n ∷ []
session_text table d n =
    ap (λ xs. LVersion d.version ∷ LNodes d.nodes ∷ (row_lines 1 d.parts ++ xs)) (flat_map-append (one_session_lines table) d.sessions (new_session n ∷ []))
    ∙ ap (λ xs. LVersion d.version ∷ LNodes d.nodes ∷ xs) (sym (append_assoc (row_lines 1 d.parts) (flat_map (one_session_lines table) d.sessions) (LSession n ∷ [])))

-- the larger table is the same
same_table : (large small : KeyTable) → large ≡ small → Extends large small
same_table large small e = subst (λ x. Extends large x) e (extends_self large)

-- a session
pub step_session : (limits : Limits) (place : Place) (d : Scene) (ops : List Op) (n : NodeId) (next : Place) → Exists n.0 d.nodes → length d.sessions < limits.sessions →
    count_at n d.sessions < limits.at_node → section_follows AfterSession place ≡ Some next → Kept limits d ops → At limits place d ops →
    Step limits (mk place d ops) (LSession n) (closed next (with_session n (settle ops d)))
step_session limits place d ops n next range room room_at e k a =
    let s = settled_section limits place d ops AfterSession next e k a in
    subst (λ p. Step limits (mk place d ops) (LSession n) (closed p (with_session n (settle ops d)))) (section_next AfterSession place next e)
    (record {
      stands = record {
        kept =
            session_kept limits (settle ops d) n s.kept s.body.no_entry (subst (λ m. Exists n.0 m) (sym s.nodes) range) (omega (arith, room, s.sessions))
            (omega (arith, room_at, s.at_node n));
        at_place = (
          record {
            body = record {
              head = record { version = s.body.head.version; nodes = s.body.head.nodes; parts = s.body.head.parts };
              no_entry = s.body.no_entry;
              no_drain = s.body.no_drain;
            };
            some = omega (arith, length-append (settle ops d).sessions (new_session n ∷ []));
          },
          refl,
        );
      };
      larger = same_table _ _ s.keys;
      text = λ table x. session_text table (settle ops d) n ∙ ap (λ xs. xs ++ LSession n ∷ []) (s.text table);
    })

-- a session stands where a transaction may follow
some_session : (limits : Limits) (place : Place) (d : Scene) (ops : List Op) (next : Place) → tx_follows place ≡ Some next → At limits place d ops → 1 ≤ length d.sessions
some_session limits AfterSession d ops next e a = a.0.some
some_session limits AfterOp d ops next e a = a.0.some
some_session limits _ d ops next e a = absurd (none-some _ e)

-- a transaction
pub step_tx : (limits : Limits) (place : Place) (d : Scene) (ops : List Op) (next : Place) → tx_count (settle ops d).sessions < limits.txs →
    tx_follows place ≡ Some next → Kept limits d ops → At limits place d ops → Step limits (mk place d ops) LTx (closed next (settle ops d))
step_tx limits place d ops next room e k a =
    let s = settled_section limits place d ops next next (tx_is_section place next e) k a in
    subst (λ p. Step limits (mk place d ops) LTx (closed p (settle ops d))) (tx_next place next e)
    (record {
      stands = record {
        kept = s.kept;
        at_place = (record { body = s.body; some = omega (arith, some_session limits place d ops next e a, s.sessions) }, room, refl);
      };
      larger = same_table _ _ s.keys;
      text = λ table x. ap (λ xs. xs ++ LTx ∷ []) (s.text table);
    })

-- the schedule
pub step_schedule : (limits : Limits) (place : Place) (d : Scene) (ops : List Op) (next : Place) → section_follows InSchedule place ≡ Some next →
    Kept limits d ops → At limits place d ops → Step limits (mk place d ops) LSchedule (closed next (settle ops d))
step_schedule limits place d ops next e k a =
    let s = settled_section limits place d ops InSchedule next e k a in
    subst (λ p. Step limits (mk place d ops) LSchedule (closed p (settle ops d))) (section_next InSchedule place next e)
    (record {
      stands = record { kept = s.kept; at_place = (s.body.head, s.body.no_drain, refl) };
      larger = same_table _ _ s.keys;
      text = λ table x.
          ap (λ es. body_lines table (settle ops d) ++ LSchedule ∷ map entry_line es) s.body.no_entry ∙ ap (λ xs. xs ++ LSchedule ∷ []) (s.text table);
    })
