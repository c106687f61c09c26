-- The lines of the schedule are taken.
use Rattle.std.proofs.Common.{List, Some, [], ap, append_assoc, arith, length, length-append, map, refl, subst, sym, ◌++◌, ◌<◌, ◌∙◌, ◌∷◌, ◌≡◌}
use Rattle.std.proofs.lemmas.List.{map-append}
use Rattle.std.proofs.lemmas.Option.{none-some, same_Some}
use Rattle.scene_text.proofs.Taking.HeadLines.{extends_self, mk}
use Rattle.scene_text.proofs.Taking.StatesKept.{At, GoodEvent, Kept, Step, entry_lines}
use Rattle.scene_text.specs.LineOrder.{Place, end_follows, entry_follows}
use Rattle.scene_text.specs.LineOrder.Place.{AfterDrain, InSchedule}
use Rattle.scene_text.specs.SceneLines.{body_lines, drain_line, entry_line}
use Rattle.scene_text.specs.Taking.{Limits}
use Rattle.scene_text.specs.declared.lines.Line.TheVariants.{Drain as LDrain, End as LEnd, Schedule as LSchedule}
use Rattle.str_scene.proofs.Each.{each_push}
use Rattle.str_scene.specs.Drafts.{with_drain, with_entry}
use Rattle.str_scene.specs.Scenes.{KeyTable, Scene}
use Rattle.str_scene.specs.declared.names.Event.{Event}
use Rattle.str_scene.specs.declared.names.Op.{Op}

-- one entry more keeps the limits
entry_kept : (limits : Limits) (d : Scene) (ops : List Op) (x : Event) → GoodEvent (length d.sessions) x → length d.schedule < limits.entries → Kept limits d ops →
    Kept limits (with_entry x d) ops
entry_kept limits d ops x range room k = record {
  table = k.table;
  rows = k.rows;
  sessions = k.sessions;
  open_ops = k.open_ops;
  few_ops = k.few_ops;
  events = each_push (GoodEvent (length d.sessions)) d.schedule x k.events range;
  counts = record {
    few_parts = k.counts.few_parts;
    few_sessions = k.counts.few_sessions;
    at_one_node = k.counts.at_one_node;
    few_txs = k.counts.few_txs;
    few_events = omega (arith, room, length-append d.schedule (x ∷ []));
  };
}

-- its line comes at the end
entry_text : (table : KeyTable) (d : Scene) (x : Event) → entry_lines table (with_entry x d) ≡ entry_lines table d ++ entry_line x ∷ []
entry_text table d x =
    ap (λ xs. body_lines table d ++ LSchedule ∷ xs) (map-append entry_line d.schedule (x ∷ []))
    ∙ sym (append_assoc (body_lines table d) (LSchedule ∷ map entry_line d.schedule) (entry_line x ∷ []))

-- an entry
pub step_entry : (limits : Limits) (place : Place) (d : Scene) (ops : List Op) (x : Event) (next : Place) → GoodEvent (length d.sessions) x →
    length d.schedule < limits.entries → entry_follows InSchedule place ≡ Some next → Kept limits d ops → At limits place d ops →
    Step limits (mk place d ops) (entry_line x) (mk next (with_entry x d) ops)
step_entry limits InSchedule d ops x next range room e k a =
    subst (λ p. Step limits (mk InSchedule d ops) (entry_line x) (mk p (with_entry x d) ops)) (same_Some _ _ e)
    (record {
      stands = record {
        kept = entry_kept limits d ops x range room k;
        at_place = (record { version = a.0.version; nodes = a.0.nodes; parts = a.0.parts }, a.1, a.2);
      };
      larger = extends_self d.keys;
      text = λ table y. entry_text table d x;
    })
step_entry limits _ d ops x next range room e k a = absurd (none-some _ e)

-- the drain keeps the limits
drain_kept : (limits : Limits) (d : Scene) (ops : List Op) → Kept limits d ops → Kept limits (with_drain d) ops
drain_kept limits d ops k = record {
  table = k.table;
  rows = k.rows;
  sessions = k.sessions;
  open_ops = k.open_ops;
  few_ops = k.few_ops;
  events = k.events;
  counts = record {
    few_parts = k.counts.few_parts;
    few_sessions = k.counts.few_sessions;
    at_one_node = k.counts.at_one_node;
    few_txs = k.counts.few_txs;
    few_events = k.counts.few_events;
  };
}

-- the drain
pub step_drain : (limits : Limits) (place : Place) (d : Scene) (ops : List Op) (next : Place) → entry_follows AfterDrain place ≡ Some next → Kept limits d ops →
    At limits place d ops → Step limits (mk place d ops) LDrain (mk next (with_drain d) ops)
step_drain limits InSchedule d ops next e k a =
    subst (λ p. Step limits (mk InSchedule d ops) LDrain (mk p (with_drain d) ops)) (same_Some _ _ e)
    (record {
      stands = record {
        kept = drain_kept limits d ops k;
        at_place = (record { version = a.0.version; nodes = a.0.nodes; parts = a.0.parts }, refl, a.2);
      };
      larger = extends_self d.keys;
      text = λ table y. refl;
    })
step_drain limits _ d ops next e k a = absurd (none-some _ e)

-- the end
pub step_end : (limits : Limits) (place : Place) (d : Scene) (ops : List Op) (next : Place) → end_follows place ≡ Some next → Kept limits d ops →
    At limits place d ops → Step limits (mk place d ops) LEnd (mk next d ops)
step_end limits InSchedule d ops next e k a =
    subst (λ p. Step limits (mk InSchedule d ops) LEnd (mk p d ops)) (same_Some _ _ e)
    (record {
      stands = record { kept = k; at_place = (a.0, a.2) };
      larger = extends_self d.keys;
      text = λ table y. ap (λ b. entry_lines table d ++ (drain_line b ++ LEnd ∷ [])) a.1;
    })
step_end limits AfterDrain d ops next e k a =
    subst (λ p. Step limits (mk AfterDrain d ops) LEnd (mk p d ops)) (same_Some _ _ e)
    (record {
      stands = record { kept = k; at_place = (a.0, a.2) };
      larger = extends_self d.keys;
      text = λ table y.
          ap (λ b. entry_lines table d ++ (drain_line b ++ LEnd ∷ [])) a.1 ∙ sym (append_assoc (entry_lines table d) (LDrain ∷ []) (LEnd ∷ []));
    })
step_end limits _ d ops next e k a = absurd (none-some _ e)
