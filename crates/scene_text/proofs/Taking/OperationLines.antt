-- The lines of operations are taken.
use Rattle.std.proofs.Common.{Bool, List, None, Option, Some, [], ap, append-nil, append_assoc, arith, false, length, length-append, map, refl, slice_get, subst, sym, true, ℕ, ℤ, ◌++◌, ◌<◌, ◌==◌, ◌∙◌, ◌∷◌, ◌≡◌, ◌≤◌, cond}
use Rattle.std.proofs.lemmas.Bool.Decides.{Decides-eqb}
use Rattle.std.proofs.lemmas.Grind.{flat_map-append}
use Rattle.std.proofs.lemmas.List.{map-append}
use Rattle.std.proofs.lemmas.Option.{none-some, same_Some}
use Rattle.std.specs.Prelude.{flat_map, option_and_then}
use Rattle.scene_text.proofs.Taking.TableGrows.{Grows, grown, stays, string_comes}
use Rattle.scene_text.proofs.Taking.HeadLines.{mk}
use Rattle.scene_text.proofs.Taking.StatesKept.{At, Extends, GoodScript, GoodSession, InBody, Kept, Stands, Step, tx_count}
use Rattle.scene_text.specs.LineOrder.{Place, op_follows, puts_follows}
use Rattle.scene_text.specs.LineOrder.Place.{AfterOp, AfterTx}
use Rattle.scene_text.specs.SceneLines.{body_lines, key_at, op_line, script_lines, text_at}
use Rattle.scene_text.specs.Taking.{Limits, key_number, text_number, with_op, with_puts}
use Rattle.scene_text.specs.declared.lines.Line.{Line}
use Rattle.scene_text.specs.declared.lines.Line.TheVariants.{Abort as LAbort, Add as LAdd, Del as LDel, Get as LGet, Need as LNeed, Put as LPut, Puts as LPuts, Tx as LTx}
use Rattle.str_base.specs.declared.names.KeyId.{KeyId}
use Rattle.str_base.specs.declared.names.PartId.{PartId}
use Rattle.str_base.specs.declared.names.TextId.{TextId}
use Rattle.str_scene.proofs.Counts.{counted-append}
use Rattle.str_scene.proofs.Each.{each_push, each_weaker}
use Rattle.str_scene.proofs.Pairs.{interned}
use Rattle.str_scene.specs.Keys.{with_pair, with_string}
use Rattle.str_scene.specs.SceneLimits.{IsByteText, IsKey, IsKeyOf, IsNumber, IsOp, all_ops, counted, key_of, text_of}
use Rattle.str_scene.specs.Scenes.{KeyTable, Scene, Session}
use Rattle.str_scene.specs.declared.names.Op.{Op}
use Rattle.str_scene.specs.declared.names.Op.TheVariants.{Abort, Add, Del, Get, Need, Put, Puts}

-- an operation comes, and the table with it
pub record OpComes (parts version : ℕ) (small large : KeyTable) (o : Op) (l : Line) : Type 0 where
  pub names : Grows (IsKey parts) small.names large.names
  pub texts : Grows IsByteText small.texts large.texts
  pub key_order : counted (length small.names) (key_of o) ≡ Some (length large.names)
  pub text_order : counted (length small.texts) (text_of o) ≡ Some (length large.texts)
  pub good : IsOp version large o
  pub line : (table : KeyTable) → Extends table large → op_line table o ≡ l

-- the larger table has what the smaller has
larger_table : (parts : ℕ) (small large : KeyTable) → Grows (IsKey parts) small.names large.names → Grows IsByteText small.texts large.texts → Extends large small
larger_table parts small large names texts = record { names = names.kept; texts = texts.kept }

-- an operation of the smaller table is one of the larger
op_weaker : (version : ℕ) (small large : KeyTable) → length small.names ≤ length large.names → length small.texts ≤ length large.texts → (o : Op) → IsOp version small o →
    IsOp version large o
op_weaker version small large l m (Get k) h = omega arith
op_weaker version small large l m (Put k n) h = (omega (arith, h.0), h.1)
op_weaker version small large l m (Puts k t) h = (omega (arith, h.0), omega (arith, h.1), h.2)
op_weaker version small large l m (Add k n) h = (omega (arith, h.0), h.1)
op_weaker version small large l m (Del k) h = omega arith
op_weaker version small large l m (Need k n) h = (omega (arith, h.0), h.1)
op_weaker version small large l m Abort h = tt

-- so are sessions
session_weaker : (limits : Limits) (version nodes : ℕ) (small large : KeyTable) → length small.names ≤ length large.names → length small.texts ≤ length large.texts →
    (s : Session) → GoodSession limits version nodes small s → GoodSession limits version nodes large s
session_weaker limits version nodes small large l m s h = (
  h.0,
  each_weaker (GoodScript limits version small) (GoodScript limits version large)
      (λ ops g. (g.0, g.1, each_weaker (IsOp version small) (IsOp version large) (op_weaker version small large l m) ops g.2)) s.txs h.1,
)

-- numbers more at the end
counted_more : (xs ks : List ℕ) (n m : ℕ) → counted 0 xs ≡ Some n → counted n ks ≡ Some m → counted 0 (xs ++ ks) ≡ Some m
counted_more xs ks n m p q = counted-append 0 xs ks ∙ (ap (λ o. option_and_then (λ i. counted i ks) o) p ∙ q)

-- what one operation more names comes in order
order_more : (f : Op → List ℕ) (all ops : List Op) (o : Op) (n m : ℕ) → counted 0 (flat_map f (all ++ ops)) ≡ Some n → counted n (f o) ≡ Some m →
    counted 0 (flat_map f (all ++ (ops ++ o ∷ []))) ≡ Some m
order_more f all ops o n m p q =
    ap (λ xs. counted 0 (flat_map f xs)) (sym (append_assoc all ops (o ∷ [])))
    ∙ (ap (counted 0) (flat_map-append f (all ++ ops) (o ∷ []) ∙ ap (λ xs. flat_map f (all ++ ops) ++ xs) (append-nil (f o)))
    ∙ counted_more (flat_map f (all ++ ops)) (f o) n m p q)

-- the draft with another table
abbrev pub tabled : KeyTable → Scene → Scene
tabled table d = record d { keys = table }

-- an operation more keeps the limits
op_kept : (limits : Limits) (d : Scene) (ops : List Op) (o : Op) (l : Line) (large : KeyTable) → OpComes (length d.parts) d.version d.keys large o l →
    length ops < limits.ops → Kept limits d ops → Kept limits (tabled large d) (ops ++ o ∷ [])
op_kept limits d ops o l large c room k = record {
  table = record {
    names = c.names.good;
    distinct_names = c.names.distinct;
    texts = c.texts.good;
    distinct_texts = c.texts.distinct;
    key_order = order_more key_of (all_ops d) ops o (length d.keys.names) (length large.names) k.table.key_order c.key_order;
    text_order = order_more text_of (all_ops d) ops o (length d.keys.texts) (length large.texts) k.table.text_order c.text_order;
  };
  rows = k.rows;
  sessions = each_weaker (GoodSession limits d.version d.nodes d.keys) (GoodSession limits d.version d.nodes large)
      (session_weaker limits d.version d.nodes d.keys large c.names.longer c.texts.longer) d.sessions k.sessions;
  open_ops = each_push (IsOp d.version large) ops o
      (each_weaker (IsOp d.version d.keys) (IsOp d.version large) (op_weaker d.version d.keys large c.names.longer c.texts.longer) ops k.open_ops) c.good;
  few_ops = omega (arith, room, length-append ops (o ∷ []));
  events = k.events;
  counts = record {
    few_parts = k.counts.few_parts;
    few_sessions = k.counts.few_sessions;
    at_one_node = k.counts.at_one_node;
    few_txs = k.counts.few_txs;
    few_events = k.counts.few_events;
  };
}

-- its line comes at the end
op_text : (table : KeyTable) (d : Scene) (ops : List Op) (o : Op) (l : Line) → op_line table o ≡ l →
    body_lines table d ++ script_lines table (ops ++ o ∷ []) ≡ (body_lines table d ++ script_lines table ops) ++ l ∷ []
op_text table d ops o l e =
    ap (λ xs. body_lines table d ++ LTx ∷ xs) (map-append (op_line table) ops (o ∷ []) ∙ ap (λ x. map (op_line table) ops ++ x ∷ []) e)
    ∙ sym (append_assoc (body_lines table d) (script_lines table ops) (l ∷ []))

-- an operation more
op_stands : (limits : Limits) (d : Scene) (ops : List Op) (o : Op) (l : Line) (large : KeyTable) → OpComes (length d.parts) d.version d.keys large o l →
    length ops < limits.ops → InBody d → tx_count d.sessions < limits.txs → Kept limits d ops → Stands limits (mk AfterOp (tabled large d) (ops ++ o ∷ []))
op_stands limits d ops o l large c room body few k = record {
  kept = op_kept limits d ops o l large c room k;
  at_place = (
    record {
      body = record {
        head = record { version = body.body.head.version; nodes = body.body.head.nodes; parts = body.body.head.parts };
        no_entry = body.body.no_entry;
        no_drain = body.body.no_drain;
      };
      some = body.some;
    },
    few,
    omega (arith, length-append ops (o ∷ [])),
  );
}

-- an operation
step_op : (limits : Limits) (place : Place) (d : Scene) (ops : List Op) (o : Op) (l : Line) (large : KeyTable) (next : Place) →
    OpComes (length d.parts) d.version d.keys large o l → length ops < limits.ops → op_follows place ≡ Some next → Kept limits d ops → At limits place d ops →
    Step limits (mk place d ops) l (mk next (tabled large d) (ops ++ o ∷ []))
step_op limits AfterTx d ops o l large next c room e k a =
    subst (λ p. Step limits (mk AfterTx d ops) l (mk p (tabled large d) (ops ++ o ∷ []))) (same_Some _ _ e)
    (record {
      stands = op_stands limits d ops o l large c room a.0 a.1 k;
      larger = larger_table (length d.parts) d.keys large c.names c.texts;
      text = λ table x. op_text table d ops o l (c.line table x);
    })
step_op limits AfterOp d ops o l large next c room e k a =
    subst (λ p. Step limits (mk AfterOp d ops) l (mk p (tabled large d) (ops ++ o ∷ []))) (same_Some _ _ e)
    (record {
      stands = op_stands limits d ops o l large c room a.0 a.1 k;
      larger = larger_table (length d.parts) d.keys large c.names c.texts;
      text = λ table x. op_text table d ops o l (c.line table x);
    })
step_op limits _ d ops o l large next c room e k a = absurd (none-some _ e)

-- what an operation on a key with a number is
pub record IsOpOf (op : KeyId → Op) (key : List ℕ × PartId) (l : Line) : Type 0 where
  pub its_key : (k : KeyId) → key_of (op k) ≡ k.0 ∷ []
  pub no_text : (k : KeyId) → text_of (op k) ≡ []
  pub good : (version : ℕ) (table : KeyTable) (k : KeyId) → IsKeyOf table k → IsOp version table (op k)
  pub line : (table : KeyTable) (k : KeyId) → key_at table k ≡ key → op_line table (op k) ≡ l

-- the name and partition at a place
key_there : (table : KeyTable) (k : KeyId) (key : List ℕ × PartId) → slice_get table.names k.0 ≡ Some key → key_at table k ≡ key
key_there table k key e = rw e refl

text_there : (table : KeyTable) (t : TextId) (text : List ℕ) → slice_get table.texts t.0 ≡ Some text → text_at table t ≡ text
text_there table t text e = rw e refl

-- an operation on a key
pub step_key_op : (limits : Limits) (place : Place) (d : Scene) (ops : List Op) (op : KeyId → Op) (key : List ℕ × PartId) (l : Line) (next : Place) →
    IsOpOf op key l → IsKey (length d.parts) key → length ops < limits.ops → op_follows place ≡ Some next → Kept limits d ops → At limits place d ops →
    Step limits (mk place d ops) l (with_op next op key (mk place d ops))
step_key_op limits place d ops op key l next is good room e k a =
    let n : KeyId = key_number key d in
    let large : KeyTable = record d.keys { names = with_pair key d.keys.names } in
    let g = grown (IsKey (length d.parts)) d.keys.names key n.0 large.names k.table.names k.table.distinct_names good (interned key d.keys.names) in
    step_op limits place d ops (op n) l large next
    (record {
      names = g.grows;
      texts = stays IsByteText d.keys.texts k.table.texts k.table.distinct_texts;
      key_order = ap (counted (length d.keys.names)) (is.its_key n) ∙ g.order;
      text_order = ap (counted (length d.keys.texts)) (is.no_text n);
      good = is.good d.version large n g.within;
      line = λ table x. is.line table n (key_there table n key (x.names n.0 key g.there));
    }) room e k a

-- an operation that writes a byte string
pub step_puts : (limits : Limits) (place : Place) (d : Scene) (ops : List Op) (key : List ℕ × PartId) (text : List ℕ) (next : Place) →
    IsKey (length d.parts) key → IsByteText text → length ops < limits.ops → puts_follows d.version place ≡ Some next → Kept limits d ops → At limits place d ops →
    Step limits (mk place d ops) (LPuts key.0 key.1 text) (with_puts next key text (mk place d ops))
step_puts limits place d ops key text next good good_text room e k a =
    let n : KeyId = key_number key d in
    let t : TextId = text_number text d in
    let large : KeyTable = record { names = with_pair key d.keys.names; texts = with_string text d.keys.texts } in
    let g = grown (IsKey (length d.parts)) d.keys.names key n.0 large.names k.table.names k.table.distinct_names good (interned key d.keys.names) in
    let h = grown IsByteText d.keys.texts text t.0 large.texts k.table.texts k.table.distinct_texts good_text (string_comes text d.keys.texts) in
    let v = version_two (d.version == 2) (op_follows place) next refl e in
    step_op limits place d ops (Puts n t) (LPuts key.0 key.1 text) large next
    (record {
      names = g.grows;
      texts = h.grows;
      key_order = g.order;
      text_order = h.order;
      good = (g.within, h.within, v.0);
      line = λ table x.
          ap (λ z. LPuts z.0 z.1 (text_at table t)) (key_there table n key (x.names n.0 key g.there))
          ∙ ap (λ z. LPuts key.0 key.1 z) (text_there table t text (x.texts t.0 text h.there));
    }) room v.1 k a
  where
    version_two : (two : Bool) (o : Option Place) (m : Place) → (d.version == 2) ≡ two → cond two o None ≡ Some m → (d.version ≡ 2) × (o ≡ Some m)
    version_two true o m p q = ((Decides-eqb d.version 2).0 p, q)
    version_two false o m p q = absurd (none-some _ q)

-- an abort
pub step_abort : (limits : Limits) (place : Place) (d : Scene) (ops : List Op) (next : Place) → length ops < limits.ops → op_follows place ≡ Some next →
    Kept limits d ops → At limits place d ops → Step limits (mk place d ops) LAbort (mk next d (ops ++ Abort ∷ []))
step_abort limits place d ops next room e k a =
    step_op limits place d ops Abort LAbort d.keys next
    (record {
      names = stays (IsKey (length d.parts)) d.keys.names k.table.names k.table.distinct_names;
      texts = stays IsByteText d.keys.texts k.table.texts k.table.distinct_texts;
      key_order = refl;
      text_order = refl;
      good = tt;
      line = λ table x. refl;
    }) room e k a

-- a get, an addition and the like
pub get_is : (name : List ℕ) (p : PartId) → IsOpOf Get (name, p) (LGet name p)
get_is name p = record { its_key = λ k. refl; no_text = λ k. refl; good = λ version table k h. h; line = λ table k e. ap (λ z. LGet z.0 z.1) e }

pub del_is : (name : List ℕ) (p : PartId) → IsOpOf Del (name, p) (LDel name p)
del_is name p = record { its_key = λ k. refl; no_text = λ k. refl; good = λ version table k h. h; line = λ table k e. ap (λ z. LDel z.0 z.1) e }

pub put_is : (name : List ℕ) (p : PartId) (n : ℤ) → IsNumber n → IsOpOf (λ k. Put k n) (name, p) (LPut name p n)
put_is name p n fits = record { its_key = λ k. refl; no_text = λ k. refl; good = λ version table k h. (h, fits); line = λ table k e. ap (λ z. LPut z.0 z.1 n) e }

pub add_is : (name : List ℕ) (p : PartId) (n : ℤ) → IsNumber n → IsOpOf (λ k. Add k n) (name, p) (LAdd name p n)
add_is name p n fits = record { its_key = λ k. refl; no_text = λ k. refl; good = λ version table k h. (h, fits); line = λ table k e. ap (λ z. LAdd z.0 z.1 n) e }

pub need_is : (name : List ℕ) (p : PartId) (n : ℤ) → IsNumber n → IsOpOf (λ k. Need k n) (name, p) (LNeed name p n)
need_is name p n fits = record { its_key = λ k. refl; no_text = λ k. refl; good = λ version table k h. (h, fits); line = λ table k e. ap (λ z. LNeed z.0 z.1 n) e }
