-- The lines of a scene's transactions are taken.
use Rattle.std.proofs.Common.{List, None, Some, [], ap, append-nil, append_assoc, arith, false, get_or, length, length-append, map, refl, slice_get, sym, take, ℕ, ◌++◌, ◌+◌, ◌<◌, ◌∙◌, ◌∷◌, ◌≡◌, ◌≤◌, cond}
use Rattle.std.proofs.lemmas.Bool.{and_from, lt-ltb, le-leb}
use Rattle.std.proofs.lemmas.Bool.Decides.{Decides-eqb}
use Rattle.std.proofs.lemmas.Option.{same_Some, slice_get-get_or}
use Rattle.std.specs.Prelude.{flat_map}
use Rattle.str_scene.proofs.Allowing.{up_to_holds}
use Rattle.scene_text.proofs.Taking.TableNumbers.{Found, found}
use Rattle.scene_text.proofs.Taking.TableGrows.{Distinct, string_comes}
use Rattle.scene_text.proofs.Taking.HeadLines.{mk}
use Rattle.scene_text.proofs.Taking.LinesTaken.{taken}
use Rattle.scene_text.proofs.Spelling.NumberTests.{number_holds}
use Rattle.scene_text.specs.LineOrder.{Place, op_follows, puts_follows}
use Rattle.scene_text.specs.LineOrder.Place.{AfterOp}
use Rattle.scene_text.specs.SceneLines.{key_at, op_line, text_at}
use Rattle.scene_text.specs.Taking.{Limits, State, goes_on, take_line, take_lines, with_op, with_puts}
use Rattle.scene_text.specs.Taking.Taken.{Now}
use Rattle.str_base.specs.declared.names.KeyId.{KeyId}
use Rattle.str_base.specs.declared.names.PartId.{PartId}
use Rattle.str_base.specs.declared.names.TextId.{TextId}
use Rattle.str_scene.proofs.Each.{each_at}
use Rattle.str_scene.proofs.Pairs.{interned}
use Rattle.str_scene.specs.Lists.{Each}
use Rattle.str_scene.specs.Keys.{place_of, string_place, with_pair, with_string}
use Rattle.str_scene.specs.SceneLimits.{IsByteText, IsKey, IsKeyOf, IsOp, counted, key_of, text_of}
use Rattle.str_scene.specs.Scenes.{KeyTable, Scene, Session}
use Rattle.str_scene.specs.declared.names.Op.{Op}
use Rattle.str_scene.specs.declared.names.Op.TheVariants.{Abort, Add, Del, Get, Need, Put, Puts}

-- the first names and byte strings of a table
abbrev pub upto : KeyTable → ℕ → ℕ → KeyTable
upto table m k = record { names = take m table.names; texts = take k table.texts }

-- the scene up to some sessions, with so many keys and byte strings
abbrev pub body : Scene → ℕ → ℕ → List Session → Scene
body scene m k ss =
    record { version = scene.version; nodes = scene.nodes; parts = scene.parts; keys = upto scene.keys m k; sessions = ss; schedule = []; drain = false }

-- what the table of a scene is
pub record TableGood (scene : Scene) : Type 0 where
  pub names : Each (IsKey (length scene.parts)) scene.keys.names
  pub distinct_names : Distinct scene.keys.names
  pub texts : Each IsByteText scene.keys.texts
  pub distinct_texts : Distinct scene.keys.texts

-- a key of the table
pub record KeyGood (scene : Scene) (k : KeyId) : Type 0 where
  pub at : slice_get scene.keys.names k.0 ≡ Some (key_at scene.keys k)
  pub good : IsKey (length scene.parts) (key_at scene.keys k)

pub key_good : (scene : Scene) (k : KeyId) → TableGood scene → IsKeyOf scene.keys k → KeyGood scene k
key_good scene k t h =
    let d : List ℕ × PartId = ([], record { 0 = 0 }) in
    let e = slice_get-get_or scene.keys.names k.0 d h in
    let is : key_at scene.keys k ≡ get_or scene.keys.names k.0 d = rw e refl in
    let at : slice_get scene.keys.names k.0 ≡ Some (key_at scene.keys k) = e ∙ ap Some (sym is) in
    record { at = at; good = each_at (IsKey (length scene.parts)) scene.keys.names k.0 (key_at scene.keys k) t.names at }

-- a byte string of the table
pub record TextGood (scene : Scene) (t : TextId) : Type 0 where
  pub at : slice_get scene.keys.texts t.0 ≡ Some (text_at scene.keys t)
  pub good : IsByteText (text_at scene.keys t)

pub text_good : (scene : Scene) (t : TextId) → TableGood scene → t.0 < length scene.keys.texts → TextGood scene t
text_good scene t g h =
    let e = slice_get-get_or scene.keys.texts t.0 [] h in
    let is : text_at scene.keys t ≡ get_or scene.keys.texts t.0 [] = rw e refl in
    let at : slice_get scene.keys.texts t.0 ≡ Some (text_at scene.keys t) = e ∙ ap Some (sym is) in
    record { at = at; good = each_at IsByteText scene.keys.texts t.0 (text_at scene.keys t) g.texts at }

-- an operation is taken, and the numbers of those after it come in order
pub record OpTaken (limits : Limits) (scene : Scene) (place : Place) (m k : ℕ) (ss : List Session) (done : List Op) (o : Op) (keys texts : List ℕ) (m' k' : ℕ) : Type 0 where
  pub m1 : ℕ
  pub k1 : ℕ
  pub taken : take_line limits (mk place (body scene m k ss) done) (op_line scene.keys o) ≡ Now (mk AfterOp (body scene m1 k1 ss) (done ++ o ∷ []))
  pub keys_after : counted m1 keys ≡ Some m'
  pub texts_after : counted k1 texts ≡ Some k'

-- a number of a key
key_id : (k : KeyId) (n : ℕ) → n ≡ k.0 → ◌≡◌ {A = KeyId} (record { 0 = n }) k
key_id k n e = ap (λ z. record { 0 = z }) e

text_id : (t : TextId) (n : ℕ) → n ≡ t.0 → ◌≡◌ {A = TextId} (record { 0 = n }) t
text_id t n e = ap (λ z. record { 0 = z }) e

-- what an operation on a key comes to
with_op_is : (scene : Scene) (place : Place) (m k : ℕ) (ss : List Session) (done : List Op) (op : KeyId → Op) (key : List ℕ × PartId) (n : KeyId) (m1 : ℕ) →
    place_of key (take m scene.keys.names) ≡ n.0 → with_pair key (take m scene.keys.names) ≡ take m1 scene.keys.names →
    with_op AfterOp op key (mk place (body scene m k ss) done) ≡ mk AfterOp (body scene m1 k ss) (done ++ op n ∷ [])
with_op_is scene place m k ss done op key n m1 e f =
    ap (λ names. mk AfterOp (record (body scene m k ss) { keys = record { names = names; texts = take k scene.keys.texts } }) (done ++ op (record { 0 = place_of key (take m scene.keys.names) }) ∷ [])) f
    ∙ ap (λ z. mk AfterOp (body scene m1 k ss) (done ++ op z ∷ [])) (key_id n (place_of key (take m scene.keys.names)) e)

-- what an operation that writes a byte string comes to
with_puts_is : (scene : Scene) (place : Place) (m k : ℕ) (ss : List Session) (done : List Op) (key : List ℕ × PartId) (text : List ℕ) (n : KeyId) (t : TextId) (m1 k1 : ℕ) →
    place_of key (take m scene.keys.names) ≡ n.0 → with_pair key (take m scene.keys.names) ≡ take m1 scene.keys.names →
    string_place text (take k scene.keys.texts) ≡ t.0 → with_string text (take k scene.keys.texts) ≡ take k1 scene.keys.texts →
    with_puts AfterOp key text (mk place (body scene m k ss) done) ≡ mk AfterOp (body scene m1 k1 ss) (done ++ Puts n t ∷ [])
with_puts_is scene place m k ss done key text n t m1 k1 e f g h =
    ap (λ names. mk AfterOp (record (body scene m k ss) { keys = record { names = names; texts = with_string text (take k scene.keys.texts) } }) (done ++ Puts (record { 0 = place_of key (take m scene.keys.names) }) (record { 0 = string_place text (take k scene.keys.texts) }) ∷ [])) f
    ∙ (ap (λ texts. mk AfterOp (record (body scene m k ss) { keys = record { names = take m1 scene.keys.names; texts = texts } }) (done ++ Puts (record { 0 = place_of key (take m scene.keys.names) }) (record { 0 = string_place text (take k scene.keys.texts) }) ∷ [])) h
    ∙ (ap (λ z. mk AfterOp (body scene m1 k1 ss) (done ++ Puts z (record { 0 = string_place text (take k scene.keys.texts) }) ∷ [])) (key_id n (place_of key (take m scene.keys.names)) e)
    ∙ ap (λ z. mk AfterOp (body scene m1 k1 ss) (done ++ Puts n z ∷ [])) (text_id t (string_place text (take k scene.keys.texts)) g)))

-- where the key of the next operation is found
key_found : (scene : Scene) (m : ℕ) (k : KeyId) (ms : List ℕ) (end : ℕ) → TableGood scene → KeyGood scene k → counted m (k.0 ∷ ms) ≡ Some end →
    Found scene.keys.names (place_of (key_at scene.keys k) (take m scene.keys.names)) (with_pair (key_at scene.keys k) (take m scene.keys.names)) k.0 ms end
key_found scene m k ms end t g c =
    found scene.keys.names (key_at scene.keys k) _ _ m k.0 ms end t.distinct_names g.at c (interned (key_at scene.keys k) (take m scene.keys.names))

-- and its byte string
text_found : (scene : Scene) (m : ℕ) (t : TextId) (ms : List ℕ) (end : ℕ) → TableGood scene → TextGood scene t → counted m (t.0 ∷ ms) ≡ Some end →
    Found scene.keys.texts (string_place (text_at scene.keys t) (take m scene.keys.texts)) (with_string (text_at scene.keys t) (take m scene.keys.texts)) t.0 ms end
text_found scene m t ms end g h c =
    found scene.keys.texts (text_at scene.keys t) _ _ m t.0 ms end g.distinct_texts h.at c (string_comes (text_at scene.keys t) (take m scene.keys.texts))

-- each operation of the scene
op_taken : (limits : Limits) (scene : Scene) (place : Place) (m k : ℕ) (ss : List Session) (done : List Op) (o : Op) (keys texts : List ℕ) (m' k' : ℕ) →
    TableGood scene → IsOp scene.version scene.keys o → op_follows place ≡ Some AfterOp → length done < limits.ops →
    counted m (key_of o ++ keys) ≡ Some m' → counted k (text_of o ++ texts) ≡ Some k' → OpTaken limits scene place m k ss done o keys texts m' k'
op_taken limits scene place m k ss done (Get n) keys texts m' k' t is order room c x =
    let g = key_good scene n t is in
    let f = key_found scene m n keys m' t g c in
    let s : State = mk place (body scene m k ss) done in
    record {
      m1 = f.next;
      k1 = k;
      taken = taken limits s (op_line scene.keys (Get n)) AfterOp order (up_to_holds (length scene.parts) (key_at scene.keys n).1.0 g.good.part) (lt-ltb _ _ room)
          ∙ ap Now (with_op_is scene place m k ss done Get (key_at scene.keys n) n f.next f.number f.first);
      keys_after = f.rest;
      texts_after = x;
    }
op_taken limits scene place m k ss done (Put n v) keys texts m' k' t is order room c x =
    let g = key_good scene n t is.0 in
    let f = key_found scene m n keys m' t g c in
    let s : State = mk place (body scene m k ss) done in
    record {
      m1 = f.next;
      k1 = k;
      taken = taken limits s (op_line scene.keys (Put n v)) AfterOp order
          (and_from _ _ (up_to_holds (length scene.parts) (key_at scene.keys n).1.0 g.good.part) (number_holds v is.1)) (lt-ltb _ _ room)
          ∙ ap Now (with_op_is scene place m k ss done (λ z. Put z v) (key_at scene.keys n) n f.next f.number f.first);
      keys_after = f.rest;
      texts_after = x;
    }
op_taken limits scene place m k ss done (Puts n u) keys texts m' k' t is order room c x =
    let g = key_good scene n t is.0 in
    let h = text_good scene u t is.1 in
    let f = key_found scene m n keys m' t g c in
    let j = text_found scene k u texts k' t h x in
    let s : State = mk place (body scene m k ss) done in
    let two : puts_follows scene.version place ≡ Some AfterOp = ap (λ b. cond b (op_follows place) None) ((Decides-eqb scene.version 2).1 is.2) ∙ order in
    record {
      m1 = f.next;
      k1 = j.next;
      taken = taken limits s (op_line scene.keys (Puts n u)) AfterOp two
          (and_from _ _ (up_to_holds (length scene.parts) (key_at scene.keys n).1.0 g.good.part) (le-leb _ _ h.good.short)) (lt-ltb _ _ room)
          ∙ ap Now (with_puts_is scene place m k ss done (key_at scene.keys n) (text_at scene.keys u) n u f.next j.next f.number f.first j.number j.first);
      keys_after = f.rest;
      texts_after = j.rest;
    }
op_taken limits scene place m k ss done (Add n v) keys texts m' k' t is order room c x =
    let g = key_good scene n t is.0 in
    let f = key_found scene m n keys m' t g c in
    let s : State = mk place (body scene m k ss) done in
    record {
      m1 = f.next;
      k1 = k;
      taken = taken limits s (op_line scene.keys (Add n v)) AfterOp order
          (and_from _ _ (up_to_holds (length scene.parts) (key_at scene.keys n).1.0 g.good.part) (number_holds v is.1)) (lt-ltb _ _ room)
          ∙ ap Now (with_op_is scene place m k ss done (λ z. Add z v) (key_at scene.keys n) n f.next f.number f.first);
      keys_after = f.rest;
      texts_after = x;
    }
op_taken limits scene place m k ss done (Del n) keys texts m' k' t is order room c x =
    let g = key_good scene n t is in
    let f = key_found scene m n keys m' t g c in
    let s : State = mk place (body scene m k ss) done in
    record {
      m1 = f.next;
      k1 = k;
      taken = taken limits s (op_line scene.keys (Del n)) AfterOp order (up_to_holds (length scene.parts) (key_at scene.keys n).1.0 g.good.part) (lt-ltb _ _ room)
          ∙ ap Now (with_op_is scene place m k ss done Del (key_at scene.keys n) n f.next f.number f.first);
      keys_after = f.rest;
      texts_after = x;
    }
op_taken limits scene place m k ss done (Need n v) keys texts m' k' t is order room c x =
    let g = key_good scene n t is.0 in
    let f = key_found scene m n keys m' t g c in
    let s : State = mk place (body scene m k ss) done in
    record {
      m1 = f.next;
      k1 = k;
      taken = taken limits s (op_line scene.keys (Need n v)) AfterOp order
          (and_from _ _ (up_to_holds (length scene.parts) (key_at scene.keys n).1.0 g.good.part) (number_holds v is.1)) (lt-ltb _ _ room)
          ∙ ap Now (with_op_is scene place m k ss done (λ z. Need z v) (key_at scene.keys n) n f.next f.number f.first);
      keys_after = f.rest;
      texts_after = x;
    }
op_taken limits scene place m k ss done Abort keys texts m' k' t is order room c x =
    record {
      m1 = m;
      k1 = k;
      taken = taken limits (mk place (body scene m k ss) done) (op_line scene.keys Abort) AfterOp order refl (lt-ltb _ _ room);
      keys_after = c;
      texts_after = x;
    }

-- the operations of a transaction are taken, of which there is one at least
pub record OpsTaken (limits : Limits) (scene : Scene) (place : Place) (m k : ℕ) (ss : List Session) (done ops : List Op) (m' k' : ℕ) : Type 0 where
  pub place' : Place
  pub taken : take_lines limits (mk place (body scene m k ss) done) (map (op_line scene.keys) ops) ≡ Now (mk place' (body scene m' k' ss) (done ++ ops))
  pub at_op : 1 ≤ length ops → place' ≡ AfterOp
  pub at_first : ops ≡ [] → place' ≡ place

pub ops_taken : (limits : Limits) (scene : Scene) (place : Place) (ops : List Op) (m k : ℕ) (ss : List Session) (done : List Op) (m' k' : ℕ) →
    TableGood scene → Each (IsOp scene.version scene.keys) ops → op_follows place ≡ Some AfterOp → length done + length ops ≤ limits.ops →
    counted m (flat_map key_of ops) ≡ Some m' → counted k (flat_map text_of ops) ≡ Some k' → OpsTaken limits scene place m k ss done ops m' k'
ops_taken limits scene place [] m k ss done m' k' t is order room c x = record {
  place' = place;
  taken = ap (λ z. Now (mk place (body scene z k ss) done)) (same_Some _ _ c) ∙ (ap (λ z. Now (mk place (body scene m' z ss) done)) (same_Some _ _ x)
      ∙ ap (λ z. Now (mk place (body scene m' k' ss) z)) (sym (append-nil done)));
  at_op = λ l. absurd (omega arith);
  at_first = λ e. refl;
}
ops_taken limits scene place (o ∷ ops) m k ss done m' k' t is order room c x =
    let h = op_taken limits scene place m k ss done o (flat_map key_of ops) (flat_map text_of ops) m' k' t is.0 order (omega arith) c x in
    let r = ops_taken limits scene AfterOp ops h.m1 h.k1 ss (done ++ o ∷ []) m' k' t is.1 refl (omega (arith, room, length-append done (o ∷ []))) h.keys_after h.texts_after in
    record {
      place' = r.place';
      taken = ap (goes_on (λ s. take_lines limits s (map (op_line scene.keys) ops))) h.taken
          ∙ (r.taken ∙ ap (λ z. Now (mk r.place' (body scene m' k' ss) z)) (append_assoc done (o ∷ []) ops));
      at_op = λ l. by_rest ops r.place' r.at_op r.at_first;
      at_first = λ e. absurd (cc);
    }
  where
    by_rest : (ops : List Op) (p : Place) → (1 ≤ length ops → p ≡ AfterOp) → (ops ≡ [] → p ≡ AfterOp) → p ≡ AfterOp
    by_rest [] p f g = g refl
    by_rest (q ∷ ops) p f g = f (omega arith)
