-- The frames of a scene, part by part as they are written.
use Rattle.std.proofs.Common.{Err, List, None, Ok, OnOk, Option, Result, Some, [], ap, append-nil, append_assoc, arith, codes, decimal, get_or, length, map, refl, slice_get, subst, sym, take, take_all, nat_le, true, ℕ, ◌%◌, ◌&&◌, ◌++◌, ◌/◌, ◌<◌, ◌∙◌, ◌∷◌, ◌≡◌, ◌≤◌}
use Rattle.std.proofs.lemmas.Bool.{and_parts, leb-true}
use Rattle.std.proofs.lemmas.Grind.{flat_map-append}
use Rattle.std.proofs.lemmas.List.Folds.{flat_map-map}
use Rattle.std.proofs.lemmas.Option.{slice_get-get_or}
use Rattle.std.specs.List.{list_all}
use Rattle.scene_text.proofs.Spelling.TextParts.{flat_map-flat_map}
use Rattle.scene_text.proofs.Spelling.TextsApart.{bytes_text-injective}
use Rattle.scene_text.specs.LineReading.{SpellsBytes, SpellsNoBytes}
use Rattle.scene_text.specs.LineTexts.{AreBytes, bytes_text, key_text}
use Rattle.scene_text.specs.declared.lines.Line.{Line}
use Rattle.scene_text.specs.declared.lines.Line.TheVariants.{Puts as LPuts}
use Rattle.str_base.specs.declared.names.KeyId.{KeyId}
use Rattle.str_base.specs.declared.names.PartId.{PartId}
use Rattle.str_base.specs.declared.names.TextId.{TextId}
use Rattle.str_scene.proofs.Without.{is_without-here, is_without-name, split_unique}
use Rattle.str_scene.specs.Lists.{is_without}
use Rattle.str_scene.specs.Spelling.{key_spelled, name_spelled, text_spelled}
use Rattle.std.proofs.lemmas.List.{length-map, map-append}
use Rattle.std.specs.Prelude.{flat_map}
use Rattle.request_frame.specs.FrameBytes.{frame_bytes, op_bytes, row_bytes, script_bytes, sized}
use Rattle.request_frame.specs.Frames.{drain_frame, entry_frame, frames_of, script_frame, session_frames, tail_frames}
use Rattle.request_frame.specs.Frames.Frame.{End, Part, Version}
use Rattle.request_frame.specs.Spelling.{bytes_of}
use Rattle.request_frame.specs.Writing.{IsSpelled, end_bytes, entry_bytes, part_bytes, session_bytes, tx_bytes}
use Rattle.scene_text.specs.SceneLines.{key_at, key_or_none, op_line, text_at}
use Rattle.str_base.specs.declared.names.NodeId.{NodeId}
use Rattle.str_scene.specs.Scenes.{KeyTable, Scene, Session, or_none}
use Rattle.str_scene.specs.SceneLimits.{IsScene, in_name, is_letter, is_name}
use Rattle.str_scene.specs.declared.names.Op.{Op}

-- the frame of a partition that has few replicas
pub part_is : (row : List NodeId) → length row ≤ 8 → part_bytes row ≡ (2 ∷ 0 ∷ length row ∷ []) ++ row_bytes row
part_is row few =
    let size : length (row_bytes row) ≡ length row = length-map row (λ r. r.0) in
    let high : length (row_bytes row) / 256 ≡ 0 = omega (arith, size, few) in
    let low : length (row_bytes row) % 256 ≡ length row = omega (arith, size, few) in
    λ i. 2 ∷ high i ∷ low i ∷ row_bytes row

-- the frames of a session
pub session_is : (keys : KeyTable) (s : Session) → session_bytes keys s ≡ sized 3 (s.node.0 ∷ []) ++ flat_map (tx_bytes keys) s.txs
session_is keys s = ap (λ xs. sized 3 (s.node.0 ∷ []) ++ xs) (flat_map-map frame_bytes (script_frame keys) s.txs)

-- one operation more
pub script_push : (keys : KeyTable) (ops : List Op) (op : Op) → script_bytes (map (op_line keys) (ops ++ op ∷ [])) ≡ script_bytes (map (op_line keys) ops) ++ op_bytes (op_line keys op)
script_push keys ops op =
    ap script_bytes (map-append (op_line keys) ops (op ∷ []))
    ∙ (flat_map-append op_bytes (map (op_line keys) ops) (op_line keys op ∷ []) ∙ ap (λ xs. script_bytes (map (op_line keys) ops) ++ xs) (append-nil (op_bytes (op_line keys op))))

-- the frames of a scene
pub scene_is : (scene : Scene) → bytes_of (frames_of scene) ≡ frame_bytes (Version scene.version) ++ (sized 1 (scene.nodes ∷ []) ++ (flat_map part_bytes scene.parts
    ++ (flat_map (session_bytes scene.keys) scene.sessions ++ (flat_map entry_bytes scene.schedule ++ end_bytes scene.drain))))
scene_is scene =
    let sessions = flat_map (session_frames scene.keys) scene.sessions in
    let tail = tail_frames scene in
    ap (λ xs. frame_bytes (Version scene.version) ++ (sized 1 (scene.nodes ∷ []) ++ xs))
    (flat_map-append frame_bytes (map Part scene.parts) (sessions ++ tail)
    ∙ ((λ i. flat_map-map frame_bytes Part scene.parts i ++ flat_map-append frame_bytes sessions tail i)
    ∙ (λ i. flat_map part_bytes scene.parts ++ (flat_map-flat_map frame_bytes (session_frames scene.keys) scene.sessions i
    ++ (flat_map-append frame_bytes (map entry_frame scene.schedule) (drain_frame scene.drain ++ End ∷ []) i)))
    ∙ (λ i. flat_map part_bytes scene.parts ++ (flat_map (session_bytes scene.keys) scene.sessions ++ (flat_map-map frame_bytes entry_frame scene.schedule i ++ end_bytes scene.drain)))))

-- the names and byte strings of a scene are what they are to be
pub scene_spelled : (scene : Scene) → IsScene scene → IsSpelled scene.keys
scene_spelled scene s = record { names = λ i key e. (s.table.keys i key e).name; texts = λ i text e. s.table.texts i text e }

-- the frame of a partition is written
pub part_written : (row : List NodeId) (a b : List ℕ) (i : ℕ) → length row ≤ 8 → b ≡ (a ++ (2 ∷ 0 ∷ length row ∷ [])) ++ row_bytes (take i row) → length row ≤ i → b ≡ a ++ part_bytes row
part_written row a b i few e l =
    e ∙ (ap (λ xs. (a ++ (2 ∷ 0 ∷ length row ∷ [])) ++ row_bytes xs) (take_all i row l) ∙ (append_assoc a (2 ∷ 0 ∷ length row ∷ []) (row_bytes row) ∙ ap (λ xs. a ++ xs) (sym (part_is row few))))

-- one operation more is written
pub script_written : (keys : KeyTable) (ops first more : List Op) (op : Op) (line : Line) (bytes new : List ℕ) → line ≡ op_line keys op → more ≡ first ++ op ∷ [] →
    bytes ≡ script_bytes (map (op_line keys) first) → new ≡ bytes ++ op_bytes line → new ≡ script_bytes (map (op_line keys) more)
script_written keys ops first more op line bytes new l m b n =
    n ∙ ((λ i. b i ++ op_bytes (l i)) ∙ (sym (script_push keys first op) ∙ ap (λ xs. script_bytes (map (op_line keys) xs)) (sym m)))

-- a session is written
pub session_written : {E : Type 0} (keys : KeyTable) (s : Session) (n : ℕ) (txs : List (List Op)) (a m b : List ℕ) (r : Result (Unit {0}) E) → OnOk r (b ≡ m ++ flat_map (tx_bytes keys) txs) → m ≡ a ++ sized 3 (n ∷ []) →
    n ≡ s.node.0 → txs ≡ s.txs → OnOk r (b ≡ a ++ session_bytes keys s)
session_written keys s n txs a m b (Err x) e f g h = tt
session_written keys s n txs a m b (Ok x) e f g h =
    e ∙ ((λ i. f i ++ flat_map (tx_bytes keys) (h i)) ∙ ((λ i. (a ++ sized 3 (g i ∷ [])) ++ flat_map (tx_bytes keys) s.txs)
    ∙ (append_assoc a (sized 3 (s.node.0 ∷ [])) (flat_map (tx_bytes keys) s.txs) ∙ ap (λ xs. a ++ xs) (sym (session_is keys s)))))

-- a key of the table, by its text
abbrev no_key : List ℕ × PartId
no_key = ([], record { 0 = 0 })

key_there : (keys : KeyTable) (key : KeyId) → key.0 < length keys.names → slice_get keys.names key.0 ≡ Some (get_or keys.names key.0 no_key)
key_there keys key l = slice_get-get_or keys.names key.0 no_key l

key_text_is : (keys : KeyTable) (key : KeyId) (items text : List ℕ) → key.0 < length keys.names → items ≡ [] → text ≡ items ++ key_spelled keys key →
    text ≡ (get_or keys.names key.0 no_key).0 ++ 64 ∷ decimal (get_or keys.names key.0 no_key).1.0
key_text_is keys key items text l e f =
    let k = get_or keys.names key.0 no_key in
    f ∙ ((λ i. e i ++ name_spelled (key_there keys key l i)) ∙ append_assoc k.0 (64 ∷ []) (decimal k.1.0))

name_few : (name : List ℕ) → is_name name ≡ true → length name ≤ 16
name_few [] e = omega arith
name_few (c ∷ cs) e =
    let short = leb-true (length cs) 15 (and_parts (list_all in_name cs) (nat_le (length cs) 15) (and_parts (is_letter c) (list_all in_name cs && nat_le (length cs) 15) e).1).1 in
    omega (arith, short)

pub record KeyRead (keys : KeyTable) (key : KeyId) (name : List ℕ) : Type 0 where
  pub same : name ≡ (key_at keys key).0
  pub few : length name ≤ 16

pub key_read : (keys : KeyTable) (key : KeyId) (items text name rest : List ℕ) → IsSpelled keys → key.0 < length keys.names → items ≡ [] → text ≡ items ++ key_spelled keys key → text ≡ name ++ 64 ∷ rest → is_without 64 name ≡ true →
    KeyRead keys key name
key_read keys key items text name rest s l e f g w =
    let k = get_or keys.names key.0 no_key in
    let named : is_name k.0 ≡ true = s.names key.0 k (key_there keys key l) in
    let h = split_unique 64 name rest k.0 (decimal k.1.0) w (is_without-name 64 k.0 refl refl named) (sym g ∙ key_text_is keys key items text l e f) in
    record { same = h.0 ∙ ap (λ o. (key_or_none o).0) (sym (key_there keys key l)); few = subst (λ xs. length xs ≤ 16) (sym h.0) (name_few k.0 named) }

pub key_parted : (keys : KeyTable) (key : KeyId) (items text : List ℕ) → key.0 < length keys.names → items ≡ [] → text ≡ items ++ key_spelled keys key → is_without 64 text ≡ true → ⊥
key_parted keys key items text l e f w =
    let k = get_or keys.names key.0 no_key in
    is_without-here 64 k.0 (decimal k.1.0) (ap (is_without 64) (sym (key_text_is keys key items text l e f)) ∙ w)

pub text_read : (keys : KeyTable) (text : TextId) (items out bytes : List ℕ) → IsSpelled keys → items ≡ [] → out ≡ items ++ text_spelled (slice_get keys.texts text.0) → SpellsBytes out (Some bytes) → bytes ≡ text_at keys text
text_read keys text items out bytes s e f k = by_text (slice_get keys.texts text.0) refl
  where
    out_is : (o : Option (List ℕ)) → slice_get keys.texts text.0 ≡ o → out ≡ text_spelled o
    out_is o g = f ∙ (λ i. e i ++ text_spelled (g i))

    by_text : (o : Option (List ℕ)) → slice_get keys.texts text.0 ≡ o → bytes ≡ text_at keys text
    by_text None g = let empty : [] ≡ bytes_text k.bytes = sym (out_is None g) ∙ k.text_is in absurd (cc)
    by_text (Some t) g =
        k.kept_is.1 ∙ (bytes_text-injective k.bytes t k.are_bytes (s.texts text.0 t g).bytes (sym k.text_is ∙ out_is (Some t) g) ∙ ap or_none (sym g))

-- one that is there is short
pub text_not_long : (keys : KeyTable) (text : TextId) (items out : List ℕ) → IsSpelled keys → items ≡ [] → out ≡ items ++ text_spelled (slice_get keys.texts text.0) → SpellsBytes out None → ⊥
text_not_long keys text items out s e f k = by_text (slice_get keys.texts text.0) refl
  where
    by_text : (o : Option (List ℕ)) → slice_get keys.texts text.0 ≡ o → ⊥
    by_text None g = let empty : [] ≡ bytes_text k.bytes = sym (f ∙ (λ i. e i ++ text_spelled (g i))) ∙ k.text_is in absurd (cc)
    by_text (Some t) g =
        let same : k.bytes ≡ t = bytes_text-injective k.bytes t k.are_bytes (s.texts text.0 t g).bytes (sym k.text_is ∙ (f ∙ (λ i. e i ++ text_spelled (g i)))) in
        k.kept_is (subst (λ xs. length xs ≤ 64) (sym same) (s.texts text.0 t g).short)

-- and one that is none is empty
pub text_none : (keys : KeyTable) (text : TextId) (items out : List ℕ) → IsSpelled keys → items ≡ [] → out ≡ items ++ text_spelled (slice_get keys.texts text.0) → SpellsNoBytes out → [] ≡ text_at keys text
text_none keys text items out s e f none = by_text (slice_get keys.texts text.0) refl
  where
    by_text : (o : Option (List ℕ)) → slice_get keys.texts text.0 ≡ o → [] ≡ text_at keys text
    by_text None g = ap or_none (sym g)
    by_text (Some t) g = absurd (none t (s.texts text.0 t g).bytes (f ∙ (λ i. e i ++ text_spelled (g i))))
