-- The table of a scene has room for the names of all its operations.
use Rattle.std.proofs.Common.{Bool, Err, IfErr, List, None, Ok, Option, Result, Some, [], ap, arith, cond, false, inl, inr, length, length-append, nat_le, nat_lt, refl, subst, suc, sym, true, ℕ, ◌&&◌, ◌*◌, ◌++◌, ◌+◌, ◌<◌, ◌==◌, ◌∙◌, ◌∷◌, ◌≡◌, ◌≤◌}
use Rattle.str_scene.proofs.Allowing.{one_more, pair_few}
use Rattle.str_scene.proofs.Checked.{no_fault}
use Rattle.std.proofs.lemmas.Bool.{and_parts}
use Rattle.std.proofs.lemmas.Bool.Decides.{nat_tests}
use Rattle.std.proofs.lemmas.List.Sums.{sum_by-append}
use Rattle.std.proofs.lemmas.Option.{none-some, same_Some}
use Rattle.std.specs.Prelude.{flat_map}
use Rattle.std.specs.Str.{bytes_eq}
use Rattle.scene_text.proofs.Taking.BuildCalls.{op_body, op_may, refused_count, refused_range, stands}
use Rattle.scene_text.proofs.Taking.StatesKept.{GoodScript, GoodSession, Kept, tx_count}
use Rattle.scene_text.specs.LineOrder.{Place, follows, op_follows, puts_follows}
use Rattle.scene_text.specs.LineOrder.Place.{AfterOp}
use Rattle.scene_text.specs.Reading.{IsKeyRefused, IsReached, IsRefusedFor}
use Rattle.scene_text.specs.Taking.{State, in_range, is_up_to, key_number, scene_limits}
use Rattle.str_base.specs.declared.names.KeyId.{KeyId}
use Rattle.str_base.specs.declared.names.PartId.{PartId}
use Rattle.str_scene.specs.Lists.{Each}
use Rattle.scene_text.specs.declared.lines.Line.TheVariants.{Puts as LPuts}
use Rattle.str_scene.specs.Drafts.{may_have_tx, with_key}
use Rattle.str_scene.specs.Keys.{number_of, same_pair, with_pair, with_string}
use Rattle.str_scene.specs.Refusals.{IsRefused, first_fault, key_fault, text_fault}
use Rattle.str_scene.specs.SceneLimits.{all_ops, counted, is_name, key_of, text_of}
use Rattle.str_scene.specs.Scenes.{KeyTable, Scene, Session}
use Rattle.str_scene.specs.declared.faults.SceneFault.{SceneFault}
use Rattle.str_scene.specs.declared.faults.SceneFault.TheVariants.{Count, Memory, Range}
use Rattle.str_scene.specs.declared.names.Op.{Op}
use Rattle.str_scene.specs.declared.names.Op.TheVariants.{Abort, Add, Del, Get, Need, Put, Puts}

by_tests : (n k end : ℕ) (o p : Option ℕ) (a b : Bool) → (o ≡ Some end → end ≤ n + k) → (p ≡ Some end → end ≤ n + 1 + k) → cond a o (cond b p None) ≡ Some end → end ≤ n + suc k
by_tests n k end o p true b f g e = omega (arith, f e)
by_tests n k end o p false true f g e = omega (arith, g e)
by_tests n k end o p false false f g e = absurd (none-some _ e)

-- no more are counted than there are
counted_few : (n : ℕ) (ms : List ℕ) (end : ℕ) → counted n ms ≡ Some end → end ≤ n + length ms
counted_few n [] end e = let same : n ≡ end = same_Some _ _ e in omega arith
counted_few n (m ∷ ms) end e = by_tests n (length ms) end (counted n ms) (counted (n + 1) ms) (nat_lt m n) (m == n) (counted_few n ms end) (counted_few (n + 1) ms end) e

-- an operation names one key at most
key_few : (op : Op) → length (key_of op) ≤ 1
key_few (Get k) = omega arith
key_few (Put k n) = omega arith
key_few (Puts k t) = omega arith
key_few (Add k n) = omega arith
key_few (Del k) = omega arith
key_few (Need k n) = omega arith
key_few Abort = omega arith

-- and one byte string at most
text_few : (op : Op) → length (text_of op) ≤ 1
text_few (Puts k t) = omega arith
text_few _ = omega arith

named_few : (f : Op → List ℕ) → ((op : Op) → length (f op) ≤ 1) → (ops : List Op) → length (flat_map f ops) ≤ length ops
named_few f h [] = omega arith
named_few f h (op ∷ ops) = omega (arith, h op, named_few f h ops, length-append (f op) (flat_map f ops))

-- scripts have at most 16 operations
scripts_few : (v : ℕ) (table : KeyTable) (txs : List (List Op)) → Each (GoodScript scene_limits v table) txs → length (flat_map (λ ops. ops) txs) ≤ 16 * length txs
scripts_few v table [] h = omega arith
scripts_few v table (ops ∷ txs) h =
    omega (arith, h.0.1, scripts_few v table txs h.1, length-append ops (flat_map (λ xs. xs) txs))

ops_few : (v nodes : ℕ) (table : KeyTable) (ss : List Session) → Each (GoodSession scene_limits v nodes table) ss → length (flat_map (λ s. flat_map (λ ops. ops) s.txs) ss) ≤ 16 * tx_count ss
ops_few v nodes table [] h = omega arith
ops_few v nodes table (s ∷ ss) h =
    omega (arith, scripts_few v table s.txs h.0.1, ops_few v nodes table ss h.1, sum_by-append (λ x. length x.txs) (s ∷ []) ss, length-append (flat_map (λ ops. ops) s.txs) (flat_map (λ x. flat_map (λ ops. ops) x.txs) ss))

-- a table with as many names as operations give them
table_few : (f : Op → List ℕ) → ((op : Op) → length (f op) ≤ 1) → (d : Scene) (ops : List Op) (n : ℕ) → Kept scene_limits d ops → tx_count d.sessions < 1024 →
    counted 0 (flat_map f (all_ops d ++ ops)) ≡ Some n → n ≤ 16368 + length ops
table_few f h d ops n k few e =
    omega (arith, counted_few 0 (flat_map f (all_ops d ++ ops)) n e, named_few f h (all_ops d ++ ops), length-append (all_ops d) ops, ops_few d.version d.nodes d.keys d.sessions k.sessions)

string_few : (a : List ℕ) (bs : List (List ℕ)) → length (with_string a bs) ≤ length bs + 1
string_few a [] = omega arith
string_few a (b ∷ bs) = one_more (bytes_eq a b) b bs (with_string a bs) (string_few a bs)

-- by the first test that fails
fault_by : (a b c : Bool) (f : SceneFault) (P : SceneFault → Type 0) → a ≡ true → (b ≡ false → P Range) → (b ≡ true → c ≡ false → P Count) → P Memory → IsRefused (first_fault a b c) f → P f
fault_by false b c f P may range count memory r = absurd (cc)
fault_by true false c f P may range count memory (inl e) = subst P (same_Some _ _ e) (range refl)
fault_by true false c f P may range count memory (inr e) = absurd (none-some _ (sym e.0))
fault_by true true false f P may range count memory (inl e) = subst P (same_Some _ _ e) (count refl refl)
fault_by true true false f P may range count memory (inr e) = absurd (none-some _ (sym e.0))
fault_by true true true f P may range count memory (inl e) = absurd (none-some _ e)
fault_by true true true f P may range count memory (inr e) = subst P (sym e.1) memory

second_false : (a b : Bool) → a ≡ true → (a && b) ≡ false → b ≡ false
second_false a b e f = by_cases a e f
  where
    by_cases : (x : Bool) → x ≡ true → (x && b) ≡ false → b ≡ false
    by_cases true p q = q
    by_cases false p q = absurd (cc)

-- why the key of an operation is refused
pub key_refused : (s : State) (name : List ℕ) (part : PartId) (f : SceneFault) → IsReached s → op_follows s.place ≡ Some AfterOp → is_name name ≡ true →
    IsRefused (key_fault (name, part) s.draft) f → IsKeyRefused s part f
key_refused s name part f r order named refused =
    let h = stands s r in
    let d = s.draft in
    let b = op_body s.place d s.ops AfterOp h.at_place order in
    let few : length d.keys.names ≤ 16368 + length s.ops = table_few key_of key_few d s.ops (length d.keys.names) h.kept b.1 h.kept.table.key_order in
    fault_by _ (is_name name && is_up_to (length d.parts) part.0) (nat_le (length (with_pair (name, part) d.keys.names)) 16384) f (IsKeyRefused s part)
    (op_may s.place d s.ops AfterOp h.at_place order)
    (λ e. second_false (is_name name) (is_up_to (length d.parts) part.0) named e)
    (λ e full. ((and_parts (is_name name) (is_up_to (length d.parts) part.0) e).1, full_ops (length (with_pair (name, part) d.keys.names)) (length d.keys.names) (length s.ops) full (pair_few (name, part) d.keys.names) few))
    tt refused
  where
    full_ops : (n m k : ℕ) → nat_le n 16384 ≡ false → n ≤ m + 1 → m ≤ 16368 + k → 16 ≤ k
    full_ops n m k full a b = let more : 16384 < n = grind (arith, nat_tests) in omega arith

-- a key that is taken is in range
pub key_in_range : (d : Scene) (name : List ℕ) (part : PartId) → key_fault (name, part) d ≡ None → is_up_to (length d.parts) part.0 ≡ true
key_in_range d name part e =
    (and_parts (is_name name) (is_up_to (length d.parts) part.0) (no_fault _ (is_name name && is_up_to (length d.parts) part.0) _ e).1).1

-- and has its place as its number
pub key_number_is : (d : Scene) (key : List ℕ × PartId) (k : KeyId) → number_of key d.keys.names ≡ Some k → k ≡ key_number key d
key_number_is d key k e = by_test (nat_le (length (with_pair key d.keys.names)) 16384) e
  where
    by_test : (t : Bool) → cond t (Some (key_number key d)) None ≡ Some k → k ≡ key_number key d
    by_test true f = sym (same_Some _ _ f)
    by_test false f = absurd (none-some _ f)

-- the same of what a call gives
pub keys_refused : (s : State) (d : Scene) (name bytes : List ℕ) (part : PartId) (r : Result KeyId SceneFault) → d ≡ s.draft → bytes ≡ name → IsReached s → op_follows s.place ≡ Some AfterOp → is_name name ≡ true →
    IfErr r (λ f. IsRefused (key_fault (bytes, part) d) f) → IfErr r (λ f. IsKeyRefused s part f)
keys_refused s d name bytes part (Ok k) same spelled r order named e = tt
keys_refused s d name bytes part (Err f) same spelled r order named e =
    key_refused s name part f r order named (subst (λ x. IsRefused (key_fault (name, part) x) f) same (subst (λ x. IsRefused (key_fault (x, part) d) f) spelled e))

-- why the byte string of an operation is refused
pub puts_refused : (s : State) (d : Scene) (name bytes : List ℕ) (part : PartId) (next : Place) (f : SceneFault) → d ≡ with_key (name, part) s.draft → IsReached s →
    follows s.draft.version s.place (LPuts name part bytes) ≡ Some next → is_up_to (length s.draft.parts) part.0 ≡ true → IsRefused (text_fault bytes d) f → IsRefusedFor s (LPuts name part bytes) f
puts_refused s d name bytes part next f same r order range refused =
    let h = stands s r in
    let op = puts_op s.draft.version s.place next order in
    let b = op_body s.place s.draft s.ops next h.at_place op in
    let few : length s.draft.keys.texts ≤ 16368 + length s.ops = table_few text_of text_few s.draft s.ops (length s.draft.keys.texts) h.kept b.1 h.kept.table.text_order in
    let short : in_range s.draft (LPuts name part bytes) ≡ nat_le (length bytes) 64 = ap (λ a. a && nat_le (length bytes) 64) range in
    fault_by (may_have_tx s.draft) (nat_le (length bytes) 64) (nat_le (length (with_string bytes s.draft.keys.texts)) 16384) f (IsRefusedFor s (LPuts name part bytes))
    (op_may s.place s.draft s.ops next h.at_place op)
    (λ e. refused_range s (LPuts name part bytes) next order (short ∙ e))
    (λ e full. refused_count s (LPuts name part bytes) next order (short ∙ e) (no_room (length s.ops) (full_texts (length (with_string bytes s.draft.keys.texts)) (length s.draft.keys.texts) (length s.ops) full (string_few bytes s.draft.keys.texts) few)))
    tt (subst (λ x. IsRefused (text_fault bytes x) f) same refused)
  where
    puts_op : (v : ℕ) (place next : Place) → puts_follows v place ≡ Some next → op_follows place ≡ Some next
    puts_op v place next e = by_test (v == 2) e
      where
        by_test : (t : Bool) → cond t (op_follows place) None ≡ Some next → op_follows place ≡ Some next
        by_test true x = x
        by_test false x = absurd (none-some _ x)

    full_texts : (n m k : ℕ) → nat_le n 16384 ≡ false → n ≤ m + 1 → m ≤ 16368 + k → 16 ≤ k
    full_texts n m k full a b = let more : 16384 < n = grind (arith, nat_tests) in omega arith

    no_room : (n : ℕ) → 16 ≤ n → nat_lt n 16 ≡ false
    no_room n h = grind (arith, nat_tests)

-- the same of other bytes that are these
pub puts_refused_as : (s : State) (d : Scene) (name bytes raw : List ℕ) (part : PartId) (next : Place) (f : SceneFault) → raw ≡ bytes → d ≡ with_key (name, part) s.draft → IsReached s →
    follows s.draft.version s.place (LPuts name part bytes) ≡ Some next → is_up_to (length s.draft.parts) part.0 ≡ true → IsRefused (text_fault raw d) f → IsRefusedFor s (LPuts name part bytes) f
puts_refused_as s d name bytes raw part next f spelled same r order range e =
    puts_refused s d name bytes part next f same r order range (subst (λ x. IsRefused (text_fault x d) f) spelled e)
