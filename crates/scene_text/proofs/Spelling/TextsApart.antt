-- Each line of the form has a text of its own, in which no line feed stands.
use Rattle.std.proofs.Common.{List, [], ap, append_assoc, arith, codes, get_or, length, length-append, nat_lt, not, refl, sym, true, ℕ, ◌%◌, ◌++◌, ◌+◌, ◌*◌, ◌/◌, ◌<◌, ◌==◌, ◌∙◌, ◌∷◌, ◌≡◌}
use Rattle.std.proofs.lemmas.Bool.{and_from, and_parts}
use Rattle.std.proofs.lemmas.Bool.Decides.{nat_tests}
use Rattle.std.proofs.lemmas.List.{append_cancel_left}
use Rattle.std.specs.List.{list_all}
use Rattle.std.specs.Prelude.{flat_map}
use Rattle.scene_text.proofs.Spelling.Numerals.{numeral-injective, numeral-without, signed_numeral-injective, signed_numeral-without}
use Rattle.scene_text.specs.LineTexts.{AreBytes, IsForm, bytes_text, key_text, line_text}
use Rattle.scene_text.specs.Numerals.{numeral, signed_numeral}
use Rattle.scene_text.specs.declared.lines.Line.{Line}
use Rattle.scene_text.specs.declared.lines.Line.TheVariants.{Abort as LAbort, Add as LAdd, Client as LClient, Del as LDel, Deliver as LDeliver, Drain as LDrain, End as LEnd, Get as LGet, Need as LNeed, Nodes as LNodes, Part as LPart, Put as LPut, Puts as LPuts, Schedule as LSchedule, Session as LSession, Tx as LTx, Version as LVersion}
use Rattle.str_base.specs.declared.names.NodeId.{NodeId}
use Rattle.str_base.specs.declared.names.PartId.{PartId}
use Rattle.str_scene.proofs.Without.{is_without-append, is_without-name, split_unique}
use Rattle.str_scene.specs.SceneLimits.{is_name}
use Rattle.str_scene.specs.Spelling.{hex_byte, hex_digit}
use Rattle.str_scene.specs.Lists.{is_without}

-- a key, a space and more, in their parts
key_parts : (name : List ℕ) (p : PartId) (xs : List ℕ) → key_text name p ++ 32 ∷ xs ≡ name ++ 64 ∷ (numeral p.0 ++ 32 ∷ xs)
key_parts name p xs = append_assoc (name ++ 64 ∷ []) (numeral p.0) (32 ∷ xs) ∙ append_assoc name (64 ∷ []) (numeral p.0 ++ 32 ∷ xs)

-- a key and what follows a space after it
key_then : (name other : List ℕ) (p q : PartId) (xs ys : List ℕ) → is_name name ≡ true → is_name other ≡ true → key_text name p ++ 32 ∷ xs ≡ key_text other q ++ 32 ∷ ys →
    (name ≡ other) × (p ≡ q) × (xs ≡ ys)
key_then name other p q xs ys a b e =
    let first = split_unique 64 name (numeral p.0 ++ 32 ∷ xs) other (numeral q.0 ++ 32 ∷ ys) (is_without-name 64 name refl refl a) (is_without-name 64 other refl refl b)
    (sym (key_parts name p xs) ∙ (e ∙ key_parts other q ys)) in
    let second = split_unique 32 (numeral p.0) xs (numeral q.0) ys (numeral-without 32 p.0 refl) (numeral-without 32 q.0 refl) first.1 in
    let part : p.0 ≡ q.0 = numeral-injective p.0 q.0 second.0 in
    (first.0, ap (λ n. record { 0 = n }) part, second.1)

-- a key alone
key_alone : (name other : List ℕ) (p q : PartId) → is_name name ≡ true → is_name other ≡ true → key_text name p ≡ key_text other q → (name ≡ other) × (p ≡ q)
key_alone name other p q a b e = let h = key_then name other p q [] [] a b (ap (λ xs. xs ++ 32 ∷ []) e) in (h.0, h.1)

-- a key and what follows a space, as lines have it
key_and : (name other : List ℕ) (p q : PartId) (xs ys : List ℕ) → is_name name ≡ true → is_name other ≡ true →
    (key_text name p ++ codes " ") ++ xs ≡ (key_text other q ++ codes " ") ++ ys → (name ≡ other) × (p ≡ q) × (xs ≡ ys)
key_and name other p q xs ys a b e =
    key_then name other p q xs ys a b (sym (append_assoc (key_text name p) (32 ∷ []) xs) ∙ (e ∙ append_assoc (key_text other q) (32 ∷ []) ys))

-- numbers, each with a space after it
abbrev spaced : List NodeId → List ℕ
spaced row = flat_map (λ r. numeral r.0 ++ 32 ∷ []) row

-- spaces before and after
shifted : (row : List NodeId) → flat_map (λ r. codes " " ++ numeral r.0) row ++ 32 ∷ [] ≡ 32 ∷ spaced row
shifted [] = refl
shifted (r ∷ row) =
    ap (λ xs. 32 ∷ xs) (append_assoc (numeral r.0) (flat_map (λ x. codes " " ++ numeral x.0) row) (32 ∷ [])
    ∙ (ap (λ xs. numeral r.0 ++ xs) (shifted row) ∙ sym (append_assoc (numeral r.0) (32 ∷ []) (spaced row))))

-- numbers apart
spaced-injective : (row other : List NodeId) → spaced row ≡ spaced other → row ≡ other
spaced-injective [] [] e = refl
spaced-injective [] (r ∷ row) e = absurd (omega (arith, ap length e, length-append (numeral r.0) (32 ∷ []), length-append (numeral r.0 ++ 32 ∷ []) (spaced row)))
spaced-injective (r ∷ row) [] e = absurd (omega (arith, ap length e, length-append (numeral r.0) (32 ∷ []), length-append (numeral r.0 ++ 32 ∷ []) (spaced row)))
spaced-injective (r ∷ row) (s ∷ other) e =
    let h = split_unique 32 (numeral r.0) (spaced row) (numeral s.0) (spaced other) (numeral-without 32 r.0 refl) (numeral-without 32 s.0 refl)
    (sym (append_assoc (numeral r.0) (32 ∷ []) (spaced row)) ∙ (e ∙ append_assoc (numeral s.0) (32 ∷ []) (spaced other))) in
    let node : r.0 ≡ s.0 = numeral-injective r.0 s.0 h.0 in
    let first : r ≡ s = ap (λ n. record { 0 = n }) node in
    let rest : row ≡ other = spaced-injective row other h.1 in
    cc (first, rest)

-- a partition's line in its parts
part_parts : (p q : PartId) (row other : List NodeId) → numeral p.0 ++ flat_map (λ r. codes " " ++ numeral r.0) row ≡ numeral q.0 ++ flat_map (λ r. codes " " ++ numeral r.0) other → (p ≡ q) × (row ≡ other)
part_parts p q row other e =
    let longer : (n : PartId) (xs : List NodeId) → (numeral n.0 ++ flat_map (λ r. codes " " ++ numeral r.0) xs) ++ 32 ∷ [] ≡ numeral n.0 ++ 32 ∷ spaced xs =
    λ n xs. append_assoc (numeral n.0) (flat_map (λ r. codes " " ++ numeral r.0) xs) (32 ∷ []) ∙ ap (λ ys. numeral n.0 ++ ys) (shifted xs) in
    let h = split_unique 32 (numeral p.0) (spaced row) (numeral q.0) (spaced other) (numeral-without 32 p.0 refl) (numeral-without 32 q.0 refl)
    (sym (longer p row) ∙ (ap (λ xs. xs ++ 32 ∷ []) e ∙ longer q other)) in
    let part : p.0 ≡ q.0 = numeral-injective p.0 q.0 h.0 in
    (ap (λ n. record { 0 = n }) part, spaced-injective row other h.1)

-- a digit from 0 to 15 by its byte
hex_digit-injective : (a b : ℕ) → a < 16 → b < 16 → hex_digit a ≡ hex_digit b → a ≡ b
hex_digit-injective a b l m e = grind (arith, nat_tests)

-- bytes by their digits
hex-injective : (xs ys : List ℕ) → AreBytes xs → AreBytes ys → flat_map hex_byte xs ≡ flat_map hex_byte ys → xs ≡ ys
hex-injective [] [] a b e = refl
hex-injective [] (y ∷ ys) a b e = absurd (cc)
hex-injective (x ∷ xs) [] a b e = absurd (cc)
hex-injective (x ∷ xs) (y ∷ ys) a b e =
    let p = and_parts (nat_lt x 256) (list_all (λ z. nat_lt z 256) xs) a in
    let q = and_parts (nat_lt y 256) (list_all (λ z. nat_lt z 256) ys) b in
    let small : nat_lt x 256 ≡ true = p.0 in
    let less : nat_lt y 256 ≡ true = q.0 in
    let x_fits : x < 256 = grind (arith, nat_tests) in
    let y_fits : y < 256 = grind (arith, nat_tests) in
    let high : hex_digit (x / 16) ≡ hex_digit (y / 16) = ap (λ bs. get_or bs 0 0) e in
    let low : hex_digit (x % 16) ≡ hex_digit (y % 16) = ap (λ bs. get_or bs 1 0) e in
    let rest : flat_map hex_byte xs ≡ flat_map hex_byte ys = cc in
    let h : x / 16 ≡ y / 16 = hex_digit-injective (x / 16) (y / 16) (omega arith) (omega arith) high in
    let l : x % 16 ≡ y % 16 = hex_digit-injective (x % 16) (y % 16) (omega arith) (omega arith) low in
    let first : x ≡ y = omega arith in
    let others : xs ≡ ys = hex-injective xs ys p.1 q.1 rest in
    cc (first, others)

-- the first two bytes, as one number
abbrev first_two : List ℕ → ℕ
first_two bytes = get_or bytes 0 0 * 256 + get_or bytes 1 0

-- each line of the form has a text of its own
pub line_text-injective : (l m : Line) → IsForm l → IsForm m → line_text l ≡ line_text m → l ≡ m
line_text-injective (LVersion v) (LVersion w) a b e = ap LVersion (numeral-injective v w (append_cancel_left (codes "str ") _ _ e))
line_text-injective (LNodes n) (LNodes m) a b e = ap LNodes (numeral-injective n m (append_cancel_left (codes "nodes ") _ _ e))
line_text-injective (LPart p row) (LPart q other) a b e =
    let h = part_parts p q row other (append_cancel_left (codes "part ") _ _ e) in
    let part : p ≡ q = h.0 in
    let same : row ≡ other = h.1 in
    cc (part, same)
line_text-injective (LSession n) (LSession m) a b e =
    let same : n.0 ≡ m.0 = numeral-injective n.0 m.0 (append_cancel_left (codes "session ") _ _ e) in
    ap (λ k. LSession (record { 0 = k })) same
line_text-injective LTx LTx a b e = refl
line_text-injective (LGet name p) (LGet other q) a b e =
    let h = key_alone name other p q a b (append_cancel_left (codes "get ") _ _ e) in
    let named : name ≡ other = h.0 in
    let part : p ≡ q = h.1 in
    cc (named, part)
line_text-injective (LDel name p) (LDel other q) a b e =
    let h = key_alone name other p q a b (append_cancel_left (codes "del ") _ _ e) in
    let named : name ≡ other = h.0 in
    let part : p ≡ q = h.1 in
    cc (named, part)
line_text-injective (LPut name p n) (LPut other q m) a b e =
    let h = key_and name other p q (signed_numeral n) (signed_numeral m) a b (append_cancel_left (codes "put ") _ _ e) in
    let named : name ≡ other = h.0 in
    let part : p ≡ q = h.1 in
    let same : n ≡ m = signed_numeral-injective n m h.2 in
    cc (named, part, same)
line_text-injective (LAdd name p n) (LAdd other q m) a b e =
    let h = key_and name other p q (signed_numeral n) (signed_numeral m) a b (append_cancel_left (codes "add ") _ _ e) in
    let named : name ≡ other = h.0 in
    let part : p ≡ q = h.1 in
    let same : n ≡ m = signed_numeral-injective n m h.2 in
    cc (named, part, same)
line_text-injective (LNeed name p n) (LNeed other q m) a b e =
    let h = key_and name other p q (signed_numeral n) (signed_numeral m) a b (append_cancel_left (codes "need ") _ _ e) in
    let named : name ≡ other = h.0 in
    let part : p ≡ q = h.1 in
    let same : n ≡ m = signed_numeral-injective n m h.2 in
    cc (named, part, same)
line_text-injective (LPuts name p xs) (LPuts other q ys) a b e =
    let h = key_and name other p q (bytes_text xs) (bytes_text ys) a.0 b.0 (append_cancel_left (codes "puts ") _ _ e) in
    let named : name ≡ other = h.0 in
    let part : p ≡ q = h.1 in
    let same : xs ≡ ys = hex-injective xs ys a.1 b.1 (append_cancel_left (codes "x") _ _ h.2) in
    cc (named, part, same)
line_text-injective (LPut name p n) (LPuts other q ys) a b e = absurd (omega (arith, ap (λ bs. get_or bs 3 0) e))
line_text-injective (LPuts name p xs) (LPut other q m) a b e = absurd (omega (arith, ap (λ bs. get_or bs 3 0) e))
line_text-injective LAbort LAbort a b e = refl
line_text-injective LSchedule LSchedule a b e = refl
line_text-injective (LClient s t) (LClient r u) a b e =
    let h = split_unique 32 (numeral s.0) (numeral t) (numeral r.0) (numeral u) (numeral-without 32 s.0 refl) (numeral-without 32 r.0 refl)
    (sym (append_assoc (numeral s.0) (32 ∷ []) (numeral t)) ∙ (append_cancel_left (codes "c ") ((numeral s.0 ++ codes " ") ++ numeral t) ((numeral r.0 ++ codes " ") ++ numeral u) e ∙ append_assoc (numeral r.0) (32 ∷ []) (numeral u))) in
    let number : s.0 ≡ r.0 = numeral-injective s.0 r.0 h.0 in
    let session : s ≡ r = ap (λ n. record { 0 = n }) number in
    let reading : t ≡ u = numeral-injective t u h.1 in
    cc (session, reading)
line_text-injective (LDeliver i) (LDeliver j) a b e = ap LDeliver (numeral-injective i j (append_cancel_left (codes "d ") _ _ e))
line_text-injective LDrain LDrain a b e = refl
line_text-injective LEnd LEnd a b e = refl
line_text-injective _ _ a b e = absurd (omega (arith, ap first_two e))

-- no line feed stands in digits of bytes
hex_digit-no_feed : (n : ℕ) → not (hex_digit n == 10) ≡ true
hex_digit-no_feed n = grind (arith, nat_tests)

hex-no_feed : (xs : List ℕ) → is_without 10 (flat_map hex_byte xs) ≡ true
hex-no_feed [] = refl
hex-no_feed (x ∷ xs) = and_from _ _ (hex_digit-no_feed (x / 16)) (and_from _ _ (hex_digit-no_feed (x % 16)) (hex-no_feed xs))

-- nor in a key
key-no_feed : (name : List ℕ) (p : PartId) → is_name name ≡ true → is_without 10 (key_text name p) ≡ true
key-no_feed name p ok =
    is_without-append 10 (name ++ codes "@") (numeral p.0) (is_without-append 10 name (codes "@") (is_without-name 10 name refl refl ok) refl) (numeral-without 10 p.0 refl)

-- nor in a key and more
key_and-no_feed : (name : List ℕ) (p : PartId) (xs : List ℕ) → is_name name ≡ true → is_without 10 xs ≡ true → is_without 10 ((key_text name p ++ codes " ") ++ xs) ≡ true
key_and-no_feed name p xs ok e =
    is_without-append 10 (key_text name p ++ codes " ") xs (is_without-append 10 (key_text name p) (codes " ") (key-no_feed name p ok) refl) e

-- nor in a row
row-no_feed : (row : List NodeId) → is_without 10 (flat_map (λ r. codes " " ++ numeral r.0) row) ≡ true
row-no_feed [] = refl
row-no_feed (r ∷ row) = is_without-append 10 (codes " " ++ numeral r.0) (flat_map (λ x. codes " " ++ numeral x.0) row) (numeral-without 10 r.0 refl) (row-no_feed row)

-- nor in a line of the form
pub line_text-no_feed : (l : Line) → IsForm l → is_without 10 (line_text l) ≡ true
line_text-no_feed (LVersion v) f = numeral-without 10 v refl
line_text-no_feed (LNodes n) f = numeral-without 10 n refl
line_text-no_feed (LPart p row) f = is_without-append 10 (numeral p.0) (flat_map (λ r. codes " " ++ numeral r.0) row) (numeral-without 10 p.0 refl) (row-no_feed row)
line_text-no_feed (LSession n) f = numeral-without 10 n.0 refl
line_text-no_feed (LGet name p) f = key-no_feed name p f
line_text-no_feed (LPut name p n) f = key_and-no_feed name p (signed_numeral n) f (signed_numeral-without 10 n refl refl)
line_text-no_feed (LPuts name p xs) f = key_and-no_feed name p (bytes_text xs) f.0 (hex-no_feed xs)
line_text-no_feed (LAdd name p n) f = key_and-no_feed name p (signed_numeral n) f (signed_numeral-without 10 n refl refl)
line_text-no_feed (LDel name p) f = key-no_feed name p f
line_text-no_feed (LNeed name p n) f = key_and-no_feed name p (signed_numeral n) f (signed_numeral-without 10 n refl refl)
line_text-no_feed (LClient s t) f =
    is_without-append 10 (numeral s.0 ++ codes " ") (numeral t) (is_without-append 10 (numeral s.0) (codes " ") (numeral-without 10 s.0 refl) refl) (numeral-without 10 t refl)
line_text-no_feed (LDeliver i) f = numeral-without 10 i refl
line_text-no_feed _ f = refl

-- strings of one text are one
pub bytes_text-injective : (xs ys : List ℕ) → AreBytes xs → AreBytes ys → bytes_text xs ≡ bytes_text ys → xs ≡ ys
bytes_text-injective xs ys a b e =
    let name : List ℕ = 97 ∷ [] in
    let part : PartId = record { 0 = 1 } in
    let lines : LPuts name part xs ≡ LPuts name part ys =
    line_text-injective (LPuts name part xs) (LPuts name part ys) (refl, a) (refl, b) (ap (λ zs. codes "puts " ++ key_text name part ++ codes " " ++ zs) e) in
    cc
