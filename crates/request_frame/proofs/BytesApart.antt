-- Each operation has bytes of its own, and so has each frame.
use Rattle.std.proofs.Common.{List, [], ap, append_assoc, arith, get_or, length, negsuc, pos, refl, sym, ℕ, ℤ, ◌%◌, ◌++◌, ◌/◌, ◌<◌, ◌^◌, ◌∙◌, ◌∷◌, ◌≡◌, ◌≤◌}
use Rattle.std.proofs.lemmas.Nat.{from_be_bytes-to_be_bytes_8}
use Rattle.std.specs.Int.{cast_unsigned, from_be_bytes, w64}
use Rattle.request_frame.proofs.Coded.{Code, parts_same, spelled_same}
use Rattle.request_frame.specs.FrameBytes.{IsForm, IsOpForm, frame_bytes, key_bytes, number_bytes, op_bytes, row_bytes, script_bytes, sized, string_bytes, value_bytes}
use Rattle.request_frame.specs.Frames.{Frame}
use Rattle.request_frame.specs.Frames.Frame.{Client, Deliver, Drain, End, Nodes, Part, Session_, Tx, Version}
use Rattle.scene_text.specs.declared.lines.Line.{Line}
use Rattle.scene_text.specs.declared.lines.Line.TheVariants.{Abort as LAbort, Add as LAdd, Del as LDel, Get as LGet, Need as LNeed, Put as LPut, Puts as LPuts}
use Rattle.str_base.specs.declared.names.NodeId.{NodeId}
use Rattle.str_base.specs.declared.names.PartId.{PartId}
use Rattle.str_scene.specs.SceneLimits.{IsNumber}

-- numbers by their bytes
pub number-injective : (m n : ℕ) → m < 2 ^ 64 → n < 2 ^ 64 → number_bytes m ≡ number_bytes n → m ≡ n
number-injective m n a b e = sym (from_be_bytes-to_be_bytes_8 m a) ∙ (ap (from_be_bytes w64) e ∙ from_be_bytes-to_be_bytes_8 n b)

number_length : (n : ℕ) → length (number_bytes n) ≡ 8
number_length n = refl

-- numbers with a sign
pub unsigned_small : (z : ℤ) → IsNumber z → cast_unsigned w64 z < 2 ^ 64
unsigned_small (pos n) h = omega arith
unsigned_small (negsuc n) h = omega arith

unsigned-injective : (a b : ℤ) → IsNumber a → IsNumber b → cast_unsigned w64 a ≡ cast_unsigned w64 b → a ≡ b
unsigned-injective (pos a) (pos b) h k e = ap pos e
unsigned-injective (negsuc a) (negsuc b) h k e = let same : a ≡ b = omega arith in ap negsuc same
unsigned-injective (pos a) (negsuc b) h k e = absurd (omega arith)
unsigned-injective (negsuc a) (pos b) h k e = absurd (omega arith)

pub value-injective : (a b : ℤ) → IsNumber a → IsNumber b → value_bytes a ≡ value_bytes b → a ≡ b
value-injective a b h k e =
    unsigned-injective a b h k (number-injective (cast_unsigned w64 a) (cast_unsigned w64 b) (unsigned_small a h) (unsigned_small b k) e)

-- numbers before other bytes
number_apart : (m n : ℕ) (us vs : List ℕ) → number_bytes m ++ us ≡ number_bytes n ++ vs → (number_bytes m ≡ number_bytes n) × (us ≡ vs)
number_apart m n us vs e = parts_same (number_bytes m) (number_bytes n) us vs (number_length m ∙ sym (number_length n)) e

-- keys before other bytes
pub key_apart : (name other : List ℕ) (p q : PartId) (us vs : List ℕ) → key_bytes name p ++ us ≡ key_bytes other q ++ vs → (name ≡ other) × (p ≡ q) × (us ≡ vs)
key_apart name other p q us vs e =
    let part : p.0 ≡ q.0 = cc in
    let size : length name ≡ length other = cc in
    let rest : name ++ us ≡ other ++ vs = cc in
    let h = parts_same name other us vs size rest in
    (h.0, ap (λ n. record { 0 = n }) part, h.1)

-- byte strings before other bytes
pub string_apart : (xs ys us vs : List ℕ) → string_bytes xs ++ us ≡ string_bytes ys ++ vs → (xs ≡ ys) × (us ≡ vs)
string_apart xs ys us vs e =
    let size : length xs ≡ length ys = cc in
    let rest : xs ++ us ≡ ys ++ vs = cc in
    parts_same xs ys us vs size rest

-- a key and a number before other bytes
key_number_apart : (name other : List ℕ) (p q : PartId) (a b : ℤ) (us vs : List ℕ) → IsNumber a → IsNumber b →
    (key_bytes name p ++ value_bytes a) ++ us ≡ (key_bytes other q ++ value_bytes b) ++ vs → (name ≡ other) × (p ≡ q) × (a ≡ b) × (us ≡ vs)
key_number_apart name other p q a b us vs h k e =
    let key = key_apart name other p q (value_bytes a ++ us) (value_bytes b ++ vs)
    (sym (append_assoc (key_bytes name p) (value_bytes a) us) ∙ (e ∙ append_assoc (key_bytes other q) (value_bytes b) vs)) in
    let number = number_apart (cast_unsigned w64 a) (cast_unsigned w64 b) us vs key.2 in
    (key.0, key.1, value-injective a b h k number.0, number.1)

-- the code of an operation, 0 of another line
abbrev code : Line → ℕ
code (LGet name p) = 1
code (LPut name p n) = 2
code (LAdd name p n) = 3
code (LDel name p) = 4
code (LNeed name p n) = 5
code LAbort = 6
code (LPuts name p bytes) = 7
code _ = 0

some_code : (l : Line) → IsOpForm l → 1 ≤ code l
some_code (LGet name p) h = omega arith
some_code (LPut name p n) h = omega arith
some_code (LAdd name p n) h = omega arith
some_code (LDel name p) h = omega arith
some_code (LNeed name p n) h = omega arith
some_code LAbort h = omega arith
some_code (LPuts name p bytes) h = omega arith
some_code _ h = absurd h

first_code : (l : Line) (us : List ℕ) → IsOpForm l → get_or (op_bytes l ++ us) 0 0 ≡ code l
first_code (LGet name p) us h = refl
first_code (LPut name p n) us h = refl
first_code (LAdd name p n) us h = refl
first_code (LDel name p) us h = refl
first_code (LNeed name p n) us h = refl
first_code LAbort us h = refl
first_code (LPuts name p bytes) us h = refl
first_code _ us h = absurd h

-- what two operations before other bytes have as code
same_code : (l m : Line) (us vs : List ℕ) → IsOpForm l → IsOpForm m → op_bytes l ++ us ≡ op_bytes m ++ vs → code l ≡ code m
same_code l m us vs a b e = sym (first_code l us a) ∙ (ap (λ bs. get_or bs 0 0) e ∙ first_code m vs b)

-- all after the first byte
pub rest_same : (c d : ℕ) (us vs : List ℕ) → c ∷ us ≡ d ∷ vs → us ≡ vs
rest_same c d us vs e = cc

-- operations before other bytes
op_apart : (l m : Line) (us vs : List ℕ) → IsOpForm l → IsOpForm m → op_bytes l ++ us ≡ op_bytes m ++ vs → (l ≡ m) × (us ≡ vs)
op_apart (LGet name p) (LGet other q) us vs a b e =
    let h = key_apart name other p q us vs (rest_same _ _ _ _ e) in
    let named : name ≡ other = h.0 in
    let part : p ≡ q = h.1 in
    (cc (named, part), h.2)
op_apart (LPut name p m) (LPut other q n) us vs a b e =
    let h = key_number_apart name other p q m n us vs a.1 b.1 (rest_same _ _ _ _ e) in
    let named : name ≡ other = h.0 in
    let part : p ≡ q = h.1 in
    let number : m ≡ n = h.2 in
    (cc (named, part, number), h.3)
op_apart (LAdd name p m) (LAdd other q n) us vs a b e =
    let h = key_number_apart name other p q m n us vs a.1 b.1 (rest_same _ _ _ _ e) in
    let named : name ≡ other = h.0 in
    let part : p ≡ q = h.1 in
    let number : m ≡ n = h.2 in
    (cc (named, part, number), h.3)
op_apart (LDel name p) (LDel other q) us vs a b e =
    let h = key_apart name other p q us vs (rest_same _ _ _ _ e) in
    let named : name ≡ other = h.0 in
    let part : p ≡ q = h.1 in
    (cc (named, part), h.2)
op_apart (LNeed name p m) (LNeed other q n) us vs a b e =
    let h = key_number_apart name other p q m n us vs a.1 b.1 (rest_same _ _ _ _ e) in
    let named : name ≡ other = h.0 in
    let part : p ≡ q = h.1 in
    let number : m ≡ n = h.2 in
    (cc (named, part, number), h.3)
op_apart LAbort LAbort us vs a b e = (refl, rest_same _ _ _ _ e)
op_apart (LPuts name p xs) (LPuts other q ys) us vs a b e =
    let key = key_apart name other p q (string_bytes xs ++ us) (string_bytes ys ++ vs)
    (sym (append_assoc (key_bytes name p) (string_bytes xs) us) ∙ (rest_same _ _ _ _ e ∙ append_assoc (key_bytes other q) (string_bytes ys) vs)) in
    let text = string_apart xs ys us vs key.2 in
    let named : name ≡ other = key.0 in
    let part : p ≡ q = key.1 in
    let same : xs ≡ ys = text.0 in
    (cc (named, part, same), text.1)
op_apart l m us vs a b e = absurd (omega (arith, some_code l a, same_code l m us vs a b e))

op_some : (l : Line) → IsOpForm l → 1 ≤ length (op_bytes l)
op_some (LGet name p) h = omega arith
op_some (LPut name p n) h = omega arith
op_some (LAdd name p n) h = omega arith
op_some (LDel name p) h = omega arith
op_some (LNeed name p n) h = omega arith
op_some LAbort h = omega arith
op_some (LPuts name p bytes) h = omega arith
op_some _ h = absurd h

-- operations are told apart by their bytes
pub op_code : Code Line op_bytes IsOpForm
op_code = record { some = op_some; apart = op_apart }

-- kinds and payloads before other bytes
pub sized_apart : (k j : ℕ) (p q us vs : List ℕ) → sized k p ++ us ≡ sized j q ++ vs → (k ≡ j) × (p ≡ q) × (us ≡ vs)
sized_apart k j p q us vs e =
    let kind : k ≡ j = cc in
    let high : length p / 256 ≡ length q / 256 = cc in
    let low : length p % 256 ≡ length q % 256 = cc in
    let rest : p ++ us ≡ q ++ vs = cc in
    let size : length p ≡ length q = omega arith in
    let h = parts_same p q us vs size rest in
    (kind, h.0, h.1)

-- rows by their bytes
row-injective : (row other : List NodeId) → row_bytes row ≡ row_bytes other → row ≡ other
row-injective [] [] e = refl
row-injective [] (n ∷ other) e = absurd (cc)
row-injective (r ∷ row) [] e = absurd (cc)
row-injective (r ∷ row) (n ∷ other) e =
    let node : r.0 ≡ n.0 = cc in
    let rest : row_bytes row ≡ row_bytes other = cc in
    let first : r ≡ n = ap (λ k. record { 0 = k }) node in
    let others : row ≡ other = row-injective row other rest in
    cc (first, others)

-- the one byte of a payload
one_byte : (m n : ℕ) → ◌≡◌ {A = List ℕ} (m ∷ []) (n ∷ []) → m ≡ n
one_byte m n e = cc

-- frames before other bytes
frame_apart : (f g : Frame) (us vs : List ℕ) → IsForm f → IsForm g → frame_bytes f ++ us ≡ frame_bytes g ++ vs → (f ≡ g) × (us ≡ vs)
frame_apart (Version v) (Version w) us vs a b e =
    let same : v ≡ w = cc in
    let rest : us ≡ vs = cc in
    (ap Version same, rest)
frame_apart (Nodes m) (Nodes n) us vs a b e =
    let h = sized_apart 1 1 (m ∷ []) (n ∷ []) us vs e in
    (ap Nodes (one_byte m n h.1), h.2)
frame_apart (Part row) (Part other) us vs a b e =
    let h = sized_apart 2 2 (row_bytes row) (row_bytes other) us vs e in
    (ap Part (row-injective row other h.1), h.2)
frame_apart (Session_ m) (Session_ n) us vs a b e =
    let h = sized_apart 3 3 (m.0 ∷ []) (n.0 ∷ []) us vs e in
    (ap (λ k. Session_ (record { 0 = k })) (one_byte m.0 n.0 h.1), h.2)
frame_apart (Tx ops) (Tx others) us vs a b e =
    let h = sized_apart 4 4 (script_bytes ops) (script_bytes others) us vs e in
    (ap Tx (spelled_same op_bytes IsOpForm op_code ops others a.1 b.1 h.1), h.2)
frame_apart (Client s t) (Client r u) us vs a b e =
    let h = sized_apart 5 5 (s.0 ∷ number_bytes t) (r.0 ∷ number_bytes u) us vs e in
    let inside : ◌≡◌ {A = List ℕ} (s.0 ∷ number_bytes t) (r.0 ∷ number_bytes u) = h.1 in
    let number : s.0 ≡ r.0 = ap (λ bs. get_or bs 0 0) inside in
    let session : s ≡ r = ap (λ k. record { 0 = k }) number in
    let reading : t ≡ u = number-injective t u a b (rest_same s.0 r.0 (number_bytes t) (number_bytes u) inside) in
    (cc (session, reading), h.2)
frame_apart (Deliver i) (Deliver j) us vs a b e =
    let h = sized_apart 6 6 (number_bytes i) (number_bytes j) us vs e in
    (ap Deliver (number-injective i j a b h.1), h.2)
frame_apart Drain Drain us vs a b e = (refl, (sized_apart 7 7 [] [] us vs e).2)
frame_apart End End us vs a b e = (refl, (sized_apart 8 8 [] [] us vs e).2)
frame_apart _ _ us vs a b e = absurd (omega (arith, ap (λ bs. get_or bs 0 0) e))

frame_some : (f : Frame) → IsForm f → 1 ≤ length (frame_bytes f)
frame_some (Version v) h = omega arith
frame_some _ h = omega arith

-- frames are told apart by their bytes
pub frame_code : Code Frame frame_bytes IsForm
frame_code = record { some = frame_some; apart = frame_apart }
