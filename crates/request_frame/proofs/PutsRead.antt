-- A write of a byte string, read from the bytes of a transaction.
use Rattle.std.proofs.Common.{List, Option, Some, None, ap, append_assoc, arith, length, nat_lt, subst, sym, true, ℕ, ◌++◌, ◌<◌, ◌∙◌, ◌∷◌, ◌≡◌, ◌≤◌}
use Rattle.std.proofs.lemmas.Bool.{and_parts}
use Rattle.std.proofs.lemmas.List.Folds.{list_all-append}
use Rattle.std.specs.List.{list_all}
use Rattle.std.specs.Option.{SomeIff}
use Rattle.request_frame.proofs.BytesApart.{key_apart, rest_same}
use Rattle.request_frame.specs.FrameBytes.{key_bytes, string_bytes}
use Rattle.request_frame.specs.Reading.{ReadsNoOp, ReadsOp}
use Rattle.scene_text.specs.LineTexts.{AreBytes, Fits}
use Rattle.scene_text.specs.declared.lines.Line.{Line}
use Rattle.scene_text.specs.declared.lines.Line.TheVariants.{Abort as LAbort, Add as LAdd, Del as LDel, Get as LGet, Need as LNeed, Put as LPut, Puts as LPuts}
use Rattle.str_base.specs.declared.limits.TheConstants.{TEXT_BYTES}
use Rattle.str_base.specs.declared.names.PartId.{PartId}
use Rattle.str_scene.specs.SceneLimits.{is_name}

abbrev is_byte_list : List ℕ → Type 0
is_byte_list xs = list_all (λ b. nat_lt b 256) xs ≡ true

-- parts of bytes are bytes
text_bytes : (key text left : List ℕ) → is_byte_list (key ++ (string_bytes text ++ left)) → is_byte_list text
text_bytes key text left h =
    let tail = (and_parts (list_all (λ b. nat_lt b 256) key) (list_all (λ b. nat_lt b 256) (string_bytes text ++ left)) (sym (list_all-append (λ b. nat_lt b 256) key (string_bytes text ++ left)) ∙ h)).1 in
    let parts = (and_parts (nat_lt (length text) 256) (list_all (λ b. nat_lt b 256) (text ++ left)) tail).1 in
    (and_parts (list_all (λ b. nat_lt b 256) text) (list_all (λ b. nat_lt b 256) left) (sym (list_all-append (λ b. nat_lt b 256) text left) ∙ parts)).0

-- it is read, and kept where it is short enough
pub puts_read : (bytes name text rest left : List ℕ) (p : PartId) (kept : Option Line) → bytes ≡ key_bytes name p ++ rest → rest ≡ string_bytes text ++ left → is_name name ≡ true → AreBytes bytes →
    SomeIff kept (Fits (LPuts name p text)) (LPuts name p text) → ReadsOp (7 ∷ bytes) kept left
puts_read bytes name text rest left p kept b r named are k =
    let whole : bytes ≡ key_bytes name p ++ (string_bytes text ++ left) = b ∙ ap (λ xs. key_bytes name p ++ xs) r in
    record {
      op = LPuts name p text;
      form = (named, text_bytes (key_bytes name p) text left (subst AreBytes whole are));
      parts = ap (λ xs. 7 ∷ xs) (whole ∙ sym (append_assoc (key_bytes name p) (string_bytes text) left));
      kept_is = k;
    }

pub puts_kept : (bytes name text rest left short : List ℕ) (p : PartId) → bytes ≡ key_bytes name p ++ rest → rest ≡ string_bytes text ++ left → is_name name ≡ true → AreBytes bytes → p.0 < 256 →
    length text ≤ TEXT_BYTES → short ≡ text → ReadsOp (7 ∷ bytes) (Some (LPuts name p short)) left
puts_kept bytes name text rest left short p b r named are small few same =
    puts_read bytes name text rest left p (Some (LPuts name p short)) b r named are ((small, few), ap (λ xs. LPuts name p xs) same)

pub puts_long : (bytes name text rest left : List ℕ) (p : PartId) → bytes ≡ key_bytes name p ++ rest → rest ≡ string_bytes text ++ left → is_name name ≡ true → AreBytes bytes →
    TEXT_BYTES < length text → ReadsOp (7 ∷ bytes) None left
puts_long bytes name text rest left p b r named are many = puts_read bytes name text rest left p None b r named are (λ fits. omega (arith, many, fits.1))

-- bytes that are one begin with one byte
first_same : (x y : ℕ) (xs ys : List ℕ) → x ∷ xs ≡ y ∷ ys → x ≡ y
first_same x y xs ys e = cc

-- a key with no byte string after it
pub puts_none : (bytes name rest : List ℕ) (p : PartId) → bytes ≡ key_bytes name p ++ rest → ((text us : List ℕ) → ¬ (rest ≡ string_bytes text ++ us)) → ReadsNoOp (7 ∷ bytes)
puts_none bytes name rest p b none (LPuts other q text) us h e =
    let k = key_apart name other p q rest (string_bytes text ++ us) (sym b ∙ (rest_same 7 7 bytes _ e ∙ append_assoc (key_bytes other q) (string_bytes text) us)) in
    none text us k.2
puts_none bytes name rest p b none (LGet other q) us h e = omega (arith, first_same 7 1 _ _ e)
puts_none bytes name rest p b none (LPut other q n) us h e = omega (arith, first_same 7 2 _ _ e)
puts_none bytes name rest p b none (LAdd other q n) us h e = omega (arith, first_same 7 3 _ _ e)
puts_none bytes name rest p b none (LDel other q) us h e = omega (arith, first_same 7 4 _ _ e)
puts_none bytes name rest p b none (LNeed other q n) us h e = omega (arith, first_same 7 5 _ _ e)
puts_none bytes name rest p b none LAbort us h e = omega (arith, first_same 7 6 _ _ e)
puts_none bytes name rest p b none _ us h e = absurd h
