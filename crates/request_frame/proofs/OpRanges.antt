-- An operation whose numbers are in range fits its type, where there are as few partitions as in a scene.
use Rattle.std.proofs.Common.{Bool, None, arith, false, length, nat_le, refl, true, ℕ, ◌≡◌, ◌≤◌}
use Rattle.std.proofs.lemmas.Bool.{and_parts, leb-true}
use Rattle.std.specs.Option.{SomeIff}
use Rattle.str_base.specs.declared.limits.TheConstants.{PARTITIONS, TEXT_BYTES}
use Rattle.request_frame.specs.FrameBytes.{IsOpForm}
use Rattle.scene_text.proofs.Spelling.NumbersFit.{part_fits}
use Rattle.scene_text.specs.LineTexts.{Fits}
use Rattle.scene_text.specs.Taking.{in_range, is_number, is_up_to}
use Rattle.scene_text.specs.declared.lines.Line.{Line}
use Rattle.scene_text.specs.declared.lines.Line.TheVariants.{Abort as LAbort, Add as LAdd, Del as LDel, Get as LGet, Need as LNeed, Put as LPut, Puts as LPuts}
use Rattle.str_scene.specs.Scenes.{Scene}

op_fits : (d : Scene) (l : Line) → length d.parts ≤ PARTITIONS → IsOpForm l → in_range d l ≡ true → Fits l
op_fits d (LGet name p) few h e = part_fits (length d.parts) p.0 few e
op_fits d (LPut name p n) few h e = (part_fits (length d.parts) p.0 few (and_parts (is_up_to (length d.parts) p.0) (is_number n) e).0, h.1)
op_fits d (LPuts name p bytes) few h e =
    let tests = and_parts (is_up_to (length d.parts) p.0) (nat_le (length bytes) TEXT_BYTES) e in
    (part_fits (length d.parts) p.0 few tests.0, leb-true (length bytes) TEXT_BYTES tests.1)
op_fits d (LAdd name p n) few h e = (part_fits (length d.parts) p.0 few (and_parts (is_up_to (length d.parts) p.0) (is_number n) e).0, h.1)
op_fits d (LDel name p) few h e = part_fits (length d.parts) p.0 few e
op_fits d (LNeed name p n) few h e = (part_fits (length d.parts) p.0 few (and_parts (is_up_to (length d.parts) p.0) (is_number n) e).0, h.1)
op_fits d LAbort few h e = tt
op_fits d _ few h e = absurd h

not_true : (b : Bool) → (b ≡ true → ⊥) → b ≡ false
not_true true none = absurd (none refl)
not_true false none = refl

-- so one that does not fit is out of range
pub op_unfit : (parts_ : ℕ) (d : Scene) (l : Line) → parts_ ≤ PARTITIONS → length d.parts ≡ parts_ → IsOpForm l → SomeIff None (Fits l) l → in_range d l ≡ false
op_unfit parts_ d l few e h none = not_true (in_range d l) (λ t. none (op_fits d l (omega (arith, few, e)) h t))
