-- What was read, and why it is refused.
use Rattle.history_reading.specs.Histories.{IsHistoryText}
use Rattle.history_reading.specs.declared.reading.History.{History as PastRead}
use Rattle.run_io.proofs.Refusing.{refuses_long}
use Rattle.run_io.specs.Inputs.{HasHistory, HasRead, InputFails, IsSpelled, RefusesInput, too_many}
use Rattle.run_io.specs.declared.inputs.Form.{Form}
use Rattle.std.proofs.Common.{Err, IfErr, IfOk, List, Ok, Option, Result, arith, inl, inr, length, refl, subst, ℕ, ◌<◌, ◌≡◌, ◌≤◌, ◌⊎◌}
use Rattle.std.specs.Io.KnownBytes.{Consumes, IsAtEnd}
use Rattle.str_scene.specs.Scenes.{Scene}
use Rattle.top_status.specs.Failures.{HasReadCause, RefusesWith}
use Rattle.top_status.specs.declared.failure.Failure.{Failure}
use Rattle.top_status.specs.declared.failure.Failure.TheVariants.{Memory, Read, Refused as Refusal, Usage, Write}

-- what is not too long was read to the end
pub read_whole : (left' : Option (List ℕ)) (bytes : List ℕ) → length bytes ≤ 1048576 → (length bytes ≡ 1048577) ⊎ IsAtEnd left' → IsAtEnd left'
read_whole left' bytes s (inl l) = absurd (omega (arith, s, l))
read_whole left' bytes s (inr e) = e

-- the bytes that were read spell the scene
pub scene_taken : {E : Type 0} (form : Form) (left left' : Option (List ℕ)) (bytes taken : List ℕ) (r : Result Scene E) → Consumes left left' bytes → IsAtEnd left' → taken ≡ bytes
    → IfOk r (λ scene. IsSpelled form taken scene) → IfOk r (λ scene. HasRead form left left' scene)
scene_taken form left left' bytes taken (Err e) c w q t = tt
scene_taken form left left' bytes taken (Ok scene) c w q t = record { bytes = bytes; consumed = c; ended = w; spelled = subst (λ (xs : List ℕ). IsSpelled form xs scene) q t }

-- they spell the history
pub history_taken : {E : Type 0} (left left' : Option (List ℕ)) (bytes taken : List ℕ) (r : Result PastRead E) → Consumes left left' bytes → IsAtEnd left' → length bytes ≤ 1048576 → taken ≡ bytes
    → IfOk r (λ h. IsHistoryText taken h.scene h.answers.items) → IfOk r (λ h. HasHistory left left' h.scene h.answers.items)
history_taken left left' bytes taken (Err e) c w s q t = tt
history_taken left left' bytes taken (Ok h) c w s q t =
    record { bytes = bytes; consumed = c; ended = w; short = s; spelled = subst (λ (xs : List ℕ). IsHistoryText xs h.scene h.answers.items) q t }

-- bytes that were read are refused
input_refused : (form : Form) (left left' : Option (List ℕ)) (faults faults' : ℕ) (bytes taken : List ℕ) (f : Failure) → Consumes left left' bytes → (length bytes ≡ 1048577) ⊎ IsAtEnd left'
    → taken ≡ bytes → RefusesInput form taken f → InputFails form left left' faults faults' f
input_refused form left left' faults faults' bytes taken (Refusal said) c w e r =
    let q : RefusesInput form bytes (Refusal said) = subst (λ (xs : List ℕ). RefusesInput form xs (Refusal said)) e r in
    record { bytes = bytes; consumed = c; whole = w; refusal = q }
input_refused form left left' faults faults' bytes taken Memory c w e r = tt
input_refused form left left' faults faults' bytes taken Usage c w e r = absurd r
input_refused form left left' faults faults' bytes taken Read c w e r = absurd r
input_refused form left left' faults faults' bytes taken Write c w e r = absurd r

-- the same of a result
pub bytes_refused : {T : Type 0} (form : Form) (left left' : Option (List ℕ)) (faults faults' : ℕ) (bytes taken : List ℕ) (r : Result T Failure) → Consumes left left' bytes
    → IsAtEnd left' → taken ≡ bytes → IfErr r (RefusesInput form taken) → IfErr r (InputFails form left left' faults faults')
bytes_refused form left left' faults faults' bytes taken (Ok x) c w q h = tt
bytes_refused form left left' faults faults' bytes taken (Err f) c w q h = input_refused form left left' faults faults' bytes taken f c (inr w) q h

-- they are too many
pub long_refused : (form : Form) (left left' : Option (List ℕ)) (faults faults' : ℕ) (bytes : List ℕ) (f : Failure) → Consumes left left' bytes → (length bytes ≡ 1048577) ⊎ IsAtEnd left'
    → length bytes ≤ 1048577 → 1048576 < length bytes → RefusesWith too_many f → InputFails form left left' faults faults' f
long_refused form left left' faults faults' bytes f c w l m e = input_refused form left left' faults faults' bytes bytes f c w refl (refuses_long form bytes f l m e)

-- reading failed
pub reading_failed : (form : Form) (left left' : Option (List ℕ)) (faults faults' : ℕ) (f : Failure) → HasReadCause faults faults' f → InputFails form left left' faults faults' f
reading_failed form left left' faults faults' Read h = h
reading_failed form left left' faults faults' Memory h = tt
reading_failed form left left' faults faults' Usage h = absurd h
reading_failed form left left' faults faults' Write h = absurd h
reading_failed form left left' faults faults' (Refusal said) h = absurd h
