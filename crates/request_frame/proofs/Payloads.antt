-- Which frames have a payload of a kind.
use Rattle.std.proofs.Common.{List, None, [], ap, arith, get_or, inl, inr, length, ℕ, ◌++◌, ◌/◌, ◌<◌, ◌∷◌, ◌≡◌, ◌≤◌, ◌⊎◌}
use Rattle.std.proofs.lemmas.List.{length-map}
use Rattle.request_frame.proofs.BytesApart.{sized_apart}
use Rattle.request_frame.specs.FrameOrder.{frame_follows}
use Rattle.request_frame.specs.Reading.{IsBadBytes}
use Rattle.scene_text.specs.LineOrder.{lead, part_follows}
use Rattle.scene_text.specs.Taking.{State}
use Rattle.scene_text.specs.declared.lines.Line.{Line}
use Rattle.str_scene.specs.Lists.{Each}
use Rattle.str_scene.specs.declared.faults.SceneFault.TheVariants.{Form}
use Rattle.request_frame.specs.FrameBytes.{IsForm, IsOpForm, frame_bytes, number_bytes, row_bytes, script_bytes, sized}
use Rattle.request_frame.specs.Frames.{Frame}
use Rattle.request_frame.specs.Frames.Frame.{Client, Deliver, Drain, End, Nodes, Part, Session_, Tx, Version}

-- the kind of a frame, and its payload; the version has neither, and 256 is no byte
abbrev pub kind_of : Frame → ℕ
kind_of (Version v) = 256
kind_of (Nodes n) = 1
kind_of (Part row) = 2
kind_of (Session_ n) = 3
kind_of (Tx ops) = 4
kind_of (Client s t) = 5
kind_of (Deliver i) = 6
kind_of Drain = 7
kind_of End = 8

abbrev pub payload_of : Frame → List ℕ
payload_of (Version v) = []
payload_of (Nodes n) = n ∷ []
payload_of (Part row) = row_bytes row
payload_of (Session_ n) = n.0 ∷ []
payload_of (Tx ops) = script_bytes ops
payload_of (Client s t) = s.0 ∷ number_bytes t
payload_of (Deliver i) = number_bytes i
payload_of Drain = []
payload_of End = []

-- a kind and a payload are those of the frame
pub record IsSizedAs (kind : ℕ) (payload : List ℕ) (f : Frame) : Type 0 where
  pub kind_is : kind ≡ kind_of f
  pub payload_is : payload ≡ payload_of f

pub sized_as : (kind : ℕ) (payload : List ℕ) (f : Frame) → sized kind payload ≡ frame_bytes f → IsSizedAs kind payload f
sized_as kind payload (Version v) e =
    let high : length payload / 256 ≡ 84 = ap (λ bs. get_or bs 1 0) e in
    absurd (omega (arith, high, ap (λ bs. length bs) e))
sized_as kind payload (Nodes n) e = let h = sized_apart kind 1 payload (n ∷ []) [] [] (ap (λ xs. xs ++ []) e) in record { kind_is = h.0; payload_is = h.1 }
sized_as kind payload (Part row) e = let h = sized_apart kind 2 payload (row_bytes row) [] [] (ap (λ xs. xs ++ []) e) in record { kind_is = h.0; payload_is = h.1 }
sized_as kind payload (Session_ n) e = let h = sized_apart kind 3 payload (n.0 ∷ []) [] [] (ap (λ xs. xs ++ []) e) in record { kind_is = h.0; payload_is = h.1 }
sized_as kind payload (Tx ops) e = let h = sized_apart kind 4 payload (script_bytes ops) [] [] (ap (λ xs. xs ++ []) e) in record { kind_is = h.0; payload_is = h.1 }
sized_as kind payload (Client s t) e = let h = sized_apart kind 5 payload (s.0 ∷ number_bytes t) [] [] (ap (λ xs. xs ++ []) e) in record { kind_is = h.0; payload_is = h.1 }
sized_as kind payload (Deliver i) e = let h = sized_apart kind 6 payload (number_bytes i) [] [] (ap (λ xs. xs ++ []) e) in record { kind_is = h.0; payload_is = h.1 }
sized_as kind payload Drain e = let h = sized_apart kind 7 payload [] [] [] (ap (λ xs. xs ++ []) e) in record { kind_is = h.0; payload_is = h.1 }
sized_as kind payload End e = let h = sized_apart kind 8 payload [] [] [] (ap (λ xs. xs ++ []) e) in record { kind_is = h.0; payload_is = h.1 }

-- where no frame of the form has the kind and the payload, none is spelled so
no_frame : (kind : ℕ) (payload : List ℕ) (s : State) → ((f : Frame) → IsForm f → kind ≡ kind_of f → ¬ (payload ≡ payload_of f)) → IsBadBytes (sized kind payload) s Form
no_frame kind payload s none f form e = let h = sized_as kind payload f e in absurd (none f form h.kind_is h.payload_is)

pub nodes_none : (payload : List ℕ) (s : State) → ¬ (length payload ≡ 1) → IsBadBytes (sized 1 payload) s Form
nodes_none payload s none = no_frame 1 payload s by_frame
  where
    by_frame : (f : Frame) → IsForm f → 1 ≡ kind_of f → ¬ (payload ≡ payload_of f)
    by_frame (Nodes n) h k e = none (ap (λ bs. length bs) e)
    by_frame _ h k e = omega (arith, k)

pub part_none : (payload : List ℕ) (s : State) → length payload ≡ 0 → IsBadBytes (sized 2 payload) s Form
part_none payload s none = no_frame 2 payload s by_frame
  where
    by_frame : (f : Frame) → IsForm f → 2 ≡ kind_of f → ¬ (payload ≡ payload_of f)
    by_frame (Part row) h k e = omega (arith, h, none, ap (λ bs. length bs) e, length-map row (λ r. r.0))
    by_frame _ h k e = omega (arith, k)

pub session_none : (payload : List ℕ) (s : State) → ¬ (length payload ≡ 1) → IsBadBytes (sized 3 payload) s Form
session_none payload s none = no_frame 3 payload s by_frame
  where
    by_frame : (f : Frame) → IsForm f → 3 ≡ kind_of f → ¬ (payload ≡ payload_of f)
    by_frame (Session_ n) h k e = none (ap (λ bs. length bs) e)
    by_frame _ h k e = omega (arith, k)

pub client_none : (payload : List ℕ) (s : State) → ¬ (length payload ≡ 9) → IsBadBytes (sized 5 payload) s Form
client_none payload s none = no_frame 5 payload s by_frame
  where
    by_frame : (f : Frame) → IsForm f → 5 ≡ kind_of f → ¬ (payload ≡ payload_of f)
    by_frame (Client c t) h k e = none (ap (λ bs. length bs) e)
    by_frame _ h k e = omega (arith, k)

pub deliver_none : (payload : List ℕ) (s : State) → ¬ (length payload ≡ 8) → IsBadBytes (sized 6 payload) s Form
deliver_none payload s none = no_frame 6 payload s by_frame
  where
    by_frame : (f : Frame) → IsForm f → 6 ≡ kind_of f → ¬ (payload ≡ payload_of f)
    by_frame (Deliver i) h k e = none (ap (λ bs. length bs) e)
    by_frame _ h k e = omega (arith, k)

pub drain_none : (payload : List ℕ) (s : State) → ¬ (length payload ≡ 0) → IsBadBytes (sized 7 payload) s Form
drain_none payload s none = no_frame 7 payload s by_frame
  where
    by_frame : (f : Frame) → IsForm f → 7 ≡ kind_of f → ¬ (payload ≡ payload_of f)
    by_frame Drain h k e = none (ap (λ bs. length bs) e)
    by_frame _ h k e = omega (arith, k)

pub end_none : (payload : List ℕ) (s : State) → ¬ (length payload ≡ 0) → IsBadBytes (sized 8 payload) s Form
end_none payload s none = no_frame 8 payload s by_frame
  where
    by_frame : (f : Frame) → IsForm f → 8 ≡ kind_of f → ¬ (payload ≡ payload_of f)
    by_frame End h k e = none (ap (λ bs. length bs) e)
    by_frame _ h k e = omega (arith, k)

-- no frame has another kind
below : (kind : ℕ) (f : Frame) → kind ≡ kind_of f → ¬ (kind < 1)
below kind (Version v) k l = omega (arith, k, l)
below kind _ k l = omega (arith, k, l)

above : (kind : ℕ) (f : Frame) → kind ≡ kind_of f → kind < 256 → ¬ (8 < kind)
above kind (Version v) k small l = omega (arith, k, l, small)
above kind _ k small l = omega (arith, k, l)

pub other_none : (kind : ℕ) (payload : List ℕ) (s : State) → kind < 256 → (kind < 1) ⊎ (8 < kind) → IsBadBytes (sized kind payload) s Form
other_none kind payload s small (inl l) = no_frame kind payload s (λ f h k e. below kind f k l)
other_none kind payload s small (inr l) = no_frame kind payload s (λ f h k e. above kind f k small l)

-- a transaction's frame that may not stand here, or is none of this version
pub tx_none : (payload : List ℕ) (s : State) → ((ops : List Line) → 1 ≤ length ops → Each IsOpForm ops → payload ≡ script_bytes ops → frame_follows s.draft.version s.place (Tx ops) ≡ None) → IsBadBytes (sized 4 payload) s Form
tx_none payload s none f form e = by_frame f form (sized_as 4 payload f e)
  where
    by_frame : (f : Frame) → IsForm f → IsSizedAs 4 payload f → frame_follows s.draft.version s.place f ≡ None
    by_frame (Tx ops) h k = none ops h.0 h.1 k.payload_is
    by_frame (Version v) h k = absurd (omega (arith, k.kind_is))
    by_frame (Nodes n) h k = absurd (omega (arith, k.kind_is))
    by_frame (Part row) h k = absurd (omega (arith, k.kind_is))
    by_frame (Session_ n) h k = absurd (omega (arith, k.kind_is))
    by_frame (Client c t) h k = absurd (omega (arith, k.kind_is))
    by_frame (Deliver i) h k = absurd (omega (arith, k.kind_is))
    by_frame Drain h k = absurd (omega (arith, k.kind_is))
    by_frame End h k = absurd (omega (arith, k.kind_is))

-- the same of a partition's
pub part_misplaced : (payload : List ℕ) (s : State) → part_follows s.place ≡ None → IsBadBytes (sized 2 payload) s Form
part_misplaced payload s none f form e = by_frame f (sized_as 2 payload f e)
  where
    by_frame : (f : Frame) → IsSizedAs 2 payload f → frame_follows s.draft.version s.place f ≡ None
    by_frame (Part row) k = ap (λ o. lead s.draft.version o []) none
    by_frame (Version v) k = absurd (omega (arith, k.kind_is))
    by_frame (Nodes n) k = absurd (omega (arith, k.kind_is))
    by_frame (Tx ops) k = absurd (omega (arith, k.kind_is))
    by_frame (Session_ n) k = absurd (omega (arith, k.kind_is))
    by_frame (Client c t) k = absurd (omega (arith, k.kind_is))
    by_frame (Deliver i) k = absurd (omega (arith, k.kind_is))
    by_frame Drain k = absurd (omega (arith, k.kind_is))
    by_frame End k = absurd (omega (arith, k.kind_is))
