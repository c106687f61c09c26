-- Frames whose payload has one form, taken by their lines.
use Rattle.std.proofs.Common.{IfErr, List, OnOk, Result, Some, [], ap, arith, length, nat_le, refl, sym, true, ◌&&◌, ◌==◌, ◌∙◌, ℕ, ◌+◌, ◌<◌, ◌^◌, ◌∷◌, ◌≡◌, ◌≤◌}
use Rattle.std.proofs.lemmas.Bool.{and_parts, leb-true}
use Rattle.std.proofs.lemmas.List.{length-map}
use Rattle.std.specs.List.{list_all}
use Rattle.request_frame.proofs.FrameStates.{one_taken}
use Rattle.scene_text.proofs.Taking.LinesTaken.{is_taken}
use Rattle.scene_text.specs.LineOrder.{lead, part_follows}
use Rattle.scene_text.specs.declared.order.Place.{Place}
use Rattle.str_scene.specs.declared.faults.SceneFault.TheVariants.{Range}
use Rattle.request_frame.proofs.FramesRead.{last_bad, last_takes, led_none, led_opening, opening_bad}
use Rattle.request_frame.specs.FrameBytes.{number_bytes, row_bytes, sized}
use Rattle.request_frame.specs.FrameOrder.{opening}
use Rattle.request_frame.specs.Frames.Frame.{Client, Deliver, Drain, End, Nodes, Part, Session_}
use Rattle.request_frame.specs.Reading.{IsBadBytes, IsOpeningRefused, TakesBytes}
use Rattle.scene_text.specs.Reading.{IsRefusedFor}
use Rattle.scene_text.specs.Taking.{State, are_distinct, is_row, is_up_to, scene_limits, take_line, take_lines}
use Rattle.scene_text.specs.Taking.Taken.{Now}
use Rattle.scene_text.specs.declared.lines.Line.TheVariants.{Client as LClient, Deliver as LDeliver, Drain as LDrain, End as LEnd, Nodes as LNodes, Part as LPart, Session as LSession}
use Rattle.str_base.specs.declared.names.NodeId.{NodeId}
use Rattle.str_base.specs.declared.names.PartId.{PartId}
use Rattle.str_base.specs.declared.names.SessionId.{SessionId}
use Rattle.str_scene.specs.declared.faults.SceneFault.{SceneFault}

-- what a call for a line gives
abbrev pub Answered : Type 0
Answered = Result (Unit {0}) SceneFault

pub nodes_takes : (s t : State) (payload : List ℕ) (n : ℕ) (r : Answered) → OnOk r (take_line scene_limits s (LNodes n) ≡ Now t) → payload ≡ n ∷ [] → OnOk r (TakesBytes (sized 1 payload) s t)
nodes_takes s t payload n r e is = last_takes s s t (Nodes n) (sized 1 payload) [] (LNodes n) r (led_none s) tt (ap (sized 1) is) refl e

pub nodes_bad : (s : State) (payload : List ℕ) (n : ℕ) (r : Answered) → IfErr r (λ f. IsRefusedFor s (LNodes n) f) → payload ≡ n ∷ [] → IfErr r (λ f. IsBadBytes (sized 1 payload) s f)
nodes_bad s payload n r e is = last_bad s s (Nodes n) (sized 1 payload) [] (LNodes n) r (led_none s) tt (ap (sized 1) is) refl e

pub session_takes : (s t : State) (payload : List ℕ) (n : NodeId) (r : Answered) → OnOk r (take_line scene_limits s (LSession n) ≡ Now t) → payload ≡ n.0 ∷ [] → OnOk r (TakesBytes (sized 3 payload) s t)
session_takes s t payload n r e is = last_takes s s t (Session_ n) (sized 3 payload) [] (LSession n) r (led_none s) tt (ap (sized 3) is) refl e

pub session_bad : (s : State) (payload : List ℕ) (n : NodeId) (r : Answered) → IfErr r (λ f. IsRefusedFor s (LSession n) f) → payload ≡ n.0 ∷ [] → IfErr r (λ f. IsBadBytes (sized 3 payload) s f)
session_bad s payload n r e is = last_bad s s (Session_ n) (sized 3 payload) [] (LSession n) r (led_none s) tt (ap (sized 3) is) refl e

pub part_takes : (s t : State) (payload : List ℕ) (p : PartId) (row : List NodeId) (r : Answered) → OnOk r (take_line scene_limits s (LPart p row) ≡ Now t) → p ≡ record { 0 = length s.draft.parts + 1 } → row_bytes row ≡ payload →
    1 ≤ length row → OnOk r (TakesBytes (sized 2 payload) s t)
part_takes s t payload p row r e number is some =
    last_takes s s t (Part row) (sized 2 payload) [] (LPart p row) r (led_none s) some (ap (sized 2) (sym is)) (ap (λ q. LPart q row ∷ []) (sym number)) e

pub part_bad : (s : State) (payload : List ℕ) (p : PartId) (row : List NodeId) (r : Answered) → IfErr r (λ f. IsRefusedFor s (LPart p row) f) → p ≡ record { 0 = length s.draft.parts + 1 } → row_bytes row ≡ payload →
    1 ≤ length row → IfErr r (λ f. IsBadBytes (sized 2 payload) s f)
part_bad s payload p row r e number is some =
    last_bad s s (Part row) (sized 2 payload) [] (LPart p row) r (led_none s) some (ap (sized 2) (sym is)) (ap (λ q. LPart q row ∷ []) (sym number)) e

pub client_takes : (s m t : State) (payload : List ℕ) (c : SessionId) (reading : ℕ) (r : Answered) → take_lines scene_limits s (opening s.place) ≡ Now m → OnOk r (take_line scene_limits m (LClient c reading) ≡ Now t) →
    payload ≡ c.0 ∷ number_bytes reading → reading < 2 ^ 64 → OnOk r (TakesBytes (sized 5 payload) s t)
client_takes s m t payload c reading r o e is small =
    last_takes s m t (Client c reading) (sized 5 payload) (opening s.place) (LClient c reading) r (led_opening s m o) small (ap (sized 5) is) refl e

pub client_bad : (s m : State) (payload : List ℕ) (c : SessionId) (reading : ℕ) (r : Answered) → take_lines scene_limits s (opening s.place) ≡ Now m → IfErr r (λ f. IsRefusedFor m (LClient c reading) f) →
    payload ≡ c.0 ∷ number_bytes reading → reading < 2 ^ 64 → IfErr r (λ f. IsBadBytes (sized 5 payload) s f)
client_bad s m payload c reading r o e is small =
    last_bad s m (Client c reading) (sized 5 payload) (opening s.place) (LClient c reading) r (led_opening s m o) small (ap (sized 5) is) refl e

pub client_unopened : (s : State) (payload : List ℕ) (c : SessionId) (reading : ℕ) (f : SceneFault) → IsOpeningRefused s f → payload ≡ c.0 ∷ number_bytes reading → reading < 2 ^ 64 → IsBadBytes (sized 5 payload) s f
client_unopened s payload c reading f e is small = opening_bad s (Client c reading) (sized 5 payload) (LClient c reading) f small (ap (sized 5) is) refl e

pub deliver_takes : (s m t : State) (payload : List ℕ) (i : ℕ) (r : Answered) → take_lines scene_limits s (opening s.place) ≡ Now m → OnOk r (take_line scene_limits m (LDeliver i) ≡ Now t) →
    payload ≡ number_bytes i → i < 2 ^ 64 → OnOk r (TakesBytes (sized 6 payload) s t)
deliver_takes s m t payload i r o e is small = last_takes s m t (Deliver i) (sized 6 payload) (opening s.place) (LDeliver i) r (led_opening s m o) small (ap (sized 6) is) refl e

pub deliver_bad : (s m : State) (payload : List ℕ) (i : ℕ) (r : Answered) → take_lines scene_limits s (opening s.place) ≡ Now m → IfErr r (λ f. IsRefusedFor m (LDeliver i) f) →
    payload ≡ number_bytes i → i < 2 ^ 64 → IfErr r (λ f. IsBadBytes (sized 6 payload) s f)
deliver_bad s m payload i r o e is small = last_bad s m (Deliver i) (sized 6 payload) (opening s.place) (LDeliver i) r (led_opening s m o) small (ap (sized 6) is) refl e

pub deliver_unopened : (s : State) (payload : List ℕ) (i : ℕ) (f : SceneFault) → IsOpeningRefused s f → payload ≡ number_bytes i → i < 2 ^ 64 → IsBadBytes (sized 6 payload) s f
deliver_unopened s payload i f e is small = opening_bad s (Deliver i) (sized 6 payload) (LDeliver i) f small (ap (sized 6) is) refl e

-- no byte
none_is : (payload : List ℕ) → length payload ≡ 0 → payload ≡ []
none_is [] e = refl
none_is (x ∷ xs) e = absurd (omega (arith, e))

pub drain_takes : (s m t : State) (payload : List ℕ) (r : Answered) → take_lines scene_limits s (opening s.place) ≡ Now m → OnOk r (take_line scene_limits m LDrain ≡ Now t) → length payload ≡ 0 → OnOk r (TakesBytes (sized 7 payload) s t)
drain_takes s m t payload r o e none = last_takes s m t Drain (sized 7 payload) (opening s.place) LDrain r (led_opening s m o) tt (ap (sized 7) (none_is payload none)) refl e

pub drain_bad : (s m : State) (payload : List ℕ) (r : Answered) → take_lines scene_limits s (opening s.place) ≡ Now m → IfErr r (λ f. IsRefusedFor m LDrain f) → length payload ≡ 0 → IfErr r (λ f. IsBadBytes (sized 7 payload) s f)
drain_bad s m payload r o e none = last_bad s m Drain (sized 7 payload) (opening s.place) LDrain r (led_opening s m o) tt (ap (sized 7) (none_is payload none)) refl e

pub drain_unopened : (s : State) (payload : List ℕ) (f : SceneFault) → IsOpeningRefused s f → length payload ≡ 0 → IsBadBytes (sized 7 payload) s f
drain_unopened s payload f e none = opening_bad s Drain (sized 7 payload) LDrain f tt (ap (sized 7) (none_is payload none)) refl e

pub end_takes : (s m t : State) (payload : List ℕ) (r : Answered) → take_lines scene_limits s (opening s.place) ≡ Now m → OnOk r (take_line scene_limits m LEnd ≡ Now t) → length payload ≡ 0 → OnOk r (TakesBytes (sized 8 payload) s t)
end_takes s m t payload r o e none = last_takes s m t End (sized 8 payload) (opening s.place) LEnd r (led_opening s m o) tt (ap (sized 8) (none_is payload none)) refl e

pub end_bad : (s m : State) (payload : List ℕ) (r : Answered) → take_lines scene_limits s (opening s.place) ≡ Now m → IfErr r (λ f. IsRefusedFor m LEnd f) → length payload ≡ 0 → IfErr r (λ f. IsBadBytes (sized 8 payload) s f)
end_bad s m payload r o e none = last_bad s m End (sized 8 payload) (opening s.place) LEnd r (led_opening s m o) tt (ap (sized 8) (none_is payload none)) refl e

pub end_unopened : (s : State) (payload : List ℕ) (f : SceneFault) → IsOpeningRefused s f → length payload ≡ 0 → IsBadBytes (sized 8 payload) s f
end_unopened s payload f e none = opening_bad s End (sized 8 payload) LEnd f tt (ap (sized 8) (none_is payload none)) refl e

-- a row of more replicas than there are nodes
row_of_bytes : List ℕ → List NodeId
row_of_bytes [] = []
row_of_bytes (b ∷ bs) = record { 0 = b } ∷ row_of_bytes bs

bytes_of_row : (bytes : List ℕ) → bytes ≡ row_bytes (row_of_bytes bytes)
unfolding row_of_bytes
bytes_of_row [] = refl
bytes_of_row (b ∷ bs) = ap (λ xs. b ∷ xs) (bytes_of_row bs)

row_length : (bytes : List ℕ) → length (row_of_bytes bytes) ≡ length bytes
row_length bytes = sym (length-map (row_of_bytes bytes) (λ r. r.0)) ∙ ap (λ xs. length xs) (sym (bytes_of_row bytes))

too_long : (nodes : ℕ) (row : List NodeId) → 8 < length row → is_row nodes row ≡ true → ⊥
too_long nodes row l e = omega (arith, l, leb-true (length row) 8 (and_parts (nat_le (length row) 8) (list_all (λ n. is_up_to nodes n.0) row && are_distinct row) e).0)

pub part_long : (s : State) (payload : List ℕ) (next : Place) → 8 < length payload → part_follows s.place ≡ Some next → IsBadBytes (sized 2 payload) s Range
part_long s payload next l o =
    let row : List NodeId = row_of_bytes payload in
    let many : 8 < length row = omega (arith, l, row_length payload) in
    record {
      frame = Part row;
      form = omega (arith, many);
      bytes_is = ap (sized 2) (bytes_of_row payload);
      order = record { next = next; order = ap (λ p. lead s.draft.version p []) o };
      refused = λ limits t.
          (let q = is_taken limits s (LPart (record { 0 = length s.draft.parts + 1 }) row) t.state (one_taken limits s t.state (LPart (record { 0 = length s.draft.parts + 1 }) row) t.taken) in
          too_long s.draft.nodes row many (and_parts (length s.draft.parts + 1 == length s.draft.parts + 1) (is_row s.draft.nodes row) q.range).1);
    }
