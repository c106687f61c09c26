-- What a frame that is taken changes: where the frames are, and how many partitions there are.
use Rattle.std.proofs.Common.{Bool, List, None, Option, Some, [], ap, arith, cond, false, length, length-append, refl, subst, sym, true, ℕ, ◌++◌, ◌+◌, ◌==◌, ◌∙◌, ◌∷◌, ◌≡◌, ◌≤◌}
use Rattle.std.proofs.lemmas.Bool.{and_from, and_parts}
use Rattle.std.proofs.lemmas.Option.{none-some, same_Some}
use Rattle.std.specs.List.{list_all}
use Rattle.request_frame.proofs.FrameLines.{is_begun, next_begun, next_part}
use Rattle.request_frame.specs.FrameBytes.{IsForm, IsOpForm}
use Rattle.request_frame.specs.FrameOrder.{frame_follows, opening}
use Rattle.request_frame.specs.FrameTaking.{lines_at, take_frame}
use Rattle.request_frame.specs.Frames.{Frame}
use Rattle.request_frame.specs.Frames.Frame.{Client, Deliver, Drain, End, Nodes, Part, Session_, Tx, Version}
use Rattle.scene_text.proofs.Taking.LinesInOrder.{began, lead_on, no_version}
use Rattle.scene_text.proofs.Taking.LinesTaken.{goes_on_from, is_taken, now_same}
use Rattle.scene_text.specs.declared.order.Place.{Place}
use Rattle.scene_text.specs.LineOrder.{end_follows, entry_follows, follows, lead, nodes_follow, op_follows, part_follows, section_follows, tx_follows, version_follows}
use Rattle.scene_text.specs.declared.order.Place.TheVariants.{AfterDrain, AfterEnd, AfterNodes, AfterOp, AfterPart, AfterSession, AfterTx, AfterVersion, InSchedule}
use Rattle.scene_text.specs.Taking.{Limits, State, after, settle, take_line, take_lines}
use Rattle.scene_text.specs.Taking.Taken.{Now}
use Rattle.scene_text.specs.declared.lines.Line.{Line}
use Rattle.scene_text.specs.declared.lines.Line.TheVariants.{Abort as LAbort, Add as LAdd, Client as LClient, Del as LDel, Deliver as LDeliver, Drain as LDrain, End as LEnd, Get as LGet, Need as LNeed, Nodes as LNodes, Part as LPart, Put as LPut, Puts as LPuts, Schedule as LSchedule, Session as LSession, Tx as LTx, Version as LVersion}
use Rattle.str_scene.specs.Lists.{Each}
use Rattle.str_scene.specs.Scenes.{Scene}
use Rattle.str_scene.specs.declared.names.Op.{Op}

-- the number of the next partition plays no part in the order
pub order_at : (version : ℕ) (s : State) (f : Frame) → lead version (Some s.place) (lines_at s f) ≡ frame_follows version s.place f
order_at version s (Part row) = refl
order_at version s _ = refl

-- after the first frame, one that is taken leads to the next place, and the version stays
pub record Follows (s t : State) (f : Frame) : Type 0 where
  pub version_is : t.draft.version ≡ s.draft.version
  pub place_is : frame_follows s.draft.version s.place f ≡ Some t.place

pub taken_follows : (limits : Limits) (s t : State) (f : Frame) → began s.place ≡ true → take_frame limits s f ≡ Now t → Follows s t f
taken_follows limits s t f b e =
    let r = lead_on limits (lines_at s f) s t s.draft.version refl b e in
    record { version_is = r.version_is; place_is = sym (order_at s.draft.version s f) ∙ r.place_is }

-- the open transaction has no partitions
settled_parts : (ops : List Op) (d : Scene) → (settle ops d).parts ≡ d.parts
settled_parts [] d = refl
settled_parts (o ∷ ops) d = refl

-- the line gives no partition
abbrev no_part : Line → Bool
no_part (LVersion v) = false
no_part (LPart p row) = false
no_part _ = true

after_parts : (next : Place) (s : State) (l : Line) → no_part l ≡ true → (after next s l).draft.parts ≡ s.draft.parts
after_parts next s (LVersion v) h = absurd (cc)
after_parts next s (LPart p row) h = absurd (cc)
after_parts next s (LSession n) h = settled_parts s.ops s.draft
after_parts next s LTx h = settled_parts s.ops s.draft
after_parts next s LSchedule h = settled_parts s.ops s.draft
after_parts next s (LNodes n) h = refl
after_parts next s (LGet name p) h = refl
after_parts next s (LPut name p n) h = refl
after_parts next s (LPuts name p bytes) h = refl
after_parts next s (LAdd name p n) h = refl
after_parts next s (LDel name p) h = refl
after_parts next s (LNeed name p n) h = refl
after_parts next s LAbort h = refl
after_parts next s (LClient c t) h = refl
after_parts next s (LDeliver i) h = refl
after_parts next s LDrain h = refl
after_parts next s LEnd h = refl

-- such lines leave the partitions
pub lines_parts : (limits : Limits) (ls : List Line) (s t : State) → list_all no_part ls ≡ true → take_lines limits s ls ≡ Now t → t.draft.parts ≡ s.draft.parts
lines_parts limits [] s t h e = ap (λ x. x.draft.parts) (sym (now_same s t e))
lines_parts limits (l ∷ ls) s t h e =
    let r = goes_on_from (λ x. take_lines limits x ls) (take_line limits s l) t e in
    let m : State = r.0 in
    let k = is_taken limits s l m r.1 in
    let tests = and_parts (no_part l) (list_all no_part ls) h in
    lines_parts limits ls m t tests.1 r.2 ∙ (ap (λ x. x.draft.parts) (sym k.state) ∙ after_parts k.next s l tests.0)

-- operations give none
op_no_part : (l : Line) → IsOpForm l → no_part l ≡ true
op_no_part (LVersion v) h = absurd h
op_no_part (LPart p row) h = absurd h
op_no_part _ h = refl

pub ops_no_part : (ops : List Line) → Each IsOpForm ops → list_all no_part ops ≡ true
ops_no_part [] h = refl
ops_no_part (op ∷ ops) h = and_from _ _ (op_no_part op h.0) (ops_no_part ops h.1)

entry_no_part : (place : Place) (l : Line) → no_part l ≡ true → list_all no_part (opening place ++ l ∷ []) ≡ true
entry_no_part InSchedule l h = and_from _ _ h refl
entry_no_part AfterDrain l h = and_from _ _ h refl
entry_no_part AfterEnd l h = and_from _ _ h refl
entry_no_part _ l h = and_from _ _ h refl

-- one line
pub one_taken : (limits : Limits) (s t : State) (l : Line) → take_lines limits s (l ∷ []) ≡ Now t → take_line limits s l ≡ Now t
one_taken limits s t l e =
    let r = goes_on_from (λ x. take_lines limits x []) (take_line limits s l) t e in
    r.1 ∙ r.2

-- how many partitions there are after a frame
pub frame_parts : (limits : Limits) (s t : State) (f : Frame) → IsForm f → began s.place ≡ true → take_frame limits s f ≡ Now t → next_part (length s.draft.parts + 1) f ≡ length t.draft.parts + 1
frame_parts limits s t (Version v) h b e =
    let k = is_taken limits s (LVersion v) t (one_taken limits s t (LVersion v) e) in
    absurd (no_version s.place k.next k.order b)
frame_parts limits s t (Nodes n) h b e = ap (λ xs. length xs + 1) (sym (lines_parts limits (LNodes n ∷ []) s t refl e))
frame_parts limits s t (Part row) h b e =
    let l : Line = LPart (record { 0 = length s.draft.parts + 1 }) row in
    let k = is_taken limits s l t (one_taken limits s t l e) in
    ap (λ n. n + 1) (sym (length-append s.draft.parts (row ∷ []))) ∙ ap (λ x. length x.draft.parts + 1) k.state
frame_parts limits s t (Session_ n) h b e = ap (λ xs. length xs + 1) (sym (lines_parts limits (LSession n ∷ []) s t refl e))
frame_parts limits s t (Tx ops) h b e = ap (λ xs. length xs + 1) (sym (lines_parts limits (LTx ∷ ops) s t (and_from _ _ refl (ops_no_part ops h.1)) e))
frame_parts limits s t (Client c r) h b e = ap (λ xs. length xs + 1) (sym (lines_parts limits (opening s.place ++ LClient c r ∷ []) s t (entry_no_part s.place (LClient c r) refl) e))
frame_parts limits s t (Deliver i) h b e = ap (λ xs. length xs + 1) (sym (lines_parts limits (opening s.place ++ LDeliver i ∷ []) s t (entry_no_part s.place (LDeliver i) refl) e))
frame_parts limits s t Drain h b e = ap (λ xs. length xs + 1) (sym (lines_parts limits (opening s.place ++ LDrain ∷ []) s t (entry_no_part s.place LDrain refl) e))
frame_parts limits s t End h b e = ap (λ xs. length xs + 1) (sym (lines_parts limits (opening s.place ++ LEnd ∷ []) s t (entry_no_part s.place LEnd refl) e))

-- where the frames are after one: whether the schedule has begun, and that no transaction is left without an operation
abbrev pub is_open_tx : Place → Bool
is_open_tx AfterTx = true
is_open_tx _ = false

pub record Stays (next : Place) (begun : Bool) : Type 0 where
  pub begun_is : begun ≡ is_begun next
  pub no_open : is_open_tx next ≡ false
  pub began_is : began next ≡ true

-- a next place that is known
stays_at : (known next : Place) (begun : Bool) → begun ≡ is_begun known → is_open_tx known ≡ false → began known ≡ true → Some known ≡ Some next → Stays next begun
stays_at known next begun b o g e = subst (λ x. Stays x begun) (same_Some known next e) (record { begun_is = b; no_open = o; began_is = g })

nodes_stays : (place next : Place) → nodes_follow place ≡ Some next → Stays next (is_begun place)
nodes_stays AfterVersion next e = stays_at AfterNodes next false refl refl refl e
nodes_stays _ next e = absurd (none-some _ e)

part_stays : (place next : Place) → part_follows place ≡ Some next → Stays next (is_begun place)
part_stays AfterNodes next e = stays_at AfterPart next false refl refl refl e
part_stays AfterPart next e = stays_at AfterPart next false refl refl refl e
part_stays _ next e = absurd (none-some _ e)

session_stays : (place next : Place) → section_follows AfterSession place ≡ Some next → Stays next (is_begun place)
session_stays AfterPart next e = stays_at AfterSession next false refl refl refl e
session_stays AfterSession next e = stays_at AfterSession next false refl refl refl e
session_stays AfterOp next e = stays_at AfterSession next false refl refl refl e
session_stays _ next e = absurd (none-some _ e)

-- an operation leads to the place after an operation
op_leads : (place next : Place) → op_follows place ≡ Some next → AfterOp ≡ next
op_leads AfterTx next e = same_Some _ _ e
op_leads AfterOp next e = same_Some _ _ e
op_leads _ next e = absurd (none-some _ e)

puts_leads : (two : Bool) (place next : Place) → cond two (op_follows place) None ≡ Some next → AfterOp ≡ next
puts_leads true place next e = op_leads place next e
puts_leads false place next e = absurd (none-some _ e)

op_to : (version : ℕ) (place next : Place) (l : Line) → IsOpForm l → follows version place l ≡ Some next → AfterOp ≡ next
op_to version place next (LGet name p) h e = op_leads place next e
op_to version place next (LPut name p n) h e = op_leads place next e
op_to version place next (LPuts name p bytes) h e = puts_leads (version == 2) place next e
op_to version place next (LAdd name p n) h e = op_leads place next e
op_to version place next (LDel name p) h e = op_leads place next e
op_to version place next (LNeed name p n) h e = op_leads place next e
op_to version place next LAbort h e = op_leads place next e
op_to version place next _ h e = absurd h

-- a line and others lead by the place to which the line leads
pub lead_step : (version : ℕ) (o : Option Place) (ls : List Line) (next : Place) → lead version o ls ≡ Some next → (m : Place) × (o ≡ Some m) × (lead version (Some m) ls ≡ Some next)
lead_step version None ls next e = absurd (none-some _ e)
lead_step version (Some m) ls next e = (m, refl, e)

-- operations lead from an operation to one
ops_to : (version : ℕ) (ops : List Line) (place next : Place) → Each IsOpForm ops → AfterOp ≡ place → lead version (Some place) ops ≡ Some next → AfterOp ≡ next
ops_to version [] place next h a e = a ∙ same_Some _ _ e
ops_to version (op ∷ ops) place next h a e =
    let r = lead_step version (follows version place op) ops next e in
    ops_to version ops r.0 next h.1 (op_to version place r.0 op h.0 r.1) r.2

some_ops_to : (version : ℕ) (ops : List Line) (o : Option Place) (next : Place) → 1 ≤ length ops → Each IsOpForm ops → lead version o ops ≡ Some next → AfterOp ≡ next
some_ops_to version [] o next some h e = absurd (omega (arith, some))
some_ops_to version (op ∷ ops) o next some h e =
    let r = lead_step version o (op ∷ ops) next e in
    let q = lead_step version (follows version r.0 op) ops next r.2 in
    ops_to version ops q.0 next h.1 (op_to version r.0 q.0 op h.0 q.1) q.2

tx_begun : (place next : Place) → tx_follows place ≡ Some next → is_begun place ≡ false
tx_begun AfterSession next e = refl
tx_begun AfterOp next e = refl
tx_begun _ next e = absurd (none-some _ e)

tx_stays : (version : ℕ) (place next : Place) (ops : List Line) → 1 ≤ length ops → Each IsOpForm ops → lead version (tx_follows place) ops ≡ Some next → Stays next (is_begun place)
tx_stays version place next ops some h e =
    let r = lead_step version (tx_follows place) ops next e in
    let last : AfterOp ≡ next = some_ops_to version ops (tx_follows place) next some h e in
    subst (λ x. Stays x (is_begun place)) last (record { begun_is = tx_begun place r.0 r.1; no_open = refl; began_is = refl })

-- entries, the drain and the end
entry_stays : (m place next : Place) → is_begun m ≡ true → is_open_tx m ≡ false → began m ≡ true → entry_follows m place ≡ Some next → Stays next true
entry_stays m InSchedule next b o g e = stays_at m next true (sym b) o g e
entry_stays m _ next b o g e = absurd (none-some _ e)

end_stays : (place next : Place) → end_follows place ≡ Some next → Stays next true
end_stays InSchedule next e = stays_at AfterEnd next true refl refl refl e
end_stays AfterDrain next e = stays_at AfterEnd next true refl refl refl e
end_stays _ next e = absurd (none-some _ e)

-- the last of lines leads from some place
last_leads : (version : ℕ) (place next : Place) (l : Line) → lead version (Some place) (opening place ++ l ∷ []) ≡ Some next → (m : Place) × (follows version m l ≡ Some next)
last_leads version InSchedule next l e = let r = lead_step version (follows version InSchedule l) [] next e in (InSchedule, r.1 ∙ r.2)
last_leads version AfterDrain next l e = let r = lead_step version (follows version AfterDrain l) [] next e in (AfterDrain, r.1 ∙ r.2)
last_leads version AfterEnd next l e = let r = lead_step version (follows version AfterEnd l) [] next e in (AfterEnd, r.1 ∙ r.2)
last_leads version place next l e =
    let q = lead_step version (section_follows InSchedule place) (l ∷ []) next e in
    let r = lead_step version (follows version q.0 l) [] next q.2 in
    (q.0, r.1 ∙ r.2)

-- each frame
pub frame_stays : (version : ℕ) (place next : Place) (f : Frame) → IsForm f → began place ≡ true → frame_follows version place f ≡ Some next → Stays next (next_begun (is_begun place) f)
frame_stays version place next (Version v) h b e = let r = lead_step version (version_follows place) [] next e in absurd (no_version place r.0 r.1 b)
frame_stays version place next (Nodes n) h b e = let r = lead_step version (nodes_follow place) [] next e in nodes_stays place next (r.1 ∙ r.2)
frame_stays version place next (Part row) h b e = let r = lead_step version (part_follows place) [] next e in part_stays place next (r.1 ∙ r.2)
frame_stays version place next (Session_ n) h b e = let r = lead_step version (section_follows AfterSession place) [] next e in session_stays place next (r.1 ∙ r.2)
frame_stays version place next (Tx ops) h b e = tx_stays version place next ops h.0 h.1 e
frame_stays version place next (Client s t) h b e =
    let r = last_leads version place next (LClient s t) e in
    entry_stays InSchedule r.0 next refl refl refl r.1
frame_stays version place next (Deliver i) h b e =
    let r = last_leads version place next (LDeliver i) e in
    entry_stays InSchedule r.0 next refl refl refl r.1
frame_stays version place next Drain h b e =
    let r = last_leads version place next LDrain e in
    entry_stays AfterDrain r.0 next refl refl refl r.1
frame_stays version place next End h b e =
    let r = last_leads version place next LEnd e in
    end_stays r.0 next r.1
