-- The frame of a transaction: its operations are taken one by one, after all of them were looked at.
use Rattle.std.proofs.Common.{Bool, Err, IfErr, List, None, Ok, OnOk, Option, Result, Some, [], ap, arith, cond, false, length, length-append, nat_le, refl, subst, sym, true, ℕ, ◌&&◌, ◌++◌, ◌+◌, ◌<◌, ◌∙◌, ◌∷◌, ◌≡◌, ◌≤◌}
use Rattle.std.proofs.lemmas.Bool.{and_from, and_parts, lt-ltb}
use Rattle.std.proofs.lemmas.Option.{none-some, same_Some}
use Rattle.std.specs.List.{list_all}
use Rattle.str_base.specs.declared.limits.TheConstants.{TEXT_BYTES}
use Rattle.request_frame.proofs.BytesApart.{op_code}
use Rattle.request_frame.proofs.Coded.{spelled_same}
use Rattle.request_frame.proofs.FrameStates.{lines_parts, ops_no_part}
use Rattle.request_frame.proofs.FramesRead.{not_both, now_not_refused, one_lines_state}
use Rattle.request_frame.proofs.Payloads.{tx_none}
use Rattle.request_frame.specs.FrameBytes.{IsOpForm, op_bytes, script_bytes, sized}
use Rattle.request_frame.specs.FrameTaking.{take_frame}
use Rattle.request_frame.specs.Frames.Frame.{Tx}
use Rattle.request_frame.specs.Reading.{IsBadBytes, IsInOrder, IsShortScript, ReadsNoScript, ReadsScript, RefusesOps, TakesBytes, TakesOps, is_known_in}
use Rattle.scene_text.proofs.FirstBad.RefusedLines.{reason}
use Rattle.scene_text.proofs.Taking.LinesInOrder.{settle_version}
use Rattle.scene_text.proofs.Taking.LinesTaken.{goes_on_from, is_taken, taken}
use Rattle.scene_text.proofs.Taking.SessionLines.{taken-append}
use Rattle.scene_text.proofs.Taking.StatesKept.{tx_count}
use Rattle.scene_text.specs.LineOrder.{follows, lead, op_follows, tx_follows}
use Rattle.scene_text.proofs.Spelling.NumbersFit.{fits}
use Rattle.scene_text.specs.LineTexts.{Fits}
use Rattle.scene_text.specs.Reading.{IsReached, IsRefusedFor}
use Rattle.scene_text.specs.Taking.{Limits, State, after, goes_on, has_room, in_range, is_number, is_up_to, scene_limits, settled, take_line, take_lines}
use Rattle.scene_text.specs.Taking.Taken.{Now}
use Rattle.scene_text.specs.declared.lines.Line.{Line}
use Rattle.scene_text.specs.declared.lines.Line.TheVariants.{Abort as LAbort, Add as LAdd, Del as LDel, Get as LGet, Need as LNeed, Put as LPut, Puts as LPuts, Tx as LTx}
use Rattle.scene_text.specs.declared.order.Place.{Place}
use Rattle.scene_text.specs.declared.order.Place.TheVariants.{AfterOp, AfterSession, AfterTx}
use Rattle.str_scene.specs.Lists.{Each}
use Rattle.str_scene.specs.Scenes.{Scene}
use Rattle.str_scene.specs.declared.faults.SceneFault.{SceneFault}
use Rattle.str_scene.specs.declared.faults.SceneFault.TheVariants.{Count, Form, Memory, Range}
use Rattle.str_scene.specs.declared.faults.Why.TheVariants.{Count as Many, Form as No, Range as Out}

-- where an operation may stand by its version
unknown_follows : (version : ℕ) (place : Place) (op : Line) → is_known_in version op ≡ false → follows version place op ≡ None
unknown_follows version place (LPuts name p bytes) e = ap (λ b. cond b (op_follows place) None) e
unknown_follows version place _ e = absurd (cc)

lead_from_none : (version : ℕ) (o : Option Place) (ops : List Line) → o ≡ None → lead version o ops ≡ None
lead_from_none version None ops e = refl
lead_from_none version (Some p) ops e = absurd (cc)

-- operations one of which is of another version lead nowhere
unknown_leads : (version : ℕ) (ops : List Line) (o : Option Place) → list_all (is_known_in version) ops ≡ false → lead version o ops ≡ None
unknown_leads version [] o e = absurd (cc)
unknown_leads version (op ∷ ops) None e = refl
unknown_leads version (op ∷ ops) (Some p) e = by_test (is_known_in version op) refl e (λ f. unknown_leads version ops (follows version p op) f)
  where
    by_test : (b : Bool) → is_known_in version op ≡ b → (b && list_all (is_known_in version) ops) ≡ false → (list_all (is_known_in version) ops ≡ false → lead version (follows version p op) ops ≡ None) →
        lead version (follows version p op) ops ≡ None
    by_test false k f more = lead_from_none version (follows version p op) ops (unknown_follows version p op k)
    by_test true k f more = more f

-- a payload of no transaction of the version
pub no_script : (s : State) (version : ℕ) (payload : List ℕ) → version ≡ s.draft.version → ReadsNoScript version payload → IsBadBytes (sized 4 payload) s Form
no_script s version payload v none =
    tx_none payload s (λ ops some forms is. unknown_leads s.draft.version ops (tx_follows s.place) (ap (λ n. list_all (is_known_in n) ops) (sym v) ∙ none ops some forms is))

-- a transaction that may not stand here
pub tx_misplaced : (s : State) (payload : List ℕ) → tx_follows s.place ≡ None → IsBadBytes (sized 4 payload) s Form
tx_misplaced s payload none = tx_none payload s (λ ops some forms is. lead_from_none s.draft.version (tx_follows s.place) ops none)

-- where an operation of the version may stand
known_follows : (version : ℕ) (place : Place) (op : Line) → IsOpForm op → is_known_in version op ≡ true → op_follows place ≡ Some AfterOp → follows version place op ≡ Some AfterOp
known_follows version place (LGet name p) h k e = e
known_follows version place (LPut name p n) h k e = e
known_follows version place (LPuts name p bytes) h k e = ap (λ b. cond b (op_follows place) None) k ∙ e
known_follows version place (LAdd name p n) h k e = e
known_follows version place (LDel name p) h k e = e
known_follows version place (LNeed name p n) h k e = e
known_follows version place LAbort h k e = e
known_follows version place _ h k e = absurd h

known_leads : (version : ℕ) (ops : List Line) (place : Place) → Each IsOpForm ops → list_all (is_known_in version) ops ≡ true → op_follows place ≡ Some AfterOp → (next : Place) × (lead version (Some place) ops ≡ Some next)
known_leads version [] place h k e = (place, refl)
known_leads version (op ∷ ops) place h k e =
    let tests = and_parts (is_known_in version op) (list_all (is_known_in version) ops) k in
    let r = known_leads version ops AfterOp h.1 tests.1 refl in
    (r.0, ap (λ o. lead version o ops) (known_follows version place op h.0 tests.0 e) ∙ r.1)

-- a transaction leads to its first line's place
tx_to : (place next : Place) → tx_follows place ≡ Some next → next ≡ AfterTx
tx_to AfterSession next e = sym (same_Some _ _ e)
tx_to AfterOp next e = sym (same_Some _ _ e)
tx_to _ next e = absurd (none-some _ e)

-- the operations that a transaction's frame has, all of them of this version
pub record Script (s : State) (payload : List ℕ) (ranged : Bool) : Type 0 where
  pub read : ReadsScript s.draft.version (length s.draft.parts) payload ranged
  pub next : Place
  pub order : tx_follows s.place ≡ Some next

-- what was read is such a script, where its first line may stand
pub script_of : (s : State) (version parts_ : ℕ) (payload : List ℕ) (ranged known : Bool) (next : Place) → version ≡ s.draft.version → parts_ ≡ length s.draft.parts → ReadsScript version parts_ payload ranged → ranged ≡ known →
    tx_follows s.place ≡ Some next → Script s payload known
script_of s version parts_ payload ranged known next v p r b o = record {
  read = subst (λ n. ReadsScript n (length s.draft.parts) payload known) v (subst (λ n. ReadsScript version n payload known) p (subst (ReadsScript version parts_ payload) b r));
  next = next;
  order = o;
}

script_in_order : (s : State) (payload : List ℕ) (ranged : Bool) (k : Script s payload ranged) → IsInOrder s (Tx k.read.ops)
script_in_order s payload ranged k =
    let first : tx_follows s.place ≡ Some AfterTx = k.order ∙ ap Some (tx_to s.place k.next k.order) in
    let r = known_leads s.draft.version k.read.ops AfterTx k.read.forms k.read.known refl in
    record { next = r.0; order = ap (λ o. lead s.draft.version o k.read.ops) first ∙ r.1 }

-- the range of an operation is that of its partition
op_range : (d e : Scene) (op : Line) → IsOpForm op → length d.parts ≡ length e.parts → in_range d op ≡ in_range e op
op_range d e (LGet name p) h k = ap (λ n. is_up_to n p.0) k
op_range d e (LPut name p n) h k = ap (λ m. is_up_to m p.0 && is_number n) k
op_range d e (LPuts name p bytes) h k = ap (λ m. is_up_to m p.0 && nat_le (length bytes) TEXT_BYTES) k
op_range d e (LAdd name p n) h k = ap (λ m. is_up_to m p.0 && is_number n) k
op_range d e (LDel name p) h k = ap (λ n. is_up_to n p.0) k
op_range d e (LNeed name p n) h k = ap (λ m. is_up_to m p.0 && is_number n) k
op_range d e LAbort h k = refl
op_range d e _ h k = absurd h

-- operations that are taken are in range
ops_ranged : (limits : Limits) (ops : List Line) (d : Scene) (s t : State) → Each IsOpForm ops → length s.draft.parts ≡ length d.parts → take_lines limits s ops ≡ Now t → list_all (in_range d) ops ≡ true
ops_ranged limits [] d s t h k e = refl
ops_ranged limits (op ∷ ops) d s t h k e =
    let r = goes_on_from (λ x. take_lines limits x ops) (take_line limits s op) t e in
    let m : State = r.0 in
    let q = is_taken limits s op m r.1 in
    let parts : m.draft.parts ≡ s.draft.parts = lines_parts limits (op ∷ []) s m (ops_no_part (op ∷ []) (h.0, tt)) (ap (goes_on (λ x. take_lines limits x [])) r.1) in
    and_from _ _ (sym (op_range s.draft d op h.0 k) ∙ q.range) (ops_ranged limits ops d m t h.1 (ap (λ xs. length xs) parts ∙ k) r.2)

-- the partitions stay with a transaction's first line
tx_parts : (limits : Limits) (s m : State) → take_line limits s LTx ≡ Now m → m.draft.parts ≡ s.draft.parts
tx_parts limits s m e = lines_parts limits (LTx ∷ []) s m refl (ap (goes_on (λ x. take_lines limits x [])) e)

-- a transaction with an operation out of range
pub tx_out_of_range : (s : State) (payload : List ℕ) → Script s payload false → IsBadBytes (sized 4 payload) s Range
tx_out_of_range s payload k = record {
  frame = Tx k.read.ops;
  form = (k.read.some, k.read.forms);
  bytes_is = ap (sized 4) k.read.payload_is;
  order = script_in_order s payload false k;
  refused = λ limits t.
      (let r = goes_on_from (λ x. take_lines limits x k.read.ops) (take_line limits s LTx) t.state t.taken in
      let m : State = r.0 in
      not_both (list_all (in_range s.draft) k.read.ops) (k.read.range s.draft refl)
      (ops_ranged limits k.read.ops s.draft m t.state k.read.forms (ap (λ xs. length xs) (tx_parts limits s m r.1)) r.2));
}

-- limits within which a transaction is taken
abbrev with_room : State → List Line → Limits
with_room s ops = record { parts = 1; sessions = 1; at_node = 1; txs = tx_count (settled s).sessions + 1; ops = length ops + 1; entries = 1 }

-- an operation has room where there may be one more, and is one more
op_room : (limits : Limits) (s : State) (op : Line) → IsOpForm op → length s.ops < limits.ops → has_room limits s op ≡ true
op_room limits s (LGet name p) h l = lt-ltb _ _ l
op_room limits s (LPut name p n) h l = lt-ltb _ _ l
op_room limits s (LPuts name p bytes) h l = lt-ltb _ _ l
op_room limits s (LAdd name p n) h l = lt-ltb _ _ l
op_room limits s (LDel name p) h l = lt-ltb _ _ l
op_room limits s (LNeed name p n) h l = lt-ltb _ _ l
op_room limits s LAbort h l = lt-ltb _ _ l
op_room limits s _ h l = absurd h

-- with one operation more
pub record OneMore (s t : State) : Type 0 where
  pub count : length t.ops ≡ length s.ops + 1
  pub place_is : t.place ≡ AfterOp
  pub parts_is : t.draft.parts ≡ s.draft.parts
  pub version_is : t.draft.version ≡ s.draft.version

one_more : (s : State) (op : Line) → IsOpForm op → OneMore s (after AfterOp s op)
one_more s (LGet name p) h = record { count = length-append s.ops _; place_is = refl; parts_is = refl; version_is = refl }
one_more s (LPut name p n) h = record { count = length-append s.ops _; place_is = refl; parts_is = refl; version_is = refl }
one_more s (LPuts name p bytes) h = record { count = length-append s.ops _; place_is = refl; parts_is = refl; version_is = refl }
one_more s (LAdd name p n) h = record { count = length-append s.ops _; place_is = refl; parts_is = refl; version_is = refl }
one_more s (LDel name p) h = record { count = length-append s.ops _; place_is = refl; parts_is = refl; version_is = refl }
one_more s (LNeed name p n) h = record { count = length-append s.ops _; place_is = refl; parts_is = refl; version_is = refl }
one_more s LAbort h = record { count = length-append s.ops _; place_is = refl; parts_is = refl; version_is = refl }
one_more s _ h = absurd h

-- operations in range are taken where there is room for them
ops_taken : (limits : Limits) (ops : List Line) (d : Scene) (s : State) → Each IsOpForm ops → list_all (is_known_in s.draft.version) ops ≡ true → list_all (in_range d) ops ≡ true →
    length s.draft.parts ≡ length d.parts → op_follows s.place ≡ Some AfterOp → length s.ops + length ops ≤ limits.ops → (t : State) × (take_lines limits s ops ≡ Now t)
ops_taken limits [] d s h k range parts e few = (s, refl)
ops_taken limits (op ∷ ops) d s h k range parts e few =
    let known = and_parts (is_known_in s.draft.version op) (list_all (is_known_in s.draft.version) ops) k in
    let ranges = and_parts (in_range d op) (list_all (in_range d) ops) range in
    let m : State = after AfterOp s op in
    let more = one_more s op h.0 in
    let one : take_line limits s op ≡ Now m =
    taken limits s op AfterOp (known_follows s.draft.version s.place op h.0 known.0 e) (op_range s.draft d op h.0 parts ∙ ranges.0) (op_room limits s op h.0 (omega arith)) in
    let r = ops_taken limits ops d m h.1 (ap (λ v. list_all (is_known_in v) ops) more.version_is ∙ known.1) ranges.1 (ap (λ xs. length xs) more.parts_is ∙ parts) (ap op_follows more.place_is) (omega (arith, more.count)) in
    (r.0, ap (goes_on (λ x. take_lines limits x ops)) one ∙ r.1)

-- so is a transaction in range within some limits
script_taken : (s : State) (payload : List ℕ) (k : Script s payload true) → (t : State) × (take_frame (with_room s k.read.ops) s (Tx k.read.ops) ≡ Now t)
script_taken s payload k =
    let limits : Limits = with_room s k.read.ops in
    let m : State = after k.next s LTx in
    let one : take_line limits s LTx ≡ Now m = taken limits s LTx k.next k.order refl (lt-ltb _ _ (omega arith)) in
    let place : m.place ≡ AfterTx = tx_to s.place k.next k.order in
    let r = ops_taken limits k.read.ops s.draft m k.read.forms (ap (λ v. list_all (is_known_in v) k.read.ops) (settle_version s.ops s.draft) ∙ k.read.known) (k.read.range s.draft refl)
    (ap (λ xs. length xs) (tx_parts limits s m one)) (ap op_follows place) (omega arith) in
    (r.0, ap (goes_on (λ x. take_lines limits x k.read.ops)) one ∙ r.1)

-- a transaction in range that is not taken is one too many
too_many : (s : State) (payload : List ℕ) (k : Script s payload true) → ((t : State) → ¬ (take_frame scene_limits s (Tx k.read.ops) ≡ Now t)) → IsBadBytes (sized 4 payload) s Count
too_many s payload k none =
    let r = script_taken s payload k in
    record {
      frame = Tx k.read.ops;
      form = (k.read.some, k.read.forms);
      bytes_is = ap (sized 4) k.read.payload_is;
      limits = with_room s k.read.ops;
      ranged = record { state = r.0; taken = r.1 };
      refused = λ t. none t.state t.taken;
    }

-- its first line is refused for want of room alone
pub tx_refused : (s : State) (payload : List ℕ) (f : SceneFault) → Script s payload true → IsRefusedFor s LTx f → IsBadBytes (sized 4 payload) s f
tx_refused s payload Form k r = absurd (none-some k.next (sym (reason scene_limits s LTx No r) ∙ k.order))
tx_refused s payload Range k r = absurd (not_both true (reason scene_limits s LTx Out r).2 refl)
tx_refused s payload Count k r =
    too_many s payload k (λ t e.
    (let q = goes_on_from (λ x. take_lines scene_limits x k.read.ops) (take_line scene_limits s LTx) t e in now_not_refused q.0 Many (sym q.1 ∙ r)))
tx_refused s payload Memory k r = tt

-- the operations of one payload
ops_same : (payload : List ℕ) (ops others : List Line) → Each IsOpForm ops → Each IsOpForm others → payload ≡ script_bytes ops → payload ≡ script_bytes others → ops ≡ others
ops_same payload ops others h k e f = spelled_same op_bytes IsOpForm op_code ops others h k (sym e ∙ f)

-- an operation within a script that is taken
pub record WithinTaken (limits : Limits) (m : State) (op : Line) : Type 0 where
  pub state : State
  pub taken : take_line limits m op ≡ Now state

within_taken : (limits : Limits) (s m n t : State) (done : List Line) (op : Line) (more : List Line) → take_line scene_limits s LTx ≡ Now m → take_lines scene_limits m done ≡ Now n →
    take_lines limits s (LTx ∷ (done ++ op ∷ more)) ≡ Now t → WithinTaken limits n op
within_taken limits s m n t done op more first lead e =
    let a = goes_on_from (λ x. take_lines limits x (done ++ op ∷ more)) (take_line limits s LTx) t e in
    let begun : a.0 ≡ m = one_lines_state limits scene_limits (LTx ∷ []) s a.0 m (ap (goes_on (λ x. take_lines limits x [])) a.1) (ap (goes_on (λ x. take_lines scene_limits x [])) first) in
    let b = goes_on_from (λ x. take_lines limits x (op ∷ more)) (take_lines limits m done) t
    (sym (taken-append limits done (op ∷ more) m) ∙ (ap (λ x. take_lines limits x (done ++ op ∷ more)) (sym begun) ∙ a.2)) in
    let same : b.0 ≡ n = one_lines_state limits scene_limits done m b.0 n b.1 lead in
    let c = goes_on_from (λ x. take_lines limits x more) (take_line limits n op) t (ap (λ x. take_lines limits x (op ∷ more)) (sym same) ∙ b.2) in
    record { state = c.0; taken = c.1 }

-- an operation is refused for want of room alone
pub ops_refused : (s m : State) (payload : List ℕ) (f : SceneFault) → Script s payload true → take_line scene_limits s LTx ≡ Now m → RefusesOps payload m f → IsBadBytes (sized 4 payload) s f
ops_refused s m payload f k first j = by_fault f j.refused
  where
    same : k.read.ops ≡ j.done ++ j.op ∷ j.more
    same = ops_same payload k.read.ops (j.done ++ j.op ∷ j.more) k.read.forms j.forms k.read.payload_is j.payload_is

    within : WithinTaken (with_room s k.read.ops) j.state j.op
    within =
        let r = script_taken s payload k in
        within_taken (with_room s k.read.ops) s m j.state r.0 j.done j.op j.more first j.taken (ap (λ ops. take_lines (with_room s k.read.ops) s (LTx ∷ ops)) (sym same) ∙ r.1)

    by_fault : (f : SceneFault) → IsRefusedFor j.state j.op f → IsBadBytes (sized 4 payload) s f
    by_fault Form r =
        let q = is_taken (with_room s k.read.ops) j.state j.op within.state within.taken in absurd (none-some q.next (sym (reason scene_limits j.state j.op No r) ∙ q.order))
    by_fault Range r =
        let q = is_taken (with_room s k.read.ops) j.state j.op within.state within.taken in absurd (not_both (in_range j.state.draft j.op) (reason scene_limits j.state j.op Out r).2 q.range)
    by_fault Count r =
        too_many s payload k (λ t e.
        (let w = within_taken scene_limits s m j.state t j.done j.op j.more first j.taken (ap (λ ops. take_lines scene_limits s (LTx ∷ ops)) (sym same) ∙ e) in
        now_not_refused w.state Many (sym w.taken ∙ r)))
    by_fault Memory r = tt

-- what the call for the operations gives
pub ops_bad : (s m : State) (payload : List ℕ) (r : Result (Unit {0}) SceneFault) → Script s payload true → take_line scene_limits s LTx ≡ Now m → IfErr r (λ f. RefusesOps payload m f) → IfErr r (λ f. IsBadBytes (sized 4 payload) s f)
ops_bad s m payload (Ok x) k first j = tt
ops_bad s m payload (Err f) k first j = ops_refused s m payload f k first j

pub ops_takes : (s m t : State) (payload : List ℕ) (r : Result (Unit {0}) SceneFault) → Script s payload true → take_line scene_limits s LTx ≡ Now m → OnOk r (TakesOps payload m t) → OnOk r (TakesBytes (sized 4 payload) s t)
ops_takes s m t payload (Ok x) k first j = record {
  frame = Tx k.read.ops;
  form = (k.read.some, k.read.forms);
  bytes_is = ap (sized 4) k.read.payload_is;
  taken = ap (goes_on (λ x. take_lines scene_limits x k.read.ops)) first
      ∙ (ap (take_lines scene_limits m) (ops_same payload k.read.ops j.ops k.read.forms j.forms k.read.payload_is j.payload_is) ∙ j.taken);
}
ops_takes s m t payload (Err f) k first j = tt

-- operations in range have short byte strings
ops_fit : (s : State) (ops : List Line) → IsReached s → list_all (in_range s.draft) ops ≡ true → Each Fits ops
ops_fit s [] r e = tt
ops_fit s (op ∷ ops) r e =
    let tests = and_parts (in_range s.draft op) (list_all (in_range s.draft) ops) e in
    (fits r.text r.count s op r.reached tests.0, ops_fit s ops r tests.1)

pub short_script : (s : State) (payload : List ℕ) → IsReached s → Script s payload true → IsShortScript payload
short_script s payload r k = record { ops = k.read.ops; forms = k.read.forms; fits = ops_fit s k.read.ops r (k.read.range s.draft refl); payload_is = k.read.payload_is }
