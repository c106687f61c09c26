-- Operations that are read one by one from a payload.
use Rattle.std.proofs.Common.{Bool, List, None, Option, Some, [], ap, append-nil, append_assoc, arith, false, length, length-append, refl, subst, sym, true, ℕ, ◌&&◌, ◌++◌, ◌<◌, ◌==◌, ◌∙◌, ◌∷◌, ◌≡◌, ◌≤◌}
use Rattle.std.proofs.lemmas.Bool.{and_from}
use Rattle.std.proofs.lemmas.Bool.Decides.{Decides-eqb}
use Rattle.std.proofs.lemmas.Grind.{flat_map-append}
use Rattle.std.proofs.lemmas.List.Folds.{list_all-append}
use Rattle.std.specs.List.{list_all}
use Rattle.std.specs.Option.{SomeIff}
use Rattle.request_frame.proofs.BytesApart.{op_code}
use Rattle.request_frame.proofs.Coded.{longer}
use Rattle.request_frame.specs.FrameBytes.{IsOpForm, op_bytes, script_bytes}
use Rattle.request_frame.specs.Reading.{IsShortScript, ReadsNoOp, ReadsNoScript, ReadsOp, ReadsScript, RefusesOps, TakesOps, is_known_in}
use Rattle.scene_text.proofs.Taking.SessionLines.{taken_on}
use Rattle.scene_text.specs.LineTexts.{Fits}
use Rattle.scene_text.specs.Reading.{IsReached, IsRefusedFor}
use Rattle.scene_text.specs.Taking.{State, goes_on, in_range, scene_limits, take_line, take_lines}
use Rattle.scene_text.specs.Taking.Taken.{Now}
use Rattle.scene_text.specs.declared.lines.Line.{Line}
use Rattle.str_scene.proofs.Each.{each_append}
use Rattle.str_scene.specs.Lists.{Each}
use Rattle.str_scene.specs.Scenes.{Scene}
use Rattle.str_scene.specs.declared.faults.SceneFault.{SceneFault}

-- the operations so far
pub record ScriptSoFar (version parts_ : ℕ) (payload left : List ℕ) (ranged : Bool) : Type 0 where
  pub ops : List Line
  pub forms : Each IsOpForm ops
  pub payload_is : payload ≡ script_bytes ops ++ left
  pub known : list_all (is_known_in version) ops ≡ true
  pub range : (d : Scene) → length d.parts ≡ parts_ → list_all (in_range d) ops ≡ ranged

-- none yet
pub script_start : (version parts_ : ℕ) (payload : List ℕ) → ScriptSoFar version parts_ payload payload true
script_start version parts_ payload = record { ops = []; forms = tt; payload_is = refl; known = refl; range = λ d e. refl }

-- bytes of operations, and one more
bytes_more : (ops : List Line) (op : Line) (payload left rest : List ℕ) → payload ≡ script_bytes ops ++ left → left ≡ op_bytes op ++ rest → payload ≡ script_bytes (ops ++ op ∷ []) ++ rest
bytes_more ops op payload left rest p l =
    p ∙ (ap (λ xs. script_bytes ops ++ xs) l ∙ (sym (append_assoc (script_bytes ops) (op_bytes op) rest)
    ∙ ap (λ xs. xs ++ rest) (ap (λ xs. script_bytes ops ++ xs) (sym (append-nil (op_bytes op))) ∙ sym (flat_map-append op_bytes ops (op ∷ [])))))

-- one more
pub script_more : (version parts_ : ℕ) (payload left rest : List ℕ) (ranged one : Bool) (kept : Option Line) → ScriptSoFar version parts_ payload left ranged → ReadsOp left kept rest →
    ((op : Line) (us : List ℕ) → IsOpForm op → left ≡ op_bytes op ++ us → is_known_in version op ≡ true) →
    ((d : Scene) (l : Line) → length d.parts ≡ parts_ → IsOpForm l → SomeIff kept (Fits l) l → in_range d l ≡ one) → ScriptSoFar version parts_ payload rest (ranged && one)
script_more version parts_ payload left rest ranged one kept k r known range = record {
  ops = k.ops ++ r.op ∷ [];
  forms = each_append IsOpForm k.ops (r.op ∷ []) k.forms (r.form, tt);
  payload_is = bytes_more k.ops r.op payload left rest k.payload_is r.parts;
  known = list_all-append (is_known_in version) k.ops (r.op ∷ []) ∙ and_from _ _ k.known (and_from _ _ (known r.op rest r.form r.parts) refl);
  range = λ d e.
      (list_all-append (in_range d) k.ops (r.op ∷ []) ∙ (ap (λ b. b && (in_range d r.op && true)) (k.range d e) ∙ ap (λ b. ranged && b) (and_true (in_range d r.op) ∙ range d r.op e r.form r.kept_is)));
}
  where
    and_true : (b : Bool) → (b && true) ≡ b
    and_true true = refl
    and_true false = refl

-- all of them
pub script_ends : (version parts_ : ℕ) (payload left : List ℕ) (ranged : Bool) → 1 ≤ length payload → length left ≡ 0 → ScriptSoFar version parts_ payload left ranged → ReadsScript version parts_ payload ranged
script_ends version parts_ payload left ranged some none k = record {
  ops = k.ops;
  some = some_of k.ops k.payload_is;
  forms = k.forms;
  payload_is = k.payload_is ∙ (ap (λ xs. script_bytes k.ops ++ xs) (empty left none) ∙ append-nil (script_bytes k.ops));
  known = k.known;
  range = k.range;
}
  where
    empty : (xs : List ℕ) → length xs ≡ 0 → xs ≡ []
    empty [] e = refl
    empty (x ∷ xs) e = absurd (omega (arith, e))

    some_of : (ops : List Line) → payload ≡ script_bytes ops ++ left → 1 ≤ length ops
    some_of [] e = absurd (omega (arith, some, none, ap length e))
    some_of (op ∷ ops) e = omega arith

-- operations after those so far
next_op : (done all : List Line) (payload left : List ℕ) → 1 ≤ length left → Each IsOpForm done → Each IsOpForm all → payload ≡ script_bytes done ++ left → payload ≡ script_bytes all →
    (op : Line) × (more : List Line) × (all ≡ done ++ op ∷ more) × IsOpForm op × (left ≡ op_bytes op ++ script_bytes more)
next_op done all payload left some f g p q =
    let r = longer op_bytes IsOpForm op_code done all left f g (sym p ∙ q) in
    by_more r.more r.joined r.forms r.bytes_is
  where
    by_more : (more : List Line) → all ≡ done ++ more → Each IsOpForm more → left ≡ script_bytes more → (op : Line) × (rest : List Line) × (all ≡ done ++ op ∷ rest) × IsOpForm op × (left ≡ op_bytes op ++ script_bytes rest)
    by_more [] j h b = absurd (omega (arith, some, ap length b))
    by_more (op ∷ more) j h b = (op, more, j, h.0, b)

-- an operation of another version
pub script_unknown : (version parts_ : ℕ) (payload left : List ℕ) (ranged : Bool) → 1 ≤ length left → ScriptSoFar version parts_ payload left ranged →
    ((op : Line) (us : List ℕ) → IsOpForm op → left ≡ op_bytes op ++ us → is_known_in version op ≡ false) → ReadsNoScript version payload
script_unknown version parts_ payload left ranged some k unknown ops some_ops forms is =
    let n = next_op k.ops ops payload left some k.forms forms k.payload_is is in
    ap (list_all (is_known_in version)) n.2 ∙ (list_all-append (is_known_in version) k.ops (n.0 ∷ n.1)
    ∙ (ap (λ b. list_all (is_known_in version) k.ops && (b && list_all (is_known_in version) n.1)) (unknown n.0 (script_bytes n.1) n.3 n.4) ∙ and_false (list_all (is_known_in version) k.ops)))
  where
    and_false : (b : Bool) → (b && false) ≡ false
    and_false true = refl
    and_false false = refl

-- bytes that are no operation
pub script_broken : (version parts_ : ℕ) (payload left : List ℕ) (ranged : Bool) → 1 ≤ length left → ScriptSoFar version parts_ payload left ranged → ReadsNoOp left → ReadsNoScript version payload
script_broken version parts_ payload left ranged some k none ops some_ops forms is =
    let n = next_op k.ops ops payload left some k.forms forms k.payload_is is in absurd (none n.0 (script_bytes n.1) n.3 n.4)

-- no byte
pub script_empty : (version : ℕ) (payload : List ℕ) → length payload ≡ 0 → ReadsNoScript version payload
script_empty version payload none [] some forms is = absurd (omega (arith, some))
script_empty version payload none (op ∷ ops) some forms is =
    absurd (omega (arith, none, op_code.some op forms.0, ap length is, length-append (op_bytes op) (script_bytes ops)))

-- what is left after an operation is shorter
pub rest_shorter : (left rest : List ℕ) (kept : Option Line) → ReadsOp left kept rest → length rest < length left
rest_shorter left rest kept r = omega (arith, op_code.some r.op r.form, ap length r.parts, length-append (op_bytes r.op) rest)

-- the operations that were taken so far, and those that are left
pub record OpsSoFar (payload left : List ℕ) (s m : State) : Type 0 where
  pub done : List Line
  pub more : List Line
  pub forms : Each IsOpForm (done ++ more)
  pub more_forms : Each IsOpForm more
  pub fits : Each Fits more
  pub payload_is : payload ≡ script_bytes (done ++ more)
  pub left_is : left ≡ script_bytes more
  pub lead : take_lines scene_limits s done ≡ Now m
  pub reached : IsReached m

pub ops_start : (payload : List ℕ) (s : State) → IsReached s → IsShortScript payload → OpsSoFar payload payload s s
ops_start payload s r k = record {
  done = [];
  more = k.ops;
  forms = k.forms;
  more_forms = k.forms;
  fits = k.fits;
  payload_is = k.payload_is;
  left_is = k.payload_is;
  lead = refl;
  reached = r;
}

-- the next operation of those that are left
pub record NextOp (left rest : List ℕ) (op : Line) (more : List Line) : Type 0 where
  pub others : List Line
  pub more_is : more ≡ op ∷ others
  pub rest_is : rest ≡ script_bytes others

next_is : (left rest : List ℕ) (kept : Option Line) (more : List Line) (r : ReadsOp left kept rest) → Each IsOpForm more → 1 ≤ length left → left ≡ script_bytes more → NextOp left rest r.op more
next_is left rest kept [] r h some e = absurd (omega (arith, some, ap length e))
next_is left rest kept (op ∷ more) r h some e =
    let k = op_code.apart op r.op (script_bytes more) rest h.0 r.form (sym e ∙ r.parts) in
    let same : op ≡ r.op = k.0 in
    record { others = more; more_is = ap (λ x. x ∷ more) same; rest_is = sym k.1 }

-- some are left, and none of them is too long
pub ops_none : (payload left : List ℕ) (s m : State) → OpsSoFar payload left s m → 1 ≤ length left → ReadsNoOp left → ⊥
ops_none payload left s m k some none = by_more k.more k.more_forms k.left_is
  where
    by_more : (more : List Line) → Each IsOpForm more → left ≡ script_bytes more → ⊥
    by_more [] h e = omega (arith, some, ap length e)
    by_more (op ∷ more) h e = none op (script_bytes more) h.0 e

pub ops_long : (payload left rest : List ℕ) (s m : State) → OpsSoFar payload left s m → 1 ≤ length left → ReadsOp left None rest → ⊥
ops_long payload left rest s m k some r =
    let n = next_is left rest None k.more r k.more_forms some k.left_is in
    r.kept_is (subst (Each Fits) n.more_is k.fits).0

-- the operation that was read
pub op_is : (left rest : List ℕ) (x : Line) (r : ReadsOp left (Some x) rest) → x ≡ r.op
op_is left rest x r = r.kept_is.1

pub op_form : (left rest : List ℕ) (x : Line) → ReadsOp left (Some x) rest → IsOpForm x
op_form left rest x r = subst IsOpForm (sym (op_is left rest x r)) r.form

-- one more is taken
pub ops_next : (payload left rest : List ℕ) (s m n : State) (x : Line) → OpsSoFar payload left s m → 1 ≤ length left → ReadsOp left (Some x) rest → take_line scene_limits m x ≡ Now n → IsReached n → OpsSoFar payload rest s n
ops_next payload left rest s m n x k some r e reached =
    let q = next_is left rest (Some x) k.more r k.more_forms some k.left_is in
    let whole : k.done ++ k.more ≡ (k.done ++ x ∷ []) ++ q.others =
    ap (λ ops. k.done ++ ops) (q.more_is ∙ ap (λ y. y ∷ q.others) (sym (op_is left rest x r))) ∙ sym (append_assoc k.done (x ∷ []) q.others) in
    record {
      done = k.done ++ x ∷ [];
      more = q.others;
      forms = subst (Each IsOpForm) whole k.forms;
      more_forms = (subst (Each IsOpForm) q.more_is k.more_forms).1;
      fits = (subst (Each Fits) q.more_is k.fits).1;
      payload_is = k.payload_is ∙ ap script_bytes whole;
      left_is = q.rest_is;
      lead = taken_on scene_limits k.done (x ∷ []) s m k.lead ∙ ap (goes_on (λ y. take_lines scene_limits y [])) e;
      reached = reached;
    }

-- one more is refused
pub ops_stop : (payload left rest : List ℕ) (s m : State) (x : Line) (f : SceneFault) → OpsSoFar payload left s m → 1 ≤ length left → ReadsOp left (Some x) rest → IsRefusedFor m x f → RefusesOps payload s f
ops_stop payload left rest s m x f k some r refused =
    let q = next_is left rest (Some x) k.more r k.more_forms some k.left_is in
    let whole : k.done ++ k.more ≡ k.done ++ x ∷ q.others = ap (λ ops. k.done ++ ops) (q.more_is ∙ ap (λ y. y ∷ q.others) (sym (op_is left rest x r))) in
    record {
      done = k.done;
      op = x;
      more = q.others;
      forms = subst (Each IsOpForm) whole k.forms;
      payload_is = k.payload_is ∙ ap script_bytes whole;
      state = m;
      taken = k.lead;
      refused = refused;
    }

-- all are taken
pub ops_end : (payload left : List ℕ) (s m : State) → OpsSoFar payload left s m → length left ≡ 0 → TakesOps payload s m
ops_end payload left s m k none = by_more k.more k.forms k.more_forms k.payload_is k.left_is
  where
    by_more : (more : List Line) → Each IsOpForm (k.done ++ more) → Each IsOpForm more → payload ≡ script_bytes (k.done ++ more) → left ≡ script_bytes more → TakesOps payload s m
    by_more [] f h p e = record { ops = k.done ++ []; forms = f; payload_is = p; taken = ap (take_lines scene_limits s) (append-nil k.done) ∙ k.lead }
    by_more (op ∷ more) f h p e = absurd (omega (arith, none, op_code.some op h.0, ap length e, length-append (op_bytes op) (script_bytes more)))

false_not_true : false ≡ true → ⊥
false_not_true e = absurd (cc)

-- bytes are left where they are not empty, and none where they are
pub some_left : (xs : List ℕ) → false ≡ (length xs == 0) → 1 ≤ length xs
some_left [] e = absurd (false_not_true e)
some_left (x ∷ xs) e = omega arith

pub none_left : (xs : List ℕ) → true ≡ (length xs == 0) → length xs ≡ 0
none_left xs e = (Decides-eqb (length xs) 0).0 (sym e)

-- one more, where one of those before is out of range
pub script_more_out : (version parts_ : ℕ) (payload left rest : List ℕ) (kept : Option Line) → ScriptSoFar version parts_ payload left false → ReadsOp left kept rest →
    ((op : Line) (us : List ℕ) → IsOpForm op → left ≡ op_bytes op ++ us → is_known_in version op ≡ true) → ScriptSoFar version parts_ payload rest false
script_more_out version parts_ payload left rest kept k r known = record {
  ops = k.ops ++ r.op ∷ [];
  forms = each_append IsOpForm k.ops (r.op ∷ []) k.forms (r.form, tt);
  payload_is = bytes_more k.ops r.op payload left rest k.payload_is r.parts;
  known = list_all-append (is_known_in version) k.ops (r.op ∷ []) ∙ and_from _ _ k.known (and_from _ _ (known r.op rest r.form r.parts) refl);
  range = λ d e. list_all-append (in_range d) k.ops (r.op ∷ []) ∙ ap (λ b. b && (in_range d r.op && true)) (k.range d e);
}
