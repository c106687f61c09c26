-- The first line that is refused is the first bad line, and bad for that reason.
use Rattle.std.proofs.Common.{Bool, List, None, Option, Some, [], ap, append_assoc, arith, false, length, length-append, map, nat_lt, refl, subst, sym, take, true, ℕ, ◌++◌, ◌+◌, ◌<◌, ◌∙◌, ◌∷◌, ◌≡◌}
use Rattle.std.proofs.lemmas.Bool.{and_from}
use Rattle.std.proofs.Math.Seq.{take-append_seam}
use Rattle.std.proofs.lemmas.Bool.Decides.{nat_tests}
use Rattle.std.proofs.lemmas.List.{length-map, map-append}
use Rattle.std.proofs.lemmas.List.Sums.{count_by-le-length}
use Rattle.std.proofs.lemmas.Option.{none-some}
use Rattle.scene_text.proofs.Taking.StatesKept.{count_at, tx_count}
use Rattle.scene_text.proofs.Taking.LinesInOrder.{place_next}
use Rattle.scene_text.proofs.Taking.SessionLines.{taken-append, taken_on}
use Rattle.scene_text.proofs.FirstBad.FirstLines.{TextsTaken, in_range_taken, one_state, parted, start_taken, taken_in_range, taken_start, texts_same}
use Rattle.scene_text.proofs.Taking.LinesTaken.{goes_on_from, is_taken, taken}
use Rattle.scene_text.proofs.Taking.WiderLimits.{lines_more, past, wider, within_first}
use Rattle.scene_text.specs.FirstBad.{IsBadFor, IsFirstBadLine, IsFormed, IsInRange, IsStart}
use Rattle.scene_text.specs.LineOrder.{Place, follows, place_after}
use Rattle.scene_text.specs.LineTexts.{IsForm, line_text}
use Rattle.scene_text.specs.Taking.{Limits, State, after, at_start, goes_on, has_room, in_range, judged, placed, scene_limits, settled, take_line, take_lines}
use Rattle.scene_text.specs.Taking.Taken.{Now, Refused}
use Rattle.scene_text.specs.declared.lines.Line.{Line}
use Rattle.scene_text.specs.declared.lines.Line.TheVariants.{Abort as LAbort, Add as LAdd, Client as LClient, Del as LDel, Deliver as LDeliver, Get as LGet, Need as LNeed, Part as LPart, Put as LPut, Puts as LPuts, Session as LSession, Tx as LTx}
use Rattle.str_base.specs.Versions.{same_node}
use Rattle.str_scene.proofs.Each.{each_append, each_at, each_from}
use Rattle.str_scene.specs.Lists.{Each}
use Rattle.str_scene.specs.declared.faults.Why.{Why}
use Rattle.str_scene.specs.declared.faults.Why.TheVariants.{Count, Cut, Form, Range}

-- why a line is refused
abbrev pub Reason : Limits → State → Line → Why → Type 0
Reason limits s l Cut = ⊥
Reason limits s l Form = follows s.draft.version s.place l ≡ None
Reason limits s l Range = (next : Place) × (follows s.draft.version s.place l ≡ Some next) × (in_range s.draft l ≡ false)
Reason limits s l Count = (next : Place) × (follows s.draft.version s.place l ≡ Some next) × (in_range s.draft l ≡ true)

-- a line that is refused is refused for a reason
refused_same : (v w : Why) → Refused v ≡ Refused w → v ≡ w
refused_same v w e = cc

pub reason : (limits : Limits) (s : State) (l : Line) (why : Why) → take_line limits s l ≡ Refused why → Reason limits s l why
reason limits s l why e = by_place (follows s.draft.version s.place l) refl e
  where
    by_tests : (next : Place) (a b : Bool) → follows s.draft.version s.place l ≡ Some next → in_range s.draft l ≡ a → judged (after next s l) a b ≡ Refused why → Reason limits s l why
    by_tests next false b o p e = subst (λ w. Reason limits s l w) (refused_same _ _ e) (next, o, p)
    by_tests next true false o p e = subst (λ w. Reason limits s l w) (refused_same _ _ e) (next, o, p)
    by_tests next true true o p e = absurd (cc)

    by_place : (o : Option Place) → follows s.draft.version s.place l ≡ o → placed limits s l o ≡ Refused why → Reason limits s l why
    by_place None o e = subst (λ w. Reason limits s l w) (refused_same _ _ e) o
    by_place (Some next) o e = by_tests next (in_range s.draft l) (has_room limits s l) o refl e

-- lines, and one that follows them, as texts
with_line : (read : List Line) (l : Line) → map line_text (read ++ l ∷ []) ≡ map line_text read ++ line_text l ∷ []
with_line read l = map-append line_text read (l ∷ [])

-- lines of these texts are these
they_are : (read ls : List Line) (l : Line) → Each IsForm read → IsForm l → Each IsForm ls → map line_text ls ≡ map line_text read ++ line_text l ∷ [] → ls ≡ read ++ l ∷ []
they_are read ls l f g h e = texts_same ls (read ++ l ∷ []) h (each_append IsForm read (l ∷ []) f (g, tt)) (e ∙ sym (with_line read l))

-- where such lines are taken, so is the last
last_taken : (limits : Limits) (read : List Line) (l : Line) (s : State) → Each IsForm read → IsForm l → take_lines limits at_start read ≡ Now s →
    TextsTaken limits (map line_text read ++ line_text l ∷ []) → (t : State) × (take_line limits s l ≡ Now t)
last_taken limits read l s f g e t =
    let same : t.read ≡ read ++ l ∷ [] = they_are read t.read l f g t.forms t.texts in
    let all : goes_on (λ x. take_lines limits x []) (take_line limits s l) ≡ Now t.taken.state =
    sym (taken_on limits read (l ∷ []) at_start s e) ∙ (ap (take_lines limits at_start) (sym same) ∙ t.taken.lead) in
    let r = goes_on_from (λ x. take_lines limits x []) (take_line limits s l) t.taken.state all in
    (r.0, r.1)

-- with a line that is refused they are no first lines
pub refused_no_start : (read : List Line) (l : Line) (s : State) (why : Why) → Each IsForm read → IsForm l → take_lines scene_limits at_start read ≡ Now s →
    take_line scene_limits s l ≡ Refused why → ¬ IsStart (map line_text read ++ line_text l ∷ [])
refused_no_start read l s why f g e r start =
    let t = last_taken scene_limits read l s f g e (start_taken _ start) in
    let both_ : Now t.0 ≡ Refused why = sym t.1 ∙ r in
    absurd (cc)

-- with a line that is not of the form they are of no lines of the form
pub no_lines : (lines : List (List ℕ)) (line : List ℕ) (ls : List Line) → ((l : Line) → IsForm l → ¬ (line ≡ line_text l)) → Each IsForm ls → map line_text ls ≡ lines ++ line ∷ [] → ⊥
no_lines lines line ls none f e = let p = parted ls lines (line ∷ []) f e in none_last p.second p.second_form p.second_is
  where
    none_last : (ms : List Line) → Each IsForm ms → map line_text ms ≡ line ∷ [] → ⊥
    none_last [] g h = absurd (cc)
    none_last (m ∷ ms) g h = let same : line ≡ line_text m = cc in none m g.0 same

-- the lines with the next are in order where it may stand there
pub formed : (read : List Line) (l : Line) (s : State) (next : Place) → Each IsForm read → IsForm l → take_lines scene_limits at_start read ≡ Now s →
    follows s.draft.version s.place l ≡ Some next → IsFormed (map line_text read ++ line_text l ∷ [])
formed read l s next f g e o = record {
  read = read ++ l ∷ [];
  place = next;
  forms = λ i x p. each_at IsForm (read ++ l ∷ []) i x (each_append IsForm read (l ∷ []) f (g, tt)) p;
  spelled = with_line read l;
  order = place_next scene_limits read l s e ∙ o;
}

-- and only there
pub not_formed : (read : List Line) (l : Line) (s : State) → Each IsForm read → IsForm l → take_lines scene_limits at_start read ≡ Now s →
    follows s.draft.version s.place l ≡ None → ¬ IsFormed (map line_text read ++ line_text l ∷ [])
not_formed read l s f g e o k =
    let same : k.read ≡ read ++ l ∷ [] = they_are read k.read l f g (each_from IsForm k.read k.forms) k.spelled in
    none-some k.place (sym o ∙ (sym (place_next scene_limits read l s e) ∙ (ap place_after (sym same) ∙ k.order)))

-- there is room in limits past what a state has
less_past : (n a b : ℕ) → n < b → nat_lt n (a + b) ≡ true
less_past n a b l = grind (arith, nat_tests)

pub room_past : (a : Limits) (s : State) (l : Line) → has_room (wider a (past s)) s l ≡ true
room_past a s (LPart p row) = less_past _ _ _ (omega arith)
room_past a s (LSession n) =
    and_from _ _ (less_past (length s.draft.sessions) a.sessions (length s.draft.sessions + 1) (omega arith))
    (less_past (count_at n s.draft.sessions) a.at_node (length s.draft.sessions + 1) (omega (arith, count_by-le-length (λ x. same_node x.node n) s.draft.sessions)))
room_past a s LTx = less_past (tx_count (settled s).sessions) a.txs (tx_count (settled s).sessions + 1) (omega arith)
room_past a s (LGet name p) = less_past _ _ _ (omega arith)
room_past a s (LPut name p n) = less_past _ _ _ (omega arith)
room_past a s (LPuts name p bytes) = less_past _ _ _ (omega arith)
room_past a s (LAdd name p n) = less_past _ _ _ (omega arith)
room_past a s (LDel name p) = less_past _ _ _ (omega arith)
room_past a s (LNeed name p n) = less_past _ _ _ (omega arith)
room_past a s LAbort = less_past _ _ _ (omega arith)
room_past a s (LClient c t) = less_past _ _ _ (omega arith)
room_past a s (LDeliver i) = less_past _ _ _ (omega arith)
room_past a s _ = refl

-- the lines with the next are in range where its numbers are
pub ranged : (read : List Line) (l : Line) (s : State) (next : Place) → Each IsForm read → IsForm l → take_lines scene_limits at_start read ≡ Now s →
    follows s.draft.version s.place l ≡ Some next → in_range s.draft l ≡ true → IsInRange (map line_text read ++ line_text l ∷ [])
ranged read l s next f g e o range =
    let large : Limits = wider scene_limits (past s) in
    let first : take_lines large at_start read ≡ Now s = lines_more scene_limits large read at_start s (within_first scene_limits (past s)) e in
    let second : take_line large s l ≡ Now (after next s l) = taken large s l next o range (room_past scene_limits s l) in
    taken_in_range large _ (omega arith) (omega arith)
    (record {
      read = read ++ l ∷ [];
      forms = each_append IsForm read (l ∷ []) f (g, tt);
      texts = with_line read l;
      taken = record { state = after next s l; lead = taken_on large read (l ∷ []) at_start s first ∙ ap (goes_on (λ x. take_lines large x [])) second };
    })

-- the first of lines that are taken are taken
pub first_taken : (limits : Limits) (ls ms : List Line) (t : State) → take_lines limits at_start (ls ++ ms) ≡ Now t → (m : State) × (take_lines limits at_start ls ≡ Now m)
first_taken limits ls ms t p =
    let r = goes_on_from (λ x. take_lines limits x ms) (take_lines limits at_start ls) t (sym (taken-append limits ls ms at_start) ∙ p) in
    (r.0, r.1)

-- and only there
pub not_ranged : (read : List Line) (l : Line) (s : State) → Each IsForm read → IsForm l → take_lines scene_limits at_start read ≡ Now s →
    in_range s.draft l ≡ false → ¬ IsInRange (map line_text read ++ line_text l ∷ [])
not_ranged read l s f g e range k =
    let r : (limits : Limits) × TextsTaken limits (map line_text read ++ line_text l ∷ []) = in_range_taken _ k in
    let limits : Limits = r.0 in
    let t : TextsTaken limits (map line_text read ++ line_text l ∷ []) = r.1 in
    let same : t.read ≡ read ++ l ∷ [] = they_are read t.read l f g t.forms t.texts in
    let all : take_lines limits at_start (read ++ l ∷ []) ≡ Now t.taken.state = ap (take_lines limits at_start) (sym same) ∙ t.taken.lead in
    let first : (m : State) × (take_lines limits at_start read ≡ Now m) = first_taken limits read (l ∷ []) t.taken.state all in
    let m : State = first.0 in
    let state : m ≡ s = one_state limits scene_limits read m s first.1 e in
    let lead : take_lines limits at_start read ≡ Now s = first.1 ∙ ap Now state in
    let u : (x : State) × (take_line limits s l ≡ Now x) = last_taken limits read l s f g lead t in
    let range_ : in_range s.draft l ≡ true = (is_taken limits s l u.0 u.1).range in
    not_both (in_range s.draft l) range range_
  where
    not_both : (b : Bool) → b ≡ false → b ≡ true → ⊥
    not_both b p q = absurd (cc)

-- the lines that were taken are the first of these
pub first_lines : (read : List Line) (line : List ℕ) (more : List (List ℕ)) → take (length read) (map line_text read ++ line ∷ more) ≡ map line_text read
first_lines read line more =
    ap (λ n. take n (map line_text read ++ line ∷ more)) (sym (length-map read line_text)) ∙ take-append_seam (map line_text read) (line ∷ more)

-- and so are they with the next
pub next_lines : (read : List Line) (line : List ℕ) (more : List (List ℕ)) → take (length read + 1) (map line_text read ++ line ∷ more) ≡ map line_text read ++ line ∷ []
next_lines read line more =
    let number : length read + 1 ≡ length (map line_text read ++ line ∷ []) = omega (arith, length-append (map line_text read) (line ∷ []), length-map read line_text) in
    ap (λ n. take n (map line_text read ++ line ∷ more)) number
    ∙ (ap (take (length (map line_text read ++ line ∷ []))) (sym (append_assoc (map line_text read) (line ∷ []) more)) ∙ take-append_seam (map line_text read ++ line ∷ []) more)

-- the texts of lines that are taken are first lines
pub taken_is_start : (read : List Line) (s : State) → Each IsForm read → take_lines scene_limits at_start read ≡ Now s → IsStart (map line_text read)
taken_is_start read s f e = taken_start _ (record { read = read; forms = f; texts = refl; taken = record { state = s; lead = e } })

-- the line after those that are taken is the first bad line where they are no first lines with it
pub first_bad_line : (read : List Line) (line : List ℕ) (more : List (List ℕ)) (s : State) → Each IsForm read → take_lines scene_limits at_start read ≡ Now s →
    ¬ IsStart (map line_text read ++ line ∷ []) → IsFirstBadLine (map line_text read ++ line ∷ more) (length read + 1)
first_bad_line read line more s f e bad = record {
  before = length read;
  number = omega arith;
  there = omega (arith, length-append (map line_text read) (line ∷ more), length-map read line_text);
  start = subst IsStart (sym (first_lines read line more)) (taken_is_start read s f e);
  bad = λ start. bad (subst IsStart (next_lines read line more) start);
}

-- why the line is bad that is not of the form
pub misspelled : (read : List Line) (line : List ℕ) (more : List (List ℕ)) (tail : List ℕ) (s : State) → Each IsForm read → take_lines scene_limits at_start read ≡ Now s →
    ((l : Line) → IsForm l → ¬ (line ≡ line_text l)) → IsBadFor (map line_text read ++ line ∷ more) tail (length read + 1) Form
misspelled read line more tail s f e none = (
  first_bad_line read line more s f e (λ start. (let t = start_taken _ start in no_lines (map line_text read) line t.read none t.forms t.texts)),
  λ formed_.
      (let k : IsFormed (map line_text read ++ line ∷ []) = subst IsFormed (next_lines read line more) formed_ in
      no_lines (map line_text read) line k.read none (each_from IsForm k.read k.forms) k.spelled),
)

-- why the line is bad that is refused
bad_for : (read : List Line) (l : Line) (more : List (List ℕ)) (tail : List ℕ) (s : State) (why : Why) → Each IsForm read → IsForm l → take_lines scene_limits at_start read ≡ Now s →
    IsFirstBadLine (map line_text read ++ line_text l ∷ more) (length read + 1) → Reason scene_limits s l why → IsBadFor (map line_text read ++ line_text l ∷ more) tail (length read + 1) why
bad_for read l more tail s Cut f g e bad r = absurd r
bad_for read l more tail s Form f g e bad r = (bad, λ k. not_formed read l s f g e r (subst IsFormed (next_lines read (line_text l) more) k))
bad_for read l more tail s Range f g e bad r = (
  bad,
  subst IsFormed (sym (next_lines read (line_text l) more)) (formed read l s r.0 f g e r.1),
  λ k. not_ranged read l s f g e r.2 (subst IsInRange (next_lines read (line_text l) more) k),
)
bad_for read l more tail s Count f g e bad r = (
  bad,
  subst IsFormed (sym (next_lines read (line_text l) more)) (formed read l s r.0 f g e r.1),
  subst IsInRange (sym (next_lines read (line_text l) more)) (ranged read l s r.0 f g e r.1 r.2),
)

pub refused : (read : List Line) (l : Line) (more : List (List ℕ)) (tail : List ℕ) (s : State) (why : Why) → Each IsForm read → IsForm l → take_lines scene_limits at_start read ≡ Now s →
    take_line scene_limits s l ≡ Refused why → IsBadFor (map line_text read ++ line_text l ∷ more) tail (length read + 1) why
refused read l more tail s why f g e r =
    bad_for read l more tail s why f g e (first_bad_line read (line_text l) more s f e (refused_no_start read l s why f g e r)) (reason scene_limits s l why r)
