-- The entries of a journal are written one after the other, each with the answers that it counts.
use Rattle.run_io.proofs.Behind.{then_piece}
use Rattle.run_io.specs.Renderings.{answer_lines, entry_lines}
use Rattle.std.proofs.Common.{List, Option, [], add-one, ap, append-nil, append_assoc, arith, drop, false, get_or, length, length-drop, refl, subst, sym, take, take-append-drop, ℕ, ◌++◌, ◌+◌, ◌<◌, ◌∙◌, ◌∷◌, ◌≡◌, ◌≤◌}
use Rattle.std.proofs.Math.Seq.{take-suc}
use Rattle.std.proofs.lemmas.List.{drop-drop}
use Rattle.std.proofs.lemmas.List.Sums.{sum_by-cons, sum_by_more, sum_by_more_le}
use Rattle.std.specs.List.{sum_by}
use Rattle.str_model.specs.Lines.{journal_lines}
use Rattle.str_model.specs.declared.messages.Answer.{Answer}
use Rattle.str_model.specs.declared.names.Done.{Done}
use Rattle.str_outer.specs.Pieces.{AppendsPrefix}
use Rattle.str_scene.specs.Scenes.{KeyTable}
use Rattle.str_scene.specs.declared.names.Event.TheVariants.{Client}
use Rattle.top_status.proofs.Pieces.{last_partly, so_far_written}
use Rattle.top_status.proofs.Prefixes.{further}
use Rattle.top_status.specs.Waiting.{WrittenBut}

-- what stands in place of an entry that is not there
abbrev pub no_entry : Done
no_entry = record { event = Client (record { 0 = 0 }) 0; idle = false; answers = 0 }

-- how many answers these entries count
abbrev pub counts_of : List Done → ℕ
counts_of journal = sum_by (λ d. d.answers) journal

-- the lines of some entries, and those of the others with the answers that are left
journal_parts : (keys : KeyTable) (early late : List Done) (all : List Answer)
    → journal_lines keys (early ++ late) all ≡ journal_lines keys early all ++ journal_lines keys late (drop (counts_of early) all)
journal_parts keys [] late all = refl
journal_parts keys (e ∷ early) late all =
    let first : List ℕ = entry_lines keys e (take e.answers all) in
    let left : drop (counts_of early) (drop e.answers all) ≡ drop (counts_of (e ∷ early)) all =
    drop-drop (counts_of early) e.answers all ∙ ap (λ (n : ℕ). drop n all) (sym (sum_by-cons (λ (d : Done). d.answers) e early)) in
    ap (λ (ys : List ℕ). first ++ ys)
    (journal_parts keys early late (drop e.answers all) ∙ ap (λ (xs : List Answer). journal_lines keys early (drop e.answers all) ++ journal_lines keys late xs) left)
    ∙ sym (append_assoc first (journal_lines keys early (drop e.answers all)) (journal_lines keys late (drop (counts_of (e ∷ early)) all)))

-- the lines of the first entries, and those of the next
one_more : (keys : KeyTable) (journal : List Done) (all : List Answer) (i : ℕ) (x none : Done) (rest released : List Answer) → i < length journal → x ≡ get_or journal i none
    → rest ≡ drop (counts_of (take i journal)) all → released ≡ take x.answers rest
    → journal_lines keys (take (i + 1) journal) all ≡ journal_lines keys (take i journal) all ++ entry_lines keys x released
one_more keys journal all i x none rest released h e r t =
    ap (λ (ds : List Done). journal_lines keys ds all) last
    ∙ (journal_parts keys (take i journal) (x ∷ []) all
    ∙ ap (λ (ys : List ℕ). journal_lines keys (take i journal) all ++ ys) (append-nil (entry_lines keys x (take x.answers (drop (counts_of (take i journal)) all))) ∙ sym same))
  where
    last : take (i + 1) journal ≡ take i journal ++ x ∷ []
    last = rw add-one (take-suc journal i none h ∙ ap (λ y. take i journal ++ y ∷ []) (sym e))

    same : entry_lines keys x released ≡ entry_lines keys x (take x.answers (drop (counts_of (take i journal)) all))
    same = ap (entry_lines keys x) (t ∙ ap (take x.answers) r)

-- there are as many answers left as the next entry counts
pub entry_fits : (journal : List Done) (all rest : List Answer) (i : ℕ) (x none : Done) → i < length journal → x ≡ get_or journal i none → rest ≡ drop (counts_of (take i journal)) all
    → counts_of journal ≡ length all → x.answers ≤ length rest
entry_fits journal all rest i x none h e r s =
    let within = sum_by_more_le (λ (d : Done). d.answers) journal i none h in
    let here : x.answers ≡ (get_or journal i none).answers = ap (λ (d : Done). d.answers) e in
    let size : length rest ≡ length (drop (counts_of (take i journal)) all) = ap length r in
    let left = length-drop (counts_of (take i journal)) all in omega (arith, within, here, size, left, s)

-- the answers that are left behind it
pub answers_left_behind : (journal : List Done) (all rest : List Answer) (i : ℕ) (x none : Done) → i < length journal → x ≡ get_or journal i none → rest ≡ drop (counts_of (take i journal)) all
    → drop x.answers rest ≡ drop (counts_of (take (i + 1) journal)) all
answers_left_behind journal all rest i x none h e r =
    ap (drop x.answers) r
    ∙ (drop-drop x.answers (counts_of (take i journal)) all
    ∙ ap (λ (n : ℕ). drop n all)
    (ap (λ (d : Done). counts_of (take i journal) + d.answers) e ∙ sym (sum_by_more (λ (d : Done). d.answers) journal i none h)))

-- one more entry is written behind what waited, or is left waiting
pub one_entry : (a b d : Option (List ℕ)) (keys : KeyTable) (first : List ℕ) (journal : List Done) (all : List Answer) (i : ℕ) (x none : Done) (rest released : List Answer) (w v : List ℕ)
    → i < length journal → x ≡ get_or journal i none → rest ≡ drop (counts_of (take i journal)) all → released ≡ take x.answers rest
    → WrittenBut a b w (first ++ journal_lines keys (take i journal) all) → WrittenBut b d v (w ++ entry_lines keys x released)
    → WrittenBut a d v (first ++ journal_lines keys (take (i + 1) journal) all)
one_entry a b d keys first journal all i x none rest released w v h e r t before now =
    subst (λ (ys : List ℕ). WrittenBut a d v ys)
    (append_assoc first (journal_lines keys (take i journal) all) (entry_lines keys x released)
    ∙ ap (λ (ys : List ℕ). first ++ ys) (sym (one_more keys journal all i x none rest released h e r t)))
    (then_piece a b d (first ++ journal_lines keys (take i journal) all) w v (entry_lines keys x released) before now)

-- or a prefix of it is written
pub entry_broke : (a b d : Option (List ℕ)) (keys : KeyTable) (first : List ℕ) (journal : List Done) (all : List Answer) (i : ℕ) (x none : Done) (rest released : List Answer) (w : List ℕ)
    → i < length journal → x ≡ get_or journal i none → rest ≡ drop (counts_of (take i journal)) all → released ≡ take x.answers rest
    → WrittenBut a b w (first ++ journal_lines keys (take i journal) all) → AppendsPrefix b d (w ++ entry_lines keys x released)
    → AppendsPrefix a d (first ++ journal_lines keys journal all)
entry_broke a b d keys first journal all i x none rest released w h e r t before now =
    subst (λ (ys : List ℕ). AppendsPrefix a d ys) whole
    (further a d ((first ++ journal_lines keys (take i journal) all) ++ entry_lines keys x released) later
    (last_partly a b d (first ++ journal_lines keys (take i journal) all) (entry_lines keys x released) w before now))
  where
    later : List ℕ
    later = journal_lines keys (drop (i + 1) journal) (drop (counts_of (take (i + 1) journal)) all)

    parts : journal_lines keys (take (i + 1) journal) all ++ later ≡ journal_lines keys journal all
    parts = sym (journal_parts keys (take (i + 1) journal) (drop (i + 1) journal) all) ∙ ap (λ (ds : List Done). journal_lines keys ds all) (take-append-drop (i + 1) journal)

    whole : ((first ++ journal_lines keys (take i journal) all) ++ entry_lines keys x released) ++ later ≡ first ++ journal_lines keys journal all
    whole = ap (λ (ys : List ℕ). ys ++ later)
        (append_assoc first (journal_lines keys (take i journal) all) (entry_lines keys x released)
        ∙ ap (λ (ys : List ℕ). first ++ ys) (sym (one_more keys journal all i x none rest released h e r t)))
        ∙ (append_assoc first (journal_lines keys (take (i + 1) journal) all) later ∙ ap (λ (ys : List ℕ). first ++ ys) parts)
