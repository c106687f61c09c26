-- The last line is written behind the others.
use Rattle.run_io.proofs.Counted.{run_counted}
use Rattle.run_io.specs.Renderings.{answer_lines, rendering}
use Rattle.std.proofs.Common.{Err, List, Ok, OnErr, OnOk, Option, Result, [], ap, length, subst, sym, ℕ, ◌++◌, ◌∙◌, ◌≡◌}
use Rattle.cluster_run.specs.Clusters.{IsRun}
use Rattle.std.specs.Io.KnownBytes.{Appends}
use Rattle.std.specs.List.{sum_by}
use Rattle.str_model.specs.Lines.{Counts, counts, end_line, journal_lines, render, render_j}
use Rattle.str_model.specs.Runs.{World}
use Rattle.str_model.specs.declared.messages.Answer.{Answer}
use Rattle.str_model.specs.declared.names.Done.{Done}
use Rattle.str_outer.specs.Pieces.{AppendsPrefix}
use Rattle.str_scene.specs.Scenes.{KeyTable, Scene}
use Rattle.top_status.proofs.Pieces.{last_partly, last_written, so_far_written}
use Rattle.top_status.proofs.Prefixes.{further}
use Rattle.top_status.specs.Waiting.{WrittenBut}

-- lines and the last line, which were written behind nothing
pub end_written : {E : Type 0} (lines : List ℕ) (c : Counts) (a b d : Option (List ℕ)) (first waiting last text : List ℕ) (r : Result (Unit {0}) E)
    → first ≡ [] → last ≡ waiting ++ end_line c → text ≡ last → WrittenBut a b waiting (first ++ lines) → OnOk r (Appends b d text) → OnOk r (Appends a d (lines ++ end_line c))
end_written lines c a b d first waiting last text (Err e) f l t p x = tt
end_written lines c a b d first waiting last text (Ok u) f l t p x =
    last_written a b d lines (end_line c) waiting (subst (λ (ys : List ℕ). WrittenBut a b waiting (ys ++ lines)) f p) (subst (λ (ys : List ℕ). Appends b d ys) (t ∙ l) x)

-- a prefix of what waits and of the last line was written
pub end_partly : {E : Type 0} (lines : List ℕ) (c : Counts) (a b d : Option (List ℕ)) (first waiting last text : List ℕ) (r : Result (Unit {0}) E)
    → first ≡ [] → last ≡ waiting ++ end_line c → text ≡ last → WrittenBut a b waiting (first ++ lines) → OnErr r (AppendsPrefix b d text)
    → OnErr r (AppendsPrefix a d (lines ++ end_line c))
end_partly lines c a b d first waiting last text (Ok u) f l t p x = tt
end_partly lines c a b d first waiting last text (Err e) f l t p x =
    last_partly a b d lines (end_line c) waiting (subst (λ (ys : List ℕ). WrittenBut a b waiting (ys ++ lines)) f p) (subst (λ (ys : List ℕ). AppendsPrefix b d ys) (t ∙ l) x)

-- the lines alone were written, but for what waits
pub lines_left : (lines : List ℕ) (c : Counts) (a b : Option (List ℕ)) (first waiting : List ℕ) → first ≡ [] → WrittenBut a b waiting (first ++ lines) → AppendsPrefix a b (lines ++ end_line c)
lines_left lines c a b first waiting f p = so_far_written a b lines (end_line c) waiting (subst (λ (ys : List ℕ). WrittenBut a b waiting (ys ++ lines)) f p)

-- a prefix of the lines was written
pub lines_partly : (lines : List ℕ) (c : Counts) (a b : Option (List ℕ)) (first : List ℕ) → first ≡ [] → AppendsPrefix a b (first ++ lines) → AppendsPrefix a b (lines ++ end_line c)
lines_partly lines c a b first f p = further a b lines (end_line c) (subst (λ (ys : List ℕ). AppendsPrefix a b (ys ++ lines)) f p)

-- ---- the rendering of a world

-- what its answers, its keys and its counts give
pub rendering_is : (scene : Scene) (w : World) (answers : List Answer) (keys : KeyTable) (c : Counts) → answers ≡ w.answers → keys ≡ scene.keys → c ≡ counts scene w
    → rendering keys answers c ≡ render scene w
unfolding render
rendering_is scene w answers keys c a k n = λ i. rendering (k i) (a i) (n i)

-- what its journal, its answers, its keys and its counts give
pub journal_is : (scene : Scene) (w : World) (journal : List Done) (answers : List Answer) (keys : KeyTable) (c : Counts) → journal ≡ w.journal → answers ≡ w.answers → keys ≡ scene.keys
    → c ≡ counts scene w → journal_lines keys journal answers ++ end_line c ≡ render_j scene w
unfolding render_j
journal_is scene w journal answers keys c j a k n = λ i. journal_lines (k i) (j i) (a i) ++ end_line (n i)

-- its journal counts its answers
pub journal_counts : (scene : Scene) (w : World) (journal : List Done) (answers : List Answer) → IsRun scene w → journal ≡ w.journal → answers ≡ w.answers
    → sum_by (λ d. d.answers) journal ≡ length answers
journal_counts scene w journal answers r j a = ap (sum_by (λ (d : Done). d.answers)) j ∙ (run_counted scene w r ∙ ap length (sym a))

-- a text that is this one was written
pub written_as : {E : Type 0} (a b : Option (List ℕ)) (text other : List ℕ) (r : Result (Unit {0}) E) → text ≡ other → OnOk r (Appends a b text) → OnOk r (Appends a b other)
written_as a b text other r e p = subst (λ (xs : List ℕ). OnOk r (Appends a b xs)) e p

-- a prefix of it was
pub partly_as : {E : Type 0} (a b : Option (List ℕ)) (text other : List ℕ) (r : Result (Unit {0}) E) → text ≡ other → OnErr r (AppendsPrefix a b text) → OnErr r (AppendsPrefix a b other)
partly_as a b text other r e p = subst (λ (xs : List ℕ). OnErr r (AppendsPrefix a b xs)) e p
