-- What has been written of the rendering of a run.
use Rattle.run_io.proofs.Rendered.{partly_as, written_as}
use Rattle.std.proofs.Common.{Err, List, Ok, OnErr, OnOk, Option, Result, [], ap₂, subst, ℕ, ◌++◌, ◌∙◌, ◌≡◌}
use Rattle.std.proofs.KnownBytes.{Appends-trans}
use Rattle.std.specs.Io.KnownBytes.{Appends}
use Rattle.str_model.specs.Lines.{Counts, counts, end_line, render, render_j}
use Rattle.str_model.specs.Runs.{World}
use Rattle.str_outer.specs.Pieces.{AppendsPrefix}
use Rattle.str_scene.specs.Scenes.{Scene}
use Rattle.top_status.proofs.Prefixes.{and_then, further}

-- what was written of the rendering of a cluster is that of the run that the cluster shows
pub of_run : {E : Type 0} (scene s : Scene) (w v : World) (a b : Option (List ℕ)) (r : Result (Unit {0}) E) → s ≡ scene → v ≡ w
    → OnOk r (Appends a b (render s v)) → OnOk r (Appends a b (render scene w))
of_run scene s w v a b r q k p = written_as a b (render s v) (render scene w) r (ap₂ render q k) p

-- the same after an error
pub partly_of_run : {E : Type 0} (scene s : Scene) (w v : World) (a b : Option (List ℕ)) (r : Result (Unit {0}) E) → s ≡ scene → v ≡ w
    → OnErr r (AppendsPrefix a b (render s v)) → OnErr r (AppendsPrefix a b (render scene w))
partly_of_run scene s w v a b r q k p = partly_as a b (render s v) (render scene w) r (ap₂ render q k) p

-- the last line alone
end_is : (scene s : Scene) (w v : World) (c : Counts) (first last : List ℕ) → s ≡ scene → v ≡ w → c ≡ counts s v → first ≡ [] → last ≡ first ++ end_line c
    → last ≡ end_line (counts scene w)
end_is scene s w v c first last q k n e l =
    l ∙ (ap₂ (λ (ys : List ℕ) (x : Counts). ys ++ end_line x) e n ∙ ap₂ (λ (z : Scene) (x : World). end_line (counts z x)) q k)

-- it was written
pub end_alone : {E : Type 0} (scene s : Scene) (w v : World) (c : Counts) (first last : List ℕ) (a b : Option (List ℕ)) (r : Result (Unit {0}) E) → s ≡ scene → v ≡ w → c ≡ counts s v
    → first ≡ [] → last ≡ first ++ end_line c → OnOk r (Appends a b last) → OnOk r (Appends a b (end_line (counts scene w)))
end_alone scene s w v c first last a b (Err e) q k n f l x = tt
end_alone scene s w v c first last a b (Ok u) q k n f l x = subst (λ (ys : List ℕ). Appends a b ys) (end_is scene s w v c first last q k n f l) x

-- a prefix of it was
pub end_alone_partly : {E : Type 0} (scene s : Scene) (w v : World) (c : Counts) (first last : List ℕ) (a b : Option (List ℕ)) (r : Result (Unit {0}) E) → s ≡ scene → v ≡ w → c ≡ counts s v
    → first ≡ [] → last ≡ first ++ end_line c → OnErr r (AppendsPrefix a b last) → OnErr r (AppendsPrefix a b (end_line (counts scene w)))
end_alone_partly scene s w v c first last a b (Ok u) q k n f l x = tt
end_alone_partly scene s w v c first last a b (Err e) q k n f l x = subst (λ (ys : List ℕ). AppendsPrefix a b ys) (end_is scene s w v c first last q k n f l) x

-- what was written of the rendering with its journal
pub journal_of_run : {E : Type 0} (scene s : Scene) (w v : World) (a b : Option (List ℕ)) (r : Result (Unit {0}) E) → s ≡ scene → v ≡ w
    → OnOk r (Appends a b (render_j s v)) → OnOk r (Appends a b (render_j scene w))
journal_of_run scene s w v a b r q k p = written_as a b (render_j s v) (render_j scene w) r (ap₂ render_j q k) p

pub journal_partly_of_run : {E : Type 0} (scene s : Scene) (w v : World) (a b : Option (List ℕ)) (r : Result (Unit {0}) E) → s ≡ scene → v ≡ w
    → OnErr r (AppendsPrefix a b (render_j s v)) → OnErr r (AppendsPrefix a b (render_j scene w))
journal_partly_of_run scene s w v a b r q k p = partly_as a b (render_j s v) (render_j scene w) r (ap₂ render_j q k) p

-- ---- one text behind another

-- a prefix of the first was written
pub first_partly : (a b : Option (List ℕ)) (text first second : List ℕ) → text ≡ first → AppendsPrefix a b text → AppendsPrefix a b (first ++ second)
first_partly a b text first second e p = further a b first second (subst (AppendsPrefix a b) e p)

-- the first was written, and then the second
pub both_written : {E : Type 0} (a b d : Option (List ℕ)) (text first last second : List ℕ) (r : Result (Unit {0}) E) → text ≡ first → last ≡ second → Appends a b text
    → OnOk r (Appends b d last) → OnOk r (Appends a d (first ++ second))
both_written a b d text first last second (Err e) q k p x = tt
both_written a b d text first last second (Ok u) q k p x = Appends-trans a b d first second (subst (Appends a b) q p) (subst (Appends b d) k x)

-- or a prefix of the second
pub both_partly : {E : Type 0} (a b d : Option (List ℕ)) (text first last second : List ℕ) (r : Result (Unit {0}) E) → text ≡ first → last ≡ second → Appends a b text
    → OnErr r (AppendsPrefix b d last) → OnErr r (AppendsPrefix a d (first ++ second))
both_partly a b d text first last second (Ok u) q k p x = tt
both_partly a b d text first last second (Err e) q k p x = and_then a b d first second (subst (Appends a b) q p) (subst (AppendsPrefix b d) k x)
