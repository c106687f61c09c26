-- The lines of balances.
use Rattle.std.proofs.Common.{Err, FitsSigned, List, Ok, OnOk, Result, [], ap, ap₂, append_assoc, flat_map, if◌then◌else◌, is_ok, ℕ, ℤ, ◌++◌, ◌∙◌, ◌≡◌}
use Rattle.std.proofs.lemmas.Int.{int_wrap_fits}
use Rattle.std.specs.Int.{int_wrap, w64}
use Rattle.str_model.specs.declared.names.Got.{Got}
use Rattle.str_scene.specs.Scenes.{KeyTable}
use Rattle.strun.specs.Banks.{balance_line, bank_lines, total_line, total_of}

-- the lines of the balances and the line of their sum, in a buffer that was empty
pub lines_are : (keys : KeyTable) (gots : List Got) (sum : ℤ) (first lines last text : List ℕ) → FitsSigned w64 (total_of gots) → first ≡ []
    → lines ≡ first ++ flat_map (balance_line keys) gots → sum ≡ int_wrap w64 (total_of gots) → last ≡ lines ++ total_line sum → text ≡ last → text ≡ bank_lines keys gots
lines_are keys gots sum first lines last text fits f l s t e =
    let total : sum ≡ total_of gots = s ∙ int_wrap_fits w64 (total_of gots) fits in
    let behind : lines ≡ flat_map (balance_line keys) gots = l ∙ ap (λ (xs : List ℕ). xs ++ flat_map (balance_line keys) gots) f in
    e ∙ (t ∙ ap₂ (λ (xs : List ℕ) (n : ℤ). xs ++ total_line n) behind total)

-- a text behind what there was, a number's spelling behind it, and a text behind that
pub ends_with : {E : Type 0} (a b d e x y spelled z : List ℕ) (r : Result (Unit {0}) E) → b ≡ a ++ x → d ≡ b ++ y → y ≡ spelled → OnOk r (e ≡ d ++ z)
    → OnOk r (e ≡ a ++ (x ++ (spelled ++ z)))
ends_with a b d e x y spelled z (Err f) p q s t = tt
ends_with a b d e x y spelled z (Ok u) p q s t =
    t ∙ (ap (λ (k : List ℕ). k ++ z) (q ∙ ap₂ (λ (k l : List ℕ). k ++ l) p s) ∙ (append_assoc (a ++ x) spelled z ∙ append_assoc a x (spelled ++ z)))

-- a text behind what there was, a number's spelling behind it, a text behind that, and then as above
pub two_behind : {E : Type 0} (a b d e f g x y z u spelled v : List ℕ) (r : Result (Unit {0}) E) → b ≡ a ++ x → d ≡ b ++ y → e ≡ d ++ z → f ≡ e ++ u → u ≡ spelled → OnOk r (g ≡ f ++ v)
    → OnOk r (g ≡ a ++ (x ++ (((y ++ z) ++ spelled) ++ v)))
two_behind a b d e f g x y z u spelled v (Err k) p q s t w h = tt
two_behind a b d e f g x y z u spelled v (Ok k) p q s t w h =
    let first : e ≡ a ++ (x ++ (y ++ z)) =
    s ∙ (ap (λ (l : List ℕ). l ++ z) (q ∙ ap (λ (l : List ℕ). l ++ y) p) ∙ (append_assoc (a ++ x) y z ∙ append_assoc a x (y ++ z))) in
    let last : g ≡ ((a ++ (x ++ (y ++ z))) ++ spelled) ++ v = h ∙ ap (λ (l : List ℕ). l ++ v) (t ∙ ap₂ (λ (l m : List ℕ). l ++ m) first w) in
    last
    ∙ (ap (λ (l : List ℕ). l ++ v) (append_assoc a (x ++ (y ++ z)) spelled)
    ∙ (append_assoc a ((x ++ (y ++ z)) ++ spelled) v
    ∙ ap (λ (l : List ℕ). a ++ l) (ap (λ (l : List ℕ). l ++ v) (append_assoc x (y ++ z) spelled) ∙ append_assoc x ((y ++ z) ++ spelled) v)))

-- what a call that grows a text gives where it succeeds
pub if_grown : {E : Type 0} (text more less : List ℕ) (r : Result (Unit {0}) E) → text ≡ (if is_ok r then more else less) → OnOk r (text ≡ more)
if_grown text more less (Err e) h = tt
if_grown text more less (Ok u) h = h
