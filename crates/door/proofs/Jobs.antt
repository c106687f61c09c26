-- The jobs of a door's workers, made one after another.
use Rattle.partition_map.specs.Maps.{Exists}
use Rattle.std.proofs.Common.{All, List, [], drop, take, ℕ, subst, sym, ◌++◌, ◌∷◌, ◌≡◌}
use Rattle.std.proofs.lemmas.List.Elements.{All-drop, All-push}

-- one more job, of a node that is there
pub nodes_push : {J : Type 0} (jobs more : List J) (job : J) (node : J → ℕ) (n : ℕ) → more ≡ jobs ++ job ∷ [] → All (λ j. Exists (node j) n) jobs → Exists (node job) n
    → All (λ j. Exists (node j) n) more
nodes_push {J} jobs more job node n e h one =
    subst (All (λ j. Exists (node j) n)) (sym e) (All-push (λ (j : J). Exists (node j) n) jobs job h one)

-- the readers but the first are of the board, as all are
pub board_rest : {R B : Type 0} (readers rest : List R) (board : R → B) (b : B) → rest ≡ take 0 readers ++ drop 1 readers → All (λ r. board r ≡ b) readers
    → All (λ r. board r ≡ b) rest
board_rest {R} readers rest board b e h = subst (All (λ r. board r ≡ b)) (sym e) (All-drop (λ (r : R). board r ≡ b) 1 readers h)

-- the same readers are of the same board
pub board_same : {R B : Type 0} (readers others : List R) (board : R → B) (b : B) → others ≡ readers → All (λ r. board r ≡ b) readers → All (λ r. board r ≡ b) others
board_same readers others board b e h = subst (All (λ r. board r ≡ b)) (sym e) h
