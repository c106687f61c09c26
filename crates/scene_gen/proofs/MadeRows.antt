-- The partitions: how many there are, and that each is a row of nodes.
use Rattle.std.proofs.Common.{ap, arith, length, refl, suc, true, zero, ℕ, ◌+◌, ◌<◌, ◌≡◌}
use Rattle.scene_gen.specs.Made.{made_rows, row_of}
use Rattle.str_scene.proofs.Checked.{row_checked}
use Rattle.str_scene.specs.Lists.{Each}
use Rattle.str_scene.specs.Refusals.{is_row}
use Rattle.str_scene.specs.SceneLimits.{IsRow}

-- how many there are
pub rows_length : (n p : ℕ) → length (made_rows n p) ≡ n
unfolding made_rows
rows_length zero p = refl
rows_length (suc n) p = ap suc (rows_length n (p + 1))

-- the nodes of a row exist, and are two
pub row_fits : (p : ℕ) → p < 6 → is_row 3 (row_of (p + 1)) ≡ true
row_fits zero l = refl
row_fits (suc zero) l = refl
row_fits (suc (suc zero)) l = refl
row_fits (suc (suc (suc zero))) l = refl
row_fits (suc (suc (suc (suc zero)))) l = refl
row_fits (suc (suc (suc (suc (suc zero))))) l = refl
row_fits (suc (suc (suc (suc (suc (suc p)))))) l = absurd (omega arith)

-- a row
row_holds : (p : ℕ) → p < 6 → IsRow 3 (row_of (p + 1))
row_holds p l = row_checked 3 (row_of (p + 1)) refl (row_fits p l) (omega arith)

-- each of them
pub rows_hold : Each (IsRow 3) (made_rows 6 1)
unfolding made_rows
rows_hold =
    (row_holds 0 (omega arith), (row_holds 1 (omega arith), (row_holds 2 (omega arith), (row_holds 3 (omega arith), (row_holds 4 (omega arith), (row_holds 5 (omega arith), tt))))))
