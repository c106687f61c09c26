-- A parked Prepare is taken out.
use Rattle.std.proofs.Common.{List, ap, arith, drop, length, refl, remove, suc, sym, take, true, ℕ, ◌++◌, ◌<◌, ◌∙◌, ◌∷◌, ◌≡◌}
use Rattle.std.specs.List.{slice_index_or}
use Rattle.str_base.specs.declared.names.PartId.{PartId}
use Rattle.str_base.specs.declared.names.TxId.{TxId}
use Rattle.str_model.specs.declared.messages.Waiter.{Waiter}
use Rattle.str_model.specs.Proposals.{holds_pair}
use Rattle.str_model.specs.Steps.{drop_held}
use Rattle.version_chain.proofs.Lists.{at_place}

-- the first parked Prepare of the pair stands at this place
pub found_held : (tx : TxId) (part : PartId) (ws : List Waiter) (i : ℕ) (x : Waiter) → i < length ws → x ≡ slice_index_or ws i x → holds_pair tx part x ≡ true
    → drop_held tx part ws ≡ take i ws ++ drop_held tx part (drop i ws) → drop_held tx part ws ≡ remove ws i
found_held tx part ws i x l e t p =
    let q : holds_pair tx part (slice_index_or ws i x) ≡ true = ap (λ w. holds_pair tx part w) (sym e) ∙ t in
    let n : drop_held tx part (slice_index_or ws i x ∷ drop (suc i) ws) ≡ drop (suc i) ws = rw q refl in
    p ∙ ap (λ ys. take i ws ++ ys) (ap (λ ys. drop_held tx part ys) (at_place ws i (suc i) x l (omega arith)) ∙ n)
