-- What a turn of its script leaves of an own transaction.
use Rattle.std.proofs.Common.{refl, ◌≡◌}
use Rattle.str_model.specs.Views.{Own}
use Rattle.tx_script.specs.declared.turns.Turn.{Turn}
use Rattle.tx_script.specs.declared.turns.Turn.TheVariants.{Ask, End, Got as GotIt, Moved, Unmet, Wished}
use Rattle.tx_script.specs.Turns.{Turned}
use Rattle.node_parts.specs.Owning.{IsFree, turned}

-- it is undecided and not certified, as before
pub turned_free : (t : Turned) (x : Own) → IsFree x → IsFree (turned t x)
turned_free t x f = by_kind t.turn
  where
    by_kind : (k : Turn) → IsFree (turned (record { turn = k; run = t.run }) x)
    by_kind (GotIt key v) = (refl, refl)
    by_kind Moved = (refl, refl)
    by_kind Unmet = (refl, refl)
    by_kind (Ask key) = f
    by_kind Wished = f
    by_kind End = f

-- it has its place
pub turned_place : (t : Turned) (x : Own) → (turned t x).place ≡ x.place
turned_place t x = by_kind t.turn
  where
    by_kind : (k : Turn) → (turned (record { turn = k; run = t.run }) x).place ≡ x.place
    by_kind (GotIt key v) = refl
    by_kind Moved = refl
    by_kind Unmet = refl
    by_kind (Ask key) = refl
    by_kind Wished = refl
    by_kind End = refl
