-- The places of transactions.
use Rattle.std.specs.Prelude.{Bool, ◌&&◌, ◌==◌}
use Rattle.str_scene.specs.declared.names.TxPlace.{TxPlace}

-- the places are one
abbrev pub same_place : TxPlace → TxPlace → Bool
same_place p q = (p.session.0 == q.session.0) && (p.index == q.index)
