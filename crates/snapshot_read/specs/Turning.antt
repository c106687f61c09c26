-- The turns of this crate in the words of the model.
use Rattle.snapshot_read.specs.declared.reads.ReadTurn.{ReadTurn}
use Rattle.snapshot_read.specs.declared.reads.ReadTurn.TheVariants.{Plain, Remote, Speculative, Wait}
use Rattle.snapshot_read.specs.declared.reads.ServeTurn.{ServeTurn}
use Rattle.snapshot_read.specs.declared.reads.ServeTurn.TheVariants as served
use Rattle.str_model.specs.Turns

-- what a read comes to
abbrev pub turn_of : ReadTurn → Turns.ReadTurn
turn_of (Plain v by fc snap) = Turns.Plain v by fc.0 snap
turn_of (Speculative v by snap) = Turns.Speculative v by snap
turn_of (Wait by) = Turns.Wait by
turn_of (Remote m) = Turns.Away m

-- what a read of another node comes to
abbrev pub serve_of : ServeTurn → Turns.ServeTurn
serve_of (served.Give v by fc) = Turns.Give v by fc.0
serve_of (served.Wait by) = Turns.ServeWait by
