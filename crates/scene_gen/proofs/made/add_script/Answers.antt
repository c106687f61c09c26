use Rattle.scene_gen.proofs.Allowed.{memory_alone, tx_fits}
use Rattle.scene_gen.proofs.made.add_script.Goals as goal

pub all_numbered-requires-clause-short : goal.all_numbered-requires-clause-short
all_numbered-requires-clause-short c = c.requires.drawn.few

pub all_numbered-requires-clause-keys : goal.all_numbered-requires-clause-keys
all_numbered-requires-clause-keys c = c.requires.drawn.keys

pub all_numbered-requires-clause-room : goal.all_numbered-requires-clause-room
all_numbered-requires-clause-room c = c.requires.room.keys

pub returns-clause-refused : goal.returns-clause-refused
returns-clause-refused c =
    memory_alone _ _ (tx_fits c.args.script.now c.in_ok-ops.ops _ c.all_numbered.new.build c.in_ok-ops.ensures.value c.in_ok-ops.ensures.added c.requires.drawn.some c.requires.place.place c.requires.room.transactions)
    c.tx.ensures.refused
