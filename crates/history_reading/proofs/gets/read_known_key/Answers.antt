use Rattle.std.proofs.Common.{sym, ◌∙◌}
use Rattle.history_reading.proofs.Spelled.GetsRead.{key_lost, key_read}
use Rattle.history_reading.proofs.gets.read_known_key.Goals as goal

pub returns-in-Some-clause-key : goal.returns-in-Some-clause-key
returns-in-Some-clause-key c =
    key_read c.args.scene.now c.args.keys.now.keys c.args.text.now c.in_ok-_key._key.0 c.in_ok-_key._key.1 c.in-Some.key c.keys-table.ensures.limits c.requires c.in_ok-_key.ensures.key (sym c.find.ensures ∙ c.in-Some.is)

pub returns-in-None-clause-key : goal.returns-in-None-clause-key
returns-in-None-clause-key c =
    key_lost c.args.scene.now c.args.keys.now.keys c.args.text.now c.in_ok-_key._key.0 c.in_ok-_key._key.1 c.keys-table.ensures.limits c.requires c.in_ok-_key.ensures.key (sym c.find.ensures ∙ c.in-None.is)
