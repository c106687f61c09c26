use Rattle.std.proofs.Common.{sym, ◌∙◌}
use Rattle.history_reading.proofs.Spelled.GetsRead.{bytes_lost, bytes_read}
use Rattle.history_reading.proofs.gets.read_known_bytes.Goals as goal

pub returns-in-Some-clause-value : goal.returns-in-Some-clause-value
returns-in-Some-clause-value c =
    bytes_read c.args.scene.now c.args.keys.now.texts c.args.text.now c.in_ok-_bytes._bytes c.in-Some.text c.keys-table.ensures.limits c.requires c.in_ok-_bytes.ensures.bytes (sym c.find.ensures ∙ c.in-Some.is)

pub returns-in-None-clause-value : goal.returns-in-None-clause-value
returns-in-None-clause-value c =
    bytes_lost c.args.scene.now c.args.keys.now.texts c.args.text.now c.in_ok-_bytes._bytes c.keys-table.ensures.limits c.requires c.in_ok-_bytes.ensures.bytes (sym c.find.ensures ∙ c.in-None.is)
