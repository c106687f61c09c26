use Rattle.scene_text.proofs.Spelling.PartedBytes.{take_parted_some}
use Rattle.scene_text.proofs.parting.next_feed.Goals as goal

pub returns-clause-passed : goal.returns-clause-passed
returns-clause-passed c = take_parted_some c.args.text.now c.args.start 10 c.place_of.result c.place_of.ensures.after c.place_of.ensures.byte
