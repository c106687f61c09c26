use Rattle.std.specs.Prelude.{is_ok}
use Rattle.answer_board.proofs.Slotted.{listing_pushed}
use Rattle.answer_board.proofs.listing.Listing.put_done.Goals as goal

pub invariant_of-self : goal.invariant_of-self
invariant_of-self c = listing_pushed (is_ok c.push.result) _ c.self.inside.entries.items _ c.args.done c.push.ensures.items c.self.invariant
