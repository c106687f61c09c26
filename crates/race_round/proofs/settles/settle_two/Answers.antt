use Rattle.std.proofs.Common.{refl}
use Rattle.race_round.proofs.PairsSettled.{ends_settled}
use Rattle.race_round.proofs.settles.settle_two.Goals as goal

pub returns : goal.returns
returns g c =
    let s = c.settle.ensures in
    record {
      ends_ = ends_settled c.settle.result c.args.one.now.ends c.args.two.now.ends c.settle.new.self c.settle.new.other s.only.0 s.only.1 s.was_there s.was_here s.same_here s.same_there s.there s.here;
      here = refl;
      there = refl;
    }
