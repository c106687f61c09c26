use Rattle.door.proofs.FoundAnswers.{among_pushed, pushed_few}
use Rattle.std.proofs.Common.{arith, ◌∙◌}
use Rattle.door.proofs.looking.push_all_found.Goals as goal

pub loop-index-preserved : goal.loop-index-preserved
loop-index-preserved c =
    let few = pushed_few c.loop-index.answers.items c.push_found.new.answers.items c.index-found-index.result c.push_found.ensures.items in
    record {
      items = among_pushed c.args.answers.now.items c.loop-index.answers.items c.push_found.new.answers.items c.args.found.now c.loop-index.index c.index-found-index.result c.loop-index-test.true
          c.index-found-index.is c.loop-index.invariant.items c.push_found.ensures.items;
      few = omega (arith, few, c.loop-index.answers.ok, c.push_found.new.answers.ok, c.loop-index.invariant.few);
      capacity = c.push_found.ensures.capacity ∙ c.loop-index.invariant.capacity;
    }
