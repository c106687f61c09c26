use Rattle.ring_links.specs.contracts.ends.NodeEnds.{the_view}
use Rattle.ring_links.proofs.Meeting.{written, order_at}
use Rattle.ring_links.proofs.ends.NodeEnds.settle.Goals as goal

pub returns-clause-order_there : goal.returns-clause-order_there
returns-clause-order_there c = λ d.
    order_at c.settle.new.self c.settle.new.other _ _
    (written (the_view c.self.inside) c.args.self.now (the_view c.other.inside) c.args.other.now c.place-here.result c.settle.new.self d
    c.self.view_is c.other.view_is c.place-here.ensures c.requires.here.2)
    (written (the_view c.other.inside) c.args.other.now (the_view c.self.inside) c.args.self.now c.place-there.result c.settle.new.other d
    c.other.view_is c.self.view_is c.place-there.ensures c.requires.there.2)
    c.settle.ensures.in_order.0

pub returns-clause-order_here : goal.returns-clause-order_here
returns-clause-order_here c = λ d.
    order_at c.settle.new.other c.settle.new.self _ _
    (written (the_view c.other.inside) c.args.other.now (the_view c.self.inside) c.args.self.now c.place-there.result c.settle.new.other d
    c.other.view_is c.self.view_is c.place-there.ensures c.requires.there.2)
    (written (the_view c.self.inside) c.args.self.now (the_view c.other.inside) c.args.other.now c.place-here.result c.settle.new.self d
    c.self.view_is c.other.view_is c.place-here.ensures c.requires.here.2)
    c.settle.ensures.in_order.1
