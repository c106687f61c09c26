use Rattle.std.proofs.Common.{is_ok}
use Rattle.race_round.proofs.TwoParts.{count_left, pair_left, pair_read, rest_left}
use Rattle.race_round.specs.Settling.{CanSettle, TwoSettled}
use Rattle.race_round.proofs.settles.settle_places.Goals as goal

pub settle_two-requires : goal.settle_two-requires
settle_two-requires g c =
    let s = c.split_at_mut-front in
    pair_read c.args.nodes.now s.result.0.now s.result.1.now c.args.low c.args.high s.ensures.value s.ensures.front_len c.requires.order.0 c.requires.order.1 (λ n m. CanSettle n m) c.requires.can _ _

pub returns : goal.returns
returns g c =
    let s = c.split_at_mut-front in
    let t = c.settle_two in
    record {
      count = count_left c.args.nodes.now s.result.0.now s.result.1.now c.args.low c.args.high s.ensures.value s.ensures.front_len c.requires.order.0 c.requires.order.1 t.new.one t.new.two;
      two =
          pair_left c.args.nodes.now s.result.0.now s.result.1.now c.args.low c.args.high s.ensures.value s.ensures.front_len c.requires.order.0 c.requires.order.1 t.new.one t.new.two
          (λ n m n' m'. TwoSettled (is_ok t.result) n m n' m') _ _ t.ensures;
      rest = rest_left c.args.nodes.now s.result.0.now s.result.1.now c.args.low c.args.high s.ensures.value s.ensures.front_len c.requires.order.0 c.requires.order.1 t.new.one t.new.two;
    }
