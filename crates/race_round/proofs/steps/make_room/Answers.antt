use Rattle.std.proofs.Common.{refl}
use Rattle.lamport_log.specs.Logs.{IsSameLog, Log}
use Rattle.race_round.proofs.LinkMoves.{readied_rests, rests}
use Rattle.race_round.proofs.steps.make_room.Goals as goal

same_log : (l : Log) → IsSameLog l l
same_log l = record { node = refl; entries = refl; messages = refl; released = refl }

pub returns-in_default-clause-roomed : goal.returns-in_default-clause-roomed
returns-in_default-clause-roomed g c =
    let s = c.ready.ensures.node in
    record { scene_ = s.scene; id_ = s.id; view_ = s.view; log_ = same_log c.args.n.now.log; stamp_ = refl; rested = rests c.args.n.now.ends; wanting_ = refl; clock_ = refl }

pub returns-then-room-clause-roomed : goal.returns-then-room-clause-roomed
returns-then-room-clause-roomed g c =
    let s = c.ready.ensures.node in
    record { scene_ = s.scene; id_ = s.id; view_ = s.view; log_ = same_log c.args.n.now.log; stamp_ = refl; rested = rests c.args.n.now.ends; wanting_ = refl; clock_ = refl }

pub returns-then-is_ok-clause-roomed : goal.returns-then-is_ok-clause-roomed
returns-then-is_ok-clause-roomed g c =
    let s = c.ready.ensures.node in
    let e = c.ready-then-is_ok in
    record {
      scene_ = s.scene;
      id_ = s.id;
      view_ = s.view;
      log_ = c.reserve.ensures.log;
      stamp_ = refl;
      rested = readied_rests c.args.n.now.ends e.new.self e.ensures.node e.ensures.stays;
      wanting_ = refl;
      clock_ = refl;
    }

pub returns-else-is_ok-clause-roomed : goal.returns-else-is_ok-clause-roomed
returns-else-is_ok-clause-roomed g c =
    let s = c.ready.ensures.node in
    record { scene_ = s.scene; id_ = s.id; view_ = s.view; log_ = c.reserve.ensures.log; stamp_ = refl; rested = rests c.args.n.now.ends; wanting_ = refl; clock_ = refl }
