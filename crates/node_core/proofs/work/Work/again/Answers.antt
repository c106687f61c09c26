use Rattle.std.proofs.Common.{inr, refl, sym}
use Rattle.node_core.proofs.PassTurns.TurnSteps.{again_does, again_fits, again_rests, wait_reads}
use Rattle.str_base.proofs.Lists.{slice_get_there}
use Rattle.str_model.specs.Scripts.{certify_now, read_now}
use Rattle.str_model.specs.Views.{CertWait, ReadWait}
use Rattle.node_core.proofs.work.Work.again.Goals as goal

pub read_now-requires-clause-own : goal.read_now-requires-clause-own
read_now-requires-clause-own c =
    let o = slice_get_there c.args.self.now.doing.view.own c.args.i c.requires.there in
    wait_reads c.args.self.now c.args.i o.0 o.1 c.requires.facts c.in-ReadWait.key (sym (c.in-ReadWait.ensures o.0 o.1))

pub read_now-requires-clause-fits : goal.read_now-requires-clause-fits
read_now-requires-clause-fits c =
    let o = slice_get_there c.args.self.now.doing.view.own c.args.i c.requires.there in
    let k = c.in-ReadWait.key in
    again_fits c.args.self.now c.args.i o.0 o.1 (read_now c.args.self.now.here c.args.i k) (ReadWait k) (sym (c.in-ReadWait.ensures o.0 o.1)) refl refl c.requires.fits

pub reply_again-requires-clause-own : goal.reply_again-requires-clause-own
reply_again-requires-clause-own c =
    let o = slice_get_there c.args.self.now.doing.view.own c.args.i c.requires.there in
    (o.0, o.1, sym (c.in-Reply.ensures o.0 o.1))

pub certify_now-requires-clause-own : goal.certify_now-requires-clause-own
certify_now-requires-clause-own c =
    let o = slice_get_there c.args.self.now.doing.view.own c.args.i c.requires.there in
    (o.0, o.1, inr (sym (c.in-CertWait.ensures o.0 o.1)))

pub certify_now-requires-clause-fits : goal.certify_now-requires-clause-fits
certify_now-requires-clause-fits c =
    let o = slice_get_there c.args.self.now.doing.view.own c.args.i c.requires.there in
    again_fits c.args.self.now c.args.i o.0 o.1 (certify_now c.args.self.now.here c.args.i) CertWait (sym (c.in-CertWait.ensures o.0 o.1)) refl refl c.requires.fits

pub returns-in-ReadWait : goal.returns-in-ReadWait
returns-in-ReadWait c =
    let o = slice_get_there c.args.self.now.doing.view.own c.args.i c.requires.there in
    let k = c.in-ReadWait.key in
    again_does c.args.self.now c.args.i o.0 o.1 (read_now c.args.self.now.here c.args.i k) (ReadWait k) (sym (c.in-ReadWait.ensures o.0 o.1)) refl refl c.read_now.new.self c.read_now.ensures

pub returns-in-CertWait : goal.returns-in-CertWait
returns-in-CertWait c =
    let o = slice_get_there c.args.self.now.doing.view.own c.args.i c.requires.there in
    again_does c.args.self.now c.args.i o.0 o.1 (certify_now c.args.self.now.here c.args.i) CertWait (sym (c.in-CertWait.ensures o.0 o.1)) refl refl c.certify_now.new.self c.certify_now.ensures

pub returns-in_default : goal.returns-in_default
returns-in_default c =
    let o = slice_get_there c.args.self.now.doing.view.own c.args.i c.requires.there in
    let n = c.in_default in
    again_rests c.args.self.now c.args.i o.0 o.1 c.phase.result (c.phase.ensures o.0 o.1) n.not-ReadWait n.not-Reply n.not-CertWait
