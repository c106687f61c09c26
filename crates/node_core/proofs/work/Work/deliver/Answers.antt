use Rattle.std.proofs.Common.{ap, sym, ◌∙◌, List}
use Rattle.str_base.specs.declared.names.Write.{Write}
use Rattle.str_model.specs.declared.messages.Body.TheVariants.{Abort, Ack, Commit, Prepare, ReadReply, ReadReq, Refuse, Replicate}
use Rattle.node_core.proofs.Whole.BodySteps.{abort_fits, abort_part, body_does, body_fits, commit_can, commit_fits, prepare_named, refusal_part, replicate_named, request_key}
use Rattle.node_core.proofs.work.Work.deliver.Goals as goal

pub read_request-requires-clause-key : goal.read_request-requires-clause-key
read_request-requires-clause-key c = let a = c.in-ReadReq in request_key c.args.self.now.here c.args.body.now c.requires.named a.tx a.key a.rs a.is

pub read_request-requires-clause-fits : goal.read_request-requires-clause-fits
read_request-requires-clause-fits c = let a = c.in-ReadReq in body_fits c.args.self.now c.args.sender c.args.body.now (ReadReq a.tx a.key a.rs) a.is c.requires.fits

pub returns-in-ReadReq : goal.returns-in-ReadReq
returns-in-ReadReq c =
    let a = c.in-ReadReq in
    body_does c.args.self.now c.args.sender c.args.body.now (ReadReq a.tx a.key a.rs) a.is c.read_request.result c.read_request.new.self c.read_request.ensures

pub returns-in-ReadReply : goal.returns-in-ReadReply
returns-in-ReadReply c =
    let a = c.in-ReadReply in
    body_does c.args.self.now c.args.sender c.args.body.now (ReadReply a.tx a.key a.value a.by a.fc) a.is c.read_reply.result c.read_reply.new.self c.read_reply.ensures

pub prepare-requires-clause-named : goal.prepare-requires-clause-named
prepare-requires-clause-named c =
    let a = c.in-Prepare in
    let e = a.is ∙ ap (λ (ws : List Write). Prepare a.tx a.part a.rs a.lc ws) (sym c.copy.ensures) in
    prepare_named c.args.self.now c.args.sender c.args.body.now a.tx a.part a.rs a.lc c.copy.result e c.requires.named

pub prepare-requires-clause-fits : goal.prepare-requires-clause-fits
prepare-requires-clause-fits c =
    let a = c.in-Prepare in
    let e = a.is ∙ ap (λ (ws : List Write). Prepare a.tx a.part a.rs a.lc ws) (sym c.copy.ensures) in
    body_fits c.args.self.now c.args.sender c.args.body.now (Prepare a.tx a.part a.rs a.lc c.copy.result) e c.requires.fits

pub returns-in-Prepare : goal.returns-in-Prepare
returns-in-Prepare c =
    let a = c.in-Prepare in
    let e = a.is ∙ ap (λ (ws : List Write). Prepare a.tx a.part a.rs a.lc ws) (sym c.copy.ensures) in
    body_does c.args.self.now c.args.sender c.args.body.now (Prepare a.tx a.part a.rs a.lc c.copy.result) e c.prepare.result c.prepare.new.self c.prepare.ensures

pub take_refusal-requires-clause-part : goal.take_refusal-requires-clause-part
take_refusal-requires-clause-part c = let a = c.in-Refuse in refusal_part c.args.self.now.here c.args.body.now c.requires.named a.tx a.part a.by a.key a.is

pub take_refusal-requires-clause-fits : goal.take_refusal-requires-clause-fits
take_refusal-requires-clause-fits c = let a = c.in-Refuse in body_fits c.args.self.now c.args.sender c.args.body.now (Refuse a.tx a.part a.by a.key) a.is c.requires.fits

pub returns-in-Refuse : goal.returns-in-Refuse
returns-in-Refuse c =
    let a = c.in-Refuse in
    body_does c.args.self.now c.args.sender c.args.body.now (Refuse a.tx a.part a.by a.key) a.is c.take_refusal.result c.take_refusal.new.self c.take_refusal.ensures

pub replicate-requires-clause-named : goal.replicate-requires-clause-named
replicate-requires-clause-named c =
    let a = c.in-Replicate in
    let e = a.is ∙ ap (λ (ws : List Write). Replicate a.tx a.part a.rs a.lc ws) (sym c.copy-in-Replicate.ensures) in
    replicate_named c.args.self.now c.args.sender c.args.body.now a.tx a.part a.rs a.lc c.copy-in-Replicate.result e c.requires.named

pub replicate-requires-clause-fits : goal.replicate-requires-clause-fits
replicate-requires-clause-fits c =
    let a = c.in-Replicate in
    let e = a.is ∙ ap (λ (ws : List Write). Replicate a.tx a.part a.rs a.lc ws) (sym c.copy-in-Replicate.ensures) in
    body_fits c.args.self.now c.args.sender c.args.body.now (Replicate a.tx a.part a.rs a.lc c.copy-in-Replicate.result) e c.requires.fits

pub returns-in-Replicate : goal.returns-in-Replicate
returns-in-Replicate c =
    let a = c.in-Replicate in
    let e = a.is ∙ ap (λ (ws : List Write). Replicate a.tx a.part a.rs a.lc ws) (sym c.copy-in-Replicate.ensures) in
    body_does c.args.self.now c.args.sender c.args.body.now (Replicate a.tx a.part a.rs a.lc c.copy-in-Replicate.result) e c.replicate.result c.replicate.new.self c.replicate.ensures

pub returns-in-Ack : goal.returns-in-Ack
returns-in-Ack c =
    let a = c.in-Ack in
    body_does c.args.self.now c.args.sender c.args.body.now (Ack a.tx a.part a.ts) a.is c.take_ack.result c.take_ack.new.self c.take_ack.ensures

pub take_commit-requires-clause-can : goal.take_commit-requires-clause-can
take_commit-requires-clause-can c = let a = c.in-Commit in commit_can c.args.self.now c.args.sender c.args.body.now a.tx a.part a.fc a.marks a.is c.requires.named

pub take_commit-requires-clause-fits : goal.take_commit-requires-clause-fits
take_commit-requires-clause-fits c = let a = c.in-Commit in commit_fits c.args.self.now c.args.sender c.args.body.now a.tx a.part a.fc a.marks a.is c.requires.fits

pub returns-in-Commit : goal.returns-in-Commit
returns-in-Commit c =
    let a = c.in-Commit in
    body_does c.args.self.now c.args.sender c.args.body.now (Commit a.tx a.part a.fc a.marks) a.is c.take_commit.result c.take_commit.new.self c.take_commit.ensures

pub take_abort-requires-clause-part : goal.take_abort-requires-clause-part
take_abort-requires-clause-part c = let a = c.in-Abort in abort_part c.args.self.now.here c.args.body.now c.requires.named a.tx a.part a.is

pub take_abort-requires-clause-fits : goal.take_abort-requires-clause-fits
take_abort-requires-clause-fits c = let a = c.in-Abort in abort_fits c.args.self.now c.args.sender c.args.body.now a.tx a.part a.is c.requires.fits

pub returns-in-Abort : goal.returns-in-Abort
returns-in-Abort c =
    let a = c.in-Abort in
    body_does c.args.self.now c.args.sender c.args.body.now (Abort a.tx a.part) a.is c.take_abort.result c.take_abort.new.self c.take_abort.ensures
