use Rattle.std.proofs.Common.{refl}
use Rattle.request_frame.proofs.PutsRead.{puts_kept, puts_long, puts_none}
use Rattle.str_scene.proofs.Checked.{all_bytes}
use Rattle.request_frame.proofs.ops.puts_op.Goals as goal

pub returns-in_err-text-clause-none : goal.returns-in_err-text-clause-none
returns-in_err-text-clause-none c = λ none. puts_none c.args.bytes.now c.in_ok-name.name c.in_ok-name.rest.now c.in_ok-name.part c.in_ok-name.ensures.key (c.in_err-text.ensures.none refl)

pub returns-in-Some-clause-op : goal.returns-in-Some-clause-op
returns-in-Some-clause-op c =
    puts_kept c.args.bytes.now c.in_ok-name.name c.in_ok-text.text.now c.in_ok-name.rest.now c.in_ok-text.rest.now c.in-Some.text c.in_ok-name.part c.in_ok-name.ensures.key c.in_ok-text.ensures.string
    c.in_ok-name.ensures.named (all_bytes c.args.bytes.now (λ i. (c.type_inv.bytes i).fits)) c.in_ok-name.ensures.small c.in-Some.ensures.short c.in-Some.ensures.text

pub returns-in-None-clause-op : goal.returns-in-None-clause-op
returns-in-None-clause-op c =
    puts_long c.args.bytes.now c.in_ok-name.name c.in_ok-text.text.now c.in_ok-name.rest.now c.in_ok-text.rest.now c.in_ok-name.part c.in_ok-name.ensures.key c.in_ok-text.ensures.string
    c.in_ok-name.ensures.named (all_bytes c.args.bytes.now (λ i. (c.type_inv.bytes i).fits)) (c.in-None.ensures.none refl)
