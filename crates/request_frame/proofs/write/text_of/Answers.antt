use Rattle.std.proofs.Common.{refl, ◌∙◌}
use Rattle.request_frame.proofs.WritingParts.{text_none, text_not_long, text_read}
use Rattle.request_frame.proofs.write.text_of.Goals as goal

pub returns-in-Some-Some : goal.returns-in-Some-Some
returns-in-Some-Some c =
    text_read c.args.keys.now c.args.text c.new-spelled.result.items c.as_slice.result.now c.in-Some-Some.bytes c.requires c.new-spelled.ensures.items (c.as_slice.ensures.value ∙ c.in_ok-push_text.ensures.ok)
    (rw c.in-Some-Some.field-0-is at c.in-Some-Some.ensures.bytes)

pub unreachable-requires : goal.unreachable-requires
unreachable-requires c =
    text_not_long c.args.keys.now c.args.text c.new-spelled.result.items c.as_slice.result.now c.requires c.new-spelled.ensures.items (c.as_slice.ensures.value ∙ c.in_ok-push_text.ensures.ok)
    (rw c.in-Some-None.field-0-is at c.in-Some-None.ensures.bytes)

pub returns : goal.returns
returns c =
    c.new.ensures ∙ text_none c.args.keys.now c.args.text c.new-spelled.result.items c.as_slice.result.now c.requires c.new-spelled.ensures.items (c.as_slice.ensures.value ∙ c.in_ok-push_text.ensures.ok) (c.in-None.ensures.none refl)
