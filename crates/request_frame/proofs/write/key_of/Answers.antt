use Rattle.std.proofs.Common.{arith, refl, ◌∙◌}
use Rattle.request_frame.proofs.WritingParts.{key_parted, key_read}
use Rattle.request_frame.proofs.write.key_of.Goals as goal

pub short_name-requires : goal.short_name-requires
short_name-requires c =
    (key_read c.args.keys.now c.args.key c.new-text.result.items c.as_slice.result.now c.in-Some.name.now _ c.requires (omega (arith, c.if-key-len.false, c.len.ensures.value)) c.new-text.ensures.items
    (c.as_slice.ensures.value ∙ c.in_ok-push_key.ensures.ok) c.in-Some.ensures.parts c.in-Some.ensures.first).few

pub unreachable-requires : goal.unreachable-requires
unreachable-requires c =
    key_parted c.args.keys.now c.args.key c.new-text.result.items c.as_slice.result.now (omega (arith, c.if-key-len.false, c.len.ensures.value)) c.new-text.ensures.items
    (c.as_slice.ensures.value ∙ c.in_ok-push_key.ensures.ok) (c.in-None.ensures.none refl)

pub returns-clause-name : goal.returns-clause-name
returns-clause-name c =
    c.short_name.ensures
    ∙ (key_read c.args.keys.now c.args.key c.new-text.result.items c.as_slice.result.now c.in-Some.name.now _ c.requires (omega (arith, c.if-key-len.false, c.len.ensures.value)) c.new-text.ensures.items
    (c.as_slice.ensures.value ∙ c.in_ok-push_key.ensures.ok) c.in-Some.ensures.parts c.in-Some.ensures.first).same
