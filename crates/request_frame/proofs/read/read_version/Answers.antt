use Rattle.std.proofs.Common.{arith, get_or, inl, inr, refl, [], ◌∷◌}
use Rattle.request_frame.proofs.BytesRead.{head_cut, head_known, head_misnamed, head_unknown, misnamed_by, named_by}
use Rattle.request_frame.proofs.read.read_version.Goals as goal

pub returns-in_default-clause-bad : goal.returns-in_default-clause-bad
returns-in_default-clause-bad c = head_cut c.args.bytes.now c.in_default.len_below

pub returns-then-ne-clause-bad : goal.returns-then-ne-clause-bad
returns-then-ne-clause-bad c =
    let bytes = c.args.bytes.now in
    head_misnamed bytes c.in-len5-up.len_at_least (misnamed_by (get_or bytes 0 0 ∷ get_or bytes 1 0 ∷ get_or bytes 2 0 ∷ get_or bytes 3 0 ∷ []) c.if-ne.ensures)

pub returns-in-1-clause-read : goal.returns-in-1-clause-read
returns-in-1-clause-read c =
    let bytes = c.args.bytes.now in
    head_known bytes 1 c.in-len5-up.len_at_least (inl refl) (named_by (get_or bytes 0 0) (get_or bytes 1 0) (get_or bytes 2 0) (get_or bytes 3 0) c.if-ne.ensures) c.in-1.is

pub returns-in-2-clause-read : goal.returns-in-2-clause-read
returns-in-2-clause-read c =
    let bytes = c.args.bytes.now in
    head_known bytes 2 c.in-len5-up.len_at_least (inr refl) (named_by (get_or bytes 0 0) (get_or bytes 1 0) (get_or bytes 2 0) (get_or bytes 3 0) c.if-ne.ensures) c.in-2.is

pub returns-in_default-version-clause-bad : goal.returns-in_default-version-clause-bad
returns-in_default-version-clause-bad c = head_unknown c.args.bytes.now c.in-len5-up.len_at_least (λ e. omega (arith, e)) (λ e. omega (arith, e))
