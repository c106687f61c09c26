use Rattle.std.proofs.Common.{[], length, take, ◌++◌, ◌∷◌, ◌≡◌}
use Rattle.request_frame.specs.FrameBytes.{row_bytes}
use Rattle.request_frame.proofs.write.push_part.Given as goal

abbrev pub invariant-loop-node : goal.invariant-loop-node
invariant-loop-node l = l.out.items ≡ (l.fn.out.items ++ (2 ∷ 0 ∷ length l.row ∷ [])) ++ row_bytes (take l.node-index l.row)
