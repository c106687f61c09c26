use Rattle.std.proofs.Common.{arith, refl, subst, sym, ◌∙◌}
use Rattle.history_reading.proofs.Spelled.PartsRead.{name_read, name_wide, no_name_dot, no_name_first, no_name_second}
use Rattle.history_reading.specs.Parts.{SpellsName}
use Rattle.history_reading.proofs.parts.read_name.Goals as goal

pub returns-in_err-node-clause-none : goal.returns-in_err-node-clause-none
returns-in_err-node-clause-none c = λ none. no_name_dot c.args.text.now (c.in_err-node.ensures.none refl)

pub returns-in_err-node-2-clause-none : goal.returns-in_err-node-2-clause-none
returns-in_err-node-2-clause-none c = λ none.
    no_name_first c.args.text.now c.in_ok-node.node.now c.in_ok-node.seq.now c.in_ok-node.ensures.parts c.in_ok-node.ensures.first (c.in_err-node-2.ensures.none refl)

pub returns-in_err-seq-clause-none : goal.returns-in_err-seq-clause-none
returns-in_err-seq-clause-none c = λ none.
    no_name_second c.args.text.now c.in_ok-node.node.now c.in_ok-node.seq.now c.in_ok-node.ensures.parts c.in_ok-node.ensures.first (c.in_err-seq.ensures.none refl)

pub returns-in-Some-clause-name : goal.returns-in-Some-clause-name
returns-in-Some-clause-name c =
    subst (λ n. SpellsName n c.args.text.now c.known_name.result) c.nodes-nodes.ensures.value
    (name_read c.nodes-nodes.result c.args.text.now c.in_ok-node.node.now c.in_ok-node.seq.now c.in_ok-node-2.node c.in_ok-seq.seq (c.in-Some.node, c.in-Some.seq) c.known_name.result c.in_ok-node.ensures.parts (sym c.zip.ensures ∙ c.in-Some.is)
    c.in_ok-node-2.ensures.number c.in_ok-seq.ensures.number c.known_name.ensures)

pub returns-in-None-clause-name : goal.returns-in-None-clause-name
returns-in-None-clause-name c =
    name_wide c.args.scene.now.nodes c.args.text.now c.in_ok-node.node.now c.in_ok-node.seq.now c.in_ok-node-2.node c.in_ok-seq.seq (omega (arith, c.nodes-nodes.ensures.limits.nodes.1)) c.in_ok-node.ensures.parts (sym c.zip.ensures ∙ c.in-None.is)
    c.in_ok-node-2.ensures.number c.in_ok-seq.ensures.number
