use Rattle.std.proofs.Common.{FitsSigned, List, subst, sym, ◌∙◌, ◌≡◌}
use Rattle.std.specs.Int.{w64}
use Rattle.str_model.specs.declared.names.Got.{Got}
use Rattle.strun.proofs.BankRuns.{balances_are, bank_scene, run_isolated, total_fits}
use Rattle.strun.proofs.BankWritten.{bank_partly, bank_written, run_partly}
use Rattle.strun.specs.Banks.{balances_after, total_of}
use Rattle.str_scene.specs.SceneLimits.{IsScene}
use Rattle.top_status.proofs.Failing.{on_err}
use Rattle.strun.proofs.banks.write_bank.Goals as goal

pub balances-requires-clause-run : goal.balances-requires-clause-run
balances-requires-clause-run g c =
    run_isolated c.args.scene _ _ _ _ c.scene.ensures.limits c.in_ok-cluster.ensures.scene c.scene.ensures.value c.answers.ensures c.in_ok-cluster.ensures.world

pub returns-in_err-write_cluster-clause-partial : goal.returns-in_err-write_cluster-clause-partial
returns-in_err-write_cluster-clause-partial g c =
    on_err c.from_residual-in_err-write_cluster.result
    (run_partly c.args.scene _ _ _ _ c.in_ok-cluster.ensures.scene c.in_ok-cluster.ensures.world c.in_err-write_cluster.ensures.partial)

pub write_balances-requires : goal.write_balances-requires
write_balances-requires g c =
    let gots : c.as_slice.result.now ≡ balances_after c.args.scene =
    c.as_slice.ensures.value ∙ balances_are c.args.scene _ _ _ _ _ _ c.in_ok-gots.ensures c.in_ok-cluster.ensures.scene c.scene.ensures.value c.answers.ensures c.in_ok-cluster.ensures.world
    c.requires.opened in
    subst (λ (xs : List Got). FitsSigned w64 (total_of xs)) (sym gots)
    (total_fits c.args.scene (subst IsScene c.in_ok-cluster.ensures.scene c.scene.ensures.limits) (bank_scene c.args.scene _ _ c.requires))

pub returns-clause-written : goal.returns-clause-written
returns-clause-written g c =
    bank_written c.args.scene _ _ _ _ _ _ _ c.write_balances.result c.in_ok-cluster.ensures.scene c.in_ok-cluster.ensures.world c.keys.ensures
    (c.as_slice.ensures.value ∙ balances_are c.args.scene _ _ _ _ _ _ c.in_ok-gots.ensures c.in_ok-cluster.ensures.scene c.scene.ensures.value c.answers.ensures c.in_ok-cluster.ensures.world
    c.requires.opened)
    c.in_ok-write_cluster.ensures.written c.write_balances.ensures.written

pub returns-clause-partial : goal.returns-clause-partial
returns-clause-partial g c =
    bank_partly c.args.scene _ _ _ _ _ _ _ c.write_balances.result c.in_ok-cluster.ensures.scene c.in_ok-cluster.ensures.world c.keys.ensures
    (c.as_slice.ensures.value ∙ balances_are c.args.scene _ _ _ _ _ _ c.in_ok-gots.ensures c.in_ok-cluster.ensures.scene c.scene.ensures.value c.answers.ensures c.in_ok-cluster.ensures.world
    c.requires.opened)
    c.in_ok-write_cluster.ensures.written c.write_balances.ensures.partial
