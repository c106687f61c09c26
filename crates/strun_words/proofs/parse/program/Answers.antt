use Rattle.clap.specs.Simple.{app_of_fields}
use Rattle.clap.specs.Words.{App, app_of, with_subcommand}
use Rattle.std.proofs.Common.{ap, ap₂, true, ◌∙◌, ◌≡◌}
use Rattle.std.proofs.lemmas.Result.{IfOk-weaker}
use Rattle.strun_words.proofs.parse.program.Goals as goal
use Rattle.strun_words.specs.Parsing.{audit_command, bank_command, generate_command, pack_command, plain_command, run_command, show_command}

pub returns : goal.returns
returns c =
    let plain_is : app_of c.no_binary_name-plain.result ≡ plain_command = ap app_of_fields c.no_binary_name-plain.ensures
    ∙ ap (λ (a : App). record a { top = record a.top { no_binary_name = true } }) c.new.ensures.app in
    let with_run : app_of c.in_ok-subcommand.field-0 ≡ with_subcommand plain_command run_command.top = c.in_ok-subcommand.ensures.shape c.in_ok-run_command.ensures.local
    ∙ ap₂ with_subcommand plain_is (ap (λ (a : App). a.top) c.in_ok-run_command.ensures.app) in
    let with_pack : app_of c.in_ok-subcommand-2.field-0 ≡ with_subcommand (with_subcommand plain_command run_command.top) pack_command.top =
    c.in_ok-subcommand-2.ensures.shape c.new-2.ensures.local ∙ ap₂ with_subcommand with_run (ap (λ (a : App). a.top) c.new-2.ensures.app) in
    let with_show : app_of c.in_ok-subcommand-3.field-0
    ≡ with_subcommand (with_subcommand (with_subcommand plain_command run_command.top) pack_command.top) show_command.top =
    c.in_ok-subcommand-3.ensures.shape c.new-3.ensures.local ∙ ap₂ with_subcommand with_pack (ap (λ (a : App). a.top) c.new-3.ensures.app) in
    let with_generate : app_of c.in_ok-subcommand-4.field-0
    ≡ with_subcommand (with_subcommand (with_subcommand (with_subcommand plain_command run_command.top) pack_command.top) show_command.top) generate_command.top =
    c.in_ok-subcommand-4.ensures.shape c.in_ok-generate_command.ensures.local
    ∙ ap₂ with_subcommand with_show (ap (λ (b : App). b.top) c.in_ok-generate_command.ensures.app) in
    let with_bank : app_of c.in_ok-subcommand-5.field-0
    ≡ with_subcommand (with_subcommand (with_subcommand (with_subcommand (with_subcommand plain_command run_command.top) pack_command.top) show_command.top) generate_command.top) bank_command.top =
    c.in_ok-subcommand-5.ensures.shape c.new-4.ensures.local ∙ ap₂ with_subcommand with_generate (ap (λ (b : App). b.top) c.new-4.ensures.app) in
    let with_audit : app_of c.in_ok-subcommand-6.field-0
    ≡ with_subcommand (with_subcommand (with_subcommand (with_subcommand (with_subcommand (with_subcommand plain_command run_command.top) pack_command.top) show_command.top) generate_command.top) bank_command.top) audit_command.top =
    c.in_ok-subcommand-6.ensures.shape c.new-5.ensures.local ∙ ap₂ with_subcommand with_bank (ap (λ (b : App). b.top) c.new-5.ensures.app) in
    IfOk-weaker c.subcommand-7.result _ _
    (λ command a. a.shape c.in_ok-at_command.ensures.local ∙ ap₂ with_subcommand with_audit (ap (λ (b : App). b.top) c.in_ok-at_command.ensures.app))
    c.subcommand-7.ensures
