use Rattle.std.proofs.Common.{Some, ap, arith, false, rules, sym, true, ◌∙◌, ◌≡◌}
use Rattle.std.proofs.lemmas.Grind.{common_steps}
use Rattle.history_reading.proofs.Spelled.EndsRead.{commit_long, commit_no_end, commit_no_final, commit_no_gets, commit_no_time, commit_read, commit_wide_gets, commit_wide_times, kept_all, kept_none}
use Rattle.history_reading.specs.Parts.{kept_gets}
use Rattle.history_reading.proofs.answers.read_commit.Goals as goal

pub returns-in_default-clause-bad : goal.returns-in_default-clause-bad
returns-in_default-clause-bad c = commit_no_end c.args.text.now (c.in_default.ensures.none (search rules))

pub returns-in_default-read_time-clause-bad : goal.returns-in_default-read_time-clause-bad
returns-in_default-read_time-clause-bad c =
    commit_no_end c.args.text.now (commit_no_time c.args.text.now c.in-Some.rs.now c.in-Some.fc.now c.in-Some.gets.now c.in-Some.ensures.parts (c.in_default-read_time.ensures.none (search rules)))

pub returns-in_default-read_final-clause-bad : goal.returns-in_default-read_final-clause-bad
returns-in_default-read_final-clause-bad c =
    commit_no_end c.args.text.now (commit_no_final c.args.text.now c.in-Some.rs.now c.in-Some.fc.now c.in-Some.gets.now c.in-Some.ensures.parts (c.in_default-read_final.ensures.none (search rules)))

pub read_gets-requires-clause-after : goal.read_gets-requires-clause-after
read_gets-requires-clause-after c = c.in-Some.ensures.parts.after

pub returns-in_default-gets-clause-bad : goal.returns-in_default-gets-clause-bad
returns-in_default-gets-clause-bad c =
    commit_no_end c.args.text.now (commit_no_gets c.args.text.now c.in-Some.rs.now c.in-Some.fc.now c.in-Some.gets.now c.in-Some.ensures.parts (c.in-Ok.ensures.none (rw c.in_default-gets.is (search rules))))

pub returns-in_default-zip-clause-bad : goal.returns-in_default-zip-clause-bad
returns-in_default-zip-clause-bad c =
    commit_wide_times c.args.scene.now c.args.text.now c.in-Some.rs.now c.in-Some.fc.now c.in-Some.gets.now c.in-Some-read_time.rs c.in-Some-read_final.fc (kept_gets c.in-Some-gets.gets.all_kept c.in-Some-gets.gets.list.items) c.in-Some.ensures.parts
    c.in-Some-read_time.ensures.time c.in-Some-read_final.ensures.time (rw c.in-Some-gets.is at c.in-Ok.ensures.gets) (sym c.zip.ensures ∙ c.in_default-zip.is)

pub returns-then-not-gets-clause-bad : goal.returns-then-not-gets-clause-bad
returns-then-not-gets-clause-bad c =
    let lost : c.in-Some-gets.gets.all_kept ≡ false = grind (arith, common_steps) in
    commit_wide_gets c.args.scene.now c.args.text.now c.in-Some.rs.now c.in-Some.fc.now c.in-Some.gets.now c.in-Some-read_time.rs c.in-Some-read_final.fc (kept_gets c.in-Some-gets.gets.all_kept c.in-Some-gets.gets.list.items) c.in-Some.ensures.parts
    c.in-Some-read_time.ensures.time c.in-Some-read_final.ensures.time (rw c.in-Some-gets.is at c.in-Ok.ensures.gets) (kept_none c.in-Some-gets.gets.all_kept c.in-Some-gets.gets.list.items lost)

pub returns-then-len-gt-OPERATIONS-clause-bad : goal.returns-then-len-gt-OPERATIONS-clause-bad
returns-then-len-gt-OPERATIONS-clause-bad c =
    let all : c.in-Some-gets.gets.all_kept ≡ true = grind (arith, common_steps) in
    commit_long c.args.scene.now c.args.text.now c.in-Some.rs.now c.in-Some.fc.now c.in-Some.gets.now c.in-Some-read_time.rs c.in-Some-read_final.fc (kept_gets c.in-Some-gets.gets.all_kept c.in-Some-gets.gets.list.items) c.in-Some-zip.rs c.in-Some-zip.fc
    c.in-Some-gets.gets.list.items c.in-Some.ensures.parts c.in-Some-read_time.ensures.time c.in-Some-read_final.ensures.time (rw c.in-Some-gets.is at c.in-Ok.ensures.gets) (sym c.zip.ensures ∙ c.in-Some-zip.is)
    (kept_all c.in-Some-gets.gets.all_kept c.in-Some-gets.gets.list.items all) (grind (arith, common_steps))

pub returns-clause-end : goal.returns-clause-end
returns-clause-end c =
    let all : c.in-Some-gets.gets.all_kept ≡ true = grind (arith, common_steps) in
    let same : c.short_gets-gets.result ≡ c.in-Some-gets.gets.list.items = grind (arith, common_steps) in
    commit_read c.args.scene.now c.args.text.now c.in-Some.rs.now c.in-Some.fc.now c.in-Some.gets.now c.in-Some-read_time.rs c.in-Some-read_final.fc (kept_gets c.in-Some-gets.gets.all_kept c.in-Some-gets.gets.list.items) c.in-Some-zip.rs c.in-Some-zip.fc
    c.short_gets-gets.result c.in-Some.ensures.parts c.in-Some-read_time.ensures.time c.in-Some-read_final.ensures.time (rw c.in-Some-gets.is at c.in-Ok.ensures.gets) (sym c.zip.ensures ∙ c.in-Some-zip.is)
    (kept_all c.in-Some-gets.gets.all_kept c.in-Some-gets.gets.list.items all ∙ ap Some (sym same))
