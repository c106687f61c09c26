use Rattle.std.proofs.Common.{refl, rules}
use Rattle.history_reading.proofs.Spelled.GetsRead.{gets_begin, gets_end, gets_next, gets_shorter, gets_stop, kept_new}
use Rattle.history_reading.specs.Parts.{kept_gets}
use Rattle.history_reading.proofs.gets.read_gets.Goals as goal

pub loop-words-init : goal.loop-words-init
loop-words-init c =
    gets_begin c.args.scene.now c.args.text.now (kept_gets c.new-read.result.all_kept c.new-read.result.list.items) c.requires.after (kept_new c.new-read.result.all_kept c.new-read.result.list.items c.new-read.ensures.kept c.new-read.ensures.list)

pub returns-in_default-read_get-clause-none : goal.returns-in_default-read_get-clause-none
returns-in_default-read_get-clause-none c = λ none.
    gets_stop c.args.scene.now c.args.text.now c.loop-words.left.now c.in-Some.words.now c.first_word.result.0.now c.first_word.result.1.now (kept_gets c.loop-words.read.all_kept c.loop-words.read.list.items) c.loop-words.invariant c.in-Some.ensures.rest
    c.first_word.ensures.parts c.first_word.ensures.word c.first_word.ensures.after (c.in_default-read_get.ensures.none refl)

pub loop-words-preserved : goal.loop-words-preserved
loop-words-preserved c =
    gets_next c.args.scene.now c.args.text.now c.loop-words.left.now c.in-Some.words.now c.first_word.result.0.now c.first_word.result.1.now (kept_gets c.loop-words.read.all_kept c.loop-words.read.list.items)
    (kept_gets c.push.new.self.all_kept c.push.new.self.list.items) c.in-Some-read_get.got c.loop-words.invariant c.in-Some.ensures.rest c.first_word.ensures.parts c.first_word.ensures.after c.in-Some-read_get.ensures.get c.in_ok-push.ensures

pub loop-words-smaller : goal.loop-words-smaller
loop-words-smaller c = gets_shorter c.loop-words.left.now c.in-Some.words.now c.first_word.result.0.now c.first_word.result.1.now c.in-Some.ensures.rest c.first_word.ensures.parts

pub returns-clause-gets : goal.returns-clause-gets
returns-clause-gets c =
    gets_end c.args.scene.now c.args.text.now c.loop-words.left.now (kept_gets c.loop-words.read.all_kept c.loop-words.read.list.items) c.loop-words.invariant (c.in_default.ensures.none (search rules))
