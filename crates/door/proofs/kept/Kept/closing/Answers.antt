use Rattle.door.proofs.Closed.{closing_is}
use Rattle.door.specs.Following.{run_entries}
use Rattle.door.specs.Keeping.{KeptView}
use Rattle.spsi_laws.specs.Laws.Ends.{Ended}
use Rattle.std.proofs.Common.{ap, subst, ◌≡◌}
use Rattle.str_model.specs.Runs.{World}
use Rattle.str_scene.specs.Scenes.{Scene}
use Rattle.door.proofs.kept.Kept.closing.Goals as goal

pub invariant_of-result : goal.invariant_of-result
invariant_of-result g c =
    let k = c.self.inside.cluster in
    let journal : c.in_ok-journal.journal.items ≡ k.world.journal = cc (c.in_ok-journal.ensures, c.deref.ensures.value, c.journal.ensures) in
    let answers : c.in_ok-answers.answers.items ≡ k.world.answers = cc (c.in_ok-answers.ensures, c.deref-2.ensures.value, c.answers.ensures) in
    let list : c.in_ok-shown.shown.list ≡ run_entries k.world = cc (c.in_ok-shown.ensures.list, c.deref_mut-2.ensures.value, c.in_ok-show_all.ensures.list) in
    let scene : c.args.self.now.scene ≡ k.scene = cc (ap (λ (v : KeptView). v.scene) c.self.view_is) in
    let world : c.args.self.now.world ≡ k.world = cc (ap (λ (v : KeptView). v.world) c.self.view_is) in
    let ended = subst (λ (s : Scene). Ended s k.world) scene (subst (λ (w : World). Ended c.args.self.now.scene w) world c.requires) in
    record {
      told = ∣ closing_is k.scene k.world _ _ c.counts-counts.result _ c.self.invariant.1.limits c.self.invariant.1.run_ ended journal answers c.counts-counts.ensures list ∣₁;
    }
