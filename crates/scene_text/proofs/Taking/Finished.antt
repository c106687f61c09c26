-- A scene that was read to its end may be finished.
use Rattle.std.proofs.Common.{List, None, Option, Some, ap, length, refl, true, ℕ, ◌∙◌, ◌≡◌}
use Rattle.str_base.proofs.Tests.{not_zero}
use Rattle.str_scene.proofs.Allowing.{scene_finishes}
use Rattle.std.proofs.lemmas.Bool.{and_from}
use Rattle.std.proofs.lemmas.Bool.Decides.{Decides-eqb}
use Rattle.std.specs.Prelude.{flat_map}
use Rattle.scene_text.proofs.FirstBad.ReaderKnows.{end_text}
use Rattle.scene_text.specs.LineOrder.Place.{AfterEnd}
use Rattle.scene_text.specs.Reaching.{Reached}
use Rattle.scene_text.specs.Taking.{State}
use Rattle.str_scene.specs.Refusals.{counts_to, finish_fault, first_fault}
use Rattle.str_scene.specs.SceneLimits.{IsScene, all_ops, counted, key_of, text_of}
use Rattle.str_scene.specs.Scenes.{Scene}

-- so may a scene that was read to its end
pub end_finishes : (text : List ℕ) (n : ℕ) (s : State) → Reached text n s → s.place ≡ AfterEnd → finish_fault s.draft ≡ None
end_finishes text n s r at = scene_finishes s.draft (end_text text n s r at).0
