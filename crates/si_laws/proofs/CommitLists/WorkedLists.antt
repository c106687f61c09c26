-- Commit lists and snapshots of worked scenes, computed.
use Rattle.std.proofs.Common.{List, [], map, pos, refl, ℕ, ◌∷◌, ◌≡◌}
use Rattle.std.specs.Prelude.{negsuc, ℤ}
use Rattle.str_base.specs.declared.names.Value.TheVariants.{Num}
use Rattle.str_base.specs.declared.names.Write.{Write}
use Rattle.str_model.specs.declared.messages.Answer.{Answer}
use Rattle.str_model.specs.declared.names.Got.{Got}
use Rattle.str_model.specs.Drains.{cluster_run}
use Rattle.str_model.specs.Evaluation.{AtEnd, Evaluated, Stop, Unmet}
use Rattle.str_scene.specs.Scenes.{Scene}
use Rattle.si_laws.specs.Commits.{Member, members, seen}
use Rattle.str_model.proofs.Worked.Commits.Transfer.{transfer}
use Rattle.str_model.proofs.Worked.Commits.WrappingAndUnmetNeed.{wrapping_and_unmet_need}
use Rattle.str_model.proofs.Worked.Conflicts.LostUpdate.{lost_update}
use Rattle.str_model.proofs.Worked.Words.{everything}

-- the answers of a scene's run
abbrev answers_of : Scene → List Answer
answers_of scene = (cluster_run scene).answers

-- the final timestamp and the writes of a member
abbrev told : Member → ℕ × List Write
told m = (m.fc, m.writes)

-- the gets of a script, and how it stopped
abbrev came_to : Evaluated → List Got × Stop
came_to e = (e.gets, e.stop)

-- what each answer's script gives on its snapshot
abbrev seen_by : Scene → List (List Got × Stop)
seen_by scene = map (λ a. came_to (seen scene (answers_of scene) a)) (answers_of scene)

abbrev wrote : ℕ → ℤ → Write
wrote k n = record { key = record { 0 = k }; value = Num n }

abbrev got : ℕ → ℤ → Got
got k n = record { key = record { 0 = k }; value = Num n }

-- of two sums on one key one commits, and the other aborts
lost_update-members : map told (members lost_update (answers_of lost_update)) ≡ (11, wrote 0 (pos 1) ∷ []) ∷ []
unfolding everything lost_update
lost_update-members = refl

-- a sum that wraps, and a need that isn't met
wrapping-members : map told (members wrapping_and_unmet_need (answers_of wrapping_and_unmet_need)) ≡
    (11, wrote 0 (negsuc 9223372036854775807) ∷ []) ∷ []
unfolding everything wrapping_and_unmet_need
wrapping-members = refl

wrapping-seen : seen_by wrapping_and_unmet_need ≡ (got 0 (negsuc 9223372036854775807) ∷ [], AtEnd) ∷ ([], Unmet) ∷ []
unfolding everything wrapping_and_unmet_need
wrapping-seen = refl

-- a transfer between two nodes, and a read of both accounts
transfer-members : map told (members transfer (answers_of transfer)) ≡
    (1001, wrote 0 (pos 100) ∷ []) ∷ (1002, wrote 0 (pos 70) ∷ wrote 1 (pos 30) ∷ []) ∷ []
unfolding everything transfer
transfer-members = refl

transfer-seen : seen_by transfer ≡ ([], AtEnd) ∷ ([], AtEnd) ∷ (got 0 (pos 70) ∷ got 1 (pos 30) ∷ [], AtEnd) ∷ []
unfolding everything transfer
transfer-seen = refl
