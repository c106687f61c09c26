-- The schedule: how many entries there are, and that each names a session or a message, and a reading in range.
use Rattle.std.proofs.Common.{Bool, ap, arith, false, if◌then◌else◌, length, refl, suc, true, zero, ℕ, ◌%◌, ◌*◌, ◌+◌, ◌≡◌, ◌≤◌}
use Rattle.std.proofs.lemmas.Nat.{mod_below}
use Rattle.rand_pcg.specs.Lcg.{Lcg}
use Rattle.scene_gen.specs.Drawn.{after_entry, entry, is_delivery, nth}
use Rattle.scene_gen.specs.Made.{made_entries}
use Rattle.str_scene.specs.declared.names.Event.TheVariants.{Client, Deliver}
use Rattle.str_scene.specs.Lists.{Each}
use Rattle.str_scene.specs.SceneLimits.{IsEvent}
use Rattle.str_scene.specs.Scenes.{Scene}

-- how many there are
pub entries_length : (n e : ℕ) (g : Lcg) → length (made_entries n e g) ≡ n
unfolding made_entries
entries_length zero e g = refl
entries_length (suc n) e g = ap suc (entries_length n (e + 1) (after_entry g))

-- an entry
pub entry_holds : (d : Scene) (place : ℕ) (g : Lcg) → length d.sessions ≡ 12 → place ≤ 6000 → IsEvent d (entry place g)
entry_holds d place g is few = by (is_delivery g)
  where
    by : (v : Bool) → IsEvent d (if v then Deliver (1 + nth 1 g % 3000) else Client (record { 0 = 1 + nth 1 g % 12 }) (10 * place + nth 2 g % 100))
    by true = let index = mod_below (nth 1 g) 3000 (omega arith) in (omega arith, omega arith)
    by false =
        let session = mod_below (nth 1 g) 12 (omega arith) in
        let reading = mod_below (nth 2 g) 100 (omega arith) in
        ((omega arith, omega arith), omega arith)

-- each of them
pub entries_hold : (d : Scene) (n e : ℕ) (g : Lcg) → length d.sessions ≡ 12 → e + n ≤ 6001 → Each (IsEvent d) (made_entries n e g)
unfolding made_entries
entries_hold d zero e g is few = tt
entries_hold d (suc n) e g is few = (entry_holds d e g is (omega arith), entries_hold d n (e + 1) (after_entry g) is (omega arith))
