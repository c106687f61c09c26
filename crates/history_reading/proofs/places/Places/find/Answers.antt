use Rattle.std.proofs.Common.{Global, Vec, ap, refl, ℕ, ◌∙◌}
use Rattle.history_reading.proofs.Spelled.PlacesFound.{found_same}
use Rattle.history_reading.specs.Places.{place_in}
use Rattle.history_reading.proofs.places.Places.find.Goals as goal

pub returns-in-Some : goal.returns-in-Some
returns-in-Some c =
    c.in-Some.ensures.value ∙ (found_same {K = Vec ℕ Global} (λ (k : Vec ℕ Global). k.items) _ c.args.text.now (λ k. refl) c.self.inside.numbers.entries ∙ ap (λ ps. place_in ps c.args.text.now) c.self.view_is)

pub returns-in-None : goal.returns-in-None
returns-in-None c =
    c.in-None.ensures.value ∙ (found_same {K = Vec ℕ Global} (λ (k : Vec ℕ Global). k.items) _ c.args.text.now (λ k. refl) c.self.inside.numbers.entries ∙ ap (λ ps. place_in ps c.args.text.now) c.self.view_is)
