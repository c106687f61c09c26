use Rattle.std.proofs.Common.{Global, Vec, ap, refl, ℕ, ◌∙◌}
use Rattle.std.specs.Str.{bytes_eq}
use Rattle.history_reading.proofs.Spelled.PlacesFound.{by_bytes, put_same}
use Rattle.indexmap.specs.IndexMap.{insert_entry}
use Rattle.history_reading.proofs.places.Places.put.Goals as goal

pub returns : goal.returns
returns c =
    ap (by_bytes {K = Vec ℕ Global} (λ (k : Vec ℕ Global). k.items)) c.in_ok-insert.ensures.entries
    ∙ (put_same {K = Vec ℕ Global} (λ (k : Vec ℕ Global). k.items) _ c.args.text c.args.place (λ l. refl) c.self.inside.numbers.entries ∙ ap (λ ps. insert_entry bytes_eq ps c.args.text.items c.args.place) c.self.view_is)
