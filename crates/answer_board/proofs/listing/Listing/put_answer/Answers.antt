use Rattle.std.proofs.Common.{[], cond, rules, subst, sym, true, ◌++◌, ◌∙◌, ◌∷◌, ◌≡◌}
use Rattle.answer_board.proofs.Slotted.{free_slot, listed, listed_put, listing_put}
use Rattle.answer_board.proofs.listing.Listing.put_answer.Goals as goal
use Rattle.answer_board.specs.Places.{Listed, extended, is_free}
use Rattle.answer_board.specs.declared.entries.Entry.TheVariants.{Gave}

pub fill-requires : goal.fill-requires
fill-requires c =
    let t : c.is_free.result ≡ true = search rules in
    let u = subst (λ (l : Listed). is_free l c.args.answer.place ≡ true) (sym c.self.view_is) (sym c.is_free.ensures ∙ t) in
    free_slot c.self.inside.table c.self.inside.entries.items c.args.answer.place c.self.invariant u

pub invariant_of-self : goal.invariant_of-self
invariant_of-self c =
    let t : c.is_free.result ≡ true = search rules in
    let u = subst (λ (l : Listed). is_free l c.args.answer.place ≡ true) (sym c.self.view_is) (sym c.is_free.ensures ∙ t) in
    let free = free_slot c.self.inside.table c.self.inside.entries.items c.args.answer.place c.self.invariant u in
    let more : c.push.new.self.items ≡ c.self.inside.entries.items ++ Gave c.args.answer ∷ [] = search rules in
    listing_put c.self.inside.table c.fill.new.self c.self.inside.entries.items c.push.new.self.items c.args.answer c.len-position.result c.self.invariant free c.fill.ensures (search rules) more

pub returns-in-Ok-clause-ok : goal.returns-in-Ok-clause-ok
returns-in-Ok-clause-ok c =
    let t : c.is_free.result ≡ true = search rules in
    let u = subst (λ (l : Listed). is_free l c.args.answer.place ≡ true) (sym c.self.view_is) (sym c.is_free.ensures ∙ t) in
    let free = free_slot c.self.inside.table c.self.inside.entries.items c.args.answer.place c.self.invariant u in
    let more : c.push.new.self.items ≡ c.self.inside.entries.items ++ Gave c.args.answer ∷ [] = search rules in
    subst (λ (l : Listed). listed c.fill.new.self c.push.new.self.items ≡ cond (is_free l c.args.answer.place) (extended l (Gave c.args.answer)) l) c.self.view_is
    (listed_put c.self.inside.table c.fill.new.self c.self.inside.entries.items c.push.new.self.items c.args.answer c.len-position.result free c.fill.ensures more u)
