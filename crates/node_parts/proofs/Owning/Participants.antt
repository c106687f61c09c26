-- Participants after an answer, and the transaction that keeps them.
use Rattle.std.proofs.Common.{Bool, List, MatchOption, None, Option, Some, ap, false, slice_get, slice_set, true, ℕ, ◌∙◌, ◌≡◌}
use Rattle.partition_map.specs.declared.rows.Asked.{Asked}
use Rattle.str_base.proofs.Lists.{set_got}
use Rattle.str_base.specs.declared.names.NodeId.{NodeId}
use Rattle.str_model.specs.Views.{Own}
use Rattle.node_parts.specs.Owning.{HasParts, Named, OwnState}
use Rattle.node_parts.proofs.Owning.NamesKept.{owns, owns_set}

-- only the participants change
pub acked_only : (o : Option (List Asked)) (r : Bool) (old new : Named) → HasParts o r old new → (ps : List Asked) × (new ≡ record old { own = record (old.own) { parts = ps } })
acked_only None r old new h = (old.own.parts, h.1)
acked_only (Some ps) r old new h = (ps, h.1)

-- what it comes to in the list
pub acked_all : (o : Option (List Asked)) (r : Bool) (old new : Named) (names : List Named) (node : NodeId) (sessions spare i : ℕ) (now : OwnState) (x : Own) → HasParts o r old new
    → record { node = node; all = owns names; sessions = sessions; spare = spare } ≡ now → slice_get names i ≡ Some old → old.own ≡ x
    → MatchOption o ((r ≡ false) × (record { node = node; all = owns (slice_set names i new); sessions = sessions; spare = spare } ≡ now))
    (λ ps. (r ≡ true) × (record { node = node; all = owns (slice_set names i new); sessions = sessions; spare = spare } ≡ record now { all = slice_set now.all i (record x { parts = ps }) }))
acked_all None r old new names node sessions spare i now x h s e is =
    let same : slice_set names i new ≡ names = ap (slice_set names i) h.1 ∙ set_got names i old e in
    (h.0, ap (λ l. record { node = node; all = owns l; sessions = sessions; spare = spare }) same ∙ s)
acked_all (Some ps) r old new names node sessions spare i now x h s e is =
    let own : new.own ≡ record x { parts = ps } = ap (λ (z : Named). z.own) h.1 ∙ ap (λ (z : Own). record z { parts = ps }) is in
    let all = owns_set names i new now.all (record x { parts = ps }) (ap (λ (z : OwnState). z.all) s) own in
    (h.0, λ j. record { node = (s j).node; all = all j; sessions = (s j).sessions; spare = (s j).spare })
