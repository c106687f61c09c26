-- What is listed from the ledger of a run is what stood at the timestamp.
use Rattle.str_model.proofs.ListFacts.{range_more}
use Rattle.std.proofs.Common.{List, [], ap, arith, length, subst, sym, ℕ, ◌++◌, ◌+◌, ◌∙◌, ◌∷◌, ◌≡◌}
use Rattle.std.proofs.lemmas.Grind.{flat_map-append}
use Rattle.std.proofs.lemmas.List.{append-nil, take_all}
use Rattle.std.specs.List.{flat_map, range_with_len}
use Rattle.history_audit.proofs.Findings.{all_ledger}
use Rattle.history_audit.proofs.Lookups.{look_same}
use Rattle.history_audit.specs.Ledgers.{IsLedger, look_in}
use Rattle.history_audit.specs.Orders.{members_by, order_of}
use Rattle.history_audit.specs.Values.{listed, listed_by, values_at, values_by}
use Rattle.history_audit.specs.declared.ledgers.Stamped.{Stamped}
use Rattle.history_audit.specs.declared.orders.FinalCommit.{FinalCommit}
use Rattle.si_laws.proofs.CommitLists.CommitOrder.{Named, named}
use Rattle.si_laws.specs.Commits.{members}
use Rattle.si_laws.specs.SnapshotIsolation.{AnswersPlaced, SIRun}
use Rattle.str_base.specs.declared.names.KeyId.{KeyId}
use Rattle.str_base.specs.declared.names.Value.{Value}
use Rattle.str_model.specs.declared.messages.Answer.{Answer}
use Rattle.str_model.specs.declared.names.Got.{Got}
use Rattle.str_scene.specs.Scenes.{Scene}

-- the answers of a run have their own names
pub run_named : (scene : Scene) (all : List Answer) → SIRun scene all → Named all
run_named scene all r = named all (subst (AnswersPlaced scene) (take_all (length all) all (omega arith)) (r (length all)).placed).names

pub values_same : (scene : Scene) (all : List Answer) (order : List FinalCommit) (chains : List (List Stamped)) (t keys : ℕ) (v : List Got) → order ≡ order_of all
    → IsLedger chains (members_by scene [] order) → keys ≡ length scene.keys.names → v ≡ values_by (look_in chains t) keys → v ≡ values_at scene all t
values_same scene all order chains t keys v o l k e =
    e ∙ (ap (values_by (look_in chains t)) k
    ∙ ap (λ (look : KeyId → Value). values_by look (length scene.keys.names)) (look_same chains (members scene all) t (all_ledger scene all order chains o l)))

-- one more key
pub values_next : (look : KeyId → Value) (n : ℕ) (v : Value) (values new : List Got) → v ≡ look (record { 0 = n }) → values ≡ values_by look n → new ≡ values ++ listed (record { 0 = n }) v
    → new ≡ values_by look (n + 1)
values_next look n v values new e h w =
    w ∙ (ap (λ xs. xs ++ listed (record { 0 = n }) v) h ∙ (ap (λ u. values_by look n ++ listed (record { 0 = n }) u) e
    ∙ sym (ap (flat_map (listed_by look)) (range_more 0 n) ∙ (flat_map-append (listed_by look) (range_with_len 0 n) ((0 + n) ∷ []) ∙ ap (λ xs. values_by look n ++ xs) last))))
  where
    last : flat_map (listed_by look) ((0 + n) ∷ []) ≡ listed (record { 0 = n }) (look (record { 0 = n }))
    last = let z : 0 + n ≡ n = omega arith in append-nil (listed_by look (0 + n)) ∙ ap (listed_by look) z
