-- What a replica decides is the same over a pruned list: in full at or above the mark, else up to the transaction that a refusal names.
use Rattle.std.proofs.Common.{Bool, List, None, Option, Some, [], ap, false, find, if◌then◌else◌, inl, inr, max, nat_lt, not, refl, sym, true, ℕ, ◌&&◌, ◌+◌, ◌||◌, ◌∙◌, ◌∷◌, ◌≡◌, ◌≤◌, arith, ltb-true, lt-ltb}
use Rattle.std.specs.List.{list_any}
use Rattle.std.proofs.lemmas.Bool.{and_parts, le-ltb}
use Rattle.str_base.specs.declared.names.KeyId.{KeyId}
use Rattle.str_base.specs.declared.names.PartId.{PartId}
use Rattle.str_base.specs.declared.names.TxId.{TxId}
use Rattle.str_base.specs.declared.names.Version.{Version}
use Rattle.str_base.specs.declared.names.Write.{Write}
use Rattle.str_base.specs.Versions.{is_local, is_undecided, of_pair, of_tx, same_key}
use Rattle.str_base.specs.declared.names.Kind.{Kind}
use Rattle.str_base.specs.declared.names.Kind.TheVariants.{Final, Local, Pre}
use Rattle.str_model.specs.declared.messages.Arrived.{Arrived}
use Rattle.str_model.specs.Arrivals.{held_key}
use Rattle.str_model.specs.Proposals.{MasterTurn, Refuse, accepts, is_done, is_known, master_parks, master_refuses, master_turn, parks, proposed, refuses}
use Rattle.str_model.specs.Pruning.{covers, hides, pruned, pruned_versions}
use Rattle.str_model.specs.Turns.{met}
use Rattle.str_model.specs.Views.{View}
use Rattle.str_model.proofs.Pruning.PruneOrder.{InOrder, PassesOpen}
use Rattle.str_model.proofs.Pruning.PruneTurns.{find_met_low, key_found, key_met_pruned, passed_pruned}

-- a test that passes no Final version of the list sees no pruning
pub any_pruned : (g : ℕ) (p : Version → Bool) (vs : List Version) → PassesOpen p vs → list_any p (pruned_versions g vs) ≡ list_any p vs
any_pruned g p [] h = refl
any_pruned g p (v ∷ vs) h = by_hidden (hides g v vs) refl (any_pruned g p vs (λ w k. h w (inr k)))
  where
    fails : hides g v vs ≡ true → (b : Bool) → p v ≡ b → list_any p vs ≡ (b || list_any p vs)
    fails k false e = refl
    fails k true e = absurd (cc (h v (inl refl) e, (and_parts (not (is_undecided v.kind)) (list_any (covers g v.key) vs) k).0))

    by_hidden : (b : Bool) → hides g v vs ≡ b → list_any p (pruned_versions g vs) ≡ list_any p vs → list_any p (if b then pruned_versions g vs else v ∷ pruned_versions g vs) ≡ list_any p (v ∷ vs)
    by_hidden true k r = r ∙ fails k (p v) refl
    by_hidden false k r = ap (λ z. p v || z) r

-- a pair is known alike, where each Final version of it stands beside an entry of the done list
pub known_pruned : (g : ℕ) (view : View) (tx : TxId) (p : PartId) → (is_done view tx p ≡ false → PassesOpen (of_pair tx p) view.versions) → is_known (pruned g view) tx p ≡ is_known view tx p
known_pruned g view tx p h = by_done (is_done view tx p) refl
  where
    by_done : (b : Bool) → is_done view tx p ≡ b → (is_done view tx p || list_any (of_pair tx p) (pruned_versions g view.versions)) ≡ (is_done view tx p || list_any (of_pair tx p) view.versions)
    by_done true e = rw e refl
    by_done false e = ap (λ z. is_done view tx p || z) (any_pruned g (of_pair tx p) view.versions (h e))

pub local_open : (kind : Kind) → is_local kind ≡ true → is_undecided kind ≡ true
local_open Pre e = absurd cc
local_open Local e = refl
local_open Final e = absurd cc

pub held_pruned : (g : ℕ) (vs : List Version) (tx : TxId) (ws : List Write) → held_key (pruned_versions g vs) tx ws ≡ held_key vs tx ws
held_pruned g vs tx ws =
    (λ j. find
    (λ w. any_pruned g (λ v. same_key v.key w.key && (of_tx tx v && is_local v.kind)) vs
    (λ v i e. local_open v.kind (and_parts (of_tx tx v) (is_local v.kind) (and_parts (same_key v.key w.key) (of_tx tx v && is_local v.kind) e).1).1) j) ws)

pub proposed_pruned : (g : ℕ) (view : View) (a : Arrived) → proposed (pruned g view) a ≡ proposed view a
proposed_pruned g view a = (λ j. max a.lc.0 (1 + passed_pruned g view a.writes j))

-- ---- the master

parks_none : (g : ℕ) (a : Arrived) (v : Version) → is_undecided v.kind ≡ false → v.ts.0 ≤ g → parks a v ≡ false
parks_none g a v e low = rw e refl

refuses_final : (a : Arrived) (v : Version) → is_undecided v.kind ≡ false → refuses a v ≡ nat_lt a.rs.0 v.ts.0
refuses_final a v e = rw e refl

parked_pruned : (g : ℕ) (view : View) (a : Arrived) → InOrder view.versions
    → master_parks (pruned g view) a (find (parks a) (met a.writes (pruned_versions g view.versions))) ≡ master_parks view a (find (parks a) (met a.writes view.versions))
parked_pruned g view a o = (λ j. master_parks (pruned g view) a (find_met_low g (parks a) (parks_none g a) a.writes view.versions o j)) ∙ by_park (find (parks a) (met a.writes view.versions))
  where
    by_park : (q : Option Version) → master_parks (pruned g view) a q ≡ master_parks view a q
    by_park (Some v) = refl
    by_park None = ap accepts (proposed_pruned g view a)

-- at or above the mark
pub master_pruned : (g : ℕ) (view : View) (a : Arrived) → InOrder view.versions → g ≤ a.rs.0 → master_turn (pruned g view) a ≡ master_turn view a
unfolding master_turn
master_pruned g view a o le =
    (λ j. master_refuses (pruned g view) a (find_met_low g (refuses a) none a.writes view.versions o j)) ∙ by_refusal (find (refuses a) (met a.writes view.versions))
  where
    none : (v : Version) → is_undecided v.kind ≡ false → v.ts.0 ≤ g → refuses a v ≡ false
    none v e low = refuses_final a v e ∙ le-ltb a.rs.0 v.ts.0 (omega (arith, low, le))

    by_refusal : (q : Option Version) → master_refuses (pruned g view) a q ≡ master_refuses view a q
    by_refusal (Some v) = refl
    by_refusal None = parked_pruned g view a o

-- two turns of a master that differ at most in the transaction that a refusal names
pub data TurnAlike : MasterTurn → MasterTurn → Type 0 where
  t_same : (t u : MasterTurn) → t ≡ u → TurnAlike t u
  t_refuse : (by to : TxId) (k l : KeyId) → k ≡ l → TurnAlike (Refuse by k) (Refuse to l)

-- at any mark
pub master_alike : (g : ℕ) (view : View) (a : Arrived) → InOrder view.versions → TurnAlike (master_turn (pruned g view) a) (master_turn view a)
unfolding master_turn
master_alike g view a o =
    by_both (find (refuses a) (met a.writes (pruned_versions g view.versions))) (find (refuses a) (met a.writes view.versions)) (key_met_pruned g (refuses a) up a.writes view.versions o)
  where
    up : (v w : Version) → is_undecided v.kind ≡ false → is_undecided w.kind ≡ false → v.ts.0 ≤ w.ts.0 → refuses a v ≡ true → refuses a w ≡ true
    up v w e f le h =
        let lt = ltb-true a.rs.0 v.ts.0 (sym (refuses_final a v e) ∙ h) in refuses_final a w f ∙ lt-ltb a.rs.0 w.ts.0 (omega (arith, lt, le))

    by_both : (q r : Option Version) → key_found q ≡ key_found r → TurnAlike (master_refuses (pruned g view) a q) (master_refuses view a r)
    by_both None None e = t_same _ _ (parked_pruned g view a o)
    by_both None (Some w) e = absurd (cc e)
    by_both (Some v) None e = absurd (cc e)
    by_both (Some v) (Some w) e = t_refuse v.tx w.tx v.key w.key (cc e)
