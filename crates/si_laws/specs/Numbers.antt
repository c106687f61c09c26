-- All timestamps of a state, and how many proposals were made.
use Rattle.str_model.specs.Owned.{or_nothing, final_times}
use Rattle.std.specs.List.{count_by, sum_by}
use Rattle.std.specs.Prelude.{Bool, List, None, Some, [], false, flat_map, is_some, map, true, ℕ, ◌++◌, ◌+◌, ◌∷◌}
use Rattle.partition_map.specs.declared.rows.Asked.{Asked}
use Rattle.str_model.specs.declared.messages.Body.{Body}
use Rattle.str_model.specs.declared.messages.Body.TheVariants.{Abort, Ack, Commit, Prepare, ReadReply, ReadReq, Refuse, Replicate}
use Rattle.str_model.specs.declared.messages.Waiter.{Waiter}
use Rattle.str_model.specs.declared.messages.Waiter.TheVariants.{Held, Read}
use Rattle.str_model.specs.Runs.{World}
use Rattle.str_model.specs.Views.{Own, View, lc_of}

-- the timestamp of an answer
abbrev pub ack_times : Asked → List ℕ
ack_times a = elim a.ack [ None ↦ [] | Some t ↦ t.0 ∷ [] ]

-- those of an own transaction, with the timestamps of its dependencies
abbrev pub own_times : Own → List ℕ
own_times x =
    x.snap.rs ∷ x.snap.ffc ∷ map (λ d. d.rs.0) x.snap.deps ++ or_nothing (lc_of x.phase) ++ final_times x.phase ++ flat_map ack_times x.parts

-- those of one that waits
abbrev pub waiter_times : Waiter → List ℕ
waiter_times (Read tx k rs) = rs.0 ∷ []
waiter_times (Held a) = a.rs.0 ∷ a.lc.0 ∷ []

-- those of a node's view
abbrev pub view_times : View → List ℕ
view_times v =
    v.floor ∷ v.marks ++ map (λ q. q.ts.0) v.versions ++ flat_map own_times v.own ++ flat_map waiter_times v.waiters

-- those of a message
abbrev pub body_times : Body → List ℕ
body_times (ReadReq tx k rs) = rs.0 ∷ []
body_times (ReadReply tx k v by fc) = fc.0 ∷ []
body_times (Prepare tx p rs lc ws) = rs.0 ∷ lc.0 ∷ []
body_times (Refuse tx p by k) = []
body_times (Replicate tx p rs lc ws) = rs.0 ∷ lc.0 ∷ []
body_times (Ack tx p ts) = ts.0 ∷ []
body_times (Commit tx p fc ms) = fc.0 ∷ map (λ m. m.mark.0) ms
body_times (Abort tx p) = []

-- every timestamp of a state
abbrev pub all_times : World → List ℕ
all_times w = flat_map view_times w.nodes ++ flat_map (λ m. body_times m.body) w.sent

-- the body is an answer of a participant
abbrev pub is_ack : Body → Bool
is_ack (Ack tx p ts) = true
is_ack _ = false

-- how often a new timestamp was proposed: the transactions that got an LC, and the pairs that were accepted or taken, each of
-- which was answered by one Ack
abbrev pub proposals : World → ℕ
proposals w = sum_by (λ v. count_by (λ x. is_some (lc_of x.phase)) v.own) w.nodes + count_by (λ m. is_ack m.body) w.sent
