-- What is left to be done in a state: the measure by which a drain ends.
use Rattle.std.specs.List.{count_by, sum_by}
use Rattle.std.specs.Prelude.{Bool, List, [], drop, false, flat_map, if◌then◌else◌, length, true, ℕ, ◌*◌, ◌+◌, ◌-◌, ◌==◌, ◌∷◌}
use Rattle.partition_map.specs.declared.rows.Asked.{Asked}
use Rattle.str_base.specs.declared.names.KeyId.{KeyId}
use Rattle.str_base.specs.declared.names.NodeId.{NodeId}
use Rattle.str_scene.specs.declared.names.Op.{Op}
use Rattle.str_scene.specs.declared.names.Op.TheVariants.{Abort as Stop, Add, Del, Get, Need, Put, Puts}
use Rattle.str_base.specs.declared.names.PartId.{PartId}
use Rattle.str_base.specs.declared.names.TxId.{TxId}
use Rattle.str_base.specs.declared.names.Value.TheVariants.{Absent}
use Rattle.str_base.specs.declared.names.Write.{Write}
use Rattle.str_model.specs.declared.messages.Body.{Body}
use Rattle.str_model.specs.declared.messages.Body.TheVariants.{Prepare, ReadReq, Replicate}
use Rattle.str_model.specs.declared.messages.Message.{Message}
use Rattle.str_model.specs.declared.messages.Waiter.{Waiter}
use Rattle.str_model.specs.declared.messages.Waiter.TheVariants.{Held, Read}
use Rattle.str_model.specs.Runs.{World}
use Rattle.str_scene.specs.Scenes.{Scene, Session, others, participants, replicas, script_at}
use Rattle.str_model.specs.Views.{Active, Closing, Own, Phase, ReadWait, Remote, Reply, View, is_certified, is_decided}

-- a key that may be written
abbrev pub named_write : KeyId → List Write
named_write k = record { key = k; value = Absent } ∷ []

-- the keys that an operation may write
abbrev pub may_write : Op → List Write
may_write (Get k) = []
may_write (Put k n) = named_write k
may_write (Puts k t) = named_write k
may_write (Add k n) = named_write k
may_write (Del k) = named_write k
may_write (Need k n) = []
may_write Stop = []

-- the participants of all keys that a script may write
abbrev pub script_participants : Scene → NodeId → List Op → List Asked
script_participants scene n ops = participants scene n (flat_map may_write ops)

-- what a transaction that has not begun counts for
abbrev pub share : Scene → NodeId → List Op → ℕ
share scene n ops = 2 + (3 * length ops + 3 * length (script_participants scene n ops))

-- the bound on the work of a scene
abbrev pub work : Scene → ℕ
work scene = sum_by (λ s. sum_by (share scene s.node) s.txs) scene.sessions

-- the operations that no client step has taken up
abbrev pub ops_left : Phase → ℕ → ℕ
ops_left Active n = n
ops_left (ReadWait k) n = n - 1
ops_left (Remote k) n = n - 1
ops_left (Reply k v by fc) n = n - 1
ops_left (Closing wish) n = n - 1
ops_left _ n = 0

-- what a read that waits here counts for
abbrev pub wait_left : Phase → ℕ
wait_left (ReadWait k) = 2
wait_left _ = 0

-- it has neither asked to commit nor become Closing
abbrev pub close_left : Phase → ℕ
close_left Active = 1
close_left (ReadWait k) = 1
close_left (Remote k) = 1
close_left (Reply k v by fc) = 1
close_left _ = 0

-- what a participant counts for
abbrev pub part_left : Asked → ℕ
part_left a = if a.asked then 1 else 3

-- before a transaction is certified its participants are those of its script
abbrev pub parts_left : Scene → NodeId → Own → ℕ
parts_left scene n x =
    if is_certified x.phase then sum_by part_left x.parts else 3 * length (script_participants scene n (script_at scene x.place))

-- what an own transaction counts for
abbrev pub own_left : Scene → NodeId → Own → ℕ
own_left scene n x =
    if is_decided x.phase
    then 0
    else 3 * ops_left x.phase (length (script_at scene x.place) - x.next) + (wait_left x.phase + (close_left x.phase + parts_left scene n x))

-- what a Prepare counts for
abbrev pub prepare_weight : Scene → TxId → PartId → ℕ
prepare_weight scene tx p = 2 * length (others tx.node (replicas scene p))

-- what a message counts for
abbrev pub body_weight : Scene → Body → ℕ
body_weight scene (ReadReq tx k rs) = 2
body_weight scene (Prepare tx p rs lc ws) = prepare_weight scene tx p
body_weight scene (Replicate tx p rs lc ws) = 2
body_weight scene _ = 1

-- the messages that were never given
abbrev pub sent_left : Scene → List Message → List Bool → ℕ
sent_left scene [] given = 0
sent_left scene (m ∷ ms) [] = 0
sent_left scene (m ∷ ms) (true ∷ given) = sent_left scene ms given
sent_left scene (m ∷ ms) (false ∷ given) = body_weight scene m.body + sent_left scene ms given

-- what one that waits counts for
abbrev pub waiter_left : Scene → Waiter → ℕ
waiter_left scene (Read tx k rs) = 1
waiter_left scene (Held a) = prepare_weight scene a.tx a.part - 1

-- what a node's view counts for
abbrev pub view_left : Scene → NodeId → View → ℕ
view_left scene n v = sum_by (own_left scene n) v.own + sum_by (waiter_left scene) v.waiters

-- the nodes from the n-th on
abbrev pub views_left : Scene → ℕ → List View → ℕ
views_left scene n [] = 0
views_left scene n (v ∷ vs) = view_left scene (record { 0 = n }) v + views_left scene (n + 1) vs

-- how many transactions of a session have begun
abbrev pub begun_in : List View → ℕ → ℕ
begun_in vs s = sum_by (λ v. count_by (λ x. x.place.session.0 == s) v.own) vs

-- the sessions from the s-th on
abbrev pub unbegun_left : Scene → List View → ℕ → List Session → ℕ
unbegun_left scene vs s [] = 0
unbegun_left scene vs s (text ∷ rest) =
    sum_by (share scene text.node) (drop (begun_in vs s) text.txs) + unbegun_left scene vs (s + 1) rest

-- what is left to be done
unfoldable pub left : Scene → World → ℕ
left scene w =
    unbegun_left scene w.nodes 1 scene.sessions + (views_left scene 1 w.nodes + sent_left scene w.sent w.given)
