-- The words in which the rows are written, and all that is opened to compute one.
use Rattle.std.proofs.Common.{List, ℕ}
use Rattle.std.specs.Fmt.{digits}
use Rattle.std.specs.Prelude.{ℤ}
use Rattle.str_scene.specs.declared.names.Event.{Event}
use Rattle.str_scene.specs.declared.names.Event.TheVariants.{Client, Deliver}
use Rattle.str_base.specs.declared.names.NodeId.{NodeId}
use Rattle.str_scene.specs.declared.names.Op.{Op}
use Rattle.str_scene.specs.declared.names.Op.TheVariants.{Add, Del, Get, Need, Put, Puts}
use Rattle.str_base.specs.declared.names.PartId.{PartId}
use Rattle.str_model.specs.Acts.{abort_came, aborted, accepted, acked, asked, begun, certified, closed, commit_came, committed, marked, refused, replied, requested, taken, waits}
use Rattle.str_model.specs.Arrivals.{prepare_rule, read_req, replicate_rule}
use Rattle.str_model.specs.Clients.{client_rule}
use Rattle.str_model.specs.Drains.{cluster_events, cluster_run, moves, next_event, next_message, next_session}
use Rattle.str_model.specs.Gates.{gate_turn}
use Rattle.str_model.specs.Lines.{render, render_j}
use Rattle.str_model.specs.Pass.{half_turn, turn}
use Rattle.str_model.specs.Proposals.{master_turn, prepare_turn, takes}
use Rattle.str_model.specs.Returns.{ack_rule, read_reply, refuse_rule}
use Rattle.str_model.specs.Runs.{happens}
use Rattle.str_scene.specs.Scenes.{Session}
use Rattle.str_scene.specs.Spelling.{spelling}
use Rattle.str_model.specs.Scripts.{certify_now, read_now}
use Rattle.str_model.specs.Steps.{after_rule, rule, step}
use Rattle.str_model.specs.Turns.{cert_turn, dep_turn, read_turn, reply_turn, serve_turn}
use Rattle.str_model.specs.Work.{left}

unfoldable pub node : ℕ → NodeId
node n = record { 0 = n }

unfoldable pub key : List ℕ → ℕ → List ℕ × PartId
key name p = (name, record { 0 = p })

unfoldable pub session : ℕ → List (List Op) → Session
session n txs = record { node = record { 0 = n }; txs = txs }

unfoldable pub c : ℕ → ℕ → Event
c s t = Client (record { 0 = s }) t

unfoldable pub d : ℕ → Event
d i = Deliver i

unfoldable pub get : ℕ → Op
get k = Get (record { 0 = k })

unfoldable pub put : ℕ → ℤ → Op
put k n = Put (record { 0 = k }) n

unfoldable pub puts : ℕ → ℕ → Op
puts k t = Puts (record { 0 = k }) (record { 0 = t })

unfoldable pub add : ℕ → ℤ → Op
add k n = Add (record { 0 = k }) n

unfoldable pub del : ℕ → Op
del k = Del (record { 0 = k })

unfoldable pub need : ℕ → ℤ → Op
need k n = Need (record { 0 = k }) n

unfoldable pub words : ℕ
unfolding node key session c d get put puts add del need
words = 0

unfoldable pub everything : ℕ
unfolding read_turn reply_turn serve_turn cert_turn master_turn prepare_turn takes dep_turn gate_turn begun marked aborted committed closed certified asked acked requested accepted taken refused waits replied commit_came abort_came read_now certify_now client_rule read_req prepare_rule replicate_rule read_reply ack_rule refuse_rule half_turn turn rule after_rule step happens left next_message moves next_session next_event cluster_events cluster_run render render_j digits spelling words
everything = 0
