-- A read request that is given again is answered again, and so leaves one more to do: two nodes, one key that the second has, one session of the first that reads it.
use Rattle.std.proofs.Common.{List, [], false, refl, ◌∷◌, ◌≡◌}
use Rattle.str_model.specs.Acts.{begun, marked, replied, requested}
use Rattle.str_model.specs.Arrivals.{read_req}
use Rattle.str_model.specs.Clients.{client_rule}
use Rattle.str_model.specs.Pass.{half_turn, turn}
use Rattle.str_model.specs.Runs.{happens, run}
use Rattle.str_model.specs.Scripts.{read_now}
use Rattle.str_model.specs.Steps.{after_rule, rule, step}
use Rattle.str_model.specs.Turns.{dep_turn, read_turn, serve_turn}
use Rattle.str_model.specs.Work.{left}
use Rattle.str_scene.specs.declared.names.Event.{Event}
use Rattle.str_scene.specs.declared.names.Event.TheVariants.{Client, Deliver}
use Rattle.str_scene.specs.declared.names.Op.TheVariants.{Get}
use Rattle.str_scene.specs.Scenes.{Scene}

unfoldable pub one_read : Scene
one_read = record {
  version = 1;
  nodes = 2;
  parts = ((record { 0 = 2 }) ∷ []) ∷ [];
  keys = record { names = ((120 ∷ []), record { 0 = 1 }) ∷ []; texts = [] };
  sessions = record { node = record { 0 = 1 }; txs = (Get (record { 0 = 0 }) ∷ []) ∷ [] } ∷ [];
  schedule = [];
  drain = false;
}

-- it begins, reads, and its request is given
unfoldable pub asked_once : List Event
asked_once = Client (record { 0 = 1 }) 0 ∷ (Client (record { 0 = 1 }) 0 ∷ (Deliver 1 ∷ []))

unfoldable pub asked_twice : List Event
asked_twice = Client (record { 0 = 1 }) 0 ∷ (Client (record { 0 = 1 }) 0 ∷ (Deliver 1 ∷ (Deliver 1 ∷ [])))

pub left_once : left one_read (run one_read asked_once) ≡ 2
unfolding one_read asked_once left happens step rule after_rule client_rule read_req begun marked requested replied read_now read_turn serve_turn half_turn turn dep_turn
left_once = refl

pub left_twice : left one_read (run one_read asked_twice) ≡ 3
unfolding one_read asked_twice left happens step rule after_rule client_rule read_req begun marked requested replied read_now read_turn serve_turn half_turn turn dep_turn
left_twice = refl
