-- What a step of a node came to, as its log and its links say.
use Rattle.str_model.proofs.ListFacts.{some_map}
use Rattle.std.proofs.Common.{◌≡◌, ◌≢◌, ◌≤◌, ◌++◌, ◌∷◌, ◌∙◌, ℕ, Bool, true, false, List, [], None, Option, Some, ap, arith, is_some, length, not, refl, subst, sym}
use Rattle.lamport_log.specs.Logs.{Item}
use Rattle.lamport_log.specs.Replays.{Came, came}
use Rattle.lamport_log.specs.declared.logs.LogEntry.{LogEntry}
use Rattle.lamport_log.specs.declared.logs.LogInput.{LogInput}
use Rattle.node_core.specs.Working.{NodeState, Stepped, here_of}
use Rattle.node_parts.specs.Sending.{OutState}
use Rattle.race_round.proofs.Letters.{rested_sent}
use Rattle.race_round.specs.Nodes.{HasRoom, Roomed, seat_of}
use Rattle.race_round.specs.Seats.{IsSeat, Seat, here_at}
use Rattle.race_round.specs.Stretches.{Made, SentAll, Tried}
use Rattle.race_round.specs.Stretches.Tried.{was_made, was_wrong}
use Rattle.race_round.specs.declared.nodes.RaceNode.{RaceNode}
use Rattle.ring_links.specs.Ends.{Ends}
use Rattle.str_base.specs.Members.{In}
use Rattle.str_base.specs.declared.names.NodeId.{NodeId}
use Rattle.str_base.specs.declared.names.SessionId.{SessionId}
use Rattle.str_model.specs.Clients.{client_rule}
use Rattle.str_model.specs.Drains.{view_moves}
use Rattle.str_model.specs.Steps.{after_rule, count_of, need, rule, step}
use Rattle.str_model.specs.Views.{Doing, View, starts}
use Rattle.str_model.specs.declared.messages.Answer.{Answer}
use Rattle.str_model.specs.declared.messages.Input.{Input}
use Rattle.str_model.specs.declared.messages.Input.TheVariants.{Client}
use Rattle.str_model.specs.declared.messages.Message.{Message}
use Rattle.str_scene.specs.Scenes.{Here}

-- what came of a step, with what stands in the outbox
pub record CameTo (c : Came) (moves : Bool) (view : View) (messages : List Message) (answers : List Answer) : Type 0 where
  pub idle_ : not moves ≡ c.idle
  pub view_ : view ≡ c.view
  pub sent_ : messages ≡ c.sent
  pub released_ : answers ≡ c.released

-- a step with an empty outbox
pub came_to : (o : Option Doing) (moves : Bool) (old new : NodeState) (before after : OutState) → Stepped o moves old new before after → before.messages ≡ [] → before.answers ≡ []
    → CameTo (came old.view o) moves new.view after.messages after.answers
came_to None moves old new before after h m a =
    record {
      idle_ = ap not h.0;
      view_ = ap (λ (n : NodeState). n.view) h.1;
      sent_ = ap (λ (n : OutState). n.messages) h.2 ∙ m;
      released_ = ap (λ (n : OutState). n.answers) h.2 ∙ a;
    }
came_to (Some d) moves old new before after h m a =
    record {
      idle_ = ap not h.0;
      view_ = h.1.view;
      sent_ = h.1.messages ∙ ap (λ (l : List Message). l ++ d.sent) m;
      released_ = h.1.answers ∙ ap (λ (l : List Answer). l ++ d.released) a;
    }

-- the node stays the same one
pub stepped_same : (o : Option Doing) (moves : Bool) (old new : NodeState) (before after : OutState) → Stepped o moves old new before after → (new.scene ≡ old.scene) × (new.id ≡ old.id)
stepped_same None moves old new before after h = (ap (λ (n : NodeState). n.scene) h.1, ap (λ (n : NodeState). n.id) h.1)
stepped_same (Some d) moves old new before after h = (h.1.scene, h.1.id)

-- what a step sends and releases is within its need
few_came : (o : Option Doing) (v : View) → (length (came v o).sent ≤ count_of o) × (length (came v o).released ≤ count_of o)
few_came None v = (omega arith, omega arith)
few_came (Some d) v = (omega arith, omega arith)

pub within_need : (here : Here) (input : Input) (v : View) → (length (came v (step here input v)).sent ≤ need here input v) × (length (came v (step here input v)).released ≤ need here input v)
unfolding need
within_need here input v = few_came (step here input v) v

-- ---- a step that was entered

-- the item of a step
abbrev pub item_of : Seat → LogInput → ℕ → Bool → List Message → List Answer → Item
item_of n logged stamp moves messages answers =
    record {
      node = n.id;
      entry = record { stamp = stamp; input = logged; idle = not moves; sent = length messages; answers = length answers };
      sent = messages;
      released = answers;
    }

pub step_made : (n m : Seat) (input : Input) (logged : LogInput) (stamp : ℕ) (moves : Bool) (messages : List Message) (answers : List Answer) → m.scene ≡ n.scene → m.id ≡ n.id
    → CameTo (came n.view (step (here_at n) input n.view)) moves m.view messages answers → m.log.node ≡ n.log.node
    → m.log.entries ≡ n.log.entries ++ (item_of n logged stamp moves messages answers).entry ∷ [] → m.log.messages ≡ n.log.messages ++ messages → m.log.released ≡ n.log.released ++ answers
    → m.stamp ≡ stamp → SentAll n.ends m.ends messages (length n.log.messages) stamp → Made n m input logged stamp (item_of n logged stamp moves messages answers)
step_made n m input logged stamp moves messages answers scene_ id_ c node_ entries_ messages_ answers_ last out =
    record {
      scene_ = scene_;
      id_ = id_;
      node_ = refl;
      input_ = refl;
      stamp_ = refl;
      idle_ = c.idle_;
      sent_ = c.sent_;
      released_ = c.released_;
      view_ = c.view_;
      count_ = refl;
      answers_ = refl;
      log_ = node_;
      entries = entries_;
      messages = messages_;
      answers = answers_;
      last = last;
      out = out;
    }

-- a step that was entered, after room was made, and whose messages were all for other nodes or not
pub tried_made : (n m : Seat) (e : Ends) (input : Input) (logged : LogInput) (stamp : ℕ) (moves : Bool) (messages : List Message) (answers : List Answer) (away : Bool)
    → Made n m input logged stamp (item_of n logged stamp moves messages answers) → IsSeat n → e.node ≡ n.ends.node → (away ≡ true → (x : Message) → In x messages → x.receiver.0 ≢ e.node) → (away ≡ false → m.wanting ≡ true)
    → Tried n m input logged stamp away
tried_made n m e input logged stamp moves messages answers true made seat same other wants =
    was_made (item_of n logged stamp moves messages answers) made (λ x h q. other refl x h (ap (λ (y : NodeId). y.0) q ∙ (sym seat.ends_ ∙ sym same)))
tried_made n m e input logged stamp moves messages answers false made seat same other wants = was_wrong (item_of n logged stamp moves messages answers) made (wants refl)

-- ---- client steps

-- a session can move at a view where its client step at any reading isn't idle
pub moves_step : (here : Here) (s : SessionId) (v : View) → is_some (step here (Client s 0) v) ≡ view_moves here s (Some v)
unfolding step rule
moves_step here s v = some_map (after_rule here) (client_rule here s 0 (starts v))

pub came_moves : (v : View) (o : Option Doing) → is_some o ≡ true → (came v o).idle ≡ false
came_moves v None e = absurd (let q : false ≡ true = e in cc)
came_moves v (Some d) e = refl

-- ---- as the code has it

pub stepped_few : (n : NodeState) (input : Input) (moves : Bool) (new : NodeState) (before after : OutState) (room : ℕ) → Stepped (step (here_of n) input n.view) moves n new before after → before.messages ≡ [] → before.answers ≡ []
    → need (here_of n) input n.view ≤ room → (length after.messages ≤ room) × (length after.answers ≤ room)
stepped_few n input moves new before after room h m a less =
    let c = came_to (step (here_of n) input n.view) moves n new before after h m a in
    let w = within_need (here_of n) input n.view in
    let sent = ap (λ (l : List Message). length l) c.sent_ in
    let released = ap (λ (l : List Answer). length l) c.released_ in
    (omega (arith, sent, w.0, less), omega (arith, released, w.1, less))

module _ {C G : Type 0} (n k : RaceNode C G) (m : Seat) (input : Input) (logged : LogInput) (stamp before : ℕ) (moves : Bool) (messages : List Message) (answers : List Answer) (new : NodeState) (after : OutState)
    (seat : IsSeat (seat_of n)) (roomed : Roomed n k) (room : HasRoom input k) (stepped : Stepped (step (here_of k.node) input k.node.view) moves k.node new k.out after)
    (is_messages : messages ≡ after.messages) (is_answers : answers ≡ after.answers) (scene_ : m.scene ≡ new.scene) (id_ : m.id ≡ new.id) (view_ : m.view ≡ new.view) (node_ : m.log.node ≡ k.log.node)
    (entries_ : m.log.entries ≡ k.log.entries ++ record { stamp = stamp; input = logged; idle = not moves; sent = length messages; answers = length answers } ∷ [])
    (messages_ : m.log.messages ≡ k.log.messages ++ messages) (answers_ : m.log.released ≡ k.log.released ++ answers) (last : m.stamp ≡ stamp)
    (count : before ≡ length k.log.messages) (out : SentAll k.ends m.ends messages before stamp) where
  came_at : CameTo (came n.node.view (step (here_at (seat_of n)) input n.node.view)) moves m.view messages answers
  came_at =
      let c = came_to (step (here_of k.node) input k.node.view) moves k.node new k.out after stepped room.messages room.answers in
      let here : here_of k.node ≡ here_at (seat_of n) = (λ j. record { scene = roomed.scene_ j; node = roomed.id_ j }) in
      let d : CameTo (came k.node.view (step (here_of k.node) input k.node.view)) moves m.view messages answers =
      record { idle_ = c.idle_; view_ = view_ ∙ c.view_; sent_ = is_messages ∙ c.sent_; released_ = is_answers ∙ c.released_ } in
      subst (λ (v : View). CameTo (came v (step (here_at (seat_of n)) input v)) moves m.view messages answers) roomed.view_
      (subst (λ (x : Here). CameTo (came k.node.view (step x input k.node.view)) moves m.view messages answers) here d)

  made_at : Made (seat_of n) m input logged stamp (item_of (seat_of n) logged stamp moves messages answers)
  made_at =
      let same = stepped_same (step (here_of k.node) input k.node.view) moves k.node new k.out after stepped in
      let sent : SentAll k.ends m.ends messages (length n.log.messages) stamp =
      subst (λ (x : ℕ). SentAll k.ends m.ends messages x stamp) (count ∙ ap (λ (l : List Message). length l) roomed.log_.messages) out in
      step_made (seat_of n) m input logged stamp moves messages answers (scene_ ∙ (same.0 ∙ roomed.scene_)) (id_ ∙ (same.1 ∙ roomed.id_)) came_at (node_ ∙ roomed.log_.node)
      (entries_ ∙ ap (λ (l : List LogEntry). l ++ (item_of (seat_of n) logged stamp moves messages answers).entry ∷ []) roomed.log_.entries)
      (messages_ ∙ ap (λ (l : List Message). l ++ messages) roomed.log_.messages) (answers_ ∙ ap (λ (l : List Answer). l ++ answers) roomed.log_.released) last
      (rested_sent n.ends k.ends m.ends messages (length n.log.messages) stamp roomed.rested sent)

  pub step_tried : (away : Bool) → (away ≡ true → (x : Message) → In x messages → x.receiver.0 ≢ k.ends.node) → (away ≡ false → m.wanting ≡ true) → Tried (seat_of n) m input logged stamp away
  step_tried away other wants = tried_made (seat_of n) m k.ends input logged stamp moves messages answers away made_at seat roomed.rested.moved.node_ other wants
