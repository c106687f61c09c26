-- Two nodes that exchange a read request and its reply: their logs can be merged, and what they merge into.
use Rattle.std.proofs.Common.{List, None, Some, [], ap, arith, false, refl, subst, suc, zero, ℕ, ◌∷◌, ◌≡◌, ◌≢◌}
use Rattle.std.specs.Prelude.{codes}
use Rattle.lamport_log.specs.Closed.{Begins, Closed, IsOfOther, Stamped, sent_to, taken_from}
use Rattle.lamport_log.specs.Logs.{Log}
use Rattle.lamport_log.specs.Merge.{events_of, merge_of}
use Rattle.lamport_log.specs.Merging.{CanMerge}
use Rattle.lamport_log.specs.Replays.{Replays, came}
use Rattle.lamport_log.specs.declared.logs.LogEntry.{LogEntry}
use Rattle.lamport_log.specs.declared.logs.LogInput.TheVariants.{Client as ClientEntry, Taken}
use Rattle.str_base.specs.declared.names.NodeId.{NodeId}
use Rattle.str_base.specs.declared.names.TxId.{TxId}
use Rattle.str_base.specs.declared.names.Value.TheVariants.{Absent}
use Rattle.str_model.proofs.Worked.Words.{c, d, everything, get, key, node, session, words}
use Rattle.str_model.specs.Runs.{opening_view}
use Rattle.str_model.specs.Steps.{step}
use Rattle.str_model.specs.Views.{View}
use Rattle.str_model.specs.declared.messages.Answer.{Answer}
use Rattle.str_model.specs.declared.messages.Body.TheVariants.{ReadReply, ReadReq}
use Rattle.str_model.specs.declared.messages.Input.{Input}
use Rattle.str_model.specs.declared.messages.Input.TheVariants.{Client, Deliver}
use Rattle.str_model.specs.declared.messages.Message.{Message}
use Rattle.str_model.specs.declared.messages.Outcome.TheVariants.{Committed}
use Rattle.str_scene.specs.Scenes.{Here, Scene, nth}

unfoldable pub scene : Scene
unfolding words
scene =
    record {
      version = 1;
      nodes = 2;
      parts = (node 2 ∷ []) ∷ [];
      keys = record { names = key (codes "a") 1 ∷ []; texts = [] };
      sessions = session 1 ((get 0 ∷ []) ∷ []) ∷ [];
      schedule = [];
      drain = false;
    }

abbrev pub reader : TxId
reader = record { node = record { 0 = 1 }; seq = 1 }

abbrev pub request : Message
request = record { sender = record { 0 = 1 }; receiver = record { 0 = 2 }; body = ReadReq reader (record { 0 = 0 }) (record { 0 = 10 }) }

abbrev pub reply : Message
reply = record { sender = record { 0 = 2 }; receiver = record { 0 = 1 }; body = ReadReply reader (record { 0 = 0 }) Absent None (record { 0 = 0 }) }

abbrev pub answer : Answer
answer =
    record {
      tx = reader;
      place = record { session = record { 0 = 1 }; index = 1 };
      rs = record { 0 = 10 };
      outcome = Committed None (record { key = record { 0 = 0 }; value = Absent } ∷ []);
    }

abbrev pub first : Log
first =
    record {
      node = record { 0 = 1 };
      entries =
          record { stamp = 1; input = ClientEntry (record { 0 = 1 }) 10; idle = false; sent = 0; answers = 0 } ∷
          record { stamp = 2; input = ClientEntry (record { 0 = 1 }) 0; idle = false; sent = 1; answers = 0 } ∷
          record { stamp = 4; input = Taken (record { 0 = 2 }) 1; idle = false; sent = 0; answers = 0 } ∷
          record { stamp = 5; input = ClientEntry (record { 0 = 1 }) 0; idle = false; sent = 0; answers = 1 } ∷ [];
      messages = request ∷ [];
      released = answer ∷ [];
      space = 0;
    }

abbrev pub second : Log
second =
    record {
      node = record { 0 = 2 };
      entries = record { stamp = 3; input = Taken (record { 0 = 1 }) 1; idle = false; sent = 1; answers = 0 } ∷ [];
      messages = reply ∷ [];
      released = [];
      space = 0;
    }

abbrev pub logs : List Log
logs = first ∷ second ∷ []

abbrev pub at : ℕ → Here
at n = record { scene = scene; node = record { 0 = n } }

-- the view after an input
abbrev pub then_ : ℕ → Input → View → View
then_ n input v = (came v (step (at n) input v)).view

abbrev first_view : View
first_view =
    then_ 1 (Client (record { 0 = 1 }) 0) (then_ 1 (Deliver reply) (then_ 1 (Client (record { 0 = 1 }) 0) (then_ 1 (Client (record { 0 = 1 }) 10) (opening_view scene))))

abbrev second_view : View
second_view = then_ 2 (Deliver request) (opening_view scene)

first_replays : Replays scene logs first first_view
unfolding everything scene
first_replays =
    record {
      steps = (
        Client (record { 0 = 1 }) 10,
        refl,
        record { idle = refl; moved = refl; sent = refl; count = refl; released = refl; answers = refl },
        (
          Client (record { 0 = 1 }) 0,
          refl,
          record { idle = refl; moved = refl; sent = refl; count = refl; released = refl; answers = refl },
          (
            Deliver reply,
            refl,
            record { idle = refl; moved = tt; sent = refl; count = refl; released = refl; answers = refl },
            (Client (record { 0 = 1 }) 0, refl, record { idle = refl; moved = refl; sent = refl; count = refl; released = refl; answers = refl }, refl),
          ),
        ),
      );
      messages = refl;
      released = refl;
    }

second_replays : Replays scene logs second second_view
unfolding everything scene
second_replays =
    record {
      steps = (Deliver request, refl, record { idle = refl; moved = tt; sent = refl; count = refl; released = refl; answers = refl }, refl);
      messages = refl;
      released = refl;
    }

-- a fact of each log
pub both : (P : NodeId → Log → Type 0) → P (record { 0 = 1 }) first → P (record { 0 = 2 }) second → (n : NodeId) (log : Log) → nth logs n.0 ≡ Some log → P n log
both P a b n log q = by_place n.0 log q
  where
    by_place : (k : ℕ) (log : Log) → nth logs k ≡ Some log → P (record { 0 = k }) log
    by_place zero log q = absurd cc
    by_place (suc zero) log q = let p : first ≡ log = cc in subst (λ l. P (record { 0 = 1 }) l) p a
    by_place (suc (suc zero)) log q = let p : second ≡ log = cc in subst (λ l. P (record { 0 = 2 }) l) p b
    by_place (suc (suc (suc k))) log q = absurd cc

-- each takes from another node
abbrev Others : NodeId → List LogEntry → Type 0
Others n [] = Unit {0}
Others n (e ∷ es) = IsOfOther n e.input × Others n es

other_at : (n : NodeId) (es : List LogEntry) → Others n es → (i : ℕ) (e : LogEntry) → nth es i ≡ Some e → IsOfOther n e.input
other_at n [] h zero e q = absurd cc
other_at n [] h (suc i) e q = absurd cc
other_at n (x ∷ es) h zero e q = absurd cc
other_at n (x ∷ es) h (suc zero) e q = let p : x ≡ e = cc in subst (λ (z : LogEntry). IsOfOther n z.input) p h.0
other_at n (x ∷ es) h (suc (suc i)) e q = other_at n es h.1 (suc i) e q

apart : (m n : NodeId) → m.0 ≢ n.0 → m ≢ n
apart m n h q = h (ap (λ (z : NodeId). z.0) q)

first_others : Others (record { 0 = 1 }) first.entries
first_others = (tt, (tt, (apart (record { 0 = 2 }) (record { 0 = 1 }) (λ q. absurd (omega (arith, q))), (tt, tt))))

second_others : Others (record { 0 = 2 }) second.entries
second_others = (apart (record { 0 = 1 }) (record { 0 = 2 }) (λ q. absurd (omega (arith, q))), tt)

closed : Closed logs
closed =
    record {
      others = λ n log i e q. both (λ n l. (i : ℕ) (e : LogEntry) → nth l.entries i ≡ Some e → IsOfOther n e.input)
          (other_at (record { 0 = 1 }) first.entries first_others) (other_at (record { 0 = 2 }) second.entries second_others) n log q i e;
      orders = λ n m log from q r. both (λ n l. (m : NodeId) (from : Log) → nth logs m.0 ≡ Some from → Begins (taken_from m l.entries) (sent_to n 1 from.messages))
          (both (λ m f. Begins (taken_from m first.entries) (sent_to (record { 0 = 1 }) 1 f.messages)) ([], refl) ([], refl))
          (both (λ m f. Begins (taken_from m second.entries) (sent_to (record { 0 = 2 }) 1 f.messages)) ([], refl) ([], refl))
          n log q m from r;
      stamps = both (λ n l. Stamped logs 0 l.entries) (refl, (refl, ((3, refl, refl), (refl, tt)))) ((2, refl, refl), tt);
    }

can_merge : CanMerge scene logs
unfolding scene
can_merge =
    record {
      are = (refl, both (λ n l. l.node ≡ n) refl refl);
      views = first_view ∷ second_view ∷ [];
      replay = (
        refl,
        λ n log view q r. both (λ n l. (view : View) → nth (first_view ∷ second_view ∷ []) n.0 ≡ Some view → Replays scene logs l view)
            (λ view q. let p : first_view ≡ view = cc in subst (λ v. Replays scene logs first v) p first_replays)
            (λ view q. let p : second_view ≡ view = cc in subst (λ v. Replays scene logs second v) p second_replays)
            n log q view r,
      );
      closed = closed;
    }

-- the events of their merge
events : events_of (merge_of logs) ≡ c 1 10 ∷ c 1 0 ∷ d 1 ∷ d 2 ∷ c 1 0 ∷ []
unfolding merge_of everything
events = refl
