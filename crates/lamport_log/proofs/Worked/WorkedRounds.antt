-- The logs of the two nodes are four rounds: a begin, a read, a round of waiting, and the reply with the commit.
use Rattle.std.proofs.Common.{List, Some, [], arith, false, inl, inr, length, min, refl, slice_get, subst, suc, take, zero, ℕ, ◌∷◌, ◌≡◌, ◌≤◌}
use Rattle.lamport_log.proofs.Worked.WorkedLogs.{answer, at, both, first, logs, reply, request, scene, second, then_}
use Rattle.lamport_log.specs.Logs.{Item}
use Rattle.lamport_log.specs.Replays.{Says, came}
use Rattle.lamport_log.specs.Rounds.{AreRounds, IsRound, Piece, Rounds, from_node, is_from, waiting}
use Rattle.lamport_log.specs.declared.logs.LogInput.TheVariants.{Client as ClientEntry, Taken}
use Rattle.str_base.proofs.Lists.{length-filter-le}
use Rattle.str_base.specs.declared.names.NodeId.{NodeId}
use Rattle.str_base.specs.declared.names.SessionId.{SessionId}
use Rattle.str_model.proofs.Worked.Words.{everything}
use Rattle.str_model.specs.Runs.{opening_view}
use Rattle.str_model.specs.Steps.{step}
use Rattle.str_model.specs.Views.{View}
use Rattle.str_model.specs.declared.messages.Input.TheVariants.{Client, Deliver}
use Rattle.str_scene.specs.Scenes.{nth}

abbrev one : NodeId
one = record { 0 = 1 }

abbrev two : NodeId
two = record { 0 = 2 }

abbrev session : SessionId
session = record { 0 = 1 }

-- ---- the entries, and the views between them

abbrev begin : Item
begin = record { node = one; entry = record { stamp = 1; input = ClientEntry session 10; idle = false; sent = 0; answers = 0 }; sent = []; released = [] }

abbrev read : Item
read = record { node = one; entry = record { stamp = 2; input = ClientEntry session 0; idle = false; sent = 1; answers = 0 }; sent = request ∷ []; released = [] }

abbrev take_reply : Item
take_reply = record { node = one; entry = record { stamp = 4; input = Taken two 1; idle = false; sent = 0; answers = 0 }; sent = []; released = [] }

abbrev commit : Item
commit = record { node = one; entry = record { stamp = 5; input = ClientEntry session 0; idle = false; sent = 0; answers = 1 }; sent = []; released = answer ∷ [] }

abbrev take_request : Item
take_request = record { node = two; entry = record { stamp = 3; input = Taken one 1; idle = false; sent = 1; answers = 0 }; sent = reply ∷ []; released = [] }

abbrev opening : View
opening = opening_view scene

abbrev begun : View
begun = then_ 1 (Client session 10) opening

abbrev asked : View
asked = then_ 1 (Client session 0) begun

abbrev replied : View
replied = then_ 1 (Deliver reply) asked

abbrev served : View
served = then_ 2 (Deliver request) opening

begin_says : Says begin (came opening (step (at 1) (Client session 10) opening))
unfolding everything scene
begin_says = record { idle = refl; moved = refl; sent = refl; count = refl; released = refl; answers = refl }

read_says : Says read (came begun (step (at 1) (Client session 0) begun))
unfolding everything scene
read_says = record { idle = refl; moved = refl; sent = refl; count = refl; released = refl; answers = refl }

reply_says : Says take_reply (came asked (step (at 1) (Deliver reply) asked))
unfolding everything scene
reply_says = record { idle = refl; moved = tt; sent = refl; count = refl; released = refl; answers = refl }

request_says : Says take_request (came opening (step (at 2) (Deliver request) opening))
unfolding everything scene
request_says = record { idle = refl; moved = tt; sent = refl; count = refl; released = refl; answers = refl }

-- ---- the pieces

abbrev idle_piece : Piece
idle_piece = record { taken = []; moved = [] }

abbrev first_pieces : List Piece
first_pieces =
    record { taken = []; moved = begin ∷ [] } ∷
    record { taken = []; moved = read ∷ [] } ∷
    idle_piece ∷
    record { taken = take_reply ∷ []; moved = commit ∷ [] } ∷ []

abbrev second_pieces : List Piece
second_pieces = idle_piece ∷ idle_piece ∷ record { taken = take_request ∷ []; moved = [] } ∷ idle_piece ∷ []

abbrev pieces : List (List Piece)
pieces = first_pieces ∷ second_pieces ∷ []

-- a fact of the pieces of each node
each : (P : NodeId → List Piece → Type 0) → P one first_pieces → P two second_pieces → (n : NodeId) (ps : List Piece) → nth pieces n.0 ≡ Some ps → P n ps
each P a b n ps q = by_place n.0 ps q
  where
    by_place : (k : ℕ) (ps : List Piece) → nth pieces k ≡ Some ps → P (record { 0 = k }) ps
    by_place zero ps q = absurd cc
    by_place (suc zero) ps q = let p : first_pieces ≡ ps = cc in subst (λ z. P one z) p a
    by_place (suc (suc zero)) ps q = let p : second_pieces ≡ ps = cc in subst (λ z. P two z) p b
    by_place (suc (suc (suc k))) ps q = absurd cc

-- a fact of each of four pieces
all_four : (P : ℕ → Piece → Type 0) (a b c d : Piece) → P 0 a → P 1 b → P 2 c → P 3 d → (r : ℕ) (p : Piece) → slice_get (a ∷ b ∷ c ∷ d ∷ []) r ≡ Some p → P r p
all_four P a b c d h i j k zero p q = let e : a ≡ p = cc in subst (λ z. P 0 z) e h
all_four P a b c d h i j k (suc zero) p q = let e : b ≡ p = cc in subst (λ z. P 1 z) e i
all_four P a b c d h i j k (suc (suc zero)) p q = let e : c ≡ p = cc in subst (λ z. P 2 z) e j
all_four P a b c d h i j k (suc (suc (suc zero))) p q = let e : d ≡ p = cc in subst (λ z. P 3 z) e k
all_four P a b c d h i j k (suc (suc (suc (suc r)))) p q = absurd cc

none : {a b : ℕ} → a ≡ 0 → a ≤ b
none q = omega (arith, q)

same : {a b : ℕ} → a ≡ b → a ≤ b
same q = omega (arith, q)

at_most_one : (its : List Item) → length its ≤ 1 → (n : NodeId) → length (from_node n its) ≤ 8
at_most_one its h n = let f = length-filter-le (λ (it : Item). is_from n it.entry.input) its in omega (arith, h, f)

enough : (r : ℕ) (here : NodeId) (before : List Piece) (p : Piece)
    → min 8 (waiting here before one (take r first_pieces)) ≤ length (from_node one p.taken)
    → min 8 (waiting here before two (take r second_pieces)) ≤ length (from_node two p.taken)
    → (n : NodeId) (theirs : List Piece) → nth pieces n.0 ≡ Some theirs → min 8 (waiting here before n (take r theirs)) ≤ length (from_node n p.taken)
enough r here before p a b = each (λ n theirs. min 8 (waiting here before n (take r theirs)) ≤ length (from_node n p.taken)) a b

-- ---- the rounds

abbrev Round : NodeId → List Piece → ℕ → Piece → Type 0
Round here ps r p = IsRound scene logs pieces r here (take r ps) p

first_begins : Round one first_pieces 0 (record { taken = []; moved = begin ∷ [] })
unfolding everything scene
first_begins =
    record {
      upwards = refl;
      most = at_most_one [] (none refl);
      least = enough 0 one [] (record { taken = []; moved = begin ∷ [] }) (none refl) (none refl);
      view = opening;
      reached = refl;
      clients = inr (refl, begin, [], 10, refl, refl, refl);
    }

first_reads : Round one first_pieces 1 (record { taken = []; moved = read ∷ [] })
unfolding everything scene
first_reads =
    record {
      upwards = refl;
      most = at_most_one [] (none refl);
      least = enough 1 one (take 1 first_pieces) (record { taken = []; moved = read ∷ [] }) (none refl) (none refl);
      view = begun;
      reached = (Client session 10, refl, begin_says, refl);
      clients = inr (refl, read, [], 0, refl, refl, refl);
    }

first_waits : Round one first_pieces 2 idle_piece
unfolding everything scene
first_waits =
    record {
      upwards = refl;
      most = at_most_one [] (none refl);
      least = enough 2 one (take 2 first_pieces) idle_piece (none refl) (none refl);
      view = asked;
      reached = (Client session 10, refl, begin_says, (Client session 0, refl, read_says, refl));
      clients = inl (refl, refl);
    }

first_commits : Round one first_pieces 3 (record { taken = take_reply ∷ []; moved = commit ∷ [] })
unfolding everything scene
first_commits =
    record {
      upwards = refl;
      most = at_most_one (take_reply ∷ []) (same refl);
      least = enough 3 one (take 3 first_pieces) (record { taken = take_reply ∷ []; moved = commit ∷ [] }) (none refl) (same refl);
      view = replied;
      reached = (Client session 10, refl, begin_says, (Client session 0, refl, read_says, (Deliver reply, refl, reply_says, refl)));
      clients = inr (refl, commit, [], 0, refl, refl, refl);
    }

second_opens : Round two second_pieces 0 idle_piece
unfolding everything scene
second_opens =
    record {
      upwards = refl;
      most = at_most_one [] (none refl);
      least = enough 0 two [] idle_piece (none refl) (none refl);
      view = opening;
      reached = refl;
      clients = inl (refl, refl);
    }

second_pauses : Round two second_pieces 1 idle_piece
unfolding everything scene
second_pauses =
    record {
      upwards = refl;
      most = at_most_one [] (none refl);
      least = enough 1 two (take 1 second_pieces) idle_piece (none refl) (none refl);
      view = opening;
      reached = refl;
      clients = inl (refl, refl);
    }

second_serves : Round two second_pieces 2 (record { taken = take_request ∷ []; moved = [] })
unfolding everything scene
second_serves =
    record {
      upwards = refl;
      most = at_most_one (take_request ∷ []) (same refl);
      least = enough 2 two (take 2 second_pieces) (record { taken = take_request ∷ []; moved = [] }) (same refl) (none refl);
      view = served;
      reached = (Deliver request, refl, request_says, refl);
      clients = inl (refl, refl);
    }

second_ends : Round two second_pieces 3 idle_piece
unfolding everything scene
second_ends =
    record {
      upwards = refl;
      most = at_most_one [] (none refl);
      least = enough 3 two (take 3 second_pieces) idle_piece (none refl) (none refl);
      view = served;
      reached = (Deliver request, refl, request_says, refl);
      clients = inl (refl, refl);
    }

first_rounds : AreRounds scene logs pieces 4 one first first_pieces
first_rounds =
    record {
      count = refl;
      whole = refl;
      rounds = all_four (Round one first_pieces) (record { taken = []; moved = begin ∷ [] }) (record { taken = []; moved = read ∷ [] }) idle_piece
          (record { taken = take_reply ∷ []; moved = commit ∷ [] }) first_begins first_reads first_waits first_commits;
    }

second_rounds : AreRounds scene logs pieces 4 two second second_pieces
second_rounds =
    record {
      count = refl;
      whole = refl;
      rounds = all_four (Round two second_pieces) idle_piece idle_piece (record { taken = take_request ∷ []; moved = [] }) idle_piece
          second_opens second_pauses second_serves second_ends;
    }

four_rounds : Rounds scene logs 4
four_rounds = (
  pieces,
  refl,
  λ here log ps q r. both (λ n l. (ps : List Piece) → nth pieces n.0 ≡ Some ps → AreRounds scene logs pieces 4 n l ps)
      (λ ps q. let p : first_pieces ≡ ps = cc in subst (λ z. AreRounds scene logs pieces 4 one first z) p first_rounds)
      (λ ps q. let p : second_pieces ≡ ps = cc in subst (λ z. AreRounds scene logs pieces 4 two second z) p second_rounds)
      here log q ps r,
)
