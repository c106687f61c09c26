-- What the sessions of a node do in a turn, one after another.
use Rattle.std.proofs.lemmas.Bool.{not-false, true≢false}
use Rattle.std.proofs.Common.{◌≡◌, ◌≢◌, ◌≤◌, ◌<◌, ◌+◌, ◌++◌, ◌∷◌, ◌∙◌, ◌^◌, ℕ, Bool, true, false, List, [], None, Option, Some, ap, append-nil, append_assoc, arith, drop, inl, inr, is_some, length, length-append, map, not, refl, subst, sym}
use Rattle.str_model.proofs.ListFacts.{range_more}
use Rattle.lamport_log.specs.Logs.{Item, Log}
use Rattle.lamport_log.specs.Rounds.{SessionsMove}
use Rattle.lamport_log.specs.declared.logs.LogEntry.{LogEntry}
use Rattle.lamport_log.specs.declared.logs.LogInput.{LogInput}
use Rattle.lamport_log.specs.declared.logs.LogInput.TheVariants.{Client as ClientInput}
use Rattle.race_round.proofs.LinkMoves.{ends_stay, no_moves, taken_in_on, then_moves}
use Rattle.race_round.proofs.Sequences.{drop_front}
use Rattle.race_round.proofs.StepsMade.{came_moves, moves_step}
use Rattle.race_round.proofs.Stretching.{one_step, stopped_on, stretch_on, unmade_still}
use Rattle.race_round.proofs.Takings.{none_yet}
use Rattle.race_round.specs.Nodes.{BrokenOff, Moved}
use Rattle.race_round.specs.Seats.{IsSeat, Seat, here_at}
use Rattle.race_round.specs.Stretches.{Made, Stretch, Tried, entries_in}
use Rattle.race_round.specs.Stretches.Tried.{was_made, was_unmade, was_wrong}
use Rattle.race_round.specs.Turns.{Gave, first_sessions, reading_of, readings_since}
use Rattle.ring_links.specs.Flows.{Move}
use Rattle.std.proofs.lemmas.List.{length-map, map-append}
use Rattle.std.proofs.lemmas.List.FromFn.{length-range_with_len}
use Rattle.std.proofs.lemmas.List.Elements.{filter_map-append}
use Rattle.std.specs.List.{cons_option, filter_map, range_with_len}
use Rattle.str_base.specs.declared.names.SessionId.{SessionId}
use Rattle.str_model.specs.Drains.{view_moves}
use Rattle.str_model.specs.Steps.{step}
use Rattle.str_model.specs.Views.{View}
use Rattle.str_model.specs.declared.messages.Input.TheVariants.{Client}
use Rattle.str_model.specs.declared.messages.Message.{Message}
use Rattle.str_outer.specs.Clocks.{Gives}
use Rattle.str_scene.specs.Scenes.{Here}
use Rattle.str_base.specs.Members.{In}

-- ---- readings

-- the readings of these entries
abbrev pub readings_in : List LogEntry → List ℕ
readings_in es = filter_map (λ (e : LogEntry). reading_of e.input) es

-- what joined a log
pub since_grown : (old new : Log) (es : List LogEntry) → new.entries ≡ old.entries ++ es → readings_since old new ≡ readings_in es
since_grown old new es e =
    ap (λ (l : List LogEntry). readings_in (drop (length old.entries) l)) e
    ∙ ap readings_in (drop_front (length old.entries) old.entries es refl)

pub readings_append : (es fs : List LogEntry) → readings_in (es ++ fs) ≡ readings_in es ++ readings_in fs
readings_append es fs = filter_map-append (λ (e : LogEntry). reading_of e.input) es fs

pub gave_one : (a b : Option (List ℕ)) (x : ℕ) → Gives a b x → Gave a b (x ∷ [])
gave_one a None x h = tt
gave_one None (Some l) x h = absurd h
gave_one (Some k) (Some l) x h = h

pub gave_none : (a : Option (List ℕ)) → Gave a a []
gave_none None = tt
gave_none (Some l) = sym (append-nil l)

pub gave_on : (a b c : Option (List ℕ)) (xs ys : List ℕ) → Gave a b xs → Gave b c ys → Gave a c (xs ++ ys)
gave_on a b None xs ys h g = tt
gave_on a None (Some l) xs ys h g = absurd g
gave_on None (Some k) (Some l) xs ys h g = absurd h
gave_on (Some j) (Some k) (Some l) xs ys h g = g ∙ (ap (λ z. z ++ ys) h ∙ append_assoc j xs ys)

-- ---- one session

pub not_true : (b : Bool) → true ≡ not b → b ≡ false
not_true false e = refl
not_true true e = absurd (true≢false e)

-- a session whose client step is idle
pub stays_idle : (n : Seat) (s : SessionId) → IsSeat n → ((t : ℕ) → true ≡ not (is_some (step (here_at n) (Client s t) n.view))) → Moved (s ∷ []) n n
stays_idle n s seat idle =
    let still : view_moves (here_at n) s (Some n.view) ≡ false = sym (moves_step (here_at n) s n.view) ∙ not_true (is_some (step (here_at n) (Client s 0) n.view)) (idle 0) in
    record {
      its = [];
      moves = no_moves;
      stretch = none_yet n seat;
      few = omega arith;
      nothing = λ k. refl;
      follows = λ more rest h. inl (still, h);
    }

weakened : (a b : Seat) (ms : ℕ → List Move) → Stretch true a b [] ms → Stretch false a b [] ms
weakened a b ms h =
    record {
      scene_ = h.scene_;
      id_ = h.id_;
      seat = h.seat;
      entries = h.entries;
      messages = h.messages;
      answers = h.answers;
      moved = h.moved;
      last = h.last;
      made = h.made;
      steps = h.steps;
      stamps = h.stamps;
      took = λ k o. ([], sym (h.took k o));
      sent = h.sent;
      parcels = h.parcels;
      away = λ w. absurd (true≢false (sym w));
    }

-- what a tried client step leads to
abbrev pub ClientTried : Bool → SessionId → ℕ → Seat → Seat → Type 0
ClientTried true s t n m = Moved (s ∷ []) n m × (readings_since n.log m.log ≡ t ∷ [])
ClientTried false s t n m = BrokenOff 1 n m

module _ (n : Seat) (s : SessionId) (t : ℕ) (seat : IsSeat n) (can : (r : ℕ) → false ≡ not (is_some (step (here_at n) (Client s r) n.view))) where
  moves_at : (r : ℕ) → is_some (step (here_at n) (Client s r) n.view) ≡ true
  moves_at r = not-false (is_some (step (here_at n) (Client s r) n.view)) (sym (can r))

  client_step : (w : Bool) (m : Seat) (it : Item) → (made : Made n m (Client s t) (ClientInput s t) (n.stamp + 1) it) → (w ≡ true → (x : Message) → In x it.sent → x.receiver ≢ n.id)
      → Stretch w n m (it ∷ []) (then_moves no_moves made.out.moves)
  client_step w m it made away =
      one_step w n m n.ends no_moves (Client s t) (ClientInput s t) (n.stamp + 1) it seat (ends_stay n.ends) (λ k. refl) made (λ logs known. (refl, refl))
      (came_moves n.view (step (here_at n) (Client s t) n.view) (moves_at t)) tt (λ k o. refl) away

  pub client_tried : (b : Bool) (m : Seat) → Tried n m (Client s t) (ClientInput s t) (n.stamp + 1) b → ClientTried b s t n m
  client_tried true m (was_made it made away) = (
    record {
      its = it ∷ [];
      moves = then_moves no_moves made.out.moves;
      stretch = client_step true m it made (λ w. away);
      few = omega arith;
      nothing = λ k. made.out.taken k;
      follows = λ more rest h. inr (
        sym (moves_step (here_at n) s n.view) ∙ moves_at 0,
        it,
        rest,
        t,
        refl,
        made.input_,
        subst (λ (v : View). SessionsMove (here_at n) v more rest) made.view_ h,
      );
    },
    since_grown n.log m.log (it.entry ∷ []) made.entries ∙ ap (λ (x : LogInput). cons_option (reading_of x) []) made.input_,
  )
  client_tried false m (was_wrong it made wants) =
      record {
        its = it ∷ [];
        moves = then_moves no_moves made.out.moves;
        stretch = client_step false m it made (λ w. absurd (true≢false (sym w)));
        few = omega arith;
        stopped = inl wants;
      }
  client_tried false m (was_unmade u wants) =
      let q = unmade_still n m seat u in
      record {
        its = [];
        moves = q.0;
        stretch = weakened n m q.0 q.1;
        few = omega arith;
        stopped = inl wants;
      }

pub client_true : (n : Seat) (s : SessionId) (t : ℕ) → IsSeat n → ((r : ℕ) → false ≡ not (is_some (step (here_at n) (Client s r) n.view))) → (b : Bool) (m : Seat) → Tried n m (Client s t) (ClientInput s t) (n.stamp + 1) b → b ≡ true
    → Moved (s ∷ []) n m × (readings_since n.log m.log ≡ t ∷ [])
client_true n s t seat can true m h e = client_tried n s t seat can true m h
client_true n s t seat can false m h e = absurd (true≢false (sym e))

pub client_false : (n : Seat) (s : SessionId) (t : ℕ) → IsSeat n → ((r : ℕ) → false ≡ not (is_some (step (here_at n) (Client s r) n.view))) → (b : Bool) (m : Seat) → Tried n m (Client s t) (ClientInput s t) (n.stamp + 1) b → b ≡ false
    → BrokenOff 1 n m
client_false n s t seat can true m h e = absurd (true≢false e)
client_false n s t seat can false m h e = client_tried n s t seat can false m h

-- the stamp was the last one
pub client_late : (n : Seat) → IsSeat n → 2 ^ 62 ≤ n.stamp → BrokenOff 1 n n
client_late n seat late = record { its = []; moves = no_moves; stretch = weakened n n no_moves (none_yet n seat); few = omega arith; stopped = inr (inl late) }

-- ---- several sessions

pub moved_on : (ss ts : List SessionId) (n m o : Seat) → Moved ss n m → Moved ts m o → Moved (ss ++ ts) n o
moved_on ss ts n m o a b =
    let at : here_at m ≡ here_at n = (λ j. record { scene = a.stretch.scene_ j; node = a.stretch.id_ j }) in
    record {
      its = a.its ++ b.its;
      moves = then_moves a.moves b.moves;
      stretch = stretch_on true n m o a.its b.its a.moves b.moves a.stretch b.stretch;
      few = (let l = length-append a.its b.its in let k = length-append ss ts in let f = a.few in let g = b.few in omega (arith, l, k, f, g));
      nothing = λ k. taken_in_on (a.moves k) (b.moves k) ∙ (λ j. a.nothing k j ++ b.nothing k j);
      follows = λ more rest h.
          subst (λ (l : List SessionId). SessionsMove (here_at n) n.view l ((a.its ++ b.its) ++ rest)) (sym (append_assoc ss ts more))
          (subst (λ (l : List Item). SessionsMove (here_at n) n.view (ss ++ (ts ++ more)) l) (sym (append_assoc a.its b.its rest))
          (a.follows (ts ++ more) (b.its ++ rest)
          (subst (λ (x : Here). SessionsMove x m.view (ts ++ more) (b.its ++ rest)) at
          (b.follows more rest (subst (λ (x : Here). SessionsMove x o.view more rest) (sym at) h)))));
    }

pub none_moved : (n : Seat) → IsSeat n → Moved [] n n
none_moved n seat = record { its = []; moves = no_moves; stretch = none_yet n seat; few = omega arith; nothing = λ k. refl; follows = λ more rest h. h }

pub readings_on : (n m o : Seat) (a b : List Item) (v w : Bool) (ms ns : ℕ → List Move) → Stretch v n m a ms → Stretch w m o b ns → readings_since n.log o.log ≡ readings_since n.log m.log ++ readings_since m.log o.log
readings_on n m o a b v w ms ns f g =
    let all : o.log.entries ≡ n.log.entries ++ (entries_in a ++ entries_in b) =
    g.entries ∙ (ap (λ (l : List LogEntry). l ++ entries_in b) f.entries ∙ append_assoc n.log.entries (entries_in a) (entries_in b)) in
    since_grown n.log o.log (entries_in a ++ entries_in b) all
    ∙ (filter_map-append (λ (e : LogEntry). reading_of e.input) (entries_in a) (entries_in b)
    ∙ sym (λ j. since_grown n.log m.log (entries_in a) f.entries j ++ since_grown m.log o.log (entries_in b) g.entries j))

-- the session with a number
abbrev pub session_of : ℕ → SessionId
session_of k = record { 0 = k }

-- the first sessions moved, with the readings that the clock gave
pub record MovesSo (k : ℕ) (old new : Option (List ℕ)) (n m : Seat) : Type 0 where
  pub moved : Moved (first_sessions k) n m
  pub gave : Gave old new (readings_since n.log m.log)

pub moves_first : (old : Option (List ℕ)) (n : Seat) → IsSeat n → MovesSo 0 old old n n
moves_first old n seat =
    record {
      moved = none_moved n seat;
      gave = subst (λ (l : List ℕ). Gave old old l) (sym (since_grown n.log n.log [] (sym (append-nil n.log.entries)))) (gave_none old);
    }

pub moves_next : (k : ℕ) (old mid new : Option (List ℕ)) (n m o : Seat) → MovesSo k old mid n m → Moved (record { 0 = k + 1 } ∷ []) m o → Gave mid new (readings_since m.log o.log) → MovesSo (k + 1) old new n o
moves_next k old mid new n m o a b g =
    let up : 1 + k ≡ k + 1 = omega arith in
    let more : first_sessions (k + 1) ≡ first_sessions k ++ record { 0 = k + 1 } ∷ [] =
    ap (λ (l : List ℕ). map (λ (s : ℕ). session_of s) l) (range_more 1 k ∙ ap (λ (x : ℕ). range_with_len 1 k ++ x ∷ []) up)
    ∙ map-append (λ (s : ℕ). session_of s) (range_with_len 1 k) ((k + 1) ∷ []) in
    record {
      moved = subst (λ (l : List SessionId). Moved l n o) (sym more) (moved_on (first_sessions k) (record { 0 = k + 1 } ∷ []) n m o a.moved b);
      gave =
          subst (λ (l : List ℕ). Gave old new l) (sym (readings_on n m o a.moved.its b.its true true a.moved.moves b.moves a.moved.stretch b.stretch))
          (gave_on old mid new (readings_since n.log m.log) (readings_since m.log o.log) a.gave g);
    }

pub moves_broken : (k sessions : ℕ) (n m o : Seat) (old mid : Option (List ℕ)) → k < sessions → MovesSo k old mid n m → BrokenOff 1 m o → BrokenOff sessions n o
moves_broken k sessions n m o old mid less a b =
    record {
      its = a.moved.its ++ b.its;
      moves = then_moves a.moved.moves b.moves;
      stretch = stretch_on false n m o a.moved.its b.its a.moved.moves b.moves a.moved.stretch b.stretch;
      few = (let l = length-append a.moved.its b.its in let f = a.moved.few in let g = b.few in let c = length-map (range_with_len 1 k) (λ (s : ℕ). session_of s) in let r = length-range_with_len 1 k in omega (arith, l, f, g, c, r, less));
      stopped = stopped_on o n.ends m.ends a.moved.moves b.moves a.moved.stretch.moved b.stopped;
    }
