-- Logs that grow: what a log says stays as other logs grow, and a step more is an entry more.
use Rattle.std.proofs.Common.{Bool, List, None, Option, Some, [], ap, append-nil, append_assoc, arith, drop, false, if◌then◌else◌, length, nat_le, option_map, option_to_list, refl, slice_get, subst, suc, sym, take, true, zero, ℕ, ◌++◌, ◌+◌, ◌-◌, ◌∙◌, ◌∷◌, ◌≡◌, ◌≤◌}
use Rattle.std.specs.List.{cons_option}
use Rattle.std.proofs.lemmas.List.Concat.{flat_map-append}
use Rattle.lamport_log.specs.Closed.{Begins, IsStamp, Stamped, sent_to, sent_under, stamp_in, taken_from, taken_of}
use Rattle.lamport_log.specs.Logs.{Item, Log, cut, items, message_of, messages_in, answers_in}
use Rattle.lamport_log.specs.Replays.{StepsLead, Replays, Says, came, input_of}
use Rattle.lamport_log.specs.declared.logs.LogEntry.{LogEntry}
use Rattle.lamport_log.specs.declared.logs.LogInput.{LogInput}
use Rattle.lamport_log.specs.declared.logs.LogInput.TheVariants.{Client, Taken}
use Rattle.str_base.specs.Versions.{same_node}
use Rattle.str_base.specs.declared.names.NodeId.{NodeId}
use Rattle.str_model.specs.Runs.{opening_view}
use Rattle.str_model.specs.Steps.{step}
use Rattle.str_model.specs.Views.{View}
use Rattle.str_model.specs.declared.messages.Answer.{Answer}
use Rattle.str_model.specs.declared.messages.Input.{Input}
use Rattle.str_model.specs.declared.messages.Input.TheVariants.{Deliver}
use Rattle.str_model.specs.declared.messages.Message.{Message}
use Rattle.str_scene.specs.Scenes.{Here, Scene, nth}
use Rattle.str_base.proofs.Lists.{length-from_take}

-- ---- what stays

-- a message that was there is there
abbrev pub Keeps : List Log → List Log → Type 0
Keeps logs more = (n : NodeId) (k : ℕ) (m : Message) → message_of logs n k ≡ Some m → message_of more n k ≡ Some m

-- so is the stamp under which it was sent
abbrev pub KeepsStamps : List Log → List Log → Type 0
KeepsStamps logs more = (n : NodeId) (k s : ℕ) → stamp_in (nth logs n.0) k ≡ Some s → stamp_in (nth more n.0) k ≡ Some s

input_stays : (logs more : List Log) → Keeps logs more → (x : LogInput) (input : Input) → input_of logs x ≡ Some input → input_of more x ≡ Some input
input_stays logs more keeps (Client s t) input e = e
input_stays logs more keeps (Taken n k) input e = by_letter (message_of logs n k) refl e
  where
    by_letter : (o : Option Message) → message_of logs n k ≡ o → option_map (λ m. Deliver m) o ≡ Some input → option_map (λ m. Deliver m) (message_of more n k) ≡ Some input
    by_letter None q f = absurd cc
    by_letter (Some m) q f = ap (λ (o : Option Message). option_map (λ m. Deliver m) o) (keeps n k m q) ∙ f

pub steps_stay : (here : Here) (logs more : List Log) → Keeps logs more → (v : View) (its : List Item) (u : View) → StepsLead here logs v its u → StepsLead here more v its u
steps_stay here logs more keeps v [] u h = h
steps_stay here logs more keeps v (it ∷ its) u h =
    (h.0, input_stays logs more keeps it.entry.input h.0 h.1, h.2, steps_stay here logs more keeps (came v (step here h.0 v)).view its u h.3)

pub replays_stay : (scene : Scene) (logs more : List Log) (log : Log) (v : View) → Keeps logs more → Replays scene logs log v → Replays scene more log v
replays_stay scene logs more log v keeps h =
    record { steps = steps_stay (record { scene = scene; node = log.node }) logs more keeps (opening_view scene) (items log) v h.steps; messages = h.messages; released = h.released }

pub stamped_stays : (logs more : List Log) → KeepsStamps logs more → (before : ℕ) (es : List LogEntry) → Stamped logs before es → Stamped more before es
stamped_stays logs more keeps before [] h = tt
stamped_stays logs more keeps before (e ∷ es) h = (by_input e.input h.0, stamped_stays logs more keeps e.stamp es h.1)
  where
    by_input : (x : LogInput) → IsStamp logs before x e.stamp → IsStamp more before x e.stamp
    by_input (Client s t) g = g
    by_input (Taken n k) g = (g.0, keeps n k g.0 g.1, g.2)

pub begins_stay : (xs ys zs : List ℕ) → Begins xs ys → Begins xs (ys ++ zs)
begins_stay xs ys zs h = (h.0 ++ zs, sym (append_assoc xs h.0 zs) ∙ ap (λ l. l ++ zs) h.1)

-- what was sent to a node grows at its end
pub sent_to_more : (n : NodeId) (i : ℕ) (ms more : List Message) → sent_to n i (ms ++ more) ≡ sent_to n i ms ++ sent_to n (i + length ms) more
sent_to_more n i [] more = let e : i + 0 ≡ i = omega arith in rw e refl
sent_to_more n i (m ∷ ms) more =
    let e : i + suc (length ms) ≡ (i + 1) + length ms = omega arith in
    by_node (rw e (sent_to_more n (i + 1) ms more)) (same_node m.receiver n)
  where
    by_node : sent_to n (i + 1) (ms ++ more) ≡ sent_to n (i + 1) ms ++ sent_to n (i + suc (length ms)) more → (b : Bool) → (if b then i ∷ sent_to n (i + 1) (ms ++ more) else sent_to n (i + 1) (ms ++ more))
        ≡ (if b then i ∷ sent_to n (i + 1) ms else sent_to n (i + 1) ms) ++ sent_to n (i + suc (length ms)) more
    by_node rest true = ap (λ l. i ∷ l) rest
    by_node rest false = rest

-- ---- an entry more

-- a log with one entry more, with the messages and answers of its step
abbrev pub grown : Log → LogEntry → List Message → List Answer → Log
grown l e ms rs = record { node = l.node; entries = l.entries ++ e ∷ []; messages = l.messages ++ ms; released = l.released ++ rs; space = l.space }

-- the counts of these entries come to the lists
abbrev pub Exact : List LogEntry → List Message → List Answer → Type 0
Exact [] ms rs = (ms ≡ []) × (rs ≡ [])
Exact (e ∷ es) ms rs = (e.sent ≤ length ms) × (e.answers ≤ length rs) × (Exact es (drop e.sent ms) (drop e.answers rs))

pub take_more : {A : Type 0} (n : ℕ) (xs ys : List A) → n ≤ length xs → take n (xs ++ ys) ≡ take n xs
take_more zero xs ys h = refl
take_more (suc n) [] ys h = absurd (omega arith)
take_more (suc n) (x ∷ xs) ys h = ap (λ l. x ∷ l) (take_more n xs ys (omega arith))

pub drop_more : {A : Type 0} (n : ℕ) (xs ys : List A) → n ≤ length xs → drop n (xs ++ ys) ≡ drop n xs ++ ys
drop_more zero xs ys h = refl
drop_more (suc n) [] ys h = absurd (omega arith)
drop_more (suc n) (x ∷ xs) ys h = drop_more n xs ys (omega arith)

take_whole : {A : Type 0} (n : ℕ) (xs : List A) → n ≡ length xs → take n xs ≡ xs
take_whole zero [] e = refl
take_whole zero (x ∷ xs) e = absurd cc
take_whole (suc n) [] e = absurd cc
take_whole (suc n) (x ∷ xs) e = ap (λ l. x ∷ l) (take_whole n xs cc)

pub cut_more : (n : NodeId) (es : List LogEntry) (ms : List Message) (rs : List Answer) (e : LogEntry) (more : List Message) (answers : List Answer) → Exact es ms rs
    → e.sent ≡ length more → e.answers ≡ length answers
    → cut n (es ++ e ∷ []) (ms ++ more) (rs ++ answers) ≡ cut n es ms rs ++ record { node = n; entry = e; sent = more; released = answers } ∷ []
cut_more n [] ms rs e more answers h p q =
    λ j. record { node = n; entry = e; sent = (ap (λ l. take e.sent (l ++ more)) h.0 ∙ take_whole e.sent more p) j; released = (ap (λ l. take e.answers (l ++ answers)) h.1 ∙ take_whole e.answers answers q) j } ∷ []
cut_more n (x ∷ es) ms rs e more answers h p q =
    (λ j. record { node = n; entry = x; sent = take_more x.sent ms more h.0 j; released = take_more x.answers rs answers h.1 j } ∷ cut n (es ++ e ∷ []) (drop_more x.sent ms more h.0 j) (drop_more x.answers rs answers h.1 j))
    ∙ ap (λ l. record { node = n; entry = x; sent = take x.sent ms; released = take x.answers rs } ∷ l) (cut_more n es (drop x.sent ms) (drop x.answers rs) e more answers h.2 p q)

pub steps_more : (here : Here) (logs : List Log) (v : View) (its : List Item) (u : View) (it : Item) (input : Input) → StepsLead here logs v its u → input_of logs it.entry.input ≡ Some input
    → Says it (came u (step here input u)) → StepsLead here logs v (its ++ it ∷ []) (came u (step here input u)).view
steps_more here logs v [] u it input h e says =
    subst (λ z. StepsLead here logs z (it ∷ []) (came u (step here input u)).view) (sym h) (input, e, says, refl)
steps_more here logs v (x ∷ its) u it input h e says = (h.0, h.1, h.2, steps_more here logs (came v (step here h.0 v)).view its u it input h.3 e says)

pub drop_after : {A : Type 0} (n : ℕ) (xs ys : List A) → n ≤ length xs → take n xs ++ ys ≡ xs → ys ≡ drop n xs
drop_after zero xs ys h e = e
drop_after (suc n) [] ys h e = absurd (omega arith)
drop_after (suc n) (x ∷ xs) ys h e = drop_after n xs ys (omega arith) cc

-- the counts of a log that replays are exact
pub exact_from : (here : Here) (logs : List Log) (v u : View) (n : NodeId) (es : List LogEntry) (ms : List Message) (rs : List Answer) → StepsLead here logs v (cut n es ms rs) u
    → messages_in (cut n es ms rs) ≡ ms → answers_in (cut n es ms rs) ≡ rs → Exact es ms rs
exact_from here logs v u n [] ms rs h p q = (sym p, sym q)
exact_from here logs v u n (e ∷ es) ms rs h p q =
    let sent : e.sent ≤ length ms = length-from_take e.sent ms (h.2.count ∙ ap (λ l. length l) (sym h.2.sent)) in
    let answers : e.answers ≤ length rs = length-from_take e.answers rs (h.2.answers ∙ ap (λ l. length l) (sym h.2.released)) in (
      sent,
      answers,
      exact_from here logs (came v (step here h.0 v)).view u n es (drop e.sent ms) (drop e.answers rs) h.3
          (drop_after e.sent ms (messages_in (cut n es (drop e.sent ms) (drop e.answers rs))) sent p)
          (drop_after e.answers rs (answers_in (cut n es (drop e.sent ms) (drop e.answers rs))) answers q),
    )

pub replays_more : (scene : Scene) (logs : List Log) (log : Log) (v : View) (e : LogEntry) (ms : List Message) (rs : List Answer) (input : Input) → Replays scene logs log v → input_of logs e.input ≡ Some input
    → Says (record { node = log.node; entry = e; sent = ms; released = rs }) (came v (step (record { scene = scene; node = log.node }) input v))
    → Replays scene logs (grown log e ms rs) (came v (step (record { scene = scene; node = log.node }) input v)).view
replays_more scene logs log v e ms rs input h i says =
    record {
      steps = rw more (steps_more here logs (opening_view scene) (items log) v it input h.steps i says);
      messages = rw more (flat_map-append (λ x. x.sent) (items log) (it ∷ []) ∙ (λ j. h.messages j ++ append-nil ms j));
      released = rw more (flat_map-append (λ x. x.released) (items log) (it ∷ []) ∙ (λ j. h.released j ++ append-nil rs j));
    }
  where
    here : Here
    here = record { scene = scene; node = log.node }

    it : Item
    it = record { node = log.node; entry = e; sent = ms; released = rs }

    more : cut log.node (log.entries ++ e ∷ []) (log.messages ++ ms) (log.released ++ rs) ≡ items log ++ it ∷ []
    more =
        cut_more log.node log.entries log.messages log.released e ms rs
        (exact_from here logs (opening_view scene) v log.node log.entries log.messages log.released h.steps h.messages h.released)
        (says.count ∙ ap (λ l. length l) (sym says.sent)) (says.answers ∙ ap (λ l. length l) (sym says.released))

-- ---- closed logs, an entry more

-- the last stamp, where one stood before these entries
abbrev pub last_stamp : ℕ → List LogEntry → ℕ
last_stamp before [] = before
last_stamp before (e ∷ es) = last_stamp e.stamp es

pub stamped_more : (logs : List Log) (before : ℕ) (es : List LogEntry) (e : LogEntry) → Stamped logs before es → IsStamp logs (last_stamp before es) e.input e.stamp → Stamped logs before (es ++ e ∷ [])
stamped_more logs before [] e h g = (g, tt)
stamped_more logs before (x ∷ es) e h g = (h.0, stamped_more logs x.stamp es e h.1 g)

pub taken_more : (n : NodeId) (es : List LogEntry) (e : LogEntry) → taken_from n (es ++ e ∷ []) ≡ taken_from n es ++ option_to_list (taken_of n e.input)
taken_more n [] e = by_one (taken_of n e.input)
  where
    by_one : (o : Option ℕ) → cons_option o [] ≡ option_to_list o
    by_one None = refl
    by_one (Some k) = refl
taken_more n (x ∷ es) e = by_one (taken_of n x.input) (taken_more n es e)
  where
    by_one : (o : Option ℕ) → taken_from n (es ++ e ∷ []) ≡ taken_from n es ++ option_to_list (taken_of n e.input)
        → cons_option o (taken_from n (es ++ e ∷ [])) ≡ cons_option o (taken_from n es) ++ option_to_list (taken_of n e.input)
    by_one None q = q
    by_one (Some k) q = ap (λ l. k ∷ l) q

-- the next one of what was sent is taken
pub begins_next : (xs ys : List ℕ) (k : ℕ) → Begins xs ys → slice_get ys (length xs) ≡ Some k → Begins (xs ++ k ∷ []) ys
begins_next [] [] k h e = absurd cc
begins_next [] (y ∷ ys) k h e = let p : y ≡ k = cc in (ys, ap (λ z. z ∷ ys) (sym p))
begins_next (x ∷ xs) [] k h e = absurd cc
begins_next (x ∷ xs) (y ∷ ys) k h e =
    let p : x ≡ y = (let q = h.1 in cc) in
    let q : xs ++ h.0 ≡ ys = (let r = h.1 in cc) in
    let t = begins_next xs ys k (h.0, q) e in
    (t.0, λ j. p j ∷ t.1 j)

-- the stamp of what was sent stays as its log grows
pub under_more : (es more : List LogEntry) (k s : ℕ) → sent_under es k ≡ Some s → sent_under (es ++ more) k ≡ Some s
under_more [] more k s h = absurd cc
under_more (e ∷ es) more k s h = by_size (under_more es more (k - e.sent) s) (nat_le k e.sent) h
  where
    by_size : (sent_under es (k - e.sent) ≡ Some s → sent_under (es ++ more) (k - e.sent) ≡ Some s) → (b : Bool) → (if b then Some e.stamp else sent_under es (k - e.sent)) ≡ Some s
        → (if b then Some e.stamp else sent_under (es ++ more) (k - e.sent)) ≡ Some s
    by_size rec true g = g
    by_size rec false g = rec g
