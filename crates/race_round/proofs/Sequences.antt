-- Steps, stamps and numbers of entries, one list after another.
use Rattle.std.proofs.lemmas.Bool.{le-leb}
use Rattle.std.proofs.Common.{◌≡◌, ◌≤◌, ◌<◌, ◌+◌, ◌-◌, ◌++◌, ◌∷◌, ◌∙◌, ℕ, Bool, true, false, List, [], Some, None, if◌then◌else◌, add-one, append-nil, append_assoc, arith, ap, drop, length, nat_le, refl, subst, suc, sym, take, zero, leb-true, inl, inr}
use Rattle.lamport_log.proofs.NodeLogs.EntryPlaces.{nth_left, nth_right, nth_within}
use Rattle.lamport_log.proofs.NodeLogs.LogsGrow.{Exact, under_more, take_more, drop_more}
use Rattle.lamport_log.specs.Closed.{Stamped, sent_under, taken_from, taken_of}
use Rattle.lamport_log.specs.Logs.{Item, Log, answers_in, cut, messages_in}
use Rattle.lamport_log.specs.Replays.{StepsLead, came}
use Rattle.lamport_log.specs.declared.logs.LogEntry.{LogEntry}
use Rattle.race_round.specs.Seats.{IsSent, last_stamp}
use Rattle.race_round.specs.Stretches.{IsLetter, IsMade, Logged, entries_in}
use Rattle.ring_links.specs.declared.parcel.Parcel.{Parcel}
use Rattle.std.proofs.lemmas.List.Elements.{filter_map-append}
use Rattle.std.proofs.lemmas.List.Sums.{sum_by-cons}
use Rattle.std.specs.List.{sum_by}
use Rattle.str_base.specs.Members.{In}
use Rattle.str_base.specs.declared.names.NodeId.{NodeId}
use Rattle.str_model.specs.Steps.{step}
use Rattle.str_model.specs.Views.{View}
use Rattle.str_model.specs.declared.messages.Answer.{Answer}
use Rattle.str_model.specs.declared.messages.Message.{Message}
use Rattle.str_scene.specs.Scenes.{Here, nth}

-- ---- one after another

pub steps_on : (here : Here) (logs : List Log) (v : View) (xs : List Item) (u : View) (ys : List Item) (w : View) → StepsLead here logs v xs u → StepsLead here logs u ys w
    → StepsLead here logs v (xs ++ ys) w
steps_on here logs v [] u ys w h g = subst (λ (z : View). StepsLead here logs z ys w) (sym h) g
steps_on here logs v (x ∷ xs) u ys w h g = (h.0, h.1, h.2, steps_on here logs (came v (step here h.0 v)).view xs u ys w h.3 g)

pub last_on : (b : ℕ) (xs ys : List LogEntry) → last_stamp b (xs ++ ys) ≡ last_stamp (last_stamp b xs) ys
last_on b [] ys = refl
last_on b (x ∷ xs) ys = last_on x.stamp xs ys

pub stamped_on : (logs : List Log) (b : ℕ) (xs ys : List LogEntry) → Stamped logs b xs → Stamped logs (last_stamp b xs) ys → Stamped logs b (xs ++ ys)
stamped_on logs b [] ys h g = g
stamped_on logs b (x ∷ xs) ys h g = (h.0, stamped_on logs x.stamp xs ys h.1 g)

pub taken_on : (n : NodeId) (xs ys : List LogEntry) → taken_from n (xs ++ ys) ≡ taken_from n xs ++ taken_from n ys
taken_on n xs ys = filter_map-append (λ (e : LogEntry). taken_of n e.input) xs ys

pub logged_on : (w : Bool) (p q x y : List ℕ) → q ≡ p → Logged w x y → Logged w (p ++ x) (q ++ y)
logged_on true p q x y e h = λ j. e j ++ h j
logged_on false p q x y e h = (h.0, append_assoc p x h.0 ∙ (λ j. sym e j ++ h.1 j))

pub logged_same : (w : Bool) (x y : List ℕ) → y ≡ x → Logged w x y
logged_same true x y e = e
logged_same false x y e = ([], append-nil x ∙ sym e)

-- ---- parcels and the log of their sender

-- a parcel stays a message of a log that grows
pub sent_stays : (l l' : Log) (p : Parcel) (es : List LogEntry) (ms : List Message) → l'.entries ≡ l.entries ++ es → l'.messages ≡ l.messages ++ ms → IsSent l p → IsSent l' p
sent_stays l l' p es ms ee me h =
    let w = nth_within l.messages p.number p.message h.message_ in
    record {
      message_ = ap (λ (x : List Message). nth x p.number) me ∙ (nth_left l.messages ms p.number w.1 ∙ h.message_);
      stamp_ = ap (λ (x : List LogEntry). sent_under x p.number) ee ∙ under_more l.entries es p.number p.stamp h.stamp_;
    }

leb_not : (a b : ℕ) → b < a → nat_le a b ≡ false
leb_not a b h = by_test (nat_le a b) refl
  where
    by_test : (t : Bool) → nat_le a b ≡ t → nat_le a b ≡ false
    by_test false q = q
    by_test true q = let k = leb-true a b q in absurd (omega (arith, h, k))

-- the messages of the last entry were sent under its stamp
pub under_last : (es : List LogEntry) (e : LogEntry) (k : ℕ) → 1 ≤ k → k ≤ e.sent → sent_under (es ++ e ∷ []) (sum_by (λ (x : LogEntry). x.sent) es + k) ≡ Some e.stamp
under_last [] e k low high =
    ap (λ (b : Bool). if b then Some e.stamp else None) (le-leb (0 + k) e.sent (omega (arith, high)))
under_last (x ∷ es) e k low high =
    let rest : ℕ = sum_by (λ (y : LogEntry). y.sent) es in
    let past : nat_le ((x.sent + rest) + k) x.sent ≡ false = leb_not ((x.sent + rest) + k) x.sent (omega (arith, low)) in
    let left : ((x.sent + rest) + k) - x.sent ≡ rest + k = omega arith in
    ap (λ (n : ℕ). sent_under ((x ∷ es) ++ e ∷ []) (n + k)) (sum_by-cons (λ (y : LogEntry). y.sent) x es)
    ∙ (ap (λ (b : Bool). if b then Some x.stamp else sent_under (es ++ e ∷ []) (((x.sent + rest) + k) - x.sent)) past
    ∙ (ap (λ (z : ℕ). sent_under (es ++ e ∷ []) z) left ∙ under_last es e k low high))

-- a letter of the last step is a message of the log
pub letter_sent : (l l' : Log) (e : LogEntry) (ms : List Message) (p : Parcel) → l'.entries ≡ l.entries ++ e ∷ [] → l'.messages ≡ l.messages ++ ms
    → sum_by (λ (x : LogEntry). x.sent) l.entries ≡ length l.messages → e.sent ≡ length ms → IsLetter (length l.messages) e.stamp ms p → IsSent l' p
letter_sent l l' e ms p ee me counted count h =
    let number : p.number ≡ length l.messages + (suc h.place) = h.number_ ∙ ap (λ (x : ℕ). length l.messages + x) (add-one h.place) in
    let at : nth ms (suc h.place) ≡ Some p.message = h.there in
    let w = nth_within ms (suc h.place) p.message at in
    record {
      message_ =
          ap (λ (x : List Message). nth x p.number) me
          ∙ (ap (λ (k : ℕ). nth (l.messages ++ ms) k) number
          ∙ (nth_right l.messages ms (suc h.place) w.0 ∙ at));
      stamp_ =
          ap (λ (x : List LogEntry). sent_under x p.number) ee
          ∙ (ap (λ (k : ℕ). sent_under (l.entries ++ e ∷ []) k) (number ∙ ap (λ (x : ℕ). x + suc h.place) (sym counted))
          ∙ (under_last l.entries e (suc h.place) w.0 (omega (arith, w.1, count)) ∙ ap (λ (x : ℕ). Some x) (sym h.stamp_)));
    }

-- ---- the items of a log that has grown

pub take_front : {A : Type 0} (n : ℕ) (xs ys : List A) → n ≡ length xs → take n (xs ++ ys) ≡ xs
take_front zero [] ys e = refl
take_front zero (x ∷ xs) ys e = absurd cc
take_front (suc n) [] ys e = absurd cc
take_front (suc n) (x ∷ xs) ys e = ap (λ l. x ∷ l) (take_front n xs ys cc)

pub drop_front : {A : Type 0} (n : ℕ) (xs ys : List A) → n ≡ length xs → drop n (xs ++ ys) ≡ ys
drop_front zero [] ys e = refl
drop_front zero (x ∷ xs) ys e = absurd cc
drop_front (suc n) [] ys e = absurd cc
drop_front (suc n) (x ∷ xs) ys e = drop_front n xs ys cc

cut_on : (n : NodeId) (es fs : List LogEntry) (ms ns : List Message) (rs ss : List Answer) → Exact es ms rs → cut n (es ++ fs) (ms ++ ns) (rs ++ ss) ≡ cut n es ms rs ++ cut n fs ns ss
cut_on n [] fs ms ns rs ss h =
    λ j. cut n fs (h.0 j ++ ns) (h.1 j ++ ss)
cut_on n (e ∷ es) fs ms ns rs ss h =
    (λ j. record { node = n; entry = e; sent = take_more e.sent ms ns h.0 j; released = take_more e.answers rs ss h.1 j } ∷ cut n (es ++ fs) (drop_more e.sent ms ns h.0 j) (drop_more e.answers rs ss h.1 j))
    ∙ ap (λ (l : List Item). record { node = n; entry = e; sent = take e.sent ms; released = take e.answers rs } ∷ l)
    (cut_on n es fs (drop e.sent ms) ns (drop e.answers rs) ss h.2)

-- the items that a node made are those of their entries, messages and answers
pub cut_made : (n : NodeId) (its : List Item) → ((it : Item) → In it its → IsMade n it) → cut n (entries_in its) (messages_in its) (answers_in its) ≡ its
cut_made n [] made = refl
cut_made n (it ∷ its) made =
    let m = made it (inl refl) in
    let rest = cut_made n its (λ x h. made x (inr h)) in
    (λ j. record { node = sym m.node_ j; entry = it.entry; sent = take_front it.entry.sent it.sent (messages_in its) m.sent_ j; released = take_front it.entry.answers it.released (answers_in its) m.answers_ j }
    ∷ cut n (entries_in its) (drop_front it.entry.sent it.sent (messages_in its) m.sent_ j) (drop_front it.entry.answers it.released (answers_in its) m.answers_ j))
    ∙ ap (λ (l : List Item). it ∷ l) rest

pub items_grown : (n : NodeId) (es : List LogEntry) (ms : List Message) (rs : List Answer) (its : List Item) → Exact es ms rs → ((it : Item) → In it its → IsMade n it)
    → cut n (es ++ entries_in its) (ms ++ messages_in its) (rs ++ answers_in its) ≡ cut n es ms rs ++ its
items_grown n es ms rs its h made =
    cut_on n es (entries_in its) ms (messages_in its) rs (answers_in its) h ∙ ap (λ (l : List Item). cut n es ms rs ++ l) (cut_made n its made)

-- a place below a length that is another's
pub within : {i m n k : ℕ} → i < m → m ≡ n → n ≡ k → i < k
within h e f = omega (arith, h, e, f)
