-- What a single change does to a node's own transactions and to the answers that are released, in four cases.
use Rattle.std.proofs.Common.{Bool, List, None, Option, Some, [], ap, arith, false, filter, if◌then◌else◌, inl, inr, ltb-false, ltb-true, nat_lt, option_map, refl, slice_get, slice_set, subst, suc, sym, true, zero, ℕ, ◌++◌, ◌<◌, ◌∙◌, ◌∷◌, ◌≡◌, ◌≤◌, ◌⊎◌}
use Rattle.str_base.specs.declared.names.Cause.TheVariants.{Wish}
use Rattle.str_model.specs.declared.names.Got.{Got}
use Rattle.str_scene.specs.declared.names.TxPlace.{TxPlace}
use Rattle.str_model.specs.declared.messages.Answer.{Answer}
use Rattle.str_model.specs.declared.messages.Input.{Input}
use Rattle.str_model.specs.declared.messages.Outcome.{Outcome}
use Rattle.str_model.specs.declared.messages.Outcome.TheVariants.{Aborted as Aborts, Committed as Commits}
use Rattle.str_model.specs.Acts.{abort_came, aborted, accepted, acked, asked, begun, certified, closed, commit_came, committed, decided_as, fresh, marked, refused, replied, requested, taken, waits}
use Rattle.str_model.specs.Clients.{last_index}
use Rattle.str_scene.specs.Scenes.{Here}
use Rattle.str_model.specs.Turns.{Certified}
use Rattle.str_base.specs.Versions.{stamp}
use Rattle.str_model.specs.Views.{Aborted, Committed, Doing, Own, Phase, is_decided, name_of, release}
use Rattle.str_model.proofs.Principle.SingleChanges.{Act, Begins, Where, act_abort, act_abort_came, act_accept, act_ack, act_ask, act_begin, act_certify, act_close, act_commit, act_commit_came, act_mark, act_put, act_refuse, act_reply, act_request, act_take, act_unwait, act_wait}
use Rattle.str_model.proofs.Changes.SnapshotsGain.{CertGood, cert_turn-good, if_elim}
use Rattle.std.proofs.lemmas.Bool.{false_from_ne_true}
use Rattle.str_base.specs.Members.{In}

-- the outcome that a decided transaction is answered
abbrev pub outcome_of : Phase → List Got → Outcome
outcome_of (Committed lc fc) gets = Commits (option_map stamp fc) gets
outcome_of (Aborted lc cause) gets = Aborts cause
outcome_of _ gets = Aborts Wish

-- the answer of an own transaction as it stands, with what its gets gave
abbrev pub told : Here → ℕ → Own → List Got → Answer
told here i x gets = record { tx = name_of here i; place = x.place; rs = stamp x.snap.rs; outcome = outcome_of x.phase gets }

-- the own transactions and the answers of a step before and after a change
pub data TellStep (here : Here) (d e : Doing) : Type 0 where
  t_rests : e.view.own ≡ d.view.own → e.released ≡ d.released → TellStep here d e
  t_begins : (place : TxPlace) (rs : ℕ) → Begins here place rs d → e.view.own ≡ d.view.own ++ fresh place rs ∷ [] → e.released ≡ d.released → TellStep here d e
  t_goes : (i : ℕ) (x y : Own) → slice_get d.view.own i ≡ Some x → is_decided x.phase ≡ false → is_decided y.phase ≡ false → y.place ≡ x.place → y.snap.rs ≡ x.snap.rs
      → e.view.own ≡ slice_set d.view.own i y → e.released ≡ d.released → TellStep here d e
  t_decides : (i : ℕ) (x : Own) (p : Phase) → slice_get d.view.own i ≡ Some x → is_decided x.phase ≡ false → is_decided p ≡ true
      → e.view.own ≡ slice_set d.view.own i (decided_as p x) → e.released ≡ release (told here i (decided_as p x) x.gets) d.released → TellStep here d e

module _ (here : Here) (input : Input) (w : Where) where
  unfoldable pub tell_step : (d e : Doing) → Act here input w d e → TellStep here d e
  unfolding begun marked aborted committed closed certified asked acked requested accepted taken refused waits replied commit_came abort_came
  tell_step d e (act_begin place rs d' r h) = t_begins place rs h refl refl
  tell_step d e (act_mark k t d' rd) = t_rests refl refl
  tell_step d e (act_put i x y d' own g) = t_goes i x y own.0 g.goes.was_open g.goes.is_open g.goes.same_place g.goes.snap.rs refl refl
  tell_step d e (act_request i k m x d' own g) = t_goes i x _ own.0 g.goes.was_open refl refl refl refl refl
  tell_step d e (act_certify i lc snap x d' own f n c) =
      let good : CertGood d'.view x.snap (Certified lc snap) = subst (CertGood d'.view x.snap) c (cert_turn-good here d'.view x.snap x.writes) in
      t_goes i x _ own.0 f refl refl good.0.rs refl refl
  tell_step d e (act_ask i lc p x d' own f l g) = t_goes i x _ own.0 f refl refl refl refl refl
  tell_step d e (act_ack i lc from tx p ts parts x d' own c q g) = t_goes i x _ own.0 (ap is_decided q) (ap is_decided q) refl refl refl refl
  tell_step d e (act_abort i cause x d' own f y) = t_decides i x _ own.0 f refl refl refl
  tell_step d e (act_commit i lc fc x d' own l n le f g) = t_decides i x _ own.0 f refl refl refl
  tell_step d e (act_close i x d' own p n) = t_decides i x _ own.0 (ap is_decided p) refl refl refl
  tell_step d e (act_accept a ts d' h m) = t_rests refl refl
  tell_step d e (act_refuse a u k d' h m) = t_rests refl refl
  tell_step d e (act_take from a d' c l) = t_rests refl refl
  tell_step d e (act_wait r d' h) = t_rests refl refl
  tell_step d e (act_unwait kept rest r d' h) = t_rests refl refl
  tell_step d e (act_reply tx k rs v u fc d' h) = t_rests refl refl
  tell_step d e (act_commit_came from tx p fc ms d' c h) = t_rests refl refl
  tell_step d e (act_abort_came from tx p d' c h) = t_rests refl refl

-- ---- the list of answers that a step releases rises by number

pub data Rising : List Answer → Type 0 where
  r_none : Rising []
  r_more : (b : Answer) (bs : List Answer) → ((c : Answer) → In c bs → b.tx.seq ≤ c.tx.seq) → Rising bs → Rising (b ∷ bs)

pub in_release : (a : Answer) (bs : List Answer) (c : Answer) → In c (release a bs) → (a ≡ c) ⊎ In c bs
in_release a [] c h = h
in_release a (b ∷ bs) c h = by_test (in_release a bs c) (nat_lt a.tx.seq b.tx.seq) h
  where
    by_test : (In c (release a bs) → (a ≡ c) ⊎ In c bs) → (t : Bool) → In c (if t then a ∷ b ∷ bs else b ∷ release a bs) → (a ≡ c) ⊎ In c (b ∷ bs)
    by_test rec true k = k
    by_test rec false (inl e) = inr (inl e)
    by_test rec false (inr k) = elim (rec k) [ inl e ↦ inl e | inr j ↦ inr (inr j) ]

pub release-rising : (a : Answer) (bs : List Answer) → Rising bs → Rising (release a bs)
release-rising a bs r_none = r_more a [] (λ c h. absurd h) r_none
release-rising a bs (r_more b rest above r) =
    if_elim Rising (nat_lt a.tx.seq b.tx.seq) (a ∷ b ∷ rest) (b ∷ release a rest)
    (λ e. let less : a.tx.seq < b.tx.seq = ltb-true a.tx.seq b.tx.seq e in
    r_more a (b ∷ rest) (λ c h. elim h [ inl q ↦ omega (arith, ap (λ z. z.tx.seq) q) | inr k ↦ omega (arith, above c k) ]) (r_more b rest above r))
    (λ e. let not_less : b.tx.seq ≤ a.tx.seq = ltb-false a.tx.seq b.tx.seq e in
    r_more b (release a rest) (λ c h. elim (in_release a rest c h) [ inl q ↦ omega (arith, ap (λ z. z.tx.seq) q) | inr k ↦ above c k ]) (release-rising a rest r))

-- an answer that does not pass a test changes nothing of what passes
pub release-other : (p : Answer → Bool) (a : Answer) (bs : List Answer) → p a ≡ false → filter p (release a bs) ≡ filter p bs
release-other p a [] e = rw e refl
release-other p a (b ∷ bs) e =
    if_elim (λ xs. filter p xs ≡ filter p (b ∷ bs)) (nat_lt a.tx.seq b.tx.seq) (a ∷ b ∷ bs) (b ∷ release a bs)
    (λ t. rw e refl) (λ t. rw (release-other p a bs e) refl)

pub none_pass : (p : Answer → Bool) (bs : List Answer) → ((c : Answer) → In c bs → p c ≡ false) → filter p bs ≡ []
none_pass p [] f = refl
none_pass p (b ∷ bs) f = rw (f b (inl refl)) (none_pass p bs (λ c h. f c (inr h)))

-- an answer above all that pass comes after them
pub release-last : (p : Answer → Bool) (a : Answer) (bs : List Answer) → p a ≡ true → Rising bs → ((c : Answer) → In c bs → p c ≡ true → c.tx.seq ≤ a.tx.seq)
    → filter p (release a bs) ≡ filter p bs ++ a ∷ []
release-last p a bs e r_none f = rw e refl
release-last p a bs e (r_more b rest above r) f =
    if_elim (λ xs. filter p xs ≡ filter p (b ∷ rest) ++ a ∷ []) (nat_lt a.tx.seq b.tx.seq) (a ∷ b ∷ rest) (b ∷ release a rest)
    (λ t. let less : a.tx.seq < b.tx.seq = ltb-true a.tx.seq b.tx.seq t in
    let none : filter p (b ∷ rest) ≡ [] = none_pass p (b ∷ rest) (λ c h. false_from_ne_true (p c) (λ q. absurd (omega (arith, f c h q, seq_of c h)))) in
    rw (e, none) refl)
    (λ t. later (p b) (release-last p a rest e r (λ c h. f c (inr h))))
  where
    seq_of : (c : Answer) → In c (b ∷ rest) → b.tx.seq ≤ c.tx.seq
    seq_of c (inl q) = omega (arith, ap (λ z. z.tx.seq) q)
    seq_of c (inr k) = above c k

    later : (t : Bool) → filter p (release a rest) ≡ filter p rest ++ a ∷ []
        → (if t then b ∷ filter p (release a rest) else filter p (release a rest)) ≡ (if t then b ∷ filter p rest else filter p rest) ++ a ∷ []
    later true q = ap (λ ys. b ∷ ys) q
    later false q = q

-- ---- the last place

abbrev last_by : Option ℕ → Bool → Option ℕ
last_by o b = elim o [ Some i ↦ Some (suc i) | None ↦ (if b then Some 0 else None) ]

none_by : {X : Type 0} (p : X → Bool) (x : X) (xs : List X) (y : X) (o : Option ℕ) (b : Bool) → (o ≡ None → (j : ℕ) → slice_get xs j ≡ Some y → p y ≡ false) → p x ≡ b
    → last_by o b ≡ None → (j : ℕ) → slice_get (x ∷ xs) j ≡ Some y → p y ≡ false
none_by p x xs y (Some i) b rec t n j g = absurd (cc n)
none_by p x xs y None true rec t n j g = absurd (cc n)
none_by p x xs y None false rec t n zero g = let same : x ≡ y = cc g in ap p (sym same) ∙ t
none_by p x xs y None false rec t n (suc k) g = rec refl k g

pub last_index-none : {X : Type 0} (p : X → Bool) (xs : List X) (j : ℕ) (y : X) → last_index p xs ≡ None → slice_get xs j ≡ Some y → p y ≡ false
last_index-none p [] j y e g = absurd cc
last_index-none p (x ∷ xs) j y e g =
    none_by p x xs y (last_index p xs) (p x) (λ q k h. last_index-none p xs k y q h) refl e j g

-- the i-th passes and no later one does
pub record IsLastOf {X : Type 0} (p : X → Bool) (xs : List X) (i : ℕ) : Type 0 where
  pub passes : (x : X) → slice_get xs i ≡ Some x → p x ≡ true
  pub none_after : (j : ℕ) (y : X) → i < j → slice_get xs j ≡ Some y → p y ≡ false

some_later : {X : Type 0} (p : X → Bool) (x : X) (xs : List X) (k : ℕ) → IsLastOf p xs k → IsLastOf p (x ∷ xs) (suc k)
some_later {X = X} p x xs k r = record { passes = λ y g. r.passes y g; none_after = after }
  where
    after : (j : ℕ) (y : X) → suc k < j → slice_get (x ∷ xs) j ≡ Some y → p y ≡ false
    after zero y less g = absurd (omega arith)
    after (suc j) y less g = r.none_after j y (omega (arith, less)) g

some_first : {X : Type 0} (p : X → Bool) (x : X) (xs : List X) → p x ≡ true → last_index p xs ≡ None → IsLastOf p (x ∷ xs) 0
some_first {X = X} p x xs t q = record { passes = λ y g. let same : x ≡ y = cc g in ap p (sym same) ∙ t; none_after = after }
  where
    after : (j : ℕ) (y : X) → 0 < j → slice_get (x ∷ xs) j ≡ Some y → p y ≡ false
    after zero y less g = absurd (omega arith)
    after (suc j) y less g = last_index-none p xs j y q g

some_by : {X : Type 0} (p : X → Bool) (x : X) (xs : List X) (i : ℕ) (o : Option ℕ) (b : Bool) → ((k : ℕ) → o ≡ Some k → IsLastOf p xs k) → last_index p xs ≡ o → p x ≡ b
    → last_by o b ≡ Some i → IsLastOf p (x ∷ xs) i
some_by p x xs i (Some k) b rec q t n = let is : suc k ≡ i = cc n in subst (IsLastOf p (x ∷ xs)) is (some_later p x xs k (rec k refl))
some_by p x xs i None true rec q t n = let is : 0 ≡ i = cc n in subst (IsLastOf p (x ∷ xs)) is (some_first p x xs t q)
some_by p x xs i None false rec q t n = absurd (cc n)

pub last_index-some : {X : Type 0} (p : X → Bool) (xs : List X) (i : ℕ) → last_index p xs ≡ Some i → IsLastOf p xs i
last_index-some p [] i e = absurd cc
last_index-some p (x ∷ xs) i e = some_by p x xs i (last_index p xs) (p x) (λ k q. last_index-some p xs k q) refl refl e
