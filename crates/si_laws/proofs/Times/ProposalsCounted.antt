-- How many timestamps were proposed, by single changes.
use Rattle.str_model.proofs.ViewFacts.ChangesBelow.{rise}
use Rattle.str_model.proofs.Principle.SingleChanges.{Act, Where, act_abort, act_abort_came, act_accept, act_ack, act_ask, act_begin, act_certify, act_close, act_commit, act_commit_came, act_mark, act_put, act_refuse, act_reply, act_request, act_take, act_unwait, act_wait}
use Rattle.si_laws.specs.Numbers.{is_ack}
use Rattle.std.proofs.Common.{Bool, List, None, Option, Some, [], ap, arith, cond, is_some, refl, slice_get, slice_set, sym, true, ℕ, ◌++◌, ◌+◌, ◌∷◌, ◌≡◌, ◌≤◌}
use Rattle.std.proofs.lemmas.List.Sums.{sum_by-append, sum_by-cons}
use Rattle.std.specs.List.{count_by}
use Rattle.str_base.specs.Versions.{stamp}
use Rattle.str_model.specs.Acts.{abort_came, aborted, accepted, acked, asked, begun, certified, closed, commit_came, committed, decided_as, fresh, in_phase, marked, refused, replied, requested, taken, waits, with_asked}
use Rattle.str_model.specs.Acts
use Rattle.str_model.specs.declared.messages.Body.TheVariants.{Ack, ReadReply, ReadReq, Refuse as Refusal}
use Rattle.str_model.specs.declared.messages.Input.{Input}
use Rattle.str_model.specs.declared.messages.Message.{Message}
use Rattle.str_model.specs.Proposals.{proposed}
use Rattle.str_model.specs.Views.{Aborted, Committed, Doing, Global, Local, Own, Remote, lc_of, letter, name_of}
use Rattle.str_scene.specs.Scenes.{Here, participants, replicas}
use Rattle.str_base.proofs.Lists.{sum_by-set_got}

-- how many have a local commit timestamp
abbrev pub certified_in : List Own → ℕ
certified_in own = count_by (λ (x : Own). is_some (lc_of x.phase)) own

-- how many answers of participants were sent
abbrev pub acks_in : List Message → ℕ
acks_in ms = count_by (λ (m : Message). is_ack m.body) ms

abbrev pub one_for : Bool → ℕ
one_for b = cond b 1 0

-- ---- own transactions

own_same : (own : List Own) (i : ℕ) (x y : Own) → slice_get own i ≡ Some x → lc_of y.phase ≡ lc_of x.phase → certified_in (slice_set own i y) ≡ certified_in own
own_same own i x y e q =
    let s = sum_by-set_got (λ (z : Own). one_for (is_some (lc_of z.phase))) own i x y e in
    let t : one_for (is_some (lc_of y.phase)) ≡ one_for (is_some (lc_of x.phase)) = ap (λ (o : Option ℕ). one_for (is_some o)) q in omega (arith, s, t)

own_more : (own : List Own) (i lc : ℕ) (x y : Own) → slice_get own i ≡ Some x → lc_of x.phase ≡ None → lc_of y.phase ≡ Some lc → certified_in (slice_set own i y) ≡ certified_in own + 1
own_more own i lc x y e q r =
    let s = sum_by-set_got (λ (z : Own). one_for (is_some (lc_of z.phase))) own i x y e in
    let t : one_for (is_some (lc_of x.phase)) ≡ 0 = ap (λ (o : Option ℕ). one_for (is_some o)) q in
    let u : one_for (is_some (lc_of y.phase)) ≡ 1 = ap (λ (o : Option ℕ). one_for (is_some o)) r in omega (arith, s, t, u)

own_pushed : (own : List Own) (x : Own) → certified_in own ≤ certified_in (own ++ x ∷ [])
own_pushed own x = let s = sum_by-append (λ (z : Own). one_for (is_some (lc_of z.phase))) own (x ∷ []) in omega (arith, s)

-- ---- messages

pub acks_append : (xs ys : List Message) → acks_in (xs ++ ys) ≡ acks_in xs + acks_in ys
acks_append xs ys = sum_by-append (λ (m : Message). one_for (is_ack m.body)) xs ys

sent_some : (xs ys : List Message) → acks_in xs ≤ acks_in (xs ++ ys)
sent_some xs ys = let s = acks_append xs ys in omega (arith, s)

sent_ack : (xs ys : List Message) (m : Message) → is_ack m.body ≡ true → acks_in xs + 1 ≤ acks_in (xs ++ m ∷ ys)
sent_ack xs ys m e =
    let s = acks_append xs (m ∷ ys) in
    let t = sum_by-cons (λ (z : Message). one_for (is_ack z.body)) m ys in
    let u : one_for (is_ack m.body) ≡ 1 = ap one_for e in omega (arith, s, t, u)

-- ---- each change

abbrev pub proposed_by : Doing → ℕ
proposed_by d = certified_in d.view.own + acks_in d.sent

module _ (here : Here) (input : Input) (w : Where) where
  same_own : (d e : Doing) → certified_in e.view.own ≡ certified_in d.view.own → e.sent ≡ d.sent → proposed_by d + 0 ≤ proposed_by e
  same_own d e p q = let s : acks_in e.sent ≡ acks_in d.sent = ap acks_in q in omega (arith, p, s)

  pub rise_act : (d e : Doing) (a : Act here input w d e) → proposed_by d + rise here input w d e a ≤ proposed_by e
  unfolding begun marked aborted committed closed certified asked acked requested accepted taken refused waits replied commit_came abort_came
  rise_act d e (act_begin place rs d' r h) = let p = own_pushed d'.view.own (fresh place rs) in omega (arith, p)
  rise_act d e (act_mark k t d' rd) = omega arith
  rise_act d e (act_put i x y d' own g) = let p = own_same d'.view.own i x y own.0 g.goes.same_lc in omega (arith, p)
  rise_act d e (act_request i k m x d' own g) =
      let p = own_same d'.view.own i x (in_phase (Remote k) x) own.0 g.goes.same_lc in
      let q = sent_some d'.sent (letter here m (ReadReq (name_of here i) k (stamp x.snap.rs)) ∷ []) in omega (arith, p, q)
  rise_act d e (act_certify i lc snap x d' own f n c) =
      let p = own_more d'.view.own i lc x (record x { snap = snap; parts = participants here.scene here.node x.writes; phase = Local lc }) own.0 n refl in omega (arith, p)
  rise_act d e (act_ask i lc q x d' own f l g) =
      let p = own_same d'.view.own i x (record x { parts = with_asked q x.parts; phase = Global lc }) own.0 (sym l) in
      let r = sent_some d'.sent (Acts.ask_letters here i lc x q (replicas here.scene q)) in omega (arith, p, r)
  rise_act d e (act_ack i lc from tx q ts parts x d' own c r g) = let p = own_same d'.view.own i x (record x { parts = parts }) own.0 refl in omega (arith, p)
  rise_act d e (act_abort i cause x d' own f y) =
      let p = own_same d'.view.own i x (decided_as (Aborted (lc_of x.phase) cause) x) own.0 refl in
      let r = sent_some d'.sent (Acts.abort_letters here i x.parts) in omega (arith, p, r)
  rise_act d e (act_commit i lc fc x d' own l n le f g) =
      let p = own_same d'.view.own i x (decided_as (Committed (Some lc) (Some fc)) x) own.0 (sym l) in
      let r = sent_some d'.sent (Acts.commit_letters here i x fc d'.view) in omega (arith, p, r)
  rise_act d e (act_close i x d' own q n) = let p = own_same d'.view.own i x (decided_as (Committed None None) x) own.0 (sym (ap lc_of q)) in omega (arith, p)
  rise_act d e (act_accept a ts d' h m) =
      let r = sent_ack d'.sent (Acts.copies here a (replicas here.scene a.part)) (letter here a.tx.node (Ack a.tx a.part (stamp ts))) refl in omega (arith, r)
  rise_act d e (act_refuse a u k d' h m) = let r = sent_some d'.sent (letter here a.tx.node (Refusal a.tx a.part u k) ∷ []) in omega (arith, r)
  rise_act d e (act_take from a d' c l) = let r = sent_ack d'.sent [] (letter here a.tx.node (Ack a.tx a.part (stamp (proposed d'.view a)))) refl in omega (arith, r)
  rise_act d e (act_wait r d' h) = omega arith
  rise_act d e (act_unwait kept rest r d' h) = omega arith
  rise_act d e (act_reply tx k rs v u fc d' h) = let r = sent_some d'.sent (letter here tx.node (ReadReply tx k v u (stamp fc)) ∷ []) in omega (arith, r)
  rise_act d e (act_commit_came from tx q fc ms d' c h) = omega arith
  rise_act d e (act_abort_came from tx q d' c h) = omega arith
