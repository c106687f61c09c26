-- Between two moments that follow one another an answer is released only of a transaction that was undecided and is decided, and tells how it stood.
use Rattle.std.proofs.Common.{Bool, List, None, Option, Some, [], ap, false, if◌then◌else◌, inl, inr, length, refl, slice_get, slice_set, subst, suc, sym, true, zero, ℕ, ◌&&◌, ◌+◌, ◌-◌, ◌<◌, ◌∙◌, ◌∷◌, ◌≡◌, ◌≢◌, ◌⊎◌}
use Rattle.std.proofs.lemmas.Bool.{false_from_ne_true}
use Rattle.std.proofs.lemmas.Option.{slice_get_within}
use Rattle.partition_map.specs.declared.rows.Asked.{Asked}
use Rattle.dependency_set.specs.declared.names.Dep.{Dep}
use Rattle.str_base.specs.declared.names.Cause.{Cause}
use Rattle.str_base.specs.declared.names.Cause.TheVariants.{Conflict as ByConflict, Wish}
use Rattle.str_base.specs.declared.names.KeyId.{KeyId}
use Rattle.str_base.specs.declared.names.NodeId.{NodeId}
use Rattle.str_base.specs.declared.names.PartId.{PartId}
use Rattle.str_base.specs.declared.names.SessionId.{SessionId}
use Rattle.str_base.specs.declared.names.Ts.{Ts}
use Rattle.str_base.specs.declared.names.TxId.{TxId}
use Rattle.str_base.specs.declared.names.Value.{Value}
use Rattle.str_base.specs.declared.names.Write.{Write}
use Rattle.str_base.specs.Versions.{same_key, same_node}
use Rattle.str_scene.specs.declared.names.Op.{Op}
use Rattle.str_scene.specs.declared.names.TxPlace.{TxPlace}
use Rattle.str_scene.specs.Scenes.{Here, Session, is_master, nth}
use Rattle.str_model.specs.declared.messages.Answer.{Answer}
use Rattle.str_model.specs.declared.messages.Arrived.{Arrived}
use Rattle.str_model.specs.declared.messages.Body.{Body}
use Rattle.str_model.specs.declared.messages.Body.TheVariants.{Abort, Ack, Commit, Prepare, ReadReply, ReadReq, Refuse as Refusal, Replicate}
use Rattle.str_model.specs.declared.messages.Input.{Input}
use Rattle.str_model.specs.declared.messages.Input.TheVariants.{Client, Deliver}
use Rattle.str_model.specs.declared.names.Got.{Got}
use Rattle.str_model.specs.Acts.{abort_came, aborted, acked, asked, begun, closed, commit_came, committed, decided_as, fresh, in_phase, taken, with_asked}
use Rattle.str_model.specs.Arrivals
use Rattle.str_model.specs.Arrivals.{evict, held_key}
use Rattle.str_model.specs.Clients
use Rattle.str_model.specs.Gates.{Ask, CommitAt, GateTurn, Missing, Shut, gate_of}
use Rattle.str_model.specs.Moments
use Rattle.str_model.specs.Moments.{input_moments}
use Rattle.str_model.specs.Owned.{Owns}
use Rattle.str_model.specs.Pass
use Rattle.str_model.specs.Pass.{half_turn, pass_to, turn}
use Rattle.str_model.specs.Proposals.{prepare_turn}
use Rattle.str_model.specs.Returns
use Rattle.str_model.specs.Returns.{has_asked, own_named}
use Rattle.str_model.specs.Scripts
use Rattle.str_model.specs.Scripts.{own_op}
use Rattle.str_model.specs.Steps
use Rattle.str_model.specs.Steps.{decides, drop_held, rule}
use Rattle.str_model.specs.Strange.{is_valid}
use Rattle.str_model.specs.Views.{Aborted, Active, CertWait, Closing, Committed, Doing, Global, Local, Own, Phase, ReadWait, Remote, Reply, is_decided, lc_of, name_of, put, release}
use Rattle.str_model.proofs.Principle.SingleChanges.{Act, InRule, InTurn, InWait, Path, Where, along}
use Rattle.str_model.proofs.Principle.StepPaths.{half_turn-path, waiter_turn-waited}
use Rattle.str_model.proofs.Principle.NextMoments.{Link, evict_linked_to, l_close, l_evict, l_half, l_rule, l_wait, last_of, valid}
use Rattle.str_model.proofs.Principle.MomentPaths.{take_is}
use Rattle.str_model.proofs.Principle.RulePaths.{named_owns}
use Rattle.str_model.proofs.Principle.OwnPaths.{free_at, op_or_commit-path}
use Rattle.str_model.proofs.Changes.AnswerChanges.{TellStep, in_release, t_begins, t_decides, t_goes, t_rests, tell_step, told}
use Rattle.str_model.proofs.Changes.OwnChanges.{own_step}
use Rattle.str_model.proofs.Changes.PairWords.{decided-step}
use Rattle.str_base.proofs.Lists.{get_push, get_set, slice_get_there}
use Rattle.str_base.specs.Members.{In}
use Rattle.str_model.proofs.OwnFacts.LocalOwners.{same_own}
use Rattle.str_model.proofs.OwnFacts.PlacesInOrder.{get_set_cases}
use Rattle.str_model.proofs.OwnFacts.TurnsBelow.{leaves}
use Rattle.si_laws.proofs.Dependencies.DependencyFates.{NotCommitted, not_committed-act}
use Rattle.si_laws.proofs.Reasons.AbortChanges.{at_own_is}
use Rattle.si_laws.proofs.Reasons.QuietRules.{by_if, master_quiet, read_req_quiet}
use Rattle.si_laws.proofs.Stages.LinkedStates.{one_of}
use Rattle.si_laws.specs.GateLaw.{HasCommitted}
use Rattle.std.proofs.lemmas.Bool.{false_from_ne_true}

-- ---- what stays of an own transaction

-- the same place and snapshot, and decided for good
pub record IsStill (x y : Own) : Type 0 where
  pub place : y.place ≡ x.place
  pub rs : y.snap.rs ≡ x.snap.rs
  pub decided : is_decided x.phase ≡ true → is_decided y.phase ≡ true

still_self : (x : Own) → IsStill x x
still_self x = record { place = refl; rs = refl; decided = λ q. q }

still_then : (x y z : Own) → IsStill x y → IsStill y z → IsStill x z
still_then x y z a b = record { place = b.place ∙ a.place; rs = b.rs ∙ a.rs; decided = λ q. b.decided (a.decided q) }

set_stays : (old new : List Own) (i j : ℕ) (x z y : Own) → slice_get old j ≡ Some z → IsStill z y → new ≡ slice_set old j y → slice_get old i ≡ Some x → (u : Own) × (slice_get new i ≡ Some u) × IsStill x u
set_stays old new i j x z y is s o own = elim (get_set_cases old j i y x own) [
  | inl h ↦ (let same : z ≡ x = one_of z x (slice_get old i) (ap (λ k. slice_get old k) h.0 ∙ is) own in
      (y, subst (λ (xs : List Own). slice_get xs i ≡ Some y) (sym o) h.1, subst (λ u. IsStill u y) same s))
  | inr h ↦ (x, subst (λ (xs : List Own). slice_get xs i ≡ Some x) (sym o) h.1, still_self x)
]

own_stays : (here : Here) (d e : Doing) (i : ℕ) (x : Own) → TellStep here d e → Owns d.view i x → (y : Own) × Owns e.view i y × IsStill x y
own_stays here d e i x (t_rests o r) own = (x, subst (λ (xs : List Own). slice_get xs i ≡ Some x) (sym o) own, still_self x)
own_stays here d e i x (t_begins place rs b o r) own = (x, subst (λ (xs : List Own). slice_get xs i ≡ Some x) (sym o) (get_push d.view.own i (fresh place rs) x own), still_self x)
own_stays here d e i x (t_goes j z y is f g p q o r) own =
    set_stays d.view.own e.view.own i j x z y is (record { place = p; rs = q; decided = λ c. absurd (cc (c, f)) }) o own
own_stays here d e i x (t_decides j z p is f g o r) own =
    set_stays d.view.own e.view.own i j x z (decided_as p z) is (record { place = refl; rs = refl; decided = λ c. g }) o own

module _ (here : Here) (input : Input) where
  -- an answer that was not there at d: its transaction was undecided then, is decided at e, and is told
  pub record ToldAt (d e : Doing) (a : Answer) : Type 0 where
    pub place : ℕ
    pub was : Own
    pub now : Own
    pub gets : List Got
    pub owned : Owns d.view place was
    pub was_open : is_decided was.phase ≡ false
    pub owns : Owns e.view place now
    pub decided : is_decided now.phase ≡ true
    pub is : told here place now gets ≡ a
    pub still : IsStill was now
    pub same_gets : HasCommitted now → was.gets ≡ gets

  -- each answer was there, or is told
  unfoldable pub Tells : Doing → Doing → Type 0
  Tells d e = (a : Answer) → In a e.released → In a d.released ⊎ ToldAt d e a

  -- ---- along a path

  record ToldBy (d e : Doing) (a : Answer) : Type 0 where
    place : ℕ
    now : Own
    gets : List Got
    owns : Owns e.view place now
    decided : is_decided now.phase ≡ true
    is : told here place now gets ≡ a
    before : (x : Own) → Owns d.view place x → (is_decided x.phase ≡ false) × IsStill x now

  record Follows (d e : Doing) : Type 0 where
    stays : (i : ℕ) (x : Own) → Owns d.view i x → (y : Own) × Owns e.view i y × IsStill x y
    tells : (a : Answer) → In a e.released → In a d.released ⊎ ToldBy d e a

  follows_self : (d : Doing) → Follows d d
  follows_self d = record { stays = λ i x own. (x, own, still_self x); tells = λ a m. inl m }

  follows_act : (w : Where) (d c e : Doing) → Act here input w c e → Follows d c → Follows d e
  follows_act w d c e act h =
      record {
        stays = λ i x own. let s = h.stays i x own in let t = own_stays here c e i s.0 (tell_step here input w c e act) s.1 in (t.0, t.1, still_then x s.0 t.0 s.2 t.2);
        tells = λ a m. by_step (tell_step here input w c e act) a m;
      }
    where
      lift : (a : Answer) → In a d.released ⊎ ToldBy d c a → In a d.released ⊎ ToldBy d e a
      lift a (inl m) = inl m
      lift a (inr t) =
          inr (record { place = t.place; now = t.now; gets = t.gets; owns = decided-step t.place t.now c.view e.view t.decided (own_step here input w c e act) t.owns; decided = t.decided; is = t.is; before = t.before })

      by_step : TellStep here c e → (a : Answer) → In a e.released → In a d.released ⊎ ToldBy d e a
      by_step (t_rests o r) a m = lift a (h.tells a (subst (In a) r m))
      by_step (t_begins place rs b o r) a m = lift a (h.tells a (subst (In a) r m))
      by_step (t_goes i x y own f g p rs o r) a m = lift a (h.tells a (subst (In a) r m))
      by_step (t_decides i x p own f g o r) a m =
          elim (in_release (told here i (decided_as p x) x.gets) c.released a (subst (In a) r m)) [
            | inl q ↦ inr (record {
              place = i;
              now = decided_as p x;
              gets = x.gets;
              owns = rw o (get_set c.view.own i x (decided_as p x) own);
              decided = g;
              is = q;
              before = λ z oz. let s = h.stays i z oz in
                  let same : s.0 ≡ x = same_own c.view i i s.0 x s.1 own refl in (
                    false_from_ne_true (is_decided z.phase) (λ t. cc (s.2.decided t, ap (λ (u : Own). is_decided u.phase) same, f)),
                    record { place = ap (λ (u : Own). u.place) (sym same) ∙ s.2.place; rs = ap (λ (u : Own). u.snap.rs) (sym same) ∙ s.2.rs; decided = λ t. g },
                  );
            })
            | inr k ↦ lift a (h.tells a k)
          ]

  -- outside the rule, and where none commits
  told_free : (w w' : Where) → (w ≢ InRule) → ((i : ℕ) → w' ≢ InTurn i) → (d e : Doing) → Path here input w d e → Path here input w' d e → Tells d e
  unfolding Tells
  told_free w w' ne none d e p q a m = elim (f.tells a m) [ inl k ↦ inl k | inr t ↦ inr (build t) ]
    where
      f : Follows d e
      f = along here input w (λ z. Follows d z) (λ b c act h. follows_act w d b c act h) d e p (follows_self d)

      same_length : length e.view.own ≡ length d.view.own
      same_length = along here input w (λ z. length z.view.own ≡ length d.view.own) (λ b c act h. (leaves here input w b c ne act).same_length ∙ h) d e p refl

      build : ToldBy d e a → ToldAt d e a
      build t =
          let x = slice_get_there d.view.own t.place (omega (Rattle.std.proofs.Common.arith, slice_get_within e.view.own t.place t.now t.owns, same_length)) in
          let b = t.before x.0 x.1 in
          record {
            place = t.place;
            was = x.0;
            now = t.now;
            gets = t.gets;
            owned = x.1;
            was_open = b.0;
            owns = t.owns;
            decided = t.decided;
            is = t.is;
            still = b.1;
            same_gets = λ c. absurd (along here input w' (λ z. NotCommitted t.place z.view) (not_committed-act here input w' t.place (none t.place)) d e q
                (λ y own k. cc (ap is_decided k.2, ap (λ (u : Own). is_decided u.phase) (same_own d.view t.place t.place x.0 y x.1 own refl), b.0)) t.now t.owns c);
          }

  -- ---- one that is decided

  quiet_told : (d e : Doing) → e.released ≡ d.released → Tells d e
  unfolding Tells
  quiet_told d e q a m = inl (subst (In a) q m)

  -- in a later state z it stands like u, which has the same gets, and is decided then
  decide_told : (d : Doing) (i : ℕ) (x : Own) → Owns d.view i x → is_decided x.phase ≡ false → (z e : Doing) (u : Own) (p : Phase) → Owns z.view i u → x.gets ≡ u.gets → IsStill x u → z.released ≡ d.released
      → is_decided p ≡ true → e.view.own ≡ slice_set z.view.own i (decided_as p u) → e.released ≡ release (told here i (decided_as p u) u.gets) z.released → Tells d e
  unfolding Tells
  decide_told d i x own op z e u p ou gs s same dec o r a m =
      elim (in_release (told here i (decided_as p u) u.gets) z.released a (subst (In a) r m)) [
        | inl q ↦ inr (record {
          place = i;
          was = x;
          now = decided_as p u;
          gets = u.gets;
          owned = own;
          was_open = op;
          owns = rw o (get_set z.view.own i u (decided_as p u) ou);
          decided = dec;
          is = q;
          still = record { place = s.place; rs = s.rs; decided = λ t. dec };
          same_gets = λ c. gs;
        })
        | inr k ↦ inl (subst (In a) same k)
      ]

  abort_told : (d : Doing) (i : ℕ) (x : Own) (cause : Cause) → Owns d.view i x → is_decided x.phase ≡ false → Tells d (aborted here i cause x d)
  unfolding aborted
  abort_told d i x cause own op = decide_told d i x own op d (aborted here i cause x d) x (Aborted (lc_of x.phase) cause) own refl (still_self x) refl refl refl refl

  -- ---- the closing of a turn

  module _ (d : Doing) (i : ℕ) (x : Own) (own : Owns d.view i x) (op : is_decided x.phase ≡ false) where
    Later : Doing → Own → Type 0
    Later z u = Owns z.view i u × (is_decided u.phase ≡ false) × (x.gets ≡ u.gets) × IsStill x u × (z.released ≡ d.released)

    gate_told : (again : Doing → Doing) → ((z : Doing) (u : Own) → Later z u → Tells d (again z)) → (lc : ℕ) (g : GateTurn) (z : Doing) (u : Own) → Later z u → Tells d (Pass.gate_done here i again lc u g z)
    unfolding asked committed Later
    gate_told again f lc (Ask q) z u h =
        let v : Own = record u { parts = with_asked q u.parts; phase = Global lc } in
        f (asked here i lc q u z) v (get_set z.view.own i u v h.0, refl, h.2, record { place = h.3.place; rs = h.3.rs; decided = λ t. absurd (cc (t, op)) }, h.4)
    gate_told again f lc (Shut q) z u h = quiet_told d z h.4
    gate_told again f lc (Missing q n) z u h = quiet_told d z h.4
    gate_told again f lc (CommitAt fc) z u h = decide_told d i x own op z (committed here i lc fc u z) u (Committed (Some lc) (Some fc)) h.0 h.2 h.3 h.4 refl refl refl

    phase_told : (again : Doing → Doing) → ((z : Doing) (u : Own) → Later z u → Tells d (again z)) → (p : Phase) (z : Doing) (u : Own) → Later z u → Tells d (Pass.gate_phase here i again p u z)
    unfolding Later
    phase_told again f (Local lc) z u h = gate_told again f lc (gate_of here z.view lc u) z u h
    phase_told again f (Global lc) z u h = gate_told again f lc (gate_of here z.view lc u) z u h
    phase_told again f _ z u h = quiet_told d z h.4

    gates_told : (n : ℕ) (z : Doing) (u : Own) → Later z u → Tells d (Pass.gates here i n z)
    unfolding Later
    gates_told zero z u h = quiet_told d z h.4
    gates_told (suc n) z u h =
        subst (Tells d) (sym (at_own_is here input i (λ v. Pass.gate_phase here i (Pass.gates here i n) v.phase v) z u h.0 h.1))
        (phase_told (Pass.gates here i n) (λ y v g. gates_told n y v g) u.phase z u h)

    later_self : Later d x
    unfolding Later
    later_self = (own, op, refl, still_self x, refl)

    free_told : (wish : Bool) → Tells d (Pass.close_free here i wish x d)
    unfolding closed
    free_told true = abort_told d i x Wish own op
    free_told false = decide_told d i x own op d (closed here i x d) x (Committed None None) own refl (still_self x) refl refl refl refl

    close_told : (p : Phase) → Tells d (Pass.close_phase here i p x d)
    close_told (Closing wish) = by_empty x.snap.deps
      where
        by_empty : (ds : List Dep) → Tells d (if Pass.is_empty ds then Pass.close_free here i wish x d else d)
        by_empty [] = free_told wish
        by_empty (q ∷ qs) = quiet_told d d refl
    close_told Active = gates_told (suc (length here.scene.parts)) d x later_self
    close_told (ReadWait k) = gates_told (suc (length here.scene.parts)) d x later_self
    close_told (Remote k) = gates_told (suc (length here.scene.parts)) d x later_self
    close_told (Reply k v by fc) = gates_told (suc (length here.scene.parts)) d x later_self
    close_told CertWait = gates_told (suc (length here.scene.parts)) d x later_self
    close_told (Local l) = gates_told (suc (length here.scene.parts)) d x later_self
    close_told (Global l) = gates_told (suc (length here.scene.parts)) d x later_self
    close_told (Committed l f) = gates_told (suc (length here.scene.parts)) d x later_self
    close_told (Aborted l c) = gates_told (suc (length here.scene.parts)) d x later_self

  -- what is done with the i-th own transaction, where it is undecided
  at_told : (i : ℕ) (f : Own → Doing → Doing) (d : Doing) → ((x : Own) → Owns d.view i x → is_decided x.phase ≡ false → Tells d (f x d)) → Tells d (Scripts.at_own i f d)
  at_told i f d g = by_own (slice_get d.view.own i) refl
    where
      by_decided : (x : Own) (b : Bool) → Owns d.view i x → is_decided x.phase ≡ b → Tells d (Scripts.unless_decided b (f x) d)
      by_decided x true own e = quiet_told d d refl
      by_decided x false own e = g x own e

      by_own : (o : Option Own) → slice_get d.view.own i ≡ o → Tells d (Scripts.of_own f o d)
      by_own None e = quiet_told d d refl
      by_own (Some x) e = by_decided x (is_decided x.phase) e refl

  turn_told : (i : ℕ) (r : Doing) → Tells (half_turn here i r) (turn here i r)
  unfolding turn
  turn_told i r = at_told i (Pass.close_own here i) (half_turn here i r) (λ x own op. close_told (half_turn here i r) i x own op x.phase)

  -- ---- an eviction

  evict_told : (a : Arrived) (i : ℕ) (d : Doing) → Tells d (Scripts.at_own i (Arrivals.evict_own here a i) d)
  evict_told a i d = at_told i (Arrivals.evict_own here a i) d (λ x own op. by_key x own op (held_key d.view.versions (name_of here i) a.writes))
    where
      by_key : (x : Own) → Owns d.view i x → is_decided x.phase ≡ false → (o : Option Write) → Tells d (Arrivals.evict_at here a i x o d)
      by_key x own op None = quiet_told d d refl
      by_key x own op (Some w) = abort_told d i x (ByConflict a.tx w.key here.node) own op

  -- ---- a client step

  module _ (d : Doing) where
    OptTells : Option Doing → Type 0
    OptTells None = Unit {0}
    OptTells (Some r) = Tells d r

    begin_told : (place : TxPlace) (t : ℕ) (o : Option (List Op)) → OptTells (Clients.begin here place t o d)
    unfolding OptTells begun
    begin_told place t None = tt
    begin_told place t (Some ops) = quiet_told d (begun place (Rattle.std.specs.Prelude.max (Rattle.std.specs.Prelude.min t Clients.reading_limit) d.view.floor) d) refl

    go_on_told : (s : SessionId) (t : ℕ) (text : Session) (i : ℕ) (x : Own) (p : Phase) → Owns d.view i x → x.phase ≡ p → OptTells (Clients.go_on here s t text i x p d)
    unfolding OptTells
    go_on_told s t text i x Active own e =
        told_free (InTurn i) InRule (λ q. cc q) (λ k q. cc q) d (Scripts.op_or_commit here i x (own_op here x) d)
        (op_or_commit-path here input (InTurn i) i x (own_op here x) d (free_at (InTurn i) d i x Active (own, refl) e refl refl) e refl)
        (op_or_commit-path here input InRule i x (own_op here x) d (free_at InRule d i x Active (own, tt) e refl refl) e refl)
    go_on_told s t text i x (Committed l c) own e = begin_told (Clients.place_in s (x.place.index + 1)) t (nth text.txs (x.place.index + 1))
    go_on_told s t text i x (Aborted l c) own e = begin_told (Clients.place_in s (x.place.index + 1)) t (nth text.txs (x.place.index + 1))
    go_on_told s t text i x _ own e = tt

    go_on_at_told : (s : SessionId) (t : ℕ) (text : Session) (i : ℕ) (o : Option Own) → slice_get d.view.own i ≡ o → OptTells (Clients.go_on_at here s t text i o d)
    unfolding OptTells
    go_on_at_told s t text i None e = tt
    go_on_at_told s t text i (Some x) e = go_on_told s t text i x x.phase e refl

    last_told : (s : SessionId) (t : ℕ) (text : Session) (o : Option ℕ) → OptTells (Clients.go_on_last here s t text o d)
    last_told s t text None = begin_told (Clients.place_in s 1) t (nth text.txs 1)
    last_told s t text (Some i) = go_on_at_told s t text i (slice_get d.view.own i) refl

    session_told : (s : SessionId) (t : ℕ) (o : Option Session) → OptTells (Clients.in_session here s t o d)
    unfolding OptTells
    session_told s t None = tt
    session_told s t (Some text) = by_node (same_node text.node here.node)
      where
        by_node : (b : Bool) → OptTells (if b then Clients.go_on_last here s t text (Clients.last_index (Clients.of_session s) d.view.own) d else None)
        by_node true = last_told s t text (Clients.last_index (Clients.of_session s) d.view.own)
        by_node false = tt

    client_told : (s : SessionId) (t : ℕ) → OptTells (Clients.client_rule here s t d)
    unfolding Clients.client_rule
    client_told s t = session_told s t (nth here.scene.sessions s.0)

    opt_told : (o : Option Doing) (r : Doing) → OptTells o → o ≡ Some r → Tells d r
    unfolding OptTells
    opt_told None r h e = absurd (cc e)
    opt_told (Some z) r h e = let is : z ≡ r = cc e in subst (Tells d) is h

    -- ---- a message

    as_told : (z r : Doing) → z.released ≡ d.released → z ≡ r → Tells d r
    as_told z r q e = subst (Tells d) e (quiet_told d z q)

    reply_told : (tx : TxId) (k : KeyId) (a : Value) (by : Option TxId) (fc : ℕ) (r : Doing) → Returns.read_reply here tx k a by fc d ≡ Some r → Tells d r
    unfolding Returns.read_reply
    reply_told tx k a by fc r e = by_own (own_named here tx d) e
      where
        by_phase : (z : Own) (p : Phase) → Returns.reply_phase (tx.seq - 1) z k a by fc p d ≡ Some r → Tells d r
        by_phase z (Remote l) q =
            let s = by_if (same_key l k) (Some (put (tx.seq - 1) (in_phase (Reply k a by fc) z) d)) r q in
            as_told (put (tx.seq - 1) (in_phase (Reply k a by fc) z) d) r refl (cc s.1)
        by_phase z _ q = absurd (cc q)

        by_own : (o : Option Own) → Returns.reply_own (tx.seq - 1) k a by fc o d ≡ Some r → Tells d r
        by_own None q = absurd (cc q)
        by_own (Some z) q = by_phase z z.phase q

    ack_told : (from : NodeId) (tx : TxId) (p : PartId) (ts : ℕ) (r : Doing) → Returns.ack_rule here from tx p ts d ≡ Some r → Tells d r
    unfolding Returns.ack_rule acked
    ack_told from tx p ts r e = by_own (own_named here tx d) e
      where
        by_kept : (z : Own) (o : Option (List Asked)) → Returns.ack_kept (tx.seq - 1) z o d ≡ Some r → Tells d r
        by_kept z None q = absurd (cc q)
        by_kept z (Some parts) q = as_told (acked (tx.seq - 1) parts z d) r refl (cc q)

        by_phase : (z : Own) (ph : Phase) → Returns.ack_phase (tx.seq - 1) z from p ts ph d ≡ Some r → Tells d r
        by_phase z (Global l) q = by_kept z (Returns.with_ack z.parts p from ts) q
        by_phase z _ q = absurd (cc q)

        by_own : (o : Option Own) → Returns.ack_own (tx.seq - 1) from p ts o d ≡ Some r → Tells d r
        by_own None q = absurd (cc q)
        by_own (Some z) q = by_phase z z.phase q

    refuse_told : (from : NodeId) (tx : TxId) (p : PartId) (u : TxId) (k : KeyId) (r : Doing) → Returns.refuse_rule here from tx p u k d ≡ Some r → Tells d r
    unfolding Returns.refuse_rule
    refuse_told from tx p u k r e = by_own (own_named here tx d) refl e
      where
        by_phase : (z : Own) (ph : Phase) → own_named here tx d ≡ Some z → z.phase ≡ ph → Returns.refuse_phase here (tx.seq - 1) z from p u k ph d ≡ Some r → Tells d r
        by_phase z (Global l) n f q =
            let s = by_if (has_asked z.parts p && is_master here.scene from p) (Some (aborted here (tx.seq - 1) (ByConflict u k from) z d)) r q in
            let is : aborted here (tx.seq - 1) (ByConflict u k from) z d ≡ r = cc s.1 in
            subst (Tells d) is (abort_told d (tx.seq - 1) z (ByConflict u k from) (named_owns here tx d z n) (ap is_decided f))
        by_phase z _ n f q = absurd (cc q)

        by_own : (o : Option Own) → own_named here tx d ≡ o → Returns.refuse_own here (tx.seq - 1) from p u k o d ≡ Some r → Tells d r
        by_own None n q = absurd (cc q)
        by_own (Some z) n q = by_phase z z.phase n refl q

    -- the rule of a message that is not a Replicate
    body_told : (from : NodeId) (b : Body) (r : Doing) → ((tx : TxId) (p : PartId) (rs lc : Ts) (ws : List Write) → b ≡ Replicate tx p rs lc ws → ⊥) → Steps.body_rule here from b d ≡ Some r → Tells d r
    unfolding Arrivals.prepare_rule commit_came abort_came
    body_told from (ReadReq tx k rs) r n e = quiet_told d r (read_req_quiet here tx k rs.0 d r e).released
    body_told from (ReadReply tx k a by fc) r n e = reply_told tx k a by fc.0 r e
    body_told from (Prepare tx p rs lc ws) r n e =
        let a : Arrived = record { tx = tx; part = p; rs = rs; lc = lc; writes = ws } in
        quiet_told d r (master_quiet here a (prepare_turn here d.view a) d r e).released
    body_told from (Refusal tx p u k) r n e = refuse_told from tx p u k r e
    body_told from (Replicate tx p rs lc ws) r n e = absurd (n tx p rs lc ws refl)
    body_told from (Ack tx p ts) r n e = ack_told from tx p ts.0 r e
    body_told from (Commit tx p fc ms) r n e =
        let s = by_if (decides here tx p d.view) (Some (commit_came tx p fc.0 ms d)) r e in as_told (commit_came tx p fc.0 ms d) r refl (cc s.1)
    body_told from (Abort tx p) r n e =
        let s = by_if (decides here tx p d.view) (Some (abort_came tx p (drop_held tx p d.view.waiters) d)) r e in
        as_told (abort_came tx p (drop_held tx p d.view.waiters) d) r refl (cc s.1)

  -- the rule of an input, from the last eviction on
  rule_told : (i : Input) (start r : Doing) → rule here i start ≡ Some r → Tells (last_of start (input_moments here i start)) r
  unfolding rule taken
  rule_told (Client s t) start r q = opt_told start (Clients.client_rule here s t start) r (client_told start s t) q
  rule_told (Deliver m) start r q = by_body m.body refl
    where
      run : Steps.body_rule here m.sender m.body start ≡ Some r
      run = (by_if (is_valid here m) (Steps.body_rule here m.sender m.body start) r q).1

      run_at : (b : Body) → m.body ≡ b → Steps.body_rule here m.sender b start ≡ Some r
      run_at b f = ap (λ c. Steps.body_rule here m.sender c start) (sym f) ∙ run

      by_body : (b : Body) → m.body ≡ b → Tells (last_of start (Moments.body_moments here b start)) r
      by_body (Replicate tx part rs l ws) f =
          let a : Arrived = record { tx = tx; part = part; rs = rs; lc = l; writes = ws } in
          let k = take_is here a start r (run_at (Replicate tx part rs l ws) f) in
          let x : Doing = evict here a (length start.view.own) start in
          let at : last_of start (Moments.body_moments here (Replicate tx part rs l ws) start) ≡ x = evict_linked_to here (Deliver m) start m.sender a (m, refl, refl, f, valid here (Deliver m) start r q m refl) (length start.view.own) in
          subst (λ z. Tells z r) (sym at) (quiet_told x r (ap (λ (z : Doing). z.released) (sym k.2)))
      by_body (ReadReq tx k rs) f = body_told start m.sender (ReadReq tx k rs) r (λ a b c g h i. cc i) (run_at (ReadReq tx k rs) f)
      by_body (ReadReply tx k a by fc) f = body_told start m.sender (ReadReply tx k a by fc) r (λ a b c g h i. cc i) (run_at (ReadReply tx k a by fc) f)
      by_body (Prepare tx part rs l ws) f = body_told start m.sender (Prepare tx part rs l ws) r (λ a b c g h i. cc i) (run_at (Prepare tx part rs l ws) f)
      by_body (Refusal tx part u k) f = body_told start m.sender (Refusal tx part u k) r (λ a b c g h i. cc i) (run_at (Refusal tx part u k) f)
      by_body (Ack tx part ts) f = body_told start m.sender (Ack tx part ts) r (λ a b c g h i. cc i) (run_at (Ack tx part ts) f)
      by_body (Commit tx part fc ms) f = body_told start m.sender (Commit tx part fc ms) r (λ a b c g h i. cc i) (run_at (Commit tx part fc ms) f)
      by_body (Abort tx part) f = body_told start m.sender (Abort tx part) r (λ a b c g h i. cc i) (run_at (Abort tx part) f)

  -- between two moments that follow one another
  pub link_told : (start d e : Doing) → Link here input start d e → Tells d e
  link_told start d e (l_evict from a i c) = evict_told a i (evict here a i start)
  link_told start d e (l_rule r q) = rule_told input start r q
  link_told start d e (l_half i r) =
      told_free (InTurn i) InRule (λ q. cc q) (λ k q. cc q) (pass_to here i r) (half_turn here i (pass_to here i r))
      (half_turn-path here input (InTurn i) i (pass_to here i r) refl) (half_turn-path here input InRule i (pass_to here i r) tt)
  link_told start d e (l_close i r) = turn_told i (pass_to here i r)
  link_told start d e (l_wait kept rest w d' q) =
      let p = (waiter_turn-waited here input InWait kept rest w d q).path in told_free InWait InWait (λ z. cc z) (λ k z. cc z) d e p p
