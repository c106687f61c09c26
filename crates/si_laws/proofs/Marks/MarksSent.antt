-- From a moment on: once a transaction has a mark to carry and commits, each participant is sent it.
use Rattle.partition_map.specs.declared.rows.Asked.{Asked}
use Rattle.si_laws.proofs.Stages.LinkedStates.{one_of}
use Rattle.str_model.proofs.Changes.VersionChanges.{sent_step}
use Rattle.si_laws.proofs.Changes.ReadLetters.{marks_act}
use Rattle.si_laws.proofs.Marks.ReplyMarks.{rs_stays}
use Rattle.str_model.proofs.Principle.SingleChanges.{Act, Where, act_abort, act_abort_came, act_accept, act_ack, act_ask, act_begin, act_certify, act_close, act_commit, act_commit_came, act_mark, act_put, act_refuse, act_reply, act_request, act_take, act_unwait, act_wait}
use Rattle.str_model.proofs.Principle.Everywhere.{Stage, at_place, during}
use Rattle.str_model.proofs.Changes.AnswerChanges.{tell_step}
use Rattle.si_laws.specs.Laws.Marks.{CarriesMark}
use Rattle.std.proofs.Common.{List, None, Option, Some, ap, arith, eq-eqb, false, filter, inl, inr, refl, slice_get, slice_set, subst, sym, ℕ, ◌++◌, ◌∙◌, ◌≡◌, ◌≤◌}
use Rattle.str_base.specs.declared.names.KeyId.{KeyId}
use Rattle.str_base.specs.declared.names.PartId.{PartId}
use Rattle.str_base.specs.declared.names.Write.{Write}
use Rattle.str_base.specs.Versions.{mark_of, stamp}
use Rattle.str_model.specs.Acts.{abort_came, aborted, accepted, acked, asked, begun, certified, closed, commit_came, commit_letters, committed, decided_as, fresh, in_phase, marked, marks_in, refused, replied, requested, taken, waits, with_asked}
use Rattle.str_model.specs.declared.messages.Body.TheVariants.{Commit}
use Rattle.str_model.specs.declared.messages.Input.{Input}
use Rattle.str_model.specs.declared.messages.Message.{Message}
use Rattle.str_model.specs.declared.names.KeyMark.{KeyMark}
use Rattle.str_model.specs.Owned.{Owns}
use Rattle.str_model.specs.Views.{Aborted, Committed, Doing, Global, Local, Own, Remote, View, is_decided, lc_of, letter, name_of}
use Rattle.str_scene.specs.Scenes.{Here, Scene, in_part, part_of, participants}
use Rattle.str_base.proofs.Members.{at_in, filter_in, in_append, in_left, in_right, map_in}
use Rattle.str_base.proofs.Lists.{get_set, get_set_other, got_push, got_set}
use Rattle.str_base.specs.Members.{In}

-- whoever is committed with a final timestamp was so before, or commits now
pub data CommitStep (here : Here) (d e : Doing) : Type 0 where
  cs_none : ((i : ℕ) (x : Own) → Owns e.view i x → (l : Option ℕ) (fc : ℕ) → x.phase ≡ Committed l (Some fc) → Owns d.view i x) → CommitStep here d e
  cs_one : (i lc fc : ℕ) (x : Own) → Owns d.view i x → e.view.own ≡ slice_set d.view.own i (decided_as (Committed (Some lc) (Some fc)) x) → e.sent ≡ d.sent ++ commit_letters here i x fc d.view → CommitStep here d e

module _ (here : Here) (input : Input) (w : Where) where
  set_none : (own : List Own) (j : ℕ) (y : Own) → ((l : Option ℕ) (fc : ℕ) → y.phase ≡ Committed l (Some fc) → ⊥) → (i : ℕ) (x : Own) → slice_get (slice_set own j y) i ≡ Some x → (l : Option ℕ) (fc : ℕ)
      → x.phase ≡ Committed l (Some fc) → slice_get own i ≡ Some x
  set_none own j y f i x g l fc c = elim (got_set own j i y x g) [ inl q ↦ absurd (f l fc (ap (λ (z : Own). z.phase) (sym q.1) ∙ c)) | inr q ↦ q.1 ]

  open_none : (y : Own) → is_decided y.phase ≡ false → (l : Option ℕ) (fc : ℕ) → y.phase ≡ Committed l (Some fc) → ⊥
  open_none y o l fc c = cc (ap is_decided c, o)

  pub commit_step : (d e : Doing) → Act here input w d e → CommitStep here d e
  unfolding begun marked aborted committed closed certified asked acked requested accepted taken refused waits replied commit_came abort_came
  commit_step d e (act_begin place rs d' r g) =
      cs_none (λ i x k l fc c. elim (got_push d'.view.own i (fresh place rs) x k) [ inl q ↦ absurd (open_none (fresh place rs) refl l fc (ap (λ (z : Own). z.phase) (sym q.1) ∙ c)) | inr q ↦ q ])
  commit_step d e (act_mark k t d' rd) = cs_none (λ i x g l fc c. g)
  commit_step d e (act_put j x y d' own g) = cs_none (set_none d'.view.own j y (open_none y g.goes.is_open))
  commit_step d e (act_request j k m x d' own g) = cs_none (set_none d'.view.own j (in_phase (Remote k) x) (open_none (in_phase (Remote k) x) refl))
  commit_step d e (act_certify j lc snap x d' own f n q) =
      let y : Own = record x { snap = snap; parts = participants here.scene here.node x.writes; phase = Local lc } in cs_none (set_none d'.view.own j y (open_none y refl))
  commit_step d e (act_ask j lc p x d' own f l g) = let y : Own = record x { parts = with_asked p x.parts; phase = Global lc } in cs_none (set_none d'.view.own j y (open_none y refl))
  commit_step d e (act_ack j lc from tx p ts parts x d' own c q g) = let y : Own = record x { parts = parts } in cs_none (set_none d'.view.own j y (open_none y (ap is_decided q)))
  commit_step d e (act_abort j cause x d' own f y) = let z : Own = decided_as (Aborted (lc_of x.phase) cause) x in cs_none (set_none d'.view.own j z (λ l fc c. cc c))
  commit_step d e (act_commit j lc fc x d' own l n le f g) = cs_one j lc fc x own.0 refl refl
  commit_step d e (act_close j x d' own p n) = let z : Own = decided_as (Committed None None) x in cs_none (set_none d'.view.own j z (λ l fc c. cc c))
  commit_step d e (act_accept a ts d' g m) = cs_none (λ i x k l fc c. k)
  commit_step d e (act_refuse a u k d' g m) = cs_none (λ i x k l fc c. k)
  commit_step d e (act_take from a d' c l) = cs_none (λ i x k l fc c. k)
  commit_step d e (act_wait r d' g) = cs_none (λ i x k l fc c. k)
  commit_step d e (act_unwait kept rest r d' g) = cs_none (λ i x k l fc c. k)
  commit_step d e (act_reply tx k rs v u fc d' g) = cs_none (λ i x k l fc c. k)
  commit_step d e (act_commit_came from tx p fc ms d' c g) = cs_none (λ i x k l fc c. k)
  commit_step d e (act_abort_came from tx p d' c g) = cs_none (λ i x k l fc c. k)

-- ---- from a moment on

module _ (scene : Scene) (n j : ℕ) (k : KeyId) (r : ℕ) where
  -- each participant of the transaction that holds the key was sent a mark of at least r
  abbrev pub WasSent : List Message → Own → Type 0
  WasSent sent y =
      (a : Asked) → In a y.parts → (w : Write) → In w y.writes → w.key ≡ k → a.part ≡ part_of scene k
      → (m : Message) × In m sent × (m.receiver ≡ a.node) × CarriesMark m.body (name_of (at_place scene n) j) k r

  -- the mark stands at the node, and once the j-th transaction has committed it was sent
  pub record Carries (s : Stage) : Type 0 where
    pub view : View
    pub there : slice_get s.nodes n ≡ Some view
    pub mark : r ≤ mark_of view.marks k
    pub own : Own
    pub owns : Owns view j own
    pub told : (l : Option ℕ) (fc : ℕ) → own.phase ≡ Committed l (Some fc) → WasSent s.sent own

  module _ (s : Stage) (i : ℕ) (v : View) (input : Input) (w : Where) (d e : Doing) (is : slice_get s.nodes i ≡ Some v) (act : Act (at_place scene i) input w d e) where
    sent_more : (m : Message) → In m (s.sent ++ d.sent) → In m (s.sent ++ e.sent)
    sent_more m h = elim (in_append s.sent d.sent m h) [
      | inl z ↦ in_left s.sent e.sent m z
      | inr z ↦ (let new = sent_step (at_place scene i) input w d e act in in_right s.sent e.sent m (subst (In m) (sym new.are) (in_left d.sent new.new m z)))
    ]

    was_more : (y : Own) → WasSent (s.sent ++ d.sent) y → WasSent (s.sent ++ e.sent) y
    was_more y f a h x g q p = let m = f a h x g q p in (m.0, sent_more m.0 m.1, m.2, m.3)

    -- a commit sends the mark
    sent_now : (fc lc : ℕ) (x : Own) → n ≡ i → r ≤ mark_of d.view.marks k → e.sent ≡ d.sent ++ commit_letters (at_place scene i) j x fc d.view → WasSent (s.sent ++ e.sent) (decided_as (Committed (Some lc) (Some fc)) x)
    sent_now fc lc x place le q a h y g key part =
        let mark : KeyMark = record { key = y.key; mark = stamp (mark_of d.view.marks y.key) } in
        let ms : List KeyMark = marks_in (at_place scene i) d.view a.part x.writes in
        let m : Message = letter (at_place scene i) a.node (Commit (name_of (at_place scene i) j) a.part (stamp fc) ms) in
        let in_it : In y (filter (in_part scene a.part) x.writes) = filter_in (in_part scene a.part) x.writes y g (eq-eqb (part_of scene y.key).0 a.part.0 (ap (λ (z : KeyId). (part_of scene z).0) key ∙ ap (λ (z : PartId). z.0) (sym part))) in
        let in_ms : In mark ms = map_in (λ (w : Write). record { key = w.key; mark = stamp (mark_of d.view.marks w.key) }) (filter (in_part scene a.part) x.writes) y in_it in
        let at = at_in ms mark in_ms in
        let sent : In m (commit_letters (at_place scene i) j x fc d.view) =
        map_in (λ (b : Asked). letter (at_place scene i) b.node (Commit (name_of (at_place scene i) j) b.part (stamp fc) (marks_in (at_place scene i) d.view b.part x.writes))) x.parts a h in
        let high : r ≤ mark_of d.view.marks y.key = subst (λ (z : KeyId). r ≤ mark_of d.view.marks z) (sym key) le in
        (m, in_right s.sent e.sent m (subst (In m) (sym q) (in_right d.sent (commit_letters (at_place scene i) j x fc d.view) m sent)), refl, (ap (λ (z : ℕ). name_of (at_place scene z) j) (sym place), at.0, mark, at.1, key, high))

    pub carries_stays : Carries (during s i d) → Carries (during s i e)
    carries_stays h = elim (got_set s.nodes i n d.view h.view h.there) [
      | inl p ↦ here_ p.0 p.1
      | inr q ↦ record { view = h.view; there = get_set_other s.nodes i n e.view q.0 ∙ q.1; mark = h.mark; own = h.own; owns = h.owns; told = λ l fc c. was_more h.own (h.told l fc c) }
    ]
      where
        here_ : n ≡ i → h.view ≡ d.view → Carries (during s i e)
        here_ place same =
            let up = (marks_act (at_place scene i) input w d e act).above k in
            let mark_d : r ≤ mark_of d.view.marks k = subst (λ (z : View). r ≤ mark_of z.marks k) same h.mark in
            let own_d : Owns d.view j h.own = subst (λ (z : View). Owns z j h.own) same h.owns in
            let z = rs_stays (at_place scene i) d e j h.own (tell_step (at_place scene i) input w d e act) own_d in
            record {
              view = e.view;
              there = subst (λ (m : ℕ). slice_get (slice_set s.nodes i e.view) m ≡ Some e.view) (sym place) (get_set s.nodes i v e.view is);
              mark = omega (arith, mark_d, up);
              own = z.0;
              owns = z.1;
              told = λ l fc c. by_step mark_d own_d z.0 z.1 l fc c (commit_step (at_place scene i) input w d e act);
            }
          where
            old_told : Owns d.view j h.own → (z : Own) → Owns d.view j z → (l : Option ℕ) (fc : ℕ) → z.phase ≡ Committed l (Some fc) → WasSent (s.sent ++ e.sent) z
            old_told own_d z own l fc c =
                let one : h.own ≡ z = one_of h.own z (slice_get d.view.own j) own_d own in
                was_more z (subst (λ (y : Own). WasSent (s.sent ++ d.sent) y) one (h.told l fc (ap (λ (y : Own). y.phase) one ∙ c)))

            by_step : r ≤ mark_of d.view.marks k → Owns d.view j h.own → (z : Own) → Owns e.view j z → (l : Option ℕ) (fc : ℕ) → z.phase ≡ Committed l (Some fc) → CommitStep (at_place scene i) d e → WasSent (s.sent ++ e.sent) z
            by_step mark_d own_d z own l fc c (cs_none f) = old_told own_d z (f j z own l fc c) l fc c
            by_step mark_d own_d z own l fc c (cs_one b lc gc x own' q t) = elim (got_set d.view.own b j (decided_as (Committed (Some lc) (Some gc)) x) z (subst (λ (xs : List Own). slice_get xs j ≡ Some z) q own)) [
              | inl y ↦ subst (λ (u : Own). WasSent (s.sent ++ e.sent) u) (sym y.1) (sent_now gc lc x place mark_d (t ∙ ap (λ (m : ℕ). d.sent ++ commit_letters (at_place scene i) m x gc d.view) (sym y.0)))
              | inr y ↦ old_told own_d z y.1 l fc c
            ]
