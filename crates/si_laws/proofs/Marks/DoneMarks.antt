-- Where a pair is done by its Commit, the marks that the Commit carries have been raised.
use Rattle.partition_map.specs.declared.rows.Asked.{Asked}
use Rattle.str_model.proofs.OwnFacts.AtHome.{OwnGood, gate_answers}
use Rattle.si_laws.proofs.Stages.LinkedStates.{IsDecidedAs, Kept, Linked, Told, k_ended, k_stands, one_decided, one_of, one_place}
use Rattle.si_laws.proofs.Stages.LinksKept.{answer_known, came, kept_at, kept_known, placed_unknown}
use Rattle.si_laws.proofs.Stages.AllLinksKept.{linked_opening, linked_step}
use Rattle.str_model.proofs.ViewFacts.MarksRise.{index_same, raise_all-rises}
use Rattle.str_model.proofs.Changes.PairChanges.{Knows, one_pair}
use Rattle.str_model.proofs.Changes.VersionChanges.{by_master}
use Rattle.si_laws.proofs.Changes.ReadLetters.{ReadLetter, is_other, letters_act, marks_act, rl_commit, rl_other, rl_reply, rl_request}
use Rattle.si_laws.proofs.Marks.ReplyMarks.{FarReads, far_opening, far_step}
use Rattle.si_laws.proofs.Stages.ParticipantSeats.{own_seat}
use Rattle.str_model.proofs.Changes.PairWords.{Has}
use Rattle.str_model.proofs.Principle.SingleChanges.{Act, Comes, IsHere, Where, act_abort, act_abort_came, act_accept, act_ack, act_ask, act_begin, act_certify, act_close, act_commit, act_commit_came, act_mark, act_put, act_refuse, act_reply, act_request, act_take, act_unwait, act_wait}
use Rattle.str_model.proofs.Principle.Everywhere.{IsSeen, Stage, at_place, during, everywhere, stage_of}
use Rattle.std.proofs.Common.{List, Option, Some, [], ap, arith, false, filter, inl, inr, length, length-set, ltb-true, map, max, refl, slice_get, slice_set, subst, subst₂, sym, true, ℕ, ◌&&◌, ◌++◌, ◌+◌, ◌<◌, ◌∙◌, ◌∷◌, ◌≡◌, ◌≢◌, ◌≤◌, ◌⊎◌}
use Rattle.std.specs.List.{list_all}
use Rattle.str_base.specs.declared.names.Write.{Write}
use Rattle.str_base.specs.declared.names.KeyId.{KeyId}
use Rattle.str_base.specs.declared.names.NodeId.{NodeId}
use Rattle.str_base.specs.declared.names.PartId.{PartId}
use Rattle.str_base.specs.declared.names.Ts.{Ts}
use Rattle.str_base.specs.declared.names.TxId.{TxId}
use Rattle.str_base.specs.Versions.{mark_of, raised, same_node, same_part, same_tx, stamp}
use Rattle.str_model.specs.Acts.{abort_came, aborted, accepted, acked, asked, begun, certified, closed, commit_came, committed, marked, raise_all, refused, replied, requested, taken, waits}
use Rattle.str_model.specs.Acts
use Rattle.str_model.specs.declared.messages.Arrived.{Arrived}
use Rattle.str_model.specs.declared.messages.Body.{Body}
use Rattle.str_model.specs.declared.messages.Body.TheVariants.{Abort, Commit}
use Rattle.str_model.specs.declared.messages.Input.{Input}
use Rattle.str_model.specs.declared.messages.Message.{Message}
use Rattle.str_model.specs.declared.names.KeyMark.{KeyMark}
use Rattle.str_model.specs.Gates.{CommitAt, dep_parts, gate_of}
use Rattle.str_model.specs.Owned.{Owns}
use Rattle.str_model.specs.Proposals.{is_pair}
use Rattle.str_model.specs.Runs.{run}
use Rattle.str_model.specs.Strange.{has_key, has_named, has_node, has_part}
use Rattle.str_model.specs.Strange
use Rattle.str_model.specs.Views.{Committed, Doing, Own, View, is_decided, name_of}
use Rattle.str_scene.specs.declared.names.Event.{Event}
use Rattle.str_scene.specs.Scenes.{Here, Scene, in_part, part_of}
use Rattle.str_base.proofs.Tests.{and_true_left, and_true_right}
use Rattle.str_base.proofs.Lists.{get_set, get_set_other, got_set}
use Rattle.str_base.proofs.Members.{all_in, in_append, in_left, in_right, map_in}
use Rattle.str_base.specs.Members.{In}

-- ---- raised marks

-- each of the marks has been reached
pub reached : (ms : List KeyMark) (marks : List ℕ) (q : KeyMark) → In q ms → q.key.0 < length marks → q.mark.0 ≤ mark_of (raise_all ms marks) q.key
reached [] marks q h less = absurd h
reached (m ∷ ms) marks q (inl e) less =
    let now : m.mark.0 ≤ mark_of (raised marks m.key m.mark.0) m.key = raised_now marks m.key m.mark.0 (omega (arith, less, ap (λ (z : KeyMark). z.key.0) e)) in
    let up = (raise_all-rises ms (raised marks m.key m.mark.0)).above m.key in
    subst (λ (z : KeyMark). z.mark.0 ≤ mark_of (raise_all ms (raised marks m.key m.mark.0)) z.key) e (omega (arith, now, up))
  where
    raised_now : (marks : List ℕ) (k : KeyId) (t : ℕ) → k.0 < length marks → t ≤ mark_of (raised marks k t) k
    raised_now marks k t less = let r = index_same marks k.0 (max (mark_of marks k) t) less in omega (arith, r)
reached (m ∷ ms) marks q (inr h) less = reached ms (raised marks m.key m.mark.0) q h (omega (arith, less, length-set marks m.key.0 (max (mark_of marks m.key) m.mark.0)))

-- a Commit that is not strange names keys of the scene
commit_keys : (here : Here) (tx : TxId) (p : PartId) (fc : Ts) (ms : List KeyMark) (q : KeyMark) → has_named here (Commit tx p fc ms) ≡ true → In q ms → q.key.0 < length here.scene.keys.names
commit_keys here tx p fc ms q e h =
    let a = and_true_right (has_node here tx.node) (has_part here p && (Strange.below_limit fc && (Strange.keys_in here p (map (λ (m : KeyMark). m.key) ms) && list_all (λ (m : KeyMark). Strange.below_limit m.mark) ms))) e in
    let b = and_true_right (has_part here p) (Strange.below_limit fc && (Strange.keys_in here p (map (λ (m : KeyMark). m.key) ms) && list_all (λ (m : KeyMark). Strange.below_limit m.mark) ms)) a in
    let c = and_true_right (Strange.below_limit fc) (Strange.keys_in here p (map (λ (m : KeyMark). m.key) ms) && list_all (λ (m : KeyMark). Strange.below_limit m.mark) ms) b in
    let k = and_true_left (Strange.keys_in here p (map (λ (m : KeyMark). m.key) ms)) (list_all (λ (m : KeyMark). Strange.below_limit m.mark) ms) c in
    let l = and_true_right (Strange.distinct_keys (map (λ (m : KeyMark). m.key) ms)) (list_all (λ (z : KeyId). has_key here z && same_part (part_of here.scene z) p) (map (λ (m : KeyMark). m.key) ms)) k in
    let t = all_in (λ (z : KeyId). has_key here z && same_part (part_of here.scene z) p) (map (λ (m : KeyMark). m.key) ms) q.key l (map_in (λ (m : KeyMark). m.key) ms q h) in
    ltb-true q.key.0 (length here.scene.keys.names) (and_true_left (has_key here q.key) (same_part (part_of here.scene q.key) p) t)

-- ---- each change

module _ (here : Here) (input : Input) (w : Where) (tx : TxId) (p : PartId) where
  -- how the pair becomes done
  pub data MadeDone (d e : Doing) : Type 0 where
    md_was : Has (is_pair tx p) d.view.done → MadeDone d e
    md_refused : (a : Arrived) → IsHere here input d a → (same_tx a.tx tx && same_part a.part p) ≡ true → MadeDone d e
    md_commits : (from : NodeId) (t : TxId) (q : PartId) (fc : Ts) (ms : List KeyMark) → Comes here input from (Commit t q fc ms) → (same_tx t tx && same_part q p) ≡ true → e.view.marks ≡ raise_all ms d.view.marks → MadeDone d e
    md_aborts : (from : NodeId) (t : TxId) (q : PartId) → Comes here input from (Abort t q) → (same_tx t tx && same_part q p) ≡ true → MadeDone d e

  last_one : (xs : List (TxId × PartId)) (t : TxId) (q : PartId) → Has (is_pair tx p) (xs ++ (t, q) ∷ []) → Has (is_pair tx p) xs ⊎ ((same_tx t tx && same_part q p) ≡ true)
  last_one xs t q h = elim (in_append xs ((t, q) ∷ []) h.0 h.1) [
    | inl k ↦ inl (h.0, k, h.2)
    | inr k ↦ (elim k [ inl e ↦ inr (ap (is_pair tx p) e ∙ h.2) | inr z ↦ absurd z ])
  ]

  pub made_done : (d e : Doing) → Act here input w d e → Has (is_pair tx p) e.view.done → MadeDone d e
  unfolding begun marked aborted committed closed certified asked acked requested accepted taken refused waits replied commit_came abort_came
  made_done d e (act_begin place rs d' r g) k = md_was k
  made_done d e (act_mark m t d' rd) k = md_was k
  made_done d e (act_put i x y d' own g) k = md_was k
  made_done d e (act_request i m n x d' own g) k = md_was k
  made_done d e (act_certify i lc snap x d' own f n q) k = md_was k
  made_done d e (act_ask i lc q x d' own f l g) k = md_was k
  made_done d e (act_ack i lc from t q ts parts x d' own c r g) k = md_was k
  made_done d e (act_abort i cause x d' own f y) k = md_was k
  made_done d e (act_commit i lc fc x d' own l n le f g) k = md_was k
  made_done d e (act_close i x d' own q n) k = md_was k
  made_done d e (act_accept a ts d' g m) k = md_was k
  made_done d e (act_refuse a u m d' g q) k = elim (last_one d'.view.done a.tx a.part k) [ inl j ↦ md_was j | inr j ↦ md_refused a g j ]
  made_done d e (act_take from a d' c l) k = md_was k
  made_done d e (act_wait r d' g) k = md_was k
  made_done d e (act_unwait kept rest r d' g) k = md_was k
  made_done d e (act_reply t m rs v u fc d' g) k = md_was k
  made_done d e (act_commit_came from t q fc ms d' c g) k = elim (last_one d'.view.done t q k) [ inl j ↦ md_was j | inr j ↦ md_commits from t q fc ms c j refl ]
  made_done d e (act_abort_came from t q d' c g) k = elim (last_one d'.view.done t q k) [ inl j ↦ md_was j | inr j ↦ md_aborts from t q c j ]

-- ---- over every run

-- the Commits of a pair carry the same marks, and where the pair is done these have been raised
pub record CommitMarks (scene : Scene) (s : Stage) : Type 0 where
  pub linked_ : Linked scene s
  pub far : FarReads scene s
  pub same : (m l : Message) → In m s.sent → In l s.sent → (tx : TxId) (p : PartId) (fc gc : Ts) (ms ls : List KeyMark) → m.body ≡ Commit tx p fc ms → l.body ≡ Commit tx p gc ls → ms ≡ ls
  pub raised_ : (m : Message) → In m s.sent → (n : ℕ) (v : View) → slice_get s.nodes n ≡ Some v → m.receiver.0 ≡ n + 1 → (tx : TxId) (p : PartId) (fc : Ts) (ms : List KeyMark) → m.body ≡ Commit tx p fc ms
      → Has (is_pair tx p) v.done → (q : KeyMark) → In q ms → q.mark.0 ≤ mark_of v.marks q.key

-- who was told of a commit knows the pair
commit_known : (scene : Scene) (s : Stage) → Linked scene s → (m : Message) → In m s.sent → (n : ℕ) (v : View) → slice_get s.nodes n ≡ Some v → m.receiver.0 ≡ n + 1 → (tx : TxId) (p : PartId) (fc : Ts) (ms : List KeyMark)
    → m.body ≡ Commit tx p fc ms → Knows tx p v
commit_known scene s h m k n v there to tx p fc ms b =
    let told : Told scene s m.sender m.receiver (Commit tx p fc ms) = subst (λ (z : Body). Told scene s m.sender m.receiver z) b (h.told m k) in
    let dec = told.1 in
    let seat = told.3 in
    let good : OwnGood (at_place scene dec.n) dec.view.versions dec.i told.0 = h.home dec.n dec.view dec.there dec.i told.0 dec.own in
    let ans = good.answered told.2.0 fc.0 told.2.1 seat.0 seat.1 in
    let ack = answer_known scene s h dec.n dec.view dec.there dec.i told.0 dec.own seat.0 seat.1 ans.0 ans.1 in
    let at_here : seat.0.node.0 ≡ n + 1 = ap (λ (z : NodeId). z.0) seat.3 ∙ to in
    let kept = kept_at scene s seat.0.node (name_of (at_place scene dec.n) dec.i) seat.0.part ans.0 ack n v there at_here in
    subst₂ (λ (u : TxId) (r : PartId). Knows u r v) (sym dec.name) seat.2
    (kept_known scene s v (name_of (at_place scene dec.n) dec.i) seat.0.part ans.0 (filter (in_part scene seat.0.part) ack.all) ack.some kept)

module _ (scene : Scene) (s : Stage) (i : ℕ) (v : View) (input : Input) (w : Where) (d e : Doing) (is : slice_get s.nodes i ≡ Some v) (seen : IsSeen s input) (act : Act (at_place scene i) input w d e)
    (h : CommitMarks scene (during s i d)) where
  home_d : slice_get (slice_set s.nodes i d.view) i ≡ Some d.view
  home_d = get_set s.nodes i v d.view is

  -- an undecided transaction of this node is not decided
  not_decided : (n : ℕ) (x y : Own) → Owns d.view n x → is_decided x.phase ≡ false → IsDecidedAs scene (during s i d) (name_of (at_place scene i) n) y → ⊥
  not_decided n x y own f c =
      let o = one_place scene i c.n n c.i c.name in
      let there : slice_get (slice_set s.nodes i d.view) i ≡ Some c.view = ap (λ (k : ℕ). slice_get (slice_set s.nodes i d.view) k) o.0 ∙ c.there in
      let view : d.view ≡ c.view = one_of d.view c.view (slice_get (slice_set s.nodes i d.view) i) home_d there in
      let own' : slice_get c.view.own c.i ≡ Some x = subst₂ (λ (u : View) (k : ℕ). slice_get u.own k ≡ Some x) view o.1 own in
      let same : x ≡ y = one_of x y (slice_get c.view.own c.i) own' c.own in
      cc (ap (λ (z : Own). is_decided z.phase) same, f, c.decided)

  -- a message that was sent, or one of a commit that happens now
  data CommitFrom (m : Message) (tx : TxId) (p : PartId) (ms : List KeyMark) : Type 0 where
    cf_old : In m (s.sent ++ d.sent) → CommitFrom m tx p ms
    cf_new : (n lc fc : ℕ) (x : Own) (a : Asked) → Owns d.view n x → (is_decided x.phase ≡ false) × (gate_of (at_place scene i) d.view lc x ≡ CommitAt fc)
        → In a x.parts → m.receiver ≡ a.node → tx ≡ name_of (at_place scene i) n → p ≡ a.part → ms ≡ Acts.marks_in (at_place scene i) d.view p x.writes → CommitFrom m tx p ms

  commit_from : (m : Message) → In m (s.sent ++ e.sent) → (tx : TxId) (p : PartId) (fc : Ts) (ms : List KeyMark) → m.body ≡ Commit tx p fc ms → CommitFrom m tx p ms
  commit_from m k tx p fc ms q = elim (in_append s.sent e.sent m k) [
    | inl z ↦ cf_old (in_left s.sent d.sent m z)
    | inr z ↦ (elim (letters_act (at_place scene i) input w d e act m z) [ inl y ↦ cf_old (in_right s.sent d.sent m y) | inr y ↦ fresh_ y ])
  ]
    where
      fresh_ : ReadLetter (at_place scene i) input d e m → CommitFrom m tx p ms
      fresh_ (rl_request n l x own to b) = absurd (cc (b, q))
      fresh_ (rl_reply t l r c o gc g f b y) = absurd (cc (b, q))
      fresh_ (rl_commit n lc gc x a own f g r b) =
          let same : Commit (name_of (at_place scene i) n) a.part (stamp gc) (Acts.marks_in (at_place scene i) d.view a.part x.writes) ≡ Commit tx p fc ms = sym b ∙ q in
          let name : name_of (at_place scene i) n ≡ tx = cc same in
          let part : a.part ≡ p = cc same in
          let marks : Acts.marks_in (at_place scene i) d.view a.part x.writes ≡ ms = cc same in
          cf_new n lc gc x a own f g r (sym name) (sym part) (subst (λ (z : PartId). ms ≡ Acts.marks_in (at_place scene i) d.view z x.writes) part (sym marks))
      fresh_ (rl_other b) = absurd (cc (ap is_other q, b))

  -- the transaction of an old Commit is decided
  old_decided : (m : Message) → In m (s.sent ++ d.sent) → (tx : TxId) (p : PartId) (fc : Ts) (ms : List KeyMark) → m.body ≡ Commit tx p fc ms → (x : Own) × IsDecidedAs scene (during s i d) tx x × ((l : Option ℕ) × (x.phase ≡ Committed l (Some fc.0)))
  old_decided m k tx p fc ms b =
      let told : Told scene (during s i d) m.sender m.receiver (Commit tx p fc ms) = subst (λ (z : Body). Told scene (during s i d) m.sender m.receiver z) b (h.linked_.told m k) in (told.0, told.1, told.2)

  same_e : (m l : Message) → In m (s.sent ++ e.sent) → In l (s.sent ++ e.sent) → (tx : TxId) (p : PartId) (fc gc : Ts) (ms ls : List KeyMark) → m.body ≡ Commit tx p fc ms → l.body ≡ Commit tx p gc ls → ms ≡ ls
  same_e m l k j tx p fc gc ms ls q r = by_age (commit_from m k tx p fc ms q) (commit_from l j tx p gc ls r)
    where
      by_age : CommitFrom m tx p ms → CommitFrom l tx p ls → ms ≡ ls
      by_age (cf_old a) (cf_old b) = h.same m l a b tx p fc gc ms ls q r
      by_age (cf_old a) (cf_new n lc oc x z own f y t name part marks) =
          let o = old_decided m a tx p fc ms q in absurd (not_decided n x o.0 own f.0 (subst (λ (u : TxId). IsDecidedAs scene (during s i d) u o.0) name o.1))
      by_age (cf_new n lc oc x z own f y t name part marks) (cf_old b) =
          let o = old_decided l b tx p gc ls r in absurd (not_decided n x o.0 own f.0 (subst (λ (u : TxId). IsDecidedAs scene (during s i d) u o.0) name o.1))
      by_age (cf_new n lc oc x z own f y t name part marks) (cf_new n' lc' oc' x' z' own' f' y' t' name' part' marks') =
          let o = one_place scene i i n n' (sym name ∙ name') in
          let one : x ≡ x' = one_of x x' (slice_get d.view.own n) own (ap (λ (k : ℕ). slice_get d.view.own k) o.1 ∙ own') in
          marks ∙ (ap (λ (u : Own). Acts.marks_in (at_place scene i) d.view p u.writes) one ∙ sym marks')

  -- a pair of a transaction that commits now is not done at its participant
  not_done_yet : (n lc fc : ℕ) (x : Own) (a : Asked) (j : ℕ) (u : View) → Owns d.view n x → is_decided x.phase ≡ false → gate_of (at_place scene i) d.view lc x ≡ CommitAt fc → In a x.parts
      → slice_get (slice_set s.nodes i d.view) j ≡ Some u → a.node.0 ≡ j + 1 → Has (is_pair (name_of (at_place scene i) n) a.part) u.done → ⊥
  not_done_yet n lc fc x a j u own f g k there to done =
      let ans = gate_answers x.snap lc x.parts (map (dep_parts (at_place scene i) d.view.own) x.snap.deps) fc g a k in
      let ack = answer_known scene (during s i d) h.linked_ i d.view home_d n x own a k ans.0 ans.1 in
      by_kept (kept_at scene (during s i d) a.node (name_of (at_place scene i) n) a.part ans.0 ack j u there to)
    where
      by_kept : {ts : Ts} {ws : List Write} → Kept scene (during s i d) u (name_of (at_place scene i) n) a.part ts ws → ⊥
      by_kept (k_stands f0 y) = f0 done
      by_kept (k_ended y dn dec z) = not_decided n x y own f dec

  raised_e : (m : Message) → In m (s.sent ++ e.sent) → (n : ℕ) (u : View) → slice_get (slice_set s.nodes i e.view) n ≡ Some u → m.receiver.0 ≡ n + 1 → (tx : TxId) (p : PartId) (fc : Ts) (ms : List KeyMark) → m.body ≡ Commit tx p fc ms
      → Has (is_pair tx p) u.done → (q : KeyMark) → In q ms → q.mark.0 ≤ mark_of u.marks q.key
  raised_e m k n u there to tx p fc ms b done q qi = by_age (commit_from m k tx p fc ms b) (got_set s.nodes i n e.view u there)
    where
      by_made : In m (s.sent ++ d.sent) → m.receiver.0 ≡ i + 1 → MadeDone (at_place scene i) input w tx p d e → q.mark.0 ≤ mark_of e.view.marks q.key
      by_made a to (md_was dn) =
          let old = h.raised_ m a i d.view home_d to tx p fc ms b dn q qi in
          let up = (marks_act (at_place scene i) input w d e act).above q.key in omega (arith, old, up)
      by_made a to (md_refused r g is_) =
          let o = one_pair r.tx tx r.part p is_ in
          let knows : Knows tx p d.view = commit_known scene (during s i d) h.linked_ m a i d.view home_d to tx p fc ms b in
          absurd (placed_unknown scene s i v input w d e is seen act h.linked_ r (by_master g) (subst₂ (λ (y : TxId) (z : PartId). Knows y z d.view) (sym o.0) (sym o.1) knows))
      by_made a to (md_commits from t r gc ls c is_ marks) =
          let o = one_pair t tx r p is_ in
          let sent : In c.0 (s.sent ++ d.sent) = in_left s.sent d.sent c.0 (came scene s i v input w d e is seen act h.linked_ c.0 c.1) in
          let body : c.0.body ≡ Commit tx p gc ls = c.3 ∙ (ap (λ (z : TxId). Commit z r gc ls) o.0 ∙ ap (λ (z : PartId). Commit tx z gc ls) o.1) in
          let one : ms ≡ ls = h.same m c.0 a sent tx p fc gc ms ls b body in
          let named : has_named (at_place scene i) c.0.body ≡ true = and_true_right (has_node (at_place scene i) c.0.sender) (has_named (at_place scene i) c.0.body)
          (and_true_right (same_node c.0.receiver (at_place scene i).node) (has_node (at_place scene i) c.0.sender && has_named (at_place scene i) c.0.body) c.4) in
          let key = commit_keys (at_place scene i) t r gc ls q (ap (has_named (at_place scene i)) (sym c.3) ∙ named) (subst (In q) one qi) in
          let far = h.far.marks i d.view home_d in
          let r = reached ls d.view.marks q (subst (In q) one qi) (omega (arith, key, far)) in
          subst (λ (zs : List ℕ). q.mark.0 ≤ mark_of zs q.key) (sym marks) r
      by_made a to (md_aborts from t r c is_) =
          let o = one_pair t tx r p is_ in
          let sent : In c.0 (s.sent ++ d.sent) = in_left s.sent d.sent c.0 (came scene s i v input w d e is seen act h.linked_ c.0 c.1) in
          let told : Told scene (during s i d) c.0.sender c.0.receiver (Abort t r) = subst (λ (z : Body). Told scene (during s i d) c.0.sender c.0.receiver z) c.3 (h.linked_.told c.0 sent) in
          let old = old_decided m a tx p fc ms b in
          let same : told.0 ≡ old.0 = one_decided scene (during s i d) tx told.0 old.0 (subst (λ (z : TxId). IsDecidedAs scene (during s i d) z told.0) o.0 told.1) old.1 in
          absurd (cc (ap (λ (z : Own). z.phase) same, told.2.2, old.2.1))

      by_age : CommitFrom m tx p ms → ((n ≡ i) × (u ≡ e.view)) ⊎ ((n ≢ i) × (slice_get s.nodes n ≡ Some u)) → q.mark.0 ≤ mark_of u.marks q.key
      by_age (cf_old a) (inl z) =
          subst (λ (y : View). q.mark.0 ≤ mark_of y.marks q.key) (sym z.1)
          (by_made a (to ∙ ap (λ (y : ℕ). y + 1) z.0) (made_done (at_place scene i) input w tx p d e act (subst (λ (y : View). Has (is_pair tx p) y.done) z.1 done)))
      by_age (cf_old a) (inr z) = h.raised_ m a n u (get_set_other s.nodes i n d.view z.0 ∙ z.1) to tx p fc ms b done q qi
      by_age (cf_new j lc oc x a own f k r name part marks) (inl z) =
          let seat = own_seat (at_place scene i) d.view.versions j x (h.linked_.home i d.view home_d j x own) a k in
          absurd (seat.other (omega (arith, to, z.0, ap (λ (y : NodeId). y.0) r)))
      by_age (cf_new j lc oc x a own f k r name part marks) (inr z) =
          absurd (not_done_yet j lc oc x a n u own f.0 f.1 k (get_set_other s.nodes i n d.view z.0 ∙ z.1) (ap (λ (y : NodeId). y.0) (sym r) ∙ to)
          (subst₂ (λ (y : TxId) (c : PartId). Has (is_pair y c) u.done) name part done))

  commit_marks_step : CommitMarks scene (during s i e)
  commit_marks_step = record { linked_ = linked_step scene s i v input w d e is seen act h.linked_; far = far_step scene s i v input w d e is seen act h.far; same = same_e; raised_ = raised_e }

pub commit_marks : (scene : Scene) (es : List Event) → CommitMarks scene (stage_of (run scene es))
commit_marks scene es = everywhere scene (CommitMarks scene) (λ s i v input w d e is seen hs a h. commit_marks_step scene s i v input w d e is seen a h) (record {
  linked_ = linked_opening scene;
  far = far_opening scene;
  same = λ m l k. absurd k;
  raised_ = λ m k. absurd k;
}) es
