-- What is told of a transaction as final is so: Final versions, Commits and replies, and each read from another transaction.
use Rattle.std.proofs.Common.{Bool, List, None, Some, [], add-sub_cancel, ap, arith, eqb-true, false, if◌then◌else◌, inl, inr, refl, slice_get, slice_set, subst, subst₂, suc, sym, true, ℕ, ◌++◌, ◌+◌, ◌-◌, ◌∙◌, ◌∷◌, ◌≡◌, ◌≢◌, ◌≤◌, ◌⊎◌}
use Rattle.str_base.specs.declared.names.KeyId.{KeyId}
use Rattle.str_base.specs.declared.names.Kind.TheVariants.{Final}
use Rattle.str_base.specs.declared.names.PartId.{PartId}
use Rattle.str_base.specs.declared.names.Ts.{Ts}
use Rattle.str_base.specs.declared.names.TxId.{TxId}
use Rattle.str_base.specs.declared.names.Value.{Value}
use Rattle.str_base.specs.declared.names.Version.{Version}
use Rattle.str_base.specs.Versions.{same_node, stamp}
use Rattle.str_scene.specs.Scenes.{Scene, nth}
use Rattle.str_model.specs.declared.messages.Body.{Body}
use Rattle.str_model.specs.declared.messages.Body.TheVariants.{Commit, ReadReply, ReadReq}
use Rattle.str_model.specs.declared.messages.Input.{Input}
use Rattle.str_model.specs.declared.messages.Input.TheVariants.{Deliver}
use Rattle.str_model.specs.declared.messages.Message.{Message}
use Rattle.str_model.specs.declared.messages.Waiter.{Waiter}
use Rattle.str_model.specs.declared.messages.Waiter.TheVariants.{Read}
use Rattle.str_model.specs.declared.names.KeyMark.{KeyMark}
use Rattle.str_model.specs.declared.names.ReadDone.{ReadDone}
use Rattle.str_model.specs.Owned.{Owns}
use Rattle.str_model.specs.Returns.{own_named}
use Rattle.str_model.specs.Runs.{opening, opening_view}
use Rattle.str_model.specs.Turns.{CommittedAt, own_fate}
use Rattle.str_model.specs.Views.{Doing, Own, Reply, View, is_decided, name_of}
use Rattle.str_model.proofs.Principle.SingleChanges.{Act, Arrives, IsAsked, Where, a_prepare, a_read, asked_before, asked_now}
use Rattle.str_model.proofs.Principle.Everywhere.{IsSeen, Sent, Stage, at_place, during, stage_of}
use Rattle.str_model.proofs.Changes.SnapshotsGain.{Names}
use Rattle.str_model.proofs.Changes.OwnChanges.{OwnStep, own_step, rests, starts_one, turns_one}
use Rattle.si_laws.proofs.Dependencies.AroundLocal.{named_more}
use Rattle.si_laws.proofs.Dependencies.LeftAlone.{carried}
use Rattle.str_model.proofs.OwnFacts.EarlierDependencies.{depends-act}
use Rattle.si_laws.proofs.Dependencies.DependencyFates.{Stays, now_aborted, now_committed, stays-act, stays_open}
use Rattle.si_laws.proofs.Sources.LetterSources.{FinalFrom, IsLetter, LetterFrom, ff_came, ff_commit, ff_old, final-act, letter-act, lf_abort, lf_ack, lf_commit, lf_copy, lf_prepare, lf_refuse, lf_replicate, lf_reply, lf_request}
use Rattle.str_model.proofs.OwnFacts.LocalOwners.{Depends, same_own}
use Rattle.str_model.proofs.Changes.VersionChanges.{WaitStep, w_fewer, w_more, wait_step}
use Rattle.si_laws.proofs.Changes.ReadTurns.{give-is}
use Rattle.si_laws.proofs.Sources.ReadSources.{ReadBack, ReplyBack, pb_came, pb_old, rb_final, rb_local, rb_none, rb_old, rb_reply, reads-act, reply-act}
use Rattle.str_model.proofs.Changes.PairWords.{decided-step}
use Rattle.str_model.proofs.OwnFacts.DependenciesStand.{open_opening}
use Rattle.str_model.proofs.OwnFacts.NodeTimes.{becomes-rs}
use Rattle.si_laws.specs.Standing.{IsAborted}
use Rattle.str_base.proofs.Lists.{get_push, get_set, get_set_other, got_replicate, got_set}
use Rattle.str_base.proofs.Members.{in_append, in_at, in_left, in_right}
use Rattle.str_base.specs.Members.{In}
use Rattle.std.proofs.lemmas.Bool.{cases_eq}

-- the transaction has committed at fc at its own node
pub record CommittedIn (s : Stage) (u : TxId) (fc : ℕ) : Type 0 where
  pub node : ℕ
  pub at_node : u.node.0 ≡ node + 1
  pub place : ℕ
  pub at_place_ : u.seq ≡ place + 1
  pub view : View
  pub there : slice_get s.nodes node ≡ Some view
  pub fate : own_fate (slice_get view.own place) ≡ CommittedAt fc

-- the transaction has begun, with this snapshot timestamp
pub record HasRs (s : Stage) (t : TxId) (rs : ℕ) : Type 0 where
  pub node : ℕ
  pub at_node : t.node.0 ≡ node + 1
  pub place : ℕ
  pub at_place_ : t.seq ≡ place + 1
  pub view : View
  pub there : slice_get s.nodes node ≡ Some view
  pub own : Own
  pub owns : Owns view place own
  pub is_rs : own.snap.rs ≡ rs

-- a read from u by x of the n-th node: u has committed at or below x's snapshot, or it is a dependency of x, or x has aborted
pub data ReadOk (s : Stage) (n : ℕ) (x : Own) (u : TxId) : Type 0 where
  ro_committed : (fc : ℕ) → CommittedIn s u fc → fc ≤ x.snap.rs → ReadOk s n x u
  ro_listed : (k : ℕ) → u.node.0 ≡ n + 1 → u.seq ≡ k + 1 → is_decided x.phase ≡ false → Names u.seq x.snap.deps → ReadOk s n x u
  ro_gone : IsAborted x → ReadOk s n x u

-- Each Final version, each Commit and each reply tells a commit that has happened, requests and those that wait carry the snapshot timestamp of their
-- transaction, and each read is of one that has committed at or below the snapshot, or of a dependency. Why: so a transaction that commits has
-- read from committed ones alone.
pub record Reported (scene : Scene) (s : Stage) : Type 0 where
  pub base : (n : ℕ) (v : View) → slice_get s.nodes n ≡ Some v → Depends (at_place scene n) v
  pub finals : (n : ℕ) (v : View) (q : Version) → slice_get s.nodes n ≡ Some v → In q v.versions → q.kind ≡ Final → CommittedIn s q.tx q.ts.0
  pub commits : (m : Message) (tx : TxId) (p : PartId) (fc : Ts) (ms : List KeyMark) → In m s.sent → m.body ≡ Commit tx p fc ms → CommittedIn s tx fc.0
  pub requests : (m : Message) (tx : TxId) (k : KeyId) (rs : Ts) → In m s.sent → m.body ≡ ReadReq tx k rs → HasRs s tx rs.0
  pub waiting : (n : ℕ) (v : View) (tx : TxId) (k : KeyId) (rs : Ts) → slice_get s.nodes n ≡ Some v → In (Read tx k rs) v.waiters → HasRs s tx rs.0
  pub replies : (m : Message) (tx : TxId) (k : KeyId) (a : Value) (u : TxId) (fc : Ts) → In m s.sent → m.body ≡ ReadReply tx k a (Some u) fc → CommittedIn s u fc.0 × ((rs : ℕ) × HasRs s tx rs × (fc.0 ≤ rs))
  pub phases : (n : ℕ) (v : View) (i : ℕ) (x : Own) (k : KeyId) (a : Value) (u : TxId) (fc : ℕ) → slice_get s.nodes n ≡ Some v → Owns v i x → x.phase ≡ Reply k a (Some u) fc → CommittedIn s u fc × (fc ≤ x.snap.rs)
  pub reads : (n : ℕ) (v : View) (i : ℕ) (x : Own) (r : ReadDone) (u : TxId) → slice_get s.nodes n ≡ Some v → Owns v i x → In r x.reads → r.by ≡ Some u → ReadOk s n x u

-- an own transaction keeps its timestamp
rs_stays : (d e : View) (i : ℕ) (x : Own) → OwnStep d e → Owns d i x → (y : Own) × Owns e i y × (y.snap.rs ≡ x.snap.rs)
rs_stays d e i x (rests q f) own = (x, rw q own, refl)
rs_stays d e i x (starts_one place rs le q f) own = (x, rw q (get_push d.own i _ x own), refl)
rs_stays d e i x (turns_one n z y is q b) own =
    elim (cases_eq i n) [
      | inl s ↦ (y, subst (λ k. Owns e k y) (sym s) (rw q (get_set d.own n z y is)), becomes-rs d d.floor e.floor z y b ∙ ap (λ (u : Own). u.snap.rs) (same_own d n i z x is own (sym s)))
      | inr s ↦ (x, rw q (get_set_other d.own n i y s ∙ own), refl)
    ]

module _ (scene : Scene) (s : Stage) (i : ℕ) (v : View) (input : Input) (is : slice_get s.nodes i ≡ Some v) (seen : IsSeen s input) (d e : Doing) (w : Where)
    (act : Act (at_place scene i) input w d e) (kept : Reported scene (during s i d)) where
  here_d : slice_get (slice_set s.nodes i d.view) i ≡ Some d.view
  here_d = get_set s.nodes i v d.view is

  here_e : slice_get (slice_set s.nodes i e.view) i ≡ Some e.view
  here_e = get_set s.nodes i v e.view is

  step : OwnStep d.view e.view
  step = own_step (at_place scene i) input w d e act

  pub lift_c : (u : TxId) (fc : ℕ) → CommittedIn (during s i d) u fc → CommittedIn (during s i e) u fc
  unfolding here_e step
  lift_c u fc c =
      elim (got_set s.nodes i c.node d.view c.view c.there) [
        | inl r ↦ record {
          node = i;
          at_node = c.at_node ∙ ap (λ n. n + 1) r.0;
          place = c.place;
          at_place_ = c.at_place_;
          view = e.view;
          there = here_e;
          fate = (carried d.view e.view step).fates c.place fc (ap (λ (z : View). own_fate (slice_get z.own c.place)) (sym r.1) ∙ c.fate);
        }
        | inr r ↦ record { node = c.node; at_node = c.at_node; place = c.place; at_place_ = c.at_place_; view = c.view; there = get_set_other s.nodes i c.node e.view r.0 ∙ r.1; fate = c.fate }
      ]

  lift_rs : (t : TxId) (rs : ℕ) → HasRs (during s i d) t rs → HasRs (during s i e) t rs
  unfolding here_e step
  lift_rs t rs c =
      elim (got_set s.nodes i c.node d.view c.view c.there) [
        | inl r ↦ (let k = rs_stays d.view e.view c.place c.own step (subst (λ (z : View). Owns z c.place c.own) r.1 c.owns) in
            record { node = i; at_node = c.at_node ∙ ap (λ n. n + 1) r.0; place = c.place; at_place_ = c.at_place_; view = e.view; there = here_e; own = k.0; owns = k.1; is_rs = k.2 ∙ c.is_rs })
        | inr r ↦ record {
          node = c.node;
          at_node = c.at_node;
          place = c.place;
          at_place_ = c.at_place_;
          view = c.view;
          there = get_set_other s.nodes i c.node e.view r.0 ∙ r.1;
          own = c.own;
          owns = c.owns;
          is_rs = c.is_rs;
        }
      ]

  -- the message of this step was sent
  given : (m : Message) → input ≡ Deliver m → In m (s.sent ++ d.sent)
  given m q = let t : Sent s m = subst (IsSeen s) q seen in in_left s.sent d.sent m (in_at s.sent t.0 m t.1)

  -- a message that was there, or is new
  message_from : (m : Message) → In m (s.sent ++ e.sent) → In m (s.sent ++ d.sent) ⊎ IsLetter (at_place scene i) input d e m
  message_from m h =
      elim (in_append s.sent e.sent m h) [
        | inl j ↦ inl (in_left s.sent d.sent m j)
        | inr j ↦ (elim (letter-act (at_place scene i) input w d e act m j) [ inl k ↦ inl (in_right s.sent d.sent m k) | inr k ↦ inr k ])
      ]

  final_here : (q : Version) → FinalFrom (at_place scene i) input d e q → q.kind ≡ Final → CommittedIn (during s i e) q.tx q.ts.0
  unfolding here_d here_e
  final_here q (ff_old m) k = lift_c q.tx q.ts.0 (kept.finals i d.view q here_d m k)
  final_here q (ff_commit n name f) k =
      record { node = i; at_node = ap (λ (z : TxId). z.node.0) name; place = n; at_place_ = ap (λ (z : TxId). z.seq) name; view = e.view; there = here_e; fate = f }
  final_here q (ff_came from tx p fc ms c name ts) k =
      subst₂ (λ t f. CommittedIn (during s i e) t f) (sym name) (sym ts) (lift_c tx fc.0 (kept.commits c.0 tx p fc ms (given c.0 c.1) c.3))

  commit_letter : (b : Body) (tx : TxId) (p : PartId) (fc : Ts) (ms : List KeyMark) → LetterFrom (at_place scene i) input d e b → b ≡ Commit tx p fc ms → CommittedIn (during s i e) tx fc.0
  unfolding here_e
  commit_letter b tx p fc ms (lf_commit n gc q ns f g) h =
      let both : Commit (name_of (at_place scene i) n) q (stamp gc) ns ≡ Commit tx p fc ms = sym f ∙ h in
      let name : name_of (at_place scene i) n ≡ tx = cc both in
      let ts : stamp gc ≡ fc = cc both in
      record {
        node = i;
        at_node = ap (λ (z : TxId). z.node.0) (sym name);
        place = n;
        at_place_ = ap (λ (z : TxId). z.seq) (sym name);
        view = e.view;
        there = here_e;
        fate = g ∙ ap (λ (z : Ts). CommittedAt z.0) ts;
      }
  commit_letter b tx p fc ms (lf_request n k x own f) h = absurd (cc (sym f ∙ h))
  commit_letter b tx p fc ms (lf_reply t k rs a by gc g f) h = absurd (cc (sym f ∙ h))
  commit_letter b tx p fc ms (lf_prepare n lc q x own op l f) h = absurd (cc (sym f ∙ h))
  commit_letter b tx p fc ms (lf_replicate n lc q x own op l f) h = absurd (cc (sym f ∙ h))
  commit_letter b tx p fc ms (lf_copy a g f) h = absurd (cc (sym f ∙ h))
  commit_letter b tx p fc ms (lf_refuse a by k g t f) h = absurd (cc (sym f ∙ h))
  commit_letter b tx p fc ms (lf_ack t q ts f) h = absurd (cc (sym f ∙ h))
  commit_letter b tx p fc ms (lf_abort t q f) h = absurd (cc (sym f ∙ h))

  request_letter : (b : Body) (tx : TxId) (k : KeyId) (rs : Ts) → LetterFrom (at_place scene i) input d e b → b ≡ ReadReq tx k rs → HasRs (during s i e) tx rs.0
  unfolding here_d
  request_letter b tx k rs (lf_request n l x own f) h =
      let both : ReadReq (name_of (at_place scene i) n) l (stamp x.snap.rs) ≡ ReadReq tx k rs = sym f ∙ h in
      let name : name_of (at_place scene i) n ≡ tx = cc both in
      let ts : stamp x.snap.rs ≡ rs = cc both in
      lift_rs tx rs.0 (record {
        node = i;
        at_node = ap (λ (z : TxId). z.node.0) (sym name);
        place = n;
        at_place_ = ap (λ (z : TxId). z.seq) (sym name);
        view = d.view;
        there = here_d;
        own = x;
        owns = own;
        is_rs = ap (λ (z : Ts). z.0) ts;
      })
  request_letter b tx k rs (lf_commit n gc q ns f g) h = absurd (cc (sym f ∙ h))
  request_letter b tx k rs (lf_reply t l us a by gc g f) h = absurd (cc (sym f ∙ h))
  request_letter b tx k rs (lf_prepare n lc q x own op l f) h = absurd (cc (sym f ∙ h))
  request_letter b tx k rs (lf_replicate n lc q x own op l f) h = absurd (cc (sym f ∙ h))
  request_letter b tx k rs (lf_copy a g f) h = absurd (cc (sym f ∙ h))
  request_letter b tx k rs (lf_refuse a by l g t f) h = absurd (cc (sym f ∙ h))
  request_letter b tx k rs (lf_ack t q ts f) h = absurd (cc (sym f ∙ h))
  request_letter b tx k rs (lf_abort t q f) h = absurd (cc (sym f ∙ h))

  asked_rs : (tx : TxId) (k : KeyId) (rs : ℕ) → IsAsked (at_place scene i) input d tx k rs → HasRs (during s i e) tx rs
  unfolding here_d
  asked_rs tx k rs (asked_now from t q c) = subst (HasRs (during s i e) tx) q (lift_rs tx t.0 (kept.requests c.0 tx k t (given c.0 c.1) c.3))
  asked_rs tx k rs (asked_before t q m) = subst (HasRs (during s i e) tx) q (lift_rs tx t.0 (kept.waiting i d.view tx k t here_d m))

  reply_letter : (b : Body) (tx : TxId) (k : KeyId) (a : Value) (u : TxId) (fc : Ts) → LetterFrom (at_place scene i) input d e b → b ≡ ReadReply tx k a (Some u) fc
      → CommittedIn (during s i e) u fc.0 × ((rs : ℕ) × HasRs (during s i e) tx rs × (fc.0 ≤ rs))
  unfolding here_d
  reply_letter b tx k a u fc (lf_reply t l rs a' by gc g f) h =
      let both : ReadReply t l a' by (stamp gc) ≡ ReadReply tx k a (Some u) fc = sym f ∙ h in
      let name : t ≡ tx = cc both in
      let who : by ≡ Some u = cc both in
      let ts : stamp gc ≡ fc = cc both in
      elim (give-is d.view.versions l rs a' by gc g.gives) [
        | inl n ↦ absurd (let z : None ≡ Some u = sym n ∙ who in cc z)
        | inr q ↦ (let z : Some q.0.tx ≡ Some u = sym q.3 ∙ who in
            let same : q.0.tx ≡ u = cc z in
            let at : q.0.ts.0 ≡ fc.0 = q.4 ∙ ap (λ (y : Ts). y.0) ts in (
              subst₂ (λ y c. CommittedIn (during s i e) y c) same at (lift_c q.0.tx q.0.ts.0 (kept.finals i d.view q.0 here_d q.1 q.2)),
              (rs, subst (λ y. HasRs (during s i e) y rs) name (asked_rs t l rs g.was_asked), omega (arith, q.5, at)),
            ))
      ]
  reply_letter b tx k a u fc (lf_commit n gc q ns f g) h = absurd (cc (sym f ∙ h))
  reply_letter b tx k a u fc (lf_request n l x own f) h = absurd (cc (sym f ∙ h))
  reply_letter b tx k a u fc (lf_prepare n lc q x own op l f) h = absurd (cc (sym f ∙ h))
  reply_letter b tx k a u fc (lf_replicate n lc q x own op l f) h = absurd (cc (sym f ∙ h))
  reply_letter b tx k a u fc (lf_copy c g f) h = absurd (cc (sym f ∙ h))
  reply_letter b tx k a u fc (lf_refuse c by l g t f) h = absurd (cc (sym f ∙ h))
  reply_letter b tx k a u fc (lf_ack t q ts f) h = absurd (cc (sym f ∙ h))
  reply_letter b tx k a u fc (lf_abort t q f) h = absurd (cc (sym f ∙ h))

  wait_here : (tx : TxId) (k : KeyId) (rs : Ts) → WaitStep (at_place scene i) input d e → In (Read tx k rs) e.view.waiters → HasRs (during s i e) tx rs.0
  unfolding here_d
  wait_here tx k rs (w_fewer f) h = lift_rs tx rs.0 (kept.waiting i d.view tx k rs here_d (f (Read tx k rs) h))
  wait_here tx k rs (w_more r c q) h =
      elim (in_append d.view.waiters (r ∷ []) (Read tx k rs) (subst (In (Read tx k rs)) q h)) [
        | inl j ↦ lift_rs tx rs.0 (kept.waiting i d.view tx k rs here_d j)
        | inr j ↦ (elim j [ inl g ↦ arrived r c g | inr z ↦ absurd z ])
      ]
    where
      arrived : (r : Waiter) → Arrives (at_place scene i) input d r → r ≡ Read tx k rs → HasRs (during s i e) tx rs.0
      arrived r (a_read from t l us c) g =
          let name : t ≡ tx = cc g in
          let ts : us ≡ rs = cc g in
          subst₂ (λ y (c : Ts). HasRs (during s i e) y c.0) name ts (lift_rs t us.0 (kept.requests c.0 t l us (given c.0 c.1) c.3))
      arrived r (a_prepare from b c u z mine) g = absurd (cc g)

  -- the transaction that a reply names
  named_place : (tx : TxId) (x : Own) → own_named (at_place scene i) tx d ≡ Some x → (tx.node.0 ≡ i + 1) × (nth d.view.own tx.seq ≡ Some x)
  named_place tx x q = by_node (same_node tx.node (record { 0 = i + 1 })) refl q
    where
      by_node : (b : Bool) → same_node tx.node (record { 0 = i + 1 }) ≡ b → (if b then nth d.view.own tx.seq else None) ≡ Some x → (tx.node.0 ≡ i + 1) × (nth d.view.own tx.seq ≡ Some x)
      by_node true e f = (eqb-true tx.node.0 (i + 1) e, f)
      by_node false e f = absurd (cc f)

  rs_of : (tx : TxId) (x : Own) (rs : ℕ) → own_named (at_place scene i) tx d ≡ Some x → HasRs (during s i d) tx rs → x.snap.rs ≡ rs
  unfolding here_d
  rs_of tx x rs q h =
      let p = named_place tx x q in
      let n : h.node ≡ i = omega (arith, p.0, h.at_node) in
      let view : Some h.view ≡ Some d.view = sym h.there ∙ (ap (λ k. slice_get (slice_set s.nodes i d.view) k) n ∙ here_d) in
      let at : h.view ≡ d.view = cc view in
      let own : nth d.view.own tx.seq ≡ Some h.own = ap (λ k. nth d.view.own k) (h.at_place_ ∙ one h.place) ∙ subst (λ (z : View). slice_get z.own h.place ≡ Some h.own) at h.owns in
      let same : Some x ≡ Some h.own = sym p.1 ∙ own in
      let is_it : x ≡ h.own = cc same in
      ap (λ (z : Own). z.snap.rs) is_it ∙ h.is_rs
    where
      one : (k : ℕ) → k + 1 ≡ suc k
      one k = omega arith

  phase_here : (j : ℕ) (y : Own) (k : KeyId) (a : Value) (u : TxId) (fc : ℕ) → ReplyBack (at_place scene i) input d j y k a (Some u) fc → CommittedIn (during s i e) u fc × (fc ≤ y.snap.rs)
  unfolding here_d
  phase_here j y k a u fc (pb_old x own rs p) = let h = kept.phases i d.view j x k a u fc here_d own p in (lift_c u fc h.0, omega (arith, h.1, rs))
  phase_here j y k a u fc (pb_came x from tx ts n p c q rs) =
      let h = kept.replies c.0 tx k a u ts (given c.0 c.1) c.3 in
      (subst (CommittedIn (during s i e) u) q (lift_c u ts.0 h.0), omega (arith, h.1.2, rs_of tx x h.1.0 n h.1.1, rs, q))

  read_lift : (j : ℕ) (x y : Own) (u : TxId) → Owns d.view j x → Owns e.view j y → y.snap.rs ≡ x.snap.rs → ReadOk (during s i d) i x u → ReadOk (during s i e) i y u
  unfolding here_e step
  read_lift j x y u own own' rs (ro_committed fc c le) = ro_committed fc (lift_c u fc c) (omega (arith, le, rs))
  read_lift j x y u own own' rs (ro_listed k node seq op names) = by_stay (stays-act (at_place scene i) input w d e act j x own op)
    where
      by_stay : Stays w e.view j x → ReadOk (during s i e) i y u
      by_stay (stays_open z o q) =
          let same : z ≡ y = same_own e.view j j z y o own' refl in
          let op' : is_decided y.phase ≡ false = ap (λ (t : Own). is_decided t.phase) (sym same) ∙ q in
          let c = carried d.view e.view step in
          elim (named_more d.view x.snap.rs u.seq x.snap.deps y.snap.deps (c.each j x y own own' op op').1 names) [
            | inl m ↦ ro_listed k node seq op' m
            | inr t ↦ ro_committed t.0
                (record {
                  node = i;
                  at_node = node;
                  place = k;
                  at_place_ = seq;
                  view = e.view;
                  there = here_e;
                  fate = c.fates k t.0 (ap (λ b. own_fate (slice_get d.view.own b)) (sym (ap (λ b. b - 1) seq ∙ add-sub_cancel k 1)) ∙ t.1);
                }) (omega (arith, t.2, rs))
          ]
      by_stay (now_committed t none z o q) = absurd (subst (In names.0) none names.1)
      by_stay (now_aborted z o g) = ro_gone (subst IsAborted (same_own e.view j j z y o own' refl) g)
  read_lift j x y u own own' rs (ro_gone g) =
      ro_gone (subst IsAborted (same_own e.view j j x y (decided-step j x d.view e.view (ap is_decided g.2) step own) own' refl) g)

  read_here : (j : ℕ) (y : Own) (r : ReadDone) (u : TxId) → Owns e.view j y → r.by ≡ Some u → ReadBack d j y r → ReadOk (during s i e) i y u
  unfolding here_d
  read_here j y r u own' by (rb_old x own m rs) = read_lift j x y u own own' rs (kept.reads i d.view j x r u here_d own m by)
  read_here j y r u own' by (rb_none n) = absurd (let z : None ≡ Some u = sym n ∙ by in cc z)
  read_here j y r u own' by (rb_final q m k b le) =
      let z : Some q.tx ≡ Some u = sym b ∙ by in
      let same : q.tx ≡ u = cc z in
      ro_committed q.ts.0 (subst (λ t. CommittedIn (during s i e) t q.ts.0) same (lift_c q.tx q.ts.0 (kept.finals i d.view q here_d m k))) le
  read_here j y r u own' by (rb_local q m k b op f) =
      let z : Some q.tx ≡ Some u = sym b ∙ by in
      let same : q.tx ≡ u = cc z in
      let o = (kept.base i d.view here_d).locals q m k in
      ro_listed o.place (ap (λ (t : TxId). t.node.0) (sym same) ∙ o.node) (ap (λ (t : TxId). t.seq) (sym same) ∙ o.seq) op
      (subst (λ (t : TxId). Names t.seq y.snap.deps) same (f o.owner (ap (λ b. slice_get d.view.own (b - 1)) o.seq ∙ (ap (λ b. slice_get d.view.own b) (add-sub_cancel o.place 1) ∙ o.owns))))
  read_here j y r u own' by (rb_reply x k a fc own rs p) =
      let h = kept.phases i d.view j x k a u fc here_d own (p ∙ ap (λ b. Reply k a b fc) by) in ro_committed fc (lift_c u fc h.0) (omega (arith, h.1, rs))

  read_other : (n : ℕ) (x : Own) (u : TxId) → ReadOk (during s i d) n x u → ReadOk (during s i e) n x u
  read_other n x u (ro_committed fc c le) = ro_committed fc (lift_c u fc c) le
  read_other n x u (ro_listed k node seq op names) = ro_listed k node seq op names
  read_other n x u (ro_gone g) = ro_gone g

  other : (n : ℕ) (z : View) → n ≢ i → slice_get s.nodes n ≡ Some z → slice_get (slice_set s.nodes i d.view) n ≡ Some z
  other n z f g = get_set_other s.nodes i n d.view f ∙ g

  pub reported-act : Reported scene (during s i e)
  unfolding here_d
  reported-act = record {
    base = λ n z g. elim (got_set s.nodes i n e.view z g) [
      | inl r ↦ subst₂ (λ m y. Depends (at_place scene m) y) (sym r.0) (sym r.1) (depends-act (at_place scene i) input w d e act (kept.base i d.view here_d))
      | inr r ↦ kept.base n z (other n z r.0 r.1)
    ];
    finals = λ n z q g m k. elim (got_set s.nodes i n e.view z g) [
      | inl r ↦ final_here q (final-act (at_place scene i) input w d e act q (subst (λ (y : View). In q y.versions) r.1 m) k) k
      | inr r ↦ lift_c q.tx q.ts.0 (kept.finals n z q (other n z r.0 r.1) m k)
    ];
    commits = λ m tx p fc ms h b. elim (message_from m h) [ inl j ↦ lift_c tx fc.0 (kept.commits m tx p fc ms j b) | inr l ↦ commit_letter m.body tx p fc ms l.from b ];
    requests = λ m tx k rs h b. elim (message_from m h) [ inl j ↦ lift_rs tx rs.0 (kept.requests m tx k rs j b) | inr l ↦ request_letter m.body tx k rs l.from b ];
    waiting = λ n z tx k rs g h. elim (got_set s.nodes i n e.view z g) [
      | inl r ↦ wait_here tx k rs (wait_step (at_place scene i) input w d e act) (subst (λ (y : View). In (Read tx k rs) y.waiters) r.1 h)
      | inr r ↦ lift_rs tx rs.0 (kept.waiting n z tx k rs (other n z r.0 r.1) h)
    ];
    replies = λ m tx k a u fc h b. elim (message_from m h) [
      | inl j ↦ (let c = kept.replies m tx k a u fc j b in (lift_c u fc.0 c.0, (c.1.0, lift_rs tx c.1.0 c.1.1, c.1.2)))
      | inr l ↦ reply_letter m.body tx k a u fc l.from b
    ];
    phases = λ n z j x k a u fc g own p. elim (got_set s.nodes i n e.view z g) [
      | inl r ↦ phase_here j x k a u fc (reply-act (at_place scene i) input w d e act j x k a (Some u) fc (subst (λ (y : View). Owns y j x) r.1 own) p)
      | inr r ↦ (let c = kept.phases n z j x k a u fc (other n z r.0 r.1) own p in (lift_c u fc c.0, c.1))
    ];
    reads = λ n z j x r u g own m b. elim (got_set s.nodes i n e.view z g) [
      | inl q ↦ (let o : Owns e.view j x = subst (λ (y : View). Owns y j x) q.1 own in
          subst (λ k. ReadOk (during s i e) k x u) (sym q.0) (read_here j x r u o b (reads-act (at_place scene i) input w d e act j x r o m)))
      | inr q ↦ read_other n x u (kept.reads n z j x r u (other n z q.0 q.1) own m b)
    ];
  }

pub reported_opening : (scene : Scene) → Reported scene (stage_of (opening scene))
reported_opening scene =
    record {
      base = λ n z g. subst (Depends (at_place scene n)) (sym (got_replicate scene.nodes n (opening_view scene) z g)) (open_opening (at_place scene n) scene).base;
      finals = λ n z q g m k. absurd (subst (λ (y : View). In q y.versions) (got_replicate scene.nodes n (opening_view scene) z g) m);
      commits = λ m tx p fc ms h b. absurd h;
      requests = λ m tx k rs h b. absurd h;
      waiting = λ n z tx k rs g h. absurd (subst (λ (y : View). In (Read tx k rs) y.waiters) (got_replicate scene.nodes n (opening_view scene) z g) h);
      replies = λ m tx k a u fc h b. absurd h;
      phases = λ n z j x k a u fc g own p. absurd (let o : Owns (opening_view scene) j x = subst (λ (y : View). Owns y j x) (got_replicate scene.nodes n (opening_view scene) z g) own in cc o);
      reads = λ n z j x r u g own m b. absurd (let o : Owns (opening_view scene) j x = subst (λ (y : View). Owns y j x) (got_replicate scene.nodes n (opening_view scene) z g) own in cc o);
    }
