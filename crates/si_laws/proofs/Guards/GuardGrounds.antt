-- What the guards of reads rest on, in every state of a run, also in the midst of an event.
use Rattle.si_laws.proofs.Order.CertifiedVersions.{BegunAt}
use Rattle.si_laws.proofs.Dependencies.AroundLocal.{Stand}
use Rattle.si_laws.proofs.Dependencies.LeftAlone.{fate_is}
use Rattle.si_laws.proofs.Marks.HomeMarks.{HomeMarked, home_marked_opening, home_marked_step}
use Rattle.si_laws.proofs.Guards.ChainsInTime.{InTime, in_time-act}
use Rattle.si_laws.proofs.Stages.LinkedStates.{one_certified}
use Rattle.si_laws.proofs.Order.OrderAtMaster.{Governed, governed-keeps, governed_opening}
use Rattle.si_laws.proofs.Guards.VersionOrigins.{AllWritten, FinalsHosted, HasWritten, all_written_opening, all_written_step, finals_hosted-act}
use Rattle.str_model.proofs.Changes.VersionChanges.{WaitStep, w_fewer, w_more, wait_step}
use Rattle.si_laws.proofs.Marks.ReplyMarks.{FarReads, far_opening, far_step}
use Rattle.si_laws.proofs.Sources.FinalsReported.{CommittedIn, Reported, reported-act, reported_opening}
use Rattle.str_model.proofs.Principle.SingleChanges.{Act, Arrives, Where, a_prepare, a_read}
use Rattle.str_model.proofs.Principle.Everywhere.{IsSeen, Stage, at_place, during, everywhere, stage_of}
use Rattle.si_laws.specs.Standing.{IsCommitted}
use Rattle.std.proofs.Common.{List, None, Option, Some, [], ap, inl, inr, slice_get, slice_set, subst, subst₂, sym, true, ℕ, ◌∙◌, ◌∷◌, ◌≡◌}
use Rattle.str_base.specs.declared.names.KeyId.{KeyId}
use Rattle.str_base.specs.declared.names.Ts.{Ts}
use Rattle.str_base.specs.declared.names.TxId.{TxId}
use Rattle.str_base.specs.declared.names.Value.{Value}
use Rattle.str_model.specs.Runs.{opening, opening_view, run}
use Rattle.str_model.specs.Turns.{CommittedAt, own_fate, phase_fate}
use Rattle.str_model.specs.Views.{Aborted, Active, CertWait, Closing, Committed, Doing, Global, Local, Own, Phase, ReadWait, Remote, Reply, View}
use Rattle.str_model.specs.declared.messages.Input.{Input}
use Rattle.str_model.specs.declared.messages.Waiter.TheVariants.{Read}
use Rattle.str_model.specs.declared.messages.Waiter.{Waiter}
use Rattle.str_scene.specs.SceneLimits.{IsScene}
use Rattle.str_scene.specs.Scenes.{Here, Scene, hosts_key}
use Rattle.str_scene.specs.declared.names.Event.{Event}
use Rattle.str_base.proofs.Lists.{get_set, get_set_other, got_replicate, got_set}
use Rattle.str_base.proofs.Members.{in_append}
use Rattle.str_base.specs.Members.{In}

-- each read that waits is for a key of the node
abbrev pub WaitersHosted : Here → View → Type 0
WaitersHosted here v = (tx : TxId) (k : KeyId) (rs : Ts) → In (Read tx k rs) v.waiters → hosts_key here k ≡ true

-- what is known of each node by itself
pub record NodeGround (here : Here) (v : View) : Type 0 where
  pub home : HomeMarked here v
  pub timed : InTime v.versions
  pub finals : FinalsHosted here v
  pub waiters : WaitersHosted here v

-- what is known of each state
pub record Grounds (scene : Scene) (s : Stage) : Type 0 where
  pub governed_ : Governed scene s
  pub written : AllWritten scene s
  pub far : FarReads scene s
  pub reported : Reported scene s
  pub nodes : (n : ℕ) (v : View) → slice_get s.nodes n ≡ Some v → NodeGround (at_place scene n) v

waiters-act : (here : Here) (input : Input) (w : Where) (d e : Doing) → Act here input w d e → WaitersHosted here d.view → WaitersHosted here e.view
waiters-act here input w d e act h tx k rs j = by_step (wait_step here input w d e act)
  where
    arrived : (r : Waiter) → Arrives here input d r → r ≡ Read tx k rs → hosts_key here k ≡ true
    arrived r (a_read from t l u c) q = let key : l ≡ k = cc q in subst (λ (z : KeyId). hosts_key here z ≡ true) key c.6
    arrived r (a_prepare from a c u z m) q = absurd (cc q)

    by_step : WaitStep here input d e → hosts_key here k ≡ true
    by_step (w_fewer f) = h tx k rs (f (Read tx k rs) j)
    by_step (w_more r c q) = elim (in_append d.view.waiters (r ∷ []) (Read tx k rs) (subst (In (Read tx k rs)) q j)) [
      | inl z ↦ h tx k rs z
      | inr z ↦ (elim z [ inl y ↦ arrived r c y | inr y ↦ absurd y ])
    ]

module _ (scene : Scene) (ok : IsScene scene) where
  pub grounds_step : (s : Stage) (i : ℕ) (v : View) (input : Input) (w : Where) (d e : Doing) → slice_get s.nodes i ≡ Some v → IsSeen s input → Grounds scene s → Act (at_place scene i) input w d e
      → Grounds scene (during s i d) → Grounds scene (during s i e)
  grounds_step s i v input w d e is seen hs act h =
      let at_d : slice_get (slice_set s.nodes i d.view) i ≡ Some d.view = get_set s.nodes i v d.view is in
      let st : Stand (at_place scene i) d.view = h.governed_.stand i d.view at_d in
      let here : NodeGround (at_place scene i) d.view = h.nodes i d.view at_d in
      let next : NodeGround (at_place scene i) e.view =
      record {
        home = home_marked_step (at_place scene i) ok input w d e act here.home;
        timed = in_time-act (at_place scene i) input w d e act here.timed;
        finals = finals_hosted-act (at_place scene i) input w d e act here.finals;
        waiters = waiters-act (at_place scene i) input w d e act here.waiters;
      } in
      record {
        governed_ = governed-keeps scene s i v input w d e is seen hs.governed_ act h.governed_;
        written = all_written_step scene s i v input w d e is seen act h.governed_.linked_ st h.governed_.masters h.written;
        far = far_step scene s i v input w d e is seen act h.far;
        reported = reported-act scene s i v input is seen d e w act h.reported;
        nodes = λ n u g. elim (got_set s.nodes i n e.view u g) [
          | inl q ↦ subst₂ (λ (k : ℕ) (z : View). NodeGround (at_place scene k) z) (sym q.0) (sym q.1) next
          | inr q ↦ h.nodes n u (get_set_other s.nodes i n d.view q.0 ∙ q.1)
        ];
      }

  pub grounds_opening : Grounds scene (stage_of (opening scene))
  grounds_opening = record {
    governed_ = governed_opening scene;
    written = all_written_opening scene;
    far = far_opening scene;
    reported = reported_opening scene;
    nodes = λ n v g. subst (NodeGround (at_place scene n)) (sym (got_replicate scene.nodes n (opening_view scene) v g))
        (record { home = home_marked_opening (at_place scene n); timed = tt; finals = λ q j k. absurd j; waiters = λ tx k rs j. absurd j });
  }

  pub grounds : (es : List Event) → Grounds scene (stage_of (run scene es))
  grounds es = everywhere scene (Grounds scene) grounds_step grounds_opening es

-- ---- a committed writer

fate_committed : (p : Phase) (f : ℕ) → phase_fate p ≡ CommittedAt f → (lc : Option ℕ) × (p ≡ Committed lc (Some f))
fate_committed (Committed lc (Some g)) f e = let q : g ≡ f = cc e in (lc, ap (λ n. Committed lc (Some n)) q)
fate_committed (Committed lc None) f e = absurd (cc e)
fate_committed (Aborted lc c) f e = absurd (cc e)
fate_committed Active f e = absurd (cc e)
fate_committed (ReadWait k) f e = absurd (cc e)
fate_committed (Remote k) f e = absurd (cc e)
fate_committed (Reply k v by fc) f e = absurd (cc e)
fate_committed CertWait f e = absurd (cc e)
fate_committed (Closing b) f e = absurd (cc e)
fate_committed (Local lc) f e = absurd (cc e)
fate_committed (Global lc) f e = absurd (cc e)

-- the transaction that committed
pub record Committer (scene : Scene) (s : Stage) (u : TxId) (f : ℕ) : Type 0 where
  pub x : Own
  pub at_ : BegunAt scene s u x
  pub is : IsCommitted x f

pub committer : (scene : Scene) (s : Stage) (u : TxId) (f : ℕ) → CommittedIn s u f → Committer scene s u f
committer scene s u f c =
    let o = fate_is (slice_get c.view.own c.place) f c.fate in
    let p = fate_committed o.0.phase f (sym (ap own_fate o.1) ∙ c.fate) in
    let node = c.at_node in
    let seq = c.at_place_ in
    record {
      x = o.0;
      at_ = record { n = c.node; i = c.place; view = c.view; there = c.there; own = o.1; name = λ j. record { node = record { 0 = node j }; seq = seq j } };
      is = p;
    }

-- it has the write in its buffer
pub committed_write : (scene : Scene) (s : Stage) (u : TxId) (f : ℕ) (k : KeyId) (a : Value) (c : Committer scene s u f) → HasWritten scene s u k a → In (record { key = k; value = a }) c.x.writes
committed_write scene s u f k a c h =
    let ws = one_certified scene s c.at_.n c.at_.i c.at_.view c.x u h.rs h.lc h.ws c.at_.there c.at_.own c.at_.name h.certified in subst (In (record { key = k; value = a })) (sym ws.0) h.write
