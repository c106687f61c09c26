-- What messages, replicas and origins have to do with one another, in every state of a run.
use Rattle.partition_map.specs.declared.rows.Asked.{Asked}
use Rattle.str_model.specs.NodeFacts.{AllHaveFinals, AtHome}
use Rattle.si_laws.proofs.Changes.LettersSent.{AreMarked}
use Rattle.str_model.proofs.Changes.PairChanges.{AtMaster, Quiet}
use Rattle.str_model.proofs.Changes.PairWords.{Has, decided-step}
use Rattle.str_model.proofs.Changes.OwnTurns.{OwnChange, o_aborts, o_acks, o_asks, o_begins, o_certifies, o_closes, o_commits, o_puts, o_rests, own_change}
use Rattle.str_model.proofs.Principle.SingleChanges.{Act, Where}
use Rattle.str_model.proofs.Principle.Everywhere.{Stage, at_place, during}
use Rattle.str_model.proofs.Changes.OwnChanges.{own_step}
use Rattle.std.proofs.Common.{List, Option, Some, ap, arith, filter, inl, inr, refl, slice_get, slice_set, subst, subst₂, sym, true, ℕ, ◌+◌, ◌∙◌, ◌≡◌, ◌≢◌, ◌⊎◌}
use Rattle.str_base.specs.Versions.{settled}
use Rattle.str_base.specs.declared.names.Cause.{Cause}
use Rattle.str_base.specs.declared.names.Kind.TheVariants.{Pre}
use Rattle.str_base.specs.declared.names.NodeId.{NodeId}
use Rattle.str_base.specs.declared.names.PartId.{PartId}
use Rattle.str_base.specs.declared.names.Ts.{Ts}
use Rattle.str_base.specs.declared.names.TxId.{TxId}
use Rattle.str_base.specs.declared.names.Version.{Version}
use Rattle.str_base.specs.declared.names.Write.{Write}
use Rattle.str_model.specs.Acts.{fresh}
use Rattle.str_model.specs.Owned.{Owns}
use Rattle.str_model.specs.Proposals.{is_pair}
use Rattle.str_model.specs.Views.{Aborted, Committed, Doing, Own, View, is_decided, lc_of, name_of}
use Rattle.str_model.specs.declared.messages.Arrived.{Arrived}
use Rattle.str_model.specs.declared.messages.Body.TheVariants.{Abort, Ack, Commit, Prepare, ReadReply, ReadReq, Refuse as Refusal, Replicate}
use Rattle.str_model.specs.declared.messages.Body.{Body}
use Rattle.str_model.specs.declared.messages.Input.{Input}
use Rattle.str_model.specs.declared.messages.Message.{Message}
use Rattle.str_model.specs.declared.messages.Waiter.TheVariants.{Held}
use Rattle.str_scene.specs.Scenes.{Here, Scene, in_part}
use Rattle.str_base.proofs.Lists.{get_push, get_set, get_set_other, got_set}
use Rattle.std.proofs.lemmas.Bool.{cases_eq}
use Rattle.str_base.specs.Members.{In}

-- the transaction is certified, undecided or not, with this snapshot, timestamp and writes; all of that stays
pub record IsCertified (scene : Scene) (s : Stage) (tx : TxId) (rs lc : ℕ) (ws : List Write) : Type 0 where
  pub n : ℕ
  pub i : ℕ
  pub view : View
  pub x : Own
  pub there : slice_get s.nodes n ≡ Some view
  pub own : Owns view i x
  pub name : tx ≡ name_of (at_place scene n) i
  pub lc_is : lc_of x.phase ≡ Some lc
  pub writes : x.writes ≡ ws
  pub rs_is : x.snap.rs ≡ rs

-- the transaction is decided and stands like this; it stays
pub record IsDecidedAs (scene : Scene) (s : Stage) (tx : TxId) (x : Own) : Type 0 where
  pub n : ℕ
  pub i : ℕ
  pub view : View
  pub there : slice_get s.nodes n ≡ Some view
  pub own : Owns view i x
  pub name : tx ≡ name_of (at_place scene n) i
  pub decided : is_decided x.phase ≡ true

-- the Pre version of a write
abbrev pub pre_of : TxId → PartId → Ts → Write → Version
pre_of tx p ts w = record { key = w.key; part = p; tx = tx; ts = ts; value = w.value; kind = Pre }

-- of a pair that was acknowledged: its Pre versions stand at the timestamp of the Ack, or it is done and its transaction is decided,
-- with its Final versions where that committed
pub data Kept (scene : Scene) (s : Stage) (v : View) (tx : TxId) (p : PartId) (ts : Ts) (ws : List Write) : Type 0 where
  k_stands : (Has (is_pair tx p) v.done → ⊥) → ((w : Write) → In w ws → In (pre_of tx p ts w) v.versions) → Kept scene s v tx p ts ws
  k_ended : (x : Own) → Has (is_pair tx p) v.done → IsDecidedAs scene s tx x
      → ((l : Option ℕ) (fc : ℕ) → x.phase ≡ Committed l (Some fc) → (w : Write) → In w ws → In (settled fc (pre_of tx p ts w)) v.versions) → Kept scene s v tx p ts ws

-- an Ack is of a certified transaction of another node, and its sender has kept the pair since
pub record Acknowledged (scene : Scene) (s : Stage) (from : NodeId) (tx : TxId) (p : PartId) (ts : Ts) : Type 0 where
  pub n : ℕ
  pub view : View
  pub sender : from ≡ record { 0 = n + 1 }
  pub there : slice_get s.nodes n ≡ Some view
  pub foreign : tx.node.0 ≢ n + 1
  pub rs : ℕ
  pub lc : ℕ
  pub all : List Write
  pub certified : IsCertified scene s tx rs lc all
  pub some : (w : Write) × In w (filter (in_part scene p) all)
  pub kept : Kept scene s view tx p ts (filter (in_part scene p) all)

-- the writes are those of a certified transaction in the partition
abbrev pub AreWrites : Scene → Stage → TxId → PartId → ℕ → ℕ → List Write → Type 0
AreWrites scene s tx p rs lc ws = (all : List Write) × IsCertified scene s tx rs lc all × (ws ≡ filter (in_part scene p) all)

-- a participant of the decided transaction
abbrev pub IsSeat : Own → PartId → NodeId → Type 0
IsSeat x p n = (a : Asked) × In a x.parts × (a.part ≡ p) × (a.node ≡ n)

-- what stands behind a message that was sent
abbrev pub Told : Scene → Stage → NodeId → NodeId → Body → Type 0
Told scene s from to (Prepare tx p rs lc ws) = AreWrites scene s tx p rs.0 lc.0 ws
Told scene s from to (Replicate tx p rs lc ws) = AreWrites scene s tx p rs.0 lc.0 ws
Told scene s from to (Ack tx p ts) = Acknowledged scene s from tx p ts
Told scene s from to (Commit tx p fc ms) = (x : Own) × IsDecidedAs scene s tx x × ((l : Option ℕ) × (x.phase ≡ Committed l (Some fc.0))) × IsSeat x p to × (from ≡ tx.node)
    × AreMarked ms (filter (in_part scene p) x.writes)
Told scene s from to (Abort tx p) = (x : Own) × IsDecidedAs scene s tx x × ((l : Option ℕ) × (cause : Cause) × (x.phase ≡ Aborted l cause)) × IsSeat x p to × (from ≡ tx.node)
Told scene s from to (ReadReq tx k rs) = Unit {0}
Told scene s from to (ReadReply tx k v by fc) = Unit {0}
Told scene s from to (Refusal tx p by k) = Unit {0}

-- such an Ack was sent
pub record AckSent (s : Stage) (tx : TxId) (p : PartId) (from : NodeId) (ts : Ts) : Type 0 where
  pub message : Message
  pub sent : In message s.sent
  pub sender : message.sender ≡ from
  pub body : message.body ≡ Ack tx p ts

-- what holds of every state of a run. That of origins is needed for the participants of a commit; that of parked Prepares where
-- one is judged again; that of messages where one comes; that of answers where all are kept; and that no Pre version is of a
-- pair that is done is what the decision under way goes by
pub record Linked (scene : Scene) (s : Stage) : Type 0 where
  pub home : (n : ℕ) (v : View) → slice_get s.nodes n ≡ Some v → AtHome (at_place scene n) v
  pub home_finals : (n : ℕ) (v : View) → slice_get s.nodes n ≡ Some v → AllHaveFinals (at_place scene n) v
  pub master : (n : ℕ) (v : View) → slice_get s.nodes n ≡ Some v → AtMaster (at_place scene n) v
  pub quiet : (n : ℕ) (v : View) → slice_get s.nodes n ≡ Some v → (tx : TxId) (p : PartId) → tx.node.0 ≢ n + 1 → Quiet tx p v
  pub told : (m : Message) → In m s.sent → Told scene s m.sender m.receiver m.body
  pub held : (n : ℕ) (v : View) → slice_get s.nodes n ≡ Some v → (a : Arrived) → In (Held a) v.waiters → AreWrites scene s a.tx a.part a.rs.0 a.lc.0 a.writes × ((w : Write) × In w a.writes)
  pub acks : (n : ℕ) (v : View) → slice_get s.nodes n ≡ Some v → (i : ℕ) (x : Own) → Owns v i x → (a : Asked) → In a x.parts → (ts : Ts) → a.ack ≡ Some ts
      → AckSent s (name_of (at_place scene n) i) a.part a.node ts
  pub pres : (n : ℕ) (v : View) → slice_get s.nodes n ≡ Some v → (q : Version) → In q v.versions → q.kind ≡ Pre → Has (is_pair q.tx q.part) v.done → ⊥

-- ---- names

pub one_place : (scene : Scene) (n m i j : ℕ) → name_of (at_place scene n) i ≡ name_of (at_place scene m) j → (n ≡ m) × (i ≡ j)
one_place scene n m i j e =
    (omega (arith, ap (λ (t : TxId). t.node.0) e), omega (arith, ap (λ (t : TxId). t.seq) e))

pub one_of : {A : Type 0} (x y : A) (o : Option A) → o ≡ Some x → o ≡ Some y → x ≡ y
one_of x y o e f = let both : Some x ≡ Some y = sym e ∙ f in cc both

-- a decided transaction is one
pub one_decided : (scene : Scene) (s : Stage) (tx : TxId) (x y : Own) → IsDecidedAs scene s tx x → IsDecidedAs scene s tx y → x ≡ y
one_decided scene s tx x y a b =
    let o = one_place scene a.n b.n a.i b.i (sym a.name ∙ b.name) in
    let there : slice_get s.nodes a.n ≡ Some b.view = ap (λ (k : ℕ). slice_get s.nodes k) o.0 ∙ b.there in
    let view : a.view ≡ b.view = one_of a.view b.view (slice_get s.nodes a.n) a.there there in
    let own : slice_get b.view.own b.i ≡ Some x = subst₂ (λ (v : View) (k : ℕ). slice_get v.own k ≡ Some x) view o.1 a.own in
    one_of x y (slice_get b.view.own b.i) own b.own

-- a certified one is one, with its writes
pub one_certified : (scene : Scene) (s : Stage) (n i : ℕ) (v : View) (x : Own) (tx : TxId) (rs lc : ℕ) (ws : List Write) → slice_get s.nodes n ≡ Some v → Owns v i x → tx ≡ name_of (at_place scene n) i
    → IsCertified scene s tx rs lc ws → (x.writes ≡ ws) × (lc_of x.phase ≡ Some lc) × (x.snap.rs ≡ rs)
one_certified scene s n i v x tx rs lc ws there own name c =
    let o = one_place scene n c.n i c.i (sym name ∙ c.name) in
    let there' : slice_get s.nodes n ≡ Some c.view = ap (λ (k : ℕ). slice_get s.nodes k) o.0 ∙ c.there in
    let view : v ≡ c.view = one_of v c.view (slice_get s.nodes n) there there' in
    let own' : slice_get c.view.own c.i ≡ Some x = subst₂ (λ (u : View) (k : ℕ). slice_get u.own k ≡ Some x) view o.1 own in
    let same : x ≡ c.x = one_of x c.x (slice_get c.view.own c.i) own' c.own in
    (ap (λ (z : Own). z.writes) same ∙ c.writes, ap (λ (z : Own). lc_of z.phase) same ∙ c.lc_is, ap (λ (z : Own). z.snap.rs) same ∙ c.rs_is)

-- ---- what lasts

-- a certified transaction stays certified, with its writes
pub record LastsAs (e : View) (i lc : ℕ) (x : Own) : Type 0 where
  pub y : Own
  pub own : Owns e i y
  pub lc_is : lc_of y.phase ≡ Some lc
  pub writes : y.writes ≡ x.writes
  pub rs : y.snap.rs ≡ x.snap.rs

module _ (here : Here) (input : Input) (d e : View) (i lc : ℕ) (x : Own) (own : Owns d i x) (l : lc_of x.phase ≡ Some lc) where
  same_lasts : Owns e i x → LastsAs e i lc x
  same_lasts o = record { y = x; own = o; lc_is = l; writes = refl; rs = refl }

  set_lasts : (j : ℕ) (x' y : Own) → Owns d j x' → e.own ≡ slice_set d.own j y → (lc_of x'.phase ≡ Some lc → lc_of y.phase ≡ Some lc) → (lc_of x'.phase ≡ Some lc → y.writes ≡ x'.writes) → y.snap.rs ≡ x'.snap.rs
      → LastsAs e i lc x
  set_lasts j x' y o q f g r = by_place (cases_eq i j)
    where
      by_place : (i ≡ j) ⊎ (i ≢ j) → LastsAs e i lc x
      by_place (inl k) =
          let same : x ≡ x' = one_of x x' (slice_get d.own i) own (ap (λ (n : ℕ). slice_get d.own n) k ∙ o) in
          let is : Owns e i y = subst₂ (λ (n : ℕ) (xs : List Own). slice_get xs n ≡ Some y) (sym k) (sym q) (get_set d.own j x' y o) in
          let l' : lc_of x'.phase ≡ Some lc = subst (λ (z : Own). lc_of z.phase ≡ Some lc) same l in
          record { y = y; own = is; lc_is = f l'; writes = g l' ∙ ap (λ (z : Own). z.writes) (sym same); rs = r ∙ ap (λ (z : Own). z.snap.rs) (sym same) }
      by_place (inr k) = same_lasts (subst (λ (xs : List Own). slice_get xs i ≡ Some x) (sym q) (get_set_other d.own j i y k ∙ own))

  pub certified-lasts : OwnChange here input d e → LastsAs e i lc x
  certified-lasts (o_rests q) = same_lasts (subst (λ (xs : List Own). slice_get xs i ≡ Some x) (sym q) own)
  certified-lasts (o_begins place rs q) = same_lasts (subst (λ (xs : List Own). slice_get xs i ≡ Some x) (sym q) (get_push d.own i (fresh place rs) x own))
  certified-lasts (o_puts j x' y o g q) = set_lasts j x' y o q (λ k. g.goes.same_lc ∙ k) (λ k. (g.kept lc k).0) g.goes.snap.rs
  certified-lasts (o_certifies j m snap x' o f n r q s) = set_lasts j x' _ o q (λ k. absurd (cc (n, k))) (λ k. refl) r
  certified-lasts (o_asks j m p x' o f k q) = set_lasts j x' _ o q (λ z. sym k ∙ z) (λ z. refl) refl
  certified-lasts (o_acks j m from tx p ts parts x' o c g a q) = set_lasts j x' _ o q (λ z. z) (λ z. refl) refl
  certified-lasts (o_aborts j cause x' o f q) = set_lasts j x' _ o q (λ z. z) (λ z. refl) refl
  certified-lasts (o_commits j m fc x' o f k gate q s) = set_lasts j x' _ o q (λ z. sym k ∙ z) (λ z. refl) refl
  certified-lasts (o_closes j x' o p q) = set_lasts j x' _ o q (λ z. absurd (cc (ap lc_of p, z))) (λ z. refl) refl

module _ (scene : Scene) (s : Stage) (i : ℕ) (v : View) (input : Input) (w : Where) (d e : Doing) (is : slice_get s.nodes i ≡ Some v) (act : Act (at_place scene i) input w d e) where
  pub certified_stays : (tx : TxId) (rs lc : ℕ) (ws : List Write) → IsCertified scene (during s i d) tx rs lc ws → IsCertified scene (during s i e) tx rs lc ws
  certified_stays tx rs lc ws c = elim (got_set s.nodes i c.n d.view c.view c.there) [
    | inl p ↦ (let own : Owns d.view c.i c.x = subst (λ (u : View). Owns u c.i c.x) p.1 c.own in
        let r = certified-lasts (at_place scene i) input d.view e.view c.i lc c.x own c.lc_is (own_change (at_place scene i) input w d e act) in
        record {
          n = c.n;
          i = c.i;
          view = e.view;
          x = r.y;
          there = subst (λ (k : ℕ). slice_get (slice_set s.nodes i e.view) k ≡ Some e.view) (sym p.0) (get_set s.nodes i v e.view is);
          own = r.own;
          name = c.name;
          lc_is = r.lc_is;
          writes = r.writes ∙ c.writes;
          rs_is = r.rs ∙ c.rs_is;
        })
    | inr q ↦ record { n = c.n; i = c.i; view = c.view; x = c.x; there = get_set_other s.nodes i c.n e.view q.0 ∙ q.1; own = c.own; name = c.name; lc_is = c.lc_is; writes = c.writes; rs_is = c.rs_is }
  ]

  pub decided_stays : (tx : TxId) (x : Own) → IsDecidedAs scene (during s i d) tx x → IsDecidedAs scene (during s i e) tx x
  decided_stays tx x c = elim (got_set s.nodes i c.n d.view c.view c.there) [
    | inl p ↦ (let own : Owns d.view c.i x = subst (λ (u : View). Owns u c.i x) p.1 c.own in
        record {
          n = c.n;
          i = c.i;
          view = e.view;
          there = subst (λ (k : ℕ). slice_get (slice_set s.nodes i e.view) k ≡ Some e.view) (sym p.0) (get_set s.nodes i v e.view is);
          own = decided-step c.i x d.view e.view c.decided (own_step (at_place scene i) input w d e act) own;
          name = c.name;
          decided = c.decided;
        })
    | inr q ↦ record { n = c.n; i = c.i; view = c.view; there = get_set_other s.nodes i c.n e.view q.0 ∙ q.1; own = c.own; name = c.name; decided = c.decided }
  ]
