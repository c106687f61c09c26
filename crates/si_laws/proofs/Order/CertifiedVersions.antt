-- Where the versions of a certified transaction stand: at its origin, and at each participant that has answered.
use Rattle.partition_map.specs.declared.rows.Asked.{Asked}
use Rattle.str_model.proofs.OwnFacts.AtHome.{OwnGood, final_version}
use Rattle.si_laws.proofs.Stages.LinkedStates.{Acknowledged, IsDecidedAs, Kept, Linked, k_ended, k_stands, one_certified, one_decided, one_of, one_place, pre_of}
use Rattle.si_laws.proofs.Stages.LinksKept.{answer_known}
use Rattle.si_laws.proofs.Stages.ParticipantSeats.{of_nth, seat_of, to_nth}
use Rattle.str_model.proofs.Changes.PairWords.{Has}
use Rattle.str_model.proofs.Principle.Everywhere.{Stage, at_place, stage_of}
use Rattle.si_laws.specs.Standing.{Begun, IsCommitted}
use Rattle.std.proofs.Common.{List, Some, ap, eq-eqb, false, filter, inl, inr, refl, slice_get, subst, subst₂, sym, true, ℕ, ◌+◌, ◌∙◌, ◌≡◌, ◌≢◌, ◌≤◌, ◌⊎◌}
use Rattle.str_base.specs.Versions.{settled}
use Rattle.str_base.specs.declared.names.KeyId.{KeyId}
use Rattle.str_base.specs.declared.names.Kind.TheVariants.{Final, Pre}
use Rattle.str_base.specs.declared.names.NodeId.{NodeId}
use Rattle.str_base.specs.declared.names.PartId.{PartId}
use Rattle.str_base.specs.declared.names.Ts.{Ts}
use Rattle.str_base.specs.declared.names.TxId.{TxId}
use Rattle.str_base.specs.declared.names.Version.{Version}
use Rattle.str_base.specs.declared.names.Write.{Write}
use Rattle.str_model.specs.Owned.{Owns}
use Rattle.str_model.specs.Proposals.{is_pair}
use Rattle.str_model.specs.Runs.{World}
use Rattle.str_model.specs.Views.{Committed, Own, View, is_decided, lc_of, name_of}
use Rattle.str_scene.specs.Scenes.{Scene, hosts, in_part, nth, part_of}
use Rattle.str_base.proofs.Members.{filter_in}
use Rattle.std.proofs.lemmas.Bool.{cases_eq}
use Rattle.str_base.specs.Members.{In}

-- the version is of the transaction, of the key, and in the key's partition
pub record IsOf (scene : Scene) (tx : TxId) (k : KeyId) (q : Version) : Type 0 where
  pub tx_is : q.tx ≡ tx
  pub key_is : q.key ≡ k
  pub part_is : q.part ≡ part_of scene k

-- Final at fc, or Pre at or below fc and its pair is not done
pub data ArrivedAs (v : View) (fc : ℕ) (q : Version) : Type 0 where
  a_final : q.kind ≡ Final → q.ts.0 ≡ fc → ArrivedAs v fc q
  a_pre : q.kind ≡ Pre → q.ts.0 ≤ fc → (Has (is_pair q.tx q.part) v.done → ⊥) → ArrivedAs v fc q

-- a begun transaction, by its place at its node
pub record BegunAt (scene : Scene) (s : Stage) (t : TxId) (x : Own) : Type 0 where
  pub n : ℕ
  pub i : ℕ
  pub view : View
  pub there : slice_get s.nodes n ≡ Some view
  pub own : Owns view i x
  pub name : t ≡ name_of (at_place scene n) i

pub begun_at : (scene : Scene) (w : World) (t : TxId) (x : Own) → Begun w t x → BegunAt scene (stage_of w) t x
begun_at scene w t x b =
    let p = of_nth w.nodes t.node.0 b.0 b.1 in
    let q = of_nth b.0.own t.seq x b.2 in
    record { n = p.0; i = q.0; view = b.0; there = p.2; own = q.2; name = λ j. record { node = record { 0 = p.1 j }; seq = q.1 j } }

-- a transaction at its place has begun
pub begun_there : (scene : Scene) (w : World) (u : TxId) (x : Own) (n i : ℕ) (v : View) → slice_get w.nodes n ≡ Some v → Owns v i x → u ≡ name_of (at_place scene n) i → Begun w u x
begun_there scene w u x n i v there own name = (
  v,
  ap (λ (t : TxId). nth w.nodes t.node.0) name ∙ to_nth w.nodes n v there,
  ap (λ (t : TxId). nth v.own t.seq) name ∙ to_nth v.own i x own,
)

-- it stands in one way
pub one_state : (scene : Scene) (s : Stage) (u : TxId) (x y : Own) → BegunAt scene s u x → BegunAt scene s u y → x ≡ y
one_state scene s u x y a b =
    let o = one_place scene a.n b.n a.i b.i (sym a.name ∙ b.name) in
    let view : a.view ≡ b.view = one_of a.view b.view (slice_get s.nodes a.n) a.there (ap (λ (k : ℕ). slice_get s.nodes k) o.0 ∙ b.there) in
    let own : slice_get b.view.own b.i ≡ Some x = subst₂ (λ (v : View) (k : ℕ). slice_get v.own k ≡ Some x) view o.1 a.own in
    one_of x y (slice_get b.view.own b.i) own b.own

-- a write in its partition is among those that a participant is asked for
in_own_part : (scene : Scene) (ws : List Write) (w : Write) → In w ws → In w (filter (in_part scene (part_of scene w.key)) ws)
in_own_part scene ws w h = filter_in (in_part scene (part_of scene w.key)) ws w h (eq-eqb (part_of scene w.key).0 (part_of scene w.key).0 refl)

module _ (scene : Scene) (s : Stage) (h : Linked scene s) where
  -- the Ack of a participant is of the transaction as it stands
  ack_writes : (t : TxId) (x : Own) (st : BegunAt scene s t x) (a : Asked) (ts : Ts) (k : Acknowledged scene s a.node (name_of (at_place scene st.n) st.i) a.part ts) → x.writes ≡ k.all
  ack_writes t x st a ts k = (one_certified scene s st.n st.i st.view x (name_of (at_place scene st.n) st.i) k.rs k.lc k.all st.there st.own refl k.certified).0

  -- of an undecided transaction, at a participant that has answered
  pub answered_stands : (t : TxId) (x : Own) (st : BegunAt scene s t x) → is_decided x.phase ≡ false → (a : Asked) → In a x.parts → (ts : Ts) → a.ack ≡ Some ts → (w : Write) → In w x.writes
      → part_of scene w.key ≡ a.part → (n : ℕ) × (v : View) × (a.node ≡ record { 0 = n + 1 }) × (slice_get s.nodes n ≡ Some v) × In (pre_of t a.part ts w) v.versions
  answered_stands t x st f a k ts q w m p =
      let c = answer_known scene s h st.n st.view st.there st.i x st.own a k ts q in
      let all : x.writes ≡ c.all = ack_writes t x st a ts c in
      let own : In w (filter (in_part scene a.part) c.all) = subst₂ (λ (r : PartId) (zs : List Write). In w (filter (in_part scene r) zs)) p all (in_own_part scene x.writes w m) in
      by_kept c.kept c own
    where
      by_kept : {v : View} {zs : List Write} → Kept scene s v (name_of (at_place scene st.n) st.i) a.part ts zs → (c : Acknowledged scene s a.node (name_of (at_place scene st.n) st.i) a.part ts)
          → In w (filter (in_part scene a.part) c.all) → (n : ℕ) × (v : View) × (a.node ≡ record { 0 = n + 1 }) × (slice_get s.nodes n ≡ Some v) × In (pre_of t a.part ts w) v.versions
      by_kept z c own = (c.n, c.view, c.sender, c.there, subst (λ (u : TxId). In (pre_of u a.part ts w) c.view.versions) (sym st.name) (stands c.kept))
        where
          stands : Kept scene s c.view (name_of (at_place scene st.n) st.i) a.part ts (filter (in_part scene a.part) c.all) → In (pre_of (name_of (at_place scene st.n) st.i) a.part ts w) c.view.versions
          stands (k_stands n g) = g w own
          stands (k_ended y n d g) =
              let mine : IsDecidedAs scene s (name_of (at_place scene st.n) st.i) y = d in
              let o = one_place scene st.n d.n st.i d.i d.name in
              let there' : slice_get s.nodes st.n ≡ Some d.view = ap (λ (k : ℕ). slice_get s.nodes k) o.0 ∙ d.there in
              let view : st.view ≡ d.view = one_of st.view d.view (slice_get s.nodes st.n) st.there there' in
              let own' : slice_get d.view.own d.i ≡ Some x = subst₂ (λ (u : View) (k : ℕ). slice_get u.own k ≡ Some x) view o.1 st.own in
              let same : x ≡ y = one_of x y (slice_get d.view.own d.i) own' d.own in
              absurd (cc (ap (λ (z : Own). is_decided z.phase) same, f, d.decided))

  -- the replica has its version of the write
  abbrev pub FoundAt : TxId → ℕ → Write → NodeId → Type 0
  FoundAt t fc w r = (n : ℕ) × (v : View) × (q : Version) × (r ≡ record { 0 = n + 1 }) × (slice_get s.nodes n ≡ Some v) × In q v.versions × IsOf scene t w.key q × ArrivedAs v fc q

  -- of a committed transaction, at each replica of what it wrote
  pub committed_stands : (t : TxId) (x : Own) (st : BegunAt scene s t x) (fc : ℕ) → IsCommitted x fc → (w : Write) → In w x.writes → (r : NodeId) → hosts scene r (part_of scene w.key) ≡ true
      → FoundAt t fc w r
  committed_stands t x st fc cm w m r hosted = by_place (cases_eq r.0 (st.n + 1))
    where
      good : OwnGood (at_place scene st.n) st.view.versions st.i x
      good = h.home st.n st.view st.there st.i x st.own

      at_seat : (a : Asked) × In a x.parts × (a.part ≡ part_of scene w.key) × (a.node ≡ r) → FoundAt t fc w r
      at_seat z =
          let a : Asked = z.0 in
          let ans = good.answered cm.0 fc cm.1 a z.1 in
          let ts : Ts = ans.0 in
          let c = answer_known scene s h st.n st.view st.there st.i x st.own a z.1 ts ans.1 in
          let all : x.writes ≡ c.all = ack_writes t x st a ts c in
          let own : In w (filter (in_part scene a.part) c.all) = subst₂ (λ (p : PartId) (zs : List Write). In w (filter (in_part scene p) zs)) (sym z.2) all (in_own_part scene x.writes w m) in
          by_kept a z.2 z.3 ts ans.2 c own c.kept
        where
          by_kept : (a : Asked) → a.part ≡ part_of scene w.key → a.node ≡ r → (ts : Ts) → ts.0 ≤ fc → (c : Acknowledged scene s a.node (name_of (at_place scene st.n) st.i) a.part ts)
              → In w (filter (in_part scene a.part) c.all) → Kept scene s c.view (name_of (at_place scene st.n) st.i) a.part ts (filter (in_part scene a.part) c.all) → FoundAt t fc w r
          by_kept a p q ts le c own (k_stands n g) = (
            c.n,
            c.view,
            pre_of (name_of (at_place scene st.n) st.i) a.part ts w,
            sym q ∙ c.sender,
            c.there,
            g w own,
            record { tx_is = sym st.name; key_is = refl; part_is = p },
            a_pre refl le n,
          )
          by_kept a p q ts le c own (k_ended y n d g) =
              let mine : IsDecidedAs scene s (name_of (at_place scene st.n) st.i) x = record { n = st.n; i = st.i; view = st.view; there = st.there; own = st.own; name = refl; decided = ap is_decided cm.1 } in
              let same : y ≡ x = one_decided scene s (name_of (at_place scene st.n) st.i) y x d mine in
              let phase : y.phase ≡ Committed cm.0 (Some fc) = ap (λ (u : Own). u.phase) same ∙ cm.1 in (
                c.n,
                c.view,
                settled fc (pre_of (name_of (at_place scene st.n) st.i) a.part ts w),
                sym q ∙ c.sender,
                c.there,
                g cm.0 fc phase w own,
                record { tx_is = sym st.name; key_is = refl; part_is = p },
                a_final refl refl,
              )

      by_place : (r.0 ≡ st.n + 1) ⊎ (r.0 ≢ st.n + 1) → FoundAt t fc w r
      by_place (inl e) =
          let is : r ≡ record { 0 = st.n + 1 } = λ j. record { 0 = e j } in
          let hosted_here : hosts scene (at_place scene st.n).node (part_of scene w.key) ≡ true = subst (λ (z : NodeId). hosts scene z (part_of scene w.key) ≡ true) is hosted in (
            st.n,
            st.view,
            final_version (at_place scene st.n) st.i fc w,
            is,
            st.there,
            h.home_finals st.n st.view st.there st.i x st.own cm.0 fc cm.1 w m hosted_here,
            record { tx_is = sym st.name; key_is = refl; part_is = refl },
            a_final refl refl,
          )
      by_place (inr e) =
          let l = good.has_lc cm.0 fc cm.1 in
          at_seat (seat_of (at_place scene st.n) st.view.versions st.i l.0 x good (ap lc_of cm.1 ∙ l.1) w m r hosted e)
