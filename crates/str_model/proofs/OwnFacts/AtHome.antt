-- A transaction at its origin: its participants, its Local versions, and the answers at which it commits.
pub use Rattle.str_model.specs.NodeFacts.{Answered, AtHome, OwnGood, final_version, seats}
use Rattle.dependency_set.specs.Snapshots.{Snap}
use Rattle.dependency_set.specs.declared.names.Dep.{Dep}
use Rattle.partition_map.specs.declared.rows.Asked.{Asked}
use Rattle.str_model.proofs.Changes.OwnTurns.{DecidesOne, OwnChange, o_aborts, o_acks, o_asks, o_begins, o_certifies, o_closes, o_commits, o_puts, o_rests, own_change, own_stays}
use Rattle.str_model.proofs.Principle.SingleChanges.{Act, Where}
use Rattle.str_model.proofs.Changes.SnapshotsGain.{if_elim}
use Rattle.std.proofs.Common.{List, None, Option, Some, [], ap, arith, eq-eqb, false, filter, find, inl, inr, is_some, map, max, not, option_map, refl, slice_get, slice_set, subst, subst₂, sym, true, ℕ, ◌&&◌, ◌+◌, ◌||◌, ◌∙◌, ◌∷◌, ◌≡◌, ◌≤◌, ◌⊎◌}
use Rattle.str_base.specs.Versions.{insert_all, of_tx, same_node, same_part, settled, stamp, without}
use Rattle.str_base.specs.declared.names.Cause.{Cause}
use Rattle.str_base.specs.declared.names.NodeId.{NodeId}
use Rattle.str_base.specs.declared.names.PartId.{PartId}
use Rattle.str_base.specs.declared.names.Ts.{Ts}
use Rattle.str_base.specs.declared.names.Version.{Version}
use Rattle.str_base.specs.declared.names.Write.{Write}
use Rattle.str_model.specs.Acts.{decided_as, decided_versions, fresh, is_hosted_of, local_version, with_asked}
use Rattle.str_model.specs.Gates
use Rattle.str_model.specs.Gates.{CommitAt, DepParts, ack_or_zero, dep_parts, gate_acks, gate_asks, gate_deps, gate_of, gate_turn, may_ask}
use Rattle.str_model.specs.Owned.{Owns}
use Rattle.str_model.specs.Returns.{with_ack}
use Rattle.str_model.specs.Scripts.{wrote}
use Rattle.str_model.specs.Turns.{greatest}
use Rattle.str_model.specs.Views.{Aborted, Closing, Committed, Doing, Global, Local, Own, View, is_decided, lc_of, name_of}
use Rattle.str_model.specs.declared.messages.Input.{Input}
use Rattle.str_scene.specs.Scenes.{Here, hosts_key, participants}
use Rattle.str_scene.specs.declared.names.TxPlace.{TxPlace}
use Rattle.str_base.proofs.Tests.{and_true_left, and_true_right}
use Rattle.str_base.proofs.Members.{filter_in, find_none, in_all_new, in_map, map_in}
use Rattle.str_base.proofs.Lists.{get_set, got_push, got_set}
use Rattle.str_base.specs.Members.{In}

-- ---- the gate

below_greatest : (xs : List ℕ) (n : ℕ) → In n xs → n ≤ greatest xs
below_greatest [] n h = absurd h
below_greatest (m ∷ xs) n (inl e) = omega (arith, e)
below_greatest (m ∷ xs) n (inr h) = let rec = below_greatest xs n h in omega (arith, rec)

pub gate_answers : (snap : Snap) (lc : ℕ) (parts : List Asked) (wrote : List DepParts) (fc : ℕ) → gate_turn snap lc parts wrote ≡ CommitAt fc → (a : Asked) → In a parts → Answered fc a
unfolding gate_turn
gate_answers snap lc parts wrote fc e a h = by_ask (find (Gates.may_ask wrote) parts) e
  where
    some_ack : (o : Option Ts) → a.ack ≡ o → not (is_some o) ≡ false → Gates.ack_or_zero a ≤ fc → Answered fc a
    some_ack None q n le = absurd (cc n)
    some_ack (Some t) q n le = (t, q, omega (arith, le, ap {A = Option Ts} {B = ℕ} (λ (z : Option Ts). elim z [ None ↦ 0 | Some u ↦ u.0 ]) q))

    by_ack : (o : Option Asked) → find (λ (b : Asked). not (is_some b.ack)) parts ≡ o → Gates.gate_acks lc parts o ≡ CommitAt fc → Answered fc a
    by_ack (Some b) q e = absurd (cc e)
    by_ack None q e =
        let top : max lc (greatest (map Gates.ack_or_zero parts)) ≡ fc = cc e in
        let le : Gates.ack_or_zero a ≤ greatest (map Gates.ack_or_zero parts) = below_greatest (map Gates.ack_or_zero parts) (Gates.ack_or_zero a) (map_in Gates.ack_or_zero parts a h) in
        some_ack a.ack refl (find_none (λ (b : Asked). not (is_some b.ack)) parts a q h) (omega (arith, top, le))

    by_deps : (ds : List Dep) → Gates.gate_deps lc parts ds ≡ CommitAt fc → Answered fc a
    by_deps [] e = by_ack (find (λ (b : Asked). not (is_some b.ack)) parts) refl e
    by_deps (d ∷ ds) e = absurd (cc e)

    by_ask : (o : Option Asked) → Gates.gate_asks snap lc parts o ≡ CommitAt fc → Answered fc a
    by_ask (Some b) e = absurd (cc e)
    by_ask None e = by_deps snap.deps e

-- ---- participants stay

seats_asked : (p : PartId) (parts : List Asked) → seats (with_asked p parts) ≡ seats parts
seats_asked p [] = refl
seats_asked p (a ∷ parts) = ap (λ xs. (a.part, a.node) ∷ xs) (seats_asked p parts)

-- one participant's answer is new
pub data AckStep (from : NodeId) (p : PartId) (ts : ℕ) (old : List Asked) (b : Asked) : Type 0 where
  a_old : In b old → AckStep from p ts old b
  a_new : (a : Asked) → In a old → same_part a.part p ≡ true → same_node a.node from ≡ true → b ≡ record a { ack = Some (stamp ts) } → AckStep from p ts old b

pub record AckedParts (from : NodeId) (p : PartId) (ts : ℕ) (old new : List Asked) : Type 0 where
  pub same_seats : seats new ≡ seats old
  pub each : (b : Asked) → In b new → AckStep from p ts old b

pub acked_parts : (old : List Asked) (p : PartId) (from : NodeId) (ts : ℕ) (new : List Asked) → with_ack old p from ts ≡ Some new → AckedParts from p ts old new
acked_parts [] p from ts new e = absurd (cc e)
acked_parts (a ∷ old) p from ts new e0 =
    (if_elim (λ o. o ≡ Some new → AckedParts from p ts (a ∷ old) new) (same_part a.part p && (same_node a.node from && (a.asked && not (is_some a.ack))))
    (Some (record a { ack = Some (stamp ts) } ∷ old)) (option_map (λ bs. a ∷ bs) (with_ack old p from ts))
    (λ t e. let is : record a { ack = Some (stamp ts) } ∷ old ≡ new = cc e in subst (AckedParts from p ts (a ∷ old)) is (here_ t))
    (λ t e. later_ (with_ack old p from ts) (acked_parts old p from ts) e)) e0
  where
    here_ : (same_part a.part p && (same_node a.node from && (a.asked && not (is_some a.ack)))) ≡ true → AckedParts from p ts (a ∷ old) (record a { ack = Some (stamp ts) } ∷ old)
    here_ t = record {
      same_seats = refl;
      each = λ b h. elim h [
        | inl q ↦ a_new a (inl refl) (and_true_left _ (same_node a.node from && (a.asked && not (is_some a.ack))) t) (and_true_left (same_node a.node from) (a.asked && not (is_some a.ack)) (and_true_right (same_part a.part p) (same_node a.node from && (a.asked && not (is_some a.ack))) t)) (sym q)
        | inr k ↦ a_old (inr k)
      ];
    }

    wider : (b : Asked) → AckStep from p ts old b → AckStep from p ts (a ∷ old) b
    wider b (a_old h) = a_old (inr h)
    wider b (a_new c h s n q) = a_new c (inr h) s n q

    later_ : (o : Option (List Asked)) → ((bs : List Asked) → o ≡ Some bs → AckedParts from p ts old bs) → option_map (λ bs. a ∷ bs) o ≡ Some new → AckedParts from p ts (a ∷ old) new
    later_ None rec e = absurd (cc e)
    later_ (Some bs) rec e =
        let is : a ∷ bs ≡ new = cc e in
        let r = rec bs refl in
        subst (AckedParts from p ts (a ∷ old)) is (record {
          same_seats = ap (λ xs. (a.part, a.node) ∷ xs) r.same_seats;
          each = λ b h. elim h [ inl q ↦ a_old (inl q) | inr k ↦ wider b (r.each b k) ];
        })

-- a participant whose partition was asked is one that was there
pub asked_part : (p : PartId) (parts : List Asked) (b : Asked) → In b (with_asked p parts) → (a : Asked) × In a parts × (b.part ≡ a.part) × (b.node ≡ a.node) × (b.ack ≡ a.ack)
asked_part p parts b h =
    let r = in_map {A = Asked} {B = Asked} (λ (a : Asked). record a { asked = a.asked || same_part a.part p }) parts b h in
    (r.0, r.1, ap (λ (z : Asked). z.part) (sym r.2), ap (λ (z : Asked). z.node) (sym r.2), ap (λ (z : Asked). z.ack) (sym r.2))

-- ---- each change

module _ (here : Here) (d e : View) (stays : (i : ℕ) (v : Version) → v.tx ≡ name_of here i → In v d.versions → In v e.versions ⊎ DecidesOne d e i) where
  local_stays : (i : ℕ) (x y : Own) → Owns e i y → is_decided y.phase ≡ false → (lc : ℕ) (w : Write) → In (local_version here i lc w) d.versions → In (local_version here i lc w) e.versions
  local_stays i x y own f lc w h = elim (stays i (local_version here i lc w) refl h) [
    | inl k ↦ k
    | inr z ↦ (let both : Some z.new ≡ Some y = sym z.is ∙ own in let same : z.new ≡ y = cc both in absurd (cc (ap (λ (u : Own). is_decided u.phase) same, z.decided, f)))
  ]

  rests-good : (i : ℕ) (x : Own) → Owns d i x → Owns e i x → OwnGood here d.versions i x → OwnGood here e.versions i x
  rests-good i x was own g = record {
    seats_are = g.seats_are;
    none = g.none;
    locals = λ f lc l w h. local_stays i x x own f lc w (g.locals f lc l w h);
    has_lc = g.has_lc;
    answered = g.answered;
  }

  -- one that goes on: nothing of a commit is asked of it
  open-good : (i : ℕ) (x y : Own) → Owns e i y → is_decided x.phase ≡ false → is_decided y.phase ≡ false → lc_of y.phase ≡ lc_of x.phase
      → ((lc : ℕ) → lc_of x.phase ≡ Some lc → y.writes ≡ x.writes) → seats y.parts ≡ seats x.parts → (x.parts ≡ [] → y.parts ≡ []) → OwnGood here d.versions i x → OwnGood here e.versions i y
  open-good i x y own f f' l ws ss n g = record {
    seats_are = λ lc q. let q' : lc_of x.phase ≡ Some lc = sym l ∙ q in ss ∙ (g.seats_are lc q' ∙ ap (λ zs. seats (participants here.scene here.node zs)) (sym (ws lc q')));
    none = λ q. n (g.none (sym l ∙ q));
    locals = λ o lc q w h. let q' : lc_of x.phase ≡ Some lc = sym l ∙ q in
        local_stays i x y own f' lc w (g.locals f lc q' w (subst (λ (zs : List Write). In w zs) (ws lc q') h));
    has_lc = λ k fc q. absurd (cc (ap is_decided q, f'));
    answered = λ k fc q a h. absurd (cc (ap is_decided q, f'));
  }

  certified-good : (i lc : ℕ) (snap : Snap) (x : Own) → e.versions ≡ insert_all (map (local_version here i lc) x.writes) d.versions
      → OwnGood here e.versions i (record x { snap = snap; parts = participants here.scene here.node x.writes; phase = Local lc })
  certified-good i lc snap x q = record {
    seats_are = λ m l. refl;
    none = λ l. absurd (cc l);
    locals = λ f m l w h. let is : lc ≡ m = cc l in
        subst (λ (k : ℕ). In (local_version here i k w) e.versions) is
        (subst (λ (vs : List Version). In (local_version here i lc w) vs) (sym q) (in_all_new (map (local_version here i lc) x.writes) d.versions (local_version here i lc w) (map_in (local_version here i lc) x.writes w h)));
    has_lc = λ k fc z. absurd (cc z);
    answered = λ k fc z a h. absurd (cc z);
  }

  aborted-good : (i : ℕ) (cause : Cause) (x : Own) → OwnGood here d.versions i x → OwnGood here e.versions i (decided_as (Aborted (lc_of x.phase) cause) x)
  aborted-good i cause x g = record {
    seats_are = g.seats_are;
    none = g.none;
    locals = λ f m l w h. absurd (cc f);
    has_lc = λ k fc z. absurd (cc z);
    answered = λ k fc z a h. absurd (cc z);
  }

  committed-good : (i lc fc : ℕ) (x : Own) → lc_of x.phase ≡ Some lc → gate_of here d lc x ≡ CommitAt fc → OwnGood here d.versions i x
      → OwnGood here e.versions i (decided_as (Committed (Some lc) (Some fc)) x)
  committed-good i lc fc x l gate g = record {
    seats_are = λ m n. g.seats_are lc l;
    none = λ n. absurd (cc n);
    locals = λ o m n w h. absurd (cc o);
    has_lc = λ k fc' z. let is : k ≡ Some lc = cc z in (lc, is);
    answered = λ k fc' z a h. let is : fc ≡ fc' = cc z in
        subst (λ (n : ℕ). Answered n a) is (gate_answers x.snap lc x.parts (map (dep_parts here d.own) x.snap.deps) fc gate a h);
  }

  closed-good : (i : ℕ) (x : Own) → x.phase ≡ Closing false → OwnGood here d.versions i x → OwnGood here e.versions i (decided_as (Committed None None) x)
  closed-good i x q g = record {
    seats_are = λ m l. absurd (cc l);
    none = λ l. g.none (ap lc_of q);
    locals = λ f m l w h. absurd (cc f);
    has_lc = λ k fc z. absurd (cc z);
    answered = λ k fc z a h. absurd (cc z);
  }

  fresh-good : (i : ℕ) (place : TxPlace) (rs : ℕ) → OwnGood here e.versions i (fresh place rs)
  fresh-good i place rs = record {
    seats_are = λ m l. absurd (cc l);
    none = λ l. refl;
    locals = λ f m l w h. absurd h;
    has_lc = λ k fc z. absurd (cc z);
    answered = λ k fc z a h. absurd h;
  }

  -- one stands anew, and all others as they were
  one_new : (i : ℕ) (x y : Own) → Owns d i x → e.own ≡ slice_set d.own i y → (Owns e i y → OwnGood here e.versions i y) → AtHome here d → AtHome here e
  one_new i x y own q good h j z k = elim (got_set d.own i j y z (subst (λ (xs : List Own). slice_get xs j ≡ Some z) q k)) [
    | inl p ↦ subst₂ (λ (n : ℕ) (u : Own). OwnGood here e.versions n u) (sym p.0) (sym p.1) (good (subst (λ (xs : List Own). slice_get xs i ≡ Some y) (sym q) (get_set d.own i x y own)))
    | inr p ↦ rests-good j z p.1 k (h j z p.1)
  ]

  home-change : (input : Input) → OwnChange here input d e → AtHome here d → AtHome here e
  home-change input (o_rests q) h = λ j z k. let was : Owns d j z = subst (λ (xs : List Own). slice_get xs j ≡ Some z) q k in rests-good j z was k (h j z was)
  home-change input (o_begins place rs q) h = λ j z k. elim (got_push d.own j (fresh place rs) z (subst (λ (xs : List Own). slice_get xs j ≡ Some z) q k)) [
    | inl p ↦ subst (OwnGood here e.versions j) (sym p.1) (fresh-good j place rs)
    | inr was ↦ rests-good j z was k (h j z was)
  ]
  home-change input (o_puts i x y own g q) h =
      one_new i x y own q (λ k. open-good i x y k g.goes.was_open g.goes.is_open g.goes.same_lc (λ lc l. (g.kept lc l).0) (ap seats g.same_parts) (λ n. g.same_parts ∙ n) (h i x own)) h
  home-change input (o_certifies i lc snap x own f n r q s) h = one_new i x _ own q (λ k. certified-good i lc snap x s) h
  home-change input (o_asks i lc p x own f l q) h =
      one_new i x (record x { parts = with_asked p x.parts; phase = Global lc }) own q (λ k. open-good i x _ k f refl (sym l) (λ m n. refl) (seats_asked p x.parts) (λ n. ap (with_asked p) n) (h i x own)) h
  home-change input (o_acks i lc from tx p ts parts x own c g a q) h =
      let new : AckedParts from p ts.0 x.parts parts = acked_parts x.parts p from ts.0 parts a.parts_are in
      one_new i x (record x { parts = parts }) own q (λ k. open-good i x _ k (ap is_decided g) (ap is_decided g) refl (λ m n. refl) new.same_seats (λ n. absurd (cc (sym a.parts_are ∙ ap (λ (zs : List Asked). with_ack zs p from ts.0) n))) (h i x own)) h
  home-change input (o_aborts i cause x own f q) h = one_new i x _ own q (λ k. aborted-good i cause x (h i x own)) h
  home-change input (o_commits i lc fc x own f l gate q s) h = one_new i x _ own q (λ k. committed-good i lc fc x l gate (h i x own)) h
  home-change input (o_closes i x own p q) h = one_new i x _ own q (λ k. closed-good i x p (h i x own)) h

pub home-step : (here : Here) (input : Input) (w : Where) (d e : Doing) → Act here input w d e → AtHome here d.view → AtHome here e.view
home-step here input w d e a h =
    home-change here d.view e.view (λ i v q k. own_stays here input w i v q d e a k) input (own_change here input w d e a) h
