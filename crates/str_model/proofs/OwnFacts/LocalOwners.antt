-- What becomes of an own transaction on which others depend, and who owns a Local version.
pub use Rattle.str_model.specs.NodeFacts.{LocalOwner, WeakDep, Depends}
use Rattle.std.proofs.Common.{Bool, List, None, Some, ap, eq-eqb, false, filter, inl, inr, map, not, refl, slice_get, slice_set, subst, sym, true, ℕ, ◌+◌, ◌==◌, ◌∙◌, ◌≡◌, ◌≢◌, ◌⊎◌}
use Rattle.str_base.specs.declared.names.Kind.TheVariants.{Local as LocalKind}
use Rattle.str_base.specs.declared.names.PartId.{PartId}
use Rattle.str_base.specs.declared.names.TxId.{TxId}
use Rattle.str_base.specs.declared.names.Version.{Version}
use Rattle.str_model.specs.declared.messages.Arrived.{Arrived}
use Rattle.str_model.specs.declared.messages.Input.{Input}
use Rattle.str_base.specs.Versions.{finalise, insert_all, of_pair, of_tx, same_tx, settled, without}
use Rattle.str_model.specs.Acts.{abort_came, aborted, accepted, acked, asked, begun, certified, closed, commit_came, committed, decided_as, decided_versions, is_hosted_of, local_version, marked, pre_version, refused, replied, requested, taken, waits}
use Rattle.str_model.specs.Owned.{Owns}
use Rattle.str_model.specs.Proposals.{proposed}
use Rattle.str_model.specs.Turns.{phase_fate}
use Rattle.str_model.specs.Turns
use Rattle.str_model.specs.Views.{Aborted, Active, CertWait, Closing, Committed, Doing, Global, Local, Own, Phase, ReadWait, Remote, Reply, View, is_decided, lc_of, name_of}
use Rattle.str_scene.specs.Scenes.{Here, participants}
use Rattle.str_model.proofs.Principle.SingleChanges.{Act, Where, act_abort, act_abort_came, act_accept, act_ack, act_ask, act_begin, act_certify, act_close, act_commit, act_commit_came, act_mark, act_put, act_refuse, act_reply, act_request, act_take, act_unwait, act_wait}
use Rattle.str_model.proofs.Changes.OwnChanges.{Becomes, OwnStep, aborts, certifies, closes, commits, goes_on, own_step, rests, starts_one, turns_one}
use Rattle.str_base.proofs.Lists.{get_push, get_set, get_set_other}
use Rattle.std.proofs.lemmas.Bool.{cases_eq}
use Rattle.str_base.proofs.Members.{in_filter, in_insert_all, in_map, in_without}
use Rattle.str_base.specs.Members.{In}

pub open-fate : (p : Phase) → is_decided p ≡ false → phase_fate p ≡ Turns.Open
open-fate Active e = refl
open-fate (ReadWait k) e = refl
open-fate (Remote k) e = refl
open-fate (Reply k v by fc) e = refl
open-fate CertWait e = refl
open-fate (Closing w) e = refl
open-fate (Local lc) e = refl
open-fate (Global lc) e = refl
open-fate (Committed lc fc) e = absurd (cc e)
open-fate (Aborted lc c) e = absurd (cc e)

-- whether a phase is decided, with its equation
pub by_decided : {P : Type 0} (p : Phase) → (is_decided p ≡ true → P) → (is_decided p ≡ false → P) → P
by_decided {P} p yes_ no_ = by_test (is_decided p) refl
  where
    by_test : (b : Bool) → is_decided p ≡ b → P
    by_test true e = yes_ e
    by_test false e = no_ e

pub same_own : (v : View) (i j : ℕ) (x y : Own) → Owns v i x → Owns v j y → i ≡ j → x ≡ y
same_own v i j x y a b e = let k : Some x ≡ Some y = sym a ∙ (ap (λ m. slice_get v.own m) e ∙ b) in cc k

-- what becomes of an own transaction on which others depend
pub record After (e : View) (p : ℕ) (o : Own) : Type 0 where
  pub owner : Own
  pub owns : Owns e p owner
  pub rs : owner.snap.rs ≡ o.snap.rs
  pub lc : lc_of owner.phase ≡ lc_of o.phase

pub after_own : (d e : View) (p lc : ℕ) (o : Own) → OwnStep d e → Owns d p o → lc_of o.phase ≡ Some lc → After e p o
after_own d e p lc o (rests q f) own l = record { owner = o; owns = rw q own; rs = refl; lc = refl }
after_own d e p lc o (starts_one place rs le q f) own l = record { owner = o; owns = rw q (get_push d.own p _ o own); rs = refl; lc = refl }
after_own d e p lc o (turns_one n x y is q b) own l = by_place (cases_eq p n)
  where
    at_y : Owns e n y
    at_y = rw q (get_set d.own n x y is)

    moved : x ≡ o → Becomes d d.floor e.floor x y → After e n o
    moved s (goes_on r f) = record { owner = y; owns = at_y; rs = r.snap.rs ∙ ap (λ z. z.snap.rs) s; lc = r.same_lc ∙ ap (λ z. lc_of z.phase) s }
    moved s (certifies m op none ph pl ex lt f) = absurd (cc (none, ap (λ z. lc_of z.phase) s, l))
    moved s (commits m fc op some le r f) =
        record { owner = y; owns = at_y; rs = ap (λ z. z.snap.rs) r ∙ ap (λ z. z.snap.rs) s; lc = ap (λ z. lc_of z.phase) r ∙ (sym some ∙ ap (λ z. lc_of z.phase) s) }
    moved s (closes op none r f) = absurd (cc (none, ap (λ z. lc_of z.phase) s, l))
    moved s (aborts cause op r f) =
        record { owner = y; owns = at_y; rs = ap (λ z. z.snap.rs) r ∙ ap (λ z. z.snap.rs) s; lc = ap (λ z. lc_of z.phase) r ∙ ap (λ z. lc_of z.phase) s }

    by_place : (p ≡ n) ⊎ (p ≢ n) → After e p o
    by_place (inl s) = subst (λ m. After e m o) (sym s) (moved (same_own d n p x o is own (sym s)) b)
    by_place (inr s) = record { owner = o; owns = rw q (get_set_other d.own n p y s ∙ own); rs = refl; lc = refl }

-- ---- Local versions

-- the owner of a version that stays is still one, where its state is told by After
pub still_owner : (here : Here) (d e : View) (u : Version) (o : LocalOwner here d u) → OwnStep d e → ((n : ℕ) (y : Own) → o.place ≡ n → Owns e n y → is_decided y.phase ≡ true → ⊥)
    → LocalOwner here e u
still_owner here d e u o s never =
    let a = after_own d e o.place u.ts.0 o.owner s o.owns o.lc in
    record {
      place = o.place;
      owner = a.owner;
      node = o.node;
      seq = o.seq;
      owns = a.owns;
      lc = a.lc ∙ o.lc;
      open_ = by_decided a.owner.phase (λ h. absurd (never o.place a.owner refl a.owns h)) (λ h. h);
    }

-- whether an own transaction is decided in this change
abbrev pub DecidesOne : (v : View) (f g : ℕ) (x y : Own) → Becomes v f g x y → Type 0
DecidesOne v f g x y (goes_on r e) = ⊥
DecidesOne v f g x y (certifies m op none ph pl ex lt e) = ⊥
DecidesOne v f g x y (commits m fc op some le r e) = Unit {0}
DecidesOne v f g x y (closes op none r e) = Unit {0}
DecidesOne v f g x y (aborts cause op r e) = Unit {0}

abbrev pub Decides : (d e : View) → OwnStep d e → Type 0
Decides d e (rests q f) = ⊥
Decides d e (starts_one place rs le q f) = ⊥
Decides d e (turns_one n x y is q b) = DecidesOne d d.floor e.floor x y b

pub stays_open : (d e : View) (s : OwnStep d e) → (Decides d e s → ⊥) → (n : ℕ) (o y : Own) → Owns d n o → is_decided o.phase ≡ false → Owns e n y → is_decided y.phase ≡ true → ⊥
stays_open d e (rests q f) plain n o y own op new dec =
    cc (ap (λ z. is_decided z.phase) (same_own d n n o y own (rw (← q) new) refl), op, dec)
stays_open d e (starts_one place rs le q f) plain n o y own op new dec =
    cc (ap (λ z. is_decided z.phase) (same_own e n n o y (rw q (get_push d.own n _ o own)) new refl), op, dec)
stays_open d e (turns_one m x z is q b) plain n o y own op new dec = by_place (cases_eq n m)
  where
    is_z : y ≡ z → (b' : Becomes d d.floor e.floor x z) → (DecidesOne d d.floor e.floor x z b' → ⊥) → ⊥
    is_z s (goes_on r f) never = cc (ap (λ k. is_decided k.phase) s, r.is_open, dec)
    is_z s (certifies mm op2 none ph pl ex lt f) never = cc (ap (λ k. is_decided k.phase) s, ap is_decided ph, dec)
    is_z s (commits mm fc op some le r f) never = never tt
    is_z s (closes op none r f) never = never tt
    is_z s (aborts cause op r f) never = never tt

    by_place : (n ≡ m) ⊎ (n ≢ m) → ⊥
    by_place (inl s) = is_z (same_own e n m y z new (rw q (get_set d.own m x z is)) s) b plain
    by_place (inr s) =
        cc (ap (λ k. is_decided k.phase) (same_own d n n o y own (sym (get_set_other d.own m n z s) ∙ (rw (← q) new)) refl), op, dec)

module _ (here : Here) (input : Input) (w : Where) where
  pub open_local : (d e : Doing) (s : OwnStep d.view e.view) → (Decides d.view e.view s → ⊥) → (u : Version) → LocalOwner here d.view u → LocalOwner here e.view u
  open_local d e s plain u o =
      still_owner here d.view e.view u o s (λ n y p own dec. stays_open d.view e.view s plain o.place o.owner y o.owns o.open_ (subst (λ m. Owns e.view m y) (sym p) own) dec)

  -- versions of a transaction that is taken out are gone
  pub gone : (i : ℕ) (vs : List Version) (u : Version) (place : ℕ) → In u (without (of_tx (name_of here i)) vs) → u.tx.node.0 ≡ here.node.0 → u.tx.seq ≡ place + 1 → place ≢ i
  gone i vs u place h node seq q =
      let t : not (same_tx u.tx (name_of here i)) ≡ true = (in_filter (λ v. not (of_tx (name_of here i) v)) vs u h).1 in
      let a : (u.tx.node.0 == here.node.0) ≡ true = eq-eqb u.tx.node.0 here.node.0 node in
      let b : (u.tx.seq == i + 1) ≡ true = eq-eqb u.tx.seq (i + 1) (seq ∙ ap (λ n. n + 1) q) in
      cc (t, a, b)

  -- a Local version among what a change leaves was there before
  pub placed_old : (a : Arrived) (ts : ℕ) (d : Doing) (u : Version) → In u (insert_all (map (pre_version a ts) a.writes) d.view.versions) → u.kind ≡ LocalKind → In u d.view.versions
  placed_old a ts d u h k =
      elim (in_insert_all (map (pre_version a ts) a.writes) d.view.versions u h) [
        | inl j ↦ (let r = in_map (pre_version a ts) a.writes u j in absurd (cc (ap (λ z. z.kind) r.2, k)))
        | inr j ↦ j
      ]

  pub final_old : (tx : TxId) (p : PartId) (fc : ℕ) (d : Doing) (u : Version) → In u (finalise (of_pair tx p) fc d.view.versions) → u.kind ≡ LocalKind → In u d.view.versions
  final_old tx p fc d u h k =
      elim (in_insert_all (map (settled fc) (filter (of_pair tx p) d.view.versions)) (without (of_pair tx p) d.view.versions) u h) [
        | inl j ↦ (let r = in_map (settled fc) (filter (of_pair tx p) d.view.versions) u j in absurd (cc (ap (λ z. z.kind) r.2, k)))
        | inr j ↦ in_without (of_pair tx p) d.view.versions u j
      ]

  pub decided_old : (i fc : ℕ) (d : Doing) (u : Version) → In u (decided_versions here (name_of here i) fc d.view.versions) → u.kind ≡ LocalKind → In u (without (of_tx (name_of here i)) d.view.versions)
  decided_old i fc d u h k =
      elim (in_insert_all (map (settled fc) (filter (is_hosted_of here (name_of here i)) d.view.versions)) (without (of_tx (name_of here i)) d.view.versions) u h) [
        | inl j ↦ (let r = in_map (settled fc) (filter (is_hosted_of here (name_of here i)) d.view.versions) u j in absurd (cc (ap (λ z. z.kind) r.2, k)))
        | inr j ↦ j
      ]

  -- where the decided transaction is another one
  pub other_local : (d e : Doing) (s : OwnStep d.view e.view) (i : ℕ) (z : Own) (u : Version) (o : LocalOwner here d.view u) → e.view.own ≡ slice_set d.view.own i z → o.place ≢ i
      → LocalOwner here e.view u
  other_local d e s i z u o q ne =
      record { place = o.place; owner = o.owner; node = o.node; seq = o.seq; owns = rw q (get_set_other d.view.own i o.place z ne ∙ o.owns); lc = o.lc; open_ = o.open_ }

  unfoldable pub Locals : Doing → Type 0
  Locals d = (u : Version) → In u d.view.versions → u.kind ≡ LocalKind → LocalOwner here d.view u

  pub locals-act : (d e : Doing) → Act here input w d e → Locals d → Locals e
  unfolding Locals own_step begun marked aborted committed closed certified asked acked requested accepted taken refused waits replied commit_came abort_came
  locals-act d e (act_begin place rs d' r h) l u i k = open_local d' e (own_step here input w d' e (act_begin place rs d' r h)) (λ z. z) u (l u i k)
  locals-act d e (act_mark m t d' rd) l u i k = open_local d' e (own_step here input w d' e (act_mark m t d' rd)) (λ z. z) u (l u i k)
  locals-act d e (act_put n x y d' own g) l u i k = open_local d' e (own_step here input w d' e (act_put n x y d' own g)) (λ z. z) u (l u i k)
  locals-act d e (act_request n key m x d' own g) l u i k = open_local d' e (own_step here input w d' e (act_request n key m x d' own g)) (λ z. z) u (l u i k)
  locals-act d e (act_ask n lc p x d' own f h g) l u i k = open_local d' e (own_step here input w d' e (act_ask n lc p x d' own f h g)) (λ z. z) u (l u i k)
  locals-act d e (act_ack n lc from tx p ts parts x d' own c q g) l u i k = open_local d' e (own_step here input w d' e (act_ack n lc from tx p ts parts x d' own c q g)) (λ z. z) u (l u i k)
  locals-act d e (act_refuse a v m d' h t) l u i k = open_local d' e (own_step here input w d' e (act_refuse a v m d' h t)) (λ z. z) u (l u i k)
  locals-act d e (act_wait r d' h) l u i k = open_local d' e (own_step here input w d' e (act_wait r d' h)) (λ z. z) u (l u i k)
  locals-act d e (act_unwait kept rest r d' h) l u i k = open_local d' e (own_step here input w d' e (act_unwait kept rest r d' h)) (λ z. z) u (l u i k)
  locals-act d e (act_reply tx m rs v b fc d' h) l u i k = open_local d' e (own_step here input w d' e (act_reply tx m rs v b fc d' h)) (λ z. z) u (l u i k)
  locals-act d e (act_accept a ts d' h m) l u i k = open_local d' e (own_step here input w d' e (act_accept a ts d' h m)) (λ z. z) u (l u (placed_old a ts d' u i k) k)
  locals-act d e (act_take from a d' c t) l u i k = open_local d' e (own_step here input w d' e (act_take from a d' c t)) (λ z. z) u (l u (placed_old a (proposed d'.view a) d' u i k) k)
  locals-act d e (act_commit_came from tx p fc ms d' c h) l u i k =
      open_local d' e (own_step here input w d' e (act_commit_came from tx p fc ms d' c h)) (λ z. z) u (l u (final_old tx p fc.0 d' u i k) k)
  locals-act d e (act_abort_came from tx p d' c h) l u i k =
      open_local d' e (own_step here input w d' e (act_abort_came from tx p d' c h)) (λ z. z) u (l u (in_without (of_pair tx p) d'.view.versions u i) k)
  locals-act d e (act_certify n lc snap x d' own f none c) l u i k =
      elim (in_insert_all (map (local_version here n lc) x.writes) d'.view.versions u i) [
        | inl j ↦ (let r = in_map (local_version here n lc) x.writes u j in
            record {
              place = n;
              owner = record x { snap = snap; parts = participants here.scene here.node x.writes; phase = Local lc };
              node = ap (λ (z : Version). z.tx.node.0) (sym r.2);
              seq = ap (λ (z : Version). z.tx.seq) (sym r.2);
              owns = get_set d'.view.own n x (record x { snap = snap; parts = participants here.scene here.node x.writes; phase = Local lc }) own.0;
              lc = ap (λ (z : Version). Some z.ts.0) r.2;
              open_ = refl;
            })
        | inr j ↦ open_local d' e (own_step here input w d' e (act_certify n lc snap x d' own f none c)) (λ z. z) u (l u j k)
      ]
  locals-act d e (act_abort n cause x d' own f y) l u i k =
      let o = l u (in_without (of_tx (name_of here n)) d'.view.versions u i) k in
      other_local d' e (own_step here input w d' e (act_abort n cause x d' own f y)) n (decided_as (Aborted (lc_of x.phase) cause) x) u o refl
      (gone n d'.view.versions u o.place i o.node o.seq)
  locals-act d e (act_commit n lc fc x d' own l' m le f g) l u i k =
      let j = decided_old n fc d' u i k in
      let o = l u (in_without (of_tx (name_of here n)) d'.view.versions u j) k in
      other_local d' e (own_step here input w d' e (act_commit n lc fc x d' own l' m le f g)) n (decided_as (Committed (Some lc) (Some fc)) x) u o refl
      (gone n d'.view.versions u o.place j o.node o.seq)
  locals-act d e (act_close n x d' own p m) l u i k =
      let o = l u i k in
      other_local d' e (own_step here input w d' e (act_close n x d' own p m)) n (decided_as (Committed None None) x) u o refl
      (λ q. cc (ap (λ z. lc_of z.phase) (same_own d'.view o.place n o.owner x o.owns own.0 q), o.lc, ap lc_of p))
