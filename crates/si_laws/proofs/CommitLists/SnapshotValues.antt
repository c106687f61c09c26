-- What a look-up in the snapshot of an answer gives, told by the answers.
use Rattle.std.proofs.Common.{Bool, List, None, Option, Some, [], ap, append_assoc, arith, false, filter, find, if◌then◌else◌, inl, inr, le-leb, leb-true, nat_le, refl, subst, sym, true, ℕ, ◌&&◌, ◌++◌, ◌<◌, ◌∙◌, ◌∷◌, ◌≡◌, ◌≤◌, ◌⊎◌}
use Rattle.std.specs.List.{last_or}
use Rattle.str_base.specs.declared.names.KeyId.{KeyId}
use Rattle.str_base.specs.declared.names.Value.TheVariants.{Absent}
use Rattle.str_model.specs.declared.messages.Answer.{Answer}
use Rattle.str_model.specs.declared.messages.Outcome.{Outcome}
use Rattle.str_model.specs.declared.messages.Outcome.TheVariants.{Aborted, Committed}
use Rattle.si_laws.specs.Commits.{Commit, Member, commits, counts_for, evaluated, fc_before, look_up, member_of, members, seen, written_value}
use Rattle.str_model.specs.Owned.{wrote_key}
use Rattle.str_model.specs.Evaluation.{write_or}
use Rattle.str_scene.specs.Scenes.{Scene}
use Rattle.si_laws.specs.SnapshotIsolation.{IsCommittedAt}
use Rattle.str_base.specs.Versions.{same_key}
use Rattle.si_laws.proofs.CommitLists.AnswerAdded.{lower_before, not_before_itself, not_both}
use Rattle.si_laws.proofs.CommitLists.CommitMembers.{AllBefore, all_before_next, before_first, filter_none, in_rest, members_rest, rest, stands_before}
use Rattle.si_laws.proofs.CommitLists.CommitOrder.{InOrder, Named, commits_order, in_commits}
use Rattle.si_laws.proofs.CommitLists.NextAnswer.{members_in}
use Rattle.si_laws.proofs.CommitLists.SeenAgain.{filter_in}
use Rattle.std.proofs.lemmas.Bool.{and_parts}
use Rattle.str_base.proofs.Members.{in_filter}
use Rattle.str_base.specs.Members.{In}

-- ---- each member is of an answer

rest_seen : (scene : Scene) (whole : List Member) (past : List Member) (ds : List Commit) (x : Member) → whole ≡ past ++ rest scene past ds → AllBefore past ds → InOrder ds
    → In x (rest scene past ds) → (d : Commit) × (In d ds) × (member_of scene (filter (stands_before d) whole) d ≡ x)
unfolding rest
rest_seen scene whole past [] x w b s h = absurd h
rest_seen scene whole past (c ∷ ds) x w b s (inl e) =
    (c, inl refl, ap (λ xs. member_of scene xs c) (ap (filter (stands_before c)) w ∙ before_first scene past c ds b s) ∙ e)
rest_seen scene whole past (c ∷ ds) x w b s (inr h) =
    let r = rest_seen scene whole (past ++ member_of scene past c ∷ []) ds x (w ∙ sym (append_assoc past (member_of scene past c ∷ []) (rest scene (past ++ member_of scene past c ∷ []) ds)))
    (all_before_next scene past c ds b s) s.1 h in
    (r.0, inr r.1, r.2)

-- the answer of a member
pub record IsOf (scene : Scene) (all : List Answer) (x : Member) : Type 0 where
  pub answer : Answer
  pub within : In answer all
  pub committed : IsCommittedAt answer x.fc
  pub name : answer.tx ≡ x.tx
  pub writes : (seen scene all answer).writes ≡ x.writes

pub is_of : (scene : Scene) (all : List Answer) (x : Member) → Named all → In x (members scene all) → IsOf scene all x
is_of scene all x n h = told (rest_seen scene (members scene all) [] (commits all) x (members_rest scene [] (commits all)) (λ y i. absurd i) (commits_order all n)
    (subst (λ xs. In x xs) (members_rest scene [] (commits all)) h))
  where
    told : (d : Commit) × (In d (commits all)) × (member_of scene (filter (stands_before d) (members scene all)) d ≡ x) → IsOf scene all x
    told r = let c : In r.0.answer all × IsCommittedAt r.0.answer r.0.fc = in_commits all r.0 r.1 in record {
      answer = r.0.answer;
      within = c.0;
      committed = subst (λ f. IsCommittedAt r.0.answer f) (ap (λ z. z.fc) r.2) c.1;
      name = ap (λ z. z.tx) r.2;
      writes = ap (λ o. (evaluated scene (filter (counts_for r.0.answer o) (members scene all)) r.0.answer).writes) c.1.1 ∙ ap (λ z. z.writes) r.2;
    }

-- ---- members in order

abbrev pub Ordered : List Member → Type 0
Ordered [] = Unit {0}
Ordered (x ∷ xs) = ((y : Member) → In y xs → fc_before x.fc x.tx y.fc y.tx ≡ true) × Ordered xs

rest_order : (scene : Scene) (past : List Member) (ds : List Commit) → InOrder ds → Ordered (rest scene past ds)
unfolding rest
rest_order scene past [] s = tt
rest_order scene past (d ∷ ds) s = (first_, rest_order scene (past ++ member_of scene past d ∷ []) ds s.1)
  where
    first_ : (y : Member) → In y (rest scene (past ++ member_of scene past d ∷ []) ds) → fc_before d.fc d.answer.tx y.fc y.tx ≡ true
    first_ y h = let r = in_rest scene (past ++ member_of scene past d ∷ []) ds y h in
        subst (λ z. fc_before d.fc d.answer.tx z y.tx ≡ true) r.2 (subst (λ z. fc_before d.fc d.answer.tx r.0.fc z ≡ true) r.3 (s.0 r.0 r.1))

pub members_order : (scene : Scene) (all : List Answer) → Named all → Ordered (members scene all)
members_order scene all n = subst Ordered (sym (members_rest scene [] (commits all))) (rest_order scene [] (commits all) (commits_order all n))

filter_order : (test : Member → Bool) (xs : List Member) → Ordered xs → Ordered (filter test xs)
filter_order test [] s = tt
filter_order test (x ∷ xs) s = by_test (test x) (filter_order test xs s.1)
  where
    by_test : (t : Bool) → Ordered (filter test xs) → Ordered (if t then x ∷ filter test xs else filter test xs)
    by_test true r = (λ y h. s.0 y (in_filter test xs y h).0, r)
    by_test false r = r

-- the last that passes is the one above which no other passes
last_is : (test : Member → Bool) (o : Option Member) (xs : List Member) (m : Member) → Ordered xs → In m xs → test m ≡ true
    → ((x : Member) → In x xs → test x ≡ true → (x ≡ m) ⊎ (x.fc < m.fc)) → last_or o (filter test xs) ≡ Some m
last_is test o [] m s h e top = absurd h
last_is test o (x ∷ xs) m s (inl q) e top = rw (ap test q ∙ e) (rw (filter_none test xs later) (ap (λ z. Some z) q))
  where
    fails : (y : Member) → In y xs → (t : Bool) → test y ≡ t → ((y ≡ m) ⊎ (y.fc < m.fc)) ⊎ (test y ≡ false) → test y ≡ false
    fails y k t p (inr r) = r
    fails y k t p (inl (inl r)) = absurd (not_before_itself m.fc m.tx (subst (λ z. fc_before m.fc m.tx z.fc z.tx ≡ true) r (subst (λ z. fc_before z.fc z.tx y.fc y.tx ≡ true) q (s.0 y k))))
    fails y k t p (inl (inr r)) =
        let u : fc_before m.fc m.tx y.fc y.tx ≡ true = subst (λ z. fc_before z.fc z.tx y.fc y.tx ≡ true) q (s.0 y k) in
        let v : fc_before m.fc m.tx y.fc y.tx ≡ false = not_both y.fc m.fc y.tx m.tx (lower_before y.fc m.fc y.tx m.tx r) in
        absurd (cc (u, v))

    cases : (y : Member) → In y xs → (t : Bool) → test y ≡ t → ((y ≡ m) ⊎ (y.fc < m.fc)) ⊎ (test y ≡ false)
    cases y k true p = inl (top y (inr k) p)
    cases y k false p = inr p

    later : (y : Member) → In y xs → test y ≡ false
    later y k = fails y k (test y) refl (cases y k (test y) refl)
last_is test o (x ∷ xs) m s (inr h) e top = by_test (test x) (λ o'. last_is test o' xs m s.1 h e (λ y k p. top y (inr k) p))
  where
    by_test : (t : Bool) → ((o' : Option Member) → last_or o' (filter test xs) ≡ Some m) → last_or o (if t then x ∷ filter test xs else filter test xs) ≡ Some m
    by_test true rec = rec (Some x)
    by_test false rec = rec o

not_both_true : (p q : Bool) → (p ≡ true → q ≡ true → ⊥) → (p && q) ≡ false
not_both_true true true n = absurd (n refl refl)
not_both_true true false n = refl
not_both_true false q n = refl

-- ---- the look-up

time_of : Outcome → ℕ
time_of (Committed (Some f) gets) = f.0
time_of (Committed None gets) = 0
time_of (Aborted cause) = 0

-- an answer has one final timestamp
pub one_time : (u : Answer) (f g : ℕ) → IsCommittedAt u f → IsCommittedAt u g → f ≡ g
unfolding time_of
one_time u f g p q = ap time_of (sym p.1 ∙ q.1)

-- where no answer at or below the snapshot wrote the key
pub look_absent : (scene : Scene) (all : List Answer) (a : Answer) (k : KeyId) → Named all
    → ((b : Answer) (h : ℕ) → In b all → IsCommittedAt b h → h ≤ a.rs.0 → wrote_key k (seen scene all b).writes ≡ true → ⊥)
    → look_up (filter (counts_for a a.outcome) (members scene all)) a.rs.0 k ≡ Absent
look_absent scene all a k n none =
    ap (λ ms. written_value (last_or None ms) k) (filter_none (λ u. nat_le u.fc a.rs.0 && wrote_key k u.writes) (filter (counts_for a a.outcome) (members scene all)) fails)
  where
    fails : (x : Member) → In x (filter (counts_for a a.outcome) (members scene all)) → (nat_le x.fc a.rs.0 && wrote_key k x.writes) ≡ false
    fails x h = not_both_true (nat_le x.fc a.rs.0) (wrote_key k x.writes) (λ p q. refuted p q (is_of scene all x n (in_filter (counts_for a a.outcome) (members scene all) x h).0))
      where
        refuted : nat_le x.fc a.rs.0 ≡ true → wrote_key k x.writes ≡ true → IsOf scene all x → ⊥
        refuted p q r = none r.answer x.fc r.within r.committed (leb-true x.fc a.rs.0 p) (subst (λ ws. wrote_key k ws ≡ true) (sym r.writes) q)

pub counts_above : (a : Answer) (o : Outcome) (m : Member) → a.outcome ≡ o → ((f : ℕ) → IsCommittedAt a f → a.rs.0 < f) → m.fc ≤ a.rs.0 → counts_for a o m ≡ true
counts_above a (Committed (Some f) gets) m e h l = let r : a.rs.0 < f.0 = h f.0 (gets, e) in lower_before m.fc f.0 m.tx a.tx (omega arith)
counts_above a (Committed None gets) m e h l = refl
counts_above a (Aborted cause) m e h l = refl

-- where u wrote it at or below the snapshot, and all others that did so are final below u, it is what u wrote
pub look_written : (scene : Scene) (all : List Answer) (a : Answer) (k : KeyId) (u : Answer) (g : ℕ) → Named all → ((f : ℕ) → IsCommittedAt a f → a.rs.0 < f) → In u all → IsCommittedAt u g
    → g ≤ a.rs.0 → wrote_key k (seen scene all u).writes ≡ true
    → ((b : Answer) (h : ℕ) → In b all → IsCommittedAt b h → h ≤ a.rs.0 → wrote_key k (seen scene all b).writes ≡ true → (b ≡ u) ⊎ (h < g))
    → look_up (filter (counts_for a a.outcome) (members scene all)) a.rs.0 k ≡ write_or (find (λ w. same_key w.key k) (seen scene all u).writes) Absent
look_written scene all a k u g n above at_u is le wrote top =
    ap (λ o. written_value o k) (last_is test None (filter (counts_for a a.outcome) (members scene all)) m (filter_order (counts_for a a.outcome) (members scene all) (members_order scene all n))
    (filter_in (counts_for a a.outcome) (members scene all) m (members_in scene all u g n at_u is) (counts_above a a.outcome m refl above le))
    (rw (le-leb g a.rs.0 le) wrote) others)
  where
    m : Member
    m = record { fc = g; tx = u.tx; writes = (seen scene all u).writes }

    test : Member → Bool
    test x = nat_le x.fc a.rs.0 && wrote_key k x.writes

    others : (x : Member) → In x (filter (counts_for a a.outcome) (members scene all)) → test x ≡ true → (x ≡ m) ⊎ (x.fc < g)
    others x h p = told (is_of scene all x n (in_filter (counts_for a a.outcome) (members scene all) x h).0)
      where
        parts : (nat_le x.fc a.rs.0 ≡ true) × (wrote_key k x.writes ≡ true)
        parts = and_parts (nat_le x.fc a.rs.0) (wrote_key k x.writes) p

        same_time : (r : IsOf scene all x) → r.answer ≡ u → x.fc ≡ g
        same_time r q = let c : IsCommittedAt u x.fc = subst (λ z. IsCommittedAt z x.fc) q r.committed in one_time u x.fc g c is

        told : IsOf scene all x → (x ≡ m) ⊎ (x.fc < g)
        told r = elim (top r.answer x.fc r.within r.committed (leb-true x.fc a.rs.0 parts.0) (subst (λ ws. wrote_key k ws ≡ true) (sym r.writes) parts.1)) [
          | inl q ↦ inl (λ i. record { fc = same_time r q i; tx = (sym r.name ∙ ap (λ z. z.tx) q) i; writes = (sym r.writes ∙ ap (λ z. (seen scene all z).writes) q) i })
          | inr l ↦ inr l
        ]
