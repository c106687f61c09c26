-- What the answers of a list see after one more answer, which is a commit with a final timestamp.
use Rattle.std.proofs.Common.{Bool, List, Some, [], ap, append-nil, false, filter, if◌then◌else◌, inl, inr, leb-true, nat_le, refl, subst, sym, true, ℕ, ◌++◌, ◌<◌, ◌∙◌, ◌∷◌, ◌≡◌, ◌≢◌, ◌≤◌, ◌⊎◌}
use Rattle.std.proofs.lemmas.List.Elements.{filter-append}
use Rattle.str_model.specs.declared.names.Got.{Got}
use Rattle.str_base.specs.declared.names.KeyId.{KeyId}
use Rattle.str_base.specs.declared.names.Value.{Value}
use Rattle.str_model.specs.declared.messages.Answer.{Answer}
use Rattle.str_model.specs.declared.messages.Outcome.TheVariants.{Committed}
use Rattle.si_laws.specs.Commits.{Commit, Member, commits, counts_for, evaluated, fc_before, look_up, member_of, members, members_from, seen, with_commit}
use Rattle.str_model.specs.Owned.{wrote_key}
use Rattle.str_model.specs.Evaluation.{eval}
use Rattle.str_scene.specs.Scenes.{Scene, script_at}
use Rattle.si_laws.specs.SnapshotIsolation.{IsCommittedAt}
use Rattle.str_base.specs.Versions.{stamp}
use Rattle.si_laws.proofs.CommitLists.AnswerAdded.{commits_push, fc_before_trans, lower_before, not_both}
use Rattle.si_laws.proofs.CommitLists.CommitMembers.{AllBefore, Hides, IsUnmoved, above_evaluated, filter_first, hidden_look, in_rest, members_append, members_rest, other_look, rest, stands_before, with_member}
use Rattle.si_laws.proofs.CommitLists.CommitOrder.{InOrder, Named, Put, commits_order, in_commits, put_in}
use Rattle.str_base.proofs.Members.{in_append, in_filter, in_right}
use Rattle.str_base.specs.Members.{In}

-- a member above m that the answer sees and that wrote the key
pub record LaterWriter (all : List Member) (b : Answer) (m : Member) (k : KeyId) : Type 0 where
  pub member : Member
  pub within : In member all
  pub above : m.fc < member.fc
  pub counts : counts_for b b.outcome member ≡ true
  pub final : member.fc ≤ b.rs.0
  pub wrote : wrote_key k member.writes ≡ true

-- the keys on which the answer's script depends, each of which m didn't write, or a later member that the answer sees
pub record KeepsAmong (scene : Scene) (all : List Member) (b : Answer) (m : Member) : Type 0 where
  pub keys : List KeyId
  pub supports : (look : KeyId → Value) → ((k : KeyId) → In k keys → look k ≡ look_up (filter (counts_for b b.outcome) all) b.rs.0 k)
      → eval (script_at scene b.place) look ≡ evaluated scene (filter (counts_for b b.outcome) all) b
  pub covered : (k : KeyId) → In k keys → wrote_key k m.writes ≡ true → LaterWriter all b m k

pub filter_in : (test : Member → Bool) (xs : List Member) (x : Member) → In x xs → test x ≡ true → In x (filter test xs)
filter_in test [] x h e = absurd h
filter_in test (y ∷ xs) x (inl q) e = rw (ap test q ∙ e) (inl q)
filter_in test (y ∷ xs) x (inr h) e = by_test (test y) (filter_in test xs x h e)
  where
    by_test : (t : Bool) → In x (filter test xs) → In x (if t then y ∷ filter test xs else filter test xs)
    by_test true k = inr k
    by_test false k = k

-- an answer's script gives the same with the member m as without it
pub same_evaluated : (scene : Scene) (all : List Member) (b : Answer) (m : Member) (p q : List Member) → filter (counts_for b b.outcome) all ≡ p ++ q
    → ((x : Member) → In x p → fc_before x.fc x.tx m.fc m.tx ≡ true) → (m.fc ≤ b.rs.0 → KeepsAmong scene all b m) → evaluated scene (p ++ m ∷ q) b ≡ evaluated scene (p ++ q) b
same_evaluated scene all b m p q w lower keeps = by_test (nat_le m.fc b.rs.0) refl
  where
    hides : (k : KeyId) → LaterWriter all b m k → Hides q b.rs.0 k
    hides k l = by_place (in_append p q l.member (subst (λ xs. In l.member xs) w (filter_in (counts_for b b.outcome) all l.member l.within l.counts)))
      where
        by_place : In l.member p ⊎ In l.member q → Hides q b.rs.0 k
        by_place (inl h) = (let e = not_both m.fc l.member.fc m.tx l.member.tx (lower_before m.fc l.member.fc m.tx l.member.tx l.above) in absurd (cc (e, lower l.member h)))
        by_place (inr h) = record { member = l.member; within = h; final = l.final; wrote = l.wrote }

    same_look : KeepsAmong scene all b m → (k : KeyId) → (t : Bool) → wrote_key k m.writes ≡ t → (wrote_key k m.writes ≡ true → LaterWriter all b m k)
        → look_up (p ++ m ∷ q) b.rs.0 k ≡ look_up (p ++ q) b.rs.0 k
    same_look h k true e l = hidden_look p m q b.rs.0 k (hides k (l e))
    same_look h k false e l = other_look p m q b.rs.0 k e

    by_test : (t : Bool) → nat_le m.fc b.rs.0 ≡ t → evaluated scene (p ++ m ∷ q) b ≡ evaluated scene (p ++ q) b
    by_test false e = above_evaluated scene p m q b e
    by_test true e = let h : KeepsAmong scene all b m = keeps (leb-true m.fc b.rs.0 e) in
        h.supports (look_up (p ++ m ∷ q) b.rs.0) (λ k i. same_look h k (wrote_key k m.writes) refl (h.covered k i) ∙ ap (λ xs. look_up xs b.rs.0 k) (sym w))
        ∙ ap (λ xs. evaluated scene xs b) w

order_right : (xs ys : List Commit) → InOrder (xs ++ ys) → InOrder ys
order_right [] ys s = s
order_right (x ∷ xs) ys s = order_right xs ys s.1

-- ---- the members with the new one

-- the member that a commit at the end of the list becomes
abbrev pub new_member : Scene → List Answer → Answer → ℕ → Member
new_member scene all a f = record { fc = f; tx = a.tx; writes = (seen scene all a).writes }

-- every commit that sees the new one keeps what it saw
abbrev pub AllKeep : Scene → List Answer → Answer → ℕ → Type 0
AllKeep scene all a f = (b : Answer) (g : ℕ) → In b all → IsCommittedAt b g → f ≤ b.rs.0 → KeepsAmong scene (members scene all) b (new_member scene all a f)

-- the members before and after, the new one standing between two parts of the old ones
pub record Inserted (scene : Scene) (all : List Answer) (a : Answer) (f : ℕ) : Type 0 where
  pub pre : List Member
  pub post : List Member
  pub old : members scene all ≡ pre ++ post
  pub new : members scene (all ++ a ∷ []) ≡ pre ++ new_member scene all a f ∷ post
  pub lower : (x : Member) → In x pre → fc_before x.fc x.tx f a.tx ≡ true
  pub upper : (x : Member) → In x post → fc_before x.fc x.tx f a.tx ≡ false

put_member : (scene : Scene) (all : List Answer) (a : Answer) (f : ℕ) (gets : List Got) → a.outcome ≡ Committed (Some (stamp f)) gets → Named all
    → ((b : Answer) → In b all → b.tx ≢ a.tx) → AllKeep scene all a f → Put (record { fc = f; answer = a }) (commits all) → Inserted scene all a f
put_member scene all a f gets is n fresh keeps put = record { pre = p; post = q; old = old_is; new = new_is; lower = lower_; upper = upper_ }
  where
    c : Commit
    c = record { fc = f; answer = a }

    p : List Member
    p = members_from scene [] put.pre

    q : List Member
    q = rest scene p put.post

    m : Member
    m = new_member scene all a f

    old_is : members scene all ≡ p ++ q
    old_is = ap (members_from scene []) put.whole ∙ (members_append scene [] put.pre put.post ∙ members_rest scene p put.post)

    lower_ : (x : Member) → In x p → fc_before x.fc x.tx f a.tx ≡ true
    lower_ x h = let r = in_rest scene [] put.pre x (subst (λ xs. In x xs) (members_rest scene [] put.pre) h) in
        subst (λ z. fc_before z x.tx f a.tx ≡ true) r.2 (subst (λ z. fc_before r.0.fc z f a.tx ≡ true) r.3 (put.lower r.0 r.1))

    upper_ : (x : Member) → In x q → fc_before x.fc x.tx f a.tx ≡ false
    upper_ x h = let r = in_rest scene p put.post x h in
        subst (λ z. fc_before z x.tx f a.tx ≡ false) r.2 (subst (λ z. fc_before r.0.fc z f a.tx ≡ false) r.3
        (not_both f r.0.fc a.tx r.0.answer.tx (put.upper r.0 r.1)))

    own : filter (counts_for a a.outcome) (members scene all) ≡ p
    own = ap (λ o. filter (counts_for a o) (members scene all)) is ∙ (ap (filter (λ x. fc_before x.fc x.tx f a.tx)) old_is
        ∙ filter_first (λ x. fc_before x.fc x.tx f a.tx) p q lower_ upper_)

    member_is : member_of scene p c ≡ m
    member_is = ap (λ xs. record { fc = f; tx = a.tx; writes = (evaluated scene xs a).writes }) (sym own)

    commits_is : commits (all ++ a ∷ []) ≡ put.pre ++ c ∷ put.post
    commits_is = commits_push all a fresh ∙ (ap (λ o. with_commit a o (commits all)) is ∙ put.put)

    all_before : AllBefore (p ++ []) put.post
    all_before = subst (λ z. AllBefore z put.post) (sym (append-nil p)) (λ x h d k. fc_before_trans x.fc f d.fc x.tx a.tx d.answer.tx (lower_ x h) (put.upper d k))

    unmoved : (d : Commit) → In d put.post → IsUnmoved scene p m q d
    unmoved d h q' w = same_evaluated scene (members scene all) d.answer m p q' seen_is lower_ (keeps d.answer d.fc in_all.0 in_all.1)
      where
        in_all : In d.answer all × IsCommittedAt d.answer d.fc
        in_all = in_commits all d (subst (λ xs. In d xs) (sym put.whole) (in_right put.pre put.post d h))

        seen_is : filter (counts_for d.answer d.answer.outcome) (members scene all) ≡ p ++ q'
        seen_is = ap (λ o. filter (counts_for d.answer o) (members scene all)) in_all.1.1 ∙ (ap (filter (stands_before d)) old_is ∙ w)

    new_is : members scene (all ++ a ∷ []) ≡ p ++ m ∷ q
    new_is =
        ap (members_from scene []) commits_is ∙ (members_append scene [] put.pre (c ∷ put.post) ∙ (ap (λ y. members_from scene (p ++ y ∷ []) put.post) member_is
        ∙ (with_member scene p m [] q put.post (ap (λ z. z ++ rest scene z put.post) (sym (append-nil p))) all_before
        (order_right put.pre put.post (subst InOrder put.whole (commits_order all n))) unmoved
        ∙ ap (λ z. p ++ m ∷ rest scene z put.post) (append-nil p))))

pub inserted : (scene : Scene) (all : List Answer) (a : Answer) (f : ℕ) → IsCommittedAt a f → Named all → ((b : Answer) → In b all → b.tx ≢ a.tx) → AllKeep scene all a f
    → Inserted scene all a f
inserted scene all a f is n fresh keeps =
    put_member scene all a f is.0 is.1 n fresh keeps
    (put_in (record { fc = f; answer = a }) (commits all) (commits_order all n) (λ d h e. fresh d.answer (in_commits all d h).0 (sym e)))

-- the new answer sees the same with itself in the list as without
pub new_seen : (scene : Scene) (all : List Answer) (a : Answer) (f : ℕ) → IsCommittedAt a f → Inserted scene all a f → seen scene (all ++ a ∷ []) a ≡ seen scene all a
new_seen scene all a f is r = ap (λ xs. evaluated scene xs a) (first_ (new_member scene all a f ∷ r.post) later r.new ∙ sym (first_ r.post r.upper r.old))
  where
    later : (x : Member) → In x (new_member scene all a f ∷ r.post) → fc_before x.fc x.tx f a.tx ≡ false
    later x (inl e) = subst (λ z. fc_before z.fc z.tx f a.tx ≡ false) e (by_test (fc_before f a.tx f a.tx) refl)
      where
        by_test : (t : Bool) → fc_before f a.tx f a.tx ≡ t → fc_before f a.tx f a.tx ≡ false
        by_test true q = not_both f f a.tx a.tx q
        by_test false q = q
    later x (inr h) = r.upper x h

    first_ : {ms : List Member} (post : List Member) → ((x : Member) → In x post → fc_before x.fc x.tx f a.tx ≡ false) → ms ≡ r.pre ++ post
        → filter (counts_for a a.outcome) ms ≡ r.pre
    first_ {ms} post u e = ap (λ o. filter (counts_for a o) ms) is.1 ∙ (ap (filter (λ x. fc_before x.fc x.tx f a.tx)) e
        ∙ filter_first (λ x. fc_before x.fc x.tx f a.tx) r.pre post r.lower u)

-- an answer that doesn't see the new one, or keeps what it saw, sees the same
pub seen_again : (scene : Scene) (all : List Answer) (a b : Answer) (f : ℕ) → Inserted scene all a f → (f ≤ b.rs.0 → KeepsAmong scene (members scene all) b (new_member scene all a f))
    → seen scene (all ++ a ∷ []) b ≡ seen scene all b
seen_again scene all a b f r keeps =
    ap (λ xs. evaluated scene (filter (counts_for b b.outcome) xs) b) r.new ∙ (ap (λ xs. evaluated scene xs b) (filter-append (counts_for b b.outcome) r.pre (m ∷ r.post))
    ∙ (by_test (counts_for b b.outcome m) ∙ ap (λ xs. evaluated scene xs b) (sym parts)))
  where
    m : Member
    m = new_member scene all a f

    parts : filter (counts_for b b.outcome) (members scene all) ≡ filter (counts_for b b.outcome) r.pre ++ filter (counts_for b b.outcome) r.post
    parts = ap (filter (counts_for b b.outcome)) r.old ∙ filter-append (counts_for b b.outcome) r.pre r.post

    by_test : (t : Bool) → evaluated scene (filter (counts_for b b.outcome) r.pre ++ (if t then m ∷ filter (counts_for b b.outcome) r.post else filter (counts_for b b.outcome) r.post)) b
        ≡ evaluated scene (filter (counts_for b b.outcome) r.pre ++ filter (counts_for b b.outcome) r.post) b
    by_test true =
        same_evaluated scene (members scene all) b m (filter (counts_for b b.outcome) r.pre) (filter (counts_for b b.outcome) r.post) parts
        (λ x h. r.lower x (in_filter (counts_for b b.outcome) r.pre x h).0) keeps
    by_test false = refl
