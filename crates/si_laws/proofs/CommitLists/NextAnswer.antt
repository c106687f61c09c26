-- What makes an answer the next one of a run of the snapshot isolation machine.
use Rattle.std.proofs.Common.{List, None, Option, Some, [], ap, arith, filter, inl, inr, refl, subst, sym, true, ℕ, ◌++◌, ◌+◌, ◌<◌, ◌∙◌, ◌∷◌, ◌≡◌, ◌≢◌, ◌≤◌, ◌⊎◌}
use Rattle.std.specs.List.{count_by}
use Rattle.str_base.specs.declared.names.Cause.TheVariants.{Wish}
use Rattle.str_model.specs.declared.names.Got.{Got}
use Rattle.str_base.specs.declared.names.KeyId.{KeyId}
use Rattle.str_base.specs.declared.names.Ts.{Ts}
use Rattle.str_base.specs.declared.names.Value.{Value}
use Rattle.str_model.specs.declared.messages.Answer.{Answer}
use Rattle.str_model.specs.declared.messages.Outcome.{Outcome}
use Rattle.str_model.specs.declared.messages.Outcome.TheVariants.{Aborted, Committed}
use Rattle.si_laws.specs.Commits.{Commit, Member, commits, counts_for, evaluated, look_up, members, members_from, seen, with_commit}
use Rattle.str_model.specs.Owned.{wrote_key}
use Rattle.str_model.specs.Evaluation.{Evaluated, eval}
use Rattle.str_scene.specs.Scenes.{Scene, script_at}
use Rattle.si_laws.specs.SnapshotIsolation.{IsAnswer, IsCommittedAt, IsCommittedSnapshot, IsPlaced, IsWish, SI, of_one_session}
use Rattle.str_base.specs.Versions.{stamp}
use Rattle.si_laws.proofs.CommitLists.AnswerAdded.{commits_push, lower_before}
use Rattle.si_laws.proofs.CommitLists.CommitMembers.{le_or_above, members_rest, rest_in}
use Rattle.si_laws.proofs.CommitLists.CommitOrder.{Named, commits_in, commits_order, named}
use Rattle.si_laws.proofs.CommitLists.SeenAgain.{AllKeep, Inserted, KeepsAmong, LaterWriter, inserted, new_member, new_seen, seen_again}
use Rattle.str_base.proofs.Members.{at_in, in_at}
use Rattle.str_base.specs.Members.{In}

-- a released commit that wrote the key is final between the new commit's final timestamp and the snapshot of b
pub record Covered (scene : Scene) (all : List Answer) (f : ℕ) (b : Answer) (k : KeyId) : Type 0 where
  pub writer : Answer
  pub place : ℕ
  pub fc : ℕ
  pub is : IsAnswer all place writer
  pub committed : IsCommittedAt writer fc
  pub above : f ≤ fc
  pub final : fc ≤ b.rs.0
  pub wrote : wrote_key k (seen scene all writer).writes ≡ true

-- what b saw stays: there are keys, those that b read, such that
pub record Keeps (scene : Scene) (all : List Answer) (a : Answer) (f : ℕ) (b : Answer) : Type 0 where
  pub keys : List KeyId
  -- the script of b gives the same on all that agree with its snapshot on these keys
  pub supports : (look : KeyId → Value) → ((k : KeyId) → In k keys → look k ≡ look_up (filter (counts_for b b.outcome) (members scene all)) b.rs.0 k)
      → eval (script_at scene b.place) look ≡ seen scene all b
  -- each of these keys that the new commit wrote was written by a later commit, which b sees
  pub covered : (k : KeyId) → In k keys → wrote_key k (seen scene all a).writes ≡ true → Covered scene all f b k

-- the answer a may follow the answers all
pub record IsNext (scene : Scene) (all : List Answer) (a : Answer) : Type 0 where
  -- its place is in the scene
  pub placed : IsPlaced scene a
  -- it is the next one of its session
  pub order : a.place.index ≡ 1 + count_by (of_one_session a) all
  -- its name is new
  pub fresh : (j : ℕ) (b : Answer) → IsAnswer all j b → b.tx ≢ a.tx
  -- where it is committed: its script on the earlier answers ends and gives its gets, and its final timestamp is above its snapshot
  pub snapshot : IsCommittedSnapshot (seen scene all a) a.rs.0 a.outcome
  -- where it wished to abort: its script on the earlier answers stops at a need that is not met or at an abort
  pub wish : IsWish (seen scene all a) a.outcome
  -- of it and an earlier commit that wrote one key one is final at or below the other's snapshot
  pub apart : (j f g : ℕ) (b : Answer) (k : KeyId) → IsAnswer all j b → IsCommittedAt a f → IsCommittedAt b g → wrote_key k (seen scene all a).writes ≡ true
      → wrote_key k (seen scene all b).writes ≡ true → (f ≤ b.rs.0) ⊎ (g ≤ a.rs.0)
  -- its snapshot is at or above those of its session's earlier answers
  pub session_rs : (j : ℕ) (b : Answer) → IsAnswer all j b → b.place.session ≡ a.place.session → b.rs.0 ≤ a.rs.0
  -- and at or above their final timestamps
  pub session_fc : (j g : ℕ) (b : Answer) → IsAnswer all j b → b.place.session ≡ a.place.session → IsCommittedAt b g → g ≤ a.rs.0
  -- its snapshot is at or above those of its node's earlier transactions that were answered
  pub node_earlier : (j : ℕ) (b : Answer) → IsAnswer all j b → b.tx.node ≡ a.tx.node → b.tx.seq < a.tx.seq → b.rs.0 ≤ a.rs.0
  -- and at or below those of its node's later transactions that were answered before it
  pub node_later : (j : ℕ) (b : Answer) → IsAnswer all j b → a.tx.node ≡ b.tx.node → a.tx.seq < b.tx.seq → a.rs.0 ≤ b.rs.0
  -- what an earlier committed answer saw stays, where the new commit is final at or below its snapshot
  pub keeps : (j f : ℕ) (b : Answer) (o : Option Ts) (gets : List Got) → IsAnswer all j b → IsCommittedAt a f → b.outcome ≡ Committed o gets → f ≤ b.rs.0 → Keeps scene all a f b
  -- what an earlier wish saw stays too, or its script stops so on every snapshot (as at an abort that stands in it)
  pub wishes : (j f : ℕ) (b : Answer) → IsAnswer all j b → IsCommittedAt a f → b.outcome ≡ Aborted Wish → f ≤ b.rs.0
      → Keeps scene all a f b ⊎ ((look : KeyId → Value) → IsWish (eval (script_at scene b.place) look) (Aborted Wish))

-- ---- the earlier answers' members

-- a committed answer with a final timestamp is a member, with the writes that it is seen to make
pub members_in : (scene : Scene) (all : List Answer) (b : Answer) (g : ℕ) → Named all → In b all → IsCommittedAt b g
    → In (record { fc = g; tx = b.tx; writes = (seen scene all b).writes }) (members scene all)
members_in scene all b g n h is =
    subst (λ (o : Outcome). In (record { fc = g; tx = b.tx; writes = (evaluated scene (filter (counts_for b o) (members scene all)) b).writes }) (members scene all)) (sym is.1)
    (subst (λ xs. In (record { fc = g; tx = b.tx; writes = (evaluated scene (filter (counts_for b (Committed (Some (stamp g)) is.0)) (members scene all)) b).writes }) xs)
    (sym (members_rest scene [] (commits all)))
    (rest_in scene (members scene all) [] (commits all) (record { fc = g; answer = b }) (members_rest scene [] (commits all)) (λ x i. absurd i) (commits_order all n) (commits_in all b g h is)))

-- a member at or below an answer's snapshot stands before it
pub counts_low : (e : Evaluated) (b : Answer) (o : Outcome) (m : Member) → IsCommittedSnapshot e b.rs.0 o → m.fc ≤ b.rs.0 → counts_for b o m ≡ true
counts_low e b (Committed (Some g) gets) m s l = let r : b.rs.0 < g.0 = s.2.1 in lower_before m.fc g.0 m.tx b.tx (omega arith)
counts_low e b (Committed None gets) m s l = refl
counts_low e b (Aborted cause) m s l = refl

pub rs_below : (e : Evaluated) (a : Answer) (f : ℕ) → IsCommittedSnapshot e a.rs.0 a.outcome → IsCommittedAt a f → a.rs.0 < f
rs_below e a f s is = (subst (IsCommittedSnapshot e a.rs.0) is.1 s).2.1

keeps_among : (scene : Scene) (all : List Answer) (a : Answer) (j f : ℕ) (b : Answer) → SI scene all → IsNext scene all a → IsCommittedAt a f → IsAnswer all j b → Keeps scene all a f b
    → KeepsAmong scene (members scene all) b (new_member scene all a f)
keeps_among scene all a j f b si next is at_b keeps = record { keys = keeps.keys; supports = keeps.supports; covered = λ k h w. later k w (keeps.covered k h w) }
  where
    above : (k : KeyId) (v : Covered scene all f b k) → (f ≤ v.writer.rs.0) ⊎ (v.fc ≤ a.rs.0) → f < v.fc
    above k v (inl l) =
        let r : v.writer.rs.0 < v.fc = rs_below (seen scene all v.writer) v.writer v.fc (si.snapshots v.place v.writer v.is) v.committed in omega arith
    above k v (inr l) = let r : a.rs.0 < f = rs_below (seen scene all a) a f next.snapshot is in let u : f ≤ v.fc = v.above in absurd (omega arith)

    later : (k : KeyId) → wrote_key k (seen scene all a).writes ≡ true → Covered scene all f b k → LaterWriter (members scene all) b (new_member scene all a f) k
    later k w v = record {
      member = record { fc = v.fc; tx = v.writer.tx; writes = (seen scene all v.writer).writes };
      within = members_in scene all v.writer v.fc (named all si.placed.names) (in_at all v.place v.writer v.is) v.committed;
      above = above k v (next.apart v.place f v.fc v.writer k v.is is v.committed w v.wrote);
      counts = counts_low (seen scene all b) b b.outcome (record { fc = v.fc; tx = v.writer.tx; writes = (seen scene all v.writer).writes }) (si.snapshots j b at_b) v.final;
      final = v.final;
      wrote = v.wrote;
    }

-- ---- what each sees in the longer list

-- what is needed of the longer list
pub record SeenNext (scene : Scene) (all : List Answer) (a : Answer) : Type 0 where
  pub new : seen scene (all ++ a ∷ []) a ≡ seen scene all a
  pub committed : (j : ℕ) (b : Answer) (o : Option Ts) (gets : List Got) → IsAnswer all j b → b.outcome ≡ Committed o gets → seen scene (all ++ a ∷ []) b ≡ seen scene all b
  pub wished : (j : ℕ) (b : Answer) → IsAnswer all j b → b.outcome ≡ Aborted Wish → IsWish (seen scene (all ++ a ∷ []) b) (Aborted Wish)

fresh_in : (scene : Scene) (all : List Answer) (a : Answer) → IsNext scene all a → (b : Answer) → In b all → b.tx ≢ a.tx
fresh_in scene all a next b h = let r = at_in all b h in next.fresh r.0 b r.1

old_wish : (scene : Scene) (all : List Answer) (b : Answer) (j : ℕ) → SI scene all → IsAnswer all j b → b.outcome ≡ Aborted Wish → IsWish (seen scene all b) (Aborted Wish)
old_wish scene all b j si at_b e = subst (IsWish (seen scene all b)) e (si.wishes j b at_b)

seen_with : (scene : Scene) (all : List Answer) (a : Answer) (f : ℕ) → SI scene all → IsNext scene all a → IsCommittedAt a f → SeenNext scene all a
seen_with scene all a f si next is = record { new = new_seen scene all a f is put; committed = committed_; wished = wished_ }
  where
    kept : (j : ℕ) (b : Answer) (o : Option Ts) (gets : List Got) → IsAnswer all j b → b.outcome ≡ Committed o gets → f ≤ b.rs.0
        → KeepsAmong scene (members scene all) b (new_member scene all a f)
    kept j b o gets at_b e l = keeps_among scene all a j f b si next is at_b (next.keeps j f b o gets at_b is e l)

    all_keep : AllKeep scene all a f
    all_keep b g h q l = let r = at_in all b h in kept r.0 b (Some (stamp g)) q.0 r.1 q.1 l

    put : Inserted scene all a f
    put = inserted scene all a f is (named all si.placed.names) (fresh_in scene all a next) all_keep

    committed_ : (j : ℕ) (b : Answer) (o : Option Ts) (gets : List Got) → IsAnswer all j b → b.outcome ≡ Committed o gets → seen scene (all ++ a ∷ []) b ≡ seen scene all b
    committed_ j b o gets at_b e = seen_again scene all a b f put (kept j b o gets at_b e)

    wished_ : (j : ℕ) (b : Answer) → IsAnswer all j b → b.outcome ≡ Aborted Wish → IsWish (seen scene (all ++ a ∷ []) b) (Aborted Wish)
    wished_ j b at_b e = by_order (le_or_above f b.rs.0)
      where
        keeping : (f ≤ b.rs.0 → KeepsAmong scene (members scene all) b (new_member scene all a f)) → IsWish (seen scene (all ++ a ∷ []) b) (Aborted Wish)
        keeping k = subst (λ z. IsWish z (Aborted Wish)) (sym (seen_again scene all a b f put k)) (old_wish scene all b j si at_b e)

        by_way : Keeps scene all a f b ⊎ ((look : KeyId → Value) → IsWish (eval (script_at scene b.place) look) (Aborted Wish)) → IsWish (seen scene (all ++ a ∷ []) b) (Aborted Wish)
        by_way (inl k) = keeping (λ l. keeps_among scene all a j f b si next is at_b k)
        by_way (inr k) = k (look_up (filter (counts_for b b.outcome) (members scene (all ++ a ∷ []))) b.rs.0)

        by_order : (f ≤ b.rs.0) ⊎ (b.rs.0 < f) → IsWish (seen scene (all ++ a ∷ []) b) (Aborted Wish)
        by_order (inl l) = by_way (next.wishes j f b at_b is e l)
        by_order (inr l) = keeping (λ k. absurd (omega arith))

-- where it isn't a commit with a final timestamp every answer sees the same
seen_without : (scene : Scene) (all : List Answer) (a : Answer) → SI scene all → IsNext scene all a → ((cs : List Commit) → with_commit a a.outcome cs ≡ cs) → SeenNext scene all a
seen_without scene all a si next w =
    record { new = same a; committed = λ j b o gets at_b e. same b; wished = λ j b at_b e. subst (λ z. IsWish z (Aborted Wish)) (sym (same b)) (old_wish scene all b j si at_b e) }
  where
    same : (b : Answer) → seen scene (all ++ a ∷ []) b ≡ seen scene all b
    same b = ap (λ cs. evaluated scene (filter (counts_for b b.outcome) (members_from scene [] cs)) b) (commits_push all a (fresh_in scene all a next) ∙ w (commits all))

ending : (a : Answer) (o : Outcome) → a.outcome ≡ o → ((f : ℕ) × IsCommittedAt a f) ⊎ ((cs : List Commit) → with_commit a o cs ≡ cs)
ending a (Committed (Some f) gets) e = inl (f.0, (gets, e))
ending a (Committed None gets) e = inr (λ cs. refl)
ending a (Aborted cause) e = inr (λ cs. refl)

pub seen_next : (scene : Scene) (all : List Answer) (a : Answer) → SI scene all → IsNext scene all a → SeenNext scene all a
seen_next scene all a si next = elim (ending a a.outcome refl) [ inl h ↦ seen_with scene all a h.0 si next h.1 | inr w ↦ seen_without scene all a si next w ]
