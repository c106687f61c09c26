-- From what a transaction read to what its answer is seen to give.
use Rattle.std.proofs.Common.{List, Some, [], ap, arith, filter, find, inl, inr, map, subst, sym, true, ℕ, ◌<◌, ◌∙◌, ◌∷◌, ◌≡◌, ◌≢◌, ◌≤◌, ◌⊎◌}
use Rattle.str_base.specs.declared.names.KeyId.{KeyId}
use Rattle.str_base.specs.declared.names.Value.{Value}
use Rattle.str_base.specs.declared.names.Value.TheVariants.{Absent}
use Rattle.str_model.specs.declared.messages.Answer.{Answer}
use Rattle.str_model.specs.declared.names.ReadDone.{ReadDone}
use Rattle.si_laws.specs.Commits.{counts_for, look_up, members, seen}
use Rattle.str_model.specs.Owned.{wrote_key}
use Rattle.si_laws.specs.SnapshotIsolation.{IsAnswer, IsCommittedAt, SI}
use Rattle.str_base.specs.Versions.{same_key}
use Rattle.str_model.specs.Evaluation.{Evaluated, eval, write_or}
use Rattle.str_scene.specs.Scenes.{Scene, script_at}
use Rattle.si_laws.proofs.CommitLists.CommitOrder.{Named}
use Rattle.si_laws.proofs.CommitLists.SnapshotValues.{look_absent, look_written}
use Rattle.si_laws.proofs.CommitLists.NextAnswer.{Covered, Keeps, rs_below}
use Rattle.std.proofs.lemmas.Bool.{cases_eq}
use Rattle.str_base.proofs.Members.{at_in, in_map}
use Rattle.str_base.specs.Members.{In}

-- all commits that wrote the key are above the snapshot
abbrev pub NoneBelow : Scene → List Answer → Answer → KeyId → Type 0
NoneBelow scene all a k = (b : Answer) (h : ℕ) → In b all → IsCommittedAt b h → h ≤ a.rs.0 → wrote_key k (seen scene all b).writes ≡ true → ⊥

-- a commit u, final at g, wrote the key, and each other commit at or below the snapshot that wrote it is final below u
pub record LastBelow (scene : Scene) (all : List Answer) (a : Answer) (k : KeyId) (u : Answer) (g : ℕ) : Type 0 where
  pub within : In u all
  pub committed : IsCommittedAt u g
  pub final : g ≤ a.rs.0
  pub wrote : wrote_key k (seen scene all u).writes ≡ true
  pub top : (b : Answer) (h : ℕ) → In b all → IsCommittedAt b h → h ≤ a.rs.0 → wrote_key k (seen scene all b).writes ≡ true → (b ≡ u) ⊎ (h < g)

-- the value of the key in the snapshot of a
pub data IsRight (scene : Scene) (all : List Answer) (a : Answer) (k : KeyId) (v : Value) : Type 0 where
  of_none : v ≡ Absent → NoneBelow scene all a k → IsRight scene all a k v
  of_one : (u : Answer) (g : ℕ) → LastBelow scene all a k u g → v ≡ write_or (find (λ w. same_key w.key k) (seen scene all u).writes) Absent → IsRight scene all a k v

-- reads that gave the values of the snapshot, on which the script gives e
pub record Reads (scene : Scene) (all : List Answer) (a : Answer) (e : Evaluated) : Type 0 where
  pub reads : List ReadDone
  pub right : (r : ReadDone) → In r reads → IsRight scene all a r.key r.value
  pub gives : (look : KeyId → Value) → ((r : ReadDone) → In r reads → look r.key ≡ r.value) → eval (script_at scene a.place) look ≡ e

-- a final timestamp is above the snapshot
abbrev pub IsAbove : Answer → Type 0
IsAbove a = (f : ℕ) → IsCommittedAt a f → a.rs.0 < f

right_look : (scene : Scene) (all : List Answer) (a : Answer) (k : KeyId) (v : Value) → Named all → IsAbove a → IsRight scene all a k v
    → look_up (filter (counts_for a a.outcome) (members scene all)) a.rs.0 k ≡ v
right_look scene all a k v n above (of_none e none) = look_absent scene all a k n none ∙ sym e
right_look scene all a k v n above (of_one u g l e) =
    look_written scene all a k u g n above l.within l.committed l.final l.wrote l.top ∙ sym e

-- the answer is seen to give what its transaction's script gave on its reads
pub reads_seen : (scene : Scene) (all : List Answer) (a : Answer) (e : Evaluated) → Named all → IsAbove a → Reads scene all a e → seen scene all a ≡ e
reads_seen scene all a e n above r =
    r.gives (look_up (filter (counts_for a a.outcome) (members scene all)) a.rs.0) (λ x h. right_look scene all a x.key x.value n above (r.right x h))

-- it keeps what it saw, where each key that it read and that the new commit wrote is covered
pub reads_keep : (scene : Scene) (all : List Answer) (a b : Answer) (f : ℕ) (e : Evaluated) → Named all → IsAbove b → (r : Reads scene all b e)
    → ((x : ReadDone) → In x r.reads → wrote_key x.key (seen scene all a).writes ≡ true → Covered scene all f b x.key) → Keeps scene all a f b
reads_keep scene all a b f e n above r guard = record { keys = map (λ (x : ReadDone). x.key) r.reads; supports = supports_; covered = covered_ }
  where
    in_keys : (xs : List ReadDone) (x : ReadDone) → In x xs → In x.key (map (λ (y : ReadDone). y.key) xs)
    in_keys [] x h = absurd h
    in_keys (y ∷ xs) x (inl q) = inl (ap (λ z. z.key) q)
    in_keys (y ∷ xs) x (inr h) = inr (in_keys xs x h)

    supports_ : (look : KeyId → Value) → ((k : KeyId) → In k (map (λ (x : ReadDone). x.key) r.reads) → look k ≡ look_up (filter (counts_for b b.outcome) (members scene all)) b.rs.0 k)
        → eval (script_at scene b.place) look ≡ seen scene all b
    supports_ look agrees =
        r.gives look (λ x h. agrees x.key (in_keys r.reads x h) ∙ right_look scene all b x.key x.value n above (r.right x h)) ∙ sym (reads_seen scene all b e n above r)

    covered_ : (k : KeyId) → In k (map (λ (x : ReadDone). x.key) r.reads) → wrote_key k (seen scene all a).writes ≡ true → Covered scene all f b k
    covered_ k h w = let m = in_map (λ (x : ReadDone). x.key) r.reads k h in
        subst (Covered scene all f b) m.2 (guard m.0 m.1 (subst (λ z. wrote_key z (seen scene all a).writes ≡ true) (sym m.2) w))

-- where others that wrote the key are final at or below u, they are final below it, since writers of one key don't overlap
pub top_of : (scene : Scene) (all : List Answer) (k : KeyId) (u b : Answer) (g h : ℕ) → SI scene all → In u all → IsCommittedAt u g → wrote_key k (seen scene all u).writes ≡ true
    → In b all → IsCommittedAt b h → wrote_key k (seen scene all b).writes ≡ true → h ≤ g → (b ≡ u) ⊎ (h < g)
top_of scene all k u b g h si at_u is_u wrote_u at_b is_b wrote_b le = by_places (at_in all b at_b) (at_in all u at_u)
  where
    by_places : (i : ℕ) × IsAnswer all i b → (j : ℕ) × IsAnswer all j u → (b ≡ u) ⊎ (h < g)
    by_places p q = by_order (cases_eq p.0 q.0)
      where
        below_u : u.rs.0 < g
        below_u = rs_below (seen scene all u) u g (si.snapshots q.0 u q.1) is_u

        below_b : b.rs.0 < h
        below_b = rs_below (seen scene all b) b h (si.snapshots p.0 b p.1) is_b

        apart : (h ≤ u.rs.0) ⊎ (g ≤ b.rs.0) → h < g
        apart (inl l) = omega (arith, below_u)
        apart (inr l) = absurd (omega (arith, below_b))

        by_order : (p.0 ≡ q.0) ⊎ (p.0 ≢ q.0) → (b ≡ u) ⊎ (h < g)
        by_order (inl e) = inl (same_answer p.0 q.0 p.1 q.1 e)
          where
            same_answer : (i j : ℕ) → IsAnswer all i b → IsAnswer all j u → i ≡ j → b ≡ u
            same_answer i j x y e = (let z : Some b ≡ Some u = sym x ∙ subst (λ m. IsAnswer all m u) (sym e) y in cc z)
        by_order (inr n) = inr (apart (si.apart p.0 q.0 h g b u k p.1 q.1 n is_b is_u wrote_b wrote_u))
