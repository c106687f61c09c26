-- What scripts add to an account, and what the answers add to it, in the order of the commit list or in any other.
use Rattle.std.proofs.Common.{Bool, List, None, Some, [], ap, arith, false, if◌then◌else◌, neg_ℤ, pos, refl, subst, sym, true, ℕ, ℤ, ◌+◌, ◌+ℤ◌, ◌-◌, ◌∙◌, ◌∷◌, ◌≡◌, ◌≤◌, ◌||◌}
use Rattle.std.specs.List.{fold, list_all, list_any}
use Rattle.std.proofs.lemmas.Bool.{and_parts}
use Rattle.std.proofs.lemmas.Int.{ints}
use Rattle.str_base.proofs.SameNames.{same_key-is}
use Rattle.str_base.specs.declared.names.KeyId.{KeyId}
use Rattle.str_base.specs.Versions.{same_key}
use Rattle.str_model.specs.declared.messages.Answer.{Answer}
use Rattle.str_model.specs.declared.messages.Outcome.{Outcome}
use Rattle.str_model.specs.declared.messages.Outcome.TheVariants.{Aborted, Committed}
use Rattle.str_scene.specs.declared.names.Op.{Op}
use Rattle.str_scene.specs.declared.names.Op.TheVariants.{Abort, Add, Del, Get, Need, Put, Puts}
use Rattle.str_scene.specs.Scenes.{Scene, script_at}
use Rattle.si_laws.specs.Commits.{Commit, commits, fc_before, insert_commit, with_commit}
use Rattle.bank_book.specs.BankScenes.{opens}
use Rattle.bank_book.specs.Tallies.{added, adds, gained, has_committed, moved}
use Rattle.bank_book.proofs.AccountSums.{after, apart, not_same}
use Rattle.bank_book.proofs.ScriptWrites.{pays}

-- ---- one script

opens_nothing : (k : KeyId) (op : Op) → opens op ≡ true → adds k op ≡ pos 0
opens_nothing k (Put l n) e = refl
opens_nothing k (Get l) e = absurd (cc e)
opens_nothing k (Puts l t) e = absurd (cc e)
opens_nothing k (Add l n) e = absurd (cc e)
opens_nothing k (Del l) e = absurd (cc e)
opens_nothing k (Need l n) e = absurd (cc e)
opens_nothing k Abort e = absurd (cc e)

-- an opening adds nothing
pub opening_adds : (k : KeyId) (ops : List Op) → list_all opens ops ≡ true → added k ops ≡ pos 0
opening_adds k [] a = refl
opening_adds k (op ∷ ops) a =
    let p = and_parts (opens op) (list_all opens ops) a in
    ap (λ (z : ℤ). fold (λ (sum : ℤ) (o : Op). sum +ℤ adds k o) (pos 0 +ℤ z) ops) (opens_nothing k op p.0) ∙ opening_adds k ops p.1

gone : (b v : ℕ) → v ≤ b → pos (b - v) ≡ pos b +ℤ (((pos 0 +ℤ pos 0) +ℤ neg_ℤ (pos v)) +ℤ pos 0)
gone b v h = omega (arith, ints)

come : (b v : ℕ) → pos (b + v) ≡ pos b +ℤ (((pos 0 +ℤ pos 0) +ℤ pos 0) +ℤ pos v)
come b v = omega (arith, ints)

stays : (b : ℕ) → pos b ≡ pos b +ℤ (((pos 0 +ℤ pos 0) +ℤ pos 0) +ℤ pos 0)
stays b = omega (arith, ints)

-- a transfer adds what it pays
pub transfer_adds : (x y : KeyId) (v : ℕ) (has : KeyId → ℕ) (k : KeyId) → same_key x y ≡ false → v ≤ has x → pos (after x y v has k) ≡ pos (has k) +ℤ added k (pays x y (pos v) (neg_ℤ (pos v)))
transfer_adds x y v has k e h = by_payer (same_key x k) refl
  where
    by_payee : same_key x k ≡ false → (t : Bool) → same_key y k ≡ t → pos (after x y v has k) ≡ pos (has k) +ℤ added k (pays x y (pos v) (neg_ℤ (pos v)))
    by_payee p true q = rw (p, q) (come (has k) v)
    by_payee p false q = rw (p, q) (stays (has k))

    by_payer : (t : Bool) → same_key x k ≡ t → pos (after x y v has k) ≡ pos (has k) +ℤ added k (pays x y (pos v) (neg_ℤ (pos v)))
    by_payer true p =
        let same : x ≡ k = same_key-is x k p in
        let other : same_key y k ≡ false = not_same y k (λ q. apart x y e (same ∙ sym q)) in
        rw (p, other) (gone (has k) v (subst (λ (z : KeyId). v ≤ has z) same h))
    by_payer false p = by_payee p (same_key y k) refl

-- ---- all answers

-- what commits add to a key
abbrev pub shifts : Scene → KeyId → List Commit → ℤ
shifts scene k [] = pos 0
shifts scene k (c ∷ cs) = added k (script_at scene c.answer.place) +ℤ shifts scene k cs

-- what answers add to it
abbrev sum_moved : Scene → KeyId → List Answer → ℤ
sum_moved scene k [] = pos 0
sum_moved scene k (a ∷ all) = moved scene k a +ℤ sum_moved scene k all

swapped : (a b s : ℤ) → b +ℤ (a +ℤ s) ≡ a +ℤ (b +ℤ s)
swapped a b s = omega (arith, ints)

nothing_more : (s : ℤ) → s ≡ pos 0 +ℤ s
nothing_more s = omega (arith, ints)

step : (z a s : ℤ) → (z +ℤ a) +ℤ s ≡ z +ℤ (a +ℤ s)
step z a s = omega (arith, ints)

ends : (z : ℤ) → z ≡ z +ℤ pos 0
ends z = omega (arith, ints)

insert_shifts : (scene : Scene) (k : KeyId) (c : Commit) (cs : List Commit) → shifts scene k (insert_commit c cs) ≡ added k (script_at scene c.answer.place) +ℤ shifts scene k cs
insert_shifts scene k c [] = refl
insert_shifts scene k c (b ∷ bs) = by_test (fc_before c.fc c.answer.tx b.fc b.answer.tx) (insert_shifts scene k c bs)
  where
    by_test : (t : Bool) → shifts scene k (insert_commit c bs) ≡ added k (script_at scene c.answer.place) +ℤ shifts scene k bs
        → shifts scene k (if t then c ∷ b ∷ bs else b ∷ insert_commit c bs) ≡ added k (script_at scene c.answer.place) +ℤ shifts scene k (b ∷ bs)
    by_test true r = refl
    by_test false r =
        ap (λ (z : ℤ). added k (script_at scene b.answer.place) +ℤ z) r
        ∙ swapped (added k (script_at scene c.answer.place)) (added k (script_at scene b.answer.place)) (shifts scene k bs)

with_shifts : (scene : Scene) (k : KeyId) (a : Answer) (o : Outcome) (cs : List Commit)
    → shifts scene k (with_commit a o cs) ≡ (if has_committed o then added k (script_at scene a.place) else pos 0) +ℤ shifts scene k cs
with_shifts scene k a (Committed (Some f) gs) cs = insert_shifts scene k (record { fc = f.0; answer = a }) cs
with_shifts scene k a (Committed None gs) cs = nothing_more (shifts scene k cs)
with_shifts scene k a (Aborted w) cs = nothing_more (shifts scene k cs)

answers_shifts : (scene : Scene) (k : KeyId) (all : List Answer) → shifts scene k (commits all) ≡ sum_moved scene k all
answers_shifts scene k [] = refl
answers_shifts scene k (a ∷ all) = with_shifts scene k a a.outcome (commits all) ∙ ap (λ (z : ℤ). moved scene k a +ℤ z) (answers_shifts scene k all)

moved_sum : (scene : Scene) (k : KeyId) (z : ℤ) (all : List Answer) → fold (λ (sum : ℤ) (a : Answer). sum +ℤ moved scene k a) z all ≡ z +ℤ sum_moved scene k all
moved_sum scene k z [] = ends z
moved_sum scene k z (a ∷ all) = moved_sum scene k (z +ℤ moved scene k a) all ∙ step z (moved scene k a) (sum_moved scene k all)

-- what the answers add is what the commit list adds
pub gained_shifts : (scene : Scene) (k : KeyId) (all : List Answer) → gained scene k all ≡ shifts scene k (commits all)
gained_shifts scene k all = moved_sum scene k (pos 0) all ∙ (sym (nothing_more (sum_moved scene k all)) ∙ sym (answers_shifts scene k all))

-- ---- whether anything has committed

insert_some : (c : Commit) (cs : List Commit) → insert_commit c cs ≡ [] → ⊥
insert_some c [] e = absurd (cc e)
insert_some c (b ∷ bs) e = by_test (fc_before c.fc c.answer.tx b.fc b.answer.tx) e
  where
    by_test : (t : Bool) → (if t then c ∷ b ∷ bs else b ∷ insert_commit c bs) ≡ [] → ⊥
    by_test true q = absurd (cc q)
    by_test false q = absurd (cc q)

-- nothing has where the commit list is empty
pub none_committed : (all : List Answer) → commits all ≡ [] → list_any (λ (a : Answer). has_committed a.outcome) all ≡ false
none_committed [] e = refl
none_committed (a ∷ all) e = by_outcome (none_committed all) a.outcome e
  where
    by_outcome : (commits all ≡ [] → list_any (λ (b : Answer). has_committed b.outcome) all ≡ false) → (o : Outcome) → with_commit a o (commits all) ≡ [] → (has_committed o || list_any (λ (b : Answer). has_committed b.outcome) all) ≡ false
    by_outcome rec (Committed (Some f) gs) q = absurd (insert_some (record { fc = f.0; answer = a }) (commits all) q)
    by_outcome rec (Committed None gs) q = rec q
    by_outcome rec (Aborted w) q = rec q

-- and something has where it is not
pub some_committed : (all : List Answer) (c : Commit) (cs : List Commit) → commits all ≡ c ∷ cs → list_any (λ (a : Answer). has_committed a.outcome) all ≡ true
some_committed [] c cs e = absurd (cc e)
some_committed (a ∷ all) c cs e = by_outcome (some_committed all c cs) a.outcome e
  where
    by_outcome : (commits all ≡ c ∷ cs → list_any (λ (b : Answer). has_committed b.outcome) all ≡ true) → (o : Outcome) → with_commit a o (commits all) ≡ c ∷ cs → (has_committed o || list_any (λ (b : Answer). has_committed b.outcome) all) ≡ true
    by_outcome rec (Committed (Some f) gs) q = refl
    by_outcome rec (Committed None gs) q = rec q
    by_outcome rec (Aborted w) q = rec q
