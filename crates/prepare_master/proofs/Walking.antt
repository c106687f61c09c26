-- Walks over lists of versions, and tests that run over them.
use Rattle.std.proofs.Common.{Bool, List, None, Option, Some, [], ap, drop, false, find, get_or, if◌then◌else◌, le-ltb, length, nat_lt, not, refl, sym, true, ℕ, ◌&&◌, ◌++◌, ◌+◌, ◌<◌, ◌||◌, ◌∙◌, ◌∷◌, ◌≡◌}
use Rattle.prepare_master.specs.declared.masters.Reason.{Reason}
use Rattle.prepare_master.specs.declared.masters.Reason.TheVariants.{ToPark, ToRefuse}
use Rattle.prepare_master.specs.MasterTurns.{gives}
use Rattle.str_base.specs.declared.names.Version.{Version}
use Rattle.str_base.specs.declared.names.Write.{Write}
use Rattle.str_base.specs.Versions.{chain, is_undecided, same_node}
use Rattle.str_model.specs.declared.messages.Arrived.{Arrived}
use Rattle.str_model.specs.Turns.{met}
use Rattle.version_chain.proofs.Lists.{at_place}
use Rattle.version_chain.specs.ChainLists.{Each}
use Rattle.version_chain.specs.Walks.{IsSettled}

-- the first that passes stands in the first list
pub found_first : {A : Type 0} (p : A → Bool) (xs ys : List A) (v : A) → find p xs ≡ Some v → find p (xs ++ ys) ≡ Some v
found_first p [] ys v e = absurd cc
found_first p (x ∷ xs) ys v e = by_test (p x) e (found_first p xs ys v)
  where
    by_test : (b : Bool) → (if b then Some x else find p xs) ≡ Some v → (find p xs ≡ Some v → find p (xs ++ ys) ≡ Some v) → (if b then Some x else find p (xs ++ ys)) ≡ Some v
    by_test true q rec = q
    by_test false q rec = rec q

-- none of the first list passes
pub found_later : {A : Type 0} (p : A → Bool) (xs ys : List A) → find p xs ≡ None → find p (xs ++ ys) ≡ find p ys
found_later p [] ys e = refl
found_later p (x ∷ xs) ys e = by_test (p x) e (found_later p xs ys)
  where
    by_test : (b : Bool) → (if b then Some x else find p xs) ≡ None → (find p xs ≡ None → find p (xs ++ ys) ≡ find p ys) → (if b then Some x else find p (xs ++ ys)) ≡ find p ys
    by_test true q rec = absurd cc
    by_test false q rec = rec q

-- the next one is the first that passes
pub found_next : {A : Type 0} (p : A → Bool) (x : A) (xs ys : List A) (r : Option A) → find p xs ≡ r → xs ≡ x ∷ ys → p x ≡ true → Some x ≡ r
found_next p x xs ys r h e t = sym (ap (λ b. if b then Some x else find p ys) t) ∙ sym (ap (λ zs. find p zs) e) ∙ h

-- the next one does not pass
pub found_after : {A : Type 0} (p : A → Bool) (x : A) (xs ys : List A) (r : Option A) → find p xs ≡ r → xs ≡ x ∷ ys → p x ≡ false → find p ys ≡ r
found_after p x xs ys r h e t = sym (ap (λ b. if b then Some x else find p ys) t) ∙ sym (ap (λ zs. find p zs) e) ∙ h

-- there is no next one
pub found_none : {A : Type 0} (p : A → Bool) (xs : List A) (r : Option A) → find p xs ≡ r → xs ≡ [] → None ≡ r
found_none p xs r h e = sym (ap (λ zs. find p zs) e) ∙ h

-- ---- settled versions

-- none of them passes
pub none_settled : (p : Version → Bool) (rs : ℕ) (vs : List Version) → ((v : Version) → IsSettled rs v → p v ≡ false) → Each (IsSettled rs) vs → find p vs ≡ None
none_settled p rs [] f e = refl
none_settled p rs (v ∷ vs) f e = ap (λ b. if b then Some v else find p vs) (f v e.0) ∙ none_settled p rs vs f e.1

-- a settled version is no reason
no_reason : (r : Reason) (a : Arrived) (v : Version) → IsSettled a.rs.0 v → gives r a v ≡ false
no_reason ToRefuse a v s =
    ap (λ k. (is_undecided k && not (same_node v.tx.node a.tx.node)) || (not (is_undecided k) && nat_lt a.rs.0 v.ts.0)) s.0 ∙ le-ltb a.rs.0 v.ts.0 s.1
no_reason ToPark a v s = ap (λ k. is_undecided k && same_node v.tx.node a.tx.node) s.0

-- so the reasons are found among the others
pub reasons_unsettled : (r : Reason) (a : Arrived) (vs us ws : List Version) → vs ≡ us ++ ws → Each (IsSettled a.rs.0) us → find (gives r a) ws ≡ find (gives r a) vs
reasons_unsettled r a vs us ws e s =
    sym (found_later (gives r a) us ws (none_settled (gives r a) a.rs.0 us (no_reason r a) s)) ∙ sym (ap (λ xs. find (gives r a) xs) e)

-- ---- the versions of written keys

-- the first that passes is of the key at this place
pub first_met : (p : Version → Bool) (ws : List Write) (vs : List Version) (i : ℕ) (d : Write) (v : Version) (f : Option Version) → i < length ws
    → find p (chain (get_or ws i d).key vs) ≡ Some v → find p (met (drop i ws) vs) ≡ f → Some v ≡ f
first_met p ws vs i d v f l e q =
    sym (found_first p (chain (get_or ws i d).key vs) (met (drop (i + 1) ws) vs) v e) ∙ ap (λ us. find p (met us vs)) (sym (at_place ws i (i + 1) d l refl)) ∙ q

-- none of the key at this place passes
pub next_met : (p : Version → Bool) (ws : List Write) (vs : List Version) (i : ℕ) (d : Write) (f : Option Version) → i < length ws
    → find p (chain (get_or ws i d).key vs) ≡ None → find p (met (drop i ws) vs) ≡ f → find p (met (drop (i + 1) ws) vs) ≡ f
next_met p ws vs i d f l e q =
    sym (found_later p (chain (get_or ws i d).key vs) (met (drop (i + 1) ws) vs) e) ∙ ap (λ us. find p (met us vs)) (sym (at_place ws i (i + 1) d l refl)) ∙ q
