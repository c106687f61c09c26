-- Messages that are numbered anew: the message of a node with a number stands at its new number.
use Rattle.std.proofs.Common.{Bool, List, Some, [], ap, arith, false, filter, if◌then◌else◌, length, nat_le, refl, subst, suc, sym, true, zero, ℕ, ◌++◌, ◌+◌, ◌-◌, ◌<◌, ◌∙◌, ◌∷◌, ◌≡◌, ◌≤◌, leb-false, leb-true}
use Rattle.lamport_log.proofs.NodeLogs.EntryPlaces.{nth_left, nth_right, nth_within}
use Rattle.lamport_log.specs.Logs.{Item, messages_in}
use Rattle.lamport_log.specs.Merge.{merged_number}
use Rattle.str_base.specs.Versions.{same_node}
use Rattle.str_base.specs.declared.names.NodeId.{NodeId}
use Rattle.str_model.specs.declared.messages.Message.{Message}
use Rattle.str_scene.specs.Scenes.{nth}

-- the entries of one node
abbrev pub mine : NodeId → List Item → List Item
mine n its = filter (λ it. same_node it.node n) its

-- one entry's messages stand before the rest
further : (xs ys : List Message) (k : ℕ) (m : Message) → nth ys k ≡ Some m → nth (xs ++ ys) (length xs + k) ≡ Some m
further xs ys k m e = nth_right xs ys k (nth_within ys k m e).0 ∙ e

-- past one entry's messages
pub past : {A : Type 0} (xs ys : List A) (k : ℕ) → length xs < k → nth (xs ++ ys) k ≡ nth ys (k - length xs)
past xs ys k less =
    let e : length xs + (k - length xs) ≡ k = omega arith in
    subst (λ j. nth (xs ++ ys) j ≡ nth ys (k - length xs)) e (nth_right xs ys (k - length xs) (omega arith))

pub number_found : (its : List Item) (n : NodeId) (k : ℕ) (m : Message) → nth (messages_in (mine n its)) k ≡ Some m → nth (messages_in its) (merged_number its n k) ≡ Some m
number_found [] n zero m e = absurd cc
number_found [] n (suc k) m e = absurd cc
number_found (it ∷ its) n k m e = by_node (number_found its n) (same_node it.node n) e
  where
    by_node : ((j : ℕ) (m : Message) → nth (messages_in (mine n its)) j ≡ Some m → nth (messages_in its) (merged_number its n j) ≡ Some m) → (b : Bool)
        → nth (messages_in (if b then it ∷ mine n its else mine n its)) k ≡ Some m
        → nth (it.sent ++ messages_in its) (if b then (if nat_le k (length it.sent) then k else length it.sent + merged_number its n (k - length it.sent)) else length it.sent + merged_number its n k) ≡ Some m
    by_node rec true e = by_size (nat_le k (length it.sent)) refl
      where
        by_size : (b : Bool) → nat_le k (length it.sent) ≡ b → nth (it.sent ++ messages_in its) (if b then k else length it.sent + merged_number its n (k - length it.sent)) ≡ Some m
        by_size true q =
            let le : k ≤ length it.sent = leb-true k (length it.sent) q in
            nth_left it.sent (messages_in its) k le ∙ sym (nth_left it.sent (messages_in (mine n its)) k le) ∙ e
        by_size false q =
            further it.sent (messages_in its) (merged_number its n (k - length it.sent)) m (rec (k - length it.sent) m (sym (past it.sent (messages_in (mine n its)) k (leb-false k (length it.sent) q)) ∙ e))
    by_node rec false e = further it.sent (messages_in its) (merged_number its n k) m (rec k m e)

pub number_stays : (its more : List Item) (n : NodeId) (k : ℕ) (m : Message) → nth (messages_in (mine n its)) k ≡ Some m → merged_number (its ++ more) n k ≡ merged_number its n k
number_stays [] more n zero m e = absurd cc
number_stays [] more n (suc k) m e = absurd cc
number_stays (it ∷ its) more n k m e = by_node (number_stays its more n) (same_node it.node n) e
  where
    by_node : ((j : ℕ) (m : Message) → nth (messages_in (mine n its)) j ≡ Some m → merged_number (its ++ more) n j ≡ merged_number its n j) → (b : Bool)
        → nth (messages_in (if b then it ∷ mine n its else mine n its)) k ≡ Some m
        → (if b then (if nat_le k (length it.sent) then k else length it.sent + merged_number (its ++ more) n (k - length it.sent)) else length it.sent + merged_number (its ++ more) n k)
        ≡ (if b then (if nat_le k (length it.sent) then k else length it.sent + merged_number its n (k - length it.sent)) else length it.sent + merged_number its n k)
    by_node rec true e = by_size (nat_le k (length it.sent)) refl
      where
        by_size : (b : Bool) → nat_le k (length it.sent) ≡ b
            → (if b then k else length it.sent + merged_number (its ++ more) n (k - length it.sent)) ≡ (if b then k else length it.sent + merged_number its n (k - length it.sent))
        by_size true q = refl
        by_size false q =
            ap (λ j. length it.sent + j) (rec (k - length it.sent) m (sym (past it.sent (messages_in (mine n its)) k (leb-false k (length it.sent) q)) ∙ e))
    by_node rec false e = ap (λ j. length it.sent + j) (rec k m e)
