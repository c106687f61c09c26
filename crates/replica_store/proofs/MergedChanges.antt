-- What is inserted into, taken out of and committed in a cache and a store together is so in the one which holds it.
use Rattle.std.proofs.Common.{Bool, List, [], ap, false, filter, map, not, refl, true, ℕ, ◌&&◌, ◌∙◌, ◌∷◌, ◌≡◌}
use Rattle.str_base.proofs.Order.{apart_back}
use Rattle.str_base.specs.declared.names.TxId.{TxId}
use Rattle.str_base.specs.declared.names.Version.{Version}
use Rattle.str_base.specs.Versions.{finalise, insert_all, insert_version, of_tx, settled, without}
use Rattle.str_model.specs.Acts.{decided_versions, is_hosted_of}
use Rattle.str_scene.specs.Scenes.{Here, hosts}
use Rattle.version_chain.specs.ChainLists.{Apart, Each, IsOrdered, merged}
use Rattle.version_chain.proofs.Each.{each_always, each_both, each_kept, each_map, each_so}
use Rattle.version_chain.proofs.Keeping.{ordered_apart}
use Rattle.replica_store.proofs.Commuting.{insert_among, insert_early}
use Rattle.replica_store.proofs.Merging.{ListsApart, merged_seen, merged_unseen}

-- ---- insertions

-- one version into the store
pub insert_in_store : (v : Version) (cache store : List Version) → Each (Apart v) cache → insert_version v (merged cache store) ≡ merged cache (insert_version v store)
insert_in_store v cache store a = insert_early v cache store a

-- one version into the cache
pub insert_in_cache : (v : Version) (cache store : List Version) → Each (Apart v) cache → insert_version v (merged cache store) ≡ merged (insert_version v cache) store
insert_in_cache v cache store a = insert_among v cache store a

-- more versions into the store
pub insert_all_in_store : (ws cache store : List Version) → ListsApart ws cache → insert_all ws (merged cache store) ≡ merged cache (insert_all ws store)
insert_all_in_store [] cache store a = refl
insert_all_in_store (w ∷ ws) cache store a =
    ap (λ vs. insert_all ws vs) (insert_in_store w cache store a.0) ∙ insert_all_in_store ws cache (insert_version w store) a.1

-- ---- versions taken out

-- versions that pass a test are taken out of each
pub without_merged : (test : Version → Bool) (cache store : List Version) → IsOrdered cache → IsOrdered store → ListsApart cache store
    → without test (merged cache store) ≡ merged (without test cache) (without test store)
without_merged test cache store o p a = merged_seen (λ v. not (test v)) cache store (ordered_apart cache o) p a

-- ---- commits

-- what is apart from each of a list is apart from those of it that a test lets through
kept_apart : (p q : Version → Bool) (ws vs : List Version) → ListsApart ws vs → ListsApart (filter p ws) (filter q vs)
kept_apart p q ws vs a = each_kept p (λ w. Each (Apart w) (filter q vs)) ws (each_so (λ w. Each (Apart w) vs) (λ w. Each (Apart w) (filter q vs)) ws (λ w h. each_kept q (Apart w) vs h) a)

-- the same of the two lists
with_one : (v : Version) (vs ws : List Version) → Each (Apart v) ws → ListsApart ws vs → ListsApart ws (v ∷ vs)
with_one v vs ws a b = each_both (Apart v) (λ w. Each (Apart w) vs) (λ w. Apart w v × Each (Apart w) vs) ws (λ w p q. (apart_back v w p, q)) a b

-- turned round
pub lists_apart_back : (vs ws : List Version) → ListsApart vs ws → ListsApart ws vs
lists_apart_back [] ws a = each_always (λ w. Unit {0}) ws (λ w. tt)
lists_apart_back (v ∷ vs) ws a = with_one v vs ws a.0 (lists_apart_back vs ws a.1)

-- a commit leaves lists apart
settled_apart : (fc : ℕ) (ws vs : List Version) → ListsApart ws vs → ListsApart (map (settled fc) ws) vs
settled_apart fc ws vs a = each_map (settled fc) (λ w. Each (Apart w) vs) ws a

-- versions that pass one test, none of them cached, are committed in the store; all that pass another are taken out before
pub settle_merged : (p q : Version → Bool) (fc : ℕ) (cache store : List Version) → IsOrdered cache → IsOrdered store → ListsApart cache store
    → Each (λ v. p v ≡ false) cache
    → insert_all (map (settled fc) (filter p (merged cache store))) (without q (merged cache store))
    ≡ merged (without q cache) (insert_all (map (settled fc) (filter p store)) (without q store))
settle_merged p q fc cache store o r a f =
    ap (λ vs. insert_all (map (settled fc) vs) (without q (merged cache store))) (merged_unseen p cache store f)
    ∙ ap (λ vs. insert_all (map (settled fc) (filter p store)) vs) (without_merged q cache store o r a)
    ∙ insert_all_in_store (map (settled fc) (filter p store)) (without q cache) (without q store)
    (settled_apart fc (filter p store) (without q cache) (kept_apart p (λ v. not (q v)) store cache (lists_apart_back cache store a)))

-- the commit of an own transaction
pub decided_merged : (here : Here) (tx : TxId) (fc : ℕ) (cache store : List Version) → IsOrdered cache → IsOrdered store → ListsApart cache store
    → Each (λ v. is_hosted_of here tx v ≡ false) cache
    → decided_versions here tx fc (merged cache store) ≡ merged (without (of_tx tx) cache) (decided_versions here tx fc store)
decided_merged here tx fc cache store o p a f = settle_merged (is_hosted_of here tx) (of_tx tx) fc cache store o p a f

-- a list of which none passes a test
pub none_out : (test : Version → Bool) (vs : List Version) → Each (λ v. test v ≡ false) vs → without test vs ≡ vs
none_out test [] e = refl
none_out test (v ∷ vs) e = rw e.0 (ap (λ ws. v ∷ ws) (none_out test vs e.1))

-- versions of which none is cached are committed in the store
pub finalise_in_store : (test : Version → Bool) (fc : ℕ) (cache store : List Version) → IsOrdered cache → IsOrdered store → ListsApart cache store
    → Each (λ v. test v ≡ false) cache → finalise test fc (merged cache store) ≡ merged cache (finalise test fc store)
finalise_in_store test fc cache store o p a f = settle_merged test test fc cache store o p a f ∙ ap (λ ws. merged ws (finalise test fc store)) (none_out test cache f)

-- ---- what no cache has

-- versions elsewhere are none of a transaction's hosted ones
pub none_hosted : (here : Here) (tx : TxId) (cache : List Version) → Each (λ v. hosts here.scene here.node v.part ≡ false) cache → Each (λ v. is_hosted_of here tx v ≡ false) cache
none_hosted here tx cache e =
    each_so (λ v. hosts here.scene here.node v.part ≡ false) (λ v. is_hosted_of here tx v ≡ false) cache (λ v h. second_fails (of_tx tx v) (hosts here.scene here.node v.part) h) e
  where
    second_fails : (p q : Bool) → q ≡ false → (p && q) ≡ false
    second_fails true q k = k
    second_fails false q k = refl
