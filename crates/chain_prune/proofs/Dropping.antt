-- A hidden version of a key is taken out: what pruning leaves of that key is the same.
use Rattle.std.proofs.Common.{Bool, List, None, Some, [], ap, false, filter, if◌then◌else◌, inl, inr, length, nat_le, not, refl, subst, suc, sym, true, ℕ, ◌&&◌, ◌||◌, ◌∙◌, ◌∷◌, ◌≡◌}
use Rattle.std.proofs.lemmas.Bool.{and_from, and_parts}
use Rattle.std.specs.List.{list_any}
use Rattle.str_base.specs.declared.names.KeyId.{KeyId}
use Rattle.str_base.specs.declared.names.TxId.{TxId}
use Rattle.str_base.specs.declared.names.Version.{Version}
use Rattle.str_base.specs.Versions.{chain, is_undecided, same_key, same_tx, without}
use Rattle.str_base.proofs.Members.{In, in_filter}
use Rattle.str_base.proofs.Order.{apart_back}
use Rattle.str_base.proofs.SameNames.{is-same_tx, same_key-is, same_tx-is}
use Rattle.str_base.proofs.Tests.{or_false_left, or_false_right}
use Rattle.str_model.specs.Pruning.{covers, hides}
use Rattle.version_chain.specs.ChainLists.{Apart, IsOrdered, Precedes, of_write}
use Rattle.version_chain.proofs.Telling.{each_in, without_none}
use Rattle.chain_prune.specs.Hidden.{first_hidden, pruned_key, pruned_where}

-- ---- lists with one version more

pub keeps : (test : KeyId → Bool) (g : ℕ) (v : Version) (vs : List Version) → (test v.key && hides g v vs) ≡ false → pruned_where test g (v ∷ vs) ≡ v ∷ pruned_where test g vs
keeps test g v vs e = ap (λ (b : Bool). if b then pruned_where test g vs else v ∷ pruned_where test g vs) e

pub loses : (test : KeyId → Bool) (g : ℕ) (v : Version) (vs : List Version) → (test v.key && hides g v vs) ≡ true → pruned_where test g (v ∷ vs) ≡ pruned_where test g vs
loses test g v vs e = ap (λ (b : Bool). if b then pruned_where test g vs else v ∷ pruned_where test g vs) e

passes : (test : Version → Bool) (v : Version) (vs : List Version) → test v ≡ true → filter test (v ∷ vs) ≡ v ∷ filter test vs
passes test v vs e = ap (λ (b : Bool). if b then v ∷ filter test vs else filter test vs) e

fails : (test : Version → Bool) (v : Version) (vs : List Version) → test v ≡ false → filter test (v ∷ vs) ≡ filter test vs
fails test v vs e = ap (λ (b : Bool). if b then v ∷ filter test vs else filter test vs) e

stays : (test : Version → Bool) (v : Version) (vs : List Version) → test v ≡ false → without test (v ∷ vs) ≡ v ∷ without test vs
stays test v vs e = passes (λ w. not (test w)) v vs (ap not e)

goes : (test : Version → Bool) (v : Version) (vs : List Version) → test v ≡ true → without test (v ∷ vs) ≡ without test vs
goes test v vs e = fails (λ w. not (test w)) v vs (ap not e)

-- ---- what hides

none_of_fewer : (p test : Version → Bool) (vs : List Version) → list_any p vs ≡ false → list_any p (filter test vs) ≡ false
none_of_fewer p test [] e = refl
none_of_fewer p test (v ∷ vs) e = by_test (test v) (none_of_fewer p test vs (or_false_right (p v) (list_any p vs) e))
  where
    by_test : (b : Bool) → list_any p (filter test vs) ≡ false → list_any p (if b then v ∷ filter test vs else filter test vs) ≡ false
    by_test true rec = ap (λ b. b || list_any p (filter test vs)) (or_false_left (p v) (list_any p vs) e) ∙ rec
    by_test false rec = rec

pub hides_fewer : (g : ℕ) (test : Version → Bool) (v : Version) (vs : List Version) → hides g v vs ≡ false → hides g v (filter test vs) ≡ false
hides_fewer g test v vs h = by_kind (not (is_undecided v.kind)) h
  where
    by_kind : (b : Bool) → (b && list_any (covers g v.key) vs) ≡ false → (b && list_any (covers g v.key) (filter test vs)) ≡ false
    by_kind true e = none_of_fewer (covers g v.key) test vs e
    by_kind false e = refl

-- only the versions of its key hide a version
pub covers_of_key : (g : ℕ) (k : KeyId) (vs : List Version) → list_any (covers g k) (chain k vs) ≡ list_any (covers g k) vs
covers_of_key g k [] = refl
covers_of_key g k (v ∷ vs) = by_key (same_key v.key k) refl (covers_of_key g k vs)
  where
    fails_other : (a b : Bool) → (a && (false && b)) ≡ false
    fails_other true b = refl
    fails_other false b = refl

    by_key : (b : Bool) → same_key v.key k ≡ b → list_any (covers g k) (chain k vs) ≡ list_any (covers g k) vs
        → list_any (covers g k) (if b then v ∷ chain k vs else chain k vs) ≡ (covers g k v || list_any (covers g k) vs)
    by_key true e rec = ap (λ b. covers g k v || b) rec
    by_key false e rec =
        rec
        ∙ sym
        (ap (λ b. (not (is_undecided v.kind) && (b && nat_le v.ts.0 g)) || list_any (covers g k) vs) e
        ∙ ap (λ b. b || list_any (covers g k) vs) (fails_other (not (is_undecided v.kind)) (nat_le v.ts.0 g)))

hides_in_key : (g : ℕ) (k : KeyId) (v : Version) (vs : List Version) → v.key ≡ k → hides g v (chain k vs) ≡ hides g v vs
hides_in_key g k v vs e =
    ap (λ b. not (is_undecided v.kind) && b) (subst (λ m. list_any (covers g m) (chain k vs) ≡ list_any (covers g m) vs) (sym e) (covers_of_key g k vs))

hidden_in : (g : ℕ) (vs : List Version) (v : Version) → first_hidden g vs ≡ Some v → In v vs
hidden_in g [] v e = absurd (cc)
hidden_in g (w ∷ ws) v e = by_hidden (hides g w ws) e (λ r. hidden_in g ws v r)
  where
    by_hidden : (b : Bool) → (if b then Some w else first_hidden g ws) ≡ Some v → (first_hidden g ws ≡ Some v → In v ws) → In v (w ∷ ws)
    by_hidden true e rec = inl (cc)
    by_hidden false e rec = inr (rec e)

-- ---- a hidden version goes

-- no other version of the key is by the transaction
other_write : (k : KeyId) (v w : Version) → Apart w v → v.key ≡ k → of_write k v.tx w ≡ false
other_write k v w a e = by_test (of_write k v.tx w) refl
  where
    by_test : (b : Bool) → of_write k v.tx w ≡ b → b ≡ false
    by_test false h = refl
    by_test true h =
        let p = and_parts (same_key w.key k) (same_tx w.tx v.tx) h in
        let q = same_key-is w.key k p.0 ∙ sym e in
        let t = same_tx-is w.tx v.tx p.1 in
        absurd (a (ap (λ (m : KeyId). m.0) q) (ap (λ (x : TxId). x.node.0) t) (ap (λ (x : TxId). x.seq) t))

-- what is pruned of the key is the same without it, and one version fewer stands there
pub record IsDropped (g : ℕ) (k : KeyId) (t : TxId) (vs : List Version) : Type 0 where
  pub pruned : pruned_key k g (without (of_write k t) vs) ≡ pruned_key k g vs
  pub fewer : suc (length (without (of_write k t) vs)) ≡ length vs
  pub fewer_of_key : suc (length (chain k (without (of_write k t) vs))) ≡ length (chain k vs)

pub dropped : (g : ℕ) (k : KeyId) (vs : List Version) (v : Version) → IsOrdered vs → first_hidden g (chain k vs) ≡ Some v → IsDropped g k v.tx vs
dropped g k [] v o e = absurd (cc)
dropped g k (w ∷ ws) v o e = by_key (same_key w.key k) refl e (λ r. dropped g k ws v o.1 r)
  where
    -- a version that stays
    kept : of_write k v.tx w ≡ false → (same_key w.key k && hides g w ws) ≡ false → IsDropped g k v.tx ws → IsDropped g k v.tx (w ∷ ws)
    kept n h rec =
        let fs = without (of_write k v.tx) ws in
        let s = stays (of_write k v.tx) w ws n in
        record {
          pruned =
              ap (λ xs. pruned_key k g xs) s ∙ keeps (λ m. same_key m k) g w fs (fewer_hide (same_key w.key k) h) ∙ ap (λ xs. w ∷ xs) rec.pruned
              ∙ sym (keeps (λ m. same_key m k) g w ws h);
          fewer = ap (λ xs. suc (length xs)) s ∙ ap suc rec.fewer;
          fewer_of_key = ap (λ xs. suc (length (chain k xs))) s ∙ in_chain (same_key w.key k) rec.fewer_of_key;
        }
      where
        fewer_hide : (b : Bool) → (b && hides g w ws) ≡ false → (b && hides g w (without (of_write k v.tx) ws)) ≡ false
        fewer_hide true h = hides_fewer g (λ x. not (of_write k v.tx x)) w ws h
        fewer_hide false h = refl

        in_chain : (b : Bool) → suc (length (chain k (without (of_write k v.tx) ws))) ≡ length (chain k ws)
            → suc (length (if b then w ∷ chain k (without (of_write k v.tx) ws) else chain k (without (of_write k v.tx) ws))) ≡ length (if b then w ∷ chain k ws else chain k ws)
        in_chain true r = ap suc r
        in_chain false r = r

    -- the hidden one
    gone : same_key w.key k ≡ true → hides g w ws ≡ true → IsDropped g k w.tx (w ∷ ws)
    gone m h =
        let n = goes (of_write k w.tx) w ws (and_from (same_key w.key k) (same_tx w.tx w.tx) m (is-same_tx w.tx w.tx refl)) in
        let s = n ∙ without_none (of_write k w.tx) ws (λ x i. other_write_back x i) in
        record {
          pruned = ap (λ xs. pruned_key k g xs) s ∙ sym (loses (λ m. same_key m k) g w ws (and_from (same_key w.key k) (hides g w ws) m h));
          fewer = ap (λ xs. suc (length xs)) s;
          fewer_of_key = ap (λ xs. suc (length (chain k xs))) s ∙ sym (ap length (passes (λ x. same_key x.key k) w ws m));
        }
      where
        other_write_back : (x : Version) → In x ws → of_write k w.tx x ≡ false
        other_write_back x i = other_write k w x (apart_back w x (each_in (Precedes w) ws x o.0 i).1) (same_key-is w.key k m)

    by_hidden : (b : Bool) → same_key w.key k ≡ true → hides g w (chain k ws) ≡ b → (if b then Some w else first_hidden g (chain k ws)) ≡ Some v
        → (first_hidden g (chain k ws) ≡ Some v → IsDropped g k v.tx ws) → IsDropped g k v.tx (w ∷ ws)
    by_hidden true m d r rec =
        let key = same_key-is w.key k m in
        let q : w ≡ v = cc in
        subst (λ (x : Version). IsDropped g k x.tx (w ∷ ws)) q (gone m (sym (hides_in_key g k w ws key) ∙ d))
    by_hidden false m d r rec =
        let key = same_key-is w.key k m in
        let i = in_filter (λ x. same_key x.key k) ws v (hidden_in g (chain k ws) v r) in
        kept (other_write k v w (each_in (Precedes w) ws v o.0 i.0).1 (same_key-is v.key k i.1))
        (ap (λ b. b && hides g w ws) m ∙ sym (hides_in_key g k w ws key) ∙ d) (rec r)

    by_key : (b : Bool) → same_key w.key k ≡ b → first_hidden g (if b then w ∷ chain k ws else chain k ws) ≡ Some v
        → (first_hidden g (chain k ws) ≡ Some v → IsDropped g k v.tx ws) → IsDropped g k v.tx (w ∷ ws)
    by_key true m r rec = by_hidden (hides g w (chain k ws)) m refl r rec
    by_key false m r rec = kept (ap (λ b. b && same_tx w.tx v.tx) m) (ap (λ b. b && hides g w ws) m) (rec r)

-- where none of the key is hidden, there is nothing to prune
pub none_dropped : (g : ℕ) (k : KeyId) (vs : List Version) → first_hidden g (chain k vs) ≡ None → pruned_key k g vs ≡ vs
none_dropped g k [] e = refl
none_dropped g k (w ∷ ws) e = by_key (same_key w.key k) refl e (λ r. none_dropped g k ws r)
  where
    by_hidden : (b : Bool) → same_key w.key k ≡ true → hides g w (chain k ws) ≡ b → (if b then Some w else first_hidden g (chain k ws)) ≡ None
        → (first_hidden g (chain k ws) ≡ None → pruned_key k g ws ≡ ws) → pruned_key k g (w ∷ ws) ≡ w ∷ ws
    by_hidden true m d r rec = absurd (cc)
    by_hidden false m d r rec =
        keeps (λ m. same_key m k) g w ws (ap (λ b. b && hides g w ws) m ∙ sym (hides_in_key g k w ws (same_key-is w.key k m)) ∙ d) ∙ ap (λ xs. w ∷ xs) (rec r)

    by_key : (b : Bool) → same_key w.key k ≡ b → first_hidden g (if b then w ∷ chain k ws else chain k ws) ≡ None
        → (first_hidden g (chain k ws) ≡ None → pruned_key k g ws ≡ ws) → pruned_key k g (w ∷ ws) ≡ w ∷ ws
    by_key true m r rec = by_hidden (hides g w (chain k ws)) m refl r rec
    by_key false m r rec = keeps (λ m. same_key m k) g w ws (ap (λ b. b && hides g w ws) m) ∙ ap (λ xs. w ∷ xs) (rec r)
