-- The one version of a key by a transaction: where it is looked for, and what is left without it.
use Rattle.std.proofs.Common.{Bool, List, None, Option, Some, ap, arith, eqb-true, false, if◌then◌else◌, inl, not, refl, subst, sym, true, ℕ, ◌==◌, ◌∙◌, ◌≡◌}
use Rattle.std.proofs.lemmas.Bool.{and_from, and_parts}
use Rattle.std.proofs.lemmas.Bool.Decides.{nat_tests}
use Rattle.std.specs.List.{list_any}
use Rattle.str_base.specs.declared.names.KeyId.{KeyId}
use Rattle.str_base.specs.declared.names.TxId.{TxId}
use Rattle.str_base.specs.declared.names.Version.{Version}
use Rattle.str_base.specs.Versions.{same_key, same_tx, without}
use Rattle.str_base.proofs.Members.{In, any_in}
use Rattle.link_arena.specs.Arenas.{AreLists, ArenaView, at, key_list}
use Rattle.link_arena.specs.HeadLists.{key_names}
use Rattle.link_arena.specs.OneSide.{is_named}
use Rattle.link_arena.specs.Rows.{first_or, is_in, taken}
use Rattle.link_arena.proofs.ArenaLemmas.{has_key}
use Rattle.link_arena.proofs.RowLemmas.{in_taken}
use Rattle.version_chain.specs.ChainLists.{Apart, of_write}
use Rattle.version_chain.specs.Flat.{IsChains, flat, from_slot, picked}
use Rattle.version_chain.proofs.Changed.{apart_taken, gone, stays, without_same}
use Rattle.version_chain.proofs.Flats.{flat_found, picked_has}
use Rattle.version_chain.proofs.Pending.{IsPending, from_first}
use Rattle.version_chain.proofs.Telling.{each_in, without_none}

-- at first all slots of the key are pending
pub pending_write : (Done : Version → Type 0) (a : ArenaView) (k : KeyId) (t : TxId) (o : Option ℕ) → AreLists a → o ≡ first_or None (key_list a k) → IsPending (at a) (of_write k t) Done (from_slot o (key_list a k))
pending_write Done a k t o l e = record {
  each = λ u v q h.
      let own : key_names k v ≡ true = (and_parts (same_key v.key k) (same_tx v.tx t) h).0 in
      let listed : is_in u (key_list a k) ≡ true = l.in_key k u ∙ ap (λ x. is_named key_names k x) q ∙ own in
      inl (subst (λ (ws : List ℕ). is_in u ws ≡ true) (sym (ap (λ x. from_slot x (key_list a k)) e ∙ from_first (key_list a k))) listed);
}

-- two versions of a key by a transaction aren't apart
not_apart : (k : KeyId) (t : TxId) (v w : Version) → of_write k t v ≡ true → of_write k t w ≡ true → Apart v w → ⊥
not_apart k t v w p q a =
    let pk = and_parts (same_key v.key k) (same_tx v.tx t) p in
    let qk = and_parts (same_key w.key k) (same_tx w.tx t) q in
    let pt = and_parts (v.tx.node.0 == t.node.0) (v.tx.seq == t.seq) pk.1 in
    let qt = and_parts (w.tx.node.0 == t.node.0) (w.tx.seq == t.seq) qk.1 in
    a
    (eqb-true v.key.0 k.0 pk.0 ∙ sym (eqb-true w.key.0 k.0 qk.0))
    (eqb-true v.tx.node.0 t.node.0 pt.0 ∙ sym (eqb-true w.tx.node.0 t.node.0 qt.0))
    (eqb-true v.tx.seq t.seq pt.1 ∙ sym (eqb-true w.tx.seq t.seq qt.1))

-- two slots of one write are one slot
one_slot : (a : ArenaView) → IsChains a → (k : KeyId) (t : TxId) (s u : ℕ) (w v : Version) → at a s ≡ Some w → at a u ≡ Some v → of_write k t w ≡ true → of_write k t v ≡ true → (u == s) ≡ false → ⊥
one_slot a c k t s u w v e d p q n =
    let ss = key_list a w.key in
    let one : (s : ℕ) (x : Version) → at a s ≡ Some x → key_names w.key x ≡ true → is_in s ss ≡ true = λ s x h m. c.lists.in_key w.key s ∙ ap (λ o. is_named key_names w.key o) h ∙ m in
    let i = one s w e (has_key w) in
    let pk = eqb-true w.key.0 k.0 (and_parts (same_key w.key k) (same_tx w.tx t) p).0 in
    let qk = eqb-true v.key.0 k.0 (and_parts (same_key v.key k) (same_tx v.tx t) q).0 in
    let same : key_names w.key v ≡ true = grind (arith, nat_tests) in
    let j : is_in u (taken s ss) ≡ true = in_taken u s ss (c.lists.once_in_key w.key) ∙ and_from (is_in u ss) (not (u == s)) (one u v d same) (ap not n) in
    not_apart k t w v p q (each_in (Apart w) (picked (at a) (taken s ss)) v (apart_taken (at a) w s ss (c.order w.key) i e) (picked_has (at a) (taken s ss) u v j d))

-- where none is found, nothing is to be taken out
pub without_found : (test : Version → Bool) (vs : List Version) → list_any test vs ≡ false → vs ≡ without test vs
without_found test vs h = sym (without_none test vs (λ v i. by_test v i (test v) refl))
  where
    by_test : (v : Version) → In v vs → (b : Bool) → test v ≡ b → b ≡ false
    by_test v i false q = refl
    by_test v i true q = let r = any_in test vs v i q in absurd (cc)

-- where its slot is taken out, all others are left
pub write_dropped : (a b : ArenaView) (k : KeyId) (t : TxId) (s : ℕ) (w : Version) → IsChains a → AreLists b → at a s ≡ Some w → of_write k t w ≡ true → ((u : ℕ) → at b u ≡ (if u == s then None else at a u))
    → ((m : KeyId) → key_list b m ≡ (if key_names m w then taken s (key_list a m) else key_list a m)) → flat b ≡ without (of_write k t) (flat a)
write_dropped a b k t s w c l e h ats rows =
    sym (without_none (of_write k t) (flat b) (λ v i. let r = flat_found b v i in by_test v r.0 r.1 (of_write k t v) refl (r.0 == s) refl))
    ∙ without_same a b s w c l e ats rows (of_write k t) h
  where
    by_test : (v : Version) (u : ℕ) → at b u ≡ Some v → (x : Bool) → of_write k t v ≡ x → (y : Bool) → (u == s) ≡ y → x ≡ false
    by_test v u d false q y n = refl
    by_test v u d true q true n = let r : u ≡ s = grind (arith, nat_tests) in let z = sym d ∙ ap (at b) r ∙ gone a b s w c l e ats rows in absurd (cc)
    by_test v u d true q false n = absurd (one_slot a c k t s u w v e (sym (stays a b s w c l e ats rows u n) ∙ d) h q n)
