-- A ledger with the writes of one more commit.
use Rattle.std.proofs.Common.{Bool, List, Some, [], ap, append_assoc, cond, eq-eqb, false, find, inl, inr, length, map, not, refl, slice_set, subst, sym, true, ◌++◌, ◌<◌, ◌∙◌, ◌∷◌, ◌≡◌}
use Rattle.std.proofs.lemmas.Bool.{and_parts, not-true, or_parts}
use Rattle.std.proofs.lemmas.Grind.{flat_map-append}
use Rattle.std.proofs.lemmas.List.{append-nil, length-set}
use Rattle.std.specs.List.{flat_map, list_any}
use Rattle.history_audit.specs.Ledgers.{IsLedger, chain_at, chain_of, entry, entry_of, with_entries, with_entry}
use Rattle.history_audit.specs.declared.ledgers.Stamped.{Stamped}
use Rattle.partition_map.specs.Maps.{or_none}
use Rattle.si_laws.specs.Commits.{Member}
use Rattle.str_base.proofs.Lists.{get_set, get_set_other, slice_get_there}
use Rattle.str_base.proofs.SameNames.{is-same_key, same_key-is}
use Rattle.str_base.specs.Members.{In}
use Rattle.str_base.specs.Versions.{same_key, stamp}
use Rattle.str_base.specs.declared.names.KeyId.{KeyId}
use Rattle.str_base.specs.declared.names.Ts.{Ts}
use Rattle.str_base.specs.declared.names.Write.{Write}
use Rattle.str_model.specs.NodeFacts.{AreDistinct}
use Rattle.str_model.specs.Strange.{distinct_keys}

-- the value of a write of the key
abbrev entry_if : Ts → KeyId → Write → List Stamped
entry_if fc k w = cond (same_key w.key k) (record { fc = fc; value = w.value } ∷ []) []

-- the values that writes give a key
abbrev entries_if : Ts → KeyId → List Write → List Stamped
entries_if fc k ws = flat_map (entry_if fc k) ws

at_entry : (fc : Ts) (w : Write) (chains : List (List Stamped)) (k : KeyId) → w.key.0 < length chains
    → chain_at (with_entry fc w chains) k ≡ chain_at chains k ++ entry_if fc k w
at_entry fc w chains k h = by_test (same_key w.key k) refl
  where
    by_test : (b : Bool) → same_key w.key k ≡ b → chain_at (slice_set chains w.key.0 (chain_at chains w.key ++ record { fc = fc; value = w.value } ∷ [])) k ≡ chain_at chains k ++ cond b (record { fc = fc; value = w.value } ∷ []) []
    by_test true e =
        let s : w.key ≡ k = same_key-is w.key k e in
        let t = slice_get_there chains w.key.0 h in
        subst (λ (l : KeyId). chain_at (slice_set chains w.key.0 (chain_at chains w.key ++ record { fc = fc; value = w.value } ∷ [])) l ≡ chain_at chains l ++ record { fc = fc; value = w.value } ∷ []) s
        (ap or_none (get_set chains w.key.0 t.0 (chain_at chains w.key ++ record { fc = fc; value = w.value } ∷ []) t.1))
    by_test false e =
        ap or_none (get_set_other chains w.key.0 k.0 (chain_at chains w.key ++ record { fc = fc; value = w.value } ∷ []) (λ q. (let f : same_key w.key k ≡ true = eq-eqb w.key.0 k.0 (sym q) in absurd (cc (e, f)))))
        ∙ sym (append-nil (chain_at chains k))

pub with_entries_length : (fc : Ts) (ws : List Write) (chains : List (List Stamped)) → length (with_entries fc ws chains) ≡ length chains
with_entries_length fc [] chains = refl
with_entries_length fc (w ∷ ws) chains = with_entries_length fc ws (with_entry fc w chains) ∙ length-set chains w.key.0 _

at_entries : (fc : Ts) (ws : List Write) (chains : List (List Stamped)) (k : KeyId) → ((w : Write) → In w ws → w.key.0 < length chains)
    → chain_at (with_entries fc ws chains) k ≡ chain_at chains k ++ entries_if fc k ws
at_entries fc [] chains k h = sym (append-nil (chain_at chains k))
at_entries fc (w ∷ ws) chains k h =
    at_entries fc ws (with_entry fc w chains) k (λ z i. subst (λ n. z.key.0 < n) (sym (length-set chains w.key.0 _)) (h z (inr i)))
    ∙ (ap (λ xs. xs ++ flat_map (entry_if fc k) ws) (at_entry fc w chains k (h w (inl refl)))
    ∙ append_assoc (chain_at chains k) (entry_if fc k w) (flat_map (entry_if fc k) ws))

-- keys of which none is k
none_if : (fc : Ts) (k : KeyId) (ws : List Write) → list_any (same_key k) (map (λ (z : Write). z.key) ws) ≡ false → entries_if fc k ws ≡ []
none_if fc k [] e = refl
none_if fc k (w ∷ ws) e =
    let p = or_parts (same_key k w.key) (list_any (same_key k) (map (λ (z : Write). z.key) ws)) e in
    by_test (same_key w.key k) refl p.0 (none_if fc k ws p.1)
  where
    by_test : (b : Bool) → same_key w.key k ≡ b → same_key k w.key ≡ false → entries_if fc k ws ≡ [] → (entry_if fc k w ++ flat_map (entry_if fc k) ws) ≡ []
    by_test true q f rec = let g : same_key k w.key ≡ true = is-same_key k w.key (sym (same_key-is w.key k q)) in absurd (cc (g, f))
    by_test false q f rec = rw q rec

-- keys that stand once
once_if : (fc : Ts) (k : KeyId) (ws : List Write) → AreDistinct ws → entries_if fc k ws ≡ entry fc (find (λ (w : Write). same_key w.key k) ws)
once_if fc k [] d = refl
once_if fc k (w ∷ ws) d =
    let p = and_parts (not (list_any (same_key w.key) (map (λ (z : Write). z.key) ws))) (distinct_keys (map (λ (z : Write). z.key) ws)) d in
    by_test (same_key w.key k) refl (not-true (list_any (same_key w.key) (map (λ (z : Write). z.key) ws)) p.0) (once_if fc k ws p.1)
  where
    by_test : (b : Bool) → same_key w.key k ≡ b → list_any (same_key w.key) (map (λ (z : Write). z.key) ws) ≡ false
        → entries_if fc k ws ≡ entry fc (find (λ (w : Write). same_key w.key k) ws)
        → (entry_if fc k w ++ flat_map (entry_if fc k) ws) ≡ entry fc (cond (same_key w.key k) (Some w) (find (λ (w : Write). same_key w.key k) ws))
    by_test true q n rec =
        let s : w.key ≡ k = same_key-is w.key k q in
        rw q (ap (λ xs. record { fc = fc; value = w.value } ∷ xs) (none_if fc k ws (subst (λ (l : KeyId). list_any (same_key l) (map (λ (z : Write). z.key) ws) ≡ false) s n)))
    by_test false q n rec = rw q rec

-- a ledger of members with the writes of one more is that of the members and it
pub ledger_more : (fc : Ts) (chains : List (List Stamped)) (ms : List Member) (m : Member) → m.fc ≡ fc.0 → IsLedger chains ms → AreDistinct m.writes
    → ((w : Write) → In w m.writes → w.key.0 < length chains) → IsLedger (with_entries fc m.writes chains) (ms ++ m ∷ [])
ledger_more fc chains ms m t h d within = λ k.
    at_entries fc m.writes chains k within
    ∙ (ap (λ xs. chain_at chains k ++ xs) (once_if fc k m.writes d ∙ ap (λ (z : Ts). entry z (find (λ (w : Write). same_key w.key k) m.writes)) (same_time t))
    ∙ (ap (λ xs. xs ++ entry_of k m) (h k)
    ∙ sym (flat_map-append (entry_of k) ms (m ∷ []) ∙ ap (λ xs. chain_of k ms ++ xs) (append-nil (entry_of k m)))))
  where
    same_time : m.fc ≡ fc.0 → fc ≡ stamp m.fc
    same_time e = λ i. record { 0 = sym e i }
