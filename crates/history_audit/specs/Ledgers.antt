-- The values of each key in the order of the commits that gave them.
use Rattle.std.specs.List.{last_or}
use Rattle.std.specs.Prelude.{List, None, Option, Some, [], filter, find, flat_map, map, nat_le, slice_get, slice_set, ℕ, ◌++◌, ◌∷◌, ◌≡◌}
use Rattle.history_audit.specs.Orders.{Rising}
use Rattle.history_audit.specs.declared.ledgers.Stamped.{Stamped}
use Rattle.partition_map.specs.Maps.{or_none}
use Rattle.si_laws.specs.Commits.{Member}
use Rattle.str_base.specs.declared.names.KeyId.{KeyId}
use Rattle.str_base.specs.declared.names.Ts.{Ts}
use Rattle.str_base.specs.declared.names.Value.{Value}
use Rattle.str_base.specs.declared.names.Value.TheVariants.{Absent}
use Rattle.str_base.specs.declared.names.Write.{Write}
use Rattle.str_base.specs.Versions.{same_key, stamp}

-- the values of a key
abbrev pub chain_at : List (List Stamped) → KeyId → List Stamped
chain_at chains k = or_none (slice_get chains k.0)

-- the value, absent where there is none
abbrev pub value_of : Option Stamped → Value
value_of None = Absent
value_of (Some s) = s.value

-- the last value at or below a timestamp
abbrev pub last_below : List Stamped → ℕ → Value
last_below chain r = value_of (last_or None (filter (λ s. nat_le s.fc.0 r) chain))

-- the value of a key at a timestamp
abbrev pub look_in : List (List Stamped) → ℕ → KeyId → Value
look_in chains r k = last_below (chain_at chains k) r

-- the timestamps of a key's values do not fall
abbrev pub IsRisingChain : List Stamped → Type 0
IsRisingChain chain = Rising (map (λ s. s.fc.0) chain)

-- the same of all keys
abbrev pub IsRisingLedger : List (List Stamped) → Type 0
IsRisingLedger chains = (k : KeyId) → IsRisingChain (chain_at chains k)

-- with one more write
abbrev pub with_entry : Ts → Write → List (List Stamped) → List (List Stamped)
with_entry fc w chains = slice_set chains w.key.0 (chain_at chains w.key ++ record { fc = fc; value = w.value } ∷ [])

-- with the writes of a commit
abbrev pub with_entries : Ts → List Write → List (List Stamped) → List (List Stamped)
with_entries fc [] chains = chains
with_entries fc (w ∷ ws) chains = with_entries fc ws (with_entry fc w chains)

-- a write with its final timestamp
abbrev pub entry : Ts → Option Write → List Stamped
entry fc None = []
entry fc (Some w) = record { fc = fc; value = w.value } ∷ []

-- what a member gave the key
abbrev pub entry_of : KeyId → Member → List Stamped
entry_of k m = entry (stamp m.fc) (find (λ w. same_key w.key k) m.writes)

-- the values that these members gave a key
abbrev pub chain_of : KeyId → List Member → List Stamped
chain_of k ms = flat_map (entry_of k) ms

-- the ledger is that of these members
abbrev pub IsLedger : List (List Stamped) → List Member → Type 0
IsLedger chains ms = (k : KeyId) → chain_at chains k ≡ chain_of k ms
