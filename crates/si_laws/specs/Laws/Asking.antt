-- Pre versions are of transactions that asked.
use Rattle.str_model.specs.Owned.{Asks}
use Rattle.std.specs.Prelude.{List, Some, slice_get, ℕ, ◌≡◌}
use Rattle.str_base.specs.declared.names.Kind.TheVariants.{Pre}
use Rattle.str_base.specs.declared.names.PartId.{PartId}
use Rattle.str_base.specs.declared.names.TxId.{TxId}
use Rattle.str_base.specs.declared.names.Version.{Version}
use Rattle.str_model.specs.declared.messages.Message.{Message}
use Rattle.str_model.specs.Owned.{Always}
use Rattle.str_model.specs.Runs.{run}

-- the transaction's origin has asked the partition
abbrev pub HasAsked : List Message → TxId → PartId → Type 0
HasAsked sent tx p = (k : ℕ) × (m : Message) × (slice_get sent k ≡ Some m) × (m.sender ≡ tx.node) × Asks tx p m.body

-- each Pre version is of a transaction whose origin has asked the version's partition
abbrev pub PresAsked : Type 0
PresAsked =
    Always (λ scene events n v. (k : ℕ) (x : Version) → slice_get v.versions k ≡ Some x → x.kind ≡ Pre → HasAsked (run scene events).sent x.tx x.part)
