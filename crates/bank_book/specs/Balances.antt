-- What the accounts hold after commits.
use Rattle.std.specs.List.{last_or}
use Rattle.std.specs.Prelude.{List, None, filter, map}
use Rattle.str_base.specs.declared.names.KeyId.{KeyId}
use Rattle.str_base.specs.declared.names.Value.{Value}
use Rattle.str_model.specs.declared.messages.Answer.{Answer}
use Rattle.str_model.specs.declared.names.Got.{Got}
use Rattle.str_model.specs.Owned.{wrote_key}
use Rattle.str_scene.specs.Scenes.{Scene}
use Rattle.si_laws.specs.Commits.{Member, members, written_value}

-- the value of a key after these members of a commit list: what the last of them that wrote it gave it
abbrev pub value_after : List Member → KeyId → Value
value_after past k = written_value (last_or None (filter (λ m. wrote_key k m.writes) past)) k

-- what the accounts hold after these members
abbrev pub holdings : List KeyId → List Member → List Value
holdings accounts past = map (value_after past) accounts

-- each account with its value in the commit list of the answers
abbrev pub balances_of : Scene → List Answer → List KeyId → List Got
balances_of scene all accounts = map (λ k. record { key = k; value = value_after (members scene all) k }) accounts
