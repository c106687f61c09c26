-- The pass over the own transactions by rising number.
use Rattle.std.specs.Prelude.{Bool, List, [], false, if◌then◌else◌, length, suc, true, zero, ℕ, ◌∷◌}
use Rattle.str_base.specs.declared.names.Cause.TheVariants.{Late as IsLate, Lost as IsLost, Wish}
use Rattle.str_base.specs.declared.names.KeyId.{KeyId}
use Rattle.str_model.specs.Acts.{aborted, asked, closed, committed}
use Rattle.str_model.specs.Gates.{Ask, CommitAt, GateTurn, Missing, Shut, gate_of}
use Rattle.str_scene.specs.Scenes.{Here}
use Rattle.str_model.specs.Scripts.{at_own, certify_now, read_now, with_value}
use Rattle.str_model.specs.Turns.{DepTurn, Keep, Late, Lost, Plain, ReadTurn, dep_turn, left_by, reply_turn}
use Rattle.str_base.specs.Versions.{stamp}
use Rattle.str_model.specs.Views.{CertWait, Closing, Doing, Global, Local, Own, Phase, ReadWait, Reply, put}

-- it aborts where a dependency decided
abbrev pub resolved : Here → ℕ → Own → DepTurn → Doing → Doing
resolved here i y (Lost q f es) d = aborted here i (IsLost (record { node = here.node; seq = q })) y d
resolved here i y (Late q fc f es) d = aborted here i (IsLate (record { node = here.node; seq = q }) (stamp fc)) y d
resolved here i y (Keep f es) d = d

-- the dependencies are looked at: the snapshot that is left is put, and then it aborts where a dependency decided
abbrev pub resolve_own : Here → ℕ → Own → Doing → Doing
resolve_own here i x d =
    let t = dep_turn d.view.own x.snap in
    let y = record x { snap = left_by t x.snap } in
    resolved here i y t (put i y d)

-- a reply is taken, where the gate lets it through
abbrev pub again_reply : Here → ℕ → KeyId → Own → ReadTurn → Doing → Doing
again_reply here i k x (Plain v by fc snap) d = with_value here i k v by snap x d
again_reply here i k x _ d = d

-- what waits at this node is tried again
abbrev pub again_own : Here → ℕ → Phase → Own → Doing → Doing
again_own here i (ReadWait k) x d = read_now here i k x d
again_own here i (Reply k v by fc) x d = again_reply here i k x (reply_turn here x.snap v by fc) d
again_own here i CertWait x d = certify_now here i x d
again_own here i _ x d = d

-- the list has no member
abbrev pub is_empty : {X : Type 0} → List X → Bool
is_empty [] = true
is_empty (x ∷ xs) = false

-- no operation is left to certify: a wish aborts, and all else commits
abbrev pub close_free : Here → ℕ → Bool → Own → Doing → Doing
close_free here i true x d = aborted here i Wish x d
close_free here i false x d = closed here i x d

-- what the gate says is done
abbrev pub gate_done : Here → ℕ → (Doing → Doing) → ℕ → Own → GateTurn → Doing → Doing
gate_done here i again lc x (Ask p) d = again (asked here i lc p x d)
gate_done here i again lc x (Shut q) d = d
gate_done here i again lc x (Missing p n) d = d
gate_done here i again lc x (CommitAt fc) d = committed here i lc fc x d

-- the gate of a certified transaction
abbrev pub gate_phase : Here → ℕ → (Doing → Doing) → Phase → Own → Doing → Doing
gate_phase here i again (Local lc) x d = gate_done here i again lc x (gate_of here d.view lc x) d
gate_phase here i again (Global lc) x d = gate_done here i again lc x (gate_of here d.view lc x) d
gate_phase here i again _ x d = d

-- The gate is looked at, and again after each partition that was asked, at most n times.
abbrev pub gates : Here → ℕ → ℕ → Doing → Doing
gates here i zero d = d
gates here i (suc n) d = at_own i (λ x. gate_phase here i (gates here i n) x.phase x) d

-- The gate is looked at until it asks no partition. A transaction asks each partition once at most, so one look for each partition of the
-- scene and one for the commit are enough: at the end the transaction is decided or its gate waits, and more looks change nothing.
abbrev pub gates_in : Here → ℕ → Doing → Doing
gates_in here i d = gates here i (suc (length here.scene.parts)) d

-- the closing of a turn, by the phase
abbrev pub close_phase : Here → ℕ → Phase → Own → Doing → Doing
close_phase here i (Closing wish) x d = if is_empty x.snap.deps then close_free here i wish x d else d
close_phase here i _ x d = gates_in here i d

-- the closing of a turn
abbrev pub close_own : Here → ℕ → Own → Doing → Doing
close_own here i x d = close_phase here i x.phase x d

-- a turn up to its closing: its dependencies are looked at, then what waits is tried again
unfoldable pub half_turn : Here → ℕ → Doing → Doing
half_turn here i d = at_own i (λ x. again_own here i x.phase x) (at_own i (resolve_own here i) d)

-- the turn of the i-th own transaction
unfoldable pub turn : Here → ℕ → Doing → Doing
turn here i d = at_own i (close_own here i) (half_turn here i d)

-- the turns of the own transactions below n, upwards
abbrev pub pass_to : Here → ℕ → Doing → Doing
pass_to here zero d = d
pass_to here (suc i) d = turn here i (pass_to here i d)
