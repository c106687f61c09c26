-- The versions that a certification meets, in order, and what it makes of them.
use Rattle.std.specs.Prelude.{Err, List, Ok, Result, [], if◌then◌else◌, map, max, ℕ, ◌∷◌}
use Rattle.dependency_set.specs.declared.snaps.OwnSnap.{OwnSnap}
use Rattle.dependency_set.specs.Snapshots.{Snap}
use Rattle.snapshot_read.specs.Shown.{taken_over, told}
use Rattle.str_base.specs.declared.names.KeyId.{KeyId}
use Rattle.str_base.specs.declared.names.Kind.{Kind}
use Rattle.str_base.specs.declared.names.Kind.TheVariants.{Final, Local, Pre}
use Rattle.str_base.specs.declared.names.Version.{Version}
use Rattle.str_base.specs.declared.names.Write.{Write}
use Rattle.str_base.specs.Versions.{chain, mark_of, newest}
use Rattle.str_model.specs.Turns.{conflicts, greatest}

-- a Local version is taken over into the snapshot
abbrev pub join_one : List OwnSnap → Version → Kind → Snap → Snap
join_one own v Local snap = taken_over (told own v.tx.seq) v.tx.seq snap
join_one own v Pre snap = snap
join_one own v Final snap = snap

-- the first conflict of these versions, else the snapshot with what it takes over from them
abbrev pub judged : List OwnSnap → ℕ → List Version → Snap → Result Snap Version
judged own rs [] snap = Ok snap
judged own rs (v ∷ vs) snap = if conflicts rs v then Err v else judged own rs vs (join_one own v v.kind snap)

-- goes on with the snapshot where there is no conflict
abbrev pub after : Result Snap Version → (Snap → Result Snap Version) → Result Snap Version
after (Ok s) f = f s
after (Err v) f = Err v

-- the same of all versions of the written keys, in order of first write
abbrev pub judged_all : List OwnSnap → ℕ → (KeyId → List Version) → List Write → Snap → Result Snap Version
judged_all own rs versions [] snap = Ok snap
judged_all own rs versions (w ∷ ws) snap = after (judged own rs (chain w.key (versions w.key)) snap) (judged_all own rs versions ws)

-- what a new version of these keys has to pass
abbrev pub passed_by : List ℕ → (KeyId → List Version) → List Write → ℕ
passed_by marks versions ws = greatest (map (λ w. max (mark_of marks w.key) (newest (versions w.key) w.key)) ws)
