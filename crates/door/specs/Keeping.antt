-- What lies under the lock of a door.
use Rattle.answer_board.specs.Entries.{answers_of, dones_of}
use Rattle.answer_board.specs.Places.{places_of}
use Rattle.answer_board.specs.declared.entries.Entry.{Entry}
use Rattle.cluster_run.specs.Clusters.{IsRun}
use Rattle.cluster_run.specs.Printing.{counted}
use Rattle.door.specs.Following.{run_entries, extent_of}
use Rattle.door.specs.declared.closing.Closing.{Closing}
use Rattle.door.specs.declared.extents.Extent.{Extent}
use Rattle.door.specs.declared.faults.DoorFault.{DoorFault}
use Rattle.door.specs.declared.faults.DoorFault.TheVariants.{Memory}
use Rattle.logbook.specs.Pages.{Book}
use Rattle.std.specs.Prelude.{List, false, true, ℕ, ◌++◌, ◌≡◌, ◌⊎◌}
use Rattle.str_model.specs.Lines.{counts}
use Rattle.str_model.specs.Runs.{World}
use Rattle.str_scene.specs.SceneLimits.{IsScene}
use Rattle.str_scene.specs.Scenes.{Scene}
use mathlib.Core.List.{IsPrefix}

-- what lies under the lock: the board's name, the scene, all that has happened, the list that is shown, and the entries that are held
pub record KeptView : Type 0 where
  pub board : Book
  pub scene : Scene
  pub world : World
  pub shown : List Entry
  pub held : List Entry

-- a board with the places of a scene, whose list begins the entries of a run and has come so far
pub record BoardFollows (scene : Scene) (world : World) (places : List ℕ) (listed : List Entry) (extent : Extent) : Type 0 where
  pub limits : IsScene scene
  pub run_ : IsRun scene world
  pub places_ : places ≡ places_of scene
  pub begins : IsPrefix listed (run_entries world)
  pub extent_ : extent ≡ extent_of listed

-- what has happened is the run of its journal, and what is shown and held begins its entries
pub record KeepsRun (v : KeptView) : Type 0 where
  pub run_ : IsRun v.scene v.world
  pub begins : IsPrefix (v.shown ++ v.held) (run_entries v.world)

-- where the fault says that it was done the one holds, else the other
abbrev pub FaultLeaves : DoorFault → Type 0 → Type 0 → Type 0
FaultLeaves (Memory true) done undone = done
FaultLeaves (Memory false) done undone = undone

-- what is shown is as it was, or is all
abbrev pub ShownOrNot : KeptView → KeptView → Type 0
ShownOrNot old new = (new.shown ≡ old.shown) ⊎ (new.shown ≡ run_entries new.world)

-- the closing of what is kept: its journal, answers and numbers, and a note of its board and list
pub record IsClosed (v : KeptView) (c : Closing) : Type 0 where
  pub journal : c.journal.items ≡ v.world.journal
  pub answers : c.answers.items ≡ v.world.answers
  pub counts_ : counted c.counts ≡ counts v.scene v.world
  pub board : c.shown.board ≡ v.board
  pub list : c.shown.list ≡ v.shown
