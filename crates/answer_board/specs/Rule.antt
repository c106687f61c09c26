-- The rule: what a seat knows of the history is a beginning of what is shown.
use Rattle.std.specs.Prelude.{◌≡◌, ℕ, List, [], ◌++◌, Option, Some, None}
use Rattle.answer_board.specs.declared.entries.Entry.{Entry}
use Rattle.str_model.specs.declared.messages.Answer.{Answer}
use Rattle.str_scene.specs.declared.names.TxPlace.{TxPlace}
use Rattle.answer_board.specs.History.{front_of, Rises}
use Rattle.answer_board.specs.Entries.{answer_at}
use Rattle.answer_board.specs.Changes.{marked, puts}
use Rattle.answer_board.specs.Places.{MayAllFollow}
use Rattle.answer_board.specs.Views.{FrontView}
use Rattle.answer_board.specs.declared.shelf.Change.{Change}
use mathlib.Core.List.{IsPrefix}
use mathlib.Core.Option.{some}
use lib.ListN.{get_elem?}
use Rattle.answer_board.specs.declared.shelf.Shelf.{Shelf}

-- what is known is of the history g, and a beginning of it
abbrev pub Fits : FrontView → Option FrontView → Type 0
Fits g None = Unit {0}
Fits g (Some f) = (f.book ≡ g.book) × IsPrefix f.log g.log

pub record Keeps (x : Shelf) (views : List (Option FrontView)) : Type 0 where
  pub shows : x.entries.items ≡ front_of x.front.log
  pub rises : Rises [] x.front.log
  pub each : (seat : ℕ) (v : Option FrontView) → get_elem? views seat ≡ some v → Fits x.front v

-- all that is shown is known, and it begins with what was known
pub record Enters (v : Option FrontView) (x y : Shelf) (w : Option FrontView) : Type 0 where
  pub knows : w ≡ Some y.front
  pub fits : Fits y.front v
  pub shows : y.entries.items ≡ front_of y.front.log
  pub rises : Rises [] y.front.log

-- what a reader has of one entry
pub record Entered (p : TxPlace) (v w : Option FrontView) (front : FrontView) (answer : Option Answer) : Type 0 where
  pub knows : w ≡ Some front
  pub fits : Fits front v
  pub rises : Rises [] front.log
  pub found : answer ≡ answer_at p (front_of front.log)

-- the history next has come to all that is shown and held
pub record Ready (shown : Shelf) (held : List Entry) (next : FrontView) : Type 0 where
  pub book : next.book ≡ shown.front.book
  pub past : IsPrefix shown.front.log next.log
  pub rises : Rises [] next.log
  pub list : front_of next.log ≡ shown.entries.items ++ held
  pub follow : MayAllFollow shown.entries.places shown.entries.items held

-- how a writer's history stands to what is shown and what is held
pub record Stands (shown : Shelf) (held : List Entry) (known : Option FrontView) (front : FrontView) : Type 0 where
  pub knows : known ≡ Some shown.front
  pub book : front.book ≡ shown.front.book
  pub past : IsPrefix shown.front.log front.log
  pub shows : shown.entries.items ≡ front_of shown.front.log
  pub next : IsPrefix (front_of front.log) (shown.entries.items ++ held)
  pub follow : MayAllFollow shown.entries.places shown.entries.items held

-- the history that the pending changes lead to shows all that they put
abbrev pub IsReady : Shelf → List Change → Type 0
IsReady shown pending = Ready shown (puts pending) (marked shown.front pending)

-- all that was pending is shown
pub record ShowsAll (shown : Shelf) (pending : List Change) (after : Shelf) : Type 0 where
  pub places : after.entries.places ≡ shown.entries.places
  pub list : after.entries.items ≡ shown.entries.items ++ puts pending
  pub front : after.front ≡ marked shown.front pending
