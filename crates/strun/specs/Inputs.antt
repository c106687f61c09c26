-- What a task works on and where it has it from, and what is refused.
use Rattle.bank_book.specs.Books.{IsReason}
use Rattle.bank_book.specs.declared.books.BookFault.TheVariants.{Not}
use Rattle.history_audit.specs.Verdicts.{IsVerdict}
use Rattle.run_io.specs.Inputs.{HasHistory, HasRead, HasRefused, IsSpelled, TellsNoSpelling, TellsSpelling}
use Rattle.run_io.specs.declared.inputs.Form.{Form}
use Rattle.run_io.specs.declared.inputs.Form.TheVariants.{Frames, History, Text}
use Rattle.scene_gen.specs.Made.{made}
use Rattle.std.specs.Prelude.{Bool, List, Option, Some, codes, decimal, false, true, ℕ, ⊤, ◌++◌, ◌≡◌, ◌⊎◌}
use Rattle.str_outer.specs.Causes.{Rose}
use Rattle.str_scene.specs.Scenes.{Scene}
use Rattle.str_scene.specs.declared.names.TxPlace.{TxPlace}
use Rattle.strun.specs.Audits.{Audited}
use Rattle.strun.specs.Banks.{IsBankScene}
use Rattle.strun_words.specs.declared.task.Task.{Task}
use Rattle.strun_words.specs.declared.task.Task.TheVariants.{At, Audit, Bank, Generate, Pack, Run, RunPruned, Show}

-- where a task has from what it works on: it reads a scene in a form, the text of a bank's scene, or a history, or it makes a scene of a seed
pub data Origin : Type 0 where
  reads : Form → Origin
  reads_bank : Origin
  reads_history : Origin
  makes : ℕ → Origin

-- the form in which `run` reads a scene, with or without `--frames`
abbrev pub form_of : Bool → Form
form_of false = Text
form_of true = Frames

-- where each task has it from
abbrev pub origin_of : Task → Origin
origin_of (Run frames journal) = reads (form_of frames)
origin_of RunPruned = reads Text
origin_of Pack = reads Text
origin_of Show = reads Frames
origin_of (Generate seed run) = makes seed
origin_of Bank = reads_bank
origin_of Audit = reads_history
origin_of (At time) = reads_history

-- what a task works on: a scene, or a history with what the audit finds of it
abbrev pub Subject : Origin → Type 0
Subject (reads form) = Scene
Subject reads_bank = Scene
Subject reads_history = Audited
Subject (makes seed) = Scene

-- this is what a task works on: the scene was read, and is a bank's where that is asked for; the history was read, and this is found of it;
-- or nothing was read and the scene is the one that is made of the seed
abbrev pub HasSubject : (origin : Origin) → Option (List ℕ) → Option (List ℕ) → Subject origin → Type 0
HasSubject (reads form) left left' scene = HasRead form left left' scene
HasSubject reads_bank left left' scene = HasRead Text left left' scene × IsBankScene scene
HasSubject reads_history left left' a = HasHistory left left' a.scene a.answers × IsVerdict a.scene a.answers a.verdict
HasSubject (makes seed) left left' scene = (left' ≡ left) × (scene ≡ made seed)

-- nothing is to be read
abbrev pub ReadsNothing : Origin → Type 0
ReadsNothing (reads form) = ⊥
ReadsNothing reads_bank = ⊥
ReadsNothing reads_history = ⊥
ReadsNothing (makes seed) = ⊤

-- a read failed: the source's count rose
abbrev pub ReadFailed : Origin → ℕ → ℕ → Type 0
ReadFailed (reads form) read read' = Rose read read'
ReadFailed reads_bank read read' = Rose read read'
ReadFailed reads_history read read' = Rose read read'
ReadFailed (makes seed) read read' = ⊥

-- the source tells the spelling of a scene, of a bank's scene or of a history, or nothing is to be read
abbrev pub Offers : Origin → Option (List ℕ) → Type 0
Offers (reads form) left = TellsSpelling form left
Offers reads_bank left = (bytes : List ℕ) × (scene : Scene) × (left ≡ Some bytes) × IsSpelled Text bytes scene × IsBankScene scene
Offers reads_history left = TellsSpelling History left
Offers (makes seed) left = ⊤

-- the source tells bytes that spell no scene, no bank's scene or no history
abbrev pub OffersNone : Origin → Option (List ℕ) → Type 0
OffersNone (reads form) left = TellsNoSpelling form left
OffersNone reads_bank left = (bytes : List ℕ) × (left ≡ Some bytes) × ((scene : Scene) → IsSpelled Text bytes scene → ¬ IsBankScene scene)
OffersNone reads_history left = TellsNoSpelling History left
OffersNone (makes seed) left = ⊥

-- what is said of a scene that is no bank's: the place of the first transaction that fits no form
abbrev pub not_bank_said : TxPlace → List ℕ
not_bank_said place = codes "transaction " ++ decimal place.session.0 ++ codes "/" ++ decimal place.index ++ codes ": not a bank"

-- a scene was read that is no bank's, as its transaction at a place says, and this is said of it
pub record HasNoBank (left left' : Option (List ℕ)) (said : List ℕ) : Type 0 where
  pub scene : Scene
  pub has : HasRead Text left left' scene
  pub place : TxPlace
  pub reason : IsReason scene (Not place)
  pub is_said : said ≡ not_bank_said place

-- what is to be read was refused with these words: its bytes are, or the scene that they spell is no bank's
abbrev pub IsRefused : Origin → Option (List ℕ) → Option (List ℕ) → List ℕ → Type 0
IsRefused (reads form) left left' said = HasRefused form left left' said
IsRefused reads_bank left left' said = HasRefused Text left left' said ⊎ HasNoBank left left' said
IsRefused reads_history left left' said = HasRefused History left left' said
IsRefused (makes seed) left left' said = ⊥
