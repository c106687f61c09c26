-- When a scene is no bank's, and when it is.
use Rattle.std.proofs.Common.{Bool, List, ap, false, map, refl, subst, sym, true, ℤ, ◌∙◌, ◌≡◌}
use Rattle.bank_book.specs.declared.books.BookFault.TheVariants.{Not}
use Rattle.str_base.specs.declared.names.KeyId.{KeyId}
use Rattle.str_scene.specs.declared.names.Op.{Op}
use Rattle.str_scene.specs.declared.names.TxPlace.{TxPlace}
use Rattle.str_scene.specs.Scenes.{Scene, script_at}
use Rattle.bank_book.specs.BankScenes.{Fits, IsBank, account, amount, is_opening, opening_place}
use Rattle.bank_book.specs.Books.{AllFit, IsFirstUnfit, IsReason, no_opening, unfit}

pub without_opening : (scene : Scene) → is_opening (script_at scene opening_place) ≡ false → IsReason scene (Not opening_place)
without_opening scene e = (λ accounts amounts bank. absurd (cc (bank.opening, e)), no_opening e refl)

pub with_unfit : (scene : Scene) (place : TxPlace) (accounts : List KeyId) → is_opening (script_at scene opening_place) ≡ true → accounts ≡ map account (script_at scene opening_place)
    → IsFirstUnfit scene accounts place → IsReason scene (Not place)
with_unfit scene place accounts o e f = (
  λ others amounts bank. f.unfit (subst (λ ks. Fits ks f.script) (bank.opened ∙ sym e) (bank.others place f.script f.there f.after)),
  unfit o (subst (λ ks. IsFirstUnfit scene ks place) e f),
)

pub all_fit : (scene : Scene) (accounts : List KeyId) (amounts : List ℤ) → is_opening (script_at scene opening_place) ≡ true → accounts ≡ map account (script_at scene opening_place)
    → amounts ≡ map amount (script_at scene opening_place) → AllFit scene accounts → IsBank scene accounts amounts
all_fit scene accounts amounts o e f a = record { opening = o; opened = e; deposits = f; others = a }

-- by the lists that the code holds
pub is_bank : (scene : Scene) (ops : List Op) (accounts seen : List KeyId) (amounts : List ℤ) (told : Bool) → ops ≡ script_at scene opening_place → told ≡ is_opening ops → told ≡ true
    → accounts ≡ map account ops → seen ≡ accounts → amounts ≡ map amount ops → AllFit scene seen → IsBank scene accounts amounts
is_bank scene ops accounts seen amounts told p q t e s f a =
    all_fit scene accounts amounts (ap is_opening (sym p) ∙ (sym q ∙ t)) (e ∙ ap (map account) p) (f ∙ ap (map amount) p) (subst (λ ks. AllFit scene ks) s a)
