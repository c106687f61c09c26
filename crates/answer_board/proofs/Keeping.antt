-- Each step keeps the rule.
use Rattle.std.proofs.Common.{◌≡◌, ℕ, ◌≢◌, List, [], Option, Some, None, set, refl, subst, sym, ◌∙◌, ⊎_elim}
use mathlib.Core.List.{IsPrefix}
use mathlib.Core.Option.{some}
use lib.ListN.{get_elem?}
use Rattle.crossbeam_utils.specs.Register.{Admits, TurnsAt, Forks, Merges}
use Rattle.atomic_table.proofs.Lists.{at_set, at_snoc}
use Rattle.answer_board.specs.declared.shelf.Shelf.{Shelf}
use Rattle.answer_board.specs.History.{front_of, Rises}
use Rattle.answer_board.specs.Views.{FrontView}
use Rattle.answer_board.specs.Rule.{Fits, Keeps, Enters, Entered}
use Rattle.answer_board.proofs.Rising.{prefix_self, prefix_trans, front_grows}
use Rattle.str_model.specs.declared.messages.Answer.{Answer}
use Rattle.str_scene.specs.declared.names.TxPlace.{TxPlace}

pub admits : Admits Keeps None
admits x views h = record {
  shows = h.shows;
  rises = h.rises;
  each = λ seat v at. ⊎_elim (h.each seat v) (λ (e : None ≡ v). subst (λ (w : Option FrontView). Fits x.front w) e tt) (at_snoc views None v seat at);
}

set_fits : (x : Shelf) (views : List (Option FrontView)) (seat : ℕ) (v : Option FrontView) → Keeps x views → Fits x.front v → Keeps x (set views seat v)
set_fits x views seat v h fits = record {
  shows = h.shows;
  rises = h.rises;
  each = λ j u e. ⊎_elim (λ (t : (j ≡ seat) × (v ≡ u)). subst (λ (w : Option FrontView). Fits x.front w) t.1 fits) (λ (t : (j ≢ seat) × (get_elem? views j ≡ some u)). h.each j u t.1) (at_set views seat j v u e);
}

pub fits_grow : (f g : FrontView) (v : Option FrontView) → g.book ≡ f.book → IsPrefix f.log g.log → Fits f v → Fits g v
fits_grow f g None book up h = tt
fits_grow f g (Some u) book up h = (h.0 ∙ sym book, prefix_trans u.log f.log g.log h.1 up)

grown : (x y : Shelf) (views : List (Option FrontView)) → y.front.book ≡ x.front.book → IsPrefix x.front.log y.front.log → y.entries.items ≡ front_of y.front.log → Rises [] y.front.log
    → Keeps x views → Keeps y views
grown x y views book up shows rises h = record { shows = shows; rises = rises; each = λ j u e. fits_grow x.front y.front u book up (h.each j u e) }

pub turns : (seat : ℕ) (v : Option FrontView) (x y : Shelf) → y.front.book ≡ x.front.book → IsPrefix x.front.log y.front.log → y.entries.items ≡ front_of y.front.log → Rises [] y.front.log
    → TurnsAt Keeps seat v x y Enters
turns seat v x y book up shows rises views h at =
    let more = grown x y views book up shows rises h in (
      Some y.front,
      set_fits y views seat (Some y.front) more (refl, prefix_self y.front.log),
      record { knows = refl; fits = more.each seat v at; shows = shows; rises = rises },
    )

pub enters : (seat : ℕ) (v : Option FrontView) (x : Shelf) → TurnsAt Keeps seat v x x Enters
enters seat v x views h at = turns seat v x x refl (prefix_self x.front.log) h.shows h.rises views h at

pub forks : (seat : ℕ) (v : Option FrontView) → Forks Keeps seat v v v
forks seat v x views h at =
    let kept = set_fits x views seat v h (h.each seat v at) in record {
      shows = h.shows;
      rises = h.rises;
      each = λ j u e. ⊎_elim (kept.each j u) (λ (same : v ≡ u). subst (λ (w : Option FrontView). Fits x.front w) same (h.each seat v at)) (at_snoc (set views seat v) v u j e);
    }

pub merges : (seat : ℕ) (v : Option FrontView) (other : ℕ) (w : Option FrontView) → Merges Keeps seat v other w w None
merges seat v other w x views h at apart there =
    let b : Fits x.front w = ⊎_elim (λ (t : (other ≡ seat) × (w ≡ w)). absurd (apart t.0)) (λ (t : (other ≢ seat) × (get_elem? views other ≡ some w)). h.each other w t.1) (at_set views seat other w w there) in
    set_fits x (set views seat w) other None (set_fits x views seat w h b) tt

pub entered_grows : (p : TxPlace) (v w : Option FrontView) (f g : FrontView) (a : Option Answer) → v ≡ Some f → Entered p v w g a → IsPrefix (front_of f.log) (front_of g.log)
entered_grows p v w f g a knows e = front_grows f.log g.log (subst (λ (u : Option FrontView). Fits g u) knows e.fits).1 e.rises
