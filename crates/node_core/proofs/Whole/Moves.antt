-- A work after a change: what holds of what was done holds of the work, and what is done then is done in all.
use Rattle.std.proofs.Common.{arith, refl, subst, sym, ◌∙◌, ◌≡◌, Bool, Option, Some, None, false, true}
use Rattle.node_core.specs.Working.{Did, Fits, FitsRule, HasFacts, Ruled, Stays, WorkState}
use Rattle.str_model.specs.NodeFacts.{MomentFacts}
use Rattle.str_model.specs.Strange.{has_node}
use Rattle.str_model.specs.Views.{Doing}
use Rattle.str_scene.specs.SceneLimits.{IsScene}
use Rattle.str_scene.specs.Scenes.{Here}

pub stays_then : (a b c : WorkState) → Stays a b → Stays b c → Stays a c
stays_then a b c p q =
    record {
      here = q.here ∙ p.here;
      room = q.room ∙ p.room;
      space = (let s = p.space in let t = q.space in omega (arith, s, t));
      earlier = q.earlier ∙ p.earlier;
      answered = q.answered ∙ p.answered;
    }

pub stays_self : (a : WorkState) → Stays a a
stays_self a = record { here = refl; room = refl; space = omega arith; earlier = refl; answered = refl }

-- what holds of the place and of what was done holds of the work
pub holds_then : (P : Here → Doing → Type 0) (old mid : WorkState) (d : Doing) → Did d old mid → P old.here d → P mid.here mid.doing
holds_then P old mid d s h = subst (λ z. P z mid.doing) (sym s.stays.here) (subst (λ z. P old.here z) (sym s.done) h)

pub facts_then : (old mid : WorkState) (d : Doing) → HasFacts old → Did d old mid → MomentFacts old.here d.view → HasFacts mid
facts_then old mid d f s h = record {
  limits = holds_then (λ y z. IsScene y.scene) old mid d s f.limits;
  exists = holds_then (λ y z. has_node y y.node ≡ true) old mid d s f.exists;
  moment = holds_then (λ y z. MomentFacts y z.view) old mid d s h;
}

-- the room of the step stays
pub fits_then : (F : Here → Doing → Doing) (old mid : WorkState) (d : Doing) → Did d old mid → Fits old (F old.here d) → Fits mid (F mid.here mid.doing)
fits_then F old mid d s f =
    holds_then (λ y z. Fits mid (F y z)) old mid d s
    (record { room = (let a = f.room in let b = s.stays.room in omega (arith, a, b)); space = (let a = f.space in let b = s.stays.space in omega (arith, a, b)) })

-- what is done after it is done in all
pub did_then : (F : Here → Doing → Doing) (old mid new : WorkState) (d : Doing) → Did d old mid → Did (F mid.here mid.doing) mid new → Did (F old.here d) old new
did_then F old mid new d s t =
    record { done = t.done ∙ sym (holds_then (λ y z. F old.here d ≡ F y z) old mid d s refl); stays = stays_then old mid new s.stays t.stays }

pub did_as : (old new : WorkState) (d e : Doing) → d ≡ e → Did d old new → Did e old new
did_as old new d e q s = record { done = s.done ∙ q; stays = s.stays }

pub fits_as : (w : WorkState) (d e : Doing) → d ≡ e → Fits w d → Fits w e
fits_as w d e q f = subst (Fits w) q f

pub fits_rule : (w : WorkState) (o : Option Doing) (d : Doing) → o ≡ Some d → FitsRule w o → Fits w d
fits_rule w o d q f = subst (FitsRule w) q f

pub did_rule : (old new : WorkState) (o : Option Doing) (d : Doing) → o ≡ Some d → Did d old new → Ruled o true old new
did_rule old new o d q s = subst (λ z. Ruled z true old new) (sym q) (refl, s)

pub idle_rule : (old : WorkState) (o : Option Doing) → o ≡ None → Ruled o false old old
idle_rule old o q = subst (λ z. Ruled z false old old) (sym q) (refl, refl)

-- the rest of a rule that is not idle has room, and is all of it
pub rule_fits : (F : Here → Doing → Doing) (w mid : WorkState) (d : Doing) (o : Option Doing) → Did d w mid → o ≡ Some (F w.here d) → FitsRule w o → Fits mid (F mid.here mid.doing)
rule_fits F w mid d o s q f = fits_then F w mid d s (fits_rule w o (F w.here d) q f)

pub rule_done : (F : Here → Doing → Doing) (w mid new : WorkState) (d : Doing) (o : Option Doing) → Did d w mid → o ≡ Some (F w.here d) → Did (F mid.here mid.doing) mid new → Ruled o true w new
rule_done F w mid new d o s q t = did_rule w new o (F w.here d) q (did_then F w mid new d s t)

pub rule_as : (w new : WorkState) (o p : Option Doing) (b : Bool) → o ≡ p → Ruled p b w new → Ruled o b w new
rule_as w new o p b q r = subst (λ z. Ruled z b w new) (sym q) r

pub fits_rule_as : (w : WorkState) (o p : Option Doing) → o ≡ p → FitsRule w o → FitsRule w p
fits_rule_as w o p q f = subst (FitsRule w) q f

pub did_self : (w : WorkState) → Did w.doing w w
did_self w = record { done = refl; stays = stays_self w }
