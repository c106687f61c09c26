-- What holds at each moment holds after each single change of an own transaction.
use Rattle.std.proofs.Common.{Some, false, refl, true, ℕ, ◌≡◌}
use Rattle.str_base.specs.declared.names.KeyId.{KeyId}
use Rattle.str_base.specs.declared.names.PartId.{PartId}
use Rattle.str_base.specs.declared.names.SessionId.{SessionId}
use Rattle.str_scene.specs.declared.names.TxPlace.{TxPlace}
use Rattle.str_model.specs.declared.messages.Input.{Input}
use Rattle.str_model.specs.declared.messages.Input.TheVariants.{Client}
use Rattle.str_model.specs.Acts.{asked, begun, marked}
use Rattle.str_model.specs.Gates.{Ask, gate_of}
use Rattle.str_model.specs.NodeFacts.{MomentFacts}
use Rattle.str_model.specs.Owned.{Owns}
use Rattle.str_model.specs.Strange.{has_node}
use Rattle.str_model.specs.Turns.{dep_turn, left_by}
use Rattle.str_model.specs.Views.{Doing, Own, is_decided, lc_of, put}
use Rattle.str_scene.specs.SceneLimits.{IsScene}
use Rattle.str_scene.specs.Scenes.{Here}
use Rattle.str_model.proofs.Principle.OwnPaths.{resolved-extends}
use Rattle.str_model.proofs.Principle.SingleChanges.{Act, Begins, InRule, act_ask, act_begin, act_mark, act_put, ch_resolve, own_reading}
use Rattle.str_model.proofs.ViewFacts.MomentKept.{moment-act}

-- an input; which one is no matter for a change of an own transaction
abbrev pub any_input : Input
any_input = let s : SessionId = record { 0 = 0 } in Client s 0

module _ (here : Here) (ok : IsScene here.scene) (exists : has_node here here.node ≡ true) (d : Doing) (h : MomentFacts here d.view) where
  one_change : (e : Doing) → Act here any_input InRule d e → MomentFacts here e.view
  one_change e a = moment-act here ok exists any_input InRule d e a h

  pub begun_moment : (place : TxPlace) (rs : ℕ) → Begins here place rs d → MomentFacts here (begun place rs d).view
  begun_moment place rs b = one_change (begun place rs d) (act_begin place rs d refl b)

  module _ (i : ℕ) (x : Own) (own : Owns d.view i x) where
    pub marked_moment : (k : KeyId) → MomentFacts here (marked k x.snap.rs d).view
    marked_moment k = one_change (marked k x.snap.rs d) (act_mark k x.snap.rs d (own_reading i x own refl))

    pub looked_moment : is_decided x.phase ≡ false → MomentFacts here (put i (record x { snap = left_by (dep_turn d.view.own x.snap) x.snap }) d).view
    looked_moment f =
        let t = dep_turn d.view.own x.snap in
        let y : Own = record x { snap = left_by t x.snap } in
        one_change (put i y d) (act_put i x y d (own, tt) (record {
          goes = record { was_open = f; is_open = f; same_place = refl; snap = resolved-extends x t d refl; same_lc = refl };
          change = ch_resolve t refl;
        }))

    pub asked_moment : (lc : ℕ) (p : PartId) → is_decided x.phase ≡ false → lc_of x.phase ≡ Some lc → gate_of here d.view lc x ≡ Ask p → MomentFacts here (asked here i lc p x d).view
    asked_moment lc p f l g = one_change (asked here i lc p x d) (act_ask i lc p x d (own, tt) f l g)
