-- Each single change keeps what holds at each moment, whatever message it comes from.
use Rattle.std.proofs.Common.{arith, inl, inr, length, ltb-true, nat_lt, replicate, suc, true, zero, ℕ, ◌+◌, ◌-◌, ◌<◌, ◌∙◌, ◌≡◌}
use Rattle.std.proofs.lemmas.List.{length-replicate}
use Rattle.str_model.specs.declared.messages.Input.{Input}
use Rattle.str_model.specs.NodeFacts.{MomentFacts}
use Rattle.str_model.specs.Proposals.{ts_limit}
use Rattle.str_model.specs.Runs.{opening_view}
use Rattle.str_model.specs.Strange.{has_node}
use Rattle.str_model.specs.Views.{Doing}
use Rattle.str_scene.specs.Scenes.{Here}
use Rattle.str_scene.specs.SceneLimits.{IsScene}
use Rattle.str_model.proofs.Principle.SingleChanges.{Act, Where}
use Rattle.str_model.proofs.OwnFacts.AskedParts.{asked-act}
use Rattle.str_model.proofs.OwnFacts.EarlierDependencies.{depends-act}
use Rattle.str_model.proofs.OwnFacts.AtHome.{home-step}
use Rattle.str_model.proofs.ViewFacts.MarksKept.{marks_length}
use Rattle.str_model.proofs.OwnFacts.PlacesInOrder.{order-step}
use Rattle.str_model.proofs.OwnFacts.ScriptCounts.{lengths-act}
use Rattle.str_model.proofs.OwnFacts.ScriptsCovered.{script-act}
use Rattle.str_model.proofs.Changes.AnswerChanges.{tell_step}
use Rattle.str_model.proofs.ViewFacts.TimesEnd.{times_end-act}
use Rattle.str_model.proofs.OwnFacts.NodeTimes.{timed_opening}
use Rattle.str_model.proofs.OwnFacts.UnmetNeeds.{needy-act}
use Rattle.str_model.proofs.ViewFacts.ValuesKept.{values-act}
use Rattle.str_model.proofs.ViewFacts.VersionsKept.{versions-act}
use Rattle.str_model.proofs.ViewFacts.WaitersKept.{waiters-act}
use Rattle.str_base.proofs.Tests.{and_true_left}
use Rattle.str_base.specs.Members.{In}

-- a node that exists has a number from 1 on
pub node_number : (here : Here) → has_node here here.node ≡ true → here.node.0 ≡ here.node.0 - 1 + 1
node_number here e = let k = ltb-true 0 here.node.0 (and_true_left (nat_lt 0 here.node.0) _ e) in omega (arith, k)

pub moment-act : (here : Here) → IsScene here.scene → has_node here here.node ≡ true → (input : Input) (w : Where) (d e : Doing) → Act here input w d e → MomentFacts here d.view → MomentFacts here e.view
moment-act here ok exists input w d e act h =
    record {
      base = depends-act here input w d e act h.base;
      order = order-step here (here.node.0 - 1) d e (node_number here exists) (tell_step here input w d e act) h.base.times h.order;
      scripts = script-act here input w d e act h.scripts;
      needy = needy-act here input w d e act h.needy;
      lengths = lengths-act here input w d e act h.needy h.lengths;
      homes = home-step here input w d e act h.homes;
      asked = asked-act here input w d e act h.asked;
      values = values-act here ok input w d e act (λ q k. (h.versions q k).value) h.values;
      versions = versions-act here ok exists input w d e act h.versions h.scripts h.values h.waiters;
      waiters = waiters-act here input w d e act h.waiters;
      below = times_end-act here input w d e act h.below;
      marks = marks_length here input w d e act ∙ h.marks;
    }

-- the marks of a node at its opening
zeros_below : (n b : ℕ) → 0 < b → (t : ℕ) → In t (replicate n 0) → t < b
zeros_below zero b l t h = absurd h
zeros_below (suc n) b l t (inl e) = omega (arith, l, e)
zeros_below (suc n) b l t (inr h) = zeros_below n b l t h

pub moment_opening : (here : Here) → MomentFacts here (opening_view here.scene)
moment_opening here =
    record {
      base = record { times = timed_opening here.scene; locals = λ u h k. absurd h; deps = λ i x dep own op m. absurd (cc own) };
      order = record { placed = λ i x e. absurd (cc e); order = λ i j x y l e f s. absurd (cc e) };
      scripts = λ i x own. absurd (cc own);
      needy = λ i x own. absurd (cc own);
      lengths = λ i x own. absurd (cc own);
      homes = λ i x own. absurd (cc own);
      asked = λ i x own. absurd (cc own);
      values = λ i x own. absurd (cc own);
      versions = λ u h. absurd h;
      waiters = λ r h. absurd h;
      below = record { floor = omega arith; marks = zeros_below (length here.scene.keys.names) (ts_limit + 0) (omega arith); versions = λ q h. absurd h; own = λ x h. absurd h; waiters = λ r h. absurd h };
      marks = length-replicate (length here.scene.keys.names) 0;
    }
