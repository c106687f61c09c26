-- The evaluation of a script, operation by operation, and what its writes are.
use Rattle.str_model.proofs.ViewFacts.MarksRise.{script_op}
use Rattle.str_model.proofs.ViewFacts.VersionsKept.{writes_key}
use Rattle.std.proofs.Common.{Bool, List, [], false, if◌then◌else◌, inl, inr, length, refl, true, ◌<◌, ◌∷◌, ◌≡◌, ◌⊎◌}
use Rattle.history_audit.specs.Steps.{after_step, step_of}
use Rattle.history_audit.specs.declared.evaluations.Ending.TheVariants.{Unmet as EndsUnmet}
use Rattle.history_audit.specs.declared.evaluations.Step.TheVariants.{Passed, Stopped}
use Rattle.str_base.proofs.Members.{any_in}
use Rattle.str_base.proofs.SameNames.{is-same_key}
use Rattle.str_base.specs.Members.{In}
use Rattle.str_base.specs.Values.{is_below, sum_with}
use Rattle.str_base.specs.Versions.{same_key}
use Rattle.str_base.specs.declared.names.KeyId.{KeyId}
use Rattle.str_base.specs.declared.names.Value.{Value}
use Rattle.str_base.specs.declared.names.Value.TheVariants.{Absent, Num, Text}
use Rattle.str_base.specs.declared.names.Write.{Write}
use Rattle.str_model.proofs.OwnFacts.ScriptsCovered.{eval_keys, set_once}
use Rattle.str_model.specs.Evaluation.{Unmet, eval, eval_from, value_at, with_write}
use Rattle.str_model.specs.NodeFacts.{AreDistinct, WrittenIn}
use Rattle.str_model.specs.Owned.{wrote_key}
use Rattle.str_model.specs.declared.names.Got.{Got}
use Rattle.str_scene.specs.SceneLimits.{IsScene}
use Rattle.str_scene.specs.Scenes.{Scene, script_at}
use Rattle.str_scene.specs.declared.names.Op.{Op}
use Rattle.str_scene.specs.declared.names.Op.TheVariants.{Abort, Add, Del, Get, Need, Put, Puts}
use Rattle.str_scene.specs.declared.names.TxPlace.{TxPlace}

-- ---- one operation

pub step_eval : (look : KeyId → Value) (op : Op) (ops : List Op) (ws : List Write) (gs : List Got) → eval_from look (op ∷ ops) ws gs ≡ after_step look ops ws gs (step_of look ws op)
step_eval look (Get k) ops ws gs = refl
step_eval look (Put k n) ops ws gs = refl
step_eval look (Puts k t) ops ws gs = refl
step_eval look (Add k n) ops ws gs = refl
step_eval look (Del k) ops ws gs = refl
step_eval look (Need k n) ops ws gs = by_test (is_below (value_at look ws k) n)
  where
    by_test : (b : Bool) → (if b then record { gets = gs; writes = ws; stop = Unmet } else eval_from look ops ws gs) ≡ after_step look ops ws gs (if b then Stopped EndsUnmet else Passed)
    by_test true = refl
    by_test false = refl
step_eval look Abort ops ws gs = refl

-- ---- the writes

eval_once_from : (look : KeyId → Value) (ops : List Op) (ws : List Write) (gs : List Got) → AreDistinct ws → AreDistinct (eval_from look ops ws gs).writes
eval_once_from look [] ws gs d = d
eval_once_from look (Get k ∷ ops) ws gs d = eval_once_from look ops ws _ d
eval_once_from look (Put k n ∷ ops) ws gs d = eval_once_from look ops (with_write k (Num n) ws) gs (set_once (record { key = k; value = Num n }) ws d)
eval_once_from look (Puts k t ∷ ops) ws gs d = eval_once_from look ops (with_write k (Text t) ws) gs (set_once (record { key = k; value = Text t }) ws d)
eval_once_from look (Add k n ∷ ops) ws gs d =
    eval_once_from look ops (with_write k (sum_with (value_at look ws k) n) ws) gs (set_once (record { key = k; value = sum_with (value_at look ws k) n }) ws d)
eval_once_from look (Del k ∷ ops) ws gs d = eval_once_from look ops (with_write k Absent ws) gs (set_once (record { key = k; value = Absent }) ws d)
eval_once_from look (Need k n ∷ ops) ws gs d = by_test (eval_once_from look ops ws gs d) (is_below (value_at look ws k) n)
  where
    by_test : AreDistinct (eval_from look ops ws gs).writes → (b : Bool) → AreDistinct (if b then record { gets = gs; writes = ws; stop = Unmet } else eval_from look ops ws gs).writes
    by_test rec true = d
    by_test rec false = rec
eval_once_from look (Abort ∷ ops) ws gs d = d

-- each key is written once
pub eval_once : (look : KeyId → Value) (ops : List Op) → AreDistinct (eval ops look).writes
eval_once look ops = eval_once_from look ops [] [] refl

-- the keys that a script of the scene writes are those of its table
pub eval_within : (scene : Scene) → IsScene scene → (place : TxPlace) (look : KeyId → Value) (w : Write) → In w (eval (script_at scene place) look).writes → w.key.0 < length scene.keys.names
eval_within scene is place look w h =
    told (eval_keys look (script_at scene place) [] [] w.key (any_in (λ (z : Write). same_key z.key w.key) (eval (script_at scene place) look).writes w h (is-same_key w.key w.key refl)))
  where
    told : (wrote_key w.key [] ≡ true) ⊎ WrittenIn (script_at scene place) w.key → w.key.0 < length scene.keys.names
    told (inl f) = absurd (cc f)
    told (inr r) = writes_key scene r.1 w.key (script_op scene is place r.0 r.1 r.2) r.3
