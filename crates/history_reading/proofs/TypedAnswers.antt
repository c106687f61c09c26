-- The answers of a scene are of the form, and each has a line of its own.
use Rattle.std.proofs.Common.{List, Some, [], ap, length, map, refl, slice_get, sym, true, ◌<◌, ◌∙◌, ◌∷◌, ◌≡◌}
use Rattle.history_reading.proofs.AnswersApart.{answer_text-injective}
use Rattle.history_reading.specs.HistoryLines.{IsForm, IsFormCause, IsFormGet, IsFormOutcome, IsFormValue, any_answer, any_cause, any_get, any_gets, any_outcome, any_value, spelled_answer}
use Rattle.history_reading.specs.HistoryRanges.{IsCause, IsGot, IsOfScene, IsOutcome, IsValue}
use Rattle.scene_text.proofs.Taking.LinesComplete.{table_good}
use Rattle.scene_text.proofs.Taking.TransactionLines.{key_good, text_good}
use Rattle.scene_text.proofs.Taking.WholeDrafts.{scene_whole}
use Rattle.scene_text.specs.LineTexts.{AreBytes}
use Rattle.scene_text.specs.SceneLines.{key_at, text_at}
use Rattle.scene_text.specs.Taking.{scene_limits}
use Rattle.str_base.specs.declared.names.Cause.{Cause}
use Rattle.str_base.specs.declared.names.Cause.TheVariants.{Conflict, Late, Lost, Wish}
use Rattle.str_base.specs.declared.names.KeyId.{KeyId}
use Rattle.str_base.specs.declared.names.TextId.{TextId}
use Rattle.str_base.specs.declared.names.Value.{Value}
use Rattle.str_base.specs.declared.names.Value.TheVariants.{Absent, Num, Text}
use Rattle.str_model.specs.declared.messages.Answer.{Answer}
use Rattle.str_model.specs.declared.messages.Outcome.{Outcome}
use Rattle.str_model.specs.declared.messages.Outcome.TheVariants.{Aborted, Committed}
use Rattle.str_model.specs.declared.names.Got.{Got}
use Rattle.str_scene.specs.Lists.{Each}
use Rattle.str_scene.specs.SceneLimits.{IsKeyOf, IsScene, is_name}
use Rattle.str_scene.specs.Scenes.{Scene}

-- ---- keys and byte strings of a scene

pub key_stands : (scene : Scene) → IsScene scene → (k : KeyId) → IsKeyOf scene.keys k → slice_get scene.keys.names k.0 ≡ Some (key_at scene.keys k)
key_stands scene s k h = (key_good scene k (table_good scene_limits scene (scene_whole scene s)) h).at

pub text_stands : (scene : Scene) → IsScene scene → (t : TextId) → t.0 < length scene.keys.texts → slice_get scene.keys.texts t.0 ≡ Some (text_at scene.keys t)
text_stands scene s t h = (text_good scene t (table_good scene_limits scene (scene_whole scene s)) h).at

pub key_named : (scene : Scene) → IsScene scene → (k : KeyId) → IsKeyOf scene.keys k → is_name (key_at scene.keys k).0 ≡ true
key_named scene s k h = (key_good scene k (table_good scene_limits scene (scene_whole scene s)) h).good.name

pub text_bytes : (scene : Scene) → IsScene scene → (t : TextId) → t.0 < length scene.keys.texts → AreBytes (text_at scene.keys t)
text_bytes scene s t h = (text_good scene t (table_good scene_limits scene (scene_whole scene s)) h).good.bytes

pub key_at-injective : (scene : Scene) → IsScene scene → (k l : KeyId) → IsKeyOf scene.keys k → IsKeyOf scene.keys l → key_at scene.keys k ≡ key_at scene.keys l → k ≡ l
key_at-injective scene s k l a b e =
    let same : k.0 ≡ l.0 = s.table.distinct_keys k.0 l.0 (key_at scene.keys k) (key_stands scene s k a) (key_stands scene s l b ∙ ap Some (sym e)) in
    λ i. record { 0 = same i }

pub text_at-injective : (scene : Scene) → IsScene scene → (t u : TextId) → t.0 < length scene.keys.texts → u.0 < length scene.keys.texts → text_at scene.keys t ≡ text_at scene.keys u → t ≡ u
text_at-injective scene s t u a b e =
    let same : t.0 ≡ u.0 = s.table.distinct_texts t.0 u.0 (text_at scene.keys t) (text_stands scene s t a) (text_stands scene s u b ∙ ap Some (sym e)) in
    λ i. record { 0 = same i }

-- ---- of the form

pub value_form : (scene : Scene) → IsScene scene → (v : Value) → IsValue scene.keys v → IsFormValue (any_value scene.keys v)
value_form scene s Absent h = tt
value_form scene s (Num n) h = tt
value_form scene s (Text t) h = text_bytes scene s t h

pub get_form : (scene : Scene) → IsScene scene → (g : Got) → IsGot scene.keys g → IsFormGet (any_get scene.keys g)
get_form scene s g h = (key_named scene s g.key h.0, value_form scene s g.value h.1)

pub gets_form : (scene : Scene) → IsScene scene → (gets : List Got) → Each (IsGot scene.keys) gets → Each IsFormGet (any_gets scene.keys gets)
gets_form scene s [] h = tt
gets_form scene s (g ∷ gets) h = (get_form scene s g h.0, gets_form scene s gets h.1)

pub cause_form : (scene : Scene) → IsScene scene → (c : Cause) → IsCause scene c → IsFormCause (any_cause scene.keys c)
cause_form scene s (Conflict by k n) h = key_named scene s k h.1
cause_form scene s (Lost by) h = tt
cause_form scene s (Late by fc) h = tt
cause_form scene s Wish h = tt

pub outcome_form : (scene : Scene) → IsScene scene → (o : Outcome) → IsOutcome scene o → IsFormOutcome (any_outcome scene.keys o)
outcome_form scene s (Committed fc gets) h = gets_form scene s gets h.1
outcome_form scene s (Aborted c) h = cause_form scene s c h

pub answer_form : (scene : Scene) → IsScene scene → (a : Answer) → IsOfScene scene a → IsForm (any_answer scene.keys a)
answer_form scene s a h = outcome_form scene s a.outcome h.outcome

pub answers_form : (scene : Scene) → IsScene scene → (as' : List Answer) → Each (IsOfScene scene) as' → Each IsForm (map (any_answer scene.keys) as')
answers_form scene s [] h = tt
answers_form scene s (a ∷ as') h = (answer_form scene s a h.0, answers_form scene s as' h.1)

-- ---- one of each

value_injective : (scene : Scene) → IsScene scene → (v w : Value) → IsValue scene.keys v → IsValue scene.keys w → any_value scene.keys v ≡ any_value scene.keys w → v ≡ w
value_injective scene s Absent Absent a b e = refl
value_injective scene s (Num n) (Num m) a b e = let same : n ≡ m = cc in ap Num same
value_injective scene s (Text t) (Text u) a b e = let same : text_at scene.keys t ≡ text_at scene.keys u = cc in ap Text (text_at-injective scene s t u a b same)
value_injective scene s _ _ a b e = absurd (cc)

get_injective : (scene : Scene) → IsScene scene → (g h : Got) → IsGot scene.keys g → IsGot scene.keys h → any_get scene.keys g ≡ any_get scene.keys h → g ≡ h
get_injective scene s g h a b e =
    let key : g.key ≡ h.key = key_at-injective scene s g.key h.key a.0 b.0 (ap (λ x. x.key) e) in
    let value : g.value ≡ h.value = value_injective scene s g.value h.value a.1 b.1 (ap (λ x. x.value) e) in
    λ i. record { key = key i; value = value i }

gets_injective : (scene : Scene) → IsScene scene → (gs hs : List Got) → Each (IsGot scene.keys) gs → Each (IsGot scene.keys) hs → any_gets scene.keys gs ≡ any_gets scene.keys hs → gs ≡ hs
gets_injective scene s [] [] a b e = refl
gets_injective scene s [] (h ∷ hs) a b e = absurd (cc)
gets_injective scene s (g ∷ gs) [] a b e = absurd (cc)
gets_injective scene s (g ∷ gs) (h ∷ hs) a b e =
    let one : any_get scene.keys g ≡ any_get scene.keys h = cc in
    let more : any_gets scene.keys gs ≡ any_gets scene.keys hs = cc in
    let first : g ≡ h = get_injective scene s g h a.0 b.0 one in
    let rest : gs ≡ hs = gets_injective scene s gs hs a.1 b.1 more in
    λ i. first i ∷ rest i

cause_injective : (scene : Scene) → IsScene scene → (b c : Cause) → IsCause scene b → IsCause scene c → any_cause scene.keys b ≡ any_cause scene.keys c → b ≡ c
cause_injective scene s (Conflict x k m) (Conflict y l n) a b e =
    let by : x ≡ y = cc in
    let keys : key_at scene.keys k ≡ key_at scene.keys l = cc in
    let node : m ≡ n = cc in
    let key : k ≡ l = key_at-injective scene s k l a.1 b.1 keys in
    λ i. Conflict (by i) (key i) (node i)
cause_injective scene s (Lost x) (Lost y) a b e = let by : x ≡ y = cc in ap Lost by
cause_injective scene s (Late x t) (Late y u) a b e = let by : x ≡ y = cc in let fc : t ≡ u = cc in λ i. Late (by i) (fc i)
cause_injective scene s Wish Wish a b e = refl
cause_injective scene s _ _ a b e = absurd (cc)

outcome_injective : (scene : Scene) → IsScene scene → (o p : Outcome) → IsOutcome scene o → IsOutcome scene p → any_outcome scene.keys o ≡ any_outcome scene.keys p → o ≡ p
outcome_injective scene s (Committed f gs) (Committed g hs) a b e =
    let fc : f ≡ g = cc in
    let more : any_gets scene.keys gs ≡ any_gets scene.keys hs = cc in
    let gets : gs ≡ hs = gets_injective scene s gs hs a.1 b.1 more in
    λ i. Committed (fc i) (gets i)
outcome_injective scene s (Aborted c) (Aborted d) a b e =
    let causes : any_cause scene.keys c ≡ any_cause scene.keys d = cc in
    ap Aborted (cause_injective scene s c d a b causes)
outcome_injective scene s (Committed f gs) (Aborted d) a b e = absurd (cc)
outcome_injective scene s (Aborted c) (Committed g hs) a b e = absurd (cc)

pub any_answer-injective : (scene : Scene) → IsScene scene → (a b : Answer) → IsOfScene scene a → IsOfScene scene b → any_answer scene.keys a ≡ any_answer scene.keys b → a ≡ b
any_answer-injective scene s a b f g e =
    let outcome : a.outcome ≡ b.outcome = outcome_injective scene s a.outcome b.outcome f.outcome g.outcome (ap (λ x. x.outcome) e) in
    λ i. record { tx = (e i).tx; place = (e i).place; rs = (e i).rs; outcome = outcome i }

pub spelled_answer-injective : (scene : Scene) → IsScene scene → (a b : Answer) → IsOfScene scene a → IsOfScene scene b → spelled_answer scene.keys a ≡ spelled_answer scene.keys b → a ≡ b
spelled_answer-injective scene s a b f g e =
    any_answer-injective scene s a b f g (answer_text-injective (any_answer scene.keys a) (any_answer scene.keys b) (answer_form scene s a f) (answer_form scene s b g) e)
