-- There are as many marks as keys, at each change.
use Rattle.std.proofs.Common.{length, refl, ◌≡◌}
use Rattle.str_model.specs.declared.messages.Input.{Input}
use Rattle.str_model.specs.Acts.{abort_came, aborted, accepted, acked, asked, begun, certified, closed, commit_came, committed, marked, refused, replied, requested, taken, waits}
use Rattle.str_scene.specs.Scenes.{Here}
use Rattle.str_model.specs.Views.{Doing}
use Rattle.str_model.proofs.Principle.SingleChanges.{Act, Where, act_abort, act_abort_came, act_accept, act_ack, act_ask, act_begin, act_certify, act_close, act_commit, act_commit_came, act_mark, act_put, act_refuse, act_reply, act_request, act_take, act_unwait, act_wait}
use Rattle.str_model.proofs.ViewFacts.MarksRise.{raise_all-rises, raised-rises}

module _ (here : Here) (input : Input) (w : Where) where
  pub marks_length : (d e : Doing) → Act here input w d e → length e.view.marks ≡ length d.view.marks
  unfolding begun marked aborted committed closed certified asked acked requested accepted taken refused waits replied commit_came abort_came
  marks_length d e (act_mark k t d' rd) = (raised-rises d'.view.marks k t).same_length
  marks_length d e (act_commit_came from t p fc ms d' c g) = (raise_all-rises ms d'.view.marks).same_length
  marks_length d e (act_begin place rs d' r g) = refl
  marks_length d e (act_put n z y d' o g) = refl
  marks_length d e (act_request n l to z d' o g) = refl
  marks_length d e (act_certify n lc snap x d' o f l c) = refl
  marks_length d e (act_ask n lc p z d' o f l g) = refl
  marks_length d e (act_ack n lc from tx p ts parts z d' o c r g) = refl
  marks_length d e (act_abort n cause x d' o f g) = refl
  marks_length d e (act_commit n lc fc x d' o l none le f g) = refl
  marks_length d e (act_close n z d' o p none) = refl
  marks_length d e (act_accept a ts d' g m) = refl
  marks_length d e (act_refuse a u l d' g m) = refl
  marks_length d e (act_take from a d' c l) = refl
  marks_length d e (act_wait s d' g) = refl
  marks_length d e (act_unwait kept more s d' g) = refl
  marks_length d e (act_reply tx l rs v u fc d' g) = refl
  marks_length d e (act_abort_came from t p d' c g) = refl
