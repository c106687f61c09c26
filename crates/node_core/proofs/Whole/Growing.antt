-- Single changes never take back what a step has added, sent or released: so the room of a step that is enough for its end is enough for each part of it.
use Rattle.std.proofs.Common.{List, arith, length, length-append, ◌++◌, ◌≤◌}
use Rattle.node_core.specs.Working.{Fits, WorkState}
use Rattle.str_model.specs.Acts.{abort_came, aborted, accepted, acked, asked, begun, certified, closed, commit_came, committed, marked, refused, replied, requested, taken, waits}
use Rattle.str_model.specs.declared.messages.Answer.{Answer}
use Rattle.str_model.specs.declared.messages.Input.{Input}
use Rattle.str_model.specs.declared.messages.Message.{Message}
use Rattle.str_model.specs.Views.{Doing, release}
use Rattle.str_model.proofs.Principle.SingleChanges.{Act, Path, Where, act_abort, act_abort_came, act_accept, act_ack, act_ask, act_begin, act_certify, act_close, act_commit, act_commit_came, act_mark, act_put, act_refuse, act_reply, act_request, act_take, act_unwait, act_wait, along}
use Rattle.str_model.proofs.Room.PartCosts.{release-length}
use Rattle.str_scene.specs.Scenes.{Here}

-- no less was added, sent and released
pub record Grows (d e : Doing) : Type 0 where
  pub added : d.added ≤ e.added
  pub sent : length d.sent ≤ length e.sent
  pub released : length d.released ≤ length e.released

pub grows_self : (d : Doing) → Grows d d
grows_self d = record { added = omega arith; sent = omega arith; released = omega arith }

pub grows_then : (d e f : Doing) → Grows d e → Grows e f → Grows d f
grows_then d e f a b =
    let p = a.added in let q = b.added in let r = a.sent in let s = b.sent in let t = a.released in let u = b.released in
    record { added = omega (arith, p, q); sent = omega (arith, r, s); released = omega (arith, t, u) }

pub more-sent : (xs ys : List Message) → length xs ≤ length (xs ++ ys)
more-sent xs ys = let l = length-append xs ys in omega (arith, l)

more-released : (a : Answer) (xs : List Answer) → length xs ≤ length (release a xs)
more-released a xs = let l = release-length a xs in omega (arith, l)

pub grows-act : (here : Here) (input : Input) (w : Where) (d e : Doing) → Act here input w d e → Grows d e
unfolding begun marked aborted committed closed certified asked acked requested accepted taken refused waits replied commit_came abort_came
grows-act here input w d e (act_begin place rs d' r h) = record { added = omega arith; sent = omega arith; released = omega arith }
grows-act here input w d e (act_mark k t d' rd) = record { added = omega arith; sent = omega arith; released = omega arith }
grows-act here input w d e (act_put i x y d' own g) = record { added = omega arith; sent = omega arith; released = omega arith }
grows-act here input w d e (act_request i k m x d' own g) = record { added = omega arith; sent = more-sent d'.sent _; released = omega arith }
grows-act here input w d e (act_certify i lc snap x d' own f l c) = record { added = omega arith; sent = omega arith; released = omega arith }
grows-act here input w d e (act_ask i lc p x d' own f l g) = record { added = omega arith; sent = more-sent d'.sent _; released = omega arith }
grows-act here input w d e (act_ack i lc from tx p ts parts x d' own c q g) = record { added = omega arith; sent = omega arith; released = omega arith }
grows-act here input w d e (act_abort i cause x d' own f y) = record { added = omega arith; sent = more-sent d'.sent _; released = more-released _ d'.released }
grows-act here input w d e (act_commit i lc fc x d' own l m le f g) = record { added = omega arith; sent = more-sent d'.sent _; released = more-released _ d'.released }
grows-act here input w d e (act_close i x d' own p m) = record { added = omega arith; sent = omega arith; released = more-released _ d'.released }
grows-act here input w d e (act_accept a ts d' h m) = record { added = omega arith; sent = more-sent d'.sent _; released = omega arith }
grows-act here input w d e (act_refuse a u k d' h m) = record { added = omega arith; sent = more-sent d'.sent _; released = omega arith }
grows-act here input w d e (act_take from a d' c l) = record { added = omega arith; sent = more-sent d'.sent _; released = omega arith }
grows-act here input w d e (act_wait r d' h) = record { added = omega arith; sent = omega arith; released = omega arith }
grows-act here input w d e (act_unwait kept rest r d' h) = record { added = omega arith; sent = omega arith; released = omega arith }
grows-act here input w d e (act_reply tx k rs v u fc d' h) = record { added = omega arith; sent = more-sent d'.sent _; released = omega arith }
grows-act here input w d e (act_commit_came from tx p fc ms d' c h) = record { added = omega arith; sent = omega arith; released = omega arith }
grows-act here input w d e (act_abort_came from tx p d' c h) = record { added = omega arith; sent = omega arith; released = omega arith }

-- a path never takes back
pub grows_along : (here : Here) (input : Input) (w : Where) (d e : Doing) → Path here input w d e → Grows d e
grows_along here input w d e p = along here input w (Grows d) (λ f g a h. grows_then d f g h (grows-act here input w f g a)) d e p (grows_self d)

-- what is enough for the end is enough on the way
pub fits_before : (w : WorkState) (d e : Doing) → Grows d e → Fits w e → Fits w d
fits_before w d e g f = record { room = (let a = g.added in let b = f.room in omega (arith, a, b)); space = (let a = g.sent in let b = g.released in let c = f.space in omega (arith, a, b, c)) }
