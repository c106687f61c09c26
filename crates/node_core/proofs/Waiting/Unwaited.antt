-- What holds of a view holds of it where fewer wait.
use Rattle.std.proofs.Common.{Bool, List, ap, arith, inl, inr, subst, sym, ◌++◌, ◌∷◌, ◌≡◌, ◌≤◌}
use Rattle.str_base.specs.Members.{In}
use Rattle.str_model.specs.declared.messages.Waiter.{Waiter}
use Rattle.str_model.specs.declared.messages.Waiter.TheVariants.{Held, Read}
use Rattle.str_model.specs.NodeFacts.{MomentFacts, WaiterFacts, how_many}
use Rattle.str_model.specs.Proposals.{holds_pair}
use Rattle.str_model.specs.Views.{View}
use Rattle.str_base.proofs.Members.{in_append, in_left, in_right}
use Rattle.str_model.proofs.ListCounts.{many_left}
use Rattle.str_scene.specs.Scenes.{Here}

module _ (here : Here) (v : View) (h : MomentFacts here v) (kept rest : List Waiter) (r : Waiter) (all : v.waiters ≡ kept ++ r ∷ rest) where
  abbrev left : View
  left = record v { waiters = kept ++ rest }

  still : (q : Waiter) → In q left.waiters → In q v.waiters
  still q i = subst (In q) (sym all) (elim (in_append kept rest q i) [ inl a ↦ in_left kept (r ∷ rest) q a | inr b ↦ in_right kept (r ∷ rest) q (inr b) ])

  fewer : (test : Waiter → Bool) → how_many test left.waiters ≤ how_many test v.waiters
  fewer test =
      let a = many_left test kept rest r in
      let c = ap (how_many test) all in
      omega (arith, a, c)

  waits : (q : Waiter) → WaiterFacts here v q → WaiterFacts here left q
  waits (Read tx k rs) f = f
  waits (Held a) f = record { masters = f.masters; named = f.named; once = (let o = f.once in let n = fewer (holds_pair a.tx a.part) in omega (arith, o, n)); none = f.none }

  pub unwaited_moment : MomentFacts here left
  unwaited_moment = record {
    base = record {
      times = record { each = h.base.times.each; rising = h.base.times.rising };
      locals = λ u m k. (let o = h.base.locals u m k in record { place = o.place; owner = o.owner; node = o.node; seq = o.seq; owns = o.owns; lc = o.lc; open_ = o.open_ });
      deps = λ i x dep own f m. (let o = h.base.deps i x dep own f m in
          record { place = o.place; owner = o.owner; seq = o.seq; before = o.before; owns = o.owns; rs = o.rs; lc = o.lc; is_lc = o.is_lc; below = o.below });
    };
    order = h.order;
    scripts = h.scripts;
    needy = h.needy;
    lengths = h.lengths;
    homes = h.homes;
    asked = h.asked;
    values = h.values;
    versions = λ u m. (let f = h.versions u m in
        record {
          part = f.part;
          key = f.key;
          node = f.node;
          value = f.value;
          own = λ e. (let o = f.own e in record { place = o.place; owner = o.owner; seq = o.seq; owns = o.owns; lc = o.lc; is_lc = o.is_lc; write = o.write; written = o.written; key = o.key });
          foreign = f.foreign;
          hosted = f.hosted;
        });
    waiters = λ q i. waits q (h.waiters q (still q i));
    below = record { floor = h.below.floor; marks = h.below.marks; versions = h.below.versions; own = h.below.own; waiters = λ q i. h.below.waiters q (still q i) };
    marks = h.marks;
  }
