-- What holds of a view holds of it where old versions are gone.
use Rattle.std.proofs.Common.{Bool, List, [], ap, false, if◌then◌else◌, inl, inr, not, refl, true, ℕ, ◌&&◌, ◌∷◌, ◌≡◌}
use Rattle.std.specs.List.{list_any}
use Rattle.str_base.specs.declared.names.Kind.{Kind}
use Rattle.str_base.specs.declared.names.Kind.TheVariants.{Local}
use Rattle.str_base.specs.declared.names.Version.{Version}
use Rattle.str_base.specs.Members.{In}
use Rattle.str_base.specs.Versions.{is_undecided}
use Rattle.str_model.proofs.Pruning.PruneOrder.{in_pruned}
use Rattle.str_model.specs.declared.messages.Waiter.{Waiter}
use Rattle.str_model.specs.declared.messages.Waiter.TheVariants.{Held, Read}
use Rattle.str_model.specs.NodeFacts.{MomentFacts, NodeFacts, WaiterFacts}
use Rattle.str_model.specs.Pruning.{covers, hides, pruned, pruned_versions}
use Rattle.str_model.specs.Views.{View}
use Rattle.str_scene.specs.Scenes.{Here}

-- an undecided version is never hidden
open_stays : (g : ℕ) (x : Version) (vs : List Version) → is_undecided x.kind ≡ true → In x vs → In x (pruned_versions g vs)
open_stays g x [] u h = h
open_stays g x (v ∷ vs) u h = by_hidden (hides g v vs) refl (λ k. open_stays g x vs u k) h
  where
    by_hidden : (b : Bool) → hides g v vs ≡ b → (In x vs → In x (pruned_versions g vs)) → In x (v ∷ vs) → In x (if b then pruned_versions g vs else v ∷ pruned_versions g vs)
    by_hidden true e r (inl q) = absurd (seen (ap (λ (z : Version). is_undecided z.kind) q) e)
      where
        seen : is_undecided v.kind ≡ is_undecided x.kind → (not (is_undecided v.kind) && list_any (covers g v.key) vs) ≡ true → ⊥
        seen s e = cc (ap (λ b. not b && list_any (covers g v.key) vs) s, ap (λ b. not b && list_any (covers g v.key) vs) u, e)
    by_hidden true e r (inr k) = r k
    by_hidden false e r (inl q) = inl q
    by_hidden false e r (inr k) = inr (r k)

module _ (here : Here) (g : ℕ) (v : View) where
  was_there : (q : Version) → In q (pruned_versions g v.versions) → In q v.versions
  was_there q m = in_pruned g v.versions q m

  waits : (q : Waiter) → WaiterFacts here v q → WaiterFacts here (pruned g v) q
  waits (Read tx k rs) f = f
  waits (Held a) f = record { masters = f.masters; named = f.named; once = f.once; none = λ u m. f.none u (was_there u m) }

  pub moment_pruned : MomentFacts here v → MomentFacts here (pruned g v)
  moment_pruned h = record {
    base = record {
      times = record { each = h.base.times.each; rising = h.base.times.rising };
      locals = λ u m k. (let o = h.base.locals u (was_there u m) k in record { place = o.place; owner = o.owner; node = o.node; seq = o.seq; owns = o.owns; lc = o.lc; open_ = o.open_ });
      deps = λ i x dep own f m. (let o = h.base.deps i x dep own f m in
          record { place = o.place; owner = o.owner; seq = o.seq; before = o.before; owns = o.owns; rs = o.rs; lc = o.lc; is_lc = o.is_lc; below = o.below });
    };
    order = h.order;
    scripts = h.scripts;
    needy = h.needy;
    lengths = h.lengths;
    homes = λ i x own. (let o = h.homes i x own in
        record { seats_are = o.seats_are; none = o.none; locals = λ f lc l w m. open_stays g _ v.versions refl (o.locals f lc l w m); has_lc = o.has_lc; answered = o.answered });
    asked = h.asked;
    values = h.values;
    versions = λ u m. (let f = h.versions u (was_there u m) in
        record {
          part = f.part;
          key = f.key;
          node = f.node;
          value = f.value;
          own = λ e. (let o = f.own e in record { place = o.place; owner = o.owner; seq = o.seq; owns = o.owns; lc = o.lc; is_lc = o.is_lc; write = o.write; written = o.written; key = o.key });
          foreign = f.foreign;
          hosted = f.hosted;
        });
    waiters = λ q i. waits q (h.waiters q i);
    below = record { floor = h.below.floor; marks = h.below.marks; versions = λ q m. h.below.versions q (was_there q m); own = h.below.own; waiters = h.below.waiters };
    marks = h.marks;
  }

  -- what a node keeps between steps it keeps where it prunes
  pub facts_pruned : NodeFacts here v → NodeFacts here (pruned g v)
  facts_pruned f = record { moment = moment_pruned f.moment; open_ = f.open_; ended = f.ended }
