-- Stamps are few: in closed logs no stamp is greater than the number of all entries.
use Rattle.std.proofs.Common.{◌≡◌, ◌≤◌, ◌*◌, ◌∙◌, ◌∷◌, ◌⊎◌, ℕ, Bool, true, false, List, [], Some, ap, arith, flat_map, if◌then◌else◌, inl, inr, length, length-append, refl, slice_get, subst, suc, sym, zero}
use Rattle.lamport_log.proofs.Stamps.StampOrder.{entries_cut, in_order_in}
use Rattle.lamport_log.proofs.Stamps.StampsBounded.{stamps_bounded}
use Rattle.lamport_log.specs.Closed.{Closed}
use Rattle.lamport_log.specs.Logs.{Item, Log, items}
use Rattle.lamport_log.specs.Merge.{is_earlier, merge_of, put_in, stamp_ordered}
use Rattle.lamport_log.specs.declared.logs.LogEntry.{LogEntry}
use Rattle.race_round.specs.Seats.{last_stamp}
use Rattle.std.proofs.lemmas.List.{length-map}
use Rattle.std.proofs.lemmas.Option.{slice_get_within}
use Rattle.std.proofs.Math.Nat.{suc-mul}
use Rattle.str_base.proofs.Members.{at_in, in_at, in_left, in_map, in_right}
use Rattle.str_base.specs.Members.{In}

-- ---- how many entries are merged

put_one_more : (it : Item) (xs : List Item) → length (put_in it xs) ≡ suc (length xs)
put_one_more it [] = refl
put_one_more it (x ∷ xs) = by_test (is_earlier it x) (put_one_more it xs)
  where
    by_test : (b : Bool) → length (put_in it xs) ≡ suc (length xs) → length (if b then it ∷ x ∷ xs else x ∷ put_in it xs) ≡ suc (suc (length xs))
    by_test true rest = refl
    by_test false rest = ap suc rest

ordered_long : (its : List Item) → length (stamp_ordered its) ≡ length its
ordered_long [] = refl
ordered_long (it ∷ its) = put_one_more it (stamp_ordered its) ∙ ap suc (ordered_long its)

items_long : (l : Log) → length (items l) ≡ length l.entries
items_long l = sym (length-map (items l) (λ (it : Item). it.entry)) ∙ ap (λ (es : List LogEntry). length es) (entries_cut l.node l.entries l.messages l.released)

all_long : (most : ℕ) (logs : List Log) → ((i : ℕ) (l : Log) → slice_get logs i ≡ Some l → length l.entries ≤ most) → length (flat_map items logs) ≤ length logs * most
all_long most [] h = omega arith
all_long most (l ∷ logs) h =
    let rest = all_long most logs (λ i k e. h (suc i) k e) in
    let one = h zero l refl in
    omega (arith, rest, one, items_long l, length-append (items l) (flat_map items logs), suc-mul (length logs) most)

pub merged_long : (most : ℕ) (logs : List Log) → ((i : ℕ) (l : Log) → slice_get logs i ≡ Some l → length l.entries ≤ most) → length (merge_of logs) ≤ length logs * most
unfolding merge_of
merged_long most logs h = let a = all_long most logs h in omega (arith, a, ordered_long (flat_map items logs))

-- ---- the stamp of an entry

flat_map_in : {A B : Type 0} (f : A → List B) (xs : List A) (x : A) (y : B) → In x xs → In y (f x) → In y (flat_map f xs)
flat_map_in f [] x y h k = absurd h
flat_map_in f (z ∷ xs) x y (inl e) k = in_left (f z) (flat_map f xs) y (subst (λ w. In y (f w)) (sym e) k)
flat_map_in f (z ∷ xs) x y (inr h) k = in_right (f z) (flat_map f xs) y (flat_map_in f xs x y h k)

entry_merged : (logs : List Log) (i : ℕ) (log : Log) (e : LogEntry) → slice_get logs i ≡ Some log → In e log.entries → (it : Item) × (In it (merge_of logs)) × (it.entry ≡ e)
unfolding merge_of
entry_merged logs i log e q k =
    let r = in_map (λ (y : Item). y.entry) (items log) e (subst (λ es. In e es) (sym (entries_cut log.node log.entries log.messages log.released)) k) in
    (r.0, in_order_in (flat_map items logs) r.0 (flat_map_in items logs log r.0 (in_at logs i log q) r.1), r.2)

pub stamp_few : (logs : List Log) → Closed logs → (i : ℕ) (log : Log) (e : LogEntry) → slice_get logs i ≡ Some log → In e log.entries → e.stamp ≤ length (merge_of logs)
stamp_few logs closed i log e q k =
    let m = entry_merged logs i log e q k in
    let at = at_in (merge_of logs) m.0 m.1 in
    let least = stamps_bounded logs closed (suc at.0) m.0 at.1 in
    let within = slice_get_within (merge_of logs) at.0 m.0 at.1 in
    omega (arith, least, within, ap (λ (x : LogEntry). x.stamp) m.2)

-- the last stamp of entries is that of one of them, or the one before them
last_in : (b : ℕ) (es : List LogEntry) → (last_stamp b es ≡ b) ⊎ ((e : LogEntry) × (In e es) × (e.stamp ≡ last_stamp b es))
last_in b [] = inl refl
last_in b (e ∷ es) = elim (last_in e.stamp es) [
  | inl q ↦ inr (e, inl refl, sym q)
  | inr q ↦ inr (q.0, inr q.1, q.2)
]

pub last_few : (logs : List Log) → Closed logs → (i : ℕ) (log : Log) → slice_get logs i ≡ Some log → last_stamp 0 log.entries ≤ length (merge_of logs)
last_few logs closed i log q = elim (last_in 0 log.entries) [
  | inl z ↦ omega (arith, z)
  | inr h ↦ (let few = stamp_few logs closed i log h.0 q h.1 in let e = h.2 in omega (arith, few, e))
]
