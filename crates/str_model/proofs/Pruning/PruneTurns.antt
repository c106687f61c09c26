-- What a node decides is the same over a pruned list, for snapshots at or above the mark.
use Rattle.std.proofs.Common.{Bool, List, None, Option, Some, [], ap, arith, eq-eqb, eqb-true, false, filter, find, if◌then◌else◌, inl, inr, leb-true, map, max, nat_le, not, option_map, refl, subst, sym, true, ℕ, ◌&&◌, ◌++◌, ◌+◌, ◌||◌, ◌∙◌, ◌∷◌, ◌≡◌, ◌≤◌}
use Rattle.std.specs.List.{last_or, list_any}
use Rattle.std.proofs.lemmas.List.Folds.{find-append}
use Rattle.std.specs.Option.{option_or}
use Rattle.std.proofs.lemmas.Bool.{and_parts, le-ltb, not-true, or_cases, or_left, or_right}
use Rattle.dependency_set.specs.Snapshots.{Snap}
use Rattle.str_base.specs.declared.names.KeyId.{KeyId}
use Rattle.str_base.specs.declared.names.Kind.{Kind}
use Rattle.str_base.specs.declared.names.Kind.TheVariants.{Final, Local, Pre}
use Rattle.str_base.specs.declared.names.Version.{Version}
use Rattle.str_base.specs.declared.names.Write.{Write}
use Rattle.str_base.specs.Versions.{chain, finalise, insert_all, is_pre, is_undecided, last_pre, last_undecided, mark_of, same_key, settled, without}
use Rattle.str_scene.specs.Scenes.{Here}
use Rattle.str_model.specs.Pruning.{covers, hides, pruned, pruned_versions}
use Rattle.str_model.specs.Turns.{CertTurn, ReadTurn, ServeTurn, cert_after, cert_joined, cert_turn, conflicts, greatest, joined, joined_one, met, passed, read_after, read_turn, serve_after, serve_turn}
use Rattle.str_model.specs.Turns
use Rattle.str_model.specs.Views.{Own, View}
use Rattle.str_model.proofs.Pruning.PruneLists.{filter_pruned, newest_pruned, visible_pruned}
use Rattle.str_model.proofs.Pruning.PruneOrder.{InOrder, Kernel, PassesOpen, kernel_all, order_filter, pruned_without}
use Rattle.str_base.proofs.Members.{in_filter}
use Rattle.str_base.proofs.Order.{before_time}
use Rattle.str_base.specs.Members.{In}

-- ---- versions that become Final

filter_open : (g : ℕ) (test : Version → Bool) (vs : List Version) → PassesOpen test vs → filter test (pruned_versions g vs) ≡ filter test vs
filter_open g test [] h = refl
filter_open g test (v ∷ vs) h = by_hidden (hides g v vs) refl (filter_open g test vs (λ w k. h w (inr k)))
  where
    fails : hides g v vs ≡ true → (b : Bool) → test v ≡ b → filter test vs ≡ (if b then v ∷ filter test vs else filter test vs)
    fails k false e = refl
    fails k true e = absurd (cc (h v (inl refl) e, (and_parts (not (is_undecided v.kind)) (list_any (covers g v.key) vs) k).0))

    by_hidden : (b : Bool) → hides g v vs ≡ b → filter test (pruned_versions g vs) ≡ filter test vs
        → filter test (if b then pruned_versions g vs else v ∷ pruned_versions g vs) ≡ filter test (v ∷ vs)
    by_hidden true k rec = rec ∙ fails k (test v) refl
    by_hidden false k rec = rw rec refl

pub kernel_without : (g : ℕ) (test : Version → Bool) (xs ys : List Version) → PassesOpen test xs → PassesOpen test ys → Kernel g xs ys → Kernel g (without test xs) (without test ys)
kernel_without g test xs ys h i k = pruned_without g test xs h ∙ (ap (without test) k ∙ sym (pruned_without g test ys i))

pub kernel_filter : (g : ℕ) (test : Version → Bool) (xs ys : List Version) → PassesOpen test xs → PassesOpen test ys → Kernel g xs ys → filter test xs ≡ filter test ys
kernel_filter g test xs ys h i k = sym (filter_open g test xs h) ∙ (ap (filter test) k ∙ filter_open g test ys i)

pub kernel_finalise : (g : ℕ) (test : Version → Bool) (fc : ℕ) (xs ys : List Version) → InOrder xs → InOrder ys → PassesOpen test xs → PassesOpen test ys → Kernel g xs ys
    → Kernel g (finalise test fc xs) (finalise test fc ys)
kernel_finalise g test fc xs ys o p h i k =
    subst (λ (zs : List Version). Kernel g (insert_all (map (settled fc) (filter test xs)) (without test xs)) (insert_all (map (settled fc) zs) (without test ys))) (kernel_filter g test xs ys h i k)
    (kernel_all g (map (settled fc) (filter test xs)) (without test xs) (without test ys) (order_filter (λ v. not (test v)) xs o) (order_filter (λ v. not (test v)) ys p) (kernel_without g test xs ys h i k))

-- ---- chains

any_filter : (p q : Version → Bool) → ((w : Version) → p w ≡ true → q w ≡ true) → (vs : List Version) → list_any p (filter q vs) ≡ list_any p vs
any_filter p q h [] = refl
any_filter p q h (v ∷ vs) = by_test (q v) refl (p v) refl (any_filter p q h vs)
  where
    by_test : (b : Bool) → q v ≡ b → (c : Bool) → p v ≡ c → list_any p (filter q vs) ≡ list_any p vs → list_any p (if b then v ∷ filter q vs else filter q vs) ≡ (c || list_any p vs)
    by_test true e c f r = rw f (ap (λ z. c || z) r)
    by_test false e true f r = absurd (cc (h v f, e))
    by_test false e false f r = r

chain_pruned : (g : ℕ) (k : KeyId) (vs : List Version) → chain k (pruned_versions g vs) ≡ pruned_versions g (chain k vs)
chain_pruned g k [] = refl
chain_pruned g k (v ∷ vs) = by_key (same_key v.key k) refl (hides g v vs) refl (chain_pruned g k vs)
  where
    same : same_key v.key k ≡ true → hides g v (chain k vs) ≡ hides g v vs
    same s =
        ap (λ z. not (is_undecided v.kind) && z)
        (any_filter (covers g v.key) (λ w. same_key w.key k)
        (λ w c. (let a = and_parts (same_key w.key v.key) (nat_le w.ts.0 g) (and_parts (not (is_undecided w.kind)) (same_key w.key v.key && nat_le w.ts.0 g) c).1 in
        eq-eqb w.key.0 k.0 (eqb-true w.key.0 v.key.0 a.0 ∙ eqb-true v.key.0 k.0 s))) vs)

    by_key : (b : Bool) → same_key v.key k ≡ b → (c : Bool) → hides g v vs ≡ c → chain k (pruned_versions g vs) ≡ pruned_versions g (chain k vs)
        → chain k (if c then pruned_versions g vs else v ∷ pruned_versions g vs) ≡ pruned_versions g (if b then v ∷ chain k vs else chain k vs)
    by_key true s true c r = r ∙ sym (rw (same s ∙ c) refl)
    by_key true s false c r = rw (s, same s ∙ c) (ap (λ z. v ∷ z) r)
    by_key false s true c r = r
    by_key false s false c r = rw s r

-- ---- the first that passes

any_in : (p : Version → Bool) (vs : List Version) → list_any p vs ≡ true → (w : Version) × In w vs × (p w ≡ true)
any_in p [] e = absurd cc
any_in p (v ∷ vs) e = elim (or_cases (p v) (list_any p vs) e) [ inl a ↦ (v, inl refl, a) | inr b ↦ (let r = any_in p vs b in (r.0, inr r.1, r.2)) ]

-- a version that hides the first of a list in order
record Hider (g : ℕ) (v : Version) (vs : List Version) : Type 0 where
  by : Version
  among : In by vs
  final : is_undecided by.kind ≡ false
  key : by.key.0 ≡ v.key.0
  above : v.ts.0 ≤ by.ts.0
  low : by.ts.0 ≤ g

hider : (g : ℕ) (v : Version) (vs : List Version) → InOrder (v ∷ vs) → hides g v vs ≡ true → Hider g v vs
hider g v vs o h =
    let r = any_in (covers g v.key) vs (and_parts (not (is_undecided v.kind)) (list_any (covers g v.key) vs) h).1 in
    let a = and_parts (not (is_undecided r.0.kind)) (same_key r.0.key v.key && nat_le r.0.ts.0 g) r.2 in
    let b = and_parts (same_key r.0.key v.key) (nat_le r.0.ts.0 g) a.1 in
    let key : r.0.key.0 ≡ v.key.0 = eqb-true r.0.key.0 v.key.0 b.0 in
    record { by = r.0; among = r.1; final = not-true (is_undecided r.0.kind) a.0; key = key; above = before_time v r.0 (sym key) (o.0 r.0 r.1); low = leb-true r.0.ts.0 g b.1 }

-- a test that fails on all Final versions at or below the mark
pub find_low : (g : ℕ) (p : Version → Bool) → ((v : Version) → is_undecided v.kind ≡ false → v.ts.0 ≤ g → p v ≡ false) → (vs : List Version) → InOrder vs
    → find p (pruned_versions g vs) ≡ find p vs
find_low g p f [] o = refl
find_low g p f (v ∷ vs) o = by_hidden (hides g v vs) refl (find_low g p f vs o.1)
  where
    fails : hides g v vs ≡ true → p v ≡ false
    fails h =
        let r = hider g v vs o h in
        let le = r.above in let low = r.low in
        f v (not-true (is_undecided v.kind) (and_parts (not (is_undecided v.kind)) (list_any (covers g v.key) vs) h).0) (omega (arith, le, low))

    by_hidden : (b : Bool) → hides g v vs ≡ b → find p (pruned_versions g vs) ≡ find p vs → find p (if b then pruned_versions g vs else v ∷ pruned_versions g vs) ≡ find p (v ∷ vs)
    by_hidden true h r = r ∙ sym (rw (fails h) refl)
    by_hidden false h r = ap (λ z. if p v then Some v else z) r

-- over the chains of some keys
find_met : (p : Version → Bool) (ws : List Write) (xs ys : List Version) → ((k : KeyId) → find p (chain k xs) ≡ find p (chain k ys)) → find p (met ws xs) ≡ find p (met ws ys)
find_met p [] xs ys h = refl
find_met p (w ∷ ws) xs ys h =
    let e = find_met p ws xs ys h in
    find-append p (chain w.key xs) (met ws xs) ∙ ((λ j. option_or (h w.key j) (e j)) ∙ sym (find-append p (chain w.key ys) (met ws ys)))

pub find_met_low : (g : ℕ) (p : Version → Bool) → ((v : Version) → is_undecided v.kind ≡ false → v.ts.0 ≤ g → p v ≡ false) → (ws : List Write) (vs : List Version) → InOrder vs
    → find p (met ws (pruned_versions g vs)) ≡ find p (met ws vs)
find_met_low g p f ws vs o =
    find_met p ws (pruned_versions g vs) vs
    (λ k. ap (find p) (chain_pruned g k vs) ∙ find_low g p f (chain k vs) (order_filter (λ v. same_key v.key k) vs o))

-- ---- the key at which a test finds one

abbrev pub key_found : Option Version → Option KeyId
key_found o = option_map (λ v. v.key) o

-- the test passes with a Final version each later Final one
abbrev pub PassesUp : (Version → Bool) → Type 0
PassesUp p = (v w : Version) → is_undecided v.kind ≡ false → is_undecided w.kind ≡ false → v.ts.0 ≤ w.ts.0 → p v ≡ true → p w ≡ true

abbrev OfKey : KeyId → List Version → Type 0
OfKey k vs = (v : Version) → In v vs → v.key ≡ k

some_found : (p : Version → Bool) (k : KeyId) (vs : List Version) → OfKey k vs → list_any p vs ≡ true → key_found (find p vs) ≡ Some k
some_found p k [] h e = absurd cc
some_found p k (v ∷ vs) h e = by_test (p v) refl (λ f. some_found p k vs (λ w i. h w (inr i)) f)
  where
    by_test : (b : Bool) → p v ≡ b → (list_any p vs ≡ true → key_found (find p vs) ≡ Some k) → key_found (if b then Some v else find p vs) ≡ Some k
    by_test true f r = ap Some (h v (inl refl))
    by_test false f r = r (subst (λ b. (b || list_any p vs) ≡ true) f e)

in_any : (p : Version → Bool) (vs : List Version) (w : Version) → In w vs → p w ≡ true → list_any p vs ≡ true
in_any p (v ∷ vs) w (inl q) e = or_left (p v) (list_any p vs) (ap p q ∙ e)
in_any p (v ∷ vs) w (inr h) e = or_right (p v) (list_any p vs) (in_any p vs w h e)
in_any p [] w h e = absurd h

key_pruned : (g : ℕ) (p : Version → Bool) → PassesUp p → (k : KeyId) (vs : List Version) → OfKey k vs → InOrder vs → key_found (find p (pruned_versions g vs)) ≡ key_found (find p vs)
key_pruned g p up k [] h o = refl
key_pruned g p up k (v ∷ vs) h o = by_hidden (hides g v vs) refl (key_pruned g p up k vs (λ w i. h w (inr i)) o.1)
  where
    passed_on : hides g v vs ≡ true → (b : Bool) → p v ≡ b → key_found (find p vs) ≡ key_found (if b then Some v else find p vs)
    passed_on c false e = refl
    passed_on c true e =
        let r = hider g v vs o c in
        let final = not-true (is_undecided v.kind) (and_parts (not (is_undecided v.kind)) (list_any (covers g v.key) vs) c).0 in
        some_found p k vs (λ w i. h w (inr i)) (in_any p vs r.by r.among (up v r.by final r.final r.above e)) ∙ ap Some (sym (h v (inl refl)))

    by_hidden : (b : Bool) → hides g v vs ≡ b → key_found (find p (pruned_versions g vs)) ≡ key_found (find p vs)
        → key_found (find p (if b then pruned_versions g vs else v ∷ pruned_versions g vs)) ≡ key_found (find p (v ∷ vs))
    by_hidden true c r = r ∙ passed_on c (p v) refl
    by_hidden false c r = by_test (p v)
      where
        by_test : (b : Bool) → key_found (if b then Some v else find p (pruned_versions g vs)) ≡ key_found (if b then Some v else find p vs)
        by_test true = refl
        by_test false = r

chain_key : (k : KeyId) (vs : List Version) → OfKey k (chain k vs)
chain_key k vs v h = let e = eqb-true v.key.0 k.0 (in_filter (λ w. same_key w.key k) vs v h).1 in (λ j. record { 0 = e j })

or_found : (a b c d : Option Version) → key_found a ≡ key_found b → key_found c ≡ key_found d → key_found (option_or a c) ≡ key_found (option_or b d)
or_found None None c d e f = f
or_found None (Some y) c d e f = absurd (cc e)
or_found (Some x) None c d e f = absurd (cc e)
or_found (Some x) (Some y) c d e f = e

pub key_met_pruned : (g : ℕ) (p : Version → Bool) → PassesUp p → (ws : List Write) (vs : List Version) → InOrder vs → key_found (find p (met ws (pruned_versions g vs))) ≡ key_found (find p (met ws vs))
key_met_pruned g p up [] vs o = refl
key_met_pruned g p up (w ∷ ws) vs o =
    let here : key_found (find p (chain w.key (pruned_versions g vs))) ≡ key_found (find p (chain w.key vs)) =
    ap (λ c. key_found (find p c)) (chain_pruned g w.key vs) ∙ key_pruned g p up w.key (chain w.key vs) (chain_key w.key vs) (order_filter (λ v. same_key v.key w.key) vs o) in
    ap key_found (find-append p (chain w.key (pruned_versions g vs)) (met ws (pruned_versions g vs)))
    ∙ (or_found (find p (chain w.key (pruned_versions g vs))) (find p (chain w.key vs)) (find p (met ws (pruned_versions g vs))) (find p (met ws vs)) here (key_met_pruned g p up ws vs o)
    ∙ ap key_found (sym (find-append p (chain w.key vs) (met ws vs))))

-- ---- what a certification takes over

joined_final : (own : List Own) (v : Version) (kind : Kind) (snap : Snap) → is_undecided kind ≡ false → joined_one own v kind snap ≡ snap
joined_final own v Pre snap e = absurd cc
joined_final own v Local snap e = absurd cc
joined_final own v Final snap e = refl

joined_list : (g : ℕ) (own : List Own) (vs : List Version) (snap : Snap) → joined own (pruned_versions g vs) snap ≡ joined own vs snap
joined_list g own [] snap = refl
joined_list g own (v ∷ vs) snap = by_hidden (hides g v vs) refl (λ s. joined_list g own vs s)
  where
    by_hidden : (b : Bool) → hides g v vs ≡ b → ((s : Snap) → joined own (pruned_versions g vs) s ≡ joined own vs s)
        → joined own (if b then pruned_versions g vs else v ∷ pruned_versions g vs) snap ≡ joined own vs (joined_one own v v.kind snap)
    by_hidden true h r =
        r snap ∙ ap (joined own vs) (sym (joined_final own v v.kind snap (not-true (is_undecided v.kind) (and_parts (not (is_undecided v.kind)) (list_any (covers g v.key) vs) h).0)))
    by_hidden false h r = r (joined_one own v v.kind snap)

joined_append : (own : List Own) (xs ys : List Version) (snap : Snap) → joined own (xs ++ ys) snap ≡ joined own ys (joined own xs snap)
joined_append own [] ys snap = refl
joined_append own (x ∷ xs) ys snap = joined_append own xs ys (joined_one own x x.kind snap)

pub joined_pruned : (g : ℕ) (own : List Own) (ws : List Write) (vs : List Version) (snap : Snap) → joined own (met ws (pruned_versions g vs)) snap ≡ joined own (met ws vs) snap
joined_pruned g own [] vs snap = refl
joined_pruned g own (w ∷ ws) vs snap =
    joined_append own (chain w.key (pruned_versions g vs)) (met ws (pruned_versions g vs)) snap
    ∙ (joined_pruned g own ws vs (joined own (chain w.key (pruned_versions g vs)) snap)
    ∙ (ap (joined own (met ws vs)) (ap (λ c. joined own c snap) (chain_pruned g w.key vs) ∙ joined_list g own (chain w.key vs) snap)
    ∙ sym (joined_append own (chain w.key vs) (met ws vs) snap)))

-- ---- turns

pub passed_pruned : (g : ℕ) (view : View) (ws : List Write) → passed (pruned g view) ws ≡ passed view ws
passed_pruned g view ws = (λ j. greatest (map (λ w. max (mark_of view.marks w.key) (newest_pruned g view.versions w.key j)) ws))

pub pre_pruned : (g : ℕ) (vs : List Version) (k : KeyId) (r : ℕ) → last_pre (pruned_versions g vs) k r ≡ last_pre vs k r
pre_pruned g vs k r = ap (last_or None) (filter_pruned g (λ v. same_key v.key k && (nat_le v.ts.0 r && is_pre v.kind)) open_one vs)
  where
    pre_open : (kind : Kind) → is_pre kind ≡ true → is_undecided kind ≡ true
    pre_open Pre e = refl
    pre_open Local e = refl
    pre_open Final e = absurd cc

    open_one : (v : Version) → (same_key v.key k && (nat_le v.ts.0 r && is_pre v.kind)) ≡ true → is_undecided v.kind ≡ true
    open_one v e = pre_open v.kind (and_parts (nat_le v.ts.0 r) (is_pre v.kind) (and_parts (same_key v.key k) (nat_le v.ts.0 r && is_pre v.kind) e).1).1

pub undecided_pruned : (g : ℕ) (vs : List Version) (k : KeyId) (r : ℕ) → last_undecided (pruned_versions g vs) k r ≡ last_undecided vs k r
undecided_pruned g vs k r =
    ap (last_or None)
    (filter_pruned g (λ v. same_key v.key k && (nat_le v.ts.0 r && is_undecided v.kind))
    (λ v e. (and_parts (nat_le v.ts.0 r) (is_undecided v.kind) (and_parts (same_key v.key k) (nat_le v.ts.0 r && is_undecided v.kind) e).1).1) vs)

pub read_pruned : (here : Here) (g : ℕ) (view : View) (snap : Snap) (k : KeyId) → g ≤ snap.rs → read_turn here (pruned g view) snap k ≡ read_turn here view snap k
unfolding read_turn
read_pruned here g view snap k le =
    (λ j. read_after here (pruned g view) snap k (pre_pruned g view.versions k snap.rs j)) ∙ by_pre (last_pre view.versions k snap.rs)
  where
    by_pre : (o : Option Version) → read_after here (pruned g view) snap k o ≡ read_after here view snap k o
    by_pre (Some v) = refl
    by_pre None = (λ j. Turns.read_visible here view.own snap k (visible_pruned g view.versions k snap.rs le j))

-- a foreign read at or above the mark is served alike; below it waits alike
pub serve_pruned : (g : ℕ) (vs : List Version) (k : KeyId) (rs : ℕ) → g ≤ rs → serve_turn (pruned_versions g vs) k rs ≡ serve_turn vs k rs
unfolding serve_turn
serve_pruned g vs k rs le = (λ j. serve_after (pruned_versions g vs) k rs (undecided_pruned g vs k rs j)) ∙ by_open (last_undecided vs k rs)
  where
    by_open : (o : Option Version) → serve_after (pruned_versions g vs) k rs o ≡ serve_after vs k rs o
    by_open (Some v) = refl
    by_open None = (λ j. Turns.serve_visible (visible_pruned g vs k rs le j))

pub cert_pruned : (here : Here) (g : ℕ) (view : View) (snap : Snap) (ws : List Write) → InOrder view.versions → g ≤ snap.rs → cert_turn here (pruned g view) snap ws ≡ cert_turn here view snap ws
unfolding cert_turn
cert_pruned here g view snap ws o le =
    (λ j. cert_after here (pruned g view) snap ws (find_met_low g (conflicts snap.rs) none ws view.versions o j)) ∙ by_conflict (find (conflicts snap.rs) (met ws view.versions))
  where
    not_pre : (kind : Kind) → is_undecided kind ≡ false → is_pre kind ≡ false
    not_pre Pre e = absurd cc
    not_pre Local e = absurd cc
    not_pre Final e = refl

    none : (v : Version) → is_undecided v.kind ≡ false → v.ts.0 ≤ g → conflicts snap.rs v ≡ false
    none v f low = rw (not_pre v.kind f) (le-ltb snap.rs v.ts.0 (omega (arith, low, le)))

    by_conflict : (c : Option Version) → cert_after here (pruned g view) snap ws c ≡ cert_after here view snap ws c
    by_conflict (Some v) = refl
    by_conflict None =
        (λ j. cert_joined here (pruned g view) ws (joined_pruned g view.own ws view.versions snap j))
        ∙ (let s = joined view.own (met ws view.versions) snap in
        (λ j. if Rattle.dependency_set.specs.Snapshots.holds s then Turns.Certified (1 + max s.rs (passed_pruned g view ws j)) s else Turns.WaitGate (Turns.waits_for here (Rattle.dependency_set.specs.Snapshots.oldest s.deps))))
