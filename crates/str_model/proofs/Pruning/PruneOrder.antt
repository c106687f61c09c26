-- Lists of versions in order, and pruning around the changes of a list.
use Rattle.std.proofs.Common.{Bool, List, [], ap, arith, false, filter, if◌then◌else◌, inl, inr, map, nat_le, not, refl, sym, true, ℕ, ◌&&◌, ◌||◌, ◌∙◌, ◌∷◌, ◌≡◌, ◌≤◌, ◌⊎◌}
use Rattle.std.specs.List.{list_any}
use Rattle.str_base.specs.declared.names.Version.{Version}
use Rattle.str_base.specs.Versions.{finalise, insert_all, insert_version, is_before, is_undecided, same_key, settled, without}
use Rattle.str_model.specs.Pruning.{covers, hides, pruned_versions}
use Rattle.str_model.proofs.Pruning.PruneLists.{any_kept, any_later, pruned_again}
use Rattle.std.proofs.lemmas.Bool.{and_from, and_parts, or_right}
use Rattle.str_base.proofs.Members.{in_filter, in_insert}
use Rattle.str_base.proofs.Order.{before_mix, before_not, insert_first}
use Rattle.str_base.specs.Members.{In}

-- in order: none comes before one that stands earlier
abbrev pub InOrder : List Version → Type 0
InOrder [] = Unit {0}
InOrder (v ∷ vs) = ((w : Version) → In w vs → is_before w v ≡ false) × InOrder vs

-- the lists that are left of one in order are in order
pub order_filter : (test : Version → Bool) (vs : List Version) → InOrder vs → InOrder (filter test vs)
order_filter test [] o = tt
order_filter test (v ∷ vs) o = by_test (test v) (order_filter test vs o.1)
  where
    by_test : (b : Bool) → InOrder (filter test vs) → InOrder (if b then v ∷ filter test vs else filter test vs)
    by_test true r = (λ w h. o.0 w (in_filter test vs w h).0, r)
    by_test false r = r

pub order_insert : (v : Version) (vs : List Version) → InOrder vs → InOrder (insert_version v vs)
order_insert v [] o = (λ w h. absurd h, tt)
order_insert v (w ∷ ws) o = by_before (is_before v w) refl (order_insert v ws o.1)
  where
    after : is_before v w ≡ true → (x : Version) → In x (w ∷ ws) → is_before x v ≡ false
    after b x (inl q) = ap (λ z. is_before z v) (sym q) ∙ before_not v w b
    after b x (inr h) = before_not v x (before_mix v w x b (o.0 x h))

    among : is_before v w ≡ false → (x : Version) → (v ≡ x) ⊎ In x ws → is_before x w ≡ false
    among b x (inl q) = ap (λ z. is_before z w) (sym q) ∙ b
    among b x (inr h) = o.0 x h

    by_before : (b : Bool) → is_before v w ≡ b → InOrder (insert_version v ws) → InOrder (if b then v ∷ w ∷ ws else w ∷ insert_version v ws)
    by_before true e r = (after e, o)
    by_before false e r = (λ x h. among e x (in_insert v ws x h), r)

pub order_all : (ws vs : List Version) → InOrder vs → InOrder (insert_all ws vs)
order_all [] vs o = o
order_all (w ∷ ws) vs o = order_all ws (insert_version w vs) (order_insert w vs o)

pub order_finalise : (test : Version → Bool) (fc : ℕ) (vs : List Version) → InOrder vs → InOrder (finalise test fc vs)
order_finalise test fc vs o = order_all (map (settled fc) (filter test vs)) (without test vs) (order_filter (λ v. not (test v)) vs o)

pub in_pruned : (g : ℕ) (vs : List Version) (x : Version) → In x (pruned_versions g vs) → In x vs
in_pruned g [] x h = h
in_pruned g (v ∷ vs) x h = by_hidden (hides g v vs) (λ k. in_pruned g vs x k) h
  where
    by_hidden : (b : Bool) → (In x (pruned_versions g vs) → In x vs) → In x (if b then pruned_versions g vs else v ∷ pruned_versions g vs) → In x (v ∷ vs)
    by_hidden true r k = inr (r k)
    by_hidden false r (inl q) = inl q
    by_hidden false r (inr k) = inr (r k)

pub order_pruned : (g : ℕ) (vs : List Version) → InOrder vs → InOrder (pruned_versions g vs)
order_pruned g [] o = tt
order_pruned g (v ∷ vs) o = by_hidden (hides g v vs) (order_pruned g vs o.1)
  where
    by_hidden : (b : Bool) → InOrder (pruned_versions g vs) → InOrder (if b then pruned_versions g vs else v ∷ pruned_versions g vs)
    by_hidden true r = r
    by_hidden false r = (λ w h. o.0 w (in_pruned g vs w h), r)

-- ---- one more version

any_insert : (p : Version → Bool) (v : Version) (vs : List Version) → list_any p (insert_version v vs) ≡ (p v || list_any p vs)
any_insert p v [] = refl
any_insert p v (w ∷ ws) = by_before (is_before v w) (any_insert p v ws)
  where
    swap : (a b c : Bool) → (b || (a || c)) ≡ (a || (b || c))
    swap true true c = refl
    swap true false c = refl
    swap false true c = refl
    swap false false c = refl

    by_before : (b : Bool) → list_any p (insert_version v ws) ≡ (p v || list_any p ws) → list_any p (if b then v ∷ w ∷ ws else w ∷ insert_version v ws) ≡ (p v || (p w || list_any p ws))
    by_before true r = refl
    by_before false r = ap (λ z. p w || z) r ∙ swap (p v) (p w) (list_any p ws)

-- what follows may be pruned first
cons_again : (g : ℕ) (v : Version) (vs : List Version) → pruned_versions g (v ∷ pruned_versions g vs) ≡ pruned_versions g (v ∷ vs)
cons_again g v vs =
    let same : hides g v (pruned_versions g vs) ≡ hides g v vs = ap (λ z. not (is_undecided v.kind) && z) (any_kept g g v.key vs (omega arith)) in
    let again = pruned_again g g vs (omega arith) in
    (λ j. if same j then again j else v ∷ again j)

-- pruning before one more version comes, or only after, comes to the same
pub pruned_insert : (g : ℕ) (v : Version) (vs : List Version) → InOrder vs → pruned_versions g (insert_version v (pruned_versions g vs)) ≡ pruned_versions g (insert_version v vs)
pruned_insert g v [] o = refl
pruned_insert g v (w ∷ ws) o = by_hidden (hides g w ws) refl (is_before v w) refl (pruned_insert g v ws o.1)
  where
    le : g ≤ g
    le = omega arith

    before_rest : is_before v w ≡ true → (x : Version) → In x ws → is_before v x ≡ true
    before_rest e x h = before_mix v w x e (o.0 x h)

    hidden_first : hides g w ws ≡ true → pruned_versions g (v ∷ ws) ≡ pruned_versions g (v ∷ w ∷ ws)
    hidden_first h =
        let same : hides g v ws ≡ hides g v (w ∷ ws) = ap (λ z. not (is_undecided v.kind) && z) (any_later g g v.key w ws le h) in
        let rest : pruned_versions g ws ≡ pruned_versions g (w ∷ ws) = rw h refl in
        (λ j. if same j then rest j else v ∷ rest j)

    hidden_still : hides g w ws ≡ true → hides g w (insert_version v ws) ≡ true
    hidden_still h =
        let a = and_parts (not (is_undecided w.kind)) (list_any (covers g w.key) ws) h in
        and_from (not (is_undecided w.kind)) (list_any (covers g w.key) (insert_version v ws)) a.0 (any_insert (covers g w.key) v ws ∙ or_right (covers g w.key v) (list_any (covers g w.key) ws) a.1)

    hides_same : hides g w (insert_version v (pruned_versions g ws)) ≡ hides g w (insert_version v ws)
    hides_same =
        ap (λ z. not (is_undecided w.kind) && z)
        (any_insert (covers g w.key) v (pruned_versions g ws) ∙ (ap (λ z. covers g w.key v || z) (any_kept g g w.key ws le) ∙ sym (any_insert (covers g w.key) v ws)))

    by_hidden : (h : Bool) → hides g w ws ≡ h → (b : Bool) → is_before v w ≡ b
        → pruned_versions g (insert_version v (pruned_versions g ws)) ≡ pruned_versions g (insert_version v ws)
        → pruned_versions g (insert_version v (if h then pruned_versions g ws else w ∷ pruned_versions g ws)) ≡ pruned_versions g (if b then v ∷ w ∷ ws else w ∷ insert_version v ws)
    by_hidden true h true b r = r ∙ (ap (pruned_versions g) (insert_first v ws (before_rest b)) ∙ hidden_first h)
    by_hidden true h false b r = r ∙ sym (rw (hidden_still h) refl)
    by_hidden false h true b r =
        let rest : w ∷ pruned_versions g ws ≡ pruned_versions g (w ∷ ws) = rw h refl in
        let here : insert_version v (w ∷ pruned_versions g ws) ≡ v ∷ w ∷ pruned_versions g ws = rw b refl in
        ap (pruned_versions g) here ∙ (ap (λ z. pruned_versions g (v ∷ z)) rest ∙ cons_again g v (w ∷ ws))
    by_hidden false h false b r =
        let here : insert_version v (w ∷ pruned_versions g ws) ≡ w ∷ insert_version v (pruned_versions g ws) = rw b refl in
        ap (pruned_versions g) here ∙ (λ j. if hides_same j then r j else w ∷ r j)

-- lists that come to the same when they are pruned
abbrev pub Kernel : ℕ → List Version → List Version → Type 0
Kernel g xs ys = pruned_versions g xs ≡ pruned_versions g ys

pub kernel_insert : (g : ℕ) (v : Version) (xs ys : List Version) → InOrder xs → InOrder ys → Kernel g xs ys → Kernel g (insert_version v xs) (insert_version v ys)
kernel_insert g v xs ys o p k = sym (pruned_insert g v xs o) ∙ (ap (λ z. pruned_versions g (insert_version v z)) k ∙ pruned_insert g v ys p)

pub kernel_all : (g : ℕ) (ws xs ys : List Version) → InOrder xs → InOrder ys → Kernel g xs ys → Kernel g (insert_all ws xs) (insert_all ws ys)
kernel_all g [] xs ys o p k = k
kernel_all g (w ∷ ws) xs ys o p k =
    kernel_all g ws (insert_version w xs) (insert_version w ys) (order_insert w xs o) (order_insert w ys p) (kernel_insert g w xs ys o p k)

pub kernel_later : (g g' : ℕ) (xs ys : List Version) → g ≤ g' → Kernel g xs ys → Kernel g' xs ys
kernel_later g g' xs ys le k = sym (pruned_again g g' xs le) ∙ (ap (pruned_versions g') k ∙ pruned_again g g' ys le)

-- ---- versions that go, or become Final

-- the test passes no Final version of the list
abbrev pub PassesOpen : (Version → Bool) → List Version → Type 0
PassesOpen test vs = (v : Version) → In v vs → test v ≡ true → is_undecided v.kind ≡ true

-- a test that Final versions alone pass sees none go
any_open : (test : Version → Bool) (vs : List Version) → PassesOpen test vs → (p : Version → Bool) → ((w : Version) → p w ≡ true → not (is_undecided w.kind) ≡ true)
    → list_any p (without test vs) ≡ list_any p vs
any_open test [] h p f = refl
any_open test (v ∷ vs) h p f = by_test (test v) refl (p v) refl (any_open test vs (λ w k. h w (inr k)) p f)
  where
    by_test : (b : Bool) → test v ≡ b → (c : Bool) → p v ≡ c → list_any p (without test vs) ≡ list_any p vs
        → list_any p (if not b then v ∷ without test vs else without test vs) ≡ (c || list_any p vs)
    by_test true e true c r = absurd (cc (h v (inl refl) e, f v c))
    by_test true e false c r = r
    by_test false e b c r = rw c (ap (λ z. b || z) r)

pub pruned_without : (g : ℕ) (test : Version → Bool) (vs : List Version) → PassesOpen test vs → pruned_versions g (without test vs) ≡ without test (pruned_versions g vs)
pruned_without g test [] h = refl
pruned_without g test (v ∷ vs) h = by_test (test v) refl (hides g v vs) refl (pruned_without g test vs (λ w k. h w (inr k)))
  where
    any_without : (us : List Version) → PassesOpen test us → list_any (covers g v.key) (without test us) ≡ list_any (covers g v.key) us
    any_without us k = any_open test us k (covers g v.key) (λ w c. (and_parts (not (is_undecided w.kind)) (same_key w.key v.key && nat_le w.ts.0 g) c).0)

    by_test : (b : Bool) → test v ≡ b → (c : Bool) → hides g v vs ≡ c → pruned_versions g (without test vs) ≡ without test (pruned_versions g vs)
        → pruned_versions g (if not b then v ∷ without test vs else without test vs) ≡ without test (if c then pruned_versions g vs else v ∷ pruned_versions g vs)
    by_test true e true c r = r
    by_test true e false c r = r ∙ sym (rw e refl)
    by_test false e true c r =
        let same : hides g v (without test vs) ≡ true = ap (λ z. not (is_undecided v.kind) && z) (any_without vs (λ w k. h w (inr k))) ∙ c in rw same r
    by_test false e false c r =
        let same : hides g v (without test vs) ≡ false = ap (λ z. not (is_undecided v.kind) && z) (any_without vs (λ w k. h w (inr k))) ∙ c in rw (same, e) (ap (λ z. v ∷ z) r)
