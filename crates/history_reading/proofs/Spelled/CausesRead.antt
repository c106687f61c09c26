-- What is read of the causes of aborts.
use Rattle.std.proofs.Common.{List, None, Option, Some, [], ap, arith, inl, inr, refl, subst, sym, true, ℕ, ◌++◌, ◌∙◌, ◌∷◌, ◌≡◌, ◌⊎◌}
use Rattle.std.proofs.lemmas.List.{append_cancel_left}
use Rattle.std.specs.Option.{option_zip}
use Rattle.history_reading.proofs.AnswersApart.{conflict_parts, first_two, late_parts}
use Rattle.history_reading.proofs.WordsApart.{name_text-space}
use Rattle.history_reading.proofs.Spelled.Zips.{zip_none, zip_some}
use Rattle.history_reading.specs.HistoryLines.{ByConflict, ByLate, ByLost, ByWish, any_cause, conflict_text, late_text, name_text}
use Rattle.history_reading.specs.HistoryRanges.{IsCause, IsNamed, IsTime}
use Rattle.history_reading.specs.Parts.{Known, KnownItself, SpellsCause, SpellsConflict, SpellsKnownKey, SpellsLate, SpellsName, SpellsNoCause, SpellsNoConflict, SpellsNoLate, SpellsNoName, SpellsNode, SpellsTime}
use Rattle.scene_text.specs.LineReading.{is_without}
use Rattle.scene_text.specs.LineTexts.{key_text}
use Rattle.scene_text.specs.Numerals.{numeral}
use Rattle.scene_text.specs.SceneLines.{key_at}
use Rattle.str_base.specs.declared.names.Cause.{Cause}
use Rattle.str_base.specs.declared.names.Cause.TheVariants.{Conflict, Late, Lost, Wish}
use Rattle.str_base.specs.declared.names.KeyId.{KeyId}
use Rattle.str_base.specs.declared.names.NodeId.{NodeId}
use Rattle.str_base.specs.declared.names.PartId.{PartId}
use Rattle.str_base.specs.declared.names.Ts.{Ts}
use Rattle.str_base.specs.declared.names.TxId.{TxId}
use Rattle.str_scene.proofs.Without.{is_without-here, split_unique}
use Rattle.str_scene.specs.SceneLimits.{Exists, IsKeyOf, is_name}
use Rattle.str_scene.specs.Scenes.{Scene}

-- ---- conflicts

-- one word alone
pub conflict_one_word : (text : List ℕ) → is_without 32 text ≡ true → SpellsNoConflict text
conflict_one_word text w by k n f e =
    is_without-here 32 (name_text by) (key_text k.0 k.1 ++ 32 ∷ 97 ∷ 116 ∷ 61 ∷ numeral n.0) (subst (λ xs. is_without 32 xs ≡ true) e w)

-- two words that are no name and no key, or a third that is no node
pub conflict_no_word : (text a rest b c : List ℕ) → text ≡ a ++ 32 ∷ rest → is_without 32 a ≡ true → rest ≡ b ++ 32 ∷ c → is_without 32 b ≡ true →
    ((by : TxId) (k : List ℕ × PartId) (n : NodeId) → is_name k.0 ≡ true → a ≡ name_text by → b ≡ key_text k.0 k.1 → c ≡ 97 ∷ 116 ∷ 61 ∷ numeral n.0 → ⊥) → SpellsNoConflict text
conflict_no_word text a rest b c e f g h none by k n named t =
    let parts = conflict_parts text a rest b c by k n named e f g h t in
    none by k n named parts.0 parts.1 parts.2

-- two words
pub conflict_two_words : (text a rest : List ℕ) → text ≡ a ++ 32 ∷ rest → is_without 32 a ≡ true → is_without 32 rest ≡ true → SpellsNoConflict text
conflict_two_words text a rest e f w by k n named t =
    let late = late_like a rest (name_text by) (key_text k.0 k.1 ++ 32 ∷ 97 ∷ 116 ∷ 61 ∷ numeral n.0) f (name_text-space by) (sym e ∙ t) in
    is_without-here 32 (key_text k.0 k.1) (97 ∷ 116 ∷ 61 ∷ numeral n.0) (subst (λ xs. is_without 32 xs ≡ true) late w)
  where
    late_like : (xs ys us vs : List ℕ) → is_without 32 xs ≡ true → is_without 32 us ≡ true → xs ++ 32 ∷ ys ≡ us ++ 32 ∷ vs → ys ≡ vs
    late_like xs ys us vs p q r = (split_unique 32 xs ys us vs p q r).1

-- the words of a conflict
pub record ConflictWords (scene : Scene) (text a b d : List ℕ) : Type 0 where
  pub text_is : text ≡ a ++ 32 ∷ (b ++ 32 ∷ 97 ∷ 116 ∷ 61 ∷ d)

pub conflict_words : (scene : Scene) (text a rest b c d : List ℕ) → text ≡ a ++ 32 ∷ rest → rest ≡ b ++ 32 ∷ c → c ≡ 97 ∷ 116 ∷ 61 ∷ d → ConflictWords scene text a b d
conflict_words scene text a rest b c d e f g = record { text_is = e ∙ (ap (λ xs. a ++ 32 ∷ xs) f ∙ ap (λ xs. a ++ 32 ∷ (b ++ 32 ∷ xs)) g) }

conflict_text_is : (a b d : List ℕ) (by : TxId) (k : List ℕ × PartId) (n : NodeId) → a ≡ name_text by → b ≡ key_text k.0 k.1 → d ≡ numeral n.0 → a ++ 32 ∷ (b ++ 32 ∷ 97 ∷ 116 ∷ 61 ∷ d) ≡ conflict_text by k n
conflict_text_is a b d by k n e f g = λ i. e i ++ 32 ∷ (f i ++ 32 ∷ 97 ∷ 116 ∷ 61 ∷ g i)

-- all three are of the scene
pub conflict_read : (scene : Scene) (text a b d : List ℕ) (o : Option TxId) (p : Option KeyId) (q : Option NodeId) (by : TxId) (k : KeyId) (n : NodeId) → ConflictWords scene text a b d →
    option_zip (option_zip o p) q ≡ Some ((by, k), n) → SpellsName scene.nodes a o → SpellsKnownKey scene.keys b p → SpellsNode scene.nodes d q → SpellsConflict scene text (Some (Conflict by k n))
conflict_read scene text a b d o p q by k n w z s t u =
    let outer = zip_some (option_zip o p) q (by, k) n z in
    let inner = zip_some o p by k outer.0 in
    let name : SpellsName scene.nodes a (Some by) = subst (SpellsName scene.nodes a) inner.0 s in
    let key : SpellsKnownKey scene.keys b (Some k) = subst (SpellsKnownKey scene.keys b) inner.1 t in
    let node : SpellsNode scene.nodes d (Some n) = subst (SpellsNode scene.nodes d) outer.1 u in
    record {
      by = name.name;
      key = key.key;
      node = node.node;
      named = key.named;
      text_is = w.text_is ∙ conflict_text_is a b d name.name key.key node.node name.text_is key.text_is node.text_is;
      kept_is = ((name.kept_is.0, key.kept_is.0, node.kept_is.0), λ i. ByConflict (name.kept_is.1 i) (key.kept_is.1 i) (node.kept_is.1 i));
    }

-- one of them is not
pub conflict_lost : (scene : Scene) (text a b d : List ℕ) (o : Option TxId) (p : Option KeyId) (q : Option NodeId) → ConflictWords scene text a b d →
    option_zip (option_zip o p) q ≡ None → SpellsName scene.nodes a o → SpellsKnownKey scene.keys b p → SpellsNode scene.nodes d q → SpellsConflict scene text None
conflict_lost scene text a b d o p q w z s t u = record {
  by = s.name;
  key = t.key;
  node = u.node;
  named = t.named;
  text_is = w.text_is ∙ conflict_text_is a b d s.name t.key u.node s.text_is t.text_is u.text_is;
  kept_is = lost;
}
  where
    by_part : (x : TxId) (k : KeyId) (n : NodeId) → IsCause scene (Conflict x k n) → x ≡ s.name → key_at scene.keys k ≡ t.key → n ≡ u.node → (option_zip o p ≡ None) ⊎ (q ≡ None) → ⊥
    by_part x k n h e f g (inr none) = (subst (KnownItself (λ m. Exists m.0 scene.nodes) u.node) none u.kept_is) n h.2 g
    by_part x k n h e f g (inl none) = by (zip_none o p none)
      where
        by : (o ≡ None) ⊎ (p ≡ None) → ⊥
        by (inl a_none) = (subst (KnownItself (IsNamed scene.nodes) s.name) a_none s.kept_is) x h.0 e
        by (inr b_none) = (subst (Known (IsKeyOf scene.keys) (key_at scene.keys) t.key) b_none t.kept_is) k h.1 f

    lost : (x : Cause) → IsCause scene x → ¬ (any_cause scene.keys x ≡ ByConflict s.name t.key u.node)
    lost (Conflict x k n) h e =
        let first : x ≡ s.name = cc in
        let second : key_at scene.keys k ≡ t.key = cc in
        let third : n ≡ u.node = cc in
        by_part x k n h first second third (zip_none (option_zip o p) q z)
    lost (Lost x) h e = absurd (cc)
    lost (Late x fc) h e = absurd (cc)
    lost Wish h e = absurd (cc)

-- ---- dependencies that committed late

pub late_one_word : (text : List ℕ) → is_without 32 text ≡ true → SpellsNoLate text
late_one_word text w by fc e = is_without-here 32 (name_text by) (102 ∷ 99 ∷ 61 ∷ numeral fc.0) (subst (λ xs. is_without 32 xs ≡ true) e w)

pub late_no_word : (text a rest : List ℕ) → text ≡ a ++ 32 ∷ rest → is_without 32 a ≡ true → ((by : TxId) (fc : Ts) → a ≡ name_text by → rest ≡ 102 ∷ 99 ∷ 61 ∷ numeral fc.0 → ⊥) → SpellsNoLate text
late_no_word text a rest e f none by fc t = let parts = late_parts text a rest by fc e f t in none by fc parts.0 parts.1

late_text_is : (text a rest d : List ℕ) (by : TxId) (fc : Ts) → text ≡ a ++ 32 ∷ rest → rest ≡ 102 ∷ 99 ∷ 61 ∷ d → a ≡ name_text by → d ≡ numeral fc.0 → text ≡ late_text by fc
late_text_is text a rest d by fc e f g h = e ∙ (ap (λ xs. a ++ 32 ∷ xs) f ∙ (λ i. g i ++ 32 ∷ 102 ∷ 99 ∷ 61 ∷ h i))

pub late_read : (scene : Scene) (text a rest d : List ℕ) (o : Option TxId) (p : Option Ts) (by : TxId) (fc : Ts) → text ≡ a ++ 32 ∷ rest → rest ≡ 102 ∷ 99 ∷ 61 ∷ d → option_zip o p ≡ Some (by, fc) → SpellsName scene.nodes a o →
    SpellsTime d p → SpellsLate scene text (Some (Late by fc))
late_read scene text a rest d o p by fc e f z s t =
    let inner = zip_some o p by fc z in
    let name : SpellsName scene.nodes a (Some by) = subst (SpellsName scene.nodes a) inner.0 s in
    let time : SpellsTime d (Some fc) = subst (SpellsTime d) inner.1 t in
    record {
      by = name.name;
      fc = time.time;
      text_is = late_text_is text a rest d name.name time.time e f name.text_is time.text_is;
      kept_is = ((name.kept_is.0, time.kept_is.0), λ i. ByLate (name.kept_is.1 i) (time.kept_is.1 i));
    }

pub late_lost : (scene : Scene) (text a rest d : List ℕ) (o : Option TxId) (p : Option Ts) → text ≡ a ++ 32 ∷ rest → rest ≡ 102 ∷ 99 ∷ 61 ∷ d → option_zip o p ≡ None → SpellsName scene.nodes a o → SpellsTime d p → SpellsLate scene text None
late_lost scene text a rest d o p e f z s t = record {
  by = s.name;
  fc = t.time;
  text_is = late_text_is text a rest d s.name t.time e f s.text_is t.text_is;
  kept_is = lost;
}
  where
    by_part : (x : TxId) (fc : Ts) → IsCause scene (Late x fc) → x ≡ s.name → fc ≡ t.time → (o ≡ None) ⊎ (p ≡ None) → ⊥
    by_part x fc h g k (inl none) = (subst (KnownItself (IsNamed scene.nodes) s.name) none s.kept_is) x h.0 g
    by_part x fc h g k (inr none) = (subst (KnownItself IsTime t.time) none t.kept_is) fc h.1 k

    lost : (x : Cause) → IsCause scene x → ¬ (any_cause scene.keys x ≡ ByLate s.name t.time)
    lost (Late x fc) h q = let first : x ≡ s.name = cc in let second : fc ≡ t.time = cc in by_part x fc h first second (zip_none o p z)
    lost (Conflict x k n) h q = absurd (cc)
    lost (Lost x) h q = absurd (cc)
    lost Wish h q = absurd (cc)

-- ---- causes

pub wish_read : (scene : Scene) (text : List ℕ) → text ≡ 119 ∷ 105 ∷ 115 ∷ 104 ∷ [] → SpellsCause scene text (Some Wish)
wish_read scene text e = record { cause = ByWish; form = tt; text_is = e; kept_is = (tt, refl) }

abbrev conflict_word : List ℕ
conflict_word = 99 ∷ 111 ∷ 110 ∷ 102 ∷ 108 ∷ 105 ∷ 99 ∷ 116 ∷ 32 ∷ []

abbrev late_word : List ℕ
late_word = 108 ∷ 97 ∷ 116 ∷ 101 ∷ 32 ∷ []

abbrev lost_word : List ℕ
lost_word = 108 ∷ 111 ∷ 115 ∷ 116 ∷ 32 ∷ []

pub conflict_cause : (scene : Scene) (text rest : List ℕ) (kept : Option Cause) → text ≡ 99 ∷ 111 ∷ 110 ∷ 102 ∷ 108 ∷ 105 ∷ 99 ∷ 116 ∷ 32 ∷ rest → SpellsConflict scene rest kept → SpellsCause scene text kept
conflict_cause scene text rest kept e s = record { cause = ByConflict s.by s.key s.node; form = s.named; text_is = e ∙ ap (λ xs. conflict_word ++ xs) s.text_is; kept_is = s.kept_is }

pub no_conflict_cause : (text rest : List ℕ) → text ≡ 99 ∷ 111 ∷ 110 ∷ 102 ∷ 108 ∷ 105 ∷ 99 ∷ 116 ∷ 32 ∷ rest → SpellsNoConflict rest → SpellsNoCause text
no_conflict_cause text rest e n (ByConflict by k m) f t = n by k m f (append_cancel_left conflict_word _ _ (sym e ∙ t))
no_conflict_cause text rest e n _ f t = absurd (omega (arith, ap first_two (sym e ∙ t)))

pub late_cause : (scene : Scene) (text rest : List ℕ) (kept : Option Cause) → text ≡ 108 ∷ 97 ∷ 116 ∷ 101 ∷ 32 ∷ rest → SpellsLate scene rest kept → SpellsCause scene text kept
late_cause scene text rest kept e s = record { cause = ByLate s.by s.fc; form = tt; text_is = e ∙ ap (λ xs. late_word ++ xs) s.text_is; kept_is = s.kept_is }

pub no_late_cause : (text rest : List ℕ) → text ≡ 108 ∷ 97 ∷ 116 ∷ 101 ∷ 32 ∷ rest → SpellsNoLate rest → SpellsNoCause text
no_late_cause text rest e n (ByLate by fc) f t = n by fc (append_cancel_left late_word _ _ (sym e ∙ t))
no_late_cause text rest e n _ f t = absurd (omega (arith, ap first_two (sym e ∙ t)))

pub lost_read : (scene : Scene) (text rest : List ℕ) (o : Option TxId) (by : TxId) → text ≡ 108 ∷ 111 ∷ 115 ∷ 116 ∷ 32 ∷ rest → o ≡ Some by → SpellsName scene.nodes rest o → SpellsCause scene text (Some (Lost by))
lost_read scene text rest o by e z s =
    let name : SpellsName scene.nodes rest (Some by) = subst (SpellsName scene.nodes rest) z s in
    record { cause = ByLost name.name; form = tt; text_is = e ∙ ap (λ xs. lost_word ++ xs) name.text_is; kept_is = (name.kept_is.0, ap ByLost name.kept_is.1) }

pub lost_wide : (scene : Scene) (text rest : List ℕ) (o : Option TxId) → text ≡ 108 ∷ 111 ∷ 115 ∷ 116 ∷ 32 ∷ rest → o ≡ None → SpellsName scene.nodes rest o → SpellsCause scene text None
lost_wide scene text rest o e z s = record { cause = ByLost s.name; form = tt; text_is = e ∙ ap (λ xs. lost_word ++ xs) s.text_is; kept_is = wide }
  where
    wide : (x : Cause) → IsCause scene x → ¬ (any_cause scene.keys x ≡ ByLost s.name)
    wide (Lost x) h q = let same : x ≡ s.name = cc in (subst (KnownItself (IsNamed scene.nodes) s.name) z s.kept_is) x h same
    wide (Conflict x k n) h q = absurd (cc)
    wide (Late x fc) h q = absurd (cc)
    wide Wish h q = absurd (cc)

pub no_lost_cause : (text rest : List ℕ) → text ≡ 108 ∷ 111 ∷ 115 ∷ 116 ∷ 32 ∷ rest → SpellsNoName rest → SpellsNoCause text
no_lost_cause text rest e n (ByLost by) f t = n by (append_cancel_left lost_word _ _ (sym e ∙ t))
no_lost_cause text rest e n _ f t = absurd (omega (arith, ap first_two (sym e ∙ t)))

-- none of the four words
pub no_cause_word : (text : List ℕ) → ¬ (text ≡ 119 ∷ 105 ∷ 115 ∷ 104 ∷ []) → ((rest : List ℕ) → ¬ (text ≡ 99 ∷ 111 ∷ 110 ∷ 102 ∷ 108 ∷ 105 ∷ 99 ∷ 116 ∷ 32 ∷ rest)) →
    ((rest : List ℕ) → ¬ (text ≡ 108 ∷ 97 ∷ 116 ∷ 101 ∷ 32 ∷ rest)) → ((rest : List ℕ) → ¬ (text ≡ 108 ∷ 111 ∷ 115 ∷ 116 ∷ 32 ∷ rest)) → SpellsNoCause text
no_cause_word text w c l o (ByConflict by k n) f t = c _ t
no_cause_word text w c l o (ByLost by) f t = o _ t
no_cause_word text w c l o (ByLate by fc) f t = l _ t
no_cause_word text w c l o ByWish f t = w t
