-- What is read of names, places and timestamps.
use Rattle.str_model.proofs.ListFacts.{nth_sum}
use Rattle.std.proofs.Common.{List, None, Option, Some, [], ap, arith, length, refl, subst, sym, true, ℕ, suc, zero, ◌++◌, ◌<◌, ◌^◌, ◌∙◌, ◌∷◌, ◌≡◌, ◌≤◌}
use Rattle.std.proofs.lemmas.List.{append_cancel_left}
use Rattle.std.proofs.lemmas.Option.{none-some, same_Some, slice_get_within}
use Rattle.std.specs.List.{sum_by}
use Rattle.std.specs.Option.{SomeIff, option_zip}
use Rattle.history_reading.proofs.WordsApart.{name_parts, place_parts}
use Rattle.history_reading.specs.HistoryRanges.{IsFinal, IsNamed, IsPlaced, IsTime}
use Rattle.history_reading.specs.Parts.{KnownItself, SpellsFinal, SpellsName, SpellsNoFinal, SpellsNode, SpellsNoName, SpellsNoPlace, SpellsPlace, SpellsTime, name_of, place_of}
use Rattle.scene_text.specs.LineReading.{Spells, SpellsNone, is_without}
use Rattle.scene_text.specs.Numerals.{numeral}
use Rattle.str_base.specs.declared.names.Ts.{Ts}
use Rattle.str_base.specs.declared.names.TxId.{TxId}
use Rattle.str_scene.proofs.Without.{is_without-here}
use Rattle.str_scene.specs.Scenes.{Session, nth}
use Rattle.str_scene.specs.declared.names.TxPlace.{TxPlace}

-- ---- what is kept

-- the one that is kept where it is in range
pub known_iff : {X : Type 0} (P : X → Type 0) (y : X) (kept : Option X) → SomeIff kept (P y) y → KnownItself P y kept
known_iff P y None h = λ x p e. h (subst P e p)
known_iff P y (Some x) h = (subst P (sym h.1) h.0, h.1)

-- a number that is kept is the one
pub kept_number : (limit : ℕ) (text : List ℕ) (n : ℕ) (o : Option ℕ) → o ≡ Some n → Spells limit text o → (text ≡ numeral n) × (n < limit)
kept_number limit text n None e s = absurd (none-some _ e)
kept_number limit text n (Some m) e s =
    let same : m ≡ n = same_Some _ _ e in
    let number : s.number ≡ n = sym s.kept_is.1 ∙ same in
    (s.text_is ∙ ap numeral number, subst (λ k. k < limit) number s.kept_is.0)

-- and one that is not is too great
pub lost_number : (limit : ℕ) (text : List ℕ) (o : Option ℕ) → o ≡ None → Spells limit text o → (n : ℕ) × (text ≡ numeral n) × (limit ≤ n)
lost_number limit text None e s = (s.number, s.text_is, omega (arith, s.kept_is))
lost_number limit text (Some m) e s = absurd (none-some _ (sym e))

-- both of two, or one is too great
pub zip_kept : (l m : ℕ) (a b : List ℕ) (o p : Option ℕ) (q : ℕ × ℕ) → option_zip o p ≡ Some q → Spells l a o → Spells m b p → (a ≡ numeral q.0) × (b ≡ numeral q.1)
zip_kept l m a b None p q e s t = absurd (none-some _ e)
zip_kept l m a b (Some x) None q e s t = absurd (none-some _ e)
zip_kept l m a b (Some x) (Some y) q e s t =
    let same : ◌≡◌ {A = ℕ × ℕ} (x, y) q = same_Some _ _ e in
    (s.text_is ∙ ap numeral (sym s.kept_is.1 ∙ ap (λ z. z.0) same), t.text_is ∙ ap numeral (sym t.kept_is.1 ∙ ap (λ z. z.1) same))

-- two numbers of which one is too great
pub record Apart (l m : ℕ) (a b : List ℕ) : Type 0 where
  pub first : ℕ
  pub second : ℕ
  pub a_is : a ≡ numeral first
  pub b_is : b ≡ numeral second
  pub great : first < l → second < m → ⊥

pub zip_lost : (l m : ℕ) (a b : List ℕ) (o p : Option ℕ) → option_zip o p ≡ None → Spells l a o → Spells m b p → Apart l m a b
zip_lost l m a b None p e s t = record { first = s.number; second = t.number; a_is = s.text_is; b_is = t.text_is; great = λ x y. s.kept_is x }
zip_lost l m a b (Some x) None e s t = record { first = s.number; second = t.number; a_is = s.text_is; b_is = t.text_is; great = λ x y. t.kept_is y }
zip_lost l m a b (Some x) (Some y) e s t = absurd (none-some _ (sym e))

-- ---- names

pub no_name_dot : (text : List ℕ) → is_without 46 text ≡ true → SpellsNoName text
no_name_dot text w t e = is_without-here 46 (numeral t.node.0) (numeral t.seq) (subst (λ xs. is_without 46 xs ≡ true) e w)

pub no_name_first : (text a b : List ℕ) → text ≡ a ++ 46 ∷ b → is_without 46 a ≡ true → SpellsNone a → SpellsNoName text
no_name_first text a b e f n t h = n t.node.0 (name_parts text a b t e f h).0

pub no_name_second : (text a b : List ℕ) → text ≡ a ++ 46 ∷ b → is_without 46 a ≡ true → SpellsNone b → SpellsNoName text
no_name_second text a b e f n t h = n t.seq (name_parts text a b t e f h).1

pub name_read : (nodes : ℕ) (text a b : List ℕ) (o p : Option ℕ) (q : ℕ × ℕ) (kept : Option TxId) → text ≡ a ++ 46 ∷ b → option_zip o p ≡ Some q → Spells 256 a o → Spells (2 ^ 64) b p →
    SomeIff kept (IsNamed nodes (name_of q.0 q.1)) (name_of q.0 q.1) → SpellsName nodes text kept
name_read nodes text a b o p q kept e z s t k =
    let h = zip_kept 256 (2 ^ 64) a b o p q z s t in
    record { name = name_of q.0 q.1; text_is = e ∙ (λ i. h.0 i ++ 46 ∷ h.1 i); kept_is = known_iff (IsNamed nodes) (name_of q.0 q.1) kept k }

pub name_wide : (nodes : ℕ) (text a b : List ℕ) (o p : Option ℕ) → nodes < 256 → text ≡ a ++ 46 ∷ b → option_zip o p ≡ None → Spells 256 a o → Spells (2 ^ 64) b p → SpellsName nodes text None
name_wide nodes text a b o p small e z s t =
    let h = zip_lost 256 (2 ^ 64) a b o p z s t in
    record {
      name = name_of h.first h.second;
      text_is = e ∙ (λ i. h.a_is i ++ 46 ∷ h.b_is i);
      kept_is = λ x k same. h.great (omega (arith, k.node, ap (λ y. y.node.0) same, small)) (omega (arith, k.last, ap (λ y. y.seq) same));
    }

-- ---- timestamps

pub time_read : (text : List ℕ) (o : Option ℕ) (n : ℕ) → o ≡ Some n → Spells (2 ^ 64) text o → n < 2 ^ 63 → SpellsTime text (Some (record { 0 = n }))
time_read text o n e s l = record { time = record { 0 = n }; text_is = (kept_number (2 ^ 64) text n o e s).0; kept_is = (l, refl) }

pub time_wide : (text : List ℕ) (o : Option ℕ) (n : ℕ) → o ≡ Some n → Spells (2 ^ 64) text o → 2 ^ 63 ≤ n → SpellsTime text None
time_wide text o n e s l = record {
  time = record { 0 = n };
  text_is = (kept_number (2 ^ 64) text n o e s).0;
  kept_is = λ x k same. omega (arith, k, ap (λ y. y.0) same, l);
}

pub time_lost : (text : List ℕ) (o : Option ℕ) → o ≡ None → Spells (2 ^ 64) text o → SpellsTime text None
time_lost text o e s =
    let h = lost_number (2 ^ 64) text o e s in
    record { time = record { 0 = h.0 }; text_is = h.1; kept_is = λ x k same. omega (arith, k, ap (λ y. y.0) same, h.2) }

pub final_none : (text : List ℕ) → text ≡ 45 ∷ [] → SpellsFinal text (Some None)
final_none text e = record { fc = None; text_is = e; kept_is = (tt, refl) }

pub final_read : (text : List ℕ) (o : Option Ts) (t : Ts) → o ≡ Some t → SpellsTime text o → SpellsFinal text (Some (Some t))
final_read text None t e s = absurd (none-some _ e)
final_read text (Some u) t e s =
    let same : u ≡ t = same_Some _ _ e in
    record { fc = Some s.time; text_is = s.text_is; kept_is = (subst IsTime same s.kept_is.0, ap Some (sym same ∙ s.kept_is.1)) }

pub final_wide : (text : List ℕ) (o : Option Ts) → o ≡ None → SpellsTime text o → SpellsFinal text None
final_wide text None e s = record { fc = Some s.time; text_is = s.text_is; kept_is = wide }
  where
    wide : (x : Option Ts) → IsFinal x → ¬ (x ≡ Some s.time)
    wide None k same = none-some _ same
    wide (Some x) k same = s.kept_is x k (same_Some _ _ same)
final_wide text (Some u) e s = absurd (none-some _ (sym e))

pub no_final : (text : List ℕ) → ¬ (text ≡ 45 ∷ []) → SpellsNone text → SpellsNoFinal text
no_final text minus none None e = minus e
no_final text minus none (Some fc) e = none fc.0 e

-- ---- nodes

pub node_read : (nodes : ℕ) (text : List ℕ) (o : Option ℕ) (n : ℕ) → o ≡ Some n → Spells 256 text o → 1 ≤ n → n ≤ nodes → SpellsNode nodes text (Some (record { 0 = n }))
node_read nodes text o n e s first last = record { node = record { 0 = n }; text_is = (kept_number 256 text n o e s).0; kept_is = ((first, last), refl) }

pub node_wide : (nodes : ℕ) (text : List ℕ) (o : Option ℕ) (n : ℕ) → o ≡ Some n → Spells 256 text o → (1 ≤ n → n ≤ nodes → ⊥) → SpellsNode nodes text None
node_wide nodes text o n e s wide = record {
  node = record { 0 = n };
  text_is = (kept_number 256 text n o e s).0;
  kept_is = λ x k same. wide (omega (arith, k, ap (λ y. y.0) same)) (omega (arith, k, ap (λ y. y.0) same));
}

pub node_lost : (nodes : ℕ) (text : List ℕ) (o : Option ℕ) → o ≡ None → nodes < 256 → Spells 256 text o → SpellsNode nodes text None
node_lost nodes text o e small s =
    let h = lost_number 256 text o e s in
    record { node = record { 0 = h.0 }; text_is = h.1; kept_is = λ x k same. omega (arith, k, ap (λ y. y.0) same, h.2, small) }

-- ---- places

nth_within : {X : Type 0} (xs : List X) (k : ℕ) (x : X) → nth xs k ≡ Some x → k ≤ length xs
nth_within xs zero x e = omega arith
nth_within xs (suc i) x e = let there : i < length xs = slice_get_within xs i x e in omega arith

-- a place of a scene is small
pub placed_within : (sessions : List Session) (p : TxPlace) → IsPlaced sessions p → (p.session.0 ≤ length sessions) × (p.index ≤ sum_by (λ s. length s.txs) sessions)
placed_within sessions p h =
    let sum = nth_sum (λ s. length s.txs) sessions p.session.0 h.text h.session in
    (nth_within sessions p.session.0 h.text h.session, omega (arith, h.index.1, sum))

-- a transaction of a scene has a small number
pub index_small : (sessions : List Session) (k : ℕ) (s : Session) (n : ℕ) → sum_by (λ s. length s.txs) sessions ≤ 1024 → nth sessions k ≡ Some s → n ≤ length s.txs → n < 2 ^ 32
index_small sessions k s n few e l = let sum = nth_sum (λ (z : Session). length z.txs) sessions k s e in omega (arith, sum, few, l)

pub no_place_s : (text : List ℕ) → ((rest : List ℕ) → ¬ (text ≡ 115 ∷ rest)) → SpellsNoPlace text
no_place_s text none p e = none _ e

pub no_place_slash : (text rest : List ℕ) → text ≡ 115 ∷ rest → is_without 47 rest ≡ true → SpellsNoPlace text
no_place_slash text rest e w p f =
    let same : rest ≡ numeral p.session.0 ++ 47 ∷ numeral p.index = append_cancel_left (115 ∷ []) _ _ (sym e ∙ f) in
    is_without-here 47 (numeral p.session.0) (numeral p.index) (subst (λ xs. is_without 47 xs ≡ true) same w)

pub no_place_first : (text rest a b : List ℕ) → text ≡ 115 ∷ rest → rest ≡ a ++ 47 ∷ b → is_without 47 a ≡ true → SpellsNone a → SpellsNoPlace text
no_place_first text rest a b e f w n p h = n p.session.0 (place_parts text rest a b p e f w h).0

pub no_place_second : (text rest a b : List ℕ) → text ≡ 115 ∷ rest → rest ≡ a ++ 47 ∷ b → is_without 47 a ≡ true → SpellsNone b → SpellsNoPlace text
no_place_second text rest a b e f w n p h = n p.index (place_parts text rest a b p e f w h).1

pub place_read : (sessions : List Session) (text rest a b : List ℕ) (o p : Option ℕ) (q : ℕ × ℕ) (kept : Option TxPlace) → text ≡ 115 ∷ rest → rest ≡ a ++ 47 ∷ b → option_zip o p ≡ Some q → Spells 256 a o → Spells (2 ^ 64) b p →
    SomeIff kept (IsPlaced sessions (place_of q.0 q.1)) (place_of q.0 q.1) → SpellsPlace sessions text kept
place_read sessions text rest a b o p q kept e f z s t k =
    let h = zip_kept 256 (2 ^ 64) a b o p q z s t in
    record { place = place_of q.0 q.1; text_is = e ∙ (ap (λ xs. 115 ∷ xs) f ∙ (λ i. 115 ∷ (h.0 i ++ 47 ∷ h.1 i))); kept_is = known_iff (IsPlaced sessions) (place_of q.0 q.1) kept k }

pub place_wide : (sessions : List Session) (text rest a b : List ℕ) (o p : Option ℕ) → length sessions < 256 → sum_by (λ s. length s.txs) sessions < 2 ^ 64 → text ≡ 115 ∷ rest → rest ≡ a ++ 47 ∷ b → option_zip o p ≡ None → Spells 256 a o →
    Spells (2 ^ 64) b p → SpellsPlace sessions text None
place_wide sessions text rest a b o p few small e f z s t =
    let h = zip_lost 256 (2 ^ 64) a b o p z s t in
    record {
      place = place_of h.first h.second;
      text_is = e ∙ (ap (λ xs. 115 ∷ xs) f ∙ (λ i. 115 ∷ (h.a_is i ++ 47 ∷ h.b_is i)));
      kept_is = λ x k same. (let w = placed_within sessions x k in
          h.great (omega (arith, w.0, ap (λ y. y.session.0) same, few)) (omega (arith, w.1, ap (λ y. y.index) same, small)));
    }
