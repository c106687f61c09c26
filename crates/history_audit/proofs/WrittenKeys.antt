-- The keys that a script writes where it comes to its end, whatever it reads.
use Rattle.std.proofs.Common.{Bool, List, None, Option, Some, [], ap, false, if◌then◌else◌, inl, inr, refl, subst, sym, true, ◌++◌, ◌∙◌, ◌∷◌, ◌≡◌, ◌||◌}
use Rattle.std.proofs.lemmas.Bool.{or_cases, or_left, or_right}
use Rattle.history_audit.specs.Tests.{is_key, is_written, is_written_in, share_key, written_key}
use Rattle.str_base.proofs.SameNames.{is-same_key, same_key-is}
use Rattle.str_base.specs.Values.{is_below, set_write, sum_with}
use Rattle.str_base.specs.Versions.{same_key}
use Rattle.str_base.specs.declared.names.KeyId.{KeyId}
use Rattle.str_base.specs.declared.names.Value.{Value}
use Rattle.str_base.specs.declared.names.Value.TheVariants.{Absent, Num, Text}
use Rattle.str_base.specs.declared.names.Write.{Write}
use Rattle.str_model.specs.Evaluation.{AtEnd, Unmet, eval, eval_from, value_at, with_write}
use Rattle.str_model.specs.Owned.{wrote_key}
use Rattle.str_model.specs.declared.names.Got.{Got}
use Rattle.str_scene.specs.declared.names.Op.{Op}
use Rattle.str_scene.specs.declared.names.Op.TheVariants.{Abort, Add, Del, Get, Need, Put, Puts}

or_swap : (a b c : Bool) → (a || (b || c)) ≡ (b || (a || c))
or_swap true true c = refl
or_swap true false c = refl
or_swap false true c = refl
or_swap false false c = refl

or_twice : (a b : Bool) → (a || b) ≡ (a || (a || b))
or_twice true b = refl
or_twice false b = refl

-- one more write writes its key
set_wrote : (w : Write) (ws : List Write) (k : KeyId) → wrote_key k (set_write w ws) ≡ (same_key w.key k || wrote_key k ws)
set_wrote w [] k = refl
set_wrote w (u ∷ us) k = by_test (same_key u.key w.key) refl (set_wrote w us k)
  where
    by_test : (b : Bool) → same_key u.key w.key ≡ b → wrote_key k (set_write w us) ≡ (same_key w.key k || wrote_key k us)
        → wrote_key k (if b then w ∷ us else u ∷ set_write w us) ≡ (same_key w.key k || (same_key u.key k || wrote_key k us))
    by_test true q rec =
        subst (λ (l : KeyId). (same_key w.key k || wrote_key k us) ≡ (same_key w.key k || (same_key l k || wrote_key k us))) (sym (same_key-is u.key w.key q))
        (or_twice (same_key w.key k) (wrote_key k us))
    by_test false q rec = ap (λ b. same_key u.key k || b) rec ∙ or_swap (same_key u.key k) (same_key w.key k) (wrote_key k us)

-- what is written before counts too
after_set : (w : Write) (ws : List Write) (k : KeyId) (rest : Bool) → (is : Bool) → is ≡ (wrote_key k (set_write w ws) || rest) → is ≡ (wrote_key k ws || (same_key w.key k || rest))
after_set w ws k rest is e = e ∙ (ap (λ b. b || rest) (set_wrote w ws k) ∙ three (same_key w.key k) (wrote_key k ws) rest)
  where
    three : (a b c : Bool) → ((a || b) || c) ≡ (b || (a || c))
    three true true c = refl
    three true false c = refl
    three false true c = refl
    three false false c = refl

written_from : (look : KeyId → Value) (ops : List Op) (ws : List Write) (gs : List Got) (k : KeyId) → (eval_from look ops ws gs).stop ≡ AtEnd
    → wrote_key k (eval_from look ops ws gs).writes ≡ (wrote_key k ws || is_written k ops)
written_from look [] ws gs k e = or_none_ (wrote_key k ws)
  where
    or_none_ : (a : Bool) → a ≡ (a || false)
    or_none_ true = refl
    or_none_ false = refl
written_from look (Get l ∷ ops) ws gs k e = written_from look ops ws (gs ++ record { key = l; value = value_at look ws l } ∷ []) k e
written_from look (Put l n ∷ ops) ws gs k e =
    after_set (record { key = l; value = Num n }) ws k (is_written k ops) _ (written_from look ops (with_write l (Num n) ws) gs k e)
written_from look (Puts l t ∷ ops) ws gs k e =
    after_set (record { key = l; value = Text t }) ws k (is_written k ops) _ (written_from look ops (with_write l (Text t) ws) gs k e)
written_from look (Add l n ∷ ops) ws gs k e =
    after_set (record { key = l; value = sum_with (value_at look ws l) n }) ws k (is_written k ops) _ (written_from look ops (with_write l (sum_with (value_at look ws l) n) ws) gs k e)
written_from look (Del l ∷ ops) ws gs k e =
    after_set (record { key = l; value = Absent }) ws k (is_written k ops) _ (written_from look ops (with_write l Absent ws) gs k e)
written_from look (Need l n ∷ ops) ws gs k e = by_test (λ f. written_from look ops ws gs k f) (is_below (value_at look ws l) n) e
  where
    by_test : ((eval_from look ops ws gs).stop ≡ AtEnd → wrote_key k (eval_from look ops ws gs).writes ≡ (wrote_key k ws || is_written k ops)) → (b : Bool) → (if b then record { gets = gs; writes = ws; stop = Unmet } else eval_from look ops ws gs).stop ≡ AtEnd
        → wrote_key k (if b then record { gets = gs; writes = ws; stop = Unmet } else eval_from look ops ws gs).writes ≡ (wrote_key k ws || is_written k ops)
    by_test rec true f = absurd (cc f)
    by_test rec false f = rec f
written_from look (Abort ∷ ops) ws gs k e = absurd (cc e)

-- the keys of a script that comes to its end
pub written_at_end : (look : KeyId → Value) (ops : List Op) (k : KeyId) → (eval ops look).stop ≡ AtEnd → wrote_key k (eval ops look).writes ≡ is_written k ops
written_at_end look ops k e = written_from look ops [] [] k e

-- ---- keys of two scripts

in_both : (ops : List Op) (others : List Op) (k : KeyId) → is_written k ops ≡ true → is_written k others ≡ true → share_key ops others ≡ true
in_both [] others k e f = absurd (cc e)
in_both (op ∷ ops) others k e f = elim (or_cases (is_key k (written_key op)) (is_written k ops) e) [
  | inl h ↦ or_left (is_written_in others (written_key op)) (share_key ops others) (by_key (written_key op) h)
  | inr h ↦ or_right (is_written_in others (written_key op)) (share_key ops others) (in_both ops others k h f)
]
  where
    by_key : (o : Option KeyId) → is_key k o ≡ true → is_written_in others o ≡ true
    by_key None h = absurd (cc h)
    by_key (Some l) h = subst (λ (z : KeyId). is_written z others ≡ true) (sym (same_key-is l k h)) f

-- scripts that share no key write no key both
pub none_shared : (ops others : List Op) (k : KeyId) → share_key ops others ≡ false → is_written k ops ≡ true → is_written k others ≡ true → ⊥
none_shared ops others k e f g = let h : share_key ops others ≡ true = in_both ops others k f g in cc (e, h)

-- scripts that share a key write one both
pub one_shared : (ops others : List Op) → share_key ops others ≡ true → (k : KeyId) × (is_written k ops ≡ true) × (is_written k others ≡ true)
one_shared [] others e = absurd (cc e)
one_shared (op ∷ ops) others e = elim (or_cases (is_written_in others (written_key op)) (share_key ops others) e) [
  | inl h ↦ by_key (written_key op) refl h
  | inr h ↦ (let r = one_shared ops others h in (r.0, or_right (is_key r.0 (written_key op)) (is_written r.0 ops) r.1, r.2))
]
  where
    by_key : (o : Option KeyId) → written_key op ≡ o → is_written_in others o ≡ true → (k : KeyId) × (is_written k (op ∷ ops) ≡ true) × (is_written k others ≡ true)
    by_key None q h = absurd (cc h)
    by_key (Some l) q h = (l, or_left (is_key l (written_key op)) (is_written l ops) (ap (is_key l) q ∙ is-same_key l l refl), h)
