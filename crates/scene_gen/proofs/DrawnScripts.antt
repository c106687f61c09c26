-- What is drawn: each transaction has one to three operations, each of a key and a number in range; each session stands at a node.
use Rattle.std.proofs.Common.{[], arith, ap, false, length, refl, suc, true, zero, ℕ, ◌%◌, ◌+◌, ◌-◌, ◌∷◌, ◌≡◌, ◌≤◌, nat_le}
use Rattle.std.proofs.lemmas.Bool.Decides.{nat_tests}
use Rattle.std.proofs.lemmas.Nat.{mod_below}
use Rattle.rand_pcg.specs.Lcg.{Lcg}
use Rattle.scene_gen.specs.Building.{IsDrawn}
use Rattle.scene_gen.specs.Drawn.{after_script, key_at, kind, nth, script_of}
use Rattle.scene_gen.specs.Made.{MadeSession, after_scripts, made_scripts, made_sessions, named}
use Rattle.str_scene.specs.Lists.{Each}
use Rattle.str_scene.specs.SceneLimits.{Exists, IsKey, in_name, is_name}

-- a session
pub record IsDrawnSession (s : MadeSession) : Type 0 where
  pub node : Exists s.node.0 3
  pub long : length s.drawn ≡ 25
  pub scripts : Each IsDrawn s.drawn

-- a digit may stand in a name
digit_in_name : (c : ℕ) → 48 ≤ c → c ≤ 57 → in_name c ≡ true
digit_in_name c l h =
    let low : nat_le 48 c ≡ true = grind (arith, nat_tests) in
    let high : nat_le c 57 ≡ true = grind (arith, nat_tests) in
    let below : nat_le 97 c ≡ false = grind (arith, nat_tests) in
    rw (low, high, below) refl

-- the letter k and a digit are a name
name_drawn : (c : ℕ) → 48 ≤ c → c ≤ 57 → is_name (107 ∷ c ∷ []) ≡ true
name_drawn c l h = rw (digit_in_name c l h) refl

-- a key
pub key_drawn : (n : ℕ) (g : Lcg) → IsKey 6 (named (key_at n g))
key_drawn n g =
    let digit = mod_below (nth (n + 1) g) 10 (omega arith) in
    let part = mod_below (nth n g) 6 (omega arith) in
    record { name = name_drawn (48 + nth (n + 1) g % 10) (omega arith) (omega arith); part = (omega arith, omega arith) }

-- a transaction of a kind
pub script_drawn : (k : ℕ) (g : Lcg) → IsDrawn (script_of k g)
script_drawn zero g = record {
  some = omega arith;
  few = omega arith;
  keys = (key_drawn 1 g, (key_drawn 3 g, (key_drawn 5 g, tt)));
  numbers = (tt, (tt, (tt, tt)));
}
script_drawn (suc zero) g = record {
  some = omega arith;
  few = omega arith;
  keys = (key_drawn 1 g, (key_drawn 3 g, tt));
  numbers = (omega arith, (omega arith, tt));
}
script_drawn (suc (suc zero)) g =
    let number = mod_below (nth 3 g) 100 (omega arith) in
    record {
      some = omega arith;
      few = omega arith;
      keys = (key_drawn 1 g, (key_drawn 4 g, tt));
      numbers = (omega arith, (tt, tt));
    }
script_drawn (suc (suc (suc k))) g = record {
  some = omega arith;
  few = omega arith;
  keys = (key_drawn 1 g, (key_drawn 1 g, tt));
  numbers = (tt, (omega arith, tt));
}

-- transactions
scripts_drawn : (n : ℕ) (g : Lcg) → Each IsDrawn (made_scripts n g)
unfolding made_scripts
scripts_drawn zero g = tt
scripts_drawn (suc n) g = (script_drawn (kind g) g, scripts_drawn n (after_script g))

-- how many there are
scripts_length : (n : ℕ) (g : Lcg) → length (made_scripts n g) ≡ n
unfolding made_scripts
scripts_length zero g = refl
scripts_length (suc n) g = ap suc (scripts_length n (after_script g))

-- sessions
pub sessions_drawn : (n s : ℕ) (g : Lcg) → Each IsDrawnSession (made_sessions n s g)
unfolding made_sessions
sessions_drawn zero s g = tt
sessions_drawn (suc n) s g =
    let node = mod_below (s - 1) 3 (omega arith) in
    (record { node = (omega arith, omega arith); long = scripts_length 25 g; scripts = scripts_drawn 25 g }, sessions_drawn n (s + 1) (after_scripts 25 g))

-- how many there are
pub sessions_length : (n s : ℕ) (g : Lcg) → length (made_sessions n s g) ≡ n
unfolding made_sessions
sessions_length zero s g = refl
sessions_length (suc n) s g = ap suc (sessions_length n (s + 1) (after_scripts 25 g))
