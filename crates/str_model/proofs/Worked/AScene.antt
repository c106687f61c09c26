-- The premise of the laws is met: a worked scene is a scene.
use Rattle.std.proofs.Common.{List, Some, [], arith, inr, length, pos, refl, slice_get, subst, suc, zero, ℕ, ◌∷◌, ◌≡◌, ◌≤◌}
use Rattle.std.proofs.lemmas.List.Sums.{count_by-le-length}
use Rattle.std.specs.Prelude.{codes}
use Rattle.str_base.specs.declared.names.NodeId.{NodeId}
use Rattle.str_scene.specs.declared.names.Op.{Op}
use Rattle.str_scene.specs.SceneLimits.{Exists, IsByteText, IsEvent, IsKey, IsOp, IsRow, IsScene, IsScript, IsSession}
use Rattle.str_scene.specs.Scenes.{KeyTable, Session}
use Rattle.str_base.specs.Versions.{same_node}
use Rattle.str_model.proofs.Worked.Commits.ByteValues.{byte_values}
use Rattle.str_model.proofs.Worked.Words.{add, c, get, key, node, puts, session, words}

at_none : {A : Type 0} (P : A → Type 0) (xs : List A) → xs ≡ [] → (i : ℕ) (y : A) → slice_get xs i ≡ Some y → P y
at_none P [] q i y e = absurd (cc e)
at_none P (x ∷ xs) q i y e = absurd (cc q)

at_more : {A : Type 0} (P : A → Type 0) (x : A) (xs : List A) → P x → ((i : ℕ) (y : A) → slice_get xs i ≡ Some y → P y)
    → (i : ℕ) (y : A) → slice_get (x ∷ xs) i ≡ Some y → P y
at_more P x xs p f zero y e = let same : x ≡ y = cc e in subst P same p
at_more P x xs p f (suc i) y e = f i y e

at_one : {A : Type 0} (P : A → Type 0) (x : A) → P x → (i : ℕ) (y : A) → slice_get (x ∷ []) i ≡ Some y → P y
at_one P x p = at_more P x [] p (at_none P [] refl)

one_place : {A : Type 0} (x : A) (i j : ℕ) (y : A) → slice_get (x ∷ []) i ≡ Some y → slice_get (x ∷ []) j ≡ Some y → i ≡ j
one_place x zero zero y e f = refl
one_place x zero (suc j) y e f = absurd (cc f)
one_place x (suc i) j y e f = absurd (cc e)

script_ok : (table : KeyTable) (ops : List Op) → 1 ≤ length ops → length ops ≤ 16 → ((i : ℕ) (op : Op) → slice_get ops i ≡ Some op → IsOp 2 table op) → IsScript 2 table ops
script_ok table ops a b f = record { some = a; few = b; ops = f }

table : KeyTable
unfolding words
table = record { names = key (codes "a") 1 ∷ []; texts = (104 ∷ 105 ∷ []) ∷ [] }

first_ok : IsScript 2 table (puts 0 0 ∷ [])
unfolding table words
first_ok = script_ok table (puts 0 0 ∷ []) (omega arith) (omega arith) (at_one (IsOp 2 table) (puts 0 0) (omega arith, omega arith, refl))

second_ok : IsScript 2 table (get 0 ∷ add 0 (pos 3) ∷ get 0 ∷ [])
unfolding table words
second_ok =
    script_ok table (get 0 ∷ add 0 (pos 3) ∷ get 0 ∷ []) (omega arith) (omega arith)
    (at_more (IsOp 2 table) (get 0) (add 0 (pos 3) ∷ get 0 ∷ []) (omega arith)
    (at_more (IsOp 2 table) (add 0 (pos 3)) (get 0 ∷ []) (omega arith, omega arith) (at_one (IsOp 2 table) (get 0) (omega arith))))

pub is_scene : IsScene byte_values
unfolding byte_values words table
is_scene = record {
  version = inr refl;
  nodes = (omega arith, omega arith);
  parts = (omega arith, omega arith);
  rows = at_one (IsRow 1) (node 1 ∷ []) (record {
    some = omega arith;
    few = omega arith;
    exist = at_one (λ (n : NodeId). Exists n.0 1) (node 1) (omega arith, omega arith);
    distinct = one_place (node 1);
  });
  table = record {
    keys = at_one (IsKey 1) (key (codes "a") 1) (record { name = refl; part = (omega arith, omega arith) });
    distinct_keys = one_place (key (codes "a") 1);
    texts = at_one IsByteText (104 ∷ 105 ∷ []) (record { short = omega arith; bytes = refl });
    distinct_texts = one_place (104 ∷ 105 ∷ []);
    key_order = refl;
    text_order = refl;
  };
  few_sessions = omega arith;
  sessions = at_one (IsSession byte_values) (session 1 ((puts 0 0 ∷ []) ∷ (get 0 ∷ add 0 (pos 3) ∷ get 0 ∷ []) ∷ [])) (record {
    node = (omega arith, omega arith);
    scripts = at_more (IsScript 2 table) (puts 0 0 ∷ []) ((get 0 ∷ add 0 (pos 3) ∷ get 0 ∷ []) ∷ []) first_ok (at_one (IsScript 2 table) (get 0 ∷ add 0 (pos 3) ∷ get 0 ∷ []) second_ok);
  });
  at_one_node = λ n. omega (arith, count_by-le-length (λ (s : Session). same_node s.node n) byte_values.sessions);
  few_transactions = omega arith;
  few_events = omega arith;
  events = at_one (IsEvent byte_values) (c 1 10) ((omega arith, omega arith), omega arith);
}
