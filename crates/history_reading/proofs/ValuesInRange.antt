-- The values of gets and writes that scripts come to on values in range are in range.
use Rattle.std.proofs.Common.{Bool, List, None, Option, Some, [], arith, false, filter, find, if◌then◌else◌, refl, slice_get, subst, suc, sym, true, zero, ℕ, ℤ, ◌++◌, ◌∷◌, ◌≡◌, pos}
use Rattle.std.proofs.lemmas.Int.{SFits-int_wrap, wrapping_add_is}
use Rattle.std.specs.Int.{int_wrapping_add, w64}
use Rattle.std.specs.Prelude.{FitsSigned, ◌+ℤ◌}
use Rattle.scene_text.proofs.Spelling.NumbersRead.{fits_number, number_fits}
use Rattle.std.specs.List.{last_or}
use Rattle.history_reading.specs.HistoryRanges.{IsGot, IsValue}
use Rattle.si_laws.specs.Commits.{Commit, Member, commits, evaluated, look_up, member_of, members, members_from, seen, written_value, counts_for}
use Rattle.str_base.specs.Values.{is_below, number_or_zero, set_write, sum_with}
use Rattle.str_base.specs.Versions.{same_key}
use Rattle.str_base.specs.declared.names.KeyId.{KeyId}
use Rattle.str_base.specs.declared.names.Value.{Value}
use Rattle.str_base.specs.declared.names.Value.TheVariants.{Absent, Num, Text}
use Rattle.str_base.specs.declared.names.Write.{Write}
use Rattle.str_model.specs.Evaluation.{Evaluated, Unmet, eval_from, value_at, with_write, write_or}
use Rattle.str_model.specs.declared.messages.Answer.{Answer}
use Rattle.str_model.specs.declared.names.Got.{Got}
use Rattle.str_scene.proofs.Each.{each_append, each_from}
use Rattle.str_scene.specs.Lists.{Each}
use Rattle.str_scene.specs.SceneLimits.{IsNumber, IsOp, IsScene, IsScript, IsSession}
use Rattle.str_scene.specs.Scenes.{KeyTable, Scene, Session, nth, ops_at, or_none, script_at}
use Rattle.str_scene.specs.declared.names.Op.{Op}
use Rattle.str_scene.specs.declared.names.Op.TheVariants.{Abort, Add, Del, Get, Need, Put, Puts}
use Rattle.str_scene.specs.declared.names.TxPlace.{TxPlace}

abbrev pub AreWritten : KeyTable → List Write → Type 0
AreWritten table ws = Each (λ w. IsValue table w.value) ws

-- a sum has 64 bits
zero_fits : (table : KeyTable) (v : Value) → IsValue table v → FitsSigned w64 (number_or_zero v)
zero_fits table Absent h = number_fits (pos 0) (omega arith)
zero_fits table (Num n) h = number_fits n h
zero_fits table (Text t) h = number_fits (pos 0) (omega arith)

sum_number : (table : KeyTable) (v : Value) (n : ℤ) → IsValue table v → IsNumber n → IsValue table (sum_with v n)
sum_number table v n a b =
    fits_number (int_wrapping_add w64 (number_or_zero v) n)
    (subst (FitsSigned w64) (sym (wrapping_add_is w64 (number_or_zero v) n (zero_fits table v a) (number_fits n b))) (SFits-int_wrap w64 (number_or_zero v +ℤ n)))

found_value : (table : KeyTable) (k : KeyId) (ws : List Write) (v : Value) → AreWritten table ws → IsValue table v → IsValue table (write_or (find (λ w. same_key w.key k) ws) v)
found_value table k [] v h d = d
found_value table k (w ∷ ws) v h d = by (found_value table k ws v h.1 d) (same_key w.key k)
  where
    by : IsValue table (write_or (find (λ u. same_key u.key k) ws) v) → (b : Bool) → IsValue table (write_or (if b then Some w else find (λ u. same_key u.key k) ws) v)
    by rest true = h.0
    by rest false = rest

set_values : (table : KeyTable) (w : Write) (ws : List Write) → AreWritten table ws → IsValue table w.value → AreWritten table (set_write w ws)
set_values table w [] h d = (d, tt)
set_values table w (u ∷ us) h d = by (set_values table w us h.1 d) (same_key u.key w.key)
  where
    by : AreWritten table (set_write w us) → (b : Bool) → AreWritten table (if b then w ∷ us else u ∷ set_write w us)
    by rest true = (d, h.1)
    by rest false = (h.0, rest)

-- what a script comes to
pub record InRange (table : KeyTable) (e : Evaluated) : Type 0 where
  pub gets : Each (IsGot table) e.gets
  pub writes : AreWritten table e.writes

eval_values : (version : ℕ) (table : KeyTable) (look : KeyId → Value) → ((k : KeyId) → IsValue table (look k)) → (ops : List Op) (ws : List Write) (gs : List Got) → Each (IsOp version table) ops → AreWritten table ws → Each (IsGot table) gs →
    InRange table (eval_from look ops ws gs)
eval_values version table look l [] ws gs o w g = record { gets = g; writes = w }
eval_values version table look l (Get k ∷ ops) ws gs o w g =
    let got : Got = record { key = k; value = value_at look ws k } in
    eval_values version table look l ops ws (gs ++ got ∷ []) o.1 w (each_append (IsGot table) gs (got ∷ []) g ((o.0, found_value table k ws (look k) w (l k)), tt))
eval_values version table look l (Put k n ∷ ops) ws gs o w g = eval_values version table look l ops (with_write k (Num n) ws) gs o.1 (set_values table (record { key = k; value = Num n }) ws w o.0.1) g
eval_values version table look l (Puts k t ∷ ops) ws gs o w g = eval_values version table look l ops (with_write k (Text t) ws) gs o.1 (set_values table (record { key = k; value = Text t }) ws w o.0.1) g
eval_values version table look l (Add k n ∷ ops) ws gs o w g =
    let sum : Value = sum_with (value_at look ws k) n in
    eval_values version table look l ops (with_write k sum ws) gs o.1 (set_values table (record { key = k; value = sum }) ws w (sum_number table (value_at look ws k) n (found_value table k ws (look k) w (l k)) o.0.1)) g
eval_values version table look l (Del k ∷ ops) ws gs o w g = eval_values version table look l ops (with_write k Absent ws) gs o.1 (set_values table (record { key = k; value = Absent }) ws w tt) g
eval_values version table look l (Need k n ∷ ops) ws gs o w g = by (eval_values version table look l ops ws gs o.1 w g) (is_below (value_at look ws k) n)
  where
    by : InRange table (eval_from look ops ws gs) → (b : Bool) → InRange table (if b then record { gets = gs; writes = ws; stop = Unmet } else eval_from look ops ws gs)
    by rest true = record { gets = g; writes = w }
    by rest false = rest
eval_values version table look l (Abort ∷ ops) ws gs o w g = record { gets = g; writes = w }

-- ---- the scripts of a scene

from_nth : {X : Type 0} (P : X → Type 0) (xs : List X) (n : ℕ) (x : X) → ((i : ℕ) (y : X) → slice_get xs i ≡ Some y → P y) → nth xs n ≡ Some x → P x
from_nth P xs zero x h e = absurd (cc e)
from_nth P xs (suc i) x h e = h i x e

pub script_ops : (scene : Scene) → IsScene scene → (place : TxPlace) → Each (IsOp scene.version scene.keys) (script_at scene place)
script_ops scene ok place = by (nth scene.sessions place.session.0) (λ s e. from_nth (IsSession scene) scene.sessions place.session.0 s ok.sessions e)
  where
    by_script : (o : Option (List Op)) → ((ops : List Op) → o ≡ Some ops → IsScript scene.version scene.keys ops) → Each (IsOp scene.version scene.keys) (or_none o)
    by_script None h = tt
    by_script (Some ops) h = each_from (IsOp scene.version scene.keys) ops (h ops refl).ops

    by : (o : Option Session) → ((s : Session) → o ≡ Some s → IsSession scene s) → Each (IsOp scene.version scene.keys) (ops_at o place.index)
    by None h = tt
    by (Some s) h = by_script (nth s.txs place.index) (λ ops e. from_nth (IsScript scene.version scene.keys) s.txs place.index ops (h s refl).scripts e)

-- ---- the members of a commit list

abbrev AreMembers : KeyTable → List Member → Type 0
AreMembers table ms = Each (λ m. AreWritten table m.writes) ms

filtered : (table : KeyTable) (test : Member → Bool) (ms : List Member) → AreMembers table ms → AreMembers table (filter test ms)
filtered table test [] h = tt
filtered table test (m ∷ ms) h = by (filtered table test ms h.1) (test m)
  where
    by : AreMembers table (filter test ms) → (b : Bool) → AreMembers table (if b then m ∷ filter test ms else filter test ms)
    by rest true = (h.0, rest)
    by rest false = rest

last_value : (table : KeyTable) (k : KeyId) (o : Option Member) (ms : List Member) → IsValue table (written_value o k) → AreMembers table ms → IsValue table (written_value (last_or o ms) k)
last_value table k o [] d h = d
last_value table k o (m ∷ ms) d h = last_value table k (Some m) ms (found_value table k m.writes Absent h.0 tt) h.1

looked_up : (table : KeyTable) (past : List Member) (r : ℕ) (k : KeyId) → AreMembers table past → IsValue table (look_up past r k)
looked_up table past r k h = last_value table k None _ tt (filtered table _ past h)

evaluated_values : (scene : Scene) → IsScene scene → (past : List Member) (a : Answer) → AreMembers scene.keys past → InRange scene.keys (evaluated scene past a)
evaluated_values scene ok past a h =
    eval_values scene.version scene.keys (look_up past a.rs.0) (λ k. looked_up scene.keys past a.rs.0 k h) (script_at scene a.place) [] [] (script_ops scene ok a.place) tt tt

members_values : (scene : Scene) → IsScene scene → (past : List Member) (cs : List Commit) → AreMembers scene.keys past → AreMembers scene.keys (members_from scene past cs)
members_values scene ok past [] h = h
members_values scene ok past (c ∷ cs) h =
    members_values scene ok (past ++ member_of scene past c ∷ []) cs
    (each_append (λ m. AreWritten scene.keys m.writes) past (member_of scene past c ∷ []) h ((evaluated_values scene ok past c.answer h).writes, tt))

-- what an answer's script comes to on its snapshot is in range
pub seen_values : (scene : Scene) → IsScene scene → (all : List Answer) (a : Answer) → InRange scene.keys (seen scene all a)
seen_values scene ok all a = evaluated_values scene ok _ a (filtered scene.keys (counts_for a a.outcome) (members scene all) (members_values scene ok [] (commits all) tt))
