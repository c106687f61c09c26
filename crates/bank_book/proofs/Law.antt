-- The law Bank, and the balances by a tally.
use Rattle.std.proofs.Common.{List, None, Option, Some, [], ap, arith, filter, inl, inr, length, map, pos, refl, slice_get, subst, suc, sym, take, take_all, true, zero, ℕ, ℤ, ◌++◌, ◌+ℤ◌, ◌<◌, ◌^◌, ◌∙◌, ◌∷◌, ◌≡◌, ◌≢◌, ◌≤◌, ◌⊎◌}
use Rattle.std.specs.Int.{int_wrap, w64}
use Rattle.std.specs.List.{list_all, sum_by}
use Rattle.std.proofs.lemmas.Int.{int_wrap-add_right, ints}
use Rattle.str_base.proofs.Members.{all_in, at_in}
use Rattle.str_base.specs.declared.names.KeyId.{KeyId}
use Rattle.str_base.specs.declared.names.Ts.{Ts}
use Rattle.str_base.specs.declared.names.Value.{Value}
use Rattle.str_base.specs.declared.names.Value.TheVariants.{Num}
use Rattle.str_base.specs.Members.{In}
use Rattle.str_model.specs.declared.messages.Answer.{Answer}
use Rattle.str_model.specs.declared.messages.Outcome.{Outcome}
use Rattle.str_model.specs.declared.messages.Outcome.TheVariants.{Committed}
use Rattle.str_model.specs.declared.names.Got.{Got}
use Rattle.str_model.specs.Evaluation.{AtEnd, Evaluated, eval}
use Rattle.str_scene.specs.declared.names.Op.{Op}
use Rattle.str_scene.specs.SceneLimits.{IsScene}
use Rattle.str_scene.specs.Scenes.{Scene, script_at}
use Rattle.si_laws.specs.Commits.{Commit, Member, commits, counts_for, look_up, member_of, members, members_from, seen}
use Rattle.si_laws.specs.SnapshotIsolation.{IsCommittedSnapshot, IsFinal, SI, SIRun}
use Rattle.si_laws.proofs.CommitLists.CommitMembers.{filter_all, members_rest, rest}
use Rattle.si_laws.proofs.CommitLists.CommitOrder.{InOrder, Named, commits_order, named}
use Rattle.si_laws.proofs.CommitLists.SnapshotValues.{members_order}
use Rattle.bank_book.specs.Balances.{holdings, value_after}
use Rattle.bank_book.specs.BankLaw.{AddUp, AllAbsent, Bank, BankHolds, total}
use Rattle.bank_book.specs.BankScenes.{IsBank, IsStatement, account, amount, is_among, opening_place, opens}
use Rattle.bank_book.specs.Tallies.{added, gained, tallied}
use Rattle.bank_book.proofs.AccountSums.{at_most}
use Rattle.bank_book.proofs.Amounts.{among_account, amount_deposit, deposit, deposits, deposits_total, held_numbers, held_total, wrap_natural}
use Rattle.bank_book.proofs.Movements.{none_committed, opening_adds, gained_shifts, shifts, some_committed}
use Rattle.bank_book.proofs.ScriptWrites.{statement_gets}
use Rattle.bank_book.proofs.ValuesAfter.{Front, front, look_front}
use Rattle.bank_book.proofs.Walk.{Goes, Gone, Good, after_first, at_first, first_has, first_opens, opening_parts, sum_small}

-- a run of the machine has snapshot isolation
pub whole_run : (scene : Scene) (all : List Answer) → SIRun scene all → SI scene all
whole_run scene all run = subst (SI scene) (take_all (length all) all (omega arith)) (run (length all))

-- ---- the whole commit list

pub all_goes : (scene : Scene) (all : List Answer) (cs : List Commit) → Named all → commits all ≡ cs → Goes scene all [] cs
all_goes scene all cs n e = record {
  whole = members_rest scene [] (commits all) ∙ ap (rest scene []) e;
  above = λ x i. absurd i;
  order = subst InOrder e (commits_order all n);
  within = λ c h. subst (In c) (sym e) h;
}

pub no_members : (scene : Scene) (all : List Answer) → commits all ≡ [] → members scene all ≡ []
no_members scene all e = ap (members_from scene []) e

length_rest : (scene : Scene) (past : List Member) (ds : List Commit) → length (rest scene past ds) ≡ length ds
unfolding rest
length_rest scene past [] = refl
length_rest scene past (d ∷ ds) = ap suc (length_rest scene (past ++ member_of scene past d ∷ []) ds)

-- with the first member ahead
members_first : (scene : Scene) (all : List Answer) (d : Commit) (ds : List Commit) → commits all ≡ d ∷ ds → members scene all ≡ member_of scene [] d ∷ rest scene (member_of scene [] d ∷ []) ds
unfolding rest
members_first scene all d ds e = members_rest scene [] (commits all) ∙ ap (rest scene []) e

-- ---- amounts

adds_up : (scene : Scene) (accounts : List KeyId) (amounts : List ℤ) (past : List Member) (has : KeyId → ℕ) → IsBank scene accounts amounts
    → Good accounts (deposits (script_at scene opening_place)) past has → AddUp amounts (holdings accounts past)
adds_up scene accounts amounts past has bank g = record {
  sum = held_total accounts past has g.holds ∙ (ap pos g.adds_up
      ∙ (sym (deposits_total (script_at scene opening_place) (opening_parts (script_at scene opening_place) bank.opening).0) ∙ ap total (sym bank.deposits)));
  each = held_numbers accounts past has g.holds;
}

-- ---- statements

all_absent : (accounts : List KeyId) (past : List Member) → past ≡ [] → AllAbsent (holdings accounts past)
all_absent [] past e v h = absurd h
all_absent (k ∷ ks) past e v (inl q) = sym q ∙ ap (λ ms. value_after ms k) e
all_absent (k ∷ ks) past e v (inr h) = all_absent ks past e v h

values_of : (look : KeyId → Value) (past : List Member) (accounts : List KeyId) → ((k : KeyId) → look k ≡ value_after past k)
    → map (λ (g : Got). g.value) (map (λ (k : KeyId). record { key = k; value = look k }) accounts) ≡ holdings accounts past
values_of look past [] h = refl
values_of look past (k ∷ ks) h = λ j. h k j ∷ values_of look past ks h j

pub nothing_or_more : (ms : List Member) → (ms ≡ []) ⊎ (ms ≢ [])
nothing_or_more [] = inl refl
nothing_or_more (m ∷ ms) = inr (λ e. absurd (cc e))

-- ---- the law

module _ (scene : Scene) (accounts : List KeyId) (amounts : List ℤ) (all : List Answer) (limits : IsScene scene) (bank : IsBank scene accounts amounts) (run : SIRun scene all) where
  si : SI scene all
  si = whole_run scene all run

  begins : (cs : List Commit) → commits all ≡ cs → (c : Commit) → slice_get cs 0 ≡ Some c → c.answer.place ≡ opening_place
  begins [] e c h = absurd (cc h)
  begins (d ∷ ds) e c h =
      let q : d ≡ c = cc h in
      subst (λ (z : Commit). z.answer.place ≡ opening_place) q
      (first_opens scene accounts amounts all limits bank (whole_run scene all run) d ds (all_goes scene all (d ∷ ds) (named all (whole_run scene all run).placed.names) e))

  prefix_first : (d : Commit) (ds : List Commit) → commits all ≡ d ∷ ds → (n : ℕ) → AddUp amounts (holdings accounts (member_of scene [] d ∷ take n (rest scene (member_of scene [] d ∷ []) ds)))
  prefix_first d ds e n =
      let go : Goes scene all [] (d ∷ ds) = all_goes scene all (d ∷ ds) (named all (whole_run scene all run).placed.names) e in
      let g = after_first scene accounts amounts all limits bank (whole_run scene all run) d ds go n in
      adds_up scene accounts amounts (member_of scene [] d ∷ take n (rest scene (member_of scene [] d ∷ []) ds)) g.then_has bank g.good

  prefixes : (cs : List Commit) → commits all ≡ cs → (n : ℕ) → take n (members scene all) ≢ [] → AddUp amounts (holdings accounts (take n (members scene all)))
  prefixes [] e zero h = absurd (h (ap (take zero) (no_members scene all e)))
  prefixes [] e (suc n) h = absurd (h (ap (take (suc n)) (no_members scene all e)))
  prefixes (d ∷ ds) e zero h = absurd (h (ap (take zero) (members_first scene all d ds e)))
  prefixes (d ∷ ds) e (suc n) h =
      subst (λ ms. AddUp amounts (holdings accounts ms)) (sym (ap (take (suc n)) (members_first scene all d ds e))) (prefix_first d ds e n)

  -- what a committed statement gets
  sees_front : (a : Answer) (fc : Option Ts) (gets : List Got) → IsStatement accounts (script_at scene a.place) → a.outcome ≡ Committed fc gets → In a all
      → (n : ℕ) × (map (λ (g : Got). g.value) gets ≡ holdings accounts (take n (members scene all)))
  sees_front a fc gets s o h = told (si.snapshots (at_in all a h).0 a (at_in all a h).1)
    where
      gives : seen scene all a ≡ record { gets = map (λ k. record { key = k; value = look_up (filter (counts_for a a.outcome) (members scene all)) a.rs.0 k }) accounts; writes = []; stop = AtEnd }
      gives = ap (λ ops. eval ops (look_up (filter (counts_for a a.outcome) (members scene all)) a.rs.0)) s
          ∙ statement_gets (look_up (filter (counts_for a a.outcome) (members scene all)) a.rs.0) accounts []

      no_time : (f : Option Ts) → IsFinal a.rs.0 f (seen scene all a).writes → f ≡ None
      no_time None q = refl
      no_time (Some t) q = absurd (q.0 (ap (λ (e : Evaluated). e.writes) gives))

      counts_all : (f : Option Ts) → f ≡ None → (m : Member) → counts_for a (Committed f gets) m ≡ true
      counts_all None q m = refl
      counts_all (Some t) q m = absurd (cc q)

      f : Front (members scene all) a.rs.0
      f = front (members scene all) a.rs.0 (members_order scene all (named all si.placed.names))

      told : IsCommittedSnapshot (seen scene all a) a.rs.0 a.outcome → (n : ℕ) × (map (λ (g : Got). g.value) gets ≡ holdings accounts (take n (members scene all)))
      told q = by_snapshot (subst (IsCommittedSnapshot (seen scene all a) a.rs.0) o q)
        where
          by_snapshot : IsCommittedSnapshot (seen scene all a) a.rs.0 (Committed fc gets) → (n : ℕ) × (map (λ (g : Got). g.value) gets ≡ holdings accounts (take n (members scene all)))
          by_snapshot r =
              let none : fc ≡ None = no_time fc r.2 in
              let every : filter (counts_for a a.outcome) (members scene all) ≡ members scene all =
              ap (λ (z : Outcome). filter (counts_for a z) (members scene all)) o ∙ filter_all (counts_for a (Committed fc gets)) (members scene all) (λ m i. counts_all fc none m) in (
                f.size,
                ap (map (λ (g : Got). g.value)) (sym r.1 ∙ ap (λ (e : Evaluated). e.gets) gives)
                    ∙ values_of (look_up (filter (counts_for a a.outcome) (members scene all)) a.rs.0) (take f.size (members scene all)) accounts
                    (λ k. ap (λ ms. look_up ms a.rs.0 k) every ∙ look_front (members scene all) a.rs.0 f k),
              )

  statements : (a : Answer) (fc : Option Ts) (gets : List Got) → In a all → a.outcome ≡ Committed fc gets → IsStatement accounts (script_at scene a.place)
      → AddUp amounts (map (λ (g : Got). g.value) gets) ⊎ AllAbsent (map (λ (g : Got). g.value) gets)
  statements a fc gets h o s = told (sees_front a fc gets s o h)
    where
      told : (n : ℕ) × (map (λ (g : Got). g.value) gets ≡ holdings accounts (take n (members scene all))) → AddUp amounts (map (λ (g : Got). g.value) gets) ⊎ AllAbsent (map (λ (g : Got). g.value) gets)
      told r = elim (nothing_or_more (take r.0 (members scene all))) [
        | inl e ↦ inr (subst AllAbsent (sym r.1) (all_absent accounts (take r.0 (members scene all)) e))
        | inr n ↦ inl (subst (AddUp amounts) (sym r.1) (prefixes (commits all) refl r.0 n))
      ]

  pub bank_here : Bank scene accounts amounts all
  bank_here = record { begins = begins (commits all) refl; prefixes = prefixes (commits all) refl; statements = statements }

  -- ---- the tally

  tallied_first : (d : Commit) (ds : List Commit) → commits all ≡ d ∷ ds → (op : Op) → In op (script_at scene opening_place) → tallied scene (account op) (amount op) all ≡ value_after (members scene all) (account op)
  tallied_first d ds e op h =
      rw (some_committed all d ds e) (ap (λ (z : ℤ). Num z) (int_wrap-add_right w64 (amount op) (gained scene (account op) all) ∙ (ap (int_wrap w64) counted ∙ wrap_natural (g.then_has (account op)) few)) ∙ sym valued)
    where
      go : Goes scene all [] (d ∷ ds)
      go = all_goes scene all (d ∷ ds) (named all (whole_run scene all run).placed.names) e

      g : Gone scene accounts (deposits (script_at scene opening_place)) (member_of scene [] d ∷ []) ds (at_first scene accounts amounts all limits bank (whole_run scene all run) d) (length ds)
      g = after_first scene accounts amounts all limits bank (whole_run scene all run) d ds go (length ds)

      open_ops : list_all opens (script_at scene opening_place) ≡ true
      open_ops = (opening_parts (script_at scene opening_place) bank.opening).0

      is_account : is_among accounts (account op) ≡ true
      is_account = ap (λ ks. is_among ks (account op)) bank.opened ∙ among_account (script_at scene opening_place) op h

      -- all have gone
      whole : members scene all ≡ member_of scene [] d ∷ take (length ds) (rest scene (member_of scene [] d ∷ []) ds)
      whole = members_first scene all d ds e
          ∙ ap (λ ms. member_of scene [] d ∷ ms) (sym (take_all (length ds) (rest scene (member_of scene [] d ∷ []) ds) (let l = length_rest scene (member_of scene [] d ∷ []) ds in omega arith)))

      valued : value_after (members scene all) (account op) ≡ Num (pos (g.then_has (account op)))
      valued = ap (λ ms. value_after ms (account op)) whole ∙ g.good.holds (account op) is_account

      few : g.then_has (account op) < 2 ^ 63
      few = small (g.then_has (account op)) (sum_by g.then_has accounts) (deposits (script_at scene opening_place)) (at_most g.then_has (account op) accounts is_account) g.good.adds_up
          (sum_small scene accounts amounts all limits bank (whole_run scene all run) d ds go)
        where
          small : (a b s : ℕ) → a ≤ b → b ≡ s → s < 2 ^ 63 → a < 2 ^ 63
          small a b s l q r = omega arith

      sums : (t b a m o s : ℤ) → t ≡ b +ℤ s → a ≡ b → m ≡ o +ℤ s → o ≡ pos 0 → a +ℤ m ≡ t
      sums t b a m o s p q r v = omega (arith, ints)

      counted : amount op +ℤ gained scene (account op) all ≡ pos (g.then_has (account op))
      counted =
          ap (λ (z : ℤ). amount op +ℤ z) (gained_shifts scene (account op) all)
          ∙ sums (pos (g.then_has (account op))) (pos (deposit op)) (amount op) (shifts scene (account op) (commits all)) (added (account op) (script_at scene d.answer.place)) (shifts scene (account op) ds)
          (g.moves (account op) ∙ (ap (λ n. pos n +ℤ shifts scene (account op) (take (length ds) ds)) (first_has scene accounts amounts all limits bank (whole_run scene all run) d ds go op h)
          ∙ ap (λ cs. pos (deposit op) +ℤ shifts scene (account op) cs) (take_all (length ds) ds (omega arith))))
          (amount_deposit op (all_in opens (script_at scene opening_place) op open_ops h))
          (ap (shifts scene (account op)) e)
          (ap (λ p. added (account op) (script_at scene p)) (first_opens scene accounts amounts all limits bank (whole_run scene all run) d ds go)
          ∙ opening_adds (account op) (script_at scene opening_place) open_ops)

  tallied_by : (cs : List Commit) → commits all ≡ cs → (op : Op) → In op (script_at scene opening_place) → tallied scene (account op) (amount op) all ≡ value_after (members scene all) (account op)
  tallied_by [] e op h = rw (none_committed all e) (sym (ap (λ ms. value_after ms (account op)) (no_members scene all e)))
  tallied_by (d ∷ ds) e op h = tallied_first d ds e op h

  -- the tally of an account is its value in the commit list
  pub tallied_is : (op : Op) → In op (script_at scene opening_place) → tallied scene (account op) (amount op) all ≡ value_after (members scene all) (account op)
  tallied_is op h = tallied_by (commits all) refl op h

-- the law
pub bank_law : BankHolds
bank_law scene limits accounts amounts bank all run = bank_here scene accounts amounts all limits bank run
