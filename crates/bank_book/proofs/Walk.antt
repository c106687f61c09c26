-- Along the commit list of a bank: what the accounts have after the opening and after each transfer.
use Rattle.std.proofs.Common.{Bool, List, None, Option, Some, [], ap, append-nil, append_assoc, arith, eq-eqb, eqb-true, false, filter, inl, inr, length, lt-ltb, map, neg_ℤ, not, pos, refl, slice_get, subst, suc, sym, take, true, zero, ℕ, ℤ, ◌&&◌, ◌*◌, ◌++◌, ◌+◌, ◌+ℤ◌, ◌-◌, ◌<◌, ◌==◌, ◌^◌, ◌∙◌, ◌∷◌, ◌≡◌, ◌≢◌, ◌≤◌, ◌⊎◌, ◌||◌}
use Rattle.std.specs.Int.RustNames.{unsigned_abs}
use Rattle.std.specs.List.{list_all, sum_by}
use Rattle.std.proofs.lemmas.Bool.{and_parts, or_left, or_right}
use Rattle.std.proofs.lemmas.Int.{ints}
use Rattle.str_base.proofs.Lists.{slice_get_there}
use Rattle.str_base.proofs.Members.{all_in, at_in, in_left}
use Rattle.str_base.proofs.SameNames.{is-same_key}
use Rattle.str_base.specs.declared.names.KeyId.{KeyId}
use Rattle.str_base.specs.declared.names.Value.{Value}
use Rattle.str_base.specs.declared.names.Value.TheVariants.{Absent, Num}
use Rattle.str_base.specs.declared.names.Write.{Write}
use Rattle.str_base.specs.Members.{In}
use Rattle.str_base.specs.Values.{is_below, number_or_zero, sum_with}
use Rattle.str_base.specs.Versions.{same_key, stamp}
use Rattle.str_model.specs.declared.messages.Answer.{Answer}
use Rattle.str_model.specs.declared.messages.Outcome.{Outcome}
use Rattle.str_model.specs.declared.messages.Outcome.TheVariants.{Committed}
use Rattle.str_model.specs.Evaluation.{AtEnd, eval, write_or}
use Rattle.str_model.specs.Owned.{wrote_key}
use Rattle.str_scene.specs.declared.names.Op.{Op}
use Rattle.str_scene.specs.declared.names.TxPlace.{TxPlace}
use Rattle.str_scene.specs.SceneLimits.{Exists, IsScene}
use Rattle.str_scene.specs.Scenes.{Scene, Session, nth, ops_at, or_none, script_at}
use Rattle.si_laws.specs.Commits.{Commit, Member, commits, counts_for, evaluated, fc_before, look_up, member_of, members, seen}
use Rattle.si_laws.specs.SnapshotIsolation.{IsCommittedAt, IsCommittedSnapshot, IsPlaced, SI}
use Rattle.si_laws.proofs.CommitLists.AnswerAdded.{not_before_itself}
use Rattle.si_laws.proofs.CommitLists.CommitMembers.{AllBefore, all_before_next, before_first, le_or_above, rest, stands_before}
use Rattle.si_laws.proofs.CommitLists.CommitOrder.{InOrder, Named, in_commits, named}
use Rattle.si_laws.proofs.CommitLists.SnapshotValues.{IsOf, is_of, one_time}
use Rattle.bank_book.specs.Balances.{value_after}
use Rattle.bank_book.specs.BankScenes.{Fits, IsBank, IsStatement, IsTransfer, account, amount, are_distinct, is_among, is_opening, opening_place, opens}
use Rattle.bank_book.specs.Tallies.{added}
use Rattle.bank_book.proofs.AccountSums.{after, after_sum, at_most}
use Rattle.bank_book.proofs.Amounts.{Holds, account_among, amount_deposit, deposit, deposits, deposits_few, gets_more, opened_sum, pays_less}
use Rattle.bank_book.proofs.FirstUnfit.{place_by_numbers}
use Rattle.bank_book.proofs.Movements.{shifts, transfer_adds}
use Rattle.bank_book.proofs.ScriptWrites.{IsPaid, absent_below, find_any, found, is_paid, opened_value, statement_gets}
use Rattle.bank_book.proofs.ValuesAfter.{both, fc_le, look_after, paid_value, value_wrote}

-- ---- places

pub cases_place : (p : TxPlace) → (p ≡ opening_place) ⊎ (p ≢ opening_place)
cases_place p = by_session (p.session.0 == 1) refl
  where
    by_index : p.session.0 ≡ 1 → (t : Bool) → (p.index == 1) ≡ t → (p ≡ opening_place) ⊎ (p ≢ opening_place)
    by_index e true q = inl (place_by_numbers p e (eqb-true p.index 1 q))
    by_index e false q = inr (λ r. let s : (p.index == 1) ≡ true = eq-eqb p.index 1 (ap (λ (z : TxPlace). z.index) r) in absurd (cc (s, q)))

    by_session : (t : Bool) → (p.session.0 == 1) ≡ t → (p ≡ opening_place) ⊎ (p ≢ opening_place)
    by_session true q = by_index (eqb-true p.session.0 1 q) (p.index == 1) refl
    by_session false q = inr (λ r. let s : (p.session.0 == 1) ≡ true = eq-eqb p.session.0 1 (ap (λ (z : TxPlace). z.session.0) r) in absurd (cc (s, q)))

nth_there : {A : Type 0} (xs : List A) (n : ℕ) → Exists n (length xs) → (x : A) × (nth xs n ≡ Some x)
nth_there xs zero e = absurd (omega arith)
nth_there xs (suc i) e = slice_get_there xs i (omega arith)

pub opening_parts : (ops : List Op) → is_opening ops ≡ true → (list_all opens ops ≡ true) × (are_distinct (map account ops) ≡ true)
opening_parts ops e =
    and_parts (list_all opens ops) (are_distinct (map account ops)) (and_parts (not (length ops == 0)) (list_all opens ops && are_distinct (map account ops)) e).1

-- ---- what a bank's accounts have

-- after these members the accounts hold what the function says, and it adds up to the sum
pub record Good (accounts : List KeyId) (sum : ℕ) (past : List Member) (has : KeyId → ℕ) : Type 0 where
  pub holds : Holds accounts past has
  pub adds_up : sum_by has accounts ≡ sum

-- after n more members of the rest
pub record Gone (scene : Scene) (accounts : List KeyId) (sum : ℕ) (past : List Member) (ds : List Commit) (has : KeyId → ℕ) (n : ℕ) : Type 0 where
  pub then_has : KeyId → ℕ
  pub good : Good accounts sum (past ++ take n (rest scene past ds)) then_has
  pub moves : (k : KeyId) → pos (then_has k) ≡ pos (has k) +ℤ shifts scene k (take n ds)

-- the rest of the commit list, after the members of past
pub record Goes (scene : Scene) (all : List Answer) (past : List Member) (ds : List Commit) : Type 0 where
  pub whole : members scene all ≡ past ++ rest scene past ds
  pub above : AllBefore past ds
  pub order : InOrder ds
  pub within : (c : Commit) → In c ds → In c (commits all)

-- a commit comes to its end and writes, above its snapshot
pub record IsCommit (scene : Scene) (all : List Answer) (a : Answer) (f : ℕ) : Type 0 where
  pub stop : (seen scene all a).stop ≡ AtEnd
  pub writes : (seen scene all a).writes ≢ []
  pub below : a.rs.0 < f

no_change : (b : ℕ) → pos b ≡ pos b +ℤ pos 0
no_change b = omega (arith, ints)

two_changes : (t m b a s : ℤ) → t ≡ m +ℤ s → m ≡ b +ℤ a → t ≡ b +ℤ (a +ℤ s)
two_changes t m b a s p q = omega (arith, ints)

module _ (scene : Scene) (accounts : List KeyId) (amounts : List ℤ) (all : List Answer) (limits : IsScene scene) (bank : IsBank scene accounts amounts) (si : SI scene all) where
  -- ---- the answers

  pub all_named : Named all
  all_named = named all si.placed.names

  pub script_fits : (a : Answer) → In a all → a.place ≢ opening_place → Fits accounts (script_at scene a.place)
  script_fits a h n =
      let r = at_in all a h in
      let p : IsPlaced scene a = si.placed.each r.0 a r.1 in
      let t = nth_there p.text.txs a.place.index p.index in
      subst (Fits accounts) (sym (ap (λ o. ops_at o a.place.index) p.session ∙ ap or_none t.1)) (bank.others a.place t.0 (p.text, p.session, t.1) n)

  is_commit : (a : Answer) (f : ℕ) → In a all → IsCommittedAt a f → IsCommit scene all a f
  is_commit a f h c =
      let r = at_in all a h in
      let s : IsCommittedSnapshot (seen scene all a) a.rs.0 (Committed (Some (stamp f)) c.0) = subst (IsCommittedSnapshot (seen scene all a) a.rs.0) c.1 (si.snapshots r.0 a r.1) in
      record { stop = s.0; writes = s.2.0; below = s.2.1 }

  -- ---- one commit

  module _ (past : List Member) (d : Commit) (ds : List Commit) (go : Goes scene all past (d ∷ ds)) where
    here : In d.answer all × IsCommittedAt d.answer d.fc
    here = in_commits all d (go.within d (inl refl))

    -- its script sees those before it
    sees : evaluated scene past d.answer ≡ seen scene all d.answer
    sees =
        sym (ap (λ (o : Outcome). evaluated scene (filter (counts_for d.answer o) (members scene all)) d.answer) here.1.1
        ∙ ap (λ ms. evaluated scene ms d.answer) (ap (filter (stands_before d)) go.whole ∙ before_first scene past d ds go.above go.order))

    -- the members before it that wrote what it writes are final at or below its snapshot
    settled : (k : KeyId) → wrote_key k (evaluated scene past d.answer).writes ≡ true → (m : Member) → In m past → wrote_key k m.writes ≡ true → m.fc ≤ d.answer.rs.0
    settled k p m h q = told (is_of scene all m all_named (subst (λ ms. In m ms) (sym go.whole) (in_left past (rest scene past (d ∷ ds)) m h)))
      where
        earlier : fc_before m.fc m.tx d.fc d.answer.tx ≡ true
        earlier = go.above m h d (inl refl)

        other : (x : IsOf scene all m) → x.answer ≡ d.answer → ⊥
        other x e =
            let same : m.fc ≡ d.fc = one_time d.answer m.fc d.fc (subst (λ (z : Answer). IsCommittedAt z m.fc) e x.committed) here.1 in
            let named_so : m.tx ≡ d.answer.tx = sym x.name ∙ ap (λ (z : Answer). z.tx) e in
            not_before_itself d.fc d.answer.tx (subst (λ z. fc_before z d.answer.tx d.fc d.answer.tx ≡ true) same (subst (λ z. fc_before m.fc z d.fc d.answer.tx ≡ true) named_so earlier))

        later_snapshot : (x : IsOf scene all m) → d.fc ≤ x.answer.rs.0 → ⊥
        later_snapshot x l =
            let below : x.answer.rs.0 < m.fc = (is_commit x.answer m.fc x.within x.committed).below in
            let up : m.fc ≤ d.fc = fc_le m.fc d.fc m.tx d.answer.tx earlier in
            omega arith

        told : IsOf scene all m → m.fc ≤ d.answer.rs.0
        told x =
            let i = at_in all x.answer x.within in
            let j = at_in all d.answer here.0 in
            let apart_ : i.0 ≢ j.0 = λ e. (let s : Some x.answer ≡ Some d.answer = sym i.1 ∙ (ap (slice_get all) e ∙ j.1) in other x (cc s)) in
            elim (si.apart i.0 j.0 m.fc d.fc x.answer d.answer k i.1 j.1 apart_ x.committed here.1 (ap (wrote_key k) x.writes ∙ q) (ap (λ e. wrote_key k e.writes) (sym sees) ∙ p)) [
              | inl l ↦ l
              | inr l ↦ absurd (later_snapshot x l)
            ]

    -- what it sees of a key that it writes
    shown : (k : KeyId) → wrote_key k (evaluated scene past d.answer).writes ≡ true → look_up past d.answer.rs.0 k ≡ value_after past k
    shown k p = look_after past d.answer.rs.0 k (settled k p)

    commits_well : IsCommit scene all d.answer d.fc
    commits_well = is_commit d.answer d.fc here.0 here.1

    -- it is no statement
    pub no_statement : IsStatement accounts (script_at scene d.answer.place) → ⊥
    no_statement s =
        commits_well.writes (ap (λ e. e.writes) (sym sees)
        ∙ (ap (λ ops. (eval ops (look_up past d.answer.rs.0)).writes) s ∙ ap (λ e. e.writes) (statement_gets (look_up past d.answer.rs.0) accounts [])))

    -- what a transfer does
    pub is_paid_here : (t : IsTransfer accounts (script_at scene d.answer.place)) → IsPaid (look_up past d.answer.rs.0) t.payer t.payee (pos t.paid) (neg_ℤ (pos t.paid))
    is_paid_here t =
        is_paid (look_up past d.answer.rs.0) t.payer t.payee (pos t.paid) (neg_ℤ (pos t.paid)) t.apart
        (ap (λ ops. (eval ops (look_up past d.answer.rs.0)).stop) (sym t.operations) ∙ (ap (λ e. e.stop) sees ∙ commits_well.stop))

    module _ (sum : ℕ) (has : KeyId → ℕ) (small : sum < 2 ^ 63) (g : Good accounts sum past has) (t : IsTransfer accounts (script_at scene d.answer.place)) where
      -- what it wrote, by what it saw
      wrote : (evaluated scene past d.answer).writes
          ≡ record { key = t.payer; value = sum_with (look_up past d.answer.rs.0 t.payer) (neg_ℤ (pos t.paid)) } ∷ record { key = t.payee; value = sum_with (look_up past d.answer.rs.0 t.payee) (pos t.paid) } ∷ []
      wrote = ap (λ ops. (eval ops (look_up past d.answer.rs.0)).writes) t.operations ∙ (is_paid_here t).writes

      payer_wrote : wrote_key t.payer (evaluated scene past d.answer).writes ≡ true
      payer_wrote = ap (wrote_key t.payer) wrote ∙ or_left (same_key t.payer t.payer) (same_key t.payee t.payer || false) (is-same_key t.payer t.payer refl)

      payee_wrote : wrote_key t.payee (evaluated scene past d.answer).writes ≡ true
      payee_wrote =
          ap (wrote_key t.payee) wrote
          ∙ or_right (same_key t.payer t.payee) (same_key t.payee t.payee || false) (or_left (same_key t.payee t.payee) false (is-same_key t.payee t.payee refl))

      payer_seen : look_up past d.answer.rs.0 t.payer ≡ Num (pos (has t.payer))
      payer_seen = shown t.payer payer_wrote ∙ g.holds t.payer t.by_account

      payee_seen : look_up past d.answer.rs.0 t.payee ≡ Num (pos (has t.payee))
      payee_seen = shown t.payee payee_wrote ∙ g.holds t.payee t.to_account

      -- it paid no more than there was
      enough : t.paid ≤ has t.payer
      enough = by_test (le_or_above t.paid (has t.payer))
        where
          by_test : (t.paid ≤ has t.payer) ⊎ (has t.payer < t.paid) → t.paid ≤ has t.payer
          by_test (inl h) = h
          by_test (inr h) =
              let p : is_below (Num (pos (has t.payer))) (pos t.paid) ≡ false = subst (λ (z : Value). is_below z (pos t.paid) ≡ false) payer_seen (is_paid_here t).met in
              let q : is_below (Num (pos (has t.payer))) (pos t.paid) ≡ true = lt-ltb (has t.payer) t.paid h in
              absurd (cc (p, q))

      adds_after : sum_by (after t.payer t.payee t.paid has) accounts ≡ sum
      adds_after = after_sum t.payer t.payee t.paid has accounts distinct t.by_account t.to_account t.apart enough ∙ g.adds_up
        where
          distinct : are_distinct accounts ≡ true
          distinct = ap are_distinct bank.opened ∙ (opening_parts (script_at scene opening_place) bank.opening).1

      payer_few : has t.payer < 2 ^ 63
      payer_few = let l : has t.payer ≤ sum_by has accounts = at_most has t.payer accounts t.by_account in let e : sum_by has accounts ≡ sum = g.adds_up in few (has t.payer) (sum_by has accounts) sum l e small
        where
          few : (a b s : ℕ) → a ≤ b → b ≡ s → s < 2 ^ 63 → a < 2 ^ 63
          few a b s l e h = omega arith

      payee_few : has t.payee + t.paid < 2 ^ 63
      payee_few =
          few (after t.payer t.payee t.paid has t.payee) (sum_by (after t.payer t.payee t.paid has) accounts) sum (has t.payee + t.paid)
          (at_most (after t.payer t.payee t.paid has) t.payee accounts t.to_account) adds_after (rw (t.apart, is-same_key t.payee t.payee refl) refl) small
        where
          few : (a b s c : ℕ) → a ≤ b → b ≡ s → a ≡ c → s < 2 ^ 63 → c < 2 ^ 63
          few a b s c l e f h = omega arith

      wrote_numbers : (evaluated scene past d.answer).writes ≡ both t.payer t.payee (has t.payer - t.paid) (has t.payee + t.paid)
      wrote_numbers =
          wrote
          ∙ (ap (λ (v : Value). record { key = t.payer; value = v } ∷ record { key = t.payee; value = sum_with (look_up past d.answer.rs.0 t.payee) (pos t.paid) } ∷ [])
          (ap (λ (v : Value). sum_with v (neg_ℤ (pos t.paid))) payer_seen ∙ pays_less (has t.payer) t.paid enough payer_few t.most)
          ∙ ap (λ (v : Value). record { key = t.payer; value = Num (pos (has t.payer - t.paid)) } ∷ record { key = t.payee; value = v } ∷ [])
          (ap (λ (v : Value). sum_with v (pos t.paid)) payee_seen ∙ gets_more (has t.payee) t.paid payee_few))

      pub good_after : Good accounts sum (past ++ member_of scene past d ∷ []) (after t.payer t.payee t.paid has)
      good_after = record {
        holds = λ k i. paid_value past (member_of scene past d) t.payer t.payee t.paid has k wrote_numbers (g.holds k i);
        adds_up = adds_after;
      }

      pub moved_after : (k : KeyId) → pos (after t.payer t.payee t.paid has k) ≡ pos (has k) +ℤ added k (script_at scene d.answer.place)
      moved_after k = transfer_adds t.payer t.payee t.paid has k t.apart enough ∙ ap (λ ops. pos (has k) +ℤ added k ops) (sym t.operations)

  -- ---- the next commit

  goes_on : (past : List Member) (d : Commit) (ds : List Commit) → Goes scene all past (d ∷ ds) → Goes scene all (past ++ member_of scene past d ∷ []) ds
  unfolding rest
  goes_on past d ds go = record {
    whole = go.whole ∙ sym (append_assoc past (member_of scene past d ∷ []) (rest scene (past ++ member_of scene past d ∷ []) ds));
    above = all_before_next scene past d ds go.above go.order;
    order = go.order.1;
    within = λ c h. go.within c (inr h);
  }

  pub transfer_here : (past : List Member) (d : Commit) (ds : List Commit) → Goes scene all past (d ∷ ds) → d.answer.place ≢ opening_place → IsTransfer accounts (script_at scene d.answer.place)
  transfer_here past d ds go n = elim (script_fits d.answer (here past d ds go).0 n) [ inl t ↦ t | inr s ↦ absurd (no_statement past d ds go s) ]

  -- from a good state on, without another opening
  pub walk : (sum : ℕ) → sum < 2 ^ 63 → (past : List Member) (ds : List Commit) (has : KeyId → ℕ) → Goes scene all past ds → ((c : Commit) → In c ds → c.answer.place ≢ opening_place)
      → Good accounts sum past has → (n : ℕ) → Gone scene accounts sum past ds has n
  unfolding rest
  walk sum small past [] has go ne g zero = record { then_has = has; good = subst (λ ms. Good accounts sum ms has) (sym (append-nil past)) g; moves = λ k. no_change (has k) }
  walk sum small past (d ∷ ds) has go ne g zero = record { then_has = has; good = subst (λ ms. Good accounts sum ms has) (sym (append-nil past)) g; moves = λ k. no_change (has k) }
  walk sum small past [] has go ne g (suc n) = record { then_has = has; good = subst (λ ms. Good accounts sum ms has) (sym (append-nil past)) g; moves = λ k. no_change (has k) }
  walk sum small past (d ∷ ds) has go ne g (suc n) =
      joined (transfer_here past d ds go (ne d (inl refl)))
      (λ t. walk sum small (past ++ member_of scene past d ∷ []) ds (after t.payer t.payee t.paid has) (goes_on past d ds go) (λ c h. ne c (inr h)) (good_after past d ds go sum has small g t) n)
    where
      joined : (t : IsTransfer accounts (script_at scene d.answer.place)) → ((u : IsTransfer accounts (script_at scene d.answer.place)) → Gone scene accounts sum (past ++ member_of scene past d ∷ []) ds (after u.payer u.payee u.paid has) n)
          → Gone scene accounts sum past (d ∷ ds) has (suc n)
      joined t rec = record {
        then_has = (rec t).then_has;
        good = subst (λ ms. Good accounts sum ms (rec t).then_has) (append_assoc past (member_of scene past d ∷ []) (take n (rest scene (past ++ member_of scene past d ∷ []) ds))) (rec t).good;
        moves = λ k. two_changes (pos ((rec t).then_has k)) (pos (after t.payer t.payee t.paid has k)) (pos (has k)) (added k (script_at scene d.answer.place)) (shifts scene k (take n ds))
            ((rec t).moves k) (moved_after past d ds go sum has small g t k);
      }

  -- ---- the first commit

  -- it is the opening
  pub first_opens : (d : Commit) (ds : List Commit) → Goes scene all [] (d ∷ ds) → d.answer.place ≡ opening_place
  first_opens d ds go = elim (cases_place d.answer.place) [ inl e ↦ e | inr n ↦ absurd (unpaid (transfer_here [] d ds go n)) ]
    where
      unpaid : IsTransfer accounts (script_at scene d.answer.place) → ⊥
      unpaid t =
          let p : is_below Absent (pos t.paid) ≡ false = (is_paid_here [] d ds go t).met in
          let q : is_below Absent (pos t.paid) ≡ true = absent_below t.paid t.least in
          absurd (cc (p, q))

  -- no later one is
  pub later_others : (d : Commit) (ds : List Commit) → Goes scene all [] (d ∷ ds) → (c : Commit) → In c ds → c.answer.place ≢ opening_place
  later_others d ds go c h e =
      let p = in_commits all d (go.within d (inl refl)) in
      let q = in_commits all c (go.within c (inr h)) in
      let i = at_in all d.answer p.0 in
      let j = at_in all c.answer q.0 in
      let s : i.0 ≡ j.0 = si.placed.places i.0 j.0 d.answer c.answer i.1 j.1 (first_opens d ds go ∙ sym e) in
      let so : Some d.answer ≡ Some c.answer = sym i.1 ∙ (ap (slice_get all) s ∙ j.1) in
      twice (cc so) p.1 q.1 (go.order.0 c h)
    where
      twice : d.answer ≡ c.answer → IsCommittedAt d.answer d.fc → IsCommittedAt c.answer c.fc → fc_before d.fc d.answer.tx c.fc c.answer.tx ≡ true → ⊥
      twice r p q b =
          let f : d.fc ≡ c.fc = one_time c.answer d.fc c.fc (subst (λ (z : Answer). IsCommittedAt z d.fc) r p) q in
          not_before_itself c.fc c.answer.tx (subst (λ (z : Answer). fc_before c.fc z.tx c.fc c.answer.tx ≡ true) r (subst (λ z. fc_before z d.answer.tx c.fc c.answer.tx ≡ true) f b))

  -- what each account has then
  abbrev pub at_first : Commit → KeyId → ℕ
  at_first d k = unsigned_abs (number_or_zero (value_after (member_of scene [] d ∷ []) k))

  module _ (d : Commit) (ds : List Commit) (go : Goes scene all [] (d ∷ ds)) where
    all_open : list_all opens (script_at scene opening_place) ≡ true
    all_open = (opening_parts (script_at scene opening_place) bank.opening).0

    first_value : (op : Op) → In op (script_at scene opening_place) → value_after (member_of scene [] d ∷ []) (account op) ≡ Num (amount op)
    first_value op h =
        let w : (evaluated scene [] d.answer).writes ≡ (eval (script_at scene opening_place) (look_up [] d.answer.rs.0)).writes =
        ap (λ p. (eval (script_at scene p) (look_up [] d.answer.rs.0)).writes) (first_opens d ds go) in
        let f : found (account op) (evaluated scene [] d.answer).writes ≡ Some (record { key = account op; value = Num (amount op) }) =
        ap (found (account op)) w
        ∙ opened_value (look_up [] d.answer.rs.0) (script_at scene opening_place) op [] [] all_open (opening_parts (script_at scene opening_place) bank.opening).1 h in
        value_wrote [] (member_of scene [] d) (account op) (find_any (account op) (evaluated scene [] d.answer).writes (record { key = account op; value = Num (amount op) }) f)
        ∙ ap (λ (o : Option Write). write_or o Absent) f

    pub first_has : (op : Op) → In op (script_at scene opening_place) → at_first d (account op) ≡ deposit op
    first_has op h = ap (λ (v : Value). unsigned_abs (number_or_zero v)) (first_value op h)

    first_holds : Holds accounts (member_of scene [] d ∷ []) (at_first d)
    first_holds k i = told (account_among (script_at scene opening_place) k (ap (λ ks. is_among ks k) (sym bank.opened) ∙ i))
      where
        told : (op : Op) × (In op (script_at scene opening_place)) × (account op ≡ k) → value_after (member_of scene [] d ∷ []) k ≡ Num (pos (at_first d k))
        told r =
            subst (λ (l : KeyId). value_after (member_of scene [] d ∷ []) l ≡ Num (pos (at_first d l))) r.2
            (first_value r.0 r.1 ∙ (ap (λ (n : ℤ). Num n) (amount_deposit r.0 (all_in opens (script_at scene opening_place) r.0 all_open r.1)) ∙ ap (λ (n : ℕ). Num (pos n)) (sym (first_has r.0 r.1))))

    pub first_good : Good accounts (deposits (script_at scene opening_place)) (member_of scene [] d ∷ []) (at_first d)
    first_good = record {
      holds = first_holds;
      adds_up = ap (sum_by (at_first d)) bank.opened ∙ opened_sum (at_first d) (script_at scene opening_place) first_has;
    }

    pub sum_small : deposits (script_at scene opening_place) < 2 ^ 63
    sum_small = small (deposits (script_at scene opening_place)) (deposits_few (script_at scene opening_place) 16 all_open few_operations)
      where
        small : (s : ℕ) → s ≤ 16 * 2 ^ 31 → s < 2 ^ 63
        small s h = omega arith

        few_operations : length (script_at scene opening_place) ≤ 16
        few_operations = few_at (nth scene.sessions 1) refl
          where
            few_ops : (s : Session) → slice_get scene.sessions 0 ≡ Some s → (o : Option (List Op)) → nth s.txs 1 ≡ o → length (or_none o) ≤ 16
            few_ops s e None q = omega arith
            few_ops s e (Some ops) q = ((limits.sessions 0 s e).scripts 0 ops q).few

            few_at : (o : Option Session) → nth scene.sessions 1 ≡ o → length (ops_at o 1) ≤ 16
            few_at None q = omega arith
            few_at (Some s) q = few_ops s q (nth s.txs 1) refl

    -- after the opening and n more
    pub after_first : (n : ℕ) → Gone scene accounts (deposits (script_at scene opening_place)) (member_of scene [] d ∷ []) ds (at_first d) n
    after_first n = walk (deposits (script_at scene opening_place)) sum_small (member_of scene [] d ∷ []) ds (at_first d) (goes_on [] d ds go) (later_others d ds go) first_good n
