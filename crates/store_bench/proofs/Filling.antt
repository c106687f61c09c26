-- What holds of the versions of a store that is being filled, and of one that a version comes into.
use Rattle.std.proofs.Common.{Bool, List, ap, arith, not, subst, sym, ℕ, ◌+◌, ◌<◌, ◌^◌, ◌≤◌, ◌∙◌, ◌≡◌}
use Rattle.store_bench.specs.Filled.{Held, IsEarlier, IsPlain}
use Rattle.str_base.specs.declared.names.Kind.{Kind}
use Rattle.str_base.specs.declared.names.Kind.TheVariants.{Final}
use Rattle.str_base.specs.declared.names.TxId.{TxId}
use Rattle.str_base.specs.declared.names.Version.{Version}
use Rattle.str_base.specs.Versions.{finalise, insert_version, is_local, without}
use Rattle.version_chain.proofs.Each.{each_finalise, each_insert, each_kept, each_so}
use Rattle.version_chain.specs.ChainLists.{Apart, Each}

-- the next version of the first key is none of those before
pub next_first : (n : ℕ) (w : Version) → w.tx.node.0 ≡ 2 → w.tx.seq ≡ n → (vs : List Version) → Each (Held n 1) vs → Each (Apart w) vs
next_first n w d s vs e =
    each_so (Held n 1) (Apart w) vs (λ v h. λ same_key same_node same_seq. let lt : v.tx.seq < n = h.seq (sym same_node ∙ d) in omega (arith, lt, same_seq, s)) e

-- the version of the next key is none of those before
pub next_other : (n keys : ℕ) (w : Version) → w.key.0 ≡ keys → (vs : List Version) → Each (Held n keys) vs → Each (Apart w) vs
next_other n keys w k vs e =
    each_so (Held n keys) (Apart w) vs (λ v h. λ same_key same_node same_seq. let lt : v.key.0 < keys = h.key in omega (arith, lt, same_key, k)) e

-- the version that comes in is none of those before
pub next_late : (n : ℕ) (w : Version) → w.tx.node.0 ≡ 4 → w.tx.seq ≡ n → (vs : List Version) → Each (IsEarlier n) vs → Each (Apart w) vs
next_late n w d s vs e =
    each_so (IsEarlier n) (Apart w) vs (λ v h. λ same_key same_node same_seq. let lt : v.tx.seq < n = h (sym same_node ∙ d) in omega (arith, lt, same_seq, s)) e

-- one version more
pub more : (n keys m all : ℕ) (w : Version) → n ≤ m → keys ≤ all → Held m all w → (vs : List Version) → Each (Held n keys) vs → Each (Held m all) (insert_version w vs)
more n keys m all w nm ka h vs e =
    each_insert (Held m all) w vs h
    (each_so (Held n keys) (Held m all) vs
    (λ v b. record { seq = λ d. let lt : v.tx.seq < n = b.seq d in omega (arith, lt, nm); key = let lt : v.key.0 < keys = b.key in omega (arith, lt, ka); other = b.other; decided = b.decided; ts = b.ts })
    e)

-- one version more of the first key
pub first_more : (n : ℕ) (w : Version) → w.key.0 ≡ 0 → w.tx ≡ record { node = record { 0 = 2 }; seq = n } → w.ts.0 ≡ 1 + n → w.kind ≡ Final → n < 2 ^ 32
    → (vs us : List Version) → us ≡ insert_version w vs → Each (Held n 1) vs → Each (Held (n + 1) 1) us
first_more n w k t s f lt vs us u e =
    let d : w.tx.node.0 ≡ 2 = ap (λ (x : TxId). x.node.0) t in
    let q : w.tx.seq ≡ n = ap (λ (x : TxId). x.seq) t in
    let h : Held (n + 1) 1 w = record { seq = λ c. omega (arith, q); key = omega (arith, k); other = λ c. omega (arith, d, c); decided = ap (λ (y : Kind). is_local y) f; ts = omega (arith, s, lt) } in
    subst (Each (Held (n + 1) 1)) (sym u) (more n 1 (n + 1) 1 w (omega arith) (omega arith) h vs e)

-- one version more, of the next key
pub other_more : (n keys all : ℕ) (w : Version) → all ≡ keys + 1 → w.key.0 ≡ keys → w.tx.node.0 ≡ 5 → w.ts.0 ≡ 1 → w.kind ≡ Final
    → (vs us : List Version) → us ≡ insert_version w vs → Each (Held n keys) vs → Each (Held n all) us
other_more n keys all w a k d s f vs us u e =
    let h : Held n all w = record { seq = λ c. omega (arith, d, c); key = omega (arith, k, a); other = λ c. omega (arith, d, c); decided = ap (λ (y : Kind). is_local y) f; ts = omega (arith, s) } in
    subst (Each (Held n all)) (sym u) (more n keys n all w (omega arith) (omega (arith, a)) h vs e)

-- one version that comes in
pub more_late : (n : ℕ) (w : Version) → w.tx.seq ≡ n → (vs : List Version) → Each (IsEarlier n) vs → Each (IsEarlier (n + 1)) (insert_version w vs)
more_late n w s vs e =
    each_insert (IsEarlier (n + 1)) w vs (λ d. omega (arith, s))
    (each_so (IsEarlier n) (IsEarlier (n + 1)) vs (λ v b. λ d. let lt : v.tx.seq < n = b d in omega (arith, lt)) e)

-- what a commit leaves
pub late_final : (n : ℕ) (test : Version → Bool) (fc : ℕ) (vs : List Version) → Each (IsEarlier n) vs → Each (IsEarlier n) (finalise test fc vs)
late_final n test fc vs e = each_finalise (IsEarlier n) test fc vs (λ v h. h) e

-- what stays where some are taken out
pub late_kept : (n : ℕ) (test : Version → Bool) (vs : List Version) → Each (IsEarlier n) vs → Each (IsEarlier n) (without test vs)
late_kept n test vs e = each_kept (λ v. not (test v)) (IsEarlier n) vs e

-- a filled store has no own undecided version, and none that is too late
pub held_plain : (n keys : ℕ) (vs : List Version) → Each (Held n keys) vs → Each IsPlain vs
held_plain n keys vs e = each_so (Held n keys) IsPlain vs (λ v h. (h.decided, h.ts)) e

-- and none by node 4
pub held_earlier : (n keys : ℕ) (vs : List Version) → Each (Held n keys) vs → Each (IsEarlier 0) vs
held_earlier n keys vs e = each_so (Held n keys) (IsEarlier 0) vs (λ v h. λ d. absurd (h.other d)) e
