-- Cached callers are fair where those are whose replies they fill in: a hit fits its transfer, so that what is left falls with each.
-- The inductions go over how many hits there are at most.
use Rattle.std.proofs.Common.{◌≡◌, ℕ, zero, suc, ◌+◌, ◌<◌, ◌≤◌, Bool, true, false, cond, not, ◌&&◌, ◌||◌, List, [], ◌∷◌, ◌++◌, drop, length}
use Rattle.std.proofs.Common.{Option, Some, None, eqb, refl, sym, ◌∙◌, ap, subst, arith}
use Rattle.std.proofs.lemmas.Bool.{eqb-true, not-true}
use Rattle.std.proofs.lemmas.List.{append_assoc, append-nil}
use Rattle.std.specs.Prelude.{MatchBool}
use Rattle.std.specs.List.{fold, list_any}
use Rattle.std.specs.Option.{option_map_or}
use Rattle.i2c_base.specs.declared.reply.Reply.{Reply}
use Rattle.i2c_base.specs.declared.transfer.Msg.{Msg}
use Rattle.i2c_base.specs.Board.{BoardView}
use Rattle.i2c_base.specs.Fitting.{Fits, FitsReads, FitsCounted, count_of}
use Rattle.i2c_base.specs.Transfer.{TransferView, is_read, is_counted}
use Rattle.i2c_spec.specs.Cost.{cost_of}
use Rattle.i2c_spec.specs.Fair.{IsFairCaller}
use Rattle.cache_laws.specs.Cache.{Pair, Access, Kept, Filled, is_kept, writes_just, reads_just, access_by, access_of, pair_at, reply_of}
use Rattle.cache_laws.specs.Cache.{hit, hits_from, learned, known_from, known, with_hits, all_of, more_filled, filled, answered}
use Rattle.cache_laws.specs.Cache.{asked_cached, left_cached, one_stripped, stripped_from, stripped}
use Rattle.cache_laws.specs.Fair.{cached_of, LeavesHitsOut}
use Rattle.cache_laws.proofs.Known.{if_access, hit_parts}
use Rattle.cache_laws.proofs.Law.{filled-is, filled-more}
use Rattle.i2c_base.proofs.Booleans.{and_first, and_last}

-- a reply of two bytes fits a write and a read of two
fits_two : (w m : Msg) (high low : ℕ) → is_read w ≡ false → is_read m ≡ true → is_counted m ≡ false → m.len ≡ 2
    → FitsReads (w ∷ m ∷ []) (high ∷ low ∷ [])
fits_two w m high low not_read reads plain two =
    subst (λ (z : Bool). MatchBool z
    (MatchBool (is_counted w) (FitsCounted w (high ∷ low ∷ []) × FitsReads (m ∷ []) (drop (w.len + count_of (high ∷ low ∷ []))
    (high ∷ low ∷ [])))
    ((w.len ≤ length (high ∷ low ∷ [])) × FitsReads (m ∷ []) (drop w.len (high ∷ low ∷ []))))
    (FitsReads (m ∷ []) (high ∷ low ∷ []))) (sym not_read)
    (subst (λ (z : Bool). MatchBool z
    (MatchBool (is_counted m) (FitsCounted m (high ∷ low ∷ []) × FitsReads [] (drop (m.len + count_of (high ∷ low ∷ [])) (high ∷ low ∷ [])))
    ((m.len ≤ length (high ∷ low ∷ [])) × FitsReads [] (drop m.len (high ∷ low ∷ []))))
    (FitsReads [] (high ∷ low ∷ []))) (sym reads)
    (subst (λ (z : Bool). MatchBool z (FitsCounted m (high ∷ low ∷ [])
    × FitsReads [] (drop (m.len + count_of (high ∷ low ∷ [])) (high ∷ low ∷ [])))
    ((m.len ≤ length (high ∷ low ∷ [])) × FitsReads [] (drop m.len (high ∷ low ∷ [])))) (sym plain)
    (subst (λ (n : ℕ). (n ≤ length (high ∷ low ∷ [])) × FitsReads [] (drop n (high ∷ low ∷ []))) (sym two) (omega arith, refl))))

by_reads : (bus : ℕ) (msgs : List Msg) (out : List ℕ) (a : Access) → access_by bus msgs out ≡ Some a → a.sent ≡ None → (p : Pair)
    → (list_any is_read msgs ≡ true) × FitsReads msgs (p.high ∷ p.low ∷ [])
by_reads bus [] out a e none p = absurd (let f : None ≡ Some a = e in cc)
by_reads bus (w ∷ []) [] a e none p = absurd (let f : None ≡ Some a = e in cc)
by_reads bus (w ∷ []) (r ∷ []) a e none p = absurd (let f : None ≡ Some a = e in cc)
by_reads bus (w ∷ []) (r ∷ high ∷ []) a e none p = absurd (let f : None ≡ Some a = e in cc)
by_reads bus (w ∷ []) (r ∷ high ∷ low ∷ []) a e none p =
    let h = if_access (writes_just 3 w && is_kept r)
    (record { bus = bus; addr = w.addr; register = r; sent = Some (record { high = high; low = low }) }) a e in
    absurd (let f : Some (record { high = high; low = low }) ≡ None = ap (λ (z : Access). z.sent) h.1 ∙ none in cc)
by_reads bus (w ∷ []) (r ∷ high ∷ low ∷ more ∷ out) a e none p = absurd (let f : None ≡ Some a = e in cc)
by_reads bus (w ∷ m ∷ []) [] a e none p = absurd (let f : None ≡ Some a = e in cc)
by_reads bus (w ∷ m ∷ []) (r ∷ []) a e none p =
    let h = if_access (writes_just 1 w && (reads_just 2 m && (eqb w.addr m.addr && is_kept r)))
    (record { bus = bus; addr = w.addr; register = r; sent = None }) a e in
    let first : writes_just 1 w ≡ true = and_first (writes_just 1 w) (reads_just 2 m && (eqb w.addr m.addr && is_kept r)) h.0 in
    let second : reads_just 2 m ≡ true =
    and_first (reads_just 2 m) (eqb w.addr m.addr && is_kept r) (and_last (writes_just 1 w)
    (reads_just 2 m && (eqb w.addr m.addr && is_kept r)) h.0) in
    let not_read : is_read w ≡ false = not-true (is_read w) (and_first (not (is_read w)) (eqb w.len 1) first) in
    let reads : is_read m ≡ true = and_first (is_read m) (not (is_counted m) && eqb m.len 2) second in
    let rest : (not (is_counted m) && eqb m.len 2) ≡ true = and_last (is_read m) (not (is_counted m) && eqb m.len 2) second in
    let plain : is_counted m ≡ false = not-true (is_counted m) (and_first (not (is_counted m)) (eqb m.len 2) rest) in
    let two : m.len ≡ 2 = eqb-true m.len 2 (and_last (not (is_counted m)) (eqb m.len 2) rest) in (
      ap (λ (z : Bool). z || (is_read m || false)) not_read ∙ ap (λ (z : Bool). z || false) reads,
      fits_two w m p.high p.low not_read reads plain two,
    )
by_reads bus (w ∷ m ∷ []) (r ∷ x ∷ out) a e none p = absurd (let f : None ≡ Some a = e in cc)
by_reads bus (w ∷ m ∷ n ∷ msgs) out a e none p = absurd (let f : None ≡ Some a = e in cc)

-- A HIT FITS its transfer
pub hit-fits : (ks : List Kept) (t : TransferView) (answer : Reply) → hit ks (Some t) ≡ Some answer → Fits t answer
hit-fits ks t answer e = subst (λ (r : Reply). Fits t r) (sym parts.5) (by t.force refl)
  where
    parts : (a : Access) × (p : Pair) × (access_of t ≡ Some a) × (a.sent ≡ None) × (pair_at ks a ≡ Some p) × (answer ≡ reply_of p)
    parts = hit_parts ks (access_of t) answer e

    by : (z : Bool) → t.force ≡ z → Fits t (reply_of parts.1)
    by false f =
        absurd (let g : None ≡ Some parts.0 = sym (ap (λ (z : Bool). cond z (access_by t.bus t.msgs t.out) None) f) ∙ parts.2 in cc)
    by true f =
        by_reads t.bus t.msgs t.out parts.0 (sym (ap (λ (z : Bool). cond z (access_by t.bus t.msgs t.out) None) f)
        ∙ parts.2) parts.3 parts.1

module _ {S : Type 0} (asked : S → List Reply → Option TransferView) (left : S → List Reply → ℕ) (board : S → BoardView)
    (fair : IsFairCaller asked left board) (kept : S → List Kept) (s : S) where
  -- what is left falls with a hit, whatever tells it
  pub hit-falls : (ks : List Kept) (rs : List Reply) (answer : Reply) → hit ks (asked s rs) ≡ Some answer
      → left s (rs ++ answer ∷ []) < left s rs
  hit-falls ks rs answer is = by (asked s rs) refl
    where
      by : (o : Option TransferView) → asked s rs ≡ o → left s (rs ++ answer ∷ []) < left s rs
      by None e = absurd (let f : None ≡ Some answer = sym (ap (λ (z : Option TransferView). hit ks z) e) ∙ is in cc)
      by (Some t) e =
          let falls : left s (rs ++ answer ∷ []) + cost_of (board s) t ≤ left s rs =
          fair.falls s rs t answer e (hit-fits ks t answer (ap (λ (z : Option TransferView). hit ks z) (sym e) ∙ is)) in
          let costs : 1 ≤ cost_of (board s) t = fair.costs s rs t e in
          omega (arith, falls, costs)

  hit_falls : (rs : List Reply) (answer : Reply) → hit (known (asked s) (kept s) rs) (asked s rs) ≡ Some answer
      → left s (rs ++ answer ∷ []) < left s rs
  hit_falls rs answer is = hit-falls (known (asked s) (kept s) rs) rs answer is

  hits_fall : (n : ℕ) (rs : List Reply) → left s (rs ++ hits_from (asked s) (kept s) n rs) ≤ left s rs
  hits_fall zero rs = subst (λ (l : List Reply). left s l ≤ left s rs) (sym (append-nil rs)) (omega arith)
  hits_fall (suc n) rs = by (hit (known (asked s) (kept s) rs) (asked s rs)) refl (λ r. hits_fall n (rs ++ r ∷ []))
    where
      by : (o : Option Reply) → hit (known (asked s) (kept s) rs) (asked s rs) ≡ o
          → ((r : Reply) → left s ((rs ++ r ∷ []) ++ hits_from (asked s) (kept s) n (rs ++ r ∷ [])) ≤ left s (rs ++ r ∷ []))
          → left s (rs ++ option_map_or (λ (r : Reply). r ∷ hits_from (asked s) (kept s) n (rs ++ r ∷ []))
          (hit (known (asked s) (kept s) rs) (asked s rs)) []) ≤ left s rs
      by None e more =
          subst (λ (z : Option Reply). left s (rs ++ option_map_or (λ (r : Reply). r ∷ hits_from (asked s) (kept s) n (rs ++ r ∷ [])) z [])
          ≤ left s rs)
          (sym e) (subst (λ (l : List Reply). left s l ≤ left s rs) (sym (append-nil rs)) (omega arith))
      by (Some r) e more =
          subst (λ (z : Option Reply). left s (rs ++ option_map_or (λ (q : Reply). q ∷ hits_from (asked s) (kept s) n (rs ++ q ∷ [])) z [])
          ≤ left s rs)
          (sym e)
          (subst (λ (l : List Reply). left s l ≤ left s rs) (append_assoc rs (r ∷ []) (hits_from (asked s) (kept s) n (rs ++ r ∷ [])))
          (let one : left s (rs ++ r ∷ []) < left s rs = hit_falls rs r e in
          let rest : left s ((rs ++ r ∷ []) ++ hits_from (asked s) (kept s) n (rs ++ r ∷ [])) ≤ left s (rs ++ r ∷ []) = more r in
          omega (arith, one, rest)))

  -- so none is left behind as many as are left
  none_left : (n : ℕ) (rs : List Reply) → left s rs ≤ n
      → hit (known (asked s) (kept s) (rs ++ hits_from (asked s) (kept s) n rs)) (asked s (rs ++ hits_from (asked s) (kept s) n rs)) ≡ None
  none_left zero rs le =
      subst (λ (l : List Reply). hit (known (asked s) (kept s) l) (asked s l) ≡ None) (sym (append-nil rs))
      (by (hit (known (asked s) (kept s) rs) (asked s rs)) refl)
    where
      by : (o : Option Reply) → hit (known (asked s) (kept s) rs) (asked s rs) ≡ o → hit (known (asked s) (kept s) rs) (asked s rs) ≡ None
      by None e = e
      by (Some r) e = absurd (let one : left s (rs ++ r ∷ []) < left s rs = hit_falls rs r e in omega (arith, one, le))
  none_left (suc n) rs le =
      by (hit (known (asked s) (kept s) rs) (asked s rs)) refl (λ r. none_left n (rs ++ r ∷ []))
    where
      by : (o : Option Reply) → hit (known (asked s) (kept s) rs) (asked s rs) ≡ o
          → ((r : Reply) → left s (rs ++ r ∷ []) ≤ n
          → hit (known (asked s) (kept s) ((rs ++ r ∷ []) ++ hits_from (asked s) (kept s) n (rs ++ r ∷ [])))
          (asked s ((rs ++ r ∷ []) ++ hits_from (asked s) (kept s) n (rs ++ r ∷ []))) ≡ None)
          → hit (known (asked s) (kept s) (rs ++ option_map_or (λ (r : Reply). r ∷ hits_from (asked s) (kept s) n (rs ++ r ∷ []))
          (hit (known (asked s) (kept s) rs) (asked s rs)) []))
          (asked s (rs ++ option_map_or (λ (r : Reply). r ∷ hits_from (asked s) (kept s) n (rs ++ r ∷ []))
          (hit (known (asked s) (kept s) rs) (asked s rs)) [])) ≡ None
      by None e more =
          subst (λ (z : Option Reply). hit (known (asked s) (kept s)
          (rs ++ option_map_or (λ (r : Reply). r ∷ hits_from (asked s) (kept s) n (rs ++ r ∷ [])) z []))
          (asked s (rs ++ option_map_or (λ (r : Reply). r ∷ hits_from (asked s) (kept s) n (rs ++ r ∷ [])) z [])) ≡ None) (sym e)
          (subst (λ (l : List Reply). hit (known (asked s) (kept s) l) (asked s l) ≡ None) (sym (append-nil rs)) e)
      by (Some r) e more =
          subst (λ (z : Option Reply). hit (known (asked s) (kept s)
          (rs ++ option_map_or (λ (q : Reply). q ∷ hits_from (asked s) (kept s) n (rs ++ q ∷ [])) z []))
          (asked s (rs ++ option_map_or (λ (q : Reply). q ∷ hits_from (asked s) (kept s) n (rs ++ q ∷ [])) z [])) ≡ None) (sym e)
          (subst (λ (l : List Reply). hit (known (asked s) (kept s) l) (asked s l) ≡ None) (append_assoc rs (r ∷ [])
          (hits_from (asked s) (kept s) n (rs ++ r ∷ [])))
          (more r (let one : left s (rs ++ r ∷ []) < left s rs = hit_falls rs r e in omega (arith, one, le))))

  pub leaves-hits-out : LeavesHitsOut (cached_of asked left kept s)
  leaves-hits-out =
      record {
        none = λ rs. (
            subst (λ (l : List Reply). hit (known (asked s) (kept s) l) (asked s l) ≡ None)
            (sym (ap (λ (z : Filled). all_of z) (filled-is (cached_of asked left kept s) rs)))
            (none_left (left s (filled (cached_of asked left kept s) rs).full) (filled (cached_of asked left kept s) rs).full
            (omega arith)));
      }

  answered_falls : (rs : List Reply) (t : TransferView) (r : Reply) → asked_cached (cached_of asked left kept s) rs ≡ Some t → Fits t r
      → left_cached (cached_of asked left kept s) (rs ++ r ∷ []) + cost_of (board s) t ≤ left_cached (cached_of asked left kept s) rs
  answered_falls rs t r asks fits =
      let falls : left s (answered (cached_of asked left kept s) rs ++ r ∷ []) + cost_of (board s) t ≤ left s
      (answered (cached_of asked left kept s) rs) =
      fair.falls s (answered (cached_of asked left kept s) rs) t r asks fits in
      let more : left s (answered (cached_of asked left kept s) (rs ++ r ∷ [])) ≤ left s (answered
      (cached_of asked left kept s) rs ++ r ∷ []) =
      subst (λ (z : Filled). left s (all_of z) ≤ left s (answered (cached_of asked left kept s) rs ++ r ∷ []))
      (sym (filled-more (cached_of asked left kept s) rs r))
      (hits_fall (left s (answered (cached_of asked left kept s) rs ++ r ∷ [])) (answered (cached_of asked left kept s) rs ++ r ∷ [])) in
      omega (arith, falls, more)

-- CACHED CALLERS ARE FAIR
pub cached-fair : {S : Type 0} (asked : S → List Reply → Option TransferView) (left : S → List Reply → ℕ) (board : S → BoardView)
    → IsFairCaller asked left board → (kept : S → List Kept)
    → IsFairCaller (λ s. asked_cached (cached_of asked left kept s)) (λ s. left_cached (cached_of asked left kept s)) board
cached-fair asked left board fair kept =
    record {
      sends = λ s rs t e. fair.sends s (answered (cached_of asked left kept s) rs) t e;
      limits = λ s rs t e. fair.limits s (answered (cached_of asked left kept s) rs) t e;
      costs = λ s rs t e. fair.costs s (answered (cached_of asked left kept s) rs) t e;
      falls = λ s rs t r e fits. answered_falls asked left board fair kept s rs t r e fits;
    }

-- THE REPLIES OVER THE BUS can be told from all replies
module _ {S : Type 0} (asked : S → List Reply → Option TransferView) (left : S → List Reply → ℕ) (board : S → BoardView)
    (fair : IsFairCaller asked left board) (kept : S → List Kept) (s : S) where
  stripped_more : (ks : List Kept) (past rs : List Reply) (r : Reply)
      → stripped_from (asked s) ks past (rs ++ r ∷ [])
      ≡ stripped_from (asked s) ks past rs ++ one_stripped (hit (known_from (asked s) ks past rs) (asked s (past ++ rs))) r
  stripped_more ks past [] r =
      ap (λ (l : List Reply). one_stripped (hit ks (asked s l)) r ++ []) (sym (append-nil past))
      ∙ append-nil (one_stripped (hit ks (asked s (past ++ []))) r)
  stripped_more ks past (x ∷ rs) r =
      ap (λ (l : List Reply). one_stripped (hit ks (asked s past)) x ++ l) (stripped_more (learned ks (asked s past) x)
      (past ++ x ∷ []) rs r)
      ∙ sym (append_assoc (one_stripped (hit ks (asked s past)) x) (stripped_from (asked s) (learned ks (asked s past) x)
      (past ++ x ∷ []) rs)
      (one_stripped (hit (known_from (asked s) (learned ks (asked s past) x) (past ++ x ∷ []) rs) (asked s ((past ++ x ∷ []) ++ rs))) r))
      ∙ ap (λ (l : List Reply). (one_stripped (hit ks (asked s past)) x ++ stripped_from (asked s) (learned ks (asked s past) x)
      (past ++ x ∷ []) rs)
      ++ one_stripped (hit (known_from (asked s) (learned ks (asked s past) x) (past ++ x ∷ []) rs) (asked s l)) r)
      (append_assoc past (x ∷ []) rs)

  stripped-snoc : (rs : List Reply) (r : Reply)
      → stripped (asked s) (kept s) (rs ++ r ∷ []) ≡ stripped (asked s) (kept s) rs ++ one_stripped
      (hit (known (asked s) (kept s) rs) (asked s rs)) r
  stripped-snoc rs r = stripped_more (kept s) [] rs r

  -- hits are passed over
  stripped-hits : (n : ℕ) (rs : List Reply) → stripped (asked s) (kept s) (rs ++ hits_from (asked s) (kept s) n rs) ≡ stripped (asked s)
      (kept s) rs
  stripped-hits zero rs = ap (λ (l : List Reply). stripped (asked s) (kept s) l) (append-nil rs)
  stripped-hits (suc n) rs = by (hit (known (asked s) (kept s) rs) (asked s rs)) refl (λ r. stripped-hits n (rs ++ r ∷ []))
    where
      by : (o : Option Reply) → hit (known (asked s) (kept s) rs) (asked s rs) ≡ o
          → ((r : Reply) → stripped (asked s) (kept s) ((rs ++ r ∷ []) ++ hits_from (asked s) (kept s) n (rs ++ r ∷ [])) ≡ stripped
          (asked s) (kept s) (rs ++ r ∷ []))
          → stripped (asked s) (kept s) (rs ++ option_map_or (λ (r : Reply). r ∷ hits_from (asked s) (kept s) n (rs ++ r ∷ []))
          (hit (known (asked s) (kept s) rs) (asked s rs)) []) ≡ stripped (asked s) (kept s) rs
      by None e more =
          ap (λ (z : Option Reply). stripped (asked s) (kept s) (rs ++ option_map_or (λ (r : Reply). r ∷ hits_from (asked s) (kept s) n
          (rs ++ r ∷ [])) z [])) e
          ∙ ap (λ (l : List Reply). stripped (asked s) (kept s) l) (append-nil rs)
      by (Some r) e more =
          ap (λ (z : Option Reply). stripped (asked s) (kept s) (rs ++ option_map_or (λ (q : Reply). q ∷ hits_from (asked s) (kept s) n
          (rs ++ q ∷ [])) z [])) e
          ∙ ap (λ (l : List Reply). stripped (asked s) (kept s) l)
          (sym (append_assoc rs (r ∷ []) (hits_from (asked s) (kept s) n (rs ++ r ∷ []))))
          ∙ more r ∙ stripped-snoc rs r
          ∙ ap (λ (z : Option Reply). stripped (asked s) (kept s) rs ++ one_stripped z r) e ∙ append-nil (stripped (asked s) (kept s) rs)

  -- enough is as good as more
  hits-enough : (n m : ℕ) (rs : List Reply) → left s rs ≤ n → left s rs ≤ m → hits_from (asked s) (kept s) n rs ≡ hits_from (asked s)
      (kept s) m rs
  hits-enough zero zero rs le lf = refl
  hits-enough zero (suc m) rs le lf = by (hit (known (asked s) (kept s) rs) (asked s rs)) refl
    where
      by : (o : Option Reply) → hit (known (asked s) (kept s) rs) (asked s rs) ≡ o
          → [] ≡ option_map_or (λ (r : Reply). r ∷ hits_from (asked s) (kept s) m (rs ++ r ∷ []))
          (hit (known (asked s) (kept s) rs) (asked s rs)) []
      by None e = sym (ap (λ (z : Option Reply). option_map_or (λ (r : Reply). r ∷ hits_from (asked s) (kept s) m (rs ++ r ∷ [])) z []) e)
      by (Some r) e = absurd (let one : left s (rs ++ r ∷ []) < left s rs = hit_falls asked left board fair kept s rs r e in
          omega (arith, one, le))
  hits-enough (suc n) zero rs le lf = sym (by (hit (known (asked s) (kept s) rs) (asked s rs)) refl)
    where
      by : (o : Option Reply) → hit (known (asked s) (kept s) rs) (asked s rs) ≡ o
          → [] ≡ option_map_or (λ (r : Reply). r ∷ hits_from (asked s) (kept s) n (rs ++ r ∷ []))
          (hit (known (asked s) (kept s) rs) (asked s rs)) []
      by None e = sym (ap (λ (z : Option Reply). option_map_or (λ (r : Reply). r ∷ hits_from (asked s) (kept s) n (rs ++ r ∷ [])) z []) e)
      by (Some r) e = absurd (let one : left s (rs ++ r ∷ []) < left s rs = hit_falls asked left board fair kept s rs r e in
          omega (arith, one, lf))
  hits-enough (suc n) (suc m) rs le lf =
      by (hit (known (asked s) (kept s) rs) (asked s rs)) refl (λ r. hits-enough n m (rs ++ r ∷ []))
    where
      by : (o : Option Reply) → hit (known (asked s) (kept s) rs) (asked s rs) ≡ o
          → ((r : Reply) → left s (rs ++ r ∷ []) ≤ n → left s (rs ++ r ∷ []) ≤ m
          → hits_from (asked s) (kept s) n (rs ++ r ∷ []) ≡ hits_from (asked s) (kept s) m (rs ++ r ∷ []))
          → option_map_or (λ (r : Reply). r ∷ hits_from (asked s) (kept s) n (rs ++ r ∷ []))
          (hit (known (asked s) (kept s) rs) (asked s rs)) []
          ≡ option_map_or (λ (r : Reply). r ∷ hits_from (asked s) (kept s) m (rs ++ r ∷ []))
          (hit (known (asked s) (kept s) rs) (asked s rs)) []
      by None e more =
          ap (λ (z : Option Reply). option_map_or (λ (r : Reply). r ∷ hits_from (asked s) (kept s) n (rs ++ r ∷ [])) z []) e
          ∙ sym (ap (λ (z : Option Reply). option_map_or (λ (r : Reply). r ∷ hits_from (asked s) (kept s) m (rs ++ r ∷ [])) z []) e)
      by (Some r) e more =
          let one : left s (rs ++ r ∷ []) < left s rs = hit_falls asked left board fair kept s rs r e in
          ap (λ (z : Option Reply). option_map_or (λ (q : Reply). q ∷ hits_from (asked s) (kept s) n (rs ++ q ∷ [])) z []) e
          ∙ ap (λ (l : List Reply). r ∷ l) (more r (omega (arith, one, le)) (omega (arith, one, lf)))
          ∙ sym (ap (λ (z : Option Reply). option_map_or (λ (q : Reply). q ∷ hits_from (asked s) (kept s) m (rs ++ q ∷ [])) z []) e)

  -- after a hit the same come as before it; and where none comes, none does
  pub hits-one : (rs : List Reply) (r : Reply) → hit (known (asked s) (kept s) rs) (asked s rs) ≡ Some r
      → all_of (with_hits (cached_of asked left kept s) (rs ++ r ∷ [])) ≡ all_of (with_hits (cached_of asked left kept s) rs)
  hits-one rs r e = by (left s rs) refl
    where
      by : (n : ℕ) → left s rs ≡ n
          → (rs ++ r ∷ []) ++ hits_from (asked s) (kept s) (left s (rs ++ r ∷ [])) (rs ++ r ∷ []) ≡ rs ++ hits_from (asked s) (kept s)
          (left s rs) rs
      by zero f = absurd (let one : left s (rs ++ r ∷ []) < left s rs = hit_falls asked left board fair kept s rs r e in
          omega (arith, one, f))
      by (suc n) f =
          let one : left s (rs ++ r ∷ []) < left s rs = hit_falls asked left board fair kept s rs r e in
          append_assoc rs (r ∷ []) (hits_from (asked s) (kept s) (left s (rs ++ r ∷ [])) (rs ++ r ∷ []))
          ∙ ap (λ (l : List Reply). rs ++ (r ∷ l)) (hits-enough (left s (rs ++ r ∷ [])) n (rs ++ r ∷ []) (omega arith)
          (omega (arith, one, f)))
          ∙ sym (ap (λ (z : Option Reply). rs ++ option_map_or (λ (q : Reply). q ∷ hits_from (asked s) (kept s) n (rs ++ q ∷ [])) z []) e)
          ∙ ap (λ (i : ℕ). rs ++ hits_from (asked s) (kept s) i rs) (sym f)

  pub hits-over : (rs : List Reply) → hit (known (asked s) (kept s) rs) (asked s rs) ≡ None
      → all_of (with_hits (cached_of asked left kept s) rs) ≡ rs
  hits-over rs e = by (left s rs)
    where
      by : (n : ℕ) → rs ++ hits_from (asked s) (kept s) n rs ≡ rs
      by zero = append-nil rs
      by (suc n) =
          ap (λ (z : Option Reply). rs ++ option_map_or (λ (q : Reply). q ∷ hits_from (asked s) (kept s) n (rs ++ q ∷ [])) z []) e
          ∙ append-nil rs

  stripped_fold : (f rs : List Reply)
      → stripped (asked s) (kept s) (all_of (fold (more_filled (cached_of asked left kept s))
      (with_hits (cached_of asked left kept s) f) rs))
      ≡ stripped (asked s) (kept s) f ++ rs
  stripped_fold f [] = stripped-hits (left s f) f ∙ sym (append-nil (stripped (asked s) (kept s) f))
  stripped_fold f (r ∷ rs) =
      stripped_fold (all_of (with_hits (cached_of asked left kept s) f) ++ r ∷ []) rs
      ∙ ap (λ (l : List Reply). l ++ rs)
      (stripped-snoc (all_of (with_hits (cached_of asked left kept s) f)) r
      ∙ ap (λ (z : Option Reply). stripped (asked s) (kept s) (all_of (with_hits (cached_of asked left kept s) f)) ++ one_stripped z r)
      (none_left asked left board fair kept s (left s f) f (omega arith))
      ∙ ap (λ (l : List Reply). l ++ r ∷ []) (stripped-hits (left s f) f))
      ∙ append_assoc (stripped (asked s) (kept s) f) (r ∷ []) rs

  pub stripped-answered : (rs : List Reply) → stripped (asked s) (kept s) (answered (cached_of asked left kept s) rs) ≡ rs
  stripped-answered rs = stripped_fold [] rs
