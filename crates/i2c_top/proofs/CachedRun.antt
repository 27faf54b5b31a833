-- Cached scripts as callers: they are ready, what is left of them is what their texts cost, and their run is what it would have been with
-- each hit asked for. The inductions go over the scripts.
use Rattle.i2c_top.proofs.Cited.{◌≡◌, ℕ, zero, suc, ◌+◌, ◌<◌, List, [], ◌∷◌, ◌++◌, length, map, reverse, All, Option, Some, None, sum_by}
use Rattle.i2c_top.proofs.Cited.{refl, sym, ◌∙◌, ap, subst, arith, zero-add, length-map, All-head, All-map, All-tail, length-enumerate_from}
use Rattle.i2c_top.proofs.Cited.{get_or-range_with_len, length-range_with_len, sum_by-cons, slice_get, AllZip, enumerate_from}
use Rattle.i2c_top.proofs.Cited.{range_with_len, option_map_or, Entry, PortCall, Reply, BoardView, Asks, TargetState, tree_of, KeepsReplies}
use Rattle.i2c_top.proofs.Cited.{report_of, Follows, IsOpened, ScriptsAreFair, IsReachOf, commands_of, cost_of_script, left_of}
use Rattle.i2c_top.proofs.Cited.{section_text, CallerView, script_on, Reach, left_at_first, CachedScript, CachedView, cached_asked}
use Rattle.i2c_top.proofs.Cited.{AreReaches, cacheable_devices, asks_in, printed_in, AreReady, left_in, HasRunBy, HasRunOfAny, IsRunBy}
use Rattle.i2c_top.proofs.Cited.{AreOpened, texts_of, cost_of_texts, cached_scripts, HasCachedRun, Result, Ok, Err, IfOk, Status}
use Rattle.std.proofs.lemmas.List.{get_or-map}
use Rattle.std.proofs.lemmas.List.Elements.{All-filter}
use Rattle.cache_laws.specs.Cache.{Cached, answered, cached_asks, unknown}
use Rattle.cache_laws.specs.Order.{IsReplayed}
use Rattle.cache_laws.proofs.Law.{full-replayed}
use Rattle.reg_cache.specs.Cached.{cached, cached_left, cached_on, kept_of}
use Rattle.reg_cache.specs.Cacheable.{cached_texts, is_cacheable, is_kept_by_some}
use Rattle.reg_cache.proofs.CacheLemmas.{cached-opens}
use Rattle.reg_cache.proofs.ScriptLemmas.{asks-touch}
use Rattle.reg_cache.proofs.TouchLemmas.{may-be-cached}
use Rattle.i2c_top.specs.forms.Caches.{cached_printed, cached_row, script_at}
use Rattle.i2c_top.proofs.Numbering.{map-push, numbered-next}
use Rattle.i2c_top.proofs.RunLemmas.{same_asks}

-- it prints what its script prints of all replies
abbrev pub cached_section : CachedScript → List Reply → List ℕ
cached_section s rs = section_text (commands_of s.script) (answered (cached s) rs)

-- ---- the scripts that are opened, each with what it may keep
abbrev pub with_cache : BoardView → List (List ℕ) → ℕ × CallerView → CachedScript
with_cache b texts p = record { script = p.1.script; devices = cacheable_devices b texts p.0 }

abbrev pub all_cached : BoardView → List (List ℕ) → List CallerView → List CachedScript
all_cached b texts ss = map (with_cache b texts) (enumerate_from 0 ss)

pub length-all_cached : (b : BoardView) (texts : List (List ℕ)) (ss : List CallerView) → length (all_cached b texts ss) ≡ length ss
length-all_cached b texts ss = length-map (enumerate_from 0 ss) (with_cache b texts) ∙ length-enumerate_from 0 ss

pub cached-next : (b : BoardView) (texts : List (List ℕ)) (came : List CallerView) (x : CallerView) (n : ℕ) (y : CachedScript)
    → n ≡ length came → y ≡ with_cache b texts (n, x) → all_cached b texts (came ++ x ∷ []) ≡ all_cached b texts came ++ y ∷ []
cached-next b texts came x n y is opened =
    ap (λ ps. map (with_cache b texts) ps) (numbered-next came x n is) ∙ map-push (with_cache b texts) (enumerate_from 0 came) (n, x)
    ∙ ap (λ (z : CachedScript). all_cached b texts came ++ z ∷ []) (sym opened)

pub cached-texts : (b : BoardView) (texts : List (List ℕ)) (ss : List CallerView) (n : ℕ) → AreOpened b ss
    → map (with_cache b texts) (enumerate_from n ss) ≡ map (script_at b texts) (enumerate_from n (texts_of ss))
cached-texts b texts [] n opened = refl
cached-texts b texts (s ∷ ss) n opened =
    ap (λ (k : BoardView). record { script = script_on k s.script.text; devices = cacheable_devices b texts n }
    ∷ map (with_cache b texts) (enumerate_from (n + 1) ss)) (All-head (λ x. IsOpened b x.script.text x) s ss opened).board_is
    ∙ ap (λ (xs : List CachedScript). script_at b texts (n, s.script.text) ∷ xs)
    (cached-texts b texts ss (n + 1) (All-tail (λ x. IsOpened b x.script.text x) s ss opened))

-- what they reach is told by their texts
pub reaches-by-texts : (b : BoardView) (ss : List CallerView) (reaches : List Reach) → AreOpened b ss
    → AllZip (λ s reach. IsReachOf s.script reach) ss reaches → AreReaches b (texts_of ss) reaches
reaches-by-texts b [] [] opened are = tt
reaches-by-texts b [] (r ∷ rs) opened are = absurd are
reaches-by-texts b (s ∷ ss) [] opened are = absurd are
reaches-by-texts b (s ∷ ss) (r ∷ rs) opened are = (
  subst (λ (k : BoardView). IsReachOf (script_on k s.script.text) r)
      (All-head (λ x. IsOpened b x.script.text x) s ss opened).board_is are.0,
  reaches-by-texts b ss rs (All-tail (λ x. IsOpened b x.script.text x) s ss opened) are.1,
)

-- the devices that may be kept are devices of the board
pub kept-there : (b : BoardView) (texts : List (List ℕ)) (c : ℕ) → All (λ d. d < length b.devices) (cacheable_devices b texts c)
kept-there b texts c =
    All-filter (is_cacheable b texts c) (λ d. d < length b.devices) (range_with_len 0 (length b.devices))
    (λ i d low.
    let many = length-range_with_len 0 (length b.devices) in
    let below : i < length b.devices = omega (arith, low, many) in
    let is = get_or-range_with_len 0 (length b.devices) i d below in
    omega (arith, is, below))

-- ---- they are ready, and have left what their texts cost
module _ (b : BoardView) (texts : List (List ℕ)) (callers : List CachedView)
    (are : map (λ (c : CachedView). c.script) callers ≡ cached_scripts b texts) where
  on_board : All (λ (s : CachedScript). s.script.board ≡ b) (map (λ (c : CachedView). c.script) callers)
  on_board =
      subst (λ (ss : List CachedScript). All (λ (s : CachedScript). s.script.board ≡ b) ss) (sym are)
      (All-map (λ (s : CachedScript). s.script.board ≡ b) (script_at b texts) (enumerate_from 0 texts) (λ i d low. refl))

  pub cached-ready : All (λ (c : CachedView). c.taken ≡ []) callers → AreReady cached_row b callers
  cached-ready untaken i d low =
      let many = length-map callers (λ (c : CachedView). c.script) in (
        subst (λ (s : CachedScript). s.script.board ≡ b) (get_or-map (λ (c : CachedView). c.script) callers i d d.script low)
            (on_board i d.script (omega (arith, low, many))),
        untaken i d low,
      )

  pub count-cached : length callers ≡ length texts
  count-cached =
      sym (length-map callers (λ (c : CachedView). c.script)) ∙ ap (λ (ss : List CachedScript). length ss) are
      ∙ length-map (enumerate_from 0 texts) (script_at b texts) ∙ length-enumerate_from 0 texts

  sum-scripts : (cs : List CachedView) → left_in cached_row cs ≡ sum_by (λ (s : CachedScript). cached_left s [])
      (map (λ (c : CachedView). c.script) cs)
  sum-scripts [] = refl
  sum-scripts (c ∷ cs) =
      sum_by-cons (λ (x : CachedView). cached_left x.script []) c cs
      ∙ ap (λ (n : ℕ). cached_left c.script [] + n) (sum-scripts cs)
      ∙ sym (sum_by-cons (λ (s : CachedScript). cached_left s []) c.script (map (λ (x : CachedView). x.script) cs))

  -- no hit comes first
  left-first : ScriptsAreFair → (s : CachedScript) → cached_left s [] ≡ cost_of_script s.script
  left-first fair s =
      ap (λ (rs : List Reply). left_of s.script rs) (cached-opens fair s [] (kept_of s) refl refl).0.whole ∙ left_at_first s.script

  sum-texts : ScriptsAreFair → (n : ℕ) (ts : List (List ℕ))
      → sum_by (λ (s : CachedScript). cached_left s []) (map (script_at b texts) (enumerate_from n ts)) ≡ cost_of_texts b ts
  sum-texts fair n [] = refl
  sum-texts fair n (t ∷ ts) =
      sum_by-cons (λ (s : CachedScript). cached_left s []) (script_at b texts (n, t)) (map (script_at b texts) (enumerate_from (n + 1) ts))
      ∙ ap (λ (k : ℕ). k + sum_by (λ (s : CachedScript). cached_left s []) (map (script_at b texts) (enumerate_from (n + 1) ts)))
      (left-first fair (script_at b texts (n, t)))
      ∙ ap (λ (k : ℕ). cost_of_script (script_on b t) + k) (sum-texts fair (n + 1) ts)
      ∙ sym (sum_by-cons (λ text. cost_of_script (script_on b text)) t ts)

  pub left-cached : ScriptsAreFair → left_in cached_row callers ≡ cost_of_texts b texts
  left-cached fair =
      sum-scripts callers ∙ ap (λ (ss : List CachedScript). sum_by (λ (s : CachedScript). cached_left s []) ss) are ∙ sum-texts fair 0 texts

-- ---- what is told of each by its text
module _ {V : Type 0} (tell : CachedScript → List Reply → V) (none : V) (b : BoardView) (texts : List (List ℕ)) where
  told-from : (ts : List (List ℕ)) (n c : ℕ) (rs : List Reply)
      → option_map_or (λ (s : CachedScript). tell s rs) (slice_get (map (script_at b texts) (enumerate_from n ts)) c) none
      ≡ option_map_or (λ (text : List ℕ). tell (script_at b texts (n + c, text)) rs) (slice_get ts c) none
  told-from [] n c rs = refl
  told-from (t ∷ ts) n zero rs = ap (λ (i : ℕ). tell (script_at b texts (i, t)) rs) (let e : n ≡ n + 0 = omega arith in e)
  told-from (t ∷ ts) n (suc c) rs =
      told-from ts (n + 1) c rs
      ∙ ap (λ (i : ℕ). option_map_or (λ (text : List ℕ). tell (script_at b texts (i, text)) rs) (slice_get ts c) none)
      (let e : n + 1 + c ≡ n + suc c = omega arith in e)

  told-at : (c : ℕ) (rs : List Reply)
      → option_map_or (λ (s : CachedScript). tell s rs) (slice_get (cached_scripts b texts) c) none
      ≡ option_map_or (λ (text : List ℕ). tell (script_at b texts (c, text)) rs) (slice_get texts c) none
  told-at c rs =
      told-from texts 0 c rs
      ∙ ap (λ (i : ℕ). option_map_or (λ (text : List ℕ). tell (script_at b texts (i, text)) rs) (slice_get texts c) none) (zero-add c)

-- what nobody is opened with
abbrev nobody : Cached
nobody = record { asks = λ r. None; left = λ r. 0; kept = [] }

abbrev cached_at : BoardView → List (List ℕ) → ℕ → Option (List ℕ) → Cached
cached_at b texts c o =
    option_map_or (λ (text : List ℕ). cached_on (script_on b text) (map (unknown b) (cacheable_devices b texts c))) o nobody

asks-same : (b : BoardView) (texts : List (List ℕ)) → asks_in cached_asked (cached_scripts b texts) ≡ cached_asks (cached_texts b texts)
asks-same b texts =
    same_asks (asks_in cached_asked (cached_scripts b texts)) (cached_asks (cached_texts b texts))
    (λ c rs. told-at cached_asked None b texts c rs ∙ by c rs (slice_get texts c))
  where
    -- of nobody there is nothing to fill in
    by : (c : ℕ) (rs : List Reply) (o : Option (List ℕ))
        → option_map_or (λ (text : List ℕ). cached_asked (script_at b texts (c, text)) rs) o None
        ≡ (let x : Cached = cached_at b texts c o in x.asks (answered x rs))
    by c rs None = refl
    by c rs (Some text) = refl

printed-same : (b : BoardView) (texts : List (List ℕ)) → printed_in cached_section (cached_scripts b texts) ≡ cached_printed b texts
printed-same b texts = λ i. λ c rs. each c rs i
  where
    by : (c : ℕ) (rs : List Reply) (o : Option (List ℕ))
        → option_map_or (λ (text : List ℕ). cached_section (script_at b texts (c, text)) rs) o []
        ≡ option_map_or (λ (text : List ℕ). section_text (commands_of (script_on b text)) (answered (cached_at b texts c o) rs)) o []
    by c rs None = refl
    by c rs (Some text) = refl

    each : (c : ℕ) (rs : List Reply) → printed_in cached_section (cached_scripts b texts) c rs ≡ cached_printed b texts c rs
    each c rs = told-at cached_section [] b texts c rs ∙ by c rs (slice_get texts c)

-- the flat world that does all transfers, the hits among them, gives each caller all its replies, and leaves the same devices but for
-- the pointers of sensors that are kept
cached-replayed : (b : BoardView) (texts : List (List ℕ)) (logs : List (List PortCall)) (states : List TargetState)
    (counts : List ℕ) (journal : List Entry) → IsRunBy b (length texts) (cached_asks (cached_texts b texts)) logs states counts journal
    → IsReplayed b (cached_texts b texts) (is_kept_by_some b texts) (length texts) (reverse journal) states
cached-replayed b texts logs states counts journal run =
    subst (λ (xs : List TargetState). IsReplayed b (cached_texts b texts) (is_kept_by_some b texts) (length texts) (reverse journal) xs)
    (sym run.left)
    (full-replayed b (tree_of b run.plain run.rules) (cached_texts b texts) (is_kept_by_some b texts)
    (may-be-cached b (tree_of b run.plain run.rules) texts (asks-touch b texts)) (length texts)
    (reverse journal) kept.told kept.defined kept.same)
  where
    kept : KeepsReplies b (cached_asks (cached_texts b texts)) (reverse journal)
    kept = run.legal.replies_kept

-- THE RUN of cached callers
cached-run : (b : BoardView) (texts : List (List ℕ)) (words bytes : List ℕ) (logs : List (List PortCall)) (states : List TargetState)
    (counts : List ℕ) → HasRunOfAny cached_asked cached_section b (cached_scripts b texts) words bytes logs states counts
    → HasCachedRun b texts words bytes logs states counts
cached-run b texts words bytes logs states counts run =
    record { run = whole; replayed = cached-replayed b texts logs states counts run.journal whole.is_run }
  where
    count : length (cached_scripts b texts) ≡ length texts
    count = length-map (enumerate_from 0 texts) (script_at b texts) ∙ length-enumerate_from 0 texts

    whole : HasRunBy b (length texts) (cached_asks (cached_texts b texts)) (cached_printed b texts) (Follows words) bytes logs states counts
    whole =
        record {
          journal = run.journal;
          is_told = run.is_told
              ∙ ap (λ (p : ℕ → List Reply → List ℕ). report_of p (length (cached_scripts b texts)) run.journal) (printed-same b texts)
              ∙ ap (λ (n : ℕ). report_of (cached_printed b texts) n run.journal) count;
          is_run = subst (λ (n : ℕ). IsRunBy b n (cached_asks (cached_texts b texts)) logs states counts run.journal) count
              (subst (λ (a : Asks). IsRunBy b (length (cached_scripts b texts)) a logs states counts run.journal)
              (asks-same b texts) run.is_run);
          ordered = run.ordered;
        }

-- .. as what came of it is told
pub cached-ran : (b : BoardView) (texts : List (List ℕ)) {scripts : List CachedScript} {listed words : List ℕ}
    (logs : List (List PortCall)) (states : List TargetState) (counts : List ℕ) → scripts ≡ cached_scripts b texts → listed ≡ words
    → (r : Result (List ℕ) Status) → IfOk r (λ bytes. HasRunOfAny cached_asked cached_section b scripts listed bytes logs states counts)
    → IfOk r (λ bytes. HasCachedRun b texts words bytes logs states counts)
cached-ran b texts {scripts} {listed} {words} logs states counts are same (Ok bytes) run =
    cached-run b texts words bytes logs states counts
    (subst (λ (ws : List ℕ). HasRunOfAny cached_asked cached_section b (cached_scripts b texts) ws bytes logs states counts) same
    (subst (λ (ss : List CachedScript). HasRunOfAny cached_asked cached_section b ss listed bytes logs states counts) are run))
cached-ran b texts logs states counts are same (Err e) run = tt
