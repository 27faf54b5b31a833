-- A hit and what follows it, of scripts that are fair.
use Rattle.reg_cache.proofs.Cited.{◌≡◌, ℕ, ◌<◌, Bool, true, false, cond, eqb, map, List, [], ◌∷◌, ◌++◌, length, Option, Some, None, arith}
use Rattle.reg_cache.proofs.Cited.{refl, sym, ◌∙◌, ap, subst, is_some, option_and_then, BoardView, Reply, TransferView, Covers, owed_by}
use Rattle.reg_cache.proofs.Cited.{asked_by, left_of, ScriptView, Kept, pair_at, unknown, hit, known, all_of, with_hits, answered}
use Rattle.reg_cache.proofs.Cited.{CachedScript, CachedView, cached_asked, cached_on, cached, taken_of, IsCached, HasAnswered}
use Rattle.reg_cache.proofs.Cited.{HasAnsweredAll}
use Rattle.std.specs.Option.{option_map}
use Rattle.i2c_base.specs.Need.{Need}
use Rattle.caller_core.specs.Callers.{ScriptsAreFair, board_of}
use Rattle.cache_laws.specs.declared.registers.Access.{Access}
use Rattle.cache_laws.specs.declared.registers.Pair.{Pair}
use Rattle.cache_laws.specs.Cache.{Filled, access_of, is_at, reply_of, hit_by, learned, learned_by}
use Rattle.cache_laws.proofs.Law.{known-more, filled-more}
use Rattle.cache_laws.proofs.Fair.{hit-falls, hits-one, hits-over, stripped-answered, cached-fair}
use Rattle.reg_cache.specs.Cached.{cached_owed, kept_of, CachedScriptsAreFair}

-- what is left of the script falls
pub answered-falls : ScriptsAreFair → (s : ScriptView) (before after : List Reply) (kept new : List Kept)
    → HasAnswered s before after kept new → left_of s after < left_of s before
answered-falls fair s before after kept new h =
    subst (λ (l : List Reply). left_of s l < left_of s before) (sym h.taken)
    (hit-falls asked_by left_of board_of fair (λ x. kept) s kept before h.reply h.is_hit)

-- and what is known and what is still to come stay as they should
pub answered-knows : (s : ScriptView) (before after : List Reply) (kept new : List Kept) (ks : List Kept)
    → kept ≡ known (asked_by s) ks before → HasAnswered s before after kept new → new ≡ known (asked_by s) ks after
answered-knows s before after kept new ks is h =
    h.learns ∙ ap (λ (js : List Kept). learned js (asked_by s before) h.reply) is ∙ sym (known-more (asked_by s) ks before h.reply)
    ∙ ap (λ (l : List Reply). known (asked_by s) ks l) (sym h.taken)

pub answered-same : ScriptsAreFair → (s : ScriptView) (before after : List Reply) (kept new : List Kept) (ks : List Kept)
    → kept ≡ known (asked_by s) ks before → HasAnswered s before after kept new
    → all_of (with_hits (cached_on s ks) after) ≡ all_of (with_hits (cached_on s ks) before)
answered-same fair s before after kept new ks is h =
    ap (λ (l : List Reply). all_of (with_hits (cached_on s ks) l)) h.taken
    ∙ hits-one asked_by left_of board_of fair (λ x. ks) s before h.reply
    (ap (λ (js : List Kept). hit js (asked_by s before)) (sym is) ∙ h.is_hit)

-- where none comes, all were answered
pub answered-all : ScriptsAreFair → (s : ScriptView) (taken : List Reply) (kept ks : List Kept)
    → kept ≡ known (asked_by s) ks taken → hit kept (asked_by s taken) ≡ None → all_of (with_hits (cached_on s ks) taken) ≡ taken
answered-all fair s taken kept ks is none =
    hits-over asked_by left_of board_of fair (λ x. ks) s taken (ap (λ (js : List Kept). hit js (asked_by s taken)) (sym is) ∙ none)

-- A REPLY TAKEN, and the hits after it answered
pub record IsTaken (s : CachedScript) (full new : List Reply) (reply : Reply) (kept : List Kept) : Type 0 where
  pub cached : IsCached s new kept
  pub taken : taken_of s new ≡ taken_of s full ++ reply ∷ []

pub take-all : ScriptsAreFair → (s : CachedScript) (full new : List Reply) (reply : Reply) (kept learns after : List Kept)
    (t : TransferView)
    → IsCached s full kept → asked_by s.script full ≡ Some t → learns ≡ learned kept (Some t) reply
    → ((ks : List Kept) → learns ≡ known (asked_by s.script) ks (full ++ reply ∷ []) → HasAnsweredAll s.script ks
    (full ++ reply ∷ []) new after)
    → IsTaken s full new reply after
take-all fair s full new reply kept learns after t is asks learns_is all =
    record {
      cached = record { whole = ap (λ (l : List Reply). answered (cached s) l) taken ∙ sym new_is; knows = told.knows };
      taken = taken;
    }
  where
    told : HasAnsweredAll s.script (kept_of s) (full ++ reply ∷ []) new after
    told =
        all (kept_of s)
        (learns_is ∙ ap (λ (js : List Kept). learned js (Some t) reply) is.knows
        ∙ ap (λ (o : Option TransferView). learned (known (asked_by s.script) (kept_of s) full) o reply) (sym asks)
        ∙ sym (known-more (asked_by s.script) (kept_of s) full reply))

    new_is : new ≡ answered (cached s) (taken_of s full ++ reply ∷ [])
    new_is =
        told.taken ∙ ap (λ (l : List Reply). all_of (with_hits (cached s) (l ++ reply ∷ []))) (sym is.whole)
        ∙ sym (ap (λ (z : Filled). all_of z) (filled-more (cached s) (taken_of s full) reply))

    taken : taken_of s new ≡ taken_of s full ++ reply ∷ []
    taken =
        ap (λ (l : List Reply). taken_of s l) new_is
        ∙ stripped-answered asked_by left_of board_of fair (λ x. kept_of s) s.script (taken_of s full ++ reply ∷ [])

-- WHAT IS LEARNED of the transfer at hand is what is learned of the one that was asked for
nothing_learned : (a : Option Access) (reply : Reply) → learned_by a reply [] ≡ []
nothing_learned None reply = refl
nothing_learned (Some a) reply = refl

pub learned-held : (kept : List Kept) (held t : TransferView) (reply : Reply) → (0 < length kept → held ≡ t)
    → learned kept (Some held) reply ≡ learned kept (Some t) reply
learned-held [] held t reply is = nothing_learned (access_of held) reply ∙ sym (nothing_learned (access_of t) reply)
learned-held (k ∷ ks) held t reply is = ap (λ (x : TransferView). learned (k ∷ ks) (Some x) reply) (is (omega arith))

pub cached-scripts-fair : ScriptsAreFair → CachedScriptsAreFair
cached-scripts-fair fair =
    cached-fair (λ (s : CachedScript). asked_by s.script) (λ s. left_of s.script) (λ s. s.script.board)
    (record {
      sends = λ s rs t e. fair.sends s.script rs t e;
      limits = λ s rs t e. fair.limits s.script rs t e;
      costs = λ s rs t e. fair.costs s.script rs t e;
      falls = λ s rs t r e fits. fair.falls s.script rs t r e fits;
    }) kept_of

-- what it asks for, and what it is owed, is what its script asks for and is owed
pub cached-asks : (s : CachedScript) (full : List Reply) (kept : List Kept) (spare : Need) (view : CachedView)
    → IsCached s full kept → record { script = s; taken = taken_of s full; spare = spare } ≡ view
    → asked_by s.script full ≡ cached_asked view.script view.taken
cached-asks s full kept spare view is seen =
    ap (λ (l : List Reply). asked_by s.script l) (sym is.whole) ∙ ap (λ (z : CachedView). cached_asked z.script z.taken) seen

pub cached-room : (s : CachedScript) (full : List Reply) (kept : List Kept) (spare : Need) (view : CachedView)
    → IsCached s full kept → record { script = s; taken = taken_of s full; spare = spare } ≡ view
    → Covers view.spare (cached_owed view.script view.taken) → Covers spare (owed_by s.script full)
cached-room s full kept spare view is seen covers =
    subst (λ (l : List Reply). Covers spare (owed_by s.script l)) is.whole
    (subst (λ (z : CachedView). Covers z.spare (cached_owed z.script z.taken)) (sym seen) covers)

-- AT THE OPENING nothing is known, so that nothing is a hit
none_known : (b : BoardView) (ds : List ℕ) (a : Access) → pair_at (map (unknown b) ds) a ≡ None
none_known b [] a = refl
none_known b (d ∷ ds) a = by (is_at a (unknown b d)) (eqb a.register 2) (none_known b ds a)
  where
    by : (z y : Bool) → pair_at (map (unknown b) ds) a ≡ None → cond z (cond y None None) (pair_at (map (unknown b) ds) a) ≡ None
    by true true more = refl
    by true false more = refl
    by false y more = more

no_hit : (b : BoardView) (ds : List ℕ) (o : Option TransferView) → hit (map (unknown b) ds) o ≡ None
no_hit b ds o = by (option_and_then access_of o)
  where
    by_sent : (a : Access) (z : Bool) → cond z None (option_map reply_of (pair_at (map (unknown b) ds) a)) ≡ None
    by_sent a true = refl
    by_sent a false = ap (λ (p : Option Pair). option_map reply_of p) (none_known b ds a)

    by : (x : Option Access) → hit_by (map (unknown b) ds) x ≡ None
    by None = refl
    by (Some a) = by_sent a (is_some a.sent)

pub cached-opens : ScriptsAreFair → (s : CachedScript) (full : List Reply) (kept : List Kept) → full ≡ [] → kept ≡ kept_of s
    → IsCached s full kept × (taken_of s full ≡ [])
cached-opens fair s full kept none is = (
  record {
    whole = ap (λ (l : List Reply). answered (cached s) (taken_of s l)) none
        ∙ hits-over asked_by left_of board_of fair (λ x. kept_of s) s.script [] (no_hit s.script.board s.devices (asked_by s.script []))
        ∙ sym none;
    knows = is ∙ ap (λ (l : List Reply). known (asked_by s.script) (kept_of s) l) (sym none);
  },
  ap (λ (l : List Reply). taken_of s l) none,
)
