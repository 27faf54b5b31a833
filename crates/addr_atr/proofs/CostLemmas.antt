-- A translated transfer has the same messages at other addresses, so it keeps the limits and what replies fit; it stays on its root, and
-- has one hop less before it, so it costs no more.
use Rattle.addr_atr.proofs.Cited.{◌≡◌, ℕ, suc, ◌+◌, ◌<◌, ◌≤◌, Bool, true, false, cond, ◌||◌, List, [], ◌∷◌, Option, Some, None, refl, sym}
use Rattle.addr_atr.proofs.Cited.{◌∙◌, ap, arith, length, map, drop, list_any, lt-ltb, length-map, Reply, Msg, BoardView, Fits}
use Rattle.addr_atr.proofs.Cited.{TransferView, IsTransfer, alias_of, readdressed, redirected, cost_of, block_limit, Hop, hops, buses}
use Rattle.addr_atr.proofs.Cited.{root_of, IsTree, TranslatorView, Route, route_of, lowered, sent_by, translated}
use Rattle.std.proofs.Common.{◌*◌}
use Rattle.std.specs.Prelude.{MatchBool}
use Rattle.i2c_base.specs.declared.reply.Reply.TheVariants as reply
use Rattle.i2c_base.specs.Fitting.{FitsReads, FitsCounted, count_of}
use Rattle.i2c_base.specs.Muxes.{facts_of}
use Rattle.i2c_base.specs.Transfer.{is_read, is_counted}
use Rattle.i2c_base.proofs.AliasLemmas.{readdressed-sum, redirected-limits}
use Rattle.i2c_spec.specs.Cost.{behind_by, behind_cost, inner_cost, full_cost, bytes_of, steps_of}
use Rattle.i2c_spec.specs.Tree.{locks_of}
use Rattle.addr_atr.proofs.RouteLemmas.{IsRoute, route-is, route-root}

-- what doesn't look at an address is the same
pub readdressed-reads : (f : ℕ → ℕ) (ms : List Msg) → list_any is_read (map (readdressed f) ms) ≡ list_any is_read ms
readdressed-reads f [] = refl
readdressed-reads f (m ∷ ms) = ap (λ (t : Bool). is_read m || t) (readdressed-reads f ms)

match_map : (t : Bool) (P Q R S : Type 0) → (P → R) → (Q → S) → MatchBool t P Q → MatchBool t R S
match_map true P Q R S f g h = f h
match_map false P Q R S f g h = g h

fits_reads : (f : ℕ → ℕ) (ms : List Msg) (bytes : List ℕ) → FitsReads (map (readdressed f) ms) bytes → FitsReads ms bytes
fits_reads f [] bytes h = h
fits_reads f (m ∷ ms) bytes h =
    let more : List Msg = map (readdressed f) ms in
    let counted : List ℕ = drop (m.len + count_of bytes) bytes in
    let plain : List ℕ = drop m.len bytes in
    match_map (is_read m)
    (MatchBool (is_counted m) (FitsCounted m bytes × FitsReads more counted) ((m.len ≤ length bytes) × FitsReads more plain))
    (FitsReads more bytes)
    (MatchBool (is_counted m) (FitsCounted m bytes × FitsReads ms counted) ((m.len ≤ length bytes) × FitsReads ms plain))
    (FitsReads ms bytes)
    (match_map (is_counted m) (FitsCounted m bytes × FitsReads more counted) ((m.len ≤ length bytes) × FitsReads more plain)
    (FitsCounted m bytes × FitsReads ms counted) ((m.len ≤ length bytes) × FitsReads ms plain)
    (λ x. (x.0, fits_reads f ms counted x.1)) (λ x. (x.0, fits_reads f ms plain x.1)))
    (fits_reads f ms bytes) h

pub redirected-fits : (t : TransferView) (bus : ℕ) (f : ℕ → ℕ) (r : Reply) → Fits (redirected t bus f) r → Fits t r
redirected-fits t bus f reply.Done h = sym (readdressed-reads f t.msgs) ∙ h
redirected-fits t bus f (reply.Read bytes) h = (sym (readdressed-reads f t.msgs) ∙ h.0, fits_reads f t.msgs bytes h.1)
redirected-fits t bus f (reply.Err e) h = h

pub translated-limits : (b : BoardView) (ts : List TranslatorView) (t : TransferView) → IsTransfer t.msgs t.out
    → IsTransfer (translated b ts t).msgs (translated b ts t).out
translated-limits b ts t is = by (route_of b ts t.bus)
  where
    by : (o : Option Route) → IsTransfer (sent_by o t).msgs (sent_by o t).out
    by None = is
    by (Some r) = redirected-limits (alias_of r.pairs) t.msgs t.out is

pub translated-fits : (b : BoardView) (ts : List TranslatorView) (t : TransferView) (r : Reply) → Fits (translated b ts t) r → Fits t r
translated-fits b ts t r = by (route_of b ts t.bus)
  where
    by : (o : Option Route) → Fits (sent_by o t) r → Fits t r
    by None h = h
    by (Some route) h = redirected-fits t route.bus (alias_of route.pairs) r h

-- a transfer stays on its root
pub translated-root : (b : BoardView) → IsTree b → (ts : List TranslatorView) (t : TransferView)
    → root_of (lowered b ts) (translated b ts t).bus ≡ root_of b t.bus
translated-root b tree ts t = by (route_of b ts t.bus) refl
  where
    by : (o : Option Route) → route_of b ts t.bus ≡ o → root_of b (sent_by o t).bus ≡ root_of b t.bus
    by None e = refl
    by (Some r) e = route-root b tree ts t.bus r (route-is b ts t.bus r e)

-- one hop more costs no less
behind_more : (by_line asks : Bool) (control job : ℕ) → job ≤ behind_by by_line asks control job
behind_more true asks control job = omega arith
behind_more false true control job = omega arith
behind_more false false control job = omega arith

full_less : (h : Hop) (hs : List Hop) (x : ℕ) → full_cost hs x ≤ full_cost (h ∷ hs) x
full_less h hs x =
    let control : ℕ = inner_cost hs 2 in
    let job : ℕ = inner_cost hs x in
    let locks : ℕ = length (locks_of 0 hs) in
    elim h.parent
    as (λ t. 2 * locks + job ≤ 2 * suc (length (cond t (locks_of 0 hs) [])) + cond t (behind_cost h.kind control job)
    (3 * (2 * locks + control) + (2 * locks + job))) [
      | true ↦ omega (arith, behind_more (facts_of h.kind).by_line (facts_of h.kind).asks control job)
      | false ↦ omega arith
    ]

pub translated-costs : (b : BoardView) (ts : List TranslatorView) (t : TransferView) → IsTree b
    → cost_of (lowered b ts) (translated b ts t) ≤ cost_of b t
translated-costs b ts t tree = by (route_of b ts t.bus) refl
  where
    by : (o : Option Route) → route_of b ts t.bus ≡ o → cost_of (lowered b ts) (sent_by o t) ≤ cost_of b t
    by None e = omega arith
    by (Some r) e =
        let i : IsRoute b ts t.bus r = route-is b ts t.bus r e in
        let n : ℕ = steps_of b t in
        let before : hops b t.bus ≡ i.hop ∷ hops b r.bus =
        i.over ∙ ap (λ (hs : List Hop). i.hop ∷ hs) (sym (tree.tail t.bus i.hop i.rest i.over) ∙ ap (hops b) i.on) in
        let low : r.bus < buses b = (let f : i.hop.on < t.bus = (tree.leads t.bus i.hop i.rest i.over).1 in
        omega (arith, f, i.on, i.within)) in
        let steps : steps_of (lowered b ts) (sent_by (Some r) t) ≡ n =
        (let s = readdressed-sum (alias_of r.pairs) (bytes_of (block_limit b)) (λ m. refl) t.msgs in
        let l = length-map t.msgs (readdressed (alias_of r.pairs)) in omega (arith, s, l)) in
        let less : full_cost (hops b r.bus) n ≤ full_cost (i.hop ∷ hops b r.bus) n = full_less i.hop (hops b r.bus) n in
        let written : cost_of b t ≡ 1 + full_cost (i.hop ∷ hops b r.bus) n =
        ap (λ (y : Bool). cond y (1 + full_cost (hops b t.bus) n) 1) (lt-ltb t.bus (buses b) i.within)
        ∙ ap (λ (hs : List Hop). 1 + full_cost hs n) before in
        let sent : cost_of (lowered b ts) (sent_by (Some r) t) ≡ 1 + full_cost (hops b r.bus) n =
        ap (λ (y : Bool). cond y (1 + full_cost (hops b r.bus) (steps_of (lowered b ts) (sent_by (Some r) t))) 1)
        (lt-ltb r.bus (buses b) low)
        ∙ ap (λ (k : ℕ). 1 + full_cost (hops b r.bus) k) steps in
        omega (arith, written, sent, less)
