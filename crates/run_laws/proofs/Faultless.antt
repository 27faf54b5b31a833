-- Where no port counted a call that failed, none did, and so no entry failed. The inductions go over the calls and over the entries.
use Rattle.run_laws.proofs.Cited.{◌≡◌, ℕ, suc, ◌<◌, ◌≤◌, Bool, true, false, ◌&&◌, List, [], ◌∷◌, length, map, reverse, Some, None, refl}
use Rattle.run_laws.proofs.Cited.{sym, ◌∙◌, ap, subst, arith, All, slice_get, range_with_len, length-map-range_with_len, slice_get-get_or}
use Rattle.run_laws.proofs.Cited.{Entry, PortCall, BoardView, root_of, home_of_mux, faults_in, failures, Asks, TargetState, IsRunBy}
use Rattle.run_laws.proofs.Cited.{FaultAt, FaultsAlike}
use Rattle.std.proofs.Common.{zero, ◌+◌}
use Rattle.std.proofs.lemmas.Bool.{eq-eqb}
use Rattle.std.proofs.lemmas.List.Elements.{All-get_or}
use Rattle.std.proofs.lemmas.Option.{slice_get_within}
use Rattle.i2c_base.specs.declared.entry.Entry.TheVariants as entry
use Rattle.i2c_base.specs.declared.port.PortCall.TheVariants as call
use Rattle.bus_spec.specs.Readings.{is_on_root}
use Rattle.bus_spec.specs.Faults.{count_if, is_fault}
use Rattle.journal_laws.specs.Counts.{is_failed, failed_on}
use Rattle.bus_spec.specs.Stand.{calls_by}
use Rattle.i2c_top.specs.Faults.{AreCounted}

-- CALLS: of which none is a fault
not_fault : (c : PortCall) → (c ≡ call.Fault → ⊥) → is_fault c ≡ false
not_fault call.Fault none = absurd (none refl)
not_fault (call.Start a reading) none = refl
not_fault (call.Put byte) none = refl
not_fault (call.Get ack) none = refl
not_fault call.Stop none = refl
not_fault (call.Line m level) none = refl

pub no-faults : (cs : List PortCall) → ((n : ℕ) → slice_get cs n ≡ Some call.Fault → ⊥) → faults_in cs ≡ 0
no-faults [] none = refl
no-faults (c ∷ cs) none =
    let here : count_if (is_fault c) ≡ 0 = ap count_if (not_fault c (λ is. none 0 (ap (λ (x : PortCall). Some x) is))) in
    let rest : faults_in cs ≡ 0 = no-faults cs (λ n. none (suc n)) in
    omega (arith, here, rest)

none-at : (cs : List PortCall) → faults_in cs ≡ 0 → (n : ℕ) → slice_get cs n ≡ Some call.Fault → ⊥
none-at [] none n at = absurd (let f : None ≡ Some call.Fault = at in cc)
none-at (c ∷ cs) none zero at =
    let is : c ≡ call.Fault = (let f : Some c ≡ Some call.Fault = at in cc) in
    let one : count_if (is_fault c) ≡ 1 = ap (λ (x : PortCall). count_if (is_fault x)) is in
    let sum : count_if (is_fault c) + faults_in cs ≡ 0 = none in
    absurd (omega (arith, one, sum))
none-at (c ∷ cs) none (suc n) at =
    none-at cs (let sum : count_if (is_fault c) + faults_in cs ≡ 0 = none in omega (arith, sum)) n at

-- a root whose port counted none has none in its log
pub none-counted : (b : BoardView) (calls : ℕ → List PortCall) (logs : List (List PortCall)) (counts : List ℕ)
    → logs ≡ map calls (range_with_len 0 (length b.roots)) → AreCounted b logs counts → All (λ n. n ≡ 0) counts
    → (r n : ℕ) → FaultAt logs r n → ⊥
none-counted b calls logs counts called counted none r n at =
    let within : r < length logs = slice_get_within logs r at.log at.here in
    let many : length logs ≡ length b.roots = ap (λ (xs : List (List PortCall)). length xs) called
    ∙ length-map-range_with_len calls 0 (length b.roots) in
    let low : r < length counts = subst (λ (k : ℕ). r < k) (many ∙ sym counted.all) within in
    let few : faults_in at.log ≤ 0 = counted.each r 0 at.log
    (slice_get-get_or counts r 0 low ∙ ap (λ (k : ℕ). Some k) (All-get_or (λ (k : ℕ). k ≡ 0) counts r 0 low none)) at.here in
    none-at at.log (omega (arith, few)) n at.fault

-- two runs whose ports counted none have the same faults, which is none
pub none-alike : (b other : BoardView) (callers more : ℕ) (asks turns : Asks) (logs others : List (List PortCall))
    (states ends : List TargetState) (counts rises : List ℕ) (journal entries : List Entry)
    → IsRunBy b callers asks logs states counts journal → IsRunBy other more turns others ends rises entries
    → All (λ n. n ≡ 0) counts → All (λ n. n ≡ 0) rises → FaultsAlike logs others
none-alike b other callers more asks turns logs others states ends counts rises journal entries one two none never r n made made_too = (
  λ at. absurd (none-counted b (calls_by b one.legal.deeds (reverse journal)) logs counts one.called one.faults none r n at),
  λ at. absurd (none-counted other (calls_by other two.legal.deeds (reverse entries)) others rises two.called two.faults never r n at),
)

-- ENTRIES: one that failed is on a root
on_own : (b : BoardView) (e : Entry) → is_failed e ≡ true → (r : ℕ) × (is_on_root b r e ≡ true)
on_own b (entry.Take c l) failed = absurd (let f : false ≡ true = failed in cc)
on_own b (entry.Free c l) failed = absurd (let f : false ≡ true = failed in cc)
on_own b (entry.Settle c reply cut) failed = absurd (let f : false ≡ true = failed in cc)
on_own b (entry.Line c mux level t) failed =
    (root_of b (home_of_mux b mux), eq-eqb (root_of b (home_of_mux b mux)) (root_of b (home_of_mux b mux)) refl)
on_own b (entry.Message c bus why part parts addr reading bytes heard e) failed =
    (root_of b bus, eq-eqb (root_of b bus) (root_of b bus) refl)

not_failed : (b : BoardView) (e : Entry) (past : List Entry) → ((r : ℕ) → failed_on b r (e ∷ past) ≡ 0) → count_if (is_failed e) ≡ 0
not_failed b e past none = by (is_failed e) refl
  where
    by : (t : Bool) → is_failed e ≡ t → count_if (is_failed e) ≡ 0
    by false same = ap count_if same
    by true same =
        let own = on_own b e same in
        let one : count_if (is_on_root b own.0 e && is_failed e) ≡ 1 = ap (λ (t : Bool). count_if (t && is_failed e)) own.1
        ∙ ap count_if same in
        let no : count_if (is_on_root b own.0 e && is_failed e) + failed_on b own.0 past ≡ 0 = none own.0 in
        absurd (omega (arith, one, no))

pub none-failed : (b : BoardView) (past : List Entry) → ((r : ℕ) → failed_on b r past ≡ 0) → failures past ≡ 0
none-failed b [] none = refl
none-failed b (e ∷ past) none =
    let here : count_if (is_failed e) ≡ 0 = not_failed b e past none in
    let rest : failures past ≡ 0 = none-failed b past
    (λ r. (let no : count_if (is_on_root b r e && is_failed e) + failed_on b r past ≡ 0 = none r in omega (arith, no))) in
    omega (arith, here, rest)
