-- Where a core parts from a journal the step that is told there is the first that isn't legal. No induction.
use Rattle.journal_check.proofs.Cited.{◌≡◌, ℕ, ◌+◌, ◌-◌, ◌<◌, ◌≤◌, false, List, ◌∷◌, ◌++◌, length, length-append, All, drop, reverse}
use Rattle.journal_check.proofs.Cited.{Option, Some, None, sym, ◌∙◌, ap, subst, arith, inl, inr, slice_get, flat_map, front_rest}
use Rattle.journal_check.proofs.Cited.{reverse-append, Entry, PortCall, Reply, BoardView, MOST_CALLERS, TransferView, World, seen}
use Rattle.journal_check.proofs.Cited.{first_act, caller_of, IsStepwise, WalkTree, IsStuck, callers-known, Opening, HasRoot, asks_of}
use Rattle.journal_check.proofs.Cited.{CoreState, CoreTold, has_caller, roots_in, ended_line, IsEntry, FailedBy, gaps_told, IsFirstWrong}
use Rattle.journal_check.proofs.Cited.{first_step, AreLines, asks_on, MadeAnother, Differs, JournalPlace}
use Rattle.i2c_base.proofs.ListLemmas.{map_from, map_at, all_at}
use Rattle.i2c_spec.specs.History.{Asks}
use Rattle.bus_spec.specs.Past.{now, calls_of}
use Rattle.bus_spec.specs.Schedule.{past_after}
use Rattle.bus_core.specs.State.{worlds_of, logs_of}
use Rattle.check_laws.specs.Failed.{FailBy}
use Rattle.check_laws.specs.Wrong.{CantBeTold}
use Rattle.check_laws.specs.Wrong as wrong
use Rattle.journal_check.proofs.LineLemmas.{lines-append, fewer-entries}

module _ {S : Type 0} (asked : S → List Reply → Option TransferView) (o : Opening S) (v : CoreState S) (es : List Entry)
    (named : ℕ → List ℕ)
    (is_named : (r : ℕ) → named r ≡ gaps_told o.board es r)
    (fails_law : (past : List Entry) (gaps : ℕ → List ℕ) → IsStepwise o.board MOST_CALLERS (asks_on asked o) past
    → ((r : ℕ) → r < length o.board.roots → FailedBy (calls_of o.board (asks_on asked o) past r) (gaps r))
    → FailBy o.board (asks_on asked o) gaps past)
    (root_law : (past : List Entry) (r : ℕ) → IsStepwise o.board MOST_CALLERS (asks_on asked o) past
    → ((now o.board (asks_on asked o) past).worlds r).root ≡ r)
    (count : ℕ) (numbered : (c : ℕ) → has_caller o.scripts c ≡ false → count ≤ c)
    (silent : (c : ℕ) → count ≤ c → (rs : List Reply) → asks_on asked o c rs ≡ None)
    (wired : (r : ℕ) → r < length o.board.roots → HasRoot (roots_in v) r)
    {P : Type 0} (world : P → World) (log : P → List PortCall) (ports : List (ℕ × P)) (worlds : worlds_of world ports ≡ v.worlds)
    (logs : logs_of log ports ≡ v.logs) (failed : All (λ p. FailedBy (log p.1) (named (world p.1).root)) ports) where
  abbrev b : BoardView
  b = o.board

  abbrev asks : Asks
  asks = asks_on asked o

  -- whoever has no script has finished
  stranger-stuck : (past : List Entry) → IsStepwise b MOST_CALLERS asks past → (c : ℕ) → has_caller o.scripts c ≡ false
      → IsStuck b asks past c
  stranger-stuck past steps c nobody =
      inr (ap (λ (w : WalkTree). first_act (seen (now b asks past).slot w))
      ((callers-known b MOST_CALLERS count asks silent past steps).1 c (numbered c nobody)))

  -- in the logs those calls failed that are told
  logs-fail : CoreTold asked v → v.opening ≡ o → FailBy b asks (gaps_told b es) (reverse v.journal.entries)
  logs-fail told opened =
      fails_law (reverse v.journal.entries) (gaps_told b es) steps (λ r low. by r (wired r low))
    where
      steps : IsStepwise b MOST_CALLERS asks (reverse v.journal.entries)
      steps = subst (λ (x : Opening S). IsStepwise x.board MOST_CALLERS (asks_of asked x.scripts)
          (reverse v.journal.entries)) opened told.stepwise

      by : (r : ℕ) → HasRoot (roots_in v) r → FailedBy (calls_of b asks (reverse v.journal.entries) r) (gaps_told b es r)
      by r has =
          let w = map_from (λ (x : ℕ × World). x.0) v.worlds has.place r has.here in
          let p = map_from (λ (x : ℕ × P). (x.0, world x.1)) ports has.place w.0
          (ap (λ (xs : List (ℕ × World)). slice_get xs has.place) worlds ∙ w.1) in
          let root : p.0.0 ≡ r = ap (λ (x : ℕ × World). x.0) p.2 ∙ w.2 in
          let world_at : slice_get v.worlds has.place ≡ Some (p.0.0, world p.0.1) =
          ap (λ (xs : List (ℕ × World)). slice_get xs has.place) (sym worlds)
          ∙ map_at (λ (x : ℕ × P). (x.0, world x.1)) ports has.place p.0 p.1 in
          let log_at : slice_get v.logs has.place ≡ Some (p.0.0, log p.0.1) =
          ap (λ (xs : List (ℕ × List PortCall)). slice_get xs has.place) (sym logs) ∙ map_at
          (λ (x : ℕ × P). (x.0, log x.1)) ports has.place p.0 p.1 in
          let world_is : world p.0.1 ≡ (now b asks (reverse v.journal.entries)).worlds p.0.0 =
          subst (λ (x : Opening S). world p.0.1 ≡ (now x.board (asks_of asked x.scripts) (reverse v.journal.entries)).worlds p.0.0) opened
          (told.worlds has.place p.0.0 (world p.0.1) world_at) in
          let log_is : log p.0.1 ≡ calls_of b asks (reverse v.journal.entries) p.0.0 =
          subst (λ (x : Opening S). log p.0.1 ≡ calls_of x.board (asks_of asked x.scripts) (reverse v.journal.entries) p.0.0) opened
          (told.logs has.place p.0.0 (log p.0.1) log_at) in
          let own : (world p.0.1).root ≡ r = ap (λ (x : World). x.root) world_is ∙ root_law (reverse v.journal.entries) p.0.0 steps
          ∙ root in
          let mine : FailedBy (log p.0.1) (named (world p.0.1).root) =
          all_at (λ x. FailedBy (log x.1) (named (world x.1).root)) ports has.place p.0 failed p.1 in
          subst (λ (gs : List ℕ). FailedBy (calls_of b asks (reverse v.journal.entries) r) gs) (ap named own ∙ is_named r)
          (subst (λ (cs : List PortCall). FailedBy cs (named (world p.0.1).root)) (log_is ∙ ap
          (calls_of b asks (reverse v.journal.entries)) root) mine)

  -- so what is told can't come
  pub cant-be-told : v.opening ≡ o → (place : JournalPlace) → (d : Differs asked o v es place)
      → CantBeTold b MOST_CALLERS asks (gaps_told b (d.front ++ d.next ∷ d.rest)) (reverse d.front) (caller_of d.next) (d.next ∷ d.rest)
  cant-be-told opened place d =
      elim d.came [
        | inl nobody ↦ inr (inl (stranger-stuck (reverse d.front) d.steady.stepwise (caller_of d.next) nobody))
        | inr came ↦ elim came [ inl stuck ↦ inr (inl stuck) | inr made ↦ inr (inr (another made)) ]
      ]
    where
      another : MadeAnother asked o v d.front d.next d.rest
          → wrong.MadeAnother b MOST_CALLERS asks (gaps_told b (d.front ++ d.next ∷ d.rest)) (reverse d.front) (caller_of d.next)
          (d.next ∷ d.rest)
      another made =
          let behind : reverse v.journal.entries ≡ past_after (reverse d.front) made.made.turn =
          ap reverse made.made.entries ∙ reverse-append d.front made.made.turn.entries in
          record {
            turn = made.made.turn;
            stepped = record {
              own = made.made.own;
              comes = made.made.comes;
              rests = subst (λ (past : List Entry). (now b asks past).due ≡ None) behind
                  (subst (λ (x : Opening S). (now x.board (asks_of asked x.scripts) (reverse v.journal.entries)).due
                  ≡ None) opened made.told.rests);
              fails = subst (λ (past : List Entry). FailBy b asks (gaps_told b (d.front ++ d.next ∷ d.rest)) past) behind
                  (subst (λ (xs : List Entry). FailBy b asks (gaps_told b xs) (reverse v.journal.entries)) d.parts
                  (logs-fail made.told opened));
            };
            differs = made.differs;
          }

  -- the step that is told there ends with the first entry that isn't legal
  pub wrong-at : (lines : List ℕ) → AreLines lines es → v.opening ≡ o → (place : JournalPlace) → Differs asked o v es place
      → ((front : List Entry) (next : Entry) (rest : List Entry) → IsStepwise b MOST_CALLERS asks (reverse front)
      → (now b asks (reverse front)).due ≡ None
      → CantBeTold b MOST_CALLERS asks (gaps_told b (front ++ next ∷ rest)) (reverse front) (caller_of next) (next ∷ rest)
      → IsFirstWrong b MOST_CALLERS asks (front ++ next ∷ rest) (length front + first_step (next ∷ rest) - 1))
      → ((i : ℕ) → IsFirstWrong b MOST_CALLERS asks es i → IsFirstWrong b count asks es i)
      → (text : List ℕ) → text ≡ drop place.at lines
      → (k : ℕ) → ((e : Entry) (rest : List Entry) → All IsEntry (e ∷ rest) → text ≡ flat_map ended_line (e ∷ rest)
      → k ≡ first_step (e ∷ rest))
      → IsFirstWrong b count asks es (place.before + k - 1)
  wrong-at lines are opened place d law fewer text is k step =
      let all : lines ≡ flat_map ended_line d.front ++ flat_map ended_line (d.next ∷ d.rest) =
      are.lines ∙ ap (flat_map ended_line) d.parts ∙ lines-append d.front (d.next ∷ d.rest) in
      let behind : text ≡ flat_map ended_line (d.next ∷ d.rest) = is ∙ ap (λ (n : ℕ). drop n lines) d.at
      ∙ front_rest lines (flat_map ended_line d.front) (flat_map ended_line (d.next ∷ d.rest)) all in
      let steps : k ≡ first_step (d.next ∷ d.rest) = step d.next d.rest d.in_range behind in
      let first = law d.front d.next d.rest d.steady.stepwise d.steady.rests (cant-be-told opened place d) in
      let number : length d.front + first_step (d.next ∷ d.rest) - 1 ≡ place.before + k - 1 =
      (let before = d.before in omega (arith, before, steps)) in
      fewer (place.before + k - 1) (subst (λ (i : ℕ). IsFirstWrong b MOST_CALLERS asks es i) number
      (subst (λ (xs : List Entry). IsFirstWrong b MOST_CALLERS asks xs (length d.front + first_step (d.next ∷ d.rest) - 1))
      (sym d.parts) first))

pub before-fits : {S : Type 0} (asked : S → List Reply → Option TransferView) (o : Opening S) (v : CoreState S) (es : List Entry)
    (lines : List ℕ)
    → AreLines lines es → (place : JournalPlace) → Differs asked o v es place → place.before < length lines
before-fits asked o v es lines are place d =
    let counted : length lines ≡ length (flat_map ended_line es) = ap (λ (xs : List ℕ). length xs) are.lines in
    let few : length es ≤ length (flat_map ended_line es) = fewer-entries es in
    let parts : length es ≡ length d.front + length (d.next ∷ d.rest) = ap (λ (xs : List Entry). length xs) d.parts
    ∙ length-append d.front (d.next ∷ d.rest) in
    let before = d.before in
    omega (arith, counted, few, parts, before)
