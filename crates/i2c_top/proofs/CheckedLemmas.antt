-- A core of scripts that has followed the journal of a report: what it is opened with, what is left of it, and what that says of the
-- report. The inductions go over the scripts.
use Rattle.i2c_top.proofs.Cited.{◌≡◌, ◌⊎◌, ℕ, zero, suc, ◌+◌, ◌<◌, ◌≤◌, ◌==◌, Bool, true, false, List, [], ◌∷◌, ◌++◌, ◌^◌, append_assoc}
use Rattle.i2c_top.proofs.Cited.{append-nil, cond, drop, get_or, length, map, reverse, Option, Some, None, Result, Ok, Err, inl, inr, refl}
use Rattle.i2c_top.proofs.Cited.{sym, ◌∙◌, ap, subst, arith, zero-add, IfOk, IfErr, slice_get, enumerate_from, range_with_len, option_map}
use Rattle.i2c_top.proofs.Cited.{option_map_or, cases_lt, drop_more, length-map, length-map-range_with_len, get_or-map-range_with_len}
use Rattle.i2c_top.proofs.Cited.{slice_get-get_or, slice_get-map, slice_get_past, Entry, Idle, PortCall, Reply, BoardView, MOST_CALLERS}
use Rattle.i2c_top.proofs.Cited.{IsTransfer, IsFairCaller, Asks, IsPlainBoard, MeetsRules, World, IsComplete, IsLegal, now, world_at}
use Rattle.i2c_top.proofs.Cited.{calls_of, ended_line, report_lines, sections, text_of, IsStepwise, Ends, AsksForMessages, AsksWithinLimits}
use Rattle.i2c_top.proofs.Cited.{Opening, script_at, scripts_of, asks_of, AllThrough, CoreState, has_caller, logs_of, roots_in, taken_of}
use Rattle.i2c_top.proofs.Cited.{worlds_of, ClosedCore, Seat, entries_of, JournalView, IsOpened, board_of, asked_by, left_of, commands_of}
use Rattle.i2c_top.proofs.Cited.{section_text, SectionsHaveNoJournalLine, CallerView, ScriptView, script_on, CanBeChecked, Checked}
use Rattle.i2c_top.proofs.Cited.{IsFaultIn, IsVerified, FirstOther, IsWhole, CheckFault, checked_on, IsCoreOf, asks_in, scripts_in}
use Rattle.i2c_top.proofs.Cited.{callers_in, asks_by, script_row, AreOpened, printed_by, section_of, texts_of, all_at, map_map}
use Rattle.std.proofs.Common.{length-append}
use Rattle.std.specs.Prelude.{codes}
use Rattle.std.specs.List.{flat_map}
use Rattle.std.proofs.lemmas.Bool.{eq-eqb, eqb-true, false_from_ne_true}
use Rattle.std.proofs.lemmas.List.{drop_all}
use Rattle.std.proofs.Math.ListN.{get_or-map}
use Rattle.std.proofs.lemmas.List.Elements.{All-nil}
use Rattle.ports.specs.declared.port.Port.{Ghosts as PortGhosts}
use Rattle.bus_core.specs.Opening.{HasRoot}
use Rattle.bus_journal.specs.Reports.{HasNoJournalLine, IsSectionLine}
use Rattle.journal_check.specs.Checks.{HasPassed}
use Rattle.journal_check.specs.Faults.{AtCaller, AtEntry, IsRead, IsWrongIn}
use Rattle.journal_check.specs.Forms.{HasForm, lines_of}
use Rattle.journal_check.specs.Steps.{asks_on}
use Rattle.journal_check.specs.Texts.{GoesOn, GoesOtherwise}
use Rattle.journal_check.specs.declared.fault.CheckFault.TheVariants as fault
use Rattle.journal_check.proofs.LineLemmas.{fewer-entries}
use Rattle.journal_check.proofs.SectionLemmas.{goes-on-then, otherwise-then, under, whole-lines}
use Rattle.i2c_top.specs.Checked.{HasBeenChecked, callers_on}
use Rattle.i2c_top.proofs.CoreLemmas.{asks-same, is-left, left, number-here, scripts-same, through-at}
use Rattle.i2c_top.proofs.RunLemmas.{of_asks, report-over, same_asks, sections_are}
use Rattle.i2c_top.proofs.TextLemmas.{asks-of-texts, count-of-texts, opened-scripts, printed-of-texts, report-of-texts, section_by}

-- THE OPENING: each script by its number
abbrev numbered : ℕ → List CallerView → List (ℕ × ScriptView)
numbered n ss = map (λ (y : ℕ × CallerView). (y.0, y.1.script)) (enumerate_from n ss)

other-number : (n c : ℕ) → (n == (n + suc c)) ≡ false
other-number n c = false_from_ne_true (n == (n + suc c)) (λ is. let e : n ≡ n + suc c = eqb-true n (n + suc c) is in
    absurd (omega (arith, e)))

same-number : (n : ℕ) → (n == (n + 0)) ≡ true
same-number n = eq-eqb n (n + 0) (omega arith)

script-numbered : (n c : ℕ) (ss : List CallerView) → script_at (numbered n ss) (n + c) ≡ option_map (λ (s : CallerView). s.script)
    (slice_get ss c)
script-numbered n c [] = refl
script-numbered n zero (s ∷ ss) = ap (λ (t : Bool). cond t (Some s.script) (script_at (numbered (n + 1) ss) (n + 0))) (same-number n)
script-numbered n (suc c) (s ∷ ss) =
    ap (λ (t : Bool). cond t (Some s.script) (script_at (numbered (n + 1) ss) (n + suc c))) (other-number n c)
    ∙ ap (λ (k : ℕ). script_at (numbered (n + 1) ss) k) (let e : n + suc c ≡ (n + 1) + c = omega arith in e)
    ∙ script-numbered (n + 1) c ss

has-numbered : (n c : ℕ) (ss : List CallerView) → c < length ss → has_caller (numbered n ss) (n + c) ≡ true
has-numbered n c [] low = absurd (omega (arith, low))
has-numbered n zero (s ∷ ss) low = ap (λ (t : Bool). cond t true (has_caller (numbered (n + 1) ss) (n + 0))) (same-number n)
has-numbered n (suc c) (s ∷ ss) low =
    ap (λ (t : Bool). cond t true (has_caller (numbered (n + 1) ss) (n + suc c))) (other-number n c)
    ∙ ap (λ (k : ℕ). has_caller (numbered (n + 1) ss) k) (let e : n + suc c ≡ (n + 1) + c = omega arith in e)
    ∙ has-numbered (n + 1) c ss (omega (arith, low))

module _ (b : BoardView) (scripts : List CallerView) (opened : AreOpened b scripts) where
  asks-numbered : asks_of asked_by (numbered 0 scripts) ≡ asks_by b (texts_of scripts)
  asks-numbered = same_asks (asks_of asked_by (numbered 0 scripts)) (asks_by b (texts_of scripts))
      (λ c rs.
      ap (λ (o : Option ScriptView). option_map_or (λ k. asked_by k rs) o None)
      (ap (λ (k : ℕ). script_at (numbered 0 scripts) k) (sym (zero-add c)) ∙ script-numbered 0 c scripts)
      ∙ by c rs (slice_get scripts c) refl
      ∙ ap (λ (o : Option (List ℕ)). option_map_or (λ text. asked_by (script_on b text) rs) o None)
      (sym (slice_get-map (λ (s : CallerView). s.script.text) scripts c)))
    where
      by : (c : ℕ) (rs : List Reply) (o : Option CallerView) → slice_get scripts c ≡ o
          → option_map_or (λ k. asked_by k rs) (option_map (λ (s : CallerView). s.script) o) None
          ≡ option_map_or (λ text. asked_by (script_on b text) rs) (option_map (λ (s : CallerView). s.script.text) o) None
      by c rs None at = refl
      by c rs (Some s) at =
          ap (λ (k : BoardView). asked_by (script_on k s.script.text) rs)
          (all_at (λ t. IsOpened b t.script.text t) scripts c s opened at).board_is

  module _ {P : Type 0} (ports : List P) (core : CoreState ScriptView) (of : IsCoreOf script_row b scripts ports core) where
    pub asks-opened : asks_on asked_by core.opening ≡ asks_by b (texts_of scripts)
    asks-opened = ap (asks_of asked_by) of.scripts_are ∙ asks-numbered

    pub has-opened : (c : ℕ) → c < length scripts → has_caller core.opening.scripts c ≡ true
    has-opened c low =
        ap (λ (ss : List (ℕ × ScriptView)). has_caller ss c) of.scripts_are
        ∙ ap (λ (k : ℕ). has_caller (numbered 0 scripts) k) (sym (zero-add c)) ∙ has-numbered 0 c scripts low

    pub numbered-opened : (c : ℕ) → has_caller core.opening.scripts c ≡ false → length scripts ≤ c
    numbered-opened c none = split (cases_lt c (length scripts))
      where
        split : (c < length scripts) ⊎ (length scripts ≤ c) → length scripts ≤ c
        split (inl low) = absurd (let f : true ≡ false = sym (has-opened c low) ∙ none in cc)
        split (inr high) = high

    pub some-opened : IsFairCaller asked_by left_of board_of → AsksForMessages (asks_on asked_by core.opening)
    some-opened fair = subst AsksForMessages (sym asks-opened) (of_asks b (texts_of scripts) (λ t. 0 < length t.msgs)
        (λ text. fair.sends (script_on b text)))

    pub limits-opened : IsFairCaller asked_by left_of board_of → AsksWithinLimits (asks_on asked_by core.opening)
    limits-opened fair = subst AsksWithinLimits (sym asks-opened) (of_asks b (texts_of scripts) (λ t. IsTransfer t.msgs t.out)
        (λ text. fair.limits (script_on b text)))

    pub silent-opened : (c : ℕ) → length scripts ≤ c → (rs : List Reply) → asks_on asked_by core.opening c rs ≡ None
    silent-opened c high rs =
        ap (λ (a : Asks). a c rs) asks-opened
        ∙ ap (λ (o : Option (List ℕ)). option_map_or (λ text. asked_by (script_on b text) rs) o None)
        (slice_get_past (texts_of scripts) c (subst (λ (k : ℕ). k ≤ c) (sym (length-map scripts (λ (s : CallerView). s.script.text))) high))

    pub wired-opened : (r : ℕ) → r < length core.opening.board.roots → HasRoot (roots_in core) r
    wired-opened r low =
        let few : length core.opening.board.roots ≡ length b.roots = ap (λ (k : BoardView). length k.roots) of.board in
        let count = of.count in
        record {
          place = r;
          here = ap (λ (ns : List ℕ). slice_get ns r) of.roots ∙ number-here 0 ports r (omega (arith, low, few, count))
              ∙ ap (λ (k : ℕ). Some k) (zero-add r);
        }

    -- WHAT IS LEFT of a core that has passed
    pub been-checked : (count : ℕ) → count ≡ length scripts → (es : List Entry) (v : CoreState ScriptView)
        → HasPassed asked_by true core.opening count es v → (x : ClosedCore P CallerView) → scripts_of script_row x.seats.items
        ≡ v.opening.scripts
        → taken_of script_row x.seats.items ≡ v.taken → (world : P → World) → worlds_of world x.ports.items ≡ v.worlds
        → (log : P → List PortCall) → logs_of log x.ports.items ≡ v.logs → x.journal ≡ v.journal
        → HasBeenChecked b (texts_of scripts) es x.seats.items x.journal.entries
    been-checked count is es v passed x scripts_left taken world worlds log logs journal =
        record {
          same = entries;
          scripts_are = mine;
          legal = over-there (λ (k : BoardView) (a : Asks) (n : ℕ). IsLegal k n a (reverse es)) passed.legal;
          complete = over-there (λ (k : BoardView) (a : Asks) (n : ℕ). IsComplete k n a (reverse es)) passed.complete;
          over = record {
            plain = of.plain;
            rules = of.rules;
            stepwise = on-callers (λ (k : BoardView) (a : Asks). IsStepwise k MOST_CALLERS a (reverse es)) passed.followed.steady.stepwise;
            rests = on-callers (λ (k : BoardView) (a : Asks). (now k a (reverse es)).due ≡ None) passed.followed.steady.rests;
            taken = λ c s here.
                subst (λ (js : List Entry). s.taken ≡ (now b asks (reverse js)).settled c) entries
                (subst (λ (a : Asks). s.taken ≡ (now b a (reverse x.journal.entries)).settled c) (asks-same g script_row b x scripts same)
                (sym ((through-at g script_row b x scripts same v through c s here).1.settled refl)));
            ended = λ c s here.
                subst (λ (js : List Entry). (now b asks (reverse js)).walk c ≡ Ends) entries
                (subst (λ (a : Asks). (now b a (reverse x.journal.entries)).walk c ≡ Ends) (asks-same g script_row b x scripts same)
                ((through-at g script_row b x scripts same v through c s here).1.walk refl));
            done = λ c s here. (through-at g script_row b x scripts same v through c s here).0;
            worlds_count = length-map-range_with_len (world_at b asks (reverse es)) 0 (length b.roots);
            world = λ r low. listed (world_at b asks (reverse es)) (length b.roots) r low;
            logs_count = length-map-range_with_len (calls_of b asks (reverse es)) 0 (length b.roots);
            log = λ r low. listed (calls_of b asks (reverse es)) (length b.roots) r low;
          };
        }
      where
        -- a port that tells, of which no more matters here
        g : PortGhosts P
        g = record { tells = true; world = world; log = log; phase = λ p. Idle; faults = λ p. 0; setup = λ p. [] }

        same : scripts_of script_row x.seats.items ≡ map (λ (y : ℕ × CallerView). (y.0, y.1.script)) (enumerate_from 0 scripts)
        same = scripts_left ∙ ap (λ (o : Opening ScriptView). o.scripts) passed.followed.opening ∙ of.scripts_are

        mine : scripts_in script_row (callers_in x) ≡ map (script_on b) (texts_of scripts)
        mine = scripts-same g script_row b x scripts same ∙ opened-scripts b scripts opened

        asks : Asks
        asks = asks_in asked_by (scripts_in script_row (callers_in x))

        entries : x.journal.entries ≡ es
        entries = ap (λ (j : JournalView). j.entries) journal ∙ passed.followed.entries

        is_left : v ≡ left g script_row b x scripts same v
        is_left = is-left g script_row b x scripts same v (ap (λ (o : Opening ScriptView). o.board) passed.followed.opening ∙ of.board)
            scripts_left taken journal worlds logs

        through : AllThrough asked_by g.tells (left g script_row b x scripts same v)
        through = subst (λ (w : CoreState ScriptView). AllThrough asked_by g.tells w) is_left passed.through

        listed : {X : Type 0} (f : ℕ → X) (n r : ℕ) → r < n → slice_get (map f (range_with_len 0 n)) r ≡ Some (f r)
        listed f n r low =
            slice_get-get_or (map f (range_with_len 0 n)) r (f r) (subst (λ (k : ℕ). r < k) (sym (length-map-range_with_len f 0 n)) low)
            ∙ ap (λ x. Some x) (get_or-map-range_with_len f 0 n r r (f r) low (zero-add r))

        over-there : (Q : BoardView → Asks → ℕ → Type 0) → Q core.opening.board (asks_on asked_by core.opening) count
            → Q b (asks_by b (texts_of scripts)) (length (texts_of scripts))
        over-there Q q =
            subst (λ (n : ℕ). Q b (asks_by b (texts_of scripts)) n) (is ∙ sym (length-map scripts (λ (s : CallerView). s.script.text)))
            (subst (λ (a : Asks). Q b a count) asks-opened (subst
            (λ (k : BoardView). Q k (asks_on asked_by core.opening) count) of.board q))

        on-callers : (Q : BoardView → Asks → Type 0) → Q core.opening.board (asks_on asked_by core.opening) → Q b asks
        on-callers Q q =
            subst (λ (a : Asks). Q b a) (sym (asks-of-texts b (texts_of scripts) (scripts_in script_row (callers_in x)) mine))
            (subst (λ (a : Asks). Q b a) asks-opened (subst (λ (k : BoardView). Q k (asks_on asked_by core.opening)) of.board q))

    -- what is wrong with a journal beside the core is wrong beside the texts
    pub wrong-opened : (count : ℕ) → count ≡ length scripts → (es : List Entry) (e : CheckFault)
        → IsWrongIn core.opening.board count (asks_on asked_by core.opening) es e
        → IsWrongIn b (length (texts_of scripts)) (asks_by b (texts_of scripts)) es e
    wrong-opened count is es e wrong =
        subst (λ (n : ℕ). IsWrongIn b n (asks_by b (texts_of scripts)) es e)
        (is ∙ sym (length-map scripts (λ (s : CallerView). s.script.text)))
        (subst (λ (a : Asks). IsWrongIn b count a es e) asks-opened
        (subst (λ (k : BoardView). IsWrongIn k count (asks_on asked_by core.opening) es e) of.board wrong))

-- WHAT A REPORT OF SCRIPTS is checked against may be checked
pub can-be : (b : BoardView) (texts : List (List ℕ)) → IsPlainBoard b → MeetsRules b → IsFairCaller asked_by left_of board_of
    → SectionsHaveNoJournalLine → CanBeChecked (checked_on b texts)
can-be b texts plain rules fair none =
    record {
      plain = plain;
      rules = rules;
      some = of_asks b texts (λ t. 0 < length t.msgs) (λ text. fair.sends (script_on b text));
      limits = of_asks b texts (λ t. IsTransfer t.msgs t.out) (λ text. fair.limits (script_on b text));
      whole = λ c rs. by rs (slice_get texts c);
    }
  where
    by : (rs : List Reply) (o : Option (List ℕ)) → HasNoJournalLine
        (option_map_or (λ text. section_text (commands_of (script_on b text)) rs) o [])
    by rs None = record { lines = []; text_is = refl; others = All-nil IsSectionLine }
    by rs (Some text) = none (script_on b text) rs

pub section-whole : SectionsHaveNoJournalLine → (s : CallerView) → IsWhole (section_of s)
section-whole none s =
    let h = none s.script s.taken in
    subst (λ (text : List ℕ). IsWhole text) (sym h.text_is) (whole-lines h.lines)

-- THE SECTIONS of the first so many callers are those of the text, and here is what is left of it
pub record IsBesideCallers (text : List ℕ) (texts : List (List ℕ)) (place : ℕ) (rest : List ℕ) (number : ℕ) : Type 0 where
  pub due : List ℕ
  pub due_is : due ++ sections place (drop place texts) ≡ sections 0 texts
  pub goes : GoesOn due text 1 rest number

module _ (text : List ℕ) (texts : List (List ℕ)) where
  pub beside-none : IsBesideCallers text texts 0 text 1
  beside-none = record { due = []; due_is = refl; goes = record { parts = refl; few = omega arith; goes = λ later f other. other } }

  module _ (place : ℕ) (rest : List ℕ) (number : ℕ) (beside : IsBesideCallers text texts place rest number) where
    pub left-short : length text ≤ 2 ^ 28 → number + length rest ≤ 1 + 2 ^ 28
    left-short short = (let few = beside.goes.few in omega (arith, short, few))

    split : (own : List ℕ) (d : List ℕ) → place < length texts → own ≡ get_or texts place d
        → beside.due ++ (under place own ++ sections (place + 1) (drop (place + 1) texts)) ≡ sections 0 texts
    split own d low is =
        ap (λ (xs : List ℕ). beside.due ++ (under place xs ++ sections (place + 1) (drop (place + 1) texts))) is
        ∙ ap (λ (ts : List (List ℕ)). beside.due ++ sections place ts) (sym (drop_more texts place d low)) ∙ beside.due_is

    pub beside-next : (own : List ℕ) (d : List ℕ) → place < length texts → own ≡ get_or texts place d → (new : List ℕ) (m : ℕ)
        → GoesOn (under place own) rest number new m → IsBesideCallers text texts (place + 1) new m
    beside-next own d low is new m on =
        record {
          due = beside.due ++ under place own;
          due_is = append_assoc beside.due (under place own) (sections (place + 1) (drop (place + 1) texts)) ∙ split own d low is;
          goes = goes-on-then beside.due (under place own) text 1 rest number new m beside.goes on;
        }

    pub beside-other : (own : List ℕ) (d : List ℕ) → place < length texts → own ≡ get_or texts place d → (f : ℕ)
        → GoesOtherwise (under place own) rest number f → FirstOther 1 (lines_of text) (lines_of (sections 0 texts)) f
    beside-other own d low is f other =
        subst (λ (xs : List ℕ). FirstOther 1 (lines_of text) (lines_of xs) f)
        (append_assoc beside.due (under place own) (sections (place + 1) (drop (place + 1) texts)) ∙ split own d low is)
        (otherwise-then beside.due (under place own) text 1 rest number f beside.goes other (sections (place + 1) (drop (place + 1) texts)))

    all-due : length texts ≤ place → beside.due ≡ sections 0 texts
    all-due high =
        sym (append-nil beside.due)
        ∙ ap (λ (ts : List (List ℕ)). beside.due ++ sections place ts) (sym (drop_all place texts high)) ∙ beside.due_is

    pub beside-all : length texts ≤ place → rest ≡ [] → text ≡ sections 0 texts
    beside-all high none =
        beside.goes.parts ∙ ap (λ (xs : List ℕ). beside.due ++ xs) none ∙ append-nil beside.due ∙ all-due high

    pub beside-more : length texts ≤ place → (f : ℕ) → FirstOther number (lines_of rest) (lines_of []) f
        → FirstOther 1 (lines_of text) (lines_of (sections 0 texts)) f
    beside-more high f other =
        subst (λ (xs : List ℕ). FirstOther 1 (lines_of text) (lines_of xs) f) (append-nil beside.due ∙ all-due high)
        (beside.goes.goes [] f other)

-- what a caller has printed, among the texts of all
pub own-text : (seats : List (Seat CallerView)) (i : ℕ) (s : Seat CallerView) (own : List ℕ) → s ≡ get_or seats i s
    → own ≡ section_of s.caller
    → own ≡ get_or (map (λ (t : Seat CallerView). section_of t.caller) seats) i (section_of s.caller)
own-text seats i s own same is =
    is ∙ ap (λ (t : Seat CallerView). section_of t.caller) same ∙ sym (get_or-map (λ (t : Seat CallerView). section_of t.caller) seats i s)

-- A REPORT with the form, whose journal was made again
module _ (b : BoardView) (texts : List (List ℕ)) (text front lines : List ℕ) (form : HasForm text front lines) where
  abbrev es : List Entry
  es = entries_of lines

  abbrev read : IsRead text
  read = record { front = front; lines = lines; form = form }

  -- it has fewer entries than bytes
  pub few-entries : length es ≤ length text
  few-entries =
      let all : length text ≡ length front + length (codes "journal\n" ++ (lines ++ codes "end\n")) =
      ap (λ (xs : List ℕ). length xs) form.parts ∙ length-append front (codes "journal\n" ++ (lines ++ codes "end\n")) in
      let behind : length (codes "journal\n" ++ (lines ++ codes "end\n")) ≡ 8 + length (lines ++ codes "end\n") =
      length-append (codes "journal\n") (lines ++ codes "end\n") in
      let last : length (lines ++ codes "end\n") ≡ length lines + 4 = length-append lines (codes "end\n") in
      let told : length lines ≡ length (flat_map ended_line es) = ap (λ (xs : List ℕ). length xs) form.entries.lines in
      let fewer = fewer-entries es in
      omega (arith, all, behind, last, told, fewer)

  pub entry-fault : (e : CheckFault) → IsWrongIn b (length texts) (asks_by b texts) es e → IsFaultIn (checked_on b texts) text e
  entry-fault e (AtEntry i first) = record { read = read; first = first }
  entry-fault e (AtCaller c legal first) = record { read = read; legal = legal; first = first }

  module _ (seats : List (Seat CallerView)) (entries : List Entry) (left : HasBeenChecked b texts es seats entries)
      (fair : IsFairCaller asked_by left_of board_of) where
    printed : map (λ (s : Seat CallerView). section_of s.caller) seats ≡ map section_of (callers_on seats)
    printed = sym (map_map section_of (λ (s : Seat CallerView). s.caller) seats)

    pub report-verified : (n : ℕ) → front ≡ sections 0 (map (λ (s : Seat CallerView). section_of s.caller) seats)
        → n ≡ length entries → IsVerified (checked_on b texts) text n
    report-verified n same counted =
        record {
          journal = es;
          in_range = form.entries.in_range;
          legal = left.legal;
          complete = left.complete;
          report = report-over script_row b (callers_on seats) MOST_CALLERS es _ _ fair left.over section_by text whole
              ∙ report-of-texts b texts (scripts_in script_row (callers_on seats)) left.scripts_are es;
          counted = ap (λ (js : List Entry). length js) (sym left.same) ∙ sym counted;
        }
      where
        whole : text ≡ report_lines (map section_of (callers_on seats)) es
        whole =
            form.parts ∙ ap (λ (xs : List ℕ). xs ++ (codes "journal\n" ++ (lines ++ codes "end\n"))) (same ∙ ap (sections 0) printed)
            ∙ ap (λ (xs : List ℕ). sections 0 (map section_of (callers_on seats)) ++ (codes "journal\n" ++ (xs ++ codes "end\n")))
            form.entries.lines

    pub text-fault : (n : ℕ)
        → FirstOther 1 (lines_of front) (lines_of (sections 0 (map (λ (s : Seat CallerView). section_of s.caller) seats))) n
        → IsFaultIn (checked_on b texts) text (fault.Text n)
    text-fault n other =
        record {
          read = read;
          legal = left.legal;
          complete = left.complete;
          first = subst (λ (xs : List ℕ). FirstOther 1 (lines_of front) (lines_of xs) n)
              (ap (sections 0) (printed ∙ sections_are script_row b (callers_on seats) MOST_CALLERS es _ _ fair left.over section_by)
              ∙ ap (λ (p : ℕ → List Reply → List ℕ). sections 0 (map (text_of p es) (range_with_len 0
              (length (scripts_in script_row (callers_on seats))))))
              (printed-of-texts b texts (scripts_in script_row (callers_on seats)) left.scripts_are)
              ∙ ap (λ (n : ℕ). sections 0 (map (text_of (printed_by b texts) es) (range_with_len 0 n)))
              (count-of-texts b texts (scripts_in script_row (callers_on seats)) left.scripts_are)) other;
        }

-- BOTH WAYS
module _ (x : Checked) (text : List ℕ) (can : CanBeChecked x) (r : Result ℕ CheckFault) (verified : IfOk r (IsVerified x text))
    (faulty : IfErr r (λ e. (e ≡ fault.Memory) ⊎ IsFaultIn x text e))
    (counted : (x : Checked) (text : List ℕ) (n m : ℕ) → CanBeChecked x → IsVerified x text n → IsVerified x text m → n ≡ m)
    (faultless : (x : Checked) (text : List ℕ) (n : ℕ) (f : CheckFault) → CanBeChecked x → IsVerified x text n → IsFaultIn x text f → ⊥)
    (one : (x : Checked) (text : List ℕ) (f g : CheckFault) → CanBeChecked x → IsFaultIn x text f → IsFaultIn x text g → f ≡ g) where
  pub each-report : (n : ℕ) → IsVerified x text n → (r ≡ Ok n) ⊎ (r ≡ Err fault.Memory)
  each-report n v = by r verified faulty refl
    where
      by : (s : Result ℕ CheckFault) → IfOk s (IsVerified x text) → IfErr s (λ e. (e ≡ fault.Memory) ⊎ IsFaultIn x text e) → r ≡ s
          → (r ≡ Ok n) ⊎ (r ≡ Err fault.Memory)
      by (Ok m) w at_no is = inl (is ∙ ap (λ (k : ℕ). Ok k) (counted x text m n can w v))
      by (Err e) at_no (inl memory) is = inr (is ∙ ap (λ (k : CheckFault). Err k) memory)
      by (Err e) at_no (inr at) is = absurd (faultless x text n e can v at)

  pub each-fault : (f : CheckFault) → IsFaultIn x text f → (r ≡ Err f) ⊎ (r ≡ Err fault.Memory)
  each-fault f at = by r verified faulty refl
    where
      by : (s : Result ℕ CheckFault) → IfOk s (IsVerified x text) → IfErr s (λ e. (e ≡ fault.Memory) ⊎ IsFaultIn x text e) → r ≡ s
          → (r ≡ Err f) ⊎ (r ≡ Err fault.Memory)
      by (Ok m) w at_no is = absurd (faultless x text m f can w at)
      by (Err e) at_no (inl memory) is = inr (is ∙ ap (λ (k : CheckFault). Err k) memory)
      by (Err e) at_no (inr other) is = inl (is ∙ ap (λ (k : CheckFault). Err k) (one x text e f can other at))
