-- A session is a script, and the flat world replies to the script what it replied to the session. The inductions go over the lines, the
-- commands, and the replies.
use Rattle.run_laws.proofs.Cited.{◌≡◌, ℕ, suc, ◌<◌, ◌≤◌, Bool, true, false, List, [], ◌∷◌, length, map, reverse, Option, Some, None, refl}
use Rattle.run_laws.proofs.Cited.{sym, ◌∙◌, ap, subst, arith, BoardView, Reply, Asks, History, history, TargetState, Entry, order}
use Rattle.run_laws.proofs.Cited.{replies, commands_of, script_on, asks_by, HasRun, IsRunBy, failures, PortCall}
use Rattle.std.proofs.Common.{◌+◌, ◌-◌, ◌++◌, zero, cond, eqb, nat_le, take, drop, Result, Ok, Err, inl, inr, append_assoc, append-nil}
use Rattle.std.proofs.Common.{length-append}
use Rattle.std.proofs.lemmas.Bool.Decides.{eqb_tells, leb_tells, nat_tests}
use Rattle.std.proofs.lemmas.List.{length-map}
use Rattle.std.proofs.lemmas.List.Sums.{sum_by-cons}
use Rattle.std.specs.List.{flat_map, fold, sum_by}
use Rattle.std.specs.Option.{option_and_then, option_map}
use Rattle.std.specs.Prelude.{MatchBool}
use Rattle.i2c_base.specs.declared.entry.Entry.TheVariants as entry
use Rattle.i2c_base.specs.declared.entry.End.{End}
use Rattle.i2c_base.specs.declared.entry.End.TheVariants as end
use Rattle.i2c_base.specs.declared.entry.Purpose.{Purpose}
use Rattle.i2c_base.specs.declared.entry.Purpose.TheVariants as purpose
use Rattle.i2c_base.specs.declared.reply.Cut.{Cut}
use Rattle.i2c_base.specs.declared.reply.Cut.TheVariants as cut
use Rattle.i2c_spec.specs.Cost.{cost_of}
use Rattle.i2c_spec.specs.Flat.{FlatTold, flat}
use Rattle.i2c_spec.specs.History.{one_more, opening_history, with_told}
use Rattle.i2c_spec.specs.Targets.{opening_state}
use Rattle.bus_spec.specs.Faults.{count_if}
use Rattle.bus_spec.specs.Legal.{KeepsSettles}
use Rattle.bus_spec.specs.Places.{is_cut}
use Rattle.bus_spec.specs.Readings.{Everywhere, caller_of, cut_told, last_cut, message_cut}
use Rattle.bus_spec.specs.Report.{report_lines}
use Rattle.journal_laws.specs.Counts.{is_failed}
use Rattle.tools.specs.Dialogues.{Dialogue, is_over, next_place, place_after}
use Rattle.tools.specs.declared.command.Cmd.{Cmd}
use Rattle.caller_core.specs.Runs.{command_run, handles_behind}
use Rattle.caller_core.specs.Scripts.{MOST_COST, behind_commands, behind_line_read, command_of, command_text, commands_or_none, cost_of_script, lines_read, section_text, text_read}
use Rattle.caller_core.specs.Turns.{Answered, Progress, asked_at, command_talk, progress, quiet, quiet_front, replied, sum_of, turn_to}
use Rattle.caller_core.specs.View.{CommandView}
use Rattle.i2c_session.specs.Sessions.{Answer, AnswersRead, Empty, Exchange, HasRunCommand, IsTranscript, Refused, SessionView, Talks}
use Rattle.i2c_session.specs.Sessions.{cost_in, is_dear, opening, read_of, told_at}
use Rattle.run_laws.specs.Sessions.{IsItsReport, IsItsScript, IsSessionOf, is_part, parts_of, section_by, section_of}

-- COMMANDS that the flat world replied to, one after the other
abbrev Chain : BoardView → List TargetState → List Answered → List TargetState → Type 0
Chain b states [] ends = ends ≡ states
Chain b states (a ∷ os) ends =
    (mid : List TargetState) × Talks b (command_talk a.command) 0 states a.replies mid × Chain b mid os ends

-- the lines that are part of a session are read as these commands
record IsRead (xs : List Exchange) (s end : SessionView) : Type 0 where
  overs : List Answered
  read : (number : ℕ) → lines_read s.board number s.commands (parts_of xs) s.handles ≡ Ok (map (λ (a : Answered). a.command) overs)
  chain : Chain s.board s.states overs end.states
  printed : flat_map command_text overs ≡ flat_map section_of xs
  many : s.commands + length overs ≡ end.commands
  cost_is : s.cost + sum_by (λ (a : Answered). sum_of (cost_of s.board) a.command) overs ≡ end.cost
  cheap : s.cost ≤ MOST_COST → end.cost ≤ MOST_COST
  board_is : end.board ≡ s.board

-- a line that is refused
read_refused : (x : Exchange) (xs : List Exchange) (s next end : SessionView) (word : ℕ) → x.answer ≡ Refused word → next ≡ s
    → IsRead xs next end → IsRead (x ∷ xs) s end
read_refused x xs s next end word is stays rest =
    let was : IsRead xs s end = subst (λ (v : SessionView). IsRead xs v end) stays rest in
    record {
      overs = was.overs;
      read = λ number. ap (λ (a : Answer). lines_read s.board number s.commands (cond (is_part a) (x.line ∷ parts_of xs) (parts_of xs)) s.handles) is
          ∙ was.read number;
      chain = was.chain;
      printed = was.printed ∙ sym (ap (λ (a : Answer). section_by x.line a ++ flat_map section_of xs) is);
      many = was.many;
      cost_is = was.cost_is;
      cheap = was.cheap;
      board_is = was.board_is;
    }

-- a line without a command
read_empty : (x : Exchange) (xs : List Exchange) (s next end : SessionView) (number : ℕ) → read_of s x.line ≡ Ok None
    → x.answer ≡ Empty number → next ≡ s → IsRead xs next end → IsRead (x ∷ xs) s end
read_empty x xs s next end number reads is stays rest =
    let was : IsRead xs s end = subst (λ (v : SessionView). IsRead xs v end) stays rest in
    record {
      overs = was.overs;
      read = λ line. ap (λ (a : Answer). lines_read s.board line s.commands (cond (is_part a) (x.line ∷ parts_of xs) (parts_of xs)) s.handles) is
          ∙ ap (λ (r : Result (Option Cmd) ℕ). behind_line_read s.board s.handles line x.line r
          (lines_read s.board (line + 1) s.commands (parts_of xs) s.handles)
          (lines_read s.board (line + 1) (s.commands + 1) (parts_of xs))) reads
          ∙ was.read (line + 1);
      chain = was.chain;
      printed = was.printed ∙ sym (ap (λ (a : Answer). section_by x.line a ++ flat_map section_of xs) is);
      many = was.many;
      cost_is = was.cost_is;
      cheap = was.cheap;
      board_is = was.board_is;
    }

-- a command that was run
read_ran : (x : Exchange) (xs : List Exchange) (s next end : SessionView) (c : Cmd) → read_of s x.line ≡ Ok (Some c)
    → is_dear s (command_run s.board s.handles c) ≡ false
    → HasRunCommand s (command_run s.board s.handles c) (handles_behind s.board s.handles c) x.answer next
    → IsRead xs next end → IsRead (x ∷ xs) s end
read_ran x xs s next end c reads fits ran rest =
    record {
      overs = a ∷ was.overs;
      read = λ line. ap (λ (y : Answer). lines_read s.board line s.commands (cond (is_part y) (x.line ∷ parts_of xs) (parts_of xs)) s.handles)
          ran.answer_is
          ∙ ap (λ (r : Result (Option Cmd) ℕ). behind_line_read s.board s.handles line x.line r
          (lines_read s.board (line + 1) s.commands (parts_of xs) s.handles)
          (lines_read s.board (line + 1) (s.commands + 1) (parts_of xs))) reads
          ∙ ap (behind_commands (command_of s.board s.handles x.line c ∷ [])) (was.read (line + 1));
      chain = (ran.ends, ran.talked, was.chain);
      printed = ap (λ (ys : List ℕ). command_text a ++ ys) was.printed
          ∙ sym (ap (λ (y : Answer). section_by x.line y ++ flat_map section_of xs) ran.answer_is);
      many = omega (arith, was.many);
      cost_is = (let one : sum_by (λ (o : Answered). sum_of (cost_of s.board) o.command) (a ∷ was.overs)
          ≡ cost_in s.board (command_run s.board s.handles c) + sum_by (λ (o : Answered). sum_of (cost_of s.board) o.command) was.overs
          = sum_by-cons (λ (o : Answered). sum_of (cost_of s.board) o.command) a was.overs in
          omega (arith, one, was.cost_is));
      cheap = λ low. was.cheap (grind (arith, nat_tests, fits));
      board_is = was.board_is;
    }
  where
    a : Answered
    a = record { command = command_of s.board s.handles x.line c; replies = ran.replies }

    was : IsRead xs (record {
      board = s.board;
      handles = handles_behind s.board s.handles c;
      states = ran.ends;
      commands = s.commands + 1;
      cost = s.cost + cost_in s.board (command_run s.board s.handles c);
    }) end
    was = subst (λ (v : SessionView). IsRead xs v end) ran.next_is rest

is_read : (xs : List Exchange) (s end : SessionView) → IsTranscript xs s end → IsRead xs s end
is_read [] s end is = subst (λ (v : SessionView). IsRead [] s v) (sym is) (record {
  overs = [];
  read = λ number. refl;
  chain = refl;
  printed = refl;
  many = omega arith;
  cost_is = omega arith;
  cheap = λ low. low;
  board_is = refl;
})
is_read (x ∷ xs) s end is = by (is_read xs is.0 end is.2) (read_of s x.line) refl is.1
  where
    next : SessionView
    next = is.0

    command : IsRead xs next end → (c : Cmd) → read_of s x.line ≡ Ok (Some c) → (dear : Bool) → is_dear s (command_run s.board s.handles c) ≡ dear
        → MatchBool dear ((x.answer ≡ Refused 0) × (next ≡ s))
        (HasRunCommand s (command_run s.board s.handles c) (handles_behind s.board s.handles c) x.answer next)
        → IsRead (x ∷ xs) s end
    command rest c reads true dear left = read_refused x xs s next end 0 left.0 left.1 rest
    command rest c reads false dear ran = read_ran x xs s next end c reads dear ran rest

    by : IsRead xs next end → (r : Result (Option Cmd) ℕ) → read_of s x.line ≡ r → AnswersRead s r x.answer next → IsRead (x ∷ xs) s end
    by rest (Err word) reads left = read_refused x xs s next end word left.0 left.1 rest
    by rest (Ok None) reads left = read_empty x xs s next end s.commands reads left.0 left.1 rest
    by rest (Ok (Some c)) reads answers = command rest c reads (is_dear s (command_run s.board s.handles c)) refl answers

-- FOLDS
fold_append : {X Y : Type 0} (f : Y → X → Y) (y : Y) (xs zs : List X) → fold f y (xs ++ zs) ≡ fold f (fold f y xs) zs
fold_append f y [] zs = refl
fold_append f y (x ∷ xs) zs = fold_append f (f y x) xs zs

-- ALONE: so many transfers of caller 0, of which none was cut off
abbrev nos : ℕ → List (ℕ × Cut)
nos zero = []
nos (suc n) = (0, cut.No) ∷ nos n

-- what a caller who asks for what these commands ask for has come to, alone in the flat world
module _ (b : BoardView) (asks : Asks) (cs : List CommandView) (own_asks : (rs : List Reply) → asks 0 rs ≡ asked_at (progress cs rs)) where
  record Stands (rs : List Reply) (p : Progress) (states : List TargetState) : Type 0 where
    at : progress cs rs ≡ p
    past : History
    told : history b asks (nos (length rs)) ≡ Some past
    had : past.replies 0 ≡ rs
    left : past.states ≡ states

  -- one reply more
  replies_more : (rs own : List Reply) (over : List Answered) (c : CommandView) (later : List CommandView) (states : List TargetState)
      (place : ℕ) (r : Reply)
      → Stands rs (record { over = over; left = c ∷ later; own = own }) states → place_after (command_talk c) own ≡ place
      → is_over (command_talk c) place ≡ false → r ≡ (told_at b (command_talk c) place states).reply
      → Stands (rs ++ r ∷ []) (replied (record { over = over; left = c ∷ later; own = own }) r)
      (told_at b (command_talk c) place states).states
  replies_more rs own over c later states place r stands here more is =
      let d : Dialogue = command_talk c in
      let p : Progress = record { over = over; left = c ∷ later; own = own } in
      let asked : asks 0 rs ≡ Some (d.at place) = own_asks rs ∙ ap asked_at stands.at
      ∙ ap (λ (k : ℕ). cond (is_over d k) None (Some (d.at k))) here ∙ ap (λ (x : Bool). cond x None (Some (d.at place))) more in
      let after : History = with_told stands.past 0 (flat b stands.past.states (d.at place) cut.No) in
      let longer : length (rs ++ r ∷ []) ≡ suc (length rs) = omega (arith, length-append rs (r ∷ [])) in
      let answer : FlatTold = told_at b d place states in
      let flat_is : flat b stands.past.states (d.at place) cut.No ≡ answer =
      ap (λ (ss : List TargetState). flat b ss (d.at place) cut.No) stands.left in
      record {
        at = fold_append replied (turn_to [] cs) rs (r ∷ []) ∙ ap (λ (q : Progress). replied q r) stands.at;
        past = after;
        told = ap (λ (n : ℕ). history b asks (nos n)) longer
            ∙ ap (option_and_then (one_more b asks 0 cut.No)) stands.told
            ∙ ap (λ (ys : List Reply). option_map (λ t. with_told stands.past 0 (flat b stands.past.states t cut.No)) (asks 0 ys)) stands.had
            ∙ ap (option_map (λ t. with_told stands.past 0 (flat b stands.past.states t cut.No))) asked;
        had = ap (λ (ys : List Reply). ys ++ (flat b stands.past.states (d.at place) cut.No).reply ∷ []) stands.had
            ∙ ap (λ (t : FlatTold). rs ++ t.reply ∷ []) flat_is ∙ ap (λ (x : Reply). rs ++ x ∷ []) (sym is);
        left = ap (λ (t : FlatTold). t.states) flat_is;
      }

  -- the replies to one command
  command_over : (new rs own : List Reply) (over : List Answered) (c : CommandView) (later : List CommandView)
      (states ends : List TargetState) (place : ℕ)
      → Stands rs (record { over = over; left = c ∷ later; own = own }) states → place_after (command_talk c) own ≡ place
      → is_over (command_talk c) place ≡ false → Talks b (command_talk c) place states new ends
      → Stands (rs ++ new) (turn_to (over ++ record { command = c; replies = own ++ new } ∷ []) later) ends
  command_over [] rs own over c later states ends place stands here more talks =
      absurd (let f : true ≡ false = sym talks.0 ∙ more in cc)
  command_over (r ∷ new) rs own over c later states ends place stands here more talks =
      by (command_over new (rs ++ r ∷ []) (own ++ r ∷ []) over c later (told_at b d place states).states ends (next_place d place r))
      (is_over d (next_place d place r)) refl
    where
      d : Dialogue
      d = command_talk c

      p : Progress
      p = record { over = over; left = c ∷ later; own = own }

      there : place_after d (own ++ r ∷ []) ≡ next_place d place r
      there = fold_append (next_place d) 0 own (r ∷ []) ∙ ap (λ (k : ℕ). next_place d k r) here

      stood : Stands (rs ++ r ∷ []) (replied p r) (told_at b d place states).states
      stood = replies_more rs own over c later states place r stands here more talks.1

      goes : (x : Bool) → is_over d (next_place d place r) ≡ x
          → replied p r ≡ cond x (turn_to (over ++ record { command = c; replies = own ++ r ∷ [] } ∷ []) later)
          (record { over = over; left = c ∷ later; own = own ++ r ∷ [] })
      goes x is = ap (λ (y : Bool). cond y (turn_to (over ++ record { command = c; replies = own ++ r ∷ [] } ∷ []) later)
          (record { over = over; left = c ∷ later; own = own ++ r ∷ [] }))
          (ap (λ (k : ℕ). is_over d k) there ∙ is)

      last : (ys : List Reply) → is_over d (next_place d place r) ≡ true
          → Talks b d (next_place d place r) (told_at b d place states).states ys ends
          → (ys ≡ []) × (ends ≡ (told_at b d place states).states)
      last [] is t = (refl, t.1)
      last (y ∷ ys) is t = absurd (let f : true ≡ false = sym is ∙ t.0 in cc)

      by : (Stands (rs ++ r ∷ []) (record { over = over; left = c ∷ later; own = own ++ r ∷ [] }) (told_at b d place states).states
          → place_after d (own ++ r ∷ []) ≡ next_place d place r → is_over d (next_place d place r) ≡ false
          → Talks b d (next_place d place r) (told_at b d place states).states new ends
          → Stands ((rs ++ r ∷ []) ++ new) (turn_to (over ++ record { command = c; replies = (own ++ r ∷ []) ++ new } ∷ []) later) ends)
          → (x : Bool) → is_over d (next_place d place r) ≡ x
          → Stands (rs ++ r ∷ new) (turn_to (over ++ record { command = c; replies = own ++ r ∷ new } ∷ []) later) ends
      by again true is =
          let none = last new is talks.2 in
          subst (λ (ys : List Reply). Stands (rs ++ r ∷ ys) (turn_to (over ++ record { command = c; replies = own ++ r ∷ ys } ∷ []) later) ends)
          (sym none.0)
          (subst (λ (ss : List TargetState). Stands (rs ++ r ∷ []) (turn_to (over ++ record { command = c; replies = own ++ r ∷ [] } ∷ []) later) ss)
          (sym none.1)
          (subst (λ (q : Progress). Stands (rs ++ r ∷ []) q (told_at b d place states).states) (goes true is) stood))
      by again false is =
          subst (λ (ys : List Reply). Stands ys (turn_to (over ++ record { command = c; replies = own ++ r ∷ new } ∷ []) later) ends)
          (append_assoc rs (r ∷ []) new)
          (subst (λ (ys : List Reply). Stands ((rs ++ r ∷ []) ++ new) (turn_to (over ++ record { command = c; replies = ys } ∷ []) later) ends)
          (append_assoc own (r ∷ []) new)
          (again (subst (λ (q : Progress). Stands (rs ++ r ∷ []) q (told_at b d place states).states) (goes false is) stood) there is talks.2))

  abbrev replies_in : List Answered → List Reply
  replies_in os = flat_map (λ (a : Answered). a.replies) os

  abbrev commands_in : List Answered → List CommandView
  commands_in os = map (λ (a : Answered). a.command) os

  -- the replies to all of them
  all_over : (os over : List Answered) (rs : List Reply) (states ends : List TargetState) → Chain b states os ends
      → Stands rs (turn_to over (commands_in os)) states
      → Stands (rs ++ replies_in os) (record { over = over ++ os; left = []; own = [] }) ends
  all_over [] over rs states ends chain stands =
      subst (λ (ys : List Reply). Stands ys (record { over = over ++ []; left = []; own = [] }) ends) (sym (append-nil rs))
      (subst (λ (ss : List TargetState). Stands rs (record { over = over ++ []; left = []; own = [] }) ss) (sym chain) stands)
  all_over (a ∷ os) over rs states ends chain stands =
      by (λ stood. all_over os (over ++ a ∷ []) (rs ++ a.replies) mid ends chain.2 stood) (eqb d.places 0) refl
    where
      d : Dialogue
      d = command_talk a.command

      mid : List TargetState
      mid = chain.0

      later : List CommandView
      later = commands_in os

      Again : Type 0
      Again = Stands (rs ++ a.replies) (turn_to (over ++ a ∷ []) later) mid
          → Stands ((rs ++ a.replies) ++ replies_in os) (record { over = (over ++ a ∷ []) ++ os; left = []; own = [] }) ends

      rest : Again → (ys : List Reply) → Stands (rs ++ ys) (turn_to (over ++ record { command = a.command; replies = ys } ∷ []) later) mid
          → ys ≡ a.replies → Stands (rs ++ replies_in (a ∷ os)) (record { over = over ++ a ∷ os; left = []; own = [] }) ends
      rest again ys stood is =
          let at : Stands (rs ++ a.replies) (turn_to (over ++ a ∷ []) later) mid =
          subst (λ (zs : List Reply). Stands (rs ++ zs) (turn_to (over ++ record { command = a.command; replies = zs } ∷ []) later) mid) is stood in
          subst (λ (zs : List Reply). Stands zs (record { over = over ++ a ∷ os; left = []; own = [] }) ends)
          (append_assoc rs a.replies (replies_in os))
          (subst (λ (ps : List Answered). Stands ((rs ++ a.replies) ++ replies_in os) (record { over = ps; left = []; own = [] }) ends)
          (append_assoc over (a ∷ []) os)
          (again at))

      none : (ys : List Reply) → d.places ≡ 0 → Talks b d 0 states ys mid → (ys ≡ []) × (mid ≡ states)
      none [] few t = (refl, t.1)
      none (y ∷ ys) few t = absurd (let f : true ≡ false = sym (ap (λ (k : ℕ). nat_le k 0) few) ∙ t.0 in cc)

      turns : (x : Bool) → eqb d.places 0 ≡ x → (n : ℕ) → n ≡ quiet_front later
          → turn_to over (a.command ∷ later)
          ≡ cond x (turn_to (over ++ quiet a.command ∷ []) later) (record { over = over; left = a.command ∷ later; own = [] })
      turns true is n same =
          ap (λ (y : Bool). (let q : ℕ = cond y (quiet_front later + 1) 0 in
          record { over = over ++ map quiet (take q (a.command ∷ later)); left = drop q (a.command ∷ later); own = [] })) is
          ∙ ap (λ (k : ℕ). record { over = over ++ map quiet (take k (a.command ∷ later)); left = drop k (a.command ∷ later); own = [] })
          (let k : quiet_front later + 1 ≡ suc (quiet_front later) = omega arith in k)
          ∙ ap (λ (ps : List Answered). record { over = ps; left = drop (quiet_front later) later; own = [] })
          (sym (append_assoc over (quiet a.command ∷ []) (map quiet (take (quiet_front later) later))))
      turns false is n same =
          ap (λ (y : Bool). (let q : ℕ = cond y (quiet_front later + 1) 0 in
          record { over = over ++ map quiet (take q (a.command ∷ later)); left = drop q (a.command ∷ later); own = [] })) is
          ∙ ap (λ (ps : List Answered). record { over = ps; left = a.command ∷ later; own = [] }) (append-nil over)

      by : Again → (x : Bool) → eqb d.places 0 ≡ x → Stands (rs ++ replies_in (a ∷ os)) (record { over = over ++ a ∷ os; left = []; own = [] }) ends
      by again true is =
          let empty = none a.replies (let few : d.places ≡ 0 = grind (arith, nat_tests, is) in few) chain.1 in
          rest again []
          (subst (λ (ys : List Reply). Stands ys (turn_to (over ++ quiet a.command ∷ []) later) mid) (sym (append-nil rs))
          (subst (λ (ss : List TargetState). Stands rs (turn_to (over ++ quiet a.command ∷ []) later) ss) (sym empty.1)
          (subst (λ (q : Progress). Stands rs q states) (turns true is (quiet_front later) refl) stands)))
          (sym empty.0)
      by again false is =
          let more : is_over d 0 ≡ false = grind (arith, nat_tests, is) in
          rest again a.replies
          (command_over a.replies rs [] over a.command later states mid 0
          (subst (λ (q : Progress). Stands rs q states) (turns false is (quiet_front later) refl) stands) refl more chain.1)
          refl

  -- from the opening on
  alone : (os : List Answered) (ends : List TargetState) → cs ≡ commands_in os → Chain b (map opening_state b.devices) os ends
      → Stands (replies_in os) (record { over = os; left = []; own = [] }) ends
  alone os ends is chain =
      all_over os [] [] (map opening_state b.devices) ends chain
      (record { at = ap (turn_to []) is; past = opening_history b; told = refl; had = refl; left = refl })

  -- nobody goes on who asks for nothing more
  never_longer : (n k : ℕ) (h g : History) → history b asks (nos n) ≡ Some h → asks 0 (h.replies 0) ≡ None
      → history b asks (nos (suc (k + n))) ≡ Some g → ⊥
  never_longer n zero h g told none longer =
      (let same : zero + n ≡ n = omega arith in
      let f : None ≡ Some g = sym (ap (λ (k : ℕ). history b asks (nos (suc k))) same
      ∙ ap (option_and_then (one_more b asks 0 cut.No)) told
      ∙ ap (option_map (λ t. with_told h 0 (flat b h.states t cut.No))) none) ∙ longer in cc)
  never_longer n (suc k) h g told none longer =
      by (λ f is. never_longer n k h f told none is) (history b asks (nos (suc (k + n)))) refl
    where
      by : ((f : History) → history b asks (nos (suc (k + n))) ≡ Some f → ⊥)
          → (o : Option History) → history b asks (nos (suc (k + n))) ≡ o → ⊥
      by again None is = (let same : suc k + n ≡ suc (k + n) = omega arith in
          let f : None ≡ Some g = sym (ap (λ (j : ℕ). history b asks (nos (suc j))) same ∙ ap (option_and_then (one_more b asks 0 cut.No)) is) ∙ longer in cc)
      by again (Some f) is = again f is

  -- two that ask for nothing more are one
  one_end : (n m : ℕ) (h g : History) → history b asks (nos n) ≡ Some h → asks 0 (h.replies 0) ≡ None
      → history b asks (nos m) ≡ Some g → asks 0 (g.replies 0) ≡ None → h ≡ g
  one_end n m h g told none other over =
      elim (eqb_tells n m) [
        | inl same ↦ (let f : Some h ≡ Some g = sym told ∙ ap (λ (k : ℕ). history b asks (nos k)) same.1 ∙ other in cc)
        | inr less ↦ elim (leb_tells n m) [
          | inl low ↦ absurd (never_longer n (m - n - 1) h g told none
              (ap (λ (k : ℕ). history b asks (nos k)) (let e : suc (m - n - 1 + n) ≡ m = omega (arith, low.1, less.1) in e) ∙ other))
          | inr high ↦ absurd (never_longer m (n - m - 1) g h other over
              (ap (λ (k : ℕ). history b asks (nos k)) (let e : suc (n - m - 1 + m) ≡ n = omega (arith, high.1, less.1) in e) ∙ told))
        ]
      ]

-- CUTS: where nothing failed none is told
not_cut : (e : Entry) → is_failed e ≡ false → cut_told e ≡ cut.No
not_cut (entry.Take c l) is = refl
not_cut (entry.Free c l) is = refl
not_cut (entry.Settle c r k) is = refl
not_cut (entry.Line c mux level failed) is = ap (λ (x : Bool). cond x cut.Way cut.No) is
not_cut (entry.Message c bus why part parts addr reading bytes heard e) is = by why e is
  where
    by : (why : Purpose) (e : End) → is_cut e ≡ false → message_cut why part e ≡ cut.No
    by why (end.Cut q) is = absurd (let f : true ≡ false = is in cc)
    by purpose.Call end.Ok is = refl
    by purpose.Call end.Nack is = refl
    by purpose.Call end.Slow is = refl
    by purpose.Call end.Refused is = refl
    by purpose.Call end.Proto is = refl
    by (purpose.Control m) end.Ok is = refl
    by (purpose.Control m) end.Nack is = refl
    by (purpose.Control m) end.Slow is = refl
    by (purpose.Control m) end.Refused is = refl
    by (purpose.Control m) end.Proto is = refl

none_here : (e : Entry) (past : List Entry) → failures (e ∷ past) ≡ 0 → is_failed e ≡ false
none_here e past none = by (is_failed e) refl
  where
    by : (x : Bool) → is_failed e ≡ x → is_failed e ≡ false
    by false is = is
    by true is =
        let one : count_if (is_failed e) ≡ 1 = ap count_if is in
        let sum : count_if (is_failed e) + failures past ≡ 0 = none in
        absurd (omega (arith, one, sum))

none_before : (e : Entry) (past : List Entry) → failures (e ∷ past) ≡ 0 → failures past ≡ 0
none_before e past none = (let sum : count_if (is_failed e) + failures past ≡ 0 = none in omega (arith, sum))

no_last_cut : (past : List Entry) (c : ℕ) → failures past ≡ 0 → last_cut past c ≡ cut.No
no_last_cut [] c none = refl
no_last_cut (e ∷ past) c none = by (no_last_cut past c (none_before e past none)) (eqb (caller_of e) c)
  where
    by : last_cut past c ≡ cut.No → (x : Bool) → cond x (cut_told e) (last_cut past c) ≡ cut.No
    by was true = not_cut e (none_here e past none)
    by was false = was

-- the settles of one caller, none of them cut off
one_order : (asks : Asks) (b : BoardView) (past : List Entry) → failures past ≡ 0 → KeepsSettles b asks past
    → Everywhere (λ e before. caller_of e < 1) past → order past ≡ nos (length (order past))
one_order asks b [] none settles known = refl
one_order asks b (entry.Settle c r k ∷ past) none settles known =
    let first : c ≡ 0 = (let low = known.0 in omega (arith, low)) in
    let whole : k ≡ cut.No = settles.0.0 ∙ no_last_cut past c (none_before (entry.Settle c r k) past none) in
    ap (λ (p : ℕ × Cut). p ∷ order past) (ap (λ (i : ℕ). (i, k)) first ∙ ap (λ (x : Cut). (0, x)) whole)
    ∙ ap (λ (ps : List (ℕ × Cut)). (0, cut.No) ∷ ps) (one_order asks b past (none_before (entry.Settle c r k) past none) settles.1 known.1)
one_order asks b (entry.Take c l ∷ past) none settles known = one_order asks b past (none_before (entry.Take c l) past none) settles.1 known.1
one_order asks b (entry.Free c l ∷ past) none settles known = one_order asks b past (none_before (entry.Free c l) past none) settles.1 known.1
one_order asks b (entry.Line c mux level failed ∷ past) none settles known =
    one_order asks b past (none_before (entry.Line c mux level failed) past none) settles.1 known.1
one_order asks b (entry.Message c bus why part parts addr reading bytes heard e ∷ past) none settles known =
    one_order asks b past (none_before (entry.Message c bus why part parts addr reading bytes heard e) past none) settles.1 known.1

-- A SESSION, and a text whose lines are those that are part of it
module _ (b : BoardView) (xs : List Exchange) (end : SessionView) (text : List ℕ) (is : IsSessionOf b xs end text) where
  read : IsRead xs (opening b) end
  read = is_read xs (opening b) end is.transcript

  read_is : text_read b text ≡ Ok (commands_in b (asks_by b (text ∷ [])) (commands_of (script_on b text)) (λ rs. refl) read.overs)
  read_is = ap (λ (ls : List (List ℕ)). lines_read b 1 0 ls []) is.lines_are ∙ read.read 1

  commands_are : commands_of (script_on b text) ≡ map (λ (a : Answered). a.command) read.overs
  commands_are = ap commands_or_none read_is

  pub is-its-script : IsItsScript b xs end text
  is-its-script =
      let many : length (commands_of (script_on b text)) ≡ length read.overs = ap (λ (cs : List CommandView). length cs) commands_are
      ∙ length-map read.overs (λ (a : Answered). a.command) in
      let cost : cost_of_script (script_on b text) ≡ sum_by (λ (a : Answered). sum_of (cost_of b) a.command) read.overs =
      ap (sum_by (sum_of (cost_of b))) commands_are ∙ sum_map read.overs in
      record {
        in_grammar = read_is ∙ ap Ok (sym commands_are);
        many = omega (arith, many, read.many);
        cost_is = omega (arith, cost, read.cost_is);
        cheap = omega (arith, cost, read.cost_is, read.cheap (omega arith));
      }
    where
      sum_map : (os : List Answered) → sum_by (sum_of (cost_of b)) (map (λ (a : Answered). a.command) os)
          ≡ sum_by (λ (a : Answered). sum_of (cost_of b) a.command) os
      sum_map [] = refl
      sum_map (a ∷ os) = sum_by-cons (sum_of (cost_of b)) a.command (map (λ (o : Answered). o.command) os)
          ∙ ap (λ (n : ℕ). sum_of (cost_of b) a.command + n) (sum_map os)
          ∙ sym (sum_by-cons (λ (o : Answered). sum_of (cost_of b) o.command) a os)

  pub is-its-report : (words : Option (List ℕ)) (bytes : List ℕ) (logs : List (List PortCall)) (states : List TargetState)
      (counts : List ℕ) (run : HasRun b (text ∷ []) words bytes logs states counts) → failures (reverse run.journal) ≡ 0
      → IsItsReport xs end bytes states
  is-its-report words bytes logs states counts run none =
      record {
        journal = run.journal;
        report = run.is_told ∙ ap (λ (ys : List ℕ). report_lines (ys ∷ []) run.journal) section;
        devices = one.left ∙ ap (λ (h : History). h.states) same ∙ stood.left;
      }
    where
      asks : Asks
      asks = asks_by b (text ∷ [])

      cs : List CommandView
      cs = commands_of (script_on b text)

      one : IsRunBy b 1 asks logs states counts run.journal
      one = run.is_run

      past : List Entry
      past = reverse run.journal

      stood : Stands b asks cs (λ rs. refl) (replies_in b asks cs (λ rs. refl) read.overs) (record { over = read.overs; left = []; own = [] }) end.states
      stood = alone b asks cs (λ rs. refl) read.overs end.states commands_are read.chain

      many : ℕ
      many = length (replies_in b asks cs (λ rs. refl) read.overs)

      over : asks 0 (stood.past.replies 0) ≡ None
      over = ap (λ (rs : List Reply). asks 0 rs) stood.had ∙ ap asked_at stood.at

      replied_all : asks 0 (one.legal.replies_kept.told.replies 0) ≡ None
      replied_all = ap (λ (rs : List Reply). asks 0 rs) (sym (one.legal.replies_kept.same 0)) ∙ one.complete.asked 0 (omega arith)

      ordered : history b asks (nos (length (order past))) ≡ Some one.legal.replies_kept.told
      ordered = ap (λ (ps : List (ℕ × Cut)). history b asks ps)
          (sym (one_order asks b past none one.legal.settles one.legal.known)) ∙ one.legal.replies_kept.defined

      same : one.legal.replies_kept.told ≡ stood.past
      same = one_end b asks cs (λ rs. refl) (length (order past)) many one.legal.replies_kept.told stood.past ordered replied_all stood.told over

      had : replies past 0 ≡ replies_in b asks cs (λ rs. refl) read.overs
      had = one.legal.replies_kept.same 0 ∙ ap (λ (h : History). h.replies 0) same ∙ stood.had

      section : section_text cs (replies past 0) ≡ flat_map section_of xs
      section = ap (λ (rs : List Reply). section_text cs rs) had ∙ ap (λ (p : Progress). flat_map command_text p.over) stood.at ∙ read.printed
