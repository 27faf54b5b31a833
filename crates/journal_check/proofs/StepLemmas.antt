-- How far a core has followed the lines of a journal: what is left of them, and where they part.
use Rattle.journal_check.proofs.Cited.{◌≡◌, ◌⊎◌, ℕ, ◌+◌, ◌-◌, true, false, List, [], ◌∷◌, ◌++◌, length, length-append, append_assoc}
use Rattle.journal_check.proofs.Cited.{append-nil, All, drop, reverse, Option, refl, sym, ◌∙◌, ap, subst, arith, inl, inr, flat_map}
use Rattle.journal_check.proofs.Cited.{eqb-true, All-head, front_rest, entry_line, Entry, Reply, MOST_CALLERS, TransferView, caller_of}
use Rattle.journal_check.proofs.Cited.{ended_line, IsStuck, IsEntry, Opening, asks_of, CoreState, CoreTold, asks_in_state, has_caller}
use Rattle.journal_check.proofs.Cited.{AreLines, asks_on, IsSteady, MadeAnother, Differs, JournalPlace}
use Rattle.std.proofs.Common.{◌==◌}
use Rattle.std.proofs.lemmas.Bool.{eqb-false}
use Rattle.bus_laws.specs.Coming.{IsTurn}
use Rattle.journal_check.specs.Steps.{HasMadeTold, HasMadeOther, HasMadeElse}
use Rattle.journal_check.proofs.LineLemmas.{entry-lines, stands-in, some-entry, lines-append}

module _ {S : Type 0} (asked : S → List Reply → Option TransferView) (o : Opening S) (lines : List ℕ) (es : List Entry) where
  -- so far the core's journal is the front of the entries, and what is left of the text are the lines of the others
  pub record IsFollowing (v : CoreState S) (rest : List ℕ) : Type 0 where
    pub left : List Entry
    pub parts : es ≡ v.journal.entries ++ left
    pub stands : AreLines rest left
    pub steady : IsSteady asked o v.journal.entries
    pub opening : v.opening ≡ o

  pub at-first : (v : CoreState S) → v.opening ≡ o → v.journal.entries ≡ [] → AreLines lines es → IsFollowing v lines
  at-first v same none are =
      record {
        left = es;
        parts = ap (λ (xs : List Entry). xs ++ es) (sym none);
        stands = are;
        steady = subst (λ (xs : List Entry). IsSteady asked o xs) (sym none) (record { stepwise = tt; rests = refl });
        opening = same;
      }

  -- at the end it is all of them
  pub at-last : (v : CoreState S) (rest : List ℕ) → IsFollowing v rest → (length rest == 0) ≡ true → v.journal.entries ≡ es
  at-last v rest follows none = by follows.left refl
    where
      by : (left : List Entry) → follows.left ≡ left → v.journal.entries ≡ es
      by [] is = sym (follows.parts ∙ ap (λ (xs : List Entry). v.journal.entries ++ xs) is ∙ append-nil v.journal.entries)
      by (e ∷ more) is =
          let text : rest ≡ flat_map ended_line (e ∷ more) = follows.stands.lines ∙ ap (flat_map ended_line) is in
          let zero : length rest ≡ 0 = eqb-true (length rest) 0 none in
          let counted : length rest ≡ length (entry_line e) + length (10 ∷ flat_map ended_line more) =
          ap (λ (xs : List ℕ). length xs) (text ∙ entry-lines e more)
          ∙ length-append (entry_line e) (10 ∷ flat_map ended_line more) in
          absurd (omega (arith, zero, counted))

  -- THE NEXT ENTRY, while something is left
  pub record HasNext (v : CoreState S) (rest : List ℕ) : Type 0 where
    pub next : Entry
    pub more : List Entry
    pub parts : es ≡ v.journal.entries ++ next ∷ more
    pub lines_are : rest ≡ flat_map ended_line (next ∷ more)
    pub text : rest ≡ ended_line next ++ flat_map ended_line more
    pub in_range : All IsEntry (next ∷ more)

  pub has-next : (v : CoreState S) (rest : List ℕ) → IsFollowing v rest → (length rest == 0) ≡ false → HasNext v rest
  has-next v rest follows some =
      let apart : length rest ≡ 0 → ⊥ = eqb-false (length rest) 0 some in
      let counted : length rest ≡ length (flat_map ended_line follows.left) = ap (λ (xs : List ℕ). length xs) follows.stands.lines in
      let e = some-entry follows.left (omega (arith, apart, counted)) in
      record {
        next = e.0;
        more = e.1;
        parts = follows.parts ∙ ap (λ (xs : List Entry). v.journal.entries ++ xs) e.2;
        lines_are = follows.stands.lines ∙ ap (flat_map ended_line) e.2;
        text = follows.stands.lines ∙ ap (flat_map ended_line) e.2;
        in_range = subst (λ (xs : List Entry). All IsEntry xs) e.2 follows.stands.in_range;
      }

  -- the caller that was read is that of the next entry
  abbrev IsRead : List ℕ → ℕ → Type 0
  IsRead rest caller = (e : Entry) (more : List ℕ) → IsEntry e → rest ≡ ended_line e ++ more → caller ≡ caller_of e

  pub read-next : (v : CoreState S) (rest : List ℕ) (n : HasNext v rest) (caller : ℕ) → IsRead rest caller → caller ≡ caller_of n.next
  read-next v rest n caller read = read n.next (flat_map ended_line n.more) (All-head IsEntry n.next n.more n.in_range) n.text

  -- where they part
  pub place-at : AreLines lines es → (v : CoreState S) (rest : List ℕ) → IsFollowing v rest
      → length lines - length rest ≡ length (flat_map ended_line v.journal.entries)
  place-at are v rest follows =
      let whole : length lines ≡ length (flat_map ended_line v.journal.entries) + length rest =
      ap (λ (xs : List ℕ). length xs) (are.lines ∙ ap (flat_map ended_line) follows.parts ∙ lines-append v.journal.entries follows.left
      ∙ ap (λ (xs : List ℕ). flat_map ended_line v.journal.entries ++ xs) (sym follows.stands.lines))
      ∙ length-append (flat_map ended_line v.journal.entries) rest in
      omega (arith, whole)

  differs-at : AreLines lines es → (v new : CoreState S) (rest : List ℕ) (follows : IsFollowing v rest) (n : HasNext v rest)
      (place : JournalPlace)
      → place.before ≡ length v.journal.entries → place.at ≡ length lines - length rest
      → ((has_caller o.scripts (caller_of n.next) ≡ false)
      ⊎ (IsStuck o.board (asks_on asked o) (reverse v.journal.entries) (caller_of n.next)
      ⊎ MadeAnother asked o new v.journal.entries n.next n.more))
      → Differs asked o new es place
  differs-at are v new rest follows n place before at came =
      record {
        front = v.journal.entries;
        next = n.next;
        rest = n.more;
        parts = n.parts;
        in_range = n.in_range;
        steady = follows.steady;
        before = before;
        at = at ∙ place-at are v rest follows;
        came = came;
      }

  pub stranger-differs : AreLines lines es → (v : CoreState S) (rest : List ℕ) (follows : IsFollowing v rest) → (length rest == 0) ≡ false
      → (place : JournalPlace) → place.before ≡ length v.journal.entries → place.at ≡ length lines - length rest
      → (caller : ℕ) → IsRead rest caller → has_caller v.opening.scripts caller ≡ false → Differs asked o v es place
  stranger-differs are v rest follows some place before at caller read nobody =
      let n = has-next v rest follows some in
      differs-at are v v rest follows n place before at
      (inl (subst (λ (x : Opening S). has_caller x.scripts (caller_of n.next) ≡ false) follows.opening
      (subst (λ (k : ℕ). has_caller v.opening.scripts k ≡ false) (read-next v rest n caller read) nobody)))

  pub else-differs : AreLines lines es → (v new : CoreState S) (rest : List ℕ) (follows : IsFollowing v rest) → (length rest == 0) ≡ false
      → (place : JournalPlace) → place.before ≡ length v.journal.entries → place.at ≡ length lines - length rest
      → (caller : ℕ) → IsRead rest caller → CoreTold asked new → HasMadeElse asked caller v new rest → Differs asked o new es place
  else-differs are v new rest follows some place before at caller read told came =
      let n = has-next v rest follows some in
      let own : caller ≡ caller_of n.next = read-next v rest n caller read in
      differs-at are v new rest follows n place before at
      (elim came [
        | inl stuck ↦ inr (inl (subst (λ (x : Opening S). IsStuck x.board (asks_of asked x.scripts) (reverse v.journal.entries)
            (caller_of n.next)) follows.opening
            (subst (λ (k : ℕ). IsStuck v.opening.board (asks_in_state asked v) (reverse v.journal.entries) k) own stuck)))
        | inr made ↦ inr (inr (another n own made))
      ])
    where
      another : (n : HasNext v rest) → caller ≡ caller_of n.next → HasMadeOther asked caller v new rest
          → MadeAnother asked o new v.journal.entries n.next n.more
      another n own made =
          record {
            made = record {
              turn = made.made.turn;
              own = made.made.own ∙ own;
              comes = subst (λ (x : Opening S). IsTurn x.board MOST_CALLERS (asks_of asked x.scripts)
                  (reverse v.journal.entries) made.made.turn) follows.opening made.made.comes;
              entries = made.made.entries;
            };
            told = told;
            differs = λ begins. made.differs (flat_map ended_line begins.0)
                (n.lines_are ∙ ap (flat_map ended_line) begins.1 ∙ lines-append made.made.turn.entries begins.0);
          }

  -- .. and where they go on together
  pub goes-on : (v new : CoreState S) (rest : List ℕ) → IsFollowing v rest → (caller count : ℕ) → new.opening ≡ v.opening
      → CoreTold asked new
      → HasMadeTold asked caller v new rest count → IsFollowing new (drop count rest)
  goes-on v new rest follows caller count same told made =
      let ts : List Entry = made.made.turn.entries in
      let opened : new.opening ≡ o = same ∙ follows.opening in
      let stands = stands-in made.made.turn.entries follows.left (drop count rest) made.in_range follows.stands.in_range
      (sym follows.stands.lines ∙ made.stands) in
      record {
        left = stands.rest;
        parts = follows.parts ∙ ap (λ (xs : List Entry). v.journal.entries ++ xs) stands.parts
            ∙ sym (append_assoc v.journal.entries made.made.turn.entries stands.rest)
            ∙ ap (λ (xs : List Entry). xs ++ stands.rest) (sym made.made.entries);
        stands = record { lines = stands.lines; in_range = stands.in_range };
        steady = subst (λ (x : Opening S). IsSteady asked x new.journal.entries) opened
            (record { stepwise = told.stepwise; rests = told.rests });
        opening = opened;
      }

-- WHAT A STEP HAS MADE: the lines that are new stand at the front of the text, or don't
pub lines-behind : (old added new : List Entry) (text made : List ℕ) (at : ℕ) → new ≡ old ++ added → text ≡ flat_map ended_line new
    → at ≡ length (flat_map ended_line old) → made ≡ drop at text → made ≡ flat_map ended_line added
lines-behind old added new text made at entries lines counted is =
    is ∙ ap (λ (k : ℕ). drop k text) counted ∙ ap (drop (length (flat_map ended_line old)))
    (lines ∙ ap (flat_map ended_line) entries ∙ lines-append old added)
    ∙ drop-append (flat_map ended_line old) (flat_map ended_line added)
  where
    drop-append : (xs ys : List ℕ) → drop (length xs) (xs ++ ys) ≡ ys
    drop-append xs ys = front_rest (xs ++ ys) xs ys refl
