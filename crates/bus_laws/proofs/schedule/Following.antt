-- One word, one step after the last word, and the end of a loop over a schedule. No induction.
use Rattle.bus_laws.proofs.Cited.{◌≡◌, ℕ, ◌<◌, true, List, [], ◌∷◌, ◌++◌, None, refl, sym, ◌∙◌, ap, subst, reverse, reverse-append}
use Rattle.bus_laws.proofs.Cited.{append_assoc, Entry, BoardView, IsTree, IsPlainBoard, Asks, now, IsStepwise, Turn, turns, is_ready}
use Rattle.bus_laws.proofs.Cited.{past_after, FollowsWords, LinesAreLocked, AsksForMessages, IsStuck, IsTurn, Comes}
use Rattle.std.proofs.lemmas.List.{reverse-reverse, append-nil}
use Rattle.bus_laws.proofs.past.Laws.{holder-told}
use Rattle.bus_laws.specs.Following.{GoesOnBy, KeepsTo}
use Rattle.bus_laws.proofs.schedule.Coming.{stuck-waits, turn-ready, word-made, word-passed}
use Rattle.bus_laws.proofs.schedule.Turns.{turns-behind}

pub begins : (b : BoardView) (callers : ℕ) (asks : Asks) (words : List ℕ) (from : List Entry) → KeepsTo b callers asks words from words from
begins b callers asks words from =
    record { added = []; behind = sym (append-nil (reverse from)); follows = λ later comes f. f }

pub ends : (b : BoardView) (callers : ℕ) (asks : Asks) (words : List ℕ) (from past : List Entry)
    → KeepsTo b callers asks words from [] past → GoesOnBy words (reverse from) (reverse past)
ends b callers asks words from past kept =
    record {
      added = kept.added;
      behind = kept.behind;
      follows = subst (λ (es : List Entry). FollowsWords words es (turns kept.added)) (sym (reverse-reverse from))
          (subst (λ (ts : List Turn). FollowsWords words from ts) (append-nil (turns kept.added)) (kept.follows [] tt tt));
    }

module _ (b : BoardView) (tree : IsTree b) (plain : IsPlainBoard b) (lines : LinesAreLocked b) (asks : Asks) (some : AsksForMessages asks)
    (callers : ℕ) (words : List ℕ)
    (from past : List Entry) (steps : IsStepwise b callers asks past) where
  -- one step more, in front of which this much was left
  more : (before : List ℕ) (left : List ℕ) → (now b asks past).due ≡ None → (t : Turn) → IsTurn b callers asks past t
      → ((later : List Turn) → Comes b callers asks (past_after past t) later → FollowsWords left (past_after past t) later
      → FollowsWords before past (t ∷ later))
      → KeepsTo b callers asks words from before past → KeepsTo b callers asks words from left (past_after past t)
  more before left none t is front kept =
      record {
        added = kept.added ++ t.entries;
        behind = reverse-append (reverse t.entries) past ∙ ap (λ (es : List Entry). reverse past ++ es) (reverse-reverse t.entries)
            ∙ ap (λ (es : List Entry). es ++ t.entries) kept.behind ∙ append_assoc (reverse from) kept.added t.entries;
        follows = λ later comes f.
            subst (λ (ts : List Turn). FollowsWords words from ts)
            (sym (append_assoc (turns kept.added) (t ∷ []) later)
            ∙ ap (λ (ts : List Turn). ts ++ later)
            (sym (turns-behind b tree plain lines asks some callers past (reverse from) kept.added kept.behind steps none t is)))
            (kept.follows (t ∷ later) (is, comes) (front later comes f));
      }

  ready : (t : Turn) → IsTurn b callers asks past t → (later : List Turn) → is_ready past (t ∷ later) t.caller ≡ true
  ready t is later = turn-ready b tree plain lines asks some callers t.caller past t later refl is (λ l o e. holder-told b asks past l ∙ e)

  -- the word's caller made a step
  pub made : (now b asks past).due ≡ None → (t : Turn) → IsTurn b callers asks past t → (left : List ℕ)
      → KeepsTo b callers asks words from (t.caller ∷ left) past → KeepsTo b callers asks words from left (past_after past t)
  made none t is left kept =
      more (t.caller ∷ left) left none t is (λ later comes f. word-made past t.caller left t later refl (ready t is later) f) kept

  -- .. or it was stuck
  pub passed : (w : ℕ) → IsStuck b asks past w → (left : List ℕ) → KeepsTo b callers asks words from (w ∷ left) past
      → KeepsTo b callers asks words from left past
  passed w stuck left kept =
      record {
        added = kept.added;
        behind = kept.behind;
        follows = λ later comes f.
            kept.follows later comes
            (word-passed past w left later (stuck-waits b tree plain lines asks some callers w past steps stuck later comes) f);
      }

  -- after the last word the least made a step
  pub least-made : (now b asks past).due ≡ None → (t : Turn) → IsTurn b callers asks past t
      → ((d : ℕ) → d < t.caller → IsStuck b asks past d)
      → KeepsTo b callers asks words from [] past → KeepsTo b callers asks words from [] (past_after past t)
  least-made none t is stuck kept = more [] [] none t is
      (λ later comes f. (
        ready t is later,
        (λ d low. stuck-waits b tree plain lines asks some callers d past steps (stuck d low) (t ∷ later) (is, comes)),
        f,
      ))
      kept
