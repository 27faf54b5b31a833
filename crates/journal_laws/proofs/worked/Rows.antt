-- A journal that is played is worked out, where its callers are through and it follows the schedule.
use Rattle.journal_laws.proofs.Cited.{◌≡◌, ℕ, ◌<◌, nat_lt, true, List, [], length, reverse, None, subst, list_all, AllByRecursion, Entry}
use Rattle.journal_laws.proofs.Cited.{BoardView, TransferView, IsTransfer, IsTree, IsPlainBoard, MeetsRules, now, Failing, played}
use Rattle.journal_laws.proofs.Cited.{transfers_of, turns, IsStepwise, LinesAreLocked, AsksForMessages, AsksWithinLimits, lines-locked}
use Rattle.journal_laws.proofs.Cited.{IsDone, replies-kept, legal-with}
use Rattle.journal_laws.specs.Worked.{IsWorkedOut}
use Rattle.flat_laws.proofs.past.Ends.{complete-then}
use Rattle.journal_laws.proofs.past.Play.{played-steps}
use Rattle.journal_laws.proofs.worked.Boards.{IsAccepted}
use Rattle.journal_laws.proofs.worked.Checks.{all-below, asks-each, follows_words, follows}

abbrev pub IsAskable : TransferView → Type 0
IsAskable t = (0 < length t.msgs) × IsTransfer t.msgs t.out

pub worked-out : (b : BoardView) → ((b : BoardView) → IsPlainBoard b → MeetsRules b → IsTree b) → IsAccepted b
    → (scripts : List (List TransferView))
    → AllByRecursion (AllByRecursion IsAskable) scripts
    → (fails : Failing) (steps : List ℕ) → list_all (λ c. nat_lt c (length scripts)) steps ≡ true → (journal : List Entry)
    → played b (transfers_of scripts) fails steps ≡ journal
    → ((c : ℕ) → c < length scripts → IsDone (transfers_of scripts) (now b (transfers_of scripts) (reverse journal)) c)
    → (words : List ℕ) → follows_words words [] (turns journal) ≡ true → IsWorkedOut b scripts words journal
worked-out b trees accepted scripts askable fails steps known journal is done words so =
    record {
      legal = legal-with b tree plain lines (transfers_of scripts) some (length scripts) (reverse journal) made.0 made.1
          (replies-kept b tree plain lines (transfers_of scripts) some limits (length scripts) (reverse journal) made.0);
      complete = complete-then b tree plain lines (transfers_of scripts) some (length scripts) (reverse journal) made.0 done;
      follows = follows words journal so;
    }
  where
    plain : IsPlainBoard b
    plain = accepted.0

    tree : IsTree b
    tree = trees b plain accepted.1

    lines : LinesAreLocked b
    lines = lines-locked b accepted.1

    some : AsksForMessages (transfers_of scripts)
    some c rs t e = (asks-each IsAskable scripts askable c rs t e).0

    limits : AsksWithinLimits (transfers_of scripts)
    limits c rs t e = (asks-each IsAskable scripts askable c rs t e).1

    made : IsStepwise b (length scripts) (transfers_of scripts) (reverse journal)
        × ((now b (transfers_of scripts) (reverse journal)).due ≡ None)
    made =
        subst (λ (es : List Entry). IsStepwise b (length scripts) (transfers_of scripts) (reverse es)
        × ((now b (transfers_of scripts) (reverse es)).due ≡ None)) is
        (played-steps b tree plain lines (transfers_of scripts) some (length scripts) fails steps (all-below (length scripts) steps known))
