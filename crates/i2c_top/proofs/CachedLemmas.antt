-- How a call of `cached` ends: its report, and what its status tells. No induction.
use Rattle.i2c_top.proofs.Cited.{IsRunOver}
use Rattle.i2c_top.proofs.Cited.{◌≡◌, ℕ, ◌≤◌, IsTrue, IsSome, List, [], Option, Some, Result, Ok, Err, sym, ◌∙◌, subst, IfOk}
use Rattle.i2c_top.proofs.Cited.{unwrap_or, PortCall, BoardView, TargetState, CameToSuccess, HasEndedAs, HasRead, HasReadSome}
use Rattle.i2c_top.proofs.Cited.{Files, KeepsShelf, cached_form, HasCachedRun, IsCachedAnswer, Names, cost_of_texts, MOST_COST, ShelfView}
use Rattle.i2c_top.proofs.Cited.{RigView, Outside, Status}
use Rattle.i2c_top.specs.forms.Caches.{HasCached, HasCachedReport}
use Rattle.i2c_top.specs.declared.status.Status.TheVariants as status
use Rattle.i2c_top.proofs.EndingLemmas.{came_to_success}
use Rattle.i2c_top.proofs.ReplayLemmas.{has_files, order_of_some, when}

-- the run of what was read is the report that the files ask for
has_report : (file : Files) (names : Names) (b : BoardView) (texts : List (List ℕ)) (words : Option (List ℕ)) (listed bytes : List ℕ)
    (logs : List (List PortCall)) (states : List TargetState) (counts : List ℕ) → HasRead file names b texts words
    → cost_of_texts b texts ≤ MOST_COST → Some listed ≡ words → HasCachedRun b texts listed bytes logs states counts
    → HasCachedReport file names bytes logs states counts
has_report file names b texts words listed bytes logs states counts read cheap same run =
    record {
      files = has_files file names b texts words read cheap;
      words = listed;
      by = sym read.order_in.same ∙ sym same;
      run =
          let board : BoardView = read.board_in.has.board in
          let over : HasCachedRun board texts listed bytes logs states counts =
          subst (λ x. HasCachedRun x texts listed bytes logs states counts) read.board_in.same run in
          subst (λ ts. HasCachedRun board ts listed bytes logs states counts) read.texts_are over;
    }

-- a run of files that were read, over the rig
module _ (names : Names) (shelf shelf_now : ShelfView) (rig rig_now : RigView) (b : BoardView) (texts : List (List ℕ))
    (words : Option (List ℕ)) (some : HasReadSome names b texts words)
    (read : IsTrue shelf.tells → HasRead shelf.file names b texts words) (cheap : cost_of_texts b texts ≤ MOST_COST)
    (kept : KeepsShelf (cached_form names) shelf shelf_now) where
  -- one that ended is a success of the form by its report
  pub cached_done : (r : Result (List ℕ) Status) → IsSome names.schedule → IsRunOver rig rig_now r
      → (IsTrue rig_now.tells → IsTrue rig_now.ports_tell
      → IfOk r (λ bytes. HasCachedRun b texts (unwrap_or words []) bytes rig_now.logs rig_now.states rig_now.counts))
      → IfOk r (λ bytes. CameToSuccess (cached_form names) shelf shelf_now rig rig_now bytes)
  cached_done (Ok bytes) scheduled over run =
      came_to_success (cached_form names) shelf shelf_now rig rig_now bytes
      (when names IsCachedAnswer shelf (λ t. has_files shelf.file names b texts words (read t) cheap))
      (record { plugs = over.plugs; unplugs = over.unplugs; unplugged = over.unplugged })
      (record {
        by_files = λ t tells ports.
            has_report shelf.file names b texts words (unwrap_or words []) bytes rig_now.logs rig_now.states rig_now.counts (read t) cheap
            (order_of_some names b texts words some scheduled) (run tells ports);
        by_rig = record {
          file = some.file;
          called = some.called;
          like = some.like;
          so = λ tells ports.
              has_report some.file some.called b texts words (unwrap_or words []) bytes rig_now.logs rig_now.states rig_now.counts
              some.so cheap (order_of_some names b texts words some scheduled) (run tells ports);
        };
      }) kept
  cached_done (Err e) scheduled over run = tt

-- a success was the report
pub ended_cached : (names : Names) (old new : Outside) (result : Status) → HasEndedAs (cached_form names) old new result
    → IsTrue old.shelf.tells → IsTrue old.sink.tells → IsTrue new.rig.tells → IsTrue new.rig.ports_tell → result ≡ status.Ok
    → HasCached old.shelf.file names old.sink.bytes new.sink.bytes new.rig.logs new.rig.states new.rig.counts
ended_cached names old new result h shelf sink rig ports ok =
    let s = h.said ok in record { bytes = s.text; report = s.answer.by_files shelf rig ports; written = s.written sink }
