-- `check BOARD`: its words, what the board's file says where it ends with a status, and the line that it writes.
use Rattle.std.specs.Prelude.{◌≡◌, ℕ, ◌<◌, ◌==◌, Bool, false, ◌&&◌, List, ◌++◌, length, codes}
use Rattle.std.specs.Fmt.{decimal}
use Rattle.std.specs.Str.{bytes_eq}
use Rattle.i2c_base.specs.Board.{BoardView}
use Rattle.i2c_spec.specs.Tree.{buses}
use Rattle.tools.specs.Readers.{word_at}
use Rattle.i2c_top.specs.Boards.{HasAccepted, HasRejected}
use Rattle.i2c_top.specs.Files.{Files, OfSomeFiles, IsAnyName}
use Rattle.i2c_top.specs.Form.{Form}
use Rattle.i2c_top.specs.Names.{is_name}
use Rattle.i2c_top.specs.declared.status.BoardRefusal.{BoardRefusal}
use Rattle.i2c_top.specs.declared.status.Status.{Status}
use Rattle.i2c_top.specs.declared.status.Status.TheVariants as status

-- `check`, and the name of a board
abbrev pub is_check : List (List ℕ) → Bool
is_check words = (length words == 2) && (bytes_eq (word_at words 0) (codes "check") && is_name (word_at words 1))

-- what the file says where it ends with a status that it decides: an accepted board, and each refusal of its text
abbrev pub IsCheckCause : Files → List ℕ → Status → Type 0
IsCheckCause file name status.Ok = HasAccepted file name
IsCheckCause file name (status.Board why) = HasRejected file name why
IsCheckCause file name _ = ⊥

-- the line of an accepted board: how many roots, muxes, devices and buses it has
abbrev pub accepted_text : BoardView → List ℕ
accepted_text b =
    codes "accepted: " ++ (decimal (length b.roots) ++ (codes " roots " ++ (decimal (length b.muxes) ++ (codes " muxes "
    ++ (decimal (length b.devices) ++ (codes " devices " ++ (decimal (buses b) ++ codes " buses\n")))))))

-- the file spells an accepted board, and this is its line
pub record HasCheck (file : Files) (name text : List ℕ) : Type 0 where
  pub accepted : HasAccepted file name
  pub line : text ≡ accepted_text accepted.board

-- that line was written after what stood there
pub record HasChecked (file : Files) (name before now : List ℕ) : Type 0 where
  pub text : List ℕ
  pub check : HasCheck file name text
  pub written : now ≡ before ++ text

-- THE ROW: it reads one file, at place 1, refuses its board alone, and plugs no rig
abbrev pub check_form : List ℕ → Form
check_form board = record {
  reads = λ place. place ≡ 1;
  turn = λ file place. place ≡ 1;
  skips = λ s place. 1 < place;
  refuses = λ s. (why : BoardRefusal) × (s ≡ status.Board why);
  cause = λ file s. IsCheckCause file board s;
  plugs = false;
  answer = λ file rig text. HasCheck file board text;
  leaves = λ rig text. OfSomeFiles IsAnyName board (λ file called. HasCheck file called text);
}
