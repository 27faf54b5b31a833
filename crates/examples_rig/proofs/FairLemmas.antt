-- A read of one byte is within the limits of a transfer, and is asked for once.
use Rattle.std.proofs.Common.{◌≡◌, ℕ, ◌+◌, ◌≤◌, ◌<◌, List, [], ◌∷◌, ◌++◌, length, Some, None, refl, subst, arith}
use Rattle.std.proofs.lemmas.List.Sums.{sum_by-cons}
use Rattle.std.proofs.lemmas.List.Elements.{All-nil, All-cons}
use Rattle.i2c_base.specs.Bytes.{IsByte}
use Rattle.i2c_base.specs.declared.reply.Reply.{Reply}
use Rattle.i2c_base.specs.Transfer.{TransferView, IsMessage, IsTransfer, plain_read, size_of, written_of}
use Rattle.i2c_spec.specs.Cost.{cost_of}
use Rattle.i2c_spec.specs.Fair.{IsFairCaller}
use Rattle.i2c_spec.proofs.CostLemmas.{cost_some}
use Rattle.examples_rig.specs.OneReads.{ReadView, asked_by, board_of, left_of, transfer_to}

one-read : (addr : ℕ) → IsTransfer (plain_read addr 1 ∷ []) []
one-read addr =
    record {
      count = omega arith;
      each = All-cons IsMessage (plain_read addr 1) [] (omega arith, λ e. cc, λ e. omega arith) (All-nil IsMessage);
      size = omega (arith, sum_by-cons size_of (plain_read addr 1) []);
      written = omega (arith, sum_by-cons written_of (plain_read addr 1) []);
      bytes = All-nil IsByte;
    }

-- what is asked for is that read, before any reply
is-asked : (s : ReadView) (rs : List Reply) (t : TransferView) → asked_by s rs ≡ Some t → (rs ≡ []) × (transfer_to s.bus s.addr ≡ t)
is-asked s [] t is = (refl, (let f : Some (transfer_to s.bus s.addr) ≡ Some t = is in cc))
is-asked s (r ∷ rs) t is = absurd (let f : None ≡ Some t = is in cc)

falls : (s : ReadView) (rs : List Reply) (t : TransferView) (r : Reply) → asked_by s rs ≡ Some t
    → left_of s (rs ++ r ∷ []) + cost_of s.board t ≤ left_of s rs
falls s [] t r is =
    subst (λ (x : TransferView). 0 + cost_of s.board x ≤ cost_of s.board (transfer_to s.bus s.addr)) (is-asked s [] t is).1 (omega arith)
falls s (q ∷ qs) t r is = absurd (let f : None ≡ Some t = is in cc)

pub fair : IsFairCaller asked_by left_of board_of
fair =
    record {
      sends = λ s rs t is. subst (λ (x : TransferView). 0 < length x.msgs) (is-asked s rs t is).1 (omega arith);
      limits = λ s rs t is. subst (λ (x : TransferView). IsTransfer x.msgs x.out) (is-asked s rs t is).1 (one-read s.addr);
      costs = λ s rs t is. cost_some s.board t;
      falls = λ s rs t r is fits. falls s rs t r is;
    }
