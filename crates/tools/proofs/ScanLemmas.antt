-- A scan: its probes are within the limits, what it prints is lines of a section, and whether a reply says that the bus isn't there.
use Rattle.tools.proofs.Cited.{◌≡◌, ℕ, zero, suc, ◌+◌, ◌-◌, ◌*◌, ◌<◌, ◌≤◌, Bool, true, false, cond, List, [], ◌∷◌, drop, codes, Option}
use Rattle.tools.proofs.Cited.{Some, None, refl, ap, arith, All, ◌==◌, ◌||◌, slice_get, list_any, All-nil, All-cons, IsLine, IsSectionLine}
use Rattle.tools.proofs.Cited.{line-append, two_digits-line, two_digits, errno_text, IsByte, Errno, Reply, messages_of_call, SmbCall, SmbOp}
use Rattle.tools.proofs.Cited.{is_no_bus, scan_cell, scan_line, heading, in_row, parts, Detect, Probe}
use Rattle.i2c_base.specs.Errno.{number_of}
use Rattle.i2c_base.specs.declared.errno.Errno.TheVariants as errno
use Rattle.i2c_base.specs.declared.reply.Reply.TheVariants as reply
use Rattle.smb_emul.specs.declared.call.SmbOp.TheVariants as op
use Rattle.tools.specs.Scans.{first_probed, probes, is_probed, is_received, probe_op, probe_call, error_cell, answer_cell, scan_row}
use Rattle.tools.specs.Scans.{scan_lines}
use Rattle.tools.specs.declared.command.detect.Probe.TheVariants as probe
use Rattle.tools.proofs.TableLemmas.{parts_line, row_section, rows_section}
use Rattle.tools.proofs.TransferLemmas.{IsAsk, IsShortWrite, call_asks}
use Rattle.tools.proofs.ValueLemmas.{others}

-- ---- whether the bus isn't there

pub any_none : {A : Type 0} (p : A → Bool) (xs : List A) (k : ℕ) → slice_get xs k ≡ None → list_any p (drop k xs) ≡ false
any_none p [] zero e = refl
any_none p [] (suc k) e = refl
any_none p (x ∷ xs) zero e = absurd cc
any_none p (x ∷ xs) (suc k) e = any_none p xs k e

any_from : {A : Type 0} (p : A → Bool) (xs : List A) (k : ℕ) (x : A) → slice_get xs k ≡ Some x
    → list_any p (drop k xs) ≡ (p x || list_any p (drop (suc k) xs))
any_from p [] zero x e = absurd cc
any_from p [] (suc k) x e = absurd cc
any_from p (y ∷ ys) zero x e = let same : y ≡ x = cc in ap (λ z. p z || list_any p ys) same
any_from p (y ∷ ys) (suc k) x e = any_from p ys k x e

pub any_some : {A : Type 0} (p : A → Bool) (xs : List A) (k : ℕ) (x : A) → slice_get xs k ≡ Some x
    → list_any p (drop k xs) ≡ (p x || list_any p (drop (k + 1) xs))
any_some p xs k x e = let at : k + 1 ≡ suc k = omega arith in rw at (any_from p xs k x e)

-- ---- its probes

nothing_sent : IsShortWrite []
nothing_sent = record { each = All-nil IsByte; few = omega arith }

module _ (bus addr : ℕ) (near : addr ≤ 119) where
  abbrev asked : SmbOp → SmbCall
  asked o = record { bus = bus; addr = addr; force = false; pec = false; op = o }

  quick_asks : IsAsk (messages_of_call (asked op.Quick))
  quick_asks = call_asks (asked op.Quick) (λ e. near) nothing_sent tt (omega arith)

  receive_asks : IsAsk (messages_of_call (asked op.ReceiveByte))
  receive_asks = call_asks (asked op.ReceiveByte) (λ e. near) tt (omega arith, omega arith) (omega arith)

  probed_asks : (p : Probe) → IsAsk (messages_of_call (asked (probe_op p addr)))
  probed_asks probe.ByAddress =
      elim (is_received addr) as (λ b. IsAsk (messages_of_call (asked (cond b op.ReceiveByte op.Quick)))) [
        | true ↦ receive_asks
        | false ↦ quick_asks
      ]
  probed_asks probe.Quick = quick_asks
  probed_asks probe.Receive = receive_asks

pub probe_asks : (d : Detect) (k : ℕ) → k < probes d → IsAsk (messages_of_call (probe_call d (first_probed d + k)))
probe_asks d k within = probed_asks d.bus (first_probed d + k) (omega (arith, within)) d.probe

-- ---- its table

error_line : (e : Errno) → IsLine (error_cell e)
error_line e =
    elim (number_of e == 16) as (λ b. IsLine (cond b (codes " UU") (codes " --"))) [
      | true ↦ refl
      | false ↦ refl
    ]

digits_line : (addr : ℕ) → IsLine (32 ∷ two_digits addr)
digits_line addr = line-append (codes " ") (two_digits addr) refl (two_digits-line addr)

answer_line : (addr : ℕ) (o : Option Reply) → IsLine (answer_cell addr o)
answer_line addr None = refl
answer_line addr (Some reply.Done) = digits_line addr
answer_line addr (Some (reply.Read bytes)) = digits_line addr
answer_line addr (Some (reply.Err e)) = error_line e

module _ (d : Detect) (rs : List Reply) where
  cell_line : (addr : ℕ) → IsLine (scan_cell d rs addr)
  cell_line addr =
      elim (is_probed d addr) as (λ b. IsLine (cond b (answer_cell addr (slice_get rs (addr - first_probed d))) (codes "   "))) [
        | true ↦ answer_line addr (slice_get rs (addr - first_probed d))
        | false ↦ refl
      ]

  scan_row_section : (row : ℕ) → IsSectionLine (scan_row d rs row)
  scan_row_section row =
      row_section row (parts (in_row (scan_cell d rs) row) 16) (parts_line (in_row (scan_cell d rs) row) 16 (λ c. cell_line (row + c)))

  -- the heading begins with a space
  table_lines : All IsSectionLine (heading ∷ parts (scan_line d rs) 8)
  table_lines =
      All-cons IsSectionLine heading (parts (scan_line d rs) 8) (record { one = refl; other = others heading 32 refl (omega arith) })
      (rows_section (λ r. scan_row d rs (16 * r)) 8 (λ r. scan_row_section (16 * r)))

  absent_lines : All IsSectionLine (errno_text errno.Enodev ∷ [])
  absent_lines =
      All-cons IsSectionLine (errno_text errno.Enodev) []
      (record { one = refl; other = others (errno_text errno.Enodev) 69 refl (omega arith) }) (All-nil IsSectionLine)

  pub printed_lines : All IsSectionLine (scan_lines d rs)
  printed_lines =
      elim (list_any is_no_bus rs) as
      (λ b. All IsSectionLine (cond b (errno_text errno.Enodev ∷ []) (heading ∷ parts (scan_line d rs) 8))) [
        | true ↦ absent_lines
        | false ↦ table_lines
      ]
