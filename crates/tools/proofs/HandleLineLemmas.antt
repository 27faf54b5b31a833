-- The lines of handles: what they mean is in range, and how long they are.
use Rattle.tools.proofs.Cited.{ℕ, ◌≤◌, Bool, true, false, [], arith, some_bytes, IsInRange, Grammar, block_room, Handle}
use Rattle.tools.specs.HandleLines.{open_words, slave_words, pec_words, read_words, write_words, rdwr_words, proc_word, proc_words}
use Rattle.tools.specs.HandleLines.{bproc_bytes, bproc_words, close_words, handle_lines}
use Rattle.tools.specs.declared.command.handle.HandleCmd.TheVariants as handle
use Rattle.tools.proofs.ByteListLemmas.{bytes_fit, bytes_within}
use Rattle.tools.proofs.CombinedRanges.{some_descs_fit, some_descs_within}
use Rattle.tools.proofs.GrammarLemmas.{AllEnds, EndsWithin, ends_within_most}
use Rattle.tools.proofs.OptionLemmas.{number_between}

-- ---- their range

module _ (limit : ℕ) where
  open_fits : AllEnds (IsInRange limit) open_words
  unfolding open_words
  open_fits w bus is = omega (arith, (number_between 0 65535 w bus is).to_high)

  slave_fits : (force : Bool) → AllEnds (IsInRange limit) (slave_words force)
  unfolding slave_words
  slave_fits force w h is x addr is_addr =
      let to = number_between 8 119 x addr is_addr in ((number_between 0 999 w h is).to_high, (to.from_low, to.to_high))

  pec_fits : AllEnds (IsInRange limit) pec_words
  unfolding pec_words
  pec_fits w h is = let number = (number_between 0 999 w h is).to_high in (number, number)

  read_fits : AllEnds (IsInRange limit) read_words
  unfolding read_words
  read_fits w h is x n is_count =
      let count = number_between 1 512 x n is_count in ((number_between 0 999 w h is).to_high, count.from_low, count.to_high)

  write_fits : AllEnds (IsInRange limit) write_words
  unfolding write_words
  write_fits w h is =
      bytes_fit (IsInRange limit) 512 (λ bytes. Handle (handle.Write h bytes)) (λ bytes are. ((number_between 0 999 w h is).to_high, are))
      (omega arith)

  rdwr_fits : AllEnds (IsInRange limit) rdwr_words
  unfolding rdwr_words
  rdwr_fits w h is =
      some_descs_fit (IsInRange limit) (λ ms. Handle (handle.Rdwr h ms)) (λ ms are. ((number_between 0 999 w h is).to_high, are))

  proc_fits : AllEnds (IsInRange limit) proc_words
  unfolding proc_words proc_word
  proc_fits w h is x reg is_reg y v is_word = (
    (number_between 0 999 w h is).to_high,
    omega (arith, (number_between 0 255 x reg is_reg).to_high),
    omega (arith, (number_between 0 65535 y v is_word).to_high),
  )

  bproc_fits : AllEnds (IsInRange limit) (bproc_words limit)
  unfolding bproc_words bproc_bytes
  bproc_fits w h is x reg is_reg =
      bytes_fit (IsInRange limit) (block_room limit) (λ bytes. Handle (handle.Bproc h reg bytes))
      (λ bytes are. ((number_between 0 999 w h is).to_high, omega (arith, (number_between 0 255 x reg is_reg).to_high), are))
      (omega arith)

  close_fits : AllEnds (IsInRange limit) close_words
  unfolding close_words
  close_fits w h is = (number_between 0 999 w h is).to_high

  pub handles_fit : AllEnds (IsInRange limit) (handle_lines limit)
  unfolding handle_lines
  handles_fit = (
    open_fits,
    (
      slave_fits false,
      (
        slave_fits true,
        (pec_fits, (read_fits, (write_fits, (rdwr_fits, (proc_fits, (bproc_fits, close_fits)))))),
      ),
    ),
  )

-- ---- how long they are: after the first word they have at most 4,139 words

open_within : EndsWithin 1 open_words
unfolding open_words
open_within = λ w bus is. tt

slave_within : (force : Bool) → EndsWithin 2 (slave_words force)
unfolding slave_words
slave_within force = λ w h is x addr to. tt

pec_within : EndsWithin 2 pec_words
unfolding pec_words
pec_within = λ w h is. (tt, tt)

read_within : EndsWithin 2 read_words
unfolding read_words
read_within = λ w h is x n is_count. tt

write_within : EndsWithin 513 write_words
unfolding write_words
write_within = λ w h is. bytes_within 512 [] (λ bytes. Handle (handle.Write h bytes))

rdwr_within : EndsWithin 4139 rdwr_words
unfolding rdwr_words
rdwr_within = λ w h is. some_descs_within (λ ms. Handle (handle.Rdwr h ms))

proc_within : EndsWithin 3 proc_words
unfolding proc_words proc_word
proc_within = λ w h is x reg is_reg y v is_word. tt

bproc_within : (limit : ℕ) → EndsWithin 257 (bproc_words limit)
unfolding bproc_words bproc_bytes
bproc_within limit = λ w h is x reg is_reg.
    ends_within_most (block_room limit) 255 (some_bytes (block_room limit) [] (λ bytes. Handle (handle.Bproc h reg bytes))) (omega arith)
    (bytes_within (block_room limit) [] (λ bytes. Handle (handle.Bproc h reg bytes)))

close_within : EndsWithin 1 close_words
unfolding close_words
close_within = λ w h is. tt

short : {A : Type 0} (n : ℕ) (g : Grammar A) → n ≤ 4141 → EndsWithin n g → EndsWithin 4141 g
short n g few h = ends_within_most n 4141 g few h

pub handles_within : (limit : ℕ) → EndsWithin 4142 (handle_lines limit)
unfolding handle_lines
handles_within limit = (
  short 1 open_words (omega arith) open_within,
  (
    short 2 (slave_words false) (omega arith) (slave_within false),
    (
      short 2 (slave_words true) (omega arith) (slave_within true),
      (
        short 2 pec_words (omega arith) pec_within,
        (
          short 2 read_words (omega arith) read_within,
          (
            short 513 write_words (omega arith) write_within,
            (
              short 4139 rdwr_words (omega arith) rdwr_within,
              (
                short 3 proc_words (omega arith) proc_within,
                (short 257 (bproc_words limit) (omega arith) (bproc_within limit), short 1 close_words (omega arith) close_within),
              ),
            ),
          ),
        ),
      ),
    ),
  ),
)
