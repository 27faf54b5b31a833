-- The text of a value is one line, and not the line `journal`; that of an error is short.
use Rattle.tools.proofs.Cited.{◌≡◌, ℕ, ◌<◌, ◌≤◌, ◌/◌, ◌%◌, List, [], ◌∷◌, ◌++◌, codes, length, get_or, refl, ap, arith, flat_map, IsLine}
use Rattle.tools.proofs.Cited.{IsSectionLine, line-append, two_digits-line, two_digits, errno_text, Errno, byte_word, spaced_word}
use Rattle.tools.proofs.Cited.{byte_words, fail_text, call_result_text}
use Rattle.std.specs.Prelude.{Result, Ok, Err}
use Rattle.i2c_base.specs.declared.errno.Errno.TheVariants.{Eio, Enxio, Ebadf, Ebusy, Enodev, Einval, Eproto, Ebadmsg, Eopnotsupp}
use Rattle.i2c_base.specs.declared.errno.Errno.TheVariants.{Etimedout, Eremoteio}
use Rattle.smb_emul.specs.declared.call.SmbFail.{SmbFail}
use Rattle.smb_emul.specs.declared.call.SmbFail.TheVariants as fail
use Rattle.smb_emul.specs.Value.{ValueView}
use Rattle.smb_emul.specs.Value as value
use Rattle.tools.specs.Values.{double_word, value_text}

word : (b : ℕ) → IsLine (byte_word b)
word b = line-append (codes "0x") (two_digits b) refl (two_digits-line b)

spaced : (bytes : List ℕ) → IsLine (flat_map spaced_word bytes)
spaced [] = refl
spaced (b ∷ bs) = line-append (spaced_word b) (flat_map spaced_word bs) (line-append (codes " 0x") (two_digits b) refl (two_digits-line b))
    (spaced bs)

-- a text whose first sign isn't a j
pub others : (text : List ℕ) (c : ℕ) → get_or text 0 0 ≡ c → (c < 106) → ¬ (text ≡ codes "journal")
others text c first low e = let h : get_or text 0 0 ≡ 106 = ap (λ xs. get_or xs 0 0) e in omega (arith, h, first, low)

others_above : (text : List ℕ) (c : ℕ) → get_or text 0 0 ≡ c → (106 < c) → ¬ (text ≡ codes "journal")
others_above text c first high e = let h : get_or text 0 0 ≡ 106 = ap (λ xs. get_or xs 0 0) e in omega (arith, h, first, high)

pub errno : (e : Errno) → IsSectionLine (errno_text e)
errno Eio = record { one = refl; other = others (errno_text Eio) 69 refl (omega arith) }
errno Enxio = record { one = refl; other = others (errno_text Enxio) 69 refl (omega arith) }
errno Ebadf = record { one = refl; other = others (errno_text Ebadf) 69 refl (omega arith) }
errno Ebusy = record { one = refl; other = others (errno_text Ebusy) 69 refl (omega arith) }
errno Enodev = record { one = refl; other = others (errno_text Enodev) 69 refl (omega arith) }
errno Einval = record { one = refl; other = others (errno_text Einval) 69 refl (omega arith) }
errno Eproto = record { one = refl; other = others (errno_text Eproto) 69 refl (omega arith) }
errno Ebadmsg = record { one = refl; other = others (errno_text Ebadmsg) 69 refl (omega arith) }
errno Eopnotsupp = record { one = refl; other = others (errno_text Eopnotsupp) 69 refl (omega arith) }
errno Etimedout = record { one = refl; other = others (errno_text Etimedout) 69 refl (omega arith) }
errno Eremoteio = record { one = refl; other = others (errno_text Eremoteio) 69 refl (omega arith) }

value_line : (v : ValueView) → IsSectionLine (value_text v)
value_line value.done = record { one = refl; other = others_above (codes "ok") 111 refl (omega arith) }
value_line (value.byte b) = record { one = word b; other = others (byte_word b) 48 refl (omega arith) }
value_line (value.word w) = record {
  one = line-append (codes "0x") (two_digits (w / 256) ++ two_digits (w % 256)) refl
      (line-append (two_digits (w / 256)) (two_digits (w % 256)) (two_digits-line (w / 256)) (two_digits-line (w % 256)));
  other = others (double_word w) 48 refl (omega arith);
}
value_line (value.block []) = record { one = refl; other = others [] 0 refl (omega arith) }
value_line (value.block (b ∷ bs)) = record {
  one = line-append (byte_word b) (flat_map spaced_word bs) (word b) (spaced bs);
  other = others (byte_words (b ∷ bs)) 48 refl (omega arith);
}

pub result_line : (r : Result ValueView SmbFail) → IsSectionLine (call_result_text r)
result_line (Ok v) = value_line v
result_line (Err (fail.Errno e)) = errno e
result_line (Err (fail.Pec got want)) =
    record {
      one = line-append (codes "EBADMSG got ") (byte_word got ++ (codes " want " ++ byte_word want)) refl
          (line-append (byte_word got) (codes " want " ++ byte_word want) (word got)
          (line-append (codes " want ") (byte_word want) refl (word want)));
      other = others (fail_text (fail.Pec got want)) 69 refl (omega arith);
    }

-- ---- how long it is, and its pieces

-- the name of an error is short
pub errno_short : (e : Errno) → length (errno_text e) ≤ 26
errno_short Eio = omega arith
errno_short Enxio = omega arith
errno_short Ebadf = omega arith
errno_short Ebusy = omega arith
errno_short Enodev = omega arith
errno_short Einval = omega arith
errno_short Eproto = omega arith
errno_short Ebadmsg = omega arith
errno_short Eopnotsupp = omega arith
errno_short Etimedout = omega arith
errno_short Eremoteio = omega arith
