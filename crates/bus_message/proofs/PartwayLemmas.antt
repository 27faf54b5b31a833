-- A transfer partway: its next message, with its bytes. The induction goes over its messages.
use Rattle.bus_message.proofs.Cited.{◌≡◌, ◌<◌, ◌≤◌, ◌+◌, ℕ, suc, zero, List, [], ◌∷◌, length, refl, sym, ◌∙◌, ap, arith, take, drop, sum_by}
use Rattle.bus_message.proofs.Cited.{Msg, TransferView, written_of, message_with}
use Rattle.std.specs.Prelude.{get_or}
use Rattle.std.proofs.lemmas.List.{take_more, drop-drop}
use Rattle.std.proofs.lemmas.List.Sums.{sum_by-cons, sum_by_push, sum_by-take-le}
use Rattle.i2c_base.specs.Transfer.{IsTransfer}
use Rattle.i2c_spec.specs.Messages.{messages_from, messages_of}
use Rattle.bus_spec.specs.Walk.{nth_message}

-- the message at a place, with its bytes: those behind what was written before
pub nth_is : (ms : List Msg) (out : List ℕ) (i : ℕ) (d : Msg) → i < length ms
    → nth_message (messages_from ms out) i ≡ message_with (get_or ms i d)
    (take (written_of (get_or ms i d)) (drop (sum_by written_of (take i ms)) out))
nth_is [] out i d h = absurd (omega (arith, h))
nth_is (m ∷ ms) out zero d h = refl
nth_is (m ∷ ms) out (suc i) d h =
    nth_is ms (drop (written_of m) out) i d (omega (arith, h))
    ∙ ap (λ (xs : List ℕ). message_with (get_or ms i d) (take (written_of (get_or ms i d)) xs))
    (drop-drop (sum_by written_of (take i ms)) (written_of m) out ∙ ap (λ (n : ℕ). drop n out) (sym (sum_by-cons written_of m (take i ms))))

-- what was written so far is within the transfer's bytes, with what its next message writes
sum_within : (f : Msg → ℕ) (ms : List Msg) (i : ℕ) (d : Msg) → i < length ms → sum_by f (take i ms) + f (get_or ms i d) ≤ sum_by f ms
sum_within f ms i d h =
    let more : sum_by f (take (i + 1) ms) ≡ sum_by f (take i ms) + f (get_or ms i d) = ap (sum_by f) (take_more ms i d h)
    ∙ sum_by_push f (take i ms) (get_or ms i d) in
    let all : sum_by f (take (i + 1) ms) ≤ sum_by f ms = sum_by-take-le f ms (i + 1) in
    omega (arith, more, all)

module _ (t : TransferView) (sent wrote : ℕ) (more : sent < length t.msgs) (counts : wrote ≡ sum_by written_of (take sent t.msgs))
    (fits : IsTransfer t.msgs t.out)
    (m : Msg) (xs : List Msg) (i : ℕ) (e : m ≡ get_or xs i m) (all : xs ≡ t.msgs) (place : i ≡ sent) where
  -- a message that was read at its place
  pub here : m ≡ get_or t.msgs sent m
  here = e ∙ ap (λ (ys : List Msg). get_or ys i m) all ∙ ap (λ (j : ℕ). get_or t.msgs j m) place

  pub message_here : message_with m (take (written_of m) (drop wrote t.out)) ≡ nth_message (messages_of t) sent
  message_here =
      ap (λ (x : Msg). message_with x (take (written_of x) (drop wrote t.out))) here
      ∙ ap (λ (n : ℕ). message_with (get_or t.msgs sent m) (take (written_of (get_or t.msgs sent m)) (drop n t.out))) counts
      ∙ sym (nth_is t.msgs t.out sent m more)

  pub written_within : wrote + written_of m ≤ length t.out
  written_within =
      let both : sum_by written_of (take sent t.msgs) + written_of (get_or t.msgs sent m) ≤ sum_by written_of t.msgs =
      sum_within written_of t.msgs sent m more in
      omega (arith, both, fits.written, counts, ap written_of here)
