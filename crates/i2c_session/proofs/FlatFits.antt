-- A reply of the flat world is one that its transfer may get. The induction goes over the messages.
use Rattle.std.proofs.Common.{◌≡◌, ℕ, zero, suc, ◌+◌, Bool, true, false, cond, List, [], ◌∷◌, length, take, drop}
use Rattle.std.proofs.Common.{Option, None, Some, refl, sym, ◌∙◌, ap, subst, arith}
use Rattle.std.specs.List.{list_any}
use Rattle.std.proofs.Math.Seq.{take-length}
use Rattle.i2c_base.specs.Board.{BoardView}
use Rattle.i2c_base.specs.Transfer.{TransferView, is_read}
use Rattle.i2c_base.specs.Fitting.{Fits, FitsReads}
use Rattle.i2c_base.specs.declared.entry.End.{End}
use Rattle.i2c_base.specs.declared.entry.End.TheVariants as end
use Rattle.i2c_base.specs.declared.errno.Errno.{Errno}
use Rattle.i2c_base.specs.declared.reply.Reply.TheVariants as reply
use Rattle.i2c_base.specs.declared.reply.Cut.TheVariants as cut
use Rattle.i2c_spec.specs.Conversation.{AllTold, TalkTold, is_empty, is_good, talk, talk_all, with_read}
use Rattle.i2c_spec.specs.Flat.{FlatListener, barred, block_limit, cut_in, errno_of, flat, flat_by, flat_listener, flat_messages, granted_on, idle, or_done}
use Rattle.i2c_spec.specs.Messages.{MessageView, messages_of}
use Rattle.i2c_spec.specs.Targets.{TargetState}
use Rattle.i2c_spec.proofs.BlockLemmas.{is_block_limit}
use Rattle.i2c_spec.proofs.MessageLemmas.{length-messages}
use Rattle.bus_spec.specs.Walk.{nth_message}
use Rattle.bus_laws.proofs.walk.Reads.{message-reads, read_more}
use Rattle.bus_laws.proofs.world.TalkThrough.{GaveRead, talk-reads}

good_end : (e : End) → is_good e ≡ true → e ≡ end.Ok
good_end end.Ok is = refl
good_end end.Nack is = absurd (let f : false ≡ true = is in cc)
good_end end.Slow is = absurd (let f : false ≡ true = is in cc)
good_end end.Refused is = absurd (let f : false ≡ true = is in cc)
good_end end.Proto is = absurd (let f : false ≡ true = is in cc)
good_end (end.Cut q) is = absurd (let f : false ≡ true = is in cc)

bad_end : (e : End) → is_good e ≡ false → e ≡ end.Ok → ⊥
bad_end e is ok = (let f : true ≡ false = sym (ap is_good ok) ∙ is in cc)

-- the message at a place, and those behind it
at_place : (xs : List MessageView) (i : ℕ) (m : MessageView) (ms : List MessageView) → drop i xs ≡ m ∷ ms
    → (nth_message xs i ≡ m) × (drop (suc i) xs ≡ ms)
at_place [] zero m ms is = absurd (let f : [] ≡ m ∷ ms = is in cc)
at_place [] (suc i) m ms is = absurd (let f : [] ≡ m ∷ ms = is in cc)
at_place (x ∷ xs) zero m ms is = (let f : x ∷ xs ≡ m ∷ ms = is in (cc, cc))
at_place (x ∷ xs) (suc i) m ms is = at_place xs i m ms is

module _ (b : BoardView) (t : TransferView) (cuts : ℕ → Option ℕ) where
  abbrev many : ℕ
  many = length t.msgs

  abbrev told : FlatListener → List MessageView → ℕ → List ℕ → AllTold FlatListener
  told w ms i got = talk_all (flat_listener (granted_on b t.bus t.force)) (block_limit b) w ms i cuts got

  -- of the messages from a place on, where those before it have read what fits
  all_fit : (ms : List MessageView) (i : ℕ) → drop i (messages_of t) ≡ ms → i + length ms ≡ many → (w : FlatListener) (got : List ℕ)
      → FitsReads (take i t.msgs) got → (told w ms i got).end ≡ end.Ok → FitsReads t.msgs (told w ms i got).bytes
  all_fit [] i at long w got fits ok =
      subst (λ (xs : List _). FitsReads xs got) (ap (λ (k : ℕ). take k t.msgs) (let all : i ≡ many = omega (arith, long) in all)
      ∙ take-length t.msgs) fits
  all_fit (m ∷ ms) i at long w got fits ok =
      by (is_good said.end) refl (λ next. all_fit ms (i + 1) next (omega (arith, long)) said.now (with_read got m said)) ok
    where
      said : TalkTold FlatListener
      said = talk (flat_listener (granted_on b t.bus t.force)) (block_limit b) w m (is_empty ms) (cuts i)

      here : (nth_message (messages_of t) i ≡ m) × (drop (suc i) (messages_of t) ≡ ms)
      here = at_place (messages_of t) i m ms at

      more : said.end ≡ end.Ok → FitsReads (take (i + 1) t.msgs) (with_read got m said)
      more through =
          subst (λ (x : MessageView). FitsReads (take (i + 1) t.msgs) (read_more got x.reading said.bytes)) here.0
          (message-reads (block_limit b) (is_block_limit b).few t i (omega (arith, long)) got said.bytes fits
          (subst (λ (x : MessageView). x.reading ≡ true → GaveRead (block_limit b) x.counted x.len said.bytes) (sym here.0)
          (λ reads. talk-reads (flat_listener (granted_on b t.bus t.force)) (cuts i) (block_limit b) w m (is_empty ms) reads through)))

      by : (good : Bool) → is_good said.end ≡ good
          → (drop (i + 1) (messages_of t) ≡ ms → FitsReads (take (i + 1) t.msgs) (with_read got m said)
          → (told said.now ms (i + 1) (with_read got m said)).end ≡ end.Ok
          → FitsReads t.msgs (told said.now ms (i + 1) (with_read got m said)).bytes)
          → (cond good (told said.now ms (i + 1) (with_read got m said))
          (record { bytes = with_read got m said; now = said.now; end = said.end })).end ≡ end.Ok
          → FitsReads t.msgs (cond good (told said.now ms (i + 1) (with_read got m said))
          (record { bytes = with_read got m said; now = said.now; end = said.end })).bytes
      by true is rest ok =
          rest (subst (λ (k : ℕ). drop k (messages_of t) ≡ ms) (let k : suc i ≡ i + 1 = omega arith in k) here.1) (more (good_end said.end is)) ok
      by false is rest ok = absurd (bad_end said.end is ok)

-- a transfer that went through, or failed
ends_fit : (t : TransferView) (e : End) (bytes : List ℕ) → (e ≡ end.Ok → FitsReads t.msgs bytes) → Fits t (or_done (errno_of e) t bytes)
ends_fit t end.Ok bytes fits = by (list_any is_read t.msgs) refl
  where
    by : (r : Bool) → list_any is_read t.msgs ≡ r → Fits t (cond r (reply.Read bytes) reply.Done)
    by true is = (is, fits refl)
    by false is = is
ends_fit t end.Nack bytes fits = tt
ends_fit t end.Slow bytes fits = tt
ends_fit t end.Refused bytes fits = tt
ends_fit t end.Proto bytes fits = tt
ends_fit t (end.Cut q) bytes fits = tt

pub flat-fits : (b : BoardView) (states : List TargetState) (t : TransferView) → Fits t (flat b states t cut.No).reply
flat-fits b states t = by (barred b t cut.No)
  where
    all : AllTold FlatListener
    all = flat_messages b states t cut.No

    by : (why : Option Errno) → Fits t (flat_by b states t cut.No why).reply
    by (Some e) = tt
    by None =
        ends_fit t all.end all.bytes
        (all_fit b t (cut_in cut.No) (messages_of t) 0 refl
        (let all : 0 + length (messages_of t) ≡ length t.msgs = omega (arith, length-messages t.msgs t.out) in all) (idle states) [] refl)
