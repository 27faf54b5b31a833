-- What an entry tells of a message is so: its bytes and its end are those of the conversation, and who is told to have
-- heard it is who hears its start.
use Rattle.core_laws.proofs.Cited.{◌≡◌, ℕ, zero, suc, ◌+◌, ◌-◌, eqb, Bool, true, false, cond, List, length, Option, Some, None, refl, sym}
use Rattle.core_laws.proofs.Cited.{◌∙◌, ap, arith, is_some, slice_get, eq-eqb, End, Purpose, BoardView, block_limit, bytes_most}
use Rattle.core_laws.proofs.Cited.{MessageView, messages_of, message_most, Hop, World, hearers, has_heard, answer, Job, Call, Select}
use Rattle.core_laws.proofs.Cited.{SwitchOff, Off, off_mux, job_purpose, message_of, is_last, HearsIn, heard_list, ends_with, chip_where}
use Rattle.core_laws.proofs.Cited.{who_hears, NextMsg, IsMessageOf, IsHeard, message_for, TransferView}
use Rattle.std.proofs.Common.{unwrap_or}
use Rattle.std.proofs.lemmas.Bool.{ne_eqb}
use Rattle.i2c_base.specs.declared.ids.Node.{Node}
use Rattle.i2c_base.specs.declared.ids.Node.TheVariants as node
use Rattle.i2c_base.specs.declared.entry.End.TheVariants as end
use Rattle.i2c_base.specs.declared.entry.Purpose.TheVariants as purpose
use Rattle.i2c_base.specs.declared.tree.Grant.{Grant}
use Rattle.i2c_base.specs.declared.tree.Grant.TheVariants as grant
use Rattle.i2c_spec.specs.Grant.{grant_of, named_of}
use Rattle.i2c_spec.specs.Tree.{addr_of_mux}
use Rattle.bus_spec.specs.Walk.{nth_message, chip_address}
use Rattle.bus_spec.specs.Legal.{starts, start_failed}
use Rattle.mux_plan.specs.Plans.{control_of}
use Rattle.bus_laws.specs.Next.{heard_where}
use Rattle.bus_message.specs.Sends.{device_of, control_message}

-- who is told to have heard a message is the one who hears its start
named_is : (w : World) (reading : Bool) (g : Grant)
    → cond (is_some (heard_where w reading (named_of g))) (device_of g) None ≡ heard_where w reading (named_of g)
named_is w reading (grant.Named d) = by_start (starts (slice_get w.devices d) reading)
  where
    by_start : (t : Bool) → cond (is_some (cond t (Some (node.Device d)) None)) (Some (node.Device d)) None ≡ cond t
        (Some (node.Device d)) None
    by_start true = refl
    by_start false = refl
named_is w reading grant.Nobody = refl
named_is w reading grant.Busy = refl

hears_in : (w : World) (addr : ℕ) (reading : Bool) (heard : Option Node) (e : End)
    → (start_failed e ≡ false → hearers w addr reading ≡ heard_list heard)
    → (start_failed e ≡ true → heard ≡ None) → HearsIn w addr reading heard e
hears_in w addr reading heard end.Ok fine failed = fine refl
hears_in w addr reading heard end.Nack fine failed = fine refl
hears_in w addr reading heard end.Slow fine failed = fine refl
hears_in w addr reading heard end.Refused fine failed = fine refl
hears_in w addr reading heard end.Proto fine failed = fine refl
hears_in w addr reading heard (end.Cut zero) fine failed = failed refl
hears_in w addr reading heard (end.Cut (suc q)) fine failed = fine refl

-- of a caller's message: the device that is granted
pub call-hears : (b : BoardView) (t : TransferView) (m : MessageView) (w : World) (heard : Option Node) (e : End)
    → IsHeard b t purpose.Call m w heard e
    → hearers w m.addr m.reading ≡ heard_list (who_hears b w t.bus t.force m.addr m.reading)
    → has_heard (answer w m.addr m.reading) ≡ is_some (who_hears b w t.bus t.force m.addr m.reading)
    → HearsIn w m.addr m.reading heard e
call-hears b t m w heard e hears there answered =
    hears_in w m.addr m.reading heard e
    (λ fine. there ∙ ap heard_list
    (sym (hears.named ∙ ap (λ (t : Bool). cond t (device_of granted) None) (hears.answered fine ∙ answered)
    ∙ named_is w m.reading granted)))
    (λ failed. hears.named ∙ ap (λ (t : Bool). cond t (device_of granted) None) (hears.failed failed))
  where
    granted : Grant
    granted = grant_of b t.bus m.addr t.force

-- of a control message: the chip of its mux
chip_is : (m : ℕ) (absent : Bool)
    → cond (is_some (cond absent None (Some (node.Chip m)))) (Some (node.Chip m)) None ≡ cond absent None (Some (node.Chip m))
chip_is m true = refl
chip_is m false = refl

pub control-hears : (b : BoardView) (t : TransferView) (x : ℕ) (m : MessageView) (w : World) (heard : Option Node) (e : End)
    → IsHeard b t (purpose.Control x) m w heard e
    → hearers w m.addr m.reading ≡ heard_list (chip_where b x)
    → has_heard (answer w m.addr m.reading) ≡ is_some (chip_where b x)
    → HearsIn w m.addr m.reading heard e
control-hears b t x m w heard e hears there answered =
    hears_in w m.addr m.reading heard e
    (λ fine. there ∙ ap heard_list
    (sym (hears.named ∙ ap (λ (t : Bool). cond t (Some (node.Chip x)) None) (hears.answered fine ∙ answered) ∙ chip_is x _)))
    (λ failed. hears.named ∙ ap (λ (t : Bool). cond t (Some (node.Chip x)) None) (hears.failed failed))

-- WHAT IS SENT is the message of the job
select_is : (b : BoardView) (h : Hop) (left addr : ℕ) → addr ≡ chip_address b h.mux
    → control_message addr (control_of (Select h) left) ≡ message_of b (Select h) left
select_is b h zero addr e = ap (λ (a : ℕ). control_message a (control_of (Select h) zero)) e
select_is b h (suc left) addr e = ap (λ (a : ℕ). control_message a (control_of (Select h) (suc left))) e

off_is : (b : BoardView) (off : Off) (left addr : ℕ) → addr ≡ chip_address b (off_mux off)
    → control_message addr (control_of (SwitchOff off) left) ≡ message_of b (SwitchOff off) left
off_is b off left addr e = ap (λ (a : ℕ). control_message a (control_of (SwitchOff off) left)) e

chip_address_is : (b : BoardView) (m addr a : ℕ) → addr_of_mux b m ≡ Some a → addr ≡ a → addr ≡ chip_address b m
chip_address_is b m addr a at e = e ∙ sym (ap (λ (o : Option ℕ). unwrap_or o 0) at)

pub control-message : (b : BoardView) (t : TransferView) (sent : ℕ) (job : Job) (left m addr a : ℕ) (next : NextMsg)
    → IsMessageOf job left next → job_purpose job ≡ purpose.Control m
    → addr_of_mux b m ≡ Some a → addr ≡ a → message_for t sent next.purpose next.control addr ≡ message_of b job left
control-message b t sent (Call bus ms) left m addr a next of why at e = absurd (let f : purpose.Call ≡ purpose.Control m = why in cc)
control-message b t sent (Select h) left m addr a next of why at e =
    ap (λ (p : Purpose). message_for t sent p next.control addr) of.for_purpose ∙ ap (λ (o : Option ℕ). control_message addr o) of.with_byte
    ∙ select_is b h left addr (chip_address_is b h.mux addr a
    (ap (addr_of_mux b) (let f : purpose.Control h.mux ≡ purpose.Control m = why in let g : h.mux ≡ m = cc in g) ∙ at) e)
control-message b t sent (SwitchOff off) left m addr a next of why at e =
    ap (λ (p : Purpose). message_for t sent p next.control addr) of.for_purpose ∙ ap (λ (o : Option ℕ). control_message addr o) of.with_byte
    ∙ off_is b off left addr (chip_address_is b (off_mux off) addr a
    (ap (addr_of_mux b) (let f : purpose.Control (off_mux off) ≡ purpose.Control m = why in let g : off_mux off ≡ m = cc in g) ∙ at) e)

pub call-message : (b : BoardView) (t : TransferView) (sent : ℕ) (bus : ℕ) (ms : List MessageView) (left addr : ℕ) (next : NextMsg)
    → IsMessageOf (Call bus ms) left next
    → ms ≡ messages_of t → sent + suc left ≡ length ms → message_for t sent next.purpose next.control addr ≡ message_of b (Call bus ms) left
call-message b t sent bus ms left addr next of same count =
    ap (λ (p : Purpose). message_for t sent p next.control addr) of.for_purpose
    ∙ ap (λ (xs : List MessageView). nth_message xs sent) (sym same)
    ∙ ap (nth_message ms) (let e : sent ≡ length ms - 1 - left = omega (arith, count) in e)

-- its bytes, whatever its address: the bus is asked for no more than the job weighs
moves_alike : (limit a c : ℕ) (o : Option ℕ) → bytes_most limit (control_message a o) ≡ bytes_most limit (control_message c o)
moves_alike limit a c (Some byte) = refl
moves_alike limit a c None = refl

pub message-moves : (b : BoardView) (t : TransferView) (sent : ℕ) (job : Job) (left : ℕ) (next : NextMsg) (addr : ℕ)
    → IsMessageOf job left next
    → ((bus : ℕ) (ms : List MessageView) → job ≡ Call bus ms → (ms ≡ messages_of t) × (sent + suc left ≡ length ms))
    → bytes_most (block_limit b) (message_for t sent next.purpose next.control addr) ≡ message_most b job left
message-moves b t sent (Call bus ms) left next addr of owns = ap (bytes_most (block_limit b))
    (call-message b t sent bus ms left addr next of (owns bus ms refl).0 (owns bus ms refl).1)
message-moves b t sent (Select h) left next addr of owns =
    ap (λ (p : Purpose). bytes_most (block_limit b) (message_for t sent p next.control addr)) of.for_purpose
    ∙ ap (λ (o : Option ℕ). bytes_most (block_limit b) (control_message addr o)) of.with_byte
    ∙ moves_alike (block_limit b) addr (chip_address b h.mux) (control_of (Select h) left)
    ∙ ap (bytes_most (block_limit b)) (select_is b h left (chip_address b h.mux) refl)
message-moves b t sent (SwitchOff off) left next addr of owns =
    ap (λ (p : Purpose). bytes_most (block_limit b) (message_for t sent p next.control addr)) of.for_purpose
    ∙ ap (λ (o : Option ℕ). bytes_most (block_limit b) (control_message addr o)) of.with_byte
    ∙ moves_alike (block_limit b) addr (chip_address b (off_mux off)) (control_of (SwitchOff off) left)
    ∙ ap (bytes_most (block_limit b)) (off_is b off left (chip_address b (off_mux off)) refl)

-- a stop follows it exactly where it is the last of its transfer
last_of : (sent left n : ℕ) → sent + suc left ≡ n → eqb (n - left) n ≡ eqb left 0
last_of sent zero n count = eq-eqb (n - 0) n (omega (arith, count))
last_of sent (suc left) n count = ne_eqb (n - suc left) n (λ e. omega (arith, count, e))
    ∙ sym (ne_eqb (suc left) 0 (λ e. omega (arith, e)))

pub last-is : (job : Job) (left : ℕ) (next : NextMsg) → IsMessageOf job left next
    → ((bus : ℕ) (ms : List MessageView) → job ≡ Call bus ms → (sent : ℕ) × (sent + suc left ≡ length ms))
    → ends_with next.purpose next.part next.parts ≡ is_last job left
last-is (Call bus ms) left next of counts =
    ap (λ (p : Purpose). ends_with p next.part next.parts) of.for_purpose ∙ ap (λ (k : ℕ). eqb k next.parts) of.as_part
    ∙ ap (λ (k : ℕ). eqb (length ms - left) k) of.of_parts
    ∙ last_of (counts bus ms refl).0 left (length ms) (counts bus ms refl).1
last-is (Select h) left next of counts = ap (λ (p : Purpose). ends_with p next.part next.parts) of.for_purpose
last-is (SwitchOff off) left next of counts = ap (λ (p : Purpose). ends_with p next.part next.parts) of.for_purpose
