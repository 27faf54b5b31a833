-- What is so of the line of a handle, whatever handles are open before it: its transfers are within the limits, and what it prints is
-- lines of a section.
use Rattle.caller_core.proofs.Cited.{◌≡◌, ℕ, zero, suc, ◌^◌, ◌<◌, ◌≤◌, Bool, true, false, List, [], ◌∷◌, ◌++◌, cond, codes, Option, Some}
use Rattle.caller_core.proofs.Cited.{None, Result, Ok, Err, nat_lt, refl, subst, arith, All, IfSome, decimal, All-nil, All-cons, All-append}
use Rattle.caller_core.proofs.Cited.{All-head, All-tail, sum_by-cons, IsSectionLine, line-append, decimal-line, BoardView, buses}
use Rattle.caller_core.proofs.Cited.{HandlesView, Desc}
use Rattle.std.specs.Prelude.{⊤}
use Rattle.std.proofs.lemmas.List.Elements.{All-set}
use Rattle.i2c_base.specs.Addr.{IsTargetAddress}
use Rattle.i2c_spec.specs.Grant.{grant_of, is_busy}
use Rattle.dev_handle.specs.Handles.{handle_at, if_open, answer_by_handle, changed_if, changed, fresh, opened, open_answer, slave_answer}
use Rattle.dev_handle.specs.Handles.{slaved, target_at, target_of, bus_and_force, with_pec}
use Rattle.dev_handle.specs.declared.fault.HandleFault.{HandleFault}
use Rattle.dev_handle.specs.declared.fault.HandleFault.TheVariants as fault
use Rattle.dev_handle.specs.declared.handle.OpenHandle.{OpenHandle}
use Rattle.dev_handle.specs.declared.handle.Slave.{Slave}
use Rattle.smb_emul.specs.declared.call.SmbFail.TheVariants as fail
use Rattle.smb_emul.specs.Value as value
use Rattle.tools.specs.Combined.{AreMessages, IsDescInRange, IsOpInRange, bytes_of, length_of}
use Rattle.tools.specs.HandleLines.{IsHandleInRange}
use Rattle.tools.specs.declared.command.handle.HandleCmd.{HandleCmd}
use Rattle.tools.specs.declared.command.handle.HandleCmd.TheVariants as handle
use Rattle.tools.specs.declared.lists.DescOp.{DescOp}
use Rattle.tools.specs.declared.lists.DescOp.TheVariants as op
use Rattle.tools.specs.declared.run.ToolRun.{ToolRun}
use Rattle.tools.specs.declared.run.call.HeldOp.TheVariants as held
use Rattle.tools.proofs.FormLemmas.{AsksWithin, HasSectionLines, call_asks_within, call_lines, says_lines, says_nothing}
use Rattle.tools.proofs.FormLemmas.{transfer_asks_within, transfer_lines}
use Rattle.tools.proofs.ValueLemmas.{others, result_line}
use Rattle.caller_core.specs.HandleRuns.{run_by_answer, call_by_handle, callee_of, done_text, fault_text, handle_run, handles_after}
use Rattle.caller_core.specs.HandleRuns.{message_by_handle, messages_at, number_text, says_line}

-- ---- the numbers of open handles are those that their types have

pub record IsNear (h : OpenHandle) : Type 0 where
  pub bus : h.bus < 2 ^ 16
  pub addr : IfSome h.addr IsTargetAddress

abbrev pub IsNearIfOpen : Option OpenHandle → Type 0
IsNearIfOpen o = IfSome o IsNear

abbrev pub AreNear : HandlesView → Type 0
AreNear v = All IsNearIfOpen v

pub none_near : AreNear []
none_near = All-nil IsNearIfOpen

near_at : (v : HandlesView) (n : ℕ) → AreNear v → IsNearIfOpen (handle_at v n)
near_at [] n are = tt
near_at (o ∷ v) zero are = All-head IsNearIfOpen o v are
near_at (o ∷ v) (suc n) are = near_at v n (All-tail IsNearIfOpen o v are)

near_if : (v : HandlesView) (n : ℕ) (f : OpenHandle → Option OpenHandle) (o : Option OpenHandle) → AreNear v → IsNearIfOpen o
    → ((h : OpenHandle) → IsNear h → IsNearIfOpen (f h)) → AreNear (changed_if v n f o)
near_if v n f None are near keeps = are
near_if v n f (Some h) are near keeps = All-set IsNearIfOpen v n (f h) (keeps h near) are

near_changed : (v : HandlesView) (n : ℕ) (f : OpenHandle → Option OpenHandle) → AreNear v
    → ((h : OpenHandle) → IsNear h → IsNearIfOpen (f h)) → AreNear (changed v n f)
near_changed v n f are keeps = near_if v n f (handle_at v n) are (near_at v n are) keeps

near_opened : (b : BoardView) (v : HandlesView) (bus : ℕ) → bus < 2 ^ 16 → AreNear v → AreNear (opened b v bus)
near_opened b v bus small are =
    elim (nat_lt bus (buses b)) as (λ t. AreNear (cond t (v ++ Some (fresh bus) ∷ []) v)) [
      | true ↦ All-append IsNearIfOpen v (Some (fresh bus) ∷ []) are
          (All-cons IsNearIfOpen (Some (fresh bus)) [] (record { bus = small; addr = tt }) (All-nil IsNearIfOpen))
      | false ↦ are
    ]

near_slaved : (b : BoardView) (addr : ℕ) (force : Bool) (h : OpenHandle) → IsTargetAddress addr → IsNear h
    → IsNearIfOpen (slaved b addr force h)
near_slaved b addr force h to near =
    elim (is_busy (grant_of b h.bus addr force)) as (λ t. IsNear (cond t h (record h { addr = Some addr; force = force }))) [
      | true ↦ near
      | false ↦ record { bus = near.bus; addr = to }
    ]

pub near_after : (b : BoardView) (v : HandlesView) (limit : ℕ) (c : HandleCmd) → IsHandleInRange limit c → AreNear v
    → AreNear (handles_after b v c)
near_after b v limit (handle.Open bus) range are = near_opened b v bus range are
near_after b v limit (handle.Slave h addr force) range are =
    near_changed v h (slaved b addr force) are (λ x near. near_slaved b addr force x range.1 near)
near_after b v limit (handle.Pec h on) range are =
    near_changed v h (with_pec on) are (λ x near. record { bus = near.bus; addr = near.addr })
near_after b v limit (handle.Read h n) range are = are
near_after b v limit (handle.Write h bytes) range are = are
near_after b v limit (handle.Rdwr h ms) range are = are
near_after b v limit (handle.Proc h reg word) range are = are
near_after b v limit (handle.Bproc h reg bytes) range are = are
near_after b v limit (handle.Close h) range are = near_changed v h (λ x. None) are (λ x near. tt)

-- ---- so are those of whom they reach

record IsReached (s : Slave) : Type 0 where
  bus : s.bus < 2 ^ 16
  addr : IsTargetAddress s.addr

reached : (h : OpenHandle) (o : Option ℕ) (s : Slave) → h.bus < 2 ^ 16 → IfSome o IsTargetAddress → target_at h o ≡ Ok s → IsReached s
reached h None s bus to e = absurd cc
reached h (Some addr) s bus to e =
    let same : record { bus = h.bus; addr = addr; force = h.force; pec = h.pec } ≡ s = cc in
    subst IsReached same (record { bus = bus; addr = to })

target_near : (o : Option OpenHandle) (s : Slave) → IsNearIfOpen o → if_open o target_of ≡ Ok s → IsReached s
target_near None s near e = absurd cc
target_near (Some h) s near e = reached h h.addr s near.bus near.addr e

place_near : (o : Option OpenHandle) (p : ℕ × Bool) → IsNearIfOpen o → if_open o bus_and_force ≡ Ok p → p.0 < 2 ^ 16
place_near None p near e = absurd cc
place_near (Some h) p near e =
    let same : (h.bus, h.force) ≡ p = cc in subst (λ (q : ℕ × Bool). q.0 < 2 ^ 16) same near.bus

-- ---- transfers

by_asks : {X : Type 0} (f : X → ToolRun) (r : Result X HandleFault) → ((x : X) → r ≡ Ok x → AsksWithin (f x))
    → AsksWithin (run_by_answer f r)
by_asks f (Ok x) h = h x refl
by_asks f (Err e) h = says_nothing (fault_text e ∷ [])

few_bytes : (o : DescOp) → IsOpInRange o → length_of o ≤ 512
few_bytes (op.Read n) is = is.1
few_bytes (op.Write bytes) is = is.1

one_message : (addr : ℕ) (o : DescOp) → IsTargetAddress addr → IsOpInRange o → AreMessages (record { addr = addr; op = o } ∷ [])
one_message addr o to is =
    let d : Desc = record { addr = addr; op = o } in
    record {
      some = omega arith;
      few = omega arith;
      each = All-cons IsDescInRange d [] (to, is) (All-nil IsDescInRange);
      short = omega (arith, few_bytes o is, sum_by-cons bytes_of d []);
    }

messages_ask : (ms : List Desc) (p : ℕ × Bool) → AreMessages ms → p.0 < 2 ^ 16 → AsksWithin (messages_at ms p)
messages_ask ms p are bus = transfer_asks_within (record { force = p.1; bus = p.0; messages = ms }) (record { bus = bus; messages = are })

message_asks : (b : BoardView) (v : HandlesView) (h : ℕ) (o : DescOp) → IsOpInRange o → AreNear v
    → AsksWithin (run_by_answer (message_by_handle o) (answer_by_handle v h target_of))
message_asks b v h o is are = by_asks (message_by_handle o) (answer_by_handle v h target_of) (λ s e.
    let near : IsReached s = target_near (handle_at v h) s (near_at v h are) e in
    messages_ask (record { addr = s.addr; op = o } ∷ []) (s.bus, s.force) (one_message s.addr o near.addr is) near.bus)

pub handle_asks : (b : BoardView) (v : HandlesView) (limit : ℕ) (c : HandleCmd) → IsHandleInRange limit c → AreNear v
    → AsksWithin (handle_run b v c)
handle_asks b v limit (handle.Open bus) range are = says_nothing (number_text (open_answer b v bus) ∷ [])
handle_asks b v limit (handle.Slave h addr force) range are = says_nothing
    (done_text (answer_by_handle v h (slave_answer b addr force)) ∷ [])
handle_asks b v limit (handle.Pec h on) range are = says_nothing (done_text (answer_by_handle v h (λ x. Ok tt)) ∷ [])
handle_asks b v limit (handle.Read h n) range are = message_asks b v h (op.Read n) (range.1, range.2) are
handle_asks b v limit (handle.Write h bytes) range are = message_asks b v h (op.Write bytes) (range.1.each, range.1.few) are
handle_asks b v limit (handle.Rdwr h ms) range are =
    by_asks (messages_at ms) (answer_by_handle v h bus_and_force) (λ p e. messages_ask ms p range.1
    (place_near (handle_at v h) p (near_at v h are) e))
handle_asks b v limit (handle.Proc h reg word) range are =
    by_asks (call_by_handle (held.ProcCall reg word)) (answer_by_handle v h target_of) (λ s e.
    let near : IsReached s = target_near (handle_at v h) s (near_at v h are) e in
    call_asks_within (callee_of s) near.addr (held.ProcCall reg word) (range.1, range.2))
handle_asks b v limit (handle.Bproc h reg bytes) range are =
    by_asks (call_by_handle (held.BlockProc reg bytes)) (answer_by_handle v h target_of) (λ s e.
    let near : IsReached s = target_near (handle_at v h) s (near_at v h are) e in
    call_asks_within (callee_of s) near.addr (held.BlockProc reg bytes)
    (range.1, (range.2.each, (range.2.some, omega (arith, range.2.few)))))
handle_asks b v limit (handle.Close h) range are = says_nothing (done_text (answer_by_handle v h (λ x. Ok tt)) ∷ [])

-- ---- lines

fault_line : (e : HandleFault) → IsSectionLine (fault_text e)
fault_line (fault.Errno e) = result_line (Err (fail.Errno e))
fault_line fault.Memory = record { one = refl; other = others [] 0 refl (omega arith) }

done_line : (r : Result ⊤ HandleFault) → IsSectionLine (done_text r)
done_line (Ok x) = result_line (Ok value.done)
done_line (Err e) = fault_line e

number_line : (r : Result ℕ HandleFault) → IsSectionLine (number_text r)
number_line (Ok n) = record {
  one = line-append (codes "handle ") (decimal n) refl (decimal-line n);
  other = others (codes "handle " ++ decimal n) 104 refl (omega arith);
}
number_line (Err e) = fault_line e

one_line : (line : List ℕ) → IsSectionLine line → HasSectionLines (says_line line)
one_line line is = says_lines (line ∷ []) (All-cons IsSectionLine line [] is (All-nil IsSectionLine))

by_lines : {X : Type 0} (f : X → ToolRun) (r : Result X HandleFault) → ((x : X) → HasSectionLines (f x))
    → HasSectionLines (run_by_answer f r)
by_lines f (Ok x) h = h x
by_lines f (Err e) h = one_line (fault_text e) (fault_line e)

message_lines : (o : DescOp) (s : Slave) → HasSectionLines (message_by_handle o s)
message_lines o s = transfer_lines (record { force = s.force; bus = s.bus; messages = record { addr = s.addr; op = o } ∷ [] })

pub handle_lines : (b : BoardView) (v : HandlesView) (c : HandleCmd) → HasSectionLines (handle_run b v c)
handle_lines b v (handle.Open bus) = one_line (number_text (open_answer b v bus)) (number_line (open_answer b v bus))
handle_lines b v (handle.Slave h addr force) =
    one_line (done_text (answer_by_handle v h (slave_answer b addr force))) (done_line (answer_by_handle v h (slave_answer b addr force)))
handle_lines b v (handle.Pec h on) = one_line (done_text (answer_by_handle v h (λ x. Ok tt)))
    (done_line (answer_by_handle v h (λ x. Ok tt)))
handle_lines b v (handle.Read h n) = by_lines (message_by_handle (op.Read n)) (answer_by_handle v h target_of) (message_lines (op.Read n))
handle_lines b v (handle.Write h bytes) = by_lines (message_by_handle (op.Write bytes)) (answer_by_handle v h target_of)
    (message_lines (op.Write bytes))
handle_lines b v (handle.Rdwr h ms) =
    by_lines (messages_at ms) (answer_by_handle v h bus_and_force) (λ p. transfer_lines (record { force = p.1; bus = p.0; messages = ms }))
handle_lines b v (handle.Proc h reg word) =
    by_lines (call_by_handle (held.ProcCall reg word)) (answer_by_handle v h target_of)
    (λ s. call_lines (record { to = callee_of s; op = held.ProcCall reg word }))
handle_lines b v (handle.Bproc h reg bytes) =
    by_lines (call_by_handle (held.BlockProc reg bytes)) (answer_by_handle v h target_of)
    (λ s. call_lines (record { to = callee_of s; op = held.BlockProc reg bytes }))
handle_lines b v (handle.Close h) = one_line (done_text (answer_by_handle v h (λ x. Ok tt))) (done_line (answer_by_handle v h (λ x. Ok tt)))
