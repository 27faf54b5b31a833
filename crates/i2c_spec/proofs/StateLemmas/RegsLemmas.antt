-- The table of the register device is fair, and what it holds stays bytes. No induction.
use Rattle.std.proofs.Common.{ℕ, ◌<◌, ◌≤◌, Bool, true, false, if◌then◌else◌, List, replicate, inl, inr, refl, arith}
use Rattle.std.specs.List.{AllByRecursion}
use Rattle.i2c_base.specs.Board.{RunView}
use Rattle.i2c_base.specs.Bytes.{IsByte}
use Rattle.i2c_base.specs.declared.event.Event.{Event}
use Rattle.i2c_base.specs.declared.event.Event.TheVariants as event
use Rattle.i2c_base.specs.declared.event.Answer.TheVariants as answer
use Rattle.i2c_spec.specs.Targets.RegsDevice.{RegsView, RegsPhase, Idle, Pointer, Data, Read, IsRegsOfBytes, is_too_long, regs_after}
use Rattle.i2c_spec.specs.Targets.RegsDevice.{regs_sends, regs_put, regs_put_answer, regs_get, regs_opening, regs_table}
use Rattle.i2c_spec.specs.Targets.{IsAckOrNack, IsByteEvent, IsFairTable, IsStartAnswer, KeepsBytes}
use Rattle.i2c_spec.proofs.ByteLemmas.{set_all, all_of, get_byte, RunsHoldBytes, runs_bytes}

held : (slow : Bool) → IsStartAnswer slow (if slow then answer.Slow else answer.Ack)
held true = refl
held false = inl refl

put_answered : (p : RegsPhase) → IsAckOrNack (regs_put_answer p)
put_answered Idle = inr refl
put_answered Pointer = inl refl
put_answered Data = inl refl
put_answered Read = inr refl

pub regs_fair : IsFairTable regs_table
regs_fair = record {
  stops = λ x. record { other = refl; stop = refl };
  sends = λ x. refl;
  sends_last = λ x. refl;
  starts = λ x reading. held (is_too_long x.hold);
  puts = λ x byte. put_answered x.phase;
  other = λ x. refl;
  stop = λ x. refl;
}

-- what it holds stays bytes
put_bytes : (x : RegsView) (p : RegsPhase) (byte : ℕ) → IsByte byte → AllByRecursion IsByte x.memory
    → AllByRecursion IsByte (regs_put x p byte).memory
put_bytes x Pointer byte small all = all
put_bytes x Data byte small all = set_all IsByte x.memory x.pointer byte small all
put_bytes x Idle byte small all = all
put_bytes x Read byte small all = all

got_bytes : (x : RegsView) (p : RegsPhase) (ack : Bool) → AllByRecursion IsByte x.memory → AllByRecursion IsByte (regs_get x p ack).memory
got_bytes x Read ack all = all
got_bytes x Idle ack all = all
got_bytes x Pointer ack all = all
got_bytes x Data ack all = all

sent_byte : (x : RegsView) (p : RegsPhase) → AllByRecursion IsByte x.memory → IsByte (regs_sends x p)
sent_byte x Read all = get_byte x.memory x.pointer all
sent_byte x Idle all = omega arith
sent_byte x Pointer all = omega arith
sent_byte x Data all = omega arith

-- .. and for how many looks it holds the clock
put_hold : (x : RegsView) (p : RegsPhase) (byte : ℕ) → IsByte x.hold → IsByte (regs_put x p byte).hold
put_hold x Pointer byte small = small
put_hold x Data byte small = small
put_hold x Idle byte small = small
put_hold x Read byte small = small

got_hold : (x : RegsView) (p : RegsPhase) (ack : Bool) → IsByte x.hold → IsByte (regs_get x p ack).hold
got_hold x Read ack small = small
got_hold x Idle ack small = small
got_hold x Pointer ack small = small
got_hold x Data ack small = small

regs_after_bytes : (x : RegsView) (e : Event) → IsByteEvent e → IsRegsOfBytes x → IsRegsOfBytes (regs_after x e)
regs_after_bytes x (event.Start reading) fit all = all
regs_after_bytes x (event.Put byte) fit all = (put_bytes x x.phase byte fit all.0, put_hold x x.phase byte all.1)
regs_after_bytes x (event.Get ack) fit all = (got_bytes x x.phase ack all.0, got_hold x x.phase ack all.1)
regs_after_bytes x event.Other fit all = all
regs_after_bytes x event.Stop fit all = all

pub regs_keep_bytes : KeepsBytes regs_table IsRegsOfBytes
regs_keep_bytes = record { after = regs_after_bytes; sends = λ x all. sent_byte x x.phase all.0; holds = λ x all. all.1 }

pub regs_opening-bytes : (hold : ℕ) (set : List RunView) → hold ≤ 200 → RunsHoldBytes set → IsRegsOfBytes (regs_opening hold set)
regs_opening-bytes hold set few runs = (
  runs_bytes set (replicate 256 0) runs
      (all_of IsByte 256 0 (let small : 0 < 256 = omega arith in small)),
  omega arith,
)
