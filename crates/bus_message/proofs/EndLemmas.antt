-- A message in progress comes to its end: by a call that fails, or as what is left of it does.
use Rattle.bus_message.proofs.Cited.{◌∙◌, ◌≡◌, ℕ, ◌+◌, ◌≤◌, Bool, false, IsTrue, List, [], ◌∷◌, ◌++◌, length, length-append, Option, Some, sym}
use Rattle.bus_message.proofs.Cited.{ap, subst, arith, inl, inr, Phase, PortCall, End, World, Said, TalkTold, cut_of, Reaches, TellsTalk}
use Rattle.i2c_base.specs.Phases.{MayStart}
use Rattle.i2c_base.specs.declared.port.Phase.TheVariants.{Idle}
use Rattle.i2c_base.specs.declared.port.PortCall.TheVariants as call
use Rattle.i2c_base.specs.declared.entry.End.TheVariants as end
use Rattle.ports.specs.Causes.{Rose}
use Rattle.ports.specs.declared.port.Port.{Ghosts as PortGhosts}
use Rattle.bus_message.specs.Talks.{MessageEnded}

-- a count that rose rose from before
pub rose_from : (old mid new : ℕ) → old ≤ mid → Rose mid new → Rose old new
rose_from old mid new low (inl rose) = inl (omega (arith, low, rose))
rose_from old mid new low (inr full) = inr full

pub idle_starts : (x : Phase) → x ≡ Idle → MayStart x
idle_starts x idle = subst (λ (y : Phase). MayStart y) (sym idle) tt

module _ {P : Type 0} (p : PortGhosts P) (last : Bool) (left : Option ℕ → Said World → TalkTold World) (calls most : ℕ) (got : List ℕ)
    (old mid new : P) (bytes : List ℕ)
    (grown : IsTrue p.tells → length (p.log mid) ≤ length (p.log old) + most) (later : p.faults old ≤ p.faults mid)
    (stays : p.setup mid ≡ p.setup old) where
  -- A CALL FAILED behind this port, with so many calls before it
  pub fault-ends : (at : ℕ) → calls ≤ at → at ≤ calls + most → length bytes ≤ length got + most → p.phase new ≡ Idle
      → (IsTrue p.tells → p.log new ≡ p.log mid ++ call.Fault ∷ []) → p.faults mid ≤ p.faults new → p.setup new ≡ p.setup mid
      → Rose (p.faults mid) (p.faults new)
      → (IsTrue p.tells → (whole : TalkTold World) (before : List PortCall)
      → Reaches whole (left (Some at)) before calls got (p.world old) (p.log old)
      → TellsTalk whole bytes (end.Cut at) (p.world new) before (p.log new))
      → MessageEnded p last left calls most got old new bytes (end.Cut at)
  fault-ends at low high few idle log after same rose told =
      record {
        start = idle_starts (p.phase new) idle;
        idle = inl idle;
        grows = λ tells. omega (arith, grown tells, ap length (log tells), length-append {A = PortCall});
        later = omega (arith, later, after);
        setup = same ∙ stays;
        few = few;
        fails = record {
          place = λ q e. (let here : at ≡ q = cc in (omega (arith, low, here), omega (arith, high, here)));
          cause = λ q e. rose_from (p.faults old) (p.faults mid) (p.faults new) later rose;
        };
        told = told;
      }

  -- THE REST of it ended so, behind this port
  pub rest-ends : (last2 : Bool) (left2 : Option ℕ → Said World → TalkTold World) (calls2 most2 : ℕ) (got2 : List ℕ) (e : End)
      → MessageEnded p last2 left2 calls2 most2 got2 mid new bytes e
      → (last2 ≡ false → last ≡ false) → calls ≤ calls2 → calls2 + most2 ≤ calls + most → length got2 + most2 ≤ length got + most
      → (IsTrue p.tells → length (p.log mid) + most2 ≤ length (p.log old) + most)
      → (IsTrue p.tells → (whole : TalkTold World) (before : List PortCall)
      → Reaches whole (left (cut_of e)) before calls got (p.world old) (p.log old)
      → Reaches whole (left2 (cut_of e)) before calls2 got2 (p.world mid) (p.log mid))
      → MessageEnded p last left calls most got old new bytes e
  rest-ends last2 left2 calls2 most2 got2 e ended on low high few room goes =
      record {
        start = ended.start;
        idle = elim ended.idle [ inl idle ↦ inl idle | inr more ↦ inr (on more.0, more.1) ];
        grows = λ tells. omega (arith, room tells, ended.grows tells);
        later = omega (arith, later, ended.later);
        setup = ended.setup ∙ stays;
        few = omega (arith, few, ended.few);
        fails = record {
          place = λ q is. (let at = ended.fails.place q is in (omega (arith, low, at.0), omega (arith, high, at.1)));
          cause = λ q is. rose_from (p.faults old) (p.faults mid) (p.faults new) later (ended.fails.cause q is);
        };
        told = λ tells whole before r. ended.told tells whole before (goes tells whole before r);
      }
