-- What a session has said after each line, and how it ends. No induction.
use Rattle.std.proofs.Common.{◌≡◌, ℕ, ◌≤◌, Bool, true, false, List, [], ◌∷◌, ◌++◌, Result, Ok, Err, Option, None, Some}
use Rattle.std.proofs.Common.{refl, sym, ◌∙◌, ap, subst, inl, inr, ◌⊎◌, arith, append_assoc, append-nil}
use Rattle.std.specs.Prelude.{⊤, IfSome, IsErrAnd, IsTrue}
use Rattle.std.proofs.lemmas.Grind.{flat_map-append}
use Rattle.std.proofs.lemmas.List.{map-append}
use Rattle.i2c_base.specs.Board.{BoardView}
use Rattle.ports.specs.Causes.{Rose}
use Rattle.i2c_session.specs.Inputs.{IsFirst, IsNext}
use Rattle.i2c_session.specs.Sessions.{Exchange, IsAnswered, IsTranscript, SessionView, answer_text, lines_of, opening, spoken}
use Rattle.i2c_session.proofs.SessionLemmas.{transcript-more}
use Rattle.i2c_top.specs.Endings.{IsRefusalWritten}
use Rattle.i2c_top.specs.Traces.{OutputView}
use Rattle.i2c_top.specs.Written.{HasFront}
use Rattle.i2c_top.specs.declared.status.Status.{Status}
use Rattle.i2c_top.specs.declared.status.Status.TheVariants as status
use Rattle.i2c_top.proofs.Pieces.{front_behind}
use Rattle.i2c_lab.specs.SessionForm.{HasSaid, HasStopped, InputView, IsCausedBy, IsDue, IsLeftAt, IsSaid, input_line}

-- what is left of known lines, behind those that were answered
record IsLeft (told : List Exchange) (now : Option (List (List ℕ))) (lines : List (List ℕ)) : Type 0 where
  rest : List (List ℕ)
  left : now ≡ Some rest
  lines_are : lines ≡ lines_of told ++ rest

abbrev AreLeft : Option (List (List ℕ)) → List Exchange → Option (List (List ℕ)) → Type 0
AreLeft old told now = IfSome old (λ lines. IsLeft told now lines)

abbrev Took : Bool → List ℕ → (now next : Option (List (List ℕ))) → Type 0
Took there line now next = IfSome now (λ lines. IsNext there line lines next)

-- the lines that were taken are answered, by all that was written
pub record HasSaidSoFar (b : BoardView) (old now : Option (List (List ℕ))) (tells : Bool) (s : SessionView) (before bytes : List ℕ) : Type 0 where
  told : List Exchange
  left : AreLeft old told now
  transcript : IsTranscript told (opening b) s
  written : IsTrue tells → bytes ≡ before ++ spoken told

all_left : (o : Option (List (List ℕ))) → AreLeft o [] o
all_left None = tt
all_left (Some lines) = record { rest = lines; left = refl; lines_are = refl }

pub said-none : (b : BoardView) (o : Option (List (List ℕ))) (tells : Bool) (before : List ℕ) → HasSaidSoFar b o o tells (opening b) before before
said-none b o tells before =
    record { told = []; left = all_left o; transcript = refl; written = λ t. sym (append-nil before) }

-- a line was taken of those that were left, or there was none
first_left : (now next : Option (List (List ℕ))) (rest : List (List ℕ)) (there : Bool) (line : List ℕ) → now ≡ Some rest
    → Took there line now next → IsNext there line rest next
first_left now next rest there line is took = subst (λ (o : Option (List (List ℕ))). Took there line o next) is took

left_more : (old now next : Option (List (List ℕ))) (told : List Exchange) (x : Exchange) → AreLeft old told now → Took true x.line now next
    → AreLeft old (told ++ x ∷ []) next
left_more None now next told x left took = tt
left_more (Some lines) now next told x left took =
    let first : IsFirst x.line left.rest next = first_left now next left.rest true x.line left.left took in
    record {
      rest = first.rest;
      left = first.left;
      lines_are = left.lines_are ∙ ap (λ (ls : List (List ℕ)). lines_of told ++ ls) first.lines_are
          ∙ sym (append_assoc (lines_of told) (x.line ∷ []) first.rest)
          ∙ ap (λ (ls : List (List ℕ)). ls ++ first.rest) (sym (map-append (λ (y : Exchange). y.line) told (x ∷ [])));
    }

-- what is left, where nothing is known of the lines nothing; and so behind the last line
abbrev rest_of : (old now : Option (List (List ℕ))) (told : List Exchange) → AreLeft old told now → List (List ℕ)
rest_of None now told left = []
rest_of (Some lines) now told left = left.rest

rest_is : (old now : Option (List (List ℕ))) (told : List Exchange) (left : AreLeft old told now)
    → IfSome old (λ lines. lines ≡ lines_of told ++ rest_of old now told left)
rest_is None now told left = tt
rest_is (Some lines) now told left = left.lines_are

none_left : (old now next : Option (List (List ℕ))) (told : List Exchange) (line : List ℕ) → AreLeft old told now → Took false line now next
    → IfSome old (λ lines. lines ≡ lines_of told ++ [])
none_left None now next told line left took = tt
none_left (Some lines) now next told line left took =
    left.lines_are ∙ ap (λ (ls : List (List ℕ)). lines_of told ++ ls) (first_left now next left.rest false line left.left took)

-- .. behind the line that was taken last, which is the first of them
record IsCutAt (s : SessionView) (old : Option (List (List ℕ))) (told : List Exchange) (answer : List ℕ) : Type 0 where
  rest : List (List ℕ)
  lines_are : IfSome old (λ lines. lines ≡ lines_of told ++ rest)
  due : IsDue s rest answer

cut_at : (s after : SessionView) (old now next : Option (List (List ℕ))) (told : List Exchange) (line answer : List ℕ) → AreLeft old told now
    → Took true line now next → IsAnswered s line answer after → IsCutAt s old told answer
cut_at s after None now next told line answer left took answered =
    record { rest = line ∷ []; lines_are = tt; due = inr (record { next = after; answered = answered }) }
cut_at s after (Some lines) now next told line answer left took answered =
    let first : IsFirst line left.rest next = first_left now next left.rest true line left.left took in
    record {
      rest = left.rest;
      lines_are = left.lines_are;
      due = subst (λ (ls : List (List ℕ)). IsDue s ls answer) (sym first.lines_are) (inr (record { next = after; answered = answered }));
    }

module _ (b : BoardView) (s : SessionView) (old now : Option (List (List ℕ))) (tells : Bool) (before bytes : List ℕ)
    (said : HasSaidSoFar b old now tells s before bytes) where
  -- one line more
  pub said-more : (next : Option (List (List ℕ))) (line answer : List ℕ) (after : SessionView) (more : List ℕ) → Took true line now next
      → IsAnswered s line answer after → (IsTrue tells → more ≡ bytes ++ answer) → HasSaidSoFar b old next tells after before more
  said-more next line answer after more took answered is =
      let x : Exchange = record { line = line; answer = answered.answer } in
      record {
        told = said.told ++ x ∷ [];
        left = left_more old now next said.told x said.left took;
        transcript = transcript-more said.told x (opening b) s after said.transcript answered.answers;
        written = λ t. is t ∙ ap (λ (xs : List ℕ). xs ++ answer) (said.written t) ∙ append_assoc before (spoken said.told) answer
            ∙ ap (λ (xs : List ℕ). before ++ xs)
            (ap (λ (ys : List ℕ). spoken said.told ++ ys) (answered.text_is ∙ sym (append-nil (answer_text answered.answer)))
            ∙ sym (flat_map-append (λ (y : Exchange). answer_text y.answer) said.told (x ∷ [])));
      }

  -- no line is left
  pub stopped-over : (next : Option (List (List ℕ))) (line : List ℕ) → Took false line now next → HasStopped b old tells before bytes (Ok tt)
  stopped-over next line took = record {
    told = said.told;
    rest = [];
    end = s;
    answered = record { lines_are = none_left old now next said.told line said.left took; transcript = said.transcript };
    over = refl;
    left = said.written;
  }

  -- the input failed, or there was no memory
  pub stopped-at : (e : Status) → ((e ≡ status.Input) ⊎ (e ≡ status.Memory)) → HasStopped b old tells before bytes (Err e)
  stopped-at e why = record {
    told = said.told;
    rest = rest_of old now said.told said.left;
    end = s;
    answered = record { lines_are = rest_is old now said.told said.left; transcript = said.transcript };
    over = tt;
    left = λ t. by t why;
  }
    where
      ends_as : (x : Status) → e ≡ x → IsLeftAt (Err x) s (rest_of old now said.told said.left) before (spoken said.told) bytes
          → IsLeftAt (Err e) s (rest_of old now said.told said.left) before (spoken said.told) bytes
      ends_as x is left =
          subst (λ (y : Status). IsLeftAt (Err y) s (rest_of old now said.told said.left) before (spoken said.told) bytes) (sym is) left

      by : IsTrue tells → ((e ≡ status.Input) ⊎ (e ≡ status.Memory))
          → IsLeftAt (Err e) s (rest_of old now said.told said.left) before (spoken said.told) bytes
      by t (inl is) = ends_as status.Input is (said.written t)
      by t (inr is) = ends_as status.Memory is (said.written t)

  -- the output failed within an answer
  pub stopped-cut : (next : Option (List (List ℕ))) (line answer more : List ℕ) (after : SessionView) (e : Status) → Took true line now next
      → IsAnswered s line answer after → (IsTrue tells → HasFront bytes answer more) → e ≡ status.Write
      → HasStopped b old tells before more (Err e)
  stopped-cut next line answer more after e took answered front is =
      let cut : IsCutAt s old said.told answer = cut_at s after old now next said.told line answer said.left took answered in
      record {
        told = said.told;
        rest = cut.rest;
        end = s;
        answered = record { lines_are = cut.lines_are; transcript = said.transcript };
        over = tt;
        left = λ t. subst (λ (x : Status). IsLeftAt (Err x) s cut.rest before (spoken said.told) more) (sym is) (record {
          due = answer;
          is_due = cut.due;
          front = front_behind before bytes more (spoken said.told ++ answer) (spoken said.told) answer refl (said.written t) (front t);
        });
      }

-- .. passed on
pub stopped-on : (o : Option (List (List ℕ))) (b : BoardView) (tells : Bool) (before now : List ℕ) (e : Status) (r : Result ⊤ Status)
    → IsErrAnd r (λ y. y ≡ e) → HasStopped b o tells before now (Err e) → HasStopped b o tells before now r
stopped-on o b tells before now e (Ok x) is stopped = absurd is
stopped-on o b tells before now e (Err y) is stopped =
    subst (λ (x : Status). HasStopped b o tells before now (Err x)) (sym is) stopped

-- whether a line was taken, as it was told
pub taken : (there is : Bool) (now next : Option (List (List ℕ))) (line : List ℕ) → there ≡ is
    → IfSome now (λ lines. IsNext there line lines next) → IfSome now (λ lines. IsNext is line lines next)
taken there is now next line same told = subst (λ (x : Bool). Took x line now next) same told

-- the line of an input that failed is always due
always_due : (s : SessionView) (rest : List (List ℕ)) → IsDue s rest input_line
always_due s [] = refl
always_due s (l ∷ ls) = inl refl

-- an input that failed writes its line
pub said-failed : (b : BoardView) (o : Option (List (List ℕ))) (sink sink_now sink_then : OutputView) (name : List ℕ) (result : Status)
    → sink_now.tells ≡ sink.tells → HasStopped b o sink.tells sink.bytes sink_now.bytes (Err status.Input)
    → IsRefusalWritten sink_now sink_then status.Input name result → HasSaid b o sink sink_then result
said-failed b o sink sink_now sink_then name result alike stopped written = record {
  told = stopped.told;
  rest = stopped.rest;
  end = stopped.end;
  answered = stopped.answered;
  over = λ ok. absurd (elim written [
    | inl starved ↦ (let f : status.Memory ≡ status.Ok = sym starved.starved ∙ ok in cc)
    | inr w ↦ elim w.1 [
      | inl whole ↦ (let f : status.Input ≡ status.Ok = sym whole.same ∙ ok in cc)
      | inr cut ↦ (let f : status.Write ≡ status.Ok = sym cut.failed ∙ ok in cc)
    ]
  ]);
  said = λ t. by (stopped.left t) (subst IsTrue (sym alike) t) written;
}
  where
    ends_as : (s : Status) → result ≡ s → IsSaid s stopped.end stopped.rest sink.bytes (spoken stopped.told) sink_then.bytes
        → IsSaid result stopped.end stopped.rest sink.bytes (spoken stopped.told) sink_then.bytes
    ends_as s same said =
        subst (λ (x : Status). IsSaid x stopped.end stopped.rest sink.bytes (spoken stopped.told) sink_then.bytes) (sym same) said

    by : sink_now.bytes ≡ sink.bytes ++ spoken stopped.told → IsTrue sink_now.tells → IsRefusalWritten sink_now sink_then status.Input name result
        → IsSaid result stopped.end stopped.rest sink.bytes (spoken stopped.told) sink_then.bytes
    by left tells (inl starved) = ends_as status.Memory starved.starved (starved.kept tells ∙ left)
    by left tells (inr w) = elim w.1 [
      | inl whole ↦ ends_as status.Input whole.same (whole.whole tells ∙ ap (λ (xs : List ℕ). xs ++ input_line) left
          ∙ append_assoc sink.bytes (spoken stopped.told) input_line)
      | inr cut ↦ ends_as status.Write cut.failed (record {
        due = input_line;
        is_due = always_due stopped.end stopped.rest;
        front = front_behind sink.bytes sink_now.bytes sink_then.bytes (spoken stopped.told ++ input_line) (spoken stopped.told) input_line refl left
            (cut.front tells);
      })
    ]

-- a count that rose after another time has risen since then
rose_since : (old mid new : ℕ) → old ≤ mid → Rose mid new → Rose old new
rose_since old mid new later rose = elim rose [ inl low ↦ inl (omega (arith, later, low)) | inr most ↦ inr most ]

pub caused-failed : (old mid new : OutputView) (input input_now : InputView) (name : List ℕ) (result : Status) → old.faults ≤ mid.faults
    → Rose input.faults input_now.faults → IsRefusalWritten mid new status.Input name result → IsCausedBy old new input input_now result
caused-failed old mid new input input_now name result later rose written =
    elim written [
      | inl starved ↦ ends_as status.Memory starved.starved tt
      | inr w ↦ elim w.1 [
        | inl whole ↦ ends_as status.Input whole.same rose
        | inr cut ↦ ends_as status.Write cut.failed (rose_since old.faults mid.faults new.faults later cut.rose)
      ]
    ]
  where
    ends_as : (s : Status) → result ≡ s → IsCausedBy old new input input_now s → IsCausedBy old new input input_now result
    ends_as s same caused = subst (λ (x : Status). IsCausedBy old new input input_now x) (sym same) caused
