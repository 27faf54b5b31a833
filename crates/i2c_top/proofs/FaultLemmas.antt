-- A port that counted each fault of its log did so of one call more. The inductions go over the calls.
use Rattle.i2c_top.proofs.Cited.{◌≡◌, ℕ, ◌+◌, ◌<◌, ◌≤◌, inl, inr, false, List, [], ◌∷◌, ◌++◌, length, Result, Ok, Err, sym, ap, subst}
use Rattle.i2c_top.proofs.Cited.{arith, OnOk, length-append, PortCall, MOST_CALLS, Rose, faults_in}
use Rattle.std.specs.Prelude.{OnErr}
use Rattle.i2c_base.specs.declared.port.PortCall.TheVariants as call
use Rattle.ports.specs.Causes.{HasCause, MOST}
use Rattle.bus_spec.specs.Faults.{count_if, is_fault}

pub faults-append : (xs ys : List PortCall) → faults_in (xs ++ ys) ≡ faults_in xs + faults_in ys
faults-append [] ys = omega arith
faults-append (c ∷ cs) ys = (let rest : faults_in (cs ++ ys) ≡ faults_in cs + faults_in ys = faults-append cs ys in omega (arith, rest))

at-most-one : (c : PortCall) → count_if (is_fault c) ≤ 1
at-most-one call.Fault = omega arith
at-most-one (call.Start addr reading) = omega arith
at-most-one (call.Put byte) = omega arith
at-most-one (call.Get ack) = omega arith
at-most-one call.Stop = omega arith
at-most-one (call.Line mux level) = omega arith

faults-few : (xs : List PortCall) → faults_in xs ≤ length xs
faults-few [] = omega arith
faults-few (c ∷ cs) = (let one = at-most-one c in let rest : faults_in cs ≤ length cs = faults-few cs in omega (arith, one, rest))

-- the log has room, so that a count which stands at its end is above all faults of it
most-calls : MOST_CALLS ≤ MOST
most-calls = omega arith

module _ (log log_now : List PortCall) (n m : ℕ) (counted : faults_in log ≤ n) (later : n ≤ m) where
  done : (c : PortCall) → is_fault c ≡ false → log_now ≡ log ++ c ∷ [] → faults_in log_now ≤ m
  done c none same =
      let sum : faults_in (log ++ c ∷ []) ≡ faults_in log + faults_in (c ∷ []) = faults-append log (c ∷ []) in
      let zero : count_if (is_fault c) ≡ 0 = ap count_if none in
      subst (λ (cs : List PortCall). faults_in cs ≤ m) (sym same) (omega (arith, sum, zero, counted, later))

  failed : length log < MOST_CALLS → Rose n m → log_now ≡ log ++ call.Fault ∷ [] → faults_in log_now ≤ m
  failed room (inl more) same =
      let sum : faults_in (log ++ call.Fault ∷ []) ≡ faults_in log + 1 = faults-append log (call.Fault ∷ []) in
      subst (λ (cs : List PortCall). faults_in cs ≤ m) (sym same) (omega (arith, sum, counted, more))
  failed room (inr most) same =
      let few = faults-few (log ++ call.Fault ∷ []) in
      let long : length (log ++ call.Fault ∷ []) ≡ length log + 1 = length-append log (call.Fault ∷ []) in
      subst (λ (cs : List PortCall). faults_in cs ≤ m) (sym same) (omega (arith, few, long, room, most, most-calls))

  -- THE CALL, whatever came of it
  pub call-counted : {T E : Type 0} (r : Result T E) (c : PortCall) → is_fault c ≡ false → length log < MOST_CALLS → HasCause n m r
      → OnOk r (log_now ≡ log ++ c ∷ []) → OnErr r (log_now ≡ log ++ call.Fault ∷ []) → faults_in log_now ≤ m
  call-counted (Ok x) c none room cause ok err = done c none ok
  call-counted (Err e) c none room cause ok err = failed room cause err
