-- One step more of a conversation with the world of a root. Each lemma goes from where it stands by one call, by a
-- byte, or to its end.
use Rattle.bus_message.proofs.Cited.{◌≡◌, ℕ, zero, suc, ◌+◌, ◌≤◌, true, false, cond, List, [], ◌∷◌, ◌++◌, length, Option, Some, None, refl}
use Rattle.bus_message.proofs.Cited.{sym, ap, ◌∙◌, arith, nat_tests, PortCall, End, World, after, Said, TalkTold, world_listener, with_byte}
use Rattle.bus_message.proofs.Cited.{call_then, cut_of, TellsTalk, Reaches}
use Rattle.std.proofs.Common.{reverse, append_assoc}
use Rattle.std.proofs.lemmas.List.{reverse-append}
use Rattle.i2c_base.specs.declared.port.PortCall.TheVariants as call
use Rattle.i2c_base.specs.declared.entry.End.TheVariants as end
use Rattle.i2c_spec.specs.Conversation.{is_it, say, told}
use Rattle.bus_spec.specs.Legal.{start_failed}
use Rattle.bus_message.specs.Talks.{Stands}

-- a place of failure that is after this one, and this one
not_here : (cut : Option ℕ) (n : ℕ) → ((k : ℕ) → cut ≡ Some k → n + 1 ≤ k) → is_it cut n ≡ false
not_here None n behind = refl
not_here (Some k) n behind = let h = behind k refl in grind (arith, nat_tests)

is_here : (n : ℕ) → is_it (Some n) n ≡ true
is_here n = grind (arith, nat_tests)

-- the place of failure that an end tells
pub cut_after : (e : End) (n : ℕ) → ((q : ℕ) → e ≡ end.Cut q → n ≤ q) → (k : ℕ) → cut_of e ≡ Some k → n ≤ k
cut_after (end.Cut q) n behind k is = let h = behind q refl in let same : q ≡ k = cc in omega arith
cut_after end.Ok n behind k is = absurd (cc)
cut_after end.Nack n behind k is = absurd (cc)
cut_after end.Slow n behind k is = absurd (cc)
cut_after end.Refused n behind k is = absurd (cc)
cut_after end.Proto n behind k is = absurd (cc)

-- where a call after the start failed, the start itself did not
pub started : (e : End) → ((q : ℕ) → e ≡ end.Cut q → 1 ≤ q) → start_failed e ≡ true → ⊥
started (end.Cut zero) behind f = (let low : 1 ≤ 0 = behind 0 refl in omega (arith, low))
started (end.Cut (suc q)) behind f = (let h : false ≡ true = f in cc)
started end.Ok behind f = (let h : false ≡ true = f in cc)
started end.Nack behind f = (let h : false ≡ true = f in cc)
started end.Slow behind f = (let h : false ≡ true = f in cc)
started end.Refused behind f = (let h : false ≡ true = f in cc)
started end.Proto behind f = (let h : false ≡ true = f in cc)

-- what is left, told in another way
pub reaches_same : (whole : TalkTold World) (left next : Said World → TalkTold World) (before : List PortCall) (count : ℕ) (got : List ℕ)
    (w : World) (log : List PortCall)
    → ((s : Said World) → left s ≡ next s)
    → Reaches whole left before count got w log
    → Reaches whole next before count got w log
reaches_same whole left next before count got w log same r =
    record { said = r.said; stands = r.stands; same = r.same ∙ same r.said }

-- a log that ends with a conversation's calls, and one call more
one_more : (s : Said World) (before log : List PortCall) (c : PortCall) → log ≡ before ++ reverse s.calls
    → log ++ c ∷ [] ≡ before ++ reverse (c ∷ s.calls)
one_more s before log c e =
    ap (λ l. l ++ c ∷ []) e ∙ append_assoc before (reverse s.calls) (c ∷ []) ∙ ap (λ l. before ++ l) (sym (reverse-append (c ∷ []) s.calls))

-- what a call leaves
said_more : (s : Said World) (before : List PortCall) (count : ℕ) (got : List ℕ) (w : World) (log : List PortCall) (c : PortCall)
    → Stands s before count got w log
    → Stands (say world_listener s c) before (count + 1) got (after w c) (log ++ c ∷ [])
said_more s before count got w log c at =
    record {
      log = one_more s before log c at.log;
      calls = omega (arith, at.calls);
      bytes = at.bytes;
      now = ap (λ x. after x c) at.now;
    }

-- a call that goes through
call_went : (whole : TalkTold World) (cut : Option ℕ) (c : PortCall) (next : World → Said World → TalkTold World) (before : List PortCall)
    (count : ℕ) (got : List ℕ) (w : World) (log : List PortCall)
    → is_it cut count ≡ false
    → Reaches whole (λ s. call_then world_listener cut s c (next s.now)) before count got w log
    → Reaches whole (next w) before (count + 1) got (after w c) (log ++ c ∷ [])
call_went whole cut c next before count got w log goes r =
    let s : Said World = r.said in
    let test : is_it cut (length s.calls) ≡ false = ap (is_it cut) (sym r.stands.calls) ∙ goes in
    record {
      said = say world_listener s c;
      stands = said_more s before count got w log c r.stands;
      same = r.same
          ∙ ap (λ b. cond b (told (say world_listener s call.Fault) (end.Cut (length s.calls))) (next s.now (say world_listener s c))) test
          ∙ ap (λ x. next x (say world_listener s c)) (sym r.stands.now);
    }

-- a call that fails
call_failed : (whole : TalkTold World) (c : PortCall) (next : World → Said World → TalkTold World) (before : List PortCall) (count : ℕ)
    (got : List ℕ) (w : World) (log : List PortCall)
    → Reaches whole (λ s. call_then world_listener (Some count) s c (next s.now)) before count got w log
    → TellsTalk whole got (end.Cut count) (after w call.Fault) before (log ++ call.Fault ∷ [])
call_failed whole c next before count got w log r =
    let s : Said World = r.said in
    let test : is_it (Some count) (length s.calls) ≡ true = ap (is_it (Some count)) (sym r.stands.calls) ∙ is_here count in
    let same : whole ≡ told (say world_listener s call.Fault) (end.Cut (length s.calls)) =
    r.same ∙ ap (λ b. cond b (told (say world_listener s call.Fault) (end.Cut (length s.calls))) (next s.now (say world_listener s c))) test
    in
    record {
      bytes = r.stands.bytes ∙ ap (λ t. t.bytes) (sym same);
      end = ap end.Cut r.stands.calls ∙ ap (λ t. t.end) (sym same);
      now = ap (λ x. after x call.Fault) r.stands.now ∙ ap (λ t. t.now) (sym same);
      log = one_more s before log call.Fault r.stands.log ∙ ap (λ t. before ++ reverse t.calls) (sym same);
    }

-- a byte more
pub byte_more : (whole : TalkTold World) (left : Said World → TalkTold World) (byte : ℕ) (before : List PortCall) (count : ℕ) (got : List ℕ)
    (w : World) (log : List PortCall)
    → Reaches whole (λ s. left (with_byte s byte)) before count got w log
    → Reaches whole left before count (got ++ byte ∷ []) w log
byte_more whole left byte before count got w log r =
    record {
      said = with_byte r.said byte;
      stands = record { log = r.stands.log; calls = r.stands.calls; bytes = ap (λ bs. bs ++ byte ∷ []) r.stands.bytes; now = r.stands.now };
      same = r.same;
    }

-- a call that went through, with the world and the log that it left
pub went : (whole : TalkTold World) (cut : Option ℕ) (c : PortCall) (next : World → Said World → TalkTold World) (before : List PortCall)
    (count : ℕ) (got : List ℕ) (w w_new : World) (log log_new : List PortCall)
    → ((k : ℕ) → cut ≡ Some k → count + 1 ≤ k) → w_new ≡ after w c → log_new ≡ log ++ c ∷ []
    → Reaches whole (λ s. call_then world_listener cut s c (next s.now)) before count got w log
    → Reaches whole (next w) before (count + 1) got w_new log_new
went whole cut c next before count got w w_new log log_new behind world_is log_is r =
    rw (world_is, log_is) (call_went whole cut c next before count got w log (not_here cut count behind) r)

pub failed : (whole : TalkTold World) (c : PortCall) (next : World → Said World → TalkTold World) (before : List PortCall) (count : ℕ)
    (got : List ℕ) (w w_new : World) (log log_new : List PortCall)
    → w_new ≡ after w call.Fault → log_new ≡ log ++ call.Fault ∷ []
    → Reaches whole (λ s. call_then world_listener (Some count) s c (next s.now)) before count got w log
    → TellsTalk whole got (end.Cut count) w_new before log_new
failed whole c next before count got w w_new log log_new world_is log_is r =
    rw (world_is, log_is) (call_failed whole c next before count got w log r)
