-- The pieces of a message, over the steps of a conversation: its start and what follows it, a byte that is put, a byte
-- that is read, a count. No induction.
use Rattle.bus_message.proofs.Cited.{◌≡◌, ℕ, suc, ◌+◌, ◌-◌, ◌<◌, ◌≤◌, nat_lt, Bool, true, false, cond, List, [], ◌∷◌, ◌++◌, length, get_or}
use Rattle.bus_message.proofs.Cited.{Option, Some, refl, sym, ap, ◌∙◌, arith, nat_tests, count_of, PortCall, MessageView, World, after}
use Rattle.bus_message.proofs.Cited.{has_heard, Said, TalkTold, world_listener, with_byte, call_then, ended, puts, gets, talk, TellsTalk}
use Rattle.bus_message.proofs.Cited.{Reaches, over_limit}
use Rattle.std.proofs.Common.{◌==◌, ◌||◌, drop}
use Rattle.std.proofs.lemmas.List.{at_drop_more, at_drop_all, append-nil}
use Rattle.i2c_base.specs.declared.event.Answer.{Answer}
use Rattle.i2c_base.specs.declared.event.Answer.TheVariants as answer
use Rattle.i2c_base.specs.declared.port.PortCall.TheVariants as call
use Rattle.i2c_base.specs.declared.entry.End.TheVariants as end
use Rattle.i2c_spec.specs.World.{answer as world_answer, takes, gives}
use Rattle.i2c_spec.specs.Conversation.{silence, gets_counted, data_of, by_answer}
use Rattle.bus_message.proofs.TalkLemmas.{reaches_same, byte_more, went, failed}

-- the first of the bytes that are left to put
abbrev put_next : Option ℕ → Bool → List ℕ → ℕ → World → Said World → TalkTold World
put_next cut last rest byte w s =
    cond (takes w byte) (puts world_listener cut last rest (with_byte s byte)) (ended world_listener cut true s end.Refused)

put_opens : (whole : TalkTold World) (cut : Option ℕ) (last : Bool) (bytes : List ℕ) (i byte : ℕ) (before : List PortCall) (count : ℕ)
    (got : List ℕ) (w : World) (log : List PortCall)
    → i < length bytes → byte ≡ get_or bytes i 0
    → Reaches whole (puts world_listener cut last (drop i bytes)) before count got w log
    → Reaches whole (λ s. call_then world_listener cut s (call.Put byte) (put_next cut last (drop (i + 1) bytes) byte s.now)) before count
    got w log
put_opens whole cut last bytes i byte before count got w log within is r =
    reaches_same whole (puts world_listener cut last (drop i bytes))
    (λ s. call_then world_listener cut s (call.Put byte) (put_next cut last (drop (i + 1) bytes) byte s.now)) before count got w log
    (λ s. at_drop_more (λ bs. puts world_listener cut last bs s) bytes i 0 within
    ∙ ap (λ b. puts world_listener cut last (b ∷ drop (i + 1) bytes) s) (sym is)) r

pub put_failed : (whole : TalkTold World) (last : Bool) (bytes : List ℕ) (i byte : ℕ) (before : List PortCall) (count : ℕ) (got : List ℕ)
    (w w_new : World) (log log_new : List PortCall)
    → i < length bytes → byte ≡ get_or bytes i 0
    → w_new ≡ after w call.Fault → log_new ≡ log ++ call.Fault ∷ []
    → Reaches whole (puts world_listener (Some count) last (drop i bytes)) before count got w log
    → TellsTalk whole got (end.Cut count) w_new before log_new
put_failed whole last bytes i byte before count got w w_new log log_new within is world_is log_is r =
    failed whole (call.Put byte) (put_next (Some count) last (drop (i + 1) bytes) byte) before count got w w_new log log_new world_is log_is
    (put_opens whole (Some count) last bytes i byte before count got w log within is r)

pub put_refused : (whole : TalkTold World) (cut : Option ℕ) (last : Bool) (bytes : List ℕ) (i byte : ℕ) (before : List PortCall) (count : ℕ)
    (got : List ℕ) (w w_new : World) (log log_new : List PortCall)
    → i < length bytes → byte ≡ get_or bytes i 0 → false ≡ takes w byte
    → ((k : ℕ) → cut ≡ Some k → count + 1 ≤ k) → w_new ≡ after w (call.Put byte) → log_new ≡ log ++ call.Put byte ∷ []
    → Reaches whole (puts world_listener cut last (drop i bytes)) before count got w log
    → Reaches whole (λ s. ended world_listener cut true s end.Refused) before (count + 1) got w_new log_new
put_refused whole cut last bytes i byte before count got w w_new log log_new within is taken behind world_is log_is r =
    reaches_same whole (put_next cut last (drop (i + 1) bytes) byte w) (λ s. ended world_listener cut true s end.Refused) before
    (count + 1) got w_new log_new
    (λ s. ap (λ b. cond b (puts world_listener cut last (drop (i + 1) bytes) (with_byte s byte))
    (ended world_listener cut true s end.Refused)) (sym taken))
    (went whole cut (call.Put byte)
    (put_next cut last (drop (i + 1) bytes) byte) before count got w w_new log log_new behind world_is log_is
    (put_opens whole cut last bytes i byte before count got w log within is r))

pub put_taken : (whole : TalkTold World) (cut : Option ℕ) (last : Bool) (bytes : List ℕ) (i byte : ℕ) (before : List PortCall) (count : ℕ)
    (got : List ℕ) (w w_new : World) (log log_new : List PortCall)
    → i < length bytes → byte ≡ get_or bytes i 0 → true ≡ takes w byte
    → ((k : ℕ) → cut ≡ Some k → count + 1 ≤ k) → w_new ≡ after w (call.Put byte) → log_new ≡ log ++ call.Put byte ∷ []
    → Reaches whole (puts world_listener cut last (drop i bytes)) before count got w log
    → Reaches whole (puts world_listener cut last (drop (i + 1) bytes)) before (count + 1) (got ++ byte ∷ []) w_new log_new
put_taken whole cut last bytes i byte before count got w w_new log log_new within is taken behind world_is log_is r =
    byte_more whole (puts world_listener cut last (drop (i + 1) bytes)) byte before (count + 1) got w_new log_new
    (reaches_same whole (put_next cut last (drop (i + 1) bytes) byte w)
    (λ s. puts world_listener cut last (drop (i + 1) bytes) (with_byte s byte)) before (count + 1) got w_new log_new
    (λ s. ap (λ b. cond b (puts world_listener cut last (drop (i + 1) bytes) (with_byte s byte))
    (ended world_listener cut true s end.Refused)) (sym taken))
    (went whole cut (call.Put byte)
    (put_next cut last (drop (i + 1) bytes) byte) before count got w w_new log log_new behind world_is log_is
    (put_opens whole cut last bytes i byte before count got w log within is r)))

pub put_done : (whole : TalkTold World) (cut : Option ℕ) (last : Bool) (bytes : List ℕ) (i : ℕ) (before : List PortCall) (count : ℕ)
    (got : List ℕ) (w : World) (log : List PortCall)
    → length bytes ≤ i
    → Reaches whole (puts world_listener cut last (drop i bytes)) before count got w log
    → Reaches whole (λ s. ended world_listener cut last s end.Ok) before count got w log
put_done whole cut last bytes i before count got w log past r =
    reaches_same whole (puts world_listener cut last (drop i bytes)) (λ s. ended world_listener cut last s end.Ok) before count got w log
    (λ s. at_drop_all (λ bs. puts world_listener cut last bs s) bytes i past) r

-- the first of the bytes that are left to get
abbrev get_next : Option ℕ → Bool → ℕ → World → Said World → TalkTold World
get_next cut last rest w s = gets world_listener cut last rest (with_byte s (gives w))

get_opens : (whole : TalkTold World) (cut : Option ℕ) (last : Bool) (left rest : ℕ) (ack : Bool) (before : List PortCall) (count : ℕ)
    (got : List ℕ) (w : World) (log : List PortCall)
    → left ≡ suc rest → ack ≡ nat_lt 0 rest
    → Reaches whole (gets world_listener cut last left) before count got w log
    → Reaches whole (λ s. call_then world_listener cut s (call.Get ack) (get_next cut last rest s.now)) before count got w log
get_opens whole cut last left rest ack before count got w log is acked r =
    reaches_same whole (gets world_listener cut last left)
    (λ s. call_then world_listener cut s (call.Get ack) (get_next cut last rest s.now)) before count got w log
    (λ s. ap (λ n. gets world_listener cut last n s) is
    ∙ ap (λ a. call_then world_listener cut s (call.Get a) (get_next cut last rest s.now)) (sym acked)) r

pub get_failed : (whole : TalkTold World) (last : Bool) (left rest : ℕ) (before : List PortCall) (count : ℕ) (got : List ℕ)
    (w w_new : World) (log log_new : List PortCall)
    → left ≡ suc rest → w_new ≡ after w call.Fault → log_new ≡ log ++ call.Fault ∷ []
    → Reaches whole (gets world_listener (Some count) last left) before count got w log
    → TellsTalk whole got (end.Cut count) w_new before log_new
get_failed whole last left rest before count got w w_new log log_new is world_is log_is r =
    failed whole (call.Get (nat_lt 0 rest)) (get_next (Some count) last rest) before count got w w_new log log_new world_is log_is
    (get_opens whole (Some count) last left rest (nat_lt 0 rest) before count got w log is refl r)

pub get_went : (whole : TalkTold World) (cut : Option ℕ) (last : Bool) (left rest byte : ℕ) (ack : Bool) (before : List PortCall)
    (count : ℕ) (got : List ℕ) (w w_new : World) (log log_new : List PortCall)
    → left ≡ suc rest → ack ≡ nat_lt 0 rest → byte ≡ gives w
    → ((k : ℕ) → cut ≡ Some k → count + 1 ≤ k) → w_new ≡ after w (call.Get ack) → log_new ≡ log ++ call.Get ack ∷ []
    → Reaches whole (gets world_listener cut last left) before count got w log
    → Reaches whole (gets world_listener cut last rest) before (count + 1) (got ++ byte ∷ []) w_new log_new
get_went whole cut last left rest byte ack before count got w w_new log log_new is acked given behind world_is log_is r =
    byte_more whole (gets world_listener cut last rest) byte before (count + 1) got w_new log_new
    (reaches_same whole (get_next cut last rest w) (λ s. gets world_listener cut last rest (with_byte s byte)) before
    (count + 1) got w_new log_new
    (λ s. ap (λ b. gets world_listener cut last rest (with_byte s b)) (sym given))
    (went whole cut (call.Get ack) (get_next cut last rest) before count got w w_new log log_new behind world_is log_is
    (get_opens whole cut last left rest ack before count got w log is acked r)))

pub get_done : (whole : TalkTold World) (cut : Option ℕ) (last : Bool) (left : ℕ) (before : List PortCall) (count n : ℕ) (got : List ℕ)
    (w : World) (log : List PortCall)
    → left ≡ 0 → n ≡ count
    → Reaches whole (gets world_listener cut last left) before count got w log
    → Reaches whole (λ s. ended world_listener cut last s end.Ok) before n got w log
get_done whole cut last left before count n got w log none same r =
    rw same (reaches_same whole (gets world_listener cut last left) (λ s. ended world_listener cut last s end.Ok) before count got w log
    (λ s. ap (λ k. gets world_listener cut last k s) none) r)

-- a byte is acknowledged where more are to come
pub acknowledges : (i len : ℕ) → nat_lt (i + 1) len ≡ nat_lt 0 (len - (i + 1))
acknowledges i len = grind (arith, nat_tests)

-- a counted read: its count, and what follows
abbrev counted_goes : Option ℕ → Bool → ℕ → ℕ → ℕ → Said World → TalkTold World
counted_goes cut last limit len byte s =
    cond ((byte == 0) || nat_lt limit byte) (over_limit cut (with_byte s byte))
    (gets world_listener cut last (byte + len - 1) (with_byte s byte))

abbrev counted_next : Option ℕ → Bool → ℕ → ℕ → World → Said World → TalkTold World
counted_next cut last limit len w s = counted_goes cut last limit len (gives w) s

count_came : (whole : TalkTold World) (cut : Option ℕ) (last : Bool) (limit len byte : ℕ) (next : Said World → TalkTold World)
    (before : List PortCall) (count : ℕ) (got : List ℕ) (w w_new : World) (log log_new : List PortCall)
    → byte ≡ gives w → ((s : Said World) → counted_goes cut last limit len byte s ≡ next (with_byte s byte))
    → ((k : ℕ) → cut ≡ Some k → count + 1 ≤ k) → w_new ≡ after w (call.Get true) → log_new ≡ log ++ call.Get true ∷ []
    → Reaches whole (gets_counted world_listener cut last limit len) before count got w log
    → Reaches whole next before (count + 1) (got ++ byte ∷ []) w_new log_new
count_came whole cut last limit len byte next before count got w w_new log log_new given goes behind world_is log_is r =
    byte_more whole next byte before (count + 1) got w_new log_new
    (reaches_same whole (counted_next cut last limit len w) (λ s. next (with_byte s byte)) before (count + 1) got w_new log_new
    (λ s. ap (λ b. counted_goes cut last limit len b s) (sym given) ∙ goes s)
    (went whole cut (call.Get true) (counted_next cut last limit len) before count got w w_new log log_new behind world_is log_is r))

pub count_failed : (whole : TalkTold World) (last : Bool) (limit len : ℕ) (before : List PortCall) (count : ℕ) (got : List ℕ)
    (w w_new : World) (log log_new : List PortCall)
    → w_new ≡ after w call.Fault → log_new ≡ log ++ call.Fault ∷ []
    → Reaches whole (gets_counted world_listener (Some count) last limit len) before count got w log
    → TellsTalk whole got (end.Cut count) w_new before log_new
count_failed whole last limit len before count got w w_new log log_new world_is log_is r =
    failed whole (call.Get true) (counted_next (Some count) last limit len) before count got w w_new log log_new world_is log_is r

pub count_over : (whole : TalkTold World) (cut : Option ℕ) (last : Bool) (limit len byte : ℕ) (before : List PortCall) (count : ℕ)
    (got : List ℕ) (w w_new : World) (log log_new : List PortCall)
    → byte ≡ gives w → ((byte == 0) || nat_lt limit byte) ≡ true
    → ((k : ℕ) → cut ≡ Some k → count + 1 ≤ k) → w_new ≡ after w (call.Get true) → log_new ≡ log ++ call.Get true ∷ []
    → Reaches whole (gets_counted world_listener cut last limit len) before count got w log
    → Reaches whole (over_limit cut) before (count + 1) (got ++ byte ∷ []) w_new log_new
count_over whole cut last limit len byte before count got w w_new log log_new given over behind world_is log_is r =
    count_came whole cut last limit len byte (over_limit cut) before count got w w_new log log_new given
    (λ s. ap (λ c. cond c (over_limit cut (with_byte s byte)) (gets world_listener cut last (byte + len - 1) (with_byte s byte))) over)
    behind world_is log_is r

pub count_within : (whole : TalkTold World) (cut : Option ℕ) (last : Bool) (limit len byte rest : ℕ) (before : List PortCall) (count : ℕ)
    (got : List ℕ) (w w_new : World) (log log_new : List PortCall)
    → byte ≡ gives w → ((byte == 0) || nat_lt limit byte) ≡ false → rest ≡ byte + len - 1
    → ((k : ℕ) → cut ≡ Some k → count + 1 ≤ k) → w_new ≡ after w (call.Get true) → log_new ≡ log ++ call.Get true ∷ []
    → Reaches whole (gets_counted world_listener cut last limit len) before count got w log
    → Reaches whole (gets world_listener cut last rest) before (count + 1) (got ++ byte ∷ []) w_new log_new
count_within whole cut last limit len byte rest before count got w w_new log log_new given over rest_is behind world_is log_is r =
    count_came whole cut last limit len byte (gets world_listener cut last rest) before count got w w_new log log_new given
    (λ s. ap (λ c. cond c (over_limit cut (with_byte s byte)) (gets world_listener cut last (byte + len - 1) (with_byte s byte))) over
    ∙ ap (λ n. gets world_listener cut last n (with_byte s byte)) (sym rest_is))
    behind world_is log_is r

-- the byte after a count that no block has
abbrev over_next : Option ℕ → World → Said World → TalkTold World
over_next cut w s = ended world_listener cut true (with_byte s (gives w)) end.Proto

pub over_failed : (whole : TalkTold World) (before : List PortCall) (count : ℕ) (got : List ℕ) (w w_new : World)
    (log log_new : List PortCall)
    → w_new ≡ after w call.Fault → log_new ≡ log ++ call.Fault ∷ []
    → Reaches whole (over_limit (Some count)) before count got w log
    → TellsTalk whole got (end.Cut count) w_new before log_new
over_failed whole before count got w w_new log log_new world_is log_is r =
    failed whole (call.Get false) (over_next (Some count)) before count got w w_new log log_new world_is log_is r

pub over_went : (whole : TalkTold World) (cut : Option ℕ) (byte : ℕ) (before : List PortCall) (count : ℕ) (got : List ℕ) (w w_new : World)
    (log log_new : List PortCall)
    → byte ≡ gives w
    → ((k : ℕ) → cut ≡ Some k → count + 1 ≤ k) → w_new ≡ after w (call.Get false) → log_new ≡ log ++ call.Get false ∷ []
    → Reaches whole (over_limit cut) before count got w log
    → Reaches whole (λ s. ended world_listener cut true s end.Proto) before (count + 1) (got ++ byte ∷ []) w_new log_new
over_went whole cut byte before count got w w_new log log_new given behind world_is log_is r =
    byte_more whole (λ s. ended world_listener cut true s end.Proto) byte before (count + 1) got w_new log_new
    (reaches_same whole (over_next cut w) (λ s. ended world_listener cut true (with_byte s byte) end.Proto) before
    (count + 1) got w_new log_new
    (λ s. ap (λ b. ended world_listener cut true (with_byte s b) end.Proto) (sym given))
    (went whole cut (call.Get false) (over_next cut) before count got w w_new log log_new behind world_is log_is r))

-- the data of a message: a write, a counted read, a plain one
abbrev data_by : Option ℕ → Bool → ℕ → MessageView → Bool → Bool → Said World → TalkTold World
data_by cut last limit m reading counted s =
    cond reading (cond counted (gets_counted world_listener cut last limit m.len s) (gets world_listener cut last m.len s))
    (puts world_listener cut last m.bytes s)

pub data_written : (whole : TalkTold World) (cut : Option ℕ) (last : Bool) (limit : ℕ) (m : MessageView) (bytes : List ℕ)
    (before : List PortCall) (count : ℕ) (got : List ℕ) (w : World) (log : List PortCall)
    → m.reading ≡ false → m.bytes ≡ bytes
    → Reaches whole (data_of world_listener cut last limit m) before count got w log
    → Reaches whole (puts world_listener cut last bytes) before count got w log
data_written whole cut last limit m bytes before count got w log writing holds r =
    reaches_same whole (data_of world_listener cut last limit m) (puts world_listener cut last bytes) before count got w log
    (λ s. ap (λ b. data_by cut last limit m b m.counted s) writing ∙ ap (λ bs. puts world_listener cut last bs s) holds) r

pub data_counted : (whole : TalkTold World) (cut : Option ℕ) (last : Bool) (limit : ℕ) (m : MessageView) (len : ℕ) (before : List PortCall)
    (count : ℕ) (got : List ℕ) (w : World) (log : List PortCall)
    → m.reading ≡ true → m.counted ≡ true → m.len ≡ len
    → Reaches whole (data_of world_listener cut last limit m) before count got w log
    → Reaches whole (gets_counted world_listener cut last limit len) before count got w log
data_counted whole cut last limit m len before count got w log reading counted asks r =
    reaches_same whole (data_of world_listener cut last limit m) (gets_counted world_listener cut last limit len) before count got w log
    (λ s. ap (λ b. data_by cut last limit m b m.counted s) reading ∙ ap (λ b. data_by cut last limit m true b s) counted
    ∙ ap (λ n. gets_counted world_listener cut last limit n s) asks) r

pub data_read : (whole : TalkTold World) (cut : Option ℕ) (last : Bool) (limit : ℕ) (m : MessageView) (len : ℕ) (before : List PortCall)
    (count : ℕ) (got : List ℕ) (w : World) (log : List PortCall)
    → m.reading ≡ true → m.counted ≡ false → m.len ≡ len
    → Reaches whole (data_of world_listener cut last limit m) before count got w log
    → Reaches whole (gets world_listener cut last len) before count got w log
data_read whole cut last limit m len before count got w log reading uncounted asks r =
    reaches_same whole (data_of world_listener cut last limit m) (gets world_listener cut last len) before count got w log
    (λ s. ap (λ b. data_by cut last limit m b m.counted s) reading ∙ ap (λ b. data_by cut last limit m true b s) uncounted
    ∙ ap (λ n. gets world_listener cut last n s) asks) r

-- the count that came stays first
pub count_stays : (xs ys : List ℕ) → 0 < length xs → count_of (xs ++ ys) ≡ count_of xs
count_stays [] ys h = absurd (omega (arith, h))
count_stays (x ∷ xs) ys h = refl

-- what follows a start: its data, or a stop
pub begins_data : (whole : TalkTold World) (cut : Option ℕ) (last : Bool) (limit : ℕ) (m : MessageView) (a : Answer)
    (before : List PortCall) (count : ℕ) (got : List ℕ) (w : World) (log : List PortCall)
    → a ≡ answer.Ack
    → Reaches whole (by_answer world_listener cut last limit m a) before count got w log
    → Reaches whole (data_of world_listener cut last limit m) before count got w log
begins_data whole cut last limit m a before count got w log acked r =
    reaches_same whole (by_answer world_listener cut last limit m a) (data_of world_listener cut last limit m) before count got w log
    (λ s. ap (λ x. by_answer world_listener cut last limit m x s) acked) r

pub begins_slow : (whole : TalkTold World) (cut : Option ℕ) (last : Bool) (limit : ℕ) (m : MessageView) (a : Answer)
    (before : List PortCall) (count : ℕ) (got none : List ℕ) (w : World) (log : List PortCall)
    → a ≡ answer.Slow → none ≡ got
    → Reaches whole (by_answer world_listener cut last limit m a) before count got w log
    → Reaches whole (λ s. ended world_listener cut true s end.Slow) before count none w log
begins_slow whole cut last limit m a before count got none w log slow empty r =
    rw empty (reaches_same whole (by_answer world_listener cut last limit m a)
    (λ s. ended world_listener cut true s end.Slow) before count got w log
    (λ s. ap (λ x. by_answer world_listener cut last limit m x s) slow) r)

-- neither acknowledged nor held
is_unheard : (cut : Option ℕ) (last : Bool) (limit : ℕ) (m : MessageView) (a : Answer) (s : Said World)
    → (a ≡ answer.Ack → ⊥) → (a ≡ answer.Slow → ⊥)
    → by_answer world_listener cut last limit m a s ≡ ended world_listener cut true s end.Nack
is_unheard cut last limit m answer.Ack s not_acked not_slow = absurd (not_acked refl)
is_unheard cut last limit m answer.Slow s not_acked not_slow = absurd (not_slow refl)
is_unheard cut last limit m answer.Nack s not_acked not_slow = refl
is_unheard cut last limit m (answer.Byte byte) s not_acked not_slow = refl
is_unheard cut last limit m answer.Nothing s not_acked not_slow = refl

pub unheard : (a : Answer) → (a ≡ answer.Ack → ⊥) → (a ≡ answer.Slow → ⊥) → has_heard a ≡ false
unheard answer.Ack not_acked not_slow = absurd (not_acked refl)
unheard answer.Slow not_acked not_slow = absurd (not_slow refl)
unheard answer.Nack not_acked not_slow = refl
unheard (answer.Byte byte) not_acked not_slow = refl
unheard answer.Nothing not_acked not_slow = refl

pub begins_unheard : (whole : TalkTold World) (cut : Option ℕ) (last : Bool) (limit : ℕ) (m : MessageView) (a : Answer)
    (before : List PortCall) (count : ℕ) (got none : List ℕ) (w : World) (log : List PortCall)
    → (a ≡ answer.Ack → ⊥) → (a ≡ answer.Slow → ⊥) → none ≡ got
    → Reaches whole (by_answer world_listener cut last limit m a) before count got w log
    → Reaches whole (λ s. ended world_listener cut true s end.Nack) before count none w log
begins_unheard whole cut last limit m a before count got none w log not_acked not_slow empty r =
    rw empty (reaches_same whole (by_answer world_listener cut last limit m a)
    (λ s. ended world_listener cut true s end.Nack) before count got w log
    (λ s. is_unheard cut last limit m a s not_acked not_slow) r)

-- a message begins with its start
starts_so : (limit : ℕ) (m : MessageView) (last : Bool) (cut : Option ℕ) (a : Answer) (w w_new : World) (log log_new : List PortCall)
    → ((k : ℕ) → cut ≡ Some k → 1 ≤ k) → a ≡ world_answer w m.addr m.reading
    → w_new ≡ after w (call.Start m.addr m.reading) → log_new ≡ log ++ call.Start m.addr m.reading ∷ []
    → Reaches (talk world_listener limit w m last cut) (by_answer world_listener cut last limit m a) log 1 [] w_new log_new
starts_so limit m last cut a w w_new log log_new behind is world_is log_is =
    let whole : TalkTold World = talk world_listener limit w m last cut in
    let next : World → Said World → TalkTold World = λ x. by_answer world_listener cut last limit m (world_answer x m.addr m.reading) in
    reaches_same whole (next w) (by_answer world_listener cut last limit m a) log 1 [] w_new log_new
    (λ s. ap (λ x. by_answer world_listener cut last limit m x s) (sym is))
    (went whole cut (call.Start m.addr m.reading) next log 0 [] w w_new log log_new behind world_is log_is
    (record { said = silence w; stands = record { log = sym (append-nil log); calls = refl; bytes = refl; now = refl }; same = refl }))

pub starts : (limit : ℕ) (m : MessageView) (addr : ℕ) (reading last : Bool) (cut : Option ℕ) (a : Answer) (w w_new : World)
    (log log_new : List PortCall)
    → addr ≡ m.addr → reading ≡ m.reading
    → ((k : ℕ) → cut ≡ Some k → 1 ≤ k) → a ≡ world_answer w addr reading
    → w_new ≡ after w (call.Start addr reading) → log_new ≡ log ++ call.Start addr reading ∷ []
    → Reaches (talk world_listener limit w m last cut) (by_answer world_listener cut last limit m a) log 1 [] w_new log_new
starts limit m addr reading last cut a w w_new log log_new to_addr in_direction behind is world_is log_is =
    let start : call.Start addr reading ≡ call.Start m.addr m.reading = cc in
    starts_so limit m last cut a w w_new log log_new behind
    (is ∙ ap (λ x. world_answer w x reading) to_addr ∙ ap (world_answer w m.addr) in_direction)
    (world_is ∙ ap (after w) start) (log_is ∙ ap (λ x. log ++ x ∷ []) start)
