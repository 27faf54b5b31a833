-- Whom a message will reach that comes next. The inductions go over lists of answers.
use Rattle.bus_laws.proofs.Cited.{◌≡◌, ℕ, ◌<◌, Bool, true, false, not, ◌||◌, cond, List, [], ◌∷◌, ◌++◌, Option, Some, None, refl, sym, ◌∙◌}
use Rattle.bus_laws.proofs.Cited.{ap, subst, ltb-true, is_some, slice_get, option_map_or, Answer, Entry, Node, BoardView, buses, root_of}
use Rattle.bus_laws.proofs.Cited.{is_absent, IsTree, IsPlainBoard, TargetState, state_answer, MessageView, World, is_ack, is_slow}
use Rattle.bus_laws.proofs.Cited.{has_heard, start_chips, start_devices, heard_of, hearers, some_answer, answer_of, granted_on, Asks, Job}
use Rattle.bus_laws.proofs.Cited.{Call, Send, job_bus, job_purpose, message_of, now, IsNext, IsStepwise, heard_list, starts, LinesAreLocked}
use Rattle.bus_laws.proofs.Cited.{AsksForMessages, listening, LeadsTo}
use Rattle.i2c_base.specs.declared.event.Event.TheVariants as event
use Rattle.i2c_base.specs.declared.event.Answer.TheVariants as answer
use Rattle.i2c_base.specs.declared.entry.Purpose.TheVariants as purpose
use Rattle.i2c_base.specs.declared.ids.Node.TheVariants as node
use Rattle.i2c_spec.specs.World.{answer as world_answer}
use Rattle.i2c_spec.specs.Conversation.{is_empty}
use Rattle.bus_laws.specs.Next.{heard_where, who_hears, WillReach, chip_where, WillSwitch}
use Rattle.bus_laws.proofs.world.Feed.{some_answer-append}
use Rattle.bus_laws.proofs.device.Reach.{leads-hearers}
use Rattle.bus_laws.proofs.device.Past.{CallNext, call-next, control-next}
use Rattle.bus_laws.proofs.tree.Law.{refusal-none}

-- THE ANSWER OF A START tells whether somebody hears it
mixed : (p q x y : Bool) → ((p || q) || (x || y)) ≡ ((q || x) || (p || y))
mixed true true x y = refl
mixed true false true y = refl
mixed true false false y = refl
mixed false true x y = refl
mixed false false x y = refl

-- who hears answers Slow or Ack
some_heard : (xs : List (ℕ × Answer)) → some_answer has_heard xs ≡ (some_answer is_slow xs || some_answer is_ack xs)
some_heard [] = refl
some_heard (x ∷ xs) =
    ap (λ (t : Bool). has_heard x.1 || t) (some_heard xs)
    ∙ mixed (is_ack x.1) (is_slow x.1) (some_answer is_slow xs) (some_answer is_ack xs)

some_listed : (name : ℕ → Node) (xs : List (ℕ × Answer)) → some_answer has_heard xs ≡ not (is_empty (heard_of name xs))
some_listed name [] = refl
some_listed name (x ∷ xs) = by (has_heard x.1) (some_listed name xs)
  where
    by : (t : Bool) → some_answer has_heard xs ≡ not (is_empty (heard_of name xs))
        → (t || some_answer has_heard xs) ≡ not (is_empty (cond t (name x.0 ∷ heard_of name xs) (heard_of name xs)))
    by true more = refl
    by false more = more

joined_lists : {X : Type 0} (xs ys : List X) → not (is_empty (xs ++ ys)) ≡ (not (is_empty xs) || not (is_empty ys))
joined_lists [] ys = refl
joined_lists (x ∷ xs) ys = refl

by_tests : (slow ack : Bool) → has_heard (cond slow answer.Slow (cond ack answer.Ack answer.Nack)) ≡ (slow || ack)
by_tests true ack = refl
by_tests false true = refl
by_tests false false = refl

pub answer-heard : (w : World) (a : ℕ) (reading : Bool) → has_heard (world_answer w a reading) ≡ not (is_empty (hearers w a reading))
answer-heard w a reading =
    by_tests (some_answer is_slow (start_chips w a reading ++ start_devices w a reading))
    (some_answer is_ack (start_chips w a reading ++ start_devices w a reading))
    ∙ sym (some_heard (start_chips w a reading ++ start_devices w a reading))
    ∙ some_answer-append has_heard (start_chips w a reading) (start_devices w a reading)
    ∙ ap (λ (t : Bool). t || some_answer has_heard (start_devices w a reading)) (some_listed node.Chip (start_chips w a reading))
    ∙ ap (λ (t : Bool). not (is_empty (heard_of node.Chip (start_chips w a reading))) || t)
    (some_listed node.Device (start_devices w a reading))
    ∙ sym (joined_lists (heard_of node.Chip (start_chips w a reading)) (heard_of node.Device (start_devices w a reading)))

-- WHO HEARS, where an address leads to one device
either : (d : ℕ) (t : Bool) → listening (cond t (Some d) None) ≡ heard_list (cond t (Some (node.Device d)) None)
either d true = refl
either d false = refl

listed_at : (reading : Bool) (d : ℕ) (o : Option TargetState)
    → listening (cond (has_heard (option_map_or (λ (x : TargetState). state_answer x (event.Start reading)) o answer.Nothing))
    (Some d) None)
    ≡ heard_list (cond (starts o reading) (Some (node.Device d)) None)
listed_at reading d None = refl
listed_at reading d (Some x) = either d (has_heard (state_answer x (event.Start reading)))

listed : (w : World) (reading : Bool) (o : Option ℕ)
    → listening (cond (has_heard (answer_of w.devices o (event.Start reading))) o None) ≡ heard_list (heard_where w reading o)
listed w reading None = refl
listed w reading (Some d) = listed_at reading d (slice_get w.devices d)

some_list : (o : Option Node) → not (is_empty (heard_list o)) ≡ is_some o
some_list None = refl
some_list (Some x) = refl

heard_next : (b : BoardView) (w : World) (bus : ℕ) (force : Bool) (addr : ℕ) (reading : Bool) → LeadsTo w addr (granted_on b bus force addr)
    → hearers w addr reading ≡ heard_list (who_hears b w bus force addr reading)
heard_next b w bus force addr reading leads =
    leads-hearers w addr (granted_on b bus force addr) leads reading ∙ listed w reading (granted_on b bus force addr)

answered_next : (w : World) (addr : ℕ) (reading : Bool) (o : Option Node) → hearers w addr reading ≡ heard_list o
    → has_heard (world_answer w addr reading) ≡ is_some o
answered_next w addr reading o heard = answer-heard w addr reading ∙ ap (λ (xs : List Node). not (is_empty xs)) heard ∙ some_list o

-- THE NEXT MESSAGE
pub call-reaches : (b : BoardView) → IsTree b → IsPlainBoard b → LinesAreLocked b → (asks : Asks) → AsksForMessages asks
    → (callers : ℕ) (past : List Entry) → IsStepwise b callers asks past
    → (c bus : ℕ) (messages : List MessageView) (left : ℕ) → IsNext b asks (now b asks past) c (Send (Call bus messages) left)
    → WillReach b asks (now b asks past) c bus messages left
call-reaches b tree plain lines asks some callers past steps c bus messages left first =
    let told : CallNext b asks (now b asks past) c bus messages left =
    call-next b tree plain lines asks some callers past steps c bus messages left first in
    let m : MessageView = message_of b (Call bus messages) left in
    let w : World = (now b asks past).worlds (root_of b bus) in
    let heard : hearers w m.addr m.reading ≡ heard_list (who_hears b w bus told.whose.force m.addr m.reading) =
    heard_next b w bus told.whose.force m.addr m.reading told.leads in
    record {
      transfer = told.whose;
      asked = told.asked;
      on_bus = sym told.call.same_bus;
      whole = sym told.call.same_messages;
      not_refused = told.call.not_refused;
      there = subst (λ (s : ℕ). s < buses b) (sym told.call.same_bus)
          (ltb-true told.whose.bus (buses b) (refusal-none b told.whose told.call.not_refused).0);
      heard = heard;
      answered = answered_next w m.addr m.reading (who_hears b w bus told.whose.force m.addr m.reading) heard;
    }

-- THE NEXT CONTROL MESSAGE
chip_list : (m : ℕ) (absent : Bool) → cond (not absent) (node.Chip m ∷ []) [] ≡ heard_list (cond absent None (Some (node.Chip m)))
chip_list m true = refl
chip_list m false = refl

pub control-switches : (b : BoardView) → IsTree b → IsPlainBoard b → LinesAreLocked b → (asks : Asks) → AsksForMessages asks
    → (callers : ℕ) (past : List Entry) → IsStepwise b callers asks past
    → (c : ℕ) (job : Job) (left m : ℕ) → job_purpose job ≡ purpose.Control m → IsNext b asks (now b asks past) c (Send job left)
    → WillSwitch b (now b asks past) job left m
control-switches b tree plain lines asks some callers past steps c job left m is first =
    let told = control-next b tree plain lines asks some callers past steps c job left m is first in
    let a : MessageView = message_of b job left in
    let w : World = (now b asks past).worlds (root_of b (job_bus job)) in
    let heard : hearers w a.addr a.reading ≡ heard_list (chip_where b m) = told.1 ∙ chip_list m (is_absent b m) in
    record { addressed = told.0; heard = heard; answered = answered_next w a.addr a.reading (chip_where b m) heard }
