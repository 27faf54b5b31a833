-- A message, a line step and the settle after them keep what is told of all. No induction.
use Rattle.core_laws.proofs.Cited.{◌≡◌, ℕ, zero, suc, ◌+◌, ◌<◌, ◌≤◌, Bool, false, cond, List, [], ◌∷◌, ◌++◌, length, set, Option, Some}
use Rattle.core_laws.proofs.Cited.{None, refl, sym, ◌∙◌, ap, subst, inl, inr, arith, slice_get, slice_index_or, is_some, eqb_tells}
use Rattle.core_laws.proofs.Cited.{leb_tells, append-nil, get_or_past, Errno, Entry, Purpose, PortCall, Reply, BoardView, TransferView}
use Rattle.core_laws.proofs.Cited.{buses, root_of, IsTree, IsPlainBoard, MessageView, messages_of, World, hearers, has_heard, answer}
use Rattle.core_laws.proofs.Cited.{block_limit, Asks, changed_at, Job, Call, Select, SwitchOff, off_mux, Act, Take, Free, Send, Shift}
use Rattle.core_laws.proofs.Cited.{Settle, ActOutcome, Passed, Sent, Lined, WalkTree, Ends, Look, Then, job_bus, job_purpose, message_of}
use Rattle.core_laws.proofs.Cited.{is_last, line_mux, line_level, Slots, mark_in, after_job, seen, is_over, first_act, first_note, rest_of}
use Rattle.core_laws.proofs.Cited.{cut_told, message_cut, Now, current, now, step, line_call, is_due, got_after, IsNext, IsStepwise}
use Rattle.core_laws.proofs.Cited.{reply_by, HearsIn, heard_list, SeenView, slots_of, slots_after, TellsMarks, ends_with, LinesAreLocked}
use Rattle.core_laws.proofs.Cited.{NoSettle, AsksForMessages, who_hears, chip_where, at_same, LocksView, message_entry, seen_of, turned_to}
use Rattle.core_laws.proofs.Cited.{TellsKept, Spot, SpotTold, IsTold, AreNumbered, AreRooted, RootPort, MsgResult, NextMsg, IsMessageOf}
use Rattle.core_laws.proofs.Cited.{IsHeard, message_for, set_elsewhere, LockId, caller_of}
use Rattle.std.proofs.Common.{reverse}
use Rattle.std.proofs.lemmas.List.{reverse-append}
use Rattle.i2c_base.specs.declared.entry.Entry.TheVariants as entry
use Rattle.i2c_base.specs.declared.entry.Purpose.TheVariants as purpose
use Rattle.i2c_base.specs.declared.reply.Cut.TheVariants as cut_at
use Rattle.i2c_spec.specs.World.{after}
use Rattle.i2c_spec.specs.Conversation.{TalkTold, talk, world_listener}
use Rattle.bus_spec.specs.Past.{mark, sent, sent_by, lined, lined_by, moved, with_due, talk_of, cut_of}
use Rattle.bus_spec.specs.Tells.{TellsMessage}
use Rattle.bus_laws.specs.Next.{WillReach, WillSwitch}
use Rattle.bus_laws.proofs.past.Marks.{mark-there}
use Rattle.bus_laws.proofs.past.Next.{call-reaches, control-switches}
use Rattle.bus_laws.proofs.past.StandsStep.{at_other}
use Rattle.core_laws.specs.Spots.{PortTold}
use Rattle.core_laws.proofs.Steps.{spot-told, set_here, own-ahead, spots-kept, locks-settled, ports-settled}
use Rattle.bus_message.specs.Sends.{IsChipAddress, HasSent}
use Rattle.core_laws.proofs.MessageTold.{call-hears, control-hears, call-message, control-message, last-is}

-- who settles next after a step, by what is left of the walk
abbrev pub due_at : ℕ → Option Act → Option ℕ
due_at c a = cond (is_due a) (Some c) None

pub quiet_due : (c : ℕ) (w : WalkTree) → NoSettle w → due_at c (first_act w) ≡ None
quiet_due c Ends h = refl
quiet_due c (Look ask next) h = refl
quiet_due c (Then (Take l) note next) h = refl
quiet_due c (Then (Free l) note next) h = refl
quiet_due c (Then (Send job left) note next) h = refl
quiet_due c (Then (Shift job) note next) h = refl
quiet_due c (Then (Settle verdict) note next) h = absurd h

-- THE PORTS where one of them has had calls: its socket is new, the others' are as they were
pub sockets-said : (n m : Now) (sockets : List RootPort) → AreRooted sockets
    → ((k : ℕ) (y : RootPort) → slice_get sockets k ≡ Some y → PortTold n y)
    → (at : ℕ) (old new : RootPort) → slice_get sockets at ≡ Some old → new.root ≡ old.root → (w : World) (calls : List PortCall)
    → m.worlds ≡ changed_at n.worlds old.root w → m.calls ≡ changed_at n.calls old.root (calls ++ n.calls old.root)
    → new.world ≡ w → new.log ≡ old.log ++ reverse calls
    → (k : ℕ) (y : RootPort) → slice_get (set sockets at new) k ≡ Some y → PortTold m y
sockets-said n m sockets once told at old new here root w calls worlds_are calls_are world log k y is =
    elim (eqb_tells k at) [
      | inl h ↦ subst (λ (z : RootPort). PortTold m z)
          (set_here sockets at new y (subst (λ (j : ℕ). slice_get (set sockets at new) j ≡ Some y) h.1 is))
          (record {
            world = world ∙ sym (ap (λ (f : ℕ → World). f new.root) worlds_are ∙ ap (λ (r : ℕ). changed_at n.worlds old.root w r) root
                ∙ at_same n.worlds old.root w);
            log = log ∙ ap (λ (l : List PortCall). l ++ reverse calls) (told at old here).log
                ∙ sym (reverse-append calls (n.calls old.root))
                ∙ sym (ap (λ (l : List PortCall). reverse l)
                (ap (λ (f : ℕ → List PortCall). f new.root) calls_are
                ∙ ap (λ (r : ℕ). changed_at n.calls old.root (calls ++ n.calls old.root) r) root
                ∙ at_same n.calls old.root (calls ++ n.calls old.root)));
          })
      | inr h ↦ (let was : slice_get sockets k ≡ Some y = sym (set_elsewhere sockets at k new h.1) ∙ is in
          let apart : y.root ≡ old.root → ⊥ = λ same. h.1 (once k at y old was here same) in
          record {
            world = (told k y was).world ∙ sym (ap (λ (f : ℕ → World). f y.root) worlds_are ∙ at_other n.worlds old.root w y.root apart);
            log = (told k y was).log
                ∙ sym (ap (λ (l : List PortCall). reverse l) (ap (λ (f : ℕ → List PortCall). f y.root) calls_are
                ∙ at_other n.calls old.root (calls ++ n.calls old.root) y.root apart));
          })
    ]

module _ (b : BoardView) (tree : IsTree b) (plain : IsPlainBoard b) (lines : LinesAreLocked b) (asks : Asks) (some : AsksForMessages asks)
    (callers : ℕ) where
  -- marks that tell what is known of each bus of the board tell it of every bus
  module _ (past : List Entry) (steps : IsStepwise b callers asks past) (marks : List (Option ℕ)) (all : length marks ≡ buses b) where
    unmarked : (p : ℕ) → (p < buses b → ⊥) → (o : Option ℕ) → mark b asks past p ≡ o → o ≡ None
    unmarked p out None e = refl
    unmarked p out (Some m) e = absurd (out (mark-there b tree plain lines asks some callers past steps p m e))

    pub marks-told : TellsMarks (now b asks past).slot marks → (p : ℕ)
        → mark_in ((now b asks past).slot p).slot ≡ slice_index_or marks p None
    marks-told tells p = by (λ e. tells.at p e) (λ out. unmarked p (λ h. out (omega (arith, h, all))) (mark b asks past p) refl)
      where
        by : (p < length marks → mark_in ((now b asks past).slot p).slot ≡ slice_index_or marks p None)
            → ((p < length marks → ⊥) → mark_in ((now b asks past).slot p).slot ≡ None)
            → mark_in ((now b asks past).slot p).slot ≡ slice_index_or marks p None
        by within beyond =
            elim (leb_tells (length marks) p) [
              | inl h ↦ beyond (λ e. let f : length marks ≤ p = h.1 in omega (arith, e, f)) ∙ sym (get_or_past marks p None h.1)
              | inr h ↦ within h.1
            ]

  module _ (past : List Entry) (spots : List Spot) (v : LocksView) (sockets : List RootPort) (due : Option ℕ)
      (told : IsTold b callers asks past spots v sockets due) (numbered : AreNumbered callers spots) (place : ℕ) (x : Spot)
      (here : slice_get spots place ≡ Some x)
      (sees : seen (now b asks past).slot x.tree ≡ seen (slots_of (seen_of v)) x.tree) where
    open spot-told b asks callers past spots v sockets due told numbered place x here use {n, c, own, known}

    tells_here : TellsMarks n.slot v.marks
    tells_here = record { at = λ p h. told.locks_told.mark p }

    -- the lock words answer its looks
    current-is : current b asks n c ≡ seen (slots_of (seen_of v)) x.tree
    current-is = ap (seen n.slot) own.walk ∙ sees

    next-is : (act : Act) → first_act (seen (slots_of (seen_of v)) x.tree) ≡ Some act → IsNext b asks n c act
    next-is act first = ap (λ (w : WalkTree). first_act w) current-is ∙ first

    rest-is : (out : ActOutcome) (w : WalkTree) → w ≡ rest_of (seen (slots_of (seen_of v)) x.tree) out
        → rest_of (current b asks n c) out ≡ w
    rest-is out w is = ap (λ (t : WalkTree). rest_of t out) current-is ∙ sym is

    -- what all are told after an entry of its own, by what the journal tells then
    told-on : (e : Entry) → caller_of e ≡ x.number → IsStepwise b callers asks (e ∷ past) → (m : Now) → step b asks n e ≡ m
        → ((l : LockId) → n.holder l ≡ m.holder l) → (spot : Spot) → SpotTold b asks m spot → (words : SeenView)
        → length words.marks ≡ buses b → TellsMarks m.slot words.marks → TellsKept b m.slot words.kept
        → (later : Option ℕ) → m.due ≡ later → (sockets2 : List RootPort)
        → ((k : ℕ) (y : RootPort) → slice_get sockets2 k ≡ Some y → PortTold (step b asks n e) y)
        → IsTold b callers asks (e ∷ past) (set spots place spot) (turned_to v words) sockets2 later
    told-on e own_e steps m is holders spot spot_is words all marked kept later due_is sockets2 ports =
        record {
          stepwise = steps;
          rests = ap (λ (k : Now). k.due) is ∙ due_is;
          spots_told = spots-kept b callers asks n e spots numbered told.spots_told place x spot here own_e
              (subst (λ (k : Now). SpotTold b asks k spot) (sym is) spot_is);
          locks_told = record {
            roots = told.locks_told.roots;
            muxes = told.locks_told.muxes;
            holder = λ l there. told.locks_told.holder l there ∙ holders l ∙ sym (ap (λ (k : Now). k.holder l) is);
            mark = marks-told (e ∷ past) steps words.marks all (subst (λ (k : Now). TellsMarks k.slot words.marks) (sym is) marked);
            kept = subst (λ (k : Now). TellsKept b k.slot words.kept) (sym is) kept;
          };
          ports_told = ports;
        }

    -- A MESSAGE of a job was sent on the root of a socket
    module _ (none : due ≡ None) (once : AreRooted sockets) (at : ℕ) (old new : RootPort) (port_here : slice_get sockets at ≡ Some old)
        (job : Job) (left : ℕ) (first : first_act (seen (slots_of (seen_of v)) x.tree) ≡ Some (Send job left)) (next : NextMsg)
        (of : IsMessageOf job left next) (rooted : old.root ≡ root_of b (job_bus job))
        (t : TransferView) (gone : ℕ)
        (whose : (bus : ℕ) (ms : List MessageView) → job ≡ Call bus ms
        → (asks c (x.taken ++ x.owed) ≡ Some t) × (bus ≡ t.bus) × (ms ≡ messages_of t) × (gone + suc left ≡ length ms))
        (bytes : List ℕ) (msg : MsgResult)
        (to_addr : msg.addr ≡ (message_for t gone next.purpose next.control msg.addr).addr)
        (in_direction : msg.reading ≡ (message_for t gone next.purpose next.control msg.addr).reading)
        (chip : IsChipAddress b next.purpose msg.addr)
        (has : HasSent b t next.purpose (message_for t gone next.purpose next.control msg.addr)
        (ends_with next.purpose next.part next.parts) old new bytes msg.heard msg.end) where
      abbrev m : MessageView
      m = message_for t gone next.purpose next.control msg.addr

      abbrev r : ℕ
      r = root_of b (job_bus job)

      is_next : IsNext b asks n c (Send job left)
      is_next = next-is (Send job left) first

      world-is : old.world ≡ n.worlds r
      world-is = (told.ports_told at old port_here).world ∙ ap n.worlds rooted

      hears_here : IsHeard b t next.purpose m (n.worlds r) msg.heard msg.end
      hears_here = subst (λ (w : World). IsHeard b t next.purpose m w msg.heard msg.end) world-is has.hears

      -- what is sent, and who hears it
      record IsSaid : Type 0 where
        message_is : m ≡ message_of b job left
        hears : HearsIn (n.worlds r) m.addr m.reading msg.heard msg.end

      said_call : (bus : ℕ) (ms : List MessageView) → job ≡ Call bus ms → IsSaid
      said_call bus ms is =
          let owns = whose bus ms is in
          let will : WillReach b asks n c bus ms left = call-reaches b tree plain lines asks some callers past told.stepwise c bus ms left
          (subst (λ (j : Job). IsNext b asks n c (Send j left)) is is_next) in
          let same : m ≡ message_of b (Call bus ms) left = call-message b t gone bus ms left msg.addr next
          (subst (λ (j : Job). IsMessageOf j left next) is of) owns.2 owns.3 in
          let transfer_is : will.transfer ≡ t = (let f : Some will.transfer ≡ Some t = sym will.asked
          ∙ ap (λ (rs : List Reply). asks c rs) own.settled ∙ owns.0 in cc) in
          let root_is : root_of b bus ≡ r = ap (λ (j : Job). root_of b (job_bus j)) (sym is) in
          record {
            message_is = same ∙ ap (λ (j : Job). message_of b j left) (sym is);
            hears = call-hears b t m (n.worlds r) msg.heard msg.end
                (subst (λ (p : Purpose). IsHeard b t p m (n.worlds r) msg.heard msg.end) (of.for_purpose ∙ ap job_purpose is) hears_here)
                (hearers_at root_is (sym same) owns.1 transfer_is will.heard)
                (answered_at root_is (sym same) owns.1 transfer_is will.answered);
          }
        where
          hearers_at : {r k : ℕ} {x y : MessageView} {p q : ℕ} {f g : TransferView} → r ≡ k → x ≡ y → p ≡ q → f ≡ g
              → hearers (n.worlds r) x.addr x.reading ≡ heard_list (who_hears b (n.worlds r) p f.force x.addr x.reading)
              → hearers (n.worlds k) y.addr y.reading ≡ heard_list (who_hears b (n.worlds k) q g.force y.addr y.reading)
          hearers_at a c d f h = rw (sym a, sym c, sym d, sym f) h

          answered_at : {r k : ℕ} {x y : MessageView} {p q : ℕ} {f g : TransferView} → r ≡ k → x ≡ y → p ≡ q → f ≡ g
              → has_heard (answer (n.worlds r) x.addr x.reading) ≡ is_some (who_hears b (n.worlds r) p f.force x.addr x.reading)
              → has_heard (answer (n.worlds k) y.addr y.reading) ≡ is_some (who_hears b (n.worlds k) q g.force y.addr y.reading)
          answered_at a c d f h = rw (sym a, sym c, sym d, sym f) h

      said_control : (mux : ℕ) → job_purpose job ≡ purpose.Control mux → IsSaid
      said_control mux is =
          let will : WillSwitch b n job left mux =
          control-switches b tree plain lines asks some callers past told.stepwise c job left mux is is_next in
          let to : msg.addr ≡ (message_of b job left).addr = subst (λ (p : Purpose). IsChipAddress b p msg.addr) (of.for_purpose ∙ is) chip
          (message_of b job left).addr will.addressed in
          let same : m ≡ message_of b job left = control-message b t gone job left mux msg.addr
          (message_of b job left).addr next of is will.addressed to in
          record {
            message_is = same;
            hears = control-hears b t mux m (n.worlds r) msg.heard msg.end
                (subst (λ (p : Purpose). IsHeard b t p m (n.worlds r) msg.heard msg.end) (of.for_purpose ∙ is) hears_here)
                (hearers_at (sym same) will.heard)
                (answered_at (sym same) will.answered);
          }
        where
          hearers_at : {x y : MessageView} → x ≡ y → hearers (n.worlds r) x.addr x.reading ≡ heard_list (chip_where b mux)
              → hearers (n.worlds r) y.addr y.reading ≡ heard_list (chip_where b mux)
          hearers_at d h = rw (sym d) h

          answered_at : {x y : MessageView} → x ≡ y → has_heard (answer (n.worlds r) x.addr x.reading) ≡ is_some (chip_where b mux)
              → has_heard (answer (n.worlds r) y.addr y.reading) ≡ is_some (chip_where b mux)
          answered_at d h = rw (sym d) h

      is_said : IsSaid
      is_said = by job refl
        where
          by : (j : Job) → job ≡ j → IsSaid
          by (Call bus ms) is = said_call bus ms is
          by (Select h) is = said_control h.mux (ap job_purpose is)
          by (SwitchOff off) is = said_control (off_mux off) (ap job_purpose is)

      last_is : ends_with next.purpose next.part next.parts ≡ is_last job left
      last_is = last-is job left next of (λ bus ms is. (gone, (whose bus ms is).3))

      abbrev talked : TalkTold World
      talked = talk_of b n job left msg.end

      talk_is : talk world_listener (block_limit b) old.world m (ends_with next.purpose next.part next.parts) (cut_of msg.end) ≡ talked
      talk_is =
          ap (λ (w : World). talk world_listener (block_limit b) w m (ends_with next.purpose next.part next.parts)
          (cut_of msg.end)) world-is
          ∙ ap (λ (y : MessageView). talk world_listener (block_limit b) (n.worlds r) y (ends_with next.purpose next.part next.parts)
          (cut_of msg.end)) is_said.message_is
          ∙ ap (λ (l : Bool). talk world_listener (block_limit b) (n.worlds r) (message_of b job left) l (cut_of msg.end)) last_is

      tells : TellsMessage b n job left
          (record {
            caller = c;
            bus = next.bus;
            purpose = next.purpose;
            part = next.part;
            parts = next.parts;
            addr = msg.addr;
            reading = msg.reading;
            bytes = bytes;
            heard = msg.heard;
            end = msg.end;
          })
      tells =
          record {
            on_bus = of.on_bus;
            for_purpose = of.for_purpose;
            as_part = of.as_part;
            of_parts = of.of_parts;
            to_addr = to_addr ∙ ap (λ (y : MessageView). y.addr) is_said.message_is;
            in_direction = in_direction ∙ ap (λ (y : MessageView). y.reading) is_said.message_is;
            bytes_told = has.said.bytes ∙ ap (λ (k : TalkTold World). k.bytes) talk_is;
            end_told = has.said.end ∙ ap (λ (k : TalkTold World). k.end) talk_is;
            heard_told = subst (λ (a : ℕ). HearsIn (n.worlds r) a msg.reading msg.heard msg.end) (sym to_addr)
                (subst (λ (d : Bool). HearsIn (n.worlds r) m.addr d msg.heard msg.end) (sym in_direction) is_said.hears);
          }

      abbrev pub said : Entry
      said = message_entry c next bytes msg

      steps : IsStepwise b callers asks (said ∷ past)
      steps = ((known, told.rests ∙ none, (job, left, is_next, tells)), told.stepwise)

      abbrev behind : Now
      behind = with_due c (moved b asks n (sent b n c job left (first_note (current b asks n c)) msg.reading bytes msg.end talked) c said
          (Sent msg.end bytes))

      step_is : step b asks n said ≡ behind
      step_is = ap (λ (a : Option Act). with_due c
          (moved b asks n (sent_by b n c a (first_note (current b asks n c)) msg.reading bytes msg.end) c said (Sent msg.end bytes)))
          is_next

      module _ (w : WalkTree) (is : w ≡ rest_of (seen (slots_of (seen_of v)) x.tree) (Sent msg.end bytes)) (goes : is_over w ≡ false)
          (words : SeenView) (all : length words.marks ≡ buses b)
          (marked : (y : Slots) → TellsMarks y v.marks
          → TellsMarks (slots_after (Some (Send job left)) (first_note (seen (slots_of (seen_of v)) x.tree)) (Sent msg.end bytes) y)
          words.marks)
          (kept : (y : Slots) → TellsKept b y v.kept
          → TellsKept b (slots_after (Some (Send job left)) (first_note (seen (slots_of (seen_of v)) x.tree)) (Sent msg.end bytes) y)
          words.kept) where
        abbrev pub spot_behind : Spot
        spot_behind = record x { tree = w; got = got_after job msg.reading bytes x.got; cut = message_cut next.purpose next.part msg.end }

        walk_here : behind.walk c ≡ w
        walk_here = at_same n.walk c (rest_of (current b asks n c) (Sent msg.end bytes)) ∙ rest-is (Sent msg.end bytes) w is

        spot_told : SpotTold b asks behind spot_behind
        spot_told =
            record {
              walk = own-ahead b asks behind c w walk_here goes;
              settled = own.settled;
              got_is = at_same n.got c (got_after job msg.reading bytes (n.got c))
                  ∙ ap (λ (g : List ℕ). got_after job msg.reading bytes g) own.got_is;
              cut_is = at_same n.cut c (cut_told said);
            }

        marked_later : TellsMarks behind.slot words.marks
        marked_later =
            subst (λ (y : WalkTree). TellsMarks (after_job job left (first_note y).marks (Sent msg.end bytes) n.slot) words.marks)
            (sym current-is) (marked n.slot tells_here)

        kept_later : TellsKept b behind.slot words.kept
        kept_later =
            subst (λ (y : WalkTree). TellsKept b (after_job job left (first_note y).marks (Sent msg.end bytes) n.slot) words.kept)
            (sym current-is) (kept n.slot told.locks_told.kept)

        pub told-said : (later : Option ℕ) → due_at c (first_act w) ≡ later
            → IsTold b callers asks (said ∷ past) (set spots place spot_behind) (turned_to v words) (set sockets at new) later
        told-said later due_is =
            told-on said refl steps behind step_is (λ l. refl) spot_behind spot_told words all marked_later kept_later later
            (ap (λ (y : WalkTree). due_at c (first_act y)) walk_here ∙ due_is) (set sockets at new)
            (sockets-said n (step b asks n said) sockets once told.ports_told at old new port_here has.root talked.now talked.calls
            (ap (λ (k : Now). k.worlds) step_is ∙ ap (λ (k : ℕ). changed_at n.worlds k talked.now) (sym rooted))
            (ap (λ (k : Now). k.calls) step_is ∙ ap (λ (k : ℕ). changed_at n.calls k (talked.calls ++ n.calls k)) (sym rooted))
            (has.said.now ∙ ap (λ (k : TalkTold World). k.now) talk_is)
            (has.said.log ∙ ap (λ (k : TalkTold World). old.log ++ reverse k.calls) talk_is))

        -- nothing is decided by it
        pub told-message : NoSettle w → IsTold b callers asks (said ∷ past) (set spots place spot_behind) (turned_to v words)
            (set sockets at new) None
        told-message quiet = told-said None (quiet_due c w quiet)

        -- .. or its caller's settle is due
        pub told-decided : (verdict : Option Errno) → first_act w ≡ Some (Settle verdict)
            → IsTold b callers asks (said ∷ past) (set spots place spot_behind) (turned_to v words) (set sockets at new) (Some c)
        told-decided verdict settles = told-said (Some c) (ap (λ (a : Option Act). due_at c a) settles)

    -- A LINE STEP on the root of a socket
    module _ (none : due ≡ None) (once : AreRooted sockets) (at : ℕ) (old new : RootPort) (port_here : slice_get sockets at ≡ Some old)
        (job : Job) (first : first_act (seen (slots_of (seen_of v)) x.tree) ≡ Some (Shift job))
        (rooted : old.root ≡ root_of b (job_bus job)) (failed : Bool)
        (same_root : new.root ≡ old.root) (world_now : new.world ≡ after old.world (line_call job failed))
        (log_now : new.log ≡ old.log ++ line_call job failed ∷ []) where
      abbrev line_r : ℕ
      line_r = root_of b (job_bus job)

      abbrev pub shifted : Entry
      shifted = entry.Line c (line_mux job) (line_level job) failed

      line_next : IsNext b asks n c (Shift job)
      line_next = next-is (Shift job) first

      line_steps : IsStepwise b callers asks (shifted ∷ past)
      line_steps = ((known, told.rests ∙ none, (job, line_next, record { of_mux = refl; to_level = refl })), told.stepwise)

      abbrev line_behind : Now
      line_behind = with_due c (moved b asks n (lined b n job (first_note (current b asks n c)) failed) c shifted (Lined failed))

      line_step_is : step b asks n shifted ≡ line_behind
      line_step_is = ap (λ (a : Option Act). with_due c
          (moved b asks n (lined_by b n a (first_note (current b asks n c)) failed) c shifted (Lined failed))) line_next

      module _ (w : WalkTree) (is : w ≡ rest_of (seen (slots_of (seen_of v)) x.tree) (Lined failed)) (goes : is_over w ≡ false)
          (words : SeenView) (all : length words.marks ≡ buses b)
          (marked : (y : Slots) → TellsMarks y v.marks
          → TellsMarks (slots_after (Some (Shift job)) (first_note (seen (slots_of (seen_of v)) x.tree)) (Lined failed) y) words.marks)
          (kept : (y : Slots) → TellsKept b y v.kept
          → TellsKept b (slots_after (Some (Shift job)) (first_note (seen (slots_of (seen_of v)) x.tree)) (Lined failed) y)
          words.kept) where
        abbrev pub spot_shifted : Spot
        spot_shifted = record x { tree = w; cut = cut_told shifted }

        line_walk : line_behind.walk c ≡ w
        line_walk = at_same n.walk c (rest_of (current b asks n c) (Lined failed)) ∙ rest-is (Lined failed) w is

        line_spot : SpotTold b asks line_behind spot_shifted
        line_spot =
            record {
              walk = own-ahead b asks line_behind c w line_walk goes;
              settled = own.settled;
              got_is = own.got_is;
              cut_is = at_same n.cut c (cut_told shifted);
            }

        line_marked : TellsMarks line_behind.slot words.marks
        line_marked =
            subst (λ (y : WalkTree). TellsMarks (after_job job zero (first_note y).marks (Lined failed) n.slot) words.marks)
            (sym current-is) (marked n.slot tells_here)

        line_kept : TellsKept b line_behind.slot words.kept
        line_kept =
            subst (λ (y : WalkTree). TellsKept b (after_job job zero (first_note y).marks (Lined failed) n.slot) words.kept)
            (sym current-is) (kept n.slot told.locks_told.kept)

        pub told-shifted : (later : Option ℕ) → due_at c (first_act w) ≡ later
            → IsTold b callers asks (shifted ∷ past) (set spots place spot_shifted) (turned_to v words) (set sockets at new) later
        told-shifted later due_is =
            let w_is : after old.world (line_call job failed) ≡ after (n.worlds line_r) (line_call job failed) =
            ap (λ (y : World). after y (line_call job failed)) ((told.ports_told at old port_here).world ∙ ap n.worlds rooted) in
            told-on shifted refl line_steps line_behind line_step_is (λ l. refl) spot_shifted line_spot words all line_marked line_kept
            later (ap (λ (y : WalkTree). due_at c (first_act y)) line_walk ∙ due_is) (set sockets at new)
            (sockets-said n (step b asks n shifted) sockets once told.ports_told at old new port_here same_root
            (after (n.worlds line_r) (line_call job failed)) (line_call job failed ∷ [])
            (ap (λ (k : Now). k.worlds) line_step_is
            ∙ ap (λ (k : ℕ). changed_at n.worlds k (after (n.worlds line_r) (line_call job failed))) (sym rooted))
            (ap (λ (k : Now). k.calls) line_step_is
            ∙ ap (λ (k : ℕ). changed_at n.calls k (line_call job failed ∷ n.calls k)) (sym rooted)) (world_now ∙ w_is) log_now)

        pub told-line : NoSettle w → IsTold b callers asks (shifted ∷ past) (set spots place spot_shifted) (turned_to v words)
            (set sockets at new) None
        told-line quiet = told-shifted None (quiet_due c w quiet)

        pub told-line-decided : (verdict : Option Errno) → first_act w ≡ Some (Settle verdict)
            → IsTold b callers asks (shifted ∷ past) (set spots place spot_shifted) (turned_to v words) (set sockets at new) (Some c)
        told-line-decided verdict settles = told-shifted (Some c) (ap (λ (a : Option Act). due_at c a) settles)

    -- THE SETTLE that the step before decides: the caller isn't told yet
    module _ (waits : due ≡ Some c) (verdict : Option Errno)
        (first : first_act (seen (slots_of (seen_of v)) x.tree) ≡ Some (Settle verdict)) (unpaid : x.owed ≡ []) (t : TransferView)
        (asked : asks c x.taken ≡ Some t)
        (reply : Reply) (decided : reply ≡ reply_by verdict (Some t) x.got) (w : WalkTree)
        (is : w ≡ rest_of (seen (slots_of (seen_of v)) x.tree) Passed) (goes : is_over w ≡ false) where
      abbrev pub settled : Entry
      settled = entry.Settle c reply x.cut

      abbrev pub spot_settled : Spot
      spot_settled = record x { tree = w; owed = reply ∷ []; got = []; cut = cut_at.No }

      was_settled : n.settled c ≡ x.taken
      was_settled = own.settled ∙ ap (λ (rs : List Reply). x.taken ++ rs) unpaid ∙ append-nil x.taken

      reply_is : reply ≡ reply_by verdict (asks c (n.settled c)) (n.got c)
      reply_is =
          decided ∙ ap (λ (o : Option TransferView). reply_by verdict o x.got)
          (sym (ap (λ (rs : List Reply). asks c rs) was_settled ∙ asked))
          ∙ ap (λ (g : List ℕ). reply_by verdict (asks c (n.settled c)) g) (sym own.got_is)

      pub told-settle : IsTold b callers asks (settled ∷ past) (set spots place spot_settled) v sockets None
      told-settle =
          record {
            stepwise = (
              (known, inr (told.rests ∙ waits), verdict, next-is (Settle verdict) first, reply_is, sym own.cut_is),
              told.stepwise,
            );
            rests = refl;
            spots_told = spots-kept b callers asks n settled spots numbered told.spots_told place x spot_settled here refl
                (record {
                  walk = own-ahead b asks (step b asks n settled) c w (at_same n.walk c (rest_of (current b asks n c) Passed)
                      ∙ rest-is Passed w is) goes;
                  settled = at_same n.settled c (n.settled c ++ reply ∷ []) ∙ ap (λ (rs : List Reply). rs ++ reply ∷ []) was_settled;
                  got_is = at_same n.got c [];
                  cut_is = at_same n.cut c (cut_told settled);
                });
            locks_told = locks-settled b asks n v c reply x.cut told.locks_told;
            ports_told = λ k y is_at. ports-settled b asks n c reply x.cut y (told.ports_told k y is_at);
          }
