-- What a message on one port shows of its transfer, and of a list of ports. No induction.
use Rattle.bus_message.proofs.Cited.{◌≡◌, ◌<◌, ◌≤◌, ◌+◌, ℕ, Bool, true, false, List, [], length, get_or, Option, Some, None, refl, sym, ◌∙◌}
use Rattle.bus_message.proofs.Cited.{ap, subst, arith, take, drop, sum_by, End, Purpose, Msg, count_of, TransferView, written_of}
use Rattle.bus_message.proofs.Cited.{block_limit, world_listener, talk, addr_of_mux, cut_of, MessageView, message_with, bytes_most}
use Rattle.bus_message.proofs.Cited.{root_port, call_message, control_message, device_of, message_for, TellsTalk}
use Rattle.std.specs.Prelude.{slice_get, MatchBool, if◌then◌else◌}
use Rattle.std.proofs.lemmas.List.{length-map}
use Rattle.std.proofs.lemmas.Option.{slice_get-map, slice_get-get_or, slice_get_within}
use Rattle.std.specs.Option.{option_map}
use Rattle.i2c_base.specs.declared.ids.Node.{Node}
use Rattle.i2c_base.specs.declared.ids.Node.TheVariants as node
use Rattle.i2c_base.specs.declared.entry.End.TheVariants as end
use Rattle.i2c_base.specs.declared.entry.Purpose.TheVariants as purpose
use Rattle.i2c_base.specs.declared.tree.Grant.{Grant}
use Rattle.i2c_base.specs.Board.{BoardView}
use Rattle.i2c_base.specs.Transfer.{is_read}
use Rattle.ports.specs.declared.port.Port.{Ghosts as PortGhosts}
use Rattle.i2c_spec.specs.Grant.{grant_of}
use Rattle.mux_plan.specs.Plans.{ends_with, is_call_through}
use Rattle.mux_plan.specs.declared.task.NextMsg.{NextMsg}
use Rattle.bus_message.specs.Ports.{RootPort, Spoke, MessageSent, root_ports}
use Rattle.bus_message.specs.Sends.{IsChipAddress, IsHeard, NextSent, hearer_of, wire_message}
use Rattle.bus_message.specs.Talks.{Gives}
use Rattle.bus_message.specs.declared.message.MsgResult.{MsgResult}
use Rattle.bus_message.proofs.PartwayLemmas.{nth_is}

-- THE NEXT MESSAGE was sent, by what any message over a port leaves
module _ (b : BoardView) (tells : Bool) (t : TransferView) (sent : ℕ) (next : NextMsg) (old new : RootPort) (bytes : List ℕ)
    (r : MsgResult) where
  abbrev last : Bool
  last = ends_with next.purpose next.part next.parts

  pub next-sent : (m : MessageView) (hearer : Option Node) → m ≡ wire_message t sent next m.addr
      → hearer ≡ hearer_of next.purpose (grant_of b t.bus m.addr t.force)
      → IsChipAddress b next.purpose m.addr → MessageSent tells (block_limit b) m hearer last old new bytes r
      → NextSent b tells t sent next old new bytes r
  next-sent m hearer is named chip has =
      let wire : m ≡ wire_message t sent next r.addr = is ∙ ap (wire_message t sent next) (sym has.addr) in
      record {
        addr = has.addr ∙ ap (λ (x : MessageView). x.addr) wire;
        reading = has.reading ∙ ap (λ (x : MessageView). x.reading) wire;
        chip = subst (λ (a : ℕ). IsChipAddress b next.purpose a) (sym has.addr) chip;
        spoke = subst (λ (x : MessageView). Spoke tells last (bytes_most (block_limit b) x) bytes r.end old new) wire has.spoke;
        gives = λ good reads. subst (λ (x : MessageView). Gives (block_limit b) x bytes) wire
            (has.moved.read good (sym has.reading ∙ reads));
        has = λ tell. record {
          root = has.spoke.root;
          said = subst (λ (x : MessageView). TellsTalk
              (talk world_listener (block_limit b) old.world x last (cut_of r.end)) bytes r.end new.world old.log new.log) wire
              (has.told tell);
          hears = subst (λ (x : MessageView). IsHeard b t next.purpose x old.world r.heard r.end) wire
              (record {
                acked = has.acked;
                named = has.named ∙ ap (λ (o : Option Node). if has.acked then o else None) named;
                failed = has.failed;
                answered = has.answered tell;
              });
        };
      }

  -- .. a control message to the chip of a mux
  pub control-sent : (mux addr limit : ℕ) (byte : Option ℕ) → next.purpose ≡ purpose.Control mux → next.control ≡ byte
      → ((a : ℕ) → addr_of_mux b mux ≡ Some a → addr ≡ a) → limit ≡ block_limit b
      → MessageSent tells limit (control_message addr byte) (Some (node.Chip mux)) true old new bytes r
      → NextSent b tells t sent next old new bytes r
  control-sent mux addr limit byte why writes lies is has =
      let m : MessageView = control_message addr byte in
      let wire : (a : ℕ) → control_message a byte ≡ wire_message t sent next a = λ a. sym
      (ap (λ (p : Purpose). message_for t sent p next.control a) why ∙ ap (control_message a) writes) in
      let at : m.addr ≡ addr = to byte in
      next-sent m (Some (node.Chip mux)) (wire addr ∙ ap (wire_message t sent next) (sym at))
      (sym (ap (λ (p : Purpose). hearer_of p (grant_of b t.bus m.addr t.force)) why))
      (subst (λ (p : Purpose). IsChipAddress b p m.addr) (sym why) (λ a there. at ∙ lies a there))
      (subst (λ (l : Bool). MessageSent tells (block_limit b) m (Some (node.Chip mux)) l old new bytes r)
      (sym (ap (λ (p : Purpose). ends_with p next.part next.parts) why))
      (subst (λ (n : ℕ). MessageSent tells n m (Some (node.Chip mux)) true old new bytes r) is has))
    where
      to : (o : Option ℕ) → (control_message addr o).addr ≡ addr
      to (Some x) = refl
      to None = refl

  -- .. the next message of the caller's transfer
  pub call-sent : (g : Grant) (limit : ℕ) (m : MessageView) (hearer : Option Node) (ends : Bool) → next.purpose ≡ purpose.Call
      → m ≡ call_message t sent
      → g ≡ grant_of b t.bus (call_message t sent).addr t.force → hearer ≡ device_of g → limit ≡ block_limit b → ends ≡ last
      → MessageSent tells limit m hearer ends old new bytes r → NextSent b tells t sent next old new bytes r
  call-sent g limit m hearer ends why same grants named is done has =
      let own : MessageView = call_message t sent in
      next-sent own hearer (sym (ap (λ (p : Purpose). message_for t sent p next.control own.addr) why))
      (named ∙ ap device_of grants ∙ sym (ap (λ (p : Purpose). hearer_of p (grant_of b t.bus own.addr t.force)) why))
      (subst (λ (p : Purpose). IsChipAddress b p own.addr) (sym why) tt)
      (subst (λ (l : Bool). MessageSent tells (block_limit b) own hearer l old new bytes r) done
      (subst (λ (n : ℕ). MessageSent tells n own hearer ends old new bytes r) is
      (subst (λ (x : MessageView). MessageSent tells limit x hearer ends old new bytes r) same has)))

-- the port at a place, which was read there
module _ {P : Type 0} (p : PortGhosts P) (xs : List (ℕ × P)) (at : ℕ) (old : ℕ × P) (read : old ≡ get_or xs at old) where
  pub socket-here : (x : RootPort) → slice_get (root_ports p xs) at ≡ Some x → slice_get (root_ports p xs) at ≡ Some (root_port p old)
  socket-here x is =
      let low : at < length (root_ports p xs) = slice_get_within (root_ports p xs) at x is in
      let same : length (root_ports p xs) ≡ length xs = length-map xs (root_port p) in
      slice_get-map (root_port p) xs at
      ∙ ap (option_map (root_port p)) (slice_get-get_or xs at old (omega (arith, low, same)) ∙ ap Some (sym read))

  pub socket-is : (x : RootPort) → slice_get (root_ports p xs) at ≡ Some x → x ≡ root_port p old
  socket-is x is = let f : Some x ≡ Some (root_port p old) = sym is ∙ socket-here x is in cc

-- what a read gives within the limit, it gives within a larger one
gives_more : (m : MessageView) (limit more : ℕ) (bytes : List ℕ) → limit ≤ more → Gives limit m bytes → Gives more m bytes
gives_more m limit more bytes low g = by m.counted g
  where
    by : (c : Bool) → MatchBool c ((1 ≤ count_of bytes) × (count_of bytes ≤ limit) × (length bytes ≡ m.len + count_of bytes))
        (length bytes ≡ m.len)
        → MatchBool c ((1 ≤ count_of bytes) × (count_of bytes ≤ more) × (length bytes ≡ m.len + count_of bytes)) (length bytes ≡ m.len)
    by true h = (h.0, (let within : count_of bytes ≤ limit = h.1 in omega (arith, low, within)), h.2)
    by false h = h

module _ (t : TransferView) (sent : ℕ) (m : Msg) (is : slice_get t.msgs sent ≡ Some m) where
  abbrev message : MessageView
  message = message_with m (take (written_of m) (drop (sum_by written_of (take sent t.msgs)) t.out))

  message_is : call_message t sent ≡ message
  message_is =
      let low : sent < length t.msgs = slice_get_within t.msgs sent m is in
      let own : get_or t.msgs sent m ≡ m = (let f : Some (get_or t.msgs sent m) ≡ Some m = sym (slice_get-get_or t.msgs sent m low) ∙ is in
      cc) in
      nth_is t.msgs t.out sent m low
      ∙ ap (λ (x : Msg). message_with x (take (written_of x) (drop (sum_by written_of (take sent t.msgs)) t.out))) own

  pub gave-read : (limit more : ℕ) (bytes : List ℕ) → limit ≤ more
      → ((call_message t sent).reading ≡ true → Gives limit (call_message t sent) bytes) → is_read m ≡ true
      → Gives more (message_with m []) bytes
  gave-read limit more bytes low gives reads =
      gives_more message limit more bytes low
      (subst (λ (x : MessageView). Gives limit x bytes) message_is (gives (ap (λ (x : MessageView). x.reading) message_is ∙ reads)))

-- a message of the caller's own that went through
pub call-through : (why : Purpose) (e : End) → is_call_through why e ≡ true → (why ≡ purpose.Call) × (e ≡ end.Ok)
call-through purpose.Call end.Ok h = (refl, refl)
call-through purpose.Call end.Nack h = absurd (let f : false ≡ true = h in cc)
call-through purpose.Call end.Slow h = absurd (let f : false ≡ true = h in cc)
call-through purpose.Call end.Refused h = absurd (let f : false ≡ true = h in cc)
call-through purpose.Call end.Proto h = absurd (let f : false ≡ true = h in cc)
call-through purpose.Call (end.Cut q) h = absurd (let f : false ≡ true = h in cc)
call-through (purpose.Control m) e h = absurd (let f : false ≡ true = h in cc)
