-- Whom each message of a walk reaches: the device that its bus and address grant, its mux chip, or nobody. No induction.
use Rattle.bus_laws.proofs.Cited.{◌≡◌, ℕ, zero, suc, Bool, true, false, cond, not, List, [], ◌∷◌, ◌++◌, Option, Some, None, refl, sym, ◌∙◌}
use Rattle.bus_laws.proofs.Cited.{ap, subst, ◌⊎◌, inl, inr, slice_get, MuxKind, End, Purpose, LockId, Node, Grant, BoardView, TransferView}
use Rattle.bus_laws.proofs.Cited.{Hop, hops, root_of, home_of_mux, addr_of_mux, is_absent, IsAmongHops, IsTree, IsHop, IsPlainBoard}
use Rattle.bus_laws.proofs.Cited.{grant_of, named_of, TargetState, MessageView, World, start_devices, has_heard, heard_of, hearers}
use Rattle.bus_laws.proofs.Cited.{answer_of, granted_on, Mark, Job, Call, Select, SwitchOff, off_bus, off_mux, off_kind, job_bus}
use Rattle.bus_laws.proofs.Cited.{job_purpose, message_of, chip_address, is_gpio, Slots, MessageEntry, heard_list, starts, by_purpose}
use Rattle.bus_laws.proofs.Cited.{IsOpenOn, IsMuxOf, MaySend, WorldTold, listening, LeadsTo, IsControl}
use Rattle.i2c_base.specs.declared.event.Event.TheVariants as event
use Rattle.i2c_base.specs.declared.entry.End.TheVariants as end
use Rattle.i2c_base.specs.declared.entry.Purpose.TheVariants as purpose
use Rattle.i2c_base.specs.declared.ids.Node.TheVariants as node
use Rattle.i2c_base.specs.declared.tree.Grant.TheVariants as grant
use Rattle.bus_spec.specs.Tells.{HearsIn}
use Rattle.bus_spec.specs.Legal.{start_failed, IsHeardBy, IsHeardByChip}
use Rattle.bus_laws.proofs.world.Reach.{world_of}
use Rattle.bus_laws.proofs.world.Hears.{control_hearers}
use Rattle.bus_laws.proofs.world.Law.{world-is, along_here, joined_here}
use Rattle.bus_laws.proofs.world.Sends.{call_not_busy}
use Rattle.bus_laws.proofs.world.BoardFacts.{mux_at, get_same_length, has_address_of, has_chip-is}
use Rattle.bus_laws.proofs.device.Grant.{granted-leads}
use Rattle.bus_laws.proofs.device.Stay.{chip-control}
use Rattle.bus_laws.proofs.device.Leads.{answer_at, devices_heard}

-- WHO HEARS, where an address leads to one device
module _ (w : World) (a : ℕ) (granted : Option ℕ) (leads : LeadsTo w a granted) (reading : Bool) where
  pub leads-hearers : hearers w a reading ≡ listening (cond (has_heard (answer_of w.devices granted (event.Start reading))) granted None)
  leads-hearers = ap (λ (xs : List Node). xs ++ heard_of node.Device (start_devices w a reading)) (leads.chips reading)
      ∙ devices_heard w a granted leads reading granted refl

-- WHAT AN ENTRY TELLS of who has heard
told_hearers : (w : World) (addr : ℕ) (reading : Bool) (heard : Option Node) (e : End) → start_failed e ≡ false
    → HearsIn w addr reading heard e
    → hearers w addr reading ≡ heard_list heard
told_hearers w addr reading heard end.Ok f h = h
told_hearers w addr reading heard end.Nack f h = h
told_hearers w addr reading heard end.Slow f h = h
told_hearers w addr reading heard end.Refused f h = h
told_hearers w addr reading heard end.Proto f h = h
told_hearers w addr reading heard (end.Cut zero) f h = absurd (let g : true ≡ false = f in cc)
told_hearers w addr reading heard (end.Cut (suc q)) f h = h

told_nobody : (w : World) (addr : ℕ) (reading : Bool) (heard : Option Node) (e : End) → start_failed e ≡ true
    → HearsIn w addr reading heard e → heard ≡ None
told_nobody w addr reading heard end.Ok f h = absurd (let g : false ≡ true = f in cc)
told_nobody w addr reading heard end.Nack f h = absurd (let g : false ≡ true = f in cc)
told_nobody w addr reading heard end.Slow f h = absurd (let g : false ≡ true = f in cc)
told_nobody w addr reading heard end.Refused f h = absurd (let g : false ≡ true = f in cc)
told_nobody w addr reading heard end.Proto f h = absurd (let g : false ≡ true = f in cc)
told_nobody w addr reading heard (end.Cut zero) f h = h
told_nobody w addr reading heard (end.Cut (suc q)) f h = absurd (let g : false ≡ true = f in cc)

-- somebody has heard only where the start didn't fail
not_failed : (w : World) (addr : ℕ) (reading : Bool) (heard : Option Node) (e : End) (x : Node) → HearsIn w addr reading heard e
    → heard ≡ Some x → (t : Bool) → start_failed e ≡ t → t ≡ false
not_failed w addr reading heard e x h at false f = refl
not_failed w addr reading heard e x h at true f = absurd (let g : None ≡ Some x = sym (told_nobody w addr reading heard e f h) ∙ at in cc)

list_one : (heard : Option Node) (x : Node) → heard_list heard ≡ x ∷ [] → heard ≡ Some x
list_one None x e = absurd (let f : [] ≡ x ∷ [] = e in cc)
list_one (Some y) x e = (let f : y ∷ [] ≡ x ∷ [] = e in let g : y ≡ x = cc in ap Some g)

list_none : (heard : Option Node) → heard_list heard ≡ [] → heard ≡ None
list_none None e = refl
list_none (Some y) e = absurd (let f : y ∷ [] ≡ [] = e in cc)

listens_to : (h : Bool) (o : Option ℕ) (x : Node) → listening (cond h o None) ≡ x ∷ []
    → (d : ℕ) × (x ≡ node.Device d) × (o ≡ Some d) × (h ≡ true)
listens_to true None x e = absurd (let f : [] ≡ x ∷ [] = e in cc)
listens_to true (Some d) x e = (d, (let f : node.Device d ∷ [] ≡ x ∷ [] = e in let g : node.Device d ≡ x = cc in sym g), refl, refl)
listens_to false o x e = absurd (let f : [] ≡ x ∷ [] = e in cc)

named_is : (g : Grant) (d : ℕ) → named_of g ≡ Some d → g ≡ grant.Named d
named_is (grant.Named k) d e = (let f : Some k ≡ Some d = e in let g : k ≡ d = cc in ap grant.Named g)
named_is grant.Nobody d e = absurd (let f : None ≡ Some d = e in cc)
named_is grant.Busy d e = absurd (let f : None ≡ Some d = e in cc)

starts-is : (o : Option TargetState) (reading : Bool) → starts o reading ≡ has_heard (answer_at o (event.Start reading))
starts-is None reading = refl
starts-is (Some x) reading = refl

-- a caller's message
pub heard-by : (b : BoardView) (w : World) (force : Bool) (m : MessageEntry) → (grant_of b m.bus m.addr force ≡ grant.Busy → ⊥)
    → LeadsTo w m.addr (granted_on b m.bus force m.addr) → HearsIn w m.addr m.reading m.heard m.end → IsHeardBy b w force m
heard-by b w force m free leads told =
    record {
      not_busy = free;
      only = λ x at. (
          let failed : start_failed m.end ≡ false = not_failed w m.addr m.reading m.heard m.end x told at (start_failed m.end) refl in
          let one : listening (cond (has_heard (answer_of w.devices (granted_on b m.bus force m.addr) (event.Start m.reading)))
          (granted_on b m.bus force m.addr) None) ≡ x ∷ [] =
          sym (leads-hearers w m.addr (granted_on b m.bus force m.addr) leads m.reading)
          ∙ told_hearers w m.addr m.reading m.heard m.end failed told ∙ ap heard_list at in
          let r = listens_to (has_heard (answer_of w.devices (granted_on b m.bus force m.addr) (event.Start m.reading)))
          (granted_on b m.bus force m.addr) x one in (
            r.0,
            r.1,
            named_is (grant_of b m.bus m.addr force) r.0 r.2,
            starts-is (slice_get w.devices r.0) m.reading
                ∙ sym (ap (λ (o : Option ℕ). has_heard (answer_of w.devices o (event.Start m.reading))) r.2) ∙ r.3,
          ));
      always = λ d named starting not_failed_start. (
          let granted : granted_on b m.bus force m.addr ≡ Some d = ap (λ (g : Grant). named_of g) named in
          let hears_it : has_heard (answer_of w.devices (granted_on b m.bus force m.addr) (event.Start m.reading)) ≡ true =
          ap (λ (o : Option ℕ). has_heard (answer_of w.devices o (event.Start m.reading))) granted
          ∙ sym (starts-is (slice_get w.devices d) m.reading) ∙ starting in
          list_one m.heard (node.Device d)
          (sym (told_hearers w m.addr m.reading m.heard m.end not_failed_start told)
          ∙ leads-hearers w m.addr (granted_on b m.bus force m.addr) leads m.reading
          ∙ ap (λ (h : Bool). listening (cond h (granted_on b m.bus force m.addr) None)) hears_it
          ∙ ap (λ (o : Option ℕ). listening o) granted));
    }

-- a control message
pub heard-by-chip : (b : BoardView) (w : World) (k : ℕ) (m : MessageEntry) → m.bus ≡ home_of_mux b k → addr_of_mux b k ≡ Some m.addr
    → hearers w m.addr m.reading ≡ cond (not (is_absent b k)) (node.Chip k ∷ []) [] → HearsIn w m.addr m.reading m.heard m.end
    → IsHeardByChip b k m
heard-by-chip b w k m home at hearing told =
    record {
      at_home = home;
      at_address = at;
      only = λ x somebody. (
          let failed : start_failed m.end ≡ false = not_failed w m.addr m.reading m.heard m.end x told somebody (start_failed m.end) refl in
          the_chip (is_absent b k) x (sym hearing ∙ told_hearers w m.addr m.reading m.heard m.end failed told ∙ ap heard_list somebody));
      absent = λ gone. is_gone gone (start_failed m.end) refl;
      present = λ nobody. there nobody (is_absent b k) refl (start_failed m.end) refl;
    }
  where
    the_chip : (t : Bool) (x : Node) → cond (not t) (node.Chip k ∷ []) [] ≡ x ∷ [] → x ≡ node.Chip k
    the_chip true x one = absurd (let f : [] ≡ x ∷ [] = one in cc)
    the_chip false x one = (let f : node.Chip k ∷ [] ≡ x ∷ [] = one in let g : node.Chip k ≡ x = cc in sym g)

    is_gone : is_absent b k ≡ true → (t : Bool) → start_failed m.end ≡ t → m.heard ≡ None
    is_gone gone true f = told_nobody w m.addr m.reading m.heard m.end f told
    is_gone gone false f =
        list_none m.heard (sym (told_hearers w m.addr m.reading m.heard m.end f told) ∙ hearing
        ∙ ap (λ (t : Bool). cond (not t) (node.Chip k ∷ []) []) gone)

    there : m.heard ≡ None → (t : Bool) → is_absent b k ≡ t → (f : Bool) → start_failed m.end ≡ f
        → (is_absent b k ≡ true) ⊎ (start_failed m.end ≡ true)
    there nobody true gone f ef = inl gone
    there nobody false here true ef = inr ef
    there nobody false here false ef =
        absurd (let g : node.Chip k ∷ [] ≡ [] =
        sym (hearing ∙ ap (λ (t : Bool). cond (not t) (node.Chip k ∷ []) []) here) ∙ told_hearers w m.addr m.reading m.heard m.end ef told
        ∙ ap heard_list nobody in cc)

-- THE JOBS OF A WALK, where what is known of the buses is so in the worlds
module _ (b : BoardView) (tree : IsTree b) (plain : IsPlainBoard b) (v : Slots) (ws : ℕ → World) (world : WorldTold b v ws) where
  -- an address of a caller's message leads to what its bus grants
  pub call-leads : (whose : TransferView) (bus : ℕ) (ms : List MessageView) (left : ℕ) (marks : List Mark) (held : List LockId)
      → MaySend b whose (Call bus ms) left marks held v
      → LeadsTo (ws (root_of b bus)) (message_of b (Call bus ms) left).addr
      (granted_on b bus whose.force (message_of b (Call bus ms) left).addr)
  call-leads whose bus ms left marks held may =
      subst (λ (u : World). LeadsTo u (message_of b (Call bus ms) left).addr
      (granted_on b bus whose.force (message_of b (Call bus ms) left).addr))
      (sym (world-is b tree plain v ws world bus (λ g a. (may.reached g a).0)))
      (granted-leads b (world_of b (root_of b bus) (ws (root_of b bus)).chips (ws (root_of b bus)).devices (ws (root_of b bus)).hearing
      (ws (root_of b bus)).busy) bus (message_of b (Call bus ms) left).addr whose.force refl tree
      (along_here b tree plain v ws world bus (λ g a. (may.reached g a).0))
      (joined_here b tree plain v ws world bus (λ g a. (may.reached g a).0))
      (call_not_busy b whose bus ms left may.granted))

  module _ (m on : ℕ) (kind : MuxKind) (known : IsMuxOf b m kind) (line : is_gpio kind ≡ false) (home : home_of_mux b m ≡ on)
      (reached : (g : Hop) → IsAmongHops g (hops b on) → IsOpenOn b g (v g.on)) where
    -- a control message goes to its chip, and to no device
    pub control-leads : IsControl (ws (root_of b on)) (chip_address b m)
    control-leads =
        subst (λ (u : World). IsControl u (chip_address b m)) (sym (world-is b tree plain v ws world on reached))
        (chip-control b (world_of b (root_of b on) (ws (root_of b on)).chips (ws (root_of b on)).devices (ws (root_of b on)).hearing
        (ws (root_of b on)).busy) on m (chip_address b m) refl tree (along_here b tree plain v ws world on reached)
        (has_address_of b plain m kind known line) home)

    control_hears : (reading : Bool)
        → hearers (ws (root_of b on)) (chip_address b m) reading ≡ cond (not (is_absent b m)) (node.Chip m ∷ []) []
    control_hears reading =
        let s = mux_at b m kind known in
        let x = get_same_length (ws (root_of b on)).chips b.muxes m s.0 (world.count (root_of b on)) s.1 in
        ap (λ (u : World). hearers u (chip_address b m) reading) (world-is b tree plain v ws world on reached)
        ∙ control_hearers b tree (root_of b on) on (ws (root_of b on)).chips (ws (root_of b on)).devices (ws (root_of b on)).hearing
        (ws (root_of b on)).busy
        (along_here b tree plain v ws world on reached) m (chip_address b m) reading x.0 (has_address_of b plain m kind known line) home
        (joined_here b tree plain v ws world on reached) x.1
        ∙ ap (λ (t : Bool). cond t (node.Chip m ∷ []) []) (has_chip-is b m (chip_address b m) (has_address_of b plain m kind known line))

    control_heard : (x : MessageEntry) → x.bus ≡ on → x.addr ≡ chip_address b m → HearsIn (ws (root_of b on)) x.addr x.reading x.heard x.end
        → IsHeardByChip b m x
    control_heard x at addr told =
        heard-by-chip b (ws (root_of b on)) m x (at ∙ sym home) (has_address_of b plain m kind known line ∙ ap Some (sym addr))
        (ap (λ (a : ℕ). hearers (ws (root_of b on)) a x.reading) addr ∙ control_hears x.reading) told

  select_addr : (h : Hop) (left : ℕ) → (message_of b (Select h) left).addr ≡ chip_address b h.mux
  select_addr h zero = refl
  select_addr h (suc n) = refl

  -- a control message has the address of its mux, whose chip alone hears it, where it is there
  control_both : (m on : ℕ) (kind : MuxKind) → IsMuxOf b m kind → is_gpio kind ≡ false → home_of_mux b m ≡ on
      → ((g : Hop) → IsAmongHops g (hops b on) → IsOpenOn b g (v g.on)) → (reading : Bool) (k a : ℕ) → m ≡ k → a ≡ chip_address b m
      → (addr_of_mux b k ≡ Some a) × (hearers (ws (root_of b on)) a reading ≡ cond (not (is_absent b k)) (node.Chip k ∷ []) [])
  control_both m on kind known line home reached reading k a same addr =
      subst (λ (i : ℕ). (addr_of_mux b i ≡ Some a)
      × (hearers (ws (root_of b on)) a reading ≡ cond (not (is_absent b i)) (node.Chip i ∷ []) [])) same
      (subst (λ (x : ℕ). (addr_of_mux b m ≡ Some x)
      × (hearers (ws (root_of b on)) x reading ≡ cond (not (is_absent b m)) (node.Chip m ∷ []) [])) (sym addr)
      (has_address_of b plain m kind known line, control_hears m on kind known line home reached reading))

  pub control-reaches : (whose : TransferView) (job : Job) (left : ℕ) (marks : List Mark) (held : List LockId)
      → MaySend b whose job left marks held v → (m : ℕ) → job_purpose job ≡ purpose.Control m
      → (addr_of_mux b m ≡ Some (message_of b job left).addr)
      × (hearers (ws (root_of b (job_bus job))) (message_of b job left).addr (message_of b job left).reading ≡ cond (not (is_absent b m))
      (node.Chip m ∷ []) [])
  control-reaches whose (Call bus ms) left marks held may m is = absurd (let f : purpose.Call ≡ purpose.Control m = is in cc)
  control-reaches whose (Select h) left marks held may m is =
      let hop : IsHop b h = tree.hop h.bus h may.finds.1 in
      control_both h.mux h.on h.kind hop.kind may.by_message hop.home (λ g a. (may.reached g a).0) (message_of b (Select h) left).reading m
      (message_of b (Select h) left).addr
      (let f : purpose.Control h.mux ≡ purpose.Control m = is in cc) (select_addr h left)
  control-reaches whose (SwitchOff off) left marks held may m is =
      control_both (off_mux off) (off_bus off) (off_kind off) may.finds.2 may.by_message may.finds.1 (λ g a. (may.reached g a).0)
      (message_of b (SwitchOff off) left).reading m (chip_address b (off_mux off))
      (let f : purpose.Control (off_mux off) ≡ purpose.Control m = is in cc) refl

  -- each message reaches whom it is for, or nobody
  pub send-reaches : (whose : TransferView) (job : Job) (left : ℕ) (marks : List Mark) (held : List LockId)
      → MaySend b whose job left marks held v
      → (x : MessageEntry) → x.bus ≡ job_bus job → x.addr ≡ (message_of b job left).addr → x.purpose ≡ job_purpose job
      → HearsIn (ws (root_of b (job_bus job))) x.addr x.reading x.heard x.end
      → by_purpose b (ws (root_of b (job_bus job))) whose.force x x.purpose
  send-reaches whose (Call bus ms) left marks held may x at addr why told =
      subst (λ (p : Purpose). by_purpose b (ws (root_of b bus)) whose.force x p) (sym why)
      (heard-by b (ws (root_of b bus)) whose.force x
      (λ busy. call_not_busy b whose bus ms left may.granted
      (ap (λ (a : ℕ). grant_of b bus a whose.force) (sym addr) ∙ ap (λ (s : ℕ). grant_of b s x.addr whose.force) (sym at) ∙ busy))
      (subst (λ (s : ℕ). LeadsTo (ws (root_of b bus)) x.addr (granted_on b s whose.force x.addr)) (sym at)
      (subst (λ (a : ℕ). LeadsTo (ws (root_of b bus)) a (granted_on b bus whose.force a)) (sym addr)
      (call-leads whose bus ms left marks held may)))
      told)
  send-reaches whose (Select h) left marks held may x at addr why told =
      let hop : IsHop b h = tree.hop h.bus h may.finds.1 in
      subst (λ (p : Purpose). by_purpose b (ws (root_of b h.on)) whose.force x p) (sym why)
      (control_heard h.mux h.on h.kind hop.kind may.by_message hop.home (λ g a. (may.reached g a).0) x at (addr ∙ select_addr h left) told)
  send-reaches whose (SwitchOff off) left marks held may x at addr why told =
      subst (λ (p : Purpose). by_purpose b (ws (root_of b (off_bus off))) whose.force x p) (sym why)
      (control_heard (off_mux off) (off_bus off) (off_kind off) may.finds.2 may.by_message may.finds.1
      (λ g a. (may.reached g a).0) x at addr told)
